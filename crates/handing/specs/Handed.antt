-- A message that is handed, in the parts of the record and in the output.
use Rattle.std.specs.Prelude.{ℕ, ◌≡◌, ◌+◌, ◌*◌, List, length, max, get_or}
use Rattle.numbers.specs.Buffer.{over}
use Rattle.frame.specs.Message.{Message}
use Rattle.rules.specs.Sizes.{log_record_length}
use Rattle.rules.specs.Handing.{raise, shortened, missed, log_record}
use Rattle.lent.specs.Record.{Known}
use Rattle.handing.specs.declared.Log.{Log}

-- with these marks and barrier, high and floor; nothing else is touched as a message is handed
abbrev pub with_handed : Known → ℕ → List ℕ → List ℕ → ℕ → Known
with_handed k high marks barrier floor = record k { high = high; marks = marks; barrier = barrier; floor = floor }

-- its log record stands behind those before, and is counted
pub record InOutput (m : Message) (before after : Log) : Type 0 where
  pub output : after.output.now ≡ over before.output.now (before.count * log_record_length) (log_record m)
  pub count : after.count ≡ before.count + 1
  pub long : length after.output.now ≡ length before.output.now

-- the message is in the log, and high, its source's mark and its source's barrier entry are at least its deadline
pub record IsLogged (m : Message) (p : Known) (before : Log) (q : Known) (after : Log) : Type 0 where
  pub known : q ≡ with_handed p (max p.high m.deadline) (raise p.marks m) (raise p.barrier m) p.floor
  pub log : InOutput m before after

-- and its entries have been passed
pub record IsHanded (m : Message) (p : Known) (before : Log) (q : Known) (after : Log) : Type 0 where
  pub known : q
      ≡ with_handed p (max p.high m.deadline) (raise p.marks m) (raise (shortened p.barrier m.entries) m)
      (max p.floor (missed p.time p.floor (λ panel. get_or p.marks panel 0) m.entries))
  pub log : InOutput m before after
