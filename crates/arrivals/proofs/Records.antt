-- The log records of a panel: those of an output, that their sources and deadlines are the log, and those after one more call. Assumes nothing.
use Prim.Native.Nat.{ℕ, zero, suc, ◌-◌}
use native.Mathlib.Omega.{arith}
use mathlib.Core.Path.{◌≡◌, refl, sym, ap, ◌∙◌}
use mathlib.Core.Bool.{Bool, true, false, cond}
use mathlib.Core.List.Memᴰ.{head as first}
use mathlib.Core.List.Memᴰ.{tail as later}
use mathlib.Core.List.{List, [], ◌∷◌, ◌++◌, map, map-append, append_assoc}
use lib.ListN.{length, take, drop}
use lib.Seq.{take-nil, take-take, take_at, drop_at}
use borrow.Author.Tests.{eq-eqb}
use Rattle.numbers.specs.Numbers.{number, number_at}
use Rattle.numbers.specs.Buffer.{over}
use Rattle.frame.specs.Message.{Message}
use Rattle.rules.specs.Sizes.{width, log_record_length}
use Rattle.rules.specs.Panel.{Name}
use Rattle.rules.specs.Handing.{log_record, log_records}
use Rattle.rules.specs.Lists.{Made, on, record_at, names_in, log_at}
use Rattle.rules.proofs.LogRecords.{EachReadable, length-log_record}
use Rattle.rules.proofs.Cause.{name_path}
use Rattle.arrivals.specs.Arrival.{records_in, records_at}

-- ---- those that a call wrote

records_in-log_records : (ms : List Message) (rest : List ℕ) → EachReadable ms → records_in (length ms) (log_records ms ++ rest) ≡ map log_record ms
unfolding records_in log_records
records_in-log_records [] rest r = refl
records_in-log_records (m ∷ ms) rest r =
    let behind = log_records ms ++ rest in
    let whole = length-log_record m (r m (first refl)).payload in
    rw (append_assoc (log_record m) (log_records ms) rest, take_at (log_record m) behind log_record_length whole)
    (rw (drop_at (log_record m) behind log_record_length whole)
    (ap {B = List (List ℕ)} (λ rs. log_record m ∷ rs) (records_in-log_records ms rest (λ w i. r w (later i)))))

pub records_in-over : (ms : List Message) (output : List ℕ) → EachReadable ms → records_in (length ms) (over output 0 (log_records ms)) ≡ map log_record ms
unfolding over
records_in-over ms output r = records_in-log_records ms _ r

-- ---- their names

-- the source and the deadline of a log record
abbrev pub name_at : List ℕ → Name
name_at bytes = record { source = number_at bytes 0 1; deadline = number_at bytes 1 width }

drop-one : (n : ℕ) (bytes : List ℕ) → drop 1 (take (suc n) bytes) ≡ take n (drop 1 bytes)
drop-one n [] = sym (take-nil n)
drop-one n (b ∷ bytes) = refl

name_at_take : (output : List ℕ) → name_at (take log_record_length output) ≡ name_at output
unfolding number_at
name_at_take output =
    name_path (ap number (take-take 1 log_record_length output (omega arith)))
    (ap number (ap (take width) (drop-one (log_record_length - 1) output) ∙ take-take width (log_record_length - 1) (drop 1 output) (omega arith)))

names_in-records_in : (count : ℕ) (output : List ℕ) → names_in count output ≡ map name_at (records_in count output)
unfolding names_in records_in
names_in-records_in zero output = refl
names_in-records_in (suc count) output =
    λ j. sym (name_at_take output) j ∷ names_in-records_in count (drop log_record_length output) j

-- The log is the names of the log records.
pub log_names : (panel : ℕ) (list : List Made) → log_at panel list ≡ map name_at (records_at panel list)
unfolding log_at records_at
log_names panel [] = refl
log_names panel (made ∷ earlier) =
    (λ j. log_names panel earlier j ++ here (on panel made) j) ∙ sym (map-append name_at (records_at panel earlier) _)
  where
    here : (b : Bool) → cond b (names_in made.result.count made.result.output) []
        ≡ map name_at (cond b (records_in made.result.count made.result.output) [])
    here true = names_in-records_in made.result.count made.result.output
    here false = refl

-- ---- the words for a panel, one call later

module _ (i : ℕ) (last : Made) (earlier : List Made) (there : last.at ≡ i) where
  here : on i last ≡ true
  here = eq-eqb i last.at (sym there)

  pub record_here : record_at i (last ∷ earlier) ≡ last.result.panel
  unfolding record_at
  record_here = rw here refl

  pub log_here : log_at i (last ∷ earlier) ≡ log_at i earlier ++ names_in last.result.count last.result.output
  unfolding log_at
  log_here = rw here refl

  pub records_here : records_at i (last ∷ earlier) ≡ records_at i earlier ++ records_in last.result.count last.result.output
  unfolding records_at
  records_here = rw here refl
