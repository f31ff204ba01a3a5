-- Log records: their length, and that the names read off an output are those of the messages handed. Assumes nothing.
use Prim.Native.Nat.{ℕ, ◌*◌, ◌-◌, ◌^◌, ◌≤◌, ◌<◌}
use native.Mathlib.Omega.{arith}
use mathlib.Core.Path.{◌≡◌, refl, ap, ◌∙◌}
use mathlib.Core.List.Memᴰ.{head as first}
use mathlib.Core.List.Memᴰ.{tail as later}
use mathlib.Core.List.{List, [], ◌∷◌, ◌++◌, map, append_assoc}
use lib.ListN.{length, drop, replicate, length-append, length-replicate}
use lib.Seq.{drop_at}
use Rattle.numbers.specs.Numbers.{big_endian, number_at}
use Rattle.numbers.specs.Buffer.{over}
use Rattle.numbers.proofs.BigEndian.{length-big_endian}
use Rattle.numbers.proofs.NumberAt.{number_at_big_endian, number_at_drop}
use Rattle.frame.specs.Message.{Message}
use Rattle.frame.proofs.Readable.{Readable}
use Rattle.rules.specs.Sizes.{width, log_record_length}
use Rattle.rules.specs.Panel.{Name, name_of}
use Rattle.rules.specs.Handing.{log_record, log_records}
use Rattle.rules.specs.Lists.{◌is_in◌, names_in}

-- each message of the list has a frame
abbrev pub EachReadable : List Message → Type 0
EachReadable ms = (m : Message) → m is_in ms → Readable width m

pub length-log_record : (m : Message) → length m.payload ≤ 32 → length (log_record m) ≡ log_record_length
unfolding log_record
length-log_record m le =
    simp (length-append, length-big_endian, length-replicate) (omega arith)

pub length-log_records : (ms : List Message) → EachReadable ms → length (log_records ms) ≡ log_record_length * length ms
unfolding log_records
length-log_records [] r = refl
length-log_records (m ∷ ms) r =
    omega (arith, length-append (log_record m) (log_records ms), length-log_record m (r m (first refl)).payload, length-log_records ms (λ w i. r w (later i)))

-- what stands behind the source and the deadline of a log record
after_deadline : Message → List ℕ → List ℕ
after_deadline m rest = big_endian 1 (length m.payload) ++ (m.payload ++ (replicate (32 - length m.payload) 0 ++ rest))

log_record_split : (m : Message) (rest : List ℕ) → log_record m ++ rest ≡ big_endian 1 m.source ++ (big_endian width m.deadline ++ after_deadline m rest)
unfolding log_record after_deadline
log_record_split m rest = simp append_assoc

source_log_record : (m : Message) (rest : List ℕ) → m.source < 64 → number_at (log_record m ++ rest) 0 1 ≡ m.source
source_log_record m rest lt = rw (log_record_split m rest) (number_at_big_endian 1 m.source _ (omega arith))

deadline_log_record : (m : Message) (rest : List ℕ) → m.deadline < 256 ^ width → number_at (log_record m ++ rest) 1 width ≡ m.deadline
deadline_log_record m rest lt =
    number_at_drop (log_record m ++ rest) 1 width
    ∙ ap (λ (bs : List ℕ). number_at bs 0 width)
    (ap (drop 1) (log_record_split m rest) ∙ drop_at (big_endian 1 m.source) _ 1 (length-big_endian 1 m.source))
    ∙ number_at_big_endian width m.deadline (after_deadline m rest) lt

-- The names read off the start of an output are those of the messages whose log records stand there.
pub names_in-log_records : (ms : List Message) (rest : List ℕ) → EachReadable ms → names_in (length ms) (log_records ms ++ rest) ≡ map name_of ms
unfolding names_in log_records
names_in-log_records [] rest r = refl
names_in-log_records (m ∷ ms) rest r =
    let R = r m (first refl) in
    let behind = log_records ms ++ rest in
    rw (append_assoc (log_record m) (log_records ms) rest, source_log_record m behind R.source, deadline_log_record m behind R.fits)
    (rw (drop_at (log_record m) behind log_record_length (length-log_record m R.payload))
    (ap {B = List Name} (λ ns. name_of m ∷ ns) (names_in-log_records ms rest (λ w i. r w (later i)))))

pub names_in-over : (ms : List Message) (output : List ℕ) → EachReadable ms → names_in (length ms) (over output 0 (log_records ms)) ≡ map name_of ms
unfolding over
names_in-over ms output r = names_in-log_records ms _ r
