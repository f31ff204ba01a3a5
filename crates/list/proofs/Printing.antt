-- The listing printed part after part.
use Rattle.std.proofs.Common.{ℕ, suc, ◌+◌, ◌*◌, ◌-◌, ◌≤◌, ◌<◌, ◌≡◌, refl, sym, ap, ap₂, ◌∙◌, List, [], ◌++◌, length, take, drop, replicate, append_assoc, length-append, length-take, take_at, take-append-drop, arith, ControlFlow, Continue, Break}
use Rattle.std.specs.Prelude.{Option, IfSome, Result, Ok, Err, IfOk, OnOk, OnErr}
use Rattle.std.specs.ControlFlow.{continue_value}
use Rattle.std.specs.Io.KnownBytes.{Appends}
use Rattle.std.proofs.KnownBytes.{Appends-nil, Appends-trans}
use Rattle.text.specs.declared.Text.{Text}
use Rattle.text.specs.Text.{ascii}
use Rattle.rules.specs.Panel.{Panel, none64, fresh}
use Rattle.slots.specs.Slots.{slots_length, held, up_from}
use Rattle.lent.specs.Record.{parts, record_of}
use Rattle.listing.specs.declared.Listing.{Listing}
use Rattle.listing.specs.Listing.{longest, listing}
use Rattle.listing.specs.Step.{Reached, reached, state_at, state_of, step_room, Placed}
use Rattle.listing.proofs.Theorems.{long_listing}
use Rattle.listing_parts.specs.Part.{left_of, part_in, PartPutLent, PartsPutLent}
use Rattle.listing_parts.specs.Part.PartsPutLent.{no_part, one_more}
use Rattle.listing_parts.proofs.Theorems.{part_in_listing_lent, parts-left_lent}
use Rattle.list.specs.Written.{BytesAt, AppendsSome}

-- where a part is not written whole, the writer has got the first bytes of the whole
some_more : (before after last : Option (List ℕ)) (parts part rest whole : List ℕ) → parts ++ (part ++ rest) ≡ whole
    → Appends before after parts
    → AppendsSome after last part
    → AppendsSome before last whole
some_more before after last parts part rest whole e got (m, put) =
    let front = parts ++ take m part in
    let split : whole ≡ front ++ (drop m part ++ rest) =
    sym e
    ∙ ap (λ (p : List ℕ). parts ++ (p ++ rest)) (sym (take-append-drop m part))
    ∙ simp append_assoc in
    let first : take (length front) whole ≡ front = ap (take (length front)) split ∙ take_at front (drop m part ++ rest) (length front) refl in
    (length front, rw first (Appends-trans before after last parts (take m part) got put))

-- so many bytes are written, those of the parts put so far, of which the writer holds each, and no more than 16,384 for each byte of the bundle
-- that is passed
pub record Printing (input : List ℕ) (before after : Option (List ℕ)) (s : Reached) (written : ℕ) : Type 0 where
  pub parts : List ℕ
  pub put : PartsPutLent input parts s
  pub count : written ≡ length parts
  pub got : Appends before after parts
  pub few : IfSome (continue_value s.next) (λ l. written ≤ 16384 * l.place)
  pub placed : Placed input (state_of s).place (state_of s).frames

-- how many bytes are left, and one more while the listing goes on
abbrev pub bytes_left : List ℕ → ControlFlow Listing Listing → ℕ
bytes_left input (Break l) = 0
bytes_left input (Continue l) = suc (length input - l.place)

-- the next part, of at most 16,384 bytes: its length, that it stands in the listing at its place, and what is written then
module _ {input : List ℕ} {before after : Option (List ℕ)} {p : Panel} {l : Listing} {written : ℕ}
    (printing : Printing input before after (reached p (Continue l)) written) (short : length input ≤ longest)
    {q : Panel} {next : ControlFlow Listing Listing} {text filled : Text} (put : PartPutLent input (state_at p l) text (reached q next) filled) where
  part_length : filled.at ≡ length (part_in filled)
  part_length = omega (arith, put.put.put.place)

  -- it ends in the buffer
  pub part_within : filled.at ≤ length filled.buffer.now
  part_within = omega (arith, part_length, length-take filled.at filled.buffer.now)

  -- which is no longer than it was
  pub part_room : length text.buffer.now ≤ 16384 → length (part_in filled) ≤ 16384
  part_room small = omega (arith, small, part_length, part_within, put.put.put.kept)

  pub part-there : length (part_in filled) ≤ 16384 → BytesAt (listing input) written (part_in filled)
  part-there room =
      record {
        bytes = rw printing.count (part_in_listing_lent short printing.put put);
        small = omega (arith, room, printing.few, printing.placed.within);
      }

  pub printing-next : {last : Option (List ℕ)} → step_room ≤ length text.buffer.now → length (part_in filled) ≤ 16384
      → Appends after last (part_in filled)
      → Printing input before last (reached q next) (written + length (part_in filled))
  printing-next enough room got =
      record {
        parts = printing.parts ++ part_in filled;
        put = one_more printing.put put;
        count = omega (arith, printing.count, length-append printing.parts (part_in filled));
        got = Appends-trans _ _ _ printing.parts (part_in filled) printing.got got;
        few = few next put.further;
        placed = put.placed;
      }
    where
      few : (m : ControlFlow Listing Listing) → IfSome (continue_value m) (λ m. step_room ≤ length text.buffer.now → l.place < m.place)
          → IfSome (continue_value m) (λ m. written + length (part_in filled) ≤ 16384 * m.place)
      few (Break m) further = tt
      few (Continue m) further = let moved = further enough in omega (arith, room, printing.few, moved)

  -- if it is not written whole
  pub printing_failed : (last : Option (List ℕ)) → AppendsSome after last (part_in filled) → AppendsSome before last (listing input)
  printing_failed last =
      some_more before after last printing.parts (part_in filled) (left_of input (reached q next)) (listing input)
      (ap (λ (rest : List ℕ). printing.parts ++ rest) (sym put.lines) ∙ parts-left_lent short printing.put) printing.got

-- of a longer input only `long`
pub long-there : (input : List ℕ) → longest < length input → BytesAt (listing input) 0 (ascii "long\n")
unfolding ascii
long-there input long = record { bytes = rw (long_listing input long) refl; small = omega arith }

-- which is what is written, and what the writer got
module _ (input : List ℕ) (long : longest < length input) {E : Type 0} (answer : Result ℕ E) where
  pub long-all : IfOk answer (λ n. n ≡ 0 + length (ascii "long\n")) → IfOk answer (λ n. n ≡ length (listing input))
  unfolding ascii
  long-all written = rw (long_listing input long) written

  pub long-got : (before after : Option (List ℕ)) → OnOk answer (Appends before after (ascii "long\n"))
      → OnOk answer (Appends before after (listing input))
  long-got before after got = rw (long_listing input long) got

  pub long_failed : (before after : Option (List ℕ)) → OnErr answer (AppendsSome before after (ascii "long\n"))
      → OnErr answer (AppendsSome before after (listing input))
  long_failed before after got = rw (long_listing input long) got

-- what holds holds of an error
pub on_err : {T E P : Type 0} (answer : Result T E) → P → OnErr answer P
on_err (Ok n) holds = tt
on_err (Err e) holds = holds

-- nothing yet: the panel is a fresh one, with 0 in each part
pub printing-none : {input : List ℕ} {before : Option (List ℕ)} {l : Listing} → (l.place ≡ 0) × (l.frames ≡ 0)
    → Printing input before before
    (reached (record_of (parts 0 0 0 0 (replicate 64 0) (replicate 64 0) (replicate slots_length 0) 0)) (Continue l)) 0
unfolding held fresh up_from none64
printing-none {before = before} begun =
    record {
      parts = [];
      put = no_part (ap₂ (λ (place frames : ℕ). record { panel = fresh 0; place = place; frames = frames }) begun.0 begun.1);
      count = refl;
      got = Appends-nil before;
      few = omega arith;
      placed = record { few = omega (arith, begun.0, begun.1); within = omega (arith, begun.0) };
    }
