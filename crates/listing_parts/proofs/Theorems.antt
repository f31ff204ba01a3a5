-- What is shown of the parts of a listing: they are together the whole. Assumes nothing.
use mathlib.Core.Path.{◌≡◌, refl, sym, ap, ◌∙◌}
use mathlib.Core.Bool.{Bool, cond}
use mathlib.Core.List.{List, ◌++◌, append_assoc, append-nil}
use Prim.Native.Nat.{ℕ, suc, ◌≤◌}
use native.Mathlib.Omega.{arith}
use borrow.Author.Tests.{le-ltb}
use lib.ListN.{length, take, drop}
use lib.Seq.{take_at, drop_at}
use Rattle.std.specs.Prelude.{Some, None}
use Rattle.std.specs.ControlFlow.{continue_value}
use Rattle.std.proofs.Common.{ControlFlow, Continue, Break}
use Rattle.text.specs.declared.Text.{Text}
use Rattle.text.specs.Text.{ascii}
use Rattle.rules.specs.Panel.{Panel}
use Rattle.listing.specs.declared.Listing.{Listing}
use Rattle.listing.specs.Listing.{State, start, lines_from, longest, listing}
use Rattle.listing.specs.Step.{Standing, standing, Reached, reached, state_at}
use Rattle.listing_parts.specs.Part.{left_from, lines_left, left_in, left_of, part_in, PartPut, PartsPut, PartPutLent, PartsPutLent}
use Rattle.listing_parts.specs.Part.PartsPut.{no_part, one_more}
use Rattle.listing_parts.specs.Part.PartsPutLent.{no_part as no_part_lent, one_more as one_more_lent}

-- ---- of parts put into texts of fixed capacity

-- what was put and what is left
pub parts-left : {bundle parts : List ℕ} {s : Standing} → length bundle ≤ longest → PartsPut bundle parts s → parts ++ lines_left bundle s ≡ listing bundle
unfolding listing
parts-left {bundle} short (no_part begun) =
    ap (lines_from (suc (length bundle)) bundle) begun
    ∙ ap (λ (b : Bool). cond b (ascii "long\n") (lines_from (suc (length bundle)) bundle start)) (sym (le-ltb longest (length bundle) short))
parts-left {bundle} short (one_more {parts} {p} {l} {capacity} {s} {part} before put) =
    append_assoc parts part (lines_left bundle s)
    ∙ ap (λ (rest : List ℕ). parts ++ rest) (sym put.lines)
    ∙ parts-left short before

-- each part stands in the listing behind the parts before it
pub part_in_listing : {bundle parts : List ℕ} {p : Panel} {l : Listing} {capacity : ℕ} {s : Standing} {part : List ℕ} → length bundle ≤ longest
    → PartsPut bundle parts (standing p (Some l))
    → PartPut bundle (state_at p l) capacity s part
    → take (length part) (drop (length parts) (listing bundle)) ≡ part
part_in_listing {bundle} {parts} {p} {l} {capacity} {s} {part} short before put =
    let whole : parts ++ (part ++ lines_left bundle s) ≡ listing bundle =
    ap (λ (rest : List ℕ). parts ++ rest) (sym put.lines) ∙ parts-left short before in
    ap (λ (w : List ℕ). take (length part) (drop (length parts) w)) (sym whole)
    ∙ ap (take (length part)) (drop_at parts (part ++ lines_left bundle s) (length parts) refl)
    ∙ take_at part (lines_left bundle s) (length part) refl

-- where nothing is left, the parts put are together the listing
pub parts_are_listing : {bundle parts : List ℕ} {p : Panel} → length bundle ≤ longest → PartsPut bundle parts (standing p None) → parts ≡ listing bundle
parts_are_listing {bundle} {parts} short put = sym (append-nil parts) ∙ parts-left short put

-- ---- of parts put into lent memory

-- each is such a part, of a text as long as the buffer
part_behind : {bundle : List ℕ} {given : State} {text after : Text} {p : Panel} (next : ControlFlow Listing Listing)
    → PartPutLent bundle given text (reached p next) after
    → PartPut bundle given (length text.buffer.now) (standing p (continue_value next)) (part_in after)
part_behind (Continue l) put =
    record { lines = put.lines; full = omega (arith, put.full, put.put.put.place); further = put.further; placed = put.placed }
part_behind (Break l) put = record { lines = put.lines; full = tt; further = tt; placed = tt }

parts_behind : {bundle parts : List ℕ} {s : Reached} → PartsPutLent bundle parts s → PartsPut bundle parts (standing s.panel (continue_value s.next))
parts_behind (no_part_lent begun) = no_part begun
parts_behind (one_more_lent {s = s} before put) = one_more (parts_behind before) (part_behind s.next put)

left_same : (bundle : List ℕ) (p : Panel) (next : ControlFlow Listing Listing) → left_in bundle p next ≡ left_from bundle p (continue_value next)
left_same bundle p (Continue l) = refl
left_same bundle p (Break l) = refl

pub parts-left_lent : {bundle parts : List ℕ} {s : Reached} → length bundle ≤ longest → PartsPutLent bundle parts s → parts ++ left_of bundle s ≡ listing bundle
parts-left_lent {bundle} {parts} {s} short put =
    ap (λ (rest : List ℕ). parts ++ rest) (left_same bundle s.panel s.next) ∙ parts-left short (parts_behind put)

pub part_in_listing_lent : {bundle parts : List ℕ} {p : Panel} {l : Listing} {text : Text} {s : Reached} {after : Text} → length bundle ≤ longest
    → PartsPutLent bundle parts (reached p (Continue l))
    → PartPutLent bundle (state_at p l) text s after
    → take (length (part_in after)) (drop (length parts) (listing bundle)) ≡ part_in after
part_in_listing_lent {s = s} short before put = part_in_listing short (parts_behind before) (part_behind s.next put)

-- where the listing has ended, the parts put are together the listing
pub parts_are_listing_lent : {bundle parts : List ℕ} {p : Panel} {l : Listing} → length bundle ≤ longest → PartsPutLent bundle parts (reached p (Break l))
    → parts ≡ listing bundle
parts_are_listing_lent short put = parts_are_listing short (parts_behind put)
