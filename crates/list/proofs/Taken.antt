-- What is read of the input, and that its listing is the input's.
use Rattle.std.proofs.Common.{ℕ, ◌≡◌, ◌+◌, ◌-◌, ◌≤◌, ◌<◌, refl, sym, ap, ◌∙◌, subst, le_refl, List, ◌++◌, length, take, slice_range, IfSome, arith, drop_at, length-take-le, take_all}
use Rattle.std.proofs.lemmas.Slice.{take-put_mid_below}
use borrow.Rule.Slice.PartMut.{put_mid, post_of}
use lib.Seq.{take-add, take-append-le}
use Rattle.std.specs.Prelude.{Option, None, Some, Bool, true, false, ltb}
use Rattle.std.specs.Io.KnownBytes.{Consumes}
use Rattle.std.proofs.KnownBytes.{Consumes-trans}
use borrow.Author.Tests.{ltb-true, ltb-false}
use Rattle.listing.specs.Listing.{longest, listing}
use Rattle.listing.proofs.Theorems.{long_listing}

-- one read more into the rest of the buffer
take_split : (a b : ℕ) (old new : List ℕ) → a ≤ b → take a new ≡ take a old → take a old ++ slice_range new a b ≡ take b new
take_split a b old new h front =
    let same : a + (b - a) ≡ b = omega arith in
    ap (λ (l : List ℕ). l ++ slice_range new a b) (sym front) ∙ sym (take-add a (b - a) new) ∙ ap (λ (n : ℕ). take n new) same

slice_range-put_mid : (a k n : ℕ) (xs ys : List ℕ) → a ≤ length xs → n ≤ length ys → slice_range (put_mid a k xs ys) a (a + n) ≡ take n ys
slice_range-put_mid a k n xs ys within fits =
    let same : (a + n) - a ≡ n = omega arith in
    let after = post_of a k xs in
    ap (take ((a + n) - a)) (drop_at (take a xs) (ys ++ after) a (length-take-le a xs within)) ∙ ap (λ (m : ℕ). take m (ys ++ after)) same
    ∙ take-append-le n ys after fits

pub read_more : (first between last : Option (List ℕ)) (done n room : ℕ) (buffer part : List ℕ) → done ≤ length buffer → n ≤ length part
    → Consumes first between (take done buffer)
    → Consumes between last (take n part)
    → Consumes first last (take (done + n) (put_mid done room buffer part))
read_more first between last done n room buffer part within fits before more =
    let read = slice_range-put_mid done room n buffer part within fits in
    let joined = take_split done (done + n) buffer (put_mid done room buffer part) (omega arith)
    (take-put_mid_below _ _ _ _ _ (le_refl _) within) in
    subst (Consumes first last) (ap (λ (l : List ℕ). take done buffer ++ l) (sym read) ∙ joined)
    (Consumes-trans _ _ _ _ _ before more)

-- of an input longer than the longest bundle one byte more shows that
pub listing-taken : (input : List ℕ) → listing (take (longest + 1) input) ≡ listing input
listing-taken input = go (ltb longest (length input)) refl
  where
    go : (b : Bool) → ltb longest (length input) ≡ b → listing (take (longest + 1) input) ≡ listing input
    go true more =
        let long = ltb-true longest (length input) more in
        let one_more : longest < length (take (longest + 1) input) = omega (arith, length-take-le (longest + 1) input (omega arith)) in
        long_listing (take (longest + 1) input) one_more ∙ sym (long_listing input long)
    go false short = ap listing (take_all (longest + 1) input (omega (arith, ltb-false longest (length input) short)))

-- what holds of the listing of what is read holds of that of all that there is to read
pub all_listed : (known : Option (List ℕ)) (read : List ℕ) (size : ℕ) (P : List ℕ → Type 0)
    → size ≡ longest + 1
    → IfSome known (λ bytes. read ≡ take size bytes)
    → P (listing read)
    → IfSome known (λ bytes. P (listing bytes))
all_listed None read size P room h listed = tt
all_listed (Some bytes) read size P room h listed = rw (h, room, listing-taken bytes) at listed
