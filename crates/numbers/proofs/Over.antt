-- Laws of `over`: bytes put into a buffer, one part behind another. Assumes nothing.
use mathlib.Core.Path.{◌≡◌, refl, sym, ap, ap₂, ◌∙◌}
use mathlib.Core.List.{List, [], ◌++◌, append_assoc, append-nil}
use Prim.Native.Nat.{ℕ, ◌+◌, ◌≤◌}
use native.Mathlib.Nat.{add-zero}
use native.Mathlib.Omega.{arith}
use lib.ListN.{length, take, drop, length-append, length-take, length-drop, take-append-drop}
use lib.Seq.{paste, take_at, drop_at, drop-drop, take-length, length-take-le, drop-append-add}
use Rattle.numbers.specs.Buffer.{over}

-- nothing put
pub over-nil : (buffer : List ℕ) (at : ℕ) → over buffer at [] ≡ buffer
unfolding over
over-nil buffer at = rw (append-nil, add-zero) (take-append-drop at buffer)

pub length_over : (buffer : List ℕ) (at : ℕ) (bs : List ℕ) → at + length bs ≤ length buffer → length (over buffer at bs) ≡ length buffer
unfolding over
length_over buffer at bs h = simp (length-append, length-take, length-drop) (omega arith)

-- bytes in the place of so many others
pub over_put : (buffer : List ℕ) (at : ℕ) (bs : List ℕ) (size : ℕ) → size ≡ length bs
    → take at buffer ++ (bs ++ drop size (drop at buffer)) ≡ over buffer at bs
unfolding over
over_put buffer at bs size e = rw (e, drop-drop) (sym (append_assoc (take at buffer) bs (drop (at + length bs) buffer)))

-- a copy that a loop has finished
pub over_paste : (buffer : List ℕ) (at : ℕ) (bs : List ℕ) (n : ℕ) → n ≡ length bs → paste buffer at bs n ≡ over buffer at bs
unfolding over
over_paste buffer at bs n e = rw (e, take-length)

-- put one behind the other, wherever the second ends
pub over-over : (buffer : List ℕ) (at : ℕ) (xs : List ℕ) (behind : ℕ) (ys : List ℕ) → behind ≡ at + length xs → at ≤ length buffer
    → over (over buffer at xs) behind ys ≡ over buffer at (xs ++ ys)
unfolding over
over-over buffer at xs behind ys e h =
    let front : length (take at buffer ++ xs) ≡ behind = simp length-append (omega (arith, length-take-le at buffer h)) in
    let t : take behind (over buffer at xs) ≡ take at buffer ++ xs = take_at (take at buffer ++ xs) (drop (at + length xs) buffer) behind front in
    let q : at + length xs + length ys ≡ at + length (xs ++ ys) = omega (arith, length-append xs ys) in
    let d : drop (behind + length ys) (over buffer at xs) ≡ drop (at + length (xs ++ ys)) buffer =
    ap (λ (k : ℕ). drop (k + length ys) (over buffer at xs)) (sym front)
    ∙ drop-append-add (take at buffer ++ xs) (drop (at + length xs) buffer) (length ys)
    ∙ drop-drop (length ys) (at + length xs) buffer
    ∙ ap (λ (k : ℕ). drop k buffer) q in
    rw (t, d, append_assoc (take at buffer) xs ys)

-- other bytes over the first of those put
pub over_again : (buffer : List ℕ) (at : ℕ) (xs rest ys : List ℕ) → length ys ≡ length xs → at ≤ length buffer
    → over (over buffer at (xs ++ rest)) at ys ≡ over buffer at (ys ++ rest)
unfolding over
over_again buffer at xs rest ys e h =
    let front = take at buffer in
    let n : length (take at buffer) ≡ at = length-take-le at buffer h in
    let tail = drop (at + length (xs ++ rest)) buffer in
    let t : take at (over buffer at (xs ++ rest)) ≡ take at buffer = ap (take at) (append_assoc front (xs ++ rest) tail) ∙ take_at front (xs ++ rest ++ tail) at n in
    let d : drop (at + length ys) (over buffer at (xs ++ rest)) ≡ rest ++ drop (at + length (xs ++ rest)) buffer =
    ap (λ (l : List ℕ). drop (at + length ys) (l ++ tail)) (sym (append_assoc front xs rest))
    ∙ ap (drop (at + length ys)) (append_assoc (front ++ xs) rest tail)
    ∙ drop_at (front ++ xs) (rest ++ tail) (at + length ys) (omega (arith, length-append front xs)) in
    let q : at + length (xs ++ rest) ≡ at + length (ys ++ rest) = omega (arith, length-append xs rest, length-append ys rest) in
    ap₂ (λ (l k : List ℕ). l ++ ys ++ k) t d
    ∙ ap (λ (k : ℕ). front ++ ys ++ (rest ++ drop k buffer)) q
    ∙ sym (append_assoc (front ++ ys) rest (drop (at + length (ys ++ rest)) buffer))
    ∙ ap (λ (l : List ℕ). l ++ drop (at + length (ys ++ rest)) buffer) (append_assoc front ys rest)

-- what was put is there
pub take-over : (buffer bs : List ℕ) → take (length bs) (over buffer 0 bs) ≡ bs
unfolding over
take-over buffer bs = take_at bs (drop (0 + length bs) buffer) (length bs) refl
