-- A part of a buffer, from a place on to its end, given back with bytes put at its start. Assumes nothing.
use mathlib.Core.Path.{◌≡◌, sym, ap, ◌∙◌}
use mathlib.Core.List.{List, ◌++◌, append-nil, append_assoc}
use Prim.Native.Nat.{ℕ, ◌+◌, ◌-◌, ◌≤◌}
use native.Mathlib.Nat.{zero-add}
use native.Mathlib.Omega.{arith}
use lib.ListN.{length, take, drop, length-drop, drop_of_length-le}
use lib.Seq.{drop-drop, take_all}
use Rattle.numbers.specs.Buffer.{over}

-- bytes at the start of the part are bytes from that place on
pub over_part : (buffer : List ℕ) (at : ℕ) (part bs : List ℕ) → part ≡ over (take (length buffer - at) (drop at buffer)) 0 bs
    → take at buffer ++ (part ++ drop (length buffer - at) (drop at buffer)) ≡ over buffer at bs
unfolding over
over_part buffer at part bs e =
    let short : length (drop at buffer) ≤ length buffer - at = omega (arith, length-drop at buffer) in
    rw (e, take_all (length buffer - at) (drop at buffer) short, drop_of_length-le (drop at buffer) short)
    (ap (λ (l : List ℕ). take at buffer ++ l) (append-nil (over (drop at buffer) 0 bs))
    ∙ ap (λ (n : ℕ). take at buffer ++ (bs ++ drop n (drop at buffer))) (zero-add (length bs))
    ∙ ap (λ (l : List ℕ). take at buffer ++ (bs ++ l)) (drop-drop (length bs) at buffer)
    ∙ sym (append_assoc (take at buffer) bs (drop (at + length bs) buffer)))
