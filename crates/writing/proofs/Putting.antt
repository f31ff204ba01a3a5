-- A loop that puts the entries that are there into a buffer, lowest panel first, one behind the other. Assumes nothing.
use mathlib.Core.Path.{◌≡◌, refl, sym, ap, ◌∙◌}
use mathlib.Core.List.{List, [], ◌∷◌}
use Prim.Native.Nat.{ℕ, suc, ◌+◌, ◌*◌, ◌≤◌, ◌<◌}
use native.Mathlib.Nat.{mul-zero, mul-suc, mul-le-mul_left}
use native.Mathlib.Numerals.{add-one}
use native.Mathlib.Omega.{arith}
use lib.ListN.{length, get_or, take, length-append}
use lib.Seq.{take_all}
use Rattle.numbers.specs.Numbers.{big_endian, big_endians}
use Rattle.numbers.specs.Buffer.{over}
use Rattle.numbers.proofs.BigEndian.{length-big_endian, length-big_endians, big_endians-snoc}
use Rattle.numbers.proofs.Over.{over-nil, over-over, length_over}
use Rattle.frame.specs.Message.{present}
use Rattle.frame.specs.Frame.{wide}
use Rattle.writing.proofs.Entries.{present-take-none, present_take_entry, present-take-le, present_take_all}

-- the entries of the panels below s are in buffer, which was buffer₀, from place start on, and at is the place behind them
pub record Put (width : ℕ) (buffer₀ : List ℕ) (start : ℕ) (es buffer : List ℕ) (at s : ℕ) : Type 0 where
  pub below : s ≤ length es
  pub place : at ≡ start + width * length (present (take s es))
  pub bytes : buffer ≡ over buffer₀ start (big_endians width (present (take s es)))
  pub same : length buffer ≡ length buffer₀

module _ (width : ℕ) (buffer₀ : List ℕ) (start : ℕ) (es : List ℕ) where
  pub put_none : Put width buffer₀ start es buffer₀ start 0
  unfolding present big_endians
  put_none = record { below = omega arith; place = rw mul-zero (omega arith); bytes = sym (over-nil buffer₀ start); same = refl }

module _ (buffer₀ : List ℕ) (start : ℕ) (es buffer : List ℕ) (at s : ℕ) (p : Put wide buffer₀ start es buffer at s) where
  -- behind the last panel, and where as many are put as there are
  pub put_all : length es ≤ s → buffer ≡ over buffer₀ start (big_endians wide (present es))
  put_all h = p.bytes ∙ ap (λ (l : List ℕ). over buffer₀ start (big_endians wide (present l))) (take_all s es h)

  pub put_many : at ≡ start + wide * length (present es) → buffer ≡ over buffer₀ start (big_endians wide (present es))
  put_many h =
      p.bytes ∙ ap (λ (l : List ℕ). over buffer₀ start (big_endians wide l)) (present_take_all es s (omega (arith, p.place)))

module _ (width : ℕ) (buffer₀ : List ℕ) (start : ℕ) (es buffer : List ℕ) (at s : ℕ)
    (p : Put width buffer₀ start es buffer at s) (room : start + width * length (present es) ≤ length buffer₀) (more : s < length es) where
  pub put_without : get_or es s 0 ≡ 0 → Put width buffer₀ start es buffer at (s + 1)
  put_without z =
      let e = present-take-none es s more z in
      record { below = omega arith; place = rw e p.place; bytes = rw e p.bytes; same = p.same }

  pub put_room : (get_or es s 0 ≡ 0 → ⊥) → at + width ≤ length buffer₀
  put_room z =
      let e = present_take_entry es s more z in
      let before = length (present (take s es)) in
      let l : length (present (take (s + 1) es)) ≡ length (present (take s es)) + 1 = ap length e ∙ length-append (present (take s es)) (get_or es s 0 ∷ []) in
      let q : suc (length (present (take s es))) ≤ length (present es) = omega (arith, present-take-le es (s + 1)) in
      omega (arith, p.place, mul-le-mul_left width q, mul-suc width before)

  pub put_entry : (get_or es s 0 ≡ 0 → ⊥) → Put width buffer₀ start es (over buffer at (big_endian width (get_or es s 0))) (at + width) (s + 1)
  put_entry z =
      let e = present_take_entry es s more z in
      let entry = length-big_endian width (get_or es s 0) in
      record {
        below = omega arith;
        place = rw (e, length-append, add-one, mul-suc) (omega (arith, p.place));
        bytes =
            rw (e, big_endians-snoc, p.bytes)
            (over-over buffer₀ start (big_endians width (present (take s es))) at (big_endian width (get_or es s 0))
            (omega (arith, p.place, length-big_endians width (present (take s es))))
            (omega (arith, entry, put_room z)));
        same = length_over buffer at (big_endian width (get_or es s 0)) (omega (arith, entry, put_room z, p.same)) ∙ p.same;
      }
