-- `widening::widen_entries` meets its contract: after i turns the first i entries are in place. Assumes nothing.
use mathlib.Core.Path.{◌≡◌, refl, sym, ap, ◌∙◌}
use mathlib.Core.List.{List}
use Prim.Native.Nat.{ℕ, ◌+◌, ◌*◌, ◌≤◌}
use borrow.Author.Rules.{rules}
use native.Mathlib.Numerals.{add-one}
use native.Mathlib.Omega.{arith}
use lib.ListN.{length}
use Rattle.numbers.specs.Numbers.{big_endian, big_endians, numbers_at, number_at}
use Rattle.numbers.specs.Buffer.{over}
use Rattle.numbers.proofs.BigEndian.{length-big_endian, length-big_endians, big_endians-snoc}
use Rattle.numbers.proofs.NumberAt.{length-numbers_at, numbers_at-snoc}
use Rattle.numbers.proofs.Over.{over-nil, over-over}
use Rattle.frame.specs.Frame.{narrow, wide}
use Rattle.widening.proofs.widen_entries.Goals as goal

-- the first i entries, as version 2 has them
abbrev first : List ℕ → ℕ → List ℕ
first frame i = big_endians wide (numbers_at frame (14 + narrow) narrow i)

length-first : (frame : List ℕ) (i : ℕ) → length (first frame i) ≡ wide * i
length-first frame i = omega (arith, length-big_endians wide (numbers_at frame (14 + narrow) narrow i), length-numbers_at frame (14 + narrow) narrow i)

-- one entry more, behind those before it
next : (buffer frame : List ℕ) (i : ℕ) → 14 + wide + wide * i + wide ≤ length buffer
    → over (over buffer (14 + wide) (first frame i)) (14 + wide + wide * i) (big_endian wide (number_at frame (14 + narrow + narrow * i) narrow))
    ≡ over buffer (14 + wide) (first frame (i + 1))
next buffer frame i room =
    let n = number_at frame (14 + narrow + narrow * i) narrow in
    rw (add-one, numbers_at-snoc, big_endians-snoc)
    (over-over buffer (14 + wide) (first frame i) (14 + wide + wide * i) (big_endian wide n)
    (omega (arith, length-first frame i)) (omega (arith, length-big_endian wide n)))

pub loop-i-init : goal.loop-i-init
unfolding numbers_at big_endians
loop-i-init c = record { put = sym (over-nil c.args.buffer.now (14 + wide)); same = refl }

pub loop-i-preserved : goal.loop-i-preserved
loop-i-preserved c =
    let l = c.loop-i in
    let a = c.args in
    let at = 14 + wide + wide * l.i in
    record {
      put =
          c.put_number.ensures
          ∙ ap (λ (n : ℕ). over l.buffer at (big_endian wide n)) c.number_at-entry.ensures.0
          ∙ ap (λ (x : List ℕ). over x at (big_endian wide (number_at a.frame.now (14 + narrow + narrow * l.i) narrow))) l.invariant.put
          ∙ next a.buffer.now a.frame.now l.i (omega arith);
      same = search rules;
    }

pub returns : goal.returns
returns c =
    let l = c.loop-i in
    let a = c.args in
    let all : l.i ≡ a.count = omega arith in
    l.invariant.put ∙ ap (λ (i : ℕ). over a.buffer.now (14 + wide) (first a.frame.now i)) all
