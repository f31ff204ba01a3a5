-- `writing::put_head` meets its contract: each field goes behind those before it. Assumes nothing.
use mathlib.Core.Path.{◌≡◌, refl, ap, ◌∙◌}
use mathlib.Core.List.{List, ◌++◌}
use Prim.Native.Nat.{ℕ, ◌+◌, ◌≤◌}
use native.Mathlib.Omega.{arith}
use lib.ListN.{length, set, length-append}
use Rattle.numbers.specs.Numbers.{big_endian}
use Rattle.numbers.specs.Buffer.{over}
use Rattle.numbers.proofs.BigEndian.{length-big_endian}
use Rattle.numbers.proofs.Over.{over-over, length_over}
use Rattle.frame.specs.Frame.{mark, version_of, wide}
use Rattle.writing.proofs.Written.{over_byte}
use Rattle.writing.proofs.put_head.Goals as goal

-- what stands in the buffer once mark and version, the source, and the deadline have been put
abbrev head1 : List ℕ
head1 = big_endian 3 mark ++ big_endian 2 (version_of wide)

abbrev head2 : ℕ → List ℕ
head2 source = head1 ++ big_endian 1 source

abbrev head3 : ℕ → ℕ → List ℕ
head3 source deadline = head2 source ++ big_endian wide deadline

-- mark and version as one number
begun : big_endian 5 0x4452590002 ≡ head1
unfolding big_endian
begun = refl

-- a field of n bytes behind those before it
behind : (buffer xs : List ℕ) (at width n : ℕ) → at ≡ length xs → at + width ≤ length buffer
    → over (over buffer 0 xs) at (big_endian width n) ≡ over buffer 0 (xs ++ big_endian width n)
behind buffer xs at width n e h = over-over buffer 0 xs at (big_endian width n) (omega arith) (omega (arith, length-big_endian width n))

-- the source, which is stored, goes behind mark and version
sourced : (buffer : List ℕ) (source : ℕ) → 14 + wide ≤ length buffer → set (over buffer 0 (big_endian 5 0x4452590002)) 5 source ≡ over buffer 0 (head2 source)
sourced buffer source h =
    let five : length head1 ≡ 5 = simp (length-append, length-big_endian) in
    ap (λ (l : List ℕ). set (over buffer 0 l) 5 source) begun
    ∙ over_byte (over buffer 0 head1) 5 source (omega (arith, length_over buffer 0 head1 (omega arith)))
    ∙ behind buffer head1 5 1 source (omega arith) (omega arith)

-- the three puts, one behind the other
pub returns : goal.returns
returns c =
    let b = c.args.buffer.now in
    let room : 14 + wide ≤ length b = c.requires in
    let put1 : set c.put_number.new.buffer 5 c.args.source ≡ over b 0 (head2 c.args.source) =
    ap (λ (l : List ℕ). set l 5 c.args.source) c.put_number.ensures ∙ sourced b c.args.source room in
    let put2 : c.put_number-2.new.buffer ≡ over b 0 (head3 c.args.source c.args.deadline) =
    c.put_number-2.ensures
    ∙ ap (λ (l : List ℕ). over l 6 (big_endian wide c.args.deadline)) put1
    ∙ behind b (head2 c.args.source) 6 wide c.args.deadline (simp (length-append, length-big_endian)) (omega arith) in
    c.put_number-3.ensures
    ∙ ap (λ (l : List ℕ). over l (6 + wide) (big_endian 8 c.args.mask)) put2
    ∙ behind b (head3 c.args.source c.args.deadline) (6 + wide) 8 c.args.mask (simp (length-append, length-big_endian)) (omega arith)
