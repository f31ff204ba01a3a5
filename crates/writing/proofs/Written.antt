-- Laws of writing a frame into a buffer: when it can be written, and that its parts, put one behind the other, are the frame. Assumes nothing.
use mathlib.Core.Path.{◌≡◌, refl, sym, ◌∙◌}
use mathlib.Core.Bool.{true, false, and-false}
use mathlib.Core.List.{List, ◌++◌, flatten, append_assoc, append-nil}
use Prim.Native.Nat.{ℕ, suc, ◌+◌, ◌*◌, ◌≤◌, ◌<◌}
use native.Mathlib.Nat.{div-one}
use native.Mathlib.Numerals.{add-one}
use native.Mathlib.Omega.{arith}
use lib.ListN.{length, set, take, drop, length-append}
use lib.Seq.{set_split, append_snoc}
use borrow.Author.Tests.{le-leb, lt-leb}
use Rattle.numbers.specs.Numbers.{big_endian, big_endians}
use Rattle.numbers.specs.Buffer.{over}
use Rattle.numbers.proofs.BigEndian.{length-big_endian, length-big_endians}
use Rattle.numbers.proofs.Over.{over-over}
use Rattle.frame.specs.Message.{Message, mask_of, present}
use Rattle.frame.specs.Frame.{fields, frame}
use Rattle.frame.specs.Readable.{readable}
use Rattle.frame.proofs.Places.{length-frame}
use Rattle.std.specs.Prelude.{Option, Some, None}
use Rattle.writing.specs.Written.{head_of, can_write, written, written_size}

module _ (width : ℕ) (m : Message) (buffer : List ℕ) where
  not_written : can_write width m buffer ≡ false → (◌≡◌ {A = Option ℕ} None (written_size width m buffer)) × (buffer ≡ written width m buffer)
  not_written e = (rw e, rw e)

  pub written_unreadable : readable width m ≡ false → (◌≡◌ {A = Option ℕ} None (written_size width m buffer)) × (buffer ≡ written width m buffer)
  unfolding can_write
  written_unreadable e = not_written (rw e)

  pub written_short : length buffer < length (frame width m) → (◌≡◌ {A = Option ℕ} None (written_size width m buffer)) × (buffer ≡ written width m buffer)
  unfolding can_write
  written_short h = not_written (simp (lt-leb (length (frame width m)) (length buffer) h, and-false))

  pub written-frame : readable width m ≡ true → length (frame width m) ≤ length buffer
      → (Some (length (frame width m)) ≡ written_size width m buffer) × (over buffer 0 (frame width m) ≡ written width m buffer)
  unfolding can_write
  written-frame e h = simp (e, le-leb (length (frame width m)) (length buffer) h) (refl, refl)

-- a byte that is stored is a number of one byte
pub over_byte : (buffer : List ℕ) (at n : ℕ) → at < length buffer → set buffer at n ≡ over buffer at (big_endian 1 n)
unfolding over big_endian
over_byte buffer at n h = set_split buffer at n h ∙ sym (rw (div-one, add-one) (append_snoc (take at buffer) n (drop (suc at) buffer)))

-- a frame in three parts: the fields up to the mask, the entries, and the payload behind its length
abbrev pub head : ℕ → Message → List ℕ
head width m = head_of width m.source m.deadline (mask_of m.entries)

abbrev pub body : ℕ → Message → List ℕ
body width m = big_endians width (present m.entries)

abbrev pub tail : Message → List ℕ
tail m = big_endian 1 (length m.payload) ++ m.payload

frame-parts : (width : ℕ) (m : Message) → head width m ++ body width m ++ tail m ≡ frame width m
unfolding frame fields flatten
frame-parts width m = simp (append_assoc, append-nil)

pub over-frame : (width : ℕ) (m : Message) (buffer : List ℕ) (at : ℕ) → length (frame width m) ≤ length buffer
    → at ≡ 14 + width + width * length (present m.entries)
    → over (over (over buffer 0 (head width m)) (14 + width) (body width m)) at (tail m) ≡ over buffer 0 (frame width m)
over-frame width m buffer at h e =
    let l = length-frame width m in
    let first : length (head width m) ≡ 14 + width = simp (length-append, length-big_endian) (omega arith) in
    let entries = length-big_endians width (present m.entries) in
    let rest : length (tail m) ≡ 1 + length m.payload = simp (length-append, length-big_endian) in
    rw (
      over-over buffer 0 (head width m) (14 + width) (body width m) (omega arith) (omega arith),
      over-over buffer 0 (head width m ++ body width m) at (tail m) (omega (arith, length-append (head width m) (body width m))) (omega arith),
      frame-parts width m,
    )
