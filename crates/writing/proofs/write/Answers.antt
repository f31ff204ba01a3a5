-- `writing::write` meets its contract: the frame is written where the message has one and the buffer room for it. Assumes nothing.
use mathlib.Core.Path.{◌≡◌, sym, ap, ◌∙◌}
use mathlib.Core.List.{List}
use Prim.Native.Nat.{ℕ, ◌+◌, ◌*◌, ◌≤◌}
use borrow.Author.Rules.{rules}
use native.Mathlib.Omega.{arith}
use lib.Count.{ones, ones-le}
use lib.ListN.{length}
use Rattle.std.specs.Prelude.{Some}
use Rattle.numbers.specs.Buffer.{over}
use Rattle.frame.specs.Message.{Message, message_of, mask_of, present}
use Rattle.frame.specs.Frame.{wide, frame}
use Rattle.frame.proofs.Entries.{mask_of_fits}
use Rattle.frame.proofs.Readable.{true-readable}
use Rattle.frame.proofs.Places.{length-frame}
use Rattle.writing.specs.Written.{head_of}
use Rattle.writing.proofs.Entries.{ones_mask_of}
use Rattle.writing.proofs.Written.{head, body, tail, written_unreadable, written_short, written-frame, over-frame}
use Rattle.writing.proofs.write.Goals as goal

module _ (source deadline mask : ℕ) (entries payload : List ℕ) (count : length entries ≡ 64) (masked : mask ≡ mask_of entries) where
  abbrev message : Message
  message = message_of source deadline entries payload

  counted : ones mask ≡ length (present entries)
  counted = ap ones masked ∙ ones_mask_of entries count

  few : ones mask ≤ 64
  few = ones-le 64 mask (omega (arith, masked, mask_of_fits entries count))

  sized : 14 + wide + wide * ones mask + 1 + length payload ≡ length (frame wide message)
  sized = omega (arith, counted, length-frame wide message)

pub returns-then-not-readable-clause-written : goal.returns-then-not-readable-clause-written
returns-then-not-readable-clause-written c =
    written_unreadable wide (message_of c.args.source c.args.deadline c.args.entries.now c.args.payload.now) c.args.buffer.now
    (sym c.readable.ensures ∙ c.if-not-readable.true)

pub returns-then-buffer-length-clause-written : goal.returns-then-buffer-length-clause-written
returns-then-buffer-length-clause-written c =
    let a = c.args in
    let e : length a.entries.now ≡ 64 = search rules in
    let s = sized a.source a.deadline c.mask_of-mask.result a.entries.now a.payload.now e c.mask_of-mask.ensures in
    written_short wide (message_of a.source a.deadline a.entries.now a.payload.now) a.buffer.now (omega (arith, s, c.if-buffer-length.true))

pub put_entries-requires : goal.put_entries-requires
put_entries-requires c =
    let a = c.args in
    let e : length a.entries.now ≡ 64 = search rules in
    let n = counted a.source a.deadline c.mask_of-mask.result a.entries.now a.payload.now e c.mask_of-mask.ensures in
    (omega (arith, n), omega arith)

pub put_payload-requires : goal.put_payload-requires
put_payload-requires c =
    let a = c.args in
    let m = message_of a.source a.deadline a.entries.now a.payload.now in
    ((true-readable wide m (sym c.readable.ensures ∙ c.if-not-readable.false)).payload, omega arith)

pub returns-clause-written : goal.returns-clause-written
returns-clause-written c =
    let a = c.args in
    let e : length a.entries.now ≡ 64 = search rules in
    let mask = c.mask_of-mask.result in
    let m = message_of a.source a.deadline a.entries.now a.payload.now in
    let n = counted a.source a.deadline mask a.entries.now a.payload.now e c.mask_of-mask.ensures in
    let s = sized a.source a.deadline mask a.entries.now a.payload.now e c.mask_of-mask.ensures in
    let room : length (frame wide m) ≤ length a.buffer.now = omega (arith, s, c.if-buffer-length.false) in
    let at = 14 + wide + wide * ones mask in
    let w = written-frame wide m a.buffer.now (sym c.readable.ensures ∙ c.if-not-readable.false) room in
    let headed : c.put_head.new.buffer ≡ over a.buffer.now 0 (head wide m) =
    c.put_head.ensures ∙ ap (λ (k : ℕ). over a.buffer.now 0 (head_of wide a.source a.deadline k)) c.mask_of-mask.ensures in (
      ap (λ (n : ℕ). Some n) s ∙ w.0,
      c.put_payload.ensures
          ∙ ap (λ (l : List ℕ). over l at (tail m)) c.put_entries.ensures
          ∙ ap (λ (l : List ℕ). over (over l (14 + wide) (body wide m)) at (tail m)) headed
          ∙ over-frame wide m a.buffer.now at room (omega (arith, n))
          ∙ w.1,
    )
