-- What `readable` says of a message. Assumes nothing.
use mathlib.Core.Path.{◌≡◌}
use mathlib.Core.Bool.{true, false, and-false}
use Prim.Native.Nat.{ℕ, ◌^◌, ◌≤◌, ◌<◌}
use native.Mathlib.Omega.{arith}
use lib.Dec.{ltb, leb, eqb}
use lib.ListN.{length, get_or}
use borrow.Author.Tests.{lt-ltb, le-ltb, ltb-true, le-leb, leb-true, eq-eqb, eqb-true}
use Rattle.numbers.specs.Numbers.{Bytes}
use Rattle.frame.specs.Message.{Message}
use Rattle.frame.specs.Readable.{each_below, readable}
use Rattle.frame.proofs.Conjunction.{and_both}
use Rattle.frame.proofs.EachNumber.{each_below-lt, lt-each_below}

pub record Readable (width : ℕ) (m : Message) : Type 0 where
  pub source : m.source < 64
  pub deadline : 0 < m.deadline
  pub fits : m.deadline < 256 ^ width
  pub panels : length m.entries ≡ 64
  pub entries : (s : ℕ) → get_or m.entries s 0 < m.deadline
  pub payload : length m.payload ≤ 32
  pub bytes : Bytes m.payload

pub readable-true : (width : ℕ) (m : Message) → Readable width m → readable width m ≡ true
unfolding readable
readable-true width m r =
    simp (
      lt-ltb m.source 64 r.source,
      lt-ltb 0 m.deadline r.deadline,
      lt-ltb m.deadline (256 ^ width) r.fits,
      eq-eqb (length m.entries) 64 r.panels,
      lt-each_below m.deadline m.entries (λ s l. r.entries s),
      le-leb (length m.payload) 32 r.payload,
      lt-each_below 256 m.payload (λ i l. r.bytes i),
    )

pub true-readable : (width : ℕ) (m : Message) → readable width m ≡ true → Readable width m
unfolding readable
true-readable width m e =
    let t6 = and_both _ (each_below 256 m.payload) e in
    let t5 = and_both _ (leb (length m.payload) 32) t6.0 in
    let t4 = and_both _ (each_below m.deadline m.entries) t5.0 in
    let t3 = and_both _ (eqb (length m.entries) 64) t4.0 in
    let t2 = and_both _ (ltb m.deadline (256 ^ width)) t3.0 in
    let t1 = and_both (ltb m.source 64) (ltb 0 m.deadline) t2.0 in
    let begun = ltb-true 0 m.deadline t1.1 in
    record {
      source = ltb-true m.source 64 t1.0;
      deadline = begun;
      fits = ltb-true m.deadline (256 ^ width) t2.1;
      panels = eqb-true (length m.entries) 64 t3.1;
      entries = each_below-lt m.deadline m.entries begun t4.1;
      payload = leb-true (length m.payload) 32 t5.1;
      bytes = each_below-lt 256 m.payload (omega arith) t6.1;
    }

-- a message of deadline 0 has no frame
pub readable_deadline : (width : ℕ) (m : Message) → m.deadline ≡ 0 → readable width m ≡ false
unfolding readable
readable_deadline width m e = simp (le-ltb 0 m.deadline (omega arith), and-false)
