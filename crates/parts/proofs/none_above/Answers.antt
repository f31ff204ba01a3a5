-- `parts::none_above` meets its contract: one look at all numbers tells it, or each is looked at. Assumes nothing.
use Rattle.std.proofs.Common.{◌≡◌, ℕ, ◌+◌, ◌<◌, ◌≤◌, Bool, true, ◌&&◌, List, length, get_or, sym, ap₂, arith}
use Rattle.frame.specs.Readable.{each_below}
use Rattle.frame.proofs.EachNumber.{lt-each_below}
use Rattle.parts.proofs.none_above.Goals as goal

-- 64 numbers that are at most the limit
all_within : (limit : ℕ) (ns : List ℕ) → length ns ≡ 64 → ((i : ℕ) → i < 64 → get_or ns i 0 ≤ limit) → each_below (limit + 1) ns ≡ true
all_within limit ns size within = lt-each_below (limit + 1) ns (λ i l. omega (arith, within i (omega (arith, size))))

pub returns-then-limit-lt-HALF : goal.returns-then-limit-lt-HALF
returns-then-limit-lt-HALF c =
    let a = c.args in
    let told : (i : ℕ) → i < 64 → (get_or a.marks.now i 0 ≤ a.limit) × (get_or a.barrier.now i 0 ≤ a.limit) =
    λ i lt. c.joined.ensures i lt c.if-joined-lt-HALF.true c.if-limit-lt-HALF.true in
    sym
    (ap₂ (λ (x y : Bool). x && y) (all_within a.limit a.marks.now c.told-marks (λ i lt. (told i lt).0))
    (all_within a.limit a.barrier.now c.told-barrier (λ i lt. (told i lt).1)))
