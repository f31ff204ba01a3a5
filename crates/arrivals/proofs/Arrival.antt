-- The order of arrival makes no difference. Assumes nothing.
use Prim.Native.Nat.{ℕ}
use native.Mathlib.Omega.{arith}
use mathlib.Core.Path.{◌≡◌, sym, ◌∙◌}
use mathlib.Core.List.{List, ◌++◌}
use lib.Seq.{ext_get_or}
use Rattle.frame.specs.Reading.{refusal_of, message_from}
use Rattle.frame.proofs.Theorems.{reads_alike}
use Rattle.rules.specs.Lists.{◌is_in◌, Made, record_at, Lawful, AllPromised}
use Rattle.rules.proofs.Reached.{list_sound}
use Rattle.arrivals.specs.Arrival.{EachIn, ArrivalOrder}
use Rattle.arrivals.proofs.Sets.{same_set}
use Rattle.arrivals.proofs.SentFrames.{sends_read, frames_sent_lem}
use Rattle.arrivals.proofs.Barrier.{exact_same}
use Rattle.arrivals.proofs.AfterReceives.{same_time}
use Rattle.arrivals.proofs.OneOrder.{order, records_once, waiting_once, exact}
use Rattle.arrivals.proofs.TwoOrders.{handed, logged, waits, high_le, mark-le, floor_le, records_in_lem}

-- where frames read, those that read as the same carry the same messages
same_messages : (one two : List (List ℕ)) → ((frame : List ℕ) → frame is_in one → refusal_of frame ≡ 0) → EachIn one two
    → (frame : List ℕ) → frame is_in one → (same : List ℕ) × (same is_in two) × (message_from same ≡ message_from frame)
same_messages one two reads each frame k =
    let (same, i, e) = each frame k in (same, i, (reads_alike same frame (reads frame k) e).1)

-- After every list of demand 3, set-back calls included: two orders of receiving the same frames end alike.
pub arrival_order : (list : List Made) → Lawful list → AllPromised list → ArrivalOrder list
arrival_order list lawful promised i make frames_one frames_two frames one two all_one all_two promised-one promised-two =
    let L = list_sound list lawful promised in
    let O = order list lawful promised i make frames_one one all_one promised-one in
    let T = order list lawful promised i make frames_two two all_two promised-two in
    let read = sends_read list lawful promised in
    let there = same_messages frames_one frames_two (λ frame k. (frames_sent_lem read i make frames_one one all_one frame k).0) frames.0 in
    let back = same_messages frames_two frames_one (λ frame k. (frames_sent_lem read i make frames_two two all_two frame k).0) frames.1 in
    let P = (O.sound.sites i).sound.summary in
    let Q = (T.sound.sites i).sound.summary in
    record {
      time = same_time O.after ∙ sym (same_time T.after);
      high = omega (arith, high_le O T there, high_le T O back);
      marks = ext_get_or 0 _ _ (P.marks_64 ∙ sym Q.marks_64) (λ k _. omega (arith, mark-le O T there k, mark-le T O back k));
      barrier = ext_get_or 0 _ _ (P.barrier_64 ∙ sym Q.barrier_64)
          (λ k _.
          exact_same make (record_at i list).barrier (record_at i (one ++ list)).barrier (record_at i (two ++ list)).barrier O.after.handed
          T.after.handed k (handed O T there) (handed T O back) (exact O L k) (exact T L k));
      floor = omega (arith, floor_le O T there (logged T O back), floor_le T O back (logged O T there));
      log = same_set (records_once O) (records_once T) (records_in_lem O T there) (records_in_lem T O back);
      waiting = same_set (waiting_once O) (waiting_once T) (waits O T there (handed T O back)) (waits T O back (handed O T there));
    }
