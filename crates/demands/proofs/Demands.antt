-- The demands, kept by the code. Assumes nothing.
use mathlib.Core.Path.{◌≡◌, ◌∙◌}
use mathlib.Core.Bool.{Bool, true, false}
use mathlib.Core.Logic.{◌≢◌}
use mathlib.Core.List.{List, [], ◌∷◌, ◌++◌, Perm}
use Prim.Native.Nat.{ℕ, ◌≤◌, ◌<◌}
use native.Mathlib.Omega.{arith}
use lib.ListN.{length, get_or, take}
use Rattle.numbers.specs.Numbers.{Bytes}
use Rattle.frame.specs.Message.{Message}
use Rattle.frame.specs.Frame.{narrow, wide, Width, frame}
use Rattle.frame.specs.Reading.{version_in, width_in, message, refusal_of, message_from, reading_of}
use Rattle.frame.specs.Readable.{readable}
use Rattle.frame.proofs.Theorems.{reading_of_frame, frame_reading_of, unreadable_past, readable_wider}
use Rattle.rules.specs.Sizes.{output_length}
use Rattle.rules.specs.Panel.{Name, Make, old_make, Panel}
use Rattle.rules.specs.Handing.{hand}
use Rattle.rules.specs.Calls.{new_message}
use Rattle.rules.specs.Refusals.{too_far_ahead, Listed, fresh_number}
use Rattle.rules.specs.Results.{Call, send, receive, output_of, buffer_of, effect_of, refused, defined}
use Rattle.visits.specs.Visiting.{Counted, trace}
use Rattle.rules.specs.Lists.{◌is_in◌, Made, record_at, given_to, sends, Before, Lawful}
use Rattle.rules.specs.Lapsing.{floor_at}
use Rattle.rules.specs.Demand3.{Demand3}
use Rattle.rules.specs.FarAhead.{FarAhead}
use Rattle.rules.specs.Cases.{with_floor}
use Rattle.barriers.specs.Barriers.{as_old, NoLonger, StaysOrGoes}
use Rattle.rules.proofs.Theorems.{demand_3, number_listed, reading_listed, fresh_listed, refusal_unchanged, sent_reads, sent_version}
use Rattle.visits.proofs.Visiting.{visits_counted}
use Rattle.visits.proofs.Tracing.{trace_number, trace_listed, trace_handed, trace_waits_reached}
use Rattle.rules.proofs.FarAhead.{far_ahead, causes_near}
use Rattle.rules.proofs.Shortened.{own_goes_in}
use Rattle.barriers.proofs.Barriers.{no_longer, stays_or_goes}
use Rattle.floors.specs.Floors.{SettingBack, FloorMeaning, is_set_back, never_set_back, Idle, IdleFloor, AlikeButFloor, ran_where, LogsInOrder}
use Rattle.floors.proofs.Floors.{setting_back_lem, floor_counted, floor_meaning, floor_idle}
use Rattle.floors.proofs.NoFloor.{no_floor_needed}
use Rattle.floors.proofs.SomeWithout.{some_without_floor}
use Rattle.arrivals.specs.Arrival.{AllHeard, SameFrames, SameEnd, on_the_way}
use Rattle.arrivals.proofs.Sets.{permuted_frames}
use Rattle.exports.proofs.Fresh.{fresh_record_within}
use Rattle.demands.specs.Beginning.{BeginsInPlace, BeginsByValue}
use Rattle.demands.specs.Lists.{FarmCall, farm, Follows}
use Rattle.demands.proofs.Following.{follows_promised}
use Rattle.demands.proofs.Arriving.{farm_arrival_order, farm-answers}
use Rattle.demands.proofs.Calls.{Calls, calls}

pub record Demands (M : Type 1) : Type 2 where
  -- The code: all public calls, for all arguments.
  pub every_call : Calls M
  -- Demand 1: the answer is a result or one of the numbers in documents 01 and 02; a refusal gives back the record as it was and alters no byte.
  pub numbers : (p : Panel) (call : Call) → Listed (defined p call).number
  pub frame_numbers : (bytes : List ℕ) → Listed (refusal_of bytes)
  pub fresh_numbers : (own : ℕ) → Listed (fresh_number own)
  pub trace_numbers : (p : Panel) (bytes : List ℕ) → Listed (trace p bytes).number
  pub refusals : (p : Panel) (call : Call) → (defined p call).number ≢ 0
      → defined p call ≡ refused p (output_of call) (buffer_of call) (defined p call).number
  -- Demand 2, by version (document 02, W-208), here that of a width: a written frame reads back as its message, and bytes that read as a message
  -- are the very bytes that their version writes for it. No message with a deadline past 32 bits has a frame of version 1; one that has has one of
  -- version 2 too. What a send has left in its frame buffer reads as the message that it sent, and is of version 2.
  pub written_reads : (width : ℕ) (m : Message) → Width width → readable width m ≡ true → reading_of (frame width m) ≡ message m
  pub read_written : (bytes : List ℕ) (m : Message) → Bytes bytes → reading_of bytes ≡ message m → frame (width_in bytes) m ≡ bytes
  pub no_narrow_frame : (m : Message) → 4294967295 < m.deadline → readable narrow m ≡ false
  pub wide_frame : (m : Message) → readable narrow m ≡ true → readable wide m ≡ true
  pub sent_reads : (p : Panel) (payload : List ℕ) (lifetime : ℕ) (output buffer : List ℕ) → length p.barrier ≡ 64 → Bytes payload
      → let result = defined p (send payload lifetime output buffer) in
      result.number ≡ 0 → reading_of (take result.frame_length result.buffer) ≡ message (new_message p payload lifetime)
  pub sent_version : (p : Panel) (payload : List ℕ) (lifetime : ℕ) (output buffer : List ℕ)
      → let result = defined p (send payload lifetime output buffer) in
      result.number ≡ 0 → version_in (take result.frame_length result.buffer) ≡ 2
  -- Demand 3: after every list of calls in a farm, in which each receive is given a frame that an earlier send of the list wrote, or its message's
  -- frame of version 1, or is refused: those of the module, in place and by value, which is of the new make, and those of other panels, of any make. A beacon is a send. The lists
  -- begin with the records that fresh gives.
  pub begins_in_place : BeginsInPlace
  pub begins_by_value : BeginsByValue
  pub every_list : (list : List FarmCall) → Follows list → Lawful (farm list) → Demand3 (farm list)
  -- Document 02, W-202: how many entries the test for ready visits. A trace shows the number of the receive of this frame on this record with an
  -- output long enough. Where it shows a message to be ready, a receive that is not refused hands that message, before any other; where it does
  -- not, that receive hands nothing after any list of calls, and the message waits.
  pub visits_counted : (p : Panel) (m : Message) → length m.entries ≡ 64 → Counted p m
  pub trace_number : (p : Panel) (bytes output : List ℕ) → output_length ≤ length output
      → (trace p bytes).number ≡ (defined p (receive bytes output)).number
  pub trace_handed : (p : Panel) (bytes output : List ℕ) → (trace p bytes).ready ≡ true
      → (later : List Message) × ((effect_of p (receive bytes output)).handed ≡ message_from bytes ∷ later)
  pub trace_waits : (list : List FarmCall) → Follows list → Lawful (farm list) → (panel : ℕ) (bytes output : List ℕ)
      → let p = record_at panel (farm list) in
      (trace p bytes).number ≡ 0 → (trace p bytes).ready ≡ false → (effect_of p (receive bytes output)).handed ≡ []
  -- Document 02, W-205: which deadlines are too far ahead to be taken, and that what waits or stands in the log stays, at any panel. After any
  -- list of calls, what is before a message in cause is too far ahead only where that message is.
  pub far_ahead : (p : Panel) → FarAhead p
  pub causes_near : (list : List FarmCall) → Follows list → Lawful (farm list) → (panel : ℕ) (x y : Name)
      → let made = farm list in
      Before (sends made) x y → too_far_ahead (record_at panel made) y.deadline ≡ false → too_far_ahead (record_at panel made) x.deadline ≡ false
  -- Document 02, W-204: whatever frames are given, a panel of either make has no barrier entry above that which the old rule gives on the same
  -- calls, and sends no longer frame, and nothing else is changed; after lists of demand 3, an entry is that of the old rule, or removed. The
  -- message's own goes in last: whatever entries it carries, the barrier entry of its source is at least its deadline once it was handed.
  pub own_goes_in : (p : Panel) (m : Message) → m.source < length p.barrier → m.deadline ≤ get_or (hand p m).barrier m.source 0
  pub no_longer : (list : List FarmCall) → Follows list → (panel : ℕ) (make : Make)
      → NoLonger (given_to panel old_make (as_old (farm list))) (given_to panel make (farm list))
  pub stays_or_goes : (list : List FarmCall) → Follows list → Lawful (farm list) → (panel : ℕ)
      → StaysOrGoes (record_at panel (as_old (farm list))) (record_at panel (farm list))
  -- Document 02, W-207: a set-back call lowers the time and does nothing else; no call lowers the floor. After lists of demand 3, the floor of the
  -- record is the one counted from the list, and is the largest deadline of a message that the log went without; where no set-back call was
  -- made, it decides nothing. Where it decides nothing, no call but a set-back call needs it. So panels that keep none, and are not set back,
  -- share a farm with the others: the logs are in order.
  pub setting_back_lem : (p : Panel) → SettingBack p
  pub floor_counted : (list : List FarmCall) → Follows list → Lawful (farm list) → (panel : ℕ)
      → (record_at panel (farm list)).floor ≡ floor_at panel (farm list)
  pub floor_meaning : (list : List FarmCall) → Follows list → Lawful (farm list) → (panel : ℕ) → FloorMeaning (farm list) panel
  pub floor_idle : (list : List FarmCall) → Follows list → Lawful (farm list) → (panel : ℕ) → never_set_back panel (farm list) ≡ true
      → Idle (farm list) panel
  pub no_floor_needed : (p : Panel) (floor : ℕ) → IdleFloor p.floor p.time → IdleFloor floor p.time → (call : Call)
      → is_set_back call ≡ false → AlikeButFloor (defined p call) (defined (with_floor floor p) call)
  pub some_without_floor : (keeps : ℕ → Bool) (calls : List (ℕ × Make × Call))
      → ((panel : ℕ) → keeps panel ≡ false → never_set_back panel (ran_where keeps calls) ≡ true)
      → Lawful (ran_where keeps calls) → LogsInOrder (ran_where keeps calls)
  -- Document 02, W-206: from the record that a list of demand 3 left at a panel, two orders of receiving the same frames sent in it, at outputs long
  -- enough and with 23 never answered, end alike. A list of frames in another order has the same frames. On the way a receive answers 0, 20, 21, 22
  -- or 32.
  pub arrival_order : (list : List FarmCall) → Follows list → Lawful (farm list) → (panel : ℕ) (make : Make) (frames_one frames_two : List (List ℕ))
      → SameFrames frames_one frames_two → (one two : List FarmCall) → Follows (one ++ list) → Follows (two ++ list)
      → AllHeard (sends (farm list)) panel make frames_one (farm one) → AllHeard (sends (farm list)) panel make frames_two (farm two)
      → SameEnd panel (farm (one ++ list)) (farm (two ++ list))
  pub permuted_frames : {one two : List (List ℕ)} → Perm one two → SameFrames one two
  pub answers_on_the_way : (list : List FarmCall) → Lawful (farm list) → (panel : ℕ) → panel < 64 → (make : Make) (frames : List (List ℕ))
      → (heard : List FarmCall) → Follows (heard ++ list) → AllHeard (sends (farm list)) panel make frames (farm heard)
      → (made : Made) → made is_in farm heard → on_the_way made.result.number ≡ true

-- The code keeps the demands.
pub demands : {M : Type 1} → Demands M
demands =
    record {
      every_call = calls;
      numbers = number_listed;
      frame_numbers = reading_listed;
      fresh_numbers = fresh_listed;
      trace_numbers = trace_listed;
      refusals = refusal_unchanged;
      written_reads = reading_of_frame;
      read_written = frame_reading_of;
      no_narrow_frame = λ m past. unreadable_past narrow m (omega (arith, past));
      wide_frame = λ m e. readable_wider narrow wide m (omega arith) e;
      sent_reads = sent_reads;
      sent_version = sent_version;
      begins_in_place = λ κs given answer ended learnt within. learnt.1 ∙ fresh_record_within given.0 within;
      begins_by_value = λ κs given answer ended learnt within. learnt.1 ∙ fresh_record_within given.0 within;
      every_list = λ list follows lawful. demand_3 (farm list) lawful (follows_promised list follows);
      visits_counted = visits_counted;
      trace_number = trace_number;
      trace_handed = λ p bytes output ready. trace_handed p bytes ready;
      trace_waits = λ list follows lawful panel bytes output. trace_waits_reached (farm list) lawful (follows_promised list follows) panel bytes;
      far_ahead = far_ahead;
      causes_near = λ list follows lawful. causes_near (farm list) lawful (follows_promised list follows);
      own_goes_in = own_goes_in;
      no_longer = λ list follows. no_longer (farm list) (follows_promised list follows);
      stays_or_goes = λ list follows lawful. stays_or_goes (farm list) lawful (follows_promised list follows);
      setting_back_lem = setting_back_lem;
      floor_counted = λ list follows lawful. floor_counted (farm list) lawful (follows_promised list follows);
      floor_meaning = λ list follows lawful. floor_meaning (farm list) lawful (follows_promised list follows);
      floor_idle = λ list follows lawful. floor_idle (farm list) lawful (follows_promised list follows);
      no_floor_needed = no_floor_needed;
      some_without_floor = some_without_floor;
      arrival_order = farm_arrival_order;
      permuted_frames = permuted_frames;
      answers_on_the_way = farm-answers;
    }
