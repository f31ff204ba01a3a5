-- Document 02, W-205: what is shown of deadlines far ahead, sentence by sentence (`far_ahead` and `causes_near` of `FarAhead`).
use Rattle.std.specs.Prelude.{ℕ, ◌+◌, ◌≤◌, ◌<◌, ◌≡◌, ◌⊎◌, ◌≢◌, true, List, get_or}
use Rattle.numbers.specs.Numbers.{Bytes}
use Rattle.frame.specs.Message.{Message}
use Rattle.frame.specs.Reading.{refusal_of, message_from}
use Rattle.rules.specs.Sizes.{last_deadline}
use Rattle.rules.specs.Panel.{Panel, lapsed}
use Rattle.rules.specs.Refusals.{farthest_ahead}
use Rattle.rules.specs.Results.{Call, send, receive, clock, set_back, effect_of, defined}
use Rattle.rules.specs.Lists.{◌is_in◌}

-- at any panel
pub record FarAhead (p : Panel) : Type 0 where
  -- "A received deadline above time + 1,209,600 (14 days) is now refused": what is taken is at most that,
  pub taken_near : (bytes output : List ℕ) → (defined p (receive bytes output)).number ≡ 0 → (message_from bytes).deadline ≤ p.time + farthest_ahead
  -- and what is refused with 32 is a message above it.
  pub refused_far : (bytes output : List ℕ) → (defined p (receive bytes output)).number ≡ 32
      → (refusal_of bytes ≡ 0) × (p.time + farthest_ahead < (message_from bytes).deadline)
  -- "Taken without wrapping": within 14 days of the last deadline nothing is refused with 32.
  pub never_late : (bytes output : List ℕ) → Bytes bytes → last_deadline ≤ p.time + farthest_ahead → (defined p (receive bytes output)).number ≢ 32
  -- "A send may still pass that distance": neither a send nor a clock call is ever refused with 32, nor is the service call.
  pub send_never : (payload : List ℕ) (lifetime : ℕ) (output buffer : List ℕ) → (defined p (send payload lifetime output buffer)).number ≢ 32
  pub clock_never : (time : ℕ) (output : List ℕ) → (defined p (clock time output)).number ≢ 32
  pub set_back_never : (reading : ℕ) → (defined p (set_back reading)).number ≢ 32
  -- "Messages already waiting or logged stay": whatever its deadline, one that waits does so in the record that any call gives back, refused or
  -- not, or was handed by it, or has lapsed; and no mark falls.
  pub waiting_stays : (call : Call) (w : Message) → w is_in p.waiting
      → let after = (defined p call).panel in
      (w is_in after.waiting) ⊎ (w is_in (effect_of p call).handed) ⊎ (lapsed after w.deadline ≡ true)
  pub marks_stay : (call : Call) (source : ℕ) → get_or p.marks source 0 ≤ get_or (defined p call).panel.marks source 0
