-- What each call answers, gives back, and leaves in the buffers lent to it.
use Rattle.std.specs.Prelude.{ℕ, zero, suc, ◌≡◌, Bool, List, [], length}
use Rattle.numbers.specs.Buffer.{over}
use Rattle.frame.specs.Frame.{frame}
use Rattle.frame.specs.Refusal.{first_of}
use Rattle.frame.specs.Reading.{message_from}
use Rattle.rules.specs.Sizes.{width}
use Rattle.rules.specs.Panel.{Panel}
use Rattle.rules.specs.Handing.{log_records}
use Rattle.rules.specs.Settling.{Settled}
use Rattle.rules.specs.Calls.{new_message, sending, receiving, clocking, setting_back}
use Rattle.rules.specs.Refusals.{send_checks, receive_checks, clock_checks, set_back_checks}

-- ---- calls

-- a call, with the bytes given and lent to it
pub data Call : Type 0 where
  send : (payload : List ℕ) (lifetime : ℕ) (output buffer : List ℕ) → Call
  receive : (bytes output : List ℕ) → Call
  clock : (time : ℕ) (output : List ℕ) → Call
  set_back : (reading : ℕ) → Call

-- the buffers lent to it; a receive and a clock call have no frame buffer, the service call has none at all
abbrev pub output_of : Call → List ℕ
output_of (send payload lifetime output buffer) = output
output_of (receive bytes output) = output
output_of (clock time output) = output
output_of (set_back reading) = []

abbrev pub buffer_of : Call → List ℕ
buffer_of (send payload lifetime output buffer) = buffer
buffer_of (receive bytes output) = []
buffer_of (clock time output) = []
buffer_of (set_back reading) = []

-- its checks
abbrev pub checks_of : Panel → Call → List (Bool × ℕ)
checks_of p (send payload lifetime output buffer) = send_checks p payload lifetime output buffer
checks_of p (receive bytes output) = receive_checks p bytes output
checks_of p (clock time output) = clock_checks p time output
checks_of p (set_back reading) = set_back_checks p

-- what it does to the record, and which messages it hands
abbrev pub effect_of : Panel → Call → Settled
effect_of p (send payload lifetime output buffer) = sending p payload lifetime
effect_of p (receive bytes output) = receiving p (message_from bytes)
effect_of p (clock time output) = clocking p time
effect_of p (set_back reading) = setting_back p reading

-- the frame that it writes: that of a send
abbrev pub frame_of : Panel → Call → List ℕ
frame_of p (send payload lifetime output buffer) = frame width (new_message p payload lifetime)
frame_of p (receive bytes output) = []
frame_of p (clock time output) = []
frame_of p (set_back reading) = []

-- ---- results

-- the answer's number (0 where the call was not turned down), the record given back, the count of log records, all bytes of the output, the
-- length of the frame that a send wrote, all bytes of its frame buffer
pub record Result : Type 0 where
  pub number : ℕ
  pub panel : Panel
  pub count : ℕ
  pub output : List ℕ
  pub frame_length : ℕ
  pub buffer : List ℕ

-- Nothing is changed; the answer is the number, with every count and length beside it 0.
unfoldable pub refused : Panel → List ℕ → List ℕ → ℕ → Result
refused p output buffer number =
    record { number = number; panel = p; count = 0; output = output; frame_length = 0; buffer = buffer }

-- Log records stand one after another from the start of the output; bytes behind them keep their content. The answer carries their count. The
-- frame stands at the start of its lent buffer, its length is in the answer, and the bytes behind keep their content.
unfoldable pub done : Settled → List ℕ → List ℕ → List ℕ → Result
done settled output frame buffer =
    record {
      number = 0;
      panel = settled.panel;
      count = length settled.handed;
      output = over output 0 (log_records settled.handed);
      frame_length = length frame;
      buffer = over buffer 0 frame;
    }

-- this result, unless the number is a refusal's
unfoldable pub unless : ℕ → (ℕ → Result) → Result → Result
unless zero refuse result = result
unless (suc n) refuse result = refuse (suc n)

-- the result that document 01 defines
unfoldable pub defined : Panel → Call → Result
defined p call =
    unless (first_of (checks_of p call)) (refused p (output_of call) (buffer_of call))
    (done (effect_of p call) (output_of call) (frame_of p call) (buffer_of call))

-- What a call promises of its result: the answer, the record given back and all bytes of each lent buffer are as defined.
abbrev pub Promised : Panel → Call → Result → Type 0
Promised p call result = result ≡ defined p call
