-- Which calls the module makes: those of which a caller of one of its functions learns, by the function's own theorem.
use Rattle.std.specs.Prelude.{ℕ, ◌≡◌, List, []}
use borrow.Fn.Kinds.{ParamKind, ResultKind, Dens, res_t, ended_of, Out}
use contract.Lifetimes.{Lfts}
use denote.Triple.Clauses.{AtExit}
use Rattle.rules.specs.Calls.{beacon_lifetime}
use Rattle.rules.specs.Results.{send, receive, clock, set_back}
use Rattle.lent.specs.Record.{parts}
use Rattle.parts.specs.Answers.{answer_of as answered_by}
use Rattle.panel.specs.Record.{parts_of}
use Rattle.exports.proofs.panel_send_parts.Kinds as send-parts
use Rattle.exports.proofs.panel_send_parts.Reads as send-parts-reads
use Rattle.beacon.proofs.panel_beacon_parts.Kinds as beacon-parts
use Rattle.beacon.proofs.panel_beacon_parts.Reads as beacon-parts-reads
use Rattle.exports.proofs.panel_receive_parts.Kinds as receive-parts
use Rattle.exports.proofs.panel_receive_parts.Reads as receive-parts-reads
use Rattle.exports.proofs.panel_clock_parts.Kinds as clock-parts
use Rattle.exports.proofs.panel_clock_parts.Reads as clock-parts-reads
use Rattle.setting_back.specs.Answer.{answer_of}
use Rattle.setting_back.proofs.panel_set_back_parts.Kinds as set-back-parts
use Rattle.setting_back.proofs.panel_set_back_parts.Reads as set-back-parts-reads
use Rattle.send_by_value.proofs.panel_send.Kinds as send-value
use Rattle.send_by_value.proofs.panel_send.Reads as send-value-reads
use Rattle.send_by_value.proofs.panel_beacon.Kinds as beacon-value
use Rattle.send_by_value.proofs.panel_beacon.Reads as beacon-value-reads
use Rattle.by_value.proofs.panel_receive.Kinds as receive-value
use Rattle.by_value.proofs.panel_receive.Reads as receive-value-reads
use Rattle.by_value.proofs.panel_clock.Kinds as clock-value
use Rattle.by_value.proofs.panel_clock.Reads as clock-value-reads
use Rattle.by_value.proofs.panel_set_back.Kinds as set-back-value
use Rattle.by_value.proofs.panel_set_back.Reads as set-back-value-reads
use Rattle.demands.specs.Runs.{Run}

-- Of a function with these lifetimes, parameters and result: what it is given, what it answers, and what is lent to it as it ends make a call.
abbrev pub Makes : (lifetimes : ℕ) → List (ParamKind lifetimes) → ResultKind lifetimes → Type 0
Makes lifetimes parameters result =
    (κs : Lfts lifetimes) → Dens κs parameters → (res_t result κs).Denot → AtExit (ended_of lifetimes parameters result) κs → Run

-- A call of that function: `learnt` is what its theorem tells whoever called it, and that is its promise.
abbrev pub CallOf : (lifetimes : ℕ) (parameters : List (ParamKind lifetimes)) (result : ResultKind lifetimes) → Out lifetimes parameters result
    → Makes lifetimes parameters result → Run → Type 0
CallOf lifetimes parameters result learnt makes run =
    (κs : Lfts lifetimes) × (given : Dens κs parameters) × (answer : (res_t result κs).Denot)
    × (ended : AtExit (ended_of lifetimes parameters result) κs) × learnt κs given answer ended × (makes κs given answer ended ≡ run)

-- ---- in place: the parts of the record as they are lent, and as the call ends

abbrev pub send_in_place : Makes 9 send-parts.ps send-parts.r
send_in_place κs given answer ended =
    let (own, (time, (high, (count, (marks, (barrier, (slots, (floor, (payload, (lifetime, (output, (buffer, _)))))))))))) = given in
    let (_, (_, (high', (count', (marks', (barrier', (slots', (floor', (_, (_, (output', (buffer', _)))))))))))) = ended in
    record {
      given = parts own time high.now count.now marks.now barrier.now slots.now floor.now;
      call = send payload.now lifetime output.now buffer.now;
      answer = answer;
      left = parts own time high'.now count'.now marks'.now barrier'.now slots'.now floor'.now;
      output = output'.now;
      buffer = buffer'.now;
    }

-- a beacon is a send, with the lifetime of a beacon
abbrev pub beacon_in_place : Makes 9 beacon-parts.ps beacon-parts.r
beacon_in_place κs given answer ended =
    let (own, (time, (high, (count, (marks, (barrier, (slots, (floor, (payload, buffers))))))))) = given in
    let (own', (time', (high', (count', (marks', (barrier', (slots', (floor', (payload', buffers'))))))))) = ended in
    send_in_place κs (own, (time, (high, (count, (marks, (barrier, (slots, (floor, (payload, (beacon_lifetime, buffers)))))))))) answer
    (own', (time', (high', (count', (marks', (barrier', (slots', (floor', (payload', (beacon_lifetime, buffers'))))))))))

abbrev pub receive_in_place : Makes 8 receive-parts.ps receive-parts.r
receive_in_place κs given answer ended =
    let (own, (time, (high, (count, (marks, (barrier, (slots, (floor, (frame, (output, _)))))))))) = given in
    let (_, (_, (high', (count', (marks', (barrier', (slots', (floor', (_, (output', _)))))))))) = ended in
    record {
      given = parts own time high.now count.now marks.now barrier.now slots.now floor.now;
      call = receive frame.now output.now;
      answer = answer;
      left = parts own time high'.now count'.now marks'.now barrier'.now slots'.now floor'.now;
      output = output'.now;
      buffer = [];
    }

abbrev pub clock_in_place : Makes 8 clock-parts.ps clock-parts.r
clock_in_place κs given answer ended =
    let (own, (time, (high, (count, (marks, (barrier, (slots, (floor, (reading, (output, _)))))))))) = given in
    let (_, (time', (high', (count', (marks', (barrier', (slots', (floor', (_, (output', _)))))))))) = ended in
    record {
      given = parts own time.now high.now count.now marks.now barrier.now slots.now floor.now;
      call = clock reading output.now;
      answer = answer;
      left = parts own time'.now high'.now count'.now marks'.now barrier'.now slots'.now floor'.now;
      output = output'.now;
      buffer = [];
    }

-- of a set-back call only the time is lent so that it can change
abbrev pub set_back_in_place : Makes 2 set-back-parts.ps set-back-parts.r
set_back_in_place κs given answer ended =
    let (own, (time, (high, (count, (marks, (barrier, (slots, (floor, (reading, _))))))))) = given in
    let (_, (time', _)) = ended in
    record {
      given = parts own time.now high count marks.now barrier.now slots.now floor;
      call = set_back reading;
      answer = answer_of answer;
      left = parts own time'.now high count marks.now barrier.now slots.now floor;
      output = [];
      buffer = [];
    }

-- ---- by value: the struct given, and the struct given back in the answer

abbrev pub send_by_value : Makes 3 send-value.ps send-value.r
send_by_value κs given answer ended =
    let (panel, (payload, (lifetime, (output, (buffer, _))))) = given in
    let (_, (_, (_, (output', (buffer', _))))) = ended in
    record {
      given = parts_of panel;
      call = send payload.now lifetime output.now buffer.now;
      answer = answered_by answer.answer;
      left = parts_of answer.panel;
      output = output'.now;
      buffer = buffer'.now;
    }

-- and so it is by value
abbrev pub beacon_by_value : Makes 3 beacon-value.ps beacon-value.r
beacon_by_value κs given answer ended =
    let (panel, (payload, buffers)) = given in
    let (panel', (payload', buffers')) = ended in
    send_by_value κs (panel, (payload, (beacon_lifetime, buffers))) answer (panel', (payload', (beacon_lifetime, buffers')))

abbrev pub receive_by_value : Makes 2 receive-value.ps receive-value.r
receive_by_value κs given answer ended =
    let (panel, (frame, (output, _))) = given in
    let (_, (_, (output', _))) = ended in
    record {
      given = parts_of panel;
      call = receive frame.now output.now;
      answer = answered_by answer.answer;
      left = parts_of answer.panel;
      output = output'.now;
      buffer = [];
    }

abbrev pub clock_by_value : Makes 1 clock-value.ps clock-value.r
clock_by_value κs given answer ended =
    let (panel, (reading, (output, _))) = given in
    let (_, (_, (output', _))) = ended in
    record {
      given = parts_of panel;
      call = clock reading output.now;
      answer = answered_by answer.answer;
      left = parts_of answer.panel;
      output = output'.now;
      buffer = [];
    }

abbrev pub set_back_by_value : Makes 0 set-back-value.ps set-back-value.r
set_back_by_value κs given answer ended =
    let (panel, (reading, _)) = given in
    record {
      given = parts_of panel;
      call = set_back reading;
      answer = answered_by answer.answer;
      left = parts_of answer.panel;
      output = [];
      buffer = [];
    }

-- ---- a call of the module is a call of one of these ten functions

pub data Ran (run : Run) : Type 0 where
  panel_send_parts : CallOf 9 send-parts.ps send-parts.r send-parts-reads.Learnt send_in_place run → Ran run
  panel_beacon_parts : CallOf 9 beacon-parts.ps beacon-parts.r beacon-parts-reads.Learnt beacon_in_place run → Ran run
  panel_receive_parts : CallOf 8 receive-parts.ps receive-parts.r receive-parts-reads.Learnt receive_in_place run → Ran run
  panel_clock_parts : CallOf 8 clock-parts.ps clock-parts.r clock-parts-reads.Learnt clock_in_place run → Ran run
  panel_set_back_parts : CallOf 2 set-back-parts.ps set-back-parts.r set-back-parts-reads.Learnt set_back_in_place run → Ran run
  panel_send : CallOf 3 send-value.ps send-value.r send-value-reads.Learnt send_by_value run → Ran run
  panel_beacon : CallOf 3 beacon-value.ps beacon-value.r beacon-value-reads.Learnt beacon_by_value run → Ran run
  panel_receive : CallOf 2 receive-value.ps receive-value.r receive-value-reads.Learnt receive_by_value run → Ran run
  panel_clock : CallOf 1 clock-value.ps clock-value.r clock-value-reads.Learnt clock_by_value run → Ran run
  panel_set_back : CallOf 0 set-back-value.ps set-back-value.r set-back-value-reads.Learnt set_back_by_value run → Ran run
