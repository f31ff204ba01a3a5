-- The theorems of all public calls, and of `write`, which a send calls. Assumes nothing.
use Rattle.exports.proofs.panel_fresh_parts.Statement as panel_fresh_parts
use Rattle.exports.proofs.panel_fresh_parts.Met as panel-fresh-parts-theorem
use Rattle.exports.proofs.panel_send_parts.Statement as panel_send_parts
use Rattle.exports.proofs.panel_send_parts.Met as panel-send-parts-theorem
use Rattle.beacon.proofs.panel_beacon_parts.Statement as panel_beacon_parts
use Rattle.beacon.proofs.panel_beacon_parts.Met as panel-beacon-parts-theorem
use Rattle.exports.proofs.panel_receive_parts.Statement as panel_receive_parts
use Rattle.exports.proofs.panel_receive_parts.Met as panel-receive-parts-theorem
use Rattle.exports.proofs.panel_clock_parts.Statement as panel_clock_parts
use Rattle.exports.proofs.panel_clock_parts.Met as panel-clock-parts-theorem
use Rattle.setting_back.proofs.panel_set_back_parts.Statement as panel_set_back_parts
use Rattle.setting_back.proofs.panel_set_back_parts.Met as panel-set-back-parts-theorem
use Rattle.tracing.proofs.panel_trace_parts.Statement as panel_trace_parts
use Rattle.tracing.proofs.panel_trace_parts.Met as panel-trace-parts-theorem
use Rattle.panel.proofs.panel_fresh.Statement as panel_fresh
use Rattle.panel.proofs.panel_fresh.Met as panel-fresh-theorem
use Rattle.panel.proofs.panel_trace.Statement as panel_trace
use Rattle.panel.proofs.panel_trace.Met as panel-trace-theorem
use Rattle.send_by_value.proofs.panel_send.Statement as panel_send
use Rattle.send_by_value.proofs.panel_send.Met as panel-send-theorem
use Rattle.send_by_value.proofs.panel_beacon.Statement as panel_beacon
use Rattle.send_by_value.proofs.panel_beacon.Met as panel-beacon-theorem
use Rattle.by_value.proofs.panel_receive.Statement as panel_receive
use Rattle.by_value.proofs.panel_receive.Met as panel-receive-theorem
use Rattle.by_value.proofs.panel_clock.Statement as panel_clock
use Rattle.by_value.proofs.panel_clock.Met as panel-clock-theorem
use Rattle.by_value.proofs.panel_set_back.Statement as panel_set_back
use Rattle.by_value.proofs.panel_set_back.Met as panel-set-back-theorem
use Rattle.frame_check.proofs.frame_check.Statement as frame_check
use Rattle.frame_check.proofs.frame_check.Met as frame-check-theorem
use Rattle.frame_check.proofs.is_narrow.Statement as is_narrow
use Rattle.frame_check.proofs.is_narrow.Met as is-narrow-theorem
use Rattle.reading.proofs.read.Statement as read
use Rattle.reading.proofs.read.Met as read-theorem
use Rattle.reading.proofs.payload.Statement as payload
use Rattle.reading.proofs.payload.Met as payload-theorem
use Rattle.reading.proofs.read_at.Statement as read_at
use Rattle.reading.proofs.read_at.Met as read-at-theorem
use Rattle.writing.proofs.write.Statement as write
use Rattle.writing.proofs.write.Met as write-theorem
use Rattle.log_records.proofs.panel_log_fields.Statement as panel_log_fields
use Rattle.log_records.proofs.panel_log_fields.Met as panel-log-fields-theorem
use Rattle.log_records.proofs.log_payload.Statement as log_payload
use Rattle.log_records.proofs.log_payload.Met as log-payload-theorem
use Rattle.bundle.proofs.panel_bundle_step.Statement as panel_bundle_step
use Rattle.bundle.proofs.panel_bundle_step.Met as panel-bundle-step-theorem
use Rattle.bundle.proofs.step_at.Statement as step_at
use Rattle.bundle.proofs.step_at.Met as step-at-theorem
use Rattle.bundle.proofs.part_at.Statement as part_at
use Rattle.bundle.proofs.part_at.Met as part-at-theorem
use Rattle.bundle.proofs.Reader.new.Statement as new
use Rattle.bundle.proofs.Reader.new.Met as new-theorem
use Rattle.bundle.proofs.Reader.next.Statement as next
use Rattle.bundle.proofs.Reader.next.Met as next_theorem

-- Each function ends, is safe, and keeps its promise for all arguments.
pub record Calls (M : Type 1) : Type 2 where
  -- In place, which is what C calls (src/lib.rt of crates/exports, beacon, setting_back and tracing): the call's answer, the record that the
  -- lent parts then hold and all bytes of its lent buffers are those of `defined`, and a refusal leaves every part as it was. A trace is lent
  -- nothing that it could change; what it shows is that of `trace`.
  pub panel_fresh_parts : panel_fresh_parts.statement M
  pub panel_send_parts : panel_send_parts.statement M
  pub panel_beacon_parts : panel_beacon_parts.statement M
  pub panel_receive_parts : panel_receive_parts.statement M
  pub panel_clock_parts : panel_clock_parts.statement M
  pub panel_set_back_parts : panel_set_back_parts.statement M
  pub panel_trace_parts : panel_trace_parts.statement M
  -- The same by value, for callers in Rattle (crates/panel/src/lib.rt, crates/by_value/src, crates/send_by_value/src): a refusal gives back the very struct.
  pub panel_fresh : panel_fresh.statement M
  pub panel_send : panel_send.statement M
  pub panel_beacon : panel_beacon.statement M
  pub panel_receive : panel_receive.statement M
  pub panel_clock : panel_clock.statement M
  pub panel_set_back : panel_set_back.statement M
  pub panel_trace : panel_trace.statement M
  -- Frames, checked (crates/frame_check/src/lib.rt), read, by themselves or in a bundle (crates/reading/src/lib.rt), and written
  -- (crates/writing/src/lib.rt, which is internal).
  pub frame_check : frame_check.statement M
  pub is_narrow : is_narrow.statement M
  pub read : read.statement M
  pub payload : payload.statement M
  pub read_at : read_at.statement M
  pub write : write.statement M
  -- Log records read (crates/log_records/src/lib.rt).
  pub panel_log_fields : panel_log_fields.statement M
  pub log_payload : log_payload.statement M
  -- Bundles read (crates/bundle/src/lib.rt).
  pub panel_bundle_step : panel_bundle_step.statement M
  pub step_at : step_at.statement M
  pub part_at : part_at.statement M
  pub new : new.statement M
  pub next : next.statement M

pub calls : {M : Type 1} → Calls M
calls =
    record {
      panel_fresh_parts = panel-fresh-parts-theorem.met;
      panel_send_parts = panel-send-parts-theorem.met;
      panel_beacon_parts = panel-beacon-parts-theorem.met;
      panel_receive_parts = panel-receive-parts-theorem.met;
      panel_clock_parts = panel-clock-parts-theorem.met;
      panel_set_back_parts = panel-set-back-parts-theorem.met;
      panel_trace_parts = panel-trace-parts-theorem.met;
      panel_fresh = panel-fresh-theorem.met;
      panel_send = panel-send-theorem.met;
      panel_beacon = panel-beacon-theorem.met;
      panel_receive = panel-receive-theorem.met;
      panel_clock = panel-clock-theorem.met;
      panel_set_back = panel-set-back-theorem.met;
      panel_trace = panel-trace-theorem.met;
      frame_check = frame-check-theorem.met;
      is_narrow = is-narrow-theorem.met;
      read = read-theorem.met;
      payload = payload-theorem.met;
      read_at = read-at-theorem.met;
      write = write-theorem.met;
      panel_log_fields = panel-log-fields-theorem.met;
      log_payload = log-payload-theorem.met;
      panel_bundle_step = panel-bundle-step-theorem.met;
      step_at = step-at-theorem.met;
      part_at = part-at-theorem.met;
      new = new-theorem.met;
      next = next_theorem.met;
    }
