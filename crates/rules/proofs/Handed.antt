-- What a call hands: at most 33 messages, each of which has a frame. Assumes nothing.
use Prim.Native.Nat.{ℕ, ◌≤◌}
use native.Mathlib.Omega.{arith}
use mathlib.Core.Logic.{⊎_elim}
use mathlib.Core.List.Memᴰ.{head as first}
use mathlib.Core.List.Memᴰ.{tail as later}
use mathlib.Core.List.{List, [], ◌∷◌, ◌++◌}
use lib.ListN.{length, length-append}
use Rattle.frame.specs.Message.{Message}
use Rattle.frame.specs.Reading.{message_from}
use Rattle.frame.proofs.Readable.{Readable}
use Rattle.rules.specs.Sizes.{width}
use Rattle.rules.specs.Panel.{Panel, ready}
use Rattle.rules.specs.Handing.{hand}
use Rattle.rules.specs.Settling.{Settled, with_waiting, settle}
use Rattle.rules.specs.Calls.{hand_and_settle, new_message, emptied, sending, receiving, with_time, drop_lapsed, clocking, setting_back}
use Rattle.rules.specs.Results.{Call, send, receive, clock, set_back, effect_of}
use Rattle.rules.proofs.Booleans.{cond_both}
use Rattle.rules.proofs.WaitingList.{is_in_end, is_in_alive, length-alive}
use Rattle.rules.proofs.LogRecords.{EachReadable}
use Rattle.rules.proofs.Settling.{settle_settles}

-- ---- how many

pub effect_count : (p : Panel) (call : Call) → length p.waiting ≤ 32 → length (effect_of p call).handed ≤ 33
unfolding sending receiving clocking setting_back hand_and_settle hand
effect_count p (send payload lifetime output buffer) le =
    omega (arith, le, (settle_settles (hand (emptied p) (new_message p payload lifetime))).count)
effect_count p (receive bytes output) le =
    let m = message_from bytes in
    let q = with_waiting p (p.waiting ++ (m ∷ [])) in
    cond_both (λ (s : Settled). length s.handed ≤ 33) (ready p m) (λ _. omega (arith, le, (settle_settles (hand p m)).count))
    (λ _. omega (arith, le, (settle_settles q).count, length-append p.waiting (m ∷ [])))
effect_count p (clock time output) le =
    omega (arith, le, (settle_settles (drop_lapsed (with_time p time))).count, length-alive (with_time p time) p.waiting)
effect_count p (set_back reading) le = omega arith

-- ---- which

settle-readable : (p : Panel) → EachReadable p.waiting → EachReadable (settle p).handed
settle-readable p each m i = each m ((settle_settles p).handed m i)

hand_and_settle-readable : (p : Panel) (m : Message) → EachReadable p.waiting → Readable width m → EachReadable (hand_and_settle p m).handed
unfolding hand_and_settle hand
hand_and_settle-readable p m each r w (first e) = rw e r
hand_and_settle-readable p m each r w (later i) = settle-readable (hand p m) each w i

pub sending-readable : (p : Panel) (payload : List ℕ) (lifetime : ℕ) → EachReadable p.waiting → Readable width (new_message p payload lifetime)
    → EachReadable (sending p payload lifetime).handed
unfolding sending
sending-readable p payload lifetime each r = hand_and_settle-readable (emptied p) (new_message p payload lifetime) each r

pub receiving-readable : (p : Panel) (m : Message) → EachReadable p.waiting → Readable width m → EachReadable (receiving p m).handed
unfolding receiving
receiving-readable p m each r =
    cond_both (λ (s : Settled). EachReadable s.handed) (ready p m) (λ _. hand_and_settle-readable p m each r)
    (λ _. settle-readable (with_waiting p (p.waiting ++ (m ∷ []))) (λ w i. ⊎_elim (each w) (λ e. rw e r) (is_in_end p.waiting i)))

pub clocking-readable : (p : Panel) (time : ℕ) → EachReadable p.waiting → EachReadable (clocking p time).handed
unfolding clocking
clocking-readable p time each =
    settle-readable (drop_lapsed (with_time p time)) (λ w i. each w (is_in_alive (with_time p time) p.waiting w i).0)
