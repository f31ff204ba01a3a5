-- Frames that were sent, or carry the message of one that was: each reads, and no two messages have one name; and receives of them. Assumes nothing.
use Prim.Native.Nat.{ℕ}
use mathlib.Core.Path.{◌≡◌, refl, sym, ap, ◌∙◌, subst, subst⁻¹}
use mathlib.Core.Logic.{inl, ⊎_elim}
use mathlib.Core.List.Memᴰ
use mathlib.Core.List.Memᴰ.{head as first}
use mathlib.Core.List.Memᴰ.{tail as later}
use mathlib.Core.List.{List, [], ◌∷◌, ◌++◌, map}
use lib.ListN.{length, take}
use lib.Dec.{eqb}
use borrow.Author.Tests.{eqb-true}
use Rattle.frame.specs.Message.{Message}
use Rattle.frame.specs.Reading.{width_in, refusal_of, message_from}
use Rattle.frame.proofs.Readable.{Readable}
use Rattle.frame.proofs.Passed.{passed_zero, reading-message}
use Rattle.frame.proofs.Theorems.{reads_alike}
use Rattle.rules.specs.Sizes.{width}
use Rattle.rules.specs.Panel.{name_of, Make, Panel}
use Rattle.rules.specs.Calls.{new_message}
use Rattle.rules.specs.Results.{Call, send, receive, clock, set_back, Result, defined, Promised}
use Rattle.rules.specs.Lists.{◌is_in◌, Made, given_to, frames_sent, log_at, Sent, sends, CarriesSent, Given, Lawful, AllPromised}
use Rattle.rules.proofs.Booleans.{cond_both}
use Rattle.rules.proofs.Cause.{carried, SendsSound}
use Rattle.rules.proofs.Sound.{WasSent}
use Rattle.rules.proofs.Steps.{ListSound}
use Rattle.rules.proofs.Reached.{list_sound}
use Rattle.rules.proofs.Theorems.{sent_reads}
use Rattle.arrivals.specs.Arrival.{Heard, AllHeard}

-- ---- messages

pub sent_unique : {ss : List Sent} → SendsSound ss → {a b : Message} → WasSent ss a → WasSent ss b → name_of a ≡ name_of b → a ≡ b
sent_unique S (s, i, e) (t, j, f) same = sym e ∙ ap carried (S.unique s t i j (ap name_of e ∙ same ∙ sym (ap name_of f))) ∙ f

-- ---- frames

call_reads : (p : Panel) (ss : List Sent) (call : Call) → length p.barrier ≡ 64 → Given ss call (defined p call)
    → (frame : List ℕ) → frame is_in frames_sent call (defined p call) → refusal_of frame ≡ 0
unfolding Given frames_sent
call_reads p ss (send payload lifetime output buffer) len bytes frame =
    let result = defined p (send payload lifetime output buffer) in
    cond_both (λ (frames : List (List ℕ)). frame is_in frames → refusal_of frame ≡ 0) (eqb result.number 0)
    (λ e i.
    let written = take result.frame_length result.buffer in
    ap (λ (bs : List ℕ). refusal_of bs) (Memᴰ.eq_of_singleton i)
    ∙ passed_zero (width_in written) written
    (reading-message (width_in written) written (new_message p payload lifetime)
    (sent_reads p payload lifetime output buffer len bytes (eqb-true result.number 0 e))).0)
    (λ _ i. elim i [ ])
call_reads p ss (receive bytes output) len given frame = λ i. elim i [ ]
call_reads p ss (clock time output) len given frame = λ i. elim i [ ]
call_reads p ss (set_back reading) len given frame = λ i. elim i [ ]

pub sends_read : (list : List Made) → Lawful list → AllPromised list → (s : Sent) → s is_in sends list → refusal_of s.frame ≡ 0
unfolding sends
sends_read [] _ _ s i = elim i [ ]
sends_read (last ∷ earlier) (given, lawful) (promise, promised) s i =
    ⊎_elim (λ k. here (Memᴰ.of_map (λ frame. record { frame = frame; past = log_at last.at earlier }) (frames_sent last.call last.result) k))
    (sends_read earlier lawful promised s)
    (Memᴰ.append_cases (map (λ frame. record { frame = frame; past = log_at last.at earlier }) (frames_sent last.call last.result)) i)
  where
    reads : (frame : List ℕ) → frame is_in frames_sent last.call last.result → refusal_of frame ≡ 0
    reads =
        subst⁻¹ (λ (r : Result). Given (sends earlier) last.call r → (frame : List ℕ) → frame is_in frames_sent last.call r → refusal_of frame ≡ 0) promise
        (call_reads (given_to last.at last.make earlier) (sends earlier) last.call ((list_sound earlier lawful promised).sites last.at).sound.summary.barrier_64)
        given

    here : (frame : List ℕ) × (frame is_in frames_sent last.call last.result) × (record { frame = frame; past = log_at last.at earlier } ≡ s)
        → refusal_of s.frame ≡ 0
    here (frame, k, e) = ap (λ (t : Sent). refusal_of t.frame) (sym e) ∙ reads frame k

-- ---- the list with these receives is one that demand 3 speaks of, and sends nothing more

given_receive : (ss : List Sent) (frame output : List ℕ) (result : Result) → CarriesSent ss frame → Given ss (receive frame output) result
unfolding Given
given_receive ss frame output result sent = inl sent

quiet_receive : (frame output : List ℕ) (result : Result) → frames_sent (receive frame output) result ≡ []
unfolding frames_sent
quiet_receive frame output result = refl

quiet_sends : (last : Made) (earlier : List Made) → frames_sent last.call last.result ≡ [] → sends (last ∷ earlier) ≡ sends earlier
unfolding sends
quiet_sends last earlier e = rw e refl

pub heard_lawful : (list : List Made) → Lawful list → (i : ℕ) (make : Make) (frames : List (List ℕ)) (heard : List Made)
    → AllHeard (sends list) i make frames heard → Lawful (heard ++ list) × (sends (heard ++ list) ≡ sends list)
heard_lawful list lawful i make [] (last ∷ heard) all = elim all [ ]
heard_lawful list lawful i make (frame ∷ frames) [] all = elim all [ ]
heard_lawful list lawful i make [] [] all = (lawful, refl)
heard_lawful list lawful i make (frame ∷ frames) (last ∷ heard) (H, all) =
    let (below, same) = heard_lawful list lawful i make frames heard all in
    let sent = subst⁻¹ (λ ss. CarriesSent ss frame) same H.was_sent in (
      (
        subst⁻¹ (λ (call : Call). Given (sends (heard ++ list)) call last.result) H.receives (given_receive _ frame H.output last.result sent),
        below,
      ),
      quiet_sends last (heard ++ list)
          (ap (λ (call : Call). frames_sent call last.result) H.receives ∙ quiet_receive frame H.output last.result) ∙ same,
    )

-- what carries the message of a frame that was sent reads as a message that was
abbrev pub AllRead : List Sent → Type 0
AllRead ss = (s : Sent) → s is_in ss → refusal_of s.frame ≡ 0

pub carries_sent : {ss : List Sent} → AllRead ss → (frame : List ℕ) → CarriesSent ss frame → (refusal_of frame ≡ 0) × WasSent ss (message_from frame)
carries_sent read frame (s, k, f) = let (reads, same) = reads_alike frame s.frame (read s k) f in (reads, (s, k, sym same))

-- so does each of the frames
pub frames_sent_lem : {ss : List Sent} → AllRead ss → (i : ℕ) (make : Make) (frames : List (List ℕ)) (heard : List Made) → AllHeard ss i make frames heard
    → (frame : List ℕ) → frame is_in frames → (refusal_of frame ≡ 0) × WasSent ss (message_from frame)
frames_sent_lem {ss = ss} read i make [] (last ∷ heard) all frame k = elim all [ ]
frames_sent_lem {ss = ss} read i make (x ∷ frames) [] all frame k = elim all [ ]
frames_sent_lem read i make [] [] all frame k = elim k [ ]
frames_sent_lem {ss} read i make (x ∷ frames) (last ∷ heard) (H, all) frame (first e) =
    carries_sent read frame (subst⁻¹ (CarriesSent ss) e H.was_sent)
frames_sent_lem read i make (x ∷ frames) (last ∷ heard) (H, all) frame (later k) = frames_sent_lem read i make frames heard all frame k

-- ---- a frame, and a list of demand 3 that sent it

pub record SentIn (list : List Made) (frame : List ℕ) : Type 0 where
  pub sound : ListSound list
  pub sent : WasSent (sends list) (message_from frame)
  pub read : refusal_of frame ≡ 0
  pub readable : Readable width (message_from frame)

-- so it is at each of the receives
pub sent_in : (list : List Made) → Lawful list → (i : ℕ) (make : Make) (frame : List ℕ) (frames : List (List ℕ)) (last : Made) (heard : List Made)
    → AllHeard (sends list) i make (frame ∷ frames) (last ∷ heard) → AllPromised (heard ++ list) → SentIn (heard ++ list) frame
sent_in list lawful i make frame frames last heard (H, all) promised =
    let (lawful', same) = heard_lawful list lawful i make frames heard all in
    let L = list_sound (heard ++ list) lawful' promised in
    let (reads, (s, k, e)) = carries_sent (sends_read (heard ++ list) lawful' promised) frame (subst⁻¹ (λ ss. CarriesSent ss frame) same H.was_sent) in
    record { sound = L; sent = (s, k, e); read = reads; readable = subst (Readable width) e (L.sends_sound.readable s k) }

-- and it gave what is defined for it
pub heard_promised : {ss : List Sent} {i : ℕ} {make : Make} {frame : List ℕ} {last : Made} (earlier : List Made) → (H : Heard ss i make frame last)
    → Promised (given_to last.at last.make earlier) last.call last.result
    → last.result ≡ defined (given_to i make earlier) (receive frame H.output)
heard_promised earlier H promise = promise ∙ (λ j. defined (given_to (H.there j) (H.of_make j) earlier) (H.receives j))
