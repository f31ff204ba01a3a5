-- Laws of a step of settling: the message at a place is handed, and settling goes on or has ended. Assumes nothing.
use Prim.Native.Nat.{ℕ, suc, ◌+◌, ◌-◌, ◌≤◌, ◌<◌, max}
use native.Mathlib.Nat.{add-zero}
use native.Mathlib.Omega.{arith}
use mathlib.Core.Path.{◌≡◌, refl, sym, ap, ◌∙◌}
use mathlib.Core.Option.{none, some}
use mathlib.Core.List.{List, [], ◌∷◌}
use lib.ListN.{length, get_or, take}
use Rattle.std.specs.Prelude.{Option, Some, None}
use Rattle.numbers.specs.Buffer.{over}
use Rattle.numbers.proofs.Over.{over-nil, over-over}
use Rattle.frame.specs.Message.{Message, message_of}
use Rattle.frame.specs.Reading.{message_in}
use Rattle.rules.specs.Sizes.{width, log_record_length}
use Rattle.rules.specs.Panel.{Panel}
use Rattle.rules.specs.Handing.{raise, shortened, barrier_for, missed, hand, log_record, log_records}
use Rattle.rules.specs.Settling.{choice, without, with_waiting, waiting_at, Settled, go_on, settle}
use Rattle.rules.proofs.Choice.{choice-some}
use Rattle.rules.proofs.Settling.{settle_step}
use Rattle.slots.specs.Slots.{Listed, frame_at, held}
use Rattle.choosing.specs.Choice.{asking, first_in}
use Rattle.choosing.specs.declared.First.{First}
use Rattle.choosing.proofs.Choosing.{first_in-none, first_in-some}
use Rattle.choosing.proofs.Holding.{length_listed, held_at}
use Rattle.handing.proofs.LogRecord.{length-readable}
use Rattle.slots.specs.declared.Places.{Places}
use Rattle.lent.specs.Record.{Known}
use Rattle.handing.specs.Handed.{with_handed}
use Rattle.settling.specs.Record.{Settling, Stage, stage, stage_at, panel_at, output_place, Leaves, Settles, Logged}
use Rattle.settling.proofs.Leaving.{take_leaves, listed_leaves, held-without}

-- ---- one is handed

-- a message that has left the list was handed
abbrev pub one_handed : Settling → ℕ → ℕ → Settling
one_handed s high floor =
    record { own = s.own; time = s.time; high = high; waiting = s.waiting - 1; handed = s.handed + 1; floor = floor }

-- the record once the message at a place has left the list and was handed
abbrev handed_from : Panel → ℕ → Panel
handed_from p place = hand (with_waiting p (without place p.waiting)) (waiting_at p place)

-- the message at a place has left the list and was handed
pub record HandedAt (slots : List ℕ) (place : ℕ) (before after : Stage) : Type 0 where
  pub panel : panel_at slots after ≡ handed_from (panel_at slots before) place
  pub output : after.output ≡ over before.output (output_place before.left) (log_record (waiting_at (panel_at slots before) place))
  pub handed : after.left.handed ≡ before.left.handed + 1
  pub listed : Listed slots after.left.waiting after.places
  pub long : length after.places ≡ length before.places

module _ (slots : List ℕ) (place : ℕ) (s : Settling) (places marks barrier output : List ℕ) (left : Places) (m : Message)
    (listed : Listed slots s.waiting places) (long : length places ≡ 32)
    (lt : place < s.waiting) (is : message_in width (frame_at slots (get_or places place 0)) ≡ m)
    (leaves : Leaves place (record { count = s.waiting; slots = places }) left) where
  abbrev rest : List ℕ
  rest = left.slots

  abbrev before : Stage
  before = stage s places marks barrier output

  one : s.waiting - 1 + 1 ≡ s.waiting
  one = omega arith

  messages : held slots (take (s.waiting - 1) rest) ≡ without place (held slots (take s.waiting places))
  messages =
      ap (held slots)
      (take_leaves places s.waiting place rest (s.waiting - 1) one (λ k h. leaves.moves k (omega arith)) lt (omega (arith, listed.few)) (omega (arith, listed.few, leaves.long)))
      ∙ held-without slots (take s.waiting places) place

  it : waiting_at (panel_at slots before) place ≡ m
  it = held_at slots s.waiting places place (message_of 0 0 [] []) listed (omega (arith, listed.few)) lt ∙ is

  -- the floor, risen by the entries of the message
  abbrev risen : ℕ
  risen = max s.floor (missed s.time s.floor (λ panel. get_or marks panel 0) m.entries)

  handed_one : HandedAt slots place before
      (stage (one_handed s (max s.high m.deadline) risen) rest (raise marks m) (raise (shortened barrier m.entries) m) (over output (output_place s) (log_record m)))
  unfolding hand barrier_for
  handed_one =
      record {
        panel = rw it (simp messages);
        output = rw it refl;
        handed = refl;
        listed = listed_leaves places s.waiting place rest (s.waiting - 1) one (λ k h. leaves.moves k (omega arith)) slots listed;
        long = leaves.long;
      }

  -- what the panel knew
  abbrev knew : Known
  knew = record { own = s.own; time = s.time; high = s.high; marks = marks; barrier = barrier; floor = s.floor }

  pub handed_at : (knows : Known) (handed : ℕ) (written : List ℕ)
      → knows ≡ with_handed knew (max s.high m.deadline) (raise marks m) (raise (shortened barrier m.entries) m) risen
      → handed ≡ s.handed + 1 → written ≡ over output (output_place s) (log_record m)
      → HandedAt slots place before (stage_at knows left.count left.slots handed written)
  handed_at knows handed written ek eh eo =
      let count : left.count ≡ s.waiting - 1 = omega (arith, leaves.one) in
      rw (ek, eh, eo, count) handed_one

-- ---- a step of settling

-- nothing was handed
pub logged_none : (before after : Stage) (ms : List Message) → ms ≡ [] → after.output ≡ before.output → after.left.handed ≡ before.left.handed
    → Logged ms before after
unfolding log_records
logged_none before after ms empty output handed =
    let at = output_place before.left in
    record {
      output = output ∙ sym (ap (λ (l : List Message). over before.output at (log_records l)) empty ∙ over-nil before.output at);
      handed = handed ∙ sym (ap (λ (l : List Message). before.left.handed + length l) empty ∙ add-zero before.left.handed);
    }

module _ (slots : List ℕ) (s : Stage) where
  settles_end : Listed slots s.left.waiting s.places → choice (panel_at slots s) (panel_at slots s).waiting ≡ none → Settles slots s s
  unfolding go_on log_records
  settles_end listed e =
      let p = panel_at slots s in
      let all : settle p ≡ record { panel = p; handed = [] } = settle_step p ∙ ap (go_on settle p) e in
      record {
        panel = ap (λ (x : Settled). x.panel) (sym all);
        logged = logged_none s s (settle p).handed (ap (λ (x : Settled). x.handed) all) refl refl;
        listed = listed;
        long = refl;
      }

  settles_on : (place : ℕ) (t u : Stage) → choice (panel_at slots s) (panel_at slots s).waiting ≡ some place
      → output_place s.left ≤ length s.output → length (log_record (waiting_at (panel_at slots s) place)) ≡ log_record_length
      → HandedAt slots place s t → Settles slots t u → Settles slots s u
  unfolding go_on log_records
  settles_on place t u e room size h rest =
      let p = panel_at slots s in
      let q = panel_at slots t in
      let m = waiting_at p place in
      let at = output_place s.left in
      let bs = log_records (settle q).handed in
      let all : settle p ≡ record { panel = (settle q).panel; handed = m ∷ (settle q).handed } =
      settle_step p
      ∙ ap (go_on settle p) e
      ∙ ap {B = Settled} (λ (x : Panel). record { panel = (settle x).panel; handed = m ∷ (settle x).handed }) (sym h.panel) in
      let count : length (settle p).handed ≡ suc (length (settle q).handed) = ap (λ (x : Settled). length x.handed) all in
      record {
        panel = rest.panel ∙ ap (λ (x : Settled). x.panel) (sym all);
        logged =
            record {
              output =
                  rest.logged.output
                  ∙ ap (λ (l : List ℕ). over l (output_place t.left) bs) h.output
                  ∙ over-over s.output at (log_record m) (output_place t.left) bs (omega (arith, h.handed, size)) room
                  ∙ ap (λ (x : Settled). over s.output at (log_records x.handed)) (sym all);
              handed = omega (arith, rest.logged.handed, h.handed, count);
            };
        listed = rest.listed;
        long = rest.long ∙ h.long;
      }

-- a step as the code takes it, from what `choice` found
module _ (slots : List ℕ) (s : Stage) (listed : Listed slots s.left.waiting s.places)
    (long : length s.places ≡ 32) where
  abbrev found : Option First
  found = first_in (panel_at slots s).waiting (choice (asking s.marks s.left.time s.left.floor) (panel_at slots s).waiting)

  pub settles_none : None ≡ found → Settles slots s s
  settles_none is = settles_end slots s listed (first_in-none (panel_at slots s) (panel_at slots s).waiting (sym is))

  few : s.left.waiting ≤ length s.places
  few = omega (arith, listed.few)

  module _ (first : First) (is : Some first ≡ found) where
    found_some : choice (panel_at slots s) (panel_at slots s).waiting ≡ some first.place
    found_some = first_in-some (panel_at slots s) (panel_at slots s).waiting first (sym is)

    pub found_below : first.place < s.left.waiting
    found_below =
        let p = panel_at slots s in
        omega (arith, (choice-some p p.waiting (waiting_at p 0) first.place found_some).0, length_listed slots s.left.waiting s.places few)

    length_found : length (log_record (waiting_at (panel_at slots s) first.place)) ≡ log_record_length
    length_found =
        rw (held_at slots s.left.waiting s.places first.place (message_of 0 0 [] []) listed few found_below)
        (length-readable _ (listed.reads first.place found_below))

    pub settles_some : output_place s.left ≤ length s.output → (t u : Stage) → HandedAt slots first.place s t → Settles slots t u
        → Settles slots s u
    settles_some room t u h rest = settles_on slots s first.place t u found_some room length_found h rest
