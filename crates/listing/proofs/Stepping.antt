-- A step of the listing, one law for each way that it ends. Assumes nothing.
use mathlib.Core.Path.{◌≡◌, refl, sym, ap}
use mathlib.Core.Bool.{false}
use mathlib.Core.List.{List, [], ◌++◌, append_assoc}
use Prim.Native.Nat.{ℕ, ◌+◌, ◌*◌, ◌≤◌}
use native.Mathlib.Omega.{arith}
use lib.ListN.{length, length-append, replicate}
use Rattle.std.specs.Prelude.{Some, None}
use Rattle.std.proofs.Common.{Continue, Break}
use Rattle.bundle.specs.declared.Step.TheVariants.{Frame, End, Broken}
use Rattle.bundle.specs.Bundle.{step_at, frame_at}
use Rattle.bundle.proofs.Steps.{step_found}
use Rattle.rules.specs.Sizes.{output_length}
use Rattle.rules.specs.Panel.{Panel}
use Rattle.rules.specs.Results.{Result, receive, Promised}
use Rattle.rules.proofs.Theorems.{count_33}
use Rattle.parts.specs.declared.answer.Answer.{Answer}
use Rattle.parts.specs.Record.{answered}
use Rattle.text.specs.declared.Text.{Text}
use Rattle.text.specs.Text.{ascii}
use Rattle.text.specs.Put.{RoomBehind, PutBehind}
use Rattle.text.proofs.Puts.{put_behind}
use Rattle.lines.specs.Lines.{frame_line, hand_lines}
use Rattle.lines.proofs.Lines.{no_lines}
use Rattle.lines.proofs.LinesLent.{no_lines_lent}
use Rattle.listing.specs.declared.Listing.{Listing}
use Rattle.listing.specs.Listing.{lines_of, lines_at, onward, state_after, goes_on, received}
use Rattle.listing.specs.Step.{standing, reached, state_at, step_room, Placed, Stepped, SteppedLent}

-- the frame at the listing's place was received, as promised
module _ (bundle : List ℕ) (before : Panel) (given : Listing) {start size next : ℕ} (frame : step_at bundle given.place ≡ Frame start size next)
    (answer : Answer) (after : Panel) (bytes output : List ℕ) (part : bytes ≡ frame_at bundle given.place)
    (promised : Promised before (receive bytes (replicate output_length 0)) (answered answer after output [])) where
  result : answered answer after output [] ≡ received bundle (state_at before given)
  unfolding received
  result = rw part at promised

  pub few_handed : answer.count ≤ 33
  few_handed =
      let count = ap (λ (r : Result). r.count) promised in
      omega (arith, count_33 before (receive bytes (replicate output_length 0)))

  frame_lines : lines_at bundle (state_at before given) ≡ lines_of (Frame start size next) (given.frames + 1) (answered answer after output [])
  unfolding lines_at
  frame_lines = rw (frame, ← result)

  frame_state : state_after bundle (state_at before given)
      ≡ onward (Frame start size next) (state_at before given) (answered answer after output [])
  unfolding state_after
  frame_state = rw (frame, ← result)

  -- ---- behind a text of fixed capacity

  -- its line is put, and those of the log records
  pub taken_stepped : {text first last : List ℕ} → Placed bundle given.place given.frames
      → first ≡ text ++ frame_line (given.frames + 1) answer.number
      → length first ≤ length text + 48
      → last ≡ first ++ hand_lines answer.count output
      → length last ≤ length first + answer.count * 112
      → Stepped bundle (state_at before given) text (standing after (Some (record { place = next; frames = given.frames + 1 }))) last
  taken_stepped {text} {first} {last} placed line line_short lines lines_short =
      let few = few_handed in
      let found = step_found bundle given.place start size next frame in
      record {
        lines = rw (frame_lines, lines, line) (append_assoc text (frame_line (given.frames + 1) answer.number) (hand_lines answer.count output));
        panel = rw frame_state refl;
        state = sym frame_state;
        more = rw frame refl;
        short = omega (arith, line_short, lines_short);
        placed = record { few = omega (arith, found.begins, found.ends, placed.few); within = found.within };
        further = omega (arith, found.begins, found.ends);
      }

  -- where it was refused only its line
  pub refused_stepped : {text last : List ℕ} → Placed bundle given.place given.frames → answer.count ≡ 0
      → last ≡ text ++ frame_line (given.frames + 1) answer.number
      → length last ≤ length text + 48
      → Stepped bundle (state_at before given) text (standing after (Some (record { place = next; frames = given.frames + 1 }))) last
  refused_stepped {text} {last} placed none line line_short =
      taken_stepped placed line line_short (rw none (no_lines last output)) (omega (arith, none))

  -- ---- behind a text in lent memory

  -- its line is put, and those of the log records
  pub taken_stepped_lent : {text first last : Text} → Placed bundle given.place given.frames
      → RoomBehind text step_room
      → PutBehind text (frame_line (given.frames + 1) answer.number) first
      → first.at ≤ text.at + 48
      → PutBehind first (hand_lines answer.count output) last
      → last.at ≤ first.at + answer.count * 112
      → SteppedLent bundle (state_at before given) text (reached after (Continue (record { place = next; frames = given.frames + 1 }))) last
  taken_stepped_lent placed room line line_short lines lines_short =
      let few = few_handed in
      let found = step_found bundle given.place start size next frame in
      record {
        lines = rw frame_lines (put_behind (omega (arith, room)) line lines);
        state = sym frame_state;
        more = rw frame refl;
        short = omega (arith, line_short, lines_short);
        placed = record { few = omega (arith, found.begins, found.ends, placed.few); within = found.within };
        further = omega (arith, found.begins, found.ends);
      }

  -- where it was refused only its line
  pub refused_stepped_lent : {text last : Text} → Placed bundle given.place given.frames → answer.count ≡ 0
      → RoomBehind text step_room
      → PutBehind text (frame_line (given.frames + 1) answer.number) last
      → last.at ≤ text.at + 48
      → SteppedLent bundle (state_at before given) text (reached after (Continue (record { place = next; frames = given.frames + 1 }))) last
  refused_stepped_lent {last = last} placed none room line line_short =
      taken_stepped_lent placed room line line_short (rw none (no_lines_lent last output)) (omega (arith, none))

-- ---- behind a text of fixed capacity

-- the last line was put
module _ {bundle : List ℕ} {before : Panel} {given : Listing} {text after : List ℕ} where
  last_stepped : (line : List ℕ) → lines_at bundle (state_at before given) ≡ line
      → state_after bundle (state_at before given) ≡ state_at before given
      → goes_on (step_at bundle given.place) ≡ false
      → length line ≤ step_room
      → after ≡ text ++ line
      → Stepped bundle (state_at before given) text (standing before None) after
  last_stepped line line-is stays over short put =
      record {
        lines = rw line-is put;
        panel = rw stays refl;
        state = tt;
        more = sym over;
        short = rw put (rw length-append (omega (arith, short)));
        placed = tt;
        further = tt;
      }

  pub end_stepped : step_at bundle given.place ≡ End → after ≡ text ++ ascii "end\n"
      → Stepped bundle (state_at before given) text (standing before None) after
  unfolding lines_at state_after ascii
  end_stepped end = last_stepped (ascii "end\n") (rw end refl) (rw end refl) (rw end refl) (omega arith)

  pub broken_stepped : step_at bundle given.place ≡ Broken → after ≡ text ++ ascii "broken\n"
      → Stepped bundle (state_at before given) text (standing before None) after
  unfolding lines_at state_after ascii
  broken_stepped broken = last_stepped (ascii "broken\n") (rw broken refl) (rw broken refl) (rw broken refl) (omega arith)

-- ---- behind a text in lent memory

-- the last line was put
module _ {bundle : List ℕ} {before : Panel} {given : Listing} {text after : Text} where
  last_stepped_lent : (line : List ℕ) → Placed bundle given.place given.frames
      → lines_at bundle (state_at before given) ≡ line
      → state_after bundle (state_at before given) ≡ state_at before given
      → goes_on (step_at bundle given.place) ≡ false
      → length line ≤ step_room
      → PutBehind text line after
      → SteppedLent bundle (state_at before given) text (reached before (Break given)) after
  last_stepped_lent line placed line-is stays over short put =
      record {
        lines = rw line-is put;
        state = sym stays;
        more = sym over;
        short = omega (arith, short, put.put.place);
        placed = placed;
        further = tt;
      }

  pub end_stepped_lent : Placed bundle given.place given.frames → step_at bundle given.place ≡ End → PutBehind text (ascii "end\n") after
      → SteppedLent bundle (state_at before given) text (reached before (Break given)) after
  unfolding lines_at state_after ascii
  end_stepped_lent placed end = last_stepped_lent (ascii "end\n") placed (rw end refl) (rw end refl) (rw end refl) (omega arith)

  pub broken_stepped_lent : Placed bundle given.place given.frames → step_at bundle given.place ≡ Broken → PutBehind text (ascii "broken\n") after
      → SteppedLent bundle (state_at before given) text (reached before (Break given)) after
  unfolding lines_at state_after ascii
  broken_stepped_lent placed broken = last_stepped_lent (ascii "broken\n") placed (rw broken refl) (rw broken refl) (rw broken refl) (omega arith)
