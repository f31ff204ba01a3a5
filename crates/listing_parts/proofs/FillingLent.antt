-- A part of the listing in lent memory, put step after step, and what is left then. Assumes nothing.
use mathlib.Core.Path.{◌≡◌, refl, sym, ap, ◌∙◌}
use mathlib.Core.Bool.{Bool, cond}
use mathlib.Core.List.{List, [], ◌++◌, append_assoc}
use Prim.Native.Nat.{ℕ, suc, ◌+◌, ◌≤◌, ◌<◌}
use native.Mathlib.Omega.{arith}
use lib.ListN.{length, take}
use Rattle.std.proofs.Common.{ControlFlow, Continue, Break}
use Rattle.numbers.proofs.Over.{take-over}
use Rattle.rules.specs.Panel.{Panel}
use Rattle.text.specs.declared.Text.{Text}
use Rattle.text.specs.Put.{PutBehind}
use Rattle.text.proofs.Puts.{put_none, put_behind}
use Rattle.listing.specs.declared.Listing.{Listing}
use Rattle.listing.specs.Listing.{State, lines_at, state_after, lines_from}
use Rattle.listing.specs.Step.{reached, state_at, step_room, Placed, SteppedLent}
use Rattle.listing_parts.specs.Part.{left_in, part_in, at_start, PartPutLent}
use Rattle.listing.proofs.Theorems.{lines_from_enough}

-- before a step: its lines, and what is left after it
module _ {bundle : List ℕ} {given : State} {text after : Text} {p : Panel} where
  left_step : (next : ControlFlow Listing Listing) → SteppedLent bundle given text (reached p next) after
      → lines_from (suc (length bundle)) bundle given ≡ lines_at bundle given ++ left_in bundle p next
  unfolding lines_from
  left_step (Break l) stepped =
      ap (λ (b : Bool). lines_at bundle given ++ cond b (lines_from (length bundle) bundle (state_after bundle given)) []) (sym stepped.more)
  left_step (Continue l) stepped =
      ap (λ (b : Bool). lines_at bundle given ++ cond b (lines_from (length bundle) bundle (state_after bundle given)) []) (sym stepped.more)
      ∙ ap (λ (s : State). lines_at bundle given ++ lines_from (length bundle) bundle s) (sym stepped.state)
      ∙ ap (λ (rest : List ℕ). lines_at bundle given ++ rest)
      (sym (lines_from_enough (length bundle) bundle (state_at p l) stepped.placed.within (omega (arith, stepped.further))))

-- the lines put so far, and where the listing stands then
pub record FillingLent (bundle : List ℕ) (given : State) (text : Text) (p : Panel) (l : Listing) (now : Text) : Type 0 where
  pub lines : List ℕ
  pub put : PutBehind (at_start text) lines now
  pub room : now.at ≤ length text.buffer.now
  pub left : lines_from (suc (length bundle)) bundle given ≡ lines ++ lines_from (suc (length bundle)) bundle (state_at p l)
  pub onward : given.place ≤ l.place
  pub further : 0 < now.at → given.place < l.place
  pub placed : Placed bundle l.place l.frames

-- none yet
pub filling_none_lent : {bundle : List ℕ} {p : Panel} {l : Listing} (text : Text) → Placed bundle l.place l.frames
    → FillingLent bundle (state_at p l) text p l (at_start text)
filling_none_lent text placed =
    record {
      lines = [];
      put = put_none (at_start text);
      room = omega arith;
      left = refl;
      onward = omega arith;
      further = λ some. absurd (omega arith);
      placed = placed;
    }

-- they are the part that was put
part_lines : (text : Text) {after : Text} {lines : List ℕ} → PutBehind (at_start text) lines after → part_in after ≡ lines
part_lines text {after} {lines} put =
    let size : after.at ≡ length lines = omega (arith, put.put.place) in
    ap (λ (n : ℕ). take n after.buffer.now) size
    ∙ ap (take (length lines)) put.put.bytes
    ∙ take-over text.buffer.now lines

module _ {bundle : List ℕ} {given : State} {text : Text} {p q : Panel} {l : Listing} {now after : Text} (filling : FillingLent bundle given text p l now) where
  -- what was left is the lines so far, those of one step more, and what is left then
  left_more : (next : ControlFlow Listing Listing) → SteppedLent bundle (state_at p l) now (reached q next) after
      → lines_from (suc (length bundle)) bundle given ≡ (filling.lines ++ lines_at bundle (state_at p l)) ++ left_in bundle q next
  left_more next stepped =
      filling.left
      ∙ ap (λ (rest : List ℕ). filling.lines ++ rest) (left_step next stepped)
      ∙ sym (append_assoc filling.lines (lines_at bundle (state_at p l)) (left_in bundle q next))

  put_more : (next : ControlFlow Listing Listing) → SteppedLent bundle (state_at p l) now (reached q next) after
      → PutBehind (at_start text) (filling.lines ++ lines_at bundle (state_at p l)) after
  put_more next stepped = put_behind (omega arith) filling.put stepped.lines

  -- the listing goes on after it
  pub filling_step_lent : {m : Listing} → now.at + step_room ≤ length text.buffer.now → SteppedLent bundle (state_at p l) now (reached q (Continue m)) after
      → FillingLent bundle given text q m after
  filling_step_lent {m} room stepped =
      record {
        lines = filling.lines ++ lines_at bundle (state_at p l);
        put = put_more (Continue m) stepped;
        room = omega (arith, room, stepped.short);
        left = left_more (Continue m) stepped;
        onward = omega (arith, filling.onward, stepped.further);
        further = λ _. omega (arith, filling.onward, stepped.further);
        placed = stepped.placed;
      }

  -- or ends
  pub filled_last_lent : {m : Listing} → SteppedLent bundle (state_at p l) now (reached q (Break m)) after
      → PartPutLent bundle given text (reached q (Break m)) after
  filled_last_lent {m} stepped =
      let put = put_more (Break m) stepped in
      let part = part_lines text put in
      record { put = rw part put; lines = rw part (left_more (Break m) stepped); full = tt; further = tt; placed = stepped.placed }

-- or no room is left for one more
pub filled_lent : {bundle : List ℕ} {given : State} {text : Text} {p : Panel} {l : Listing} {now : Text} → FillingLent bundle given text p l now
    → length text.buffer.now < now.at + step_room
    → PartPutLent bundle given text (reached p (Continue l)) now
filled_lent {text = text} filling full =
    let part = part_lines text filling.put in
    record {
      put = rw part filling.put;
      lines = rw part filling.left;
      full = full;
      further = λ room. filling.further (omega (arith, full));
      placed = filling.placed;
    }
