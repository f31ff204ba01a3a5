-- Text put into a buffer.
use Rattle.std.specs.Prelude.{ℕ, ◌+◌, ◌≤◌, ◌≡◌, List, length}
use Rattle.numbers.specs.Buffer.{over}
use Rattle.text.specs.declared.Text.{Text}

-- there is room for so many bytes from a place on
abbrev pub Room : List ℕ → ℕ → ℕ → Type 0
Room buffer at size = at + size ≤ length buffer

-- the text stands in the buffer from a place on, the bytes before and behind keep their content, the buffer its length, and the answer is the
-- place behind the text
pub record Put (buffer : List ℕ) (at : ℕ) (text after : List ℕ) (behind : ℕ) : Type 0 where
  pub bytes : after ≡ over buffer at text
  pub kept : length after ≡ length buffer
  pub place : behind ≡ at + length text

-- there is room for so many bytes behind a text in lent memory
abbrev pub RoomBehind : Text → ℕ → Type 0
RoomBehind t size = Room t.buffer.now t.at size

-- the bytes are put behind it, and its buffer is still the one that was lent
pub record PutBehind (before : Text) (text : List ℕ) (after : Text) : Type 0 where
  pub put : Put before.buffer.now before.at text after.buffer.now after.at
  pub same : after.buffer.ghost_name ≡ before.buffer.ghost_name
