-- What fresh does in place.
use Rattle.std.specs.Prelude.{ℕ, ◌≡◌, replicate}
use Rattle.rules.specs.Refusals.{fresh_number, fresh_record}
use Rattle.slots.specs.Slots.{slots_length}
use Rattle.lent.specs.Record.{Parts, record_of}

-- what fresh answers, and leaves in the parts: the record that document 01 gives for that number, and slots of zeros
abbrev pub FreshInPlace : ℕ → ℕ → Parts → Type 0
FreshInPlace number answer after =
    (answer ≡ fresh_number number) × (record_of after ≡ fresh_record number) × (after.slots ≡ replicate slots_length 0)
