-- The numbers that a message raises as it is put into the log. Assumes nothing.
use Rattle.std.proofs.Common.{◌≡◌, refl, ℕ, ◌<◌, List, max, slice_index_or, slice_set, arith}
use lib.ListN.{set}
use Rattle.frame.specs.Message.{Message}
use Rattle.frame.specs.Reading.{message_in}
use Rattle.frame.proofs.Passed.{zero_passed}
use Rattle.rules.specs.Sizes.{width}
use Rattle.rules.specs.Handing.{raise}
use Rattle.slots.specs.Slots.{Reads}
use Rattle.lent.specs.Record.{Known}
use Rattle.handing.specs.Handed.{with_handed}

pub source_few : (bs : List ℕ) (source : ℕ) → Reads bs → source ≡ (message_in width bs).source → source < 64
unfolding message_in
source_few bs source reads is = omega (arith, is, (zero_passed width bs reads).source)

-- high becomes the larger one
pub larger : (high deadline : ℕ) (m : Message) → deadline ≡ m.deadline → max deadline high ≡ max high m.deadline
larger high deadline m is = omega (arith, is)

-- the number of the source becomes the larger one
pub raised : (numbers : List ℕ) (m : Message) {source deadline number : ℕ} → source ≡ m.source → deadline ≡ m.deadline
    → number ≡ max (slice_index_or numbers source 0) deadline → slice_set numbers source number ≡ raise numbers m
unfolding raise
raised numbers m s d e = rw (e, s, d) refl

-- parts in which these four are the same are the same
pub same_handed : (p : Known) {high high' floor : ℕ} {marks marks' barrier barrier' : List ℕ} → high ≡ high' → marks ≡ marks' → barrier ≡ barrier'
    → with_handed p high marks barrier floor ≡ with_handed p high' marks' barrier' floor
same_handed p h m b = rw (h, m, b) refl
