-- Document 01, in its order, with what document 02 changes and adds: the panel record and its rules, the calls, what is turned down, what each
-- call gives; the words of demand 3, the statement that is proved of them; what is shown of
-- deadlines far ahead; and the cases.
--
-- How to read it. `f : A → B` names a function, and the lines below it say what it gives. `x ∷ xs` is the list xs with x in front, `[]` the empty
-- one, `xs ++ ys` one list behind the other; `get_or xs n 0` is what stands at place n, counted from 0, or 0 past the end; `set xs n y` has y there
-- instead; `take n xs` is the first n, `drop n xs` the rest; `replicate n y` is n times y; `map f xs` is f of each. `ltb`, `leb` and `eqb` test
-- for below, at most and equal; `&&` is and, `||` or; `cond test a b` is a where the test passes, else b. `p.time` is that field of p.
-- In statements `≡` is equal, `≢` not equal, `×` and, `⊎` or, `¬` not, `↔` exactly when; `(x : A) → ..` says it of every x, and `P → Q` says Q
-- where P holds. A capital begins the name of a kind of thing or of a statement.
pub mod Sizes
pub mod Panel
pub mod Handing
pub mod Settling
pub mod Calls
pub mod Refusals
pub mod Results
pub mod Lists
pub mod Lapsing
pub mod Demand3
pub mod FarAhead
pub mod Cases
pub mod FarAheadCases
pub mod BarrierCases
pub mod FloorCases
pub mod VersionCases
pub mod BenchCases
