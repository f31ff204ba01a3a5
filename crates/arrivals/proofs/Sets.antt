-- Lists that hold each thing once, and what of two lists has the same things in them. Assumes nothing.
use Prim.Native.Nat.{ℕ}
use native.Mathlib.Decide.{ℕ_discrete}
use mathlib.Core.Path.{◌≡◌, refl}
use mathlib.Core.Logic.{inl, inr, ∥∥₁_map, ∥∥₁_elim}
use mathlib.Core.HLevel.{⊥_prop}
use mathlib.Core.List.Memᴰ
use mathlib.Core.List.Memᴰ.{head as first}
use mathlib.Core.List.Memᴰ.{tail as later}
use mathlib.Core.List.Perm
use mathlib.Core.List.{List, [], ◌∷◌, map, Memᴰ, Mem, List-discrete, Perm, Nodup, Nodup-nil, Nodup-cons, perm_ext_iff_of_Nodup}
use Rattle.frame.specs.Message.{Message}
use Rattle.rules.specs.Panel.{Name}
use Rattle.rules.specs.Lists.{◌is_in◌}
use Rattle.rules.specs.Demand3.{Ahead}
use Rattle.rules.proofs.WaitingList.{Distinct}
use Rattle.arrivals.specs.Arrival.{SameFrames, SameSet}

-- ---- none twice

-- where no two have one name
pub names_once : {A : Type 0} (name : A → Name) (xs : List A) → ((n : Name) → ¬ Ahead n n (map name xs)) → Nodup xs
names_once name [] once = Nodup-nil
names_once name (x ∷ xs) once =
    Nodup-cons.1 (
      λ i. ∥∥₁_elim i ⊥_prop (λ k. once (name x) (inl (refl, Memᴰ.map name k))),
      names_once name xs (λ n a. once n (inr a)),
    )

pub Distinct_once : (ms : List Message) → Distinct ms → Nodup ms
Distinct_once [] d = Nodup-nil
Distinct_once (m ∷ ms) d = Nodup-cons.1 (λ i. ∥∥₁_elim i ⊥_prop (λ k. d.0 m k refl), Distinct_once ms d.1)

-- ---- the same things

pub same_set : {A : Type 0} {xs ys : List A} → Nodup xs → Nodup ys → ((x : A) → x is_in xs → x is_in ys)
    → ((x : A) → x is_in ys → x is_in xs) → SameSet xs ys
same_set {A} {xs} {ys} once once-too there back =
    record {
      same = λ x. (there x, back x);
      once = once;
      reordered = (perm_ext_iff_of_Nodup once once-too).1
          (λ x. (λ i. ∥∥₁_map {B = Memᴰ x ys} i (there x), λ i. ∥∥₁_map {B = Memᴰ x xs} i (back x)));
    }

-- ---- frames in another order

is_in_or_not : (frame : List ℕ) (frames : List (List ℕ)) → Dec (frame is_in frames)
is_in_or_not frame [] = no (λ i. elim i [ ])
is_in_or_not frame (x ∷ xs) = step (List-discrete ℕ_discrete frame x) (is_in_or_not frame xs)
  where
    step : Dec (frame ≡ x) → Dec (frame is_in xs) → Dec (frame is_in x ∷ xs)
    step (yes e) rest = yes (first e)
    step (no ne) (yes i) = yes (later i)
    step (no ne) (no out) = no (λ (i : frame is_in x ∷ xs). apart i)
      where
        apart : frame is_in x ∷ xs → ⊥
        apart (first e) = ne e
        apart (later i) = out i

is_in_found : (frame : List ℕ) (frames : List (List ℕ)) → Mem frame frames → frame is_in frames
is_in_found frame frames i = go (is_in_or_not frame frames)
  where
    go : Dec (frame is_in frames) → frame is_in frames
    go (yes k) = k
    go (no out) = absurd (∥∥₁_elim i ⊥_prop out)

-- A list of frames in another order has the same frames.
pub permuted_frames : {one two : List (List ℕ)} → Perm one two → SameFrames one two
permuted_frames {one} {two} permuted = (
  λ frame i. (frame, is_in_found frame two ((Perm.mem_iff permuted).0 ∣ i ∣₁), refl),
  λ frame i. (frame, is_in_found frame one ((Perm.mem_iff permuted).1 ∣ i ∣₁), refl),
)
