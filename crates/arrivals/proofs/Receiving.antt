-- What one receive hands, keeps and takes. Assumes nothing.
use Prim.Native.Nat.{ℕ, ◌+◌, ◌≤◌, ◌<◌}
use native.Mathlib.Omega.{arith}
use mathlib.Core.Path.{◌≡◌, refl}
use mathlib.Core.Logic.{◌⊎◌, inl, inr, ⊎_elim}
use mathlib.Core.List.Memᴰ
use mathlib.Core.List.Memᴰ.{head as first}
use mathlib.Core.List.Memᴰ.{tail as later}
use mathlib.Core.List.{List, [], ◌∷◌, ◌++◌, map}
use Rattle.frame.specs.Message.{Message}
use Rattle.frame.specs.Reading.{message_from}
use Rattle.frame.proofs.Readable.{Readable}
use Rattle.rules.specs.Sizes.{width}
use Rattle.rules.specs.Panel.{name_of, Panel, ready}
use Rattle.rules.specs.Handing.{hand, log_record}
use Rattle.rules.specs.Settling.{with_waiting, Settled, settle}
use Rattle.rules.specs.Calls.{hand_and_settle, receiving}
use Rattle.rules.specs.Refusals.{farthest_ahead}
use Rattle.rules.specs.Results.{receive, Result, refused, done, defined}
use Rattle.rules.specs.Lists.{◌is_in◌, names_in}
use Rattle.rules.proofs.Booleans.{cond_both}
use Rattle.rules.proofs.Ready.{limit}
use Rattle.rules.proofs.WaitingList.{is_in_end}
use Rattle.rules.proofs.Settling.{Settles, settle_settles}
use Rattle.rules.proofs.LogRecords.{names_in-over}
use Rattle.rules.proofs.Handed.{receiving-readable}
use Rattle.rules.proofs.Checks.{receive_passed}
use Rattle.rules.proofs.Results.{defined_both}
use Rattle.arrivals.specs.Arrival.{records_in}
use Rattle.arrivals.proofs.Records.{records_in-over}
use Rattle.arrivals.proofs.HandAll.{bare, hand_all, receiving_hands}

-- a message that can be taken at a panel, which has a number below 64: alive, and not too far ahead
abbrev pub Takeable : Panel → Message → Type 0
Takeable p m = (p.own < 64) × (limit p ≤ m.deadline) × (m.deadline ≤ p.time + farthest_ahead)

-- it was handed, or waits
abbrev pub Here : Settled → Message → Type 0
Here s w = (w is_in s.handed) ⊎ (w is_in s.panel.waiting)

-- ---- what comes of the messages that waited, and of the one received

record Kept (p : Panel) (m : Message) (s : Settled) : Type 0 where
  kept : (w : Message) → w is_in p.waiting → Here s w
  new : Here s m
  only : (w : Message) → Here s w → (w is_in p.waiting) ⊎ (w ≡ m)

-- the record with m at the end of its list
abbrev entered : Panel → Message → Panel
entered p m = with_waiting p (p.waiting ++ (m ∷ []))

receiving_kept : (p : Panel) (m : Message) → Kept p m (receiving p m)
unfolding receiving hand_and_settle hand
receiving_kept p m =
    cond_both (Kept p m) (ready p m) (λ _. handed (settle_settles (hand p m))) (λ _. enters (settle_settles (entered p m)))
  where
    handed : Settles (hand p m) (settle (hand p m)) → Kept p m (record { panel = (settle (hand p m)).panel; handed = m ∷ (settle (hand p m)).handed })
    handed T =
        record {
          kept = λ w i. ⊎_elim (λ k. inr k) (λ k. inl (later k)) (T.kept w i);
          new = inl (first refl);
          only = λ w h. ⊎_elim (one w) (λ k. inl (T.left w k)) h;
        }
      where
        one : (w : Message) → w is_in m ∷ (settle (hand p m)).handed → (w is_in p.waiting) ⊎ (w ≡ m)
        one w (first e) = inr e
        one w (later k) = inl (T.handed w k)

    enters : Settles (entered p m) (settle (entered p m)) → Kept p m (settle (entered p m))
    enters T =
        record {
          kept = λ w i. ⊎_elim (λ k. inr k) (λ k. inl k) (T.kept w (Memᴰ.append_left _ i));
          new = ⊎_elim (λ k. inr k) (λ k. inl k) (T.kept m (Memᴰ.append_right p.waiting (first refl)));
          only = λ w h. is_in_end p.waiting (⊎_elim (T.handed w) (T.left w) h);
        }

-- ---- the call, refused or not

-- what it left, as the messages handed have it
pub record Received (p : Panel) (m : Message) (result : Result) (s : Settled) : Type 0 where
  pub left : result.panel ≡ s.panel
  pub names : names_in result.count result.output ≡ map name_of s.handed
  pub records : records_in result.count result.output ≡ map log_record s.handed
  pub hands : bare s.panel ≡ hand_all (bare p) s.handed
  pub kept : (w : Message) → w is_in p.waiting → Here s w
  pub only : (w : Message) → Here s w → (w is_in p.waiting) ⊎ ((w ≡ m) × Takeable p m)
  pub taken : result.number ≡ 0 → Here s m

pub received : (p : Panel) (bytes output : List ℕ) → Readable width (message_from bytes)
    → (s : Settled) × Received p (message_from bytes) (defined p (receive bytes output)) s
unfolding refused done names_in records_in hand_all
received p bytes output readable =
    let m = message_from bytes in
    defined_both (λ r. (s : Settled) × Received p m r s) p (receive bytes output)
    (λ n e. (
      record { panel = p; handed = [] },
      record {
        left = refl;
        names = refl;
        records = refl;
        hands = refl;
        kept = λ w i. inr i;
        only = λ w h. inl (⊎_elim (λ i. elim i [ ]) (λ i. i) h);
        taken = λ z. absurd (omega (arith, z));
      },
    ))
    (λ e.
    let P = receive_passed p bytes output e in
    let each = receiving-readable p m P.valid.waiting readable in
    let K = receiving_kept p m in (
      receiving p m,
      record {
        left = refl;
        names = names_in-over (receiving p m).handed output each;
        records = records_in-over (receiving p m).handed output each;
        hands = receiving_hands p m;
        kept = K.kept;
        only = λ w h. ⊎_elim (λ i. inl i) (λ q. inr (q, (P.valid.own, P.alive, P.near))) (K.only w h);
        taken = λ _. K.new;
      },
    ))
