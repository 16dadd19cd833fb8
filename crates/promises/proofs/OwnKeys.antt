-- Only a worker's own key changes. Assumes the laws of the order, and the invariant of every book of a run.
use Rattle.std.proofs.Common.{◌≡◌, ℕ, Bool, true, false, ◌⊎◌, List, Some, Option, Ordering, sym, refl, ap, ◌∙◌, subst, inl, inr}
use Rattle.guides.specs.Meaning.{Meaning}
use Rattle.records.specs.declared.answer.Stepped.{Stepped}
use Rattle.records.specs.declared.outcome.Outcome.{Outcome}
use Rattle.records.specs.declared.outcome.Outcome.TheVariants.{Retires}
use Rattle.records.specs.declared.record.Place.{Place}
use Rattle.records.specs.declared.record.Station.{Station}
use Rattle.records.specs.declared.record.Status.TheVariants.{InHand}
use Rattle.records.specs.declared.record.Task.{Task}
use Rattle.engine.specs.Contents.{contents}
use Rattle.engine.specs.Settling.{retired_for as rests}
use Rattle.promises.specs.Books.{Book, keys, work_at}
use Rattle.promises.specs.Truths.{Adds}
use Rattle.promises.specs.Promised.{is_chained, ChangesItsKey, OnlyOwnKeysChange}
use Rattle.promises.specs.Runs.{Call, Reply, Run, step}
use Rattle.promises.proofs.Small.{fits_put, fits_strike}
use Rattle.promises.proofs.Laws.{Laws}
use Rattle.promises.proofs.Sights.{Sight, sight, sight_of, task_put}
use Rattle.promises.proofs.Settles.{Settling, work_over, retire_put}
use Rattle.promises.proofs.Accepted.{Made}
use Rattle.promises.proofs.Invariant.{Inv, chained, group, fits}
use Rattle.promises.proofs.Listed.{keys_rise}
use Rattle.promises.proofs.Passes.{over_chained, retired_chain, retired_in_hand, step_touches}
use Rattle.promises.proofs.Calls.{Did, call_did}
use Rattle.promises.proofs.Owned.{SameKept, KeepsMore, Effect, same_reads, rule_effect}
use Rattle.promises.proofs.Members.{held_is_kept, kept_is_held, rises_same}

module _ {K : Type 0} where
  -- One change of the kept keys after another.
  then_same : {s m s' : Sight K} → SameKept s m → SameKept m s' → SameKept s s'
  then_same f g = record { forth = λ k h. g.forth k (f.forth k h); back = λ k h. f.back k (g.back k h) }

  pub more_then_same : (k : K) {s m s' : Sight K} → KeepsMore k s m → SameKept m s' → KeepsMore k s s'
  more_then_same k f g = record { absent = f.absent; present = g.forth k f.present; forth = λ j h. g.forth j (f.forth j h); back = λ j other h. f.back j other (g.back j h) }

  pub fewer_then_same : (k : K) {s m s' : Sight K} → KeepsMore k m s → SameKept m s' → KeepsMore k s' s
  fewer_then_same k f g = record { absent = λ h. f.absent (g.back k h); present = f.present; forth = λ j h. f.forth j (g.back j h); back = λ j other h. g.forth j (f.back j other h) }

  effect_then : (t : Task K) {s m s' : Sight K} → Effect t s m → SameKept m s' → Effect t s s'
  effect_then t (Effect.none f) g = Effect.none (then_same f g)
  effect_then t (Effect.adds ph f) g = Effect.adds ph (more_then_same t.key f g)
  effect_then t (Effect.takes ph f) g = Effect.takes ph (fewer_then_same t.key f g)

  -- ---- settling changes no key

  tasked_same : (j : ℕ) (x : Option (Task K)) (s : Sight K) → SameKept s (task_put j x s)
  tasked_same j x s = same_reads s (task_put j x s) (λ p. refl) (λ p. refl) (λ p. refl)

  pub over_same : (j : ℕ) (awaited : Bool) (s : Sight K) → SameKept s (work_over j awaited s)
  over_same j awaited s = same_reads s (work_over j awaited s) (λ p. over_chained awaited j (s.status p)) (λ p. refl) (λ p. refl)

  retires_same : (q : ℕ) (w : List Bool) (s : Sight K) → chained s q ≡ false → SameKept s (retire_put q (rests w) s)
  retires_same q w s off = same_reads s (retire_put q (rests w) s) (retired_chain q w s off) (λ p. refl) (λ p. refl)

  pub settling_same : (j : ℕ) (s s' : Sight K) (t : Task K) (o : Outcome K) (a : Stepped K) → Settling s j t o a s' → ((q : ℕ) → o ≡ Retires q → s.status q ≡ InHand) → SameKept s s'
  settling_same j s s' t o a (Settling.goes u oc ac e) hand = subst (SameKept s) (sym e) (tasked_same j _ s)
  settling_same j s s' t o a (Settling.waits oc ac e) hand = subst (SameKept s) (sym e) (tasked_same j _ s)
  settling_same j s s' t o a (Settling.ends x oc ac e) hand = subst (SameKept s) (sym e) (over_same j t.awaited s)
  settling_same j s s' t o a (Settling.retires q oc ac w others e) hand =
      subst (SameKept s) (sym e) (then_same (retires_same q w s (ap is_chained (hand q oc))) (over_same j t.awaited (retire_put q (rests w) s)))

-- A put comes to LINK, a strike to MARK.

module _ {K : Type 0} (rank : K → K → Ordering) (laws : Laws rank) where
  -- What an accepted step makes of the kept keys.
  pub step_effect : (s : Sight K) → Inv rank s → (j : ℕ) (a : Stepped K) (s' : Sight K) (made : Made rank s j a s') → Effect made.task s s'
  step_effect s inv j a s' made =
      effect_then made.task (rule_effect rank laws s inv j made.task made.under_way made.outcome made.mid (step_touches rank s inv j a s' made))
      (settling_same j made.mid s' made.task made.outcome a made.settling (retired_in_hand rank s inv j a s' made))

  module _ (ps : List (Place K)) (ss : List (Station K)) (m : Meaning) (inv : Inv rank (sight ps ss m))
      (ps' : List (Place K)) (ss' : List (Station K)) (m' : Meaning) (inv' : Inv rank (sight ps' ss' m')) where
    -- The same keys are kept: the contents are the same.
    pub same_contents : SameKept (sight ps ss m) (sight ps' ss' m') → contents ps' ≡ contents ps
    same_contents same =
        rises_same rank laws (contents ps') (contents ps) (keys_rise rank laws ps' ss' m' inv') (keys_rise rank laws ps ss m inv)
        (λ k h. kept_is_held rank laws ps ss m inv k (same.back k (held_is_kept rank laws ps' ss' m' inv' k h)))
        (λ k h. kept_is_held rank laws ps' ss' m' inv' k (same.forth k (held_is_kept rank laws ps ss m inv k h)))

    pub more_contents : (k : K) → KeepsMore k (sight ps ss m) (sight ps' ss' m') → Adds k (contents ps) (contents ps')
    more_contents k more = record {
      absent = λ h. more.absent (held_is_kept rank laws ps ss m inv k h);
      present = kept_is_held rank laws ps' ss' m' inv' k more.present;
      stays = λ j other h. kept_is_held rank laws ps' ss' m' inv' j (more.forth j (held_is_kept rank laws ps ss m inv j h));
      no_more = λ j other h. kept_is_held rank laws ps ss m inv j (more.back j other (held_is_kept rank laws ps' ss' m' inv' j h));
    }

  -- Promise: only own keys change.
  module _ (inv : (b : Book K) → Run rank b → Inv rank (sight_of b)) where
    by_effect : (b : Book K) → Inv rank (sight_of b) → (j : ℕ) (x : Stepped K) (b' : Book K) → Inv rank (sight_of b') → (t : Task K) → work_at b j ≡ Some t → fits t.work (group t.phase) ≡ true
        → (c : Call K) (a : Reply K) → c ≡ step j → Effect t (sight_of b) (sight_of b') → (keys b' ≡ keys b) ⊎ ((i : ℕ) × (u : Task K) × ChangesItsKey rank b c a b' i u)
    by_effect b i j x b' i' t is fit c a call (Effect.none same) = inl (same_contents b.places b.stations b.guide i b'.places b'.stations b'.guide i' same)
    by_effect b i j x b' i' t is fit c a call (Effect.adds ph more) =
        inr (j, t, record { call = call; under_way = is; change = inl (fits_put t.work (sym (ap (λ p. fits t.work (group p)) ph) ∙ fit), more_contents b.places b.stations b.guide i b'.places b'.stations b'.guide i' t.key more) })
    by_effect b i j x b' i' t is fit c a call (Effect.takes ph more) =
        inr (j, t, record { call = call; under_way = is; change = inr (fits_strike t.work (sym (ap (λ p. fits t.work (group p)) ph) ∙ fit), more_contents b'.places b'.stations b'.guide i' b.places b.stations b.guide i t.key more) })

    by_did : (b : Book K) → Inv rank (sight_of b) → (c : Call K) (a : Reply K) (b' : Book K) → Inv rank (sight_of b') → Did rank b c a b' → (keys b' ≡ keys b) ⊎ ((i : ℕ) × (t : Task K) × ChangesItsKey rank b c a b' i t)
    by_did b i c a b' i' (Did.nothing calm same) = inl (ap keys same)
    by_did b i c a b' i' (Did.begins j work key call idle ps sees) = inl (ap contents ps)
    by_did b i c a b' i' (Did.makes j x call reply made) =
        by_effect b i j x b' i' made.task made.under_way (i.fit j made.task made.under_way) c a call (step_effect (sight_of b) i j x (sight_of b') made)
    by_did b i c a b' i' (Did.leaves j t call is ps sees) =
        inl (same_contents b.places b.stations b.guide i b'.places b'.stations b'.guide i' (subst (SameKept (sight_of b)) (sym sees) (over_same j t.awaited (sight_of b))))

    pub only_own_keys_change : OnlyOwnKeysChange rank
    only_own_keys_change b r c a b' d = by_did b (inv b r) c a b' (inv b' (Run.next c a b' r d)) (call_did rank b c a b' d)
