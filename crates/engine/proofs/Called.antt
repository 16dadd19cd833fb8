-- What a call does at a station that is there, and at one that is not. Assumes nothing.
use Rattle.std.proofs.Common.{◌≡◌, ℕ, Bool, true, false, cond, ◌||◌, ltb, List, length, get_or, set, Some, None, Ok, Err, Option, Result, sym, refl, ap, ◌∙◌, subst}
use Rattle.std.specs.List.{list_any}
use Rattle.std.proofs.lemmas.List.Recursion.{same_from_clauses}
use Rattle.std.proofs.lemmas.Bool.{cond-true, cond-false, and_from, lt-ltb}
use Rattle.records.specs.declared.answer.Refusal.{Refusal}
use Rattle.records.specs.declared.answer.Refusal.TheVariants.{NoStation, HoldsLock}
use Rattle.records.specs.declared.record.Station.{Station}
use Rattle.records.specs.declared.record.Task.{Task}
use Rattle.records.specs.declared.record.Place.{Place}
use Rattle.engine.specs.Calling.{served, task_at, at_station, FindsStation, FindsNone, locked_by, holds_lock, leave_by, leaving, Leaves}
use Rattle.engine.specs.Settling.{most_stations, idle, after_work}

module _ {K : Type 0} (ss : List (Station K)) (i : ℕ) where
  pub found_served : (t : Option (Task K)) → FindsStation ss i t → served ss i ≡ true
  found_served t f = and_from (ltb i (length ss)) (ltb i most_stations) (lt-ltb i (length ss) f.within) (lt-ltb i most_stations f.among)

  pub task_at_found : (t : Option (Task K)) → FindsStation ss i t → task_at ss i ≡ t
  task_at_found t f = cond-true (served ss i) (get_or ss i idle).task None (found_served t f) ∙ sym f.task

  pub task_at_none : (e : Refusal) → FindsNone ss i e → task_at ss i ≡ None
  task_at_none e f = cond-false (served ss i) (get_or ss i idle).task None f.missing

  pub call_found : {A : Type 0} (call : Option (Task K) → Result A Refusal) (t : Option (Task K)) → FindsStation ss i t → at_station ss i call ≡ call t
  call_found call t f = cond-true (served ss i) (call (get_or ss i idle).task) (Err NoStation) (found_served t f) ∙ ap call (sym f.task)

  pub call_none : {A : Type 0} (call : Option (Task K) → Result A Refusal) (e : Refusal) → FindsNone ss i e → at_station ss i call ≡ Err e
  call_none call e f = cond-false (served ss i) (call (get_or ss i idle).task) (Err NoStation) f.missing ∙ ap Err (sym f.says)

  -- Leave, where some place is locked by the station as `any` finds it.
  module _ (ps : List (Place K)) where
    pub holds_lock_any : holds_lock i ps ≡ list_any (λ p. locked_by i p.lock) ps
    holds_lock_any = same_from_clauses (holds_lock i) (list_any (λ p. locked_by i p.lock)) (λ p b. locked_by i p.lock || b) refl (λ _ _. refl) (λ _ _. refl) ps

    leaves_as : (t : Task K) (locks : Bool) (r : Result (Unit {0}) Refusal) (ps' : List (Place K)) (ss' : List (Station K)) → FindsStation ss i (Some t)
        → holds_lock i ps ≡ locks → Leaves (cond locks (Err HoldsLock) (Ok (record { places = after_work i t ps; stations = set ss i idle }))) ps ss r ps' ss'
        → Leaves (leaving ps ss i) ps ss r ps' ss'
    leaves_as t locks r ps' ss' f e did =
        subst (λ x. Leaves x ps ss r ps' ss')
        (sym (call_found (leave_by ps ss i) (Some t) f ∙ ap (λ b. cond b (Err HoldsLock) (Ok (record { places = after_work i t ps; stations = set ss i idle }))) e)) did

    pub leaves_locked : (t : Task K) → FindsStation ss i (Some t) → holds_lock i ps ≡ true → Leaves (leaving ps ss i) ps ss (Err HoldsLock) ps ss
    leaves_locked t f e = leaves_as t true (Err HoldsLock) ps ss f e (refl, refl, refl)

    pub leaves_work : (t : Task K) → FindsStation ss i (Some t) → holds_lock i ps ≡ false → Leaves (leaving ps ss i) ps ss (Ok tt) (after_work i t ps) (set ss i idle)
    leaves_work t f e = leaves_as t false (Ok tt) (after_work i t ps) (set ss i idle) f e (refl, refl, refl)
