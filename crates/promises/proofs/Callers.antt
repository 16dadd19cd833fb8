-- That begin and leave keep the invariant. Assumes nothing.
use Rattle.std.proofs.Common.{◌≡◌, ℕ, zero, suc, Bool, true, false, cond, ◌&&◌, eqb, leb, List, [], ◌∷◌, get_or, set, Some, None, Ok, Err, Option, Result, Ordering, sym, refl, ap, ◌∙◌, subst, arith}
use Rattle.std.proofs.lemmas.Bool.{eq-eqb, or_parts}
use Rattle.std.proofs.lemmas.Bool.Decides.{nat_tests}
use Rattle.records.specs.declared.record.Task.{Task}
use Rattle.records.specs.declared.record.Work.{Work}
use Rattle.records.specs.declared.record.Work.TheVariants.{Put, Strike, Look, First as FirstWork, After}
use Rattle.engine.specs.Calling.{locked_by}
use Rattle.std.specs.List.{slice_get}
use Rattle.guides.specs.Meaning.{Meaning}
use Rattle.records.specs.declared.answer.Refusal.{Refusal}
use Rattle.records.specs.declared.answer.Refusal.TheVariants.{NoStation, HoldsLock}
use Rattle.records.specs.declared.record.Place.{Place}
use Rattle.records.specs.declared.record.Station.{Station}
use Rattle.records.specs.Records.{first_phase}
use Rattle.engine.specs.Calling.{served, task_at, begun, begin_by, beginning, Begins, holds_lock, leave_by, leaving, Leaves}
use Rattle.engine.specs.Contents.{field_of}
use Rattle.engine.specs.Settling.{idle, busy, after_work}
use Rattle.promises.proofs.Sights.{Sight, sight, task_put}
use Rattle.promises.proofs.Writes.{sees_task}
use Rattle.promises.proofs.Settles.{sees_work_over}
use Rattle.promises.proofs.Invariant.{rung, group, fits, holds_at, holds, is_awaited, Inv}
use Rattle.promises.proofs.Retasks.{Loose, none_loose, task_loose, loose_like, Like, Sound, retask, loose_stands}
use Rattle.promises.proofs.Overs.{work_over_keeps}
use Rattle.promises.proofs.Sees.{never, low_seen}
use Rattle.promises.proofs.Relocks.{just}

first_free : (w : Work) → rung (first_phase w) ≡ 0
first_free Put = refl
first_free Strike = refl
first_free Look = refl
first_free FirstWork = refl
first_free After = refl

first_early : (w : Work) → leb 3 (group (first_phase w)) ≡ false
first_early Put = refl
first_early Strike = refl
first_early Look = refl
first_early FirstWork = refl
first_early After = refl

first_fits : (w : Work) → fits w (group (first_phase w)) ≡ true
first_fits Put = refl
first_fits Strike = refl
first_fits Look = refl
first_fits FirstWork = refl
first_fits After = refl

module _ {K : Type 0} (rank : K → K → Ordering) where
  -- A work begins.
  begun_keeps : (s : Sight K) (i : ℕ) (work : Work) (key : K) → Inv rank s → s.task i ≡ None → Inv rank (task_put i (Some (begun work key)) s)
  begun_keeps s i work key inv is =
      retask rank s i (Some (begun work key)) inv
      (subst (λ a. Like a (Some (begun work key))) (sym is) (loose_like None (Some (begun work key)) none_loose (task_loose (begun work key) (first_free work))))
      (λ p w r g. never (sym (inv.awaits p w r i g) ∙ ap is_awaited is))
      (λ t e. subst (Sound rank s i) (just (begun work key) t e) (record {
        fit = first_fits work;
        seen = low_seen rank s inv i;
        stands = loose_stands rank s (begun work key) (first_free work) (λ h. never (sym h ∙ first_early work));
      }))

  module _ (ps : List (Place K)) (ss : List (Station K)) (m : Meaning) (inv : Inv rank (sight ps ss m)) (i : ℕ) where
    begin_by_task : (work : Work) (key : K) (x : Option (Task K)) → served ss i ≡ true → task_at ss i ≡ x → (r : Result (Unit {0}) Refusal) (ss' : List (Station K))
        → Begins (begin_by ss i work key x) ss r ss' → Inv rank (sight ps ss' m)
    begin_by_task work key None there is r ss' d =
        subst (λ z. Inv rank (sight ps z m)) (sym d.1)
        (subst (Inv rank) (sym (sees_task ps ss m i there (busy (begun work key)))) (begun_keeps (sight ps ss m) i work key inv is))
    begin_by_task work key (Some t) there is r ss' d = subst (λ z. Inv rank (sight ps z m)) (sym d.1) inv

    begin_by_station : (work : Work) (key : K) (b : Bool) → served ss i ≡ b → (r : Result (Unit {0}) Refusal) (ss' : List (Station K))
        → Begins (cond b (begin_by ss i work key (get_or ss i idle).task) (Err NoStation)) ss r ss' → Inv rank (sight ps ss' m)
    begin_by_station work key true there r ss' d =
        begin_by_task work key (get_or ss i idle).task there (ap (λ b. cond b (get_or ss i idle).task None) there) r ss' d
    begin_by_station work key false there r ss' d = subst (λ z. Inv rank (sight ps z m)) (sym d.1) inv

    pub begin_keeps : (work : Work) (key : K) (r : Result (Unit {0}) Refusal) (ss' : List (Station K)) → Begins (beginning ss i work key) ss r ss' → Inv rank (sight ps ss' m)
    begin_keeps work key r ss' d = begin_by_station work key (served ss i) refl r ss' d

    -- A station that holds no lock has a work that holds none.
    no_lock_held : (qs : List (Place K)) → holds_lock i qs ≡ false → (p : ℕ) → locked_by i (field_of None (λ x. x.lock) (slice_get qs p)) ≡ false
    no_lock_held [] h p = refl
    no_lock_held (x ∷ qs) h zero = (or_parts (locked_by i x.lock) (holds_lock i qs) h).0
    no_lock_held (x ∷ qs) h (suc p) = no_lock_held qs (or_parts (locked_by i x.lock) (holds_lock i qs) h).1 p

    free_work : (t : Task K) → task_at ss i ≡ Some t → holds_lock i ps ≡ false → rung t.phase ≡ 0
    free_work t is h =
        let unlocked : holds (Some t) t.at ≡ false = sym (ap (λ x. holds x t.at) is) ∙ sym (inv.locks i t.at) ∙ no_lock_held ps h t.at in
        let parts = or_parts (holds_at (rung t.phase) && eqb t.at t.at) _ unlocked in
        bare (rung t.phase) (eqb t.at t.at) (eq-eqb t.at t.at refl) parts.0
      where
        bare : (r : ℕ) (b : Bool) → b ≡ true → (holds_at r && b) ≡ false → r ≡ 0
        bare r b e h = grind (arith, nat_tests)

    leave_by_lock : (t : Task K) (b : Bool) → holds_lock i ps ≡ b → served ss i ≡ true → task_at ss i ≡ Some t → (r : Result (Unit {0}) Refusal) (ps' : List (Place K)) (ss' : List (Station K))
        → Leaves (cond b (Err HoldsLock) (Ok (record { places = after_work i t ps; stations = set ss i idle }))) ps ss r ps' ss' → Inv rank (sight ps' ss' m)
    leave_by_lock t true h there is r ps' ss' d = subst (λ z. Inv rank (sight z ss' m)) (sym d.1) (subst (λ z. Inv rank (sight ps z m)) (sym d.2) inv)
    leave_by_lock t false h there is r ps' ss' d =
        subst (λ z. Inv rank (sight z ss' m)) (sym d.1) (subst (λ z. Inv rank (sight (after_work i t ps) z m)) (sym d.2)
        (subst (Inv rank) (sym (sees_work_over ps ss m i there t))
        (work_over_keeps rank (sight ps ss m) inv i (subst Loose (sym is) (task_loose t (free_work t is h))) t.awaited (ap is_awaited is))))

    leave_by_task : (x : Option (Task K)) → served ss i ≡ true → task_at ss i ≡ x → (r : Result (Unit {0}) Refusal) (ps' : List (Place K)) (ss' : List (Station K))
        → Leaves (leave_by ps ss i x) ps ss r ps' ss' → Inv rank (sight ps' ss' m)
    leave_by_task None there is r ps' ss' d = subst (λ z. Inv rank (sight z ss' m)) (sym d.1) (subst (λ z. Inv rank (sight ps z m)) (sym d.2) inv)
    leave_by_task (Some t) there is r ps' ss' d = leave_by_lock t (holds_lock i ps) refl there is r ps' ss' d

    leave_by_station : (b : Bool) → served ss i ≡ b → (r : Result (Unit {0}) Refusal) (ps' : List (Place K)) (ss' : List (Station K))
        → Leaves (cond b (leave_by ps ss i (get_or ss i idle).task) (Err NoStation)) ps ss r ps' ss' → Inv rank (sight ps' ss' m)
    leave_by_station true there r ps' ss' d =
        leave_by_task (get_or ss i idle).task there (ap (λ b. cond b (get_or ss i idle).task None) there) r ps' ss' d
    leave_by_station false there r ps' ss' d = subst (λ z. Inv rank (sight z ss' m)) (sym d.1) (subst (λ z. Inv rank (sight ps z m)) (sym d.2) inv)

    pub leave_keeps : (r : Result (Unit {0}) Refusal) (ps' : List (Place K)) (ss' : List (Station K)) → Leaves (leaving ps ss i) ps ss r ps' ss' → Inv rank (sight ps' ss' m)
    leave_keeps r ps' ss' d = leave_by_station (served ss i) refl r ps' ss' d
