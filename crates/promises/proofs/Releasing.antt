-- That releasing the new place and the victim, and taking the victim's lock, keep the invariant. Assumes the laws.
use Rattle.std.proofs.Common.{◌≡◌, ℕ, Bool, true, false, not, ◌&&◌, ◌||◌, eqb, leb, Some, None, Ordering, sym, refl, ap, ◌∙◌, subst}
use Rattle.std.proofs.lemmas.Bool.{ne_eqb}
use Rattle.guides.specs.Meaning.{high}
use Rattle.records.specs.declared.record.Phase.{Phase}
use Rattle.records.specs.declared.record.Phase.TheVariants.{ReleaseNew, PutEnd, TakeVictim, Mark, ReleaseVictim, StrikeEnd}
use Rattle.records.specs.declared.record.Task.{Task}
use Rattle.promises.specs.Promised.{is_chained}
use Rattle.promises.proofs.Small.{one_holder}
use Rattle.promises.proofs.Rungs.{joined_holds, joined_placed, striking_joined}
use Rattle.promises.proofs.Laws.{Laws}
use Rattle.records.specs.declared.outcome.Outcome.{Outcome}
use Rattle.records.specs.declared.outcome.Outcome.TheVariants.{Goes}
use Rattle.records.specs.Records.{into, with_other, held_by_other}
use Rattle.engine.specs.Settling.{with_steps}
use Rattle.promises.proofs.Sights.{Sight, task_put, lock_put}
use Rattle.promises.proofs.Invariant.{rung, group, fits, holds_at, holds_other, is_placed, is_between, is_keyed, is_marked, is_joined, is_lagging, is_hiding, is_detaching, is_striking, is_handing, holds, chained, Stands, Inv}
use Rattle.promises.proofs.Retasks.{Sound}
use Rattle.promises.proofs.Sees.{never, holds_own_at, holds_own_other, at_not_high, spots_differ, has_other, joined_differ}
use Rattle.promises.proofs.Walking.{Kept}
use Rattle.promises.proofs.Relocks.{just, lock_is_taken, lock_is_released, both_fail}
use Rattle.promises.proofs.Locking.{free_lock, or_false, leaves_first, next_injective}

module _ {K : Type 0} (rank : K → K → Ordering) (laws : Laws rank) (s : Sight K) (inv : Inv rank s) (me : ℕ) (t : Task K) (is_task : s.task me ≡ Some t) where
  st : Stands rank s.spot s.next s.prev s.marked s.status t
  st = inv.stands me t is_task

  fit_here : (ph : Phase) → t.phase ≡ ph → fits t.work (group ph) ≡ true
  fit_here ph e = subst (λ x. fits t.work (group x) ≡ true) e (inv.fit me t is_task)

  held_here : (q : ℕ) (ph : Phase) → t.phase ≡ ph
      → holds (Some t) q ≡ ((holds_at (rung ph) && eqb t.at q) || (holds_other (rung ph) && eqb t.other q))
  held_here q ph e = ap (λ x. (holds_at (rung x) && eqb t.at q) || (holds_other (rung x) && eqb t.other q)) e

  -- A place in hand is not the one that it hangs on.
  pub in_hand_differ : is_handing (rung t.phase) ≡ true → is_placed (rung t.phase) ≡ true → t.other ≡ t.at → ⊥
  in_hand_differ h k e = never (sym (st.at_chained k) ∙ ap (λ p. is_chained (s.status p)) (sym e) ∙ ap is_chained (st.in_hand h))

  -- The successor of a locked unmarked place is not marked, unless its holder strikes it.
  pub next_unmarked : is_placed (rung t.phase) ≡ true → holds_at (rung t.phase) ≡ true → is_striking (rung t.phase) ≡ false → s.marked (s.next t.at) ≡ false
  next_unmarked placed held quiet = go (s.marked (s.next t.at)) refl
    where
      c : chained s t.at ≡ true
      c = st.at_chained placed

      nh : t.at ≡ high → ⊥
      nh = at_not_high rank laws s inv me t is_task placed

      go : (b : Bool) → s.marked (s.next t.at) ≡ b → b ≡ false
      go false m = refl
      go true m =
          let found = inv.marks (s.next t.at) (inv.leads t.at c nh) m in
          let other = has_other is_striking (s.task found.0) (s.next t.at) found.1 in
          let v = other.task in
          let joins = striking_joined (rung v.phase) other.rung_is in
          let so = inv.stands found.0 v other.is in
          let same = next_injective rank laws s inv v.at t.at (so.at_chained (joined_placed (rung v.phase) joins)) c
          (at_not_high rank laws s inv found.0 v other.is (joined_placed (rung v.phase) joins)) nh (so.joined joins ∙ other.other_is) in
          let who = one_holder found.0 me (s.lock t.at) (ap s.lock (sym same) ∙ holds_own_at rank laws s inv found.0 v other.is (joined_holds (rung v.phase) joins))
          (holds_own_at rank laws s inv me t is_task held) in
          let mine : v ≡ t = just v t (sym other.is ∙ ap s.task who ∙ is_task) in
          never (sym other.rung_is ∙ ap (λ x. is_striking (rung x.phase)) mine ∙ quiet)

  module _ (o : Outcome K) (mid : Sight K) where
    abbrev It : Type 0
    It = Kept rank me t o mid

    pub keeps_releases_new : t.phase ≡ ReleaseNew → o ≡ Goes (into PutEnd t) → mid ≡ lock_put t.other None s → It
    keeps_releases_new e oc se =
        Kept.goes (into PutEnd t) oc (λ n. subst (λ x. Inv rank (task_put me (Some (with_steps n (into PutEnd t))) x)) (sym se)
        (lock_is_released rank s inv me t is_task (with_steps n (into PutEnd t)) t.other None (sound n) refl
        (ap (λ x. is_lagging (rung x)) e, ap (λ x. is_hiding (rung x)) e, ap (λ x. is_detaching (rung x)) e) (refl, refl, refl)
        (both_fail rank s inv me t is_task is_striking (with_steps n (into PutEnd t)) (ap (λ x. is_striking (rung x)) e) refl)
        (both_fail rank s inv me t is_task is_handing (with_steps n (into PutEnd t)) (ap (λ x. is_handing (rung x)) e) refl)
        (holds_own_other rank laws s inv me t is_task (ap (λ x. holds_other (rung x)) e)) refl
        (λ q. leaves_first t.at t.other q (joined_differ rank laws s inv me t is_task (ap (λ x. is_joined (rung x)) e))
        ∙ sym (ap (λ x. x && not (eqb t.other q)) (held_here q ReleaseNew e)))))
      where
        placed : is_placed (rung t.phase) ≡ true
        placed = ap (λ x. is_placed (rung x)) e

        sound : (n : ℕ) → Sound rank s me (with_steps n (into PutEnd t))
        sound n = record {
          fit = fit_here ReleaseNew e;
          seen = inv.seen me t is_task;
          stands = record {
            at_chained = λ _. st.at_chained placed;
            at_unmarked = λ _. st.at_unmarked placed;
            at_below = λ _. st.at_below (ap (λ x. leb 3 (group x)) e);
            next_above = λ h. never (sym h);
            next_keyed = λ h. never (sym h);
            joined = λ h. never (sym h);
            keyed = λ h. never (sym h);
            other_marked = λ h. never (sym h);
            spared = λ h. never (sym h);
            in_hand = λ h. never (sym h);
            in_hand_next = λ h. never (sym h);
            in_hand_prev = λ h. never (sym h);
          };
        }

    pub keeps_releases_victim : t.phase ≡ ReleaseVictim → o ≡ Goes (into StrikeEnd t) → mid ≡ lock_put t.other None s → It
    keeps_releases_victim e oc se =
        Kept.goes (into StrikeEnd t) oc (λ n. subst (λ x. Inv rank (task_put me (Some (with_steps n (into StrikeEnd t))) x)) (sym se)
        (lock_is_released rank s inv me t is_task (with_steps n (into StrikeEnd t)) t.other None (sound n) refl
        (ap (λ x. is_lagging (rung x)) e, ap (λ x. is_hiding (rung x)) e, ap (λ x. is_detaching (rung x)) e) (refl, refl, refl)
        (both_fail rank s inv me t is_task is_striking (with_steps n (into StrikeEnd t)) (ap (λ x. is_striking (rung x)) e) refl)
        (λ q. ap (λ x. is_handing (rung x) && eqb t.other q) (sym e))
        (holds_own_other rank laws s inv me t is_task (ap (λ x. holds_other (rung x)) e)) refl
        (λ q. leaves_first t.at t.other q (in_hand_differ (ap (λ x. is_handing (rung x)) e) placed)
        ∙ sym (ap (λ x. x && not (eqb t.other q)) (held_here q ReleaseVictim e)))))
      where
        placed : is_placed (rung t.phase) ≡ true
        placed = ap (λ x. is_placed (rung x)) e

        sound : (n : ℕ) → Sound rank s me (with_steps n (into StrikeEnd t))
        sound n = record {
          fit = fit_here ReleaseVictim e;
          seen = inv.seen me t is_task;
          stands = record {
            at_chained = λ _. st.at_chained placed;
            at_unmarked = λ _. st.at_unmarked placed;
            at_below = λ _. st.at_below (ap (λ x. leb 3 (group x)) e);
            next_above = λ _. st.next_above (ap (λ x. is_between (rung x)) e);
            next_keyed = λ h. never (sym h);
            joined = λ h. never (sym h);
            keyed = λ _. st.keyed (ap (λ x. is_keyed (rung x)) e);
            other_marked = λ _. st.other_marked (ap (λ x. is_marked (rung x)) e);
            spared = λ h. never (sym h);
            in_hand = λ _. st.in_hand (ap (λ x. is_handing (rung x)) e);
            in_hand_next = λ _. st.in_hand_next (ap (λ x. is_handing (rung x)) e);
            in_hand_prev = λ _. st.in_hand_prev (ap (λ x. is_handing (rung x)) e);
          };
        }

    pub keeps_victim_taken : t.phase ≡ TakeVictim → held_by_other me (s.lock (s.next t.at)) ≡ false → o ≡ Goes (into Mark (with_other (s.next t.at) t))
        → mid ≡ lock_put (s.next t.at) (Some me) s → It
    keeps_victim_taken e held oc se =
        Kept.goes u oc (λ n. subst (λ x. Inv rank (task_put me (Some (with_steps n u)) x)) (sym se)
        (lock_is_taken rank s inv me t is_task (with_steps n u) (s.next t.at) (Some me) (sound n) refl
        (ap (λ x. is_lagging (rung x)) e, ap (λ x. is_hiding (rung x)) e, ap (λ x. is_detaching (rung x)) e) (refl, refl, refl)
        (both_fail rank s inv me t is_task is_striking (with_steps n u) (ap (λ x. is_striking (rung x)) e) refl)
        (both_fail rank s inv me t is_task is_handing (with_steps n u) (ap (λ x. is_handing (rung x)) e) refl)
        (free_lock me (s.lock (s.next t.at)) held
        (inv.locks me (s.next t.at) ∙ ap (λ x. holds x (s.next t.at)) is_task ∙ held_here (s.next t.at) TakeVictim e
        ∙ ap (λ b. b || false) (ne_eqb t.at (s.next t.at) (spots_differ rank laws s inv t.at (s.next t.at) (inv.rises t.at (st.at_chained placed) (at_not_high rank laws s inv me t is_task placed)))))) refl
        (λ q. ap (λ b. b || eqb (s.next t.at) q) (sym (held_here q TakeVictim e ∙ or_false (eqb t.at q))))))
      where
        u : Task K
        u = into Mark (with_other (s.next t.at) t)

        placed : is_placed (rung t.phase) ≡ true
        placed = ap (λ x. is_placed (rung x)) e

        sound : (n : ℕ) → Sound rank s me (with_steps n u)
        sound n = record {
          fit = fit_here TakeVictim e;
          seen = inv.seen me t is_task;
          stands = record {
            at_chained = λ _. st.at_chained placed;
            at_unmarked = λ _. st.at_unmarked placed;
            at_below = λ _. st.at_below (ap (λ x. leb 3 (group x)) e);
            next_above = λ h. never (sym h);
            next_keyed = λ h. never (sym h);
            joined = λ _. refl;
            keyed = λ _. st.next_keyed (ap (λ x. eqb (rung x) 3) e);
            other_marked = λ h. never (sym h);
            spared = λ _. next_unmarked placed (ap (λ x. holds_at (rung x)) e) (ap (λ x. is_striking (rung x)) e);
            in_hand = λ h. never (sym h);
            in_hand_next = λ h. never (sym h);
            in_hand_prev = λ h. never (sym h);
          };
        }
