-- That LINK-BACK, UNLINK-BACK and MARK keep the invariant. Assumes the laws.
use Rattle.std.proofs.Common.{◌≡◌, ℕ, Bool, true, false, cond, not, ◌&&◌, ◌||◌, eqb, leb, Some, Option, Ordering, sym, refl, ap, ◌∙◌, subst, inl, inr, arith}
use Rattle.std.proofs.lemmas.Bool.{eq-eqb, and_from, cases_eq}
use Rattle.std.proofs.lemmas.Bool.Decides.{nat_tests}
use Rattle.guides.specs.Meaning.{low, high, has}
use Rattle.records.specs.declared.record.Phase.{Phase}
use Rattle.records.specs.declared.record.Phase.TheVariants.{LinkBack, Attach, Mark, UnlinkBack, Unlink}
use Rattle.records.specs.declared.record.Task.{Task}
use Rattle.promises.specs.Promised.{is_chained}
use Rattle.promises.proofs.Small.{one_holder}
use Rattle.promises.proofs.Rungs.{placed_holds}
use Rattle.promises.proofs.Laws.{Laws}
use Rattle.records.specs.declared.outcome.Outcome.{Outcome}
use Rattle.records.specs.declared.outcome.Outcome.TheVariants.{Goes}
use Rattle.records.specs.Records.{into}
use Rattle.engine.specs.Settling.{with_steps}
use Rattle.promises.proofs.Sights.{Sight, at_with, task_put}
use Rattle.promises.proofs.Invariant.{rung, group, fits, holds_at, holds_other, is_placed, is_keyed, is_marked, is_joined, is_lagging, is_hiding, is_detaching, is_striking, is_handing, holds, other_in, holder_in, chained, seen_by, Stands, Inv}
use Rattle.promises.proofs.Retasks.{at_with_both, Sound}
use Rattle.promises.proofs.Sees.{never, holds_own_at, holds_own_other, joined_differ}
use Rattle.promises.proofs.Walking.{Kept}
use Rattle.promises.proofs.Relocks.{just}
use Rattle.promises.proofs.Sights.{prev_put, mark_put}
use Rattle.promises.proofs.Invariant.{is_spared, waits_for}
use Rattle.promises.proofs.Retasks.{holder_same}
use Rattle.promises.proofs.Relocks.{other_alike, awaited_with}
use Rattle.promises.proofs.Preds.{at_with_other, at_with_same, keyed_not_high, keyed_not_low, prev_write_keeps}

or_more : (a m m' w : Bool) → (m ≡ true → m' ≡ true) → (a || (m && w)) ≡ true → (a || (m' && w)) ≡ true
or_more true m m' w up h = refl
or_more false true m' w up h = and_from m' w (up refl) h
or_more false false m' w up h = never (sym h)

module _ {K : Type 0} (rank : K → K → Ordering) (laws : Laws rank) (s : Sight K) (inv : Inv rank s) (me : ℕ) (t : Task K) (is_task : s.task me ≡ Some t) where
  st : Stands rank s.spot s.next s.prev s.marked s.status t
  st = inv.stands me t is_task

  fit_here : (ph : Phase) → t.phase ≡ ph → fits t.work (group ph) ≡ true
  fit_here ph e = subst (λ x. fits t.work (group x) ≡ true) e (inv.fit me t is_task)

  -- A test of the rung has one value before and after.
  pub other_by : (f : ℕ → Bool) (ph : Phase) → t.phase ≡ ph → (r : ℕ) → f r ≡ f (rung ph) → (p : ℕ) → (f r && eqb t.other p) ≡ other_in f (Some t) p
  other_by f ph e r same p = ap (λ b. b && eqb t.other p) (same ∙ ap (λ x. f (rung x)) (sym e))

  pub holds_by : (ph : Phase) → t.phase ≡ ph → (r : ℕ) → holds_at r ≡ holds_at (rung ph) → holds_other r ≡ holds_other (rung ph)
      → (p : ℕ) → ((holds_at r && eqb t.at p) || (holds_other r && eqb t.other p)) ≡ holds (Some t) p
  holds_by ph e r a b p =
      ap (λ x. (x && eqb t.at p) || (holds_other r && eqb t.other p)) (a ∙ ap (λ x. holds_at (rung x)) (sym e))
      ∙ ap (λ x. (holds_at (rung t.phase) && eqb t.at p) || (x && eqb t.other p)) (b ∙ ap (λ x. holds_other (rung x)) (sym e))

  module _ (o : Outcome K) (mid : Sight K) where
    abbrev It : Type 0
    It = Kept rank me t o mid

    pub keeps_links_back : t.phase ≡ LinkBack → o ≡ Goes (into Attach t) → mid ≡ prev_put (s.next t.other) t.other s → It
    keeps_links_back e oc se =
        Kept.goes (into Attach t) oc (λ n. subst (λ x. Inv rank (task_put me (Some (with_steps n (into Attach t))) x)) (sym se)
        (prev_write_keeps rank laws s inv me t is_task (by is_joined refl) (by is_keyed refl) (with_steps n (into Attach t)) t.other refl refl refl (sound n) refl
        (holds_by LinkBack e 7 refl refl) (other_by is_hiding LinkBack e 7 refl) (other_by is_detaching LinkBack e 7 refl) (other_by is_striking LinkBack e 7 refl)
        (other_by is_handing LinkBack e 7 refl) (by holds_other refl) refl))
      where
        by : (f : ℕ → Bool) → f 6 ≡ true → f (rung t.phase) ≡ true
        by f h = ap (λ x. f (rung x)) e ∙ h

        sound : (n : ℕ) → Sound rank s me (with_steps n (into Attach t))
        sound n = record {
          fit = fit_here LinkBack e;
          seen = inv.seen me t is_task;
          stands = record {
            at_chained = λ _. st.at_chained (by is_placed refl);
            at_unmarked = λ _. st.at_unmarked (by is_placed refl);
            at_below = λ _. st.at_below (ap (λ x. leb 3 (group x)) e);
            next_above = λ h. never (sym h);
            next_keyed = λ h. never (sym h);
            joined = λ _. st.joined (by is_joined refl);
            keyed = λ _. st.keyed (by is_keyed refl);
            other_marked = λ h. never (sym h);
            spared = λ _. st.spared (by is_spared refl);
            in_hand = λ h. never (sym h);
            in_hand_next = λ h. never (sym h);
            in_hand_prev = λ h. never (sym h);
          };
        }

    pub keeps_unlinks_back : t.phase ≡ UnlinkBack → o ≡ Goes (into Unlink t) → mid ≡ prev_put (s.next t.other) t.at s → It
    keeps_unlinks_back e oc se =
        Kept.goes (into Unlink t) oc (λ n. subst (λ x. Inv rank (task_put me (Some (with_steps n (into Unlink t))) x)) (sym se)
        (prev_write_keeps rank laws s inv me t is_task (by is_joined refl) (by is_keyed refl) (with_steps n (into Unlink t)) t.at refl refl refl (sound n) refl
        (holds_by UnlinkBack e 11 refl refl) (other_by is_hiding UnlinkBack e 11 refl) (other_by is_detaching UnlinkBack e 11 refl) (other_by is_striking UnlinkBack e 11 refl)
        (other_by is_handing UnlinkBack e 11 refl) (by holds_other refl) refl))
      where
        by : (f : ℕ → Bool) → f 10 ≡ true → f (rung t.phase) ≡ true
        by f h = ap (λ x. f (rung x)) e ∙ h

        sound : (n : ℕ) → Sound rank s me (with_steps n (into Unlink t))
        sound n = record {
          fit = fit_here UnlinkBack e;
          seen = inv.seen me t is_task;
          stands = record {
            at_chained = λ _. st.at_chained (by is_placed refl);
            at_unmarked = λ _. st.at_unmarked (by is_placed refl);
            at_below = λ _. st.at_below (ap (λ x. leb 3 (group x)) e);
            next_above = λ h. never (sym h);
            next_keyed = λ h. never (sym h);
            joined = λ _. st.joined (by is_joined refl);
            keyed = λ _. st.keyed (by is_keyed refl);
            other_marked = λ _. st.other_marked (by is_marked refl);
            spared = λ h. never (sym h);
            in_hand = λ h. never (sym h);
            in_hand_next = λ h. never (sym h);
            in_hand_prev = λ h. never (sym h);
          };
        }

    -- ---- MARK

    pub keeps_marks : t.phase ≡ Mark → o ≡ Goes (into UnlinkBack t) → mid ≡ mark_put t.other s → It
    keeps_marks e oc se =
        Kept.goes (into UnlinkBack t) oc (λ n. subst (λ x. Inv rank (task_put me (Some (with_steps n (into UnlinkBack t))) x)) (sym se) (kept n))
      where
        by : (f : ℕ → Bool) → f 9 ≡ true → f (rung t.phase) ≡ true
        by f h = ap (λ x. f (rung x)) e ∙ h

        up : (p : ℕ) → s.marked p ≡ true → at_with s.marked t.other true p ≡ true
        up p h = at_with_both s.marked t.other p true (λ x. x ≡ true) (λ _. refl) (λ _. h)

        elsewhere : (p : ℕ) → (t.other ≡ p → ⊥) → at_with s.marked t.other true p ≡ s.marked p
        elsewhere p d = at_with_other s.marked t.other p true d

        seen_up : (i p : ℕ) → seen_by s i p ≡ true → (chained s p || (at_with s.marked t.other true p && waits_for i (s.status p))) ≡ true
        seen_up i p h = or_more (chained s p) (s.marked p) _ (waits_for i (s.status p)) (up p) h

        lock_x : s.lock t.other ≡ Some me
        lock_x = holds_own_other rank laws s inv me t is_task (by holds_other refl)

        spared_holds : (r : ℕ) → is_spared r ≡ true → holds_other r ≡ true
        spared_holds r h = grind (arith, nat_tests)

        theirs : (i : ℕ) → (me ≡ i → ⊥) → (p : ℕ) → s.lock p ≡ Some i → t.other ≡ p → ⊥
        theirs i d p l x = d (one_holder me i (s.lock t.other) lock_x (ap s.lock x ∙ l))

        others : (i : ℕ) (v : Task K) → (me ≡ i → ⊥) → s.task i ≡ Some v → Stands rank s.spot s.next s.prev (at_with s.marked t.other true) s.status v
        others i v d is = let y = inv.stands i v is in record {
          at_chained = y.at_chained;
          at_unmarked = λ h. elsewhere v.at (theirs i d v.at (holds_own_at rank laws s inv i v is (placed_holds (rung v.phase) h))) ∙ y.at_unmarked h;
          at_below = y.at_below;
          next_above = y.next_above;
          next_keyed = y.next_keyed;
          joined = y.joined;
          keyed = y.keyed;
          other_marked = λ h. up v.other (y.other_marked h);
          spared = λ h. elsewhere v.other (theirs i d v.other (holds_own_other rank laws s inv i v is (spared_holds (rung v.phase) h))) ∙ y.spared h;
          in_hand = y.in_hand;
          in_hand_next = y.in_hand_next;
          in_hand_prev = y.in_hand_prev;
        }

        own : (n : ℕ) → Stands rank s.spot s.next s.prev (at_with s.marked t.other true) s.status (with_steps n (into UnlinkBack t))
        own n = record {
          at_chained = λ _. st.at_chained (by is_placed refl);
          at_unmarked = λ _. elsewhere t.at (joined_differ rank laws s inv me t is_task (by is_joined refl)) ∙ st.at_unmarked (by is_placed refl);
          at_below = λ _. st.at_below (ap (λ x. leb 3 (group x)) e);
          next_above = λ h. never (sym h);
          next_keyed = λ h. never (sym h);
          joined = λ _. st.joined (by is_joined refl);
          keyed = λ _. st.keyed (by is_keyed refl);
          other_marked = λ _. at_with_same s.marked t.other true;
          spared = λ h. never (sym h);
          in_hand = λ h. never (sym h);
          in_hand_next = λ h. never (sym h);
          in_hand_prev = λ h. never (sym h);
        }

        kept : (n : ℕ) → Inv rank (task_put me (Some (with_steps n (into UnlinkBack t))) (mark_put t.other s))
        kept n = record {
          two = inv.two;
          beyond = inv.beyond;
          guide_size = inv.guide_size;
          low_spot = inv.low_spot;
          high_spot = inv.high_spot;
          low_chained = inv.low_chained;
          high_chained = inv.high_chained;
          low_unmarked = elsewhere low (keyed_not_low rank laws s inv me t is_task t.other t.key (st.keyed (by is_keyed refl))) ∙ inv.low_unmarked;
          high_unmarked = elsewhere high (keyed_not_high rank laws s inv me t is_task t.other t.key (st.keyed (by is_keyed refl))) ∙ inv.high_unmarked;
          leads = inv.leads;
          rises = inv.rises;
          gap = inv.gap;
          apart = inv.apart;
          follows = inv.follows;
          backs = λ p c h. inv.backs p c h ∙ ap (λ x. cond x (s.prev p) p) (sym (alike is_lagging (other_by is_lagging Mark e 10 refl) (s.lock p) p));
          locks = λ i p. inv.locks i p
              ∙ sym (at_with_both s.task me i (Some v) (λ y. holds y p ≡ holds (s.task i) p) (λ x. holds_by Mark e 10 refl refl p ∙ ap (λ y. holds y p) (sym is_task) ∙ ap (λ j. holds (s.task j) p) x) (λ _. refl));
          fit = λ i w. at_with_both s.task me i (Some v) (λ x. x ≡ Some w → fits w.work (group w.phase) ≡ true)
              (λ _ x. ap (λ y. fits y.work (group y.phase)) (sym (just v w x)) ∙ fit_here Mark e) (λ _. inv.fit i w);
          seen = λ i w. at_with_both s.task me i (Some v) (λ x. x ≡ Some w → (chained s w.at || (at_with s.marked t.other true w.at && waits_for i (s.status w.at))) ≡ true)
              (λ same x. seen_up i w.at (subst (λ j. seen_by s j w.at ≡ true) same (ap (λ y. seen_by s me y.at) (sym (just v w x)) ∙ inv.seen me t is_task)))
              (λ _ x. seen_up i w.at (inv.seen i w x));
          stands = λ i w. at_with_both s.task me i (Some v) (λ x. x ≡ Some w → Stands rank s.spot s.next s.prev (at_with s.marked t.other true) s.status w)
              (λ _ x. subst (Stands rank s.spot s.next s.prev (at_with s.marked t.other true) s.status) (just v w x) (own n)) (λ d x. others i w d x);
          marks = λ p c m. elim (cases_eq t.other p) [
            | inl x ↦ (me, ap (λ y. other_in is_striking y p) (at_with_same s.task me (Some v)) ∙ eq-eqb t.other p x)
            | inr d ↦ striker p (inv.marks p c (sym (elsewhere p d) ∙ m))
          ];
          hands = λ p h. let has = inv.hands p h in (has.0, other_alike rank s inv me t is_task is_handing v (other_by is_handing Mark e 10 refl) has.0 p ∙ has.1);
          hands_apart = λ i j p y z. inv.hands_apart i j p (sym (other_alike rank s inv me t is_task is_handing v (other_by is_handing Mark e 10 refl) i p) ∙ y)
              (sym (other_alike rank s inv me t is_task is_handing v (other_by is_handing Mark e 10 refl) j p) ∙ z);
          rests = λ p w r. let was = inv.rests p w r in (up p was.0, was.1);
          awaits = λ p w r i h. awaited_with rank s inv me t is_task v refl i (inv.awaits p w r i h);
          next_seen = λ p w r i h. seen_up i (s.next p) (inv.next_seen p w r i h);
          prev_seen = λ p w r i h. seen_up i (s.prev p) (inv.prev_seen p w r i h);
          guide_rises = inv.guide_rises;
          guide_shows = λ p. inv.guide_shows p
              ∙ ap (λ y. (is_chained (s.status p) && not y) || holder_in is_detaching s.task (s.lock p) p) (sym (alike is_hiding (other_by is_hiding Mark e 10 refl) (s.lock p) p))
              ∙ ap (λ y. (is_chained (s.status p) && not (holder_in is_hiding (at_with s.task me (Some v)) (s.lock p) p)) || y) (sym (alike is_detaching (other_by is_detaching Mark e 10 refl) (s.lock p) p));
        }
          where
            v : Task K
            v = with_steps n (into UnlinkBack t)

            alike : (f : ℕ → Bool) → ((p : ℕ) → other_in f (Some v) p ≡ other_in f (Some t) p) → (l : Option ℕ) (p : ℕ) → holder_in f (at_with s.task me (Some v)) l p ≡ holder_in f s.task l p
            alike f same l p = holder_same s.task me (Some v) f (λ q. same q ∙ ap (λ y. other_in f y q) (sym is_task)) l p

            striker : (p : ℕ) → (i : ℕ) × (other_in is_striking (s.task i) p ≡ true) → (i : ℕ) × (other_in is_striking (at_with s.task me (Some v) i) p ≡ true)
            striker p has = (
              has.0,
              at_with_both s.task me has.0 (Some v) (λ x. other_in is_striking x p ≡ true)
                  (λ same. never (sym has.1 ∙ ap (λ j. other_in is_striking (s.task j) p) (sym same) ∙ ap (λ x. other_in is_striking x p) is_task ∙ ap (λ x. is_striking (rung x) && eqb t.other p) e))
                  (λ _. has.1),
            )
