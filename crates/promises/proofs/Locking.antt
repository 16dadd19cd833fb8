-- That LOCK, VALID, the rules that release, and the taking of the victim's lock keep the invariant. Assumes the laws.
use Rattle.std.proofs.Common.{◌≡◌, ℕ, Bool, true, false, not, ◌&&◌, ◌||◌, eqb, leb, ◌⊎◌, Some, None, Option, Ordering, Equal, Greater, sym, refl, ap, ◌∙◌, subst, inl, inr, arith}
use Rattle.std.proofs.lemmas.Bool.Decides.{nat_tests}
use Rattle.guides.specs.Meaning.{high}
use Rattle.records.specs.declared.record.Phase.{Phase}
use Rattle.records.specs.declared.record.Phase.TheVariants.{Enter, Lock, Valid, Take, PutEnd, TakeVictim}
use Rattle.records.specs.declared.record.Task.{Task}
use Rattle.records.specs.declared.record.Work.{Work}
use Rattle.records.specs.declared.record.Work.TheVariants.{Put, Strike, Look, First as FirstWork, After}
use Rattle.engine.specs.Calling.{locked_by}
use Rattle.promises.proofs.Laws.{Laws, exact, before}
use Rattle.records.specs.declared.answer.Answer.{Answer}
use Rattle.records.specs.declared.outcome.Outcome.{Outcome}
use Rattle.records.specs.declared.outcome.Outcome.TheVariants.{Goes, Ends}
use Rattle.records.specs.Records.{into, held_by_other}
use Rattle.engine.specs.Settling.{with_steps}
use Rattle.promises.proofs.Laws.{compared, greater_is_after, equal_is_exact, before_chains, before_not_self}
use Rattle.promises.proofs.Sights.{Sight, task_put, lock_put}
use Rattle.promises.proofs.Invariant.{rung, group, fits, holds_at, holds_other, is_lagging, is_hiding, is_detaching, is_striking, is_handing, holds, chained, seen_by, Stands, Inv}
use Rattle.promises.proofs.Retasks.{Like, Sound, retask, loose_stands}
use Rattle.promises.proofs.Sees.{never, Sees, sees, holds_own_at, spots_differ}
use Rattle.promises.proofs.Walking.{Kept, awaited_still}
use Rattle.promises.proofs.Relocks.{just, lock_is_taken, lock_is_released, both_fail}
use Rattle.promises.proofs.Views.{Changes, puts, strikes}

pub free_lock : (me : ℕ) (l : Option ℕ) → held_by_other me l ≡ false → locked_by me l ≡ false → l ≡ None
free_lock me None h k = refl
free_lock me (Some j) h k = never (sym (sym h ∙ ap not k))

pub or_false : (b : Bool) → (b || false) ≡ b
or_false true = refl
or_false false = refl

or_but_not : (b : Bool) → false ≡ ((b || false) && not b)
or_but_not true = refl
or_but_not false = refl

pub leaves_first : (a b q : ℕ) → (b ≡ a → ⊥) → (eqb a q || false) ≡ ((eqb a q || eqb b q) && not (eqb b q))
leaves_first a b q differ = grind (arith, nat_tests)

module _ {K : Type 0} (rank : K → K → Ordering) (laws : Laws rank) (s : Sight K) (inv : Inv rank s) where
  -- Two chained places with one successor are one.
  pub next_injective : (p q : ℕ) → chained s p ≡ true → chained s q ≡ true → (p ≡ high → ⊥) → (q ≡ high → ⊥) → s.next p ≡ s.next q → p ≡ q
  next_injective p q c d hp hq e = go (inv.apart p q c d)
    where
      beyond : (p q : ℕ) → chained s p ≡ true → chained s q ≡ true → (q ≡ high → ⊥) → s.next p ≡ s.next q → before rank (s.spot p) (s.spot q) ≡ true → ⊥
      beyond p q c d hq e h = on (inv.gap p q c d h)
        where
          up : before rank (s.spot q) (s.spot (s.next p)) ≡ true
          up = ap (λ r. before rank (s.spot q) (s.spot r)) e ∙ inv.rises q d hq

          on : (s.next p ≡ q) ⊎ (before rank (s.spot (s.next p)) (s.spot q) ≡ true) → ⊥
          on (inl same) = spots_differ rank laws s inv q (s.next p) up (sym same)
          on (inr less) = never (sym (before_chains rank laws (s.spot (s.next p)) (s.spot q) (s.spot (s.next p)) less up) ∙ before_not_self rank laws (s.spot (s.next p)))

      go : (p ≡ q) ⊎ ((before rank (s.spot p) (s.spot q) ≡ true) ⊎ (before rank (s.spot q) (s.spot p) ≡ true)) → p ≡ q
      go (inl same) = same
      go (inr (inl h)) = absurd (beyond p q c d hq e h)
      go (inr (inr h)) = absurd (beyond q p d c hp (sym e) h)

  module _ (me : ℕ) (t : Task K) (is_task : s.task me ≡ Some t) where
    st : Stands rank s.spot s.next s.prev s.marked s.status t
    st = inv.stands me t is_task

    fit_here : (ph : Phase) → t.phase ≡ ph → fits t.work (group ph) ≡ true
    fit_here ph e = subst (λ x. fits t.work (group x) ≡ true) e (inv.fit me t is_task)

    below_here : (ph : Phase) → t.phase ≡ ph → leb 3 (group ph) ≡ true → before rank (s.spot t.at) (exact t.key) ≡ true
    below_here ph e h = st.at_below (ap (λ x. leb 3 (group x)) e ∙ h)

    held_here : (q : ℕ) (ph : Phase) → t.phase ≡ ph
        → holds (Some t) q ≡ ((holds_at (rung ph) && eqb t.at q) || (holds_other (rung ph) && eqb t.other q))
    held_here q ph e = ap (λ x. (holds_at (rung x) && eqb t.at q) || (holds_other (rung x) && eqb t.other q)) e

    at_seen : seen_by s me t.at ≡ true
    at_seen = inv.seen me t is_task

    -- What stands on the chain where it is not marked.
    pub unmarked_chained : s.marked t.at ≡ false → chained s t.at ≡ true
    unmarked_chained m = go (sees rank s inv me t.at at_seen)
      where
        go : Sees rank s inv me t.at → chained s t.at ≡ true
        go (Sees.on_chain c) = c
        go (Sees.in_hand e k) = never (sym k ∙ m)
        go (Sees.retired w e k g) = never (sym k ∙ m)

    -- The task once it enters again.
    again : (n : ℕ) → fits t.work 0 ≡ true → Sound rank s me (with_steps n (into Enter t))
    again n fit = record { fit = fit; seen = at_seen; stands = loose_stands rank s (with_steps n (into Enter t)) refl (λ h. never (sym h)) }

    -- The lock of at is released, and the work holds nothing more.
    released_to_enter : (ph : Phase) → t.phase ≡ ph → holds_at (rung ph) ≡ true → holds_other (rung ph) ≡ false
        → is_lagging (rung ph) ≡ false → is_hiding (rung ph) ≡ false → is_detaching (rung ph) ≡ false → is_striking (rung ph) ≡ false → is_handing (rung ph) ≡ false
        → fits t.work 0 ≡ true → (n : ℕ) → Inv rank (task_put me (Some (with_steps n (into Enter t))) (lock_put t.at None s))
    released_to_enter ph e at_held no_other a b c d h fit n =
        lock_is_released rank s inv me t is_task (with_steps n (into Enter t)) t.at None (again n fit) refl
        (ap (λ x. is_lagging (rung x)) e ∙ a, ap (λ x. is_hiding (rung x)) e ∙ b, ap (λ x. is_detaching (rung x)) e ∙ c) (refl, refl, refl)
        (both_fail rank s inv me t is_task is_striking (with_steps n (into Enter t)) (ap (λ x. is_striking (rung x)) e ∙ d) refl)
        (both_fail rank s inv me t is_task is_handing (with_steps n (into Enter t)) (ap (λ x. is_handing (rung x)) e ∙ h) refl)
        (holds_own_at rank laws s inv me t is_task (ap (λ x. holds_at (rung x)) e ∙ at_held)) refl
        (λ q. or_but_not (eqb t.at q)
        ∙ sym (ap (λ x. x && not (eqb t.at q)) (held_here q ph e ∙ ap (λ x. (x && eqb t.at q) || (holds_other (rung ph) && eqb t.other q)) at_held ∙ ap (λ x. eqb t.at q || (x && eqb t.other q)) no_other)))

    module _ (o : Outcome K) (mid : Sight K) where
      abbrev It : Type 0
      It = Kept rank me t o mid

      put_fits : t.work ≡ Put → fits t.work 0 ≡ true
      put_fits w = ap (λ x. fits x 0) w

      strike_fits : t.work ≡ Strike → fits t.work 0 ≡ true
      strike_fits w = ap (λ x. fits x 0) w

      change_fits : {w : Work} → Changes w → fits w 0 ≡ true
      change_fits puts = refl
      change_fits strikes = refl

      -- ---- LOCK

      pub keeps_lock_taken : t.phase ≡ Lock → held_by_other me (s.lock t.at) ≡ false → o ≡ Goes (into Valid t) → mid ≡ lock_put t.at (Some me) s → It
      keeps_lock_taken e held oc se =
          Kept.goes (into Valid t) oc (λ n. subst (λ x. Inv rank (task_put me (Some (with_steps n (into Valid t))) x)) (sym se)
          (lock_is_taken rank s inv me t is_task (with_steps n (into Valid t)) t.at (Some me) (sound n) refl
          (ap (λ x. is_lagging (rung x)) e, ap (λ x. is_hiding (rung x)) e, ap (λ x. is_detaching (rung x)) e) (refl, refl, refl)
          (both_fail rank s inv me t is_task is_striking (with_steps n (into Valid t)) (ap (λ x. is_striking (rung x)) e) refl)
          (both_fail rank s inv me t is_task is_handing (with_steps n (into Valid t)) (ap (λ x. is_handing (rung x)) e) refl)
          (free_lock me (s.lock t.at) held (inv.locks me t.at ∙ ap (λ x. holds x t.at) is_task ∙ held_here t.at Lock e)) refl
          (λ q. or_false (eqb t.at q) ∙ sym (ap (λ x. x || eqb t.at q) (held_here q Lock e)))))
        where
          sound : (n : ℕ) → Sound rank s me (with_steps n (into Valid t))
          sound n = record {
            fit = fit_here Lock e;
            seen = at_seen;
            stands = record {
              at_chained = λ h. never (sym h);
              at_unmarked = λ h. never (sym h);
              at_below = λ _. below_here Lock e refl;
              next_above = λ h. never (sym h);
              next_keyed = λ h. never (sym h);
              joined = λ h. never (sym h);
              keyed = λ h. never (sym h);
              other_marked = λ h. never (sym h);
              spared = λ h. never (sym h);
              in_hand = λ h. never (sym h);
              in_hand_next = λ h. never (sym h);
              in_hand_prev = λ h. never (sym h);
            };
          }

      -- ---- VALID

      pub keeps_valid_again : t.phase ≡ Valid → Changes t.work → o ≡ Goes (into Enter t) → mid ≡ lock_put t.at None s → It
      keeps_valid_again e w oc se =
          Kept.goes (into Enter t) oc (λ n. subst (λ x. Inv rank (task_put me (Some (with_steps n (into Enter t))) x)) (sym se)
          (released_to_enter Valid e refl refl refl refl refl refl refl (change_fits w) n))

      ends_released : (ph : Phase) → t.phase ≡ ph → holds_at (rung ph) ≡ true → holds_other (rung ph) ≡ false
          → is_lagging (rung ph) ≡ false → is_hiding (rung ph) ≡ false → is_detaching (rung ph) ≡ false → is_striking (rung ph) ≡ false → is_handing (rung ph) ≡ false
          → fits t.work 0 ≡ true → (x : Answer K) → o ≡ Ends x → mid ≡ lock_put t.at None s → It
      ends_released ph e at_held no_other a b c d h fit x oc se =
          Kept.ends x oc (with_steps 0 (into Enter t)) refl refl (subst (λ y. Inv rank (task_put me (Some (with_steps 0 (into Enter t))) y)) (sym se)
          (released_to_enter ph e at_held no_other a b c d h fit 0))

      pub keeps_valid_no : t.phase ≡ Valid → Changes t.work → (x : Answer K) → o ≡ Ends x → mid ≡ lock_put t.at None s → It
      keeps_valid_no e w x oc se = ends_released Valid e refl refl refl refl refl refl refl (change_fits w) x oc se

      -- NO ROOM, and the end of a put.
      pub keeps_take_none : t.phase ≡ Take → (x : Answer K) → o ≡ Ends x → mid ≡ lock_put t.at None s → It
      keeps_take_none e x oc se = ends_released Take e refl refl refl refl refl refl refl (put_only t.work (fit_here Take e)) x oc se
        where
          put_only : (w : Work) → fits w 4 ≡ true → fits w 0 ≡ true
          put_only Put h = refl
          put_only Strike h = never (sym h)
          put_only Look h = never (sym h)
          put_only FirstWork h = never (sym h)
          put_only After h = never (sym h)

      pub keeps_put_ends : t.phase ≡ PutEnd → (x : Answer K) → o ≡ Ends x → mid ≡ lock_put t.at None s → It
      keeps_put_ends e x oc se = ends_released PutEnd e refl refl refl refl refl refl refl (put_only t.work (fit_here PutEnd e)) x oc se
        where
          put_only : (w : Work) → fits w 4 ≡ true → fits w 0 ≡ true
          put_only Put h = refl
          put_only Strike h = never (sym h)
          put_only Look h = never (sym h)
          put_only FirstWork h = never (sym h)
          put_only After h = never (sym h)

      -- VALID goes on with the lock held.
      goes_on : (u : Task K) → t.phase ≡ Valid → u.at ≡ t.at → u.awaited ≡ t.awaited → o ≡ Goes u → mid ≡ s
          → holds_at (rung u.phase) ≡ true → holds_other (rung u.phase) ≡ false → is_lagging (rung u.phase) ≡ false → is_hiding (rung u.phase) ≡ false
          → is_detaching (rung u.phase) ≡ false → is_striking (rung u.phase) ≡ false → is_handing (rung u.phase) ≡ false
          → ((n : ℕ) → Sound rank s me (with_steps n u)) → It
      goes_on u e same aw oc se a b c d f g h sound =
          Kept.goes u oc (λ n. subst (λ x. Inv rank (task_put me (Some (with_steps n u)) x)) (sym se)
          (retask rank s me (Some (with_steps n u)) inv (subst (λ x. Like x (Some (with_steps n u))) (sym is_task) (like n))
          (awaited_still rank laws s inv me t is_task (with_steps n u) aw)
          (λ v i. subst (Sound rank s me) (just (with_steps n u) v i) (sound n))))
        where
          like : (n : ℕ) → Like (Some t) (Some (with_steps n u))
          like n = record {
            holding = λ p. ap (λ x. (x && eqb u.at p) || (holds_other (rung u.phase) && eqb u.other p)) a ∙ ap (λ x. eqb u.at p || (x && eqb u.other p)) b
                ∙ ap (λ q. eqb q p || false) same ∙ sym (held_here p Valid e);
            lagging = both_fail rank s inv me t is_task is_lagging (with_steps n u) (ap (λ x. is_lagging (rung x)) e) c;
            hiding = both_fail rank s inv me t is_task is_hiding (with_steps n u) (ap (λ x. is_hiding (rung x)) e) d;
            detaching = both_fail rank s inv me t is_task is_detaching (with_steps n u) (ap (λ x. is_detaching (rung x)) e) f;
            striking = both_fail rank s inv me t is_task is_striking (with_steps n u) (ap (λ x. is_striking (rung x)) e) g;
            handing = both_fail rank s inv me t is_task is_handing (with_steps n u) (ap (λ x. is_handing (rung x)) e) h;
          }

      pub keeps_valid_take : t.phase ≡ Valid → t.work ≡ Put → s.marked t.at ≡ false → compared rank (s.spot (s.next t.at)) t.key ≡ Greater
          → o ≡ Goes (into Take t) → mid ≡ s → It
      keeps_valid_take e w m above oc se =
          goes_on (into Take t) e refl refl oc se refl refl refl refl refl refl refl (λ n. record {
            fit = ap (λ x. fits x 4) w;
            seen = at_seen;
            stands = record {
              at_chained = λ _. unmarked_chained m;
              at_unmarked = λ _. m;
              at_below = λ _. below_here Valid e refl;
              next_above = λ _. greater_is_after rank laws _ _ above;
              next_keyed = λ h. never (sym h);
              joined = λ h. never (sym h);
              keyed = λ h. never (sym h);
              other_marked = λ h. never (sym h);
              spared = λ h. never (sym h);
              in_hand = λ h. never (sym h);
              in_hand_next = λ h. never (sym h);
              in_hand_prev = λ h. never (sym h);
            };
          })

      pub keeps_valid_victim : t.phase ≡ Valid → t.work ≡ Strike → s.marked t.at ≡ false → compared rank (s.spot (s.next t.at)) t.key ≡ Equal
          → o ≡ Goes (into TakeVictim t) → mid ≡ s → It
      keeps_valid_victim e w m same oc se =
          goes_on (into TakeVictim t) e refl refl oc se refl refl refl refl refl refl refl (λ n. record {
            fit = ap (λ x. fits x 5) w;
            seen = at_seen;
            stands = record {
              at_chained = λ _. unmarked_chained m;
              at_unmarked = λ _. m;
              at_below = λ _. below_here Valid e refl;
              next_above = λ h. never (sym h);
              next_keyed = λ _. equal_is_exact rank laws _ _ same;
              joined = λ h. never (sym h);
              keyed = λ h. never (sym h);
              other_marked = λ h. never (sym h);
              spared = λ h. never (sym h);
              in_hand = λ h. never (sym h);
              in_hand_next = λ h. never (sym h);
              in_hand_prev = λ h. never (sym h);
            };
          })
