-- What is kept over the rule of a step, and that the rules which only read keep it. Assumes the laws.
use Rattle.std.proofs.Common.{◌≡◌, ℕ, ◌+◌, Bool, true, false, leb, ◌⊎◌, List, get_or, Some, Option, Ordering, Less, Equal, Greater, sym, refl, ap, ◌∙◌, subst, inl, inr, arith}
use Rattle.guides.specs.Meaning.{low, high}
use Rattle.records.specs.declared.record.Phase.{Phase}
use Rattle.records.specs.declared.record.Phase.TheVariants.{Enter, Down, Check, Back, On, Seek, Lock, Valid, Take, Link, LinkBack, Attach, ReleaseNew, PutEnd, TakeVictim, Mark, UnlinkBack, Unlink, Detach, ReleaseVictim, StrikeEnd, First, FirstNext}
use Rattle.records.specs.declared.record.Status.TheVariants.{Retired}
use Rattle.records.specs.declared.record.Task.{Task}
use Rattle.records.specs.declared.record.Work.{Work}
use Rattle.records.specs.declared.record.Work.TheVariants.{Put, Strike}
use Rattle.promises.proofs.Small.{up_not_less}
use Rattle.promises.proofs.Laws.{Laws, exact, before}
use Rattle.records.specs.declared.answer.Answer.{Answer}
use Rattle.records.specs.declared.outcome.Outcome.{Outcome}
use Rattle.records.specs.declared.outcome.Outcome.TheVariants.{Goes, Waits, Ends, Retires}
use Rattle.records.specs.Records.{into, moved_to, with_downs}
use Rattle.engine.specs.Settling.{with_steps, retired_for as rests}
use Rattle.promises.proofs.Laws.{compared, less_is_before}
use Rattle.promises.proofs.Sights.{Sight, task_put}
use Rattle.promises.proofs.Settles.{Others, work_over, retire_put}
use Rattle.promises.proofs.Views.{Way, Changes, puts, strikes, Strays, first_back, put_on, strike_on, first_on, look_valid, first_valid, after_valid}
use Rattle.promises.proofs.Invariant.{rung, group, fits, is_awaited, seen_by, Inv}
use Rattle.promises.proofs.Retasks.{Like, Sound, retask, loose_like, task_loose, loose_stands}
use Rattle.promises.proofs.Sees.{never, low_seen, next_is_seen, prev_is_seen, guided_is_seen, not_high_below}

-- The phases whose rules only read.
abbrev pub is_walking : Phase → Bool
is_walking Enter = true
is_walking Down = true
is_walking Check = true
is_walking Back = true
is_walking On = true
is_walking Seek = true
is_walking Lock = false
is_walking Valid = false
is_walking Take = false
is_walking Link = false
is_walking LinkBack = false
is_walking Attach = false
is_walking ReleaseNew = false
is_walking PutEnd = false
is_walking TakeVictim = false
is_walking Mark = false
is_walking UnlinkBack = false
is_walking Unlink = false
is_walking Detach = false
is_walking ReleaseVictim = false
is_walking StrikeEnd = false
is_walking First = true
is_walking FirstNext = true

-- The invariant is kept over a rule with this outcome, whatever number of steps is written. A work that ends is as
-- good as one that holds nothing and goes on.
pub data Kept {K : Type 0} (rank : K → K → Ordering) (me : ℕ) (t : Task K) (o : Outcome K) (mid : Sight K) : Type 0 where
  goes : (u : Task K) → o ≡ Goes u → ((n : ℕ) → Inv rank (task_put me (Some (with_steps n u)) mid)) → Kept rank me t o mid
  waits : o ≡ Waits → ((n : ℕ) → Inv rank (task_put me (Some (with_steps n t)) mid)) → Kept rank me t o mid
  ends : (x : Answer K) → o ≡ Ends x → (v : Task K) → rung v.phase ≡ 0 → v.awaited ≡ t.awaited → Inv rank (task_put me (Some v) mid) → Kept rank me t o mid
  retires : (p : ℕ) → o ≡ Retires p → ((w : List Bool) → Others me mid w → Inv rank (work_over me t.awaited (retire_put p (rests w) mid))) → Kept rank me t o mid

module _ {K : Type 0} (rank : K → K → Ordering) (laws : Laws rank) (s : Sight K) (inv : Inv rank s) (me : ℕ) (t : Task K) (is_task : s.task me ≡ Some t) where
  pub awaited_still : (u : Task K) → u.awaited ≡ t.awaited
      → (p : ℕ) (w : List Bool) → s.status p ≡ Retired w → get_or w me false ≡ true → u.awaited ≡ true
  awaited_still u same p w r g = same ∙ sym (ap is_awaited is_task) ∙ inv.awaits p w r me g

  -- A work that holds nothing takes another task that holds nothing.
  pub loosely : rung t.phase ≡ 0 → (u : Task K) → rung u.phase ≡ 0 → fits u.work (group u.phase) ≡ true → seen_by s me u.at ≡ true
      → (leb 3 (group u.phase) ≡ true → before rank (s.spot u.at) (exact u.key) ≡ true) → u.awaited ≡ t.awaited → Inv rank (task_put me (Some u) s)
  loosely free u loose fit seen below same =
      retask rank s me (Some u) inv (subst (λ a. Like a (Some u)) (sym is_task) (loose_like (Some t) (Some u) (task_loose t free) (task_loose u loose)))
      (awaited_still u same)
      (λ v e. subst (Sound rank s me) (just u v e) (record { fit = fit; seen = seen; stands = loose_stands rank s u loose below }))
    where
      just : (u v : Task K) → ◌≡◌ {A = Option (Task K)} (Some u) (Some v) → u ≡ v
      just u v e = cc

  module _ (o : Outcome K) (mid : Sight K) where
    abbrev It : Type 0
    It = Kept rank me t o mid

    going : rung t.phase ≡ 0 → mid ≡ s → (u : Task K) → o ≡ Goes u → rung u.phase ≡ 0 → fits u.work (group u.phase) ≡ true → seen_by s me u.at ≡ true
        → (leb 3 (group u.phase) ≡ true → before rank (s.spot u.at) (exact u.key) ≡ true) → u.awaited ≡ t.awaited → It
    going free same u oc loose fit seen below aw =
        Kept.goes u oc (λ n. subst (λ x. Inv rank (task_put me (Some (with_steps n u)) x)) (sym same) (loosely free (with_steps n u) loose fit seen below aw))

    ending : rung t.phase ≡ 0 → mid ≡ s → (x : Answer K) → o ≡ Ends x → It
    ending free same x oc =
        Kept.ends x oc t free refl (subst (λ y. Inv rank (task_put me (Some t) y)) (sym same)
        (loosely free t free (inv.fit me t is_task) (inv.seen me t is_task) (inv.stands me t is_task).at_below refl))

    pub waiting : mid ≡ s → o ≡ Waits → It
    waiting same oc =
        Kept.waits oc (λ n. subst (λ x. Inv rank (task_put me (Some (with_steps n t)) x)) (sym same)
        (retask rank s me (Some (with_steps n t)) inv (subst (λ a. Like a (Some (with_steps n t))) (sym is_task) alike)
        (awaited_still (with_steps n t) refl) (λ v e. subst (Sound rank s me) (just (with_steps n t) v e) (again n))))
      where
        just : (u v : Task K) → ◌≡◌ {A = Option (Task K)} (Some u) (Some v) → u ≡ v
        just u v e = cc

        alike : {n : ℕ} → Like (Some t) (Some (with_steps n t))
        alike = record { holding = λ p. refl; lagging = λ p. refl; hiding = λ p. refl; detaching = λ p. refl; striking = λ p. refl; handing = λ p. refl }

        again : (n : ℕ) → Sound rank s me (with_steps n t)
        again n = let st = inv.stands me t is_task in record {
          fit = inv.fit me t is_task;
          seen = inv.seen me t is_task;
          stands = record {
            at_chained = st.at_chained;
            at_unmarked = st.at_unmarked;
            at_below = st.at_below;
            next_above = st.next_above;
            next_keyed = st.next_keyed;
            joined = st.joined;
            keyed = st.keyed;
            other_marked = st.other_marked;
            spared = st.spared;
            in_hand = st.in_hand;
            in_hand_next = st.in_hand_next;
            in_hand_prev = st.in_hand_prev;
          };
        }

    -- The work of the phase, as it fits.
    fit_here : (ph : Phase) → t.phase ≡ ph → fits t.work (group ph) ≡ true
    fit_here ph e = subst (λ x. fits t.work (group x) ≡ true) e (inv.fit me t is_task)

    free_here : (ph : Phase) → t.phase ≡ ph → rung ph ≡ 0 → rung t.phase ≡ 0
    free_here ph e z = ap rung e ∙ z

    at_seen : seen_by s me t.at ≡ true
    at_seen = inv.seen me t is_task

    not_high : (ord : Ordering) → compared rank (s.spot t.at) t.key ≡ ord → (ord ≡ Greater → ⊥) → t.at ≡ high → ⊥
    not_high ord st other e =
        other (sym st ∙ ap (λ p. compared rank (s.spot p) t.key) e ∙ ap (λ b. compared rank b t.key) inv.high_spot)

    not_low : (ord : Ordering) → compared rank (s.spot t.at) t.key ≡ ord → (ord ≡ Less → ⊥) → t.at ≡ low → ⊥
    not_low ord st other e =
        other (sym st ∙ ap (λ p. compared rank (s.spot p) t.key) e ∙ ap (λ b. compared rank b t.key) inv.low_spot)

    greater_differs : (x : Ordering) → (x ≡ Less) ⊎ (x ≡ Equal) → x ≡ Greater → ⊥
    greater_differs x (inl e) l = let z : ◌≡◌ {A = ℕ} 0 1 = cc in omega arith
    greater_differs x (inr e) l = let z : ◌≡◌ {A = ℕ} 0 1 = cc in omega arith

    back_seen : (compared rank (s.spot t.at) t.key ≡ Equal) ⊎ (compared rank (s.spot t.at) t.key ≡ Greater) → seen_by s me (s.prev t.at) ≡ true
    back_seen st = prev_is_seen rank laws s inv me t.at at_seen (not_low _ refl (up_not_less st))

    on_seen : (compared rank (s.spot t.at) t.key ≡ Less) ⊎ (compared rank (s.spot t.at) t.key ≡ Equal) → seen_by s me (s.next t.at) ≡ true
    on_seen st = next_is_seen rank s inv me t.at at_seen (not_high _ refl (greater_differs _ st))

    changes_fit : {w : Work} → Changes w → (g : ℕ) → g ≡ 3 → fits w g ≡ true
    changes_fit puts g e = ap (fits Put) e
    changes_fit strikes g e = ap (fits Strike) e

    below_here : (ph : Phase) → t.phase ≡ ph → leb 3 (group ph) ≡ true → before rank (s.spot t.at) (exact t.key) ≡ true
    below_here ph e h = (inv.stands me t is_task).at_below (ap (λ x. leb 3 (group x)) e ∙ h)

    low_not_high : low ≡ high → ⊥
    low_not_high e = omega arith

    to_prev : t.phase ≡ Back → mid ≡ s → o ≡ Goes (moved_to (s.prev t.at) t)
        → (compared rank (s.spot t.at) t.key ≡ Equal) ⊎ (compared rank (s.spot t.at) t.key ≡ Greater) → It
    to_prev e same oc st =
        going (free_here Back e refl) same (moved_to (s.prev t.at) t) oc (free_here Back e refl) (inv.fit me t is_task) (back_seen st)
        (λ h. never (sym h ∙ ap (λ ph. leb 3 (group ph)) e)) refl

    to_next : t.phase ≡ On → mid ≡ s → o ≡ Goes (moved_to (s.next t.at) t)
        → (compared rank (s.spot t.at) t.key ≡ Less) ⊎ (compared rank (s.spot t.at) t.key ≡ Equal) → It
    to_next e same oc st =
        going (free_here On e refl) same (moved_to (s.next t.at) t) oc (free_here On e refl) (inv.fit me t is_task) (on_seen st)
        (λ h. never (sym h ∙ ap (λ ph. leb 3 (group ph)) e)) refl

    -- No work that was begun strays.
    pub never_strays : {P : Type 0} (w : Work) (ph : Phase) → Strays w ph → fits w (group ph) ≡ true → P
    never_strays w ph first_back f = never (sym f)
    never_strays w ph put_on f = never (sym f)
    never_strays w ph strike_on f = never (sym f)
    never_strays w ph first_on f = never (sym f)
    never_strays w ph look_valid f = never (sym f)
    never_strays w ph first_valid f = never (sym f)
    never_strays w ph after_valid f = never (sym f)

    -- The rules that only read keep the invariant.
    pub walking_keeps : is_walking t.phase ≡ true → Way rank s me t o mid → It
    walking_keeps h (Way.strays x0 x1 x2) = never_strays t.work t.phase x0 (inv.fit me t is_task)
    walking_keeps h (Way.enters x0 x1 x2 x3 x4) = going (free_here Enter x0 refl) x4 (into Down (with_downs 0 (moved_to x1 t))) x3 refl (fit_here Enter x0) (guided_is_seen rank laws s inv me x1 x2) (λ h. never (sym h)) refl
    walking_keeps h (Way.down_here x0 x1 x2 x3) = going (free_here Down x0 refl) x3 (into Check t) x2 refl (fit_here Down x0) at_seen (λ h. never (sym h)) refl
    walking_keeps h (Way.down_lost x0 x1 x2 x3) = going (free_here Down x0 refl) x3 (into Check (moved_to low t)) x2 refl (fit_here Down x0) (low_seen rank s inv me) (λ h. never (sym h)) refl
    walking_keeps h (Way.down_last x0 x1 x2 x3 x4 x5 x6) = going (free_here Down x0 refl) x6 (into Check (moved_to x2 t)) x5 refl (fit_here Down x0) (guided_is_seen rank laws s inv me x2 x3) (λ h. never (sym h)) refl
    walking_keeps h (Way.down_on x0 x1 x2 x3 x4 x5 x6) = going (free_here Down x0 refl) x6 (with_downs (t.downs + 1) (moved_to x2 t)) x5 (free_here Down x0 refl) (inv.fit me t is_task) (guided_is_seen rank laws s inv me x2 x3) (λ h. never (sym h ∙ ap (λ ph. leb 3 (group ph)) x0)) refl
    walking_keeps h (Way.check_marked x0 x1 x2 x3) = going (free_here Check x0 refl) x3 (into Back (moved_to low t)) x2 refl (fit_here Check x0) (low_seen rank s inv me) (λ h. never (sym h)) refl
    walking_keeps h (Way.check_unmarked x0 x1 x2 x3) = going (free_here Check x0 refl) x3 (into Back t) x2 refl (fit_here Check x0) at_seen (λ h. never (sym h)) refl
    walking_keeps h (Way.back_look_yes x0 x1 x2 x3 x4 x5) = ending (free_here Back x0 refl) x5 _ x4
    walking_keeps h (Way.back_look_marked x0 x1 x2 x3 x4 x5) = to_prev x0 x5 x4 (inl x2)
    walking_keeps h (Way.back_look_above x0 x1 x2 x3 x4) = to_prev x0 x4 x3 (inr x2)
    walking_keeps h (Way.back_look_on x0 x1 x2 x3 x4) = going (free_here Back x0 refl) x4 (into On t) x3 refl (ap (λ w. fits w 1) x1) at_seen (λ h. never (sym h)) refl
    walking_keeps h (Way.back_after_above x0 x1 x2 x3 x4) = to_prev x0 x4 x3 (inr x2)
    walking_keeps h (Way.back_after_on x0 x1 x2 x3 x4) = going (free_here Back x0 refl) x4 (into On t) x3 refl (ap (λ w. fits w 1) x1) at_seen (λ h. never (sym h)) refl
    walking_keeps h (Way.back_change_above x0 x1 x2 x3 x4) = to_prev x0 x4 x3 x2
    walking_keeps h (Way.back_change_seek x0 x1 x2 x3 x4) = going (free_here Back x0 refl) x4 (into Seek t) x3 refl (changes_fit x1 3 refl) at_seen (λ _. less_is_before rank laws _ _ x2) refl
    walking_keeps h (Way.on_look_next x0 x1 x2 x3 x4) = to_next x0 x4 x3 (inl x2)
    walking_keeps h (Way.on_look_marked x0 x1 x2 x3 x4 x5) = ending (free_here On x0 refl) x5 _ x4
    walking_keeps h (Way.on_look_yes x0 x1 x2 x3 x4 x5) = ending (free_here On x0 refl) x5 _ x4
    walking_keeps h (Way.on_look_no x0 x1 x2 x3 x4) = ending (free_here On x0 refl) x4 _ x3
    walking_keeps h (Way.on_after_next x0 x1 x2 x3 x4) = to_next x0 x4 x3 x2
    walking_keeps h (Way.on_after_missing x0 x1 x2 x3 x4) = ending (free_here On x0 refl) x4 _ x3
    walking_keeps h (Way.on_after_marked x0 x1 x2 x3 x4 x5) = going (free_here On x0 refl) x5 (into Enter t) x4 refl (ap (λ w. fits w 0) x1) at_seen (λ h. never (sym h)) refl
    walking_keeps h (Way.on_after_found x0 x1 x2 x3 x4 x5 x6 x7) = ending (free_here On x0 refl) x7 _ x6
    walking_keeps h (Way.seek_next x0 x1 x2 x3 x4) = going (free_here Seek x0 refl) x4 (moved_to (s.next t.at) t) x3 (free_here Seek x0 refl) (inv.fit me t is_task) (next_is_seen rank s inv me t.at at_seen (not_high_below rank s inv t.at _ (below_here Seek x0 refl))) (λ _. less_is_before rank laws _ _ x2) refl
    walking_keeps h (Way.seek_lock x0 x1 x2 x3 x4) = going (free_here Seek x0 refl) x4 (into Lock t) x3 refl (fit_here Seek x0) at_seen (λ _. below_here Seek x0 refl) refl
    walking_keeps h (Way.lock_waits x0 x1 x2 x3) = never (sym h ∙ ap is_walking x0)
    walking_keeps h (Way.lock_taken x0 x1 x2 x3 x4) = never (sym h ∙ ap is_walking x0)
    walking_keeps h (Way.valid_again x0 x1 x2 x3 x4) = never (sym h ∙ ap is_walking x0)
    walking_keeps h (Way.valid_put_no x0 x1 x2 x3 x4 x5) = never (sym h ∙ ap is_walking x0)
    walking_keeps h (Way.valid_take x0 x1 x2 x3 x4 x5) = never (sym h ∙ ap is_walking x0)
    walking_keeps h (Way.valid_strike_no x0 x1 x2 x3 x4 x5) = never (sym h ∙ ap is_walking x0)
    walking_keeps h (Way.valid_victim x0 x1 x2 x3 x4 x5) = never (sym h ∙ ap is_walking x0)
    walking_keeps h (Way.take_none x0 x1 x2 x3) = never (sym h ∙ ap is_walking x0)
    walking_keeps h (Way.take_some x0 x1 x2 x3 x4 x5 x6) = never (sym h ∙ ap is_walking x0)
    walking_keeps h (Way.links x0 x1 x2) = never (sym h ∙ ap is_walking x0)
    walking_keeps h (Way.links_back x0 x1 x2 x3) = never (sym h ∙ ap is_walking x0)
    walking_keeps h (Way.attaches x0 x1 x2 x3 x4 x5) = never (sym h ∙ ap is_walking x0)
    walking_keeps h (Way.releases_new x0 x1 x2) = never (sym h ∙ ap is_walking x0)
    walking_keeps h (Way.put_ends x0 x1 x2) = never (sym h ∙ ap is_walking x0)
    walking_keeps h (Way.victim_waits x0 x1 x2 x3) = never (sym h ∙ ap is_walking x0)
    walking_keeps h (Way.victim_taken x0 x1 x2 x3 x4) = never (sym h ∙ ap is_walking x0)
    walking_keeps h (Way.marks x0 x1 x2) = never (sym h ∙ ap is_walking x0)
    walking_keeps h (Way.unlinks_back x0 x1 x2 x3) = never (sym h ∙ ap is_walking x0)
    walking_keeps h (Way.unlinks x0 x1 x2) = never (sym h ∙ ap is_walking x0)
    walking_keeps h (Way.detaches x0 x1 x2 x3 x4) = never (sym h ∙ ap is_walking x0)
    walking_keeps h (Way.releases_victim x0 x1 x2) = never (sym h ∙ ap is_walking x0)
    walking_keeps h (Way.strike_ends x0 x1 x2 x3) = never (sym h ∙ ap is_walking x0)
    walking_keeps h (Way.first_missing x0 x1 x2 x3) = ending (free_here First x0 refl) x3 _ x2
    walking_keeps h (Way.first_on_next x0 x1 x2 x3) = going (free_here First x0 refl) x3 (into FirstNext (moved_to (s.next low) t)) x2 refl (fit_here First x0) (next_is_seen rank s inv me low (low_seen rank s inv me) low_not_high) (λ h. never (sym h)) refl
    walking_keeps h (Way.first_marked x0 x1 x2 x3) = going (free_here FirstNext x0 refl) x3 (into First t) x2 refl (fit_here FirstNext x0) at_seen (λ h. never (sym h)) refl
    walking_keeps h (Way.first_found x0 x1 x2 x3 x4 x5) = ending (free_here FirstNext x0 refl) x5 _ x4
