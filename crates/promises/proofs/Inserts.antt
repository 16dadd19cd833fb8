-- That LINK keeps the invariant. Assumes the laws.
use Rattle.std.proofs.Common.{◌≡◌, ℕ, Bool, true, false, cond, not, ◌&&◌, ◌||◌, eqb, leb, ◌⊎◌, List, Some, Option, Ordering, sym, refl, ap, ◌∙◌, subst, inl, inr, arith}
use Rattle.std.proofs.lemmas.Bool.{eqb-true, eq-eqb, or_left, and_parts, and_from, cases_eq}
use Rattle.std.proofs.lemmas.Bool.Decides.{nat_tests}
use Rattle.guides.specs.Meaning.{low, high}
use Rattle.records.specs.declared.record.Phase.TheVariants.{Link, LinkBack}
use Rattle.records.specs.declared.record.Status.{Status}
use Rattle.records.specs.declared.record.Status.TheVariants.{Free, InHand, Chained, Retired}
use Rattle.records.specs.declared.record.Task.{Task}
use Rattle.promises.specs.Promised.{is_chained}
use Rattle.promises.proofs.Small.{one_holder}
use Rattle.promises.proofs.Rungs.{joined_holds, three_holds, between_holds, handing_holds}
use Rattle.promises.proofs.Laws.{Laws, Bound, exact, before}
use Rattle.records.specs.Records.{into}
use Rattle.engine.specs.Settling.{with_steps}
use Rattle.promises.proofs.Laws.{before_chains, before_not_self}
use Rattle.promises.proofs.Sights.{Sight, at_with, task_put}
use Rattle.promises.proofs.Invariant.{rung, group, fits, holds_at, holds_other, is_placed, is_between, is_keyed, is_lagging, is_hiding, is_detaching, is_striking, is_handing, holds, other_in, holder_in, chained, seen_by, Stands, Inv}
use Rattle.promises.proofs.Retasks.{at_with_both}
use Rattle.promises.proofs.Sees.{never, holds_own_at, holds_own_other, at_not_high}
use Rattle.promises.proofs.Relocks.{just}
use Rattle.promises.proofs.Invariant.{is_spared, waits_for}
use Rattle.promises.proofs.Relocks.{other_alike, awaited_with}
use Rattle.promises.proofs.Sights.{next_put, status_put}
use Rattle.promises.proofs.Preds.{at_with_other, at_with_same, keyed_not_high, keyed_not_low, lag_elsewhere}
use Rattle.promises.proofs.Releasing.{in_hand_differ}
use Rattle.promises.proofs.Sees.{at_not_other}
use Rattle.promises.proofs.Marking.{other_by, holds_by}

module _ {K : Type 0} (rank : K → K → Ordering) (laws : Laws rank) (s : Sight K) (inv : Inv rank s) (me : ℕ) (t : Task K) (is_task : s.task me ≡ Some t) (e : t.phase ≡ Link) where
  st : Stands rank s.spot s.next s.prev s.marked s.status t
  st = inv.stands me t is_task

  by : (f : ℕ → Bool) → f 5 ≡ true → f (rung t.phase) ≡ true
  by f h = ap (λ x. f (rung x)) e ∙ h

  -- The place below, the new one, and what is known of them.
  abbrev b : ℕ
  b = t.at

  abbrev x : ℕ
  x = t.other

  abbrev below : Bound K → Bound K → Type 0
  below u v = before rank u v ≡ true

  b_chained : chained s b ≡ true
  b_chained = st.at_chained (by is_placed refl)

  b_not_high : b ≡ high → ⊥
  b_not_high = at_not_high rank laws s inv me t is_task (by is_placed refl)

  x_in_hand : s.status x ≡ InHand
  x_in_hand = st.in_hand (by is_handing refl)

  x_unchained : chained s x ≡ false
  x_unchained = ap is_chained x_in_hand

  x_not_b : x ≡ b → ⊥
  x_not_b = in_hand_differ rank laws s inv me t is_task (by is_handing refl) (by is_placed refl)

  b_not_x : b ≡ x → ⊥
  b_not_x h = x_not_b (sym h)

  x_keyed : s.spot x ≡ exact t.key
  x_keyed = st.keyed (by is_keyed refl)

  x_not_high : x ≡ high → ⊥
  x_not_high = keyed_not_high rank laws s inv me t is_task x t.key x_keyed

  next_x : s.next x ≡ s.next b
  next_x = st.in_hand_next (by is_handing refl)

  b_below_x : below (s.spot b) (s.spot x)
  b_below_x = ap (before rank (s.spot b)) x_keyed ∙ st.at_below (ap (λ y. leb 3 (group y)) e)

  x_below_next : below (s.spot x) (s.spot (s.next b))
  x_below_next = ap (λ y. before rank y (s.spot (s.next b))) x_keyed ∙ st.next_above (by is_between refl)

  next_b_chained : chained s (s.next b) ≡ true
  next_b_chained = inv.leads b b_chained b_not_high

  lock_b : s.lock b ≡ Some me
  lock_b = holds_own_at rank laws s inv me t is_task (by holds_at refl)

  lock_x : s.lock x ≡ Some me
  lock_x = holds_own_other rank laws s inv me t is_task (by holds_other refl)

  chains : (p q r : ℕ) → below (s.spot p) (s.spot q) → below (s.spot q) (s.spot r) → below (s.spot p) (s.spot r)
  chains p q r = before_chains rank laws (s.spot p) (s.spot q) (s.spot r)

  circle : {P : Type 0} (p q : ℕ) → below (s.spot p) (s.spot q) → below (s.spot q) (s.spot p) → P
  circle p q h k = never (sym (chains p q p h k) ∙ before_not_self rank laws (s.spot p))

  -- ---- what is read after the write

  abbrev next' : ℕ → ℕ
  next' = at_with s.next b x

  abbrev status' : ℕ → Status
  status' = at_with s.status x Chained

  next_at_b : next' b ≡ x
  next_at_b = at_with_same s.next b x

  next_else : (p : ℕ) → (b ≡ p → ⊥) → next' p ≡ s.next p
  next_else p d = at_with_other s.next b p x d

  next_at_x : next' x ≡ s.next b
  next_at_x = next_else x b_not_x ∙ next_x

  status_else : (p : ℕ) → (x ≡ p → ⊥) → status' p ≡ s.status p
  status_else p d = at_with_other s.status x p Chained d

  x_now : is_chained (status' x) ≡ true
  x_now = ap is_chained (at_with_same s.status x Chained)

  still : (p : ℕ) → chained s p ≡ true → is_chained (status' p) ≡ true
  still p c = at_with_both s.status x p Chained (λ y. is_chained y ≡ true) (λ _. refl) (λ _. c)

  was : (p : ℕ) → (x ≡ p → ⊥) → is_chained (status' p) ≡ true → chained s p ≡ true
  was p d c = ap is_chained (sym (status_else p d)) ∙ c

  by_place : (p : ℕ) (P : ℕ → Type 0) → P b → P x → ((b ≡ p → ⊥) → (x ≡ p → ⊥) → P p) → P p
  by_place p P at_b at_x else = elim (cases_eq b p) [
    | inl same ↦ subst P same at_b
    | inr d ↦ elim (cases_eq x p) [ inl same ↦ subst P same at_x | inr d2 ↦ else d d2 ]
  ]

  leads' : (p : ℕ) → is_chained (status' p) ≡ true → (p ≡ high → ⊥) → is_chained (status' (next' p)) ≡ true
  leads' p c h = by_place p (λ q. is_chained (status' (next' q)) ≡ true)
      (ap (λ q. is_chained (status' q)) next_at_b ∙ x_now)
      (ap (λ q. is_chained (status' q)) next_at_x ∙ still (s.next b) next_b_chained)
      (λ d d2. ap (λ q. is_chained (status' q)) (next_else p d) ∙ still (s.next p) (inv.leads p (was p d2 c) h))

  rises' : (p : ℕ) → is_chained (status' p) ≡ true → (p ≡ high → ⊥) → below (s.spot p) (s.spot (next' p))
  rises' p c h = by_place p (λ q. below (s.spot q) (s.spot (next' q)))
      (ap (λ q. before rank (s.spot b) (s.spot q)) next_at_b ∙ b_below_x)
      (ap (λ q. before rank (s.spot x) (s.spot q)) next_at_x ∙ x_below_next)
      (λ d d2. ap (λ q. before rank (s.spot p) (s.spot q)) (next_else p d) ∙ inv.rises p (was p d2 c) h)

  -- What is above below is the new place's successor or above that.
  after_b : (q : ℕ) → chained s q ≡ true → below (s.spot b) (s.spot q) → (s.next b ≡ q) ⊎ below (s.spot (s.next b)) (s.spot q)
  after_b q c h = inv.gap b q b_chained c h

  x_below : (q : ℕ) → chained s q ≡ true → below (s.spot b) (s.spot q) → below (s.spot x) (s.spot q)
  x_below q c h = elim (after_b q c h) [
    | inl same ↦ ap (λ r. before rank (s.spot x) (s.spot r)) (sym same) ∙ x_below_next
    | inr less ↦ chains x (s.next b) q x_below_next less
  ]

  -- The new place stands apart from every other.
  x_apart : (q : ℕ) → chained s q ≡ true → (below (s.spot x) (s.spot q)) ⊎ (below (s.spot q) (s.spot x))
  x_apart q c = elim (inv.apart b q b_chained c) [
    | inl same ↦ inr (ap (λ r. before rank (s.spot r) (s.spot x)) (sym same) ∙ b_below_x)
    | inr sides ↦ elim sides [ inl up ↦ inl (x_below q c up) | inr down ↦ inr (chains q b x down b_below_x) ]
  ]

  gap_to_x : (p : ℕ) → chained s p ≡ true → (b ≡ p → ⊥) → below (s.spot p) (s.spot x) → below (s.spot (s.next p)) (s.spot x)
  gap_to_x p c d h = elim (inv.apart b p b_chained c) [
    | inl same ↦ absurd (d same)
    | inr sides ↦ elim sides [
      | inl up ↦ circle x p (x_below p c up) h
      | inr down ↦ elim (inv.gap p b c b_chained down) [
        | inl same ↦ ap (λ r. before rank (s.spot r) (s.spot x)) same ∙ b_below_x
        | inr less ↦ chains (s.next p) b x less b_below_x
      ]
    ]
  ]

  gap' : (p q : ℕ) → is_chained (status' p) ≡ true → is_chained (status' q) ≡ true → below (s.spot p) (s.spot q) → (next' p ≡ q) ⊎ below (s.spot (next' p)) (s.spot q)
  gap' p q c d = by_place p (λ p. is_chained (status' p) ≡ true → below (s.spot p) (s.spot q) → (next' p ≡ q) ⊎ below (s.spot (next' p)) (s.spot q))
      (λ _ h. elim (cases_eq x q) [
        | inl same ↦ inl (next_at_b ∙ same)
        | inr k ↦ inr (ap (λ r. before rank (s.spot r) (s.spot q)) next_at_b ∙ x_below q (was q k d) h)
      ])
      (λ _ h. elim (cases_eq x q) [
        | inl same ↦ circle x q h (subst (λ r. below (s.spot q) (s.spot r)) (sym same) (subst (λ r. below (s.spot r) (s.spot q)) same h))
        | inr k ↦ elim (after_b q (was q k d) (chains b x q b_below_x h)) [
          | inl same ↦ inl (next_at_x ∙ same)
          | inr less ↦ inr (ap (λ r. before rank (s.spot r) (s.spot q)) next_at_x ∙ less)
        ]
      ])
      (λ d1 d2 c h. elim (cases_eq x q) [
        | inl same ↦ inr (ap (λ r. before rank (s.spot r) (s.spot q)) (next_else p d1) ∙ ap (λ r. before rank (s.spot (s.next p)) (s.spot r)) (sym same)
            ∙ gap_to_x p (was p d2 c) d1 (ap (λ r. before rank (s.spot p) (s.spot r)) same ∙ h))
        | inr k ↦ elim (inv.gap p q (was p d2 c) (was q k d) h) [
          | inl same ↦ inl (next_else p d1 ∙ same)
          | inr less ↦ inr (ap (λ r. before rank (s.spot r) (s.spot q)) (next_else p d1) ∙ less)
        ]
      ])
      c

  apart' : (p q : ℕ) → is_chained (status' p) ≡ true → is_chained (status' q) ≡ true → (p ≡ q) ⊎ ((below (s.spot p) (s.spot q)) ⊎ (below (s.spot q) (s.spot p)))
  apart' p q c d = elim (cases_eq x p) [
    | inl same ↦ elim (cases_eq x q) [
      | inl also ↦ inl (sym same ∙ also)
      | inr k ↦ inr (subst (λ r. (below (s.spot r) (s.spot q)) ⊎ (below (s.spot q) (s.spot r))) same (x_apart q (was q k d)))
    ]
    | inr j ↦ elim (cases_eq x q) [
      | inl also ↦ inr (subst (λ r. (below (s.spot p) (s.spot r)) ⊎ (below (s.spot r) (s.spot p))) also (turned (x_apart p (was p j c))))
      | inr k ↦ inv.apart p q (was p j c) (was q k d)
    ]
  ]
    where
      turned : {A B : Type 0} → A ⊎ B → B ⊎ A
      turned (inl a) = inr a
      turned (inr a) = inl a

  follows' : (p : ℕ) → is_chained (status' p) ≡ true → (p ≡ low → ⊥) → (q : ℕ) × (is_chained (status' q) ≡ true) × (q ≡ high → ⊥) × (next' q ≡ p)
  follows' p c h = elim (cases_eq x p) [
    | inl same ↦ (b, still b b_chained, b_not_high, next_at_b ∙ same)
    | inr d ↦ go (inv.follows p (was p d c) h)
  ]
    where
      go : (q : ℕ) × (chained s q ≡ true) × (q ≡ high → ⊥) × (s.next q ≡ p) → (q : ℕ) × (is_chained (status' q) ≡ true) × (q ≡ high → ⊥) × (next' q ≡ p)
      go f = elim (cases_eq b f.0) [
        | inl same ↦ (x, x_now, x_not_high, next_at_x ∙ ap s.next same ∙ f.3)
        | inr d ↦ (f.0, still f.0 f.1, f.2, next_else f.0 d ∙ f.3)
      ]

  module _ (n : ℕ) where
    abbrev u : Task K
    u = with_steps n (into LinkBack t)

    abbrev task' : ℕ → Option (Task K)
    task' = at_with s.task me (Some u)

    own_task : task' me ≡ Some u
    own_task = at_with_same s.task me (Some u)

    elsewhere : (f : ℕ → Bool) (p : ℕ) → (x ≡ p → ⊥) → holder_in f task' (s.lock p) p ≡ holder_in f s.task (s.lock p) p
    elsewhere f p d = lag_elsewhere rank laws s inv me t is_task f u refl p d

    at_x : (f : ℕ → Bool) → holder_in f task' (s.lock x) x ≡ f 6
    at_x f = ap (λ l. holder_in f task' l x) lock_x ∙ ap (λ y. other_in f y x) own_task ∙ ap (λ c. f 6 && c) (eq-eqb x x refl) ∙ and_true (f 6)
      where
        and_true : (c : Bool) → (c && true) ≡ c
        and_true true = refl
        and_true false = refl

    backs' : (p : ℕ) → is_chained (status' p) ≡ true → (p ≡ high → ⊥) → s.prev (next' p) ≡ cond (holder_in is_lagging task' (s.lock p) p) (s.prev p) p
    backs' p c h = by_place p (λ q. s.prev (next' q) ≡ cond (holder_in is_lagging task' (s.lock q) q) (s.prev q) q)
        (ap s.prev next_at_b ∙ st.in_hand_prev (by is_handing refl)
        ∙ ap (λ y. cond y (s.prev b) b) (sym (elsewhere is_lagging b x_not_b ∙ at_not_other rank laws s inv me t is_task is_lagging (by holds_at refl) x_not_b)))
        (ap s.prev next_at_x ∙ inv.backs b b_chained b_not_high ∙ ap (λ y. cond y (s.prev b) b) (at_not_other rank laws s inv me t is_task is_lagging (by holds_at refl) x_not_b)
        ∙ sym (ap (λ y. cond y (s.prev x) x) (at_x is_lagging) ∙ st.in_hand_prev (by is_handing refl)))
        (λ d d2. ap s.prev (next_else p d) ∙ inv.backs p (was p d2 c) h ∙ ap (λ y. cond y (s.prev p) p) (sym (elsewhere is_lagging p d2)))

    seen' : (i p : ℕ) → seen_by s i p ≡ true → (is_chained (status' p) || (s.marked p && waits_for i (status' p))) ≡ true
    seen' i p h = elim (cases_eq x p) [
      | inl same ↦ or_left (is_chained (status' p)) _ (ap (λ q. is_chained (status' q)) (sym same) ∙ x_now)
      | inr d ↦ ap (λ y. is_chained y || (s.marked p && waits_for i y)) (status_else p d) ∙ h
    ]

    -- The other works see nothing of it.
    others : (i : ℕ) (v : Task K) → (me ≡ i → ⊥) → s.task i ≡ Some v → Stands rank s.spot next' s.prev s.marked status' v
    others i v d is = let y = inv.stands i v is in record {
      at_chained = λ h. still v.at (y.at_chained h);
      at_unmarked = y.at_unmarked;
      at_below = y.at_below;
      next_above = λ h. ap (λ q. before rank (exact v.key) (s.spot q)) (kept (between_holds (rung v.phase) h)) ∙ y.next_above h;
      next_keyed = λ h. ap s.spot (kept (three_holds (rung v.phase) h)) ∙ y.next_keyed h;
      joined = λ h. kept (joined_holds (rung v.phase) h) ∙ y.joined h;
      keyed = y.keyed;
      other_marked = y.other_marked;
      spared = y.spared;
      in_hand = λ h. status_else v.other (not_x h) ∙ y.in_hand h;
      in_hand_next = λ h. next_else v.other (λ same. never (sym b_chained ∙ ap (chained s) same ∙ ap is_chained (y.in_hand h))) ∙ y.in_hand_next h
          ∙ sym (kept (handing_holds (rung v.phase) h));
      in_hand_prev = y.in_hand_prev;
    }
      where
        kept : holds_at (rung v.phase) ≡ true → next' v.at ≡ s.next v.at
        kept h = next_else v.at (λ same. d (one_holder me i (s.lock b) lock_b (ap s.lock same ∙ holds_own_at rank laws s inv i v is h)))

        not_x : is_handing (rung v.phase) ≡ true → x ≡ v.other → ⊥
        not_x h same = d (inv.hands_apart me i x
            (ap (λ y. other_in is_handing y x) is_task ∙ and_from _ _ (by is_handing refl) (eq-eqb x x refl))
            (ap (λ y. other_in is_handing y x) is ∙ and_from _ _ h (eq-eqb v.other x (sym same))))

    own : Stands rank s.spot next' s.prev s.marked status' u
    own = record {
      at_chained = λ _. still b b_chained;
      at_unmarked = λ _. st.at_unmarked (by is_placed refl);
      at_below = λ _. st.at_below (ap (λ y. leb 3 (group y)) e);
      next_above = λ h. never (sym h);
      next_keyed = λ h. never (sym h);
      joined = λ _. next_at_b;
      keyed = λ _. x_keyed;
      other_marked = λ h. never (sym h);
      spared = λ _. st.spared (by is_spared refl);
      in_hand = λ h. never (sym h);
      in_hand_next = λ h. never (sym h);
      in_hand_prev = λ h. never (sym h);
    }

    -- A work that has a place in hand now is another one.
    hand_other : (i p : ℕ) → other_in is_handing (task' i) p ≡ true → other_in is_handing (s.task i) p ≡ true
    hand_other i p = at_with_both s.task me i (Some u) (λ y. other_in is_handing y p ≡ true → other_in is_handing (s.task i) p ≡ true) (λ _ h. never (sym h)) (λ _ h. h)

    pub link_keeps : Inv rank (task_put me (Some u) (status_put x Chained (next_put b x s)))
    link_keeps = record {
      two = inv.two;
      beyond = λ p h. status_else p (λ same. let z : ◌≡◌ {A = Status} InHand Free = sym x_in_hand ∙ ap s.status same ∙ inv.beyond p h in let w : ◌≡◌ {A = ℕ} 0 1 = cc in omega arith) ∙ inv.beyond p h;
      guide_size = inv.guide_size;
      low_spot = inv.low_spot;
      high_spot = inv.high_spot;
      low_chained = status_else low (keyed_not_low rank laws s inv me t is_task x t.key x_keyed) ∙ inv.low_chained;
      high_chained = status_else high x_not_high ∙ inv.high_chained;
      low_unmarked = inv.low_unmarked;
      high_unmarked = inv.high_unmarked;
      leads = leads';
      rises = rises';
      gap = gap';
      apart = apart';
      follows = follows';
      backs = backs';
      locks = λ i p. inv.locks i p
          ∙ sym (at_with_both s.task me i (Some u) (λ y. holds y p ≡ holds (s.task i) p)
          (λ k. holds_by rank laws s inv me t is_task Link e 6 refl refl p ∙ ap (λ y. holds y p) (sym is_task) ∙ ap (λ j. holds (s.task j) p) k) (λ _. refl));
      fit = λ i w. at_with_both s.task me i (Some u) (λ y. y ≡ Some w → fits w.work (group w.phase) ≡ true)
          (λ _ k. ap (λ y. fits y.work (group y.phase)) (sym (just u w k)) ∙ ap (λ y. fits t.work (group y)) (sym e) ∙ inv.fit me t is_task) (λ _. inv.fit i w);
      seen = λ i w. at_with_both s.task me i (Some u) (λ y. y ≡ Some w → (is_chained (status' w.at) || (s.marked w.at && waits_for i (status' w.at))) ≡ true)
          (λ same k. seen' i w.at (subst (λ j. seen_by s j w.at ≡ true) same (ap (λ y. seen_by s me y.at) (sym (just u w k)) ∙ inv.seen me t is_task)))
          (λ _ k. seen' i w.at (inv.seen i w k));
      stands = λ i w. at_with_both s.task me i (Some u) (λ y. y ≡ Some w → Stands rank s.spot next' s.prev s.marked status' w)
          (λ _ k. subst (Stands rank s.spot next' s.prev s.marked status') (just u w k) own) (λ d k. others i w d k);
      marks = λ p c m. elim (cases_eq x p) [
        | inl same ↦ never (sym m ∙ ap s.marked (sym same) ∙ st.spared (by is_spared refl))
        | inr d ↦ let has = inv.marks p (was p d c) m in
            (has.0, other_alike rank s inv me t is_task is_striking u (other_by rank laws s inv me t is_task is_striking Link e 6 refl) has.0 p ∙ has.1)
      ];
      hands = λ p h. hand p (status_else p (not_chained p h)) h;
      hands_apart = λ i j p y z. inv.hands_apart i j p (hand_other i p y) (hand_other j p z);
      rests = λ p w r. inv.rests p w (sym (status_else p (not_retired p w r)) ∙ r);
      awaits = λ p w r i h. awaited_with rank s inv me t is_task u refl i (inv.awaits p w (sym (status_else p (not_retired p w r)) ∙ r) i h);
      next_seen = λ p w r i h. let q = sym (status_else p (not_retired p w r)) ∙ r in
          ap (λ y. is_chained (status' y) || (s.marked y && waits_for i (status' y))) (next_else p (λ same. never (sym b_chained ∙ ap (chained s) same ∙ ap is_chained q)))
          ∙ seen' i (s.next p) (inv.next_seen p w q i h);
      prev_seen = λ p w r i h. seen' i (s.prev p) (inv.prev_seen p w (sym (status_else p (not_retired p w r)) ∙ r) i h);
      guide_rises = inv.guide_rises;
      guide_shows = λ p. inv.guide_shows p ∙ shows p;
    }
      where
        not_chained : (p : ℕ) → status' p ≡ InHand → x ≡ p → ⊥
        not_chained p h same = let z : ◌≡◌ {A = Status} Chained InHand = sym (at_with_same s.status x Chained) ∙ ap status' same ∙ h in let w : ◌≡◌ {A = ℕ} 0 1 = cc in omega arith

        not_retired : (p : ℕ) (w : List Bool) → status' p ≡ Retired w → x ≡ p → ⊥
        not_retired p w h same = let z : ◌≡◌ {A = Status} Chained (Retired w) = sym (at_with_same s.status x Chained) ∙ ap status' same ∙ h in let k : ◌≡◌ {A = ℕ} 0 1 = cc in omega arith

        mine_is : (p : ℕ) → other_in is_handing (Some t) p ≡ true → x ≡ p
        mine_is p h = eqb-true x p (and_parts (is_handing (rung t.phase)) (eqb x p) h).1

        hand : (p : ℕ) → status' p ≡ s.status p → status' p ≡ InHand → (i : ℕ) × (other_in is_handing (task' i) p ≡ true)
        hand p same h =
            let has = inv.hands p (sym same ∙ h) in (
              has.0,
              at_with_both s.task me has.0 (Some u) (λ y. other_in is_handing y p ≡ true)
                  (λ mine. absurd (not_chained p h (mine_is p (ap (λ y. other_in is_handing y p) (sym is_task) ∙ ap (λ j. other_in is_handing (s.task j) p) mine ∙ has.1))))
                  (λ _. has.1),
            )

        hidden : (a h d h2 d2 : Bool) → a ≡ false → d ≡ false → h2 ≡ true → d2 ≡ false → ((a && not h) || d) ≡ ((true && not h2) || d2)
        hidden a h d h2 d2 ea ed eh e2 = grind (arith, nat_tests)

        old_detaching : holder_in is_detaching s.task (s.lock x) x ≡ false
        old_detaching =
            ap (λ l. holder_in is_detaching s.task l x) lock_x ∙ ap (λ y. other_in is_detaching y x) is_task ∙ ap (λ y. is_detaching (rung y) && eqb x x) e

        shows : (p : ℕ) → ((chained s p && not (holder_in is_hiding s.task (s.lock p) p)) || holder_in is_detaching s.task (s.lock p) p)
            ≡ ((is_chained (status' p) && not (holder_in is_hiding task' (s.lock p) p)) || holder_in is_detaching task' (s.lock p) p)
        shows p = elim (cases_eq x p) [
          | inl same ↦ subst (λ q. ((chained s q && not (holder_in is_hiding s.task (s.lock q) q)) || holder_in is_detaching s.task (s.lock q) q)
              ≡ ((is_chained (status' q) && not (holder_in is_hiding task' (s.lock q) q)) || holder_in is_detaching task' (s.lock q) q)) same
              (hidden (chained s x) (holder_in is_hiding s.task (s.lock x) x) _ _ _ x_unchained old_detaching (at_x is_hiding) (at_x is_detaching)
              ∙ ap (λ c. (c && not (holder_in is_hiding task' (s.lock x) x)) || holder_in is_detaching task' (s.lock x) x) (sym x_now))
          | inr d ↦
              ap (λ y. (is_chained y && not (holder_in is_hiding s.task (s.lock p) p)) || holder_in is_detaching s.task (s.lock p) p) (sym (status_else p d))
              ∙ ap (λ y. (is_chained (status' p) && not y) || holder_in is_detaching s.task (s.lock p) p) (sym (elsewhere is_hiding p d))
              ∙ ap (λ y. (is_chained (status' p) && not (holder_in is_hiding task' (s.lock p) p)) || y) (sym (elsewhere is_detaching p d))
        ]
