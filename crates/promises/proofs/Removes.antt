-- That UNLINK keeps the invariant. Assumes the laws.
use Rattle.std.proofs.Common.{◌≡◌, ℕ, Bool, true, false, cond, not, ◌&&◌, ◌||◌, eqb, leb, ◌⊎◌, List, Some, Option, Ordering, sym, refl, ap, ◌∙◌, subst, inl, inr, arith}
use Rattle.std.proofs.lemmas.Bool.{eqb-true, eq-eqb, or_right, and_parts, and_from, cases_eq}
use Rattle.std.proofs.lemmas.Bool.Decides.{nat_tests}
use Rattle.guides.specs.Meaning.{low, high, has}
use Rattle.records.specs.declared.record.Phase.TheVariants.{Unlink, Detach}
use Rattle.records.specs.declared.record.Status.{Status}
use Rattle.records.specs.declared.record.Status.TheVariants.{InHand, Retired}
use Rattle.records.specs.declared.record.Task.{Task}
use Rattle.promises.specs.Promised.{is_chained}
use Rattle.promises.proofs.Small.{one_holder}
use Rattle.promises.proofs.Rungs.{joined_holds, placed_holds, three_holds, between_holds, handing_holds}
use Rattle.promises.proofs.Laws.{Laws, Bound, exact, before}
use Rattle.records.specs.Records.{into}
use Rattle.engine.specs.Settling.{with_steps}
use Rattle.promises.proofs.Laws.{before_chains}
use Rattle.promises.proofs.Sights.{Sight, at_with, task_put}
use Rattle.promises.proofs.Invariant.{rung, group, fits, holds_at, holds_other, is_placed, is_keyed, is_marked, is_joined, is_lagging, is_hiding, is_detaching, is_striking, is_handing, holds, other_in, holder_in, chained, seen_by, Stands, Inv}
use Rattle.promises.proofs.Retasks.{at_with_both}
use Rattle.promises.proofs.Sees.{never, holds_own_at, holds_own_other, at_not_high, spots_differ, has_other, joined_differ}
use Rattle.promises.proofs.Relocks.{just}
use Rattle.promises.proofs.Locking.{next_injective}
use Rattle.promises.proofs.Invariant.{waits_for}
use Rattle.promises.proofs.Sees.{joined_chained, joined_prev}
use Rattle.promises.proofs.Relocks.{awaited_with}
use Rattle.promises.proofs.Sights.{next_put, status_put}
use Rattle.promises.proofs.Preds.{at_with_other, at_with_same, keyed_not_high, keyed_not_low, lag_elsewhere}
use Rattle.promises.proofs.Sees.{at_not_other}
use Rattle.promises.proofs.Marking.{holds_by}

module _ {K : Type 0} (rank : K → K → Ordering) (laws : Laws rank) (s : Sight K) (inv : Inv rank s) (me : ℕ) (t : Task K) (is_task : s.task me ≡ Some t) (e : t.phase ≡ Unlink) where
  st : Stands rank s.spot s.next s.prev s.marked s.status t
  st = inv.stands me t is_task

  by : (f : ℕ → Bool) → f 11 ≡ true → f (rung t.phase) ≡ true
  by f h = ap (λ x. f (rung x)) e ∙ h

  -- The place below, the victim and its successor, and what is known of them.
  abbrev b : ℕ
  b = t.at

  abbrev x : ℕ
  x = t.other

  abbrev n : ℕ
  n = s.next x

  abbrev below : Bound K → Bound K → Type 0
  below u v = before rank u v ≡ true

  b_chained : chained s b ≡ true
  b_chained = st.at_chained (by is_placed refl)

  b_not_high : b ≡ high → ⊥
  b_not_high = at_not_high rank laws s inv me t is_task (by is_placed refl)

  next_b : s.next b ≡ x
  next_b = st.joined (by is_joined refl)

  x_chained : chained s x ≡ true
  x_chained = joined_chained rank laws s inv me t is_task (by is_joined refl)

  x_not_b : x ≡ b → ⊥
  x_not_b = joined_differ rank laws s inv me t is_task (by is_joined refl)

  b_not_x : b ≡ x → ⊥
  b_not_x h = x_not_b (sym h)

  x_keyed : s.spot x ≡ exact t.key
  x_keyed = st.keyed (by is_keyed refl)

  x_not_high : x ≡ high → ⊥
  x_not_high = keyed_not_high rank laws s inv me t is_task x t.key x_keyed

  b_below_x : below (s.spot b) (s.spot x)
  b_below_x = ap (λ q. before rank (s.spot b) (s.spot q)) (sym next_b) ∙ inv.rises b b_chained b_not_high

  x_below_n : below (s.spot x) (s.spot n)
  x_below_n = inv.rises x x_chained x_not_high

  n_chained : chained s n ≡ true
  n_chained = inv.leads x x_chained x_not_high

  x_not_n : x ≡ n → ⊥
  x_not_n = spots_differ rank laws s inv x n x_below_n

  lock_b : s.lock b ≡ Some me
  lock_b = holds_own_at rank laws s inv me t is_task (by holds_at refl)

  lock_x : s.lock x ≡ Some me
  lock_x = holds_own_other rank laws s inv me t is_task (by holds_other refl)

  chains : (p q r : ℕ) → below (s.spot p) (s.spot q) → below (s.spot q) (s.spot r) → below (s.spot p) (s.spot r)
  chains p q r = before_chains rank laws (s.spot p) (s.spot q) (s.spot r)

  prev_x : s.prev x ≡ b
  prev_x = joined_prev rank laws s inv me t is_task (by is_joined refl)

  -- ---- what is read after the write

  abbrev next' : ℕ → ℕ
  next' = at_with s.next b n

  abbrev status' : ℕ → Status
  status' = at_with s.status x InHand

  next_at_b : next' b ≡ n
  next_at_b = at_with_same s.next b n

  next_else : (p : ℕ) → (b ≡ p → ⊥) → next' p ≡ s.next p
  next_else p d = at_with_other s.next b p n d

  status_else : (p : ℕ) → (x ≡ p → ⊥) → status' p ≡ s.status p
  status_else p d = at_with_other s.status x p InHand d

  x_now : status' x ≡ InHand
  x_now = at_with_same s.status x InHand

  still : (p : ℕ) → chained s p ≡ true → (x ≡ p → ⊥) → is_chained (status' p) ≡ true
  still p c d = ap is_chained (status_else p d) ∙ c

  not_x : (p : ℕ) → is_chained (status' p) ≡ true → x ≡ p → ⊥
  not_x p c same = never (sym c ∙ ap (λ q. is_chained (status' q)) (sym same) ∙ ap is_chained x_now)

  was : (p : ℕ) → is_chained (status' p) ≡ true → chained s p ≡ true
  was p c = ap is_chained (sym (status_else p (not_x p c))) ∙ c

  by_b : (p : ℕ) (P : ℕ → Type 0) → P b → ((b ≡ p → ⊥) → P p) → P p
  by_b p P at_b else = elim (cases_eq b p) [ inl same ↦ subst P same at_b | inr d ↦ else d ]

  next_not_x : (p : ℕ) → chained s p ≡ true → (p ≡ high → ⊥) → (b ≡ p → ⊥) → x ≡ s.next p → ⊥
  next_not_x p c h d same = d (next_injective rank laws s inv b p b_chained c b_not_high h (next_b ∙ same))

  leads' : (p : ℕ) → is_chained (status' p) ≡ true → (p ≡ high → ⊥) → is_chained (status' (next' p)) ≡ true
  leads' p c h = by_b p (λ q. is_chained (status' (next' q)) ≡ true)
      (ap (λ q. is_chained (status' q)) next_at_b ∙ still n n_chained x_not_n)
      (λ d. ap (λ q. is_chained (status' q)) (next_else p d) ∙ still (s.next p) (inv.leads p (was p c) h) (next_not_x p (was p c) h d))

  rises' : (p : ℕ) → is_chained (status' p) ≡ true → (p ≡ high → ⊥) → below (s.spot p) (s.spot (next' p))
  rises' p c h = by_b p (λ q. below (s.spot q) (s.spot (next' q)))
      (ap (λ q. before rank (s.spot b) (s.spot q)) next_at_b ∙ chains b x n b_below_x x_below_n)
      (λ d. ap (λ q. before rank (s.spot p) (s.spot q)) (next_else p d) ∙ inv.rises p (was p c) h)

  gap_b : (q : ℕ) → chained s q ≡ true → (x ≡ q → ⊥) → below (s.spot b) (s.spot q) → (n ≡ q) ⊎ below (s.spot n) (s.spot q)
  gap_b q c k h = elim (inv.gap b q b_chained c h) [
    | inl same ↦ absurd (k (sym next_b ∙ same))
    | inr less ↦ inv.gap x q x_chained c (ap (λ r. before rank (s.spot r) (s.spot q)) (sym next_b) ∙ less)
  ]

  gap' : (p q : ℕ) → is_chained (status' p) ≡ true → is_chained (status' q) ≡ true → below (s.spot p) (s.spot q) → (next' p ≡ q) ⊎ below (s.spot (next' p)) (s.spot q)
  gap' p q c d h = by_b p (λ p. is_chained (status' p) ≡ true → below (s.spot p) (s.spot q) → (next' p ≡ q) ⊎ below (s.spot (next' p)) (s.spot q))
      (λ _ h. elim (gap_b q (was q d) (not_x q d) h) [
        | inl same ↦ inl (next_at_b ∙ same)
        | inr less ↦ inr (ap (λ r. before rank (s.spot r) (s.spot q)) next_at_b ∙ less)
      ])
      (λ k c h. elim (inv.gap p q (was p c) (was q d) h) [
        | inl same ↦ inl (next_else p k ∙ same)
        | inr less ↦ inr (ap (λ r. before rank (s.spot r) (s.spot q)) (next_else p k) ∙ less)
      ])
      c h

  follows' : (p : ℕ) → is_chained (status' p) ≡ true → (p ≡ low → ⊥) → (q : ℕ) × (is_chained (status' q) ≡ true) × (q ≡ high → ⊥) × (next' q ≡ p)
  follows' p c h = go (inv.follows p (was p c) h)
    where
      go : (q : ℕ) × (chained s q ≡ true) × (q ≡ high → ⊥) × (s.next q ≡ p) → (q : ℕ) × (is_chained (status' q) ≡ true) × (q ≡ high → ⊥) × (next' q ≡ p)
      go f = elim (cases_eq x f.0) [
        | inl same ↦ (b, still b b_chained x_not_b, b_not_high, next_at_b ∙ ap s.next same ∙ f.3)
        | inr d ↦ elim (cases_eq b f.0) [
          | inl same ↦ absurd (not_x p c (sym next_b ∙ ap s.next same ∙ f.3))
          | inr k ↦ (f.0, still f.0 f.1 d, f.2, next_else f.0 k ∙ f.3)
        ]
      ]

  module _ (steps : ℕ) where
    abbrev u : Task K
    u = with_steps steps (into Detach t)

    abbrev task' : ℕ → Option (Task K)
    task' = at_with s.task me (Some u)

    own_task : task' me ≡ Some u
    own_task = at_with_same s.task me (Some u)

    elsewhere : (f : ℕ → Bool) (p : ℕ) → (x ≡ p → ⊥) → holder_in f task' (s.lock p) p ≡ holder_in f s.task (s.lock p) p
    elsewhere f p d = lag_elsewhere rank laws s inv me t is_task f u refl p d

    and_true : (c : Bool) → (c && true) ≡ c
    and_true true = refl
    and_true false = refl

    at_x : (f : ℕ → Bool) → holder_in f task' (s.lock x) x ≡ f 12
    at_x f = ap (λ l. holder_in f task' l x) lock_x ∙ ap (λ y. other_in f y x) own_task ∙ ap (λ c. f 12 && c) (eq-eqb x x refl) ∙ and_true (f 12)

    at_x_before : (f : ℕ → Bool) → holder_in f s.task (s.lock x) x ≡ f 11
    at_x_before f =
        ap (λ l. holder_in f s.task l x) lock_x ∙ ap (λ y. other_in f y x) is_task ∙ ap (λ c. f (rung t.phase) && c) (eq-eqb x x refl) ∙ and_true (f (rung t.phase))
        ∙ ap (λ y. f (rung y)) e

    backs' : (p : ℕ) → is_chained (status' p) ≡ true → (p ≡ high → ⊥) → s.prev (next' p) ≡ cond (holder_in is_lagging task' (s.lock p) p) (s.prev p) p
    backs' p c h = by_b p (λ q. s.prev (next' q) ≡ cond (holder_in is_lagging task' (s.lock q) q) (s.prev q) q)
        (ap s.prev next_at_b ∙ inv.backs x x_chained x_not_high ∙ ap (λ y. cond y (s.prev x) x) (at_x_before is_lagging) ∙ prev_x
        ∙ ap (λ y. cond y (s.prev b) b) (sym (elsewhere is_lagging b x_not_b ∙ at_not_other rank laws s inv me t is_task is_lagging (by holds_at refl) x_not_b)))
        (λ d. ap s.prev (next_else p d) ∙ inv.backs p (was p c) h ∙ ap (λ y. cond y (s.prev p) p) (sym (elsewhere is_lagging p (not_x p c))))

    seen' : (i p : ℕ) → seen_by s i p ≡ true → (is_chained (status' p) || (s.marked p && waits_for i (status' p))) ≡ true
    seen' i p h = elim (cases_eq x p) [
      | inl same ↦ subst (λ q. (is_chained (status' q) || (s.marked q && waits_for i (status' q))) ≡ true) same
          (or_right (is_chained (status' x)) _ (and_from _ _ (st.other_marked (by is_marked refl)) (ap (waits_for i) x_now)))
      | inr d ↦ ap (λ y. is_chained y || (s.marked p && waits_for i y)) (status_else p d) ∙ h
    ]

    -- A place in hand was not the victim.
    not_hand : (p : ℕ) → s.status p ≡ InHand → x ≡ p → ⊥
    not_hand p h same = never (sym x_chained ∙ ap (chained s) same ∙ ap is_chained h)

    others : (i : ℕ) (v : Task K) → (me ≡ i → ⊥) → s.task i ≡ Some v → Stands rank s.spot next' s.prev s.marked status' v
    others i v d is = let y = inv.stands i v is in record {
      at_chained = λ h. still v.at (y.at_chained h) (λ same. d (one_holder me i (s.lock x) lock_x (ap s.lock same ∙ holds_own_at rank laws s inv i v is (placed_holds (rung v.phase) h))));
      at_unmarked = y.at_unmarked;
      at_below = y.at_below;
      next_above = λ h. ap (λ q. before rank (exact v.key) (s.spot q)) (kept (between_holds (rung v.phase) h)) ∙ y.next_above h;
      next_keyed = λ h. ap s.spot (kept (three_holds (rung v.phase) h)) ∙ y.next_keyed h;
      joined = λ h. kept (joined_holds (rung v.phase) h) ∙ y.joined h;
      keyed = y.keyed;
      other_marked = y.other_marked;
      spared = y.spared;
      in_hand = λ h. status_else v.other (not_hand v.other (y.in_hand h)) ∙ y.in_hand h;
      in_hand_next = λ h. next_else v.other (λ same. never (sym b_chained ∙ ap (chained s) same ∙ ap is_chained (y.in_hand h))) ∙ y.in_hand_next h
          ∙ sym (kept (handing_holds (rung v.phase) h));
      in_hand_prev = y.in_hand_prev;
    }
      where
        kept : holds_at (rung v.phase) ≡ true → next' v.at ≡ s.next v.at
        kept h = next_else v.at (λ same. d (one_holder me i (s.lock b) lock_b (ap s.lock same ∙ holds_own_at rank laws s inv i v is h)))

    own : Stands rank s.spot next' s.prev s.marked status' u
    own = record {
      at_chained = λ _. still b b_chained x_not_b;
      at_unmarked = λ _. st.at_unmarked (by is_placed refl);
      at_below = λ _. st.at_below (ap (λ y. leb 3 (group y)) e);
      next_above = λ _. ap (λ q. before rank (exact t.key) (s.spot q)) next_at_b ∙ ap (λ k. before rank k (s.spot n)) (sym x_keyed) ∙ x_below_n;
      next_keyed = λ h. never (sym h);
      joined = λ h. never (sym h);
      keyed = λ _. x_keyed;
      other_marked = λ _. st.other_marked (by is_marked refl);
      spared = λ h. never (sym h);
      in_hand = λ _. x_now;
      in_hand_next = λ _. next_else x b_not_x ∙ sym next_at_b;
      in_hand_prev = λ _. prev_x;
    }

    -- Which work has a place in hand now.
    hand_cases : (i p : ℕ) → other_in is_handing (task' i) p ≡ true → ((me ≡ i) × (x ≡ p)) ⊎ (other_in is_handing (s.task i) p ≡ true)
    hand_cases i p = at_with_both s.task me i (Some u) (λ y. other_in is_handing y p ≡ true → ((me ≡ i) × (x ≡ p)) ⊎ (other_in is_handing (s.task i) p ≡ true))
        (λ same h. inl (same, eqb-true x p h)) (λ _ h. inr h)

    -- Another work does not have the victim in hand.
    hand_not_x : (i p : ℕ) → other_in is_handing (s.task i) p ≡ true → x ≡ p → ⊥
    hand_not_x i p h same =
        let has = has_other is_handing (s.task i) p h in
        not_hand p (ap s.status (sym has.other_is) ∙ (inv.stands i has.task has.is).in_hand has.rung_is) same

    pub unlink_keeps : Inv rank (task_put me (Some u) (status_put x InHand (next_put b n s)))
    unlink_keeps = record {
      two = inv.two;
      beyond = λ p h. status_else p (λ same. never (sym x_chained ∙ ap (chained s) same ∙ ap is_chained (inv.beyond p h))) ∙ inv.beyond p h;
      guide_size = inv.guide_size;
      low_spot = inv.low_spot;
      high_spot = inv.high_spot;
      low_chained = status_else low (keyed_not_low rank laws s inv me t is_task x t.key x_keyed) ∙ inv.low_chained;
      high_chained = status_else high x_not_high ∙ inv.high_chained;
      low_unmarked = inv.low_unmarked;
      high_unmarked = inv.high_unmarked;
      leads = leads';
      rises = rises';
      gap = gap';
      apart = λ p q c d. inv.apart p q (was p c) (was q d);
      follows = follows';
      backs = backs';
      locks = λ i p. inv.locks i p
          ∙ sym (at_with_both s.task me i (Some u) (λ y. holds y p ≡ holds (s.task i) p)
          (λ k. holds_by rank laws s inv me t is_task Unlink e 12 refl refl p ∙ ap (λ y. holds y p) (sym is_task) ∙ ap (λ j. holds (s.task j) p) k) (λ _. refl));
      fit = λ i w. at_with_both s.task me i (Some u) (λ y. y ≡ Some w → fits w.work (group w.phase) ≡ true)
          (λ _ k. ap (λ y. fits y.work (group y.phase)) (sym (just u w k)) ∙ ap (λ y. fits t.work (group y)) (sym e) ∙ inv.fit me t is_task) (λ _. inv.fit i w);
      seen = λ i w. at_with_both s.task me i (Some u) (λ y. y ≡ Some w → (is_chained (status' w.at) || (s.marked w.at && waits_for i (status' w.at))) ≡ true)
          (λ same k. seen' i w.at (subst (λ j. seen_by s j w.at ≡ true) same (ap (λ y. seen_by s me y.at) (sym (just u w k)) ∙ inv.seen me t is_task)))
          (λ _ k. seen' i w.at (inv.seen i w k));
      stands = λ i w. at_with_both s.task me i (Some u) (λ y. y ≡ Some w → Stands rank s.spot next' s.prev s.marked status' w)
          (λ _ k. subst (Stands rank s.spot next' s.prev s.marked status') (just u w k) own) (λ d k. others i w d k);
      marks = λ p c m. striker p (not_x p c) (inv.marks p (was p c) m);
      hands = λ p h. elim (cases_eq x p) [
        | inl same ↦ (me, ap (λ y. other_in is_handing y p) own_task ∙ eq-eqb x p same)
        | inr d ↦ hand p (inv.hands p (sym (status_else p d) ∙ h))
      ];
      hands_apart = λ i j p y z. elim (hand_cases i p y) [
        | inl mine ↦ elim (hand_cases j p z) [ inl also ↦ sym mine.0 ∙ also.0 | inr their ↦ absurd (hand_not_x j p their mine.1) ]
        | inr their ↦ elim (hand_cases j p z) [ inl mine ↦ absurd (hand_not_x i p their mine.1) | inr also ↦ inv.hands_apart i j p their also ]
      ];
      rests = λ p w r. inv.rests p w (sym (status_else p (not_retired p w r)) ∙ r);
      awaits = λ p w r i h. awaited_with rank s inv me t is_task u refl i (inv.awaits p w (sym (status_else p (not_retired p w r)) ∙ r) i h);
      next_seen = λ p w r i h. let q = sym (status_else p (not_retired p w r)) ∙ r in
          ap (λ y. is_chained (status' y) || (s.marked y && waits_for i (status' y))) (next_else p (λ same. never (sym b_chained ∙ ap (chained s) same ∙ ap is_chained q)))
          ∙ seen' i (s.next p) (inv.next_seen p w q i h);
      prev_seen = λ p w r i h. seen' i (s.prev p) (inv.prev_seen p w (sym (status_else p (not_retired p w r)) ∙ r) i h);
      guide_rises = inv.guide_rises;
      guide_shows = λ p. inv.guide_shows p ∙ shows p;
    }
      where
        not_retired : (p : ℕ) (w : List Bool) → status' p ≡ Retired w → x ≡ p → ⊥
        not_retired p w h same = let z : ◌≡◌ {A = Status} InHand (Retired w) = sym x_now ∙ ap status' same ∙ h in let k : ◌≡◌ {A = ℕ} 0 1 = cc in omega arith

        striker : (p : ℕ) → (x ≡ p → ⊥) → (i : ℕ) × (other_in is_striking (s.task i) p ≡ true) → (i : ℕ) × (other_in is_striking (task' i) p ≡ true)
        striker p d has = (
          has.0,
          at_with_both s.task me has.0 (Some u) (λ y. other_in is_striking y p ≡ true)
              (λ same. absurd (d (eqb-true x p (and_parts (is_striking (rung t.phase)) (eqb x p) (ap (λ y. other_in is_striking y p) (sym is_task) ∙ ap (λ j. other_in is_striking (s.task j) p) same ∙ has.1)).1)))
              (λ _. has.1),
        )

        hand : (p : ℕ) → (i : ℕ) × (other_in is_handing (s.task i) p ≡ true) → (i : ℕ) × (other_in is_handing (task' i) p ≡ true)
        hand p has = (
          has.0,
          at_with_both s.task me has.0 (Some u) (λ y. other_in is_handing y p ≡ true)
              (λ same. never (sym has.1 ∙ ap (λ j. other_in is_handing (s.task j) p) (sym same) ∙ ap (λ y. other_in is_handing y p) is_task ∙ ap (λ y. is_handing (rung y) && eqb x p) e))
              (λ _. has.1),
        )

        struck : (a h d a2 h2 d2 : Bool) → a ≡ true → h ≡ false → d2 ≡ true → a2 ≡ false → ((a && not h) || d) ≡ ((a2 && not h2) || d2)
        struck a h d a2 h2 d2 ea eh ed e2 = grind (arith, nat_tests)

        shows : (p : ℕ) → ((chained s p && not (holder_in is_hiding s.task (s.lock p) p)) || holder_in is_detaching s.task (s.lock p) p)
            ≡ ((is_chained (status' p) && not (holder_in is_hiding task' (s.lock p) p)) || holder_in is_detaching task' (s.lock p) p)
        shows p = elim (cases_eq x p) [
          | inl same ↦ subst (λ q. ((chained s q && not (holder_in is_hiding s.task (s.lock q) q)) || holder_in is_detaching s.task (s.lock q) q)
              ≡ ((is_chained (status' q) && not (holder_in is_hiding task' (s.lock q) q)) || holder_in is_detaching task' (s.lock q) q)) same
              (struck (chained s x) (holder_in is_hiding s.task (s.lock x) x) (holder_in is_detaching s.task (s.lock x) x) (is_chained (status' x)) (holder_in is_hiding task' (s.lock x) x)
              (holder_in is_detaching task' (s.lock x) x) x_chained (at_x_before is_hiding) (at_x is_detaching) (ap is_chained x_now))
          | inr d ↦
              ap (λ y. (is_chained y && not (holder_in is_hiding s.task (s.lock p) p)) || holder_in is_detaching s.task (s.lock p) p) (sym (status_else p d))
              ∙ ap (λ y. (is_chained (status' p) && not y) || holder_in is_detaching s.task (s.lock p) p) (sym (elsewhere is_hiding p d))
              ∙ ap (λ y. (is_chained (status' p) && not (holder_in is_hiding task' (s.lock p) p)) || y) (sym (elsewhere is_detaching p d))
        ]
