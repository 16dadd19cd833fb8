-- That TAKE of a free place keeps the invariant. Assumes the laws.
use Rattle.std.proofs.Common.{◌≡◌, ℕ, ◌<◌, ◌≤◌, Bool, true, false, cond, not, ◌&&◌, ◌||◌, eqb, leb, ◌⊎◌, List, [], ◌∷◌, Some, None, Option, Ordering, sym, refl, ap, ◌∙◌, subst, inl, inr, arith}
use Rattle.std.proofs.lemmas.Bool.{eqb-true, eq-eqb, ne_eqb, or_left, or_right, or_cases, and_parts, cases_eq}
use Rattle.std.proofs.lemmas.Bool.Decides.{nat_tests}
use Rattle.std.proofs.Math.Bool.{and-false}
use Rattle.guides.specs.Meaning.{low, high, has}
use Rattle.records.specs.declared.record.Phase.TheVariants.{Take, Link}
use Rattle.records.specs.declared.record.Status.{Status}
use Rattle.records.specs.declared.record.Status.TheVariants.{Free, InHand, Retired}
use Rattle.records.specs.declared.record.Task.{Task}
use Rattle.engine.specs.Calling.{locked_by}
use Rattle.promises.specs.Promised.{is_chained}
use Rattle.promises.proofs.Rungs.{three_placed}
use Rattle.promises.proofs.Laws.{Laws, Bound, exact, before}
use Rattle.records.specs.Records.{into, with_other}
use Rattle.engine.specs.Settling.{with_steps}
use Rattle.promises.proofs.Sights.{Sight, at_with, task_put}
use Rattle.promises.proofs.Invariant.{rung, group, fits, holds_at, holds_other, is_placed, is_between, is_keyed, is_marked, is_joined, is_lagging, is_hiding, is_detaching, is_striking, is_handing, holds, other_in, holder_in, chained, seen_by, Stands, Inv}
use Rattle.promises.proofs.Retasks.{at_with_both}
use Rattle.promises.proofs.Sees.{never, at_not_high, has_other}
use Rattle.promises.proofs.Relocks.{just, both_fail}
use Rattle.promises.proofs.Invariant.{is_spared, waits_for}
use Rattle.promises.proofs.Retasks.{holder_same}
use Rattle.promises.proofs.Sees.{joined_chained, not_high_below}
use Rattle.promises.proofs.Relocks.{other_alike, awaited_with}
use Rattle.promises.proofs.Preds.{at_with_other, at_with_same}
use Rattle.records.specs.declared.record.Place.{Place}
use Rattle.promises.proofs.Sights.{own_spot, filled}
use Rattle.promises.proofs.Invariant.{Rising}
use Rattle.promises.proofs.Sees.{guided_is_seen}

rising_same : {K : Type 0} (rank : K → K → Ordering) (f g : ℕ → Bound K) (xs : List ℕ) → ((y : ℕ) → has y xs ≡ true → g y ≡ f y) → Rising rank f xs → Rising rank g xs
rising_same rank f g [] same r = tt
rising_same rank f g (x ∷ xs) same r = (
  (λ y h. ap (λ a. before rank a (g y)) (same x (or_left (eqb x x) (has x xs) (eq-eqb x x refl))) ∙ ap (before rank (f x)) (same y (or_right (eqb x y) (has y xs) h)) ∙ r.0 y h),
  rising_same rank f g xs (λ y h. same y (or_right (eqb x y) (has y xs) h)) r.1,
)

module _ {K : Type 0} (rank : K → K → Ordering) (laws : Laws rank) (s : Sight K) (inv : Inv rank s) (me : ℕ) (t : Task K) (is_task : s.task me ≡ Some t) (e : t.phase ≡ Take)
    (p : ℕ) (two : 2 ≤ p) (within : p < s.size) (free : s.status p ≡ Free) where
  st : Stands rank s.spot s.next s.prev s.marked s.status t
  st = inv.stands me t is_task

  by : (f : ℕ → Bool) → f 4 ≡ true → f (rung t.phase) ≡ true
  by f h = ap (λ x. f (rung x)) e ∙ h

  abbrev b : ℕ
  b = t.at

  abbrev new : Place K
  new = record { key = t.key; next = s.next t.at; prev = t.at; marked = false; lock = Some me; status = InHand }

  -- ---- places that are not free are others

  chained_other : (q : ℕ) → chained s q ≡ true → p ≡ q → ⊥
  chained_other q c same = never (sym c ∙ ap (chained s) (sym same) ∙ ap is_chained free)

  hand_other : (q : ℕ) → s.status q ≡ InHand → p ≡ q → ⊥
  hand_other q h same = let z : ◌≡◌ {A = Status} Free InHand = sym free ∙ ap s.status same ∙ h in let k : ◌≡◌ {A = ℕ} 0 1 = cc in omega arith

  seen_other : (i q : ℕ) → seen_by s i q ≡ true → p ≡ q → ⊥
  seen_other i q h same = never (sym h ∙ ap (seen_by s i) (sym same) ∙ ap (λ y. is_chained y || (s.marked p && waits_for i y)) free ∙ and-false (s.marked p))

  -- The other place of a work that has one.
  other_other : (i : ℕ) (v : Task K) → s.task i ≡ Some v → is_keyed (rung v.phase) ≡ true → p ≡ v.other → ⊥
  other_other i v is h same = elim (either (rung v.phase) h) [
    | inl joins ↦ chained_other v.other (joined_chained rank laws s inv i v is joins) same
    | inr hands ↦ hand_other v.other ((inv.stands i v is).in_hand hands) same
  ]
    where
      either : (r : ℕ) → is_keyed r ≡ true → (is_joined r ≡ true) ⊎ (is_handing r ≡ true)
      either r h = go (is_joined r) refl
        where
          go : (c : Bool) → is_joined r ≡ c → (is_joined r ≡ true) ⊎ (is_handing r ≡ true)
          go true c = inl c
          go false c = inr (grind (arith, nat_tests))

  -- Nobody holds the lock of a free place.
  unlocked : s.lock p ≡ None
  unlocked = go (s.lock p) refl
    where
      held : (i : ℕ) (a : Option (Task K)) → s.task i ≡ a → holds a p ≡ true → ⊥
      held i None is h = never (sym h)
      held i (Some v) is h = elim (or_cases (holds_at (rung v.phase) && eqb v.at p) _ h) [
        | inl at ↦ seen_other i v.at (inv.seen i v is) (sym (eqb-true v.at p (and_parts (holds_at (rung v.phase)) (eqb v.at p) at).1))
        | inr other ↦ let both = and_parts (holds_other (rung v.phase)) (eqb v.other p) other in
            other_other i v is (keyed_there (rung v.phase) both.0) (sym (eqb-true v.other p both.1))
      ]
        where
          keyed_there : (r : ℕ) → holds_other r ≡ true → is_keyed r ≡ true
          keyed_there r h = grind (arith, nat_tests)

      go : (l : Option ℕ) → s.lock p ≡ l → l ≡ None
      go None is = refl
      go (Some i) is = absurd (held i (s.task i) refl (sym (inv.locks i p) ∙ ap (locked_by i) is ∙ eq-eqb i i refl))

  -- ---- what is read after the write

  abbrev spot' : ℕ → Bound K
  spot' = at_with s.spot p (own_spot p (exact t.key))

  abbrev next' : ℕ → ℕ
  next' = at_with s.next p (s.next b)

  abbrev prev' : ℕ → ℕ
  prev' = at_with s.prev p b

  abbrev marked' : ℕ → Bool
  marked' = at_with s.marked p false

  abbrev lock' : ℕ → Option ℕ
  lock' = at_with s.lock p (Some me)

  abbrev status' : ℕ → Status
  status' = at_with s.status p InHand

  else : {A : Type 0} (f : ℕ → A) (a : A) (q : ℕ) → (p ≡ q → ⊥) → at_with f p a q ≡ f q
  else f a q d = at_with_other f p q a d

  not_p : (q : ℕ) → is_chained (status' q) ≡ true → p ≡ q → ⊥
  not_p q c same = never (sym c ∙ ap (λ r. is_chained (status' r)) (sym same) ∙ ap is_chained (at_with_same s.status p InHand))

  was : (q : ℕ) → is_chained (status' q) ≡ true → chained s q ≡ true
  was q c = ap is_chained (sym (else s.status InHand q (not_p q c))) ∙ c

  still : (q : ℕ) → chained s q ≡ true → is_chained (status' q) ≡ true
  still q c = ap is_chained (else s.status InHand q (chained_other q c)) ∙ c

  spot_still : (q : ℕ) → chained s q ≡ true → spot' q ≡ s.spot q
  spot_still q c = else s.spot _ q (chained_other q c)

  next_still : (q : ℕ) → chained s q ≡ true → next' q ≡ s.next q
  next_still q c = else s.next _ q (chained_other q c)

  before_still : (q r : ℕ) → chained s q ≡ true → chained s r ≡ true → before rank (spot' q) (spot' r) ≡ before rank (s.spot q) (s.spot r)
  before_still q r c d = ap (λ a. before rank a (spot' r)) (spot_still q c) ∙ ap (before rank (s.spot q)) (spot_still r d)

  seen' : (i q : ℕ) → seen_by s i q ≡ true → (is_chained (status' q) || (marked' q && waits_for i (status' q))) ≡ true
  seen' i q h =
      ap (λ y. is_chained y || (marked' q && waits_for i y)) (else s.status InHand q (seen_other i q h))
      ∙ ap (λ y. is_chained (s.status q) || (y && waits_for i (s.status q))) (else s.marked false q (seen_other i q h)) ∙ h

  others : (i : ℕ) (v : Task K) → (me ≡ i → ⊥) → s.task i ≡ Some v → Stands rank spot' next' prev' marked' status' v
  others i v d is = let y = inv.stands i v is in record {
    at_chained = λ h. still v.at (y.at_chained h);
    at_unmarked = λ h. else s.marked false v.at (chained_other v.at (y.at_chained h)) ∙ y.at_unmarked h;
    at_below = λ h. ap (λ a. before rank a (exact v.key)) (else s.spot _ v.at at_other) ∙ y.at_below h;
    next_above = λ h. ap (before rank (exact v.key)) (next_spot (between_placed (rung v.phase) h)) ∙ y.next_above h;
    next_keyed = λ h. next_spot (three_placed (rung v.phase) h) ∙ y.next_keyed h;
    joined = λ h. else s.next _ v.at at_other ∙ y.joined h;
    keyed = λ h. else s.spot _ v.other (other_other i v is h) ∙ y.keyed h;
    other_marked = λ h. else s.marked false v.other (other_other i v is (marked_keyed (rung v.phase) h)) ∙ y.other_marked h;
    spared = λ h. else s.marked false v.other (other_other i v is (spared_keyed (rung v.phase) h)) ∙ y.spared h;
    in_hand = λ h. else s.status InHand v.other (hand_other v.other (y.in_hand h)) ∙ y.in_hand h;
    in_hand_next = λ h. else s.next _ v.other (hand_other v.other (y.in_hand h)) ∙ y.in_hand_next h ∙ sym (else s.next _ v.at at_other);
    in_hand_prev = λ h. else s.prev b v.other (hand_other v.other (y.in_hand h)) ∙ y.in_hand_prev h;
  }
    where
      at_other : p ≡ v.at → ⊥
      at_other = seen_other i v.at (inv.seen i v is)

      next_spot : is_placed (rung v.phase) ≡ true → spot' (next' v.at) ≡ s.spot (s.next v.at)
      next_spot h = ap spot' (else s.next _ v.at at_other)
          ∙ spot_still (s.next v.at) (inv.leads v.at ((inv.stands i v is).at_chained h) (at_not_high rank laws s inv i v is h))

      between_placed : (r : ℕ) → is_between r ≡ true → is_placed r ≡ true
      between_placed r h = grind (arith, nat_tests)

      marked_keyed : (r : ℕ) → is_marked r ≡ true → is_keyed r ≡ true
      marked_keyed r h = grind (arith, nat_tests)

      spared_keyed : (r : ℕ) → is_spared r ≡ true → is_keyed r ≡ true
      spared_keyed r h = grind (arith, nat_tests)

  b_chained : chained s b ≡ true
  b_chained = st.at_chained (by is_placed refl)

  b_not_high : b ≡ high → ⊥
  b_not_high = at_not_high rank laws s inv me t is_task (by is_placed refl)

  module _ (n : ℕ) where
    abbrev u : Task K
    u = with_steps n (into Link (with_other p t))

    abbrev task' : ℕ → Option (Task K)
    task' = at_with s.task me (Some u)

    own : Stands rank spot' next' prev' marked' status' u
    own = record {
      at_chained = λ _. still b b_chained;
      at_unmarked = λ _. else s.marked false b (chained_other b b_chained) ∙ st.at_unmarked (by is_placed refl);
      at_below = λ _. ap (λ a. before rank a (exact t.key)) (spot_still b b_chained) ∙ st.at_below (ap (λ y. leb 3 (group y)) e);
      next_above = λ _. ap (λ q. before rank (exact t.key) (spot' q)) (next_still b b_chained)
          ∙ ap (before rank (exact t.key)) (spot_still (s.next b) (inv.leads b b_chained b_not_high)) ∙ st.next_above (by is_between refl);
      next_keyed = λ h. never (sym h);
      joined = λ h. never (sym h);
      keyed = λ _. at_with_same s.spot p _ ∙ own_is;
      other_marked = λ h. never (sym h);
      spared = λ _. at_with_same s.marked p false;
      in_hand = λ _. at_with_same s.status p InHand;
      in_hand_next = λ _. at_with_same s.next p _ ∙ sym (next_still b b_chained);
      in_hand_prev = λ _. at_with_same s.prev p b;
    }
      where
        own_is : own_spot p (exact t.key) ≡ exact t.key
        own_is = grind (arith, nat_tests)

    fails : (f : ℕ → Bool) → f 4 ≡ false → f 5 ≡ false → (q : ℕ) → other_in f (Some u) q ≡ other_in f (Some t) q
    fails f h k = both_fail rank s inv me t is_task f u (ap (λ y. f (rung y)) e ∙ h) k

    holder_still : (f : ℕ → Bool) → f 4 ≡ false → f 5 ≡ false → (q : ℕ) → (p ≡ q → ⊥) → holder_in f task' (lock' q) q ≡ holder_in f s.task (s.lock q) q
    holder_still f h k q d =
        ap (λ l. holder_in f task' l q) (else s.lock (Some me) q d)
        ∙ holder_same s.task me (Some u) f (λ r. fails f h k r ∙ ap (λ y. other_in f y r) (sym is_task)) (s.lock q) q

    locks' : (i q : ℕ) → locked_by i (lock' q) ≡ holds (task' i) q
    locks' i q =
        let old = inv.locks i q in
        at_with_both s.task me i (Some u) (λ y. locked_by i (lock' q) ≡ holds y q)
        (λ same. at_with_both s.lock p q (Some me) (λ y. locked_by i y ≡ holds (Some u) q)
        (λ k. eq-eqb me i same ∙ sym (or_right (eqb b q) (eqb p q) (eq-eqb p q k)))
        (λ d. old ∙ ap (λ j. holds (s.task j) q) (sym same) ∙ ap (λ y. holds y q) is_task
        ∙ ap (λ y. (holds_at (rung y) && eqb b q) || (holds_other (rung y) && eqb t.other q)) e ∙ ap (λ c. eqb b q || c) (sym (ne_eqb p q d))))
        (λ d. at_with_both s.lock p q (Some me) (λ y. locked_by i y ≡ holds (s.task i) q)
        (λ k. ne_eqb me i d ∙ sym (sym old ∙ ap (λ r. locked_by i (s.lock r)) (sym k) ∙ ap (locked_by i) unlocked)) (λ _. old))

    hand_cases : (i q : ℕ) → other_in is_handing (task' i) q ≡ true → ((me ≡ i) × (p ≡ q)) ⊎ (other_in is_handing (s.task i) q ≡ true)
    hand_cases i q = at_with_both s.task me i (Some u) (λ y. other_in is_handing y q ≡ true → ((me ≡ i) × (p ≡ q)) ⊎ (other_in is_handing (s.task i) q ≡ true))
        (λ same h. inl (same, eqb-true p q h)) (λ _ h. inr h)

    hand_not_p : (i q : ℕ) → other_in is_handing (s.task i) q ≡ true → p ≡ q → ⊥
    hand_not_p i q h =
        let has = has_other is_handing (s.task i) q h in
        hand_other q (ap s.status (sym has.other_is) ∙ (inv.stands i has.task has.is).in_hand has.rung_is)

    pub take_keeps : Inv rank (task_put me (Some u) (filled p new s))
    take_keeps = record {
      two = inv.two;
      beyond = λ q h. else s.status InHand q (λ same. absurd (clash q h same)) ∙ inv.beyond q h;
      guide_size = inv.guide_size;
      low_spot = spot_still low (ap is_chained inv.low_chained) ∙ inv.low_spot;
      high_spot = spot_still high (ap is_chained inv.high_chained) ∙ inv.high_spot;
      low_chained = else s.status InHand low (chained_other low (ap is_chained inv.low_chained)) ∙ inv.low_chained;
      high_chained = else s.status InHand high (chained_other high (ap is_chained inv.high_chained)) ∙ inv.high_chained;
      low_unmarked = else s.marked false low (chained_other low (ap is_chained inv.low_chained)) ∙ inv.low_unmarked;
      high_unmarked = else s.marked false high (chained_other high (ap is_chained inv.high_chained)) ∙ inv.high_unmarked;
      leads = λ q c h. ap (λ r. is_chained (status' r)) (next_still q (was q c)) ∙ still (s.next q) (inv.leads q (was q c) h);
      rises = λ q c h. ap (λ r. before rank (spot' q) (spot' r)) (next_still q (was q c)) ∙ before_still q (s.next q) (was q c) (inv.leads q (was q c) h) ∙ inv.rises q (was q c) h;
      gap = λ q r c d h. gaps q r (was q c) (was r d) (sym (before_still q r (was q c) (was r d)) ∙ h);
      apart = λ q r c d. elim (inv.apart q r (was q c) (was r d)) [
        | inl same ↦ inl same
        | inr sides ↦ elim sides [ inl h ↦ inr (inl (before_still q r (was q c) (was r d) ∙ h)) | inr h ↦ inr (inr (before_still r q (was r d) (was q c) ∙ h)) ]
      ];
      follows = λ q c h. let f = inv.follows q (was q c) h in (f.0, still f.0 f.1, f.2, next_still f.0 f.1 ∙ f.3);
      backs = λ q c h. ap prev' (next_still q (was q c)) ∙ else s.prev b (s.next q) (chained_other (s.next q) (inv.leads q (was q c) h)) ∙ inv.backs q (was q c) h
          ∙ ap (λ y. cond y (s.prev q) q) (sym (holder_still is_lagging refl refl q (not_p q c)))
          ∙ ap (λ y. cond (holder_in is_lagging task' (lock' q) q) y q) (sym (else s.prev b q (not_p q c)));
      locks = locks';
      fit = λ i w. at_with_both s.task me i (Some u) (λ y. y ≡ Some w → fits w.work (group w.phase) ≡ true)
          (λ _ k. ap (λ y. fits y.work (group y.phase)) (sym (just u w k)) ∙ ap (λ y. fits t.work (group y)) (sym e) ∙ inv.fit me t is_task) (λ _. inv.fit i w);
      seen = λ i w. at_with_both s.task me i (Some u) (λ y. y ≡ Some w → (is_chained (status' w.at) || (marked' w.at && waits_for i (status' w.at))) ≡ true)
          (λ same k. seen' i w.at (subst (λ j. seen_by s j w.at ≡ true) same (ap (λ y. seen_by s me y.at) (sym (just u w k)) ∙ inv.seen me t is_task)))
          (λ _ k. seen' i w.at (inv.seen i w k));
      stands = λ i w. at_with_both s.task me i (Some u) (λ y. y ≡ Some w → Stands rank spot' next' prev' marked' status' w)
          (λ _ k. subst (Stands rank spot' next' prev' marked' status') (just u w k) own) (λ d k. others i w d k);
      marks = λ q c m. let has = inv.marks q (was q c) (sym (else s.marked false q (not_p q c)) ∙ m) in
          (has.0, other_alike rank s inv me t is_task is_striking u (fails is_striking refl refl) has.0 q ∙ has.1);
      hands = λ q h. elim (cases_eq p q) [
        | inl same ↦ (me, ap (λ y. other_in is_handing y q) (at_with_same s.task me (Some u)) ∙ eq-eqb p q same)
        | inr d ↦ hand q (inv.hands q (sym (else s.status InHand q d) ∙ h))
      ];
      hands_apart = λ i j q y z. elim (hand_cases i q y) [
        | inl mine ↦ elim (hand_cases j q z) [ inl also ↦ sym mine.0 ∙ also.0 | inr their ↦ absurd (hand_not_p j q their mine.1) ]
        | inr their ↦ elim (hand_cases j q z) [ inl mine ↦ absurd (hand_not_p i q their mine.1) | inr also ↦ inv.hands_apart i j q their also ]
      ];
      rests = λ q w r. let o = retired q w r in let k = inv.rests q w o.1 in (else s.marked false q o.0 ∙ k.0, k.1);
      awaits = λ q w r i h. awaited_with rank s inv me t is_task u refl i (inv.awaits q w (retired q w r).1 i h);
      next_seen = λ q w r i h. let o = retired q w r in
          ap (λ y. is_chained (status' y) || (marked' y && waits_for i (status' y))) (else s.next _ q o.0) ∙ seen' i (s.next q) (inv.next_seen q w o.1 i h);
      prev_seen = λ q w r i h. let o = retired q w r in
          ap (λ y. is_chained (status' y) || (marked' y && waits_for i (status' y))) (else s.prev b q o.0) ∙ seen' i (s.prev q) (inv.prev_seen q w o.1 i h);
      guide_rises = rising_same rank s.spot spot' s.guide.sequence (λ y h. else s.spot _ y (seen_other me y (guided_is_seen rank laws s inv me y h))) inv.guide_rises;
      guide_shows = λ q. inv.guide_shows q ∙ shows q;
    }
      where
        clash : (q : ℕ) → s.size ≤ q → p ≡ q → ⊥
        clash q h same = omega arith

        gaps : (q r : ℕ) → chained s q ≡ true → chained s r ≡ true → before rank (s.spot q) (s.spot r) ≡ true → (next' q ≡ r) ⊎ (before rank (spot' (next' q)) (spot' r) ≡ true)
        gaps q r c d h = elim (inv.gap q r c d h) [
          | inl same ↦ inl (next_still q c ∙ same)
          | inr less ↦ inr (ap (λ y. before rank (spot' y) (spot' r)) (next_still q c)
              ∙ before_still (s.next q) r (inv.leads q c (not_high_below rank s inv q (s.spot r) h)) d ∙ less)
        ]

        retired : (q : ℕ) (w : List Bool) → status' q ≡ Retired w → (p ≡ q → ⊥) × (s.status q ≡ Retired w)
        retired q w r = (d, sym (else s.status InHand q d) ∙ r)
          where
            d : p ≡ q → ⊥
            d same = let z : ◌≡◌ {A = Status} InHand (Retired w) = sym (at_with_same s.status p InHand) ∙ ap status' same ∙ r in let k : ◌≡◌ {A = ℕ} 0 1 = cc in omega arith

        hand : (q : ℕ) → (i : ℕ) × (other_in is_handing (s.task i) q ≡ true) → (i : ℕ) × (other_in is_handing (task' i) q ≡ true)
        hand q has = (
          has.0,
          at_with_both s.task me has.0 (Some u) (λ y. other_in is_handing y q ≡ true)
              (λ same. never (sym has.1 ∙ ap (λ j. other_in is_handing (s.task j) q) (sym same) ∙ ap (λ y. other_in is_handing y q) is_task ∙ ap (λ y. is_handing (rung y) && eqb t.other q) e))
              (λ _. has.1),
        )

        blank : (a h d a2 h2 d2 : Bool) → a ≡ false → d ≡ false → a2 ≡ false → d2 ≡ false → ((a && not h) || d) ≡ ((a2 && not h2) || d2)
        blank a h d a2 h2 d2 x y z w = grind (arith, nat_tests)

        shows : (q : ℕ) → ((chained s q && not (holder_in is_hiding s.task (s.lock q) q)) || holder_in is_detaching s.task (s.lock q) q)
            ≡ ((is_chained (status' q) && not (holder_in is_hiding task' (lock' q) q)) || holder_in is_detaching task' (lock' q) q)
        shows q = elim (cases_eq p q) [
          | inl same ↦ blank (chained s q) (holder_in is_hiding s.task (s.lock q) q) (holder_in is_detaching s.task (s.lock q) q) (is_chained (status' q)) (holder_in is_hiding task' (lock' q) q)
              (holder_in is_detaching task' (lock' q) q)
              (ap (chained s) (sym same) ∙ ap is_chained free) (ap (λ l. holder_in is_detaching s.task l q) (ap s.lock (sym same) ∙ unlocked))
              (ap (λ r. is_chained (status' r)) (sym same) ∙ ap is_chained (at_with_same s.status p InHand))
              (ap (λ l. holder_in is_detaching task' l q) (ap lock' (sym same) ∙ at_with_same s.lock p (Some me)) ∙ ap (λ y. other_in is_detaching y q) (at_with_same s.task me (Some u)))
          | inr d ↦
              ap (λ y. (is_chained y && not (holder_in is_hiding s.task (s.lock q) q)) || holder_in is_detaching s.task (s.lock q) q) (sym (else s.status InHand q d))
              ∙ ap (λ y. (is_chained (status' q) && not y) || holder_in is_detaching s.task (s.lock q) q) (sym (holder_still is_hiding refl refl q d))
              ∙ ap (λ y. (is_chained (status' q) && not (holder_in is_hiding task' (lock' q) q)) || y) (sym (holder_still is_detaching refl refl q d))
        ]
