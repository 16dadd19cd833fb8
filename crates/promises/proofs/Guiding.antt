-- That ATTACH and DETACH keep the invariant. Assumes the laws.
use Rattle.std.proofs.Common.{◌≡◌, ℕ, Bool, true, false, cond, not, ◌&&◌, ◌||◌, eqb, leb, List, [], ◌∷◌, Some, Ordering, sym, refl, ap, ◌∙◌, subst, inl, inr, arith}
use Rattle.std.proofs.lemmas.Bool.{eqb-true, eq-eqb, ne_eqb, or_right, or_cases, and_parts, and_right, cases_eq}
use Rattle.std.proofs.lemmas.Bool.Decides.{nat_tests}
use Rattle.guides.specs.Meaning.{high, has}
use Rattle.records.specs.declared.record.Phase.{Phase}
use Rattle.records.specs.declared.record.Phase.TheVariants.{Enter, Down, Check, Back, On, Seek, Lock, Valid, Take, Link, LinkBack, Attach, ReleaseNew, PutEnd, TakeVictim, Mark, UnlinkBack, Unlink, Detach, ReleaseVictim, StrikeEnd, First, FirstNext}
use Rattle.records.specs.declared.record.Task.{Task}
use Rattle.promises.specs.Promised.{is_chained}
use Rattle.promises.proofs.Small.{one_holder}
use Rattle.promises.proofs.Laws.{Laws, Bound, exact, before}
use Rattle.records.specs.declared.outcome.Outcome.{Outcome}
use Rattle.records.specs.declared.outcome.Outcome.TheVariants.{Goes}
use Rattle.records.specs.Records.{into}
use Rattle.engine.specs.Settling.{with_steps}
use Rattle.promises.proofs.Laws.{before_chains, before_not_self}
use Rattle.promises.proofs.Sights.{Sight, at_with, task_put}
use Rattle.promises.proofs.Invariant.{rung, group, fits, holds_at, holds_other, is_placed, is_between, is_keyed, is_marked, is_joined, is_lagging, is_hiding, is_detaching, is_striking, is_handing, holds, other_in, holder_in, chained, Stands, Inv}
use Rattle.promises.proofs.Retasks.{at_with_both, Sound}
use Rattle.promises.proofs.Sees.{never, holds_own_at, holds_own_other, at_not_high, joined_differ}
use Rattle.promises.proofs.Walking.{Kept}
use Rattle.promises.proofs.Relocks.{just}
use Rattle.promises.proofs.Invariant.{is_spared}
use Rattle.promises.proofs.Retasks.{holder_same}
use Rattle.promises.proofs.Sees.{has_holder, joined_chained}
use Rattle.promises.proofs.Relocks.{other_alike, awaited_with}
use Rattle.promises.proofs.Preds.{at_with_same, lag_elsewhere}
use Rattle.promises.proofs.Sees.{at_not_other, HasHolder}
use Rattle.promises.proofs.Marking.{other_by, holds_by}
use Rattle.guides.specs.Meaning.{Meaning, with_after, without}
use Rattle.guides.proofs.Sequences.{attached, detached, has_with_after, has_without}
use Rattle.promises.proofs.Sights.{guide_put}
use Rattle.promises.proofs.Invariant.{Rising, shown}

-- ---- sequences that rise

has_without_other : (x z : ℕ) (xs : List ℕ) → (x ≡ z → ⊥) → has z (without x xs) ≡ has z xs
has_without_other x z [] d = refl
has_without_other x z (y ∷ ys) d = let rest = has_without_other x z ys d in grind (arith, nat_tests)

module _ {K : Type 0} (rank : K → K → Ordering) (laws : Laws rank) (spot : ℕ → Bound K) where
  has_of_without : (x z : ℕ) (xs : List ℕ) → has z (without x xs) ≡ true → has z xs ≡ true
  has_of_without x z xs h = go (has z xs) refl
    where
      go : (c : Bool) → has z xs ≡ c → c ≡ true
      go true e = refl
      go false e = sym (has_without x z xs e) ∙ h

  rising_without : (x : ℕ) (xs : List ℕ) → Rising rank spot xs → Rising rank spot (without x xs)
  rising_without x [] r = tt
  rising_without x (y ∷ ys) r = go (eqb y x) (rising_without x ys r.1)
    where
      go : (c : Bool) → Rising rank spot (without x ys) → Rising rank spot (cond c ys (y ∷ without x ys))
      go true rest = r.1
      go false rest = ((λ z h. r.0 z (has_of_without x z ys h)), rest)

  rising_once : (x : ℕ) (xs : List ℕ) → Rising rank spot xs → has x (without x xs) ≡ false
  rising_once x [] r = refl
  rising_once x (y ∷ ys) r = go (eqb y x) refl (rising_once x ys r.1)
    where
      absent : eqb y x ≡ true → (c : Bool) → has x ys ≡ c → c ≡ false
      absent e false h = refl
      absent e true h = never (sym (r.0 x h) ∙ ap (λ q. before rank (spot q) (spot x)) (eqb-true y x e) ∙ before_not_self rank laws (spot x))

      go : (c : Bool) → eqb y x ≡ c → has x (without x ys) ≡ false → has x (cond c ys (y ∷ without x ys)) ≡ false
      go true e rest = absent e (has x ys) refl
      go false e rest = ap (λ c. c || has x (without x ys)) e ∙ rest

  rising_with_after : (b x : ℕ) (xs : List ℕ) → Rising rank spot xs → before rank (spot b) (spot x) ≡ true
      → ((y : ℕ) → has y xs ≡ true → before rank (spot b) (spot y) ≡ true → before rank (spot x) (spot y) ≡ true) → Rising rank spot (with_after b x xs)
  rising_with_after b x [] r below above = tt
  rising_with_after b x (y ∷ ys) r below above =
      go (eqb y b) refl (rising_with_after b x ys r.1 below (λ z h. above z (or_right (eqb y z) (has z ys) h)))
    where
      here : eqb y b ≡ true → (z : ℕ) → has z ys ≡ true → before rank (spot b) (spot z) ≡ true
      here e z h = ap (λ q. before rank (spot q) (spot z)) (sym (eqb-true y b e)) ∙ r.0 z h

      first : eqb y b ≡ true → (z : ℕ) → (eqb x z || has z ys) ≡ true → before rank (spot y) (spot z) ≡ true
      first e z h = elim (or_cases (eqb x z) (has z ys) h) [
        | inl same ↦ ap (λ q. before rank (spot q) (spot z)) (eqb-true y b e) ∙ ap (λ q. before rank (spot b) (spot q)) (sym (eqb-true x z same)) ∙ below
        | inr later ↦ r.0 z later
      ]

      later : (z : ℕ) → ((has b ys && eqb x z) || has z ys) ≡ true → before rank (spot y) (spot z) ≡ true
      later z h = elim (or_cases (has b ys && eqb x z) (has z ys) h) [
        | inl both ↦ let parts = and_parts (has b ys) (eqb x z) both in
            ap (λ q. before rank (spot y) (spot q)) (sym (eqb-true x z parts.1)) ∙ before_chains rank laws (spot y) (spot b) (spot x) (r.0 b parts.0) below
        | inr old ↦ r.0 z old
      ]

      go : (c : Bool) → eqb y b ≡ c → Rising rank spot (with_after b x ys) → Rising rank spot (cond c (y ∷ x ∷ ys) (y ∷ with_after b x ys))
      go true e rest = (first e, ((λ z h. above z (or_right (eqb y z) (has z ys) h) (here e z h)), r.1))
      go false e rest = ((λ z h. later z (sym (has_with_after b x z ys) ∙ h)), rest)

module _ {K : Type 0} (rank : K → K → Ordering) (laws : Laws rank) (s : Sight K) (inv : Inv rank s) (me : ℕ) (t : Task K) (is_task : s.task me ≡ Some t) where
  st : Stands rank s.spot s.next s.prev s.marked s.status t
  st = inv.stands me t is_task

  -- Another guide, and another task that shows only in it.
  module _ (u : Task K) (g : Meaning) (aw : u.awaited ≡ t.awaited) (sound : Sound rank s me u) (places : g.places ≡ s.size) (rises : Rising rank s.spot g.sequence)
      (holding : (p : ℕ) → holds (Some u) p ≡ holds (Some t) p) (lagging : (p : ℕ) → other_in is_lagging (Some u) p ≡ other_in is_lagging (Some t) p)
      (striking : (p : ℕ) → other_in is_striking (Some u) p ≡ other_in is_striking (Some t) p) (handing : (p : ℕ) → other_in is_handing (Some u) p ≡ other_in is_handing (Some t) p)
      (shows : (p : ℕ) → has p g.sequence ≡ shown (task_put me (Some u) s) p) where
    guide_write_keeps : Inv rank (task_put me (Some u) (guide_put g s))
    guide_write_keeps = record {
      two = inv.two;
      beyond = inv.beyond;
      guide_size = places;
      low_spot = inv.low_spot;
      high_spot = inv.high_spot;
      low_chained = inv.low_chained;
      high_chained = inv.high_chained;
      low_unmarked = inv.low_unmarked;
      high_unmarked = inv.high_unmarked;
      leads = inv.leads;
      rises = inv.rises;
      gap = inv.gap;
      apart = inv.apart;
      follows = inv.follows;
      backs = λ p c h. inv.backs p c h
          ∙ ap (λ x. cond x (s.prev p) p) (sym (holder_same s.task me (Some u) is_lagging (λ q. lagging q ∙ ap (λ y. other_in is_lagging y q) (sym is_task)) (s.lock p) p));
      locks = λ i p. inv.locks i p
          ∙ sym (at_with_both s.task me i (Some u) (λ y. holds y p ≡ holds (s.task i) p) (λ k. holding p ∙ ap (λ y. holds y p) (sym is_task) ∙ ap (λ j. holds (s.task j) p) k) (λ _. refl));
      fit = λ i w k. (all i w k).fit;
      seen = λ i w k. (all i w k).seen;
      stands = λ i w k. (all i w k).stands;
      marks = λ p c m. let has = inv.marks p c m in (has.0, other_alike rank s inv me t is_task is_striking u striking has.0 p ∙ has.1);
      hands = λ p h. let has = inv.hands p h in (has.0, other_alike rank s inv me t is_task is_handing u handing has.0 p ∙ has.1);
      hands_apart = λ i j p y z. inv.hands_apart i j p (sym (other_alike rank s inv me t is_task is_handing u handing i p) ∙ y) (sym (other_alike rank s inv me t is_task is_handing u handing j p) ∙ z);
      rests = inv.rests;
      awaits = λ p w r i h. awaited_with rank s inv me t is_task u aw i (inv.awaits p w r i h);
      next_seen = inv.next_seen;
      prev_seen = inv.prev_seen;
      guide_rises = rises;
      guide_shows = shows;
    }
      where
        all : (i : ℕ) (w : Task K) → at_with s.task me (Some u) i ≡ Some w → Sound rank s i w
        all i w = at_with_both s.task me i (Some u) (λ y. y ≡ Some w → Sound rank s i w)
            (λ same k. subst (λ j. Sound rank s j w) same (subst (Sound rank s me) (just u w k) sound))
            (λ _ k. record { fit = inv.fit i w k; seen = inv.seen i w k; stands = inv.stands i w k })

  -- What a test of the rung shows by the lock of the other place.
  at_other : (u : Task K) → u.other ≡ t.other → s.lock t.other ≡ Some me → (f : ℕ → Bool) → f (rung u.phase) ≡ false
      → holder_in f (at_with s.task me (Some u)) (s.lock t.other) t.other ≡ false
  at_other u same lock f h =
      ap (λ l. holder_in f (at_with s.task me (Some u)) l t.other) lock ∙ ap (λ y. other_in f y t.other) (at_with_same s.task me (Some u))
      ∙ ap (λ c. c && eqb u.other t.other) h

  shown_elsewhere : (u : Task K) → u.other ≡ t.other → (p : ℕ) → (t.other ≡ p → ⊥) → shown (task_put me (Some u) s) p ≡ shown s p
  shown_elsewhere u same p d =
      ap (λ y. (chained s p && not y) || holder_in is_detaching (at_with s.task me (Some u)) (s.lock p) p) (lag_elsewhere rank laws s inv me t is_task is_hiding u same p d)
      ∙ ap (λ y. (chained s p && not (holder_in is_hiding s.task (s.lock p) p)) || y) (lag_elsewhere rank laws s inv me t is_task is_detaching u same p d)

  module _ (o : Outcome K) (mid : Sight K) where
    abbrev It : Type 0
    It = Kept rank me t o mid

    pub keeps_detaches : t.phase ≡ Detach → o ≡ Goes (into ReleaseVictim t) → mid ≡ guide_put (detached t.other s.guide) s → It
    keeps_detaches e oc se =
        Kept.goes (into ReleaseVictim t) oc (λ n. subst (λ x. Inv rank (task_put me (Some (with_steps n (into ReleaseVictim t))) x)) (sym se)
        (guide_write_keeps (with_steps n (into ReleaseVictim t)) (detached t.other s.guide) refl (sound n) inv.guide_size
        (rising_without rank laws s.spot t.other s.guide.sequence inv.guide_rises)
        (holds_by rank laws s inv me t is_task Detach e 13 refl refl) (other_by rank laws s inv me t is_task is_lagging Detach e 13 refl)
        (other_by rank laws s inv me t is_task is_striking Detach e 13 refl) (other_by rank laws s inv me t is_task is_handing Detach e 13 refl) (shows n)))
      where
        by : (f : ℕ → Bool) → f 12 ≡ true → f (rung t.phase) ≡ true
        by f h = ap (λ x. f (rung x)) e ∙ h

        sound : (n : ℕ) → Sound rank s me (with_steps n (into ReleaseVictim t))
        sound n = record {
          fit = ap (λ y. fits t.work (group y)) (sym e) ∙ inv.fit me t is_task;
          seen = inv.seen me t is_task;
          stands = record {
            at_chained = λ _. st.at_chained (by is_placed refl);
            at_unmarked = λ _. st.at_unmarked (by is_placed refl);
            at_below = λ _. st.at_below (ap (λ x. leb 3 (group x)) e);
            next_above = λ _. st.next_above (by is_between refl);
            next_keyed = λ h. never (sym h);
            joined = λ h. never (sym h);
            keyed = λ _. st.keyed (by is_keyed refl);
            other_marked = λ _. st.other_marked (by is_marked refl);
            spared = λ h. never (sym h);
            in_hand = λ _. st.in_hand (by is_handing refl);
            in_hand_next = λ _. st.in_hand_next (by is_handing refl);
            in_hand_prev = λ _. st.in_hand_prev (by is_handing refl);
          };
        }

        nothing : (a h d : Bool) → a ≡ false → d ≡ false → false ≡ ((a && not h) || d)
        nothing a h d x y = grind (arith, nat_tests)

        shows : (n : ℕ) (p : ℕ) → has p (without t.other s.guide.sequence) ≡ shown (task_put me (Some (with_steps n (into ReleaseVictim t))) s) p
        shows n p = elim (cases_eq t.other p) [
          | inl same ↦ subst (λ q. has q (without t.other s.guide.sequence) ≡ shown (task_put me (Some (with_steps n (into ReleaseVictim t))) s) q) same
              (rising_once rank laws s.spot t.other s.guide.sequence inv.guide_rises
              ∙ nothing (chained s t.other) (holder_in is_hiding (at_with s.task me (Some (with_steps n (into ReleaseVictim t)))) (s.lock t.other) t.other) _
              (ap is_chained (st.in_hand (by is_handing refl)))
              (at_other (with_steps n (into ReleaseVictim t)) refl (holds_own_other rank laws s inv me t is_task (by holds_other refl)) is_detaching refl))
          | inr d ↦ has_without_other t.other p s.guide.sequence d ∙ inv.guide_shows p ∙ sym (shown_elsewhere (with_steps n (into ReleaseVictim t)) refl p d)
        ]

    -- ---- ATTACH

    module _ (e : t.phase ≡ Attach) (fresh : has t.other s.guide.sequence ≡ false) where
      by : (f : ℕ → Bool) → f 7 ≡ true → f (rung t.phase) ≡ true
      by f h = ap (λ x. f (rung x)) e ∙ h

      joins : is_joined (rung t.phase) ≡ true
      joins = by is_joined refl

      b_chained : chained s t.at ≡ true
      b_chained = st.at_chained (by is_placed refl)

      next_b : s.next t.at ≡ t.other
      next_b = st.joined joins

      b_below_x : before rank (s.spot t.at) (s.spot t.other) ≡ true
      b_below_x = ap (before rank (s.spot t.at)) (st.keyed (by is_keyed refl)) ∙ st.at_below (ap (λ y. leb 3 (group y)) e)

      lock_b : s.lock t.at ≡ Some me
      lock_b = holds_own_at rank laws s inv me t is_task (by holds_at refl)

      lock_x : s.lock t.other ≡ Some me
      lock_x = holds_own_other rank laws s inv me t is_task (by holds_other refl)

      b_shown : has t.at s.guide.sequence ≡ true
      b_shown =
          inv.guide_shows t.at
          ∙ ap (λ y. (chained s t.at && not y) || holder_in is_detaching s.task (s.lock t.at) t.at)
          (at_not_other rank laws s inv me t is_task is_hiding (by holds_at refl) (joined_differ rank laws s inv me t is_task joins))
          ∙ ap (λ y. (y && true) || holder_in is_detaching s.task (s.lock t.at) t.at) b_chained

      -- Between two chained places there is nothing that a work detaches, unless that work holds the first one's lock.
      beyond_x : (y a : ℕ) → chained s a ≡ true → (a ≡ high → ⊥) → (t.at ≡ a → ⊥) → (t.other ≡ a → ⊥) → before rank (s.spot a) (s.spot y) ≡ true
          → before rank (s.spot y) (s.spot (s.next a)) ≡ true → before rank (s.spot t.at) (s.spot y) ≡ true → before rank (s.spot t.other) (s.spot y) ≡ true
      beyond_x y a c h db dx low_y y_up b_y = elim (inv.apart t.at a b_chained c) [
        | inl same ↦ absurd (db same)
        | inr sides ↦ elim sides [
          | inl up ↦ elim (inv.gap t.at a b_chained c up) [
            | inl same ↦ absurd (dx (sym next_b ∙ same))
            | inr less ↦ chain t.other a y (ap (λ q. before rank (s.spot q) (s.spot a)) (sym next_b) ∙ less) low_y
          ]
          | inr down ↦ elim (inv.gap a t.at c b_chained down) [
            | inl same ↦ round y t.at (ap (λ q. before rank (s.spot y) (s.spot q)) (sym same) ∙ y_up) b_y
            | inr less ↦ round y t.at (chain y (s.next a) t.at y_up less) b_y
          ]
        ]
      ]
        where
          chain : (p q r : ℕ) → before rank (s.spot p) (s.spot q) ≡ true → before rank (s.spot q) (s.spot r) ≡ true → before rank (s.spot p) (s.spot r) ≡ true
          chain p q r = before_chains rank laws (s.spot p) (s.spot q) (s.spot r)

          round : {P : Type 0} (p q : ℕ) → before rank (s.spot p) (s.spot q) ≡ true → before rank (s.spot q) (s.spot p) ≡ true → P
          round p q h k = never (sym (chain p q p h k) ∙ before_not_self rank laws (s.spot p))

      above : (y : ℕ) → has y s.guide.sequence ≡ true → before rank (s.spot t.at) (s.spot y) ≡ true → before rank (s.spot t.other) (s.spot y) ≡ true
      above y h below = elim (or_cases (chained s y && not (holder_in is_hiding s.task (s.lock y) y)) (holder_in is_detaching s.task (s.lock y) y) (sym (inv.guide_shows y) ∙ h)) [
        | inl c ↦ elim (inv.gap t.at y b_chained (and_parts _ _ c).0 below) [
          | inl same ↦ never (sym h ∙ ap (λ q. has q s.guide.sequence) (sym same ∙ next_b) ∙ fresh)
          | inr less ↦ ap (λ q. before rank (s.spot q) (s.spot y)) (sym next_b) ∙ less
        ]
        | inr d ↦ away (has_holder is_detaching s.task (s.lock y) y d)
      ]
        where
          placed : (r : ℕ) → is_detaching r ≡ true → is_placed r ≡ true
          placed r k = grind (arith, nat_tests)

          held : (r : ℕ) → is_detaching r ≡ true → holds_at r ≡ true
          held r k = grind (arith, nat_tests)

          keyed : (r : ℕ) → is_detaching r ≡ true → is_keyed r ≡ true
          keyed r k = grind (arith, nat_tests)

          between : (r : ℕ) → is_detaching r ≡ true → is_between r ≡ true
          between r k = grind (arith, nat_tests)

          late : (ph : Phase) → is_detaching (rung ph) ≡ true → leb 3 (group ph) ≡ true
          late Enter k = never (sym k)
          late Down k = never (sym k)
          late Check k = never (sym k)
          late Back k = never (sym k)
          late On k = never (sym k)
          late Seek k = refl
          late Lock k = refl
          late Valid k = refl
          late Take k = refl
          late Link k = refl
          late LinkBack k = refl
          late Attach k = refl
          late ReleaseNew k = refl
          late PutEnd k = refl
          late TakeVictim k = refl
          late Mark k = refl
          late UnlinkBack k = refl
          late Unlink k = refl
          late Detach k = refl
          late ReleaseVictim k = refl
          late StrikeEnd k = refl
          late First k = never (sym k)
          late FirstNext k = never (sym k)

          away : HasHolder is_detaching s.task (s.lock y) y → before rank (s.spot t.other) (s.spot y) ≡ true
          away holder =
              let v = holder.has.task in
              let is = holder.has.is in
              let r = holder.has.rung_is in
              let so = inv.stands holder.holder v is in
              let own = holds_own_at rank laws s inv holder.holder v is (held (rung v.phase) r) in
              let key : s.spot y ≡ exact v.key = ap s.spot (sym holder.has.other_is) ∙ so.keyed (keyed (rung v.phase) r) in
              beyond_x y v.at (so.at_chained (placed (rung v.phase) r)) (at_not_high rank laws s inv holder.holder v is (placed (rung v.phase) r))
              (λ same. mine holder.holder v is r (one_holder holder.holder me (s.lock v.at) own (ap s.lock (sym same) ∙ lock_b)))
              (λ same. mine holder.holder v is r (one_holder holder.holder me (s.lock v.at) own (ap s.lock (sym same) ∙ lock_x)))
              (ap (before rank (s.spot v.at)) key ∙ so.at_below (late v.phase r))
              (ap (λ k. before rank k (s.spot (s.next v.at))) key ∙ so.next_above (between (rung v.phase) r)) below
            where
              mine : (j : ℕ) (v : Task K) → s.task j ≡ Some v → is_detaching (rung v.phase) ≡ true → j ≡ me → ⊥
              mine j v is r who =
                  let same : v ≡ t = just v t (sym is ∙ ap s.task who ∙ is_task) in
                  never (sym r ∙ ap (λ y. is_detaching (rung y.phase)) same ∙ ap (λ y. is_detaching (rung y)) e)

      attach_shows : (n : ℕ) (p : ℕ) → has p (with_after t.at t.other s.guide.sequence) ≡ shown (task_put me (Some (with_steps n (into ReleaseNew t))) s) p
      attach_shows n p = has_with_after t.at t.other p s.guide.sequence ∙ elim (cases_eq t.other p) [
        | inl same ↦ ap (λ c. (c && eqb t.other p) || has p s.guide.sequence) b_shown ∙ ap (λ c. c || has p s.guide.sequence) (eq-eqb t.other p same)
            ∙ subst (λ q. true ≡ shown (task_put me (Some (with_steps n (into ReleaseNew t))) s) q) same
            (all_shown (chained s t.other) (holder_in is_hiding (at_with s.task me (Some (with_steps n (into ReleaseNew t)))) (s.lock t.other) t.other) _
            (joined_chained rank laws s inv me t is_task joins) (at_other (with_steps n (into ReleaseNew t)) refl lock_x is_hiding refl))
        | inr d ↦ ap (λ c. (has t.at s.guide.sequence && c) || has p s.guide.sequence) (ne_eqb t.other p d)
            ∙ ap (λ c. c || has p s.guide.sequence) (and_right (has t.at s.guide.sequence) false refl)
            ∙ inv.guide_shows p ∙ sym (shown_elsewhere (with_steps n (into ReleaseNew t)) refl p d)
      ]
        where
          all_shown : (a h d : Bool) → a ≡ true → h ≡ false → true ≡ ((a && not h) || d)
          all_shown a h d x y = grind (arith, nat_tests)

      pub keeps_attaches : o ≡ Goes (into ReleaseNew t) → mid ≡ guide_put (attached t.at t.other s.guide) s → It
      keeps_attaches oc se =
          Kept.goes (into ReleaseNew t) oc (λ n. subst (λ x. Inv rank (task_put me (Some (with_steps n (into ReleaseNew t))) x)) (sym se)
          (guide_write_keeps (with_steps n (into ReleaseNew t)) (attached t.at t.other s.guide) refl (sound n) inv.guide_size
          (rising_with_after rank laws s.spot t.at t.other s.guide.sequence inv.guide_rises b_below_x above)
          (holds_by rank laws s inv me t is_task Attach e 8 refl refl) (other_by rank laws s inv me t is_task is_lagging Attach e 8 refl)
          (other_by rank laws s inv me t is_task is_striking Attach e 8 refl) (other_by rank laws s inv me t is_task is_handing Attach e 8 refl) (attach_shows n)))
        where
          sound : (n : ℕ) → Sound rank s me (with_steps n (into ReleaseNew t))
          sound n = record {
            fit = ap (λ y. fits t.work (group y)) (sym e) ∙ inv.fit me t is_task;
            seen = inv.seen me t is_task;
            stands = record {
              at_chained = λ _. b_chained;
              at_unmarked = λ _. st.at_unmarked (by is_placed refl);
              at_below = λ _. st.at_below (ap (λ x. leb 3 (group x)) e);
              next_above = λ h. never (sym h);
              next_keyed = λ h. never (sym h);
              joined = λ _. next_b;
              keyed = λ _. st.keyed (by is_keyed refl);
              other_marked = λ h. never (sym h);
              spared = λ _. st.spared (by is_spared refl);
              in_hand = λ h. never (sym h);
              in_hand_next = λ h. never (sym h);
              in_hand_prev = λ h. never (sym h);
            };
          }
