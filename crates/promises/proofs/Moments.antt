-- Which keys a book holds, told from one link or one place of its chain, and that the successor of a place whose lock is
-- held for VALID is not marked. Assumes the invariant, and that the keys are those of the unmarked places of the chain.
use Rattle.std.proofs.Common.{◌≡◌, ℕ, Bool, true, false, ◌&&◌, eqb, leb, ◌⊎◌, Some, None, Option, Ordering, Less, sym, refl, ap, ◌∙◌, inl, inr, arith}
use Rattle.std.proofs.lemmas.Bool.{true≢false, eqb-true, eq-eqb, and_parts, and_from, or_left}
use Rattle.std.proofs.lemmas.Bool.Decides.{nat_tests}
use Rattle.std.specs.Ordering.{is_lt}
use Rattle.guides.specs.Meaning.{low, high}
use Rattle.records.specs.declared.record.Phase.{Phase}
use Rattle.records.specs.declared.record.Phase.TheVariants.{Enter, Down, Check, Back, On, Seek, Lock, Valid, Take, Link, LinkBack, Attach, ReleaseNew, PutEnd, TakeVictim, Mark, UnlinkBack, Unlink, Detach, ReleaseVictim, StrikeEnd, First, FirstNext}
use Rattle.records.specs.declared.record.Task.{Task}
use Rattle.engine.specs.Calling.{locked_by}
use Rattle.promises.specs.Books.{Book, keys}
use Rattle.promises.specs.Promised.{is_chained}
use Rattle.promises.specs.Truths.{Holds, Smallest, SmallestAbove}
use Rattle.promises.proofs.Rungs.{placed_holds, striking_joined}
use Rattle.promises.proofs.Laws.{Laws, Bound, bottom, exact, before, before_once, before_not_self, before_chains, before_neither, less_only}
use Rattle.promises.proofs.Sights.{Sight, sight_of}
use Rattle.promises.proofs.Invariant.{Inv, chained, rung, group, is_placed, is_striking, holds_at, holds_other, holds, other_in}
use Rattle.promises.proofs.Works.{some_injects}

-- The keys of a book are those of the unmarked places of its chain.
pub record ShowsKeys {K : Type 0} (b : Book K) : Type 0 where
  pub found : (k : K) → Holds k (keys b) → (p : ℕ) × (chained (sight_of b) p ≡ true) × ((sight_of b).marked p ≡ false) × ((sight_of b).spot p ≡ exact k)
  pub held : (p : ℕ) (k : K) → chained (sight_of b) p ≡ true → (sight_of b).marked p ≡ false → (sight_of b).spot p ≡ exact k → Holds k (keys b)

striking_late : (f : Phase) → is_striking (rung f) ≡ true → leb 3 (group f) ≡ true
striking_late Enter h = absurd (true≢false (sym h))
striking_late Down h = absurd (true≢false (sym h))
striking_late Check h = absurd (true≢false (sym h))
striking_late Back h = absurd (true≢false (sym h))
striking_late On h = absurd (true≢false (sym h))
striking_late Seek h = absurd (true≢false (sym h))
striking_late Lock h = absurd (true≢false (sym h))
striking_late Valid h = absurd (true≢false (sym h))
striking_late Take h = absurd (true≢false (sym h))
striking_late Link h = absurd (true≢false (sym h))
striking_late LinkBack h = absurd (true≢false (sym h))
striking_late Attach h = absurd (true≢false (sym h))
striking_late ReleaseNew h = absurd (true≢false (sym h))
striking_late PutEnd h = absurd (true≢false (sym h))
striking_late TakeVictim h = absurd (true≢false (sym h))
striking_late Mark h = absurd (true≢false (sym h))
striking_late UnlinkBack h = refl
striking_late Unlink h = refl
striking_late Detach h = absurd (true≢false (sym h))
striking_late ReleaseVictim h = absurd (true≢false (sym h))
striking_late StrikeEnd h = absurd (true≢false (sym h))
striking_late First h = absurd (true≢false (sym h))
striking_late FirstNext h = absurd (true≢false (sym h))

striking_placed : (r : ℕ) → is_striking r ≡ true → is_placed r ≡ true
striking_placed r h = grind (arith, nat_tests)

same_holder : (i j : ℕ) (l : Option ℕ) → locked_by i l ≡ true → locked_by j l ≡ true → i ≡ j
same_holder i j None h k = absurd (true≢false (sym h))
same_holder i j (Some x) h k = sym (eqb-true x i h) ∙ eqb-true x j k

module _ {K : Type 0} (rank : K → K → Ordering) (laws : Laws rank) where
  pub never_both : (x y : Bound K) → before rank x y ≡ true → before rank y x ≡ true → ⊥
  never_both x y h k = true≢false (sym k ∙ before_once rank laws x y h)

  pub never_self : (x : Bound K) → before rank x x ≡ true → ⊥
  never_self x h = true≢false (sym h ∙ before_not_self rank laws x)

  -- What is not above k is below every key above k.
  low_under : (x : Bound K) (k j : K) → before rank (exact k) x ≡ false → before rank (exact k) (exact j) ≡ true → before rank x (exact j) ≡ true
  low_under x k j h above = go (before rank x (exact j)) refl (before rank (exact j) x) refl
    where
      go : (c : Bool) → before rank x (exact j) ≡ c → (d : Bool) → before rank (exact j) x ≡ d → before rank x (exact j) ≡ true
      go true e d f = e
      go false e true f = absurd (true≢false (sym (before_chains rank laws (exact k) (exact j) x above f) ∙ h))
      go false e false f = absurd (true≢false (sym above ∙ ap (before rank (exact k)) (sym (before_neither rank laws x (exact j) e f)) ∙ h))

  -- ---- the keys of a book

  module _ (b : Book K) (inv : Inv rank (sight_of b)) (shows : ShowsKeys b) where
    absent_by : (p x : ℕ) (j : K) → (sight_of b).spot x ≡ exact j → before rank (exact j) ((sight_of b).spot ((sight_of b).next p)) ≡ true
        → ((sight_of b).next p ≡ x) ⊎ (before rank ((sight_of b).spot ((sight_of b).next p)) ((sight_of b).spot x) ≡ true) → ⊥
    absent_by p x j is over (inl e) = never_self (exact j) (ap (before rank (exact j)) (sym (ap (sight_of b).spot e ∙ is)) ∙ over)
    absent_by p x j is over (inr u) = never_both (exact j) ((sight_of b).spot ((sight_of b).next p)) over (ap (before rank ((sight_of b).spot ((sight_of b).next p))) (sym is) ∙ u)

    -- A key between a place and its successor is absent.
    pub absent_next : (p : ℕ) (j : K) → chained (sight_of b) p ≡ true → before rank ((sight_of b).spot p) (exact j) ≡ true
        → before rank (exact j) ((sight_of b).spot ((sight_of b).next p)) ≡ true → Holds j (keys b) → ⊥
    absent_next p j on under over h =
        let x = shows.found j h in
        absent_by p x.0 j x.3 over (inv.gap p x.0 on x.1 (ap (before rank ((sight_of b).spot p)) x.3 ∙ under))

    absent_marked_by : (q x : ℕ) (k : K) → (sight_of b).marked q ≡ true → (sight_of b).spot q ≡ exact k → (sight_of b).marked x ≡ false → (sight_of b).spot x ≡ exact k
        → (q ≡ x) ⊎ ((before rank ((sight_of b).spot q) ((sight_of b).spot x) ≡ true) ⊎ (before rank ((sight_of b).spot x) ((sight_of b).spot q) ≡ true)) → ⊥
    absent_marked_by q x k m is n is' (inl e) = true≢false (sym m ∙ ap (sight_of b).marked e ∙ n)
    absent_marked_by q x k m is n is' (inr (inl u)) = never_self (exact k) (ap (before rank (exact k)) (sym is') ∙ ap (λ z. before rank z ((sight_of b).spot x)) (sym is) ∙ u)
    absent_marked_by q x k m is n is' (inr (inr u)) = never_self (exact k) (ap (before rank (exact k)) (sym is) ∙ ap (λ z. before rank z ((sight_of b).spot q)) (sym is') ∙ u)

    -- The key of a marked place of the chain is absent.
    pub absent_marked : (q : ℕ) (k : K) → chained (sight_of b) q ≡ true → (sight_of b).marked q ≡ true → (sight_of b).spot q ≡ exact k → Holds k (keys b) → ⊥
    absent_marked q k on m is h =
        let x = shows.found k h in
        absent_marked_by q x.0 k m is x.2 x.3 (inv.apart q x.0 on x.1)

    -- The successor of a place that is not above k.
    pub smallest_above : (p q : ℕ) (k a : K) → chained (sight_of b) p ≡ true → before rank (exact k) ((sight_of b).spot p) ≡ false → (sight_of b).next p ≡ q
        → chained (sight_of b) q ≡ true → (sight_of b).marked q ≡ false → (sight_of b).spot q ≡ exact a → before rank (exact k) ((sight_of b).spot q) ≡ true → SmallestAbove rank k a (keys b)
    smallest_above p q k a on low e on_q unmarked is above = record {
      among = shows.held q a on_q unmarked is;
      above = less_only (rank k a) (ap (before rank (exact k)) (sym is) ∙ above);
      least = λ j h kj ja. absent_next p j on (low_under ((sight_of b).spot p) k j low (ap is_lt kj)) (ap (before rank (exact j)) (ap (sight_of b).spot e ∙ is) ∙ ap is_lt ja) h;
    }

    pub none_above : (p : ℕ) (k : K) → chained (sight_of b) p ≡ true → before rank (exact k) ((sight_of b).spot p) ≡ false → (sight_of b).next p ≡ high
        → (j : K) → Holds j (keys b) → rank k j ≡ Less → ⊥
    none_above p k on low e j h kj =
        absent_next p j on (low_under ((sight_of b).spot p) k j low (ap is_lt kj)) (ap (before rank (exact j)) (ap (sight_of b).spot e ∙ inv.high_spot)) h

    -- The successor of Low.
    pub smallest_of : (p q : ℕ) (a : K) → chained (sight_of b) p ≡ true → (sight_of b).spot p ≡ bottom → (sight_of b).next p ≡ q
        → chained (sight_of b) q ≡ true → (sight_of b).marked q ≡ false → (sight_of b).spot q ≡ exact a → Smallest rank a (keys b)
    smallest_of p q a on low e on_q unmarked is = record {
      among = shows.held q a on_q unmarked is;
      least = λ j h ja. absent_next p j on (ap (λ x. before rank x (exact j)) low) (ap (before rank (exact j)) (ap (sight_of b).spot e ∙ is) ∙ ap is_lt ja) h;
    }

    pub none_at_all : (sight_of b).next low ≡ high → (j : K) → Holds j (keys b) → ⊥
    none_at_all e j h =
        absent_next low j (ap is_chained inv.low_chained) (ap (λ x. before rank x (exact j)) inv.low_spot) (ap (before rank (exact j)) (ap (sight_of b).spot e ∙ inv.high_spot)) h

  -- ---- the successor of a place whose lock is held for VALID

  module _ (s : Sight K) (inv : Inv rank s) where
    below_not_high : (p : ℕ) (k : K) → before rank (s.spot p) (exact k) ≡ true → p ≡ high → ⊥
    below_not_high p k h e = true≢false (sym h ∙ ap (λ q. before rank (s.spot q) (exact k)) e ∙ ap (λ x. before rank x (exact k)) inv.high_spot)

    two_before : (p q : ℕ) → chained s q ≡ true → (q ≡ high → ⊥) → s.next p ≡ s.next q → (s.next p ≡ q) ⊎ (before rank (s.spot (s.next p)) (s.spot q) ≡ true) → ⊥
    two_before p q on h e (inl same) = never_self (s.spot q) (ap (λ x. before rank (s.spot q) (s.spot x)) (sym (sym e ∙ same)) ∙ inv.rises q on h)
    two_before p q on h e (inr u) = never_both (s.spot q) (s.spot (s.next q)) (inv.rises q on h) (ap (λ x. before rank (s.spot x) (s.spot q)) (sym e) ∙ u)

    one_before : (p q : ℕ) → chained s p ≡ true → chained s q ≡ true → (p ≡ high → ⊥) → (q ≡ high → ⊥) → s.next p ≡ s.next q → p ≡ q
    one_before p q on on' h h' e = go (inv.apart p q on on')
      where
        go : (p ≡ q) ⊎ ((before rank (s.spot p) (s.spot q) ≡ true) ⊎ (before rank (s.spot q) (s.spot p) ≡ true)) → p ≡ q
        go (inl same) = same
        go (inr (inl u)) = absurd (two_before p q on' h' e (inv.gap p q on on' u))
        go (inr (inr u)) = absurd (two_before q p on h (sym e) (inv.gap q p on' on u))

    module _ (i : ℕ) (t : Task K) (is : s.task i ≡ Some t) (valid : t.phase ≡ Valid) (on : chained s t.at ≡ true) where
      pub at_low : t.at ≡ high → ⊥
      at_low = below_not_high t.at t.key ((inv.stands i t is).at_below (ap (λ f. leb 3 (group f)) valid))

      holds_its_at : (j : ℕ) (u : Task K) → s.task j ≡ Some u → holds_at (rung u.phase) ≡ true → u.at ≡ t.at → locked_by j (s.lock t.at) ≡ true
      holds_its_at j u was h e =
          inv.locks j t.at ∙ ap (λ x. holds x t.at) was
          ∙ or_left (holds_at (rung u.phase) && eqb u.at t.at) (holds_other (rung u.phase) && eqb u.other t.at) (and_from (holds_at (rung u.phase)) (eqb u.at t.at) h (eq-eqb u.at t.at e))

      not_struck : (j : ℕ) (u : Task K) → s.task j ≡ Some u → is_striking (rung u.phase) ≡ true → u.other ≡ s.next t.at → ⊥
      not_struck j u was striking e =
          let st = inv.stands j u was in
          let placed = striking_placed (rung u.phase) striking in
          let same = one_before u.at t.at (st.at_chained placed) on (below_not_high u.at u.key (st.at_below (striking_late u.phase striking))) at_low
          (st.joined (striking_joined (rung u.phase) striking) ∙ e) in
          let ij = same_holder i j (s.lock t.at) (holds_its_at i t is (ap (λ f. holds_at (rung f)) valid) refl) (holds_its_at j u was (placed_holds (rung u.phase) placed) same) in
          let tu : t ≡ u = some_injects is (ap s.task ij ∙ was) in
          true≢false (sym striking ∙ ap (λ x. is_striking (rung x.phase)) (sym tu) ∙ ap (λ f. is_striking (rung f)) valid)

      not_struck_by : (j : ℕ) (x : Option (Task K)) → s.task j ≡ x → other_in is_striking x (s.next t.at) ≡ true → ⊥
      not_struck_by j None was h = true≢false (sym h)
      not_struck_by j (Some u) was h =
          let both = and_parts (is_striking (rung u.phase)) (eqb u.other (s.next t.at)) h in
          not_struck j u was both.0 (eqb-true u.other (s.next t.at) both.1)

      pub valid_next_unmarked : s.marked (s.next t.at) ≡ false
      valid_next_unmarked = go (s.marked (s.next t.at)) refl
        where
          go : (c : Bool) → s.marked (s.next t.at) ≡ c → c ≡ false
          go true e =
              let striker = inv.marks (s.next t.at) (inv.leads t.at on at_low) e in
              absurd (not_struck_by striker.0 (s.task striker.0) refl striker.1)
          go false e = refl
