-- Where the places of a work stand: which are among the places, which are chained, and who holds their locks. Assumes the
-- laws of the order and what holds between calls.
use Rattle.std.proofs.Common.{◌≡◌, ℕ, ◌<◌, true, false, ◌&&◌, ◌||◌, eqb, leb, Some, None, Option, Ordering, sym, refl, ap, ◌∙◌, subst, ⊎_elim, arith}
use Rattle.std.proofs.lemmas.Bool.{cases_lt, true≢false, false≢true, eqb-true, eq-eqb, and_parts, and_from, and_right, or_cases, or_left, or_right}
use Rattle.std.proofs.lemmas.Bool.Decides.{nat_tests}
use Rattle.guides.specs.Meaning.{high}
use Rattle.records.specs.declared.record.Status.{Status}
use Rattle.records.specs.declared.record.Status.TheVariants.{Free, InHand, Chained, Retired}
use Rattle.records.specs.declared.record.Task.{Task}
use Rattle.engine.specs.Calling.{locked_by}
use Rattle.promises.specs.Promised.{is_chained}
use Rattle.promises.proofs.Rungs.{placed_holds, joined_placed}
use Rattle.promises.proofs.Laws.{Laws, Bound, exact, top, before, before_not_self, before_once}
use Rattle.promises.proofs.Sights.{Sight}
use Rattle.promises.proofs.Invariant.{Inv, rung, group, holds_at, holds_other, is_placed, is_joined, is_keyed, is_handing, waits_for, holds, chained, seen_by}
use Rattle.promises.proofs.Chains.{chained_within, nothing_after_top}
use Rattle.promises.proofs.Tidy.{holding_is_late, other_found}

-- ---- which rungs are among which

pub joined_keyed : (r : ℕ) → is_joined r ≡ true → is_keyed r ≡ true
joined_keyed r h = grind (arith, nat_tests)

pub handing_placed : (r : ℕ) → is_handing r ≡ true → is_placed r ≡ true
handing_placed r h = grind (arith, nat_tests)

pub handing_keyed : (r : ℕ) → is_handing r ≡ true → is_keyed r ≡ true
handing_keyed r h = grind (arith, nat_tests)

module _ {K : Type 0} (rank : K → K → Ordering) (laws : Laws rank) (s : Sight K) (inv : Inv rank s) where
  -- ---- locks

  pub holder_locks : (i p : ℕ) → holds (s.task i) p ≡ true → s.lock p ≡ Some i
  holder_locks i p h = go (s.lock p) (inv.locks i p ∙ h)
    where
      go : (o : Option ℕ) → locked_by i o ≡ true → o ≡ Some i
      go None h = absurd (false≢true h)
      go (Some j) h = ap Some (eqb-true j i h)

  pub one_holder : (i j p : ℕ) → holds (s.task i) p ≡ true → holds (s.task j) p ≡ true → i ≡ j
  one_holder i j p h k = let x = holder_locks i p h in let y = holder_locks j p k in cc

  -- ---- what stands before what

  pub below_not_high : (p : ℕ) (b : Bound K) → before rank (s.spot p) b ≡ true → p ≡ high → ⊥
  below_not_high p b h e =
      true≢false (sym h ∙ ap (λ q. before rank (s.spot q) b) e ∙ ap (λ x. before rank x b) inv.high_spot ∙ nothing_after_top rank b)

  pub not_both : (a b : Bound K) → before rank a b ≡ true → before rank b a ≡ true → ⊥
  not_both a b h k = true≢false (sym k ∙ before_once rank laws a b h)

  pub not_itself : (a : Bound K) → before rank a a ≡ true → ⊥
  not_itself a h = true≢false (sym h ∙ before_not_self rank laws a)

  -- Two places of the chain with one successor are one.
  next_not_before : (p q : ℕ) → chained s p ≡ true → chained s q ≡ true → (q ≡ high → ⊥) → s.next p ≡ s.next q → before rank (s.spot p) (s.spot q) ≡ true → ⊥
  next_not_before p q cp cq nq e b =
      let up = inv.rises q cq nq in
      ⊎_elim (λ x. not_itself (s.spot q) (subst (λ z. before rank (s.spot q) (s.spot z) ≡ true) (sym e ∙ x) up))
      (λ x. not_both (s.spot q) (s.spot (s.next q)) up (subst (λ z. before rank (s.spot z) (s.spot q) ≡ true) e x))
      (inv.gap p q cp cq b)

  pub next_apart : (p q : ℕ) → chained s p ≡ true → chained s q ≡ true → (p ≡ high → ⊥) → (q ≡ high → ⊥) → s.next p ≡ s.next q → p ≡ q
  next_apart p q cp cq np nq e =
      ⊎_elim (λ same. same) (λ either. ⊎_elim (λ b. absurd (next_not_before p q cp cq nq e b)) (λ b. absurd (next_not_before q p cq cp np (sym e) b)) either)
      (inv.apart p q cp cq)

  -- ---- places that are there

  pub in_hand_within : (p : ℕ) → s.status p ≡ InHand → p < s.size
  in_hand_within p h =
      ⊎_elim (λ lt. lt) (λ ge. let free = inv.beyond p ge in let z : ◌≡◌ {A = ℕ} 0 1 = cc in absurd (omega arith)) (cases_lt p s.size)

  pub seen_within : (i p : ℕ) → seen_by s i p ≡ true → p < s.size
  seen_within i p h =
      ⊎_elim (λ lt. lt)
      (λ ge. absurd (true≢false (sym h ∙ ap (λ x. is_chained x || (s.marked p && waits_for i x)) (inv.beyond p ge) ∙ and_right (s.marked p) false refl)))
      (cases_lt p s.size)

  -- ---- the places of a work

  module _ (i : ℕ) (t : Task K) (is : s.task i ≡ Some t) where
    pub holds_its_at : holds_at (rung t.phase) ≡ true → holds (s.task i) t.at ≡ true
    holds_its_at h =
        ap (λ o. holds o t.at) is
        ∙ or_left (holds_at (rung t.phase) && eqb t.at t.at) (holds_other (rung t.phase) && eqb t.other t.at)
        (and_from (holds_at (rung t.phase)) (eqb t.at t.at) h (eq-eqb t.at t.at refl))

    pub holds_its_other : holds_other (rung t.phase) ≡ true → holds (s.task i) t.other ≡ true
    holds_its_other h =
        ap (λ o. holds o t.other) is
        ∙ or_right (holds_at (rung t.phase) && eqb t.at t.other) (holds_other (rung t.phase) && eqb t.other t.other)
        (and_from (holds_other (rung t.phase)) (eqb t.other t.other) h (eq-eqb t.other t.other refl))

    pub at_within : t.at < s.size
    at_within = seen_within i t.at (inv.seen i t is)

    pub at_not_high : leb 3 (group t.phase) ≡ true → t.at ≡ high → ⊥
    at_not_high late = below_not_high t.at (exact t.key) ((inv.stands i t is).at_below late)

    pub placed_is_late : is_placed (rung t.phase) ≡ true → leb 3 (group t.phase) ≡ true
    placed_is_late h = holding_is_late t.phase (placed_holds (rung t.phase) h)

    pub at_leads : is_placed (rung t.phase) ≡ true → chained s (s.next t.at) ≡ true
    at_leads h = inv.leads t.at ((inv.stands i t is).at_chained h) (at_not_high (placed_is_late h))

    pub at_next_within : is_placed (rung t.phase) ≡ true → s.next t.at < s.size
    at_next_within h = chained_within rank laws s inv (s.next t.at) (at_leads h)

    pub other_not_high : is_keyed (rung t.phase) ≡ true → t.other ≡ high → ⊥
    other_not_high h e =
        let a = (inv.stands i t is).keyed h in
        let b = inv.high_spot in
        let c = ap s.spot e in
        let no : exact t.key ≡ top = sym a ∙ c ∙ b in
        let z : ◌≡◌ {A = ℕ} 0 1 = cc in omega arith

    pub joined_chained : is_joined (rung t.phase) ≡ true → chained s t.other ≡ true
    joined_chained h = subst (λ p. chained s p ≡ true) ((inv.stands i t is).joined h) (at_leads (joined_placed (rung t.phase) h))

    pub joined_within : is_joined (rung t.phase) ≡ true → t.other < s.size
    joined_within h = chained_within rank laws s inv t.other (joined_chained h)

    pub joined_leads : is_joined (rung t.phase) ≡ true → chained s (s.next t.other) ≡ true
    joined_leads h = inv.leads t.other (joined_chained h) (other_not_high (joined_keyed (rung t.phase) h))

    pub joined_next_within : is_joined (rung t.phase) ≡ true → s.next t.other < s.size
    joined_next_within h = chained_within rank laws s inv (s.next t.other) (joined_leads h)

    pub handed_within : is_handing (rung t.phase) ≡ true → t.other < s.size
    handed_within h = in_hand_within t.other ((inv.stands i t is).in_hand h)

    -- The key of at is below that of the other place.
    pub at_under_other : is_keyed (rung t.phase) ≡ true → before rank (s.spot t.at) (s.spot t.other) ≡ true
    at_under_other h =
        let late = holding_is_late t.phase (keyed_holds (rung t.phase) h) in
        ap (before rank (s.spot t.at)) ((inv.stands i t is).keyed h) ∙ (inv.stands i t is).at_below late
      where
        keyed_holds : (r : ℕ) → is_keyed r ≡ true → leb 1 r ≡ true
        keyed_holds r h = grind (arith, nat_tests)

  -- The successor of a place that a work stands on is there, unless that place is High.
  pub seen_next_within : (i p : ℕ) → seen_by s i p ≡ true → (p ≡ high → ⊥) → s.next p < s.size
  seen_next_within i p h not_high =
      ⊎_elim (λ ch. chained_within rank laws s inv (s.next p) (inv.leads p ch not_high))
      (λ both. by_status (s.status p) refl (and_parts (s.marked p) (waits_for i (s.status p)) both).1)
      (or_cases (chained s p) (s.marked p && waits_for i (s.status p)) h)
    where
      by_status : (x : Status) → s.status p ≡ x → waits_for i x ≡ true → s.next p < s.size
      by_status Free e w = absurd (false≢true w)
      by_status Chained e w = absurd (false≢true w)
      by_status InHand e w =
          let hand = inv.hands p e in
          let found = other_found is_handing (s.task hand.0) p hand.1 in
          let t = found.0 in
          let next : s.next p ≡ s.next t.at = sym (ap s.next found.3) ∙ (inv.stands hand.0 t found.1).in_hand_next found.2 in
          subst (λ n. n < s.size) (sym next) (at_next_within hand.0 t found.1 (handing_placed (rung t.phase) found.2))
      by_status (Retired ws) e w = seen_within i (s.next p) (inv.next_seen p ws e i w)
