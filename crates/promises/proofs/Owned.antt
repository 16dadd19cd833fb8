-- What an accepted step makes of the keys that stand at unmarked places of the chain: LINK adds the key of its put, MARK takes
-- the key of its strike away, and nothing else changes them. Assumes the laws of the order and the invariant.
use Rattle.std.proofs.Common.{◌≡◌, ℕ, Bool, true, false, leb, ◌⊎◌, Some, Ordering, sym, refl, ap, ◌∙◌, subst, inl, inr, arith}
use Rattle.std.proofs.lemmas.Bool.{cases_eq}
use Rattle.guides.specs.Meaning.{high}
use Rattle.records.specs.declared.outcome.Outcome.{Outcome}
use Rattle.records.specs.declared.record.Phase.TheVariants.{Link, Mark, Unlink}
use Rattle.records.specs.declared.record.Place.{Place}
use Rattle.records.specs.declared.record.Status.TheVariants.{Free, InHand, Chained}
use Rattle.records.specs.declared.record.Task.{Task}
use Rattle.promises.specs.Promised.{is_chained}
use Rattle.promises.proofs.Laws.{Laws, Bound, exact, before, before_not_self, before_chains}
use Rattle.promises.proofs.Sights.{Sight, next_put, mark_put, status_put, prev_put, filled}
use Rattle.promises.proofs.Invariant.{Inv, Stands, chained, rung, group, is_placed, is_between, is_joined, is_keyed, is_marked, is_spared, is_handing}
use Rattle.promises.proofs.Touches.{Touch, Still}
use Rattle.promises.proofs.Keeps.{at_other, at_same, apart_by}

module _ {K : Type 0} where
  -- The key k stands at an unmarked place of the chain.
  pub record Kept (s : Sight K) (k : K) : Type 0 where
    pub place : ℕ
    pub on : chained s place ≡ true
    pub unmarked : s.marked place ≡ false
    pub stands : s.spot place ≡ exact k

  -- A place of the chain of s is one of s' too, with the same key and mark.
  pub record StaysOn (s s' : Sight K) (p : ℕ) : Type 0 where
    pub on : chained s' p ≡ true
    pub marked : s'.marked p ≡ s.marked p
    pub spot : s'.spot p ≡ s.spot p

  pub kept_along : (s s' : Sight K) → ((p : ℕ) → chained s p ≡ true → s.marked p ≡ false → StaysOn s s' p) → (k : K) → Kept s k → Kept s' k
  kept_along s s' stays k h =
      let there = stays h.place h.on h.unmarked in
      record { place = h.place; on = there.on; unmarked = there.marked ∙ h.unmarked; stands = there.spot ∙ h.stands }

  -- The same keys are kept.
  pub record SameKept (s s' : Sight K) : Type 0 where
    pub forth : (k : K) → Kept s k → Kept s' k
    pub back : (k : K) → Kept s' k → Kept s k

  -- One key more is kept.
  pub record KeepsMore (k : K) (s s' : Sight K) : Type 0 where
    pub absent : Kept s k → ⊥
    pub present : Kept s' k
    pub forth : (j : K) → Kept s j → Kept s' j
    pub back : (j : K) → (j ≡ k → ⊥) → Kept s' j → Kept s j

  -- What the rule of work t makes of the keys.
  pub data Effect (t : Task K) (s s' : Sight K) : Type 0 where
    none : SameKept s s' → Effect t s s'
    adds : t.phase ≡ Link → KeepsMore t.key s s' → Effect t s s'
    takes : t.phase ≡ Mark → KeepsMore t.key s' s → Effect t s s'

  -- Sights that read the same of every place.
  pub same_reads : (s s' : Sight K) → ((p : ℕ) → chained s' p ≡ chained s p) → ((p : ℕ) → s'.marked p ≡ s.marked p) → ((p : ℕ) → s'.spot p ≡ s.spot p) → SameKept s s'
  same_reads s s' c m k = record {
    forth = kept_along s s' (λ p on _. record { on = c p ∙ on; marked = m p; spot = k p });
    back = kept_along s' s (λ p on _. record { on = sym (c p) ∙ on; marked = sym (m p); spot = sym (k p) });
  }

  still_same_kept : (s s' : Sight K) → Still s s' → SameKept s s'
  still_same_kept s s' st = same_reads s s' (λ p. ap (λ f. is_chained (f p)) st.status) (λ p. ap (λ f. f p) st.marked) (λ p. ap (λ f. f p) st.spot)

  backs_same_kept : (s s' : Sight K) (p q : ℕ) → s' ≡ prev_put p q s → SameKept s s'
  backs_same_kept s s' p q e = same_reads s s' (λ r. ap (λ x. is_chained (x.status r)) e) (λ r. ap (λ x. x.marked r) e) (λ r. ap (λ x. x.spot r) e)

  -- A free place that is filled was not on the chain and is not.
  fills_same_kept : (s s' : Sight K) (p : ℕ) (x : Place K) → s.status p ≡ Free → x.status ≡ InHand → s' ≡ filled p x s → SameKept s s'
  fills_same_kept s s' p x free hand e = subst (SameKept s) (sym e) record {
    forth = kept_along s (filled p x s) (λ q on _. stays q (λ same. apart_by (chained s) q p on (ap is_chained free) (sym same)) on);
    back = kept_along (filled p x s) s (λ q on _. stays_back q (λ same. apart_by (chained (filled p x s)) q p on (ap is_chained (at_same s.status p x.status p refl ∙ hand)) (sym same)) on);
  }
    where
      stays : (q : ℕ) → (p ≡ q → ⊥) → chained s q ≡ true → StaysOn s (filled p x s) q
      stays q apart on = record { on = ap is_chained (at_other s.status p x.status q apart) ∙ on; marked = at_other s.marked p x.marked q apart; spot = at_other s.spot p _ q apart }

      stays_back : (q : ℕ) → (p ≡ q → ⊥) → chained (filled p x s) q ≡ true → StaysOn (filled p x s) s q
      stays_back q apart on = record { on = sym (ap is_chained (at_other s.status p x.status q apart)) ∙ on; marked = sym (at_other s.marked p x.marked q apart); spot = sym (at_other s.spot p _ q apart) }

exact_same : {K : Type 0} (a b : K) → exact a ≡ exact b → a ≡ b
exact_same a b e = cc

module _ {K : Type 0} (rank : K → K → Ordering) (laws : Laws rank) (s : Sight K) (inv : Inv rank s) where
  -- Nothing is before itself.
  not_itself : {P : Type 0} (a b : Bound K) → a ≡ b → before rank a b ≡ true → P
  not_itself a b e h = let no : ◌≡◌ {A = Bool} true false = sym h ∙ ap (before rank a) (sym e) ∙ before_not_self rank laws a in absurd (let z : ◌≡◌ {A = ℕ} 0 1 = cc in omega arith)

  -- Two places of the chain with one key are one.
  pub same_spot : (p q : ℕ) → chained s p ≡ true → chained s q ≡ true → s.spot p ≡ s.spot q → p ≡ q
  same_spot p q on on' e = by (inv.apart p q on on')
    where
      by : (p ≡ q) ⊎ ((before rank (s.spot p) (s.spot q) ≡ true) ⊎ (before rank (s.spot q) (s.spot p) ≡ true)) → p ≡ q
      by (inl same) = same
      by (inr (inl b)) = not_itself (s.spot p) (s.spot q) e b
      by (inr (inr b)) = not_itself (s.spot q) (s.spot p) (sym e) b

  module _ (i : ℕ) (t : Task K) (under : s.task i ≡ Some t) where
    work : Stands rank s.spot s.next s.prev s.marked s.status t
    work = inv.stands i t under

    -- LINK adds the key of its work.
    module _ (ph : t.phase ≡ Link) where
      abbrev linked : Sight K
      linked = status_put t.other Chained (next_put t.at t.other s)

      off : chained s t.other ≡ false
      off = ap is_chained (work.in_hand (ap (λ p. is_handing (rung p)) ph))

      key_of_other : s.spot t.other ≡ exact t.key
      key_of_other = work.keyed (ap (λ p. is_keyed (rung p)) ph)

      absent_before : Kept s t.key → ⊥
      absent_before h = by (inv.gap t.at h.place (work.at_chained (ap (λ p. is_placed (rung p)) ph)) h.on (subst (λ b. before rank (s.spot t.at) b ≡ true) (sym h.stands) below))
        where
          below : before rank (s.spot t.at) (exact t.key) ≡ true
          below = work.at_below (ap (λ p. leb 3 (group p)) ph)

          above : before rank (exact t.key) (s.spot (s.next t.at)) ≡ true
          above = work.next_above (ap (λ p. is_between (rung p)) ph)

          by : (s.next t.at ≡ h.place) ⊎ (before rank (s.spot (s.next t.at)) (s.spot h.place) ≡ true) → ⊥
          by (inl e) = not_itself (exact t.key) (s.spot (s.next t.at)) (sym (ap s.spot e ∙ h.stands)) above
          by (inr b) = not_itself (exact t.key) (s.spot h.place) (sym h.stands) (before_chains rank laws (exact t.key) (s.spot (s.next t.at)) (s.spot h.place) above b)

      on_after : chained linked t.other ≡ true
      on_after = ap is_chained (at_same s.status t.other Chained t.other refl)

      stays_linked : (p : ℕ) → (t.other ≡ p → ⊥) → chained linked p ≡ chained s p
      stays_linked p apart = ap is_chained (at_other s.status t.other Chained p apart)

      pub link_adds : KeepsMore t.key s linked
      link_adds = record {
        absent = absent_before;
        present = record { place = t.other; on = on_after; unmarked = work.spared (ap (λ p. is_spared (rung p)) ph); stands = key_of_other };
        forth = kept_along s linked (λ p on _. record { on = stays_linked p (λ same. apart_by (chained s) p t.other on off (sym same)) ∙ on; marked = refl; spot = refl });
        back = λ j other h. by j other h (cases_eq t.other h.place);
      }
        where
          by : (j : K) → (j ≡ t.key → ⊥) → (h : Kept linked j) → (t.other ≡ h.place) ⊎ (t.other ≡ h.place → ⊥) → Kept s j
          by j other h (inl same) = absurd (other (exact_same j t.key (sym h.stands ∙ ap s.spot (sym same) ∙ key_of_other)))
          by j other h (inr apart) = record { place = h.place; on = sym (stays_linked h.place apart) ∙ h.on; unmarked = h.unmarked; stands = h.stands }

    -- MARK takes the key of its work away.
    module _ (ph : t.phase ≡ Mark) where
      key_of_victim : s.spot t.other ≡ exact t.key
      key_of_victim = work.keyed (ap (λ p. is_keyed (rung p)) ph)

      not_high : t.at ≡ high → ⊥
      not_high same =
          let below : before rank (s.spot t.at) (exact t.key) ≡ true = work.at_below (ap (λ p. leb 3 (group p)) ph) in
          let no : ◌≡◌ {A = Bool} true false = sym below ∙ ap (λ b. before rank b (exact t.key)) (ap s.spot same ∙ inv.high_spot) in
          let z : ◌≡◌ {A = ℕ} 0 1 = cc in omega arith

      victim_on : chained s t.other ≡ true
      victim_on = sym (ap (chained s) (work.joined (ap (λ p. is_joined (rung p)) ph))) ∙ inv.leads t.at (work.at_chained (ap (λ p. is_placed (rung p)) ph)) not_high

      abbrev struck : Sight K
      struck = mark_put t.other s

      same_mark : (p : ℕ) → (t.other ≡ p → ⊥) → struck.marked p ≡ s.marked p
      same_mark p apart = at_other s.marked t.other true p apart

      not_victim : (p : ℕ) → struck.marked p ≡ false → t.other ≡ p → ⊥
      not_victim p un same = let no : ◌≡◌ {A = Bool} true false = sym (at_same s.marked t.other true p same) ∙ un in let z : ◌≡◌ {A = ℕ} 0 1 = cc in omega arith

      pub mark_takes : KeepsMore t.key struck s
      mark_takes = record {
        absent = λ h. not_victim h.place h.unmarked (same_spot t.other h.place victim_on h.on (key_of_victim ∙ sym h.stands));
        present = record { place = t.other; on = victim_on; unmarked = work.spared (ap (λ p. is_spared (rung p)) ph); stands = key_of_victim };
        forth = kept_along struck s (λ p on un. record { on = on; marked = sym (same_mark p (not_victim p un)); spot = refl });
        back = λ j other h. record {
          place = h.place;
          on = h.on;
          unmarked = same_mark h.place (λ same. other (exact_same j t.key (sym h.stands ∙ ap s.spot (sym same) ∙ key_of_victim))) ∙ h.unmarked;
          stands = h.stands;
        };
      }

    -- UNLINK takes a marked place from the chain.
    module _ (ph : t.phase ≡ Unlink) where
      abbrev cut : Sight K
      cut = status_put t.other InHand (next_put t.at (s.next t.other) s)

      same_chain : (p : ℕ) → (t.other ≡ p → ⊥) → chained cut p ≡ chained s p
      same_chain p apart = ap is_chained (at_other s.status t.other InHand p apart)

      cut_off : chained cut t.other ≡ false
      cut_off = ap is_chained (at_same s.status t.other InHand t.other refl)

      pub unlink_keeps : SameKept s cut
      unlink_keeps = record {
        forth = kept_along s cut (λ p on un. record { on = same_chain p (λ same. not_marked p un (sym same)) ∙ on; marked = refl; spot = refl });
        back = kept_along cut s (λ p on un. record { on = sym (same_chain p (λ same. apart_by (chained cut) p t.other on cut_off (sym same))) ∙ on; marked = refl; spot = refl });
      }
        where
          not_marked : (p : ℕ) → s.marked p ≡ false → p ≡ t.other → ⊥
          not_marked p un same = let no : ◌≡◌ {A = Bool} true false = sym (work.other_marked (ap (λ q. is_marked (rung q)) ph)) ∙ ap s.marked (sym same) ∙ un in let z : ◌≡◌ {A = ℕ} 0 1 = cc in omega arith

    -- The rule of a step.
    pub rule_effect : (o : Outcome K) (s' : Sight K) → Touch s t o s' → Effect t s s'
    rule_effect o s' (Touch.stays r still) = Effect.none (still_same_kept s s' still)
    rule_effect o s' (Touch.fills r p free x hand e) = Effect.none (fills_same_kept s s' p x free hand e)
    rule_effect o s' (Touch.joins r ph e) = Effect.adds ph (subst (KeepsMore t.key s) (sym e) (link_adds ph))
    rule_effect o s' (Touch.backs r ph q e) = Effect.none (backs_same_kept s s' _ q e)
    rule_effect o s' (Touch.marks r ph e) = Effect.takes ph (subst (λ x. KeepsMore t.key x s) (sym e) (mark_takes ph))
    rule_effect o s' (Touch.cuts r ph e) = Effect.none (subst (SameKept s) (sym e) (unlink_keeps ph))
    rule_effect o s' (Touch.hands_over ph e still) = Effect.none (still_same_kept s s' still)
