-- That a work stays among places that it sees: successors, predecessors and what the guide names. Assumes the laws.
use Rattle.std.proofs.Common.{◌≡◌, ℕ, Bool, true, false, cond, not, ◌&&◌, ◌||◌, eqb, leb, ◌⊎◌, List, get_or, Some, None, Option, Ordering, sym, refl, ap, ◌∙◌, inl, inr, arith}
use Rattle.std.proofs.lemmas.Bool.{eqb-true, eq-eqb, ne_eqb, or_left, or_right, or_cases, and_parts, and_from, and_right}
use Rattle.std.proofs.lemmas.Bool.Decides.{nat_tests}
use Rattle.std.proofs.Math.Bool.{and-false}
use Rattle.guides.specs.Meaning.{low, high, has}
use Rattle.records.specs.declared.record.Phase.{Phase}
use Rattle.records.specs.declared.record.Phase.TheVariants.{Enter, Down, Check, Back, On, Seek, Lock, Valid, Take, Link, LinkBack, Attach, ReleaseNew, PutEnd, TakeVictim, Mark, UnlinkBack, Unlink, Detach, ReleaseVictim, StrikeEnd, First, FirstNext}
use Rattle.records.specs.declared.record.Status.{Status}
use Rattle.records.specs.declared.record.Status.TheVariants.{Free, InHand, Chained, Retired}
use Rattle.records.specs.declared.record.Task.{Task}
use Rattle.promises.specs.Promised.{is_chained}
use Rattle.promises.proofs.Small.{locked_is}
use Rattle.promises.proofs.Rungs.{lagging_joined}
use Rattle.promises.proofs.Laws.{Laws, Bound, bottom, exact, top, before}
use Rattle.promises.proofs.Laws.{before_not_self}
use Rattle.promises.proofs.Sights.{Sight}
use Rattle.promises.proofs.Invariant.{rung, group, holds_at, holds_other, is_placed, is_joined, is_marked, is_lagging, is_hiding, is_detaching, is_handing, waits_for, holds, other_in, holder_in, chained, seen_by, Inv}

pub never : {P : Type 0} → true ≡ false → P
never e = let z : ◌≡◌ {A = ℕ} 0 1 = cc in absurd (omega arith)

-- The work that has p as its other place.
pub record HasOther {K : Type 0} (f : ℕ → Bool) (a : Option (Task K)) (p : ℕ) : Type 0 where
  pub task : Task K
  pub is : a ≡ Some task
  pub rung_is : f (rung task.phase) ≡ true
  pub other_is : task.other ≡ p

pub has_other : {K : Type 0} (f : ℕ → Bool) (a : Option (Task K)) (p : ℕ) → other_in f a p ≡ true → HasOther f a p
has_other f None p e = never (sym e)
has_other f (Some t) p e =
    let both = and_parts (f (rung t.phase)) (eqb t.other p) e in
    record { task = t; is = refl; rung_is = both.0; other_is = eqb-true t.other p both.1 }

pub record HasHolder {K : Type 0} (f : ℕ → Bool) (task : ℕ → Option (Task K)) (l : Option ℕ) (p : ℕ) : Type 0 where
  pub holder : ℕ
  pub lock : l ≡ Some holder
  pub has : HasOther f (task holder) p

pub has_holder : {K : Type 0} (f : ℕ → Bool) (task : ℕ → Option (Task K)) (l : Option ℕ) (p : ℕ) → holder_in f task l p ≡ true → HasHolder f task l p
has_holder f task None p e = never (sym e)
has_holder f task (Some i) p e = record { holder = i; lock = refl; has = has_other f (task i) p e }

module _ {K : Type 0} (rank : K → K → Ordering) (s : Sight K) (inv : Inv rank s) where
  pub not_high_below : (p : ℕ) (b : Bound K) → before rank (s.spot p) b ≡ true → p ≡ high → ⊥
  not_high_below p b h e =
      let at_top = ap (λ q. before rank (s.spot q) b) e ∙ ap (λ x. before rank x b) inv.high_spot in
      go b (sym at_top ∙ h)
    where
      go : (b : Bound K) → before rank top b ≡ true → ⊥
      go bottom h = never (sym h)
      go (exact k) h = never (sym h)
      go top h = never (sym h)

  chained_seen : (i p : ℕ) → chained s p ≡ true → seen_by s i p ≡ true
  chained_seen i p h = or_left (chained s p) (s.marked p && waits_for i (s.status p)) h

  pub low_seen : (i : ℕ) → seen_by s i low ≡ true
  low_seen i = chained_seen i low (ap is_chained inv.low_chained)

  -- The work that has a struck place in its hands, and where that place leads.
  pub record Struck (p : ℕ) : Type 0 where
    pub at : ℕ
    pub at_chained : chained s at ≡ true
    pub at_not_high : at ≡ high → ⊥
    pub next_is : s.next p ≡ s.next at
    pub prev_is : s.prev p ≡ at

  pub struck_in_hand : (p : ℕ) → s.status p ≡ InHand → s.marked p ≡ true → Struck p
  struck_in_hand p h m =
      let found = inv.hands p h in
      let has = has_other is_handing (s.task found.0) p found.1 in
      let t = has.task in
      let st = inv.stands found.0 t has.is in
      let r : ◌≡◌ {A = Bool} (leb 12 (rung t.phase)) true = late (rung t.phase) has.rung_is (λ five. spare (st.spared (ap (λ r. leb 5 r && leb r 9) five)) (ap s.marked has.other_is ∙ m)) in
      let placed : is_placed (rung t.phase) ≡ true = grind (arith, nat_tests) in
      record {
        at = t.at;
        at_chained = st.at_chained placed;
        at_not_high = not_high_below t.at (exact t.key) (st.at_below (below t.phase r));
        next_is = ap s.next (sym has.other_is) ∙ st.in_hand_next has.rung_is;
        prev_is = ap s.prev (sym has.other_is) ∙ st.in_hand_prev has.rung_is;
      }
    where
      spare : {x : Bool} → x ≡ false → x ≡ true → ⊥
      spare a b = never (sym b ∙ a)

      late : (r : ℕ) → is_handing r ≡ true → (r ≡ 5 → ⊥) → leb 12 r ≡ true
      late r h other = grind (arith, nat_tests)

      below : (ph : Phase) → leb 12 (rung ph) ≡ true → leb 3 (group ph) ≡ true
      below Enter h = never (sym h)
      below Down h = never (sym h)
      below Check h = never (sym h)
      below Back h = never (sym h)
      below On h = never (sym h)
      below Seek h = refl
      below Lock h = refl
      below Valid h = refl
      below Take h = refl
      below Link h = refl
      below LinkBack h = refl
      below Attach h = refl
      below ReleaseNew h = refl
      below PutEnd h = refl
      below TakeVictim h = refl
      below Mark h = refl
      below UnlinkBack h = refl
      below Unlink h = refl
      below Detach h = refl
      below ReleaseVictim h = refl
      below StrikeEnd h = refl
      below First h = never (sym h)
      below FirstNext h = never (sym h)

  -- A place that a work sees: on the chain, in hand, or retired and waiting for it.
  pub data Sees (i p : ℕ) : Type 0 where
    on_chain : chained s p ≡ true → Sees i p
    in_hand : s.status p ≡ InHand → s.marked p ≡ true → Sees i p
    retired : (w : List Bool) → s.status p ≡ Retired w → s.marked p ≡ true → get_or w i false ≡ true → Sees i p

  pub sees : (i p : ℕ) → seen_by s i p ≡ true → Sees i p
  sees i p h = go (s.status p) refl h
    where
      go : (x : Status) → s.status p ≡ x → (is_chained x || (s.marked p && waits_for i x)) ≡ true → Sees i p
      go Free e h = never (sym h ∙ and-false (s.marked p))
      go InHand e h = in_hand e (and_parts (s.marked p) true h).0
      go Chained e h = on_chain (ap is_chained e)
      go (Retired w) e h = let both = and_parts (s.marked p) (get_or w i false) h in retired w e both.0 both.1

  pub next_is_seen : (i p : ℕ) → seen_by s i p ≡ true → (p ≡ high → ⊥) → seen_by s i (s.next p) ≡ true
  next_is_seen i p h low = go (sees i p h)
    where
      go : Sees i p → seen_by s i (s.next p) ≡ true
      go (on_chain c) = chained_seen i (s.next p) (inv.leads p c low)
      go (in_hand e m) =
          let st = struck_in_hand p e m in
          chained_seen i (s.next p) (ap (chained s) st.next_is ∙ inv.leads st.at st.at_chained st.at_not_high)
      go (retired w e m g) = inv.next_seen p w e i g

-- Whoever the lock is held by.

module _ {K : Type 0} (rank : K → K → Ordering) (laws : Laws rank) (s : Sight K) (inv : Inv rank s) where
  pub spots_differ : (p q : ℕ) → before rank (s.spot p) (s.spot q) ≡ true → p ≡ q → ⊥
  spots_differ p q h e = never (sym h ∙ ap (λ r. before rank (s.spot p) (s.spot r)) (sym e) ∙ before_not_self rank laws (s.spot p))

  module _ (i : ℕ) (t : Task K) (is : s.task i ≡ Some t) where
    pub holds_own : (p : ℕ) → holds (Some t) p ≡ true → s.lock p ≡ Some i
    holds_own p h = locked_is i (s.lock p) (inv.locks i p ∙ ap (λ x. holds x p) is ∙ h)

    pub holds_own_at : holds_at (rung t.phase) ≡ true → s.lock t.at ≡ Some i
    holds_own_at h = holds_own t.at (or_left (holds_at (rung t.phase) && eqb t.at t.at) _ (and_from _ _ h (eq-eqb t.at t.at refl)))

    pub holds_own_other : holds_other (rung t.phase) ≡ true → s.lock t.other ≡ Some i
    holds_own_other h =
        holds_own t.other (or_right (holds_at (rung t.phase) && eqb t.at t.other) _ (and_from _ _ h (eq-eqb t.other t.other refl)))

    pub at_not_high : is_placed (rung t.phase) ≡ true → t.at ≡ high → ⊥
    at_not_high h = not_high_below rank s inv t.at (exact t.key) ((inv.stands i t is).at_below (placed_below t.phase h))
      where
        placed_below : (ph : Phase) → is_placed (rung ph) ≡ true → leb 3 (group ph) ≡ true
        placed_below Enter h = never (sym h)
        placed_below Down h = never (sym h)
        placed_below Check h = never (sym h)
        placed_below Back h = never (sym h)
        placed_below On h = never (sym h)
        placed_below Seek h = refl
        placed_below Lock h = refl
        placed_below Valid h = refl
        placed_below Take h = refl
        placed_below Link h = refl
        placed_below LinkBack h = refl
        placed_below Attach h = refl
        placed_below ReleaseNew h = refl
        placed_below PutEnd h = refl
        placed_below TakeVictim h = refl
        placed_below Mark h = refl
        placed_below UnlinkBack h = refl
        placed_below Unlink h = refl
        placed_below Detach h = refl
        placed_below ReleaseVictim h = refl
        placed_below StrikeEnd h = refl
        placed_below First h = never (sym h)
        placed_below FirstNext h = never (sym h)

    -- A work whose other place differs from at does nothing to at that would show.
    pub at_not_other : (f : ℕ → Bool) → holds_at (rung t.phase) ≡ true → (t.other ≡ t.at → ⊥) → holder_in f s.task (s.lock t.at) t.at ≡ false
    at_not_other f h differ =
        ap (λ l. holder_in f s.task l t.at) (holds_own_at h) ∙ ap (λ x. other_in f x t.at) is
        ∙ and_right (f (rung t.phase)) (eqb t.other t.at) (ne_eqb t.other t.at differ)

    module _ (joins : is_joined (rung t.phase) ≡ true) where
      joined_placed : is_placed (rung t.phase) ≡ true
      joined_placed = grind (arith, nat_tests)

      joined_holds : holds_at (rung t.phase) ≡ true
      joined_holds = grind (arith, nat_tests)

      pub joined_differ : t.other ≡ t.at → ⊥
      joined_differ e =
          let st = inv.stands i t is in
          spots_differ t.at (s.next t.at) (inv.rises t.at (st.at_chained joined_placed) (at_not_high joined_placed)) (sym e ∙ sym (st.joined joins))

      pub joined_chained : chained s t.other ≡ true
      joined_chained =
          let st = inv.stands i t is in
          ap (chained s) (sym (st.joined joins)) ∙ inv.leads t.at (st.at_chained joined_placed) (at_not_high joined_placed)

      pub joined_prev : s.prev t.other ≡ t.at
      joined_prev =
          let st = inv.stands i t is in
          ap s.prev (sym (st.joined joins)) ∙ inv.backs t.at (st.at_chained joined_placed) (at_not_high joined_placed)
          ∙ ap (λ b. cond b (s.prev t.at) t.at) (at_not_other is_lagging joined_holds joined_differ)

  -- The predecessor of a chained place is chained.
  pub prev_chained : (p : ℕ) → chained s p ≡ true → (p ≡ low → ⊥) → chained s (s.prev p) ≡ true
  prev_chained p c differs =
      let f = inv.follows p c differs in
      go f.0 f.1 (holder_in is_lagging s.task (s.lock f.0) f.0) refl (ap s.prev (sym f.3) ∙ inv.backs f.0 f.1 f.2)
    where
      go : (q : ℕ) → chained s q ≡ true → (b : Bool) → holder_in is_lagging s.task (s.lock q) q ≡ b → s.prev p ≡ cond b (s.prev q) q → chained s (s.prev p) ≡ true
      go q cq false lags e = ap (chained s) e ∙ cq
      go q cq true lags e =
          let holder = has_holder is_lagging s.task (s.lock q) q lags in
          let has = holder.has in
          let t = has.task in
          let joins = lagging_joined (rung t.phase) has.rung_is in
          ap (chained s) (e ∙ ap s.prev (sym has.other_is) ∙ joined_prev holder.holder t has.is joins)
          ∙ (inv.stands holder.holder t has.is).at_chained (joined_placed holder.holder t has.is joins)

  pub prev_is_seen : (i p : ℕ) → seen_by s i p ≡ true → (p ≡ low → ⊥) → seen_by s i (s.prev p) ≡ true
  prev_is_seen i p h differs = go (sees rank s inv i p h)
    where
      go : Sees rank s inv i p → seen_by s i (s.prev p) ≡ true
      go (Sees.on_chain c) = or_left (chained s (s.prev p)) _ (prev_chained p c differs)
      go (Sees.in_hand e m) =
          let st = struck_in_hand rank s inv p e m in
          or_left (chained s (s.prev p)) _ (ap (chained s) st.prev_is ∙ st.at_chained)
      go (Sees.retired w e m g) = inv.prev_seen p w e i g

  -- What the guide names is seen by every work.
  pub guided_is_seen : (i p : ℕ) → has p s.guide.sequence ≡ true → seen_by s i p ≡ true
  guided_is_seen i p h = go (or_cases _ _ (sym (inv.guide_shows p) ∙ h))
    where
      go : ((chained s p && not (holder_in is_hiding s.task (s.lock p) p)) ≡ true) ⊎ (holder_in is_detaching s.task (s.lock p) p ≡ true) → seen_by s i p ≡ true
      go (inl c) = or_left (chained s p) _ (and_parts _ _ c).0
      go (inr d) =
          let holder = has_holder is_detaching s.task (s.lock p) p d in
          let has = holder.has in
          let st = inv.stands holder.holder has.task has.is in
          let hand : s.status p ≡ InHand = ap s.status (sym has.other_is) ∙ st.in_hand (detaching_hands (rung has.task.phase) has.rung_is) in
          let marked : s.marked p ≡ true = ap s.marked (sym has.other_is) ∙ st.other_marked (detaching_marks (rung has.task.phase) has.rung_is) in
          or_right (chained s p) _ (and_from _ _ marked (ap (waits_for i) hand))
        where
          detaching_hands : (r : ℕ) → is_detaching r ≡ true → is_handing r ≡ true
          detaching_hands r h = grind (arith, nat_tests)

          detaching_marks : (r : ℕ) → is_detaching r ≡ true → is_marked r ≡ true
          detaching_marks r h = grind (arith, nat_tests)
