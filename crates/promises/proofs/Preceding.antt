-- The predecessor of a place of the chain is on the chain, below it. Assumes the laws of the order and the invariant.
use Rattle.std.proofs.Common.{◌≡◌, ℕ, Bool, true, false, cond, ◌&&◌, eqb, leb, Some, None, Option, Ordering, sym, refl, ap, ◌∙◌, subst, true≢false}
use Rattle.std.proofs.lemmas.Bool.{and_parts, eqb-true, or_left, and_from, eq-eqb}
use Rattle.std.proofs.Math.Bool.{and-false}
use Rattle.guides.specs.Meaning.{low, high}
use Rattle.records.specs.declared.record.Phase.{Phase}
use Rattle.records.specs.declared.record.Phase.TheVariants.{Enter, Down, Check, Back, On, Seek, Lock, Valid, Take, Link, LinkBack, Attach, ReleaseNew, PutEnd, TakeVictim, Mark, UnlinkBack, Unlink, Detach, ReleaseVictim, StrikeEnd, First, FirstNext}
use Rattle.records.specs.declared.record.Task.{Task}
use Rattle.promises.proofs.Small.{locked_is}
use Rattle.promises.proofs.Laws.{Laws, Bound, exact, before, before_not_self, before_chains}
use Rattle.promises.proofs.Sights.{Sight}
use Rattle.promises.proofs.Invariant.{Inv, chained, rung, group, holds_at, is_placed, is_joined, is_keyed, is_lagging, holds, other_in, holder_in}

-- A phase that lags is one of two, and holds what those hold.
lags_placed : (p : Phase) → is_lagging (rung p) ≡ true → (is_placed (rung p) ≡ true) × (is_joined (rung p) ≡ true) × (is_keyed (rung p) ≡ true) × (holds_at (rung p) ≡ true) × (leb 3 (group p) ≡ true)
lags_placed Enter h = absurd (true≢false (sym h))
lags_placed Down h = absurd (true≢false (sym h))
lags_placed Check h = absurd (true≢false (sym h))
lags_placed Back h = absurd (true≢false (sym h))
lags_placed On h = absurd (true≢false (sym h))
lags_placed Seek h = absurd (true≢false (sym h))
lags_placed Lock h = absurd (true≢false (sym h))
lags_placed Valid h = absurd (true≢false (sym h))
lags_placed Take h = absurd (true≢false (sym h))
lags_placed Link h = absurd (true≢false (sym h))
lags_placed LinkBack h = (refl, refl, refl, refl, refl)
lags_placed Attach h = absurd (true≢false (sym h))
lags_placed ReleaseNew h = absurd (true≢false (sym h))
lags_placed PutEnd h = absurd (true≢false (sym h))
lags_placed TakeVictim h = absurd (true≢false (sym h))
lags_placed Mark h = absurd (true≢false (sym h))
lags_placed UnlinkBack h = absurd (true≢false (sym h))
lags_placed Unlink h = (refl, refl, refl, refl, refl)
lags_placed Detach h = absurd (true≢false (sym h))
lags_placed ReleaseVictim h = absurd (true≢false (sym h))
lags_placed StrikeEnd h = absurd (true≢false (sym h))
lags_placed First h = absurd (true≢false (sym h))
lags_placed FirstNext h = absurd (true≢false (sym h))

module _ {K : Type 0} (rank : K → K → Ordering) (laws : Laws rank) (s : Sight K) (inv : Inv rank s) where
  -- The place p and one below it.
  pub record Precedes (q p : ℕ) : Type 0 where
    pub on : chained s q ≡ true
    pub below : before rank (s.spot q) (s.spot p) ≡ true

  not_itself : {P : Type 0} (a : Bound K) → before rank a a ≡ true → P
  not_itself a h = absurd (true≢false (sym h ∙ before_not_self rank laws a))

  not_top : (p : ℕ) (k : K) → before rank (s.spot p) (exact k) ≡ true → p ≡ high → ⊥
  not_top p k h same = true≢false (sym h ∙ ap (λ b. before rank b (exact k)) (ap s.spot same ∙ inv.high_spot))

  -- Where the predecessor lags, it is the place before the one before.
  lagging : (p q : ℕ) → chained s q ≡ true → (q ≡ high → ⊥) → s.next q ≡ p → (j : ℕ) (t : Task K) → s.task j ≡ Some t → is_lagging (rung t.phase) ≡ true → t.other ≡ q
      → s.prev p ≡ s.prev q → Precedes (s.prev p) p
  lagging p q on up leads j t is lags same prevs =
      let facts = lags_placed t.phase lags in
      let work = inv.stands j t is in
      let at_on = work.at_chained facts.0 in
      let at_up = not_top t.at t.key (work.at_below facts.4) in
      let joined : s.next t.at ≡ q = work.joined facts.1 ∙ same in
      let lock_of_at : s.lock t.at ≡ Some j =
      locked_is j (s.lock t.at) (inv.locks j t.at ∙ ap (λ x. holds x t.at) is ∙ or_left (holds_at (rung t.phase) && eqb t.at t.at) _ (and_from (holds_at (rung t.phase)) (eqb t.at t.at) facts.3 (eq-eqb t.at t.at refl))) in
      let prev_of_q : s.prev q ≡ t.at = prev_back t is facts lock_of_at (sym (ap s.prev joined) ∙ inv.backs t.at at_on at_up) in
      let down = subst (λ z. before rank (s.spot t.at) (s.spot z) ≡ true) joined (inv.rises t.at at_on at_up) in
      let step = subst (λ z. before rank (s.spot q) (s.spot z) ≡ true) leads (inv.rises q on up) in
      subst (λ z. Precedes z p) (sym (prevs ∙ prev_of_q)) (record { on = at_on; below = before_chains rank laws (s.spot t.at) (s.spot q) (s.spot p) down step })
    where
      other_apart : (u : Task K) → s.task j ≡ Some u → is_keyed (rung u.phase) ≡ true → leb 3 (group u.phase) ≡ true → u.other ≡ u.at → ⊥
      other_apart u isu keyed past e =
          let w = inv.stands j u isu in
          not_itself (exact u.key) (subst (λ b. before rank b (exact u.key) ≡ true) (sym (ap s.spot e) ∙ w.keyed keyed) (w.at_below past))

      prev_back : (u : Task K) → s.task j ≡ Some u → (is_placed (rung u.phase) ≡ true) × (is_joined (rung u.phase) ≡ true) × (is_keyed (rung u.phase) ≡ true) × (holds_at (rung u.phase) ≡ true) × (leb 3 (group u.phase) ≡ true)
          → s.lock u.at ≡ Some j → s.prev q ≡ cond (holder_in is_lagging s.task (s.lock u.at) u.at) (s.prev u.at) u.at → s.prev q ≡ u.at
      prev_back u isu facts lk e =
          e ∙ ap (λ b. cond b (s.prev u.at) u.at) (ap (λ l. holder_in is_lagging s.task l u.at) lk ∙ ap (λ x. other_in is_lagging x u.at) isu ∙ none (eqb u.other u.at) refl)
        where
          none : (b : Bool) → eqb u.other u.at ≡ b → (is_lagging (rung u.phase) && b) ≡ false
          none true h = absurd (other_apart u isu facts.2 facts.4 (eqb-true u.other u.at h))
          none false h = and-false (is_lagging (rung u.phase))

  -- The predecessor of a place of the chain other than Low.
  pub precedes : (p : ℕ) → chained s p ≡ true → (p ≡ low → ⊥) → Precedes (s.prev p) p
  precedes p on low_not =
      let f = inv.follows p on low_not in
      by f.0 f.1 f.2 f.3 (holder_in is_lagging s.task (s.lock f.0) f.0) refl (sym (ap s.prev f.3) ∙ inv.backs f.0 f.1 f.2)
    where
      by : (q : ℕ) → chained s q ≡ true → (q ≡ high → ⊥) → s.next q ≡ p → (b : Bool) → holder_in is_lagging s.task (s.lock q) q ≡ b
          → s.prev p ≡ cond (holder_in is_lagging s.task (s.lock q) q) (s.prev q) q → Precedes (s.prev p) p
      by q qon qup leads false lag e =
          subst (λ z. Precedes z p) (sym (e ∙ ap (λ b. cond b (s.prev q) q) lag))
          (record { on = qon; below = subst (λ z. before rank (s.spot q) (s.spot z) ≡ true) leads (inv.rises q qon qup) })
      by q qon qup leads true lag e = by_lock (s.lock q) refl lag
        where
          by_task : (j : ℕ) (x : Option (Task K)) → s.task j ≡ x → other_in is_lagging x q ≡ true → Precedes (s.prev p) p
          by_task j None is h = absurd (true≢false (sym h))
          by_task j (Some t) is h =
              let both = and_parts (is_lagging (rung t.phase)) (eqb t.other q) h in
              lagging p q qon qup leads j t is both.0 (eqb-true t.other q both.1) (e ∙ ap (λ b. cond b (s.prev q) q) lag)

          by_lock : (l : Option ℕ) → s.lock q ≡ l → holder_in is_lagging s.task l q ≡ true → Precedes (s.prev p) p
          by_lock None is h = absurd (true≢false (sym h))
          by_lock (Some j) is h = by_task j (s.task j) refl h
