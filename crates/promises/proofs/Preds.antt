-- That the rules which write a predecessor, and the mark, keep the invariant. Assumes the laws.
use Rattle.std.proofs.Common.{◌≡◌, ℕ, Bool, true, false, cond, not, ◌&&◌, ◌||◌, eqb, Some, None, Option, Ordering, sym, refl, ap, ◌∙◌, subst, inl, inr, arith}
use Rattle.std.proofs.lemmas.Bool.{eq-eqb, ne_eqb, and_right, cases_eq}
use Rattle.guides.specs.Meaning.{low, high}
use Rattle.records.specs.declared.record.Task.{Task}
use Rattle.promises.specs.Promised.{is_chained}
use Rattle.promises.proofs.Small.{one_holder}
use Rattle.promises.proofs.Rungs.{joined_holds, joined_placed, lagging_joined}
use Rattle.promises.proofs.Laws.{Laws, Bound, bottom, exact, top}
use Rattle.promises.proofs.Sights.{Sight, at_with, task_put}
use Rattle.promises.proofs.Invariant.{rung, holds_other, is_keyed, is_joined, is_lagging, is_hiding, is_detaching, is_striking, is_handing, holds, other_in, holder_in, chained, seen_by, Stands, Inv}
use Rattle.promises.proofs.Retasks.{at_with_both, Sound}
use Rattle.promises.proofs.Sees.{never, holds_own_at, holds_own_other, at_not_high, spots_differ}
use Rattle.promises.proofs.Relocks.{just}
use Rattle.promises.proofs.Locking.{next_injective}
use Rattle.promises.proofs.Sights.{prev_put}
use Rattle.promises.proofs.Retasks.{holder_same}
use Rattle.promises.proofs.Sees.{has_holder, joined_chained, joined_prev}
use Rattle.promises.proofs.Relocks.{other_alike, awaited_with}

pub at_with_other : {A : Type 0} (f : ℕ → A) (p q : ℕ) (a : A) → (p ≡ q → ⊥) → at_with f p a q ≡ f q
at_with_other f p q a d = at_with_both f p q a (λ x. x ≡ f q) (λ e. absurd (d e)) (λ _. refl)

pub at_with_same : {A : Type 0} (f : ℕ → A) (p : ℕ) (a : A) → at_with f p a p ≡ a
at_with_same f p a = at_with_both f p p a (λ x. x ≡ a) (λ _. refl) (λ d. absurd (d refl))

module _ {K : Type 0} (rank : K → K → Ordering) (laws : Laws rank) (s : Sight K) (inv : Inv rank s) (me : ℕ) (t : Task K) (is_task : s.task me ≡ Some t) where
  st : Stands rank s.spot s.next s.prev s.marked s.status t
  st = inv.stands me t is_task

  -- A place that has a key is neither Low nor High.
  pub keyed_not_high : (p : ℕ) (k : K) → s.spot p ≡ exact k → p ≡ high → ⊥
  keyed_not_high p k e h = let two : ◌≡◌ {A = Bound K} (exact k) top = sym e ∙ ap s.spot h ∙ inv.high_spot in let z : ◌≡◌ {A = ℕ} 0 1 = cc in omega arith

  pub keyed_not_low : (p : ℕ) (k : K) → s.spot p ≡ exact k → p ≡ low → ⊥
  keyed_not_low p k e h = let two : ◌≡◌ {A = Bound K} (exact k) bottom = sym e ∙ ap s.spot h ∙ inv.low_spot in let z : ◌≡◌ {A = ℕ} 0 1 = cc in omega arith

  -- No other work holds what this one holds.
  pub not_theirs : (i : ℕ) (v : Task K) → s.task i ≡ Some v → (me ≡ i → ⊥) → (p q : ℕ) → s.lock p ≡ Some me → s.lock q ≡ Some i → p ≡ q → ⊥
  not_theirs i v is differ p q mine theirs e = differ (one_holder me i (s.lock p) mine (ap s.lock e ∙ theirs))

  -- The other place of this work shows by no other place's lock.
  pub lag_elsewhere : (f : ℕ → Bool) (u : Task K) → u.other ≡ t.other → (p : ℕ) → (t.other ≡ p → ⊥)
      → holder_in f (at_with s.task me (Some u)) (s.lock p) p ≡ holder_in f s.task (s.lock p) p
  lag_elsewhere f u same p d = go (s.lock p)
    where
      go : (l : Option ℕ) → holder_in f (at_with s.task me (Some u)) l p ≡ holder_in f s.task l p
      go None = refl
      go (Some i) =
          at_with_both s.task me i (Some u) (λ x. other_in f x p ≡ other_in f (s.task i) p)
          (λ e. and_right (f (rung u.phase)) (eqb u.other p) (ne_eqb u.other p (λ q. d (sym same ∙ q)))
          ∙ sym (ap (λ j. other_in f (s.task j) p) (sym e) ∙ ap (λ x. other_in f x p) is_task ∙ and_right (f (rung t.phase)) (eqb t.other p) (ne_eqb t.other p d)))
          (λ _. refl)

  module _ (joins : is_joined (rung t.phase) ≡ true) (keyed : is_keyed (rung t.phase) ≡ true) (u : Task K) (b : ℕ)
      (same_at : u.at ≡ t.at) (same_other : u.other ≡ t.other) (aw : u.awaited ≡ t.awaited) (sound : Sound rank s me u) (unhanded : is_handing (rung u.phase) ≡ false)
      (holding : (p : ℕ) → holds (Some u) p ≡ holds (Some t) p) (hiding : (p : ℕ) → other_in is_hiding (Some u) p ≡ other_in is_hiding (Some t) p)
      (detaching : (p : ℕ) → other_in is_detaching (Some u) p ≡ other_in is_detaching (Some t) p) (striking : (p : ℕ) → other_in is_striking (Some u) p ≡ other_in is_striking (Some t) p)
      (handing : (p : ℕ) → other_in is_handing (Some u) p ≡ other_in is_handing (Some t) p) (locked : holds_other (rung t.phase) ≡ true)
      (becomes : b ≡ cond (is_lagging (rung u.phase)) t.at t.other) where
    x : ℕ
    x = t.other

    n : ℕ
    n = s.next t.other

    x_chained : chained s t.other ≡ true
    x_chained = joined_chained rank laws s inv me t is_task joins

    x_not_high : t.other ≡ high → ⊥
    x_not_high = keyed_not_high t.other t.key (st.keyed keyed)

    n_chained : chained s (s.next t.other) ≡ true
    n_chained = inv.leads t.other x_chained x_not_high

    n_not_x : s.next t.other ≡ t.other → ⊥
    n_not_x e = spots_differ rank laws s inv t.other (s.next t.other) (inv.rises t.other x_chained x_not_high) (sym e)

    lock_x : s.lock t.other ≡ Some me
    lock_x = holds_own_other rank laws s inv me t is_task locked

    -- Nobody lags behind n: its predecessor's lock is held here.
    n_not_lagging : holder_in is_lagging s.task (s.lock (s.next t.other)) (s.next t.other) ≡ true → ⊥
    n_not_lagging lags =
        let holder = has_holder is_lagging s.task (s.lock (s.next t.other)) (s.next t.other) lags in
        let v = holder.has.task in
        let is = holder.has.is in
        let vj = lagging_joined (rung v.phase) holder.has.rung_is in
        let so = inv.stands holder.holder v is in
        let same = next_injective rank laws s inv v.at t.other (so.at_chained (joined_placed (rung v.phase) vj)) x_chained
        (at_not_high rank laws s inv holder.holder v is (joined_placed (rung v.phase) vj)) x_not_high (so.joined vj ∙ holder.has.other_is) in
        let who = one_holder holder.holder me (s.lock t.other) (ap s.lock (sym same) ∙ holds_own_at rank laws s inv holder.holder v is (joined_holds (rung v.phase) vj)) lock_x in
        let mine : v ≡ t = just v t (sym is ∙ ap s.task who ∙ is_task) in
        n_not_x (sym holder.has.other_is ∙ ap (λ y. y.other) mine)

    abbrev task' : ℕ → Option (Task K)
    task' = at_with s.task me (Some u)

    abbrev prev' : ℕ → ℕ
    prev' = at_with s.prev (s.next t.other) b

    backs_x : prev' (s.next t.other) ≡ cond (holder_in is_lagging task' (s.lock t.other) t.other) (prev' t.other) t.other
    backs_x =
        at_with_same s.prev (s.next t.other) b ∙ becomes
        ∙ ap (λ y. cond (is_lagging (rung u.phase)) y t.other) (sym (at_with_other s.prev (s.next t.other) t.other b n_not_x ∙ joined_prev rank laws s inv me t is_task joins))
        ∙ ap (λ c. cond c (prev' t.other) t.other) (sym shows)
      where
        and_true : (c : Bool) → (c && true) ≡ c
        and_true true = refl
        and_true false = refl

        shows : holder_in is_lagging task' (s.lock t.other) t.other ≡ is_lagging (rung u.phase)
        shows =
            ap (λ l. holder_in is_lagging task' l t.other) lock_x ∙ ap (λ y. other_in is_lagging y t.other) (at_with_same s.task me (Some u))
            ∙ ap (λ c. is_lagging (rung u.phase) && c) (eq-eqb u.other t.other same_other) ∙ and_true (is_lagging (rung u.phase))

    backs_other : (p : ℕ) → chained s p ≡ true → (p ≡ high → ⊥) → (t.other ≡ p → ⊥)
        → prev' (s.next p) ≡ cond (holder_in is_lagging task' (s.lock p) p) (prev' p) p
    backs_other p c h d =
        at_with_other s.prev (s.next t.other) (s.next p) b (λ e. d (next_injective rank laws s inv t.other p x_chained c x_not_high h e))
        ∙ inv.backs p c h
        ∙ go (holder_in is_lagging s.task (s.lock p) p) refl
        ∙ ap (λ y. cond y (prev' p) p) (sym (lag_elsewhere is_lagging u same_other p d))
      where
        go : (y : Bool) → holder_in is_lagging s.task (s.lock p) p ≡ y → cond y (s.prev p) p ≡ cond y (prev' p) p
        go false e = refl
        go true e =
            sym (at_with_other s.prev (s.next t.other) p b (λ same. n_not_lagging (ap (λ q. holder_in is_lagging s.task (s.lock q) q) same ∙ e)))

    prev_kept : (p : ℕ) → chained s p ≡ false → prev' p ≡ s.prev p
    prev_kept p c = at_with_other s.prev (s.next t.other) p b (λ e. never (sym n_chained ∙ ap (chained s) e ∙ c))

    stands_kept : (i : ℕ) (v : Task K) → Sound rank s i v → Stands rank s.spot s.next prev' s.marked s.status v
    stands_kept i v so = let y = so.stands in record {
      at_chained = y.at_chained;
      at_unmarked = y.at_unmarked;
      at_below = y.at_below;
      next_above = y.next_above;
      next_keyed = y.next_keyed;
      joined = y.joined;
      keyed = y.keyed;
      other_marked = y.other_marked;
      spared = y.spared;
      in_hand = y.in_hand;
      in_hand_next = y.in_hand_next;
      in_hand_prev = λ h. prev_kept v.other (ap is_chained (y.in_hand h)) ∙ y.in_hand_prev h;
    }

    sound_all : (i : ℕ) (v : Task K) → task' i ≡ Some v → Sound rank s i v
    sound_all i v =
        at_with_both s.task me i (Some u) (λ y. y ≡ Some v → Sound rank s i v)
        (λ same e. subst (λ j. Sound rank s j v) same (subst (Sound rank s me) (just u v e) sound))
        (λ _ e. record { fit = inv.fit i v e; seen = inv.seen i v e; stands = inv.stands i v e })

    alike : (f : ℕ → Bool) → ((p : ℕ) → other_in f (Some u) p ≡ other_in f (Some t) p) → (l : Option ℕ) (p : ℕ) → holder_in f task' l p ≡ holder_in f s.task l p
    alike f same l p = holder_same s.task me (Some u) f (λ q. same q ∙ ap (λ y. other_in f y q) (sym is_task)) l p

    pub prev_write_keeps : Inv rank (task_put me (Some u) (prev_put (s.next t.other) b s))
    prev_write_keeps = record {
      two = inv.two;
      beyond = inv.beyond;
      guide_size = inv.guide_size;
      low_spot = inv.low_spot;
      high_spot = inv.high_spot;
      low_chained = inv.low_chained;
      high_chained = inv.high_chained;
      low_unmarked = inv.low_unmarked;
      high_unmarked = inv.high_unmarked;
      leads = inv.leads;
      rises = inv.rises;
      gap = inv.gap;
      apart = inv.apart;
      follows = inv.follows;
      backs = λ p c h. elim (cases_eq t.other p) [
        | inl e ↦ subst (λ q. prev' (s.next q) ≡ cond (holder_in is_lagging task' (s.lock q) q) (prev' q) q) e backs_x
        | inr d ↦ backs_other p c h d
      ];
      locks = λ i p. inv.locks i p
          ∙ sym (at_with_both s.task me i (Some u) (λ y. holds y p ≡ holds (s.task i) p) (λ e. holding p ∙ ap (λ y. holds y p) (sym is_task) ∙ ap (λ j. holds (s.task j) p) e) (λ _. refl));
      fit = λ i v e. (sound_all i v e).fit;
      seen = λ i v e. (sound_all i v e).seen;
      stands = λ i v e. stands_kept i v (sound_all i v e);
      marks = λ p c m. let has = inv.marks p c m in (has.0, other_alike rank s inv me t is_task is_striking u striking has.0 p ∙ has.1);
      hands = λ p h. let has = inv.hands p h in (has.0, other_alike rank s inv me t is_task is_handing u handing has.0 p ∙ has.1);
      hands_apart = λ i j p y z. inv.hands_apart i j p (sym (other_alike rank s inv me t is_task is_handing u handing i p) ∙ y) (sym (other_alike rank s inv me t is_task is_handing u handing j p) ∙ z);
      rests = inv.rests;
      awaits = λ p w r i h. awaited_with rank s inv me t is_task u aw i (inv.awaits p w r i h);
      next_seen = inv.next_seen;
      prev_seen = λ p w r i h. ap (seen_by s i) (prev_kept p (ap is_chained r)) ∙ inv.prev_seen p w r i h;
      guide_rises = inv.guide_rises;
      guide_shows = λ p. inv.guide_shows p
          ∙ ap (λ y. (is_chained (s.status p) && not y) || holder_in is_detaching s.task (s.lock p) p) (sym (alike is_hiding hiding (s.lock p) p))
          ∙ ap (λ y. (is_chained (s.status p) && not (holder_in is_hiding task' (s.lock p) p)) || y) (sym (alike is_detaching detaching (s.lock p) p));
    }
