-- That the rules which take or release a lock, or only go on holding one, keep the invariant. Assumes the laws.
use Rattle.std.proofs.Common.{◌≡◌, ℕ, Bool, true, false, cond, not, ◌&&◌, ◌||◌, eqb, ◌⊎◌, Some, None, Option, Ordering, sym, refl, ap, ◌∙◌, subst, inl, inr}
use Rattle.std.proofs.lemmas.Bool.{eq-eqb, ne_eqb, or_right, and_right}
use Rattle.records.specs.declared.record.Task.{Task}
use Rattle.engine.specs.Calling.{locked_by}
use Rattle.promises.specs.Promised.{is_chained}
use Rattle.promises.proofs.Sights.{Sight, at_with, task_put, lock_put}
use Rattle.promises.proofs.Invariant.{rung, is_lagging, is_hiding, is_detaching, is_striking, is_handing, holds, other_in, is_awaited, holder_in, Inv}
use Rattle.promises.proofs.Retasks.{at_with_both, other_in_same, Sound}

-- A sight with other locks and tasks.
abbrev pub relocked : {K : Type 0} → Sight K → (ℕ → Option ℕ) → (ℕ → Option (Task K)) → Sight K
relocked s lock task = record { size = s.size; spot = s.spot; next = s.next; prev = s.prev; marked = s.marked; lock = lock; status = s.status; task = task; guide = s.guide }

module _ {K : Type 0} (rank : K → K → Ordering) (s : Sight K) (lock : ℕ → Option ℕ) (task : ℕ → Option (Task K)) where
  pub relock : Inv rank s
      → ((i p : ℕ) → locked_by i (lock p) ≡ holds (task i) p)
      → ((p : ℕ) → holder_in is_lagging task (lock p) p ≡ holder_in is_lagging s.task (s.lock p) p)
      → ((p : ℕ) → holder_in is_hiding task (lock p) p ≡ holder_in is_hiding s.task (s.lock p) p)
      → ((p : ℕ) → holder_in is_detaching task (lock p) p ≡ holder_in is_detaching s.task (s.lock p) p)
      → ((i p : ℕ) → other_in is_striking (task i) p ≡ other_in is_striking (s.task i) p)
      → ((i p : ℕ) → other_in is_handing (task i) p ≡ other_in is_handing (s.task i) p)
      → ((i : ℕ) → is_awaited (s.task i) ≡ true → is_awaited (task i) ≡ true)
      → ((i : ℕ) (t : Task K) → task i ≡ Some t → Sound rank s i t)
      → Inv rank (relocked s lock task)
  relock inv locks lagging hiding detaching striking handing awaited sound = record {
    two = inv.two;
    beyond = inv.beyond;
    guide_size = inv.guide_size;
    low_spot = inv.low_spot;
    high_spot = inv.high_spot;
    low_chained = inv.low_chained;
    high_chained = inv.high_chained;
    low_unmarked = inv.low_unmarked;
    high_unmarked = inv.high_unmarked;
    leads = inv.leads;
    rises = inv.rises;
    gap = inv.gap;
    apart = inv.apart;
    follows = inv.follows;
    backs = λ p c h. inv.backs p c h ∙ ap (λ x. cond x (s.prev p) p) (sym (lagging p));
    locks = locks;
    fit = λ i t e. (sound i t e).fit;
    seen = λ i t e. (sound i t e).seen;
    stands = λ i t e. (sound i t e).stands;
    marks = λ p c m. let has = inv.marks p c m in (has.0, striking has.0 p ∙ has.1);
    hands = λ p h. let has = inv.hands p h in (has.0, handing has.0 p ∙ has.1);
    hands_apart = λ i j p x y. inv.hands_apart i j p (sym (handing i p) ∙ x) (sym (handing j p) ∙ y);
    rests = inv.rests;
    awaits = λ p w r i h. awaited i (inv.awaits p w r i h);
    next_seen = inv.next_seen;
    prev_seen = inv.prev_seen;
    guide_rises = inv.guide_rises;
    guide_shows = λ p. inv.guide_shows p
        ∙ ap (λ x. (is_chained (s.status p) && not x) || holder_in is_detaching s.task (s.lock p) p) (sym (hiding p))
        ∙ ap (λ x. (is_chained (s.status p) && not (holder_in is_hiding task (lock p) p)) || x) (sym (detaching p));
  }

pub just : {A : Type 0} (u v : A) → ◌≡◌ {A = Option A} (Some u) (Some v) → u ≡ v
just u v e = cc

module _ {K : Type 0} (rank : K → K → Ordering) (s : Sight K) (inv : Inv rank s) (me : ℕ) (t : Task K) (is_task : s.task me ≡ Some t) where
  -- The works of the others, and a new one here.
  pub sound_with : (u : Task K) → Sound rank s me u → (i : ℕ) (v : Task K) → at_with s.task me (Some u) i ≡ Some v → Sound rank s i v
  sound_with u sound i v =
      at_with_both s.task me i (Some u) (λ x. x ≡ Some v → Sound rank s i v)
      (λ same e. subst (λ j. Sound rank s j v) same (subst (Sound rank s me) (just u v e) sound))
      (λ _ e. record { fit = inv.fit i v e; seen = inv.seen i v e; stands = inv.stands i v e })

  pub awaited_with : (u : Task K) → u.awaited ≡ t.awaited → (i : ℕ) → is_awaited (s.task i) ≡ true → is_awaited (at_with s.task me (Some u) i) ≡ true
  awaited_with u same i h =
      at_with_both s.task me i (Some u) (λ x. is_awaited x ≡ true)
      (λ e. same ∙ sym (ap is_awaited is_task) ∙ ap (λ j. is_awaited (s.task j)) e ∙ h) (λ _. h)

  -- The other place is alike for a rung test that neither task passes.
  pub other_alike : (f : ℕ → Bool) (u : Task K) → ((p : ℕ) → other_in f (Some u) p ≡ other_in f (Some t) p)
      → (i p : ℕ) → other_in f (at_with s.task me (Some u) i) p ≡ other_in f (s.task i) p
  other_alike f u same i p = other_in_same s.task me (Some u) f (λ q. same q ∙ ap (λ x. other_in f x q) (sym is_task)) i p

  failing : (f : ℕ → Bool) (u : Task K) → f (rung u.phase) ≡ false → (p : ℕ) → other_in f (Some u) p ≡ false
  failing f u h p = ap (λ b. b && eqb u.other p) h

  pub both_fail : (f : ℕ → Bool) (u : Task K) → f (rung t.phase) ≡ false → f (rung u.phase) ≡ false → (p : ℕ) → other_in f (Some u) p ≡ other_in f (Some t) p
  both_fail f u h k p = failing f u k p ∙ sym (failing f t h p)

  -- A lock that changes hands between nobody and this station, where neither task shows by it.
  holder_alike : (f : ℕ → Bool) (u : Task K) (p : ℕ) (l : Option ℕ) → f (rung t.phase) ≡ false → f (rung u.phase) ≡ false
      → (l ≡ None) ⊎ (l ≡ Some me) → (s.lock p ≡ None) ⊎ (s.lock p ≡ Some me)
      → (q : ℕ) → holder_in f (at_with s.task me (Some u)) (at_with s.lock p l q) q ≡ holder_in f s.task (s.lock q) q
  holder_alike f u p l h k now was q =
      at_with_both s.lock p q l (λ x. holder_in f (at_with s.task me (Some u)) x q ≡ holder_in f s.task (s.lock q) q)
      (λ same. new now ∙ sym (ap (λ r. holder_in f s.task (s.lock r) q) (sym same) ∙ old was)) (λ _. other (s.lock q))
    where
      other : (x : Option ℕ) → holder_in f (at_with s.task me (Some u)) x q ≡ holder_in f s.task x q
      other None = refl
      other (Some i) = other_alike f u (both_fail f u h k) i q

      new : (l ≡ None) ⊎ (l ≡ Some me) → holder_in f (at_with s.task me (Some u)) l q ≡ false
      new (inl e) = ap (λ x. holder_in f (at_with s.task me (Some u)) x q) e
      new (inr e) =
          ap (λ x. holder_in f (at_with s.task me (Some u)) x q) e
          ∙ at_with_both s.task me me (Some u) (λ x. other_in f x q ≡ false) (λ _. failing f u k q) (λ d. absurd (d refl))

      old : (s.lock p ≡ None) ⊎ (s.lock p ≡ Some me) → holder_in f s.task (s.lock p) q ≡ false
      old (inl e) = ap (λ x. holder_in f s.task x q) e
      old (inr e) = ap (λ x. holder_in f s.task x q) e ∙ ap (λ x. other_in f x q) is_task ∙ failing f t h q

  -- A rung that shows nothing by a lock.
  abbrev Plain : ℕ → Type 0
  Plain r = (is_lagging r ≡ false) × (is_hiding r ≡ false) × (is_detaching r ≡ false)

  module _ (u : Task K) (p : ℕ) (l : Option ℕ) (sound : Sound rank s me u) (aw : u.awaited ≡ t.awaited) (before_plain : Plain (rung t.phase)) (after_plain : Plain (rung u.phase))
      (striking : (q : ℕ) → other_in is_striking (Some u) q ≡ other_in is_striking (Some t) q) (handing : (q : ℕ) → other_in is_handing (Some u) q ≡ other_in is_handing (Some t) q) where
    relocks : (l ≡ None) ⊎ (l ≡ Some me) → (s.lock p ≡ None) ⊎ (s.lock p ≡ Some me)
        → ((i q : ℕ) → locked_by i (at_with s.lock p l q) ≡ holds (at_with s.task me (Some u) i) q)
        → Inv rank (task_put me (Some u) (lock_put p l s))
    relocks now was locks =
        relock rank s (at_with s.lock p l) (at_with s.task me (Some u)) inv locks
        (holder_alike is_lagging u p l before_plain.0 after_plain.0 now was)
        (holder_alike is_hiding u p l before_plain.1 after_plain.1 now was)
        (holder_alike is_detaching u p l before_plain.2 after_plain.2 now was)
        (other_alike is_striking u striking) (other_alike is_handing u handing) (awaited_with u aw) (sound_with u sound)

    locked_none : (i : ℕ) (x : Option ℕ) → x ≡ None → locked_by i x ≡ false
    locked_none i x e = ap (locked_by i) e

    -- A lock is taken.
    pub lock_is_taken : s.lock p ≡ None → l ≡ Some me → ((q : ℕ) → holds (Some u) q ≡ (holds (Some t) q || eqb p q)) → Inv rank (task_put me (Some u) (lock_put p l s))
    lock_is_taken was now holding = relocks (inr now) (inl was) (λ i q. go i q)
      where
        go : (i q : ℕ) → locked_by i (at_with s.lock p l q) ≡ holds (at_with s.task me (Some u) i) q
        go i q =
            let old = inv.locks i q in
            let mine = inv.locks me q in
            let mine_is = ap (λ x. holds x q) is_task in
            let held = holding q in
            let here = ap (locked_by i) now in
            let none = λ (e : p ≡ q). locked_none i (s.lock q) (ap s.lock (sym e) ∙ was) in
            at_with_both s.task me i (Some u) (λ x. locked_by i (at_with s.lock p l q) ≡ holds x q)
            (λ same. at_with_both s.lock p q l (λ x. locked_by i x ≡ holds (Some u) q)
            (λ e. here ∙ eq-eqb me i same ∙ sym (held ∙ or_right (holds (Some t) q) (eqb p q) (eq-eqb p q e)))
            (λ d. old ∙ ap (λ j. holds (s.task j) q) (sym same) ∙ mine_is ∙ sym (held ∙ ap (λ b. holds (Some t) q || b) (ne_eqb p q d) ∙ or_false (holds (Some t) q))))
            (λ d. at_with_both s.lock p q l (λ x. locked_by i x ≡ holds (s.task i) q)
            (λ e. here ∙ ne_eqb me i d ∙ sym (sym old ∙ none e)) (λ _. old))
          where
            or_false : (b : Bool) → (b || false) ≡ b
            or_false true = refl
            or_false false = refl

    -- A lock is released.
    pub lock_is_released : s.lock p ≡ Some me → l ≡ None → ((q : ℕ) → holds (Some u) q ≡ (holds (Some t) q && not (eqb p q))) → Inv rank (task_put me (Some u) (lock_put p l s))
    lock_is_released was now holding = relocks (inl now) (inr was) (λ i q. go i q)
      where
        go : (i q : ℕ) → locked_by i (at_with s.lock p l q) ≡ holds (at_with s.task me (Some u) i) q
        go i q =
            let old = inv.locks i q in
            let mine_is = ap (λ x. holds x q) is_task in
            let held = holding q in
            let here = ap (locked_by i) now in
            at_with_both s.task me i (Some u) (λ x. locked_by i (at_with s.lock p l q) ≡ holds x q)
            (λ same. at_with_both s.lock p q l (λ x. locked_by i x ≡ holds (Some u) q)
            (λ e. here ∙ sym (held ∙ and_right (holds (Some t) q) (not (eqb p q)) (ap not (eq-eqb p q e))))
            (λ d. old ∙ ap (λ j. holds (s.task j) q) (sym same) ∙ mine_is ∙ sym (held ∙ ap (λ b. holds (Some t) q && not b) (ne_eqb p q d) ∙ and_true (holds (Some t) q))))
            (λ d. at_with_both s.lock p q l (λ x. locked_by i x ≡ holds (s.task i) q)
            (λ e. here ∙ sym (sym old ∙ ap (λ r. locked_by i (s.lock r)) (sym e) ∙ ap (locked_by i) was ∙ ne_eqb me i d)) (λ _. old))
          where
            and_true : (b : Bool) → (b && true) ≡ b
            and_true true = refl
            and_true false = refl
