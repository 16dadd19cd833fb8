-- A put or a strike changes the keys at just one of its steps, and every other work at none. Assumes the laws of the order, and
-- the invariant of every book of a run.
use Rattle.std.proofs.Common.{◌≡◌, ℕ, ◌+◌, Bool, true, false, cond, not, ◌&&◌, ◌⊎◌, List, [], ◌∷◌, is_some, Some, Ordering, sym, refl, ap, ◌∙◌, subst, inl, inr, true≢false, arith}
use Rattle.std.proofs.lemmas.Bool.{and_parts}
use Rattle.std.specs.Ordering.{is_eq}
use Rattle.records.specs.declared.answer.Stepped.{Stepped}
use Rattle.records.specs.declared.outcome.Outcome.TheVariants.{Goes, Waits}
use Rattle.records.specs.declared.record.Phase.{Phase}
use Rattle.records.specs.declared.record.Phase.TheVariants.{Enter, Down, Check, Back, On, Seek, Lock, Valid, Take, Link, LinkBack, Attach, ReleaseNew, PutEnd, TakeVictim, Mark, UnlinkBack, Unlink, Detach, ReleaseVictim, StrikeEnd, First, FirstNext}
use Rattle.records.specs.declared.record.Task.{Task}
use Rattle.promises.specs.Books.{Book, keys, work_at}
use Rattle.promises.specs.Truths.{Holds, Adds}
use Rattle.promises.specs.Runs.{Call, Reply, Run, opened, next, same_keys, for_work, works_in, changes_now, changed_times}
use Rattle.promises.proofs.Small.{equal_only, itself}
use Rattle.promises.proofs.Laws.{Laws}
use Rattle.promises.proofs.Sights.{sight_of}
use Rattle.promises.proofs.Accepted.{Made}
use Rattle.promises.proofs.Invariant.{Inv}
use Rattle.promises.proofs.Owned.{SameKept, KeepsMore, Effect, link_adds, mark_takes}
use Rattle.promises.proofs.OwnKeys.{more_then_same, fewer_then_same, settling_same, step_effect, same_contents, more_contents}
use Rattle.promises.proofs.Passes.{retired_in_hand}
use Rattle.promises.proofs.Hindsight.{none_works_opened}
use Rattle.promises.proofs.Works.{Comes, call_comes, none_not_some}
use Rattle.engine.specs.Settling.{with_await}
use Rattle.promises.proofs.Doing.{done_of, is_linking, begins_undone, goes_alike, at_link, at_mark}

-- The phases that change the keys are two.
which : (p : Phase) → is_linking p ≡ true → (p ≡ Link) ⊎ (p ≡ Mark)
which Enter h = absurd (true≢false (sym h))
which Down h = absurd (true≢false (sym h))
which Check h = absurd (true≢false (sym h))
which Back h = absurd (true≢false (sym h))
which On h = absurd (true≢false (sym h))
which Seek h = absurd (true≢false (sym h))
which Lock h = absurd (true≢false (sym h))
which Valid h = absurd (true≢false (sym h))
which Take h = absurd (true≢false (sym h))
which Link h = inl refl
which LinkBack h = absurd (true≢false (sym h))
which Attach h = absurd (true≢false (sym h))
which ReleaseNew h = absurd (true≢false (sym h))
which PutEnd h = absurd (true≢false (sym h))
which TakeVictim h = absurd (true≢false (sym h))
which Mark h = inr refl
which UnlinkBack h = absurd (true≢false (sym h))
which Unlink h = absurd (true≢false (sym h))
which Detach h = absurd (true≢false (sym h))
which ReleaseVictim h = absurd (true≢false (sym h))
which StrikeEnd h = absurd (true≢false (sym h))
which First h = absurd (true≢false (sym h))
which FirstNext h = absurd (true≢false (sym h))

module _ {K : Type 0} (rank : K → K → Ordering) (laws : Laws rank) where
  -- ---- lists of the same keys

  pub same_as_itself : (xs : List K) → same_keys rank xs xs ≡ true
  same_as_itself [] = refl
  same_as_itself (x ∷ xs) = ap (λ o. is_eq o && same_keys rank xs xs) (itself (rank x x) (laws.swaps x x)) ∙ same_as_itself xs

  same_is_equal : (xs ys : List K) → same_keys rank xs ys ≡ true → xs ≡ ys
  same_is_equal [] [] h = refl
  same_is_equal [] (y ∷ ys) h = cc
  same_is_equal (x ∷ xs) [] h = cc
  same_is_equal (x ∷ xs) (y ∷ ys) h =
      let both = and_parts (is_eq (rank x y)) (same_keys rank xs ys) h in
      ap (λ z. z ∷ xs) (laws.same x y (equal_only (rank x y) both.0)) ∙ ap (◌∷◌ y) (same_is_equal xs ys both.1)

  -- Keys that differ in one are not the same.
  pub more_differs : (k : K) (xs ys : List K) → Adds k xs ys → (same_keys rank xs ys ≡ false) × (same_keys rank ys xs ≡ false)
  more_differs k xs ys more = (by (same_keys rank xs ys) refl, by_back (same_keys rank ys xs) refl)
    where
      by : (b : Bool) → same_keys rank xs ys ≡ b → b ≡ false
      by true e = absurd (more.absent (subst (Holds k) (sym (same_is_equal xs ys e)) more.present))
      by false e = refl

      by_back : (b : Bool) → same_keys rank ys xs ≡ b → b ≡ false
      by_back true e = absurd (more.absent (subst (Holds k) (same_is_equal ys xs e) more.present))
      by_back false e = refl

  -- ---- what one step adds to the count

  module _ (b : Book K) (i : Inv rank (sight_of b)) (b' : Book K) (i' : Inv rank (sight_of b')) (j : ℕ) (x : Stepped K) (made : Made rank (sight_of b) j x (sight_of b')) where
    stays : is_linking made.task.phase ≡ false → same_keys rank (keys b) (keys b') ≡ true
    stays still = by (step_effect rank laws (sight_of b) i j x (sight_of b') made)
      where
        by : Effect made.task (sight_of b) (sight_of b') → same_keys rank (keys b) (keys b') ≡ true
        by (Effect.none same) = ap (same_keys rank (keys b)) (same_contents rank laws b.places b.stations b.guide i b'.places b'.stations b'.guide i' same) ∙ same_as_itself (keys b)
        by (Effect.adds ph more) = absurd (true≢false (sym (ap is_linking ph) ∙ still))
        by (Effect.takes ph more) = absurd (true≢false (sym (ap is_linking ph) ∙ still))

    after_rule : SameKept made.mid (sight_of b')
    after_rule = settling_same j made.mid (sight_of b') made.task made.outcome x made.settling (retired_in_hand rank (sight_of b) i j x (sight_of b') made)

    link_changes : made.task.phase ≡ Link → same_keys rank (keys b) (keys b') ≡ false
    link_changes ph =
        let linked = (at_link made.way ph).1 in
        let more = subst (KeepsMore made.task.key (sight_of b)) (sym linked) (link_adds rank laws (sight_of b) i j made.task made.under_way ph) in
        (more_differs made.task.key (keys b) (keys b')
        (more_contents rank laws b.places b.stations b.guide i b'.places b'.stations b'.guide i' made.task.key (more_then_same made.task.key more after_rule))).0

    mark_changes : made.task.phase ≡ Mark → same_keys rank (keys b) (keys b') ≡ false
    mark_changes ph =
        let marked = (at_mark made.way ph).1 in
        let fewer = subst (λ m. KeepsMore made.task.key m (sight_of b)) (sym marked) (mark_takes rank laws (sight_of b) i j made.task made.under_way ph) in
        (more_differs made.task.key (keys b') (keys b)
        (more_contents rank laws b'.places b'.stations b'.guide i' b.places b.stations b.guide i made.task.key (fewer_then_same made.task.key fewer after_rule))).1

    -- A step after which the work goes on: the count is told by the new phase.
    pub step_counts : (u : Task K) → (made.outcome ≡ Goes u) ⊎ ((made.outcome ≡ Waits) × (u ≡ made.task))
        → done_of made.task.phase + cond (not (same_keys rank (keys b) (keys b'))) 1 0 ≡ done_of u.phase
    step_counts u goes = by (is_linking made.task.phase) refl goes
      where
        plus_none : (n m : ℕ) (same : Bool) → same ≡ true → n ≡ m → n + cond (not same) 1 0 ≡ m
        plus_none n m same e h = ap (λ z. n + cond (not z) 1 0) e ∙ (let z : n + 0 ≡ m = omega arith in z)

        plus_one : (n : ℕ) (same : Bool) → same ≡ false → n ≡ 0 → n + cond (not same) 1 0 ≡ 1
        plus_one n same e h = ap (λ z. n + cond (not z) 1 0) e ∙ (let z : n + 1 ≡ 1 = omega arith in z)

        goes_same : {v : Task K} → made.outcome ≡ Goes v → made.outcome ≡ Goes u → u ≡ v
        goes_same e h = cc

        linking : (p : Phase) → made.task.phase ≡ p → is_linking p ≡ true → (p ≡ Link) ⊎ (p ≡ Mark)
        linking p e h = which p h

        by_link : (made.task.phase ≡ Link) ⊎ (made.task.phase ≡ Mark) → made.outcome ≡ Goes u → done_of made.task.phase + cond (not (same_keys rank (keys b) (keys b'))) 1 0 ≡ done_of u.phase
        by_link (inl ph) g = plus_one _ _ (link_changes ph) (ap done_of ph) ∙ sym (ap (λ v. done_of v.phase) (goes_same (at_link made.way ph).0 g))
        by_link (inr ph) g = plus_one _ _ (mark_changes ph) (ap done_of ph) ∙ sym (ap (λ v. done_of v.phase) (goes_same (at_mark made.way ph).0 g))

        no_wait : {P : Type 0} (v : Task K) → made.outcome ≡ Goes v → made.outcome ≡ Waits → P
        no_wait v e h = let z : ◌≡◌ {A = ℕ} 0 1 = cc in absurd (omega arith)

        by : (l : Bool) → is_linking made.task.phase ≡ l → (made.outcome ≡ Goes u) ⊎ ((made.outcome ≡ Waits) × (u ≡ made.task))
            → done_of made.task.phase + cond (not (same_keys rank (keys b) (keys b'))) 1 0 ≡ done_of u.phase
        by false still (inl g) = plus_none _ _ _ (stays still) (sym (goes_alike made.way still u g))
        by false still (inr w) = plus_none _ _ _ (stays still) (ap (λ v. done_of v.phase) (sym w.1))
        by true l (inl g) = by_link (linking made.task.phase refl l) g
        by true l (inr w) = by_wait (linking made.task.phase refl l)
          where
            by_wait : (made.task.phase ≡ Link) ⊎ (made.task.phase ≡ Mark) → done_of made.task.phase + cond (not (same_keys rank (keys b) (keys b'))) 1 0 ≡ done_of u.phase
            by_wait (inl ph) = no_wait _ (at_link made.way ph).0 w.0
            by_wait (inr ph) = no_wait _ (at_mark made.way ph).0 w.0

    -- A step that ends the work elsewhere than at LINK or MARK adds nothing.
    pub end_counts : is_linking made.task.phase ≡ false → ◌≡◌ {A = ℕ} (cond (not (same_keys rank (keys b) (keys b'))) 1 0) 0
    end_counts still = ap (λ z. cond (not z) 1 0) (stays still)

  -- ---- the count over a run

  module _ (inv : (b : Book K) → Run rank b → Inv rank (sight_of b)) where
    count_by : (b : Book K) → Inv rank (sight_of b) → (c : Call K) (a : Reply K) (b' : Book K) → Inv rank (sight_of b') → (i : ℕ) (t : Task K) (g : ℕ) → work_at b' i ≡ Some t
        → ((u : Task K) → work_at b i ≡ Some u → g ≡ done_of u.phase) → Comes rank b c a b' i t
        → for_work rank (works_in rank b i) (works_in rank b' i) 0 0 (g + changes_now rank i b c a b') ≡ done_of t.phase
    count_by b v c a b' v' i t g is before (Comes.is_begun rested work key e) =
        ap (λ x. for_work rank x (works_in rank b' i) 0 0 (g + changes_now rank i b c a b')) (ap is_some rested) ∙ ap (λ x. cond x 0 0) (ap is_some is)
        ∙ sym (ap (λ u. done_of u.phase) e ∙ begins_undone work)
    count_by b v c a b' v' i t g is before (Comes.stood u was own alike) =
        ap (λ x. for_work rank x (works_in rank b' i) 0 0 (g + changes_now rank i b c a b')) (ap is_some was)
        ∙ ap (λ x. for_work rank true x 0 0 (g + changes_now rank i b c a b')) (ap is_some is)
        ∙ ap (λ x. g + cond (x && not (same_keys rank (keys b) (keys b'))) 1 0) own ∙ none g ∙ before u was ∙ same alike
      where
        none : (n : ℕ) → n + 0 ≡ n
        none n = omega arith

        same : (t ≡ u) ⊎ (t ≡ with_await u) → done_of u.phase ≡ done_of t.phase
        same (inl e) = ap (λ w. done_of w.phase) (sym e)
        same (inr e) = ap (λ w. done_of w.phase) (sym e)
    count_by b v c a b' v' i t g is before (Comes.went x made own u goes e) =
        ap (λ y. for_work rank y (works_in rank b' i) 0 0 (g + changes_now rank i b c a b')) (ap is_some made.under_way)
        ∙ ap (λ y. for_work rank true y 0 0 (g + changes_now rank i b c a b')) (ap is_some is)
        ∙ ap (λ y. g + cond (y && not (same_keys rank (keys b) (keys b'))) 1 0) own
        ∙ ap (λ n. n + cond (not (same_keys rank (keys b) (keys b'))) 1 0) (before made.task made.under_way)
        ∙ step_counts b v b' v' i x made u goes ∙ sym (ap (λ w. done_of w.phase) e)

    pub changed_known : {b : Book K} (r : Run rank b) (i : ℕ) (t : Task K) → work_at b i ≡ Some t → changed_times rank r i ≡ done_of t.phase
    unfolding changed_times
    changed_known (opened most ps ss o e) i t is = none_not_some (none_works_opened most ps ss o e i) is
    changed_known (next {b} c a b' r d) i t is =
        count_by b (inv b r) c a b' (inv b' (next c a b' r d)) i t (changed_times rank r i) is (λ u was. changed_known r i u was) (call_comes rank b c a b' i t is d)
