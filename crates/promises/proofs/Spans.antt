-- The books of a work's span: each is the end of a run, and what a reading work knows of the place on which it stands holds
-- of every run. Assumes the invariant of every book of a run, and that the predecessor of a place of the chain is on it.
use Rattle.std.proofs.Common.{◌≡◌, ℕ, Bool, true, false, ◌⊎◌, List, [], ◌∷◌, is_some, Some, Ordering, sym, ap, ◌∙◌, subst, inl, inr}
use Rattle.guides.specs.Meaning.{low}
use Rattle.records.specs.declared.outcome.Outcome.TheVariants.{Goes, Waits}
use Rattle.records.specs.declared.record.Task.{Task}
use Rattle.engine.specs.Settling.{with_await}
use Rattle.promises.specs.Books.{Book, work_at}
use Rattle.promises.specs.Runs.{Call, Reply, Does, Run, opened, next, works_in, for_work, since}
use Rattle.promises.proofs.Small.{fits_first}
use Rattle.promises.proofs.Laws.{Laws}
use Rattle.promises.proofs.Sights.{sight_of}
use Rattle.promises.proofs.Invariant.{Inv, chained, fits, group}
use Rattle.promises.proofs.Hindsight.{Among, now_among, hindsight, none_works_opened}
use Rattle.promises.proofs.Works.{Comes, call_comes, none_not_some}
use Rattle.promises.proofs.Walked.{Walked, walks, walked_first, more_walked}

-- Only a first comes to FIRST.

module _ {K : Type 0} (rank : K → K → Ordering) where
  pub since_more : {b : Book K} (c : Call K) (a : Reply K) (b' : Book K) (r : Run rank b) (d : Does rank b c a b') (i : ℕ) → works_in rank b i ≡ true → works_in rank b' i ≡ true
      → since rank (next c a b' r d) i ≡ b' ∷ since rank r i
  unfolding since
  since_more {b} c a b' r d i h h' =
      ap (λ x. for_work rank x (works_in rank b' i) [] (b' ∷ []) (b' ∷ since rank r i)) h ∙ ap (λ y. for_work rank true y [] (b' ∷ []) (b' ∷ since rank r i)) h'

  runs_by : (b' : Book K) (bs : List (Book K)) (τ : Book K) → Run rank b' → (Among τ bs → Run rank τ) → (x y : Bool) → Among τ (for_work rank x y [] (b' ∷ []) (b' ∷ bs)) → Run rank τ
  runs_by b' bs τ now before true true (inl e) = subst (Run rank) e now
  runs_by b' bs τ now before true true (inr m) = before m
  runs_by b' bs τ now before false true (inl e) = subst (Run rank) e now
  runs_by b' bs τ now before false true (inr m) = absurd m
  runs_by b' bs τ now before x false m = absurd m

  -- A run came to each book of a work's span.
  pub since_runs : {b : Book K} (r : Run rank b) (i : ℕ) (τ : Book K) → Among τ (since rank r i) → Run rank τ
  unfolding since
  since_runs (opened most ps ss o e) i τ m = absurd m
  since_runs (next {b} c a b' r d) i τ m = runs_by b' (since rank r i) τ (next c a b' r d) (since_runs r i τ) (works_in rank b i) (works_in rank b' i) m

  module _ (laws : Laws rank) (inv : (b : Book K) → Run rank b → Inv rank (sight_of b))
      (prevs : (b : Book K) → Run rank b → (p : ℕ) → chained (sight_of b) p ≡ true → (p ≡ low → ⊥) → chained (sight_of b) ((sight_of b).prev p) ≡ true) where
    abbrev Walks : List (Book K) → Task K → Type 0
    Walks bs u = Walked rank bs u.phase u.work u.key u.at

    walked_by : {b : Book K} (c : Call K) (a : Reply K) (b' : Book K) (r : Run rank b) (d : Does rank b c a b') (i : ℕ) (t : Task K) → work_at b' i ≡ Some t
        → ((u : Task K) → work_at b i ≡ Some u → Walks (since rank r i) u) → Comes rank b c a b' i t → Walks (since rank (next c a b' r d) i) t
    walked_by c a b' r d i t is before (Comes.is_begun rested work key e) =
        subst (Walks (since rank (next c a b' r d) i)) (sym e) (walked_first rank (since rank (next c a b' r d) i) work work key low)
    walked_by {b} c a b' r d i t is before (Comes.stood u was own alike) =
        subst (λ bs. Walks bs t) (sym (since_more c a b' r d i (ap is_some was) (ap is_some is)))
        (more_walked rank b' (since rank r i) t.phase t.work t.key t.at (same alike))
      where
        same : (t ≡ u) ⊎ (t ≡ with_await u) → Walks (since rank r i) t
        same (inl e) = subst (Walks (since rank r i)) (sym e) (before u was)
        same (inr e) = subst (Walks (since rank r i)) (sym e) (before u was)
    walked_by {b} c a b' r d i t is before (Comes.went x made own u goes e) =
        subst (λ bs. Walks bs t) (sym (since_more c a b' r d i works (ap is_some is)))
        (more_walked rank b' bs t.phase t.work t.key t.at (subst (Walks bs) (sym e) (by goes)))
      where
        bs : List (Book K)
        bs = since rank r i

        works : works_in rank b i ≡ true
        works = ap is_some made.under_way

        by : (made.outcome ≡ Goes u) ⊎ ((made.outcome ≡ Waits) × (u ≡ made.task)) → Walks (since rank r i) u
        by (inl oc) =
            walks rank laws i b (since rank r i) (now_among rank r i works) (λ σ m. inv σ (since_runs r i σ m)) (λ σ m p on. hindsight rank inv r i works σ p on m)
            (λ σ m. prevs σ (since_runs r i σ m)) made.task ((inv b r).seen i made.task made.under_way) (before made.task made.under_way)
            (λ f. fits_first made.task.work (ap (λ g. fits made.task.work (group g)) (sym f) ∙ (inv b r).fit i made.task made.under_way))
            made.way u oc
        by (inr stays) = subst (Walks (since rank r i)) (sym stays.1) (before made.task made.under_way)

    -- What the work t under way at station i knows.
    pub walked : {b : Book K} (r : Run rank b) (i : ℕ) (t : Task K) → work_at b i ≡ Some t → Walked rank (since rank r i) t.phase t.work t.key t.at
    walked (opened most ps ss o e) i t is = none_not_some (none_works_opened most ps ss o e i) is
    walked (next {b} c a b' r d) i t is = walked_by c a b' r d i t is (λ u was. walked r i u was) (call_comes rank b c a b' i t is d)
