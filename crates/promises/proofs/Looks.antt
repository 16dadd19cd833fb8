-- That a look never waits and ends in time. Assumes the laws of the order, the invariant of every book of a run, and that the
-- predecessor of a place of the chain is on the chain and lies below it.
use Rattle.std.proofs.Common.{◌≡◌, ℕ, ◌+◌, ◌*◌, ◌<◌, Bool, true, false, cond, ◌⊎◌, List, ◌∷◌, length, is_some, Some, Ordering, sym, refl, ap, ◌∙◌, subst, inl, inr, arith}
use Rattle.guides.specs.Meaning.{low}
use Rattle.records.specs.declared.answer.Stepped.{Stepped}
use Rattle.records.specs.declared.outcome.Outcome.TheVariants.{Goes, Waits}
use Rattle.records.specs.declared.record.Phase.TheVariants.{Enter, Back, On}
use Rattle.records.specs.declared.record.Task.{Task}
use Rattle.records.specs.declared.record.Work.{Work}
use Rattle.records.specs.declared.record.Work.TheVariants.{Look}
use Rattle.records.specs.Records.{first_phase}
use Rattle.engine.specs.Settling.{with_await}
use Rattle.promises.specs.Books.{Book, work_at}
use Rattle.promises.specs.Promised.{LooksEnd}
use Rattle.promises.specs.Runs.{Call, Reply, Does, Run, opened, next, works_in, for_work, since, given_steps, is_step_of}
use Rattle.promises.proofs.Small.{fits_first}
use Rattle.promises.proofs.Laws.{Laws, before}
use Rattle.promises.proofs.Sights.{Sight, sight_of}
use Rattle.promises.proofs.Views.{Way}
use Rattle.promises.proofs.Accepted.{Made}
use Rattle.promises.proofs.Invariant.{Inv, chained, fits, group}
use Rattle.promises.proofs.Hindsight.{Among, Struck, Remembers, Passes, call_passes, now_among, hindsight, none_works_opened}
use Rattle.promises.proofs.Works.{Comes, call_comes, none_not_some}
use Rattle.promises.proofs.Walked.{Known, Walked, walks, either_known}
use Rattle.promises.proofs.Spans.{since_more, since_runs, walked}
use Rattle.promises.proofs.Looking.{looks_never_wait, waits_at_a_lock, look_not_there}
use Rattle.promises.proofs.Aims.{step_keeps_aim}
use Rattle.promises.proofs.Paces.{Paced, paced_more, paced_few, paces, known_within}

module _ {K : Type 0} (rank : K → K → Ordering) where
  pub given_more : {b : Book K} (c : Call K) (a : Reply K) (b' : Book K) (r : Run rank b) (d : Does rank b c a b') (i : ℕ) (x : Bool) → works_in rank b i ≡ true → works_in rank b' i ≡ true
      → is_step_of rank i c a ≡ x → given_steps rank r i + cond x 1 0 ≡ given_steps rank (next c a b' r d) i
  unfolding given_steps
  given_more {b} c a b' r d i x h h' e =
      sym (ap (λ y. for_work rank y (works_in rank b' i) 0 0 (given_steps rank r i + cond (is_step_of rank i c a) 1 0)) h
      ∙ ap (λ y. for_work rank true y 0 0 (given_steps rank r i + cond (is_step_of rank i c a) 1 0)) h' ∙ ap (λ y. given_steps rank r i + cond y 1 0) e)

  pub given_begun : {b : Book K} (c : Call K) (a : Reply K) (b' : Book K) (r : Run rank b) (d : Does rank b c a b') (i : ℕ) → works_in rank b i ≡ false → works_in rank b' i ≡ true
      → given_steps rank (next c a b' r d) i ≡ 0
  unfolding given_steps
  given_begun {b} c a b' r d i h h' =
      ap (λ y. for_work rank y (works_in rank b' i) 0 0 (given_steps rank r i + cond (is_step_of rank i c a) 1 0)) h ∙ ap (λ y. cond y 0 0) h'

  -- A place that the work knows has the same key after a call.
  spot_kept : (i : ℕ) (b b' : Book K) (bs : List (Book K)) → Passes i b b' → (x : ℕ) → (chained (sight_of b) x ≡ true) ⊎ Struck i b bs x → (sight_of b').spot x ≡ (sight_of b).spot x
  spot_kept i b b' bs passes x (inl on) = (passes.from_on x on).spot
  spot_kept i b b' bs passes x (inr m) = (passes.from_off x m.off).spot

  module _ (laws : Laws rank) (inv : (b : Book K) → Run rank b → Inv rank (sight_of b))
      (prevs : (b : Book K) → Run rank b → (p : ℕ) → chained (sight_of b) p ≡ true → (p ≡ low → ⊥) → chained (sight_of b) ((sight_of b).prev p) ≡ true)
      (falls : (b : Book K) → Run rank b → (p : ℕ) → chained (sight_of b) p ≡ true → (p ≡ low → ⊥) → before rank ((sight_of b).spot ((sight_of b).prev p)) ((sight_of b).spot p) ≡ true) where
    abbrev Paces : List (Book K) → Book K → ℕ → Task K → Type 0
    Paces bs b g u = Paced rank bs (sight_of b) u.phase u.downs u.at g

    abbrev Walks : List (Book K) → Task K → Type 0
    Walks bs u = Walked rank bs u.phase u.work u.key u.at

    module _ {b : Book K} (r : Run rank b) (i : ℕ) (works : works_in rank b i ≡ true) where
      hind : (σ : Book K) → Among σ (since rank r i) → (p : ℕ) → chained (sight_of σ) p ≡ true → Remembers i b (since rank r i) σ p
      hind σ m p on = hindsight rank inv r i works σ p on m

      known_back : (u : Task K) → Walks (since rank r i) u → u.phase ≡ Back → Known (since rank r i) u.at
      known_back u w e = subst (λ f. Walked rank (since rank r i) f u.work u.key u.at) e w

      known_on : (u : Task K) → Walks (since rank r i) u → u.phase ≡ On → Known (since rank r i) u.at
      known_on u w e =
          either_known rank laws i b (since rank r i) (now_among rank r i works) (λ σ m. inv σ (since_runs rank r i σ m)) hind (λ σ m. prevs σ (since_runs rank r i σ m)) u.work u.key u.at
          (subst (λ f. Walked rank (since rank r i) f u.work u.key u.at) e w)

      spots_kept : (b' : Book K) → Passes i b b' → (x : ℕ) → Known (since rank r i) x → (sight_of b').spot x ≡ (sight_of b).spot x
      spots_kept b' passes x m = spot_kept i b b' (since rank r i) passes x (hind m.book m.among x m.on).fate

      paces_more : (b' : Book K) → Passes i b b' → (u : Task K) → Walks (since rank r i) u → (g : ℕ) → Paces (since rank r i) b g u → Paces (b' ∷ since rank r i) b' g u
      paces_more b' passes u w g p =
          paced_more rank (sight_of b) (sight_of b') b' (since rank r i) (spots_kept b' passes) u.phase u.downs u.at g (known_back u w) (known_on u w) p

      module _ (t : Task K) (is : work_at b i ≡ Some t) where
        walked_here : Walks (since rank r i) t
        walked_here = walked rank laws inv prevs r i t is

        few_steps : Paces (since rank r i) b (given_steps rank r i) t → given_steps rank r i < 66 + 2 * length b.places
        few_steps p =
            let two = (inv b r).two in
            paced_few rank laws (sight_of b) (since rank r i) (length b.places)
            (known_within rank laws i b (since rank r i) (now_among rank r i works) (λ σ m. inv σ (since_runs rank r i σ m)) hind (λ σ m. prevs σ (since_runs rank r i σ m)) (λ σ m. falls σ (since_runs rank r i σ m)))
            (omega arith) t.phase t.downs t.at (given_steps rank r i) (known_back t walked_here) (known_on t walked_here) p

        module _ (looks : t.work ≡ Look) (p : Paces (since rank r i) b (given_steps rank r i) t) where
          fit : fits t.work (group t.phase) ≡ true
          fit = (inv b r).fit i t is

          stepped_paces : {x : Stepped K} {s' : Sight K} (made : Made rank (sight_of b) i x s') → made.task ≡ t → (u : Task K)
              → (made.outcome ≡ Goes u) ⊎ ((made.outcome ≡ Waits) × (u ≡ made.task)) → Walks (since rank r i) u × Paces (since rank r i) b (given_steps rank r i + 1) u
          stepped_paces made same u (inl oc) =
              let way = subst (λ v. Way rank (sight_of b) i v made.outcome made.mid) same made.way in (
                walks rank laws i b (since rank r i) (now_among rank r i works) (λ σ m. inv σ (since_runs rank r i σ m)) hind (λ σ m. prevs σ (since_runs rank r i σ m)) t ((inv b r).seen i t is) walked_here
                    (λ f. fits_first t.work (ap (λ g. fits t.work (group g)) (sym f) ∙ fit)) way u oc,
                paces rank laws i b (since rank r i) (now_among rank r i works) (λ σ m. inv σ (since_runs rank r i σ m)) hind (λ σ m. prevs σ (since_runs rank r i σ m)) (λ σ m. falls σ (since_runs rank r i σ m))
                    t looks fit (given_steps rank r i) (known_back t walked_here) (known_on t walked_here) p way u oc,
              )
          stepped_paces made same u (inr waits) =
              let way = subst (λ v. Way rank (sight_of b) i v made.outcome made.mid) same made.way in
              absurd (look_not_there rank inv t fit looks (waits_at_a_lock way waits.0))

    begun_enters : (work : Work) → work ≡ Look → first_phase work ≡ Enter
    begun_enters work e = ap first_phase e

    paced_by : {b : Book K} (c : Call K) (a : Reply K) (b' : Book K) (r : Run rank b) (d : Does rank b c a b') (i : ℕ) (t : Task K) → work_at b' i ≡ Some t → t.work ≡ Look
        → ((u : Task K) → work_at b i ≡ Some u → u.work ≡ Look → Paces (since rank r i) b (given_steps rank r i) u) → Comes rank b c a b' i t
        → Paces (since rank (next c a b' r d) i) b' (given_steps rank (next c a b' r d) i) t
    paced_by c a b' r d i t is looks before (Comes.is_begun rested work key e) =
        let phase : t.phase ≡ Enter = ap (λ u. u.phase) e ∙ begun_enters work (sym (ap (λ u. u.work) e) ∙ looks) in
        subst (λ f. Paced rank (since rank (next c a b' r d) i) (sight_of b') f t.downs t.at (given_steps rank (next c a b' r d) i)) (sym phase)
        (given_begun c a b' r d i (ap is_some rested) (ap is_some is))
    paced_by {b} c a b' r d i t is looks before (Comes.stood u was own alike) =
        let works = ap is_some was in
        let passes = call_passes rank b c a b' (inv b r) d i works (ap is_some is) in
        subst (λ bs. Paces bs b' (given_steps rank (next c a b' r d) i) t) (sym (since_more rank c a b' r d i works (ap is_some is)))
        (subst (λ g. Paces (b' ∷ since rank r i) b' g t) (plus ∙ given_more c a b' r d i false works (ap is_some is) own) (same alike (paces_more r i works b' passes u (walked rank laws inv prevs r i u was) (given_steps rank r i) (before u was (looks_too alike)))))
      where
        plus : given_steps rank r i ≡ given_steps rank r i + 0
        plus = omega arith

        looks_too : (t ≡ u) ⊎ (t ≡ with_await u) → u.work ≡ Look
        looks_too (inl e) = sym (ap (λ v. v.work) e) ∙ looks
        looks_too (inr e) = sym (ap (λ v. v.work) e) ∙ looks

        same : (t ≡ u) ⊎ (t ≡ with_await u) → Paces (b' ∷ since rank r i) b' (given_steps rank r i) u → Paces (b' ∷ since rank r i) b' (given_steps rank r i) t
        same (inl e) p = subst (Paces (b' ∷ since rank r i) b' (given_steps rank r i)) (sym e) p
        same (inr e) p = subst (Paces (b' ∷ since rank r i) b' (given_steps rank r i)) (sym e) p
    paced_by {b} c a b' r d i t is looks before (Comes.went x made own u goes e) =
        let works = ap is_some made.under_way in
        let passes = call_passes rank b c a b' (inv b r) d i works (ap is_some is) in
        let done = stepped_paces r i works made.task made.under_way (looked goes) (before made.task made.under_way (looked goes)) made refl u goes in
        subst (λ bs. Paces bs b' (given_steps rank (next c a b' r d) i) t) (sym (since_more rank c a b' r d i works (ap is_some is)))
        (subst (λ g. Paces (b' ∷ since rank r i) b' g t) (given_more c a b' r d i true works (ap is_some is) own)
        (subst (Paces (b' ∷ since rank r i) b' (given_steps rank r i + 1)) (sym e) (paces_more r i works b' passes u done.0 (given_steps rank r i + 1) done.1)))
      where
        looked : (made.outcome ≡ Goes u) ⊎ ((made.outcome ≡ Waits) × (u ≡ made.task)) → made.task.work ≡ Look
        looked (inl oc) = sym (step_keeps_aim made.way u oc).work ∙ sym (ap (λ v. v.work) e) ∙ looks
        looked (inr waits) = sym (ap (λ v. v.work) waits.1) ∙ sym (ap (λ v. v.work) e) ∙ looks

    -- How far the look t under way at station i has come.
    paced : {b : Book K} (r : Run rank b) (i : ℕ) (t : Task K) → work_at b i ≡ Some t → t.work ≡ Look → Paces (since rank r i) b (given_steps rank r i) t
    paced (opened most ps ss o e) i t is looks = none_not_some (none_works_opened most ps ss o e i) is
    paced (next {b} c a b' r d) i t is looks = paced_by c a b' r d i t is looks (λ u was l. paced r i u was l) (call_comes rank b c a b' i t is d)

    pub looks_end : LooksEnd rank
    looks_end = record {
      never_wait = looks_never_wait rank inv;
      end_in_time = λ b r i t is looks. few_steps r i (ap is_some is) t is (paced r i t is looks);
    }
