-- That a work which is alone never waits, and how it comes about: what holds at its begin, and is kept by its own steps, holds
-- of it. Assumes the invariant of every book of a run, and the promises.
use Rattle.std.proofs.Common.{◌≡◌, ℕ, ◌+◌, Bool, true, false, cond, not, ◌&&◌, eqb, ◌⊎◌, List, [], ◌∷◌, is_some, Some, None, Ok, Option, Ordering, sym, refl, ap, ◌∙◌, subst, inl, inr, arith}
use Rattle.std.proofs.lemmas.Bool.{true≢false, eq-eqb, cases_eq, and_from}
use Rattle.records.specs.declared.answer.Answer.{Answer}
use Rattle.records.specs.declared.answer.Stepped.{Stepped}
use Rattle.records.specs.declared.answer.Stepped.TheVariants.{Moved, Waits as Waited, Ended}
use Rattle.records.specs.declared.outcome.Outcome.{Outcome}
use Rattle.records.specs.declared.outcome.Outcome.TheVariants.{Goes}
use Rattle.records.specs.declared.record.Phase.TheVariants.{Lock, TakeVictim}
use Rattle.records.specs.declared.record.Task.{Task}
use Rattle.records.specs.declared.record.Work.{Work}
use Rattle.records.specs.declared.record.Work.TheVariants.{Put, Strike, Look, First, After}
use Rattle.engine.specs.Calling.{begun}
use Rattle.engine.specs.Settling.{counted, with_steps, retired_for as rests}
use Rattle.promises.specs.Books.{Book, keys, work_at}
use Rattle.promises.specs.Runs.{Call, Reply, Does, Run, opened, next, is_step_of, works_in, for_work, since, given_steps, changes_now, changed_times, same_keys, step, stepped}
use Rattle.promises.specs.Promised.{is_change, Promises, CanGoOn}
use Rattle.promises.specs.Alone.{AloneIn, WorksAlone, Throughout, oldest, began_in}
use Rattle.promises.proofs.Sights.{Sight, sight_of, task_put}
use Rattle.promises.proofs.Settles.{Settling, retire_put}
use Rattle.promises.proofs.Accepted.{Made, accepted_step_made}
use Rattle.promises.proofs.Invariant.{Inv, fits, group}
use Rattle.promises.proofs.Keeps.{at_same}
use Rattle.promises.proofs.Calls.{Did, call_did}
use Rattle.promises.proofs.Hindsight.{Among, now_among, none_works_opened}
use Rattle.promises.proofs.Works.{Comes, call_comes, none_not_some, some_injects}
use Rattle.promises.proofs.Spans.{since_more, since_runs}
use Rattle.promises.proofs.Aims.{goes_not}
use Rattle.promises.proofs.Looking.{waits_at_a_lock, waits_so}
use Rattle.promises.proofs.Looks.{given_more, given_begun}

-- A work that only reads comes to no lock.
reads_no_lock : (w : Work) → is_change w ≡ false → (fits w 3 ≡ true) ⊎ (fits w 5 ≡ true) → ⊥
reads_no_lock Put h f = true≢false h
reads_no_lock Strike h f = true≢false h
reads_no_lock Look h (inl f) = true≢false (sym f)
reads_no_lock Look h (inr f) = true≢false (sym f)
reads_no_lock First h (inl f) = true≢false (sym f)
reads_no_lock First h (inr f) = true≢false (sym f)
reads_no_lock After h (inl f) = true≢false (sym f)
reads_no_lock After h (inr f) = true≢false (sym f)

module _ {K : Type 0} where
  throughout_among : (P : Book K → Type 0) (σ : Book K) (bs : List (Book K)) → Among σ bs → Throughout P bs → P σ
  throughout_among P σ [] m h = absurd m
  throughout_among P σ (x ∷ bs) (inl e) h = subst P e h.0
  throughout_among P σ (x ∷ bs) (inr m) h = throughout_among P σ bs m h.1

  oldest_same : (x y σ : Book K) (bs : List (Book K)) → Among σ bs → oldest x bs ≡ oldest y bs
  oldest_same x y σ [] m = absurd m
  oldest_same x y σ (z ∷ bs) m = refl

  oldest_among : (x σ : Book K) (bs : List (Book K)) → Among σ bs → Among (oldest x bs) bs
  oldest_among x σ [] m = absurd m
  oldest_among x σ (z ∷ []) m = inl refl
  oldest_among x σ (z ∷ (y ∷ bs)) m = inr (oldest_among z y (y ∷ bs) (inl refl))

  -- A step after which the work goes on leaves what its rule left, but for the work itself.
  pub goes_settles : {m : Sight K} {i : ℕ} {t : Task K} {o : Outcome K} {x : Stepped K} {s' : Sight K} → Settling m i t o x s' → (u : Task K) → o ≡ Goes u
      → (y : Option (Task K)) × (s' ≡ task_put i y m)
  goes_settles (Settling.goes v e ac se) u g = (_, se)
  goes_settles (Settling.waits e ac se) u g = (_, se)
  goes_settles (Settling.ends y e ac se) u g = goes_not e refl g
  goes_settles (Settling.retires q e ac w others se) u g = goes_not e refl g

module _ {K : Type 0} (rank : K → K → Ordering) where
  -- A run came to the book that the begin of a work left.
  pub began_by_a_run : {b : Book K} (r : Run rank b) (i : ℕ) → works_in rank b i ≡ true → Run rank (began_in rank r i)
  began_by_a_run {b} r i works = since_runs rank r i (began_in rank r i) (oldest_among b b (since rank r i) (now_among rank r i works))

  since_begun : {b : Book K} (c : Call K) (a : Reply K) (b' : Book K) (r : Run rank b) (d : Does rank b c a b') (i : ℕ) → works_in rank b i ≡ false → works_in rank b' i ≡ true
      → since rank (next c a b' r d) i ≡ b' ∷ []
  unfolding since
  since_begun {b} c a b' r d i h h' =
      ap (λ x. for_work rank x (works_in rank b' i) [] (b' ∷ []) (b' ∷ since rank r i)) h ∙ ap (λ y. for_work rank false y [] (b' ∷ []) (b' ∷ since rank r i)) h'

  changed_more : {b : Book K} (c : Call K) (a : Reply K) (b' : Book K) (r : Run rank b) (d : Does rank b c a b') (i : ℕ) → works_in rank b i ≡ true → works_in rank b' i ≡ true
      → changed_times rank r i + changes_now rank i b c a b' ≡ changed_times rank (next c a b' r d) i
  unfolding changed_times
  changed_more {b} c a b' r d i h h' =
      sym (ap (λ y. for_work rank y (works_in rank b' i) 0 0 (changed_times rank r i + changes_now rank i b c a b')) h
      ∙ ap (λ y. for_work rank true y 0 0 (changed_times rank r i + changes_now rank i b c a b')) h')

  changed_begun : {b : Book K} (c : Call K) (a : Reply K) (b' : Book K) (r : Run rank b) (d : Does rank b c a b') (i : ℕ) → works_in rank b i ≡ false → works_in rank b' i ≡ true
      → changed_times rank (next c a b' r d) i ≡ 0
  unfolding changed_times
  changed_begun {b} c a b' r d i h h' =
      ap (λ y. for_work rank y (works_in rank b' i) 0 0 (changed_times rank r i + changes_now rank i b c a b')) h ∙ ap (λ y. cond y 0 0) h'

  module _ (i : ℕ) where
    -- Only station i has a work under way.
    pub only_one : (b : Book K) → AloneIn rank i b → (j : ℕ) (t : Task K) → work_at b j ≡ Some t → j ≡ i
    only_one b alone j t is = go (cases_eq j i)
      where
        go : (j ≡ i) ⊎ (j ≡ i → ⊥) → j ≡ i
        go (inl same) = same
        go (inr apart) = absurd (true≢false (sym (ap is_some is) ∙ alone j apart))

    pub alone_now : {b : Book K} (r : Run rank b) → works_in rank b i ≡ true → WorksAlone rank r i → AloneIn rank i b
    alone_now {b} r works alone = throughout_among (AloneIn rank i) b (since rank r i) (now_among rank r i works) alone

    module _ (inv : (b : Book K) → Run rank b → Inv rank (sight_of b)) (promised : Promises rank) where
      -- ---- no step waits

      not_waited : (◌≡◌ {A = Reply K} (stepped (Ok Waited)) (stepped (Ok Moved))) ⊎ ((x : Answer K) × (n : ℕ) × (◌≡◌ {A = Reply K} (stepped (Ok Waited)) (stepped (Ok (Ended x n))))) → ⊥
      not_waited (inl e) = let z : ◌≡◌ {A = ℕ} 0 1 = cc in omega arith
      not_waited (inr m) = let e = m.2 in let z : ◌≡◌ {A = ℕ} 0 1 = cc in omega arith

      change_moves : (b b' : Book K) → AloneIn rank i b → (j : ℕ) → CanGoOn rank b j → Does rank b (step i) (stepped (Ok Waited)) b' → ⊥
      change_moves b b' alone j can d =
          not_waited (can.moves (stepped (Ok Waited)) b' (subst (λ k. Does rank b (step k) (stepped (Ok Waited)) b') (sym (only_one b alone j can.task can.under_way)) d))

      reader_moves : (b : Book K) (r : Run rank b) (b' : Book K) (made : Made rank (sight_of b) i Waited (sight_of b')) → is_change made.task.work ≡ false → ⊥
      reader_moves b r b' made reads = reads_no_lock made.task.work reads (by (waits_at_a_lock made.way (waits_so rank inv made.settling)))
        where
          fit : fits made.task.work (group made.task.phase) ≡ true
          fit = (inv b r).fit i made.task made.under_way

          by : (made.task.phase ≡ Lock) ⊎ (made.task.phase ≡ TakeVictim) → (fits made.task.work 3 ≡ true) ⊎ (fits made.task.work 5 ≡ true)
          by (inl e) = inl (sym (ap (λ f. fits made.task.work (group f)) e) ∙ fit)
          by (inr e) = inr (sym (ap (λ f. fits made.task.work (group f)) e) ∙ fit)

      pub alone_never_waits : (b : Book K) (r : Run rank b) (t : Task K) → work_at b i ≡ Some t → AloneIn rank i b → (b' : Book K) → Does rank b (step i) (stepped (Ok Waited)) b' → ⊥
      alone_never_waits b r t is alone b' d = go (is_change t.work) refl
        where
          made : Made rank (sight_of b) i Waited (sight_of b')
          made = accepted_step_made rank i b.places b.stations b.guide Waited b'.places b'.stations b'.guide d

          go : (c : Bool) → is_change t.work ≡ c → ⊥
          go true e = let found = promised.someone_can_go_on b r i t is e in change_moves b b' alone found.0 found.1 d
          go false e = reader_moves b r b' made (ap (λ u. is_change u.work) (some_injects made.under_way is) ∙ e)

      -- ---- the induction

      -- A step after which the work is still under way, and did not wait.
      record Went (b : Book K) (x : Stepped K) (b' : Book K) (made : Made rank (sight_of b) i x (sight_of b')) (t : Task K) : Type 0 where
        task : Task K
        goes : made.outcome ≡ Goes task
        is : t ≡ with_steps (counted made.task.steps) task

      went_by : (b : Book K) (r : Run rank b) → AloneIn rank i b → (x : Stepped K) (b' : Book K) → Does rank b (step i) (stepped (Ok x)) b' → (made : Made rank (sight_of b) i x (sight_of b')) (t : Task K) → work_at b' i ≡ Some t
          → (o : Outcome K) → made.outcome ≡ o → Settling made.mid i made.task o x (sight_of b') → Went b x b' made t
      went_by b r alone x b' d made t is o oc (Settling.goes u e ac se) =
          record { task = u; goes = oc ∙ e; is = some_injects is (ap (λ z. z.task i) se ∙ at_same made.mid.task i _ i refl) }
      went_by b r alone x b' d made t is o oc (Settling.waits e ac se) =
          absurd (alone_never_waits b r made.task made.under_way alone b' (subst (λ y. Does rank b (step i) (stepped (Ok y)) b') ac d))
      went_by b r alone x b' d made t is o oc (Settling.ends y e ac se) = none_not_some (ap (λ z. z.task i) se ∙ at_same made.mid.task i None i refl) is
      went_by b r alone x b' d made t is o oc (Settling.retires q e ac w others se) =
          none_not_some (ap (λ z. z.task i) se ∙ at_same (retire_put q (rests w) made.mid).task i None i refl) is

      -- P tells of the books since the begin, the first and the last of them, the work, its steps and its changes.
      module _ (P : List (Book K) → Book K → Book K → Task K → ℕ → ℕ → Type 0)
          (start : (b : Book K) → Run rank b → AloneIn rank i b → (w : Work) (k : K) → work_at b i ≡ Some (begun w k) → P (b ∷ []) b b (begun w k) 0 0)
          (rest : (bs : List (Book K)) (o b : Book K) (t : Task K) (g n : ℕ) → P bs o b t g n → P (b ∷ bs) o b t g n)
          (move : (bs : List (Book K)) (o b : Book K) (g n : ℕ) (r : Run rank b) → AloneIn rank i b → (x : Stepped K) (b' : Book K) (d : Does rank b (step i) (stepped (Ok x)) b')
          (made : Made rank (sight_of b) i x (sight_of b')) → P bs o b made.task g n → (u : Task K) → made.outcome ≡ Goes u
          → work_at b' i ≡ Some (with_steps (counted made.task.steps) u) → AloneIn rank i b'
          → P (b' ∷ bs) o b' (with_steps (counted made.task.steps) u) (g + 1) (n + changes_now rank i b (step i) (stepped (Ok x)) b')) where
        along : {bs bs' : List (Book K)} {o o' b : Book K} {t t' : Task K} {g g' n n' : ℕ} → bs ≡ bs' → o ≡ o' → t ≡ t' → g ≡ g' → n ≡ n' → P bs o b t g n → P bs' o' b t' g' n'
        along {bs} {bs'} {o} {o'} {b} {t} {t'} {g} {g'} {n} {n'} e1 e2 e3 e4 e5 p =
            subst (P bs' o' b t' g') e5 (subst (λ z. P bs' o' b t' z n) e4 (subst (λ z. P bs' o' b z g n) e3 (subst (λ z. P bs' z b t g n) e2 (subst (λ z. P z o b t g n) e1 p))))

        abbrev HoldsOf : {b : Book K} → Run rank b → Task K → Type 0
        HoldsOf {b} r t = P (since rank r i) (began_in rank r i) b t (given_steps rank r i) (changed_times rank r i)

        module _ {b : Book K} (c : Call K) (a : Reply K) (b' : Book K) (r : Run rank b) (d : Does rank b c a b') (t : Task K) (is : work_at b' i ≡ Some t) (alone : WorksAlone rank (next c a b' r d) i)
            (earlier : (u : Task K) → work_at b i ≡ Some u → WorksAlone rank r i → HoldsOf r u) where
          alone_after : AloneIn rank i b'
          alone_after = alone_now (next c a b' r d) (ap is_some is) alone

          began : (w : Work) (k : K) → work_at b i ≡ None → t ≡ begun w k → HoldsOf (next c a b' r d) t
          began w k rested e =
              let all = since_begun c a b' r d i (ap is_some rested) (ap is_some is) in
              along (sym all) (sym (ap (oldest b') all)) (sym e) (sym (given_begun rank c a b' r d i (ap is_some rested) (ap is_some is))) (sym (changed_begun c a b' r d i (ap is_some rested) (ap is_some is)))
              (start b' (next c a b' r d) alone_after w k (is ∙ ap Some e))

          module _ (u : Task K) (was : work_at b i ≡ Some u) where
            longer : since rank (next c a b' r d) i ≡ b' ∷ since rank r i
            longer = since_more rank c a b' r d i (ap is_some was) (ap is_some is)

            alone_before : WorksAlone rank r i
            alone_before = (subst (Throughout (AloneIn rank i)) longer alone).1

            alone_then : AloneIn rank i b
            alone_then = alone_now r (ap is_some was) alone_before

            same_begin : began_in rank r i ≡ began_in rank (next c a b' r d) i
            same_begin = oldest_same b b' b (since rank r i) (now_among rank r i (ap is_some was)) ∙ sym (ap (oldest b') longer)

            rested : b' ≡ b → is_step_of rank i c a ≡ false → HoldsOf (next c a b' r d) t
            rested e own =
                subst (λ z. P (since rank (next c a b' r d) i) (began_in rank (next c a b' r d) i) z t (given_steps rank (next c a b' r d) i) (changed_times rank (next c a b' r d) i)) (sym e)
                (along (ap (λ z. z ∷ since rank r i) (sym e) ∙ sym longer) same_begin refl (none (given_steps rank r i) ∙ given_more rank c a b' r d i false (ap is_some was) (ap is_some is) own)
                (none (changed_times rank r i) ∙ sym (ap (λ z. changed_times rank r i + cond (z && not (same_keys rank (keys b) (keys b'))) 1 0) own) ∙ changed_more c a b' r d i (ap is_some was) (ap is_some is))
                (rest (since rank r i) (began_in rank r i) b t (given_steps rank r i) (changed_times rank r i) (earlier t (ap (λ z. work_at z i) (sym e) ∙ is) alone_before)))
              where
                none : (n : ℕ) → n ≡ n + 0
                none n = omega arith

            own_step : (x : Stepped K) → c ≡ step i → a ≡ stepped (Ok x) → Made rank (sight_of b) i x (sight_of b') → HoldsOf (next c a b' r d) t
            own_step x ce ae made =
                let d' = subst (λ z. Does rank b (step i) z b') ae (subst (λ z. Does rank b z a b') ce d) in
                let went = went_by b r alone_then x b' d' made t is made.outcome refl made.settling in
                let own = ap (λ z. is_step_of rank i z a) ce ∙ ap (is_step_of rank i (step i)) ae ∙ and_from (eqb i i) true (eq-eqb i i refl) refl in
                along (sym longer) same_begin (sym went.is) (given_more rank c a b' r d i true (ap is_some was) (ap is_some is) own)
                (sym (ap (λ z. changed_times rank r i + changes_now rank i b z a b') ce ∙ ap (λ z. changed_times rank r i + changes_now rank i b (step i) z b') ae) ∙ changed_more c a b' r d i (ap is_some was) (ap is_some is))
                (move (since rank r i) (began_in rank r i) b (given_steps rank r i) (changed_times rank r i) r alone_then x b' d' made (earlier made.task made.under_way alone_before) went.task went.goes (is ∙ ap Some went.is) alone_after)

            begun_twice : (j : ℕ) (w : Work) (k : K) → work_at b j ≡ None → work_at b' j ≡ Some (begun w k) → HoldsOf (next c a b' r d) t
            begun_twice j w k idle busy = none_not_some idle (ap (work_at b) (only_one b' alone_after j (begun w k) busy) ∙ was)

            went_on : Did rank b c a b' → HoldsOf (next c a b' r d) t
            went_on (Did.nothing stepless e) = rested e (stepless i)
            went_on (Did.begins j w k ce idle ps e) = begun_twice j w k idle (ap (λ z. z.task j) e ∙ at_same (work_at b) j _ j refl)
            went_on (Did.makes j x ce ae made) =
                let same = only_one b alone_then j made.task made.under_way in
                own_step x (ce ∙ ap step same) ae (subst (λ k. Made rank (sight_of b) k x (sight_of b')) same made)
            went_on (Did.leaves j v ce busy ps e) = none_not_some (ap (λ z. z.task i) e ∙ at_same (work_at b) j None i (only_one b alone_then j v busy)) is

          came : Comes rank b c a b' i t → HoldsOf (next c a b' r d) t
          came (Comes.is_begun rested work key e) = began work key rested e
          came (Comes.stood u was own alike) = went_on u was (call_did rank b c a b' d)
          came (Comes.went x made own u goes e) = went_on made.task made.under_way (call_did rank b c a b' d)

        -- What holds at the begin, and is kept by its own steps, holds of a work that is alone.
        pub alone_holds : {b : Book K} (r : Run rank b) (t : Task K) → work_at b i ≡ Some t → WorksAlone rank r i → P (since rank r i) (began_in rank r i) b t (given_steps rank r i) (changed_times rank r i)
        alone_holds (opened most ps ss o e) t is alone = none_not_some (none_works_opened most ps ss o e i) is
        alone_holds (next {b} c a b' r d) t is alone = came c a b' r d t is alone (λ u was h. alone_holds r u was h) (call_comes rank b c a b' i t is d)
