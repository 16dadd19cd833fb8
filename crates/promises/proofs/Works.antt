-- How the work under way at a station came to be what it is: begun by the call, untouched by it, or stepped by it; that its
-- steps are counted honestly; and that only locks make a step wait. Assumes nothing.
use Rattle.std.proofs.Common.{◌≡◌, ℕ, ◌+◌, ◌-◌, ◌^◌, min, true, false, cond, eqb, ◌⊎◌, is_some, Some, None, Ok, Option, Ordering, sym, refl, ap, ◌∙◌, subst, inl, inr, arith}
use Rattle.std.proofs.lemmas.Bool.{true≢false, eq-eqb, ne_eqb, cases_eq, and_left, and_from}
use Rattle.records.specs.declared.answer.Answer.{Answer}
use Rattle.records.specs.declared.answer.Stepped.{Stepped}
use Rattle.records.specs.declared.answer.Stepped.TheVariants.{Ended}
use Rattle.records.specs.declared.outcome.Outcome.{Outcome}
use Rattle.records.specs.declared.outcome.Outcome.TheVariants.{Goes, Waits}
use Rattle.records.specs.declared.record.Task.{Task}
use Rattle.records.specs.declared.record.Work.{Work}
use Rattle.engine.specs.Calling.{begun}
use Rattle.engine.specs.Settling.{counted, with_steps, with_await, awaiting_task, retired_for as rests}
use Rattle.promises.specs.Books.{Book, work_at}
use Rattle.promises.specs.Runs.{Call, Reply, Does, Run, opened, next, is_step_of, works_in, for_work, given_steps, begin, step, leave, stepped}
use Rattle.promises.specs.Promised.{StepsAreCounted}
use Rattle.promises.proofs.Sights.{Sight, sight_of, at_with}
use Rattle.promises.proofs.Settles.{Settling, retire_put}
use Rattle.promises.proofs.Accepted.{Made, accepted_step_made}
use Rattle.promises.proofs.Touches.{way_touches}
use Rattle.promises.proofs.Keeps.{at_other, at_same}
use Rattle.promises.proofs.Passes.{touch_tasks}
use Rattle.promises.proofs.Calls.{Did, call_did}
use Rattle.promises.proofs.Hindsight.{none_works_opened}

pub none_not_some : {A P : Type 0} {x : Option A} {a : A} → x ≡ None → x ≡ Some a → P
none_not_some e h = absurd (true≢false (sym (ap is_some h) ∙ ap is_some e))

pub some_injects : {A : Type 0} {x : Option A} {a b : A} → x ≡ Some a → x ≡ Some b → a ≡ b
some_injects e h = cc

module _ {K : Type 0} (rank : K → K → Ordering) where
  -- How the work t, under way at station i in b', came from book b by call c, answered a.
  pub data Comes (b : Book K) (c : Call K) (a : Reply K) (b' : Book K) (i : ℕ) (t : Task K) : Type 0 where
    is_begun : work_at b i ≡ None → (work : Work) (key : K) → t ≡ begun work key → Comes b c a b' i t
    stood : (u : Task K) → work_at b i ≡ Some u → is_step_of rank i c a ≡ false → (t ≡ u) ⊎ (t ≡ with_await u) → Comes b c a b' i t
    went : (x : Stepped K) (made : Made rank (sight_of b) i x (sight_of b')) → is_step_of rank i c a ≡ true → (u : Task K)
        → (made.outcome ≡ Goes u) ⊎ ((made.outcome ≡ Waits) × (u ≡ made.task)) → t ≡ with_steps (counted made.task.steps) u → Comes b c a b' i t

  module _ (b : Book K) (c : Call K) (a : Reply K) (b' : Book K) (i : ℕ) (t : Task K) (is : work_at b' i ≡ Some t) where
    -- A step of station i itself.
    own_settling : (x : Stepped K) (made : Made rank (sight_of b) i x (sight_of b')) → is_step_of rank i c a ≡ true
        → (o : Outcome K) → made.outcome ≡ o → Settling made.mid i made.task o x (sight_of b') → Comes b c a b' i t
    own_settling x made own o oc (Settling.goes u e ac se) =
        Comes.went x made own u (inl (oc ∙ e)) (some_injects is (ap (λ z. z.task i) se ∙ at_same made.mid.task i _ i refl))
    own_settling x made own o oc (Settling.waits e ac se) =
        Comes.went x made own made.task (inr (oc ∙ e, refl)) (some_injects is (ap (λ z. z.task i) se ∙ at_same made.mid.task i _ i refl))
    own_settling x made own o oc (Settling.ends y e ac se) = none_not_some (ap (λ z. z.task i) se ∙ at_same made.mid.task i None i refl) is
    own_settling x made own o oc (Settling.retires q e ac w others se) =
        none_not_some (ap (λ z. z.task i) se ∙ at_same (retire_put q (rests w) made.mid).task i None i refl) is

    awaited_before : (x : Option (Task K)) → work_at b i ≡ x → awaiting_task x ≡ Some t → is_step_of rank i c a ≡ false → Comes b c a b' i t
    awaited_before None was h own = none_not_some refl h
    awaited_before (Some u) was h own = Comes.stood u was own (inr (some_injects refl (sym h)))

    -- A step of another station.
    other_settling : (j : ℕ) → (j ≡ i → ⊥) → (x : Stepped K) (m : Sight K) → m.task i ≡ work_at b i → (u : Task K) (o : Outcome K) → is_step_of rank i c a ≡ false
        → Settling m j u o x (sight_of b') → Comes b c a b' i t
    other_settling j apart x m same u o own (Settling.goes v e ac se) =
        Comes.stood t (sym same ∙ sym (at_other m.task j _ i apart) ∙ sym (ap (λ z. z.task i) se) ∙ is) own (inl refl)
    other_settling j apart x m same u o own (Settling.waits e ac se) =
        Comes.stood t (sym same ∙ sym (at_other m.task j _ i apart) ∙ sym (ap (λ z. z.task i) se) ∙ is) own (inl refl)
    other_settling j apart x m same u o own (Settling.ends y e ac se) =
        Comes.stood t (sym same ∙ sym (at_other m.task j None i apart) ∙ sym (ap (λ z. z.task i) se) ∙ is) own (inl refl)
    other_settling j apart x m same u o own (Settling.retires q e ac w others se) =
        awaited_before (work_at b i) refl
        (ap awaiting_task (sym same) ∙ sym (at_other (retire_put q (rests w) m).task j None i apart) ∙ sym (ap (λ z. z.task i) se) ∙ is) own

    made_comes : (j : ℕ) (x : Stepped K) → c ≡ step j → a ≡ stepped (Ok x) → Made rank (sight_of b) j x (sight_of b') → (j ≡ i) ⊎ (j ≡ i → ⊥) → Comes b c a b' i t
    made_comes j x ce ae made (inl same) =
        let mine = subst (λ k. Made rank (sight_of b) k x (sight_of b')) same made in
        own_settling x mine (ap (λ z. is_step_of rank i z a) ce ∙ ap (is_step_of rank i (step j)) ae ∙ and_from (eqb j i) true (eq-eqb j i same) refl) mine.outcome refl mine.settling
    made_comes j x ce ae made (inr apart) =
        other_settling j apart x made.mid (ap (λ f. f i) (touch_tasks (way_touches made.way))) made.task made.outcome
        (ap (λ z. is_step_of rank i z a) ce ∙ ap (is_step_of rank i (step j)) ae ∙ and_left (eqb j i) true (ne_eqb j i apart)) made.settling

    begins_comes : (j : ℕ) (work : Work) (key : K) → c ≡ begin j work key → work_at b j ≡ None → work_at b' i ≡ at_with (work_at b) j (Some (begun work key)) i
        → (j ≡ i) ⊎ (j ≡ i → ⊥) → Comes b c a b' i t
    begins_comes j work key ce rested e (inl same) =
        Comes.is_begun (ap (work_at b) (sym same) ∙ rested) work key (some_injects is (e ∙ at_same (work_at b) j _ i same))
    begins_comes j work key ce rested e (inr apart) =
        Comes.stood t (sym (at_other (work_at b) j _ i apart) ∙ sym e ∙ is) (ap (λ z. is_step_of rank i z a) ce) (inl refl)

    leaves_comes : (j : ℕ) → c ≡ leave j → work_at b' i ≡ at_with (work_at b) j None i → (j ≡ i) ⊎ (j ≡ i → ⊥) → Comes b c a b' i t
    leaves_comes j ce e (inl same) = none_not_some (e ∙ at_same (work_at b) j None i same) is
    leaves_comes j ce e (inr apart) = Comes.stood t (sym (at_other (work_at b) j None i apart) ∙ sym e ∙ is) (ap (λ z. is_step_of rank i z a) ce) (inl refl)

    did_comes : Did rank b c a b' → Comes b c a b' i t
    did_comes (Did.nothing stepless e) = Comes.stood t (ap (λ z. work_at z i) (sym e) ∙ is) (stepless i) (inl refl)
    did_comes (Did.begins j work key ce rested ps e) = begins_comes j work key ce rested (ap (λ z. z.task i) e) (cases_eq j i)
    did_comes (Did.makes j x ce ae made) = made_comes j x ce ae made (cases_eq j i)
    did_comes (Did.leaves j u ce busy ps e) = leaves_comes j ce (ap (λ z. z.task i) e) (cases_eq j i)

    pub call_comes : Does rank b c a b' → Comes b c a b' i t
    call_comes d = did_comes (call_did rank b c a b' d)

  -- ---- the steps are counted

  abbrev capped : ℕ → ℕ
  capped n = min n (2 ^ 64 - 1)

  count_more : (g : ℕ) → counted (capped g) ≡ capped (g + 1)
  count_more g = omega arith

  count_by : (b : Book K) (c : Call K) (a : Reply K) (b' : Book K) (i : ℕ) (t : Task K) (g : ℕ) → work_at b' i ≡ Some t
      → ((u : Task K) → work_at b i ≡ Some u → u.steps ≡ capped g) → Comes b c a b' i t
      → t.steps ≡ capped (for_work rank (works_in rank b i) (works_in rank b' i) 0 0 (g + cond (is_step_of rank i c a) 1 0))
  count_by b c a b' i t g is before (Comes.is_begun rested work key e) =
      ap (λ u. u.steps) e ∙ sym (ap (λ x. capped (for_work rank x (works_in rank b' i) 0 0 (g + cond (is_step_of rank i c a) 1 0))) (ap is_some rested)
      ∙ ap (λ x. capped (cond x 0 0)) (ap is_some is))
  count_by b c a b' i t g is before (Comes.stood u was own alike) =
      same alike ∙ before u was ∙ sum
      ∙ sym (ap (λ x. capped (for_work rank x (works_in rank b' i) 0 0 (g + cond (is_step_of rank i c a) 1 0))) (ap is_some was)
      ∙ ap (λ x. capped (for_work rank true x 0 0 (g + cond (is_step_of rank i c a) 1 0))) (ap is_some is) ∙ ap (λ x. capped (g + cond x 1 0)) own)
    where
      same : (t ≡ u) ⊎ (t ≡ with_await u) → t.steps ≡ u.steps
      same (inl e) = ap (λ v. v.steps) e
      same (inr e) = ap (λ v. v.steps) e

      sum : capped g ≡ capped (g + 0)
      sum = omega arith
  count_by b c a b' i t g is before (Comes.went x made own u goes e) =
      ap (λ v. v.steps) e ∙ ap counted (before made.task made.under_way) ∙ count_more g
      ∙ sym (ap (λ y. capped (for_work rank y (works_in rank b' i) 0 0 (g + cond (is_step_of rank i c a) 1 0))) (ap is_some made.under_way)
      ∙ ap (λ y. capped (for_work rank true y 0 0 (g + cond (is_step_of rank i c a) 1 0))) (ap is_some is) ∙ ap (λ y. capped (g + cond y 1 0)) own)

  pub steps_counted : {b : Book K} (r : Run rank b) (i : ℕ) (t : Task K) → work_at b i ≡ Some t → t.steps ≡ capped (given_steps rank r i)
  unfolding given_steps
  steps_counted (opened most ps ss o e) i t is = none_not_some (none_works_opened most ps ss o e i) is
  steps_counted (next {b} c a b' r d) i t is = count_by b c a b' i t (given_steps rank r i) is (λ u was. steps_counted r i u was) (call_comes b c a b' i t is d)

  -- ---- the number in an answer

  ended_count : (m : Sight K) (i : ℕ) (t : Task K) (o : Outcome K) (a : Answer K) (n : ℕ) (s' : Sight K) → Settling m i t o (Ended a n) s' → n ≡ counted t.steps
  ended_count m i t o a n s' (Settling.goes u e ac se) = cc
  ended_count m i t o a n s' (Settling.waits e ac se) = cc
  ended_count m i t o a n s' (Settling.ends y e ac se) = cc
  ended_count m i t o a n s' (Settling.retires q e ac w others se) = cc

  pub steps_are_counted : StepsAreCounted rank
  steps_are_counted b r i t a n b' ended =
      let made = accepted_step_made rank i b.places b.stations b.guide (Ended a n) b'.places b'.stations b'.guide ended.1 in
      ended_count made.mid i made.task made.outcome a n (sight_of b') made.settling
      ∙ ap counted (steps_counted r i made.task made.under_way) ∙ count_more (given_steps rank r i)
