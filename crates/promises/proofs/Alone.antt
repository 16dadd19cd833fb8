-- A station that works alone finds a sorted set, within so many steps. Assumes the laws of the order.
use Rattle.std.proofs.Common.{◌≡◌, ℕ, ◌+◌, ◌⊎◌, is_some, Some, Ok, Err, Ordering, sym, refl, ap, subst, inl, inr}
use Rattle.guides.specs.Meaning.{low}
use Rattle.records.specs.declared.answer.Answer.{Answer}
use Rattle.records.specs.declared.answer.Stepped.{Stepped}
use Rattle.records.specs.declared.answer.Stepped.TheVariants.{Moved, Waits, Ended}
use Rattle.records.specs.declared.outcome.Outcome.TheVariants.{Goes}
use Rattle.records.specs.declared.record.Task.{Task}
use Rattle.promises.specs.Books.{Book, work_at}
use Rattle.promises.specs.Runs.{Reply, Does, Run, given_steps, step, begun, stepped, left, mended, listed}
use Rattle.promises.specs.Promised.{Promises}
use Rattle.promises.specs.Alone.{AloneIn, WorksAlone, began_in, AStationAloneFindsASet}
use Rattle.promises.proofs.Laws.{Laws}
use Rattle.promises.proofs.Sights.{Sight, sight_of}
use Rattle.promises.proofs.Accepted.{Made}
use Rattle.promises.proofs.Invariant.{Inv}
use Rattle.promises.proofs.Running.{run_has}
use Rattle.promises.proofs.Whole.{promises_kept, shows}
use Rattle.promises.proofs.Solo.{only_one, alone_now, alone_never_waits, alone_holds, goes_settles, began_by_a_run}
use Rattle.promises.proofs.SoloKeys.{ends_so}
use Rattle.promises.proofs.Roomy.{yes_had_room, none_had_room}
use Rattle.promises.proofs.SoloPaces.{Paced, begins_paced, paced_few, paces}

module _ {K : Type 0} (rank : K → K → Ordering) (laws : Laws rank) where
  inv : (b : Book K) → Run rank b → Inv rank (sight_of b)
  inv b r = run_has rank laws r

  promised : Promises rank
  promised = promises_kept rank laws

  abbrev PacedIn : Sight K → Task K → ℕ → Type 0
  PacedIn s t g = Paced rank s t.phase t.key t.downs t.at g

  -- The pace of a work, one step on.
  step_paced : (i : ℕ) (b : Book K) (g : ℕ) (r : Run rank b) → AloneIn rank i b → (x : Stepped K) (b' : Book K) (made : Made rank (sight_of b) i x (sight_of b'))
      → PacedIn (sight_of b) made.task g → (u : Task K) → made.outcome ≡ Goes u → PacedIn (sight_of b') u (g + 1)
  step_paced i b g r alone x b' made paced u goes =
      subst (λ s. PacedIn s u (g + 1)) (sym (goes_settles made.settling u goes).1)
      (paces rank laws (sight_of b) (inv b r) i made.task made.under_way (λ j v was. only_one rank i b alone j v was) g paced made.way u goes)

  alone_paced : {b : Book K} (r : Run rank b) (i : ℕ) (t : Task K) → work_at b i ≡ Some t → WorksAlone rank r i → PacedIn (sight_of b) t (given_steps rank r i)
  alone_paced r i t is alone =
      alone_holds rank i inv promised (λ bs o b u g n. PacedIn (sight_of b) u g)
      (λ b s h w k was. begins_paced rank (sight_of b) w k 0 low)
      (λ bs o b u g n h. h)
      (λ bs o b g n s h x b' d made paced u goes is' h'. step_paced i b g s h x b' made paced u goes) r t is alone

  -- A step answers moved or ended.
  moves : (b : Book K) (r : Run rank b) (i : ℕ) (t : Task K) → work_at b i ≡ Some t → AloneIn rank i b → (a : Reply K) (b' : Book K) → Does rank b (step i) a b'
      → (a ≡ stepped (Ok Moved)) ⊎ ((x : Answer K) × (n : ℕ) × (a ≡ stepped (Ok (Ended x n))))
  moves b r i t is alone (begun x) b' d = absurd d
  moves b r i t is alone (stepped (Ok Moved)) b' d = inl refl
  moves b r i t is alone (stepped (Ok Waits)) b' d = absurd (alone_never_waits rank i inv promised b r t is alone b' d)
  moves b r i t is alone (stepped (Ok (Ended x n))) b' d = inr (x, n, refl)
  moves b r i t is alone (stepped (Err e)) b' d = absurd (promised.nothing_is_damaged.steps_accepted b r i t e b' is d)
  moves b r i t is alone (left x) b' d = absurd d
  moves b r i t is alone (mended m) b' d = absurd d
  moves b r i t is alone (listed x after) b' d = absurd d

-- A station that works alone finds a sorted set, for every lawful order.
pub alone_is_a_set : {K : Type 0} (rank : K → K → Ordering) → Laws rank → AStationAloneFindsASet rank
alone_is_a_set rank laws = record {
  ends_as_a_set = λ b r i t is alone a n b' ended. ends_so rank laws (inv rank laws) (promised rank laws) i b r t is alone a n b' ended (began_in rank r i) (began_by_a_run rank r i (ap is_some is)) refl
      (λ puts said. yes_had_room rank laws (inv rank laws) (promised rank laws) i (shows rank laws (inv rank laws)) b r t is alone puts a n b' ended said)
      (λ puts said. none_had_room rank laws (inv rank laws) (promised rank laws) i (shows rank laws (inv rank laws)) b r t is alone puts a n b' ended said);
  moves_or_ends = λ b r i t is alone a b' d. moves rank laws b r i t is (alone_now rank i r (ap is_some is) alone) a b' d;
  ends_in_time = λ b r i t is alone. paced_few rank laws (sight_of b) (inv rank laws b r) t.work t.phase t.key t.downs t.at (given_steps rank r i) ((inv rank laws b r).fit i t is)
      (alone_paced rank laws r i t is alone);
}
