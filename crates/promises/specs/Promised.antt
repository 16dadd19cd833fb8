-- The promises of the index: what holds of every run, for an order of the keys. Assumes nothing.
use Rattle.std.specs.Prelude.{◌≡◌, ℕ, ◌+◌, ◌-◌, ◌*◌, ◌^◌, ◌<◌, ◌≤◌, min, Bool, true, false, ◌⊎◌, List, [], ◌∷◌, ◌++◌, length, drop, Some, None, Ok, Err}
use Rattle.std.specs.declared.cmp.Ordering.{Ordering}
use Rattle.std.specs.List.{slice_get}
use Rattle.guides.specs.Meaning.{low, high, has}
use Rattle.records.specs.declared.answer.Answer.{Answer}
use Rattle.records.specs.declared.answer.Answer.TheVariants.{Yes}
use Rattle.records.specs.declared.answer.Refusal.{Refusal}
use Rattle.records.specs.declared.answer.Refusal.TheVariants.{ShortList}
use Rattle.records.specs.declared.answer.Stepped.TheVariants.{Moved, Waits, Ended}
use Rattle.records.specs.declared.record.Place.{Place}
use Rattle.records.specs.declared.record.Status.TheVariants.{InHand, Retired}
use Rattle.records.specs.declared.record.Task.{Task}
use Rattle.records.specs.declared.record.Work.{Work}
use Rattle.records.specs.declared.record.Work.TheVariants.{Put, Strike, Look, First, After}
use Rattle.engine.specs.Contents.{chain}
pub use Rattle.engine.specs.Counting.{is_chained, is_retired}
use Rattle.promises.specs.Books.{Book, keys, work_at}
use Rattle.promises.specs.Truths.{Adds, TakesAway, Rises, TrueOf}
use Rattle.promises.specs.Runs.{Call, Reply, Does, Run, works_in, since, given_steps, changed_times, changes_now, step, list, stepped, listed}

-- Puts and strikes change the book and may wait; the other works only read.
abbrev pub is_change : Work → Bool
is_change Put = true
is_change Strike = true
is_change Look = false
is_change First = false
is_change After = false

-- The answer is a yes to a put or a strike.
abbrev pub IsChangeDone : {K : Type 0} → Work → Answer K → Type 0
IsChangeDone work a = (is_change work ≡ true) × (a ≡ Yes)

module _ {K : Type 0} (rank : K → K → Ordering) where
  -- Station i has the work t under way.
  abbrev pub UnderWay : Book K → ℕ → Task K → Type 0
  UnderWay b i t = work_at b i ≡ Some t

  -- Some book of the list has keys of which P holds.
  abbrev pub AtSome : (List K → Type 0) → List (Book K) → Type 0
  AtSome P [] = ⊥
  AtSome P (b ∷ bs) = P (keys b) ⊎ AtSome P bs

  -- A step of station i that ended its work t with answer a, the n-th of its own steps.
  abbrev pub EndsWith : Book K → ℕ → Task K → Answer K → ℕ → Book K → Type 0
  EndsWith b i t a n b' = UnderWay b i t × Does rank b (step i) (stepped (Ok (Ended a n))) b'

  -- 1. Only a worker's own key changes: a put's step adds exactly its key, a strike's step takes exactly its key away, and
  -- nothing else changes the keys.
  pub record ChangesItsKey (b : Book K) (c : Call K) (a : Reply K) (b' : Book K) (i : ℕ) (t : Task K) : Type 0 where
    pub call : c ≡ step i
    pub under_way : UnderWay b i t
    pub change : ((t.work ≡ Put) × Adds t.key (keys b) (keys b')) ⊎ ((t.work ≡ Strike) × TakesAway t.key (keys b) (keys b'))

  abbrev pub OnlyOwnKeysChange : Type 0
  OnlyOwnKeysChange = (b : Book K) (r : Run rank b) (c : Call K) (a : Reply K) (b' : Book K) → Does rank b c a b'
      → (keys b' ≡ keys b) ⊎ ((i : ℕ) × (t : Task K) × ChangesItsKey b c a b' i t)

  -- 2. A put or strike that answered yes changed the keys at exactly one of its steps, this one counted; one under way
  -- has at most once, every other work under way never; and a work that ends with another answer never did.
  pub record ChangesOnce : Type 0 where
    pub yes_once : (b : Book K) (r : Run rank b) (i : ℕ) (t : Task K) (n : ℕ) (b' : Book K) → EndsWith b i t Yes n b' → is_change t.work ≡ true
        → changed_times rank r i + changes_now rank i b (step i) (stepped (Ok (Ended Yes n))) b' ≡ 1
    pub under_way_at_most_once : (b : Book K) (r : Run rank b) (i : ℕ) (t : Task K) → UnderWay b i t → is_change t.work ≡ true → changed_times rank r i ≤ 1
    pub readers_never : (b : Book K) (r : Run rank b) (i : ℕ) (t : Task K) → UnderWay b i t → is_change t.work ≡ false → changed_times rank r i ≡ 0
    pub others_never : (b : Book K) (r : Run rank b) (i : ℕ) (t : Task K) (a : Answer K) (n : ℕ) (b' : Book K) → EndsWith b i t a n b' → (IsChangeDone t.work a → ⊥)
        → changed_times rank r i + changes_now rank i b (step i) (stepped (Ok (Ended a n))) b' ≡ 0

  -- 3. Every other answer that ends a work is true of keys that stood after its begin or after a later call up to its end.
  abbrev pub AnswersAreTrue : Type 0
  AnswersAreTrue = (b : Book K) (r : Run rank b) (i : ℕ) (t : Task K) (a : Answer K) (n : ℕ) (b' : Book K) → EndsWith b i t a n b' → (IsChangeDone t.work a → ⊥)
      → AtSome (TrueOf rank t.work t.key a) (b' ∷ since rank r i)

  -- 4. The step number in an answer is the number of the work's own steps, this one counted; it stays at 2^64 - 1.
  abbrev pub StepsAreCounted : Type 0
  StepsAreCounted = (b : Book K) (r : Run rank b) (i : ℕ) (t : Task K) (a : Answer K) (n : ℕ) (b' : Book K) → EndsWith b i t a n b'
      → n ≡ min (given_steps rank r i + 1) (2 ^ 64 - 1)

  -- 5. A look never waits, and has its answer within 66 + 2 N of its own steps.
  pub record LooksEnd : Type 0 where
    pub never_wait : (b : Book K) (r : Run rank b) (i : ℕ) (t : Task K) (b' : Book K) → UnderWay b i t → t.work ≡ Look → Does rank b (step i) (stepped (Ok Waits)) b' → ⊥
    pub end_in_time : (b : Book K) (r : Run rank b) (i : ℕ) (t : Task K) → UnderWay b i t → t.work ≡ Look → given_steps rank r i < 66 + 2 * length b.places

  -- 6. While puts or strikes are under way, one of them would move or end if stepped next.
  pub record CanGoOn (b : Book K) (j : ℕ) : Type 0 where
    pub task : Task K
    pub under_way : UnderWay b j task
    pub changes : is_change task.work ≡ true
    -- its step can be made, and however it is made it does not wait
    pub answer : Reply K
    pub after : Book K
    pub possible : Does rank b (step j) answer after
    pub moves : (a : Reply K) (b' : Book K) → Does rank b (step j) a b' → (a ≡ stepped (Ok Moved)) ⊎ ((x : Answer K) × (n : ℕ) × (a ≡ stepped (Ok (Ended x n))))

  abbrev pub SomeoneCanGoOn : Type 0
  SomeoneCanGoOn = (b : Book K) (r : Run rank b) (i : ℕ) (t : Task K) → UnderWay b i t → is_change t.work ≡ true → (j : ℕ) × CanGoOn b j

  -- 7. No step of a working station is refused. List is refused only for too few positions; else it shows the keys of the
  -- book, in strictly rising order.
  pub record NothingIsDamaged : Type 0 where
    pub steps_accepted : (b : Book K) (r : Run rank b) (i : ℕ) (t : Task K) (e : Refusal) (b' : Book K) → UnderWay b i t → Does rank b (step i) (stepped (Err e)) b' → ⊥
    pub list_refused_only_if_short : (b : Book K) (r : Run rank b) (given after : List K) (e : Refusal) (b' : Book K) → Does rank b (list given) (listed (Err e) after) b'
        → (e ≡ ShortList) × (length given < length (keys b))
    pub list_shows_the_keys : (b : Book K) (r : Run rank b) (given after : List K) (n : ℕ) (b' : Book K) → Does rank b (list given) (listed (Ok n) after) b'
        → (n ≡ length (keys b)) × (after ≡ keys b ++ drop n given)
    pub keys_rise : (b : Book K) (r : Run rank b) → Rises rank (keys b)

  -- 8. When nobody works no lock is held, no place is retired, and the guide's sequence is Low, the chain, High.
  pub record IsTidy (b : Book K) : Type 0 where
    pub no_lock : (p : ℕ) (x : Place K) → slice_get b.places p ≡ Some x → x.lock ≡ None
    pub none_retired : (p : ℕ) (x : Place K) → slice_get b.places p ≡ Some x → is_retired x.status ≡ false
    pub guide_is_the_chain : b.guide.sequence ≡ low ∷ (chain b.places ++ high ∷ [])

  abbrev pub IdleBooksAreTidy : Type 0
  IdleBooksAreTidy = (b : Book K) (r : Run rank b) → ((i : ℕ) → works_in rank b i ≡ false) → IsTidy b

  -- 9. Every place from 2 on has a status that is true of it: it is chained exactly if it is on the chain, in hand only while a
  -- put or a strike under way has it as its other place, and retired only while it waits for a station at work.
  pub record StatusIsTrue (b : Book K) (p : ℕ) (x : Place K) : Type 0 where
    pub chained : is_chained x.status ≡ has p (chain b.places)
    pub waits_for_workers : (waits : List Bool) → x.status ≡ Retired waits → (i : ℕ) × (slice_get waits i ≡ Some true) × (works_in rank b i ≡ true)
    pub in_hand : x.status ≡ InHand → (i : ℕ) × (t : Task K) × UnderWay b i t × (t.other ≡ p) × (is_change t.work ≡ true)

  abbrev pub StatusesAreTrue : Type 0
  StatusesAreTrue = (b : Book K) (r : Run rank b) (p : ℕ) (x : Place K) → 2 ≤ p → slice_get b.places p ≡ Some x → StatusIsTrue b p x

  -- All the promises.
  pub record Promises : Type 0 where
    pub only_own_keys_change : OnlyOwnKeysChange
    pub changes_once : ChangesOnce
    pub answers_are_true : AnswersAreTrue
    pub steps_are_counted : StepsAreCounted
    pub looks_end : LooksEnd
    pub someone_can_go_on : SomeoneCanGoOn
    pub nothing_is_damaged : NothingIsDamaged
    pub idle_books_are_tidy : IdleBooksAreTidy
    pub statuses_are_true : StatusesAreTrue
