-- A station that works alone: it gets the answers of a sorted set, and within so many steps. Assumes nothing.
use Rattle.std.specs.Prelude.{◌≡◌, ℕ, ◌+◌, ◌*◌, ◌<◌, Bool, false, cond, ◌||◌, ◌⊎◌, List, [], ◌∷◌, length, Ok, ◌≢◌}
use Rattle.std.specs.declared.cmp.Ordering.{Ordering}
use Rattle.std.specs.Ordering.{is_eq, is_lt}
use Rattle.records.specs.declared.answer.Answer.{Answer}
use Rattle.records.specs.declared.answer.Answer.TheVariants.{Yes, No, Found, Missing, NoRoom}
use Rattle.records.specs.declared.answer.Stepped.TheVariants.{Moved, Ended}
use Rattle.records.specs.declared.record.Place.{Place}
use Rattle.records.specs.declared.record.Task.{Task}
use Rattle.records.specs.declared.record.Work.{Work}
use Rattle.records.specs.declared.record.Work.TheVariants.{Put, Strike, Look, First, After}
use Rattle.rules.specs.Putting.{is_free}
use Rattle.promises.specs.Books.{Book, keys}
use Rattle.promises.specs.Runs.{Reply, Does, Run, works_in, since, given_steps, step, stepped}
use Rattle.promises.specs.Promised.{UnderWay, EndsWith}

module _ {K : Type 0} where
  -- Some one of these places is free.
  abbrev pub any_free : List (Place K) → Bool
  any_free [] = false
  any_free (p ∷ ps) = is_free p.status || any_free ps

  -- Some place from 2 on is free.
  abbrev pub room_in : List (Place K) → Bool
  room_in [] = false
  room_in (at_low ∷ []) = false
  room_in (at_low ∷ (at_high ∷ others)) = any_free others

  -- The book has room for one key more.
  abbrev pub has_room : Book K → Bool
  has_room b = room_in b.places

  -- The oldest of these books, newest first; the given one where there are none.
  abbrev pub oldest : Book K → List (Book K) → Book K
  oldest b [] = b
  oldest b (σ ∷ bs) = oldest σ bs

  -- P holds of each of these books.
  abbrev pub Throughout : (Book K → Type 0) → List (Book K) → Type 0
  Throughout P [] = Unit {0}
  Throughout P (b ∷ bs) = P b × Throughout P bs

  -- The smallest of some keys in rising order.
  abbrev pub first_key : List K → Answer K
  first_key [] = Missing
  first_key (x ∷ xs) = Found x

-- The most steps of a work that is alone among so many places.
abbrev pub alone_steps : Work → ℕ → ℕ
alone_steps Put n = 73 + 2 * n
alone_steps Strike n = 74 + 2 * n
alone_steps Look n = 66 + 2 * n
alone_steps First n = 2
alone_steps After n = 66 + 2 * n

module _ {K : Type 0} (rank : K → K → Ordering) where
  -- ---- a sorted set: its keys in rising order

  -- The key k is among these.
  abbrev pub is_in : K → List K → Bool
  is_in k [] = false
  is_in k (x ∷ xs) = is_eq (rank x k) || is_in k xs

  -- The keys with k before the first that is above it.
  abbrev pub with_key_in : K → List K → List K
  with_key_in k [] = k ∷ []
  with_key_in k (x ∷ xs) = cond (is_lt (rank k x)) (k ∷ (x ∷ xs)) (x ∷ with_key_in k xs)

  -- The keys without k.
  abbrev pub without_key : K → List K → List K
  without_key k [] = []
  without_key k (x ∷ xs) = cond (is_eq (rank x k)) xs (x ∷ without_key k xs)

  -- The smallest key above k.
  abbrev pub first_above : K → List K → Answer K
  first_above k [] = Missing
  first_above k (x ∷ xs) = cond (is_lt (rank k x)) (Found x) (first_above k xs)

  -- What a set of these keys answers: a put no if the key is present, else yes if there is room, else NO ROOM; a strike and
  -- a look yes if it is present, else no; a first the smallest key, and an after the smallest above its own.
  abbrev pub set_answer : Work → K → List K → Bool → Answer K
  set_answer Put k keys room = cond (is_in k keys) No (cond room Yes NoRoom)
  set_answer Strike k keys room = cond (is_in k keys) Yes No
  set_answer Look k keys room = cond (is_in k keys) Yes No
  set_answer First k keys room = first_key keys
  set_answer After k keys room = first_above k keys

  -- The keys of the set after it: an absent key is put in if there is room, and a present one is struck.
  abbrev pub set_after : Work → K → List K → Bool → List K
  set_after Put k keys room = cond (is_in k keys) keys (cond room (with_key_in k keys) keys)
  set_after Strike k keys room = without_key k keys
  set_after Look k keys room = keys
  set_after First k keys room = keys
  set_after After k keys room = keys

  -- ---- a work that is alone

  -- No other station than i has a work under way.
  abbrev pub AloneIn : ℕ → Book K → Type 0
  AloneIn i b = (j : ℕ) → (j ≢ i) → works_in rank b j ≡ false

  -- The work under way at station i has been alone since its begin.
  abbrev pub WorksAlone : {b : Book K} → Run rank b → ℕ → Type 0
  WorksAlone r i = Throughout (AloneIn i) (since rank r i)

  -- The book that its begin left.
  abbrev pub began_in : {b : Book K} → Run rank b → ℕ → Book K
  began_in {b} r i = oldest b (since rank r i)

  -- The work t that began in book b ended with answer a and left book b', as a sorted set of the keys of b does.
  pub record AsASet (b : Book K) (t : Task K) (a : Answer K) (b' : Book K) : Type 0 where
    pub answers : a ≡ set_answer t.work t.key (keys b) (has_room b)
    pub leaves : keys b' ≡ set_after t.work t.key (keys b) (has_room b)

  -- A station that works alone finds a sorted set: its work ends as a set does; each of its steps moves it on or ends it, none
  -- waits and none is refused; and while it is under way it has been given fewer steps than stated above.
  pub record AStationAloneFindsASet : Type 0 where
    pub ends_as_a_set : (b : Book K) (r : Run rank b) (i : ℕ) (t : Task K) → UnderWay rank b i t → WorksAlone r i
        → (a : Answer K) (n : ℕ) (b' : Book K) → EndsWith rank b i t a n b' → AsASet (began_in r i) t a b'
    pub moves_or_ends : (b : Book K) (r : Run rank b) (i : ℕ) (t : Task K) → UnderWay rank b i t → WorksAlone r i
        → (a : Reply K) (b' : Book K) → Does rank b (step i) a b' → (a ≡ stepped (Ok Moved)) ⊎ ((x : Answer K) × (n : ℕ) × (a ≡ stepped (Ok (Ended x n))))
    pub ends_in_time : (b : Book K) (r : Run rank b) (i : ℕ) (t : Task K) → UnderWay rank b i t → WorksAlone r i
        → given_steps rank r i < alone_steps t.work (length b.places)
