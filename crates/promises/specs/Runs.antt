-- Runs: any calls, one by one, on a book that was just opened; and what is remembered of each work. Assumes nothing.
use Rattle.std.specs.Prelude.{◌≡◌, ℕ, ◌+◌, Bool, true, false, cond, not, ◌&&◌, ◌||◌, List, [], ◌∷◌, length, is_some, is_ok, Some, None, Ok, Err, Option, Result, ◌==◌}
use Rattle.std.specs.declared.cmp.Ordering.{Ordering}
use Rattle.std.specs.Ordering.{is_eq}
use Rattle.guides.specs.declared.answer.Mended.{Mended}
use Rattle.records.specs.declared.answer.Answer.{Answer}
use Rattle.records.specs.declared.answer.Answer.TheVariants.{Yes, No, Found, Missing, NoRoom}
use Rattle.records.specs.declared.answer.Refusal.{Refusal}
use Rattle.records.specs.declared.answer.Stepped.{Stepped}
use Rattle.records.specs.declared.answer.Stepped.TheVariants.{Moved, Waits, Ended}
use Rattle.records.specs.declared.record.Place.{Place}
use Rattle.records.specs.declared.record.Station.{Station}
use Rattle.records.specs.declared.record.Task.{Task}
use Rattle.records.specs.declared.record.Work.{Work}
use Rattle.records.specs.declared.record.Work.TheVariants.{Put, Strike, Look, First, After}
use Rattle.engine.specs.Calling.{Opened, opening, beginning, Begins, leaving, Leaves, Steps}
use Rattle.engine.specs.Contents.{listing, Lists}
use Rattle.promises.specs.Books.{Book, keys, work_at}

-- The calls on an open book.
pub data Call (K : Type 0) : Type 0 where
  begin : ℕ → Work → K → Call K
  step : ℕ → Call K
  leave : ℕ → Call K
  mend : Call K
  -- list into these keys
  list : List K → Call K

-- What a call answered; a list also the keys that it left.
pub data Reply (K : Type 0) : Type 0 where
  begun : Result (Unit {0}) Refusal → Reply K
  stepped : Result (Stepped K) Refusal → Reply K
  left : Result (Unit {0}) Refusal → Reply K
  mended : Mended → Reply K
  listed : Result ℕ Refusal → List K → Reply K

abbrev pub is_strike : Work → Bool
is_strike Put = false
is_strike Strike = true
is_strike Look = false
is_strike First = false
is_strike After = false

module _ {K : Type 0} where
  abbrev pub is_yes : Answer K → Bool
  is_yes Yes = true
  is_yes No = false
  is_yes (Found key) = false
  is_yes Missing = false
  is_yes NoRoom = false

  -- The step ended its work with yes.
  abbrev pub ends_with_yes : Result (Stepped K) Refusal → Bool
  ends_with_yes (Ok Moved) = false
  ends_with_yes (Ok Waits) = false
  ends_with_yes (Ok (Ended a n)) = is_yes a
  ends_with_yes (Err e) = false

  -- The work is a strike that has taken place p.
  abbrev pub strikes_place : ℕ → Option (Task K) → Bool
  strikes_place p None = false
  strikes_place p (Some t) = is_strike t.work && t.other == p

module _ {K : Type 0} (rank : K → K → Ordering) where
  -- A call on book b answered so and left book b'. This is what the contracts of the calls say, refusals too, of a guide
  -- that is known by its meaning alone.
  abbrev pub Does : Book K → Call K → Reply K → Book K → Type 0
  Does b (begin i work key) (begun r) b' = Begins (beginning b.stations i work key) b.stations r b'.stations × (b'.places ≡ b.places) × (b'.guide ≡ b.guide)
  Does b (begin i work key) (stepped r) b' = ⊥
  Does b (begin i work key) (left r) b' = ⊥
  Does b (begin i work key) (mended m) b' = ⊥
  Does b (begin i work key) (listed r after) b' = ⊥
  Does b (step i) (begun r) b' = ⊥
  Does b (step i) (stepped r) b' = Steps (λ m. m) rank i b.places b.stations b.guide r b'.places b'.stations b'.guide
  Does b (step i) (left r) b' = ⊥
  Does b (step i) (mended m) b' = ⊥
  Does b (step i) (listed r after) b' = ⊥
  Does b (leave i) (begun r) b' = ⊥
  Does b (leave i) (stepped r) b' = ⊥
  Does b (leave i) (left r) b' = Leaves (leaving b.places b.stations i) b.places b.stations r b'.places b'.stations × (b'.guide ≡ b.guide)
  Does b (leave i) (mended m) b' = ⊥
  Does b (leave i) (listed r after) b' = ⊥
  Does b mend (begun r) b' = ⊥
  Does b mend (stepped r) b' = ⊥
  Does b mend (left r) b' = ⊥
  Does b mend (mended m) b' = b' ≡ b
  Does b mend (listed r after) b' = ⊥
  Does b (list given) (begun r) b' = ⊥
  Does b (list given) (stepped r) b' = ⊥
  Does b (list given) (left r) b' = ⊥
  Does b (list given) (mended m) b' = ⊥
  Does b (list given) (listed r after) b' = Lists (listing b.places (length given)) given r after × (b' ≡ b)

  -- The book that an accepted open leaves.
  abbrev pub opened_book : Opened K → Book K
  opened_book o = record { places = o.places; stations = o.stations; guide = o.meaning }

  -- A run that has come to a book: it was opened, for some guide that holds `most` places, and calls followed.
  pub data Run : Book K → Type 0 where
    opened : (most : ℕ) (ps : List (Place K)) (ss : List (Station K)) (o : Opened K) → opening most ps ss ≡ Ok o → Run (opened_book o)
    next : {b : Book K} (c : Call K) (a : Reply K) (b' : Book K) → Run b → Does b c a b' → Run b'

  -- Station i has a work under way.
  abbrev pub works_in : Book K → ℕ → Bool
  works_in b i = is_some (work_at b i)

  -- The call is an accepted step of station i.
  abbrev pub is_step_of : ℕ → Call K → Reply K → Bool
  is_step_of i (begin j work key) a = false
  is_step_of i (step j) (begun r) = false
  is_step_of i (step j) (stepped r) = j == i && is_ok r
  is_step_of i (step j) (left r) = false
  is_step_of i (step j) (mended m) = false
  is_step_of i (step j) (listed r after) = false
  is_step_of i (leave j) a = false
  is_step_of i mend a = false
  is_step_of i (list given) a = false

  -- Two lists hold the same keys in the same order.
  abbrev pub same_keys : List K → List K → Bool
  same_keys [] [] = true
  same_keys [] (y ∷ ys) = false
  same_keys (x ∷ xs) [] = false
  same_keys (x ∷ xs) (y ∷ ys) = is_eq (rank x y) && same_keys xs ys

  -- What is kept for the work now under way at station i: it starts anew when a work begins, is gone when none is under
  -- way, and grows with each call between.
  abbrev pub for_work : {A : Type 0} → Bool → Bool → A → A → A → A
  for_work before after none start more = cond after (cond before more start) none

  -- The books that stood after the begin of the work under way at station i and after each later call, newest first.
  unfoldable pub since : {b : Book K} → Run b → ℕ → List (Book K)
  since (opened most ps ss o e) i = []
  since (next {b} c a b' r d) i = for_work (works_in b i) (works_in b' i) [] (b' ∷ []) (b' ∷ since r i)

  -- How many steps it was given: its own steps.
  unfoldable pub given_steps : {b : Book K} → Run b → ℕ → ℕ
  given_steps (opened most ps ss o e) i = 0
  given_steps (next {b} c a b' r d) i = for_work (works_in b i) (works_in b' i) 0 0 (given_steps r i + cond (is_step_of i c a) 1 0)

  -- One if this call is a step of station i that changed the keys.
  abbrev pub changes_now : ℕ → Book K → Call K → Reply K → Book K → ℕ
  changes_now i b c a b' = cond (is_step_of i c a && not (same_keys (keys b) (keys b'))) 1 0

  -- How many of its own steps changed the keys.
  unfoldable pub changed_times : {b : Book K} → Run b → ℕ → ℕ
  changed_times (opened most ps ss o e) i = 0
  changed_times (next {b} c a b' r d) i = for_work (works_in b i) (works_in b' i) 0 0 (changed_times r i + changes_now i b c a b')

  -- The call is a step that ended the strike of place p with yes: p is retired by it.
  abbrev pub retires_now : ℕ → Book K → Call K → Reply K → Bool
  retires_now p b (begin j work key) a = false
  retires_now p b (step j) (begun r) = false
  retires_now p b (step j) (stepped r) = strikes_place p (work_at b j) && ends_with_yes r
  retires_now p b (step j) (left r) = false
  retires_now p b (step j) (mended m) = false
  retires_now p b (step j) (listed r after) = false
  retires_now p b (leave j) a = false
  retires_now p b mend a = false
  retires_now p b (list given) a = false

  -- Place p was retired while the work now under way at station i was under way.
  unfoldable pub retired_during : {b : Book K} → Run b → ℕ → ℕ → Bool
  retired_during (opened most ps ss o e) p i = false
  retired_during (next {b} c a b' r d) p i = for_work (works_in b i) (works_in b' i) false false (retired_during r p i || retires_now p b c a)
