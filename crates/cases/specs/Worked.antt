-- Worked cases on the plain tree: what each work answers, and at which of its own steps. Assumes nothing.
use Rattle.std.specs.Prelude.{◌≡◌, ℕ, List, [], ◌∷◌, Ok, Result}
use Rattle.orders.specs.declared.number.Ingredient.{Ingredient}
use Rattle.records.specs.declared.answer.Answer.{Answer}
use Rattle.records.specs.declared.answer.Answer.TheVariants.{Yes, No, Found, Missing, NoRoom}
use Rattle.records.specs.declared.answer.Refusal.{Refusal}
use Rattle.records.specs.declared.answer.Stepped.{Stepped}
use Rattle.records.specs.declared.answer.Stepped.TheVariants.{Moved, Waits, Ended}
use Rattle.records.specs.declared.record.Work.{Work}
use Rattle.records.specs.declared.record.Work.TheVariants.{Put, Strike, Look, First, After}
use Rattle.cases.specs.Desks.{desk, number, Act, begins, steps, answers}

-- A work that ended with this answer at the n-th of its own steps.
abbrev pub ended : Answer Ingredient → ℕ → Result (Stepped Ingredient) Refusal
ended a n = Ok (Ended a n)

-- One work at station 0 from its begin to its end, which comes within a hundred steps.
abbrev pub one : Work → ℕ → List Act → List Act
one work key more = begins 0 work key ∷ (steps 0 100 ∷ more)

-- On an empty book of 8 places; a book of 2 places has no room.
pub record OnAnEmptyBook : Type 0 where
  pub put : answers (one Put 20 []) (desk 8 1) ≡ ended Yes 14 ∷ []
  pub put_without_room : answers (one Put 20 []) (desk 2 1) ≡ ended NoRoom 9 ∷ []
  pub strike : answers (one Strike 20 []) (desk 8 1) ≡ ended No 8 ∷ []
  pub look : answers (one Look 20 []) (desk 8 1) ≡ ended No 7 ∷ []
  pub first : answers (one First 0 []) (desk 8 1) ≡ ended Missing 1 ∷ []

-- On a book of 8 places that holds 20, which was put before.
pub record OnABookOf20 : Type 0 where
  pub put : answers (one Put 20 (one Put 20 [])) (desk 8 1) ≡ ended Yes 14 ∷ ended No 9 ∷ []
  pub strike : answers (one Put 20 (one Strike 20 [])) (desk 8 1) ≡ ended Yes 14 ∷ ended Yes 16 ∷ []
  pub look : answers (one Put 20 (one Look 20 [])) (desk 8 1) ≡ ended Yes 14 ∷ ended Yes 5 ∷ []
  pub look_below : answers (one Put 20 (one Look 10 [])) (desk 8 1) ≡ ended Yes 14 ∷ ended No 8 ∷ []
  pub after_below : answers (one Put 20 (one After 10 [])) (desk 8 1) ≡ ended Yes 14 ∷ ended (Found (number 20)) 8 ∷ []

-- With 3 places there is room for one key. Station 0 strikes it for 11 steps; station 1 puts it again and waits at its step 7;
-- station 0 ends; station 1 then finds no room at its step 10, since the struck place still waits for it.
abbrev pub two_stations : List Act
two_stations = one Put 20 (begins 0 Strike 20 ∷ steps 0 11 ∷ begins 1 Put 20 ∷ steps 1 7 ∷ steps 0 100 ∷ steps 1 100 ∷ [])

abbrev pub AStruckPlaceWaits : Type 0
AStruckPlaceWaits = answers two_stations (desk 3 2) ≡ ended Yes 14 ∷ Ok Moved ∷ Ok Waits ∷ ended Yes 16 ∷ ended NoRoom 10 ∷ []

-- All of them.
pub record WorkedCases : Type 0 where
  pub on_an_empty_book : OnAnEmptyBook
  pub on_a_book_of_20 : OnABookOf20
  pub a_struck_place_waits : AStruckPlaceWaits
