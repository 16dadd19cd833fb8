-- What the calls make of a book: the records of the engine's calls lie in it. Assumes nothing.
use Rattle.std.specs.Prelude.{◌≡◌, ℕ, min, List, replicate, Ok, Err, vec_items, Result}
use Rattle.guides.specs.Meaning.{Meaning}
use Rattle.orders.specs.declared.number.Ingredient.{Ingredient}
use Rattle.orders.specs.Ranks.{by_ingredient}
use Rattle.records.specs.declared.answer.Refusal.{Refusal}
use Rattle.records.specs.declared.answer.Stepped.{Stepped}
use Rattle.records.specs.declared.record.Place.{Place}
use Rattle.records.specs.declared.record.Station.{Station}
use Rattle.records.specs.declared.record.Work.{Work}
use Rattle.records.specs.Records.{blank}
use Rattle.engine.specs.Calling.{Opened, beginning, Begins, leaving, Leaves}
use Rattle.engine.specs.Settling.{idle}
use Rattle.script.specs.declared.entry.LineRefusal.TheVariants.{BadLine, Call}
use Rattle.play.specs.declared.book.Book.{Book}
use Rattle.play.specs.declared.error.PlayError.{PlayError}
use Rattle.play.specs.declared.error.PlayError.TheVariants.{Refused, OutOfMemory}
use Rattle.play.specs.Running.{Runs}

abbrev pub ingredient : ℕ → Ingredient
ingredient key = record { 0 = key }

-- The records that an open is given: as many as were asked for, but of each at most one more than the index serves, so
-- that open itself refuses the count.
abbrev pub new_places : ℕ → List (Place Ingredient)
new_places count = replicate (min count 1025) (blank (ingredient 0))

abbrev pub new_stations : ℕ → List (Station Ingredient)
new_stations count = replicate (min count 17) idle

module _ {G : Type 0} where
  abbrev pub places : Book G → List (Place Ingredient)
  places b = vec_items b.places

  abbrev pub stations : Book G → List (Station Ingredient)
  stations b = vec_items b.stations

  module _ (meaning : G → Meaning) where
    -- A book was opened, or refused, as the engine's open tells.
    abbrev pub OpensBook : Result (Opened Ingredient) Refusal → Result (Book G) Refusal → Type 0
    OpensBook (Ok told) (Ok b) = (places b ≡ told.places) × (stations b ≡ told.stations) × (meaning b.guide ≡ told.meaning)
    OpensBook (Ok told) (Err refusal) = ⊥
    OpensBook (Err refusal) (Ok b) = ⊥
    OpensBook (Err refusal) (Err r) = r ≡ refusal

    -- Unless memory lacks, a book was opened so. The form of a line is nothing that an open refuses.
    abbrev pub OpensOrLacks : Result (Opened Ingredient) Refusal → Result (Book G) PlayError → Type 0
    OpensOrLacks told (Ok b) = OpensBook told (Ok b)
    OpensOrLacks told (Err (Refused (Call refusal))) = OpensBook told (Err refusal)
    OpensOrLacks told (Err (Refused BadLine)) = ⊥
    OpensOrLacks told (Err (OutOfMemory lack)) = Unit {0}

    -- Station i of the book ran.
    abbrev pub RunsIn : ℕ → Book G → Result (Stepped Ingredient) Refusal → Book G → Type 0
    RunsIn i b r b' = Runs meaning by_ingredient i (places b) (stations b) b.guide r (places b') (stations b') b'.guide

  -- A work began in the book; its places and its guide are as they were.
  abbrev pub BeginsIn : ℕ → Work → ℕ → Book G → Result (Unit {0}) Refusal → Book G → Type 0
  BeginsIn i work key b r b' = Begins (beginning (stations b) i work (ingredient key)) (stations b) r (stations b') × (places b' ≡ places b) × (b'.guide ≡ b.guide)

  -- A work was left; the book's guide is as it was.
  abbrev pub LeavesIn : ℕ → Book G → Result (Unit {0}) Refusal → Book G → Type 0
  LeavesIn i b r b' = Leaves (leaving (places b) (stations b) i) (places b) (stations b) r (places b') (stations b') × (b'.guide ≡ b.guide)
