-- A book as the calls leave it. Assumes nothing.
use Rattle.std.specs.Prelude.{ℕ, List, Option}
use Rattle.guides.specs.Meaning.{Meaning}
use Rattle.records.specs.declared.record.Place.{Place}
use Rattle.records.specs.declared.record.Station.{Station}
use Rattle.records.specs.declared.record.Task.{Task}
use Rattle.engine.specs.Calling.{task_at}
use Rattle.engine.specs.Contents.{contents}

-- A book: its places, its stations and what its guide means.
pub record Book (K : Type 0) : Type 0 where
  pub places : List (Place K)
  pub stations : List (Station K)
  pub guide : Meaning

module _ {K : Type 0} where
  -- The keys that the book holds.
  abbrev pub keys : Book K → List K
  keys b = contents b.places

  -- The work under way at station i.
  abbrev pub work_at : Book K → ℕ → Option (Task K)
  work_at b i = task_at b.stations i
