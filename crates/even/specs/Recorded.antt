-- The heights that are recorded for all places. Assumes nothing.
use Rattle.std.specs.Prelude.{ℕ, List, slice_index_or, slice_set}
use Rattle.guides.specs.declared.answer.Side.{Side}
use Rattle.even.specs.declared.heights.Heights.{Heights}
use Rattle.even.specs.declared.heights.Sides.{Sides}
use Rattle.even.specs.Sides.{flat, with_height}

-- The heights, place by place.
abbrev pub recorded : Heights → List Sides
recorded h = h.sides.slots

-- The heights of a place; beyond the table they are flat.
abbrev pub sides_at : List Sides → ℕ → Sides
sides_at hs p = slice_index_or hs p flat

-- Another height of a place on a side.
abbrev pub with_side : ℕ → Side → ℕ → List Sides → List Sides
with_side p side h hs = slice_set hs p (with_height side h (sides_at hs p))
