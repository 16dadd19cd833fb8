-- What the table of the straight guide means. Assumes nothing.
use Rattle.std.specs.Prelude.{ℕ, List}
use Rattle.guides.specs.Meaning.{Meaning}

-- The table holds the sequence.
abbrev pub line_meaning : List ℕ → ℕ → Meaning
line_meaning order places = record { sequence = order; places = places }
