-- What a tree answers when it is asked what stands beside a place. Assumes nothing.
use Rattle.std.specs.Prelude.{ℕ, cond, ◌||◌, List, ◌==◌}
use Rattle.guides.specs.declared.answer.Beside.{Beside}
use Rattle.guides.specs.declared.answer.Beside.TheVariants.{Absent, End, Stands}
use Rattle.guides.specs.declared.answer.Side.{Side}
use Rattle.guides.specs.Meaning.{has}
use Rattle.tables.specs.declared.entry.Entry.{Entry}
use Rattle.tables.specs.Entries.{child}
use Rattle.tables.specs.Revisions.{at}
use Rattle.tables.specs.Shapes.{sequence_of}

-- Absent for a place that does not stand in the sequence; else the child on that side, and end for Low or without one.
abbrev pub led_in : List ℕ → List Entry → ℕ → Side → Beside
led_in sequence es place side =
    cond (has place sequence)
    (cond (place == 0 || child side (at es place) == 0) End (Stands (child side (at es place))))
    Absent

-- The same, in the sequence of the table itself.
abbrev pub led : List Entry → ℕ → Side → Beside
led es place side = led_in (sequence_of es) es place side
