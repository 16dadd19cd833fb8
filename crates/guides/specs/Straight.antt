-- What the straight guide means. Assumes nothing.
use Rattle.std.specs.Prelude.{◌≡◌, ℕ, ◌<◌, length, slice_index}
use Rattle.guides.specs.Lines.{line_meaning}
use Rattle.guides.specs.Meaning.{Meaning}
use Rattle.guides.specs.declared.line.Line.{Line}

abbrev pub straight : Line → Meaning
straight l = line_meaning l.order.items l.places

-- The place is the one at this position of the sequence.
abbrev pub Holds : Line → ℕ → ℕ → Type 0
Holds l place at = (at < length l.order.items) × (slice_index l.order.items at ≡ place)
