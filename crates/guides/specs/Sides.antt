-- The two sides of a place. Assumes nothing.
use Rattle.guides.specs.declared.answer.Side.{Side}
use Rattle.guides.specs.declared.answer.Side.TheVariants.{Lower, Higher}

-- The other side.
abbrev pub opposite : Side → Side
opposite Lower = Higher
opposite Higher = Lower
