-- A pair of values, one for each side of a place. Assumes nothing.
use Rattle.guides.specs.declared.answer.Side.{Side}
use Rattle.guides.specs.declared.answer.Side.TheVariants.{Lower, Higher}
use Rattle.guides.specs.declared.by_side.BySide.{BySide}

-- The value on a side.
abbrev pub on_side : {T : Type 0} → Side → BySide T → T
on_side Lower b = b.left
on_side Higher b = b.right

-- The pair with another value on a side.
abbrev pub with_on_side : {T : Type 0} → Side → T → BySide T → BySide T
with_on_side Lower v b = record { left = v; right = b.right }
with_on_side Higher v b = record { left = b.left; right = v }
