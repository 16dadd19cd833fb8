-- The two heights of a place. Assumes nothing.
use Rattle.std.specs.Prelude.{ℕ, ◌+◌, Bool, cond, ◌||◌, nat_lt}
use Rattle.guides.specs.declared.answer.Side.{Side}
use Rattle.guides.specs.declared.answer.Side.TheVariants.{Lower, Higher}
use Rattle.guides.specs.Pairs.{on_side, with_on_side}
use Rattle.even.specs.declared.heights.Sides.{Sides}

-- The heights of a place without children.
abbrev pub flat : Sides
flat = record { heights = record { left = 0; right = 0 } }

-- The height on a side.
abbrev pub side_height : Side → Sides → ℕ
side_height side s = on_side side s.heights

-- The heights with another one on a side.
abbrev pub with_height : Side → ℕ → Sides → Sides
with_height side h s = record { heights = with_on_side side h s.heights }

-- The greater of the two heights.
abbrev pub greater : Sides → ℕ
greater s = cond (nat_lt s.heights.left s.heights.right) s.heights.right s.heights.left

-- One more than a height, as far as a height counts.
abbrev pub one_more : ℕ → ℕ
one_more h = cond (nat_lt h 65535) (h + 1) h

-- The heights differ by 2 or more.
abbrev pub uneven : Sides → Bool
uneven s = nat_lt (s.heights.left + 1) s.heights.right || nat_lt (s.heights.right + 1) s.heights.left

-- The side of the greater height, the left one if they are equal.
abbrev pub heavier : Sides → Side
heavier s = cond (nat_lt s.heights.left s.heights.right) Higher Lower
