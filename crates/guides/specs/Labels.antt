-- The number and the name of each refusal of a guide. Assumes nothing.
use Rattle.std.specs.Prelude.{ℕ, List, codes}
use Rattle.guides.specs.declared.answer.GuideRefusal.{GuideRefusal}
use Rattle.guides.specs.declared.answer.GuideRefusal.TheVariants.{SmallGuide, BadSpot, NotThere}

pub record Label : Type 0 where
  pub number : ℕ
  -- the bytes of the name
  pub name : List ℕ

abbrev pub guide_label : GuideRefusal → Label
guide_label SmallGuide = record { number = 2; name = codes "SMALL GUIDE" }
guide_label BadSpot = record { number = 9; name = codes "BAD SPOT" }
guide_label NotThere = record { number = 10; name = codes "NOT THERE" }
