-- What the even tree means, what it answers, and what a mend does. Assumes nothing.
use Rattle.std.specs.Prelude.{◌≡◌, ℕ, List}
use Rattle.guides.specs.declared.answer.Beside.{Beside}
use Rattle.guides.specs.declared.answer.Mended.{Mended}
use Rattle.guides.specs.declared.answer.Mended.TheVariants.{Mended as DidMend, Nothing}
use Rattle.guides.specs.declared.answer.Side.{Side}
use Rattle.guides.specs.Meaning.{Meaning}
use Rattle.tables.specs.declared.entry.Entry.{Entry}
use Rattle.trees.specs.Plain as tree
use Rattle.even.specs.declared.balanced.Even.{Even}
use Rattle.even.specs.declared.heights.Sides.{Sides}
use Rattle.even.specs.Balance.{Settled, Mends}
use Rattle.even.specs.Recorded.{recorded}

-- The entries of the tree, place by place.
abbrev pub entries_of : Even → List Entry
entries_of e = tree.entries_of e.tree

-- The recorded heights, place by place.
abbrev pub heights_of : Even → List Sides
heights_of e = recorded e.heights

-- The sequence is the tree's.
abbrev pub evened : Even → Meaning
evened e = tree.plain e.tree

-- Beside a place is its child on that side.
abbrev pub even_beside : Even → ℕ → Side → Beside
even_beside e place side = tree.plain_beside e.tree place side

-- Nothing is said exactly if nothing is to be mended, and the tree then stays. Else one small correction is made, and the
-- meaning stays.
abbrev pub Evens : Even → Mended → Even → Type 0
Evens e Nothing f = (f ≡ e) × Settled (entries_of e) (heights_of e)
Evens e DidMend f = (evened f ≡ evened e) × (Settled (entries_of e) (heights_of e) → ⊥) × Mends (entries_of e) (heights_of e) (entries_of f) (heights_of f)
