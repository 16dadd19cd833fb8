-- What each call does to the recorded heights. Assumes nothing.
use Rattle.std.specs.Prelude.{ℕ, cond, not, ◌&&◌, ◌||◌, List, ◌==◌, slice_set}
use Rattle.guides.specs.declared.answer.Side.{Side}
use Rattle.guides.specs.declared.answer.Side.TheVariants.{Lower, Higher}
use Rattle.tables.specs.declared.entry.Entry.{Entry}
use Rattle.guides.specs.Sides.{opposite}
use Rattle.tables.specs.Revisions.{at}
use Rattle.even.specs.declared.heights.Sides.{Sides}
use Rattle.even.specs.Sides.{flat, side_height, greater, one_more}
use Rattle.even.specs.Recorded.{sides_at, with_side}

-- Attach: a new place has 0 and 0, and the side that it fills becomes 1.
unfoldable pub marked_attached : ℕ → ℕ → ℕ → List Entry → List Sides → List Sides
marked_attached lower place upper es hs =
    cond (not (lower == 0) && (at es lower).children.right == 0)
    (with_side lower Higher 1 (slice_set hs place flat))
    (with_side upper Lower 1 (slice_set hs place flat))

-- Detach: a successor that moves up takes both heights of the place; no other changes.
unfoldable pub marked_detached : ℕ → List Entry → List Sides → List Sides
marked_detached place es hs =
    cond ((at es place).children.left == 0 || (at es place).children.right == 0) hs (slice_set hs (at es place).after (sides_at hs place))

-- A turn of a place whose child on the side is c: the place's height there becomes c's on the other side, and c's on
-- the other side becomes one more than the greater of the place's two.
unfoldable pub marked_turned : Side → ℕ → ℕ → List Sides → List Sides
marked_turned side place c hs =
    with_side c (opposite side)
    (one_more (greater (sides_at (with_side place side (side_height (opposite side) (sides_at hs c)) hs) place)))
    (with_side place side (side_height (opposite side) (sides_at hs c)) hs)
