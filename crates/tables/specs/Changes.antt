-- What each change of the tree writes. Assumes nothing.
use Rattle.std.specs.Prelude.{ℕ, cond, not, ◌&&◌, ◌||◌, List, [], ◌∷◌, ◌==◌}
use Rattle.guides.specs.declared.answer.Side.{Side}
use Rattle.guides.specs.declared.answer.Side.TheVariants.{Lower, Higher}
use Rattle.tables.specs.declared.entry.Entry.{Entry}
use Rattle.guides.specs.Sides.{opposite}
use Rattle.tables.specs.Entries.{blank, child, with_child, with_parent, with_before, with_after}
use Rattle.tables.specs.Entries.{with_links, with_exchanged, fresh, only_child}
use Rattle.tables.specs.Revisions.{at, revised}

-- A place is hung on a side of a parent, and stands between two neighbours.
abbrev pub hanging : Side → ℕ → ℕ → ℕ → ℕ → List (ℕ × (Entry → Entry))
hanging side parent place lower upper =
    (parent, with_child side place)
    ∷ (place, λ _. fresh parent lower upper)
    ∷ (lower, with_after place)
    ∷ (upper, with_before place)
    ∷ []

-- A place with at most one child gives its spot to that child.
abbrev pub lifting : ℕ → Entry → List (ℕ × (Entry → Entry))
lifting place e =
    (e.parent, with_exchanged place (only_child e)) ∷ (only_child e, with_parent e.parent) ∷ []

-- A place gives its spot, with all that hangs there, to another one.
abbrev pub yielding : ℕ → ℕ → Entry → List (ℕ × (Entry → Entry))
yielding place other e =
    (e.parent, with_exchanged place other)
    ∷ (e.children.left, with_parent other)
    ∷ (e.children.right, with_parent other)
    ∷ (other, with_links e)
    ∷ []

-- The neighbours of a place become each other's, and its entry becomes blank.
abbrev pub parting : ℕ → Entry → List (ℕ × (Entry → Entry))
parting place e = (e.before, with_after e.after) ∷ (e.after, with_before e.before) ∷ (place, λ _. blank) ∷ []

-- The child c of a place on a side takes its spot; the place gets c's inner child there, and hangs on c's other side.
abbrev pub turning : Side → ℕ → Entry → ℕ → List (ℕ × (Entry → Entry))
turning side place e inner =
    (place, λ d. with_parent (child side e) (with_child side inner d))
    ∷ (inner, with_parent place)
    ∷ (e.parent, with_exchanged place (child side e))
    ∷ (child side e, λ d. with_parent e.parent (with_child (opposite side) place d))
    ∷ []

unfoldable pub hung : Side → ℕ → ℕ → ℕ → ℕ → List Entry → List Entry
hung side parent place lower upper es = revised (hanging side parent place lower upper) es

-- A place is hung between two neighbours: on the right of the lower one, if that is not Low and has no child there, else
-- on the left of the upper one.
unfoldable pub hung_between : ℕ → ℕ → ℕ → List Entry → List Entry
hung_between lower place upper es =
    cond (not (lower == 0) && (at es lower).children.right == 0)
    (hung Higher lower place lower upper es)
    (hung Lower upper place lower upper es)

unfoldable pub lifted : ℕ → List Entry → List Entry
lifted place es = revised (lifting place (at es place)) es

unfoldable pub yielded : ℕ → ℕ → List Entry → List Entry
yielded place other es = revised (yielding place other (at es place)) es

unfoldable pub parted : ℕ → List Entry → List Entry
parted place es = revised (parting place (at es place)) es

-- A place with at most one child is lifted out. With two children its successor is lifted out of its spot and gets the
-- place's.
unfoldable pub unlinked : ℕ → List Entry → List Entry
unlinked place es =
    cond ((at es place).children.left == 0 || (at es place).children.right == 0)
    (lifted place es)
    (yielded place (at es place).after (lifted (at es place).after es))

-- A place is taken out of the tree and of the sequence.
unfoldable pub taken_out : ℕ → List Entry → List Entry
taken_out place es = parted place (unlinked place es)

-- A place is turned: its child on the side takes its spot.
unfoldable pub turned : Side → ℕ → List Entry → List Entry
turned side place es =
    revised (turning side place (at es place) (child (opposite side) (at es (child side (at es place))))) es
