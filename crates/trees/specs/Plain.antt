-- What the plain tree means, what it answers, and which of its places can be turned. Assumes nothing.
use Rattle.std.specs.Prelude.{ℕ, Bool, not, ◌&&◌, List, ◌==◌, nat_lt}
use Rattle.guides.specs.declared.answer.Beside.{Beside}
use Rattle.guides.specs.declared.answer.Side.{Side}
use Rattle.guides.specs.Meaning.{Meaning, has}
use Rattle.tables.specs.declared.entry.Entry.{Entry}
use Rattle.tables.specs.Entries.{child}
use Rattle.tables.specs.Leads.{led}
use Rattle.tables.specs.Revisions.{at}
use Rattle.tables.specs.Rows.{rows}
use Rattle.tables.specs.Shapes.{sequence_of, tree_meaning}
use Rattle.trees.specs.declared.tree.Tree.{Tree}

-- The entries of the tree, place by place.
abbrev pub entries_of : Tree → List Entry
entries_of t = rows t.table

-- The sequence is the tree's, from left to right, behind Low.
abbrev pub plain : Tree → Meaning
plain t = tree_meaning (entries_of t) t.places

-- Beside a place is its child on that side.
abbrev pub plain_beside : Tree → ℕ → Side → Beside
plain_beside t place side = led (entries_of t) place side

-- A place can be turned to a side if it stands in the sequence, is neither Low nor High, and has a child there.
abbrev pub can_turn : Side → ℕ → List Entry → Bool
can_turn side place es =
    nat_lt 1 place && (has place (sequence_of es) && not (child side (at es place) == 0))
