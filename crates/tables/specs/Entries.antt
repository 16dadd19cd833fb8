-- What an entry of the table is, and what it becomes when one of its links is written. Assumes nothing.
use Rattle.std.specs.Prelude.{ℕ, cond, ◌==◌}
use Rattle.guides.specs.declared.answer.Side.{Side}
use Rattle.guides.specs.declared.answer.Side.TheVariants.{Lower, Higher}
use Rattle.guides.specs.Pairs.{on_side, with_on_side}
use Rattle.tables.specs.declared.entry.Entry.{Entry}

-- The entry of a place that does not stand in the tree.
abbrev pub blank : Entry
blank = record { children = record { left = 0; right = 0 }; parent = 0; before = 0; after = 0 }

-- The child on a side.
abbrev pub child : Side → Entry → ℕ
child side e = on_side side e.children

-- The entry with another child on a side.
abbrev pub with_child : Side → ℕ → Entry → Entry
with_child side c e = record { children = with_on_side side c e.children; parent = e.parent; before = e.before; after = e.after }

-- The entry with another parent.
abbrev pub with_parent : ℕ → Entry → Entry
with_parent q e = record { children = e.children; parent = q; before = e.before; after = e.after }

-- The entry with another neighbour before it.
abbrev pub with_before : ℕ → Entry → Entry
with_before b e = record { children = e.children; parent = e.parent; before = b; after = e.after }

-- The entry with another neighbour after it.
abbrev pub with_after : ℕ → Entry → Entry
with_after a e = record { children = e.children; parent = e.parent; before = e.before; after = a }

-- The entry with the children and the parent of another one, and its own neighbours.
abbrev pub with_links : Entry → Entry → Entry
with_links d e = record { children = d.children; parent = d.parent; before = e.before; after = e.after }

-- The side on which a child hangs.
abbrev pub side_of : ℕ → Entry → Side
side_of c e = cond (e.children.left == c) Lower Higher

-- The entry with a new child in the spot of an old one.
abbrev pub with_exchanged : ℕ → ℕ → Entry → Entry
with_exchanged old new e = with_child (side_of old e) new e

-- The entry of a place that is hung on a parent between two neighbours.
abbrev pub fresh : ℕ → ℕ → ℕ → Entry
fresh q b a = record { children = record { left = 0; right = 0 }; parent = q; before = b; after = a }

-- The child of a place that has at most one, 0 if it has none.
abbrev pub only_child : Entry → ℕ
only_child e = cond (e.children.left == 0) e.children.right e.children.left
