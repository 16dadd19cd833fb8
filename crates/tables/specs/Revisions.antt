-- Changes of a table, entry by entry. Assumes nothing.
use Rattle.std.specs.Prelude.{◌≡◌, ℕ, List, [], ◌∷◌, replicate, slice_index_or, slice_set}
use Rattle.tables.specs.declared.entry.Entry.{Entry}
use Rattle.tables.specs.Entries.{blank, with_after}

-- The entry of a place; beyond the table it is blank.
abbrev pub at : List Entry → ℕ → Entry
at es p = slice_index_or es p blank

-- One entry becomes another; beyond the table nothing does.
abbrev pub revise : ℕ → (Entry → Entry) → List Entry → List Entry
revise p f es = slice_set es p (f (at es p))

-- One entry becomes what a change may make of it; beyond the table nothing does.
abbrev pub Revises : (Entry → Entry → Type 0) → ℕ → List Entry → List Entry → Type 0
Revises Makes p es fs = (e : Entry) × Makes (at es p) e × (fs ≡ slice_set es p e)

-- Several entries become others, one after the other.
abbrev pub revised : List (ℕ × (Entry → Entry)) → List Entry → List Entry
revised [] es = es
revised (c ∷ cs) es = revised cs (revise c.0 c.1 es)

-- The table of a tree in which only High stands: High comes after Low.
unfoldable pub opened : List Entry
opened = revise 0 (with_after 1) (replicate 1024 blank)
