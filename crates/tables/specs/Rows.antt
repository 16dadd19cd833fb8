-- What a table holds. Assumes nothing.
use Rattle.std.specs.Prelude.{List}
use Rattle.tables.specs.declared.entry.Entry.{Entry}
use Rattle.tables.specs.declared.table.Table.{Table}

-- The entries of the table, place by place.
abbrev pub rows : Table → List Entry
rows t = t.entries.slots
