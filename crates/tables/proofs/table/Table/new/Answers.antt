-- Every slot holds the blank entry, and Low's is then written.
use Rattle.std.proofs.Common.{replicate, ap, ◌∙◌}
use Rattle.tables.specs.Entries.{with_after}
use Rattle.tables.specs.Revisions.{revise, opened}
use Rattle.tables.proofs.table.Table.new.Goals as goal

pub returns : goal.returns
unfolding opened
returns c =
    c.set_after.ensures ∙ ap (revise 0 (with_after 1)) (c.new.ensures ∙ ap (replicate 1024) c.blank.ensures)
