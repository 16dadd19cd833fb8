-- Every slot holds the flat heights.
use Rattle.std.proofs.Common.{replicate, ap, ◌∙◌}
use Rattle.even.proofs.heights.Heights.new.Goals as goal

pub returns : goal.returns
returns c = c.new.ensures ∙ ap (replicate 1024) c.flat.ensures
