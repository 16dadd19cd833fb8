-- The two tests are those of the thread.
use Rattle.std.proofs.Common.{rules}
use Rattle.trees.proofs.Keeping.{neighbours_is}
use Rattle.trees.proofs.tree.Tree.are_neighbours.Goals as goal

pub returns-then-upper-ne-LOW : goal.returns-then-upper-ne-LOW
returns-then-upper-ne-LOW c =
    let is = neighbours_is c.args.self.now c.args.lower c.args.upper in search rules
