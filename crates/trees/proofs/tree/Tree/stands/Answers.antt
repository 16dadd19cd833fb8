-- The two tests are those of the rule.
use Rattle.std.proofs.Common.{rules}
use Rattle.trees.proofs.Keeping.{stands_is}
use Rattle.trees.proofs.tree.Tree.stands.Goals as goal

pub returns-else-place-le-HIGH : goal.returns-else-place-le-HIGH
returns-else-place-le-HIGH c = let is = stands_is c.args.self.now c.args.place in search rules
