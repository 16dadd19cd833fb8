-- The set has somebody as `contains` finds it.
use Rattle.std.proofs.Common.{false, refl, rules}
use Rattle.std.proofs.lemmas.List.Recursion.{or_is}
use Rattle.engine.specs.Settling.{anyone}
use Rattle.engine.proofs.settle.anyone.Goals as goal

pub returns : goal.returns
returns c = or_is anyone (λ b. b) refl (λ _ _. refl) c.args.waits.now false _ (search rules) (search rules)
