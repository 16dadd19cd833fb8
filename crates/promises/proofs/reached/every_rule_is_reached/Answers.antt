-- Every rule is reached, by one run that is played.
use Rattle.std.proofs.Common.{refl}
use Rattle.promises.proofs.AllRules.{every_rule_is_reached}
use Rattle.promises.proofs.reached.every_rule_is_reached.Goals as goal

pub returns : goal.returns
returns c = (refl, every_rule_is_reached)
