-- DOWN as the step list has it, with the guide's answer, or any that its rules allow where it is not asked.
use Rattle.std.proofs.Common.{rules}
use Rattle.rules.proofs.Answerable.{some_beside}
use Rattle.rules.proofs.find.down.Goals as goal

pub returns-in_err-key : goal.returns-in_err-key
returns-in_err-key g c = let some = some_beside (g.G.Guide.meaning c.args.guide.now).sequence c.args.task.at _ in (some.0, some.1, search rules)

pub returns-in-Equal : goal.returns-in-Equal
returns-in-Equal g c = let some = some_beside (g.G.Guide.meaning c.args.guide.now).sequence c.args.task.at _ in (some.0, some.1, search rules)
