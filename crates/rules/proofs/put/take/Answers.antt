-- TAKE as the step list has it, with the free place that the search found, or none.
use Rattle.std.proofs.Common.{rules}
use borrow.Author.Rules.{get_or_read}
use Rattle.rules.proofs.put.take.Goals as goal

pub returns-in_err-next : goal.returns-in_err-next
returns-in_err-next g c = (c.free_place-free.result, c.free_place-free.ensures.takes c.args.task.key, search (rules, get_or_read))
