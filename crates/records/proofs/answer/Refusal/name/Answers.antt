-- The name is the one that its label tells.
use Rattle.std.proofs.Common.{sym, ap}
use Rattle.records.specs.Labels.{refusal_label}
use Rattle.records.proofs.answer.Refusal.name.Goals as goal

pub returns-in-HoldsLock : goal.returns-in-HoldsLock
returns-in-HoldsLock c = ap (λ refusal. (refusal_label refusal).name) (sym c.in-HoldsLock.is)

pub returns-in-ShortList : goal.returns-in-ShortList
returns-in-ShortList c = ap (λ refusal. (refusal_label refusal).name) (sym c.in-ShortList.is)
