-- Leave, by how far it came.
use Rattle.std.proofs.Common.{Some, Ok, Err, sym, ◌∙◌, subst}
use Rattle.records.specs.declared.answer.Refusal.TheVariants.{HoldsLock}
use Rattle.engine.specs.Calling.{leaving, Leaves, FindsStation}
use Rattle.engine.specs.Settling.{after_work}
use Rattle.engine.proofs.Found.{held}
use Rattle.engine.proofs.Called.{holds_lock_any, leaves_locked, leaves_work}
use Rattle.engine.proofs.call.leave.Goals as goal

pub returns-then-holds_lock : goal.returns-then-holds_lock
returns-then-holds_lock g c =
    let ps = c.args.places.now in
    let ss = c.args.stations.now in
    let me = c.new-me.result.number in
    let found = subst (λ i. FindsStation ss i (Some c.in_ok-task.task)) (sym c.new-me.ensures) (subst (FindsStation ss c.args.station) (held _ _ _ c.in_ok-task.ensures.value) c.in_ok-task_of.ensures) in
    subst (λ i. Leaves (leaving ps ss i) ps ss (Err HoldsLock) ps ss) c.new-me.ensures
    (leaves_locked ss me ps c.in_ok-task.task found (holds_lock_any ss me ps ∙ sym c.if-holds_lock.ensures))

pub returns : goal.returns
returns g c =
    let ps = c.args.places.now in
    let ss = c.args.stations.now in
    let me = c.new-me.result.number in
    let found = subst (λ i. FindsStation ss i (Some c.in_ok-task.task)) (sym c.new-me.ensures) (subst (FindsStation ss c.args.station) (held _ _ _ c.in_ok-task.ensures.value) c.in_ok-task_of.ensures) in
    subst (λ i. Leaves (leaving ps ss i) ps ss (Ok tt) c.end_work.new.places c.end_work.new.stations) c.new-me.ensures
    (subst (λ x. Leaves (leaving ps ss me) ps ss (Ok tt) x c.end_work.new.stations) (sym c.end_work.ensures.0)
    (subst (Leaves (leaving ps ss me) ps ss (Ok tt) (after_work me c.in_ok-task.task ps)) (sym c.end_work.ensures.1)
    (leaves_work ss me ps c.in_ok-task.task found (holds_lock_any ss me ps ∙ sym c.if-holds_lock.ensures))))
