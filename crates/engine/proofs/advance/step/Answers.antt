-- A step, by how far it came.
use Rattle.std.proofs.Common.{Some, Ok, Err, sym, ap, ◌∙◌, subst}
use Rattle.std.proofs.lemmas.Result.{err_from_is_err_and}
use Rattle.engine.specs.Calling.{Steps, FindsStation}
use Rattle.engine.proofs.Found.{held, lacked}
use Rattle.engine.proofs.Made.{no_station, no_work, rule_failed, rule_followed}
use Rattle.engine.proofs.advance.step.Goals as goal

pub returns-in_err-task_of : goal.returns-in_err-task_of
returns-in_err-task_of g c =
    let ps = c.args.places.now in
    let ss = c.args.stations.now in
    let guide = c.args.guide.now in
    let p = err_from_is_err_and c.from_residual.result c.from_residual.ensures.1 in
    subst (λ r. Steps g.G.Guide.meaning g.K.Order.rank c.args.station ps ss guide r ps ss guide) (sym (p.1 ∙ ap Err p.2))
    (no_station g.G.Guide.meaning g.K.Order.rank c.args.station ps ss guide _ c.in_err-task_of.ensures)

pub returns-in_err-task : goal.returns-in_err-task
returns-in_err-task g c =
    let ps = c.args.places.now in
    let ss = c.args.stations.now in
    let guide = c.args.guide.now in
    let p = err_from_is_err_and c.from_residual-in_err-task.result c.from_residual-in_err-task.ensures.1 in
    let idle = lacked _ _ _ c.in_err-task.ensures.value in
    subst (λ r. Steps g.G.Guide.meaning g.K.Order.rank c.args.station ps ss guide r ps ss guide) (sym (p.1 ∙ ap Err (p.2 ∙ idle.error)))
    (no_work g.G.Guide.meaning g.K.Order.rank c.args.station ps ss guide (subst (FindsStation ss c.args.station) idle.none c.in_ok-task_of.ensures))

pub returns-in_err-outcome : goal.returns-in_err-outcome
returns-in_err-outcome g c =
    let ps = c.args.places.now in
    let ss = c.args.stations.now in
    let guide = c.args.guide.now in
    let me = c.new-me.result.number in
    let p = err_from_is_err_and c.from_residual-in_err-outcome.result c.from_residual-in_err-outcome.ensures.1 in
    let found = subst (λ i. FindsStation ss i (Some c.in_ok-task.task)) (sym c.new-me.ensures) (subst (FindsStation ss c.args.station) (held _ _ _ c.in_ok-task.ensures.value) c.in_ok-task_of.ensures) in
    subst (λ i. Steps g.G.Guide.meaning g.K.Order.rank i ps ss guide c.from_residual-in_err-outcome.result c.follow_rule.new.places ss c.follow_rule.new.guide) c.new-me.ensures
    (subst (λ r. Steps g.G.Guide.meaning g.K.Order.rank me ps ss guide r c.follow_rule.new.places ss c.follow_rule.new.guide)
    (sym (p.1 ∙ ap Err p.2))
    (rule_failed g.G.Guide.meaning g.K.Order.rank me ps ss guide c.in_ok-task.task found _ c.follow_rule.new.places
    c.follow_rule.new.guide c.in_err-outcome.ensures))

pub returns : goal.returns
returns g c =
    let ps = c.args.places.now in
    let ss = c.args.stations.now in
    let guide = c.args.guide.now in
    let found = subst (λ i. FindsStation ss i (Some c.in_ok-task.task)) (sym c.new-me.ensures) (subst (FindsStation ss c.args.station) (held _ _ _ c.in_ok-task.ensures.value) c.in_ok-task_of.ensures) in
    subst (λ i. Steps g.G.Guide.meaning g.K.Order.rank i ps ss guide (Ok c.settle.result) c.settle.new.places c.settle.new.stations c.follow_rule.new.guide) c.new-me.ensures
    (rule_followed g.G.Guide.meaning g.K.Order.rank c.new-me.result.number ps ss guide c.in_ok-task.task found
    c.in_ok-outcome.outcome c.follow_rule.new.places c.settle.new.places c.settle.new.stations c.follow_rule.new.guide
    c.settle.result c.in_ok-outcome.ensures c.settle.ensures)
