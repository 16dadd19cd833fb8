-- A run, step by step.
use Rattle.std.proofs.Common.{◌≡◌, ℕ, Ok, Err, sym, ap, ◌∙◌, subst, arith, rules}
use Rattle.std.proofs.lemmas.Result.{err_from_is_err_and}
use Rattle.engine.specs.Calling.{Steps}
use Rattle.play.specs.Running.{most_steps, Moves, Runs, none, more, stops, tires}
use Rattle.play.proofs.running.run.Goals as goal

pub loop-taken-init : goal.loop-taken-init
loop-taken-init g c = none

pub loop-taken-preserved : goal.loop-taken-preserved
loop-taken-preserved g c =
    let l = c.loop-taken in
    more c.step.new.places c.step.new.stations c.step.new.guide l.invariant
    (subst (λ x. Steps g.G.Guide.meaning g.K.Order.rank c.args.station l.places l.stations l.guide (Ok x) c.step.new.places c.step.new.stations c.step.new.guide)
    c.in-Moved.is c.in_ok-stopped.ensures)

pub returns : goal.returns
returns g c =
    let l = c.loop-taken in
    let all : l.taken ≡ most_steps = omega arith in
    tires (subst (λ n. Moves g.G.Guide.meaning g.K.Order.rank c.args.station c.args.places.now c.args.stations.now c.args.guide.now n l.places l.stations l.guide) all l.invariant)

pub returns-in_default : goal.returns-in_default
returns-in_default g c =
    let l = c.loop-taken in
    stops (Ok c.in_ok-stopped.stopped) c.step.new.places c.step.new.stations c.step.new.guide (omega arith) l.invariant c.in_ok-stopped.ensures (λ e. c.in_default.not-Moved (search rules))

pub returns-in_err-stopped : goal.returns-in_err-stopped
returns-in_err-stopped g c =
    let l = c.loop-taken in
    let p = err_from_is_err_and c.from_residual.result c.from_residual.ensures.1 in
    subst (λ r. Runs g.G.Guide.meaning g.K.Order.rank c.args.station c.args.places.now c.args.stations.now c.args.guide.now r c.step.new.places c.step.new.stations c.step.new.guide)
    (sym (p.1 ∙ ap Err p.2))
    (stops _ c.step.new.places c.step.new.stations c.step.new.guide (omega arith) l.invariant c.in_err-stopped.ensures
    (λ e. let no : ◌≡◌ {A = ℕ} 0 1 = cc e in omega arith))
