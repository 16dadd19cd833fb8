-- Each station is asked in turn.
use Rattle.std.proofs.Common.{false, rules, arith}
use Rattle.std.proofs.lemmas.List.FromFn.{fill_by_all}
use Rattle.engine.specs.Settling.{other_at_work, others_at_work}
use Rattle.engine.proofs.Filled.{made}
use Rattle.engine.proofs.settle.others_at_work.Goals as goal

pub returns : goal.returns
unfolding others_at_work
returns g c =
    let f = other_at_work c.args.me c.args.stations.now in
    fill_by_all f c.from_fn.result 16 false c.from_fn.ensures.items.long
    (λ k lt. made _ _ f (λ i y q called. (search rules, search rules)) c.from_fn.result false 0 16 c.from_fn.ensures.items.each k (omega arith) (omega (arith, lt)))
