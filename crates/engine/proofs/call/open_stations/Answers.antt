-- Each call of the closure gives an idle station.
use Rattle.std.proofs.Common.{rules}
use Rattle.engine.specs.Settling.{idle}
use Rattle.engine.proofs.Filled.{filled}
use Rattle.engine.proofs.call.open_stations.Goals as goal

pub returns : goal.returns
returns g c = filled _ idle (λ p x q called. search rules) _ _ c.fill_with.new.self c.args.stations.now c.fill_with.ensures.ran.1 c.fill_with.ensures.len
