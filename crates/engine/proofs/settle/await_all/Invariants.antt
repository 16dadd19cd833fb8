use Rattle.std.proofs.Common.{◌≡◌, ◌++◌, map, take, drop}
use Rattle.engine.specs.Settling.{awaiting}
use Rattle.engine.proofs.settle.await_all.Given as goal

-- The stations before the index are told.
abbrev pub invariant-loop-station : goal.invariant-loop-station
invariant-loop-station g l = l.stations ≡ map awaiting (take l.station-index l.initial.stations) ++ drop l.station-index l.initial.stations
