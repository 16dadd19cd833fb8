use Rattle.std.proofs.Common.{◌≡◌, ◌++◌, map, take, drop}
use Rattle.engine.specs.Calling.{vacated}
use Rattle.engine.proofs.call.vacate_all.Given as goal

-- The places before the index are free.
abbrev pub invariant-loop-place : goal.invariant-loop-place
invariant-loop-place g l = l.places ≡ map vacated (take l.place-index l.initial.places) ++ drop l.place-index l.initial.places
