use Rattle.std.proofs.Common.{◌≡◌, ◌++◌, map, take, drop}
use Rattle.engine.specs.Settling.{let_go}
use Rattle.engine.proofs.settle.after_work.Given as goal

-- The places before the index no longer wait for station i.
abbrev pub invariant-loop-place : goal.invariant-loop-place
invariant-loop-place g l = l.places ≡ map (let_go l.seat.number) (take l.place-index l.initial.places) ++ drop l.place-index l.initial.places
