use Rattle.play.specs.Running.{Moves}
use Rattle.play.proofs.running.run.Given as goal

-- The steps taken so far all moved.
abbrev pub invariant-loop-taken : goal.invariant-loop-taken
invariant-loop-taken g l = Moves g.G.Guide.meaning g.K.Order.rank l.station l.initial.places l.initial.stations l.initial.guide l.taken l.places l.stations l.guide
