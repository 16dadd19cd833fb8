use Rattle.engine.proofs.Walked.{Walked}
use Rattle.engine.proofs.listing.count_keys.Given as goal

-- The walk has come so far.
abbrev pub invariant-loop : goal.invariant-loop
invariant-loop g l = Walked l.places l.from l.index l.at l.count
