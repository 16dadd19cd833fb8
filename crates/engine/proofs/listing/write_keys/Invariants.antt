use Rattle.engine.proofs.Listed.{Copied}
use Rattle.engine.proofs.Walked.{Walked}
use Rattle.engine.proofs.listing.write_keys.Given as goal

-- The walk has come so far, and the keys behind it are written.
abbrev pub invariant-loop : goal.invariant-loop
invariant-loop g l = Walked l.places l.from l.index l.at l.count × Copied l.places l.from l.initial.keys l.index l.at l.count l.keys
