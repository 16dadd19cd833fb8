use Rattle.std.proofs.Common.{◌-◌, length, take, drop}
use Rattle.engine.proofs.Counted.{Tallied}
use Rattle.engine.proofs.counting.counts.Given as goal

-- So many places behind Low and High are counted, by each status.
abbrev pub invariant-loop-place : goal.invariant-loop-place
invariant-loop-place g l = Tallied (take (length l.places - 2) (drop 2 l.places)) l.place-index l.counts
