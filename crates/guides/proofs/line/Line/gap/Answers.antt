-- In a sequence of distinct places only what stands next to the lower place is its neighbour.
use Rattle.std.proofs.Common.{rules}
use Rattle.guides.proofs.Lines.{line_beside}
use Rattle.guides.proofs.Sequences.{neighbours_absent}
use Rattle.guides.proofs.line.Line.gap.Goals as goal

pub returns-in_err-at-clause-tells : goal.returns-in_err-at-clause-tells
returns-in_err-at-clause-tells c =
    let apart = neighbours_absent c.args.lower c.args.upper c.args.self.now.order.items in
    search rules

pub returns-clause-tells : goal.returns-clause-tells
returns-clause-tells c =
    let beside = line_beside c.args.self.now c.args.lower c.in_ok-at.at c.in_ok-at.ensures.holds c.args.upper in
    search rules
