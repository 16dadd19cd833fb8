-- With the place taken out the table is lawful still.
use Rattle.std.proofs.Common.{◌≡◌, sym, ap, ◌∙◌, arith}
use Rattle.guides.specs.Lines.{line_meaning}
use Rattle.guides.specs.Meaning.{lawful}
use Rattle.guides.specs.Straight.{straight}
use Rattle.guides.proofs.Calls.{detach_accepts}
use Rattle.guides.proofs.Lines.{line_detached}
use Rattle.guides.proofs.Sequences.{detached, detached_is_lawful}
use Rattle.guides.proofs.line.straight.LineGuide.detach.Goals as goal
use Rattle.guides.proofs.line.straight.LineGuide.detach.Goals.{After-remove}

-- What the table means after the call.
made : (c : After-remove)
    → line_meaning c.remove.new.self.items c.args.self.now.places
    ≡ detached c.args.place (straight c.args.self.now)
made c =
    let line = c.args.self.now in
    ap (λ xs. line_meaning xs line.places) c.remove.ensures.items
    ∙ line_detached line c.args.place c.in-Some.at c.in-Some.ensures.holds

pub invariant_of-self : goal.invariant_of-self
invariant_of-self c =
    let line = c.args.self.now in
    let law = detached_is_lawful c.args.place (straight line) line.kept (omega arith) in
    record { bounded = omega arith; kept = ap lawful (made c) ∙ law }

pub returns : goal.returns
returns c =
    detach_accepts straight c.args.place c.args.self.now _ (omega arith)
    (sym c.in-Some.ensures.tells) (made (goal.at.returns c).After-remove)
