-- The table has room for a place that is missing, and with it the table is lawful again.
use Rattle.std.proofs.Common.{◌≡◌, ◌<◌, true, false, length, sym, ap, ◌∙◌, arith}
use Rattle.guides.specs.Lines.{line_meaning}
use Rattle.guides.specs.Meaning.{has, lawful, neighbours}
use Rattle.guides.specs.Straight.{straight}
use Rattle.guides.proofs.Calls.{attach_accepts, attach_refuses_outside, attach_refuses_standing}
use Rattle.guides.proofs.Lines.{line_attached, line_room}
use Rattle.guides.proofs.Sequences.{attached, attached_is_lawful}
use Rattle.guides.proofs.line.straight.LineGuide.attach.Goals as goal
use Rattle.guides.proofs.line.straight.LineGuide.attach.Goals.{In-Some, After-insert}
use Rattle.guides.proofs.line.straight.LineGuide.attach.Goals.{then-self-from-via-then-self-from}
use Rattle.guides.proofs.line.straight.LineGuide.attach.Goals.{then-self-from-via-else-self-from+then-is_some}

pub returns-then-self-from : goal.returns-then-self-from
returns-then-self-from c =
    let line = c.args.self.now in
    let outside = attach_refuses_outside straight c.args.lower c.args.place c.args.upper line in
    let standing = attach_refuses_standing straight c.args.lower c.args.place c.args.upper line in
    elim c.then-self-from.branch [
      | then-self-from-via-then-self-from w ↦ outside (omega arith)
      | then-self-from-via-else-self-from+then-is_some w ↦
          standing (sym w.position.ensures.tells ∙ sym w.if-is_some.ensures)
    ]

-- The four tests of the rule, all passed.
fresh : (c : In-Some) → has c.args.place c.args.self.now.order.items ≡ false
fresh c = sym c.position.ensures.tells ∙ sym c.if-is_some.ensures

inside : (c : In-Some) → c.args.place < c.args.self.now.places
inside c = omega arith

beside : (c : In-Some) → neighbours c.args.lower c.args.upper c.args.self.now.order.items ≡ true
beside c = sym c.in-Some.ensures.tells

room : (c : In-Some) → length c.args.self.now.order.items < c.args.self.now.places
room c = line_room c.args.self.now c.args.place (fresh c) (inside c)

pub overflow_add-at : goal.overflow_add-at
overflow_add-at c = omega (arith, room (goal.at.overflow_add-at c).In-Some, c.in-Some.ensures.holds)

pub insert-requires : goal.insert-requires
insert-requires c =
    let here = room (goal.at.insert-requires c).In-Some in
    (omega arith, (omega (arith, c.in-Some.ensures.holds), omega (arith, here)))

-- What the table means after the call.
made : (c : After-insert)
    → line_meaning c.insert.new.self.items c.args.self.now.places
    ≡ attached c.args.lower c.args.place (straight c.args.self.now)
made c =
    let line = c.args.self.now in
    ap (λ xs. line_meaning xs line.places) c.insert.ensures.items
    ∙ line_attached line c.args.lower c.in-Some.at c.in-Some.ensures.holds c.args.place

pub invariant_of-self : goal.invariant_of-self
invariant_of-self c =
    let line = c.args.self.now in
    let here = (goal.at.invariant_of-self c).In-Some in
    let law =
    attached_is_lawful c.args.lower c.args.place c.args.upper (straight line) line.kept
    (fresh here) (inside here) (beside here) in
    record { bounded = omega arith; kept = ap lawful (made (goal.at.invariant_of-self c).After-insert) ∙ law }

pub returns : goal.returns
returns c =
    let here = (goal.at.returns c).In-Some in
    attach_accepts straight c.args.lower c.args.place c.args.upper c.args.self.now _
    (fresh here) (inside here) (beside here) (made (goal.at.returns c).After-insert)
