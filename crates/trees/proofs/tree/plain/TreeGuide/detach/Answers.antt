-- The place is taken out, and the table keeps the rule.
use Rattle.std.proofs.Common.{◌≡◌, ◌<◌, true, List, sym, ap, ◌∙◌, subst, arith}
use Rattle.guides.specs.Meaning.{has}
use Rattle.guides.proofs.Calls.{detach_accepts}
use Rattle.tables.specs.declared.entry.Entry.{Entry}
use Rattle.tables.specs.Shapes.{tree_meaning}
use Rattle.tables.proofs.Holding.{Kept}
use Rattle.trees.specs.Plain.{plain}
use Rattle.trees.proofs.Keeping.{detach_keeps, detach_means}
use Rattle.trees.proofs.tree.plain.TreeGuide.detach.Goals as goal
use Rattle.trees.proofs.tree.plain.TreeGuide.detach.Goals.{After-take_out}

stands : (c : After-take_out) → has c.args.place (plain c.args.self.now).sequence ≡ true
stands c = sym c.if-not-stands.ensures

inner : (c : After-take_out) → 1 < c.args.place
inner c = omega arith

pub invariant_of-self : goal.invariant_of-self
invariant_of-self c =
    let t = c.args.self.now in
    let kept = detach_keeps t c.args.place (inner c) (stands c) in
    let k = subst (λ (es : List Entry). Kept es t.places) (sym c.take_out.ensures) kept in
    record { sized = k.sized; bounded = k.room; lawful = k.law; linked = k.links; threaded = k.thread; resting = k.rest }

pub returns : goal.returns
returns c =
    let here = (goal.at.returns c).After-take_out in
    let t = c.args.self.now in
    let place = c.args.place in
    record {
      does = detach_accepts plain place t _ (inner here) (stands here)
          (ap (λ (es : List Entry). tree_meaning es t.places) c.take_out.ensures
          ∙ detach_means t place (inner here) (stands here));
      entries = λ _. c.take_out.ensures;
    }
