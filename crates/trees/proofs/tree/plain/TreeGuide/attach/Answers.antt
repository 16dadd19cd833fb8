-- The place is hung where the rule has it, and the table keeps the rule.
use Rattle.std.proofs.Common.{◌≡◌, ◌<◌, true, false, List, sym, ap, ◌∙◌, subst, arith}
use Rattle.guides.specs.Meaning.{has, neighbours}
use Rattle.guides.proofs.Calls.{attach_accepts}
use Rattle.tables.specs.declared.entry.Entry.{Entry}
use Rattle.tables.specs.Shapes.{tree_meaning}
use Rattle.tables.proofs.Holding.{Kept}
use Rattle.trees.specs.Plain.{plain}
use Rattle.trees.proofs.Keeping.{attach_keeps, attach_means}
use Rattle.trees.proofs.tree.plain.TreeGuide.attach.Goals as goal
use Rattle.trees.proofs.tree.plain.TreeGuide.attach.Goals.{After-hang_between}

beside : (c : After-hang_between) → neighbours c.args.lower c.args.upper (plain c.args.self.now).sequence ≡ true
beside c = sym c.if-not-are_neighbours.ensures

fresh : (c : After-hang_between) → has c.args.place (plain c.args.self.now).sequence ≡ false
fresh c = sym c.if-stands.ensures

inside : (c : After-hang_between) → c.args.place < c.args.self.now.places
inside c = omega arith

pub invariant_of-self : goal.invariant_of-self
invariant_of-self c =
    let t = c.args.self.now in
    let kept = attach_keeps t c.args.lower c.args.place c.args.upper (beside c) (fresh c) (inside c) in
    let k = subst (λ (es : List Entry). Kept es t.places) (sym c.hang_between.ensures) kept in
    record { sized = k.sized; bounded = k.room; lawful = k.law; linked = k.links; threaded = k.thread; resting = k.rest }

pub returns : goal.returns
returns c =
    let here = (goal.at.returns c).After-hang_between in
    let t = c.args.self.now in
    let lower = c.args.lower in
    let place = c.args.place in
    let upper = c.args.upper in
    record {
      does = attach_accepts plain lower place upper t _ (fresh here) (inside here) (beside here)
          (ap (λ (es : List Entry). tree_meaning es t.places) c.hang_between.ensures
          ∙ attach_means t lower place upper (beside here) (fresh here) (inside here));
      entries = λ _. c.hang_between.ensures;
    }
