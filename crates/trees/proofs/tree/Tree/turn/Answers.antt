-- The child takes the spot of the place, and the table keeps the rule.
use Rattle.std.proofs.Common.{◌≡◌, ◌<◌, true, List, sym, ap, ◌∙◌, subst, arith}
use Rattle.std.proofs.lemmas.Bool.{and_from, lt-ltb, ne_eqb, not_from_false}
use Rattle.guides.specs.Meaning.{has}
use Rattle.tables.specs.declared.entry.Entry.{Entry}
use Rattle.tables.specs.Entries.{child}
use Rattle.tables.specs.Revisions.{at}
use Rattle.tables.specs.Shapes.{tree_meaning}
use Rattle.tables.proofs.Holding.{Kept}
use Rattle.trees.specs.Plain.{plain, entries_of}
use Rattle.trees.proofs.Keeping.{turn_keeps, turn_means}
use Rattle.trees.proofs.tree.Tree.turn.Goals as goal
use Rattle.trees.proofs.tree.Tree.turn.Goals.{After-turn}

stands : (c : After-turn) → has c.args.place (plain c.args.self.now).sequence ≡ true
stands c = sym c.if-not-stands.ensures

inner : (c : After-turn) → 1 < c.args.place
inner c = omega arith

there : (c : After-turn) → child c.args.side (at (entries_of c.args.self.now) c.args.place) ≡ 0 → ⊥
there c e = c.if-child-eq-LOW.false (c.child-child.ensures ∙ ap (child c.args.side) c.entry.ensures ∙ e)

pub invariant_of-self : goal.invariant_of-self
invariant_of-self c =
    let t = c.args.self.now in
    let kept = turn_keeps t c.args.side c.args.place (inner c) (stands c) (there c) in
    let k = subst (λ (es : List Entry). Kept es t.places) (sym c.turn.ensures) kept in
    record { sized = k.sized; bounded = k.room; lawful = k.law; linked = k.links; threaded = k.thread; resting = k.rest }

pub returns : goal.returns
returns c =
    let here = (goal.at.returns c).After-turn in
    let t = c.args.self.now in
    record {
      keeps =
          ap (λ (es : List Entry). tree_meaning es t.places) c.turn.ensures
          ∙ turn_means t c.args.side c.args.place (inner here) (stands here) (there here);
      tells =
          sym (and_from _ _ (lt-ltb 1 c.args.place (inner here))
          (and_from _ _ (stands here) (not_from_false _ (ne_eqb _ _ (there here)))));
      turns = c.turn.ensures;
    }
