-- The table in which only High stands keeps the rule.
use Rattle.std.proofs.Common.{List, sym, ap, ◌∙◌, subst}
use Rattle.tables.specs.declared.entry.Entry.{Entry}
use Rattle.tables.specs.Shapes.{tree_meaning}
use Rattle.tables.proofs.Holding.{Kept}
use Rattle.trees.proofs.Keeping.{opened_keeps, opened_means}
use Rattle.trees.proofs.tree.Tree.with_places.Goals as goal

pub invariant_of-result : goal.invariant_of-result
invariant_of-result c =
    let n = c.args.places in
    let k = subst (λ (es : List Entry). Kept es n) (sym c.new.ensures) (opened_keeps n c.requires.0 c.requires.1) in
    record { sized = k.sized; bounded = k.room; lawful = k.law; linked = k.links; threaded = k.thread; resting = k.rest }

pub returns : goal.returns
returns c =
    let n = c.args.places in
    ap (λ (es : List Entry). tree_meaning es n) c.new.ensures ∙ opened_means n c.requires.0 c.requires.1
