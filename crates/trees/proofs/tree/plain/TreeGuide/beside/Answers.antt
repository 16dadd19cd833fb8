-- The tree answers its child on that side.
use Rattle.std.proofs.Common.{◌≡◌, true, sym, ap, ◌∙◌}
use Rattle.std.proofs.lemmas.Bool.{cond-true, cond-false, ne_eqb, or_from}
use Rattle.guides.specs.declared.answer.Beside.TheVariants.{Stands}
use Rattle.guides.specs.Meaning.{has}
use Rattle.tables.specs.Entries.{child}
use Rattle.tables.specs.Revisions.{at}
use Rattle.tables.specs.Shapes.{sequence_of}
use Rattle.trees.specs.Plain.{entries_of}
use Rattle.trees.proofs.Answering.{tree_leads_by}
use Rattle.trees.proofs.tree.plain.TreeGuide.beside.Goals as goal

pub returns-else-child-eq-LOW-clause-is_the_child : goal.returns-else-child-eq-LOW-clause-is_the_child
returns-else-child-eq-LOW-clause-is_the_child c =
    let es = entries_of c.args.self.now in
    let place = c.args.place in
    let side = c.args.side in
    let is : c.child-child.result ≡ child side (at es place) = c.child-child.ensures ∙ ap (child side) c.entry.ensures in
    let stands : has place (sequence_of es) ≡ true = sym c.if-not-stands.ensures in
    ap Stands is
    ∙ sym (cond-true _ _ _ stands ∙ cond-false _ _ _ (or_from _ _ (ne_eqb _ _ c.if-child-eq-LOW.false.0) (ne_eqb _ _ (λ e. c.if-child-eq-LOW.false.1 (is ∙ e)))))

pub returns-else-child-eq-LOW-clause-keeps_the_rule : goal.returns-else-child-eq-LOW-clause-keeps_the_rule
returns-else-child-eq-LOW-clause-keeps_the_rule c =
    tree_leads_by c.args.self.now c.args.place c.args.side _ (returns-else-child-eq-LOW-clause-is_the_child c)
