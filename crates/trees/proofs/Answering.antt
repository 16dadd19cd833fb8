-- That the tree's answers keep the rules of a guide: High is the root, and a child stands on its side of the place.
-- Assumes nothing.
use Rattle.std.specs.Prelude.{◌≡◌, ℕ, Bool, true, false, cond, ◌||◌, ◌==◌, refl}
use Rattle.std.proofs.Common.{sym, ◌∙◌, subst}
use Rattle.std.proofs.lemmas.Bool.{eqb-false, or_parts}
use Rattle.guides.specs.declared.answer.Beside.TheVariants.{Absent, End, Stands}
use Rattle.guides.specs.declared.answer.Beside.{Beside}
use Rattle.guides.specs.declared.answer.Side.{Side}
use Rattle.guides.specs.Meaning.{has, high}
use Rattle.guides.specs.Rules.{AnswersBeside}
use Rattle.tables.specs.Entries.{child}
use Rattle.tables.specs.Revisions.{at}
use Rattle.tables.specs.Shapes.{order, shape_of, sequence_of}
use Rattle.tables.proofs.Holding.{high_stands}
use Rattle.tables.proofs.Placing.{child_answers, not_first}
use Rattle.tables.proofs.Spots.{has_order}
use Rattle.trees.specs.declared.tree.Tree.{Tree}
use Rattle.trees.specs.Plain.{entries_of, plain_beside}
use Rattle.trees.proofs.Keeping.{holds_of}

pub tree_enters : (t : Tree) → has high (sequence_of (entries_of t)) ≡ true
tree_enters t = high_stands (at (entries_of t)) t.places (shape_of (entries_of t)) (holds_of t)

module _ (t : Tree) (p : ℕ) (side : Side) where
  abbrev AnswersSo : Bool → Bool → Type 0
  AnswersSo stands last =
      AnswersBeside (sequence_of (entries_of t)) p side (cond stands (cond last End (Stands (child side (at (entries_of t) p)))) Absent)

  led_rightly : (stands last : Bool) → has p (sequence_of (entries_of t)) ≡ stands → (p == 0 || child side (at (entries_of t) p) == 0) ≡ last → AnswersSo stands last
  led_rightly false last e f = e
  led_rightly true true e f = e
  led_rightly true false e f =
      let parts = or_parts (p == 0) (child side (at (entries_of t) p) == 0) f in
      child_answers (entries_of t) t.places (shape_of (entries_of t)) (holds_of t) p side
      (sym (has_order p (shape_of (entries_of t))) ∙ not_first p (order (shape_of (entries_of t))) (eqb-false p 0 parts.0) e)
      (eqb-false (child side (at (entries_of t) p)) 0 parts.1)

pub tree_leads : (t : Tree) (p : ℕ) (side : Side) → AnswersBeside (sequence_of (entries_of t)) p side (plain_beside t p side)
tree_leads t p side =
    led_rightly t p side (has p (sequence_of (entries_of t))) (p == 0 || child side (at (entries_of t) p) == 0) refl refl

pub tree_leads_by : (t : Tree) (p : ℕ) (side : Side) (beside : Beside) → beside ≡ plain_beside t p side → AnswersBeside (sequence_of (entries_of t)) p side beside
tree_leads_by t p side beside e = subst (AnswersBeside (sequence_of (entries_of t)) p side) (sym e) (tree_leads t p side)
