-- A tree keeps the rule that its fields state, and each change of it keeps the rule. Assumes nothing.
use Rattle.std.specs.Prelude.{◌≡◌, ℕ, ◌<◌, ◌≤◌, true, false, not, ◌&&◌, ◌||◌, List, ◌∷◌, ◌==◌, nat_le, refl}
use Rattle.std.proofs.Common.{sym, ap, ◌∙◌, arith}
use Rattle.guides.specs.declared.answer.Side.{Side}
use Rattle.guides.specs.Meaning.{Meaning, has, neighbours}
use Rattle.guides.specs.Rules.{cleared}
use Rattle.guides.proofs.Sequences.{attached, detached}
use Rattle.tables.specs.declared.entry.Entry.{Entry}
use Rattle.tables.specs.Changes.{hung_between, taken_out, turned}
use Rattle.tables.specs.Entries.{child}
use Rattle.tables.specs.Revisions.{at, opened}
use Rattle.tables.specs.Shapes.{Shape, bare, node, order, shape_of, tree_meaning}
use Rattle.tables.proofs.Holding.{Holds, Kept, kept_holds, holds_kept, shape_is, stands_by_parent}
use Rattle.tables.proofs.Opening.{length_opened, opened_holds}
use Rattle.tables.proofs.Parting.{TakenOut, takes_out, length_taken_out}
use Rattle.tables.proofs.Placing.{Placed, between_places, length_hung_between, neighbours_by_after, not_first}
use Rattle.tables.proofs.Spots.{has_order}
use Rattle.tables.proofs.Turning.{TurnedOver, turns, length_turned}
use Rattle.trees.specs.declared.tree.Tree.{Tree}
use Rattle.trees.specs.Plain.{entries_of, plain}

pub kept_of : (t : Tree) → Kept (entries_of t) t.places
kept_of t =
    record {
      sized = t.sized;
      room = t.bounded;
      law = t.lawful;
      links = t.linked;
      thread = t.threaded;
      rest = t.resting;
    }

pub holds_of : (t : Tree) → Holds (at (entries_of t)) t.places (shape_of (entries_of t))
holds_of t = kept_holds (entries_of t) t.places (kept_of t)

abbrev sequenced : ℕ → List ℕ → Meaning
sequenced n xs = record { sequence = xs; places = n }

-- What a table means that holds a tree.
means : (es : List Entry) (n : ℕ) (u : Shape) (m : Meaning) → n ≤ 1024 → Holds (at es) n u
    → sequenced n (0 ∷ order u) ≡ m → tree_meaning es n ≡ m
means es n u m room h e =
    let meant : Shape → Meaning = λ v. sequenced n (0 ∷ order v) in
    ap meant (shape_is es n u room h) ∙ e

pub opened_keeps : (n : ℕ) → 2 ≤ n → n ≤ 1024 → Kept opened n
opened_keeps n two room = holds_kept opened n (node bare 1 bare) length_opened room (opened_holds n two)

pub opened_means : (n : ℕ) → 2 ≤ n → n ≤ 1024 → tree_meaning opened n ≡ cleared n
opened_means n two room = means opened n (node bare 1 bare) (cleared n) room (opened_holds n two) refl

module _ (t : Tree) where
  pub stands_is : (y : ℕ) → has y (plain t).sequence ≡ (nat_le y 1 || not ((at (entries_of t) y).parent == 0))
  stands_is y = stands_by_parent (at (entries_of t)) t.places (shape_of (entries_of t)) (holds_of t) y

  pub neighbours_is : (p q : ℕ)
      → neighbours p q (plain t).sequence ≡ (not (q == 0) && (at (entries_of t) p).after == q)
  neighbours_is p q = neighbours_by_after (entries_of t) t.places (shape_of (entries_of t)) (holds_of t) p q

module _ (t : Tree) (lower x upper : ℕ) (beside : neighbours lower upper (plain t).sequence ≡ true)
    (fresh_x : has x (plain t).sequence ≡ false) (inside : x < t.places) where
  placed : Placed (at (hung_between lower x upper (entries_of t))) t.places lower x (shape_of (entries_of t))
  placed =
      between_places (entries_of t) t.places (shape_of (entries_of t)) (holds_of t) t.sized t.bounded lower x upper
      beside fresh_x inside

  pub attach_keeps : Kept (hung_between lower x upper (entries_of t)) t.places
  attach_keeps =
      holds_kept (hung_between lower x upper (entries_of t)) t.places placed.tree
      (length_hung_between lower x upper (entries_of t) ∙ t.sized) t.bounded placed.holds

  pub attach_means : tree_meaning (hung_between lower x upper (entries_of t)) t.places ≡ attached lower x (plain t)
  attach_means =
      means (hung_between lower x upper (entries_of t)) t.places placed.tree (attached lower x (plain t)) t.bounded
      placed.holds (ap (sequenced t.places) placed.grows)

module _ (t : Tree) (x : ℕ) (inner : 1 < x) (stands : has x (plain t).sequence ≡ true) where
  out : TakenOut (at (taken_out x (entries_of t))) t.places x (shape_of (entries_of t))
  out =
      takes_out (entries_of t) t.places (shape_of (entries_of t)) (holds_of t) t.sized t.bounded x inner stands

  pub detach_keeps : Kept (taken_out x (entries_of t)) t.places
  detach_keeps =
      holds_kept (taken_out x (entries_of t)) t.places out.tree
      (length_taken_out x (entries_of t) ∙ t.sized) t.bounded out.holds

  pub detach_means : tree_meaning (taken_out x (entries_of t)) t.places ≡ detached x (plain t)
  detach_means =
      means (taken_out x (entries_of t)) t.places out.tree (detached x (plain t)) t.bounded
      out.holds (ap (sequenced t.places) out.shrinks)

module _ (t : Tree) (side : Side) (x : ℕ) (inner : 1 < x) (stands : has x (plain t).sequence ≡ true)
    (there : child side (at (entries_of t) x) ≡ 0 → ⊥) where
  over : TurnedOver (at (turned side x (entries_of t))) t.places (shape_of (entries_of t))
  over =
      let shape = shape_of (entries_of t) in
      let hangs = sym (has_order x shape) ∙ not_first x (order shape) (λ i. omega arith) stands in
      turns (entries_of t) t.places shape (holds_of t) t.sized t.bounded x (λ i. omega arith) side hangs there

  pub turn_keeps : Kept (turned side x (entries_of t)) t.places
  turn_keeps =
      holds_kept (turned side x (entries_of t)) t.places over.tree
      (length_turned side x (entries_of t) ∙ t.sized) t.bounded over.holds

  pub turn_means : tree_meaning (turned side x (entries_of t)) t.places ≡ plain t
  turn_means =
      means (turned side x (entries_of t)) t.places over.tree (plain t) t.bounded
      over.holds (ap (λ (xs : List ℕ). sequenced t.places (0 ∷ xs)) over.same)
