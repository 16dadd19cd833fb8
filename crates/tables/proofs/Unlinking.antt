-- What taking a place out of the tree leaves: the tree without it, the same thread. Assumes that no place hangs twice.
use Rattle.std.proofs.Common.{◌≡◌, ℕ, ◌≤◌, true, false, List, ◌∷◌, ◌++◌, length, sym, refl, ap, ◌∙◌, inr, append_assoc}
use Rattle.guides.specs.declared.answer.Side.{Side}
use Rattle.guides.specs.declared.answer.Side.TheVariants.{Lower, Higher}
use Rattle.guides.specs.Meaning.{has}
use Rattle.guides.proofs.Sequences.{Lawful}
use Rattle.tables.specs.declared.entry.Entry.{Entry}
use Rattle.tables.specs.Changes.{lifting, lifted, yielding, yielded}
use Rattle.tables.specs.Entries.{only_child}
use Rattle.tables.specs.Revisions.{at}
use Rattle.tables.specs.Shapes.{Shape, bare, node, root, order}
use Rattle.tables.proofs.Hanging.{differs}
use Rattle.tables.proofs.Holding.{within_table, once_in, nought_in}
use Rattle.tables.proofs.Links.{lift_shows, only_child_is}
use Rattle.tables.proofs.Orders.{fronts, backs, order_plug, root_plug, above_stands, root_stands}
use Rattle.tables.proofs.Spots.{Shows, Spot, top, under, plug, above, join, joined, root_join, unplug}
use Rattle.tables.proofs.Writes.{touched, at_revised, length_revised, touched_away, field_kept}

pub record Unlinked (f g : ℕ → Entry) (p : ℕ) (t : Shape) : Type 0 where
  pub tree : Shape
  pub shown : Shows g 0 tree
  pub top_same : root tree ≡ root t
  pub front : List ℕ
  pub back : List ℕ
  pub was : 0 ∷ order t ≡ front ++ p ∷ back
  pub is : 0 ∷ order tree ≡ front ++ back
  pub after_same : (y : ℕ) → (g y).after ≡ (f y).after
  pub before_same : (y : ℕ) → (g y).before ≡ (f y).before
  pub outside : (y : ℕ) → has y (0 ∷ order t) ≡ false → g y ≡ f y

-- The root stays where something hangs below it.
pub root_kept : (k : Spot) (v w : Shape) → (root (plug k v) ≡ root v → ⊥) → root (plug k w) ≡ root (plug k v)
root_kept top v w below = absurd (below refl)
root_kept (under side k p s) v w below =
    root_plug k (join side w p s) (join side v p s) (root_join side w p s ∙ sym (root_join side v p s))

-- The sequence around a place with at most one child.
around_one : (k : Spot) (side : Side) (v : Shape) (x : ℕ)
    → (front : List ℕ) × (back : List ℕ) × (0 ∷ order (plug k (join side v x bare)) ≡ front ++ x ∷ back)
    × (0 ∷ order (plug k v) ≡ front ++ back)
around_one k Lower v x = (
  0 ∷ (fronts k ++ order v),
  backs k,
  ap (λ xs. 0 ∷ xs) (order_plug k (node v x bare) ∙ simp append_assoc),
  ap (λ xs. 0 ∷ xs) (order_plug k v ∙ simp append_assoc),
)
around_one k Higher v x = (
  0 ∷ fronts k,
  order v ++ backs k,
  ap (λ xs. 0 ∷ xs) (order_plug k (node bare x v)),
  ap (λ xs. 0 ∷ xs) (order_plug k v),
)

child_stands : (side : Side) (v : Shape) (x : ℕ) (k : Spot) → has (root v) (0 ∷ order (plug k (join side v x bare))) ≡ true
child_stands side v x k = root_stands (under side k x bare) v

module _ (es : List Entry) (n : ℕ) (k : Spot) (side : Side) (v : Shape) (x : ℕ)
    (shown : Shows (at es) 0 (plug k (join side v x bare))) (law : Lawful n (0 ∷ order (plug k (join side v x bare))))
    (sized : length es ≡ 1024) (room : n ≤ 1024) (top_same : root (plug k v) ≡ root (plug k (join side v x bare))) where
  abbrev t : Shape
  t = plug k (join side v x bare)

  abbrev f : ℕ → Entry
  f = at es

  above_is : (f x).parent ≡ above k
  above_is = (joined f (above k) side v x bare (unplug f k (join side v x bare) shown).1).parent

  child_is : only_child (f x) ≡ root v
  child_is =
      let hole = joined f (above k) side v x bare (unplug f k (join side v x bare) shown).1 in
      only_child_is side (f x) (root v) hole.near hole.far

  above_in : has (f x).parent (0 ∷ order t) ≡ true
  above_in = ap (λ z. has z (0 ∷ order t)) above_is ∙ above_stands k (join side v x bare)

  child_in : has (only_child (f x)) (0 ∷ order t) ≡ true
  child_in = ap (λ z. has z (0 ∷ order t)) child_is ∙ child_stands side v x k

  reads : (y : ℕ) → at (lifted x es) y ≡ touched (lifting x (f x)) y (f y)
  unfolding lifted
  reads y =
      at_revised (lifting x (f x)) es 1024 sized (within_table n t (lifting x (f x)) room law.below (above_in, (child_in, tt))) y

  pub lift_leaves : Shows (at (lifted x es)) 0 (plug k v)
  lift_leaves =
      lift_shows f (at (lifted x es)) k side v x shown (once_in t law.once) (nought_in t law.once) reads

  pub lift_unlinks : Unlinked f (at (lifted x es)) x t
  lift_unlinks =
      let cut = around_one k side v x in
      record {
        tree = plug k v;
        shown = lift_leaves;
        top_same = top_same;
        front = cut.0;
        back = cut.1;
        was = cut.2;
        is = cut.3;
        after_same = λ y.
            ap (λ (e : Entry). e.after) (reads y)
            ∙ field_kept (λ e. e.after) (lifting x (f x)) y (f y)
            (inr (λ e. refl), (inr (λ e. refl), tt));
        before_same = λ y.
            ap (λ (e : Entry). e.before) (reads y)
            ∙ field_kept (λ e. e.before) (lifting x (f x)) y (f y)
            (inr (λ e. refl), (inr (λ e. refl), tt));
        outside = λ y e.
            reads y
            ∙ touched_away (lifting x (f x)) y (f y) (
              differs y (f x).parent (0 ∷ order t) e above_in,
              (differs y (only_child (f x)) (0 ∷ order t) e child_in, tt),
            );
      }

pub length_lifted : (x : ℕ) (es : List Entry) → length (lifted x es) ≡ length es
unfolding lifted
length_lifted x es = length_revised (lifting x (at es x)) es

pub length_yielded : (p s : ℕ) (es : List Entry) → length (yielded p s es) ≡ length es
unfolding yielded
length_yielded p s es = length_revised (yielding p s (at es p)) es
