-- A table that keeps the rule keeps it when a place is turned, and its sequence stays. Assumes nothing.
use Rattle.std.proofs.Common.{◌≡◌, ℕ, ◌≤◌, true, List, ◌∷◌, ◌++◌, length, sym, refl, ap, ◌∙◌, subst, inr, append_assoc}
use Rattle.guides.specs.declared.answer.Side.{Side}
use Rattle.guides.specs.declared.answer.Side.TheVariants.{Lower, Higher}
use Rattle.guides.specs.Meaning.{has, lawful}
use Rattle.tables.specs.declared.entry.Entry.{Entry}
use Rattle.tables.specs.Changes.{turning, turned}
use Rattle.guides.specs.Sides.{opposite}
use Rattle.tables.specs.Entries.{child}
use Rattle.tables.specs.Revisions.{at}
use Rattle.tables.specs.Shapes.{Shape, bare, node, root, order}
use Rattle.tables.proofs.Hanging.{differs}
use Rattle.tables.proofs.Holding.{Holds, parts_of, once_of, nought_of, within_table}
use Rattle.tables.proofs.Links.{turn_shows}
use Rattle.tables.proofs.Orders.{fronts, backs, order_plug, above_stands, root_stands, locate}
use Rattle.tables.proofs.Spots.{Shows, Spot, top, under, plug, above, holds, join, joined, root_join, unplug}
use Rattle.tables.proofs.Threads.{Thread, frame_back}
use Rattle.tables.proofs.Unlinking.{root_kept}
use Rattle.tables.proofs.Writes.{touched, at_revised, length_revised, touched_away, field_kept}

-- The table holds a tree with the same sequence.
pub record TurnedOver (d : ℕ → Entry) (n : ℕ) (t : Shape) : Type 0 where
  pub tree : Shape
  pub holds : Holds d n tree
  pub same : order tree ≡ order t

order_turned : (side : Side) (u : Shape) (c : ℕ) (v : Shape) (p : ℕ) (a : Shape)
    → order (join (opposite side) (join side u p a) c v) ≡ order (join side (join (opposite side) u c v) p a)
order_turned Lower u c v p a = sym (append_assoc (order v) (c ∷ order u) (p ∷ order a))
order_turned Higher u c v p a = append_assoc (order a) (p ∷ order u) (c ∷ order v)

module _ (es : List Entry) (n : ℕ) (k : Spot) (side : Side) (u : Shape) (c : ℕ) (v : Shape) (p : ℕ) (a : Shape)
    (h : Holds (at es) n (plug k (join side (join (opposite side) u c v) p a))) (sized : length es ≡ 1024)
    (room : n ≤ 1024) (inner : p ≡ 1 → ⊥) where
  abbrev far : Side
  far = opposite side

  abbrev m : Shape
  m = join far u c v

  abbrev t : Shape
  t = plug k (join side m p a)

  abbrev w : Shape
  w = plug k (join far (join side u p a) c v)

  abbrev f : ℕ → Entry
  f = at es

  abbrev d : ℕ → Entry
  d = at (turned side p es)

  abbrev writes : List (ℕ × (Entry → Entry))
  writes = turning side p (f p) (child far (f (child side (f p))))

  child_is : child side (f p) ≡ c
  child_is = (joined f (above k) side m p a (unplug f k (join side m p a) h.shown).1).near ∙ root_join far u c v

  inner_is : child far (f (child side (f p))) ≡ root u
  inner_is =
      let hole = joined f (above k) side m p a (unplug f k (join side m p a) h.shown).1 in
      ap (λ x. child far (f x)) child_is ∙ (joined f p far u c v hole.inner).near

  above_is : (f p).parent ≡ above k
  above_is = (joined f (above k) side m p a (unplug f k (join side m p a) h.shown).1).parent

  p_in : has p (0 ∷ order t) ≡ true
  p_in = ap (λ x. has x (0 ∷ order t)) (sym (root_join side m p a)) ∙ root_stands k (join side m p a)

  child_in : has (child side (f p)) (0 ∷ order t) ≡ true
  child_in =
      ap (λ x. has x (0 ∷ order t)) (child_is ∙ sym (root_join far u c v)) ∙ root_stands (under side k p a) m

  inner_in : has (child far (f (child side (f p)))) (0 ∷ order t) ≡ true
  inner_in = ap (λ x. has x (0 ∷ order t)) inner_is ∙ root_stands (under far (under side k p a) c v) u

  above_in : has (f p).parent (0 ∷ order t) ≡ true
  above_in = ap (λ x. has x (0 ∷ order t)) above_is ∙ above_stands k (join side m p a)

  reads : (y : ℕ) → d y ≡ touched writes y (f y)
  unfolding turned
  reads y =
      at_revised writes es 1024 sized
      (within_table n t writes room (parts_of f n t h).below (p_in, (inner_in, (above_in, (child_in, tt))))) y

  after_kept : (y : ℕ) → (d y).after ≡ (f y).after
  after_kept y =
      ap (λ (e : Entry). e.after) (reads y)
      ∙ field_kept (λ e. e.after) writes y (f y) (
        inr (λ e. refl),
        (inr (λ e. refl), (inr (λ e. refl), (inr (λ e. refl), tt))),
      )

  before_kept : (y : ℕ) → (d y).before ≡ (f y).before
  before_kept y =
      ap (λ (e : Entry). e.before) (reads y)
      ∙ field_kept (λ e. e.before) writes y (f y) (
        inr (λ e. refl),
        (inr (λ e. refl), (inr (λ e. refl), (inr (λ e. refl), tt))),
      )

  same : order w ≡ order t
  same =
      order_plug k (join far (join side u p a) c v)
      ∙ ap (λ xs. fronts k ++ (xs ++ backs k)) (order_turned side u c v p a)
      ∙ sym (order_plug k (join side m p a))

  pub turn_at : TurnedOver (at (turned side p es)) n t
  turn_at =
      record {
        tree = w;
        holds =
            record {
              top_is =
                  root_kept k (join side m p a) (join far (join side u p a) c v)
                  (λ i. inner (sym (root_join side m p a) ∙ sym i ∙ h.top_is))
                  ∙ h.top_is;
              law = ap (λ xs. lawful (record { sequence = 0 ∷ xs; places = n })) same ∙ h.law;
              shown = turn_shows f d k side u c v p a h.shown (once_of f n t h) (nought_of f n t h) reads;
              thread =
                  subst (λ (xs : List ℕ). Thread d (0 ∷ xs)) (sym same)
                  (frame_back f d 0 (order t) (λ y _. after_kept y) (λ y _. before_kept y) h.thread);
              last_is = after_kept 1 ∙ h.last_is;
              rest = λ y e.
                  let out = ap (λ xs. has y (0 ∷ xs)) (sym same) ∙ e in
                  let away = λ (z : ℕ) (i : has z (0 ∷ order t) ≡ true). differs y z (0 ∷ order t) out i in
                  let kept : d y ≡ f y =
                  reads y
                  ∙ touched_away writes y (f y)
                  (away _ p_in, (away _ inner_in, (away _ above_in, (away _ child_in, tt)))) in
                  let idle = h.rest y out in
                  (ap (λ (e : Entry). e.parent) kept ∙ idle.0, ap (λ (e : Entry). e.after) kept ∙ idle.1);
            };
        same = same;
      }

pub length_turned : (side : Side) (p : ℕ) (es : List Entry) → length (turned side p es) ≡ length es
unfolding turned
length_turned side p es = length_revised (turning side p (at es p) (child (opposite side) (at es (child side (at es p))))) es

module _ (es : List Entry) (n : ℕ) (t : Shape) (h : Holds (at es) n t) (sized : length es ≡ 1024) (room : n ≤ 1024)
    (p : ℕ) (inner : p ≡ 1 → ⊥) where
  by_side : (k : Spot) (side : Side) (l r : Shape) → t ≡ plug k (node l p r) → (child side (at es p) ≡ 0 → ⊥)
      → TurnedOver (at (turned side p es)) n t
  by_side k Lower bare r is there =
      absurd (there (unplug (at es) k (node bare p r) (subst (λ (x : Shape). Shows (at es) 0 x) is h.shown)).1.0)
  by_side k Lower (node v c u) r is there =
      subst (λ (x : Shape). TurnedOver (at (turned Lower p es)) n x) (sym is)
      (turn_at es n k Lower u c v p r (subst (λ (x : Shape). Holds (at es) n x) is h) sized room inner)
  by_side k Higher l bare is there =
      absurd (there (unplug (at es) k (node l p bare) (subst (λ (x : Shape). Shows (at es) 0 x) is h.shown)).1.1)
  by_side k Higher l (node u c v) is there =
      subst (λ (x : Shape). TurnedOver (at (turned Higher p es)) n x) (sym is)
      (turn_at es n k Higher u c v p l (subst (λ (x : Shape). Holds (at es) n x) is h) sized room inner)

  pub turns : (side : Side) → holds p t ≡ true → (child side (at es p) ≡ 0 → ⊥)
      → TurnedOver (at (turned side p es)) n t
  turns side hangs there =
      let found = locate top t p hangs in
      by_side found.spot side found.low found.high found.is there
