-- What a table holds that keeps the rule. Assumes nothing.
use Rattle.std.proofs.Common.{◌≡◌, ℕ, suc, ◌<◌, ◌≤◌, true, false, not, ◌||◌, eqb, leb, List, [], ◌∷◌, length, sym, refl, ap, ◌∙◌, subst, inl, inr, arith}
use Rattle.std.specs.List.{AllByRecursion as All}
use Rattle.std.proofs.lemmas.Bool.{cases_Bool, cases_eq, and_parts, and_from, eqb-true, eqb-false, eq-eqb, ne_eqb, both_ways, or_right, or_parts, or_from, not_from_true, not_from_false, leb-true, leb-false}
use Rattle.std.proofs.lemmas.Bool.Decides.{nat_tests}
use Rattle.guides.specs.Meaning.{Meaning, has, distinct, all_below, lawful}
use Rattle.guides.proofs.Sequences.{Lawful, lawful_parts}
use Rattle.guides.proofs.Pigeonhole.{lawful_length}
use Rattle.tables.specs.declared.entry.Entry.{Entry}
use Rattle.tables.specs.Revisions.{at}
use Rattle.tables.specs.Shapes.{Shape, node, root, order, shape_of, grown, sequence_of, tree_meaning, idle, shows, threaded}
use Rattle.tables.specs.Shapes.{keeps_law, keeps_links, keeps_thread, KeepsRest}
use Rattle.tables.proofs.Spots.{Shows, Spot, top, under, plug, holds, has_order, Once, once_from_distinct, shows_parts, shows_from_parts}
use Rattle.tables.proofs.Spots.{unplug, around, holds_plug}
use Rattle.tables.proofs.Orders.{grown_shows, locate, root_stands}
use Rattle.tables.proofs.Threads.{Thread, thread_parts, thread_end, threaded_from_parts, distinct_tail, has_right, has_first}
use Rattle.tables.proofs.Writes.{Within}

abbrev pub meant : ℕ → Shape → Meaning
meant n t = record { sequence = 0 ∷ order t; places = n }

pub record Holds (f : ℕ → Entry) (n : ℕ) (t : Shape) : Type 0 where
  pub top_is : root t ≡ 1
  pub law : lawful (meant n t) ≡ true
  pub shown : Shows f 0 t
  pub thread : Thread f (0 ∷ order t)
  pub last_is : (f 1).after ≡ 0
  pub rest : (y : ℕ) → has y (0 ∷ order t) ≡ false → ((f y).parent ≡ 0) × ((f y).after ≡ 0)

pub below_has : (n y : ℕ) (xs : List ℕ) → all_below n xs ≡ true → has y xs ≡ true → y < n
below_has n y [] h e = grind (arith, nat_tests)
below_has n y (x ∷ xs) h e = let rest = below_has n y xs in grind (arith, nat_tests)

first_once : (xs : List ℕ) → distinct (0 ∷ xs) ≡ true → has 0 xs ≡ false
first_once xs h = grind (arith, nat_tests)

pub once_in : (t : Shape) → distinct (0 ∷ order t) ≡ true → Once t
once_in t h = once_from_distinct t (distinct_tail 0 (order t) h)

pub nought_in : (t : Shape) → distinct (0 ∷ order t) ≡ true → holds 0 t ≡ false
nought_in t h = sym (has_order 0 t) ∙ first_once (order t) h

pub stands_in : (y : ℕ) (t : Shape) → holds y t ≡ true → has y (0 ∷ order t) ≡ true
stands_in y t h = has_right y (0 ∷ []) (order t) (has_order y t ∙ h)

pub later : (y : ℕ) (xs : List ℕ) → 1 < y → has y (0 ∷ xs) ≡ true → has y xs ≡ true
later y xs h e = grind (arith, nat_tests)

module _ (f : ℕ → Entry) (n : ℕ) (t : Shape) (h : Holds f n t) where
  pub parts_of : Lawful n (0 ∷ order t)
  parts_of = lawful_parts (meant n t) h.law

  pub once_of : Once t
  once_of = once_in t parts_of.once

  pub nought_of : holds 0 t ≡ false
  nought_of = nought_in t parts_of.once

  pub below_of : (y : ℕ) → has y (0 ∷ order t) ≡ true → y < n
  below_of y e = below_has n y (0 ∷ order t) parts_of.below e

  pub high_stands : has 1 (0 ∷ order t) ≡ true
  high_stands = ap (λ x. has x (0 ∷ order t)) (sym h.top_is) ∙ root_stands top t

  not_ends : (y : ℕ) → has y (0 ∷ order t) ≡ false → leb y 1 ≡ false
  not_ends y e =
      elim (cases_Bool (leb y 1)) [
        | inl low ↦
            let small = leb-true y 1 low in
            elim (cases_eq y 0) [
              | inl i ↦ absurd (both_ways _ e (ap (λ x. has x (0 ∷ order t)) i ∙ has_first 0 (order t)))
              | inr i ↦
                  let one : y ≡ 1 = omega arith in
                  absurd (both_ways _ e (ap (λ x. has x (0 ∷ order t)) one ∙ high_stands))
            ]
        | inr d ↦ d
      ]

  -- A place that stands in another spot than the top has a parent.
  has_parent : (y : ℕ) (k : Spot) (l r : Shape) → t ≡ plug k (node l y r) → (y ≡ 1 → ⊥) → (f y).parent ≡ 0 → ⊥
  has_parent y top l r is other none = other (sym (ap root is) ∙ h.top_is)
  has_parent y (under side k p s) l r is other none =
      let spot = under side k p s in
      let here = unplug f spot (node l y r) (subst (λ (u : Shape). Shows f 0 u) is h.shown) in
      let nought = ap (holds 0) (sym is) ∙ nought_of in
      let out = or_parts (holds 0 (node l y r)) (around 0 spot) (sym (holds_plug 0 spot (node l y r)) ∙ nought) in
      eqb-false p 0 (or_parts (eqb p 0) (holds 0 s || around 0 k) out.1).0 (sym here.1.2 ∙ none)

  -- The places that stand are Low, High and those that have a parent.
  pub stands_by_parent : (y : ℕ) → has y (0 ∷ order t) ≡ (leb y 1 || not (eqb (f y).parent 0))
  stands_by_parent y =
      elim (cases_Bool (has y (0 ∷ order t))) [
        | inl e ↦
            elim (cases_Bool (leb y 1)) [
              | inl low ↦ e ∙ sym (ap (λ b. b || not (eqb (f y).parent 0)) low)
              | inr inner ↦
                  let above1 = leb-false y 1 inner in
                  let hangs : holds y t ≡ true = sym (has_order y t) ∙ later y (order t) above1 e in
                  let place = locate top t y hangs in
                  let parented =
                  has_parent y place.spot place.low place.high place.is (λ i. omega arith) in
                  e ∙ sym (or_right (leb y 1) _ (not_from_false _ (ne_eqb _ _ parented)))
            ]
        | inr e ↦
            let none = (h.rest y e).0 in
            let inner : leb y 1 ≡ false = not_ends y e in
            e ∙ sym (or_from (leb y 1) _ inner (not_from_true _ (eq-eqb _ _ none)))
      ]

-- ---- the rule and the tree

-- A table keeps the rule.
pub record Kept (es : List Entry) (n : ℕ) : Type 0 where
  pub sized : length es ≡ 1024
  pub room : n ≤ 1024
  pub law : keeps_law es n ≡ true
  pub links : keeps_links es ≡ true
  pub thread : keeps_thread es ≡ true
  pub rest : KeepsRest es

grown_root : (m : ℕ) (f : ℕ → Entry) → root (grown (suc m) f 1) ≡ 1
unfolding grown
grown_root m f = refl

pub kept_holds : (es : List Entry) (n : ℕ) → Kept es n → Holds (at es) n (shape_of es)
unfolding shape_of
kept_holds es n k =
    let law = lawful_parts (tree_meaning es n) k.law in
    record {
      top_is = grown_root 1023 (at es);
      law = k.law;
      shown = shows_parts (at es) 0 (shape_of es) k.links;
      thread = thread_parts (at es) (sequence_of es) k.thread;
      last_is = thread_end (at es) 1 (sequence_of es) k.thread law.last;
      rest = λ y e.
          let both = and_parts _ _ (k.rest y e) in
          (eqb-true _ _ both.0, eqb-true _ _ both.1);
    }

-- The table's tree is the one that it holds.
pub shape_is : (es : List Entry) (n : ℕ) (t : Shape) → n ≤ 1024 → Holds (at es) n t → shape_of es ≡ t
unfolding shape_of
shape_is es n t room h =
    let long = lawful_length (meant n t) h.law in
    ap (grown 1024 (at es)) (sym h.top_is)
    ∙ grown_shows 1024 (at es) 0 t (omega arith) (nought_of (at es) n t h) h.shown

pub holds_kept : (es : List Entry) (n : ℕ) (t : Shape) → length es ≡ 1024 → n ≤ 1024 → Holds (at es) n t → Kept es n
holds_kept es n t sized room h =
    let is = sym (shape_is es n t room h) in
    let law = lawful_parts (meant n t) h.law in
    record {
      sized = sized;
      room = room;
      law = subst (λ (u : Shape). lawful (meant n u) ≡ true) is h.law;
      links = subst (λ (u : Shape). shows (at es) 0 u ≡ true) is (shows_from_parts (at es) 0 t h.shown);
      thread =
          subst (λ (u : Shape). threaded (at es) (0 ∷ order u) ≡ true) is
          (threaded_from_parts (at es) 1 (0 ∷ order t) h.thread law.last h.last_is);
      rest =
          subst (λ (u : Shape). (p : ℕ) → has p (0 ∷ order u) ≡ false → idle (at es p) ≡ true) is
          (λ y e. and_from _ _ (eq-eqb _ _ (h.rest y e).0) (eq-eqb _ _ (h.rest y e).1));
    }

-- ---- writes within the table

pub within_table : (n : ℕ) (t : Shape) (cs : List (ℕ × (Entry → Entry))) → n ≤ 1024
    → all_below n (0 ∷ order t) ≡ true → All (λ c. has c.0 (0 ∷ order t) ≡ true) cs → Within 1024 cs
within_table n t [] room law all = tt
within_table n t (c ∷ cs) room law all =
    let here = below_has n c.0 (0 ∷ order t) law all.0 in
    (omega arith, within_table n t cs room law all.1)
