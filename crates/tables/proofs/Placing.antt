-- Where a place between two neighbours may hang. Assumes nothing.
use Rattle.std.proofs.Common.{◌≡◌, ℕ, ◌<◌, ◌≤◌, true, false, not, ◌&&◌, eqb, ◌⊎◌, List, [], ◌∷◌, ◌++◌, length, sym, refl, ap, ◌∙◌, subst, inl, inr, append_assoc, arith}
use Rattle.std.proofs.lemmas.Bool.{both_ways, cases_Bool, cond-true, cond-false, cond_both, and_parts, and_cases, and_from, eqb-true, eqb-false, eq-eqb, ne_eqb, not-true, not-false, not_from_false}
use Rattle.std.proofs.lemmas.Bool.Decides.{nat_tests}
use Rattle.guides.specs.declared.answer.Side.{Side}
use Rattle.guides.specs.declared.answer.Side.TheVariants.{Lower, Higher}
use Rattle.guides.specs.declared.answer.Beside.TheVariants.{Stands}
use Rattle.guides.specs.Meaning as meaning
use Rattle.guides.specs.Meaning.{has, distinct, neighbours, begins_with, precedes}
use Rattle.guides.specs.Rules.{AnswersBeside}
use Rattle.guides.proofs.Sequences.{precedes_at, distinct_at_before}
use Rattle.tables.specs.declared.entry.Entry.{Entry}
use Rattle.tables.specs.Changes.{hanging, hung, hung_between}
use Rattle.tables.specs.Entries.{child}
use Rattle.tables.specs.Revisions.{at}
use Rattle.tables.specs.Shapes.{Shape, bare, node, order}
use Rattle.tables.proofs.Hanging.{Between, hung_grows, hung_holds}
use Rattle.tables.proofs.Holding.{Holds, parts_of, nought_of}
use Rattle.tables.proofs.Orders.{fronts, backs, order_plug, locate, last_of, cut_once}
use Rattle.tables.proofs.Spots.{Shows, Spot, top, under, plug, holds, has_order, unplug}
use Rattle.tables.proofs.Threads.{cut_at, neighbours_cut, neighbours_know, neighbours_stand, some_after, has_right, has_first}
use Rattle.tables.proofs.Writes.{length_revised}
use Rattle.tables.proofs.Yielding.{nonzero}

-- The table holds a tree with the place.
pub record Placed (d : ℕ → Entry) (n lower x : ℕ) (t : Shape) : Type 0 where
  pub tree : Shape
  pub holds : Holds d n tree
  pub grows : 0 ∷ order tree ≡ meaning.with_after lower x (0 ∷ order t)

begins_has : (q : ℕ) (xs : List ℕ) → begins_with q xs ≡ true → has q xs ≡ true
begins_has q [] h = h
begins_has q (x ∷ xs) h = grind (arith, nat_tests)

second_stands : (p q : ℕ) (xs : List ℕ) → neighbours p q (0 ∷ xs) ≡ true → has q xs ≡ true
second_stands p q xs h =
    let first = begins_has q xs in
    let later = λ (e : neighbours p q xs ≡ true). (neighbours_stand p q xs e).1 in
    grind (arith, nat_tests)

pub not_first : (y : ℕ) (xs : List ℕ) → (y ≡ 0 → ⊥) → has y (0 ∷ xs) ≡ true → has y xs ≡ true
not_first y xs there h = grind (arith, nat_tests)

full_side : (lower right : ℕ) → (not (eqb lower 0) && eqb right 0) ≡ false → (lower ≡ 0) ⊎ (right ≡ 0 → ⊥)
full_side lower right h =
    elim (and_cases (not (eqb lower 0)) (eqb right 0) h) [
      | inl e ↦ inl (eqb-true lower 0 (not-false _ e))
      | inr e ↦ inr (eqb-false right 0 e)
    ]

pub goes_right : (lower x upper : ℕ) (es : List Entry) → (not (eqb lower 0) && eqb (at es lower).children.right 0) ≡ true
    → hung_between lower x upper es ≡ hung Higher lower x lower upper es
unfolding hung_between
goes_right lower x upper es h = cond-true _ _ _ h

pub goes_left : (lower x upper : ℕ) (es : List Entry) → (not (eqb lower 0) && eqb (at es lower).children.right 0) ≡ false
    → hung_between lower x upper es ≡ hung Lower upper x lower upper es
unfolding hung_between
goes_left lower x upper es h = cond-false _ _ _ h

module _ (es : List Entry) (n : ℕ) (t : Shape) (h : Holds (at es) n t) where
  abbrev f : ℕ → Entry
  f = at es

  nonzero_in : (y : ℕ) → has y (order t) ≡ true → y ≡ 0 → ⊥
  nonzero_in y e i = both_ways _ (nought_of f n t h) (ap (λ z. holds z t) (sym i) ∙ sym (has_order y t) ∙ e)

  really : (p q : ℕ) → (f p).after ≡ q → (q ≡ 0 → ⊥) → neighbours p q (0 ∷ order t) ≡ true
  really p q after there =
      elim (cases_Bool (has p (0 ∷ order t))) [
        | inl stands ↦
            let next =
            some_after p 1 (0 ∷ order t) stands (parts_of f n t h).last
            (λ i. there (sym after ∙ ap (λ z. (f z).after) i ∙ h.last_is)) in
            let same : next.0 ≡ q = sym (neighbours_know f p next.0 (0 ∷ order t) h.thread next.1).0 ∙ after in
            ap (λ z. neighbours p z (0 ∷ order t)) (sym same) ∙ next.1
        | inr absent ↦ absurd (there (sym after ∙ (h.rest p absent).1))
      ]

  -- Two places are neighbours if the upper one is noted after the lower one.
  pub neighbours_by_after : (p q : ℕ) → neighbours p q (0 ∷ order t) ≡ (not (eqb q 0) && eqb (f p).after q)
  neighbours_by_after p q =
      elim (cases_Bool (neighbours p q (0 ∷ order t))) [
        | inl e ↦
            let known = (neighbours_know f p q (0 ∷ order t) h.thread e).0 in
            let there = nonzero_in q (second_stands p q (order t) e) in
            e ∙ sym (and_from _ _ (not_from_false _ (ne_eqb q 0 there)) (eq-eqb _ _ known))
        | inr e ↦
            e
            ∙ sym (elim (cases_Bool (not (eqb q 0) && eqb (f p).after q)) [
              | inl d ↦
                  let both = and_parts (not (eqb q 0)) (eqb (f p).after q) d in
                  let after = eqb-true (f p).after q both.1 in
                  let there : q ≡ 0 → ⊥ = eqb-false q 0 (not-true _ both.0) in
                  absurd (both_ways _ e (really p q after there))
              | inr d ↦ d
            ])
      ]

  -- A child stands on its side.
  left_precedes : (k : Spot) (l : Shape) (p : ℕ) (r : Shape) → t ≡ plug k (node l p r) → ((f p).children.left ≡ 0 → ⊥)
      → precedes (f p).children.left p (0 ∷ order t) ≡ true
  left_precedes k bare p r is there =
      absurd (there (unplug f k (node bare p r) (subst (λ (u : Shape). Shows f 0 u) is h.shown)).1.0)
  left_precedes k (node a b c) p r is there =
      let l = node a b c in
      let low = (unplug f k (node l p r) (subst (λ (u : Shape). Shows f 0 u) is h.shown)).1.0 in
      let front = 0 ∷ (fronts k ++ order a) in
      let back = order c ++ p ∷ (order r ++ backs k) in
      let was : 0 ∷ order t ≡ front ++ b ∷ back =
      ap (λ (u : Shape). 0 ∷ order u) is ∙ ap (λ xs. 0 ∷ xs) (order_plug k (node l p r) ∙ simp append_assoc) in
      let once = ap distinct (sym was) ∙ (parts_of f n t h).once in
      ap (λ x. precedes x p (0 ∷ order t)) low
      ∙ ap (precedes b p) was
      ∙ precedes_at b p front back (distinct_at_before b front back once)
      ∙ has_right p (order c) (p ∷ (order r ++ backs k)) (has_first p (order r ++ backs k))

  right_precedes : (k : Spot) (l : Shape) (p : ℕ) (r : Shape) → t ≡ plug k (node l p r) → ((f p).children.right ≡ 0 → ⊥)
      → precedes p (f p).children.right (0 ∷ order t) ≡ true
  right_precedes k l p bare is there =
      absurd (there (unplug f k (node l p bare) (subst (λ (u : Shape). Shows f 0 u) is h.shown)).1.1)
  right_precedes k l p (node a b c) is there =
      let r = node a b c in
      let high = (unplug f k (node l p r) (subst (λ (u : Shape). Shows f 0 u) is h.shown)).1.1 in
      let front = 0 ∷ (fronts k ++ order l) in
      let back = order a ++ b ∷ (order c ++ backs k) in
      let was : 0 ∷ order t ≡ front ++ p ∷ back =
      ap (λ (u : Shape). 0 ∷ order u) is ∙ ap (λ xs. 0 ∷ xs) (order_plug k (node l p r) ∙ simp append_assoc) in
      let once = ap distinct (sym was) ∙ (parts_of f n t h).once in
      ap (λ x. precedes p x (0 ∷ order t)) high
      ∙ ap (precedes p b) was
      ∙ precedes_at p b front back (distinct_at_before p front back once)
      ∙ has_right b (order a) (b ∷ (order c ++ backs k)) (has_first b (order c ++ backs k))

  pub child_answers : (p : ℕ) (side : Side) → holds p t ≡ true → (child side (f p) ≡ 0 → ⊥)
      → AnswersBeside (0 ∷ order t) p side (Stands (child side (f p)))
  child_answers p Lower hangs there =
      let at_p = locate top t p hangs in
      left_precedes at_p.spot at_p.low p at_p.high at_p.is there
  child_answers p Higher hangs there =
      let at_p = locate top t p hangs in
      right_precedes at_p.spot at_p.low p at_p.high at_p.is there

module _ (es : List Entry) (n : ℕ) (t : Shape) (h : Holds (at es) n t) (sized : length es ≡ 1024) (room : n ≤ 1024)
    (lower x upper : ℕ) (beside : neighbours lower upper (0 ∷ order t) ≡ true) (fresh_x : has x (0 ∷ order t) ≡ false)
    (inside : x < n) where
  once_t : distinct (0 ∷ order t) ≡ true
  once_t = (parts_of (at es) n t h).once

  placed_at : (side : Side) (j : Spot) (q : ℕ) (s : Shape) → t ≡ plug (under side j q s) bare
      → Between (under side j q s) lower upper → Placed (at (hung side q x lower upper es)) n lower x t
  placed_at side j q s is gap =
      let here = subst (λ (u : Shape). Holds (at es) n u) is h in
      let fresh_here = ap (λ (u : Shape). has x (0 ∷ order u)) (sym is) ∙ fresh_x in
      record {
        tree = plug (under side j q s) (node bare x bare);
        holds = hung_holds es n side j q s x lower upper here sized room gap fresh_here inside;
        grows =
            hung_grows es n side j q s x lower upper here sized room gap fresh_here inside
            ∙ ap (λ (u : Shape). meaning.with_after lower x (0 ∷ order u)) (sym is);
      }

  on_right : (k : Spot) (l r : Shape) → t ≡ plug k (node l lower r) → (at es lower).children.right ≡ 0
      → Placed (at (hung Higher lower x lower upper es)) n lower x t
  on_right k l bare is none =
      let cut = cut_at lower upper (0 ∷ order t) beside in
      let front = 0 ∷ (fronts k ++ order l) in
      let was : 0 ∷ order t ≡ front ++ lower ∷ backs k =
      ap (λ (u : Shape). 0 ∷ order u) is ∙ ap (λ xs. 0 ∷ xs) (order_plug k (node l lower bare) ∙ simp append_assoc) in
      placed_at Higher k lower l is record {
        front = front;
        back = cut.back;
        ends = ap (λ xs. 0 ∷ xs) (sym (append_assoc (fronts k) (order l) (lower ∷ [])));
        begins = (cut_once lower front (backs k) cut.front (upper ∷ cut.back) (ap distinct (sym was) ∙ once_t) (sym was ∙ cut.is)).1;
      }
  on_right k l (node a b c) is none =
      let shown = subst (λ (u : Shape). Shows (at es) 0 u) is h.shown in
      let right = (unplug (at es) k (node l lower (node a b c)) shown).1.1 in
      let nought = ap (holds 0) (sym is) ∙ nought_of (at es) n t h in
      absurd (nonzero (under Higher k lower l) a b c nought (sym right ∙ none))

  on_left : (k : Spot) (l r : Shape) → t ≡ plug k (node l upper r) → (lower ≡ 0) ⊎ ((at es lower).children.right ≡ 0 → ⊥)
      → Placed (at (hung Lower upper x lower upper es)) n lower x t
  on_left k bare r is full =
      let cut = cut_at lower upper (0 ∷ order t) beside in
      let was : 0 ∷ order t ≡ (0 ∷ fronts k) ++ upper ∷ (order r ++ backs k) =
      ap (λ (u : Shape). 0 ∷ order u) is ∙ ap (λ xs. 0 ∷ xs) (order_plug k (node bare upper r)) in
      placed_at Lower k upper r is record {
        front = cut.front;
        back = order r ++ backs k;
        ends =
            (cut_once upper (0 ∷ fronts k) (order r ++ backs k) (cut.front ++ lower ∷ []) cut.back
            (ap distinct (sym was) ∙ once_t)
            (sym was ∙ cut.is ∙ sym (append_assoc cut.front (lower ∷ []) (upper ∷ cut.back)))).0;
        begins = refl;
      }
  on_left k (node a b c) r is full =
      let l = node a b c in
      let hole = (unplug (at es) k (node l upper r) (subst (λ (u : Shape). Shows (at es) 0 u) is h.shown)).1 in
      let last = last_of (at es) upper a b c hole.3 in
      let z = last.place in
      let front = fronts k ++ last.before in
      let back = upper ∷ (order r ++ backs k) in
      let was : order t ≡ front ++ z ∷ back =
      ap order is
      ∙ order_plug k (node l upper r)
      ∙ ap (λ xs. fronts k ++ ((xs ++ upper ∷ order r) ++ backs k)) last.is
      ∙ simp append_assoc in
      let near : neighbours z upper (0 ∷ order t) ≡ true =
      ap (λ xs. neighbours z upper (0 ∷ xs)) was ∙ neighbours_cut z upper (0 ∷ front) (order r ++ backs k) in
      let same : lower ≡ z =
      sym (neighbours_know (at es) lower upper (0 ∷ order t) h.thread beside).1
      ∙ (neighbours_know (at es) z upper (0 ∷ order t) h.thread near).1 in
      let there : has z (order t) ≡ true = ap (has z) was ∙ has_right z front (z ∷ back) (has_first z back) in
      elim full [
        | inl low ↦ absurd (nonzero_in es n t h z there (sym same ∙ low))
        | inr none ↦ absurd (none (ap (λ i. (at es i).children.right) same ∙ last.ends))
      ]

  right_case : (lower ≡ 0 → ⊥) → (at es lower).children.right ≡ 0 → Placed (at (hung Higher lower x lower upper es)) n lower x t
  right_case there none =
      let stands = (neighbours_stand lower upper (0 ∷ order t) beside).0 in
      let found = locate top t lower (sym (has_order lower t) ∙ not_first lower (order t) there stands) in
      on_right found.spot found.low found.high found.is none

  left_case : (lower ≡ 0) ⊎ ((at es lower).children.right ≡ 0 → ⊥) → Placed (at (hung Lower upper x lower upper es)) n lower x t
  left_case full =
      let found = locate top t upper (sym (has_order upper t) ∙ second_stands lower upper (order t) beside) in
      on_left found.spot found.low found.high found.is full

  pub between_places : Placed (at (hung_between lower x upper es)) n lower x t
  between_places =
      elim (cases_Bool (not (eqb lower 0) && eqb (at es lower).children.right 0)) [
        | inl e ↦
            let both = and_parts (not (eqb lower 0)) (eqb (at es lower).children.right 0) e in
            subst (λ (ds : List Entry). Placed (at ds) n lower x t) (sym (goes_right lower x upper es e))
            (right_case (eqb-false _ _ (not-true _ both.0)) (eqb-true _ _ both.1))
        | inr e ↦
            subst (λ (ds : List Entry). Placed (at ds) n lower x t) (sym (goes_left lower x upper es e))
            (left_case (full_side lower (at es lower).children.right e))
      ]

pub length_hung_between : (lower x upper : ℕ) (es : List Entry) → length (hung_between lower x upper es) ≡ length es
unfolding hung_between hung
length_hung_between lower x upper es =
    cond_both (not (eqb lower 0) && eqb (at es lower).children.right 0) (hung Higher lower x lower upper es)
    (hung Lower upper x lower upper es) (λ (ds : List Entry). length ds ≡ length es)
    (λ _. length_revised (hanging Higher lower x lower upper) es) (λ _. length_revised (hanging Lower upper x lower upper) es)
