-- What taking a place with two children out of the tree leaves: its successor yields its own spot and gets the place's.
-- Assumes that no place hangs twice.
use Rattle.std.proofs.Common.{◌≡◌, ℕ, ◌≤◌, true, false, ◌||◌, eqb, ◌⊎◌, List, [], ◌∷◌, ◌++◌, length, sym, refl, ap, ◌∙◌, subst, inl, inr, append_assoc, arith}
use Rattle.std.proofs.lemmas.Bool.{both_ways, or_from, or_left, or_right, cond-true, cond-false, cond_both, eq-eqb, ne_eqb}
use Rattle.guides.specs.declared.answer.Side.TheVariants.{Lower, Higher}
use Rattle.guides.specs.Meaning.{has, distinct, all_below, neighbours, without}
use Rattle.guides.proofs.Sequences.{Lawful, has_append, has_without, all_below_without}
use Rattle.guides.proofs.Sequences.{distinct_at_before, distinct_at_after, distinct_without, without_at}
use Rattle.tables.specs.declared.entry.Entry.{Entry}
use Rattle.tables.specs.Changes.{lifted, yielding, yielded, unlinked}
use Rattle.tables.specs.Revisions.{at}
use Rattle.tables.specs.Shapes.{Shape, bare, node, root, order}
use Rattle.tables.proofs.Hanging.{differs, later_absent}
use Rattle.tables.proofs.Holding.{Holds, parts_of, below_has, once_in, nought_in, stands_in}
use Rattle.tables.proofs.Links.{yield_shows}
use Rattle.tables.proofs.Orders.{fronts, backs, order_plug, root_plug, above_stands, root_stands, First, first_of, cut_once, locate}
use Rattle.tables.proofs.Spots.{Shows, Spot, top, under, plug, around, holds, has_order, holds_plug, holds_root, unplug}
use Rattle.tables.proofs.Threads.{Thread, neighbours_cut, neighbours_know}
use Rattle.tables.proofs.Unlinking.{Unlinked, lift_leaves, lift_unlinks, length_lifted, length_yielded, root_kept}
use Rattle.tables.proofs.Writes.{Within, touched, at_revised, touched_away, field_kept}

module _ (es : List Entry) (n : ℕ) (k : Spot) (l : Shape) (p : ℕ) (a : Shape) (b : ℕ) (c : Shape)
    (shown : Shows (at es) 0 (plug k (node l p (node a b c)))) (law : Lawful n (0 ∷ order (plug k (node l p (node a b c)))))
    (thread : Thread (at es) (0 ∷ order (plug k (node l p (node a b c)))))
    (sized : length es ≡ 1024) (room : n ≤ 1024) (below : root (plug k (node l p (node a b c))) ≡ p → ⊥) where
  abbrev w : Shape
  w = plug k (node l p (node a b c))

  abbrev one : First (under Higher k p l) (node a b c)
  one = first_of (under Higher k p l) a b c

  abbrev s : ℕ
  s = one.place

  abbrev f : ℕ → Entry
  f = at es

  -- What stands before the place, and what stands behind its successor.
  abbrev before : List ℕ
  before = 0 ∷ (fronts k ++ order l)

  abbrev behind : List ℕ
  behind = order one.rest ++ backs one.spot

  was_two : 0 ∷ order w ≡ before ++ p ∷ s ∷ behind
  was_two =
      ap (λ (t : Shape). 0 ∷ order t) one.is
      ∙ ap (λ xs. 0 ∷ xs) (order_plug one.spot (node bare s one.rest))
      ∙ ap (λ xs. 0 ∷ (xs ++ s ∷ behind)) one.same
      ∙ ap (λ xs. 0 ∷ xs) (simp append_assoc)

  after_is : (f p).after ≡ s
  after_is =
      (neighbours_know f p s (0 ∷ order w) thread (ap (neighbours p s) was_two ∙ neighbours_cut p s before behind)).0

  -- ---- the successor is lifted out

  abbrev k2 : Spot
  k2 = one.spot

  abbrev v : Shape
  v = one.rest

  abbrev w2 : Shape
  w2 = plug k2 (node bare s v)

  abbrev r1 : Shape
  r1 = (one.keeps v).0

  abbrev t1 : Shape
  t1 = plug k (node l p r1)

  abbrev g1 : ℕ → Entry
  g1 = at (lifted s es)

  moved : plug k2 v ≡ t1
  moved = (one.keeps v).1

  law2 : Lawful n (0 ∷ order w2)
  law2 = subst (λ (t : Shape). Lawful n (0 ∷ order t)) one.is law

  shown2 : Shows f 0 w2
  shown2 = subst (λ (t : Shape). Shows f 0 t) one.is shown

  top2 : root (plug k2 v) ≡ root w2
  top2 = ap root moved ∙ root_plug k (node l p r1) (node l p (node a b c)) refl ∙ ap root one.is

  first : Unlinked f g1 s w2
  first = lift_unlinks es n k2 Higher v s shown2 law2 sized room top2

  cut_is : 0 ∷ order t1 ≡ before ++ p ∷ behind
  cut_is =
      ap (λ (t : Shape). 0 ∷ order t) (sym moved)
      ∙ ap (λ xs. 0 ∷ xs) (order_plug k2 v)
      ∙ ap (λ xs. 0 ∷ (xs ++ behind)) one.same
      ∙ ap (λ xs. 0 ∷ xs) (simp append_assoc)

  once2 : distinct ((before ++ p ∷ []) ++ s ∷ behind) ≡ true
  once2 = ap distinct (append_assoc before (p ∷ []) (s ∷ behind) ∙ sym was_two) ∙ law.once

  cut_two : (before ++ p ∷ []) ++ behind ≡ 0 ∷ order t1
  cut_two = append_assoc before (p ∷ []) behind ∙ sym cut_is

  gone : 0 ∷ order t1 ≡ without s (0 ∷ order w)
  gone =
      sym cut_two
      ∙ sym (without_at s (before ++ p ∷ []) behind (distinct_at_before s (before ++ p ∷ []) behind once2))
      ∙ ap (without s) (append_assoc before (p ∷ []) (s ∷ behind) ∙ sym was_two)

  once1 : distinct (0 ∷ order t1) ≡ true
  once1 = ap distinct gone ∙ distinct_without s (0 ∷ order w) law.once

  below1 : all_below n (0 ∷ order t1) ≡ true
  below1 = ap (all_below n) gone ∙ all_below_without n s (0 ∷ order w) law.below

  absent1 : (y : ℕ) → has y (0 ∷ order w) ≡ false → has y (0 ∷ order t1) ≡ false
  absent1 y e = ap (has y) gone ∙ has_without s y (0 ∷ order w) e

  s_out : holds s t1 ≡ false
  s_out =
      sym (has_order s t1)
      ∙ later_absent s (order t1)
      (ap (has s) (sym cut_two)
      ∙ has_append s (before ++ p ∷ []) behind
      ∙ or_from _ _ (distinct_at_before s (before ++ p ∷ []) behind once2)
      (distinct_at_after s (before ++ p ∷ []) behind once2))

  s_hangs : holds s w ≡ true
  s_hangs =
      ap (holds s) one.is
      ∙ holds_plug s k2 (node bare s v)
      ∙ or_left (holds s (node bare s v)) (around s k2) (holds_root bare s v)

  s_nonzero : s ≡ 0 → ⊥
  s_nonzero i = both_ways _ (nought_in w law.once) (ap (λ z. holds z w) (sym i) ∙ s_hangs)

  shown1 : Shows g1 0 t1
  shown1 = subst (λ (t : Shape). Shows g1 0 t) moved (lift_leaves es n k2 Higher v s shown2 law2 sized room top2)

  -- ---- it gets the spot of the place

  abbrev es1 : List Entry
  es1 = lifted s es

  abbrev g2 : ℕ → Entry
  g2 = at (yielded p s es1)

  parent_in : has (g1 p).parent (0 ∷ order t1) ≡ true
  parent_in =
      ap (λ z. has z (0 ∷ order t1)) (unplug g1 k (node l p r1) shown1).1.2 ∙ above_stands k (node l p r1)

  left_in : has (g1 p).children.left (0 ∷ order t1) ≡ true
  left_in =
      ap (λ z. has z (0 ∷ order t1)) (unplug g1 k (node l p r1) shown1).1.0 ∙ root_stands (under Lower k p r1) l

  right_in : has (g1 p).children.right (0 ∷ order t1) ≡ true
  right_in =
      ap (λ z. has z (0 ∷ order t1)) (unplug g1 k (node l p r1) shown1).1.1 ∙ root_stands (under Higher k p l) r1

  s_in : has s (0 ∷ order w) ≡ true
  s_in = stands_in s w s_hangs

  reads : (y : ℕ) → g2 y ≡ touched (yielding p s (g1 p)) y (g1 y)
  unfolding yielded
  reads y =
      let x0 = below_has n (g1 p).parent (0 ∷ order t1) below1 parent_in in
      let x1 = below_has n (g1 p).children.left (0 ∷ order t1) below1 left_in in
      let x2 = below_has n (g1 p).children.right (0 ∷ order t1) below1 right_in in
      let x3 = below_has n s (0 ∷ order w) law.below s_in in
      let within : Within 1024 (yielding p s (g1 p)) = (omega arith, (omega arith, (omega arith, (omega arith, tt)))) in
      at_revised (yielding p s (g1 p)) es1 1024 (length_lifted s es ∙ sized) within y

  tail_is : order r1 ++ backs k ≡ behind
  tail_is =
      let other : 0 ∷ order t1 ≡ before ++ p ∷ (order r1 ++ backs k) =
      ap (λ xs. 0 ∷ xs) (order_plug k (node l p r1) ∙ simp append_assoc) in
      (cut_once p before (order r1 ++ backs k) before behind (ap distinct (sym other) ∙ once1) (sym other ∙ cut_is)).1

  pub yield_unlinks : Unlinked f g2 p w
  yield_unlinks =
      record {
        tree = plug k (node l s r1);
        shown =
            yield_shows g1 g2 k l p r1 s shown1 (once_in t1 once1) (nought_in t1 once1) s_out s_nonzero reads;
        top_same = root_kept k (node l p (node a b c)) (node l s r1) below;
        front = before;
        back = s ∷ behind;
        was = was_two;
        is =
            ap (λ xs. 0 ∷ xs) (order_plug k (node l s r1))
            ∙ ap (λ xs. 0 ∷ xs) (simp append_assoc)
            ∙ ap (λ xs. before ++ s ∷ xs) tail_is;
        after_same = λ y.
            ap (λ (e : Entry). e.after) (reads y)
            ∙ field_kept (λ e. e.after) (yielding p s (g1 p)) y (g1 y)
            (inr (λ e. refl), (inr (λ e. refl), (inr (λ e. refl), (inr (λ e. refl), tt))))
            ∙ first.after_same y;
        before_same = λ y.
            ap (λ (e : Entry). e.before) (reads y)
            ∙ field_kept (λ e. e.before) (yielding p s (g1 p)) y (g1 y)
            (inr (λ e. refl), (inr (λ e. refl), (inr (λ e. refl), (inr (λ e. refl), tt))))
            ∙ first.before_same y;
        outside = λ y e.
            let out = absent1 y e in
            reads y
            ∙ touched_away (yielding p s (g1 p)) y (g1 y) (
              differs y (g1 p).parent (0 ∷ order t1) out parent_in,
              (
                differs y (g1 p).children.left (0 ∷ order t1) out left_in,
                (
                  differs y (g1 p).children.right (0 ∷ order t1) out right_in,
                  (differs y s (0 ∷ order w) e s_in, tt),
                ),
              ),
            )
            ∙ first.outside y (ap (λ (t : Shape). has y (0 ∷ order t)) (sym one.is) ∙ e);
      }

-- ---- either way

-- The cases of the definition.
lifts_alone : (p : ℕ) (es : List Entry) → ((at es p).children.left ≡ 0) ⊎ ((at es p).children.right ≡ 0) → unlinked p es ≡ lifted p es
unfolding unlinked
lifts_alone p es (inl h) = cond-true _ _ _ (or_left _ _ (eq-eqb _ _ h))
lifts_alone p es (inr h) = cond-true _ _ _ (or_right (eqb (at es p).children.left 0) _ (eq-eqb _ _ h))

lifts_both : (p s : ℕ) (es : List Entry) → ((at es p).children.left ≡ 0 → ⊥) → ((at es p).children.right ≡ 0 → ⊥) → (at es p).after ≡ s
    → unlinked p es ≡ yielded p s (lifted s es)
unfolding unlinked
lifts_both p s es h k e =
    cond-false _ _ _ (or_from _ _ (ne_eqb _ _ h) (ne_eqb _ _ k)) ∙ ap (λ x. yielded p x (lifted x es)) e

pub nonzero : (k : Spot) (a : Shape) (b : ℕ) (c : Shape) → holds 0 (plug k (node a b c)) ≡ false → b ≡ 0 → ⊥
nonzero k a b c nought i =
    both_ways _ nought
    (ap (λ z. holds z (plug k (node a b c))) (sym i) ∙ holds_plug b k (node a b c)
    ∙ or_left (holds b (node a b c)) (around b k) (holds_root a b c))

module _ (es : List Entry) (n : ℕ) (t : Shape) (h : Holds (at es) n t) (sized : length es ≡ 1024) (room : n ≤ 1024)
    (p : ℕ) (inner : p ≡ 1 → ⊥) where
  by_cases : (k : Spot) (l r : Shape) → t ≡ plug k (node l p r)
      → Unlinked (at es) (at (unlinked p es)) p (plug k (node l p r))
  by_cases k bare r is =
      let shown = subst (λ (u : Shape). Shows (at es) 0 u) is h.shown in
      let law = subst (λ (u : Shape). Lawful n (0 ∷ order u)) is (parts_of (at es) n t h) in
      let below : root (plug k (node bare p r)) ≡ p → ⊥ = λ i. inner (sym i ∙ sym (ap root is) ∙ h.top_is) in
      subst (λ (ds : List Entry). Unlinked (at es) (at ds) p (plug k (node bare p r)))
      (sym (lifts_alone p es (inl (unplug (at es) k (node bare p r) shown).1.0)))
      (lift_unlinks es n k Higher r p shown law sized room (root_kept k (node bare p r) r below))
  by_cases k (node x y z) bare is =
      let l = node x y z in
      let shown = subst (λ (u : Shape). Shows (at es) 0 u) is h.shown in
      let law = subst (λ (u : Shape). Lawful n (0 ∷ order u)) is (parts_of (at es) n t h) in
      let below : root (plug k (node l p bare)) ≡ p → ⊥ = λ i. inner (sym i ∙ sym (ap root is) ∙ h.top_is) in
      subst (λ (ds : List Entry). Unlinked (at es) (at ds) p (plug k (node l p bare)))
      (sym (lifts_alone p es (inr (unplug (at es) k (node l p bare) shown).1.1)))
      (lift_unlinks es n k Lower l p shown law sized room (root_kept k (node l p bare) l below))
  by_cases k (node x y z) (node a b c) is =
      let l = node x y z in
      let r = node a b c in
      let shown = subst (λ (u : Shape). Shows (at es) 0 u) is h.shown in
      let law = subst (λ (u : Shape). Lawful n (0 ∷ order u)) is (parts_of (at es) n t h) in
      let thread = subst (λ (u : Shape). Thread (at es) (0 ∷ order u)) is h.thread in
      let below : root (plug k (node l p r)) ≡ p → ⊥ = λ i. inner (sym i ∙ sym (ap root is) ∙ h.top_is) in
      let hole = (unplug (at es) k (node l p r) shown).1 in
      let nought = nought_in (plug k (node l p r)) law.once in
      let low : (at es p).children.left ≡ 0 → ⊥ = λ i. nonzero (under Lower k p r) x y z nought (sym hole.0 ∙ i) in
      let high : (at es p).children.right ≡ 0 → ⊥ = λ i. nonzero (under Higher k p l) a b c nought (sym hole.1 ∙ i) in
      subst (λ (ds : List Entry). Unlinked (at es) (at ds) p (plug k (node l p r)))
      (sym (lifts_both p _ es low high (after_is es n k l p a b c shown law thread sized room below)))
      (yield_unlinks es n k l p a b c shown law thread sized room below)

  pub unlink_unlinks : holds p t ≡ true → Unlinked (at es) (at (unlinked p es)) p t
  unlink_unlinks hangs =
      let found = locate top t p hangs in
      subst (λ (u : Shape). Unlinked (at es) (at (unlinked p es)) p u) (sym found.is)
      (by_cases found.spot found.low found.high found.is)

pub length_unlinked : (p : ℕ) (es : List Entry) → length (unlinked p es) ≡ length es
unfolding unlinked
length_unlinked p es =
    let s = (at es p).after in
    cond_both (eqb (at es p).children.left 0 || eqb (at es p).children.right 0) (lifted p es) (yielded p s (lifted s es))
    (λ (ds : List Entry). length ds ≡ length es) (λ _. length_lifted p es)
    (λ _. length_yielded p s (lifted s es) ∙ length_lifted s es)
