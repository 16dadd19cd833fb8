-- A table that keeps the rule keeps it when a place is hung between two neighbours. Assumes nothing.
use Rattle.std.proofs.Common.{◌≡◌, ℕ, ◌<◌, ◌≤◌, true, false, List, [], ◌∷◌, ◌++◌, length, sym, refl, ap, ◌∙◌, subst, inl, inr, append_assoc, arith}
use Rattle.std.proofs.lemmas.Bool.{both_ways}
use Rattle.std.proofs.lemmas.Bool.Decides.{nat_tests}
use Rattle.guides.specs.declared.answer.Side.{Side}
use Rattle.guides.specs.Meaning as meaning
use Rattle.guides.specs.Meaning.{has, distinct, neighbours, lawful}
use Rattle.guides.proofs.Sequences.{attached_is_lawful, with_after_at, has_with_after, distinct_at_before}
use Rattle.tables.specs.declared.entry.Entry.{Entry}
use Rattle.tables.specs.Changes.{hanging, hung}
use Rattle.tables.specs.Entries.{with_child, fresh, with_after, with_before}
use Rattle.tables.specs.Revisions.{at}
use Rattle.tables.specs.Shapes.{Shape, bare, node, order}
use Rattle.tables.proofs.Holding.{Holds, meant, parts_of, once_of, nought_of, below_of, high_stands}
use Rattle.tables.proofs.Links.{hang_shows}
use Rattle.tables.proofs.Orders.{fronts, backs, order_plug, root_plug, above_stands}
use Rattle.tables.proofs.Spots.{Shows, Spot, under, plug, holds, has_order, frame_shows, Same, root_join, join}
use Rattle.tables.proofs.Threads.{Thread, Alike, thread_inserted, neighbours_cut, neighbours_stand, neighbours_know, has_right, has_first}
use Rattle.tables.proofs.Writes.{Within, touched, at_revised, touched_away, touch_hit, touch_skip, field_kept}

absent_after : (p x y : ℕ) (xs : List ℕ) → has p xs ≡ true → has y (meaning.with_after p x xs) ≡ false
    → (has y xs ≡ false) × (y ≡ x → ⊥)
absent_after p x y xs stands h =
    let all = sym (has_with_after p x y xs) ∙ h in
    (grind (arith, nat_tests), λ i. grind (arith, nat_tests))

pub later_absent : (x : ℕ) (xs : List ℕ) → has x (0 ∷ xs) ≡ false → has x xs ≡ false
later_absent x xs h = grind (arith, nat_tests)

pub differs : (y z : ℕ) (xs : List ℕ) → has y xs ≡ false → has z xs ≡ true → y ≡ z → ⊥
differs y z xs h k i = both_ways _ h (ap (λ w. has w xs) i ∙ k)

-- The spot lies between lower and upper: what stands before it ends with lower, and what stands behind it begins with
-- upper.
pub record Between (k : Spot) (lower upper : ℕ) : Type 0 where
  pub front : List ℕ
  pub back : List ℕ
  pub ends : 0 ∷ fronts k ≡ front ++ lower ∷ []
  pub begins : backs k ≡ upper ∷ back

module _ (es : List Entry) (n : ℕ) (side : Side) (j : Spot) (q : ℕ) (s : Shape) (x lower upper : ℕ)
    (h : Holds (at es) n (plug (under side j q s) bare)) (sized : length es ≡ 1024) (room : n ≤ 1024)
    (gap : Between (under side j q s) lower upper)
    (fresh_x : has x (0 ∷ order (plug (under side j q s) bare)) ≡ false) (inside : x < n) where
  abbrev k : Spot
  k = under side j q s

  abbrev t : Shape
  t = plug k bare

  abbrev u : Shape
  u = plug k (node bare x bare)

  abbrev f : ℕ → Entry
  f = at es

  abbrev g : ℕ → Entry
  g y = touched ((q, with_child side x) ∷ (x, λ _. fresh q lower upper) ∷ []) y (f y)

  abbrev d : ℕ → Entry
  d = at (hung side q x lower upper es)

  was : 0 ∷ order t ≡ gap.front ++ lower ∷ upper ∷ gap.back
  was =
      ap (λ xs. 0 ∷ xs) (order_plug k bare)
      ∙ ap (λ xs. xs ++ backs k) gap.ends
      ∙ ap (λ ys. (gap.front ++ lower ∷ []) ++ ys) gap.begins
      ∙ append_assoc gap.front (lower ∷ []) (upper ∷ gap.back)

  is : 0 ∷ order u ≡ gap.front ++ lower ∷ x ∷ upper ∷ gap.back
  is =
      ap (λ xs. 0 ∷ xs) (order_plug k (node bare x bare))
      ∙ ap (λ xs. xs ++ x ∷ backs k) gap.ends
      ∙ ap (λ ys. (gap.front ++ lower ∷ []) ++ x ∷ ys) gap.begins
      ∙ append_assoc gap.front (lower ∷ []) (x ∷ upper ∷ gap.back)

  once : distinct (gap.front ++ lower ∷ upper ∷ gap.back) ≡ true
  once = ap distinct (sym was) ∙ (parts_of f n t h).once

  pub hung_grows : 0 ∷ order u ≡ meaning.with_after lower x (0 ∷ order t)
  hung_grows =
      is
      ∙ sym (with_after_at lower x gap.front (upper ∷ gap.back) (distinct_at_before lower gap.front (upper ∷ gap.back) once))
      ∙ ap (meaning.with_after lower x) (sym was)

  beside : neighbours lower upper (0 ∷ order t) ≡ true
  beside = ap (neighbours lower upper) was ∙ neighbours_cut lower upper gap.front gap.back

  lower_stands : has lower (0 ∷ order t) ≡ true
  lower_stands = (neighbours_stand lower upper (0 ∷ order t) beside).0

  upper_stands : has upper (0 ∷ order t) ≡ true
  upper_stands = (neighbours_stand lower upper (0 ∷ order t) beside).1

  q_stands : has q (0 ∷ order t) ≡ true
  q_stands = above_stands k bare

  x_lower : x ≡ lower → ⊥
  x_lower = differs x lower (0 ∷ order t) fresh_x lower_stands

  x_upper : x ≡ upper → ⊥
  x_upper = differs x upper (0 ∷ order t) fresh_x upper_stands

  x_q : x ≡ q → ⊥
  x_q = differs x q (0 ∷ order t) fresh_x q_stands

  x_hangs : holds x t ≡ false
  x_hangs = sym (has_order x t) ∙ later_absent x (order t) fresh_x

  reads : (y : ℕ) → d y ≡ touched (hanging side q x lower upper) y (f y)
  unfolding hung
  reads y =
      let q_in = below_of f n t h q q_stands in
      let lower_in = below_of f n t h lower lower_stands in
      let upper_in = below_of f n t h upper upper_stands in
      let within : Within 1024 (hanging side q x lower upper) =
      (omega arith, (omega arith, (omega arith, (omega arith, tt)))) in
      at_revised (hanging side q x lower upper) es 1024 sized within y

  -- The thread's two writes.
  abbrev quiet : List (ℕ × (Entry → Entry))
  quiet = (lower, with_after x) ∷ (upper, with_before x) ∷ []

  links : (y : ℕ) → Same (g y) (d y)
  links y = (
    ap (λ (e : Entry). e.children.left) (reads y) ∙ field_kept (λ e. e.children.left) quiet y (g y) (inr (λ e. refl), (inr (λ e. refl), tt)),
    ap (λ (e : Entry). e.children.right) (reads y) ∙ field_kept (λ e. e.children.right) quiet y (g y) (inr (λ e. refl), (inr (λ e. refl), tt)),
    ap (λ (e : Entry). e.parent) (reads y) ∙ field_kept (λ e. e.parent) quiet y (g y) (inr (λ e. refl), (inr (λ e. refl), tt)),
  )

  shown : Shows d 0 u
  shown =
      frame_shows g d 0 u (λ y _. links y)
      (hang_shows f g side j q s x lower upper h.shown (once_of f n t h) x_hangs (λ y. refl))

  own : d x ≡ fresh q lower upper
  own =
      reads x
      ∙ touched_away quiet x (g x) (x_lower, (x_upper, tt))
      ∙ touch_skip (q, with_child side x) ((x, λ _. fresh q lower upper) ∷ []) x (f x) x_q
      ∙ touch_hit (x, λ _. fresh q lower upper) [] x (f x) refl

  after_kept : (y : ℕ) → (y ≡ x → ⊥) → (y ≡ lower → ⊥) → (d y).after ≡ (f y).after
  after_kept y not_x not_lower =
      ap (λ (e : Entry). e.after) (reads y)
      ∙ field_kept (λ e. e.after) (hanging side q x lower upper) y (f y)
      (inr (λ e. refl), (inl not_x, (inl not_lower, (inr (λ e. refl), tt))))

  before_kept : (y : ℕ) → (y ≡ x → ⊥) → (y ≡ upper → ⊥) → (d y).before ≡ (f y).before
  before_kept y not_x not_upper =
      ap (λ (e : Entry). e.before) (reads y)
      ∙ field_kept (λ e. e.before) (hanging side q x lower upper) y (f y)
      (inr (λ e. refl), (inl not_x, (inr (λ e. refl), (inl not_upper, tt))))

  not_x : (y : ℕ) → has y (0 ∷ order t) ≡ true → y ≡ x → ⊥
  not_x y e i = differs x y (0 ∷ order t) fresh_x e (sym i)

  lower_after : (d lower).after ≡ x
  lower_after =
      ap (λ (e : Entry). e.after) (reads lower ∙ touch_hit (lower, with_after x) ((upper, with_before x) ∷ []) lower (g lower) refl)
      ∙ field_kept (λ e. e.after) ((upper, with_before x) ∷ []) lower (with_after x (g lower)) (inr (λ e. refl), tt)

  upper_before : (d upper).before ≡ x
  upper_before = ap (λ (e : Entry). e.before) (reads upper ∙ touch_hit (upper, with_before x) [] upper _ refl)

  threads : Thread d (0 ∷ order u)
  threads =
      let alike : Alike f d (gap.front ++ lower ∷ upper ∷ gap.back) lower upper =
      record {
        after = λ y e other. after_kept y (not_x y (ap (has y) was ∙ e)) other;
        before = λ y e other. before_kept y (not_x y (ap (has y) was ∙ e)) other;
      } in
      subst (λ (xs : List ℕ). Thread d xs) (sym is)
      (thread_inserted f d gap.front lower x upper gap.back once
      (subst (λ (xs : List ℕ). Thread f xs) was h.thread) alike lower_after
      (ap (λ (e : Entry). e.before) own) (ap (λ (e : Entry). e.after) own) upper_before)

  upper_nonzero : upper ≡ 0 → ⊥
  upper_nonzero i =
      let here : has upper (order t) ≡ true =
      ap (has upper) (order_plug k bare ∙ ap (λ ys. fronts k ++ ys) gap.begins)
      ∙ has_right upper (fronts k) (upper ∷ gap.back) (has_first upper gap.back) in
      both_ways _ (nought_of f n t h) (ap (λ z. holds z t) (sym i) ∙ sym (has_order upper t) ∙ here)

  high_lower : 1 ≡ lower → ⊥
  high_lower i =
      upper_nonzero
      (sym (neighbours_know f lower upper (0 ∷ order t) h.thread beside).0 ∙ ap (λ z. (f z).after) (sym i) ∙ h.last_is)

  pub hung_holds : Holds d n u
  hung_holds =
      record {
        top_is = root_plug j (join side (node bare x bare) q s) (join side bare q s)
            (root_join side (node bare x bare) q s ∙ sym (root_join side bare q s))
            ∙ h.top_is;
        law =
            ap (λ xs. lawful (record { sequence = xs; places = n })) hung_grows
            ∙ attached_is_lawful lower x upper (meant n t) h.law fresh_x inside beside;
        shown = shown;
        thread = threads;
        last_is = after_kept 1 (not_x 1 (high_stands f n t h)) high_lower ∙ h.last_is;
        rest = λ y e.
            let out = absent_after lower x y (0 ∷ order t) lower_stands (ap (has y) (sym hung_grows) ∙ e) in
            let away = λ (z : ℕ) (i : has z (0 ∷ order t) ≡ true). differs y z (0 ∷ order t) out.0 i in
            let same : d y ≡ f y =
            reads y
            ∙ touched_away (hanging side q x lower upper) y (f y)
            (away q q_stands, (out.1, (away lower lower_stands, (away upper upper_stands, tt)))) in
            let idle = h.rest y out.0 in
            (ap (λ (e : Entry). e.parent) same ∙ idle.0, ap (λ (e : Entry). e.after) same ∙ idle.1);
      }
