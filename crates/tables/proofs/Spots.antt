-- A spot in a tree, what the links show around it, and what hangs there. Assumes nothing.
use Rattle.std.proofs.Common.{◌≡◌, ℕ, Bool, true, false, ◌||◌, eqb, ◌∷◌, sym, refl, ◌∙◌, subst, arith}
use Rattle.std.proofs.lemmas.Bool.{and_parts, eqb-true, eq-eqb, or_left, or_right}
use Rattle.std.proofs.lemmas.Bool.Decides.{nat_tests}
use Rattle.guides.specs.declared.answer.Side.{Side}
use Rattle.guides.specs.declared.answer.Side.TheVariants.{Lower, Higher}
use Rattle.guides.specs.Meaning.{has, distinct}
use Rattle.guides.proofs.Sequences.{has_append, distinct_front, distinct_back, distinct_apart, distinct_at_before, distinct_at_after}
use Rattle.tables.specs.declared.entry.Entry.{Entry}
use Rattle.guides.specs.Sides.{opposite}
use Rattle.tables.specs.Entries.{child}
use Rattle.tables.specs.Shapes.{Shape, bare, node, root, order, shows}

-- ---- the links show a tree

abbrev pub Shows : (ℕ → Entry) → ℕ → Shape → Type 0
Shows f q bare = Unit {0}
Shows f q (node l p r) =
    ((f p).children.left ≡ root l) × ((f p).children.right ≡ root r) × ((f p).parent ≡ q) × Shows f p l × Shows f p r

pub shows_parts : (f : ℕ → Entry) (q : ℕ) (t : Shape) → shows f q t ≡ true → Shows f q t
shows_parts f q bare h = tt
shows_parts f q (node l p r) h =
    let one = and_parts _ _ h in
    let two = and_parts _ _ one.1 in
    let three = and_parts _ _ two.1 in
    let four = and_parts _ _ three.1 in (
      eqb-true _ _ one.0,
      eqb-true _ _ two.0,
      eqb-true _ _ three.0,
      shows_parts f p l four.0,
      shows_parts f p r four.1,
    )

pub shows_from_parts : (f : ℕ → Entry) (q : ℕ) (t : Shape) → Shows f q t → shows f q t ≡ true
shows_from_parts f q bare h = refl
shows_from_parts f q (node l p r) h =
    let low = shows_from_parts f p l h.3 in
    let high = shows_from_parts f p r h.4 in
    let left = h.0 in
    let right = h.1 in
    let parent = h.2 in
    grind (arith, nat_tests)

-- p hangs somewhere in the tree.
abbrev pub holds : ℕ → Shape → Bool
holds y bare = false
holds y (node l p r) = eqb p y || (holds y l || holds y r)

pub has_order : (y : ℕ) (t : Shape) → has y (order t) ≡ holds y t
has_order y bare = refl
has_order y (node l p r) =
    let low = has_order y l in
    let high = has_order y r in
    let all = has_append y (order l) (p ∷ order r) in
    grind (arith, nat_tests)

pub holds_root : (l : Shape) (p : ℕ) (r : Shape) → holds p (node l p r) ≡ true
holds_root l p r = grind (arith, nat_tests)

pub holds_left : (y : ℕ) (l : Shape) (p : ℕ) (r : Shape) → holds y l ≡ true → holds y (node l p r) ≡ true
holds_left y l p r h = or_right (eqb p y) (holds y l || holds y r) (or_left (holds y l) (holds y r) h)

pub holds_right : (y : ℕ) (l : Shape) (p : ℕ) (r : Shape) → holds y r ≡ true → holds y (node l p r) ≡ true
holds_right y l p r h = or_right (eqb p y) (holds y l || holds y r) (or_right (holds y l) (holds y r) h)

-- Two entries have the same children and parent.
abbrev pub Same : Entry → Entry → Type 0
Same e d = (d.children.left ≡ e.children.left) × (d.children.right ≡ e.children.right) × (d.parent ≡ e.parent)

pub frame_shows : (f h : ℕ → Entry) (q : ℕ) (t : Shape) → ((y : ℕ) → holds y t ≡ true → Same (f y) (h y)) → Shows f q t
    → Shows h q t
frame_shows f h q bare same s = tt
frame_shows f h q (node l p r) same s =
    let here = same p (holds_root l p r) in
    let low : (y : ℕ) → holds y l ≡ true → Same (f y) (h y) = λ y k. same y (holds_left y l p r k) in
    let high : (y : ℕ) → holds y r ≡ true → Same (f y) (h y) = λ y k. same y (holds_right y l p r k) in
    (here.0 ∙ s.0, here.1 ∙ s.1, here.2 ∙ s.2, frame_shows f h p l low s.3, frame_shows f h p r high s.4)

-- ---- no place hangs twice

abbrev pub Once : Shape → Type 0
Once bare = Unit {0}
Once (node l p r) =
    (holds p l ≡ false) × (holds p r ≡ false) × ((y : ℕ) → holds y l ≡ true → holds y r ≡ false) × Once l × Once r

pub once_from_distinct : (t : Shape) → distinct (order t) ≡ true → Once t
once_from_distinct bare h = tt
once_from_distinct (node l p r) h =
    let back = distinct_back (order l) (p ∷ order r) h in
    let high : distinct (order r) ≡ true = grind (arith, nat_tests) in (
      sym (has_order p l) ∙ distinct_at_before p (order l) (order r) h,
      sym (has_order p r) ∙ distinct_at_after p (order l) (order r) h,
      λ y k.
          let away = distinct_apart y (order l) (p ∷ order r) h (has_order y l ∙ k) in
          let same = has_order y r in
          grind (arith, nat_tests),
      once_from_distinct l (distinct_front (order l) (p ∷ order r) h),
      once_from_distinct r high,
    )

-- ---- a spot in a tree

-- The way from the top to a spot: at each place the side that leads on, and the tree on the other side.
pub data Spot : Type 0 where
  top : Spot
  under : Side → Spot → ℕ → Shape → Spot

-- A place with a tree on a side and another one on the other side.
abbrev pub join : Side → Shape → ℕ → Shape → Shape
join Lower u p s = node u p s
join Higher u p s = node s p u

abbrev pub plug : Spot → Shape → Shape
plug top u = u
plug (under side k p s) u = plug k (join side u p s)

-- The place above a spot.
abbrev pub above : Spot → ℕ
above top = 0
above (under side k p s) = p

abbrev pub around : ℕ → Spot → Bool
around y top = false
around y (under side k p s) = eqb p y || (holds y s || around y k)

pub around_above : (side : Side) (k : Spot) (p : ℕ) (s : Shape) → around p (under side k p s) ≡ true
around_above side k p s = or_left (eqb p p) (holds p s || around p k) (eq-eqb p p refl)

pub around_beside : (y : ℕ) (side : Side) (k : Spot) (p : ℕ) (s : Shape) → holds y s ≡ true
    → around y (under side k p s) ≡ true
around_beside y side k p s h = or_right (eqb p y) (holds y s || around y k) (or_left (holds y s) (around y k) h)

pub around_up : (y : ℕ) (side : Side) (k : Spot) (p : ℕ) (s : Shape) → around y k ≡ true
    → around y (under side k p s) ≡ true
around_up y side k p s h = or_right (eqb p y) (holds y s || around y k) (or_right (holds y s) (around y k) h)

-- The links show all that is around a spot, in which h hangs.
abbrev pub Around : (ℕ → Entry) → Spot → ℕ → Type 0
Around f top h = Unit {0}
Around f (under side k p s) h =
    (child side (f p) ≡ h) × (child (opposite side) (f p) ≡ root s) × ((f p).parent ≡ above k) × Shows f p s × Around f k p

pub record Joined (f : ℕ → Entry) (q : ℕ) (side : Side) (u : Shape) (p : ℕ) (s : Shape) : Type 0 where
  pub near : child side (f p) ≡ root u
  pub far : child (opposite side) (f p) ≡ root s
  pub parent : (f p).parent ≡ q
  pub inner : Shows f p u
  pub outer : Shows f p s

pub joined : (f : ℕ → Entry) (q : ℕ) (side : Side) (u : Shape) (p : ℕ) (s : Shape) → Shows f q (join side u p s)
    → Joined f q side u p s
joined f q Lower u p s h = record { near = h.0; far = h.1; parent = h.2; inner = h.3; outer = h.4 }
joined f q Higher u p s h = record { near = h.1; far = h.0; parent = h.2; inner = h.4; outer = h.3 }

pub joins : (f : ℕ → Entry) (q : ℕ) (side : Side) (u : Shape) (p : ℕ) (s : Shape) → Joined f q side u p s
    → Shows f q (join side u p s)
joins f q Lower u p s h = (h.near, h.far, h.parent, h.inner, h.outer)
joins f q Higher u p s h = (h.far, h.near, h.parent, h.outer, h.inner)

pub root_join : (side : Side) (u : Shape) (p : ℕ) (s : Shape) → root (join side u p s) ≡ p
root_join Lower u p s = refl
root_join Higher u p s = refl

pub unplug : (f : ℕ → Entry) (k : Spot) (u : Shape) → Shows f 0 (plug k u)
    → (Around f k (root u)) × (Shows f (above k) u)
unplug f top u h = (tt, h)
unplug f (under side k p s) u h =
    let rest = unplug f k (join side u p s) h in
    let here = joined f (above k) side u p s rest.1 in
    let more = subst (λ (x : ℕ). Around f k x) (root_join side u p s) rest.0 in
    ((here.near, here.far, here.parent, here.outer, more), here.inner)

pub replug : (f : ℕ → Entry) (k : Spot) (u : Shape) → Around f k (root u) → Shows f (above k) u → Shows f 0 (plug k u)
replug f top u a h = h
replug f (under side k p s) u a h =
    replug f k (join side u p s) (subst (λ (x : ℕ). Around f k x) (sym (root_join side u p s)) a.4)
    (joins f (above k) side u p s (record { near = a.0; far = a.1; parent = a.2; inner = h; outer = a.3 }))

-- ---- no place hangs both in a spot and around it

abbrev pub OnceAround : Spot → Type 0
OnceAround top = Unit {0}
OnceAround (under side k p s) =
    (holds p s ≡ false) × (around p k ≡ false) × ((y : ℕ) → holds y s ≡ true → around y k ≡ false) × OnceAround k

abbrev pub Apart : Spot → Shape → Type 0
Apart k u = (y : ℕ) → holds y u ≡ true → around y k ≡ false

pub record Alone (k : Spot) (u : Shape) : Type 0 where
  pub outside : OnceAround k
  pub inside : Once u
  pub apart : Apart k u

pub holds_join : (y : ℕ) (side : Side) (u : Shape) (p : ℕ) (s : Shape)
    → holds y (join side u p s) ≡ (eqb p y || (holds y s || holds y u))
holds_join y Lower u p s = grind (arith, nat_tests)
holds_join y Higher u p s = refl

pub record OnceJoined (u : Shape) (p : ℕ) (s : Shape) : Type 0 where
  pub not_near : holds p u ≡ false
  pub not_far : holds p s ≡ false
  pub apart : (y : ℕ) → holds y u ≡ true → holds y s ≡ false
  pub near : Once u
  pub far : Once s

pub once_joined : (side : Side) (u : Shape) (p : ℕ) (s : Shape) → Once (join side u p s) → OnceJoined u p s
once_joined Lower u p s h = record { not_near = h.0; not_far = h.1; apart = h.2; near = h.3; far = h.4 }
once_joined Higher u p s h =
    record {
      not_near = h.1;
      not_far = h.0;
      apart = λ y k. let other = h.2 y in grind (arith, nat_tests);
      near = h.4;
      far = h.3;
    }

pub alone : (k : Spot) (u : Shape) → Once (plug k u) → Alone k u
alone top u h = record { outside = tt; inside = h; apart = λ y k. refl }
alone (under side k p s) u h =
    let rest = alone k (join side u p s) h in
    let here = once_joined side u p s rest.inside in
    let out : (y : ℕ) → (eqb p y || (holds y s || holds y u)) ≡ true → around y k ≡ false =
    λ y e. rest.apart y (holds_join y side u p s ∙ e) in
    record {
      outside = (
        here.not_far,
        out p (grind (arith, nat_tests)),
        λ y e. out y (grind (arith, nat_tests)),
        rest.outside,
      );
      inside = here.near;
      apart =
          λ y e.
          let k1 = here.apart y e in
          let k2 = out y (grind (arith, nat_tests)) in
          let k3 = here.not_near in
          grind (arith, nat_tests);
    }

pub holds_plug : (y : ℕ) (k : Spot) (u : Shape) → holds y (plug k u) ≡ (holds y u || around y k)
holds_plug y top u = grind (arith, nat_tests)
holds_plug y (under side k p s) u =
    let rest = holds_plug y k (join side u p s) in
    let here = holds_join y side u p s in
    grind (arith, nat_tests)
