-- What each change of the tree makes of the tree that the links show. Assumes that no place hangs twice, and that 0 does not.
use Rattle.std.proofs.Common.{◌≡◌, ℕ, true, false, cond, ◌||◌, eqb, List, [], ◌∷◌, sym, refl, ap, ◌∙◌, subst, inl, inr, arith}
use Rattle.std.proofs.lemmas.Bool.{eqb-false, eq-eqb, ne_eqb, or_parts, both_ways, cases_Bool}
use Rattle.std.proofs.lemmas.Bool.Decides.{nat_tests}
use Rattle.guides.specs.declared.answer.Side.{Side}
use Rattle.guides.specs.declared.answer.Side.TheVariants.{Lower, Higher}
use Rattle.tables.specs.declared.entry.Entry.{Entry}
use Rattle.tables.specs.Changes.{lifting, yielding, turning}
use Rattle.guides.specs.Sides.{opposite}
use Rattle.tables.specs.Entries.{child, with_child, with_exchanged, with_parent, with_links}
use Rattle.tables.specs.Entries.{only_child, fresh}
use Rattle.tables.specs.Shapes.{Shape, bare, node, root}
use Rattle.tables.proofs.Spots.{Shows, Spot, top, under, join, plug, above, around, holds, Around, Same, frame_shows, holds_root}
use Rattle.tables.proofs.Spots.{joined, joins, root_join, unplug, replug, Once, OnceAround, Apart, alone, once_joined, holds_join}
use Rattle.tables.proofs.Spots.{OnceJoined, holds_plug, holds_left, holds_right, around_above, around_beside, around_up}
use Rattle.tables.proofs.Writes.{touched, touch_hit, touch_skip, touched_away}

-- ---- what keeps its links

pub same_as : (e d : Entry) → d ≡ e → Same e d
same_as e d h = (ap (λ (x : Entry). x.children.left) h, ap (λ (x : Entry). x.children.right) h, ap (λ (x : Entry). x.parent) h)

child_same : (side : Side) (e d : Entry) → Same e d → child side d ≡ child side e
child_same Lower e d h = h.0
child_same Higher e d h = h.1

frame_around : (f h : ℕ → Entry) (k : Spot) (x : ℕ) → ((y : ℕ) → around y k ≡ true → Same (f y) (h y)) → Around f k x
    → Around h k x
frame_around f h top x same a = tt
frame_around f h (under side k p s) x same a =
    let here = same p (around_above side k p s) in (
      child_same side (f p) (h p) here ∙ a.0,
      child_same (opposite side) (f p) (h p) here ∙ a.1,
      here.2 ∙ a.2,
      frame_shows f h p s (λ y e. same y (around_beside y side k p s e)) a.3,
      frame_around f h k p (λ y e. same y (around_up y side k p s e)) a.4,
    )

-- ---- another tree hangs in a spot

-- The place above the spot has a new child c, and all else around the spot is as it was.
rehung : (f h : ℕ → Entry) (side : Side) (k : Spot) (p : ℕ) (s : Shape) (x c : ℕ) → OnceAround (under side k p s)
    → Around f (under side k p s) x
    → ((y : ℕ) → around y (under side k p s) ≡ true → (y ≡ p → ⊥) → Same (f y) (h y))
    → child side (h p) ≡ c → child (opposite side) (h p) ≡ child (opposite side) (f p) → (h p).parent ≡ (f p).parent
    → Around h (under side k p s) c
rehung f h side k p s x c once a same near far parent = (
  near,
  far ∙ a.1,
  parent ∙ a.2,
  frame_shows f h p s
      (λ y e. same y (around_beside y side k p s e) (λ i. both_ways _ once.0 (ap (λ z. holds z s) (sym i) ∙ e)))
      a.3,
  frame_around f h k p
      (λ y e. same y (around_up y side k p s e) (λ i. both_ways _ once.1 (ap (λ z. around z k) (sym i) ∙ e)))
      a.4,
)

root_differs : (s : Shape) (x : ℕ) → holds x s ≡ false → (x ≡ 0 → ⊥) → root s ≡ x → ⊥
root_differs bare x h nz e = nz (sym e)
root_differs (node l p r) x h nz e = eqb-false p x (or_parts _ _ h).0 e

exchanges : (side : Side) (e : Entry) (x c : ℕ) → child side e ≡ x → (child (opposite side) e ≡ x → ⊥)
    → (child side (with_exchanged x c e) ≡ c)
    × (child (opposite side) (with_exchanged x c e) ≡ child (opposite side) e)
    × ((with_exchanged x c e).parent ≡ e.parent)
exchanges Lower e x c h k =
    let w = ap (λ b. with_child (cond b Lower Higher) c e) (eq-eqb e.children.left x h) in
    (ap (λ (d : Entry). d.children.left) w, ap (λ (d : Entry). d.children.right) w, ap (λ (d : Entry). d.parent) w)
exchanges Higher e x c h k =
    let w = ap (λ b. with_child (cond b Lower Higher) c e) (ne_eqb e.children.left x k) in
    (ap (λ (d : Entry). d.children.right) w, ap (λ (d : Entry). d.children.left) w, ap (λ (d : Entry). d.parent) w)

-- c hangs where x hung.
relinked : (f h : ℕ → Entry) (k : Spot) (x c : ℕ) → OnceAround k → Around f k x → around x k ≡ false → (x ≡ 0 → ⊥)
    → ((y : ℕ) → around y k ≡ true → (y ≡ above k → ⊥) → Same (f y) (h y))
    → (around (above k) k ≡ true → Same (with_exchanged x c (f (above k))) (h (above k)))
    → Around h k c
relinked f h top x c once a away nz same here = tt
relinked f h (under side k p s) x c once a away nz same here =
    let now = here (around_above side k p s) in
    let rest = (or_parts _ _ away).1 in
    let apart = root_differs s x (or_parts _ _ rest).0 nz in
    let new = exchanges side (f p) x c a.0 (λ e. apart (sym a.1 ∙ e)) in
    rehung f h side k p s x c once a same
    (child_same side (with_exchanged x c (f p)) (h p) now ∙ new.0)
    (child_same (opposite side) (with_exchanged x c (f p)) (h p) now ∙ new.1) (now.2 ∙ new.2)

-- The tree u hangs from another parent q.
adopted : (f h : ℕ → Entry) (x q : ℕ) (u : Shape) → Once u → Shows f x u
    → ((y : ℕ) → holds y u ≡ true → (y ≡ root u → ⊥) → Same (f y) (h y))
    → (holds (root u) u ≡ true → Same (with_parent q (f (root u))) (h (root u)))
    → Shows h q u
adopted f h x q bare once s same here = tt
adopted f h x q (node l p r) once s same here =
    let now = here (holds_root l p r) in (
      now.0 ∙ s.0,
      now.1 ∙ s.1,
      now.2,
      frame_shows f h p l
          (λ y e. same y (holds_left y l p r e) (λ i. both_ways _ once.0 (ap (λ z. holds z l) (sym i) ∙ e)))
          s.3,
      frame_shows f h p r
          (λ y e. same y (holds_right y l p r e) (λ i. both_ways _ once.1 (ap (λ z. holds z r) (sym i) ∙ e)))
          s.4,
    )

-- ---- a spot and what hangs in it have no place in common

above_outside : (k : Spot) (u : Shape) → Apart k u → holds 0 u ≡ false → (y : ℕ) → holds y u ≡ true → y ≡ above k → ⊥
above_outside top u apart zero y e i = both_ways _ zero (ap (λ z. holds z u) (sym i) ∙ e)
above_outside (under side k p s) u apart zero y e i = eqb-false p y (or_parts _ _ (apart y e)).0 (sym i)

root_outside : (k : Spot) (u : Shape) → Apart k u → around 0 k ≡ false → (y : ℕ) → around y k ≡ true → y ≡ root u → ⊥
root_outside k bare apart zero y e i = both_ways _ zero (ap (λ z. around z k) (sym i) ∙ e)
root_outside k (node l p r) apart zero y e i =
    both_ways _ (apart p (holds_root l p r)) (ap (λ z. around z k) (sym i) ∙ e)

-- A place that hangs nowhere is not the place above, and none of the tops.
elsewhere : (k : Spot) (x : ℕ) → around x k ≡ false → (x ≡ 0 → ⊥) → x ≡ above k → ⊥
elsewhere top x away nz i = nz i
elsewhere (under side k p s) x away nz i = eqb-false p x (or_parts _ _ away).0 (sym i)

-- ---- what is known of a spot with a place in it

pub record Filled (k : Spot) (u : Shape) (p : ℕ) (s : Shape) : Type 0 where
  pub around_once : OnceAround k
  pub inside_once : OnceJoined u p s
  pub place_apart : around p k ≡ false
  pub near_apart : Apart k u
  pub far_apart : Apart k s
  pub nought_around : around 0 k ≡ false
  pub nought_near : holds 0 u ≡ false
  pub nought_far : holds 0 s ≡ false
  pub place_nonzero : p ≡ 0 → ⊥

pub holds_near : (y : ℕ) (side : Side) (u : Shape) (p : ℕ) (s : Shape) → holds y u ≡ true → holds y (join side u p s) ≡ true
holds_near y Lower u p s h = holds_left y u p s h
holds_near y Higher u p s h = holds_right y s p u h

pub holds_far : (y : ℕ) (side : Side) (u : Shape) (p : ℕ) (s : Shape) → holds y s ≡ true → holds y (join side u p s) ≡ true
holds_far y Lower u p s h = holds_right y u p s h
holds_far y Higher u p s h = holds_left y s p u h

pub holds_top : (side : Side) (u : Shape) (p : ℕ) (s : Shape) → holds p (join side u p s) ≡ true
holds_top Lower u p s = holds_root u p s
holds_top Higher u p s = holds_root s p u

pub filled : (k : Spot) (side : Side) (u : Shape) (p : ℕ) (s : Shape) → Once (plug k (join side u p s))
    → holds 0 (plug k (join side u p s)) ≡ false → Filled k u p s
filled k side u p s once zero =
    let al = alone k (join side u p s) once in
    let both = or_parts (holds 0 (join side u p s)) (around 0 k) (sym (holds_plug 0 k (join side u p s)) ∙ zero) in
    let parts = or_parts (eqb p 0) (holds 0 s || holds 0 u) (sym (holds_join 0 side u p s) ∙ both.0) in
    let trees = or_parts (holds 0 s) (holds 0 u) parts.1 in
    record {
      around_once = al.outside;
      inside_once = once_joined side u p s al.inside;
      place_apart = al.apart p (holds_top side u p s);
      near_apart = λ y e. al.apart y (holds_near y side u p s e);
      far_apart = λ y e. al.apart y (holds_far y side u p s e);
      nought_around = both.1;
      nought_near = trees.1;
      nought_far = trees.0;
      place_nonzero = eqb-false p 0 parts.0;
    }

-- ---- a place is lifted out

pub only_child_is : (side : Side) (e : Entry) (c : ℕ) → child side e ≡ c → child (opposite side) e ≡ 0 → only_child e ≡ c
only_child_is Lower e c h k = grind (arith, nat_tests)
only_child_is Higher e c h k = grind (arith, nat_tests)

pub lift_shows : (f h : ℕ → Entry) (k : Spot) (side : Side) (u : Shape) (x : ℕ)
    → Shows f 0 (plug k (join side u x bare)) → Once (plug k (join side u x bare))
    → holds 0 (plug k (join side u x bare)) ≡ false
    → ((y : ℕ) → h y ≡ touched (lifting x (f x)) y (f y))
    → Shows h 0 (plug k u)
lift_shows f h k side u x shown once zero reads =
    let whole = unplug f k (join side u x bare) shown in
    let hole = joined f (above k) side u x bare whole.1 in
    let at = filled k side u x bare once zero in
    let q = above k in
    let c = root u in
    let rest : List (ℕ × (Entry → Entry)) = (c, with_parent q) ∷ [] in
    let is : (y : ℕ) → h y ≡ touched ((q, with_exchanged x c) ∷ rest) y (f y) =
    λ y.
    reads y
    ∙ ap (λ d. touched ((d, with_exchanged x (only_child (f x))) ∷ (only_child (f x), with_parent d) ∷ []) y (f y)) hole.parent
    ∙ ap (λ d. touched ((q, with_exchanged x d) ∷ (d, with_parent q) ∷ []) y (f y))
    (only_child_is side (f x) c hole.near hole.far) in
    replug h k u
    (relinked f h k x c at.around_once (subst (λ (z : ℕ). Around f k z) (root_join side u x bare) whole.0)
    at.place_apart at.place_nonzero
    (λ y e away.
    same_as (f y) (h y)
    (is y
    ∙ touched_away ((q, with_exchanged x c) ∷ rest) y (f y)
    (away, (root_outside k u at.near_apart at.nought_around y e, tt))))
    (λ e.
    same_as (with_exchanged x c (f q)) (h q)
    (is q
    ∙ touch_hit (q, with_exchanged x c) rest q (f q) refl
    ∙ touched_away rest q (with_exchanged x c (f q)) (root_outside k u at.near_apart at.nought_around q e, tt))))
    (adopted f h x q u at.inside_once.near hole.inner
    (λ y e away.
    same_as (f y) (h y)
    (is y
    ∙ touched_away ((q, with_exchanged x c) ∷ rest) y (f y)
    (above_outside k u at.near_apart at.nought_near y e, (away, tt))))
    (λ e.
    same_as (with_parent q (f c)) (h c)
    (is c
    ∙ touch_skip (q, with_exchanged x c) rest c (f c) (above_outside k u at.near_apart at.nought_near c e)
    ∙ touch_hit (c, with_parent q) [] c (f c) refl)))

-- ---- a place is hung

flip : (t s : Shape) (y : ℕ) → (holds y t ≡ true → holds y s ≡ false) → holds y s ≡ true → holds y t ≡ false
flip t s y apart h =
    elim (cases_Bool (holds y t)) [ inl e ↦ absurd (both_ways _ (apart e) h) | inr e ↦ e ]

within_false : (t u : Shape) (y : ℕ) → ((z : ℕ) → holds z u ≡ true → holds z t ≡ true) → holds y t ≡ false
    → holds y u ≡ false
within_false t u y part away =
    elim (cases_Bool (holds y u)) [ inl e ↦ absurd (both_ways _ away (part y e)) | inr e ↦ e ]

differ : (t : Shape) (y z : ℕ) → holds y t ≡ true → holds z t ≡ false → y ≡ z → ⊥
differ t y z here away i = both_ways _ away (ap (λ w. holds w t) (sym i) ∙ here)

differ_around : (k : Spot) (y z : ℕ) → around y k ≡ true → around z k ≡ false → y ≡ z → ⊥
differ_around k y z here away i = both_ways _ away (ap (λ w. around w k) (sym i) ∙ here)

child_new : (side : Side) (c : ℕ) (e : Entry) → child side (with_child side c e) ≡ c
child_new Lower c e = refl
child_new Higher c e = refl

child_other : (side : Side) (c : ℕ) (e : Entry) → child (opposite side) (with_child side c e) ≡ child (opposite side) e
child_other Lower c e = refl
child_other Higher c e = refl

parent_other : (side : Side) (c : ℕ) (e : Entry) → (with_child side c e).parent ≡ e.parent
parent_other Lower c e = refl
parent_other Higher c e = refl

pub hang_shows : (f h : ℕ → Entry) (side : Side) (j : Spot) (q : ℕ) (s : Shape) (x lower upper : ℕ)
    → Shows f 0 (plug (under side j q s) bare) → Once (plug (under side j q s) bare)
    → holds x (plug (under side j q s) bare) ≡ false
    → ((y : ℕ) → h y ≡ touched ((q, with_child side x) ∷ (x, λ _. fresh q lower upper) ∷ []) y (f y))
    → Shows h 0 (plug (under side j q s) (node bare x bare))
hang_shows f h side j q s x lower upper shown once absent is =
    let k = under side j q s in
    let whole = unplug f k bare shown in
    let out : around x k ≡ false = sym (holds_plug x k bare) ∙ absent in
    let apart : q ≡ x → ⊥ = differ_around k q x (around_above side j q s) out in
    let rest : List (ℕ × (Entry → Entry)) = (x, λ _. fresh q lower upper) ∷ [] in
    let new : h q ≡ with_child side x (f q) =
    is q ∙ touch_hit (q, with_child side x) rest q (f q) refl ∙ touched_away rest q (with_child side x (f q)) (apart, tt) in
    let own : h x ≡ fresh q lower upper =
    is x ∙ touch_skip (q, with_child side x) rest x (f x) (λ i. apart (sym i))
    ∙ touch_hit (x, λ _. fresh q lower upper) [] x (f x) refl in
    replug h k (node bare x bare)
    (rehung f h side j q s 0 x (alone k bare once).outside whole.0
    (λ y e away.
    same_as (f y) (h y)
    (is y ∙ touched_away ((q, with_child side x) ∷ rest) y (f y) (away, (differ_around k y x e out, tt))))
    (ap (child side) new ∙ child_new side x (f q))
    (ap (child (opposite side)) new ∙ child_other side x (f q))
    (ap (λ (e : Entry). e.parent) new ∙ parent_other side x (f q))) (
      ap (λ (e : Entry). e.children.left) own,
      ap (λ (e : Entry). e.children.right) own,
      ap (λ (e : Entry). e.parent) own,
      tt,
      tt,
    )

-- ---- a place yields its spot

pub yield_shows : (f h : ℕ → Entry) (k : Spot) (l : Shape) (p : ℕ) (r : Shape) (s : ℕ)
    → Shows f 0 (plug k (node l p r)) → Once (plug k (node l p r)) → holds 0 (plug k (node l p r)) ≡ false
    → holds s (plug k (node l p r)) ≡ false → (s ≡ 0 → ⊥)
    → ((y : ℕ) → h y ≡ touched (yielding p s (f p)) y (f y))
    → Shows h 0 (plug k (node l s r))
yield_shows f h k l p r s shown once zero absent nonzero reads =
    let whole = unplug f k (node l p r) shown in
    let hole = whole.1 in
    let at = filled k Lower l p r once zero in
    let q = above k in
    let out = or_parts (holds s (node l p r)) (around s k) (sym (holds_plug s k (node l p r)) ∙ absent) in
    let trees = or_parts (holds s l) (holds s r) (or_parts (eqb p s) (holds s l || holds s r) out.0).1 in
    let swaps : ℕ × (Entry → Entry) = (q, with_exchanged p s) in
    let lows : ℕ × (Entry → Entry) = (root l, with_parent s) in
    let highs : ℕ × (Entry → Entry) = (root r, with_parent s) in
    let takes : ℕ × (Entry → Entry) = (s, with_links (f p)) in
    let is : (y : ℕ) → h y ≡ touched (swaps ∷ lows ∷ highs ∷ takes ∷ []) y (f y) =
    λ y.
    reads y
    ∙ ap (λ d. touched ((d, with_exchanged p s) ∷ ((f p).children.left, with_parent s) ∷ ((f p).children.right, with_parent s) ∷ takes ∷ []) y (f y)) hole.2
    ∙ ap (λ d. touched (swaps ∷ (d, with_parent s) ∷ ((f p).children.right, with_parent s) ∷ takes ∷ []) y (f y)) hole.0
    ∙ ap (λ d. touched (swaps ∷ lows ∷ (d, with_parent s) ∷ takes ∷ []) y (f y)) hole.1 in
    let not_low = root_outside k l at.near_apart at.nought_around in
    let not_high = root_outside k r at.far_apart at.nought_around in
    let own : h s ≡ with_links (f p) (f s) =
    is s
    ∙ touch_skip swaps (lows ∷ highs ∷ takes ∷ []) s (f s) (elsewhere k s out.1 nonzero)
    ∙ touch_skip lows (highs ∷ takes ∷ []) s (f s) (λ i. root_differs l s trees.0 nonzero (sym i))
    ∙ touch_skip highs (takes ∷ []) s (f s) (λ i. root_differs r s trees.1 nonzero (sym i))
    ∙ touch_hit takes [] s (f s) refl in
    let low_high : (y : ℕ) → holds y l ≡ true → y ≡ root r → ⊥ =
    λ y e i. root_differs r y (at.inside_once.apart y e) (differ l y 0 e at.nought_near) (sym i) in
    let high_low : (y : ℕ) → holds y r ≡ true → y ≡ root l → ⊥ =
    λ y e i. root_differs l y (flip l r y (at.inside_once.apart y) e) (differ r y 0 e at.nought_far) (sym i) in
    replug h k (node l s r)
    (relinked f h k p s at.around_once whole.0 at.place_apart at.place_nonzero
    (λ y e away.
    same_as (f y) (h y)
    (is y
    ∙ touched_away (swaps ∷ lows ∷ highs ∷ takes ∷ []) y (f y)
    (away, (not_low y e, (not_high y e, (differ_around k y s e out.1, tt))))))
    (λ e.
    same_as (with_exchanged p s (f q)) (h q)
    (is q
    ∙ touch_hit swaps (lows ∷ highs ∷ takes ∷ []) q (f q) refl
    ∙ touched_away (lows ∷ highs ∷ takes ∷ []) q (with_exchanged p s (f q))
    (not_low q e, (not_high q e, (differ_around k q s e out.1, tt)))))) (
      ap (λ (e : Entry). e.children.left) own ∙ hole.0,
      ap (λ (e : Entry). e.children.right) own ∙ hole.1,
      ap (λ (e : Entry). e.parent) own ∙ hole.2,
      adopted f h p s l at.inside_once.near hole.3
          (λ y e away.
          same_as (f y) (h y)
          (is y
          ∙ touched_away (swaps ∷ lows ∷ highs ∷ takes ∷ []) y (f y)
          (above_outside k l at.near_apart at.nought_near y e, (away, (low_high y e, (differ l y s e trees.0, tt))))))
          (λ e.
          same_as (with_parent s (f (root l))) (h (root l))
          (is (root l)
          ∙ touch_skip swaps (lows ∷ highs ∷ takes ∷ []) (root l) (f (root l))
          (above_outside k l at.near_apart at.nought_near (root l) e)
          ∙ touch_hit lows (highs ∷ takes ∷ []) (root l) (f (root l)) refl
          ∙ touched_away (highs ∷ takes ∷ []) (root l) (with_parent s (f (root l)))
          (low_high (root l) e, (differ l (root l) s e trees.0, tt)))),
      adopted f h p s r at.inside_once.far hole.4
          (λ y e away.
          same_as (f y) (h y)
          (is y
          ∙ touched_away (swaps ∷ lows ∷ highs ∷ takes ∷ []) y (f y)
          (above_outside k r at.far_apart at.nought_far y e, (high_low y e, (away, (differ r y s e trees.1, tt))))))
          (λ e.
          same_as (with_parent s (f (root r))) (h (root r))
          (is (root r)
          ∙ touch_skip swaps (lows ∷ highs ∷ takes ∷ []) (root r) (f (root r))
          (above_outside k r at.far_apart at.nought_far (root r) e)
          ∙ touch_skip lows (highs ∷ takes ∷ []) (root r) (f (root r)) (high_low (root r) e)
          ∙ touch_hit highs (takes ∷ []) (root r) (f (root r)) refl
          ∙ touched_away (takes ∷ []) (root r) (with_parent s (f (root r))) (differ r (root r) s e trees.1, tt))),
    )

-- ---- a place is turned

pub turn_shows : (f h : ℕ → Entry) (k : Spot) (side : Side) (u : Shape) (c : ℕ) (v : Shape) (n : ℕ) (a : Shape)
    → Shows f 0 (plug k (join side (join (opposite side) u c v) n a))
    → Once (plug k (join side (join (opposite side) u c v) n a))
    → holds 0 (plug k (join side (join (opposite side) u c v) n a)) ≡ false
    → ((y : ℕ) → h y ≡ touched (turning side n (f n) (child (opposite side) (f (child side (f n))))) y (f y))
    → Shows h 0 (plug k (join (opposite side) (join side u n a) c v))
turn_shows f h k side u c v n a shown once zero reads =
    let far = opposite side in
    let m = join far u c v in
    let q = above k in
    let whole = unplug f k (join side m n a) shown in
    let hole = joined f q side m n a whole.1 in
    let below = joined f n far u c v hole.inner in
    let at = filled k side m n a once zero in
    let in' = once_joined far u c v at.inside_once.near in
    let top_c : holds c m ≡ true = holds_top far u c v in
    let in_u : (y : ℕ) → holds y u ≡ true → holds y m ≡ true = λ y e. holds_near y far u c v e in
    let in_v : (y : ℕ) → holds y v ≡ true → holds y m ≡ true = λ y e. holds_far y far u c v e in
    let is_c : child side (f n) ≡ c = hole.near ∙ root_join far u c v in
    let iu = root u in
    let first : ℕ × (Entry → Entry) = (n, λ d. with_parent c (with_child side iu d)) in
    let second : ℕ × (Entry → Entry) = (iu, with_parent n) in
    let third : ℕ × (Entry → Entry) = (q, with_exchanged n c) in
    let fourth : ℕ × (Entry → Entry) = (c, λ d. with_parent q (with_child far n d)) in
    let Writes : ℕ → ℕ → ℕ → List (ℕ × (Entry → Entry)) =
    λ ch i o.
    (n, λ d. with_parent ch (with_child side i d))
    ∷ (i, with_parent n)
    ∷ (o, with_exchanged n ch)
    ∷ (ch, λ d. with_parent o (with_child far n d))
    ∷ [] in
    let is : (y : ℕ) → h y ≡ touched (first ∷ second ∷ third ∷ fourth ∷ []) y (f y) =
    λ y.
    reads y
    ∙ ap (λ d. touched (Writes d (child far (f d)) (f n).parent) y (f y)) is_c
    ∙ ap (λ d. touched (Writes c d (f n).parent) y (f y)) below.near
    ∙ ap (λ d. touched (Writes c iu d) y (f y)) hole.parent in
    let not_c : (y : ℕ) → around y k ≡ true → y ≡ c → ⊥ = λ y e. differ_around k y c e (at.near_apart c top_c) in
    let not_n : (y : ℕ) → around y k ≡ true → y ≡ n → ⊥ = λ y e. differ_around k y n e at.place_apart in
    let nought_u : holds 0 u ≡ false = within_false m u 0 in_u at.nought_near in
    let nought_m = at.nought_near in
    let apart_u : Apart k u = λ y e. at.near_apart y (in_u y e) in
    let apart_v : Apart k v = λ y e. at.near_apart y (in_v y e) in
    let not_iu = root_outside k u apart_u at.nought_around in
    let n_m = at.inside_once.not_near in
    let n_u : holds n u ≡ false = within_false m u n in_u n_m in
    let own_n : h n ≡ with_parent c (with_child side iu (f n)) =
    is n
    ∙ touch_hit first (second ∷ third ∷ fourth ∷ []) n (f n) refl
    ∙ touched_away (second ∷ third ∷ fourth ∷ []) n (with_parent c (with_child side iu (f n))) (
      (λ i. root_differs u n n_u at.place_nonzero (sym i)),
      (elsewhere k n at.place_apart at.place_nonzero, ((λ i. differ m c n top_c n_m (sym i)), tt)),
    ) in
    let c_nonzero : c ≡ 0 → ⊥ = differ m c 0 top_c nought_m in
    let c_iu : c ≡ iu → ⊥ = λ i. root_differs u c in'.not_near c_nonzero (sym i) in
    let c_q : c ≡ q → ⊥ = elsewhere k c (at.near_apart c top_c) c_nonzero in
    let own_c : h c ≡ with_parent q (with_child far n (f c)) =
    is c
    ∙ touch_skip first (second ∷ third ∷ fourth ∷ []) c (f c) (differ m c n top_c n_m)
    ∙ touch_skip second (third ∷ fourth ∷ []) c (f c) c_iu
    ∙ touch_skip third (fourth ∷ []) c (f c) c_q
    ∙ touch_hit fourth [] c (f c) refl in
    replug h k (join far (join side u n a) c v)
    (subst (λ (z : ℕ). Around h k z) (sym (root_join far (join side u n a) c v))
    (relinked f h k n c at.around_once (subst (λ (z : ℕ). Around f k z) (root_join side m n a) whole.0)
    at.place_apart at.place_nonzero
    (λ y e away.
    same_as (f y) (h y)
    (is y
    ∙ touched_away (first ∷ second ∷ third ∷ fourth ∷ []) y (f y)
    (not_n y e, (not_iu y e, (away, (not_c y e, tt))))))
    (λ e.
    same_as (with_exchanged n c (f q)) (h q)
    (is q
    ∙ touch_skip first (second ∷ third ∷ fourth ∷ []) q (f q) (not_n q e)
    ∙ touch_skip second (third ∷ fourth ∷ []) q (f q) (not_iu q e)
    ∙ touch_hit third (fourth ∷ []) q (f q) refl
    ∙ touched_away (fourth ∷ []) q (with_exchanged n c (f q)) (not_c q e, tt)))))
    (joins h q far (join side u n a) c v record {
      near = ap (child far) own_c ∙ child_new far n (f c) ∙ sym (root_join side u n a);
      far = ap (child (opposite far)) own_c ∙ child_other far n (f c) ∙ below.far;
      parent = ap (λ (e : Entry). e.parent) own_c;
      inner = joins h c side u n a record {
        near = ap (child side) own_n ∙ child_new side iu (f n);
        far = ap (child far) own_n ∙ child_other side iu (f n) ∙ hole.far;
        parent = ap (λ (e : Entry). e.parent) own_n;
        inner = adopted f h c n u in'.near below.inner
            (λ y e away.
            same_as (f y) (h y)
            (is y
            ∙ touched_away (first ∷ second ∷ third ∷ fourth ∷ []) y (f y)
            (differ u y n e n_u, (away, (above_outside k u apart_u nought_u y e, (differ u y c e in'.not_near, tt))))))
            (λ e.
            same_as (with_parent n (f iu)) (h iu)
            (is iu
            ∙ touch_skip first (second ∷ third ∷ fourth ∷ []) iu (f iu) (differ u iu n e n_u)
            ∙ touch_hit second (third ∷ fourth ∷ []) iu (f iu) refl
            ∙ touched_away (third ∷ fourth ∷ []) iu (with_parent n (f iu))
            (above_outside k u apart_u nought_u iu e, (differ u iu c e in'.not_near, tt))));
        outer = frame_shows f h n a
            (λ y e.
            same_as (f y) (h y)
            (is y
            ∙ touched_away (first ∷ second ∷ third ∷ fourth ∷ []) y (f y) (
              differ a y n e at.inside_once.not_far,
              (
                (λ i.
                    root_differs u y (within_false m u y in_u (flip m a y (at.inside_once.apart y) e))
                    (differ a y 0 e at.nought_far) (sym i)),
                (
                  above_outside k a at.far_apart at.nought_far y e,
                  ((λ i. differ a y c e (at.inside_once.apart c top_c) i), tt),
                ),
              ),
            )))
            hole.outer;
      };
      outer = frame_shows f h c v
          (λ y e.
          same_as (f y) (h y)
          (is y
          ∙ touched_away (first ∷ second ∷ third ∷ fourth ∷ []) y (f y) (
            differ m y n (in_v y e) n_m,
            (
              (λ i. root_differs u y (flip u v y (in'.apart y) e) (differ m y 0 (in_v y e) nought_m) (sym i)),
              (
                above_outside k v apart_v (within_false m v 0 in_v nought_m) y e,
                (differ v y c e in'.not_far, tt),
              ),
            ),
          )))
          below.outer;
    })
