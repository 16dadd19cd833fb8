-- The sequence of a tree, at a spot of it. Assumes nothing.
use Rattle.std.proofs.Common.{◌≡◌, ℕ, zero, suc, ◌≤◌, Bool, true, false, ◌||◌, eqb, List, [], ◌∷◌, ◌++◌, length, sym, refl, ap, ◌∙◌, inl, inr, append_assoc, append-nil, arith, length-append}
use Rattle.std.proofs.lemmas.Bool.{cases_Bool, cond-false, eqb-true, or_parts, both_ways}
use Rattle.std.proofs.lemmas.Bool.Decides.{nat_tests}
use Rattle.guides.specs.declared.answer.Side.TheVariants.{Lower, Higher}
use Rattle.guides.specs.Meaning.{has, distinct}
use Rattle.tables.specs.declared.entry.Entry.{Entry}
use Rattle.tables.specs.Shapes.{Shape, bare, node, root, order, grown}
use Rattle.tables.proofs.Spots.{Shows, Spot, top, under, join, plug, above, around, holds, has_order, holds_plug, holds_root, root_join}
use Rattle.tables.proofs.Threads.{has_right, has_first, distinct_tail}

-- What stands before a spot, and what stands behind it.
abbrev pub fronts : Spot → List ℕ
fronts top = []
fronts (under Lower k p s) = fronts k
fronts (under Higher k p s) = fronts k ++ (order s ++ p ∷ [])

abbrev pub backs : Spot → List ℕ
backs top = []
backs (under Lower k p s) = p ∷ (order s ++ backs k)
backs (under Higher k p s) = backs k

pub order_plug : (k : Spot) (u : Shape) → order (plug k u) ≡ fronts k ++ (order u ++ backs k)
order_plug top u = sym (append-nil (order u))
order_plug (under Lower k p s) u =
    order_plug k (node u p s) ∙ ap (λ xs. fronts k ++ xs) (append_assoc (order u) (p ∷ order s) (backs k))
order_plug (under Higher k p s) u = order_plug k (node s p u) ∙ simp append_assoc

pub root_plug : (k : Spot) (u w : Shape) → root u ≡ root w → root (plug k u) ≡ root (plug k w)
root_plug top u w h = h
root_plug (under side k p s) u w h =
    root_plug k (join side u p s) (join side w p s) (root_join side u p s ∙ sym (root_join side w p s))

-- ---- where a place hangs

last_of_three : (a b c : Bool) → a ≡ false → b ≡ false → (a || (b || c)) ≡ true → c ≡ true
last_of_three a b c h k e = grind arith

pub record Located (x : ℕ) (t : Shape) : Type 0 where
  pub spot : Spot
  pub low : Shape
  pub high : Shape
  pub is : t ≡ plug spot (node low x high)

pub locate : (k : Spot) (t : Shape) (x : ℕ) → holds x t ≡ true → Located x (plug k t)
locate k bare x h = record { spot = k; low = bare; high = bare; is = absurd (both_ways false refl h) }
locate k (node l p r) x h =
    elim (cases_Bool (eqb p x)) [
      | inl e ↦ record { spot = k; low = l; high = r; is = ap (λ z. plug k (node l z r)) (eqb-true p x e) }
      | inr e ↦
          elim (cases_Bool (holds x l)) [
            | inl d ↦ locate (under Lower k p r) l x d
            | inr d ↦ locate (under Higher k p l) r x (last_of_three (eqb p x) (holds x l) (holds x r) e d h)
          ]
    ]

-- The first place of a tree that hangs in a spot.
pub record First (k : Spot) (u : Shape) : Type 0 where
  pub spot : Spot
  pub place : ℕ
  pub rest : Shape
  pub is : plug k u ≡ plug spot (node bare place rest)
  pub same : fronts spot ≡ fronts k
  pub keeps : (w : Shape) → (v : Shape) × (plug spot w ≡ plug k v)

pub first_of : (k : Spot) (l : Shape) (p : ℕ) (r : Shape) → First k (node l p r)
first_of k bare p r =
    record { spot = k; place = p; rest = r; is = refl; same = refl; keeps = λ w. (w, refl) }
first_of k (node a b c) p r =
    let more = first_of (under Lower k p r) a b c in
    record {
      spot = more.spot;
      place = more.place;
      rest = more.rest;
      is = more.is;
      same = more.same;
      keeps = λ w. let v = more.keeps w in (node v.0 p r, v.1);
    }

-- The last place of a tree has no child on the right.
pub record Last (f : ℕ → Entry) (u : Shape) : Type 0 where
  pub place : ℕ
  pub before : List ℕ
  pub is : order u ≡ before ++ place ∷ []
  pub ends : (f place).children.right ≡ 0

pub last_of : (f : ℕ → Entry) (q : ℕ) (l : Shape) (p : ℕ) (r : Shape) → Shows f q (node l p r) → Last f (node l p r)
last_of f q l p bare s = record { place = p; before = order l; is = refl; ends = s.1 }
last_of f q l p (node a b c) s =
    let more = last_of f p a b c s.4 in
    record {
      place = more.place;
      before = order l ++ p ∷ more.before;
      is =
          ap (λ xs. order l ++ p ∷ xs) more.is
          ∙ sym (append_assoc (order l) (p ∷ more.before) (more.place ∷ []));
      ends = more.ends;
    }

-- ---- the tree that is grown from the links is the one that they show

pub grown_shows : (m : ℕ) (f : ℕ → Entry) (q : ℕ) (t : Shape) → length (order t) ≤ m → holds 0 t ≡ false → Shows f q t
    → grown m f (root t) ≡ t
unfolding grown
grown_shows zero f q bare fits zero_out s = refl
grown_shows zero f q (node l p r) fits zero_out s =
    let long = length-append (order l) (p ∷ order r) in
    absurd (omega arith)
grown_shows (suc m) f q bare fits zero_out s = refl
grown_shows (suc m) f q (node l p r) fits zero_out s =
    let long = length-append (order l) (p ∷ order r) in
    let parts = or_parts (eqb p 0) (holds 0 l || holds 0 r) zero_out in
    let trees = or_parts (holds 0 l) (holds 0 r) parts.1 in
    cond-false _ _ _ parts.0
    ∙ ap (λ t. node t p (grown m f (f p).children.right))
    (ap (grown m f) s.0 ∙ grown_shows m f p l (omega arith) trees.0 s.3)
    ∙ ap (λ t. node l p t) (ap (grown m f) s.1 ∙ grown_shows m f p r (omega arith) trees.1 s.4)

-- ---- what stands in the sequence

pub root_stands : (k : Spot) (u : Shape) → has (root u) (0 ∷ order (plug k u)) ≡ true
root_stands k bare = has_first 0 (order (plug k bare))
root_stands k (node l p r) =
    has_right p (0 ∷ []) (order (plug k (node l p r)))
    (has_order p (plug k (node l p r)) ∙ holds_plug p k (node l p r)
    ∙ ap (λ b. b || around p k) (holds_root l p r))

pub above_stands : (k : Spot) (u : Shape) → has (above k) (0 ∷ order (plug k u)) ≡ true
above_stands top u = has_first 0 (order u)
above_stands (under side k p s) u =
    ap (λ x. has x (0 ∷ order (plug k (join side u p s)))) (sym (root_join side u p s)) ∙ root_stands k (join side u p s)

-- ---- a sequence is cut at a place in one way

twice : (x : ℕ) (xs : List ℕ) → distinct (x ∷ xs) ≡ true → has x xs ≡ true → ⊥
twice x xs once again = let no' : has x xs ≡ false = grind (arith, nat_tests) in both_ways _ no' again

pub cut_once : (z : ℕ) (a b c d : List ℕ) → distinct (a ++ z ∷ b) ≡ true → a ++ z ∷ b ≡ c ++ z ∷ d → (a ≡ c) × (b ≡ d)
cut_once z [] b [] d once e = (refl, cc)
cut_once z [] b (y ∷ c) d once e =
    let tail : b ≡ c ++ z ∷ d = cc in
    let again = ap (has z) tail ∙ has_right z c (z ∷ d) (has_first z d) in
    (absurd (twice z b once again), absurd (twice z b once again))
cut_once z (x ∷ a) b [] d once e =
    let head : x ≡ z = cc in
    let again : has x (a ++ z ∷ b) ≡ true = ap (λ i. has i (a ++ z ∷ b)) head ∙ has_right z a (z ∷ b) (has_first z b) in
    (absurd (twice x (a ++ z ∷ b) once again), absurd (twice x (a ++ z ∷ b) once again))
cut_once z (x ∷ a) b (y ∷ c) d once e =
    let head : x ≡ y = cc in
    let tail : a ++ z ∷ b ≡ c ++ z ∷ d = cc in
    let rest = cut_once z a b c d (distinct_tail x (a ++ z ∷ b) once) tail in
    (ap (λ i. i ∷ a) head ∙ ap (λ xs. y ∷ xs) rest.0, rest.1)
