-- What the words of a guide's meaning say of a sequence that is cut at a place, and of one with a place put in or
-- taken out. Assumes nothing.
use Rattle.std.proofs.Common.{◌≡◌, ℕ, suc, ◌<◌, ◌≤◌, Bool, true, false, cond, ◌&&◌, ◌||◌, eqb, List, [], ◌∷◌, ◌++◌, length, Ok, Err, refl, ap, ◌∙◌, arith}
use Rattle.std.proofs.lemmas.Bool.{leb-false, not-false, or_parts}
use Rattle.std.proofs.lemmas.Bool.Decides.{nat_tests}
use Rattle.guides.specs.Rules.{cleared, clearing, attaching, detaching}
use Rattle.guides.specs.Meaning.{Meaning, low, high, lawful, all_below, begins_with, distinct, ends_with, has}
use Rattle.guides.specs.Meaning.{neighbours, precedes, with_after, without}

-- ---- a sequence that is cut in two

pub has_append : (p : ℕ) (xs ys : List ℕ) → has p (xs ++ ys) ≡ (has p xs || has p ys)
has_append p [] ys = refl
has_append p (x ∷ xs) ys = let rest = has_append p xs ys in grind (arith, nat_tests)

pub all_below_append : (n : ℕ) (xs ys : List ℕ) → all_below n (xs ++ ys) ≡ (all_below n xs && all_below n ys)
all_below_append n [] ys = refl
all_below_append n (x ∷ xs) ys = let rest = all_below_append n xs ys in grind (arith, nat_tests)

pub neighbours_absent : (p q : ℕ) (xs : List ℕ) → has p xs ≡ false → neighbours p q xs ≡ false
neighbours_absent p q [] h = refl
neighbours_absent p q (x ∷ xs) h = let rest = neighbours_absent p q xs in grind (arith, nat_tests)

pub precedes_absent : (p q : ℕ) (xs : List ℕ) → has p xs ≡ false → precedes p q xs ≡ false
precedes_absent p q [] h = refl
precedes_absent p q (x ∷ xs) h = let rest = precedes_absent p q xs in grind (arith, nat_tests)

pub distinct_front : (xs ys : List ℕ) → distinct (xs ++ ys) ≡ true → distinct xs ≡ true
distinct_front [] ys h = refl
distinct_front (x ∷ xs) ys h =
    let rest = distinct_front xs ys in
    let all = has_append x xs ys in
    grind (arith, nat_tests)

pub distinct_back : (xs ys : List ℕ) → distinct (xs ++ ys) ≡ true → distinct ys ≡ true
distinct_back [] ys h = h
distinct_back (x ∷ xs) ys h = let rest = distinct_back xs ys in grind (arith, nat_tests)

pub distinct_apart : (p : ℕ) (xs ys : List ℕ) → distinct (xs ++ ys) ≡ true → has p xs ≡ true → has p ys ≡ false
distinct_apart p [] ys h k = grind (arith, nat_tests)
distinct_apart p (x ∷ xs) ys h k =
    let rest = distinct_apart p xs ys in
    let all = has_append x xs ys in
    grind (arith, nat_tests)

pub ends_with_append : (z y : ℕ) (xs ys : List ℕ) → ends_with z (xs ++ y ∷ ys) ≡ ends_with z (y ∷ ys)
ends_with_append z y [] ys = refl
ends_with_append z y (x ∷ []) ys = refl
ends_with_append z y (x ∷ (v ∷ xs)) ys = ends_with_append z y (v ∷ xs) ys

-- ---- a sequence that is cut at a place

pub distinct_at_before : (p : ℕ) (front back : List ℕ) → distinct (front ++ p ∷ back) ≡ true → has p front ≡ false
distinct_at_before p [] back h = refl
distinct_at_before p (x ∷ front) back h =
    let rest = distinct_at_before p front back in
    let all = has_append x front (p ∷ back) in
    grind (arith, nat_tests)

pub distinct_at_after : (p : ℕ) (front back : List ℕ) → distinct (front ++ p ∷ back) ≡ true → has p back ≡ false
distinct_at_after p [] back h = grind (arith, nat_tests)
distinct_at_after p (x ∷ front) back h = let rest = distinct_at_after p front back in grind (arith, nat_tests)

pub with_after_at : (p x : ℕ) (front back : List ℕ) → has p front ≡ false
    → with_after p x (front ++ p ∷ back) ≡ front ++ p ∷ x ∷ back
with_after_at p x [] back h = grind (arith, nat_tests)
with_after_at p x (y ∷ front) back h = let rest = with_after_at p x front back in grind (arith, nat_tests)

pub without_at : (p : ℕ) (front back : List ℕ) → has p front ≡ false → without p (front ++ p ∷ back) ≡ front ++ back
without_at p [] back h = grind (arith, nat_tests)
without_at p (y ∷ front) back h = let rest = without_at p front back in grind (arith, nat_tests)

pub neighbours_at : (p q : ℕ) (front back : List ℕ) → has p front ≡ false → has p back ≡ false
    → neighbours p q (front ++ p ∷ back) ≡ begins_with q back
neighbours_at p q [] back h k = let rest = neighbours_absent p q back k in grind (arith, nat_tests)
neighbours_at p q (y ∷ front) back h k = let rest = neighbours_at p q front back in grind (arith, nat_tests)

pub precedes_at : (p q : ℕ) (front back : List ℕ) → has p front ≡ false → precedes p q (front ++ p ∷ back) ≡ has q back
precedes_at p q [] back h = grind (arith, nat_tests)
precedes_at p q (y ∷ front) back h = let rest = precedes_at p q front back in grind (arith, nat_tests)

-- ---- a place put in

pub has_with_after : (p x z : ℕ) (xs : List ℕ) → has z (with_after p x xs) ≡ ((has p xs && eqb x z) || has z xs)
has_with_after p x z [] = refl
has_with_after p x z (y ∷ ys) = let rest = has_with_after p x z ys in grind (arith, nat_tests)

pub begins_with_with_after : (p x z : ℕ) (xs : List ℕ) → begins_with z (with_after p x xs) ≡ begins_with z xs
begins_with_with_after p x z [] = refl
begins_with_with_after p x z (y ∷ ys) = grind (arith, nat_tests)

pub ends_with_with_after : (p q x z : ℕ) (xs : List ℕ) → neighbours p q xs ≡ true
    → ends_with z (with_after p x xs) ≡ ends_with z xs
ends_with_with_after p q x z [] h = refl
ends_with_with_after p q x z (y ∷ []) h = grind (arith, nat_tests)
ends_with_with_after p q x z (y ∷ (v ∷ ys)) h = let rest = ends_with_with_after p q x z (v ∷ ys) in grind (arith, nat_tests)

pub distinct_with_after : (p x : ℕ) (xs : List ℕ) → has x xs ≡ false → distinct xs ≡ true
    → distinct (with_after p x xs) ≡ true
distinct_with_after p x [] h k = refl
distinct_with_after p x (y ∷ ys) h k =
    let rest = distinct_with_after p x ys in
    let others = has_with_after p x y ys in
    grind (arith, nat_tests)

pub all_below_with_after : (n p x : ℕ) (xs : List ℕ) → x < n → all_below n xs ≡ true
    → all_below n (with_after p x xs) ≡ true
all_below_with_after n p x [] h k = refl
all_below_with_after n p x (y ∷ ys) h k = let rest = all_below_with_after n p x ys in grind (arith, nat_tests)

pub length_with_after : (p x : ℕ) (xs : List ℕ) → has p xs ≡ true → length (with_after p x xs) ≡ suc (length xs)
length_with_after p x [] h = grind (arith, nat_tests)
length_with_after p x (y ∷ ys) h = let rest = length_with_after p x ys in grind (arith, nat_tests)

-- ---- a place taken out

pub has_without : (x z : ℕ) (xs : List ℕ) → has z xs ≡ false → has z (without x xs) ≡ false
has_without x z [] h = refl
has_without x z (y ∷ ys) h = let rest = has_without x z ys in grind (arith, nat_tests)

pub begins_with_without : (x z : ℕ) (xs : List ℕ) → eqb x z ≡ false → begins_with z xs ≡ true
    → begins_with z (without x xs) ≡ true
begins_with_without x z [] h k = k
begins_with_without x z (y ∷ ys) h k = grind (arith, nat_tests)

pub ends_with_more : (y z : ℕ) (xs : List ℕ) → ends_with z xs ≡ true → ends_with z (y ∷ xs) ≡ true
ends_with_more y z [] h = grind (arith, nat_tests)
ends_with_more y z (x ∷ xs) h = h

pub ends_with_without : (x z : ℕ) (xs : List ℕ) → eqb x z ≡ false → ends_with z xs ≡ true
    → ends_with z (without x xs) ≡ true
ends_with_without x z [] h k = k
ends_with_without x z (y ∷ []) h k = grind (arith, nat_tests)
ends_with_without x z (y ∷ (v ∷ ys)) h k =
    let rest = ends_with_without x z (v ∷ ys) h k in
    let longer = ends_with_more y z (without x (v ∷ ys)) rest in
    grind (arith, nat_tests)

pub distinct_without : (x : ℕ) (xs : List ℕ) → distinct xs ≡ true → distinct (without x xs) ≡ true
distinct_without x [] h = refl
distinct_without x (y ∷ ys) h =
    let rest = distinct_without x ys in
    let others = has_without x y ys in
    grind (arith, nat_tests)

pub all_below_without : (n x : ℕ) (xs : List ℕ) → all_below n xs ≡ true → all_below n (without x xs) ≡ true
all_below_without n x [] h = refl
all_below_without n x (y ∷ ys) h = let rest = all_below_without n x ys in grind (arith, nat_tests)

pub length_without : (x : ℕ) (xs : List ℕ) → has x xs ≡ true → suc (length (without x xs)) ≡ length xs
length_without x [] h = grind (arith, nat_tests)
length_without x (y ∷ ys) h = let rest = length_without x ys in grind (arith, nat_tests)

-- ---- the rule that every guide keeps

-- What an accepted attach and an accepted detach make of the meaning.
abbrev pub attached : ℕ → ℕ → Meaning → Meaning
attached lower place m = record { sequence = with_after lower place m.sequence; places = m.places }

abbrev pub detached : ℕ → Meaning → Meaning
detached place m = record { sequence = without place m.sequence; places = m.places }

-- The parts of the rule.
pub record Lawful (n : ℕ) (xs : List ℕ) : Type 0 where
  pub first : begins_with low xs ≡ true
  pub last : ends_with high xs ≡ true
  pub once : distinct xs ≡ true
  pub below : all_below n xs ≡ true

pub lawful_parts : (m : Meaning) → lawful m ≡ true → Lawful m.places m.sequence
lawful_parts m h = record { first = grind arith; last = grind arith; once = grind arith; below = grind arith }

pub lawful_from_parts : (m : Meaning) → Lawful m.places m.sequence → lawful m ≡ true
lawful_from_parts m h = grind arith

pub cleared_is_lawful : (n : ℕ) → 2 ≤ n → lawful (cleared n) ≡ true
cleared_is_lawful n h = grind (arith, nat_tests)

pub attached_is_lawful : (p x q : ℕ) (m : Meaning) → lawful m ≡ true → has x m.sequence ≡ false
    → x < m.places → neighbours p q m.sequence ≡ true
    → lawful (attached p x m) ≡ true
attached_is_lawful p x q m h fresh inside beside =
    let law = lawful_parts m h in
    lawful_from_parts (attached p x m) record {
      first = begins_with_with_after p x low m.sequence ∙ law.first;
      last = ends_with_with_after p q x high m.sequence beside ∙ law.last;
      once = distinct_with_after p x m.sequence fresh law.once;
      below = all_below_with_after m.places p x m.sequence inside law.below;
    }

pub detached_is_lawful : (x : ℕ) (m : Meaning) → lawful m ≡ true → high < x
    → lawful (detached x m) ≡ true
detached_is_lawful x m h inner =
    let law = lawful_parts m h in
    lawful_from_parts (detached x m) record {
      first = begins_with_without x low m.sequence (grind (arith, nat_tests)) law.first;
      last = ends_with_without x high m.sequence (grind (arith, nat_tests)) law.last;
      once = distinct_without x m.sequence law.once;
      below = all_below_without m.places x m.sequence law.below;
    }

-- A call that refuses where the test is true was accepted: the test is false, and this is what it gave.
accepted : {T E : Type 0} (b : Bool) (e : E) (x y : T) → cond b (Err e) (Ok x) ≡ Ok y → (b ≡ false) × (y ≡ x)
accepted true e x y h = (cc, cc)
accepted false e x y h = (refl, cc)

pub clearing_is_lawful : (most n : ℕ) (m : Meaning) → clearing most n ≡ Ok m → lawful m ≡ true
clearing_is_lawful most n m e =
    let told = accepted _ _ _ _ e in
    let two : 2 ≤ n = grind (arith, nat_tests) in
    ap lawful told.1 ∙ cleared_is_lawful n two

pub attaching_keeps_lawful : (lower place upper : ℕ) (m n : Meaning) → lawful m ≡ true
    → attaching lower place upper m ≡ Ok n → lawful n ≡ true
attaching_keeps_lawful lower place upper m n h e =
    let told = accepted _ _ _ _ e in
    let fresh = or_parts _ _ told.0 in
    let rest = or_parts _ _ fresh.1 in
    ap lawful told.1
    ∙ attached_is_lawful lower place upper m h fresh.0 (leb-false _ _ rest.0) (not-false _ rest.1)

pub detaching_keeps_lawful : (place : ℕ) (m n : Meaning) → lawful m ≡ true → detaching place m ≡ Ok n → lawful n ≡ true
detaching_keeps_lawful place m n h e =
    let told = accepted _ _ _ _ e in
    ap lawful told.1 ∙ detached_is_lawful place m h (leb-false _ _ (or_parts _ _ told.0).0)
