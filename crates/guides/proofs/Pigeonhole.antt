-- That distinct places among the first n are at most n. Assumes nothing.
use Rattle.std.proofs.Common.{◌≡◌, ℕ, zero, suc, ◌<◌, ◌≤◌, true, false, List, [], ◌∷◌, length, refl, arith}
use Rattle.std.proofs.lemmas.Bool.Decides.{nat_tests}
use Rattle.guides.specs.Meaning.{Meaning, lawful, has, distinct, all_below, without}
use Rattle.guides.proofs.Sequences.{lawful_parts, distinct_without}

-- Below n + 1 and not n is below n.
pub all_below_tighter : (n : ℕ) (xs : List ℕ) → has n xs ≡ false → all_below (suc n) xs ≡ true → all_below n xs ≡ true
all_below_tighter n [] h k = refl
all_below_tighter n (x ∷ xs) h k = let rest = all_below_tighter n xs in grind (arith, nat_tests)

pub all_below_without_most : (n : ℕ) (xs : List ℕ) → distinct xs ≡ true → all_below (suc n) xs ≡ true
    → all_below n (without n xs) ≡ true
all_below_without_most n [] h k = refl
all_below_without_most n (x ∷ xs) h k =
    let rest = all_below_without_most n xs in
    let tighter = all_below_tighter n xs in
    grind (arith, nat_tests)

-- A place that was taken out was there once, or not at all.
pub length_without_at_most : (x : ℕ) (xs : List ℕ) → length xs ≤ suc (length (without x xs))
length_without_at_most x [] = omega arith
length_without_at_most x (y ∷ ys) = let rest = length_without_at_most x ys in grind (arith, nat_tests)

pub distinct_below_length : (n : ℕ) (xs : List ℕ) → distinct xs ≡ true → all_below n xs ≡ true → length xs ≤ n
distinct_below_length zero [] h k = omega arith
distinct_below_length zero (x ∷ xs) h k = grind (arith, nat_tests)
distinct_below_length (suc n) xs h k =
    let fewer = distinct_below_length n (without n xs) (distinct_without n xs h) (all_below_without_most n xs h k) in
    omega (arith, length_without_at_most n xs)

-- There is room for a place that is among the first n and does not stand in the sequence yet.
pub distinct_below_room : (n x : ℕ) (xs : List ℕ) → distinct xs ≡ true → all_below n xs ≡ true → has x xs ≡ false
    → x < n → length xs < n
distinct_below_room n x xs h k fresh inside =
    distinct_below_length n (x ∷ xs) (grind (arith, nat_tests)) (grind (arith, nat_tests))

pub lawful_length : (m : Meaning) → lawful m ≡ true → length m.sequence ≤ m.places
lawful_length m h =
    let law = lawful_parts m h in
    distinct_below_length m.places m.sequence law.once law.below

pub lawful_room : (x : ℕ) (m : Meaning) → lawful m ≡ true → has x m.sequence ≡ false → x < m.places
    → length m.sequence < m.places
lawful_room x m h fresh inside =
    let law = lawful_parts m h in
    distinct_below_room m.places x m.sequence law.once law.below fresh inside
