-- Where a place stands in a sequence of distinct places, and what putting it in or taking it out does there. Assumes
-- nothing.
use Rattle.std.proofs.Common.{◌≡◌, ℕ, zero, suc, ◌+◌, ◌<◌, true, false, ◌&&◌, eqb, ltb, List, [], ◌∷◌, ◌++◌, length, get_or, take, drop, sym, refl, ap, ◌∙◌, append_assoc, add-one, arith}
use Rattle.std.specs.List.{insert, position, position_or_len, remove}
use Rattle.std.specs.Option.{is_some}
use Rattle.std.proofs.lemmas.List.{drop_more, take_more, take-append-drop}
use Rattle.std.proofs.lemmas.Bool.Decides.{nat_tests}
use Rattle.guides.specs.Meaning.{has, begins_with, neighbours, distinct, with_after, without}
use Rattle.guides.proofs.Sequences.{distinct_at_before, distinct_at_after, has_append, neighbours_at, with_after_at, without_at}

-- A search that finds no position of p tells that p is not there.
position_tells : (p : ℕ) (xs : List ℕ) → ltb (position_or_len (λ x. eqb x p) xs) (length xs) ≡ has p xs
position_tells p [] = refl
position_tells p (x ∷ xs) = let rest = position_tells p xs in grind (arith, nat_tests)

pub is_some-position : (p : ℕ) (xs : List ℕ) → is_some (position (λ x. eqb x p) xs) ≡ has p xs
is_some-position p xs = let tells = position_tells p xs in grind (arith, nat_tests)

pub begins_with_drop : (q : ℕ) (xs : List ℕ) (i : ℕ)
    → begins_with q (drop i xs) ≡ (ltb i (length xs) && eqb (get_or xs i 0) q)
begins_with_drop q [] zero = refl
begins_with_drop q [] (suc i) = grind (arith, nat_tests)
begins_with_drop q (x ∷ xs) zero = grind (arith, nat_tests)
begins_with_drop q (x ∷ xs) (suc i) = let rest = begins_with_drop q xs i in grind (arith, nat_tests)

-- The place p stands at i.
module _ (p : ℕ) (xs : List ℕ) (i : ℕ) (within : i < length xs) (stands : get_or xs i 0 ≡ p) where
  pub cut_at : xs ≡ take i xs ++ p ∷ drop (i + 1) xs
  cut_at =
      sym (take-append-drop i xs)
      ∙ ap (λ ys. take i xs ++ ys) (drop_more xs i 0 within)
      ∙ ap (λ y. take i xs ++ y ∷ drop (i + 1) xs) stands

  pub has_at : has p xs ≡ true
  has_at = ap (has p) cut_at ∙ has_append p (take i xs) (p ∷ drop (i + 1) xs) ∙ grind (arith, nat_tests)

  module _ (once : distinct xs ≡ true) where
    pub absent_before : has p (take i xs) ≡ false
    absent_before = distinct_at_before p (take i xs) (drop (i + 1) xs) (ap distinct (sym cut_at) ∙ once)

    pub absent_after : has p (drop (i + 1) xs) ≡ false
    absent_after = distinct_at_after p (take i xs) (drop (i + 1) xs) (ap distinct (sym cut_at) ∙ once)

    pub neighbours_by_position : (q : ℕ) → neighbours p q xs ≡ begins_with q (drop (i + 1) xs)
    neighbours_by_position q =
        ap (neighbours p q) cut_at ∙ neighbours_at p q (take i xs) (drop (i + 1) xs) absent_before absent_after

    pub with_after_by_position : (x : ℕ) → with_after p x xs ≡ insert xs (i + 1) x
    with_after_by_position x =
        ap (with_after p x) cut_at
        ∙ with_after_at p x (take i xs) (drop (i + 1) xs) absent_before
        ∙ sym (append_assoc (take i xs) (p ∷ []) (x ∷ drop (i + 1) xs))
        ∙ ap (λ y. (take i xs ++ y ∷ []) ++ x ∷ drop (i + 1) xs) (sym stands)
        ∙ ap (λ ys. ys ++ x ∷ drop (i + 1) xs) (sym (take_more xs i 0 within))

    pub without_by_position : without p xs ≡ remove xs i
    without_by_position =
        ap (without p) cut_at
        ∙ without_at p (take i xs) (drop (i + 1) xs) absent_before
        ∙ ap (λ k. take i xs ++ drop k xs) (add-one i)
