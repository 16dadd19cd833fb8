-- That the four counts of the places add up, and that as many places are chained as the chain has. Assumes the laws of the
-- order, and what holds between calls.
use Rattle.std.proofs.Common.{◌≡◌, ℕ, zero, suc, ◌+◌, ◌-◌, ◌<◌, ◌≤◌, Bool, true, false, cond, not, ◌||◌, eqb, ◌⊎◌, List, [], ◌∷◌, length, Some, Ordering, sym, refl, ap, ◌∙◌, inl, inr, arith}
use Rattle.std.proofs.lemmas.Bool.{true≢false, cases_eq, eq-eqb, ne_eqb, eqb-true, and_parts, or_left, or_right, not-true}
use Rattle.std.specs.List.{slice_get}
use Rattle.guides.specs.Meaning.{has, distinct}
use Rattle.records.specs.declared.record.Place.{Place}
use Rattle.records.specs.declared.record.Status.{Status}
use Rattle.records.specs.declared.record.Status.TheVariants.{Free, InHand, Chained, Retired}
use Rattle.rules.specs.Putting.{is_free}
use Rattle.engine.specs.Contents.{field_of, chain}
use Rattle.engine.specs.Counting.{is_in_hand, is_chained, is_retired, count_of, inner}
use Rattle.promises.specs.Books.{Book}
use Rattle.promises.specs.Statuses.{CountsAreTrue}
use Rattle.promises.proofs.Laws.{Laws}
use Rattle.promises.proofs.Sights.{sight_of}
use Rattle.promises.proofs.Invariant.{Inv, chained}
use Rattle.promises.proofs.Chains.{chain_has, chain_inner, chain_distinct}

-- ---- every place counts once

one_each : (x : Status) → cond (is_free x) 1 0 + cond (is_in_hand x) 1 0 + cond (is_chained x) 1 0 + cond (is_retired x) 1 0 ≡ 1
one_each Free = refl
one_each InHand = refl
one_each Chained = refl
one_each (Retired w) = refl

module _ {K : Type 0} where
  counts_sum : (ps : List (Place K)) → count_of is_free ps + count_of is_in_hand ps + count_of is_chained ps + count_of is_retired ps ≡ length ps
  counts_sum [] = refl
  counts_sum (p ∷ ps) = let one = one_each p.status in let rest = counts_sum ps in omega arith

  length_inner : (ps : List (Place K)) → length (inner ps) ≡ length ps - 2
  length_inner [] = refl
  length_inner (p ∷ []) = refl
  length_inner (p ∷ (q ∷ ps)) = omega arith

-- ---- how many of the m numbers from k on pass a test

tally : (ℕ → Bool) → ℕ → ℕ → ℕ
tally f k zero = 0
tally f k (suc m) = cond (f k) 1 0 + tally f (suc k) m

tally_same : (f g : ℕ → Bool) (k m : ℕ) → ((i : ℕ) → k ≤ i → i < k + m → f i ≡ g i) → tally f k m ≡ tally g k m
unfolding tally
tally_same f g k zero same = refl
tally_same f g k (suc m) same =
    ap (λ b. cond b 1 0 + tally f (suc k) m) (same k (omega arith) (omega arith))
    ∙ ap (λ n. cond (g k) 1 0 + n) (tally_same f g (suc k) m (λ i low high. same i (omega arith) (omega arith)))

tally_or : (f g : ℕ → Bool) → ((i : ℕ) → f i ≡ true → g i ≡ true → ⊥) → (k m : ℕ) → tally (λ i. f i || g i) k m ≡ tally f k m + tally g k m
unfolding tally
tally_or f g apart k zero = refl
tally_or f g apart k (suc m) = go (f k) (g k) refl refl _ _ _ (tally_or f g apart (suc k) m)
  where
    go : (x y : Bool) → f k ≡ x → g k ≡ y → (a b c : ℕ) → a ≡ b + c → cond (x || y) 1 0 + a ≡ (cond x 1 0 + b) + (cond y 1 0 + c)
    go true true ex ey a b c rest = absurd (apart k ex ey)
    go true false ex ey a b c rest = omega arith
    go false true ex ey a b c rest = omega arith
    go false false ex ey a b c rest = omega arith

none_more : (b : Bool) (n m : ℕ) → b ≡ false → n ≡ m → cond b 1 0 + n ≡ m
none_more b n m e h = ap (λ x. cond x 1 0 + n) e ∙ (let z : 0 + n ≡ m = omega arith in z)

tally_past : (x k m : ℕ) → x < k → tally (λ i. eqb x i) k m ≡ 0
unfolding tally
tally_past x k zero h = refl
tally_past x k (suc m) h = none_more (eqb x k) _ 0 (ne_eqb x k (λ e. omega arith)) (tally_past x (suc k) m (omega arith))

tally_one : (x k m : ℕ) → k ≤ x → x < k + m → tally (λ i. eqb x i) k m ≡ 1
unfolding tally
tally_one x k zero low high = absurd (omega arith)
tally_one x k (suc m) low high = go (cases_eq x k) (λ above. tally_one x (suc k) m above (omega arith))
  where
    go : (x ≡ k) ⊎ (x ≡ k → ⊥) → (suc k ≤ x → tally (λ i. eqb x i) (suc k) m ≡ 1) → cond (eqb x k) 1 0 + tally (λ i. eqb x i) (suc k) m ≡ 1
    go (inl same) more = ap (λ b. cond b 1 0 + tally (λ i. eqb x i) (suc k) m) (eq-eqb x k same) ∙ ap (λ n. 1 + n) (tally_past x (suc k) m (omega arith))
    go (inr other) more = none_more (eqb x k) _ 1 (ne_eqb x k other) (more (omega arith))

tally_none : (k m : ℕ) → tally (λ i. false) k m ≡ 0
unfolding tally
tally_none k zero = refl
tally_none k (suc m) = none_more false _ 0 refl (tally_none (suc k) m)

-- Distinct numbers among those are as many as the numbers that are among them.
tally_list : (xs : List ℕ) (k m : ℕ) → distinct xs ≡ true → ((p : ℕ) → has p xs ≡ true → (k ≤ p) × (p < k + m)) → tally (λ i. has i xs) k m ≡ length xs
tally_list [] k m once within = tally_none k m
tally_list (x ∷ xs) k m once within =
    let both = and_parts (not (has x xs)) (distinct xs) once in
    let new = not-true (has x xs) both.0 in
    let here = within x (or_left (eqb x x) (has x xs) (eq-eqb x x refl)) in
    let split = tally_or (λ i. eqb x i) (λ i. has i xs) (λ i e h. true≢false (sym h ∙ ap (λ j. has j xs) (sym (eqb-true x i e)) ∙ new)) k m in
    let one = tally_one x k m here.0 here.1 in
    let rest = tally_list xs k m both.1 (λ p h. within p (or_right (eqb x p) (has p xs) h)) in
    split ∙ ap (λ n. n + tally (λ i. has i xs) k m) one ∙ ap (λ n. 1 + n) rest ∙ (let z : 1 + length xs ≡ suc (length xs) = omega arith in z)

tally_places : {K : Type 0} (is : Status → Bool) (f : ℕ → Bool) (k : ℕ) (ps : List (Place K)) → ((i : ℕ) (x : Place K) → slice_get ps i ≡ Some x → f (i + k) ≡ is x.status)
    → count_of is ps ≡ tally f k (length ps)
unfolding tally
tally_places is f k [] same = refl
tally_places is f k (x ∷ ps) same =
    ap (λ b. cond b 1 0 + count_of is ps) (sym (same 0 x refl) ∙ ap f (let z : 0 + k ≡ k = omega arith in z))
    ∙ ap (λ n. cond (f k) 1 0 + n) (tally_places is f (suc k) ps (λ i y h. ap f (let z : i + suc k ≡ suc i + k = omega arith in z) ∙ same (suc i) y h))

module _ {K : Type 0} (rank : K → K → Ordering) (laws : Laws rank) where
  -- The chain has exactly the chained places.
  as_many : (b : Book K) → Inv rank (sight_of b) → (ps : List (Place K)) → b.places ≡ ps → 2 ≤ length ps → count_of is_chained (inner ps) ≡ length (chain b.places)
  as_many b inv [] e two = absurd (omega arith)
  as_many b inv (p ∷ []) e two = absurd (omega arith)
  as_many b inv (p ∷ (q ∷ ps)) e two =
      tally_places is_chained (λ i. has i (chain b.places)) 2 ps (λ i x h. on i ∙ ap (λ xs. is_chained (field_of Free (λ y. y.status) (slice_get xs (i + 2)))) e
      ∙ ap (λ n. is_chained (field_of Free (λ y. y.status) (slice_get (p ∷ (q ∷ ps)) n))) (let z : i + 2 ≡ suc (suc i) = omega arith in z) ∙ ap (λ y. is_chained (field_of Free (λ z. z.status) y)) h)
      ∙ tally_list (chain b.places) 2 (length ps) (chain_distinct rank laws b.places b.stations b.guide inv)
      (λ r h. let it = chain_inner rank laws b.places b.stations b.guide inv r h in let many = ap length e in (it.1, omega (arith, it.2)))
    where
      on : (i : ℕ) → has (i + 2) (chain b.places) ≡ chained (sight_of b) (i + 2)
      on i = chain_has rank laws b.places b.stations b.guide inv (i + 2) (omega arith)

  pub counts_are_true : (b : Book K) → Inv rank (sight_of b) → CountsAreTrue rank b
  counts_are_true b inv = record { add_up = counts_sum (inner b.places) ∙ length_inner b.places; chained = as_many b inv b.places refl inv.two }
