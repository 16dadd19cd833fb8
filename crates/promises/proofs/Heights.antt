-- How many places of the chain lie above a place: fewer than there are, and fewer still above a higher one. Assumes the laws of
-- the order and the invariant.
use Rattle.std.proofs.Common.{◌≡◌, ℕ, zero, suc, ◌+◌, ◌<◌, ◌≤◌, Bool, true, false, cond, ◌&&◌, ◌⊎◌, Ordering, sym, refl, ap, ◌∙◌, inl, inr, arith}
use Rattle.std.proofs.lemmas.Bool.{true≢false, cases_eq, and_from, and_parts, and_right}
use Rattle.promises.specs.Promised.{is_chained}
use Rattle.promises.proofs.Laws.{Laws, before, before_chains, before_not_self}
use Rattle.promises.proofs.Sights.{Sight}
use Rattle.promises.proofs.Invariant.{Inv, chained}

-- ---- how many numbers below n pass a test

abbrev one_if : Bool → ℕ
one_if b = cond b 1 0

abbrev count : ℕ → (ℕ → Bool) → ℕ
count zero f = 0
count (suc n) f = one_if (f n) + count n f

module _ (f g : ℕ → Bool) (more : (q : ℕ) → f q ≡ true → g q ≡ true) where
  one_more : (x y : Bool) → (x ≡ true → y ≡ true) → one_if x ≤ one_if y
  one_more true true h = omega arith
  one_more true false h = absurd (true≢false (sym (h refl)))
  one_more false true h = omega arith
  one_more false false h = omega arith

  count_le : (n : ℕ) → count n f ≤ count n g
  count_le zero = omega arith
  count_le (suc n) = let h = one_more (f n) (g n) (more n) in let k = count_le n in omega arith

  -- One that passes g alone makes a difference.
  count_less : (n r : ℕ) → r < n → f r ≡ false → g r ≡ true → count n f + 1 ≤ count n g
  count_less zero r h x y = absurd (omega arith)
  count_less (suc n) r h x y = by (count_less n r) (cases_eq r n)
    where
      by : (r < n → f r ≡ false → g r ≡ true → count n f + 1 ≤ count n g) → (r ≡ n) ⊎ (r ≡ n → ⊥) → (one_if (f n) + count n f) + 1 ≤ one_if (g n) + count n g
      by rest (inl e) =
          let fe : one_if (f n) ≡ 0 = ap one_if (ap f (sym e) ∙ x) in
          let ge : one_if (g n) ≡ 1 = ap one_if (ap g (sym e) ∙ y) in
          let k = count_le n in omega arith
      by rest (inr apart) =
          let less : r < n = omega arith in
          let k = rest less x y in
          let l = one_more (f n) (g n) (more n) in omega arith

count_all : (n : ℕ) → count n (λ q. true) ≡ n
count_all zero = refl
count_all (suc n) = let k = count_all n in omega arith

module _ {K : Type 0} (rank : K → K → Ordering) where
  abbrev over : Sight K → ℕ → ℕ → Bool
  over s p q = chained s q && before rank (s.spot p) (s.spot q)

  -- How many places of the chain lie above p.
  abbrev pub above : Sight K → ℕ → ℕ
  above s p = count s.size (over s p)

  module _ (laws : Laws rank) (s : Sight K) (inv : Inv rank s) where
    pub chained_within : (p : ℕ) → chained s p ≡ true → p < s.size
    chained_within p on = by (λ h. true≢false (sym on ∙ ap is_chained (inv.beyond p h)))
      where
        by : (s.size ≤ p → ⊥) → p < s.size
        by h = omega arith

    not_over_itself : (p : ℕ) → over s p p ≡ false
    not_over_itself p = and_right (chained s p) (before rank (s.spot p) (s.spot p)) (before_not_self rank laws (s.spot p))

    pub above_few : (p : ℕ) → chained s p ≡ true → above s p + 1 ≤ s.size
    above_few p on =
        let k = count_less (over s p) (λ q. true) (λ q h. refl) s.size p (chained_within p on) (not_over_itself p) refl in
        let l = count_all s.size in omega arith

    pub above_falls : (p q : ℕ) → chained s q ≡ true → before rank (s.spot p) (s.spot q) ≡ true → above s q + 1 ≤ above s p
    above_falls p q on h =
        count_less (over s q) (over s p) higher s.size q (chained_within q on) (not_over_itself q) (and_from (chained s q) (before rank (s.spot p) (s.spot q)) on h)
      where
        higher : (x : ℕ) → over s q x ≡ true → over s p x ≡ true
        higher x e =
            let both = and_parts (chained s x) (before rank (s.spot q) (s.spot x)) e in
            and_from (chained s x) (before rank (s.spot p) (s.spot x)) both.0 (before_chains rank laws (s.spot p) (s.spot q) (s.spot x) h both.1)
