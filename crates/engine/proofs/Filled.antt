-- What a list holds that a closure filled, where each call gives the same. Assumes nothing.
use Rattle.std.proofs.Common.{◌≡◌, ℕ, zero, suc, ◌+◌, ◌<◌, ◌≤◌, ◌⊎◌, inl, inr, List, [], ◌∷◌, map, length, get_or, refl, ap, ◌∙◌, subst, arith}
use Rattle.std.proofs.Math.Nat.{eq-or-lt_of_le}
use Rattle.std.specs.Array.{IsFromFnResultFrom}
use Rattle.std.specs.Fn.{Mut, Called}
use Rattle.std.specs.List.{FoldsTo}

pub filled : {P A B : Type 0} (R : P → A → P → Type 0) (d : A) → ((p : P) (x : A) (q : P) → R p x q → x ≡ d) → (p last : P) (xs : List A) (ys : List B)
    → FoldsTo R p xs last → length xs ≡ length ys → xs ≡ map (λ _. d) ys
filled R d is p last [] [] ran e = refl
filled R d is p last [] (y ∷ ys) ran e = absurd (omega (arith, e))
filled R d is p last (x ∷ xs) [] ran e = absurd (omega (arith, e))
filled R d is p last (x ∷ xs) (y ∷ ys) ran e =
    ap (λ z. z ∷ xs) (is p x ran.0 ran.1) ∙ ap (λ zs. d ∷ zs) (filled R d is ran.0 last xs ys ran.2 (omega (arith, e)))

-- What an array holds that a closure made, where each call keeps the closure as it is.
pub made : {F B : Type 0} (g : Mut F (ℕ × Unit {0}) B) (f : F) (h : ℕ → B) → ((i : ℕ) (y : B) (q : F) → Called g f (i, tt) y q → (q ≡ f) × (y ≡ h i))
    → (ys : List B) (d : B) (i n : ℕ) → IsFromFnResultFrom g f ys i n → (k : ℕ) → i ≤ k → k < i + n → get_or ys k d ≡ h k
made g f h pure ys d i zero ran k from below = absurd (omega (arith, from, below))
made g f h pure ys d i (suc n) ran k from below =
    by (eq-or-lt_of_le from)
    (λ more. made g f h pure ys d (i + 1) n (subst (λ z. IsFromFnResultFrom g z ys (i + 1) n) (pure i ran.1 ran.0 ran.3).0 ran.4) k (omega (arith, more)) (omega (arith, below)))
  where
    by : (i ≡ k) ⊎ (i < k) → (i < k → get_or ys k d ≡ h k) → get_or ys k d ≡ h k
    by (inl e) later = subst (λ z. get_or ys z d ≡ h z) e (ran.2.1 d ∙ (pure i ran.1 ran.0 ran.3).1)
    by (inr more) later = later more
