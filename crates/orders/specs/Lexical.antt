-- That below is transitive for pairs, whose first parts decide first. Assumes the laws of both parts' orders.
use Rattle.std.specs.Prelude.{◌≡◌}
use Rattle.std.specs.declared.cmp.Ordering.TheVariants.{Less, Equal, Greater}
use Rattle.std.specs.declared.cmp.Ordering.{Ordering}
use Rattle.std.proofs.Common.{sym, ap, ◌∙◌}
use Rattle.std.specs.Ordering.{ordering_then}

module _ {A : Type 0} (rank : A → A → Ordering) (chains : (a b c : A) → rank a b ≡ Less → rank b c ≡ Less → rank a c ≡ Less)
    (same : (a b : A) → rank a b ≡ Equal → a ≡ b) where
  -- Where neither step goes up, their join is below if one of them is, and else the same.
  pub first_chains : (a b c : A) (p q : Ordering) → rank a b ≡ p → rank b c ≡ q → (r s : Ordering) (t : Ordering)
      → ordering_then p r ≡ Less → ordering_then q s ≡ Less → (r ≡ Less → s ≡ Less → t ≡ Less) → ordering_then (rank a c) t ≡ Less
  first_chains a b c Less Less e f r s t h k rest = ap (λ o. ordering_then o t) (chains a b c e f)
  first_chains a b c Less Equal e f r s t h k rest = ap (λ o. ordering_then o t) (ap (rank a) (sym (same b c f)) ∙ e)
  first_chains a b c Equal Less e f r s t h k rest = ap (λ o. ordering_then o t) (ap (λ x. rank x c) (same a b e) ∙ f)
  first_chains a b c Equal Equal e f r s t h k rest = ap (λ o. ordering_then o t) (ap (λ x. rank x c) (same a b e) ∙ f) ∙ rest h k
  first_chains a b c Less Greater e f r s t h k rest = cc
  first_chains a b c Equal Greater e f r s t h k rest = cc
  first_chains a b c Greater Less e f r s t h k rest = cc
  first_chains a b c Greater Equal e f r s t h k rest = cc
  first_chains a b c Greater Greater e f r s t h k rest = cc
