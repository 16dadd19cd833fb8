-- The laws of an order of keys, and what follows for the keys of places with one key below and one above all others.
-- Assumes the laws.
use Rattle.std.proofs.Common.{◌≡◌, Bool, true, false, Ordering, Less, Equal, Greater, sym, refl, ap, ◌∙◌}
use Rattle.std.specs.Ordering.{ordering_reverse, is_lt}

pub record Laws {K : Type 0} (rank : K → K → Ordering) : Type 0 where
  pub swaps : (a b : K) → rank b a ≡ ordering_reverse (rank a b)
  pub chains : (a b c : K) → rank a b ≡ Less → rank b c ≡ Less → rank a c ≡ Less
  pub same : (a b : K) → rank a b ≡ Equal → a ≡ b

-- A key, or what is below every key, or what is above every key.
pub data Bound (K : Type 0) : Type 0 where
  bottom : Bound K
  exact : K → Bound K
  top : Bound K

pub less_only : (o : Ordering) → is_lt o ≡ true → o ≡ Less
less_only Less h = refl
less_only Equal h = cc
less_only Greater h = cc

module _ {K : Type 0} (rank : K → K → Ordering) where
  -- The first is below the second.
  abbrev pub before : Bound K → Bound K → Bool
  before bottom bottom = false
  before bottom (exact b) = true
  before bottom top = true
  before (exact a) bottom = false
  before (exact a) (exact b) = is_lt (rank a b)
  before (exact a) top = true
  before top bottom = false
  before top (exact b) = false
  before top top = false

  -- How a bound stands to a key.
  abbrev pub compared : Bound K → K → Ordering
  compared bottom k = Less
  compared (exact a) k = rank a k
  compared top k = Greater

  module _ (laws : Laws rank) where
    rank_self : (o : Ordering) → o ≡ ordering_reverse o → is_lt o ≡ false
    rank_self Less h = cc
    rank_self Equal h = refl
    rank_self Greater h = refl

    rank_once : (o : Ordering) → is_lt o ≡ true → is_lt (ordering_reverse o) ≡ false
    rank_once Less h = refl
    rank_once Equal h = refl
    rank_once Greater h = cc

    rank_neither : (o : Ordering) → is_lt o ≡ false → is_lt (ordering_reverse o) ≡ false → o ≡ Equal
    rank_neither Less h k = cc
    rank_neither Equal h k = refl
    rank_neither Greater h k = cc

    pub before_not_self : (a : Bound K) → before a a ≡ false
    before_not_self bottom = refl
    before_not_self (exact a) = rank_self (rank a a) (laws.swaps a a)
    before_not_self top = refl

    pub before_chains : (a b c : Bound K) → before a b ≡ true → before b c ≡ true → before a c ≡ true
    before_chains bottom bottom c h k = k
    before_chains bottom (exact b) bottom h k = k
    before_chains bottom (exact b) (exact c) h k = refl
    before_chains bottom (exact b) top h k = refl
    before_chains bottom top bottom h k = k
    before_chains bottom top (exact c) h k = refl
    before_chains bottom top top h k = refl
    before_chains (exact a) bottom bottom h k = h
    before_chains (exact a) bottom (exact c) h k = cc
    before_chains (exact a) bottom top h k = refl
    before_chains (exact a) (exact b) bottom h k = k
    before_chains (exact a) (exact b) (exact c) h k =
        ap is_lt (laws.chains a b c (less_only (rank a b) h) (less_only (rank b c) k))
    before_chains (exact a) (exact b) top h k = refl
    before_chains (exact a) top bottom h k = k
    before_chains (exact a) top (exact c) h k = cc
    before_chains (exact a) top top h k = refl
    before_chains top bottom c h k = cc
    before_chains top (exact b) c h k = cc
    before_chains top top c h k = cc

    pub before_once : (a b : Bound K) → before a b ≡ true → before b a ≡ false
    before_once bottom bottom h = refl
    before_once bottom (exact b) h = refl
    before_once bottom top h = refl
    before_once (exact a) bottom h = cc
    before_once (exact a) (exact b) h = ap is_lt (laws.swaps a b) ∙ rank_once (rank a b) h
    before_once (exact a) top h = refl
    before_once top bottom h = cc
    before_once top (exact b) h = cc
    before_once top top h = refl

    pub before_neither : (a b : Bound K) → before a b ≡ false → before b a ≡ false → a ≡ b
    before_neither bottom bottom h k = refl
    before_neither bottom (exact b) h k = cc
    before_neither bottom top h k = cc
    before_neither (exact a) bottom h k = cc
    before_neither (exact a) (exact b) h k =
        ap exact (laws.same a b (rank_neither (rank a b) h (sym (ap is_lt (laws.swaps a b)) ∙ k)))
    before_neither (exact a) top h k = cc
    before_neither top bottom h k = cc
    before_neither top (exact b) h k = cc
    before_neither top top h k = refl

    -- ---- how a bound stands to a key, by what is before what

    pub less_is_before : (b : Bound K) (k : K) → compared b k ≡ Less → before b (exact k) ≡ true
    less_is_before bottom k h = refl
    less_is_before (exact a) k h = ap is_lt h
    less_is_before top k h = cc

    pub equal_is_exact : (b : Bound K) (k : K) → compared b k ≡ Equal → b ≡ exact k
    equal_is_exact bottom k h = cc
    equal_is_exact (exact a) k h = ap exact (laws.same a k h)
    equal_is_exact top k h = cc

    pub greater_is_after : (b : Bound K) (k : K) → compared b k ≡ Greater → before (exact k) b ≡ true
    greater_is_after bottom k h = cc
    greater_is_after (exact a) k h = ap is_lt (laws.swaps a k) ∙ ap (λ o. is_lt (ordering_reverse o)) h
    greater_is_after top k h = refl

    pub not_less_is_not_before : (b : Bound K) (k : K) → (compared b k ≡ Less → ⊥) → before b (exact k) ≡ false
    not_less_is_not_before bottom k h = absurd (h refl)
    not_less_is_not_before (exact a) k h = go (rank a k) h
      where
        go : (o : Ordering) → (o ≡ Less → ⊥) → is_lt o ≡ false
        go Less h = absurd (h refl)
        go Equal h = refl
        go Greater h = refl
    not_less_is_not_before top k h = refl
