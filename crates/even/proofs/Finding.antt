-- What a search over all places of the table finds. Assumes nothing.
use Rattle.std.proofs.Common.{◌≡◌, ℕ, ◌<◌, ◌≤◌, Bool, true, false, Option, Some, None, arith}
use Rattle.std.specs.Option.{MatchOption}
use Rattle.even.specs.Balance.{Finds, FindsBy}

pub finds_from_first : (Tells : ℕ → Bool → Type 0) (found : Option ℕ) (First : ℕ → Type 0)
    → MatchOption found ((k : ℕ) → 0 ≤ k → k < 1024 → Tells k false) (λ i. (0 ≤ i) × (i < 1024) × Tells i true × First i)
    → FindsBy Tells found
unfolding FindsBy
finds_from_first Tells None First told = λ p within. told p (omega arith) within
finds_from_first Tells (Some i) First told = told.2

pub finds_as : (Tells : ℕ → Bool → Type 0) (test : ℕ → Bool) (found : Option ℕ) → FindsBy Tells found
    → ((p : ℕ) (told : Bool) → Tells p told → test p ≡ told) → Finds test found
unfolding FindsBy
finds_as Tells test None told same = λ p within. same p false (told p within)
finds_as Tells test (Some p) told same = same p true told
