-- Which rungs are among which. Assumes nothing.
use Rattle.std.proofs.Common.{◌≡◌, ℕ, true, eqb, arith}
use Rattle.std.proofs.lemmas.Bool.Decides.{nat_tests}
use Rattle.promises.proofs.Invariant.{holds_at, is_placed, is_joined, is_lagging, is_striking, is_handing, is_between}

pub joined_holds : (r : ℕ) → is_joined r ≡ true → holds_at r ≡ true
joined_holds r h = grind (arith, nat_tests)

pub placed_holds : (r : ℕ) → is_placed r ≡ true → holds_at r ≡ true
placed_holds r h = grind (arith, nat_tests)

pub joined_placed : (r : ℕ) → is_joined r ≡ true → is_placed r ≡ true
joined_placed r h = grind (arith, nat_tests)

pub lagging_joined : (r : ℕ) → is_lagging r ≡ true → is_joined r ≡ true
lagging_joined r h = grind (arith, nat_tests)

pub striking_joined : (r : ℕ) → is_striking r ≡ true → is_joined r ≡ true
striking_joined r h = grind (arith, nat_tests)

pub three_placed : (r : ℕ) → eqb r 3 ≡ true → is_placed r ≡ true
three_placed r h = grind (arith, nat_tests)

pub three_holds : (r : ℕ) → eqb r 3 ≡ true → holds_at r ≡ true
three_holds r h = grind (arith, nat_tests)

pub between_holds : (r : ℕ) → is_between r ≡ true → holds_at r ≡ true
between_holds r h = grind (arith, nat_tests)

pub handing_holds : (r : ℕ) → is_handing r ≡ true → holds_at r ≡ true
handing_holds r h = grind (arith, nat_tests)
