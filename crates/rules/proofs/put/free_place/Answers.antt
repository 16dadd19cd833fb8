-- What the search found, by what it was told of each number.
use Rattle.std.proofs.Common.{◌≡◌, ℕ, ◌&&◌, ltb, length, true, false, rules, arith}
use Rattle.std.proofs.lemmas.Iterator.{first_from_Range}
use Rattle.std.proofs.lemmas.Bool.Decides.{nat_tests}
use Rattle.records.specs.Records.{place}
use Rattle.rules.specs.Putting.{is_free}
use Rattle.rules.proofs.put.free_place.Goals as goal

pub returns-in_err-free-clause-takes : goal.returns-in_err-free-clause-takes
returns-in_err-free-clause-takes g c = λ k.
    let ps = c.args.places.now in
    let free = λ (i : ℕ). ltb i (length ps) && is_free (place k ps i).status in
    let none = first_from_Range _ _ _ c.find.result (λ i. free i ≡ true) (λ i. free i ≡ false) c.find.ensures.ran
    (λ x q called. search rules)
    (λ x q called. (search rules, search rules)) in
    grind (arith, nat_tests)

pub returns-clause-takes : goal.returns-clause-takes
returns-clause-takes g c = λ k.
    let ps = c.args.places.now in
    let free = λ (i : ℕ). ltb i (length ps) && is_free (place k ps i).status in
    let some = first_from_Range _ _ _ c.find.result (λ i. free i ≡ true) (λ i. free i ≡ false) c.find.ensures.ran
    (λ x q called. let said = called.called.met.0 in grind (arith, said))
    (λ x q called. (search rules, search rules)) in
    grind (arith, nat_tests)
