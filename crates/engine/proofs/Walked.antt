-- The walk along the chain, turn by turn, as list makes it. Assumes nothing.
use Rattle.std.proofs.Common.{◌≡◌, ℕ, suc, ◌+◌, ◌-◌, ◌<◌, ◌≤◌, true, false, cond, eqb, ltb, List, [], ◌∷◌, length, Some, Ok, Err, Result, sym, ap, ◌∙◌, arith}
use Rattle.std.proofs.lemmas.Option.{slice_get_within}
use Rattle.std.proofs.lemmas.Bool.{cond-true, cond-false, lt-ltb, le-ltb, eq-eqb, ne_eqb}
use Rattle.std.specs.List.{slice_get}
use Rattle.guides.specs.Meaning.{low, high}
use Rattle.records.specs.declared.answer.Damage.{Damage}
use Rattle.records.specs.declared.answer.Damage.TheVariants.{NoPlace}
use Rattle.records.specs.declared.record.Place.{Place}
use Rattle.engine.specs.Contents.{field_of, next_of, chain_from, with_key, keys_of, reaches_high}
use Rattle.engine.specs.Walking.{keys_from}

module _ {K : Type 0} (ps : List (Place K)) where
  -- The keys that are met from place p on within n places.
  abbrev pub keys_within : ℕ → ℕ → List K
  keys_within n p = keys_of ps (chain_from n ps p)

  -- At High the walk is over.
  keys_here : (n p : ℕ) → p ≡ high → keys_within (suc n) p ≡ []
  keys_here n p at = ap (keys_of ps) (cond-true (eqb p high) [] (p ∷ chain_from n ps (next_of ps p)) (eq-eqb p high at))

  -- At a place that is not there it fails.
  reaches_nowhere : (n p : ℕ) → (p ≡ high → ⊥) → length ps ≤ p → reaches_high (suc n) ps p ≡ Err NoPlace
  reaches_nowhere n p off past =
      cond-false (eqb p high) (Ok tt) (cond (ltb p (length ps)) (reaches_high n ps (next_of ps p)) (Err NoPlace)) (ne_eqb p high off)
      ∙ cond-false (ltb p (length ps)) (reaches_high n ps (next_of ps p)) (Err NoPlace) (le-ltb p (length ps) past)

  -- At any other place it goes on to the successor.
  module _ (n p : ℕ) (x : Place K) (off : p ≡ high → ⊥) (there : slice_get ps p ≡ Some x) where
    next_read : next_of ps p ≡ x.next
    next_read = ap (field_of low (λ y. y.next)) there

    reaches_on : reaches_high (suc n) ps p ≡ reaches_high n ps x.next
    reaches_on =
        cond-false (eqb p high) (Ok tt) (cond (ltb p (length ps)) (reaches_high n ps (next_of ps p)) (Err NoPlace)) (ne_eqb p high off)
        ∙ cond-true (ltb p (length ps)) (reaches_high n ps (next_of ps p)) (Err NoPlace) (lt-ltb p (length ps) (slice_get_within ps p x there))
        ∙ ap (reaches_high n ps) next_read

    keys_on : keys_within (suc n) p ≡ cond x.marked (keys_within n x.next) (x.key ∷ keys_within n x.next)
    keys_on =
        ap (keys_of ps) (cond-false (eqb p high) [] (p ∷ chain_from n ps (next_of ps p)) (ne_eqb p high off))
        ∙ ap (λ q. with_key (slice_get ps p) (keys_within n q)) next_read
        ∙ ap (λ y. with_key y (keys_within n x.next)) there

  -- After so many turns the walk from a place stands at another, with so many keys behind it.
  pub record Walked (from turn at count : ℕ) : Type 0 where
    pub reaches : reaches_high (length ps - turn) ps at ≡ reaches_high (length ps) ps from
    pub meets : count + length (keys_within (length ps - turn) at) ≡ length (keys_from ps from)
    pub few : count ≤ turn

  module _ (from turn at count : ℕ) (walked : Walked from turn at count) where
    module _ (more : turn < length ps) where
      one_more : length ps - turn ≡ suc (length ps - (turn + 1))
      one_more = omega arith

      pub none_at_high : at ≡ high → keys_within (length ps - turn) at ≡ []
      none_at_high here = ap (λ n. keys_within n at) one_more ∙ keys_here (length ps - (turn + 1)) at here

      finds_no_place : (at ≡ high → ⊥) → length ps ≤ at → reaches_high (length ps) ps from ≡ Err NoPlace
      finds_no_place off past = sym walked.reaches ∙ ap (λ n. reaches_high n ps at) one_more ∙ reaches_nowhere (length ps - (turn + 1)) at off past

      -- A walk that reaches High stands on a place.
      pub stands : (at ≡ high → ⊥) → length ps ≤ at → reaches_high (length ps) ps from ≡ Ok tt → ⊥
      stands off past reached =
          let no : ◌≡◌ {A = Result (Unit {0}) Damage} (Ok tt) (Err NoPlace) = sym reached ∙ finds_no_place off past in
          let z : ◌≡◌ {A = ℕ} 0 1 = cc in
          omega arith

      module _ (x : Place K) (off : at ≡ high → ⊥) (there : slice_get ps at ≡ Some x) where
        left_on : keys_within (length ps - turn) at ≡ cond x.marked (keys_within (length ps - (turn + 1)) x.next) (x.key ∷ keys_within (length ps - (turn + 1)) x.next)
        left_on = ap (λ n. keys_within n at) one_more ∙ keys_on (length ps - (turn + 1)) at x off there

        -- The keys that are left begin with that of the place, unless it is marked.
        pub left_marked : x.marked ≡ true → keys_within (length ps - turn) at ≡ keys_within (length ps - (turn + 1)) x.next
        left_marked marked = left_on ∙ cond-true x.marked _ _ marked

        pub left_key : x.marked ≡ false → keys_within (length ps - turn) at ≡ x.key ∷ keys_within (length ps - (turn + 1)) x.next
        left_key unmarked = left_on ∙ cond-false x.marked _ _ unmarked

        reaches_more : reaches_high (length ps - (turn + 1)) ps x.next ≡ reaches_high (length ps) ps from
        reaches_more = sym (reaches_on (length ps - (turn + 1)) at x off there) ∙ sym (ap (λ n. reaches_high n ps at) one_more) ∙ walked.reaches

        pub passes_marked : x.marked ≡ true → Walked from (turn + 1) x.next count
        passes_marked marked =
            let left : length (keys_within (length ps - turn) at) ≡ length (keys_within (length ps - (turn + 1)) x.next) = ap length (left_marked marked) in
            let m = walked.meets in
            record { reaches = reaches_more; meets = omega arith; few = let f = walked.few in omega arith }

        pub passes_key : x.marked ≡ false → Walked from (turn + 1) x.next (count + 1)
        passes_key unmarked =
            let left : length (keys_within (length ps - turn) at) ≡ suc (length (keys_within (length ps - (turn + 1)) x.next)) = ap length (left_key unmarked) in
            let m = walked.meets in
            record { reaches = reaches_more; meets = omega arith; few = let f = walked.few in omega arith }
