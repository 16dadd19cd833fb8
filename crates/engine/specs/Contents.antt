-- The chain of the places, the contents of a book, and what list shows. Assumes nothing.
use Rattle.std.specs.Prelude.{◌≡◌, ℕ, zero, suc, cond, List, [], ◌∷◌, ◌++◌, length, drop, Some, None, Ok, Err, Option, Result, ◌==◌, nat_lt}
use Rattle.std.specs.List.{slice_get}
use Rattle.guides.specs.Meaning.{low, high}
use Rattle.records.specs.declared.answer.Damage.{Damage}
use Rattle.records.specs.declared.answer.Damage.TheVariants.{NoPlace, Endless}
use Rattle.records.specs.declared.answer.Refusal.{Refusal}
use Rattle.records.specs.declared.answer.Refusal.TheVariants.{ShortList, Damaged}
use Rattle.records.specs.declared.record.Place.{Place}

module _ {K : Type 0} where
  -- What a field of place p holds, and `other` where p is not among the places.
  abbrev pub field_of : {A : Type 0} → A → (Place K → A) → Option (Place K) → A
  field_of other field None = other
  field_of other field (Some p) = field p

  -- The successor of place p.
  abbrev pub next_of : List (Place K) → ℕ → ℕ
  next_of ps p = field_of low (λ x. x.next) (slice_get ps p)

  -- The chain from place p on: p and the places reached from it by successors, before High, at most n of them.
  abbrev pub chain_from : ℕ → List (Place K) → ℕ → List ℕ
  chain_from zero ps p = []
  chain_from (suc n) ps p = cond (p == high) [] (p ∷ chain_from n ps (next_of ps p))

  -- The chain: the places reached from Low by successors, before High.
  abbrev pub chain : List (Place K) → List ℕ
  chain ps = chain_from (length ps) ps (next_of ps low)

  -- The key of a place that is not marked, before the others.
  abbrev pub with_key : Option (Place K) → List K → List K
  with_key None keys = keys
  with_key (Some p) keys = cond p.marked keys (p.key ∷ keys)

  -- The keys of the unmarked ones of these places.
  abbrev pub keys_of : List (Place K) → List ℕ → List K
  keys_of ps [] = []
  keys_of ps (p ∷ chained) = with_key (slice_get ps p) (keys_of ps chained)

  -- The contents of a book: the keys of the unmarked places reached from Low by successors before High.
  abbrev pub contents : List (Place K) → List K
  contents ps = keys_of ps (chain ps)

  -- The walk from place p reaches High within n places, p counted.
  abbrev pub reaches_high : ℕ → List (Place K) → ℕ → Result (Unit {0}) Damage
  reaches_high zero ps p = Err Endless
  reaches_high (suc n) ps p = cond (p == high) (Ok tt) (cond (nat_lt p (length ps)) (reaches_high n ps (next_of ps p)) (Err NoPlace))

  -- List, for so many positions. DAMAGED: High is not reached within as many places as there are, or a place number is
  -- not among the places. SHORT LIST: there are fewer positions than keys.
  abbrev pub listing_by : Result (Unit {0}) Damage → List (Place K) → ℕ → Result (List K) Refusal
  listing_by (Ok reached) ps positions = cond (nat_lt positions (length (contents ps))) (Err ShortList) (Ok (contents ps))
  listing_by (Err damage) ps positions = Err (Damaged damage)

  abbrev pub listing : List (Place K) → ℕ → Result (List K) Refusal
  listing ps positions = cond (nat_lt low (length ps)) (listing_by (reaches_high (length ps) ps (next_of ps low)) ps positions) (Err (Damaged NoPlace))

  -- A list that answered r and turned the given keys into those after it did what is told: it wrote the keys in front,
  -- answered how many, and left the rest; or it was refused and left all.
  abbrev pub Lists : Result (List K) Refusal → List K → Result ℕ Refusal → List K → Type 0
  Lists (Ok keys) given r after = (r ≡ Ok (length keys)) × (after ≡ keys ++ drop (length keys) given)
  Lists (Err refusal) given r after = (r ≡ Err refusal) × (after ≡ given)
