-- What a walk along the chain meets: the keys of its unmarked places, and how many there are. Assumes nothing.
use Rattle.std.specs.Prelude.{◌≡◌, ℕ, List, length, Ok}
use Rattle.records.specs.declared.record.Place.{Place}
use Rattle.engine.specs.Contents.{chain_from, keys_of, reaches_high}

module _ {K : Type 0} where
  -- The keys of the unmarked places that are reached from place p before High, p counted. From Low's successor on these
  -- are the contents.
  abbrev pub keys_from : List (Place K) → ℕ → List K
  keys_from ps p = keys_of ps (chain_from (length ps) ps p)

  -- The walk from place p reaches High, and meets so many keys.
  pub record Meets (ps : List (Place K)) (p n : ℕ) : Type 0 where
    pub reached : reaches_high (length ps) ps p ≡ Ok tt
    pub counted : n ≡ length (keys_from ps p)
