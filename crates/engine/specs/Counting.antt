-- How many places are free, in hand, chained and retired. Assumes nothing.
use Rattle.std.specs.Prelude.{ℕ, ◌+◌, Bool, true, false, cond, List, [], ◌∷◌, drop}
use Rattle.records.specs.declared.record.Place.{Place}
use Rattle.records.specs.declared.record.Status.{Status}
use Rattle.records.specs.declared.record.Status.TheVariants.{Free, InHand, Chained, Retired}
use Rattle.rules.specs.Putting.{is_free}

-- Taken by a put and not yet linked, or unlinked by a strike and not yet retired.
abbrev pub is_in_hand : Status → Bool
is_in_hand Free = false
is_in_hand InHand = true
is_in_hand Chained = false
is_in_hand (Retired waits) = false

-- On the chain.
abbrev pub is_chained : Status → Bool
is_chained Free = false
is_chained InHand = false
is_chained Chained = true
is_chained (Retired waits) = false

-- Struck and not yet reusable.
abbrev pub is_retired : Status → Bool
is_retired Free = false
is_retired InHand = false
is_retired Chained = false
is_retired (Retired waits) = true

module _ {K : Type 0} where
  -- How many of these places have such a status.
  abbrev pub count_of : (Status → Bool) → List (Place K) → ℕ
  count_of is [] = 0
  count_of is (p ∷ ps) = cond (is p.status) 1 0 + count_of is ps

  -- The places that count: all but Low and High.
  abbrev pub inner : List (Place K) → List (Place K)
  inner ps = drop 2 ps

  -- How many places are free, in hand, chained and retired.
  abbrev pub free_count : List (Place K) → ℕ
  free_count ps = count_of is_free (inner ps)

  abbrev pub in_hand_count : List (Place K) → ℕ
  in_hand_count ps = count_of is_in_hand (inner ps)

  abbrev pub chained_count : List (Place K) → ℕ
  chained_count ps = count_of is_chained (inner ps)

  abbrev pub retired_count : List (Place K) → ℕ
  retired_count ps = count_of is_retired (inner ps)
