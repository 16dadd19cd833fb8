-- The status of each place, told exactly, and the four counts: more than the promises say of them. Assumes nothing.
use Rattle.std.specs.Prelude.{◌≡◌, ℕ, ◌+◌, ◌-◌, ◌≤◌, Bool, true, false, ◌↔◌, List, length, Some, slice_index_or}
use Rattle.std.specs.declared.cmp.Ordering.{Ordering}
use Rattle.std.specs.List.{slice_get}
use Rattle.guides.specs.Meaning.{has}
use Rattle.records.specs.declared.record.Place.{Place}
use Rattle.records.specs.declared.record.Status.TheVariants.{Retired}
use Rattle.records.specs.declared.record.Task.{Task}
use Rattle.rules.specs.Putting.{is_free}
use Rattle.engine.specs.Contents.{chain}
use Rattle.engine.specs.Counting.{is_in_hand, is_chained, is_retired, free_count, in_hand_count, chained_count, retired_count}
use Rattle.promises.specs.Books.{Book}
use Rattle.promises.specs.Promised.{UnderWay, is_change}
use Rattle.promises.specs.Runs.{Run, works_in, retired_during}

module _ {K : Type 0} (rank : K → K → Ordering) where
  -- Every place from 2 on is exactly one of free, in hand, chained and retired, and the status that is stored is the true
  -- one. In hand is a place that a put has taken and not yet linked, or a strike has unlinked and not yet retired: a put or
  -- a strike under way has it as its other place, and it is not on the chain.
  pub record InHands (b : Book K) (p i : ℕ) (t : Task K) : Type 0 where
    pub under_way : UnderWay rank b i t
    pub changes : is_change t.work ≡ true
    pub other : t.other ≡ p
    pub off_chain : has p (chain b.places) ≡ false

  -- In somebody's hands.
  abbrev pub IsInHand : Book K → ℕ → Type 0
  IsInHand b p = (i : ℕ) × (t : Task K) × InHands b p i t

  -- Retired while a work that is still under way was under way.
  abbrev pub IsRetired : {b : Book K} → Run rank b → ℕ → Type 0
  IsRetired r p = (i : ℕ) × (retired_during rank r p i ≡ true)

  pub record StatusIsExact {b : Book K} (r : Run rank b) (p : ℕ) (x : Place K) : Type 0 where
    pub chained : is_chained x.status ≡ has p (chain b.places)
    pub in_hand : (is_in_hand x.status ≡ true) ↔ IsInHand b p
    pub retired : (is_retired x.status ≡ true) ↔ IsRetired r p
    -- free is what is none of the three
    pub free : (is_free x.status ≡ true) ↔ ((has p (chain b.places) ≡ false) × (IsInHand b p → ⊥) × (IsRetired r p → ⊥))
    -- a retired place waits for the works during which it was retired and for no other, and there is one
    pub waits_exactly : (waits : List Bool) → x.status ≡ Retired waits → (i : ℕ) → slice_index_or waits i false ≡ retired_during rank r p i
    pub waits_for_workers : (waits : List Bool) → x.status ≡ Retired waits → (i : ℕ) × (slice_get waits i ≡ Some true) × (works_in rank b i ≡ true)

  -- The four counts, taken over all places but Low and High, add up; and as many are chained as the chain has places.
  pub record CountsAreTrue (b : Book K) : Type 0 where
    pub add_up : free_count b.places + in_hand_count b.places + chained_count b.places + retired_count b.places ≡ length b.places - 2
    pub chained : chained_count b.places ≡ length (chain b.places)

  pub record StatusesAreExact : Type 0 where
    pub each : (b : Book K) (r : Run rank b) (p : ℕ) (x : Place K) → 2 ≤ p → slice_get b.places p ≡ Some x → StatusIsExact r p x
    pub counts : (b : Book K) (r : Run rank b) → CountsAreTrue b
