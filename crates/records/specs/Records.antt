-- How the rules read and write the records. Assumes nothing.
use Rattle.std.specs.Prelude.{◌≡◌, ℕ, Bool, true, false, cond, not, List, length, Some, None, Ok, Err, Option, Result, ◌==◌, nat_lt, slice_index_or, slice_set}
use Rattle.std.specs.declared.cmp.Ordering.TheVariants.{Less, Greater}
use Rattle.std.specs.declared.cmp.Ordering.{Ordering}
use Rattle.guides.specs.Meaning.{low, high}
use Rattle.records.specs.declared.answer.Damage.{Damage}
use Rattle.records.specs.declared.answer.Damage.TheVariants.{NoPlace}
use Rattle.records.specs.declared.outcome.Outcome.{Outcome}
use Rattle.records.specs.declared.outcome.Outcome.TheVariants.{Goes}
use Rattle.records.specs.declared.record.Phase.{Phase}
use Rattle.records.specs.declared.record.Phase.TheVariants.{Enter, First}
use Rattle.records.specs.declared.record.Place.{Place}
use Rattle.records.specs.declared.record.Status.{Status}
use Rattle.records.specs.declared.record.Status.TheVariants.{Free}
use Rattle.records.specs.declared.record.Task.{Task}
use Rattle.records.specs.declared.record.Work.{Work}
use Rattle.records.specs.declared.record.Work.TheVariants.{Put, Strike, Look, First as FirstWork, After}

-- What a rule makes of the places, and how its work goes on.
pub record Ruled (K : Type 0) : Type 0 where
  pub outcome : Outcome K
  pub places : List (Place K)

-- First begins at FIRST, the others at ENTER.
abbrev pub first_phase : Work → Phase
first_phase Put = Enter
first_phase Strike = Enter
first_phase Look = Enter
first_phase FirstWork = First
first_phase After = Enter

module _ {K : Type 0} where
  -- A place that holds nothing but a key.
  abbrev pub blank : K → Place K
  blank k = record { key = k; next = low; prev = low; marked = false; lock = None; status = Free }

  -- The record of place p. The key k stands in only where p is not among the places, which every rule tests first.
  abbrev pub place : K → List (Place K) → ℕ → Place K
  place k ps p = slice_index_or ps p (blank k)

  -- What a rule does that needs the record of place p. DAMAGED: p is not among the places.
  abbrev pub needing : {A : Type 0} → K → List (Place K) → ℕ → (Place K → Result A Damage) → Result A Damage
  needing k ps p rule = cond (nat_lt p (length ps)) (rule (place k ps p)) (Err NoPlace)

  -- How place p, which holds `own`, stands to the key k. Low is below every key, and High above.
  abbrev pub standing : (K → K → Ordering) → ℕ → K → K → Ordering
  standing rank p own k = cond (p == low) Less (cond (p == high) Greater (rank own k))

  -- How place p of the places stands to the key k.
  abbrev pub standing_at : (K → K → Ordering) → List (Place K) → ℕ → K → Ordering
  standing_at rank ps p k = standing rank p (place k ps p).key k

  -- The places with the record of place p changed.
  abbrev pub written : K → ℕ → (Place K → Place K) → List (Place K) → List (Place K)
  written k p change ps = slice_set ps p (change (place k ps p))

  -- A place with one field written.
  abbrev pub with_next : ℕ → Place K → Place K
  with_next n p = record { key = p.key; next = n; prev = p.prev; marked = p.marked; lock = p.lock; status = p.status }

  abbrev pub with_prev : ℕ → Place K → Place K
  with_prev n p = record { key = p.key; next = p.next; prev = n; marked = p.marked; lock = p.lock; status = p.status }

  abbrev pub with_mark : Place K → Place K
  with_mark p = record { key = p.key; next = p.next; prev = p.prev; marked = true; lock = p.lock; status = p.status }

  abbrev pub with_lock : Option ℕ → Place K → Place K
  with_lock l p = record { key = p.key; next = p.next; prev = p.prev; marked = p.marked; lock = l; status = p.status }

  abbrev pub with_status : Status → Place K → Place K
  with_status s p = record { key = p.key; next = p.next; prev = p.prev; marked = p.marked; lock = p.lock; status = s }

  -- The places with the lock of place p released.
  abbrev pub released : K → ℕ → List (Place K) → List (Place K)
  released k p ps = written k p (with_lock None) ps

  -- A task with another phase.
  abbrev pub into : Phase → Task K → Task K
  into phase t = record { work = t.work; key = t.key; phase = phase; at = t.at; other = t.other; downs = t.downs; steps = t.steps; awaited = t.awaited }

  -- A task that stands on another place.
  abbrev pub moved_to : ℕ → Task K → Task K
  moved_to p t = record { work = t.work; key = t.key; phase = t.phase; at = p; other = t.other; downs = t.downs; steps = t.steps; awaited = t.awaited }

  -- A task with another count of DOWN steps.
  abbrev pub with_downs : ℕ → Task K → Task K
  with_downs n t = record { work = t.work; key = t.key; phase = t.phase; at = t.at; other = t.other; downs = n; steps = t.steps; awaited = t.awaited }

  -- A task that has another place in its hands.
  abbrev pub with_other : ℕ → Task K → Task K
  with_other p t = record { work = t.work; key = t.key; phase = t.phase; at = t.at; other = p; downs = t.downs; steps = t.steps; awaited = t.awaited }

  -- A work that has no rule for its phase starts over. No work that was begun comes to that.
  abbrev pub start_over : Task K → Outcome K
  start_over t = Goes (into (first_phase t.work) t)

  -- The outcome of a rule, and the places after it. A rule that fails leaves the places as they were.
  abbrev pub outcome_of : Result (Ruled K) Damage → Result (Outcome K) Damage
  outcome_of (Ok ruled) = Ok ruled.outcome
  outcome_of (Err damage) = Err damage

  abbrev pub places_of : Result (Ruled K) Damage → List (Place K) → List (Place K)
  places_of (Ok ruled) before = ruled.places
  places_of (Err damage) before = before

  -- A rule that answered r and turned the places `before` into `after` did what is told.
  abbrev pub Rules : Result (Ruled K) Damage → List (Place K) → Result (Outcome K) Damage → List (Place K) → Type 0
  Rules told before r after = (r ≡ outcome_of told) × (after ≡ places_of told before)

-- A lock that another station than `me` holds.
abbrev pub held_by_other : ℕ → Option ℕ → Bool
held_by_other me None = false
held_by_other me (Some holder) = not (holder == me)
