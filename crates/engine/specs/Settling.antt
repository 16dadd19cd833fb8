-- What a step does with its station once the rule has decided, and how retired places become free. Assumes nothing.
use Rattle.std.specs.Prelude.{◌≡◌, ℕ, ◌+◌, ◌-◌, ◌^◌, min, Bool, true, false, cond, not, ◌&&◌, ◌||◌, List, [], ◌∷◌, map, is_some, Some, None, Option, ◌==◌, slice_index_or, slice_set}
use Rattle.std.specs.List.{range_with_len}
use Rattle.records.specs.declared.answer.Answer.TheVariants.{Yes}
use Rattle.records.specs.declared.answer.Stepped.{Stepped}
use Rattle.records.specs.declared.answer.Stepped.TheVariants.{Moved, Waits, Ended}
use Rattle.records.specs.declared.outcome.Outcome.{Outcome}
use Rattle.records.specs.declared.outcome.Outcome.TheVariants.{Goes, Waits as MustWait, Ends, Retires}
use Rattle.records.specs.declared.record.Place.{Place}
use Rattle.records.specs.declared.record.Station.{Station}
use Rattle.records.specs.declared.record.Status.{Status}
use Rattle.records.specs.declared.record.Status.TheVariants.{Free, InHand, Chained, Retired}
use Rattle.records.specs.declared.record.Task.{Task}
use Rattle.records.specs.Records.{written, with_status}

-- The index serves at most so many stations.
abbrev pub most_stations : ℕ
most_stations = 16

-- One step more; the count stays at 2^64 - 1 once there.
abbrev pub counted : ℕ → ℕ
counted steps = min (steps + 1) (2 ^ 64 - 1)

-- Some station is in the set.
abbrev pub anyone : List Bool → Bool
anyone [] = false
anyone (b ∷ bs) = b || anyone bs

-- A place that waits for the works of these stations; it is free where there are none.
abbrev pub retired_for : List Bool → Status
retired_for waits = cond (anyone waits) (Retired waits) Free

-- The status of a place once the work of station i has ended.
abbrev pub without_station : ℕ → Status → Status
without_station i Free = Free
without_station i InHand = InHand
without_station i Chained = Chained
without_station i (Retired waits) = retired_for (slice_set waits i false)

-- What a step answers and leaves.
pub record AfterStep (K : Type 0) : Type 0 where
  pub answer : Stepped K
  pub places : List (Place K)
  pub stations : List (Station K)

module _ {K : Type 0} where
  abbrev pub idle : Station K
  idle = record { task = None }

  abbrev pub busy : Task K → Station K
  busy t = record { task = Some t }

  -- Station i has a work under way.
  abbrev pub works : List (Station K) → ℕ → Bool
  works ss i = is_some (slice_index_or ss i idle).task

  -- Station i is another than `me` and has a work under way.
  abbrev pub other_at_work : ℕ → List (Station K) → ℕ → Bool
  other_at_work me ss i = not (i == me) && works ss i

  -- The stations other than `me` that have a work under way.
  unfoldable pub others_at_work : ℕ → List (Station K) → List Bool
  others_at_work me ss = map (other_at_work me ss) (range_with_len 0 most_stations)

  -- A task with another count of steps.
  abbrev pub with_steps : ℕ → Task K → Task K
  with_steps n t = record { work = t.work; key = t.key; phase = t.phase; at = t.at; other = t.other; downs = t.downs; steps = n; awaited = t.awaited }

  -- A place was retired while this work is under way.
  abbrev pub with_await : Task K → Task K
  with_await t = record { work = t.work; key = t.key; phase = t.phase; at = t.at; other = t.other; downs = t.downs; steps = t.steps; awaited = true }

  abbrev pub awaiting_task : Option (Task K) → Option (Task K)
  awaiting_task None = None
  awaiting_task (Some t) = Some (with_await t)

  abbrev pub awaiting : Station K → Station K
  awaiting s = record { task = awaiting_task s.task }

  -- The place once the work of station i has ended.
  abbrev pub let_go : ℕ → Place K → Place K
  let_go i p = with_status (without_station i p.status) p

  -- The places once the work t of station i has ended: where a place was retired while it was under way, no place
  -- waits for it any longer, and a place that waits for nobody is free.
  abbrev pub after_work : ℕ → Task K → List (Place K) → List (Place K)
  after_work i t ps = cond t.awaited (map (let_go i) ps) ps

  -- The step is counted. A work that goes on or waits stays with its station. A work that ends leaves its station idle.
  -- A retired place waits for every other work that is under way.
  abbrev pub settled : ℕ → Task K → List (Station K) → Outcome K → List (Place K) → AfterStep K
  settled me t ss (Goes u) ps = record { answer = Moved; places = ps; stations = slice_set ss me (busy (with_steps (counted t.steps) u)) }
  settled me t ss MustWait ps = record { answer = Waits; places = ps; stations = slice_set ss me (busy (with_steps (counted t.steps) t)) }
  settled me t ss (Ends a) ps = record { answer = Ended a (counted t.steps); places = after_work me t ps; stations = slice_set ss me idle }
  settled me t ss (Retires p) ps = record {
    answer = Ended Yes (counted t.steps);
    places = after_work me t (written t.key p (with_status (retired_for (others_at_work me ss))) ps);
    stations = slice_set (map awaiting ss) me idle;
  }

  -- A station that was settled so: the answer, the places and the stations are those.
  abbrev pub Settles : AfterStep K → Stepped K → List (Place K) → List (Station K) → Type 0
  Settles told r ps ss = (r ≡ told.answer) × (ps ≡ told.places) × (ss ≡ told.stations)
