-- What each call answers and leaves, and what turns it away, in the order in which it is tested. Assumes nothing.
use Rattle.std.specs.Prelude.{◌≡◌, ℕ, ◌<◌, Bool, false, cond, ◌&&◌, ◌||◌, List, [], ◌∷◌, map, length, Some, None, Ok, Err, Option, Result, ◌==◌, nat_lt, slice_index_or, slice_set}
use Rattle.std.specs.declared.cmp.Ordering.{Ordering}
use Rattle.guides.specs.declared.answer.GuideRefusal.{GuideRefusal}
use Rattle.guides.specs.Meaning.{Meaning, low, high}
use Rattle.guides.specs.Rules.{clearing}
use Rattle.records.specs.declared.answer.Damage.{Damage}
use Rattle.records.specs.declared.answer.Refusal.{Refusal}
use Rattle.records.specs.declared.answer.Refusal.TheVariants.{BadCount, Guide, NoStation, Busy, Idle, HoldsLock, Damaged}
use Rattle.records.specs.declared.answer.Stepped.{Stepped}
use Rattle.records.specs.declared.record.Place.{Place}
use Rattle.records.specs.declared.record.Station.{Station}
use Rattle.records.specs.declared.record.Status.TheVariants.{Free, Chained}
use Rattle.records.specs.declared.record.Task.{Task}
use Rattle.records.specs.declared.record.Work.{Work}
use Rattle.records.specs.Records.{first_phase}
use Rattle.rules.specs.Putting.{most_places}
use Rattle.rules.specs.Stepping.{Choice, Turn, MayChoose, rule_of, changes_guide}
use Rattle.engine.specs.Settling.{most_stations, idle, busy, after_work, AfterStep, settled}

-- Open. BAD COUNT: the places are not 2 to 1,024, or the stations not 1 to 16.
abbrev pub bad_count : ℕ → ℕ → Bool
bad_count places stations = nat_lt places 2 || (nat_lt most_places places || (nat_lt stations 1 || nat_lt most_stations stations))

-- What an open leaves.
pub record Opened (K : Type 0) : Type 0 where
  pub places : List (Place K)
  pub stations : List (Station K)
  pub meaning : Meaning

-- Station i holds the lock.
abbrev pub locked_by : ℕ → Option ℕ → Bool
locked_by i None = false
locked_by i (Some holder) = holder == i

-- There is a station i, among the first 16.
abbrev pub served : {K : Type 0} → List (Station K) → ℕ → Bool
served ss i = nat_lt i (length ss) && nat_lt i most_stations

-- What a look at station i finds: the station is there, and t is its work under way, if any; or there is no such station.
pub record FindsStation {K : Type 0} (ss : List (Station K)) (i : ℕ) (t : Option (Task K)) : Type 0 where
  pub within : i < length ss
  pub among : i < most_stations
  pub task : t ≡ (slice_index_or ss i idle).task

pub record FindsNone {K : Type 0} (ss : List (Station K)) (i : ℕ) (refusal : Refusal) : Type 0 where
  pub says : refusal ≡ NoStation
  pub missing : served ss i ≡ false

-- What a leave leaves.
pub record Left (K : Type 0) : Type 0 where
  pub places : List (Place K)
  pub stations : List (Station K)

-- What a step answers and leaves, with the guide's meaning.
pub record MadeStep (K : Type 0) : Type 0 where
  pub after : AfterStep K
  pub meaning : Meaning

module _ {K : Type 0} where
  -- Low or High, unmarked, unlocked and linked to the other both ways.
  abbrev pub end_place : ℕ → Place K → Place K
  end_place other p = record { key = p.key; next = other; prev = other; marked = false; lock = None; status = Chained }

  -- Another place, unlocked and free; the rest is as given.
  abbrev pub vacated : Place K → Place K
  vacated p = record { key = p.key; next = p.next; prev = p.prev; marked = p.marked; lock = None; status = Free }

  abbrev pub opened_places : List (Place K) → List (Place K)
  opened_places [] = []
  opened_places (only ∷ []) = only ∷ []
  opened_places (at_low ∷ (at_high ∷ others)) = end_place high at_low ∷ (end_place low at_high ∷ map vacated others)

  abbrev pub opened_stations : List (Station K) → List (Station K)
  opened_stations ss = map (λ _. idle) ss

  -- SMALL GUIDE is the guide's own. Opening clears the guide for the places and idles the stations.
  abbrev pub opening_by : Result Meaning GuideRefusal → List (Place K) → List (Station K) → Result (Opened K) Refusal
  opening_by (Ok m) ps ss = Ok (record { places = opened_places ps; stations = opened_stations ss; meaning = m })
  opening_by (Err refusal) ps ss = Err (Guide refusal)

  abbrev pub opening : ℕ → List (Place K) → List (Station K) → Result (Opened K) Refusal
  opening most ps ss = cond (bad_count (length ps) (length ss)) (Err BadCount) (opening_by (clearing most (length ps)) ps ss)

  -- The work under way at station i.
  abbrev pub task_at : List (Station K) → ℕ → Option (Task K)
  task_at ss i = cond (served ss i) (slice_index_or ss i idle).task None

  -- A call that needs station i. NO STATION: there is no such station.
  abbrev pub at_station : {A : Type 0} → List (Station K) → ℕ → (Option (Task K) → Result A Refusal) → Result A Refusal
  at_station ss i call = cond (served ss i) (call (slice_index_or ss i idle).task) (Err NoStation)

  -- A work just begun.
  abbrev pub begun : Work → K → Task K
  begun work key = record { work = work; key = key; phase = first_phase work; at = low; other = low; downs = 0; steps = 0; awaited = false }

  -- Begin. BUSY: a work is under way.
  abbrev pub begin_by : List (Station K) → ℕ → Work → K → Option (Task K) → Result (List (Station K)) Refusal
  begin_by ss i work key None = Ok (slice_set ss i (busy (begun work key)))
  begin_by ss i work key (Some t) = Err Busy

  abbrev pub beginning : List (Station K) → ℕ → Work → K → Result (List (Station K)) Refusal
  beginning ss i work key = at_station ss i (begin_by ss i work key)

  -- Station i holds the lock of some place.
  abbrev pub holds_lock : ℕ → List (Place K) → Bool
  holds_lock i [] = false
  holds_lock i (p ∷ ps) = locked_by i p.lock || holds_lock i ps

  -- Leave ends a work without answer. IDLE: nothing is under way. HOLDS LOCK: the station has a lock.
  abbrev pub leave_by : List (Place K) → List (Station K) → ℕ → Option (Task K) → Result (Left K) Refusal
  leave_by ps ss i None = Err Idle
  leave_by ps ss i (Some t) = cond (holds_lock i ps) (Err HoldsLock) (Ok (record { places = after_work i t ps; stations = slice_set ss i idle }))

  abbrev pub leaving : List (Place K) → List (Station K) → ℕ → Result (Left K) Refusal
  leaving ps ss i = at_station ss i (leave_by ps ss i)

  module _ (rank : K → K → Ordering) (choice : Choice) (ps : List (Place K)) (ss : List (Station K)) (m : Meaning) (i : ℕ) where
    -- Step. IDLE: nothing is under way. DAMAGED: the rule failed.
    abbrev pub step_after : Task K → Result (Turn K) Damage → Result (MadeStep K) Refusal
    step_after t (Ok turn) = Ok (record { after = settled i t ss turn.outcome turn.places; meaning = turn.meaning })
    step_after t (Err damage) = Err (Damaged damage)

    abbrev pub step_by : Option (Task K) → Result (MadeStep K) Refusal
    step_by None = Err Idle
    step_by (Some t) = step_after t (rule_of rank i ps m t t.phase choice)

    abbrev pub stepping : Result (MadeStep K) Refusal
    stepping = at_station ss i step_by

    -- The choices that the step may make.
    abbrev pub MayChooseBy : Option (Task K) → Type 0
    MayChooseBy None = Unit {0}
    MayChooseBy (Some t) = MayChoose rank i ps m t t.phase choice

  -- The step of this task may change the guide.
  abbrev pub may_change_guide : Option (Task K) → Bool
  may_change_guide None = false
  may_change_guide (Some t) = changes_guide t.phase

  -- A call that was told to do so did: it answered r and left places, stations and guide as told, or it was refused and
  -- left them as they were.
  abbrev pub Opens : {G : Type 0} → (G → Meaning) → Result (Opened K) Refusal → List (Place K) → List (Station K) → G
      → Result (Unit {0}) Refusal → List (Place K) → List (Station K) → G → Type 0
  Opens meaning (Ok told) ps ss g r ps' ss' g' = (r ≡ Ok tt) × (ps' ≡ told.places) × (ss' ≡ told.stations) × (meaning g' ≡ told.meaning)
  Opens meaning (Err refusal) ps ss g r ps' ss' g' = (r ≡ Err refusal) × (ps' ≡ ps) × (ss' ≡ ss) × (g' ≡ g)

  abbrev pub Begins : Result (List (Station K)) Refusal → List (Station K) → Result (Unit {0}) Refusal → List (Station K) → Type 0
  Begins (Ok told) ss r ss' = (r ≡ Ok tt) × (ss' ≡ told)
  Begins (Err refusal) ss r ss' = (r ≡ Err refusal) × (ss' ≡ ss)

  abbrev pub Leaves : Result (Left K) Refusal → List (Place K) → List (Station K) → Result (Unit {0}) Refusal → List (Place K) → List (Station K) → Type 0
  Leaves (Ok told) ps ss r ps' ss' = (r ≡ Ok tt) × (ps' ≡ told.places) × (ss' ≡ told.stations)
  Leaves (Err refusal) ps ss r ps' ss' = (r ≡ Err refusal) × (ps' ≡ ps) × (ss' ≡ ss)

  abbrev pub MakesStep : {G : Type 0} → (G → Meaning) → Result (MadeStep K) Refusal → List (Place K) → List (Station K) → G
      → Result (Stepped K) Refusal → List (Place K) → List (Station K) → G → Type 0
  MakesStep meaning (Ok told) ps ss g r ps' ss' g' =
      (r ≡ Ok told.after.answer) × (ps' ≡ told.after.places) × (ss' ≡ told.after.stations) × (meaning g' ≡ told.meaning)
  MakesStep meaning (Err refusal) ps ss g r ps' ss' g' = (r ≡ Err refusal) × (ps' ≡ ps) × (ss' ≡ ss) × (g' ≡ g)

-- A step of station i answered r and turned places, stations and guide into those after it: some choices that are
-- allowed give just that, and only ATTACH and DETACH touch the guide.
pub record Steps {K G : Type 0} (meaning : G → Meaning) (rank : K → K → Ordering) (i : ℕ) (ps : List (Place K)) (ss : List (Station K)) (g : G)
    (r : Result (Stepped K) Refusal) (ps' : List (Place K)) (ss' : List (Station K)) (g' : G) : Type 0 where
  pub choice : Choice
  pub may : MayChooseBy rank choice ps ss (meaning g) i (task_at ss i)
  pub does : MakesStep meaning (stepping rank choice ps ss (meaning g) i) ps ss g r ps' ss' g'
  pub keeps_guide : may_change_guide (task_at ss i) ≡ false → g' ≡ g
