-- What it means to run a station's work: steps until an end, a wait, a refusal or 5,000 steps. Assumes nothing.
use Rattle.std.specs.Prelude.{ℕ, ◌+◌, ◌<◌, List, Ok, Result, ◌≢◌}
use Rattle.std.specs.declared.cmp.Ordering.{Ordering}
use Rattle.guides.specs.Meaning.{Meaning}
use Rattle.records.specs.declared.answer.Refusal.{Refusal}
use Rattle.records.specs.declared.answer.Stepped.{Stepped}
use Rattle.records.specs.declared.answer.Stepped.TheVariants.{Moved}
use Rattle.records.specs.declared.record.Place.{Place}
use Rattle.records.specs.declared.record.Station.{Station}
use Rattle.engine.specs.Calling.{Steps}

-- A run takes at most so many steps.
abbrev pub most_steps : ℕ
most_steps = 5000

module _ {K G : Type 0} (meaning : G → Meaning) (rank : K → K → Ordering) (i : ℕ) (ps : List (Place K)) (ss : List (Station K)) (g : G) where
  -- n steps of station i, all of which moved, lead from the records given to these.
  pub data Moves : ℕ → List (Place K) → List (Station K) → G → Type 0 where
    none : Moves 0 ps ss g
    more : {n : ℕ} {ps' : List (Place K)} {ss' : List (Station K)} {g' : G} (ps'' : List (Place K)) (ss'' : List (Station K)) (g'' : G)
        → Moves n ps' ss' g' → Steps meaning rank i ps' ss' g' (Ok Moved) ps'' ss'' g'' → Moves (n + 1) ps'' ss'' g''

  -- A run stops at the first step that does not just move, which gives its answer, or after the most steps with moved.
  pub data Runs : Result (Stepped K) Refusal → List (Place K) → List (Station K) → G → Type 0 where
    stops : {n : ℕ} {ps' : List (Place K)} {ss' : List (Station K)} {g' : G} (r : Result (Stepped K) Refusal) (ps'' : List (Place K)) (ss'' : List (Station K)) (g'' : G)
        → n < most_steps → Moves n ps' ss' g' → Steps meaning rank i ps' ss' g' r ps'' ss'' g'' → (r ≢ Ok Moved) → Runs r ps'' ss'' g''
    tires : {ps' : List (Place K)} {ss' : List (Station K)} {g' : G} → Moves most_steps ps' ss' g' → Runs (Ok Moved) ps' ss' g'
