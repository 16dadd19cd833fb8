-- The rules by which a work finds its place: ENTER, DOWN, CHECK, BACK, SEEK. Assumes nothing.
use Rattle.std.specs.Prelude.{ℕ, ◌+◌, cond, List, Ok, Result, nat_le}
use Rattle.std.specs.declared.cmp.Ordering.TheVariants.{Less, Equal, Greater}
use Rattle.std.specs.declared.cmp.Ordering.{Ordering}
use Rattle.guides.specs.declared.answer.Beside.{Beside}
use Rattle.guides.specs.declared.answer.Beside.TheVariants.{Absent, End, Stands}
use Rattle.guides.specs.declared.answer.Side.{Side}
use Rattle.guides.specs.declared.answer.Side.TheVariants.{Lower, Higher}
use Rattle.guides.specs.Meaning.{low}
use Rattle.guides.specs.Rules.{AnswersBeside}
use Rattle.records.specs.declared.answer.Answer.TheVariants.{Yes}
use Rattle.records.specs.declared.answer.Damage.{Damage}
use Rattle.records.specs.declared.outcome.Outcome.{Outcome}
use Rattle.records.specs.declared.outcome.Outcome.TheVariants.{Goes, Ends}
use Rattle.records.specs.declared.record.Phase.TheVariants.{Down, Check, Back, On, Seek, Lock}
use Rattle.records.specs.declared.record.Place.{Place}
use Rattle.records.specs.declared.record.Task.{Task}
use Rattle.records.specs.Records.{needing, standing_at, into, moved_to, with_downs}

-- DOWN is taken at most so many times since ENTER.
abbrev pub most_downs : ℕ
most_downs = 64

-- The side of a place on which k stands, where the place does not hold k.
abbrev pub side_of : Ordering → Side
side_of Less = Higher
side_of Equal = Lower
side_of Greater = Lower

module _ {K : Type 0} where
  -- ENTER: at becomes the guide's start. DOWN follows.
  abbrev pub enter : ℕ → Task K → Outcome K
  enter start t = Goes (into Down (with_downs 0 (moved_to start t)))

  -- A place answered becomes at, end keeps at, absent makes at Low.
  -- CHECK follows end, absent and the 64th DOWN since ENTER. Otherwise DOWN follows.
  abbrev pub lead : Beside → Task K → Outcome K
  lead Absent t = Goes (into Check (moved_to low t))
  lead End t = Goes (into Check t)
  lead (Stands p) t = cond (nat_le most_downs (t.downs + 1)) (Goes (into Check (moved_to p t))) (Goes (with_downs (t.downs + 1) (moved_to p t)))

  -- DOWN: if at has key k, CHECK follows. Otherwise beside is called for the side on which k stands.
  abbrev pub down_by : Ordering → Beside → Task K → Outcome K
  down_by Less beside t = lead beside t
  down_by Equal beside t = Goes (into Check t)
  down_by Greater beside t = lead beside t

  -- CHECK: a marked at becomes Low. BACK follows.
  abbrev pub check_by : Place K → Task K → Outcome K
  check_by at t = cond at.marked (Goes (into Back (moved_to low t))) (Goes (into Back t))

  -- BACK of a look: key k unmarked ends with yes; key k marked, or a key above k, moves to the predecessor;
  -- a key below k goes to ON.
  abbrev pub back_look_by : Ordering → Place K → Task K → Outcome K
  back_look_by Less at t = Goes (into On t)
  back_look_by Equal at t = cond at.marked (Goes (moved_to at.prev t)) (Ends Yes)
  back_look_by Greater at t = Goes (moved_to at.prev t)

  -- BACK of an after: a key above k moves to the predecessor, else ON follows.
  abbrev pub back_after_by : Ordering → Place K → Task K → Outcome K
  back_after_by Less at t = Goes (into On t)
  back_after_by Equal at t = Goes (into On t)
  back_after_by Greater at t = Goes (moved_to at.prev t)

  -- BACK of a put or a strike: k or above moves to the predecessor, else SEEK follows.
  abbrev pub back_change_by : Ordering → Place K → Task K → Outcome K
  back_change_by Less at t = Goes (into Seek t)
  back_change_by Equal at t = Goes (moved_to at.prev t)
  back_change_by Greater at t = Goes (moved_to at.prev t)

  -- SEEK: if the successor's key is below k, the successor becomes at. Otherwise LOCK follows.
  -- At is called below from here on.
  abbrev pub seek_by : Ordering → Place K → Task K → Outcome K
  seek_by Less at t = Goes (moved_to at.next t)
  seek_by Equal at t = Goes (into Lock t)
  seek_by Greater at t = Goes (into Lock t)

  -- The rules over the places, each with the places that it needs.
  module _ (rank : K → K → Ordering) (ps : List (Place K)) (t : Task K) where
    -- What the guide may answer to DOWN, by its sequence.
    abbrev pub MayStand : List ℕ → Beside → Type 0
    MayStand sequence beside = AnswersBeside sequence t.at (side_of (standing_at rank ps t.at t.key)) beside

    abbrev pub down : Beside → Result (Outcome K) Damage
    down beside = needing t.key ps t.at (λ at. Ok (down_by (standing_at rank ps t.at t.key) beside t))

    abbrev pub back_look : Result (Outcome K) Damage
    back_look = needing t.key ps t.at (λ at. Ok (back_look_by (standing_at rank ps t.at t.key) at t))

    abbrev pub back_after : Result (Outcome K) Damage
    back_after = needing t.key ps t.at (λ at. Ok (back_after_by (standing_at rank ps t.at t.key) at t))

    abbrev pub back_change : Result (Outcome K) Damage
    back_change = needing t.key ps t.at (λ at. Ok (back_change_by (standing_at rank ps t.at t.key) at t))

    abbrev pub seek : Result (Outcome K) Damage
    seek = needing t.key ps t.at (λ at. needing t.key ps at.next (λ next. Ok (seek_by (standing_at rank ps at.next t.key) at t)))

  abbrev pub check : List (Place K) → Task K → Result (Outcome K) Damage
  check ps t = needing t.key ps t.at (λ at. Ok (check_by at t))
