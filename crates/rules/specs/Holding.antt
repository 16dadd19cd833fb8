-- The rules by which a put or a strike takes below's lock and sees whether below is still right: LOCK, VALID.
-- Assumes nothing.
use Rattle.std.specs.Prelude.{ℕ, Bool, true, false, cond, List, Some, Ok, Result}
use Rattle.std.specs.declared.cmp.Ordering.TheVariants.{Less, Equal, Greater}
use Rattle.std.specs.declared.cmp.Ordering.{Ordering}
use Rattle.records.specs.declared.answer.Answer.TheVariants.{No}
use Rattle.records.specs.declared.answer.Damage.{Damage}
use Rattle.records.specs.declared.outcome.Outcome.TheVariants.{Goes, Waits, Ends}
use Rattle.records.specs.declared.record.Phase.{Phase}
use Rattle.records.specs.declared.record.Phase.TheVariants.{Enter, Valid, Take, TakeVictim}
use Rattle.records.specs.declared.record.Place.{Place}
use Rattle.records.specs.declared.record.Task.{Task}
use Rattle.records.specs.declared.record.Work.{Work}
use Rattle.records.specs.declared.record.Work.TheVariants.{Put, Strike, Look, First, After}
use Rattle.records.specs.Records.{Ruled, needing, standing_at, written, with_lock, released, into, held_by_other, start_over}

module _ {K : Type 0} (ps : List (Place K)) (t : Task K) where
  -- LOCK: if another station holds below's lock, the step waits. Otherwise it takes the lock. VALID follows.
  abbrev pub lock_by : ℕ → Place K → Ruled K
  lock_by me below =
      cond (held_by_other me below.lock)
      (record { outcome = Waits; places = ps })
      (record { outcome = Goes (into Valid t); places = written t.key t.at (with_lock (Some me)) ps })

  -- The three ways on from VALID: the lock is released and ENTER follows; it is released and the work ends with no;
  -- it is kept and the work goes on.
  abbrev pub enters_again : Ruled K
  enters_again = record { outcome = Goes (into Enter t); places = released t.key t.at ps }

  abbrev pub says_no : Ruled K
  says_no = record { outcome = Ends No; places = released t.key t.at ps }

  abbrev pub goes_on : Phase → Ruled K
  goes_on phase = record { outcome = Goes (into phase t); places = ps }

  -- VALID: if below is marked or its successor's key is under k, the lock is released and ENTER follows.
  -- Put on a successor with key k, and strike on one above k, release the lock and end with no.
  -- Otherwise put goes to TAKE, and strike goes on to take the successor's lock.
  abbrev pub valid_by : Work → Bool → Ordering → Ruled K
  valid_by Put true o = enters_again
  valid_by Put false Less = enters_again
  valid_by Put false Equal = says_no
  valid_by Put false Greater = goes_on Take
  valid_by Strike true o = enters_again
  valid_by Strike false Less = enters_again
  valid_by Strike false Equal = goes_on TakeVictim
  valid_by Strike false Greater = says_no
  valid_by Look marked o = record { outcome = start_over t; places = ps }
  valid_by First marked o = record { outcome = start_over t; places = ps }
  valid_by After marked o = record { outcome = start_over t; places = ps }

  -- The rules over the places, each with the places that it needs.
  abbrev pub lock : ℕ → Result (Ruled K) Damage
  lock me = needing t.key ps t.at (λ below. Ok (lock_by me below))

  abbrev pub valid : (K → K → Ordering) → Result (Ruled K) Damage
  valid rank = needing t.key ps t.at (λ below. needing t.key ps below.next (λ next. Ok (valid_by t.work below.marked (standing_at rank ps below.next t.key))))
