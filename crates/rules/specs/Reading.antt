-- The rules by which a look, an after and a first read the chain: ON and FIRST. Assumes nothing.
use Rattle.std.specs.Prelude.{cond, List, Ok, Result, ◌==◌}
use Rattle.std.specs.declared.cmp.Ordering.TheVariants.{Less, Equal, Greater}
use Rattle.std.specs.declared.cmp.Ordering.{Ordering}
use Rattle.guides.specs.Meaning.{low, high}
use Rattle.records.specs.declared.answer.Answer.TheVariants.{Yes, No, Found, Missing}
use Rattle.records.specs.declared.answer.Damage.{Damage}
use Rattle.records.specs.declared.outcome.Outcome.{Outcome}
use Rattle.records.specs.declared.outcome.Outcome.TheVariants.{Goes, Ends}
use Rattle.records.specs.declared.record.Phase.TheVariants.{Enter, First, FirstNext}
use Rattle.records.specs.declared.record.Place.{Place}
use Rattle.records.specs.declared.record.Task.{Task}
use Rattle.records.specs.Records.{needing, standing_at, into, moved_to}

module _ {K : Type 0} where
  -- ON of a look: a key below k moves to the successor; above k ends with no; key k ends with yes if unmarked, else no.
  abbrev pub on_look_by : Ordering → Place K → Task K → Outcome K
  on_look_by Less at t = Goes (moved_to at.next t)
  on_look_by Equal at t = cond at.marked (Ends No) (Ends Yes)
  on_look_by Greater at t = Ends No

  -- ON of an after: k or below moves to the successor; High ends with none; another unmarked place ends with its key;
  -- a marked one goes back to ENTER.
  abbrev pub on_after_by : Ordering → Place K → Task K → Outcome K
  on_after_by Less at t = Goes (moved_to at.next t)
  on_after_by Equal at t = Goes (moved_to at.next t)
  on_after_by Greater at t = cond (t.at == high) (Ends Missing) (cond at.marked (Goes (into Enter t)) (Ends (Found at.key)))

  -- FIRST: Low's successor becomes at; High ends with none.
  abbrev pub first_by : Place K → Task K → Outcome K
  first_by at_low t = cond (at_low.next == high) (Ends Missing) (Goes (into FirstNext (moved_to at_low.next t)))

  -- The next step: an unmarked at ends with its key, else FIRST follows.
  abbrev pub first_next_by : Place K → Task K → Outcome K
  first_next_by at t = cond at.marked (Goes (into First t)) (Ends (Found at.key))

  -- The rules over the places, each with the places that it needs.
  module _ (rank : K → K → Ordering) (ps : List (Place K)) (t : Task K) where
    abbrev pub on_look : Result (Outcome K) Damage
    on_look = needing t.key ps t.at (λ at. Ok (on_look_by (standing_at rank ps t.at t.key) at t))

    abbrev pub on_after : Result (Outcome K) Damage
    on_after = needing t.key ps t.at (λ at. Ok (on_after_by (standing_at rank ps t.at t.key) at t))

  module _ (ps : List (Place K)) (t : Task K) where
    abbrev pub first : Result (Outcome K) Damage
    first = needing t.key ps low (λ at_low. Ok (first_by at_low t))

    abbrev pub first_next : Result (Outcome K) Damage
    first_next = needing t.key ps t.at (λ at. Ok (first_next_by at t))
