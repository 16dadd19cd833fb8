-- The rules by which a strike takes its key away. Assumes nothing.
use Rattle.std.specs.Prelude.{ℕ, cond, List, Some, Ok, Result}
use Rattle.records.specs.declared.answer.Damage.{Damage}
use Rattle.records.specs.declared.outcome.Outcome.TheVariants.{Goes, Waits, Retires}
use Rattle.records.specs.declared.record.Phase.TheVariants.{Mark, UnlinkBack, Unlink, Detach, StrikeEnd}
use Rattle.records.specs.declared.record.Place.{Place}
use Rattle.records.specs.declared.record.Status.TheVariants.{InHand}
use Rattle.records.specs.declared.record.Task.{Task}
use Rattle.records.specs.Records.{Ruled, needing, written, with_next, with_prev, with_mark, with_lock, with_status, released, into, with_other, held_by_other}

module _ {K : Type 0} (ps : List (Place K)) (t : Task K) where
  -- Take the lock of below's successor, the victim, or wait as LOCK does.
  abbrev pub take_victim_by : ℕ → Place K → Place K → Ruled K
  take_victim_by me below victim =
      cond (held_by_other me victim.lock)
      (record { outcome = Waits; places = ps })
      (record { outcome = Goes (into Mark (with_other below.next t)); places = written t.key below.next (with_lock (Some me)) ps })

  abbrev pub take_victim : ℕ → Result (Ruled K) Damage
  take_victim me = needing t.key ps t.at (λ below. needing t.key ps below.next (λ victim. Ok (take_victim_by me below victim)))

  -- Mark it.
  abbrev pub mark : Result (Ruled K) Damage
  mark = needing t.key ps t.other (λ victim. Ok (record {
    outcome = Goes (into UnlinkBack t);
    places = written t.key t.other with_mark ps;
  }))

  -- Its successor's predecessor becomes below.
  abbrev pub unlink_back : Result (Ruled K) Damage
  unlink_back = needing t.key ps t.other (λ victim. needing t.key ps victim.next (λ next. Ok (record {
    outcome = Goes (into Unlink t);
    places = written t.key victim.next (with_prev t.at) ps;
  })))

  -- Below's successor becomes its successor; it is in hand from here on.
  abbrev pub unlink : Result (Ruled K) Damage
  unlink = needing t.key ps t.at (λ below. needing t.key ps t.other (λ victim. Ok (record {
    outcome = Goes (into Detach t);
    places = written t.key t.other (with_status InHand) (written t.key t.at (with_next victim.next) ps);
  })))

  -- Release it.
  abbrev pub release_victim : Result (Ruled K) Damage
  release_victim = needing t.key ps t.other (λ victim. Ok (record {
    outcome = Goes (into StrikeEnd t);
    places = released t.key t.other ps;
  }))

  -- Release below and end with yes; the place is retired.
  abbrev pub strike_end : Result (Ruled K) Damage
  strike_end = needing t.key ps t.at (λ below. needing t.key ps t.other (λ victim. Ok (record {
    outcome = Retires t.other;
    places = released t.key t.at ps;
  })))
