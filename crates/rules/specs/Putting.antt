-- The rules by which a put adds its key: TAKE, LINK and what follows. Assumes nothing.
use Rattle.std.specs.Prelude.{◌≡◌, ℕ, ◌<◌, ◌≤◌, Bool, true, false, List, length, Some, None, Ok, Option, Result, slice_set}
use Rattle.records.specs.declared.answer.Answer.TheVariants.{Yes, NoRoom}
use Rattle.records.specs.declared.answer.Damage.{Damage}
use Rattle.records.specs.declared.outcome.Outcome.TheVariants.{Goes, Ends}
use Rattle.records.specs.declared.record.Phase.TheVariants.{Link, LinkBack, Attach, PutEnd}
use Rattle.records.specs.declared.record.Place.{Place}
use Rattle.records.specs.declared.record.Status.{Status}
use Rattle.records.specs.declared.record.Status.TheVariants.{Free, InHand, Chained, Retired}
use Rattle.records.specs.declared.record.Task.{Task}
use Rattle.records.specs.Records.{Ruled, place, needing, written, with_next, with_prev, with_status, released, into, with_other}

-- The index has at most so many places.
abbrev pub most_places : ℕ
most_places = 1024

abbrev pub is_free : Status → Bool
is_free Free = true
is_free InHand = false
is_free Chained = false
is_free (Retired waits) = false

module _ {K : Type 0} (ps : List (Place K)) where
  -- Place p, from 2 on, is free.
  pub record FreePlace (k : K) (p : ℕ) : Type 0 where
    pub counts : 2 ≤ p
    pub within : p < length ps
    pub served : p < most_places
    pub free : is_free (place k ps p).status ≡ true

  -- TAKE takes some free place, or none where none is free.
  abbrev pub MayTake : K → Option ℕ → Type 0
  MayTake k None = (p : ℕ) → FreePlace k p → ⊥
  MayTake k (Some p) = FreePlace k p

  module _ (t : Task K) where
    -- TAKE fills in the key and both links, unmarked, locked by this station. With no place free it releases below's
    -- lock and ends with NO ROOM.
    abbrev pub take_by : ℕ → Option ℕ → Place K → Ruled K
    take_by me None below = record { outcome = Ends NoRoom; places = released t.key t.at ps }
    take_by me (Some p) below = record {
      outcome = Goes (into Link (with_other p t));
      places = slice_set ps p (record { key = t.key; next = below.next; prev = t.at; marked = false; lock = Some me; status = InHand });
    }

    abbrev pub take : ℕ → Option ℕ → Result (Ruled K) Damage
    take me free = needing t.key ps t.at (λ below. Ok (take_by me free below))

    -- LINK: below's successor becomes the new place, which is chained from here on.
    abbrev pub link : Result (Ruled K) Damage
    link = needing t.key ps t.at (λ below. needing t.key ps t.other (λ new. Ok (record {
      outcome = Goes (into LinkBack t);
      places = written t.key t.other (with_status Chained) (written t.key t.at (with_next t.other) ps);
    })))

    -- The old successor's predecessor becomes the new place.
    abbrev pub link_back : Result (Ruled K) Damage
    link_back = needing t.key ps t.other (λ new. needing t.key ps new.next (λ next. Ok (record {
      outcome = Goes (into Attach t);
      places = written t.key new.next (with_prev t.other) ps;
    })))

    -- Release the new place.
    abbrev pub release_new : Result (Ruled K) Damage
    release_new = needing t.key ps t.other (λ new. Ok (record {
      outcome = Goes (into PutEnd t);
      places = released t.key t.other ps;
    }))

    -- Release below and end with yes.
    abbrev pub put_end : Result (Ruled K) Damage
    put_end = needing t.key ps t.at (λ below. Ok (record { outcome = Ends Yes; places = released t.key t.at ps }))
