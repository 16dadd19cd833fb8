-- What each call does to a book as it is seen: nothing, a begin, an accepted step, or a leave. Assumes nothing.
use Rattle.std.proofs.Common.{◌≡◌, ℕ, ◌<◌, Bool, true, false, cond, eqb, ltb, List, length, get_or, set, is_some, Some, None, Ok, Err, Option, Result, Ordering, sym, refl, ap, ◌∙◌}
use Rattle.std.proofs.lemmas.Bool.{true≢false, and_right, and_parts, ltb-true}
use Rattle.guides.specs.Meaning.{Meaning}
use Rattle.records.specs.declared.answer.Refusal.{Refusal}
use Rattle.records.specs.declared.answer.Refusal.TheVariants.{NoStation, HoldsLock}
use Rattle.records.specs.declared.answer.Stepped.{Stepped}
use Rattle.records.specs.declared.record.Place.{Place}
use Rattle.records.specs.declared.record.Station.{Station}
use Rattle.records.specs.declared.record.Task.{Task}
use Rattle.records.specs.declared.record.Work.{Work}
use Rattle.engine.specs.Calling.{served, task_at, begun, begin_by, Begins, leave_by, Leaves, holds_lock}
use Rattle.engine.specs.Settling.{most_stations, idle, busy, after_work}
use Rattle.promises.specs.Books.{Book, work_at}
use Rattle.promises.specs.Runs.{Call, Reply, Does, is_step_of, begin, step, leave, mend, list, begun as has_begun, stepped, left, mended, listed}
use Rattle.promises.proofs.Sights.{sight, sight_of, task_put}
use Rattle.promises.proofs.Writes.{sees_task}
use Rattle.promises.proofs.Settles.{work_over, sees_work_over}
use Rattle.promises.proofs.Accepted.{Made, accepted_step_made, refused_step_keeps}

module _ {K : Type 0} where
  -- A book is its places, its stations and its guide.
  pub same_book : {b b' : Book K} → b'.places ≡ b.places → b'.stations ≡ b.stations → b'.guide ≡ b.guide → b' ≡ b
  same_book {b} {b'} p s g = λ i. record { places = p i; stations = s i; guide = g i }

  -- A station with a work under way is one of the sixteen.
  pub working_among : (ss : List (Station K)) (i : ℕ) → is_some (task_at ss i) ≡ true → i < most_stations
  working_among ss i h = go (served ss i) refl h
    where
      go : (b : Bool) → served ss i ≡ b → is_some (cond b (get_or ss i idle).task None) ≡ true → i < most_stations
      go true e h = ltb-true i most_stations (and_parts (ltb i (length ss)) (ltb i most_stations) e).1
      go false e h = absurd (true≢false (sym h))

  module _ (rank : K → K → Ordering) where
    -- What call c, answered a, made of book b.
    pub data Did (b : Book K) (c : Call K) (a : Reply K) (b' : Book K) : Type 0 where
      nothing : ((i : ℕ) → is_step_of rank i c a ≡ false) → b' ≡ b → Did b c a b'
      begins : (j : ℕ) (work : Work) (key : K) → c ≡ begin j work key → work_at b j ≡ None → b'.places ≡ b.places
          → sight_of b' ≡ task_put j (Some (begun work key)) (sight_of b) → Did b c a b'
      makes : (j : ℕ) (x : Stepped K) → c ≡ step j → a ≡ stepped (Ok x) → Made rank (sight_of b) j x (sight_of b') → Did b c a b'
      leaves : (j : ℕ) (t : Task K) → c ≡ leave j → work_at b j ≡ Some t → b'.places ≡ after_work j t b.places
          → sight_of b' ≡ work_over j t.awaited (sight_of b) → Did b c a b'

    module _ (b b' : Book K) where
      sees : (ps : List (Place K)) (ss : List (Station K)) (m : Meaning) → b'.places ≡ ps → b'.stations ≡ ss → b'.guide ≡ m → sight_of b' ≡ sight ps ss m
      sees ps ss m p s g = λ i. sight (p i) (s i) (g i)

      -- ---- begin
      module _ (j : ℕ) (work : Work) (key : K) (r : Result (Unit {0}) Refusal) (ps : b'.places ≡ b.places) (g : b'.guide ≡ b.guide) where
        begin_idle : served b.stations j ≡ true → (x : Option (Task K)) → task_at b.stations j ≡ x → Begins (begin_by b.stations j work key x) b.stations r b'.stations
            → Did b (begin j work key) (has_begun r) b'
        begin_idle there None e d =
            Did.begins j work key refl e ps (sees b.places (set b.stations j (busy (begun work key))) b.guide ps d.1 g ∙ sees_task b.places b.stations b.guide j there (busy (begun work key)))
        begin_idle there (Some t) e d = Did.nothing (λ i. refl) (same_book ps d.1 g)

        begin_at : (x : Bool) → served b.stations j ≡ x → Begins (cond x (begin_by b.stations j work key (get_or b.stations j idle).task) (Err NoStation)) b.stations r b'.stations
            → Did b (begin j work key) (has_begun r) b'
        begin_at true there d = begin_idle there (get_or b.stations j idle).task (ap (λ x. cond x (get_or b.stations j idle).task None) there) d
        begin_at false there d = Did.nothing (λ i. refl) (same_book ps d.1 g)

      -- ---- leave
      module _ (j : ℕ) (r : Result (Unit {0}) Refusal) (g : b'.guide ≡ b.guide) where
        leave_free : served b.stations j ≡ true → (t : Task K) → task_at b.stations j ≡ Some t → (x : Bool)
            → Leaves (cond x (Err HoldsLock) (Ok (record { places = after_work j t b.places; stations = set b.stations j idle }))) b.places b.stations r b'.places b'.stations
            → Did b (leave j) (left r) b'
        leave_free there t e true d = Did.nothing (λ i. refl) (same_book d.1 d.2 g)
        leave_free there t e false d =
            Did.leaves j t refl e d.1
            (sees (after_work j t b.places) (set b.stations j idle) b.guide d.1 d.2 g ∙ sees_work_over b.places b.stations b.guide j there t)

        leave_busy : served b.stations j ≡ true → (x : Option (Task K)) → task_at b.stations j ≡ x
            → Leaves (leave_by b.places b.stations j x) b.places b.stations r b'.places b'.stations → Did b (leave j) (left r) b'
        leave_busy there None e d = Did.nothing (λ i. refl) (same_book d.1 d.2 g)
        leave_busy there (Some t) e d = leave_free there t e (holds_lock j b.places) d

        leave_at : (x : Bool) → served b.stations j ≡ x
            → Leaves (cond x (leave_by b.places b.stations j (get_or b.stations j idle).task) (Err NoStation)) b.places b.stations r b'.places b'.stations
            → Did b (leave j) (left r) b'
        leave_at true there d = leave_busy there (get_or b.stations j idle).task (ap (λ x. cond x (get_or b.stations j idle).task None) there) d
        leave_at false there d = Did.nothing (λ i. refl) (same_book d.1 d.2 g)

    pub call_did : (b : Book K) (c : Call K) (a : Reply K) (b' : Book K) → Does rank b c a b' → Did b c a b'
    call_did b (begin i work key) (has_begun r) b' d = begin_at b b' i work key r d.1 d.2 (served b.stations i) refl d.0
    call_did b (begin i work key) (stepped r) b' d = absurd d
    call_did b (begin i work key) (left r) b' d = absurd d
    call_did b (begin i work key) (mended m) b' d = absurd d
    call_did b (begin i work key) (listed r after) b' d = absurd d
    call_did b (step i) (has_begun r) b' d = absurd d
    call_did b (step i) (stepped (Ok x)) b' d = Did.makes i x refl refl (accepted_step_made rank i b.places b.stations b.guide x b'.places b'.stations b'.guide d)
    call_did b (step i) (stepped (Err e)) b' d =
        let kept = refused_step_keeps rank i b.places b.stations b.guide e b'.places b'.stations b'.guide d in
        Did.nothing (λ j. and_right (eqb i j) false refl) (same_book kept.0 kept.1 kept.2)
    call_did b (step i) (left r) b' d = absurd d
    call_did b (step i) (mended m) b' d = absurd d
    call_did b (step i) (listed r after) b' d = absurd d
    call_did b (leave i) (has_begun r) b' d = absurd d
    call_did b (leave i) (stepped r) b' d = absurd d
    call_did b (leave i) (left r) b' d = leave_at b b' i r d.1 (served b.stations i) refl d.0
    call_did b (leave i) (mended m) b' d = absurd d
    call_did b (leave i) (listed r after) b' d = absurd d
    call_did b mend (has_begun r) b' d = absurd d
    call_did b mend (stepped r) b' d = absurd d
    call_did b mend (left r) b' d = absurd d
    call_did b mend (mended m) b' d = Did.nothing (λ i. refl) d
    call_did b mend (listed r after) b' d = absurd d
    call_did b (list given) (has_begun r) b' d = absurd d
    call_did b (list given) (stepped r) b' d = absurd d
    call_did b (list given) (left r) b' d = absurd d
    call_did b (list given) (mended m) b' d = absurd d
    call_did b (list given) (listed r after) b' d = Did.nothing (λ i. refl) d.1
