-- That every book that a run comes to has the invariant. Assumes the laws.
use Rattle.std.proofs.Common.{◌≡◌, ℕ, ◌<◌, Bool, true, false, cond, ltb, List, length, get_or, is_some, None, Ok, Err, Result, Ordering, sym, refl, subst}
use Rattle.std.proofs.lemmas.Bool.{and_parts, ltb-true}
use Rattle.promises.proofs.Laws.{Laws}
use Rattle.guides.specs.Meaning.{Meaning}
use Rattle.records.specs.declared.answer.Refusal.{Refusal}
use Rattle.records.specs.declared.answer.Stepped.{Stepped}
use Rattle.records.specs.declared.record.Place.{Place}
use Rattle.records.specs.declared.record.Station.{Station}
use Rattle.engine.specs.Calling.{Steps, served, task_at}
use Rattle.engine.specs.Settling.{most_stations, idle}
use Rattle.promises.specs.Books.{Book}
use Rattle.promises.specs.Runs.{Call, begin, step, leave, mend, list, Reply, begun, stepped, left, mended, listed, Does, Run, opened, next}
use Rattle.promises.proofs.Sights.{sight, sight_of}
use Rattle.promises.proofs.Accepted.{accepted_step_made, refused_step_keeps}
use Rattle.promises.proofs.Invariant.{Inv}
use Rattle.promises.proofs.Sees.{never}
use Rattle.promises.proofs.Callers.{begin_keeps, leave_keeps}
use Rattle.promises.proofs.Keeping.{step_keeps}
use Rattle.promises.proofs.Openings.{open_has}

-- A station at work is one of the first 16.
pub stationed : {K : Type 0} (ss : List (Station K)) (j : ℕ) → is_some (task_at ss j) ≡ true → j < most_stations
stationed ss j h = go (served ss j) refl h
  where
    go : (b : Bool) → served ss j ≡ b → is_some (cond b (get_or ss j idle).task None) ≡ true → j < most_stations
    go true e h = ltb-true j most_stations (and_parts (ltb j (length ss)) (ltb j most_stations) e).1
    go false e h = never (sym h)

module _ {K : Type 0} (rank : K → K → Ordering) (laws : Laws rank) where
  -- The same book, field by field.
  same_book : (ps ps' : List (Place K)) (ss ss' : List (Station K)) (m m' : Meaning) → ps' ≡ ps → ss' ≡ ss → m' ≡ m → Inv rank (sight ps ss m) → Inv rank (sight ps' ss' m')
  same_book ps ps' ss ss' m m' p q r inv =
      subst (λ x. Inv rank (sight x ss' m')) (sym p) (subst (λ x. Inv rank (sight ps x m')) (sym q) (subst (λ x. Inv rank (sight ps ss x)) (sym r) inv))

  steps_keep : (ps : List (Place K)) (ss : List (Station K)) (m : Meaning) (i : ℕ) (r : Result (Stepped K) Refusal) (ps' : List (Place K)) (ss' : List (Station K)) (m' : Meaning)
      → Inv rank (sight ps ss m) → Steps (λ x. x) rank i ps ss m r ps' ss' m' → Inv rank (sight ps' ss' m')
  steps_keep ps ss m i (Ok a) ps' ss' m' inv st =
      step_keeps rank laws (sight ps ss m) inv (stationed ss) i a (sight ps' ss' m') (accepted_step_made rank i ps ss m a ps' ss' m' st)
  steps_keep ps ss m i (Err e) ps' ss' m' inv st =
      let same = refused_step_keeps rank i ps ss m e ps' ss' m' st in same_book ps ps' ss ss' m m' same.0 same.1 same.2 inv

  call_keeps : (b : Book K) (c : Call K) (a : Reply K) (b' : Book K) → Inv rank (sight_of b) → Does rank b c a b' → Inv rank (sight_of b')
  call_keeps b (begin i work key) (begun r) b' inv d =
      subst (λ x. Inv rank (sight x b'.stations b'.guide)) (sym d.1) (subst (λ x. Inv rank (sight b.places b'.stations x)) (sym d.2)
      (begin_keeps rank b.places b.stations b.guide inv i work key r b'.stations d.0))
  call_keeps b (begin i work key) (stepped r) b' inv d = elim d [ ]
  call_keeps b (begin i work key) (left r) b' inv d = elim d [ ]
  call_keeps b (begin i work key) (mended m) b' inv d = elim d [ ]
  call_keeps b (begin i work key) (listed r after) b' inv d = elim d [ ]
  call_keeps b (step i) (begun r) b' inv d = elim d [ ]
  call_keeps b (step i) (stepped r) b' inv d = steps_keep b.places b.stations b.guide i r b'.places b'.stations b'.guide inv d
  call_keeps b (step i) (left r) b' inv d = elim d [ ]
  call_keeps b (step i) (mended m) b' inv d = elim d [ ]
  call_keeps b (step i) (listed r after) b' inv d = elim d [ ]
  call_keeps b (leave i) (begun r) b' inv d = elim d [ ]
  call_keeps b (leave i) (stepped r) b' inv d = elim d [ ]
  call_keeps b (leave i) (left r) b' inv d =
      subst (λ x. Inv rank (sight b'.places b'.stations x)) (sym d.1)
      (leave_keeps rank b.places b.stations b.guide inv i r b'.places b'.stations d.0)
  call_keeps b (leave i) (mended m) b' inv d = elim d [ ]
  call_keeps b (leave i) (listed r after) b' inv d = elim d [ ]
  call_keeps b mend (begun r) b' inv d = elim d [ ]
  call_keeps b mend (stepped r) b' inv d = elim d [ ]
  call_keeps b mend (left r) b' inv d = elim d [ ]
  call_keeps b mend (mended m) b' inv d = subst (λ x. Inv rank (sight_of x)) (sym d) inv
  call_keeps b mend (listed r after) b' inv d = elim d [ ]
  call_keeps b (list given) (begun r) b' inv d = elim d [ ]
  call_keeps b (list given) (stepped r) b' inv d = elim d [ ]
  call_keeps b (list given) (left r) b' inv d = elim d [ ]
  call_keeps b (list given) (mended m) b' inv d = elim d [ ]
  call_keeps b (list given) (listed r after) b' inv d = subst (λ x. Inv rank (sight_of x)) (sym d.1) inv

  pub run_has : {b : Book K} → Run rank b → Inv rank (sight_of b)
  run_has (opened most ps ss o e) = open_has rank most ss o ps e
  run_has (next {b} c a b' r d) = call_keeps b c a b' (run_has r) d
