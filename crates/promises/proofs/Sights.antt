-- A book seen by what each place and each station reads, as functions, and what a write of one field makes of it.
-- Assumes nothing.
use Rattle.std.proofs.Common.{◌≡◌, ℕ, zero, suc, ◌<◌, Bool, true, false, cond, eqb, ◌≢◌, List, [], ◌∷◌, length, set, Some, None, Option, sym, refl, ap, ◌∙◌, arith}
use Rattle.std.proofs.lemmas.Option.{slice_get-get_or}
use Rattle.std.proofs.lemmas.Bool.{eqb-true}
use Rattle.std.proofs.lemmas.Bool.Decides.{nat_tests}
use Rattle.std.specs.List.{slice_get}
use Rattle.guides.specs.Meaning.{Meaning, low, high}
use Rattle.records.specs.declared.record.Place.{Place}
use Rattle.records.specs.declared.record.Station.{Station}
use Rattle.records.specs.declared.record.Status.{Status}
use Rattle.records.specs.declared.record.Status.TheVariants.{Free}
use Rattle.records.specs.declared.record.Task.{Task}
use Rattle.records.specs.Records.{place, blank}
use Rattle.engine.specs.Calling.{task_at}
use Rattle.engine.specs.Contents.{field_of}
use Rattle.promises.specs.Books.{Book}
use Rattle.promises.proofs.Laws.{Bound, bottom, exact, top}

-- What each place reads and what each station has under way. A place that is not there reads Low, unmarked, unlocked, free.
pub record Sight (K : Type 0) : Type 0 where
  pub size : ℕ
  pub spot : ℕ → Bound K
  pub next : ℕ → ℕ
  pub prev : ℕ → ℕ
  pub marked : ℕ → Bool
  pub lock : ℕ → Option ℕ
  pub status : ℕ → Status
  pub task : ℕ → Option (Task K)
  pub guide : Meaning

-- A function with another value at one number.
abbrev pub at_with : {A : Type 0} → (ℕ → A) → ℕ → A → ℕ → A
at_with f p a q = cond (eqb p q) a (f q)

module _ {K : Type 0} where
  abbrev pub own_spot : ℕ → Bound K → Bound K
  own_spot p own = cond (eqb p low) bottom (cond (eqb p high) top own)

  abbrev pub sight : List (Place K) → List (Station K) → Meaning → Sight K
  sight ps ss m = record {
    size = length ps;
    spot = λ p. own_spot p (field_of top (λ x. exact x.key) (slice_get ps p));
    next = λ p. field_of low (λ x. x.next) (slice_get ps p);
    prev = λ p. field_of low (λ x. x.prev) (slice_get ps p);
    marked = λ p. field_of false (λ x. x.marked) (slice_get ps p);
    lock = λ p. field_of None (λ x. x.lock) (slice_get ps p);
    status = λ p. field_of Free (λ x. x.status) (slice_get ps p);
    task = task_at ss;
    guide = m;
  }

  abbrev pub sight_of : Book K → Sight K
  sight_of b = sight b.places b.stations b.guide

  -- A sight with one field changed at one place or station.
  abbrev pub next_put : ℕ → ℕ → Sight K → Sight K
  next_put p n s = record { size = s.size; spot = s.spot; next = at_with s.next p n; prev = s.prev; marked = s.marked; lock = s.lock; status = s.status; task = s.task; guide = s.guide }

  abbrev pub prev_put : ℕ → ℕ → Sight K → Sight K
  prev_put p n s = record { size = s.size; spot = s.spot; next = s.next; prev = at_with s.prev p n; marked = s.marked; lock = s.lock; status = s.status; task = s.task; guide = s.guide }

  abbrev pub mark_put : ℕ → Sight K → Sight K
  mark_put p s = record { size = s.size; spot = s.spot; next = s.next; prev = s.prev; marked = at_with s.marked p true; lock = s.lock; status = s.status; task = s.task; guide = s.guide }

  abbrev pub lock_put : ℕ → Option ℕ → Sight K → Sight K
  lock_put p l s = record { size = s.size; spot = s.spot; next = s.next; prev = s.prev; marked = s.marked; lock = at_with s.lock p l; status = s.status; task = s.task; guide = s.guide }

  abbrev pub status_put : ℕ → Status → Sight K → Sight K
  status_put p x s = record { size = s.size; spot = s.spot; next = s.next; prev = s.prev; marked = s.marked; lock = s.lock; status = at_with s.status p x; task = s.task; guide = s.guide }

  abbrev pub task_put : ℕ → Option (Task K) → Sight K → Sight K
  task_put i t s = record { size = s.size; spot = s.spot; next = s.next; prev = s.prev; marked = s.marked; lock = s.lock; status = s.status; task = at_with s.task i t; guide = s.guide }

  abbrev pub guide_put : Meaning → Sight K → Sight K
  guide_put m s = record { size = s.size; spot = s.spot; next = s.next; prev = s.prev; marked = s.marked; lock = s.lock; status = s.status; task = s.task; guide = m }

  -- A place filled anew.
  abbrev pub filled : ℕ → Place K → Sight K → Sight K
  filled p x s = record {
    size = s.size;
    spot = at_with s.spot p (own_spot p (exact x.key));
    next = at_with s.next p x.next;
    prev = at_with s.prev p x.prev;
    marked = at_with s.marked p x.marked;
    lock = at_with s.lock p x.lock;
    status = at_with s.status p x.status;
    task = s.task;
    guide = s.guide;
  }

-- ---- reading after a write

pub nth_set_same : {X : Type 0} (xs : List X) (i : ℕ) (x : X) → i < length xs → slice_get (set xs i x) i ≡ Some x
nth_set_same [] i x h = absurd (omega arith)
nth_set_same (y ∷ ys) zero x h = refl
nth_set_same (y ∷ ys) (suc i) x h = nth_set_same ys i x (omega arith)

pub nth_set_other : {X : Type 0} (xs : List X) (i j : ℕ) (x : X) → i ≢ j → slice_get (set xs i x) j ≡ slice_get xs j
nth_set_other [] i j x h = refl
nth_set_other (y ∷ ys) zero zero x h = absurd (h refl)
nth_set_other (y ∷ ys) zero (suc j) x h = refl
nth_set_other (y ∷ ys) (suc i) zero x h = refl
nth_set_other (y ∷ ys) (suc i) (suc j) x h = nth_set_other ys i j x (λ e. h (ap suc e))

pub nth_set : {X : Type 0} (xs : List X) (i j : ℕ) (x : X) → i < length xs → slice_get (set xs i x) j ≡ cond (eqb i j) (Some x) (slice_get xs j)
nth_set xs i j x h = let same = nth_set_same xs i x h in let other = nth_set_other xs i j x in grind (arith, nat_tests)

module _ {K : Type 0} {A : Type 0} (other : A) (field : Place K → A) where
  field_cond : (b : Bool) (x : Place K) (o : Option (Place K)) → field_of other field (cond b (Some x) o) ≡ cond b (field x) (field_of other field o)
  field_cond true x o = refl
  field_cond false x o = refl

  pub field_set : (ps : List (Place K)) (p q : ℕ) (x : Place K) → p < length ps
      → field_of other field (slice_get (set ps p x) q) ≡ at_with (λ r. field_of other field (slice_get ps r)) p (field x) q
  field_set ps p q x h = ap (field_of other field) (nth_set ps p q x h) ∙ field_cond (eqb p q) x (slice_get ps q)

  pub field_read : (k : K) (ps : List (Place K)) (p : ℕ) → p < length ps → field (place k ps p) ≡ field_of other field (slice_get ps p)
  field_read k ps p h = sym (ap (field_of other field) (slice_get-get_or ps p (blank k) h))

  -- A field that a write leaves alone.
  pub field_kept : (k : K) (ps : List (Place K)) (p q : ℕ) (x : Place K) → p < length ps → field x ≡ field (place k ps p)
      → field_of other field (slice_get (set ps p x) q) ≡ field_of other field (slice_get ps q)
  field_kept k ps p q x h e =
      field_set ps p q x h ∙ ap (λ a. at_with (λ r. field_of other field (slice_get ps r)) p a q) (e ∙ field_read k ps p h) ∙ same
    where
      same : at_with (λ r. field_of other field (slice_get ps r)) p (field_of other field (slice_get ps p)) q ≡ field_of other field (slice_get ps q)
      same = go (eqb p q) refl
        where
          go : (b : Bool) → eqb p q ≡ b → cond b (field_of other field (slice_get ps p)) (field_of other field (slice_get ps q)) ≡ field_of other field (slice_get ps q)
          go true e = ap (λ r. field_of other field (slice_get ps r)) (eqb-true p q e)
          go false e = refl
