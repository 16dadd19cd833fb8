-- That a write of one field of one place, and of one station, is seen as just that. Assumes nothing.
use Rattle.std.proofs.Common.{◌≡◌, ℕ, ◌<◌, Bool, true, false, cond, ◌&&◌, eqb, ltb, List, length, get_or, set, None, Option, sym, refl, ap, ◌∙◌, arith}
use Rattle.std.proofs.lemmas.List.{length-set, get_or-set_same, get_or-set_other}
use Rattle.std.proofs.lemmas.Bool.{cond-true, eqb-true}
use Rattle.std.proofs.lemmas.Bool.Decides.{nat_tests}
use Rattle.guides.specs.Meaning.{Meaning, low}
use Rattle.records.specs.declared.record.Place.{Place}
use Rattle.records.specs.declared.record.Station.{Station}
use Rattle.records.specs.declared.record.Status.{Status}
use Rattle.records.specs.declared.record.Status.TheVariants.{Free}
use Rattle.records.specs.Records.{place, written, with_next, with_prev, with_mark, with_lock, with_status}
use Rattle.engine.specs.Calling.{served, task_at}
use Rattle.engine.specs.Settling.{idle}
use Rattle.promises.proofs.Laws.{Bound, exact, top}
use Rattle.promises.proofs.Sights.{Sight, at_with, own_spot, sight, next_put, prev_put, mark_put, lock_put, status_put, task_put, filled, field_set, field_kept}

-- Two sights that read alike are equal.
pub record Alike {K : Type 0} (s s' : Sight K) : Type 0 where
  pub size : s.size ≡ s'.size
  pub spot : (p : ℕ) → s.spot p ≡ s'.spot p
  pub next : (p : ℕ) → s.next p ≡ s'.next p
  pub prev : (p : ℕ) → s.prev p ≡ s'.prev p
  pub marked : (p : ℕ) → s.marked p ≡ s'.marked p
  pub lock : (p : ℕ) → s.lock p ≡ s'.lock p
  pub status : (p : ℕ) → s.status p ≡ s'.status p
  pub task : (i : ℕ) → s.task i ≡ s'.task i
  pub guide : s.guide ≡ s'.guide

pub alike : {K : Type 0} (s s' : Sight K) → Alike s s' → s ≡ s'
alike s s' a = λ i. record {
  size = a.size i;
  spot = λ p. a.spot p i;
  next = λ p. a.next p i;
  prev = λ p. a.prev p i;
  marked = λ p. a.marked p i;
  lock = λ p. a.lock p i;
  status = λ p. a.status p i;
  task = λ j. a.task j i;
  guide = a.guide i;
}

module _ {K : Type 0} (k : K) (ps : List (Place K)) (ss : List (Station K)) (m : Meaning) (p : ℕ) (h : p < length ps) where
  sees_spot : (x : Place K) → x.key ≡ (place k ps p).key → (q : ℕ) → (sight (set ps p x) ss m).spot q ≡ (sight ps ss m).spot q
  sees_spot x e q = ap (own_spot q) (field_kept top (λ y. exact y.key) k ps p q x h (ap exact e))

  pub sees_next : (n : ℕ) → sight (written k p (with_next n) ps) ss m ≡ next_put p n (sight ps ss m)
  sees_next n = alike _ _ record {
    size = length-set ps p (with_next n (place k ps p));
    spot = sees_spot (with_next n (place k ps p)) refl;
    next = λ q. field_set low (λ y. y.next) ps p q (with_next n (place k ps p)) h;
    prev = λ q. field_kept low (λ y. y.prev) k ps p q (with_next n (place k ps p)) h refl;
    marked = λ q. field_kept false (λ y. y.marked) k ps p q (with_next n (place k ps p)) h refl;
    lock = λ q. field_kept None (λ y. y.lock) k ps p q (with_next n (place k ps p)) h refl;
    status = λ q. field_kept Free (λ y. y.status) k ps p q (with_next n (place k ps p)) h refl;
    task = λ i. refl;
    guide = refl;
  }

  pub sees_prev : (n : ℕ) → sight (written k p (with_prev n) ps) ss m ≡ prev_put p n (sight ps ss m)
  sees_prev n = alike _ _ record {
    size = length-set ps p (with_prev n (place k ps p));
    spot = sees_spot (with_prev n (place k ps p)) refl;
    next = λ q. field_kept low (λ y. y.next) k ps p q (with_prev n (place k ps p)) h refl;
    prev = λ q. field_set low (λ y. y.prev) ps p q (with_prev n (place k ps p)) h;
    marked = λ q. field_kept false (λ y. y.marked) k ps p q (with_prev n (place k ps p)) h refl;
    lock = λ q. field_kept None (λ y. y.lock) k ps p q (with_prev n (place k ps p)) h refl;
    status = λ q. field_kept Free (λ y. y.status) k ps p q (with_prev n (place k ps p)) h refl;
    task = λ i. refl;
    guide = refl;
  }

  pub sees_mark : sight (written k p with_mark ps) ss m ≡ mark_put p (sight ps ss m)
  sees_mark = alike _ _ record {
    size = length-set ps p (with_mark (place k ps p));
    spot = sees_spot (with_mark (place k ps p)) refl;
    next = λ q. field_kept low (λ y. y.next) k ps p q (with_mark (place k ps p)) h refl;
    prev = λ q. field_kept low (λ y. y.prev) k ps p q (with_mark (place k ps p)) h refl;
    marked = λ q. field_set false (λ y. y.marked) ps p q (with_mark (place k ps p)) h;
    lock = λ q. field_kept None (λ y. y.lock) k ps p q (with_mark (place k ps p)) h refl;
    status = λ q. field_kept Free (λ y. y.status) k ps p q (with_mark (place k ps p)) h refl;
    task = λ i. refl;
    guide = refl;
  }

  pub sees_lock : (l : Option ℕ) → sight (written k p (with_lock l) ps) ss m ≡ lock_put p l (sight ps ss m)
  sees_lock l = alike _ _ record {
    size = length-set ps p (with_lock l (place k ps p));
    spot = sees_spot (with_lock l (place k ps p)) refl;
    next = λ q. field_kept low (λ y. y.next) k ps p q (with_lock l (place k ps p)) h refl;
    prev = λ q. field_kept low (λ y. y.prev) k ps p q (with_lock l (place k ps p)) h refl;
    marked = λ q. field_kept false (λ y. y.marked) k ps p q (with_lock l (place k ps p)) h refl;
    lock = λ q. field_set None (λ y. y.lock) ps p q (with_lock l (place k ps p)) h;
    status = λ q. field_kept Free (λ y. y.status) k ps p q (with_lock l (place k ps p)) h refl;
    task = λ i. refl;
    guide = refl;
  }

  pub sees_status : (x : Status) → sight (written k p (with_status x) ps) ss m ≡ status_put p x (sight ps ss m)
  sees_status x = alike _ _ record {
    size = length-set ps p (with_status x (place k ps p));
    spot = sees_spot (with_status x (place k ps p)) refl;
    next = λ q. field_kept low (λ y. y.next) k ps p q (with_status x (place k ps p)) h refl;
    prev = λ q. field_kept low (λ y. y.prev) k ps p q (with_status x (place k ps p)) h refl;
    marked = λ q. field_kept false (λ y. y.marked) k ps p q (with_status x (place k ps p)) h refl;
    lock = λ q. field_kept None (λ y. y.lock) k ps p q (with_status x (place k ps p)) h refl;
    status = λ q. field_set Free (λ y. y.status) ps p q (with_status x (place k ps p)) h;
    task = λ i. refl;
    guide = refl;
  }

  own_cond : (q : ℕ) (b : Bool) → eqb p q ≡ b → (a c : Bound K) → own_spot q (cond b a c) ≡ cond b (own_spot p a) (own_spot q c)
  own_cond q true e a c = ap (λ r. own_spot r a) (sym (eqb-true p q e))
  own_cond q false e a c = refl

  pub sees_filled : (x : Place K) → sight (set ps p x) ss m ≡ filled p x (sight ps ss m)
  sees_filled x = alike _ _ record {
    size = length-set ps p x;
    spot = λ q. ap (own_spot q) (field_set top (λ y. exact y.key) ps p q x h) ∙ own_cond q (eqb p q) refl _ _;
    next = λ q. field_set low (λ y. y.next) ps p q x h;
    prev = λ q. field_set low (λ y. y.prev) ps p q x h;
    marked = λ q. field_set false (λ y. y.marked) ps p q x h;
    lock = λ q. field_set None (λ y. y.lock) ps p q x h;
    status = λ q. field_set Free (λ y. y.status) ps p q x h;
    task = λ i. refl;
    guide = refl;
  }

-- A station that is served and set anew.
module _ {K : Type 0} (ps : List (Place K)) (ss : List (Station K)) (m : Meaning) (i : ℕ) (there : served ss i ≡ true) where
  inside : i < length ss
  inside = grind (arith, nat_tests)

  same_served : (x : Station K) (j : ℕ) → served (set ss i x) j ≡ served ss j
  same_served x j = ap (λ n. ltb j n && ltb j 16) (length-set ss i x)

  task_same : (x : Station K) → task_at (set ss i x) i ≡ x.task
  task_same x =
      cond-true (served (set ss i x) i) _ _ (same_served x i ∙ there) ∙ ap (λ y. y.task) (get_or-set_same ss i x idle inside)

  task_other : (x : Station K) (j : ℕ) → eqb i j ≡ false → task_at (set ss i x) j ≡ task_at ss j
  task_other x j e =
      ap (λ b. cond b (get_or (set ss i x) j idle).task None) (same_served x j)
      ∙ ap (λ y. cond (served ss j) y.task None) (get_or-set_other ss i j x idle (λ same. grind (arith, nat_tests)))

  pub task_set : (x : Station K) (j : ℕ) → task_at (set ss i x) j ≡ at_with (task_at ss) i x.task j
  task_set x j = go (eqb i j) refl
    where
      go : (b : Bool) → eqb i j ≡ b → task_at (set ss i x) j ≡ cond b x.task (task_at ss j)
      go true e = ap (task_at (set ss i x)) (sym (eqb-true i j e)) ∙ task_same x
      go false e = task_other x j e

  pub sees_task : (x : Station K) → sight ps (set ss i x) m ≡ task_put i x.task (sight ps ss m)
  sees_task x = alike _ _ record {
    size = refl;
    spot = λ q. refl;
    next = λ q. refl;
    prev = λ q. refl;
    marked = λ q. refl;
    lock = λ q. refl;
    status = λ q. refl;
    task = task_set x;
    guide = refl;
  }
