-- What a step does with its stations once its rule has decided, as it is seen. Assumes nothing.
use Rattle.std.proofs.Common.{◌≡◌, ℕ, zero, suc, ◌<◌, Bool, true, false, cond, not, ◌&&◌, eqb, ltb, List, [], ◌∷◌, map, length, get_or, set, is_some, Some, None, Option, sym, refl, ap, ◌∙◌, subst, arith}
use Rattle.std.proofs.lemmas.Bool.{lt-ltb}
use Rattle.std.proofs.lemmas.Bool.Decides.{nat_tests}
use Rattle.guides.specs.Meaning.{Meaning, low}
use Rattle.records.specs.declared.answer.Answer.TheVariants.{Yes}
use Rattle.records.specs.declared.outcome.Outcome.{Outcome}
use Rattle.records.specs.declared.outcome.Outcome.TheVariants.{Goes, Waits, Ends, Retires}
use Rattle.records.specs.declared.record.Place.{Place}
use Rattle.records.specs.declared.record.Station.{Station}
use Rattle.records.specs.declared.record.Task.{Task}
use Rattle.std.specs.List.{slice_get, range_with_len}
use Rattle.std.proofs.lemmas.List.{length-map, get_or_past}
use Rattle.std.proofs.lemmas.List.FromFn.{length-map-range_with_len, get_or-map-range_with_len}
use Rattle.std.proofs.lemmas.Option.{slice_get-get_or}
use Rattle.records.specs.declared.answer.Answer.{Answer}
use Rattle.records.specs.declared.answer.Stepped.{Stepped}
use Rattle.records.specs.declared.answer.Stepped.TheVariants.{Moved, Waits as Waited, Ended}
use Rattle.records.specs.declared.record.Status.{Status}
use Rattle.records.specs.declared.record.Status.TheVariants.{Free}
use Rattle.records.specs.Records.{written, with_status}
use Rattle.engine.specs.Calling.{served, task_at}
use Rattle.engine.specs.Contents.{field_of}
use Rattle.engine.specs.Settling.{most_stations, counted, retired_for as rests, without_station, idle, busy, works, other_at_work, others_at_work, with_steps, awaiting_task, awaiting, let_go, after_work, settled}
use Rattle.promises.proofs.Laws.{exact, top}
use Rattle.promises.proofs.Sights.{Sight, at_with, own_spot, sight, task_put, status_put}
use Rattle.promises.proofs.Writes.{alike, sees_status, sees_task}

module _ {K : Type 0} where
  -- The work of station i is over.
  abbrev pub work_over : ℕ → Bool → Sight K → Sight K
  work_over i awaited s = record {
    size = s.size;
    spot = s.spot;
    next = s.next;
    prev = s.prev;
    marked = s.marked;
    lock = s.lock;
    status = λ p. cond awaited (without_station i (s.status p)) (s.status p);
    task = at_with s.task i None;
    guide = s.guide;
  }

  abbrev all_awaited : Sight K → Sight K
  all_awaited s = record {
    size = s.size;
    spot = s.spot;
    next = s.next;
    prev = s.prev;
    marked = s.marked;
    lock = s.lock;
    status = s.status;
    task = λ i. awaiting_task (s.task i);
    guide = s.guide;
  }

  -- A place is retired: every work that is under way is awaited from here on.
  abbrev pub retire_put : ℕ → Status → Sight K → Sight K
  retire_put p x s = record {
    size = s.size;
    spot = s.spot;
    next = s.next;
    prev = s.prev;
    marked = s.marked;
    lock = s.lock;
    status = at_with s.status p x;
    task = λ i. awaiting_task (s.task i);
    guide = s.guide;
  }

  -- The works under way at other stations than `me`.
  pub record Others (me : ℕ) (s : Sight K) (w : List Bool) : Type 0 where
    pub many : length w ≡ most_stations
    pub each : (j : ℕ) → j < most_stations → slice_get w j ≡ Some (not (eqb j me) && is_some (s.task j))

  -- How the stations are settled after a rule with outcome o; s is what the rule left.
  pub data Settling (s : Sight K) (me : ℕ) (t : Task K) (o : Outcome K) (a : Stepped K) (s' : Sight K) : Type 0 where
    goes : (u : Task K) → o ≡ Goes u → a ≡ Moved → s' ≡ task_put me (Some (with_steps (counted t.steps) u)) s → Settling s me t o a s'
    waits : o ≡ Waits → a ≡ Waited → s' ≡ task_put me (Some (with_steps (counted t.steps) t)) s → Settling s me t o a s'
    ends : (x : Answer K) → o ≡ Ends x → a ≡ Ended x (counted t.steps) → s' ≡ work_over me t.awaited s → Settling s me t o a s'
    retires : (p : ℕ) → o ≡ Retires p → a ≡ Ended Yes (counted t.steps) → (w : List Bool) → Others me s w
        → s' ≡ work_over me t.awaited (retire_put p (rests w) s) → Settling s me t o a s'

  -- ---- a change of every place, and of every station

  field_map : {A : Type 0} (other : A) (field : Place K → A) (f : Place K → Place K) (ps : List (Place K)) (p : ℕ)
      → field_of other field (slice_get (map f ps) p) ≡ field_of other (λ x. field (f x)) (slice_get ps p)
  field_map other field f [] p = refl
  field_map other field f (x ∷ ps) zero = refl
  field_map other field f (x ∷ ps) (suc p) = field_map other field f ps p

  status_let_go : (i : ℕ) (x : Option (Place K)) → field_of Free (λ y. without_station i y.status) x ≡ without_station i (field_of Free (λ y. y.status) x)
  status_let_go i None = refl
  status_let_go i (Some x) = refl

  task_awaiting : (ss : List (Station K)) (i : ℕ) → (get_or (map awaiting ss) i idle).task ≡ awaiting_task (get_or ss i idle).task
  task_awaiting [] i = refl
  task_awaiting (s ∷ ss) zero = refl
  task_awaiting (s ∷ ss) (suc i) = task_awaiting ss i

  cond_awaiting : (b : Bool) (x : Option (Task K)) → cond b (awaiting_task x) None ≡ awaiting_task (cond b x None)
  cond_awaiting true x = refl
  cond_awaiting false x = refl

  served_awaiting : (ss : List (Station K)) (i : ℕ) → served (map awaiting ss) i ≡ served ss i
  served_awaiting ss i = ap (λ n. ltb i n && ltb i most_stations) (length-map ss awaiting)

  task_at_awaiting : (ss : List (Station K)) (i : ℕ) → task_at (map awaiting ss) i ≡ awaiting_task (task_at ss i)
  task_at_awaiting ss i =
      ap (λ b. cond b (get_or (map awaiting ss) i idle).task None) (served_awaiting ss i)
      ∙ ap (λ x. cond (served ss i) x None) (task_awaiting ss i) ∙ cond_awaiting (served ss i) (get_or ss i idle).task

  works_at : (ss : List (Station K)) (i : ℕ) → i < most_stations → works ss i ≡ is_some (task_at ss i)
  works_at ss i h = go (served ss i) refl
    where
      past : ltb i (length ss) ≡ false → works ss i ≡ false
      past e = ap (λ s. is_some s.task) (get_or_past ss i idle (grind (arith, nat_tests)))

      go : (b : Bool) → served ss i ≡ b → works ss i ≡ is_some (cond b (get_or ss i idle).task None)
      go true e = refl
      go false e = let less = lt-ltb i most_stations h in past (grind (arith, nat_tests))

  others_seen : (me : ℕ) (ss : List (Station K)) (ps : List (Place K)) (m : Meaning) → Others me (sight ps ss m) (others_at_work me ss)
  unfolding others_at_work
  others_seen me ss ps m = record {
    many = length-map-range_with_len (other_at_work me ss) 0 most_stations;
    each = λ j h.
        slice_get-get_or (map (other_at_work me ss) (range_with_len 0 most_stations)) j false (simp length-map-range_with_len h)
        ∙ ap Some (get_or-map-range_with_len (other_at_work me ss) 0 most_stations j j false h (omega arith) ∙ ap (λ b. not (eqb j me) && b) (works_at ss j h));
  }

  module _ (ps : List (Place K)) (ss : List (Station K)) (m : Meaning) (i : ℕ) (there : served ss i ≡ true) where
    sees_over : (awaited : Bool) (t : Task K) → t.awaited ≡ awaited → sight (after_work i t ps) (set ss i idle) m ≡ work_over i awaited (sight ps ss m)
    sees_over false t e =
        ap (λ b. sight (cond b (map (let_go i) ps) ps) (set ss i idle) m) e ∙ sees_task ps ss m i there idle
    sees_over true t e =
        ap (λ b. sight (cond b (map (let_go i) ps) ps) (set ss i idle) m) e ∙ sees_task (map (let_go i) ps) ss m i there idle
        ∙ alike _ _ record {
          size = length-map ps (let_go i);
          spot = λ p. ap (own_spot p) (field_map top (λ x. exact x.key) (let_go i) ps p);
          next = λ p. field_map low (λ x. x.next) (let_go i) ps p;
          prev = λ p. field_map low (λ x. x.prev) (let_go i) ps p;
          marked = λ p. field_map false (λ x. x.marked) (let_go i) ps p;
          lock = λ p. field_map None (λ x. x.lock) (let_go i) ps p;
          status = λ p. field_map Free (λ x. x.status) (let_go i) ps p ∙ status_let_go i (slice_get ps p);
          task = λ j. refl;
          guide = refl;
        }

    pub sees_work_over : (t : Task K) → sight (after_work i t ps) (set ss i idle) m ≡ work_over i t.awaited (sight ps ss m)
    sees_work_over t = sees_over t.awaited t refl

  module _ (ps : List (Place K)) (ss : List (Station K)) (m : Meaning) where
    sees_awaiting : sight ps (map awaiting ss) m ≡ all_awaited (sight ps ss m)
    sees_awaiting = alike _ _ record {
      size = refl;
      spot = λ p. refl;
      next = λ p. refl;
      prev = λ p. refl;
      marked = λ p. refl;
      lock = λ p. refl;
      status = λ p. refl;
      task = task_at_awaiting ss;
      guide = refl;
    }

    sees_retire : (k : K) (p : ℕ) → p < length ps → (x : Status) → sight (written k p (with_status x) ps) (map awaiting ss) m ≡ retire_put p x (sight ps ss m)
    sees_retire k p h x =
        sees_status k ps (map awaiting ss) m p h x ∙ ap (status_put p x) sees_awaiting

  module _ (me : ℕ) (t : Task K) (ss : List (Station K)) (there : served ss me ≡ true) (m : Meaning) where
    pub settles : (o : Outcome K) (ps : List (Place K)) (a : Stepped K) (ps' : List (Place K)) (ss' : List (Station K)) (m' : Meaning)
        → ((p : ℕ) → o ≡ Retires p → p < length ps)
        → a ≡ (settled me t ss o ps).answer → ps' ≡ (settled me t ss o ps).places → ss' ≡ (settled me t ss o ps).stations → m' ≡ m
        → Settling (sight ps ss m) me t o a (sight ps' ss' m')
    settles o ps a ps' ss' m' h is pe se me' =
        subst (Settling (sight ps ss m) me t o a) (sym (ap (λ x. sight x ss' m') pe ∙ ap (λ x. sight (settled me t ss o ps).places x m') se ∙ ap (sight (settled me t ss o ps).places (settled me t ss o ps).stations) me'))
        (go o h is)
      where
        go : (o : Outcome K) → ((p : ℕ) → o ≡ Retires p → p < length ps) → a ≡ (settled me t ss o ps).answer
            → Settling (sight ps ss m) me t o a (sight (settled me t ss o ps).places (settled me t ss o ps).stations m)
        go (Goes u) h is = Settling.goes u refl is (sees_task ps ss m me there (busy (with_steps (counted t.steps) u)))
        go Waits h is = Settling.waits refl is (sees_task ps ss m me there (busy (with_steps (counted t.steps) t)))
        go (Ends x) h is = Settling.ends x refl is (sees_work_over ps ss m me there t)
        go (Retires p) h is =
            Settling.retires p refl is (others_at_work me ss) (others_seen me ss ps m)
            (sees_work_over (written t.key p (with_status (rests (others_at_work me ss))) ps) (map awaiting ss) m me (served_awaiting ss me ∙ there) t
            ∙ ap (work_over me t.awaited) (sees_retire ps ss m t.key p (h p refl) (rests (others_at_work me ss))))
