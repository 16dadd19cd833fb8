-- That while puts or strikes are under way one of them can go on: whoever waits leads to a holder, and holders that wait
-- stand higher and higher on the chain. Assumes the laws of the order and what holds between calls.
use Rattle.std.proofs.Common.{◌≡◌, ℕ, zero, suc, ◌<◌, Bool, true, false, ◌&&◌, eqb, ltb, leb, ◌⊎◌, List, [], ◌∷◌, length, Some, None, Ok, Err, Option, Ordering, sym, refl, ap, ◌∙◌, subst, inl, inr, ⊎_elim, arith}
use Rattle.std.proofs.lemmas.Bool.{cases_Bool, true≢false, false≢true, eqb-true, eqb-false, eq-eqb, lt-ltb, ltb-true, le-leb, leb-true, and_parts, and_from, or_cases}
use Rattle.std.proofs.lemmas.Bool.Decides.{nat_tests}
use Rattle.guides.specs.declared.answer.Beside.TheVariants.{Absent, End}
use Rattle.guides.specs.Meaning.{Meaning, low, high, has}
use Rattle.records.specs.declared.answer.Answer.{Answer}
use Rattle.records.specs.declared.answer.Stepped.TheVariants.{Moved, Ended}
use Rattle.records.specs.declared.record.Phase.{Phase}
use Rattle.records.specs.declared.record.Phase.TheVariants.{Enter, Down, Check, Back, On, Seek, Lock, Valid, Take, Link, LinkBack, Attach, ReleaseNew, PutEnd, TakeVictim, Mark, UnlinkBack, Unlink, Detach, ReleaseVictim, StrikeEnd, First, FirstNext}
use Rattle.records.specs.declared.record.Place.{Place}
use Rattle.records.specs.declared.record.Station.{Station}
use Rattle.records.specs.declared.record.Task.{Task}
use Rattle.records.specs.Records.{place, held_by_other}
use Rattle.rules.specs.Putting.{most_places, is_free, FreePlace, MayTake}
use Rattle.rules.specs.Stepping.{Choice, MayChoose, rule_of, changes_guide}
use Rattle.engine.specs.Calling.{locked_by, MakesStep, MayChooseBy, may_change_guide}
use Rattle.engine.specs.Contents.{chain}
use Rattle.engine.specs.Settling.{AfterStep, settled}
use Rattle.promises.specs.Books.{Book, work_at}
use Rattle.promises.specs.Promised.{UnderWay, CanGoOn, is_change}
use Rattle.promises.specs.Runs.{Reply, Does, step, begun, stepped, left, mended, listed}
use Rattle.promises.proofs.Rungs.{three_placed}
use Rattle.promises.proofs.Laws.{Laws, bottom, exact}
use Rattle.promises.proofs.Sights.{Sight, sight, sight_of}
use Rattle.promises.proofs.Accepted.{accepted_step_made}
use Rattle.promises.proofs.Invariant.{Inv, rung, group, holds_at, holds_other, is_keyed, is_hiding, holds, other_in, holder_in, chained}
use Rattle.promises.proofs.Chains.{Walks, chain_walks, low_is_chained, above_low, walk_has}
use Rattle.promises.proofs.Tidy.{late_changes, holding_is_late, other_found}
use Rattle.promises.proofs.Seats.{at_not_high, placed_is_late}
use Rattle.promises.proofs.Granted.{chained_shown}
use Rattle.promises.proofs.Unrefused.{Turned, rule_turned, step_accepted, steps_accepted}
use Rattle.promises.proofs.Waiting.{IsHeldUp, made_moves}

-- ---- some choice is always allowed

module _ {K : Type 0} (ps : List (Place K)) (k : K) where
  abbrev is_open : ℕ → Bool
  is_open p = leb 2 p && (ltb p (length ps) && (ltb p most_places && is_free (place k ps p).status))

  open_is_free : (p : ℕ) → is_open p ≡ true → FreePlace ps k p
  open_is_free p h =
      let a = and_parts (leb 2 p) (ltb p (length ps) && (ltb p most_places && is_free (place k ps p).status)) h in
      let b = and_parts (ltb p (length ps)) (ltb p most_places && is_free (place k ps p).status) a.1 in
      let c = and_parts (ltb p most_places) (is_free (place k ps p).status) b.1 in
      record { counts = leb-true 2 p a.0; within = ltb-true p (length ps) b.0; served = ltb-true p most_places c.0; free = c.1 }

  free_is_open : (p : ℕ) → FreePlace ps k p → is_open p ≡ true
  free_is_open p f =
      and_from (leb 2 p) (ltb p (length ps) && (ltb p most_places && is_free (place k ps p).status)) (le-leb 2 p f.counts)
      (and_from (ltb p (length ps)) (ltb p most_places && is_free (place k ps p).status) (lt-ltb p (length ps) f.within)
      (and_from (ltb p most_places) (is_free (place k ps p).status) (lt-ltb p most_places f.served) f.free))

  free_under : (n : ℕ) → ((p : ℕ) × FreePlace ps k p) ⊎ ((p : ℕ) → p < n → FreePlace ps k p → ⊥)
  free_under zero = inr (λ p lt f. absurd (omega arith))
  free_under (suc n) =
      ⊎_elim (λ found. inl found)
      (λ none. ⊎_elim (λ h. inl (n, open_is_free n h)) (λ h. inr (more none h)) (cases_Bool (is_open n)))
      (free_under n)
    where
      more : ((p : ℕ) → p < n → FreePlace ps k p → ⊥) → is_open n ≡ false → (p : ℕ) → p < suc n → FreePlace ps k p → ⊥
      more none h p lt f =
          ⊎_elim (λ less. none p less f) (λ same. true≢false (sym (free_is_open p f) ∙ ap is_open same ∙ h)) (last p lt)
        where
          last : (q : ℕ) → q < suc n → (q < n) ⊎ (q ≡ n)
          last q lt = go (ltb q n) refl
            where
              go : (b : Bool) → ltb q n ≡ b → (q < n) ⊎ (q ≡ n)
              go true e = inl (ltb-true q n e)
              go false e = let same : q ≡ n = grind (arith, nat_tests) in inr same

  take_may : (free : Option ℕ) × MayTake ps k free
  take_may = go (free_under (length ps))
    where
      go : ((p : ℕ) × FreePlace ps k p) ⊎ ((p : ℕ) → p < length ps → FreePlace ps k p → ⊥) → (free : Option ℕ) × MayTake ps k free
      go (inl found) = (Some found.0, found.1)
      go (inr none) = (None, λ p f. none p f.within f)

module _ {K : Type 0} (rank : K → K → Ordering) (laws : Laws rank) (s : Sight K) (inv : Inv rank s) where
  pub low_in_guide : has low s.guide.sequence ≡ true
  low_in_guide = chained_shown rank laws s inv low (low_is_chained rank laws s inv) (by_lock (s.lock low))
    where
      hiding_keyed : (r : ℕ) → is_hiding r ≡ true → is_keyed r ≡ true
      hiding_keyed r h = grind (arith, nat_tests)

      hidden : (j : ℕ) → other_in is_hiding (s.task j) low ≡ true → ⊥
      hidden j h =
          let found = other_found is_hiding (s.task j) low h in
          let u = found.0 in
          let key = (inv.stands j u found.1).keyed (hiding_keyed (rung u.phase) found.2) in
          let no : exact u.key ≡ bottom = sym key ∙ ap s.spot found.3 ∙ inv.low_spot in
          let z : ◌≡◌ {A = ℕ} 0 1 = cc in omega arith

      by_lock : (o : Option ℕ) → holder_in is_hiding s.task o low ≡ false
      by_lock None = refl
      by_lock (Some j) = ⊎_elim (λ h. absurd (hidden j h)) (λ h. h) (cases_Bool (other_in is_hiding (s.task j) low))

module _ {K : Type 0} (rank : K → K → Ordering) (laws : Laws rank) (ps : List (Place K)) (ss : List (Station K)) (m : Meaning) (inv : Inv rank (sight ps ss m))
    (i : ℕ) (t : Task K) where
  plain : Choice
  plain = record { start = low; beside = Absent; free = None }

  pub some_may : (phase : Phase) → (c : Choice) × MayChoose rank i ps m t phase c
  some_may Enter = (record { start = low; beside = Absent; free = None }, low_in_guide rank laws (sight ps ss m) inv)
  some_may Down =
      ⊎_elim (λ h. (record { start = low; beside = End; free = None }, h)) (λ h. (record { start = low; beside = Absent; free = None }, h)) (cases_Bool (has t.at m.sequence))
  some_may Check = (plain, tt)
  some_may Back = (plain, tt)
  some_may On = (plain, tt)
  some_may Seek = (plain, tt)
  some_may Lock = (plain, tt)
  some_may Valid = (plain, tt)
  some_may Take = let free = take_may ps t.key in (record { start = low; beside = Absent; free = free.0 }, free.1)
  some_may Link = (plain, tt)
  some_may LinkBack = (plain, tt)
  some_may Attach = (plain, tt)
  some_may ReleaseNew = (plain, tt)
  some_may PutEnd = (plain, tt)
  some_may TakeVictim = (plain, tt)
  some_may Mark = (plain, tt)
  some_may UnlinkBack = (plain, tt)
  some_may Unlink = (plain, tt)
  some_may Detach = (plain, tt)
  some_may ReleaseVictim = (plain, tt)
  some_may StrikeEnd = (plain, tt)
  some_may First = (plain, tt)
  some_may FirstNext = (plain, tt)

-- ---- a work that is not held up can go on

module _ {K : Type 0} (rank : K → K → Ordering) (laws : Laws rank) (b : Book K) (inv : Inv rank (sight_of b)) where
  pub free_goes_on : (i : ℕ) (t : Task K) → UnderWay rank b i t → is_change t.work ≡ true → (IsHeldUp (sight_of b) i t → ⊥) → CanGoOn rank b i
  free_goes_on i t is change free =
      let may = some_may rank laws b.places b.stations b.guide inv i t t.phase in
      let turned = rule_turned rank laws b.places b.stations b.guide inv i t is t.phase refl may.0 in
      by_turn may.0 may.1 turned
    where
      moves_on : (a : Reply K) (b' : Book K) → Does rank b (step i) a b' → (a ≡ stepped (Ok Moved)) ⊎ ((x : Answer K) × (n : ℕ) × (a ≡ stepped (Ok (Ended x n))))
      moves_on (begun r) b' d = absurd d
      moves_on (stepped (Err e)) b' d = absurd (steps_accepted rank laws b inv i t e b' is d)
      moves_on (stepped (Ok a)) b' d =
          ⊎_elim (λ e. inl (ap (λ x. stepped (Ok x)) e)) (λ e. inr (e.0, e.1, ap (λ x. stepped (Ok x)) e.2))
          (made_moves rank (sight_of b) i t is (accepted_step_made rank i b.places b.stations b.guide a b'.places b'.stations b'.guide d) free)
      moves_on (left r) b' d = absurd d
      moves_on (mended m) b' d = absurd d
      moves_on (listed r after) b' d = absurd d

      by_turn : (c : Choice) → MayChoose rank i b.places b.guide t t.phase c → Turned b.guide (changes_guide t.phase) (rule_of rank i b.places b.guide t t.phase c)
          → CanGoOn rank b i
      by_turn c may turned = record {
        task = t;
        under_way = is;
        changes = change;
        answer = stepped (Ok after.answer);
        after = record { places = after.places; stations = after.stations; guide = turned.turn.meaning };
        possible = record {
          choice = c;
          may = subst (λ o. MayChooseBy rank c b.places b.stations b.guide i o) (sym is) may;
          does = subst
              (λ told. MakesStep (λ m. m) told b.places b.stations b.guide (Ok after.answer) after.places after.stations turned.turn.meaning)
              (sym (step_accepted rank laws b.places b.stations b.guide inv i t is c turned.turn turned.is)) (refl, refl, refl, refl);
          keeps_guide = λ h. turned.keeps (sym (ap may_change_guide is) ∙ h);
        };
        moves = moves_on;
      }
        where
          after : AfterStep K
          after = settled i t b.stations turned.turn.outcome turned.turn.places

  -- ---- following the holders

  -- A work that holds a lock and does not wait for a victim is not held up.
  holder_free : (i : ℕ) (t : Task K) → holds_at (rung t.phase) ≡ true → eqb (rung t.phase) 3 ≡ false → IsHeldUp (sight_of b) i t → ⊥
  holder_free i t holding not_three (inl h) = false≢true (sym (ap (λ x. holds_at (rung x)) h.0) ∙ holding)
  holder_free i t holding not_three (inr h) = true≢false (sym (ap (λ x. eqb (rung x) 3) h.0) ∙ not_three)

  victim_free : (i : ℕ) (t : Task K) → eqb (rung t.phase) 3 ≡ true → held_by_other i ((sight_of b).lock ((sight_of b).next t.at)) ≡ false → IsHeldUp (sight_of b) i t → ⊥
  victim_free i t three free (inl h) = false≢true (sym (ap (λ x. eqb (rung x) 3) h.0) ∙ three)
  victim_free i t three free (inr h) = true≢false (sym h.1 ∙ free)

  -- Who holds the lock of a place.
  pub record Holder (p : ℕ) : Type 0 where
    pub station : ℕ
    pub task : Task K
    pub is : work_at b station ≡ Some task
    pub holding : holds_at (rung task.phase) ≡ true
    pub stands : eqb (rung task.phase) 3 ≡ true → task.at ≡ p

  held_by : (p j : ℕ) (o : Option (Task K)) → work_at b j ≡ o → holds o p ≡ true → Holder p
  held_by p j None is h = absurd (false≢true h)
  held_by p j (Some t) is h =
      let either = or_cases (holds_at (rung t.phase) && eqb t.at p) (holds_other (rung t.phase) && eqb t.other p) h in
      record { station = j; task = t; is = is; holding = one either; stands = λ three. stood three either }
    where
      other_holds : (r : ℕ) → holds_other r ≡ true → holds_at r ≡ true
      other_holds r h = grind (arith, nat_tests)

      other_not_three : (r : ℕ) → holds_other r ≡ true → eqb r 3 ≡ true → ⊥
      other_not_three r h three = grind (arith, nat_tests)

      one : ((holds_at (rung t.phase) && eqb t.at p) ≡ true) ⊎ ((holds_other (rung t.phase) && eqb t.other p) ≡ true) → holds_at (rung t.phase) ≡ true
      one (inl x) = (and_parts (holds_at (rung t.phase)) (eqb t.at p) x).0
      one (inr x) = other_holds (rung t.phase) (and_parts (holds_other (rung t.phase)) (eqb t.other p) x).0

      stood : eqb (rung t.phase) 3 ≡ true → ((holds_at (rung t.phase) && eqb t.at p) ≡ true) ⊎ ((holds_other (rung t.phase) && eqb t.other p) ≡ true) → t.at ≡ p
      stood three (inl x) = eqb-true t.at p (and_parts (holds_at (rung t.phase)) (eqb t.at p) x).1
      stood three (inr x) = absurd (other_not_three (rung t.phase) (and_parts (holds_other (rung t.phase)) (eqb t.other p) x).0 three)

  holder_of : (i p : ℕ) → held_by_other i ((sight_of b).lock p) ≡ true → Holder p
  holder_of i p h = go ((sight_of b).lock p) refl h
    where
      go : (o : Option ℕ) → (sight_of b).lock p ≡ o → held_by_other i o ≡ true → Holder p
      go None e h = absurd (false≢true h)
      go (Some j) e h = held_by p j (work_at b j) refl (sym (inv.locks j p) ∙ ap (locked_by j) e ∙ eq-eqb j j refl)

  holder_changes : {p : ℕ} (h : Holder p) → is_change h.task.work ≡ true
  holder_changes h =
      late_changes h.task.work (group h.task.phase) (inv.fit h.station h.task h.is) (holding_is_late h.task.phase h.holding)

  abbrev OneGoesOn : Type 0
  OneGoesOn = (j : ℕ) × CanGoOn rank b j

  unless_victim : {p : ℕ} (h : Holder p) → (eqb (rung h.task.phase) 3 ≡ true → OneGoesOn) → OneGoesOn
  unless_victim h victim =
      ⊎_elim victim (λ not_three. (h.station, free_goes_on h.station h.task h.is (holder_changes h) (holder_free h.station h.task h.holding not_three)))
      (cases_Bool (eqb (rung h.task.phase) 3))

  victim_not_high : {p : ℕ} (h : Holder p) → eqb (rung h.task.phase) 3 ≡ true → p ≡ high → ⊥
  victim_not_high h three e =
      at_not_high rank laws (sight_of b) inv h.station h.task h.is
      (placed_is_late rank laws (sight_of b) inv h.station h.task h.is (three_placed (rung h.task.phase) three)) (h.stands three ∙ e)

  -- From a holder that waits for a victim, up the chain: the victim is the next place.
  follow : (xs : List ℕ) (p : ℕ) → Walks (sight_of b) p xs → Holder p → OneGoesOn
  follow [] p w h = unless_victim h (λ three. absurd (victim_not_high h three w))
  follow (x ∷ xs) p w h =
      unless_victim h (λ three.
      ⊎_elim (λ held. follow xs ((sight_of b).next p) w.3 (subst (λ q. Holder ((sight_of b).next q)) (h.stands three) (holder_of h.station ((sight_of b).next h.task.at) held)))
      (λ free. (h.station, free_goes_on h.station h.task h.is (holder_changes h) (victim_free h.station h.task three free)))
      (cases_Bool (held_by_other h.station ((sight_of b).lock ((sight_of b).next h.task.at)))))

  -- The walk from any chained place but High.
  rest_of_walk : (xs : List ℕ) (q : ℕ) → Walks (sight_of b) q xs → (p : ℕ) → has p xs ≡ true → (ys : List ℕ) × Walks (sight_of b) p ys
  rest_of_walk [] q w p h = absurd (false≢true h)
  rest_of_walk (x ∷ xs) q w p h =
      ⊎_elim (λ e. (x ∷ xs, subst (λ z. Walks (sight_of b) z (x ∷ xs)) (sym w.0 ∙ eqb-true x p e) w))
      (λ later. rest_of_walk xs ((sight_of b).next q) w.3 p later) (or_cases (eqb x p) (has p xs) h)

  walk_of : (p : ℕ) → chained (sight_of b) p ≡ true → (p ≡ high → ⊥) → (ys : List ℕ) × Walks (sight_of b) p ys
  walk_of p ch not_high =
      let low_ch = low_is_chained rank laws (sight_of b) inv in
      let whole : Walks (sight_of b) low (low ∷ chain b.places) = (refl, (λ e. omega arith), low_ch, chain_walks rank laws b.places b.stations b.guide inv) in
      rest_of_walk (low ∷ chain b.places) low whole p
      (walk_has rank laws (sight_of b) inv (low ∷ chain b.places) low p whole ch not_high
      (⊎_elim (λ e. inl (eqb-true low p e)) (λ e. inr (above_low rank laws (sight_of b) inv p ch (λ same. eqb-false low p e (sym same)))) (cases_Bool (eqb low p))))

  follow_holder : (i p : ℕ) → held_by_other i ((sight_of b).lock p) ≡ true → OneGoesOn
  follow_holder i p held =
      let h = holder_of i p held in
      unless_victim h (λ three.
      let ch : chained (sight_of b) p ≡ true =
      subst (λ q. chained (sight_of b) q ≡ true) (h.stands three) ((inv.stands h.station h.task h.is).at_chained (three_placed (rung h.task.phase) three)) in
      let walk = walk_of p ch (victim_not_high h three) in
      follow walk.0 p walk.1 h)

  pub someone_can_go_on : (i : ℕ) (t : Task K) → UnderWay rank b i t → is_change t.work ≡ true → (j : ℕ) × CanGoOn rank b j
  someone_can_go_on i t is change =
      ⊎_elim (λ held. follow_holder i t.at held)
      (λ at_free. ⊎_elim (λ held. follow_holder i ((sight_of b).next t.at) held) (λ next_free. (i, free_goes_on i t is change (free at_free next_free)))
      (cases_Bool (held_by_other i ((sight_of b).lock ((sight_of b).next t.at)))))
      (cases_Bool (held_by_other i ((sight_of b).lock t.at)))
    where
      free : held_by_other i ((sight_of b).lock t.at) ≡ false → held_by_other i ((sight_of b).lock ((sight_of b).next t.at)) ≡ false → IsHeldUp (sight_of b) i t → ⊥
      free a n (inl h) = true≢false (sym h.1 ∙ a)
      free a n (inr h) = true≢false (sym h.1 ∙ n)
