-- Which rules a list of moves goes through, and that each of them is reached by a run. Assumes nothing.
use Rattle.std.proofs.Common.{◌≡◌, ℕ, zero, suc, Bool, true, false, not, ◌&&◌, ◌||◌, eqb, ◌⊎◌, List, [], ◌∷◌, Some, None, Ok, Err, Option, Result, Ordering, sym, refl, ap, ◌∙◌, inr, ⊎_elim, arith}
use Rattle.std.proofs.lemmas.Bool.{false≢true, eqb-true, and_parts, or_cases}
use Rattle.std.specs.List.{slice_get}
use Rattle.records.specs.declared.answer.Refusal.{Refusal}
use Rattle.records.specs.declared.record.Phase.{Phase}
use Rattle.records.specs.declared.record.Phase.TheVariants.{Enter, Down, Check, Back, On, Seek, Lock, Valid, Take, Link, LinkBack, Attach, ReleaseNew, PutEnd, TakeVictim, Mark, UnlinkBack, Unlink, Detach, ReleaseVictim, StrikeEnd, First, FirstNext}
use Rattle.records.specs.declared.record.Task.{Task}
use Rattle.records.specs.declared.record.Work.{Work}
use Rattle.records.specs.declared.record.Work.TheVariants.{Put, Strike, Look, First as FirstWork, After}
use Rattle.rules.specs.Stepping.{Choice}
use Rattle.engine.specs.Calling.{MadeStep}
use Rattle.promises.specs.Books.{Book, work_at}
use Rattle.promises.specs.Reached.{has_rule, Reaches}
use Rattle.promises.specs.Runs.{Call, Run, next, begin, step, leave, mend, list}
use Rattle.promises.proofs.Player.{Move, made_by, played, may_move, may_play, step_does, move_does}

-- ---- works and phases by number

unfoldable pub works : List Work
works = Put ∷ Strike ∷ Look ∷ FirstWork ∷ After ∷ []

unfoldable pub phases : List Phase
phases = Enter ∷ Down ∷ Check ∷ Back ∷ On ∷ Seek ∷ Lock ∷ Valid ∷ Take ∷ Link ∷ LinkBack ∷ Attach ∷ ReleaseNew ∷ PutEnd ∷ TakeVictim ∷ Mark ∷ UnlinkBack ∷ Unlink ∷ Detach ∷ ReleaseVictim ∷ StrikeEnd ∷ First ∷ FirstNext ∷ []

abbrev work_number : Work → ℕ
work_number Put = 0
work_number Strike = 1
work_number Look = 2
work_number FirstWork = 3
work_number After = 4

abbrev phase_number : Phase → ℕ
phase_number Enter = 0
phase_number Down = 1
phase_number Check = 2
phase_number Back = 3
phase_number On = 4
phase_number Seek = 5
phase_number Lock = 6
phase_number Valid = 7
phase_number Take = 8
phase_number Link = 9
phase_number LinkBack = 10
phase_number Attach = 11
phase_number ReleaseNew = 12
phase_number PutEnd = 13
phase_number TakeVictim = 14
phase_number Mark = 15
phase_number UnlinkBack = 16
phase_number Unlink = 17
phase_number Detach = 18
phase_number ReleaseVictim = 19
phase_number StrikeEnd = 20
phase_number First = 21
phase_number FirstNext = 22

work_numbered : (w : Work) → slice_get works (work_number w) ≡ Some w
unfolding works
work_numbered Put = refl
work_numbered Strike = refl
work_numbered Look = refl
work_numbered FirstWork = refl
work_numbered After = refl

phase_numbered : (f : Phase) → slice_get phases (phase_number f) ≡ Some f
unfolding phases
phase_numbered Enter = refl
phase_numbered Down = refl
phase_numbered Check = refl
phase_numbered Back = refl
phase_numbered On = refl
phase_numbered Seek = refl
phase_numbered Lock = refl
phase_numbered Valid = refl
phase_numbered Take = refl
phase_numbered Link = refl
phase_numbered LinkBack = refl
phase_numbered Attach = refl
phase_numbered ReleaseNew = refl
phase_numbered PutEnd = refl
phase_numbered TakeVictim = refl
phase_numbered Mark = refl
phase_numbered UnlinkBack = refl
phase_numbered Unlink = refl
phase_numbered Detach = refl
phase_numbered ReleaseVictim = refl
phase_numbered StrikeEnd = refl
phase_numbered First = refl
phase_numbered FirstNext = refl

some_same : {A : Type 0} {a b : A} → Some a ≡ Some b → a ≡ b
some_same e = cc

same_work : (v w : Work) → eqb (work_number v) (work_number w) ≡ true → v ≡ w
same_work v w h = some_same (sym (work_numbered v) ∙ ap (slice_get works) (eqb-true _ _ h) ∙ work_numbered w)

same_phase : (f g : Phase) → eqb (phase_number f) (phase_number g) ≡ true → f ≡ g
same_phase f g h = some_same (sym (phase_numbered f) ∙ ap (slice_get phases) (eqb-true _ _ h) ∙ phase_numbered g)

-- ---- the rules that are visited

-- A work in a phase.
pub record Visit : Type 0 where
  pub work : Work
  pub phase : Phase

abbrev is_visit : Work → Phase → Option Visit → Bool
is_visit w f None = false
is_visit w f (Some v) = eqb (work_number v.work) (work_number w) && eqb (phase_number v.phase) (phase_number f)

abbrev with_visit : Option Visit → List Visit → List Visit
with_visit None vs = vs
with_visit (Some v) vs = v ∷ vs

abbrev among : Work → Phase → List Visit → Bool
among w f [] = false
among w f (v ∷ vs) = is_visit w f (Some v) || among w f vs

among_with : (w : Work) (f : Phase) (o : Option Visit) (vs : List Visit) → among w f (with_visit o vs) ≡ true → (is_visit w f o ≡ true) ⊎ (among w f vs ≡ true)
among_with w f None vs h = inr h
among_with w f (Some v) vs h = or_cases (is_visit w f (Some v)) (among w f vs) h

module _ {K : Type 0} (rank : K → K → Ordering) where
  -- The rule that a move goes through: that of an accepted step.
  abbrev visit_by : Option (Task K) → Result (MadeStep K) Refusal → Option Visit
  visit_by None r = None
  visit_by (Some t) (Ok made) = Some (record { work = t.work; phase = t.phase })
  visit_by (Some t) (Err e) = None

  abbrev visit_of : Call K → Choice → Book K → Option Visit
  visit_of (begin i work key) c b = None
  visit_of (step i) c b = visit_by (work_at b i) (made_by rank i c b)
  visit_of (leave i) c b = None
  visit_of mend c b = None
  visit_of (list given) c b = None

  abbrev pub visits : List (Move K) → Book K → List Visit
  visits [] b = []
  visits (m ∷ ms) b = with_visit (visit_of m.call m.choice b) (visits ms (played rank m b).book)

  module _ (w : Work) (f : Phase) where
    step_reaches : (b : Book K) → Run rank b → (i : ℕ) (c : Choice) → may_move rank (record { call = step i; choice = c }) b ≡ true
        → (o : Option (Task K)) → work_at b i ≡ o → (r : Result (MadeStep K) Refusal) → made_by rank i c b ≡ r → is_visit w f (visit_by o r) ≡ true → Reaches rank w f
    step_reaches b run i c may None is r e h = absurd (false≢true h)
    step_reaches b run i c may (Some t) is (Err r) e h = absurd (false≢true h)
    step_reaches b run i c may (Some t) is (Ok made) e h =
        let both = and_parts (eqb (work_number t.work) (work_number w)) (eqb (phase_number t.phase) (phase_number f)) h in
        record {
          book = b;
          run = run;
          station = i;
          task = t;
          under_way = is;
          of_work = same_work t.work w both.0;
          in_phase = same_phase t.phase f both.1;
          answer = made.after.answer;
          after = record { places = made.after.places; stations = made.after.stations; guide = made.meaning };
          steps = step_does rank b i c may (Ok made) e;
        }

    move_reaches : (b : Book K) → Run rank b → (call : Call K) (c : Choice) → may_move rank (record { call = call; choice = c }) b ≡ true
        → is_visit w f (visit_of call c b) ≡ true → Reaches rank w f
    move_reaches b run (begin i work key) c may h = absurd (false≢true h)
    move_reaches b run (step i) c may h = step_reaches b run i c may (work_at b i) refl (made_by rank i c b) refl h
    move_reaches b run (leave i) c may h = absurd (false≢true h)
    move_reaches b run mend c may h = absurd (false≢true h)
    move_reaches b run (list given) c may h = absurd (false≢true h)

    -- A rule that is visited is reached.
    pub visit_reaches : (ms : List (Move K)) (b : Book K) → Run rank b → may_play rank ms b ≡ true → among w f (visits ms b) ≡ true → Reaches rank w f
    visit_reaches [] b run may h = absurd (false≢true h)
    visit_reaches (m ∷ ms) b run may h =
        let both = and_parts (may_move rank m b) (may_play rank ms (played rank m b).book) may in
        ⊎_elim (λ here. move_reaches b run m.call m.choice both.0 here)
        (λ later. visit_reaches ms (played rank m b).book (next m.call (played rank m b).reply (played rank m b).book run (move_does rank b m both.0)) both.1 later)
        (among_with w f (visit_of m.call m.choice b) (visits ms (played rank m b).book) h)

-- ---- all rules at once

abbrev all : {A : Type 0} → (A → Bool) → List A → Bool
all test [] = true
all test (x ∷ xs) = test x && all test xs

all_at : {A : Type 0} (test : A → Bool) (xs : List A) (n : ℕ) (x : A) → all test xs ≡ true → slice_get xs n ≡ Some x → test x ≡ true
all_at test [] n x h e = let no : ◌≡◌ {A = ℕ} 0 1 = cc in absurd (omega arith)
all_at test (y ∷ ys) zero x h e = ap test (sym (some_same e)) ∙ (and_parts (test y) (all test ys) h).0
all_at test (y ∷ ys) (suc n) x h e = all_at test ys n x (and_parts (test y) (all test ys) h).1 e

-- Every rule of every work is among these.
unfoldable pub covers : List Visit → Bool
covers vs = all (λ w. all (λ f. not (has_rule w f) || among w f vs) phases) works

implied : (a b : Bool) → (not a || b) ≡ true → a ≡ true → b ≡ true
implied true b h e = h
implied false b h e = absurd (false≢true e)

pub covered : (vs : List Visit) → covers vs ≡ true → (w : Work) (f : Phase) → has_rule w f ≡ true → among w f vs ≡ true
unfolding covers
covered vs h w f rule =
    implied (has_rule w f) (among w f vs)
    (all_at (λ g. not (has_rule w g) || among w g vs) phases (phase_number f) f
    (all_at (λ v. all (λ g. not (has_rule v g) || among v g vs) phases) works (work_number w) w h (work_numbered w)) (phase_numbered f)) rule
