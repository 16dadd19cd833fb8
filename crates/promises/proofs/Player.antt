-- A player of calls: any list of calls, with what their steps choose, on any book, played into a run. Assumes nothing.
use Rattle.std.proofs.Common.{◌≡◌, ℕ, zero, suc, ◌<◌, ◌≤◌, Bool, true, false, cond, not, ◌&&◌, ltb, leb, List, [], ◌∷◌, ◌++◌, length, get_or, drop, Some, None, Ok, Err, Option, Result, Ordering, sym, refl, ap, ◌∙◌, subst, arith}
use Rattle.std.proofs.lemmas.Bool.{true≢false, and_parts, not-true, leb-true, ltb-true}
use Rattle.guides.specs.declared.answer.Beside.{Beside}
use Rattle.guides.specs.declared.answer.Beside.TheVariants.{Absent, End, Stands}
use Rattle.guides.specs.declared.answer.Mended.TheVariants.{Nothing}
use Rattle.guides.specs.declared.answer.Side.{Side}
use Rattle.guides.specs.declared.answer.Side.TheVariants.{Lower, Higher}
use Rattle.guides.specs.Meaning.{Meaning, has, precedes}
use Rattle.guides.specs.Rules.{AnswersBeside}
use Rattle.records.specs.declared.answer.Damage.{Damage}
use Rattle.records.specs.declared.answer.Refusal.{Refusal}
use Rattle.records.specs.declared.answer.Refusal.TheVariants.{NoStation}
use Rattle.records.specs.declared.outcome.Outcome.{Outcome}
use Rattle.records.specs.declared.record.Phase.{Phase}
use Rattle.records.specs.declared.record.Phase.TheVariants.{Enter, Down, Check, Back, On, Seek, Lock, Valid, Take, Link, LinkBack, Attach, ReleaseNew, PutEnd, TakeVictim, Mark, UnlinkBack, Unlink, Detach, ReleaseVictim, StrikeEnd, First, FirstNext}
use Rattle.records.specs.declared.record.Place.{Place}
use Rattle.records.specs.declared.record.Station.{Station}
use Rattle.records.specs.declared.record.Task.{Task}
use Rattle.records.specs.declared.record.Work.{Work}
use Rattle.records.specs.Records.{Ruled, place, blank, standing_at}
use Rattle.rules.specs.Finding.{side_of, enter, down, check, seek}
use Rattle.rules.specs.Holding.{lock, valid}
use Rattle.rules.specs.Putting.{most_places, is_free, MayTake, take, link, link_back, release_new, put_end}
use Rattle.rules.specs.Reading.{first, first_next}
use Rattle.rules.specs.Stepping.{Choice, Turn, MayChoose, rule_of, reads, writes, back, on, changes_guide}
use Rattle.rules.specs.Striking.{take_victim, mark, unlink_back, unlink, release_victim, strike_end}
use Rattle.engine.specs.Settling.{idle}
use Rattle.engine.specs.Calling.{Left, MadeStep, task_at, beginning, Begins, leaving, Leaves, stepping, step_by, step_after, MayChooseBy, may_change_guide, MakesStep, served}
use Rattle.engine.specs.Contents.{listing, Lists}
use Rattle.promises.specs.Books.{Book, work_at}
use Rattle.promises.specs.Runs.{Call, Reply, Does, Run, next, begin, step, leave, mend, list, begun, stepped, left, mended, listed}
use Rattle.promises.proofs.Finds.{same_ok, never_ok}

-- A call, and what is chosen where it is a step.
pub record Move (K : Type 0) : Type 0 where
  pub call : Call K
  pub choice : Choice

-- What a move answers and the book that it leaves.
pub record Played (K : Type 0) : Type 0 where
  pub reply : Reply K
  pub book : Book K

-- ---- which choices are allowed, as a test

abbrev may_stand : List ℕ → ℕ → Side → Beside → Bool
may_stand xs at side Absent = not (has at xs)
may_stand xs at side End = has at xs
may_stand xs at Lower (Stands found) = precedes found at xs
may_stand xs at Higher (Stands found) = precedes at found xs

stands_so : (xs : List ℕ) (at : ℕ) (side : Side) (beside : Beside) → may_stand xs at side beside ≡ true → AnswersBeside xs at side beside
stands_so xs at side Absent h = not-true (has at xs) h
stands_so xs at side End h = h
stands_so xs at Lower (Stands found) h = h
stands_so xs at Higher (Stands found) h = h

module _ {K : Type 0} where
  abbrev none_free : List (Place K) → Bool
  none_free [] = true
  none_free (p ∷ ps) = not (is_free p.status) && none_free ps

  abbrev may_take : List (Place K) → K → Option ℕ → Bool
  may_take ps k None = none_free (drop 2 ps)
  may_take ps k (Some p) = leb 2 p && (ltb p (length ps) && (ltb p most_places && is_free (place k ps p).status))

  none_is_free : (ps : List (Place K)) (k : K) (p : ℕ) → none_free ps ≡ true → p < length ps → is_free (get_or ps p (blank k)).status ≡ true → ⊥
  none_is_free [] k p none within free = omega arith
  none_is_free (x ∷ ps) k zero none within free = true≢false (sym free ∙ not-true (is_free x.status) (and_parts (not (is_free x.status)) (none_free ps) none).0)
  none_is_free (x ∷ ps) k (suc p) none within free = none_is_free ps k p (and_parts (not (is_free x.status)) (none_free ps) none).1 (omega arith) free

  takes_none : (ps : List (Place K)) (k : K) → none_free (drop 2 ps) ≡ true → (p : ℕ) → 2 ≤ p → p < length ps → is_free (place k ps p).status ≡ true → ⊥
  takes_none [] k none p two within free = omega arith
  takes_none (x ∷ []) k none p two within free = omega arith
  takes_none (x ∷ (y ∷ ps)) k none zero two within free = omega arith
  takes_none (x ∷ (y ∷ ps)) k none (suc zero) two within free = omega arith
  takes_none (x ∷ (y ∷ ps)) k none (suc (suc p)) two within free = none_is_free ps k p none (omega arith) free

  takes_so : (ps : List (Place K)) (k : K) (o : Option ℕ) → may_take ps k o ≡ true → MayTake ps k o
  takes_so ps k None h = λ p free. takes_none ps k h p free.counts free.within free.free
  takes_so ps k (Some p) h =
      let two = and_parts (leb 2 p) (ltb p (length ps) && (ltb p most_places && is_free (place k ps p).status)) h in
      let there = and_parts (ltb p (length ps)) (ltb p most_places && is_free (place k ps p).status) two.1 in
      let few = and_parts (ltb p most_places) (is_free (place k ps p).status) there.1 in
      record { counts = leb-true 2 p two.0; within = ltb-true p (length ps) there.0; served = ltb-true p most_places few.0; free = few.1 }

  module _ (rank : K → K → Ordering) (me : ℕ) (ps : List (Place K)) (m : Meaning) (t : Task K) where
    abbrev pub may_choose : Phase → Choice → Bool
    may_choose Enter c = has c.start m.sequence
    may_choose Down c = may_stand m.sequence t.at (side_of (standing_at rank ps t.at t.key)) c.beside
    may_choose Check c = true
    may_choose Back c = true
    may_choose On c = true
    may_choose Seek c = true
    may_choose Lock c = true
    may_choose Valid c = true
    may_choose Take c = may_take ps t.key c.free
    may_choose Link c = true
    may_choose LinkBack c = true
    may_choose Attach c = true
    may_choose ReleaseNew c = true
    may_choose PutEnd c = true
    may_choose TakeVictim c = true
    may_choose Mark c = true
    may_choose UnlinkBack c = true
    may_choose Unlink c = true
    may_choose Detach c = true
    may_choose ReleaseVictim c = true
    may_choose StrikeEnd c = true
    may_choose First c = true
    may_choose FirstNext c = true

    chooses_so : (phase : Phase) (c : Choice) → may_choose phase c ≡ true → MayChoose rank me ps m t phase c
    chooses_so Enter c h = h
    chooses_so Down c h = stands_so m.sequence t.at (side_of (standing_at rank ps t.at t.key)) c.beside h
    chooses_so Check c h = tt
    chooses_so Back c h = tt
    chooses_so On c h = tt
    chooses_so Seek c h = tt
    chooses_so Lock c h = tt
    chooses_so Valid c h = tt
    chooses_so Take c h = takes_so ps t.key c.free h
    chooses_so Link c h = tt
    chooses_so LinkBack c h = tt
    chooses_so Attach c h = tt
    chooses_so ReleaseNew c h = tt
    chooses_so PutEnd c h = tt
    chooses_so TakeVictim c h = tt
    chooses_so Mark c h = tt
    chooses_so UnlinkBack c h = tt
    chooses_so Unlink c h = tt
    chooses_so Detach c h = tt
    chooses_so ReleaseVictim c h = tt
    chooses_so StrikeEnd c h = tt
    chooses_so First c h = tt
    chooses_so FirstNext c h = tt

    -- ---- the guide that a rule leaves

    abbrev Keeps : Result (Turn K) Damage → Type 0
    Keeps (Ok turn) = turn.meaning ≡ m
    Keeps (Err damage) = Unit {0}

    reads_keep : (r : Result (Outcome K) Damage) → Keeps (reads ps m r)
    reads_keep (Ok outcome) = refl
    reads_keep (Err damage) = tt

    writes_keep : (r : Result (Ruled K) Damage) → Keeps (writes ps m r)
    writes_keep (Ok ruled) = refl
    writes_keep (Err damage) = tt

    rule_keeps : (phase : Phase) (c : Choice) → changes_guide phase ≡ false → Keeps (rule_of rank me ps m t phase c)
    rule_keeps Enter c h = reads_keep (Ok (enter c.start t))
    rule_keeps Down c h = reads_keep (down rank ps t c.beside)
    rule_keeps Check c h = reads_keep (check ps t)
    rule_keeps Back c h = reads_keep (back rank me ps m t t.work)
    rule_keeps On c h = reads_keep (on rank me ps m t t.work)
    rule_keeps Seek c h = reads_keep (seek rank ps t)
    rule_keeps Lock c h = writes_keep (lock ps t me)
    rule_keeps Valid c h = writes_keep (valid ps t rank)
    rule_keeps Take c h = writes_keep (take ps t me c.free)
    rule_keeps Link c h = writes_keep (link ps t)
    rule_keeps LinkBack c h = writes_keep (link_back ps t)
    rule_keeps Attach c h = absurd (true≢false h)
    rule_keeps ReleaseNew c h = writes_keep (release_new ps t)
    rule_keeps PutEnd c h = writes_keep (put_end ps t)
    rule_keeps TakeVictim c h = writes_keep (take_victim ps t me)
    rule_keeps Mark c h = writes_keep (mark ps t)
    rule_keeps UnlinkBack c h = writes_keep (unlink_back ps t)
    rule_keeps Unlink c h = writes_keep (unlink ps t)
    rule_keeps Detach c h = absurd (true≢false h)
    rule_keeps ReleaseVictim c h = writes_keep (release_victim ps t)
    rule_keeps StrikeEnd c h = writes_keep (strike_end ps t)
    rule_keeps First c h = reads_keep (first ps t)
    rule_keeps FirstNext c h = reads_keep (first_next ps t)

  -- ---- what a move does

  abbrev begun_by : Book K → Result (List (Station K)) Refusal → Played K
  begun_by b (Ok ss) = record { reply = begun (Ok tt); book = record { places = b.places; stations = ss; guide = b.guide } }
  begun_by b (Err e) = record { reply = begun (Err e); book = b }

  abbrev stepped_by : Book K → Result (MadeStep K) Refusal → Played K
  stepped_by b (Ok made) = record {
    reply = stepped (Ok made.after.answer);
    book = record { places = made.after.places; stations = made.after.stations; guide = made.meaning };
  }
  stepped_by b (Err e) = record { reply = stepped (Err e); book = b }

  abbrev left_by : Book K → Result (Left K) Refusal → Played K
  left_by b (Ok told) = record { reply = left (Ok tt); book = record { places = told.places; stations = told.stations; guide = b.guide } }
  left_by b (Err e) = record { reply = left (Err e); book = b }

  abbrev listed_by : Book K → List K → Result (List K) Refusal → Played K
  listed_by b given (Ok keys) = record { reply = listed (Ok (length keys)) (keys ++ drop (length keys) given); book = b }
  listed_by b given (Err e) = record { reply = listed (Err e) given; book = b }

  module _ (rank : K → K → Ordering) where
    -- The step of station i on the book.
    abbrev pub made_by : ℕ → Choice → Book K → Result (MadeStep K) Refusal
    made_by i c b = stepping rank c b.places b.stations b.guide i

    abbrev played_by : Call K → Choice → Book K → Played K
    played_by (begin i work key) c b = begun_by b (beginning b.stations i work key)
    played_by (step i) c b = stepped_by b (made_by i c b)
    played_by (leave i) c b = left_by b (leaving b.places b.stations i)
    played_by mend c b = record { reply = mended Nothing; book = b }
    played_by (list given) c b = listed_by b given (listing b.places (length given))

    abbrev pub played : Move K → Book K → Played K
    played m b = played_by m.call m.choice b

    -- The move may be made so.
    abbrev may_step : ℕ → Choice → Book K → Option (Task K) → Bool
    may_step i c b None = true
    may_step i c b (Some t) = may_choose rank i b.places b.guide t t.phase c

    abbrev may_by : Call K → Choice → Book K → Bool
    may_by (begin i work key) c b = true
    may_by (step i) c b = may_step i c b (work_at b i)
    may_by (leave i) c b = true
    may_by mend c b = true
    may_by (list given) c b = true

    abbrev pub may_move : Move K → Book K → Bool
    may_move m b = may_by m.call m.choice b

    -- ---- it does what the call does

    module _ (ps : List (Place K)) (ss : List (Station K)) (m : Meaning) (i : ℕ) (c : Choice) (made : MadeStep K) where
      after_keeps : (t : Task K) → changes_guide t.phase ≡ false → (r : Result (Turn K) Damage) → rule_of rank i ps m t t.phase c ≡ r
          → step_after rank c ps ss m i t r ≡ Ok made → made.meaning ≡ m
      after_keeps t h (Ok turn) is e =
          sym (ap (λ x. x.meaning) (same_ok _ _ e)) ∙ subst (Keeps rank i ps m t) is (rule_keeps rank i ps m t t.phase c h)
      after_keeps t h (Err damage) is e = never_ok _ made e

      by_keeps : (o : Option (Task K)) → may_change_guide o ≡ false → step_by rank c ps ss m i o ≡ Ok made → made.meaning ≡ m
      by_keeps None h e = never_ok _ made e
      by_keeps (Some t) h e = after_keeps t h (rule_of rank i ps m t t.phase c) refl e

      step_keeps_guide : stepping rank c ps ss m i ≡ Ok made → may_change_guide (task_at ss i) ≡ false → made.meaning ≡ m
      step_keeps_guide = go (served ss i)
        where
          go : (x : Bool) → cond x (step_by rank c ps ss m i (get_or ss i idle).task) (Err NoStation) ≡ Ok made → may_change_guide (cond x (get_or ss i idle).task None) ≡ false → made.meaning ≡ m
          go true e h = by_keeps (get_or ss i idle).task h e
          go false e h = never_ok _ made e

    module _ (b : Book K) where
      begin_does : (i : ℕ) (work : Work) (key : K) (r : Result (List (Station K)) Refusal) → beginning b.stations i work key ≡ r
          → Does rank b (begin i work key) (begun_by b r).reply (begun_by b r).book
      begin_does i work key (Ok ss) e = (subst (λ x. Begins x b.stations (Ok tt) ss) (sym e) (refl, refl), refl, refl)
      begin_does i work key (Err r) e = (subst (λ x. Begins x b.stations (Err r) b.stations) (sym e) (refl, refl), refl, refl)

      may_so : (i : ℕ) (c : Choice) (o : Option (Task K)) → may_step i c b o ≡ true → MayChooseBy rank c b.places b.stations b.guide i o
      may_so i c None h = tt
      may_so i c (Some t) h = chooses_so rank i b.places b.guide t t.phase c h

      pub step_does : (i : ℕ) (c : Choice) → may_step i c b (work_at b i) ≡ true → (r : Result (MadeStep K) Refusal) → made_by i c b ≡ r
          → Does rank b (step i) (stepped_by b r).reply (stepped_by b r).book
      step_does i c may (Ok made) e = record {
        choice = c;
        may = may_so i c (work_at b i) may;
        does = subst (λ x. MakesStep (λ m. m) x b.places b.stations b.guide (Ok made.after.answer) made.after.places made.after.stations made.meaning) (sym e)
            (refl, refl, refl, refl);
        keeps_guide = step_keeps_guide b.places b.stations b.guide i c made e;
      }
      step_does i c may (Err r) e = record {
        choice = c;
        may = may_so i c (work_at b i) may;
        does = subst (λ x. MakesStep (λ m. m) x b.places b.stations b.guide (Err r) b.places b.stations b.guide) (sym e) (refl, refl, refl, refl);
        keeps_guide = λ h. refl;
      }

      leave_does : (i : ℕ) (r : Result (Left K) Refusal) → leaving b.places b.stations i ≡ r → Does rank b (leave i) (left_by b r).reply (left_by b r).book
      leave_does i (Ok told) e = (subst (λ x. Leaves x b.places b.stations (Ok tt) told.places told.stations) (sym e) (refl, refl, refl), refl)
      leave_does i (Err r) e = (subst (λ x. Leaves x b.places b.stations (Err r) b.places b.stations) (sym e) (refl, refl, refl), refl)

      list_does : (given : List K) (r : Result (List K) Refusal) → listing b.places (length given) ≡ r → Does rank b (list given) (listed_by b given r).reply (listed_by b given r).book
      list_does given (Ok keys) e = (subst (λ x. Lists x given (Ok (length keys)) (keys ++ drop (length keys) given)) (sym e) (refl, refl), refl)
      list_does given (Err r) e = (subst (λ x. Lists x given (Err r) given) (sym e) (refl, refl), refl)

      does_by : (call : Call K) (c : Choice) → may_by call c b ≡ true → Does rank b call (played_by call c b).reply (played_by call c b).book
      does_by (begin i work key) c h = begin_does i work key (beginning b.stations i work key) refl
      does_by (step i) c h = step_does i c h (made_by i c b) refl
      does_by (leave i) c h = leave_does i (leaving b.places b.stations i) refl
      does_by mend c h = refl
      does_by (list given) c h = list_does given (listing b.places (length given)) refl

      pub move_does : (m : Move K) → may_move m b ≡ true → Does rank b m.call (played m b).reply (played m b).book
      move_does m h = does_by m.call m.choice h

    -- ---- one move after another

    abbrev pub play : List (Move K) → Book K → Book K
    play [] b = b
    play (m ∷ ms) b = play ms (played m b).book

    abbrev pub may_play : List (Move K) → Book K → Bool
    may_play [] b = true
    may_play (m ∷ ms) b = may_move m b && may_play ms (played m b).book

    -- The run that a player makes.
    pub played_run : (ms : List (Move K)) (b : Book K) → Run rank b → may_play ms b ≡ true → Run rank (play ms b)
    played_run [] b r h = r
    played_run (m ∷ ms) b r h =
        let both = and_parts (may_move m b) (may_play ms (played m b).book) h in
        played_run ms (played m b).book (next m.call (played m b).reply (played m b).book r (move_does b m both.0)) both.1
