-- That no step of a working station is refused. Assumes the laws of the order and what holds between calls.
use Rattle.std.proofs.Common.{◌≡◌, ℕ, ◌<◌, ◌≤◌, Bool, true, false, cond, ltb, leb, List, length, get_or, Some, None, Ok, Err, Result, Ordering, sym, refl, ap, ◌∙◌, subst, arith}
use Rattle.std.proofs.lemmas.Bool.{true≢false, lt-ltb, cond-true}
use Rattle.guides.specs.Meaning.{Meaning, low}
use Rattle.guides.specs.Rules.{attaching}
use Rattle.guides.proofs.Sequences.{attached, detached}
use Rattle.records.specs.declared.answer.Damage.{Damage}
use Rattle.records.specs.declared.answer.Damage.TheVariants.{NoPlace, Guide}
use Rattle.records.specs.declared.answer.Refusal.{Refusal}
use Rattle.records.specs.declared.answer.Refusal.TheVariants.{NoStation}
use Rattle.records.specs.declared.outcome.Outcome.{Outcome}
use Rattle.records.specs.declared.outcome.Outcome.TheVariants.{Goes, Retires, Ends}
use Rattle.records.specs.declared.answer.Answer.TheVariants.{Yes}
use Rattle.records.specs.declared.record.Phase.{Phase}
use Rattle.records.specs.declared.record.Phase.TheVariants.{Enter, Down, Check, Back, On, Seek, Lock, Valid, Take, Link, LinkBack, Attach, ReleaseNew, PutEnd, TakeVictim, Mark, UnlinkBack, Unlink, Detach, ReleaseVictim, StrikeEnd, First, FirstNext}
use Rattle.records.specs.declared.record.Place.{Place}
use Rattle.records.specs.declared.record.Station.{Station}
use Rattle.records.specs.declared.record.Status.TheVariants.{Chained, InHand}
use Rattle.records.specs.declared.record.Task.{Task}
use Rattle.records.specs.declared.record.Work.{Work}
use Rattle.records.specs.declared.record.Work.TheVariants.{Put, Strike, Look, First as FirstWork, After}
use Rattle.records.specs.Records.{Ruled, place, needing, standing_at, written, with_next, with_prev, with_mark, with_status, released, into}
use Rattle.rules.specs.Finding.{down_by, check_by, back_look_by, back_after_by, back_change_by, seek_by}
use Rattle.rules.specs.Reading.{on_look_by, on_after_by, first_by, first_next_by}
use Rattle.rules.specs.Holding.{lock_by, valid_by}
use Rattle.rules.specs.Putting.{take_by}
use Rattle.rules.specs.Striking.{take_victim_by}
use Rattle.rules.specs.Stepping.{Choice, Turn, as_damage, reads, writes, guides, back, on, rule_of, changes_guide}
use Rattle.engine.specs.Calling.{MakesStep, served, task_at, stepping, step_by, step_after}
use Rattle.engine.specs.Settling.{idle, settled}
use Rattle.promises.specs.Books.{Book}
use Rattle.promises.specs.Promised.{UnderWay}
use Rattle.promises.specs.Runs.{Does, step, stepped}
use Rattle.promises.proofs.Laws.{Laws}
use Rattle.promises.proofs.Sights.{sight, sight_of}
use Rattle.promises.proofs.Finds.{never_ok, next_seen}
use Rattle.promises.proofs.Invariant.{Inv, rung, group, is_joined, is_handing}
use Rattle.promises.proofs.Seats.{at_within, at_not_high, joined_within, joined_next_within, handed_within, seen_next_within}
use Rattle.promises.proofs.Granted.{attach_granted, detach_granted}

-- ---- rules whose places are there

module _ {K A : Type 0} (k : K) (ps : List (Place K)) where
  finds : (p : ℕ) (rule : Place K → Result A Damage) → p < length ps → needing k ps p rule ≡ rule (place k ps p)
  finds p rule h = cond-true (ltb p (length ps)) (rule (place k ps p)) (Err NoPlace) (lt-ltb p (length ps) h)

  finds_two : (p : ℕ) (q : Place K → ℕ) (f : Place K → Place K → A) → p < length ps → q (place k ps p) < length ps
      → needing k ps p (λ x. needing k ps (q x) (λ y. Ok (f x y))) ≡ Ok (f (place k ps p) (place k ps (q (place k ps p))))
  finds_two p q f h l = finds p (λ x. needing k ps (q x) (λ y. Ok (f x y))) h ∙ finds (q (place k ps p)) (λ y. Ok (f (place k ps p) y)) l

-- A rule that was accepted, and whether it left the guide alone.
pub record Turned {K : Type 0} (m : Meaning) (may_change : Bool) (told : Result (Turn K) Damage) : Type 0 where
  pub turn : Turn K
  pub is : told ≡ Ok turn
  pub keeps : may_change ≡ false → turn.meaning ≡ m

module _ {K : Type 0} (ps : List (Place K)) (m : Meaning) (b : Bool) where
  read_turned : (o : Outcome K) (told : Result (Outcome K) Damage) → told ≡ Ok o → Turned m b (reads ps m told)
  read_turned o told e = record { turn = record { outcome = o; places = ps; meaning = m }; is = ap (reads ps m) e; keeps = λ _. refl }

  written_turned : (r : Ruled K) (told : Result (Ruled K) Damage) → told ≡ Ok r → Turned m b (writes ps m told)
  written_turned r told e = record { turn = record { outcome = r.outcome; places = r.places; meaning = m }; is = ap (writes ps m) e; keeps = λ _. refl }

  guided_turned : (o : Outcome K) (after : Meaning) (told : Result Meaning Damage) → told ≡ Ok after → b ≡ true → Turned m b (guides ps m o told)
  guided_turned o after told e may = record { turn = record { outcome = o; places = ps; meaning = after }; is = ap (guides ps m o) e; keeps = λ no. absurd (true≢false (sym may ∙ no)) }

module _ {K : Type 0} (rank : K → K → Ordering) (laws : Laws rank) (ps : List (Place K)) (ss : List (Station K)) (m : Meaning) (inv : Inv rank (sight ps ss m))
    (i : ℕ) (t : Task K) (under_way : task_at ss i ≡ Some t) where
  at_there : t.at < length ps
  at_there = at_within rank laws (sight ps ss m) inv i t under_way

  low_there : low < length ps
  low_there = let two : 2 ≤ length ps = inv.two in omega arith

  next_there : (p : ℕ) → p < length ps → (sight ps ss m).next p < length ps → (place t.key ps p).next < length ps
  next_there p h l = subst (λ n. n < length ps) (sym (next_seen ps ss m t.key p h)) l

  -- From SEEK on.
  late_next_there : leb 3 (group t.phase) ≡ true → (place t.key ps t.at).next < length ps
  late_next_there late =
      next_there t.at at_there
      (seen_next_within rank laws (sight ps ss m) inv i t.at (inv.seen i t under_way) (at_not_high rank laws (sight ps ss m) inv i t under_way late))

  joined_there : is_joined (rung t.phase) ≡ true → t.other < length ps
  joined_there h = joined_within rank laws (sight ps ss m) inv i t under_way h

  joined_next_there : is_joined (rung t.phase) ≡ true → (place t.key ps t.other).next < length ps
  joined_next_there h = next_there t.other (joined_there h) (joined_next_within rank laws (sight ps ss m) inv i t under_way h)

  handed_there : is_handing (rung t.phase) ≡ true → t.other < length ps
  handed_there h = handed_within rank laws (sight ps ss m) inv i t under_way h

  one : {A : Type 0} (p : ℕ) (f : Place K → A) → p < length ps → needing t.key ps p (λ x. Ok (f x)) ≡ Ok (f (place t.key ps p))
  one p f h = finds t.key ps p (λ x. Ok (f x)) h

  back_turned : (work : Work) → Turned m false (reads ps m (back rank i ps m t work))
  back_turned Put = read_turned ps m false _ (back rank i ps m t Put) (one t.at (λ at. back_change_by (standing_at rank ps t.at t.key) at t) at_there)
  back_turned Strike = read_turned ps m false _ (back rank i ps m t Strike) (one t.at (λ at. back_change_by (standing_at rank ps t.at t.key) at t) at_there)
  back_turned Look = read_turned ps m false _ (back rank i ps m t Look) (one t.at (λ at. back_look_by (standing_at rank ps t.at t.key) at t) at_there)
  back_turned FirstWork = read_turned ps m false _ (back rank i ps m t FirstWork) refl
  back_turned After = read_turned ps m false _ (back rank i ps m t After) (one t.at (λ at. back_after_by (standing_at rank ps t.at t.key) at t) at_there)

  on_turned : (work : Work) → Turned m false (reads ps m (on rank i ps m t work))
  on_turned Put = read_turned ps m false _ (on rank i ps m t Put) refl
  on_turned Strike = read_turned ps m false _ (on rank i ps m t Strike) refl
  on_turned Look = read_turned ps m false _ (on rank i ps m t Look) (one t.at (λ at. on_look_by (standing_at rank ps t.at t.key) at t) at_there)
  on_turned FirstWork = read_turned ps m false _ (on rank i ps m t FirstWork) refl
  on_turned After = read_turned ps m false _ (on rank i ps m t After) (one t.at (λ at. on_after_by (standing_at rank ps t.at t.key) at t) at_there)

  pub rule_turned : (phase : Phase) → t.phase ≡ phase → (c : Choice) → Turned m (changes_guide phase) (rule_of rank i ps m t phase c)
  rule_turned Enter e c = read_turned ps m false _ _ refl
  rule_turned Down e c = read_turned ps m false _ _ (one t.at (λ at. down_by (standing_at rank ps t.at t.key) c.beside t) at_there)
  rule_turned Check e c = read_turned ps m false _ _ (one t.at (λ at. check_by at t) at_there)
  rule_turned Back e c = back_turned t.work
  rule_turned On e c = on_turned t.work
  rule_turned Seek e c =
      read_turned ps m false _ _ (finds_two t.key ps t.at (λ at. at.next) (λ at next. seek_by (standing_at rank ps at.next t.key) at t) at_there (late_next_there (ap (λ x. leb 3 (group x)) e)))
  rule_turned Lock e c = written_turned ps m false _ _ (one t.at (λ below. lock_by ps t i below) at_there)
  rule_turned Valid e c =
      written_turned ps m false _ _
      (finds_two t.key ps t.at (λ at. at.next) (λ below next. valid_by ps t t.work below.marked (standing_at rank ps below.next t.key)) at_there (late_next_there (ap (λ x. leb 3 (group x)) e)))
  rule_turned Take e c = written_turned ps m false _ _ (one t.at (λ below. take_by ps t i c.free below) at_there)
  rule_turned Link e c =
      written_turned ps m false _ _
      (finds_two t.key ps t.at (λ below. t.other)
      (λ below new. record { outcome = Goes (into LinkBack t); places = written t.key t.other (with_status Chained) (written t.key t.at (with_next t.other) ps) })
      at_there (handed_there (ap (λ x. is_handing (rung x)) e)))
  rule_turned LinkBack e c =
      written_turned ps m false _ _
      (finds_two t.key ps t.other (λ new. new.next)
      (λ new next. record { outcome = Goes (into Attach t); places = written t.key new.next (with_prev t.other) ps })
      (joined_there (ap (λ x. is_joined (rung x)) e)) (joined_next_there (ap (λ x. is_joined (rung x)) e)))
  rule_turned Attach e c =
      let there = joined_there (ap (λ x. is_joined (rung x)) e) in
      guided_turned ps m true _ (attached t.at t.other m) _
      (finds t.key ps t.other (λ new. as_damage Guide (attaching t.at t.other new.next m)) there
      ∙ ap (λ n. as_damage Guide (attaching t.at t.other n m)) (next_seen ps ss m t.key t.other there)
      ∙ ap (as_damage Guide) (attach_granted rank laws (sight ps ss m) inv i t under_way (ap rung e)))
      refl
  rule_turned ReleaseNew e c =
      written_turned ps m false _ _ (one t.other (λ new. record { outcome = Goes (into PutEnd t); places = released t.key t.other ps }) (joined_there (ap (λ x. is_joined (rung x)) e)))
  rule_turned PutEnd e c = written_turned ps m false _ _ (one t.at (λ below. record { outcome = Ends Yes; places = released t.key t.at ps }) at_there)
  rule_turned TakeVictim e c =
      written_turned ps m false _ _ (finds_two t.key ps t.at (λ at. at.next) (λ below victim. take_victim_by ps t i below victim) at_there (late_next_there (ap (λ x. leb 3 (group x)) e)))
  rule_turned Mark e c =
      written_turned ps m false _ _ (one t.other (λ victim. record { outcome = Goes (into UnlinkBack t); places = written t.key t.other with_mark ps }) (joined_there (ap (λ x. is_joined (rung x)) e)))
  rule_turned UnlinkBack e c =
      written_turned ps m false _ _
      (finds_two t.key ps t.other (λ victim. victim.next)
      (λ victim next. record { outcome = Goes (into Unlink t); places = written t.key victim.next (with_prev t.at) ps })
      (joined_there (ap (λ x. is_joined (rung x)) e)) (joined_next_there (ap (λ x. is_joined (rung x)) e)))
  rule_turned Unlink e c =
      written_turned ps m false _ _
      (finds_two t.key ps t.at (λ below. t.other)
      (λ below victim. record { outcome = Goes (into Detach t); places = written t.key t.other (with_status InHand) (written t.key t.at (with_next victim.next) ps) })
      at_there (joined_there (ap (λ x. is_joined (rung x)) e)))
  rule_turned Detach e c =
      guided_turned ps m true _ (detached t.other m) _ (ap (as_damage Guide) (detach_granted rank laws (sight ps ss m) inv i t under_way (ap rung e))) refl
  rule_turned ReleaseVictim e c =
      written_turned ps m false _ _ (one t.other (λ victim. record { outcome = Goes (into StrikeEnd t); places = released t.key t.other ps }) (handed_there (ap (λ x. is_handing (rung x)) e)))
  rule_turned StrikeEnd e c =
      written_turned ps m false _ _
      (finds_two t.key ps t.at (λ below. t.other) (λ below victim. record { outcome = Retires t.other; places = released t.key t.at ps }) at_there (handed_there (ap (λ x. is_handing (rung x)) e)))
  rule_turned First e c = read_turned ps m false _ _ (one low (λ at. first_by at t) low_there)
  rule_turned FirstNext e c = read_turned ps m false _ _ (one t.at (λ at. first_next_by at t) at_there)

  -- ---- the step

  step_told : (c : Choice) → stepping rank c ps ss m i ≡ step_after rank c ps ss m i t (rule_of rank i ps m t t.phase c)
  step_told c = go (served ss i) under_way
    where
      go : (b : Bool) → cond b (get_or ss i idle).task None ≡ Some t
          → cond b (step_by rank c ps ss m i (get_or ss i idle).task) (Err NoStation) ≡ step_after rank c ps ss m i t (rule_of rank i ps m t t.phase c)
      go true e = ap (step_by rank c ps ss m i) e
      go false e = let z : ◌≡◌ {A = ℕ} 0 1 = cc in absurd (omega arith)

  pub step_accepted : (c : Choice) (turn : Turn K) → rule_of rank i ps m t t.phase c ≡ Ok turn
      → stepping rank c ps ss m i ≡ Ok (record { after = settled i t ss turn.outcome turn.places; meaning = turn.meaning })
  step_accepted c turn e = step_told c ∙ ap (step_after rank c ps ss m i t) e

module _ {K : Type 0} (rank : K → K → Ordering) (laws : Laws rank) (b : Book K) (inv : Inv rank (sight_of b)) where
  pub steps_accepted : (i : ℕ) (t : Task K) (e : Refusal) (b' : Book K) → UnderWay rank b i t → Does rank b (step i) (stepped (Err e)) b' → ⊥
  steps_accepted i t e b' under_way d =
      let turned = rule_turned rank laws b.places b.stations b.guide inv i t under_way t.phase refl d.choice in
      let told = step_accepted rank laws b.places b.stations b.guide inv i t under_way d.choice turned.turn turned.is in
      let made = subst (λ r. MakesStep (λ m. m) r b.places b.stations b.guide (Err e) b'.places b'.stations b'.guide) told d.does in
      never_ok e _ made.0
