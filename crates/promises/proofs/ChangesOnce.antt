-- A put or a strike that answers yes has changed the keys at exactly one of its steps, one under way at most once, and every
-- other work and every other answer at none. Assumes the laws of the order, and the invariant of every book of a run.
use Rattle.std.proofs.Common.{◌≡◌, ℕ, ◌+◌, ◌≤◌, true, false, cond, not, ◌&&◌, Ok, Ordering, sym, refl, ap, ◌∙◌, true≢false, arith}
use Rattle.std.proofs.lemmas.Bool.{eq-eqb}
use Rattle.records.specs.declared.answer.Answer.{Answer}
use Rattle.records.specs.declared.answer.Answer.TheVariants.{Yes}
use Rattle.records.specs.declared.answer.Stepped.TheVariants.{Ended}
use Rattle.records.specs.declared.outcome.Outcome.{Outcome}
use Rattle.records.specs.declared.outcome.Outcome.TheVariants.{Ends, Retires}
use Rattle.records.specs.declared.record.Phase.{Phase}
use Rattle.records.specs.declared.record.Phase.TheVariants.{Enter, Down, Check, Back, On, Seek, Lock, Valid, Take, Link, LinkBack, Attach, ReleaseNew, PutEnd, TakeVictim, Mark, UnlinkBack, Unlink, Detach, ReleaseVictim, StrikeEnd, First, FirstNext}
use Rattle.records.specs.declared.record.Task.{Task}
use Rattle.records.specs.declared.record.Work.{Work}
use Rattle.records.specs.declared.record.Work.TheVariants.{Put, Strike, Look, First as FirstWork, After}
use Rattle.promises.specs.Books.{Book, keys}
use Rattle.promises.specs.Promised.{is_change, IsChangeDone, EndsWith, ChangesOnce}
use Rattle.promises.specs.Runs.{Run, step, stepped, same_keys, changes_now, changed_times}
use Rattle.promises.proofs.Passes.{clash}
use Rattle.promises.proofs.Small.{fits_put, fits_strike}
use Rattle.promises.proofs.Laws.{Laws}
use Rattle.promises.proofs.Sights.{Sight, sight_of}
use Rattle.promises.proofs.Settles.{Settling}
use Rattle.promises.proofs.Accepted.{Made, accepted_step_made}
use Rattle.promises.proofs.Invariant.{Inv, group, fits}
use Rattle.promises.proofs.Touches.{Touch, way_touches}
use Rattle.promises.proofs.Works.{some_injects}
use Rattle.promises.proofs.Doing.{done_of, is_linking, Ending, ends_so}
use Rattle.promises.proofs.Once.{end_counts, changed_known}

pub at_most_one : (p : Phase) → done_of p ≤ 1
at_most_one Enter = omega arith
at_most_one Down = omega arith
at_most_one Check = omega arith
at_most_one Back = omega arith
at_most_one On = omega arith
at_most_one Seek = omega arith
at_most_one Lock = omega arith
at_most_one Valid = omega arith
at_most_one Take = omega arith
at_most_one Link = omega arith
at_most_one LinkBack = omega arith
at_most_one Attach = omega arith
at_most_one ReleaseNew = omega arith
at_most_one PutEnd = omega arith
at_most_one TakeVictim = omega arith
at_most_one Mark = omega arith
at_most_one UnlinkBack = omega arith
at_most_one Unlink = omega arith
at_most_one Detach = omega arith
at_most_one ReleaseVictim = omega arith
at_most_one StrikeEnd = omega arith
at_most_one First = omega arith
at_most_one FirstNext = omega arith

-- A work that only reads is in no phase that has changed the keys.
reads_undone : (w : Work) (p : Phase) → fits w (group p) ≡ true → is_change w ≡ false → done_of p ≡ 0
reads_undone Put p f h = absurd (true≢false h)
reads_undone Strike p f h = absurd (true≢false h)
reads_undone Look Enter f h = refl
reads_undone Look Down f h = refl
reads_undone Look Check f h = refl
reads_undone Look Back f h = refl
reads_undone Look On f h = refl
reads_undone Look Seek f h = absurd (true≢false (sym f))
reads_undone Look Lock f h = absurd (true≢false (sym f))
reads_undone Look Valid f h = absurd (true≢false (sym f))
reads_undone Look Take f h = absurd (true≢false (sym f))
reads_undone Look Link f h = absurd (true≢false (sym f))
reads_undone Look LinkBack f h = absurd (true≢false (sym f))
reads_undone Look Attach f h = absurd (true≢false (sym f))
reads_undone Look ReleaseNew f h = absurd (true≢false (sym f))
reads_undone Look PutEnd f h = absurd (true≢false (sym f))
reads_undone Look TakeVictim f h = absurd (true≢false (sym f))
reads_undone Look Mark f h = absurd (true≢false (sym f))
reads_undone Look UnlinkBack f h = absurd (true≢false (sym f))
reads_undone Look Unlink f h = absurd (true≢false (sym f))
reads_undone Look Detach f h = absurd (true≢false (sym f))
reads_undone Look ReleaseVictim f h = absurd (true≢false (sym f))
reads_undone Look StrikeEnd f h = absurd (true≢false (sym f))
reads_undone Look First f h = absurd (true≢false (sym f))
reads_undone Look FirstNext f h = absurd (true≢false (sym f))
reads_undone FirstWork Enter f h = absurd (true≢false (sym f))
reads_undone FirstWork Down f h = absurd (true≢false (sym f))
reads_undone FirstWork Check f h = absurd (true≢false (sym f))
reads_undone FirstWork Back f h = absurd (true≢false (sym f))
reads_undone FirstWork On f h = absurd (true≢false (sym f))
reads_undone FirstWork Seek f h = absurd (true≢false (sym f))
reads_undone FirstWork Lock f h = absurd (true≢false (sym f))
reads_undone FirstWork Valid f h = absurd (true≢false (sym f))
reads_undone FirstWork Take f h = absurd (true≢false (sym f))
reads_undone FirstWork Link f h = absurd (true≢false (sym f))
reads_undone FirstWork LinkBack f h = absurd (true≢false (sym f))
reads_undone FirstWork Attach f h = absurd (true≢false (sym f))
reads_undone FirstWork ReleaseNew f h = absurd (true≢false (sym f))
reads_undone FirstWork PutEnd f h = absurd (true≢false (sym f))
reads_undone FirstWork TakeVictim f h = absurd (true≢false (sym f))
reads_undone FirstWork Mark f h = absurd (true≢false (sym f))
reads_undone FirstWork UnlinkBack f h = absurd (true≢false (sym f))
reads_undone FirstWork Unlink f h = absurd (true≢false (sym f))
reads_undone FirstWork Detach f h = absurd (true≢false (sym f))
reads_undone FirstWork ReleaseVictim f h = absurd (true≢false (sym f))
reads_undone FirstWork StrikeEnd f h = absurd (true≢false (sym f))
reads_undone FirstWork First f h = refl
reads_undone FirstWork FirstNext f h = refl
reads_undone After Enter f h = refl
reads_undone After Down f h = refl
reads_undone After Check f h = refl
reads_undone After Back f h = refl
reads_undone After On f h = refl
reads_undone After Seek f h = absurd (true≢false (sym f))
reads_undone After Lock f h = absurd (true≢false (sym f))
reads_undone After Valid f h = absurd (true≢false (sym f))
reads_undone After Take f h = absurd (true≢false (sym f))
reads_undone After Link f h = absurd (true≢false (sym f))
reads_undone After LinkBack f h = absurd (true≢false (sym f))
reads_undone After Attach f h = absurd (true≢false (sym f))
reads_undone After ReleaseNew f h = absurd (true≢false (sym f))
reads_undone After PutEnd f h = absurd (true≢false (sym f))
reads_undone After TakeVictim f h = absurd (true≢false (sym f))
reads_undone After Mark f h = absurd (true≢false (sym f))
reads_undone After UnlinkBack f h = absurd (true≢false (sym f))
reads_undone After Unlink f h = absurd (true≢false (sym f))
reads_undone After Detach f h = absurd (true≢false (sym f))
reads_undone After ReleaseVictim f h = absurd (true≢false (sym f))
reads_undone After StrikeEnd f h = absurd (true≢false (sym f))
reads_undone After First f h = absurd (true≢false (sym f))
reads_undone After FirstNext f h = absurd (true≢false (sym f))

module _ {K : Type 0} where
  -- Only the end of a strike retires a place.
  retires_at_end : {s : Sight K} {t : Task K} {o : Outcome K} {s' : Sight K} → Touch s t o s' → (q : ℕ) → o ≡ Retires q → t.phase ≡ StrikeEnd
  retires_at_end (Touch.stays calm same) q e = clash calm e
  retires_at_end (Touch.fills calm p is x hand se) q e = clash calm e
  retires_at_end (Touch.joins calm f se) q e = clash calm e
  retires_at_end (Touch.backs calm f p se) q e = clash calm e
  retires_at_end (Touch.marks calm f se) q e = clash calm e
  retires_at_end (Touch.cuts calm f se) q e = clash calm e
  retires_at_end (Touch.hands_over f oc same) q e = f

  -- How a step ended its work.
  pub data EndedBy (t : Task K) (a : Answer K) : Type 0 where
    by_yes : done_of t.phase ≡ 1 → is_linking t.phase ≡ false → is_change t.work ≡ true → a ≡ Yes → EndedBy t a
    by_other : done_of t.phase ≡ 0 → is_linking t.phase ≡ false → (a ≡ Yes → is_change t.work ≡ false) → EndedBy t a

  module _ (rank : K → K → Ordering) (s : Sight K) (inv : Inv rank s) (i : ℕ) (a : Answer K) (n : ℕ) (s' : Sight K) (made : Made rank s i (Ended a n) s') where
    fit : (p : Phase) → made.task.phase ≡ p → fits made.task.work (group p) ≡ true
    fit p e = sym (ap (λ q. fits made.task.work (group q)) e) ∙ inv.fit i made.task made.under_way

    of_ending : is_linking made.task.phase ≡ false → Ending made.task a → EndedBy made.task a
    of_ending still (Ending.put_done ph is) = EndedBy.by_yes (ap done_of ph) still (ap is_change (fits_put made.task.work (fit PutEnd ph))) is
    of_ending still (Ending.unchanged undone reads) = EndedBy.by_other undone still reads

    of_retiring : made.task.phase ≡ StrikeEnd → a ≡ Yes → EndedBy made.task a
    of_retiring ph is = EndedBy.by_yes (ap done_of ph) (ap is_linking ph) (ap is_change (fits_strike made.task.work (fit StrikeEnd ph))) is

    pub ended_by : (o : Outcome K) → made.outcome ≡ o → Settling made.mid i made.task o (Ended a n) s' → EndedBy made.task a
    ended_by o oc (Settling.goes u e ac se) = let z : ◌≡◌ {A = ℕ} 0 1 = cc ac in absurd (omega arith)
    ended_by o oc (Settling.waits e ac se) = let z : ◌≡◌ {A = ℕ} 0 1 = cc ac in absurd (omega arith)
    ended_by o oc (Settling.ends x e ac se) =
        let same : a ≡ x = cc ac in
        let so = ends_so made.way a (oc ∙ e ∙ ap Ends (sym same)) in
        of_ending so.0 so.1
    ended_by o oc (Settling.retires q e ac w others se) =
        let is : a ≡ Yes = cc ac in
        of_retiring (retires_at_end (way_touches made.way) q (oc ∙ e)) is

module _ {K : Type 0} (rank : K → K → Ordering) (laws : Laws rank) (inv : (b : Book K) → Run rank b → Inv rank (sight_of b)) where
  module _ (b : Book K) (r : Run rank b) (i : ℕ) (t : Task K) (a : Answer K) (n : ℕ) (b' : Book K) (ended : EndsWith rank b i t a n b') where
    made : Made rank (sight_of b) i (Ended a n) (sight_of b')
    made = accepted_step_made rank i b.places b.stations b.guide (Ended a n) b'.places b'.stations b'.guide ended.1

    same_task : made.task ≡ t
    same_task = some_injects made.under_way ended.0

    after : Inv rank (sight_of b')
    after = inv b' (Run.next (step i) (stepped (Ok (Ended a n))) b' r ended.1)

    adds_none : is_linking made.task.phase ≡ false → changes_now rank i b (step i) (stepped (Ok (Ended a n))) b' ≡ 0
    adds_none still =
        ap (λ e. cond ((e && true) && not (same_keys rank (keys b) (keys b'))) 1 0) (eq-eqb i i refl)
        ∙ end_counts rank laws b (inv b r) b' after i (Ended a n) made still

    total : (m : ℕ) → done_of made.task.phase ≡ m → is_linking made.task.phase ≡ false
        → changed_times rank r i + changes_now rank i b (step i) (stepped (Ok (Ended a n))) b' ≡ m
    total m done still =
        let x = changed_known rank laws inv r i made.task made.under_way in
        let y = adds_none still in
        omega arith

    how_it_ended : EndedBy made.task a
    how_it_ended = ended_by rank (sight_of b) (inv b r) i a n (sight_of b') made made.outcome refl made.settling

    yes_by : EndedBy made.task a → a ≡ Yes → is_change t.work ≡ true → changed_times rank r i + changes_now rank i b (step i) (stepped (Ok (Ended a n))) b' ≡ 1
    yes_by (EndedBy.by_yes done still change is) said works = total 1 done still
    yes_by (EndedBy.by_other done still reads) said works = absurd (true≢false (sym works ∙ ap (λ u. is_change u.work) (sym same_task) ∙ reads said))

    other_by : EndedBy made.task a → (IsChangeDone t.work a → ⊥) → changed_times rank r i + changes_now rank i b (step i) (stepped (Ok (Ended a n))) b' ≡ 0
    other_by (EndedBy.by_yes done still change is) other = absurd (other (ap (λ u. is_change u.work) (sym same_task) ∙ change, is))
    other_by (EndedBy.by_other done still reads) other = total 0 done still

  pub changes_once : ChangesOnce rank
  changes_once = record {
    yes_once = λ b r i t n b' ended change. yes_by b r i t Yes n b' ended (how_it_ended b r i t Yes n b' ended) refl change;
    under_way_at_most_once = λ b r i t is change. ap_le (changed_known rank laws inv r i t is) (at_most_one t.phase);
    readers_never = λ b r i t is reads. changed_known rank laws inv r i t is ∙ reads_undone t.work t.phase ((inv b r).fit i t is) reads;
    others_never = λ b r i t a n b' ended other. other_by b r i t a n b' ended (how_it_ended b r i t a n b' ended) other;
  }
    where
      ap_le : {x y : ℕ} → x ≡ y → y ≤ 1 → x ≤ 1
      ap_le e h = omega arith
