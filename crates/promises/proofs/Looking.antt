-- That only LOCK and TAKE-VICTIM wait, so that a look never does. Assumes the invariant of every book of a run.
use Rattle.std.proofs.Common.{◌≡◌, ℕ, Bool, true, false, ◌⊎◌, Ok, Ordering, sym, refl, ap, ◌∙◌, inl, inr, arith}
use Rattle.std.proofs.lemmas.Bool.{true≢false}
use Rattle.records.specs.declared.answer.Stepped.TheVariants.{Waits as Waited}
use Rattle.records.specs.declared.outcome.Outcome.{Outcome}
use Rattle.records.specs.declared.outcome.Outcome.TheVariants.{Goes, Waits, Ends, Retires}
use Rattle.records.specs.declared.record.Phase.TheVariants.{Lock, TakeVictim}
use Rattle.records.specs.declared.record.Task.{Task}
use Rattle.records.specs.declared.record.Work.TheVariants.{Look}
use Rattle.promises.specs.Books.{Book}
use Rattle.promises.specs.Promised.{UnderWay}
use Rattle.promises.specs.Runs.{Run, Does, step, stepped}
use Rattle.promises.proofs.Sights.{Sight, sight_of}
use Rattle.promises.proofs.Views.{Way}
use Rattle.promises.proofs.Settles.{Settling}
use Rattle.promises.proofs.Accepted.{accepted_step_made}
use Rattle.promises.proofs.Invariant.{Inv, fits, group}
use Rattle.promises.proofs.Works.{some_injects}

abbrev is_waiting : {K : Type 0} → Outcome K → Bool
is_waiting (Goes u) = false
is_waiting Waits = true
is_waiting (Ends a) = false
is_waiting (Retires p) = false

waits_not : {K P : Type 0} {o x : Outcome K} → o ≡ x → is_waiting x ≡ false → o ≡ Waits → P
waits_not e calm h = absurd (true≢false (sym (ap is_waiting h) ∙ ap is_waiting e ∙ calm))

module _ {K : Type 0} {rank : K → K → Ordering} {s : Sight K} {me : ℕ} {t : Task K} {o : Outcome K} {s' : Sight K} where
  pub waits_at_a_lock : Way rank s me t o s' → o ≡ Waits → (t.phase ≡ Lock) ⊎ (t.phase ≡ TakeVictim)
  waits_at_a_lock (Way.strays x0 x1 x2) e = waits_not x1 refl e
  waits_at_a_lock (Way.enters x0 x1 x2 x3 x4) e = waits_not x3 refl e
  waits_at_a_lock (Way.down_here x0 x1 x2 x3) e = waits_not x2 refl e
  waits_at_a_lock (Way.down_lost x0 x1 x2 x3) e = waits_not x2 refl e
  waits_at_a_lock (Way.down_last x0 x1 x2 x3 x4 x5 x6) e = waits_not x5 refl e
  waits_at_a_lock (Way.down_on x0 x1 x2 x3 x4 x5 x6) e = waits_not x5 refl e
  waits_at_a_lock (Way.check_marked x0 x1 x2 x3) e = waits_not x2 refl e
  waits_at_a_lock (Way.check_unmarked x0 x1 x2 x3) e = waits_not x2 refl e
  waits_at_a_lock (Way.back_look_yes x0 x1 x2 x3 x4 x5) e = waits_not x4 refl e
  waits_at_a_lock (Way.back_look_marked x0 x1 x2 x3 x4 x5) e = waits_not x4 refl e
  waits_at_a_lock (Way.back_look_above x0 x1 x2 x3 x4) e = waits_not x3 refl e
  waits_at_a_lock (Way.back_look_on x0 x1 x2 x3 x4) e = waits_not x3 refl e
  waits_at_a_lock (Way.back_after_above x0 x1 x2 x3 x4) e = waits_not x3 refl e
  waits_at_a_lock (Way.back_after_on x0 x1 x2 x3 x4) e = waits_not x3 refl e
  waits_at_a_lock (Way.back_change_above x0 x1 x2 x3 x4) e = waits_not x3 refl e
  waits_at_a_lock (Way.back_change_seek x0 x1 x2 x3 x4) e = waits_not x3 refl e
  waits_at_a_lock (Way.on_look_next x0 x1 x2 x3 x4) e = waits_not x3 refl e
  waits_at_a_lock (Way.on_look_marked x0 x1 x2 x3 x4 x5) e = waits_not x4 refl e
  waits_at_a_lock (Way.on_look_yes x0 x1 x2 x3 x4 x5) e = waits_not x4 refl e
  waits_at_a_lock (Way.on_look_no x0 x1 x2 x3 x4) e = waits_not x3 refl e
  waits_at_a_lock (Way.on_after_next x0 x1 x2 x3 x4) e = waits_not x3 refl e
  waits_at_a_lock (Way.on_after_missing x0 x1 x2 x3 x4) e = waits_not x3 refl e
  waits_at_a_lock (Way.on_after_marked x0 x1 x2 x3 x4 x5) e = waits_not x4 refl e
  waits_at_a_lock (Way.on_after_found x0 x1 x2 x3 x4 x5 x6 x7) e = waits_not x6 refl e
  waits_at_a_lock (Way.seek_next x0 x1 x2 x3 x4) e = waits_not x3 refl e
  waits_at_a_lock (Way.seek_lock x0 x1 x2 x3 x4) e = waits_not x3 refl e
  waits_at_a_lock (Way.lock_waits x0 x1 x2 x3) e = inl x0
  waits_at_a_lock (Way.lock_taken x0 x1 x2 x3 x4) e = waits_not x3 refl e
  waits_at_a_lock (Way.valid_again x0 x1 x2 x3 x4) e = waits_not x3 refl e
  waits_at_a_lock (Way.valid_put_no x0 x1 x2 x3 x4 x5) e = waits_not x4 refl e
  waits_at_a_lock (Way.valid_take x0 x1 x2 x3 x4 x5) e = waits_not x4 refl e
  waits_at_a_lock (Way.valid_strike_no x0 x1 x2 x3 x4 x5) e = waits_not x4 refl e
  waits_at_a_lock (Way.valid_victim x0 x1 x2 x3 x4 x5) e = waits_not x4 refl e
  waits_at_a_lock (Way.take_none x0 x1 x2 x3) e = waits_not x2 refl e
  waits_at_a_lock (Way.take_some x0 x1 x2 x3 x4 x5 x6) e = waits_not x5 refl e
  waits_at_a_lock (Way.links x0 x1 x2) e = waits_not x1 refl e
  waits_at_a_lock (Way.links_back x0 x1 x2 x3) e = waits_not x2 refl e
  waits_at_a_lock (Way.attaches x0 x1 x2 x3 x4 x5) e = waits_not x4 refl e
  waits_at_a_lock (Way.releases_new x0 x1 x2) e = waits_not x1 refl e
  waits_at_a_lock (Way.put_ends x0 x1 x2) e = waits_not x1 refl e
  waits_at_a_lock (Way.victim_waits x0 x1 x2 x3) e = inr x0
  waits_at_a_lock (Way.victim_taken x0 x1 x2 x3 x4) e = waits_not x3 refl e
  waits_at_a_lock (Way.marks x0 x1 x2) e = waits_not x1 refl e
  waits_at_a_lock (Way.unlinks_back x0 x1 x2 x3) e = waits_not x2 refl e
  waits_at_a_lock (Way.unlinks x0 x1 x2) e = waits_not x1 refl e
  waits_at_a_lock (Way.detaches x0 x1 x2 x3 x4) e = waits_not x3 refl e
  waits_at_a_lock (Way.releases_victim x0 x1 x2) e = waits_not x1 refl e
  waits_at_a_lock (Way.strike_ends x0 x1 x2 x3) e = waits_not x2 refl e
  waits_at_a_lock (Way.first_missing x0 x1 x2 x3) e = waits_not x2 refl e
  waits_at_a_lock (Way.first_on_next x0 x1 x2 x3) e = waits_not x2 refl e
  waits_at_a_lock (Way.first_marked x0 x1 x2 x3) e = waits_not x2 refl e
  waits_at_a_lock (Way.first_found x0 x1 x2 x3 x4 x5) e = waits_not x4 refl e

module _ {K : Type 0} (rank : K → K → Ordering) (inv : (b : Book K) → Run rank b → Inv rank (sight_of b)) where
  pub waits_so : {m : Sight K} {i : ℕ} {t : Task K} {o : Outcome K} {s' : Sight K} → Settling m i t o Waited s' → o ≡ Waits
  waits_so (Settling.goes u oc ac se) = let z : ◌≡◌ {A = ℕ} 0 1 = cc in absurd (omega arith)
  waits_so (Settling.waits oc ac se) = oc
  waits_so (Settling.ends x oc ac se) = let z : ◌≡◌ {A = ℕ} 0 1 = cc in absurd (omega arith)
  waits_so (Settling.retires q oc ac w others se) = let z : ◌≡◌ {A = ℕ} 0 1 = cc in absurd (omega arith)

  -- A look comes to neither.
  pub look_not_there : (t : Task K) → fits t.work (group t.phase) ≡ true → t.work ≡ Look → (t.phase ≡ Lock) ⊎ (t.phase ≡ TakeVictim) → ⊥
  look_not_there t fit w (inl f) = true≢false (sym fit ∙ ap (λ v. fits v (group t.phase)) w ∙ ap (λ g. fits Look (group g)) f)
  look_not_there t fit w (inr f) = true≢false (sym fit ∙ ap (λ v. fits v (group t.phase)) w ∙ ap (λ g. fits Look (group g)) f)

  pub looks_never_wait : (b : Book K) (r : Run rank b) (i : ℕ) (t : Task K) (b' : Book K) → UnderWay rank b i t → t.work ≡ Look → Does rank b (step i) (stepped (Ok Waited)) b' → ⊥
  looks_never_wait b r i t b' is w d =
      let made = accepted_step_made rank i b.places b.stations b.guide Waited b'.places b'.stations b'.guide d in
      look_not_there made.task ((inv b r).fit i made.task made.under_way) (ap (λ u. u.work) (some_injects made.under_way is) ∙ w)
      (waits_at_a_lock made.way (waits_so made.settling))
