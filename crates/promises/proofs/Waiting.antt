-- Which works wait and for which lock, that a look never waits, and what a step that does not wait answers. Assumes what holds
-- between calls, for looks.
use Rattle.std.proofs.Common.{◌≡◌, ℕ, Bool, true, false, leb, ◌⊎◌, Some, Ok, Ordering, sym, refl, ap, ◌∙◌, subst, inl, inr, ⊎_elim, arith}
use Rattle.std.proofs.lemmas.Bool.{true≢false, false≢true}
use Rattle.records.specs.declared.answer.Answer.{Answer}
use Rattle.records.specs.declared.answer.Answer.TheVariants.{Yes}
use Rattle.records.specs.declared.answer.Stepped.{Stepped}
use Rattle.records.specs.declared.answer.Stepped.TheVariants.{Moved, Waits as Waited, Ended}
use Rattle.records.specs.declared.outcome.Outcome.{Outcome}
use Rattle.records.specs.declared.outcome.Outcome.TheVariants.{Goes, Waits, Ends, Retires}
use Rattle.records.specs.declared.record.Phase.TheVariants.{Lock, TakeVictim}
use Rattle.records.specs.declared.record.Task.{Task}
use Rattle.records.specs.declared.record.Work.TheVariants.{Look}
use Rattle.records.specs.Records.{held_by_other}
use Rattle.promises.specs.Books.{Book}
use Rattle.promises.specs.Promised.{UnderWay, is_change}
use Rattle.promises.specs.Runs.{Does, step, stepped}
use Rattle.promises.proofs.Sights.{Sight, sight_of}
use Rattle.promises.proofs.Settles.{Settling}
use Rattle.promises.proofs.Views.{Way}
use Rattle.promises.proofs.Accepted.{Made, accepted_step_made}
use Rattle.promises.proofs.Invariant.{Inv, group}
use Rattle.promises.proofs.Tidy.{late_changes}

abbrev is_waits : {K : Type 0} → Outcome K → Bool
is_waits (Goes u) = false
is_waits Waits = true
is_waits (Ends a) = false
is_waits (Retires p) = false

never_waits : {K P : Type 0} {o x : Outcome K} → o ≡ x → is_waits x ≡ false → o ≡ Waits → P
never_waits is differs e = absurd (true≢false (sym (ap is_waits e) ∙ ap is_waits is ∙ differs))

-- A work that waits does so in LOCK for at, or for the victim that follows at.
module _ {K : Type 0} (s : Sight K) (me : ℕ) (t : Task K) where
  abbrev pub IsHeldUp : Type 0
  IsHeldUp = ((t.phase ≡ Lock) × (held_by_other me (s.lock t.at) ≡ true)) ⊎ ((t.phase ≡ TakeVictim) × (held_by_other me (s.lock (s.next t.at)) ≡ true))

module _ {K : Type 0} {rank : K → K → Ordering} {s : Sight K} {me : ℕ} {t : Task K} {o : Outcome K} {s' : Sight K} where
  pub way_waits : Way rank s me t o s' → o ≡ Waits → IsHeldUp s me t
  way_waits (Way.strays x0 x1 x2) e = never_waits x1 refl e
  way_waits (Way.enters x0 x1 x2 x3 x4) e = never_waits x3 refl e
  way_waits (Way.down_here x0 x1 x2 x3) e = never_waits x2 refl e
  way_waits (Way.down_lost x0 x1 x2 x3) e = never_waits x2 refl e
  way_waits (Way.down_last x0 x1 x2 x3 x4 x5 x6) e = never_waits x5 refl e
  way_waits (Way.down_on x0 x1 x2 x3 x4 x5 x6) e = never_waits x5 refl e
  way_waits (Way.check_marked x0 x1 x2 x3) e = never_waits x2 refl e
  way_waits (Way.check_unmarked x0 x1 x2 x3) e = never_waits x2 refl e
  way_waits (Way.back_look_yes x0 x1 x2 x3 x4 x5) e = never_waits x4 refl e
  way_waits (Way.back_look_marked x0 x1 x2 x3 x4 x5) e = never_waits x4 refl e
  way_waits (Way.back_look_above x0 x1 x2 x3 x4) e = never_waits x3 refl e
  way_waits (Way.back_look_on x0 x1 x2 x3 x4) e = never_waits x3 refl e
  way_waits (Way.back_after_above x0 x1 x2 x3 x4) e = never_waits x3 refl e
  way_waits (Way.back_after_on x0 x1 x2 x3 x4) e = never_waits x3 refl e
  way_waits (Way.back_change_above x0 x1 x2 x3 x4) e = never_waits x3 refl e
  way_waits (Way.back_change_seek x0 x1 x2 x3 x4) e = never_waits x3 refl e
  way_waits (Way.on_look_next x0 x1 x2 x3 x4) e = never_waits x3 refl e
  way_waits (Way.on_look_marked x0 x1 x2 x3 x4 x5) e = never_waits x4 refl e
  way_waits (Way.on_look_yes x0 x1 x2 x3 x4 x5) e = never_waits x4 refl e
  way_waits (Way.on_look_no x0 x1 x2 x3 x4) e = never_waits x3 refl e
  way_waits (Way.on_after_next x0 x1 x2 x3 x4) e = never_waits x3 refl e
  way_waits (Way.on_after_missing x0 x1 x2 x3 x4) e = never_waits x3 refl e
  way_waits (Way.on_after_marked x0 x1 x2 x3 x4 x5) e = never_waits x4 refl e
  way_waits (Way.on_after_found x0 x1 x2 x3 x4 x5 x6 x7) e = never_waits x6 refl e
  way_waits (Way.seek_next x0 x1 x2 x3 x4) e = never_waits x3 refl e
  way_waits (Way.seek_lock x0 x1 x2 x3 x4) e = never_waits x3 refl e
  way_waits (Way.lock_waits x0 x1 x2 x3) e = inl (x0, x1)
  way_waits (Way.lock_taken x0 x1 x2 x3 x4) e = never_waits x3 refl e
  way_waits (Way.valid_again x0 x1 x2 x3 x4) e = never_waits x3 refl e
  way_waits (Way.valid_put_no x0 x1 x2 x3 x4 x5) e = never_waits x4 refl e
  way_waits (Way.valid_take x0 x1 x2 x3 x4 x5) e = never_waits x4 refl e
  way_waits (Way.valid_strike_no x0 x1 x2 x3 x4 x5) e = never_waits x4 refl e
  way_waits (Way.valid_victim x0 x1 x2 x3 x4 x5) e = never_waits x4 refl e
  way_waits (Way.take_none x0 x1 x2 x3) e = never_waits x2 refl e
  way_waits (Way.take_some x0 x1 x2 x3 x4 x5 x6) e = never_waits x5 refl e
  way_waits (Way.links x0 x1 x2) e = never_waits x1 refl e
  way_waits (Way.links_back x0 x1 x2 x3) e = never_waits x2 refl e
  way_waits (Way.attaches x0 x1 x2 x3 x4 x5) e = never_waits x4 refl e
  way_waits (Way.releases_new x0 x1 x2) e = never_waits x1 refl e
  way_waits (Way.put_ends x0 x1 x2) e = never_waits x1 refl e
  way_waits (Way.victim_waits x0 x1 x2 x3) e = inr (x0, x1)
  way_waits (Way.victim_taken x0 x1 x2 x3 x4) e = never_waits x3 refl e
  way_waits (Way.marks x0 x1 x2) e = never_waits x1 refl e
  way_waits (Way.unlinks_back x0 x1 x2 x3) e = never_waits x2 refl e
  way_waits (Way.unlinks x0 x1 x2) e = never_waits x1 refl e
  way_waits (Way.detaches x0 x1 x2 x3 x4) e = never_waits x3 refl e
  way_waits (Way.releases_victim x0 x1 x2) e = never_waits x1 refl e
  way_waits (Way.first_missing x0 x1 x2 x3) e = never_waits x2 refl e
  way_waits (Way.first_on_next x0 x1 x2 x3) e = never_waits x2 refl e
  way_waits (Way.first_marked x0 x1 x2 x3) e = never_waits x2 refl e
  way_waits (Way.first_found x0 x1 x2 x3 x4 x5) e = never_waits x4 refl e
  way_waits (Way.strike_ends x0 x1 x2 x3) e = never_waits x2 refl e

-- A step that is not held up answers moved or ended.
abbrev pub Moves : {K : Type 0} → Stepped K → Type 0
Moves {K} a = (a ≡ Moved) ⊎ ((x : Answer K) × (n : ℕ) × (a ≡ Ended x n))

settled_moves : {K : Type 0} {s : Sight K} {me : ℕ} {t : Task K} {o : Outcome K} {a : Stepped K} {s' : Sight K} → Settling s me t o a s' → (o ≡ Waits → ⊥) → Moves a
settled_moves (Settling.goes u oc an se) free = inl an
settled_moves (Settling.waits oc an se) free = absurd (free oc)
settled_moves (Settling.ends x oc an se) free = inr (x, _, an)
settled_moves (Settling.retires p oc an w others se) free = inr (Yes, _, an)

module _ {K : Type 0} (rank : K → K → Ordering) (s : Sight K) (i : ℕ) (t : Task K) (is : s.task i ≡ Some t) where
  made_same : {a : Stepped K} {s' : Sight K} (made : Made rank s i a s') → made.task ≡ t
  made_same made = let both : Some made.task ≡ Some t = sym made.under_way ∙ is in cc

  pub made_moves : {a : Stepped K} {s' : Sight K} → Made rank s i a s' → (IsHeldUp s i t → ⊥) → Moves a
  made_moves made free =
      settled_moves made.settling (λ e. free (subst (IsHeldUp s i) (made_same made) (way_waits made.way e)))

  settled_waits : {m : Sight K} {u : Task K} {o : Outcome K} {a : Stepped K} {s' : Sight K} → Settling m i u o a s' → a ≡ Waited → o ≡ Waits
  settled_waits (Settling.goes u oc an se) e = let z : ◌≡◌ {A = ℕ} 0 1 = cc in absurd (omega arith)
  settled_waits (Settling.waits oc an se) e = oc
  settled_waits (Settling.ends x oc an se) e = let z : ◌≡◌ {A = ℕ} 0 1 = cc in absurd (omega arith)
  settled_waits (Settling.retires p oc an w others se) e = let z : ◌≡◌ {A = ℕ} 0 1 = cc in absurd (omega arith)

  pub made_waits : {a : Stepped K} {s' : Sight K} → Made rank s i a s' → a ≡ Waited → IsHeldUp s i t
  made_waits made e = subst (IsHeldUp s i) (made_same made) (way_waits made.way (settled_waits made.settling e))

module _ {K : Type 0} (rank : K → K → Ordering) (b : Book K) (inv : Inv rank (sight_of b)) where
  -- Only puts and strikes wait.
  pub held_up_changes : (i : ℕ) (t : Task K) → UnderWay rank b i t → IsHeldUp (sight_of b) i t → is_change t.work ≡ true
  held_up_changes i t is held =
      late_changes t.work (group t.phase) (inv.fit i t is) (⊎_elim (λ h. ap (λ x. leb 3 (group x)) h.0) (λ h. ap (λ x. leb 3 (group x)) h.0) held)

  pub a_look_never_waits : (i : ℕ) (t : Task K) (b' : Book K) → UnderWay rank b i t → t.work ≡ Look → Does rank b (step i) (stepped (Ok Waited)) b' → ⊥
  a_look_never_waits i t b' is look d =
      let made = accepted_step_made rank i b.places b.stations b.guide Waited b'.places b'.stations b'.guide d in
      let change = held_up_changes i t is (made_waits rank (sight_of b) i t is made refl) in
      false≢true (sym (ap is_change look) ∙ change)
