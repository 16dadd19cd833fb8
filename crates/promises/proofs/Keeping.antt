-- That every accepted step keeps the invariant. Assumes the laws.
use Rattle.std.proofs.Common.{◌≡◌, ℕ, ◌<◌, Bool, true, false, is_some, Some, Ordering, sym, refl, ap, ◌∙◌, subst, arith}
use Rattle.records.specs.declared.record.Phase.TheVariants.{Link, LinkBack, Detach}
use Rattle.records.specs.declared.record.Task.{Task}
use Rattle.promises.proofs.Laws.{Laws}
use Rattle.records.specs.declared.answer.Stepped.{Stepped}
use Rattle.records.specs.declared.outcome.Outcome.{Outcome}
use Rattle.records.specs.declared.outcome.Outcome.TheVariants.{Goes}
use Rattle.records.specs.Records.{into, with_other}
use Rattle.engine.specs.Settling.{most_stations, counted, with_steps, retired_for as rests}
use Rattle.promises.proofs.Sights.{Sight, task_put}
use Rattle.promises.proofs.Settles.{Settling, work_over, retire_put}
use Rattle.promises.proofs.Views.{Way, Changes, puts, strikes}
use Rattle.promises.proofs.Accepted.{Made}
use Rattle.promises.proofs.Invariant.{Inv}
use Rattle.promises.proofs.Sees.{never}
use Rattle.promises.proofs.Walking.{is_walking, Kept, waiting, never_strays, walking_keeps}
use Rattle.promises.proofs.Overs.{over_after_task}
use Rattle.promises.proofs.Locking.{keeps_lock_taken, keeps_valid_again, keeps_valid_no, keeps_take_none, keeps_put_ends, keeps_valid_take, keeps_valid_victim}
use Rattle.promises.proofs.Releasing.{keeps_releases_new, keeps_releases_victim, keeps_victim_taken}
use Rattle.promises.proofs.Marking.{keeps_links_back, keeps_unlinks_back, keeps_marks}
use Rattle.promises.proofs.Inserts.{link_keeps}
use Rattle.promises.proofs.Removes.{unlink_keeps}
use Rattle.promises.proofs.Fills.{take_keeps}
use Rattle.promises.proofs.Guiding.{keeps_detaches, keeps_attaches}
use Rattle.promises.proofs.Quieting.{keeps_strike_ends}

module _ {K : Type 0} (rank : K → K → Ordering) (laws : Laws rank) (s : Sight K) (inv : Inv rank s) (me : ℕ) (t : Task K) (is_task : s.task me ≡ Some t)
    (stationed : (j : ℕ) → is_some (s.task j) ≡ true → j < most_stations) (o : Outcome K) (mid : Sight K) where
  goes_to : (u : Task K) → o ≡ Goes u → (m : Sight K) → mid ≡ m → ((n : ℕ) → Inv rank (task_put me (Some (with_steps n u)) m)) → Kept rank me t o mid
  goes_to u oc m se kept = Kept.goes u oc (λ n. subst (λ x. Inv rank (task_put me (Some (with_steps n u)) x)) (sym se) (kept n))

  -- The rules that hold a lock or take one.
  holding_keeps : is_walking t.phase ≡ false → Way rank s me t o mid → Kept rank me t o mid
  holding_keeps h (Way.strays x0 x1 x2) = never_strays rank laws s inv me t is_task o mid t.work t.phase x0 (inv.fit me t is_task)
  holding_keeps h (Way.enters x0 x1 x2 x3 x4) = never (sym (ap is_walking x0) ∙ h)
  holding_keeps h (Way.down_here x0 x1 x2 x3) = never (sym (ap is_walking x0) ∙ h)
  holding_keeps h (Way.down_lost x0 x1 x2 x3) = never (sym (ap is_walking x0) ∙ h)
  holding_keeps h (Way.down_last x0 x1 x2 x3 x4 x5 x6) = never (sym (ap is_walking x0) ∙ h)
  holding_keeps h (Way.down_on x0 x1 x2 x3 x4 x5 x6) = never (sym (ap is_walking x0) ∙ h)
  holding_keeps h (Way.check_marked x0 x1 x2 x3) = never (sym (ap is_walking x0) ∙ h)
  holding_keeps h (Way.check_unmarked x0 x1 x2 x3) = never (sym (ap is_walking x0) ∙ h)
  holding_keeps h (Way.back_look_yes x0 x1 x2 x3 x4 x5) = never (sym (ap is_walking x0) ∙ h)
  holding_keeps h (Way.back_look_marked x0 x1 x2 x3 x4 x5) = never (sym (ap is_walking x0) ∙ h)
  holding_keeps h (Way.back_look_above x0 x1 x2 x3 x4) = never (sym (ap is_walking x0) ∙ h)
  holding_keeps h (Way.back_look_on x0 x1 x2 x3 x4) = never (sym (ap is_walking x0) ∙ h)
  holding_keeps h (Way.back_after_above x0 x1 x2 x3 x4) = never (sym (ap is_walking x0) ∙ h)
  holding_keeps h (Way.back_after_on x0 x1 x2 x3 x4) = never (sym (ap is_walking x0) ∙ h)
  holding_keeps h (Way.back_change_above x0 x1 x2 x3 x4) = never (sym (ap is_walking x0) ∙ h)
  holding_keeps h (Way.back_change_seek x0 x1 x2 x3 x4) = never (sym (ap is_walking x0) ∙ h)
  holding_keeps h (Way.on_look_next x0 x1 x2 x3 x4) = never (sym (ap is_walking x0) ∙ h)
  holding_keeps h (Way.on_look_marked x0 x1 x2 x3 x4 x5) = never (sym (ap is_walking x0) ∙ h)
  holding_keeps h (Way.on_look_yes x0 x1 x2 x3 x4 x5) = never (sym (ap is_walking x0) ∙ h)
  holding_keeps h (Way.on_look_no x0 x1 x2 x3 x4) = never (sym (ap is_walking x0) ∙ h)
  holding_keeps h (Way.on_after_next x0 x1 x2 x3 x4) = never (sym (ap is_walking x0) ∙ h)
  holding_keeps h (Way.on_after_missing x0 x1 x2 x3 x4) = never (sym (ap is_walking x0) ∙ h)
  holding_keeps h (Way.on_after_marked x0 x1 x2 x3 x4 x5) = never (sym (ap is_walking x0) ∙ h)
  holding_keeps h (Way.on_after_found x0 x1 x2 x3 x4 x5 x6 x7) = never (sym (ap is_walking x0) ∙ h)
  holding_keeps h (Way.seek_next x0 x1 x2 x3 x4) = never (sym (ap is_walking x0) ∙ h)
  holding_keeps h (Way.seek_lock x0 x1 x2 x3 x4) = never (sym (ap is_walking x0) ∙ h)
  holding_keeps h (Way.lock_waits x0 x1 x2 x3) = waiting rank laws s inv me t is_task o mid x3 x2
  holding_keeps h (Way.lock_taken x0 x1 x2 x3 x4) = keeps_lock_taken rank laws s inv me t is_task o mid x0 x2 x3 x4
  holding_keeps h (Way.valid_again x0 x1 x2 x3 x4) = keeps_valid_again rank laws s inv me t is_task o mid x0 x1 x3 x4
  holding_keeps h (Way.valid_put_no x0 x1 x2 x3 x4 x5) = keeps_valid_no rank laws s inv me t is_task o mid x0 (subst Changes (sym x1) puts) _ x4 x5
  holding_keeps h (Way.valid_take x0 x1 x2 x3 x4 x5) = keeps_valid_take rank laws s inv me t is_task o mid x0 x1 x2 x3 x4 x5
  holding_keeps h (Way.valid_strike_no x0 x1 x2 x3 x4 x5) = keeps_valid_no rank laws s inv me t is_task o mid x0 (subst Changes (sym x1) strikes) _ x4 x5
  holding_keeps h (Way.valid_victim x0 x1 x2 x3 x4 x5) = keeps_valid_victim rank laws s inv me t is_task o mid x0 x1 x2 x3 x4 x5
  holding_keeps h (Way.take_none x0 x1 x2 x3) = keeps_take_none rank laws s inv me t is_task o mid x0 _ x2 x3
  holding_keeps h (Way.take_some x0 x1 x2 x3 x4 x5 x6) = goes_to (into Link (with_other x1 t)) x5 _ x6 (take_keeps rank laws s inv me t is_task x0 x1 x2 x3 x4)
  holding_keeps h (Way.links x0 x1 x2) = goes_to (into LinkBack t) x1 _ x2 (link_keeps rank laws s inv me t is_task x0)
  holding_keeps h (Way.links_back x0 x1 x2 x3) = keeps_links_back rank laws s inv me t is_task o mid x0 x2 x3
  holding_keeps h (Way.attaches x0 x1 x2 x3 x4 x5) = keeps_attaches rank laws s inv me t is_task o mid x0 x1 x4 x5
  holding_keeps h (Way.releases_new x0 x1 x2) = keeps_releases_new rank laws s inv me t is_task o mid x0 x1 x2
  holding_keeps h (Way.put_ends x0 x1 x2) = keeps_put_ends rank laws s inv me t is_task o mid x0 _ x1 x2
  holding_keeps h (Way.victim_waits x0 x1 x2 x3) = waiting rank laws s inv me t is_task o mid x3 x2
  holding_keeps h (Way.victim_taken x0 x1 x2 x3 x4) = keeps_victim_taken rank laws s inv me t is_task o mid x0 x2 x3 x4
  holding_keeps h (Way.marks x0 x1 x2) = keeps_marks rank laws s inv me t is_task o mid x0 x1 x2
  holding_keeps h (Way.unlinks_back x0 x1 x2 x3) = keeps_unlinks_back rank laws s inv me t is_task o mid x0 x2 x3
  holding_keeps h (Way.unlinks x0 x1 x2) = goes_to (into Detach t) x1 _ x2 (unlink_keeps rank laws s inv me t is_task x0)
  holding_keeps h (Way.detaches x0 x1 x2 x3 x4) = keeps_detaches rank laws s inv me t is_task o mid x0 x3 x4
  holding_keeps h (Way.releases_victim x0 x1 x2) = keeps_releases_victim rank laws s inv me t is_task o mid x0 x1 x2
  holding_keeps h (Way.strike_ends x0 x1 x2 x3) = keeps_strike_ends rank laws s inv me t is_task stationed o mid x0 x1 x2 x3
  holding_keeps h (Way.first_missing x0 x1 x2 x3) = never (sym (ap is_walking x0) ∙ h)
  holding_keeps h (Way.first_on_next x0 x1 x2 x3) = never (sym (ap is_walking x0) ∙ h)
  holding_keeps h (Way.first_marked x0 x1 x2 x3) = never (sym (ap is_walking x0) ∙ h)
  holding_keeps h (Way.first_found x0 x1 x2 x3 x4 x5) = never (sym (ap is_walking x0) ∙ h)

  way_keeps : Way rank s me t o mid → Kept rank me t o mid
  way_keeps w = go (is_walking t.phase) refl
    where
      go : (b : Bool) → is_walking t.phase ≡ b → Kept rank me t o mid
      go true h = walking_keeps rank laws s inv me t is_task o mid h w
      go false h = holding_keeps h w

-- What was kept over the rule is kept once the stations are settled.
module _ {K : Type 0} (rank : K → K → Ordering) (me : ℕ) (t : Task K) (o : Outcome K) (mid : Sight K) (a : Stepped K) (s' : Sight K) where
  settled_keeps : Kept rank me t o mid → Settling mid me t o a s' → Inv rank s'
  settled_keeps (Kept.goes u oc kept) (Settling.goes v od is se) =
      let same : u ≡ v = cc in subst (Inv rank) (sym se) (subst (λ y. Inv rank (task_put me (Some (with_steps (counted t.steps) y)) mid)) same (kept (counted t.steps)))
  settled_keeps (Kept.goes u oc kept) (Settling.waits od is se) = let z : ◌≡◌ {A = ℕ} 0 1 = cc in absurd (omega arith)
  settled_keeps (Kept.goes u oc kept) (Settling.ends x od is se) = let z : ◌≡◌ {A = ℕ} 0 1 = cc in absurd (omega arith)
  settled_keeps (Kept.goes u oc kept) (Settling.retires p od is w others se) = let z : ◌≡◌ {A = ℕ} 0 1 = cc in absurd (omega arith)
  settled_keeps (Kept.waits oc kept) (Settling.goes v od is se) = let z : ◌≡◌ {A = ℕ} 0 1 = cc in absurd (omega arith)
  settled_keeps (Kept.waits oc kept) (Settling.waits od is se) = subst (Inv rank) (sym se) (kept (counted t.steps))
  settled_keeps (Kept.waits oc kept) (Settling.ends x od is se) = let z : ◌≡◌ {A = ℕ} 0 1 = cc in absurd (omega arith)
  settled_keeps (Kept.waits oc kept) (Settling.retires p od is w others se) = let z : ◌≡◌ {A = ℕ} 0 1 = cc in absurd (omega arith)
  settled_keeps (Kept.ends y oc v free aw kept) (Settling.goes u od is se) = let z : ◌≡◌ {A = ℕ} 0 1 = cc in absurd (omega arith)
  settled_keeps (Kept.ends y oc v free aw kept) (Settling.waits od is se) = let z : ◌≡◌ {A = ℕ} 0 1 = cc in absurd (omega arith)
  settled_keeps (Kept.ends y oc v free aw kept) (Settling.ends x od is se) =
      subst (Inv rank) (sym se) (subst (λ b. Inv rank (work_over me b mid)) aw (over_after_task rank mid me v kept free))
  settled_keeps (Kept.ends y oc v free aw kept) (Settling.retires p od is w others se) = let z : ◌≡◌ {A = ℕ} 0 1 = cc in absurd (omega arith)
  settled_keeps (Kept.retires p oc kept) (Settling.goes u od is se) = let z : ◌≡◌ {A = ℕ} 0 1 = cc in absurd (omega arith)
  settled_keeps (Kept.retires p oc kept) (Settling.waits od is se) = let z : ◌≡◌ {A = ℕ} 0 1 = cc in absurd (omega arith)
  settled_keeps (Kept.retires p oc kept) (Settling.ends x od is se) = let z : ◌≡◌ {A = ℕ} 0 1 = cc in absurd (omega arith)
  settled_keeps (Kept.retires p oc kept) (Settling.retires q od is w others se) =
      let same : p ≡ q = cc in subst (Inv rank) (sym se) (subst (λ r. Inv rank (work_over me t.awaited (retire_put r (rests w) mid))) same (kept w others))

pub step_keeps : {K : Type 0} (rank : K → K → Ordering) → Laws rank → (s : Sight K) → Inv rank s → ((j : ℕ) → is_some (s.task j) ≡ true → j < most_stations)
    → (i : ℕ) (a : Stepped K) (s' : Sight K) → Made rank s i a s' → Inv rank s'
step_keeps rank laws s inv stationed i a s' made =
    settled_keeps rank i made.task made.outcome made.mid a s'
    (way_keeps rank laws s inv i made.task made.under_way stationed made.outcome made.mid made.way) made.settling
