-- That a step which goes on keeps the work and its key. Assumes nothing.
use Rattle.std.proofs.Common.{◌≡◌, ℕ, Bool, true, false, Ordering, sym, refl, ap, ◌∙◌}
use Rattle.std.proofs.lemmas.Bool.{true≢false}
use Rattle.records.specs.declared.outcome.Outcome.{Outcome}
use Rattle.records.specs.declared.outcome.Outcome.TheVariants.{Goes, Waits, Ends, Retires}
use Rattle.records.specs.declared.record.Task.{Task}
use Rattle.promises.proofs.Sights.{Sight}
use Rattle.promises.proofs.Views.{Way}

abbrev is_going : {K : Type 0} → Outcome K → Bool
is_going (Goes u) = true
is_going Waits = false
is_going (Ends a) = false
is_going (Retires p) = false

module _ {K : Type 0} where
  pub record SameAim (t u : Task K) : Type 0 where
    pub work : u.work ≡ t.work
    pub key : u.key ≡ t.key

  pub goes_not : {P : Type 0} {o x : Outcome K} {u : Task K} → o ≡ x → is_going x ≡ false → o ≡ Goes u → P
  goes_not e calm h = absurd (true≢false (sym (ap is_going h) ∙ ap is_going e ∙ calm))

  goes_so : {o : Outcome K} {t u v : Task K} → o ≡ Goes v → o ≡ Goes u → v.work ≡ t.work → v.key ≡ t.key → SameAim t u
  goes_so {o} {t} {u} {v} e h w k =
      let same : v ≡ u = cc in
      record { work = ap (λ x. x.work) (sym same) ∙ w; key = ap (λ x. x.key) (sym same) ∙ k }

module _ {K : Type 0} {rank : K → K → Ordering} {s : Sight K} {me : ℕ} {t : Task K} {o : Outcome K} {s' : Sight K} where
  pub step_keeps_aim : Way rank s me t o s' → (u : Task K) → o ≡ Goes u → SameAim t u
  step_keeps_aim (Way.strays x0 x1 x2) u e = goes_so x1 e refl refl
  step_keeps_aim (Way.enters x0 x1 x2 x3 x4) u e = goes_so x3 e refl refl
  step_keeps_aim (Way.down_here x0 x1 x2 x3) u e = goes_so x2 e refl refl
  step_keeps_aim (Way.down_lost x0 x1 x2 x3) u e = goes_so x2 e refl refl
  step_keeps_aim (Way.down_last x0 x1 x2 x3 x4 x5 x6) u e = goes_so x5 e refl refl
  step_keeps_aim (Way.down_on x0 x1 x2 x3 x4 x5 x6) u e = goes_so x5 e refl refl
  step_keeps_aim (Way.check_marked x0 x1 x2 x3) u e = goes_so x2 e refl refl
  step_keeps_aim (Way.check_unmarked x0 x1 x2 x3) u e = goes_so x2 e refl refl
  step_keeps_aim (Way.back_look_yes x0 x1 x2 x3 x4 x5) u e = goes_not x4 refl e
  step_keeps_aim (Way.back_look_marked x0 x1 x2 x3 x4 x5) u e = goes_so x4 e refl refl
  step_keeps_aim (Way.back_look_above x0 x1 x2 x3 x4) u e = goes_so x3 e refl refl
  step_keeps_aim (Way.back_look_on x0 x1 x2 x3 x4) u e = goes_so x3 e refl refl
  step_keeps_aim (Way.back_after_above x0 x1 x2 x3 x4) u e = goes_so x3 e refl refl
  step_keeps_aim (Way.back_after_on x0 x1 x2 x3 x4) u e = goes_so x3 e refl refl
  step_keeps_aim (Way.back_change_above x0 x1 x2 x3 x4) u e = goes_so x3 e refl refl
  step_keeps_aim (Way.back_change_seek x0 x1 x2 x3 x4) u e = goes_so x3 e refl refl
  step_keeps_aim (Way.on_look_next x0 x1 x2 x3 x4) u e = goes_so x3 e refl refl
  step_keeps_aim (Way.on_look_marked x0 x1 x2 x3 x4 x5) u e = goes_not x4 refl e
  step_keeps_aim (Way.on_look_yes x0 x1 x2 x3 x4 x5) u e = goes_not x4 refl e
  step_keeps_aim (Way.on_look_no x0 x1 x2 x3 x4) u e = goes_not x3 refl e
  step_keeps_aim (Way.on_after_next x0 x1 x2 x3 x4) u e = goes_so x3 e refl refl
  step_keeps_aim (Way.on_after_missing x0 x1 x2 x3 x4) u e = goes_not x3 refl e
  step_keeps_aim (Way.on_after_marked x0 x1 x2 x3 x4 x5) u e = goes_so x4 e refl refl
  step_keeps_aim (Way.on_after_found x0 x1 x2 x3 x4 x5 x6 x7) u e = goes_not x6 refl e
  step_keeps_aim (Way.seek_next x0 x1 x2 x3 x4) u e = goes_so x3 e refl refl
  step_keeps_aim (Way.seek_lock x0 x1 x2 x3 x4) u e = goes_so x3 e refl refl
  step_keeps_aim (Way.lock_waits x0 x1 x2 x3) u e = goes_not x2 refl e
  step_keeps_aim (Way.lock_taken x0 x1 x2 x3 x4) u e = goes_so x3 e refl refl
  step_keeps_aim (Way.valid_again x0 x1 x2 x3 x4) u e = goes_so x3 e refl refl
  step_keeps_aim (Way.valid_put_no x0 x1 x2 x3 x4 x5) u e = goes_not x4 refl e
  step_keeps_aim (Way.valid_take x0 x1 x2 x3 x4 x5) u e = goes_so x4 e refl refl
  step_keeps_aim (Way.valid_strike_no x0 x1 x2 x3 x4 x5) u e = goes_not x4 refl e
  step_keeps_aim (Way.valid_victim x0 x1 x2 x3 x4 x5) u e = goes_so x4 e refl refl
  step_keeps_aim (Way.take_none x0 x1 x2 x3) u e = goes_not x2 refl e
  step_keeps_aim (Way.take_some x0 x1 x2 x3 x4 x5 x6) u e = goes_so x5 e refl refl
  step_keeps_aim (Way.links x0 x1 x2) u e = goes_so x1 e refl refl
  step_keeps_aim (Way.links_back x0 x1 x2 x3) u e = goes_so x2 e refl refl
  step_keeps_aim (Way.attaches x0 x1 x2 x3 x4 x5) u e = goes_so x4 e refl refl
  step_keeps_aim (Way.releases_new x0 x1 x2) u e = goes_so x1 e refl refl
  step_keeps_aim (Way.put_ends x0 x1 x2) u e = goes_not x1 refl e
  step_keeps_aim (Way.victim_waits x0 x1 x2 x3) u e = goes_not x2 refl e
  step_keeps_aim (Way.victim_taken x0 x1 x2 x3 x4) u e = goes_so x3 e refl refl
  step_keeps_aim (Way.marks x0 x1 x2) u e = goes_so x1 e refl refl
  step_keeps_aim (Way.unlinks_back x0 x1 x2 x3) u e = goes_so x2 e refl refl
  step_keeps_aim (Way.unlinks x0 x1 x2) u e = goes_so x1 e refl refl
  step_keeps_aim (Way.detaches x0 x1 x2 x3 x4) u e = goes_so x3 e refl refl
  step_keeps_aim (Way.releases_victim x0 x1 x2) u e = goes_so x1 e refl refl
  step_keeps_aim (Way.strike_ends x0 x1 x2 x3) u e = goes_not x2 refl e
  step_keeps_aim (Way.first_missing x0 x1 x2 x3) u e = goes_not x2 refl e
  step_keeps_aim (Way.first_on_next x0 x1 x2 x3) u e = goes_so x2 e refl refl
  step_keeps_aim (Way.first_marked x0 x1 x2 x3) u e = goes_so x2 e refl refl
  step_keeps_aim (Way.first_found x0 x1 x2 x3 x4 x5) u e = goes_not x4 refl e
