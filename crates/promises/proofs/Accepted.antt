-- That every accepted step is seen as one of the ways and settles as told, and that a refused one changes nothing.
-- Assumes nothing.
use Rattle.std.proofs.Common.{◌≡◌, ℕ, ◌<◌, Bool, true, false, cond, List, get_or, Some, None, Ok, Err, Option, Result, Ordering, sym, refl, ap, ◌∙◌, subst, arith}
use Rattle.guides.specs.Meaning.{Meaning}
use Rattle.records.specs.declared.answer.Damage.{Damage}
use Rattle.records.specs.declared.outcome.Outcome.{Outcome}
use Rattle.records.specs.declared.outcome.Outcome.TheVariants.{Goes, Waits, Ends, Retires}
use Rattle.records.specs.declared.record.Place.{Place}
use Rattle.records.specs.declared.record.Station.{Station}
use Rattle.records.specs.declared.record.Task.{Task}
use Rattle.records.specs.declared.answer.Refusal.{Refusal}
use Rattle.records.specs.declared.answer.Refusal.TheVariants.{NoStation, Idle, Damaged}
use Rattle.records.specs.declared.answer.Stepped.{Stepped}
use Rattle.rules.specs.Stepping.{Choice, Turn, rule_of}
use Rattle.engine.specs.Calling.{Steps, MadeStep, MakesStep, MayChooseBy, served, task_at, stepping, step_by, step_after}
use Rattle.engine.specs.Settling.{idle}
use Rattle.promises.proofs.Sights.{Sight, sight}
use Rattle.promises.proofs.Finds.{never_ok, same_ok}
use Rattle.promises.proofs.Ruled.{goes_a_way}
use Rattle.promises.proofs.Settles.{Settling, settles}
use Rattle.promises.proofs.Views.{Way}

abbrev is_retires : {K : Type 0} → Outcome K → Bool
is_retires (Goes u) = false
is_retires Waits = false
is_retires (Ends a) = false
is_retires (Retires p) = true

never_retires : {K P : Type 0} {o x : Outcome K} {p : ℕ} → o ≡ x → is_retires x ≡ false → o ≡ Retires p → P
never_retires {K} {P} {o} {x} {p} is differs e =
    let clash : true ≡ false = sym (ap is_retires e) ∙ ap is_retires is ∙ differs in
    let z : ◌≡◌ {A = ℕ} 0 1 = cc in absurd (omega arith)

module _ {K : Type 0} {rank : K → K → Ordering} {s : Sight K} {me : ℕ} {t : Task K} {o : Outcome K} {s' : Sight K} where
  -- A place that is retired is there.
  retires_within : Way rank s me t o s' → (p : ℕ) → o ≡ Retires p → p < s'.size
  retires_within (Way.strays x0 x1 x2) p e = never_retires x1 refl e
  retires_within (Way.enters x0 x1 x2 x3 x4) p e = never_retires x3 refl e
  retires_within (Way.down_here x0 x1 x2 x3) p e = never_retires x2 refl e
  retires_within (Way.down_lost x0 x1 x2 x3) p e = never_retires x2 refl e
  retires_within (Way.down_last x0 x1 x2 x3 x4 x5 x6) p e = never_retires x5 refl e
  retires_within (Way.down_on x0 x1 x2 x3 x4 x5 x6) p e = never_retires x5 refl e
  retires_within (Way.check_marked x0 x1 x2 x3) p e = never_retires x2 refl e
  retires_within (Way.check_unmarked x0 x1 x2 x3) p e = never_retires x2 refl e
  retires_within (Way.back_look_yes x0 x1 x2 x3 x4 x5) p e = never_retires x4 refl e
  retires_within (Way.back_look_marked x0 x1 x2 x3 x4 x5) p e = never_retires x4 refl e
  retires_within (Way.back_look_above x0 x1 x2 x3 x4) p e = never_retires x3 refl e
  retires_within (Way.back_look_on x0 x1 x2 x3 x4) p e = never_retires x3 refl e
  retires_within (Way.back_after_above x0 x1 x2 x3 x4) p e = never_retires x3 refl e
  retires_within (Way.back_after_on x0 x1 x2 x3 x4) p e = never_retires x3 refl e
  retires_within (Way.back_change_above x0 x1 x2 x3 x4) p e = never_retires x3 refl e
  retires_within (Way.back_change_seek x0 x1 x2 x3 x4) p e = never_retires x3 refl e
  retires_within (Way.on_look_next x0 x1 x2 x3 x4) p e = never_retires x3 refl e
  retires_within (Way.on_look_marked x0 x1 x2 x3 x4 x5) p e = never_retires x4 refl e
  retires_within (Way.on_look_yes x0 x1 x2 x3 x4 x5) p e = never_retires x4 refl e
  retires_within (Way.on_look_no x0 x1 x2 x3 x4) p e = never_retires x3 refl e
  retires_within (Way.on_after_next x0 x1 x2 x3 x4) p e = never_retires x3 refl e
  retires_within (Way.on_after_missing x0 x1 x2 x3 x4) p e = never_retires x3 refl e
  retires_within (Way.on_after_marked x0 x1 x2 x3 x4 x5) p e = never_retires x4 refl e
  retires_within (Way.on_after_found x0 x1 x2 x3 x4 x5 x6 x7) p e = never_retires x6 refl e
  retires_within (Way.seek_next x0 x1 x2 x3 x4) p e = never_retires x3 refl e
  retires_within (Way.seek_lock x0 x1 x2 x3 x4) p e = never_retires x3 refl e
  retires_within (Way.lock_waits x0 x1 x2 x3) p e = never_retires x2 refl e
  retires_within (Way.lock_taken x0 x1 x2 x3 x4) p e = never_retires x3 refl e
  retires_within (Way.valid_again x0 x1 x2 x3 x4) p e = never_retires x3 refl e
  retires_within (Way.valid_put_no x0 x1 x2 x3 x4 x5) p e = never_retires x4 refl e
  retires_within (Way.valid_take x0 x1 x2 x3 x4 x5) p e = never_retires x4 refl e
  retires_within (Way.valid_strike_no x0 x1 x2 x3 x4 x5) p e = never_retires x4 refl e
  retires_within (Way.valid_victim x0 x1 x2 x3 x4 x5) p e = never_retires x4 refl e
  retires_within (Way.take_none x0 x1 x2 x3) p e = never_retires x2 refl e
  retires_within (Way.take_some x0 x1 x2 x3 x4 x5 x6) p e = never_retires x5 refl e
  retires_within (Way.links x0 x1 x2) p e = never_retires x1 refl e
  retires_within (Way.links_back x0 x1 x2 x3) p e = never_retires x2 refl e
  retires_within (Way.attaches x0 x1 x2 x3 x4 x5) p e = never_retires x4 refl e
  retires_within (Way.releases_new x0 x1 x2) p e = never_retires x1 refl e
  retires_within (Way.put_ends x0 x1 x2) p e = never_retires x1 refl e
  retires_within (Way.victim_waits x0 x1 x2 x3) p e = never_retires x2 refl e
  retires_within (Way.victim_taken x0 x1 x2 x3 x4) p e = never_retires x3 refl e
  retires_within (Way.marks x0 x1 x2) p e = never_retires x1 refl e
  retires_within (Way.unlinks_back x0 x1 x2 x3) p e = never_retires x2 refl e
  retires_within (Way.unlinks x0 x1 x2) p e = never_retires x1 refl e
  retires_within (Way.detaches x0 x1 x2 x3 x4) p e = never_retires x3 refl e
  retires_within (Way.releases_victim x0 x1 x2) p e = never_retires x1 refl e
  retires_within (Way.first_missing x0 x1 x2 x3) p e = never_retires x2 refl e
  retires_within (Way.first_on_next x0 x1 x2 x3) p e = never_retires x2 refl e
  retires_within (Way.first_marked x0 x1 x2 x3) p e = never_retires x2 refl e
  retires_within (Way.first_found x0 x1 x2 x3 x4 x5) p e = never_retires x4 refl e
  retires_within (Way.strike_ends is h oc se) p e =
      let same : t.other ≡ p = cc in
      subst (λ n. p < n) (sym (ap (λ x. x.size) se)) (subst (λ q. q < s.size) same h)

-- An accepted step of station i, as it is seen.
pub record Made {K : Type 0} (rank : K → K → Ordering) (s : Sight K) (i : ℕ) (a : Stepped K) (s' : Sight K) : Type 0 where
  pub task : Task K
  pub under_way : s.task i ≡ Some task
  pub outcome : Outcome K
  pub mid : Sight K
  pub way : Way rank s i task outcome mid
  pub settling : Settling mid i task outcome a s'

module _ {K : Type 0} (rank : K → K → Ordering) (i : ℕ) (ps : List (Place K)) (ss : List (Station K)) (m : Meaning) (a : Stepped K)
    (ps' : List (Place K)) (ss' : List (Station K)) (m' : Meaning) (c : Choice) where
  abbrev SeenSo : Type 0
  SeenSo = Made rank (sight ps ss m) i a (sight ps' ss' m')

  abbrev Done : Result (MadeStep K) Refusal → Type 0
  Done told = MakesStep (λ x. x) told ps ss m (Ok a) ps' ss' m'

  refused : {P : Type 0} (e : Refusal) → Done (Err e) → P
  refused e d = never_ok e a (sym d.0)

  by_rule : (t : Task K) → served ss i ≡ true → task_at ss i ≡ Some t → MayChooseBy rank c ps ss m i (Some t)
      → (turned : Result (Turn K) Damage) → rule_of rank i ps m t t.phase c ≡ turned → Done (step_after rank c ps ss m i t turned) → SeenSo
  by_rule t there is may (Err d) e done = refused (Damaged d) done
  by_rule t there is may (Ok turn) e done =
      let way = goes_a_way rank i ps ss m t turn t.phase refl c may e in
      record {
        task = t;
        under_way = is;
        outcome = turn.outcome;
        mid = sight turn.places ss turn.meaning;
        way = way;
        settling = settles i t ss there turn.meaning turn.outcome turn.places a ps' ss' m' (retires_within way) (same_ok _ _ done.0) done.1 done.2 done.3;
      }

  by_task : (x : Option (Task K)) → served ss i ≡ true → task_at ss i ≡ x → MayChooseBy rank c ps ss m i x → Done (step_by rank c ps ss m i x) → SeenSo
  by_task None there is may done = refused Idle done
  by_task (Some t) there is may done = by_rule t there is may (rule_of rank i ps m t t.phase c) refl done

  by_station : (b : Bool) → served ss i ≡ b → MayChooseBy rank c ps ss m i (cond b (get_or ss i idle).task None)
      → Done (cond b (step_by rank c ps ss m i (get_or ss i idle).task) (Err NoStation)) → SeenSo
  by_station true there may done = by_task (get_or ss i idle).task there (ap (λ b. cond b (get_or ss i idle).task None) there) may done
  by_station false there may done = refused NoStation done

pub accepted_step_made : {K : Type 0} (rank : K → K → Ordering) (i : ℕ) (ps : List (Place K)) (ss : List (Station K)) (m : Meaning) (a : Stepped K)
    (ps' : List (Place K)) (ss' : List (Station K)) (m' : Meaning) → Steps (λ x. x) rank i ps ss m (Ok a) ps' ss' m' → Made rank (sight ps ss m) i a (sight ps' ss' m')
accepted_step_made rank i ps ss m a ps' ss' m' st =
    by_station rank i ps ss m a ps' ss' m' st.choice (served ss i) refl st.may st.does

-- A refused step changes nothing.
refused_by : {K : Type 0} (ps : List (Place K)) (ss : List (Station K)) (m : Meaning) (told : Result (MadeStep K) Refusal) (e : Refusal)
    (ps' : List (Place K)) (ss' : List (Station K)) (m' : Meaning) → MakesStep (λ x. x) told ps ss m (Err e) ps' ss' m' → (ps' ≡ ps) × (ss' ≡ ss) × (m' ≡ m)
refused_by ps ss m (Ok made) e ps' ss' m' d = never_ok e made.after.answer d.0
refused_by ps ss m (Err r) e ps' ss' m' d = (d.1, d.2, d.3)

pub refused_step_keeps : {K : Type 0} (rank : K → K → Ordering) (i : ℕ) (ps : List (Place K)) (ss : List (Station K)) (m : Meaning) (e : Refusal)
    (ps' : List (Place K)) (ss' : List (Station K)) (m' : Meaning) → Steps (λ x. x) rank i ps ss m (Err e) ps' ss' m' → (ps' ≡ ps) × (ss' ≡ ss) × (m' ≡ m)
refused_step_keeps rank i ps ss m e ps' ss' m' st = refused_by ps ss m (stepping rank st.choice ps ss m i) e ps' ss' m' st.does
