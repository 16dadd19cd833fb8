-- That a step does what it is told, by how far it came: no station, no work, a rule that failed, a rule that was followed.
-- Assumes nothing.
use Rattle.std.proofs.Common.{◌≡◌, ℕ, false, List, Some, None, Ok, Err, Option, Result, Ordering, sym, refl, ap, ◌∙◌, subst, arith}
use Rattle.guides.specs.Meaning.{Meaning}
use Rattle.records.specs.declared.answer.Damage.{Damage}
use Rattle.records.specs.declared.answer.Refusal.{Refusal}
use Rattle.records.specs.declared.answer.Refusal.TheVariants.{Idle, Damaged}
use Rattle.records.specs.declared.answer.Stepped.{Stepped}
use Rattle.records.specs.declared.outcome.Outcome.{Outcome}
use Rattle.records.specs.declared.record.Place.{Place}
use Rattle.records.specs.declared.record.Station.{Station}
use Rattle.records.specs.declared.record.Task.{Task}
use Rattle.engine.specs.Calling.{Steps, MadeStep, MayChooseBy, may_change_guide, task_at, step_by, step_after, stepping, MakesStep, FindsStation, FindsNone}
use Rattle.engine.specs.Settling.{settled, Settles}
use Rattle.rules.specs.Stepping.{Choice, none_open, Turn, Turns, rule_of, FollowsRule}
use Rattle.engine.proofs.Called.{task_at_found, task_at_none, call_found, call_none}

module _ {K G : Type 0} (meaning : G → Meaning) (rank : K → K → Ordering) (i : ℕ) (ps : List (Place K)) (ss : List (Station K)) (g : G) where
  -- A step by the work that is under way, if any, and by what the step is told.
  by_task : (task : Option (Task K)) (choice : Choice) (told : Result (MadeStep K) Refusal) (r : Result (Stepped K) Refusal) (ps' : List (Place K)) (ss' : List (Station K)) (g' : G)
      → task_at ss i ≡ task → MayChooseBy rank choice ps ss (meaning g) i task → stepping rank choice ps ss (meaning g) i ≡ told
      → MakesStep meaning told ps ss g r ps' ss' g' → (may_change_guide task ≡ false → g' ≡ g) → Steps meaning rank i ps ss g r ps' ss' g'
  by_task task choice told r ps' ss' g' is may tells does keeps = record {
    choice = choice;
    may = subst (MayChooseBy rank choice ps ss (meaning g) i) (sym is) may;
    does = subst (λ x. MakesStep meaning x ps ss g r ps' ss' g') (sym tells) does;
    keeps_guide = subst (λ x. may_change_guide x ≡ false → g' ≡ g) (sym is) keeps;
  }

  pub no_station : (e : Refusal) → FindsNone ss i e → Steps meaning rank i ps ss g (Err e) ps ss g
  no_station e f =
      by_task None none_open (Err e) (Err e) ps ss g (task_at_none ss i e f) tt
      (call_none ss i (step_by rank none_open ps ss (meaning g) i) e f) (refl, refl, refl, refl) (λ _. refl)

  pub no_work : FindsStation ss i None → Steps meaning rank i ps ss g (Err Idle) ps ss g
  no_work f =
      by_task None none_open (Err Idle) (Err Idle) ps ss g (task_at_found ss i None f) tt
      (call_found ss i (step_by rank none_open ps ss (meaning g) i) None f) (refl, refl, refl, refl) (λ _. refl)

  module _ (t : Task K) (f : FindsStation ss i (Some t)) where
    -- What the step is told once its rule is known.
    told_by : (choice : Choice) (turned : Result (Turn K) Damage) → rule_of rank i ps (meaning g) t t.phase choice ≡ turned
        → stepping rank choice ps ss (meaning g) i ≡ step_after rank choice ps ss (meaning g) i t turned
    told_by choice turned e = call_found ss i (step_by rank choice ps ss (meaning g) i) (Some t) f ∙ ap (step_after rank choice ps ss (meaning g) i t) e

    failed : (choice : Choice) (turned : Result (Turn K) Damage) (d : Damage) (ps' : List (Place K)) (g' : G)
        → Turns meaning turned ps g (Err d) ps' g' → MakesStep meaning (step_after rank choice ps ss (meaning g) i t turned) ps ss g (Err (Damaged d)) ps' ss g'
    failed choice (Ok turn) d ps' g' did = let no : ◌≡◌ {A = ℕ} 0 1 = cc did.0 in absurd (omega arith)
    failed choice (Err e) d ps' g' did = let same : d ≡ e = cc did.0 in (ap (λ x. Err (Damaged x)) same, did.1, refl, did.2)

    pub rule_failed : (d : Damage) (ps' : List (Place K)) (g' : G) → FollowsRule meaning rank i t ps g (Err d) ps' g' → Steps meaning rank i ps ss g (Err (Damaged d)) ps' ss g'
    rule_failed d ps' g' rule =
        let turned = rule_of rank i ps (meaning g) t t.phase rule.choice in
        by_task (Some t) rule.choice _ (Err (Damaged d)) ps' ss g' (task_at_found ss i (Some t) f) rule.may (told_by rule.choice turned refl)
        (failed rule.choice turned d ps' g' rule.does) rule.keeps_guide

    went : (choice : Choice) (turned : Result (Turn K) Damage) (o : Outcome K) (mid ps' : List (Place K)) (ss' : List (Station K)) (g' : G) (r : Stepped K)
        → Turns meaning turned ps g (Ok o) mid g' → Settles (settled i t ss o mid) r ps' ss'
        → MakesStep meaning (step_after rank choice ps ss (meaning g) i t turned) ps ss g (Ok r) ps' ss' g'
    went choice (Err e) o mid ps' ss' g' r did settles = let no : ◌≡◌ {A = ℕ} 0 1 = cc did.0 in absurd (omega arith)
    went choice (Ok turn) o mid ps' ss' g' r did settles =
        let same : o ≡ turn.outcome = cc did.0 in
        let so : settled i t ss o mid ≡ settled i t ss turn.outcome turn.places = ap (λ x. settled i t ss x mid) same ∙ ap (settled i t ss turn.outcome) did.1 in
        (ap Ok (settles.0 ∙ ap (λ x. x.answer) so), settles.1 ∙ ap (λ x. x.places) so, settles.2 ∙ ap (λ x. x.stations) so, did.2)

    pub rule_followed : (o : Outcome K) (mid ps' : List (Place K)) (ss' : List (Station K)) (g' : G) (r : Stepped K)
        → FollowsRule meaning rank i t ps g (Ok o) mid g' → Settles (settled i t ss o mid) r ps' ss' → Steps meaning rank i ps ss g (Ok r) ps' ss' g'
    rule_followed o mid ps' ss' g' r rule settles =
        let turned = rule_of rank i ps (meaning g) t t.phase rule.choice in
        by_task (Some t) rule.choice _ (Ok r) ps' ss' g' (task_at_found ss i (Some t) f) rule.may (told_by rule.choice turned refl)
        (went rule.choice turned o mid ps' ss' g' r rule.does settles) rule.keeps_guide
