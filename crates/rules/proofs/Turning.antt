-- That a rule's function follows the step list, by what the function ensures: it read, it wrote places, or it changed
-- the guide. Assumes nothing.
use Rattle.std.proofs.Common.{◌≡◌, ℕ, Bool, true, false, List, Ok, Err, Result, Ordering, sym, refl, subst, arith}
use Rattle.guides.specs.Meaning.{Meaning}
use Rattle.records.specs.declared.answer.Damage.{Damage}
use Rattle.records.specs.declared.outcome.Outcome.{Outcome}
use Rattle.records.specs.declared.record.Phase.{Phase}
use Rattle.records.specs.declared.record.Place.{Place}
use Rattle.records.specs.declared.record.Task.{Task}
use Rattle.records.specs.Records.{Ruled, Rules}
use Rattle.rules.specs.Stepping.{Choice, reads, writes, guides, Guides, Turns, rule_of, MayChoose, changes_guide, FollowsRule}

module _ {K G : Type 0} (meaning : G → Meaning) (rank : K → K → Ordering) (me : ℕ) (t : Task K) (ps : List (Place K)) (g : G) where
  -- A rule may be told by the phase that the task is in.
  by_phase : (phase : Phase) (choice : Choice) (r : Result (Outcome K) Damage) (ps' : List (Place K)) (g' : G) → t.phase ≡ phase
      → MayChoose rank me ps (meaning g) t phase choice → Turns meaning (rule_of rank me ps (meaning g) t phase choice) ps g r ps' g'
      → (changes_guide phase ≡ false → g' ≡ g) → FollowsRule meaning rank me t ps g r ps' g'
  by_phase phase choice r ps' g' is may does keeps = record {
    choice = choice;
    may = subst (λ p. MayChoose rank me ps (meaning g) t p choice) (sym is) may;
    does = subst (λ p. Turns meaning (rule_of rank me ps (meaning g) t p choice) ps g r ps' g') (sym is) does;
    keeps_guide = subst (λ p. changes_guide p ≡ false → g' ≡ g) (sym is) keeps;
  }

  read_turns : (told : Result (Outcome K) Damage) → Turns meaning (reads ps (meaning g) told) ps g told ps g
  read_turns (Ok outcome) = (refl, refl, refl)
  read_turns (Err damage) = (refl, refl, refl)

  write_turns : (told : Result (Ruled K) Damage) (r : Result (Outcome K) Damage) (ps' : List (Place K)) → Rules told ps r ps'
      → Turns meaning (writes ps (meaning g) told) ps g r ps' g
  write_turns (Ok ruled) r ps' did = (did.0, did.1, refl)
  write_turns (Err damage) r ps' did = (did.0, did.1, refl)

  guide_turns : (outcome : Outcome K) (told : Result Meaning Damage) (r : Result (Outcome K) Damage) (g' : G) → Guides meaning outcome told g r g'
      → Turns meaning (guides ps (meaning g) outcome told) ps g r ps g'
  guide_turns outcome (Ok m) r g' did = (did.0, refl, did.1)
  guide_turns outcome (Err damage) r g' did = (did.0, refl, did.1)

-- The arguments that the goal tells are left out.
module _ {K G : Type 0} {meaning : G → Meaning} {rank : K → K → Ordering} {me : ℕ} {t : Task K} {ps : List (Place K)} {g : G} where
  pub follows_reading : (phase : Phase) (choice : Choice) (told : Result (Outcome K) Damage) {r : Result (Outcome K) Damage} → t.phase ≡ phase
      → MayChoose rank me ps (meaning g) t phase choice → rule_of rank me ps (meaning g) t phase choice ≡ reads ps (meaning g) told
      → r ≡ told → FollowsRule meaning rank me t ps g r ps g
  follows_reading phase choice told {r} is may rule read =
      by_phase meaning rank me t ps g phase choice r ps g is may
      (subst (λ x. Turns meaning x ps g r ps g) (sym rule) (subst (λ x. Turns meaning (reads ps (meaning g) told) ps g x ps g) (sym read) (read_turns meaning rank me t ps g told)))
      (λ _. refl)

  pub follows_writing : (phase : Phase) (choice : Choice) (told : Result (Ruled K) Damage) {r : Result (Outcome K) Damage} {ps' : List (Place K)}
      → t.phase ≡ phase → MayChoose rank me ps (meaning g) t phase choice
      → rule_of rank me ps (meaning g) t phase choice ≡ writes ps (meaning g) told → Rules told ps r ps' → FollowsRule meaning rank me t ps g r ps' g
  follows_writing phase choice told {r} {ps'} is may rule did =
      by_phase meaning rank me t ps g phase choice r ps' g is may (subst (λ x. Turns meaning x ps g r ps' g) (sym rule) (write_turns meaning rank me t ps g told r ps' did)) (λ _. refl)

  pub follows_guiding : (phase : Phase) (choice : Choice) (outcome : Outcome K) (told : Result Meaning Damage) {r : Result (Outcome K) Damage} {g' : G}
      → t.phase ≡ phase → MayChoose rank me ps (meaning g) t phase choice → changes_guide phase ≡ true
      → rule_of rank me ps (meaning g) t phase choice ≡ guides ps (meaning g) outcome told → Guides meaning outcome told g r g'
      → FollowsRule meaning rank me t ps g r ps g'
  follows_guiding phase choice outcome told {r} {g'} is may changes rule did =
      by_phase meaning rank me t ps g phase choice r ps g' is may (subst (λ x. Turns meaning x ps g r ps g') (sym rule) (guide_turns meaning rank me t ps g outcome told r g' did))
      (λ no. let z : ◌≡◌ {A = Bool} true false = cc in let w : ◌≡◌ {A = ℕ} 0 1 = cc in absurd (omega arith))
