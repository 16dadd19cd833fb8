-- That the calls of the engine make runs, whatever the guide. Assumes nothing.
use Rattle.std.proofs.Common.{◌≡◌, ℕ, List, Ok, Err, Result, Ordering, sym, refl, ap, subst, arith}
use Rattle.guides.specs.Meaning.{Meaning}
use Rattle.records.specs.declared.answer.Refusal.{Refusal}
use Rattle.records.specs.declared.answer.Stepped.{Stepped}
use Rattle.records.specs.declared.record.Place.{Place}
use Rattle.records.specs.declared.record.Station.{Station}
use Rattle.engine.specs.Calling.{Opened, opening, Opens, MadeStep, MakesStep, stepping, Steps}
use Rattle.promises.specs.Runs.{Run, opened, opened_book}
use Rattle.promises.specs.Made.{CallsMakeRuns, book_of}

module _ {K G : Type 0} (rank : K → K → Ordering) (meaning : G → Meaning) where
  -- ---- open

  opened_run : (most : ℕ) (ps ps' : List (Place K)) (ss ss' : List (Station K)) (g g' : G) (told : Result (Opened K) Refusal) → opening most ps ss ≡ told
      → Opens meaning told ps ss g (Ok tt) ps' ss' g' → Run rank (book_of ps' ss' (meaning g'))
  opened_run most ps ps' ss ss' g g' (Ok o) e did =
      let same : opened_book rank o ≡ book_of ps' ss' (meaning g') = λ i. record { places = sym did.1 i; stations = sym did.2 i; guide = sym did.3 i } in
      subst (Run rank) same (opened most ps ss o e)
  opened_run most ps ps' ss ss' g g' (Err refusal) e did = let no : ◌≡◌ {A = ℕ} 0 1 = cc did.0 in absurd (omega arith)

  -- ---- step

  -- What is told of a guide is told of its meaning.
  told_of_meaning : (told : Result (MadeStep K) Refusal) (ps ps' : List (Place K)) (ss ss' : List (Station K)) (g g' : G) (r : Result (Stepped K) Refusal)
      → MakesStep meaning told ps ss g r ps' ss' g' → MakesStep (λ m. m) told ps ss (meaning g) r ps' ss' (meaning g')
  told_of_meaning (Ok made) ps ps' ss ss' g g' r did = did
  told_of_meaning (Err refusal) ps ps' ss ss' g g' r did = (did.0, did.1, did.2, ap meaning did.3)

  step_made : (i : ℕ) (ps ps' : List (Place K)) (ss ss' : List (Station K)) (g g' : G) (r : Result (Stepped K) Refusal)
      → Steps meaning rank i ps ss g r ps' ss' g' → Steps (λ m. m) rank i ps ss (meaning g) r ps' ss' (meaning g')
  step_made i ps ps' ss ss' g g' r st = record {
    choice = st.choice;
    may = st.may;
    does = told_of_meaning (stepping rank st.choice ps ss (meaning g) i) ps ps' ss ss' g g' r st.does;
    keeps_guide = λ no. ap meaning (st.keeps_guide no);
  }

  pub calls_make_runs : (most : ℕ) → CallsMakeRuns rank most meaning
  calls_make_runs most = record {
    opens = λ ps ps' ss ss' g g'. opened_run most ps ps' ss ss' g g' (opening most ps ss) refl;
    steps = step_made;
    mend_is_a_call = λ ps ss g g' m same. ap (book_of ps ss) same;
  }
