-- That the calls of the engine make runs: what their contracts say of a guide is what a run says of its meaning.
-- Assumes nothing.
use Rattle.std.specs.Prelude.{◌≡◌, ℕ, List, Ok, Result}
use Rattle.std.specs.declared.cmp.Ordering.{Ordering}
use Rattle.guides.specs.declared.answer.Mended.{Mended}
use Rattle.guides.specs.Meaning.{Meaning}
use Rattle.records.specs.declared.answer.Refusal.{Refusal}
use Rattle.records.specs.declared.answer.Stepped.{Stepped}
use Rattle.records.specs.declared.record.Place.{Place}
use Rattle.records.specs.declared.record.Station.{Station}
use Rattle.engine.specs.Calling.{opening, Opens, Steps}
use Rattle.promises.specs.Books.{Book}
use Rattle.promises.specs.Runs.{Does, Run, step, mend, stepped, mended}

-- The book of these records and a guide of this meaning.
abbrev pub book_of : {K : Type 0} → List (Place K) → List (Station K) → Meaning → Book K
book_of ps ss m = record { places = ps; stations = ss; guide = m }

-- For a guide that means so: an accepted open leaves a book to which there is a run, and each step, and each mend that keeps
-- the meaning, is a call on that book. (Begin, leave and list do not touch the guide: their contracts are what a run says of
-- them.)
pub record CallsMakeRuns {K G : Type 0} (rank : K → K → Ordering) (most : ℕ) (meaning : G → Meaning) : Type 0 where
  pub opens : (ps ps' : List (Place K)) (ss ss' : List (Station K)) (g g' : G) → Opens meaning (opening most ps ss) ps ss g (Ok tt) ps' ss' g'
      → Run rank (book_of ps' ss' (meaning g'))
  pub steps : (i : ℕ) (ps ps' : List (Place K)) (ss ss' : List (Station K)) (g g' : G) (r : Result (Stepped K) Refusal)
      → Steps meaning rank i ps ss g r ps' ss' g'
      → Does rank (book_of ps ss (meaning g)) (step i) (stepped r) (book_of ps' ss' (meaning g'))
  pub mend_is_a_call : (ps : List (Place K)) (ss : List (Station K)) (g g' : G) (m : Mended) → meaning g' ≡ meaning g
      → Does rank (book_of ps ss (meaning g)) mend (mended m) (book_of ps ss (meaning g'))
