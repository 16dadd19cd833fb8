-- The promises that follow at once for every run: only own keys change, nothing is damaged, idle books are tidy, statuses are
-- true and exact, looks never wait, someone can go on. Assumes the laws of the order, and that what holds between calls does so in
-- every run.
use Rattle.std.proofs.Common.{◌≡◌, ℕ, Ok, Ordering}
use Rattle.records.specs.declared.answer.Stepped.TheVariants.{Waits}
use Rattle.records.specs.declared.record.Task.{Task}
use Rattle.records.specs.declared.record.Work.TheVariants.{Look}
use Rattle.promises.specs.Books.{Book}
use Rattle.promises.specs.Promised.{UnderWay, NothingIsDamaged, IdleBooksAreTidy, StatusesAreTrue, SomeoneCanGoOn}
use Rattle.promises.specs.Statuses.{StatusesAreExact}
use Rattle.promises.specs.Runs.{Run, Does, step, stepped}
use Rattle.promises.proofs.Laws.{Laws}
use Rattle.promises.proofs.Sights.{sight_of}
use Rattle.promises.proofs.Invariant.{Inv}
use Rattle.promises.proofs.Listed.{keys_rise, list_refused_only_if_short, list_shows_the_keys}
use Rattle.promises.proofs.Tidy.{status_is_true, idle_is_tidy}
use Rattle.promises.proofs.Statuses.{status_is_exact}
use Rattle.promises.proofs.Counts.{counts_are_true}
use Rattle.promises.proofs.Unrefused.{steps_accepted}
use Rattle.promises.proofs.Waiting.{a_look_never_waits}
use Rattle.promises.proofs.Progress.{someone_can_go_on}

module _ {K : Type 0} (rank : K → K → Ordering) (laws : Laws rank) (kept : (b : Book K) → Run rank b → Inv rank (sight_of b)) where
  pub nothing_is_damaged : NothingIsDamaged rank
  nothing_is_damaged = record {
    steps_accepted = λ b r i t e b'. steps_accepted rank laws b (kept b r) i t e b';
    list_refused_only_if_short = λ b r given after e b' d. list_refused_only_if_short rank laws b.places b.stations b.guide (kept b r) given after e d.0;
    list_shows_the_keys = λ b r given after n b' d. list_shows_the_keys rank laws b.places b.stations b.guide (kept b r) given after n d.0;
    keys_rise = λ b r. keys_rise rank laws b.places b.stations b.guide (kept b r);
  }

  pub idle_books_are_tidy : IdleBooksAreTidy rank
  idle_books_are_tidy b r = idle_is_tidy rank laws b (kept b r)

  pub statuses_are_true : StatusesAreTrue rank
  statuses_are_true b r = status_is_true rank laws b (kept b r)

  pub statuses_are_exact : StatusesAreExact rank
  statuses_are_exact = record { each = λ b r p x two is. status_is_exact rank laws kept r p two x is; counts = λ b r. counts_are_true rank laws b (kept b r) }

  pub one_can_go_on : SomeoneCanGoOn rank
  one_can_go_on b r = someone_can_go_on rank laws b (kept b r)

  pub looks_never_wait : (b : Book K) (r : Run rank b) (i : ℕ) (t : Task K) (b' : Book K) → UnderWay rank b i t → t.work ≡ Look → Does rank b (step i) (stepped (Ok Waits)) b' → ⊥
  looks_never_wait b r = a_look_never_waits rank b (kept b r)
