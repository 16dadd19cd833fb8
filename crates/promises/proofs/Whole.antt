-- All the promises, once what holds between calls does so in every run. Assumes the laws of the order, and the invariant of
-- every book of a run.
use Rattle.std.proofs.Common.{Ordering}
use Rattle.promises.specs.Books.{Book}
use Rattle.promises.specs.Promised.{Promises}
use Rattle.promises.specs.Statuses.{StatusesAreExact}
use Rattle.promises.specs.Runs.{Run}
use Rattle.promises.proofs.Laws.{Laws}
use Rattle.promises.proofs.Sights.{sight_of}
use Rattle.promises.proofs.Invariant.{Inv}
use Rattle.promises.proofs.Running.{run_has}
use Rattle.promises.proofs.Members.{held_is_kept, kept_is_held}
use Rattle.promises.proofs.Moments.{ShowsKeys}
use Rattle.promises.proofs.Preceding.{precedes}
use Rattle.promises.proofs.OwnKeys.{only_own_keys_change}
use Rattle.promises.proofs.ChangesOnce.{changes_once}
use Rattle.promises.proofs.Truthful.{answers_are_true}
use Rattle.promises.proofs.Works.{steps_are_counted}
use Rattle.promises.proofs.Looks.{looks_end}
use Rattle.promises.proofs.Followed.{nothing_is_damaged, idle_books_are_tidy, statuses_are_true, statuses_are_exact, one_can_go_on}

module _ {K : Type 0} (rank : K → K → Ordering) (laws : Laws rank) (inv : (b : Book K) → Run rank b → Inv rank (sight_of b)) where
  pub shows : (b : Book K) → Run rank b → ShowsKeys b
  shows b r = record {
    found = λ k h. let kept = held_is_kept rank laws b.places b.stations b.guide (inv b r) k h in (kept.place, kept.on, kept.unmarked, kept.stands);
    held = λ p k on un is. kept_is_held rank laws b.places b.stations b.guide (inv b r) k (record { place = p; on = on; unmarked = un; stands = is });
  }

  pub all_promises : Promises rank
  all_promises = record {
    only_own_keys_change = only_own_keys_change rank laws inv;
    changes_once = changes_once rank laws inv;
    answers_are_true = answers_are_true rank laws inv (λ b r p on apart. (precedes rank laws (sight_of b) (inv b r) p on apart).on) shows;
    steps_are_counted = steps_are_counted rank;
    looks_end = looks_end rank laws inv (λ b r p on apart. (precedes rank laws (sight_of b) (inv b r) p on apart).on) (λ b r p on apart. (precedes rank laws (sight_of b) (inv b r) p on apart).below);
    someone_can_go_on = one_can_go_on rank laws inv;
    nothing_is_damaged = nothing_is_damaged rank laws inv;
    idle_books_are_tidy = idle_books_are_tidy rank laws inv;
    statuses_are_true = statuses_are_true rank laws inv;
  }

-- The promises are kept in every run, for every lawful order.
pub promises_kept : {K : Type 0} (rank : K → K → Ordering) → Laws rank → Promises rank
promises_kept rank laws = all_promises rank laws (λ b r. run_has rank laws r)

-- Every status is told exactly in every run, and the counts add up.
pub statuses_told : {K : Type 0} (rank : K → K → Ordering) → Laws rank → StatusesAreExact rank
statuses_told rank laws = statuses_are_exact rank laws (λ b r. run_has rank laws r)
