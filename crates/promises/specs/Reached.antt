-- That runs come to every rule of every work, so that the promises speak of something. Assumes nothing.
use Rattle.std.specs.Prelude.{◌≡◌, ℕ, Bool, true, false, not, ◌||◌, Some, Ok}
use Rattle.std.specs.declared.cmp.Ordering.{Ordering}
use Rattle.orders.specs.Ranks.{by_ingredient}
use Rattle.records.specs.declared.answer.Stepped.{Stepped}
use Rattle.records.specs.declared.record.Phase.{Phase}
use Rattle.records.specs.declared.record.Phase.TheVariants.{Enter, Down, Check, Back, On, Seek, Lock, Valid, Take, Link, LinkBack, Attach, ReleaseNew, PutEnd, TakeVictim, Mark, UnlinkBack, Unlink, Detach, ReleaseVictim, StrikeEnd, First, FirstNext}
use Rattle.records.specs.declared.record.Task.{Task}
use Rattle.records.specs.declared.record.Work.{Work}
use Rattle.records.specs.declared.record.Work.TheVariants.{Put, Strike, Look, First as FirstWork, After}
use Rattle.promises.specs.Books.{Book, work_at}
use Rattle.promises.specs.Promised.{is_change}
use Rattle.promises.specs.Runs.{Does, Run, is_strike, step, stepped}

abbrev pub is_put : Work → Bool
is_put Put = true
is_put Strike = false
is_put Look = false
is_put FirstWork = false
is_put After = false

abbrev pub is_first : Work → Bool
is_first Put = false
is_first Strike = false
is_first Look = false
is_first FirstWork = true
is_first After = false

-- The works that have a rule for the phase. All but first go down with the guide and back; looks and afters go on from there,
-- puts and strikes seek, lock and see whether below is valid; the rest is each work's own.
abbrev pub has_rule : Work → Phase → Bool
has_rule work Enter = not (is_first work)
has_rule work Down = not (is_first work)
has_rule work Check = not (is_first work)
has_rule work Back = not (is_first work)
has_rule work On = not (is_first work || is_change work)
has_rule work Seek = is_change work
has_rule work Lock = is_change work
has_rule work Valid = is_change work
has_rule work Take = is_put work
has_rule work Link = is_put work
has_rule work LinkBack = is_put work
has_rule work Attach = is_put work
has_rule work ReleaseNew = is_put work
has_rule work PutEnd = is_put work
has_rule work TakeVictim = is_strike work
has_rule work Mark = is_strike work
has_rule work UnlinkBack = is_strike work
has_rule work Unlink = is_strike work
has_rule work Detach = is_strike work
has_rule work ReleaseVictim = is_strike work
has_rule work StrikeEnd = is_strike work
has_rule work First = is_first work
has_rule work FirstNext = is_first work

-- Some run comes to a book in which a station has such a work under way in such a phase, and its step is accepted.
pub record Reaches {K : Type 0} (rank : K → K → Ordering) (work : Work) (phase : Phase) : Type 0 where
  pub book : Book K
  pub run : Run rank book
  pub station : ℕ
  pub task : Task K
  pub under_way : work_at book station ≡ Some task
  pub of_work : task.work ≡ work
  pub in_phase : task.phase ≡ phase
  pub answer : Stepped K
  pub after : Book K
  pub steps : Does rank book (step station) (stepped (Ok answer)) after

-- Every rule is reached, with ingredient numbers for keys.
abbrev pub EveryRuleIsReached : Type 0
EveryRuleIsReached = (work : Work) (phase : Phase) → has_rule work phase ≡ true → Reaches by_ingredient work phase
