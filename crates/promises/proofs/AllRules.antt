-- That one run comes to every rule: a put, a look, an after, a first and a strike at one station, on a book with one place
-- beside Low and High. Assumes nothing.
use Rattle.std.proofs.Common.{◌≡◌, ℕ, zero, suc, true, List, [], ◌∷◌, Some, Ok, refl}
use Rattle.orders.specs.declared.number.Ingredient.{Ingredient}
use Rattle.orders.specs.Ranks.{by_ingredient}
use Rattle.guides.specs.declared.answer.Beside.TheVariants.{End}
use Rattle.guides.specs.Meaning.{low}
use Rattle.records.specs.declared.record.Place.{Place}
use Rattle.records.specs.declared.record.Station.{Station}
use Rattle.records.specs.declared.record.Work.{Work}
use Rattle.records.specs.declared.record.Work.TheVariants.{Put, Strike, Look, First, After}
use Rattle.records.specs.Records.{blank}
use Rattle.rules.specs.Stepping.{Choice}
use Rattle.engine.specs.Calling.{Opened, opening, opened_places, opened_stations}
use Rattle.engine.specs.Settling.{idle}
use Rattle.guides.specs.Rules.{cleared}
use Rattle.promises.specs.Reached.{EveryRuleIsReached}
use Rattle.promises.specs.Runs.{opened, opened_book, begin, step}
use Rattle.promises.proofs.Player.{Move, may_play}
use Rattle.promises.proofs.Visits.{works, phases, visits, covers, covered, visit_reaches}

abbrev number : ℕ → Ingredient
number n = record { 0 = n }

-- The guide leads nowhere, and the one place is taken.
abbrev plainly : Choice
plainly = record { start = low; beside = End; free = Some 2 }

abbrev begins : Work → ℕ → Move Ingredient
begins work n = record { call = begin 0 work (number n); choice = plainly }

abbrev steps : ℕ → List (Move Ingredient) → List (Move Ingredient)
steps zero ms = ms
steps (suc n) ms = record { call = step 0; choice = plainly } ∷ steps n ms

script : List (Move Ingredient)
script = begins Put 20 ∷ steps 13 (begins Look 20 ∷ steps 6 (begins After 10 ∷ steps 6 (begins First 0 ∷ steps 2 (begins Strike 20 ∷ steps 14 []))))

given_places : List (Place Ingredient)
given_places = blank (number 0) ∷ blank (number 0) ∷ blank (number 0) ∷ []

given_stations : List (Station Ingredient)
given_stations = idle ∷ []

fresh : Opened Ingredient
fresh = record { places = opened_places given_places; stations = opened_stations given_stations; meaning = cleared 3 }

fresh_is_opened : opening 3 given_places given_stations ≡ Ok fresh
unfolding given_places given_stations fresh
fresh_is_opened = refl

script_may_be_played : may_play by_ingredient script (opened_book by_ingredient fresh) ≡ true
unfolding script given_places given_stations fresh
script_may_be_played = refl

script_goes_through_all : covers (visits by_ingredient script (opened_book by_ingredient fresh)) ≡ true
unfolding script given_places given_stations fresh covers works phases
script_goes_through_all = refl

pub every_rule_is_reached : EveryRuleIsReached
every_rule_is_reached work phase rule =
    visit_reaches by_ingredient work phase script (opened_book by_ingredient fresh) (opened 3 given_places given_stations fresh fresh_is_opened) script_may_be_played
    (covered (visits by_ingredient script (opened_book by_ingredient fresh)) script_goes_through_all work phase rule)
