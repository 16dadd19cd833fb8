-- The calls played on a book with the plain tree, by the definitions that their contracts name: a work is begun, and its
-- station is stepped. Assumes nothing.
use Rattle.std.specs.Prelude.{ℕ, zero, suc, ◌+◌, cond, List, [], ◌∷◌, drop, replicate, Some, None, Ok, Err, Option, Result}
use Rattle.orders.specs.declared.number.Ingredient.{Ingredient}
use Rattle.orders.specs.Ranks.{by_ingredient}
use Rattle.guides.specs.Meaning.{Meaning, low, high}
use Rattle.guides.specs.Rules.{cleared}
use Rattle.tables.specs.declared.entry.Entry.{Entry}
use Rattle.tables.specs.Entries.{blank as blank_entry, with_after}
use Rattle.tables.specs.Revisions.{revise}
use Rattle.tables.specs.Changes.{hung_between, taken_out}
use Rattle.tables.specs.Leads.{led_in}
use Rattle.records.specs.declared.answer.Refusal.{Refusal}
use Rattle.records.specs.declared.answer.Stepped.{Stepped}
use Rattle.records.specs.declared.answer.Stepped.TheVariants.{Moved, Waits, Ended}
use Rattle.records.specs.declared.record.Phase.{Phase}
use Rattle.records.specs.declared.record.Phase.TheVariants.{Enter, Down, Check, Back, On, Seek, Lock, Valid, Take, Link, LinkBack, Attach, ReleaseNew, PutEnd, TakeVictim, Mark, UnlinkBack, Unlink, Detach, ReleaseVictim, StrikeEnd, First, FirstNext}
use Rattle.records.specs.declared.record.Place.{Place}
use Rattle.records.specs.declared.record.Station.{Station}
use Rattle.records.specs.declared.record.Task.{Task}
use Rattle.records.specs.declared.record.Work.{Work}
use Rattle.records.specs.Records.{blank, place, standing_at}
use Rattle.rules.specs.Finding.{side_of}
use Rattle.rules.specs.Putting.{is_free}
use Rattle.rules.specs.Stepping.{Choice, none_open}
use Rattle.engine.specs.Calling.{MadeStep, opened_places, opened_stations, task_at, beginning, stepping}
use Rattle.engine.specs.Settling.{idle}

abbrev pub number : ℕ → Ingredient
number n = record { 0 = n }

-- A book on the plain tree: its records, the entries of the tree's table, and what the tree means.
pub record Desk : Type 0 where
  pub places : List (Place Ingredient)
  pub stations : List (Station Ingredient)
  pub entries : List Entry
  pub meaning : Meaning

-- An opened book of so many places and stations. In the tree stands only High, and it comes after Low; as many entries are
-- written down as there are places, since nothing reads the others.
abbrev pub desk : ℕ → ℕ → Desk
desk n m = record {
  places = opened_places (replicate n (blank (number 0)));
  stations = opened_stations (replicate m idle);
  entries = revise low (with_after high) (replicate n blank_entry);
  meaning = cleared n;
}

-- The free place with the lowest number, among these from the given number on.
abbrev pub free_from : ℕ → List (Place Ingredient) → Option ℕ
free_from p [] = None
free_from p (x ∷ xs) = cond (is_free x.status) (Some p) (free_from (p + 1) xs)

-- What a step of the task chooses: the tree starts at High and answers its child on the side that is asked for; of the free
-- places the lowest is taken. Where no work is under way nothing is asked.
abbrev pub chosen : Desk → Option (Task Ingredient) → Choice
chosen d None = none_open
chosen d (Some t) = record {
  start = high;
  beside = led_in d.meaning.sequence d.entries t.at (side_of (standing_at by_ingredient d.places t.at t.key));
  free = free_from 2 (drop 2 d.places);
}

-- The entries of the tree after a step of the task: ATTACH hangs its other place, and DETACH takes it out.
abbrev pub entries_by : Phase → Desk → Task Ingredient → List Entry
entries_by Enter d t = d.entries
entries_by Down d t = d.entries
entries_by Check d t = d.entries
entries_by Back d t = d.entries
entries_by On d t = d.entries
entries_by Seek d t = d.entries
entries_by Lock d t = d.entries
entries_by Valid d t = d.entries
entries_by Take d t = d.entries
entries_by Link d t = d.entries
entries_by LinkBack d t = d.entries
entries_by Attach d t = hung_between t.at t.other (place t.key d.places t.other).next d.entries
entries_by ReleaseNew d t = d.entries
entries_by PutEnd d t = d.entries
entries_by TakeVictim d t = d.entries
entries_by Mark d t = d.entries
entries_by UnlinkBack d t = d.entries
entries_by Unlink d t = d.entries
entries_by Detach d t = taken_out t.other d.entries
entries_by ReleaseVictim d t = d.entries
entries_by StrikeEnd d t = d.entries
entries_by First d t = d.entries
entries_by FirstNext d t = d.entries

abbrev pub entries_after : Desk → Option (Task Ingredient) → List Entry
entries_after d None = d.entries
entries_after d (Some t) = entries_by t.phase d t

-- What a call answers and leaves.
pub record LeftBy (A : Type 0) : Type 0 where
  pub answer : Result A Refusal
  pub after : Desk

abbrev pub begun_by : Desk → Result (List (Station Ingredient)) Refusal → LeftBy (Unit {0})
begun_by d (Ok ss) = record { answer = Ok tt; after = record { places = d.places; stations = ss; entries = d.entries; meaning = d.meaning } }
begun_by d (Err refusal) = record { answer = Err refusal; after = d }

abbrev pub stepped_by : Desk → List Entry → Result (MadeStep Ingredient) Refusal → LeftBy (Stepped Ingredient)
stepped_by d entries (Ok made) = record {
  answer = Ok made.after.answer;
  after = record { places = made.after.places; stations = made.after.stations; entries = entries; meaning = made.meaning };
}
stepped_by d entries (Err refusal) = record { answer = Err refusal; after = d }

-- Begin a work at station i; step station i.
abbrev pub begin_on : ℕ → Work → ℕ → Desk → LeftBy (Unit {0})
begin_on i work key d = begun_by d (beginning d.stations i work (number key))

abbrev pub step_on : ℕ → Desk → LeftBy (Stepped Ingredient)
step_on i d =
    stepped_by d (entries_after d (task_at d.stations i))
    (stepping by_ingredient (chosen d (task_at d.stations i)) d.places d.stations d.meaning i)

-- So many steps of station i, or fewer if one of them does not just move: what the last one answered.
abbrev pub go_on_by : Result (Stepped Ingredient) Refusal → Desk → (Desk → LeftBy (Stepped Ingredient)) → LeftBy (Stepped Ingredient)
go_on_by (Ok Moved) d more = more d
go_on_by (Ok Waits) d more = record { answer = Ok Waits; after = d }
go_on_by (Ok (Ended a n)) d more = record { answer = Ok (Ended a n); after = d }
go_on_by (Err refusal) d more = record { answer = Err refusal; after = d }

abbrev pub steps_on : ℕ → ℕ → Desk → LeftBy (Stepped Ingredient)
steps_on zero i d = record { answer = Ok Moved; after = d }
steps_on (suc n) i d = let once = step_on i d in go_on_by once.answer once.after (steps_on n i)

-- What is done at a book: a work is begun at a station, or a station is given so many steps.
pub data Act : Type 0 where
  begins : ℕ → Work → ℕ → Act
  steps : ℕ → ℕ → Act

-- What the stations that were given steps answered last, act by act.
abbrev pub answers : List Act → Desk → List (Result (Stepped Ingredient) Refusal)
answers [] d = []
answers (begins i work key ∷ acts) d = answers acts (begin_on i work key d).after
answers (steps i n ∷ acts) d = let done = steps_on n i d in done.answer ∷ answers acts done.after
