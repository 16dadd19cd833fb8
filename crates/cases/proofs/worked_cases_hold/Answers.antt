-- The worked cases, by computing.
use Rattle.std.proofs.Common.{refl}
use Rattle.tables.specs.Changes.{hung, hung_between, lifted, yielded, parted, unlinked, taken_out}
use Rattle.engine.specs.Settling.{others_at_work}
use Rattle.cases.specs.Worked.{OnAnEmptyBook, OnABookOf20, AStruckPlaceWaits}
use Rattle.cases.proofs.worked_cases_hold.Goals as goal

empty_book : OnAnEmptyBook
unfolding hung hung_between
empty_book = record { put = refl; put_without_room = refl; strike = refl; look = refl; first = refl }

book_of_20 : OnABookOf20
unfolding hung hung_between lifted yielded parted unlinked taken_out others_at_work
book_of_20 = record { put = refl; strike = refl; look = refl; look_below = refl; after_below = refl }

struck_place : AStruckPlaceWaits
unfolding hung hung_between lifted yielded parted unlinked taken_out others_at_work
struck_place = refl

pub returns : goal.returns
returns c = (refl, record { on_an_empty_book = empty_book; on_a_book_of_20 = book_of_20; a_struck_place_waits = struck_place })
