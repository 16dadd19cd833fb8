-- What each call of a guide does to its meaning, and what it may answer. Assumes nothing.
use Rattle.std.specs.Prelude.{◌≡◌, ℕ, true, false, cond, not, ◌||◌, List, [], ◌∷◌, Ok, Err, Result, nat_le, nat_lt}
use Rattle.guides.specs.declared.answer.Beside.{Beside}
use Rattle.guides.specs.declared.answer.Beside.TheVariants.{Absent, End, Stands}
use Rattle.guides.specs.declared.answer.GuideRefusal.{GuideRefusal}
use Rattle.guides.specs.declared.answer.GuideRefusal.TheVariants.{SmallGuide, BadSpot, NotThere}
use Rattle.guides.specs.declared.answer.Mended.{Mended}
use Rattle.guides.specs.declared.answer.Mended.TheVariants.{Nothing}
use Rattle.guides.specs.declared.answer.Side.{Side}
use Rattle.guides.specs.declared.answer.Side.TheVariants.{Lower, Higher}
use Rattle.guides.specs.Meaning.{Meaning, low, high, has, precedes, neighbours, with_after, without}

-- A guide that was cleared for n places: the sequence is Low, High.
abbrev pub cleared : ℕ → Meaning
cleared n = record { sequence = low ∷ high ∷ []; places = n }

-- Clear. SMALL GUIDE: n is below 2 or above the most that the guide holds.
abbrev pub clearing : ℕ → ℕ → Result Meaning GuideRefusal
clearing most n = cond (nat_lt n 2 || nat_lt most n) (Err SmallGuide) (Ok (cleared n))

-- Attach puts a place between two neighbours. BAD SPOT: the place is in the sequence already, is not among the N,
-- or the two are not neighbours in that order.
abbrev pub attaching : ℕ → ℕ → ℕ → Meaning → Result Meaning GuideRefusal
attaching lower place upper m =
    cond (has place m.sequence || (nat_le m.places place || not (neighbours lower upper m.sequence)))
    (Err BadSpot)
    (Ok (record { sequence = with_after lower place m.sequence; places = m.places }))

-- Detach takes a place out. NOT THERE: the place is not in the sequence, or is Low or High.
abbrev pub detaching : ℕ → Meaning → Result Meaning GuideRefusal
detaching place m =
    cond (nat_le place high || not (has place m.sequence))
    (Err NotThere)
    (Ok (record { sequence = without place m.sequence; places = m.places }))

-- A call that answered r and left the guide `after` did what is told: it was accepted and the guide now has this
-- meaning, or it was refused and the guide is as it was.
abbrev pub Does : {G : Type 0} → (G → Meaning) → Result Meaning GuideRefusal → G → Result (Unit {0}) GuideRefusal → G → Type 0
Does meaning (Ok m) before r after = (r ≡ Ok tt) × (meaning after ≡ m)
Does meaning (Err e) before r after = (r ≡ Err e) × (after ≡ before)

-- Beside answers absent exactly when the place is not in the sequence. Otherwise it answers end, or a place of the
-- sequence strictly on the given side of the given one.
abbrev pub AnswersBeside : List ℕ → ℕ → Side → Beside → Type 0
AnswersBeside xs place side Absent = has place xs ≡ false
AnswersBeside xs place side End = has place xs ≡ true
AnswersBeside xs place Lower (Stands found) = precedes found place xs ≡ true
AnswersBeside xs place Higher (Stands found) = precedes place found xs ≡ true

-- A mend that finds nothing to mend, and leaves the guide as it is.
abbrev pub NothingMended : {G : Type 0} → G → Mended → G → Type 0
NothingMended before m after = (m ≡ Nothing) × (after ≡ before)
