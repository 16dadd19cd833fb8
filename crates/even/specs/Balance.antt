-- Which heights are wrong, which places lean, and when nothing is to be mended. Assumes nothing.
use Rattle.std.specs.Prelude.{◌≡◌, ℕ, ◌<◌, Bool, true, false, cond, not, ◌&&◌, ◌||◌, ◌⊎◌, List, ◌==◌, nat_lt, MatchOption, Option}
use Rattle.guides.specs.declared.answer.Side.{Side}
use Rattle.guides.specs.declared.answer.Side.TheVariants.{Lower, Higher}
use Rattle.guides.specs.Meaning.{has}
use Rattle.tables.specs.declared.entry.Entry.{Entry}
use Rattle.tables.specs.Changes.{turned}
use Rattle.guides.specs.Sides.{opposite}
use Rattle.tables.specs.Entries.{child}
use Rattle.tables.specs.Revisions.{at}
use Rattle.tables.specs.Shapes.{sequence_of}
use Rattle.trees.specs.Plain.{can_turn}
use Rattle.even.specs.declared.heights.Sides.{Sides}
use Rattle.even.specs.Marks.{marked_turned}
use Rattle.even.specs.Sides.{side_height, greater, one_more, uneven, heavier}
use Rattle.even.specs.Recorded.{sides_at, with_side}

-- The height that a side should have: 0 without a child, else one more than the child's greater height.
abbrev pub due : List Entry → List Sides → ℕ → Side → ℕ
due es hs p side =
    cond (child side (at es p) == 0) 0 (one_more (greater (sides_at hs (child side (at es p)))))

-- A side is wrong unless it has the height that it should have.
abbrev pub wrong : List Entry → List Sides → ℕ → Side → Bool
wrong es hs p side = not (side_height side (sides_at hs p) == due es hs p side)

-- A place of the tree with a wrong side.
abbrev pub flawed : List Entry → List Sides → ℕ → Bool
flawed es hs p = nat_lt 0 p && (has p (sequence_of es) && (wrong es hs p Lower || wrong es hs p Higher))

-- A place of the tree other than High whose heights differ by 2 or more.
abbrev pub leaning : List Entry → List Sides → ℕ → Bool
leaning es hs p = nat_lt 1 p && (has p (sequence_of es) && uneven (sides_at hs p))

-- A place of the table was found that passes a test, or none was, since none does.
abbrev pub Finds : (ℕ → Bool) → Option ℕ → Type 0
Finds test found = MatchOption found ((p : ℕ) → p < 1024 → test p ≡ false) (λ p. test p ≡ true)

-- The same of a test whose answers are a relation, as a closure's are.
unfoldable pub FindsBy : (ℕ → Bool → Type 0) → Option ℕ → Type 0
FindsBy Tells found = MatchOption found ((p : ℕ) → p < 1024 → Tells p false) (λ p. Tells p true)

-- No place has a wrong side.
abbrev pub Sound : List Entry → List Sides → Type 0
Sound es hs = (p : ℕ) → flawed es hs p ≡ false

-- Nothing is to be mended.
abbrev pub Settled : List Entry → List Sides → Type 0
Settled es hs = (Sound es hs) × ((p : ℕ) → leaning es hs p ≡ false)

-- A wrong side of a place gets the height that it should have, the left one first.
unfoldable pub corrected : ℕ → List Entry → List Sides → List Sides
corrected p es hs =
    cond (wrong es hs p Lower) (with_side p Lower (due es hs p Lower) hs) (with_side p Higher (due es hs p Higher) hs)

-- A place that can be turned is turned, and the heights follow.
unfoldable pub rotated : Side → ℕ → List Entry → List Entry
rotated side p es = cond (can_turn side p es) (turned side p es) es

unfoldable pub remarked : Side → ℕ → List Entry → List Sides → List Sides
remarked side p es hs = cond (can_turn side p es) (marked_turned side p (child side (at es p)) hs) hs

-- The heavier side of a place, and the child there.
abbrev pub lean : ℕ → List Sides → Side
lean p hs = heavier (sides_at hs p)

abbrev pub bent : ℕ → List Entry → List Sides → ℕ
bent p es hs = child (lean p hs) (at es p)

-- The child on the heavier side leans the other way.
abbrev pub bends_back : ℕ → List Entry → List Sides → Bool
bends_back p es hs =
    nat_lt (side_height (lean p hs) (sides_at hs (bent p es hs)))
    (side_height (opposite (lean p hs)) (sides_at hs (bent p es hs)))

-- A place that leans is turned to its heavier side; if the child there leans the other way, that one is turned.
unfoldable pub turned_over : ℕ → List Entry → List Sides → List Entry
turned_over p es hs =
    cond (bends_back p es hs) (rotated (opposite (lean p hs)) (bent p es hs) es) (rotated (lean p hs) p es)

unfoldable pub marked_over : ℕ → List Entry → List Sides → List Sides
marked_over p es hs =
    cond (bends_back p es hs) (remarked (opposite (lean p hs)) (bent p es hs) es hs) (remarked (lean p hs) p es hs)

-- What a mend does that was needed: it corrects a place with a wrong side, or turns over a place that leans.
abbrev pub Mends : List Entry → List Sides → List Entry → List Sides → Type 0
Mends es hs fs ks =
    ((p : ℕ) × (flawed es hs p ≡ true) × (fs ≡ es) × (ks ≡ corrected p es hs))
    ⊎ ((p : ℕ) × (Sound es hs) × (leaning es hs p ≡ true) × (fs ≡ turned_over p es hs) × (ks ≡ marked_over p es hs))
