-- The tree that a table shows. Assumes nothing.
use Rattle.std.specs.Prelude.{◌≡◌, ℕ, zero, suc, Bool, true, false, cond, ◌&&◌, List, [], ◌∷◌, ◌++◌, ◌==◌}
use Rattle.guides.specs.Meaning.{Meaning, has, low, high, lawful}
use Rattle.tables.specs.declared.entry.Entry.{Entry}
use Rattle.tables.specs.Revisions.{at}

-- A tree of places.
pub data Shape : Type 0 where
  bare : Shape
  node : Shape → ℕ → Shape → Shape

-- The place at the top, 0 if there is none.
abbrev pub root : Shape → ℕ
root bare = 0
root (node l p r) = p

-- The places from left to right.
abbrev pub order : Shape → List ℕ
order bare = []
order (node l p r) = order l ++ p ∷ order r

-- The tree that the links lead to from a place, as far as so many levels.
unfoldable pub grown : ℕ → (ℕ → Entry) → ℕ → Shape
grown zero f p = bare
grown (suc n) f p = cond (p == 0) bare (node (grown n f (f p).children.left) p (grown n f (f p).children.right))

-- The links show the tree, hung from a parent: the children and the parents agree.
abbrev pub shows : (ℕ → Entry) → ℕ → Shape → Bool
shows f q bare = true
shows f q (node l p r) =
    ((f p).children.left == root l) && ((f p).children.right == root r && ((f p).parent == q && (shows f p l && shows f p r)))

-- Each place knows its neighbours in the sequence, and none stands after the last.
abbrev pub threaded : (ℕ → Entry) → List ℕ → Bool
threaded f [] = true
threaded f (p ∷ []) = (f p).after == 0
threaded f (p ∷ (q ∷ xs)) = (f p).after == q && ((f q).before == p && threaded f (q ∷ xs))

-- The tree that a table shows: High is its root, and no way down passes more than 1,024 places.
unfoldable pub shape_of : List Entry → Shape
shape_of es = grown 1024 (at es) high

-- The sequence of a table: Low, and then the places of the tree.
abbrev pub sequence_of : List Entry → List ℕ
sequence_of es = low ∷ order (shape_of es)

-- What a table means that was cleared for n places.
abbrev pub tree_meaning : List Entry → ℕ → Meaning
tree_meaning es n = record { sequence = sequence_of es; places = n }

-- The entry of a place that does not stand in the tree has no parent, and nothing after it.
abbrev pub idle : Entry → Bool
idle e = e.parent == 0 && e.after == 0

-- The rule against loops and against links outside the places, in four parts: the sequence is lawful; the links show
-- the tree; each place knows its neighbours; what does not stand in the sequence is idle.
abbrev pub keeps_law : List Entry → ℕ → Bool
keeps_law es n = lawful (tree_meaning es n)

abbrev pub keeps_links : List Entry → Bool
keeps_links es = shows (at es) 0 (shape_of es)

abbrev pub keeps_thread : List Entry → Bool
keeps_thread es = threaded (at es) (sequence_of es)

abbrev pub KeepsRest : List Entry → Type 0
KeepsRest es = (p : ℕ) → has p (sequence_of es) ≡ false → idle (at es p) ≡ true
