-- What a guide means: a sequence of places, and the number of places that it was last cleared for. Assumes nothing.
use Rattle.std.specs.Prelude.{ℕ, Bool, true, false, cond, not, ◌&&◌, ◌||◌, List, [], ◌∷◌, ◌==◌, nat_lt}

pub record Meaning : Type 0 where
  -- the places that stand in the guide, from Low to High
  pub sequence : List ℕ
  -- the N of the last clear: the places are 0 to N - 1
  pub places : ℕ

-- Low is place 0 and High is place 1.
abbrev pub low : ℕ
low = 0

abbrev pub high : ℕ
high = 1

-- p stands in the sequence.
abbrev pub has : ℕ → List ℕ → Bool
has p [] = false
has p (x ∷ xs) = x == p || has p xs

-- p stands before q in the sequence.
abbrev pub precedes : ℕ → ℕ → List ℕ → Bool
precedes p q [] = false
precedes p q (x ∷ xs) = cond (x == p) (has q xs) (precedes p q xs)

-- The sequence begins with p.
abbrev pub begins_with : ℕ → List ℕ → Bool
begins_with p [] = false
begins_with p (x ∷ xs) = x == p

-- The sequence ends with p.
abbrev pub ends_with : ℕ → List ℕ → Bool
ends_with p [] = false
ends_with p (x ∷ []) = x == p
ends_with p (x ∷ (y ∷ ys)) = ends_with p (y ∷ ys)

-- p and q are neighbours in the sequence, in that order.
abbrev pub neighbours : ℕ → ℕ → List ℕ → Bool
neighbours p q [] = false
neighbours p q (x ∷ xs) = (x == p && begins_with q xs) || neighbours p q xs

-- No place stands twice.
abbrev pub distinct : List ℕ → Bool
distinct [] = true
distinct (x ∷ xs) = not (has x xs) && distinct xs

-- Every place is among the first n.
abbrev pub all_below : ℕ → List ℕ → Bool
all_below n [] = true
all_below n (x ∷ xs) = nat_lt x n && all_below n xs

-- The rule that every guide keeps: its places are among the N, each stands at most once, Low first and High last.
abbrev pub lawful : Meaning → Bool
lawful m = begins_with low m.sequence && (ends_with high m.sequence && (distinct m.sequence && all_below m.places m.sequence))

-- The sequence with x put right after p.
abbrev pub with_after : ℕ → ℕ → List ℕ → List ℕ
with_after p x [] = []
with_after p x (y ∷ ys) = cond (y == p) (y ∷ x ∷ ys) (y ∷ with_after p x ys)

-- The sequence with x taken out.
abbrev pub without : ℕ → List ℕ → List ℕ
without x [] = []
without x (y ∷ ys) = cond (y == x) ys (y ∷ without x ys)
