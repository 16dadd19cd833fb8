-- How a script is cut into lines and words, and what a word is. Assumes nothing.
use Rattle.std.specs.Prelude.{ℕ, ◌+◌, ◌-◌, ◌*◌, Bool, true, false, cond, not, ◌&&◌, List, [], ◌∷◌, length, fold, Some, None, codes, Option, ◌==◌, nat_le}
use Rattle.std.specs.List.{list_all}
use Rattle.std.specs.Borrow.{Bor}
use Rattle.std.specs.Str.{bytes_eq}
use Rattle.script.specs.declared.word.Word.{Word}
use Rattle.script.specs.declared.word.Word.TheVariants.{Name, Number, Dash}

-- A byte in front of what was cut off.
abbrev pub in_front : ℕ → Option (List ℕ × List ℕ) → Option (List ℕ × List ℕ)
in_front b None = None
in_front b (Some (front, rest)) = Some (b ∷ front, rest)

-- The bytes before the first `mark`, and those after it; nothing if there is no `mark`.
abbrev pub cut_at : ℕ → List ℕ → Option (List ℕ × List ℕ)
cut_at mark [] = None
cut_at mark (b ∷ bs) = cond (b == mark) (Some ([], bs)) (in_front b (cut_at mark bs))

-- The two parts of a text that two references point to.
abbrev pub both_now : Bor (List ℕ) × Bor (List ℕ) → List ℕ × List ℕ
both_now (front, rest) = (front.now, rest.now)

-- A line feed (10) ends each line: the first line without its line feed, and the rest of the text.
abbrev pub line_of : List ℕ → Option (List ℕ × List ℕ)
line_of text = cut_at 10 text

-- The whole line where nothing was cut off, and else the part before the cut and the part after it.
abbrev pub or_whole : List ℕ → Option (List ℕ × List ℕ) → List ℕ × Option (List ℕ)
or_whole line None = (line, None)
or_whole line (Some (front, rest)) = (front, Some rest)

-- One space (32) parts words: the bytes before the first space, and what follows that space if there is one.
abbrev pub piece_of : List ℕ → List ℕ × Option (List ℕ)
piece_of line = or_whole line (cut_at 32 line)

-- The byte lies from `low` to `high`.
abbrev pub within : ℕ → ℕ → ℕ → Bool
within low high b = nat_le low b && nat_le b high

-- One or more bytes, each from `low` to `high`.
abbrev pub made_of : ℕ → ℕ → List ℕ → Bool
made_of low high bytes = not (length bytes == 0) && list_all (within low high) bytes

-- A word, with its bytes.
pub data Token : Type 0 where
  name : List ℕ → Token
  number : List ℕ → Token
  dash : List ℕ → Token

-- A name is one or more letters a to z (97 to 122), a number one or more digits (48 to 57), a dash is exactly `-`.
-- Anything else is no word.
abbrev pub token_of : List ℕ → Option Token
token_of bytes =
    cond (made_of 97 122 bytes) (Some (name bytes))
    (cond (made_of 48 57 bytes) (Some (number bytes))
    (cond (bytes_eq bytes (codes "-")) (Some (dash bytes)) None))

-- What a word of the program stands for: its kind, with the bytes that it refers to.
abbrev pub token : Word → Token
token (Name bytes) = name bytes.now
token (Number bytes) = number bytes.now
token (Dash bytes) = dash bytes.now

-- The word is this name.
abbrev pub is_name : List ℕ → Token → Bool
is_name text (name bytes) = bytes_eq bytes text
is_name text (number bytes) = false
is_name text (dash bytes) = false

-- The word is a dash, which stands for no value.
abbrev pub is_dash : Token → Bool
is_dash (name bytes) = false
is_dash (number bytes) = false
is_dash (dash bytes) = true

-- The decimal value of digits that follow digits of the value n. (`-` stops at 0, but no number has a byte below `0`.)
abbrev pub value_after : ℕ → List ℕ → ℕ
value_after n digits = fold (λ m d. m * 10 + (d - 48)) n digits

-- The decimal value of digits, however many zeros lead them; nothing if it is above 4,294,967,295.
abbrev pub number_value : List ℕ → Option ℕ
number_value digits = cond (nat_le (value_after 0 digits) 4294967295) (Some (value_after 0 digits)) None

-- Only a number has a value.
abbrev pub token_value : Token → Option ℕ
token_value (name bytes) = None
token_value (number bytes) = number_value bytes
token_value (dash bytes) = None
