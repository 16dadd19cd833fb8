-- What the lines of a script say. Assumes nothing.
use Rattle.std.specs.Prelude.{ℕ, cond, ◌&&◌, List, length, Some, None, codes, Option, nat_le}
use Rattle.std.specs.Option.{option_map}
use Rattle.std.specs.Str.{bytes_eq}
use Rattle.records.specs.declared.record.Work.{Work}
use Rattle.records.specs.declared.record.Work.TheVariants.{Put, Strike, Look, First, After}
use Rattle.script.specs.declared.command.Command.{Command}
use Rattle.script.specs.declared.command.Command.TheVariants.{Open, Begin, Run, Leave}
use Rattle.script.specs.declared.command.Fields.{Fields}
use Rattle.script.specs.declared.command.GuideName.{GuideName}
use Rattle.script.specs.declared.command.GuideName.TheVariants.{Line}
use Rattle.script.specs.Words.{Token, line_of, piece_of, token, token_of, token_value, is_name, is_dash}

-- What the first gives, the second takes on; nothing if the first gives nothing.
abbrev pub given : {A B : Type 0} → Option A → (A → Option B) → Option B
given None next = None
given (Some x) next = next x

-- The names of a line's words are a script's first line.
abbrev pub names : List ℕ
names = codes "call station work key"

-- A script has at most 32,768 bytes and begins with the names: what follows them, and nothing for any other text.
abbrev pub script_of : List ℕ → Option (List ℕ)
script_of text =
    cond (nat_le (length text) 32768) (given (line_of text) (λ first. cond (bytes_eq first.0 names) (Some first.1) None)) None

-- The four words of a line, each under its name.
pub record Tokens : Type 0 where
  pub call : Token
  pub station : Token
  pub work : Token
  pub key : Token

-- What the program holds of a line stands for these words.
abbrev pub tokens : Fields → Tokens
tokens line = record { call = token line.call; station = token line.station; work = token line.work; key = token line.key }

-- The first word of what is left of a line, and what is then left.
abbrev pub next_word : Option (List ℕ) → Option (Token × Option (List ℕ))
next_word rest = given rest (λ line. given (token_of (piece_of line).0) (λ word. Some (word, (piece_of line).1)))

-- Where the line ends, this is all of it.
abbrev pub ended : Option (List ℕ) → Tokens → Option Tokens
ended None line = Some line
ended (Some rest) line = None

-- A line is exactly four words with one space between.
abbrev pub tokens_of : List ℕ → Option Tokens
tokens_of line =
    given (next_word (Some line)) (λ call.
    given (next_word call.1) (λ station.
    given (next_word station.1) (λ work.
    given (next_word work.1) (λ key.
    ended key.1 (record { call = call.0; station = station.0; work = work.0; key = key.0 })))))

-- The guide of this name.
abbrev pub guide_of : Token → Option GuideName
guide_of word = cond (is_name (codes "line") word) (Some Line) None

-- The work of this name.
abbrev pub work_of : Token → Option Work
work_of word =
    cond (is_name (codes "put") word) (Some Put)
    (cond (is_name (codes "strike") word) (Some Strike)
    (cond (is_name (codes "look") word) (Some Look)
    (cond (is_name (codes "first") word) (Some First)
    (cond (is_name (codes "after") word) (Some After) None))))

-- The key of a work. With `first`, which has none, it is written as a dash and counts as 0; with the others it is a number.
abbrev pub key_of : Work → Token → Option ℕ
key_of Put word = token_value word
key_of Strike word = token_value word
key_of Look word = token_value word
key_of First word = cond (is_dash word) (Some 0) None
key_of After word = token_value word

-- open S G P
abbrev pub opening : Tokens → Option Command
opening line =
    given (token_value line.station) (λ stations.
    given (guide_of line.work) (λ guide.
    given (token_value line.key) (λ places.
    Some (Open stations guide places))))

-- begin S W K
abbrev pub beginning : Tokens → Option Command
beginning line =
    given (token_value line.station) (λ station.
    given (work_of line.work) (λ work.
    given (key_of work line.key) (λ key.
    Some (Begin station work key))))

-- A station and no other value: S - -
abbrev pub only_station : Tokens → Option ℕ
only_station line = cond (is_dash line.work && is_dash line.key) (token_value line.station) None

-- The first word says which call it is: open S G P, begin S W K, run S - -, leave S - -.
abbrev pub call_of : Tokens → Option Command
call_of line =
    cond (is_name (codes "open") line.call) (opening line)
    (cond (is_name (codes "begin") line.call) (beginning line)
    (cond (is_name (codes "run") line.call) (option_map Run (only_station line))
    (cond (is_name (codes "leave") line.call) (option_map Leave (only_station line)) None)))

-- What a line says; nothing for a bad line.
unfoldable pub command_of : List ℕ → Option Command
command_of line = given (tokens_of line) call_of
