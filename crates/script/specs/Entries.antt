-- What is printed of a script. Assumes nothing.
use Rattle.std.specs.Prelude.{ℕ, List, ◌++◌, Some, None, codes, decimal, Option}
use Rattle.orders.specs.declared.number.Ingredient.{Ingredient}
use Rattle.guides.specs.Labels.{Label}
use Rattle.records.specs.Labels.{refusal_label, stepped_word}
use Rattle.records.specs.declared.answer.Answer.{Answer}
use Rattle.records.specs.declared.answer.Answer.TheVariants.{Yes, No, Found, Missing, NoRoom}
use Rattle.records.specs.declared.answer.Stepped.{Stepped}
use Rattle.records.specs.declared.answer.Stepped.TheVariants.{Moved, Waits, Ended}
use Rattle.script.specs.declared.entry.Entry.{Entry}
use Rattle.script.specs.declared.entry.LineRefusal.{LineRefusal}
use Rattle.script.specs.declared.entry.LineRefusal.TheVariants.{BadLine, Call}
use Rattle.script.specs.declared.entry.Said.{Said}
use Rattle.script.specs.declared.entry.Said.TheVariants.{Opened, Begun, Ran, Left, Refused}

-- The first printed line has the names of the columns.
abbrev pub heading : List ℕ
heading = codes "line answer key steps"

-- The number and the name of each reason why a line is refused: its own form, or the call that it makes.
abbrev pub line_refusal_label : LineRefusal → Label
line_refusal_label BadLine = record { number = 11; name = codes "BAD LINE" }
line_refusal_label (Call refusal) = refusal_label refusal

-- The column `answer`.
abbrev pub said_word : Said → List ℕ
said_word Opened = codes "opened"
said_word Begun = codes "begun"
said_word (Ran stepped) = stepped_word stepped
said_word Left = codes "left"
said_word (Refused refusal) = codes "refused-" ++ decimal (line_refusal_label refusal).number

-- The key that an answer tells.
abbrev pub answer_key : Answer Ingredient → Option ℕ
answer_key Yes = None
answer_key No = None
answer_key (Found key) = Some key.0
answer_key Missing = None
answer_key NoRoom = None

-- The key that ends a work.
abbrev pub stepped_key : Stepped Ingredient → Option ℕ
stepped_key Moved = None
stepped_key Waits = None
stepped_key (Ended answer steps) = answer_key answer

-- The steps of a work that has ended.
abbrev pub stepped_steps : Stepped Ingredient → Option ℕ
stepped_steps Moved = None
stepped_steps Waits = None
stepped_steps (Ended answer steps) = Some steps

-- The column `key`: only what a run came to can tell a key.
abbrev pub said_key : Said → Option ℕ
said_key Opened = None
said_key Begun = None
said_key (Ran stepped) = stepped_key stepped
said_key Left = None
said_key (Refused refusal) = None

-- The column `steps`: only a run can end a work.
abbrev pub said_steps : Said → Option ℕ
said_steps Opened = None
said_steps Begun = None
said_steps (Ran stepped) = stepped_steps stepped
said_steps Left = None
said_steps (Refused refusal) = None

-- A dash stands for none.
abbrev pub number_or_dash : Option ℕ → List ℕ
number_or_dash None = codes "-"
number_or_dash (Some n) = decimal n

-- Every other printed line: N answer key steps, with one space between.
abbrev pub entry_bytes : Entry → List ℕ
entry_bytes entry =
    decimal entry.line ++ (codes " " ++
    (said_word entry.said ++ (codes " " ++
    (number_or_dash (said_key entry.said) ++ (codes " " ++
    number_or_dash (said_steps entry.said))))))
