-- What one line of a script says and makes of the book. Assumes nothing.
use Rattle.std.specs.Prelude.{◌≡◌, ℕ, List, Some, None, Ok, Err, Option, Result}
use Rattle.guides.specs.declared.line.Line.{Line}
use Rattle.guides.specs.Straight.{straight}
use Rattle.orders.specs.declared.number.Ingredient.{Ingredient}
use Rattle.records.specs.declared.answer.Refusal.{Refusal}
use Rattle.records.specs.declared.answer.Stepped.{Stepped}
use Rattle.script.specs.declared.command.Command.{Command}
use Rattle.script.specs.declared.command.Command.TheVariants.{Open, Begin, Run, Leave}
use Rattle.script.specs.declared.command.GuideName.{GuideName}
use Rattle.script.specs.declared.entry.LineRefusal.TheVariants.{BadLine, Call}
use Rattle.script.specs.declared.entry.Said.{Said}
use Rattle.script.specs.declared.entry.Said.TheVariants.{Opened, Begun, Ran, Left, Refused}
use Rattle.script.specs.Commands.{command_of}
use Rattle.engine.specs.Calling.{opening}
use Rattle.play.specs.declared.book.Book.{Book}
use Rattle.play.specs.declared.player.Player.{Player}
use Rattle.play.specs.declared.error.PlayError.{PlayError}
use Rattle.play.specs.declared.error.PlayError.TheVariants.{Refused as RefusedSo, OutOfMemory}
use Rattle.play.specs.Booked.{new_places, new_stations, OpensBook, BeginsIn, RunsIn, LeavesIn}

-- No book is open.
abbrev pub closed : Player
closed = record { book = None }

-- This book is open.
abbrev pub holding : Book Line → Player
holding book = record { book = Some book }

-- What a line came to says: a refusal is said too, and only for want of memory nothing is.
abbrev pub told : Result Said PlayError → Option Said
told (Ok said) = Some said
told (Err (RefusedSo refusal)) = Some (Refused refusal)
told (Err (OutOfMemory lack)) = None

-- Only an open makes records, so only an open may lack memory.
abbrev pub MayLack : Option Command → Type 0
MayLack None = ⊥
MayLack (Some (Open stations guide places)) = Unit {0}
MayLack (Some (Begin station work key)) = ⊥
MayLack (Some (Run station)) = ⊥
MayLack (Some (Leave station)) = ⊥

-- What is said of a call by its answer.
abbrev pub said_begun : Result (Unit {0}) Refusal → Said
said_begun (Ok done) = Begun
said_begun (Err refusal) = Refused (Call refusal)

abbrev pub said_ran : Result (Stepped Ingredient) Refusal → Said
said_ran (Ok stepped) = Ran stepped
said_ran (Err refusal) = Refused (Call refusal)

abbrev pub said_left : Result (Unit {0}) Refusal → Said
said_left (Ok done) = Left
said_left (Err refusal) = Refused (Call refusal)

-- A line that makes no call: it is refused, and the book stays.
abbrev pub IsBad : Player → Said → Player → Type 0
IsBad before said after = (said ≡ Refused BadLine) × (after ≡ before)

-- Open: a book takes the place of the one that stood, or open is refused and that stays.
abbrev pub OpensWith : Result (Book Line) Refusal → Player → Said → Player → Type 0
OpensWith (Ok book) before said after = (said ≡ Opened) × (after ≡ holding book)
OpensWith (Err refusal) before said after = (said ≡ Refused (Call refusal)) × (after ≡ before)

pub record OpensOver (stations : ℕ) (guide : GuideName) (places : ℕ) (before : Player) (said : Said) (after : Player) : Type 0 where
  pub book : Result (Book Line) Refusal
  pub opened : OpensBook straight (opening 64 (new_places places) (new_stations stations)) book
  pub shown : OpensWith book before said after

-- A call on the book with this answer; it is a bad line where no book is open.
pub record CallsOn {R : Type 0} (does : Book Line → R → Book Line → Type 0) (says : R → Said) (before : Book Line) (said : Said) (after : Player) : Type 0 where
  pub answer : R
  pub book : Book Line
  pub done : does before answer book
  pub shown : said ≡ says answer
  pub stands : after ≡ holding book

abbrev pub CallsIn : {R : Type 0} → (Book Line → R → Book Line → Type 0) → (R → Said) → Option (Book Line) → Player → Said → Player → Type 0
CallsIn does says None before said after = IsBad before said after
CallsIn does says (Some book) before said after = CallsOn does says book said after

abbrev pub Calls : {R : Type 0} → (Book Line → R → Book Line → Type 0) → (R → Said) → Player → Said → Player → Type 0
Calls does says before said after = CallsIn does says before.book before said after

-- A command on the player's book.
abbrev pub Obeys : Command → Player → Said → Player → Type 0
Obeys (Open stations guide places) before said after = OpensOver stations guide places before said after
Obeys (Begin station work key) before said after = Calls (BeginsIn station work key) said_begun before said after
Obeys (Run station) before said after = Calls (RunsIn straight station) said_ran before said after
Obeys (Leave station) before said after = Calls (LeavesIn station) said_left before said after

-- One line of a script.
abbrev pub PlaysBy : Option Command → Player → Said → Player → Type 0
PlaysBy None before said after = IsBad before said after
PlaysBy (Some command) before said after = Obeys command before said after

abbrev pub Plays : List ℕ → Player → Said → Player → Type 0
Plays line before said after = PlaysBy (command_of line) before said after
