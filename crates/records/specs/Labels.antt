-- The number and the name of each refusal, and the word and the number of each answer. Assumes nothing.
use Rattle.std.specs.Prelude.{ℕ, List, Some, None, codes, Option}
use Rattle.guides.specs.Labels.{Label, guide_label}
use Rattle.records.specs.declared.answer.Answer.{Answer}
use Rattle.records.specs.declared.answer.Answer.TheVariants.{Yes, No, Found, Missing, NoRoom}
use Rattle.records.specs.declared.answer.Refusal.{Refusal}
use Rattle.records.specs.declared.answer.Refusal.TheVariants.{BadCount, Guide, NoStation, Busy, Idle, HoldsLock, ShortList, Damaged}
use Rattle.records.specs.declared.answer.Stepped.{Stepped}
use Rattle.records.specs.declared.answer.Stepped.TheVariants.{Moved, Waits, Ended}

abbrev pub refusal_label : Refusal → Label
refusal_label BadCount = record { number = 1; name = codes "BAD COUNT" }
refusal_label (Guide refusal) = guide_label refusal
refusal_label NoStation = record { number = 3; name = codes "NO STATION" }
refusal_label Busy = record { number = 4; name = codes "BUSY" }
refusal_label Idle = record { number = 5; name = codes "IDLE" }
refusal_label HoldsLock = record { number = 6; name = codes "HOLDS LOCK" }
refusal_label ShortList = record { number = 7; name = codes "SHORT LIST" }
refusal_label (Damaged damage) = record { number = 8; name = codes "DAMAGED" }

-- Of the answers only NO ROOM has a number.
pub record AnswerLabel : Type 0 where
  pub number : Option ℕ
  pub word : List ℕ

abbrev pub answer_label : {K : Type 0} → Answer K → AnswerLabel
answer_label Yes = record { number = None; word = codes "yes" }
answer_label No = record { number = None; word = codes "no" }
answer_label (Found key) = record { number = None; word = codes "key" }
answer_label Missing = record { number = None; word = codes "none" }
answer_label NoRoom = record { number = Some 12; word = codes "no-room" }

abbrev pub stepped_word : {K : Type 0} → Stepped K → List ℕ
stepped_word Moved = codes "moved"
stepped_word Waits = codes "waits"
stepped_word (Ended answer steps) = (answer_label answer).word
