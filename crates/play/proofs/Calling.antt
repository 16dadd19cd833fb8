-- That a call on the open book is what its line says. Assumes nothing.
use Rattle.std.proofs.Common.{◌≡◌, Some, Err, MatchOption, Result, sym, refl, subst}
use Rattle.guides.specs.declared.line.Line.{Line}
use Rattle.records.specs.declared.answer.Refusal.{Refusal}
use Rattle.script.specs.declared.entry.LineRefusal.TheVariants.{Call}
use Rattle.script.specs.declared.entry.Said.{Said}
use Rattle.script.specs.declared.entry.Said.TheVariants.{Refused}
use Rattle.play.specs.declared.book.Book.{Book}
use Rattle.play.specs.declared.error.PlayError.{PlayError}
use Rattle.play.specs.declared.error.PlayError.TheVariants.{Refused as RefusedSo}
use Rattle.play.specs.declared.player.Player.{Player}
use Rattle.play.specs.Playing.{holding, told, Calls, CallsIn}

pub called : {R : Type 0} (does : Book Line → R → Book Line → Type 0) (says : R → Said) (player : Player) (before after : Book Line) (answer : R)
    → player.book ≡ Some before → does before answer after → Calls does says player (says answer) (holding after)
called does says player before after answer is did =
    subst (λ b. CallsIn does says b player (says answer) (holding after)) (sym is) (record { answer = answer; book = after; done = did; shown = refl; stands = refl })

-- A refused call tells its refusal.
pub refused : (P : Type 0) (Q : Said → Type 0) (result : Result Said PlayError) (e : PlayError) (refusal : Refusal)
    → result ≡ Err e → e ≡ RefusedSo (Call refusal) → Q (Refused (Call refusal)) → MatchOption (told result) P Q
refused P Q result e refusal was is said = rw was (rw is said)
