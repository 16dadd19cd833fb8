-- Every place was asked twice: if none has a wrong side and none leans, nothing is to be mended.
use Rattle.std.proofs.Common.{refl, inr}
use Rattle.std.proofs.lemmas.Bool.{both_ways}
use Rattle.even.proofs.Carrying.{none_flawed, none_leans}
use Rattle.even.proofs.balanced.guiding.EvenGuide.mend.Goals as goal

pub returns-in-Some-tallest_leaning : goal.returns-in-Some-tallest_leaning
returns-in-Some-tallest_leaning c =
    let e = c.args.self.now in
    let found = c.in-Some-tallest_leaning.ensures in
    let done = c.turn_over.ensures in
    record {
      meaning_stays = done.keeps;
      evens = (
        done.keeps,
        λ settled. both_ways _ (settled.1 c.in-Some-tallest_leaning.place) found,
        inr (c.in-Some-tallest_leaning.place, none_flawed e c.in_default.ensures, found, done.entries, done.heights),
      );
    }

pub returns-in_default-tallest_leaning : goal.returns-in_default-tallest_leaning
returns-in_default-tallest_leaning c =
    let e = c.args.self.now in
    record { meaning_stays = refl; evens = (refl, (none_flawed e c.in_default.ensures, none_leans e c.in_default-tallest_leaning.ensures)) }
