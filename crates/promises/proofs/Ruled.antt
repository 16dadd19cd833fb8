-- That the rule of every accepted step goes one of the ways. Assumes nothing.
use Rattle.std.proofs.Common.{◌≡◌, ℕ, List, Ok, Result, Ordering, sym, refl}
use Rattle.guides.specs.Meaning.{Meaning}
use Rattle.records.specs.declared.answer.Damage.{Damage}
use Rattle.records.specs.declared.outcome.Outcome.TheVariants.{Goes}
use Rattle.records.specs.declared.record.Phase.{Phase}
use Rattle.records.specs.declared.record.Phase.TheVariants.{Enter, Down, Check, Back, On, Seek, Lock, Valid, Take, Link, LinkBack, Attach, ReleaseNew, PutEnd, TakeVictim, Mark, UnlinkBack, Unlink, Detach, ReleaseVictim, StrikeEnd, First, FirstNext}
use Rattle.records.specs.declared.record.Place.{Place}
use Rattle.records.specs.declared.record.Station.{Station}
use Rattle.records.specs.declared.record.Task.{Task}
use Rattle.records.specs.Records.{Ruled, into}
use Rattle.rules.specs.Finding.{enter, down, check, seek}
use Rattle.rules.specs.Reading.{first, first_next}
use Rattle.rules.specs.Holding.{lock, valid}
use Rattle.rules.specs.Putting.{take, link, link_back, release_new, put_end}
use Rattle.rules.specs.Striking.{take_victim, mark, unlink_back, unlink, release_victim, strike_end}
use Rattle.rules.specs.Stepping.{Choice, Turn, rule_of, MayChoose, writes, back, on, attach, detach}
use Rattle.promises.proofs.Sights.{Sight, sight}
use Rattle.promises.proofs.Finds.{same_ok, read, wrote, guided}
use Rattle.promises.proofs.Readers.{downs, checks, backs, ons, seeks, firsts, firsts_next}
use Rattle.promises.proofs.Writers.{Wrote, locks, valids, takes, links_way, links_back_way, releases_new_way, put_ends_way, victims, marks_way, unlinks_back_way, unlinks_way, releases_victim_way, strike_ends_way, attaches_way, detaches_way}
use Rattle.promises.proofs.Views.{Way}

module _ {K : Type 0} (rank : K → K → Ordering) (me : ℕ) (ps : List (Place K)) (ss : List (Station K)) (m : Meaning) (t : Task K) (turn : Turn K) where
  abbrev seen_after : Sight K
  seen_after = sight turn.places ss turn.meaning

  abbrev It : Type 0
  It = Way rank (sight ps ss m) me t turn.outcome seen_after

  wrote_it : (told : Result (Ruled K) Damage) → writes ps m told ≡ Ok turn → Wrote rank me ps ss m t turn.outcome seen_after told
  wrote_it told e = let w = wrote ps ss m told turn e in record { ruled = w.0; tells = w.1; outcome = w.2; places = w.3 }

  pub goes_a_way : (phase : Phase) → t.phase ≡ phase → (c : Choice) → MayChoose rank me ps m t phase c → rule_of rank me ps m t phase c ≡ Ok turn → It
  goes_a_way Enter is c may e =
      let r = read ps ss m (Ok (enter c.start t)) turn e in
      Way.enters is c.start may (sym (same_ok _ _ r.0)) r.1
  goes_a_way Down is c may e =
      let r = read ps ss m (down rank ps t c.beside) turn e in downs rank me ps ss m t turn.outcome seen_after r.1 is c.beside may r.0
  goes_a_way Check is c may e = let r = read ps ss m (check ps t) turn e in checks rank me ps ss m t turn.outcome seen_after r.1 is r.0
  goes_a_way Back is c may e =
      let r = read ps ss m (back rank me ps m t t.work) turn e in backs rank me ps ss m t turn.outcome seen_after r.1 is t.work refl r.0
  goes_a_way On is c may e =
      let r = read ps ss m (on rank me ps m t t.work) turn e in ons rank me ps ss m t turn.outcome seen_after r.1 is t.work refl r.0
  goes_a_way Seek is c may e = let r = read ps ss m (seek rank ps t) turn e in seeks rank me ps ss m t turn.outcome seen_after r.1 is r.0
  goes_a_way Lock is c may e = locks rank me ps ss m t turn.outcome seen_after is (wrote_it (lock ps t me) e)
  goes_a_way Valid is c may e = valids rank me ps ss m t turn.outcome seen_after is (wrote_it (valid ps t rank) e)
  goes_a_way Take is c may e = takes rank me ps ss m t turn.outcome seen_after is c.free may (wrote_it (take ps t me c.free) e)
  goes_a_way Link is c may e = links_way rank me ps ss m t turn.outcome seen_after is (wrote_it (link ps t) e)
  goes_a_way LinkBack is c may e = links_back_way rank me ps ss m t turn.outcome seen_after is (wrote_it (link_back ps t) e)
  goes_a_way Attach is c may e =
      let g = guided ps ss m (Goes (into ReleaseNew t)) (attach ps t m) turn e in
      attaches_way rank me ps ss m t turn.outcome seen_after is g.0 g.1 g.2 g.3
  goes_a_way ReleaseNew is c may e = releases_new_way rank me ps ss m t turn.outcome seen_after is (wrote_it (release_new ps t) e)
  goes_a_way PutEnd is c may e = put_ends_way rank me ps ss m t turn.outcome seen_after is (wrote_it (put_end ps t) e)
  goes_a_way TakeVictim is c may e = victims rank me ps ss m t turn.outcome seen_after is (wrote_it (take_victim ps t me) e)
  goes_a_way Mark is c may e = marks_way rank me ps ss m t turn.outcome seen_after is (wrote_it (mark ps t) e)
  goes_a_way UnlinkBack is c may e = unlinks_back_way rank me ps ss m t turn.outcome seen_after is (wrote_it (unlink_back ps t) e)
  goes_a_way Unlink is c may e = unlinks_way rank me ps ss m t turn.outcome seen_after is (wrote_it (unlink ps t) e)
  goes_a_way Detach is c may e =
      let g = guided ps ss m (Goes (into ReleaseVictim t)) (detach t m) turn e in
      detaches_way rank me ps ss m t turn.outcome seen_after is g.0 g.1 g.2 g.3
  goes_a_way ReleaseVictim is c may e = releases_victim_way rank me ps ss m t turn.outcome seen_after is (wrote_it (release_victim ps t) e)
  goes_a_way StrikeEnd is c may e = strike_ends_way rank me ps ss m t turn.outcome seen_after is (wrote_it (strike_end ps t) e)
  goes_a_way First is c may e = let r = read ps ss m (first ps t) turn e in firsts rank me ps ss m t turn.outcome seen_after r.1 is r.0
  goes_a_way FirstNext is c may e = let r = read ps ss m (first_next ps t) turn e in firsts_next rank me ps ss m t turn.outcome seen_after r.1 is r.0
