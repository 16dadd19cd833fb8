-- The step list: which rule applies, and what it makes of the places and the guide. Assumes nothing.
use Rattle.std.specs.Prelude.{◌≡◌, ℕ, Bool, true, false, List, None, Ok, Err, Option, Result}
use Rattle.std.specs.declared.cmp.Ordering.{Ordering}
use Rattle.guides.specs.declared.answer.Beside.{Beside}
use Rattle.guides.specs.declared.answer.Beside.TheVariants.{End}
use Rattle.guides.specs.Meaning.{Meaning, low, has}
use Rattle.guides.specs.Rules.{attaching, detaching}
use Rattle.records.specs.declared.answer.Damage.{Damage}
use Rattle.records.specs.declared.answer.Damage.TheVariants.{Guide}
use Rattle.records.specs.declared.outcome.Outcome.{Outcome}
use Rattle.records.specs.declared.outcome.Outcome.TheVariants.{Goes}
use Rattle.records.specs.declared.record.Phase.{Phase}
use Rattle.records.specs.declared.record.Phase.TheVariants.{Enter, Down, Check, Back, On, Seek, Lock, Valid, Take, Link, LinkBack, Attach, ReleaseNew, PutEnd, TakeVictim, Mark, UnlinkBack, Unlink, Detach, ReleaseVictim, StrikeEnd, First, FirstNext}
use Rattle.records.specs.declared.record.Place.{Place}
use Rattle.records.specs.declared.record.Task.{Task}
use Rattle.records.specs.declared.record.Work.{Work}
use Rattle.records.specs.declared.record.Work.TheVariants.{Put, Strike, Look, First as FirstWork, After}
use Rattle.records.specs.Records.{Ruled, needing, into, start_over}
use Rattle.rules.specs.Finding.{enter, down, MayStand, check, back_look, back_after, back_change, seek}
use Rattle.rules.specs.Reading.{on_look, on_after, first, first_next}
use Rattle.rules.specs.Holding.{lock, valid}
use Rattle.rules.specs.Putting.{MayTake, take, link, link_back, release_new, put_end}
use Rattle.rules.specs.Striking.{take_victim, mark, unlink_back, unlink, release_victim, strike_end}

-- What a step leaves open: the guide's answer to start and to beside, and the free place that is taken.
pub record Choice : Type 0 where
  pub start : ℕ
  pub beside : Beside
  pub free : Option ℕ

-- What is chosen where a step leaves nothing open.
abbrev pub none_open : Choice
none_open = record { start = low; beside = End; free = None }

-- What the rule of a step makes of the places and the guide, and how its work goes on.
pub record Turn (K : Type 0) : Type 0 where
  pub outcome : Outcome K
  pub places : List (Place K)
  pub meaning : Meaning

-- A guide's refusal is damage to the step that meets it.
abbrev pub as_damage : {A G : Type 0} → (G → Damage) → Result A G → Result A Damage
as_damage wrap (Ok a) = Ok a
as_damage wrap (Err e) = Err (wrap e)

module _ {K : Type 0} where
  -- Attach.
  abbrev pub attach : List (Place K) → Task K → Meaning → Result Meaning Damage
  attach ps t m = needing t.key ps t.other (λ new. as_damage Guide (attaching t.at t.other new.next m))

  -- Detach.
  abbrev pub detach : Task K → Meaning → Result Meaning Damage
  detach t m = as_damage Guide (detaching t.other m)

  module _ (ps : List (Place K)) (m : Meaning) where
    -- A rule that only reads, one that writes places, and one that changes the guide.
    abbrev pub reads : Result (Outcome K) Damage → Result (Turn K) Damage
    reads (Ok outcome) = Ok (record { outcome = outcome; places = ps; meaning = m })
    reads (Err damage) = Err damage

    abbrev pub writes : Result (Ruled K) Damage → Result (Turn K) Damage
    writes (Ok ruled) = Ok (record { outcome = ruled.outcome; places = ruled.places; meaning = m })
    writes (Err damage) = Err damage

    abbrev pub guides : Outcome K → Result Meaning Damage → Result (Turn K) Damage
    guides outcome (Ok after) = Ok (record { outcome = outcome; places = ps; meaning = after })
    guides outcome (Err damage) = Err damage

  module _ (rank : K → K → Ordering) (me : ℕ) (ps : List (Place K)) (m : Meaning) (t : Task K) where
    -- BACK, by work.
    abbrev pub back : Work → Result (Outcome K) Damage
    back Put = back_change rank ps t
    back Strike = back_change rank ps t
    back Look = back_look rank ps t
    back FirstWork = Ok (start_over t)
    back After = back_after rank ps t

    -- ON, by work.
    abbrev pub on : Work → Result (Outcome K) Damage
    on Put = Ok (start_over t)
    on Strike = Ok (start_over t)
    on Look = on_look rank ps t
    on FirstWork = Ok (start_over t)
    on After = on_after rank ps t

    -- Which rule applies: by phase, and where it matters by work.
    abbrev pub rule_of : Phase → Choice → Result (Turn K) Damage
    rule_of Enter c = reads ps m (Ok (enter c.start t))
    rule_of Down c = reads ps m (down rank ps t c.beside)
    rule_of Check c = reads ps m (check ps t)
    rule_of Back c = reads ps m (back t.work)
    rule_of On c = reads ps m (on t.work)
    rule_of Seek c = reads ps m (seek rank ps t)
    rule_of Lock c = writes ps m (lock ps t me)
    rule_of Valid c = writes ps m (valid ps t rank)
    rule_of Take c = writes ps m (take ps t me c.free)
    rule_of Link c = writes ps m (link ps t)
    rule_of LinkBack c = writes ps m (link_back ps t)
    rule_of Attach c = guides ps m (Goes (into ReleaseNew t)) (attach ps t m)
    rule_of ReleaseNew c = writes ps m (release_new ps t)
    rule_of PutEnd c = writes ps m (put_end ps t)
    rule_of TakeVictim c = writes ps m (take_victim ps t me)
    rule_of Mark c = writes ps m (mark ps t)
    rule_of UnlinkBack c = writes ps m (unlink_back ps t)
    rule_of Unlink c = writes ps m (unlink ps t)
    rule_of Detach c = guides ps m (Goes (into ReleaseVictim t)) (detach t m)
    rule_of ReleaseVictim c = writes ps m (release_victim ps t)
    rule_of StrikeEnd c = writes ps m (strike_end ps t)
    rule_of First c = reads ps m (first ps t)
    rule_of FirstNext c = reads ps m (first_next ps t)

    -- The choices that the guide and the places allow: start stands in the guide's sequence, beside keeps its rule,
    -- and the place taken is free, or none is.
    abbrev pub MayChoose : Phase → Choice → Type 0
    MayChoose Enter c = has c.start m.sequence ≡ true
    MayChoose Down c = MayStand rank ps t m.sequence c.beside
    MayChoose Check c = Unit {0}
    MayChoose Back c = Unit {0}
    MayChoose On c = Unit {0}
    MayChoose Seek c = Unit {0}
    MayChoose Lock c = Unit {0}
    MayChoose Valid c = Unit {0}
    MayChoose Take c = MayTake ps t.key c.free
    MayChoose Link c = Unit {0}
    MayChoose LinkBack c = Unit {0}
    MayChoose Attach c = Unit {0}
    MayChoose ReleaseNew c = Unit {0}
    MayChoose PutEnd c = Unit {0}
    MayChoose TakeVictim c = Unit {0}
    MayChoose Mark c = Unit {0}
    MayChoose UnlinkBack c = Unit {0}
    MayChoose Unlink c = Unit {0}
    MayChoose Detach c = Unit {0}
    MayChoose ReleaseVictim c = Unit {0}
    MayChoose StrikeEnd c = Unit {0}
    MayChoose First c = Unit {0}
    MayChoose FirstNext c = Unit {0}

  -- A change of the guide that answered r and turned the guide g into h did what is told; it goes on with `outcome`.
  abbrev pub Guides : {G : Type 0} → (G → Meaning) → Outcome K → Result Meaning Damage → G → Result (Outcome K) Damage → G → Type 0
  Guides meaning outcome (Ok m) g r h = (r ≡ Ok outcome) × (meaning h ≡ m)
  Guides meaning outcome (Err damage) g r h = (r ≡ Err damage) × (h ≡ g)

  -- A rule that answered r, turned the places `before` into `after` and the guide g into h, did what is told.
  -- Where it failed, nothing has changed.
  abbrev pub Turns : {G : Type 0} → (G → Meaning) → Result (Turn K) Damage → List (Place K) → G → Result (Outcome K) Damage → List (Place K) → G → Type 0
  Turns meaning (Ok turn) before g r after h = (r ≡ Ok turn.outcome) × (after ≡ turn.places) × (meaning h ≡ turn.meaning)
  Turns meaning (Err damage) before g r after h = (r ≡ Err damage) × (after ≡ before) × (h ≡ g)

-- Only ATTACH and DETACH change the guide.
abbrev pub changes_guide : Phase → Bool
changes_guide Enter = false
changes_guide Down = false
changes_guide Check = false
changes_guide Back = false
changes_guide On = false
changes_guide Seek = false
changes_guide Lock = false
changes_guide Valid = false
changes_guide Take = false
changes_guide Link = false
changes_guide LinkBack = false
changes_guide Attach = true
changes_guide ReleaseNew = false
changes_guide PutEnd = false
changes_guide TakeVictim = false
changes_guide Mark = false
changes_guide UnlinkBack = false
changes_guide Unlink = false
changes_guide Detach = true
changes_guide ReleaseVictim = false
changes_guide StrikeEnd = false
changes_guide First = false
changes_guide FirstNext = false

-- The rule of a step answered r, turned the places ps into ps' and the guide g into g': some allowed choices give just that.
pub record FollowsRule {K G : Type 0} (meaning : G → Meaning) (rank : K → K → Ordering) (me : ℕ) (t : Task K)
    (ps : List (Place K)) (g : G) (r : Result (Outcome K) Damage) (ps' : List (Place K)) (g' : G) : Type 0 where
  pub choice : Choice
  pub may : MayChoose rank me ps (meaning g) t t.phase choice
  pub does : Turns meaning (rule_of rank me ps (meaning g) t t.phase choice) ps g r ps' g'
  pub keeps_guide : changes_guide t.phase ≡ false → g' ≡ g
