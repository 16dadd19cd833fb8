-- What a guide has to show of a call that it accepts or refuses, for any guide. Assumes nothing.
use Rattle.std.proofs.Common.{◌≡◌, ℕ, ◌<◌, ◌≤◌, Bool, true, false, cond, leb, Ok, Err, refl}
use Rattle.std.proofs.lemmas.Bool.{true≢false, false≢true, le-leb, lt-leb, or_from, or_left, or_right, not_from_true, not_from_false}
use Rattle.guides.specs.declared.answer.GuideRefusal.{GuideRefusal}
use Rattle.guides.specs.declared.answer.GuideRefusal.TheVariants.{BadSpot, NotThere}
use Rattle.guides.specs.Meaning.{Meaning, high, has, neighbours}
use Rattle.guides.specs.Rules.{attaching, detaching, Does}
use Rattle.guides.proofs.Sequences.{attached, detached}

module _ {G : Type 0} (meaning : G → Meaning) where
  -- The test that decides on a refusal.
  accepts : (b : Bool) (e : GuideRefusal) (m : Meaning) (before after : G) → b ≡ false → meaning after ≡ m
      → Does meaning (cond b (Err e) (Ok m)) before (Ok tt) after
  accepts true e m before after h k = elim (true≢false h) [ ]
  accepts false e m before after h k = (refl, k)

  refuses : (b : Bool) (e : GuideRefusal) (m : Meaning) (g : G) → b ≡ true → Does meaning (cond b (Err e) (Ok m)) g (Err e) g
  refuses true e m g h = (refl, refl)
  refuses false e m g h = elim (false≢true h) [ ]

  pub attach_accepts : (lower place upper : ℕ) (before after : G) → has place (meaning before).sequence ≡ false
      → place < (meaning before).places → neighbours lower upper (meaning before).sequence ≡ true
      → meaning after ≡ attached lower place (meaning before)
      → Does meaning (attaching lower place upper (meaning before)) before (Ok tt) after
  attach_accepts lower place upper before after fresh inside beside is =
      accepts _ _ _ before after (or_from _ _ fresh (or_from _ _ (lt-leb _ _ inside) (not_from_true _ beside))) is

  pub attach_refuses_standing : (lower place upper : ℕ) (g : G) → has place (meaning g).sequence ≡ true
      → Does meaning (attaching lower place upper (meaning g)) g (Err BadSpot) g
  attach_refuses_standing lower place upper g stands = refuses _ _ _ g (or_left _ _ stands)

  pub attach_refuses_outside : (lower place upper : ℕ) (g : G) → (meaning g).places ≤ place
      → Does meaning (attaching lower place upper (meaning g)) g (Err BadSpot) g
  attach_refuses_outside lower place upper g outside = refuses _ _ _ g (or_right _ _ (or_left _ _ (le-leb _ _ outside)))

  pub attach_refuses_apart : (lower place upper : ℕ) (g : G) → neighbours lower upper (meaning g).sequence ≡ false
      → Does meaning (attaching lower place upper (meaning g)) g (Err BadSpot) g
  attach_refuses_apart lower place upper g apart =
      let told = or_right (leb (meaning g).places place) _ (not_from_false _ apart) in
      refuses _ BadSpot (attached lower place (meaning g)) g (or_right (has place (meaning g).sequence) _ told)

  pub detach_accepts : (place : ℕ) (before after : G) → high < place → has place (meaning before).sequence ≡ true
      → meaning after ≡ detached place (meaning before)
      → Does meaning (detaching place (meaning before)) before (Ok tt) after
  detach_accepts place before after inner stands is =
      accepts _ _ _ before after (or_from _ _ (lt-leb _ _ inner) (not_from_true _ stands)) is

  pub detach_refuses_end : (place : ℕ) (g : G) → place ≤ high → Does meaning (detaching place (meaning g)) g (Err NotThere) g
  detach_refuses_end place g end = refuses _ _ _ g (or_left _ _ (le-leb _ _ end))

  pub detach_refuses_absent : (place : ℕ) (g : G) → has place (meaning g).sequence ≡ false
      → Does meaning (detaching place (meaning g)) g (Err NotThere) g
  detach_refuses_absent place g absent = refuses _ _ _ g (or_right _ _ (not_from_false _ absent))
