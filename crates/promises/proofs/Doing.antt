-- How the phase of a work tells whether it has changed the keys yet, over every way that a rule can go. Assumes nothing.
use Rattle.std.proofs.Common.{◌≡◌, ℕ, Bool, true, false, Ordering, sym, refl, ap, ◌∙◌, arith}
use Rattle.records.specs.declared.answer.Answer.{Answer}
use Rattle.records.specs.declared.answer.Answer.TheVariants.{Yes}
use Rattle.records.specs.declared.outcome.Outcome.{Outcome}
use Rattle.records.specs.declared.outcome.Outcome.TheVariants.{Goes, Waits, Ends, Retires}
use Rattle.records.specs.declared.record.Phase.{Phase}
use Rattle.records.specs.declared.record.Phase.TheVariants.{Enter, Down, Check, Back, On, Seek, Lock, Valid, Take, Link, LinkBack, Attach, ReleaseNew, PutEnd, TakeVictim, Mark, UnlinkBack, Unlink, Detach, ReleaseVictim, StrikeEnd, First, FirstNext}
use Rattle.records.specs.declared.record.Status.TheVariants.{Chained}
use Rattle.records.specs.declared.record.Task.{Task}
use Rattle.records.specs.declared.record.Work.{Work}
use Rattle.records.specs.declared.record.Work.TheVariants.{Put, Strike, Look, First as FirstWork, After}
use Rattle.records.specs.Records.{into, first_phase}
use Rattle.promises.specs.Promised.{is_change}
use Rattle.promises.proofs.Small.{true_and_false, link_not_mark}
use Rattle.promises.proofs.Sights.{Sight, next_put, mark_put, status_put}
use Rattle.promises.proofs.Views.{Way, Strays}

-- How often a work in this phase has changed the keys.
abbrev pub done_of : Phase → ℕ
done_of Enter = 0
done_of Down = 0
done_of Check = 0
done_of Back = 0
done_of On = 0
done_of Seek = 0
done_of Lock = 0
done_of Valid = 0
done_of Take = 0
done_of Link = 0
done_of LinkBack = 1
done_of Attach = 1
done_of ReleaseNew = 1
done_of PutEnd = 1
done_of TakeVictim = 0
done_of Mark = 0
done_of UnlinkBack = 1
done_of Unlink = 1
done_of Detach = 1
done_of ReleaseVictim = 1
done_of StrikeEnd = 1
done_of First = 0
done_of FirstNext = 0

-- The steps that change the keys.
abbrev pub is_linking : Phase → Bool
is_linking Enter = false
is_linking Down = false
is_linking Check = false
is_linking Back = false
is_linking On = false
is_linking Seek = false
is_linking Lock = false
is_linking Valid = false
is_linking Take = false
is_linking Link = true
is_linking LinkBack = false
is_linking Attach = false
is_linking ReleaseNew = false
is_linking PutEnd = false
is_linking TakeVictim = false
is_linking Mark = true
is_linking UnlinkBack = false
is_linking Unlink = false
is_linking Detach = false
is_linking ReleaseVictim = false
is_linking StrikeEnd = false
is_linking First = false
is_linking FirstNext = false

abbrev done_after : Phase → ℕ
done_after Enter = 0
done_after Down = 0
done_after Check = 0
done_after Back = 0
done_after On = 0
done_after Seek = 0
done_after Lock = 0
done_after Valid = 0
done_after Take = 0
done_after Link = 1
done_after LinkBack = 1
done_after Attach = 1
done_after ReleaseNew = 1
done_after PutEnd = 1
done_after TakeVictim = 0
done_after Mark = 1
done_after UnlinkBack = 1
done_after Unlink = 1
done_after Detach = 1
done_after ReleaseVictim = 1
done_after StrikeEnd = 1
done_after First = 0
done_after FirstNext = 0

after_linking : (p : Phase) → is_linking p ≡ false → done_after p ≡ done_of p
after_linking Enter h = refl
after_linking Down h = refl
after_linking Check h = refl
after_linking Back h = refl
after_linking On h = refl
after_linking Seek h = refl
after_linking Lock h = refl
after_linking Valid h = refl
after_linking Take h = refl
after_linking Link h = cc
after_linking LinkBack h = refl
after_linking Attach h = refl
after_linking ReleaseNew h = refl
after_linking PutEnd h = refl
after_linking TakeVictim h = refl
after_linking Mark h = cc
after_linking UnlinkBack h = refl
after_linking Unlink h = refl
after_linking Detach h = refl
after_linking ReleaseVictim h = refl
after_linking StrikeEnd h = refl
after_linking First h = refl
after_linking FirstNext h = refl

pub begins_undone : (w : Work) → done_of (first_phase w) ≡ 0
begins_undone Put = refl
begins_undone Strike = refl
begins_undone Look = refl
begins_undone FirstWork = refl
begins_undone After = refl

stray_undone : {w : Work} {p : Phase} → Strays w p → done_of (first_phase w) ≡ done_after p
stray_undone Strays.first_back = refl
stray_undone Strays.put_on = refl
stray_undone Strays.strike_on = refl
stray_undone Strays.first_on = refl
stray_undone Strays.look_valid = refl
stray_undone Strays.first_valid = refl
stray_undone Strays.after_valid = refl

stray_still : {w : Work} {p : Phase} → Strays w p → is_linking p ≡ false
stray_still Strays.first_back = refl
stray_still Strays.put_on = refl
stray_still Strays.strike_on = refl
stray_still Strays.first_on = refl
stray_still Strays.look_valid = refl
stray_still Strays.first_valid = refl
stray_still Strays.after_valid = refl

module _ {K : Type 0} {o : Outcome K} where
  pub goes_same : {u v : Task K} → o ≡ Goes v → o ≡ Goes u → u ≡ v
  goes_same e h = cc

  pub not_goes : {P : Type 0} {u : Task K} (a : Answer K) → o ≡ Ends a → o ≡ Goes u → P
  not_goes a e h = let z : ◌≡◌ {A = ℕ} 0 1 = cc in absurd (omega arith)

  pub waits_not_goes : {P : Type 0} {u : Task K} → o ≡ Waits → o ≡ Goes u → P
  waits_not_goes e h = let z : ◌≡◌ {A = ℕ} 0 1 = cc in absurd (omega arith)

  pub retires_not_goes : {P : Type 0} {u : Task K} {p : ℕ} → o ≡ Retires p → o ≡ Goes u → P
  retires_not_goes e h = let z : ◌≡◌ {A = ℕ} 0 1 = cc in absurd (omega arith)

  goes_not_ends : {P : Type 0} {u : Task K} (a : Answer K) → o ≡ Goes u → o ≡ Ends a → P
  goes_not_ends a e h = not_goes a h e

  waits_not_ends : {P : Type 0} (a : Answer K) → o ≡ Waits → o ≡ Ends a → P
  waits_not_ends a e h = let z : ◌≡◌ {A = ℕ} 0 1 = cc in absurd (omega arith)

  retires_not_ends : {P : Type 0} {p : ℕ} (a : Answer K) → o ≡ Retires p → o ≡ Ends a → P
  retires_not_ends a e h = let z : ◌≡◌ {A = ℕ} 0 1 = cc in absurd (omega arith)

  same_answer : {a b : Answer K} → o ≡ Ends b → o ≡ Ends a → a ≡ b
  same_answer e h = cc

module _ {K : Type 0} where
  not_yes : {P : Type 0} {a b : Answer K} → a ≡ b → a ≡ Yes → (b ≡ Yes → ⊥) → P
  not_yes e is no_yes = absurd (no_yes (sym e ∙ is))

  -- A work that ends: it is a put at its end, or it never changed the keys.
  pub data Ending (t : Task K) (a : Answer K) : Type 0 where
    put_done : t.phase ≡ PutEnd → a ≡ Yes → Ending t a
    unchanged : done_of t.phase ≡ 0 → (a ≡ Yes → is_change t.work ≡ false) → Ending t a

module _ {K : Type 0} {rank : K → K → Ordering} {s : Sight K} {me : ℕ} {t : Task K} {o : Outcome K} {s' : Sight K} where
  -- A work that goes on has changed the keys once more if it was about to link or to mark.
  goes_done : Way rank s me t o s' → (u : Task K) → o ≡ Goes u → done_of u.phase ≡ done_after t.phase
  goes_done (Way.strays x0 x1 x2) u g = ap (λ v. done_of v.phase) (goes_same x1 g) ∙ stray_undone x0
  goes_done (Way.enters x0 x1 x2 x3 x4) u g = ap (λ v. done_of v.phase) (goes_same x3 g) ∙ sym (ap done_after x0)
  goes_done (Way.down_here x0 x1 x2 x3) u g = ap (λ v. done_of v.phase) (goes_same x2 g) ∙ sym (ap done_after x0)
  goes_done (Way.down_lost x0 x1 x2 x3) u g = ap (λ v. done_of v.phase) (goes_same x2 g) ∙ sym (ap done_after x0)
  goes_done (Way.down_last x0 x1 x2 x3 x4 x5 x6) u g = ap (λ v. done_of v.phase) (goes_same x5 g) ∙ sym (ap done_after x0)
  goes_done (Way.down_on x0 x1 x2 x3 x4 x5 x6) u g = ap (λ v. done_of v.phase) (goes_same x5 g) ∙ ap done_of x0 ∙ sym (ap done_after x0)
  goes_done (Way.check_marked x0 x1 x2 x3) u g = ap (λ v. done_of v.phase) (goes_same x2 g) ∙ sym (ap done_after x0)
  goes_done (Way.check_unmarked x0 x1 x2 x3) u g = ap (λ v. done_of v.phase) (goes_same x2 g) ∙ sym (ap done_after x0)
  goes_done (Way.back_look_yes x0 x1 x2 x3 x4 x5) u g = not_goes _ x4 g
  goes_done (Way.back_look_marked x0 x1 x2 x3 x4 x5) u g = ap (λ v. done_of v.phase) (goes_same x4 g) ∙ ap done_of x0 ∙ sym (ap done_after x0)
  goes_done (Way.back_look_above x0 x1 x2 x3 x4) u g = ap (λ v. done_of v.phase) (goes_same x3 g) ∙ ap done_of x0 ∙ sym (ap done_after x0)
  goes_done (Way.back_look_on x0 x1 x2 x3 x4) u g = ap (λ v. done_of v.phase) (goes_same x3 g) ∙ sym (ap done_after x0)
  goes_done (Way.back_after_above x0 x1 x2 x3 x4) u g = ap (λ v. done_of v.phase) (goes_same x3 g) ∙ ap done_of x0 ∙ sym (ap done_after x0)
  goes_done (Way.back_after_on x0 x1 x2 x3 x4) u g = ap (λ v. done_of v.phase) (goes_same x3 g) ∙ sym (ap done_after x0)
  goes_done (Way.back_change_above x0 x1 x2 x3 x4) u g = ap (λ v. done_of v.phase) (goes_same x3 g) ∙ ap done_of x0 ∙ sym (ap done_after x0)
  goes_done (Way.back_change_seek x0 x1 x2 x3 x4) u g = ap (λ v. done_of v.phase) (goes_same x3 g) ∙ sym (ap done_after x0)
  goes_done (Way.on_look_next x0 x1 x2 x3 x4) u g = ap (λ v. done_of v.phase) (goes_same x3 g) ∙ ap done_of x0 ∙ sym (ap done_after x0)
  goes_done (Way.on_look_marked x0 x1 x2 x3 x4 x5) u g = not_goes _ x4 g
  goes_done (Way.on_look_yes x0 x1 x2 x3 x4 x5) u g = not_goes _ x4 g
  goes_done (Way.on_look_no x0 x1 x2 x3 x4) u g = not_goes _ x3 g
  goes_done (Way.on_after_next x0 x1 x2 x3 x4) u g = ap (λ v. done_of v.phase) (goes_same x3 g) ∙ ap done_of x0 ∙ sym (ap done_after x0)
  goes_done (Way.on_after_missing x0 x1 x2 x3 x4) u g = not_goes _ x3 g
  goes_done (Way.on_after_marked x0 x1 x2 x3 x4 x5) u g = ap (λ v. done_of v.phase) (goes_same x4 g) ∙ sym (ap done_after x0)
  goes_done (Way.on_after_found x0 x1 x2 x3 x4 x5 x6 x7) u g = not_goes _ x6 g
  goes_done (Way.seek_next x0 x1 x2 x3 x4) u g = ap (λ v. done_of v.phase) (goes_same x3 g) ∙ ap done_of x0 ∙ sym (ap done_after x0)
  goes_done (Way.seek_lock x0 x1 x2 x3 x4) u g = ap (λ v. done_of v.phase) (goes_same x3 g) ∙ sym (ap done_after x0)
  goes_done (Way.lock_waits x0 x1 x2 x3) u g = waits_not_goes x2 g
  goes_done (Way.lock_taken x0 x1 x2 x3 x4) u g = ap (λ v. done_of v.phase) (goes_same x3 g) ∙ sym (ap done_after x0)
  goes_done (Way.valid_again x0 x1 x2 x3 x4) u g = ap (λ v. done_of v.phase) (goes_same x3 g) ∙ sym (ap done_after x0)
  goes_done (Way.valid_put_no x0 x1 x2 x3 x4 x5) u g = not_goes _ x4 g
  goes_done (Way.valid_take x0 x1 x2 x3 x4 x5) u g = ap (λ v. done_of v.phase) (goes_same x4 g) ∙ sym (ap done_after x0)
  goes_done (Way.valid_strike_no x0 x1 x2 x3 x4 x5) u g = not_goes _ x4 g
  goes_done (Way.valid_victim x0 x1 x2 x3 x4 x5) u g = ap (λ v. done_of v.phase) (goes_same x4 g) ∙ sym (ap done_after x0)
  goes_done (Way.take_none x0 x1 x2 x3) u g = not_goes _ x2 g
  goes_done (Way.take_some x0 x1 x2 x3 x4 x5 x6) u g = ap (λ v. done_of v.phase) (goes_same x5 g) ∙ sym (ap done_after x0)
  goes_done (Way.links x0 x1 x2) u g = ap (λ v. done_of v.phase) (goes_same x1 g) ∙ sym (ap done_after x0)
  goes_done (Way.links_back x0 x1 x2 x3) u g = ap (λ v. done_of v.phase) (goes_same x2 g) ∙ sym (ap done_after x0)
  goes_done (Way.attaches x0 x1 x2 x3 x4 x5) u g = ap (λ v. done_of v.phase) (goes_same x4 g) ∙ sym (ap done_after x0)
  goes_done (Way.releases_new x0 x1 x2) u g = ap (λ v. done_of v.phase) (goes_same x1 g) ∙ sym (ap done_after x0)
  goes_done (Way.put_ends x0 x1 x2) u g = not_goes _ x1 g
  goes_done (Way.victim_waits x0 x1 x2 x3) u g = waits_not_goes x2 g
  goes_done (Way.victim_taken x0 x1 x2 x3 x4) u g = ap (λ v. done_of v.phase) (goes_same x3 g) ∙ sym (ap done_after x0)
  goes_done (Way.marks x0 x1 x2) u g = ap (λ v. done_of v.phase) (goes_same x1 g) ∙ sym (ap done_after x0)
  goes_done (Way.unlinks_back x0 x1 x2 x3) u g = ap (λ v. done_of v.phase) (goes_same x2 g) ∙ sym (ap done_after x0)
  goes_done (Way.unlinks x0 x1 x2) u g = ap (λ v. done_of v.phase) (goes_same x1 g) ∙ sym (ap done_after x0)
  goes_done (Way.detaches x0 x1 x2 x3 x4) u g = ap (λ v. done_of v.phase) (goes_same x3 g) ∙ sym (ap done_after x0)
  goes_done (Way.releases_victim x0 x1 x2) u g = ap (λ v. done_of v.phase) (goes_same x1 g) ∙ sym (ap done_after x0)
  goes_done (Way.strike_ends x0 x1 x2 x3) u g = retires_not_goes x2 g
  goes_done (Way.first_missing x0 x1 x2 x3) u g = not_goes _ x2 g
  goes_done (Way.first_on_next x0 x1 x2 x3) u g = ap (λ v. done_of v.phase) (goes_same x2 g) ∙ sym (ap done_after x0)
  goes_done (Way.first_marked x0 x1 x2 x3) u g = ap (λ v. done_of v.phase) (goes_same x2 g) ∙ sym (ap done_after x0)
  goes_done (Way.first_found x0 x1 x2 x3 x4 x5) u g = not_goes _ x4 g

  -- Where the keys stay, so does the count.
  pub goes_alike : Way rank s me t o s' → is_linking t.phase ≡ false → (u : Task K) → o ≡ Goes u → done_of u.phase ≡ done_of t.phase
  goes_alike way still u g = goes_done way u g ∙ after_linking t.phase still

  -- LINK and MARK go just one way.
  pub at_link : Way rank s me t o s' → t.phase ≡ Link → (o ≡ Goes (into LinkBack t)) × (s' ≡ status_put t.other Chained (next_put t.at t.other s))
  at_link (Way.strays x0 x1 x2) ph = true_and_false (ap is_linking ph) (stray_still x0)
  at_link (Way.enters x0 x1 x2 x3 x4) ph = true_and_false (ap is_linking ph) (ap is_linking x0)
  at_link (Way.down_here x0 x1 x2 x3) ph = true_and_false (ap is_linking ph) (ap is_linking x0)
  at_link (Way.down_lost x0 x1 x2 x3) ph = true_and_false (ap is_linking ph) (ap is_linking x0)
  at_link (Way.down_last x0 x1 x2 x3 x4 x5 x6) ph = true_and_false (ap is_linking ph) (ap is_linking x0)
  at_link (Way.down_on x0 x1 x2 x3 x4 x5 x6) ph = true_and_false (ap is_linking ph) (ap is_linking x0)
  at_link (Way.check_marked x0 x1 x2 x3) ph = true_and_false (ap is_linking ph) (ap is_linking x0)
  at_link (Way.check_unmarked x0 x1 x2 x3) ph = true_and_false (ap is_linking ph) (ap is_linking x0)
  at_link (Way.back_look_yes x0 x1 x2 x3 x4 x5) ph = true_and_false (ap is_linking ph) (ap is_linking x0)
  at_link (Way.back_look_marked x0 x1 x2 x3 x4 x5) ph = true_and_false (ap is_linking ph) (ap is_linking x0)
  at_link (Way.back_look_above x0 x1 x2 x3 x4) ph = true_and_false (ap is_linking ph) (ap is_linking x0)
  at_link (Way.back_look_on x0 x1 x2 x3 x4) ph = true_and_false (ap is_linking ph) (ap is_linking x0)
  at_link (Way.back_after_above x0 x1 x2 x3 x4) ph = true_and_false (ap is_linking ph) (ap is_linking x0)
  at_link (Way.back_after_on x0 x1 x2 x3 x4) ph = true_and_false (ap is_linking ph) (ap is_linking x0)
  at_link (Way.back_change_above x0 x1 x2 x3 x4) ph = true_and_false (ap is_linking ph) (ap is_linking x0)
  at_link (Way.back_change_seek x0 x1 x2 x3 x4) ph = true_and_false (ap is_linking ph) (ap is_linking x0)
  at_link (Way.on_look_next x0 x1 x2 x3 x4) ph = true_and_false (ap is_linking ph) (ap is_linking x0)
  at_link (Way.on_look_marked x0 x1 x2 x3 x4 x5) ph = true_and_false (ap is_linking ph) (ap is_linking x0)
  at_link (Way.on_look_yes x0 x1 x2 x3 x4 x5) ph = true_and_false (ap is_linking ph) (ap is_linking x0)
  at_link (Way.on_look_no x0 x1 x2 x3 x4) ph = true_and_false (ap is_linking ph) (ap is_linking x0)
  at_link (Way.on_after_next x0 x1 x2 x3 x4) ph = true_and_false (ap is_linking ph) (ap is_linking x0)
  at_link (Way.on_after_missing x0 x1 x2 x3 x4) ph = true_and_false (ap is_linking ph) (ap is_linking x0)
  at_link (Way.on_after_marked x0 x1 x2 x3 x4 x5) ph = true_and_false (ap is_linking ph) (ap is_linking x0)
  at_link (Way.on_after_found x0 x1 x2 x3 x4 x5 x6 x7) ph = true_and_false (ap is_linking ph) (ap is_linking x0)
  at_link (Way.seek_next x0 x1 x2 x3 x4) ph = true_and_false (ap is_linking ph) (ap is_linking x0)
  at_link (Way.seek_lock x0 x1 x2 x3 x4) ph = true_and_false (ap is_linking ph) (ap is_linking x0)
  at_link (Way.lock_waits x0 x1 x2 x3) ph = true_and_false (ap is_linking ph) (ap is_linking x0)
  at_link (Way.lock_taken x0 x1 x2 x3 x4) ph = true_and_false (ap is_linking ph) (ap is_linking x0)
  at_link (Way.valid_again x0 x1 x2 x3 x4) ph = true_and_false (ap is_linking ph) (ap is_linking x0)
  at_link (Way.valid_put_no x0 x1 x2 x3 x4 x5) ph = true_and_false (ap is_linking ph) (ap is_linking x0)
  at_link (Way.valid_take x0 x1 x2 x3 x4 x5) ph = true_and_false (ap is_linking ph) (ap is_linking x0)
  at_link (Way.valid_strike_no x0 x1 x2 x3 x4 x5) ph = true_and_false (ap is_linking ph) (ap is_linking x0)
  at_link (Way.valid_victim x0 x1 x2 x3 x4 x5) ph = true_and_false (ap is_linking ph) (ap is_linking x0)
  at_link (Way.take_none x0 x1 x2 x3) ph = true_and_false (ap is_linking ph) (ap is_linking x0)
  at_link (Way.take_some x0 x1 x2 x3 x4 x5 x6) ph = true_and_false (ap is_linking ph) (ap is_linking x0)
  at_link (Way.links x0 x1 x2) ph = (x1, x2)
  at_link (Way.links_back x0 x1 x2 x3) ph = true_and_false (ap is_linking ph) (ap is_linking x0)
  at_link (Way.attaches x0 x1 x2 x3 x4 x5) ph = true_and_false (ap is_linking ph) (ap is_linking x0)
  at_link (Way.releases_new x0 x1 x2) ph = true_and_false (ap is_linking ph) (ap is_linking x0)
  at_link (Way.put_ends x0 x1 x2) ph = true_and_false (ap is_linking ph) (ap is_linking x0)
  at_link (Way.victim_waits x0 x1 x2 x3) ph = true_and_false (ap is_linking ph) (ap is_linking x0)
  at_link (Way.victim_taken x0 x1 x2 x3 x4) ph = true_and_false (ap is_linking ph) (ap is_linking x0)
  at_link (Way.marks x0 x1 x2) ph = link_not_mark ph x0
  at_link (Way.unlinks_back x0 x1 x2 x3) ph = true_and_false (ap is_linking ph) (ap is_linking x0)
  at_link (Way.unlinks x0 x1 x2) ph = true_and_false (ap is_linking ph) (ap is_linking x0)
  at_link (Way.detaches x0 x1 x2 x3 x4) ph = true_and_false (ap is_linking ph) (ap is_linking x0)
  at_link (Way.releases_victim x0 x1 x2) ph = true_and_false (ap is_linking ph) (ap is_linking x0)
  at_link (Way.strike_ends x0 x1 x2 x3) ph = true_and_false (ap is_linking ph) (ap is_linking x0)
  at_link (Way.first_missing x0 x1 x2 x3) ph = true_and_false (ap is_linking ph) (ap is_linking x0)
  at_link (Way.first_on_next x0 x1 x2 x3) ph = true_and_false (ap is_linking ph) (ap is_linking x0)
  at_link (Way.first_marked x0 x1 x2 x3) ph = true_and_false (ap is_linking ph) (ap is_linking x0)
  at_link (Way.first_found x0 x1 x2 x3 x4 x5) ph = true_and_false (ap is_linking ph) (ap is_linking x0)

  pub at_mark : Way rank s me t o s' → t.phase ≡ Mark → (o ≡ Goes (into UnlinkBack t)) × (s' ≡ mark_put t.other s)
  at_mark (Way.strays x0 x1 x2) ph = true_and_false (ap is_linking ph) (stray_still x0)
  at_mark (Way.enters x0 x1 x2 x3 x4) ph = true_and_false (ap is_linking ph) (ap is_linking x0)
  at_mark (Way.down_here x0 x1 x2 x3) ph = true_and_false (ap is_linking ph) (ap is_linking x0)
  at_mark (Way.down_lost x0 x1 x2 x3) ph = true_and_false (ap is_linking ph) (ap is_linking x0)
  at_mark (Way.down_last x0 x1 x2 x3 x4 x5 x6) ph = true_and_false (ap is_linking ph) (ap is_linking x0)
  at_mark (Way.down_on x0 x1 x2 x3 x4 x5 x6) ph = true_and_false (ap is_linking ph) (ap is_linking x0)
  at_mark (Way.check_marked x0 x1 x2 x3) ph = true_and_false (ap is_linking ph) (ap is_linking x0)
  at_mark (Way.check_unmarked x0 x1 x2 x3) ph = true_and_false (ap is_linking ph) (ap is_linking x0)
  at_mark (Way.back_look_yes x0 x1 x2 x3 x4 x5) ph = true_and_false (ap is_linking ph) (ap is_linking x0)
  at_mark (Way.back_look_marked x0 x1 x2 x3 x4 x5) ph = true_and_false (ap is_linking ph) (ap is_linking x0)
  at_mark (Way.back_look_above x0 x1 x2 x3 x4) ph = true_and_false (ap is_linking ph) (ap is_linking x0)
  at_mark (Way.back_look_on x0 x1 x2 x3 x4) ph = true_and_false (ap is_linking ph) (ap is_linking x0)
  at_mark (Way.back_after_above x0 x1 x2 x3 x4) ph = true_and_false (ap is_linking ph) (ap is_linking x0)
  at_mark (Way.back_after_on x0 x1 x2 x3 x4) ph = true_and_false (ap is_linking ph) (ap is_linking x0)
  at_mark (Way.back_change_above x0 x1 x2 x3 x4) ph = true_and_false (ap is_linking ph) (ap is_linking x0)
  at_mark (Way.back_change_seek x0 x1 x2 x3 x4) ph = true_and_false (ap is_linking ph) (ap is_linking x0)
  at_mark (Way.on_look_next x0 x1 x2 x3 x4) ph = true_and_false (ap is_linking ph) (ap is_linking x0)
  at_mark (Way.on_look_marked x0 x1 x2 x3 x4 x5) ph = true_and_false (ap is_linking ph) (ap is_linking x0)
  at_mark (Way.on_look_yes x0 x1 x2 x3 x4 x5) ph = true_and_false (ap is_linking ph) (ap is_linking x0)
  at_mark (Way.on_look_no x0 x1 x2 x3 x4) ph = true_and_false (ap is_linking ph) (ap is_linking x0)
  at_mark (Way.on_after_next x0 x1 x2 x3 x4) ph = true_and_false (ap is_linking ph) (ap is_linking x0)
  at_mark (Way.on_after_missing x0 x1 x2 x3 x4) ph = true_and_false (ap is_linking ph) (ap is_linking x0)
  at_mark (Way.on_after_marked x0 x1 x2 x3 x4 x5) ph = true_and_false (ap is_linking ph) (ap is_linking x0)
  at_mark (Way.on_after_found x0 x1 x2 x3 x4 x5 x6 x7) ph = true_and_false (ap is_linking ph) (ap is_linking x0)
  at_mark (Way.seek_next x0 x1 x2 x3 x4) ph = true_and_false (ap is_linking ph) (ap is_linking x0)
  at_mark (Way.seek_lock x0 x1 x2 x3 x4) ph = true_and_false (ap is_linking ph) (ap is_linking x0)
  at_mark (Way.lock_waits x0 x1 x2 x3) ph = true_and_false (ap is_linking ph) (ap is_linking x0)
  at_mark (Way.lock_taken x0 x1 x2 x3 x4) ph = true_and_false (ap is_linking ph) (ap is_linking x0)
  at_mark (Way.valid_again x0 x1 x2 x3 x4) ph = true_and_false (ap is_linking ph) (ap is_linking x0)
  at_mark (Way.valid_put_no x0 x1 x2 x3 x4 x5) ph = true_and_false (ap is_linking ph) (ap is_linking x0)
  at_mark (Way.valid_take x0 x1 x2 x3 x4 x5) ph = true_and_false (ap is_linking ph) (ap is_linking x0)
  at_mark (Way.valid_strike_no x0 x1 x2 x3 x4 x5) ph = true_and_false (ap is_linking ph) (ap is_linking x0)
  at_mark (Way.valid_victim x0 x1 x2 x3 x4 x5) ph = true_and_false (ap is_linking ph) (ap is_linking x0)
  at_mark (Way.take_none x0 x1 x2 x3) ph = true_and_false (ap is_linking ph) (ap is_linking x0)
  at_mark (Way.take_some x0 x1 x2 x3 x4 x5 x6) ph = true_and_false (ap is_linking ph) (ap is_linking x0)
  at_mark (Way.links x0 x1 x2) ph = link_not_mark x0 ph
  at_mark (Way.links_back x0 x1 x2 x3) ph = true_and_false (ap is_linking ph) (ap is_linking x0)
  at_mark (Way.attaches x0 x1 x2 x3 x4 x5) ph = true_and_false (ap is_linking ph) (ap is_linking x0)
  at_mark (Way.releases_new x0 x1 x2) ph = true_and_false (ap is_linking ph) (ap is_linking x0)
  at_mark (Way.put_ends x0 x1 x2) ph = true_and_false (ap is_linking ph) (ap is_linking x0)
  at_mark (Way.victim_waits x0 x1 x2 x3) ph = true_and_false (ap is_linking ph) (ap is_linking x0)
  at_mark (Way.victim_taken x0 x1 x2 x3 x4) ph = true_and_false (ap is_linking ph) (ap is_linking x0)
  at_mark (Way.marks x0 x1 x2) ph = (x1, x2)
  at_mark (Way.unlinks_back x0 x1 x2 x3) ph = true_and_false (ap is_linking ph) (ap is_linking x0)
  at_mark (Way.unlinks x0 x1 x2) ph = true_and_false (ap is_linking ph) (ap is_linking x0)
  at_mark (Way.detaches x0 x1 x2 x3 x4) ph = true_and_false (ap is_linking ph) (ap is_linking x0)
  at_mark (Way.releases_victim x0 x1 x2) ph = true_and_false (ap is_linking ph) (ap is_linking x0)
  at_mark (Way.strike_ends x0 x1 x2 x3) ph = true_and_false (ap is_linking ph) (ap is_linking x0)
  at_mark (Way.first_missing x0 x1 x2 x3) ph = true_and_false (ap is_linking ph) (ap is_linking x0)
  at_mark (Way.first_on_next x0 x1 x2 x3) ph = true_and_false (ap is_linking ph) (ap is_linking x0)
  at_mark (Way.first_marked x0 x1 x2 x3) ph = true_and_false (ap is_linking ph) (ap is_linking x0)
  at_mark (Way.first_found x0 x1 x2 x3 x4 x5) ph = true_and_false (ap is_linking ph) (ap is_linking x0)

  pub ends_so : Way rank s me t o s' → (a : Answer K) → o ≡ Ends a → (is_linking t.phase ≡ false) × Ending t a
  ends_so (Way.strays x0 x1 x2) a e = goes_not_ends a x1 e
  ends_so (Way.enters x0 x1 x2 x3 x4) a e = goes_not_ends a x3 e
  ends_so (Way.down_here x0 x1 x2 x3) a e = goes_not_ends a x2 e
  ends_so (Way.down_lost x0 x1 x2 x3) a e = goes_not_ends a x2 e
  ends_so (Way.down_last x0 x1 x2 x3 x4 x5 x6) a e = goes_not_ends a x5 e
  ends_so (Way.down_on x0 x1 x2 x3 x4 x5 x6) a e = goes_not_ends a x5 e
  ends_so (Way.check_marked x0 x1 x2 x3) a e = goes_not_ends a x2 e
  ends_so (Way.check_unmarked x0 x1 x2 x3) a e = goes_not_ends a x2 e
  ends_so (Way.back_look_yes x0 x1 x2 x3 x4 x5) a e = (ap is_linking x0, Ending.unchanged (ap done_of x0) (λ _. ap is_change x1))
  ends_so (Way.back_look_marked x0 x1 x2 x3 x4 x5) a e = goes_not_ends a x4 e
  ends_so (Way.back_look_above x0 x1 x2 x3 x4) a e = goes_not_ends a x3 e
  ends_so (Way.back_look_on x0 x1 x2 x3 x4) a e = goes_not_ends a x3 e
  ends_so (Way.back_after_above x0 x1 x2 x3 x4) a e = goes_not_ends a x3 e
  ends_so (Way.back_after_on x0 x1 x2 x3 x4) a e = goes_not_ends a x3 e
  ends_so (Way.back_change_above x0 x1 x2 x3 x4) a e = goes_not_ends a x3 e
  ends_so (Way.back_change_seek x0 x1 x2 x3 x4) a e = goes_not_ends a x3 e
  ends_so (Way.on_look_next x0 x1 x2 x3 x4) a e = goes_not_ends a x3 e
  ends_so (Way.on_look_marked x0 x1 x2 x3 x4 x5) a e = (ap is_linking x0, Ending.unchanged (ap done_of x0) (λ is. not_yes (same_answer x4 e) is (λ w. let z : ◌≡◌ {A = ℕ} 0 1 = cc w in omega arith)))
  ends_so (Way.on_look_yes x0 x1 x2 x3 x4 x5) a e = (ap is_linking x0, Ending.unchanged (ap done_of x0) (λ _. ap is_change x1))
  ends_so (Way.on_look_no x0 x1 x2 x3 x4) a e = (ap is_linking x0, Ending.unchanged (ap done_of x0) (λ is. not_yes (same_answer x3 e) is (λ w. let z : ◌≡◌ {A = ℕ} 0 1 = cc w in omega arith)))
  ends_so (Way.on_after_next x0 x1 x2 x3 x4) a e = goes_not_ends a x3 e
  ends_so (Way.on_after_missing x0 x1 x2 x3 x4) a e = (ap is_linking x0, Ending.unchanged (ap done_of x0) (λ is. not_yes (same_answer x3 e) is (λ w. let z : ◌≡◌ {A = ℕ} 0 1 = cc w in omega arith)))
  ends_so (Way.on_after_marked x0 x1 x2 x3 x4 x5) a e = goes_not_ends a x4 e
  ends_so (Way.on_after_found x0 x1 x2 x3 x4 x5 x6 x7) a e = (ap is_linking x0, Ending.unchanged (ap done_of x0) (λ is. not_yes (same_answer x6 e) is (λ w. let z : ◌≡◌ {A = ℕ} 0 1 = cc w in omega arith)))
  ends_so (Way.seek_next x0 x1 x2 x3 x4) a e = goes_not_ends a x3 e
  ends_so (Way.seek_lock x0 x1 x2 x3 x4) a e = goes_not_ends a x3 e
  ends_so (Way.lock_waits x0 x1 x2 x3) a e = waits_not_ends a x2 e
  ends_so (Way.lock_taken x0 x1 x2 x3 x4) a e = goes_not_ends a x3 e
  ends_so (Way.valid_again x0 x1 x2 x3 x4) a e = goes_not_ends a x3 e
  ends_so (Way.valid_put_no x0 x1 x2 x3 x4 x5) a e = (ap is_linking x0, Ending.unchanged (ap done_of x0) (λ is. not_yes (same_answer x4 e) is (λ w. let z : ◌≡◌ {A = ℕ} 0 1 = cc w in omega arith)))
  ends_so (Way.valid_take x0 x1 x2 x3 x4 x5) a e = goes_not_ends a x4 e
  ends_so (Way.valid_strike_no x0 x1 x2 x3 x4 x5) a e = (ap is_linking x0, Ending.unchanged (ap done_of x0) (λ is. not_yes (same_answer x4 e) is (λ w. let z : ◌≡◌ {A = ℕ} 0 1 = cc w in omega arith)))
  ends_so (Way.valid_victim x0 x1 x2 x3 x4 x5) a e = goes_not_ends a x4 e
  ends_so (Way.take_none x0 x1 x2 x3) a e = (ap is_linking x0, Ending.unchanged (ap done_of x0) (λ is. not_yes (same_answer x2 e) is (λ w. let z : ◌≡◌ {A = ℕ} 0 1 = cc w in omega arith)))
  ends_so (Way.take_some x0 x1 x2 x3 x4 x5 x6) a e = goes_not_ends a x5 e
  ends_so (Way.links x0 x1 x2) a e = goes_not_ends a x1 e
  ends_so (Way.links_back x0 x1 x2 x3) a e = goes_not_ends a x2 e
  ends_so (Way.attaches x0 x1 x2 x3 x4 x5) a e = goes_not_ends a x4 e
  ends_so (Way.releases_new x0 x1 x2) a e = goes_not_ends a x1 e
  ends_so (Way.put_ends x0 x1 x2) a e = (ap is_linking x0, Ending.put_done x0 (same_answer x1 e))
  ends_so (Way.victim_waits x0 x1 x2 x3) a e = waits_not_ends a x2 e
  ends_so (Way.victim_taken x0 x1 x2 x3 x4) a e = goes_not_ends a x3 e
  ends_so (Way.marks x0 x1 x2) a e = goes_not_ends a x1 e
  ends_so (Way.unlinks_back x0 x1 x2 x3) a e = goes_not_ends a x2 e
  ends_so (Way.unlinks x0 x1 x2) a e = goes_not_ends a x1 e
  ends_so (Way.detaches x0 x1 x2 x3 x4) a e = goes_not_ends a x3 e
  ends_so (Way.releases_victim x0 x1 x2) a e = goes_not_ends a x1 e
  ends_so (Way.strike_ends x0 x1 x2 x3) a e = retires_not_ends a x2 e
  ends_so (Way.first_missing x0 x1 x2 x3) a e = (ap is_linking x0, Ending.unchanged (ap done_of x0) (λ is. not_yes (same_answer x2 e) is (λ w. let z : ◌≡◌ {A = ℕ} 0 1 = cc w in omega arith)))
  ends_so (Way.first_on_next x0 x1 x2 x3) a e = goes_not_ends a x2 e
  ends_so (Way.first_marked x0 x1 x2 x3) a e = goes_not_ends a x2 e
  ends_so (Way.first_found x0 x1 x2 x3 x4 x5) a e = (ap is_linking x0, Ending.unchanged (ap done_of x0) (λ is. not_yes (same_answer x4 e) is (λ w. let z : ◌≡◌ {A = ℕ} 0 1 = cc w in omega arith)))
