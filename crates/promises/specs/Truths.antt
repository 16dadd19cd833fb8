-- What it means that an answer is true of the keys of a book. Assumes nothing.
use Rattle.std.specs.Prelude.{◌≡◌, ◌⊎◌, List, [], ◌∷◌, ◌≢◌}
use Rattle.std.specs.declared.cmp.Ordering.TheVariants.{Less}
use Rattle.std.specs.declared.cmp.Ordering.{Ordering}
use Rattle.records.specs.declared.answer.Answer.{Answer}
use Rattle.records.specs.declared.answer.Answer.TheVariants.{Yes, No, Found, Missing, NoRoom}
use Rattle.records.specs.declared.record.Work.{Work}
use Rattle.records.specs.declared.record.Work.TheVariants.{Put, Strike, Look, First, After}

module _ {K : Type 0} where
  -- The key k is among these.
  abbrev pub Holds : K → List K → Type 0
  Holds k [] = ⊥
  Holds k (x ∷ xs) = (x ≡ k) ⊎ Holds k xs

  -- A key is added: it was not among the keys and then is, the rest staying.
  pub record Adds (k : K) (before after : List K) : Type 0 where
    pub absent : Holds k before → ⊥
    pub present : Holds k after
    pub stays : (j : K) → (j ≢ k) → Holds j before → Holds j after
    pub no_more : (j : K) → (j ≢ k) → Holds j after → Holds j before

  -- A key is taken away: the reverse.
  abbrev pub TakesAway : K → List K → List K → Type 0
  TakesAway k before after = Adds k after before

  module _ (rank : K → K → Ordering) where
    -- The keys stand in strictly rising order.
    abbrev pub Rises : List K → Type 0
    Rises [] = Unit {0}
    Rises (x ∷ xs) = ((y : K) → Holds y xs → rank x y ≡ Less) × Rises xs

    -- k is the smallest of the keys.
    pub record Smallest (k : K) (keys : List K) : Type 0 where
      pub among : Holds k keys
      pub least : (j : K) → Holds j keys → rank j k ≢ Less

    -- k is the smallest of the keys above `bound`.
    pub record SmallestAbove (bound k : K) (keys : List K) : Type 0 where
      pub among : Holds k keys
      pub above : rank bound k ≡ Less
      pub least : (j : K) → Holds j keys → rank bound j ≡ Less → rank j k ≢ Less

    -- An answer that ends a work with key k is true of these keys. Yes to a put or a strike is no statement about the
    -- keys at one moment, and answers that a work never gives are true of none.
    abbrev pub TrueOf : Work → K → Answer K → List K → Type 0
    TrueOf Put k Yes keys = ⊥
    TrueOf Put k No keys = Holds k keys
    TrueOf Put k (Found j) keys = ⊥
    TrueOf Put k Missing keys = ⊥
    TrueOf Put k NoRoom keys = Unit {0}
    TrueOf Strike k Yes keys = ⊥
    TrueOf Strike k No keys = Holds k keys → ⊥
    TrueOf Strike k (Found j) keys = ⊥
    TrueOf Strike k Missing keys = ⊥
    TrueOf Strike k NoRoom keys = ⊥
    TrueOf Look k Yes keys = Holds k keys
    TrueOf Look k No keys = Holds k keys → ⊥
    TrueOf Look k (Found j) keys = ⊥
    TrueOf Look k Missing keys = ⊥
    TrueOf Look k NoRoom keys = ⊥
    TrueOf First k Yes keys = ⊥
    TrueOf First k No keys = ⊥
    TrueOf First k (Found j) keys = Smallest j keys
    TrueOf First k Missing keys = (j : K) → Holds j keys → ⊥
    TrueOf First k NoRoom keys = ⊥
    TrueOf After k Yes keys = ⊥
    TrueOf After k No keys = ⊥
    TrueOf After k (Found j) keys = SmallestAbove k j keys
    TrueOf After k Missing keys = (j : K) → Holds j keys → rank k j ≢ Less
    TrueOf After k NoRoom keys = ⊥
