-- How two keys of each kind stand to each other. Assumes nothing.
-- `Less` says that the first stands below the second, `Equal` that they are the same, `Greater` that it stands above.
use Rattle.std.specs.declared.cmp.Ordering.{Ordering}
use Rattle.std.specs.Ordering.{ordering_then, nat_cmp, int_cmp}
use Rattle.orders.specs.declared.number.Ingredient.{Ingredient}
use Rattle.orders.specs.declared.lot.LotNumber.{LotNumber}
use Rattle.orders.specs.declared.days.Days.{Days}
use Rattle.orders.specs.declared.pair.Pair.{Pair}

-- Ingredient numbers stand in rising order.
abbrev pub by_ingredient : Ingredient → Ingredient → Ordering
by_ingredient a b = nat_cmp a.0 b.0

-- Lot numbers stand in rising order.
abbrev pub by_lot_number : LotNumber → LotNumber → Ordering
by_lot_number a b = nat_cmp a.0 b.0

-- Fewer days come first, so -1 stands before 0.
abbrev pub by_days : Days → Days → Ordering
by_days a b = int_cmp a.0 b.0

-- The first part decides, and the second only where the first parts are the same.
abbrev pub by_parts : {A B : Type 0} → (A → A → Ordering) → (B → B → Ordering) → Pair A B → Pair A B → Ordering
by_parts first second a b = ordering_then (first a.first b.first) (second a.second b.second)
