-- What an option held whose lack is an error. Assumes nothing.
use Rattle.std.proofs.Common.{◌≡◌, Some, None, Ok, Err, Option, refl}
use Rattle.std.specs.Option.{ok_or}

pub held : {A E : Type 0} (o : Option A) (e : E) (a : A) → Ok a ≡ ok_or o e → o ≡ Some a
held None e a h = cc
held (Some b) e a h = cc

pub record Lacked {A E : Type 0} (o : Option A) (e x : E) : Type 0 where
  pub none : o ≡ None
  pub error : x ≡ e

pub lacked : {A E : Type 0} (o : Option A) (e x : E) → Err x ≡ ok_or o e → Lacked o e x
lacked None e x h = record { none = refl; error = cc }
lacked (Some b) e x h = record { none = cc; error = cc }
