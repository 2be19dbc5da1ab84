-- What goes on with the value of a result.
use Rattle.std.specs.Prelude.{Result, Ok, Err}

infixl 15 ◌>>=◌
abbrev pub ◌>>=◌ : {X Y E : Type 0} → Result X E → (X → Result Y E) → Result Y E
(Ok x) >>= f = f x
(Err e) >>= f = Err e
