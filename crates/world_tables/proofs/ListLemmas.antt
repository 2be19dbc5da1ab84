-- An item that is not there.
use Rattle.std.proofs.Common.{◌≡◌, ℕ, List, None, slice_get, ap, sym, ◌∙◌}
use Rattle.std.specs.Prelude.{slice_index_or, unwrap_or}
use Rattle.std.proofs.lemmas.Option.{unwrap_or-slice_get}

pub none_read : {X : Type 0} (xs : List X) (i : ℕ) (other : X) → slice_get xs i ≡ None → slice_index_or xs i other ≡ other
none_read xs i other e = sym (unwrap_or-slice_get xs i other) ∙ ap (λ o. unwrap_or o other) e
