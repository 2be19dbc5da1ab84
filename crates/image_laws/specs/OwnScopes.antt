-- Sources that an image has whole: each of their forms is built, and each body, block and accept has a scope of its
-- own.
use Rattle.std.specs.Prelude.{ℕ, Bool, true, not, ◌&&◌, List, [], ◌∷◌, eqb, ltb, length}
use Rattle.std.specs.List.{list_any, list_all}
use Rattle.ada_tree.specs.declared.units.Unit.{Unit as Tree}
use Rattle.ada_regions.specs.declared.table.Names.{Names}
use Rattle.ada_regions.specs.Numbered.{names_of}
use Rattle.ada_image.specs.BuiltUnits.{unit_built}
use Rattle.image_laws.specs.ScopesOfText.{scopes_begun}

abbrev pub are_apart : List ℕ → Bool
are_apart [] = true
are_apart (s ∷ ss) = not (list_any (eqb s) ss) && are_apart ss

-- each of these scopes is in the table of names, and none begins twice
abbrev pub are_own : Names → List ℕ → Bool
are_own n scopes = list_all (λ s. ltb s (length n.scopes)) scopes && are_apart scopes

-- ---- sources

abbrev pub is_built_with : Names → Tree → Bool
is_built_with n unit = unit_built unit n && are_own n (scopes_begun unit n)

abbrev pub is_built : Tree → Bool
is_built unit = is_built_with (names_of unit) unit
