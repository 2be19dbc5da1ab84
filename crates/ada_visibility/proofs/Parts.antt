-- The parts of a name behind an unknown one.
use Rattle.std.proofs.Common.{◌≡◌, List, [], ◌∷◌, None, refl}
use Rattle.ada_tree.specs.declared.names.Identifier.{Identifier}
use Rattle.ada_regions.specs.declared.table.Names.{Names}
use Rattle.ada_regions.specs.SelectedNames.{parts_resolved}

pub none_resolved : (parts : List Identifier) (n : Names) → parts_resolved None parts n ≡ n
none_resolved [] n = refl
none_resolved (i ∷ rest) n = refl
