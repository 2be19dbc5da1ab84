-- The names of a profile are those of its parameters, one behind another.
use Rattle.std.proofs.Common.{◌≡◌, List, refl}
use Rattle.std.specs.List.{flat_map}
use Rattle.ada_legality.specs.Profiles.{names_with_parameters}
use Rattle.ada_tree.specs.declared.declarations.Parameter.{Parameter}
use Rattle.legality_profiles.specs.Shown.{named_in}

pub names_are : (ps : List Parameter) → names_with_parameters ps ≡ flat_map named_in ps
unfolding names_with_parameters
names_are ps = refl
