-- What is made of the bodies in the two lists of declarations of a package.
use Rattle.std.proofs.Common.{◌≡◌, List, [], ◌∷◌, ◌++◌, refl}
use Rattle.ada_tree.specs.declared.declarations.Declaration.{Declaration}
use Rattle.ada_image.specs.declared.making.Lists.{Lists}
use Rattle.ada_image.specs.declared.making.Within.{Within}
use Rattle.ada_image.specs.ImageOfStatements.{SequenceMaking}
use Rattle.ada_image.specs.ImageOfDeclarations.{inner_body_put, inner_bodies_put}

pub bodies_behind : {Q : Type 0} (f : Q → SequenceMaking) (within : Within) (ds es : List (Declaration Q)) (l : Lists)
    → inner_bodies_put f within (ds ++ es) l ≡ inner_bodies_put f within es (inner_bodies_put f within ds l).0
unfolding inner_bodies_put
bodies_behind f within [] es l = refl
bodies_behind f within (d ∷ ds) es l = bodies_behind f within ds es (inner_body_put f within d l).0
