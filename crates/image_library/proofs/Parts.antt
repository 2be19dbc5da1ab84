-- What is made of the two lists of declarations of a package.
use Rattle.std.proofs.Common.{◌≡◌, ℕ, Bool, true, false, List, [], ◌∷◌, ◌++◌, ◌||◌, Option, refl, ap, ◌∙◌}
use Rattle.ada_tree.specs.declared.declarations.Declaration.{Declaration}
use Rattle.profile_image.specs.declared.numbers.StatementNo.{StatementNo}
use Rattle.ada_image.specs.declared.making.Lists.{Lists}
use Rattle.ada_image.specs.declared.making.Within.{Within}
use Rattle.ada_image.specs.ImageOfDeclarations.{makes_task, make_tasks, declaration_put, declarations_put}

pub declarations_behind : {Q : Type 0} (within : Within) (part : ℕ) (ds es : List (Declaration Q)) (next : Option StatementNo) (l : Lists)
    → declarations_put within part (ds ++ es) next l
    ≡ declarations_put within part ds (declarations_put within part es next l).1 (declarations_put within part es next l).0
unfolding declarations_put
declarations_behind within part [] es next l = refl
declarations_behind within part (d ∷ ds) es next l =
    ap (λ (r : Lists × Option StatementNo). declaration_put within part d r.1 r.0) (declarations_behind within part ds es next l)

either_of : (a b c : Bool) → a || (b || c) ≡ (a || b) || c
either_of true b c = refl
either_of false b c = refl

pub tasks_behind : {Q : Type 0} (within : Within) (ds es : List (Declaration Q)) → make_tasks within (ds ++ es) ≡ make_tasks within ds || make_tasks within es
unfolding make_tasks
tasks_behind within [] es = refl
tasks_behind within (d ∷ ds) es =
    ap (λ b. makes_task within d || b) (tasks_behind within ds es) ∙ either_of (makes_task within d) (make_tasks within ds) (make_tasks within es)
