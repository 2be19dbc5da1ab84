use Rattle.std.proofs.Common.{◌≡◌, ◌∷◌, ◌++◌, drop, map}
use Rattle.profile_image.specs.declared.declarations.ExceptionChoice.TheVariants as exception_choice
use Rattle.ada_image.specs.ImageOfStatements.{exception_named}
use Rattle.image_statements.proofs.exceptions.exceptions_named.Given as goal

-- the exceptions so far, and those to come, are all of them
abbrev pub invariant-loop-name : goal.invariant-loop-name
invariant-loop-name l =
    l.choices ++ map (λ name. exception_choice.Named (exception_named l.within name)) (drop l.name-index l.fn.names.others)
    ≡ exception_choice.Named (exception_named l.within l.fn.names.first)
    ∷ map (λ name. exception_choice.Named (exception_named l.within name)) l.fn.names.others
