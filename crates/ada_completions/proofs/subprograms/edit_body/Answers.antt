use Rattle.std.proofs.Common.{rules, sym}
use Rattle.ada_regions.specs.Completions.{with_body_of}
use Rattle.ada_completions.proofs.Edits.{edited_there}
use Rattle.ada_completions.proofs.subprograms.edit_body.Goals as goal

pub returns-in-Some : goal.returns-in-Some
returns-in-Some c =
    let edited =
    edited_there (with_body_of c.args.scope c.args.formals) c.args.subprograms.now c.args.number c.in-Some.subprogram.now (sym c.in-Some.ensures.value) in
    search rules
