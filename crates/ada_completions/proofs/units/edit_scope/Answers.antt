use Rattle.std.proofs.Common.{rules, sym}
use Rattle.ada_regions.specs.Completions.{with_scope_of}
use Rattle.ada_completions.proofs.Edits.{edited_there}
use Rattle.ada_completions.proofs.units.edit_scope.Goals as goal

pub returns-in-Some : goal.returns-in-Some
returns-in-Some c =
    let edited = edited_there (with_scope_of c.args.scope) c.args.task_units.now c.args.number c.in-Some.unit.now (sym c.in-Some.ensures.value) in
    search rules
