use Rattle.std.proofs.Common.{rules, sym}
use Rattle.ada_regions.specs.Regions.{with_entry_body}
use Rattle.ada_completions.proofs.Edits.{edited_there}
use Rattle.ada_naming.proofs.entries.edit_entry.Goals as goal

pub returns-in-Some : goal.returns-in-Some
returns-in-Some c =
    let edited =
    edited_there (with_entry_body c.args.barrier.now c.args.scope) c.args.entries.now c.args.number c.in-Some.entry.now (sym c.in-Some.ensures.value) in
    search rules
