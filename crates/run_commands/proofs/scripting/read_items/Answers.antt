use Rattle.std.proofs.Common.{subst}
use Rattle.commands.specs.Outside.{shelf_of}
use Rattle.commands.specs.Performed.{ReadsScript}
use Rattle.commands.proofs.ServingScripts.{script_read}
use Rattle.run_commands.proofs.scripting.read_items.Goals as goal

pub returns-in-Ok-clause-read : goal.returns-in-Ok-clause-read
returns-in-Ok-clause-read g c =
    script_read (shelf_of g.S.Shelf.files g.S.Shelf.faults c.args.shelf.now c.read_file.new.shelf) c.args.script.now c.in-Ok.text.items c.items_in.result
    c.cut_scripts_are_read_alike.ensures c.in-Ok.ensures.read
    (subst (λ seen_bytes. ReadsScript seen_bytes c.items_in.result) c.deref.ensures.value c.items_in.ensures.read)
