-- A number has a level where the map has an entry for it.
use Rattle.std.proofs.Common.{◌∙◌, sym, ap}
use Rattle.std.specs.Option.{is_some}
use Rattle.trace_lines.proofs.LevelLookups.{has-keys, lookup-level_of}
use Rattle.trace_lines.proofs.levels.has.Goals as goal

pub returns : goal.returns
returns c =
    c.contains_key.ensures ∙ ap is_some (lookup-level_of c.args.number c.args.levels.now.entries) ∙ sym (has-keys c.args.number c.args.levels.now.entries)
