-- What was inserted is taken out again where the other table has no memory.
use Rattle.std.proofs.Common.{◌∙◌, ap}
use Rattle.std.specs.Ordering.{nat_cmp}
use Rattle.std.specs.BTreeMap.{is_at}
use Rattle.std.specs.Map.{remove_entry}
use Rattle.trace_lines.proofs.PlacesOn.{removed-inserted, nat_itself}
use Rattle.trace_lines.proofs.queue.put_ranked.Goals as goal

pub returns-in-Err-clause-entries_stay : goal.returns-in-Err-clause-entries_stay
returns-in-Err-clause-entries_stay c =
    c.remove.ensures.entries ∙ ap (remove_entry (is_at (nat_cmp c.args.place))) c.in_ok-insert.ensures.entries
    ∙ removed-inserted nat_cmp nat_itself c.args.place c.args.entry c.args.entries.now.entries c.requires.unused
