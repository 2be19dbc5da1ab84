-- What was inserted is taken out again where the last table has no memory.
use Rattle.std.proofs.Common.{◌∙◌, ap, cond, None}
use Rattle.std.specs.Ordering.{nat_cmp}
use Rattle.std.specs.BTreeMap.{is_at, get}
use Rattle.std.specs.Map.{remove_entry}
use Rattle.trace_lines.specs.Places.{rank_cmp, rank_of}
use Rattle.trace_lines.proofs.PlacesOn.{removed-inserted, nat_itself, back_to}
use Rattle.trace_lines.proofs.queue.put_in.Goals as goal

pub returns-in-Err-clause-entries_stay : goal.returns-in-Err-clause-entries_stay
returns-in-Err-clause-entries_stay c =
    c.remove.ensures.entries ∙ ap (remove_entry (is_at (nat_cmp c.args.place))) c.in_ok-put_ranked.ensures.entries
    ∙ removed-inserted nat_cmp nat_itself c.args.place c.args.entry c.args.entries.now.entries c.requires.unused

pub returns-in-Err-clause-ranks_stay : goal.returns-in-Err-clause-ranks_stay
returns-in-Err-clause-ranks_stay c = λ rank.
    (rw c.rank_of.ensures at c.remove-in-Err.ensures.updates.0 rank)
    ∙ ap (cond (is_at (rank_cmp (rank_of c.args.place c.args.entry)) rank) None) (c.in_ok-put_ranked.ensures.ranks rank)
    ∙ back_to (rank_of c.args.place c.args.entry) rank (get rank_cmp c.args.ranks.now) c.args.entry c.requires.unranked
