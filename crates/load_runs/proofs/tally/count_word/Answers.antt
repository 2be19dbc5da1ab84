use Rattle.std.proofs.Common.{rules}
use Rattle.std.proofs.lemmas.List.{get_or_default}
use Rattle.std.proofs.lemmas.List.Edits.{map_over_more}
use Rattle.load_runs.specs.Tallies.{counted}
use Rattle.load_runs.proofs.tally.count_word.Goals as goal

pub loop-count-preserved : goal.loop-count-preserved
loop-count-preserved c = rw (c.in_ok-count.ensures c.args.word c.word_bytes-text.ensures.word) (search (rules, map_over_more (counted c.args.word), get_or_default))
