use Rattle.ada_tree.specs.Written.{lexemes_of}
use Rattle.ada_parse.proofs.Given.{spells, shaped, only, place}
use Rattle.ada_parse.proofs.units.parse.Goals as goal

pub returns : goal.returns
returns c =
    let lexemes = lexemes_of c.args.source.now c.args.tokens.now in
    record {
      found = spells c.read.result lexemes c.read_is_spelt.ensures c.read.ensures.exact;
      shaped = shaped c.read.result lexemes c.read_is_spelt.ensures c.read.ensures.exact;
      only = only c.read.result lexemes c.spelt_is_read.ensures c.read.ensures.exact;
      exact = c.read.ensures.exact;
      place = place c.read.result lexemes c.no_tree_goes_on.ensures c.no_tree_goes_deeper.ensures c.read.ensures.exact;
    }
