use Rattle.std.proofs.Common.{◌∙◌, sym, below_more}
use Rattle.std.proofs.lemmas.Bool.{false≢true}
use Rattle.std.proofs.lemmas.Slice.Eq.{bytes_eq-Decides}
use Rattle.ada_lex.proofs.words.first_of.Goals as goal

pub loop-entry-preserved : goal.loop-entry-preserved
loop-entry-preserved c =
    below_more _ _ c.loop-entry.invariant (λ same. false≢true (sym c.if-is_spelt.false ∙ c.is_spelt.ensures ∙ (bytes_eq-Decides _ _).1 (sym same)))
