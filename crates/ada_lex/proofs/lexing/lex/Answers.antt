use Rattle.ada_lex.proofs.Found.{found_by}
use Rattle.ada_lex.proofs.Unique.{only_by}
use Rattle.ada_lex.proofs.Inside.{inside_by, few_by}
use Rattle.ada_lex.proofs.lexing.lex.Goals as goal

pub returns-clause-found : goal.returns-clause-found
returns-clause-found c = found_by (λ v. v.items) c.tokens_of.result c.args.source.now c.if-source-gt-MAX_SOURCE.false c.tokens_of.ensures

pub returns-clause-only : goal.returns-clause-only
returns-clause-only c = only_by (λ v. v.items) c.tokens_of.result c.args.source.now c.tokens_of.ensures

pub returns-clause-inside : goal.returns-clause-inside
returns-clause-inside c =
    inside_by (λ v. v.items) c.tokens_of.result c.args.source.now
    (found_by (λ v. v.items) c.tokens_of.result c.args.source.now c.if-source-gt-MAX_SOURCE.false c.tokens_of.ensures)

pub returns-clause-count : goal.returns-clause-count
returns-clause-count c =
    few_by (λ v. v.items) c.tokens_of.result c.args.source.now
    (found_by (λ v. v.items) c.tokens_of.result c.args.source.now c.if-source-gt-MAX_SOURCE.false c.tokens_of.ensures)
