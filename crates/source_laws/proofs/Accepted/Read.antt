-- The tree of an accepted source is read from its bytes.
use Rattle.std.proofs.Common.{◌≡◌, ℕ, Bool, false, List, Result, Ok, Err, length, nat_lt, refl, sym, ◌∙◌}
use Rattle.std.proofs.lemmas.Bool.{le-ltb}
use Rattle.ann_base.specs.declared.faults.OrMemory.{OrMemory}
use Rattle.ann_base.specs.declared.faults.OrMemory.TheVariants as answer
use Rattle.ann_base.specs.Answers.{AnswersAs}
use Rattle.ada_lex.specs.declared.lexing.TheConstants.{MAX_SOURCE}
use Rattle.ada_lex.specs.declared.tokens.Token.{Token}
use Rattle.ada_lex.specs.declared.tokens.LexFault.{LexFault}
use Rattle.ada_lex.specs.Reading.{tokens_of, tokens_from, start}
use Rattle.ada_lex.specs.Lexed.{Lexed}
use Rattle.ada_lex.proofs.Unique.{only_by}
use Rattle.ada_tree.specs.Written.{lexemes_of}
use Rattle.grammar_laws.proofs.Reading.Whole.{spelt_is_read}
use Rattle.profile_image.specs.declared.image.Image.{Image}
use Rattle.source_laws.specs.SourceLaws.{IsReadFrom}
use Rattle.ada_verdicts.specs.Accepted.{Accepted}

-- ---- tokens that are those of a source are read from it

abbrev as_answer : Result (List Token) LexFault → Result (List Token) (OrMemory LexFault)
as_answer (Ok tokens) = Ok tokens
as_answer (Err fault) = Err (answer.Fault fault)

abbrev as_it_is : List Token → List Token
as_it_is tokens = tokens

answered : (r : Result (List Token) LexFault) → AnswersAs as_it_is (as_answer r) r
answered (Ok tokens) = refl
answered (Err fault) = refl

answers : (r : Result (List Token) LexFault) (tokens : List Token) → AnswersAs as_it_is (as_answer r) (Ok tokens) → r ≡ Ok tokens
answers (Ok others) tokens e = sym e
answers (Err fault) tokens e = sym e

in_full : (source : List ℕ) (b : Bool) → nat_lt MAX_SOURCE (length source) ≡ b → b ≡ false → tokens_of source ≡ tokens_from source 0 start
unfolding tokens_of
in_full source b test short = rw (test ∙ short) refl

tokens_read : (source : List ℕ) (tokens : List Token) → Lexed source tokens → tokens_of source ≡ Ok tokens
tokens_read source tokens lexed =
    in_full source false (le-ltb MAX_SOURCE (length source) lexed.0) refl
    ∙ answers (tokens_from source 0 start) tokens
    (only_by as_it_is (as_answer (tokens_from source 0 start)) source (answered (tokens_from source 0 start)) tokens lexed)

-- ---- and so is the tree that they spell

pub tree_read : (source : List ℕ) (image : Image) (accepted : Accepted source image) → IsReadFrom source accepted.tree
tree_read source image accepted =
    record {
      tokens = accepted.tokens;
      lexed = tokens_read source accepted.tokens accepted.lexed;
      parsed = spelt_is_read accepted.tree (lexemes_of source accepted.tokens) accepted.spelt accepted.shaped;
    }
