-- From an accepted tree to its tokens, and from these to their source.
use Rattle.std.proofs.Common.{◌≡◌, ℕ, true, List, Result, Ok, Err, IfOk, sym, ap, subst, ◌∙◌}
use Rattle.ann_base.specs.declared.faults.OrMemory.{OrMemory}
use Rattle.ann_base.specs.Answers.{Answers}
use Rattle.ada_lex.specs.declared.tokens.Token.{Token}
use Rattle.ada_lex.specs.declared.tokens.LexFault.{LexFault}
use Rattle.ada_lex.specs.Lexed.{Lexed}
use Rattle.ada_tree.specs.declared.units.Unit.{Unit as Tree}
use Rattle.ada_tree.specs.Written.{lexemes_of}
use Rattle.ada_tree.specs.Spelling.{SpellsTokens}
use Rattle.ada_tree.specs.Shape.{is_shaped}
use Rattle.profile_image.specs.declared.image.Image.{Image}
use Rattle.ada_verdicts.specs.declared.refusals.Refusal.{Refusal}
use Rattle.ada_verdicts.specs.Accepted.{Accepted, AcceptedTokens, AcceptedTree}

-- what is accepted of the tree that tokens spell is accepted of the tokens
pub tokens_accepted : (source : List ℕ) (tokens : List Token) (tree : Tree) (r : Result Image (OrMemory Refusal)) → SpellsTokens tree (lexemes_of source tokens)
    → is_shaped tree ≡ true →
    IfOk r (λ image. AcceptedTree tree image) → IfOk r (λ image. AcceptedTokens source tokens image)
tokens_accepted source tokens tree (Ok image) spelt shaped a =
    record { tree = tree; spelt = spelt; shaped = shaped; named = a.named; unbroken = a.unbroken; built = a.built; numbered = a.numbered }
tokens_accepted source tokens tree (Err refused) spelt shaped a = tt

accepted_of : (source : List ℕ) (tokens : List Token) (r : Result Image (OrMemory Refusal)) → Lexed source tokens
    → IfOk r (λ image. AcceptedTokens source tokens image) → IfOk r (λ image. Accepted source image)
accepted_of source tokens (Ok image) lexed a =
    record {
      tokens = tokens;
      lexed = lexed;
      tree = a.tree;
      spelt = a.spelt;
      shaped = a.shaped;
      named = a.named;
      unbroken = a.unbroken;
      built = a.built;
      numbered = a.numbered;
    }
accepted_of source tokens (Err refused) lexed a = tt

-- what is accepted of the tokens of a source is accepted of the source
pub source_accepted : (source : List ℕ) (seen tokens : List Token) (r : Result Image (OrMemory Refusal)) → seen ≡ tokens → Lexed source tokens →
    IfOk r (λ image. AcceptedTokens source seen image) → IfOk r (λ image. Accepted source image)
source_accepted source seen tokens r same lexed a = accepted_of source tokens r lexed (subst (λ ts. IfOk r (λ image. AcceptedTokens source ts image)) same a)

-- ---- an accepted source has these tokens alone

abbrev lexed_as : List Token → Result (List Token) LexFault
lexed_as tokens = Ok tokens

abbrev tokens_in : List Token → Result (List Token) LexFault → List Token
tokens_in other (Ok tokens) = tokens
tokens_in other (Err fault) = other

of_source : (source : List ℕ) (image : Image) (a : Accepted source image) → AcceptedTokens source a.tokens image
of_source source image a = record {
  tree = a.tree;
  spelt = a.spelt;
  shaped = a.shaped;
  named = a.named;
  unbroken = a.unbroken;
  built = a.built;
  numbered = a.numbered;
}

pub only_of_source : (source : List ℕ) (seen tokens : List Token) (r : Result Image (OrMemory Refusal)) → seen ≡ tokens
    → ((others : List Token) → Lexed source others → lexed_as others ≡ Ok tokens) →
    ((image : Image) → AcceptedTokens source seen image → Answers r (Ok image)) → (image : Image) → Accepted source image → Answers r (Ok image)
only_of_source source seen tokens r same only judges image a =
    judges image (subst (λ ts. AcceptedTokens source ts image) (ap (tokens_in tokens) (only a.tokens a.lexed) ∙ sym same) (of_source source image a))
