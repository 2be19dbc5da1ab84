-- Which sources are accepted, and why the others are refused.
use Rattle.std.specs.Prelude.{◌≡◌, ◌<◌, ℕ, Bool, true, false, List, Option, Some, None, Result, Ok, Err, length}
use Rattle.ada_lex.specs.declared.lexing.TheConstants.{MAX_SOURCE}
use Rattle.ada_lex.specs.declared.tokens.Token.{Token}
use Rattle.ada_lex.specs.declared.tokens.LexFault.{LexFault}
use Rattle.ada_lex.specs.Lexed.{Lexed}
use Rattle.ada_lex.specs.Reading.{tokens_of}
use Rattle.ada_tree.specs.declared.units.Unit.{Unit as Tree}
use Rattle.ada_tree.specs.Written.{lexemes_of}
use Rattle.ada_tree.specs.Spelling.{SpellsTokens}
use Rattle.ada_tree.specs.Shape.{is_shaped}
use Rattle.ada_grammar.specs.declared.faults.ParseFault.{ParseFault}
use Rattle.ada_grammar.specs.ReadingUnits.{unit_of}
use Rattle.ada_regions.specs.declared.faults.NameFault.{NameFault}
use Rattle.ada_regions.specs.Numbered.{names_of, name_fault_of}
use Rattle.ada_legality.specs.declared.faults.Fault.{Fault}
use Rattle.ada_legality.specs.Faults.{first_fault_of}
use Rattle.ada_image.specs.BuiltUnits.{unit_built}
use Rattle.ada_image.specs.ImageOfUnits.{program_of}
use Rattle.profile_image.specs.declared.image.Image.{Image}
use Rattle.ada_verdicts.specs.declared.refusals.Code.TheVariants as code
use Rattle.ada_verdicts.specs.declared.refusals.Refusal.{Refusal}
use Rattle.ada_verdicts.specs.Refusals.{refused_at, first_place, of_tokens, of_grammar, of_names, of_rules, of_forms}

-- The bytes are accepted as an image: their tokens spell a shaped tree, each of its names has one declaration, it
-- breaks no rule, each of its forms is one that an image has, and the image is that of the tree.
pub record Accepted (source : List ℕ) (image : Image) : Type 0 where
  pub tokens : List Token
  pub lexed : Lexed source tokens
  pub tree : Tree
  pub spelt : SpellsTokens tree (lexemes_of source tokens)
  pub shaped : is_shaped tree ≡ true
  pub named : name_fault_of tree ≡ None
  pub unbroken : first_fault_of tree ≡ None
  pub built : unit_built tree (names_of tree) ≡ true
  pub numbered : image ≡ program_of tree

-- ---- the first stage that refuses decides

abbrev pub by_forms : Tree → Bool → Result Image Refusal
by_forms tree true = Ok (program_of tree)
by_forms tree false = Err (of_forms tree)

abbrev pub by_rules : Tree → Option Fault → Result Image Refusal
by_rules tree None = by_forms tree (unit_built tree (names_of tree))
by_rules tree (Some fault) = Err (of_rules fault)

abbrev pub by_names : Tree → Option NameFault → Result Image Refusal
by_names tree None = by_rules tree (first_fault_of tree)
by_names tree (Some fault) = Err (of_names fault)

abbrev pub by_grammar : List ℕ → List Token → Result Tree ParseFault → Result Image Refusal
by_grammar source tokens (Ok tree) = by_names tree (name_fault_of tree)
by_grammar source tokens (Err fault) = Err (of_grammar source tokens fault)

abbrev pub by_tokens : List ℕ → Result (List Token) LexFault → Result Image Refusal
by_tokens source (Ok tokens) = by_grammar source tokens (unit_of (lexemes_of source tokens))
by_tokens source (Err fault) = Err (of_tokens fault)

-- the image of a source, or why it is refused
unfoldable pub judged : List ℕ → Result Image Refusal
judged source = by_tokens source (tokens_of source)

-- a source that is too long is refused before all
abbrev pub LongSourcesAreRefused : Type 0
LongSourcesAreRefused =
    (source : List ℕ) → MAX_SOURCE < length source →
    (judged source ≡ Err (refused_at first_place code.TooLong)) × ((image : Image) → Accepted source image → ⊥)

-- ---- the stages of a source that is accepted: from its tokens, its tree on

pub record AcceptedTokens (source : List ℕ) (tokens : List Token) (image : Image) : Type 0 where
  pub tree : Tree
  pub spelt : SpellsTokens tree (lexemes_of source tokens)
  pub shaped : is_shaped tree ≡ true
  pub named : name_fault_of tree ≡ None
  pub unbroken : first_fault_of tree ≡ None
  pub built : unit_built tree (names_of tree) ≡ true
  pub numbered : image ≡ program_of tree

pub record AcceptedTree (tree : Tree) (image : Image) : Type 0 where
  pub named : name_fault_of tree ≡ None
  pub unbroken : first_fault_of tree ≡ None
  pub built : unit_built tree (names_of tree) ≡ true
  pub numbered : image ≡ program_of tree
