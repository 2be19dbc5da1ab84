-- Library units and the source: what is read hangs on no later token.
use Rattle.std.proofs.Common.{ℕ, zero, suc, ◌≤◌, inl, Bool, List, [], ◌∷◌, ◌++◌, length, Ok, if◌then◌else◌, refl, subst, arith, codes}
use Rattle.ann_base.specs.declared.places.Place.{Place}
use Rattle.ada_tree.specs.declared.statements.SequenceRole.TheVariants as role
use Rattle.ada_tree.specs.declared.units.Pragma.{Pragma}
use Rattle.ada_tree.specs.declared.units.ContextClause.{ContextClause}
use Rattle.ada_tree.specs.declared.units.LibraryPackage.{LibraryPackage}
use Rattle.ada_tree.specs.declared.units.Unit.{Unit as Tree}
use Rattle.ada_tree.specs.Written.{Lexeme}
use Rattle.ada_grammar.specs.Reading.{Parser, ◌>>=◌, pure, choose, sees_word, the_delimiter, an_identifier, opening_of, below, separated_of}
use Rattle.ada_grammar.specs.ReadingExpressions.{argument_of, inner_of}
use Rattle.ada_grammar.specs.ReadingSequences.{inside_of}
use Rattle.ada_grammar.specs.ReadingUnits.{declarations_at, pragma_of, with_of, use_clause_of, clause_of, begins_clause}
use Rattle.ada_grammar.specs.ReadingUnits.{context_of, private_part_of, package_declaration_of, package_statements_of}
use Rattle.ada_grammar.specs.ReadingUnits.{package_body_of, package_of, packages_from, packages_of, main_of, finished, source_of}
use Rattle.grammar_laws.proofs.Faults.Local.{Local, Eats, Head, local_pure, then_within, then_two, local_then, if_within, if_moves}
use Rattle.grammar_laws.proofs.Faults.Local.{head_at, local_choose, head_starts, head_or, local_word, local_delimiter, local_identifier}
use Rattle.grammar_laws.proofs.Faults.Local.{ok_within, eats_first, eats_choose, eats_word, local_end_name, local_opening}
use Rattle.grammar_laws.proofs.Faults.Local.{local_opening_is, next_within, none, local_items, local_separated, local_names, Within, Moves}
use Rattle.grammar_laws.proofs.Faults.Passing.{local_stuck_then, never_opens}
use Rattle.grammar_laws.proofs.Faults.Expressions.{local_argument, inside_inner}
use Rattle.grammar_laws.proofs.Faults.Declarations.{local_aspects}
use Rattle.grammar_laws.proofs.Faults.Bodies.{local_body}
use Rattle.grammar_laws.proofs.Faults.Sequences.{local_declarations, local_sequence, each_inside}

pub local_declarations_at : (left : ℕ) → Local (declarations_at left)
local_declarations_at left = local_declarations left (inside_of left) (each_inside left) (inside_of (below left)) (each_inside (below left))

behind_pragma : (left : ℕ) (place : Place)
    → Local {A = Pragma}
    (an_identifier
    >>= (λ name. opening_of left
    >>= (λ at. separated_of (codes ",") (argument_of left (inner_of left))
    >>= (λ arguments.
    the_delimiter (codes ")") >>= (λ closing. the_delimiter (codes ";") >>= (λ end. pure (record { place = place; name = name; arguments = arguments })))))))
behind_pragma zero place = local_then local_identifier (λ name. local_stuck_then _ (local_opening zero) never_opens)
behind_pragma (suc left) place =
    local_then local_identifier
    (λ name. local_then (local_opening (suc left))
    (λ at. local_then (local_separated _ (local_argument (suc left) (inner_of (suc left)) (inside_inner (suc left)) (inside_inner (suc left)).passes))
    (λ arguments. local_then (local_delimiter _) (λ closing. local_then (local_delimiter _) (λ end. local_pure _)))))

pub local_pragma : (left : ℕ) → Local (pragma_of left)
unfolding pragma_of
local_pragma left = local_then (local_word _) (behind_pragma left)

pub eats_pragma : (left : ℕ) → Eats (pragma_of left)
unfolding pragma_of
eats_pragma left = eats_first (eats_word _) (behind_pragma left)

pub local_with : Local with_of
unfolding with_of
local_with = local_then (local_word _) (λ place. local_then (local_names _) (λ names. local_then (local_delimiter _) (λ _. local_pure _)))

pub eats_with : Eats with_of
unfolding with_of
eats_with = eats_first (eats_word _) (λ place. local_then (local_names _) (λ names. local_then (local_delimiter _) (λ _. local_pure _)))

pub local_use_clause : Local use_clause_of
unfolding use_clause_of
local_use_clause = local_then (local_word _) (λ place. local_then (local_names _) (λ names. local_then (local_delimiter _) (λ _. local_pure _)))

pub eats_use_clause : Eats use_clause_of
unfolding use_clause_of
eats_use_clause = eats_first (eats_word _) (λ place. local_then (local_names _) (λ names. local_then (local_delimiter _) (λ _. local_pure _)))

pub local_clause : Local clause_of
unfolding clause_of
local_clause = local_choose (head_starts _) local_use_clause local_with

pub eats_clause : Eats clause_of
unfolding clause_of
eats_clause = eats_choose _ eats_use_clause eats_with

pub head_begins_clause : Head begins_clause
head_begins_clause = head_or (head_starts _) (head_starts _)

pub local_context : Local context_of
unfolding context_of
local_context = local_items head_begins_clause local_clause eats_clause

pub local_private_part : (left : ℕ) → Local (private_part_of left)
unfolding private_part_of
local_private_part left =
    local_choose (head_starts _) (local_then (local_word _) (λ _. local_then (local_declarations_at left) (λ hidden. local_pure _))) (local_pure _)

pub local_package_declaration : (left : ℕ) (place : Place) → Local (package_declaration_of left place)
unfolding package_declaration_of
local_package_declaration left place =
    local_then local_identifier
    (λ name. local_then (local_word _)
    (λ _. local_then (local_declarations_at left)
    (λ visible. local_then (local_private_part left)
    (λ hidden. local_then (local_word _) (λ _. local_then (local_end_name _) (λ named. local_then (local_delimiter _) (λ _. local_pure _)))))))

pub local_package_statements : (left : ℕ) → Local (package_statements_of left)
unfolding package_statements_of
local_package_statements left =
    local_choose (head_starts _) (local_then (local_word _) (λ _. local_then (local_sequence left role.Handled) (λ inside. local_pure _))) (local_pure _)

pub local_package_body : (left : ℕ) (place : Place) → Local (package_body_of left place)
unfolding package_body_of
local_package_body left place =
    local_then (local_word _)
    (λ _. local_then local_identifier
    (λ name. local_then (local_opening_is left)
    (λ _. local_then (local_declarations_at (below left))
    (λ before. local_then (local_package_statements (below left))
    (λ inside. local_then (local_word _) (λ _. local_then (local_end_name _) (λ named. local_then (local_delimiter _) (λ _. local_pure _))))))))

pub local_package : (left : ℕ) → Local (package_of left)
unfolding package_of
local_package left = local_then (local_word _) (λ place. local_choose (head_starts _) (local_package_body left place) (local_package_declaration left place))

pub eats_package : (left : ℕ) → Eats (package_of left)
unfolding package_of
eats_package left = eats_first (eats_word _) (λ place. local_choose (head_starts _) (local_package_body left place) (local_package_declaration left place))

-- ---- packages: the fuel is the number of tokens, and each package has one at least

abbrev pub Packages : Type 0
Packages = List LibraryPackage × List ContextClause

abbrev next_package : ℕ → ℕ → List LibraryPackage → List ContextClause → Parser Packages
next_package left fuel found context =
    package_of left >>= (λ package_read. packages_from left fuel (found ++ record { context = context; «package» = package_read } ∷ []))

abbrev behind_context : ℕ → ℕ → List LibraryPackage → List ContextClause → Parser Packages
behind_context left fuel found context = choose (sees_word (codes "package")) (next_package left fuel found context) (pure (found, context))

packages_within : (left fuel : ℕ) (found : List LibraryPackage) (ls : List Lexeme) → Within (length ls) (packages_from left fuel found ls)
unfolding packages_from
packages_within left zero found ls =
    then_within (λ context. pure (found, context)) (length ls) (context_of ls) (λ context. local_pure (found, context)) (local_context.within ls)
packages_within left (suc fuel) found ls = next_within (behind_context left fuel found) (length ls) (context_of ls)
    (λ context m. if_within (length m) (sees_word (codes "package") m) (next_package left fuel found context m) (Ok ((found, context), m))
    (next_within (λ package_read. packages_from left fuel (found ++ record { context = context; «package» = package_read } ∷ [])) (length m) (package_of left m)
    (λ package_read k. packages_within left fuel (found ++ record { context = context; «package» = package_read } ∷ []) k) ((local_package left).within m))
    (omega arith))
    (local_context.within ls)

module _ (x : Lexeme) (r s : List Lexeme) where
  packages_move : (left fuel other : ℕ) (found : List LibraryPackage) (c : List Lexeme) → length (c ++ x ∷ r) ≤ fuel → length (c ++ x ∷ s) ≤ other
      → Moves x r s (packages_from left fuel found (c ++ x ∷ r)) (packages_from left other found (c ++ x ∷ s))
  unfolding packages_from
  packages_move left zero other found c enough again = absurd (none x r c enough)
  packages_move left (suc fuel) zero found c enough again = absurd (none x s c again)
  packages_move left (suc fuel) (suc other) found c enough again =
      then_two x r s (behind_context left fuel found) (behind_context left other found) (context_of (c ++ x ∷ r)) (context_of (c ++ x ∷ s))
      (local_context.moves c x r s)
      (λ context m. if_within (length m) (sees_word (codes "package") m) (next_package left fuel found context m) (Ok ((found, context), m))
      (next_within (λ package_read. packages_from left fuel (found ++ record { context = context; «package» = package_read } ∷ [])) (length m)
      (package_of left m)
      (λ package_read k. packages_within left fuel (found ++ record { context = context; «package» = package_read } ∷ []) k) ((local_package left).within m))
      (omega arith))
      (λ context d is is_again. subst
      (λ (b : Bool). Moves x r s (behind_context left fuel found context (d ++ x ∷ r))
      (if b then next_package left other found context (d ++ x ∷ s) else Ok ((found, context), d ++ x ∷ s)))
      (head_at (head_starts _) d x r s)
      (if_moves x r s (sees_word (codes "package") (d ++ x ∷ r)) (next_package left fuel found context (d ++ x ∷ r)) (Ok ((found, context), d ++ x ∷ r))
      (next_package left other found context (d ++ x ∷ s)) (Ok ((found, context), d ++ x ∷ s))
      (then_two x r s (λ package_read. packages_from left fuel (found ++ record { context = context; «package» = package_read } ∷ []))
      (λ package_read. packages_from left other (found ++ record { context = context; «package» = package_read } ∷ []))
      (package_of left (d ++ x ∷ r)) (package_of left (d ++ x ∷ s)) ((local_package left).moves d x r s)
      (λ package_read k. packages_within left fuel (found ++ record { context = context; «package» = package_read } ∷ []) k)
      (λ package_read e is_read read_again. packages_move left fuel other (found ++ record { context = context; «package» = package_read } ∷ []) e
      (omega (
        arith,
        (eats_package left).less (d ++ x ∷ r) package_read (e ++ x ∷ r) is_read,
        ok_within (length (c ++ x ∷ r)) (context_of (c ++ x ∷ r)) context (d ++ x ∷ r) (local_context.within (c ++ x ∷ r)) is,
        enough,
      ))
      (omega (
        arith,
        (eats_package left).less (d ++ x ∷ s) package_read (e ++ x ∷ s) read_again,
        ok_within (length (c ++ x ∷ s)) (context_of (c ++ x ∷ s)) context (d ++ x ∷ s) (local_context.within (c ++ x ∷ s)) is_again,
        again,
      ))))
      (inl (record { front = d; is = refl; same = refl }))))

pub local_packages : (left : ℕ) → Local (packages_of left)
unfolding packages_of
local_packages left = record {
  within = λ ls. packages_within left (length ls) [] ls;
  moves = λ c x r s. packages_move x r s left (length (c ++ x ∷ r)) (length (c ++ x ∷ s)) [] c (omega arith) (omega arith);
}

pub local_main : (left : ℕ) → Local (main_of left)
unfolding main_of
local_main left =
    local_then (local_word _)
    (λ place. local_then local_identifier
    (λ name. local_then (local_aspects left) (λ aspects. local_then (local_body left (inside_of left) (each_inside left) name.text) (λ body. local_pure _))))

finished_within : (unit : Tree) (ls : List Lexeme) → Within (length ls) (finished unit ls)
finished_within unit [] = omega arith
finished_within unit (l ∷ ls) = omega arith

finished_moves : (unit : Tree) (c : List Lexeme) (x : Lexeme) (r s : List Lexeme) → Moves x r s (finished unit (c ++ x ∷ r)) (finished unit (c ++ x ∷ s))
finished_moves unit [] x r s = inl (record { front = []; is = refl; same = refl })
finished_moves unit (y ∷ c) x r s = inl (record { front = y ∷ c; is = refl; same = refl })

pub local_finished : (unit : Tree) → Local (finished unit)
local_finished unit = record { within = finished_within unit; moves = finished_moves unit }

pub local_source : (left : ℕ) → Local (source_of left)
unfolding source_of
local_source left =
    local_then (local_items (head_starts _) (local_pragma left) (eats_pragma left))
    (λ pragmas. local_then (local_packages left) (λ before. local_then (local_main left) (λ main. local_finished _)))
