-- A loop that reads packages, each with its context: what each way out of it has read.
use Rattle.std.proofs.Common.{◌≡◌, ℕ, zero, suc, ◌+◌, ◌-◌, ◌<◌, ◌≤◌, true, false, List, [], ◌∷◌, ◌++◌, Ok, Err, codes, refl, sym, ◌∙◌}
use Rattle.ada_tree.specs.declared.units.ContextClause.{ContextClause}
use Rattle.ada_tree.specs.declared.units.LibraryPackage.{LibraryPackage}
use Rattle.ada_tree.specs.declared.units.Package.{Package}
use Rattle.ada_tree.specs.Written.{Lexeme}
use Rattle.ann_base.specs.declared.faults.OrMemory.{OrMemory}
use Rattle.ann_base.specs.declared.faults.OrMemory.TheVariants as answer
use Rattle.ada_grammar.specs.declared.stuck.Stuck.{Stuck}
use Rattle.ada_grammar.specs.Reading.{Read, sees_word}
use Rattle.ada_expressions.proofs.Turns.{Stopped, one_more, no_more}
use Rattle.ada_grammar.specs.ReadingUnits.{context_of, package_of, packages_from}

abbrev pub Packages : Type 0
Packages = List LibraryPackage × List ContextClause

module _ (left : ℕ) where
  context_stops_at : (fuel : ℕ) (found : List LibraryPackage) (ls : List Lexeme) (why : Stuck) → context_of ls ≡ Err why
      → packages_from left fuel found ls ≡ Err why
  unfolding packages_from
  context_stops_at zero found ls why e = rw e refl
  context_stops_at (suc fuel) found ls why e = rw e refl

  pub context_stops : (fuel : ℕ) (found : List LibraryPackage) (ls : List Lexeme) (why : OrMemory Stuck) (whole : Read Packages) → Stopped why (context_of ls)
      → packages_from left fuel found ls ≡ whole → Stopped why whole
  context_stops fuel found ls answer.Memory whole e is = tt
  context_stops fuel found ls (answer.Fault why) whole e is = sym is ∙ context_stops_at fuel found ls why e

  ends_at : (fuel : ℕ) (found : List LibraryPackage) (context : List ContextClause) (ls m : List Lexeme) → context_of ls ≡ Ok (context, m)
      → sees_word (codes "package") m ≡ false
      → packages_from left fuel found ls ≡ Ok ((found, context), m)
  unfolding packages_from
  ends_at zero found context ls m e f = rw e refl
  ends_at (suc fuel) found context ls m e f = rw (e, f) refl

  pub no_package : (fuel : ℕ) (found : List LibraryPackage) (context : List ContextClause) (ls m : List Lexeme) (whole : Read Packages)
      → context_of ls ≡ Ok (context, m)
      → sees_word (codes "package") m ≡ false → packages_from left fuel found ls ≡ whole → whole ≡ Ok ((found, context), m)
  no_package fuel found context ls m whole e f is = sym is ∙ ends_at fuel found context ls m e f

  last_at : (found : List LibraryPackage) (context : List ContextClause) (ls m : List Lexeme) → context_of ls ≡ Ok (context, m)
      → packages_from left 0 found ls ≡ Ok ((found, context), m)
  unfolding packages_from
  last_at found context ls m e = rw e refl

  pub last_context : (turn end : ℕ) (found : List LibraryPackage) (context : List ContextClause) (ls m : List Lexeme) (whole : Read Packages) → end ≤ turn
      → context_of ls ≡ Ok (context, m) → packages_from left (end - turn) found ls ≡ whole → whole ≡ Ok ((found, context), m)
  last_context turn end found context ls m whole p e is =
      sym (no_more (λ n. packages_from left n found ls) whole turn end p is) ∙ last_at found context ls m e

  goes_on : (fuel : ℕ) (found : List LibraryPackage) (context : List ContextClause) (package_read : Package) (ls m n : List Lexeme)
      → context_of ls ≡ Ok (context, m)
      → sees_word (codes "package") m ≡ true → package_of left m ≡ Ok (package_read, n)
      → packages_from left (suc fuel) found ls ≡ packages_from left fuel (found ++ record { context = context; «package» = package_read } ∷ []) n
  unfolding packages_from
  goes_on fuel found context package_read ls m n e f h = rw (e, f, h) refl

  pub one_package : (turn end : ℕ) (found : List LibraryPackage) (context : List ContextClause) (package_read : Package) (ls m n : List Lexeme)
      (whole : Read Packages)
      → turn < end
      → context_of ls ≡ Ok (context, m) → sees_word (codes "package") m ≡ true → package_of left m ≡ Ok (package_read, n)
      → packages_from left (end - turn) found ls ≡ whole
      → packages_from left (end - (turn + 1)) (found ++ record { context = context; «package» = package_read } ∷ []) n ≡ whole
  one_package turn end found context package_read ls m n whole p e f h is =
      sym (goes_on (end - (turn + 1)) found context package_read ls m n e f h) ∙ one_more (λ k. packages_from left k found ls) whole turn end p is

  package_stops_at : (fuel : ℕ) (found : List LibraryPackage) (context : List ContextClause) (ls m : List Lexeme) (why : Stuck)
      → context_of ls ≡ Ok (context, m)
      → sees_word (codes "package") m ≡ true → package_of left m ≡ Err why → packages_from left (suc fuel) found ls ≡ Err why
  unfolding packages_from
  package_stops_at fuel found context ls m why e f h = rw (e, f, h) refl

  pub package_stops : (turn end : ℕ) (found : List LibraryPackage) (context : List ContextClause) (ls m : List Lexeme) (why : OrMemory Stuck)
      (whole : Read Packages)
      → turn < end
      → context_of ls ≡ Ok (context, m) → sees_word (codes "package") m ≡ true → Stopped why (package_of left m)
      → packages_from left (end - turn) found ls ≡ whole → Stopped why whole
  package_stops turn end found context ls m answer.Memory whole p e f h is = tt
  package_stops turn end found context ls m (answer.Fault why) whole p e f h is =
      sym (one_more (λ k. packages_from left k found ls) whole turn end p is) ∙ package_stops_at (end - (turn + 1)) found context ls m why e f h
