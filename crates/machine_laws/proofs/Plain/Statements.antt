-- Simple and compound statements: each step keeps a relation that its parts keep.
use Rattle.std.specs.Prelude.{Bool, true, false, List, Option, Some, None, Ok}
use Rattle.ann_base.specs.Results.{◌>>=◌}
use Rattle.trace_text.specs.declared.events.Who.{Who}
use Rattle.profile_image.specs.declared.image.Image.{Image}
use Rattle.profile_image.specs.declared.numbers.DeclNo.{DeclNo}
use Rattle.profile_image.specs.declared.numbers.ExprNo.{ExprNo}
use Rattle.profile_image.specs.declared.numbers.ScopeNo.{ScopeNo}
use Rattle.profile_image.specs.declared.numbers.StatementNo.{StatementNo}
use Rattle.profile_image.specs.declared.expressions.ObjectName.{ObjectName}
use Rattle.profile_image.specs.declared.expressions.VariableName.{VariableName}
use Rattle.profile_image.specs.declared.statements.CaseAlternative.{CaseAlternative}
use Rattle.profile_image.specs.declared.values.Value.{Value}
use Rattle.profile_machine.specs.declared.world.World.{World}
use Rattle.profile_machine.specs.declared.world.scopes.Variable.{Variable}
use Rattle.profile_image.specs.Program.{next_of}
use Rattle.profile_machine.specs.declared.world.lines.Part.TheVariants.{Own}
use Rattle.profile_machine.specs.Frames.{goes}
use Rattle.profile_machine.specs.Operators.{Valued}
use Rattle.profile_machine.specs.Values.{Seen, seen_by, value, variable, object_cell}
use Rattle.profile_machine.specs.CallEnds.{store}
use Rattle.profile_machine.specs.Statements.{null, assign, copy_cells, array_copied, assign_array, if_statement, go_to_alternative}
use Rattle.profile_machine.specs.Statements.{case_statement, while_turn, loop_cell, put, first_bound, last_bound, bounds_set}
use Rattle.profile_machine.specs.Statements.{for_bounds, first_turn, advance, later_turn, exit_where, exit_statement, raise_again}
use Rattle.machine_laws.proofs.Moves.{StepRelation}
use Rattle.machine_laws.proofs.FineMoves.{GoodWorld, Naming}
use Rattle.machine_laws.proofs.Kept.Combinators.{Alters, Gives, Keeps, bind-gives, changes-keeps, looks-from, ok-gives, sees-keeps, then-keeps}
use Rattle.machine_laws.proofs.Plain.Cells.{copy_cells-alters, store-gives, write_cell-alters}
use Rattle.machine_laws.proofs.Plain.Frames.{exit_loop-keeps, given-keeps, given_world-from, raises-keeps}
use Rattle.machine_laws.proofs.Plain.PlainSteps.{PlainSteps}

module _ {G : GoodWorld} {Goes : Naming} {R : StepRelation} (plain : PlainSteps G Goes R) where
  pub null-keeps : (p : Image) (name : Who) (s : StatementNo) → Goes name → Keeps G R (null p name s)
  unfolding null
  null-keeps p name s may = search (plain.goes)

  pub assign-keeps : (p : Image) (name : Who) (s : StatementNo) (target : VariableName) (e : ExprNo) → Goes name → Keeps G R (assign p name s target e)
  unfolding assign
  assign-keeps p name s target e may =
      looks-from plain.chains _ (λ w good. let q = seen_by p w name in
      given_world-from plain Own name (variable q target >>= λ v. value q e >>= λ x. store p v x w) (λ _. goes name (next_of p s)) w good
      (bind-gives plain.chains (variable q target) (λ v. value q e >>= λ x. store p v x w) w
      (λ v. bind-gives plain.chains (value q e) (λ x. store p v x w) w (λ x. store-gives plain p v x w good)))
      (λ _. plain.goes name (next_of p s) may))

  array_copied-gives : (p : Image) (q : Seen) (target source : ObjectName) → G q.world → Gives R q.world (array_copied p q target source)
  unfolding Alters
  array_copied-gives p q target source good =
      bind-gives plain.chains (object_cell q target) (λ t. object_cell q source >>= λ f. Ok (copy_cells p t f q.world)) q.world (λ t.
      bind-gives plain.chains (object_cell q source) (λ f. Ok (copy_cells p t f q.world)) q.world (λ f.
      ok-gives plain.chains q.world (copy_cells p t f q.world) (copy_cells-alters plain p t f q.world good)))

  pub assign_array-keeps : (p : Image) (name : Who) (s : StatementNo) (target source : ObjectName) → Goes name → Keeps G R (assign_array p name s target source)
  unfolding assign_array
  assign_array-keeps p name s target source may =
      looks-from plain.chains _ (λ w good.
      given_world-from plain Own name (array_copied p (seen_by p w name) target source) (λ _. goes name (next_of p s)) w good
      (array_copied-gives p (seen_by p w name) target source good) (λ _. plain.goes name (next_of p s) may))

  pub if_statement-keeps : (p : Image) (name : Who) (e : ExprNo) (first : StatementNo) (otherwise : Option StatementNo) → Goes name
      → Keeps G R (if_statement p name e first otherwise)
  unfolding if_statement
  if_statement-keeps p name e first otherwise may = search (sees-keeps, given-keeps, plain.goes, plain.chains) depth 7

  go_to_alternative-keeps : (name : Who) (first : Option StatementNo) → Goes name → Keeps G R (go_to_alternative name first)
  unfolding go_to_alternative
  go_to_alternative-keeps name None may = search (raises-keeps)
  go_to_alternative-keeps name (Some s) may = search (plain.goes)

  pub case_statement-keeps : (p : Image) (name : Who) (e : ExprNo) (alternatives : List CaseAlternative) → Goes name
      → Keeps G R (case_statement p name e alternatives)
  unfolding case_statement
  case_statement-keeps p name e alternatives may = search (sees-keeps, given-keeps, go_to_alternative-keeps, plain.chains) depth 7

  pub while_turn-keeps : (p : Image) (name : Who) (s : StatementNo) (e : ExprNo) (body : StatementNo) → Goes name → Keeps G R (while_turn p name s e body)
  unfolding while_turn
  while_turn-keeps p name s e body may = search (sees-keeps, given-keeps, plain.goes, plain.chains) depth 7

  pub put-alters : (v : Variable) (x : Value) → Alters G R (put v x)
  put-alters v x = search (write_cell-alters)

  bounds_put : Seen → Bool → Value → Value → Variable → Variable → Valued World
  bounds_put q reverse l h x y = Ok (put y (last_bound reverse l h) (put x (first_bound reverse l h) q.world))

  bounds_put-gives : (q : Seen) (reverse : Bool) (l h : Value) (x y : Variable) → G q.world → Gives R q.world (bounds_put q reverse l h x y)
  unfolding bounds_put Alters
  bounds_put-gives q reverse l h x y good =
      let first = put x (first_bound reverse l h) q.world in
      let begun = put-alters x (first_bound reverse l h) q.world good in
      ok-gives plain.chains q.world (put y (last_bound reverse l h) first)
      (plain.chains.goes_on q.world first (put y (last_bound reverse l h) first) begun
      (put-alters y (last_bound reverse l h) first (plain.chains.behind q.world first begun)))

  bounds_set-gives : (q : Seen) (d : DeclNo) (reverse : Bool) (low high : ExprNo) → G q.world → Gives R q.world (bounds_set q d reverse low high)
  unfolding bounds_put
  bounds_set-gives q d reverse low high good =
      bind-gives plain.chains (value q low) (λ l. value q high >>= λ h. loop_cell q d 0 >>= λ x. loop_cell q d 1 >>= bounds_put q reverse l h x) q.world (λ l.
      bind-gives plain.chains (value q high) (λ h. loop_cell q d 0 >>= λ x. loop_cell q d 1 >>= bounds_put q reverse l h x) q.world (λ h.
      bind-gives plain.chains (loop_cell q d 0) (λ x. loop_cell q d 1 >>= bounds_put q reverse l h x) q.world (λ x.
      bind-gives plain.chains (loop_cell q d 1) (bounds_put q reverse l h x) q.world (λ y. bounds_put-gives q reverse l h x y good))))

  pub for_bounds-keeps : (p : Image) (name : Who) (d : DeclNo) (reverse : Bool) (low high : ExprNo) (turn : StatementNo) → Goes name
      → Keeps G R (for_bounds p name d reverse low high turn)
  unfolding for_bounds
  for_bounds-keeps p name d reverse low high turn may =
      looks-from plain.chains _ (λ w good.
      given_world-from plain Own name (bounds_set (seen_by p w name) d reverse low high) (λ _. goes name (Some turn)) w good
      (bounds_set-gives (seen_by p w name) d reverse low high good) (λ _. plain.goes name (Some turn) may))

  pub first_turn-keeps : (p : Image) (name : Who) (s : StatementNo) (d : DeclNo) (reverse : Bool) (body : StatementNo) → Goes name
      → Keeps G R (first_turn p name s d reverse body)
  unfolding first_turn
  first_turn-keeps p name s d reverse body may = search (sees-keeps, given-keeps, plain.goes, plain.chains) depth 7

  pub advance-keeps : (name : Who) (x : Variable) (reverse : Bool) (v : Value) (body : StatementNo) (past : Option StatementNo) (test : Bool) → Goes name
      → Keeps G R (advance name x reverse v body past test)
  unfolding advance
  advance-keeps name x reverse v body past true may = search (plain.goes)
  advance-keeps name x reverse v body past false may = search (changes-keeps, put-alters, then-keeps, plain.goes, plain.chains)

  pub later_turn-keeps : (p : Image) (name : Who) (s : StatementNo) (d : DeclNo) (reverse : Bool) (body : StatementNo) → Goes name
      → Keeps G R (later_turn p name s d reverse body)
  unfolding later_turn
  later_turn-keeps p name s d reverse body may = search (sees-keeps, given-keeps, advance-keeps, plain.chains) depth 7

  pub exit_where-keeps : (p : Image) (name : Who) (s loop : StatementNo) (test : Bool) → Goes name → Keeps G R (exit_where p name s loop test)
  unfolding exit_where
  exit_where-keeps p name s loop true may = search (exit_loop-keeps)
  exit_where-keeps p name s loop false may = search (plain.goes)

  pub exit_statement-keeps : (p : Image) (name : Who) (s loop : StatementNo) (e : Option ExprNo) → Goes name → Keeps G R (exit_statement p name s loop e)
  unfolding exit_statement
  exit_statement-keeps p name s loop None may = search (exit_loop-keeps)
  exit_statement-keeps p name s loop (Some e) may = search (sees-keeps, given-keeps, exit_where-keeps, plain.chains) depth 7

  pub raise_again-keeps : (p : Image) (name : Who) (scope : ScopeNo) → Keeps G R (raise_again p name scope)
  unfolding raise_again
  raise_again-keeps p name scope = search (sees-keeps, given-keeps, raises-keeps, plain.chains) depth 7
