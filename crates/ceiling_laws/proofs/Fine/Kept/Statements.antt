-- Simple and compound statements: each step keeps what its parts keep.
use Rattle.ceiling_laws.proofs.Fine.Kept.Frames.{Gives, bind-gives, exit_loop-keeps, given-keeps, given_world-keeps}
use Rattle.ceiling_laws.proofs.Fine.Kept.Frames.{goes-keeps, ok-gives, raises-keeps, with_room-keeps}
use Rattle.ceiling_laws.proofs.Fine.Kept.Scopes.{cells-same, copy_cells-same, open_scope-alters, put-same, write_cell-alters}
use Rattle.ceiling_laws.proofs.Fine.Kept.Tasks.{says-keeps}
use Rattle.ceiling_laws.proofs.Fine.LevelMoves.{Silences}
use Rattle.ceiling_laws.proofs.Fine.SameLemmas.{same_then}
use Rattle.ceiling_laws.proofs.Runs.Triples.{Keeps, State, changes-keeps, looks-keeps, looks-with, sees-keeps, then-keeps}
use Rattle.profile_machine.specs.CallEnds.{store}
use Rattle.profile_machine.specs.Frames.{goes}
use Rattle.profile_machine.specs.Operators.{Valued, checked}
use Rattle.profile_image.specs.Program.{declaration_of, next_of}
use Rattle.profile_machine.specs.Scopes.{write_cell}
use Rattle.profile_machine.specs.Statements.{advance, array_copied, assign, assign_array, block_statement, bounds_set, case_statement, copy_cells}
use Rattle.profile_machine.specs.Statements.{exit_statement, exit_where, first_bound, first_turn, for_bounds, go_to_alternative, if_statement}
use Rattle.profile_machine.specs.Statements.{last_bound, later_turn, loop_cell, null, put, put_line, raise_again, text_of_pieces, while_turn}
use Rattle.profile_machine.specs.Values.{Seen, object_cell, seen_by, value, variable}
use Rattle.profile_image.specs.declared.expressions.ObjectName.{ObjectName}
use Rattle.profile_image.specs.declared.expressions.VariableName.{VariableName}
use Rattle.profile_image.specs.declared.image.Image.{Image}
use Rattle.profile_image.specs.declared.numbers.DeclNo.{DeclNo}
use Rattle.profile_image.specs.declared.numbers.ExprNo.{ExprNo}
use Rattle.profile_image.specs.declared.numbers.ScopeNo.{ScopeNo}
use Rattle.profile_image.specs.declared.numbers.StatementNo.{StatementNo}
use Rattle.profile_image.specs.declared.statements.CaseAlternative.{CaseAlternative}
use Rattle.profile_image.specs.declared.statements.Piece.{Piece}
use Rattle.profile_image.specs.declared.values.Value.{Value}
use Rattle.profile_machine.specs.declared.world.World.{World}
use Rattle.profile_machine.specs.declared.world.lines.Line.TheVariants as line
use Rattle.profile_machine.specs.declared.world.lines.Part.TheVariants.{Own}
use Rattle.profile_machine.specs.declared.world.scopes.Variable.{Variable}
use Rattle.std.proofs.Common.{refl}
use Rattle.std.specs.Prelude.{Bool, List, None, Ok, Option, Some, false, slice_set, true}
use Rattle.ann_base.specs.Results.{◌>>=◌}
use Rattle.trace_text.specs.declared.events.Who.{Who}

pub store-gives : (p : Image) (v : Variable) (value : Value) (w : World) → Gives w (store p v value w)
store-gives p v value w =
    bind-gives (checked (declaration_of p v.declared).constraint value) (λ x. Ok (write_cell v.within v.place x w)) w
    (λ x. ok-gives w (write_cell v.within v.place x w) (cells-same v.within (λ cells. slice_set cells v.place x) w))

array_copied-gives : (p : Image) (q : Seen) (target source : ObjectName) → Gives q.world (array_copied p q target source)
array_copied-gives p q target source =
    bind-gives (object_cell q target) (λ t. object_cell q source >>= λ f. Ok (copy_cells p t f q.world)) q.world (λ t.
    bind-gives (object_cell q source) (λ f. Ok (copy_cells p t f q.world)) q.world (λ f.
    ok-gives q.world (copy_cells p t f q.world) (copy_cells-same p t f q.world)))

unfoldable pub bounds_put : Seen → Bool → Value → Value → Variable → Variable → Valued World
bounds_put q reverse l h x y = Ok (put y (last_bound reverse l h) (put x (first_bound reverse l h) q.world))

bounds_put-gives : (q : Seen) (reverse : Bool) (l h : Value) (x y : Variable) → Gives q.world (bounds_put q reverse l h x y)
unfolding bounds_put
bounds_put-gives q reverse l h x y =
    let first = put x (first_bound reverse l h) q.world in
    ok-gives q.world (put y (last_bound reverse l h) first)
    (same_then q.world first (put y (last_bound reverse l h) first) (put-same x (first_bound reverse l h) q.world)
    (put-same y (last_bound reverse l h) first))

bounds_set-gives : (q : Seen) (d : DeclNo) (reverse : Bool) (low high : ExprNo) → Gives q.world (bounds_set q d reverse low high)
unfolding bounds_put
bounds_set-gives q d reverse low high =
    bind-gives (value q low) (λ l. value q high >>= λ h. loop_cell q d 0 >>= λ x. loop_cell q d 1 >>= bounds_put q reverse l h x) q.world (λ l.
    bind-gives (value q high) (λ h. loop_cell q d 0 >>= λ x. loop_cell q d 1 >>= bounds_put q reverse l h x) q.world (λ h.
    bind-gives (loop_cell q d 0) (λ x. loop_cell q d 1 >>= bounds_put q reverse l h x) q.world (λ x.
    bind-gives (loop_cell q d 1) (bounds_put q reverse l h x) q.world (λ y. bounds_put-gives q reverse l h x y))))

module _ {X : State} (quiet : Silences X) where
  pub null-keeps : (p : Image) (name : Who) (s : StatementNo) → Keeps X (null p name s)
  unfolding null
  null-keeps p name s = goes-keeps quiet name (next_of p s)

  pub assign-keeps : (p : Image) (name : Who) (s : StatementNo) (target : VariableName) (e : ExprNo) → Keeps X (assign p name s target e)
  unfolding assign
  assign-keeps p name s target e =
      looks-with _ (λ w said h. let q = seen_by p w name in
      given_world-keeps quiet Own name w (variable q target >>= λ v. value q e >>= λ x. store p v x w) (λ _. goes name (next_of p s))
      (bind-gives (variable q target) (λ v. value q e >>= λ x. store p v x w) w (λ v. bind-gives (value q e) (λ x. store p v x w) w (λ x. store-gives p v x w)))
      (λ _. goes-keeps quiet name (next_of p s)))

  pub assign_array-keeps : (p : Image) (name : Who) (s : StatementNo) (target source : ObjectName) → Keeps X (assign_array p name s target source)
  unfolding assign_array
  assign_array-keeps p name s target source =
      looks-with _ (λ w said h.
      given_world-keeps quiet Own name w (array_copied p (seen_by p w name) target source) (λ _. goes name (next_of p s))
      (array_copied-gives p (seen_by p w name) target source) (λ _. goes-keeps quiet name (next_of p s)))

  pub if_statement-keeps : (p : Image) (name : Who) (e : ExprNo) (first : StatementNo) (otherwise : Option StatementNo)
      → Keeps X (if_statement p name e first otherwise)
  unfolding if_statement
  if_statement-keeps p name e first otherwise = search (sees-keeps, given-keeps, goes-keeps) depth 6

  go_to_alternative-keeps : (name : Who) (first : Option StatementNo) → Keeps X (go_to_alternative name first)
  unfolding go_to_alternative
  go_to_alternative-keeps name None = search (raises-keeps)
  go_to_alternative-keeps name (Some s) = search (goes-keeps)

  pub case_statement-keeps : (p : Image) (name : Who) (e : ExprNo) (alternatives : List CaseAlternative) → Keeps X (case_statement p name e alternatives)
  unfolding case_statement
  case_statement-keeps p name e alternatives = search (sees-keeps, given-keeps, go_to_alternative-keeps) depth 6

  pub while_turn-keeps : (p : Image) (name : Who) (s : StatementNo) (e : ExprNo) (body : StatementNo) → Keeps X (while_turn p name s e body)
  unfolding while_turn
  while_turn-keeps p name s e body = search (sees-keeps, given-keeps, goes-keeps) depth 6

  pub for_bounds-keeps : (p : Image) (name : Who) (d : DeclNo) (reverse : Bool) (low high : ExprNo) (turn : StatementNo)
      → Keeps X (for_bounds p name d reverse low high turn)
  unfolding for_bounds
  for_bounds-keeps p name d reverse low high turn =
      looks-with _ (λ w said h.
      given_world-keeps quiet Own name w (bounds_set (seen_by p w name) d reverse low high) (λ _. goes name (Some turn))
      (bounds_set-gives (seen_by p w name) d reverse low high) (λ _. goes-keeps quiet name (Some turn)))

  pub first_turn-keeps : (p : Image) (name : Who) (s : StatementNo) (d : DeclNo) (reverse : Bool) (body : StatementNo)
      → Keeps X (first_turn p name s d reverse body)
  unfolding first_turn
  first_turn-keeps p name s d reverse body = search (sees-keeps, given-keeps, goes-keeps) depth 6

  pub advance-keeps : (name : Who) (x : Variable) (reverse : Bool) (v : Value) (body : StatementNo) (past : Option StatementNo) (test : Bool)
      → Keeps X (advance name x reverse v body past test)
  unfolding advance
  advance-keeps name x reverse v body past true = search (goes-keeps)
  advance-keeps name x reverse v body past false =
      then-keeps _ _ (changes-keeps _ (write_cell-alters quiet x.within x.place _)) (goes-keeps quiet name (Some body))

  pub later_turn-keeps : (p : Image) (name : Who) (s : StatementNo) (d : DeclNo) (reverse : Bool) (body : StatementNo)
      → Keeps X (later_turn p name s d reverse body)
  unfolding later_turn
  later_turn-keeps p name s d reverse body = search (sees-keeps, given-keeps, advance-keeps) depth 6

  pub exit_where-keeps : (p : Image) (name : Who) (s loop : StatementNo) (test : Bool) → Keeps X (exit_where p name s loop test)
  unfolding exit_where
  exit_where-keeps p name s loop true = search (exit_loop-keeps)
  exit_where-keeps p name s loop false = search (goes-keeps)

  pub exit_statement-keeps : (p : Image) (name : Who) (s loop : StatementNo) (e : Option ExprNo) → Keeps X (exit_statement p name s loop e)
  unfolding exit_statement
  exit_statement-keeps p name s loop None = search (exit_loop-keeps)
  exit_statement-keeps p name s loop (Some e) = search (sees-keeps, given-keeps, exit_where-keeps) depth 6

  pub raise_again-keeps : (p : Image) (name : Who) (scope : ScopeNo) → Keeps X (raise_again p name scope)
  unfolding raise_again
  raise_again-keeps p name scope = search (sees-keeps, given-keeps, raises-keeps) depth 6

  pub put_line-keeps : (p : Image) (name : Who) (s : StatementNo) (pieces : List Piece) → Keeps X (put_line p name s pieces)
  unfolding put_line
  put_line-keeps p name s pieces =
      sees-keeps p name _
      (λ q. given-keeps quiet Own name (text_of_pieces q pieces) _
      (λ text. then-keeps _ _ (goes-keeps quiet name (next_of p s)) (says-keeps quiet Own (line.Put name text) refl)))

  pub block_statement-keeps : (p : Image) (name : Who) (s : StatementNo) (scope : ScopeNo) → Keeps X (block_statement p name s scope)
  unfolding block_statement
  block_statement-keeps p name s scope = search (with_room-keeps, goes-keeps, then-keeps, looks-keeps, changes-keeps, open_scope-alters) depth 7
