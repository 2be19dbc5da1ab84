-- Simple and compound statements (clauses 5, 6.5, 9.6, 11.3, A.10.7).
use Rattle.std.specs.Prelude.{ℕ, ◌+◌, ◌-◌, ℤ, pos, negsuc, ◌+ℤ◌, int_lt, Bool, true, false, cond}
use Rattle.std.specs.Prelude.{not, ◌&&◌, List, [], ◌∷◌, ◌++◌, Option, Some, None, Ok, take, drop}
use Rattle.std.specs.List.{list_any}
use Rattle.ann_base.specs.Results.{◌>>=◌}
use Rattle.ann_base.specs.declared.exceptions.Raised.{Raised}
use Rattle.ann_base.specs.declared.exceptions.Raised.TheVariants as exception
use Rattle.profile_machine.specs.declared.world.lines.Line.TheVariants as line
use Rattle.trace_text.specs.declared.events.Who.{Who}
use Rattle.trace_text.specs.declared.events.Who.TheVariants as who
use Rattle.profile_image.specs.declared.image.Image.{Image}
use Rattle.profile_image.specs.declared.numbers.DeclNo.{DeclNo}
use Rattle.profile_image.specs.declared.numbers.ExprNo.{ExprNo}
use Rattle.profile_image.specs.declared.numbers.ScopeNo.{ScopeNo}
use Rattle.profile_image.specs.declared.numbers.StatementNo.{StatementNo}
use Rattle.profile_image.specs.declared.expressions.ObjectName.{ObjectName}
use Rattle.profile_image.specs.declared.expressions.VariableName.{VariableName}
use Rattle.profile_image.specs.declared.statements.Choice.{Choice}
use Rattle.profile_image.specs.declared.statements.Choice.TheVariants as choice
use Rattle.profile_image.specs.declared.statements.CaseAlternative.{CaseAlternative}
use Rattle.profile_image.specs.declared.statements.Piece.{Piece}
use Rattle.profile_image.specs.declared.statements.Piece.TheVariants as piece
use Rattle.profile_image.specs.declared.values.Value.{Value}
use Rattle.profile_image.specs.declared.values.Value.TheVariants.{Whole, Truth, Literal, Ticks, Task, Thing}
use Rattle.profile_machine.specs.declared.world.World.{World}
use Rattle.profile_machine.specs.declared.world.scopes.Variable.{Variable}
use Rattle.profile_machine.specs.declared.world.marks.Frame.{Frame}
use Rattle.profile_machine.specs.declared.world.marks.Mark.{Mark}
use Rattle.profile_machine.specs.declared.world.scopes.ScopeId.{ScopeId}
use Rattle.profile_machine.specs.declared.world.appointments.Due.TheVariants as due_for
use Rattle.profile_machine.specs.declared.world.marks.Purpose.TheVariants as opened_for
use Rattle.profile_machine.specs.declared.world.tasks.Waiting.TheVariants as waits_for
use Rattle.profile_machine.specs.declared.world.marks.Mark.TheVariants.{Scope, Handled, InProtected, InAccept}
use Rattle.profile_machine.specs.declared.world.marks.Mark.TheVariants.{Abortable, InInitialize, InFinalize, InAssign}
use Rattle.profile_machine.specs.ScopeNumbers.{same_id}
use Rattle.profile_image.specs.Program.{declaration_of, next_of, scope_of, marks_of, literals_of}
use Rattle.profile_machine.specs.declared.world.lines.Part.{Part}
use Rattle.profile_machine.specs.declared.world.lines.Part.TheVariants.{Own, ThePlacing, TheBlock}
use Rattle.profile_machine.specs.Steps.{Step, says, changes, looks, nothing, ◌▷◌}
use Rattle.profile_machine.specs.Dispatching.{block, to_tail}
use Rattle.profile_machine.specs.Frames.{frames_of, goes, raises, given, raise_if, with_room, exit_loop, in_protected}
use Rattle.profile_machine.specs.Scopes.{home, write_cell, edit_cells, put_cells, cells_of}
use Rattle.profile_machine.specs.Scopes.{scope_in_use, open_scope, plainly, innermost}
use Rattle.profile_machine.specs.Operators.{Valued, same_value, is_less, held_moment}
use Rattle.profile_machine.specs.Operators.{text_of_whole, text_of_truth, text_of_literal, holds}
use Rattle.profile_machine.specs.Values.{Seen, seen_by, value, variable, condition}
use Rattle.profile_machine.specs.Values.{moment, object_cell, home_of, or_misfit, read}
use Rattle.profile_machine.specs.Appointments.{appoint}
use Rattle.profile_machine.specs.CallEnds.{store}

-- a step that looks at what somebody sees
abbrev pub sees : Image → Who → (Seen → Step) → Step
sees p name f = looks (λ w. f (seen_by p w name))

-- the world behind an effect on cells, or the exception
unfoldable pub becomes : Part → Who → Valued World → Step
becomes part name result = given part name result (λ next. changes (λ _. next))

-- ---- null (5.1), assignment (5.2)

unfoldable pub null : Image → Who → StatementNo → Step
null p name s = goes name (next_of p s)

-- the place of the target is found first, then the value
unfoldable pub assign : Image → Who → StatementNo → VariableName → ExprNo → Step
assign p name s target e =
    sees p name (λ q. given Own name (variable q target >>= λ v. value q e
    >>= λ x. store p v x q.world) (λ next. changes (λ _. next) ▷ goes name (next_of p s)))

-- the cells of a whole array
abbrev pub cells_from : World → Variable → ℕ → List Value
cells_from w v count = take count (drop v.place (cells_of (scope_in_use w v.within)))

abbrev pub copy_cells : Image → Variable → Variable → World → World
copy_cells p target source w =
    edit_cells target.within (put_cells target.place (cells_from w source (declaration_of p source.declared).cells)) w

abbrev pub array_copied : Image → Seen → ObjectName → ObjectName → Valued World
array_copied p q target source = object_cell q target >>= λ t. object_cell q source
    >>= λ f. Ok (copy_cells p t f q.world)

unfoldable pub assign_array : Image → Who → StatementNo → ObjectName → ObjectName → Step
assign_array p name s target source =
    sees p name (λ q. given Own name (array_copied p q target source) (λ next. changes (λ _. next)
    ▷ goes name (next_of p s)))

-- ---- if and case (5.3, 5.4)

abbrev pub branch : Bool → StatementNo → Option StatementNo → Option StatementNo
branch true first otherwise = Some first
branch false first otherwise = otherwise

unfoldable pub if_statement : Image → Who → ExprNo → StatementNo → Option StatementNo → Step
if_statement p name e first otherwise =
    sees p name (λ q. given Own name (condition q e) (λ b. goes name (branch b first otherwise)))

abbrev pub is_chosen : Value → Choice → Bool
is_chosen v (choice.Single x) = holds (same_value v x)
is_chosen v (choice.Range low high) = not (holds (is_less v low)) && not (holds (is_less high v))
is_chosen v choice.Others = true

abbrev pub any_chosen : Value → List Choice → Bool
any_chosen v choices = list_any (is_chosen v) choices

abbrev pub chosen_alternative : Value → List CaseAlternative → Option StatementNo
chosen_alternative v [] = None
chosen_alternative v (a ∷ as') = cond (any_chosen v a.choices) (Some a.first) (chosen_alternative v as')

-- a value that no choice covers raises Constraint_Error
unfoldable pub go_to_alternative : Who → Option StatementNo → Step
go_to_alternative name None = raises Own name exception.Constraint
go_to_alternative name (Some first) = goes name (Some first)

unfoldable pub case_statement : Image → Who → ExprNo → List CaseAlternative → Step
case_statement p name e alternatives =
    sees p name (λ q. given Own name (value q e) (λ v. go_to_alternative name (chosen_alternative v alternatives)))

-- ---- loops (5.5): into the body, or past the loop

unfoldable pub while_turn : Image → Who → StatementNo → ExprNo → StatementNo → Step
while_turn p name s e body =
    sees p name (λ q. given Own name (condition q e) (λ b. goes name (branch b body (next_of p s))))

-- the parameter, and the cell behind it that keeps the last value
abbrev pub loop_cell : Seen → DeclNo → ℕ → Valued Variable
loop_cell q d by =
    home_of q d >>= λ id. Ok (record { within = id; place = (declaration_of q.program d).place + by; declared = d })

abbrev pub put : Variable → Value → World → World
put v x = write_cell v.within v.place x

-- the first value and the last one, in the direction of the loop
abbrev pub first_bound : Bool → Value → Value → Value
first_bound false low high = low
first_bound true low high = high

abbrev pub last_bound : Bool → Value → Value → Value
last_bound false low high = high
last_bound true low high = low

abbrev pub bounds_set : Seen → DeclNo → Bool → ExprNo → ExprNo → Valued World
bounds_set q d reverse low high =
    value q low >>= λ l. value q high >>= λ h. loop_cell q d 0 >>= λ x. loop_cell q d 1 >>= λ y.
    Ok (put y (last_bound reverse l h) (put x (first_bound reverse l h) q.world))

unfoldable pub for_bounds : Image → Who → DeclNo → Bool → ExprNo → ExprNo → StatementNo → Step
for_bounds p name d reverse low high turn =
    sees p name (λ q. given Own name (bounds_set q d reverse low high) (λ next. changes (λ _. next)
    ▷ goes name (Some turn)))

-- the first turn finds an empty range
abbrev pub is_past : Bool → Value → Value → Valued Bool
is_past false x last = is_less last x
is_past true x last = is_less x last

unfoldable pub first_turn : Image → Who → StatementNo → DeclNo → Bool → StatementNo → Step
first_turn p name s d reverse body =
    sees p name (λ q. given Own name (loop_cell q d 0 >>= λ x. loop_cell q d 1
    >>= λ y. is_past reverse (read q.world x) (read q.world y))
    (λ past. goes name (branch (not past) body (next_of p s))))

-- the next value in the direction of the loop
abbrev pub stepped : Bool → Value → Value
stepped false (Whole n) = Whole (n +ℤ pos 1)
stepped true (Whole n) = Whole (n +ℤ negsuc 0)
stepped reverse (Truth b) = Truth (not b)
stepped false (Literal n) = Literal (n + 1)
stepped true (Literal n) = Literal (n - 1)
stepped reverse (Ticks n) = Ticks n
stepped reverse (Task t) = Task t
stepped reverse (Thing n) = Thing n

unfoldable pub advance : Who → Variable → Bool → Value → StatementNo → Option StatementNo → Bool → Step
advance name x reverse v body past true = goes name past
advance name x reverse v body past false = changes (put x (stepped reverse v)) ▷ goes name (Some body)

-- a later turn: past the loop at the last value, else on to the next one
unfoldable pub later_turn : Image → Who → StatementNo → DeclNo → Bool → StatementNo → Step
later_turn p name s d reverse body =
    sees p name (λ q. given Own name (loop_cell q d 0) (λ x. given Own name (loop_cell q d 1
    >>= λ y. same_value (read q.world x) (read q.world y))
    (advance name x reverse (read q.world x) body (next_of p s))))

-- ---- exit (5.7)

unfoldable pub exit_where : Image → Who → StatementNo → StatementNo → Bool → Step
exit_where p name s loop true = exit_loop p name loop
exit_where p name s loop false = goes name (next_of p s)

unfoldable pub exit_statement : Image → Who → StatementNo → StatementNo → Option ExprNo → Step
exit_statement p name s loop None = exit_loop p name loop
exit_statement p name s loop (Some e) = sees p name (λ q. given Own name (condition q e) (exit_where p name s loop))

-- ---- block (5.6)

unfoldable pub block_statement : Image → Who → StatementNo → ScopeNo → Step
block_statement p name s scope =
    with_room name (marks_of p scope) (scope_of p scope).size
    (goes name (next_of p s)
    ▷ looks (λ w. changes (open_scope p name scope (plainly (innermost w name)) (opened_for.Block s))))

-- ---- raise (11.3)

abbrev pub handled_by : ScopeId → Mark → Option Raised
handled_by id (Scope m) = cond (same_id id m.within) m.handles None
handled_by id (Handled s) = None
handled_by id (InProtected m) = None
handled_by id (InAccept m) = cond (same_id id m.within) m.handles None
handled_by id (Abortable m) = None
handled_by id (InInitialize l) = None
handled_by id (InFinalize o) = None
handled_by id (InAssign m) = None

abbrev pub handled_in : ScopeId → List Frame → Option Raised
handled_in id [] = None
handled_in id (f ∷ fs) = elim (handled_by id f.mark) [ None ↦ handled_in id fs | Some e ↦ Some e ]

-- the exception that a handler of this scope handles
abbrev pub exception_handled : Seen → ScopeNo → Valued Raised
exception_handled q scope =
    or_misfit (home q.world scope q.within) >>= λ id. or_misfit (handled_in id (frames_of q.world q.who))

unfoldable pub raise_again : Image → Who → ScopeNo → Step
raise_again p name scope = sees p name (λ q. given Own name (exception_handled q scope) (raises Own name))

-- ---- delays (9.6): inside a protected action Program_Error is raised (own)

-- a task that waits for a moment blocks; where the moment is not in the future it goes to the tail (D.2.1)
unfoldable pub wait_until : Image → Who → ℤ → Bool → Step
wait_until p (who.Task t) until true = changes (appoint (due_for.Delay t) until)
    ▷ block TheBlock (who.Task t) waits_for.Moment
wait_until p (who.Task t) until false = to_tail p ThePlacing (who.Task t)
wait_until p who.Agent until future = nothing

unfoldable pub delay_to : Image → Who → ℤ → Step
delay_to p name until = looks (λ w. wait_until p name until (int_lt (pos w.time) until))

unfoldable pub delay_until : Image → Who → StatementNo → Valued ℤ → Step
delay_until p name s until =
    looks (λ w. raise_if name (in_protected w name) exception.Program
    (given Own name until (λ m. goes name (next_of p s) ▷ delay_to p name m)))

-- a relative delay's moment
abbrev pub from_now : World → ℤ → ℤ
from_now w span = held_moment (pos w.time +ℤ span)

abbrev pub relative_moment : Seen → ExprNo → Valued ℤ
relative_moment q e = moment q e >>= λ span. Ok (from_now q.world span)

-- ---- Put_Line (A.10.7)

abbrev pub piece_text : Seen → Piece → Valued (List ℕ)
piece_text q (piece.Text text) = Ok text
piece_text q (piece.Whole e) = value q e >>= λ v. Ok (text_of_whole v)
piece_text q (piece.Truth e) = value q e >>= λ v. Ok (text_of_truth v)
piece_text q (piece.Literal e n) = value q e >>= λ v. Ok (text_of_literal (literals_of q.program n) v)

abbrev pub text_of_pieces : Seen → List Piece → Valued (List ℕ)
text_of_pieces q [] = Ok []
text_of_pieces q (x ∷ xs) = piece_text q x >>= λ text. text_of_pieces q xs >>= λ rest. Ok (text ++ rest)

unfoldable pub put_line : Image → Who → StatementNo → List Piece → Step
put_line p name s pieces =
    sees p name (λ q. given Own name (text_of_pieces q pieces) (λ text. goes name (next_of p s)
    ▷ says Own (line.Put name text)))
