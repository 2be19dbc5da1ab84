-- The first lesson: what each stage of the front end gives of it, and its run. The folds of the expression in it are
-- rewritten too, in each stage where it is read.
use Rattle.std.proofs.Common.{◌≡◌, ◌++◌, ℕ, List, [], ◌∷◌, codes, Option, Some, None, true, false, Ok, refl, ap, ◌∙◌}
use Rattle.std.specs.Prelude.{unwrap_or, option_map}
use Rattle.std.specs.Fmt.{digits}
use Rattle.ada_lex.specs.Reading.{tokens_of}
use Rattle.ada_tree.specs.declared.expressions.Argument.{Argument}
use Rattle.ada_tree.specs.declared.expressions.Expression.{Expression, roll-Expression}
use Rattle.ada_tree.specs.declared.expressions.Expression.TheOpen.{Expression-F}
use Rattle.ada_tree.specs.declared.expressions.Expression.TheFolds.{fold-Expression, fold-roll-Expression}
use Rattle.ada_tree.specs.declared.expressions.Expression.TheViews.{out-Expression}
use Rattle.ada_tree.specs.declared.expressions.Expression.{out-roll-Expression}
use Rattle.ada_tree.specs.declared.expressions.ExpressionForm.TheVariants as form
use Rattle.ada_tree.specs.declared.names.Name.{Name}
use Rattle.ada_tree.specs.declared.statements.Call.{Call}
use Rattle.ada_tree.specs.declared.statements.Sequence.{Sequence, roll-Sequence}
use Rattle.ada_tree.specs.declared.statements.Sequence.TheFolds.{fold-Sequence, fold-roll-Sequence}
use Rattle.ada_tree.specs.declared.statements.Sequence.TheOpen.{Sequence-F}
use Rattle.ada_tree.specs.declared.statements.Statement.TheVariants as statement
use Rattle.ada_tree.specs.declared.units.ContextClause.{ContextClause}
use Rattle.ada_regions.specs.declared.table.Names.{Names}
use Rattle.ada_regions.specs.NamesInExpressions.{names_layer}
use Rattle.ada_regions.specs.Names.{denoted_by}
use Rattle.ada_regions.specs.Numbered.{behind_all, nothing_known}
use Rattle.ada_regions.specs.Occurrences.{Occurrences, mentions}
use Rattle.ada_legality.specs.declared.faults.Fault.{Fault}
use Rattle.ada_legality.specs.declared.parts.ActualPart.{ActualPart}
use Rattle.ada_legality.specs.declared.standing.Known.{Known}
use Rattle.ada_legality.specs.CallStatements.{call_found, call_judged}
use Rattle.ada_legality.specs.Declarations.{Sight, findings_layer}
use Rattle.ada_legality.specs.Findings.{Found}
use Rattle.ada_legality.specs.Places.{place_of}
use Rattle.ada_legality.specs.ReadExpressions.{arguments_read, read_expression, reading_layer, unless_denoted}
use Rattle.ada_legality.specs.Reading.{text_read}
use Rattle.ada_legality.specs.Reading.{Reading}
use Rattle.ada_legality.specs.Values.{denotes_procedure}
use Rattle.ada_image.specs.declared.making.Within.{Within}
use Rattle.ada_image.specs.CallStatements.{call_statement_put, denoted_call_put, signs_in_actuals}
use Rattle.ada_image.specs.ImageOfExpressions.{ExpressionImage, image_layer, signs_in}
use Rattle.ada_image.specs.ImageOfUnits.{outermost}
use Rattle.ada_image.specs.Making.{action_put, in_body_of}
use Rattle.ada_verdicts.specs.Accepted.{judged}
use Rattle.profile_image.specs.declared.numbers.StatementNo.{StatementNo}
use Rattle.profile_image.specs.declared.statements.Piece.TheVariants as piece
use Rattle.profile_image.specs.declared.statements.StatementForm.TheVariants as action
use Rattle.profile_machine.specs.Computing.{computing}
use Rattle.profile_machine.specs.Run.{lines_of_run}
use Rattle.trace_text.specs.Text.{text_of}
use Rattle.lesson_laws.specs.HelloSource.{hello_source, hello_image, hello_trace}
use Rattle.lesson_laws.specs.RefusedSources.{at}
use Rattle.lesson_laws.proofs.FrontEnd.{lexing, reading, naming, building, building_around_calls, judging, judging_around_calls}
use Rattle.lesson_laws.proofs.FromFolds.{whole, tree_read, said, names, rules_broken, forms_built, program, faults_around}
use Rattle.lesson_laws.proofs.FromFolds.{walk_around, program_around, all_around, actions_around, judged_is_image}
use Rattle.lesson_laws.proofs.FromFolds.{known_inside, occurrences_around}
use Rattle.lesson_laws.proofs.Trees.{identifier, simple, selected}

-- ---- the text that is put

abbrev text_layer : {A : Type 0} → Expression-F A
text_layer = record { form = form.Text (at 5 14) (codes "hi") }

unfoldable text : Expression
text = roll-Expression text_layer

text_folds : (A : Type 0) (step : Expression-F A → A) → fold-Expression A step text ≡ step text_layer
unfolding text
text_folds A step = fold-roll-Expression A step text_layer

text_out : out-Expression text ≡ text_layer
unfolding text
text_out = out-roll-Expression text_layer

-- ---- the tree

abbrev context : List ContextClause
context =
    record {
      place = at 1 1;
      is_use = false;
      names = record { first = selected (identifier 1 6 (codes "ada")) (identifier 1 10 (codes "text_io")); others = [] };
    }
    ∷ record {
      place = at 1 19;
      is_use = true;
      names = record { first = selected (identifier 1 23 (codes "ada")) (identifier 1 27 (codes "text_io")); others = [] };
    }
    ∷ []

abbrev put_line : Name
put_line = simple (identifier 5 4 (codes "put_line"))

abbrev arguments : List (Argument Expression)
arguments = record { formal = None; value = text } ∷ []

abbrev the_call : Call
the_call = record { name = put_line; arguments = arguments }

abbrev body_by : (A : Type 0) → (Sequence-F A → A) → A
body_by A step =
    step (record {
      parts = record { declarations = []; statements = record { first = statement.Null (at 4 4); others = statement.Call the_call ∷ [] }; handlers = [] };
    })

unfoldable body : Sequence
body = body_by Sequence roll-Sequence

fold_is : (A : Type 0) (step : Sequence-F A → A) → fold-Sequence A step body ≡ body_by A step
unfolding body
fold_is A step = simp fold-roll-Sequence

is_read : tree_read hello_source (tokens_of hello_source) ≡ Some (whole [] context (at 2 1) (identifier 2 11 (codes "main")) body_by body fold_is)
unfolding lexing reading body text hello_source
is_read = refl

-- ---- names

unfoldable hello_said : Occurrences
hello_said =
    occurrences_around [] context (at 2 1) (identifier 2 11 (codes "main")) (record { declarations = []; labels = []; statements = mentions put_line ∷ [] })

said_so : said [] context (at 2 1) (identifier 2 11 (codes "main")) body_by body fold_is ≡ hello_said
unfolding said hello_said naming
said_so = rw (text_folds Occurrences names_layer) refl

unfoldable hello_names : Names
hello_names = behind_all hello_said (nothing_known 30)

names_so : names [] context (at 2 1) (identifier 2 11 (codes "main")) body_by body fold_is ≡ hello_names
unfolding names hello_names
names_so = ap (λ (o : Occurrences). behind_all o (nothing_known 30)) said_so

hello_has_no_fault : hello_names.fault ≡ None
unfolding hello_names hello_said naming building
hello_has_no_fault = refl

names_found : (names [] context (at 2 1) (identifier 2 11 (codes "main")) body_by body fold_is).fault ≡ None
names_found = ap (λ (n : Names). n.fault) names_so ∙ hello_has_no_fault

-- ---- rules

abbrev inside : Known
inside = known_inside [] context (at 2 1) (identifier 2 11 (codes "main")) hello_names hello_said

abbrev actuals : List ActualPart
actuals = record { formal = None; place = at 5 14; read = text_read (at 5 14) (codes "hi") } ∷ []

arguments_are : arguments_read read_expression arguments inside ≡ (actuals, [])
unfolding arguments_read read_expression naming judging
arguments_are = rw (text_folds Reading reading_layer) refl

abbrev call_by : Known → List ActualPart × Found → Found
call_by k r =
    unless_denoted (denotes_procedure k) k put_line
    ++ (r.1
    ++ unwrap_or
    (option_map (call_judged k (place_of put_line) r.0) (denoted_by k.names put_line)) [])

call_is : (k : Known) → call_found the_call k ≡ call_by k (arguments_read read_expression arguments k)
unfolding call_found
call_is k = refl

call_breaks_none : call_by inside (actuals, []) ≡ []
unfolding naming judging building hello_names hello_said
call_breaks_none = refl

call_right : call_found the_call inside ≡ []
call_right = call_is inside ∙ (ap (call_by inside) arguments_are ∙ call_breaks_none)

sight_right : body_by Sight findings_layer inside ≡ []
unfolding judging_around_calls
sight_right = rw call_right refl

abbrev faults_by : Names → Occurrences → List Fault
faults_by n o =
    faults_around [] context (at 2 1) (identifier 2 11 (codes "main")) n o
    (walk_around [] context (at 2 1) (identifier 2 11 (codes "main")) n o
    (body_by Sight findings_layer (known_inside [] context (at 2 1) (identifier 2 11 (codes "main")) n o)))

faults_are_by : rules_broken [] context (at 2 1) (identifier 2 11 (codes "main")) body_by body fold_is ≡ faults_by hello_names hello_said
unfolding rules_broken
faults_are_by = ap (λ (n : Names). faults_by n (said [] context (at 2 1) (identifier 2 11 (codes "main")) body_by body fold_is)) names_so
    ∙ ap (λ (o : Occurrences). faults_by hello_names o) said_so

none_broken : faults_around [] context (at 2 1) (identifier 2 11 (codes "main")) hello_names hello_said
    (walk_around [] context (at 2 1) (identifier 2 11 (codes "main")) hello_names hello_said []) ≡ []
unfolding faults_around walk_around naming judging building hello_names hello_said
none_broken = refl

no_rule_broken : rules_broken [] context (at 2 1) (identifier 2 11 (codes "main")) body_by body fold_is ≡ []
no_rule_broken = faults_are_by
    ∙ (ap (λ (found : Found). faults_around [] context (at 2 1) (identifier 2 11 (codes "main")) hello_names hello_said
    (walk_around [] context (at 2 1) (identifier 2 11 (codes "main")) hello_names hello_said found)) sight_right ∙ none_broken)

-- ---- the image

all_built : forms_built [] context (at 2 1) (identifier 2 11 (codes "main")) body_by body fold_is ≡ true
unfolding forms_built naming building hello_names hello_said
all_built = rw (names_so, text_out) refl

abbrev in_main : Within
in_main = in_body_of 1 None (outermost hello_names)

no_signs : (within : Within) → signs_in within text ≡ 0
unfolding signs_in
no_signs within = ap (λ (i : ExpressionImage). i.signs within.names) (text_folds ExpressionImage image_layer)

no_signs_in_arguments : signs_in_actuals in_main arguments ≡ 0
unfolding signs_in_actuals
no_signs_in_arguments = rw (no_signs in_main) refl

line_is_put : (next : Option StatementNo)
    → denoted_call_put in_main put_line arguments (denoted_by hello_names put_line) 0 next
    ≡ action_put (action.PutLine (piece.Text (codes "hi") ∷ [])) 0 next
unfolding naming building hello_names hello_said
line_is_put next = rw text_out refl

call_is_put : (next : Option StatementNo)
    → call_statement_put in_main put_line arguments next ≡ action_put (action.PutLine (piece.Text (codes "hi") ∷ [])) 0 next
unfolding call_statement_put
call_is_put next =
    ap (λ (n : ℕ). denoted_call_put in_main put_line arguments (denoted_by hello_names put_line) n next) no_signs_in_arguments
    ∙ line_is_put next

image_made : program [] context (at 2 1) (identifier 2 11 (codes "main")) body_by body fold_is ≡ hello_image
unfolding hello_image program program_around all_around actions_around naming building_around_calls hello_names hello_said
image_made = rw (names_so, call_is_put None) refl

pub hello_is_judged : judged hello_source ≡ Ok hello_image
hello_is_judged =
    judged_is_image [] context (at 2 1) (identifier 2 11 (codes "main")) body_by body fold_is hello_source hello_image
    is_read names_found no_rule_broken all_built image_made

pub hello_runs : text_of (lines_of_run hello_image [] 100) ≡ hello_trace
unfolding hello_image hello_trace lines_of_run computing digits
hello_runs = refl
