-- What legality finds in a part of a tree is worth at least what the part tells of task and protected units: statements.
use Rattle.std.proofs.Common.{◌≡◌, ℕ, ◌+◌, ◌≤◌, Bool, true, false, List, [], ◌∷◌, ◌++◌, Option, Some, None, refl, subst, arith}
use Rattle.std.specs.List.{flat_map, list_all}
use Rattle.ann_base.specs.declared.places.Place.{Place}
use Rattle.ada_tree.specs.declared.names.OneOrMore.{OneOrMore}
use Rattle.ada_tree.specs.declared.statements.SequenceRole.{SequenceRole}
use Rattle.ada_tree.specs.declared.statements.SequenceRole.TheVariants as role
use Rattle.ada_tree.specs.declared.statements.Sequence.{Sequence}
use Rattle.ada_tree.specs.declared.statements.Statement.{Statement}
use Rattle.ada_tree.specs.declared.statements.Statement.TheVariants as statement
use Rattle.ada_tree.specs.declared.statements.Call.{Call}
use Rattle.ada_tree.specs.declared.statements.Delay.{Delay}
use Rattle.ada_tree.specs.declared.statements.If.{If}
use Rattle.ada_tree.specs.declared.statements.Elsif.{Elsif}
use Rattle.ada_tree.specs.declared.statements.Case.{Case}
use Rattle.ada_tree.specs.declared.statements.CaseAlternative.{CaseAlternative}
use Rattle.ada_tree.specs.declared.statements.Choice.{Choice}
use Rattle.ada_tree.specs.declared.statements.Choice.TheVariants as choice
use Rattle.ada_tree.specs.declared.statements.Label.{Label}
use Rattle.ada_tree.specs.declared.statements.Loop.{Loop}
use Rattle.ada_tree.specs.declared.statements.Iteration.{Iteration}
use Rattle.ada_tree.specs.declared.statements.Iteration.TheVariants as iteration
use Rattle.ada_tree.specs.declared.statements.Block.{Block}
use Rattle.ada_tree.specs.declared.statements.Handler.{Handler}
use Rattle.ada_tree.specs.declared.statements.HandledExceptions.{HandledExceptions}
use Rattle.ada_tree.specs.declared.statements.HandledExceptions.TheVariants as exceptions
use Rattle.ada_tree.specs.declared.statements.Accept.{Accept}
use Rattle.ada_tree.specs.declared.selects.SelectForm.{SelectForm}
use Rattle.ada_tree.specs.declared.selects.SelectForm.TheVariants as select
use Rattle.ada_tree.specs.declared.selects.SelectAlternative.{SelectAlternative}
use Rattle.ada_tree.specs.declared.selects.Alternative.{Alternative}
use Rattle.ada_tree.specs.declared.selects.Alternative.TheVariants as alternative
use Rattle.ada_tree.specs.declared.selects.Trigger.{Trigger}
use Rattle.ada_tree.specs.declared.selects.Trigger.TheVariants as trigger
use Rattle.ada_tree.specs.ShapeExpressions.{all_fit, optional_fits}
use Rattle.ada_tree.specs.ShapeStatements.{statements_fit, elsif_fits, if_fits, case_alternative_fits, case_fits, loop_fits, block_role, block_fits}
use Rattle.ada_tree.specs.ShapeStatements.{accept_body_fits, accept_fits, accept_opens, alternative_fits, select_alternative_fits, select_form_fits, parts_fit}
use Rattle.ada_tree.specs.Shape.{sequence_fits}
use Rattle.ada_legality.specs.declared.standing.Known.{Known}
use Rattle.ada_legality.specs.declared.standing.Around.TheVariants as around
use Rattle.ada_legality.specs.Findings.{Found}
use Rattle.ada_legality.specs.CallStatements.{all_found, found_if, parameters_found}
use Rattle.ada_legality.specs.Choices.{case_judged, choices_read, type_of_selector}
use Rattle.ada_legality.specs.Profiles.{accept_conforms}
use Rattle.ada_legality.specs.ReadExpressions.{read_expression}
use Rattle.ada_legality.specs.SimpleStatements.{with_around, with_iteration}
use Rattle.ada_legality.specs.Statements.{entity_of_label, accept_judged, choices_of_case, elsif_found, if_found, case_alternative_found}
use Rattle.ada_legality.specs.Statements.{case_found, loop_found, handler_found, accept_body_found, accept_found, alternative_found}
use Rattle.ada_legality.specs.Statements.{select_alternative_found, selective_accept_found, timed_call_found, conditional_call_found}
use Rattle.ada_legality.specs.Statements.{asynchronous_select_found, select_form_found, select_found, statement_found}
use Rattle.ada_legality.specs.Declarations.{sequence_found}
use Rattle.ada_regions.specs.declared.table.Names.{Names}
use Rattle.ada_regions.specs.Names.{entity_denoted, kind_at}
use Rattle.ada_regions.specs.Words.{all_of, and_then}
use Rattle.ada_regions.specs.Occurrences.{Occurrence, Occurrences, Region, an_accept, a_block, a_label, a_loop, a_loop_parameter, begins}
use Rattle.ada_regions.specs.Occurrences.{ends, hides, declares, mentions, mentions_simply, in_all, if_there, one, within_region, in_body}
use Rattle.ada_regions.specs.NamesInStatements.{names_in_call, names_in_delay, names_in_choice, names_in_iteration, names_in_exceptions, names_in_guard}
use Rattle.ada_regions.specs.NamesInStatements.{names_in_trigger, label_name, declares_label, names_in_statements, labels_in, names_in_elsif}
use Rattle.ada_regions.specs.NamesInStatements.{names_in_if, names_in_case_alternative, names_in_case, names_in_handler, names_in_accept_body}
use Rattle.ada_regions.specs.NamesInStatements.{names_in_accept, names_in_alternative, names_in_select_alternative, names_in_select, names_in_statement}
use Rattle.ada_regions.specs.NamesInStatements.{labels_in_elsif, labels_in_if, labels_in_case_alternative, labels_in_accept_body, labels_in_accept}
use Rattle.ada_regions.specs.NamesInStatements.{labels_in_alternative, labels_in_select_alternative, labels_in_select, labels_in_statement}
use Rattle.ada_regions.specs.NamesInUnits.{names_in_sequence}
use Rattle.grammar_laws.proofs.Reading.Exact.{first_true, second_true}
use Rattle.source_laws.proofs.Sources.Statements.{opened}
use Rattle.source_laws.proofs.Sources.Quiet.{Weights, worth, tells, told, told-append, Quiet, Still, quiet-none, quiet-append, quiet-still, quiet-one}
use Rattle.source_laws.proofs.Sources.Quiet.{quiet-in_all, quiet-if_there, quiet-expression, quiet-optional, quiet-arguments, quiet-parameters}

pub record Tells (w : Weights) (n : Names) (os : Occurrences) (fs : Found) : Type 0 where
  pub at : told w n os ≤ worth w fs

pub worth-append : (w : Weights) (a b : Found) → worth w (a ++ b) ≡ worth w a + worth w b
worth-append w [] b = omega arith
worth-append w (f ∷ a) b = let h = worth-append w a b in omega arith

pub tells-none : {w : Weights} {n : Names} (fs : Found) → Tells w n [] fs
tells-none fs = record { at = omega arith }

pub tells-of_quiet : {w : Weights} {n : Names} {os : Occurrences} (fs : Found) → Quiet os → Tells w n os fs
tells-of_quiet {w} {n} {os} fs q = record { at = (let h = q.at w n in omega arith) }

pub tells-both : {w : Weights} {n : Names} {a b : Occurrences} {v u : Found} → Tells w n a v → Tells w n b u → Tells w n (a ++ b) (v ++ u)
tells-both {w} {n} {a} {b} {v} {u} x y = record {
  at = (let f = told-append w n a b in let g = worth-append w v u in let s = x.at in let t = y.at in omega arith);
}

pub tells-past : {w : Weights} {n : Names} {a : Occurrences} {u : Found} (v : Found) → Tells w n a u → Tells w n a (v ++ u)
tells-past {w} {n} {a} {u} v x = record { at = (let g = worth-append w v u in let s = x.at in omega arith) }

pub tells-quiet : {w : Weights} {n : Names} {q a : Occurrences} {v : Found} → Quiet q → Tells w n a v → Tells w n (q ++ a) v
tells-quiet {w} {n} {q} {a} quiet x = record { at = (let f = told-append w n q a in let h = quiet.at w n in let s = x.at in omega arith) }

pub tells-still : {w : Weights} {n : Names} {a : Occurrences} {v : Found} (o : Occurrence) → Still o → Tells w n a v → Tells w n (o ∷ a) v
tells-still {w} {n} o still x = record { at = (let h = still w n in let s = x.at in omega arith) }

pub region-told : (w : Weights) (n : Names) (r : Region) (a : Occurrences) → told w n (within_region r a) ≡ tells w n (begins r) + told w n a
region-told w n r a = let h = told-append w n a (one ends) in omega arith

pub tells-region : {w : Weights} {n : Names} {a : Occurrences} {v : Found} (r : Region) → Still (begins r) → Tells w n a v → Tells w n (within_region r a) v
tells-region {w} {n} {a} r still x = record { at = (let h = still w n in let g = region-told w n r a in let s = x.at in omega arith) }

pub tells-parts : {w : Weights} {n : Names} {v : Found} (d l a : Occurrences) → Tells w n (d ++ (l ++ a)) v → Tells w n a v
tells-parts {w} {n} d l a x = record { at = (let f = told-append w n d (l ++ a) in let g = told-append w n l a in let s = x.at in omega arith) }

-- ---- lists

pub tells-each : {w : Weights} {X : Type 0} (k : Known) (f : X → Occurrences) (g : X → Known → Found) (fits : X → Bool)
    → ((x : X) → fits x ≡ true → Tells w k.names (f x) (g x k))
    → (xs : List X) → list_all fits xs ≡ true → Tells w k.names (flat_map f xs) (all_found g xs k)
tells-each k f g fits all [] e = tells-none []
tells-each k f g fits all (x ∷ xs) e =
    tells-both (all x (first_true (fits x) (list_all fits xs) e)) (tells-each k f g fits all xs (second_true (fits x) (list_all fits xs) e))

pub tells-all : {w : Weights} {X : Type 0} (k : Known) (f : X → Occurrences) (g : X → Known → Found) (fits : X → Bool)
    → ((x : X) → fits x ≡ true → Tells w k.names (f x) (g x k))
    → (xs : OneOrMore X) → all_fit fits xs ≡ true → Tells w k.names (in_all f xs) (all_found g (all_of xs) k)
tells-all k f g fits all xs e =
    tells-both (all xs.first (first_true (fits xs.first) (list_all fits xs.others) e))
    (tells-each k f g fits all xs.others (second_true (fits xs.first) (list_all fits xs.others) e))

pub tells-there : {w : Weights} {X : Type 0} (k : Known) (f : X → Occurrences) (g : X → Known → Found) (fits : X → Bool)
    → ((x : X) → fits x ≡ true → Tells w k.names (f x) (g x k))
    → (x : Option X) → optional_fits fits x ≡ true → Tells w k.names (if_there f x) (found_if g x k)
tells-there k f g fits all None e = tells-none []
tells-there k f g fits all (Some x) e = all x e

-- the same of labels, which tell nothing
pub quiet-each : {X : Type 0} (f : X → Occurrences) (fits : X → Bool) → ((x : X) → fits x ≡ true → Quiet (f x)) → (xs : List X) → list_all fits xs ≡ true
    → Quiet (flat_map f xs)
quiet-each f fits all [] e = quiet-none
quiet-each f fits all (x ∷ xs) e =
    quiet-append (all x (first_true (fits x) (list_all fits xs) e)) (quiet-each f fits all xs (second_true (fits x) (list_all fits xs) e))

pub quiet-all : {X : Type 0} (f : X → Occurrences) (fits : X → Bool) → ((x : X) → fits x ≡ true → Quiet (f x)) → (xs : OneOrMore X) → all_fit fits xs ≡ true
    → Quiet (in_all f xs)
quiet-all f fits all xs e =
    quiet-append (all xs.first (first_true (fits xs.first) (list_all fits xs.others) e))
    (quiet-each f fits all xs.others (second_true (fits xs.first) (list_all fits xs.others) e))

pub quiet-there : {X : Type 0} (f : X → Occurrences) (fits : X → Bool) → ((x : X) → fits x ≡ true → Quiet (f x)) → (x : Option X) → optional_fits fits x ≡ true
    → Quiet (if_there f x)
quiet-there f fits all None e = quiet-none
quiet-there f fits all (Some x) e = all x e

-- ---- the parts of statements

quiet-call : (c : Call) → Quiet (names_in_call c)
quiet-call c = quiet-still (mentions c.name) (λ w n. refl) (quiet-arguments c.arguments)

quiet-delay : (d : Delay) → Quiet (names_in_delay d)
quiet-delay d = quiet-expression d.value

quiet-choice : (c : Choice) → Quiet (names_in_choice c)
quiet-choice (choice.Value value) = quiet-expression value
quiet-choice (choice.Range low high) = quiet-append (quiet-expression low) (quiet-expression high)
quiet-choice (choice.Others place) = quiet-none

quiet-iteration : (i : Iteration) → Quiet (names_in_iteration i)
quiet-iteration iteration.Forever = quiet-none
quiet-iteration (iteration.While place condition) = quiet-expression condition
quiet-iteration (iteration.For place parameter reverse low high) =
    quiet-still (hides parameter) (λ w n. refl)
    (quiet-append (quiet-expression low) (quiet-append (quiet-expression high) (quiet-one (declares parameter a_loop_parameter) (λ w n. refl))))

quiet-exceptions : (e : HandledExceptions) → Quiet (names_in_exceptions e)
quiet-exceptions (exceptions.Named names) = quiet-in_all (λ name. one (mentions name)) (λ name. quiet-one (mentions name) (λ w n. refl)) names
quiet-exceptions (exceptions.Others place) = quiet-none

quiet-trigger : (t : Trigger) → Quiet (names_in_trigger t)
quiet-trigger (trigger.Call call) = quiet-call call
quiet-trigger (trigger.Delay delay) = quiet-delay delay

quiet-label : (label : Option Label) → Quiet (declares_label label)
quiet-label label = quiet-if_there (λ l. one (declares l.name a_label)) (λ l. quiet-one (declares l.name a_label) (λ w n. refl)) label

iterated : (i : Iteration) (k : Known) → (with_iteration i k).names ≡ k.names
unfolding with_iteration
iterated iteration.Forever k = refl
iterated (iteration.While place condition) k = refl
iterated (iteration.For place parameter reverse low high) k = refl

-- ---- statements with sequences in them

pub record SequenceTold (q : Sequence) : Type 0 where
  pub labels : Quiet (names_in_sequence q).labels
  pub whole : (w : Weights) (k : Known) → Tells w k.names (in_body (names_in_sequence q)) (sequence_found q k)

-- where so many levels are left
abbrev pub SequencesTold : ℕ → Type 0
SequencesTold left = (q : Sequence) (at : SequenceRole) → sequence_fits q at left ≡ true → SequenceTold q

pub statements-of : (w : Weights) (k : Known) (q : Sequence) → SequenceTold q → Tells w k.names (names_in_statements names_in_sequence q) (sequence_found q k)
statements-of w k q t = tells-parts (names_in_sequence q).declarations (names_in_sequence q).labels (names_in_sequence q).statements (t.whole w k)

module _ (left : ℕ) (all : (m : ℕ) → m ≤ left → SequencesTold m) where
  told-at : (m : ℕ) → m ≤ left → (q : Sequence) (at : SequenceRole) → sequence_fits q at m ≡ true → SequenceTold q
  told-at m le q at e = all m le q at e

  told-statements : (q : Sequence) → statements_fit sequence_fits left q ≡ true → SequenceTold q
  told-statements q e = all left (omega arith) q role.Statements e

  module _ (w : Weights) where
    tells-statements : (k : Known) (q : Sequence) → statements_fit sequence_fits left q ≡ true
        → Tells w k.names (names_in_statements names_in_sequence q) (sequence_found q k)
    tells-statements k q e = statements-of w k q (told-statements q e)

    tells-otherwise : (k : Known) (o : Option Sequence) → optional_fits (statements_fit sequence_fits left) o ≡ true
        → Tells w k.names (if_there (names_in_statements names_in_sequence) o) (found_if sequence_found o k)
    tells-otherwise k o e = tells-there k (names_in_statements names_in_sequence) sequence_found (statements_fit sequence_fits left) (tells-statements k) o e

    tells-elsif : (k : Known) (e : Elsif Sequence) → elsif_fits sequence_fits left e ≡ true
        → Tells w k.names (names_in_elsif names_in_sequence e) (elsif_found sequence_found e k)
    tells-elsif k e fits = tells-quiet (quiet-expression e.condition) (tells-past _ (tells-statements k e.statements (second_true _ _ fits)))

    tells-if : (k : Known) (i : If Sequence) → if_fits sequence_fits left i ≡ true
        → Tells w k.names (names_in_if names_in_sequence i) (if_found sequence_found i k)
    unfolding if_found
    tells-if k i fits =
        let behind = second_true _ _ fits in
        let further = second_true _ _ behind in
        tells-quiet (quiet-expression i.condition) (tells-past _ (tells-both (tells-statements k i.statements (first_true _ _ behind))
        (tells-both (tells-each k (names_in_elsif names_in_sequence) (elsif_found sequence_found) (elsif_fits sequence_fits left) (tells-elsif k) i.elsifs
        (first_true _ _ further))
        (tells-otherwise k i.otherwise (second_true _ _ further)))))

    tells-case_alternative : (k : Known) (a : CaseAlternative Sequence) → case_alternative_fits sequence_fits left a ≡ true
        → Tells w k.names (names_in_case_alternative names_in_sequence a) (case_alternative_found sequence_found a k)
    tells-case_alternative k a fits = tells-quiet (quiet-in_all names_in_choice quiet-choice a.choices) (tells-statements k a.statements (second_true _ _ fits))

    tells-case : (k : Known) (c : Case Sequence) → case_fits sequence_fits left c ≡ true
        → Tells w k.names (names_in_case names_in_sequence c) (case_found sequence_found c k)
    unfolding case_found
    tells-case k c fits =
        let r = read_expression c.selector k in
        let choices = choices_read (type_of_selector r.0.typed) (choices_of_case sequence_found c) k in
        tells-quiet (quiet-expression c.selector) (tells-past r.1 (tells-past choices.1 (tells-past (case_judged k c.place r.0 choices.0)
        (tells-all k (names_in_case_alternative names_in_sequence) (case_alternative_found sequence_found) (case_alternative_fits sequence_fits left)
        (tells-case_alternative k) c.alternatives (second_true _ _ fits)))))

    tells-loop : (k : Known) (l : Loop Sequence) → loop_fits sequence_fits left l ≡ true
        → Tells w k.names (names_in_statement names_in_sequence (statement.Loop l)) (loop_found sequence_found l k)
    unfolding loop_found
    tells-loop k l fits =
        let inner = with_iteration l.iteration k in
        let inside = tells-statements (with_around (around.Loop (entity_of_label k l.label)) inner) l.statements (second_true _ _ fits) in
        tells-region (a_loop (label_name l.label)) (λ w n. refl) (tells-quiet (quiet-iteration l.iteration) (tells-past _
        (subst (λ n. Tells w n (names_in_statements names_in_sequence l.statements)
        (sequence_found l.statements (with_around (around.Loop (entity_of_label k l.label)) inner)))
        (iterated l.iteration k) inside)))

    told-block : (declare : Bool) (q : Sequence) → sequence_fits q (block_role sequence_fits declare) left ≡ true → SequenceTold q
    told-block true q e = all left (omega arith) q role.Body e
    told-block false q e = all left (omega arith) q role.Handled e

    tells-block : (k : Known) (b : Block Sequence) → block_fits sequence_fits left b ≡ true
        → Tells w k.names (names_in_statement names_in_sequence (statement.Block b)) (sequence_found b.sequence k)
    tells-block k b fits = tells-region (a_block (label_name b.label) b.place) (λ w n. refl) ((told-block b.declare b.sequence fits).whole w k)

    tells-accept : (m : ℕ) → m ≤ left → (k : Known) (a : Accept Sequence) → accept_fits sequence_fits m a ≡ true
        → Tells w k.names (names_in_accept names_in_sequence a) (accept_found sequence_found a k)
    unfolding accept_found
    tells-accept m le k a fits =
        let e = entity_denoted k.names a.entry.place in
        tells-still (mentions_simply a.entry) (λ w n. refl)
        (tells-region (an_accept a.entry a.place) (λ w n. refl) (tells-quiet (quiet-parameters true a.parameters)
        (tells-past (accept_judged k a.place a.entry (and_then e (kind_at k.names)))
        (tells-past (accept_conforms k a.place a.parameters e) (tells-past (parameters_found false false a.parameters k)
        (tells-there k (names_in_accept_body names_in_sequence) (accept_body_found sequence_found e) (accept_body_fits sequence_fits m)
        (λ b f. statements-of w (with_around (around.Accept e) k) b.sequence (told-at m le b.sequence role.Handled f)) a.body (second_true _ _ fits)))))))

    tells-alternative : (k : Known) (a : Alternative Sequence) → alternative_fits sequence_fits left a ≡ true
        → Tells w k.names (names_in_alternative names_in_sequence a) (alternative_found sequence_found a k)
    tells-alternative k (alternative.Accept accept statements) fits =
        let inside = opened left (accept_opens sequence_fits accept) (first_true _ _ fits) in
        tells-both (tells-accept inside.inner (let h = inside.less in omega arith) k accept inside.holds) (tells-otherwise k statements (second_true _ _ fits))
    tells-alternative k (alternative.Delay delay statements) fits =
        tells-quiet (quiet-delay delay) (tells-past _ (tells-otherwise k statements (second_true _ _ fits)))
    tells-alternative k (alternative.Terminate place) fits = tells-none _

    tells-select_alternative : (k : Known) (a : SelectAlternative Sequence) → select_alternative_fits sequence_fits left a ≡ true
        → Tells w k.names (names_in_select_alternative names_in_sequence a) (select_alternative_found sequence_found a k)
    tells-select_alternative k a fits =
        tells-quiet (quiet-if_there names_in_guard (λ g. quiet-expression g.condition) a.guard)
        (tells-past _ (tells-alternative k a.alternative (second_true _ _ fits)))

    tells-select : (k : Known) (place : Place) (s : SelectForm Sequence) → select_form_fits sequence_fits left s ≡ true
        → Tells w k.names (names_in_select names_in_sequence s) (select_form_found sequence_found place s k)
    unfolding selective_accept_found timed_call_found conditional_call_found asynchronous_select_found
    tells-select k place (select.SelectiveAccept s) fits =
        tells-past _ (tells-both
        (tells-all k (names_in_select_alternative names_in_sequence) (select_alternative_found sequence_found) (select_alternative_fits sequence_fits left)
        (tells-select_alternative k) s.alternatives (first_true _ _ fits))
        (tells-otherwise k s.otherwise (second_true _ _ fits)))
    tells-select k place (select.TimedEntryCall t) fits =
        let behind = second_true _ _ fits in
        tells-quiet (quiet-call t.call) (tells-past _ (tells-both (tells-otherwise k t.statements (first_true _ _ behind))
        (tells-quiet (quiet-delay t.delay) (tells-past _ (tells-otherwise k t.delay_statements (second_true _ _ (second_true _ _ behind)))))))
    tells-select k place (select.ConditionalEntryCall c) fits =
        let behind = second_true _ _ fits in
        tells-quiet (quiet-call c.call)
        (tells-past _ (tells-both (tells-otherwise k c.statements (first_true _ _ behind)) (tells-statements k c.otherwise (second_true _ _ behind))))
    tells-select k place (select.AsynchronousSelect s) fits =
        let behind = second_true _ _ fits in
        tells-quiet (quiet-trigger s.trigger)
        (tells-past _ (tells-both (tells-otherwise (with_around around.AsynchronousSelect k) s.statements (first_true _ _ behind))
        (tells-statements (with_around around.AsynchronousSelect k) s.abortable (second_true _ _ behind))))

    pub tells-statement : (k : Known) (s : Statement Sequence) → parts_fit sequence_fits s left ≡ true
        → Tells w k.names (names_in_statement names_in_sequence s) (statement_found sequence_found s k)
    unfolding select_found
    tells-statement k (statement.Null place) fits = tells-none _
    tells-statement k (statement.Assignment a) fits =
        tells-of_quiet _ (quiet-still (mentions a.target) (λ w n. refl) (quiet-append (quiet-optional a.index) (quiet-expression a.value)))
    tells-statement k (statement.Call c) fits = tells-of_quiet _ (quiet-call c)
    tells-statement k (statement.Delay d) fits = tells-of_quiet _ (quiet-delay d)
    tells-statement k (statement.If i) fits = tells-if k i fits
    tells-statement k (statement.Case c) fits = tells-case k c fits
    tells-statement k (statement.Loop l) fits = tells-loop k l fits
    tells-statement k (statement.Exit e) fits =
        tells-of_quiet _
        (quiet-append (quiet-if_there (λ name. one (mentions_simply name)) (λ name. quiet-one (mentions_simply name) (λ w n. refl)) e.loop_name)
        (quiet-optional e.condition))
    tells-statement k (statement.Block b) fits = tells-block k b fits
    tells-statement k (statement.Return place value) fits = tells-of_quiet _ (quiet-optional value)
    tells-statement k (statement.Raise place exception) fits =
        tells-of_quiet _ (quiet-if_there (λ name. one (mentions name)) (λ name. quiet-one (mentions name) (λ w n. refl)) exception)
    tells-statement k (statement.Abort place tasks) fits =
        tells-of_quiet _ (quiet-in_all (λ name. one (mentions name)) (λ name. quiet-one (mentions name) (λ w n. refl)) tasks)
    tells-statement k (statement.Accept a) fits = tells-accept left (omega arith) k a fits
    tells-statement k (statement.Requeue place entry with_abort) fits = tells-of_quiet _ (quiet-one (mentions entry) (λ w n. refl))
    tells-statement k (statement.Select s) fits = tells-past _ (tells-select k s.place s.form fits)

  -- ---- labels

  quiet-labels : (q : Sequence) → statements_fit sequence_fits left q ≡ true → Quiet (labels_in names_in_sequence q)
  quiet-labels q e = (told-statements q e).labels

  quiet-labels_there : (o : Option Sequence) → optional_fits (statements_fit sequence_fits left) o ≡ true → Quiet (if_there (labels_in names_in_sequence) o)
  quiet-labels_there o e = quiet-there (labels_in names_in_sequence) (statements_fit sequence_fits left) quiet-labels o e

  labels-if : (i : If Sequence) → if_fits sequence_fits left i ≡ true → Quiet (labels_in_if names_in_sequence i)
  labels-if i fits =
      let behind = second_true _ _ fits in
      let further = second_true _ _ behind in
      quiet-append (quiet-labels i.statements (first_true _ _ behind)) (quiet-append
      (quiet-each (labels_in_elsif names_in_sequence) (elsif_fits sequence_fits left) (λ e f. quiet-labels e.statements (second_true _ _ f)) i.elsifs
      (first_true _ _ further))
      (quiet-labels_there i.otherwise (second_true _ _ further)))

  labels-accept : (m : ℕ) → m ≤ left → (a : Accept Sequence) → accept_fits sequence_fits m a ≡ true → Quiet (labels_in_accept names_in_sequence a)
  labels-accept m le a fits =
      quiet-there (labels_in_accept_body names_in_sequence) (accept_body_fits sequence_fits m) (λ b e. (told-at m le b.sequence role.Handled e).labels) a.body
      (second_true _ _ fits)

  labels-alternative : (a : Alternative Sequence) → alternative_fits sequence_fits left a ≡ true → Quiet (labels_in_alternative names_in_sequence a)
  labels-alternative (alternative.Accept accept statements) fits =
      let inside = opened left (accept_opens sequence_fits accept) (first_true _ _ fits) in
      quiet-append (labels-accept inside.inner (let h = inside.less in omega arith) accept inside.holds) (quiet-labels_there statements (second_true _ _ fits))
  labels-alternative (alternative.Delay delay statements) fits = quiet-labels_there statements (second_true _ _ fits)
  labels-alternative (alternative.Terminate place) fits = quiet-none

  labels-select : (s : SelectForm Sequence) → select_form_fits sequence_fits left s ≡ true → Quiet (labels_in_select names_in_sequence s)
  labels-select (select.SelectiveAccept s) fits =
      quiet-append (quiet-all (labels_in_select_alternative names_in_sequence) (select_alternative_fits sequence_fits left)
      (λ a f. labels-alternative a.alternative (second_true _ _ f)) s.alternatives (first_true _ _ fits))
      (quiet-labels_there s.otherwise (second_true _ _ fits))
  labels-select (select.TimedEntryCall t) fits =
      let behind = second_true _ _ fits in
      quiet-append (quiet-labels_there t.statements (first_true _ _ behind))
      (quiet-labels_there t.delay_statements (second_true _ _ (second_true _ _ behind)))
  labels-select (select.ConditionalEntryCall c) fits =
      let behind = second_true _ _ fits in
      quiet-append (quiet-labels_there c.statements (first_true _ _ behind)) (quiet-labels c.otherwise (second_true _ _ behind))
  labels-select (select.AsynchronousSelect s) fits =
      let behind = second_true _ _ fits in
      quiet-append (quiet-labels_there s.statements (first_true _ _ behind)) (quiet-labels s.abortable (second_true _ _ behind))

  pub labels-statement : (s : Statement Sequence) → parts_fit sequence_fits s left ≡ true → Quiet (labels_in_statement names_in_sequence s)
  labels-statement (statement.Null place) fits = quiet-none
  labels-statement (statement.Assignment a) fits = quiet-none
  labels-statement (statement.Call c) fits = quiet-none
  labels-statement (statement.Delay d) fits = quiet-none
  labels-statement (statement.If i) fits = labels-if i fits
  labels-statement (statement.Case c) fits =
      quiet-all (labels_in_case_alternative names_in_sequence) (case_alternative_fits sequence_fits left)
      (λ a f. quiet-labels a.statements (second_true _ _ f)) c.alternatives (second_true _ _ fits)
  labels-statement (statement.Loop l) fits = quiet-append (quiet-label l.label) (quiet-labels l.statements (second_true _ _ fits))
  labels-statement (statement.Exit e) fits = quiet-none
  labels-statement (statement.Block b) fits = quiet-label b.label
  labels-statement (statement.Return place value) fits = quiet-none
  labels-statement (statement.Raise place exception) fits = quiet-none
  labels-statement (statement.Abort place tasks) fits = quiet-none
  labels-statement (statement.Accept a) fits = labels-accept left (omega arith) a fits
  labels-statement (statement.Requeue place entry with_abort) fits = quiet-none
  labels-statement (statement.Select s) fits = labels-select s.form fits

-- a handler, where its statements tell so
pub tells-handler : (w : Weights) (k : Known) (h : Handler Sequence) → SequenceTold h.statements
    → Tells w k.names (names_in_handler names_in_sequence h) (handler_found sequence_found h k)
tells-handler w k h t = tells-quiet (quiet-exceptions h.exceptions) (statements-of w (with_around around.Handler k) h.statements t)
