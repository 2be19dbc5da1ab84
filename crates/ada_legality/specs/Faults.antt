-- The faults of a source (1.1.5): all pairs of a place and a rule that is broken there, in the
-- order of the text, at one place
-- by the numbers of the rules.
use Rattle.ada_legality.specs.Findings.{Found}
use Rattle.ada_legality.specs.InForce.{deadline_ranges_of, in_force_by}
use Rattle.ada_legality.specs.Packages.{packages_judged}
use Rattle.ada_legality.specs.Pragmas.{pragmas_judged}
use Rattle.ada_legality.specs.Units.{known_of, units_found}
use Rattle.ada_legality.specs.UnitsUsed.{found_from}
use Rattle.ada_legality.specs.WholeSource.{found_beside}
use Rattle.ada_legality.specs.declared.faults.Fault.{Fault}
use Rattle.ada_legality.specs.declared.findings.Finding.{Finding}
use Rattle.ada_legality.specs.declared.rules.Rule.{Rule}
use Rattle.ada_regions.specs.NamesInUnits.{names_in_unit}
use Rattle.ada_regions.specs.Numbered.{last_priority_of, names_of, nothing_known}
use Rattle.ada_regions.specs.Occurrences.{Occurrences}
use Rattle.ada_regions.specs.Words.{same_place, stands_before}
use Rattle.ada_regions.specs.declared.table.Names.{Names}
use Rattle.ada_tree.specs.declared.units.Unit.{Unit as Tree}
use Rattle.std.specs.List.{flat_map}
use Rattle.std.specs.Prelude.{Bool, List, Option, [], cond, eqb, ltb, ℕ, ◌&&◌, ◌++◌, ◌||◌, ◌∷◌}
use Rattle.world_tables.specs.Lists.{first_of}
use Rattle.ada_legality.specs.declared.findings.Finding.TheVariants as finding
use Rattle.ada_legality.specs.declared.rules.Rule.TheVariants as rule

-- ---- the number of a rule, as the note of a refusal has it

abbrev pub number_of_rule : Rule → ℕ
number_of_rule rule.LibraryUnits = 1
number_of_rule rule.PackageBodies = 2
number_of_rule rule.MainProcedureLast = 3
number_of_rule rule.Completions = 4
number_of_rule rule.KindOfName = 5
number_of_rule rule.StaticBounds = 6
number_of_rule rule.IntegerLiteral = 7
number_of_rule rule.DurationLiteral = 8
number_of_rule rule.ExpectedType = 9
number_of_rule rule.OperandTypes = 10
number_of_rule rule.AssignedVariable = 11
number_of_rule rule.Actuals = 12
number_of_rule rule.FunctionCallAlone = 13
number_of_rule rule.LimitedObject = 14
number_of_rule rule.ConditionsAndChoices = 15
number_of_rule rule.ExitFromLoop = 16
number_of_rule rule.ReturnStatement = 17
number_of_rule rule.RaiseAndHandlers = 18
number_of_rule rule.AcceptStatement = 19
number_of_rule rule.SelectiveAccept = 20
number_of_rule rule.AsynchronousSelect = 21
number_of_rule rule.EntryCallAlternative = 22
number_of_rule rule.AbortedTask = 23
number_of_rule rule.EntryBarrier = 24
number_of_rule rule.ProtectedComponents = 25
number_of_rule rule.PriorityAspect = 26
number_of_rule rule.CpuAspect = 27
number_of_rule rule.HandlerProcedure = 28
number_of_rule rule.AttachedInterrupt = 29
number_of_rule rule.ConfigurationPragma = 30
number_of_rule rule.DeadlineScheduling = 31
number_of_rule rule.RelativeDeadlineAspect = 32
number_of_rule rule.ControlledOperations = 33
number_of_rule rule.LibraryLevelObject = 34
number_of_rule rule.RequeueStatement = 35
number_of_rule rule.Restriction = 36
number_of_rule rule.Discriminant = 37
number_of_rule rule.Limit = 38
number_of_rule rule.PutLineForm = 39

-- ---- order

abbrev pub comes_before : Fault → Fault → Bool
comes_before f g =
    stands_before f.place g.place
    || (same_place f.place g.place && ltb (number_of_rule f.rule) (number_of_rule g.rule))

-- two faults are one pair
abbrev pub same_fault : Fault → Fault → Bool
same_fault f g = same_place f.place g.place && eqb (number_of_rule f.rule) (number_of_rule g.rule)

-- a pair stands there once
abbrev pub fault_put : Fault → List Fault → List Fault
fault_put f [] = f ∷ []
fault_put f (g ∷ gs) =
    cond (same_fault f g) (g ∷ gs) (cond (comes_before f g) (f ∷ g ∷ gs) (g ∷ fault_put f gs))

-- faults in order, each once
abbrev pub in_order_of_text : List Fault → List Fault
in_order_of_text [] = []
in_order_of_text (f ∷ fs) = fault_put f (in_order_of_text fs)

-- ---- the faults among what is found

abbrev pub fault_in : Finding → List Fault
fault_in (finding.Broken f) = f ∷ []
fault_in f = []

-- all of them
unfoldable pub faults_in : Found → List Fault
faults_in found = flat_map fault_in found

-- ---- the faults of a source, with what its names denote

-- what a walk over the source finds
unfoldable pub walked : Tree → Names → Occurrences → Found
walked u n occurrences = units_found u (known_of n occurrences (in_force_by u.pragmas))

-- what is found of pragmas, packages and units, and beside what the walk found
unfoldable pub found_of : Tree → Names → Occurrences → Found
found_of u n occurrences =
    let found = walked u n occurrences in
    found
    ++ (found_beside n (deadline_ranges_of u.pragmas) found
    ++ (pragmas_judged u.pragmas
    ++ (packages_judged n u.packages
    ++ found_from occurrences (nothing_known (last_priority_of u.pragmas)))))

-- the faults in the order of the text
unfoldable pub faults_where : Tree → Names → List Fault
faults_where u n = in_order_of_text (faults_in (found_of u n (names_in_unit u)))

-- the faults of a source whose names are numbered
unfoldable pub faults_of : Tree → List Fault
faults_of u = faults_where u (names_of u)

-- the fault that is told
abbrev pub first_fault_of : Tree → Option Fault
first_fault_of u = first_of (faults_of u)
