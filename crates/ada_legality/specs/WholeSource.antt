-- Rules that look at the whole of what was found: completions (3.11.1), returns (6.3), attached handlers and interrupts
-- (C.3.1, D.3), deadlines (D.2.6; own), timers (D.14.1), and the cells of library packages (own).
use Rattle.ada_image.specs.Layout.{cells_of_declaration, is_in_scope}
use Rattle.ada_legality.specs.Findings.{Found, broken_if, broken_unless}
use Rattle.ada_legality.specs.declared.limits.TheConstants.{MOST_PACKAGE_CELLS}
use Rattle.ada_legality.specs.declared.findings.Attached.{Attached}
use Rattle.ada_legality.specs.declared.findings.BodyKind.{BodyKind}
use Rattle.ada_legality.specs.declared.findings.Ceiling.{Ceiling}
use Rattle.ada_legality.specs.declared.findings.DeadlineRange.{DeadlineRange}
use Rattle.ada_legality.specs.declared.findings.Finding.{Finding}
use Rattle.ada_legality.specs.declared.findings.ProtectedObject.{ProtectedObject}
use Rattle.ada_regions.specs.Completions.{has_body}
use Rattle.ada_regions.specs.Words.{same_place}
use Rattle.ada_regions.specs.declared.table.Names.{Names}
use Rattle.ada_regions.specs.declared.table.NumberedDeclaration.{NumberedDeclaration}
use Rattle.ann_base.specs.declared.places.Place.{Place}
use Rattle.std.specs.List.{flat_map, list_any}
use Rattle.std.specs.Prelude.{Bool, List, None, Option, Some, [], cond, eqb, false, filter}
use Rattle.std.specs.Prelude.{int_le, is_some, leb, length, ltb, not, option_map, pos, suc}
use Rattle.std.specs.Prelude.{take, true, unwrap_or, ℕ, ℤ, ◌&&◌, ◌++◌, ◌+◌, ◌||◌, ◌∷◌}
use Rattle.profile_image.specs.Words.{same_number}
use Rattle.ada_legality.specs.declared.findings.BodyKind.TheVariants as completing
use Rattle.ada_legality.specs.declared.findings.Finding.TheVariants as finding
use Rattle.ada_legality.specs.declared.rules.Rule.TheVariants as rule

-- ---- completions: one body, in the declaration's own part

-- kinds of bodies are the same
abbrev pub same_kind : BodyKind → BodyKind → Bool
same_kind completing.Subprogram completing.Subprogram = true
same_kind completing.Task completing.Task = true
same_kind completing.Protected completing.Protected = true
same_kind completing.ProtectedEntry completing.ProtectedEntry = true
same_kind a b = false

-- a body of this kind and entity
abbrev pub is_body_of : BodyKind → ℕ → Finding → Bool
is_body_of kind e (finding.Completed of_kind other) = same_kind kind of_kind && eqb e other
is_body_of kind e f = false

-- how many of them there are
unfoldable pub bodies_of : Found → BodyKind → ℕ → ℕ
bodies_of found kind e = length (filter (is_body_of kind e) found)

-- a body of another profile
abbrev pub is_other_profile_of : BodyKind → ℕ → Finding → Bool
is_other_profile_of kind e (finding.OtherProfile of_kind other) =
    same_kind kind of_kind && eqb e other
is_other_profile_of kind e f = false

-- the table knows its body, unless it is an entry's
unfoldable pub has_known_body : Names → BodyKind → ℕ → Bool
has_known_body n completing.ProtectedEntry e = true
has_known_body n kind e = has_body n e

-- a declaration without its body, with two, or with one of another profile
unfoldable pub is_uncompleted : Names → Found → BodyKind → ℕ → Bool
is_uncompleted n found kind e =
    not (has_known_body n kind e && eqb (bodies_of found kind e) 1)
    || list_any (is_other_profile_of kind e) found

-- ---- returns: a function's own statements have one

abbrev pub is_return_of : Place → Finding → Bool
is_return_of function (finding.Returned other) = same_place function other
is_return_of function f = false

-- ---- attached handlers

-- a handler is attached in this unit to an interrupt
abbrev pub is_attached_in : ℕ → Finding → Bool
is_attached_in unit (finding.Attached a) = eqb a.unit unit && is_some a.number
is_attached_in unit f = false

-- the unit has one
unfoldable pub has_attached : Found → ℕ → Bool
has_attached found unit = list_any (is_attached_in unit) found

-- two numbers that are known are equal
abbrev pub same_numbers : Option ℤ → Option ℤ → Bool
same_numbers (Some a) (Some b) = same_number a b
same_numbers a b = false

-- two attachments of one procedure or one number, in one unit
abbrev pub clashes_with : Attached → Attached → Bool
clashes_with a b =
    eqb a.unit b.unit && (same_place a.procedure b.procedure || same_numbers a.number b.number)

-- a finding clashes with an attachment
abbrev pub clashes : Attached → Finding → Bool
clashes a (finding.Attached b) = clashes_with a b
clashes a f = false

-- ---- protected objects

-- a single object is broken at the procedure, another one where it is declared
abbrev pub place_for : ProtectedObject → Place → Place
place_for o single = cond o.single single o.place

-- an attached handler of an object outside library packages
abbrev pub handler_of_object : ProtectedObject → Finding → Found
handler_of_object o (finding.Attached a) =
    broken_if rule.HandlerProcedure (eqb a.unit o.unit) (place_for o a.procedure)
handler_of_object o f = []

-- the attached handlers of an object are library-level
unfoldable pub handlers_of_object : Found → ProtectedObject → Found
handlers_of_object found o = cond o.is_library [] (flat_map (handler_of_object o) found)

-- an interrupt with a number is attached in an object's unit
abbrev pub is_attached_number : Option ℤ → ℕ → Finding → Bool
is_attached_number number unit (finding.Attached a) =
    eqb a.unit unit && same_numbers number a.number
is_attached_number number unit f = false

-- an object takes this number
abbrev pub takes_number : Found → Option ℤ → Finding → Bool
takes_number found number (finding.ProtectedObject o) =
    list_any (is_attached_number number o.unit) found
takes_number found number f = false

-- an attachment whose number an object before takes
unfoldable pub taken_number : Found → Found → ProtectedObject → Finding → Found
taken_number found before o (finding.Attached a) =
    broken_if rule.AttachedInterrupt
    (eqb a.unit o.unit && list_any (takes_number found a.number) before) (place_for o a.aspect)
taken_number found before o f = []

-- the interrupts of an object, of which those before take none
unfoldable pub numbers_of_object : Found → Found → ProtectedObject → Found
numbers_of_object found before o = flat_map (taken_number found before o) found

-- ---- deadlines (D.2.6; own): what a source with an EDF range keeps

-- an EDF range of a pragma
abbrev pub lies_in_range : DeadlineRange → ℤ → Bool
lies_in_range r n = int_le (pos r.low) n && int_le n (pos r.high)

-- the range's lowest
abbrev pub is_lowest : DeadlineRange → ℤ → Bool
is_lowest r n = same_number n (pos r.low)

-- a unit has an attached handler
abbrev pub has_attached_if : Found → Option ℕ → Bool
has_attached_if found unit = unwrap_or (option_map (has_attached found) unit) false

-- the ceiling of a protected unit, by its aspect or by default
unfoldable pub ceiling_of : ℕ → Found → Ceiling → ℤ
ceiling_of last found c =
    unwrap_or c.stated (cond (has_attached_if found c.unit) (pos (suc last)) (pos last))

-- a priority or a ceiling that may not lie in the range: that of the main procedure not at all, a
-- task's base priority and a protected object's ceiling not at its lowest
unfoldable pub in_deadline_range : ℕ → Found → DeadlineRange → Finding → Found
in_deadline_range last found r (finding.MainPriority number place) =
    broken_if rule.DeadlineScheduling (lies_in_range r number) place
in_deadline_range last found r (finding.TaskPriority number place) =
    broken_if rule.DeadlineScheduling (is_lowest r number) place
in_deadline_range last found r (finding.Ceiling c) =
    broken_if rule.DeadlineScheduling (is_lowest r (ceiling_of last found c)) c.place
in_deadline_range last found r f = []

-- a range lies in Priority, and no such priority in it
unfoldable pub range_judged : ℕ → Found → DeadlineRange → Found
range_judged last found r =
    broken_unless rule.DeadlineScheduling (leb r.high last) r.place
    ++ flat_map (in_deadline_range last found r) found

-- ---- timers

abbrev pub is_task_constant : ℕ → Finding → Bool
is_task_constant e (finding.TaskConstant other) = eqb e other
is_task_constant e f = false

-- a constant names the task of a timer
unfoldable pub names_task : Found → Option ℕ → Bool
names_task found None = false
names_task found (Some e) = list_any (is_task_constant e) found

-- ---- what each finding breaks beside the others

unfoldable pub judged_beside : Names → Found → Found → Finding → Found
judged_beside n found before (finding.Declared kind e place) =
    broken_if rule.Completions (is_uncompleted n found kind e) place
judged_beside n found before (finding.Function function place) =
    broken_unless rule.ReturnStatement (list_any (is_return_of function) found) place
judged_beside n found before (finding.Attached a) =
    broken_if rule.AttachedInterrupt (list_any (clashes a) before) a.aspect
judged_beside n found before (finding.ProtectedObject o) =
    handlers_of_object found o ++ numbers_of_object found before o
judged_beside n found before (finding.OtherCeiling unit place) =
    broken_if rule.PriorityAspect (has_attached found unit) place
judged_beside n found before (finding.Timer task place) =
    broken_unless rule.LibraryLevelObject (names_task found task) place
judged_beside n found before f = []

-- the same of all, from this place on
unfoldable pub judged_from : Names → Found → ℕ → Found → Found
judged_from n found at [] = []
judged_from n found at (f ∷ rest) =
    judged_beside n found (take at found) f ++ judged_from n found (suc at) rest

-- ---- the cells of the declarations and loops of library packages: the one that passes their limit

abbrev pub passes_cells : ℕ → ℕ → Bool
passes_cells before cells = leb before MOST_PACKAGE_CELLS && ltb MOST_PACKAGE_CELLS (before + cells)

-- the declaration of this number
abbrev pub cells_of : ℕ → Finding → Found
cells_of number (finding.Cells other place) = broken_if rule.Limit (eqb other number) place
cells_of number f = []

-- the declaration with which the cells pass the limit
unfoldable pub passing_cells : Names → Found → ℕ → ℕ → List NumberedDeclaration → Found
passing_cells n found number before [] = []
passing_cells n found number before (d ∷ ds) = cond (is_in_scope 0 d)
    (cond (passes_cells before (cells_of_declaration n d)) (flat_map (cells_of number) found) []
    ++ passing_cells n found (suc number) (before + cells_of_declaration n d) ds)
    (passing_cells n found (suc number) before ds)

-- ---- the whole

-- what is found beside what a walk found
unfoldable pub found_beside : Names → List DeadlineRange → Found → Found
found_beside n ranges found =
    judged_from n found 0 found
    ++ (flat_map (range_judged n.last_priority found) ranges
    ++ passing_cells n found 0 0 n.declarations)
