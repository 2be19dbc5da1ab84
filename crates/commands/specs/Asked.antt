-- What words ask for: `run SOURCE` and `run SOURCE SCRIPT`, each also with `--ticks N` at the end, `accept SOURCE`,
-- `load N`, `rta TABLE`, `demand TABLE`, `laws TRACE` and `report TRACE`. A name is not empty and does not begin with a
-- hyphen. N is from 1 to 1,000,000,000, of a load from 1 to 200, in plain decimal without leading zeros.
use Rattle.std.specs.Prelude.{ℕ, ◌+◌, ◌-◌, ◌*◌, ◌==◌, nat_le, ◌&&◌, if◌then◌else◌}
use Rattle.std.specs.Prelude.{List, [], ◌∷◌, Option, Some, None, codes}
use Rattle.std.specs.Option.{option_map}
use Rattle.std.specs.Char.{is_ascii_digit}
use Rattle.std.specs.Str.{bytes_eq}
use Rattle.std.specs.Global.{Vec}
use Rattle.load_runs.specs.declared.source.TheConstants.{MOST_TASKS}
use Rattle.commands.specs.declared.requests.TheConstants.{DEFAULT_TICKS, MOST_TICKS}
use Rattle.commands.specs.declared.requests.Work.TheVariants as work
use Rattle.commands.specs.declared.requests.TableTest.{TableTest}
use Rattle.commands.specs.declared.requests.TableTest.TheVariants as test
use Rattle.commands.specs.declared.requests.TraceWork.{TraceWork}
use Rattle.commands.specs.declared.requests.TraceWork.TheVariants as question
use Rattle.commands.specs.Requests.{Asked, SourceAsked, ScriptAsked, LoadAsked, TableAsked, TraceAsked}

abbrev pub name_of : List ℕ → Option (List ℕ)
name_of [] = None
name_of (byte ∷ bytes) = if byte == 45 then None else Some (byte ∷ bytes)

abbrev pub ticks_from : ℕ → List ℕ → Option ℕ
ticks_from so_far [] = Some so_far
ticks_from so_far (digit ∷ digits) =
    if is_ascii_digit digit && nat_le (so_far * 10 + (digit - 48)) MOST_TICKS
    then ticks_from (so_far * 10 + (digit - 48)) digits else None

abbrev pub ticks_of : List ℕ → Option ℕ
ticks_of [] = None
ticks_of (first ∷ digits) = if nat_le 49 first && nat_le first 57 then ticks_from (first - 48) digits else None

abbrev pub run_up_to : List ℕ → Option ℕ → Option Asked
run_up_to source None = None
run_up_to source (Some ticks) = option_map (λ name. SourceAsked name (work.Run ticks)) (name_of source)

-- a run under a script, where both names are names
abbrev pub scripted : Option (List ℕ) → Option (List ℕ) → ℕ → Option Asked
scripted None script ticks = None
scripted (Some source) None ticks = None
scripted (Some source) (Some script) ticks = Some (ScriptAsked source script ticks)

abbrev pub run_under : List ℕ → List ℕ → Option ℕ → Option Asked
run_under source script None = None
run_under source script (Some ticks) = scripted (name_of source) (name_of script) ticks

abbrev pub run_of : List (Vec ℕ) → Option Asked
run_of [] = None
run_of (source ∷ []) = run_up_to source.items (Some DEFAULT_TICKS)
run_of (source ∷ script ∷ []) = run_under source.items script.items (Some DEFAULT_TICKS)
run_of (source ∷ option ∷ ticks ∷ []) =
    if bytes_eq option.items (codes "--ticks") then run_up_to source.items (ticks_of ticks.items) else None
run_of (source ∷ script ∷ option ∷ ticks ∷ []) =
    if bytes_eq option.items (codes "--ticks") then run_under source.items script.items (ticks_of ticks.items) else None
run_of (source ∷ script ∷ option ∷ ticks ∷ more ∷ rest) = None

abbrev pub accept_of : List (Vec ℕ) → Option Asked
accept_of [] = None
accept_of (source ∷ []) = option_map (λ name. SourceAsked name work.Accept) (name_of source.items)
accept_of (source ∷ more ∷ rest) = None

-- a load of so many tasks, where there is such a number
abbrev pub load_up_to : Option ℕ → Option Asked
load_up_to None = None
load_up_to (Some tasks) = if nat_le tasks MOST_TASKS then Some (LoadAsked tasks) else None

abbrev pub load_of : List (Vec ℕ) → Option Asked
load_of [] = None
load_of (tasks ∷ []) = load_up_to (ticks_of tasks.items)
load_of (tasks ∷ more ∷ rest) = None

abbrev pub test_of : TableTest → List (Vec ℕ) → Option Asked
test_of wanted [] = None
test_of wanted (table ∷ []) = option_map (λ name. TableAsked name wanted) (name_of table.items)
test_of wanted (table ∷ more ∷ rest) = None

abbrev pub trace_of : TraceWork → List (Vec ℕ) → Option Asked
trace_of wanted [] = None
trace_of wanted (trace ∷ []) = option_map (λ name. TraceAsked name wanted) (name_of trace.items)
trace_of wanted (trace ∷ more ∷ rest) = None

abbrev pub asked_of : List (Vec ℕ) → Option Asked
asked_of [] = None
asked_of (command ∷ rest) =
    if bytes_eq command.items (codes "run") then run_of rest
    else (if bytes_eq command.items (codes "accept") then accept_of rest
    else (if bytes_eq command.items (codes "load") then load_of rest
    else (if bytes_eq command.items (codes "rta") then test_of test.ResponseTimes rest
    else (if bytes_eq command.items (codes "demand") then test_of test.Demand rest
    else (if bytes_eq command.items (codes "laws") then trace_of question.Laws rest
    else (if bytes_eq command.items (codes "report") then trace_of question.Report rest else None))))))
