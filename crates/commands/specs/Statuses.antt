-- What each status of the program tells: the words of the clauses of `top`.
use Rattle.std.specs.Prelude.{◌≡◌, ◌≢◌, ◌≤◌, ◌⊎◌, ℕ, ℤ, Bool, false, true, List}
use Rattle.std.specs.Prelude.{[], Option, Some, None, Result, Ok, Err, codes}
use Rattle.outside_bytes.specs.Files.{told, Holds, WhereTold}
use Rattle.profile_image.specs.declared.script_items.Item.{Item}
use Rattle.profile_image.specs.declared.image.Image.{Image}
use Rattle.ada_verdicts.specs.declared.refusals.Refusal.{Refusal}
use Rattle.ada_verdicts.specs.Accepted.{Accepted as IsAccepted}
use Rattle.event_script.specs.declared.faults.ScriptFault.{ScriptFault}
use Rattle.event_script.specs.Script.{script_of}
use Rattle.sched_tests.specs.declared.duties.Duty.{Duty}
use Rattle.sched_tests.specs.declared.duties.TableFault.{TableFault}
use Rattle.sched_tests.specs.Demand.{busy_of}
use Rattle.sched_tests.specs.Reading.{table_of}
use Rattle.sched_tests.specs.Reports.{table_note}
use Rattle.trace_text.specs.Queue.{TraceLine}
use Rattle.trace_text.specs.Text.{text_of}
use Rattle.profile_machine.specs.Run.{lines_of_run}
use Rattle.run_report.specs.Texts.{report_text}
use Rattle.trace_files.specs.Reported.{IsFormedTrace}
use Rattle.trace_laws.specs.declared.verdicts.Verdict.{Verdict}
use Rattle.trace_laws.specs.Verdicts.{texts_in, Says}
use Rattle.commands.specs.declared.requests.Work.{Work}
use Rattle.commands.specs.declared.requests.Work.TheVariants as work
use Rattle.commands.specs.declared.requests.TableTest.{TableTest}
use Rattle.commands.specs.declared.requests.TableTest.TheVariants as test
use Rattle.commands.specs.declared.requests.TraceWork.{TraceWork}
use Rattle.commands.specs.declared.requests.TraceWork.TheVariants as question
use Rattle.commands.specs.declared.outcomes.Outcome.{Outcome}
use Rattle.commands.specs.declared.outcomes.Outcome.TheVariants.{Ended, Accepted, Tested, Traced, WordsRefused}
use Rattle.commands.specs.declared.outcomes.Outcome.TheVariants.{SourceRefused, ScriptRefused, TableRefused}
use Rattle.commands.specs.declared.outcomes.Outcome.TheVariants.{TraceRefused, ReadFault, WriteFault, NoMemory}
use Rattle.load_runs.specs.Source.{load_text}
use Rattle.commands.specs.declared.requests.TheConstants.{DEFAULT_TICKS}
use Rattle.commands.specs.Requests.{Asked, SourceAsked, ScriptAsked, LoadAsked, TableAsked, TraceAsked}
use Rattle.commands.specs.Outside.{ShelfChange, SinkChange, SinkFailed, IsKept, Gained, GainedPrefix}
use Rattle.commands.specs.Runs.{text_of_run, stop_of, text_under, summary_under, stop_under}
use Rattle.commands.specs.Tests.{test_text, test_status, NeverOver}
use Rattle.commands.specs.Traces.{verdict_answer, trace_answer, traced_status, trace_note}
use Rattle.commands.specs.Outcomes.{stop_status, status_of, note_of, refusal_text, script_note}
use Rattle.commands.specs.Performed.{OfAsked, OfSource, OfNoScript, OfItems, OfTable, OfTrace, IsDone}
use Rattle.commands.specs.Performed.{IsRefused, IsNoTable, IsTraced, IsNoTrace, IsFileCutShort, IsUnread}

-- neither a fault of the outside nor want of memory
abbrev pub IsUndisturbed : ℕ → Type 0
IsUndisturbed status = (status ≢ 7) × (status ≢ 8) × (status ≢ 9)

-- Where the words ask for a run of a file that the shelf tells and has, its bytes are accepted, and the status tells
-- neither a fault nor want of memory: out gained exactly the text of the run up to the asked ticks, the status is that
-- of its stop, and notes gained nothing.
abbrev pub Headline : Option Asked → ShelfChange → SinkChange → SinkChange → ℕ → Type 0
Headline asked shelf out notes status =
    (source bytes : List ℕ) (ticks : ℕ) (image : Image) →
    asked ≡ Some (SourceAsked source (work.Run ticks)) → told shelf.files source ≡ Holds bytes
    → IsAccepted bytes image →
    IsUndisturbed status →
    Gained out (text_of_run image ticks) × (status ≡ stop_status (stop_of image ticks)) × IsKept notes

-- The same where they ask for a run under a script that is there and is one: the run is that under its items.
abbrev pub HeadlineUnder : Option Asked → ShelfChange → SinkChange → SinkChange → ℕ → Type 0
HeadlineUnder asked shelf out notes status =
    (source bytes script text : List ℕ) (ticks : ℕ) (image : Image) (items : List (ℤ × Item)) →
    asked ≡ Some (ScriptAsked source script ticks) → told shelf.files source ≡ Holds bytes
    → told shelf.files script ≡ Holds text →
    IsAccepted bytes image → script_of text ≡ Ok items → IsUndisturbed status →
    Gained out (text_under items image ticks) × (status ≡ stop_status (stop_under items image ticks)) × IsKept notes

-- The same where they ask for a load whose source is accepted: the summary of its run up to tick 1,000,000 is written.
abbrev pub LoadTold : Option Asked → SinkChange → SinkChange → ℕ → Type 0
LoadTold asked out notes status =
    (tasks : ℕ) (image : Image) →
    asked ≡ Some (LoadAsked tasks) → IsAccepted (load_text tasks) image → IsUndisturbed status →
    Gained out (summary_under [] image DEFAULT_TICKS) × (status ≡ stop_status (stop_of image DEFAULT_TICKS))
    × IsKept notes

-- The same where they ask whether a source is accepted: `accepted` and a line feed are written, and the status is 0.
abbrev pub AcceptanceTold : Option Asked → ShelfChange → SinkChange → SinkChange → ℕ → Type 0
AcceptanceTold asked shelf out notes status =
    (source bytes : List ℕ) (image : Image) →
    asked ≡ Some (SourceAsked source work.Accept) → told shelf.files source ≡ Holds bytes → IsAccepted bytes image →
    IsUndisturbed status →
    Gained out (codes "accepted\n") × (status ≡ 0) × IsKept notes

-- The same where they ask for a test of a table: its lines are written and the status is 0 where every duty passes,
-- else 12; or the table is refused with status 13 and the note on its first line that is refused.
abbrev pub IsAnswer : TableTest → Result (List Duty) TableFault → SinkChange → SinkChange → ℕ → Type 0
IsAnswer test (Ok duties) out notes status = Gained out (test_text test duties)
    × (status ≡ test_status test duties) × IsKept notes
IsAnswer test (Err fault) out notes status = IsKept out × (status ≡ 13) × Gained notes (table_note fault)

abbrev pub TableTold : Option Asked → ShelfChange → SinkChange → SinkChange → ℕ → Type 0
TableTold asked shelf out notes status =
    (table bytes : List ℕ) (test : TableTest) →
    asked ≡ Some (TableAsked table test) → told shelf.files table ≡ Holds bytes → IsUndisturbed status →
    IsAnswer test (table_of bytes) out notes status

-- Where the demand test ends with status 0 and there is a busy period, which it then prints, no window of any length is
-- overrun.
abbrev pub BeyondTold : Option Asked → ShelfChange → ℕ → Type 0
BeyondTold asked shelf status =
    (table bytes : List ℕ) (duties : List Duty) (busy : ℕ) →
    asked ≡ Some (TableAsked table test.Demand) → told shelf.files table ≡ Holds bytes → table_of bytes ≡ Ok duties →
    status ≡ 0 → busy_of duties ≡ Some busy → NeverOver duties

-- The same where they ask something of a trace: its answer is written with status 0, or 10 where a law is broken; or
-- the trace is refused with status 11 and the note on its first line that is refused.
abbrev pub IsTraceAnswer : Result (List ℕ × Bool) ℕ → SinkChange → SinkChange → ℕ → Type 0
IsTraceAnswer (Ok answer) out notes status = Gained out answer.0 × (status ≡ traced_status answer.1) × IsKept notes
IsTraceAnswer (Err line) out notes status = IsKept out × (status ≡ 11) × Gained notes (trace_note line)

abbrev pub TraceTold : Option Asked → ShelfChange → SinkChange → SinkChange → ℕ → Type 0
TraceTold asked shelf out notes status =
    (trace bytes : List ℕ) (work : TraceWork) →
    asked ≡ Some (TraceAsked trace work) → told shelf.files trace ≡ Holds bytes → IsUndisturbed status →
    IsTraceAnswer (trace_answer work bytes) out notes status

-- Where they ask for the laws, one verdict is true of the trace, and it is told: the trace is a formed list of lines
-- that keeps the laws; or one that does so up to a line that breaks this law; or up to a line that is none, or with
-- which the list is not formed, or that ends beyond the most bytes.
pub record IsVerdictTold (bytes : List ℕ) (out notes : SinkChange) (status : ℕ) : Type 0 where
  pub verdict : Verdict
  pub says : Says (texts_in bytes) verdict
  pub only : (other : Verdict) → Says (texts_in bytes) other → verdict ≡ other
  pub told_so : IsTraceAnswer (verdict_answer verdict) out notes status

abbrev pub LawsTold : Option Asked → ShelfChange → SinkChange → SinkChange → ℕ → Type 0
LawsTold asked shelf out notes status =
    (trace bytes : List ℕ) →
    asked ≡ Some (TraceAsked trace question.Laws) → told shelf.files trace ≡ Holds bytes → IsUndisturbed status →
    IsVerdictTold bytes out notes status

-- Where they ask for the report: that of the lines of the trace is written, where they are formed and within the most
-- bytes; and where there are none such, the status is 11.
pub record IsReportTold (bytes : List ℕ) (out notes : SinkChange) (status : ℕ) : Type 0 where
  pub formed : (lines : List TraceLine) → IsFormedTrace (texts_in bytes) lines
      → Gained out (report_text lines) × (status ≡ 0) × IsKept notes
  pub refused : ((lines : List TraceLine) → IsFormedTrace (texts_in bytes) lines → ⊥) → status ≡ 11

abbrev pub ReportTold : Option Asked → ShelfChange → SinkChange → SinkChange → ℕ → Type 0
ReportTold asked shelf out notes status =
    (trace bytes : List ℕ) →
    asked ≡ Some (TraceAsked trace question.Report) → told shelf.files trace ≡ Holds bytes → IsUndisturbed status →
    IsReportTold bytes out notes status

-- the lines of the test that is asked for are written, and it ends with this status
abbrev pub IsPrinted : TableTest → List ℕ → SinkChange → ℕ → Type 0
IsPrinted test bytes out status =
    (duties : List Duty) × (table_of bytes ≡ Ok duties) × Gained out (test_text test duties)
    × (status ≡ test_status test duties)

-- A status of 0 to 3 comes where the file is there and what was asked for was written whole: of a source whose bytes
-- are accepted with the status of the run's stop, and 0 where no run was asked for; of a run under a script that is
-- there and is one the same; of a table with that of the test; of a trace with 0, where no law that was asked for is
-- broken.
abbrev pub DoneTold : Option Asked → ShelfChange → SinkChange → ℕ → Type 0
DoneTold None shelf out status = ⊥
DoneTold (Some (SourceAsked source work)) shelf out status =
    WhereTold (told shelf.files source) (λ bytes. (outcome : Outcome) × IsDone [] work bytes out outcome
    × (status ≡ status_of outcome))
DoneTold (Some (ScriptAsked source script ticks)) shelf out status =
    WhereTold (told shelf.files source) (λ bytes. OfItems shelf script (λ items.
    (outcome : Outcome) × IsDone items (work.Run ticks) bytes out outcome × (status ≡ status_of outcome)))
DoneTold (Some (LoadAsked tasks)) shelf out status =
    (outcome : Outcome) × IsDone [] (work.Summary DEFAULT_TICKS) (load_text tasks) out outcome
    × (status ≡ status_of outcome)
DoneTold (Some (TableAsked table test)) shelf out status =
    (status ≡ 0) × WhereTold (told shelf.files table) (λ bytes. IsPrinted test bytes out status)
DoneTold (Some (TraceAsked trace work)) shelf out status =
    (status ≡ 0) × WhereTold (told shelf.files trace) (λ bytes. IsTraced work bytes out false)

-- Lines were written that keep a law, and they are those of the run of the accepted bytes. Different lists of printable
-- lines have different texts, so where the law is that they are printable the text says which lines they are.
pub record WrittenKeeps (law : Image → List (ℤ × Item) → ℕ → List TraceLine
    → Type 0) (items : List (ℤ × Item)) (ticks : ℕ) (bytes : List ℕ) (out : SinkChange) : Type 0 where
  pub image : Image
  pub lines : List TraceLine
  pub accepted : IsAccepted bytes image
  pub are_of_run : lines ≡ lines_of_run image items ticks
  pub text : Gained out (text_of lines)
  pub keeps : law image items ticks lines

-- Where a run is asked for of a source that is there, without a script or under one that is there, the lines that were
-- written keep a law, which may speak of the image, the items and the bound too.
abbrev pub RunTold : (Image → List (ℤ × Item) → ℕ → List TraceLine → Type 0) → Option Asked → ShelfChange → SinkChange
    → Type 0
RunTold law None shelf out = Unit {0}
RunTold law (Some (SourceAsked source (work.Run ticks))) shelf out =
    WhereTold (told shelf.files source) (λ bytes. WrittenKeeps law [] ticks bytes out)
RunTold law (Some (SourceAsked source (work.Summary ticks))) shelf out = Unit {0}
RunTold law (Some (SourceAsked source work.Accept)) shelf out = Unit {0}
RunTold law (Some (ScriptAsked source script ticks)) shelf out =
    WhereTold (told shelf.files source) (λ bytes. OfItems shelf script
    (λ items. WrittenKeeps law items ticks bytes out))
RunTold law (Some (LoadAsked tasks)) shelf out = Unit {0}
RunTold law (Some (TableAsked table test)) shelf out = Unit {0}
RunTold law (Some (TraceAsked trace work)) shelf out = Unit {0}

-- the same of a law on lines alone
abbrev pub LawTold : (List TraceLine → Type 0) → Option Asked → ShelfChange → SinkChange → Type 0
LawTold law = RunTold (λ image items ticks lines. law lines)

-- 0 to 3 for a run, 4 to 9, 11 and 13 where a command was not done, 10 where a law is
-- broken, 12 where a test fails
abbrev pub IsStatus : ℕ → Type 0
IsStatus status = status ≤ 13

-- A source that is not accepted has status 4.
abbrev pub NotAccepted : Option Asked → ShelfChange → ℕ → Type 0
NotAccepted asked shelf status =
    (source bytes : List ℕ) (work : Work) → asked ≡ Some (SourceAsked source work)
    → told shelf.files source ≡ Holds bytes →
    ((image : Image) → IsAccepted bytes image → ⊥) → IsUndisturbed status → status ≡ 4

-- The same of a source that is to be run under a script, whatever that is.
abbrev pub NotAcceptedUnder : Option Asked → ShelfChange → ℕ → Type 0
NotAcceptedUnder asked shelf status =
    (source bytes script : List ℕ) (ticks : ℕ) → asked ≡ Some (ScriptAsked source script ticks)
    → told shelf.files source ≡ Holds bytes →
    ((image : Image) → IsAccepted bytes image → ⊥) → IsUndisturbed status → status ≡ 4

-- The same of the source of a load.
abbrev pub LoadNotAccepted : Option Asked → ℕ → Type 0
LoadNotAccepted asked status =
    (tasks : ℕ) → asked ≡ Some (LoadAsked tasks) → ((image : Image) → IsAccepted (load_text tasks) image → ⊥)
    → IsUndisturbed status → status ≡ 4

-- Status 4 comes only where a source is asked for, it is there, and its bytes are not accepted, and the note tells the
-- first reason.
abbrev pub RefusalTold : Option Asked → ShelfChange → SinkChange → Type 0
RefusalTold asked shelf notes =
    OfSource asked shelf (λ work bytes. (refusal : Refusal) × IsRefused bytes refusal
    × Gained notes (refusal_text refusal))

-- A script that is refused has status 5 where its source is accepted.
abbrev pub NoScript : Option Asked → ShelfChange → ℕ → Type 0
NoScript asked shelf status =
    (source bytes script text : List ℕ) (ticks : ℕ) (image : Image) (fault : ScriptFault) →
    asked ≡ Some (ScriptAsked source script ticks) → told shelf.files source ≡ Holds bytes
    → told shelf.files script ≡ Holds text →
    IsAccepted bytes image → script_of text ≡ Err fault → IsUndisturbed status → status ≡ 5

-- Status 5 comes only where a run under a script is asked for, its source is there and is accepted, its script is there
-- and is refused, and the note tells the first line.
abbrev pub ScriptRefusalTold : Option Asked → ShelfChange → SinkChange → Type 0
ScriptRefusalTold asked shelf notes = (fault : ScriptFault) × OfNoScript asked shelf fault
    × Gained notes (script_note fault)

-- Status 12 comes only where a test is asked for, its table is there and the test fails, and its lines are written.
abbrev pub FailureTold : Option Asked → ShelfChange → SinkChange → ℕ → Type 0
FailureTold asked shelf out status = OfTable asked shelf (λ test bytes. IsPrinted test bytes out status)

-- Status 13 comes only where a test is asked for, its table is there and is refused, and the note tells the first line.
abbrev pub TableRefusalTold : Option Asked → ShelfChange → SinkChange → Type 0
TableRefusalTold asked shelf notes =
    OfTable asked shelf (λ test bytes. (fault : TableFault) × IsNoTable fault bytes × Gained notes (table_note fault))

-- Status 10 comes only where the laws are asked for, the trace is there and breaks one, and this is written.
abbrev pub BreachTold : Option Asked → ShelfChange → SinkChange → Type 0
BreachTold asked shelf out = OfTrace asked shelf (λ work bytes. IsTraced work bytes out true)

-- Status 11 comes only where something is asked of a trace, it is there and is refused, and the note tells the first
-- line.
abbrev pub TraceRefusalTold : Option Asked → ShelfChange → SinkChange → Type 0
TraceRefusalTold asked shelf notes =
    OfTrace asked shelf (λ work bytes. (line : ℕ) × IsNoTrace line work bytes × Gained notes (trace_note line))

-- the cause of an outcome that is noted
abbrev pub IsCause : Option Asked → ShelfChange → SinkChange → Outcome → Type 0
IsCause asked shelf out (Ended stop) = ⊥
IsCause asked shelf out Accepted = ⊥
IsCause asked shelf out (Tested failed) = ⊥
IsCause asked shelf out (Traced broken) = ⊥
IsCause asked shelf out WordsRefused = asked ≡ None
IsCause asked shelf out (SourceRefused refusal) = OfSource asked shelf (λ work bytes. IsRefused bytes refusal)
IsCause asked shelf out (ScriptRefused fault) = OfNoScript asked shelf fault
IsCause asked shelf out (TableRefused fault) = OfTable asked shelf (λ test bytes. IsNoTable fault bytes)
IsCause asked shelf out (TraceRefused line) = OfTrace asked shelf (λ work bytes. IsNoTrace line work bytes)
IsCause asked shelf out ReadFault = IsUnread asked shelf
IsCause asked shelf out WriteFault = SinkFailed out
IsCause asked shelf out NoMemory = Unit {0}

-- Where a stream failed notes gained a prefix of the note that was being written: that on the fault of out, or the one
-- that the words, the shelf, the file or the memory gave cause for.
abbrev pub NoteTried : Option Asked → ShelfChange → SinkChange → SinkChange → Type 0
NoteTried asked shelf out notes =
    (outcome : Outcome) × (note : List ℕ) × IsCause asked shelf out outcome × (note_of outcome ≡ Some note)
    × GainedPrefix notes note

-- After a fault of writing and want of memory out gained nothing, or a prefix of the text that the words ask for, of
-- the file that is there and accepted, under a script that is there and is one, or that is a table or a trace.
abbrev pub PrefixTold : Option Asked → ShelfChange → SinkChange → Type 0
PrefixTold asked shelf out = IsKept out ⊎ OfAsked asked (λ a. IsFileCutShort a shelf out)
