-- What was done for the words: with the file that they name, with its bytes, with what these say.
use Rattle.std.specs.Prelude.{◌≡◌, ◌⊎◌, ℕ, ℤ, Bool, List, [], Option, Some, None, Result, Ok, Err, codes}
use Rattle.ann_base.specs.declared.faults.OrMemory.{OrMemory}
use Rattle.ann_base.specs.declared.faults.OrMemory.TheVariants as answer
use Rattle.ann_base.specs.Outside.{Lacks}
use Rattle.outside_bytes.specs.Files.{told, WhereTold}
use Rattle.trace_text.specs.Text.{ArePrintable}
use Rattle.profile_image.specs.declared.script_items.Item.{Item}
use Rattle.profile_image.specs.declared.image.Image.{Image}
use Rattle.profile_machine.specs.Run.{lines_of_run}
use Rattle.ada_verdicts.specs.declared.refusals.Refusal.{Refusal}
use Rattle.ada_verdicts.specs.Accepted.{Accepted as IsAccepted, judged}
use Rattle.event_script.specs.declared.faults.ScriptFault.{ScriptFault}
use Rattle.event_script.specs.Script.{script_of}
use Rattle.sched_tests.specs.declared.duties.Duty.{Duty}
use Rattle.sched_tests.specs.declared.duties.TableFault.{TableFault}
use Rattle.sched_tests.specs.Reading.{table_of}
use Rattle.commands.specs.declared.requests.Work.{Work}
use Rattle.commands.specs.declared.requests.Work.TheVariants as work
use Rattle.commands.specs.declared.requests.TableTest.{TableTest}
use Rattle.commands.specs.declared.requests.TraceWork.{TraceWork}
use Rattle.commands.specs.declared.outcomes.NoItems.{NoItems}
use Rattle.commands.specs.declared.outcomes.NoItems.TheVariants as missing
use Rattle.commands.specs.declared.outcomes.Outcome.{Outcome}
use Rattle.commands.specs.declared.outcomes.Outcome.TheVariants.{Ended, Accepted, Tested, Traced, WordsRefused}
use Rattle.commands.specs.declared.outcomes.Outcome.TheVariants.{SourceRefused, ScriptRefused, TableRefused}
use Rattle.commands.specs.declared.outcomes.Outcome.TheVariants.{TraceRefused, ReadFault, WriteFault, NoMemory}
use Rattle.load_runs.specs.Source.{load_text}
use Rattle.commands.specs.declared.requests.TheConstants.{DEFAULT_TICKS}
use Rattle.commands.specs.Requests.{Asked, SourceAsked, ScriptAsked, LoadAsked, TableAsked, TraceAsked}
use Rattle.commands.specs.Outside.{ShelfChange, SinkChange, ShelfFailed, SinkFailed, IsKept, Gained, GainedPrefix}
use Rattle.commands.specs.Runs.{text_under, summary_under, stop_under}
use Rattle.commands.specs.Tests.{test_text, is_failed, HoldsBeyond}
use Rattle.commands.specs.Traces.{trace_answer}

-- ---- what is asked of an accepted source, under the items of a script: the text and the outcome

abbrev pub text_for : List (ℤ × Item) → Work → Image → List ℕ
text_for items (work.Run ticks) image = text_under items image ticks
text_for items (work.Summary ticks) image = summary_under items image ticks
text_for items work.Accept image = codes "accepted\n"

abbrev pub outcome_for : List (ℤ × Item) → Work → Image → Outcome
outcome_for items (work.Run ticks) image = Ended (stop_under items image ticks)
outcome_for items (work.Summary ticks) image = Ended (stop_under items image ticks)
outcome_for items work.Accept image = Accepted

-- the lines of a run that is asked for are printable
abbrev pub ArePrintableFor : List (ℤ × Item) → Work → Image → Type 0
ArePrintableFor items (work.Run ticks) image = ArePrintable (lines_of_run image items ticks)
ArePrintableFor items (work.Summary ticks) image = Unit {0}
ArePrintableFor items work.Accept image = Unit {0}

-- ---- of an image

-- where the work was done, the text is written whole, and a run has printable lines; where not, a prefix of the text
abbrev pub ServesImage : List (ℤ × Item) → Work → Image → SinkChange → Outcome → Type 0
ServesImage items asked image out (Ended stop) =
    Gained out (text_for items asked image) × (outcome_for items asked image ≡ Ended stop)
    × ArePrintableFor items asked image
ServesImage items asked image out Accepted =
    Gained out (text_for items asked image) × (outcome_for items asked image ≡ Accepted)
    × ArePrintableFor items asked image
ServesImage items asked image out (Tested failed) = ⊥
ServesImage items asked image out (Traced broken) = ⊥
ServesImage items asked image out WordsRefused = ⊥
ServesImage items asked image out (SourceRefused refusal) = ⊥
ServesImage items asked image out (ScriptRefused fault) = ⊥
ServesImage items asked image out (TableRefused fault) = ⊥
ServesImage items asked image out (TraceRefused line) = ⊥
ServesImage items asked image out ReadFault = ⊥
ServesImage items asked image out WriteFault = SinkFailed out × GainedPrefix out (text_for items asked image)
ServesImage items asked image out NoMemory = GainedPrefix out (text_for items asked image)

-- ---- of the bytes of a source

-- they are accepted as one image alone, and the text that is asked for is written whole; a run has printable lines
pub record IsDone (items : List (ℤ
    × Item)) (asked : Work) (bytes : List ℕ) (out : SinkChange) (outcome : Outcome) : Type 0 where
  pub image : Image
  pub accepted : IsAccepted bytes image
  pub only : (other : Image) → IsAccepted bytes other → other ≡ image
  pub text : Gained out (text_for items asked image)
  pub outcome_is : outcome_for items asked image ≡ outcome
  pub printable : ArePrintableFor items asked image

-- the outcome of bytes without an image
abbrev pub without_image : OrMemory Refusal → Outcome
without_image (answer.Fault refusal) = SourceRefused refusal
without_image answer.Memory = NoMemory

-- they are not accepted, for this reason
pub record IsRefused (bytes : List ℕ) (refusal : Refusal) : Type 0 where
  pub reason : judged bytes ≡ Err refusal
  pub never : (image : Image) → IsAccepted bytes image → ⊥

-- a prefix of the text that is asked for is written, of the image of the accepted bytes
abbrev pub IsCutShort : List (ℤ × Item) → Work → List ℕ → SinkChange → Type 0
IsCutShort items asked bytes out = (image : Image) × IsAccepted bytes image
    × GainedPrefix out (text_for items asked image)

abbrev pub ServesBytes : Work → List ℕ → SinkChange → Outcome → Type 0
ServesBytes asked bytes out (Ended stop) = IsDone [] asked bytes out (Ended stop)
ServesBytes asked bytes out Accepted = IsDone [] asked bytes out Accepted
ServesBytes asked bytes out (Tested failed) = ⊥
ServesBytes asked bytes out (Traced broken) = ⊥
ServesBytes asked bytes out WordsRefused = ⊥
ServesBytes asked bytes out (SourceRefused refusal) = IsRefused bytes refusal × IsKept out
ServesBytes asked bytes out (ScriptRefused fault) = ⊥
ServesBytes asked bytes out (TableRefused fault) = ⊥
ServesBytes asked bytes out (TraceRefused line) = ⊥
ServesBytes asked bytes out ReadFault = ⊥
ServesBytes asked bytes out WriteFault = SinkFailed out × IsCutShort [] asked bytes out
ServesBytes asked bytes out NoMemory = IsKept out ⊎ IsCutShort [] asked bytes out

-- ---- of a script

-- the items of its bytes, or why there are none
abbrev pub ReadsScript : List ℕ → Result (List (ℤ × Item)) NoItems → Type 0
ReadsScript text (Ok items) = script_of text ≡ Ok items
ReadsScript text (Err (missing.Refused fault)) = script_of text ≡ Err fault
ReadsScript text (Err missing.Unread) = ⊥
ReadsScript text (Err missing.NoMemory) = Unit {0}

-- the script is there, and is refused for this reason; nothing where the shelf does not tell its files
abbrev pub IsNoScript : ShelfChange → List ℕ → ScriptFault → Type 0
IsNoScript shelf script fault = WhereTold (told shelf.files script) (λ text. script_of text ≡ Err fault)

-- the same of a script that is there and is one: this holds of its items
abbrev pub OfItems : ShelfChange → List ℕ → (List (ℤ × Item) → Type 0) → Type 0
OfItems shelf script fact =
    WhereTold (told shelf.files script) (λ text. (items : List (ℤ × Item)) × (script_of text ≡ Ok items) × fact items)

-- the shelf failed, or tells its files and lacks this one
abbrev pub LacksFile : ShelfChange → List ℕ → Type 0
LacksFile shelf name = Lacks shelf.files name (ShelfFailed shelf)

-- the items of a named script, or why there are none
abbrev pub ReadsFile : ShelfChange → List ℕ → Result (List (ℤ × Item)) NoItems → Type 0
ReadsFile shelf script (Ok items) = WhereTold (told shelf.files script) (λ text. script_of text ≡ Ok items)
ReadsFile shelf script (Err (missing.Refused fault)) = IsNoScript shelf script fault
ReadsFile shelf script (Err missing.Unread) = LacksFile shelf script
ReadsFile shelf script (Err missing.NoMemory) = Unit {0}

-- ---- of an image and a named script

abbrev pub ServesScript : List ℕ → ℕ → Image → ShelfChange → SinkChange → Outcome → Type 0
ServesScript script ticks image shelf out (Ended stop) =
    OfItems shelf script (λ items. ServesImage items (work.Run ticks) image out (Ended stop))
ServesScript script ticks image shelf out Accepted =
    OfItems shelf script (λ items. ServesImage items (work.Run ticks) image out Accepted)
ServesScript script ticks image shelf out (Tested failed) = ⊥
ServesScript script ticks image shelf out (Traced broken) = ⊥
ServesScript script ticks image shelf out WordsRefused = ⊥
ServesScript script ticks image shelf out (SourceRefused refusal) = ⊥
ServesScript script ticks image shelf out (ScriptRefused fault) = IsNoScript shelf script fault × IsKept out
ServesScript script ticks image shelf out (TableRefused fault) = ⊥
ServesScript script ticks image shelf out (TraceRefused line) = ⊥
ServesScript script ticks image shelf out ReadFault = LacksFile shelf script × IsKept out
ServesScript script ticks image shelf out WriteFault = SinkFailed out
    × OfItems shelf script (λ items. GainedPrefix out (text_for items (work.Run ticks) image))
ServesScript script ticks image shelf out NoMemory = IsKept out
    ⊎ OfItems shelf script (λ items. GainedPrefix out (text_for items (work.Run ticks) image))

-- ---- of the bytes of a source and a named script

-- some image is that of the accepted bytes
abbrev pub IsAcceptable : List ℕ → Type 0
IsAcceptable bytes = (image : Image) × IsAccepted bytes image

abbrev pub ServesUnder : List ℕ → ℕ → List ℕ → ShelfChange → SinkChange → Outcome → Type 0
ServesUnder script ticks bytes shelf out (Ended stop) =
    OfItems shelf script (λ items. IsDone items (work.Run ticks) bytes out (Ended stop))
ServesUnder script ticks bytes shelf out Accepted =
    OfItems shelf script (λ items. IsDone items (work.Run ticks) bytes out Accepted)
ServesUnder script ticks bytes shelf out (Tested failed) = ⊥
ServesUnder script ticks bytes shelf out (Traced broken) = ⊥
ServesUnder script ticks bytes shelf out WordsRefused = ⊥
ServesUnder script ticks bytes shelf out (SourceRefused refusal) = IsRefused bytes refusal × IsKept out
ServesUnder script ticks bytes shelf out (ScriptRefused fault) = IsAcceptable bytes × IsNoScript shelf script fault
    × IsKept out
ServesUnder script ticks bytes shelf out (TableRefused fault) = ⊥
ServesUnder script ticks bytes shelf out (TraceRefused line) = ⊥
ServesUnder script ticks bytes shelf out ReadFault = IsAcceptable bytes × LacksFile shelf script × IsKept out
ServesUnder script ticks bytes shelf out WriteFault = SinkFailed out
    × OfItems shelf script (λ items. IsCutShort items (work.Run ticks) bytes out)
ServesUnder script ticks bytes shelf out NoMemory = IsKept out
    ⊎ OfItems shelf script (λ items. IsCutShort items (work.Run ticks) bytes out)

-- ---- of the duties of a table

abbrev pub TestsDuties : TableTest → List Duty → SinkChange → Outcome → Type 0
TestsDuties test duties out (Ended stop) = ⊥
TestsDuties test duties out Accepted = ⊥
TestsDuties test duties out (Tested failed) = Gained out (test_text test duties) × (is_failed test duties ≡ failed)
    × HoldsBeyond test duties
TestsDuties test duties out (Traced broken) = ⊥
TestsDuties test duties out WordsRefused = ⊥
TestsDuties test duties out (SourceRefused refusal) = ⊥
TestsDuties test duties out (ScriptRefused fault) = ⊥
TestsDuties test duties out (TableRefused fault) = ⊥
TestsDuties test duties out (TraceRefused line) = ⊥
TestsDuties test duties out ReadFault = ⊥
TestsDuties test duties out WriteFault = SinkFailed out × GainedPrefix out (test_text test duties)
TestsDuties test duties out NoMemory = ⊥

-- ---- of the bytes of a table

-- they are read as a table, and what the test prints of it is written whole
pub record IsTested (test : TableTest) (bytes : List ℕ) (out : SinkChange) (failed : Bool) : Type 0 where
  pub duties : List Duty
  pub read : table_of bytes ≡ Ok duties
  pub text : Gained out (test_text test duties)
  pub failed_is : is_failed test duties ≡ failed
  pub beyond : HoldsBeyond test duties

-- they are refused as a table, for this reason
abbrev pub IsNoTable : TableFault → List ℕ → Type 0
IsNoTable fault bytes = table_of bytes ≡ Err fault

-- a prefix of what the test prints is written
abbrev pub IsTestCutShort : TableTest → List ℕ → SinkChange → Type 0
IsTestCutShort test bytes out = (duties : List Duty) × (table_of bytes ≡ Ok duties)
    × GainedPrefix out (test_text test duties)

abbrev pub TestsBytes : TableTest → List ℕ → SinkChange → Outcome → Type 0
TestsBytes test bytes out (Ended stop) = ⊥
TestsBytes test bytes out Accepted = ⊥
TestsBytes test bytes out (Tested failed) = IsTested test bytes out failed
TestsBytes test bytes out (Traced broken) = ⊥
TestsBytes test bytes out WordsRefused = ⊥
TestsBytes test bytes out (SourceRefused refusal) = ⊥
TestsBytes test bytes out (ScriptRefused fault) = ⊥
TestsBytes test bytes out (TableRefused fault) = IsNoTable fault bytes × IsKept out
TestsBytes test bytes out (TraceRefused line) = ⊥
TestsBytes test bytes out ReadFault = ⊥
TestsBytes test bytes out WriteFault = SinkFailed out × IsTestCutShort test bytes out
TestsBytes test bytes out NoMemory = IsKept out

-- ---- of the answer on a trace

abbrev pub TellsTrace : Result (List ℕ × Bool) ℕ → SinkChange → Outcome → Type 0
TellsTrace told out (Ended stop) = ⊥
TellsTrace told out Accepted = ⊥
TellsTrace told out (Tested failed) = ⊥
TellsTrace told out (Traced broken) = (text : List ℕ) × (told ≡ Ok (text, broken)) × Gained out text
TellsTrace told out WordsRefused = ⊥
TellsTrace told out (SourceRefused refusal) = ⊥
TellsTrace told out (ScriptRefused fault) = ⊥
TellsTrace told out (TableRefused fault) = ⊥
TellsTrace told out (TraceRefused line) = (told ≡ Err line) × IsKept out
TellsTrace told out ReadFault = ⊥
TellsTrace told out WriteFault = SinkFailed out
    × ((text : List ℕ) × (broken : Bool) × (told ≡ Ok (text, broken)) × GainedPrefix out text)
TellsTrace told out NoMemory = (text : List ℕ) × (broken : Bool) × (told ≡ Ok (text, broken)) × GainedPrefix out text

-- ---- of the bytes of a trace

-- what is asked of the trace is written whole
abbrev pub IsTraced : TraceWork → List ℕ → SinkChange → Bool → Type 0
IsTraced work bytes out broken = (text : List ℕ) × (trace_answer work bytes ≡ Ok (text, broken)) × Gained out text

-- it is refused for this line
abbrev pub IsNoTrace : ℕ → TraceWork → List ℕ → Type 0
IsNoTrace line work bytes = trace_answer work bytes ≡ Err line

-- a prefix of what is asked is written
abbrev pub IsTraceCutShort : TraceWork → List ℕ → SinkChange → Type 0
IsTraceCutShort work bytes out = (text : List ℕ) × (broken : Bool) × (trace_answer work bytes ≡ Ok (text, broken))
    × GainedPrefix out text

-- ---- of the words

-- a fact of what is asked
abbrev pub OfAsked : Option Asked → (Asked → Type 0) → Type 0
OfAsked None fact = ⊥
OfAsked (Some asked) fact = fact asked

-- A source is asked for, it is there, and this holds of its bytes; nothing where the shelf does not tell its files. The
-- source of a load is made, and lies on no shelf.
abbrev pub OfSource : Option Asked → ShelfChange → (Work → List ℕ → Type 0) → Type 0
OfSource None shelf fact = ⊥
OfSource (Some (SourceAsked source work)) shelf fact = WhereTold (told shelf.files source) (fact work)
OfSource (Some (ScriptAsked source script ticks)) shelf fact =
    WhereTold (told shelf.files source) (fact (work.Run ticks))
OfSource (Some (LoadAsked tasks)) shelf fact = fact (work.Summary DEFAULT_TICKS) (load_text tasks)
OfSource (Some (TableAsked table test)) shelf fact = ⊥
OfSource (Some (TraceAsked trace work)) shelf fact = ⊥

-- The same of the items under which it is run too: none without a script, else those of the script, which is there and
-- is one.
abbrev pub OfRun : Option Asked → ShelfChange → (List (ℤ × Item) → Work → List ℕ → Type 0) → Type 0
OfRun None shelf fact = ⊥
OfRun (Some (SourceAsked source work)) shelf fact = WhereTold (told shelf.files source) (fact [] work)
OfRun (Some (ScriptAsked source script ticks)) shelf fact =
    WhereTold (told shelf.files source) (λ bytes. OfItems shelf script (λ items. fact items (work.Run ticks) bytes))
OfRun (Some (LoadAsked tasks)) shelf fact = fact [] (work.Summary DEFAULT_TICKS) (load_text tasks)
OfRun (Some (TableAsked table test)) shelf fact = ⊥
OfRun (Some (TraceAsked trace work)) shelf fact = ⊥

-- A run under a script is asked for, its source is there and is accepted, and its script is there and is refused for
-- this reason.
abbrev pub OfNoScript : Option Asked → ShelfChange → ScriptFault → Type 0
OfNoScript None shelf fault = ⊥
OfNoScript (Some (SourceAsked source work)) shelf fault = ⊥
OfNoScript (Some (ScriptAsked source script ticks)) shelf fault =
    WhereTold (told shelf.files source) IsAcceptable × IsNoScript shelf script fault
OfNoScript (Some (LoadAsked tasks)) shelf fault = ⊥
OfNoScript (Some (TableAsked table test)) shelf fault = ⊥
OfNoScript (Some (TraceAsked trace work)) shelf fault = ⊥

-- A table is asked for, it is there, and this holds of its bytes.
abbrev pub OfTable : Option Asked → ShelfChange → (TableTest → List ℕ → Type 0) → Type 0
OfTable None shelf fact = ⊥
OfTable (Some (SourceAsked source work)) shelf fact = ⊥
OfTable (Some (ScriptAsked source script ticks)) shelf fact = ⊥
OfTable (Some (LoadAsked tasks)) shelf fact = ⊥
OfTable (Some (TableAsked table test)) shelf fact = WhereTold (told shelf.files table) (fact test)
OfTable (Some (TraceAsked trace work)) shelf fact = ⊥

-- the same of a trace
abbrev pub OfTrace : Option Asked → ShelfChange → (TraceWork → List ℕ → Type 0) → Type 0
OfTrace None shelf fact = ⊥
OfTrace (Some (SourceAsked source work)) shelf fact = ⊥
OfTrace (Some (ScriptAsked source script ticks)) shelf fact = ⊥
OfTrace (Some (LoadAsked tasks)) shelf fact = ⊥
OfTrace (Some (TableAsked table test)) shelf fact = ⊥
OfTrace (Some (TraceAsked trace work)) shelf fact = WhereTold (told shelf.files trace) (fact work)

-- a prefix of the text that is asked for is written, of the file that is there, or of both that are
abbrev pub IsFileCutShort : Asked → ShelfChange → SinkChange → Type 0
IsFileCutShort (SourceAsked source work) shelf out =
    WhereTold (told shelf.files source) (λ bytes. IsCutShort [] work bytes out)
IsFileCutShort (ScriptAsked source script ticks) shelf out =
    WhereTold (told shelf.files source) (λ bytes. OfItems shelf script
    (λ items. IsCutShort items (work.Run ticks) bytes out))
IsFileCutShort (LoadAsked tasks) shelf out = IsCutShort [] (work.Summary DEFAULT_TICKS) (load_text tasks) out
IsFileCutShort (TableAsked table test) shelf out =
    WhereTold (told shelf.files table) (λ bytes. IsTestCutShort test bytes out)
IsFileCutShort (TraceAsked trace work) shelf out =
    WhereTold (told shelf.files trace) (λ bytes. IsTraceCutShort work bytes out)

-- A file of a request is lacking: the shelf failed, or tells its files and lacks the named one. A script is read where
-- the source is accepted.
abbrev pub LacksNamed : Asked → ShelfChange → Type 0
LacksNamed (SourceAsked source work) shelf = LacksFile shelf source
LacksNamed (ScriptAsked source script ticks) shelf =
    LacksFile shelf source ⊎ (WhereTold (told shelf.files source) IsAcceptable × LacksFile shelf script)
LacksNamed (LoadAsked tasks) shelf = ⊥
LacksNamed (TableAsked table test) shelf = LacksFile shelf table
LacksNamed (TraceAsked trace work) shelf = LacksFile shelf trace

abbrev pub IsUnread : Option Asked → ShelfChange → Type 0
IsUnread asked shelf = OfAsked asked (λ a. LacksNamed a shelf)

abbrev pub Performs : Option Asked → ShelfChange → SinkChange → Outcome → Type 0
Performs asked shelf out (Ended stop) = OfRun asked shelf (λ items work bytes. IsDone items work bytes out (Ended stop))
Performs asked shelf out Accepted = OfRun asked shelf (λ items work bytes. IsDone items work bytes out Accepted)
Performs asked shelf out (Tested failed) = OfTable asked shelf (λ test bytes. IsTested test bytes out failed)
Performs asked shelf out (Traced broken) = OfTrace asked shelf (λ work bytes. IsTraced work bytes out broken)
Performs asked shelf out WordsRefused = (asked ≡ None) × IsKept out
Performs asked shelf out (SourceRefused refusal) = OfSource asked shelf (λ work bytes. IsRefused bytes refusal)
    × IsKept out
Performs asked shelf out (ScriptRefused fault) = OfNoScript asked shelf fault × IsKept out
Performs asked shelf out (TableRefused fault) = OfTable asked shelf (λ test bytes. IsNoTable fault bytes) × IsKept out
Performs asked shelf out (TraceRefused line) = OfTrace asked shelf (λ work bytes. IsNoTrace line work bytes)
    × IsKept out
Performs asked shelf out ReadFault = IsUnread asked shelf × IsKept out
Performs asked shelf out WriteFault = SinkFailed out × OfAsked asked (λ a. IsFileCutShort a shelf out)
Performs asked shelf out NoMemory = OfAsked asked (λ a. IsKept out ⊎ IsFileCutShort a shelf out)
