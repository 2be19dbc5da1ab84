-- From an image or duties to the bytes of a file, from these to the words.
use Rattle.std.proofs.Common.{◌≡◌, ◌<◌, ◌+◌, ◌⊎◌, inl, inr, ℕ, ℤ, Bool, false, List, [], ◌++◌, Some, Result, Ok, Err, sym, ap, subst, ◌∙◌, length, take, arith}
use Rattle.std.proofs.lemmas.Bool.{cases_lt}
use Rattle.std.proofs.lemmas.List.{take_all, length-take-le}
use Rattle.ann_base.specs.declared.faults.OrMemory.{OrMemory}
use Rattle.ann_base.specs.declared.faults.OrMemory.TheVariants as answer
use Rattle.ann_base.specs.Answers.{Answers}
use Rattle.outside_bytes.specs.Files.{ToldFile, Untold, Missing, Holds, told, WhereTold}
use Rattle.ada_lex.specs.declared.lexing.TheConstants.{MAX_SOURCE}
use Rattle.profile_image.specs.declared.script_items.Item.{Item}
use Rattle.profile_image.specs.declared.image.Image.{Image}
use Rattle.ada_verdicts.specs.declared.refusals.Refusal.{Refusal}
use Rattle.ada_verdicts.specs.Accepted.{Accepted as IsAccepted, judged, LongSourcesAreRefused}
use Rattle.sched_tests.specs.declared.duties.TheConstants.{TABLE_BYTES}
use Rattle.sched_tests.specs.declared.duties.Duty.{Duty}
use Rattle.sched_tests.specs.Reading.{table_of, CutTablesAreReadAlike}
use Rattle.trace_text.specs.declared.events.Who.TheVariants as subject
use Rattle.trace_text.specs.Queue.{TraceLine, last_from}
use Rattle.trace_text.specs.Laws.{Formed}
use Rattle.run_report.specs.Accounts.{accounts_of, run_of, idle_of}
use Rattle.run_report.specs.Kept.{Reported, reported_of, accounts_in, StandsFor}
use Rattle.run_report.specs.Texts.{account_texts, totals_text, report_text, text_in}
use Rattle.trace_files.specs.declared.reporting.FileReport.{FileReport}
use Rattle.trace_files.specs.declared.reporting.FileReport.TheVariants as reported
use Rattle.trace_files.specs.Reported.{IsReported}
use Rattle.trace_laws.specs.declared.verdicts.Verdict.{Verdict}
use Rattle.trace_laws.specs.Verdicts.{laws_answer}
use Rattle.commands.specs.declared.requests.TraceWork.TheVariants as question
use Rattle.commands.specs.declared.outcomes.Outcome.{Outcome}
use Rattle.commands.specs.declared.outcomes.Outcome.TheVariants.{Ended, Accepted, Tested, Traced, WordsRefused, SourceRefused}
use Rattle.commands.specs.declared.outcomes.Outcome.TheVariants.{ScriptRefused, TableRefused, TraceRefused, ReadFault, WriteFault, NoMemory}
use Rattle.commands.specs.declared.requests.Work.{Work}
use Rattle.commands.specs.declared.requests.TableTest.{TableTest}
use Rattle.commands.specs.declared.requests.TraceWork.{TraceWork}
use Rattle.load_runs.specs.Source.{load_text}
use Rattle.commands.specs.declared.requests.TheConstants.{DEFAULT_TICKS}
use Rattle.commands.specs.declared.requests.Work.TheVariants as work
use Rattle.commands.specs.Requests.{SourceAsked, LoadAsked, TableAsked, TraceAsked}
use Rattle.commands.specs.Outside.{ShelfChange, SinkChange, IsKept, Gained, GainedPrefix}
use Rattle.commands.specs.Traces.{trace_answer, verdict_answer, report_answer, file_answer}
use Rattle.commands.specs.Performed.{text_for, outcome_for, ArePrintableFor, without_image, ServesImage, ServesBytes, TestsDuties}
use Rattle.commands.specs.Performed.{TestsBytes, TellsTrace, Performs, IsDone, IsRefused, IsCutShort, IsTested, IsNoTable, IsTestCutShort}

-- ---- from an image to the bytes

abbrev pub accepted_as : Image → Result Image Refusal
accepted_as image = Ok image

abbrev image_in : Image → Result Image Refusal → Image
image_in other (Ok image) = image
image_in other (Err refusal) = other

same_image : (a b : Image) → accepted_as a ≡ Ok b → a ≡ b
same_image a b h = ap (image_in a) h

-- the image of accepted bytes is the only one
abbrev pub IsAnswered : List ℕ → Image → Type 0
IsAnswered bytes image = (other : Image) → IsAccepted bytes other → accepted_as other ≡ Ok image

pub is_done : (items : List (ℤ × Item)) (asked : Work) (bytes : List ℕ) (image : Image) (out : SinkChange) (o : Outcome) → IsAccepted bytes image
    → IsAnswered bytes image →
    Gained out (text_for items asked image) → outcome_for items asked image ≡ o → ArePrintableFor items asked image → IsDone items asked bytes out o
is_done items asked bytes image out o accepted only text is printable =
    record {
      image = image;
      accepted = accepted;
      only = λ other fits. same_image other image (only other fits);
      text = text;
      outcome_is = is;
      printable = printable;
    }

-- what is done with the image of accepted bytes is done with the bytes
pub accepted_served : (asked : Work) (bytes : List ℕ) (image : Image) (out : SinkChange) (o : Outcome) → IsAccepted bytes image →
    IsAnswered bytes image → ServesImage [] asked image out o → ServesBytes asked bytes out o
accepted_served asked bytes image out (Ended stop) accepted only h = is_done [] asked bytes image out (Ended stop) accepted only h.0 h.1 h.2
accepted_served asked bytes image out Accepted accepted only h = is_done [] asked bytes image out Accepted accepted only h.0 h.1 h.2
accepted_served asked bytes image out (Tested failed) accepted only h = h
accepted_served asked bytes image out (Traced broken) accepted only h = h
accepted_served asked bytes image out WordsRefused accepted only h = h
accepted_served asked bytes image out (SourceRefused refusal) accepted only h = absurd h
accepted_served asked bytes image out (ScriptRefused fault) accepted only h = h
accepted_served asked bytes image out (TableRefused fault) accepted only h = h
accepted_served asked bytes image out (TraceRefused line) accepted only h = h
accepted_served asked bytes image out ReadFault accepted only h = h
accepted_served asked bytes image out WriteFault accepted only h = (h.0, (image, accepted, h.1))
accepted_served asked bytes image out NoMemory accepted only h = inr (image, accepted, h)

pub never : (image : Image) (refusal : Refusal) → accepted_as image ≡ Err refusal → ⊥
never image refusal h = cc

-- bytes that are refused are not accepted; where memory ran out nothing is written
pub refused_served : (asked : Work) (bytes : List ℕ) (refused : OrMemory Refusal) (out : SinkChange) → Answers {X = Image} (Err refused) (judged bytes) →
    ((image : Image) → IsAccepted bytes image → Answers {X = Image} (Err refused) (accepted_as image)) → IsKept out
    → ServesBytes asked bytes out (without_image refused)
refused_served asked bytes (answer.Fault refusal) out reason only kept = (
  record { reason = reason; never = λ image fits. never image refusal (only image fits) },
  kept,
)
refused_served asked bytes answer.Memory out reason only kept = inl kept

-- ---- from the bytes that were read to those of the file

-- they are the same, or both are too long
abbrev pub IsReadAs : List ℕ → List ℕ → Type 0
IsReadAs bytes file = (bytes ≡ file) ⊎ ((MAX_SOURCE < length bytes) × (MAX_SOURCE < length file))

pub read_as : (bytes file : List ℕ) → bytes ≡ take (MAX_SOURCE + 1) file → IsReadAs bytes file
read_as bytes file read = elim (cases_lt MAX_SOURCE (length file)) [
  | inl long ↦ inr (omega (arith, ap length read, length-take-le (MAX_SOURCE + 1) file (omega (arith, long))), long)
  | inr short ↦ inl (read ∙ take_all (MAX_SOURCE + 1) file (omega (arith, short)))
]

-- what is refused of the bytes is refused of the file
pub refused_file : (bytes file : List ℕ) (refusal : Refusal) → LongSourcesAreRefused → IsReadAs bytes file → IsRefused bytes refusal → IsRefused file refusal
refused_file bytes file refusal law (inl same) refused = subst (λ source. IsRefused source refusal) same refused
refused_file bytes file refusal law (inr long) refused = record {
  reason = (law file long.1).0 ∙ sym (law bytes long.0).0 ∙ refused.reason;
  never = (law file long.1).1;
}

pub done_file : (items : List (ℤ × Item)) (asked : Work) (bytes file : List ℕ) (out : SinkChange) (o : Outcome) → LongSourcesAreRefused → IsReadAs bytes file
    → IsDone items asked bytes out o → IsDone items asked file out o
done_file items asked bytes file out o law (inl same) done = subst (λ source. IsDone items asked source out o) same done
done_file items asked bytes file out o law (inr long) done = absurd ((law bytes long.0).1 done.image done.accepted)

pub cut_file : (items : List (ℤ × Item)) (asked : Work) (bytes file : List ℕ) (out : SinkChange) → LongSourcesAreRefused → IsReadAs bytes file
    → IsCutShort items asked bytes out → IsCutShort items asked file out
cut_file items asked bytes file out law (inl same) cut = subst (λ source. IsCutShort items asked source out) same cut
cut_file items asked bytes file out law (inr long) cut = absurd ((law bytes long.0).1 cut.0 cut.1)

-- a fact of the bytes that were read is one of the file
pub where_told : (file : ToldFile) (bytes : List ℕ) (F : List ℕ → Type 0) → WhereTold file (λ source. bytes ≡ take (MAX_SOURCE + 1) source) →
    ((source : List ℕ) → IsReadAs bytes source → F source) → WhereTold file F
where_told Untold bytes F read holds = tt
where_told Missing bytes F read holds = read
where_told (Holds source) bytes F read holds = holds source (read_as bytes source read)

-- what is done with the bytes that were read is done for the words
pub bytes_served : (source : List ℕ) (asked : Work) (shelf : ShelfChange) (out : SinkChange) (bytes : List ℕ) (o : Outcome) → LongSourcesAreRefused →
    WhereTold (told shelf.files source) (λ file. bytes ≡ take (MAX_SOURCE + 1) file) → ServesBytes asked bytes out o
    → Performs (Some (SourceAsked source asked)) shelf out o
bytes_served source asked shelf out bytes (Ended stop) law read h =
    where_told (told shelf.files source) bytes (λ file. IsDone [] asked file out (Ended stop)) read
    (λ file same. done_file [] asked bytes file out (Ended stop) law same h)
bytes_served source asked shelf out bytes Accepted law read h =
    where_told (told shelf.files source) bytes (λ file. IsDone [] asked file out Accepted) read
    (λ file same. done_file [] asked bytes file out Accepted law same h)
bytes_served source asked shelf out bytes (Tested failed) law read h = absurd h
bytes_served source asked shelf out bytes (Traced broken) law read h = absurd h
bytes_served source asked shelf out bytes WordsRefused law read h = absurd h
bytes_served source asked shelf out bytes (SourceRefused refusal) law read h =
    (where_told (told shelf.files source) bytes (λ file. IsRefused file refusal) read (λ file same. refused_file bytes file refusal law same h.0), h.1)
bytes_served source asked shelf out bytes (ScriptRefused fault) law read h = absurd h
bytes_served source asked shelf out bytes (TableRefused fault) law read h = absurd h
bytes_served source asked shelf out bytes (TraceRefused line) law read h = absurd h
bytes_served source asked shelf out bytes ReadFault law read h = absurd h
bytes_served source asked shelf out bytes WriteFault law read h =
    (h.0, where_told (told shelf.files source) bytes (λ file. IsCutShort [] asked file out) read (λ file same. cut_file [] asked bytes file out law same h.1))
bytes_served source asked shelf out bytes NoMemory law read (inl kept) = inl kept
bytes_served source asked shelf out bytes NoMemory law read (inr cut) =
    inr (where_told (told shelf.files source) bytes (λ file. IsCutShort [] asked file out) read (λ file same. cut_file [] asked bytes file out law same cut))

-- what is done with the source of a load is done for the words
pub load_served : (tasks : ℕ) (shelf : ShelfChange) (out : SinkChange) (o : Outcome) → ServesBytes (work.Summary DEFAULT_TICKS) (load_text tasks) out o
    → Performs (Some (LoadAsked tasks)) shelf out o
load_served tasks shelf out (Ended stop) h = h
load_served tasks shelf out Accepted h = h
load_served tasks shelf out (Tested failed) h = absurd h
load_served tasks shelf out (Traced broken) h = absurd h
load_served tasks shelf out WordsRefused h = absurd h
load_served tasks shelf out (SourceRefused refusal) h = h
load_served tasks shelf out (ScriptRefused fault) h = absurd h
load_served tasks shelf out (TableRefused fault) h = absurd h
load_served tasks shelf out (TraceRefused line) h = absurd h
load_served tasks shelf out ReadFault h = absurd h
load_served tasks shelf out WriteFault h = h
load_served tasks shelf out NoMemory h = h

-- ---- tables

-- what is done with the duties of a table is done with its bytes
pub duties_tested : (test : TableTest) (bytes : List ℕ) (duties : List Duty) (out : SinkChange) (o : Outcome) → table_of bytes ≡ Ok duties
    → TestsDuties test duties out o → TestsBytes test bytes out o
duties_tested test bytes duties out (Ended stop) read h = h
duties_tested test bytes duties out Accepted read h = h
duties_tested test bytes duties out (Tested failed) read h = record { duties = duties; read = read; text = h.0; failed_is = h.1; beyond = h.2 }
duties_tested test bytes duties out (Traced broken) read h = h
duties_tested test bytes duties out WordsRefused read h = h
duties_tested test bytes duties out (SourceRefused refusal) read h = h
duties_tested test bytes duties out (ScriptRefused fault) read h = h
duties_tested test bytes duties out (TableRefused fault) read h = absurd h
duties_tested test bytes duties out (TraceRefused line) read h = h
duties_tested test bytes duties out ReadFault read h = h
duties_tested test bytes duties out WriteFault read h = (h.0, (duties, read, h.1))
duties_tested test bytes duties out NoMemory read h = absurd h

-- the bytes that were read say the same as those of the file
same_table : (bytes file : List ℕ) → CutTablesAreReadAlike → bytes ≡ take (TABLE_BYTES + 1) file → table_of bytes ≡ table_of file
same_table bytes file law read = ap table_of read ∙ law file

tested_file : (test : TableTest) (bytes file : List ℕ) (out : SinkChange) (failed : Bool) → table_of bytes ≡ table_of file → IsTested test bytes out failed
    → IsTested test file out failed
tested_file test bytes file out failed same h = record {
  duties = h.duties;
  read = sym same ∙ h.read;
  text = h.text;
  failed_is = h.failed_is;
  beyond = h.beyond;
}

table_told : (file : ToldFile) (bytes : List ℕ) (F : List ℕ → Type 0) → CutTablesAreReadAlike → WhereTold file (λ table. bytes ≡ take (TABLE_BYTES + 1) table) →
    ((table : List ℕ) → table_of bytes ≡ table_of table → F table) → WhereTold file F
table_told Untold bytes F law read holds = tt
table_told Missing bytes F law read holds = read
table_told (Holds table) bytes F law read holds = holds table (same_table bytes table law read)

pub bytes_tested : (table : List ℕ) (test : TableTest) (shelf : ShelfChange) (out : SinkChange) (bytes : List ℕ) (o : Outcome) → CutTablesAreReadAlike →
    WhereTold (told shelf.files table) (λ file. bytes ≡ take (TABLE_BYTES + 1) file) → TestsBytes test bytes out o
    → Performs (Some (TableAsked table test)) shelf out o
bytes_tested table test shelf out bytes (Ended stop) law read h = absurd h
bytes_tested table test shelf out bytes Accepted law read h = absurd h
bytes_tested table test shelf out bytes (Tested failed) law read h =
    table_told (told shelf.files table) bytes (λ file. IsTested test file out failed) law read (λ file same. tested_file test bytes file out failed same h)
bytes_tested table test shelf out bytes (Traced broken) law read h = absurd h
bytes_tested table test shelf out bytes WordsRefused law read h = absurd h
bytes_tested table test shelf out bytes (SourceRefused refusal) law read h = absurd h
bytes_tested table test shelf out bytes (ScriptRefused fault) law read h = absurd h
bytes_tested table test shelf out bytes (TableRefused fault) law read h =
    (table_told (told shelf.files table) bytes (λ file. IsNoTable fault file) law read (λ file same. sym same ∙ h.0), h.1)
bytes_tested table test shelf out bytes (TraceRefused line) law read h = absurd h
bytes_tested table test shelf out bytes ReadFault law read h = absurd h
bytes_tested table test shelf out bytes WriteFault law read h =
    (h.0, table_told (told shelf.files table) bytes (λ file. IsTestCutShort test file out) law read (λ file same. (h.1.0, sym same ∙ h.1.1, h.1.2)))
bytes_tested table test shelf out bytes NoMemory law read h = inl h

-- ---- traces

-- a fact of the bytes that are told
same_answer : (file : ToldFile) (work : TraceWork) (told_so : Result (List ℕ × Bool) ℕ) (F : Result (List ℕ × Bool) ℕ → Type 0)
    → WhereTold file (λ bytes. trace_answer work bytes ≡ told_so) → F told_so → WhereTold file (λ bytes. F (trace_answer work bytes))
same_answer Untold work told_so F is h = tt
same_answer Missing work told_so F is h = is
same_answer (Holds bytes) work told_so F is h = subst F (sym is) h

-- what is told of the answer on a trace is done for the words
pub answer_told : (trace : List ℕ) (work : TraceWork) (shelf : ShelfChange) (out : SinkChange) (answer : Result (List ℕ × Bool) ℕ) (o : Outcome) →
    WhereTold (told shelf.files trace) (λ bytes. trace_answer work bytes ≡ answer) → TellsTrace answer out o
    → Performs (Some (TraceAsked trace work)) shelf out o
answer_told trace work shelf out answer (Ended stop) is h = absurd h
answer_told trace work shelf out answer Accepted is h = absurd h
answer_told trace work shelf out answer (Tested failed) is h = absurd h
answer_told trace work shelf out answer (Traced broken) is h =
    same_answer (told shelf.files trace) work answer (λ a. (text : List ℕ) × (a ≡ Ok (text, broken)) × Gained out text) is h
answer_told trace work shelf out answer WordsRefused is h = absurd h
answer_told trace work shelf out answer (SourceRefused refusal) is h = absurd h
answer_told trace work shelf out answer (ScriptRefused fault) is h = absurd h
answer_told trace work shelf out answer (TableRefused fault) is h = absurd h
answer_told trace work shelf out answer (TraceRefused line) is h = (same_answer (told shelf.files trace) work answer (λ a. a ≡ Err line) is h.0, h.1)
answer_told trace work shelf out answer ReadFault is h = absurd h
answer_told trace work shelf out answer WriteFault is h = (
  h.0,
  same_answer (told shelf.files trace) work answer (λ a. (text : List ℕ) × (broken : Bool) × (a ≡ Ok (text, broken)) × GainedPrefix out text) is h.1,
)
answer_told trace work shelf out answer NoMemory is h =
    inr (same_answer (told shelf.files trace) work answer (λ a. (text : List ℕ) × (broken : Bool) × (a ≡ Ok (text, broken)) × GainedPrefix out text) is h)

-- the answer of a verdict
pub verdict_told : (file : ToldFile) (verdict : Verdict) → WhereTold file (λ bytes. laws_answer bytes ≡ verdict)
    → WhereTold file (λ bytes. trace_answer question.Laws bytes ≡ verdict_answer verdict)
verdict_told Untold verdict is = tt
verdict_told Missing verdict is = is
verdict_told (Holds bytes) verdict is = ap verdict_answer is

-- the answer of a report: what is kept of the lines is what they show
kept_text : ((lines : List TraceLine) → Formed lines → accounts_in (reported_of lines) ≡ accounts_of lines)
    → ((lines : List TraceLine) → Formed lines → (reported_of lines).agent_run ≡ run_of subject.Agent lines)
    → ((lines : List TraceLine) → Formed lines → (reported_of lines).idle ≡ idle_of lines) →
    ((lines : List TraceLine) → (reported_of lines).seen.tick ≡ last_from 0 lines) → (lines : List TraceLine) (report : Reported) → Formed lines
    → StandsFor report lines → report_text lines ≡ text_in report
kept_text accounts agent idle ticks lines report formed stands =
    sym (ap text_in stands
    ∙ ap (λ xs. account_texts xs ++ totals_text (reported_of lines).agent_run (reported_of lines).idle (reported_of lines).seen.tick) (accounts lines formed)
    ∙ ap (λ n. account_texts (accounts_of lines) ++ totals_text n (reported_of lines).idle (reported_of lines).seen.tick) (agent lines formed)
    ∙ ap (λ n. account_texts (accounts_of lines) ++ totals_text (run_of subject.Agent lines) n (reported_of lines).seen.tick) (idle lines formed)
    ∙ ap (λ n. account_texts (accounts_of lines) ++ totals_text (run_of subject.Agent lines) (idle_of lines) n) (ticks lines))

report_here : ((lines : List TraceLine) (report : Reported) → Formed lines → StandsFor report lines → report_text lines ≡ text_in report)
    → (bytes : List ℕ) (told_so : FileReport) → IsReported bytes told_so → trace_answer question.Report bytes ≡ file_answer told_so
report_here text bytes (reported.Formed report) h = ap report_answer h.1 ∙ ap (λ t. Ok (t, false)) (text h.0 report h.2 h.3)
report_here text bytes (reported.Refused line) h = ap report_answer h

file_told : (file : ToldFile) (told_so : FileReport) → ((bytes : List ℕ) → IsReported bytes told_so → trace_answer question.Report bytes ≡ file_answer told_so)
    → WhereTold file (λ bytes. IsReported bytes told_so) → WhereTold file (λ bytes. trace_answer question.Report bytes ≡ file_answer told_so)
file_told Untold told_so f h = tt
file_told Missing told_so f h = h
file_told (Holds bytes) told_so f h = f bytes h

pub reported_told : ((lines : List TraceLine) → Formed lines → accounts_in (reported_of lines) ≡ accounts_of lines)
    → ((lines : List TraceLine) → Formed lines → (reported_of lines).agent_run ≡ run_of subject.Agent lines)
    → ((lines : List TraceLine) → Formed lines → (reported_of lines).idle ≡ idle_of lines) →
    ((lines : List TraceLine) → (reported_of lines).seen.tick ≡ last_from 0 lines) → (file : ToldFile) (told_so : FileReport)
    → WhereTold file (λ bytes. IsReported bytes told_so) → WhereTold file (λ bytes. trace_answer question.Report bytes ≡ file_answer told_so)
reported_told accounts agent idle ticks file told_so h = file_told file told_so (λ bytes. report_here (kept_text accounts agent idle ticks) bytes told_so) h
