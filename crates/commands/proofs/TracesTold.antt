-- What is told of a trace.
use Rattle.std.proofs.Common.{◌≡◌, ℕ, Bool, List, Option, Result, Ok, Err, refl, sym, subst}
use Rattle.commands.specs.declared.outcomes.Outcome.{Outcome}
use Rattle.commands.specs.declared.outcomes.Outcome.TheVariants.{Ended, Accepted, Tested, Traced, WordsRefused, SourceRefused}
use Rattle.commands.specs.declared.outcomes.Outcome.TheVariants.{ScriptRefused, TableRefused, TraceRefused, ReadFault, WriteFault, NoMemory}
use Rattle.trace_laws.specs.declared.verdicts.Verdict.{Verdict}
use Rattle.trace_laws.specs.Verdicts.{texts_in, laws_answer, Says}
use Rattle.commands.specs.declared.requests.TraceWork.{TraceWork}
use Rattle.commands.specs.declared.requests.TraceWork.TheVariants as question
use Rattle.trace_text.specs.Queue.{TraceLine}
use Rattle.trace_files.specs.Reported.{formed_lines, IsFormedTrace}
use Rattle.commands.specs.Traces.{trace_answer, report_answer, trace_note}
use Rattle.commands.specs.Requests.{Asked, TraceAsked}
use Rattle.commands.specs.Outside.{ShelfChange, SinkChange, IsKept, Gained}
use Rattle.commands.specs.Outcomes.{status_of, Concludes}
use Rattle.commands.specs.Performed.{IsDone, IsRefused, IsTested, IsNoTable, IsTraced, IsNoTrace, Performs}
use Rattle.commands.specs.Statuses.{IsTraceAnswer, TraceTold, LawsTold, ReportTold}
use Rattle.commands.proofs.Conclusions.{concluded, failed}
use Rattle.commands.proofs.AskedFiles.{at_trace, trace_no_source, trace_no_run, trace_no_script, trace_no_table, no_request}
use Rattle.commands.proofs.RunsTold.{disturbed}

-- ---- what is asked of a trace is told

traced : (w : TraceWork) (bytes : List ℕ) (out notes : SinkChange) (broken : Bool) (status : ℕ) → IsTraced w bytes out broken
    → status ≡ status_of (Traced broken) → IsKept notes → IsTraceAnswer (trace_answer w bytes) out notes status
traced w bytes out notes broken status h is kept = subst (λ answer. IsTraceAnswer answer out notes status) (sym h.1) (h.2, is, kept)

no_trace : (w : TraceWork) (bytes : List ℕ) (out notes : SinkChange) (line : ℕ) (status : ℕ) → IsNoTrace line w bytes → IsKept out → status ≡ 11
    → Gained notes (trace_note line) → IsTraceAnswer (trace_answer w bytes) out notes status
no_trace w bytes out notes line status h kept is note = subst (λ answer. IsTraceAnswer answer out notes status) (sym h) (kept, is, note)

pub trace_told : (asked : Option Asked) (shelf : ShelfChange) (out notes : SinkChange) (o : Outcome) (status : ℕ) → Performs asked shelf out o
    → Concludes o notes status → TraceTold asked shelf out notes status
trace_told asked shelf out notes (Ended stop) status p c trace bytes w is there u =
    absurd (trace_no_run asked shelf trace w (λ xs x b. IsDone xs x b out (Ended stop)) is p)
trace_told asked shelf out notes Accepted status p c trace bytes w is there u =
    absurd (trace_no_run asked shelf trace w (λ xs x b. IsDone xs x b out Accepted) is p)
trace_told asked shelf out notes (Tested failed) status p c trace bytes w is there u =
    absurd (trace_no_table asked shelf trace w (λ x b. IsTested x b out failed) is p)
trace_told asked shelf out notes (Traced broken) status p c trace bytes w is there u =
    let told = concluded (Traced broken) notes status c u.1 in
    traced w bytes out notes broken status (at_trace asked shelf trace w bytes (λ x b. IsTraced x b out broken) is there p) told.0 told.1
trace_told asked shelf out notes WordsRefused status p c trace bytes w is there u = absurd (no_request asked (TraceAsked trace w) p.0 is)
trace_told asked shelf out notes (SourceRefused refusal) status p c trace bytes w is there u =
    absurd (trace_no_source asked shelf trace w (λ x b. IsRefused b refusal) is p.0)
trace_told asked shelf out notes (ScriptRefused fault) status p c trace bytes w is there u = absurd (trace_no_script asked shelf trace w fault is p.0)
trace_told asked shelf out notes (TableRefused fault) status p c trace bytes w is there u =
    absurd (trace_no_table asked shelf trace w (λ x b. IsNoTable fault b) is p.0)
trace_told asked shelf out notes (TraceRefused line) status p c trace bytes w is there u =
    let told = concluded (TraceRefused line) notes status c u.1 in
    no_trace w bytes out notes line status (at_trace asked shelf trace w bytes (λ x b. IsNoTrace line x b) is there p.0) p.1 told.0 told.1
trace_told asked shelf out notes ReadFault status p c trace bytes w is there u = absurd (disturbed ReadFault notes status 7 c refl u.0 u.1)
trace_told asked shelf out notes WriteFault status p c trace bytes w is there u = absurd (disturbed WriteFault notes status 8 c refl u.1 u.1)
trace_told asked shelf out notes NoMemory status p c trace bytes w is there u = absurd (disturbed NoMemory notes status 9 c refl u.2 u.1)

-- the laws, by what a verdict says
pub laws_told : ((bytes : List ℕ) → Says (texts_in bytes) (laws_answer bytes))
    → ((bytes : List ℕ) (v : Verdict) → Says (texts_in bytes) v → laws_answer bytes ≡ v) →
    (asked : Option Asked) (shelf : ShelfChange) (out notes : SinkChange) (o : Outcome) (status : ℕ) → Performs asked shelf out o → Concludes o notes status
    → LawsTold asked shelf out notes status
laws_told says only asked shelf out notes o status p c trace bytes is there u =
    record {
      verdict = laws_answer bytes;
      says = says bytes;
      only = only bytes;
      told_so = trace_told asked shelf out notes o status p c trace bytes question.Laws is there u;
    }

-- the report, by what a formed trace is
no_lines : (bytes : List ℕ) (out notes : SinkChange) (status : ℕ) (answer : Result (List TraceLine) ℕ) → formed_lines bytes ≡ answer
    → ((lines : List TraceLine) → formed_lines bytes ≡ Ok lines → IsFormedTrace (texts_in bytes) lines) →
    IsTraceAnswer (report_answer answer) out notes status → ((lines : List TraceLine) → IsFormedTrace (texts_in bytes) lines → ⊥) → status ≡ 11
no_lines bytes out notes status (Ok lines) is formed h none = absurd (none lines (formed lines is))
no_lines bytes out notes status (Err line) is formed h none = h.1

pub report_told : ((bytes : List ℕ) (lines : List TraceLine) → formed_lines bytes ≡ Ok lines → IsFormedTrace (texts_in bytes) lines)
    → ((bytes : List ℕ) (lines : List TraceLine) → IsFormedTrace (texts_in bytes) lines → formed_lines bytes ≡ Ok lines) →
    (asked : Option Asked) (shelf : ShelfChange) (out notes : SinkChange) (o : Outcome) (status : ℕ) → Performs asked shelf out o → Concludes o notes status
    → ReportTold asked shelf out notes status
report_told formed only asked shelf out notes o status p c trace bytes is there u =
    let h = trace_told asked shelf out notes o status p c trace bytes question.Report is there u in
    record {
      formed = λ lines trace_is. subst (λ answer. IsTraceAnswer (report_answer answer) out notes status) (only bytes lines trace_is) h;
      refused = no_lines bytes out notes status (formed_lines bytes) refl (formed bytes) h;
    }
