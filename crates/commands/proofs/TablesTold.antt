-- What a test of a table tells.
use Rattle.std.proofs.Common.{◌≡◌, ℕ, Bool, List, Option, Some, None, Result, Ok, Err, if◌then◌else◌, is_some, refl, sym, ap, subst, ◌∙◌, arith}
use Rattle.sched_tests.specs.declared.duties.Duty.{Duty}
use Rattle.sched_tests.specs.declared.duties.TableFault.{TableFault}
use Rattle.sched_tests.specs.Demand.{first_over_of, busy_of}
use Rattle.sched_tests.specs.Reading.{table_of}
use Rattle.sched_tests.specs.Reports.{table_note}
use Rattle.commands.specs.declared.outcomes.Outcome.{Outcome}
use Rattle.commands.specs.declared.outcomes.Outcome.TheVariants.{Ended, Accepted, Tested, Traced, WordsRefused, SourceRefused}
use Rattle.commands.specs.declared.outcomes.Outcome.TheVariants.{ScriptRefused, TableRefused, TraceRefused, ReadFault, WriteFault, NoMemory}
use Rattle.commands.specs.declared.requests.TableTest.{TableTest}
use Rattle.commands.specs.declared.requests.TableTest.TheVariants as test
use Rattle.commands.specs.Requests.{Asked, TableAsked}
use Rattle.commands.specs.Tests.{test_status, is_failed, NeverOver}
use Rattle.commands.specs.Outside.{ShelfChange, SinkChange, IsKept, Gained}
use Rattle.commands.specs.Outcomes.{status_of, Concludes}
use Rattle.commands.specs.Performed.{IsDone, IsRefused, IsTested, IsNoTable, IsTraced, IsNoTrace, Performs}
use Rattle.commands.specs.Statuses.{IsAnswer, TableTold, BeyondTold}
use Rattle.commands.proofs.Conclusions.{concluded, failed, low}
use Rattle.commands.proofs.AskedFiles.{at_table, no_source, table_no_run, table_no_script, table_no_trace, no_request}
use Rattle.commands.proofs.RunsTold.{disturbed}

-- ---- what is a table is tested

pub status_by : (t : TableTest) (duties : List Duty) (failed : Bool) → is_failed t duties ≡ failed → status_of (Tested failed) ≡ test_status t duties
status_by test.ResponseTimes duties failed is = ap (λ b. if b then 12 else 0) (sym is)
status_by test.Demand duties failed is = ap (λ b. if b then 12 else 0) (sym is)

answered : (t : TableTest) (bytes : List ℕ) (out notes : SinkChange) (failed : Bool) (status : ℕ) → IsTested t bytes out failed
    → status ≡ status_of (Tested failed) → IsKept notes → IsAnswer t (table_of bytes) out notes status
answered t bytes out notes failed status h is kept =
    subst (λ read. IsAnswer t read out notes status) (sym h.read) (h.text, is ∙ status_by t h.duties failed h.failed_is, kept)

refused_answer : (t : TableTest) (bytes : List ℕ) (out notes : SinkChange) (fault : TableFault) (status : ℕ) → IsNoTable fault bytes → IsKept out → status ≡ 13
    → Gained notes (table_note fault) → IsAnswer t (table_of bytes) out notes status
refused_answer t bytes out notes fault status h kept is note = subst (λ read. IsAnswer t read out notes status) (sym h) (kept, is, note)

pub table_told : (asked : Option Asked) (shelf : ShelfChange) (out notes : SinkChange) (o : Outcome) (status : ℕ) → Performs asked shelf out o
    → Concludes o notes status → TableTold asked shelf out notes status
table_told asked shelf out notes (Ended stop) status p c table bytes t is there u =
    absurd (table_no_run asked shelf table t (λ xs x b. IsDone xs x b out (Ended stop)) is p)
table_told asked shelf out notes Accepted status p c table bytes t is there u =
    absurd (table_no_run asked shelf table t (λ xs x b. IsDone xs x b out Accepted) is p)
table_told asked shelf out notes (Tested failed) status p c table bytes t is there u =
    let told = concluded (Tested failed) notes status c u.1 in
    answered t bytes out notes failed status (at_table asked shelf table t bytes (λ x b. IsTested x b out failed) is there p) told.0 told.1
table_told asked shelf out notes (Traced broken) status p c table bytes t is there u =
    absurd (table_no_trace asked shelf table t (λ x b. IsTraced x b out broken) is p)
table_told asked shelf out notes WordsRefused status p c table bytes t is there u = absurd (no_request asked (TableAsked table t) p.0 is)
table_told asked shelf out notes (SourceRefused refusal) status p c table bytes t is there u =
    absurd (no_source asked shelf table t (λ x b. IsRefused b refusal) is p.0)
table_told asked shelf out notes (ScriptRefused fault) status p c table bytes t is there u = absurd (table_no_script asked shelf table t fault is p.0)
table_told asked shelf out notes (TableRefused fault) status p c table bytes t is there u =
    let told = concluded (TableRefused fault) notes status c u.1 in
    refused_answer t bytes out notes fault status (at_table asked shelf table t bytes (λ x b. IsNoTable fault b) is there p.0) p.1 told.0 told.1
table_told asked shelf out notes (TraceRefused line) status p c table bytes t is there u =
    absurd (table_no_trace asked shelf table t (λ x b. IsNoTrace line x b) is p.0)
table_told asked shelf out notes ReadFault status p c table bytes t is there u = absurd (disturbed ReadFault notes status 7 c refl u.0 u.1)
table_told asked shelf out notes WriteFault status p c table bytes t is there u = absurd (disturbed WriteFault notes status 8 c refl u.1 u.1)
table_told asked shelf out notes NoMemory status p c table bytes t is there u = absurd (disturbed NoMemory notes status 9 c refl u.2 u.1)

-- ---- beyond the longest window

abbrev read_as : List Duty → Result (List Duty) TableFault
read_as duties = Ok duties

abbrev duties_in : List Duty → Result (List Duty) TableFault → List Duty
duties_in other (Ok duties) = duties
duties_in other (Err fault) = other

same_duties : (a b : List Duty) → read_as a ≡ Ok b → a ≡ b
same_duties a b h = ap (duties_in a) h

abbrev over_status : Option ℕ → ℕ
over_status over = if is_some over then 12 else 0

none_over : (over : Option ℕ) → over_status over ≡ 0 → over ≡ None
none_over None e = refl
none_over (Some window) e = absurd (omega (arith, e))

never_over : (bytes : List ℕ) (duties : List Duty) (busy : ℕ) (out : SinkChange) (failed : Bool) (status : ℕ) → IsTested test.Demand bytes out failed
    → table_of bytes ≡ Ok duties → status ≡ status_of (Tested failed) → status ≡ 0 → busy_of duties ≡ Some busy → NeverOver duties
never_over bytes duties busy out failed status h read is zero_is busy_is =
    let same : h.duties ≡ duties = same_duties h.duties duties (sym h.read ∙ read) in
    let none : first_over_of h.duties ≡ None =
    none_over (first_over_of h.duties) (sym (status_by test.Demand h.duties failed h.failed_is) ∙ sym is ∙ zero_is) in
    subst NeverOver same (h.beyond busy none (ap busy_of same ∙ busy_is))

pub beyond : (asked : Option Asked) (shelf : ShelfChange) (out notes : SinkChange) (o : Outcome) (status : ℕ) → Performs asked shelf out o
    → Concludes o notes status → BeyondTold asked shelf status
beyond asked shelf out notes (Ended stop) status p c table bytes duties busy is there read zero_is busy_is =
    absurd (table_no_run asked shelf table test.Demand (λ xs x b. IsDone xs x b out (Ended stop)) is p)
beyond asked shelf out notes Accepted status p c table bytes duties busy is there read zero_is busy_is =
    absurd (table_no_run asked shelf table test.Demand (λ xs x b. IsDone xs x b out Accepted) is p)
beyond asked shelf out notes (Tested failed) status p c table bytes duties busy is there read zero_is busy_is =
    never_over bytes duties busy out failed status (at_table asked shelf table test.Demand bytes (λ x b. IsTested x b out failed) is there p) read
    (concluded (Tested failed) notes status c (low status (omega (arith, zero_is)))).0 zero_is busy_is
beyond asked shelf out notes (Traced broken) status p c table bytes duties busy is there read zero_is busy_is =
    absurd (table_no_trace asked shelf table test.Demand (λ x b. IsTraced x b out broken) is p)
beyond asked shelf out notes WordsRefused status p c table bytes duties busy is there read zero_is busy_is =
    absurd (no_request asked (TableAsked table test.Demand) p.0 is)
beyond asked shelf out notes (SourceRefused refusal) status p c table bytes duties busy is there read zero_is busy_is =
    absurd (no_source asked shelf table test.Demand (λ x b. IsRefused b refusal) is p.0)
beyond asked shelf out notes (ScriptRefused fault) status p c table bytes duties busy is there read zero_is busy_is =
    absurd (table_no_script asked shelf table test.Demand fault is p.0)
beyond asked shelf out notes (TableRefused fault) status p c table bytes duties busy is there read zero_is busy_is =
    absurd (omega (arith, (concluded (TableRefused fault) notes status c (low status (omega (arith, zero_is)))).0, zero_is))
beyond asked shelf out notes (TraceRefused line) status p c table bytes duties busy is there read zero_is busy_is =
    absurd (table_no_trace asked shelf table test.Demand (λ x b. IsNoTrace line x b) is p.0)
beyond asked shelf out notes ReadFault status p c table bytes duties busy is there read zero_is busy_is =
    absurd (omega (arith, (concluded ReadFault notes status c (low status (omega (arith, zero_is)))).0, zero_is))
beyond asked shelf out notes WriteFault status p c table bytes duties busy is there read zero_is busy_is =
    absurd (omega (arith, (concluded WriteFault notes status c (low status (omega (arith, zero_is)))).0, zero_is))
beyond asked shelf out notes NoMemory status p c table bytes duties busy is there read zero_is busy_is =
    absurd (omega (arith, (concluded NoMemory notes status c (low status (omega (arith, zero_is)))).0, zero_is))
