-- What the statuses from 4 on tell.
use Rattle.std.proofs.Common.{◌≡◌, ◌≢◌, ◌≤◌, ◌⊎◌, inl, inr, ℕ, true, false, List, [], Option, Some, None, Err, refl, sym, subst, ◌∙◌, append-nil, arith, codes}
use Rattle.outside_bytes.specs.Files.{Untold, Holds, file_in, told, WhereTold}
use Rattle.profile_image.specs.declared.image.Image.{Image}
use Rattle.ada_verdicts.specs.declared.refusals.Refusal.{Refusal}
use Rattle.ada_verdicts.specs.Accepted.{Accepted as IsAccepted}
use Rattle.event_script.specs.declared.faults.ScriptFault.{ScriptFault}
use Rattle.event_script.specs.Script.{script_of}
use Rattle.sched_tests.specs.declared.duties.TableFault.{TableFault}
use Rattle.sched_tests.specs.Reports.{table_note}
use Rattle.commands.specs.declared.outcomes.Outcome.{Outcome}
use Rattle.commands.specs.declared.outcomes.Outcome.TheVariants.{Ended, Accepted, Tested, Traced, WordsRefused, SourceRefused}
use Rattle.commands.specs.declared.outcomes.Outcome.TheVariants.{ScriptRefused, TableRefused, TraceRefused, ReadFault, WriteFault, NoMemory}
use Rattle.commands.specs.declared.requests.Work.TheVariants as work
use Rattle.commands.specs.Traces.{trace_note}
use Rattle.commands.specs.Requests.{Asked, SourceAsked, ScriptAsked, LoadAsked}
use Rattle.commands.specs.Outside.{ShelfChange, SinkChange, SinkFailed, IsKept, Gained, GainedPrefix}
use Rattle.commands.specs.Outcomes.{status_of, note_of, refusal_text, script_note, IsNoted, Concludes}
use Rattle.commands.specs.Performed.{OfAsked, OfSource, OfRun, OfNoScript, OfItems, IsAcceptable, OfTable, OfTrace, IsDone}
use Rattle.commands.specs.Performed.{IsRefused, IsTested, IsNoTable, IsTraced, IsNoTrace, IsFileCutShort, IsUnread, Performs}
use Rattle.commands.specs.Statuses.{IsPrinted, NotAccepted, NotAcceptedUnder, LoadNotAccepted, NoScript, ScriptRefusalTold, RefusalTold}
use Rattle.commands.specs.Statuses.{FailureTold, TableRefusalTold, BreachTold, TraceRefusalTold, IsCause, NoteTried, PrefixTold}
use Rattle.commands.proofs.Told.{ItemsWith}
use Rattle.commands.proofs.Conclusions.{stop_status-small, is_refused, is_refused_script, is_failed_test, is_refused_table, is_breach}
use Rattle.commands.proofs.Conclusions.{is_refused_trace, is_words, is_read_fault, is_write_fault, is_memory, concluded, FailedNote, failed, low}
use Rattle.commands.proofs.AskedFiles.{at_source_under, at_run, at_run_under, at_items, at_acceptable, no_table, source_no_script}
use Rattle.commands.proofs.AskedFiles.{script_no_table, script_no_trace, source_no_trace, at_load_run, load_no_script}
use Rattle.commands.proofs.AskedFiles.{load_no_table, load_no_trace, source_map, table_map, trace_map, nothing_asked, no_request}
use Rattle.commands.proofs.RunsTold.{disturbed, no_items}
use Rattle.commands.proofs.DoneTold.{printed}

-- ---- 4

pub refused_source : (asked : Option Asked) (shelf : ShelfChange) (out notes : SinkChange) (o : Outcome) (status : ℕ) → Performs asked shelf out o
    → Concludes o notes status → status ≡ 4 → RefusalTold asked shelf notes
refused_source asked shelf out notes o status p c e =
    let told = concluded o notes status c (low status (omega (arith, e))) in
    let is = is_refused o (sym told.0 ∙ e) in
    let noted : Gained notes (refusal_text is.0) = subst (λ x. IsNoted (note_of x) notes) is.1 told.1 in
    source_map asked shelf (λ a bytes. IsRefused bytes is.0) (λ a bytes. (refusal : Refusal) × IsRefused bytes refusal × Gained notes (refusal_text refusal))
    (λ a bytes refused. (is.0, refused, noted)) (subst (Performs asked shelf out) is.1 p).0

pub not_accepted : (asked : Option Asked) (shelf : ShelfChange) (out notes : SinkChange) (o : Outcome) (status : ℕ) → Performs asked shelf out o
    → Concludes o notes status → NotAccepted asked shelf status
not_accepted asked shelf out notes (Ended stop) status p c source bytes a is there none u =
    let done = at_run asked shelf source a bytes (λ xs x b. IsDone xs x b out (Ended stop)) is there p in absurd (none done.image done.accepted)
not_accepted asked shelf out notes Accepted status p c source bytes a is there none u =
    let done = at_run asked shelf source a bytes (λ xs x b. IsDone xs x b out Accepted) is there p in absurd (none done.image done.accepted)
not_accepted asked shelf out notes (Tested failed) status p c source bytes a is there none u =
    absurd (no_table asked shelf source a (λ t b. IsTested t b out failed) is p)
not_accepted asked shelf out notes (Traced broken) status p c source bytes a is there none u =
    absurd (source_no_trace asked shelf source a (λ x b. IsTraced x b out broken) is p)
not_accepted asked shelf out notes WordsRefused status p c source bytes a is there none u = absurd (no_request asked (SourceAsked source a) p.0 is)
not_accepted asked shelf out notes (SourceRefused refusal) status p c source bytes a is there none u = (concluded (SourceRefused refusal) notes status c u.1).0
not_accepted asked shelf out notes (ScriptRefused fault) status p c source bytes a is there none u = absurd (source_no_script asked shelf source a fault is p.0)
not_accepted asked shelf out notes (TableRefused fault) status p c source bytes a is there none u =
    absurd (no_table asked shelf source a (λ t b. IsNoTable fault b) is p.0)
not_accepted asked shelf out notes (TraceRefused line) status p c source bytes a is there none u =
    absurd (source_no_trace asked shelf source a (λ x b. IsNoTrace line x b) is p.0)
not_accepted asked shelf out notes ReadFault status p c source bytes a is there none u = absurd (disturbed ReadFault notes status 7 c refl u.0 u.1)
not_accepted asked shelf out notes WriteFault status p c source bytes a is there none u = absurd (disturbed WriteFault notes status 8 c refl u.1 u.1)
not_accepted asked shelf out notes NoMemory status p c source bytes a is there none u = absurd (disturbed NoMemory notes status 9 c refl u.2 u.1)

pub load_not_accepted : (asked : Option Asked) (shelf : ShelfChange) (out notes : SinkChange) (o : Outcome) (status : ℕ) → Performs asked shelf out o
    → Concludes o notes status → LoadNotAccepted asked status
load_not_accepted asked shelf out notes (Ended stop) status p c tasks is none u =
    let done = at_load_run asked shelf tasks (λ xs x b. IsDone xs x b out (Ended stop)) is p in absurd (none done.image done.accepted)
load_not_accepted asked shelf out notes Accepted status p c tasks is none u =
    let done = at_load_run asked shelf tasks (λ xs x b. IsDone xs x b out Accepted) is p in absurd (none done.image done.accepted)
load_not_accepted asked shelf out notes (Tested failed) status p c tasks is none u =
    absurd (load_no_table asked shelf tasks (λ t b. IsTested t b out failed) is p)
load_not_accepted asked shelf out notes (Traced broken) status p c tasks is none u =
    absurd (load_no_trace asked shelf tasks (λ x b. IsTraced x b out broken) is p)
load_not_accepted asked shelf out notes WordsRefused status p c tasks is none u = absurd (no_request asked (LoadAsked tasks) p.0 is)
load_not_accepted asked shelf out notes (SourceRefused refusal) status p c tasks is none u = (concluded (SourceRefused refusal) notes status c u.1).0
load_not_accepted asked shelf out notes (ScriptRefused fault) status p c tasks is none u = absurd (load_no_script asked shelf tasks fault is p.0)
load_not_accepted asked shelf out notes (TableRefused fault) status p c tasks is none u =
    absurd (load_no_table asked shelf tasks (λ t b. IsNoTable fault b) is p.0)
load_not_accepted asked shelf out notes (TraceRefused line) status p c tasks is none u =
    absurd (load_no_trace asked shelf tasks (λ x b. IsNoTrace line x b) is p.0)
load_not_accepted asked shelf out notes ReadFault status p c tasks is none u = absurd (disturbed ReadFault notes status 7 c refl u.0 u.1)
load_not_accepted asked shelf out notes WriteFault status p c tasks is none u = absurd (disturbed WriteFault notes status 8 c refl u.1 u.1)
load_not_accepted asked shelf out notes NoMemory status p c tasks is none u = absurd (disturbed NoMemory notes status 9 c refl u.2 u.1)

-- where a file is told another one is, or is missing
file_there : (file : Option (List ℕ)) (F : List ℕ → Type 0) → WhereTold (file_in file) F → (text : List ℕ) × F text
file_there None F h = absurd h
file_there (Some text) F h = (text, h)

untold : (bytes : List ℕ) → Untold ≡ Holds bytes → ⊥
untold bytes there = cc

told_too : (files : Option (List ℕ → Option (List ℕ))) (source script bytes : List ℕ) (F : List ℕ → Type 0) → told files source ≡ Holds bytes
    → WhereTold (told files script) F → (text : List ℕ) × F text
told_too None source script bytes F there h = absurd (untold bytes there)
told_too (Some files) source script bytes F there h = file_there (files script) F h

-- what was run under a script is accepted
accepted_under : (shelf : ShelfChange) (source script : List ℕ) (ticks : ℕ) (bytes : List ℕ) (out : SinkChange) (o : Outcome)
    → told shelf.files source ≡ Holds bytes → OfItems shelf script (λ items. IsDone items (work.Run ticks) bytes out o) → IsAcceptable bytes
accepted_under shelf source script ticks bytes out o there h =
    let known = told_too shelf.files source script bytes (ItemsWith (λ items. IsDone items (work.Run ticks) bytes out o)) there h in
    (known.1.2.image, known.1.2.accepted)

never_under : (bytes : List ℕ) → IsAcceptable bytes → ((image : Image) → IsAccepted bytes image → ⊥) → ⊥
never_under bytes fits none = none fits.0 fits.1

pub not_accepted_under : (asked : Option Asked) (shelf : ShelfChange) (out notes : SinkChange) (o : Outcome) (status : ℕ) → Performs asked shelf out o
    → Concludes o notes status → NotAcceptedUnder asked shelf status
not_accepted_under asked shelf out notes (Ended stop) status p c source bytes script ticks is there none u =
    absurd (never_under bytes
    (accepted_under shelf source script ticks bytes out (Ended stop) there
    (at_run_under asked shelf source script ticks bytes (λ xs x b. IsDone xs x b out (Ended stop)) is there p)) none)
not_accepted_under asked shelf out notes Accepted status p c source bytes script ticks is there none u =
    absurd (never_under bytes
    (accepted_under shelf source script ticks bytes out Accepted there
    (at_run_under asked shelf source script ticks bytes (λ xs x b. IsDone xs x b out Accepted) is there p)) none)
not_accepted_under asked shelf out notes (Tested failed) status p c source bytes script ticks is there none u =
    absurd (script_no_table asked shelf source script ticks (λ t b. IsTested t b out failed) is p)
not_accepted_under asked shelf out notes (Traced broken) status p c source bytes script ticks is there none u =
    absurd (script_no_trace asked shelf source script ticks (λ x b. IsTraced x b out broken) is p)
not_accepted_under asked shelf out notes WordsRefused status p c source bytes script ticks is there none u =
    absurd (no_request asked (ScriptAsked source script ticks) p.0 is)
not_accepted_under asked shelf out notes (SourceRefused refusal) status p c source bytes script ticks is there none u =
    (concluded (SourceRefused refusal) notes status c u.1).0
not_accepted_under asked shelf out notes (ScriptRefused fault) status p c source bytes script ticks is there none u =
    absurd (never_under bytes (at_acceptable asked shelf source script ticks bytes fault is there p.0) none)
not_accepted_under asked shelf out notes (TableRefused fault) status p c source bytes script ticks is there none u =
    absurd (script_no_table asked shelf source script ticks (λ t b. IsNoTable fault b) is p.0)
not_accepted_under asked shelf out notes (TraceRefused line) status p c source bytes script ticks is there none u =
    absurd (script_no_trace asked shelf source script ticks (λ x b. IsNoTrace line x b) is p.0)
not_accepted_under asked shelf out notes ReadFault status p c source bytes script ticks is there none u =
    absurd (disturbed ReadFault notes status 7 c refl u.0 u.1)
not_accepted_under asked shelf out notes WriteFault status p c source bytes script ticks is there none u =
    absurd (disturbed WriteFault notes status 8 c refl u.1 u.1)
not_accepted_under asked shelf out notes NoMemory status p c source bytes script ticks is there none u =
    absurd (disturbed NoMemory notes status 9 c refl u.2 u.1)

-- ---- 5

-- a script that is refused has no items under which it was run
ran_under : (shelf : ShelfChange) (script text : List ℕ) (ticks : ℕ) (bytes : List ℕ) (out : SinkChange) (o : Outcome) (fault : ScriptFault)
    → told shelf.files script ≡ Holds text → script_of text ≡ Err fault → OfItems shelf script (λ items. IsDone items (work.Run ticks) bytes out o) → ⊥
ran_under shelf script text ticks bytes out o fault beside refused h =
    let known = at_items shelf script text (λ items. IsDone items (work.Run ticks) bytes out o) beside h in
    no_items text known.0 fault known.1 refused

pub no_script : (asked : Option Asked) (shelf : ShelfChange) (out notes : SinkChange) (o : Outcome) (status : ℕ) → Performs asked shelf out o
    → Concludes o notes status → NoScript asked shelf status
no_script asked shelf out notes (Ended stop) status p c source bytes script text ticks image fault is there beside fits refused u =
    absurd (ran_under shelf script text ticks bytes out (Ended stop) fault beside refused
    (at_run_under asked shelf source script ticks bytes (λ xs x b. IsDone xs x b out (Ended stop)) is there p))
no_script asked shelf out notes Accepted status p c source bytes script text ticks image fault is there beside fits refused u =
    absurd (ran_under shelf script text ticks bytes out Accepted fault beside refused
    (at_run_under asked shelf source script ticks bytes (λ xs x b. IsDone xs x b out Accepted) is there p))
no_script asked shelf out notes (Tested failed) status p c source bytes script text ticks image fault is there beside fits refused u =
    absurd (script_no_table asked shelf source script ticks (λ t b. IsTested t b out failed) is p)
no_script asked shelf out notes (Traced broken) status p c source bytes script text ticks image fault is there beside fits refused u =
    absurd (script_no_trace asked shelf source script ticks (λ x b. IsTraced x b out broken) is p)
no_script asked shelf out notes WordsRefused status p c source bytes script text ticks image fault is there beside fits refused u =
    absurd (no_request asked (ScriptAsked source script ticks) p.0 is)
no_script asked shelf out notes (SourceRefused refusal) status p c source bytes script text ticks image fault is there beside fits refused u =
    absurd ((at_source_under asked shelf source script ticks bytes (λ x b. IsRefused b refusal) is there p.0).never image fits)
no_script asked shelf out notes (ScriptRefused other) status p c source bytes script text ticks image fault is there beside fits refused u =
    (concluded (ScriptRefused other) notes status c u.1).0
no_script asked shelf out notes (TableRefused other) status p c source bytes script text ticks image fault is there beside fits refused u =
    absurd (script_no_table asked shelf source script ticks (λ t b. IsNoTable other b) is p.0)
no_script asked shelf out notes (TraceRefused line) status p c source bytes script text ticks image fault is there beside fits refused u =
    absurd (script_no_trace asked shelf source script ticks (λ x b. IsNoTrace line x b) is p.0)
no_script asked shelf out notes ReadFault status p c source bytes script text ticks image fault is there beside fits refused u =
    absurd (disturbed ReadFault notes status 7 c refl u.0 u.1)
no_script asked shelf out notes WriteFault status p c source bytes script text ticks image fault is there beside fits refused u =
    absurd (disturbed WriteFault notes status 8 c refl u.1 u.1)
no_script asked shelf out notes NoMemory status p c source bytes script text ticks image fault is there beside fits refused u =
    absurd (disturbed NoMemory notes status 9 c refl u.2 u.1)

pub refused_script : (asked : Option Asked) (shelf : ShelfChange) (out notes : SinkChange) (o : Outcome) (status : ℕ) → Performs asked shelf out o
    → Concludes o notes status → status ≡ 5 → ScriptRefusalTold asked shelf notes
refused_script asked shelf out notes o status p c e =
    let told = concluded o notes status c (low status (omega (arith, e))) in
    let is = is_refused_script o (sym told.0 ∙ e) in
    let noted : Gained notes (script_note is.0) = subst (λ x. IsNoted (note_of x) notes) is.1 told.1 in
    (is.0, (subst (Performs asked shelf out) is.1 p).0, noted)

-- ---- 4 to 7: nothing is written to out

kept_by : (asked : Option Asked) (shelf : ShelfChange) (out : SinkChange) (o : Outcome) (status : ℕ) → Performs asked shelf out o → status ≡ status_of o
    → 4 ≤ status → status ≤ 7 → IsKept out
kept_by asked shelf out (Ended stop) status p is from to = absurd (omega (arith, is, stop_status-small stop, from))
kept_by asked shelf out Accepted status p is from to = absurd (omega (arith, is, from))
kept_by asked shelf out (Tested true) status p is from to = absurd (omega (arith, is, to))
kept_by asked shelf out (Tested false) status p is from to = absurd (omega (arith, is, from))
kept_by asked shelf out (Traced true) status p is from to = absurd (omega (arith, is, to))
kept_by asked shelf out (Traced false) status p is from to = absurd (omega (arith, is, from))
kept_by asked shelf out WordsRefused status p is from to = p.1
kept_by asked shelf out (SourceRefused refusal) status p is from to = p.1
kept_by asked shelf out (ScriptRefused fault) status p is from to = p.1
kept_by asked shelf out (TableRefused fault) status p is from to = p.1
kept_by asked shelf out (TraceRefused line) status p is from to = p.1
kept_by asked shelf out ReadFault status p is from to = p.1
kept_by asked shelf out WriteFault status p is from to = absurd (omega (arith, is, to))
kept_by asked shelf out NoMemory status p is from to = absurd (omega (arith, is, to))

pub kept : (asked : Option Asked) (shelf : ShelfChange) (out notes : SinkChange) (o : Outcome) (status : ℕ) → Performs asked shelf out o
    → Concludes o notes status → 4 ≤ status → status ≤ 7 → IsKept out
kept asked shelf out notes o status p c from to = kept_by asked shelf out o status p (concluded o notes status c (low status to)).0 from to

-- ---- 6

pub words : (asked : Option Asked) (shelf : ShelfChange) (out notes : SinkChange) (o : Outcome) (status : ℕ) → Performs asked shelf out o
    → Concludes o notes status → status ≡ 6 → asked ≡ None
words asked shelf out notes o status p c e =
    (subst (Performs asked shelf out) (is_words o (sym (concluded o notes status c (low status (omega (arith, e)))).0 ∙ e)) p).0

refused_by : (asked : Option Asked) (shelf : ShelfChange) (out : SinkChange) (o : Outcome) → Performs asked shelf out o → asked ≡ None
    → (status_of o ≡ 8) ⊎ (status_of o ≡ 6)
refused_by asked shelf out (Ended stop) p none = absurd (subst (λ x. OfRun x shelf (λ xs a bytes. IsDone xs a bytes out (Ended stop))) none p)
refused_by asked shelf out Accepted p none = absurd (subst (λ x. OfRun x shelf (λ xs a bytes. IsDone xs a bytes out Accepted)) none p)
refused_by asked shelf out (Tested failed) p none = absurd (subst (λ x. OfTable x shelf (λ t bytes. IsTested t bytes out failed)) none p)
refused_by asked shelf out (Traced broken) p none = absurd (subst (λ x. OfTrace x shelf (λ w bytes. IsTraced w bytes out broken)) none p)
refused_by asked shelf out WordsRefused p none = inr refl
refused_by asked shelf out (SourceRefused refusal) p none = absurd (subst (λ x. OfSource x shelf (λ a bytes. IsRefused bytes refusal)) none p.0)
refused_by asked shelf out (ScriptRefused fault) p none = absurd (subst (λ x. OfNoScript x shelf fault) none p.0)
refused_by asked shelf out (TableRefused fault) p none = absurd (subst (λ x. OfTable x shelf (λ t bytes. IsNoTable fault bytes)) none p.0)
refused_by asked shelf out (TraceRefused line) p none = absurd (subst (λ x. OfTrace x shelf (λ w bytes. IsNoTrace line w bytes)) none p.0)
refused_by asked shelf out ReadFault p none = absurd (subst (λ x. IsUnread x shelf) none p.0)
refused_by asked shelf out WriteFault p none = inl refl
refused_by asked shelf out NoMemory p none = absurd (nothing_asked asked (λ a. IsKept out ⊎ IsFileCutShort a shelf out) none p)

six_by : (status wanted : ℕ) → status ≡ wanted → status ≢ 8 → (wanted ≡ 8) ⊎ (wanted ≡ 6) → status ≡ 6
six_by status wanted is other (inl e) = absurd (other (is ∙ e))
six_by status wanted is other (inr e) = is ∙ e

pub refused_words : (asked : Option Asked) (shelf : ShelfChange) (out notes : SinkChange) (o : Outcome) (status : ℕ) → Performs asked shelf out o
    → Concludes o notes status → asked ≡ None → status ≢ 8 → status ≡ 6
refused_words asked shelf out notes o status p c none other =
    six_by status (status_of o) (concluded o notes status c other).0 other (refused_by asked shelf out o p none)

pub note_words : (o : Outcome) (notes : SinkChange) (status : ℕ) → Concludes o notes status → status ≡ 6 → Gained notes (codes "words refused\n")
note_words o notes status c e =
    let told = concluded o notes status c (low status (omega (arith, e))) in
    subst (λ x. IsNoted (note_of x) notes) (is_words o (sym told.0 ∙ e)) told.1

-- ---- 7

pub read_fault : (asked : Option Asked) (shelf : ShelfChange) (out notes : SinkChange) (o : Outcome) (status : ℕ) → Performs asked shelf out o
    → Concludes o notes status → status ≡ 7 → IsUnread asked shelf
read_fault asked shelf out notes o status p c e =
    (subst (Performs asked shelf out) (is_read_fault o (sym (concluded o notes status c (low status (omega (arith, e)))).0 ∙ e)) p).0

pub note_read : (o : Outcome) (notes : SinkChange) (status : ℕ) → Concludes o notes status → status ≡ 7 → Gained notes (codes "read fault\n")
note_read o notes status c e =
    let told = concluded o notes status c (low status (omega (arith, e))) in
    subst (λ x. IsNoted (note_of x) notes) (is_read_fault o (sym told.0 ∙ e)) told.1

-- ---- 8

fault_by : (asked : Option Asked) (shelf : ShelfChange) (out notes : SinkChange) (o : Outcome) → Performs asked shelf out o
    → (status_of o ≡ 8) ⊎ FailedNote (note_of o) notes → SinkFailed out ⊎ SinkFailed notes
fault_by asked shelf out notes o p (inl e) = inl (subst (Performs asked shelf out) (is_write_fault o e) p).0
fault_by asked shelf out notes o p (inr note) = inr note.2

pub write_fault : (asked : Option Asked) (shelf : ShelfChange) (out notes : SinkChange) (o : Outcome) (status : ℕ) → Performs asked shelf out o
    → Concludes o notes status → status ≡ 8 → SinkFailed out ⊎ SinkFailed notes
write_fault asked shelf out notes o status p c e = fault_by asked shelf out notes o p (failed o notes status c e)

cause_of : (asked : Option Asked) (shelf : ShelfChange) (out : SinkChange) (o : Outcome) (note : List ℕ) → Performs asked shelf out o → note_of o ≡ Some note
    → IsCause asked shelf out o
cause_of asked shelf out (Ended stop) note p is = cc
cause_of asked shelf out Accepted note p is = cc
cause_of asked shelf out (Tested failed) note p is = cc
cause_of asked shelf out (Traced broken) note p is = cc
cause_of asked shelf out WordsRefused note p is = p.0
cause_of asked shelf out (SourceRefused refusal) note p is = p.0
cause_of asked shelf out (ScriptRefused fault) note p is = p.0
cause_of asked shelf out (TableRefused fault) note p is = p.0
cause_of asked shelf out (TraceRefused line) note p is = p.0
cause_of asked shelf out ReadFault note p is = p.0
cause_of asked shelf out WriteFault note p is = p.0
cause_of asked shelf out NoMemory note p is = tt

-- a note that is written whole is a prefix of itself
prefix_by : (notes : SinkChange) (status : ℕ) → Concludes WriteFault notes status → GainedPrefix notes (codes "write fault\n")
prefix_by notes status (inl c) = (codes "write fault\n", [], sym (append-nil (codes "write fault\n")), c.1)
prefix_by notes status (inr c) = c.2

tried_by : (asked : Option Asked) (shelf : ShelfChange) (out notes : SinkChange) (o : Outcome) (status : ℕ) → Performs asked shelf out o
    → Concludes o notes status → (status_of o ≡ 8) ⊎ FailedNote (note_of o) notes → NoteTried asked shelf out notes
tried_by asked shelf out notes o status p c (inl e) =
    let is = is_write_fault o e in
    (WriteFault, codes "write fault\n", (subst (Performs asked shelf out) is p).0, refl, prefix_by notes status (subst (λ x. Concludes x notes status) is c))
tried_by asked shelf out notes o status p c (inr note) = (o, note.0, cause_of asked shelf out o note.0 p note.1, note.1, note.3)

pub note_tried : (asked : Option Asked) (shelf : ShelfChange) (out notes : SinkChange) (o : Outcome) (status : ℕ) → Performs asked shelf out o
    → Concludes o notes status → status ≡ 8 → NoteTried asked shelf out notes
note_tried asked shelf out notes o status p c e = tried_by asked shelf out notes o status p c (failed o notes status c e)

-- ---- 8 and 9: out gained nothing, or a prefix of the text

cut_asked : (asked : Option Asked) (shelf : ShelfChange) (out : SinkChange) → OfAsked asked (λ a. IsKept out ⊎ IsFileCutShort a shelf out)
    → PrefixTold asked shelf out
cut_asked None shelf out h = absurd h
cut_asked (Some a) shelf out h = h

pub prefix_told : (asked : Option Asked) (shelf : ShelfChange) (out notes : SinkChange) (o : Outcome) (status : ℕ) → Performs asked shelf out o
    → Concludes o notes status → (status ≡ 8) ⊎ (status ≡ 9) → PrefixTold asked shelf out
prefix_told asked shelf out notes (Ended stop) status p (inl c) high = absurd (omega (arith, c.0, stop_status-small stop, high))
prefix_told asked shelf out notes (Ended stop) status p (inr c) high = absurd c.2
prefix_told asked shelf out notes Accepted status p (inl c) high = absurd (omega (arith, c.0, high))
prefix_told asked shelf out notes Accepted status p (inr c) high = absurd c.2
prefix_told asked shelf out notes (Tested true) status p (inl c) high = absurd (omega (arith, c.0, high))
prefix_told asked shelf out notes (Tested false) status p (inl c) high = absurd (omega (arith, c.0, high))
prefix_told asked shelf out notes (Tested failed) status p (inr c) high = absurd c.2
prefix_told asked shelf out notes (Traced true) status p (inl c) high = absurd (omega (arith, c.0, high))
prefix_told asked shelf out notes (Traced false) status p (inl c) high = absurd (omega (arith, c.0, high))
prefix_told asked shelf out notes (Traced broken) status p (inr c) high = absurd c.2
prefix_told asked shelf out notes WordsRefused status p c high = inl p.1
prefix_told asked shelf out notes (SourceRefused refusal) status p c high = inl p.1
prefix_told asked shelf out notes (ScriptRefused fault) status p c high = inl p.1
prefix_told asked shelf out notes (TableRefused fault) status p c high = inl p.1
prefix_told asked shelf out notes (TraceRefused line) status p c high = inl p.1
prefix_told asked shelf out notes ReadFault status p c high = inl p.1
prefix_told asked shelf out notes WriteFault status p c high = inr p.1
prefix_told asked shelf out notes NoMemory status p c high = cut_asked asked shelf out p

-- ---- 9

pub note_memory : (o : Outcome) (notes : SinkChange) (status : ℕ) → Concludes o notes status → status ≡ 9 → Gained notes (codes "no memory\n")
note_memory o notes status c e =
    let told = concluded o notes status c (λ h. omega (arith, e, h)) in
    subst (λ x. IsNoted (note_of x) notes) (is_memory o (sym told.0 ∙ e)) told.1

-- ---- 12

pub failure : (asked : Option Asked) (shelf : ShelfChange) (out notes : SinkChange) (o : Outcome) (status : ℕ) → Performs asked shelf out o
    → Concludes o notes status → status ≡ 12 → FailureTold asked shelf out status
failure asked shelf out notes o status p c e =
    let told = concluded o notes status c (λ h. omega (arith, e, h)) in
    let is = is_failed_test o (sym told.0 ∙ e) in
    table_map asked shelf (λ t bytes. IsTested t bytes out true) (λ t bytes. IsPrinted t bytes out status)
    (λ t bytes h. printed t bytes out true status e h) (subst (Performs asked shelf out) is p)

pub quiet_failure : (o : Outcome) (notes : SinkChange) (status : ℕ) → Concludes o notes status → status ≡ 12 → IsKept notes
quiet_failure o notes status c e =
    let told = concluded o notes status c (λ h. omega (arith, e, h)) in
    subst (λ x. IsNoted (note_of x) notes) (is_failed_test o (sym told.0 ∙ e)) told.1

-- ---- 13

pub refused_table : (asked : Option Asked) (shelf : ShelfChange) (out notes : SinkChange) (o : Outcome) (status : ℕ) → Performs asked shelf out o
    → Concludes o notes status → status ≡ 13 → TableRefusalTold asked shelf notes
refused_table asked shelf out notes o status p c e =
    let told = concluded o notes status c (λ h. omega (arith, e, h)) in
    let is = is_refused_table o (sym told.0 ∙ e) in
    let noted : Gained notes (table_note is.0) = subst (λ x. IsNoted (note_of x) notes) is.1 told.1 in
    table_map asked shelf (λ t bytes. IsNoTable is.0 bytes) (λ t bytes. (fault : TableFault) × IsNoTable fault bytes × Gained notes (table_note fault))
    (λ t bytes refused. (is.0, refused, noted)) (subst (Performs asked shelf out) is.1 p).0

pub kept_refused_table : (asked : Option Asked) (shelf : ShelfChange) (out notes : SinkChange) (o : Outcome) (status : ℕ) → Performs asked shelf out o
    → Concludes o notes status → status ≡ 13 → IsKept out
kept_refused_table asked shelf out notes o status p c e =
    let told = concluded o notes status c (λ h. omega (arith, e, h)) in
    (subst (Performs asked shelf out) (is_refused_table o (sym told.0 ∙ e)).1 p).1

-- ---- 10

pub breach : (asked : Option Asked) (shelf : ShelfChange) (out notes : SinkChange) (o : Outcome) (status : ℕ) → Performs asked shelf out o
    → Concludes o notes status → status ≡ 10 → BreachTold asked shelf out
breach asked shelf out notes o status p c e =
    let told = concluded o notes status c (λ h. omega (arith, e, h)) in
    subst (Performs asked shelf out) (is_breach o (sym told.0 ∙ e)) p

pub quiet_breach : (o : Outcome) (notes : SinkChange) (status : ℕ) → Concludes o notes status → status ≡ 10 → IsKept notes
quiet_breach o notes status c e =
    let told = concluded o notes status c (λ h. omega (arith, e, h)) in
    subst (λ x. IsNoted (note_of x) notes) (is_breach o (sym told.0 ∙ e)) told.1

-- ---- 11

pub refused_trace : (asked : Option Asked) (shelf : ShelfChange) (out notes : SinkChange) (o : Outcome) (status : ℕ) → Performs asked shelf out o
    → Concludes o notes status → status ≡ 11 → TraceRefusalTold asked shelf notes
refused_trace asked shelf out notes o status p c e =
    let told = concluded o notes status c (λ h. omega (arith, e, h)) in
    let is = is_refused_trace o (sym told.0 ∙ e) in
    let noted : Gained notes (trace_note is.0) = subst (λ x. IsNoted (note_of x) notes) is.1 told.1 in
    trace_map asked shelf (λ w bytes. IsNoTrace is.0 w bytes) (λ w bytes. (line : ℕ) × IsNoTrace line w bytes × Gained notes (trace_note line))
    (λ w bytes refused. (is.0, refused, noted)) (subst (Performs asked shelf out) is.1 p).0

pub kept_refused_trace : (asked : Option Asked) (shelf : ShelfChange) (out notes : SinkChange) (o : Outcome) (status : ℕ) → Performs asked shelf out o
    → Concludes o notes status → status ≡ 11 → IsKept out
kept_refused_trace asked shelf out notes o status p c e =
    let told = concluded o notes status c (λ h. omega (arith, e, h)) in
    (subst (Performs asked shelf out) (is_refused_trace o (sym told.0 ∙ e)).1 p).1
