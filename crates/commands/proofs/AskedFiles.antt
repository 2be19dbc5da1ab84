-- What is asked of the files that the request names: what a relation says of a source, a script, a table or a trace, where it is
-- the one that was asked for, and that it says nothing where another was.
use Rattle.std.proofs.Common.{◌≡◌, ℕ, ℤ, List, [], Option, Some, None, Ok, Err, subst}
use Rattle.outside_bytes.specs.Files.{Holds, told, WhereTold}
use Rattle.profile_image.specs.declared.script_items.Item.{Item}
use Rattle.event_script.specs.declared.faults.ScriptFault.{ScriptFault}
use Rattle.event_script.specs.Script.{script_of}
use Rattle.commands.specs.declared.requests.Work.{Work}
use Rattle.commands.specs.declared.requests.Work.TheVariants as work
use Rattle.commands.specs.declared.requests.TableTest.{TableTest}
use Rattle.commands.specs.declared.requests.TraceWork.{TraceWork}
use Rattle.load_runs.specs.Source.{load_text}
use Rattle.commands.specs.declared.requests.TheConstants.{DEFAULT_TICKS}
use Rattle.commands.specs.Requests.{Asked, SourceAsked, ScriptAsked, LoadAsked, TableAsked, TraceAsked}
use Rattle.commands.specs.Outside.{ShelfChange}
use Rattle.commands.specs.Performed.{OfAsked, OfSource, OfRun, OfNoScript, OfItems, IsAcceptable, OfTable, OfTrace}
use Rattle.commands.proofs.Told.{told_map}

-- ---- files

pub at_source : (asked : Option Asked) (shelf : ShelfChange) (source : List ℕ) (a : Work) (bytes : List ℕ) (F : Work → List ℕ → Type 0)
    → asked ≡ Some (SourceAsked source a) → told shelf.files source ≡ Holds bytes → OfSource asked shelf F → F a bytes
at_source asked shelf source a bytes F is there h = subst (λ file. WhereTold file (F a)) there (subst (λ x. OfSource x shelf F) is h)

-- the same of a source that is to be run under a script
pub at_source_under : (asked : Option Asked) (shelf : ShelfChange) (source script : List ℕ) (ticks : ℕ) (bytes : List ℕ) (F : Work → List ℕ → Type 0)
    → asked ≡ Some (ScriptAsked source script ticks) → told shelf.files source ≡ Holds bytes → OfSource asked shelf F → F (work.Run ticks) bytes
at_source_under asked shelf source script ticks bytes F is there h =
    subst (λ file. WhereTold file (F (work.Run ticks))) there (subst (λ x. OfSource x shelf F) is h)

pub at_run : (asked : Option Asked) (shelf : ShelfChange) (source : List ℕ) (a : Work) (bytes : List ℕ) (F : List (ℤ × Item) → Work → List ℕ → Type 0)
    → asked ≡ Some (SourceAsked source a) → told shelf.files source ≡ Holds bytes → OfRun asked shelf F → F [] a bytes
at_run asked shelf source a bytes F is there h = subst (λ file. WhereTold file (F [] a)) there (subst (λ x. OfRun x shelf F) is h)

pub at_run_under : (asked : Option Asked) (shelf : ShelfChange) (source script : List ℕ) (ticks : ℕ) (bytes : List ℕ)
    (F : List (ℤ × Item) → Work → List ℕ → Type 0)
    → asked ≡ Some (ScriptAsked source script ticks)
    → told shelf.files source ≡ Holds bytes
    → OfRun asked shelf F
    → OfItems shelf script (λ items. F items (work.Run ticks) bytes)
at_run_under asked shelf source script ticks bytes F is there h =
    subst (λ file. WhereTold file (λ b. OfItems shelf script (λ items. F items (work.Run ticks) b))) there (subst (λ x. OfRun x shelf F) is h)

-- the items of a script that is there
pub at_items : (shelf : ShelfChange) (script text : List ℕ) (F : List (ℤ × Item) → Type 0) → told shelf.files script ≡ Holds text → OfItems shelf script F
    → (items : List (ℤ × Item)) × (script_of text ≡ Ok items) × F items
at_items shelf script text F there h = subst (λ file. WhereTold file (λ t. (items : List (ℤ × Item)) × (script_of t ≡ Ok items) × F items)) there h

pub at_no_script : (asked : Option Asked) (shelf : ShelfChange) (source script : List ℕ) (ticks : ℕ) (text : List ℕ) (fault : ScriptFault)
    → asked ≡ Some (ScriptAsked source script ticks) → told shelf.files script ≡ Holds text → OfNoScript asked shelf fault → script_of text ≡ Err fault
at_no_script asked shelf source script ticks text fault is there h =
    subst (λ file. WhereTold file (λ t. script_of t ≡ Err fault)) there (subst (λ x. OfNoScript x shelf fault) is h).1

-- its source is accepted
pub at_acceptable : (asked : Option Asked) (shelf : ShelfChange) (source script : List ℕ) (ticks : ℕ) (bytes : List ℕ) (fault : ScriptFault)
    → asked ≡ Some (ScriptAsked source script ticks) → told shelf.files source ≡ Holds bytes → OfNoScript asked shelf fault → IsAcceptable bytes
at_acceptable asked shelf source script ticks bytes fault is there h =
    subst (λ file. WhereTold file IsAcceptable) there (subst (λ x. OfNoScript x shelf fault) is h).0

pub at_table : (asked : Option Asked) (shelf : ShelfChange) (table : List ℕ) (t : TableTest) (bytes : List ℕ) (F : TableTest → List ℕ → Type 0)
    → asked ≡ Some (TableAsked table t) → told shelf.files table ≡ Holds bytes → OfTable asked shelf F → F t bytes
at_table asked shelf table t bytes F is there h = subst (λ file. WhereTold file (F t)) there (subst (λ x. OfTable x shelf F) is h)

pub no_table : (asked : Option Asked) (shelf : ShelfChange) (source : List ℕ) (a : Work) (F : TableTest → List ℕ → Type 0) → asked ≡ Some (SourceAsked source a)
    → OfTable asked shelf F → ⊥
no_table asked shelf source a F is h = subst (λ x. OfTable x shelf F) is h

pub no_source : (asked : Option Asked) (shelf : ShelfChange) (table : List ℕ) (t : TableTest) (F : Work → List ℕ → Type 0) → asked ≡ Some (TableAsked table t)
    → OfSource asked shelf F → ⊥
no_source asked shelf table t F is h = subst (λ x. OfSource x shelf F) is h

pub source_no_script : (asked : Option Asked) (shelf : ShelfChange) (source : List ℕ) (a : Work) (fault : ScriptFault) → asked ≡ Some (SourceAsked source a)
    → OfNoScript asked shelf fault → ⊥
source_no_script asked shelf source a fault is h = subst (λ x. OfNoScript x shelf fault) is h

pub table_no_run : (asked : Option Asked) (shelf : ShelfChange) (table : List ℕ) (t : TableTest) (F : List (ℤ × Item) → Work → List ℕ → Type 0)
    → asked ≡ Some (TableAsked table t) → OfRun asked shelf F → ⊥
table_no_run asked shelf table t F is h = subst (λ x. OfRun x shelf F) is h

pub table_no_script : (asked : Option Asked) (shelf : ShelfChange) (table : List ℕ) (t : TableTest) (fault : ScriptFault) → asked ≡ Some (TableAsked table t)
    → OfNoScript asked shelf fault → ⊥
table_no_script asked shelf table t fault is h = subst (λ x. OfNoScript x shelf fault) is h

pub script_no_table : (asked : Option Asked) (shelf : ShelfChange) (source script : List ℕ) (ticks : ℕ) (F : TableTest → List ℕ → Type 0)
    → asked ≡ Some (ScriptAsked source script ticks) → OfTable asked shelf F → ⊥
script_no_table asked shelf source script ticks F is h = subst (λ x. OfTable x shelf F) is h

pub script_no_trace : (asked : Option Asked) (shelf : ShelfChange) (source script : List ℕ) (ticks : ℕ) (F : TraceWork → List ℕ → Type 0)
    → asked ≡ Some (ScriptAsked source script ticks) → OfTrace asked shelf F → ⊥
script_no_trace asked shelf source script ticks F is h = subst (λ x. OfTrace x shelf F) is h

pub at_trace : (asked : Option Asked) (shelf : ShelfChange) (trace : List ℕ) (w : TraceWork) (bytes : List ℕ) (F : TraceWork → List ℕ → Type 0)
    → asked ≡ Some (TraceAsked trace w) → told shelf.files trace ≡ Holds bytes → OfTrace asked shelf F → F w bytes
at_trace asked shelf trace w bytes F is there h = subst (λ file. WhereTold file (F w)) there (subst (λ x. OfTrace x shelf F) is h)

pub source_no_trace : (asked : Option Asked) (shelf : ShelfChange) (source : List ℕ) (a : Work) (F : TraceWork → List ℕ → Type 0)
    → asked ≡ Some (SourceAsked source a) → OfTrace asked shelf F → ⊥
source_no_trace asked shelf source a F is h = subst (λ x. OfTrace x shelf F) is h

pub table_no_trace : (asked : Option Asked) (shelf : ShelfChange) (table : List ℕ) (t : TableTest) (F : TraceWork → List ℕ → Type 0)
    → asked ≡ Some (TableAsked table t) → OfTrace asked shelf F → ⊥
table_no_trace asked shelf table t F is h = subst (λ x. OfTrace x shelf F) is h

pub trace_no_source : (asked : Option Asked) (shelf : ShelfChange) (trace : List ℕ) (w : TraceWork) (F : Work → List ℕ → Type 0)
    → asked ≡ Some (TraceAsked trace w) → OfSource asked shelf F → ⊥
trace_no_source asked shelf trace w F is h = subst (λ x. OfSource x shelf F) is h

pub trace_no_run : (asked : Option Asked) (shelf : ShelfChange) (trace : List ℕ) (w : TraceWork) (F : List (ℤ × Item) → Work → List ℕ → Type 0)
    → asked ≡ Some (TraceAsked trace w) → OfRun asked shelf F → ⊥
trace_no_run asked shelf trace w F is h = subst (λ x. OfRun x shelf F) is h

pub trace_no_script : (asked : Option Asked) (shelf : ShelfChange) (trace : List ℕ) (w : TraceWork) (fault : ScriptFault) → asked ≡ Some (TraceAsked trace w)
    → OfNoScript asked shelf fault → ⊥
trace_no_script asked shelf trace w fault is h = subst (λ x. OfNoScript x shelf fault) is h

pub trace_no_table : (asked : Option Asked) (shelf : ShelfChange) (trace : List ℕ) (w : TraceWork) (F : TableTest → List ℕ → Type 0)
    → asked ≡ Some (TraceAsked trace w) → OfTable asked shelf F → ⊥
trace_no_table asked shelf trace w F is h = subst (λ x. OfTable x shelf F) is h

-- the source of a load, and its run
pub at_load : (asked : Option Asked) (shelf : ShelfChange) (tasks : ℕ) (F : Work → List ℕ → Type 0) → asked ≡ Some (LoadAsked tasks) → OfSource asked shelf F
    → F (work.Summary DEFAULT_TICKS) (load_text tasks)
at_load asked shelf tasks F is h = subst (λ x. OfSource x shelf F) is h

pub at_load_run : (asked : Option Asked) (shelf : ShelfChange) (tasks : ℕ) (F : List (ℤ × Item) → Work → List ℕ → Type 0) → asked ≡ Some (LoadAsked tasks)
    → OfRun asked shelf F → F [] (work.Summary DEFAULT_TICKS) (load_text tasks)
at_load_run asked shelf tasks F is h = subst (λ x. OfRun x shelf F) is h

pub load_no_script : (asked : Option Asked) (shelf : ShelfChange) (tasks : ℕ) (fault : ScriptFault) → asked ≡ Some (LoadAsked tasks)
    → OfNoScript asked shelf fault → ⊥
load_no_script asked shelf tasks fault is h = subst (λ x. OfNoScript x shelf fault) is h

pub load_no_table : (asked : Option Asked) (shelf : ShelfChange) (tasks : ℕ) (F : TableTest → List ℕ → Type 0) → asked ≡ Some (LoadAsked tasks)
    → OfTable asked shelf F → ⊥
load_no_table asked shelf tasks F is h = subst (λ x. OfTable x shelf F) is h

pub load_no_trace : (asked : Option Asked) (shelf : ShelfChange) (tasks : ℕ) (F : TraceWork → List ℕ → Type 0) → asked ≡ Some (LoadAsked tasks)
    → OfTrace asked shelf F → ⊥
load_no_trace asked shelf tasks F is h = subst (λ x. OfTrace x shelf F) is h

pub source_map : (asked : Option Asked) (shelf : ShelfChange) (F G : Work → List ℕ → Type 0) → ((a : Work) (bytes : List ℕ) → F a bytes → G a bytes)
    → OfSource asked shelf F → OfSource asked shelf G
source_map None shelf F G f h = h
source_map (Some (SourceAsked source a)) shelf F G f h = told_map (told shelf.files source) (F a) (G a) (f a) h
source_map (Some (ScriptAsked source script ticks)) shelf F G f h =
    told_map (told shelf.files source) (F (work.Run ticks)) (G (work.Run ticks)) (f (work.Run ticks)) h
source_map (Some (LoadAsked tasks)) shelf F G f h = f (work.Summary DEFAULT_TICKS) (load_text tasks) h
source_map (Some (TableAsked table t)) shelf F G f h = h
source_map (Some (TraceAsked trace w)) shelf F G f h = h

pub table_map : (asked : Option Asked) (shelf : ShelfChange) (F G : TableTest → List ℕ → Type 0) → ((t : TableTest) (bytes : List ℕ) → F t bytes → G t bytes)
    → OfTable asked shelf F → OfTable asked shelf G
table_map None shelf F G f h = h
table_map (Some (SourceAsked source a)) shelf F G f h = h
table_map (Some (ScriptAsked source script ticks)) shelf F G f h = h
table_map (Some (LoadAsked tasks)) shelf F G f h = h
table_map (Some (TableAsked table t)) shelf F G f h = told_map (told shelf.files table) (F t) (G t) (f t) h
table_map (Some (TraceAsked trace w)) shelf F G f h = h

pub trace_map : (asked : Option Asked) (shelf : ShelfChange) (F G : TraceWork → List ℕ → Type 0) → ((w : TraceWork) (bytes : List ℕ) → F w bytes → G w bytes)
    → OfTrace asked shelf F → OfTrace asked shelf G
trace_map None shelf F G f h = h
trace_map (Some (SourceAsked source a)) shelf F G f h = h
trace_map (Some (ScriptAsked source script ticks)) shelf F G f h = h
trace_map (Some (LoadAsked tasks)) shelf F G f h = h
trace_map (Some (TableAsked table t)) shelf F G f h = h
trace_map (Some (TraceAsked trace w)) shelf F G f h = told_map (told shelf.files trace) (F w) (G w) (f w) h

pub nothing_asked : (asked : Option Asked) (F : Asked → Type 0) → asked ≡ None → OfAsked asked F → ⊥
nothing_asked asked F none h = subst (λ a. OfAsked a F) none h

pub no_request : (asked : Option Asked) (a : Asked) → asked ≡ None → asked ≡ Some a → ⊥
no_request asked a none is = cc
