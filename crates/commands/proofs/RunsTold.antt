-- What a run tells: of what is accepted, with and without a script, and of a load.
use Rattle.std.proofs.Common.{◌≡◌, ◌≢◌, ℕ, ℤ, List, [], Option, Some, Result, Ok, Err, refl, sym, ap, subst, ◌∙◌}
use Rattle.outside_bytes.specs.Files.{Holds, told}
use Rattle.profile_image.specs.declared.script_items.Item.{Item}
use Rattle.profile_image.specs.declared.image.Image.{Image}
use Rattle.ada_verdicts.specs.Accepted.{Accepted as IsAccepted}
use Rattle.event_script.specs.declared.faults.ScriptFault.{ScriptFault}
use Rattle.event_script.specs.Script.{script_of}
use Rattle.commands.specs.declared.outcomes.Outcome.{Outcome}
use Rattle.commands.specs.declared.outcomes.Outcome.TheVariants.{Ended, Accepted, Tested, Traced, WordsRefused, SourceRefused}
use Rattle.commands.specs.declared.outcomes.Outcome.TheVariants.{ScriptRefused, TableRefused, TraceRefused, ReadFault, WriteFault, NoMemory}
use Rattle.commands.specs.declared.requests.Work.{Work}
use Rattle.commands.specs.declared.requests.Work.TheVariants as work
use Rattle.load_runs.specs.Source.{load_text}
use Rattle.commands.specs.declared.requests.TheConstants.{DEFAULT_TICKS}
use Rattle.commands.specs.Requests.{Asked, SourceAsked, ScriptAsked, LoadAsked}
use Rattle.commands.specs.Outside.{ShelfChange, SinkChange, IsKept, Gained}
use Rattle.commands.specs.Outcomes.{status_of, Concludes}
use Rattle.commands.specs.Performed.{text_for, outcome_for, OfItems, IsDone, IsRefused, IsTested, IsNoTable, IsTraced, IsNoTrace, Performs}
use Rattle.commands.specs.Statuses.{IsUndisturbed, Headline, HeadlineUnder, LoadTold, AcceptanceTold}
use Rattle.commands.proofs.Conclusions.{concluded, failed}
use Rattle.commands.proofs.AskedFiles.{at_source, at_source_under, at_run, at_run_under, at_items, at_no_script, no_table, source_no_script, script_no_table}
use Rattle.commands.proofs.AskedFiles.{script_no_trace, source_no_trace, at_load, at_load_run, load_no_script, load_no_table, load_no_trace, no_request}

-- ---- what is accepted is done

served : (items : List (ℤ × Item)) (a : Work) (bytes : List ℕ) (image : Image) (out notes : SinkChange) (o : Outcome) (status : ℕ) → IsDone items a bytes out o
    → IsAccepted bytes image → status ≡ status_of o → IsKept notes →
    Gained out (text_for items a image) × (status ≡ status_of (outcome_for items a image)) × IsKept notes
served items a bytes image out notes o status done fits is kept =
    let same = sym (done.only image fits) in
    (subst (λ i. Gained out (text_for items a i)) same done.text, is ∙ ap status_of (sym done.outcome_is ∙ ap (outcome_for items a) same), kept)

pub disturbed : (o : Outcome) (notes : SinkChange) (status : ℕ) (fault : ℕ) → Concludes o notes status → status_of o ≡ fault → (status ≢ fault) → status ≢ 8 → ⊥
disturbed o notes status fault c is other stream = other ((concluded o notes status c stream).0 ∙ is)

undisturbed : (asked : Option Asked) (shelf : ShelfChange) (out notes : SinkChange) (o : Outcome) (status : ℕ) → Performs asked shelf out o
    → Concludes o notes status →
    (source : List ℕ) (a : Work) (bytes : List ℕ) (image : Image) → asked ≡ Some (SourceAsked source a) → told shelf.files source ≡ Holds bytes
    → IsAccepted bytes image → IsUndisturbed status →
    Gained out (text_for [] a image) × (status ≡ status_of (outcome_for [] a image)) × IsKept notes
undisturbed asked shelf out notes (Ended stop) status p c source a bytes image is there fits u =
    let told = concluded (Ended stop) notes status c u.1 in
    served [] a bytes image out notes (Ended stop) status
    (at_run asked shelf source a bytes (λ xs x b. IsDone xs x b out (Ended stop)) is there p) fits told.0 told.1
undisturbed asked shelf out notes Accepted status p c source a bytes image is there fits u =
    let told = concluded Accepted notes status c u.1 in
    served [] a bytes image out notes Accepted status (at_run asked shelf source a bytes (λ xs x b. IsDone xs x b out Accepted) is there p) fits told.0 told.1
undisturbed asked shelf out notes (Tested failed) status p c source a bytes image is there fits u =
    absurd (no_table asked shelf source a (λ t b. IsTested t b out failed) is p)
undisturbed asked shelf out notes (Traced broken) status p c source a bytes image is there fits u =
    absurd (source_no_trace asked shelf source a (λ x b. IsTraced x b out broken) is p)
undisturbed asked shelf out notes WordsRefused status p c source a bytes image is there fits u = absurd (no_request asked (SourceAsked source a) p.0 is)
undisturbed asked shelf out notes (SourceRefused refusal) status p c source a bytes image is there fits u =
    absurd ((at_source asked shelf source a bytes (λ x b. IsRefused b refusal) is there p.0).never image fits)
undisturbed asked shelf out notes (ScriptRefused fault) status p c source a bytes image is there fits u =
    absurd (source_no_script asked shelf source a fault is p.0)
undisturbed asked shelf out notes (TableRefused fault) status p c source a bytes image is there fits u =
    absurd (no_table asked shelf source a (λ t b. IsNoTable fault b) is p.0)
undisturbed asked shelf out notes (TraceRefused line) status p c source a bytes image is there fits u =
    absurd (source_no_trace asked shelf source a (λ x b. IsNoTrace line x b) is p.0)
undisturbed asked shelf out notes ReadFault status p c source a bytes image is there fits u = absurd (disturbed ReadFault notes status 7 c refl u.0 u.1)
undisturbed asked shelf out notes WriteFault status p c source a bytes image is there fits u = absurd (disturbed WriteFault notes status 8 c refl u.1 u.1)
undisturbed asked shelf out notes NoMemory status p c source a bytes image is there fits u = absurd (disturbed NoMemory notes status 9 c refl u.2 u.1)

-- the same of a run under a script
abbrev items_in : List (ℤ × Item) → Result (List (ℤ × Item)) ScriptFault → List (ℤ × Item)
items_in other (Ok items) = items
items_in other (Err fault) = other

same_items : (text : List ℕ) (a b : List (ℤ × Item)) → script_of text ≡ Ok a → script_of text ≡ Ok b → a ≡ b
same_items text a b one other = ap (items_in a) (sym one ∙ other)

pub no_items : (text : List ℕ) (items : List (ℤ × Item)) (fault : ScriptFault) → script_of text ≡ Ok items → script_of text ≡ Err fault → ⊥
no_items text items fault read refused = cc

served_under : (shelf : ShelfChange) (script text : List ℕ) (ticks : ℕ) (items : List (ℤ × Item)) (bytes : List ℕ) (image : Image) (out notes : SinkChange)
    (o : Outcome) (status : ℕ)
    → OfItems shelf script (λ xs. IsDone xs (work.Run ticks) bytes out o)
    →
    told shelf.files script ≡ Holds text → script_of text ≡ Ok items → IsAccepted bytes image → status ≡ status_of o → IsKept notes →
    Gained out (text_for items (work.Run ticks) image) × (status ≡ status_of (outcome_for items (work.Run ticks) image)) × IsKept notes
served_under shelf script text ticks items bytes image out notes o status h there read fits is kept =
    let known = at_items shelf script text (λ xs. IsDone xs (work.Run ticks) bytes out o) there h in
    served items (work.Run ticks) bytes image out notes o status
    (subst (λ xs. IsDone xs (work.Run ticks) bytes out o) (same_items text known.0 items known.1 read) known.2) fits is kept

undisturbed_under : (asked : Option Asked) (shelf : ShelfChange) (out notes : SinkChange) (o : Outcome) (status : ℕ) → Performs asked shelf out o
    → Concludes o notes status →
    (source script : List ℕ) (ticks : ℕ) (bytes text : List ℕ) (image : Image) (items : List (ℤ × Item)) → asked ≡ Some (ScriptAsked source script ticks)
    → told shelf.files source ≡ Holds bytes → told shelf.files script ≡ Holds text →
    IsAccepted bytes image → script_of text ≡ Ok items → IsUndisturbed status →
    Gained out (text_for items (work.Run ticks) image) × (status ≡ status_of (outcome_for items (work.Run ticks) image)) × IsKept notes
undisturbed_under asked shelf out notes (Ended stop) status p c source script ticks bytes text image items is there beside fits read u =
    let told = concluded (Ended stop) notes status c u.1 in
    served_under shelf script text ticks items bytes image out notes (Ended stop) status
    (at_run_under asked shelf source script ticks bytes (λ xs x b. IsDone xs x b out (Ended stop)) is there p) beside read fits told.0 told.1
undisturbed_under asked shelf out notes Accepted status p c source script ticks bytes text image items is there beside fits read u =
    let told = concluded Accepted notes status c u.1 in
    served_under shelf script text ticks items bytes image out notes Accepted status
    (at_run_under asked shelf source script ticks bytes (λ xs x b. IsDone xs x b out Accepted) is there p) beside read fits told.0 told.1
undisturbed_under asked shelf out notes (Tested failed) status p c source script ticks bytes text image items is there beside fits read u =
    absurd (script_no_table asked shelf source script ticks (λ t b. IsTested t b out failed) is p)
undisturbed_under asked shelf out notes (Traced broken) status p c source script ticks bytes text image items is there beside fits read u =
    absurd (script_no_trace asked shelf source script ticks (λ x b. IsTraced x b out broken) is p)
undisturbed_under asked shelf out notes WordsRefused status p c source script ticks bytes text image items is there beside fits read u =
    absurd (no_request asked (ScriptAsked source script ticks) p.0 is)
undisturbed_under asked shelf out notes (SourceRefused refusal) status p c source script ticks bytes text image items is there beside fits read u =
    absurd ((at_source_under asked shelf source script ticks bytes (λ x b. IsRefused b refusal) is there p.0).never image fits)
undisturbed_under asked shelf out notes (ScriptRefused fault) status p c source script ticks bytes text image items is there beside fits read u =
    absurd (no_items text items fault read (at_no_script asked shelf source script ticks text fault is beside p.0))
undisturbed_under asked shelf out notes (TableRefused fault) status p c source script ticks bytes text image items is there beside fits read u =
    absurd (script_no_table asked shelf source script ticks (λ t b. IsNoTable fault b) is p.0)
undisturbed_under asked shelf out notes (TraceRefused line) status p c source script ticks bytes text image items is there beside fits read u =
    absurd (script_no_trace asked shelf source script ticks (λ x b. IsNoTrace line x b) is p.0)
undisturbed_under asked shelf out notes ReadFault status p c source script ticks bytes text image items is there beside fits read u =
    absurd (disturbed ReadFault notes status 7 c refl u.0 u.1)
undisturbed_under asked shelf out notes WriteFault status p c source script ticks bytes text image items is there beside fits read u =
    absurd (disturbed WriteFault notes status 8 c refl u.1 u.1)
undisturbed_under asked shelf out notes NoMemory status p c source script ticks bytes text image items is there beside fits read u =
    absurd (disturbed NoMemory notes status 9 c refl u.2 u.1)

-- the same of a load
undisturbed_load : (asked : Option Asked) (shelf : ShelfChange) (out notes : SinkChange) (o : Outcome) (status : ℕ) → Performs asked shelf out o
    → Concludes o notes status → (tasks : ℕ) (image : Image) → asked ≡ Some (LoadAsked tasks) → IsAccepted (load_text tasks) image → IsUndisturbed status →
    Gained out (text_for [] (work.Summary DEFAULT_TICKS) image) × (status ≡ status_of (outcome_for [] (work.Summary DEFAULT_TICKS) image)) × IsKept notes
undisturbed_load asked shelf out notes (Ended stop) status p c tasks image is fits u =
    let told = concluded (Ended stop) notes status c u.1 in
    served [] (work.Summary DEFAULT_TICKS) (load_text tasks) image out notes (Ended stop) status
    (at_load_run asked shelf tasks (λ xs x b. IsDone xs x b out (Ended stop)) is p) fits told.0 told.1
undisturbed_load asked shelf out notes Accepted status p c tasks image is fits u =
    let told = concluded Accepted notes status c u.1 in
    served [] (work.Summary DEFAULT_TICKS) (load_text tasks) image out notes Accepted status
    (at_load_run asked shelf tasks (λ xs x b. IsDone xs x b out Accepted) is p) fits told.0 told.1
undisturbed_load asked shelf out notes (Tested failed) status p c tasks image is fits u =
    absurd (load_no_table asked shelf tasks (λ t b. IsTested t b out failed) is p)
undisturbed_load asked shelf out notes (Traced broken) status p c tasks image is fits u =
    absurd (load_no_trace asked shelf tasks (λ x b. IsTraced x b out broken) is p)
undisturbed_load asked shelf out notes WordsRefused status p c tasks image is fits u = absurd (no_request asked (LoadAsked tasks) p.0 is)
undisturbed_load asked shelf out notes (SourceRefused refusal) status p c tasks image is fits u =
    absurd ((at_load asked shelf tasks (λ x b. IsRefused b refusal) is p.0).never image fits)
undisturbed_load asked shelf out notes (ScriptRefused fault) status p c tasks image is fits u = absurd (load_no_script asked shelf tasks fault is p.0)
undisturbed_load asked shelf out notes (TableRefused fault) status p c tasks image is fits u =
    absurd (load_no_table asked shelf tasks (λ t b. IsNoTable fault b) is p.0)
undisturbed_load asked shelf out notes (TraceRefused line) status p c tasks image is fits u =
    absurd (load_no_trace asked shelf tasks (λ x b. IsNoTrace line x b) is p.0)
undisturbed_load asked shelf out notes ReadFault status p c tasks image is fits u = absurd (disturbed ReadFault notes status 7 c refl u.0 u.1)
undisturbed_load asked shelf out notes WriteFault status p c tasks image is fits u = absurd (disturbed WriteFault notes status 8 c refl u.1 u.1)
undisturbed_load asked shelf out notes NoMemory status p c tasks image is fits u = absurd (disturbed NoMemory notes status 9 c refl u.2 u.1)

pub load_told : (asked : Option Asked) (shelf : ShelfChange) (out notes : SinkChange) (o : Outcome) (status : ℕ) → Performs asked shelf out o
    → Concludes o notes status → LoadTold asked out notes status
load_told asked shelf out notes o status p c tasks image is fits u = undisturbed_load asked shelf out notes o status p c tasks image is fits u

pub headline : (asked : Option Asked) (shelf : ShelfChange) (out notes : SinkChange) (o : Outcome) (status : ℕ) → Performs asked shelf out o
    → Concludes o notes status → Headline asked shelf out notes status
headline asked shelf out notes o status p c source bytes ticks image is there fits u =
    undisturbed asked shelf out notes o status p c source (work.Run ticks) bytes image is there fits u

pub headline_under : (asked : Option Asked) (shelf : ShelfChange) (out notes : SinkChange) (o : Outcome) (status : ℕ) → Performs asked shelf out o
    → Concludes o notes status → HeadlineUnder asked shelf out notes status
headline_under asked shelf out notes o status p c source bytes script text ticks image items is there beside fits read u =
    undisturbed_under asked shelf out notes o status p c source script ticks bytes text image items is there beside fits read u

pub acceptance : (asked : Option Asked) (shelf : ShelfChange) (out notes : SinkChange) (o : Outcome) (status : ℕ) → Performs asked shelf out o
    → Concludes o notes status → AcceptanceTold asked shelf out notes status
acceptance asked shelf out notes o status p c source bytes image is there fits u =
    undisturbed asked shelf out notes o status p c source work.Accept bytes image is there fits u
