-- What statuses 0 to 3 tell, the laws of runs among it, and which statuses there are.
use Rattle.std.proofs.Common.{◌≡◌, ◌≤◌, ◌⊎◌, inl, inr, ℕ, ℤ, Bool, true, false, List, [], Option, Some, None, refl, sym, subst, ◌∙◌, arith, rules}
use Rattle.outside_bytes.specs.Files.{told}
use Rattle.trace_text.specs.declared.events.Ended.{Ended as Stop}
use Rattle.trace_text.specs.declared.events.Ended.TheVariants as why
use Rattle.profile_image.specs.declared.script_items.Item.{Item}
use Rattle.profile_image.specs.declared.image.Image.{Image}
use Rattle.ada_verdicts.specs.Accepted.{Accepted as IsAccepted}
use Rattle.commands.specs.declared.outcomes.Outcome.{Outcome}
use Rattle.commands.specs.declared.outcomes.Outcome.TheVariants.{Ended, Accepted, Tested, Traced, WordsRefused, SourceRefused}
use Rattle.commands.specs.declared.outcomes.Outcome.TheVariants.{ScriptRefused, TableRefused, TraceRefused, ReadFault, WriteFault, NoMemory}
use Rattle.commands.specs.declared.requests.Work.{Work}
use Rattle.commands.specs.declared.requests.Work.TheVariants as work
use Rattle.commands.specs.declared.requests.TableTest.{TableTest}
use Rattle.trace_text.specs.Queue.{TraceLine}
use Rattle.trace_text.specs.Text.{ArePrintable}
use Rattle.profile_machine.specs.Run.{run_of, lines_of_run}
use Rattle.commands.specs.Requests.{Asked, SourceAsked, ScriptAsked, LoadAsked, TableAsked, TraceAsked}
use Rattle.commands.specs.Outside.{ShelfChange, SinkChange, IsKept}
use Rattle.commands.specs.Outcomes.{stop_status, status_of, note_of, IsNoted, Concludes}
use Rattle.commands.specs.Performed.{OfRun, OfItems, OfTable, OfTrace, IsDone, IsTested, IsTraced, Performs}
use Rattle.commands.specs.Statuses.{IsPrinted, DoneTold, WrittenKeeps, LawTold, RunTold, IsStatus}
use Rattle.commands.proofs.Told.{told_map, items_map}
use Rattle.commands.proofs.Conclusions.{concluded, known, failed, low}
use Rattle.commands.proofs.TablesTold.{status_by}

-- ---- 0 to 3

-- what was done ended with this status
abbrev EndedWith : List (ℤ × Item) → Work → List ℕ → SinkChange → ℕ → Type 0
EndedWith items a bytes out status = (o : Outcome) × IsDone items a bytes out o × (status ≡ status_of o)

done_run : (asked : Option Asked) (shelf : ShelfChange) (out : SinkChange) (o : Outcome) (status : ℕ)
    → OfRun asked shelf (λ xs a bytes. IsDone xs a bytes out o) → status ≡ status_of o → DoneTold asked shelf out status
done_run None shelf out o status h is = h
done_run (Some (SourceAsked source a)) shelf out o status h is =
    told_map (told shelf.files source) (λ bytes. IsDone [] a bytes out o) (λ bytes. EndedWith [] a bytes out status) (λ bytes done. (o, done, is)) h
done_run (Some (ScriptAsked source script ticks)) shelf out o status h is =
    told_map (told shelf.files source) (λ bytes. OfItems shelf script (λ items. IsDone items (work.Run ticks) bytes out o))
    (λ bytes. OfItems shelf script (λ items. EndedWith items (work.Run ticks) bytes out status))
    (λ bytes known. items_map shelf script (λ items. IsDone items (work.Run ticks) bytes out o) (λ items. EndedWith items (work.Run ticks) bytes out status)
    (λ items done. (o, done, is)) known) h
done_run (Some (LoadAsked tasks)) shelf out o status h is = (o, h, is)
done_run (Some (TableAsked table t)) shelf out o status h is = absurd h
done_run (Some (TraceAsked trace w)) shelf out o status h is = absurd h

pub printed : (t : TableTest) (bytes : List ℕ) (out : SinkChange) (failed : Bool) (status : ℕ) → status ≡ status_of (Tested failed)
    → IsTested t bytes out failed → IsPrinted t bytes out status
printed t bytes out failed status is h = (h.duties, h.read, h.text, is ∙ status_by t h.duties failed h.failed_is)

done_table : (asked : Option Asked) (shelf : ShelfChange) (out : SinkChange) (failed : Bool) (status : ℕ)
    → OfTable asked shelf (λ t bytes. IsTested t bytes out failed) → status ≡ status_of (Tested failed) → status ≡ 0 → DoneTold asked shelf out status
done_table None shelf out failed status h is zero_is = h
done_table (Some (SourceAsked source a)) shelf out failed status h is zero_is = absurd h
done_table (Some (ScriptAsked source script ticks)) shelf out failed status h is zero_is = absurd h
done_table (Some (LoadAsked tasks)) shelf out failed status h is zero_is = absurd h
done_table (Some (TableAsked table t)) shelf out failed status h is zero_is = (
  zero_is,
  told_map (told shelf.files table) (λ bytes. IsTested t bytes out failed) (λ bytes. IsPrinted t bytes out status)
      (λ bytes h. printed t bytes out failed status is h) h,
)
done_table (Some (TraceAsked trace w)) shelf out failed status h is zero_is = absurd h

done_trace : (asked : Option Asked) (shelf : ShelfChange) (out : SinkChange) (status : ℕ) → OfTrace asked shelf (λ w bytes. IsTraced w bytes out false)
    → status ≡ 0 → DoneTold asked shelf out status
done_trace None shelf out status h is = h
done_trace (Some (SourceAsked source a)) shelf out status h is = absurd h
done_trace (Some (ScriptAsked source script ticks)) shelf out status h is = absurd h
done_trace (Some (LoadAsked tasks)) shelf out status h is = absurd h
done_trace (Some (TableAsked table t)) shelf out status h is = absurd h
done_trace (Some (TraceAsked trace w)) shelf out status h is = (is, h)

done_by : (asked : Option Asked) (shelf : ShelfChange) (out : SinkChange) (o : Outcome) (status : ℕ) → Performs asked shelf out o → status ≡ status_of o
    → status ≤ 3 → DoneTold asked shelf out status
done_by asked shelf out (Ended stop) status p is small = done_run asked shelf out (Ended stop) status p is
done_by asked shelf out Accepted status p is small = done_run asked shelf out Accepted status p is
done_by asked shelf out (Tested true) status p is small = absurd (omega (arith, is, small))
done_by asked shelf out (Tested false) status p is small = done_table asked shelf out false status p is is
done_by asked shelf out (Traced true) status p is small = absurd (omega (arith, is, small))
done_by asked shelf out (Traced false) status p is small = done_trace asked shelf out status p is
done_by asked shelf out WordsRefused status p is small = absurd (omega (arith, is, small))
done_by asked shelf out (SourceRefused refusal) status p is small = absurd (omega (arith, is, small))
done_by asked shelf out (ScriptRefused fault) status p is small = absurd (omega (arith, is, small))
done_by asked shelf out (TableRefused fault) status p is small = absurd (omega (arith, is, small))
done_by asked shelf out (TraceRefused line) status p is small = absurd (omega (arith, is, small))
done_by asked shelf out ReadFault status p is small = absurd (omega (arith, is, small))
done_by asked shelf out WriteFault status p is small = absurd (omega (arith, is, small))
done_by asked shelf out NoMemory status p is small = absurd (omega (arith, is, small))

pub done_told : (asked : Option Asked) (shelf : ShelfChange) (out notes : SinkChange) (o : Outcome) (status : ℕ) → Performs asked shelf out o
    → Concludes o notes status → status ≤ 3 → DoneTold asked shelf out status
done_told asked shelf out notes o status p c small = done_by asked shelf out o status p (concluded o notes status c (low status (omega (arith, small)))).0 small

-- ---- the laws of runs

-- a law of every run, as one of the lines that a run is said to have
abbrev pub OfRuns : (List TraceLine → Type 0) → Type 0
OfRuns law = (p : Image) (script : List (ℤ × Item)) (bound : ℕ) → law (run_of p script bound)

-- the same of the runs of each image that has this
abbrev pub OfRunsWhere : (Image → Type 0) → (List TraceLine → Type 0) → Type 0
OfRunsWhere has law = (p : Image) → has p → (script : List (ℤ × Item)) (bound : ℕ) → law (run_of p script bound)

-- the image of each source that is accepted has this
abbrev pub OfAccepted : (Image → Type 0) → Type 0
OfAccepted has = (bytes : List ℕ) (p : Image) → IsAccepted bytes p → has p

-- a law of runs, of their images, items and bounds
abbrev OfAcceptedRuns : (Image → List (ℤ × Item) → ℕ → List TraceLine → Type 0) → Type 0
OfAcceptedRuns law = (bytes : List ℕ) (p : Image) → IsAccepted bytes p → (script : List (ℤ × Item)) (bound : ℕ) → law p script bound (run_of p script bound)

law_of_lines : (law : Image → List (ℤ × Item) → ℕ → List TraceLine → Type 0) → OfAcceptedRuns law → (bytes : List ℕ) (p : Image) → IsAccepted bytes p
    → (script : List (ℤ × Item)) (bound : ℕ) → law p script bound (lines_of_run p script bound)
unfolding lines_of_run
law_of_lines law holds bytes p fits script bound = holds bytes p fits script bound

-- a law of the lines of each run that was done
abbrev OfDone : (Image → List (ℤ × Item) → ℕ → List TraceLine → Type 0) → Type 0
OfDone law =
    (items : List (ℤ × Item)) (ticks : ℕ) (bytes : List ℕ) (out : SinkChange) (o : Outcome) (done : IsDone items (work.Run ticks) bytes out o)
    → law done.image items ticks (lines_of_run done.image items ticks)

law_done : (law : Image → List (ℤ × Item) → ℕ → List TraceLine → Type 0) → OfDone law
    → (items : List (ℤ × Item)) (ticks : ℕ) (bytes : List ℕ) (out : SinkChange) (o : Outcome) → IsDone items (work.Run ticks) bytes out o
    → WrittenKeeps law items ticks bytes out
law_done law holds items ticks bytes out o done = record {
  image = done.image;
  lines = lines_of_run done.image items ticks;
  accepted = done.accepted;
  are_of_run = refl;
  text = done.text;
  keeps = holds items ticks bytes out o done;
}

law_by : (law : Image → List (ℤ × Item) → ℕ → List TraceLine → Type 0) → OfDone law
    → (asked : Option Asked) (shelf : ShelfChange) (out : SinkChange) (status : ℕ) → DoneTold asked shelf out status → RunTold law asked shelf out
law_by law holds None shelf out status h = tt
law_by law holds (Some (SourceAsked source (work.Run ticks))) shelf out status h =
    told_map (told shelf.files source) (λ bytes. EndedWith [] (work.Run ticks) bytes out status) (λ bytes. WrittenKeeps law [] ticks bytes out)
    (λ bytes ended. law_done law holds [] ticks bytes out ended.0 ended.1) h
law_by law holds (Some (SourceAsked source (work.Summary ticks))) shelf out status h = tt
law_by law holds (Some (SourceAsked source work.Accept)) shelf out status h = tt
law_by law holds (Some (ScriptAsked source script ticks)) shelf out status h =
    told_map (told shelf.files source) (λ bytes. OfItems shelf script (λ items. EndedWith items (work.Run ticks) bytes out status))
    (λ bytes. OfItems shelf script (λ items. WrittenKeeps law items ticks bytes out))
    (λ bytes known. items_map shelf script (λ items. EndedWith items (work.Run ticks) bytes out status) (λ items. WrittenKeeps law items ticks bytes out)
    (λ items ended. law_done law holds items ticks bytes out ended.0 ended.1) known) h
law_by law holds (Some (LoadAsked tasks)) shelf out status h = tt
law_by law holds (Some (TableAsked table t)) shelf out status h = tt
law_by law holds (Some (TraceAsked trace w)) shelf out status h = tt

accepted_done : (law : Image → List (ℤ × Item) → ℕ → List TraceLine → Type 0) → OfAcceptedRuns law → OfDone law
accepted_done law holds items ticks bytes out o done = law_of_lines law holds bytes done.image done.accepted items ticks

pub law_told : (law : List TraceLine → Type 0) → OfRuns law → (asked : Option Asked) (shelf : ShelfChange) (out notes : SinkChange) (o : Outcome) (status : ℕ)
    → Performs asked shelf out o → Concludes o notes status → status ≤ 3 → LawTold law asked shelf out
law_told law holds asked shelf out notes o status p c small =
    law_by (λ image items ticks lines. law lines)
    (accepted_done (λ image items ticks lines. law lines) (λ bytes image fits script bound. holds image script bound)) asked shelf out status
    (done_told asked shelf out notes o status p c small)

-- a law of the lines of a run with its image, its items and its bound
pub run_told : (law : Image → List (ℤ × Item) → ℕ → List TraceLine → Type 0)
    → ((p : Image) (script : List (ℤ × Item)) (bound : ℕ) → law p script bound (run_of p script bound))
    → (asked : Option Asked) (shelf : ShelfChange) (out notes : SinkChange) (o : Outcome) (status : ℕ) → Performs asked shelf out o → Concludes o notes status
    → status ≤ 3 → RunTold law asked shelf out
run_told law holds asked shelf out notes o status p c small =
    law_by law (accepted_done law (λ bytes image fits script bound. holds image script bound)) asked shelf out status
    (done_told asked shelf out notes o status p c small)

-- a law that needs of an image what each accepted source gives it
pub law_told_where : (has : Image → Type 0) → OfAccepted has → (law : List TraceLine → Type 0) → OfRunsWhere has law
    → (asked : Option Asked) (shelf : ShelfChange) (out notes : SinkChange) (o : Outcome) (status : ℕ) → Performs asked shelf out o → Concludes o notes status
    → status ≤ 3 → LawTold law asked shelf out
law_told_where has given law holds asked shelf out notes o status p c small =
    law_by (λ image items ticks lines. law lines)
    (accepted_done (λ image items ticks lines. law lines)
    (λ bytes image fits script bound. holds image (given bytes image fits) script bound)) asked shelf out status
    (done_told asked shelf out notes o status p c small)

-- the lines of a run that was done are printable
printable_done : OfDone (λ image items ticks lines. ArePrintable lines)
printable_done items ticks bytes out o done = done.printable

pub printable_told : (asked : Option Asked) (shelf : ShelfChange) (out notes : SinkChange) (o : Outcome) (status : ℕ) → Performs asked shelf out o
    → Concludes o notes status → status ≤ 3 → LawTold ArePrintable asked shelf out
printable_told asked shelf out notes o status p c small =
    law_by (λ image items ticks lines. ArePrintable lines) printable_done asked shelf out status (done_told asked shelf out notes o status p c small)

quiet_by : (o : Outcome) (notes : SinkChange) (status : ℕ) → (status ≡ status_of o) × IsNoted (note_of o) notes → status ≤ 3 → IsKept notes
quiet_by (Ended stop) notes status c small = c.1
quiet_by Accepted notes status c small = c.1
quiet_by (Tested failed) notes status c small = c.1
quiet_by (Traced broken) notes status c small = c.1
quiet_by WordsRefused notes status c small = absurd (omega (arith, c.0, small))
quiet_by (SourceRefused refusal) notes status c small = absurd (omega (arith, c.0, small))
quiet_by (ScriptRefused fault) notes status c small = absurd (omega (arith, c.0, small))
quiet_by (TableRefused fault) notes status c small = absurd (omega (arith, c.0, small))
quiet_by (TraceRefused line) notes status c small = absurd (omega (arith, c.0, small))
quiet_by ReadFault notes status c small = absurd (omega (arith, c.0, small))
quiet_by WriteFault notes status c small = absurd (omega (arith, c.0, small))
quiet_by NoMemory notes status c small = absurd (omega (arith, c.0, small))

pub quiet : (o : Outcome) (notes : SinkChange) (status : ℕ) → Concludes o notes status → status ≤ 3 → IsKept notes
quiet o notes status c small = quiet_by o notes status (concluded o notes status c (low status (omega (arith, small)))) small

-- ---- which statuses there are

run_status : (stop : Stop) → IsStatus (stop_status stop)
run_status why.Completed = search rules
run_status (why.Exception name) = search rules
run_status why.Stuck = search rules
run_status why.Bound = search rules

outcome_status : (asked : Option Asked) (shelf : ShelfChange) (out : SinkChange) (o : Outcome) → Performs asked shelf out o → IsStatus (status_of o)
outcome_status asked shelf out (Ended stop) p = run_status stop
outcome_status asked shelf out Accepted p = search rules
outcome_status asked shelf out (Tested true) p = search rules
outcome_status asked shelf out (Tested false) p = search rules
outcome_status asked shelf out (Traced true) p = search rules
outcome_status asked shelf out (Traced false) p = search rules
outcome_status asked shelf out WordsRefused p = search rules
outcome_status asked shelf out (SourceRefused refusal) p = search rules
outcome_status asked shelf out (ScriptRefused fault) p = search rules
outcome_status asked shelf out (TableRefused fault) p = search rules
outcome_status asked shelf out (TraceRefused line) p = search rules
outcome_status asked shelf out ReadFault p = search rules
outcome_status asked shelf out WriteFault p = search rules
outcome_status asked shelf out NoMemory p = search rules

eight_is_one : IsStatus 8
eight_is_one = search rules

either_status : (status wanted : ℕ) → IsStatus wanted → (status ≡ wanted) ⊎ (status ≡ 8) → IsStatus status
either_status status wanted h (inl is) = subst IsStatus (sym is) h
either_status status wanted h (inr is) = subst IsStatus (sym is) eight_is_one

pub known_status : (asked : Option Asked) (shelf : ShelfChange) (out notes : SinkChange) (o : Outcome) (status : ℕ) → Performs asked shelf out o
    → Concludes o notes status → IsStatus status
known_status asked shelf out notes o status p c = either_status status (status_of o) (outcome_status asked shelf out o p) (known o notes status c)
