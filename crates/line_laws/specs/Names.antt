-- What is asked of the names of a program, and what every line of its runs then is: printable, where it names
-- something.
use Rattle.std.specs.Prelude.{◌≢◌, ◌≤◌, ◌<◌, ◌^◌, ℕ, ℤ, Bool, false, not, ◌&&◌, leb}
use Rattle.std.specs.Prelude.{IsTrue, List, [], ◌∷◌, All, bytes_eq, codes, length}
use Rattle.std.specs.List.{list_all}
use Rattle.ann_base.specs.declared.names.TheConstants.{NAME_BYTES}
use Rattle.trace_text.specs.declared.events.EntryName.{EntryName}
use Rattle.trace_text.specs.declared.events.EntryName.TheVariants as called
use Rattle.trace_text.specs.declared.events.Finished.{Finished}
use Rattle.trace_text.specs.declared.events.Finished.TheVariants as finished
use Rattle.trace_text.specs.declared.events.Ended.{Ended}
use Rattle.trace_text.specs.declared.events.Ended.TheVariants as why
use Rattle.trace_text.specs.declared.events.Event.{Event}
use Rattle.trace_text.specs.declared.events.Event.TheVariants as line
use Rattle.trace_text.specs.Text.{is_name_from, IsName, IsExceptionName, IsPutText}
use Rattle.trace_text.specs.Text.{IsPrintable, IsWithin, ArePrintable, IsFinishedWithin}
use Rattle.profile_image.specs.declared.image.Image.{Image}
use Rattle.profile_image.specs.declared.script_items.Item.{Item}
use Rattle.profile_machine.specs.declared.world.lines.Line.{Line}
use Rattle.profile_machine.specs.Lines.{event_of}
use Rattle.profile_machine.specs.Run.{run_of}

-- ---- what is asked of a program

-- a name, and the name of an exception, for which a line has room
pub record IsShortName (name : List ℕ) : Type 0 where
  pub name_is : IsName name
  pub short : length name ≤ NAME_BYTES

pub record IsShortException (name : List ℕ) : Type 0 where
  pub exception_is : IsExceptionName name
  pub short : length name ≤ NAME_BYTES

-- Each name of the program can stand in a line. Every declaration is asked for an expanded name that an exception may
-- have: only a library unit could be named as one of the other ends of a call.
pub record IsNamed (p : Image) : Type 0 where
  pub main : IsShortName p.main.name
  pub declarations : All (λ d. IsShortName d.name) p.declarations
  pub expanded : All (λ d. IsShortException d.expanded) p.declarations
  pub subprograms : All (λ s. IsShortName s.name) p.subprograms
  pub entries : All (λ e. IsShortName e.name) p.entries

-- ---- what a line says

-- The name is there. An item that the program does not have has the empty one.
abbrev pub HasEntry : EntryName → Type 0
HasEntry (called.OfTask task name) = name ≢ []
HasEntry (called.OfObject object name) = name ≢ []

abbrev pub HasFinished : Finished → Type 0
HasFinished finished.Ok = Unit {0}
HasFinished (finished.Raised name) = name ≢ []
HasFinished finished.Requeue = Unit {0}

abbrev pub HasEnded : Ended → Type 0
HasEnded why.Completed = Unit {0}
HasEnded (why.Exception name) = name ≢ []
HasEnded why.Stuck = Unit {0}
HasEnded why.Bound = Unit {0}

-- each name of the line is there, and what it puts is a text
abbrev pub IsComplete : Event → Type 0
IsComplete (line.New what name level) = name ≢ []
IsComplete (line.Raise who name) = name ≢ []
IsComplete (line.Put who text) = IsPutText text
IsComplete (line.Call task call entry priority) = HasEntry entry
IsComplete (line.Finish who call how) = HasFinished how
IsComplete (line.Init who object region name) = name ≢ []
IsComplete (line.Release release object handler) = handler ≢ []
IsComplete (line.End why) = HasEnded why
IsComplete _ = Unit {0}

-- there is room for each name and text of the line
abbrev pub HasRoomForEntry : EntryName → Type 0
HasRoomForEntry (called.OfTask task name) = length name ≤ NAME_BYTES
HasRoomForEntry (called.OfObject object name) = length name ≤ NAME_BYTES

abbrev pub HasRoomForEnded : Ended → Type 0
HasRoomForEnded why.Completed = Unit {0}
HasRoomForEnded (why.Exception name) = length name ≤ NAME_BYTES
HasRoomForEnded why.Stuck = Unit {0}
HasRoomForEnded why.Bound = Unit {0}

abbrev pub HasRoom : Event → Type 0
HasRoom (line.New what name level) = length name ≤ NAME_BYTES
HasRoom (line.Raise who name) = length name ≤ NAME_BYTES
HasRoom (line.Put who text) = length text ≤ NAME_BYTES
HasRoom (line.Call task call entry priority) = HasRoomForEntry entry
HasRoom (line.Finish who call how) = IsFinishedWithin how
HasRoom (line.Init who object region name) = length name ≤ NAME_BYTES
HasRoom (line.Release release object handler) = length handler ≤ NAME_BYTES
HasRoom (line.End why) = HasRoomForEnded why
HasRoom _ = Unit {0}

-- it is printable, unless a name is missing or what it puts is no text
abbrev pub IsPrintableIfComplete : Event → Type 0
IsPrintableIfComplete event = IsComplete event → IsPrintable event × HasRoom event

-- ---- the laws

-- each line that an effect can say, whatever its numbers
abbrev pub EventsArePrintable : Type 0
EventsArePrintable = (p : Image) → IsNamed p → (x : Line) → IsPrintableIfComplete (event_of p x)

abbrev pub EachEvent : (Event → Type 0) → List (ℕ × Event) → Type 0
EachEvent P [] = Unit {0}
EachEvent P (x ∷ xs) = P x.1 × EachEvent P xs

abbrev pub LinesArePrintable : Type 0
LinesArePrintable = (p : Image) (script : List (ℤ × Item)) (bound : ℕ) → IsNamed p
    → EachEvent IsPrintableIfComplete (run_of p script bound)

-- ---- whole runs

-- each line of the run names something, and the numbers and ticks fit the types of lines
pub record IsCompleteRun (p : Image) (script : List (ℤ × Item)) (bound : ℕ) : Type 0 where
  pub named : IsNamed p
  pub ticks : bound < 2 ^ 64
  pub complete : EachEvent IsComplete (run_of p script bound)
  pub within : EachEvent IsWithin (run_of p script bound)

-- such runs have different texts where they have different lines
abbrev pub RunsArePrintable : Type 0
RunsArePrintable = (p : Image) (script : List (ℤ × Item)) (bound : ℕ) → IsCompleteRun p script bound
    → ArePrintable (run_of p script bound)

-- ---- a test of what is asked

abbrev pub is_short_name : List ℕ → Bool
is_short_name name = is_name_from false name && leb (length name) NAME_BYTES

abbrev pub is_short_exception : List ℕ → Bool
is_short_exception name = not (bytes_eq name (codes "ok"))
    && (not (bytes_eq name (codes "requeue")) && is_short_name name)

abbrev pub is_named : Image → Bool
is_named p =
    is_short_name p.main.name
    && (list_all (λ d. is_short_name d.name) p.declarations
    && (list_all (λ d. is_short_exception d.expanded) p.declarations
    && (list_all (λ s. is_short_name s.name) p.subprograms && list_all (λ e. is_short_name e.name) p.entries)))

abbrev pub NamesAreTested : Type 0
NamesAreTested = (p : Image) → IsTrue (is_named p) → IsNamed p
