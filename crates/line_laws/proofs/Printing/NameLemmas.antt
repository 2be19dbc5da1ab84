-- What a line says has the names of the program, or the empty one.
use Rattle.std.proofs.Common.{◌≡◌, ℕ, zero, suc, ◌≤◌, Bool, true, false, eqb, List, [], ◌∷◌, Some, None, refl, ap, arith}
use Rattle.std.specs.Prelude.{◌≢◌, All, codes, length, slice_index_or}
use Rattle.std.specs.List.{AllByRecursion}
use Rattle.std.proofs.lemmas.List.Elements.{recursion_from_All}
use Rattle.ann_base.specs.declared.exceptions.Raised.{Raised}
use Rattle.ann_base.specs.declared.exceptions.Raised.TheVariants as exception
use Rattle.trace_text.specs.Text.{IsName}
use Rattle.profile_image.specs.declared.image.Image.{Image}
use Rattle.profile_image.specs.declared.declarations.Declaration.{Declaration}
use Rattle.profile_image.specs.declared.declarations.Entry.{Entry}
use Rattle.profile_image.specs.declared.declarations.Subprogram.{Subprogram}
use Rattle.profile_image.specs.declared.numbers.DeclNo.{DeclNo}
use Rattle.profile_image.specs.declared.numbers.EntryNo.{EntryNo}
use Rattle.profile_image.specs.declared.numbers.SubprogramNo.{SubprogramNo}
use Rattle.profile_machine.specs.declared.world.calls.Owner.TheVariants as owned_by
use Rattle.profile_machine.specs.declared.world.lines.Line.{Line}
use Rattle.profile_machine.specs.declared.world.lines.Line.TheVariants as line
use Rattle.profile_machine.specs.declared.world.lines.MeetingEnd.TheVariants as meeting
use Rattle.profile_image.specs.Program.{no_declaration, declaration_of, no_entry, entry_of, no_subprogram, subprogram_of}
use Rattle.profile_machine.specs.Lines.{exception_name, event_of}
use Rattle.line_laws.specs.Names.{IsShortName, IsShortException, IsNamed, IsPrintableIfComplete}

-- ---- the items of a list

-- an item that the list does not have has the empty name
named-at : {X : Type 0} (P : List ℕ → Type 0) (name : X → List ℕ) (xs : List X) (n : ℕ) (d : X) → AllByRecursion (λ x. P (name x)) xs → name d ≡ []
    → name (slice_index_or xs n d) ≢ [] → P (name (slice_index_or xs n d))
named-at P name [] n d a none some = absurd (some none)
named-at P name (x ∷ xs) zero d a none some = a.0
named-at P name (x ∷ xs) (suc n) d a none some = named-at P name xs n d a.1 none some

named-of : {X : Type 0} (P : List ℕ → Type 0) (name : X → List ℕ) (xs : List X) (n : ℕ) (d : X) → All (λ x. P (name x)) xs → name d ≡ []
    → name (slice_index_or xs n d) ≢ [] → P (name (slice_index_or xs n d))
named-of P name xs n d a none some = named-at P name xs n d (recursion_from_All (λ x. P (name x)) xs a) none some

declared-named : (p : Image) → IsNamed p → (d : DeclNo) → (declaration_of p d).name ≢ [] → IsShortName (declaration_of p d).name
declared-named p n d some = named-of {X = Declaration} IsShortName (λ x. x.name) p.declarations d.0 no_declaration n.declarations refl some

expanded-named : (p : Image) → IsNamed p → (d : DeclNo) → (declaration_of p d).expanded ≢ [] → IsShortException (declaration_of p d).expanded
expanded-named p n d some = named-of {X = Declaration} IsShortException (λ x. x.expanded) p.declarations d.0 no_declaration n.expanded refl some

entry-named : (p : Image) → IsNamed p → (e : EntryNo) → (entry_of p e).name ≢ [] → IsShortName (entry_of p e).name
entry-named p n e some = named-of {X = Entry} IsShortName (λ x. x.name) p.entries e.0 no_entry n.entries refl some

subprogram-named : (p : Image) → IsNamed p → (s : SubprogramNo) → (subprogram_of p s).name ≢ [] → IsShortName (subprogram_of p s).name
subprogram-named p n s some = named-of {X = Subprogram} IsShortName (λ x. x.name) p.subprograms s.0 no_subprogram n.subprograms refl some

-- ---- exceptions

begins_with : ℕ → List ℕ → Bool
begins_with byte [] = false
begins_with byte (x ∷ xs) = eqb x byte

other-beginning : (byte : ℕ) (xs ys : List ℕ) → begins_with byte xs ≡ false → begins_with byte ys ≡ true → xs ≢ ys
other-beginning byte xs ys a b same = let c : begins_with byte xs ≡ begins_with byte ys = ap (begins_with byte) same in cc

-- the name of an exception begins with neither letter of the other ends of a call
predefined : (name : List ℕ) (size : ℕ) → IsName name → begins_with 111 name ≡ false → begins_with 114 name ≡ false → length name ≡ size → size ≤ 1000
    → IsShortException name
unfolding begins_with
predefined name size is o r same fits = record {
  exception_is = record {
    name_is = is;
    not_ok = other-beginning 111 name (codes "ok") o refl;
    not_requeue = other-beginning 114 name (codes "requeue") r refl;
  };
  short = omega (arith, same, fits);
}

pub exception-named : (p : Image) → IsNamed p → (e : Raised) → exception_name p e ≢ [] → IsShortException (exception_name p e)
unfolding begins_with
exception-named p n exception.Constraint some = predefined (codes "constraint_error") 16 refl refl refl refl (omega arith)
exception-named p n exception.Program some = predefined (codes "program_error") 13 refl refl refl refl (omega arith)
exception-named p n exception.Storage some = predefined (codes "storage_error") 13 refl refl refl refl (omega arith)
exception-named p n exception.Tasking some = predefined (codes "tasking_error") 13 refl refl refl refl (omega arith)
exception-named p n exception.TimerResource some = predefined (codes "timer_resource_error") 20 refl refl refl refl (omega arith)
exception-named p n exception.GroupBudget some = predefined (codes "group_budget_error") 18 refl refl refl refl (omega arith)
exception-named p n exception.DispatchingPolicy some = predefined (codes "dispatching_policy_error") 24 refl refl refl refl (omega arith)
exception-named p n (exception.User d) some = expanded-named p n (record { 0 = d }) some

-- ---- lines

pub events_are_printable : (p : Image) → IsNamed p → (x : Line) → IsPrintableIfComplete (event_of p x)
events_are_printable p n (line.New what None level) c = (n.main.name_is, n.main.short)
events_are_printable p n (line.New what (Some d) level) c = let k = expanded-named p n d c in (k.exception_is.name_is, k.short)
events_are_printable p n (line.Ready who level end deadline) c = (tt, tt)
events_are_printable p n (line.Block who waits) c = (tt, tt)
events_are_printable p n (line.Base task level) c = (tt, tt)
events_are_printable p n (line.Deadline task deadline) c = (tt, tt)
events_are_printable p n (line.Quantum task) c = (tt, tt)
events_are_printable p n (line.Done task) c = (tt, tt)
events_are_printable p n (line.Raise who e) c = let k = exception-named p n e c in (k.exception_is, k.short)
events_are_printable p n (line.Put who text) c = (c, c.short)
events_are_printable p n (line.Call task call (owned_by.Task t) e priority) c = let k = entry-named p n e c in (k.name_is, k.short)
events_are_printable p n (line.Call task call (owned_by.Object o) e priority) c = let k = entry-named p n e c in (k.name_is, k.short)
events_are_printable p n (line.Start who call) c = (tt, tt)
events_are_printable p n (line.Finish who call meeting.Ok) c = (tt, tt)
events_are_printable p n (line.Finish who call (meeting.Raised e)) c = let k = exception-named p n e c in (k.exception_is, k.short)
events_are_printable p n (line.Finish who call meeting.Requeue) c = (tt, tt)
events_are_printable p n (line.Cancel task call) c = (tt, tt)
events_are_printable p n (line.Gone task call) c = (tt, tt)
events_are_printable p n (line.Enter who object mode) c = (tt, tt)
events_are_printable p n (line.Exit who object) c = (tt, tt)
events_are_printable p n (line.Held who object mode) c = (tt, tt)
events_are_printable p n (line.Abort task victim) c = (tt, tt)
events_are_printable p n (line.Trigger task) c = (tt, tt)
events_are_printable p n (line.Leave who region how) c = (tt, tt)
events_are_printable p n (line.Init who object region declared) c = let k = declared-named p n declared c in (k.name_is, k.short)
events_are_printable p n (line.Final who object) c = (tt, tt)
events_are_printable p n (line.Left who region) c = (tt, tt)
events_are_printable p n (line.Replace who object) c = (tt, tt)
events_are_printable p n (line.Release release handler) c = let k = subprogram-named p n handler.procedure c in (k.name_is, k.short)
events_are_printable p n (line.Served release) c = (tt, tt)
events_are_printable p n (line.Interrupt number) c = (tt, tt)
events_are_printable p n (line.Port number value) c = (tt, tt)
events_are_printable p n (line.Mask number) c = (tt, tt)
events_are_printable p n (line.Unmask number) c = (tt, tt)
events_are_printable p n (line.Masked number) c = (tt, tt)
