-- Scopes in use: where a name's cells are, how a scope begins and ends (3.1, 7.6.1, 8.2).
use Rattle.std.specs.Prelude.{ℕ, suc, zero, pos, Bool, true, false, not, ◌&&◌, List, [], ◌∷◌, Option}
use Rattle.std.specs.Prelude.{Some, None, eqb, length, find, option_map, slice_index_or, slice_set}
use Rattle.std.specs.Bool.{then_some}
use Rattle.std.specs.List.{list_all}
use Rattle.ann_base.specs.declared.identities.RegionNo.{RegionNo}
use Rattle.trace_text.specs.declared.events.Who.{Who}
use Rattle.profile_image.specs.declared.image.Image.{Image}
use Rattle.profile_image.specs.declared.numbers.ScopeNo.{ScopeNo}
use Rattle.profile_image.specs.declared.values.Value.{Value}
use Rattle.profile_image.specs.declared.values.Value.TheVariants.{Whole}
use Rattle.profile_machine.specs.declared.world.World.{World}
use Rattle.profile_machine.specs.declared.world.marks.Frame.{Frame}
use Rattle.profile_machine.specs.declared.world.marks.Mark.{Mark}
use Rattle.profile_machine.specs.declared.world.marks.Purpose.{Purpose}
use Rattle.profile_machine.specs.declared.world.scopes.ScopeId.{ScopeId}
use Rattle.profile_machine.specs.ScopeNumbers.{scope_id}
use Rattle.profile_machine.specs.declared.world.scopes.ScopeInUse.{ScopeInUse}
use Rattle.profile_machine.specs.declared.world.scopes.Beginning.{Beginning}
use Rattle.profile_machine.specs.declared.world.objects.Object.{Object}
use Rattle.profile_machine.specs.declared.world.Drawn.{Drawn}
use Rattle.profile_machine.specs.declared.world.marks.Mark.TheVariants.{Scope, Handled, InProtected, InAccept}
use Rattle.profile_machine.specs.declared.world.marks.Mark.TheVariants.{Abortable, InInitialize, InFinalize, InAssign}
use Rattle.profile_image.specs.Words.{same_scope, without, edit_where}
use Rattle.profile_machine.specs.ScopeNumbers.{same_id}
use Rattle.ann_base.specs.Lists.{is_empty}
use Rattle.profile_image.specs.Program.{scope_of, initial_cells}
use Rattle.profile_machine.specs.Frames.{push, new_frame, frames_of}

-- ---- looking

abbrev pub is_id : ScopeId → ScopeInUse → Bool
is_id id s = same_id id s.id

abbrev pub scope_in_use : World → ScopeId → Option ScopeInUse
scope_in_use w id = find (is_id id) w.scopes

-- the scope in use of a mark that has one
abbrev pub id_in : Mark → Option ScopeId
id_in (Scope m) = Some m.within
id_in (Handled s) = None
id_in (InProtected m) = None
id_in (InAccept m) = Some m.within
id_in (Abortable m) = None
id_in (InInitialize l) = None
id_in (InFinalize o) = None
id_in (InAssign m) = None

abbrev pub first_id : List Frame → Option ScopeId
first_id [] = None
first_id (f ∷ fs) = elim (id_in f.mark) [ None ↦ first_id fs | Some id ↦ Some id ]

-- the scope in use that stands round what the task does next
abbrev pub innermost : World → Who → Option ScopeId
innermost w name = first_id (frames_of w name)

-- from a scope in use outwards, the first for which the test holds
abbrev pub seek : (Option ScopeId → Option ScopeInUse) → (ScopeInUse → Bool) → Option ScopeInUse → Option ScopeInUse
seek again test None = None
seek again test (Some s) = elim (test s) [ true ↦ Some s | false ↦ again s.outer ]

abbrev pub outwards : ℕ → List ScopeInUse → (ScopeInUse → Bool) → Option ScopeId → Option ScopeInUse
outwards zero scopes test id = None
outwards (suc n) scopes test None = None
outwards (suc n) scopes test (Some id) = seek (outwards n scopes test) test (find (is_id id) scopes)

abbrev pub first_outwards : World → (ScopeInUse → Bool) → Option ScopeId → Option ScopeInUse
first_outwards w test id = outwards (suc (length w.scopes)) w.scopes test id

-- the scope in use of this scope of the text that stands round the given one (8.2)
abbrev pub home : World → ScopeNo → Option ScopeId → Option ScopeId
home w scope id = option_map (λ s. s.id) (first_outwards w (λ s. same_scope s.scope scope) id)

-- ---- cells

abbrev pub cells_of : Option ScopeInUse → List Value
cells_of None = []
cells_of (Some s) = s.cells

abbrev pub read_cell : World → ScopeId → ℕ → Value
read_cell w id place = slice_index_or (cells_of (scope_in_use w id)) place (Whole (pos 0))

abbrev pub with_cells : (List Value → List Value) → ScopeInUse → ScopeInUse
with_cells f s = record s { cells = f s.cells }

abbrev pub edit_cells : ScopeId → (List Value → List Value) → World → World
edit_cells id f w = record w { scopes = edit_where (is_id id) (with_cells f) w.scopes }

abbrev pub write_cell : ScopeId → ℕ → Value → World → World
write_cell id place value = edit_cells id (λ cells. slice_set cells place value)

-- the cells from this place on get these values; what would stand behind the last cell is dropped
abbrev pub put_cells : ℕ → List Value → List Value → List Value
put_cells place [] cells = cells
put_cells place (v ∷ vs) cells = put_cells (suc place) vs (slice_set cells place v)

-- ---- a scope begins

abbrev pub plainly : Option ScopeId → Beginning
plainly outer = record { outer = outer; object = None; subject = None; values = [] }

abbrev pub next_id : World → ScopeId
next_id w = scope_id w.drawn.scopes

abbrev pub scope_drawn : Drawn → Drawn
scope_drawn d = record d { scopes = suc d.scopes }

-- the scope is in use, with its cells as they begin and its parameters in the first of them: as many cells as the text
-- says, so a parameter beyond the last one is not kept
abbrev pub begin_scope : Image → Who → ScopeNo → Beginning → World → World
begin_scope p name scope b w =
    let new : ScopeInUse = record {
      id = next_id w;
      scope = scope;
      outer = b.outer;
      owner = name;
      object = b.object;
      subject = b.subject;
      cells = put_cells 0 b.values (initial_cells (scope_of p scope));
    } in
    record w { scopes = new ∷ w.scopes; drawn = scope_drawn w.drawn }

-- a kept scope draws its region
abbrev pub region_drawn : Drawn → Drawn
region_drawn d = record d { regions = suc d.regions }

abbrev pub draw_region : Bool → World → World
draw_region true w = record w { drawn = region_drawn w.drawn }
draw_region false w = w

abbrev pub region_of_next : Bool → World → Option RegionNo
region_of_next kept w = then_some kept (record { 0 = suc w.drawn.regions })

abbrev pub new_scope_mark : ScopeId → Option RegionNo → Purpose → Mark
new_scope_mark id region purpose =
    Scope (record {
      within = id;
      region = region;
      being_left = false;
      handles = None;
      finalize_raised = false;
      purpose = purpose;
    })

-- a Scope is opened with what stands in it
abbrev pub open_scope : Image → Who → ScopeNo → Beginning → Purpose → World → World
open_scope p name scope b purpose w =
    let text = scope_of p scope in
    let mark = new_scope_mark (next_id w) (region_of_next text.kept w) purpose in
    push name (new_frame mark text.first) (draw_region text.kept (begin_scope p name scope b w))

-- ---- a scope ends

-- library objects are there to the end of the run: at the instant at which the environment task ends an interrupt, as
-- a timing event, still releases its handler (own)
abbrev pub is_library : ScopeId → Bool
is_library id = eqb id.0 0

-- so is one on which calls are still queued: no source is known of whose objects one is, when its scope ends (own)
abbrev pub goes_with : ScopeId → Object → Bool
goes_with id o = same_id id o.located.within && not (is_library id) && list_all is_empty o.queues

-- the other protected objects that its declarations made are no longer there
abbrev pub end_scope : ScopeId → World → World
end_scope id w = record w { scopes = without (is_id id) w.scopes; objects = without (goes_with id) w.objects }
