-- Scopes that begin and end, their cells, and appointments: each step keeps what its parts keep.
use Rattle.ann_base.specs.declared.identities.TaskNo.{TaskNo}
use Rattle.ceiling_laws.proofs.Fine.Kept.Frames.{push-alters}
use Rattle.ceiling_laws.proofs.Fine.Kept.Tasks.{plain-alters, same-alters}
use Rattle.ceiling_laws.proofs.Fine.LevelMoves.{Silences}
use Rattle.ceiling_laws.proofs.Fine.SameLemmas.{same_self}
use Rattle.ceiling_laws.proofs.Runs.Triples.{Alters, State, unchanged-alters}
use Rattle.ceiling_laws.proofs.Fine.Cores.{Same}
use Rattle.profile_machine.specs.Appointments.{appoint, drop_appointment, drop_delay, is_delay_of, put_appointment}
use Rattle.profile_machine.specs.Frames.{new_frame}
use Rattle.profile_machine.specs.Notation.{scope}
use Rattle.profile_image.specs.Program.{declaration_of, scope_of}
use Rattle.profile_machine.specs.Scopes.{begin_scope, draw_region, edit_cells, end_scope, new_scope_mark}
use Rattle.profile_machine.specs.Scopes.{next_id, open_scope, region_of_next, write_cell, put_cells}
use Rattle.profile_machine.specs.Statements.{cells_from, copy_cells, put}
use Rattle.profile_machine.specs.Values.{moment, value}
use Rattle.profile_image.specs.Words.{without}
use Rattle.profile_image.specs.declared.image.Image.{Image}
use Rattle.profile_image.specs.declared.numbers.ScopeNo.{ScopeNo}
use Rattle.profile_image.specs.declared.values.Value.{Value}
use Rattle.profile_machine.specs.declared.world.World.{World}
use Rattle.profile_machine.specs.declared.world.appointments.Appointment.{Appointment}
use Rattle.profile_machine.specs.declared.world.appointments.Due.{Due}
use Rattle.profile_machine.specs.declared.world.marks.Purpose.{Purpose}
use Rattle.profile_machine.specs.declared.world.scopes.Beginning.{Beginning}
use Rattle.profile_machine.specs.declared.world.scopes.ScopeId.{ScopeId}
use Rattle.profile_machine.specs.declared.world.scopes.Variable.{Variable}
use Rattle.std.proofs.Common.{ap, refl, sym, ◌∙◌, ◌≡◌}
use Rattle.std.specs.List.{list_any}
use Rattle.std.specs.Prelude.{Bool, List, [], cond, false, int_lt, not, slice_set, true, ℕ, ℤ, ◌||◌, ◌∷◌}
use Rattle.std.proofs.lemmas.Bool.{or_right}
use Rattle.trace_text.specs.declared.events.Who.{Who}
use Rattle.trace_text.specs.declared.events.Who.TheVariants as who

-- ---- appointments that are set and dropped

pub or-step : (a b c : Bool) → b ≡ c → (a || b) ≡ (a || c)
or-step a b c e = ap (λ x. a || x) e

put-step : (test : Appointment → Bool) (y a : Appointment) (rest put : List Appointment) (b : Bool) → test y ≡ false → list_any test put ≡ list_any test rest
    → list_any test (cond b (y ∷ a ∷ rest) (a ∷ put)) ≡ list_any test (a ∷ rest)
put-step test y a rest put true other e = ap (λ x. x || list_any test (a ∷ rest)) other
put-step test y a rest put false other e = or-step (test a) (list_any test put) (list_any test rest) e

-- an appointment that fails a test is one among others
pub put-any : (test : Appointment → Bool) (y : Appointment) (xs : List Appointment) → test y ≡ false → list_any test (put_appointment y xs) ≡ list_any test xs
put-any test y [] other = ap (λ x. x || false) other
put-any test y (a ∷ rest) other = put-step test y a rest (put_appointment y rest) (int_lt y.moment a.moment) other (put-any test y rest other)

or-true : (a b c : Bool) → (a || b) ≡ true → (b ≡ true → c ≡ true) → (a || c) ≡ true
or-true true b c e onward = refl
or-true false b c e onward = onward e

fewer-step : (test : Appointment → Bool) (a : Appointment) (rest fewer : List Appointment) (b : Bool) → list_any test (cond (not b) (a ∷ fewer) fewer) ≡ true
    → (list_any test fewer ≡ true → list_any test rest ≡ true) → list_any test (a ∷ rest) ≡ true
fewer-step test a rest fewer true e onward = or_right (test a) (list_any test rest) (onward e)
fewer-step test a rest fewer false e onward = or-true (test a) (list_any test fewer) (list_any test rest) e onward

pub without-any : (test drops : Appointment → Bool) (xs : List Appointment) → list_any test (without drops xs) ≡ true → list_any test xs ≡ true
without-any test drops [] e = e
without-any test drops (a ∷ rest) e = fewer-step test a rest (without drops rest) (drops a) e (without-any test drops rest)

pub dropped-same : (test : Due → Bool) (w : World) → Same w (drop_appointment test w)
dropped-same test w = record {
  tasks = refl;
  agent = refl;
  objects = refl;
  drawn_tasks = refl;
  drawn_objects = refl;
  callers = λ c n k. k;
  delays = λ t e. without-any (λ a. is_delay_of t a.due) (λ a. test a.due) w.appointments e;
}

pub draw_region-same : (kept : Bool) (w : World) → Same w (draw_region kept w)
draw_region-same true w = record {
  tasks = refl;
  agent = refl;
  objects = refl;
  drawn_tasks = refl;
  drawn_objects = refl;
  callers = λ c n k. k;
  delays = λ t e. e;
}
draw_region-same false w = same_self w

module _ {X : State} (quiet : Silences X) where
  pub edit_cells-alters : (id : ScopeId) (f : List Value → List Value) → Alters X (edit_cells id f)
  edit_cells-alters id f = plain-alters quiet (edit_cells id f) (λ w. refl) (λ w. refl) (λ w. refl) (λ w. refl) (λ w. refl) (λ w t e. e)

  pub write_cell-alters : (id : ScopeId) (place : ℕ) (value : Value) → Alters X (write_cell id place value)
  write_cell-alters id place value = edit_cells-alters id (λ cells. slice_set cells place value)

  pub begin_scope-alters : (p : Image) (name : Who) (scope : ScopeNo) (b : Beginning) → Alters X (begin_scope p name scope b)
  begin_scope-alters p name scope b = plain-alters quiet (begin_scope p name scope b) (λ w. refl) (λ w. refl) (λ w. refl) (λ w. refl) (λ w. refl) (λ w t e. e)

  pub end_scope-alters : (id : ScopeId) → Alters X (end_scope id)
  end_scope-alters id = record { turns = λ w said h. quiet.ends_scope id w said h }

  pub open_scope-alters : (p : Image) (name : Who) (scope : ScopeNo) (b : Beginning) (purpose : Purpose) → Alters X (open_scope p name scope b purpose)
  open_scope-alters p name scope b purpose = record {
    turns = λ w said h.
        let begun = begin_scope p name scope b w in
        let drawn = draw_region (scope_of p scope).kept begun in
        let f = new_frame (new_scope_mark (next_id w) (region_of_next (scope_of p scope).kept w) purpose) (scope_of p scope).first in
        (push-alters quiet name f).turns drawn said
        (quiet.silently begun drawn said (draw_region-same (scope_of p scope).kept begun) ((begin_scope-alters p name scope b).turns w said h));
  }

  -- of what is no delay of a task
  pub appoint-alters : (due : Due) (moment : ℤ) → ((t : TaskNo) → is_delay_of t due ≡ false) → Alters X (appoint due moment)
  appoint-alters due moment other =
      plain-alters quiet (appoint due moment) (λ w. refl) (λ w. refl) (λ w. refl) (λ w. refl) (λ w. refl)
      (λ w t e. sym (put-any (λ a. is_delay_of t a.due) (record { due = due; moment = moment }) w.appointments (other t)) ∙ e)

  pub drop_appointment-alters : (test : Due → Bool) → Alters X (drop_appointment test)
  drop_appointment-alters test = same-alters quiet (drop_appointment test) (dropped-same test)

  pub drop_delay-alters : (name : Who) → Alters X (drop_delay name)
  drop_delay-alters (who.Task t) = drop_appointment-alters (is_delay_of t)
  drop_delay-alters who.Agent = unchanged-alters

pub cells-same : (id : ScopeId) (f : List Value → List Value) (w : World) → Same w (edit_cells id f w)
cells-same id f w = record { tasks = refl; agent = refl; objects = refl; drawn_tasks = refl; drawn_objects = refl; callers = λ c n k. k; delays = λ t e. e }

pub put-same : (v : Variable) (x : Value) (w : World) → Same w (put v x w)
put-same v x w = cells-same v.within (λ cells. slice_set cells v.place x) w

pub copy_cells-same : (p : Image) (target source : Variable) (w : World) → Same w (copy_cells p target source w)
copy_cells-same p target source w = cells-same target.within (put_cells target.place (cells_from w source (declaration_of p source.declared).cells)) w
