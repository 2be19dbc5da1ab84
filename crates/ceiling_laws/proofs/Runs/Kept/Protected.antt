-- Protected actions and entry bodies: each step keeps what its parts keep.
use Rattle.ann_base.specs.declared.exceptions.Raised.{Raised}
use Rattle.ann_base.specs.declared.exceptions.Raised.TheVariants as exception
use Rattle.ann_base.specs.declared.identities.CallNo.{CallNo}
use Rattle.ann_base.specs.declared.identities.ObjectNo.{ObjectNo}
use Rattle.ceiling_laws.proofs.Runs.ActingMoves.{ActingMoves, Admitting, Either}
use Rattle.ceiling_laws.proofs.Fine.Kept.Calls.{edit_call-alters, unqueued-alters}
use Rattle.ceiling_laws.proofs.Fine.Kept.Frames.{edit_top-alters, given-through, push-alters, raise_if-through}
use Rattle.ceiling_laws.proofs.Fine.Kept.Frames.{raises-keeps, weakly, with_room-keeps, with_room-through}
use Rattle.ceiling_laws.proofs.Runs.Kept.Priorities.{inherit_running-keeps}
use Rattle.ceiling_laws.proofs.Fine.Kept.Scopes.{open_scope-alters}
use Rattle.ceiling_laws.proofs.Fine.Kept.Subprograms.{begin_body-keeps, handing-keeps, handing-through}
use Rattle.ceiling_laws.proofs.Runs.Kept.Tasks.{edit_object-alters, says-keeps}
use Rattle.ceiling_laws.proofs.Runs.LevelMoves.{Fitting, Silences, Sleeping, is_apart}
use Rattle.ceiling_laws.proofs.Runs.SameLemmas.{edit_task-same}
use Rattle.ceiling_laws.proofs.Runs.Triples.{Alters, At, Ends, Keeps, Leads, State, With, branch-keeps, changes-keeps, changes-leads, from-leads}
use Rattle.ceiling_laws.proofs.Runs.Triples.{from_at, looks-keeps, looks-leads, looks-with, sees-keeps, sees-leads, then-keeps, then-leads, to-leads}
use Rattle.ceiling_laws.specs.Cores.{Same}
use Rattle.ceiling_laws.proofs.Runs.Finer.{fine}
use Rattle.profile_machine.specs.Act.{call}
use Rattle.profile_machine.specs.Frames.{edit_first, edit_top, goes, goes_on, new_frame, raises, with_mark}
use Rattle.profile_machine.specs.Handlers.{release}
use Rattle.profile_image.specs.Program.{marks_of, next_of, scope_of, subprogram_of}
use Rattle.profile_machine.specs.Protected.{begin_action_on, begin_call, begin_operation, begin_own_operation, begun_call, body_of_object}
use Rattle.profile_machine.specs.Protected.{body_opens, call_operation, call_operation_of, call_own_operation, ceiling_of, edit_protected}
use Rattle.profile_machine.specs.Protected.{edit_top_protected, enter_or, entering, find_held, has_object_open, has_room_for_body}
use Rattle.profile_machine.specs.Protected.{mode_of, new_protected_mark, open_action, serve_call, where_let_inside}
use Rattle.profile_machine.specs.Steps.{Step, changes, says, ◌▷◌}
use Rattle.profile_machine.specs.Tasks.{with_frames}
use Rattle.profile_machine.specs.Values.{object_number, object_of}
use Rattle.profile_image.specs.declared.image.Image.{Image}
use Rattle.profile_image.specs.declared.numbers.DeclNo.{DeclNo}
use Rattle.profile_image.specs.declared.numbers.StatementNo.{StatementNo}
use Rattle.profile_image.specs.declared.numbers.SubprogramNo.{SubprogramNo}
use Rattle.profile_image.specs.declared.statements.Actual.{Actual}
use Rattle.profile_image.specs.declared.statements.Destination.{Destination}
use Rattle.profile_machine.specs.declared.world.World.{World}
use Rattle.profile_machine.specs.declared.world.calls.Call.{Call}
use Rattle.profile_machine.specs.declared.world.lines.Line.{Line}
use Rattle.profile_machine.specs.declared.world.lines.Line.TheVariants as line
use Rattle.profile_machine.specs.declared.world.lines.MeetingEnd.TheVariants as meeting
use Rattle.profile_machine.specs.declared.world.lines.Part.{Part}
use Rattle.profile_machine.specs.declared.world.lines.Part.TheVariants.{Own}
use Rattle.profile_machine.specs.declared.world.lines.Said.{Said}
use Rattle.profile_machine.specs.declared.world.marks.ProtectedMark.{ProtectedMark}
use Rattle.profile_machine.specs.declared.world.marks.Purpose.TheVariants as opened_for
use Rattle.profile_machine.specs.declared.world.marks.ResultTo.{ResultTo}
use Rattle.profile_machine.specs.declared.world.objects.Entering.{Entering}
use Rattle.profile_machine.specs.declared.world.objects.Entering.TheVariants as entering_is
use Rattle.profile_machine.specs.declared.world.scopes.Handed.{Handed}
use Rattle.profile_machine.specs.declared.world.tasks.Cause.TheVariants as inherited_by
use Rattle.std.proofs.Common.{inl, inr, refl, subst, sym, ◌≡◌}
use Rattle.std.specs.Prelude.{List, None, Option, Some, false, ℕ, ◌+◌, ◌∷◌}
use Rattle.trace_text.specs.declared.events.Mode.{Mode}
use Rattle.trace_text.specs.declared.events.Who.{Who}
use Rattle.machine_laws.proofs.FineMoves.{Naming}

module _ {X : State} (quiet : Silences X) where
  pub edit_top_protected-alters : (name : Who) (f : ProtectedMark → ProtectedMark) → Alters X (edit_top_protected name f)
  edit_top_protected-alters name f = edit_top-alters (fine quiet) name (λ x. with_mark (edit_protected f x.mark) x)

  pub open_action-alters : (name : Who) (o : ObjectNo) (mode : Mode) → Alters X (open_action name o mode)
  open_action-alters name o mode = edit_object-alters quiet o (λ x. record x { actions = record { who = name; mode = mode } ∷ x.actions }) (λ x. refl)

  pub begin_call-keeps : (p : Image) (part : Part) (name : Who) (c : Call) → Keeps X (begin_call p part name c)
  unfolding begin_call
  begin_call-keeps p part name c =
      then-keeps _ _ (changes-keeps _ (unqueued-alters (fine quiet) p c))
      (then-keeps _ _ (changes-keeps _ (edit_call-alters (fine quiet) c.number begun_call (λ d. refl) (λ d. refl)))
      (says-keeps quiet part (line.Start name c.number) refl))

  pub begin_own_operation-keeps : (p : Image) (name : Who) (s : StatementNo) (f : SubprogramNo) (o : Option ObjectNo) (h : Handed) (to : ResultTo)
      → Keeps X (begin_own_operation p name s f o h to)
  unfolding begin_own_operation
  begin_own_operation-keeps p name s f None h to = raises-keeps (fine quiet) Own name exception.Program
  begin_own_operation-keeps p name s f (Some o) h to =
      looks-keeps _ (λ w. begin_body-keeps (fine quiet) p name s f (body_of_object p w (subprogram_of p f).scope o h.subject h.values) h to)

  pub call_own_operation-keeps : (p : Image) (name : Who) (s : StatementNo) (f : SubprogramNo) (actuals : List Actual) (to : Destination)
      → Keeps X (call_own_operation p name s f actuals to)
  unfolding call_own_operation
  call_own_operation-keeps p name s f actuals to = search (fine, with_room-keeps, handing-keeps, sees-keeps, begin_own_operation-keeps)

  pub body_opens-keeps : (p : Image) (name : Who) (o : ObjectNo) (c : Call) → Keeps X (body_opens p name o c)
  unfolding body_opens
  body_opens-keeps p name o c = search (fine, changes-keeps, edit_top_protected-alters, then-keeps, looks-keeps, open_scope-alters) depth 6

  pub serve_call-keeps : (p : Image) (part : Part) (name : Who) (o : ObjectNo) (c : Call) (then_ otherwise : Step) → Keeps X then_ → Keeps X otherwise
      → Keeps X (serve_call p part name o c then_ otherwise)
  serve_call-keeps p part name o c then_ otherwise kept also_kept =
      looks-keeps _ (λ w. then-keeps (begin_call p part name c) _ (begin_call-keeps p part name c)
      (branch-keeps (has_room_for_body p w name c.entry) (body_opens p name o c ▷ then_)
      (says part (line.Finish name c.number (meeting.Raised exception.Storage)) ▷ otherwise)
      (then-keeps _ _ (body_opens-keeps p name o c) kept)
      (then-keeps _ _ (says-keeps quiet part (line.Finish name c.number (meeting.Raised exception.Storage)) refl) also_kept)))

-- ---- who is let in

module _ {p : Image} {actor : Who} {Fits Narrow : Fitting} {Sleeps : Sleeping} {May : Admitting} {Listed Unmade : World → Naming} {F I J W Y D : State}
    {O N V U : World → State} {E : World → Who → State}
    (acting : ActingMoves p actor Fits Narrow Sleeps May Listed Unmade F I J W Y D O N V U E) where
  -- at first, where who acts may enter an object
  abbrev pub Admitted : ObjectNo → State
  Admitted o = With F (λ w. May w o)

  pub admitted_changes : (o : ObjectNo) (f : World → World) → ((w : World) → Same w (f w)) → Keeps (Admitted o) (changes f)
  admitted_changes o f same = changes-leads f (λ w said h. (acting.fresh.silently w (f w) said (same w) h.0, acting.may_on w (f w) o (same w) h.1))

  pub admitted_says : (o : ObjectNo) (part : Part) (line : Line) → is_apart line ≡ false → Keeps (Admitted o) (says part line)
  unfolding Ends
  admitted_says o part line other = record { runs = λ w said h. (acting.fresh.says part line w said other h.0, h.1) }

  pub admitted_goes : (o : ObjectNo) (onward : Option StatementNo) → Keeps (Admitted o) (goes actor onward)
  unfolding goes
  admitted_goes o onward =
      admitted_changes o (edit_top actor (goes_on onward)) (λ w. edit_task-same actor (λ t. with_frames (edit_first (goes_on onward) t.frames) t) w (λ t. refl))

  pub admitted_starts : (o : ObjectNo) (w : World) (said : List Said) → Admitted o w said → I w said
  admitted_starts o w said h = acting.starts w said h.0

  -- nobody has entered yet
  pub not_yet : (w : World) (said : List Said) → F w said → Either I J w said
  not_yet w said h = inl (acting.starts w said h)

  pub has_entered : {Z : State} (step : Step) → Leads Z J step → Leads Z (Either I J) step
  has_entered step a = to-leads step a (λ w said h. inr h)

  pub goes_without : {Z : State} (step : Step) → Leads Z I step → Leads Z (Either I J) step
  goes_without step a = to-leads step a (λ w said h. inl h)

  raises_at_first : (v : World) (e : Raised) → Leads (At F v) (Either I J) (raises Own actor e)
  raises_at_first v e = from_at (raises Own actor e) (weakly (fine acting.fresh) not_yet (raises Own actor e) (raises-keeps (fine acting.fresh) Own actor e))

  enter_or-at : (v : World) (o : ObjectNo) (mode : Mode) (step : Step) (is : Entering) → entering p v actor o mode ≡ is → Leads (Admitted o) (Either I J) step
      → Leads (At F v) (Either I J) (enter_or p actor o mode step is)
  enter_or-at v o mode step entering_is.SameObject e kept = raises_at_first v exception.Program
  enter_or-at v o mode step entering_is.AboveCeiling e kept = raises_at_first v exception.Program
  enter_or-at v o mode step entering_is.Held e kept =
      from-leads (find_held p actor o mode) (λ w said h. (h.0, subst (λ u. May u o) (sym h.1) (acting.may_held v o mode e))) (acting.finds_held o mode)
  enter_or-at v o mode step entering_is.Inside e kept = from-leads step (λ w said h. (h.0, subst (λ u. May u o) (sym h.1) (acting.may v o mode e))) kept

  -- the step is done where who acts is let in
  pub where_let_inside-leads : (o : ObjectNo) (mode : Mode) (step : Step) → Leads (Admitted o) (Either I J) step
      → Leads F (Either I J) (where_let_inside p actor o mode step)
  where_let_inside-leads o mode step kept = looks-with _ (λ v said h. enter_or-at v o mode step (entering p v actor o mode) refl kept)

  pub begin_action_on-leads : (o : ObjectNo) (mode : Mode) (call : Option CallNo) (release : Option ℕ)
      → Leads (Admitted o) J (begin_action_on p actor o mode call release)
  unfolding begin_action_on
  begin_action_on-leads o mode call release =
      then-leads (says Own (line.Enter actor o mode)) _ (acting.enters o mode)
      (then-keeps _ _ (changes-keeps _ (open_action-alters acting.entered.base.quiet actor o mode))
      (then-keeps _ _ (looks-keeps _ (λ w. inherit_running-keeps acting.entered (inherited_by.Ceiling o) (ceiling_of (object_of w o)) refl))
      (changes-keeps _ (push-alters (fine acting.entered.base.quiet) actor (new_frame (new_protected_mark o mode call release) None)))))

  begin_operation-leads : (s : StatementNo) (f : SubprogramNo) (o : ObjectNo) (h : Handed) (to : ResultTo)
      → Leads (Admitted o) J (begin_operation p actor s f o h to)
  unfolding begin_operation
  begin_operation-leads s f o h to =
      then-leads (goes actor (next_of p s)) _ (admitted_goes o (next_of p s))
      (then-leads (begin_action_on p actor o (mode_of (subprogram_of p f)) None None) _ (begin_action_on-leads o (mode_of (subprogram_of p f)) None None)
      (looks-keeps _
      (λ w. changes-keeps _
      (open_scope-alters (fine acting.entered.base.quiet) p actor (subprogram_of p f).scope
      (body_of_object p w (subprogram_of p f).scope o h.subject h.values) (opened_for.Subprogram h.back to)))))

  call_operation_of-leads : (s : StatementNo) (f : SubprogramNo) (actuals : List Actual) (to : Destination) (o : ObjectNo)
      → Leads F (Either I J) (call_operation_of p actor s f actuals to o)
  unfolding call_operation_of
  call_operation_of-leads s f actuals to o =
      looks-leads _ (λ w. raise_if-through (fine acting.fresh) (λ v k h. h) not_yet actor (has_object_open w actor o) exception.Program _
      (with_room-through (fine acting.fresh) (λ v k h. h) not_yet actor (1 + marks_of p (subprogram_of p f).scope) (scope_of p (subprogram_of p f).scope).size _
      (handing-through (fine acting.fresh) not_yet p actor f actuals to _
      (λ h r. where_let_inside-leads o (mode_of (subprogram_of p f)) (begin_operation p actor s f o h r)
      (has_entered (begin_operation p actor s f o h r) (begin_operation-leads s f o h r))))))

  pub call_operation-leads : (s : StatementNo) (d : DeclNo) (f : SubprogramNo) (actuals : List Actual) (to : Destination)
      → Leads F (Either I J) (call_operation p actor s d f actuals to)
  unfolding call_operation
  call_operation-leads s d f actuals to =
      sees-leads p actor _
      (λ q. given-through (fine acting.fresh) (λ v k h. h) not_yet Own actor (object_number q d) _ (λ o. call_operation_of-leads s f actuals to o))
