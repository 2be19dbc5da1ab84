-- The cost of an action in ticks (this profile's choice).
use Rattle.std.specs.Prelude.{ℕ, ◌+◌, Bool, true, false, cond, List, length, Option, Some, None}
use Rattle.std.specs.List.{list_any}
use Rattle.trace_text.specs.declared.events.Who.{Who}
use Rattle.ann_base.specs.declared.identities.RegionNo.{RegionNo}
use Rattle.profile_image.specs.declared.image.Image.{Image}
use Rattle.profile_image.specs.declared.numbers.StatementNo.{StatementNo}
use Rattle.profile_image.specs.declared.statements.Statement.{Statement}
use Rattle.profile_image.specs.declared.statements.StatementForm.{StatementForm}
use Rattle.profile_image.specs.declared.statements.StatementForm.TheVariants as form
use Rattle.profile_machine.specs.declared.world.World.{World}
use Rattle.profile_machine.specs.declared.world.marks.Frame.{Frame}
use Rattle.profile_machine.specs.declared.world.marks.Mark.{Mark}
use Rattle.profile_machine.specs.declared.world.marks.AssignStep.{AssignStep}
use Rattle.profile_machine.specs.declared.world.appointments.Registered.{Registered}
use Rattle.profile_machine.specs.declared.world.marks.AssignStep.TheVariants as assigning
use Rattle.profile_machine.specs.declared.world.marks.Mark.TheVariants.{Scope, Handled, InProtected, InAccept}
use Rattle.profile_machine.specs.declared.world.marks.Mark.TheVariants.{Abortable, InInitialize, InFinalize, InAssign}
use Rattle.profile_image.specs.Words.{same_region}
use Rattle.profile_image.specs.Program.{statement_of}
use Rattle.profile_machine.specs.Frames.{top_of}

-- n is the number of operator signs and of calls of predefined functions
abbrev pub cost_of_form : StatementForm → ℕ → ℕ
cost_of_form (form.Declare object) n = 1 + n
cost_of_form (form.Initialize object) n = 2
cost_of_form (form.CreateTask object declarative_part) n = 2
cost_of_form (form.Activate declarative_part) n = 2
cost_of_form form.EndActivation n = 1
cost_of_form form.CallMain n = 2
cost_of_form (form.Handled handlers first) n = 1
cost_of_form form.Null n = 1
cost_of_form (form.Assign target value) n = 1 + n
cost_of_form (form.AssignArray target source) n = 1 + n
cost_of_form (form.AssignControlled target source) n = 1
cost_of_form (form.If condition first otherwise) n = 1 + n
cost_of_form (form.Case selector alternatives) n = 1 + n
cost_of_form (form.Loop body within) n = 1
cost_of_form (form.While condition body within) n = 1 + n
cost_of_form (form.For parameter reverse low high turn within) n = 1 + n
cost_of_form (form.FirstTurn parameter reverse body) n = 1
cost_of_form (form.LaterTurn parameter reverse body) n = 1
cost_of_form (form.Exit condition of_loop) n = 1 + n
cost_of_form (form.Block scope) n = 1
cost_of_form form.Return n = 1 + n
cost_of_form (form.ReturnValue function value) n = 1 + n
cost_of_form (form.Raise exception) n = 1
cost_of_form (form.RaiseAgain scope) n = 1
cost_of_form (form.Delay span) n = 2 + n
cost_of_form (form.DelayUntil moment) n = 2 + n
cost_of_form (form.Call callee actuals destination) n = 2 + n
cost_of_form (form.PutLine pieces) n = 4 + n
cost_of_form (form.EntryCall entry owner actuals) n = 2 + n
cost_of_form (form.ConditionalCall call otherwise) n = 2 + n
cost_of_form (form.TimedCall call delay) n = 2 + n
cost_of_form (form.AsynchronousSelect trigger abortable) n = 2 + n
cost_of_form (form.Accept entry scope) n = 2
cost_of_form (form.SelectiveAccept alternatives otherwise) n = 2 + n + length alternatives
cost_of_form (form.Abort tasks) n = 2
cost_of_form (form.Requeue entry owner with_abort) n = 2
cost_of_form (form.SetEvent event setting handler) n = 2 + n
cost_of_form (form.CancelEvent event cancelled) n = 2 + n
cost_of_form (form.SetTimer timer setting handler) n = 2 + n
cost_of_form (form.CancelTimer timer cancelled) n = 2 + n
cost_of_form (form.AddTask budget task) n = 2 + n
cost_of_form (form.RemoveTask budget task) n = 2 + n
cost_of_form (form.Replenish budget to) n = 2 + n
cost_of_form (form.AddToBudget budget interval) n = 2 + n
cost_of_form (form.SetBudget budget handler) n = 2 + n
cost_of_form (form.CancelBudget budget cancelled) n = 2 + n
cost_of_form (form.SetPriority priority task) n = 2 + n
cost_of_form (form.SetQuantum level quantum) n = 2 + n
cost_of_form (form.SetDeadline deadline task) n = 2 + n
cost_of_form (form.DelayUntilAndSetDeadline until offset) n = 2 + n

-- the end of a mark; the Finalize of one object of a scope that is being left costs 2
abbrev pub of_region : RegionNo → Registered → Bool
of_region region r = same_region r.region region

abbrev pub has_registered : List Registered → RegionNo → Bool
has_registered objects region = list_any (of_region region) objects

abbrev pub cost_of_leaving : List Registered → Bool → Option RegionNo → ℕ
cost_of_leaving objects true (Some region) = cond (has_registered objects region) 2 1
cost_of_leaving objects true None = 1
cost_of_leaving objects false region = 1

abbrev pub cost_of_step : AssignStep → ℕ
cost_of_step assigning.FinalizeTarget = 2
cost_of_step assigning.CopyComponents = 1
cost_of_step assigning.AdjustTarget = 2
cost_of_step assigning.Assigned = 1

abbrev pub cost_of_mark : List Registered → Mark → ℕ
cost_of_mark objects (Scope m) = cost_of_leaving objects m.being_left m.region
cost_of_mark objects (Handled s) = 1
cost_of_mark objects (InProtected m) = 1
cost_of_mark objects (InAccept m) = 1
cost_of_mark objects (Abortable m) = 1
cost_of_mark objects (InInitialize l) = 1
cost_of_mark objects (InFinalize o) = 1
cost_of_mark objects (InAssign m) = cost_of_step m.step

abbrev pub cost_of_statement : Statement → ℕ
cost_of_statement s = cost_of_form s.form s.signs

-- the first item of a rest: a statement, or the top mark
abbrev pub cost_of_first : Image → List Registered → Mark → Option StatementNo → ℕ
cost_of_first p objects mark (Some s) = cost_of_statement (statement_of p s)
cost_of_first p objects mark None = cost_of_mark objects mark

-- the agent without a rest calls the handler of the release that it serves
abbrev pub cost_of_top : Image → List Registered → Option Frame → ℕ
cost_of_top p objects None = 2
cost_of_top p objects (Some f) = cost_of_first p objects f.mark f.onward

abbrev pub cost : Image → World → Who → ℕ
cost p w name = cost_of_top p w.registered (top_of w name)
