-- The effect of an action of somebody who does not wait: who waits for a meeting behind it is not placed by it.
use Rattle.std.proofs.Common.{◌≡◌, ℕ, Bool, true, false, cond, List, [], ◌∷◌, ◌++◌, Option, Some, None, refl, sym, ap, subst, ◌∙◌, append_assoc, append-nil}
use Rattle.std.specs.Prelude.{filter}
use Rattle.ann_base.specs.declared.identities.TaskNo.{TaskNo}
use Rattle.trace_text.specs.declared.events.Who.{Who}
use Rattle.trace_text.specs.declared.events.Who.TheVariants as who
use Rattle.profile_image.specs.declared.image.Image.{Image}
use Rattle.profile_image.specs.declared.numbers.StatementNo.{StatementNo}
use Rattle.profile_machine.specs.declared.world.World.{World}
use Rattle.profile_machine.specs.declared.world.appointments.Release.{Release}
use Rattle.profile_machine.specs.declared.world.lines.Line.TheVariants as line
use Rattle.profile_machine.specs.declared.world.lines.Part.TheVariants.{Own, TheBlock}
use Rattle.profile_machine.specs.declared.world.lines.Said.{Said}
use Rattle.profile_machine.specs.declared.world.marks.Frame.{Frame}
use Rattle.profile_machine.specs.declared.world.marks.Mark.{Mark}
use Rattle.profile_machine.specs.declared.world.marks.Mark.TheVariants.{Scope, Handled, InProtected, InAccept, Abortable, InInitialize, InFinalize, InAssign}
use Rattle.profile_machine.specs.Steps.{Step, Done, done, goes_on_with, looks, when, for_each, ◌▷◌}
use Rattle.profile_image.specs.Program.{form_of}
use Rattle.profile_machine.specs.Tasks.{edit_task}
use Rattle.profile_machine.specs.Frames.{top_of, leaving_of}
use Rattle.profile_machine.specs.Act.{end_mark, act_frame, act_without, act_top, act}
use Rattle.machine_laws.proofs.Moves.{StepRelation, own, Puts}
use Rattle.line_laws.proofs.Leaving.FineMoves.{Free, Awake, is_special, chains}
use Rattle.line_laws.proofs.Leaving.TaskLemmas.{awake-edited}
use Rattle.line_laws.proofs.Leaving.FreeWorlds.{Inv}
use Rattle.line_laws.proofs.Leaving.RegionLines.{NotLeaving}
use Rattle.line_laws.proofs.Leaving.CoreMoves.{Base, base-then, onward-free, claim-quiet, edited-state}
use Rattle.line_laws.proofs.Leaving.Moving.{Moved, GoodAs}
use Rattle.line_laws.proofs.Leaving.Modes.{acting, acting-self, Known, none, going}
use Rattle.line_laws.proofs.Leaving.Kept.Handlers.{call_handler-keeps}
use Rattle.line_laws.proofs.Leaving.Kept.Act.{act_statement-keeps}
use Rattle.line_laws.proofs.Leaving.ActSteps.{Does, weak, handled-from, initialized-from, finalized-from, assigned-from, end_abortable-from, accepted-from}
use Rattle.line_laws.proofs.Leaving.ScopeSteps.{end_scope_mark-from}
use Rattle.line_laws.proofs.Leaving.ProtectedSteps.{end_in_protected-from}
use Rattle.line_laws.proofs.Leaving.CoreMoves.{Claim, claim-then}
use Rattle.line_laws.proofs.Leaving.TaskLemmas.{who_path}
use Rattle.line_laws.proofs.Leaving.PlacingLines.{taken, taken_from-append}
use Rattle.line_laws.proofs.Leaving.Telling.{other-tells, then-tells}
use Rattle.line_laws.proofs.Leaving.FineMoves.{block_line}
use Rattle.line_laws.proofs.Leaving.Kept.Frames.{open_if_ready-keeps}
use Rattle.line_laws.proofs.Leaving.Kept.Tasking.{all_terminate-keeps, unwind_all-keeps}
use Rattle.profile_image.specs.Words.{same_who}
use Rattle.profile_machine.specs.declared.world.tasks.Waiting.{Waiting}
use Rattle.profile_machine.specs.Tasks.{with_ticks, waiting_of}
use Rattle.profile_machine.specs.Dispatching.{without_kept_level, says_block, word_of}
use Rattle.profile_machine.specs.Frames.{open_if_ready}
use Rattle.profile_machine.specs.Masters.{waits_at_terminate, may_terminate, leave_by_terminate}
use Rattle.profile_machine.specs.Tasking.{block_at_terminate, take_terminates, unwind_all}
use Rattle.profile_machine.specs.Instant.{effect}
use Rattle.machine_laws.proofs.FinestMoves.{being_left_in}
use Rattle.machine_laws.proofs.QueueLemmas.{by_test}
use Rattle.machine_laws.proofs.Kept.Combinators.{From, Keeps, Kept, keeps-from, looks-keeps, nothing-keeps}

-- ---- an action, by the mark on top

mark-from : (p : Image) (a : Who) (f : Frame) (mark : Mark) (w : World) → Inv w → Awake a w → top_of w a ≡ Some f → f.onward ≡ None → f.mark ≡ mark
    → From (Does a) w (end_mark p a f mark)
unfolding end_mark
mark-from p a f (Scope m) w inv awake top stops is = end_scope_mark-from p a m (leaving_of f) f w inv awake top stops is
mark-from p a f (Handled s) w inv awake top stops is = handled-from p a s (leaving_of f) f w inv awake top (ap is_special is)
mark-from p a f (InProtected m) w inv awake top stops is = end_in_protected-from p a m (leaving_of f) f w inv awake top is
mark-from p a f (InAccept m) w inv awake top stops is = accepted-from p a m (leaving_of f) f w inv awake top (ap is_special is)
mark-from p a f (Abortable m) w inv awake top stops is = end_abortable-from p a m (leaving_of f) f w inv awake top (ap being_left_in is)
mark-from p a f (InInitialize l) w inv awake top stops is = initialized-from p a l (leaving_of f) f w inv awake top (ap is_special is)
mark-from p a f (InFinalize o) w inv awake top stops is = finalized-from p a (leaving_of f) w inv awake
mark-from p a f (InAssign m) w inv awake top stops is = assigned-from p a m f.left_as f w inv awake top (ap is_special is) (ap being_left_in is)

put-moved : (a : Who) (name : Who) (text : List ℕ) (w : World) → GoodAs (Free a) w → Moved (acting a) true (Free a) w (own (line.Put name text) ∷ []) w
put-moved a name text w good = record {
  core = record {
    base = record {
      tells = other-tells NotLeaving Own (line.Put name text) w refl;
      called = λ n c h. h;
      claims = λ t. claim-quiet (acting a) true t w (own (line.Put name text) ∷ []) w refl (refl, tt);
      inv = good.0;
    };
    free = λ n h. h;
  };
  extra = good.1;
}

puts_going : (p : Image) (a : Who) → Puts (GoodAs (Free a)) (Moved (acting a) true (Free a)) p
puts_going p a = record { puts = λ name s pieces text v w good is e. put-moved a name text w good }

frame-from : (p : Image) (a : Who) (f : Frame) (onward : Option StatementNo) (w : World) → Inv w → Awake a w → top_of w a ≡ Some f → f.onward ≡ onward
    → From (Does a) w (act_frame p a f onward)
unfolding act_frame
frame-from p a f (Some s) w inv awake top is =
    weak a (Free a) w _
    (keeps-from (chains (going a)) _ w (inv, onward-free a f s w inv top is)
    (act_statement-keeps (going a) p (puts_going p a) a s (form_of p s) refl tt refl))
frame-from p a f None w inv awake top is = mark-from p a f f.mark w inv awake top is refl

without-keeps : (p : Image) (a name : Who) (r : Option Release) → Keeps (GoodAs Known) (Moved (acting a) true Known) (act_without p name r)
unfolding act_without
without-keeps p a name None = nothing-keeps (chains (none a true))
without-keeps p a who.Agent (Some r) = call_handler-keeps (none a true) p r tt
without-keeps p a (who.Task t) (Some r) = nothing-keeps (chains (none a true))

top-from : (p : Image) (a : Who) (top : Option Frame) (w : World) → Inv w → Awake a w → top_of w a ≡ top → From (Does a) w (act_top p a top)
unfolding act_top
top-from p a None w inv awake is =
    weak a Known w _ (keeps-from (chains (none a true)) _ w (inv, tt) (looks-keeps (chains (none a true)) _ (λ v. without-keeps p a a v.serving)))
top-from p a (Some f) w inv awake is = frame-from p a f f.onward w inv awake is refl

act-from : (p : Image) (a : Who) (w : World) → Inv w → Awake a w → From (Does a) w (act p a)
unfolding act From
act-from p a w inv awake said = top-from p a (top_of w a) w inv awake refl said

-- ---- who has come to an open terminate alternative blocks there

abbrev pub Settled : Who → StepRelation
Settled a = Base (acting a) false

pub same_acts : (a : Who) (t : TaskNo) → acting a (who.Task t) ≡ true → a ≡ who.Task t
same_acts a t e = who_path a (who.Task t) e

acting-self-same : (n : Who) → same_who n n ≡ true
acting-self-same (who.Task k) = acting-self (who.Task k)
acting-self-same who.Agent = refl

other_acts : (a : Who) (t : TaskNo) → same_who (who.Task t) a ≡ false → acting a (who.Task t) ≡ false
other_acts a t e =
    by_test (acting a (who.Task t))
    (λ k. absurd (let is = same_acts a t k in
    let same : same_who (who.Task t) a ≡ true = subst (λ n. same_who n a ≡ true) is (acting-self-same a) in let never : true ≡ false = sym same ∙ e in cc))
    (λ k. k)

strict_claim : (a : Who) (t : TaskNo) (w v : World) (xs : List Said) → acting a (who.Task t) ≡ false → Claim (acting a) true t w xs v
    → Claim (acting a) false t w xs v
strict_claim a t w v xs other c waiting out silent = c waiting out (λ e. absurd (let never : true ≡ false = sym e ∙ other in cc))

silent_claim : (a : Who) (t : TaskNo) (w v : World) (xs : List Said) → waits_at_terminate (waiting_of v a) ≡ false → Claim (acting a) true t w xs v
    → Claim (acting a) false t w xs v
silent_claim a t w v xs none c waiting out silent = c waiting out (λ e. subst (λ n. waits_at_terminate (waiting_of v n) ≡ false) (same_acts a t e) none)

silently-settled : (a : Who) (w v : World) (xs : List Said) → waits_at_terminate (waiting_of v a) ≡ false → Does a w xs v → Settled a w (xs ++ []) v
silently-settled a w v xs none h =
    subst (λ l. Settled a w l v) (sym (append-nil xs))
    (record { tells = h.tells; called = h.called; claims = λ t. silent_claim a t w v xs none (h.claims t); inv = h.inv })

blocked_claim : (a : Who) (waiting : Waiting) (t : TaskNo) (w v : World) (xs : List Said) → Claim (acting a) true t w xs v
    → Claim (acting a) false t w (xs ++ block_line a waiting ∷ []) (edit_task a without_kept_level v)
blocked_claim a waiting t w v xs c =
    by_test (same_who (who.Task t) a)
    (λ e. taken_out e)
    (λ e. claim-then (acting a) false t w v (edit_task a without_kept_level v) xs (block_line a waiting ∷ []) (strict_claim a t w v xs (other_acts a t e) c)
    (claim-quiet (acting a) false t v (block_line a waiting ∷ []) (edit_task a without_kept_level v)
    (edited-state a without_kept_level v t (λ u. refl) (λ u. refl)) (refl, tt))) where
      taken_out : same_who (who.Task t) a ≡ true → Claim (acting a) false t w (xs ++ block_line a waiting ∷ []) (edit_task a without_kept_level v)
      taken_out e waits_then out silent =
          let n = who.Task t in
          absurd (let is : taken n (xs ++ block_line a waiting ∷ []) ≡ true =
          taken_from-append n false xs (block_line a waiting ∷ []) ∙ ap (λ k. cond k true (taken (who.Task t) xs)) e in
          let never : true ≡ false = sym is ∙ out in cc)

blocking-settled : (a : Who) (waiting : Waiting) (w v : World) (xs : List Said) → Does a w xs v
    → Settled a w (xs ++ block_line a waiting ∷ []) (edit_task a without_kept_level v)
blocking-settled a waiting w v xs h =
    let u = edit_task a without_kept_level v in
    let edits = ((none a true).edits_task a without_kept_level v (h.inv, tt) (λ t. refl) (λ t. refl) (λ t. refl)).core.base in
    let line_told = other-tells NotLeaving TheBlock (line.Block a (word_of waiting)) u refl in
    record {
      tells =
          then-tells NotLeaving w v u xs (block_line a waiting ∷ []) h.tells (then-tells NotLeaving v u u [] (block_line a waiting ∷ []) edits.tells line_told);
      called = λ n c k. edits.called n c (h.called n c k);
      claims = λ t. blocked_claim a waiting t w v xs (h.claims t);
      inv = edits.inv;
    }

-- behind lines that were said, and one world behind another
abbrev Behind_these : StepRelation → World → List Said → StepRelation
Behind_these R w xs = λ x ys y. R w (xs ++ ys) y

terminate_test-from : (a : Who) (waiting : Waiting) (test : Bool) (w v : World) (xs : List Said) → waits_at_terminate (Some waiting) ≡ test
    → waiting_of v a ≡ Some waiting → Does a w xs v → From (Behind_these (Settled a) w xs) v (when test (says_block TheBlock a waiting))
unfolding From Kept says_block
terminate_test-from a waiting true w v xs e is h said = (block_line a waiting ∷ [], refl, blocking-settled a waiting w v xs h)
terminate_test-from a waiting false w v xs e is h said = ([], sym (append-nil said), silently-settled a w v xs (ap waits_at_terminate is ∙ e) h)

terminates-from : (a : Who) (waiting : Option Waiting) (w v : World) (xs : List Said) → waiting_of v a ≡ waiting → Does a w xs v
    → From (Behind_these (Settled a) w xs) v (block_at_terminate a waiting)
unfolding From Kept block_at_terminate
terminates-from a None w v xs is h said = ([], sym (append-nil said), silently-settled a w v xs (ap waits_at_terminate is) h)
terminates-from a (Some waiting) w v xs is h said = terminate_test-from a waiting (waits_at_terminate (Some waiting)) w v xs refl is h said

-- ---- the effect

first-kept : (R S : StepRelation) (g : Step) (w v : World) (said : List Said) (d : Done) → Kept R v said d
    → ((u : World) (ys : List Said) → R v ys u → Kept S w said (g u (said ++ ys))) → Kept S w said (goes_on_with g d)
unfolding Kept
first-kept R S g w v said (done u zs) k next = subst (λ l. Kept S w said (g u l)) (sym k.1) (next u k.0 k.2)

behind-kept : (R S : StepRelation) (g : Step) (w v : World) (said xs : List Said) (d : Done) → Kept R v (said ++ xs) d
    → ((u : World) (ys : List Said) → R v ys u → Kept S w said (g u (said ++ (xs ++ ys)))) → Kept S w said (goes_on_with g d)
unfolding Kept
behind-kept R S g w v said xs (done u zs) k next = subst (λ l. Kept S w said (g u l)) (sym (k.1 ∙ append_assoc said xs k.0)) (next u k.0 k.2)

settled-kept : (a : Who) (w v : World) (said xs : List Said) (d : Done) → Settled a w xs v → Kept (Settled a) v (said ++ xs) d → Kept (Settled a) w said d
unfolding Kept
settled-kept a w v said xs (done u zs) first k = (xs ++ k.0, k.1 ∙ append_assoc said xs k.0, base-then (acting a) false w v u xs k.0 first k.2)

regrouped : (g h : Step) (d : Done) → goes_on_with (g ▷ h) d ≡ goes_on_with h (goes_on_with g d)
regrouped g h (done u zs) = refl

strict-kept : (a : Who) (w : World) (said : List Said) (d : Done) → Kept (Moved (acting a) false Known) w said d → Kept (Settled a) w said d
unfolding Kept
strict-kept a w said (done v ys) k = (k.0, k.1, k.2.core.base)

said-of : (R : StepRelation) (f : Step) (x : World) (l : List Said) → From R x f → Kept R x l (f x l)
unfolding From
said-of R f x l k = k l

unwound-kept : (p : Image) (a : Who) (w v : World) (said xs : List Said) → Settled a w xs v → Kept (Settled a) w said (unwind_all p a v (said ++ xs))
unwound-kept p a w v said xs first =
    settled-kept a w v said xs (unwind_all p a v (said ++ xs)) first
    (strict-kept a v (said ++ xs) (unwind_all p a v (said ++ xs))
    (said-of (Moved (acting a) false Known) (unwind_all p a) v (said ++ xs)
    (keeps-from (chains (none a false)) (unwind_all p a) v (first.inv, tt) (unwind_all-keeps (none a false) p a))))

abbrev All_terminate : Image → Who → Step
All_terminate p a = looks (λ w. for_each (filter (may_terminate w) w.tasks) (leave_by_terminate p a))

abbrev Blocks_there : Who → Step
Blocks_there a = looks (λ w. block_at_terminate a (waiting_of w a))

ended-kept : (p : Image) (a : Who) (w v : World) (said xs : List Said) → Does a w xs v
    → Kept (Settled a) w said ((Blocks_there a ▷ unwind_all p a) v (said ++ xs))
ended-kept p a w v said xs h =
    behind-kept (Behind_these (Settled a) w xs) (Settled a) (unwind_all p a) w v said xs (Blocks_there a v (said ++ xs))
    (said-of (Behind_these (Settled a) w xs) (block_at_terminate a (waiting_of v a)) v (said ++ xs) (terminates-from a (waiting_of v a) w v xs refl h))
    (λ u ys k. unwound-kept p a w u said (xs ++ ys) k)

terminated-kept : (p : Image) (a : Who) (w v : World) (said xs : List Said) → Does a w xs v
    → Kept (Settled a) w said ((take_terminates p a ▷ unwind_all p a) v (said ++ xs))
unfolding take_terminates
terminated-kept p a w v said xs h =
    subst (λ d. Kept (Settled a) w said d) (regrouped (Blocks_there a) (unwind_all p a) (All_terminate p a v (said ++ xs)))
    (behind-kept (Does a) (Settled a) (Blocks_there a ▷ unwind_all p a) w v said xs (All_terminate p a v (said ++ xs))
    (said-of (Does a) (All_terminate p a) v (said ++ xs)
    (weak a Known v (All_terminate p a) (keeps-from (chains (none a true)) (All_terminate p a) v (h.inv, tt) (all_terminate-keeps (none a true) p a))))
    (λ u ys k. ended-kept p a w u said (xs ++ ys) (base-then (acting a) true w v u xs ys h k)))

opened-kept : (p : Image) (a : Who) (w v : World) (said xs : List Said) → Does a w xs v
    → Kept (Settled a) w said ((open_if_ready p a ▷ take_terminates p a ▷ unwind_all p a) v (said ++ xs))
opened-kept p a w v said xs h =
    behind-kept (Does a) (Settled a) (take_terminates p a ▷ unwind_all p a) w v said xs (open_if_ready p a v (said ++ xs))
    (said-of (Does a) (open_if_ready p a) v (said ++ xs)
    (weak a Known v (open_if_ready p a) (keeps-from (chains (none a true)) (open_if_ready p a) v (h.inv, tt) (open_if_ready-keeps (none a true) p a tt))))
    (λ u ys k. terminated-kept p a w u said (xs ++ ys) (base-then (acting a) true w v u xs ys h k))

pub effect-from : (p : Image) (a : Who) (w : World) → Inv w → Awake a w → From (Settled a) w (effect p a)
unfolding effect From
effect-from p a w inv awake said =
    let v = edit_task a (with_ticks None) w in
    let ticks = ((none a true).edits_task a (with_ticks None) w (inv, tt) (λ t. refl) (λ t. refl) (λ t. refl)).core.base in
    first-kept (Does a) (Settled a) (open_if_ready p a ▷ take_terminates p a ▷ unwind_all p a) w v said (act p a v said)
    (said-of (Does a) (act p a) v said (act-from p a v ticks.inv (awake-edited a a (with_ticks None) w (λ u. refl) (λ u. refl) awake)))
    (λ u ys k. opened-kept p a w u said ys (base-then (acting a) true w v u [] ys ticks k))
