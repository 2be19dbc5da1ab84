-- The marks of every world that a run reaches, as tests.
use Rattle.std.proofs.Common.{◌≡◌, ℕ, Bool, true, false, cond, eqb, ◌&&◌, ◌||◌, List, [], ◌∷◌, ◌++◌, Some, refl}
use Rattle.std.specs.List.{list_all}
use Rattle.std.proofs.lemmas.Bool.{and_from, and_parts}
use Rattle.profile_machine.specs.declared.world.World.{World}
use Rattle.profile_machine.specs.declared.world.marks.Frame.{Frame}
use Rattle.profile_machine.specs.declared.world.marks.Mark.{Mark}
use Rattle.profile_machine.specs.declared.world.marks.Mark.TheVariants.{Scope, Handled, InProtected, InAccept, Abortable, InInitialize, InFinalize, InAssign}
use Rattle.profile_machine.specs.declared.world.tasks.Task.{Task}
use Rattle.ann_base.specs.Lists.{is_empty}
use Rattle.profile_machine.specs.WellFormed.{is_triggered, is_struck_rightly, finalizes_on, finalizes_above}
use Rattle.profile_machine.specs.WellFormed.{finalizes_rightly, frames_are_right, marks_are_right}
use Rattle.world_laws.specs.MarkWorlds.{frames_are_struck_rightly, marks_are_struck_rightly, ReachedMarksAreStruckRightly, stands_on, stands_above}
use Rattle.world_laws.specs.MarkWorlds.{stands_rightly, frames_stand_rightly, finalizes_stand_rightly, ReachedFinalizesStandRightly, ReachedMarksAreRight}
use Rattle.world_laws.proofs.Marks.MarkFacts.{RightMarks, StruckRightly, FinalizesRightly, below_finalizes, finalizes_here, finalized_in, GoodMarks}
use Rattle.world_laws.proofs.Marks.MarkRuns.{reached-good}
use Rattle.world_laws.proofs.Queues.Listed.{AllTasks}

-- ---- tests

where_so : (a b : Bool) → (a ≡ true → b ≡ true) → cond a b true ≡ true
where_so true b k = k refl
where_so false b k = refl

all-hold : (P : Task → Type 0) (test : Task → Bool) (ts : List Task) (agent : Task) → ((t : Task) → P t → test t ≡ true) → AllTasks P ts → P agent
    → list_all test (ts ++ agent ∷ []) ≡ true
all-hold P test [] agent k h a = and_from (test agent) true (k agent a) refl
all-hold P test (t ∷ ts) agent k h a = and_from (test t) (list_all test (ts ++ agent ∷ [])) (k t h.0) (all-hold P test ts agent k h.1 a)

-- ---- what is struck

struck-rightly : (t : Task) (fs : List Frame) → StruckRightly t.abnormal fs → frames_are_struck_rightly t fs ≡ true
struck-rightly t [] h = refl
struck-rightly t (f ∷ fs) h =
    and_from (is_struck_rightly t f fs) (frames_are_struck_rightly t fs) (where_so f.struck (is_triggered f.mark || (is_empty fs && t.abnormal)) h.0)
    (struck-rightly t fs h.1)

struck-world : (w : World) → GoodMarks w → marks_are_struck_rightly w ≡ true
struck-world w good =
    all-hold (RightMarks w.registered w.drawn.controlled) (λ t. frames_are_struck_rightly t t.frames) w.tasks w.agent
    (λ t h. struck-rightly t t.frames h.struck) good.tasks_right good.agent_right

pub reached_marks_are_struck_rightly : ReachedMarksAreStruckRightly
reached_marks_are_struck_rightly p script bound w r = struck-world w (reached-good p script bound w r)

-- ---- where a Finalize stands

here-on : (w : World) (n : ℕ) (mark : Mark) → finalizes_here w.registered w.drawn.controlled n mark ≡ true → stands_on w n mark ≡ true
here-on w n (Scope m) h = h
here-on w n (Handled s) h = h
here-on w n (InProtected m) h = h
here-on w n (InAccept m) h = h
here-on w n (Abortable m) h = h
here-on w n (InInitialize l) h = h
here-on w n (InFinalize o) h = h
here-on w n (InAssign m) h = (and_parts (eqb n m.target) _ h).0

below-above : (w : World) (n : ℕ) (fs : List Frame) → below_finalizes w.registered w.drawn.controlled n fs ≡ true → stands_above w n fs ≡ true
below-above w n [] h = h
below-above w n (f ∷ fs) h = here-on w n f.mark h

mark-stands : (w : World) (mark : Mark) (fs : List Frame) → ((n : ℕ) → finalized_in mark ≡ Some n → below_finalizes w.registered w.drawn.controlled n fs ≡ true)
    → stands_rightly w mark fs ≡ true
mark-stands w (Scope m) fs h = refl
mark-stands w (Handled s) fs h = refl
mark-stands w (InProtected m) fs h = refl
mark-stands w (InAccept m) fs h = refl
mark-stands w (Abortable m) fs h = refl
mark-stands w (InInitialize l) fs h = refl
mark-stands w (InFinalize n) fs h = below-above w n fs (h n refl)
mark-stands w (InAssign m) fs h = refl

frames-stand : (w : World) (fs : List Frame) → FinalizesRightly w.registered w.drawn.controlled fs → frames_stand_rightly w fs ≡ true
frames-stand w [] h = refl
frames-stand w (f ∷ fs) h = and_from (stands_rightly w f.mark fs) (frames_stand_rightly w fs) (mark-stands w f.mark fs h.0) (frames-stand w fs h.1)

stands-world : (w : World) → GoodMarks w → finalizes_stand_rightly w ≡ true
stands-world w good =
    all-hold (RightMarks w.registered w.drawn.controlled) (λ t. frames_stand_rightly w t.frames) w.tasks w.agent
    (λ t h. frames-stand w t.frames h.finalizes) good.tasks_right good.agent_right

pub reached_finalizes_stand_rightly : ReachedFinalizesStandRightly
reached_finalizes_stand_rightly p script bound w r = stands-world w (reached-good p script bound w r)

-- ---- the whole

here-right : (w : World) (n : ℕ) (mark : Mark) → finalizes_here w.registered w.drawn.controlled n mark ≡ true → finalizes_on w n mark ≡ true
here-right w n (Scope m) h = h
here-right w n (Handled s) h = h
here-right w n (InProtected m) h = h
here-right w n (InAccept m) h = h
here-right w n (Abortable m) h = h
here-right w n (InInitialize l) h = h
here-right w n (InFinalize o) h = h
here-right w n (InAssign m) h = h

below-right : (w : World) (n : ℕ) (fs : List Frame) → below_finalizes w.registered w.drawn.controlled n fs ≡ true → finalizes_above w n fs ≡ true
below-right w n [] h = h
below-right w n (f ∷ fs) h = here-right w n f.mark h

mark-right : (w : World) (mark : Mark) (fs : List Frame) → ((n : ℕ) → finalized_in mark ≡ Some n → below_finalizes w.registered w.drawn.controlled n fs ≡ true)
    → finalizes_rightly w mark fs ≡ true
mark-right w (Scope m) fs h = refl
mark-right w (Handled s) fs h = refl
mark-right w (InProtected m) fs h = refl
mark-right w (InAccept m) fs h = refl
mark-right w (Abortable m) fs h = refl
mark-right w (InInitialize l) fs h = refl
mark-right w (InFinalize n) fs h = below-right w n fs (h n refl)
mark-right w (InAssign m) fs h = refl

frames-right : (w : World) (t : Task) (fs : List Frame) → StruckRightly t.abnormal fs → FinalizesRightly w.registered w.drawn.controlled fs
    → frames_are_right w t fs ≡ true
frames-right w t [] struck finalizes = refl
frames-right w t (f ∷ fs) struck finalizes =
    and_from (is_struck_rightly t f fs && finalizes_rightly w f.mark fs) (frames_are_right w t fs)
    (and_from (is_struck_rightly t f fs) (finalizes_rightly w f.mark fs) (where_so f.struck (is_triggered f.mark || (is_empty fs && t.abnormal)) struck.0)
    (mark-right w f.mark fs finalizes.0))
    (frames-right w t fs struck.1 finalizes.1)

right-world : (w : World) → GoodMarks w → marks_are_right w ≡ true
right-world w good =
    all-hold (RightMarks w.registered w.drawn.controlled) (λ t. frames_are_right w t t.frames) w.tasks w.agent
    (λ t h. frames-right w t t.frames h.struck h.finalizes) good.tasks_right good.agent_right

pub reached_marks_are_right : ReachedMarksAreRight
reached_marks_are_right p script bound w r = right-world w (reached-good p script bound w r)
