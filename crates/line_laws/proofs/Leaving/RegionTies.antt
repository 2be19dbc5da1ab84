-- What ties the lines of regions and controlled objects to a world: of each region the one mark that has it, and the objects that
-- are registered, in their order.
use Rattle.std.proofs.Common.{◌≡◌, ℕ, suc, ◌<◌, ◌≤◌, Bool, true, false, cond, not, eqb, ◌||◌, List, []}
use Rattle.std.proofs.Common.{◌∷◌, ◌++◌, map, Option, Some, None, refl, sym, ap, subst, ◌∙◌, eq-eqb, arith}
use Rattle.std.proofs.lemmas.Bool.{eqb-true, or_left, or_right}
use Rattle.std.specs.Prelude.{find, unwrap_or}
use Rattle.ann_base.specs.declared.identities.RegionNo.{RegionNo}
use Rattle.trace_text.specs.declared.events.Who.{Who}
use Rattle.trace_text.specs.declared.events.Who.TheVariants as who
use Rattle.profile_machine.specs.declared.run_data.Leaving.{Leaving}
use Rattle.profile_machine.specs.declared.world.World.{World}
use Rattle.profile_machine.specs.declared.world.tasks.Task.{Task}
use Rattle.profile_machine.specs.declared.world.marks.Frame.{Frame}
use Rattle.profile_machine.specs.declared.world.marks.Mark.{Mark}
use Rattle.profile_machine.specs.declared.world.marks.Mark.TheVariants.{Scope, Handled, InProtected, InAccept, Abortable, InInitialize, InFinalize, InAssign}
use Rattle.profile_machine.specs.declared.world.marks.ScopeMark.{ScopeMark}
use Rattle.profile_machine.specs.declared.world.scopes.Located.{Located}
use Rattle.profile_machine.specs.declared.world.appointments.Registered.{Registered}
use Rattle.profile_image.specs.Words.{without}
use Rattle.world_tables.specs.Lists.{first_of, rest_of}
use Rattle.profile_machine.specs.Cost.{of_region}
use Rattle.profile_machine.specs.Tasks.{task_at, edit_task_found, edit_task, with_frames, nobody}
use Rattle.profile_machine.specs.Frames.{top_of, edit_first, edit_top, push, pop, with_mark}
use Rattle.profile_machine.specs.Scopes.{region_drawn}
use Rattle.profile_machine.specs.Masters.{forget_task}
use Rattle.profile_machine.specs.Controlled.{registered_as, no_longer_registered, edit_top_scope, edit_scope_mark, next_to_finalize, is_number}
use Rattle.profile_machine.specs.Tasking.{add_task, being_left_mark, left_so_frame}
use Rattle.line_laws.proofs.Leaving.FineMoves.{Nature, nature, natures}
use Rattle.line_laws.proofs.Leaving.RegionLines.{Told, begun, ended, added, finalized, assigned, leaving, left, regions, final}
use Rattle.line_laws.proofs.Leaving.RegionLines.{others, live, live_in, is_live, Finalizes, eqb-sym-false, absent-others}
use Rattle.line_laws.proofs.Leaving.RegionWorlds.{with_flag, flags_in, flags_of, flags, Single, single-on, single-none, single-alone, Alone}
use Rattle.line_laws.proofs.Leaving.RegionWorlds.{Fewer, fewer-same, fewer-by, fewer-natures, fewer-filter, fewer-before, around, edited-fewer}
use Rattle.machine_laws.proofs.QueueLemmas.{by_test}
use Rattle.machine_laws.proofs.FineMoves.{edit_found-drawn}
use Rattle.machine_laws.proofs.Kept.Controlled.{edit_found-registered}

-- ---- the tie

-- of a region that some mark has: whether it is being left, that it has not been left, and that it was drawn
abbrev pub Flag : ℕ → List Told → ℕ → Bool → Type 0
Flag r s drawn b = (leaving r s ≡ b) × (left r s ≡ false) × (0 < r) × (r ≤ drawn)

abbrev pub object_and_region : Registered → ℕ × ℕ
object_and_region x = (x.object, x.region.0)

-- nothing is said of what is not drawn yet
pub record Drawn_to (s : List Told) (registered : List Registered) (drawn_regions drawn_objects : ℕ) : Type 0 where
  pub leaving_drawn : (r : ℕ) → drawn_regions < r → leaving r s ≡ false
  pub left_drawn : (r : ℕ) → drawn_regions < r → left r s ≡ false
  pub none : leaving 0 s ≡ false
  pub objects : map object_and_region registered ≡ live s
  pub live_drawn : (o : ℕ) → drawn_objects < o → is_live o (live s) ≡ false
  pub regions_drawn : (o : ℕ) → drawn_objects < o → regions o s ≡ []
  pub final_drawn : (o : ℕ) → drawn_objects < o → final o s ≡ false

pub record TiedTo (s : List Told) (tasks : List Task) (agent : Task) (registered : List Registered) (drawn_regions drawn_objects : ℕ) : Type 0 where
  pub marks : (r : ℕ) → Single (Flag r s drawn_regions) (flags r tasks agent)
  pub rest : Drawn_to s registered drawn_regions drawn_objects

abbrev pub Tied : List Told → World → Type 0
Tied s w = TiedTo s w.tasks w.agent w.registered w.drawn.regions w.drawn.controlled

-- ---- changes that say nothing

-- an edit of a task that leaves no more marks of any region
edited-found : (s : List Told) (name : Who) (f : Task → Task) (w : World) (found : Option Task) → task_at w name ≡ found
    → ((t : Task) → found ≡ Some t → (r : ℕ) → Fewer (flags_in r (natures (f t).frames)) (flags_in r (natures t.frames))) → Tied s w
    → Tied s (edit_task name f w)
edited-found s name f w None e k h = subst (λ found. Tied s (edit_task_found name f w found)) (sym e) h
edited-found s (who.Task n) f w (Some t) e k h = subst (λ found. Tied s (edit_task_found (who.Task n) f w found)) (sym e) (record {
  marks = λ r. subst (λ found. let v = edit_task_found (who.Task n) f w found in Single (Flag r s v.drawn.regions) (flags r v.tasks v.agent)) e
      (subst (λ m. let v = edit_task (who.Task n) f w in Single (Flag r s m) (flags r v.tasks v.agent))
      (sym (ap (λ found. (edit_task_found (who.Task n) f w found).drawn.regions) e))
      (edited-fewer r (who.Task n) f w t e (k t refl r) (Flag r s w.drawn.regions) (h.marks r)));
  rest = h.rest;
})
edited-found s who.Agent f w (Some t) e k h =
    let same : w.agent ≡ t = cc in
    record {
      marks =
          λ r. edited-fewer r who.Agent f w w.agent refl
          (subst (λ (x : Task). Fewer (flags_in r (natures (f x).frames)) (flags_in r (natures x.frames))) (sym same) (k t refl r)) (Flag r s w.drawn.regions)
          (h.marks r);
      rest = h.rest;
    }

pub edited-tied : (s : List Told) (name : Who) (f : Task → Task) (w : World)
    → ((t : Task) → task_at w name ≡ Some t → (r : ℕ) → Fewer (flags_in r (natures (f t).frames)) (flags_in r (natures t.frames))) → Tied s w
    → Tied s (edit_task name f w)
edited-tied s name f w k h = edited-found s name f w (task_at w name) refl k h

-- marks that are what they were
pub same-tied : (s : List Told) (name : Who) (f : Task → Task) (w : World) → ((t : Task) → natures (f t).frames ≡ natures t.frames) → Tied s w
    → Tied s (edit_task name f w)
same-tied s name f w same h =
    edited-tied s name f w (λ t e r. fewer-same (flags_in r (natures (f t).frames)) (flags_in r (natures t.frames)) (ap (flags_in r) (same t))) h

-- a mark without a region
no_flag : (r : ℕ) (n : Nature) (ns : List Nature) (region : Option RegionNo) → n.region ≡ region → region ≡ None → flags_in r (n ∷ ns) ≡ flags_in r ns
no_flag r n ns None e k = ap (λ q. with_flag r q n.leaving (flags_in r ns)) e
no_flag r n ns (Some q) e k = absurd cc

pub pushed-tied : (s : List Told) (name : Who) (f : Frame) (w : World) → (nature f.mark).region ≡ None → Tied s w → Tied s (push name f w)
pushed-tied s name f w none h =
    edited-tied s name (λ t. with_frames (f ∷ t.frames) t) w
    (λ t e r. fewer-same (flags_in r (natures (f ∷ t.frames))) (flags_in r (natures t.frames))
    (no_flag r (nature f.mark) (natures t.frames) (nature f.mark).region refl none)) h

first_less : (r : ℕ) (fs : List Frame) → Fewer (flags_in r (natures (rest_of fs))) (flags_in r (natures fs))
first_less r [] = fewer-same [] [] refl
first_less r (f ∷ fs) = fewer-natures r (nature f.mark) (natures fs)

pub popped-tied : (s : List Told) (name : Who) (w : World) → Tied s w → Tied s (pop name w)
popped-tied s name w h = edited-tied s name (λ t. with_frames (rest_of t.frames) t) w (λ t e r. first_less r t.frames) h

-- a task that is gone, and a new one
pub forgotten-tied : (s : List Told) (name : Who) (w : World) → Tied s w → Tied s (forget_task name w)
forgotten-tied s name w h = record {
  marks =
      λ r. fewer-by (flags r (forget_task name w).tasks w.agent) (flags r w.tasks w.agent)
      (fewer-before (flags_of r (forget_task name w).tasks) (flags_of r w.tasks) (flags_in r (natures w.agent.frames)) (fewer-filter r _ w.tasks))
      (Flag r s w.drawn.regions) (h.marks r);
  rest = h.rest;
}

flags-added : (r : ℕ) (t : Task) (ts : List Task) → t.frames ≡ [] → flags_of r (ts ++ t ∷ []) ≡ flags_of r ts
flags-added r t [] e = ap (λ fs. flags_in r (natures fs) ++ []) e
flags-added r t (x ∷ xs) e = ap (λ bs. flags_in r (natures x.frames) ++ bs) (flags-added r t xs e)

pub added-tied : (s : List Told) (t : Task) (w : World) → t.frames ≡ [] → Tied s w → Tied s (add_task t w)
added-tied s t w e h = record {
  marks = λ r. subst (λ bs. Single (Flag r s w.drawn.regions) (bs ++ flags_in r (natures w.agent.frames))) (sym (flags-added r t w.tasks e)) (h.marks r);
  rest = h.rest;
}

-- ---- the mark on top

pub record Topped (name : Who) (w : World) (f : Frame) : Type 0 where
  pub task : Task
  pub below : List Frame
  pub found : task_at w name ≡ Some task
  pub shape : task.frames ≡ f ∷ below

first-is : (fs : List Frame) (f : Frame) → first_of fs ≡ Some f → (below : List Frame) × (fs ≡ f ∷ below)
first-is [] f e = absurd cc
first-is (g ∷ fs) f e = (fs, let same : g ≡ f = cc in ap (λ x. x ∷ fs) same)

topped-found : (name : Who) (w : World) (f : Frame) (found : Option Task) → task_at w name ≡ found → first_of (unwrap_or found nobody).frames ≡ Some f
    → Topped name w f
topped-found name w f None is e = absurd cc
topped-found name w f (Some t) is e = let q = first-is t.frames f e in record { task = t; below = q.0; found = is; shape = q.1 }

pub topped : (name : Who) (w : World) (f : Frame) → top_of w name ≡ Some f → Topped name w f
topped name w f e = topped-found name w f (task_at w name) refl e

-- a scope's mark on top that has a region
pub record RegionOnTop (name : Who) (w : World) (r : RegionNo) (b : Bool) : Type 0 where
  pub task : Task
  pub below : List Frame
  pub first : Frame
  pub found : task_at w name ≡ Some task
  pub shape : task.frames ≡ first ∷ below
  pub region : (nature first.mark).region ≡ Some r
  pub leaving : (nature first.mark).leaving ≡ b

pub region_on_top : (name : Who) (w : World) (f : Frame) (m : ScopeMark) (r : RegionNo) (b : Bool) → top_of w name ≡ Some f → f.mark ≡ Scope m
    → m.region ≡ Some r → m.being_left ≡ b → RegionOnTop name w r b
region_on_top name w f m r b top is region left_so =
    let q = topped name w f top in
    record {
      task = q.task;
      below = q.below;
      first = f;
      found = q.found;
      shape = q.shape;
      region = ap (λ k. (nature k).region) is ∙ region;
      leaving = ap (λ k. (nature k).leaving) is ∙ left_so;
    }

-- its flag stands among those of its region, and among no others
top-flags : (name : Who) (w : World) (r : RegionNo) (b : Bool) (q : ℕ) (t : RegionOnTop name w r b)
    → flags_in q (natures t.task.frames) ≡ cond (eqb q r.0) (b ∷ flags_in q (natures t.below)) (flags_in q (natures t.below))
top-flags name w r b q t =
    ap (λ fs. flags_in q (natures fs)) t.shape
    ∙ ap (λ k. with_flag q k (nature t.first.mark).leaving (flags_in q (natures t.below))) t.region
    ∙ ap (λ c. with_flag q (Some r) c (flags_in q (natures t.below))) t.leaving

pub test-true : {X : Type 0} (b : Bool) (x y : X) → b ≡ true → cond b x y ≡ x
test-true true x y e = refl
test-true false x y e = absurd cc

pub test-false : {X : Type 0} (b : Bool) (x y : X) → b ≡ false → cond b x y ≡ y
test-false true x y e = absurd cc
test-false false x y e = refl

pub top-alone : (s : List Told) (name : Who) (w : World) (r : RegionNo) (b : Bool) (t : RegionOnTop name w r b) → Tied s w
    → let a = around r.0 name w t.task t.found in Alone (Flag r.0 s w.drawn.regions) b a.before (flags_in r.0 (natures t.below) ++ a.behind)
top-alone s name w r b t h =
    let a = around r.0 name w t.task t.found in
    let here : flags_in r.0 (natures t.task.frames) ≡ b ∷ flags_in r.0 (natures t.below) =
    top-flags name w r b r.0 t ∙ test-true (eqb r.0 r.0) (b ∷ flags_in r.0 (natures t.below)) (flags_in r.0 (natures t.below)) (eq-eqb r.0 r.0 refl) in
    single-alone (Flag r.0 s w.drawn.regions) a.before b (flags_in r.0 (natures t.below) ++ a.behind)
    (subst (Single (Flag r.0 s w.drawn.regions)) (a.whole ∙ ap (λ bs. a.before ++ (bs ++ a.behind)) here) (h.marks r.0))

-- ---- an edit of a task, with what it leaves of all else

retied : (s : List Told) (name : Who) (f : Task → Task) (w : World) →
    let v = edit_task name f w in
    ((r : ℕ) → Single (Flag r s w.drawn.regions) (flags r v.tasks v.agent)) → Drawn_to s w.registered w.drawn.regions w.drawn.controlled → Tied s v
retied s name f w marks rest =
    let v = edit_task name f w in
    let drawn : v.drawn ≡ w.drawn = edit_found-drawn name f w (task_at w name) in
    let registered : v.registered ≡ w.registered = edit_found-registered name f w (task_at w name) in
    record {
      marks = λ r. subst (λ d. Single (Flag r s d.regions) (flags r v.tasks v.agent)) (sym drawn) (marks r);
      rest =
          subst (λ d. Drawn_to s v.registered d.regions d.controlled) (sym drawn)
          (subst (λ xs. Drawn_to s xs w.drawn.regions w.drawn.controlled) (sym registered) rest);
    }

pub first-same : (f : Frame → Frame) (fs : List Frame) → ((x : Frame) → nature (f x).mark ≡ nature x.mark) → natures (edit_first f fs) ≡ natures fs
first-same f [] same = refl
first-same f (x ∷ xs) same = ap (λ n. n ∷ natures xs) (same x)

-- ---- a region begins to be left

begun_flag : (q r : ℕ) (s : List Told) (d : ℕ) → eqb q r ≡ false → (b : Bool) → Flag q s d b → Flag q (begun r ∷ s) d b
begun_flag q r s d e b h = (ap (λ t. t || leaving q s) e ∙ h.0, h.1, h.2, h.3)

not_same : (q r : ℕ) → r < q → eqb q r ≡ false
not_same q r e = by_test (eqb q r) (λ t. absurd (let same : q ≡ r = eqb-true q r t in omega arith)) (λ f. f)

not_zero : (r : ℕ) → 0 < r → eqb 0 r ≡ false
not_zero r e = by_test (eqb 0 r) (λ t. absurd (let same : 0 ≡ r = eqb-true 0 r t in omega arith)) (λ f. f)

begun-rest : (s : List Told) (r : ℕ) (registered : List Registered) (d o : ℕ) → 0 < r → r ≤ d → Drawn_to s registered d o
    → Drawn_to (begun r ∷ s) registered d o
begun-rest s r registered d o some low h = record {
  leaving_drawn = λ q high. ap (λ t. t || leaving q s) (not_same q r (omega arith)) ∙ h.leaving_drawn q high;
  left_drawn = h.left_drawn;
  none = ap (λ t. t || leaving 0 s) (not_zero r some) ∙ h.none;
  objects = h.objects;
  live_drawn = h.live_drawn;
  regions_drawn = h.regions_drawn;
  final_drawn = h.final_drawn;
}

abbrev mark_being_left : Task → Task
mark_being_left t = with_frames (edit_first (λ x. with_mark (edit_scope_mark being_left_mark x.mark) x) t.frames) t

edited_region : (mark : Mark) → (nature (edit_scope_mark being_left_mark mark)).region ≡ (nature mark).region
edited_region (Scope m) = refl
edited_region (Handled s) = refl
edited_region (InProtected m) = refl
edited_region (InAccept m) = refl
edited_region (Abortable m) = refl
edited_region (InInitialize l) = refl
edited_region (InFinalize o) = refl
edited_region (InAssign m) = refl

edited_leaving : (mark : Mark) (r : RegionNo) → (nature mark).region ≡ Some r → (nature (edit_scope_mark being_left_mark mark)).leaving ≡ true
edited_leaving (Scope m) r e = refl
edited_leaving (Handled s) r e = absurd cc
edited_leaving (InProtected m) r e = absurd cc
edited_leaving (InAccept m) r e = absurd cc
edited_leaving (Abortable m) r e = absurd cc
edited_leaving (InInitialize l) r e = absurd cc
edited_leaving (InFinalize o) r e = absurd cc
edited_leaving (InAssign m) r e = absurd cc

marked-flags : (name : Who) (w : World) (r : RegionNo) (b : Bool) (q : ℕ) (t : RegionOnTop name w r b)
    → flags_in q (natures (mark_being_left t.task).frames) ≡ cond (eqb q r.0) (true ∷ flags_in q (natures t.below)) (flags_in q (natures t.below))
marked-flags name w r b q t =
    ap (λ fs. flags_in q (natures (edit_first (λ x. with_mark (edit_scope_mark being_left_mark x.mark) x) fs))) t.shape
    ∙ ap (λ k. with_flag q k (nature (edit_scope_mark being_left_mark t.first.mark)).leaving (flags_in q (natures t.below)))
    (edited_region t.first.mark ∙ t.region)
    ∙ ap (λ c. with_flag q (Some r) c (flags_in q (natures t.below))) (edited_leaving t.first.mark r t.region)

begun-marks : (s : List Told) (name : Who) (w : World) (r : RegionNo) (t : RegionOnTop name w r false) → Tied s w → (q : ℕ) →
    let v = edit_task name mark_being_left w in
    Single (Flag q (begun r.0 ∷ s) w.drawn.regions) (flags q v.tasks v.agent)
begun-marks s name w r t h q =
    let P = Flag q (begun r.0 ∷ s) w.drawn.regions in
    let a = around q name w t.task t.found in
    subst (Single P) (sym (a.edited mark_being_left ∙ ap (λ bs. a.before ++ (bs ++ a.behind)) (marked-flags name w r false q t)))
    (by_test (eqb q r.0)
    (λ e. let same : q ≡ r.0 = eqb-true q r.0 e in
    let here : flags_in q (natures t.task.frames) ≡ false ∷ flags_in q (natures t.below) =
    top-flags name w r false q t ∙ test-true (eqb q r.0) (false ∷ flags_in q (natures t.below)) (flags_in q (natures t.below)) e in
    let alone =
    single-alone (Flag q s w.drawn.regions) a.before false (flags_in q (natures t.below) ++ a.behind)
    (subst (Single (Flag q s w.drawn.regions)) (a.whole ∙ ap (λ bs. a.before ++ (bs ++ a.behind)) here) (h.marks q)) in
    subst (λ bs. Single P (a.before ++ (bs ++ a.behind))) (sym (test-true (eqb q r.0) (true ∷ flags_in q (natures t.below)) (flags_in q (natures t.below)) e))
    (subst (λ bs. Single P (bs ++ true ∷ (flags_in q (natures t.below) ++ a.behind))) (sym alone.none_before)
    (subst (λ bs. Single P (true ∷ bs)) (sym alone.none_behind) (or_left (eqb q r.0) (leaving q s) e, alone.holds.1, alone.holds.2, alone.holds.3))))
    (λ e. let here : flags_in q (natures t.task.frames) ≡ flags_in q (natures t.below) =
    top-flags name w r false q t ∙ test-false (eqb q r.0) (false ∷ flags_in q (natures t.below)) (flags_in q (natures t.below)) e in
    subst (λ bs. Single P (a.before ++ (bs ++ a.behind))) (sym (test-false (eqb q r.0) (true ∷ flags_in q (natures t.below)) (flags_in q (natures t.below)) e))
    (single-on (Flag q s w.drawn.regions) P (a.before ++ (flags_in q (natures t.below) ++ a.behind)) (begun_flag q r.0 s w.drawn.regions e)
    (subst (Single (Flag q s w.drawn.regions)) (a.whole ∙ ap (λ bs. a.before ++ (bs ++ a.behind)) here) (h.marks q)))))

pub begun-tied : (s : List Told) (name : Who) (w : World) (r : RegionNo) (leaving : Leaving) → RegionOnTop name w r false → Tied s w
    → Tied (begun r.0 ∷ s) (edit_top name (left_so_frame leaving) (edit_top_scope name being_left_mark w))
begun-tied s name w r how t h =
    let flag = (top-alone s name w r false t h).holds in
    same-tied (begun r.0 ∷ s) name (λ u. with_frames (edit_first (left_so_frame how) u.frames) u) (edit_top_scope name being_left_mark w)
    (λ u. first-same (left_so_frame how) u.frames (λ x. refl))
    (retied (begun r.0 ∷ s) name mark_being_left w (begun-marks s name w r t h)
    (begun-rest s r.0 w.registered w.drawn.regions w.drawn.controlled flag.2 flag.3 h.rest))

-- ---- a region has been left

ended_flag : (q r : ℕ) (s : List Told) (d : ℕ) → eqb q r ≡ false → (b : Bool) → Flag q s d b → Flag q (ended r ∷ s) d b
ended_flag q r s d e b h = (h.0, ap (λ t. t || left q s) e ∙ h.1, h.2, h.3)

ended-rest : (s : List Told) (r : ℕ) (registered : List Registered) (d o : ℕ) → r ≤ d → Drawn_to s registered d o → Drawn_to (ended r ∷ s) registered d o
ended-rest s r registered d o low h = record {
  leaving_drawn = h.leaving_drawn;
  left_drawn = λ q high. ap (λ t. t || left q s) (not_same q r (omega arith)) ∙ h.left_drawn q high;
  none = h.none;
  objects = h.objects;
  live_drawn = h.live_drawn;
  regions_drawn = h.regions_drawn;
  final_drawn = h.final_drawn;
}

abbrev mark_popped : Task → Task
mark_popped t = with_frames (rest_of t.frames) t

popped-flags : (name : Who) (w : World) (r : RegionNo) (b : Bool) (q : ℕ) (t : RegionOnTop name w r b)
    → flags_in q (natures (mark_popped t.task).frames) ≡ flags_in q (natures t.below)
popped-flags name w r b q t = ap (λ fs. flags_in q (natures (rest_of fs))) t.shape

ended-marks : (s : List Told) (name : Who) (w : World) (r : RegionNo) (t : RegionOnTop name w r true) → Tied s w → (q : ℕ) →
    let v = edit_task name mark_popped w in
    Single (Flag q (ended r.0 ∷ s) w.drawn.regions) (flags q v.tasks v.agent)
ended-marks s name w r t h q =
    let P = Flag q (ended r.0 ∷ s) w.drawn.regions in
    let a = around q name w t.task t.found in
    subst (Single P) (sym (a.edited mark_popped ∙ ap (λ bs. a.before ++ (bs ++ a.behind)) (popped-flags name w r true q t)))
    (by_test (eqb q r.0)
    (λ e. let here : flags_in q (natures t.task.frames) ≡ true ∷ flags_in q (natures t.below) =
    top-flags name w r true q t ∙ test-true (eqb q r.0) (true ∷ flags_in q (natures t.below)) (flags_in q (natures t.below)) e in
    let alone =
    single-alone (Flag q s w.drawn.regions) a.before true (flags_in q (natures t.below) ++ a.behind)
    (subst (Single (Flag q s w.drawn.regions)) (a.whole ∙ ap (λ bs. a.before ++ (bs ++ a.behind)) here) (h.marks q)) in
    subst (λ bs. Single P (bs ++ (flags_in q (natures t.below) ++ a.behind))) (sym alone.none_before) (subst (Single P) (sym alone.none_behind) tt))
    (λ e. let here : flags_in q (natures t.task.frames) ≡ flags_in q (natures t.below) =
    top-flags name w r true q t ∙ test-false (eqb q r.0) (true ∷ flags_in q (natures t.below)) (flags_in q (natures t.below)) e in
    single-on (Flag q s w.drawn.regions) P (a.before ++ (flags_in q (natures t.below) ++ a.behind)) (ended_flag q r.0 s w.drawn.regions e)
    (subst (Single (Flag q s w.drawn.regions)) (a.whole ∙ ap (λ bs. a.before ++ (bs ++ a.behind)) here) (h.marks q))))

pub ended-tied : (s : List Told) (name : Who) (w : World) (r : RegionNo) → RegionOnTop name w r true → Tied s w → Tied (ended r.0 ∷ s) (pop name w)
ended-tied s name w r t h =
    let flag = (top-alone s name w r true t h).holds in
    retied (ended r.0 ∷ s) name mark_popped w (ended-marks s name w r t h) (ended-rest s r.0 w.registered w.drawn.regions w.drawn.controlled flag.3 h.rest)

-- ---- a region is drawn, and a mark with it opened

later_flag : (q : ℕ) (s : List Told) (d : ℕ) (b : Bool) → Flag q s d b → Flag q s (suc d) b
later_flag q s d b h = let low : q ≤ d = h.3 in (h.0, h.1, h.2, omega arith)

later-rest : (s : List Told) (registered : List Registered) (d o : ℕ) → Drawn_to s registered d o → Drawn_to s registered (suc d) o
later-rest s registered d o h = record {
  leaving_drawn = λ q high. h.leaving_drawn q (omega arith);
  left_drawn = λ q high. h.left_drawn q (omega arith);
  none = h.none;
  objects = h.objects;
  live_drawn = h.live_drawn;
  regions_drawn = h.regions_drawn;
  final_drawn = h.final_drawn;
}

-- the world in which a region has been drawn
abbrev region_later : World → World
region_later w = record w { drawn = region_drawn w.drawn }

nothing-of : (xs ys zs : List Bool) → xs ++ (ys ++ zs) ≡ [] → (xs ≡ []) × (ys ≡ []) × (zs ≡ [])
nothing-of [] [] zs e = (refl, refl, e)
nothing-of [] (y ∷ ys) zs e = absurd cc
nothing-of (x ∷ xs) ys zs e = absurd cc

no_flags-yet : (s : List Told) (w : World) → Tied s w → (q : ℕ) → q ≡ suc w.drawn.regions → flags q w.tasks w.agent ≡ []
no_flags-yet s w h q e =
    single-none (Flag q s w.drawn.regions) (flags q w.tasks w.agent) (λ b k. let low : q ≤ w.drawn.regions = k.3 in omega (arith, e)) (h.marks q)

opened-flags : (q : ℕ) (f : Frame) (r : RegionNo) (ns : List Nature) → (nature f.mark).region ≡ Some r → (nature f.mark).leaving ≡ false
    → flags_in q (nature f.mark ∷ ns) ≡ cond (eqb q r.0) (false ∷ flags_in q ns) (flags_in q ns)
opened-flags q f r ns region not_left =
    ap (λ k. with_flag q k (nature f.mark).leaving (flags_in q ns)) region ∙ ap (λ c. with_flag q (Some r) c (flags_in q ns)) not_left

opened-marks : (s : List Told) (name : Who) (f : Frame) (w : World) (t : Task) → task_at w name ≡ Some t
    → (nature f.mark).region ≡ Some (record { 0 = suc w.drawn.regions }) → (nature f.mark).leaving ≡ false → Tied s w
    → (q : ℕ) → let v = push name f w in Single (Flag q s (suc w.drawn.regions)) (flags q v.tasks v.agent)
opened-marks s name f w t e region not_left h q =
    let d = w.drawn.regions in
    let P = Flag q s (suc d) in
    let a = around q name w t e in
    let X = flags_in q (natures t.frames) in
    subst (Single P)
    (sym (a.edited (λ u. with_frames (f ∷ u.frames) u)
    ∙ ap (λ bs. a.before ++ (bs ++ a.behind)) (opened-flags q f (record { 0 = suc d }) (natures t.frames) region not_left)))
    (by_test (eqb q (suc d))
    (λ is. let same : q ≡ suc d = eqb-true q (suc d) is in
    let none = nothing-of a.before X a.behind (sym a.whole ∙ no_flags-yet s w h q same) in
    let high : d < q = omega (arith, same) in
    let some : 0 < q = omega (arith, same) in
    let low : q ≤ suc d = omega (arith, same) in
    subst (λ bs. Single P (a.before ++ (bs ++ a.behind))) (sym (test-true (eqb q (suc d)) (false ∷ X) X is))
    (subst (λ bs. Single P (bs ++ false ∷ (X ++ a.behind))) (sym none.0)
    (subst (λ bs. Single P (false ∷ (bs ++ a.behind))) (sym none.1)
    (subst (λ bs. Single P (false ∷ bs)) (sym none.2) (h.rest.leaving_drawn q high, h.rest.left_drawn q high, some, low)))))
    (λ is. subst (λ bs. Single P (a.before ++ (bs ++ a.behind))) (sym (test-false (eqb q (suc d)) (false ∷ X) X is))
    (single-on (Flag q s d) P (a.before ++ (X ++ a.behind)) (later_flag q s d) (subst (Single (Flag q s d)) a.whole (h.marks q)))))

pub later-tied : (s : List Told) (w : World) → Tied s w → Tied s (region_later w)
later-tied s w h = record {
  marks = λ q. single-on (Flag q s w.drawn.regions) (Flag q s (suc w.drawn.regions)) (flags q w.tasks w.agent) (later_flag q s w.drawn.regions) (h.marks q);
  rest = later-rest s w.registered w.drawn.regions w.drawn.controlled h.rest;
}

-- the drawing does not touch tasks, so it may come first
opened-found : (s : List Told) (name : Who) (f : Frame) (w : World) (found : Option Task) → task_at w name ≡ found
    → (nature f.mark).region ≡ Some (record { 0 = suc w.drawn.regions }) → (nature f.mark).leaving ≡ false → Tied s w → Tied s (push name f (region_later w))
opened-found s name f w None e region not_left h =
    subst (λ found. Tied s (edit_task_found name (λ u. with_frames (f ∷ u.frames) u) (region_later w) found)) (sym (drawn_at w name ∙ e))
    (later-tied s w h) where
      drawn_at : (w : World) (name : Who) → task_at (region_later w) name ≡ task_at w name
      drawn_at w (who.Task n) = refl
      drawn_at w who.Agent = refl
opened-found s (who.Task n) f w (Some t) e region not_left h =
    let marks = opened-marks s (who.Task n) f w t e region not_left h in
    subst (λ found. Tied s (edit_task_found (who.Task n) (λ u. with_frames (f ∷ u.frames) u) (region_later w) found)) (sym e) (record {
      marks =
          λ q. subst (λ found. let v = edit_task_found (who.Task n) (λ u. with_frames (f ∷ u.frames) u) w found in
          Single (Flag q s (suc w.drawn.regions)) (flags q v.tasks v.agent)) e
          (marks q);
      rest = later-rest s w.registered w.drawn.regions w.drawn.controlled h.rest;
    })
opened-found s who.Agent f w (Some t) e region not_left h =
    record {
      marks = opened-marks s who.Agent f w w.agent refl region not_left h;
      rest = later-rest s w.registered w.drawn.regions w.drawn.controlled h.rest;
    }

pub opened-tied : (s : List Told) (name : Who) (f : Frame) (w : World) → (nature f.mark).region ≡ Some (record { 0 = suc w.drawn.regions })
    → (nature f.mark).leaving ≡ false → Tied s w → Tied s (push name f (region_later w))
opened-tied s name f w region not_left h = opened-found s name f w (task_at w name) refl region not_left h

-- ---- objects are registered, finalized and assigned to

above_all : (o n : ℕ) → suc n < o → eqb o (suc n) ≡ false
above_all o n e = not_same o (suc n) e

pub registered-tied : (s : List Told) (r : RegionNo) (l : Located) (w : World) → Tied s w
    → Tied (added (suc w.drawn.controlled) r.0 ∷ s) (registered_as (suc w.drawn.controlled) r l w)
registered-tied s r l w h =
    let c = w.drawn.controlled in
    record {
      marks = h.marks;
      rest = record {
        leaving_drawn = h.rest.leaving_drawn;
        left_drawn = h.rest.left_drawn;
        none = h.rest.none;
        objects = ap (λ xs. (suc c, r.0) ∷ xs) h.rest.objects;
        live_drawn = λ o high. ap (λ t. t || is_live o (live s)) (above_all o c high) ∙ h.rest.live_drawn o (omega arith);
        regions_drawn = λ o high. ap (λ t. cond t (r.0 ∷ regions o s) (regions o s)) (above_all o c high) ∙ h.rest.regions_drawn o (omega arith);
        final_drawn = λ o high. h.rest.final_drawn o (omega arith);
      };
    }

pub registered-new : (s : List Told) (w : World) → Tied s w → (regions (suc w.drawn.controlled) s ≡ []) × (final (suc w.drawn.controlled) s ≡ false)
registered-new s w h = (h.rest.regions_drawn (suc w.drawn.controlled) (omega arith), h.rest.final_drawn (suc w.drawn.controlled) (omega arith))

eqb-same : (a b : ℕ) → eqb a b ≡ eqb b a
eqb-same a b = by_test (eqb a b) (λ t. ap (λ n. eqb n b) (eqb-true a b t) ∙ ap (λ n. eqb b n) (sym (eqb-true a b t))) (λ f. f ∙ sym (eqb-sym-false a b f))

-- the first that is registered in a region is its newest
pub record NewestOf (r : ℕ) (xs : List (ℕ × ℕ)) (o : ℕ) : Type 0 where
  pub rest : List ℕ
  pub shape : live_in r xs ≡ o ∷ rest

newest-step : (r : RegionNo) (y x : Registered) (ys : List Registered) (b : Bool) → eqb y.region.0 r.0 ≡ b → cond b (Some y) (find (of_region r) ys) ≡ Some x
    → (find (of_region r) ys ≡ Some x → NewestOf r.0 (map object_and_region ys) x.object) → NewestOf r.0 (map object_and_region (y ∷ ys)) x.object
newest-step r y x ys true is e onward =
    let same : y ≡ x = cc in
    let first = live_in r.0 (map object_and_region ys) in
    record {
      rest = first;
      shape = test-true (eqb r.0 y.region.0) (y.object ∷ first) first (eqb-same r.0 y.region.0 ∙ is) ∙ ap (λ (z : Registered). z.object ∷ first) same;
    }
newest-step r y x ys false is e onward =
    let more = onward e in
    let first = live_in r.0 (map object_and_region ys) in
    record { rest = more.rest; shape = test-false (eqb r.0 y.region.0) (y.object ∷ first) first (eqb-same r.0 y.region.0 ∙ is) ∙ more.shape }

newest-of : (r : RegionNo) (x : Registered) (ys : List Registered) → find (of_region r) ys ≡ Some x → NewestOf r.0 (map object_and_region ys) x.object
newest-of r x [] e = absurd cc
newest-of r x (y ∷ ys) e = newest-step r y x ys (eqb y.region.0 r.0) refl e (λ k. newest-of r x ys k)

none-step : (r : RegionNo) (y : Registered) (ys : List Registered) (b : Bool) → eqb y.region.0 r.0 ≡ b → cond b (Some y) (find (of_region r) ys) ≡ None
    → (find (of_region r) ys ≡ None → live_in r.0 (map object_and_region ys) ≡ []) → live_in r.0 (map object_and_region (y ∷ ys)) ≡ []
none-step r y ys true is e onward = absurd cc
none-step r y ys false is e onward =
    test-false (eqb r.0 y.region.0) (y.object ∷ live_in r.0 (map object_and_region ys)) (live_in r.0 (map object_and_region ys)) (eqb-same r.0 y.region.0 ∙ is)
    ∙ onward e

none-of : (r : RegionNo) (ys : List Registered) → find (of_region r) ys ≡ None → live_in r.0 (map object_and_region ys) ≡ []
none-of r [] e = refl
none-of r (y ∷ ys) e = none-step r y ys (eqb y.region.0 r.0) refl e (λ k. none-of r ys k)

pub nothing_registered : (s : List Told) (r : RegionNo) (w : World) → Tied s w → next_to_finalize w r ≡ None → live_in r.0 (live s) ≡ []
nothing_registered s r w h e = ap (live_in r.0) (sym h.rest.objects) ∙ none-of r w.registered e

pub finalizes-told : (s : List Told) (name : Who) (r : RegionNo) (x : Registered) (w : World) → RegionOnTop name w r true → Tied s w
    → next_to_finalize w r ≡ Some x → Finalizes s x.object
finalizes-told s name r x w t h e =
    let flag = (top-alone s name w r true t h).holds in
    let n = newest-of r x w.registered e in
    record { region = r.0; rest = n.rest; newest = ap (live_in r.0) (sym h.rest.objects) ∙ n.shape; leaving = flag.0; not_left = flag.1 }

others-step : (n : ℕ) (y : Registered) (left_over : List Registered) (os : List (ℕ × ℕ)) (b : Bool) → map object_and_region left_over ≡ os
    → map object_and_region (cond (not b) (y ∷ left_over) left_over) ≡ cond b os (object_and_region y ∷ os)
others-step n y left_over os true e = e
others-step n y left_over os false e = ap (λ xs. object_and_region y ∷ xs) e

others-registered : (n : ℕ) (ys : List Registered) → map object_and_region (without (is_number n) ys) ≡ others n (map object_and_region ys)
others-registered n [] = refl
others-registered n (y ∷ ys) = others-step n y (without (is_number n) ys) (others n (map object_and_region ys)) (eqb n y.object) (others-registered n ys)

pub finalized-tied : (s : List Told) (n : ℕ) (w : World) → is_live n (live s) ≡ true → Tied s w → Tied (finalized n ∷ s) (no_longer_registered n w)
finalized-tied s n w here h =
    record {
      marks = h.marks;
      rest = record {
        leaving_drawn = h.rest.leaving_drawn;
        left_drawn = h.rest.left_drawn;
        none = h.rest.none;
        objects = others-registered n w.registered ∙ ap (others n) h.rest.objects;
        live_drawn = λ o high. absent-others n o (live s) (h.rest.live_drawn o high);
        regions_drawn = h.rest.regions_drawn;
        final_drawn = λ o high. by_test (eqb o n)
            (λ t. absurd (let never : is_live n (live s) ≡ false = subst (λ k. is_live k (live s) ≡ false) (eqb-true o n t) (h.rest.live_drawn o high) in
            let no : true ≡ false = sym here ∙ never in cc))
            (λ f. ap (λ t. t || final o s) f ∙ h.rest.final_drawn o high);
      };
    }

live-step : (test : Registered → Bool) (y x : Registered) (ys : List Registered) (b : Bool) → cond b (Some y) (find test ys) ≡ Some x
    → (find test ys ≡ Some x → is_live x.object (map object_and_region ys) ≡ true) → is_live x.object (map object_and_region (y ∷ ys)) ≡ true
live-step test y x ys true e onward =
    let same : y ≡ x = cc in
    or_left (eqb x.object y.object) (is_live x.object (map object_and_region ys)) (eq-eqb x.object y.object (ap (λ (z : Registered). z.object) (sym same)))
live-step test y x ys false e onward = or_right (eqb x.object y.object) (is_live x.object (map object_and_region ys)) (onward e)

found-live : (test : Registered → Bool) (x : Registered) (ys : List Registered) → find test ys ≡ Some x → is_live x.object (map object_and_region ys) ≡ true
found-live test x [] e = absurd cc
found-live test x (y ∷ ys) e = live-step test y x ys (test y) e (λ k. found-live test x ys k)

pub registered-live : (s : List Told) (test : Registered → Bool) (x : Registered) (w : World) → Tied s w → find test w.registered ≡ Some x
    → is_live x.object (live s) ≡ true
registered-live s test x w h e = ap (is_live x.object) (sym h.rest.objects) ∙ found-live test x w.registered e

-- one that is assigned to stays what it was
pub assigned-tied : (s : List Told) (n : ℕ) (w : World) → Tied s w → Tied (assigned n ∷ s) w
assigned-tied s n w h = record {
  marks = h.marks;
  rest = record {
    leaving_drawn = h.rest.leaving_drawn;
    left_drawn = h.rest.left_drawn;
    none = h.rest.none;
    objects = h.rest.objects;
    live_drawn = h.rest.live_drawn;
    regions_drawn = h.rest.regions_drawn;
    final_drawn = h.rest.final_drawn;
  };
}
