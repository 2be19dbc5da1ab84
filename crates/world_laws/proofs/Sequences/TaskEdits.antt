-- What somebody goes on with behind an edit of its task.
use Rattle.std.proofs.Common.{◌≡◌, ℕ, Bool, true, false, cond, List, [], ◌∷◌, Option, Some, None}
use Rattle.std.proofs.Common.{find, refl, sym, ap, subst, ◌∙◌, eq-eqb, ◌⊎◌, inl, inr, unwrap_or}
use Rattle.std.proofs.lemmas.Bool.{eqb-true}
use Rattle.std.proofs.lemmas.Bool.{false≢true}
use Rattle.trace_text.specs.declared.events.Who.{Who}
use Rattle.trace_text.specs.declared.events.Who.TheVariants as who
use Rattle.profile_image.specs.declared.image.Image.{Image}
use Rattle.profile_machine.specs.declared.run_data.Leaving.{Leaving}
use Rattle.profile_machine.specs.declared.world.World.{World}
use Rattle.profile_machine.specs.declared.world.marks.Frame.{Frame}
use Rattle.profile_machine.specs.declared.world.tasks.Task.{Task}
use Rattle.profile_image.specs.Words.{same_who, set_where}
use Rattle.profile_machine.specs.Tasks.{nobody, is_who, task_at, task_of, edit_task_found, edit_task, with_frames}
use Rattle.profile_machine.specs.Frames.{edit_first, edit_top, push, left_so, onward_of}
use Rattle.profile_machine.specs.WellFormed.{begins_sequence}
use Rattle.world_laws.proofs.Sequences.FineMoves.{onward_in}

pub who-self : (a : Who) → same_who a a ≡ true
who-self who.Agent = refl
who-self (who.Task t) = eq-eqb t.0 t.0 refl

pub who-same : (a b : Who) → same_who a b ≡ true → a ≡ b
who-same (who.Task a) (who.Task b) e = ap (λ (n : ℕ). who.Task (record { 0 = n })) (eqb-true a.0 b.0 e)
who-same (who.Task a) who.Agent e = absurd (false≢true e)
who-same who.Agent (who.Task b) e = absurd (false≢true e)
who-same who.Agent who.Agent e = refl

-- ---- a task that is set in a list

found-who : (n : Who) (x z : Task) (rest : Option Task) (b : Bool) → is_who n z ≡ b → cond b (Some z) rest ≡ Some x → (rest ≡ Some x → is_who n x ≡ true)
    → is_who n x ≡ true
found-who n x z rest true is e onward = let one : z ≡ x = cc in subst (λ v. is_who n v ≡ true) one is
found-who n x z rest false is e onward = onward e

-- who is found has the name that was sought
pub found_named : (n : Who) (x : Task) (xs : List Task) → find (is_who n) xs ≡ Some x → is_who n x ≡ true
found_named n x [] e = absurd (let never : None ≡ Some x = e in cc)
found_named n x (z ∷ zs) e = found-who n x z (find (is_who n) zs) (is_who n z) refl e (λ k. found_named n x zs k)

set-step : (n : Who) (y z : Task) (zs : List Task) (b : Bool) → is_who n z ≡ b → is_who n y ≡ true
    → (b ≡ false → find (is_who n) (set_where (is_who n) y zs) ≡ Some y) → find (is_who n) (cond b (y ∷ zs) (z ∷ set_where (is_who n) y zs)) ≡ Some y
set-step n y z zs true is named onward = ap (λ t. cond t (Some y) (find (is_who n) zs)) named
set-step n y z zs false is named onward = ap (λ t. cond t (Some z) (find (is_who n) (set_where (is_who n) y zs))) is ∙ onward refl

set-rest : (n : Who) (x z : Task) (rest : Option Task) (b : Bool) → is_who n z ≡ b → cond b (Some z) rest ≡ Some x → b ≡ false → rest ≡ Some x
set-rest n x z rest true is e none = absurd (false≢true (sym none))
set-rest n x z rest false is e none = e

-- it is found again, with the same name
pub set-found : (n : Who) (x y : Task) (xs : List Task) → find (is_who n) xs ≡ Some x → y.who ≡ x.who → find (is_who n) (set_where (is_who n) y xs) ≡ Some y
set-found n x y [] e same = absurd (let never : None ≡ Some x = e in cc)
set-found n x y (z ∷ zs) e same =
    set-step n y z zs (is_who n z) refl (ap (same_who n) same ∙ found_named n x (z ∷ zs) e)
    (λ none. set-found n x y zs (set-rest n x z (find (is_who n) zs) (is_who n z) refl e none) same)

pub by_bool : {X : Type 0} (b : Bool) → (b ≡ true → X) → (b ≡ false → X) → X
by_bool true f g = f refl
by_bool false f g = g refl

same-apart : (n m : Who) → same_who n m ≡ false → same_who m n ≡ false
same-apart n m e = by_bool (same_who m n) (λ t. absurd (false≢true (sym e ∙ subst (λ k. same_who n k ≡ true) (sym (who-same m n t)) (who-self n)))) (λ t. t)

differ : (n m : Who) (z : Task) → same_who n m ≡ false → is_who n z ≡ true → is_who m z ≡ false
differ n m z apart is = let one : n ≡ z.who = who-same n z.who is in subst (λ k. same_who m k ≡ false) one (same-apart n m apart)

-- others are found as before
first-other : (m : Who) (y z : Task) (zs : List Task) → is_who m y ≡ is_who m z → is_who m z ≡ false → find (is_who m) (y ∷ zs) ≡ find (is_who m) (z ∷ zs)
first-other m y z zs same apart = ap (λ t. cond t (Some y) (find (is_who m) zs)) (same ∙ apart) ∙ sym (ap (λ t. cond t (Some z) (find (is_who m) zs)) apart)

rest-same : (n : Who) (x y z : Task) (rest : Option Task) (b : Bool) → cond b (Some z) rest ≡ Some x → y.who ≡ x.who → b ≡ true → y.who ≡ z.who
rest-same n x y z rest true e same is = let one : z ≡ x = cc in same ∙ sym (ap (λ t. t.who) one)
rest-same n x y z rest false e same is = absurd (false≢true is)

set-other : (n m : Who) (x y : Task) (xs : List Task) → same_who n m ≡ false → find (is_who n) xs ≡ Some x → y.who ≡ x.who
    → find (is_who m) (set_where (is_who n) y xs) ≡ find (is_who m) xs
set-other n m x y [] apart e same = absurd (let never : None ≡ Some x = e in cc)
set-other n m x y (z ∷ zs) apart e same =
    by_bool (is_who n z)
    (λ is. subst (λ b. find (is_who m) (cond b (y ∷ zs) (z ∷ set_where (is_who n) y zs)) ≡ find (is_who m) (z ∷ zs)) (sym is)
    (first-other m y z zs (ap (same_who m) (rest-same n x y z (find (is_who n) zs) (is_who n z) e same is)) (differ n m z apart is)))
    (λ none. subst (λ b. find (is_who m) (cond b (y ∷ zs) (z ∷ set_where (is_who n) y zs)) ≡ find (is_who m) (z ∷ zs)) (sym none)
    (ap (λ f. cond (is_who m z) (Some z) f) (set-other n m x y zs apart (set-rest n x z (find (is_who n) zs) (is_who n z) refl e none) same)))

-- ---- a task of a world that is edited

found-own : (n : Who) (f : Task → Task) (xs : List Task) (t : Task) → find (is_who n) xs ≡ Some t → (f t).who ≡ t.who
    → unwrap_or (find (is_who n) (set_where (is_who n) (f t) xs)) nobody ≡ f (unwrap_or (find (is_who n) xs) nobody)
found-own n f xs t is same = ap (λ o. unwrap_or o nobody) (set-found n t (f t) xs is same) ∙ sym (ap (λ o. f (unwrap_or o nobody)) is)

own-found : (name : Who) (f : Task → Task) (w : World) (found : Option Task) → task_at w name ≡ found → ((t : Task) → (f t).who ≡ t.who)
    → (task_of (edit_task_found name f w found) name ≡ f (task_of w name)) ⊎ ((edit_task_found name f w found ≡ w) × (task_of w name ≡ nobody))
own-found name f w None is same = inr (refl, ap (λ o. unwrap_or o nobody) is)
own-found (who.Task n) f w (Some t) is same = inl (found-own (who.Task n) f w.tasks t is (same t))
own-found who.Agent f w (Some t) is same = inl (let one : w.agent ≡ t = cc in ap f (sym one))

-- the task that is edited, or nobody is there
pub edited-own : (name : Who) (f : Task → Task) (w : World) → ((t : Task) → (f t).who ≡ t.who)
    → (task_of (edit_task name f w) name ≡ f (task_of w name)) ⊎ ((edit_task name f w ≡ w) × (task_of w name ≡ nobody))
edited-own name f w same = own-found name f w (task_at w name) refl same

other-found : (name b : Who) (f : Task → Task) (w : World) (found : Option Task) → task_at w name ≡ found → ((t : Task) → (f t).who ≡ t.who)
    → same_who name b ≡ false → task_of (edit_task_found name f w found) b ≡ task_of w b
other-found name b f w None is same apart = refl
other-found (who.Task n) (who.Task m) f w (Some t) is same apart =
    ap (λ o. unwrap_or o nobody) (set-other (who.Task n) (who.Task m) t (f t) w.tasks apart is (same t))
other-found (who.Task n) who.Agent f w (Some t) is same apart = refl
other-found who.Agent (who.Task m) f w (Some t) is same apart = refl
other-found who.Agent who.Agent f w (Some t) is same apart = absurd (false≢true (sym apart))

pub edited-other : (name b : Who) (f : Task → Task) (w : World) → ((t : Task) → (f t).who ≡ t.who) → same_who name b ≡ false
    → task_of (edit_task name f w) b ≡ task_of w b
edited-other name b f w same apart = other-found name b f w (task_at w name) refl same apart

-- ---- what somebody goes on with

pub onward-nobody : (w : World) (name : Who) → task_of w name ≡ nobody → onward_of w name ≡ None
onward-nobody w name is = ap (λ t. onward_in t.frames) is

begins-none : (p : Image) (w : World) (name : Who) → task_of w name ≡ nobody → begins_sequence p (onward_of w name) ≡ false
begins-none p w name is = ap (begins_sequence p) (onward-nobody w name is)

-- behind an edit of marks, where what they then go on with is plain
edited-plain : (p : Image) (name : Who) (f : List Frame → List Frame) (w : World) → begins_sequence p (onward_in (f (task_of w name).frames)) ≡ false
    → (task_of (edit_task name (λ t. with_frames (f t.frames) t) w) name ≡ with_frames (f (task_of w name).frames) (task_of w name))
    ⊎ ((edit_task name (λ t. with_frames (f t.frames) t) w ≡ w) × (task_of w name ≡ nobody))
    → begins_sequence p (onward_of (edit_task name (λ t. with_frames (f t.frames) t) w) name) ≡ false
edited-plain p name f w plain (inl is) = ap (λ t. begins_sequence p (onward_in t.frames)) is ∙ plain
edited-plain p name f w plain (inr gone) = ap (λ v. begins_sequence p (onward_of v name)) gone.0 ∙ begins-none p w name gone.1

pub frames_edited-plain : (p : Image) (name : Who) (f : List Frame → List Frame) (w : World) → begins_sequence p (onward_in (f (task_of w name).frames)) ≡ false
    → begins_sequence p (onward_of (edit_task name (λ t. with_frames (f t.frames) t) w) name) ≡ false
frames_edited-plain p name f w plain = edited-plain p name f w plain (edited-own name (λ t. with_frames (f t.frames) t) w (λ t. refl))

pub onward-pushed : (p : Image) (name : Who) (f : Frame) (w : World) → begins_sequence p f.onward ≡ false
    → begins_sequence p (onward_of (push name f w) name) ≡ false
onward-pushed p name f w plain = frames_edited-plain p name (λ fs. f ∷ fs) w plain

left-onward : (leaving : Leaving) (fs : List Frame) → onward_in (edit_first (left_so leaving) fs) ≡ None
left-onward leaving [] = refl
left-onward leaving (f ∷ fs) = refl

pub onward-left : (p : Image) (name : Who) (leaving : Leaving) (w : World) → begins_sequence p (onward_of (edit_top name (left_so leaving) w) name) ≡ false
onward-left p name leaving w =
    frames_edited-plain p name (edit_first (left_so leaving)) w (ap (begins_sequence p) (left-onward leaving (task_of w name).frames))

-- an edit that leaves marks alone
alone-plain : (p : Image) (name : Who) (f : Task → Task) (w : World) → ((t : Task) → (f t).frames ≡ t.frames) → begins_sequence p (onward_of w name) ≡ false
    → (task_of (edit_task name f w) name ≡ f (task_of w name)) ⊎ ((edit_task name f w ≡ w) × (task_of w name ≡ nobody))
    → begins_sequence p (onward_of (edit_task name f w) name) ≡ false
alone-plain p name f w same plain (inl is) =
    ap (λ t. begins_sequence p (onward_in t.frames)) is ∙ ap (λ fs. begins_sequence p (onward_in fs)) (same (task_of w name)) ∙ plain
alone-plain p name f w same plain (inr gone) = ap (λ v. begins_sequence p (onward_of v name)) gone.0 ∙ plain

pub onward-edited : (p : Image) (name : Who) (f : Task → Task) (w : World) → ((t : Task) → (f t).who ≡ t.who) → ((t : Task) → (f t).frames ≡ t.frames)
    → begins_sequence p (onward_of w name) ≡ false → begins_sequence p (onward_of (edit_task name f w) name) ≡ false
onward-edited p name f w who_same same plain = alone-plain p name f w same plain (edited-own name f w who_same)
