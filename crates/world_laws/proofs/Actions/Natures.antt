-- What a mark is for protected actions, whatever else is edited in it.
use Rattle.std.proofs.Common.{◌≡◌, ℕ, Bool, true, false, ◌||◌, List, [], ◌∷◌, Option, Some, None, refl, ap, sym, ◌∙◌}
use Rattle.std.specs.Prelude.{is_some}
use Rattle.std.specs.List.{list_any}
use Rattle.std.proofs.lemmas.Bool.{false≢true}
use Rattle.ann_base.specs.declared.identities.CallNo.{CallNo}
use Rattle.ann_base.specs.declared.identities.ObjectNo.{ObjectNo}
use Rattle.ann_base.specs.declared.identities.RegionNo.{RegionNo}
use Rattle.profile_machine.specs.declared.world.marks.Frame.{Frame}
use Rattle.profile_machine.specs.declared.world.marks.Mark.{Mark}
use Rattle.profile_machine.specs.declared.world.marks.Mark.TheVariants.{Scope, Handled, InProtected, InAccept, Abortable, InInitialize, InFinalize, InAssign}
use Rattle.profile_image.specs.Words.{same_object, same_region, is_the}
use Rattle.profile_machine.specs.Frames.{is_protected, any_protected}
use Rattle.profile_machine.specs.Tasking.{is_task_scope}
use Rattle.profile_machine.specs.WellFormed.{is_mark_of}

-- its region, the object of its action, the release and the call of its own that end with it, and whether no action is open below it
pub record Nature : Type 0 where
  pub region : Option RegionNo
  pub action : Option ObjectNo
  pub release : Option ℕ
  pub own : Option CallNo
  pub floor : Bool

abbrev pub plain : Nature
plain = record { region = None; action = None; release = None; own = None; floor = false }

abbrev pub nature : Mark → Nature
nature (Scope m) = record { region = m.region; action = None; release = None; own = None; floor = is_task_scope m.purpose }
nature (Handled s) = plain
nature (InProtected m) = record {
  region = None;
  action = Some m.object;
  release = m.release;
  own = m.own_call;
  floor = is_some m.own_call || is_some m.release;
}
nature (InAccept m) = plain
nature (Abortable m) = record { region = None; action = None; release = None; own = None; floor = true }
nature (InInitialize l) = plain
nature (InFinalize o) = plain
nature (InAssign m) = plain

abbrev pub natures : List Frame → List Nature
natures [] = []
natures (f ∷ fs) = nature f.mark ∷ natures fs

-- whether an action is open
abbrev pub guards : List Nature → Bool
guards ns = list_any (λ n. is_some n.action) ns

-- whether one is open on an object
abbrev pub is_on : ObjectNo → Option ObjectNo → Bool
is_on o None = false
is_on o (Some x) = same_object o x

abbrev pub marks : ObjectNo → List Nature → Bool
marks o [] = false
marks o (n ∷ ns) = is_on o n.action || marks o ns

-- whether one is a region's
abbrev pub in_region : RegionNo → List Nature → Bool
in_region r [] = false
in_region r (n ∷ ns) = is_the same_region n.region r || in_region r ns

-- ---- the same as tests of frames

is_protected-is : (m : Mark) → is_protected m ≡ is_some (nature m).action
is_protected-is (Scope m) = refl
is_protected-is (Handled s) = refl
is_protected-is (InProtected m) = refl
is_protected-is (InAccept m) = refl
is_protected-is (Abortable m) = refl
is_protected-is (InInitialize l) = refl
is_protected-is (InFinalize o) = refl
is_protected-is (InAssign m) = refl

pub any_protected-is : (fs : List Frame) → any_protected fs ≡ guards (natures fs)
any_protected-is [] = refl
any_protected-is (f ∷ fs) = ap (λ b. b || any_protected fs) (is_protected-is f.mark) ∙ ap (λ b. is_some (nature f.mark).action || b) (any_protected-is fs)

-- a mark that is no action
pub no_action : (m : Mark) → is_protected m ≡ false → (nature m).action ≡ None
no_action (Scope m) e = refl
no_action (Handled s) e = refl
no_action (InProtected m) e = absurd (false≢true (sym e))
no_action (InAccept m) e = refl
no_action (Abortable m) e = refl
no_action (InInitialize l) e = refl
no_action (InFinalize o) e = refl
no_action (InAssign m) e = refl

is_mark_of-is : (o : ObjectNo) (m : Mark) → is_mark_of o m ≡ is_on o (nature m).action
is_mark_of-is o (Scope m) = refl
is_mark_of-is o (Handled s) = refl
is_mark_of-is o (InProtected m) = refl
is_mark_of-is o (InAccept m) = refl
is_mark_of-is o (Abortable m) = refl
is_mark_of-is o (InInitialize l) = refl
is_mark_of-is o (InFinalize n) = refl
is_mark_of-is o (InAssign m) = refl

pub action_mark-is : (o : ObjectNo) (fs : List Frame) → list_any (λ f. is_mark_of o f.mark) fs ≡ marks o (natures fs)
action_mark-is o [] = refl
action_mark-is o (f ∷ fs) =
    ap (λ b. b || list_any (λ g. is_mark_of o g.mark) fs) (is_mark_of-is o f.mark) ∙ ap (λ b. is_on o (nature f.mark).action || b) (action_mark-is o fs)

-- ---- where none is open

none-step : (o : ObjectNo) (a : Option ObjectNo) (g m : Bool) → (is_some a || g) ≡ false → (g ≡ false → m ≡ false) → (is_on o a || m) ≡ false
none-step o None g m e k = k e
none-step o (Some x) g m e k = absurd (false≢true (sym e))

pub marks-none : (o : ObjectNo) (ns : List Nature) → guards ns ≡ false → marks o ns ≡ false
marks-none o [] e = refl
marks-none o (n ∷ ns) e = none-step o n.action (guards ns) (marks o ns) e (marks-none o ns)

-- one that is no action on top
pub guards-plain : (n : Nature) (ns : List Nature) → n.action ≡ None → guards (n ∷ ns) ≡ guards ns
guards-plain n ns e = ap (λ a. is_some a || guards ns) e

pub marks-plain : (o : ObjectNo) (n : Nature) (ns : List Nature) → n.action ≡ None → marks o (n ∷ ns) ≡ marks o ns
marks-plain o n ns e = ap (λ a. is_on o a || marks o ns) e
