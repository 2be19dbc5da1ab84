-- Where no task stirs, none is struck, and none waits at an open terminate alternative.
use Rattle.std.proofs.Common.{◌≡◌, Bool, true, false, not, cond, ◌||◌, ◌&&◌, List, [], ◌∷◌, filter, map, refl, ap, ◌∙◌}
use Rattle.std.proofs.Common.{Option, Some, None, unwrap_or}
use Rattle.std.specs.List.{list_any, find}
use Rattle.profile_machine.specs.declared.world.World.{World}
use Rattle.profile_machine.specs.declared.world.tasks.Task.{Task}
use Rattle.profile_machine.specs.declared.world.tasks.Waiting.{Waiting}
use Rattle.profile_machine.specs.declared.world.lines.Said.{Said}
use Rattle.profile_machine.specs.declared.world.lines.Part.TheVariants.{TheBlock}
use Rattle.profile_image.specs.declared.image.Image.{Image}
use Rattle.trace_text.specs.declared.events.Who.{Who}
use Rattle.profile_machine.specs.Steps.{done, goes_on_with, looks, when, for_each, ◌▷◌}
use Rattle.profile_machine.specs.Tasks.{waiting_of, is_who, nobody}
use Rattle.ann_base.specs.declared.identities.TaskNo.{TaskNo}
use Rattle.trace_text.specs.declared.events.Who.TheVariants as who
use Rattle.profile_machine.specs.Dispatching.{says_block}
use Rattle.profile_machine.specs.Masters.{leave_by_terminate, waits_at_terminate}
use Rattle.profile_machine.specs.Tasking.{block_at_terminate, take_terminates, unwind_all, unwind_one}
use Rattle.profile_machine.specs.Masters.{is_at_terminate, is_region_being_left, all_at_terminate, masters_of, may_terminate}
use Rattle.profile_machine.specs.Unwinding.{any_struck}
use Rattle.machine_tasking.specs.KeptTasks.{kept_of}
use Rattle.machine_tasking.specs.Calm.{stirs, IsCalm}

-- an item is left out, and so are all behind it
halves : {X : Type 0} (s t a : Bool) (y : X) (ys : List X) → (s ≡ false → t ≡ false) → (a ≡ false → ys ≡ []) → (s || a) ≡ false → cond t (y ∷ ys) ys ≡ []
halves true t a y ys f g e = cc
halves false true a y ys f g e = let h = f refl in cc
halves false false a y ys f g e = g e

left_out : {X : Type 0} (test stirring : X → Bool) → ((x : X) → stirring x ≡ false → test x ≡ false) → (xs : List X) → list_any stirring xs ≡ false
    → filter test xs ≡ []
left_out test stirring k [] e = refl
left_out test stirring k (x ∷ xs) e = halves (stirring x) (test x) (list_any stirring xs) x (filter test xs) (k x) (left_out test stirring k xs) e

is_false : (b : Bool) → not b ≡ true → b ≡ false
is_false true e = cc
is_false false e = refl

first_false : (a b : Bool) → (a || b) ≡ false → a ≡ false
first_false true b e = cc
first_false false b e = refl

second_false : (a b c : Bool) → (a || b) ≡ false → (b && c) ≡ false
second_false true b c e = cc
second_false false true c e = cc
second_false false false c e = refl

pub none_struck : (ts : List Task) → IsCalm ts → map kept_of (filter (λ t. any_struck t.frames) ts) ≡ []
none_struck ts e =
    ap (map kept_of)
    (left_out (λ t. any_struck t.frames) stirs (λ t. first_false (any_struck t.frames) (is_at_terminate t)) ts (is_false (list_any stirs ts) e))

pub none_terminate : (w : World) (ts : List Task) → IsCalm ts → map kept_of (filter (may_terminate w) ts) ≡ []
none_terminate w ts e =
    ap (map kept_of)
    (left_out (may_terminate w) stirs
    (λ t. second_false (any_struck t.frames) (is_at_terminate t) (list_any (λ r. is_region_being_left w r && all_at_terminate w r) (masters_of w t))) ts
    (is_false (list_any stirs ts) e))

-- ---- where no task stirs, an effect brings about nothing elsewhere

none_may : (w : World) (ts : List Task) → IsCalm ts → filter (may_terminate w) ts ≡ []
none_may w ts e =
    left_out (may_terminate w) stirs
    (λ t. second_false (any_struck t.frames) (is_at_terminate t) (list_any (λ r. is_region_being_left w r && all_at_terminate w r) (masters_of w t))) ts
    (is_false (list_any stirs ts) e)

none_is_struck : (ts : List Task) → IsCalm ts → filter (λ t. any_struck t.frames) ts ≡ []
none_is_struck ts e =
    left_out (λ t. any_struck t.frames) stirs (λ t. first_false (any_struck t.frames) (is_at_terminate t)) ts (is_false (list_any stirs ts) e)

no_block : (name : Who) (x : Option Waiting) (w : World) (said : List Said) → waits_at_terminate x ≡ false
    → block_at_terminate name x w said ≡ done w said
unfolding block_at_terminate
no_block name None w said e = refl
no_block name (Some waiting) w said e = ap (λ b. when b (says_block TheBlock name waiting) w said) e

none_terminates : (p : Image) (name : Who) (w : World) (said : List Said) → IsCalm w.tasks
    → waits_at_terminate (waiting_of w name) ≡ false → take_terminates p name w said ≡ done w said
unfolding take_terminates
none_terminates p name w said e f =
    ap (λ ts. goes_on_with (looks (λ v. block_at_terminate name (waiting_of v name))) (for_each ts (leave_by_terminate p name) w said)) (none_may w w.tasks e)
    ∙ no_block name (waiting_of w name) w said f

none_is_unwound : (p : Image) (name : Who) (w : World) (said : List Said) → IsCalm w.tasks
    → unwind_all p name w said ≡ done w said
unfolding unwind_all
none_is_unwound p name w said e = ap (λ ts. for_each ts (unwind_one p name) w said) (none_is_struck w.tasks e)

pub nothing_elsewhere : (p : Image) (name : Who) (w : World) (said : List Said) → IsCalm w.tasks
    → waits_at_terminate (waiting_of w name) ≡ false → (take_terminates p name ▷ unwind_all p name) w said ≡ done w said
nothing_elsewhere p name w said e f =
    ap (goes_on_with (unwind_all p name)) (none_terminates p name w said e f) ∙ none_is_unwound p name w said e

-- ---- where no task stirs, none waits at an open terminate alternative

second_is_false : (a b : Bool) → (a || b) ≡ false → b ≡ false
second_is_false true b e = cc
second_is_false false b e = e

either : (b : Bool) (t : Task) (found : Option Task) → is_at_terminate t ≡ false → is_at_terminate (unwrap_or found nobody) ≡ false
    → is_at_terminate (unwrap_or (cond b (Some t) found) nobody) ≡ false
either true t found e f = e
either false t found e f = f

none_waits : (test : Task → Bool) (ts : List Task) → list_any stirs ts ≡ false → is_at_terminate (unwrap_or (find test ts) nobody) ≡ false
none_waits test [] e = refl
none_waits test (t ∷ ts) e =
    either (test t) t (find test ts) (second_is_false (any_struck t.frames) (is_at_terminate t) (first_false (stirs t) (list_any stirs ts) e))
    (none_waits test ts (second_is_false (stirs t) (list_any stirs ts) e))

pub waits_elsewhere : (w : World) (t : TaskNo) → IsCalm w.tasks → waits_at_terminate (waiting_of w (who.Task t)) ≡ false
waits_elsewhere w t e = none_waits (is_who (who.Task t)) w.tasks (is_false (list_any stirs w.tasks) e)

pub ruleset calm_laws = (none_struck, none_terminate)
