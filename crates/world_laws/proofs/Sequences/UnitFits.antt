-- Each task that is made has a unit that begins plainly: what changes of tasks keep.
use Rattle.std.proofs.Common.{◌≡◌, Bool, true, false, cond, List, [], ◌∷◌, ◌++◌, Option, Some, None, find, filter, refl, sym, subst, ◌∙◌, unwrap_or}
use Rattle.trace_text.specs.declared.events.Who.{Who}
use Rattle.trace_text.specs.declared.events.Who.TheVariants as who
use Rattle.profile_image.specs.declared.image.Image.{Image}
use Rattle.profile_machine.specs.declared.world.World.{World}
use Rattle.profile_machine.specs.declared.world.tasks.Task.{Task}
use Rattle.profile_image.specs.Words.{set_where}
use Rattle.profile_image.specs.Program.{scope_of, task_unit_of}
use Rattle.profile_machine.specs.Tasks.{is_who, task_at, edit_task_found, edit_task}
use Rattle.profile_machine.specs.WellFormed.{begins_sequence}
use Rattle.world_laws.proofs.Sequences.FineMoves.{Fitting, AllFitting}
use Rattle.world_laws.proofs.Sequences.TaskEdits.{by_bool}
use Rattle.world_laws.proofs.Sequences.TaskNames.{found-first, found-later}

pub fitting-alone : (p : Image) (t u : Task) → u.state ≡ t.state → u.unit ≡ t.unit → Fitting p t → Fitting p u
fitting-alone p t u state unit h =
    λ e. subst (λ n. begins_sequence p (scope_of p (task_unit_of p (unwrap_or n (record { 0 = 0 }))).scope).first ≡ false) (sym unit) (h (sym state ∙ e))

set_fitting-step : (p : Image) (b : Bool) (y z : Task) (zs ys : List Task) → Fitting p y → Fitting p z → AllFitting p zs → AllFitting p ys
    → AllFitting p (cond b (y ∷ zs) (z ∷ ys))
set_fitting-step p true y z zs ys new old rest set = (new, rest)
set_fitting-step p false y z zs ys new old rest set = (old, set)

set_fitting : (p : Image) (test : Task → Bool) (y : Task) (xs : List Task) → Fitting p y → AllFitting p xs → AllFitting p (set_where test y xs)
set_fitting p test y [] new h = tt
set_fitting p test y (z ∷ zs) new h = set_fitting-step p (test z) y z zs (set_where test y zs) new h.0 h.1 (set_fitting p test y zs new h.1)

found_fitting : (p : Image) (test : Task → Bool) (xs : List Task) (x : Task) → find test xs ≡ Some x → AllFitting p xs → Fitting p x
found_fitting p test [] x e h = absurd (let never : None ≡ Some x = e in cc)
found_fitting p test (z ∷ zs) x e h =
    by_bool (test z)
    (λ is. subst (Fitting p) (found-first x z (find test zs) (test z) e is) h.0)
    (λ none. found_fitting p test zs x (found-later x z (find test zs) (test z) e none) h.1)

edited_found-fitting : (p : Image) (name : Who) (f : Task → Task) (w : World) (found : Option Task) → task_at w name ≡ found
    → ((t : Task) → Fitting p t → Fitting p (f t)) → AllFitting p w.tasks → AllFitting p (edit_task_found name f w found).tasks
edited_found-fitting p name f w None is keeps h = h
edited_found-fitting p (who.Task n) f w (Some t) is keeps h =
    set_fitting p (is_who (who.Task n)) (f t) w.tasks (keeps t (found_fitting p (is_who (who.Task n)) w.tasks t is h)) h
edited_found-fitting p who.Agent f w (Some t) is keeps h = h

pub edited-fitting : (p : Image) (name : Who) (f : Task → Task) (w : World) → ((t : Task) → Fitting p t → Fitting p (f t)) → AllFitting p w.tasks
    → AllFitting p (edit_task name f w).tasks
edited-fitting p name f w keeps h = edited_found-fitting p name f w (task_at w name) refl keeps h

rest-fitting : (p : Image) (b : Bool) (t : Task) (ts : List Task) → Fitting p t → AllFitting p ts → AllFitting p (cond b (t ∷ ts) ts)
rest-fitting p true t ts h rest = (h, rest)
rest-fitting p false t ts h rest = rest

pub filter-fitting : (p : Image) (test : Task → Bool) (ts : List Task) → AllFitting p ts → AllFitting p (filter test ts)
filter-fitting p test [] h = tt
filter-fitting p test (t ∷ ts) h = rest-fitting p (test t) t (filter test ts) h.0 (filter-fitting p test ts h.1)

pub added-fitting : (p : Image) (t : Task) (ts : List Task) → Fitting p t → AllFitting p ts → AllFitting p (ts ++ t ∷ [])
added-fitting p t [] new h = (new, tt)
added-fitting p t (u ∷ us) new h = (h.0, added-fitting p t us new h.1)
