-- The scopes of the marks of a task: their numbers from the top, and whether each is the task's own scope.
use Rattle.std.proofs.Common.{◌≡◌, ℕ, Bool, true, false, cond, not, ◌&&◌, List, [], ◌∷◌, Option, Some, None, refl, sym, ap, ◌∙◌}
use Rattle.std.specs.Prelude.{is_some}
use Rattle.trace_text.specs.declared.events.Who.{Who}
use Rattle.profile_machine.specs.declared.world.scopes.ScopeId.{ScopeId}
use Rattle.profile_machine.specs.declared.world.marks.Frame.{Frame}
use Rattle.profile_machine.specs.declared.world.tasks.Task.{Task}
use Rattle.world_tables.specs.Lists.{first_of, rest_of}
use Rattle.profile_machine.specs.Frames.{is_protected}
use Rattle.profile_machine.specs.Scopes.{id_in}
use Rattle.world_laws.proofs.Scopes.FineMoves.{Nature, nature, natures, is_task_mark}
use Rattle.world_laws.proofs.Scopes.ScopeKeys.{Key}

-- the number of a mark's scope, and whether it is a task's own
abbrev pub Own : Type 0
Own = ℕ × Bool

abbrev pub with_own : Option ScopeId → Bool → List Own → List Own
with_own None b ms = ms
with_own (Some id) b ms = (id.0, b) ∷ ms

abbrev pub owns_in : List Nature → List Own
owns_in [] = []
owns_in (n ∷ ns) = with_own n.id n.task (owns_in ns)

abbrev pub marks_of : Task → List Own
marks_of t = owns_in (natures t.frames)

abbrev pub keys_by : Who → List Own → List Key
keys_by name [] = []
keys_by name (m ∷ ms) = (name, m.0) ∷ keys_by name ms

abbrev pub task_keys : Task → List Key
task_keys t = keys_by t.who (marks_of t)

-- a task's own scope is the last
abbrev pub bottomed : List Own → Bool
bottomed [] = true
bottomed (m ∷ []) = true
bottomed (m ∷ n ∷ ms) = not m.1 && bottomed (n ∷ ms)

-- a protected action stands above all scopes
abbrev pub shielded : List Nature → Bool
shielded [] = false
shielded (n ∷ ns) = cond n.action true (cond (is_some n.id) false (shielded ns))

-- ---- where a mark without a scope begins and ends

pub opened-owns : (f : Frame) (fs : List Frame) → (nature f.mark).id ≡ None → owns_in (natures (f ∷ fs)) ≡ owns_in (natures fs)
opened-owns f fs none = ap (λ x. with_own x (is_task_mark f.mark) (owns_in (natures fs))) none

either-shielded : (action : Bool) (id : Option ScopeId) (rest : Bool) → id ≡ None → rest ≡ true → cond action true (cond (is_some id) false rest) ≡ true
either-shielded true id rest none e = refl
either-shielded false id rest none e = ap (λ x. cond (is_some x) false rest) none ∙ e

pub opened-shielded : (f : Frame) (fs : List Frame) → (nature f.mark).id ≡ None → shielded (natures fs) ≡ true → shielded (natures (f ∷ fs)) ≡ true
opened-shielded f fs none e = either-shielded (is_protected f.mark) (id_in f.mark) (shielded (natures fs)) none e

pub popped-owns : (f : Frame) (fs : List Frame) → first_of fs ≡ Some f → id_in f.mark ≡ None → owns_in (natures (rest_of fs)) ≡ owns_in (natures fs)
popped-owns f [] top none = refl
popped-owns f (g ∷ fs) top none = let same : g ≡ f = cc in sym (opened-owns g fs (ap (λ (x : Frame). id_in x.mark) same ∙ none))

below-shielded : (action : Bool) (id : Option ScopeId) (rest : Bool) → action ≡ false → id ≡ None → cond action true (cond (is_some id) false rest) ≡ true
    → rest ≡ true
below-shielded action id rest plain none e = sym (ap (λ a. cond a true (cond (is_some id) false rest)) plain ∙ ap (λ x. cond (is_some x) false rest) none) ∙ e

pub popped-shielded : (f : Frame) (fs : List Frame) → first_of fs ≡ Some f → is_protected f.mark ≡ false → id_in f.mark ≡ None → shielded (natures fs) ≡ true
    → shielded (natures (rest_of fs)) ≡ true
popped-shielded f [] top plain none e = e
popped-shielded f (g ∷ fs) top plain none e =
    let same : g ≡ f = cc in
    below-shielded (is_protected g.mark) (id_in g.mark) (shielded (natures fs)) (ap (λ (x : Frame). is_protected x.mark) same ∙ plain)
    (ap (λ (x : Frame). id_in x.mark) same ∙ none) e

-- ---- where a mark with a scope begins and ends

pub with_own-some : (x : Option ScopeId) (id : ScopeId) (b : Bool) (ms : List Own) → x ≡ Some id → with_own x b ms ≡ (id.0, b) ∷ ms
with_own-some x id b ms e = ap (λ y. with_own y b ms) e

pub ended-owns : (f : Frame) (id : ScopeId) (fs : List Frame) → first_of fs ≡ Some f → id_in f.mark ≡ Some id
    → owns_in (natures fs) ≡ (id.0, is_task_mark f.mark) ∷ owns_in (natures (rest_of fs))
ended-owns f id [] top e = absurd cc
ended-owns f id (g ∷ fs) top e =
    let same : g ≡ f = cc in
    with_own-some (id_in g.mark) id (is_task_mark g.mark) (owns_in (natures fs)) (ap (λ (x : Frame). id_in x.mark) same ∙ e)
    ∙ ap (λ (x : Frame). (id.0, is_task_mark x.mark) ∷ owns_in (natures fs)) same
