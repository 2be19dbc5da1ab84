-- The `release` lines of a run are those of the instants of its history, each at its tick.
use Rattle.std.proofs.Common.{◌≡◌, ℕ, zero, suc, true, List, [], ◌∷◌, ◌++◌, Option, Some, None, refl, sym, ap, ◌∙◌, append-nil}
use Rattle.std.proofs.lemmas.Bool.{false≢true}
use Rattle.trace_text.specs.declared.events.Event.{Event}
use Rattle.trace_text.specs.declared.events.Event.TheVariants as line
use Rattle.trace_text.specs.declared.events.Ended.{Ended}
use Rattle.profile_image.specs.declared.image.Image.{Image}
use Rattle.profile_machine.specs.declared.world.World.{World}
use Rattle.profile_machine.specs.Instant.{instant}
use Rattle.profile_machine.specs.Run.{Ran, opening, stop, tock, at_tick, stopped, then_runs, run_from}
use Rattle.profile_machine.specs.Releases.{NamedHandler, released}
use Rattle.machine_laws.specs.LineKinds.{is_of_tock, AllAre}
use Rattle.machine_laws.proofs.LineLemmas.{tocks_say_ticks}
use Rattle.release_laws.specs.ReleaseLaws.{Passage, machine_of, passage, history_from, history, Account, first_account, account_behind}
use Rattle.release_laws.specs.ReleaseLaws.{HistoryOk, owed_in_all, with_release, releases_in, all_at, owed_by, RunsTellReleases}
use Rattle.release_laws.proofs.Untouched.{released-append}
use Rattle.release_laws.proofs.RunReleases.{opening-calm, runs_release}

-- ---- lines of one tick

with-append : (tick : ℕ) (event : Event) (rest more : List (ℕ × NamedHandler)) → with_release tick event (rest ++ more) ≡ with_release tick event rest ++ more
with-append tick (line.Release n object handler) rest more = refl
with-append tick _ rest more = refl

in-append : (xs ys : List (ℕ × Event)) → releases_in (xs ++ ys) ≡ releases_in xs ++ releases_in ys
in-append [] ys = refl
in-append (x ∷ xs) ys = ap (with_release x.0 x.1) (in-append xs ys) ∙ with-append x.0 x.1 (releases_in xs) (releases_in ys)

at-one : (tick : ℕ) (event : Event) (events : List Event) (rest : List (ℕ × NamedHandler)) → rest ≡ all_at tick (released events)
    → with_release tick event rest ≡ all_at tick (released (event ∷ events))
at-one tick (line.Release n object handler) events rest e = ap (λ rs. (tick, record { object = object; procedure = handler }) ∷ rs) e
at-one tick _ events rest e = e

at-tick : (tick : ℕ) (events : List Event) → releases_in (at_tick tick events) ≡ all_at tick (released events)
at-tick tick [] = refl
at-tick tick (x ∷ xs) = at-one tick x xs (releases_in (at_tick tick xs)) (at-tick tick xs)

-- ---- tocks release nothing

none-first : (x : Event) (xs : List Event) → is_of_tock x ≡ true → released xs ≡ [] → released (x ∷ xs) ≡ []
none-first (line.Release n object handler) xs e k = absurd (false≢true e)
none-first _ xs e k = k

none-released : (xs : List Event) → AllAre is_of_tock xs → released xs ≡ []
none-released [] h = refl
none-released (x ∷ xs) h = none-first x xs h.0 (none-released xs h.1)

-- ---- the lines of a history

in_history : List Passage → List (ℕ × NamedHandler)
in_history [] = []
in_history (x ∷ xs) = all_at x.before.time (released x.lines) ++ in_history xs

last-instant : (time : ℕ) (events : List Event) (reason : Ended) → releases_in (stopped time events reason).lines ≡ all_at time (released events)
last-instant time events reason =
    at-tick time (events ++ line.End reason ∷ []) ∙ ap (all_at time) (released-append events (line.End reason ∷ []) ∙ append-nil (released events))

one-instant : (p : Image) (w : World) (rest : Ran) →
    let i = instant p w in
    releases_in (then_runs w.time (i.1 ++ (tock p i.0).1) rest).lines ≡ all_at w.time (released i.1) ++ releases_in rest.lines
one-instant p w rest =
    let i = instant p w in
    let told = (tock p i.0).1 in
    in-append (at_tick w.time (i.1 ++ told)) rest.lines
    ∙ ap (λ rs. rs ++ releases_in rest.lines)
    (at-tick w.time (i.1 ++ told)
    ∙ ap (all_at w.time)
    (released-append i.1 told ∙ ap (λ rs. released i.1 ++ rs) (none-released told (tocks_say_ticks p i.0)) ∙ append-nil (released i.1)))

where-stopped : (p : Image) (w : World) (reason : Option Ended) (rest : Ran) (xs : List Passage) → releases_in rest.lines ≡ in_history xs
    → let i = instant p w in let x = passage (machine_of p) w in
    releases_in (elim reason as (λ _. Ran) [ Some r ↦ stopped w.time i.1 r | None ↦ then_runs w.time (i.1 ++ (tock p i.0).1) rest ]).lines
    ≡ in_history (elim reason as (λ _. List Passage) [ Some r ↦ x ∷ [] | None ↦ x ∷ xs ])
unfolding in_history
where-stopped p w (Some r) rest xs e = last-instant w.time (instant p w).1 r ∙ sym (append-nil (all_at w.time (released (instant p w).1)))
where-stopped p w None rest xs e = one-instant p w rest ∙ ap (λ rs. all_at w.time (released (instant p w).1) ++ rs) e

from-history : (fuel : ℕ) (p : Image) (bound : ℕ) (w : World)
    → releases_in (run_from fuel p bound w).lines ≡ in_history (history_from fuel (machine_of p) p bound w)
unfolding in_history
from-history zero p bound w = refl
from-history (suc fuel) p bound w =
    let next = (tock p (instant p w).0).0 in
    where-stopped p w (stop p bound (instant p w).0) (run_from fuel p bound next) (history_from fuel (machine_of p) p bound next)
    (from-history fuel p bound next)

-- ---- what the history owes

owed-history : (p : Image) (a : Account) (xs : List Passage) → HistoryOk p a xs → in_history xs ≡ owed_by p a xs
unfolding in_history
owed-history p a [] h = refl
owed-history p a (x ∷ xs) h =
    ap (λ hs. all_at x.before.time hs ++ in_history xs) h.0
    ∙ ap (λ rs. all_at x.before.time (owed_in_all p a x) ++ rs) (owed-history p (account_behind p a x) xs h.1)

pub runs_tell_releases : RunsTellReleases
runs_tell_releases p script bound =
    let o = opening p script in
    let rest = run_from (suc bound) p bound o.0 in
    in-append (at_tick 0 o.1) rest.lines
    ∙ ap (λ rs. rs ++ releases_in rest.lines) (at-tick 0 o.1 ∙ ap (all_at 0) (opening-calm p script).1)
    ∙ from-history (suc bound) p bound o.0
    ∙ owed-history p (first_account script) (history p script bound) (runs_release p script bound)
