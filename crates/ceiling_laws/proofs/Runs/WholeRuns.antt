-- The law of ceilings of a whole run, from what its lines place before each instant.
use Rattle.ceiling_laws.specs.CeilingLaws.{edf_is_below_interrupts}
use Rattle.ceiling_laws.proofs.Runs.CeilingLemmas.{ceilings_are_told}
use Rattle.ceiling_laws.proofs.Runs.DeadlineLemmas.{deadlines_are_of_tasks}
use Rattle.ceiling_laws.proofs.Runs.EnterMoves.{instants_keep_ceilings, opening_keeps_ceilings, tocks_keep_ceilings}
use Rattle.ceiling_laws.proofs.Runs.ShownPlaces.{who_acts_is_shown}
use Rattle.ceiling_laws.proofs.Places.TockPlaces.{levels-append}
use Rattle.ceiling_laws.specs.RunLaws.{AreCeilingsShown, ArePlaced, PlacesKeepCeilings, ShowsPlace, ShowsRunner}
use Rattle.ceiling_laws.specs.RunLaws.{Tells, ceilings_told, keep_ceilings, levels_told, told_first, told_on}
use Rattle.profile_machine.specs.Dispatching.{active_of}
use Rattle.profile_machine.specs.Instant.{instant, is_over}
use Rattle.profile_machine.specs.Run.{Ran, at_tick, opening, run_from, run_of, stop, tock}
use Rattle.profile_machine.specs.Tasks.{nobody, task_at, task_of}
use Rattle.profile_image.specs.declared.image.Image.{Image}
use Rattle.profile_image.specs.declared.script_items.Item.{Item}
use Rattle.profile_machine.specs.declared.world.World.{World}
use Rattle.profile_machine.specs.declared.world.tasks.Task.{Task}
use Rattle.std.proofs.Common.{ap, refl, subst, sym, ◌∙◌, ◌≡◌}
use Rattle.std.specs.Prelude.{List, None, Option, Some, [], suc, true, zero, ℕ, ℤ, ◌++◌, ◌∷◌, ◌≤◌, unwrap_or}
use Rattle.std.proofs.lemmas.Bool.{and_from, and_parts}
use Rattle.trace_text.proofs.LawsFollowed.{lines_hold}
use Rattle.trace_text.specs.Laws.{Levels, is_below_ceiling, no_levels, see_levels}
use Rattle.trace_text.specs.Queue.{entry_of, follows_lines}
use Rattle.trace_text.specs.declared.events.Ended.{Ended}
use Rattle.trace_text.specs.declared.events.Entry.{Entry}
use Rattle.trace_text.specs.declared.events.Event.{Event}
use Rattle.trace_text.specs.declared.events.Event.TheVariants as written
use Rattle.trace_text.specs.declared.events.Who.{Who}
use Rattle.machine_laws.proofs.RunLemmas.{turn}

-- ---- what lines show, line by line

ceilings-levels : (sight : Levels) (lines : List Event) → (levels_told sight lines).ceilings ≡ ceilings_told sight.ceilings lines
ceilings-levels sight [] = refl
ceilings-levels sight (x ∷ xs) = ceilings-levels (see_levels sight x) xs

keep-end : (sight : Levels) (xs : List Event) (reason : Ended) → keep_ceilings sight xs ≡ true → keep_ceilings sight (xs ++ written.End reason ∷ []) ≡ true
keep-end sight [] reason h = refl
keep-end sight (x ∷ xs) reason h =
    let parts = and_parts (is_below_ceiling sight x) (keep_ceilings (see_levels sight x) xs) h in
    and_from (is_below_ceiling sight x) (keep_ceilings (see_levels sight x) (xs ++ written.End reason ∷ [])) parts.0
    (keep-end (see_levels sight x) xs reason parts.1)

keep-append : (sight : Levels) (xs ys : List Event) → keep_ceilings sight xs ≡ true → keep_ceilings (levels_told sight xs) ys ≡ true
    → keep_ceilings sight (xs ++ ys) ≡ true
keep-append sight [] ys h k = k
keep-append sight (x ∷ xs) ys h k =
    let parts = and_parts (is_below_ceiling sight x) (keep_ceilings (see_levels sight x) xs) h in
    and_from (is_below_ceiling sight x) (keep_ceilings (see_levels sight x) (xs ++ ys)) parts.0 (keep-append (see_levels sight x) xs ys parts.1 k)

kept-alone : (n : ℕ) (sight : Levels) (xs : List Event) → keep_ceilings sight xs ≡ true → follows_lines see_levels is_below_ceiling sight (at_tick n xs) ≡ true
kept-alone n sight [] h = refl
kept-alone n sight (x ∷ xs) h =
    let parts = and_parts (is_below_ceiling sight x) (keep_ceilings (see_levels sight x) xs) h in
    and_from (is_below_ceiling sight x) (follows_lines see_levels is_below_ceiling (see_levels sight x) (at_tick n xs)) parts.0
    (kept-alone n (see_levels sight x) xs parts.1)

kept-then : (n : ℕ) (sight : Levels) (xs : List Event) (rest : List (ℕ × Event)) → keep_ceilings sight xs ≡ true
    → follows_lines see_levels is_below_ceiling (levels_told sight xs) rest ≡ true
    → follows_lines see_levels is_below_ceiling sight (at_tick n xs ++ rest) ≡ true
kept-then n sight [] rest h k = k
kept-then n sight (x ∷ xs) rest h k =
    let parts = and_parts (is_below_ceiling sight x) (keep_ceilings (see_levels sight x) xs) h in
    and_from (is_below_ceiling sight x) (follows_lines see_levels is_below_ceiling (see_levels sight x) (at_tick n xs ++ rest)) parts.0
    (kept-then n (see_levels sight x) xs rest parts.1 k)

-- ---- who acts

task-there : (found : Option Task) → is_over (unwrap_or found nobody).ticks_left ≡ true → found ≡ Some (unwrap_or found nobody)
task-there None e = absurd cc
task-there (Some x) e = refl

place-shown : (p : Image) (script : List (ℤ × Item)) (bound : ℕ) (lines : List Event) (w : World) → edf_is_below_interrupts p ≡ true
    → Tells p script bound lines w
    → (name : Who) → w.ran ≡ Some name → is_over (task_of w name).ticks_left ≡ true
    → ((entry : Entry) → entry_of name (levels_told no_levels lines).entries ≡ Some entry → entry.level ≤ active_of p w name)
    → ShowsPlace p w name (levels_told no_levels lines)
place-shown p script bound lines w low told name ran over placed =
    let shown = who_acts_is_shown p script bound lines w told name ran in
    record {
      entry = shown.0;
      found = shown.1;
      level = placed shown.0 shown.1;
      base = λ deadline is.
          let of_task = deadlines_are_of_tasks p script bound lines w low told name shown.0 deadline shown.1 is in
          (of_task.0, of_task.1 (task_of w name) (task-there (task_at w name) over));
    }

runner-shown : (p : Image) (script : List (ℤ × Item)) (bound : ℕ) (lines : List Event) (w : World) → edf_is_below_interrupts p ≡ true → ArePlaced p script bound
    → Tells p script bound lines w
    → ShowsRunner p w (levels_told no_levels lines)
runner-shown p script bound lines w low placed told =
    λ name ran over. place-shown p script bound lines w low told name ran over (placed lines w told name ran over)

instant-keeps : (p : Image) (script : List (ℤ × Item)) (bound : ℕ) (lines : List Event) (w : World) → edf_is_below_interrupts p ≡ true
    → ArePlaced p script bound → Tells p script bound lines w
    → keep_ceilings (levels_told no_levels lines) (instant p w).1 ≡ true
instant-keeps p script bound lines w low placed told =
    instants_keep_ceilings p w (levels_told no_levels lines)
    (subst (λ c. AreCeilingsShown c w.objects) (sym (ceilings-levels no_levels lines)) (ceilings_are_told p script bound lines w told).0)
    (runner-shown p script bound lines w low placed told)

-- ---- a run

turn-keeps : (now : ℕ) (sight : Levels) (i t : World × List Event) (rest : Ran) (reason : Option Ended) → keep_ceilings sight i.1 ≡ true
    → keep_ceilings (levels_told sight i.1) t.1 ≡ true
    → (reason ≡ None → follows_lines see_levels is_below_ceiling (levels_told (levels_told sight i.1) t.1) rest.lines ≡ true)
    → follows_lines see_levels is_below_ceiling sight (turn now i t rest reason).lines ≡ true
unfolding turn
turn-keeps now sight i t rest (Some reason) h k onward = kept-alone now sight (i.1 ++ written.End reason ∷ []) (keep-end sight i.1 reason h)
turn-keeps now sight i t rest None h k onward =
    kept-then now sight (i.1 ++ t.1) rest.lines (keep-append sight i.1 t.1 h k)
    (subst (λ s. follows_lines see_levels is_below_ceiling s rest.lines ≡ true) (sym (levels-append sight i.1 t.1)) (onward refl))

run_from-keeps : (fuel : ℕ) (p : Image) (script : List (ℤ × Item)) (bound : ℕ) (lines : List Event) (w : World) → edf_is_below_interrupts p ≡ true
    → ArePlaced p script bound → Tells p script bound lines w
    → follows_lines see_levels is_below_ceiling (levels_told no_levels lines) (run_from fuel p bound w).lines ≡ true
unfolding turn
run_from-keeps zero p script bound lines w low placed told = refl
run_from-keeps (suc fuel) p script bound lines w low placed told =
    let i = instant p w in
    let t = tock p i.0 in
    let sight = levels_told no_levels lines in
    turn-keeps w.time sight i t (run_from fuel p bound t.0) (stop p bound i.0) (instant-keeps p script bound lines w low placed told)
    (tocks_keep_ceilings p i.0 (levels_told sight i.1))
    (λ going. subst (λ s. follows_lines see_levels is_below_ceiling s (run_from fuel p bound t.0).lines ≡ true)
    (levels-append no_levels (lines ++ i.1) t.1 ∙ ap (λ s. levels_told s t.1) (levels-append no_levels lines i.1))
    (run_from-keeps fuel p script bound ((lines ++ i.1) ++ t.1) t.0 low placed (told_on lines w told going)))

pub places_keep_ceilings : PlacesKeepCeilings
places_keep_ceilings p script bound low placed =
    let o = opening p script in
    lines_hold see_levels is_below_ceiling no_levels (run_of p script bound)
    (kept-then 0 no_levels o.1 (run_from (suc bound) p bound o.0).lines (opening_keeps_ceilings p script no_levels)
    (run_from-keeps (suc bound) p script bound o.1 o.0 low placed told_first))
