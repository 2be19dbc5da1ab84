-- What lines show one after another; and a tock shows nobody elsewhere.
use Rattle.ceiling_laws.proofs.Places.EditLemmas.{active-same}
use Rattle.ceiling_laws.specs.PlaceLaws.{IsAtMost, TocksKeepPlaces, level_in, level_shown}
use Rattle.ceiling_laws.proofs.Runs.TockLemmas.{tock-same}
use Rattle.ceiling_laws.specs.RunLaws.{levels_told}
use Rattle.machine_laws.proofs.LineLemmas.{tocks_say_ticks}
use Rattle.machine_laws.specs.LineKinds.{AllAre, is_of_tock}
use Rattle.profile_machine.specs.Dispatching.{active_of}
use Rattle.profile_machine.specs.Run.{tock}
use Rattle.std.proofs.Common.{refl, subst, sym, ◌∙◌, ◌≡◌}
use Rattle.std.specs.Prelude.{List, [], true, ◌++◌, ◌∷◌}
use Rattle.trace_text.specs.Laws.{Levels, see_levels}
use Rattle.trace_text.specs.Queue.{entry_of, queue_after}
use Rattle.trace_text.specs.declared.events.Entry.{Entry}
use Rattle.trace_text.specs.declared.events.Event.{Event}
use Rattle.trace_text.specs.declared.events.Event.TheVariants as written

pub levels-append : (sight : Levels) (xs ys : List Event) → levels_told sight (xs ++ ys) ≡ levels_told (levels_told sight xs) ys
levels-append sight [] ys = refl
levels-append sight (x ∷ xs) ys = levels-append (see_levels sight x) xs ys

-- ---- a tock

tock_line-entries : (queue : List Entry) (event : Event) → is_of_tock event ≡ true → queue_after queue event ≡ queue
tock_line-entries queue (written.Ready name level end deadline) e = absurd cc
tock_line-entries queue (written.Block name why) e = absurd cc
tock_line-entries queue (written.Done t) e = absurd cc
tock_line-entries queue _ e = refl

pub tock_lines-entries : (sight : Levels) (lines : List Event) → AllAre is_of_tock lines → (levels_told sight lines).entries ≡ sight.entries
tock_lines-entries sight [] a = refl
tock_lines-entries sight (x ∷ xs) a = tock_lines-entries (see_levels sight x) xs a.1 ∙ tock_line-entries sight.entries x a.0

pub tocks_keep_places : TocksKeepPlaces
tocks_keep_places p w sight h = λ n.
    subst (λ queue. IsAtMost (level_in (entry_of n queue)) (active_of p (tock p w).0 n)) (sym (tock_lines-entries sight (tock p w).1 (tocks_say_ticks p w)))
    (subst (IsAtMost (level_shown n sight)) (sym (active-same p w (tock p w).0 n (tock-same p w))) (h n))
