-- What comes about beside the effect of who acts leaves everybody at or below its active priority: its lines are of one part, and
-- place each who becomes ready at the active priority that it then has.
use Rattle.ceiling_laws.proofs.Places.EditLemmas.{active-plain, active-same, edit-others, inherit-rises}
use Rattle.ceiling_laws.proofs.Places.PartOrder.{last_put-append, by_test}
use Rattle.ceiling_laws.proofs.Places.QueueLemmas.{effects_place_by_the_last}
use Rattle.ceiling_laws.specs.PlaceLaws.{AreAtMostActive, IsAtMost, OthersKeepPlaces, level_shown}
use Rattle.ceiling_laws.specs.Puts.{last_put, place_by, puts, with_put}
use Rattle.ceiling_laws.proofs.Runs.FreeMoves.{any_task, any_world}
use Rattle.ceiling_laws.proofs.Runs.Kept.Instant.{OtherMoves}
use Rattle.ceiling_laws.proofs.Runs.Kept.Waking.{who-is}
use Rattle.ceiling_laws.proofs.Runs.LevelMoves.{Silences, is_apart, said_so}
use Rattle.ceiling_laws.proofs.Runs.RunLemmas.{Others, Settles, behind_onward}
use Rattle.ceiling_laws.proofs.Runs.Triples.{Ends, Keeps, Leads, State, With, from-leads}
use Rattle.ceiling_laws.proofs.Places.ActingLemmas.{at_most-risen, with-none}
use Rattle.ceiling_laws.specs.RunLaws.{levels_told}
use Rattle.machine_laws.proofs.Moves.{lines_of}
use Rattle.profile_machine.specs.Dispatching.{active, active_of, deadline_shown, grant_quantum, granted, keep_level, level_kept_by, ready, says_ready, to_tail}
use Rattle.profile_machine.specs.Inheritance.{inherit, same_cause}
use Rattle.profile_machine.specs.Instant.{budgets_due, events_due, moments_due, quantum_spent, script_items, timers_due}
use Rattle.profile_image.specs.Program.{edf_low, is_robin_level}
use Rattle.profile_machine.specs.Scopes.{end_scope}
use Rattle.profile_machine.specs.Steps.{is_part_before, placed_by, ◌▶◌}
use Rattle.profile_machine.specs.Tasks.{edit_task, task_of, with_state}
use Rattle.profile_image.specs.Words.{same_who}
use Rattle.profile_image.specs.declared.image.Image.{Image}
use Rattle.profile_machine.specs.declared.world.World.{World}
use Rattle.profile_machine.specs.declared.world.lines.Line.{Line}
use Rattle.profile_machine.specs.declared.world.lines.Line.TheVariants as line
use Rattle.profile_machine.specs.declared.world.lines.Part.{Part}
use Rattle.profile_machine.specs.declared.world.lines.Part.TheVariants.{Own}
use Rattle.profile_machine.specs.declared.world.lines.Said.{Said}
use Rattle.profile_machine.specs.declared.world.tasks.Cause.{Cause}
use Rattle.profile_machine.specs.declared.world.tasks.Cause.TheVariants as inherited_by
use Rattle.profile_machine.specs.declared.world.tasks.State.TheVariants.{Runnable}
use Rattle.profile_machine.specs.declared.world.tasks.Task.{Task}
use Rattle.std.proofs.Common.{Bool, List, None, Option, Some, [], ap, cond, false, le_refl, refl, subst, sym, true, ℕ, ℤ, ◌&&◌, ◌++◌, ◌∙◌, ◌∷◌, ◌≡◌, ◌≤◌}
use Rattle.std.specs.Prelude.{eqb, slice_index_or}
use Rattle.line_laws.proofs.Ticks.LineByLine.{Follow, seen_behind}
use Rattle.line_laws.proofs.Leaving.TaskLemmas.{same_self}
use Rattle.trace_text.specs.Laws.{Levels, see_levels}
use Rattle.trace_text.specs.declared.events.Event.{Event}
use Rattle.trace_text.specs.declared.events.QueueEnd.{QueueEnd}
use Rattle.trace_text.specs.declared.events.Who.{Who}
use Rattle.trace_text.specs.declared.events.Who.TheVariants as who

-- what was said last of somebody is of the own part
abbrev pub OwnPut : Option (Part × Option ℕ) → Type 0
OwnPut None = Unit {0}
OwnPut (Some r) = r.0 ≡ Own

abbrev Lowly : ℕ → Option ℕ → Option (Part × Option ℕ) → Type 0
Lowly level shown last = OwnPut last × IsAtMost (place_by last shown) level

-- everybody stands at or below its active priority, as far as the lines go
Low : Image → Levels → State
Low p s w said = (n : Who) → Lowly (active_of p w n) (level_shown n s) (last_put n said)

lowly-risen : (shown : Option ℕ) (last : Option (Part × Option ℕ)) (a b : ℕ) → a ≤ b → Lowly a shown last → Lowly b shown last
lowly-risen shown last a b up h = (h.0, at_most-risen (place_by last shown) a b up h.1)

-- ---- lines

pub puts-apart : (n : Who) (x : Line) → is_apart x ≡ false → puts n x ≡ None
puts-apart n (line.Ready name level end deadline) e = absurd cc
puts-apart n (line.Block name waits) e = absurd cc
puts-apart n (line.Done t) e = absurd cc
puts-apart n _ e = refl

pub unsaid : (n : Who) (said : List Said) (part : Part) (x : Line) → puts n x ≡ None → last_put n (said ++ said_so part x ∷ []) ≡ last_put n said
unsaid n said part x e = last_put-append n said (said_so part x) ∙ ap (with_put (last_put n said) part) e ∙ with-none (last_put n said) part

own-placed : (part : Part) (place : Option ℕ) (level : ℕ) (shown : Option ℕ) → part ≡ Own
    → Lowly level shown (cond (is_part_before Own part) (Some (part, place)) (Some (Own, Some level)))
own-placed part place level shown is =
    subst (λ q. Lowly level shown (cond (is_part_before Own q) (Some (q, place)) (Some (Own, Some level)))) (sym is) (refl, le_refl level)

placed-so : (last : Option (Part × Option ℕ)) (level : ℕ) (shown : Option ℕ) → OwnPut last → Lowly level shown (with_put last Own (Some (Some level)))
placed-so None level shown own = (refl, le_refl level)
placed-so (Some last) level shown own = own-placed last.0 last.1 level shown own

ready-puts : (name : Who) (level : ℕ) (end : QueueEnd) (deadline : Option ℤ) → puts name (line.Ready name level end deadline) ≡ Some (Some level)
ready-puts name level end deadline = ap (λ b. cond b (Some (Some level)) None) (same_self name)

ready-other : (n name : Who) (level : ℕ) (end : QueueEnd) (deadline : Option ℤ) → same_who n name ≡ false → puts n (line.Ready name level end deadline) ≡ None
ready-other n name level end deadline apart = ap (λ b. cond b (Some (Some level)) None) apart

module _ (p : Image) (s : Levels) where
  low-says : (part : Part) (x : Line) (w : World) (said : List Said) → ((n : Who) → puts n x ≡ None) → Low p s w said → Low p s w (said ++ said_so part x ∷ [])
  unfolding Low
  low-says part x w said none h = λ n. subst (Lowly (active_of p w n) (level_shown n s)) (sym (unsaid n said part x (none n))) (h n)

  low-same : (a b : World) (said : List Said) → ((n : Who) → active_of p b n ≡ active_of p a n) → Low p s a said → Low p s b said
  unfolding Low
  low-same a b said same h = λ n. subst (λ level. Lowly level (level_shown n s) (last_put n said)) (sym (same n)) (h n)

  low_quiet : Silences (Low p s)
  low_quiet = record {
    silently = λ a b said same h. low-same a b said (λ n. active-same p a b n same) h;
    says = λ part x w said other h. low-says part x w said (λ n. puts-apart n x other) h;
    ends_scope = λ id w said h. low-same w (end_scope id w) said (λ n. active-plain p w (end_scope id w) n refl refl) h;
  }

  low-inherits : (name : Who) (cause : Cause) (level : ℕ) (w : World) (said : List Said) → same_cause inherited_by.Activation cause ≡ false → Low p s w said
      → Low p s (inherit name cause level w) said
  unfolding Low
  low-inherits name cause level w said other h =
      λ n. lowly-risen (level_shown n s) (last_put n said) (active_of p w n) (active_of p (inherit name cause level w) n) (inherit-rises p name cause level w n)
      (h n)

  -- somebody is placed in a world in which all others are as they were
  own-line : (name : Who) (end : QueueEnd) (deadline : Option ℤ) (w : World) (said : List Said) → OwnPut (last_put name said)
      → Lowly (active_of p w name) (level_shown name s) (last_put name (said ++ said_so Own (line.Ready name (active_of p w name) end deadline) ∷ []))
  own-line name end deadline w said own =
      let x = line.Ready name (active_of p w name) end deadline in
      subst (Lowly (active_of p w name) (level_shown name s))
      (sym (last_put-append name said (said_so Own x) ∙ ap (with_put (last_put name said) Own) (ready-puts name (active_of p w name) end deadline)))
      (placed-so (last_put name said) (active_of p w name) (level_shown name s) own)

  other-line : (n name : Who) (end : QueueEnd) (level : ℕ) (deadline : Option ℤ) (a b : World) (said : List Said) → same_who n name ≡ false
      → active_of p b n ≡ active_of p a n → Lowly (active_of p a n) (level_shown n s) (last_put n said)
      → Lowly (active_of p b n) (level_shown n s) (last_put n (said ++ said_so Own (line.Ready name level end deadline) ∷ []))
  other-line n name end level deadline a b said apart same h =
      subst (Lowly (active_of p b n) (level_shown n s))
      (sym (unsaid n said Own (line.Ready name level end deadline) (ready-other n name level end deadline apart)))
      (subst (λ l. Lowly l (level_shown n s) (last_put n said)) (sym same) h)

  line-placed : (name : Who) (end : QueueEnd) (deadline : Option ℤ) (a b : World) (said : List Said)
      → ((n : Who) → same_who n name ≡ false → active_of p b n ≡ active_of p a n) → Low p s a said
      → Low p s b (said ++ said_so Own (line.Ready name (active_of p b name) end deadline) ∷ [])
  unfolding Low
  line-placed name end deadline a b said others h = λ n.
      by_test (same_who n name)
      (λ t. subst (λ k. Lowly (active_of p b k) (level_shown k s) (last_put k (said ++ said_so Own (line.Ready name (active_of p b name) end deadline) ∷ [])))
      (sym (who-is n name t)) (own-line name end deadline b said (h name).0))
      (λ apart. other-line n name end (active_of p b name) deadline a b said apart (others n apart) (h n))

  says_ready-low : (name : Who) (end : QueueEnd) (a b : World) (said : List Said) → ((n : Who) → same_who n name ≡ false → active_of p b n ≡ active_of p a n)
      → Low p s a said → Ends (Low p s) (says_ready p Own name end b said)
  unfolding says_ready Ends
  says_ready-low name end a b said others h = line-placed name end (deadline_shown p (task_of b name)) a b said others h

  granted-who : (test : Bool) (n : ℕ) (t : Task) → (cond test (record t { quantum = n }) t).who ≡ t.who
  granted-who true n t = refl
  granted-who false n t = refl

  grant-others : (name : Who) (w : World) (n : Who) → same_who n name ≡ false → active_of p (grant_quantum p name w) n ≡ active_of p w n
  grant-others name w n apart =
      edit-others p name (granted p w.quanta) w n
      (λ t. granted-who (eqb (active p t) t.base && is_robin_level p t.base) (slice_index_or w.quanta t.base 0) t) apart

  keep-others : (name : Who) (w : World) (n : Who) → same_who n name ≡ false → active_of p (keep_level p name w) n ≡ active_of p w n
  keep-others name w n apart = edit-others p name (λ t. record t { kept_level = level_kept_by p w t (edf_low p t.base) }) w n (λ t. refl) apart

  tail-low : (name : Who) (end : QueueEnd) (a w : World) (said : List Said) → ((n : Who) → same_who n name ≡ false → active_of p w n ≡ active_of p a n)
      → Low p s a said → Ends (Low p s) (says_ready p Own name end (grant_quantum p name w) said)
  tail-low name end a w said others h = says_ready-low name end a (grant_quantum p name w) said (λ n apart. grant-others name w n apart ∙ others n apart) h

  low_tails : (name : Who) → Keeps (Low p s) (to_tail p Own name)
  unfolding to_tail
  low_tails name = record { runs = λ w said h. tail-low name _ w w said (λ n apart. refl) h }

  ready-others : (name : Who) (w : World) (n : Who) → same_who n name ≡ false
      → active_of p (keep_level p name (edit_task name (with_state Runnable) w)) n ≡ active_of p w n
  ready-others name w n apart =
      keep-others name (edit_task name (with_state Runnable) w) n apart ∙ edit-others p name (with_state Runnable) w n (λ t. refl) apart

  low_readies : (name : Who) → Keeps (Low p s) (ready p Own name)
  unfolding ready to_tail
  low_readies name = record {
    runs = λ w said h. tail-low name _ w (keep_level p name (edit_task name (with_state Runnable) w)) said (λ n apart. ready-others name w n apart) h;
  }

  low_wakes : (part : Part) (name : Who) → part ≡ Own → Leads (With (Low p s) (λ w. any_world w name)) (Low p s) (ready p part name)
  low_wakes part name is =
      subst (λ q. Leads (With (Low p s) (λ w. any_world w name)) (Low p s) (ready p q name)) (sym is)
      (from-leads (ready p Own name) (λ w said h. h.0) (low_readies name))

  low_others : OtherMoves p any_world any_task (Low p s)
  low_others = record {
    base = record {
      quiet = low_quiet;
      inherits = low-inherits;
      sleeps = λ w name is. tt;
      sleeps_on = λ a b name same k. tt;
      sleeps_behind = λ id w name k. tt;
      sleeps_heir = λ heir cause level w name k. tt;
      wakes = low_wakes;
    };
    drawn = λ v said t h e. tt;
    drawn_on = λ a b t same k. tt;
    readies = λ t. from-leads (ready p Own (who.Task t)) (λ w said h. h.0) (low_readies (who.Task t));
    tails = λ t. from-leads (to_tail p Own (who.Task t)) (λ w said h. h.0) (low_tails (who.Task t));
  }

  low-starts : (w : World) → AreAtMostActive p s w → Low p s w []
  unfolding Low
  low-starts w h = λ n. (tt, h n)

-- ---- an effect is over

abbrev pub any_event : Levels → Event → Bool
any_event sight event = true

pub any_follow : (sight : Levels) (lines : List Event) → Follow see_levels any_event sight lines
any_follow sight [] = tt
any_follow sight (x ∷ xs) = (refl, any_follow (see_levels sight x) xs)

pub seen-told : (sight : Levels) (lines : List Event) → seen_behind see_levels any_event sight lines ≡ levels_told sight lines
seen-told sight [] = refl
seen-told sight (x ∷ xs) = seen-told (see_levels sight x) xs

module _ (p : Image) where
  abbrev pub Shows : Levels → World → Type 0
  Shows sight w = AreAtMostActive p sight w

  low-over : (sight : Levels) (v : World) (xs : List Said) → Low p sight v xs
      → AreAtMostActive p (seen_behind see_levels any_event sight (lines_of p xs)) (placed_by (lines_of p xs) v)
  unfolding Low
  low-over sight v xs h = λ n.
      subst (λ s. IsAtMost (level_shown n s) (active_of p (placed_by (lines_of p xs) v) n)) (sym (seen-told sight (lines_of p xs)))
      (subst (λ place. IsAtMost place (active_of p (placed_by (lines_of p xs) v) n)) (sym (effects_place_by_the_last p v xs sight n))
      (subst (IsAtMost (place_by (last_put n xs) (level_shown n sight))) (sym (active-plain p v (placed_by (lines_of p xs) v) n refl refl)) (h n).1))

  low_settles : (sight : Levels) → Settles see_levels any_event Shows p sight (Low p sight)
  low_settles sight v xs h = record { follow = any_follow sight (lines_of p xs); shows = low-over sight v xs h }

  beside : Others see_levels any_event Shows p
  beside sight = (Low p sight, any_world, any_task, low_others p sight, low-starts p sight, low_settles sight)

pub others_keep_places : OthersKeepPlaces
others_keep_places p w sight h =
    let behind = (script_items p ▶ events_due p ▶ moments_due p ▶ timers_due p ▶ budgets_due p ▶ quantum_spent p) w in
    subst (λ s. AreAtMostActive p s behind.0) (seen-told sight behind.1) (behind_onward see_levels any_event (Shows p) (beside p) sight w h).shows
