-- What of a world stays sound: its tasks bear numbers of tasks, each another, and only numbers that were drawn; for no other task a
-- moment is appointed; and the agent bears its name and was activated by nobody.
use Rattle.ann_base.specs.declared.identities.TaskNo.{TaskNo}
use Rattle.world_laws.proofs.Places.ActingMoves.{AreApart}
use Rattle.ceiling_laws.proofs.Fine.Cores.{Core, Same, core}
use Rattle.ceiling_laws.specs.Cores.{is_delayed}
use Rattle.profile_machine.specs.Appointments.{appoint, is_delay_of}
use Rattle.profile_machine.specs.Masters.{forget_task}
use Rattle.profile_machine.specs.Tasking.{add_task}
use Rattle.profile_machine.specs.Tasks.{edit_task, edit_task_found, is_who, nobody, task_at, task_of}
use Rattle.profile_machine.specs.WellFormed.{number_in}
use Rattle.profile_image.specs.Words.{same_task, same_who}
use Rattle.profile_machine.specs.declared.world.World.{World}
use Rattle.profile_machine.specs.declared.world.appointments.Due.TheVariants as due_for
use Rattle.profile_machine.specs.declared.world.tasks.Task.{Task}
use Rattle.std.proofs.Common.{ap, arith, cond, inl, inr, map, refl, subst, sym, ◌++◌, ◌||◌, ◌∙◌, ◌∷◌, ◌≡◌, ◌⊎◌}
use Rattle.std.specs.List.{list_any}
use Rattle.std.specs.Prelude.{List, None, Option, Some, [], eqb, false, find, leb, suc, true, ℕ, ℤ, unwrap_or}
use Rattle.trace_text.specs.declared.events.Who.{Who}
use Rattle.trace_text.specs.declared.events.Who.TheVariants as who
use Rattle.ceiling_laws.proofs.Runs.Kept.Waking.{found-each, who-is}
use Rattle.ceiling_laws.proofs.Runs.LevelMoves.{EachTask}
use Rattle.ceiling_laws.proofs.Runs.SameLemmas.{set_where-seen}
use Rattle.ceiling_laws.proofs.Places.SoundWorlds.{IsThere, Known, NamesFrom, Unactivated, drawn-on, each-on, earlier-low, found_as, is_agent, is_fresh}
use Rattle.ceiling_laws.proofs.Places.SoundWorlds.{later-apart, names_behind, put-either, whose, whose-append, never, names_without, head-known}

-- ---- each task of the list is found by its name

tail-known : (n : Who) (low drawn : ℕ) (t : Task) (ts : List Task) (ns : List Who) → t.who ≡ n → NamesFrom low drawn (n ∷ ns)
    → ((l : ℕ) → NamesFrom l drawn ns → EachTask (Known l drawn ts) ts) → EachTask (Known low drawn (t ∷ ts)) ts
tail-known (who.Task k) low drawn t ts ns is h onward =
    each-on (Known (suc k.0) drawn ts) (Known low drawn (t ∷ ts)) ts (λ u known. record {
      found = ap (λ b. cond b (Some t) (find (is_who u.who) ts)) (later-apart k.0 t.who u.who known.behind_it is) ∙ known.found;
      drawn_before = known.drawn_before;
      behind_it = earlier-low low k.0 u.who h.0 known.behind_it;
      no_agent = known.no_agent;
    }) (onward (suc k.0) h.1)
tail-known who.Agent low drawn t ts ns is h onward = never h

each-known : (low drawn : ℕ) (ts : List Task) → NamesFrom low drawn (map whose ts) → EachTask (Known low drawn ts) ts
each-known low drawn [] h = tt
each-known low drawn (t ∷ ts) h = (
  head-known t.who low drawn t ts (map whose ts) refl h,
  tail-known t.who low drawn t ts (map whose ts) refl h (λ l k. each-known l drawn ts k),
)

-- ---- a world

pub record Sound (w : World) : Type 0 where
  pub names : NamesFrom 0 w.drawn.tasks (map whose w.tasks)
  pub named : w.agent.who ≡ who.Agent
  pub agent : Unactivated w.agent.inherited
  pub delays : (t : TaskNo) → is_delayed t w ≡ true → is_fresh w.drawn.tasks (who.Task t) ≡ false

map-whose : (ts : List Task) → map (λ (c : Core). c.who) (map core ts) ≡ map whose ts
map-whose [] = refl
map-whose (t ∷ ts) = ap (λ ns. t.who ∷ ns) (map-whose ts)

same-whose : (a b : World) → Same a b → map whose b.tasks ≡ map whose a.tasks
same-whose a b same = sym (map-whose b.tasks) ∙ ap (map (λ (c : Core). c.who)) same.tasks ∙ map-whose a.tasks

pub sound-same : (a b : World) → Same a b → Sound a → Sound b
sound-same a b same h = record {
  names = subst (λ d. NamesFrom 0 d (map whose b.tasks)) (sym same.drawn_tasks) (subst (NamesFrom 0 a.drawn.tasks) (sym (same-whose a b same)) h.names);
  named = ap (λ (c : Core). c.who) same.agent ∙ h.named;
  agent = subst Unactivated (sym (ap (λ (c : Core). c.inherited) same.agent)) h.agent;
  delays = λ t e. ap (λ d. is_fresh d (who.Task t)) same.drawn_tasks ∙ h.delays t (same.delays t e);
}

pub sound-plain : (a b : World) → b.tasks ≡ a.tasks → b.agent ≡ a.agent → b.drawn.tasks ≡ a.drawn.tasks → b.appointments ≡ a.appointments → Sound a → Sound b
sound-plain a b tasks agent drawn appointments h = record {
  names = subst (λ d. NamesFrom 0 d (map whose b.tasks)) (sym drawn) (subst (λ ts. NamesFrom 0 a.drawn.tasks (map whose ts)) (sym tasks) h.names);
  named = ap (λ (t : Task). t.who) agent ∙ h.named;
  agent = subst (λ (t : Task). Unactivated t.inherited) (sym agent) h.agent;
  delays = λ t e. ap (λ d. is_fresh d (who.Task t)) drawn ∙ h.delays t (ap (λ xs. list_any (λ a. is_delay_of t a.due) xs) (sym appointments) ∙ e);
}

-- a task is edited, or the agent
task-sound : (n : TaskNo) (f : Task → Task) (w : World) (found : Option Task) → find (is_who (who.Task n)) w.tasks ≡ found → ((t : Task) → (f t).who ≡ t.who)
    → Sound w → Sound (edit_task_found (who.Task n) f w found)
task-sound n f w None is named h = h
task-sound n f w (Some t) is named h = record {
  names = subst (NamesFrom 0 w.drawn.tasks) (sym (set_where-seen whose (is_who (who.Task n)) t (f t) w.tasks is (named t))) h.names;
  named = h.named;
  agent = h.agent;
  delays = h.delays;
}

pub sound-task : (n : TaskNo) (f : Task → Task) (w : World) → ((t : Task) → (f t).who ≡ t.who) → Sound w → Sound (edit_task (who.Task n) f w)
sound-task n f w named h = task-sound n f w (task_at w (who.Task n)) refl named h

pub sound-edit : (name : Who) (f : Task → Task) (w : World) → ((t : Task) → (f t).who ≡ t.who)
    → ((t : Task) → Unactivated t.inherited → Unactivated (f t).inherited) → Sound w → Sound (edit_task name f w)
sound-edit (who.Task n) f w named frees h = sound-task n f w named h
sound-edit who.Agent f w named frees h = record { names = h.names; named = named w.agent ∙ h.named; agent = frees w.agent h.agent; delays = h.delays }

-- a task is forgotten, and added
pub sound-forget : (name : Who) (w : World) → Sound w → Sound (forget_task name w)
sound-forget name w h = record { names = names_without name 0 w.drawn.tasks w.tasks h.names; named = h.named; agent = h.agent; delays = h.delays }

pub sound-add : (t : Task) (w : World) → t.who ≡ who.Task (record { 0 = w.drawn.tasks }) → Sound w → Sound (add_task t w)
sound-add t w numbered h = record {
  names =
      subst (NamesFrom 0 (suc w.drawn.tasks)) (sym (whose-append w.tasks t ∙ ap (λ n. map whose w.tasks ++ n ∷ []) numbered))
      (names_behind 0 w.drawn.tasks (map whose w.tasks) h.names);
  named = h.named;
  agent = h.agent;
  delays = λ u e. drawn-on w.drawn.tasks u (h.delays u e);
}

appointed-fresh : (drawn : ℕ) (t u : TaskNo) (w : World) → is_fresh drawn (who.Task t) ≡ false → (is_delayed u w ≡ true → is_fresh drawn (who.Task u) ≡ false)
    → (same_task u t ≡ true) ⊎ (is_delayed u w ≡ true) → is_fresh drawn (who.Task u) ≡ false
appointed-fresh drawn t u w own h (inl same) = ap (is_fresh drawn) (who-is (who.Task u) (who.Task t) same) ∙ own
appointed-fresh drawn t u w own h (inr delayed) = h delayed

pub sound-appoint : (t : TaskNo) (moment : ℤ) (w : World) → is_fresh w.drawn.tasks (who.Task t) ≡ false → Sound w → Sound (appoint (due_for.Delay t) moment w)
sound-appoint t moment w own h = record {
  names = h.names;
  named = h.named;
  agent = h.agent;
  delays =
      λ u e. appointed-fresh w.drawn.tasks t u w own (h.delays u)
      (put-either (λ a. is_delay_of u a.due) (record { due = due_for.Delay t; moment = moment }) w.appointments e);
}

-- ---- who is there

-- a name under which nobody is found
abbrev pub IsAbsent : Who → Core → Type 0
IsAbsent name c = (is_agent name ≡ false) × (c ≡ core nobody)

found-known : (n : Who) (w : World) (found : Option Task) → find (is_who n) w.tasks ≡ found → is_agent n ≡ false → Sound w
    → IsAbsent n (core (unwrap_or found nobody)) ⊎ (is_fresh w.drawn.tasks n ≡ false)
found-known n w None is task h = inl (task, refl)
found-known n w (Some x) is task h =
    let known = found-each (Known 0 w.drawn.tasks w.tasks) (is_who n) w.tasks x (each-known 0 w.drawn.tasks w.tasks h.names) is in
    inr (ap (is_fresh w.drawn.tasks) (who-is n x.who known.1) ∙ known.0.drawn_before)

pub known : (w : World) (n : Who) → Sound w → IsAbsent n (core (task_of w n)) ⊎ (is_fresh w.drawn.tasks n ≡ false)
known w (who.Task t) h = found-known (who.Task t) w (find (is_who (who.Task t)) w.tasks) refl refl h
known w who.Agent h = inr refl

pub all_there : (w : World) → Sound w → EachTask (IsThere w) w.tasks
all_there w h =
    each-on (Known 0 w.drawn.tasks w.tasks) (IsThere w) w.tasks
    (λ t k. record { found = found_as t.who w t k.no_agent k.found; drawn = k.drawn_before; no_agent = k.no_agent })
    (each-known 0 w.drawn.tasks w.tasks h.names)

-- ---- each task bears another name

other_number : (k i j : ℕ) → leb (suc k) j ≡ true → i ≡ k → eqb i j ≡ false
other_number k i j late is = grind arith

ahead-apart : (k : ℕ) (n m : Who) → is_fresh (suc k) m ≡ true → n ≡ who.Task (record { 0 = k }) → same_who n m ≡ false
ahead-apart k (who.Task i) (who.Task j) late is = other_number k i.0 j.0 late (ap number_in is)
ahead-apart k (who.Task i) who.Agent late is = refl
ahead-apart k who.Agent m late is = absurd cc

none-ahead : (k : ℕ) (n : Who) (ts : List Task) → n ≡ who.Task (record { 0 = k }) → EachTask (λ u. is_fresh (suc k) u.who ≡ true) ts
    → list_any (λ u. same_who n u.who) ts ≡ false
none-ahead k n [] is each = refl
none-ahead k n (t ∷ ts) is each = ap (λ b. b || list_any (λ u. same_who n u.who) ts) (ahead-apart k n t.who each.0 is) ∙ none-ahead k n ts is each.1

head-apart : (n : Who) (low drawn : ℕ) (t : Task) (ts : List Task) → t.who ≡ n → NamesFrom low drawn (n ∷ map whose ts)
    → ((l : ℕ) → NamesFrom l drawn (map whose ts) → AreApart ts) → AreApart (t ∷ ts)
head-apart (who.Task k) low drawn t ts is h onward = (
  none-ahead k.0 t.who ts is
      (each-on (Known (suc k.0) drawn ts) (λ u. is_fresh (suc k.0) u.who ≡ true) ts (λ u known. known.behind_it) (each-known (suc k.0) drawn ts h.1)),
  onward (suc k.0) h.1,
)
head-apart who.Agent low drawn t ts is h onward = never h

names-apart : (low drawn : ℕ) (ts : List Task) → NamesFrom low drawn (map whose ts) → AreApart ts
names-apart low drawn [] h = tt
names-apart low drawn (t ∷ ts) h = head-apart t.who low drawn t ts refl h (λ l k. names-apart l drawn ts k)

pub all-apart : (w : World) → Sound w → AreApart w.tasks
all-apart w h = names-apart 0 w.drawn.tasks w.tasks h.names
