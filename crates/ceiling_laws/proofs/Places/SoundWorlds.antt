-- What of a world stays sound: its tasks bear numbers of tasks, each another, and only numbers that were drawn; for no other task a
-- moment is appointed; and the agent was activated by nobody.
use Rattle.ann_base.specs.declared.identities.TaskNo.{TaskNo}
use Rattle.ceiling_laws.proofs.Runs.Kept.Waking.{found-each, who-is}
use Rattle.ceiling_laws.proofs.Runs.LevelMoves.{EachTask}
use Rattle.ceiling_laws.proofs.Runs.SameLemmas.{set_where-seen}
use Rattle.ceiling_laws.specs.Cores.{Core, Same, core, is_delayed}
use Rattle.profile_machine.specs.Appointments.{appoint, is_delay_of, put_appointment}
use Rattle.profile_machine.specs.Inheritance.{same_cause}
use Rattle.profile_machine.specs.Masters.{forget_task}
use Rattle.profile_machine.specs.Tasking.{add_task}
use Rattle.profile_machine.specs.Tasks.{edit_task, edit_task_found, is_who, nobody, task_at, task_of}
use Rattle.profile_machine.specs.WellFormed.{number_in}
use Rattle.profile_image.specs.Words.{same_task, same_who, without}
use Rattle.profile_machine.specs.declared.world.World.{World}
use Rattle.profile_machine.specs.declared.world.appointments.Appointment.{Appointment}
use Rattle.profile_machine.specs.declared.world.appointments.Due.TheVariants as due_for
use Rattle.profile_machine.specs.declared.world.tasks.Cause.TheVariants as inherited_by
use Rattle.profile_machine.specs.declared.world.tasks.Inherited.{Inherited}
use Rattle.profile_machine.specs.declared.world.tasks.Task.{Task}
use Rattle.std.proofs.Common.{ap, arith, cond, inl, inr, le_refl, le_trans, map, refl, subst, sym, ◌++◌, ◌||◌, ◌∙◌, ◌∷◌, ◌≡◌, ◌≤◌, ◌⊎◌}
use Rattle.std.proofs.lemmas.Bool.{le-leb, or_cases}
use Rattle.std.specs.List.{list_any}
use Rattle.std.specs.Prelude.{Bool, List, None, Option, Some, [], eqb, false, find, int_lt, leb, not, suc, true, ℕ, ℤ, unwrap_or}
use Rattle.trace_text.specs.declared.events.Who.{Who}
use Rattle.trace_text.specs.declared.events.Who.TheVariants as who
use Rattle.line_laws.proofs.Leaving.TaskLemmas.{same_self}

-- ---- names

abbrev pub whose : Task → Who
whose t = t.who

-- a number that is still to be drawn
abbrev pub is_fresh : ℕ → Who → Bool
is_fresh drawn (who.Task t) = leb drawn t.0
is_fresh drawn who.Agent = false

abbrev pub is_agent : Who → Bool
is_agent name = same_who name who.Agent

-- names of tasks that rise in number, from one number to another
abbrev pub NamesFrom : ℕ → ℕ → List Who → Type 0
NamesFrom low drawn [] = low ≤ drawn
NamesFrom low drawn (who.Task t ∷ ns) = (low ≤ t.0) × NamesFrom (suc t.0) drawn ns
NamesFrom low drawn (who.Agent ∷ ns) = false ≡ true

pub never : {P : Type 0} → false ≡ true → P
never e = absurd cc

pub names_lower : (less low drawn : ℕ) (ns : List Who) → less ≤ low → NamesFrom low drawn ns → NamesFrom less drawn ns
names_lower less low drawn [] l h = le_trans l h
names_lower less low drawn (who.Task t ∷ ns) l h = (le_trans l h.0, h.1)
names_lower less low drawn (who.Agent ∷ ns) l h = h

-- one more name, with the next number
pub names_behind : (low drawn : ℕ) (ns : List Who) → NamesFrom low drawn ns → NamesFrom low (suc drawn) (ns ++ who.Task (record { 0 = drawn }) ∷ [])
names_behind low drawn [] h = (h, le_refl (suc drawn))
names_behind low drawn (who.Task t ∷ ns) h = (h.0, names_behind (suc t.0) drawn ns h.1)
names_behind low drawn (who.Agent ∷ ns) h = h

pub whose-append : (ts : List Task) (t : Task) → map whose (ts ++ t ∷ []) ≡ map whose ts ++ t.who ∷ []
whose-append [] t = refl
whose-append (x ∷ xs) t = ap (λ ns. x.who ∷ ns) (whose-append xs t)

-- fewer names
pub names_head : (n : Who) (low drawn : ℕ) (ns fewer : List Who) → NamesFrom low drawn (n ∷ ns) → ((l : ℕ) → NamesFrom l drawn ns → NamesFrom l drawn fewer)
    → NamesFrom low drawn (n ∷ fewer)
names_head (who.Task t) low drawn ns fewer h onward = (h.0, onward (suc t.0) h.1)
names_head who.Agent low drawn ns fewer h onward = h

pub lower-suc : (low n : ℕ) → low ≤ n → low ≤ suc n
lower-suc low n h = omega (arith, h)

pub names_tail : (n : Who) (low drawn : ℕ) (ns fewer : List Who) → NamesFrom low drawn (n ∷ ns) → ((l : ℕ) → NamesFrom l drawn ns → NamesFrom l drawn fewer)
    → NamesFrom low drawn fewer
names_tail (who.Task t) low drawn ns fewer h onward = names_lower low (suc t.0) drawn fewer (lower-suc low t.0 h.0) (onward (suc t.0) h.1)
names_tail who.Agent low drawn ns fewer h onward = never h

pub names_if : (b : Bool) (low drawn : ℕ) (t : Task) (ns : List Who) (fewer : List Task) → NamesFrom low drawn (t.who ∷ ns)
    → ((l : ℕ) → NamesFrom l drawn ns → NamesFrom l drawn (map whose fewer)) → NamesFrom low drawn (map whose (cond b (t ∷ fewer) fewer))
names_if true low drawn t ns fewer h onward = names_head t.who low drawn ns (map whose fewer) h onward
names_if false low drawn t ns fewer h onward = names_tail t.who low drawn ns (map whose fewer) h onward

pub names_without : (name : Who) (low drawn : ℕ) (ts : List Task) → NamesFrom low drawn (map whose ts)
    → NamesFrom low drawn (map whose (without (is_who name) ts))
names_without name low drawn [] h = h
names_without name low drawn (t ∷ ts) h =
    names_if (not (is_who name t)) low drawn t (map whose ts) (without (is_who name) ts) h (λ l k. names_without name l drawn ts k)

-- ---- each task of the list is found by its name

pub record Known (low drawn : ℕ) (ts : List Task) (t : Task) : Type 0 where
  pub found : find (is_who t.who) ts ≡ Some t
  pub drawn_before : is_fresh drawn t.who ≡ false
  pub behind_it : is_fresh low t.who ≡ true
  pub no_agent : is_agent t.who ≡ false

pub each-on : (P Q : Task → Type 0) (ts : List Task) → ((t : Task) → P t → Q t) → EachTask P ts → EachTask Q ts
each-on P Q [] f h = tt
each-on P Q (t ∷ ts) f h = (f t h.0, each-on P Q ts f h.1)

later_number : (k i j : ℕ) → leb (suc k) j ≡ true → i ≡ k → eqb j i ≡ false
later_number k i j late is = grind arith

earlier_number : (low k j : ℕ) → low ≤ k → leb (suc k) j ≡ true → leb low j ≡ true
earlier_number low k j l late = grind arith

drawn_number : (d k : ℕ) → leb d k ≡ false → leb (suc d) k ≡ false
drawn_number d k e = grind arith

pub later-apart : (k : ℕ) (n m : Who) → is_fresh (suc k) m ≡ true → n ≡ who.Task (record { 0 = k }) → same_who m n ≡ false
later-apart k (who.Task i) (who.Task j) late is = later_number k i.0 j.0 late (ap number_in is)
later-apart k (who.Task i) who.Agent late is = refl
later-apart k who.Agent m late is = absurd cc

pub drawn-number : (low drawn : ℕ) (ns : List Who) → NamesFrom low drawn ns → low ≤ drawn
drawn-number low drawn [] h = h
drawn-number low drawn (who.Task t ∷ ns) h = let k = drawn-number (suc t.0) drawn ns h.1 in omega (arith, h.0, k)
drawn-number low drawn (who.Agent ∷ ns) h = never h

pub not-yet : (k drawn : ℕ) → suc k ≤ drawn → leb drawn k ≡ false
not-yet k drawn h = grind arith

pub earlier-low : (low k : ℕ) (m : Who) → low ≤ k → is_fresh (suc k) m ≡ true → is_fresh low m ≡ true
earlier-low low k (who.Task j) l late = earlier_number low k j.0 l late
earlier-low low k who.Agent l late = late

pub head-known : (n : Who) (low drawn : ℕ) (t : Task) (ts : List Task) (ns : List Who) → t.who ≡ n → NamesFrom low drawn (n ∷ ns) → Known low drawn (t ∷ ts) t
head-known (who.Task k) low drawn t ts ns is h = record {
  found = ap (λ b. cond b (Some t) (find (is_who t.who) ts)) (same_self t.who);
  drawn_before = ap (is_fresh drawn) is ∙ not-yet k.0 drawn (drawn-number (suc k.0) drawn ns h.1);
  behind_it = ap (is_fresh low) is ∙ le-leb low k.0 h.0;
  no_agent = ap is_agent is;
}
head-known who.Agent low drawn t ts ns is h = never h

tail-known : (n : Who) (low drawn : ℕ) (t : Task) (ts : List Task) (ns : List Who) → t.who ≡ n → NamesFrom low drawn (n ∷ ns)
    → ((l : ℕ) → NamesFrom l drawn ns → EachTask (Known l drawn ts) ts) → EachTask (Known low drawn (t ∷ ts)) ts
tail-known (who.Task k) low drawn t ts ns is h onward =
    each-on (Known (suc k.0) drawn ts) (Known low drawn (t ∷ ts)) ts (λ u known. record {
      found = ap (λ b. cond b (Some t) (find (is_who u.who) ts)) (later-apart k.0 t.who u.who known.behind_it is) ∙ known.found;
      drawn_before = known.drawn_before;
      behind_it = earlier-low low k.0 u.who h.0 known.behind_it;
      no_agent = known.no_agent;
    }) (onward (suc k.0) h.1)
tail-known who.Agent low drawn t ts ns is h onward = never h

pub each-known : (low drawn : ℕ) (ts : List Task) → NamesFrom low drawn (map whose ts) → EachTask (Known low drawn ts) ts
each-known low drawn [] h = tt
each-known low drawn (t ∷ ts) h = (
  head-known t.who low drawn t ts (map whose ts) refl h,
  tail-known t.who low drawn t ts (map whose ts) refl h (λ l k. each-known l drawn ts k),
)

-- ---- what is inherited by an activation

abbrev pub Unactivated : List Inherited → Type 0
Unactivated [] = Unit {0}
Unactivated (i ∷ is) = (same_cause inherited_by.Activation i.cause ≡ false) × Unactivated is

unactivated_if : (b : Bool) (i : Inherited) (is : List Inherited) → same_cause inherited_by.Activation i.cause ≡ false → Unactivated is
    → Unactivated (cond b (i ∷ is) is)
unactivated_if true i is e h = (e, h)
unactivated_if false i is e h = h

pub unactivated_without : (test : Inherited → Bool) (is : List Inherited) → Unactivated is → Unactivated (without test is)
unactivated_without test [] h = tt
unactivated_without test (i ∷ is) h = unactivated_if (not (test i)) i (without test is) h.0 (unactivated_without test is h.1)

-- nothing is lost by the end of an activation
pub unactivated-loses : (is : List Inherited) → Unactivated is → without (λ i. same_cause inherited_by.Activation i.cause) is ≡ is
unactivated-loses [] h = refl
unactivated-loses (i ∷ is) h =
    ap (λ b. cond (not b) (i ∷ without (λ j. same_cause inherited_by.Activation j.cause) is) (without (λ j. same_cause inherited_by.Activation j.cause) is)) h.0
    ∙ ap (λ js. i ∷ js) (unactivated-loses is h.1)

-- ---- a world

pub record Sound (w : World) : Type 0 where
  pub names : NamesFrom 0 w.drawn.tasks (map whose w.tasks)
  pub agent : Unactivated w.agent.inherited
  pub delays : (t : TaskNo) → is_delayed t w ≡ true → is_fresh w.drawn.tasks (who.Task t) ≡ false

map-whose : (ts : List Task) → map (λ (c : Core). c.who) (map core ts) ≡ map whose ts
map-whose [] = refl
map-whose (t ∷ ts) = ap (λ ns. t.who ∷ ns) (map-whose ts)

pub same-whose : (a b : World) → Same a b → map whose b.tasks ≡ map whose a.tasks
same-whose a b same = sym (map-whose b.tasks) ∙ ap (map (λ (c : Core). c.who)) same.tasks ∙ map-whose a.tasks

pub sound-same : (a b : World) → Same a b → Sound a → Sound b
sound-same a b same h = record {
  names = subst (λ d. NamesFrom 0 d (map whose b.tasks)) (sym same.drawn_tasks) (subst (NamesFrom 0 a.drawn.tasks) (sym (same-whose a b same)) h.names);
  agent = subst Unactivated (sym (ap (λ (c : Core). c.inherited) same.agent)) h.agent;
  delays = λ t e. ap (λ d. is_fresh d (who.Task t)) same.drawn_tasks ∙ h.delays t (same.delays t e);
}

pub sound-plain : (a b : World) → b.tasks ≡ a.tasks → b.agent ≡ a.agent → b.drawn.tasks ≡ a.drawn.tasks → b.appointments ≡ a.appointments → Sound a → Sound b
sound-plain a b tasks agent drawn appointments h = record {
  names = subst (λ d. NamesFrom 0 d (map whose b.tasks)) (sym drawn) (subst (λ ts. NamesFrom 0 a.drawn.tasks (map whose ts)) (sym tasks) h.names);
  agent = subst (λ (t : Task). Unactivated t.inherited) (sym agent) h.agent;
  delays = λ t e. ap (λ d. is_fresh d (who.Task t)) drawn ∙ h.delays t (ap (λ xs. list_any (λ a. is_delay_of t a.due) xs) (sym appointments) ∙ e);
}

-- a task is edited, or the agent
task-sound : (n : TaskNo) (f : Task → Task) (w : World) (found : Option Task) → find (is_who (who.Task n)) w.tasks ≡ found → ((t : Task) → (f t).who ≡ t.who)
    → Sound w → Sound (edit_task_found (who.Task n) f w found)
task-sound n f w None is named h = h
task-sound n f w (Some t) is named h = record {
  names = subst (NamesFrom 0 w.drawn.tasks) (sym (set_where-seen whose (is_who (who.Task n)) t (f t) w.tasks is (named t))) h.names;
  agent = h.agent;
  delays = h.delays;
}

pub sound-task : (n : TaskNo) (f : Task → Task) (w : World) → ((t : Task) → (f t).who ≡ t.who) → Sound w → Sound (edit_task (who.Task n) f w)
sound-task n f w named h = task-sound n f w (task_at w (who.Task n)) refl named h

pub sound-edit : (name : Who) (f : Task → Task) (w : World) → ((t : Task) → (f t).who ≡ t.who)
    → ((t : Task) → Unactivated t.inherited → Unactivated (f t).inherited) → Sound w → Sound (edit_task name f w)
sound-edit (who.Task n) f w named frees h = sound-task n f w named h
sound-edit who.Agent f w named frees h = record { names = h.names; agent = frees w.agent h.agent; delays = h.delays }

-- a task is forgotten, and added
pub sound-forget : (name : Who) (w : World) → Sound w → Sound (forget_task name w)
sound-forget name w h = record { names = names_without name 0 w.drawn.tasks w.tasks h.names; agent = h.agent; delays = h.delays }

pub drawn-on : (d : ℕ) (t : TaskNo) → is_fresh d (who.Task t) ≡ false → is_fresh (suc d) (who.Task t) ≡ false
drawn-on d t e = drawn_number d t.0 e

pub sound-add : (t : Task) (w : World) → t.who ≡ who.Task (record { 0 = w.drawn.tasks }) → Sound w → Sound (add_task t w)
sound-add t w numbered h = record {
  names =
      subst (NamesFrom 0 (suc w.drawn.tasks)) (sym (whose-append w.tasks t ∙ ap (λ n. map whose w.tasks ++ n ∷ []) numbered))
      (names_behind 0 w.drawn.tasks (map whose w.tasks) h.names);
  agent = h.agent;
  delays = λ u e. drawn-on w.drawn.tasks u (h.delays u e);
}

-- a moment is appointed for a task

later_or : {P : Type 0} (a b c : Bool) → (a || b) ≡ true → (b ≡ true → P ⊎ (c ≡ true)) → P ⊎ ((a || c) ≡ true)
later_or true b c e onward = inr refl
later_or false b c e onward = onward e

put_if : (test : Appointment → Bool) (y a : Appointment) (rest put : List Appointment) (b : Bool) → list_any test (cond b (y ∷ a ∷ rest) (a ∷ put)) ≡ true
    → (list_any test put ≡ true → (test y ≡ true) ⊎ (list_any test rest ≡ true)) → (test y ≡ true) ⊎ (list_any test (a ∷ rest) ≡ true)
put_if test y a rest put true e onward = or_cases (test y) (list_any test (a ∷ rest)) e
put_if test y a rest put false e onward = later_or (test a) (list_any test put) (list_any test rest) e onward

pub put-either : (test : Appointment → Bool) (y : Appointment) (xs : List Appointment) → list_any test (put_appointment y xs) ≡ true
    → (test y ≡ true) ⊎ (list_any test xs ≡ true)
put-either test y [] e = or_cases (test y) false e
put-either test y (a ∷ rest) e = put_if test y a rest (put_appointment y rest) (int_lt y.moment a.moment) e (put-either test y rest)

appointed-fresh : (drawn : ℕ) (t u : TaskNo) (w : World) → is_fresh drawn (who.Task t) ≡ false → (is_delayed u w ≡ true → is_fresh drawn (who.Task u) ≡ false)
    → (same_task u t ≡ true) ⊎ (is_delayed u w ≡ true) → is_fresh drawn (who.Task u) ≡ false
appointed-fresh drawn t u w own h (inl same) = ap (is_fresh drawn) (who-is (who.Task u) (who.Task t) same) ∙ own
appointed-fresh drawn t u w own h (inr delayed) = h delayed

pub sound-appoint : (t : TaskNo) (moment : ℤ) (w : World) → is_fresh w.drawn.tasks (who.Task t) ≡ false → Sound w → Sound (appoint (due_for.Delay t) moment w)
sound-appoint t moment w own h = record {
  names = h.names;
  agent = h.agent;
  delays =
      λ u e. appointed-fresh w.drawn.tasks t u w own (h.delays u)
      (put-either (λ a. is_delay_of u a.due) (record { due = due_for.Delay t; moment = moment }) w.appointments e);
}

-- ---- who is there

-- a name under which nobody is found
abbrev pub IsAbsent : Who → Core → Type 0
IsAbsent name c = (is_agent name ≡ false) × (c ≡ core nobody)

found-known : (n : Who) (w : World) (found : Option Task) → find (is_who n) w.tasks ≡ found → is_agent n ≡ false → Sound w
    → IsAbsent n (core (unwrap_or found nobody)) ⊎ (is_fresh w.drawn.tasks n ≡ false)
found-known n w None is task h = inl (task, refl)
found-known n w (Some x) is task h =
    let known = found-each (Known 0 w.drawn.tasks w.tasks) (is_who n) w.tasks x (each-known 0 w.drawn.tasks w.tasks h.names) is in
    inr (ap (is_fresh w.drawn.tasks) (who-is n x.who known.1) ∙ known.0.drawn_before)

pub known : (w : World) (n : Who) → Sound w → IsAbsent n (core (task_of w n)) ⊎ (is_fresh w.drawn.tasks n ≡ false)
known w (who.Task t) h = found-known (who.Task t) w (find (is_who (who.Task t)) w.tasks) refl refl h
known w who.Agent h = inr refl

-- a task of the list has a number that was drawn, and is found by its name
pub record IsThere (w : World) (t : Task) : Type 0 where
  pub found : task_of w t.who ≡ t
  pub drawn : is_fresh w.drawn.tasks t.who ≡ false
  pub no_agent : is_agent t.who ≡ false

pub found_as : (n : Who) (w : World) (t : Task) → is_agent n ≡ false → find (is_who n) w.tasks ≡ Some t → task_of w n ≡ t
found_as (who.Task k) w t task found = ap (λ x. unwrap_or x nobody) found
found_as who.Agent w t task found = absurd cc

pub all_there : (w : World) → Sound w → EachTask (IsThere w) w.tasks
all_there w h =
    each-on (Known 0 w.drawn.tasks w.tasks) (IsThere w) w.tasks
    (λ t k. record { found = found_as t.who w t k.no_agent k.found; drawn = k.drawn_before; no_agent = k.no_agent })
    (each-known 0 w.drawn.tasks w.tasks h.names)
