-- One task is put in the place of the one that has its name: who is found by each name then, and what the keys of all weigh.
use Rattle.std.proofs.Common.{◌≡◌, ◌+◌, Bool, true, false, cond, List, [], ◌∷◌, ◌++◌, Option, Some, None, refl, sym, ap, subst, ◌∙◌, arith, eq-eqb}
use Rattle.std.proofs.lemmas.Bool.{false≢true}
use Rattle.std.specs.Prelude.{find, unwrap_or}
use Rattle.ann_base.specs.declared.identities.TaskNo.{TaskNo}
use Rattle.trace_text.specs.declared.events.Who.{Who}
use Rattle.trace_text.specs.declared.events.Who.TheVariants as who
use Rattle.profile_machine.specs.declared.world.World.{World}
use Rattle.profile_machine.specs.declared.world.tasks.Task.{Task}
use Rattle.profile_image.specs.Words.{same_who, set_where}
use Rattle.profile_machine.specs.Tasks.{is_who, is_made, nobody, task_at, edit_task_found, edit_task}
use Rattle.world_laws.proofs.Scopes.ScopeKeys.{Weights, weigh, weigh-append}
use Rattle.world_laws.proofs.Scopes.TaskMarks.{task_keys}
use Rattle.world_laws.proofs.Scopes.Likeness.{named, keys_of, everybody_keys}
use Rattle.line_laws.proofs.Exits.TaskEdits.{one_of, same_who-path}
use Rattle.line_laws.proofs.Exits.OpenCounts.{bit}
use Rattle.line_laws.proofs.Leaving.TaskLemmas.{found-holds}
use Rattle.machine_laws.proofs.QueueLemmas.{by_test}

-- ---- names

pub same_who-self : (a : Who) → same_who a a ≡ true
same_who-self (who.Task a) = eq-eqb a.0 a.0 refl
same_who-self who.Agent = refl

pub same_who-flip : (a b : Who) → same_who a b ≡ false → same_who b a ≡ false
same_who-flip a b e = by_test (same_who b a)
    (λ same. absurd (false≢true (sym e ∙ subst (λ n. same_who a n ≡ true) (sym (same_who-path b a same)) (same_who-self a))))
    (λ apart. apart)

-- ---- who has a name among these tasks, or the agent

-- ---- in the list

set-own-step : (test : Task → Bool) (z t u : Task) (zs : List Task) (b : Bool) → test z ≡ b → cond b (Some z) (find test zs) ≡ Some t → test u ≡ true
    → (find test zs ≡ Some t → find test (set_where test u zs) ≡ Some u) → find test (cond b (u ∷ zs) (z ∷ set_where test u zs)) ≡ Some u
set-own-step test z t u zs true is found fits onward = ap (λ d. cond d (Some u) (find test zs)) fits
set-own-step test z t u zs false is found fits onward = ap (λ d. cond d (Some z) (find test (set_where test u zs))) is ∙ onward found

set-own : (test : Task → Bool) (xs : List Task) (t u : Task) → find test xs ≡ Some t → test u ≡ true → find test (set_where test u xs) ≡ Some u
set-own test [] t u found fits = absurd cc
set-own test (z ∷ zs) t u found fits = set-own-step test z t u zs (test z) refl found fits (λ e. set-own test zs t u e fits)

set-other-step : (test other : Task → Bool) (z t u : Task) (zs : List Task) (b : Bool) → cond b (Some z) (find test zs) ≡ Some t → other u ≡ other t
    → other t ≡ false → (find test zs ≡ Some t → find other (set_where test u zs) ≡ find other zs)
    → find other (cond b (u ∷ zs) (z ∷ set_where test u zs)) ≡ cond (other z) (Some z) (find other zs)
set-other-step test other z t u zs true found like apart onward =
    let is : z ≡ t = cc in
    ap (λ d. cond d (Some u) (find other zs)) (like ∙ apart) ∙ sym (ap (λ d. cond d (Some z) (find other zs)) (ap other is ∙ apart))
set-other-step test other z t u zs false found like apart onward = ap (λ x. cond (other z) (Some z) x) (onward found)

set-other : (test other : Task → Bool) (xs : List Task) (t u : Task) → find test xs ≡ Some t → other u ≡ other t → other t ≡ false
    → find other (set_where test u xs) ≡ find other xs
set-other test other [] t u found like apart = absurd cc
set-other test other (z ∷ zs) t u found like apart =
    set-other-step test other z t u zs (test z) found like apart (λ e. set-other test other zs t u e like apart)

set-named-step : (n : Who) (test : Task → Bool) (z t u : Task) (zs : List Task) (b : Bool) → cond b (Some z) (find test zs) ≡ Some t → u.who ≡ t.who
    → (find test zs ≡ Some t → named n (set_where test u zs) ≡ named n zs)
    → named n (cond b (u ∷ zs) (z ∷ set_where test u zs)) ≡ bit (is_who n z) + named n zs
set-named-step n test z t u zs true found same onward =
    let is : z ≡ t = cc in ap (λ k. bit (same_who n k) + named n zs) (same ∙ ap (λ (x : Task). x.who) (sym is))
set-named-step n test z t u zs false found same onward = ap (λ m. bit (is_who n z) + m) (onward found)

set-named : (n : Who) (test : Task → Bool) (xs : List Task) (t u : Task) → find test xs ≡ Some t → u.who ≡ t.who → named n (set_where test u xs) ≡ named n xs
set-named n test [] t u found same = absurd cc
set-named n test (z ∷ zs) t u found same = set-named-step n test z t u zs (test z) found same (λ e. set-named n test zs t u e same)

set-weigh-step : (by : Weights) (test : Task → Bool) (z t u : Task) (zs : List Task) (b : Bool) → cond b (Some z) (find test zs) ≡ Some t
    → (find test zs ≡ Some t → weigh by (task_keys t) + weigh by (keys_of (set_where test u zs)) ≡ weigh by (task_keys u) + weigh by (keys_of zs))
    → weigh by (task_keys t) + weigh by (keys_of (cond b (u ∷ zs) (z ∷ set_where test u zs))) ≡ weigh by (task_keys u) + weigh by (task_keys z ++ keys_of zs)
set-weigh-step by test z t u zs true found onward =
    let is : z ≡ t = cc in
    let a = weigh-append by (task_keys u) (keys_of zs) in
    let b = weigh-append by (task_keys z) (keys_of zs) in
    let c = ap (λ x. weigh by (task_keys x)) is in
    omega (arith, a, b, c)
set-weigh-step by test z t u zs false found onward =
    let a = weigh-append by (task_keys z) (keys_of (set_where test u zs)) in
    let b = weigh-append by (task_keys z) (keys_of zs) in
    let c = onward found in
    omega (arith, a, b, c)

set-weigh : (by : Weights) (test : Task → Bool) (xs : List Task) (t u : Task) → find test xs ≡ Some t
    → weigh by (task_keys t) + weigh by (keys_of (set_where test u xs)) ≡ weigh by (task_keys u) + weigh by (keys_of xs)
set-weigh by test [] t u found = absurd cc
set-weigh by test (z ∷ zs) t u found = set-weigh-step by test z t u zs (test z) found (λ e. set-weigh by test zs t u e)

-- ---- among all

pub record Put (name : Who) (t u : Task) (tasks : List Task) (agent : Task) (tasks_behind : List Task) (agent_behind : Task) : Type 0 where
  pub own : one_of tasks agent name ≡ t
  pub is : one_of tasks_behind agent_behind name ≡ u
  pub other : (n : Who) → same_who n name ≡ false → one_of tasks_behind agent_behind n ≡ one_of tasks agent n
  pub names : (n : Who) → named n tasks_behind ≡ named n tasks
  pub weighs : (by : Weights)
      → weigh by (task_keys t) + weigh by (everybody_keys tasks_behind agent_behind) ≡ weigh by (task_keys u) + weigh by (everybody_keys tasks agent)
  pub agent_who : agent_behind.who ≡ agent.who
  pub agent_made : is_made agent ≡ false → is_made agent_behind ≡ false

put-other : (k : TaskNo) (t u : Task) (tasks : List Task) (agent : Task) → find (is_who (who.Task k)) tasks ≡ Some t → u.who ≡ t.who → (n : Who)
    → same_who n (who.Task k) ≡ false
    → one_of (set_where (is_who (who.Task k)) u tasks) agent n ≡ one_of tasks agent n
put-other k t u tasks agent e same (who.Task n) apart =
    let named_so : who.Task k ≡ t.who = same_who-path (who.Task k) t.who (found-holds (is_who (who.Task k)) tasks t e) in
    ap (λ x. unwrap_or x nobody)
    (set-other (is_who (who.Task k)) (is_who (who.Task n)) tasks t u e (ap (same_who (who.Task n)) same)
    (subst (λ x. same_who (who.Task n) x ≡ false) named_so apart))
put-other k t u tasks agent e same who.Agent apart = refl

pub put-task : (k : TaskNo) (t u : Task) (tasks : List Task) (agent : Task) → find (is_who (who.Task k)) tasks ≡ Some t → u.who ≡ t.who
    → Put (who.Task k) t u tasks agent (set_where (is_who (who.Task k)) u tasks) agent
put-task k t u tasks agent e same = record {
  own = ap (λ x. unwrap_or x nobody) e;
  is = ap (λ x. unwrap_or x nobody) (set-own (is_who (who.Task k)) tasks t u e (ap (same_who (who.Task k)) same ∙ found-holds (is_who (who.Task k)) tasks t e));
  other = put-other k t u tasks agent e same;
  names = λ n. set-named n (is_who (who.Task k)) tasks t u e same;
  weighs = λ by.
      let a = set-weigh by (is_who (who.Task k)) tasks t u e in
      let b = weigh-append by (keys_of (set_where (is_who (who.Task k)) u tasks)) (task_keys agent) in
      let c = weigh-append by (keys_of tasks) (task_keys agent) in
      omega (arith, a, b, c);
  agent_who = refl;
  agent_made = λ h. h;
}

other-agent : (tasks : List Task) (agent u : Task) (n : Who) → same_who n who.Agent ≡ false → one_of tasks u n ≡ one_of tasks agent n
other-agent tasks agent u (who.Task n) apart = refl
other-agent tasks agent u who.Agent apart = absurd cc

pub put-agent : (tasks : List Task) (agent u : Task) → u.who ≡ agent.who → (is_made agent ≡ false → is_made u ≡ false)
    → Put who.Agent agent u tasks agent tasks u
put-agent tasks agent u same made = record {
  own = refl;
  is = refl;
  other = other-agent tasks agent u;
  names = λ n. refl;
  weighs = λ by.
      let b = weigh-append by (keys_of tasks) (task_keys u) in
      let c = weigh-append by (keys_of tasks) (task_keys agent) in
      omega (arith, b, c);
  agent_who = same;
  agent_made = made;
}

pub put-edit : (name : Who) (f : Task → Task) (w : World) (t : Task) → task_at w name ≡ Some t → (f t).who ≡ t.who → (is_made t ≡ false → is_made (f t) ≡ false)
    →
    let v = edit_task name f w in
    Put name t (f t) w.tasks w.agent v.tasks v.agent
put-edit (who.Task k) f w t e same made =
    subst (λ found. let v = edit_task_found (who.Task k) f w found in Put (who.Task k) t (f t) w.tasks w.agent v.tasks v.agent) (sym e)
    (put-task k t (f t) w.tasks w.agent e same)
put-edit who.Agent f w t e same made =
    let is : w.agent ≡ t = cc in
    let k : (f w.agent).who ≡ w.agent.who = subst (λ (x : Task). (f x).who ≡ x.who) (sym is) same in
    let m : is_made w.agent ≡ false → is_made (f w.agent) ≡ false = subst (λ (x : Task). is_made x ≡ false → is_made (f x) ≡ false) (sym is) made in
    subst (λ (x : Task). Put who.Agent x (f x) w.tasks w.agent w.tasks (f w.agent)) is (put-agent w.tasks w.agent (f w.agent) k m)

-- an edit leaves the scopes in use and what is drawn
found-rest : (name : Who) (f : Task → Task) (w : World) (found : Option Task) →
    let v = edit_task_found name f w found in
    (v.scopes ≡ w.scopes) × (v.drawn ≡ w.drawn)
found-rest name f w None = (refl, refl)
found-rest (who.Task n) f w (Some t) = (refl, refl)
found-rest who.Agent f w (Some t) = (refl, refl)

pub edited-rest : (name : Who) (f : Task → Task) (w : World) → let v = edit_task name f w in (v.scopes ≡ w.scopes) × (v.drawn ≡ w.drawn)
edited-rest name f w = found-rest name f w (task_at w name)
