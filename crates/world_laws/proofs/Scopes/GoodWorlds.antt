-- What every world keeps of its scopes: the marks of everybody and the scopes in use weigh the same, by who has which; no number of a
-- scope and no name of a task is there twice; who is only made has no scopes; and a task's own scope is its outermost.
use Rattle.std.proofs.Common.{◌≡◌, ℕ, suc, ◌+◌, ◌≤◌, ◌<◌, Bool, true, false, cond, eqb, List, [], ◌∷◌, ◌++◌, refl, sym, ap, subst, ◌∙◌, arith, eq-eqb}
use Rattle.std.proofs.lemmas.Bool.{eqb-true, false≢true}
use Rattle.trace_text.specs.declared.events.Who.{Who}
use Rattle.trace_text.specs.declared.events.Who.TheVariants as who
use Rattle.profile_machine.specs.declared.world.World.{World}
use Rattle.profile_machine.specs.declared.world.tasks.Task.{Task}
use Rattle.profile_image.specs.Words.{same_who}
use Rattle.profile_machine.specs.Tasks.{is_made}
use Rattle.machine_laws.proofs.ListLemmas.{Falls}
use Rattle.machine_laws.proofs.QueueLemmas.{by_test}
use Rattle.world_laws.proofs.Scopes.ScopeKeys.{Key, number, falls-dropped, Weights, weigh, of_number, except}
use Rattle.world_laws.proofs.Scopes.ScopeKeys.{drop_number, dropped-weigh, dropped-less, absent-weigh, scope_keys}
use Rattle.world_laws.proofs.Scopes.TaskMarks.{Own, marks_of, keys_by, task_keys, bottomed}
use Rattle.world_laws.proofs.Scopes.Likeness.{Like, AllLike, Same, all-found, all-keys, all-named, like-keys, named, keys_of, everybody_keys}
use Rattle.world_laws.proofs.Scopes.TaskPuts.{Put}
use Rattle.line_laws.proofs.Exits.TaskEdits.{one_of, same_who-path}
use Rattle.line_laws.proofs.Exits.OpenCounts.{bit}

-- a name that was not drawn for a task
abbrev pub IsNew : ℕ → Who → Type 0
IsNew drawn (who.Task n) = drawn ≤ n.0
IsNew drawn who.Agent = Unit {0}

-- of some it is not known that they have no scopes while they are only made
pub record Good (free : Who → Bool) (tasks : List Task) (agent : Task) (keys : List Key) (drawn_tasks drawn_scopes : ℕ) : Type 0 where
  pub once : (k : ℕ) → weigh (of_number k) keys ≤ 1
  pub fresh : (k : ℕ) → drawn_scopes ≤ k → weigh (of_number k) keys ≡ 0
  pub falls : Falls number drawn_scopes keys
  pub single : (n : Who) → named n tasks ≤ 1
  pub unnamed : (n : Who) → IsNew drawn_tasks n → named n tasks ≡ 0
  pub balance : (by : Weights) → weigh by (everybody_keys tasks agent) ≡ weigh by keys
  pub made : (n : Who) → free n ≡ false → is_made (one_of tasks agent n) ≡ true → marks_of (one_of tasks agent n) ≡ []
  pub bottom : (n : Who) → bottomed (marks_of (one_of tasks agent n)) ≡ true
  pub agent_named : agent.who ≡ who.Agent
  pub agent_live : is_made agent ≡ false

abbrev pub nobody_free : Who → Bool
nobody_free n = false

abbrev pub GoodBut : (Who → Bool) → World → Type 0
GoodBut free w = Good free w.tasks w.agent (scope_keys w.scopes) w.drawn.tasks w.drawn.scopes

abbrev pub GoodWorld : World → Type 0
GoodWorld w = GoodBut nobody_free w

-- ---- worlds that are alike

like_one : (ts us : List Task) (a b : Task) (n : Who) → AllLike ts us → Like a b → Like (one_of ts a n) (one_of us b n)
like_one ts us a b (who.Task n) all agent = all-found (who.Task n) ts us all
like_one ts us a b who.Agent all agent = agent

like-good : (free : Who → Bool) (ts us : List Task) (a b : Task) (keys : List Key) (dt ds : ℕ) → AllLike ts us → Like a b → Good free ts a keys dt ds
    → Good free us b keys dt ds
like-good free ts us a b keys dt ds all agent g =
    let same : everybody_keys us b ≡ everybody_keys ts a =
    ap (λ ks. ks ++ task_keys b) (all-keys ts us all) ∙ ap (λ ks. keys_of ts ++ ks) (like-keys a b agent) in
    record {
      once = g.once;
      fresh = g.fresh;
      falls = g.falls;
      single = λ n. subst (λ m. m ≤ 1) (sym (all-named n ts us all)) (g.single n);
      unnamed = λ n fresh. all-named n ts us all ∙ g.unnamed n fresh;
      balance = λ by. ap (λ ks. weigh by ks) same ∙ g.balance by;
      made = λ n known made. let l = like_one ts us a b n all agent in l.marks ∙ g.made n known (l.made made);
      bottom = λ n. let l = like_one ts us a b n all agent in ap bottomed l.marks ∙ g.bottom n;
      agent_named = agent.who ∙ g.agent_named;
      agent_live = by_test (is_made b) (λ e. absurd (false≢true (sym g.agent_live ∙ agent.made e))) (λ e. e);
    }

pub same-good : (free : Who → Bool) (w v : World) → Same w v → GoodBut free w → GoodBut free v
same-good free w v s g =
    let h = like-good free w.tasks v.tasks w.agent v.agent (scope_keys w.scopes) w.drawn.tasks w.drawn.scopes s.tasks s.agent g in
    subst (λ k. Good free v.tasks v.agent (scope_keys v.scopes) v.drawn.tasks k) (sym s.drawn_scopes)
    (subst (λ k. Good free v.tasks v.agent (scope_keys v.scopes) k w.drawn.scopes) (sym s.drawn_tasks)
    (subst (λ ks. Good free v.tasks v.agent ks w.drawn.tasks w.drawn.scopes) (sym s.scopes) h))

-- ---- a scope begins, with the mark that has it

bottomed-opened : (k : ℕ) (task : Bool) (ms : List Own) → (task ≡ true → ms ≡ []) → bottomed ms ≡ true → bottomed ((k, task) ∷ ms) ≡ true
bottomed-opened k task [] alone e = refl
bottomed-opened k true (m ∷ ms) alone e = absurd (let clash = alone refl in cc)
bottomed-opened k false (m ∷ ms) alone e = e

pub fresh-number : (k d : ℕ) → d < k → eqb k d ≡ false
fresh-number k d e = by_test (eqb k d) (λ t. absurd (let same : k ≡ d = eqb-true k d t in omega (arith, e, same))) (λ f. f)

once-step : (k d m : ℕ) (b : Bool) → eqb k d ≡ b → m ≤ 1 → (d ≤ k → m ≡ 0) → bit b + m ≤ 1
once-step k d m true e h fresh = let same : k ≡ d = eqb-true k d e in let none = fresh (omega (arith, same)) in omega (arith, none)
once-step k d m false e h fresh = omega (arith, h)

fresh-step : (k d m : ℕ) (b : Bool) → b ≡ false → m ≡ 0 → bit b + m ≡ 0
fresh-step k d m true e h = absurd cc
fresh-step k d m false e h = omega (arith, h)

below-bottomed : (m : Own) (ms : List Own) → bottomed (m ∷ ms) ≡ true → bottomed ms ≡ true
below-bottomed m [] e = refl
below-bottomed (k, true) (n ∷ ms) e = absurd (false≢true e)
below-bottomed (k, false) (n ∷ ms) e = e

module _ {name : Who} {t u : Task} {tasks tasks_behind : List Task} {agent agent_behind : Task} (put : Put name t u tasks agent tasks_behind agent_behind)
    (t_named : t.who ≡ name) (u_named : u.who ≡ name) where
  -- by each name it is the one that was put, or the one that was there
  by_name : (P : Task → Type 0) (n : Who) → (same_who n name ≡ true → P u) → (same_who n name ≡ false → P (one_of tasks agent n))
      → P (one_of tasks_behind agent_behind n)
  by_name P n own other = by_test (same_who n name)
      (λ e. let is : n ≡ name = same_who-path n name e in subst (λ x. P (one_of tasks_behind agent_behind x)) (sym is) (subst P (sym put.is) (own e)))
      (λ e. subst P (sym (put.other n e)) (other e))

  own-task : (P : Task → Type 0) → P (one_of tasks agent name) → P t
  own-task P h = subst P put.own h

  t-keys : task_keys t ≡ keys_by name (marks_of t)
  t-keys = ap (λ n. keys_by n (marks_of t)) t_named

  u-keys : task_keys u ≡ keys_by name (marks_of u)
  u-keys = ap (λ n. keys_by n (marks_of u)) u_named

  pub begins-good : (free : Who → Bool) (keys : List Key) (dt ds : ℕ) (task : Bool) → Good free tasks agent keys dt ds → marks_of u ≡ (ds, task) ∷ marks_of t
      → (task ≡ true → marks_of t ≡ []) → (free name ≡ false → is_made u ≡ false)
      → Good free tasks_behind agent_behind ((name, ds) ∷ keys) dt (suc ds)
  begins-good free keys dt ds task g marks alone live = record {
    once = λ k. once-step k ds (weigh (of_number k) keys) (eqb k ds) refl (g.once k) (g.fresh k);
    fresh = λ k high. fresh-step k ds (weigh (of_number k) keys) (eqb k ds) (fresh-number k ds (omega (arith, high))) (g.fresh k (omega (arith, high)));
    falls = (omega arith, g.falls);
    single = λ n. subst (λ m. m ≤ 1) (sym (put.names n)) (g.single n);
    unnamed = λ n is. put.names n ∙ g.unnamed n is;
    balance = λ by.
        let a = put.weighs by in
        let b : weigh by (task_keys u) ≡ by name ds + weigh by (keys_by name (marks_of t)) =
        ap (λ ks. weigh by ks) u-keys ∙ ap (λ ms. weigh by (keys_by name ms)) marks in
        let c : weigh by (task_keys t) ≡ weigh by (keys_by name (marks_of t)) = ap (λ ks. weigh by ks) t-keys in
        let d = g.balance by in
        omega (arith, a, b, c, d);
    made = λ n known made. by_test (same_who n name)
        (λ e. let is : n ≡ name = same_who-path n name e in
        let here : is_made u ≡ true =
        subst (λ (x : Task). is_made x ≡ true) put.is (subst (λ x. is_made (one_of tasks_behind agent_behind x) ≡ true) is made) in
        absurd (false≢true (sym (live (subst (λ x. free x ≡ false) is known)) ∙ here)))
        (λ e. subst (λ (x : Task). marks_of x ≡ []) (sym (put.other n e)) (g.made n known (subst (λ (x : Task). is_made x ≡ true) (put.other n e) made)));
    bottom = λ n. by_name (λ x. bottomed (marks_of x) ≡ true) n
        (λ e. ap bottomed marks ∙ bottomed-opened ds task (marks_of t) alone (own-task (λ x. bottomed (marks_of x) ≡ true) (g.bottom name)))
        (λ e. g.bottom n);
    agent_named = put.agent_who ∙ g.agent_named;
    agent_live = put.agent_made g.agent_live;
  }

  -- ---- a scope ends, with the mark that has it

  pub ends-good : (free : Who → Bool) (keys : List Key) (dt ds k : ℕ) (task : Bool) → Good free tasks agent keys dt ds → marks_of t ≡ (k, task) ∷ marks_of u
      → (is_made u ≡ true → is_made t ≡ true) → Good free tasks_behind agent_behind (drop_number k keys) dt ds
  ends-good free keys dt ds k task g marks made = record {
    once = λ j. let a = dropped-less (of_number j) k keys in let b = g.once j in omega (arith, a, b);
    fresh = λ j high. let a = dropped-less (of_number j) k keys in let b = g.fresh j high in omega (arith, a, b);
    falls = falls-dropped k ds keys g.falls;
    single = λ n. subst (λ m. m ≤ 1) (sym (put.names n)) (g.single n);
    unnamed = λ n is. put.names n ∙ g.unnamed n is;
    balance = λ by.
        let behind = everybody_keys tasks_behind agent_behind in
        let all = everybody_keys tasks agent in
        let one : eqb k k ≡ true = eq-eqb k k refl in
        let left : (x : Weights) → x name k + weigh x behind ≡ weigh x all =
        (λ x. let a = put.weighs x in
        let b : weigh x (task_keys t) ≡ x name k + weigh x (keys_by name (marks_of u)) =
        ap (λ ks. weigh x ks) t-keys ∙ ap (λ ms. weigh x (keys_by name ms)) marks in
        let c : weigh x (task_keys u) ≡ weigh x (keys_by name (marks_of u)) = ap (λ ks. weigh x ks) u-keys in
        omega (arith, a, b, c)) in
        let none : weigh (of_number k) behind ≡ 0 =
        (let a = left (of_number k) in
        let b = g.balance (of_number k) in let c = g.once k in let d : bit (eqb k k) ≡ 1 = ap bit one in omega (arith, a, b, c, d)) in
        let a = absent-weigh by k behind none in
        let b = left (except k by) in
        let c = g.balance (except k by) in
        let d = dropped-weigh by k keys in
        let e : cond (eqb k k) 0 (by name k) ≡ 0 = ap (λ x. cond x 0 (by name k)) one in
        omega (arith, a, b, c, d, e);
    made = λ n known is. by_test (same_who n name)
        (λ e. let same : n ≡ name = same_who-path n name e in
        let here : is_made u ≡ true =
        subst (λ (x : Task). is_made x ≡ true) put.is (subst (λ x. is_made (one_of tasks_behind agent_behind x) ≡ true) same is) in
        let none : marks_of t ≡ [] =
        own-task (λ x. marks_of x ≡ [])
        (g.made name (subst (λ x. free x ≡ false) same known) (subst (λ (x : Task). is_made x ≡ true) (sym put.own) (made here))) in
        absurd (let clash : (k, task) ∷ marks_of u ≡ [] = sym marks ∙ none in cc))
        (λ e. subst (λ (x : Task). marks_of x ≡ []) (sym (put.other n e)) (g.made n known (subst (λ (x : Task). is_made x ≡ true) (put.other n e) is)));
    bottom = λ n. by_name (λ x. bottomed (marks_of x) ≡ true) n
        (λ e. below-bottomed (k, task) (marks_of u) (subst (λ ms. bottomed ms ≡ true) marks (own-task (λ x. bottomed (marks_of x) ≡ true) (g.bottom name))))
        (λ e. g.bottom n);
    agent_named = put.agent_who ∙ g.agent_named;
    agent_live = put.agent_made g.agent_live;
  }

-- a task's own scope stands alone
alone-below : (k : ℕ) (ms : List Own) → bottomed ((k, true) ∷ ms) ≡ true → ms ≡ []
alone-below k [] e = refl
alone-below k (m ∷ ms) e = absurd (false≢true e)

pub own-alone : (k : ℕ) (task : Bool) (ms : List Own) → task ≡ true → bottomed ((k, task) ∷ ms) ≡ true → ms ≡ []
own-alone k task ms e h = alone-below k ms (subst (λ b. bottomed ((k, b) ∷ ms) ≡ true) e h)

-- ---- who was only made becomes ready

pub freed-good : (name : Who) (t u : Task) (tasks : List Task) (agent : Task) (tasks_behind : List Task) (agent_behind : Task) (keys : List Key) (dt ds : ℕ)
    → Put name t u tasks agent tasks_behind agent_behind
    → Good (λ n. same_who n name) tasks agent keys dt ds → Like t u → is_made u ≡ false → Good nobody_free tasks_behind agent_behind keys dt ds
freed-good name t u tasks agent tasks_behind agent_behind keys dt ds put g like live = record {
  once = g.once;
  fresh = g.fresh;
  falls = g.falls;
  single = λ n. subst (λ m. m ≤ 1) (sym (put.names n)) (g.single n);
  unnamed = λ n is. put.names n ∙ g.unnamed n is;
  balance = λ by. let a = put.weighs by in let b = ap (λ ks. weigh by ks) (like-keys t u like) in let d = g.balance by in omega (arith, a, b, d);
  made = λ n known is. by_test (same_who n name)
      (λ e. let same : n ≡ name = same_who-path n name e in
      let here : is_made u ≡ true = subst (λ (x : Task). is_made x ≡ true) put.is (subst (λ x. is_made (one_of tasks_behind agent_behind x) ≡ true) same is) in
      absurd (false≢true (sym live ∙ here)))
      (λ e. subst (λ (x : Task). marks_of x ≡ []) (sym (put.other n e)) (g.made n e (subst (λ (x : Task). is_made x ≡ true) (put.other n e) is)));
  bottom = λ n. by_test (same_who n name)
      (λ e. let same : n ≡ name = same_who-path n name e in
      subst (λ x. bottomed (marks_of (one_of tasks_behind agent_behind x)) ≡ true) (sym same) (subst (λ (x : Task). bottomed (marks_of x) ≡ true) (sym put.is)
      (ap bottomed like.marks ∙ subst (λ (x : Task). bottomed (marks_of x) ≡ true) put.own (g.bottom name))))
      (λ e. subst (λ (x : Task). bottomed (marks_of x) ≡ true) (sym (put.other n e)) (g.bottom n));
  agent_named = put.agent_who ∙ g.agent_named;
  agent_live = put.agent_made g.agent_live;
}

pub weakened : (free : Who → Bool) (tasks : List Task) (agent : Task) (keys : List Key) (dt ds : ℕ) → Good nobody_free tasks agent keys dt ds
    → Good free tasks agent keys dt ds
weakened free tasks agent keys dt ds g = record {
  once = g.once;
  fresh = g.fresh;
  falls = g.falls;
  single = g.single;
  unnamed = g.unnamed;
  balance = g.balance;
  made = λ n known is. g.made n refl is;
  bottom = g.bottom;
  agent_named = g.agent_named;
  agent_live = g.agent_live;
}

-- ---- an edit that leaves the scopes of marks

pub marks-good : (free : Who → Bool) (name : Who) (t u : Task) (tasks : List Task) (agent : Task) (tasks_behind : List Task) (agent_behind : Task)
    (keys : List Key) (dt ds : ℕ)
    → Put name t u tasks agent tasks_behind agent_behind
    → Good free tasks agent keys dt ds → u.who ≡ t.who → marks_of u ≡ marks_of t → (is_made u ≡ true → is_made t ≡ true)
    → Good free tasks_behind agent_behind keys dt ds
marks-good free name t u tasks agent tasks_behind agent_behind keys dt ds put g same_name marks made = record {
  once = g.once;
  fresh = g.fresh;
  falls = g.falls;
  single = λ n. subst (λ m. m ≤ 1) (sym (put.names n)) (g.single n);
  unnamed = λ n is. put.names n ∙ g.unnamed n is;
  balance =
      λ by. let a = put.weighs by in
      let b : weigh by (task_keys u) ≡ weigh by (task_keys t) =
      ap (λ n. weigh by (keys_by n (marks_of u))) same_name ∙ ap (λ ms. weigh by (keys_by t.who ms)) marks in
      let d = g.balance by in omega (arith, a, b, d);
  made = λ n known is. by_test (same_who n name)
      (λ e. let same : n ≡ name = same_who-path n name e in
      let here : is_made u ≡ true = subst (λ (x : Task). is_made x ≡ true) put.is (subst (λ x. is_made (one_of tasks_behind agent_behind x) ≡ true) same is) in
      let there : marks_of t ≡ [] =
      subst (λ (x : Task). marks_of x ≡ []) put.own
      (g.made name (subst (λ x. free x ≡ false) same known) (subst (λ (x : Task). is_made x ≡ true) (sym put.own) (made here))) in
      subst (λ x. marks_of (one_of tasks_behind agent_behind x) ≡ []) (sym same) (subst (λ (x : Task). marks_of x ≡ []) (sym put.is) (marks ∙ there)))
      (λ e. subst (λ (x : Task). marks_of x ≡ []) (sym (put.other n e)) (g.made n known (subst (λ (x : Task). is_made x ≡ true) (put.other n e) is)));
  bottom = λ n. by_test (same_who n name)
      (λ e. let same : n ≡ name = same_who-path n name e in
      subst (λ x. bottomed (marks_of (one_of tasks_behind agent_behind x)) ≡ true) (sym same) (subst (λ (x : Task). bottomed (marks_of x) ≡ true) (sym put.is)
      (ap bottomed marks ∙ subst (λ (x : Task). bottomed (marks_of x) ≡ true) put.own (g.bottom name))))
      (λ e. subst (λ (x : Task). bottomed (marks_of x) ≡ true) (sym (put.other n e)) (g.bottom n));
  agent_named = put.agent_who ∙ g.agent_named;
  agent_live = put.agent_made g.agent_live;
}
