-- A task comes, as the last, and tasks of a name are gone: what stays of the names, the keys, and who is found.
use Rattle.std.proofs.Common.{◌≡◌, ℕ, suc, ◌+◌, ◌≤◌, Bool, true, false, cond, not, List, [], ◌∷◌, ◌++◌, Some, refl, sym, ap, subst, ◌∙◌, arith}
use Rattle.std.specs.Prelude.{find, unwrap_or}
use Rattle.trace_text.specs.declared.events.Who.{Who}
use Rattle.trace_text.specs.declared.events.Who.TheVariants as who
use Rattle.profile_machine.specs.declared.world.tasks.Task.{Task}
use Rattle.profile_image.specs.Words.{same_who, without}
use Rattle.profile_machine.specs.Tasks.{is_who, is_made, nobody}
use Rattle.world_laws.proofs.Scopes.ScopeKeys.{Key, Weights, weigh, weigh-append}
use Rattle.world_laws.proofs.Scopes.TaskMarks.{marks_of, keys_by, task_keys, bottomed}
use Rattle.world_laws.proofs.Scopes.Likeness.{named, keys_of}
use Rattle.world_laws.proofs.Scopes.GoodWorlds.{IsNew, Good, fresh-number}
use Rattle.line_laws.proofs.Exits.TaskEdits.{added-among, apart-names, left-where, one_of, others-left, same_who-path}
use Rattle.line_laws.proofs.Exits.OpenCounts.{bit}

-- ---- one that comes

pub added : (P : Task → Type 0) (n : Who) (x : Task) (ts : List Task) (agent : Task) → P x → P nobody → P (one_of ts agent n)
    → P (one_of (ts ++ x ∷ []) agent n)
added P (who.Task n) x ts agent new blank h = added-among P n x ts new blank h
added P who.Agent x ts agent new blank h = h

named-added : (n : Who) (x : Task) (ts : List Task) → named n (ts ++ x ∷ []) ≡ named n ts + bit (is_who n x)
named-added n x [] = omega arith
named-added n x (t ∷ ts) = let e = named-added n x ts in omega (arith, e)

keys-added : (by : Weights) (x : Task) (ts : List Task) → weigh by (keys_of (ts ++ x ∷ [])) ≡ weigh by (keys_of ts) + weigh by (task_keys x)
keys-added by x [] = let a = weigh-append by (task_keys x) [] in omega (arith, a)
keys-added by x (t ∷ ts) =
    let a = weigh-append by (task_keys t) (keys_of (ts ++ x ∷ [])) in
    let b = weigh-append by (task_keys t) (keys_of ts) in
    let c = keys-added by x ts in
    omega (arith, a, b, c)

-- without scopes it has no keys
no-keys : (by : Weights) (x : Task) → marks_of x ≡ [] → weigh by (task_keys x) ≡ 0
no-keys by x none = ap (λ ms. weigh by (keys_by x.who ms)) none

single-added : (n : Who) (x : Task) (d m : ℕ) (b : Bool) → is_who n x ≡ b → x.who ≡ who.Task (record { 0 = d }) → m ≤ 1 → (IsNew d n → m ≡ 0) → m + bit b ≤ 1
single-added n x d m true e named_so one fresh =
    let is : n ≡ who.Task (record { 0 = d }) = same_who-path n x.who e ∙ named_so in
    let new : IsNew d n = subst (IsNew d) (sym is) (omega arith) in
    let none = fresh new in
    omega (arith, none)
single-added n x d m false e named_so one fresh = omega (arith, one)

other-new : (n : Who) (x : Task) (d : ℕ) → x.who ≡ who.Task (record { 0 = d }) → IsNew (suc d) n → is_who n x ≡ false
other-new (who.Task n) x d named_so new = ap (same_who (who.Task n)) named_so ∙ fresh-number n.0 d new
other-new who.Agent x d named_so new = ap (same_who who.Agent) named_so

older : (d : ℕ) (n : Who) → IsNew (suc d) n → IsNew d n
older d (who.Task n) new = omega (arith, new)
older d who.Agent new = tt

unnamed-added : (m : ℕ) (b : Bool) → b ≡ false → m ≡ 0 → m + bit b ≡ 0
unnamed-added m true e h = absurd cc
unnamed-added m false e h = omega (arith, h)

pub adds-good : (free : Who → Bool) (x : Task) (tasks : List Task) (agent : Task) (keys : List Key) (dt ds : ℕ) → Good free tasks agent keys dt ds
    → x.who ≡ who.Task (record { 0 = dt }) → marks_of x ≡ [] → Good free (tasks ++ x ∷ []) agent keys (suc dt) ds
adds-good free x tasks agent keys dt ds g named_so none = record {
  once = g.once;
  fresh = g.fresh;
  falls = g.falls;
  single = λ n. subst (λ m. m ≤ 1) (sym (named-added n x tasks)) (single-added n x dt (named n tasks) (is_who n x) refl named_so (g.single n) (g.unnamed n));
  unnamed = λ n new. named-added n x tasks ∙ unnamed-added (named n tasks) (is_who n x) (other-new n x dt named_so new) (g.unnamed n (older dt n new));
  balance = λ by.
      let a = weigh-append by (keys_of (tasks ++ x ∷ [])) (task_keys agent) in
      let b = keys-added by x tasks in
      let c = no-keys by x none in
      let d = weigh-append by (keys_of tasks) (task_keys agent) in
      let e = g.balance by in
      omega (arith, a, b, c, d, e);
  made = λ n known. added (λ t. is_made t ≡ true → marks_of t ≡ []) n x tasks agent (λ made. none) (λ made. refl) (g.made n known);
  bottom = λ n. added (λ t. bottomed (marks_of t) ≡ true) n x tasks agent (ap bottomed none) refl (g.bottom n);
  agent_named = g.agent_named;
  agent_live = g.agent_live;
}

-- ---- those of a name that are gone

pub gone : (P : Task → Type 0) (m n : Who) (ts : List Task) (agent : Task) → P nobody → P (one_of ts agent m) → P (one_of (without (is_who n) ts) agent m)
gone P (who.Task k) n ts agent blank h = left-where P (who.Task k) n ts (same_who (who.Task k) n) refl blank h
gone P who.Agent n ts agent blank h = h

-- of another, whatever it is
pub gone-other : (P : Task → Type 0) (m n : Who) (ts : List Task) (agent : Task) → same_who m n ≡ false → P (one_of ts agent m)
    → P (one_of (without (is_who n) ts) agent m)
gone-other P (who.Task k) n ts agent apart h = others-left P (who.Task k) n ts apart h
gone-other P who.Agent n ts agent apart h = h

fewer-step : (m : Who) (z : Task) (zs left : List Task) (b : Bool) → named m left ≤ named m zs
    → named m (cond (not b) (z ∷ left) left) ≤ bit (is_who m z) + named m zs
fewer-step m z zs left true e = omega (arith, e)
fewer-step m z zs left false e = omega (arith, e)

fewer-named : (m n : Who) (ts : List Task) → named m (without (is_who n) ts) ≤ named m ts
fewer-named m n [] = omega arith
fewer-named m n (z ∷ zs) = fewer-step m z zs (without (is_who n) zs) (is_who n z) (fewer-named m n zs)

absent-step : (n : Who) (z : Task) (zs left : List Task) (b : Bool) → bit b + named n zs ≡ 0 → (named n zs ≡ 0 → left ≡ zs)
    → cond (not b) (z ∷ left) left ≡ z ∷ zs
absent-step n z zs left true e onward = absurd (omega (arith, e))
absent-step n z zs left false e onward = ap (λ ts. z ∷ ts) (onward (omega (arith, e)))

absent-without : (n : Who) (ts : List Task) → named n ts ≡ 0 → without (is_who n) ts ≡ ts
absent-without n [] e = refl
absent-without n (z ∷ zs) e = absent-step n z zs (without (is_who n) zs) (is_who n z) e (absent-without n zs)

gone-weigh-step : (by : Weights) (n : Who) (z : Task) (zs : List Task) (b : Bool) → bit b + named n zs ≤ 1
    → marks_of (unwrap_or (cond b (Some z) (find (is_who n) zs)) nobody) ≡ []
    → (named n zs ≤ 1 → marks_of (unwrap_or (find (is_who n) zs) nobody) ≡ [] → weigh by (keys_of (without (is_who n) zs)) ≡ weigh by (keys_of zs))
    → weigh by (keys_of (cond (not b) (z ∷ without (is_who n) zs) (without (is_who n) zs))) ≡ weigh by (task_keys z ++ keys_of zs)
gone-weigh-step by n z zs true one none onward =
    let zero_left : named n zs ≡ 0 = omega (arith, one) in
    let a = ap (λ ts. weigh by (keys_of ts)) (absent-without n zs zero_left) in
    let b = no-keys by z none in
    let c = weigh-append by (task_keys z) (keys_of zs) in
    omega (arith, a, b, c)
gone-weigh-step by n z zs false one none onward =
    let a = weigh-append by (task_keys z) (keys_of (without (is_who n) zs)) in
    let b = onward (omega (arith, one)) none in
    let c = weigh-append by (task_keys z) (keys_of zs) in
    omega (arith, a, b, c)

gone-weigh : (by : Weights) (n : Who) (ts : List Task) → named n ts ≤ 1 → marks_of (unwrap_or (find (is_who n) ts) nobody) ≡ []
    → weigh by (keys_of (without (is_who n) ts)) ≡ weigh by (keys_of ts)
gone-weigh by n [] one none = refl
gone-weigh by n (z ∷ zs) one none = gone-weigh-step by n z zs (is_who n z) one none (gone-weigh by n zs)

gone-weigh-all : (free : Who → Bool) (by : Weights) (n : Who) (tasks : List Task) (agent : Task) (keys : List Key) (dt ds : ℕ)
    → Good free tasks agent keys dt ds → marks_of (one_of tasks agent n) ≡ [] → weigh by (keys_of (without (is_who n) tasks)) ≡ weigh by (keys_of tasks)
gone-weigh-all free by (who.Task k) tasks agent keys dt ds g none = gone-weigh by (who.Task k) tasks (g.single (who.Task k)) none
gone-weigh-all free by who.Agent tasks agent keys dt ds g none = ap (λ ts. weigh by (keys_of ts)) (absent-without who.Agent tasks (g.unnamed who.Agent tt))

pub forgets-good : (free : Who → Bool) (name : Who) (tasks : List Task) (agent : Task) (keys : List Key) (dt ds : ℕ) → Good free tasks agent keys dt ds
    → marks_of (one_of tasks agent name) ≡ [] → Good free (without (is_who name) tasks) agent keys dt ds
forgets-good free name tasks agent keys dt ds g none = record {
  once = g.once;
  fresh = g.fresh;
  falls = g.falls;
  single = λ n. let a = fewer-named n name tasks in let b = g.single n in omega (arith, a, b);
  unnamed = λ n new. let a = fewer-named n name tasks in let b = g.unnamed n new in omega (arith, a, b);
  balance = λ by.
      let a = weigh-append by (keys_of (without (is_who name) tasks)) (task_keys agent) in
      let b = gone-weigh-all free by name tasks agent keys dt ds g none in
      let d = weigh-append by (keys_of tasks) (task_keys agent) in
      let e = g.balance by in
      omega (arith, a, b, d, e);
  made = λ n known. gone (λ t. is_made t ≡ true → marks_of t ≡ []) n name tasks agent (λ made. refl) (g.made n known);
  bottom = λ n. gone (λ t. bottomed (marks_of t) ≡ true) n name tasks agent refl (g.bottom n);
  agent_named = g.agent_named;
  agent_live = g.agent_live;
}

-- the others of them are as many
named-other-step : (m n : Who) (z : Task) (zs left : List Task) (b : Bool) → is_who n z ≡ b → same_who m n ≡ false → named m left ≡ named m zs
    → named m (cond (not b) (z ∷ left) left) ≡ bit (is_who m z) + named m zs
named-other-step m n z zs left true e apart onward = let k : bit (is_who m z) ≡ 0 = ap bit (apart-names m n z.who apart e) in omega (arith, onward, k)
named-other-step m n z zs left false e apart onward = omega (arith, onward)

pub named-other : (m n : Who) (ts : List Task) → same_who m n ≡ false → named m (without (is_who n) ts) ≡ named m ts
named-other m n [] apart = refl
named-other m n (z ∷ zs) apart = named-other-step m n z zs (without (is_who n) zs) (is_who n z) refl apart (named-other m n zs apart)
