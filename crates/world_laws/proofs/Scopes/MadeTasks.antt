-- Tasks that are only made have no scopes: each is the one of its name, is another than who acts, and may be gone or begin.
use Rattle.std.proofs.Common.{◌≡◌, ℕ, ◌+◌, ◌≤◌, ◌<◌, Bool, true, false, cond, List, [], ◌∷◌, Some, refl, sym, ap, subst, ◌∙◌, arith}
use Rattle.std.proofs.lemmas.Bool.{false≢true}
use Rattle.std.specs.Prelude.{filter, find, unwrap_or}
use Rattle.trace_text.specs.declared.events.Who.{Who}
use Rattle.trace_text.specs.declared.events.Who.TheVariants as who
use Rattle.profile_machine.specs.declared.world.World.{World}
use Rattle.profile_machine.specs.declared.world.tasks.Task.{Task}
use Rattle.profile_image.specs.Words.{same_who}
use Rattle.profile_machine.specs.Tasks.{is_who, is_made, nobody, task_of}
use Rattle.world_laws.proofs.Scopes.FineMoves.{Live}
use Rattle.world_laws.proofs.Scopes.TaskMarks.{marks_of}
use Rattle.world_laws.proofs.Scopes.Likeness.{Same, named, all-named}
use Rattle.world_laws.proofs.Scopes.TaskPuts.{same_who-self, same_who-flip}
use Rattle.world_laws.proofs.Scopes.GoodWorlds.{GoodWorld}
use Rattle.world_laws.proofs.Scopes.ScopeSteps.{There}
use Rattle.world_laws.proofs.Scopes.ActingMoves.{ActingWorld, NoScopes}
use Rattle.line_laws.proofs.Exits.TaskEdits.{one_of-is, same_who-path}
use Rattle.line_laws.proofs.Exits.OpenCounts.{bit}
use Rattle.machine_laws.proofs.QueueLemmas.{by_test}

-- ---- a task that is there, by its name

abbrev pub Present : Who → World → Type 0
Present n w = 0 < named n w.tasks

found-step : (n : Who) (z : Task) (zs : List Task) (b : Bool) → is_who n z ≡ b → 0 < bit b + named n zs
    → (0 < named n zs → (t : Task) × (find (is_who n) zs ≡ Some t)) → (t : Task) × (cond b (Some z) (find (is_who n) zs) ≡ Some t)
found-step n z zs true e more onward = (z, refl)
found-step n z zs false e more onward = onward (omega (arith, more))

named-found : (n : Who) (ts : List Task) → 0 < named n ts → (t : Task) × (find (is_who n) ts ≡ Some t)
named-found n [] more = absurd (omega (arith, more))
named-found n (z ∷ zs) more = found-step n z zs (is_who n z) refl more (named-found n zs)

pub present-there : (n : Who) (w : World) → Present n w → There n w
present-there (who.Task k) w more = let h = named-found (who.Task k) w.tasks more in record { task = h.0; found = h.1 }
present-there who.Agent w more = record { task = w.agent; found = refl }

pub same-present : (w v : World) → Same w v → (n : Who) → Present n w → Present n v
same-present w v s n more = subst (λ m. 0 < m) (sym (all-named n w.tasks v.tasks s.tasks)) more

-- ---- each of some tasks

abbrev pub Each : (Task → Type 0) → List Task → Type 0
Each P [] = Unit {0}
Each P (t ∷ ts) = P t × Each P ts

pub each-on : (P R : Task → Type 0) (ts : List Task) → ((t : Task) → P t → R t) → Each P ts → Each R ts
each-on P R [] k h = tt
each-on P R (t ∷ ts) k h = (k t h.0, each-on P R ts k h.1)

pub each-both : (P R S : Task → Type 0) (ts : List Task) → ((t : Task) → P t → R t → S t) → Each P ts → Each R ts → Each S ts
each-both P R S [] k g h = tt
each-both P R S (t ∷ ts) k g h = (k t g.0 h.0, each-both P R S ts k g.1 h.1)

filter-step : (P : Task → Type 0) (test : Task → Bool) (t : Task) (ts : List Task) (b : Bool) → test t ≡ b → P t → Each (λ u. (test u ≡ true) × P u) ts
    → Each (λ u. (test u ≡ true) × P u) (cond b (t ∷ ts) ts)
filter-step P test t ts true e h each = ((e, h), each)
filter-step P test t ts false e h each = each

pub each-filter : (P : Task → Type 0) (test : Task → Bool) (ts : List Task) → Each P ts → Each (λ u. (test u ≡ true) × P u) (filter test ts)
each-filter P test [] h = tt
each-filter P test (t ∷ ts) h = filter-step P test t (filter test ts) (test t) refl h.0 (each-filter P test ts h.1)

-- no two of them have a name
abbrev pub Distinct : List Task → Type 0
Distinct [] = Unit {0}
Distinct (t ∷ ts) = Each (λ u. same_who u.who t.who ≡ false) ts × Distinct ts

distinct-step : (test : Task → Bool) (t : Task) (ts left : List Task) (b : Bool) → Each (λ u. same_who u.who t.who ≡ false) left → Distinct left
    → Distinct (cond b (t ∷ left) left)
distinct-step test t ts left true apart rest = (apart, rest)
distinct-step test t ts left false apart rest = rest

pub distinct-filter : (test : Task → Bool) (ts : List Task) → Distinct ts → Distinct (filter test ts)
distinct-filter test [] h = tt
distinct-filter test (t ∷ ts) h =
    distinct-step test t ts (filter test ts) (test t)
    (each-on (λ u. (test u ≡ true) × (same_who u.who t.who ≡ false)) (λ u. same_who u.who t.who ≡ false) (filter test ts) (λ u k. k.1)
    (each-filter (λ u. same_who u.who t.who ≡ false) test ts h.0))
    (distinct-filter test ts h.1)

no-bit : (b : Bool) (m : ℕ) → bit b + m ≡ 0 → (b ≡ false) × (m ≡ 0)
no-bit true m e = absurd (omega (arith, e))
no-bit false m e = (refl, omega (arith, e))

absent-apart : (n : Who) (ts : List Task) → named n ts ≡ 0 → Each (λ u. same_who u.who n ≡ false) ts
absent-apart n [] e = tt
absent-apart n (t ∷ ts) e = let h = no-bit (is_who n t) (named n ts) e in (same_who-flip n t.who h.0, absent-apart n ts h.1)

head-alone : (t : Task) (ts : List Task) → named t.who (t ∷ ts) ≤ 1 → named t.who ts ≡ 0
head-alone t ts one =
    let self = ap bit (same_who-self t.who) in
    let k : bit (is_who t.who t) ≡ 1 = self in let l : bit (is_who t.who t) + named t.who ts ≤ 1 = one in omega (arith, k, l)

tail-single : (n : Who) (t : Task) (ts : List Task) → named n (t ∷ ts) ≤ 1 → named n ts ≤ 1
tail-single n t ts one = let l : bit (is_who n t) + named n ts ≤ 1 = one in omega (arith, l)

pub single-distinct : (ts : List Task) → ((n : Who) → named n ts ≤ 1) → Distinct ts
single-distinct [] one = tt
single-distinct (t ∷ ts) one = (absent-apart t.who ts (head-alone t ts (one t.who)), single-distinct ts (λ n. tail-single n t ts (one n)))

-- each is the one of its name, and is there
abbrev IsFound : List Task → Task → Type 0
IsFound ts t = (find (is_who t.who) ts ≡ Some t) × (0 < named t.who ts)

found-later : (t u : Task) (ts : List Task) → same_who u.who t.who ≡ false → IsFound ts u → IsFound (t ∷ ts) u
found-later t u ts apart h = (ap (λ b. cond b (Some t) (find (is_who u.who) ts)) apart ∙ h.0, (let k : 0 < named u.who ts = h.1 in omega (arith, k)))

found-first : (t : Task) (ts : List Task) → IsFound (t ∷ ts) t
found-first t ts =
    let self = same_who-self t.who in
    (ap (λ b. cond b (Some t) (find (is_who t.who) ts)) self, (let k : bit (is_who t.who t) ≡ 1 = ap bit self in omega (arith, k)))

each-found : (ts : List Task) → Distinct ts → Each (IsFound ts) ts
each-found [] h = tt
each-found (t ∷ ts) h = (
  found-first t ts,
  each-both (λ u. same_who u.who t.who ≡ false) (IsFound ts) (IsFound (t ∷ ts)) ts (λ u apart found. found-later t u ts apart found) h.0
      (each-found ts h.1),
)

-- ---- those that are only made

pub record Idle (me n : Who) (w : World) : Type 0 where
  pub none : NoScopes n w
  pub present : Present n w
  pub other : same_who me n ≡ false

pub record MadeIs (me : Who) (w : World) (t : Task) : Type 0 where
  pub is : task_of w t.who ≡ t
  pub idle : is_made t ≡ true → Idle me t.who w

agent-apart : (w : World) → GoodWorld w → Each (λ u. same_who u.who who.Agent ≡ false) w.tasks
agent-apart w g = absent-apart who.Agent w.tasks (g.unnamed who.Agent tt)

found-is : (w : World) (n : Who) (t : Task) → find (is_who n) w.tasks ≡ Some t → same_who n who.Agent ≡ false → task_of w n ≡ t
found-is w (who.Task k) t e apart = ap (λ found. unwrap_or found nobody) e
found-is w who.Agent t e apart = absurd cc

made-is : (me : Who) (w : World) → ActingWorld me w → (t : Task) → IsFound w.tasks t → same_who t.who who.Agent ≡ false → MadeIs me w t
made-is me w g t found apart =
    let is = found-is w t.who t found.0 apart in
    let rules = g.0 in
    record {
      is = is;
      idle = λ made. record {
        none = subst (λ (x : Task). marks_of x ≡ []) (one_of-is w t.who) (rules.made t.who refl (ap is_made (one_of-is w t.who ∙ is) ∙ made));
        present = found.1;
        other = by_test (same_who me t.who)
            (λ e. absurd (let same : me ≡ t.who = same_who-path me t.who e in
            let live : is_made t ≡ false = subst (λ (x : Task). is_made x ≡ false) is (subst (λ x. Live x w) same g.1) in false≢true (sym live ∙ made)))
            (λ e. e);
      };
    }

pub listed-made : (me : Who) (w : World) → ActingWorld me w → Each (MadeIs me w) w.tasks
listed-made me w g =
    let rules = g.0 in
    each-both (IsFound w.tasks) (λ u. same_who u.who who.Agent ≡ false) (MadeIs me w) w.tasks (λ t found apart. made-is me w g t found apart)
    (each-found w.tasks (single-distinct w.tasks rules.single)) (agent-apart w g.0)
