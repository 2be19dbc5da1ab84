-- The tasks of a good world, one by one: each is found by its name.
use Rattle.std.proofs.Common.{◌≡◌, ℕ, suc, ◌≤◌, ◌<◌, Bool, true, false, cond, eqb, List, [], ◌∷◌, Some, None, refl, sym, ap, ◌∙◌, arith}
use Rattle.std.specs.Prelude.{filter, find, unwrap_or}
use Rattle.std.specs.List.{list_all}
use Rattle.std.proofs.lemmas.Bool.{and_parts, eqb-true, eq-eqb, true≢false}
use Rattle.ann_base.specs.declared.identities.CallNo.{CallNo}
use Rattle.trace_text.specs.declared.events.Who.{Who}
use Rattle.trace_text.specs.declared.events.Who.TheVariants as who
use Rattle.profile_image.specs.declared.image.Image.{Image}
use Rattle.profile_machine.specs.declared.world.World.{World}
use Rattle.profile_machine.specs.declared.world.tasks.State.{State}
use Rattle.profile_machine.specs.declared.world.tasks.State.TheVariants.{Made, Runnable, Blocked}
use Rattle.profile_machine.specs.declared.world.tasks.Task.{Task}
use Rattle.profile_image.specs.Words.{same_who}
use Rattle.profile_machine.specs.Tasks.{is_who, is_made, is_made_state, nobody, task_of, waiting_in}
use Rattle.profile_machine.specs.WellFormed.{number_in}
use Rattle.machine_laws.proofs.ListLemmas.{Rises}
use Rattle.world_laws.proofs.Queues.Standing.{Awake, Good, is_named, is_task, task_number, waits_end}

abbrev pub AllTasks : (Task → Type 0) → List Task → Type 0
AllTasks P [] = Unit {0}
AllTasks P (t ∷ ts) = P t × AllTasks P ts

pub map-all : (P Q : Task → Type 0) → ((t : Task) → P t → Q t) → (ts : List Task) → AllTasks P ts → AllTasks Q ts
map-all P Q f [] all = tt
map-all P Q f (t ∷ ts) all = (f t all.0, map-all P Q f ts all.1)

pub pair-all : (P Q : Task → Type 0) (ts : List Task) → AllTasks P ts → AllTasks Q ts → AllTasks (λ t. P t × Q t) ts
pair-all P Q [] one two = tt
pair-all P Q (t ∷ ts) one two = ((one.0, two.0), pair-all P Q ts one.1 two.1)

pub filter-all : (P : Task → Type 0) (test : Task → Bool) (ts : List Task) → AllTasks P ts → AllTasks (λ t. P t × (test t ≡ true)) (filter test ts)
filter-all P test [] all = tt
filter-all P test (t ∷ ts) all = step (test t) refl (filter-all P test ts all.1) where
  step : (b : Bool) → test t ≡ b → AllTasks (λ u. P u × (test u ≡ true)) (filter test ts)
      → AllTasks (λ u. P u × (test u ≡ true)) (cond b (t ∷ filter test ts) (filter test ts))
  step true is rest = ((all.0, is), rest)
  step false is rest = rest

above : (low top : ℕ) (ts : List Task) → Rises task_number low top ts → AllTasks (λ t. low ≤ task_number t) ts
above low top [] h = tt
above low top (t ∷ ts) h = (
  h.0,
  map-all (λ u. suc (task_number t) ≤ task_number u) (λ u. low ≤ task_number u)
      (λ u higher. let first : low ≤ task_number t = h.0 in omega (arith, first, higher)) ts (above (suc (task_number t)) top ts h.1),
)

named-each : (ts : List Task) → list_all is_named ts ≡ true → AllTasks (λ t. is_named t ≡ true) ts
named-each [] h = tt
named-each (t ∷ ts) h = let parts = and_parts (is_named t) (list_all is_named ts) h in (parts.0, named-each ts parts.1)

not-equal : (m n : ℕ) → n < m → eqb m n ≡ false
not-equal m n less = by_test (eqb m n) refl where
  by_test : (b : Bool) → eqb m n ≡ b → b ≡ false
  by_test true e = let same : m ≡ n = eqb-true m n e in absurd (omega (arith, less, same))
  by_test false e = refl

other-names : (a b : Who) → is_task a ≡ true → is_task b ≡ true → number_in b < number_in a → same_who a b ≡ false
other-names (who.Task m) (who.Task n) one two less = not-equal m.0 n.0 less
other-names (who.Task m) who.Agent one two less = absurd (true≢false (sym two))
other-names who.Agent b one two less = absurd (true≢false (sym one))

self-named : (a : Who) → same_who a a ≡ true
self-named (who.Task t) = eq-eqb t.0 t.0 refl
self-named who.Agent = refl

found-each : (low top : ℕ) (ts : List Task) → Rises task_number low top ts → list_all is_named ts ≡ true → AllTasks (λ t. find (is_who t.who) ts ≡ Some t) ts
found-each low top [] h named = tt
found-each low top (t ∷ ts) h named =
    let parts = and_parts (is_named t) (list_all is_named ts) named in (
      ap (λ b. cond b (Some t) (find (is_who t.who) ts)) (self-named t.who),
      map-all (λ u. (find (is_who u.who) ts ≡ Some u) × ((suc (task_number t) ≤ task_number u) × (is_named u ≡ true)))
          (λ u. find (is_who u.who) (t ∷ ts) ≡ Some u)
          (λ u x. ap (λ b. cond b (Some t) (find (is_who u.who) ts))
          (other-names u.who t.who x.1.1 parts.0 (let higher : suc (task_number t) ≤ task_number u = x.1.0 in omega (arith, higher)))
          ∙ x.0) ts
          (pair-all (λ u. find (is_who u.who) ts ≡ Some u) (λ u. (suc (task_number t) ≤ task_number u) × (is_named u ≡ true)) ts
          (found-each (suc (task_number t)) top ts h.1 parts.1)
          (pair-all (λ u. suc (task_number t) ≤ task_number u) (λ u. is_named u ≡ true) ts (above (suc (task_number t)) top ts h.1) (named-each ts parts.1))),
    )

at-name : (w : World) (t : Task) (name : Who) → is_task name ≡ true → find (is_who name) w.tasks ≡ Some t → task_of w name ≡ t
at-name w t (who.Task n) named is = ap (λ x. unwrap_or x nobody) is
at-name w t who.Agent named is = absurd (true≢false (sym named))

-- each is found by its name, which is that of a task
pub listed-each : (p : Image) (w : World) → Good p w → AllTasks (λ t. (task_of w t.who ≡ t) × (is_named t ≡ true)) w.tasks
listed-each p w good =
    map-all (λ t. (find (is_who t.who) w.tasks ≡ Some t) × (is_named t ≡ true)) (λ t. (task_of w t.who ≡ t) × (is_named t ≡ true))
    (λ t x. (at-name w t t.who x.1 x.0, x.1)) w.tasks
    (pair-all (λ t. find (is_who t.who) w.tasks ≡ Some t) (λ t. is_named t ≡ true) w.tasks (found-each 0 w.drawn.tasks w.tasks good.objects.1 good.named)
    (named-each w.tasks good.named))

pub none-waits : (c : CallNo) → None ≡ waits_end c → ⊥
none-waits c e = cc

made-waiting : (s : State) → is_made_state s ≡ true → waiting_in s ≡ None
made-waiting Made h = refl
made-waiting Runnable h = absurd (true≢false (sym h))
made-waiting (Blocked waiting) h = absurd (true≢false (sym h))

made-one : (w : World) (t : Task) → task_of w t.who ≡ t → is_made t ≡ true → Awake t.who w
unfolding Awake
made-one w t is made c d waits e = none-waits c (sym (made-waiting t.state made) ∙ (ap (λ (u : Task). waiting_in u.state) (sym is) ∙ waits))

-- who is only made waits for nothing
pub made-awake : (p : Image) (w : World) → Good p w → AllTasks (λ t. is_made t ≡ true → Awake t.who w) w.tasks
made-awake p w good =
    map-all (λ t. (task_of w t.who ≡ t) × (is_named t ≡ true)) (λ t. is_made t ≡ true → Awake t.who w) (λ t x. made-one w t x.0) w.tasks (listed-each p w good)
