-- A tick makes due the timers whose values the clock of who ran has reached, and the budget that it has brought to zero; it leaves
-- all else of what is released later as it is.
use Rattle.std.proofs.Common.{◌≡◌, ℕ, zero, suc, ◌+◌, Bool, true, false, cond, not, ◌&&◌, eqb, filter, List, []}
use Rattle.std.proofs.Common.{◌∷◌, ◌++◌, map, Option, Some, None, refl, sym, ap, subst, ◌∙◌, append-nil, arith}
use Rattle.std.specs.Prelude.{int_le, pos}
use Rattle.std.proofs.lemmas.Bool.{eqb-true}
use Rattle.ann_base.specs.declared.identities.TaskNo.{TaskNo}
use Rattle.trace_text.specs.declared.events.Who.{Who}
use Rattle.trace_text.specs.declared.events.Who.TheVariants as who
use Rattle.profile_machine.specs.declared.world.World.{World}
use Rattle.profile_machine.specs.declared.world.appointments.Budget.{Budget}
use Rattle.profile_machine.specs.declared.world.appointments.Timer.{Timer}
use Rattle.profile_machine.specs.declared.world.appointments.TimerSetting.{TimerSetting}
use Rattle.profile_machine.specs.declared.world.tasks.Task.{Task}
use Rattle.profile_image.specs.Words.{same_who, same_task, edit_at, set_where}
use Rattle.profile_machine.specs.Tasks.{is_who, found_task, edit_task_found}
use Rattle.profile_machine.specs.Values.{no_budget}
use Rattle.profile_machine.specs.Handlers.{is_positive, charged_budget, has_run_out, due_by_tick, charge_budget, is_reached_by}
use Rattle.release_laws.specs.ReleaseLaws.{TimerSet, BudgetSet, is_reached, budgets_run_out}
use Rattle.release_laws.proofs.ClockLemmas.{clock_in, shown}
use Rattle.release_laws.proofs.TimerLists.{timer_in, with_timer_in, timers_in}
use Rattle.release_laws.proofs.Untouched.{budget_in, edited-seen}
use Rattle.release_laws.proofs.TimerSteps.{number_of_timer, or_that}

-- ---- the clock of one task alone goes on

apart : (u t : TaskNo) (other : Who) → same_task u t ≡ false → same_who (who.Task t) other ≡ true → same_who (who.Task u) other ≡ false
apart u t (who.Task n) h k = let e : t.0 ≡ n.0 = eqb-true t.0 n.0 k in subst (λ i. eqb u.0 i ≡ false) e h
apart u t who.Agent h k = refl

module _ (u t : TaskNo) (x y : Task) (different : same_task u t ≡ false) (same_name : x.who ≡ y.who) where
  other-here : (z : Task) (zs : List Task) → z ≡ y → is_who (who.Task t) z ≡ true → found_task (who.Task u) (x ∷ zs) ≡ found_task (who.Task u) (z ∷ zs)
  other-here z zs e is =
      let not_z : is_who (who.Task u) z ≡ false = apart u t z.who different is in
      let not_x : is_who (who.Task u) x ≡ false = ap (same_who (who.Task u)) (same_name ∙ ap (λ (q : Task). q.who) (sym e)) ∙ not_z in
      ap (λ b. cond b (Some x) (found_task (who.Task u) zs)) not_x ∙ sym (ap (λ b. cond b (Some z) (found_task (who.Task u) zs)) not_z)

  other-where : (z : Task) (zs : List Task) (b : Bool) → is_who (who.Task t) z ≡ b → cond b (Some z) (found_task (who.Task t) zs) ≡ Some y
      → (found_task (who.Task t) zs ≡ Some y → found_task (who.Task u) (set_where (is_who (who.Task t)) x zs) ≡ found_task (who.Task u) zs)
      → found_task (who.Task u) (cond b (x ∷ zs) (z ∷ set_where (is_who (who.Task t)) x zs)) ≡ found_task (who.Task u) (z ∷ zs)
  unfolding or_that
  other-where z zs true is e onward = other-here z zs (ap (or_that z) e) is
  other-where z zs false is e onward = ap (λ r. cond (is_who (who.Task u) z) (Some z) r) (onward e)

  other-found : (tasks : List Task) → found_task (who.Task t) tasks ≡ Some y
      → found_task (who.Task u) (set_where (is_who (who.Task t)) x tasks) ≡ found_task (who.Task u) tasks
  other-found [] e = refl
  other-found (z ∷ zs) e = other-where z zs (is_who (who.Task t) z) refl e (other-found zs)

pub other-clock : (u t : TaskNo) (f : Task → Task) (w : World) (found : Option Task) → same_task u t ≡ false → found_task (who.Task t) w.tasks ≡ found
    → ((y : Task) → (f y).who ≡ y.who) → clock_in (edit_task_found (who.Task t) f w found).tasks u ≡ clock_in w.tasks u
other-clock u t f w None different e same = refl
other-clock u t f w (Some y) different e same = ap shown (other-found u t (f y) y different (same y) w.tasks e)

-- ---- the timers that are due are those that are reached

abbrev pub NoneReached : World → List TimerSet → Type 0
NoneReached w [] = Unit {0}
NoneReached w (s ∷ rest) = (is_reached w s ≡ false) × NoneReached w rest

-- the task t has this clock, and the others have those of before
pub record OneRan (t : TaskNo) (clock : ℕ) (a b : World) : Type 0 where
  pub own : clock_in b.tasks t ≡ clock
  pub others : (u : TaskNo) → same_task u t ≡ false → clock_in b.tasks u ≡ clock_in a.tasks u

same_task-sym : (t u : TaskNo) → same_task t u ≡ false → same_task u t ≡ false
same_task-sym t u h = flipped t.0 u.0 h
  where
    flipped : (a b : ℕ) → eqb a b ≡ false → eqb b a ≡ false
    flipped a b h = grind arith

one_task : (t u : TaskNo) → same_task t u ≡ true → u ≡ t
one_task t u h = ap (λ n. record { 0 = n }) (sym (eqb-true t.0 u.0 h))

module _ (t : TaskNo) (clock : ℕ) (a b : World) (ran : OneRan t clock a b) (timers : List Timer) where
  reached-test : (task : TaskNo) (s : TimerSetting) (k : ℕ) (same : Bool) → same_task t task ≡ same
      → is_reached a (record { timer = k; task = task; handler = s.handler; value = s.value }) ≡ false
      → (same && int_le s.value (pos clock)) ≡ is_reached b (record { timer = k; task = task; handler = s.handler; value = s.value })
  reached-test task s k true e none = ap (λ n. int_le s.value (pos n)) (sym (ap (clock_in b.tasks) (one_task t task e) ∙ ran.own))
  reached-test task s k false e none = sym (ap (λ n. int_le s.value (pos n)) (ran.others task (same_task-sym t task e)) ∙ none)

  abbrev test : ℕ → Bool
  test k = is_reached_by t clock (timer_in timers k)

  picked : (c : Bool) (k : ℕ) (s : TimerSet) (ks : List ℕ) (ss : List TimerSet) → s.timer ≡ k → ks ≡ map number_of_timer ss
      → cond c (k ∷ ks) ks ≡ map number_of_timer (cond c (s ∷ ss) ss)
  picked true k s ks ss e f = ap (λ n. n ∷ ks) (sym e) ∙ ap (λ ns. s.timer ∷ ns) f
  picked false k s ks ss e f = f

  due-one : (k : ℕ) (ks : List ℕ) (task : TaskNo) (setting : Option TimerSetting) (rest : List TimerSet)
      → timer_in timers k ≡ record { task = task; setting = setting } → NoneReached a (with_timer_in k task setting rest)
      → (NoneReached a rest → filter test ks ≡ map number_of_timer (filter (is_reached b) rest))
      → cond (is_reached_by t clock (record { task = task; setting = setting })) (k ∷ filter test ks) (filter test ks)
      ≡ map number_of_timer (filter (is_reached b) (with_timer_in k task setting rest))
  due-one k ks task None rest e none onward = ap (λ c. cond c (k ∷ filter test ks) (filter test ks)) (never (same_task t task)) ∙ onward none
    where
      never : (c : Bool) → (c && false) ≡ false
      never true = refl
      never false = refl
  due-one k ks task (Some s) rest e none onward =
      let one : TimerSet = record { timer = k; task = task; handler = s.handler; value = s.value } in
      ap (λ c. cond c (k ∷ filter test ks) (filter test ks)) (reached-test task s k (same_task t task) refl none.0)
      ∙ picked (is_reached b one) k one (filter test ks) (filter (is_reached b) rest) refl (onward none.1)

  pub due-timers : (ks : List ℕ) → NoneReached a (timers_in timers ks) → filter test ks ≡ map number_of_timer (filter (is_reached b) (timers_in timers ks))
  due-timers [] none = refl
  due-timers (k ∷ ks) none =
      due-one k ks (timer_in timers k).task (timer_in timers k).setting (timers_in timers ks) refl none (due-timers ks)

-- where nobody's clock goes on, none is reached
pub none-due : (a b : World) (ss : List TimerSet) → ((u : TaskNo) → clock_in b.tasks u ≡ clock_in a.tasks u) → NoneReached a ss
    → map number_of_timer (filter (is_reached b) ss) ≡ []
none-due a b [] same none = refl
none-due a b (s ∷ ss) same none =
    ap (λ c. map number_of_timer (cond c (s ∷ filter (is_reached b) ss) (filter (is_reached b) ss))) (ap (λ n. int_le s.value (pos n)) (same s.task) ∙ none.0)
    ∙ none-due a b ss same none.1

-- ---- the budget that runs out

abbrev pub run_out_of : Option ℕ → List BudgetSet → List BudgetSet
run_out_of None bs = []
run_out_of (Some b) bs = filter (λ s. eqb b s.budget) bs

not_itself : (b : Bool) → (b && not b) ≡ false
not_itself true = refl
not_itself false = refl

pub none-run_out : (n : ℕ) (xs : List Budget) (bs : List BudgetSet) → budgets_run_out n xs xs bs ≡ []
none-run_out n [] bs = refl
none-run_out n (x ∷ xs) bs =
    ap (λ c. cond c (filter (λ s. eqb n s.budget) bs) [] ++ budgets_run_out (suc n) xs xs bs) (not_itself (is_positive x.remaining))
    ∙ none-run_out (suc n) xs bs

one-run_out : (n b : ℕ) (xs : List Budget) (bs : List BudgetSet)
    → budgets_run_out n xs (edit_at b charged_budget xs) bs
    ≡ cond (has_run_out (budget_in xs b) (charged_budget (budget_in xs b))) (filter (λ s. eqb (n + b) s.budget) bs) []
one-run_out n b [] bs = refl
one-run_out n zero (x ∷ xs) bs =
    ap (λ ys. cond (has_run_out x (charged_budget x)) (filter (λ s. eqb n s.budget) bs) [] ++ ys) (none-run_out (suc n) xs bs)
    ∙ append-nil (cond (has_run_out x (charged_budget x)) (filter (λ s. eqb n s.budget) bs) [])
    ∙ ap (λ m. cond (has_run_out x (charged_budget x)) (filter (λ s. eqb m s.budget) bs) []) (plus-zero n)
  where
    plus-zero : (n : ℕ) → n ≡ n + 0
    plus-zero n = omega arith
one-run_out n (suc b) (x ∷ xs) bs =
    ap (λ c. cond c (filter (λ s. eqb n s.budget) bs) [] ++ budgets_run_out (suc n) xs (edit_at b charged_budget xs) bs) (not_itself (is_positive x.remaining))
    ∙ one-run_out (suc n) b xs bs
    ∙ ap (λ m. cond (has_run_out (budget_in xs b) (charged_budget (budget_in xs b))) (filter (λ s. eqb m s.budget) bs) []) (plus-suc n b)
  where
    plus-suc : (n b : ℕ) → suc n + b ≡ n + suc b
    plus-suc n b = omega arith

due-run_out : (c : Bool) (b : ℕ) (bs : List BudgetSet) → cond c (filter (λ s. eqb b s.budget) bs) [] ≡ run_out_of (cond c (Some b) None) bs
due-run_out true b bs = refl
due-run_out false b bs = refl

pub charged-run_out : (w : World) (group : Option ℕ) (bs : List BudgetSet)
    → budgets_run_out 0 w.budgets (charge_budget group w).budgets bs ≡ run_out_of (due_by_tick w group) bs
charged-run_out w None bs = none-run_out 0 w.budgets bs
charged-run_out w (Some b) bs =
    one-run_out 0 b w.budgets bs
    ∙ ap (λ m. cond (has_run_out (budget_in w.budgets b) (charged_budget (budget_in w.budgets b))) (filter (λ s. eqb m s.budget) bs) []) (zero-plus b)
    ∙ due-run_out (has_run_out (budget_in w.budgets b) (charged_budget (budget_in w.budgets b))) b bs
  where
    zero-plus : (b : ℕ) → 0 + b ≡ b
    zero-plus b = omega arith

pub charged-handlers : (w : World) (group : Option ℕ) (k : ℕ) → (budget_in (charge_budget group w).budgets k).handler ≡ (budget_in w.budgets k).handler
charged-handlers w None k = refl
charged-handlers w (Some b) k = edited-seen (λ (x : Budget). x.handler) charged_budget no_budget (λ x. refl) b w.budgets k
