-- The account of what was asked for agrees with what the machine keeps, and goes on as an effect does.
use Rattle.std.proofs.Common.{◌≡◌, ℕ, ℤ, ◌≤◌, Bool, true, false, cond, not, ◌&&◌, eqb, filter, List, [], ◌∷◌}
use Rattle.std.proofs.Common.{◌++◌, map, Option, Some, None, refl, sym, ap, subst, ◌∙◌, append-nil, eq-eqb, arith}
use Rattle.std.specs.Prelude.{int_lt, int_le, pos}
use Rattle.std.proofs.lemmas.Int.{ints}
use Rattle.std.proofs.lemmas.Bool.{and_parts, eqb-true}
use Rattle.ann_base.specs.declared.identities.TaskNo.{TaskNo}
use Rattle.profile_machine.specs.declared.world.World.{World}
use Rattle.profile_machine.specs.declared.world.appointments.Budget.{Budget}
use Rattle.profile_machine.specs.declared.world.appointments.HandlerOf.{HandlerOf}
use Rattle.profile_image.specs.Words.{without}
use Rattle.profile_machine.specs.Values.{no_budget}
use Rattle.profile_machine.specs.Handlers.{without_number}
use Rattle.release_laws.specs.Asked.{Request, OfEvent, OfTimer, OfBudget, OfNothing}
use Rattle.release_laws.specs.ReleaseLaws.{EventSet, TimerSet, BudgetSet, Account, but_event, put_event, events_asked, but_timer}
use Rattle.release_laws.specs.ReleaseLaws.{timers_asked, is_reached, is_number_of, clock_of, but_budget, budgets_asked, budgets_run_out}
use Rattle.release_laws.proofs.ClockLemmas.{clock_in}
use Rattle.release_laws.proofs.EventLists.{events_of, Rises, either}
use Rattle.release_laws.proofs.TimerLists.{read-past}
use Rattle.release_laws.proofs.KeyedLists.{Lacks, Differ, without-differ, but-lacks, last-differ, other_way}
use Rattle.release_laws.proofs.Untouched.{budget_in}
use Rattle.release_laws.proofs.Effects.{due_asked, handler_asked}
use Rattle.release_laws.proofs.EventSteps.{number_of_event}
use Rattle.release_laws.proofs.TimerSteps.{number_of_timer, timers_of}
use Rattle.release_laws.proofs.BudgetSteps.{one_or_none}
use Rattle.release_laws.proofs.ScriptSteps.{flags_of}
use Rattle.release_laws.proofs.TickSteps.{NoneReached, run_out_of}

-- ---- events that are asked for differ in number

put-lacks : (n : ℕ) (s : EventSet) (es : List EventSet) → eqb n s.event ≡ false → Lacks number_of_event n es → Lacks number_of_event n (put_event s es)
put-lacks n s [] e l = (e, tt)
put-lacks n s (x ∷ xs) e l = lacks-where (int_lt s.moment x.moment) (put-lacks n s xs e l.1)
  where
    lacks-where : (b : Bool) → Lacks number_of_event n (put_event s xs) → Lacks number_of_event n (cond b (s ∷ x ∷ xs) (x ∷ put_event s xs))
    lacks-where true k = (e, l)
    lacks-where false k = (l.0, k)

put-differ : (s : EventSet) (es : List EventSet) → Lacks number_of_event s.event es → Differ number_of_event es → Differ number_of_event (put_event s es)
put-differ s [] l d = (tt, tt)
put-differ s (x ∷ xs) l d = differ-where (int_lt s.moment x.moment) (put-differ s xs l.1 d.1)
  where
    differ-where : (b : Bool) → Differ number_of_event (put_event s xs) → Differ number_of_event (cond b (s ∷ x ∷ xs) (x ∷ put_event s xs))
    differ-where true k = (l, d)
    differ-where false k = (put-lacks x.event s xs (other_way s.event x.event l.0) d.0, k)

but-differ : (n : ℕ) (es : List EventSet) → Differ number_of_event es → Differ number_of_event (but_event n es)
but-differ n es d = without-differ number_of_event (λ s. eqb n s.event) es d

pub events-differ : (time : ℕ) (r : Request) (es : List EventSet) → Differ number_of_event es → Differ number_of_event (events_asked time r es)
events-differ time (OfEvent n None moment) es d = but-differ n es d
events-differ time (OfEvent n (Some h) moment) es d =
    let s : EventSet = record { event = n; handler = h; moment = moment } in
    either (Differ number_of_event) (int_lt (pos time) moment) (put_event s (but_event n es)) (but_event n es)
    (put-differ s (but_event n es) (but-lacks number_of_event n es) (but-differ n es d)) (but-differ n es d)
events-differ time (OfTimer n t h value) es d = d
events-differ time (OfBudget n h) es d = d
events-differ time OfNothing es d = d

-- ---- timers too, and those that are due stay due unless they are named

pub timers-differ : (w : World) (r : Request) (ts : List TimerSet) → Differ number_of_timer ts → Differ number_of_timer (timers_asked w r ts)
timers-differ w (OfTimer n t None value) ts d = without-differ number_of_timer (λ s. eqb n s.timer) ts d
timers-differ w (OfTimer n t (Some h) value) ts d =
    let s : TimerSet = record { timer = n; task = t; handler = h; value = value } in
    let rest : Differ number_of_timer (but_timer n ts) = without-differ number_of_timer (λ x. eqb n x.timer) ts d in
    either (Differ number_of_timer) (is_number_of w.timers n && int_lt (pos (clock_of w t)) value) (but_timer n ts ++ s ∷ []) (but_timer n ts)
    (last-differ number_of_timer s (but_timer n ts) (but-lacks number_of_timer n ts) rest) rest
timers-differ w (OfEvent n h moment) ts d = d
timers-differ w (OfBudget n h) ts d = d
timers-differ w OfNothing ts d = d

module _ (test : TimerSet → Bool) where
  dropped-where : (n : ℕ) (s : TimerSet) (ks : List ℕ) (ss : List TimerSet) (passes same : Bool) → eqb n s.timer ≡ same → test s ≡ passes
      → without_number n ks ≡ map number_of_timer (filter test ss)
      → without_number n (cond passes (s.timer ∷ ks) ks) ≡ map number_of_timer (filter test (cond (not same) (s ∷ ss) ss))
  dropped-where n s ks ss true true e is k = ap (λ b. cond (not b) (s.timer ∷ without_number n ks) (without_number n ks)) e ∙ k
  dropped-where n s ks ss true false e is k =
      ap (λ b. cond (not b) (s.timer ∷ without_number n ks) (without_number n ks)) e ∙ ap (λ ns. s.timer ∷ ns) k
      ∙ sym (ap (λ b. map number_of_timer (cond b (s ∷ filter test ss) (filter test ss))) is)
  dropped-where n s ks ss false true e is k = k
  dropped-where n s ks ss false false e is k = k ∙ sym (ap (λ b. map number_of_timer (cond b (s ∷ filter test ss) (filter test ss))) is)

  map-where : (b : Bool) (s : TimerSet) (ss : List TimerSet)
      → map number_of_timer (cond b (s ∷ ss) ss) ≡ cond b (s.timer ∷ map number_of_timer ss) (map number_of_timer ss)
  map-where true s ss = refl
  map-where false s ss = refl

  dropped-due : (n : ℕ) (ts : List TimerSet) → without_number n (map number_of_timer (filter test ts)) ≡ map number_of_timer (filter test (but_timer n ts))
  dropped-due n [] = refl
  dropped-due n (s ∷ ss) =
      ap (without_number n) (map-where (test s) s (filter test ss))
      ∙ dropped-where n s (map number_of_timer (filter test ss)) (but_timer n ss) (test s) (eqb n s.timer) refl refl (dropped-due n ss)

  last-out : (s : TimerSet) (ts : List TimerSet) → test s ≡ false → filter test (ts ++ s ∷ []) ≡ filter test ts
  last-out s [] e = ap (λ b. cond b (s ∷ []) []) e
  last-out s (x ∷ xs) e = ap (λ ys. cond (test x) (x ∷ ys) ys) (last-out s xs e)

not_reached : (clock : ℕ) (value : ℤ) → int_lt (pos clock) value ≡ true → int_le value (pos clock) ≡ false
not_reached clock value h = grind (arith, ints)

set-due : (w : World) (s : TimerSet) (ts : List TimerSet) (b : Bool) → (is_number_of w.timers s.timer && int_lt (pos (clock_of w s.task)) s.value) ≡ b
    → filter (is_reached w) ts ≡ filter (is_reached w) (cond b (ts ++ s ∷ []) ts)
set-due w s ts true e =
    sym (last-out (is_reached w) s ts
    (not_reached (clock_of w s.task) s.value ((and_parts (is_number_of w.timers s.timer) (int_lt (pos (clock_of w s.task)) s.value) e).1)))
set-due w s ts false e = refl

pub due-asked : (w : World) (r : Request) (ts : List TimerSet)
    → due_asked r (map number_of_timer (filter (is_reached w) ts)) ≡ map number_of_timer (filter (is_reached w) (timers_asked w r ts))
due-asked w (OfTimer n t None value) ts = dropped-due (is_reached w) n ts
due-asked w (OfTimer n t (Some h) value) ts =
    let s : TimerSet = record { timer = n; task = t; handler = h; value = value } in
    dropped-due (is_reached w) n ts
    ∙ ap (map number_of_timer) (set-due w s (but_timer n ts) (is_number_of w.timers n && int_lt (pos (clock_of w t)) value) refl)
due-asked w (OfEvent n h moment) ts = refl
due-asked w (OfBudget n h) ts = refl
due-asked w OfNothing ts = refl

-- what an instant leaves is not reached, and stays so where no clock goes on
left-low : (low high : ℕ) (value : ℤ) → low ≤ high → int_le value (pos high) ≡ false → int_le value (pos low) ≡ false
left-low low high value l h = grind (arith, ints)

left-where : (w v : World) (s : TimerSet) (rest : List TimerSet) (b : Bool) → is_reached w s ≡ b → clock_in v.tasks s.task ≤ clock_in w.tasks s.task
    → NoneReached v rest → NoneReached v (cond (not b) (s ∷ rest) rest)
left-where w v s rest true e low k = k
left-where w v s rest false e low k = (left-low (clock_in v.tasks s.task) (clock_in w.tasks s.task) s.value low e, k)

pub left-unreached : (w v : World) (ts : List TimerSet) → ((t : TaskNo) → clock_in v.tasks t ≤ clock_in w.tasks t) → NoneReached v (without (is_reached w) ts)
left-unreached w v [] low = tt
left-unreached w v (s ∷ ss) low = left-where w v s (without (is_reached w) ss) (is_reached w s) refl (low s.task) (left-unreached w v ss low)

-- ---- the handlers of budgets

abbrev pub handler_of_budget : BudgetSet → HandlerOf
handler_of_budget s = s.handler

abbrev pub handlers_for : ℕ → List BudgetSet → List HandlerOf
handlers_for k bs = map handler_of_budget (filter (λ s. eqb k s.budget) bs)

both_are : (n k m : ℕ) → eqb n m ≡ true → eqb n k ≡ false → eqb k m ≡ false
both_are n k m h e = grind arith

-- those of another number stay, those of this number go
other-where : (n k : ℕ) (s : BudgetSet) (bs : List BudgetSet) (same : Bool) → eqb n s.budget ≡ same → eqb n k ≡ false → handlers_for k bs ≡ handlers_for k bs
    → (xs : List BudgetSet) → handlers_for k xs ≡ handlers_for k bs → handlers_for k (cond (not same) (s ∷ xs) xs) ≡ handlers_for k (s ∷ bs)
other-where n k s bs true e different r xs h =
    h
    ∙ sym (ap (λ b. map handler_of_budget (cond b (s ∷ filter (λ x. eqb k x.budget) bs) (filter (λ x. eqb k x.budget) bs))) (both_are n k s.budget e different))
other-where n k s bs false e different r xs h = head-same (eqb k s.budget)
  where
    head-same : (b : Bool)
        → map handler_of_budget (cond b (s ∷ filter (λ x. eqb k x.budget) xs) (filter (λ x. eqb k x.budget) xs))
        ≡ map handler_of_budget (cond b (s ∷ filter (λ x. eqb k x.budget) bs) (filter (λ x. eqb k x.budget) bs))
    head-same true = ap (λ hs. s.handler ∷ hs) h
    head-same false = h

but-other : (n k : ℕ) (bs : List BudgetSet) → eqb n k ≡ false → handlers_for k (but_budget n bs) ≡ handlers_for k bs
but-other n k [] e = refl
but-other n k (s ∷ bs) e = other-where n k s bs (eqb n s.budget) refl e refl (but_budget n bs) (but-other n k bs e)

own-where : (n : ℕ) (s : BudgetSet) (xs : List BudgetSet) (same : Bool) → eqb n s.budget ≡ same → handlers_for n xs ≡ []
    → handlers_for n (cond (not same) (s ∷ xs) xs) ≡ []
own-where n s xs true e h = h
own-where n s xs false e h = ap (λ b. map handler_of_budget (cond b (s ∷ filter (λ x. eqb n x.budget) xs) (filter (λ x. eqb n x.budget) xs))) e ∙ h

but-own : (n : ℕ) (bs : List BudgetSet) → handlers_for n (but_budget n bs) ≡ []
but-own n [] = refl
but-own n (s ∷ bs) = own-where n s (but_budget n bs) (eqb n s.budget) refl (but-own n bs)

last-for : (k : ℕ) (s : BudgetSet) (bs : List BudgetSet) → handlers_for k (bs ++ s ∷ []) ≡ handlers_for k bs ++ handlers_for k (s ∷ [])
last-for k s [] = refl
last-for k s (x ∷ xs) = head-for (eqb k x.budget) (last-for k s xs)
  where
    head-for : (b : Bool) → handlers_for k (xs ++ s ∷ []) ≡ handlers_for k xs ++ handlers_for k (s ∷ [])
        → map handler_of_budget (cond b (x ∷ filter (λ y. eqb k y.budget) (xs ++ s ∷ [])) (filter (λ y. eqb k y.budget) (xs ++ s ∷ [])))
        ≡ map handler_of_budget (cond b (x ∷ filter (λ y. eqb k y.budget) xs) (filter (λ y. eqb k y.budget) xs)) ++ handlers_for k (s ∷ [])
    head-for true h = ap (λ hs. x.handler ∷ hs) h
    head-for false h = h

own-one : (k : ℕ) (h : HandlerOf) (b : Bool) → eqb k k ≡ b → b ≡ true → handlers_for k (record { budget = k; handler = h } ∷ []) ≡ h ∷ []
own-one k h b e is = ap (λ c. map handler_of_budget (cond c (record { budget = k; handler = h } ∷ []) [])) (e ∙ is)

other-one : (k n : ℕ) (h : HandlerOf) → eqb n k ≡ false → handlers_for k (record { budget = n; handler = h } ∷ []) ≡ []
other-one k n h e = ap (λ c. map handler_of_budget (cond c (record { budget = n; handler = h } ∷ []) [])) (other_way n k e)

module _ (w : World) (bs : List BudgetSet) where
  abbrev before : ℕ → Option HandlerOf
  before k = (budget_in w.budgets k).handler

  none-past : (k : ℕ) → is_number_of w.budgets k ≡ false → one_or_none (before k) ≡ []
  none-past k e = ap (λ (x : Budget). one_or_none x.handler) (read-past no_budget w.budgets k e)

  -- of the budget that is named
  cleared-own : (k : ℕ) (b : Bool) → is_number_of w.budgets k ≡ b → handlers_for k (but_budget k bs) ≡ one_or_none (cond b None (before k))
  cleared-own k true e = but-own k bs
  cleared-own k false e = but-own k bs ∙ sym (none-past k e)

  set-own : (k : ℕ) (h : HandlerOf) (b : Bool) → is_number_of w.budgets k ≡ b
      → handlers_for k (cond b (but_budget k bs ++ record { budget = k; handler = h } ∷ []) (but_budget k bs)) ≡ one_or_none (cond b (Some h) (before k))
  set-own k h true e =
      last-for k (record { budget = k; handler = h }) (but_budget k bs)
      ∙ ap (λ hs. hs ++ handlers_for k (record { budget = k; handler = h } ∷ [])) (but-own k bs) ∙ own-one k h (eqb k k) refl (eq-eqb k k refl)
  set-own k h false e = but-own k bs ∙ sym (none-past k e)

  set-other : (n k : ℕ) (h : HandlerOf) (b : Bool) → eqb n k ≡ false
      → handlers_for k (cond b (but_budget n bs ++ record { budget = n; handler = h } ∷ []) (but_budget n bs)) ≡ handlers_for k bs
  set-other n k h true e =
      last-for k (record { budget = n; handler = h }) (but_budget n bs) ∙ ap (λ hs. handlers_for k (but_budget n bs) ++ hs) (other-one k n h e)
      ∙ append-nil (handlers_for k (but_budget n bs)) ∙ but-other n k bs e
  set-other n k h false e = but-other n k bs e

  cleared-where : (n k : ℕ) (same : Bool) → eqb n k ≡ same → handlers_for k bs ≡ one_or_none (before k)
      → handlers_for k (but_budget n bs) ≡ one_or_none (cond (same && is_number_of w.budgets n) None (before k))
  cleared-where n k true e h =
      subst (λ m. handlers_for m (but_budget n bs) ≡ one_or_none (cond (is_number_of w.budgets n) None (before m))) (eqb-true n k e)
      (cleared-own n (is_number_of w.budgets n) refl)
  cleared-where n k false e h = but-other n k bs e ∙ h

  set-where : (n k : ℕ) (x : HandlerOf) (same : Bool) → eqb n k ≡ same → handlers_for k bs ≡ one_or_none (before k)
      → handlers_for k (budgets_asked w (OfBudget n (Some x)) bs) ≡ one_or_none (cond (same && is_number_of w.budgets n) (Some x) (before k))
  set-where n k x true e h =
      subst (λ m. handlers_for m (budgets_asked w (OfBudget n (Some x)) bs) ≡ one_or_none (cond (is_number_of w.budgets n) (Some x) (before m)))
      (eqb-true n k e) (set-own n x (is_number_of w.budgets n) refl)
  set-where n k x false e h = set-other n k x (is_number_of w.budgets n) e ∙ h

  pub handlers-asked : (r : Request) (k : ℕ) → handlers_for k bs ≡ one_or_none (before k)
      → handlers_for k (budgets_asked w r bs) ≡ one_or_none (handler_asked w r k (before k))
  handlers-asked (OfBudget n None) k h = cleared-where n k (eqb n k) refl h
  handlers-asked (OfBudget n (Some x)) k h = set-where n k x (eqb n k) refl h
  handlers-asked (OfEvent n x moment) k h = h
  handlers-asked (OfTimer n t x value) k h = h
  handlers-asked OfNothing k h = h

-- ---- what an account and a world have in common before an instant

pub record Agrees (a : Account) (w : World) : Type 0 where
  pub events : events_of w.appointments ≡ a.events
  pub rises : Rises w.appointments
  pub events_differ : Differ number_of_event a.events
  pub timers : timers_of w ≡ a.timers
  pub timers_differ : Differ number_of_timer a.timers
  pub timers_due : w.timers_due ≡ map number_of_timer (filter (is_reached w) a.timers)
  pub handlers : (k : ℕ) → handlers_for k a.budgets ≡ one_or_none (budget_in w.budgets k).handler
  pub run_out : (bs : List BudgetSet) → budgets_run_out 0 a.left w.budgets bs ≡ run_out_of w.budget_due bs
  pub script : w.script ≡ a.ahead
  pub flags : flags_of w ≡ a.flags
