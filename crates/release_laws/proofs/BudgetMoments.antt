-- The handler that a budget got stays in the account, and is released where the budget runs out.
use Rattle.std.proofs.Common.{◌≡◌, ℕ, zero, suc, ◌+◌, true, cond, eqb, filter, length, slice_index_or, List, [], ◌∷◌, ◌++◌, Some, None, refl, sym, subst, arith}
use Rattle.std.proofs.lemmas.Bool.{false≢true, not-true}
use Rattle.profile_image.specs.declared.image.Image.{Image}
use Rattle.profile_machine.specs.declared.world.World.{World}
use Rattle.profile_machine.specs.declared.world.appointments.Budget.{Budget}
use Rattle.profile_machine.specs.Values.{no_budget}
use Rattle.profile_machine.specs.Handlers.{has_run_out}
use Rattle.profile_machine.specs.Releases.{named_handler, released}
use Rattle.release_laws.specs.Asked.{Request, OfEvent, OfTimer, OfBudget, OfNothing, asked}
use Rattle.release_laws.specs.ReleaseLaws.{Passage, BudgetSet, Account, first_account, account_behind, HistoryOk, ReleasesAll}
use Rattle.release_laws.specs.ReleaseLaws.{is_number_of, but_budget, budgets_asked, budgets_run_out, owed_of_budgets}
use Rattle.release_laws.specs.MomentLaws.{IsAmong, leaves_budget, LeaveBudget, last_of, BudgetsCome}
use Rattle.release_laws.proofs.RunReleases.{runs_release}
use Rattle.release_laws.proofs.CauseLemmas.{budgets-stand}
use Rattle.release_laws.proofs.MomentLemmas.{among-front, among-behind, among-map, among-filter, among-without}
use Rattle.release_laws.proofs.MomentLemmas.{among-one, either-among, behind-front, last-itself}
use Rattle.release_laws.proofs.TimerLists.{none-below, below-behind}

-- ---- the budget that runs out is found by its number

next_number : (k n m : ℕ) → eqb (k + suc n) m ≡ true → eqb (suc k + n) m ≡ true
next_number k n m h = grind arith

this_number : (k m : ℕ) → eqb (k + 0) m ≡ true → eqb k m ≡ true
this_number k m h = grind arith

run_out-among : (k n : ℕ) (xs ys : List Budget) (bs : List BudgetSet) (s : BudgetSet)
    → has_run_out (slice_index_or xs n no_budget) (slice_index_or ys n no_budget) ≡ true → is_number_of ys n ≡ true → eqb (k + n) s.budget ≡ true → IsAmong s bs
    → IsAmong s (budgets_run_out k xs ys bs)
run_out-among k n [] ys bs s out there e h = absurd (false≢true out)
run_out-among k n (x ∷ xs) [] bs s out there e h = absurd (none-below n there)
run_out-among k zero (x ∷ xs) (y ∷ ys) bs s out there e h =
    among-front s (cond (has_run_out x y) (filter (λ b. eqb k b.budget) bs) []) (budgets_run_out (suc k) xs ys bs)
    (subst (λ b. IsAmong s (cond b (filter (λ b. eqb k b.budget) bs) [])) (sym out) (among-filter (λ b. eqb k b.budget) s bs (this_number k s.budget e) h))
run_out-among k (suc n) (x ∷ xs) (y ∷ ys) bs s out there e h =
    among-behind s (cond (has_run_out x y) (filter (λ b. eqb k b.budget) bs) []) (budgets_run_out (suc k) xs ys bs)
    (run_out-among (suc k) n xs ys bs s out (below-behind n (length ys) there) (next_number k n s.budget e) h)

-- ---- the account

stays-asked : (w : World) (r : Request) (s : BudgetSet) (bs : List BudgetSet) → leaves_budget s.budget r ≡ true → IsAmong s bs
    → IsAmong s (budgets_asked w r bs)
stays-asked w (OfBudget k None) s bs e h = among-without (λ x. eqb k x.budget) s bs (not-true (eqb k s.budget) e) h
stays-asked w (OfBudget k (Some g)) s bs e h =
    let kept = among-without (λ x. eqb k x.budget) s bs (not-true (eqb k s.budget) e) h in
    let one : BudgetSet = record { budget = k; handler = g } in
    either-among s (is_number_of w.budgets k) (but_budget k bs ++ one ∷ []) (but_budget k bs) (among-front s (but_budget k bs) (one ∷ []) kept) kept
stays-asked w (OfTimer k t g v) s bs e h = h
stays-asked w (OfEvent k g m) s bs e h = h
stays-asked w OfNothing s bs e h = h

zero_plus : (n : ℕ) → eqb (0 + n) n ≡ true
zero_plus n = grind arith

module _ (p : Image) (s : BudgetSet) where
  set-asked : (x : Passage) (a : Account) → is_number_of x.before.budgets s.budget ≡ true → asked p x.before ≡ OfBudget s.budget (Some s.handler)
      → IsAmong s (account_behind p a x).budgets
  set-asked x a there e =
      subst (λ r. IsAmong s (budgets_asked x.before r a.budgets)) (sym e)
      (subst (λ b. IsAmong s (cond b (but_budget s.budget a.budgets ++ s ∷ []) (but_budget s.budget a.budgets))) (sym there)
      (last-itself s (but_budget s.budget a.budgets)))

  -- before is the instant before the first of between
  waits-asked : (before : Passage) (between : List Passage) (y : Passage) (back : List Passage) (a : Account) → LeaveBudget p s.budget between
      → leaves_budget s.budget (asked p y.before) ≡ true → is_number_of y.before.budgets s.budget ≡ true
      → has_run_out (slice_index_or (last_of before between).after.budgets s.budget no_budget) (slice_index_or y.before.budgets s.budget no_budget) ≡ true
      → a.left ≡ before.after.budgets → IsAmong s a.budgets → HistoryOk p a (between ++ (y ∷ back)) → IsAmong (named_handler p s.handler) (released y.lines)
  waits-asked before [] y back a waits stays there out left h law =
      among-one (named_handler p s.handler) (owed_of_budgets p a y) (released y.lines) (budgets-stand p a y law.0)
      (among-map (λ x. named_handler p x.handler) s (budgets_run_out 0 a.left y.before.budgets (budgets_asked y.before (asked p y.before) a.budgets))
      (run_out-among 0 s.budget a.left y.before.budgets (budgets_asked y.before (asked p y.before) a.budgets) s
      (subst (λ xs. has_run_out (slice_index_or xs s.budget no_budget) (slice_index_or y.before.budgets s.budget no_budget) ≡ true) (sym left) out) there
      (zero_plus s.budget) (stays-asked y.before (asked p y.before) s a.budgets stays h)))
  waits-asked before (z ∷ zs) y back a waits stays there out left h law =
      waits-asked z zs y back (account_behind p a z) waits.1 stays there out refl (stays-asked z.before (asked p z.before) s a.budgets waits.0 h) law.1

pub budgets_come : BudgetsCome
budgets_come p script bound front between back x y n h e sets =
    let s : BudgetSet = record { budget = n; handler = h } in
    let law =
    behind-front p (ReleasesAll p) (first_account script) front (x ∷ (between ++ (y ∷ back)))
    (subst (HistoryOk p (first_account script)) e (runs_release p script bound)) in
    waits-asked p s x between y back (account_behind p law.0 x) sets.waits sets.stays sets.still_there sets.runs_out refl
    (set-asked p s x law.0 sets.there sets.sets) law.1.1
