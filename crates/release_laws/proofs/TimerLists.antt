-- The timers that are set, with their settings, and what becomes of them where a timer is cleared, set and declared.
use Rattle.std.proofs.Common.{◌≡◌, ℕ, zero, suc, Bool, true, false, cond, not, eqb, ltb, List, [], ◌∷◌, ◌++◌}
use Rattle.std.proofs.Common.{length, slice_index_or, Option, Some, None, refl, sym, ap, ◌∙◌, append-nil, arith}
use Rattle.std.proofs.lemmas.Bool.{false≢true}
use Rattle.ann_base.specs.declared.identities.TaskNo.{TaskNo}
use Rattle.profile_machine.specs.declared.world.appointments.Timer.{Timer}
use Rattle.profile_machine.specs.declared.world.appointments.TimerSetting.{TimerSetting}
use Rattle.profile_image.specs.Words.{edit_at}
use Rattle.profile_machine.specs.Values.{no_timer}
use Rattle.profile_machine.specs.Handlers.{with_setting, without_number}
use Rattle.release_laws.specs.ReleaseLaws.{TimerSet, but_timer, is_number_of}

-- ---- an item of a list by number, where one is edited or added

differ-behind : (n k : ℕ) → eqb (suc n) (suc k) ≡ false → eqb n k ≡ false
differ-behind n k h = grind arith

pub none-below : (n : ℕ) → ltb n 0 ≡ true → ⊥
none-below n h = grind arith

pub below-behind : (n k : ℕ) → ltb (suc n) (suc k) ≡ true → ltb n k ≡ true
below-behind n k h = grind arith

past-behind : (n k : ℕ) → ltb (suc n) (suc k) ≡ false → ltb n k ≡ false
past-behind n k h = grind arith

first-below : (k : ℕ) → ltb 0 (suc k) ≡ false → ⊥
first-below k h = grind arith

pub edited-other : {X : Type 0} (f : X → X) (d : X) (xs : List X) (n k : ℕ) → eqb n k ≡ false → slice_index_or (edit_at n f xs) k d ≡ slice_index_or xs k d
edited-other f d [] n k h = refl
edited-other f d (x ∷ xs) zero zero h = absurd (false≢true (sym h))
edited-other f d (x ∷ xs) zero (suc k) h = refl
edited-other f d (x ∷ xs) (suc n) zero h = refl
edited-other f d (x ∷ xs) (suc n) (suc k) h = edited-other f d xs n k (differ-behind n k h)

pub edited-itself : {X : Type 0} (f : X → X) (d : X) (xs : List X) (n : ℕ) → ltb n (length xs) ≡ true
    → slice_index_or (edit_at n f xs) n d ≡ f (slice_index_or xs n d)
edited-itself f d [] n h = absurd (none-below n h)
edited-itself f d (x ∷ xs) zero h = refl
edited-itself f d (x ∷ xs) (suc n) h = edited-itself f d xs n (below-behind n (length xs) h)

pub read-past : {X : Type 0} (d : X) (xs : List X) (n : ℕ) → ltb n (length xs) ≡ false → slice_index_or xs n d ≡ d
read-past d [] n h = refl
read-past d (x ∷ xs) zero h = absurd (first-below (length xs) h)
read-past d (x ∷ xs) (suc n) h = read-past d xs n (past-behind n (length xs) h)

pub edited-length : {X : Type 0} (f : X → X) (xs : List X) (n : ℕ) → length (edit_at n f xs) ≡ length xs
edited-length f [] n = refl
edited-length f (x ∷ xs) zero = refl
edited-length f (x ∷ xs) (suc n) = ap (λ k. suc k) (edited-length f xs n)

-- what is seen of each item, of one at the end that looks as nothing does
pub appended-seen : {X Y : Type 0} (see : X → Y) (d x : X) → see x ≡ see d → (xs : List X) (k : ℕ)
    → see (slice_index_or (xs ++ x ∷ []) k d) ≡ see (slice_index_or xs k d)
appended-seen see d x e [] zero = e
appended-seen see d x e [] (suc k) = refl
appended-seen see d x e (y ∷ ys) zero = refl
appended-seen see d x e (y ∷ ys) (suc k) = appended-seen see d x e ys k

-- ---- the timers that are set

abbrev pub timer_in : List Timer → ℕ → Timer
timer_in timers k = slice_index_or timers k no_timer

abbrev pub with_timer_in : ℕ → TaskNo → Option TimerSetting → List TimerSet → List TimerSet
with_timer_in k task None rest = rest
with_timer_in k task (Some s) rest = record { timer = k; task = task; handler = s.handler; value = s.value } ∷ rest

abbrev pub entry : ℕ → List TimerSet → Timer → List TimerSet
entry k rest t = with_timer_in k t.task t.setting rest

abbrev pub timers_in : List Timer → List ℕ → List TimerSet
timers_in timers [] = []
timers_in timers (k ∷ ks) = entry k (timers_in timers ks) (timer_in timers k)

-- each is as the timer of its number says
abbrev pub Matches : List Timer → List TimerSet → Type 0
Matches timers [] = Unit {0}
Matches timers (s ∷ rest) =
    (timer_in timers s.timer ≡ record { task = s.task; setting = Some (record { value = s.value; handler = s.handler }) }) × Matches timers rest

entry-matches : (timers : List Timer) (k : ℕ) (task : TaskNo) (setting : Option TimerSetting) (rest : List TimerSet)
    → timer_in timers k ≡ record { task = task; setting = setting } → Matches timers rest → Matches timers (with_timer_in k task setting rest)
entry-matches timers k task None rest e m = m
entry-matches timers k task (Some s) rest e m = (e, m)

pub timers_in-match : (timers : List Timer) (ks : List ℕ) → Matches timers (timers_in timers ks)
timers_in-match timers [] = tt
timers_in-match timers (k ∷ ks) =
    entry-matches timers k (timer_in timers k).task (timer_in timers k).setting (timers_in timers ks) refl (timers_in-match timers ks)

-- ---- a timer is declared

pub declared-timers : (t : TaskNo) (timers : List Timer) (ks : List ℕ) → timers_in (timers ++ record { task = t; setting = None } ∷ []) ks ≡ timers_in timers ks
declared-timers t timers [] = refl
declared-timers t timers (k ∷ ks) =
    ap (λ rest. entry k rest (timer_in (timers ++ record { task = t; setting = None } ∷ []) k)) (declared-timers t timers ks)
    ∙ appended-seen (entry k (timers_in timers ks)) no_timer (record { task = t; setting = None }) refl timers k

-- ---- a timer is cleared

but-itself : (n k : ℕ) (task : TaskNo) (setting : Option TimerSetting) (rest : List TimerSet) → eqb n k ≡ true
    → but_timer n (with_timer_in k task setting rest) ≡ but_timer n rest
but-itself n k task None rest e = refl
but-itself n k task (Some s) rest e =
    ap (λ b. cond (not b) (record { timer = k; task = task; handler = s.handler; value = s.value } ∷ but_timer n rest) (but_timer n rest)) e

but-another : (n k : ℕ) (task : TaskNo) (setting : Option TimerSetting) (rest : List TimerSet) → eqb n k ≡ false
    → but_timer n (with_timer_in k task setting rest) ≡ with_timer_in k task setting (but_timer n rest)
but-another n k task None rest e = refl
but-another n k task (Some s) rest e =
    ap (λ b. cond (not b) (record { timer = k; task = task; handler = s.handler; value = s.value } ∷ but_timer n rest) (but_timer n rest)) e

module _ (n : ℕ) (timers : List Timer) where
  abbrev cleared : List Timer
  cleared = edit_at n (with_setting None) timers

  cleared-where : (k : ℕ) (ks : List ℕ) (b : Bool) → eqb n k ≡ b → timers_in cleared (without_number n ks) ≡ but_timer n (timers_in timers ks)
      → timers_in cleared (cond (not b) (k ∷ without_number n ks) (without_number n ks)) ≡ but_timer n (timers_in timers (k ∷ ks))
  cleared-where k ks true is rest = rest ∙ sym (but-itself n k (timer_in timers k).task (timer_in timers k).setting (timers_in timers ks) is)
  cleared-where k ks false is rest =
      ap (entry k (timers_in cleared (without_number n ks))) (edited-other (with_setting None) no_timer timers n k is)
      ∙ ap (λ es. entry k es (timer_in timers k)) rest
      ∙ sym (but-another n k (timer_in timers k).task (timer_in timers k).setting (timers_in timers ks) is)

  pub cleared-timers : (ks : List ℕ) → timers_in cleared (without_number n ks) ≡ but_timer n (timers_in timers ks)
  cleared-timers [] = refl
  cleared-timers (k ∷ ks) = cleared-where k ks (eqb n k) refl (cleared-timers ks)

  -- ---- and set

  abbrev pub Lacks : List ℕ → Type 0
  Lacks [] = Unit {0}
  Lacks (k ∷ ks) = (eqb n k ≡ false) × Lacks ks

  without-lacks : (ks : List ℕ) → Lacks (without_number n ks)
  without-lacks [] = tt
  without-lacks (k ∷ ks) = lacks_where k (eqb n k) (without_number n ks) refl (without-lacks ks)
    where
      lacks_where : (k : ℕ) (b : Bool) (rest : List ℕ) → eqb n k ≡ b → Lacks rest → Lacks (cond (not b) (k ∷ rest) rest)
      lacks_where k true rest is l = l
      lacks_where k false rest is l = (is, l)

  set-others : (s : TimerSetting) (ks rest : List ℕ) → Lacks ks
      → timers_in (edit_at n (with_setting (Some s)) cleared) (ks ++ rest) ≡ timers_in cleared ks ++ timers_in (edit_at n (with_setting (Some s)) cleared) rest
  set-others s [] rest l = refl
  set-others s (k ∷ ks) rest l =
      ap (entry k (timers_in (edit_at n (with_setting (Some s)) cleared) (ks ++ rest))) (edited-other (with_setting (Some s)) no_timer cleared n k l.0)
      ∙ ap (λ es. entry k es (timer_in cleared k)) (set-others s ks rest l.1)
      ∙ entry-append k (timer_in cleared k).task (timer_in cleared k).setting (timers_in cleared ks)
      (timers_in (edit_at n (with_setting (Some s)) cleared) rest)
    where
      entry-append : (k : ℕ) (task : TaskNo) (setting : Option TimerSetting) (xs ys : List TimerSet)
          → with_timer_in k task setting (xs ++ ys) ≡ with_timer_in k task setting xs ++ ys
      entry-append k task None xs ys = refl
      entry-append k task (Some x) xs ys = refl

  set-itself : (s : TimerSetting) → is_number_of timers n ≡ true
      → timer_in (edit_at n (with_setting (Some s)) cleared) n ≡ record { task = (timer_in timers n).task; setting = Some s }
  set-itself s is =
      edited-itself (with_setting (Some s)) no_timer cleared n (ap (λ k. ltb n k) (edited-length (with_setting None) timers n) ∙ is)
      ∙ ap (with_setting (Some s)) (edited-itself (with_setting None) no_timer timers n is)

  set-past : (s : TimerSetting) → is_number_of timers n ≡ false → timer_in (edit_at n (with_setting (Some s)) cleared) n ≡ no_timer
  set-past s is =
      read-past no_timer (edit_at n (with_setting (Some s)) cleared) n
      (ap (λ k. ltb n k) (edited-length (with_setting (Some s)) cleared n ∙ edited-length (with_setting None) timers n) ∙ is)

  set-where : (s : TimerSetting) (ks : List ℕ) (b : Bool) → is_number_of timers n ≡ b
      → but_timer n (timers_in timers ks) ++ entry n [] (timer_in (edit_at n (with_setting (Some s)) cleared) n)
      ≡ cond b (but_timer n (timers_in timers ks) ++ record { timer = n; task = (timer_in timers n).task; handler = s.handler; value = s.value } ∷ [])
      (but_timer n (timers_in timers ks))
  set-where s ks true is = ap (λ t. but_timer n (timers_in timers ks) ++ entry n [] t) (set-itself s is)
  set-where s ks false is = ap (λ t. but_timer n (timers_in timers ks) ++ entry n [] t) (set-past s is) ∙ append-nil (but_timer n (timers_in timers ks))

  pub set-timers : (s : TimerSetting) (ks : List ℕ) → timers_in (edit_at n (with_setting (Some s)) cleared) (without_number n ks ++ n ∷ [])
      ≡ cond (is_number_of timers n)
      (but_timer n (timers_in timers ks) ++ record { timer = n; task = (timer_in timers n).task; handler = s.handler; value = s.value } ∷ [])
      (but_timer n (timers_in timers ks))
  set-timers s ks =
      set-others s (without_number n ks) (n ∷ []) (without-lacks ks)
      ∙ ap (λ es. es ++ entry n [] (timer_in (edit_at n (with_setting (Some s)) cleared) n)) (cleared-timers ks)
      ∙ set-where s ks (is_number_of timers n) refl
