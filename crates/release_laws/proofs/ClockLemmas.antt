-- The clocks of tasks in a list of tasks, where one is edited, comes or goes.
use Rattle.std.proofs.Common.{◌≡◌, ℕ, ◌≤◌, Bool, true, false, cond, not, eqb, List, [], ◌∷◌, ◌++◌}
use Rattle.std.proofs.Common.{Option, Some, None, refl, sym, ap, subst, ◌∙◌, le_refl, arith, unwrap_or}
use Rattle.std.proofs.lemmas.Bool.{eqb-true, false≢true}
use Rattle.ann_base.specs.declared.identities.TaskNo.{TaskNo}
use Rattle.trace_text.specs.declared.events.Who.{Who}
use Rattle.trace_text.specs.declared.events.Who.TheVariants as who
use Rattle.profile_machine.specs.declared.world.tasks.Task.{Task}
use Rattle.profile_image.specs.Words.{same_who, set_where, without}
use Rattle.profile_machine.specs.Tasks.{nobody, is_who, found_task}
use Rattle.machine_laws.proofs.Kept.Instant.{or_that}

-- what a clock shows of a task that may be there
abbrev pub shown : Option Task → ℕ
shown found = (unwrap_or found nobody).cpu_ticks

abbrev pub clock_in : List Task → TaskNo → ℕ
clock_in tasks t = shown (found_task (who.Task t) tasks)

shown-alike : (b : Bool) (x y : Task) (rest : Option Task) → x.cpu_ticks ≡ y.cpu_ticks → shown (cond b (Some x) rest) ≡ shown (cond b (Some y) rest)
shown-alike true x y rest e = e
shown-alike false x y rest e = refl

shown-rest : (b : Bool) (x : Task) (r s : Option Task) → shown r ≡ shown s → shown (cond b (Some x) r) ≡ shown (cond b (Some x) s)
shown-rest true x r s e = refl
shown-rest false x r s e = e

-- ---- one is edited, who it is and its clock stay

module _ (name : Who) (x y : Task) (same_name : x.who ≡ y.who) (same_clock : x.cpu_ticks ≡ y.cpu_ticks) where
  set-here : (z : Task) (zs : List Task) (t : TaskNo) → z ≡ y → clock_in (x ∷ zs) t ≡ clock_in (z ∷ zs) t
  set-here z zs t e =
      ap (λ n. shown (cond (same_who (who.Task t) n) (Some x) (found_task (who.Task t) zs))) (same_name ∙ ap (λ (u : Task). u.who) (sym e))
      ∙ shown-alike (is_who (who.Task t) z) x z (found_task (who.Task t) zs) (same_clock ∙ ap (λ (u : Task). u.cpu_ticks) (sym e))

  set-where : (z : Task) (zs : List Task) (t : TaskNo) (b : Bool) → cond b (Some z) (found_task name zs) ≡ Some y
      → (found_task name zs ≡ Some y → clock_in (set_where (is_who name) x zs) t ≡ clock_in zs t)
      → clock_in (cond b (x ∷ zs) (z ∷ set_where (is_who name) x zs)) t ≡ clock_in (z ∷ zs) t
  set-where z zs t true e onward = set-here z zs t (ap (or_that z) e)
  set-where z zs t false e onward =
      shown-rest (is_who (who.Task t) z) z (found_task (who.Task t) (set_where (is_who name) x zs)) (found_task (who.Task t) zs) (onward e)

  pub set-clock : (tasks : List Task) (t : TaskNo) → found_task name tasks ≡ Some y → clock_in (set_where (is_who name) x tasks) t ≡ clock_in tasks t
  set-clock [] t e = refl
  set-clock (z ∷ zs) t e = set-where z zs t (is_who name z) e (set-clock zs t)

-- ---- one comes, with a clock at 0

none-shown : (b : Bool) (x : Task) → x.cpu_ticks ≡ 0 → shown (cond b (Some x) None) ≤ 0
none-shown true x e = omega (arith, e)
none-shown false x e = omega arith

shown-low : (b : Bool) (x : Task) (r s : Option Task) → shown r ≤ shown s → shown (cond b (Some x) r) ≤ shown (cond b (Some x) s)
shown-low true x r s h = le_refl x.cpu_ticks
shown-low false x r s h = h

pub added-clock : (x : Task) (tasks : List Task) (t : TaskNo) → x.cpu_ticks ≡ 0 → clock_in (tasks ++ x ∷ []) t ≤ clock_in tasks t
added-clock x [] t e = none-shown (is_who (who.Task t) x) x e
added-clock x (z ∷ zs) t e = shown-low (is_who (who.Task t) z) z (found_task (who.Task t) (zs ++ x ∷ [])) (found_task (who.Task t) zs) (added-clock x zs t e)

-- ---- those of a name go

eqb-on : (a b c : ℕ) → eqb a b ≡ true → eqb a c ≡ eqb b c
eqb-on a b c h = ap (λ n. eqb n c) (eqb-true a b h)

same_who-on : (t : TaskNo) (name other : Who) → same_who (who.Task t) name ≡ true → same_who (who.Task t) other ≡ same_who name other
same_who-on t (who.Task n) (who.Task m) h = eqb-on t.0 n.0 m.0 h
same_who-on t (who.Task n) who.Agent h = refl
same_who-on t who.Agent other h = absurd (false≢true h)

not_both : (t : TaskNo) (name other : Who) → same_who (who.Task t) name ≡ false → same_who name other ≡ true → same_who (who.Task t) other ≡ false
not_both t (who.Task n) (who.Task m) h k = let e : n.0 ≡ m.0 = eqb-true n.0 m.0 k in subst (λ i. eqb t.0 i ≡ false) e h
not_both t (who.Task n) who.Agent h k = refl
not_both t who.Agent (who.Task m) h k = absurd (false≢true k)
not_both t who.Agent who.Agent h k = refl

gone-step : (name : Who) (t : TaskNo) (z : Task) (zs : List Task) (b : Bool) → is_who (who.Task t) z ≡ b → is_who name z ≡ b
    → found_task (who.Task t) (without (is_who name) zs) ≡ None
    → found_task (who.Task t) (cond (not b) (z ∷ without (is_who name) zs) (without (is_who name) zs)) ≡ None
gone-step name t z zs true e f k = k
gone-step name t z zs false e f k = ap (λ c. cond c (Some z) (found_task (who.Task t) (without (is_who name) zs))) e ∙ k

gone-none : (name : Who) (t : TaskNo) → same_who (who.Task t) name ≡ true → (tasks : List Task) → found_task (who.Task t) (without (is_who name) tasks) ≡ None
gone-none name t h [] = refl
gone-none name t h (z ∷ zs) = gone-step name t z zs (is_who name z) (same_who-on t name z.who h) refl (gone-none name t h zs)

left-step : (name : Who) (t : TaskNo) (z : Task) (zs : List Task) (b : Bool) → (b ≡ true → is_who (who.Task t) z ≡ false)
    → found_task (who.Task t) (without (is_who name) zs) ≡ found_task (who.Task t) zs
    → found_task (who.Task t) (cond (not b) (z ∷ without (is_who name) zs) (without (is_who name) zs)) ≡ found_task (who.Task t) (z ∷ zs)
left-step name t z zs true other k = k ∙ sym (ap (λ c. cond c (Some z) (found_task (who.Task t) zs)) (other refl))
left-step name t z zs false other k = ap (λ r. cond (is_who (who.Task t) z) (Some z) r) k

left-there : (name : Who) (t : TaskNo) → same_who (who.Task t) name ≡ false → (tasks : List Task)
    → found_task (who.Task t) (without (is_who name) tasks) ≡ found_task (who.Task t) tasks
left-there name t h [] = refl
left-there name t h (z ∷ zs) = left-step name t z zs (is_who name z) (λ k. not_both t name z.who h k) (left-there name t h zs)

gone-where : (name : Who) (tasks : List Task) (t : TaskNo) (b : Bool) → same_who (who.Task t) name ≡ b
    → clock_in (without (is_who name) tasks) t ≤ clock_in tasks t
gone-where name tasks t true is = let none : clock_in (without (is_who name) tasks) t ≡ 0 = ap shown (gone-none name t is tasks) in omega (arith, none)
gone-where name tasks t false is =
    let same : clock_in (without (is_who name) tasks) t ≡ clock_in tasks t = ap shown (left-there name t is tasks) in omega (arith, same)

pub gone-clock : (name : Who) (tasks : List Task) (t : TaskNo) → clock_in (without (is_who name) tasks) t ≤ clock_in tasks t
gone-clock name tasks t = gone-where name tasks t (same_who (who.Task t) name) refl
