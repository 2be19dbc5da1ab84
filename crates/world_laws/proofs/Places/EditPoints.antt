-- What holds of everybody where a task is forgotten or added, and behind lines that take somebody out.
use Rattle.ann_base.specs.declared.identities.TaskNo.{TaskNo}
use Rattle.world_laws.proofs.Places.CorePoints.{Holds, Places, Point, holds-put}
use Rattle.world_laws.proofs.Places.SoundWorlds.{sound-forget}
use Rattle.ceiling_laws.proofs.Places.SoundWorlds.{is_agent}
use Rattle.world_laws.proofs.Places.Standing.{Last}
use Rattle.world_laws.proofs.Places.Puts.{Spot, last_put, puts}
use Rattle.ceiling_laws.proofs.Runs.FoundLemmas.{kept-others, none-left}
use Rattle.ceiling_laws.proofs.Runs.Kept.Waking.{who-is}
use Rattle.ceiling_laws.proofs.Runs.Triples.{Ends, Leads, changes-leads}
use Rattle.ceiling_laws.proofs.Places.EffectKeeps.{or_found, find-behind}
use Rattle.ceiling_laws.proofs.Places.PartOrder.{by_test}
use Rattle.ceiling_laws.proofs.Fine.Cores.{Core, core}
use Rattle.profile_machine.specs.Masters.{forget_task}
use Rattle.profile_machine.specs.Steps.{changes, says}
use Rattle.profile_machine.specs.Tasking.{add_task, says_done}
use Rattle.profile_machine.specs.Tasks.{is_who, nobody, task_of}
use Rattle.profile_image.specs.Words.{same_who}
use Rattle.profile_machine.specs.declared.world.World.{World}
use Rattle.profile_machine.specs.declared.world.lines.Line.TheVariants as line
use Rattle.profile_machine.specs.declared.world.lines.Part.{Part}
use Rattle.profile_machine.specs.declared.world.lines.Part.TheVariants.{TheBlock}
use Rattle.profile_machine.specs.declared.world.tasks.Task.{Task}
use Rattle.std.proofs.Common.{ap, cond, inl, inr, refl, subst, sym, ◌++◌, ◌∷◌, ◌≡◌, ◌⊎◌}
use Rattle.std.specs.Prelude.{Bool, None, Option, Some, [], false, find, true, ℕ, unwrap_or}
use Rattle.trace_text.specs.declared.events.Waits.{Waits}
use Rattle.trace_text.specs.declared.events.Who.{Who}
use Rattle.trace_text.specs.declared.events.Who.TheVariants as who
use Rattle.line_laws.proofs.Leaving.TaskLemmas.{same_self}

-- ---- somebody is no longer there

forget-other : (name : Who) (w : World) (n : Who) → same_who n name ≡ false → core (task_of (forget_task name w) n) ≡ core (task_of w n)
forget-other name w (who.Task k) apart = ap (λ (r : Option Task). core (unwrap_or r nobody)) (kept-others name (who.Task k) w.tasks apart)
forget-other name w who.Agent apart = refl

forget-task : (name : Who) (w : World) → is_agent name ≡ false → core (task_of (forget_task name w) name) ≡ core nobody
forget-task (who.Task k) w task = ap (λ (r : Option Task). core (unwrap_or r nobody)) (none-left (who.Task k) w.tasks)
forget-task who.Agent w task = absurd cc

forget-agent : (name : Who) (w : World) → is_agent name ≡ true → core (task_of (forget_task name w) name) ≡ core (task_of w name)
forget-agent (who.Task k) w agent = absurd cc
forget-agent who.Agent w agent = refl

pub record Forgets (P Q : Point) (name : Who) : Type 0 where
  pub others : (d : ℕ) (n : Who) (c : Core) (l : Last) → same_who n name ≡ false → P d n c l → Q d n c l
  pub task : (d : ℕ) (c : Core) (l : Last) → is_agent name ≡ false → P d name c l → Q d name (core nobody) l
  pub agent : (d : ℕ) (c : Core) (l : Last) → is_agent name ≡ true → P d name c l → Q d name c l

pub holds-forget : (P Q : Point) (name : Who) → Forgets P Q name → Leads (Holds P) (Holds Q) (changes (forget_task name))
unfolding Holds
holds-forget P Q name forgets =
    changes-leads (forget_task name) (λ w said h. (
      sound-forget name w h.0,
      λ n. by_test (same_who n name)
          (λ same. subst (λ m. Q w.drawn.tasks m (core (task_of (forget_task name w) m)) (last_put m said)) (sym (who-is n name same))
          (by_test (is_agent name)
          (λ agent. subst (λ c. Q w.drawn.tasks name c (last_put name said)) (sym (forget-agent name w agent))
          (forgets.agent w.drawn.tasks (core (task_of w name)) (last_put name said) agent (h.1 name)))
          (λ task. subst (λ c. Q w.drawn.tasks name c (last_put name said)) (sym (forget-task name w task))
          (forgets.task w.drawn.tasks (core (task_of w name)) (last_put name said) task (h.1 name)))))
          (λ apart. subst (λ c. Q w.drawn.tasks n c (last_put n said)) (sym (forget-other name w n apart))
          (forgets.others w.drawn.tasks n (core (task_of w n)) (last_put n said) apart (h.1 n))),
    ))

-- ---- a task is added

pub record AddedAs (t : Task) (n : Who) (before behind : Core) : Type 0 where
  pub named : same_who n t.who ≡ true
  pub was : before ≡ core nobody
  pub is : behind ≡ core t

added_by : (t : Task) (n : Who) (found behind : Option Task) (b : Bool) → same_who n t.who ≡ b → behind ≡ or_found found (cond b (Some t) None)
    → (core (unwrap_or behind nobody) ≡ core (unwrap_or found nobody)) ⊎ AddedAs t n (core (unwrap_or found nobody)) (core (unwrap_or behind nobody))
unfolding or_found
added_by t n (Some x) behind b is e = inl (ap (λ (r : Option Task). core (unwrap_or r nobody)) e)
added_by t n None behind true is e = inr (record { named = is; was = refl; is = ap (λ (r : Option Task). core (unwrap_or r nobody)) e })
added_by t n None behind false is e = inl (ap (λ (r : Option Task). core (unwrap_or r nobody)) e)

pub add-found : (t : Task) (w : World) (n : Who)
    → (core (task_of (add_task t w) n) ≡ core (task_of w n)) ⊎ AddedAs t n (core (task_of w n)) (core (task_of (add_task t w) n))
add-found t w (who.Task k) =
    added_by t (who.Task k) (find (is_who (who.Task k)) w.tasks) (find (is_who (who.Task k)) (w.tasks ++ t ∷ [])) (is_who (who.Task k) t) refl
    (find-behind (is_who (who.Task k)) t w.tasks)
add-found t w who.Agent = inl refl

-- ---- lines that take somebody out

done_puts : (n : Who) (t : TaskNo) → same_who n (who.Task t) ≡ false → puts n (line.Done t) ≡ None
done_puts n t apart = ap (λ b. cond b (Some None) None) apart

unfoldable pub nowhere : Core → Option Spot
nowhere c = None

pub done-holds : (P Q : Point) (part : Part) (t : TaskNo) → Places P Q (who.Task t) part nowhere → Leads (Holds P) (Holds Q) (says_done part (who.Task t))
unfolding says_done Ends nowhere
done-holds P Q part t places = record {
  runs =
      λ w said h. holds-put P Q (who.Task t) part nowhere (line.Done t) w said (ap (λ b. cond b (Some None) None) (same_self (who.Task t)))
      (λ n apart. done_puts n t apart) places h;
}

pub block-holds : (P Q : Point) (name : Who) (waits : Waits) → Places P Q name TheBlock nowhere
    → Leads (Holds P) (Holds Q) (says TheBlock (line.Block name waits))
unfolding Ends nowhere
block-holds P Q name waits places = record {
  runs =
      λ w said h. holds-put P Q name TheBlock nowhere (line.Block name waits) w said (ap (λ b. cond b (Some None) None) (same_self name))
      (λ n apart. ap (λ b. cond b (Some None) None) apart) places h;
}
