-- What somebody does who is there and not only made: scopes of its own begin, tasks are made, and rendezvous with others begin. A
-- good world stays good, and whoever is there and not only made stays so.
use Rattle.std.proofs.Common.{◌≡◌, Bool, true, false, cond, List, [], ◌∷◌, ◌++◌, Option, Some, sym, ap, subst, ◌∙◌}
use Rattle.std.proofs.lemmas.Bool.{false≢true}
use Rattle.std.specs.Prelude.{find, unwrap_or}
use Rattle.trace_text.specs.declared.events.Who.{Who}
use Rattle.trace_text.specs.declared.events.Who.TheVariants as who
use Rattle.profile_image.specs.declared.numbers.StatementNo.{StatementNo}
use Rattle.profile_machine.specs.declared.world.World.{World}
use Rattle.profile_machine.specs.declared.world.tasks.Task.{Task}
use Rattle.profile_image.specs.Words.{same_who}
use Rattle.profile_machine.specs.Tasks.{is_who, is_made, nobody, task_of}
use Rattle.profile_machine.specs.Masters.{forget_task}
use Rattle.profile_machine.specs.Scopes.{open_scope}
use Rattle.profile_machine.specs.Rendezvous.{open_accept}
use Rattle.profile_machine.specs.Tasking.{add_task}
use Rattle.world_laws.proofs.Scopes.FineMoves.{FineMoves, Live, Openings, natures}
use Rattle.world_laws.proofs.Scopes.ScopeKeys.{scope_keys}
use Rattle.world_laws.proofs.Scopes.TaskMarks.{marks_of, owns_in}
use Rattle.world_laws.proofs.Scopes.Likeness.{Same, like_at, opened-same}
use Rattle.world_laws.proofs.Scopes.QuietMoves.{gone-same}
use Rattle.world_laws.proofs.Scopes.TaskLists.{adds-good, gone-other, forgets-good}
use Rattle.world_laws.proofs.Scopes.GoodWorlds.{GoodWorld, nobody_free, same-good}
use Rattle.world_laws.proofs.Scopes.ScopeSteps.{There, live-there, there-is, opens-good, opens-live, accepts-good, accepts-live}
use Rattle.world_laws.proofs.Scopes.Lifting.{Lifts, MoveOf, StepOf, lifted}
use Rattle.machine_laws.proofs.FineMoves.{Anybody, gone_on}
use Rattle.machine_laws.proofs.QueueLemmas.{by_test}
use Rattle.line_laws.proofs.Exits.TaskEdits.{one_of-is}

abbrev pub ActingWorld : Who → World → Type 0
ActingWorld me w = GoodWorld w × Live me w

pub record Led (me : Who) (w v : World) : Type 0 where
  pub good : GoodWorld v
  pub live : Live me v
  pub still : (n : Who) → Live n w → Live n v

-- ---- worlds that are alike

pub same-live : (w v : World) → Same w v → (n : Who) → Live n w → Live n v
same-live w v s n live = by_test (is_made (task_of v n)) (λ e. let l = like_at w v n s in absurd (false≢true (sym live ∙ l.made e))) (λ e. e)

pub led-then : (me : Who) (a b c : World) → Led me a b → Led me b c → Led me a c
led-then me a b c p q = record { good = q.good; live = q.live; still = λ n h. q.still n (p.still n h) }

pub same-led : (me : Who) (w v : World) → ActingWorld me w → Same w v → Led me w v
same-led me w v g s = record { good = same-good nobody_free w v s g.0; live = same-live w v s me g.1; still = same-live w v s }

pub acting-lifts : (me : Who) → Lifts (ActingWorld me) (Led me)
acting-lifts me = record { behind = λ a b h. (h.good, h.live); goes_on = λ a b c p q. led-then me a b c p q; lift = λ w v g s. same-led me w v g s }

pub acting : (me : Who) → FineMoves (ActingWorld me) Anybody Anybody (StepOf (Led me)) (MoveOf (Led me))
acting me = lifted (acting-lifts me)

-- ---- scopes begin

pub not_made : (name : Who) (w : World) (there : There name w) → Live name w → is_made there.task ≡ false
not_made name w there live = subst (λ (x : Task). is_made x ≡ false) (there-is name w there) live

opens-led : (me name : Who) (w v : World) → GoodWorld v → ((n : Who) → Live n w → Live n v) → Live me w → Led me w v
opens-led me name w v good still live = record { good = good; live = still me live; still = still }

-- ---- a task is made

found-step : (test : Task → Bool) (z x t : Task) (zs : List Task) (b : Bool) → cond b (Some z) (find test zs) ≡ Some t
    → (find test zs ≡ Some t → find test (zs ++ x ∷ []) ≡ Some t) → cond b (Some z) (find test (zs ++ x ∷ [])) ≡ Some t
found-step test z x t zs true e onward = e
found-step test z x t zs false e onward = onward e

found-added : (test : Task → Bool) (x t : Task) (ts : List Task) → find test ts ≡ Some t → find test (ts ++ x ∷ []) ≡ Some t
found-added test x t [] e = absurd cc
found-added test x t (z ∷ zs) e = found-step test z x t zs (test z) e (λ k. found-added test x t zs k)

pub live-added : (x : Task) (w : World) (n : Who) → Live n w → Live n (add_task x w)
live-added x w (who.Task k) live =
    let there = live-there (who.Task k) w live in
    ap (λ found. is_made (unwrap_or found nobody)) (found-added (is_who (who.Task k)) x there.task w.tasks there.found) ∙ not_made (who.Task k) w there live
live-added x w who.Agent live = live

task-added : (me name : Who) (onward : Option StatementNo) (t : Task) (w : World) → ActingWorld me w → t.who ≡ who.Task (record { 0 = w.drawn.tasks })
    → t.frames ≡ [] → Led me w (add_task t (gone_on name onward w))
task-added me name onward t w g named_so none =
    let gone = gone_on name onward w in
    let same = gone-same name onward w in
    let led = same-led me w gone g same in
    let drawn_so : t.who ≡ who.Task (record { 0 = gone.drawn.tasks }) = named_so ∙ ap (λ d. who.Task (record { 0 = d })) (sym same.drawn_tasks) in
    record {
      good =
          adds-good nobody_free t gone.tasks gone.agent (scope_keys gone.scopes) gone.drawn.tasks gone.drawn.scopes led.good drawn_so
          (ap (λ fs. owns_in (natures fs)) none);
      live = live-added t gone me led.live;
      still = λ n h. live-added t gone n (led.still n h);
    }

pub openings : (me : Who) → Openings (ActingWorld me) (λ name. name ≡ me) (StepOf (Led me))
openings me = record {
  pushes = λ name f w g none. same-led me w _ g (opened-same name f w none);
  opens_scope = λ p name scope b purpose w g acts other.
      let live : Live name w = subst (λ x. Live x w) (sym acts) g.1 in
      let there = live-there name w live in
      opens-led me name w (open_scope p name scope b purpose w)
      (opens-good nobody_free p name scope b purpose w there g.0 (λ e. absurd (false≢true (sym other ∙ e))) (λ known. not_made name w there live))
      (opens-live p name scope b purpose w there) g.1;
  opens_accept = λ p name s c w g live.
      let there = live-there name w live in
      opens-led me name w (open_accept p name s c w) (accepts-good nobody_free p name s c w there g.0 (λ known. not_made name w there live))
      (accepts-live p name s c w there) g.1;
  acts_live = λ name w g acts. subst (λ x. Live x w) (sym acts) g.1;
  still_live = λ name a b {xs} r. r.still name;
  adds_task = λ name onward t w g named_so none. task-added me name onward t w g named_so none;
}

-- ---- a task without scopes is gone

abbrev pub NoScopes : Who → World → Type 0
NoScopes n w = marks_of (task_of w n) ≡ []

pub same-none : (w v : World) → Same w v → (n : Who) → NoScopes n w → NoScopes n v
same-none w v s n none = let l = like_at w v n s in l.marks ∙ none

pub gone-live : (name : Who) (w : World) (n : Who) → same_who n name ≡ false → Live n w → Live n (forget_task name w)
gone-live name w n apart live =
    subst (λ (x : Task). is_made x ≡ false) (one_of-is (forget_task name w) n)
    (gone-other (λ x. is_made x ≡ false) n name w.tasks w.agent apart (subst (λ (x : Task). is_made x ≡ false) (sym (one_of-is w n)) live))

pub gone-good : (name : Who) (w : World) → GoodWorld w → NoScopes name w → GoodWorld (forget_task name w)
gone-good name w g none =
    forgets-good nobody_free name w.tasks w.agent (scope_keys w.scopes) w.drawn.tasks w.drawn.scopes g
    (subst (λ (x : Task). marks_of x ≡ []) (sym (one_of-is w name)) none)
