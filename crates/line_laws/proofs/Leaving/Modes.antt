-- Who acts in an effect is at first not known to be free; it may be free to go on; or it stays awake below the mark on top.
use Rattle.std.proofs.Common.{◌≡◌, cond, Bool, true, false, List, [], ◌∷◌, ◌++◌, Option, Some, None, refl, sym, ap, subst, ◌∙◌}
use Rattle.std.specs.Prelude.{find, unwrap_or}
use Rattle.trace_text.specs.declared.events.Who.{Who}
use Rattle.trace_text.specs.declared.events.Who.TheVariants as who
use Rattle.profile_image.specs.declared.numbers.StatementNo.{StatementNo}
use Rattle.profile_machine.specs.declared.world.World.{World}
use Rattle.profile_machine.specs.declared.world.tasks.Task.{Task}
use Rattle.profile_machine.specs.declared.world.tasks.State.TheVariants.{Runnable, Blocked}
use Rattle.profile_machine.specs.declared.world.marks.Frame.{Frame}
use Rattle.profile_image.specs.Words.{same_who}
use Rattle.world_tables.specs.Lists.{first_of, rest_of}
use Rattle.profile_machine.specs.Tasks.{task_of, edit_task, with_state, with_frames, waiting_in, is_who, found_task, nobody}
use Rattle.profile_machine.specs.Frames.{edit_first, goes_on}
use Rattle.profile_machine.specs.Tasking.{add_task}
use Rattle.machine_laws.proofs.Moves.{MoveRelation}
use Rattle.line_laws.proofs.Leaving.FineMoves.{FineMoves, Nature, nature, Alike, Free, Awake, waits, waiting_now, top_leaving}
use Rattle.line_laws.proofs.Leaving.TaskLemmas.{of_edited, of_other, of_same, of_added, of_forgotten, who_path}
use Rattle.line_laws.proofs.Leaving.TaskLemmas.{FreeTask, free-edited, awake-edited, awake-same, same_self}
use Rattle.line_laws.proofs.Leaving.FreeWorlds.{gone-top}
use Rattle.line_laws.proofs.Leaving.CoreMoves.{alike-free, pop-free, state-free}
use Rattle.line_laws.proofs.Leaving.Moving.{Extra, Known_of, Moved, GoodAs, Ends, fine}
use Rattle.machine_laws.proofs.FineMoves.{Naming}
use Rattle.machine_laws.proofs.QueueLemmas.{by_test}

-- who acts, and the agent, of whose places nothing is asked
abbrev pub acting : Who → Who → Bool
acting a (who.Task t) = same_who a (who.Task t)
acting a who.Agent = true

pub acting-self : (a : Who) → acting a a ≡ true
acting-self (who.Task a) = same_self (who.Task a)
acting-self who.Agent = refl

abbrev pub Anybody : Naming
Anybody n = Unit {0}

abbrev pub Nobody : Naming
Nobody n = ⊥

abbrev pub Known : World → Type 0
Known w = Unit {0}

-- of whole effects nothing more is asked
abbrev pub Behind : (World → Type 0) → MoveRelation
Behind X w lines v = GoodAs X v

ends-good : (acts : Who → Bool) (loose : Bool) (X : World → Type 0) → ((w v : World) → v.tasks ≡ w.tasks → v.agent ≡ w.agent → X w → X v)
    → Ends acts loose X (Behind X)
ends-good acts loose X same = record {
  moved = λ a b h. h;
  rests = λ w g. g;
  leads_on = λ a b c p q. q;
  settles = λ p a b xs h. (h.core.base.inv, same b _ refl refl h.extra);
  silently = λ a b h. (h.core.base.inv, h.extra);
}

-- ---- nothing is known

pub extra-none : Extra Nobody Anybody (Unit {0}) Known
extra-none = record {
  same = λ w v a b x. tt;
  edits = λ name f w a b c x. tt;
  goes = λ name onward w free x. tt;
  pushes = λ name f w p n x. tt;
  pops = λ name f w p i top plain x. tt;
  readies = λ name w x. tt;
  blocks = λ name waiting w may x. tt;
  blocks_apart = λ name waiting w stops apart x. tt;
  adds = λ t w none still x. tt;
  forgets = λ name w stops x. tt;
}

pub known-none : (a : Who) (loose : Bool) → Known_of (acting a) loose Nobody Anybody (Unit {0}) Known
known-none a loose = record {
  agent = refl;
  may_acts = λ name may. absurd may;
  may_loose = λ name may. absurd may;
  may_pushes = λ name may. tt;
  may_free = λ name w x may. absurd may;
  stops_pushes = λ stops name. tt;
  waiting_pushes = λ name w x e. tt;
}

pub none : (a : Who) (loose : Bool) → FineMoves (GoodAs Known) Nobody (λ n. acting a n ≡ true) Anybody (Unit {0}) (Moved (acting a) loose Known) (Behind Known)
none a loose = fine (acting a) loose extra-none (known-none a loose) (ends-good (acting a) loose Known (λ w v p q x. tt))

-- ---- who acts is free

abbrev pub Is : Who → Naming
Is a n = n ≡ a

extra-going : (a : Who) → Extra (Is a) Anybody (Unit {0}) (Free a)
extra-going a = record {
  same = λ w v p q x. subst FreeTask (sym (of_same a w v p q)) x;
  edits = λ name f w same frames state x. alike-free name f w a same frames x;
  goes =
      λ name onward w free x.
      free-edited a name (λ t. with_frames (edit_first (goes_on onward) t.frames) t) w (λ t. refl) (λ t k. gone-top onward t.frames ∙ k) x;
  pushes = λ name f w p not_left x. free-edited a name (λ t. with_frames (f ∷ t.frames) t) w (λ t. refl) (λ t k. not_left) x;
  pops = λ name f w p inv top plain x. pop-free name f w a inv top plain x;
  readies = λ name w x. state-free name Runnable w a x;
  blocks = λ name waiting w may x. state-free name (Blocked waiting) w a x;
  blocks_apart = λ name waiting w stops apart x. state-free name (Blocked waiting) w a x;
  adds = λ t w frames still x. of_added FreeTask a t w (ap (λ fs. top_leaving (first_of fs)) frames) x;
  forgets = λ name w stops x. of_forgotten FreeTask a name w refl x;
}

known-going : (a : Who) → Known_of (acting a) true (Is a) Anybody (Unit {0}) (Free a)
known-going a = record {
  agent = refl;
  may_acts = λ name may. subst (λ n. acting a n ≡ true) (sym may) (acting-self a);
  may_loose = λ name may. subst (λ n. acting a n ≡ true) (sym may) (acting-self a);
  may_pushes = λ name may. tt;
  may_free = λ name w x may. subst (λ n. Free n w) (sym may) x;
  stops_pushes = λ stops name. tt;
  waiting_pushes = λ name w x e. tt;
}

pub going : (a : Who) → FineMoves (GoodAs (Free a)) (Is a) (λ n. acting a n ≡ true) Anybody (Unit {0}) (Moved (acting a) true (Free a)) (Behind (Free a))
going a = fine (acting a) true (extra-going a) (known-going a) (ends-good (acting a) true (Free a) (λ w v p q x. subst FreeTask (sym (of_same a w v p q)) x))

-- ---- who acts stays awake, with such a mark on top

pub record Top (n : Nature) (t : Task) : Type 0 where
  pub frame : Frame
  pub first : first_of t.frames ≡ Some frame
  pub is : nature frame.mark ≡ n

pub record Steady (a : Who) (n : Nature) (w : World) : Type 0 where
  pub awake : Awake a w
  pub top : Top n (task_of w a)

abbrev pub Apart : Who → Naming
Apart a n = n ≡ a → ⊥

differs : (a name : Who) → Apart a name → same_who a name ≡ false
differs a name k = by_test (same_who a name) (λ e. absurd (k (sym (who_path a name e)))) (λ f. f)

alike-first : (n : Nature) (gs fs : List Frame) (f : Frame) → Alike gs fs → first_of fs ≡ Some f → nature f.mark ≡ n
    → (g : Frame) × (first_of gs ≡ Some g) × (nature g.mark ≡ n)
alike-first n [] [] f a e is = absurd cc
alike-first n [] (x ∷ xs) f a e is = absurd a
alike-first n (g ∷ gs) [] f a e is = absurd a
alike-first n (g ∷ gs) (x ∷ xs) f a e is = let same : x ≡ f = cc in (g, refl, a.0 ∙ ap (λ (y : Frame). nature y.mark) same ∙ is)

gone-first : (n : Nature) (onward : Option StatementNo) (fs : List Frame) (f : Frame) → first_of fs ≡ Some f → nature f.mark ≡ n
    → (g : Frame) × (first_of (edit_first (goes_on onward) fs) ≡ Some g) × (nature g.mark ≡ n)
gone-first n onward [] f e is = absurd cc
gone-first n onward (x ∷ xs) f e is = let same : x ≡ f = cc in (goes_on onward x, refl, ap (λ (y : Frame). nature y.mark) same ∙ is)

top-edited : (a : Who) (n : Nature) (name : Who) (f : Task → Task) (w : World) → ((u : Task) → (f u).who ≡ u.who) → ((u : Task) → Top n u → Top n (f u))
    → Top n (task_of w a) → Top n (task_of (edit_task name f w) a)
top-edited a n name f w same k h = of_edited (Top n) a name f w same k h

-- a task that is found is found with another behind it
found-added : (test : Task → Bool) (t u : Task) (xs : List Task) → find test xs ≡ Some u → find test (xs ++ t ∷ []) ≡ Some u
found-added test t u [] e = absurd cc
found-added test t u (z ∷ zs) e = step (test z) e (λ k. found-added test t u zs k) where
  step : (b : Bool) → cond b (Some z) (find test zs) ≡ Some u → (find test zs ≡ Some u → find test (zs ++ t ∷ []) ≡ Some u)
      → cond b (Some z) (find test (zs ++ t ∷ [])) ≡ Some u
  step true e k = e
  step false e k = k e

added-top : (a : Who) (n : Nature) (t : Task) (w : World) → Top n (task_of w a) → Top n (task_of (add_task t w) a)
added-top who.Agent n t w h = h
added-top (who.Task m) n t w h = by (found_task (who.Task m) w.tasks) refl h where
  by : (found : Option Task) → found_task (who.Task m) w.tasks ≡ found → Top n (unwrap_or (found_task (who.Task m) w.tasks) nobody)
      → Top n (unwrap_or (found_task (who.Task m) (w.tasks ++ t ∷ [])) nobody)
  by None e k = absurd (let q : Top n nobody = subst (λ (o : Option Task). Top n (unwrap_or o nobody)) e k in let none : None ≡ Some q.frame = q.first in cc)
  by (Some u) e k = subst (λ (o : Option Task). Top n (unwrap_or o nobody)) (e ∙ sym (found-added (is_who (who.Task m)) t u w.tasks e)) k

added-awake : (a : Who) (t : Task) (w : World) → waiting_in t.state ≡ None → Awake a w → Awake a (add_task t w)
added-awake (who.Task m) t w still h = of_added (λ u. waits (waiting_in u.state) ≡ false) (who.Task m) t w (ap waits still) h
added-awake who.Agent t w still h = refl

ready-awake : (a name : Who) (w : World) → Awake a w → Awake a (edit_task name (with_state Runnable) w)
ready-awake (who.Task m) name w h = of_edited (λ u. waits (waiting_in u.state) ≡ false) (who.Task m) name (with_state Runnable) w (λ u. refl) (λ u k. refl) h
ready-awake who.Agent name w h = refl

extra-steady : (a : Who) (n : Nature) → Extra Nobody (Apart a) ⊥ (Steady a n)
extra-steady a n = record {
  same = λ w v p q x. record { awake = awake-same a w v p q x.awake; top = subst (Top n) (sym (of_same a w v p q)) x.top };
  edits = λ name f w same frames state x. record {
    awake = awake-edited a name f w same state x.awake;
    top =
        top-edited a n name f w same
        (λ u h. let q = alike-first n (f u).frames u.frames h.frame (frames u) h.first h.is in record { frame = q.0; first = q.1; is = q.2 }) x.top;
  };
  goes = λ name onward w free x. record {
    awake = awake-edited a name (λ t. with_frames (edit_first (goes_on onward) t.frames) t) w (λ u. refl) (λ u. refl) x.awake;
    top =
        top-edited a n name (λ t. with_frames (edit_first (goes_on onward) t.frames) t) w (λ u. refl)
        (λ u h. let q = gone-first n onward u.frames h.frame h.first h.is in record { frame = q.0; first = q.1; is = q.2 }) x.top;
  };
  pushes = λ name f w apart not_left x. record {
    awake = awake-edited a name (λ t. with_frames (f ∷ t.frames) t) w (λ u. refl) (λ u. refl) x.awake;
    top = subst (Top n) (sym (of_other a name (λ t. with_frames (f ∷ t.frames) t) w (λ u. refl) (differs a name apart))) x.top;
  };
  pops = λ name f w apart inv top plain x. record {
    awake = awake-edited a name (λ t. with_frames (rest_of t.frames) t) w (λ u. refl) (λ u. refl) x.awake;
    top = subst (Top n) (sym (of_other a name (λ t. with_frames (rest_of t.frames) t) w (λ u. refl) (differs a name apart))) x.top;
  };
  readies = λ name w x. record {
    awake = ready-awake a name w x.awake;
    top = top-edited a n name (with_state Runnable) w (λ u. refl) (λ u h. record { frame = h.frame; first = h.first; is = h.is }) x.top;
  };
  blocks = λ name waiting w may x. absurd may;
  blocks_apart = λ name waiting w stops apart x. absurd stops;
  adds = λ t w none still x. record { awake = added-awake a t w still x.awake; top = added-top a n t w x.top };
  forgets = λ name w stops x. absurd stops;
}

known-steady : (a : Who) (n : Nature) → Known_of (acting a) true Nobody (Apart a) ⊥ (Steady a n)
known-steady a n = record {
  agent = refl;
  may_acts = λ name may. absurd may;
  may_loose = λ name may. absurd may;
  may_pushes = λ name may. absurd may;
  may_free = λ name w x may. absurd may;
  stops_pushes = λ stops name. absurd stops;
  waiting_pushes =
      λ name w x e is. let awake : waiting_now name w ≡ false = subst (λ k. Awake k w) (sym is) x.awake in let never : true ≡ false = sym e ∙ awake in cc;
}

pub steady : (a : Who) (n : Nature)
    → FineMoves (GoodAs (Steady a n)) Nobody (λ k. acting a k ≡ true) (Apart a) ⊥ (Moved (acting a) true (Steady a n)) (Behind (Steady a n))
steady a n =
    fine (acting a) true (extra-steady a n) (known-steady a n)
    (ends-good (acting a) true (Steady a n) (λ w v p q x. record { awake = awake-same a w v p q x.awake; top = subst (Top n) (sym (of_same a w v p q)) x.top }))
