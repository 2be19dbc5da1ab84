-- What each change keeps of delays, and of the places of those for whom the end of one is appointed.
use Rattle.std.proofs.Common.{◌≡◌, ◌⊎◌, inl, inr, suc, Bool, true, false, List, [], ◌∷◌, ◌++◌, Option, refl, sym, ap, ◌∙◌}
use Rattle.ann_base.specs.declared.identities.CallNo.{CallNo}
use Rattle.ann_base.specs.declared.identities.TaskNo.{TaskNo}
use Rattle.trace_text.specs.declared.events.Event.{Event}
use Rattle.trace_text.specs.declared.events.Who.{Who}
use Rattle.world_tables.specs.Lists.{rest_of}
use Rattle.trace_text.specs.declared.events.Who.TheVariants as who
use Rattle.profile_image.specs.declared.image.Image.{Image}
use Rattle.profile_machine.specs.declared.world.World.{World}
use Rattle.profile_machine.specs.declared.world.calls.Call.{Call}
use Rattle.profile_machine.specs.declared.world.lines.Line.{Line}
use Rattle.profile_machine.specs.declared.world.lines.Line.TheVariants as said
use Rattle.profile_machine.specs.declared.world.lines.Said.{Said}
use Rattle.profile_machine.specs.declared.world.tasks.Placed.{Placed}
use Rattle.profile_machine.specs.declared.world.tasks.State.TheVariants.{Runnable, Blocked}
use Rattle.profile_machine.specs.declared.world.tasks.Waiting.{Waiting}
use Rattle.profile_machine.specs.Calls.{edit_call, forget_call}
use Rattle.profile_machine.specs.Dispatching.{word_of}
use Rattle.profile_machine.specs.EntryCalls.{add_call}
use Rattle.profile_machine.specs.Steps.{places_after_all, placed_by}
use Rattle.profile_machine.specs.Tasks.{task_of, waiting_of, with_frames, with_state}
use Rattle.machine_laws.proofs.Moves.{lines_of}
use Rattle.machine_laws.proofs.FineMoves.{GoodWorld, Naming, ready_line}
use Rattle.ceiling_laws.proofs.Fine.CallLemmas.{edited-caller, added-caller, gone-caller}
use Rattle.world_laws.proofs.Appointments.DelayEdits.{Steady, awaited-on, edited-steady, edited-numbered, plain-owned, pushed-owned, popped-owned}
use Rattle.world_laws.proofs.Appointments.DelayEdits.{state-steady, added-steady, added-numbered, added-owned, gone-steady, gone-numbered}
use Rattle.world_laws.proofs.Appointments.DelayEdits.{gone-owned, dropped-steady, appointed-steady, apart_from, asleep-idle, each-asleep, each-found}
use Rattle.world_laws.proofs.Appointments.Delays.{delayed, Idle, Owned, Numbered, Good, Later, later_then, own-on, idle-later, natures}
use Rattle.world_laws.proofs.Appointments.FineMoves.{FineMoves, is_apart}
use Rattle.line_laws.proofs.Leaving.PlacingLines.{Quiet, Quiet-append, taken, taken_from, taken_from-append, still-taken}
use Rattle.line_laws.proofs.Leaving.PlacingLines.{more-taken, readies, is_placed, quiet_not_placed, taken_not_placed}
use Rattle.line_laws.proofs.Leaving.CoreMoves.{quiet-early}

-- ---- whoever waits for the end of a delay is not placed, unless it is excused

-- whom a state excuses
abbrev pub Excuse : Type 0
Excuse = TaskNo → Option Waiting → Bool

abbrev pub nobody_excused : Excuse
nobody_excused t waiting = false

-- of whom a delay is appointed behind these lines one was appointed before, and none of them places it; or they take it out
abbrev pub Follows : Excuse → Excuse → World → List Said → World → Type 0
Follows first last w xs v =
    (t : TaskNo) → delayed t v ≡ true → last t (waiting_of v (who.Task t)) ≡ false
    → ((delayed t w ≡ true) × (first t (waiting_of w (who.Task t)) ≡ false) × Quiet (who.Task t) xs) ⊎ (taken (who.Task t) xs ≡ true)

taken-either : (n : Who) (b : Bool) (ys : List Said) → taken n ys ≡ true → taken_from n b ys ≡ true
taken-either n true ys e = more-taken n ys e
taken-either n false ys e = e

pub follows_then : (e f g : Excuse) (a b c : World) (xs ys : List Said) → Follows e f a xs b → Follows f g b ys c → Follows e g a (xs ++ ys) c
follows_then e f g a b c xs ys p q t d x = last (q t d x) where
  first : Quiet (who.Task t) ys → ((delayed t a ≡ true) × (e t (waiting_of a (who.Task t)) ≡ false) × Quiet (who.Task t) xs) ⊎ (taken (who.Task t) xs ≡ true)
      → ((delayed t a ≡ true) × (e t (waiting_of a (who.Task t)) ≡ false) × Quiet (who.Task t) (xs ++ ys)) ⊎ (taken (who.Task t) (xs ++ ys) ≡ true)
  first quiet (inl h) = inl (h.0, h.1, Quiet-append (who.Task t) xs ys h.2 quiet)
  first quiet (inr h) =
      inr
      (taken_from-append (who.Task t) false xs ys ∙ ap (λ k. taken_from (who.Task t) k ys) h ∙ still-taken (who.Task t) ys (quiet-early (who.Task t) ys quiet))

  last : ((delayed t b ≡ true) × (f t (waiting_of b (who.Task t)) ≡ false) × Quiet (who.Task t) ys) ⊎ (taken (who.Task t) ys ≡ true)
      → ((delayed t a ≡ true) × (e t (waiting_of a (who.Task t)) ≡ false) × Quiet (who.Task t) (xs ++ ys)) ⊎ (taken (who.Task t) (xs ++ ys) ≡ true)
  last (inl h) = first h.2 (p t h.0 h.1)
  last (inr h) = inr (taken_from-append (who.Task t) false xs ys ∙ taken-either (who.Task t) (taken (who.Task t) xs) ys h)

pub steady-follows : (e : Excuse) (w v : World) (xs : List Said) → Steady w v → ((t : TaskNo) → delayed t v ≡ true → Quiet (who.Task t) xs) → Follows e e w xs v
steady-follows e w v xs s quiet t d x = inl (s.later.delays t d, ap (e t) (sym (s.states t d)) ∙ x, quiet t d)

-- ---- the relations

-- what lasts from a world on
abbrev pub Lasting : GoodWorld → Type 0
Lasting E = (w v : World) → Later w v → E w → E v

abbrev pub GoodAs : GoodWorld → GoodWorld
GoodAs E w = Good w × E w

pub record Moved (e : Excuse) (E : GoodWorld) (w : World) (xs : List Said) (v : World) : Type 0 where
  pub good : Good v
  pub extra : E v
  pub later : Later w v
  pub follows : Follows e e w xs v

-- of moves, whose lines are in order
abbrev pub Unplaces : Excuse → World → List Event → World → Type 0
Unplaces e w lines v =
    (t : TaskNo) → delayed t v ≡ true → e t (waiting_of v (who.Task t)) ≡ false → (places : List Placed)
    → (delayed t w ≡ true → e t (waiting_of w (who.Task t)) ≡ false → is_placed (who.Task t) places ≡ false)
    → is_placed (who.Task t) (places_after_all lines places) ≡ false

pub record MovedOn (e : Excuse) (E : GoodWorld) (w : World) (lines : List Event) (v : World) : Type 0 where
  pub good : Good v
  pub extra : E v
  pub later : Later w v
  pub unplaces : Unplaces e w lines v

pub settled-unplaces : (e f : Excuse) (p : Image) (w v : World) (xs : List Said) → Follows e f w xs v → (t : TaskNo) → delayed t v ≡ true
    → f t (waiting_of v (who.Task t)) ≡ false → (places : List Placed)
    → (delayed t w ≡ true → e t (waiting_of w (who.Task t)) ≡ false → is_placed (who.Task t) places ≡ false)
    → is_placed (who.Task t) (places_after_all (lines_of p xs) places) ≡ false
settled-unplaces e f p w v xs h t d x places k = last (h t d x) where
  last : ((delayed t w ≡ true) × (e t (waiting_of w (who.Task t)) ≡ false) × Quiet (who.Task t) xs) ⊎ (taken (who.Task t) xs ≡ true)
      → is_placed (who.Task t) (places_after_all (lines_of p xs) places) ≡ false
  last (inl g) = quiet_not_placed p (who.Task t) xs places g.2 (k g.0 g.1)
  last (inr g) = taken_not_placed p (who.Task t) xs places g

after_all-append : (xs ys : List Event) (places : List Placed) → places_after_all (xs ++ ys) places ≡ places_after_all ys (places_after_all xs places)
after_all-append [] ys places = refl
after_all-append (x ∷ xs) ys places = after_all-append xs ys _

pub unplaces_then : (e : Excuse) (a b c : World) (xs ys : List Event) → Unplaces e a xs b → Unplaces e b ys c → Unplaces e a (xs ++ ys) c
unplaces_then e a b c xs ys p q t d x places k =
    ap (is_placed (who.Task t)) (after_all-append xs ys places) ∙ q t d x (places_after_all xs places) (λ m y. p t m y places k)

-- lines that are not told apart place nobody
pub apart-readies : (n : Who) (line : Line) → is_apart line ≡ false → readies n line ≡ false
apart-readies n (said.Ready name level end deadline) e = absurd cc
apart-readies n _ e = refl

unmoved : (w : World) → Later w w
unmoved w = record { delays = λ t d. d; callers = λ c n h. h }

module _ (e : Excuse) {E : GoodWorld} (lasting : Lasting E) where
  -- a change that says nothing
  silently : (w v : World) → Steady w v → Numbered v → Owned v → GoodAs E w → Moved e E w [] v
  silently w v s numbered owned g = record {
    good = record { awaited = awaited-on w v s g.0.awaited; numbered = numbered; owned = owned };
    extra = lasting w v s.later g.1;
    later = s.later;
    follows = steady-follows e w v [] s (λ t d. tt);
  }

  placed_good : (lines : List Event) (w : World) → Good w → Good (placed_by lines w)
  placed_good lines w h = record { awaited = h.awaited; numbered = h.numbered; owned = h.owned }

  -- a line, and no change
  told : (x : Said) (w : World) → ((t : TaskNo) → delayed t w ≡ true → readies (who.Task t) x.line ≡ false) → GoodAs E w → Moved e E w (x ∷ []) w
  told x w quiet g = record {
    good = g.0;
    extra = g.1;
    later = unmoved w;
    follows = steady-follows e w w (x ∷ []) (record { later = unmoved w; states = λ t d. refl }) (λ t d. (quiet t d, tt));
  }

  moved_then : (a b c : World) {xs ys : List Said} → Moved e E a xs b → Moved e E b ys c → Moved e E a (xs ++ ys) c
  moved_then a b c {xs} {ys} p q = record {
    good = q.good;
    extra = q.extra;
    later = later_then a b c p.later q.later;
    follows = follows_then e e e a b c xs ys p.follows q.follows;
  }

  moved_on_then : (a b c : World) {xs ys : List Event} → MovedOn e E a xs b → MovedOn e E b ys c → MovedOn e E a (xs ++ ys) c
  moved_on_then a b c {xs} {ys} p q = record {
    good = q.good;
    extra = q.extra;
    later = later_then a b c p.later q.later;
    unplaces = unplaces_then e a b c xs ys p.unplaces q.unplaces;
  }

  edit-call : (c : CallNo) (f : Call → Call) (w : World) → GoodAs E w → ((d : Call) → (f d).number ≡ d.number) → ((d : Call) → (f d).caller ≡ d.caller)
      → Moved e E w [] (edit_call c f w)
  edit-call c f w g number caller =
      let kept = λ (k : CallNo) (name : Who). edited-caller c f w.calls w.drawn.calls number caller name k in
      silently w (edit_call c f w) (record { later = record { delays = λ t d. d; callers = kept }; states = λ t d. refl }) g.0.numbered
      (λ n. own-on w.calls (edit_call c f w).calls w.drawn.calls w.drawn.calls n (natures (task_of w n).frames) (λ k h. kept k n h) (g.0.owned n)) g

  module _ (May : Naming) (acts : (name : Who) (w : World) → E w → May name → Idle name w) where
    pub fine : FineMoves (GoodAs E) May (Moved e E) (MovedOn e E)
    fine = record {
      behind = λ a b k. (k.good, k.extra);
      moved = λ a b k. (k.good, k.extra);
      stays = λ w g. silently w w (record { later = record { delays = λ t d. d; callers = λ c n h. h }; states = λ t d. refl }) g.0.numbered g.0.owned g;
      goes_on = λ a b c p q. moved_then a b c p q;
      says = λ part line w g apart. told (record { part = part; line = line }) w (λ t d. apart-readies (who.Task t) line apart) g;
      leads_on = λ a b c p q. moved_on_then a b c p q;
      settles = λ p a b xs k. record {
        good = placed_good (lines_of p xs) b k.good;
        extra = lasting b (placed_by (lines_of p xs) b) (record { delays = λ t d. d; callers = λ c n h. h }) k.extra;
        later = record { delays = λ t d. k.later.delays t d; callers = λ c n h. k.later.callers c n h };
        unplaces = settled-unplaces e e p a b xs k.follows;
      };
      idle = λ name w g may. acts name w g.1 may;
      asleep = λ name w g h. asleep-idle name w g.0.awaited h;
      listed = λ w g. each-asleep w w.tasks g.0.awaited (each-found 0 w.drawn.tasks w.tasks g.0.numbered);
      idle_on = λ name a b k h. idle-later name a b k.later h;
      called_on = λ c name a b k h. k.later.callers c name h;
      edits_task =
          λ name f w g same frames state. silently w _ (edited-steady name f w same state) (edited-numbered name f w same g.0.numbered)
          (plain-owned name f w same (λ u. ap natures (frames u)) g.0.owned) g;
      edits_frames =
          λ name f w g marks. silently w _ (edited-steady name (λ t. with_frames (f t.frames) t) w (λ u. refl) (λ u. refl))
          (edited-numbered name (λ t. with_frames (f t.frames) t) w (λ u. refl) g.0.numbered)
          (plain-owned name (λ t. with_frames (f t.frames) t) w (λ u. refl) (λ u. marks u.frames) g.0.owned) g;
      pushes =
          λ name f w g called. silently w _ (edited-steady name (λ t. with_frames (f ∷ t.frames) t) w (λ u. refl) (λ u. refl))
          (edited-numbered name (λ t. with_frames (f ∷ t.frames) t) w (λ u. refl) g.0.numbered) (pushed-owned name f w called g.0.owned) g;
      pops =
          λ name w g. silently w _ (edited-steady name (λ t. with_frames (rest_of t.frames) t) w (λ u. refl) (λ u. refl))
          (edited-numbered name (λ t. with_frames (rest_of t.frames) t) w (λ u. refl) g.0.numbered) (popped-owned name w g.0.owned) g;
      readies =
          λ name w g idle. silently w _ (state-steady name Runnable w idle) (edited-numbered name (with_state Runnable) w (λ u. refl) g.0.numbered)
          (plain-owned name (with_state Runnable) w (λ u. refl) (λ u. refl) g.0.owned) g;
      blocks =
          λ name waiting w g idle. silently w _ (state-steady name (Blocked waiting) w idle)
          (edited-numbered name (with_state (Blocked waiting)) w (λ u. refl) g.0.numbered)
          (plain-owned name (with_state (Blocked waiting)) w (λ u. refl) (λ u. refl) g.0.owned) g;
      places = λ p part name end w g idle. told (ready_line p part name end w) w (λ t d. apart_from name w t idle d) g;
      says_blocked = λ part name waiting w g. told (record { part = part; line = said.Block name (word_of waiting) }) w (λ t d. refl) g;
      adds_task = λ t w g same none. silently w _ (added-steady t w g.0.awaited) (added-numbered t w same g.0.numbered) (added-owned t w none g.0.owned) g;
      forgets_task = λ name w g idle. silently w _ (gone-steady name w idle) (gone-numbered name w g.0.numbered) (gone-owned name w g.0.owned) g;
      sets_quantum =
          λ level ticks w g.
          silently w _ (record { later = record { delays = λ t d. d; callers = λ c n h. h }; states = λ t d. refl }) g.0.numbered g.0.owned g;
      ends_environment =
          λ leaving w g. silently w _ (record { later = record { delays = λ t d. d; callers = λ c n h. h }; states = λ t d. refl }) g.0.numbered g.0.owned g;
      draws_region = λ w g. silently w _ (record { later = record { delays = λ t d. d; callers = λ c n h. h }; states = λ t d. refl }) g.0.numbered g.0.owned g;
      begins_scope =
          λ p name scope b w g.
          silently w _ (record { later = record { delays = λ t d. d; callers = λ c n h. h }; states = λ t d. refl }) g.0.numbered g.0.owned g;
      edits_cells =
          λ id f w g. silently w _ (record { later = record { delays = λ t d. d; callers = λ c n h. h }; states = λ t d. refl }) g.0.numbered g.0.owned g;
      ends_scope =
          λ id w g. silently w _ (record { later = record { delays = λ t d. d; callers = λ c n h. h }; states = λ t d. refl }) g.0.numbered g.0.owned g;
      edits_call = λ c f w g number caller. edit-call c f w g number caller;
      adds_call =
          λ c w g. silently w _
          (record { later = record { delays = λ t d. d; callers = λ k n h. added-caller c w.calls w.drawn.calls n k h }; states = λ t d. refl }) g.0.numbered
          (λ n. own-on w.calls (add_call c w).calls w.drawn.calls (suc w.drawn.calls) n (natures (task_of w n).frames)
          (λ k h. added-caller c w.calls w.drawn.calls n k h) (g.0.owned n)) g;
      forgets_call =
          λ c w g. silently w _
          (record { later = record { delays = λ t d. d; callers = λ k n h. gone-caller c w.calls w.drawn.calls n k h }; states = λ t d. refl }) g.0.numbered
          (λ n. own-on w.calls (forget_call c w).calls w.drawn.calls w.drawn.calls n (natures (task_of w n).frames)
          (λ k h. gone-caller c w.calls w.drawn.calls n k h) (g.0.owned n)) g;
      edits_object =
          λ o f w g number actions.
          silently w _ (record { later = record { delays = λ t d. d; callers = λ c n h. h }; states = λ t d. refl }) g.0.numbered g.0.owned g;
      adds_object =
          λ p l u w g. silently w _ (record { later = record { delays = λ t d. d; callers = λ c n h. h }; states = λ t d. refl }) g.0.numbered g.0.owned g;
      enters =
          λ name o mode w g.
          silently w _ (record { later = record { delays = λ t d. d; callers = λ c n h. h }; states = λ t d. refl }) g.0.numbered g.0.owned g;
      closes =
          λ name o w g. silently w _ (record { later = record { delays = λ t d. d; callers = λ c n h. h }; states = λ t d. refl }) g.0.numbered g.0.owned g;
      releases =
          λ h argument w g. silently w _ (record { later = record { delays = λ t d. d; callers = λ c n h. h }; states = λ t d. refl }) g.0.numbered g.0.owned g;
      serves = λ w g. silently w _ (record { later = record { delays = λ t d. d; callers = λ c n h. h }; states = λ t d. refl }) g.0.numbered g.0.owned g;
      appoints = λ due moment w g other. silently w _ (appointed-steady due moment w other) g.0.numbered g.0.owned g;
      drops_appointment = λ test w g. silently w _ (dropped-steady test w) g.0.numbered g.0.owned g;
      registers =
          λ r l w g. silently w _ (record { later = record { delays = λ t d. d; callers = λ c n h. h }; states = λ t d. refl }) g.0.numbered g.0.owned g;
      unregisters =
          λ n w g. silently w _ (record { later = record { delays = λ t d. d; callers = λ c n h. h }; states = λ t d. refl }) g.0.numbered g.0.owned g;
      draws_event = λ w g. silently w _ (record { later = record { delays = λ t d. d; callers = λ c n h. h }; states = λ t d. refl }) g.0.numbered g.0.owned g;
      adds_timer = λ t w g. silently w _ (record { later = record { delays = λ t d. d; callers = λ c n h. h }; states = λ t d. refl }) g.0.numbered g.0.owned g;
      clears_timer =
          λ k w g. silently w _ (record { later = record { delays = λ t d. d; callers = λ c n h. h }; states = λ t d. refl }) g.0.numbered g.0.owned g;
      sets_timer =
          λ k h value w g. silently w _ (record { later = record { delays = λ t d. d; callers = λ c n h. h }; states = λ t d. refl }) g.0.numbered g.0.owned g;
      sets_timers_due =
          λ timers w g. silently w _ (record { later = record { delays = λ t d. d; callers = λ c n h. h }; states = λ t d. refl }) g.0.numbered g.0.owned g;
      adds_budget = λ w g. silently w _ (record { later = record { delays = λ t d. d; callers = λ c n h. h }; states = λ t d. refl }) g.0.numbered g.0.owned g;
      edits_budget =
          λ b f w g. silently w _ (record { later = record { delays = λ t d. d; callers = λ c n h. h }; states = λ t d. refl }) g.0.numbered g.0.owned g;
      sets_budget_due =
          λ budget w g. silently w _ (record { later = record { delays = λ t d. d; callers = λ c n h. h }; states = λ t d. refl }) g.0.numbered g.0.owned g;
      sets_port =
          λ n value w g. silently w _ (record { later = record { delays = λ t d. d; callers = λ c n h. h }; states = λ t d. refl }) g.0.numbered g.0.owned g;
      masks = λ n flag w g. silently w _ (record { later = record { delays = λ t d. d; callers = λ c n h. h }; states = λ t d. refl }) g.0.numbered g.0.owned g;
      keeps_interrupt =
          λ n flag w g. silently w _ (record { later = record { delays = λ t d. d; callers = λ c n h. h }; states = λ t d. refl }) g.0.numbered g.0.owned g;
      cuts_script =
          λ rest w g. silently w _ (record { later = record { delays = λ t d. d; callers = λ c n h. h }; states = λ t d. refl }) g.0.numbered g.0.owned g;
    }
