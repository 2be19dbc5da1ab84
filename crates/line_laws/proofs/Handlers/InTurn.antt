-- Every run serves releases in turn: the release that the agent serves is the last that was taken up, and the one behind the
-- last that was served.
use Rattle.std.proofs.Common.{◌≡◌, ℕ, ℤ, suc, ◌+◌, ◌≤◌, Bool, true, false, cond, ◌&&◌, if◌then◌else◌, option_map, eqb, leb}
use Rattle.std.proofs.Common.{List, [], ◌∷◌, ◌++◌, length, Option, Some, None, refl, sym, ap, subst, ◌∙◌, eq-eqb, arith}
use Rattle.std.specs.Prelude.{unwrap_or}
use Rattle.std.proofs.lemmas.Bool.{and_from, le-leb}
use Rattle.trace_text.specs.declared.events.Event.{Event}
use Rattle.trace_text.specs.declared.events.Event.TheVariants as line
use Rattle.trace_text.specs.declared.events.Who.{Who}
use Rattle.trace_text.specs.declared.events.Who.TheVariants as who
use Rattle.trace_text.specs.Laws.{Releases, no_releases, one_off, see_releases, is_in_order}
use Rattle.profile_image.specs.declared.image.Image.{Image}
use Rattle.profile_image.specs.declared.script_items.Item.{Item}
use Rattle.profile_machine.specs.declared.world.World.{World}
use Rattle.profile_machine.specs.declared.world.tasks.Task.{Task}
use Rattle.profile_machine.specs.declared.world.marks.Frame.{Frame}
use Rattle.profile_machine.specs.declared.world.appointments.Release.{Release}
use Rattle.profile_machine.specs.declared.world.lines.Line.{Line}
use Rattle.profile_machine.specs.declared.world.lines.Line.TheVariants as said
use Rattle.profile_machine.specs.declared.world.lines.Part.{Part}
use Rattle.profile_machine.specs.declared.world.lines.Said.{Said}
use Rattle.profile_image.specs.Words.{same_who, same_option}
use Rattle.profile_machine.specs.Lines.{event_of}
use Rattle.profile_machine.specs.Steps.{in_order, rests}
use Rattle.profile_machine.specs.Tasks.{task_of, task_at, edit_task_found, edit_task, with_ticks}
use Rattle.profile_machine.specs.Dispatching.{choose}
use Rattle.profile_machine.specs.Cost.{cost}
use Rattle.profile_machine.specs.Handlers.{charge}
use Rattle.profile_machine.specs.Instant.{instant}
use Rattle.profile_machine.specs.declared.world.appointments.HandlerOf.{HandlerOf}
use Rattle.profile_machine.specs.Run.{opens, opening, blank_world, with_serving, say, serve_if_free}
use Rattle.profile_machine.specs.Run.{serve, says_idle, one_tick_less, begin_action, tock, run_of}
use Rattle.machine_laws.proofs.FinestMoves.{all_of, effect-leads}
use Rattle.machine_laws.proofs.Moves.{Moves, AreOthers, own, is_told_apart}
use Rattle.machine_laws.proofs.Kept.Handlers.{charge-alters}
use Rattle.machine_laws.proofs.Kept.Instant.{instant-leads}
use Rattle.machine_laws.proofs.Kept.Run.{opens-keeps, before_tick, tock-parts}
use Rattle.line_laws.proofs.Ticks.LineByLine.{seen_behind, seen_behind-append, Follow, Follow-append, Leads_on, OfRuns, run-at_each_line}
use Rattle.line_laws.proofs.Ticks.ReleaseLemmas.{Pending, Pending-behind, Pending-within, events_of, charged}
use Rattle.line_laws.proofs.Exclusion.OwnLines.{told, Told, Told-append, Told-in_order}
use Rattle.line_laws.specs.HandlerLaws.{ServedInTurn}
use Rattle.machine_laws.proofs.Kept.Combinators.{Alters, Leads}

-- ---- what an effect tells of releases

-- one has come, or has been served
data Telling : Type 0 where
  came : ℕ → Telling
  ended : ℕ → Telling

abbrev telling_of : Line → Option Telling
telling_of (said.Release number handler) = Some (came number)
telling_of (said.Served number) = Some (ended number)
telling_of _ = None

-- how many have come, and which is being served
abbrev pub Turn : Type 0
Turn = ℕ × Option ℕ

abbrev pub number_of : Option Release → Option ℕ
number_of = option_map (λ r. r.number)

abbrev pub turn_of : World → Turn
turn_of w = (w.drawn.releases, number_of w.serving)

abbrev IsRight : Turn → Telling → Type 0
IsRight turn (came number) = number ≡ suc turn.0
IsRight turn (ended number) = turn.1 ≡ Some number

abbrev turn_after : Turn → Telling → Turn
turn_after turn (came number) = (suc turn.0, turn.1)
turn_after turn (ended number) = (turn.0, None)

abbrev TellsTurn : List Said → Turn → Turn → Type 0
TellsTurn = Told telling_of IsRight turn_after

abbrev tells_turn : Part → Option Telling → Turn → (Turn → Type 0) → Type 0
tells_turn = told telling_of IsRight turn_after

-- ---- what lines show of a turn

-- the one that is being served is the last that was taken up, and the one behind the last that was served
abbrev pub Serves : Option ℕ → List ℕ → ℕ → ℕ → Type 0
Serves None serving begun served = (serving ≡ []) × (begun ≡ served)
Serves (Some number) serving begun served = (serving ≡ number ∷ []) × (number ≡ begun) × (begun ≡ suc served)

pub record Fits (turn : Turn) (s : Releases) : Type 0 where
  pub all_came : turn.0 ≡ s.released
  pub within : s.begun ≤ s.released
  pub serves : Serves turn.1 s.serving s.begun s.served

abbrev InTurn : Releases → List Event → Type 0
InTurn = Follow see_releases is_in_order

abbrev pub behind : Releases → List Event → Releases
behind = seen_behind see_releases is_in_order

-- these lines stand in turn, and lead on to a turn; none is taken up
record LeadTo (s : Releases) (lines : List Event) (turn : Turn) : Type 0 where
  pub in_turn : InTurn s lines
  pub fits_behind : Fits turn (behind s lines)
  pub begun_behind : (behind s lines).begun ≡ s.begun

LeadTo-append : (s : Releases) (xs ys : List Event) (turn last : Turn) → LeadTo s xs turn → LeadTo (behind s xs) ys last → LeadTo s (xs ++ ys) last
LeadTo-append s xs ys turn last a b =
    let parts : behind s (xs ++ ys) ≡ behind (behind s xs) ys = seen_behind-append see_releases is_in_order s xs ys in
    record {
      in_turn = Follow-append see_releases is_in_order s xs ys a.in_turn b.in_turn;
      fits_behind = subst (Fits last) (sym parts) b.fits_behind;
      begun_behind = ap (λ (q : Releases). q.begun) parts ∙ b.begun_behind ∙ a.begun_behind;
    }

-- a line is in turn, and what is shown behind it fits the turn to which it leads
record Next (p : Image) (x : Line) (s : Releases) (f : Turn → Type 0) : Type 0 where
  pub turn : Turn
  pub right : is_in_order s (event_of p x) ≡ true
  pub fits_next : Fits turn (see_releases s (event_of p x))
  pub begun_next : (see_releases s (event_of p x)).begun ≡ s.begun
  pub onward : f turn

one_off-alone : (number : ℕ) (numbers : List ℕ) → numbers ≡ number ∷ [] → one_off number numbers ≡ []
one_off-alone number numbers e = ap (one_off number) e ∙ ap (λ test. if test then [] else number ∷ []) (eq-eqb number number refl)

came-next : (p : Image) (number : ℕ) (handler : HandlerOf) (turn : Turn) (s : Releases) (f : Turn → Type 0) → Fits turn s → number ≡ suc turn.0
    → f (suc turn.0, turn.1) → Next p (said.Release number handler) s f
came-next p number handler turn s f fits e onward =
    let all_came : turn.0 ≡ s.released = fits.all_came in
    let within : s.begun ≤ s.released = fits.within in
    record {
      turn = (suc turn.0, turn.1);
      right = eq-eqb number (s.released + 1) (omega (arith, e, all_came));
      fits_next = record { all_came = omega (arith, all_came); within = omega (arith, within); serves = fits.serves };
      begun_next = refl;
      onward = onward;
    }

ended-next : (p : Image) (number : ℕ) (turn : Turn) (s : Releases) (f : Turn → Type 0) → Fits turn s → turn.1 ≡ Some number → f (turn.0, None)
    → Next p (said.Served number) s f
ended-next p number turn s f fits e onward =
    let serves : Serves (Some number) s.serving s.begun s.served = subst (λ q. Serves q s.serving s.begun s.served) e fits.serves in
    let last : number ≡ s.begun = serves.1 in
    let next : s.begun ≡ suc s.served = serves.2 in
    let within : s.begun ≤ s.released = fits.within in
    record {
      turn = (turn.0, None);
      right =
          and_from (eqb number (s.served + 1)) (leb number s.released) (eq-eqb number (s.served + 1) (omega (arith, last, next)))
          (le-leb number s.released (omega (arith, last, within)));
      fits_next = record { all_came = fits.all_came; within = within; serves = (one_off-alone number s.serving serves.0, omega (arith, next)) };
      begun_next = refl;
      onward = onward;
    }

line-next : (p : Image) (x : Line) (part : Part) (turn : Turn) (s : Releases) (f : Turn → Type 0) → Fits turn s → tells_turn part (telling_of x) turn f
    → Next p x s f
line-next p (said.Release number handler) part turn s f fits h = came-next p number handler turn s f fits h.1 h.2
line-next p (said.Served number) part turn s f fits h = ended-next p number turn s f fits h.1 h.2
line-next p _ part turn s f fits h = record {
  turn = turn;
  right = refl;
  fits_next = record { all_came = fits.all_came; within = fits.within; serves = fits.serves };
  begun_next = refl;
  onward = h;
}

told-lead : (p : Image) (xs : List Said) (turn last : Turn) (s : Releases) → Fits turn s → TellsTurn xs turn last → LeadTo s (events_of p xs) last
told-lead p [] turn last s fits h = record { in_turn = tt; fits_behind = subst (λ q. Fits q s) h fits; begun_behind = refl }
told-lead p (x ∷ xs) turn last s fits h =
    let e = line-next p x.line x.part turn s (λ q. TellsTurn xs q last) fits h in
    let rest = told-lead p xs e.turn last (see_releases s (event_of p x.line)) e.fits_next e.onward in
    record { in_turn = (e.right, rest.in_turn); fits_behind = rest.fits_behind; begun_behind = rest.begun_behind ∙ e.begun_next }

-- ---- effects

-- none is taken up
abbrev StaysPending : World → World → Type 0
StaysPending before after = (begun : ℕ) → Pending begun before.drawn.releases before.releases → Pending begun after.drawn.releases after.releases

abbrev Tells : World → List Said → World → Type 0
Tells before lines after = TellsTurn lines (turn_of before) (turn_of after) × StaysPending before after

abbrev Shown : World → List Event → World → Type 0
Shown before lines after = ((s : Releases) → Fits (turn_of before) s → LeadTo s lines (turn_of after)) × StaysPending before after

unmoved : (w : World) → Tells w [] w
unmoved w = (refl, λ begun h. h)

unmoved-then : (a b c : World) → Tells a [] b → Tells b [] c → Tells a [] c
unmoved-then a b c p q = (p.0 ∙ q.0, λ begun h. q.1 begun (p.1 begun h))

edit_found-unmoved : (name : Who) (f : Task → Task) (w : World) (found : Option Task) → Tells w [] (edit_task_found name f w found)
edit_found-unmoved name f w None = unmoved w
edit_found-unmoved (who.Task n) f w (Some t) = unmoved w
edit_found-unmoved who.Agent f w (Some t) = unmoved w

edit_task-unmoved : (name : Who) (f : Task → Task) (w : World) → Tells w [] (edit_task name f w)
edit_task-unmoved name f w = edit_found-unmoved name f w (task_at w name)

other-on : (part : Part) (x : Line) (turn : Turn) (f : Turn → Type 0) → is_told_apart x ≡ false → f turn → tells_turn part (telling_of x) turn f
other-on part (said.Release number handler) turn f e h = cc
other-on part (said.Served number) turn f e h = cc
other-on part _ turn f e h = h

others-on : (xs ys : List Said) (turn last : Turn) → AreOthers xs → TellsTurn ys turn last → TellsTurn (xs ++ ys) turn last
others-on [] ys turn last a h = h
others-on (x ∷ xs) ys turn last a h = other-on x.part x.line turn (λ q. TellsTurn (xs ++ ys) q last) a.0 (others-on xs ys turn last a.1 h)

shown-then : (a b c : World) (xs ys : List Event) → Shown a xs b → Shown b ys c → Shown a (xs ++ ys) c
shown-then a b c xs ys p q = (
  λ s fits. let first = p.0 s fits in LeadTo-append s xs ys (turn_of b) (turn_of c) first (q.0 (behind s xs) first.fits_behind),
  λ n h. q.1 n (p.1 n h),
)

tells_turns : Moves Tells Shown
tells_turns = record {
  stays = λ w. unmoved w;
  goes_on = λ a b c {xs} {ys} p q. (Told-append telling_of IsRight turn_after xs ys (turn_of a) (turn_of b) (turn_of c) p.0 q.0, λ n h. q.1 n (p.1 n h));
  says = λ part line w other. (other-on part line (turn_of w) (λ q. q ≡ turn_of w) other refl, λ n h. h);
  rests = λ w. (λ s fits. record { in_turn = tt; fits_behind = fits; begun_behind = refl }, λ n h. h);
  leads_on = λ a b c {xs} {ys} p q. shown-then a b c xs ys p q;
  settles = λ p a b xs k. (
    λ s fits. told-lead p (in_order xs) (turn_of a) (turn_of b) s fits (Told-in_order telling_of IsRight turn_after xs (turn_of a) (turn_of b) k.0),
    k.1,
  );
  silently = λ a b k. (λ s fits. record { in_turn = tt; fits_behind = subst (λ q. Fits q s) k.0 fits; begun_behind = refl }, k.1);
  edits_task = λ name f w k. edit_task-unmoved name f w;
  adds_task = λ t w k. unmoved w;
  forgets_task = λ name w. unmoved w;
  sets_quantum = λ level ticks w. unmoved w;
  ends_environment = λ leaving w. unmoved w;
  begins_scope = λ p name scope b w. unmoved w;
  draws_region = λ w. unmoved w;
  edits_cells = λ id f w. unmoved w;
  ends_scope = λ id w. unmoved w;
  edits_call = λ c f w k. unmoved w;
  adds_call = λ c w. unmoved w;
  forgets_call = λ c w. unmoved w;
  edits_object = λ o f w k a. unmoved w;
  adds_object = λ p l u w. unmoved w;
  enters = λ name o mode w h. unmoved w;
  exits = λ name o w. unmoved w;
  visits = λ name o mode xs w v h others k. (others-on xs (own (said.Exit name o) ∷ []) (turn_of w) (turn_of v) others k.0, k.1);
  finds_held = λ name o mode w h. unmoved w;
  appoints = λ due moment w later. unmoved w;
  drops_appointment = λ test w. unmoved w;
  registers = λ r l w. unmoved w;
  unregisters = λ n w. unmoved w;
  draws_event = λ w. unmoved w;
  adds_timer = λ t w. unmoved w;
  clears_timer = λ k w. unmoved w;
  sets_timer = λ k handler value w. unmoved w;
  sets_timers_due = λ timers w. unmoved w;
  adds_budget = λ w. unmoved w;
  edits_budget = λ b f w. unmoved w;
  sets_budget_due = λ budget w. unmoved w;
  releases = λ handler argument w. (
    (refl, refl, refl),
    λ n h. Pending-behind n w.drawn.releases w.releases (record { number = suc w.drawn.releases; handler = handler; argument = argument }) refl h,
  );
  has_served = λ r w is. ((refl, ap number_of is, refl), λ n h. h);
  sets_port = λ n value w. unmoved w;
  masks = λ n flag w. unmoved w;
  keeps_interrupt = λ n flag w. unmoved w;
  cuts_script = λ x rest w is due. unmoved w;
}

-- ---- what lines and worlds have in common

pub record ShowsTurn (s : Releases) (w : World) : Type 0 where
  pub fits_now : Fits (turn_of w) s
  pub pending_now : Pending s.begun w.drawn.releases w.releases

abbrev LeadsOn : Releases → List Event → World → Type 0
LeadsOn = Leads_on see_releases is_in_order ShowsTurn

shows-unmoved : (s : Releases) (w v : World) → ShowsTurn s w → Tells w [] v → ShowsTurn s v
shows-unmoved s w v h u = record { fits_now = subst (λ q. Fits q s) u.0 h.fits_now; pending_now = u.1 s.begun h.pending_now }

moves-lead_on : (s : Releases) (before : World) (lines : List Event) (after : World) → Shown before lines after → ShowsTurn s before → LeadsOn s lines after
moves-lead_on s before lines after m h =
    let lead = m.0 s h.fits_now in
    record {
      follow = lead.in_turn;
      shows = record {
        fits_now = lead.fits_behind;
        pending_now = subst (λ n. Pending n after.drawn.releases after.releases) (sym lead.begun_behind) (m.1 s.begun h.pending_now);
      };
    }

pub nothing_shown : (p : Image) (script : List (ℤ × Item)) → ShowsTurn no_releases (blank_world p script)
nothing_shown p script = record { fits_now = record { all_came = refl; within = omega arith; serves = (refl, refl) }; pending_now = refl }

openings-lead_on : (p : Image) (script : List (ℤ × Item)) → LeadsOn no_releases (opening p script).1 (opening p script).0
unfolding Leads
openings-lead_on p script =
    moves-lead_on no_releases (blank_world p script) (opening p script).1 (opening p script).0
    (effect-leads (all_of tells_turns).fine p (opens p) (opens-keeps (all_of tells_turns) p) (blank_world p script) tt) (nothing_shown p script)

instants-lead_on : (p : Image) (s : Releases) (w : World) → ShowsTurn s w → LeadsOn s (instant p w).1 (instant p w).0
unfolding Leads
instants-lead_on p s w h =
    moves-lead_on s w (instant p w).1 (instant p w).0
    (instant-leads (all_of tells_turns) p (record { puts = λ name s pieces text v x good is e. unmoved x }) w tt) h

-- ---- a tock takes up the first that is pending, where none is being served

-- a line of a tock that takes up none shows nothing of releases
run-shows : (s : Releases) (name : Who) (w : World) → ShowsTurn s w → ShowsTurn (see_releases s (line.Run name)) w
run-shows s name w h = record {
  fits_now = record { all_came = h.fits_now.all_came; within = h.fits_now.within; serves = h.fits_now.serves };
  pending_now = h.pending_now;
}

idle-shows : (s : Releases) (w : World) → ShowsTurn s w → ShowsTurn (see_releases s line.Idle) w
idle-shows s w h = record {
  fits_now = record { all_came = h.fits_now.all_came; within = h.fits_now.within; serves = h.fits_now.serves };
  pending_now = h.pending_now;
}

idle-lead_on : (ran : Option Who) (w : World) (s : Releases) → ShowsTurn s w → LeadsOn s (says_idle ran w).1 (says_idle ran w).0
idle-lead_on None w s h = record { follow = tt; shows = h }
idle-lead_on (Some name) w s h = record { follow = (refl, tt); shows = idle-shows s w h }

taken_up : (s : Releases) (w : World) (r : Release) (rest : List Release) → w.serving ≡ None → w.releases ≡ r ∷ rest → ShowsTurn s w
    → LeadsOn s (line.Serve r.number ∷ []) (with_serving r rest w)
taken_up s w r rest is e h =
    let serves : Serves None s.serving s.begun s.served = subst (λ q. Serves (number_of q) s.serving s.begun s.served) is h.fits_now.serves in
    let first : Pending s.begun w.drawn.releases (r ∷ rest) = subst (Pending s.begun w.drawn.releases) e h.pending_now in
    let drawn : suc s.begun ≤ w.drawn.releases = Pending-within (suc s.begun) w.drawn.releases rest first.1 in
    let all_came : w.drawn.releases ≡ s.released = h.fits_now.all_came in
    let number : r.number ≡ suc s.begun = first.0 in
    let same : s.begun ≡ s.served = serves.1 in
    let next : suc s.begun ≡ s.begun + 1 = omega arith in
    record {
      follow = (
        and_from (eqb r.number (s.begun + 1) && leb r.number s.released) (eqb (length s.serving) 0)
            (and_from (eqb r.number (s.begun + 1)) (leb r.number s.released) (eq-eqb r.number (s.begun + 1) (omega (arith, number)))
            (le-leb r.number s.released (omega (arith, number, drawn, all_came))))
            (ap (λ (q : List ℕ). eqb (length q) 0) serves.0),
        tt,
      );
      shows = record {
        fits_now = record {
          all_came = all_came;
          within = omega (arith, drawn, all_came);
          serves = (ap (λ q. r.number ∷ one_off r.number q) serves.0, omega (arith, number), omega (arith, same));
        };
        pending_now = subst (λ n. Pending n w.drawn.releases rest) next first.1;
      };
    }

serve_if_free-lead_on : (serving : Option Release) (frames : List Frame) (releases : List Release) (w : World) (s : Releases) → w.serving ≡ serving
    → w.releases ≡ releases → ShowsTurn s w →
    let done = serve_if_free serving frames releases w in
    LeadsOn s (done.1 ++ []) done.0
serve_if_free-lead_on None [] [] w s is e h = record { follow = tt; shows = h }
serve_if_free-lead_on None [] (r ∷ rest) w s is e h = taken_up s w r rest is e h
serve_if_free-lead_on None (f ∷ fs) releases w s is e h = record { follow = tt; shows = h }
serve_if_free-lead_on (Some r) frames releases w s is e h = record { follow = tt; shows = h }

serve-lead_on : (name : Who) (w : World) (s : Releases) → ShowsTurn s w → LeadsOn s ((serve name w).1 ++ []) (serve name w).0
serve-lead_on (who.Task t) w s h = record { follow = tt; shows = h }
serve-lead_on who.Agent w s h = serve_if_free-lead_on w.serving w.agent.frames w.releases w s refl refl h

-- who is chosen begins its action, and is charged for the tick

charged-unmoved : (p : Image) (name : Who) (w : World) → Tells w [] (charged p name w)
unfolding Alters
charged-unmoved p name w =
    let begun = begin_action p name w in
    let paid = charge p name begun in
    unmoved-then w begun (charged p name w) (edit_task-unmoved name (with_ticks (Some (unwrap_or (task_of w name).ticks_left (cost p w name)))) w)
    (unmoved-then begun paid (charged p name w) (charge-alters (all_of tells_turns).fine (all_of tells_turns).settings p name begun tt)
    (edit_task-unmoved name (λ t. with_ticks (one_tick_less t.ticks_left) t) paid))

served-lead_on : (p : Image) (name : Who) (s : Releases) (w : World) → ShowsTurn s w →
    let done = serve name w in
    LeadsOn s (done.1 ++ []) (charged p name done.0)
served-lead_on p name s w h =
    let done = serve name w in
    let lead = serve-lead_on name w s h in
    record { follow = lead.follow; shows = shows-unmoved (behind s (done.1 ++ [])) done.0 (charged p name done.0) lead.shows (charged-unmoved p name done.0) }

run-lead_on : (p : Image) (same : Bool) (name : Who) (w : World) (s : Releases) → ShowsTurn s w →
    let first = cond same rests (say (line.Run name)) w in
    let done = serve name first.0 in LeadsOn s (first.1 ++ (done.1 ++ [])) (charged p name done.0)
run-lead_on p true name w s h = served-lead_on p name s w h
run-lead_on p false name w s h =
    let lead = served-lead_on p name (see_releases s (line.Run name)) w (run-shows s name w h) in
    record { follow = (refl, lead.follow); shows = lead.shows }

before_tick-lead_on : (p : Image) (chosen : Option Who) (w : World) (s : Releases) → ShowsTurn s w
    → LeadsOn s (before_tick p chosen w).1 (before_tick p chosen w).0
before_tick-lead_on p None w s h = idle-lead_on w.ran w s h
before_tick-lead_on p (Some name) w s h = run-lead_on p (same_option same_who w.ran (Some name)) name w s h

tocks-lead_on : (p : Image) (s : Releases) (w : World) → ShowsTurn s w → LeadsOn s (tock p w).1 (tock p w).0
tocks-lead_on p s w h =
    let before = before_tick-lead_on p (choose w) w s h in
    subst (λ (a : World × List Event). LeadsOn s a.1 a.0) (sym (tock-parts p w))
    (record { follow = before.follow; shows = record { fits_now = before.shows.fits_now; pending_now = before.shows.pending_now } })

-- ---- every run

pub served_in_turn : OfRuns see_releases is_in_order ShowsTurn no_releases
served_in_turn = record {
  openings = openings-lead_on;
  instants = instants-lead_on;
  tocks = tocks-lead_on;
  ends = λ p bound s w reason shown e. refl;
  bound = λ s. refl;
}

pub runs_serve_in_turn : (p : Image) (script : List (ℤ × Item)) (bound : ℕ) → ServedInTurn (run_of p script bound)
runs_serve_in_turn p script bound = run-at_each_line see_releases is_in_order served_in_turn p script bound
