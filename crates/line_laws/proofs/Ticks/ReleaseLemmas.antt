-- Every run keeps the law of releases: each that comes has the next number, and those that are pending follow the last that
-- was taken up.
use Rattle.std.proofs.Common.{◌≡◌, ℕ, ℤ, suc, ◌≤◌, Bool, true, false, cond, eqb, leb, List, [], ◌∷◌}
use Rattle.std.proofs.Common.{◌++◌, map, Option, Some, None, refl, sym, ap, subst, ◌∙◌, eq-eqb, arith}
use Rattle.std.specs.Prelude.{unwrap_or}
use Rattle.std.proofs.lemmas.Bool.{and_from, false≢true, le-leb}
use Rattle.trace_text.specs.declared.events.Event.{Event}
use Rattle.trace_text.specs.declared.events.Event.TheVariants as line
use Rattle.trace_text.specs.declared.events.Who.{Who}
use Rattle.trace_text.specs.declared.events.Who.TheVariants as who
use Rattle.profile_image.specs.declared.image.Image.{Image}
use Rattle.profile_image.specs.declared.script_items.Item.{Item}
use Rattle.profile_machine.specs.declared.world.World.{World}
use Rattle.profile_machine.specs.declared.world.tasks.Task.{Task}
use Rattle.profile_machine.specs.declared.world.marks.Frame.{Frame}
use Rattle.profile_machine.specs.declared.world.appointments.Release.{Release}
use Rattle.profile_machine.specs.declared.world.lines.Line.{Line}
use Rattle.profile_machine.specs.declared.world.lines.Line.TheVariants as said
use Rattle.profile_machine.specs.declared.world.lines.Part.{Part}
use Rattle.profile_machine.specs.declared.world.lines.Part.TheVariants.{Own}
use Rattle.profile_machine.specs.declared.world.lines.Said.{Said}
use Rattle.profile_image.specs.Words.{same_who, same_option}
use Rattle.profile_machine.specs.Lines.{event_of}
use Rattle.profile_machine.specs.Steps.{is_part_before, put_in_order, in_order, rests}
use Rattle.profile_machine.specs.Tasks.{task_of, task_at, edit_task_found, edit_task, with_ticks}
use Rattle.profile_machine.specs.Dispatching.{choose}
use Rattle.profile_machine.specs.Cost.{cost}
use Rattle.profile_machine.specs.Handlers.{charge}
use Rattle.profile_machine.specs.Instant.{instant}
use Rattle.profile_machine.specs.Run.{opens, opening, blank_world, say, says_run, serve_if_free, serve}
use Rattle.profile_machine.specs.Run.{says_idle, one_tick_less, begin_action, spend_tick, tock, run_of}
use Rattle.machine_laws.proofs.FinestMoves.{all_of, effect-leads}
use Rattle.machine_laws.proofs.Moves.{Moves, AreOthers, own, is_told_apart}
use Rattle.machine_laws.proofs.Kept.Handlers.{charge-alters}
use Rattle.machine_laws.proofs.Kept.Instant.{instant-leads}
use Rattle.machine_laws.proofs.Kept.Run.{before_tick, tock-parts, opens-keeps}
use Rattle.line_laws.specs.TickLaws.{Counts, no_counts, counts_after, is_next_release, ReleasesInOrder}
use Rattle.line_laws.proofs.Ticks.LineByLine.{seen_behind, seen_behind-append, Follow, Follow-append, Leads_on, OfRuns, run-at_each_line}
use Rattle.machine_laws.proofs.Kept.Combinators.{Alters, Leads}

-- ---- the releases that are pending

-- the first behind this number, and each behind the one before, up to the last that was drawn
abbrev pub Pending : ℕ → ℕ → List Release → Type 0
Pending begun last [] = begun ≡ last
Pending begun last (r ∷ rest) = (r.number ≡ suc begun) × Pending (suc begun) last rest

pub Pending-behind : (begun last : ℕ) (releases : List Release) (r : Release) → r.number ≡ suc last → Pending begun last releases
    → Pending begun (suc last) (releases ++ r ∷ [])
Pending-behind begun last [] r e h = (e ∙ ap (λ n. suc n) (sym h), ap (λ n. suc n) h)
Pending-behind begun last (x ∷ xs) r e h = (h.0, Pending-behind (suc begun) last xs r e h.1)

pub Pending-within : (begun last : ℕ) (releases : List Release) → Pending begun last releases → begun ≤ last
Pending-within begun last [] h = omega (arith, h)
Pending-within begun last (x ∷ xs) h = let rest : suc begun ≤ last = Pending-within (suc begun) last xs h.1 in omega arith

-- ---- what an effect says of releases

abbrev release_of : Line → Option ℕ
release_of (said.Release number handler) = Some number
release_of _ = None

-- a release that is told is the next of those that were told, and told by the one whose effect it is
abbrev told : Part → Option ℕ → ℕ → (ℕ → Type 0) → Type 0
told part (Some number) count onward = (part ≡ Own) × (number ≡ suc count) × onward (suc count)
told part None count onward = onward count

abbrev Told : List Said → ℕ → ℕ → Type 0
Told [] count last = count ≡ last
Told (x ∷ xs) count last = told x.part (release_of x.line) count (λ n. Told xs n last)

told-also : (part : Part) (number : Option ℕ) (count : ℕ) (f g : ℕ → Type 0) → ((n : ℕ) → f n → g n) → told part number count f → told part number count g
told-also part (Some number) count f g k h = (h.0, h.1, k (suc count) h.2)
told-also part None count f g k h = k count h

Told-append : (xs ys : List Said) (a b c : ℕ) → Told xs a b → Told ys b c → Told (xs ++ ys) a c
Told-append [] ys a b c h k = subst (λ n. Told ys n c) (sym h) k
Told-append (x ∷ xs) ys a b c h k = told-also x.part (release_of x.line) a (λ n. Told xs n b) (λ n. Told (xs ++ ys) n c) (λ n g. Told-append xs ys n b c g k) h

-- two lines change places where the second is of an earlier part: both are no release
both_own : (p q : Part) → p ≡ Own → q ≡ Own → is_part_before q p ≡ true → ⊥
both_own p q e f h =
    let own : is_part_before Own p ≡ true = subst (λ x. is_part_before x p ≡ true) f h in
    false≢true (subst (λ x. is_part_before Own x ≡ true) e own)

told-swap : (p q : Part) (m n : Option ℕ) (count : ℕ) (f : ℕ → Type 0) → is_part_before q p ≡ true → told p m count (λ k. told q n k f)
    → told q n count (λ k. told p m k f)
told-swap p q None n count f before h = h
told-swap p q (Some m) None count f before h = h
told-swap p q (Some m) (Some n) count f before h = absurd (both_own p q h.0 h.2.0 before)

put-test : (x y : Said) (ys placed : List Said) (a c : ℕ) (test : Bool) → is_part_before y.part x.part ≡ test → ((n : ℕ) → Told (x ∷ ys) n c → Told placed n c)
    → Told (x ∷ y ∷ ys) a c → Told (cond test (y ∷ placed) (x ∷ y ∷ ys)) a c
put-test x y ys placed a c false is onward h = h
put-test x y ys placed a c true is onward h =
    told-also y.part (release_of y.line) a (λ n. Told (x ∷ ys) n c) (λ n. Told placed n c) onward
    (told-swap x.part y.part (release_of x.line) (release_of y.line) a (λ n. Told ys n c) is h)

Told-put : (x : Said) (ys : List Said) (a c : ℕ) → Told (x ∷ ys) a c → Told (put_in_order x ys) a c
Told-put x [] a c h = h
Told-put x (y ∷ ys) a c h = put-test x y ys (put_in_order x ys) a c (is_part_before y.part x.part) refl (λ n g. Told-put x ys n c g) h

Told-in_order : (xs : List Said) (a c : ℕ) → Told xs a c → Told (in_order xs) a c
Told-in_order [] a c h = h
Told-in_order (x ∷ xs) a c h =
    Told-put x (in_order xs) a c (told-also x.part (release_of x.line) a (λ n. Told xs n c) (λ n. Told (in_order xs) n c) (λ n g. Told-in_order xs n c g) h)

-- ---- what lines show

abbrev counts : ℕ → ℕ → Counts
counts released begun = record { released = released; begun = begun }

abbrev counts_behind : Counts → List Event → Counts
counts_behind = seen_behind counts_after is_next_release

abbrev InOrder : Counts → List Event → Type 0
InOrder = Follow counts_after is_next_release

-- these lines lead from some counts to others
abbrev LeadTo : Counts → List Event → Counts → Type 0
LeadTo s lines t = InOrder s lines × (counts_behind s lines ≡ t)

LeadTo-append : (s t u : Counts) (xs ys : List Event) → LeadTo s xs t → LeadTo t ys u → LeadTo s (xs ++ ys) u
LeadTo-append s t u xs ys a b = (
  Follow-append counts_after is_next_release s xs ys a.0 (subst (λ q. InOrder q ys) (sym a.1) b.0),
  seen_behind-append counts_after is_next_release s xs ys ∙ ap (λ q. counts_behind q ys) a.1 ∙ b.1,
)

abbrev Next : Image → Line → ℕ → ℕ → (ℕ → Type 0) → Type 0
Next p x a b f = (n : ℕ) × (is_next_release (counts a b) (event_of p x) ≡ true) × (counts_after (counts a b) (event_of p x) ≡ counts n b) × f n

event-told : (p : Image) (x : Line) (part : Part) (a b : ℕ) (f : ℕ → Type 0) → told part (release_of x) a f → Next p x a b f
event-told p (said.Release number handler) part a b f h = (suc a, eq-eqb number (suc a) h.1, refl, h.2)
event-told p _ part a b f h = (a, refl, refl, h)

abbrev pub events_of : Image → List Said → List Event
events_of p xs = map (λ x. event_of p x.line) xs

told-lead : (p : Image) (xs : List Said) (a b last : ℕ) → Told xs a last → LeadTo (counts a b) (events_of p xs) (counts last b)
told-lead p [] a b last h = (tt, ap (λ n. counts n b) h)
told-lead p (x ∷ xs) a b last h =
    let e = event-told p x.line x.part a b (λ n. Told xs n last) h in
    let rest = told-lead p xs e.0 b last e.3 in
    ((e.1, subst (λ q. InOrder q (events_of p xs)) (sym e.2) rest.0), ap (λ q. counts_behind q (events_of p xs)) e.2 ∙ rest.1)

-- ---- effects

-- none is taken up
abbrev StayPending : World → World → Type 0
StayPending before after = (begun : ℕ) → Pending begun before.drawn.releases before.releases → Pending begun after.drawn.releases after.releases

abbrev TellsReleases : World → List Said → World → Type 0
TellsReleases before said after = Told said before.drawn.releases after.drawn.releases × StayPending before after

abbrev ShowsReleases : World → List Event → World → Type 0
ShowsReleases before lines after =
    ((begun : ℕ) → LeadTo (counts before.drawn.releases begun) lines (counts after.drawn.releases begun)) × StayPending before after

unmoved : (w : World) → TellsReleases w [] w
unmoved w = (refl, λ begun h. h)

unmoved-then : (a b c : World) → TellsReleases a [] b → TellsReleases b [] c → TellsReleases a [] c
unmoved-then a b c p q = (p.0 ∙ q.0, λ begun h. q.1 begun (p.1 begun h))

edit_found-unmoved : (name : Who) (f : Task → Task) (w : World) (found : Option Task) → TellsReleases w [] (edit_task_found name f w found)
edit_found-unmoved name f w None = unmoved w
edit_found-unmoved (who.Task n) f w (Some t) = unmoved w
edit_found-unmoved who.Agent f w (Some t) = unmoved w

edit_task-unmoved : (name : Who) (f : Task → Task) (w : World) → TellsReleases w [] (edit_task name f w)
edit_task-unmoved name f w = edit_found-unmoved name f w (task_at w name)

other-on : (part : Part) (x : Line) (count : ℕ) (f : ℕ → Type 0) → is_told_apart x ≡ false → f count → told part (release_of x) count f
other-on part (said.Release number handler) count f e h = cc
other-on part _ count f e h = h

said-other : (part : Part) (x : Line) (count : ℕ) → is_told_apart x ≡ false → told part (release_of x) count (λ n. n ≡ count)
said-other part (said.Release number handler) count e = cc
said-other part _ count e = refl

others-told : (xs : List Said) (count : ℕ) → AreOthers xs → Told xs count count
others-told [] count a = refl
others-told (x ∷ xs) count a = other-on x.part x.line count (λ n. Told xs n count) a.0 (others-told xs count a.1)

tells_releases : Moves TellsReleases ShowsReleases
tells_releases = record {
  stays = λ w. unmoved w;
  goes_on = λ a b c {xs} {ys} p q. (Told-append xs ys a.drawn.releases b.drawn.releases c.drawn.releases p.0 q.0, λ n h. q.1 n (p.1 n h));
  says = λ part line w other. (said-other part line w.drawn.releases other, λ n h. h);
  rests = λ w. (λ n. (tt, refl), λ n h. h);
  leads_on = λ a b c {xs} {ys} p q. (
    λ n. LeadTo-append (counts a.drawn.releases n) (counts b.drawn.releases n) (counts c.drawn.releases n) xs ys (p.0 n) (q.0 n),
    λ n h. q.1 n (p.1 n h),
  );
  settles = λ p a b xs k. (λ n. told-lead p (in_order xs) a.drawn.releases n b.drawn.releases (Told-in_order xs a.drawn.releases b.drawn.releases k.0), k.1);
  silently = λ a b k. (λ n. (tt, ap (λ m. counts m n) k.0), k.1);
  edits_task = λ name f w k. edit_task-unmoved name f w;
  adds_task = λ t w k. unmoved w;
  forgets_task = λ name w. unmoved w;
  sets_quantum = λ level ticks w. unmoved w;
  ends_environment = λ leaving w. unmoved w;
  begins_scope = λ p name scope b w. unmoved w;
  draws_region = λ w. unmoved w;
  edits_cells = λ id f w. unmoved w;
  ends_scope = λ id w. unmoved w;
  edits_call = λ c f w k. unmoved w;
  adds_call = λ c w. unmoved w;
  forgets_call = λ c w. unmoved w;
  edits_object = λ o f w k a. unmoved w;
  adds_object = λ p l u w. unmoved w;
  enters = λ name o mode w h. unmoved w;
  exits = λ name o w. unmoved w;
  visits = λ name o mode xs w v h others k. (
    Told-append xs (own (said.Exit name o) ∷ []) w.drawn.releases w.drawn.releases v.drawn.releases (others-told xs w.drawn.releases others) k.0,
    k.1,
  );
  finds_held = λ name o mode w h. unmoved w;
  appoints = λ due moment w later. unmoved w;
  drops_appointment = λ test w. unmoved w;
  registers = λ r l w. unmoved w;
  unregisters = λ n w. unmoved w;
  draws_event = λ w. unmoved w;
  adds_timer = λ t w. unmoved w;
  clears_timer = λ k w. unmoved w;
  sets_timer = λ k handler value w. unmoved w;
  sets_timers_due = λ timers w. unmoved w;
  adds_budget = λ w. unmoved w;
  edits_budget = λ b f w. unmoved w;
  sets_budget_due = λ budget w. unmoved w;
  releases = λ handler argument w. (
    (refl, refl, refl),
    λ n h. Pending-behind n w.drawn.releases w.releases (record { number = suc w.drawn.releases; handler = handler; argument = argument }) refl h,
  );
  has_served = λ r w is. unmoved w;
  sets_port = λ n value w. unmoved w;
  masks = λ n flag w. unmoved w;
  keeps_interrupt = λ n flag w. unmoved w;
  cuts_script = λ x rest w is due. unmoved w;
}

-- ---- what lines and worlds have in common

record ShowsCounts (c : Counts) (w : World) : Type 0 where
  pub released : w.drawn.releases ≡ c.released
  pub pending : Pending c.begun w.drawn.releases w.releases

abbrev LeadsOn : Counts → List Event → World → Type 0
LeadsOn = Leads_on counts_after is_next_release ShowsCounts

shows-unmoved : (c : Counts) (w v : World) → ShowsCounts c w → TellsReleases w [] v → ShowsCounts c v
shows-unmoved c w v h u = record { released = sym u.0 ∙ h.released; pending = u.1 c.begun h.pending }

moves-lead_on : (c : Counts) (before : World) (lines : List Event) (after : World) → ShowsReleases before lines after → ShowsCounts c before
    → LeadsOn c lines after
moves-lead_on c before lines after m h =
    let same : counts before.drawn.releases c.begun ≡ c = ap (λ n. counts n c.begun) h.released in
    let lead : LeadTo c lines (counts after.drawn.releases c.begun) = subst (λ q. LeadTo q lines (counts after.drawn.releases c.begun)) same (m.0 c.begun) in
    record {
      follow = lead.0;
      shows = subst (λ q. ShowsCounts q after) (sym lead.1) (record { released = refl; pending = m.1 c.begun h.pending });
    }

openings-lead_on : (p : Image) (script : List (ℤ × Item)) → LeadsOn no_counts (opening p script).1 (opening p script).0
unfolding Leads
openings-lead_on p script =
    moves-lead_on no_counts (blank_world p script) (opening p script).1 (opening p script).0
    (effect-leads (all_of tells_releases).fine p (opens p) (opens-keeps (all_of tells_releases) p) (blank_world p script) tt)
    (record { released = refl; pending = refl })

instants-lead_on : (p : Image) (c : Counts) (w : World) → ShowsCounts c w → LeadsOn c (instant p w).1 (instant p w).0
unfolding Leads
instants-lead_on p c w h =
    moves-lead_on c w (instant p w).1 (instant p w).0
    (instant-leads (all_of tells_releases) p (record { puts = λ name s pieces text v x good is e. unmoved x }) w tt) h

-- ---- a tock takes up the first

run-lead_on : (same : Bool) (name : Who) (w v : World) (c : Counts) (lines : List Event) → LeadsOn c lines v
    → LeadsOn c ((cond same rests (say (line.Run name)) w).1 ++ lines) v
run-lead_on true name w v c lines h = h
run-lead_on false name w v c lines h = record { follow = (refl, h.follow); shows = h.shows }

idle-lead_on : (ran : Option Who) (w : World) (c : Counts) → ShowsCounts c w → LeadsOn c (says_idle ran w).1 (says_idle ran w).0
idle-lead_on None w c h = record { follow = tt; shows = h }
idle-lead_on (Some name) w c h = record { follow = (refl, tt); shows = h }

first-lead_on : (c : Counts) (w : World) (r : Release) (rest : List Release) → w.releases ≡ r ∷ rest → ShowsCounts c w
    → (is_next_release c (line.Serve r.number) ≡ true) × Pending (suc c.begun) w.drawn.releases rest
first-lead_on c w r rest e h =
    let first : Pending c.begun w.drawn.releases (r ∷ rest) = subst (Pending c.begun w.drawn.releases) e h.pending in
    let within : suc c.begun ≤ w.drawn.releases = Pending-within (suc c.begun) w.drawn.releases rest first.1 in (
      and_from (eqb r.number (suc c.begun)) (leb r.number c.released) (eq-eqb r.number (suc c.begun) first.0)
          (le-leb r.number c.released (omega (arith, first.0, h.released))),
      first.1,
    )

serve_if_free-lead_on : (serving : Option Release) (frames : List Frame) (releases : List Release) (w : World) (c : Counts) → w.releases ≡ releases
    → ShowsCounts c w →
    let done = serve_if_free serving frames releases w in
    LeadsOn c (done.1 ++ []) done.0
serve_if_free-lead_on None [] [] w c e h = record { follow = tt; shows = h }
serve_if_free-lead_on None [] (r ∷ rest) w c e h =
    let first = first-lead_on c w r rest e h in
    record { follow = (first.0, tt); shows = record { released = h.released; pending = first.1 } }
serve_if_free-lead_on None (f ∷ fs) releases w c e h = record { follow = tt; shows = h }
serve_if_free-lead_on (Some r) frames releases w c e h = record { follow = tt; shows = h }

serve-lead_on : (name : Who) (w : World) (c : Counts) → ShowsCounts c w → LeadsOn c ((serve name w).1 ++ []) (serve name w).0
serve-lead_on (who.Task t) w c h = record { follow = tt; shows = h }
serve-lead_on who.Agent w c h = serve_if_free-lead_on w.serving w.agent.frames w.releases w c refl h

-- who is chosen begins its action, and is charged for the tick
abbrev pub charged : Image → Who → World → World
charged p name w = spend_tick name (charge p name (begin_action p name w))

charged-unmoved : (p : Image) (name : Who) (w : World) → TellsReleases w [] (charged p name w)
unfolding Alters
charged-unmoved p name w =
    let begun = begin_action p name w in
    let paid = charge p name begun in
    unmoved-then w begun (charged p name w) (edit_task-unmoved name (with_ticks (Some (unwrap_or (task_of w name).ticks_left (cost p w name)))) w)
    (unmoved-then begun paid (charged p name w) (charge-alters (all_of tells_releases).fine (all_of tells_releases).settings p name begun tt)
    (edit_task-unmoved name (λ t. with_ticks (one_tick_less t.ticks_left) t) paid))

charged-lead_on : (p : Image) (name : Who) (c : Counts) (lines : List Event) (w : World) → LeadsOn c lines w → LeadsOn c lines (charged p name w)
charged-lead_on p name c lines w h = record {
  follow = h.follow;
  shows = shows-unmoved (counts_behind c lines) w (charged p name w) h.shows (charged-unmoved p name w);
}

says_run-world : (same : Bool) (name : Who) (w : World) → (cond same rests (say (line.Run name)) w).0 ≡ w
says_run-world true name w = refl
says_run-world false name w = refl

before_tick-lead_on : (p : Image) (chosen : Option Who) (w : World) (c : Counts) → ShowsCounts c w
    → LeadsOn c (before_tick p chosen w).1 (before_tick p chosen w).0
before_tick-lead_on p None w c h = idle-lead_on w.ran w c h
before_tick-lead_on p (Some name) w c h =
    let same = same_option same_who w.ran (Some name) in
    let first = says_run name w.ran w in
    let shown : ShowsCounts c first.0 = subst (λ v. ShowsCounts c v) (sym (says_run-world same name w)) h in
    let served = serve name first.0 in
    run-lead_on same name w (charged p name served.0) c (served.1 ++ [])
    (charged-lead_on p name c (served.1 ++ []) served.0 (serve-lead_on name first.0 c shown))

tocks-lead_on : (p : Image) (c : Counts) (w : World) → ShowsCounts c w → LeadsOn c (tock p w).1 (tock p w).0
tocks-lead_on p c w h =
    let before = before_tick-lead_on p (choose w) w c h in
    subst (λ (a : World × List Event). LeadsOn c a.1 a.0) (sym (tock-parts p w))
    (record { follow = before.follow; shows = record { released = before.shows.released; pending = before.shows.pending } })

-- ---- every run

releases_in_order : OfRuns counts_after is_next_release ShowsCounts no_counts
releases_in_order = record {
  openings = openings-lead_on;
  instants = instants-lead_on;
  tocks = tocks-lead_on;
  ends = λ p bound c w reason shown e. refl;
  bound = λ c. refl;
}

pub runs_release_in_order : (p : Image) (script : List (ℤ × Item)) (bound : ℕ) → ReleasesInOrder (run_of p script bound)
runs_release_in_order p script bound = run-at_each_line counts_after is_next_release releases_in_order p script bound
