-- An event or a timer that was asked for stays in the account until it comes.
use Rattle.std.proofs.Common.{◌≡◌, ℕ, ℤ, Bool, true, false, cond, not, ◌&&◌, ◌⊎◌, inl, inr, eqb, filter}
use Rattle.std.proofs.Common.{List, [], ◌∷◌, ◌++◌, map, Some, None, refl, sym, ap, subst, ◌∙◌, arith}
use Rattle.std.specs.Prelude.{int_lt, int_le, pos}
use Rattle.std.proofs.lemmas.Int.{ints}
use Rattle.std.proofs.lemmas.Bool.{and_from, false≢true, not-true}
use Rattle.profile_image.specs.declared.image.Image.{Image}
use Rattle.profile_machine.specs.declared.world.World.{World}
use Rattle.profile_image.specs.Words.{without}
use Rattle.profile_machine.specs.Releases.{NamedHandler, named_handler, released}
use Rattle.release_laws.specs.Asked.{Request, OfEvent, OfTimer, OfBudget, OfNothing, asked}
use Rattle.release_laws.specs.ReleaseLaws.{Passage, EventSet, TimerSet, Account, first_account, account_behind, AtEachInstant}
use Rattle.release_laws.specs.ReleaseLaws.{HistoryOk, StandIn, ReleasesAll, but_event, put_event, events_asked, has_come, but_timer}
use Rattle.release_laws.specs.ReleaseLaws.{timers_asked, is_reached, is_number_of, clock_of, owed_of_events, owed_of_timers}
use Rattle.release_laws.specs.MomentLaws.{IsAmong, leaves_event, BeforeMoment, EventsCome, leaves_timer, BelowValue, TimersCome}
use Rattle.release_laws.proofs.RunReleases.{runs_release}
use Rattle.release_laws.proofs.CauseLemmas.{events-stand, timers-stand}

-- ---- what is among the items of a list

pub among-front : {X : Type 0} (x : X) (xs ys : List X) → IsAmong x xs → IsAmong x (xs ++ ys)
among-front x [] ys h = absurd h
among-front x (y ∷ zs) ys (inl e) = inl e
among-front x (y ∷ zs) ys (inr h) = inr (among-front x zs ys h)

pub among-behind : {X : Type 0} (x : X) (xs ys : List X) → IsAmong x ys → IsAmong x (xs ++ ys)
among-behind x [] ys h = h
among-behind x (y ∷ zs) ys h = inr (among-behind x zs ys h)

pub among-map : {X Y : Type 0} (f : X → Y) (x : X) (xs : List X) → IsAmong x xs → IsAmong (f x) (map f xs)
among-map f x [] h = absurd h
among-map f x (y ∷ ys) (inl e) = inl (ap f e)
among-map f x (y ∷ ys) (inr h) = inr (among-map f x ys h)

kept-where : {X : Type 0} (x y : X) (ys : List X) (b : Bool) → (y ≡ x → b ≡ true) → ((y ≡ x) ⊎ IsAmong x ys) → IsAmong x (cond b (y ∷ ys) ys)
kept-where x y ys true f h = h
kept-where x y ys false f (inl e) = absurd (false≢true (f e))
kept-where x y ys false f (inr h) = h

pub among-filter : {X : Type 0} (test : X → Bool) (x : X) (xs : List X) → test x ≡ true → IsAmong x xs → IsAmong x (filter test xs)
among-filter test x [] e h = absurd h
among-filter test x (y ∷ ys) e (inl f) = kept-where x y (filter test ys) (test y) (λ g. ap test g ∙ e) (inl f)
among-filter test x (y ∷ ys) e (inr h) = kept-where x y (filter test ys) (test y) (λ g. ap test g ∙ e) (inr (among-filter test x ys e h))

pub among-without : {X : Type 0} (test : X → Bool) (x : X) (xs : List X) → test x ≡ false → IsAmong x xs → IsAmong x (without test xs)
among-without test x xs e h = among-filter (λ y. not (test y)) x xs (ap not e) h

pub among-one : (x : NamedHandler) (owed all : List NamedHandler) → StandIn owed all → IsAmong x owed → IsAmong x all
among-one x owed all s h =
    subst (IsAmong x) (sym s.parts) (among-front x (s.front ++ owed) s.back (among-behind x s.front owed h))

pub either-among : {X : Type 0} (x : X) (b : Bool) (xs ys : List X) → IsAmong x xs → IsAmong x ys → IsAmong x (cond b xs ys)
either-among x true xs ys h k = h
either-among x false xs ys h k = k

-- the law of what is behind the first instants
pub behind-front : (p : Image) (Is : Account → Passage → Type 0) (a : Account) (front rest : List Passage) → AtEachInstant p Is a (front ++ rest)
    → (b : Account) × AtEachInstant p Is b rest
behind-front p Is a [] rest h = (a, h)
behind-front p Is a (x ∷ xs) rest h = behind-front p Is (account_behind p a x) xs rest h.1

pub not_yet : (time : ℕ) (moment : ℤ) → int_lt (pos time) moment ≡ true → int_le moment (pos time) ≡ false
not_yet time moment h = grind (arith, ints)

-- ---- events

put-itself : (s : EventSet) (es : List EventSet) → IsAmong s (put_event s es)
put-itself s [] = inl refl
put-itself s (x ∷ xs) = either-among s (int_lt s.moment x.moment) (s ∷ x ∷ xs) (x ∷ put_event s xs) (inl refl) (inr (put-itself s xs))

put-others : (s x : EventSet) (es : List EventSet) → IsAmong x es → IsAmong x (put_event s es)
put-others s x [] h = absurd h
put-others s x (y ∷ ys) (inl e) = either-among x (int_lt s.moment y.moment) (s ∷ y ∷ ys) (y ∷ put_event s ys) (inr (inl e)) (inl e)
put-others s x (y ∷ ys) (inr h) = either-among x (int_lt s.moment y.moment) (s ∷ y ∷ ys) (y ∷ put_event s ys) (inr (inr h)) (inr (put-others s x ys h))

stays-asked : (time : ℕ) (r : Request) (s : EventSet) (es : List EventSet) → leaves_event s.event r ≡ true → IsAmong s es → IsAmong s (events_asked time r es)
stays-asked time (OfEvent k None m) s es e h = among-without (λ x. eqb k x.event) s es (not-true (eqb k s.event) e) h
stays-asked time (OfEvent k (Some g) m) s es e h =
    let kept = among-without (λ x. eqb k x.event) s es (not-true (eqb k s.event) e) h in
    let one : EventSet = record { event = k; handler = g; moment = m } in
    either-among s (int_lt (pos time) m) (put_event one (but_event k es)) (but_event k es) (put-others one s (but_event k es) kept) kept
stays-asked time (OfTimer k t g v) s es e h = h
stays-asked time (OfBudget k g) s es e h = h
stays-asked time OfNothing s es e h = h

module _ (p : Image) (s : EventSet) where
  set-asked : (x : Passage) (a : Account) → asked p x.before ≡ OfEvent s.event (Some s.handler) s.moment → int_lt (pos x.before.time) s.moment ≡ true
      → IsAmong s (account_behind p a x).events
  set-asked x a e later =
      among-without (has_come x.before.time) s (events_asked x.before.time (asked p x.before) a.events) (not_yet x.before.time s.moment later)
      (subst (λ r. IsAmong s (events_asked x.before.time r a.events)) (sym e)
      (subst (λ b. IsAmong s (cond b (put_event s (but_event s.event a.events)) (but_event s.event a.events))) (sym later)
      (put-itself s (but_event s.event a.events))))

  waits-asked : (between : List Passage) (y : Passage) (back : List Passage) (a : Account) → BeforeMoment p s.event s.moment between
      → leaves_event s.event (asked p y.before) ≡ true → int_le s.moment (pos y.before.time) ≡ true
      → IsAmong s a.events → HistoryOk p a (between ++ (y ∷ back)) → IsAmong (named_handler p s.handler) (released y.lines)
  waits-asked [] y back a waits stays comes h law =
      among-one (named_handler p s.handler) (owed_of_events p a y) (released y.lines) (events-stand p a y law.0)
      (among-map (λ x. named_handler p x.handler) s (filter (has_come y.before.time) (events_asked y.before.time (asked p y.before) a.events))
      (among-filter (has_come y.before.time) s (events_asked y.before.time (asked p y.before) a.events) comes
      (stays-asked y.before.time (asked p y.before) s a.events stays h)))
  waits-asked (z ∷ zs) y back a waits stays comes h law =
      waits-asked zs y back (account_behind p a z) waits.2 stays comes
      (among-without (has_come z.before.time) s (events_asked z.before.time (asked p z.before) a.events) (not_yet z.before.time s.moment waits.1)
      (stays-asked z.before.time (asked p z.before) s a.events waits.0 h)) law.1

pub events_come : EventsCome
events_come p script bound front between back x y n h moment e sets =
    let s : EventSet = record { event = n; handler = h; moment = moment } in
    let law =
    behind-front p (ReleasesAll p) (first_account script) front (x ∷ (between ++ (y ∷ back)))
    (subst (HistoryOk p (first_account script)) e (runs_release p script bound)) in
    waits-asked p s between y back (account_behind p law.0 x) sets.waits sets.stays sets.comes (set-asked p s x law.0 sets.sets sets.later) law.1.1

-- ---- timers

pub last-itself : {X : Type 0} (x : X) (xs : List X) → IsAmong x (xs ++ x ∷ [])
last-itself x xs = among-behind x xs (x ∷ []) (inl refl)

timer-stays : (w : World) (r : Request) (s : TimerSet) (ts : List TimerSet) → leaves_timer s.timer r ≡ true → IsAmong s ts → IsAmong s (timers_asked w r ts)
timer-stays w (OfTimer k t None v) s ts e h = among-without (λ x. eqb k x.timer) s ts (not-true (eqb k s.timer) e) h
timer-stays w (OfTimer k t (Some g) v) s ts e h =
    let kept = among-without (λ x. eqb k x.timer) s ts (not-true (eqb k s.timer) e) h in
    let one : TimerSet = record { timer = k; task = t; handler = g; value = v } in
    either-among s (is_number_of w.timers k && int_lt (pos (clock_of w t)) v) (but_timer k ts ++ one ∷ []) (but_timer k ts)
    (among-front s (but_timer k ts) (one ∷ []) kept) kept
timer-stays w (OfEvent k g m) s ts e h = h
timer-stays w (OfBudget k g) s ts e h = h
timer-stays w OfNothing s ts e h = h

module _ (p : Image) (s : TimerSet) where
  timer-asked : (x : Passage) (a : Account) → is_number_of x.before.timers s.timer ≡ true → asked p x.before ≡ OfTimer s.timer s.task (Some s.handler) s.value
      → int_lt (pos (clock_of x.before s.task)) s.value ≡ true → IsAmong s (account_behind p a x).timers
  timer-asked x a there e later =
      among-without (is_reached x.before) s (timers_asked x.before (asked p x.before) a.timers) (not_yet (clock_of x.before s.task) s.value later)
      (subst (λ r. IsAmong s (timers_asked x.before r a.timers)) (sym e)
      (subst (λ b. IsAmong s (cond b (but_timer s.timer a.timers ++ s ∷ []) (but_timer s.timer a.timers)))
      (sym (and_from (is_number_of x.before.timers s.timer) (int_lt (pos (clock_of x.before s.task)) s.value) there later))
      (last-itself s (but_timer s.timer a.timers))))

  timer-waits : (between : List Passage) (y : Passage) (back : List Passage) (a : Account) → BelowValue p s.timer s.task s.value between
      → leaves_timer s.timer (asked p y.before) ≡ true → int_le s.value (pos (clock_of y.before s.task)) ≡ true
      → IsAmong s a.timers → HistoryOk p a (between ++ (y ∷ back)) → IsAmong (named_handler p s.handler) (released y.lines)
  timer-waits [] y back a waits stays comes h law =
      among-one (named_handler p s.handler) (owed_of_timers p a y) (released y.lines) (timers-stand p a y law.0)
      (among-map (λ x. named_handler p x.handler) s (filter (is_reached y.before) (timers_asked y.before (asked p y.before) a.timers))
      (among-filter (is_reached y.before) s (timers_asked y.before (asked p y.before) a.timers) comes
      (timer-stays y.before (asked p y.before) s a.timers stays h)))
  timer-waits (z ∷ zs) y back a waits stays comes h law =
      timer-waits zs y back (account_behind p a z) waits.2 stays comes
      (among-without (is_reached z.before) s (timers_asked z.before (asked p z.before) a.timers) (not_yet (clock_of z.before s.task) s.value waits.1)
      (timer-stays z.before (asked p z.before) s a.timers waits.0 h)) law.1

pub timers_come : TimersCome
timers_come p script bound front between back x y n t h value e sets =
    let s : TimerSet = record { timer = n; task = t; handler = h; value = value } in
    let law =
    behind-front p (ReleasesAll p) (first_account script) front (x ∷ (between ++ (y ∷ back)))
    (subst (HistoryOk p (first_account script)) e (runs_release p script bound)) in
    timer-waits p s between y back (account_behind p law.0 x) sets.waits sets.stays sets.comes (timer-asked p s x law.0 sets.there sets.sets sets.later) law.1.1
