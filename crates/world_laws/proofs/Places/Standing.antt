-- Where an effect leaves somebody: at its active priority and with its deadline, where it is ready; and nowhere where it is not.
use Rattle.world_laws.proofs.Places.CorePoints.{Except, IsAt, Point, active_in, deadline_in, spot_for}
use Rattle.world_laws.proofs.Places.SoundWorlds.{IsAbsent}
use Rattle.world_laws.proofs.Places.Puts.{MayBePlaced, Spot, place_by, spot_in, with_put}
use Rattle.ceiling_laws.proofs.Fine.Cores.{Core, core}
use Rattle.profile_machine.specs.Dispatching.{active_of}
use Rattle.profile_machine.specs.Masters.{part_of, waits_at_terminate}
use Rattle.profile_machine.specs.Priorities.{placing_of}
use Rattle.profile_machine.specs.Steps.{is_part_before}
use Rattle.profile_machine.specs.Tasks.{is_made_state, is_runnable_state, nobody, task_of, waiting_in, waiting_of}
use Rattle.profile_image.specs.Program.{is_edf_level}
use Rattle.profile_image.specs.Words.{same_who}
use Rattle.profile_image.specs.declared.image.Image.{Image}
use Rattle.profile_machine.specs.declared.world.World.{World}
use Rattle.profile_machine.specs.declared.world.lines.Part.{Part}
use Rattle.profile_machine.specs.declared.world.lines.Part.TheVariants.{OfOther, Own, TheBlock, TheFinish, ThePlacing}
use Rattle.profile_machine.specs.declared.world.tasks.Placed.{Placed}
use Rattle.profile_machine.specs.declared.world.tasks.Task.{Task}
use Rattle.std.proofs.Common.{ap, cond, inl, inr, refl, subst, sym, ◌∙◌, ◌≡◌, ◌⊎◌}
use Rattle.std.specs.Bool.{then_some}
use Rattle.std.specs.List.{list_any}
use Rattle.std.specs.Prelude.{Bool, List, None, Option, Some, false, is_some, true, ℕ, ◌≤◌}
use Rattle.trace_text.specs.declared.events.Who.{Who}
use Rattle.ceiling_laws.proofs.Places.SoundWorlds.{is_agent, is_fresh}
use Rattle.ceiling_laws.proofs.Runs.Kept.Waking.{who-is}
use Rattle.ceiling_laws.proofs.Runs.LevelMoves.{Fitting, is_blocked}
use Rattle.ceiling_laws.proofs.Places.Standing.{self-before, part-self, apart-sym, awake_state}
use Rattle.line_laws.proofs.Handlers.AgentLines.{block_last}
use Rattle.line_laws.proofs.Leaving.TaskLemmas.{same_self}

abbrev pub Last : Type 0
Last = Option (Part × Option Spot)

-- ---- one line more

pub at-out : (p : Image) (place : Option Spot) (c : Core) → place ≡ None → IsAt p place c
at-out p place c out = subst (λ q. IsAt p q c) (sym out) tt

-- it stands there on where its level and its deadline are what they were
at-moved : (p : Image) (s : Spot) (c e : Core) → active_in p e ≡ active_in p c → deadline_in p e ≡ deadline_in p c
    → (s.0 ≡ active_in p c) × (s.1 ≡ deadline_in p c) → (s.0 ≡ active_in p e) × (s.1 ≡ deadline_in p e)
at-moved p s c e level deadline h = (h.0 ∙ sym level, h.1 ∙ sym deadline)

pub at-still : (p : Image) (place : Option Spot) (c e : Core) → active_in p e ≡ active_in p c → deadline_in p e ≡ deadline_in p c → IsAt p place c
    → IsAt p place e
at-still p None c e level deadline h = tt
at-still p (Some s) c e level deadline h = at-moved p s c e level deadline h

-- of a level and a deadline that are the same
pub deadline-kept : (p : Image) (c e : Core) → active_in p e ≡ active_in p c → e.deadline ≡ c.deadline → deadline_in p e ≡ deadline_in p c
deadline-kept p c e level deadline = ap (λ a. then_some (is_edf_level p a) e.deadline) level ∙ ap (then_some (is_edf_level p (active_in p c))) deadline

-- a line of this part is not hidden
abbrev pub FreeFor : Part → Last → Type 0
FreeFor part None = Unit {0}
FreeFor part (Some last) = is_part_before part last.0 ≡ false

pub free-may : (part : Part) (last : Last) → FreeFor part last → MayBePlaced part last
free-may part None free = tt
free-may part (Some last) free = inr free

pub none-free : (part : Part) (last : Last) → last ≡ None → FreeFor part last
none-free part last is = subst (FreeFor part) (sym is) tt

free_if : (b : Bool) (limit part : Part) (last : Part × Option Spot) (place : Option Spot) → is_part_before limit part ≡ false
    → is_part_before limit last.0 ≡ false → FreeFor limit (cond b (Some last) (Some (part, place)))
free_if true limit part last place fits free = free
free_if false limit part last place fits free = fits

pub put-free : (limit part : Part) (last : Last) (place : Option Spot) → is_part_before limit part ≡ false → FreeFor limit last
    → FreeFor limit (with_put last part (Some place))
put-free limit part None place fits free = fits
put-free limit part (Some last) place fits free = free_if (is_part_before part last.0) limit part last place fits free

shown_if : (b : Bool) (part : Part) (last : Part × Option Spot) (spot : Spot) (shown : Option Spot) → b ≡ false
    → is_some (place_by (cond b (Some last) (Some (part, Some spot))) shown) ≡ true
shown_if true part last spot shown e = absurd cc
shown_if false part last spot shown e = refl

pub put-shown : (part : Part) (last : Last) (spot : Spot) (shown : Option Spot) → FreeFor part last
    → is_some (place_by (with_put last part (Some (Some spot))) shown) ≡ true
put-shown part None spot shown free = refl
put-shown part (Some last) spot shown free = shown_if (is_part_before part last.0) part last spot shown free

shown_free : (part : Part) (last : Part × Option Spot) → (last.1 ≡ None) ⊎ (is_part_before part last.0 ≡ false) → is_some last.1 ≡ true
    → is_part_before part last.0 ≡ false
shown_free part last (inl out) shown = absurd (let clash : false ≡ true = sym (ap is_some out) ∙ shown in cc)
shown_free part last (inr free) shown = free

-- who is shown may be placed again
pub shown-free : (part : Part) (last : Last) (before : Option Spot) → MayBePlaced part last → is_some (place_by last before) ≡ true → FreeFor part last
shown-free part None before late shown = tt
shown-free part (Some last) before late shown = shown_free part last late shown

late_if : (b : Bool) (limit part : Part) (last : Part × Option Spot) (place : Option Spot) → is_part_before limit part ≡ false → MayBePlaced limit (Some last)
    → MayBePlaced limit (cond b (Some last) (Some (part, place)))
late_if true limit part last place fits late = late
late_if false limit part last place fits late = inr fits

at_if : (p : Image) (b : Bool) (part : Part) (last : Part × Option Spot) (c : Core) (shown : Option Spot) → (last.1 ≡ None) ⊎ (b ≡ false)
    → IsAt p (place_by (cond b (Some last) (Some (part, Some (spot_for p c)))) shown) c
at_if p true part last c shown (inl out) = at-out p last.1 c out
at_if p true part last c shown (inr e) = absurd cc
at_if p false part last c shown late = (refl, refl)

out_if : (b : Bool) (part : Part) (last : Part × Option Spot) (shown : Option Spot) → (last.1 ≡ None) ⊎ (b ≡ false)
    → place_by (cond b (Some last) (Some (part, None))) shown ≡ None
out_if true part last shown (inl out) = out
out_if true part last shown (inr e) = absurd cc
out_if false part last shown late = refl

pub put-late : (limit part : Part) (last : Last) (place : Option Spot) → is_part_before limit part ≡ false → MayBePlaced limit last
    → MayBePlaced limit (with_put last part (Some place))
put-late limit part None place fits late = inr fits
put-late limit part (Some last) place fits late = late_if (is_part_before part last.0) limit part last place fits late

pub put-at : (p : Image) (part : Part) (last : Last) (c : Core) (shown : Option Spot) → MayBePlaced part last
    → IsAt p (place_by (with_put last part (Some (Some (spot_for p c)))) shown) c
put-at p part None c shown late = (refl, refl)
put-at p part (Some last) c shown late = at_if p (is_part_before part last.0) part last c shown late

pub put-out : (part : Part) (last : Last) (shown : Option Spot) → MayBePlaced part last → place_by (with_put last part (Some None)) shown ≡ None
put-out part None shown late = refl
put-out part (Some last) shown late = out_if (is_part_before part last.0) part last shown late

-- behind a block nothing is said
pub block-put : (last : Last) → with_put last TheBlock (Some None) ≡ Some (TheBlock, None)
block-put None = refl
block-put (Some last) = ap (λ b. cond b (Some last) (Some (TheBlock, None))) (block_last last.0)

-- ---- parts

-- ---- states of a task

-- a task of this name is among these
abbrev pub is_among : Who → List Task → Bool
is_among n = list_any (λ t. same_who n t.who)

abbrev pub runs_in : Core → Bool
runs_in c = is_runnable_state c.state

abbrev pub sleeps_in : Core → Bool
sleeps_in c = is_blocked c.state

pub nobody-runs : {P : Type 0} → runs_in (core nobody) ≡ true → P
nobody-runs e = absurd cc

pub nobody-sleeps : {P : Type 0} → sleeps_in (core nobody) ≡ true → P
nobody-sleeps e = absurd cc

pub awake : {P : Type 0} (c : Core) → runs_in c ≡ true → sleeps_in c ≡ true → P
awake c runs sleeps = awake_state c.state runs sleeps

module _ (p : Image) (s : List Placed) (a : Who) where
  -- behind which no line places somebody
  abbrev pub limit : Who → Part
  limit name = placing_of a name

  abbrev pub Fits : Fitting
  Fits part name = is_part_before (limit name) part ≡ false

  abbrev pub place : Who → Last → Option Spot
  place n l = place_by l (spot_in n s)

  abbrev pub Hidden : Who → Last → Type 0
  Hidden n l = place n l ≡ None

  abbrev pub IsShownRightly : Who → Core → Last → Type 0
  IsShownRightly n c l = (runs_in c ≡ true) ⊎ (Hidden n l ⊎ IsAbsent n c)

  -- it stands somewhere
  abbrev pub IsShown : Who → Last → Type 0
  IsShown n l = is_some (place n l) ≡ true

  -- no line has hidden what is said of another, and nothing was said of another who sleeps
  abbrev pub IsCalm : Who → Core → Last → Type 0
  IsCalm n c l = same_who n a ≡ false → FreeFor (limit n) l × (sleeps_in c ≡ true → l ≡ None)

  -- whoever runs stands somewhere
  pub record Good (d : ℕ) (n : Who) (c : Core) (l : Last) : Type 0 where
    pub late : MayBePlaced (limit n) l
    pub at : IsAt p (place n l) c
    pub shown : IsShownRightly n c l
    pub fresh : is_fresh d n ≡ true → Hidden n l
    pub ready : runs_in c ≡ true → IsShown n l
    pub calm : IsCalm n c l

  -- who acts runs
  abbrev pub Acting : ℕ → Who → Core → Last → Type 0
  Acting d n c l = (is_fresh d n ≡ false) × (runs_in c ≡ true)

  -- ---- the modes of an effect

  abbrev pub Later : Point
  Later d n c l = Good d n c l × (same_who n a ≡ true → Acting d n c l)

  abbrev pub First : Point
  First d n c l = Good d n c l × (same_who n a ≡ true → (is_fresh d n ≡ false) × (runs_in c ≡ true) × (l ≡ None))

  -- who acts does not wait at an open terminate alternative
  abbrev pub Resting : Point
  Resting d n c l = Good d n c l × (same_who n a ≡ true → waits_at_terminate (waiting_in c.state) ≡ false)

  -- or it waits there and has not said so
  pub record Choosing (d : ℕ) (n : Who) (c : Core) (l : Last) : Type 0 where
    pub late : MayBePlaced (limit n) l
    pub at : IsAt p (place n l) c
    pub shown : IsShownRightly n c l ⊎ ((same_who n a ≡ true) × (waits_at_terminate (waiting_in c.state) ≡ true))
    pub fresh : is_fresh d n ≡ true → Hidden n l
    pub ready : runs_in c ≡ true → IsShown n l
    pub calm : IsCalm n c l
    pub waits : same_who n a ≡ true → waits_at_terminate (waiting_in c.state) ≡ true → IsShown n l

  abbrev pub ChoosingSince : World → Point
  ChoosingSince v d n c l = Choosing d n c l × (d ≡ v.drawn.tasks) × (same_who n a ≡ true → waits_at_terminate (waiting_of v a) ≡ true → IsShown n l)

  -- who acts, where its active priority may have fallen since a world, and nothing else has changed
  pub record Owes (before : World) (d : ℕ) (n : Who) (c : Core) (l : Last) : Type 0 where
    pub late : MayBePlaced (limit n) l
    pub at : IsAt p (place n l) (core (task_of before a))
    pub fallen : (active_in p c ≤ active_of p before a) × (c.deadline ≡ (task_of before a).deadline)
    pub acting : Acting d n c l
    pub ready : IsShown n l

  abbrev pub Owing : World → Point
  Owing before = Except Good a (Owes before)

  -- nobody has blocked since a world, and the tasks of a list have only been made
  abbrev pub Since : World → List Task → Point
  Since v rest d n c l =
      Later d n c l × (d ≡ v.drawn.tasks) × (sleeps_in c ≡ true → is_blocked (task_of v n).state ≡ true)
      × (is_among n rest ≡ true → is_made_state c.state ≡ true)

  -- a task that was made, seen from that world
  pub record IsUnmade (v : World) (name : Who) : Type 0 where
    pub other : same_who name a ≡ false
    pub unblocked : is_blocked (task_of v name).state ≡ false
    pub made : is_made_state (task_of v name).state ≡ true
    pub drawn : is_fresh v.drawn.tasks name ≡ false
    pub task : is_agent name ≡ false

  abbrev pub Ending : World → List Task → Who → Point
  Ending v rest name d n c l = Since v rest d n c l × (same_who n name ≡ true → Hidden n l) × IsUnmade v name

  -- who acts has ended
  pub record Dead (d : ℕ) (n : Who) (c : Core) (l : Last) : Type 0 where
    pub late : MayBePlaced (limit n) l
    pub runs : runs_in c ≡ true
    pub fresh : is_fresh d n ≡ false
    pub task : is_agent n ≡ false → Hidden n l
    pub agent : is_agent n ≡ true → IsAt p (place n l) c × IsShown n l

  abbrev pub Dying : Point
  Dying = Except Good a Dead

  -- it is there no more, or is the agent and runs
  abbrev pub Gone : Point
  Gone d n c l = Good d n c l × (same_who n a ≡ true → sleeps_in c ≡ false)

  -- somebody's base priority may have been set
  pub record Bare (d : ℕ) (n : Who) (c : Core) (l : Last) : Type 0 where
    pub late : MayBePlaced (limit n) l
    pub shown : IsShownRightly n c l
    pub fresh : is_fresh d n ≡ true → Hidden n l
    pub absent : IsAbsent n c → IsAt p (place n l) c
    pub acting : same_who n a ≡ true → Acting d n c l
    pub ready : runs_in c ≡ true → IsShown n l
    pub calm : IsCalm n c l

  abbrev pub Loose : Who → Point
  Loose name = Except Later name Bare

  -- its deadline may have been set, and only that
  abbrev pub AtLevel : Option Spot → Core → Type 0
  AtLevel None c = Unit {0}
  AtLevel (Some x) c = (x.0 ≡ active_in p c) × (is_edf_level p (active_in p c) ≡ false → x.1 ≡ None)

  abbrev pub Dated : Point
  Dated d n c l = Bare d n c l × AtLevel (place n l) c

  abbrev pub Undated : Who → Point
  Undated name = Except Later name Dated

  -- ---- parts in which lines place

  pub limit-own : limit a ≡ ThePlacing
  limit-own = ap (λ b. cond b ThePlacing (part_of a a)) (same_self a)

  pub limit-other : (n : Who) → same_who n a ≡ false → limit n ≡ OfOther n
  limit-other n apart =
      ap (λ b. cond b ThePlacing (part_of a n)) (apart-sym n a apart) ∙ ap (λ b. cond b Own (OfOther n)) (apart-sym n a apart)

  pub limit-actor : (n : Who) → same_who n a ≡ true → limit n ≡ ThePlacing
  limit-actor n same = ap limit (who-is n a same) ∙ limit-own

  pub fits_limit : (n : Who) → Fits (limit n) n
  fits_limit n = part-self (limit n)

  pub own_if : (b e : Bool) (n : Who) → is_part_before (cond b ThePlacing (cond e Own (OfOther n))) Own ≡ false
  own_if true e n = refl
  own_if false true n = refl
  own_if false false n = refl

  pub fits_own : (n : Who) → Fits Own n
  fits_own n = own_if (same_who a n) (same_who a n) n

  pub other_if : (b : Bool) (n : Who) → is_part_before (cond b ThePlacing (cond b Own (OfOther n))) (OfOther n) ≡ false
  other_if true n = refl
  other_if false n = self-before n

  pub fits_other : (n : Who) → Fits (OfOther n) n
  fits_other n = other_if (same_who a n) n

  pub finish_if : (b e : Bool) (n : Who) → is_part_before (cond b ThePlacing (cond e Own (OfOther n))) TheFinish ≡ false
  finish_if true e n = refl
  finish_if false true n = refl
  finish_if false false n = refl

  pub fits_finish : (n : Who) → Fits TheFinish n
  fits_finish n = finish_if (same_who a n) (same_who a n) n

  -- ---- somebody is placed

  pub runs_or_absent : {A B C : Type 0} → A ⊎ C → A ⊎ (B ⊎ C)
  runs_or_absent (inl h) = inl h
  runs_or_absent (inr h) = inr (inr h)

  pub begun_awake : {P : Type 0} (name : Who) (c : Core) → (runs_in c ≡ true) ⊎ IsAbsent name c → sleeps_in c ≡ true → P
  begun_awake name c (inl runs) sleeps = awake c runs sleeps
  begun_awake name c (inr absent) sleeps = nobody-sleeps (subst (λ e. sleeps_in e ≡ true) absent.1 sleeps)

  pub placed-good : (d : ℕ) (n : Who) (c : Core) (l : Last) (part : Part) → Fits part n → is_fresh d n ≡ false → MayBePlaced (limit n) l → FreeFor part l
      → (runs_in c ≡ true) ⊎ IsAbsent n c → (same_who n a ≡ false → FreeFor (limit n) l) → Good d n c (with_put l part (Some (Some (spot_for p c))))
  placed-good d n c l part fits drawn late free runs others = record {
    late = put-late (limit n) part l (Some (spot_for p c)) fits late;
    at = put-at p part l c (spot_in n s) (free-may part l free);
    shown = runs_or_absent runs;
    fresh = λ e. absurd (let clash : false ≡ true = sym drawn ∙ e in cc);
    ready = λ e. put-shown part l (spot_for p c) (spot_in n s) free;
    calm = λ apart. (put-free (limit n) part l (Some (spot_for p c)) fits (others apart), λ sleeps. begun_awake n c runs sleeps);
  }

  -- who sleeps is shown nowhere
  pub asleep-hidden : (n : Who) (c : Core) (l : Last) → IsShownRightly n c l → sleeps_in c ≡ true → Hidden n l
  asleep-hidden n c l (inl runs) sleeps = awake c runs sleeps
  asleep-hidden n c l (inr (inl hidden)) sleeps = hidden
  asleep-hidden n c l (inr (inr absent)) sleeps = nobody-sleeps (subst (λ e. sleeps_in e ≡ true) absent.1 sleeps)

  -- another who sleeps may be woken in each part that fits
  pub woken-good : (d : ℕ) (n : Who) (c e : Core) (l : Last) (part : Part) → Fits part n → same_who n a ≡ false → is_fresh d n ≡ false → sleeps_in c ≡ true
      → runs_in e ≡ true → Good d n c l → Good d n e (with_put l part (Some (Some (spot_for p e))))
  woken-good d n c e l part fits apart drawn sleeps runs h =
      let silent : l ≡ None = (h.calm apart).1 sleeps in
      placed-good d n e l part fits drawn h.late (none-free part l silent) (inl runs) (λ other. none-free (limit n) l silent)

  -- who acts has blocked
  pub blocked-good : (d : ℕ) (n : Who) (c : Core) (l : Last) → same_who n a ≡ true → sleeps_in c ≡ true → l ≡ Some (TheBlock, None) → Good d n c l
  blocked-good d n c l same sleeps is =
      subst (Good d n c) (sym is)
      (record {
        late = inl refl;
        at = tt;
        shown = inr (inl refl);
        fresh = λ e. refl;
        ready = λ runs. awake c runs sleeps;
        calm = λ apart. absurd (let clash : true ≡ false = sym same ∙ apart in cc);
      })

  -- who acts is placed
  pub acting-placed : (d : ℕ) (n : Who) (c : Core) (l : Last) (part : Part) → same_who n a ≡ true → part ≡ ThePlacing → MayBePlaced (limit n) l → IsShown n l
      → Acting d n c l → Later d n c (with_put l part (Some (Some (spot_for p c))))
  acting-placed d n c l part same is late shown acting =
      let fits : Fits part n = subst (λ q. is_part_before q part ≡ false) (sym (limit-actor n same)) (ap (is_part_before ThePlacing) is) in
      let free : FreeFor part l = subst (λ q. FreeFor q l) (limit-actor n same ∙ sym is) (shown-free (limit n) l (spot_in n s) late shown) in
      (placed-good d n c l part fits acting.0 late free (inl acting.1) (λ apart. absurd (let clash : true ≡ false = sym same ∙ apart in cc)), λ e. acting)
