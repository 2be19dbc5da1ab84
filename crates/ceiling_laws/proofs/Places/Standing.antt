-- Where an effect leaves somebody: at or below its active priority, and nowhere where it is not ready.
use Rattle.ceiling_laws.proofs.Places.CorePoints.{Except, Point, active_in}
use Rattle.ceiling_laws.proofs.Places.SoundWorlds.{IsAbsent, is_agent, is_fresh}
use Rattle.ceiling_laws.specs.Acting.{MayBePlaced}
use Rattle.ceiling_laws.specs.PlaceLaws.{IsAtMost, level_shown}
use Rattle.ceiling_laws.specs.Puts.{place_by, with_put}
use Rattle.ceiling_laws.proofs.Runs.Kept.Waking.{who-is}
use Rattle.ceiling_laws.proofs.Runs.LevelMoves.{Fitting, is_blocked}
use Rattle.ceiling_laws.proofs.Places.PartOrder.{by_test}
use Rattle.ceiling_laws.specs.Cores.{Core, core}
use Rattle.profile_machine.specs.Dispatching.{active_of}
use Rattle.profile_machine.specs.Masters.{part_of, waits_at_terminate}
use Rattle.profile_machine.specs.Priorities.{placing_of}
use Rattle.profile_machine.specs.Steps.{is_numbered_before, is_part_before}
use Rattle.profile_machine.specs.Tasks.{is_runnable_state, nobody, task_of, waiting_in}
use Rattle.profile_image.specs.Words.{same_who}
use Rattle.profile_image.specs.declared.image.Image.{Image}
use Rattle.profile_machine.specs.declared.world.World.{World}
use Rattle.profile_machine.specs.declared.world.lines.Part.{Part}
use Rattle.profile_machine.specs.declared.world.lines.Part.TheVariants.{OfOther, Own, TheBlock, TheCall, TheFinish, ThePlacing}
use Rattle.profile_machine.specs.declared.world.tasks.State as tasks
use Rattle.profile_machine.specs.declared.world.tasks.State.TheVariants.{Blocked, Made, Runnable}
use Rattle.std.proofs.Common.{ap, arith, cond, inl, inr, le_refl, ltb, refl, subst, sym, ◌∙◌, ◌≡◌, ◌⊎◌}
use Rattle.std.specs.Prelude.{Bool, None, Option, Some, false, true, ℕ}
use Rattle.trace_text.specs.Laws.{Levels}
use Rattle.trace_text.specs.declared.events.Who.{Who}
use Rattle.trace_text.specs.declared.events.Who.TheVariants as who
use Rattle.line_laws.proofs.Handlers.AgentLines.{block_last}
use Rattle.line_laws.proofs.Leaving.TaskLemmas.{same_self}

abbrev pub Last : Type 0
Last = Option (Part × Option ℕ)

-- ---- one line more

pub at_most-out : (place : Option ℕ) (level : ℕ) → place ≡ None → IsAtMost place level
at_most-out place level out = subst (λ q. IsAtMost q level) (sym out) tt

late_if : (b : Bool) (limit part : Part) (last : Part × Option ℕ) (place : Option ℕ) → is_part_before limit part ≡ false → MayBePlaced limit (Some last)
    → MayBePlaced limit (cond b (Some last) (Some (part, place)))
late_if true limit part last place fits late = late
late_if false limit part last place fits late = inr fits

low_if : (b : Bool) (part : Part) (last : Part × Option ℕ) (level : ℕ) (shown : Option ℕ) → (last.1 ≡ None) ⊎ (b ≡ false)
    → IsAtMost (place_by (cond b (Some last) (Some (part, Some level))) shown) level
low_if true part last level shown (inl out) = at_most-out last.1 level out
low_if true part last level shown (inr e) = absurd cc
low_if false part last level shown late = le_refl level

out_if : (b : Bool) (part : Part) (last : Part × Option ℕ) (shown : Option ℕ) → (last.1 ≡ None) ⊎ (b ≡ false)
    → place_by (cond b (Some last) (Some (part, None))) shown ≡ None
out_if true part last shown (inl out) = out
out_if true part last shown (inr e) = absurd cc
out_if false part last shown late = refl

pub put-late : (limit part : Part) (last : Last) (place : Option ℕ) → is_part_before limit part ≡ false → MayBePlaced limit last
    → MayBePlaced limit (with_put last part (Some place))
put-late limit part None place fits late = inr fits
put-late limit part (Some last) place fits late = late_if (is_part_before part last.0) limit part last place fits late

pub put-low : (part : Part) (last : Last) (level : ℕ) (shown : Option ℕ) → MayBePlaced part last
    → IsAtMost (place_by (with_put last part (Some (Some level))) shown) level
put-low part None level shown late = le_refl level
put-low part (Some last) level shown late = low_if (is_part_before part last.0) part last level shown late

pub put-out : (part : Part) (last : Last) (shown : Option ℕ) → MayBePlaced part last → place_by (with_put last part (Some None)) shown ≡ None
put-out part None shown late = refl
put-out part (Some last) shown late = out_if (is_part_before part last.0) part last shown late

-- who stands nowhere may be placed
pub out-late : (part : Part) (last : Last) (shown : Option ℕ) → place_by last shown ≡ None → MayBePlaced part last
out-late part None shown out = tt
out-late part (Some last) shown out = inl out

-- behind a block nothing is said
pub block-put : (last : Last) → with_put last TheBlock (Some None) ≡ Some (TheBlock, None)
block-put None = refl
block-put (Some last) = ap (λ b. cond b (Some last) (Some (TheBlock, None))) (block_last last.0)

pub blocked-put : (last : Last) (part : Part) (place : Option ℕ) → last ≡ Some (TheBlock, None) → is_part_before part TheBlock ≡ true
    → with_put last part (Some place) ≡ last
blocked-put last part place is before =
    subst (λ l. with_put l part (Some place) ≡ l) (sym is) (ap (λ b. cond b (Some (TheBlock, None)) (Some (part, place))) before)

pub early-part : (part : Part) → is_part_before ThePlacing part ≡ false → is_part_before part TheBlock ≡ true
early-part TheCall e = refl
early-part TheFinish e = refl
early-part Own e = refl
early-part (OfOther name) e = refl
early-part ThePlacing e = refl
early-part TheBlock e = absurd cc

-- ---- parts

pub less_self : (n : ℕ) → ltb n n ≡ false
less_self n = grind arith

pub self-before : (name : Who) → is_numbered_before name name ≡ false
self-before (who.Task t) = less_self t.0
self-before who.Agent = refl

pub part-self : (part : Part) → is_part_before part part ≡ false
part-self TheCall = refl
part-self TheFinish = refl
part-self Own = refl
part-self (OfOther name) = self-before name
part-self ThePlacing = refl
part-self TheBlock = refl

pub apart-sym : (x y : Who) → same_who x y ≡ false → same_who y x ≡ false
apart-sym x y apart =
    by_test (same_who y x) (λ same. absurd (let clash : false ≡ true = sym apart ∙ ap (same_who x) (who-is y x same) ∙ same_self x in cc)) (λ e. e)

-- ---- states of a task

abbrev pub runs_in : Core → Bool
runs_in c = is_runnable_state c.state

abbrev pub sleeps_in : Core → Bool
sleeps_in c = is_blocked c.state

pub nobody-runs : {P : Type 0} → runs_in (core nobody) ≡ true → P
nobody-runs e = absurd cc

pub nobody-sleeps : {P : Type 0} → sleeps_in (core nobody) ≡ true → P
nobody-sleeps e = absurd cc

pub awake_state : {P : Type 0} (state : tasks.State) → is_runnable_state state ≡ true → is_blocked state ≡ true → P
awake_state Made runs sleeps = absurd cc
awake_state Runnable runs sleeps = absurd cc
awake_state (Blocked waiting) runs sleeps = absurd cc

pub awake : {P : Type 0} (c : Core) → runs_in c ≡ true → sleeps_in c ≡ true → P
awake c runs sleeps = awake_state c.state runs sleeps

module _ (p : Image) (s : Levels) (a : Who) where
  -- behind which no line places somebody
  abbrev pub limit : Who → Part
  limit name = placing_of a name

  abbrev pub Fits : Fitting
  Fits part name = is_part_before (limit name) part ≡ false

  abbrev pub place : Who → Last → Option ℕ
  place n l = place_by l (level_shown n s)

  abbrev pub Hidden : Who → Last → Type 0
  Hidden n l = place n l ≡ None

  abbrev pub IsShownRightly : Who → Core → Last → Type 0
  IsShownRightly n c l = (runs_in c ≡ true) ⊎ (Hidden n l ⊎ IsAbsent n c)

  pub record Good (d : ℕ) (n : Who) (c : Core) (l : Last) : Type 0 where
    pub late : MayBePlaced (limit n) l
    pub low : IsAtMost (place n l) (active_in p c)
    pub shown : IsShownRightly n c l
    pub fresh : is_fresh d n ≡ true → Hidden n l

  -- who acts runs, or it has blocked and nothing is shown of it any more
  abbrev pub Acting : ℕ → Who → Core → Last → Type 0
  Acting d n c l = (is_fresh d n ≡ false) × ((runs_in c ≡ true) ⊎ ((sleeps_in c ≡ true) × (l ≡ Some (TheBlock, None))))

  -- ---- the modes of an effect

  abbrev pub Later : Point
  Later d n c l = Good d n c l × (same_who n a ≡ true → Acting d n c l)

  abbrev pub First : Point
  First d n c l = Good d n c l × (same_who n a ≡ true → (is_fresh d n ≡ false) × (runs_in c ≡ true) × (l ≡ None))

  pub record Choosing (d : ℕ) (n : Who) (c : Core) (l : Last) : Type 0 where
    pub late : MayBePlaced (limit n) l
    pub low : IsAtMost (place n l) (active_in p c)
    pub shown : IsShownRightly n c l ⊎ ((same_who n a ≡ true) × (waits_at_terminate (waiting_in c.state) ≡ true))
    pub fresh : is_fresh d n ≡ true → Hidden n l

  abbrev pub Sized : ℕ → Point → Point
  Sized drawn P d n c l = P d n c l × (d ≡ drawn)

  -- who acts, where its active priority may have fallen since a world
  pub record Owes (before : World) (d : ℕ) (n : Who) (c : Core) (l : Last) : Type 0 where
    pub late : MayBePlaced (limit n) l
    pub low : IsAtMost (place n l) (active_of p before a)
    pub acting : Acting d n c l

  abbrev pub Owing : World → Point
  Owing before = Except Good a (Owes before)

  -- nobody has blocked since a world
  abbrev pub Since : World → Point
  Since v d n c l = Later d n c l × (d ≡ v.drawn.tasks) × (sleeps_in c ≡ true → is_blocked (task_of v n).state ≡ true)

  -- a task that was made, seen from that world
  pub record IsUnmade (v : World) (name : Who) : Type 0 where
    pub other : same_who name a ≡ false
    pub unblocked : is_blocked (task_of v name).state ≡ false
    pub drawn : is_fresh v.drawn.tasks name ≡ false
    pub task : is_agent name ≡ false

  abbrev pub Ending : World → Who → Point
  Ending v name d n c l = Since v d n c l × (same_who n name ≡ true → Hidden n l) × IsUnmade v name

  -- who acts has ended
  pub record Dead (d : ℕ) (n : Who) (c : Core) (l : Last) : Type 0 where
    pub late : MayBePlaced (limit n) l
    pub runs : runs_in c ≡ true
    pub fresh : is_fresh d n ≡ false
    pub gone : Hidden n l ⊎ ((is_agent n ≡ true) × IsAtMost (place n l) (active_in p c))

  abbrev pub Dying : Point
  Dying = Except Good a Dead

  -- somebody's base priority may have been set
  pub record Bare (d : ℕ) (n : Who) (c : Core) (l : Last) : Type 0 where
    pub late : MayBePlaced (limit n) l
    pub shown : IsShownRightly n c l
    pub fresh : is_fresh d n ≡ true → Hidden n l
    pub absent : IsAbsent n c → IsAtMost (place n l) (active_in p c)
    pub acting : same_who n a ≡ true → Acting d n c l

  abbrev pub Loose : Who → Point
  Loose name = Except Later name Bare

  -- ---- parts in which lines place

  pub limit-own : limit a ≡ ThePlacing
  limit-own = ap (λ b. cond b ThePlacing (part_of a a)) (same_self a)

  pub limit-other : (n : Who) → same_who n a ≡ false → limit n ≡ OfOther n
  limit-other n apart =
      ap (λ b. cond b ThePlacing (part_of a n)) (apart-sym n a apart) ∙ ap (λ b. cond b Own (OfOther n)) (apart-sym n a apart)

  pub limit-actor : (n : Who) → same_who n a ≡ true → limit n ≡ ThePlacing
  limit-actor n same = ap limit (who-is n a same) ∙ limit-own

  pub fits_limit : (n : Who) → Fits (limit n) n
  fits_limit n = part-self (limit n)

  pub own_if : (b e : Bool) (n : Who) → is_part_before (cond b ThePlacing (cond e Own (OfOther n))) Own ≡ false
  own_if true e n = refl
  own_if false true n = refl
  own_if false false n = refl

  pub fits_own : (n : Who) → Fits Own n
  fits_own n = own_if (same_who a n) (same_who a n) n

  pub other_if : (b : Bool) (n : Who) → is_part_before (cond b ThePlacing (cond b Own (OfOther n))) (OfOther n) ≡ false
  other_if true n = refl
  other_if false n = self-before n

  pub fits_other : (n : Who) → Fits (OfOther n) n
  fits_other n = other_if (same_who a n) n

  pub finish_if : (b e : Bool) (n : Who) → is_part_before (cond b ThePlacing (cond e Own (OfOther n))) TheFinish ≡ false
  finish_if true e n = refl
  finish_if false true n = refl
  finish_if false false n = refl

  pub fits_finish : (n : Who) → Fits TheFinish n
  fits_finish n = finish_if (same_who a n) (same_who a n) n

  -- a line that places who acts stands before its block
  pub acts_early : (n : Who) (part : Part) → same_who n a ≡ true → Fits part n → is_part_before part TheBlock ≡ true
  acts_early n part same fits = early-part part (subst (λ q. is_part_before q part ≡ false) (limit-actor n same) fits)

  -- ---- somebody is placed

  pub runs_or_absent : {A B C : Type 0} → A ⊎ C → A ⊎ (B ⊎ C)
  runs_or_absent (inl h) = inl h
  runs_or_absent (inr h) = inr (inr h)

  pub placed-good : (d : ℕ) (n : Who) (c : Core) (l : Last) (part : Part) → Fits part n → is_fresh d n ≡ false → MayBePlaced (limit n) l → MayBePlaced part l
      → (runs_in c ≡ true) ⊎ IsAbsent n c → Good d n c (with_put l part (Some (Some (active_in p c))))
  placed-good d n c l part fits drawn late may runs = record {
    late = put-late (limit n) part l (Some (active_in p c)) fits late;
    low = put-low part l (active_in p c) (level_shown n s) may;
    shown = runs_or_absent runs;
    fresh = λ e. absurd (let clash : false ≡ true = sym drawn ∙ e in cc);
  }

  -- who sleeps is shown nowhere
  pub asleep-hidden : (n : Who) (c : Core) (l : Last) → IsShownRightly n c l → sleeps_in c ≡ true → Hidden n l
  asleep-hidden n c l (inl runs) sleeps = awake c runs sleeps
  asleep-hidden n c l (inr (inl hidden)) sleeps = hidden
  asleep-hidden n c l (inr (inr absent)) sleeps = nobody-sleeps (subst (λ e. sleeps_in e ≡ true) absent.1 sleeps)

  -- so it may be woken in each part that fits
  pub woken-good : (d : ℕ) (n : Who) (c e : Core) (l : Last) (part : Part) → Fits part n → is_fresh d n ≡ false → sleeps_in c ≡ true → runs_in e ≡ true
      → Good d n c l → Good d n e (with_put l part (Some (Some (active_in p e))))
  woken-good d n c e l part fits drawn sleeps runs h =
      placed-good d n e l part fits drawn h.late (out-late part l (level_shown n s) (asleep-hidden n c l h.shown sleeps)) (inl runs)

  pub blocked-good : (d : ℕ) (n : Who) (c : Core) (l : Last) → l ≡ Some (TheBlock, None) → Good d n c l
  blocked-good d n c l is = subst (Good d n c) (sym is) (record { late = inl refl; low = tt; shown = inr (inl refl); fresh = λ e. refl })

  -- who acts is placed, where nothing hides it and where it has blocked
  pub placed_by_acting : (d : ℕ) (n : Who) (c : Core) (l : Last) (part : Part) → same_who n a ≡ true → part ≡ ThePlacing → MayBePlaced (limit n) l
      → is_fresh d n ≡ false → (runs_in c ≡ true) ⊎ ((sleeps_in c ≡ true) × (l ≡ Some (TheBlock, None)))
      → Later d n c (with_put l part (Some (Some (active_in p c))))
  placed_by_acting d n c l part same is late drawn (inl runs) =
      let fits : Fits part n = subst (λ q. is_part_before q part ≡ false) (sym (limit-actor n same)) (ap (is_part_before ThePlacing) is) in
      (placed-good d n c l part fits drawn late (subst (λ q. MayBePlaced q l) (limit-actor n same ∙ sym is) late) (inl runs), λ e. (drawn, inl runs))
  placed_by_acting d n c l part same is late drawn (inr sleeps) =
      let still : with_put l part (Some (Some (active_in p c))) ≡ l =
      blocked-put l part (Some (active_in p c)) sleeps.1 (ap (λ q. is_part_before q TheBlock) is) in
      subst (Later d n c) (sym still) (blocked-good d n c l sleeps.1, λ e. (drawn, inr sleeps))

  pub acting-placed : (d : ℕ) (n : Who) (c : Core) (l : Last) (part : Part) → same_who n a ≡ true → part ≡ ThePlacing → MayBePlaced (limit n) l → Acting d n c l
      → Later d n c (with_put l part (Some (Some (active_in p c))))
  acting-placed d n c l part same is late acting = placed_by_acting d n c l part same is late acting.0 acting.1
