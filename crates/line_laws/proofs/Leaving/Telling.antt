-- What the lines of an effect, and of a move, tell of regions and controlled objects: each comes rightly, and the tie to the world
-- is kept. Early is what is known of a region in which an object is initialized.
use Rattle.std.proofs.Common.{◌≡◌, ℕ, suc, Bool, true, false, ◌||◌, List, [], ◌∷◌, ◌++◌, map, Option, Some, None, refl, sym, ap, subst, ◌∙◌}
use Rattle.ann_base.specs.declared.identities.RegionNo.{RegionNo}
use Rattle.trace_text.specs.declared.events.Event.{Event}
use Rattle.trace_text.specs.declared.events.Who.{Who}
use Rattle.profile_image.specs.declared.image.Image.{Image}
use Rattle.profile_machine.specs.declared.run_data.Leaving.{Leaving}
use Rattle.profile_machine.specs.declared.world.World.{World}
use Rattle.profile_machine.specs.declared.world.marks.Frame.{Frame}
use Rattle.profile_machine.specs.declared.world.marks.Mark.TheVariants.{Scope}
use Rattle.profile_machine.specs.declared.world.marks.ScopeMark.{ScopeMark}
use Rattle.profile_machine.specs.declared.world.marks.Purpose.{Purpose}
use Rattle.profile_machine.specs.declared.world.scopes.Located.{Located}
use Rattle.profile_machine.specs.declared.world.scopes.Beginning.{Beginning}
use Rattle.profile_image.specs.declared.numbers.ScopeNo.{ScopeNo}
use Rattle.profile_machine.specs.declared.world.appointments.Registered.{Registered}
use Rattle.profile_machine.specs.declared.world.lines.Line.{Line}
use Rattle.profile_machine.specs.declared.world.lines.Line.TheVariants as said
use Rattle.profile_machine.specs.declared.world.lines.Part.{Part}
use Rattle.profile_machine.specs.declared.world.lines.Said.{Said}
use Rattle.profile_image.specs.Program.{scope_of}
use Rattle.profile_machine.specs.Lines.{event_of}
use Rattle.profile_machine.specs.Steps.{in_order}
use Rattle.profile_machine.specs.Frames.{top_of, edit_top, push, pop, new_frame}
use Rattle.profile_machine.specs.Scopes.{begin_scope, draw_region, open_scope, next_id, region_of_next, new_scope_mark}
use Rattle.profile_machine.specs.Controlled.{top_region, registered_as, no_longer_registered, edit_top_scope, next_to_finalize, registered_at, is_located}
use Rattle.profile_machine.specs.Tasking.{leaves_as, being_left_mark, left_so_frame}
use Rattle.machine_laws.proofs.Moves.{own, is_told_apart, lines_of}
use Rattle.line_laws.proofs.Exclusion.OwnLines.{told, Told-append, Told-in_order}
use Rattle.line_laws.proofs.Exclusion.OwnLines.{Told as ToldBy}
use Rattle.line_laws.proofs.Leaving.FineMoves.{is_of_region, AreQuiet}
use Rattle.line_laws.proofs.Leaving.RegionLines.{Told, begun, ended, added, finalized, assigned, Right, live, newest-live}
use Rattle.line_laws.proofs.Leaving.LeftLines.{told_event, behind}
use Rattle.line_laws.proofs.Leaving.RegionTies.{Tied, region_on_top, top-alone, begun-tied, ended-tied, opened-tied, pushed-tied, registered-tied}
use Rattle.line_laws.proofs.Leaving.RegionTies.{registered-new, nothing_registered, finalizes-told, finalized-tied, assigned-tied, registered-live}
use Rattle.machine_laws.proofs.FineMoves.{is_placing}

-- what a line of an effect tells
abbrev pub told_line : Line → Option Told
told_line (said.Leave name region how) = Some (begun region.0)
told_line (said.Left name region) = Some (ended region.0)
told_line (said.Init name object region declared) = Some (added object region.0)
told_line (said.Final name object) = Some (finalized object)
told_line (said.Replace name object) = Some (assigned object)
told_line _ = None

abbrev pub put : List Told → Told → List Told
put s e = e ∷ s

pub or-parts : (a b c : Bool) → (a || b || c) ≡ false → c ≡ false
or-parts true b c e = absurd cc
or-parts false true c e = absurd cc
or-parts false false c e = e

module _ (Early : List Told → ℕ → Type 0) where
  abbrev pub ToldOf : List Said → List Told → List Told → Type 0
  ToldOf = ToldBy told_line (Right Early) put

  abbrev told_of : Part → Option Told → List Told → (List Told → Type 0) → Type 0
  told_of = told told_line (Right Early) put

  -- ---- events

  abbrev pub RightEvent : List Told → Option Told → Type 0
  RightEvent s None = Unit {0}
  RightEvent s (Some e) = Right Early s e

  abbrev pub Follows : List Told → List Event → Type 0
  Follows s [] = Unit {0}
  Follows s (x ∷ xs) = RightEvent s (told_event x) × Follows (behind (told_event x) s) xs

  abbrev pub behind_all : List Told → List Event → List Told
  behind_all s [] = s
  behind_all s (x ∷ xs) = behind_all (behind (told_event x) s) xs

  pub behind_all-append : (s : List Told) (xs ys : List Event) → behind_all s (xs ++ ys) ≡ behind_all (behind_all s xs) ys
  behind_all-append s [] ys = refl
  behind_all-append s (x ∷ xs) ys = behind_all-append (behind (told_event x) s) xs ys

  pub Follows-append : (s : List Told) (xs ys : List Event) → Follows s xs → Follows (behind_all s xs) ys → Follows s (xs ++ ys)
  Follows-append s [] ys a b = b
  Follows-append s (x ∷ xs) ys a b = (a.0, Follows-append (behind (told_event x) s) xs ys a.1 b)

  event-told : (p : Image) (x : Line) → told_event (event_of p x) ≡ told_line x
  event-told p (said.Leave name region how) = refl
  event-told p (said.Left name region) = refl
  event-told p (said.Init name object region declared) = refl
  event-told p (said.Final name object) = refl
  event-told p (said.Replace name object) = refl
  event-told p _ = refl

  told-right : (part : Part) (e : Option Told) (s : List Told) (f : List Told → Type 0) → told_of part e s f → RightEvent s e × f (behind e s)
  told-right part None s f h = (tt, h)
  told-right part (Some e) s f h = (h.1, h.2)

  pub told-follow : (p : Image) (xs : List Said) (s t : List Told) → ToldOf xs s t →
      let lines = map (λ x. event_of p x.line) xs in
      Follows s lines × (behind_all s lines ≡ t)
  told-follow p [] s t h = (tt, h)
  told-follow p (x ∷ xs) s t h =
      let e = told-right x.part (told_line x.line) s (λ q. ToldOf xs q t) h in
      let same = event-told p x.line in
      let rest = told-follow p xs (behind (told_line x.line) s) t e.1 in
      let lines = map (λ y. event_of p y.line) xs in
      ((subst (RightEvent s) (sym same) e.0, subst (λ k. Follows (behind k s) lines) (sym same) rest.0), ap (λ k. behind_all (behind k s) lines) same ∙ rest.1)

  -- ---- what is kept

  abbrev pub Tells : World → List Said → World → Type 0
  Tells before lines after = (s : List Told) → Tied s before → (t : List Told) × ToldOf lines s t × Tied t after

  abbrev pub Shown : World → List Event → World → Type 0
  Shown before lines after = (s : List Told) → Tied s before → Follows s lines × Tied (behind_all s lines) after

  pub unmoved : (w : World) → Tells w [] w
  unmoved w s h = (s, refl, h)

  pub moved : (w v : World) → ((s : List Told) → Tied s w → Tied s v) → Tells w [] v
  moved w v k s h = (s, refl, k s h)

  pub then-tells : (a b c : World) (xs ys : List Said) → Tells a xs b → Tells b ys c → Tells a (xs ++ ys) c
  then-tells a b c xs ys p q s h =
      let f = p s h in
      let g = q f.0 f.2 in
      (g.0, Told-append told_line (Right Early) put xs ys s f.0 g.0 f.1 g.1, g.2)

  told-other : (part : Part) (x : Line) (s : List Told) (f : List Told → Type 0) → is_of_region x ≡ false → f s → told_of part (told_line x) s f
  told-other part (said.Leave name region how) s f e h = absurd cc
  told-other part (said.Left name region) s f e h = absurd cc
  told-other part (said.Init name object region declared) s f e h = absurd cc
  told-other part (said.Final name object) s f e h = absurd cc
  told-other part (said.Replace name object) s f e h = absurd cc
  told-other part _ s f e h = h

  pub other-tells : (part : Part) (line : Line) (w : World) → is_of_region line ≡ false → Tells w (record { part = part; line = line } ∷ []) w
  other-tells part line w other s h = (s, told-other part line s (λ q. q ≡ s) other refl, h)

  -- a line of no region, with a change that leaves the tie alone
  pub line-tells : (part : Part) (line : Line) (w v : World) → is_of_region line ≡ false → ((s : List Told) → Tied s w → Tied s v)
      → Tells w (record { part = part; line = line } ∷ []) v
  line-tells part line w v other k s h = (s, told-other part line s (λ q. q ≡ s) other refl, k s h)

  told-others : (xs ys : List Said) (s t : List Told) → AreQuiet xs → ToldOf ys s t → ToldOf (xs ++ ys) s t
  told-others [] ys s t a h = h
  told-others (x ∷ xs) ys s t a h =
      told-other x.part x.line s (λ q. ToldOf (xs ++ ys) q t) (or-parts (is_told_apart x.line) (is_placing x.line) (is_of_region x.line) a.0)
      (told-others xs ys s t a.1 h)

  pub round-tells : (name : Who) (first last : Line) (xs : List Said) (w v : World) → is_of_region first ≡ false → is_of_region last ≡ false → AreQuiet xs
      → Tells w [] v → Tells w (own first ∷ xs ++ own last ∷ []) v
  round-tells name first last xs w v a b quiet k s h =
      let r = k s h in (
        s,
        told-other (own first).part first s (λ q. ToldOf (xs ++ own last ∷ []) q s) a
            (told-others xs (own last ∷ []) s s quiet (told-other (own last).part last s (λ q. q ≡ s) b refl)),
        subst (λ t. Tied t v) (sym r.1) r.2,
      )

  pub settled-tells : (p : Image) (a b : World) (xs : List Said) → Tells a xs b → (s : List Told) → Tied s a
      → Follows s (lines_of p xs) × Tied (behind_all s (lines_of p xs)) b
  settled-tells p a b xs k s h =
      let f = k s h in
      let lines = told-follow p (in_order xs) s f.0 (Told-in_order told_line (Right Early) put xs s f.0 f.1) in
      (lines.0, subst (λ t. Tied t b) (sym lines.1) f.2)

  -- ---- regions and objects

  pub begins_leaving-tells : (name : Who) (f : Frame) (m : ScopeMark) (r : RegionNo) (leaving : Leaving) (w : World) → top_of w name ≡ Some f → f.mark ≡ Scope m
      → m.region ≡ Some r → m.being_left ≡ false
      → Tells w (own (said.Leave name r (leaves_as leaving)) ∷ []) (edit_top name (left_so_frame leaving) (edit_top_scope name being_left_mark w))
  begins_leaving-tells name f m r how w top is region left s h =
      let t = region_on_top name w f m r false top is region left in
      (begun r.0 ∷ s, (refl, (top-alone s name w r false t h).holds.0, refl), begun-tied s name w r how t h)

  pub has_left-tells : (name : Who) (f : Frame) (m : ScopeMark) (r : RegionNo) (w : World) → top_of w name ≡ Some f → f.mark ≡ Scope m → m.region ≡ Some r
      → m.being_left ≡ true → next_to_finalize w r ≡ None → Tells w (own (said.Left name r) ∷ []) (pop name w)
  has_left-tells name f m r w top is region left next s h =
      let t = region_on_top name w f m r true top is region left in
      let flag = (top-alone s name w r true t h).holds in
      (ended r.0 ∷ s, (refl, (flag.0, flag.1, nothing_registered s r w h next), refl), ended-tied s name w r t h)

  pub registers-tells : (name : Who) (l : Located) (w : World) → ((s : List Told) → Tied s w → Early s (top_region w name).0)
      → Tells w (own (said.Init name (suc w.drawn.controlled) (top_region w name) l.declared) ∷ [])
      (registered_as (suc w.drawn.controlled) (top_region w name) l w)
  registers-tells name l w early s h =
      let new = registered-new s w h in
      (added (suc w.drawn.controlled) (top_region w name).0 ∷ s, (refl, (new.0, new.1, early s h), refl), registered-tied s (top_region w name) l w h)

  pub finalizes-tells : (name : Who) (f : Frame) (m : ScopeMark) (r : RegionNo) (x : Registered) (w : World) → top_of w name ≡ Some f → f.mark ≡ Scope m
      → m.region ≡ Some r → m.being_left ≡ true → next_to_finalize w r ≡ Some x
      → Tells w (own (said.Final name x.object) ∷ []) (no_longer_registered x.object w)
  finalizes-tells name f m r x w top is region left next s h =
      let t = region_on_top name w f m r true top is region left in
      let right = finalizes-told s name r x w t h next in
      (finalized x.object ∷ s, (refl, right, refl), finalized-tied s x.object w (newest-live right.region x.object (live s) right.rest right.newest) h)

  pub replaces-tells : (name : Who) (l : Located) (x : Registered) (w : World) → registered_at w l ≡ Some x → Tells w (own (said.Replace name x.object) ∷ []) w
  replaces-tells name l x w found s h = (assigned x.object ∷ s, (refl, registered-live s (is_located l) x w h found, refl), assigned-tied s x.object w h)

  -- ---- a scope is opened

  opens-kept : (p : Image) (name : Who) (scope : ScopeNo) (b : Beginning) (purpose : Purpose) (kept : Bool) (w : World) → let begun_world =
      begin_scope p name scope b w in
      (s : List Told) → Tied s w
      → Tied s (push name (new_frame (new_scope_mark (next_id w) (region_of_next kept w) purpose) (scope_of p scope).first) (draw_region kept begun_world))
  opens-kept p name scope b purpose true w s h =
      opened-tied s name (new_frame (new_scope_mark (next_id w) (region_of_next true w) purpose) (scope_of p scope).first)
      (begin_scope p name scope b w) refl refl h
  opens-kept p name scope b purpose false w s h =
      pushed-tied s name (new_frame (new_scope_mark (next_id w) (region_of_next false w) purpose) (scope_of p scope).first)
      (begin_scope p name scope b w) refl h

  pub opens-tied : (p : Image) (name : Who) (scope : ScopeNo) (b : Beginning) (purpose : Purpose) (w : World) (s : List Told) → Tied s w
      → Tied s (open_scope p name scope b purpose w)
  opens-tied p name scope b purpose w s h = opens-kept p name scope b purpose (scope_of p scope).kept w s h
