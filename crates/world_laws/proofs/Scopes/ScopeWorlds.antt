-- A good world has the scopes of its marks: so each world that a run reaches has them.
use Rattle.std.proofs.Common.{◌≡◌, ℕ, ◌+◌, ◌≤◌, ◌<◌, Bool, true, false, cond, eqb, ltb, ◌&&◌, List, [], ◌∷◌}
use Rattle.std.proofs.Common.{◌++◌, length, Option, Some, None, refl, sym, ap, subst, ◌∙◌, arith, eq-eqb}
use Rattle.std.specs.Prelude.{filter, find, is_some}
use Rattle.std.specs.List.{list_all}
use Rattle.std.proofs.lemmas.Bool.{and_from}
use Rattle.trace_text.specs.declared.events.Who.{Who}
use Rattle.profile_machine.specs.declared.world.World.{World}
use Rattle.profile_machine.specs.declared.world.marks.Frame.{Frame}
use Rattle.profile_machine.specs.declared.world.scopes.ScopeId.{ScopeId}
use Rattle.profile_machine.specs.declared.world.scopes.ScopeInUse.{ScopeInUse}
use Rattle.profile_machine.specs.declared.world.tasks.Task.{Task}
use Rattle.profile_image.specs.Words.{same_who}
use Rattle.profile_machine.specs.Scopes.{id_in, is_id, scope_in_use}
use Rattle.profile_machine.specs.WellFormed.{all_adjacent, everybody, frames_with_scopes, has_scope, is_older, scopes_are_right, scopes_counted}
use Rattle.machine_laws.proofs.ListLemmas.{Falls-adjacent}
use Rattle.world_laws.specs.ScopeWorlds.{ReachedScopesAreRight}
use Rattle.world_laws.proofs.Scopes.FineMoves.{natures, is_task_mark}
use Rattle.world_laws.proofs.Scopes.ScopeKeys.{Key, Weights, number, of_number, scope_keys, weigh, weigh-append}
use Rattle.world_laws.proofs.Scopes.TaskMarks.{keys_by, owns_in, task_keys, with_own}
use Rattle.world_laws.proofs.Scopes.Likeness.{everybody_keys, keys_of}
use Rattle.world_laws.proofs.Scopes.TaskPuts.{same_who-self}
use Rattle.world_laws.proofs.Scopes.GoodWorlds.{GoodWorld}
use Rattle.world_laws.proofs.Scopes.Runs.{reached-good}
use Rattle.line_laws.proofs.Exits.TaskEdits.{same_who-path}
use Rattle.line_laws.proofs.Exits.OpenCounts.{bit}

-- ---- they stand by number

adjacent-keys : (ss : List ScopeInUse) → all_adjacent (λ a b. is_older b.id a.id) ss ≡ all_adjacent (λ a b. ltb (number b) (number a)) (scope_keys ss)
adjacent-keys [] = refl
adjacent-keys (x ∷ []) = refl
adjacent-keys (x ∷ y ∷ rest) = ap (λ b. ltb y.id.0 x.id.0 && b) (adjacent-keys (y ∷ rest))

-- ---- there are as many as marks that have one

one : Weights
one name n = 1

counted-step : (name : Who) (f : Frame) (fs : List Frame) (id : Option ScopeId)
    → length (filter (λ g. is_some (id_in g.mark)) fs) ≡ weigh one (keys_by name (owns_in (natures fs)))
    → length (cond (is_some id) (f ∷ filter (λ g. is_some (id_in g.mark)) fs) (filter (λ g. is_some (id_in g.mark)) fs))
    ≡ weigh one (keys_by name (with_own id (is_task_mark f.mark) (owns_in (natures fs))))
unfolding one
counted-step name f fs None e = e
counted-step name f fs (Some id) e = omega (arith, e)

frames-counted : (name : Who) (fs : List Frame) → frames_with_scopes fs ≡ weigh one (keys_by name (owns_in (natures fs)))
frames-counted name [] = refl
frames-counted name (f ∷ fs) = counted-step name f fs (id_in f.mark) (frames-counted name fs)

counted-last : (ts : List Task) (agent : Task) → scopes_counted (ts ++ agent ∷ []) ≡ weigh one (everybody_keys ts agent)
counted-last [] agent = let a = frames-counted agent.who agent.frames in omega (arith, a)
counted-last (t ∷ ts) agent =
    let a = frames-counted t.who t.frames in
    let b = counted-last ts agent in
    let c = weigh-append one (task_keys t) (everybody_keys ts agent) in
    let d = whole in
    omega (arith, a, b, c, d) where
      whole : weigh one (everybody_keys (t ∷ ts) agent) ≡ weigh one (task_keys t ++ everybody_keys ts agent)
      whole =
          let x = weigh-append one (keys_of (t ∷ ts)) (task_keys agent) in
          let y = weigh-append one (task_keys t) (keys_of ts) in
          let z = weigh-append one (task_keys t) (everybody_keys ts agent) in
          let u = weigh-append one (keys_of ts) (task_keys agent) in
          omega (arith, x, y, z, u)

scopes-counted : (ss : List ScopeInUse) → length ss ≡ weigh one (scope_keys ss)
unfolding one
scopes-counted [] = refl
scopes-counted (s ∷ ss) = let e = scopes-counted ss in omega (arith, e)

-- ---- each mark that has one has it in use, as its own

-- those of somebody, by number
of_both : Who → ℕ → Weights
of_both m k name n = bit (eqb k n && same_who m name)

at_most : (a b : Bool) → bit (a && b) ≤ bit a
at_most true true = omega arith
at_most true false = omega arith
at_most false b = omega arith

fewer-both : (m : Who) (k : ℕ) (ks : List Key) → weigh (of_both m k) ks ≤ weigh (of_number k) ks
unfolding of_both
fewer-both m k [] = omega arith
fewer-both m k (x ∷ xs) = let a = at_most (eqb k x.1) (same_who m x.0) in let b = fewer-both m k xs in omega (arith, a, b)

is-true : (b : Bool) → 0 < bit b → b ≡ true
is-true true e = refl
is-true false e = absurd (omega (arith, e))

pub record Owned (m : Who) (id : ScopeId) (ss : List ScopeInUse) : Type 0 where
  pub scope : ScopeInUse
  pub found : find (is_id id) ss ≡ Some scope
  pub own : same_who scope.owner m ≡ true

owned-here : (m : Who) (id : ScopeId) (s : ScopeInUse) (ss : List ScopeInUse) → is_id id s ≡ true → same_who m s.owner ≡ true → Owned m id (s ∷ ss)
owned-here m id s ss is own = record {
  scope = s;
  found = ap (λ b. cond b (Some s) (find (is_id id) ss)) is;
  own = subst (λ x. same_who s.owner x ≡ true) (sym (same_who-path m s.owner own)) (same_who-self s.owner);
}

owned-later : (m : Who) (id : ScopeId) (s : ScopeInUse) (ss : List ScopeInUse) → is_id id s ≡ false → Owned m id ss → Owned m id (s ∷ ss)
owned-later m id s ss is o = record { scope = o.scope; found = ap (λ b. cond b (Some s) (find (is_id id) ss)) is ∙ o.found; own = o.own }

owned-step : (m : Who) (id : ScopeId) (s : ScopeInUse) (ss : List ScopeInUse) (b : Bool) → is_id id s ≡ b
    → 0 < bit (b && same_who m s.owner) + weigh (of_both m id.0) (scope_keys ss) → bit b + weigh (of_number id.0) (scope_keys ss) ≤ 1
    → (0 < weigh (of_both m id.0) (scope_keys ss) → weigh (of_number id.0) (scope_keys ss) ≤ 1 → Owned m id ss) → Owned m id (s ∷ ss)
owned-step m id s ss true is more once onward =
    let fewer = fewer-both m id.0 (scope_keys ss) in
    let none : 0 < bit (same_who m s.owner) = omega (arith, more, once, fewer) in
    owned-here m id s ss is (is-true (same_who m s.owner) none)
owned-step m id s ss false is more once onward = owned-later m id s ss is (onward (omega (arith, more)) (omega (arith, once)))

owned-of : (m : Who) (id : ScopeId) (ss : List ScopeInUse) → 0 < weigh (of_both m id.0) (scope_keys ss) → weigh (of_number id.0) (scope_keys ss) ≤ 1
    → Owned m id ss
unfolding of_both
owned-of m id [] more once = absurd (omega (arith, more))
owned-of m id (s ∷ ss) more once = owned-step m id s ss (is_id id s) refl more once (owned-of m id ss)

-- what is found so passes the test
found-test : (m : Who) (found : Option ScopeInUse) (s : ScopeInUse) → found ≡ Some s → same_who s.owner m ≡ true
    → elim found as (λ _. Bool) [ None ↦ false | Some x ↦ same_who x.owner m ] ≡ true
found-test m found s e own = ap (λ x. elim x as (λ _. Bool) [ None ↦ false | Some y ↦ same_who y.owner m ]) e ∙ own

module _ (w : World) (g : GoodWorld w) where
  mark-test : (m : Who) (id : Option ScopeId) (b : Bool) (fs : List Frame)
      → ((k : ℕ) → weigh (of_both m k) (keys_by m (with_own id b (owns_in (natures fs)))) ≤ weigh (of_both m k) (scope_keys w.scopes))
      → elim id as (λ _. Bool) [ None ↦ true | Some i ↦ elim (scope_in_use w i) as (λ _. Bool) [ None ↦ false | Some s ↦ same_who s.owner m ] ] ≡ true
  unfolding of_both
  mark-test m None b fs least = refl
  mark-test m (Some i) b fs least =
      let here : bit (eqb i.0 i.0 && same_who m m) ≡ 1 = ap bit (and_from (eqb i.0 i.0) (same_who m m) (eq-eqb i.0 i.0 refl) (same_who-self m)) in
      let all = least i.0 in
      let more : 0 < weigh (of_both m i.0) (scope_keys w.scopes) = omega (arith, here, all) in
      let o = owned-of m i w.scopes more (g.once i.0) in
      found-test m (scope_in_use w i) o.scope o.found o.own

  below-least : (m : Who) (k : ℕ) (id : Option ScopeId) (b : Bool) (fs : List Frame)
      → weigh (of_both m k) (keys_by m (owns_in (natures fs))) ≤ weigh (of_both m k) (keys_by m (with_own id b (owns_in (natures fs))))
  unfolding of_both
  below-least m k None b fs = omega arith
  below-least m k (Some i) b fs = omega arith

  frames-test : (m : Who) (fs : List Frame) → ((k : ℕ) → weigh (of_both m k) (keys_by m (owns_in (natures fs))) ≤ weigh (of_both m k) (scope_keys w.scopes))
      → list_all (has_scope w m) fs ≡ true
  frames-test m [] least = refl
  frames-test m (f ∷ fs) least =
      and_from (has_scope w m f) (list_all (has_scope w m) fs) (mark-test m (id_in f.mark) (is_task_mark f.mark) fs least)
      (frames-test m fs (λ k. let a = below-least m k (id_in f.mark) (is_task_mark f.mark) fs in let b = least k in omega (arith, a, b)))

  -- of each of everybody
  all-test : (ts : List Task) (agent : Task) → ((by : Weights) → weigh by (everybody_keys ts agent) ≤ weigh by (scope_keys w.scopes))
      → list_all (λ t. list_all (has_scope w t.who) t.frames) (ts ++ agent ∷ []) ≡ true
  all-test [] agent least =
      and_from (list_all (has_scope w agent.who) agent.frames) true (frames-test agent.who agent.frames (λ k. least (of_both agent.who k))) refl
  all-test (t ∷ ts) agent least =
      and_from (list_all (has_scope w t.who) t.frames) (list_all (λ u. list_all (has_scope w u.who) u.frames) (ts ++ agent ∷ []))
      (frames-test t.who t.frames
      (λ k. let a = least (of_both t.who k) in
      let b = weigh-append (of_both t.who k) (keys_of (t ∷ ts)) (task_keys agent) in
      let c = weigh-append (of_both t.who k) (task_keys t) (keys_of ts) in omega (arith, a, b, c)))
      (all-test ts agent
      (λ by. let a = least by in
      let b = weigh-append by (keys_of (t ∷ ts)) (task_keys agent) in
      let c = weigh-append by (task_keys t) (keys_of ts) in let d = weigh-append by (keys_of ts) (task_keys agent) in omega (arith, a, b, c, d)))

  good-scopes : scopes_are_right w ≡ true
  good-scopes =
      let older = adjacent-keys w.scopes ∙ Falls-adjacent number w.drawn.scopes (scope_keys w.scopes) g.falls in
      let owned = all-test w.tasks w.agent (λ by. let e = g.balance by in omega (arith, e)) in
      let a = scopes-counted w.scopes in
      let b = counted-last w.tasks w.agent in
      let c = g.balance one in
      let same : length w.scopes ≡ scopes_counted (everybody w) = omega (arith, a, b, c) in
      let x = all_adjacent (λ a b. is_older b.id a.id) w.scopes in
      let y = list_all (λ t. list_all (has_scope w t.who) t.frames) (everybody w) in
      let z = eqb (length w.scopes) (scopes_counted (everybody w)) in
      and_from (x && y) z (and_from x y older owned) (eq-eqb (length w.scopes) (scopes_counted (everybody w)) same)

pub reached_scopes_are_right : ReachedScopesAreRight
reached_scopes_are_right p script bound w r = good-scopes w (reached-good p script bound w r)
