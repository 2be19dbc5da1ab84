-- Each turn without room takes a call out of the queues of the object, and nobody comes into them: so there are no more turns than
-- calls.
use Rattle.std.proofs.Common.{◌≡◌, ℕ, zero, suc, ◌+◌, ◌≤◌, ◌<◌, Bool, true, false, cond, ◌&&◌, ◌||◌, eqb, ltb, length}
use Rattle.std.proofs.Common.{List, [], ◌∷◌, ◌++◌, Option, Some, None, refl, sym, ap, subst, ◌∙◌, arith, option_map}
use Rattle.std.specs.Prelude.{find, filter, map}
use Rattle.std.specs.List.{list_all}
use Rattle.std.proofs.lemmas.Bool.{and_parts, eqb-true, eq-eqb, or_left, true≢false}
use Rattle.ann_base.specs.declared.exceptions.Raised.TheVariants as exception
use Rattle.ann_base.specs.declared.identities.CallNo.{CallNo}
use Rattle.ann_base.specs.declared.identities.ObjectNo.{ObjectNo}
use Rattle.trace_text.specs.declared.events.Who.{Who}
use Rattle.profile_image.specs.declared.image.Image.{Image}
use Rattle.profile_image.specs.declared.image.Queuing.{Queuing}
use Rattle.profile_image.specs.declared.image.Queuing.TheVariants as queuing
use Rattle.profile_image.specs.declared.numbers.EntryNo.{EntryNo}
use Rattle.profile_machine.specs.declared.world.World.{World}
use Rattle.profile_machine.specs.declared.world.calls.Call.{Call}
use Rattle.profile_machine.specs.declared.world.calls.Outcome.TheVariants as call_ended
use Rattle.profile_machine.specs.declared.world.calls.Owner.{Owner}
use Rattle.profile_machine.specs.declared.world.calls.Owner.TheVariants as owned_by
use Rattle.profile_machine.specs.declared.world.lines.Line.TheVariants as line
use Rattle.profile_machine.specs.declared.world.lines.MeetingEnd.TheVariants as meeting
use Rattle.profile_machine.specs.declared.world.lines.Part.{Part}
use Rattle.profile_machine.specs.declared.world.lines.Said.{Said}
use Rattle.profile_machine.specs.declared.world.marks.ProtectedMark.{ProtectedMark}
use Rattle.profile_machine.specs.declared.world.objects.Object.{Object}
use Rattle.profile_image.specs.Words.{has, same_call, edit_at}
use Rattle.profile_machine.specs.Steps.{Step, Done, done, goes_on_with, says, for_some, ◌▷◌}
use Rattle.profile_machine.specs.Values.{object_of, is_object, queue_at, queues_of}
use Rattle.profile_machine.specs.Calls.{is_call, call_of, edit_call, edit_queue, take_call, place_of_entry}
use Rattle.profile_machine.specs.Calls.{unqueued, first_head, better_of, best_head, next_by, priority_of}
use Rattle.profile_machine.specs.CallEnds.{deliver}
use Rattle.profile_machine.specs.Protected.{is_open_entry, served_next, begun_call, begin_call, body_opens, has_room_for_body, serve_call}
use Rattle.profile_image.specs.Program.{protected_unit_of}
use Rattle.profile_machine.specs.Serving.{part_of_start, settle_sent, begins_part, chosen_is_sent, serve_chosen, serve_next, serve_calls}
use Rattle.profile_machine.specs.WellFormed.{same_owner, is_queued_call, queue_is_right, queues_from, task_queues_are_right, all_adjacent}
use Rattle.profile_machine.specs.Priorities.{is_queued}
use Rattle.machine_laws.proofs.Kept.Combinators.{world_behind}
use Rattle.world_laws.specs.ServeLaws.{queues_are_its_own, ServesEnd, RightQueuesAreOwn}
use Rattle.world_laws.proofs.Counts.NumberedLists.{found-key, edited-same}
use Rattle.world_laws.proofs.Counts.CallLists.{counted, counted-length, counted-less, some-at}
use Rattle.world_laws.proofs.Counts.FewerCalls.{queue_in, directed, directed_in, Fewer, Lessens, Reduces, fewer-then, edit_call-reduces}
use Rattle.world_laws.proofs.Counts.FewerCalls.{unqueued-reduces, nothing-lessens, deliver-lessens, sent_not_begun-lessens}
use Rattle.world_laws.proofs.Queues.Standing.{object_key}
use Rattle.world_laws.proofs.Queues.CallLists.{call_number, same-call, in_queues, AtSome, at-some, gone-at}

-- ---- the queues of the object are its own

-- a call that is queued there and is there is directed to the entry of that queue
abbrev Directed : Image → ObjectNo → World → Type 0
Directed p o w =
    (k : ℕ) (c : CallNo) → has same_call (queue_in o w.objects k) c ≡ true → (at : Owner × EntryNo) → directed_in w.calls c ≡ Some at
    → (at.0 ≡ owned_by.Object o) × (place_of_entry p at.1 ≡ k)

fewer-directed : (p : Image) (o : ObjectNo) (w v : World) → Fewer o w v → Directed p o w → Directed p o v
fewer-directed p o w v fewer d k c h at is = d k c (fewer.queued k c h) at (fewer.directs c at is)

own-object : (o : ObjectNo) (owner : Owner) → same_owner (owned_by.Object o) owner ≡ true → owner ≡ owned_by.Object o
own-object o (owned_by.Task t) e = absurd (true≢false (sym e))
own-object o (owned_by.Object q) e = ap (λ (n : ℕ). owned_by.Object (record { 0 = n })) (sym (eqb-true o.0 q.0 e))

has-one : (test : CallNo → Bool) (x c : CallNo) (queue : List CallNo) (b : Bool) → same_call x c ≡ b → (b || has same_call queue c) ≡ true → test x ≡ true
    → (has same_call queue c ≡ true → test c ≡ true) → test c ≡ true
has-one test x c queue true is e here onward = subst (λ y. test y ≡ true) (same-call x c is) here
has-one test x c queue false is e here onward = onward e

all-has : (test : CallNo → Bool) (queue : List CallNo) (c : CallNo) → list_all test queue ≡ true → has same_call queue c ≡ true → test c ≡ true
all-has test [] c all h = absurd (true≢false (sym h))
all-has test (x ∷ queue) c all h =
    let parts = and_parts (test x) (list_all test queue) all in
    has-one test x c queue (same_call x c) refl h parts.0 (all-has test queue c parts.1)

module _ (p : Image) (w : World) (o : ObjectNo) where
  queued-from : (place : ℕ) (queues : List (List CallNo)) (k : ℕ) (c : CallNo) → queues_from p w (owned_by.Object o) place queues ≡ true
      → has same_call (queue_at queues k) c ≡ true → is_queued_call p (owned_by.Object o) (place + k) (call_of w c) ≡ true
  queued-from place [] k c all h = absurd (true≢false (sym h))
  queued-from place (queue ∷ queues) zero c all h =
      let parts = and_parts (queue_is_right p w (owned_by.Object o) place queue) (queues_from p w (owned_by.Object o) (suc place) queues) all in
      subst (λ n. is_queued_call p (owned_by.Object o) n (call_of w c) ≡ true) (omega arith)
      (all-has (λ x. is_queued_call p (owned_by.Object o) place (call_of w x)) queue c parts.0 h)
  queued-from place (queue ∷ queues) (suc k) c all h =
      let parts = and_parts (queue_is_right p w (owned_by.Object o) place queue) (queues_from p w (owned_by.Object o) (suc place) queues) all in
      subst (λ n. is_queued_call p (owned_by.Object o) n (call_of w c) ≡ true) (omega arith) (queued-from (suc place) queues k c parts.1 h)

  call-directed : (k : ℕ) (found : Option Call) (at : Owner × EntryNo) → is_queued_call p (owned_by.Object o) k found ≡ true
      → option_map directed found ≡ Some at → (at.0 ≡ owned_by.Object o) × (place_of_entry p at.1 ≡ k)
  call-directed k None at h is = absurd (true≢false (sym h))
  call-directed k (Some d) at h is =
      let parts = and_parts (is_queued d && same_owner (owned_by.Object o) d.owner) (eqb (place_of_entry p d.entry) k) h in
      let owner = and_parts (is_queued d) (same_owner (owned_by.Object o) d.owner) parts.0 in
      let one : directed d ≡ at = cc in
      subst (λ a. (a.0 ≡ owned_by.Object o) × (place_of_entry p a.1 ≡ k)) one (own-object o d.owner owner.1, eqb-true (place_of_entry p d.entry) k parts.1)

  are-directed : queues_are_its_own p w o ≡ true → Directed p o w
  are-directed h k c queued at is =
      call-directed k (call_of w c) at
      (subst (λ n. is_queued_call p (owned_by.Object o) n (call_of w c) ≡ true) (omega arith) (queued-from 0 (queues_of (object_of w o)) k c h queued)) is

-- ---- the call that is chosen stands in a queue

stands-first : (x c : CallNo) (xs : List CallNo) → x ≡ c → has same_call (x ∷ xs) c ≡ true
stands-first x c xs is = or_left (same_call x c) (has same_call xs c) (subst (λ y. same_call x y ≡ true) is (eq-eqb x.0 x.0 refl))

module _ (w : World) (queues : List (List CallNo)) (c : CallNo) where
  found-at : (k : ℕ) (x : CallNo) (xs : List CallNo) → queue_at queues k ≡ x ∷ xs → x ≡ c → AtSome queues c
  found-at k x xs at is = (k, subst (λ queue. has same_call queue c ≡ true) (sym at) (stands-first x c xs is))

  first-step : (k : ℕ) (queue : List CallNo) (rest : List (List CallNo)) → queue_at queues k ≡ queue → first_head (queue ∷ rest) ≡ Some c
      → (first_head rest ≡ Some c → AtSome queues c) → AtSome queues c
  first-step k [] rest at e onward = onward e
  first-step k (x ∷ xs) rest at e onward = found-at k x xs at cc

  first-stands : (place : EntryNo → ℕ) (es : List EntryNo) → first_head (map (λ e. queue_at queues (place e)) es) ≡ Some c → AtSome queues c
  first-stands place [] e = absurd cc
  first-stands place (x ∷ es) e = first-step (place x) (queue_at queues (place x)) (map (λ e. queue_at queues (place e)) es) refl e (first-stands place es)

  better-step : (b : Bool) (k : ℕ) (x d : CallNo) (xs : List CallNo) → queue_at queues k ≡ x ∷ xs → cond b d x ≡ c → (d ≡ c → AtSome queues c) → AtSome queues c
  better-step true k x d xs at e onward = onward e
  better-step false k x d xs at e onward = found-at k x xs at e

  better-stands : (k : ℕ) (x : CallNo) (xs : List CallNo) (found : Option CallNo) → queue_at queues k ≡ x ∷ xs → better_of w x found ≡ c
      → (found ≡ Some c → AtSome queues c) → AtSome queues c
  better-stands k x xs None at e onward = found-at k x xs at e
  better-stands k x xs (Some d) at e onward = better-step (ltb (priority_of w x) (priority_of w d)) k x d xs at e (λ is. onward (ap (λ y. Some y) is))

  best-step : (k : ℕ) (queue : List CallNo) (rest : List (List CallNo)) → queue_at queues k ≡ queue → best_head w (queue ∷ rest) ≡ Some c
      → (best_head w rest ≡ Some c → AtSome queues c) → AtSome queues c
  best-step k [] rest at e onward = onward e
  best-step k (x ∷ xs) rest at e onward = let is : better_of w x (best_head w rest) ≡ c = cc in better-stands k x xs (best_head w rest) at is onward

  best-stands : (place : EntryNo → ℕ) (es : List EntryNo) → best_head w (map (λ e. queue_at queues (place e)) es) ≡ Some c → AtSome queues c
  best-stands place [] e = absurd cc
  best-stands place (x ∷ es) e = best-step (place x) (queue_at queues (place x)) (map (λ e. queue_at queues (place e)) es) refl e (best-stands place es)

  next-stands : (queuing : Queuing) (place : EntryNo → ℕ) (es : List EntryNo) → next_by queuing w (map (λ e. queue_at queues (place e)) es) ≡ Some c
      → AtSome queues c
  next-stands queuing.Fifo place es e = first-stands place es e
  next-stands queuing.Priority place es e = best-stands place es e

chosen-stands : (p : Image) (w : World) (name : Who) (found : Option Object) (c : CallNo) → served_next p w name found ≡ Some c → AtSome (queues_of found) c
chosen-stands p w name None c e = absurd cc
chosen-stands p w name (Some x) c e =
    next-stands w x.queues c p.policies.queuing (place_of_entry p) (filter (is_open_entry p w name x) (protected_unit_of p x.unit).entries) e

-- ---- a turn without room takes it out

abbrev measure : ObjectNo → World → ℕ
measure o w = counted (in_queues (queues_of (object_of w o))) w.calls

-- the world in which the body of a call begins, if there is room
abbrev begun : Image → Call → World → World
begun p d w = edit_call d.number begun_call (unqueued p d w)

begun-fewer : (p : Image) (o : ObjectNo) (d : Call) (w : World) → Fewer o w (begun p d w)
unfolding Reduces
begun-fewer p o d w =
    let out = unqueued p d w in
    fewer-then o w out (begun p d w) (unqueued-reduces o p d w) (edit_call-reduces o d.number begun_call (λ x. refl) (λ x. refl) out)

abbrev taken : ℕ → CallNo → Object → Object
taken place c u = record u { queues = edit_at place (take_call c) u.queues }

taken-gone : (place : ℕ) (c : CallNo) (found : Option Object) → has same_call (queue_at (queues_of (option_map (taken place c) found)) place) c ≡ false
taken-gone place c None = refl
taken-gone place c (Some u) = gone-at u.queues place c

out-of-own : (p : Image) (o : ObjectNo) (d : Call) (owner : Owner) (w : World) → owner ≡ owned_by.Object o
    → has same_call (queue_in o (edit_queue owner (place_of_entry p d.entry) (take_call d.number) w).objects (place_of_entry p d.entry)) d.number ≡ false
out-of-own p o d owner w is =
    let place = place_of_entry p d.entry in
    subst (λ x. has same_call (queue_in o (edit_queue x place (take_call d.number) w).objects place) d.number ≡ false) (sym is)
    (subst (λ found. has same_call (queue_at (queues_of found) place) d.number ≡ false)
    (sym (edited-same object_key o.0 (taken place d.number) (λ u. refl) w.objects)) (taken-gone place d.number (find (is_object o) w.objects)))

unless-true : (b : Bool) → (b ≡ true → true ≡ false) → b ≡ false
unless-true true h = h refl
unless-true false h = refl

module _ (p : Image) (o : ObjectNo) where
  -- where it began it stands in no queue of the object
  gone-where : (d : Call) (w : World) (k : ℕ) → has same_call (queue_in o (begun p d w).objects k) d.number ≡ true
      → (d.owner ≡ owned_by.Object o) × (place_of_entry p d.entry ≡ k) → true ≡ false
  gone-where d w k h at = sym h ∙ subst (λ n. has same_call (queue_in o (begun p d w).objects n) d.number ≡ false) at.1 (out-of-own p o d d.owner w at.0)

  gone-all : (c : CallNo) (d : Call) (w u : World) → Directed p o w → call_of w c ≡ Some d → c ≡ d.number → Fewer o (begun p d w) u
      → in_queues (queues_of (object_of u o)) c ≡ false
  gone-all c d w u directed_all found is fewer =
      unless-true (in_queues (queues_of (object_of u o)) c) (λ e.
      let at = at-some (queues_of (object_of u o)) c e in
      let before : has same_call (queue_in o (begun p d w).objects at.0) c ≡ true = fewer.queued at.0 c at.1 in
      let first = begun-fewer p o d w in
      gone-where d w at.0 (subst (λ x. has same_call (queue_in o (begun p d w).objects at.0) x ≡ true) is before)
      (directed_all at.0 c (first.queued at.0 c before) (directed d) (ap (option_map directed) found)))

  still-in : (w u : World) → Fewer o w u → (c : CallNo) → in_queues (queues_of (object_of u o)) c ≡ true → in_queues (queues_of (object_of w o)) c ≡ true
  still-in w u fewer c e =
      let at = at-some (queues_of (object_of u o)) c e in
      some-at (queues_of (object_of w o)) at.0 c (fewer.queued at.0 c at.1)

  measure-less : (w u : World) (c : CallNo) (found : Option Call) (at : Owner × EntryNo) → Fewer o w u → call_of w c ≡ found
      → option_map directed found ≡ Some at → in_queues (queues_of (object_of w o)) c ≡ true → in_queues (queues_of (object_of u o)) c ≡ false
      → measure o u < measure o w
  measure-less w u c None at fewer is e before behind = absurd cc
  measure-less w u c (Some d) at fewer is e before behind =
      let few = in_queues (queues_of (object_of u o)) in
      let first : counted few u.calls ≤ counted few w.calls = fewer.counts few in
      let less : counted few w.calls < measure o w =
      counted-less few (in_queues (queues_of (object_of w o))) c d (still-in w u fewer) behind before w.calls is in
      omega (arith, first, less)

settle_sent-lessens : (p : Image) (o : ObjectNo) (sent : Option CallNo) (served : Bool) → Lessens o (settle_sent p sent served)
unfolding settle_sent
settle_sent-lessens p o None served = nothing-lessens o
settle_sent-lessens p o (Some c) true = nothing-lessens o
settle_sent-lessens p o (Some c) false = sent_not_begun-lessens o p c

behind-same : (again other : Step) (d : Done) → ((said : List Said) → other (world_behind d) said ≡ again (world_behind d) said)
    → goes_on_with other d ≡ goes_on_with again d
behind-same again other (done u said) h = h said

call-number : (c : CallNo) (d : Call) (ds : List Call) → find (is_call c) ds ≡ Some d → c ≡ d.number
call-number c d ds is = ap (λ (n : ℕ). record { 0 = n }) (sym (found-key call_number c.0 ds d is))

-- ---- what is done again is the same

module _ (p : Image) (name : Who) (m : ProtectedMark) (again other : Step) where
  without_room-same : (part : Part) (c : CallNo) (d : Call) (v : World) (said : List Said)
      → ((u : World) → Fewer m.object (begun p d v) u → (xs : List Said) → other u xs ≡ again u xs)
      → (begin_call p part name d ▷ says part (line.Finish name d.number (meeting.Raised exception.Storage))
      ▷ deliver p part c (call_ended.ToRaise exception.Storage) ▷ other) v said
      ≡ (begin_call p part name d ▷ says part (line.Finish name d.number (meeting.Raised exception.Storage))
      ▷ deliver p part c (call_ended.ToRaise exception.Storage) ▷ again) v said
  unfolding begin_call Lessens
  without_room-same part c d v said h =
      let told : List Said =
      (said ++ record { part = part; line = line.Start name d.number } ∷ [])
      ++ record { part = part; line = line.Finish name d.number (meeting.Raised exception.Storage) } ∷ [] in
      let ended = deliver p part c (call_ended.ToRaise exception.Storage) (begun p d v) told in
      behind-same again other ended
      (λ xs. h (world_behind ended) (deliver-lessens m.object p part c (call_ended.ToRaise exception.Storage) (begun p d v) told) xs)

  serve-same : (room : Bool) (part : Part) (c : CallNo) (d : Call) (opens : Step) (v : World) (said : List Said)
      → ((u : World) → Fewer m.object (begun p d v) u → (xs : List Said) → other u xs ≡ again u xs)
      → (begin_call p part name d
      ▷ elim room as (λ _. Step) [
        | true ↦ opens
        | false ↦ says part (line.Finish name d.number (meeting.Raised exception.Storage)) ▷ deliver p part c (call_ended.ToRaise exception.Storage) ▷ other
      ]) v said
      ≡ (begin_call p part name d
      ▷ elim room as (λ _. Step) [
        | true ↦ opens
        | false ↦ says part (line.Finish name d.number (meeting.Raised exception.Storage)) ▷ deliver p part c (call_ended.ToRaise exception.Storage) ▷ again
      ]) v said
  serve-same true part c d opens v said h = refl
  serve-same false part c d opens v said h = without_room-same part c d v said h

  abbrev served : Step → Bool → CallNo → Call → Step
  served step is_sent c d =
      serve_call p (part_of_start is_sent) name m.object d (begins_part p is_sent c)
      (deliver p (part_of_start is_sent) c (call_ended.ToRaise exception.Storage) ▷ step)

  call-same : (is_sent : Bool) (c : CallNo) (found : Option Call) (v : World) (said : List Said) → call_of v c ≡ found
      → ((d : Call) → call_of v c ≡ Some d → (u : World) → Fewer m.object (begun p d v) u → (xs : List Said) → other u xs ≡ again u xs)
      → for_some found (served other is_sent c) v said ≡ for_some found (served again is_sent c) v said
  call-same is_sent c None v said is h = refl
  call-same is_sent c (Some d) v said is h =
      serve-same (has_room_for_body p v name d.entry) (part_of_start is_sent) c d (body_opens p name m.object d ▷ begins_part p is_sent c) v said (h d is)

  -- from a world in which the call has been chosen
  chosen-same : (is_sent : Bool) (c : CallNo) (w v : World) (said : List Said) → served_next p w name (object_of w m.object) ≡ Some c → Directed p m.object w
      → Fewer m.object w v
      → ((u : World) → Directed p m.object u → measure m.object u < measure m.object w → (xs : List Said) → other u xs ≡ again u xs)
      → serve_chosen p name m is_sent other (Some c) v said ≡ serve_chosen p name m is_sent again (Some c) v said
  chosen-same is_sent c w v said chosen directed_all fewer h =
      let stands = chosen-stands p w name (object_of w m.object) c chosen in
      let before = some-at (queues_of (object_of w m.object)) stands.0 c stands.1 in
      let still = fewer-directed p m.object w v fewer directed_all in
      call-same is_sent c (call_of v c) v said refl (λ d found u ended xs.
      let first = fewer-then m.object v (begun p d v) u (begun-fewer p m.object d v) ended in
      let whole = fewer-then m.object w v u fewer first in
      let gone = gone-all p m.object c d v u still found (call-number c d v.calls found) ended in
      h u (fewer-directed p m.object v u first still)
      (measure-less p m.object w u c (call_of w c) (directed d) whole refl (fewer.directs c (directed d) (ap (option_map directed) found)) before gone) xs)

  turn-same : (chosen : Option CallNo) (w : World) (sent : Option CallNo) (said : List Said) → served_next p w name (object_of w m.object) ≡ chosen
      → Directed p m.object w
      → ((u : World) → Directed p m.object u → measure m.object u < measure m.object w → (xs : List Said) → other u xs ≡ again u xs)
      → (settle_sent p sent (chosen_is_sent sent chosen) ▷ serve_chosen p name m (chosen_is_sent sent chosen) other chosen) w said
      ≡ (settle_sent p sent (chosen_is_sent sent chosen) ▷ serve_chosen p name m (chosen_is_sent sent chosen) again chosen) w said
  unfolding Lessens
  turn-same None w sent said is directed_all h = refl
  turn-same (Some c) w sent said is directed_all h =
      let is_sent = chosen_is_sent sent (Some c) in
      let settled = settle_sent p sent is_sent w said in
      behind-same (serve_chosen p name m is_sent again (Some c)) (serve_chosen p name m is_sent other (Some c)) settled
      (λ xs. chosen-same is_sent c w (world_behind settled) xs is directed_all (settle_sent-lessens p m.object sent is_sent w said) h)

-- ---- the count is enough

module _ (p : Image) (name : Who) (m : ProtectedMark) where
  serves-enough : (count other : ℕ) → count ≤ other → (w : World) (sent : Option CallNo) (said : List Said) → Directed p m.object w → measure m.object w < count
      → serve_next other p name m sent w said ≡ serve_next count p name m sent w said
  unfolding serve_next
  serves-enough zero other within w sent said directed_all few = absurd (omega (arith, few))
  serves-enough (suc count) zero within w sent said directed_all few = absurd (omega (arith, within))
  serves-enough (suc count) (suc other) within w sent said directed_all few =
      turn-same p name m (serve_next count p name m None) (serve_next other p name m None)
      (served_next p w name (object_of w m.object)) w sent said refl directed_all
      (λ u still less xs. serves-enough count other (omega (arith, within)) u None xs still (omega (arith, less, few)))

pub serves_end : ServesEnd
unfolding serve_calls
serves_end p name m w own sent more said =
    let low : measure m.object w ≤ length w.calls = counted-length (in_queues (queues_of (object_of w m.object))) w.calls in
    serves-enough p name m (suc (length w.calls)) (suc (length w.calls) + more) (omega arith) w sent said (are-directed p w m.object own) (omega (arith, low))

-- ---- where all queues are right

module _ (p : Image) (w : World) (o : ObjectNo) where
  abbrev has_own : Object → Bool
  has_own x = queues_from p w (owned_by.Object x.number) 0 x.queues

  own-first : (b : Bool) (x y : Object) (xs : List Object) → is_object o x ≡ b → cond b (Some x) (find (is_object o) xs) ≡ Some y → has_own x ≡ true
      → (find (is_object o) xs ≡ Some y → queues_from p w (owned_by.Object o) 0 y.queues ≡ true)
      → queues_from p w (owned_by.Object o) 0 y.queues ≡ true
  own-first true x y xs is e own onward =
      let one : x ≡ y = cc in
      let number : x.number ≡ o = ap (λ (n : ℕ). record { 0 = n }) (sym (eqb-true o.0 x.number.0 is)) in
      subst (λ z. queues_from p w (owned_by.Object o) 0 z.queues ≡ true) one (subst (λ n. queues_from p w (owned_by.Object n) 0 x.queues ≡ true) number own)
  own-first false x y xs is e own onward = onward e

  own-found : (xs : List Object) (y : Object) → list_all has_own xs ≡ true → find (is_object o) xs ≡ Some y
      → queues_from p w (owned_by.Object o) 0 y.queues ≡ true
  own-found [] y all e = absurd cc
  own-found (x ∷ xs) y all e =
      let parts = and_parts (has_own x) (list_all has_own xs) all in
      own-first (is_object o x) x y xs refl e parts.0 (own-found xs y parts.1)

  own-of : (found : Option Object) → object_of w o ≡ found → list_all has_own w.objects ≡ true → queues_from p w (owned_by.Object o) 0 (queues_of found) ≡ true
  own-of None is all = refl
  own-of (Some x) is all = own-found w.objects x all is

pub right_queues_are_own : RightQueuesAreOwn
right_queues_are_own p w o h =
    let tasks = list_all (λ t. task_queues_are_right p w t.who t.queues) w.tasks in
    let objects = list_all (has_own p w o) w.objects in
    let calls = all_adjacent (λ a b. ltb b.number.0 a.number.0) w.calls in
    let parts = and_parts (tasks && objects) calls h in
    own-of p w o (object_of w o) refl (and_parts tasks objects parts.0).1
