-- Step 2 of an instant takes the items of the script whose moment has come, and releases the handlers of interrupts that come
-- unmasked or are unmasked.
use Rattle.std.proofs.Common.{◌≡◌, ℕ, zero, suc, ℤ, ◌≤◌, Bool, true, false, cond, not, length, slice_index_or, List, [], ◌∷◌}
use Rattle.std.proofs.Common.{◌++◌, map, Option, Some, None, refl, sym, ap, subst, ◌∙◌, append-nil, append_assoc, le_refl, arith}
use Rattle.std.specs.Prelude.{int_le, pos}
use Rattle.trace_text.specs.declared.events.Event.{Event}
use Rattle.profile_image.specs.declared.image.Image.{Image}
use Rattle.profile_image.specs.declared.script_items.Item.{Item}
use Rattle.profile_image.specs.declared.script_items.Item.TheVariants as item
use Rattle.profile_machine.specs.declared.world.World.{World}
use Rattle.profile_machine.specs.declared.world.appointments.HandlerOf.{HandlerOf}
use Rattle.profile_machine.specs.declared.world.objects.Object.{Object}
use Rattle.profile_machine.specs.declared.world.lines.Line.{Line}
use Rattle.profile_machine.specs.declared.world.lines.Line.TheVariants as line
use Rattle.profile_machine.specs.declared.world.lines.Said.{Said}
use Rattle.profile_machine.specs.declared.world.lines.Part.TheVariants.{Own}
use Rattle.profile_image.specs.Words.{edit_at, is_flag}
use Rattle.profile_machine.specs.Steps.{Step, Done, done, changes, nothing, for_some, placed_by, ◌▷◌}
use Rattle.profile_machine.specs.Handlers.{handler_attached, interrupt, release}
use Rattle.profile_machine.specs.Instant.{interrupt_comes, deliver_kept_interrupt, script_item, with_script, take_item, items_due, script_items}
use Rattle.profile_machine.specs.Releases.{named_handler, handler_list, attached_to, kept_where, Flags, flags_after, due_by_item, released}
use Rattle.machine_laws.proofs.Moves.{own, lines_of}
use Rattle.machine_laws.proofs.Kept.Combinators.{Kept, From}
use Rattle.release_laws.specs.ReleaseLaws.{items_come, items_ahead, flags_behind, due_by_items}
use Rattle.release_laws.proofs.ClockLemmas.{clock_in}
use Rattle.release_laws.proofs.Tellings.{Tells, tells_none, tells_both, released-lines}
use Rattle.release_laws.proofs.Untouched.{sight_of, EventsStay, TimersStay, BudgetsStay, ClocksStay, events-stay, timers-stay}
use Rattle.release_laws.proofs.Untouched.{budgets-stay, clocks-stay, events-then, timers-then, budgets-then, clocks-then}
use Rattle.release_laws.proofs.Release.{Released, release-from}
use Rattle.release_laws.proofs.Effects.{kept-weaker, kept-then}
use Rattle.release_laws.proofs.ActionEffects.{settled-by}
use Rattle.release_laws.proofs.BudgetSteps.{one_or_none}

abbrev pub flags_of : World → Flags
flags_of w = record { masked = w.masked; kept_interrupts = w.kept_interrupts }

-- ---- the handlers that items release, before they are named

abbrev attached : Image → List Object → ℕ → Bool → List HandlerOf
attached p objects n true = one_or_none (handler_attached p n objects)
attached p objects n false = []

abbrev by_item : Image → List Object → Item → Flags → List HandlerOf
by_item p objects (item.Interrupt n) f = attached p objects n (not (is_flag f.masked n))
by_item p objects (item.Port n value) f = []
by_item p objects (item.Mask n) f = []
by_item p objects (item.Unmask n) f = attached p objects n (is_flag f.kept_interrupts n)

abbrev by_items : Image → List Object → List Item → Flags → List HandlerOf
by_items p objects [] f = []
by_items p objects (x ∷ xs) f = by_item p objects x f ++ by_items p objects xs (flags_after x f)

one-named : (p : Image) (h : Option HandlerOf) → map (named_handler p) (one_or_none h) ≡ handler_list p h
one-named p None = refl
one-named p (Some h) = refl

attached-named : (p : Image) (w : World) (n : ℕ) (b : Bool) → map (named_handler p) (attached p w.objects n b) ≡ attached_to p w n b
attached-named p w n true = one-named p (handler_attached p n w.objects)
attached-named p w n false = refl

item-named : (p : Image) (w : World) (x : Item) (f : Flags) → map (named_handler p) (by_item p w.objects x f) ≡ due_by_item p w x f
item-named p w (item.Interrupt n) f = attached-named p w n (not (is_flag f.masked n))
item-named p w (item.Port n value) f = refl
item-named p w (item.Mask n) f = refl
item-named p w (item.Unmask n) f = attached-named p w n (is_flag f.kept_interrupts n)

map-append : {X Y : Type 0} (f : X → Y) (xs ys : List X) → map f (xs ++ ys) ≡ map f xs ++ map f ys
map-append f [] ys = refl
map-append f (x ∷ xs) ys = ap (λ zs. f x ∷ zs) (map-append f xs ys)

items-named : (p : Image) (w : World) (xs : List Item) (f : Flags) → map (named_handler p) (by_items p w.objects xs f) ≡ due_by_items p w xs f
items-named p w [] f = refl
items-named p w (x ∷ xs) f =
    map-append (named_handler p) (by_item p w.objects x f) (by_items p w.objects xs (flags_after x f))
    ∙ ap (λ hs. hs ++ map (named_handler p) (by_items p w.objects xs (flags_after x f))) (item-named p w x f)
    ∙ ap (λ hs. due_by_item p w x f ++ hs) (items-named p w xs (flags_after x f))

-- ---- one item

-- everything but the script and its flags, and the flags
pub record OnlyFlags (hs : List HandlerOf) (flags : Flags) (a : World) (said : List Said) (b : World) : Type 0 where
  pub events : EventsStay (sight_of a) (sight_of b)
  pub timers : TimersStay (sight_of a) (sight_of b)
  pub budgets : BudgetsStay (sight_of a) (sight_of b)
  pub clocks : ClocksStay (sight_of a) (sight_of b)
  pub objects : b.objects ≡ a.objects
  pub script : b.script ≡ a.script
  pub flags_then : flags_of b ≡ flags
  pub tells : Tells hs said

released-only : (h : HandlerOf) (w v : World) (xs : List Said) → Released h w xs v → OnlyFlags (h ∷ []) (flags_of w) w xs v
released-only h w v xs r = record {
  events = r.others.events;
  timers = r.others.timers;
  budgets = r.others.budgets;
  clocks = r.others.clocks;
  objects = r.objects;
  script = r.others.outside.same_script;
  flags_then =
      ap (λ m. record { masked = m; kept_interrupts = v.kept_interrupts }) r.others.outside.same_masked
      ∙ ap (λ k. record { masked = w.masked; kept_interrupts = k }) r.others.outside.same_kept;
  tells = r.tells;
}

-- a world of which only flags differ from another
abbrev flagged : World → List Bool → List Bool → World
flagged w masked kept = record w { masked = masked; kept_interrupts = kept }

only-flagged : (w : World) (masked kept : List Bool) (hs : List HandlerOf) (xs : List Said) → Tells hs xs
    → OnlyFlags hs (record { masked = masked; kept_interrupts = kept }) w xs (flagged w masked kept)
only-flagged w masked kept hs xs t = record {
  events = record { same = refl; rises = λ r. r };
  timers = record { same = refl; same_due = refl };
  budgets = record { same = λ k. refl; same_due = refl };
  clocks = record { same_time = refl; low = λ t. le_refl (clock_in w.tasks t) };
  objects = refl;
  script = refl;
  flags_then = refl;
  tells = t;
}

handler-from : (p : Image) (w : World) (handler : Option HandlerOf)
    → From (OnlyFlags (one_or_none handler) (flags_of w)) w (for_some handler (λ h. release p Own h None))
unfolding From Kept
handler-from p w None said = ([], sym (append-nil said), only-flagged w w.masked w.kept_interrupts [] [] tells_none)
handler-from p w (Some h) said =
    kept-weaker (Released h) (OnlyFlags (h ∷ []) (flags_of w)) w said (release p Own h None w said) (λ v xs r. released-only h w v xs r)
    (release-from p h None w said)

-- a line that tells nothing of releases stands before a step
said-before : (R : World → List Said → World → Type 0) (S : World → List Said → World → Type 0) (x : Line) (w v : World) (said : List Said) (d : Done)
    → ((u : World) (xs : List Said) → S v xs u → R w (own x ∷ xs) u) → Kept S v (said ++ own x ∷ []) d → Kept R w said d
unfolding Kept
said-before R S x w v said (done u ys) f k = (own x ∷ k.0, k.1 ∙ append_assoc said (own x ∷ []) k.0, f u k.0 k.2)

-- an interrupt, in a world of which flags have changed
interrupt-from : (p : Image) (n : ℕ) (w : World) (masked kept : List Bool) (said : List Said)
    → Kept (OnlyFlags (one_or_none (handler_attached p n w.objects)) (record { masked = masked; kept_interrupts = kept })) w said
    (interrupt p n (flagged w masked kept) said)
unfolding interrupt From
interrupt-from p n w masked kept said =
    said-before (OnlyFlags (one_or_none (handler_attached p n w.objects)) (record { masked = masked; kept_interrupts = kept }))
    (OnlyFlags (one_or_none (handler_attached p n w.objects)) (record { masked = masked; kept_interrupts = kept })) (line.Interrupt n) w
    (flagged w masked kept) said
    (for_some (handler_attached p n w.objects) (λ h. release p Own h None) (flagged w masked kept) (said ++ own (line.Interrupt n) ∷ []))
    (λ u xs k. record {
      events = record { same = k.events.same; rises = k.events.rises };
      timers = record { same = k.timers.same; same_due = k.timers.same_due };
      budgets = record { same = k.budgets.same; same_due = k.budgets.same_due };
      clocks = record { same_time = k.clocks.same_time; low = k.clocks.low };
      objects = k.objects;
      script = k.script;
      flags_then = k.flags_then;
      tells = λ more. k.tells more;
    })
    (handler-from p (flagged w masked kept) (handler_attached p n w.objects) (said ++ own (line.Interrupt n) ∷ []))

abbrev ItemDone : Image → Item → World → List Said → World → Type 0
ItemDone p x before said after = OnlyFlags (by_item p before.objects x (flags_of before)) (flags_after x (flags_of before)) before said after

-- where an interrupt was not kept, unmasking it changes no flag
unset : (n : ℕ) (flags : List Bool) → slice_index_or flags n false ≡ false → edit_at n (λ _. false) flags ≡ flags
unset n [] e = refl
unset zero (x ∷ xs) e = ap (λ b. b ∷ xs) (sym e)
unset (suc n) (x ∷ xs) e = ap (λ ys. x ∷ ys) (unset n xs e)

come-where : (p : Image) (n : ℕ) (w : World) (said : List Said) (b : Bool) → is_flag w.masked n ≡ b
    → Kept (ItemDone p (item.Interrupt n)) w said (interrupt_comes p n b w said)
unfolding interrupt_comes Kept
come-where p n w said true e = (
  own (line.Masked n) ∷ [],
  refl,
  subst (λ b. OnlyFlags (attached p w.objects n (not b)) (record { masked = w.masked; kept_interrupts = kept_where b n w.kept_interrupts }) w
      (own (line.Masked n) ∷ []) (flagged w w.masked (edit_at n (λ _. true) w.kept_interrupts)))
      (sym e)
      (only-flagged w w.masked (edit_at n (λ _. true) w.kept_interrupts) [] (own (line.Masked n) ∷ []) (λ more. refl)),
)
come-where p n w said false e =
    kept-weaker (OnlyFlags (one_or_none (handler_attached p n w.objects)) (flags_of w)) (ItemDone p (item.Interrupt n)) w said (interrupt p n w said)
    (λ v xs k. subst (λ b. OnlyFlags (attached p w.objects n (not b)) (record { masked = w.masked; kept_interrupts = kept_where b n w.kept_interrupts }) w xs v)
    (sym e) k)
    (interrupt-from p n w w.masked w.kept_interrupts said)

deliver-where : (p : Image) (n : ℕ) (w : World) (masked : List Bool) (said : List Said) (b : Bool) → is_flag w.kept_interrupts n ≡ b
    → Kept (OnlyFlags (attached p w.objects n b) (record { masked = masked; kept_interrupts = edit_at n (λ _. false) w.kept_interrupts })) w said
    (deliver_kept_interrupt p n b (flagged w masked w.kept_interrupts) said)
unfolding deliver_kept_interrupt Kept
deliver-where p n w masked said true e = interrupt-from p n w masked (edit_at n (λ _. false) w.kept_interrupts) said
deliver-where p n w masked said false e = (
  [],
  sym (append-nil said),
  subst (λ kept. OnlyFlags [] (record { masked = masked; kept_interrupts = kept }) w [] (flagged w masked w.kept_interrupts))
      (sym (unset n w.kept_interrupts e)) (only-flagged w masked w.kept_interrupts [] [] tells_none),
)

unmask-done : (p : Image) (n : ℕ) (w : World) (said : List Said) → Kept (ItemDone p (item.Unmask n)) w said (script_item p (item.Unmask n) w said)
unfolding script_item
unmask-done p n w said =
    let masked = edit_at n (λ _. false) w.masked in
    let flags : Flags = record { masked = masked; kept_interrupts = edit_at n (λ _. false) w.kept_interrupts } in
    said-before (ItemDone p (item.Unmask n)) (OnlyFlags (attached p w.objects n (is_flag w.kept_interrupts n)) flags) (line.Unmask n) w w said
    (deliver_kept_interrupt p n (is_flag w.kept_interrupts n) (flagged w masked w.kept_interrupts) (said ++ own (line.Unmask n) ∷ []))
    (λ u xs k. record {
      events = k.events;
      timers = k.timers;
      budgets = k.budgets;
      clocks = k.clocks;
      objects = k.objects;
      script = k.script;
      flags_then = k.flags_then;
      tells = λ more. k.tells more;
    })
    (deliver-where p n w masked (said ++ own (line.Unmask n) ∷ []) (is_flag w.kept_interrupts n) refl)

mask-done : (p : Image) (n : ℕ) (w : World) (said : List Said) → Kept (ItemDone p (item.Mask n)) w said (script_item p (item.Mask n) w said)
unfolding script_item Kept
mask-done p n w said = (
  own (line.Mask n) ∷ [],
  refl,
  only-flagged w (edit_at n (λ _. true) w.masked) w.kept_interrupts [] (own (line.Mask n) ∷ []) (λ more. refl),
)

port-done : (p : Image) (n : ℕ) (value : ℤ) (w : World) (said : List Said)
    → Kept (ItemDone p (item.Port n value)) w said (script_item p (item.Port n value) w said)
unfolding script_item Kept
port-done p n value w said = (
  own (line.Port n value) ∷ [],
  refl,
  record {
    events = record { same = refl; rises = λ r. r };
    timers = record { same = refl; same_due = refl };
    budgets = record { same = λ k. refl; same_due = refl };
    clocks = record { same_time = refl; low = λ t. le_refl (clock_in w.tasks t) };
    objects = refl;
    script = refl;
    flags_then = refl;
    tells = λ more. refl;
  },
)

interrupt-done : (p : Image) (n : ℕ) (w : World) (said : List Said) → Kept (ItemDone p (item.Interrupt n)) w said (script_item p (item.Interrupt n) w said)
unfolding script_item
interrupt-done p n w said = come-where p n w said (is_flag w.masked n) refl

item-done : (p : Image) (x : Item) (w : World) (said : List Said) → Kept (ItemDone p x) w said (script_item p x w said)
item-done p (item.Interrupt n) w said = interrupt-done p n w said
item-done p (item.Port n value) w said = port-done p n value w said
item-done p (item.Mask n) w said = mask-done p n w said
item-done p (item.Unmask n) w said = unmask-done p n w said

-- ---- one after another

pub record ItemsDone (p : Image) (a : World) (said : List Said) (b : World) : Type 0 where
  pub events : EventsStay (sight_of a) (sight_of b)
  pub timers : TimersStay (sight_of a) (sight_of b)
  pub budgets : BudgetsStay (sight_of a) (sight_of b)
  pub clocks : ClocksStay (sight_of a) (sight_of b)
  pub objects : b.objects ≡ a.objects
  pub script : b.script ≡ items_ahead a.time a.script
  pub flags_then : flags_of b ≡ flags_behind (items_come a.time a.script) (flags_of a)
  pub tells : Tells (by_items p a.objects (items_come a.time a.script) (flags_of a)) said

none-come : (p : Image) (w : World) → items_come w.time w.script ≡ [] → items_ahead w.time w.script ≡ w.script → ItemsDone p w [] w
none-come p w none all = record {
  events = events-stay (sight_of w);
  timers = timers-stay (sight_of w);
  budgets = budgets-stay (sight_of w);
  clocks = clocks-stay (sight_of w);
  objects = refl;
  script = sym all;
  flags_then = sym (ap (λ xs. flags_behind xs (flags_of w)) none);
  tells = subst (λ xs. Tells (by_items p w.objects xs (flags_of w)) []) (sym none) tells_none;
}

one-come : (p : Image) (x : ℤ × Item) (rest : List (ℤ × Item)) (w v u : World) (xs ys : List Said) → items_come w.time w.script ≡ x.1 ∷ items_come w.time rest
    → items_ahead w.time w.script ≡ items_ahead w.time rest
    → ItemDone p x.1 (with_script rest w) xs v → ItemsDone p v ys u → ItemsDone p w (xs ++ ys) u
one-come p x rest w v u xs ys come ahead i k =
    let time : v.time ≡ w.time = i.clocks.same_time in
    let same_come : items_come v.time v.script ≡ items_come w.time rest = ap (λ n. items_come n v.script) time ∙ ap (items_come w.time) i.script in
    let same_ahead : items_ahead v.time v.script ≡ items_ahead w.time rest = ap (λ n. items_ahead n v.script) time ∙ ap (items_ahead w.time) i.script in
    let same_flags : flags_of v ≡ flags_after x.1 (flags_of w) = i.flags_then in
    record {
      events = events-then (sight_of w) (sight_of v) (sight_of u) (record { same = i.events.same; rises = i.events.rises }) k.events;
      timers = timers-then (sight_of w) (sight_of v) (sight_of u) (record { same = i.timers.same; same_due = i.timers.same_due }) k.timers;
      budgets = budgets-then (sight_of w) (sight_of v) (sight_of u) (record { same = i.budgets.same; same_due = i.budgets.same_due }) k.budgets;
      clocks = clocks-then (sight_of w) (sight_of v) (sight_of u) (record { same_time = i.clocks.same_time; low = i.clocks.low }) k.clocks;
      objects = k.objects ∙ i.objects;
      script = k.script ∙ same_ahead ∙ sym ahead;
      flags_then =
          k.flags_then ∙ ap (λ zs. flags_behind zs (flags_of v)) same_come ∙ ap (flags_behind (items_come w.time rest)) same_flags
          ∙ sym (ap (λ zs. flags_behind zs (flags_of w)) come);
      tells = subst (λ zs. Tells (by_items p w.objects zs (flags_of w)) (xs ++ ys)) (sym come)
          (tells_both (by_item p w.objects x.1 (flags_of w)) (by_items p w.objects (items_come w.time rest) (flags_after x.1 (flags_of w))) xs ys i.tells
          (subst (λ hs. Tells hs ys)
          (ap (λ os. by_items p os (items_come v.time v.script) (flags_of v)) i.objects ∙ ap (λ zs. by_items p w.objects zs (flags_of v)) same_come
          ∙ ap (by_items p w.objects (items_come w.time rest)) same_flags) k.tells));
    }

module _ (p : Image) where
  nothing-comes : (w : World) → items_come w.time w.script ≡ [] → items_ahead w.time w.script ≡ w.script → From (ItemsDone p) w nothing
  unfolding From Kept
  nothing-comes w none all said = ([], sym (append-nil said), none-come p w none all)

  moved-from : (x : Item) (w v : World) (said : List Said) (d : Done) → Kept (ItemDone p x) v said d
      → Kept (λ before xs after. ItemDone p x v xs after) w said d
  unfolding Kept
  moved-from x w v said (done u ys) k = k

  take-where : (fuel : ℕ) (x : ℤ × Item) (rest : List (ℤ × Item)) (w : World) (b : Bool) → w.script ≡ x ∷ rest → int_le x.0 (pos w.time) ≡ b
      → length rest ≤ fuel
      → ((v : World) → length v.script ≤ fuel → From (ItemsDone p) v (items_due fuel p))
      → From (ItemsDone p) w (elim b as (λ _. Step) [ true ↦ changes (with_script rest) ▷ script_item p x.1 ▷ items_due fuel p | false ↦ nothing ])
  unfolding From
  take-where fuel x rest w true is due most others said =
      let come : items_come w.time w.script ≡ x.1 ∷ items_come w.time rest =
      ap (items_come w.time) is ∙ ap (λ b. cond b (x.1 ∷ items_come w.time rest) []) due in
      let ahead : items_ahead w.time w.script ≡ items_ahead w.time rest =
      ap (items_ahead w.time) is ∙ ap (λ b. cond b (items_ahead w.time rest) (x ∷ rest)) due in
      kept-then (λ before xs after. ItemDone p x.1 (with_script rest w) xs after) (ItemsDone p) (ItemsDone p) (items_due fuel p) w said
      (script_item p x.1 (with_script rest w) said)
      (λ v u xs ys i k. one-come p x rest w v u xs ys come ahead i k)
      (moved-from x.1 w (with_script rest w) said (script_item p x.1 (with_script rest w) said) (item-done p x.1 (with_script rest w) said))
      (λ v xs i. let same : length v.script ≡ length rest = ap length i.script in others v (omega (arith, same, most)))
  take-where fuel x rest w false is due most others said =
      nothing-comes w (ap (items_come w.time) is ∙ ap (λ b. cond b (x.1 ∷ items_come w.time rest) []) due)
      (ap (items_ahead w.time) is ∙ ap (λ b. cond b (items_ahead w.time rest) (x ∷ rest)) due ∙ sym is) said

  take-from : (fuel : ℕ) (script : List (ℤ × Item)) (w : World) → w.script ≡ script → length script ≤ suc fuel
      → ((v : World) → length v.script ≤ fuel → From (ItemsDone p) v (items_due fuel p))
      → From (ItemsDone p) w (take_item p w.time (items_due fuel p) script)
  take-from fuel [] w is most others = nothing-comes w (ap (items_come w.time) is) (ap (items_ahead w.time) is ∙ sym is)
  take-from fuel (x ∷ rest) w is most others = take-where fuel x rest w (int_le x.0 (pos w.time)) is refl (omega (arith, most)) others

  looked : (fuel : ℕ) (w : World) → From (ItemsDone p) w (take_item p w.time (items_due fuel p) w.script) → From (ItemsDone p) w (items_due (suc fuel) p)
  unfolding From items_due
  looked fuel w k said = k said

  empty : (script : List (ℤ × Item)) → length script ≤ 0 → script ≡ []
  empty [] h = refl
  empty (x ∷ xs) h = absurd (omega (arith, h))

  no-fuel : (w : World) → w.script ≡ [] → From (ItemsDone p) w (items_due 0 p)
  unfolding items_due
  no-fuel w is = nothing-comes w (ap (items_come w.time) is) (ap (items_ahead w.time) is ∙ sym is)

  taken : (fuel : ℕ) (w : World) → length w.script ≤ fuel → From (ItemsDone p) w (items_due fuel p)
  taken zero w most = no-fuel w (empty w.script most)
  taken (suc fuel) w most = looked fuel w (take-from fuel w.script w refl most (taken fuel))

-- ---- the whole step, with its lines

pub record ItemsMoved (p : Image) (a : World) (lines : List Event) (b : World) : Type 0 where
  pub events : EventsStay (sight_of a) (sight_of b)
  pub timers : TimersStay (sight_of a) (sight_of b)
  pub budgets : BudgetsStay (sight_of a) (sight_of b)
  pub clocks : ClocksStay (sight_of a) (sight_of b)
  pub script : b.script ≡ items_ahead a.time a.script
  pub flags_then : flags_of b ≡ flags_behind (items_come a.time a.script) (flags_of a)
  pub tells : released lines ≡ due_by_items p a (items_come a.time a.script) (flags_of a)

items-over : (p : Image) (w v : World) (xs : List Said) → ItemsDone p w xs v → ItemsMoved p w (lines_of p xs) (placed_by (lines_of p xs) v)
items-over p w v xs k = record {
  events = record { same = k.events.same; rises = k.events.rises };
  timers = record { same = k.timers.same; same_due = k.timers.same_due };
  budgets = record { same = k.budgets.same; same_due = k.budgets.same_due };
  clocks = record { same_time = k.clocks.same_time; low = k.clocks.low };
  script = k.script;
  flags_then = k.flags_then;
  tells =
      released-lines p (by_items p w.objects (items_come w.time w.script) (flags_of w)) xs k.tells ∙ items-named p w (items_come w.time w.script) (flags_of w);
}

pub items-moved : (p : Image) (w : World) → ItemsMoved p w (script_items p w).1 (script_items p w).0
unfolding From
items-moved p w =
    settled-by (ItemsDone p) (ItemsMoved p) p w (items_due (length w.script) p w []) (λ v xs k. items-over p w v xs k)
    (taken p (length w.script) w (le_refl (length w.script)) [])
