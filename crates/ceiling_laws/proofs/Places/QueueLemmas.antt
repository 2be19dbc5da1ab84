-- At which level a queue shows somebody behind the lines of an effect.
use Rattle.std.proofs.Common.{◌≡◌, Bool, true, false, cond, eqb-true, List, [], ◌∷◌, ◌++◌, Option, Some, None, map, refl, sym, ap, ◌∙◌}
use Rattle.std.specs.Prelude.{if◌then◌else◌, unwrap_or}
use Rattle.trace_text.specs.declared.events.Entry.{Entry}
use Rattle.trace_text.specs.declared.events.QueueEnd.{QueueEnd}
use Rattle.trace_text.specs.declared.events.QueueEnd.TheVariants.{Head, Tail}
use Rattle.trace_text.specs.declared.events.Who.{Who}
use Rattle.trace_text.specs.declared.events.Who.TheVariants as who
use Rattle.trace_text.specs.Queue.{entry_of, placed, queue_after, who_eq, without}
use Rattle.trace_text.specs.Laws.{Levels, see_levels}
use Rattle.profile_image.specs.declared.image.Image.{Image}
use Rattle.profile_machine.specs.declared.world.lines.Line.{Line}
use Rattle.profile_machine.specs.declared.world.lines.Line.TheVariants as line
use Rattle.profile_machine.specs.declared.world.lines.Said.{Said}
use Rattle.profile_machine.specs.Lines.{event_of}
use Rattle.profile_machine.specs.Steps.{in_order}
use Rattle.profile_image.specs.Words.{same_who}
use Rattle.ceiling_laws.specs.RunLaws.{levels_told}
use Rattle.ceiling_laws.proofs.Places.PartOrder.{place-in_order}
use Rattle.ceiling_laws.specs.PlaceLaws.{EffectsPlaceByTheLast, level_in, level_shown}
use Rattle.ceiling_laws.specs.Puts.{place_behind, puts}

-- ---- the same names

eq-same : (a b : Who) → who_eq a b ≡ same_who a b
eq-same (who.Task a) (who.Task b) = refl
eq-same (who.Task a) who.Agent = refl
eq-same who.Agent (who.Task b) = refl
eq-same who.Agent who.Agent = refl

pub whose-name : (a b : Who) → who_eq a b ≡ true → a ≡ b
whose-name (who.Task a) (who.Task b) e = ap (λ n. who.Task (record { 0 = n })) (eqb-true a.0 b.0 e)
whose-name (who.Task a) who.Agent e = absurd cc
whose-name who.Agent (who.Task b) e = absurd cc
whose-name who.Agent who.Agent e = refl

-- ---- who is taken out, and who is placed

out-same : (a b : Bool) (x : Entry) (r q : Option Entry) → (a ≡ false → b ≡ false) → r ≡ cond a None q → r ≡ cond a None (if b then Some x else q)
out-same true b x r q f e = e
out-same false true x r q f e = absurd (let never : true ≡ false = f refl in cc)
out-same false false x r q f e = e

out-other : (a b : Bool) (x : Entry) (r q : Option Entry) → (a ≡ true → b ≡ false) → r ≡ cond a None q
    → (if b then Some x else r) ≡ cond a None (if b then Some x else q)
out-other true true x r q f e = absurd (let never : true ≡ false = f refl in cc)
out-other true false x r q f e = e
out-other false true x r q f e = refl
out-other false false x r q f e = e

out-step : (n m : Who) (x : Entry) (queue rest : List Entry) (b : Bool) → who_eq m x.who ≡ b → entry_of n rest ≡ cond (who_eq n m) None (entry_of n queue)
    → entry_of n (if b then rest else x ∷ rest) ≡ cond (who_eq n m) None (entry_of n (x ∷ queue))
out-step n m x queue rest true is e =
    out-same (who_eq n m) (who_eq n x.who) x (entry_of n rest) (entry_of n queue) (λ f. ap (who_eq n) (sym (whose-name m x.who is)) ∙ f) e
out-step n m x queue rest false is e =
    out-other (who_eq n m) (who_eq n x.who) x (entry_of n rest) (entry_of n queue) (λ t. ap (λ k. who_eq k x.who) (whose-name n m t) ∙ is) e

none-left : (b : Bool) (r : Option Entry) → r ≡ None → r ≡ cond b None r
none-left true r e = e
none-left false r e = refl

entry-without : (n m : Who) (queue : List Entry) → entry_of n (without m queue) ≡ cond (who_eq n m) None (entry_of n queue)
entry-without n m [] = none-left (who_eq n m) (entry_of n []) refl
entry-without n m (x ∷ queue) = out-step n m x queue (without m queue) (who_eq m x.who) refl (entry-without n m queue)

abbrev otherwise : Option Entry → Option Entry → Option Entry
otherwise None second = second
otherwise (Some first) second = Some first

first-step : (b : Bool) (x : Entry) (r second : Option Entry) → (if b then Some x else otherwise r second) ≡ otherwise (if b then Some x else r) second
first-step true x r second = refl
first-step false x r second = refl

entry-append : (n : Who) (queue : List Entry) (e : Entry)
    → entry_of n (queue ++ e ∷ []) ≡ otherwise (entry_of n queue) (if who_eq n e.who then Some e else None)
entry-append n [] e = refl
entry-append n (x ∷ queue) e =
    ap (λ r. if who_eq n x.who then Some x else r) (entry-append n queue e)
    ∙ first-step (who_eq n x.who) x (entry_of n queue) (if who_eq n e.who then Some e else None)

at-head : (b : Bool) (e : Entry) (r : Option Entry) → (if b then Some e else cond b None r) ≡ cond b (Some e) r
at-head true e r = refl
at-head false e r = refl

at-tail : (b : Bool) (e : Entry) (r : Option Entry) → otherwise (cond b None r) (if b then Some e else None) ≡ cond b (Some e) r
at-tail true e r = refl
at-tail false e None = refl
at-tail false e (Some r) = refl

entry-placed : (n : Who) (end : QueueEnd) (e : Entry) (queue : List Entry) → entry_of n (placed end e queue) ≡ cond (who_eq n e.who) (Some e) (entry_of n queue)
entry-placed n Head e queue = ap (λ r. if who_eq n e.who then Some e else r) (entry-without n e.who queue) ∙ at-head (who_eq n e.who) e (entry_of n queue)
entry-placed n Tail e queue =
    entry-append n (without e.who queue) e ∙ ap (λ r. otherwise r (if who_eq n e.who then Some e else None)) (entry-without n e.who queue)
    ∙ at-tail (who_eq n e.who) e (entry_of n queue)

-- ---- lines

level-placed : (b : Bool) (e : Entry) (r : Option Entry) → level_in (cond b (Some e) r) ≡ unwrap_or (cond b (Some (Some e.level)) None) (level_in r)
level-placed true e r = refl
level-placed false e r = refl

level-out : (b : Bool) (r : Option Entry) → level_in (cond b None r) ≡ unwrap_or (cond b (Some None) None) (level_in r)
level-out true r = refl
level-out false r = refl

out-after : (n m : Who) (queue : List Entry)
    → level_in (entry_of n (without m queue)) ≡ unwrap_or (cond (same_who n m) (Some None) None) (level_in (entry_of n queue))
out-after n m queue =
    ap level_in (entry-without n m queue) ∙ level-out (who_eq n m) (entry_of n queue)
    ∙ ap (λ b. unwrap_or (cond b (Some None) None) (level_in (entry_of n queue))) (eq-same n m)

placed-after : (n : Who) (end : QueueEnd) (e : Entry) (queue : List Entry)
    → level_in (entry_of n (placed end e queue)) ≡ unwrap_or (cond (same_who n e.who) (Some (Some e.level)) None) (level_in (entry_of n queue))
placed-after n end e queue =
    ap level_in (entry-placed n end e queue) ∙ level-placed (who_eq n e.who) e (entry_of n queue)
    ∙ ap (λ b. unwrap_or (cond b (Some (Some e.level)) None) (level_in (entry_of n queue))) (eq-same n e.who)

level-after : (p : Image) (n : Who) (queue : List Entry) (x : Line)
    → level_in (entry_of n (queue_after queue (event_of p x))) ≡ unwrap_or (puts n x) (level_in (entry_of n queue))
level-after p n queue (line.Ready name level end deadline) = placed-after n end (record { who = name; level = level; deadline = deadline }) queue
level-after p n queue (line.Block name waits) = out-after n name queue
level-after p n queue (line.Done t) = out-after n (who.Task t) queue
level-after p n queue _ = refl

levels-placed : (p : Image) (n : Who) (sight : Levels) (xs : List Said)
    → level_shown n (levels_told sight (map (λ x. event_of p x.line) xs)) ≡ place_behind n (level_shown n sight) xs
levels-placed p n sight [] = refl
levels-placed p n sight (x ∷ xs) =
    levels-placed p n (see_levels sight (event_of p x.line)) xs ∙ ap (λ e. place_behind n e xs) (level-after p n sight.entries x.line)

pub effects_place_by_the_last : EffectsPlaceByTheLast
effects_place_by_the_last p w said sight name = levels-placed p name sight (in_order said) ∙ place-in_order name (level_shown name sight) said
