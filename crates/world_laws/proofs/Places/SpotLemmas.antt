-- The entry of somebody in the ready queues, behind lines.
use Rattle.world_laws.proofs.Places.PartOrder.{place-in_order}
use Rattle.world_laws.proofs.Places.Puts.{Spot, last_put, over, place_behind, place_by, puts, spot_in}
use Rattle.profile_machine.specs.Lines.{event_of}
use Rattle.profile_machine.specs.Steps.{in_order, is_above, places_after, places_after_all, put_at, put_at_head, put_at_tail, take_out}
use Rattle.profile_image.specs.Words.{same_who}
use Rattle.profile_image.specs.declared.image.Image.{Image}
use Rattle.profile_machine.specs.declared.world.lines.Line.{Line}
use Rattle.profile_machine.specs.declared.world.lines.Line.TheVariants as line
use Rattle.profile_machine.specs.declared.world.lines.Said.{Said}
use Rattle.profile_machine.specs.declared.world.tasks.Placed.{Placed}
use Rattle.std.proofs.Common.{Bool, List, None, Option, Some, [], ap, cond, false, map, refl, sym, true, ◌∙◌, ◌∷◌, ◌≡◌}
use Rattle.std.specs.Prelude.{not}
use Rattle.trace_text.specs.declared.events.QueueEnd.{QueueEnd}
use Rattle.trace_text.specs.declared.events.QueueEnd.TheVariants.{Head, Tail}
use Rattle.trace_text.specs.declared.events.Who.{Who}
use Rattle.trace_text.specs.declared.events.Who.TheVariants as who
use Rattle.ceiling_laws.proofs.Runs.Kept.Waking.{who-is}
use Rattle.ceiling_laws.proofs.Places.PartOrder.{by_test}

abbrev spot : Placed → Spot
spot x = (x.level, x.deadline)

-- ---- somebody is taken out

out-kept : (n m : Who) (x : Placed) (rest : Option Spot) (xs : List Placed) (b : Bool) → same_who m x.who ≡ b
    → spot_in n (take_out m xs) ≡ cond (same_who n m) None rest
    → spot_in n (cond (not b) (x ∷ take_out m xs) (take_out m xs)) ≡ cond (same_who n m) None (cond (same_who n x.who) (Some (spot x)) rest)
out-kept n m x rest xs true is e =
    by_test (same_who n m)
    (λ same. e ∙ ap (λ b. cond b None rest) same ∙ sym (ap (λ b. cond b None (cond (same_who n x.who) (Some (spot x)) rest)) same))
    (λ apart.
    let other : same_who n x.who ≡ false = ap (same_who n) (sym (who-is m x.who is)) ∙ apart in
    e ∙ ap (λ b. cond b None rest) apart
    ∙ sym (ap (λ b. cond b None (cond (same_who n x.who) (Some (spot x)) rest)) apart ∙ ap (λ b. cond b (Some (spot x)) rest) other))
out-kept n m x rest xs false is e =
    by_test (same_who n m)
    (λ same.
    let other : same_who n x.who ≡ false = ap (λ k. same_who k x.who) (who-is n m same) ∙ is in
    ap (λ b. cond b (Some (spot x)) (spot_in n (take_out m xs))) other ∙ e ∙ ap (λ b. cond b None rest) same
    ∙ sym (ap (λ b. cond b None (cond (same_who n x.who) (Some (spot x)) rest)) same))
    (λ apart. ap (λ r. cond (same_who n x.who) (Some (spot x)) r) (e ∙ ap (λ b. cond b None rest) apart)
    ∙ sym (ap (λ b. cond b None (cond (same_who n x.who) (Some (spot x)) rest)) apart))

none-left : (b : Bool) (r : Option Spot) → r ≡ None → r ≡ cond b None r
none-left true r e = e
none-left false r e = refl

pub spot-out : (n m : Who) (xs : List Placed) → spot_in n (take_out m xs) ≡ cond (same_who n m) None (spot_in n xs)
spot-out n m [] = none-left (same_who n m) (spot_in n []) refl
spot-out n m (x ∷ xs) = out-kept n m x (spot_in n xs) xs (same_who m x.who) refl (spot-out n m xs)

-- ---- somebody who is not in them is placed

-- it stands before or behind another
passed : (n : Who) (new x : Placed) (rest : Option Spot) (xs placed : List Placed) (b : Bool) → spot_in n (x ∷ xs) ≡ rest
    → (spot_in n xs ≡ rest → spot_in n placed ≡ cond (same_who n new.who) (Some (spot new)) rest)
    → (same_who n new.who ≡ true → rest ≡ None) → spot_in n (cond b (new ∷ x ∷ xs) (x ∷ placed)) ≡ cond (same_who n new.who) (Some (spot new)) rest
passed n new x rest xs placed true is onward gone = ap (λ r. cond (same_who n new.who) (Some (spot new)) r) is
passed n new x rest xs placed false is onward gone =
    by_test (same_who n x.who)
    (λ same.
    let found : Some (spot x) ≡ rest = sym (ap (λ b. cond b (Some (spot x)) (spot_in n xs)) same) ∙ is in
    ap (λ b. cond b (Some (spot x)) (spot_in n placed)) same ∙ found ∙ sym (by_test (same_who n new.who)
    (λ own. absurd (let never : Some (spot x) ≡ None = found ∙ gone own in cc))
    (λ other. ap (λ b. cond b (Some (spot new)) rest) other)))
    (λ apart. ap (λ b. cond b (Some (spot x)) (spot_in n placed)) apart ∙ onward (sym (ap (λ b. cond b (Some (spot x)) (spot_in n xs)) apart) ∙ is))

turned : {X : Type 0} (b : Bool) (x y : X) → cond b x y ≡ cond (not b) y x
turned true x y = refl
turned false x y = refl

spot-tail : (n : Who) (new : Placed) (rest : Option Spot) (xs : List Placed) → spot_in n xs ≡ rest → (same_who n new.who ≡ true → rest ≡ None)
    → spot_in n (put_at_tail new xs) ≡ cond (same_who n new.who) (Some (spot new)) rest
spot-tail n new rest [] is gone = ap (λ r. cond (same_who n new.who) (Some (spot new)) r) is
spot-tail n new rest (x ∷ xs) is gone = passed n new x rest xs (put_at_tail new xs) (is_above new x) is (λ e. spot-tail n new rest xs e gone) gone

spot-head : (n : Who) (new : Placed) (rest : Option Spot) (xs : List Placed) → spot_in n xs ≡ rest → (same_who n new.who ≡ true → rest ≡ None)
    → spot_in n (put_at_head new xs) ≡ cond (same_who n new.who) (Some (spot new)) rest
spot-head n new rest [] is gone = ap (λ r. cond (same_who n new.who) (Some (spot new)) r) is
spot-head n new rest (x ∷ xs) is gone =
    ap (spot_in n) (turned (is_above x new) (x ∷ put_at_head new xs) (new ∷ x ∷ xs))
    ∙ passed n new x rest xs (put_at_head new xs) (not (is_above x new)) is (λ e. spot-head n new rest xs e gone) gone

spot-put : (n : Who) (end : QueueEnd) (new : Placed) (rest : Option Spot) (xs : List Placed) → spot_in n xs ≡ rest → (same_who n new.who ≡ true → rest ≡ None)
    → spot_in n (put_at end new xs) ≡ cond (same_who n new.who) (Some (spot new)) rest
spot-put n Tail new rest xs is gone = spot-tail n new rest xs is gone
spot-put n Head new rest xs is gone = spot-head n new rest xs is gone

-- ---- lines

placed_over : (b : Bool) (s : Spot) (r : Option Spot) → cond b (Some s) (cond b None r) ≡ over (cond b (Some (Some s)) None) r
placed_over true s r = refl
placed_over false s r = refl

out_over : (b : Bool) (r : Option Spot) → cond b None r ≡ over (cond b (Some None) None) r
out_over true r = refl
out_over false r = refl

gone_if : (b : Bool) (r : Option Spot) → b ≡ true → cond b None r ≡ None
gone_if true r e = refl
gone_if false r e = absurd cc

spot-ready : (n name : Who) (end : QueueEnd) (new : Placed) (xs : List Placed) → new.who ≡ name
    → spot_in n (put_at end new (take_out name xs)) ≡ over (cond (same_who n name) (Some (Some (spot new))) None) (spot_in n xs)
spot-ready n name end new xs is =
    spot-put n end new (cond (same_who n name) None (spot_in n xs)) (take_out name xs) (spot-out n name xs)
    (λ same. gone_if (same_who n name) (spot_in n xs) (ap (same_who n) (sym is) ∙ same))
    ∙ ap (λ m. cond (same_who n m) (Some (spot new)) (cond (same_who n name) None (spot_in n xs))) is ∙ placed_over (same_who n name) (spot new) (spot_in n xs)

spot-after : (p : Image) (n : Who) (xs : List Placed) (x : Line) → spot_in n (places_after (event_of p x) xs) ≡ over (puts n x) (spot_in n xs)
spot-after p n xs (line.Ready name level end deadline) = spot-ready n name end (record { who = name; level = level; deadline = deadline }) xs refl
spot-after p n xs (line.Block name waits) = spot-out n name xs ∙ out_over (same_who n name) (spot_in n xs)
spot-after p n xs (line.Done t) = spot-out n (who.Task t) xs ∙ out_over (same_who n (who.Task t)) (spot_in n xs)
spot-after p n xs _ = refl

spot-lines : (p : Image) (n : Who) (places : List Placed) (xs : List Said)
    → spot_in n (places_after_all (map (λ x. event_of p x.line) xs) places) ≡ place_behind n (spot_in n places) xs
spot-lines p n places [] = refl
spot-lines p n places (x ∷ xs) = spot-lines p n (places_after (event_of p x.line) places) xs ∙ ap (λ e. place_behind n e xs) (spot-after p n places x.line)

-- the lines of an effect, in order, leave somebody where they place it last
pub spot-in_order : (p : Image) (n : Who) (places : List Placed) (xs : List Said)
    → spot_in n (places_after_all (map (λ x. event_of p x.line) (in_order xs)) places) ≡ place_by (last_put n xs) (spot_in n places)
spot-in_order p n places xs = spot-lines p n places (in_order xs) ∙ place-in_order n (spot_in n places) xs
