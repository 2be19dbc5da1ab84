use Rattle.std.proofs.Common.{◌≡◌, List, [], ◌∷◌, ◌++◌, Some, ap, ◌∙◌, append_assoc}
use Rattle.std.proofs.lemmas.List.{map-append}
use Rattle.world_tables.specs.Lists.{first_of, rest_of}
use Rattle.profile_image.specs.declared.image.Image.{Image}
use Rattle.profile_machine.specs.declared.world.lines.Line.{Line}
use Rattle.profile_machine.specs.declared.world.lines.Said.{Said}
use Rattle.profile_machine.specs.declared.world.tasks.Placed.{Placed}
use Rattle.profile_machine.specs.Lines.{event_of}
use Rattle.profile_machine.specs.Steps.{places_after, places_after_all}
use Rattle.machine_dispatching.specs.Settling.{written, said_as}
use Rattle.machine_dispatching.proofs.settling.follow.Goals as goal

-- a list by its head and the rest
headed : (xs rest : List Said) (x : Said) → Some x ≡ first_of xs → rest ≡ rest_of xs → x ∷ rest ≡ xs
headed [] rest x e r = cc
headed (y ∷ ys) rest x e r = cc

followed : (p : Image) (xs rest : List Said) (x : Said) (before after : List Placed) → x ∷ rest ≡ xs → after ≡ places_after (event_of p x.line) before
    → places_after_all (said_as p rest) after ≡ places_after_all (said_as p xs) before
followed p xs rest x before after e a = ap (places_after_all (said_as p rest)) a ∙ ap (λ ys. places_after_all (said_as p ys) before) e

owed : (p : Image) (xs rest : List Said) (x : Said) (before after : List Line) → x ∷ rest ≡ xs → after ≡ before ++ x.line ∷ []
    → written p after ++ said_as p rest ≡ written p before ++ said_as p xs
owed p xs rest x before after e a =
    ap (λ ls. written p ls ++ said_as p rest) a
    ∙ (ap (λ es. es ++ said_as p rest) (map-append (event_of p) before (x.line ∷ []))
    ∙ (append_assoc (written p before) _ _ ∙ ap (λ ys. written p before ++ said_as p ys) e))

pub loop-said-preserved : goal.loop-said-preserved
loop-said-preserved c =
    let e = headed c.loop-said.ordered c.pop_front.new.self c.in-Some.said c.in-Some.ensures.value c.in-Some.ensures.rest in
    record {
      places =
          λ p.
          followed p c.loop-said.ordered c.pop_front.new.self c.in-Some.said c.loop-said.places c.places_after.new.places e (c.in_ok-places_after.ensures p)
          ∙ c.loop-said.invariant.places p;
      lines =
          λ p. owed p c.loop-said.ordered c.pop_front.new.self c.in-Some.said c.loop-said.lines c.push_back.new.self e c.in_ok-push_back.ensures.ok
          ∙ c.loop-said.invariant.lines p;
    }
