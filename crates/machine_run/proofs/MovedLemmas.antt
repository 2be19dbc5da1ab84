-- Parts of an instant, one after the other.
use Rattle.std.proofs.Common.{◌++◌, List, Result, Ok, Err, OnOk, ap, ◌∙◌, append_assoc}
use Rattle.profile_image.specs.declared.image.Image.{Image}
use Rattle.profile_machine.specs.declared.world.lines.Line.{Line}
use Rattle.profile_machine.specs.Steps.{Move, ◌▶◌}
use Rattle.machine_frames.specs.declared.effects.Effect.{Effect}
use Rattle.machine_dispatching.specs.Settling.{written}
use Rattle.machine_expiries.specs.Moved.{Moved}

pub one_more : (p : Image) (f g : Move) (a b c : Effect) (la lb lc : List Line) → Moved p f a la b lb → Moved p g b lb c lc → Moved p (f ▶ g) a la c lc
one_more p f g a b c la lb lc m n = record {
  world = n.world ∙ ap (λ w. (g w).0) m.world;
  lines =
      n.lines ∙ ap (λ w. written p lb ++ (g w).1) m.world ∙ ap (λ xs. xs ++ (g (f a.world).0).1) m.lines
      ∙ append_assoc (written p la) (f a.world).1 (g (f a.world).0).1;
  in_order = n.in_order;
}

-- what follows from the last part
pub and_so : {X E : Type 0} {P Q : Type 0} (r : Result X E) → (P → Q) → OnOk r P → OnOk r Q
and_so (Ok x) f p = f p
and_so (Err e) f p = tt
