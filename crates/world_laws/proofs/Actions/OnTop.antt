-- What is seen of the marks of somebody in a protected action: the nature of that action, on top.
use Rattle.std.proofs.Common.{ap}
use Rattle.line_laws.proofs.Exits.Steady.{Sight}
use Rattle.world_laws.proofs.Actions.Natures.{Nature, natures, nature}
use Rattle.world_laws.proofs.Actions.SoundActions.{top_nature}
use Rattle.world_laws.proofs.Actions.Kept.CallEnds.{depth-natures, abortable-nature}
use Rattle.world_laws.proofs.Actions.Kept.Protected.{protected-nature}
use Rattle.world_laws.proofs.Actions.GoodMoves.{first-natures}

abbrev pub nature_on_top : Sight Nature Nature
nature_on_top = record {
  nature = nature;
  seen = λ fs. top_nature (natures fs);
  first = λ f fs same. ap top_nature (first-natures f fs same);
  depth = λ depth f fs same. ap top_nature (depth-natures depth f fs same);
  abortable = abortable-nature;
  protected = protected-nature;
}
