use Rattle.std.proofs.Common.{◌≡◌, drop}
use Rattle.profile_machine.specs.Statements.{text_of_pieces}
use Rattle.machine_statements.specs.Texts.{text_behind}
use Rattle.machine_statements.proofs.texts.text_of_pieces.Given as goal

-- the pieces that are left, behind the text so far, give what all of them give
abbrev pub invariant-loop-piece : goal.invariant-loop-piece
invariant-loop-piece l = text_behind l.text (text_of_pieces l.q (drop l.piece-index l.pieces)) ≡ text_of_pieces l.q l.pieces
