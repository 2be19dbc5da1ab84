-- The test of the protocol says what it is.
use Rattle.std.proofs.Common.{◌≡◌, true, ◌&&◌, List, []}
use Rattle.std.specs.Prelude.{◌↔◌, IsTrue}
use Rattle.std.proofs.lemmas.Bool.{and_parts}
use Rattle.trace_text.specs.Laws.{actions_after, follows_ceilings, follows_dispatch, follows_exclusion}
use Rattle.trace_text.specs.Laws.{follows_order, is_below_ceiling, is_exclusive, no_levels, see_levels}
use Rattle.trace_text.specs.Queue.{TraceLine, RisesFrom}
use Rattle.trace_text.proofs.LawsFollowed.{tells_dispatch, tells_lines, tells_ticks, ticks_rise}
use Rattle.blocking_laws.specs.MovingLaws.{HoldersStandLowOk, HoldersStandOk, KeepsProtocol, MovedOk, chooses_last}
use Rattle.blocking_laws.specs.MovingLaws.{enters_first, follows_holders, follows_low_holders, follows_moves, follows_protocol}
use Rattle.blocking_laws.specs.MovingLaws.{holders_stand, holders_stand_low, is_moved_rightly, moving_after, nothing_moving}

pub moves_told : (lines : List TraceLine) → IsTrue (follows_moves lines) ↔ MovedOk lines
moves_told lines = tells_lines moving_after is_moved_rightly nothing_moving lines

pub holders_told : (lines : List TraceLine) → RisesFrom 0 lines → IsTrue (follows_holders lines) ↔ HoldersStandOk lines
holders_told = tells_ticks moving_after holders_stand (λ moving. IsTrue (holders_stand moving)) nothing_moving (λ moving e. e) (λ moving e. e)

pub low_told : (lines : List TraceLine) → RisesFrom 0 lines → IsTrue (follows_low_holders lines) ↔ HoldersStandLowOk lines
low_told = tells_ticks moving_after holders_stand_low (λ moving. IsTrue (holders_stand_low moving)) nothing_moving (λ moving e. e) (λ moving e. e)

pub protocol_told : (lines : List TraceLine) → follows_protocol lines ≡ true → KeepsProtocol lines
protocol_told lines e =
    let a =
    and_parts (follows_order 0 lines && follows_dispatch lines && follows_ceilings lines && follows_exclusion lines && follows_moves lines
    && follows_holders lines && chooses_last lines && follows_low_holders lines)
    (enters_first lines) e in
    let z =
    and_parts (follows_order 0 lines && follows_dispatch lines && follows_ceilings lines && follows_exclusion lines && follows_moves lines
    && follows_holders lines && chooses_last lines)
    (follows_low_holders lines) a.0 in
    let b =
    and_parts
    (follows_order 0 lines && follows_dispatch lines && follows_ceilings lines && follows_exclusion lines && follows_moves lines && follows_holders lines)
    (chooses_last lines) z.0 in
    let c =
    and_parts (follows_order 0 lines && follows_dispatch lines && follows_ceilings lines && follows_exclusion lines && follows_moves lines)
    (follows_holders lines) b.0 in
    let d = and_parts (follows_order 0 lines && follows_dispatch lines && follows_ceilings lines && follows_exclusion lines) (follows_moves lines) c.0 in
    let f = and_parts (follows_order 0 lines && follows_dispatch lines && follows_ceilings lines) (follows_exclusion lines) d.0 in
    let g = and_parts (follows_order 0 lines && follows_dispatch lines) (follows_ceilings lines) f.0 in
    let i = and_parts (follows_order 0 lines) (follows_dispatch lines) g.0 in
    let rises = ticks_rise 0 lines i.0 in
    record {
      rises = rises;
      dispatch = (tells_dispatch lines rises).0 i.1;
      ceilings = (tells_lines see_levels is_below_ceiling no_levels lines).0 g.1;
      exclusion = (tells_lines actions_after is_exclusive [] lines).0 f.1;
      choice = b.1;
      moves = record {
        moved = (moves_told lines).0 d.1;
        holders = (holders_told lines rises).0 c.1;
        low = (low_told lines rises).0 z.1;
        first = a.1;
      };
    }
