pub mod TaskEdits
pub mod OpenCounts
pub mod Steady
pub mod FreeActs
pub mod ExitTies
pub mod ExitMoves
pub mod ExitRuns
pub mod AwakeRuns
