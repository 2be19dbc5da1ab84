pub mod CellRuns
