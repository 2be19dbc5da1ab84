mod BodiesNamed
mod PassingCells
mod JudgedFrom
mod Ordering
