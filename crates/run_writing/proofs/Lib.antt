pub mod LaterFaults
pub mod PrintableLines
pub mod TalliedLines
