pub mod MemoryState
pub mod Files
pub mod Memory
