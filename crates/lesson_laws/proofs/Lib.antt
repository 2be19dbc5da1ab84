mod FrontEnd
mod Trees
mod FromFolds
pub mod NotRead
pub mod Unknown
pub mod Twice
pub mod Ambiguous
pub mod NotATask
pub mod LeastSource
pub mod TaskSource
pub mod ProtectedSource
pub mod RendezvousSource
pub mod AbortSource
pub mod HelloSource
