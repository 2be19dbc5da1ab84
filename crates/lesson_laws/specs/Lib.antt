pub mod RefusedSources
pub mod LeastSource
pub mod TaskSource
pub mod ProtectedSource
pub mod RendezvousSource
pub mod AbortSource
pub mod HelloSource
