pub mod ProtectedParts
