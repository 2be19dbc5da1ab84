pub mod LiteralValues
