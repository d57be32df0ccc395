pub mod Bytes
pub mod Lexemes
pub mod Behind
pub mod Limits
pub mod Reserved
pub mod Tokens
pub mod Cutting
