pub mod Flags
pub mod PrefixStructs
