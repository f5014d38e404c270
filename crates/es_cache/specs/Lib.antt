pub mod Cache
pub mod Entries
pub mod Publishing
pub mod KeyTests
pub mod Lending
