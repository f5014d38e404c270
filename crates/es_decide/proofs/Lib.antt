pub mod Consequences
