pub mod Bodies
pub use Rattle.es_response.specs.Reply
