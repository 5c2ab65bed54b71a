-- The laws of a reply.
pub mod Laws
pub mod AsLists
