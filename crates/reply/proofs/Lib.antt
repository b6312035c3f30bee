-- What a writer's contract gives for a reply.
pub mod Laws
