-- What each path's step reads.
pub mod Unread
