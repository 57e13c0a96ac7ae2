pub mod Tracks
pub mod Places
pub mod TracksKindLemmas
