pub mod Lettering
pub mod Probed
pub mod Exchanged
pub mod InRun
