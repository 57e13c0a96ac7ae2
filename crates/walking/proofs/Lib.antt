pub mod Joint
pub mod Walking
