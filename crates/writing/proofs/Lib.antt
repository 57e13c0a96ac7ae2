pub mod LinesOn
pub mod OneByOne
pub mod Asked
