pub mod Limits
pub mod Flights
