-- Two flights with what they share. Assumes nothing.
use Rattle.std.specs.Prelude.{Bool, ◌&&◌}
use Rattle.fixes.specs.declared.fix.Flights.{Flights}
use Rattle.fixes.specs.Limits.{fix_in_limits, passing_in_limits}

-- each flight, and what they share
abbrev pub flights_in_limits : Flights → Bool
flights_in_limits f = fix_in_limits f.a && (fix_in_limits f.b && passing_in_limits f.passing)

-- A for B and B for A
abbrev pub flights_exchanged : Flights → Flights
flights_exchanged f = record { a = f.b; b = f.a; passing = f.passing }
