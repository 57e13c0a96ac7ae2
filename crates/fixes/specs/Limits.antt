-- The limits of fixes and times, and when flights are separated. Assumes nothing.
use Rattle.std.specs.Prelude.{Bool, ◌&&◌, ℤ, pos, negsuc}
use Rattle.std.specs.Int.Signed.{le_z}
use Rattle.fixes.specs.declared.fix.Fix.{Fix}
use Rattle.fixes.specs.declared.fix.Passing.{Passing}
use Rattle.fixes.specs.declared.verdict.Verdict.{Verdict}
use Rattle.tables.specs.Margins.{separated}

-- from one number to another, both included
abbrev pub between : ℤ → ℤ → ℤ → Bool
between least x greatest = le_z least x && le_z x greatest

-- levels 0 to 660 in hundreds of feet, positions -100,000 to 100,000 in tenths of a mile, times 0 to 172,799 in seconds
abbrev pub fix_in_limits : Fix → Bool
fix_in_limits f = between (pos 0) f.level (pos 660) && (between (negsuc 99999) f.lateral (pos 100000) && between (pos 0) f.time (pos 172799))

abbrev pub passing_in_limits : Passing → Bool
passing_in_limits p = between (pos 0) p.time (pos 172799) && between (pos 0) p.t (pos 172799)

-- one kept minimum separates
abbrev pub is_separated : Verdict → Bool
is_separated v = separated v.vertical v.lateral v.longitudinal
