-- Periods: two whole numbers of minutes from -600 to 600, the first not above the second. Assumes nothing.
use Rattle.std.specs.Prelude.{◌&&◌, pos, negsuc, int_le}
use Rattle.results.specs.Results.{Results, same_number}
use Rattle.results.specs.declared.period.Period.{Period}

abbrev pub periods : Results Period
periods = record {
  lawful = λ x. int_le (negsuc 599) x.from && (int_le x.from x.to && int_le x.to (pos 600));
  same = λ x y. same_number x.from y.from && same_number x.to y.to;
}
