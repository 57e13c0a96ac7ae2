-- Figures: whole numbers from -1,000,000 to 1,000,000. Assumes nothing.
use Rattle.std.specs.Prelude.{◌&&◌, pos, negsuc, int_le}
use Rattle.results.specs.Results.{Results, same_number}
use Rattle.results.specs.declared.figure.Figure.{Figure}

abbrev pub figures : Results Figure
figures = record {
  lawful = λ x. int_le (negsuc 999999) x.value && int_le x.value (pos 1000000);
  same = λ x y. same_number x.value y.value;
}
