-- The refusals of a probe. Assumes nothing.
use Rattle.std.specs.Prelude.{ℕ, List, ◌++◌, codes, decimal, Ok, Err, Result}
use Rattle.faults.specs.Numbers.{sheet_number}
use Rattle.faults.specs.declared.SheetFault.{SheetFault}
use Rattle.probe.specs.declared.fault.Letter.{Letter}
use Rattle.probe.specs.declared.fault.Letter.TheVariants.{V, L, G, N}
use Rattle.probe.specs.declared.fault.Lettered.{Lettered}
use Rattle.probe.specs.declared.fault.ProbeFault.{ProbeFault}
use Rattle.probe.specs.declared.fault.ProbeFault.TheVariants.{Limits, Sheet}

-- a letter as it is printed
abbrev pub letter_text : Letter → List ℕ
letter_text V = codes "V"
letter_text L = codes "L"
letter_text G = codes "G"
letter_text N = codes "N"

abbrev pub probe_number : ProbeFault → ℕ
probe_number Limits = 23
probe_number (Sheet k f) = sheet_number f

-- a refusal as it is printed
abbrev pub fault_text : ProbeFault → List ℕ
fault_text Limits = codes "refused 23"
fault_text (Sheet k f) = codes "refused " ++ decimal (sheet_number f) ++ codes " by " ++ letter_text k

-- a refusal comes up whole, with the sheet's letter
abbrev pub lettered : {R : Type 0} → Letter → Result R SheetFault → Result R Lettered
lettered k (Ok x) = Ok x
lettered k (Err f) = Err (record { letter = k; fault = f })

abbrev pub raised : {R : Type 0} → Result R Lettered → Result R ProbeFault
raised (Ok x) = Ok x
raised (Err f) = Err (Sheet f.letter f.fault)
