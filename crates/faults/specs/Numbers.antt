-- The number of each refusal. Assumes nothing.
use Rattle.std.specs.Prelude.{ℕ}
use Rattle.faults.specs.declared.KindFault.{KindFault}
use Rattle.faults.specs.declared.KindFault.TheVariants.{Range, Cell}
use Rattle.faults.specs.declared.LookupFault.{LookupFault}
use Rattle.faults.specs.declared.LookupFault.TheVariants.{OutOfRange, Barred, Gap, Clash}
use Rattle.faults.specs.declared.SheetFault.{SheetFault}
use Rattle.faults.specs.declared.SheetFault.TheVariants.{Lists, TooManyQuantities, Kind, TooManyRows, NoSuchQuantity, WrongMode, TooManyColumns, TooManyNevers, UnlawfulResult, NoSuchPlace, NothingToStrike, EncounterLists, TooManyEncounters, AllBarred, Gap as ShownGap, Clash as ShownClash, Asymmetry, Lookup}

abbrev pub kind_number : KindFault → ℕ
kind_number Range = 3
kind_number Cell = 11

abbrev pub lookup_number : LookupFault → ℕ
lookup_number (OutOfRange s q) = 19
lookup_number Barred = 20
lookup_number Gap = 21
lookup_number Clash = 22

abbrev pub sheet_number : SheetFault → ℕ
sheet_number Lists = 1
sheet_number TooManyQuantities = 2
sheet_number (Kind f) = kind_number f
sheet_number TooManyRows = 4
sheet_number NoSuchQuantity = 5
sheet_number WrongMode = 6
sheet_number TooManyColumns = 7
sheet_number TooManyNevers = 8
sheet_number UnlawfulResult = 9
sheet_number NoSuchPlace = 10
sheet_number NothingToStrike = 12
sheet_number EncounterLists = 13
sheet_number TooManyEncounters = 14
sheet_number AllBarred = 15
sheet_number ShownGap = 16
sheet_number (ShownClash i j) = 17
sheet_number Asymmetry = 18
sheet_number (Lookup f) = lookup_number f
