-- What memory for a sheet and for an encounter holds. Assumes nothing.
use Rattle.std.specs.Prelude.{replicate}
use Rattle.items.specs.declared.Scope.TheVariants.{Pair as PairScope}
use Rattle.items.specs.declared.Mode.TheVariants.{Pair as PairMode}
use Rattle.items.specs.declared.Entry.TheVariants.{Any}
use Rattle.tables.specs.Contents.{Encounter}
use Rattle.tables.specs.Storage.{Lists}
use Rattle.memory.specs.declared.encounter.EncounterMemory.{EncounterMemory}
use Rattle.memory.specs.declared.sheet.SheetMemory.{SheetMemory}

module _ {K R V C : Type 0} where
  abbrev pub kept : SheetMemory K R V C → Lists V C R
  kept m = record { quantities = m.quantities; rows = m.rows; entries = m.entries; results = m.results }

module _ {V : Type 0} where
  abbrev pub values : EncounterMemory V → Encounter V
  values m = record { a = m.a; b = m.b; pair = m.pair }

  -- lists of right length that hold no sheet yet
  abbrev pub blank_lists : {C R : Type 0} → V → R → Lists V C R
  blank_lists v x = record {
    quantities = replicate 16 (record { scope = PairScope; least = v; greatest = v });
    rows = replicate 16 (record { quantity = 0; mode = PairMode });
    entries = replicate 384 Any;
    results = replicate 17 x;
  }

  -- an encounter of one value everywhere
  abbrev pub blank_encounter : V → Encounter V
  blank_encounter v = record { a = replicate 16 v; b = replicate 16 v; pair = replicate 16 v }
