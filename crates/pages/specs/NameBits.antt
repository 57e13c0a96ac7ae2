-- A set of names has one bit for each of the 32 names. A program keeps it in a u32, so no program can hold a set that breaks
-- this: only these definitions can, to which the bits of a set are any number. What is said of writing a page assumes it,
-- since a page tells of the 32 names alone. What is said of reading one does not. Assumes nothing.
use Rattle.std.specs.Prelude.{◌<◌, ◌^◌}
use Rattle.std.specs.List.{AllByRecursion}
use Rattle.joined.specs.declared.Either.TheVariants.{Left, Right}
use Rattle.house.specs.House.{Value, Cell}
use Rattle.items.specs.declared.Entry.{Entry}
use Rattle.items.specs.declared.Entry.TheVariants.{Any, Cell as CellE}
use Rattle.results.specs.declared.figure.Figure.{Figure}
use Rattle.tables.specs.Contents.{Contents}

-- a cell that, if it is a set of names, has no bit beyond them
abbrev pub OnlyNames : Cell → Type 0
OnlyNames (Left b) = Unit {0}
OnlyNames (Right (Left s)) = s.bits < 2 ^ 32
OnlyNames (Right (Right w)) = Unit {0}

-- an entry with such a cell, or with none
abbrev pub EntryOnlyNames : Entry Cell → Type 0
EntryOnlyNames Any = Unit {0}
EntryOnlyNames (CellE x) = OnlyNames x

-- contents whose entries are all so
pub record NoBitBeyond (c : Contents Value Cell Figure) : Type 0 where
  pub columns : AllByRecursion (λ k. AllByRecursion EntryOnlyNames k.entries) c.columns
  pub nevers : AllByRecursion (λ es. AllByRecursion EntryOnlyNames es) c.nevers
