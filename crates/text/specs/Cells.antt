-- Cells on a page. Assumes nothing.
use Rattle.std.specs.Prelude.{ℕ, ◌+◌, ◌-◌, ◌^◌, Bool, true, false, cond, ◌&&◌, List, [], ◌∷◌, length, ℤ, Some, None, codes, Option, ◌==◌, nat_le, nat_lt, slice_index}
use Rattle.std.specs.Str.{bytes_eq}
use Rattle.std.specs.List.{between}
use Rattle.joined.specs.declared.Either.TheVariants.{Left, Right}
use Rattle.house.specs.House.{Cell}
use Rattle.items.specs.declared.Entry.{Entry}
use Rattle.items.specs.declared.Entry.TheVariants.{Any, Cell as CellE}
use Rattle.text.specs.Fields.{up_to, parted}
use Rattle.text.specs.Numbers.{number, measure, time}

-- a band of measures, a set of names or a window of minutes, as a cell of the house
abbrev pub band_cell : Bool → ℤ → ℤ → Cell
band_cell inside lo hi = Left (record { lo = lo; hi = hi; inside = inside })

abbrev pub names_cell : ℕ → Cell
names_cell bits = Right (Left (record { bits = bits }))

abbrev pub window_cell : ℕ → ℕ → Cell
window_cell start end = Right (Right (record { start = start; end = end }))

-- what a value that is there gives
abbrev pub chain : {X Y : Type 0} → Option X → (X → Option Y) → Option Y
chain (Some x) next = next x
chain None next = None

-- what two values that are there give
abbrev pub both : {X Y : Type 0} → Option X → Option X → (X → X → Y) → Option Y
both a b f = chain a (λ x. chain b (λ y. Some (f x y)))

-- where two dots stand, the first dots of a text
abbrev pub dots : List ℕ → Option ℕ
dots bs = cond (slice_index bs (up_to 46 bs + 1) == 46) (Some (up_to 46 bs)) None

-- `0..280`: two measures, with two dots between
abbrev pub band : Bool → List ℕ → Option Cell
band inside bs = chain (dots bs) (λ dot. both (measure (between 0 dot bs)) (measure (between (dot + 2) (length bs) bs)) (band_cell inside))

-- `22:00-05:59`: two times, with a minus between
abbrev pub window : List ℕ → Option Cell
window bs = cond (length bs == 11 && slice_index bs 5 == 45) (both (time (between 0 5 bs)) (time (between 6 11 bs)) window_cell) None

-- a name of a set, 0 to 31, which does not stand before `from`
abbrev pub member : ℕ → List ℕ → Option ℕ
member from p = chain (number p) (λ n. cond (nat_le from n && nat_lt n 32) (Some n) None)

-- the set of names that ascending parts are, with a set of names below `from`: bit n is name n
abbrev pub members : ℕ → ℕ → List (List ℕ) → Option ℕ
members from bits [] = Some bits
members from bits (p ∷ ps) = chain (member from p) (λ n. members (n + 1) (bits + 2 ^ n) ps)

-- names parted by commas; no text is the empty set
abbrev pub listed : List ℕ → Option ℕ
listed bs = cond (length bs == 0) (Some 0) (members 0 0 (parted 44 bs))

-- `{0,3}`, after its first brace
abbrev pub names : List ℕ → Option Cell
names bs = cond (slice_index bs (length bs - 1) == 125) (chain (listed (between 0 (length bs - 1) bs)) (λ bits. Some (names_cell bits))) None

-- a window, told by its third byte, or a band
abbrev pub unmarked : List ℕ → Option Cell
unmarked bs = cond (slice_index bs 2 == 58) (window bs) (band true bs)

-- a cell, told by its first byte
abbrev pub cell : List ℕ → Option Cell
cell bs =
    cond (slice_index bs 0 == 33) (band false (between 1 (length bs) bs))
    (cond (slice_index bs 0 == 123) (names (between 1 (length bs) bs)) (unmarked bs))

-- an entry of a column: a dot for any, or a cell
abbrev pub entry : List ℕ → Option (Entry Cell)
entry bs = cond (bytes_eq bs (codes ".")) (Some Any) (chain (cell bs) (λ c. Some (CellE c)))
