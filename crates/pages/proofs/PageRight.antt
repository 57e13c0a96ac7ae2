-- A page can have each item that is lawful. Assumes nothing.
use Rattle.std.proofs.Common.{◌≡◌, true, ltb, leb, List, [], ◌∷◌, length, ℤ, pos, negsuc, Some, None, Option, refl, arith}
use Rattle.std.specs.List.{slice_get, AllByRecursion}
use Rattle.std.proofs.lemmas.Bool.{and_from, and_parts, false≢true, leb-true, lt-ltb, ltb-true}
use Rattle.joined.specs.declared.Either.TheVariants.{Left, Right}
use Rattle.measure.specs.Measures.{is_measure}
use Rattle.house.specs.House.{Value, Cell, house}
use Rattle.items.specs.declared.Entry.{Entry}
use Rattle.items.specs.declared.Entry.TheVariants.{Any, Cell as CellE}
use Rattle.items.specs.declared.Quantity.{Quantity}
use Rattle.items.specs.declared.Row.{Row}
use Rattle.items.specs.declared.Scope.{Scope}
use Rattle.tables.specs.Acceptance.{range_lawful, cell_lawful, EntriesLawful}
use Rattle.text.specs.Texts.{seven_digits, cell_right, entry_right, quantity_right}
use Rattle.pages.specs.NameBits.{OnlyNames, EntryOnlyNames}

-- a page can have each number, value and cell that is lawful
pub measure-right : (z : ℤ) → is_measure z ≡ true → seven_digits z ≡ true
measure-right (pos n) h = lt-ltb n 10000000 (omega (arith, leb-true n 1000000 h))
measure-right (negsuc n) h = lt-ltb n 9999999 (omega (arith, leb-true n 999999 (and_parts (leb n 999999) true h).0))

pub range-right : (s : Scope) (a z : Value) → range_lawful house (record { scope = s; least = a; greatest = z }) ≡ true → quantity_right (record { scope = s; least = a; greatest = z }) ≡ true
range-right s (Left a) (Left z) h =
    let p = and_parts (is_measure a) _ h in
    and_from _ _ (measure-right a p.0) (measure-right z (and_parts (is_measure z) _ p.1).0)
range-right s (Left a) (Right z) h = absurd (false≢true h)
range-right s (Right a) (Left z) h = absurd (false≢true h)
range-right s (Right (Left a)) (Right (Left z)) h =
    let p = and_parts (ltb a 32) _ h in
    and_from _ _ (lt-ltb a 10000000 (omega (arith, ltb-true a 32 p.0))) (lt-ltb z 10000000 (omega (arith, ltb-true z 32 (and_parts (ltb z 32) _ p.1).0)))
range-right s (Right (Left a)) (Right (Right z)) h = absurd (false≢true h)
range-right s (Right (Right a)) (Right (Left z)) h = absurd (false≢true h)
range-right s (Right (Right a)) (Right (Right z)) h =
    let p = and_parts (ltb a 1440) _ h in
    and_from _ _ p.0 (and_parts (ltb z 1440) _ p.1).0

cell-right : (x : Cell) (a z : Value) → house.fits x a z ≡ true → OnlyNames x → cell_right x ≡ true
cell-right (Left b) (Left a) (Left z) h o =
    let p = and_parts (is_measure b.lo) _ h in
    and_from _ _ (measure-right b.lo p.0) (measure-right b.hi (and_parts (is_measure b.hi) _ p.1).0)
cell-right (Left b) (Left a) (Right z) h o = absurd (false≢true h)
cell-right (Left b) (Right a) z h o = absurd (false≢true h)
cell-right (Right x) (Left a) z h o = absurd (false≢true h)
cell-right (Right x) (Right a) (Left z) h o = absurd (false≢true h)
cell-right (Right (Left s)) (Right (Left a)) (Right (Left z)) h o = lt-ltb s.bits 4294967296 o
cell-right (Right (Left s)) (Right (Left a)) (Right (Right z)) h o = absurd (false≢true h)
cell-right (Right (Left s)) (Right (Right a)) (Right z) h o = absurd (false≢true h)
cell-right (Right (Right w)) (Right (Left a)) (Right z) h o = absurd (false≢true h)
cell-right (Right (Right w)) (Right (Right a)) (Right (Left z)) h o = absurd (false≢true h)
cell-right (Right (Right w)) (Right (Right a)) (Right (Right z)) h o = h

lawful-right : (x : Cell) (o : Option (Quantity Value)) → cell_lawful house x o ≡ true → OnlyNames x → cell_right x ≡ true
lawful-right x None h k = absurd (false≢true h)
lawful-right x (Some q) h k = cell-right x q.least q.greatest h k

-- entries: one a row
pub entries-even : (qs : List (Quantity Value)) (ws : List Row) (es : List (Entry Cell)) → EntriesLawful house qs ws es → length es ≡ length ws
entries-even qs [] [] h = refl
entries-even qs [] (e ∷ es) h = absurd h
entries-even qs (w ∷ ws) [] h = absurd h
entries-even qs (w ∷ ws) (e ∷ es) h = let r = entries-even qs ws es h.1 in omega arith

pub entries-right : (qs : List (Quantity Value)) (ws : List Row) (es : List (Entry Cell)) → EntriesLawful house qs ws es → AllByRecursion EntryOnlyNames es → AllByRecursion (λ e. entry_right e ≡ true) es
entries-right qs [] [] h o = tt
entries-right qs [] (e ∷ es) h o = absurd h
entries-right qs (w ∷ ws) [] h o = absurd h
entries-right qs (w ∷ ws) (Any ∷ es) h o = (refl, entries-right qs ws es h.1 o.1)
entries-right qs (w ∷ ws) (CellE x ∷ es) h o = (lawful-right x (slice_get qs w.quantity) h.0 o.0, entries-right qs ws es h.1 o.1)
