-- What a row reads, by its mode, and when a column is met. Assumes nothing.
use Rattle.std.proofs.Common.{◌≡◌, ℕ, zero, suc, true, List, [], ◌∷◌, Some, None, Decides, Option, refl, ap, ◌∙◌, subst}
use Rattle.std.specs.List.{slice_get}
use Rattle.std.proofs.lemmas.Bool.{and_parts, and_from, false≢true}
use Rattle.std.proofs.lemmas.Bool.Decides.{Decides-and, Decides-or}
use Rattle.kinds.specs.Meaning.{Meaning}
use Rattle.items.specs.declared.Side.{Side}
use Rattle.items.specs.declared.Side.TheVariants.{OfA, OfB, OfPair}
use Rattle.items.specs.declared.Mode.{Mode}
use Rattle.items.specs.declared.Mode.TheVariants.{A, B, Both, Either, Pair}
use Rattle.items.specs.declared.Row.{Row}
use Rattle.items.specs.declared.Entry.{Entry}
use Rattle.items.specs.declared.Entry.TheVariants.{Any, Cell}
use Rattle.tables.specs.Contents.{Encounter, value_at}
use Rattle.tables.specs.Outcomes.{holds_for, test, entry_holds, met}
use Rattle.tables.specs.Rows.{HoldsFor, HoldsIn, EntryHolds, ReadRightly}
use Rattle.tables.proofs.Lists.{none-some, some_same}

module _ {V C : Type 0} (m : Meaning V C) (e : Encounter V) where
  holds_at : (x : C) (o : Option V) → Decides (holds_for m x o) ((v : V) × ((o ≡ Some v) × (m.holds x v ≡ true)))
  holds_at x None = ((λ h. absurd (false≢true h)), λ t. none-some t.0 t.1.0)
  holds_at x (Some v) = ((λ h. (v, (refl, h))), λ t. ap (m.holds x) (some_same v t.0 t.1.0) ∙ t.1.1)

  side : (x : C) (s : Side) (i : ℕ) → Decides (holds_for m x (value_at e s i)) (HoldsFor m e x s i)
  side x s i = holds_at x (value_at e s i)

  by_mode : (k : Mode) (x : C) (i : ℕ) → Decides (test m k x i e) (HoldsIn m e k x i)
  by_mode A x i = side x OfA i
  by_mode B x i = side x OfB i
  by_mode Both x i = Decides-and (holds_for m x (value_at e OfA i)) (holds_for m x (value_at e OfB i)) (side x OfA i) (side x OfB i)
  by_mode Either x i = Decides-or (holds_for m x (value_at e OfA i)) (holds_for m x (value_at e OfB i)) (side x OfA i) (side x OfB i)
  by_mode Pair x i = side x OfPair i

  by-entry : (w : Row) (x : Entry C) → Decides (entry_holds m w x e) (EntryHolds m e w x)
  by-entry w Any = ((λ _. tt), λ _. refl)
  by-entry w (Cell x) = by_mode w.mode x w.quantity

  abbrev EachHolds : List Row → List (Entry C) → Type 0
  EachHolds ws xs = (i : ℕ) (w : Row) (x : Entry C) → slice_get ws i ≡ Some w → slice_get xs i ≡ Some x → EntryHolds m e w x

  met-each : (ws : List Row) (xs : List (Entry C)) → met m ws xs e ≡ true → EachHolds ws xs
  met-each [] xs h i w x p q = none-some w p
  met-each (v ∷ ws) [] h i w x p q = none-some x q
  met-each (v ∷ ws) (y ∷ xs) h zero w x p q =
      subst (λ w. EntryHolds m e w x) (some_same v w p) (subst (EntryHolds m e v) (some_same y x q) ((by-entry v y).0 (and_parts (entry_holds m v y e) (met m ws xs e) h).0))
  met-each (v ∷ ws) (y ∷ xs) h (suc i) w x p q = met-each ws xs (and_parts (entry_holds m v y e) (met m ws xs e) h).1 i w x p q

  each-met : (ws : List Row) (xs : List (Entry C)) → EachHolds ws xs → met m ws xs e ≡ true
  each-met [] xs h = refl
  each-met (w ∷ ws) [] h = refl
  each-met (w ∷ ws) (x ∷ xs) h = and_from (entry_holds m w x e) (met m ws xs e) ((by-entry w x).1 (h 0 w x refl refl)) (each-met ws xs (λ i v y p q. h (suc i) v y p q))

  pub read-rightly : ReadRightly m e
  read-rightly = record { modes = by_mode; columns = λ ws xs. (met-each ws xs, each-met ws xs) }
