-- The test of what the draft calls would accept. Assumes nothing.
use Rattle.std.proofs.Common.{◌≡◌, ℕ, Bool, true, ◌&&◌, eqb, leb, List, [], ◌∷◌, length, Some, None, Decides, Option, refl}
use Rattle.std.proofs.lemmas.Bool.{leb-true, le-leb, eqb-true, eq-eqb, false≢true}
use Rattle.std.proofs.lemmas.Bool.Decides.{Decides-and, Decides-like}
use Rattle.std.proofs.ByRecursion.{Decides-by_and}
use Rattle.kinds.specs.Meaning.{Meaning}
use Rattle.items.specs.declared.Quantity.{Quantity}
use Rattle.items.specs.declared.Row.{Row}
use Rattle.items.specs.declared.Entry.{Entry}
use Rattle.items.specs.declared.Counts.{Counts}
use Rattle.tables.specs.Storage.{Lists, RightLengths, right_lengths, contents_of, in_order}
use Rattle.tables.specs.Words.{UpTo, up_to, all_of}
use Rattle.results.specs.Results.{Results}
use Rattle.tables.specs.Contents.{Contents}
use Rattle.tables.specs.Acceptance.{Acceptable, acceptable, range_lawful, row_lawful, entry_lawful, entries_lawful, EntriesLawful, default_lawful, DefaultLawful}

itself : (b : Bool) → Decides b (b ≡ true)
itself b = ((λ h. h), λ h. h)

up-to : {X : Type 0} (n : ℕ) (p : X → Bool) (P : X → Type 0) → ((x : X) → Decides (p x) (P x)) → (xs : List X) → Decides (up_to n p xs) (UpTo n P xs)
up-to n p P each xs = Decides-and (leb (length xs) n) (all_of p xs) (leb-true (length xs) n, le-leb (length xs) n) (Decides-by_and p P (all_of p) each refl (λ _ _. refl) xs)

module _ {V C R : Type 0} (m : Meaning V C) (r : Results R) where
  entries : (qs : List (Quantity V)) (ws : List Row) (xs : List (Entry C)) → Decides (entries_lawful m qs ws xs) (EntriesLawful m qs ws xs)
  entries qs [] [] = ((λ _. tt), λ _. refl)
  entries qs [] (x ∷ xs) = ((λ h. false≢true h), λ h. absurd h)
  entries qs (w ∷ ws) [] = ((λ h. false≢true h), λ h. absurd h)
  entries qs (w ∷ ws) (x ∷ xs) = Decides-and (entry_lawful m qs w x) (entries_lawful m qs ws xs) (itself (entry_lawful m qs w x)) (entries qs ws xs)

  by_default : (d : Option R) → Decides (default_lawful r d) (DefaultLawful r d)
  by_default None = ((λ _. tt), λ _. refl)
  by_default (Some d) = itself (r.lawful d)

  pub accepts : (c : Contents V C R) → Decides (acceptable m r c) (Acceptable m r c)
  accepts c =
      let qs = c.quantities in
      let ws = c.rows in
      Decides-like (acceptable m r c)
      (λ h. record { quantities = h.0; rows = h.1.0; columns = h.1.1.0; nevers = h.1.1.1.0; default = h.1.1.1.1 })
      (λ a. (a.quantities, (a.rows, (a.columns, (a.nevers, a.default)))))
      (Decides-and _ _ (up-to 16 (range_lawful m) (λ q. range_lawful m q ≡ true) (λ q. itself (range_lawful m q)) qs)
      (Decides-and _ _ (up-to 16 (row_lawful m qs) (λ w. row_lawful m qs w ≡ true) (λ w. itself (row_lawful m qs w)) ws)
      (Decides-and _ _ (up-to 16 (λ k. entries_lawful m qs ws k.entries && r.lawful k.result) (λ k. EntriesLawful m qs ws k.entries × (r.lawful k.result ≡ true)) (λ k. Decides-and (entries_lawful m qs ws k.entries) (r.lawful k.result) (entries qs ws k.entries) (itself (r.lawful k.result))) c.columns)
      (Decides-and _ _ (up-to 8 (entries_lawful m qs ws) (EntriesLawful m qs ws) (entries qs ws) c.nevers) (by_default c.default)))))

  equals : (a b : ℕ) → Decides (eqb a b) (a ≡ b)
  equals a b = (eqb-true a b, eq-eqb a b)

  lengths : (l : Lists V C R) → Decides (right_lengths l) (RightLengths l)
  lengths l =
      Decides-like (right_lengths l)
      (λ h. record { quantities = h.0; rows = h.1.0; entries = h.1.1.0; results = h.1.1.1 })
      (λ a. (a.quantities, (a.rows, (a.entries, a.results))))
      (Decides-and _ _ (equals (length l.quantities) 16) (Decides-and _ _ (equals (length l.rows) 16) (Decides-and _ _ (equals (length l.entries) 384) (equals (length l.results) 17))))

  -- the first question, of counts and lists
  pub in_order_lem : (n : Counts) (l : Lists V C R) → Decides (in_order m r n l) (RightLengths l × Acceptable m r (contents_of n l))
  in_order_lem n l = Decides-and (right_lengths l) (acceptable m r (contents_of n l)) (lengths l) (accepts (contents_of n l))
