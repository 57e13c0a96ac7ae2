-- The first question: a view of what the lists hold, kept where each entry in use is acceptable. Assumes nothing.
use Rattle.std.proofs.Common.{List, ◌+◌, ◌≤◌, length, take, arith, length-take, ◌≡◌, ◌&&◌, Bool, true, false, Option, Some, None, sym, refl, ap, ◌∙◌, ap₂, subst}
use Rattle.std.specs.Bool.{then_some}
use Rattle.std.specs.Option.{MatchOption, ok_or}
use Rattle.faults.specs.declared.SheetFault.TheVariants.{Lists as WrongLists}
use Rattle.items.specs.declared.Counts.{Counts}
use Rattle.kinds.specs.Meaning.{Meaning}
use Rattle.kinds.specs.declared.Kind.{Ghosts}
use Rattle.results.specs.Results.{Results}
use Rattle.std.proofs.lemmas.Bool.{le-leb}
use Rattle.std.proofs.lemmas.List.FromFn.{length-map-range_with_len}
use Rattle.tables.specs.Acceptance.{acceptable, default_lawful, entries_lawful, range_lawful, row_lawful}
use Rattle.tables.specs.Storage.{column_of, contents_of}
use Rattle.tables.specs.Words.{all_of}
use Rattle.lists.proofs.Left.{columns-length}
use Rattle.tables.specs.Contents.{Column}
use Rattle.items.specs.declared.Quantity.{Quantity}
use Rattle.items.specs.declared.Row.{Row}
use Rattle.lists.specs.declared.lent.Lists.{Lists as LentLists}
use Rattle.lists.specs.declared.view.View.{View}
use Rattle.lists.specs.Held.{FirstAnswer, Looked, lists_of, seen}

-- are a column's entries lawful, and its result
abbrev pub column_lawful : {V C R : Type 0} → Meaning V C → Results R → List (Quantity V) → List Row → Column C R → Bool
column_lawful m r qs ws k = entries_lawful m qs ws k.entries && r.lawful k.result

module _ {K R V C : Type 0} {k : Ghosts K V C} (m : Meaning V C) (r : Results R) (n : Counts) (l : LentLists K R V C) where
  kept : (v : View K R V C k) (b : Bool) → Looked n l (Some v) → b ≡ acceptable m r (seen v) → FirstAnswer m r n l (ok_or (then_some b v) WrongLists)
  kept v true h e = (h.0, h.1, ap₂ ◌&&◌ h.2 (sym (ap₂ (λ n l. acceptable m r (contents_of n l)) h.0 h.1) ∙ sym e))
  kept v false h e = (refl, ap₂ ◌&&◌ h.2 (sym (ap₂ (λ n l. acceptable m r (contents_of n l)) h.0 h.1) ∙ sym e))

  -- what is left of a view that is dropped where it is not acceptable
  pub first-answer : (o p : Option (View K R V C k)) → Looked n l o → (Q : View K R V C k → Bool → Type 0)
      → MatchOption o (p ≡ None) (λ v. (b : Bool) × Q v b × (p ≡ then_some b v))
      → ((v : View K R V C k) (b : Bool) → Q v b → b ≡ acceptable m r (seen v)) → FirstAnswer m r n l (ok_or p WrongLists)
  first-answer None p h Q q told = subst (λ p. FirstAnswer m r n l (ok_or p WrongLists)) (sym q) (refl, ap (λ b. b && acceptable m r (contents_of n (lists_of l))) h)
  first-answer (Some v) p h Q q told = subst (λ p. FirstAnswer m r n l (ok_or p WrongLists)) (sym q.2) (kept v q.0 h (told v q.0 q.1))

module _ {K R V C : Type 0} {k : Ghosts K V C} (m : Meaning V C) (r : Results R) (v : View K R V C k) where
  -- the answer of the last part, where the parts before it are answered yes
  pub acceptable-by-parts : (d : Bool) → all_of (range_lawful m) (seen v).quantities ≡ true → all_of (row_lawful m (seen v).quantities) (seen v).rows ≡ true
      → all_of (column_lawful m r (seen v).quantities (seen v).rows) (seen v).columns ≡ true → all_of (entries_lawful m (seen v).quantities (seen v).rows) (seen v).nevers ≡ true
      → d ≡ default_lawful r (seen v).default → d ≡ acceptable m r (seen v)
  acceptable-by-parts d qs ws ks ns e =
      let es = v.entries.now in
      let ql : length (seen v).quantities ≤ 16 = omega (arith, length-take v.counts.quantities v.quantities.now) in
      let wl : length (seen v).rows ≤ 16 = omega (arith, length-take v.counts.rows v.rows.now) in
      let kl : length (seen v).columns ≤ 16 = omega (arith, columns-length es v.counts.rows 0 (take v.counts.columns v.results.now), length-take v.counts.columns v.results.now) in
      let nl : length (seen v).nevers ≤ 8 = omega (arith, length-map-range_with_len (λ j. column_of es v.counts.rows (16 + j)) 0 v.counts.nevers) in
      sym (ap₂ ◌&&◌ (ap₂ ◌&&◌ (le-leb _ _ ql) qs) (ap₂ ◌&&◌ (ap₂ ◌&&◌ (le-leb _ _ wl) ws) (ap₂ ◌&&◌ (ap₂ ◌&&◌ (le-leb _ _ kl) ks) (ap₂ ◌&&◌ (ap₂ ◌&&◌ (le-leb _ _ nl) ns) (sym e)))))
