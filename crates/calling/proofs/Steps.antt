-- A call that was made or denied, and the calls after it. Assumes nothing.
use Rattle.std.proofs.Common.{◌≡◌, ℕ, ◌+◌, ◌<◌, List, [], ◌∷◌, length, get_or, drop, IsErrAnd, MatchResult, Some, None, Ok, Err, Option, Result, sym, ap, ◌∙◌, ap₂, arith}
use Rattle.std.proofs.lemmas.List.{at_drop_more}
use Rattle.std.proofs.lemmas.Result.{err_from_is_err_and}
use Rattle.items.specs.declared.Counts.{Counts}
use Rattle.faults.specs.declared.SheetFault.{SheetFault}
use Rattle.page_faults.specs.declared.LineFault.{LineFault}
use Rattle.page_faults.specs.declared.PageFault.TheVariants.{Call as Denied}
use Rattle.tables.specs.Storage.{counts_after, lists_after}
use Rattle.edits.specs.Meant.{told, unless}
use Rattle.text.specs.declared.types.Placed.{Placed}
use Rattle.pages.specs.Reads.{PageLists, Asked, step, make_all, cells_from}
use Rattle.calling.specs.Goes.{follows}

-- a call that was made or denied, and the refusal that is told of it
module _ (k : Asked) (n n' : Counts) (l l' : PageLists) (post : SheetFault → LineFault → Type 0) (denies : (f : SheetFault) (d : LineFault) → post f d → d ≡ record { fault = Denied f; byte = k.byte f }) where
  pub call-told : (o : Option SheetFault) (m : Result (Unit {0}) SheetFault) (r : Result (Unit {0}) LineFault) → m ≡ told o → MatchResult m (λ t. r ≡ Ok t) (λ f. IsErrAnd r (post f)) → n' ≡ unless o (counts_after k.edit n) n → l' ≡ unless o (lists_after k.edit n l) l
      → (ks : List Asked) → step o k n l (make_all ks) ≡ follows r n' l' ks
  call-told None (Ok t) (Ok u) e c p q ks = ap₂ (make_all ks) (sym p) (sym q)
  call-told None (Ok t) (Err d) e c p q ks = let z : ◌≡◌ {A = ℕ} 0 1 = cc in absurd (omega arith)
  call-told None (Err g) r e c p q ks = let z : ◌≡◌ {A = ℕ} 0 1 = cc in absurd (omega arith)
  call-told (Some f) (Ok t) r e c p q ks = let z : ◌≡◌ {A = ℕ} 0 1 = cc in absurd (omega arith)
  call-told (Some f) (Err g) (Ok u) e c p q ks = absurd c
  call-told (Some f) (Err g) (Err d) e c p q ks =
      let h : d ≡ record { fault = Denied g; byte = k.byte g } = denies g d c in
      let i : g ≡ f = cc in
      let j : record { fault = Denied f; byte = k.byte f } ≡ d = ap (λ f. record { fault = Denied f; byte = k.byte f }) (sym i) ∙ sym h in
      ap₂ (λ d l. record { answer = Err d; lists = l }) j (sym q)

-- the refusal with which a `?` returns
pub exited : {X E : Type 0} (r : Result X E) (f : E) → IsErrAnd r (λ d. d ≡ f) → r ≡ Err f
exited r f e = let p = err_from_is_err_and r e in p.1 ∙ ap Err p.2

module _ (column i : ℕ) (ps : List Placed) where
  -- the call of the first entry that is left
  pub left-more : (d : Placed) (k : Asked) → i < length ps → ((qs : List Placed) → cells_from column i (get_or ps i d ∷ qs) ≡ k ∷ cells_from column (i + 1) qs)
      → cells_from column i (drop i ps) ≡ k ∷ cells_from column (i + 1) (drop (i + 1) ps)
  left-more d k h e = at_drop_more (cells_from column i) ps i d h ∙ e (drop (i + 1) ps)

module _ (ks : List Asked) (k : Asked) (more : List Asked) (n n' : Counts) (l l' : PageLists) (is : ks ≡ k ∷ more) where
  -- calls of which the first was denied
  pub calls-stop : (f : LineFault) (r : Result (Unit {0}) LineFault) → ((more : List Asked) → make_all (k ∷ more) n l ≡ record { answer = Err f; lists = l' }) → r ≡ Err f → make_all ks n l ≡ follows r n' l' []
  calls-stop f r went e = ap (λ ks. make_all ks n l) is ∙ went more ∙ ap (λ r. follows r n' l' []) (sym e)
