-- What writing answers and leaves, by the first question. Assumes nothing.
use Rattle.std.proofs.Common.{◌≡◌, ℕ, true, false, List, Err, Result, sym, ap, ◌∙◌}
use Rattle.std.proofs.lemmas.Bool.{cond-true, cond-false}
use Rattle.house.specs.House.{Value, Cell, house}
use Rattle.items.specs.declared.Counts.{Counts}
use Rattle.results.specs.declared.figure.Figure.{Figure}
use Rattle.results.specs.Figures.{figures}
use Rattle.faults.specs.declared.SheetFault.TheVariants.{Lists as WrongLists}
use Rattle.page_faults.specs.declared.WriteFault.{WriteFault}
use Rattle.page_faults.specs.declared.WriteFault.TheVariants.{Call as Denied}
use Rattle.tables.specs.Contents.{Contents}
use Rattle.tables.specs.Storage.{contents_of, in_order}
use Rattle.pages.specs.Reads.{PageLists}
use Rattle.pages.specs.Writes.{room_answer, room_leaves, text_of, write_answer, write_leaves}

-- of the counts n of a draft, which are told as m
module _ (n m : Counts) (l : PageLists) (out : List ℕ) (told : m ≡ n) where
  -- answered no
  no : false ≡ in_order house figures m l → in_order house figures n l ≡ false
  no h = ap (λ k. in_order house figures k l) (sym told) ∙ sym h

  pub no_answer : false ≡ in_order house figures m l → Err (Denied WrongLists) ≡ write_answer n l out
  no_answer h = sym (cond-false _ _ _ (no h))

  pub no-leaves : false ≡ in_order house figures m l → out ≡ write_leaves n l out
  no-leaves h = sym (cond-false _ _ _ (no h))

  -- answered yes
  module _ (c : Contents Value Cell Figure) (h : true ≡ in_order house figures m l) (shown : c ≡ contents_of m l) where
    yes : in_order house figures n l ≡ true
    yes = ap (λ k. in_order house figures k l) (sym told) ∙ sym h

    same : c ≡ contents_of n l
    same = shown ∙ ap (λ k. contents_of k l) told

    pub yes-answer : (r : Result ℕ WriteFault) → r ≡ room_answer (text_of c) out → r ≡ write_answer n l out
    yes-answer r a = a ∙ ap (λ d. room_answer (text_of d) out) same ∙ sym (cond-true _ _ _ yes)

    pub yes-leaves : (after : List ℕ) → after ≡ room_leaves (text_of c) out → after ≡ write_leaves n l out
    yes-leaves after a = a ∙ ap (λ d. room_leaves (text_of d) out) same ∙ sym (cond-true _ _ _ yes)
