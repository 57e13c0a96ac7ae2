-- Lines whose draft calls are all accepted, one line after another: a way from contents to contents. Assumes nothing.
use Rattle.std.proofs.Common.{◌≡◌, List, [], ◌∷◌, ◌++◌, length, sym, ap, ◌∙◌, subst, ap₂}
use Rattle.text.specs.Texts.{Said}
use Rattle.pages.specs.ThereAndBack.{calls_from}
use Rattle.pages.proofs.Agreeing.{PageContents, AllAgreed, edited_by, agreed-both, edited-both}
use Rattle.pages.proofs.LineCalls.{calls-split, line_edits, added, added-columns, added-nevers, Even, line_made}

-- a line whose calls are accepted, and add it
abbrev pub Taken : PageContents → Said → Type 0
Taken c x = AllAgreed (line_edits c x) c × (edited_by (line_edits c x) c ≡ added x c)

pub taken : (c : PageContents) (x : Said) → Even (length c.rows) x → AllAgreed (line_edits c x) c → Taken c x
taken c x e a = (a, line_made x c e a)

abbrev pub Way : PageContents → List Said → PageContents → Type 0
Way c [] d = c ≡ d
Way c (x ∷ xs) d = Taken c x × Way (added x c) xs d

pub way_then : (c d e : PageContents) (xs ys : List Said) → Way c xs d → Way d ys e → Way c (xs ++ ys) e
way_then c d e [] ys a b = subst (λ z. Way z ys e) (sym a) b
way_then c d e (x ∷ xs) ys a b = (a.0, way_then (added x c) d e xs ys a.1 b)

-- the calls of all the lines
pub way-calls : (c d : PageContents) (xs : List Said) → Way c xs d
    → AllAgreed (calls_from (length c.columns) (length c.nevers) xs) c × (edited_by (calls_from (length c.columns) (length c.nevers) xs) c ≡ d)
way-calls c d [] w = (tt, w)
way-calls c d (x ∷ xs) w =
    let es = line_edits c x in
    let ks = calls_from (length (added x c).columns) (length (added x c).nevers) xs in
    let split : calls_from (length c.columns) (length c.nevers) (x ∷ xs) ≡ es ++ ks = calls-split (length c.columns) (length c.nevers) x xs ∙ ap₂ (λ a b. es ++ calls_from a b xs) (sym (added-columns x c)) (sym (added-nevers x c)) in
    let r = way-calls (added x c) d xs w.1 in (
      subst (λ k. AllAgreed k c) (sym split) (agreed-both es ks c w.0.0 (subst (AllAgreed ks) (sym w.0.1) r.0)),
      ap (λ k. edited_by k c) split ∙ edited-both es ks c ∙ ap (edited_by ks) w.0.1 ∙ r.1,
    )
