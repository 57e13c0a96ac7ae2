use Rattle.std.proofs.Common.{◌∙◌, Ok, Err, sym, ap, ap₂}
use Rattle.lists.specs.Held.{lists_of}
use Rattle.text.specs.Fields.{parted}
use Rattle.text.specs.Forms.{rest, rest_at}
use Rattle.text.specs.Pages.{head, word_at}
use Rattle.text.specs.Words.{first_word}
use Rattle.reading.specs.Lines.{read_on}
use Rattle.calling.proofs.Steps.{exited}
use Rattle.reading.proofs.Line.{line-read}
use Rattle.reading.proofs.reading.read_line.Goals as goal

pub returns-in_err-make-clause-went : goal.returns-in_err-make-clause-went
returns-in_err-make-clause-went c =
    λ k lines.
    let s = c.new-fields.ensures in
    let is = s.whole c.requires in
    let o = c.word_of.ensures in
    let v = c.make.new.fields in
    let n = c.make.new.draft.counts in
    let l = lists_of c.make.new.lists in
    let f = c.in_err-make.field-0.0 in
    line-read c.in_ok-word.next c.in_ok-word.word c.args.draft.now.counts n (lists_of c.args.lists.now) l k lines c.args.section _ c.word_of.result (parted 32 c.args.line.now) _ _ (Err f)
    (ap (λ fs. word_at c.args.section k (first_word (head fs))) (sym is) ∙ o.word k) (sym c.ok_or.ensures.value ∙ c.in_ok-word.was) (o.byte ∙ ap₂ rest_at s.byte is) (o.left ∙ ap rest is) c.in_err-make.ensures.went
    ∙ ap (λ r. read_on k r n l lines) (sym (exited c.from_residual-in_err-make.result f c.from_residual-in_err-make.ensures.1))

pub returns-clause-went : goal.returns-clause-went
returns-clause-went c =
    λ k lines.
    let s = c.new-fields.ensures in
    let is = s.whole c.requires in
    let o = c.word_of.ensures in
    line-read c.in_ok-word.next c.in_ok-word.word c.args.draft.now.counts c.make.new.draft.counts (lists_of c.args.lists.now) (lists_of c.make.new.lists) k lines c.args.section _ c.word_of.result (parted 32 c.args.line.now) _ _ (Ok tt)
    (ap (λ fs. word_at c.args.section k (first_word (head fs))) (sym is) ∙ o.word k) (sym c.ok_or.ensures.value ∙ c.in_ok-word.was) (o.byte ∙ ap₂ rest_at s.byte is) (o.left ∙ ap rest is) c.in_ok-make.ensures.went
