use Rattle.tables.specs.Storage.{column_of}
use Rattle.lists.specs.Held.{seen, shown}
use Rattle.ways.proofs.Finding.{walks_find}
use Rattle.seeking.proofs.Seeking.{marks_hit, marks_over}
use Rattle.seeking.proofs.marked.seek_by_marks.Goals as goal

pub returns-then-walk-clause-after : goal.returns-then-walk-clause-after
returns-then-walk-clause-after g c = λ spanned t f ans tells ok lent w v same.
    let m = g.K.Kind.meaning in
    let r = g.R.ResultKind.results in
    let s = c.args.view.now in
    let found = walks_find m r s.counts (seen s) ok (λ j. column_of s.entries.now s.counts.rows j) c.args.marks.now c.args.spans.now spanned f t tells c.all_in_use.result c.all_in_use.ensures (shown c.args.at.now) v c.walk.result (shown c.walk.new.at) (c.walk.ensures.walked t ans) in
    marks_hit m g.met.K.Kind.lawful r (seen s) ok f lent (shown c.args.at.now) w v same found c.if-walk.true

pub returns-clause-after : goal.returns-clause-after
returns-clause-after g c = λ spanned t f ans tells ok lent w v same.
    let m = g.K.Kind.meaning in
    let r = g.R.ResultKind.results in
    let s = c.args.view.now in
    let found = walks_find m r s.counts (seen s) ok (λ j. column_of s.entries.now s.counts.rows j) c.args.marks.now c.args.spans.now spanned f t tells c.all_in_use.result c.all_in_use.ensures (shown c.args.at.now) v c.walk.result (shown c.walk.new.at) (c.walk.ensures.walked t ans) in
    marks_over m g.met.K.Kind.lawful r (seen s) ok f lent (shown c.args.at.now) w v same found c.if-walk.false c.reset.ensures.after
