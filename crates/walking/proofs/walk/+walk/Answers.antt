use Rattle.std.proofs.Common.{◌≡◌, true, false, [], ◌∷◌, Some, rules, tests, refl, ap, sym, ◌∙◌, subst}
use Rattle.lists.specs.Held.{shown}
use Rattle.sets.specs.Walks.{pairs, Walked}
use Rattle.walking.specs.Ways.{pairs_left}
use Rattle.walking.proofs.Walking.{begun, skipped, passed, found, over, same-on}
use Rattle.walking.proofs.walk.+walk.Goals as goal

pub loop-x-init : goal.loop-x-init
loop-x-init g t c = (
  search rules,
  search rules,
  λ f h. begun f c.args.marks.now c.in-Some.span.now c.in-Some.rest.now c.args.met (shown c.args.at.now)
      (ap pairs_left c.into_iter-x-iterator.ensures.into_iter_gives ∙ c.new-x-items.ensures ∙ ap (pairs c.in-Some.span.now.scope) c.marks_of.ensures),
  record { a = refl; b = refl; pair = refl },
)

pub loop-x-preserved-then-is_same : goal.loop-x-preserved-then-is_same
loop-x-preserved-then-is_same g t c =
    let is : pairs_left c.loop-x.x-iterator ≡ (c.in-Some-2.x.now, c.in-Some-2.y.now) ∷ pairs_left c.next.new.self = c.in-Some-2.ensures.steps in
    let same : c.loop-x.last ≡ Some c.narrowed-next.result = search (rules, tests) in (
      search rules,
      search rules,
      λ f h. skipped f c.args.marks.now c.in-Some.span.now c.in-Some.rest.now c.args.met (shown c.args.at.now) is (c.loop-x.invariant.2 f h) c.narrowed-next.ensures same,
      c.loop-x.invariant.3,
    )

pub returns-then-walk-clause-walked : goal.returns-then-walk-clause-walked
returns-then-walk-clause-walked g t c = λ f h.
    let is : pairs_left c.loop-x.x-iterator ≡ (c.in-Some-2.x.now, c.in-Some-2.y.now) ∷ pairs_left c.next.new.self = c.in-Some-2.ensures.steps in
    let spans : c.args.spans.now ≡ c.in-Some.span.now ∷ c.in-Some.rest.now = c.in-Some.ensures.cases.0 in
    subst (λ ps. Walked f c.args.marks.now ps c.args.met (shown c.args.at.now) true (shown c.put_pair.new.at)) (sym spans)
    (found f c.args.marks.now c.in-Some.span.now c.in-Some.rest.now c.args.met (shown c.args.at.now) is (c.loop-x.invariant.2 f h) c.narrowed-next.ensures (c.walk.ensures.walked f h) c.if-walk.true c.put_pair.ensures.after)

pub returns-then-walk-clause-lent : goal.returns-then-walk-clause-lent
returns-then-walk-clause-lent g t c = same-on {a = c.args.at.now} c.loop-x.invariant.3 (same-on c.walk.ensures.lent c.put_pair.ensures.lent)

pub loop-x-preserved : goal.loop-x-preserved
loop-x-preserved g t c =
    let is : pairs_left c.loop-x.x-iterator ≡ (c.in-Some-2.x.now, c.in-Some-2.y.now) ∷ pairs_left c.next.new.self = c.in-Some-2.ensures.steps in (
      search rules,
      search rules,
      λ f h. passed f c.args.marks.now c.in-Some.span.now c.in-Some.rest.now c.args.met (shown c.args.at.now) is (c.loop-x.invariant.2 f h) c.narrowed-next.ensures (c.walk.ensures.walked f h) c.if-walk.false,
      same-on {a = c.args.at.now} c.loop-x.invariant.3 c.walk.ensures.lent,
    )

pub returns-clause-walked : goal.returns-clause-walked
returns-clause-walked g t c = λ f h.
    let none : pairs_left c.loop-x.x-iterator ≡ [] = c.in-None.ensures.steps.0 in
    let spans : c.args.spans.now ≡ c.in-Some.span.now ∷ c.in-Some.rest.now = c.in-Some.ensures.cases.0 in
    subst (λ ps. Walked f c.args.marks.now ps c.args.met (shown c.args.at.now) false (shown c.loop-x.at)) (sym spans)
    (over f c.args.marks.now c.in-Some.span.now c.in-Some.rest.now c.args.met (shown c.args.at.now) none (c.loop-x.invariant.2 f h))

pub returns-clause-lent : goal.returns-clause-lent
returns-clause-lent g t c = c.loop-x.invariant.3
