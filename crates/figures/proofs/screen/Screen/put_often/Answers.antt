-- `figures::screen::Screen::put_often` meets its contract: after i turns the byte was put i times more, and each put keeps
-- the layers arranged. Assumes nothing.
use Rattle.std.proofs.Common.{rules, ◌≡◌, arith, add-one, ap, ◌∙◌}
use Rattle.figures.specs.Often.{often}
use Rattle.figures.proofs.Kept.{put-kept}
use Rattle.figures.proofs.screen.Screen.put_often.Goals as goal

pub loop-init : goal.loop-init
unfolding often
loop-init c = (search (put-kept, rules), c.put-told.ensures.state, c.put-told.ensures.tables)

pub loop-preserved : goal.loop-preserved
unfolding often
loop-preserved c =
    let i = c.loop.invariant in (
      search (put-kept, rules),
      rw (add-one, ← i.1, ← i.2) c.put-told-in-loop.ensures.state,
      rw (add-one, ← i.1, ← i.2) c.put-told-in-loop.ensures.tables,
    )

pub returns-clause-state : goal.returns-clause-state
returns-clause-state c =
    let e : c.loop.counter ≡ c.args.more = omega arith in
    ap (λ t. t.state) (rw e at c.loop.invariant.1)

pub returns-clause-answer : goal.returns-clause-answer
returns-clause-answer c =
    let e : c.loop.counter ≡ c.args.more = omega arith in
    ap (λ t. t.answer) (rw e at c.loop.invariant.1)

pub returns-clause-tables : goal.returns-clause-tables
returns-clause-tables c =
    let e : c.loop.counter ≡ c.args.more = omega arith in
    rw e at c.loop.invariant.2
