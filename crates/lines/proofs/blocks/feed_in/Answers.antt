-- `lines::blocks::feed_in` meets its contract: what the turns so far have left leads to what the call
-- leaves. The measure is what is left of the block. Assumes nothing.
use borrow.Author.Rules.{rules}
use native.Mathlib.Omega.{arith}
use mathlib.Core.Path.{refl, sym, ap, ◌∙◌}
use Rattle.lists.proofs.Over.{over_none}
use Rattle.lines.specs.Blocks.{Batch}
use Rattle.lines.specs.Engine.Turns.{batch_at}
use Rattle.lines.proofs.BlockLaws.{leads-first, goes_on-inside, goes_on-first, feed-turn, feed-is}
use Rattle.lines.proofs.BlockLaws.{over-over}
use Rattle.lines.proofs.Arranged.{turn_of-arranged}
use Rattle.lines.proofs.blocks.feed_in.Goals as goal

pub loop-tables-init : goal.loop-tables-init
loop-tables-init c = (
  leads-first
      c.args.going c.args.tables.now c.args.text.now c.args.block.now c.args.out.now,
  over_none c.args.out.now,
  omega arith,
  omega arith,
  (λ _. refl),
  refl,
  c.requires.0,
  c.requires.1,
  c.requires.2,
)

pub turn-c-requires : goal.turn-c-requires
turn-c-requires c = let i = c.loop-tables.invariant in let b =
    goes_on-inside _ _ _ (sym c.goes_on.ensures
    ∙ c.loop-tables-test.true) in
    (b.0, b.1, i.6, i.7, i.8)

pub loop-tables-smaller : goal.loop-tables-smaller
loop-tables-smaller c = let t = c.turn-c.ensures in omega (arith, t.used_lt_used.0, t.used_lt_used.1)

pub loop-tables-preserved : goal.loop-tables-preserved
loop-tables-preserved c = let l = c.loop-tables in let e =
    sym c.goes_on.ensures
    ∙ c.loop-tables-test.true in
    let t = c.turn-c in (
      feed-turn _ l.c l.tables l.text l.out _ (omega (arith, l.invariant.3, l.invariant.7)) l.invariant.0 t.result
          t.new.tables t.new.text t.new.out e t.ensures.out_after t.ensures.used_lt_used.0,
      over-over _ l.out t.new.out _ t.result.count t.ensures.used_lt_used.2
          (omega (arith, t.ensures.used_lt_used.3, l.invariant.7)) l.invariant.1 t.ensures.out_after_2 t.auto.out,
      t.ensures.used_lt_used.1,
      t.ensures.used_lt_used.3,
      (λ z. omega (arith, t.ensures.used_lt_used.0)),
      search rules,
      search rules,
      search rules,
      rw (ap (λ (b : Batch). b.going.state) t.ensures.out_after)
          (turn_of-arranged _ (batch_at l.c l.tables l.text l.out) l.invariant.8),
    )

pub returns : goal.returns
returns c =
    let l = c.loop-tables in
    let e = sym c.goes_on.ensures ∙ c.loop-tables-test.false in
    let r =
    feed-is _ l.c l.tables l.text l.out _ (omega (arith, l.invariant.3, l.invariant.7)) l.invariant.0 _ e
    l.invariant.1 in
    record {
      value = r.0;
      tables_after = r.1.0;
      text_after = r.1.1.0;
      out_after = r.1.1.1;
      used_nonzero = ((λ h. goes_on-first _ _ _ e l.invariant.4 h), l.invariant.2, l.invariant.3);
    }
