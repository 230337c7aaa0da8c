-- `span::blocks::put16` meets its contract: what is stored are the joined pixels. Assumes nothing.
use borrow.Author.Rules.{rules}
use Rattle.span.proofs.OverParts.{copy-block}
use Rattle.span.proofs.blocks.put16.Goals as goal

pub returns : goal.returns
returns c = record {
  over = λ s ep. copy-block _ _ _ (search rules) ep c.pixels-q.ensures c.joined-w.ensures
      c.halves-h.ensures c.store.ensures;
}
