-- `texts::keep` meets its contract: the bytes for which there is room are copied behind those that are
-- held. Assumes nothing.
use native.Mathlib.Omega.{arith}
use mathlib.Core.Path.{sym}
use Rattle.texts.proofs.GatherLaws.{part-long, kept-long, kept-room, kept-over}
use Rattle.texts.proofs.keep.Goals as goal

pub slice_bounds-copy-end : goal.slice_bounds-copy-end
slice_bounds-copy-end c = sym (part-long c.args.text.now c.args.part.now c.args.held c.min-n.result
    c.min-m.result (omega (arith, c.min-n.ensures))
    (omega (arith, c.min-m.ensures)))

pub copy-requires : goal.copy-requires
copy-requires c = kept-room c.args.text.now c.args.part.now c.args.held c.min-n.result
    c.min-m.result (omega (arith, c.min-n.ensures))
    (omega (arith, c.min-m.ensures))

pub returns : goal.returns
returns c = let n = c.min-n in let m = c.min-m in (
  kept-long c.args.text.now c.args.part.now c.args.held n.result m.result
      (omega (arith, n.ensures)) (omega (arith, m.ensures)),
  omega (arith, n.ensures, m.ensures),
  kept-over c.args.text.now c.args.part.now c.args.held n.result m.result
      (omega (arith, n.ensures)) (omega (arith, m.ensures)) _ c.copy.ensures,
)
