-- `span::lay_if_opaque` meets its contract: the opaque blocks are laid, and the rest, where it is opaque too, is filled
-- and blended. Assumes nothing.
use native.Mathlib.Omega.{arith}
use Rattle.span.proofs.GroundLaws.{lay-each}
use Rattle.span.proofs.HideLaws.{opaque-all}
use Rattle.span.proofs.lay_if_opaque.Goals as goal

pub returns : goal.returns
returns c = λ e.
    let front = c.lay_front-i.ensures in let a = c.requires in (
      opaque-all _ _ (omega (arith, front.0.most, a.0)) front.0.border (rw a.0 at a.1) front.1
          (c.is_opaque_from.ensures c.if-not-is_opaque_from.false),
      lay-each _ _ _ front.0 c.fill_rest.ensures
          c.own_rest.ensures,
    )
