-- How a line grows: its ground with the layers up to one that hides all under it, or with the first layer, and then a
-- layer more. Assumes nothing.
use mathlib.Core.Path.{◌≡◌, sym, ap, ◌∙◌}
use mathlib.Core.Bool.{true}
use mathlib.Core.List.{List}
use Prim.Native.Nat.{ℕ, ◌+◌, ◌<◌}
use native.Mathlib.Omega.{arith}
use lib.Ieee.{Float}
use lib.ListN.{length, get_or}
use Rattle.std.specs.Prelude.{Option, Some}
use Rattle.lists.specs.Tab.{each}
use Rattle.lists.proofs.Tab.{length-each}
use Rattle.mix.specs.declared.Ground.{Ground}
use Rattle.plan.specs.declared.Plan.{Plan}
use Rattle.plan.specs.Engine.Plan.{blank_step}
use Rattle.scanline.specs.Engine.Lines.{line_to, ground_byte, under_byte, Shows, Lends, Over, OverTo, Hides}
use Rattle.plan.proofs.PlanLaws.{planned-first, planned-number, planned-layer}
use Rattle.scanline.proofs.GroundLaws.{under-some}
use Rattle.scanline.proofs.LineLaws.{line-next}
use Rattle.paint.specs.Engine.Rows.{LaidTo}

module _ (tables pictures : List ℕ) (floats : List Float) (o : Option Ground) (plan : Plan) (y : ℕ) (line₀ line : List ℕ)
    (long : length line ≡ length line₀) where
  -- over a line that was written on, whose ground is the same
  module _ (same : each (under_byte o) line ≡ each (under_byte o) line₀) (line' : List ℕ) where
    pub laid-hiding : (g : Ground) (k : ℕ) → o ≡ Some g → k < plan.count
        → Hides (Shows pictures) (get_or plan.steps k blank_step) y (each (ground_byte g true) line) line'
        → LaidTo (Lends tables pictures floats) o plan (k + 1) y line₀ line'
    laid-hiding g k e lt h = record {
      over = λ s l lent of q.
          h.over s l k lent.shows (length-each _ _ ∙ long ∙ of) (planned-layer s l plan k q lt)
          (omega (arith, q.count)) (planned-number s l plan k q lt)
          ∙ ap (each (line_to s y l (k + 1))) (under-some g line ∙ ap (λ (p : Option Ground). each (under_byte p) line) (sym e) ∙ same);
    }

    pub laid-first : (k : ℕ)
        → OverTo (Lends tables pictures floats) (get_or plan.steps 0 blank_step) plan.count k y (each (under_byte o) line) line'
        → LaidTo (Lends tables pictures floats) o plan k y line₀ line'
    laid-first k h = record {
      over = λ s l lent of q.
          h.over s l lent (length-each _ _ ∙ long ∙ of) (planned-first s l plan q) ∙ ap (each (line_to s y l k)) same;
    }

  -- a layer more
  pub laid-more : (k : ℕ) (line' : List ℕ) → k < plan.count → LaidTo (Lends tables pictures floats) o plan k y line₀ line
      → Over (Lends tables pictures floats) (get_or plan.steps k blank_step) y line line'
      → LaidTo (Lends tables pictures floats) o plan (k + 1) y line₀ line'
  laid-more k line' lt t h = record {
    over = λ s l lent of q.
        line-next s y l line line' _ k _ (omega (arith, q.count)) (planned-number s l plan k q lt) (t.over s l lent of q)
        (h.over s lent (long ∙ of) (planned-layer s l plan k q lt));
  }
