-- What the loops over the lines of a part cite. Assumes nothing.
use Rattle.std.proofs.Common.{◌≡◌, ℕ, ◌+◌, List, Bool, sym, ap, ◌∙◌}
use Rattle.lists.specs.Tab.{each}
use Rattle.frames.specs.Scene.{Scene}
use Rattle.plan.specs.declared.Part.{Part}
use Rattle.paint.specs.Engine.Rows.{laid_line}

-- a part that the loop may be of: it knows of its lines alone
pub record Lines (part : Part) (first count : ℕ) : Type 0 where
  pub at : part.first ≡ first
  pub long : part.count ≡ count

-- the line's number, as the part has it
pub numbered : (s : Scene) (part : Part) (fresh : Bool) (first k : ℕ) (line line' : List ℕ) → part.first ≡ first
    → line' ≡ each (laid_line s part fresh (first + k)) line → line' ≡ each (laid_line s part fresh (part.first + k)) line
numbered s part fresh first k line line' e f =
    f ∙ ap (λ (n : ℕ). each (laid_line s part fresh (n + k)) line) (sym e)
