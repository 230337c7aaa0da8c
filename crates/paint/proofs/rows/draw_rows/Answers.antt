-- `paint::rows::draw_rows` meets its contract: the rooms are as long as the longest line, and the colours lie over the
-- painting's background. Assumes nothing.
use mathlib.Core.Path.{◌≡◌, ap, ◌∙◌}
use Prim.Native.Nat.{ℕ}
use native.Mathlib.Omega.{arith}
use lib.ListN.{length, length-replicate}
use Rattle.paint.proofs.rows.draw_rows.Goals as goal

pub lay_lines-requires-clause-prepared : goal.lay_lines-requires-clause-prepared
lay_lines-requires-clause-prepared c =
    let indexes : length c.filled-indexes.result ≡ 4096 = ap length c.filled-indexes.ensures ∙ length-replicate {A = ℕ} 4096 0 in
    let row : length c.filled-row.result ≡ 16384 = ap length c.filled-row.ensures ∙ length-replicate {A = ℕ} 16384 0 in
    λ drawn. record {
      scratch = record { wide = omega (arith, indexes); long = omega (arith, row) };
      lists = c.extents_of-extents.ensures;
      first = λ g e. rw (c.requires.backed g e) c.under_first-under.ensures;
    }
