-- What the workers of `src/blocks.rt` do: one line at most, and one turn of the loop over them. Assumes
-- nothing.
use Rattle.std.specs.Prelude.{ℕ, List, length, take}
use Rattle.texts.specs.Lines.{held_in, used_in}
use Rattle.line.specs.Line.{Ran}
use Rattle.lines.specs.declared.blocks.Going.{Going}
use Rattle.lines.specs.declared.blocks.Fed.{Fed}
use Rattle.lines.specs.Sizes.{most_kept}
use Rattle.lines.specs.Blocks.{Batch, line_begun, fed_run}

-- the bytes l fed to the end of one line at most, with u as the text's buffer
abbrev pub line_run : Going → List ℕ → List ℕ → List ℕ → Ran
line_run g t u l = fed_run g.state t (line_begun g u) l

-- what that answers
abbrev pub line_fed : Going → List ℕ → List ℕ → List ℕ → Fed
line_fed g t u l =
    record {
      going = record { state = (line_run g t u l).state; held = length (held_in most_kept (line_begun g u) l) };
      used = used_in l;
      count = length (line_run g t u l).printed;
    }

-- the batch so far, as the loop over turns has it: what is printed stands at the front of o
abbrev pub batch_at : Fed → List ℕ → List ℕ → List ℕ → Batch
batch_at c t u o = record { going = c.going; tables = t; text = u; used = c.used; printed = take c.count o }
