-- A byte that is put once and then n times more. Assumes nothing.
use Rattle.std.specs.Prelude.{ℕ, zero, suc, List}
use Rattle.display.specs.declared.Display.{Display}
use Rattle.display.specs.declared.Told.{Told}
use Rattle.display.specs.Put.{put_of, put_tables}

-- what the last of the puts answers, with the state, and the tables after it
unfoldable pub often : ℕ → Display → List ℕ → ℕ → Told × List ℕ
often zero d l byte = (put_of d l, put_tables d l byte)
often (suc n) d l byte = (
  put_of (often n d l byte).0.state (often n d l byte).1,
  put_tables (often n d l byte).0.state (often n d l byte).1 byte,
)
