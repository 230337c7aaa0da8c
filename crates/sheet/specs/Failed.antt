-- What a block leaves where writing fails between its calls. Assumes nothing.
use Rattle.std.specs.Prelude.{◌≡◌, ℕ, List, []}
use Rattle.lines.specs.declared.blocks.Going.{Going}
use Rattle.lines.specs.Blocks.{Batch}
use Rattle.lines.specs.Calls.{calls_of}

-- the first n calls on the block l, and what they find: what goes on, the tables and the text's buffer
abbrev pub calls_on : ℕ → List ℕ → Going → List ℕ → List ℕ → Batch
calls_on n l g t u = calls_of n l (record { going = g; tables = t; text = u; used = 0; printed = [] })

-- the tables t' and the text's buffer u' are what some of its calls left
abbrev pub LeftBySome : List ℕ → Going → List ℕ → List ℕ → List ℕ → List ℕ → Type 0
LeftBySome l g t u t' u' = (n : ℕ) × ((t' ≡ (calls_on n l g t u).tables) × (u' ≡ (calls_on n l g t u).text))
