-- `hexadecimal::read_bytes` meets its contract. At the head of turn i the digits from 2·i on are as
-- good as the whole text, and the first i bytes stand before what they stand for. Assumes nothing.
use Prim.Native.Nat.{◌*◌}
use mathlib.Core.Path.{◌≡◌}
use mathlib.Core.List.{◌++◌}
use lib.ListN.{take, drop}
use Rattle.hexadecimal.specs.Hex.{is_hex, bytes_in}
use Rattle.hexadecimal.proofs.read_bytes.Given as goal

abbrev pub invariant-loop-i : goal.invariant-loop-i
invariant-loop-i l = (is_hex (drop (2 * l.i) l.text) ≡ is_hex l.text)
    × (take l.i l.bytes ++ bytes_in (drop (2 * l.i) l.text) ≡ bytes_in l.text)
