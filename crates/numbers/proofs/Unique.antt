-- No two outcomes meet a function's promise. `Post` is the function's own `ensures`, as the check reads it
-- in `src/`: of the arguments i, the answer a or b, and the arguments at exit, e or f. Assumes nothing.
use mathlib.Core.Path.{◌≡◌}
use Rattle.lists.proofs.Choice.{meet}
use Rattle.numbers.proofs.filled.Reads as filled
use Rattle.numbers.proofs.word.Reads as word
use Rattle.numbers.proofs.put_words.Reads as PutWords

pub filled-unique : (g x y z copy clone d κs i a b e f : _) → filled.Post g x y z copy clone d κs i a e
    → filled.Post g x y z copy clone d κs i b f → a ≡ b
filled-unique g x y z copy clone d κs i a b e f p q = meet p q

pub word-unique : (κs i a b e f : _) → word.Post κs i a e → word.Post κs i b f → a ≡ b
word-unique κs i a b e f p q = meet p.0 q.0

-- every byte of the part
pub put-words-unique : (κs i a b e f : _) → PutWords.Post κs i a e → PutWords.Post κs i b f → e.0.now ≡ f.0.now
put-words-unique κs i a b e f p q = meet p q
