-- No two outcomes meet a function's promise. `Post` is the function's own `ensures`, as the check reads it
-- in `src/`: of the arguments i, the answer a or b, and the arguments at exit, e or f. Assumes nothing.
use mathlib.Core.Path.{◌≡◌}
use Rattle.lists.proofs.Choice.{meet}
use Rattle.words.proofs.fields.is_shown.Reads as IsShown
use Rattle.words.proofs.fields.is_update.Reads as IsUpdate
use Rattle.words.proofs.fields.screen_width.Reads as ScreenWidth
use Rattle.words.proofs.fields.screen_height.Reads as ScreenHeight
use Rattle.words.proofs.fields.ground_of.Reads as GroundOf
use Rattle.words.proofs.fields.active_bank.Reads as ActiveBank
use Rattle.words.proofs.fields.layer_word.Reads as LayerWord
use Rattle.words.proofs.fields.layer_of.Reads as LayerOf
use Rattle.words.proofs.kinds.Kind.number.Reads as Number
use Rattle.words.proofs.change.with_off.Reads as WithOff
use Rattle.words.proofs.change.with_bytes.Reads as WithBytes
use Rattle.words.proofs.change.with_depth.Reads as WithDepth
use Rattle.words.proofs.change.with_pair.Reads as WithPair
use Rattle.words.proofs.image.word_at.Reads as WordAt
use Rattle.words.proofs.image.words_at.Reads as WordsAt

pub is-shown-unique : (κs i a b e f : _) → IsShown.Post κs i a e → IsShown.Post κs i b f → a ≡ b
is-shown-unique κs i a b e f p q = meet p q

pub is-update-unique : (κs i a b e f : _) → IsUpdate.Post κs i a e → IsUpdate.Post κs i b f → a ≡ b
is-update-unique κs i a b e f p q = meet p q

pub screen-width-unique : (κs i a b e f : _) → ScreenWidth.Post κs i a e → ScreenWidth.Post κs i b f → a ≡ b
screen-width-unique κs i a b e f p q = meet p q

pub screen-height-unique : (κs i a b e f : _) → ScreenHeight.Post κs i a e → ScreenHeight.Post κs i b f → a ≡ b
screen-height-unique κs i a b e f p q = meet p q

pub ground-of-unique : (κs i a b e f : _) → GroundOf.Post κs i a e → GroundOf.Post κs i b f → a ≡ b
ground-of-unique κs i a b e f p q = meet p q

pub number-unique : (κs i a b e f : _) → Number.Post κs i a e → Number.Post κs i b f → a ≡ b
number-unique κs i a b e f p q = meet p.0 q.0

pub active-bank-unique : (κs i a b e f : _) → ActiveBank.Post κs i a e → ActiveBank.Post κs i b f → a ≡ b
active-bank-unique κs i a b e f p q = meet p q

pub layer-word-unique : (κs i a b e f : _) → LayerWord.Post κs i a e → LayerWord.Post κs i b f → a ≡ b
layer-word-unique κs i a b e f p q = meet p q

pub layer-of-unique : (κs i a b e f : _) → LayerOf.Post κs i a e → LayerOf.Post κs i b f → a ≡ b
layer-of-unique κs i a b e f p q = meet p q

pub word-at-unique : (κs i a b e f : _) → WordAt.Post κs i a e → WordAt.Post κs i b f → a ≡ b
word-at-unique κs i a b e f p q = meet p q

pub words-at-unique : (κs i a b e f : _) → WordsAt.Post κs i a e → WordsAt.Post κs i b f → a ≡ b
words-at-unique κs i a b e f p q = meet p q

pub with-off-unique : (κs i a b e f : _) → WithOff.Post κs i a e → WithOff.Post κs i b f → a ≡ b
with-off-unique κs i a b e f p q = meet p q

pub with-bytes-unique : (κs i a b e f : _) → WithBytes.Post κs i a e → WithBytes.Post κs i b f → a ≡ b
with-bytes-unique κs i a b e f p q = meet p q

pub with-depth-unique : (κs i a b e f : _) → WithDepth.Post κs i a e → WithDepth.Post κs i b f → a ≡ b
with-depth-unique κs i a b e f p q = meet p q

pub with-pair-unique : (κs i a b e f : _) → WithPair.Post κs i a e → WithPair.Post κs i b f → a ≡ b
with-pair-unique κs i a b e f p q = meet p q
