-- No two outcomes meet a function's promise. `Post` is the function's own `ensures`, as the check reads it
-- in `src/`: of the arguments i, the answer a or b, and the arguments at exit, e or f. Assumes nothing.
use mathlib.Core.Path.{◌≡◌, sym, ◌∙◌}
use Rattle.words.proofs.KindLaws.{kind-number-unique}
use Rattle.tables.proofs.font_len.Reads as FontLen
use Rattle.tables.proofs.tables_len.Reads as TablesLen
use Rattle.tables.proofs.controller_of.Reads as ControllerOf
use Rattle.tables.proofs.kind_of.Reads as KindOf
use Rattle.tables.proofs.bank_of.Reads as BankOf
use Rattle.tables.proofs.end_of.Reads as EndOf
use Rattle.tables.proofs.first_byte_of.Reads as FirstByteOf
use Rattle.tables.proofs.is_named.Reads as IsNamed
use Rattle.tables.proofs.active_at.Reads as ActiveAt

pub font-len-unique : (κs i a b e f : _) → FontLen.Post κs i a e → FontLen.Post κs i b f → a ≡ b
font-len-unique κs i a b e f p q = p ∙ sym q

pub tables-len-unique : (κs i a b e f : _) → TablesLen.Post κs i a e → TablesLen.Post κs i b f → a ≡ b
tables-len-unique κs i a b e f p q = p ∙ sym q

pub controller-of-unique : (κs i a b e f : _) → ControllerOf.Post κs i a e → ControllerOf.Post κs i b f → a ≡ b
controller-of-unique κs i a b e f p q = p ∙ sym q

pub kind-of-unique : (κs i a b e f : _) → KindOf.Post κs i a e → KindOf.Post κs i b f → a ≡ b
kind-of-unique κs i a b e f p q = kind-number-unique a b (p ∙ sym q)

pub bank-of-unique : (κs i a b e f : _) → BankOf.Post κs i a e → BankOf.Post κs i b f → a ≡ b
bank-of-unique κs i a b e f p q = p ∙ sym q

pub end-of-unique : (κs i a b e f : _) → EndOf.Post κs i a e → EndOf.Post κs i b f → a ≡ b
end-of-unique κs i a b e f p q = p ∙ sym q

pub first-byte-of-unique : (κs i a b e f : _) → FirstByteOf.Post κs i a e → FirstByteOf.Post κs i b f → a ≡ b
first-byte-of-unique κs i a b e f p q = p.0 ∙ sym q.0

pub is-named-unique : (κs i a b e f : _) → IsNamed.Post κs i a e → IsNamed.Post κs i b f → a ≡ b
is-named-unique κs i a b e f p q = p ∙ sym q

pub active-at-unique : (κs i a b e f : _) → ActiveAt.Post κs i a e → ActiveAt.Post κs i b f → a ≡ b
active-at-unique κs i a b e f p q = p.0 ∙ sym q.0
