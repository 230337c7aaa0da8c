-- What a line prints has room: 8,211 bytes. Assumes nothing.
use Prim.Native.Nat.{ℕ, ◌*◌, ◌≤◌}
use mathlib.Core.Path.{◌≡◌, ◌∙◌}
use mathlib.Core.List.{List, [], ◌∷◌}
use native.Mathlib.Omega.{arith}
use borrow.Author.Tests.{leb-true}
use lib.Dec.{eqb, leb}
use lib.ListN.{length, length-replicate}
use Rattle.lists.specs.Choice.{both}
use Rattle.lists.proofs.Choice.{pick-keeps, choose-keeps}
use Rattle.answers.specs.Answers.{done}
use Rattle.mix.specs.Pixel.{pixel_len}
use Rattle.words.specs.Fields.{width_of, height_of}
use Rattle.display.specs.declared.Display.{Display}
use Rattle.display.specs.declared.Told.{Told}
use Rattle.display.proofs.Calls.{length-frame_bytes}
use Rattle.hexadecimal.specs.Hex.{is_hex, bytes_in}
use Rattle.texts.proofs.PrintLaws.{length-reply_text}
use Rattle.steps.specs.Form.{is_formed}
use Rattle.line.specs.Sizes.{most_digits, most_lent, most_reply, most_printed}
use Rattle.line.specs.Line.{Outcome, Ran, lent_for, zeros, lent_of, painted_of, reply_of, closed_of}
use Rattle.line.specs.Line.{work_of, done_of, outcome_of, line_of}

-- the bytes of a frame, those before them, two digits for each, and a line feed

lent_for-le : (w h : ℕ) → lent_for w h ≤ most_lent
lent_for-le w h =
    pick-keeps (λ (n : ℕ). n ≤ most_lent) (leb (pixel_len * (w * h)) most_lent) (pixel_len * (w * h)) most_lent
    (λ t. leb-true _ _ t) (λ f. omega arith)

painted-le : (r : Told) (t p : List ℕ) → length (painted_of r t p) ≤ most_lent
unfolding painted_of lent_of zeros
painted-le r t p =
    let n : ℕ = lent_for (width_of r.state.active) (height_of r.state.active) in
    let e : length (painted_of r t p) ≡ n = length-frame_bytes r.state t p [] _ ∙ length-replicate {A = ℕ} n 0 in
    omega (arith, lent_for-le (width_of r.state.active) (height_of r.state.active))

reply_of-le : (r : Told) (bytes : List ℕ) → length bytes ≤ most_lent → length (reply_of r bytes) ≤ most_reply
unfolding reply_of
reply_of-le r bytes h =
    choose-keeps (λ (l : List ℕ). length (r.answer ∷ l) ≤ most_reply) (eqb r.answer done) _ _
    (λ t. omega arith) (λ f. omega arith)

abbrev Short : Outcome → Type 0
Short o = length o.reply ≤ most_reply

reply-le : (d : Display) (t x : List ℕ) → Short (outcome_of d t x)
unfolding outcome_of done_of work_of closed_of
reply-le d t x =
    choose-keeps Short (both (leb (length x) most_digits) (is_hex x)) _ _
    (λ g. choose-keeps Short (is_formed (bytes_in x)) _ _ (λ f. reply_of-le _ _ (painted-le _ _ _)) (λ f. omega arith))
    (λ g. omega arith)

abbrev pub Fits : Ran → Type 0
Fits r = length r.printed ≤ most_printed

pub line-le : (d : Display) (t x : List ℕ) → Fits (line_of d t x)
unfolding line_of
line-le d t x = omega (arith, length-reply_text (outcome_of d t x).reply, reply-le d t x)
