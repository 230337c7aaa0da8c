-- A printed line, and what is printed behind others. Assumes nothing.
use Prim.Native.Nat.{ℕ, ◌+◌, ◌-◌, ◌*◌, ◌≤◌}
use mathlib.Core.Path.{◌≡◌, sym, ap, ◌∙◌}
use mathlib.Core.List.{List, [], ◌++◌, append_assoc, append-nil}
use native.Mathlib.Omega.{arith}
use lib.ListN.{length, take, drop, set, length-drop, length-append, drop_of_length-le}
use lib.Seq.{length-take-le, drop-drop}
use Rattle.lists.specs.Over.{over}
use Rattle.lists.proofs.Over.{over-set}
use Rattle.hexadecimal.specs.Hex.{digits_of}
use Rattle.hexadecimal.proofs.HexLaws.{length-digits_of}
use Rattle.texts.specs.Lines.{line_feed}
use Rattle.texts.specs.Replies.{reply_text}
use Rattle.texts.proofs.GatherLaws.{rest-is}

pub text-printed : (l o₀ o : List ℕ) → 2 * length l + 1 ≤ length o₀ → o ≡ over (digits_of l) o₀
    → (2 * length l + 1 ≡ length (reply_text l)) × (set o (2 * length l) line_feed ≡ over (reply_text l) o₀)
unfolding reply_text
text-printed l o₀ o h q =
    let k : 2 * length l ≡ length (digits_of l) = sym (length-digits_of l) in (
      simp length-append (omega arith),
      ap (λ (z : List ℕ). set z (2 * length l) line_feed) q
          ∙ over-set (digits_of l) o₀ (2 * length l) line_feed k (omega arith),
    )

pub length-reply_text : (l : List ℕ) → length (reply_text l) ≡ 2 * length l + 1
unfolding reply_text
length-reply_text l = simp length-append (omega (arith, length-digits_of l))

-- q printed behind the first n bytes of o
module _ (o q : List ℕ) (n : ℕ) (room : n + length q ≤ length o) where
  pub front_long : length (take n o ++ q) ≡ n + length q
  front_long =
      let a : length (take n o) ≡ n = length-take-le n o (omega arith) in
      simp length-append (omega arith)

  pub printed-behind : take n o ++ (over q (take (length o - n) (drop n o)) ++ drop (length o - n) (drop n o))
      ≡ over (take n o ++ q) o
  unfolding over
  printed-behind =
      let a : length (drop n o) ≤ length o - n = simp length-drop (omega arith) in
      let none : drop (length o - n) (drop n o) ≡ [] = drop_of_length-le (drop n o) a in
      ap (λ (z : List ℕ). take n o ++ ((q ++ drop (length q) (take (length o - n) (drop n o))) ++ z)) none
      ∙ ap (λ (z : List ℕ). take n o ++ z) (append-nil (q ++ drop (length q) (take (length o - n) (drop n o))))
      ∙ ap (λ (z : List ℕ). take n o ++ (q ++ drop (length q) z)) (rest-is o n)
      ∙ ap (λ (z : List ℕ). take n o ++ (q ++ z)) (drop-drop (length q) n o)
      ∙ sym (append_assoc (take n o) q (drop (n + length q) o))
      ∙ ap (λ (k : ℕ). (take n o ++ q) ++ drop k o) (sym front_long)
