-- The cases of put, from the tests that lead to each. Assumes nothing.
use Rattle.std.proofs.Common.{◌≡◌, ℕ, ◌+◌, ◌*◌, ◌^◌, ◌<◌, ◌≤◌, true, false, List, length, set, le-ltb, lt-ltb, eq-eqb, ne_eqb}
use lib.Bits.{bit_or}
use Rattle.answers.specs.Answers.{done, not_selected, bank_active, bank_full, tables_length}
use Rattle.tables.specs.Geometry.{tables_len}
use Rattle.tables.specs.Selection.{controller_of, end_of, first_byte_of, named_by}
use Rattle.display.specs.declared.Display.{Display}
use Rattle.display.specs.State.{bits_in, told, with_errors, with_place}
use Rattle.display.specs.Put.{put_answer, put_state, put_of, put_tables}

module _ (d : Display) (tables : List ℕ) where
  pub answer-length : (length tables ≡ tables_len (bits_in d) → ⊥) → put_answer d tables ≡ tables_length
  unfolding put_answer
  answer-length ne = rw (ne_eqb _ _ ne)

  module _ (long : length tables ≡ tables_len (bits_in d)) where
    pub answer-none : d.selection.made ≡ false → put_answer d tables ≡ not_selected
    unfolding put_answer
    answer-none s = rw (eq-eqb _ _ long, s)

    module _ (s : d.selection.made ≡ true) where
      pub answer-active : named_by d.active d.selection.number ≡ true → put_answer d tables ≡ bank_active
      unfolding put_answer
      answer-active n = rw (eq-eqb _ _ long, s, n)

      pub answer-done : named_by d.active d.selection.number ≡ false
          → d.selection.place < end_of (bits_in d) d.selection.number → put_answer d tables ≡ done
      unfolding put_answer
      answer-done n p = rw (eq-eqb _ _ long, s, n, lt-ltb _ _ p)

      pub answer-full : named_by d.active d.selection.number ≡ false
          → end_of (bits_in d) d.selection.number ≤ d.selection.place → put_answer d tables ≡ bank_full
      unfolding put_answer
      answer-full n p = rw (eq-eqb _ _ long, s, n, le-ltb _ _ p)

  -- what each answer leaves
  pub put-done : (byte : ℕ) → put_answer d tables ≡ done
      → (told (with_place d (d.selection.place + 1)) done ≡ put_of d tables)
      × (set tables (first_byte_of (bits_in d) d.selection.number + d.selection.place) byte ≡ put_tables d tables byte)
  unfolding put_of put_state put_tables
  put-done byte e = (rw e, rw e)

  pub put_full : (byte errors : ℕ) → put_answer d tables ≡ bank_full
      → errors ≡ bit_or d.errors (2 ^ (4 * controller_of d.selection.number + 1))
      → (told (with_errors d errors) bank_full ≡ put_of d tables) × (tables ≡ put_tables d tables byte)
  unfolding put_of put_state put_tables
  put_full byte errors e q = (rw (e, q), rw e)

  -- 3, 4, 6 change nothing
  pub put-length : (byte : ℕ) → put_answer d tables ≡ tables_length
      → (told d tables_length ≡ put_of d tables) × (tables ≡ put_tables d tables byte)
  unfolding put_of put_state put_tables
  put-length byte e = (rw e, rw e)

  pub put-none : (byte : ℕ) → put_answer d tables ≡ not_selected
      → (told d not_selected ≡ put_of d tables) × (tables ≡ put_tables d tables byte)
  unfolding put_of put_state put_tables
  put-none byte e = (rw e, rw e)

  pub put-active : (byte : ℕ) → put_answer d tables ≡ bank_active
      → (told d bank_active ≡ put_of d tables) × (tables ≡ put_tables d tables byte)
  unfolding put_of put_state put_tables
  put-active byte e = (rw e, rw e)
