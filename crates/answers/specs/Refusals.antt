-- The numbers of refusals by name, and of what a call comes to. Assumes nothing.
use Rattle.std.specs.Prelude.{ℕ, Result, Ok, Err}
use Rattle.answers.specs.declared.Refusal.{Refusal}
use Rattle.answers.specs.declared.Refusal.TheVariants.{NoRegister, NoSelection, NotSelected, BankActive, BankFull, TablesLength}
use Rattle.answers.specs.declared.Refusal.TheVariants.{ReservedBit, EmptyScreen, EmptyLayer, OffScreen, SameDepth, NoSize}
use Rattle.answers.specs.declared.Refusal.TheVariants.{OutputLength, PicturesLength, NoBand, ImageLength, GlyphBits}
use Rattle.answers.specs.declared.Refusal.TheVariants.{FloatsLength, StateLength}
use Rattle.answers.specs.Answers.{done, no_register, no_selection, not_selected, bank_active, bank_full, tables_length}
use Rattle.answers.specs.Answers.{reserved_bit, empty_screen, empty_layer, off_screen, same_depth, no_size, output_length}
use Rattle.answers.specs.Answers.{pictures_length, no_band, image_length, glyph_bits, floats_length, state_length}

-- 01 "Answers by number", row for row, and those of 02
abbrev pub number_of : Refusal → ℕ
number_of NoRegister = no_register
number_of NoSelection = no_selection
number_of NotSelected = not_selected
number_of BankActive = bank_active
number_of BankFull = bank_full
number_of TablesLength = tables_length
number_of ReservedBit = reserved_bit
number_of EmptyScreen = empty_screen
number_of EmptyLayer = empty_layer
number_of OffScreen = off_screen
number_of SameDepth = same_depth
number_of NoSize = no_size
number_of OutputLength = output_length
number_of PicturesLength = pictures_length
number_of NoBand = no_band
number_of ImageLength = image_length
number_of GlyphBits = glyph_bits
number_of FloatsLength = floats_length
number_of StateLength = state_length

-- 0 of what was done, and else the number of the refusal
abbrev pub answer_of : Result Unit Refusal → ℕ
answer_of (Ok _) = done
answer_of (Err refusal) = number_of refusal
