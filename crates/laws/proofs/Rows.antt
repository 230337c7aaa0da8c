-- 01 "Answers by number", row by row: a number is given exactly in its case with none of the earlier
-- ones, and what is left is as listed. Assumes nothing.
use mathlib.Core.Path.{◌≡◌, refl, sym, ◌∙◌}
use mathlib.Core.Bool.{Bool, true, false, false≢true}
use mathlib.Core.Logic.{◌↔◌, ◌⊎◌, inl, inr, ⊎_elim}
use mathlib.Core.List.{List, []}
use Prim.Native.Nat.{ℕ, ◌+◌, ◌*◌, ◌^◌, ◌≤◌, ◌<◌}
use native.Mathlib.Omega.{arith}
use borrow.Author.Tests.{eq-eqb, ne_eqb}
use lib.Dec.{eqb, ltb, leb}
use lib.Ieee.{Float}
use lib.ListN.{length, set}
use lib.Bits.{bit_or}
use Rattle.lists.specs.Choice.{pick, both, or_else, choose}
use Rattle.lists.specs.Over.{over}
use Rattle.lists.proofs.Choice.{split, same_or}
use Rattle.lists.proofs.Over.{over_none}
use Rattle.profiles.specs.Profile.{profile_of, one_bit, bits_of}
use Rattle.words.specs.Fields.{update_of, width_of, height_of}
use Rattle.words.specs.Check.{check_of, Accepted, LetIn}
use Rattle.words.specs.Pictures.{pictures_len}
use Rattle.words.proofs.PictureLaws.{no_floats}
use Rattle.tables.specs.Geometry.{tables_len}
use Rattle.tables.specs.Selection.{controller_of, first_byte_of, end_of, named_by}
use Rattle.frames.specs.Band.{band_of, errors_of}
use Rattle.frames.specs.Frame.{band_refusal, size_refusal, output_refusal, tables_refusal, pictures_refusal, floats_refusal}
use Rattle.frames.specs.Frame.{fill_refusal, paint_refusal, fill_of, frame_of}
use Rattle.frames.specs.Frame as painting
use Rattle.frames.specs.Line.{number_refusal, length_refusal, line_refusal, line_refusal_of, frame_line, line_after, line_errors_after}
use Rattle.display.specs.declared.Display.{Display}
use Rattle.display.specs.declared.Told.{Told}
use Rattle.display.specs.State.{with_pending, with_active, with_errors, fresh_selection, with_place, told, stepped, write_of}
use Rattle.display.specs.State.{bits_in, fresh, new_of, select_of, toggle_of, check_in, start_of}
use Rattle.display.specs.Put.{put_answer, put_state, put_of, put_tables}
use Rattle.display.specs.Reached.{Sound}
use Rattle.display.specs.Paint.{scene_with, fill_told, fill_bytes, paint_told, paint_bytes, frame_told, frame_bytes}
use Rattle.display.specs.Paint.{line_told, line_bytes}
use Rattle.words.specs.Image.{words_of, image_refusal}
use Rattle.host.specs.Host.{profile_for, scene_in, host_answer, host_output}
use Rattle.host.proofs.HostLaws.{host-tables}
use Rattle.repair.specs.Steps.{mend_of}
use Rattle.repair.specs.Changes.{changes_of, changed_of}
use Rattle.repair.specs.Image.{image_of, mend_answer, mend_image, mend_list, mend_count}
use Rattle.laws.proofs.Refusals.{Says, says-itself, eqb-says, ltb-says, leb-says, both-says, either-says, Tells}
use Rattle.laws.proofs.Refusals.{refuses, refuses-but, tells_as, over_zero, Misses, other, misses-or, or-first}
use Rattle.laws.proofs.Refusals.{or_later, given-when, passed-when, own, past}
use Rattle.laws.specs.Rows.{Row, StartRow, PutRow, FillRow, PaintRow, FrameRow, HostRow, Case7, Case8}
use Rattle.laws.specs.Rows.{Case9, Case10, Case11, Passing, Updates, NoBand, NoSize, WrongOutput, WrongTables, WrongBoth}
use Rattle.laws.specs.Rows.{WrongPictures, WrongFloats, Case6, Case14, Case18}
use Rattle.laws.specs.Rows.{BuffersFit, BytesFit, NotSelected, BankActive, BankFull}
use Rattle.laws.specs.Rows.{OneOrTwo, WrongImage, EmptyScreen, NoLine, WrongLine, LineRow, MendRow}
use Rattle.laws.proofs.CheckRows.{tells-8, check-7, check-8, check-9, check-10, check-11, check-0, check-misses}

-- ---- new, write, select and toggle

-- what is not below a bound
not-below : (n k : ℕ) → ¬ (n < k) → k ≤ n
not-below n k f = ⊎_elim (λ (h : n < k). absurd (f h)) (λ (h : k ≤ n). h) (split n k)

-- the same case in other words
row_as : {x k : ℕ} {P Q L : Type 0} → P ↔ Q → Row x k P L → Row x k Q L
row_as f r = record { only = λ e. f.0 (r.only e); when = λ q. r.when (f.1 q); leaves = r.leaves }

-- 02 K2: "The number of bits is chosen when a state is made"
pub new-0 : (bits : ℕ) (floats : Bool)
    → Row (new_of bits floats).answer 0 (OneOrTwo bits) ((new_of bits floats).state ≡ fresh (profile_of (eqb bits 2) floats))
new-0 bits floats = ⊎_elim
    (λ (e : bits ≡ 1). rw (e) (record { only = λ q. inl refl; when = λ p. refl; leaves = λ q. refl }))
    (λ (n : bits ≡ 1 → ⊥). ⊎_elim
    (λ (e : bits ≡ 2). rw (e) (record { only = λ q. inr refl; when = λ p. refl; leaves = λ q. refl }))
    (λ (m : bits ≡ 2 → ⊥). record {
      only = λ q. absurd (let z : 17 ≡ 0 = rw (ne_eqb bits 1 n, ne_eqb bits 2 m) at q in omega arith);
      when = λ p. absurd (⊎_elim n m p);
      leaves = λ q. absurd (let z : 17 ≡ 0 = rw (ne_eqb bits 1 n, ne_eqb bits 2 m) at q in omega arith);
    })
    (same_or bits 2))
    (same_or bits 1)

-- "handing back a fresh one-bit state"
pub new-17 : (bits : ℕ) (floats : Bool)
    → Row (new_of bits floats).answer 17 (¬ OneOrTwo bits) ((new_of bits floats).state ≡ fresh (one_bit floats))
new-17 bits floats = ⊎_elim
    (λ (e : bits ≡ 1). rw (e) (record {
      only = λ q. absurd (let z : 0 ≡ 17 = q in omega arith);
      when = λ p. absurd (p (inl refl));
      leaves = λ q. refl;
    }))
    (λ (n : bits ≡ 1 → ⊥). ⊎_elim
    (λ (e : bits ≡ 2). rw (e) (record {
      only = λ q. absurd (let z : 0 ≡ 17 = q in omega arith);
      when = λ p. absurd (p (inr refl));
      leaves = λ q. absurd (let z : 0 ≡ 17 = q in omega arith);
    }))
    (λ (m : bits ≡ 2 → ⊥). record {
      only = λ q p. ⊎_elim n m p;
      when = λ p. rw (ne_eqb bits 1 n, ne_eqb bits 2 m);
      leaves = λ q. rw (ne_eqb bits 1 n, ne_eqb bits 2 m);
    })
    (same_or bits 2))
    (same_or bits 1)

-- done with the state a, or refused with k and the state b
module _ (k : ℕ) (nz : eqb k 0 ≡ false) (a b : Display) where
  choice-done : {P : Type 0} (t : Bool) → Says t P
      → Row (choose t (told a 0) (told b k)).answer 0 P ((choose t (told a 0) (told b k)).state ≡ a)
  choice-done true s = record { only = λ q. s.0 refl; when = λ p. refl; leaves = λ q. refl }
  choice-done false s =
      record {
        only = λ q. absurd (over_zero nz refl q);
        when = λ p. absurd (s.1 refl p);
        leaves = λ q. absurd (over_zero nz refl q);
      }

  choice-refused : {P : Type 0} (t : Bool) → Says t P
      → Row (choose t (told a 0) (told b k)).answer k (¬ P) ((choose t (told a 0) (told b k)).state ≡ b)
  choice-refused true s =
      record {
        only = λ q. absurd (over_zero nz q refl);
        when = λ n. absurd (n (s.0 refl));
        leaves = λ q. absurd (over_zero nz q refl);
      }
  choice-refused false s = record { only = λ q. s.1 refl; when = λ n. refl; leaves = λ q. refl }

module _ (d : Display) where
  -- "register above 51": "all unchanged"
  pub write-1 : (register value : ℕ)
      → Row (write_of d register value).answer 1 (51 < register) ((write_of d register value).state ≡ d)
  write-1 register value =
      row_as (not-below register 52, λ h k. omega arith)
      (choice-refused 1 refl _ d (ltb register 52) (ltb-says register 52))

  pub write-0 : (register value : ℕ)
      → Row (write_of d register value).answer 0 (register ≤ 51)
      ((write_of d register value).state ≡ with_pending d (set d.pending register value))
  write-0 register value =
      row_as (λ h. omega arith, λ h. omega arith) (choice-done 1 refl _ d (ltb register 52) (ltb-says register 52))

  -- "above 63": "all unchanged"
  pub select-2 : (selection : ℕ)
      → Row (select_of d selection).answer 2 (63 < selection) ((select_of d selection).state ≡ d)
  select-2 selection =
      row_as (not-below selection 64, λ h k. omega arith)
      (choice-refused 2 refl _ d (ltb selection 64) (ltb-says selection 64))

  pub select-0 : (selection : ℕ)
      → Row (select_of d selection).answer 0 (selection ≤ 63) ((select_of d selection).state ≡ fresh_selection d selection)
  select-0 selection =
      row_as (λ h. omega arith, λ h. omega arith) (choice-done 2 refl _ d (ltb selection 64) (ltb-says selection 64))

  -- "this is never refused"
  pub toggle-0 : (bits : ℕ) → (toggle_of d bits).answer ≡ 0
  toggle-0 bits = refl

-- ---- start

-- words whose check gives c: taken with the state a, or refused with the state b
module _ (a b : Display) (c : ℕ) where
  started : Told
  started = choose (eqb c 0) (told a 0) (told b c)

  started-answer : started.answer ≡ c
  unfolding started
  started-answer = ⊎_elim (λ (z : c ≡ 0). rw z) (λ (ne : ¬ (c ≡ 0)). rw (ne_eqb c 0 ne)) (same_or c 0)

  module _ (r : ℕ) {C : Type 0} (f : (c ≡ r) ↔ C) where
    start-refused : eqb r 0 ≡ false → (t : Bool)
        → Row (choose t started (told b 0)).answer r ((t ≡ true) × C) ((choose t started (told b 0)).state ≡ b)
    unfolding started
    start-refused nz true =
        record {
          only = λ q. (refl, f.0 (sym started-answer ∙ q));
          when = λ p. started-answer ∙ f.1 p.1;
          leaves = λ q. rw (ne_eqb c 0 (over_zero nz (sym started-answer ∙ q)));
        }
    start-refused nz false =
        record { only = λ q. absurd (over_zero nz q refl); when = λ p. absurd (false≢true p.0); leaves = λ q. refl }

  start-done : {C : Type 0} → (c ≡ 0) ↔ C → (t : Bool)
      → Row (choose t started (told b 0)).answer 0 ((t ≡ false) ⊎ C)
      ((t ≡ false → (choose t started (told b 0)).state ≡ b) × (t ≡ true → (choose t started (told b 0)).state ≡ a))
  unfolding started
  start-done f true =
      record {
        only = λ q. inr (f.0 (sym started-answer ∙ q));
        when = ⊎_elim (λ e. absurd (false≢true (sym e))) (λ p. started-answer ∙ f.1 p);
        leaves = λ q. (λ e. absurd (false≢true (sym e)), λ e. rw (eq-eqb c 0 (sym started-answer ∙ q)));
      }
  start-done f false =
      record { only = λ q. inl refl; when = λ p. refl; leaves = λ q. (λ e. refl, λ e. absurd (false≢true e)) }

module _ (d : Display) where
  start-row : (r : ℕ) {C : Type 0} → eqb r 0 ≡ false → (check_in d ≡ r) ↔ C → StartRow d r C
  unfolding started
  start-row r nz f =
      start-refused (with_active (stepped d) d.pending) (stepped d) (check_in d) r f nz
      (update_of d.pending)

  pub start-7 : StartRow d 7 (Case7 d.profile.floats d.pending)
  start-7 = start-row 7 refl (check-7 d.pending d.profile.floats)

  pub start-8 : StartRow d 8 (Case8 d.profile.floats d.pending)
  start-8 = start-row 8 refl (check-8 d.pending d.profile.floats)

  pub start-9 : StartRow d 9 (Case9 d.profile.floats d.pending)
  start-9 = start-row 9 refl (check-9 d.pending d.profile.floats)

  pub start-10 : StartRow d 10 (Case10 d.profile.floats d.pending)
  start-10 = start-row 10 refl (check-10 d.pending d.profile.floats)

  pub start-11 : StartRow d 11 (Case11 d.profile.floats d.pending)
  start-11 = start-row 11 refl (check-11 d.pending d.profile.floats)

  -- "if they pass they become the active ones. With the update bit clear nothing is checked or copied."
  pub start-0 : Row (start_of d).answer 0 ((update_of d.pending ≡ false) ⊎ Passing d.profile.floats d.pending)
      ((update_of d.pending ≡ false → (start_of d).state ≡ stepped d)
      × (Updates d → (start_of d).state ≡ with_active (stepped d) d.pending))
  unfolding started
  start-0 =
      start-done (with_active (stepped d) d.pending) (stepped d) (check_in d) (check-0 d.pending d.profile.floats)
      (update_of d.pending)

-- ---- fill and paint

not-both : (a b : ℕ) → (¬ ((a ≤ b) × (b ≤ 8))) ↔ NoBand a b
not-both a b = (
  λ n. ⊎_elim (λ (h : b < a). inl h)
      (λ (h : a ≤ b). ⊎_elim (λ (k : 8 < b). inr k) (λ (k : b ≤ 8). absurd (n (h, k))) (split 8 b)) (split b a),
  λ q p. ⊎_elim (λ (h : b < a). let k = p.0 in omega arith) (λ (h : 8 < b). let k = p.1 in omega arith) q,
)

tells-15 : (a b : ℕ) → Tells (band_refusal a b) 15 (NoBand a b)
tells-15 a b =
    tells_as (not-both a b)
    (refuses-but (both (leb a b) (leb b 8)) 15 (both-says (leb a b) (leb b 8) (leb-says a b) (leb-says b 8)))

module _ (w : List ℕ) where
  tells-12 : Tells (size_refusal w) 12 (NoSize w)
  tells-12 = refuses _ 12 (either-says _ _ (eqb-says (width_of w) 0) (eqb-says (height_of w) 0))

  tells-13 : (out : List ℕ) → Tells (output_refusal w (length out)) 13 (WrongOutput w out)
  tells-13 out = refuses-but _ 13 (eqb-says (length out) (4 * (width_of w * height_of w)))

  tells-14 : (pictures : List ℕ) → Tells (pictures_refusal w (length pictures)) 14 (WrongPictures w pictures)
  tells-14 pictures = refuses-but _ 14 (eqb-says (length pictures) (pictures_len false w))

  tells-18 : (floats : List Float) → Tells (floats_refusal w (length floats)) 18 (WrongFloats w floats)
  tells-18 floats = refuses-but _ 18 (eqb-says (length floats) (pictures_len true w))

tells-6 : (bits : ℕ) (tables : List ℕ) → Tells (tables_refusal bits (length tables)) 6 (WrongTables bits tables)
tells-6 bits tables = refuses-but _ 6 (eqb-says (length tables) (tables_len bits))

module _ (d : Display) (out : List ℕ) where
  fill-row : (r : ℕ) {C : Type 0} → eqb r 0 ≡ false → (fill_refusal d.active (length out) ≡ r) ↔ C → FillRow d out r C
  unfolding fill_told fill_bytes painting.fill_after
  fill-row r nz f = record { only = f.0; when = f.1; leaves = λ q. (refl, rw (ne_eqb _ 0 (over_zero nz q))) }

  pub fill-12 : FillRow d out 12 (NoSize d.active)
  unfolding fill_refusal
  fill-12 = fill-row 12 refl (own refl _ (tells-12 d.active) (other 12 refl (tells-13 d.active out)))

  pub fill-13 : FillRow d out 13 ((¬ NoSize d.active) × WrongOutput d.active out)
  unfolding fill_refusal
  fill-13 = fill-row 13 refl (past refl _ 13 refl (tells-12 d.active) (given-when refl (tells-13 d.active out)))

  pub fill-0 : Row (fill_told d out).answer 0 ((¬ NoSize d.active) × (¬ WrongOutput d.active out))
      (((fill_told d out).state ≡ d) × (fill_bytes d out ≡ fill_of d.active))
  unfolding fill_refusal fill_told fill_bytes painting.fill_after
  fill-0 =
      let f = past refl _ 0 refl (tells-12 d.active) (passed-when refl (tells-13 d.active out)) in
      record { only = f.0; when = f.1; leaves = λ q. (refl, rw (eq-eqb _ 0 q)) }

-- 12, 13, 6, 14, 18, of the bits a glyph pixel has, the words and what is lent
abbrev lent : ℕ → List ℕ → List ℕ → List ℕ → List ℕ → List Float → ℕ
lent bits w out tables pictures floats =
    or_else (size_refusal w) (or_else (output_refusal w (length out))
    (or_else (tables_refusal bits (length tables))
    (or_else (pictures_refusal w (length pictures)) (floats_refusal w (length floats)))))

-- where the tables are wrong in the case `Wrong`
module _ (bits : ℕ) (w out tables pictures : List ℕ) (floats : List Float) (Wrong : Type 0)
    (wrong : Tells (tables_refusal bits (length tables)) 6 Wrong) where
  pictured-misses : (r : ℕ) → eqb 14 r ≡ false → eqb 18 r ≡ false
      → Misses (or_else (pictures_refusal w (length pictures)) (floats_refusal w (length floats))) r
  pictured-misses r a b =
      misses-or (pictures_refusal w (length pictures)) _ r (other r a (tells-14 w pictures)) (other r b (tells-18 w floats))

  last-misses : (r : ℕ) → eqb 6 r ≡ false → eqb 14 r ≡ false → eqb 18 r ≡ false
      → Misses (or_else (tables_refusal bits (length tables))
      (or_else (pictures_refusal w (length pictures)) (floats_refusal w (length floats)))) r
  last-misses r c e f =
      misses-or (tables_refusal bits (length tables)) _ r (other r c wrong) (pictured-misses r e f)

  lent-misses : (r : ℕ) → eqb 12 r ≡ false → eqb 13 r ≡ false → eqb 6 r ≡ false → eqb 14 r ≡ false → eqb 18 r ≡ false
      → Misses (lent bits w out tables pictures floats) r
  lent-misses r a b c e f =
      misses-or (size_refusal w) _ r (other r a (tells-12 w))
      (misses-or (output_refusal w (length out)) _ r (other r b (tells-13 w out)) (last-misses r c e f))

  lent-12 : (lent bits w out tables pictures floats ≡ 12) ↔ NoSize w
  lent-12 = own refl _ (tells-12 w) (misses-or (output_refusal w (length out)) _ 12 (other 12 refl (tells-13 w out))
      (last-misses 12 refl refl refl))

  lent-13 : (lent bits w out tables pictures floats ≡ 13) ↔ ((¬ NoSize w) × WrongOutput w out)
  lent-13 = past refl _ 13 refl (tells-12 w) (own refl _ (tells-13 w out)
      (last-misses 13 refl refl refl))

  lent-6 : (lent bits w out tables pictures floats ≡ 6) ↔ ((¬ NoSize w) × Case6 w out Wrong)
  lent-6 = past refl _ 6 refl (tells-12 w)
      (past refl _ 6 refl (tells-13 w out) (own refl _ wrong (pictured-misses 6 refl refl)))

  lent-14 : (lent bits w out tables pictures floats ≡ 14) ↔ ((¬ NoSize w) × Case14 w out Wrong pictures)
  lent-14 = past refl _ 14 refl (tells-12 w)
      (past refl _ 14 refl (tells-13 w out)
      (past refl _ 14 refl wrong (own refl _ (tells-14 w pictures) (other 14 refl (tells-18 w floats)))))

  lent-18 : (lent bits w out tables pictures floats ≡ 18) ↔ ((¬ NoSize w) × Case18 w out Wrong pictures floats)
  lent-18 = past refl _ 18 refl (tells-12 w)
      (past refl _ 18 refl (tells-13 w out)
      (past refl _ 18 refl wrong
      (past refl _ 18 refl (tells-14 w pictures) (given-when refl (tells-18 w floats)))))

  lent-0 : (lent bits w out tables pictures floats ≡ 0)
      ↔ ((¬ NoSize w) × BuffersFit w out Wrong pictures floats)
  lent-0 = past refl _ 0 refl (tells-12 w)
      (past refl _ 0 refl (tells-13 w out)
      (past refl _ 0 refl wrong (past refl _ 0 refl (tells-14 w pictures) (passed-when refl (tells-18 w floats)))))

-- "Paint 15, 12, 13, 6, 14.", and 18
module _ (d : Display) (a b : ℕ) (tables pictures : List ℕ) (floats : List Float) (out : List ℕ) where
  paint-row : (r : ℕ) {C : Type 0} → eqb r 0 ≡ false
      → (painting.refusal_of (scene_with d tables pictures floats) a b out ≡ r) ↔ C → PaintRow d a b tables pictures floats out r C
  unfolding paint_told paint_bytes painting.errors_after painting.paint_after
  paint-row r nz f =
      record {
        only = f.0;
        when = f.1;
        leaves = λ q. (rw (ne_eqb _ 0 (over_zero nz q)), rw (ne_eqb _ 0 (over_zero nz q)));
      }

  pub paint-15 : PaintRow d a b tables pictures floats out 15 (NoBand a b)
  unfolding paint_refusal
  paint-15 =
      paint-row 15 refl (own refl _ (tells-15 a b) (lent-misses (bits_in d) d.active out tables pictures floats _
      (tells-6 (bits_in d) tables) 15 refl refl refl refl refl))

  pub paint-12 : PaintRow d a b tables pictures floats out 12 ((¬ NoBand a b) × NoSize d.active)
  unfolding paint_refusal
  paint-12 = paint-row 12 refl (past refl _ 12 refl (tells-15 a b) (lent-12 (bits_in d)
      d.active out tables pictures floats _ (tells-6 (bits_in d) tables)))

  pub paint-13 : PaintRow d a b tables pictures floats out 13
      ((¬ NoBand a b) × ((¬ NoSize d.active) × WrongOutput d.active out))
  unfolding paint_refusal
  paint-13 = paint-row 13 refl (past refl _ 13 refl (tells-15 a b) (lent-13 (bits_in d)
      d.active out tables pictures floats _ (tells-6 (bits_in d) tables)))

  pub paint-6 : PaintRow d a b tables pictures floats out 6
      ((¬ NoBand a b) × ((¬ NoSize d.active) × Case6 d.active out (WrongTables (bits_in d) tables)))
  unfolding paint_refusal
  paint-6 = paint-row 6 refl (past refl _ 6 refl (tells-15 a b) (lent-6 (bits_in d) d.active out tables pictures floats _
      (tells-6 (bits_in d) tables)))

  pub paint-14 : PaintRow d a b tables pictures floats out 14
      ((¬ NoBand a b) × ((¬ NoSize d.active) × Case14 d.active out (WrongTables (bits_in d) tables) pictures))
  unfolding paint_refusal
  paint-14 = paint-row 14 refl (past refl _ 14 refl (tells-15 a b) (lent-14 (bits_in d)
      d.active out tables pictures floats _ (tells-6 (bits_in d) tables)))

  pub paint-18 : PaintRow d a b tables pictures floats out 18
      ((¬ NoBand a b) × ((¬ NoSize d.active) × Case18 d.active out (WrongTables (bits_in d) tables) pictures floats))
  unfolding paint_refusal
  paint-18 = paint-row 18 refl (past refl _ 18 refl (tells-15 a b) (lent-18 (bits_in d)
      d.active out tables pictures floats _ (tells-6 (bits_in d) tables)))

  pub paint-0 : Row (paint_told d a b tables pictures floats out).answer 0
      ((¬ NoBand a b) × ((¬ NoSize d.active) × BuffersFit d.active out (WrongTables (bits_in d) tables) pictures floats))
      (((paint_told d a b tables pictures floats out).state
      ≡ with_errors d (errors_of (scene_with d tables pictures floats) a b d.errors))
      × (paint_bytes d a b tables pictures floats out ≡ band_of (scene_with d tables pictures floats) a b out))
  unfolding paint_refusal paint_told paint_bytes painting.errors_after painting.paint_after
  paint-0 =
      let f = past refl _ 0 refl (tells-15 a b) (lent-0 (bits_in d) d.active out tables pictures floats _ (tells-6
      (bits_in d) tables)) in
      record { only = f.0; when = f.1; leaves = λ q. (rw (eq-eqb _ 0 q), rw (eq-eqb _ 0 q)) }

-- "A whole frame is a fill and band 0..8, refused as paint."
module _ (d : Display) (tables pictures : List ℕ) (floats : List Float) (out : List ℕ) where
  frame_row : (r : ℕ) {C : Type 0} → eqb r 0 ≡ false
      → (painting.refusal_of (scene_with d tables pictures floats) 0 8 out ≡ r) ↔ C → FrameRow d tables pictures floats out r C
  unfolding frame_told frame_bytes paint_told painting.errors_after painting.frame_after
  frame_row r nz f =
      record {
        only = f.0;
        when = f.1;
        leaves = λ q. (rw (ne_eqb _ 0 (over_zero nz q)), rw (ne_eqb _ 0 (over_zero nz q)));
      }

  pub frame-12 : FrameRow d tables pictures floats out 12 (NoSize d.active)
  unfolding paint_refusal
  frame-12 = frame_row 12 refl (lent-12 (bits_in d) d.active out tables pictures floats _ (tells-6 (bits_in d) tables))

  pub frame-13 : FrameRow d tables pictures floats out 13 ((¬ NoSize d.active) × WrongOutput d.active out)
  unfolding paint_refusal
  frame-13 = frame_row 13 refl (lent-13 (bits_in d) d.active out tables pictures floats _ (tells-6 (bits_in d) tables))

  pub frame-6 : FrameRow d tables pictures floats out 6 ((¬ NoSize d.active)
      × Case6 d.active out (WrongTables (bits_in d) tables))
  unfolding paint_refusal
  frame-6 = frame_row 6 refl (lent-6 (bits_in d) d.active out tables pictures floats _ (tells-6 (bits_in d) tables))

  pub frame-14 : FrameRow d tables pictures floats out 14
      ((¬ NoSize d.active) × Case14 d.active out (WrongTables (bits_in d) tables) pictures)
  unfolding paint_refusal
  frame-14 = frame_row 14 refl (lent-14 (bits_in d) d.active out tables pictures floats _ (tells-6 (bits_in d) tables))

  pub frame-18 : FrameRow d tables pictures floats out 18
      ((¬ NoSize d.active) × Case18 d.active out (WrongTables (bits_in d) tables) pictures floats)
  unfolding paint_refusal
  frame-18 = frame_row 18 refl (lent-18 (bits_in d) d.active out tables pictures floats _ (tells-6 (bits_in d) tables))

  -- 02 K7: a state that lets no float layer in, as the sheet program's, is never refused so with no floats
  pub frame-no-18 : LetIn false d.active → floats ≡ [] → ¬ ((frame_told d tables pictures floats out).answer ≡ 18)
  frame-no-18 none e q = (frame-18.only q).1.1.1.1 (rw e (sym (no_floats d.active none)))

  pub frame-0 : Row (frame_told d tables pictures floats out).answer 0
      ((¬ NoSize d.active) × BuffersFit d.active out (WrongTables (bits_in d) tables) pictures floats)
      (((frame_told d tables pictures floats out).state ≡ with_errors d (errors_of (scene_with d tables pictures floats) 0 8
      d.errors))
      × (frame_bytes d tables pictures floats out ≡ frame_of (scene_with d tables pictures floats)))
  unfolding paint_refusal frame_told frame_bytes paint_told painting.errors_after painting.frame_after
  frame-0 =
      let f = lent-0 (bits_in d) d.active out tables pictures floats _ (tells-6 (bits_in d) tables) in
      record { only = f.0; when = f.1; leaves = λ q. (rw (eq-eqb _ 0 q), rw (eq-eqb _ 0 q)) }

-- 02 K3: "Refusals in order: 12, 15 for a line number at or past the height, 13 against 4·width, 6, 14.", and 18
module _ (d : Display) (y : ℕ) (tables pictures : List ℕ) (floats : List Float) (out : List ℕ) where
  tells-number : Tells (number_refusal d.active y) 15 (NoLine d.active y)
  tells-number =
      tells_as (not-below y (height_of d.active), λ h k. omega arith)
      (refuses-but (ltb y (height_of d.active)) 15 (ltb-says y (height_of d.active)))

  tells-length : Tells (length_refusal d.active (length out)) 13 (WrongLine d.active out)
  tells-length = refuses-but _ 13 (eqb-says (length out) (4 * width_of d.active))

  -- 13, 6, 14 and 18 give no other number
  length-misses : (r : ℕ) → eqb 13 r ≡ false → eqb 6 r ≡ false → eqb 14 r ≡ false → eqb 18 r ≡ false
      → Misses (or_else (length_refusal d.active (length out))
      (or_else (tables_refusal (bits_in d) (length tables))
      (or_else (pictures_refusal d.active (length pictures)) (floats_refusal d.active (length floats))))) r
  length-misses r a b c e =
      misses-or (length_refusal d.active (length out)) _ r (other r a tells-length)
      (last-misses (bits_in d) d.active out tables pictures floats _ (tells-6 (bits_in d) tables) r b c e)

  line_row : (r : ℕ) {C : Type 0} → eqb r 0 ≡ false
      → (line_refusal_of (scene_with d tables pictures floats) y out ≡ r) ↔ C → LineRow d y tables pictures floats out r C
  unfolding line_told line_bytes line_errors_after line_after
  line_row r nz f =
      record {
        only = f.0;
        when = f.1;
        leaves = λ q. (rw (ne_eqb _ 0 (over_zero nz q)), rw (ne_eqb _ 0 (over_zero nz q)));
      }

  pub line-12 : LineRow d y tables pictures floats out 12 (NoSize d.active)
  unfolding line_refusal
  line-12 = line_row 12 refl (own refl _ (tells-12 d.active)
      (misses-or (number_refusal d.active y) _ 12 (other 12 refl tells-number) (length-misses 12 refl refl refl refl)))

  pub line-15 : LineRow d y tables pictures floats out 15 ((¬ NoSize d.active) × NoLine d.active y)
  unfolding line_refusal
  line-15 = line_row 15 refl (past refl _ 15 refl (tells-12 d.active) (own refl _ tells-number
      (length-misses 15 refl refl refl refl)))

  pub line-13 : LineRow d y tables pictures floats out 13
      ((¬ NoSize d.active) × ((¬ NoLine d.active y) × WrongLine d.active out))
  unfolding line_refusal
  line-13 = line_row 13 refl (past refl _ 13 refl (tells-12 d.active) (past refl _ 13 refl tells-number (own refl _
      tells-length (last-misses (bits_in d) d.active out tables pictures floats _ (tells-6
      (bits_in d) tables) 13 refl refl refl))))

  pub line-6 : LineRow d y tables pictures floats out 6
      ((¬ NoSize d.active) × ((¬ NoLine d.active y)
      × ((¬ WrongLine d.active out) × WrongTables (bits_in d) tables)))
  unfolding line_refusal
  line-6 = line_row 6 refl (past refl _ 6 refl (tells-12 d.active) (past refl _ 6 refl tells-number
      (past refl _ 6 refl tells-length (own refl _ (tells-6 (bits_in d) tables)
      (pictured-misses (bits_in d) d.active out tables pictures floats _ (tells-6 (bits_in d) tables) 6 refl refl)))))

  pub line-14 : LineRow d y tables pictures floats out 14
      ((¬ NoSize d.active) × ((¬ NoLine d.active y)
      × ((¬ WrongLine d.active out) × ((¬ WrongTables (bits_in d) tables) × WrongPictures d.active pictures))))
  unfolding line_refusal
  line-14 = line_row 14 refl (past refl _ 14 refl (tells-12 d.active) (past refl _ 14 refl tells-number
      (past refl _ 14 refl tells-length (past refl _ 14 refl (tells-6 (bits_in d) tables)
      (own refl _ (tells-14 d.active pictures) (other 14 refl (tells-18 d.active floats)))))))

  pub line-18 : LineRow d y tables pictures floats out 18
      ((¬ NoSize d.active) × ((¬ NoLine d.active y)
      × ((¬ WrongLine d.active out) × ((¬ WrongTables (bits_in d) tables)
      × ((¬ WrongPictures d.active pictures) × WrongFloats d.active floats)))))
  unfolding line_refusal
  line-18 = line_row 18 refl (past refl _ 18 refl (tells-12 d.active) (past refl _ 18 refl tells-number
      (past refl _ 18 refl tells-length (past refl _ 18 refl (tells-6 (bits_in d) tables)
      (past refl _ 18 refl (tells-14 d.active pictures) (given-when refl (tells-18 d.active floats)))))))

  pub line-0 : Row (line_told d y tables pictures floats out).answer 0
      ((¬ NoSize d.active) × ((¬ NoLine d.active y)
      × ((¬ WrongLine d.active out) × ((¬ WrongTables (bits_in d) tables)
      × ((¬ WrongPictures d.active pictures) × (¬ WrongFloats d.active floats))))))
      (((line_told d y tables pictures floats out).state ≡ with_errors d (errors_of (scene_with d tables pictures floats) 0 8
      d.errors))
      × (line_bytes d y tables pictures floats out ≡ frame_line (scene_with d tables pictures floats) y))
  unfolding line_refusal line_told line_bytes line_errors_after line_after
  line-0 =
      let f = past refl _ 0 refl (tells-12 d.active) (past refl _ 0 refl tells-number
      (past refl _ 0 refl tells-length (past refl _ 0 refl (tells-6 (bits_in d) tables)
      (past refl _ 0 refl (tells-14 d.active pictures) (passed-when refl (tells-18 d.active floats)))))) in
      record { only = f.0; when = f.1; leaves = λ q. (rw (eq-eqb _ 0 q), rw (eq-eqb _ 0 q)) }

-- ---- put: "Order: put 6, 3, 4, 5."

is_false : (t : Bool) → ¬ (t ≡ true) → t ≡ false
is_false true n = absurd (n refl)
is_false false n = refl

module _ (d : Display) (tables : List ℕ) (byte : ℕ) where
  tells-3 : Tells (pick d.selection.made 0 3) 3 (NotSelected d)
  tells-3 =
      tells_as (is_false d.selection.made, λ e f. false≢true (sym e ∙ f))
      (refuses-but d.selection.made 3 (says-itself d.selection.made))

  tells-4 : Tells (pick (named_by d.active d.selection.number) 4 0) 4 (BankActive d)
  tells-4 = refuses _ 4 (says-itself _)

  tells-5 : Tells (pick (ltb d.selection.place (end_of (bits_in d) d.selection.number)) 0 5) 5
      (¬ (d.selection.place < end_of (bits_in d) d.selection.number))
  tells-5 = refuses-but _ 5 (ltb-says _ _)

  -- the place of a state that came to be is at most at the end
  tells-full : Sound d → Tells (pick (ltb d.selection.place (end_of (bits_in d) d.selection.number)) 0 5) 5 (BankFull d)
  tells-full s = tells_as (
    λ n. let h = not-below d.selection.place (end_of (bits_in d) d.selection.number) n in let k = s.place in omega arith,
    λ e h. omega arith,
  ) tells-5

  -- 4 and then 5 give no other number
  bank-misses : (r : ℕ) → eqb 4 r ≡ false → eqb 5 r ≡ false
      → Misses (or_else (pick (named_by d.active d.selection.number) 4 0)
      (pick (ltb d.selection.place (end_of (bits_in d) d.selection.number)) 0 5)) r
  bank-misses r a b =
      misses-or (pick (named_by d.active d.selection.number) 4 0) _ r (other r a tells-4) (other r b tells-5)

  put-row : (r : ℕ) {C : Type 0} → eqb r 0 ≡ false → eqb r 5 ≡ false → (put_answer d tables ≡ r) ↔ C
      → PutRow d tables byte r C
  unfolding put_of put_state put_tables
  put-row r nz n5 f = record { only = f.0; when = f.1; leaves = λ q. (rw (q, nz, n5), rw (q, nz)) }

  pub put-6 : PutRow d tables byte 6 (WrongTables (bits_in d) tables)
  unfolding put_answer
  put-6 = put-row 6 refl refl (own refl _ (tells-6 (bits_in d) tables)
      (misses-or (pick d.selection.made 0 3) _ 6 (other 6 refl tells-3) (bank-misses 6 refl refl)))

  pub put_3 : PutRow d tables byte 3 ((¬ WrongTables (bits_in d) tables) × NotSelected d)
  unfolding put_answer
  put_3 = put-row 3 refl refl (past refl _ 3 refl (tells-6 (bits_in d) tables) (own refl _ tells-3
      (bank-misses 3 refl refl)))

  pub put_4 : PutRow d tables byte 4 ((¬ WrongTables (bits_in d) tables) × ((¬ NotSelected d) × BankActive d))
  unfolding put_answer
  put_4 = put-row 4 refl refl (past refl _ 4 refl (tells-6 (bits_in d) tables)
      (past refl _ 4 refl tells-3 (own refl _ tells-4 (other 4 refl tells-5))))

  -- "error bit 4g+1 set, else unchanged"
  pub put-5 : Sound d
      → Row (put_of d tables).answer 5 ((¬ WrongTables (bits_in d) tables) × ((¬ NotSelected d) × ((¬ BankActive d) × BankFull d)))
      (((put_of d tables).state ≡ with_errors d (bit_or d.errors (2 ^ (4 * controller_of d.selection.number + 1))))
      × (put_tables d tables byte ≡ tables))
  unfolding put_answer put_of put_state put_tables
  put-5 s =
      let f = past refl _ 5 refl (tells-6 (bits_in d) tables)
      (past refl _ 5 refl tells-3 (past refl _ 5 refl tells-4 (given-when refl (tells-full s)))) in
      record { only = f.0; when = f.1; leaves = λ q. (rw q, rw q) }

  -- "Each put stores one byte and moves the place by one."
  pub put-0 : Sound d → Row (put_of d tables).answer 0
      ((¬ WrongTables (bits_in d) tables) × ((¬ NotSelected d) × ((¬ BankActive d) × (¬ BankFull d))))
      (((put_of d tables).state ≡ with_place d (d.selection.place + 1))
      × (put_tables d tables byte ≡ set tables (first_byte_of (bits_in d) d.selection.number + d.selection.place) byte))
  unfolding put_answer put_of put_state put_tables
  put-0 s =
      let f = past refl _ 0 refl (tells-6 (bits_in d) tables)
      (past refl _ 0 refl tells-3 (past refl _ 0 refl tells-4 (passed-when refl (tells-full s)))) in
      record { only = f.0; when = f.1; leaves = λ q. (rw q, rw q) }

-- ---- the host entry: "Order 16, 7, 8, 9 and 10, 11, 13, 6, 14."

-- of mending too
tells-16 : (image : List ℕ) → Tells (image_refusal image) 16 (WrongImage image)
tells-16 image = refuses-but _ 16 (eqb-says (length image) 208)

module _ (image : List ℕ) (frame : ℕ) (tables pictures out : List ℕ) where
  -- the bits that the tables' length stands for
  abbrev bits : ℕ
  bits = bits_of (profile_for (length tables))

  tells_both : Tells (tables_refusal bits (length tables)) 6 (WrongBoth tables)
  tells_both =
      rw (host-tables (length tables))
      (refuses-but _ 6
      (either-says _ _ (eqb-says (length tables) (tables_len 1)) (eqb-says (length tables) (tables_len 2))))

  host-row : (r : ℕ) {C : Type 0} → eqb r 0 ≡ false → (host_answer image frame tables pictures out ≡ r) ↔ C
      → HostRow image frame tables pictures out r C
  unfolding host_output
  host-row r nz f = record { only = f.0; when = f.1; leaves = λ q. rw (ne_eqb _ 0 (over_zero nz q)) }

  -- 7 to 11
  host-checked : (r : ℕ) {C : Type 0} → eqb r 0 ≡ false → eqb 16 r ≡ false
      → Misses (lent bits (words_of image) out tables pictures []) r
      → (check_of false (words_of image) ≡ r) ↔ C → HostRow image frame tables pictures out r ((¬ WrongImage image) × C)
  unfolding host_answer paint_refusal
  host-checked r nz n m f = host-row r nz (past refl _ r n (tells-16 image) (or-first (check_of false (words_of image)) _ r nz m f))

  -- 13, 6, 14 and 0: accepted words have a size
  sized : (w : List ℕ) → Accepted w → ¬ NoSize w
  sized w a =
      ⊎_elim (λ (e : width_of w ≡ 0). let h = a.wide in omega arith)
      (λ (e : height_of w ≡ 0). let h = a.tall in omega arith)

  -- and none that pass here have a float layer
  no-wrong : Passing false (words_of image) → ¬ WrongFloats (words_of image) []
  no-wrong p n = n (sym (no_floats (words_of image) p.1))

  host-lent : (r : ℕ) {Q : Type 0} → eqb 16 r ≡ false → Misses (check_of false (words_of image)) r
      → (lent bits (words_of image) out tables pictures [] ≡ r) ↔ ((¬ NoSize (words_of image)) × Q)
      → (host_answer image frame tables pictures out ≡ r) ↔ ((¬ WrongImage image) × (Passing false (words_of image) × Q))
  unfolding host_answer paint_refusal
  host-lent r n m f = past refl _ r n (tells-16 image) (
    λ q. let p = (or_later (check_of false (words_of image)) _ r m (check-0 (words_of image) false) f).0 q in (p.0, p.1.1),
    λ p. (or_later (check_of false (words_of image)) _ r m (check-0 (words_of image) false) f).1
        (p.0, (sized (words_of image) p.0.0, p.1)),
  )

  pub host-16 : HostRow image frame tables pictures out 16 (WrongImage image)
  unfolding host_answer paint_refusal
  host-16 = host-row 16 refl (own refl _ (tells-16 image) (misses-or (check_of false (words_of image)) _ 16
      (check-misses (words_of image) false 16 refl refl refl refl refl)
      (lent-misses bits (words_of image) out tables pictures [] _ tells_both 16 refl refl refl refl refl)))

  pub host-7 : HostRow image frame tables pictures out 7 ((¬ WrongImage image) × Case7 false (words_of image))
  host-7 =
      host-checked 7 refl refl (lent-misses bits (words_of image) out tables pictures [] _ tells_both 7 refl refl refl refl refl)
      (check-7 (words_of image) false)

  pub host-8 : HostRow image frame tables pictures out 8 ((¬ WrongImage image) × Case8 false (words_of image))
  host-8 =
      host-checked 8 refl refl (lent-misses bits (words_of image) out tables pictures [] _ tells_both 8 refl refl refl refl refl)
      (check-8 (words_of image) false)

  pub host-9 : HostRow image frame tables pictures out 9 ((¬ WrongImage image) × Case9 false (words_of image))
  host-9 =
      host-checked 9 refl refl (lent-misses bits (words_of image) out tables pictures [] _ tells_both 9 refl refl refl refl refl)
      (check-9 (words_of image) false)

  pub host-10 : HostRow image frame tables pictures out 10 ((¬ WrongImage image) × Case10 false (words_of image))
  host-10 =
      host-checked 10 refl refl (lent-misses bits (words_of image) out tables pictures [] _ tells_both 10 refl refl refl refl refl)
      (check-10 (words_of image) false)

  pub host-11 : HostRow image frame tables pictures out 11 ((¬ WrongImage image) × Case11 false (words_of image))
  host-11 =
      host-checked 11 refl refl (lent-misses bits (words_of image) out tables pictures [] _ tells_both 11 refl refl refl refl refl)
      (check-11 (words_of image) false)

  pub host-13 : HostRow image frame tables pictures out 13
      ((¬ WrongImage image) × (Passing false (words_of image) × WrongOutput (words_of image) out))
  host-13 = host-row 13 refl
      (host-lent 13 refl (check-misses (words_of image) false 13 refl refl refl refl refl)
      (lent-13 bits (words_of image) out tables pictures [] _ tells_both))

  pub host-6 : HostRow image frame tables pictures out 6
      ((¬ WrongImage image) × (Passing false (words_of image) × Case6 (words_of image) out (WrongBoth tables)))
  host-6 = host-row 6 refl
      (host-lent 6 refl (check-misses (words_of image) false 6 refl refl refl refl refl)
      (lent-6 bits (words_of image) out tables pictures [] _ tells_both))

  pub host-14 : HostRow image frame tables pictures out 14
      ((¬ WrongImage image) × (Passing false (words_of image)
      × Case14 (words_of image) out (WrongBoth tables) pictures))
  host-14 = host-row 14 refl
      (host-lent 14 refl (check-misses (words_of image) false 14 refl refl refl refl refl)
      (lent-14 bits (words_of image) out tables pictures [] _ tells_both))

  pub host-0 : Row (host_answer image frame tables pictures out) 0
      ((¬ WrongImage image) × (Passing false (words_of image)
      × BytesFit (words_of image) out (WrongBoth tables) pictures))
      (host_output image frame tables pictures out ≡ frame_of (scene_in image frame tables pictures))
  unfolding host_output
  host-0 =
      let f = host-lent 0 refl (λ z. z) (lent-0 bits (words_of image) out tables pictures [] _ tells_both) in
      record {
        only = λ q. let p = f.0 q in (p.0, (p.1.0, (p.1.1.0, (p.1.1.1.0, p.1.1.1.1.0))));
        when = λ p. f.1 (p.0, (p.1.0, (p.1.1.0, (p.1.1.1.0, (p.1.1.1.1, no-wrong p.1.0)))));
        leaves = λ q. rw (eq-eqb _ 0 q);
      }

  -- 02 K7: so 18 is never answered
  pub host-no-18 : ¬ (host_answer image frame tables pictures out ≡ 18)
  host-no-18 q =
      let p = (host-lent 18 refl (check-misses (words_of image) false 18 refl refl refl refl refl)
      (lent-18 bits (words_of image) out tables pictures [] _ tells_both)).0 q in
      no-wrong p.1.0 p.1.1.1.1.1

-- ---- mending: 02 K4, "16 first; 8, which has no repair"

module _ (image list : List ℕ) where
  mend-row : (r : ℕ) {C : Type 0} → eqb r 0 ≡ false → (mend_answer image ≡ r) ↔ C → MendRow image list r C
  unfolding mend_image mend_list mend_count
  mend-row r nz f =
      record {
        only = f.0;
        when = f.1;
        leaves = λ q. let e = ne_eqb (mend_answer image) 0 (over_zero nz q) in
            (rw e, (rw e (sym (over_none list)), rw e));
      }

  pub mend-16 : MendRow image list 16 (WrongImage image)
  unfolding mend_answer
  mend-16 = mend-row 16 refl (own refl _ (tells-16 image) (other 16 refl (tells-8 (words_of image))))

  pub mend-8 : MendRow image list 8 ((¬ WrongImage image) × EmptyScreen (words_of image))
  unfolding mend_answer
  mend-8 = mend-row 8 refl (past refl _ 8 refl (tells-16 image) (given-when refl (tells-8 (words_of image))))

  pub mend-0 : Row (mend_answer image) 0 ((¬ WrongImage image) × (¬ EmptyScreen (words_of image)))
      ((mend_image image ≡ image_of (mend_of (words_of image)))
      × ((over (mend_list image) list ≡ over (changes_of (words_of image) (mend_of (words_of image))) list)
      × (mend_count image ≡ changed_of (words_of image) (mend_of (words_of image)))))
  unfolding mend_answer mend_image mend_list mend_count
  mend-0 =
      let f = past refl _ 0 refl (tells-16 image) (passed-when refl (tells-8 (words_of image))) in
      record { only = f.0; when = f.1; leaves = λ q. (rw q, (rw q, rw q)) }
