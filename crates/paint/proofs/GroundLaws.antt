-- The ground of a line or of the whole output, and the part over it. Assumes nothing.
use mathlib.Core.Path.{◌≡◌, refl, sym, ap, ◌∙◌}
use mathlib.Core.Bool.{Bool, true, false}
use mathlib.Core.List.{List}
use Prim.Native.Nat.{ℕ, ◌≤◌}
use lib.ListN.{length}
use Rattle.std.specs.Prelude.{Option, is_some}
use Rattle.lists.specs.Choice.{pick, choose}
use Rattle.lists.specs.Tab.{tab, each}
use Rattle.lists.proofs.Choice.{pick-cong}
use Rattle.lists.proofs.Tab.{each-cong, each-then}
use Rattle.mix.specs.declared.Ground.{Ground}
use Rattle.words.specs.Fields.{grounds_of}
use Rattle.frames.specs.Scene.{Scene}
use Rattle.frames.specs.Frame.{frame_len, fill_byte, fill_of}
use Rattle.plan.specs.declared.Part.{Part}
use Rattle.plan.specs.Engine.Plan.{part_layers}
use Rattle.scanline.specs.Engine.Lines.{line_to, line_from, band_line, ground_byte, under_byte}
use Rattle.paint.specs.Engine.Rows.{laid_line, OnLines, Backed}
use Rattle.scanline.proofs.LineLaws.{line-all, line-rest}
use Rattle.scanline.proofs.GroundLaws.{ground-kept, under-is, tab-each}
use Rattle.paint.proofs.FrameLaws.{fill-byte}

-- by the words' background
pub ground-byte : (w : List ℕ) (fresh : Bool) (i p : ℕ) → ground_byte (grounds_of w) fresh i p ≡ pick fresh (fill_byte w i) p
unfolding ground_byte
ground-byte w fresh i p = pick-cong fresh (λ t. fill-byte w i) (λ t. refl)

-- of a line, with the first k layers of the part over it and then the others
pub ground-line : (s : Scene) (part : Part) (fresh : Bool) (y k : ℕ) (g : Ground) (line laid line' : List ℕ)
    → part.low ≤ part.high → part.high ≤ 8 → OnLines part y → g ≡ grounds_of s.words
    → laid ≡ each (line_to s y (part_layers s.words part) k) (each (ground_byte g fresh) line)
    → line' ≡ each (line_from s y (part_layers s.words part) k) laid
    → line' ≡ each (laid_line s part fresh y) line
unfolding laid_line
ground-line s part fresh y k g line laid line' ab b8 on q e f =
    each-then (ground_byte (grounds_of s.words) fresh) (band_line s part.low part.high y) _ line refl
    (line-all s part y on.from on.to k laid line' _ ab b8 (rw q at e) f)
    (λ i p. ap (band_line s part.low part.high y i) (sym (ground-byte s.words fresh i p)))

-- the same of all layers of the part, over a ground that may not be there
pub under-line : (s : Scene) (part : Part) (o : Option Ground) (y k : ℕ) (line line' : List ℕ)
    → part.low ≤ part.high → part.high ≤ 8 → OnLines part y → Backed o s.words → length (part_layers s.words part) ≤ k
    → line' ≡ each (line_to s y (part_layers s.words part) k) (each (under_byte o) line)
    → line' ≡ each (laid_line s part (is_some o) y) line
under-line s part o y k line line' ab b8 on backed all e =
    ground-line s part (is_some o) y k (grounds_of s.words) line line' line' ab b8 on refl
    (e ∙ ap (each (line_to s y (part_layers s.words part) k)) (each-cong _ _ line (under-is o (grounds_of s.words) backed)))
    (line-rest s y (part_layers s.words part) line' k all)

-- of the whole output
pub ground-all : (w : List ℕ) (fresh : Bool) (out : List ℕ) → length out ≡ frame_len w
    → each (λ i p. pick fresh (fill_byte w i) p) out ≡ choose fresh (fill_of w) out
unfolding fill_of
ground-all w true out e = sym (tab-each (fill_byte w) out) ∙ ap (λ (n : ℕ). tab n (fill_byte w)) e
ground-all w false out e =
    each-cong _ _ out (λ i p. sym (ground-byte w false i p)) ∙ sym (ground-kept (grounds_of w) out)
