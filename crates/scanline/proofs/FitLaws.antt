-- The steps of a part's plan fit the scene's lines and the buffers that it lends; a test tells which lines a step reaches;
-- and one that fits has its rows in its picture's buffer. Assumes nothing.
use mathlib.Core.Path.{◌≡◌, ap}
use mathlib.Core.Bool.{Bool, true, false}
use Prim.Native.Nat.{ℕ, ◌+◌, ◌-◌, ◌*◌, ◌≤◌, ◌<◌}
use native.Mathlib.Nat.{mul_comm}
use native.Mathlib.Omega.{arith}
use borrow.Author.Tests.{leb-true, ltb-true}
use lib.Dec.{leb}
use lib.ListN.{length, get_or}
use Rattle.lists.proofs.Choice.{both_left, both_right}
use Rattle.lists.proofs.Digits.{row_room}
use Rattle.profiles.specs.Profile.{bits_of}
use Rattle.profiles.proofs.ProfileLaws.{bits-some, bits-few}
use Rattle.words.specs.Fields.{width_of, layer_of}
use Rattle.words.specs.Pictures.{pictures_len}
use Rattle.words.proofs.PictureLaws.{own_room}
use Rattle.tables.specs.Geometry.{kind_len, list_kind, strings_kind, font_kind}
use Rattle.draw.specs.declared.ListEnd.{ListEnd}
use Rattle.frames.specs.Scene.{Scene}
use Rattle.frames.specs.Pixel.{spans}
use Rattle.plan.specs.declared.Step.{Step}
use Rattle.plan.specs.declared.Plan.{Plan}
use Rattle.plan.specs.declared.Part.{Part}
use Rattle.plan.specs.Engine.Plan.{blank_step, part_layers, OfLayer, OfLayers}
use Rattle.scanline.specs.Engine.Lines.{Lent, Banked, Pictured, Fit, AllFit, OnRow, picture_end}
use Rattle.scanline.specs.Engine.Lines.{row_start}
use Rattle.plan.proofs.PlanLaws.{part_layers-enabled, length-part_layers-le, planned-layer}
use Rattle.scanline.proofs.DrawLaws.{active-room, list-is}

pub on_row_lem : (t : Step) (y : ℕ) → spans t.layer.y t.layer.height y ≡ true → OnRow t y
on_row_lem t y e =
    record {
      top = leb-true _ _ (both_left (leb t.layer.y y) _ e);
      bottom = ltb-true _ _ (both_right (leb t.layer.y y) _ e);
    }

module _ (s : Scene) (lent : Lent s) (t : Step) (number : t.number < 8) (m : OfLayer s t) where
  layer-banked : t.layer.graphics ≡ true → Banked s.tables t
  unfolding kind_len
  layer-banked g =
      let bits = bits_of s.profile in
      record {
        some = rw m.glyph (bits-some s.profile);
        few = rw m.glyph (bits-few s.profile);
        list = omega (arith, lent.tables, m.list, active-room bits s.words list_kind t.number number);
        strings = omega (arith, lent.tables, m.strings, active-room bits s.words strings_kind t.number number);
        font = rw m.glyph (omega (arith, lent.tables, m.font, active-room bits s.words font_kind t.number number));
        count = rw (list-is s t m) (ap (λ (e : ListEnd). e.count) (m.end (rw m.layer at g)));
      }

  layer-room : (k : Bool) → (layer_of s.words t.number).on ≡ true → t.layer.graphics ≡ false → t.layer.floats ≡ k
      → picture_end t ≤ pictures_len k s.words
  layer-room k on g f =
      rw (m.start, m.layer)
      (own_room k s.words t.number number on (rw m.layer at g) (rw m.layer at f))

  layer-pictured : (layer_of s.words t.number).on ≡ true → Pictured s.pictures s.floats t
  layer-pictured on =
      record {
        wide = rw m.layer (omega (arith, m.wide));
        bytes = λ g f. rw lent.pictures (layer-room false on g f);
        flows = λ g f. rw lent.floats (layer-room true on g f);
      }

  layer-fit : (layer_of s.words t.number).on ≡ true
      → Fit s.tables s.pictures s.floats (4 * width_of s.words) t
  layer-fit on = record { on = omega (arith, m.left, m.wide); banked = layer-banked; pictured = layer-pictured on }

pub part-ready : (s : Scene) (part : Part) (p : Plan) → Lent s → OfLayers s (part_layers s.words part) p
    → AllFit s.tables s.pictures s.floats (4 * width_of s.words) p
part-ready s part p lent q =
    record {
      few = omega (arith, q.count, length-part_layers-le s.words part);
      fit = λ j h.
          let lt : j < length (part_layers s.words part) = omega (arith, q.count) in
          let e = (q.made j lt).number in
          let on = part_layers-enabled s.words part j lt in
          layer-fit s lent (get_or p.steps j blank_step) (rw e on.0) (planned-layer s _ p j q h) (rw e on.1);
      drawn = λ j h g.
          let lt : j < length (part_layers s.words part) = omega (arith, q.count) in
          q.drawn j lt (rw (q.made j lt).layer at g);
    }

-- line y of a picture that fits lies in the picture's buffer
pub row_fits : (t : Step) (y long : ℕ) → t.wide ≤ t.layer.width → OnRow t y → picture_end t ≤ long
    → row_start t y + 4 * t.wide ≤ long
row_fits t y long wide r room =
    let below : (y - t.layer.y) * t.layer.width + t.layer.width ≤ t.layer.height * t.layer.width =
    row_room _ _ _ (omega (arith, r.top, r.bottom)) in
    let turned = mul_comm t.layer.height t.layer.width in
    omega arith
