-- How a plan grows by a layer, and what its error word is. Assumes nothing.
use mathlib.Core.Path.{◌≡◌, refl, sym, ap, ◌∙◌}
use mathlib.Core.Bool.{Bool, true, false}
use mathlib.Core.Logic.{⊎_elim}
use mathlib.Core.List.{List, [], ◌∷◌, ◌++◌, append-nil}
use Prim.Native.Nat.{ℕ, ◌+◌, ◌≤◌, ◌<◌}
use native.Mathlib.Nat.{not-suc-le-zero}
use native.Mathlib.Omega.{arith}
use lib.ListN.{length, get_or, take, length-set, length-append, length-take, get_or-append}
use lib.Seq.{get_or-set_same, get_or-set_other, get_or-append_seam, take_all}
use Rattle.lists.specs.Choice.{pick, either}
use Rattle.lists.specs.Steps.{through, keep}
use Rattle.lists.proofs.Choice.{split, either-any}
use Rattle.lists.proofs.Steps.{through-none, through-next, through-keep, keep-next, length-keep-le, Every, every-keep}
use Rattle.profiles.specs.Profile.{bits_of}
use Rattle.words.specs.declared.fields.Layer.{Layer}
use Rattle.words.specs.Fields.{layer_of}
use Rattle.words.specs.Order.{order_of, within, band_layers}
use Rattle.words.proofs.OrderLaws.{Enabled, order_of-enabled, length-order_of-le}
use Rattle.plan.specs.declared.Step.{Step}
use Rattle.plan.specs.declared.Plan.{Plan}
use Rattle.plan.specs.declared.Part.{Part}
use Rattle.tables.specs.Geometry.{list_kind}
use Rattle.draw.specs.declared.ListEnd.{ListEnd}
use Rattle.draw.specs.Drawing.{ended_of, list_end}
use Rattle.frames.specs.Scene.{Scene}
use Rattle.frames.specs.Pixel.{bank_bytes}
use Rattle.frames.specs.Band.{missing, mark_at, band_by}
use Rattle.frames.proofs.BandLaws.{band-through}
use Rattle.plan.specs.Engine.Plan.{OfLayer, OfLayers, OfFirst, Made, blank_step, Planned, Pushed, Grown, Empty}
use Rattle.plan.specs.Engine.Plan.{reaches, taken, part_layers, is_made, marked, marked_by, band_marks}

-- a plan with another error word
abbrev pub with_errors : Plan → ℕ → Plan
with_errors p errors = record { steps = p.steps; count = p.count; drawn = p.drawn; errors = errors }

-- a float layer's rows are made
pub made-floats : (l : Layer) → l.floats ≡ true → is_made l ≡ true
made-floats l f = ap (either l.graphics) f ∙ either-any l.graphics

pub made-graphics : (l : Layer) → l.graphics ≡ true → is_made l ≡ true
made-graphics l g = rw g

-- ---- one layer more

module _ (bits : ℕ) (w : List ℕ) (frame : ℕ) (tables : List ℕ) where
  -- behind the others
  planned-more : (l : List ℕ) (p r : Plan) (n : ℕ) (t : Step) → p.count < 8 → Made bits w frame tables n t
      → Pushed p t r → Planned bits w frame tables l p → Planned bits w frame tables (l ++ (n ∷ [])) r
  planned-more l p r n t h m g q =
      let long : length (l ++ (n ∷ [])) ≡ length l + 1 = length-append l (n ∷ []) in
      record {
        room = rw g.steps (length-set p.steps p.count t ∙ q.room);
        count = g.count ∙ ap (λ (k : ℕ). k + 1) q.count ∙ sym long;
        made = λ j b. rw g.steps (⊎_elim
            (λ (lt : j < length l). rw (
              get_or-append l (n ∷ []) 0 j lt,
              get_or-set_other p.steps p.count j t blank_step (λ e. omega (arith, q.count)),
            ) (q.made j lt))
            (λ (ge : length l ≤ j).
            let e : j ≡ length l = omega arith in
            rw (
              e,
              get_or-append_seam l n [],
              ← q.count,
              get_or-set_same p.steps p.count t blank_step (omega (arith, q.room)),
            ) m)
            (split j (length l)));
        drawn = λ j b. ⊎_elim
            (λ (lt : j < length l) (e : is_made (layer_of w (get_or (l ++ (n ∷ [])) j 0)) ≡ true).
            g.drawn ∙ ap (either (is_made t.layer)) (q.drawn j lt (rw (get_or-append l (n ∷ []) 0 j lt) at e))
            ∙ either-any (is_made t.layer))
            (λ (ge : length l ≤ j) (e : is_made (layer_of w (get_or (l ++ (n ∷ [])) j 0)) ≡ true).
            let z : j ≡ length l = omega arith in
            let f : is_made t.layer ≡ true = rw m.layer (rw (z, get_or-append_seam l n []) at e) in
            g.drawn ∙ rw f)
            (split j (length l));
      }

  -- with another error word it is the same plan
  planned-kept : (l : List ℕ) (p : Plan) (e : ℕ) → Planned bits w frame tables l p
      → Planned bits w frame tables l (with_errors p e)
  planned-kept l p e q = record { room = q.room; count = q.count; made = q.made; drawn = q.drawn }

  module _ (part : Part) (n : ℕ) (p : Plan) where
    module _ (errors : ℕ) (i : within part.low part.high (layer_of w n) ≡ true)
        (e : errors ≡ marked_by bits w tables n p.errors) where
      -- on none of the lines
      pub grown-beside : reaches part.first part.count (layer_of w n) ≡ false
          → Grown bits w frame tables part n p (with_errors p errors)
      grown-beside o =
          record { grown = λ l q. rw (i, o, append-nil l) (planned-kept l p errors q); marks = rw i e }

      pub grown-taken : (t : Step) (r : Plan) → reaches part.first part.count (layer_of w n) ≡ true → p.count < 8
          → Made bits w frame tables n t → Pushed (with_errors p errors) t r → Grown bits w frame tables part n p r
      grown-taken t r o h m g =
          record {
            grown = λ l q. rw (i, o) (planned-more l (with_errors p errors) r n t h m g (planned-kept l p errors q));
            marks = g.errors ∙ rw i e;
          }

  -- ---- the loop over the order

  -- the layers of the part among the first i of the order
  abbrev pub part_to : Part → ℕ → List ℕ
  part_to part i = keep (λ n. taken part (layer_of w n)) (take i (order_of w))

  -- the error word after them
  abbrev pub marks_to : Part → ℕ → ℕ → ℕ
  marks_to part i errors =
      through (λ n q. pick (within part.low part.high (layer_of w n)) (marked_by bits w tables n q) q)
      (take i (order_of w)) errors

  module _ (part : Part) (errors : ℕ) where
    -- what a turn of the loop leaves
    abbrev pub PlannedTo : ℕ → Plan → Type 0
    PlannedTo i p = Planned bits w frame tables (part_to part i) p × (p.errors ≡ marks_to part i errors)

    pub plan-none : (p : Plan) → Empty errors p → PlannedTo 0 p
    unfolding keep
    plan-none p e = (
      record {
        room = e.room;
        count = e.none;
        made = λ j h. absurd (not-suc-le-zero h);
        drawn = λ j h. absurd (not-suc-le-zero h);
      },
      e.errors ∙ sym (through-none _ errors),
    )

    pub plan-next : (i n : ℕ) (p r : Plan) → i < length (order_of w) → n ≡ get_or (order_of w) i 0 → PlannedTo i p
        → Grown bits w frame tables part n p r → PlannedTo (i + 1) r
    plan-next i n p r h e q g = (
      rw (keep-next (λ n. taken part (layer_of w n)) (order_of w) i h, ← e) (g.grown (part_to part i) q.0),
      rw (through-next _ (order_of w) i errors h, ← e, ← q.1) g.marks,
    )

    pub plan-all : (i : ℕ) (p : Plan) → length (order_of w) ≤ i → PlannedTo i p
        → Planned bits w frame tables (part_layers w part) p
        × (p.errors ≡ band_marks bits w tables part.low part.high errors)
    unfolding part_layers band_layers
    plan-all i p h q =
        let all = take_all i (order_of w) h in (
          rw all at q.0,
          (rw all at q.1)
              ∙ sym (through-keep (λ n. within part.low part.high (layer_of w n)) (marked_by bits w tables)
              (order_of w) errors),
        )

    pub plan-room : (i : ℕ) (p : Plan) → i < length (order_of w) → PlannedTo i p → p.count < 8
    plan-room i p h q =
        omega (
          arith,
          q.0.count,
          length-keep-le (λ n. taken part (layer_of w n)) (take i (order_of w)),
          length-take i (order_of w),
          length-order_of-le w,
        )

-- ---- its layers are layers

pub part_layers-enabled : (w : List ℕ) (part : Part) → Every (Enabled w) (part_layers w part)
unfolding part_layers
part_layers-enabled w part = every-keep (Enabled w) _ (order_of w) (order_of-enabled w)

pub length-part_layers-le : (w : List ℕ) (part : Part) → length (part_layers w part) ≤ 8
unfolding part_layers
length-part_layers-le w part =
    omega (arith, length-keep-le (λ n. taken part (layer_of w n)) (order_of w), length-order_of-le w)

-- ---- its steps are the layers'

module _ (s : Scene) (l : List ℕ) (p : Plan) (j : ℕ) (q : OfLayers s l p) (h : j < p.count) where
  pub planned-number : (get_or p.steps j blank_step).number ≡ get_or l j 0
  planned-number = (q.made j (omega (arith, q.count))).number

  pub planned-layer : OfLayer s (get_or p.steps j blank_step)
  planned-layer = rw planned-number (q.made j (omega (arith, q.count)))

pub planned-first : (s : Scene) (l : List ℕ) (p : Plan) → OfLayers s l p → 0 < p.count
    → OfFirst s l (get_or p.steps 0 blank_step)
planned-first s l p q h =
    record { some = omega (arith, q.count); number = planned-number s l p 0 q h; layer = planned-layer s l p 0 q h }

-- ---- the error word is the scene's

-- of a frame layer no list's end counts
pub marked-cong : (g e e' : Bool) (n errors : ℕ) → (g ≡ true → e ≡ e') → marked g e n errors ≡ marked g e' n errors
marked-cong true e e' n errors f = ap (λ (t : Bool). marked true t n errors) (f refl)
marked-cong false e e' n errors f = refl

-- the bit that a layer sets, by its list's end
pub mark-by : (bits : ℕ) (w tables : List ℕ) (n errors : ℕ) (l : Layer) (e : ListEnd) {marks : ℕ} → l ≡ layer_of w n
    → (l.graphics ≡ true → e ≡ list_end (bank_bytes bits w tables n list_kind))
    → marks ≡ marked l.graphics e.found n errors → marks ≡ marked_by bits w tables n errors
unfolding marked_by
mark-by bits w tables n errors l e q f m =
    let ended = ended_of (bank_bytes bits w tables n list_kind) in
    m ∙ marked-cong l.graphics e.found ended n errors (λ g. ap (λ (x : ListEnd). x.found) (f g))
    ∙ ap (λ (x : Layer). marked x.graphics ended n errors) q

pub marks-is : (s : Scene) (a b errors : ℕ) → a ≤ b → b ≤ 8
    → band_marks (bits_of s.profile) s.words s.tables a b errors ≡ band_by s.words (mark_at s) a b errors
unfolding marked_by mark_at missing
marks-is s a b errors ab b8 = band-through s.words (mark_at s) a b errors ab b8
