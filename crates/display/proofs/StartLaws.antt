-- The cases of a start, and of one but for what is held, by what is made of the pending words. Assumes nothing.
use Rattle.std.proofs.Common.{◌≡◌, ℕ, ◌+◌, ◌%◌, ◌^◌, Bool, true, false, eqb, sym, refl, ap, eqb-true}
use mathlib.Core.Bool.{false≢true}
use Rattle.lists.specs.Choice.{pick, choose, both}
use Rattle.answers.specs.Answers.{done}
use Rattle.words.specs.Fields.{update_of}
use Rattle.order.specs.declared.Layout.{Layout}
use Rattle.order.specs.Layout.{layout_of}
use Rattle.display.specs.declared.Display.{Display}
use Rattle.display.specs.declared.Told.{Told}
use Rattle.display.specs.State.{display, told, with_active, with_frame, stepped, check_in, start_of}
use Rattle.display.specs.Doors.{with_layout}
use Rattle.display.specs.Engine.Verdict.{Verdict, verdict_of}

-- a start by the update bit u and by whether the words pass, c, where their check answers n
abbrev by_tests : Display → Bool → Bool → ℕ → Told
by_tests d u c n =
    choose u (choose c (told (with_active (stepped d) d.pending) done) (told (stepped d) n)) (told (stepped d) done)

stays : (d : Display) (u c : Bool) (n : ℕ) → both u c ≡ false → told (stepped d) (pick u n done) ≡ by_tests d u c n
stays d true true n z = absurd (false≢true (sym z))
stays d true false n z = refl
stays d false c n z = refl

copies : (d : Display) (u c : Bool) (n : ℕ) → both u c ≡ true → (c ≡ true → n ≡ done)
    → told (with_active (stepped d) d.pending) (pick u n done) ≡ by_tests d u c n
copies d true true n z e = ap (told (with_active (stepped d) d.pending)) (e refl)
copies d true false n z e = absurd (false≢true z)
copies d false c n z e = absurd (false≢true z)

module _ (d : Display) (next : ℕ) (step : next ≡ (d.frame + 1) % 2 ^ 32) (v : Verdict)
    (e : v ≡ verdict_of d.profile.floats d.pending) where
  pub start-stays : v.passes ≡ false → told (with_frame d next) v.answer ≡ start_of d
  start-stays z =
      rw (step, e) (stays d (update_of d.pending) (eqb (check_in d) done) (check_in d) (rw e at z))

  pub start-copies : v.passes ≡ true → (l : Layout) → l ≡ layout_of d.pending
      → told (display d.pending d.pending next d.errors d.selection d.profile l) v.answer ≡ start_of d
  start-copies z l h =
      rw (h, step, e) (copies d (update_of d.pending) (eqb (check_in d) done) (check_in d) (rw e at z)
      (eqb-true _ _))

  -- with what is held left as it was

  abbrev begun_of : Told
  begun_of = told (with_layout (start_of d).state d.layout) (start_of d).answer

  abbrev bare : Told → Told
  bare t = told (with_layout t.state d.layout) t.answer

  pub begun-stays : v.passes ≡ false → told (with_frame d next) v.answer ≡ begun_of
  begun-stays z = ap bare (start-stays z)

  pub begun-copies : v.passes ≡ true
      → told (display d.pending d.pending next d.errors d.selection d.profile d.layout) v.answer
      ≡ begun_of
  begun-copies z = ap bare (start-copies z _ refl)
