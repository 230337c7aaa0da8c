-- A line from its parts: start, frame and reply, each as the code leaves it. Assumes nothing.
use Prim.Native.Nat.{ℕ, zero, suc, ◌+◌, ◌-◌, ◌*◌, ◌<◌, ◌≤◌}
use mathlib.Core.Path.{◌≡◌, refl, ap, ◌∙◌}
use mathlib.Core.Bool.{true, false}
use mathlib.Core.List.{List, [], ◌∷◌, ◌++◌}
use native.Mathlib.Omega.{arith}
use native.Mathlib.Nat.{le_of_suc-le-suc, not-suc-le-zero}
use lib.ListN.{length, get_or, take, drop, length-drop, length-append, length-take, length-replicate}
use lib.Seq.{length-take-le, take_all, take_at, drop_at, take-append-add}
use borrow.Author.Tests.{eq-eqb, ne_eqb, le-leb, lt-leb}
use Rattle.std.specs.Prelude.{Ok, Err}
use Rattle.std.specs.Int.{to_be_bytes}
use Rattle.std.proofs.Common.{w16, w32}
use Rattle.lists.specs.Over.{over}
use Rattle.answers.specs.Answers.{done}
use Rattle.mix.specs.Pixel.{pixel_len}
use Rattle.words.specs.Fields.{width_of, height_of}
use Rattle.display.specs.declared.Display.{Display}
use Rattle.display.specs.declared.Told.{Told}
use Rattle.display.specs.State.{told, start_of}
use Rattle.display.specs.Paint.{frame_told, frame_bytes}
use Rattle.hexadecimal.specs.Hex.{is_hex, bytes_in}
use Rattle.texts.specs.Replies.{bad_form, reply_text}
use Rattle.texts.proofs.PrintLaws.{length-reply_text}
use Rattle.steps.specs.declared.form.Parts.{Parts}
use Rattle.steps.specs.Form.{picture_place, is_formed}
use Rattle.steps.specs.Steps.{midway, run_of, steps_of}
use Rattle.steps.specs.Engine.Parts.{parts_of}
use Rattle.steps.proofs.FormLaws.{some-parts, no-parts}
use Rattle.line.specs.declared.Replied.{Replied}
use Rattle.line.specs.declared.Printed.{Printed}
use Rattle.line.specs.Sizes.{most_digits, most_lent, head_len, most_reply, most_printed}
use Rattle.line.specs.Line.{started_of, zeros, lent_for, lent_of, framed_of, painted_of, head_of, reply_of, bad_of}
use Rattle.line.specs.Line.{closed_of, work_of, done_of, outcome_of, line_of, printed_of}
use Rattle.line.specs.Engine.Replies.{Leaves}

-- ---- start

pub started-first : (t r : Told) → (t.answer ≡ done → ⊥) → r ≡ start_of t.state
    → told r.state t.answer ≡ started_of t
unfolding started_of
started-first t r h e = simp (ne_eqb t.answer done h) (ap (λ (q : Told). told q.state t.answer) e)

pub started-fresh : (t r : Told) → t.answer ≡ done → r ≡ start_of t.state → r ≡ started_of t
unfolding started_of
started-fresh t r z e = simp (eq-eqb t.answer done z) e

-- ---- what the frame is lent

module _ {w h w' h' : ℕ} (ew : w ≡ w') (eh : h ≡ h') where
  pub lent_for-all : pixel_len * (w * h) ≤ most_lent → pixel_len * (w * h) ≡ lent_for w' h'
  lent_for-all g = rw (← ew, ← eh, le-leb (pixel_len * (w * h)) most_lent g) refl

  pub lent_for-most : most_lent < pixel_len * (w * h) → most_lent ≡ lent_for w' h'
  lent_for-most g = rw (← ew, ← eh, lt-leb (pixel_len * (w * h)) most_lent g) refl

length-zeros : (n : ℕ) → length (zeros n) ≡ n
unfolding zeros
length-zeros n = length-replicate n 0

drop-zeros : (k n m : ℕ) → m ≡ k + n → drop k (zeros m) ≡ zeros n
unfolding zeros
drop-zeros zero n m e = ap zeros (let q : m ≡ n = omega arith in q)
drop-zeros (suc k) n zero e = absurd (let q : zero ≡ suc k + n = e in omega arith)
drop-zeros (suc k) n (suc m) e = drop-zeros k n m (omega arith)

take-zeros : (n m : ℕ) → n ≤ m → take n (zeros m) ≡ zeros n
unfolding zeros
take-zeros zero m h = refl
take-zeros (suc n) zero h = absurd (not-suc-le-zero h)
take-zeros (suc n) (suc m) h = ap (λ (l : List ℕ). 0 ∷ l) (take-zeros n m (le_of_suc-le-suc h))

pub reply-long : {o : List ℕ} → o ≡ zeros most_reply → length o ≡ most_reply
reply-long e = ap length e ∙ length-zeros most_reply

-- ---- the reply

-- e, w and h are the library's bytes of what the head has
pub head-is : (d : Display) (x y z : ℕ) (e w h o u : List ℕ) → x ≡ d.errors → y ≡ width_of d.active
    → z ≡ height_of d.active → e ≡ to_be_bytes w32 x → w ≡ to_be_bytes w16 y → h ≡ to_be_bytes w16 z
    → u ≡ over (0 ∷ get_or e 0 0 ∷ get_or e 1 0 ∷ get_or e 2 0 ∷ get_or e 3 0
    ∷ get_or w 0 0 ∷ get_or w 1 0 ∷ get_or h 0 0 ∷ get_or h 1 0 ∷ []) o
    → u ≡ over (done ∷ head_of d) o
head-is d x y z e w h o u ex ey ez ee ew eh q = q ∙ rw (ee, ew, eh, ex, ey, ez) refl

reply_of-refused : (f : Told) (bytes : List ℕ) → (f.answer ≡ done → ⊥) → f.answer ∷ [] ≡ reply_of f bytes
unfolding reply_of
reply_of-refused f bytes h = simp (ne_eqb f.answer done h)

reply_of-done : (f : Told) (bytes : List ℕ) → f.answer ≡ done → (done ∷ head_of f.state) ++ bytes ≡ reply_of f bytes
unfolding reply_of
reply_of-done f bytes h = rw h refl

-- a reply of one byte, as `refuse` leaves it
abbrev pub Refused : Display → ℕ → Replied → List ℕ → Type 0
Refused d a r u = (r.state ≡ d) × (r.count ≡ 1) × (take 1 u ≡ a ∷ [])

-- the frame's reply
abbrev Framed : Told → List ℕ → List ℕ → Replied → List ℕ → Type 0
Framed t ta pi r u =
    (r.state ≡ (framed_of t ta pi).state) × (take r.count u ≡ reply_of (framed_of t ta pi) (painted_of t ta pi))
    × (r.count ≤ most_reply)

module _ (t : Told) (ta pi : List ℕ) where
  refused-is : (f : Told) (r : Replied) (u : List ℕ) → f ≡ framed_of t ta pi → (f.answer ≡ done → ⊥)
      → Refused f.state f.answer r u → Framed t ta pi r u
  refused-is f r u e h q = (
    q.0 ∙ ap (λ (g : Told). g.state) e,
    ap (λ (n : ℕ). take n u) q.1 ∙ q.2 ∙ reply_of-refused f (painted_of t ta pi) h
        ∙ ap (λ (g : Told). reply_of g (painted_of t ta pi)) e,
    omega (arith, q.1),
  )

  framed-none : (t.answer ≡ done → ⊥) → t ≡ framed_of t ta pi
  unfolding framed_of
  framed-none h = simp (ne_eqb t.answer done h)

  pub frame_refused : (r : Replied) (u : List ℕ) → (t.answer ≡ done → ⊥) → Refused t.state t.answer r u
      → Framed t ta pi r u
  frame_refused r u h q = refused-is t r u (framed-none h) h q

  -- n bytes behind the head are lent, f is what the frame answers
  module _ (n : ℕ) (o : List ℕ) (f : Told) (z : t.answer ≡ done)
      (en : n ≡ lent_for (width_of t.state.active) (height_of t.state.active))
      (small : n ≤ most_lent) (ez : o ≡ zeros most_reply)
      (ef : f ≡ frame_told t.state ta pi [] (take (head_len + n - head_len) (drop head_len o))) where
    span : head_len + n - head_len ≡ n
    span = omega arith

    lent_is : take (head_len + n - head_len) (drop head_len o) ≡ lent_of t.state
    unfolding lent_of
    lent_is =
        ap (λ (l : List ℕ). take (head_len + n - head_len) (drop head_len l)) ez
        ∙ ap (λ (k : ℕ). take k (drop head_len (zeros most_reply))) span
        ∙ ap (take n) (drop-zeros head_len most_lent most_reply (omega arith))
        ∙ take-zeros n most_lent small
        ∙ ap zeros en

    framed_is : f ≡ framed_of t ta pi
    unfolding framed_of
    framed_is = simp (eq-eqb t.answer done z) (ef ∙ ap (λ (l : List ℕ). frame_told t.state ta pi [] l) lent_is)

    pub frame-stopped : (r : Replied) (u : List ℕ) → (f.answer ≡ done → ⊥) → Refused f.state f.answer r u
        → Framed t ta pi r u
    frame-stopped r u h q = refused-is f r u framed_is h q

    module _ (part : List ℕ) (ep : part ≡ frame_bytes t.state ta pi [] (take (head_len + n - head_len) (drop head_len o)))
        (kept : length part ≡ length (take (head_len + n - head_len) (drop head_len o))) where
      part-is : part ≡ painted_of t ta pi
      unfolding painted_of
      part-is = ep ∙ ap (λ (l : List ℕ). frame_bytes t.state ta pi [] l) lent_is

      part-long : length part ≡ n
      part-long =
          kept ∙ length-take-le (head_len + n - head_len) (drop head_len o)
          (simp length-drop (omega (arith, span, reply-long ez))) ∙ span

      pub reply-kept : length (take head_len o ++ (part ++ drop (head_len + n - head_len) (drop head_len o))) ≡ most_reply
      reply-kept =
          let a : length (take head_len o) ≡ head_len = length-take-le head_len o (omega (arith, reply-long ez)) in
          simp (length-append, length-drop) (omega (arith, a, span, part-long, reply-long ez))

      behind : drop head_len (take head_len o ++ (part ++ drop (head_len + n - head_len) (drop head_len o)))
          ≡ part ++ drop (head_len + n - head_len) (drop head_len o)
      behind =
          drop_at (take head_len o) (part ++ drop (head_len + n - head_len) (drop head_len o)) head_len
          (length-take-le head_len o (omega (arith, reply-long ez)))

      pub frame-painted : (u : List ℕ) → f.answer ≡ done
          → u ≡ over (done ∷ head_of f.state)
          (take head_len o ++ (part ++ drop (head_len + n - head_len) (drop head_len o)))
          → Framed t ta pi (record { state = f.state; count = head_len + n }) u
      unfolding over
      frame-painted u h q = (
        ap (λ (g : Told). g.state) framed_is,
        ap (take (head_len + n)) (q ∙ ap (λ (l : List ℕ). (done ∷ head_of f.state) ++ l) behind)
            ∙ take-append-add (done ∷ head_of f.state) (part ++ drop (head_len + n - head_len) (drop head_len o)) n
            ∙ ap (λ (l : List ℕ). (done ∷ head_of f.state) ++ l)
            (take_at part (drop (head_len + n - head_len) (drop head_len o)) n part-long ∙ part-is)
            ∙ reply_of-done f (painted_of t ta pi) h
            ∙ ap (λ (g : Told). reply_of g (painted_of t ta pi)) framed_is,
        omega arith,
      )

-- ---- a line's bytes, a line's text

bad-is : (d : Display) (t u : List ℕ) (r : Replied) → Refused d bad_form r u → Leaves (bad_of d t) r t u
bad-is d t u r q =
    record { state = q.0; tables = refl; reply = ap (λ (n : ℕ). take n u) q.1 ∙ q.2; fits = omega (arith, q.1) }

module _ (d : Display) (t b : List ℕ) where
  pub work-bad : (p : Parts) (r : Replied) (u : List ℕ) → Err p ≡ parts_of b → Refused d bad_form r u
      → Leaves (done_of d t b) r t u
  unfolding done_of
  work-bad p r u e q = let g = no-parts b p e in rw g (bad-is d t u r q)

  pub work-is : (p : Parts) (v pi u : List ℕ) (w s : Told) (r : Replied) → Ok p ≡ parts_of b
      → midway w v ≡ run_of (midway (told d done) t) (steps_of b) → s ≡ started_of w
      → pi ≡ take (length b - (p.picture + 2)) (drop (p.picture + 2) b) → Framed s v pi r u
      → Leaves (done_of d t b) r v u
  unfolding done_of work_of closed_of
  work-is p v pi u w s r e m es ep q =
      let f = some-parts b p e in
      let g : is_formed b ≡ true = f.0 in
      let y : pi ≡ drop (picture_place b + 2) b =
      ep ∙ take_all (length b - (p.picture + 2)) (drop (p.picture + 2) b) (long (p.picture + 2))
      ∙ ap (λ (n : ℕ). drop (n + 2) b) (ap (λ (k : Parts). k.picture) f.1) in
      rw (g, ← m, ← es, ← y) (record { state = q.0; tables = refl; reply = q.1; fits = q.2 })
    where
      long : (n : ℕ) → length (drop n b) ≤ length b - n
      long n = simp length-drop (omega arith)

module _ (d : Display) (t x : List ℕ) where
  pub text-long : (r : Replied) (u : List ℕ) → most_digits < length x → Refused d bad_form r u
      → Leaves (outcome_of d t x) r t u
  unfolding outcome_of
  text-long r u h q = rw (lt-leb (length x) most_digits h) (bad-is d t u r q)

  pub text-bad : (r : Replied) (u : List ℕ) → length x ≤ most_digits → is_hex x ≡ false
      → Refused d bad_form r u → Leaves (outcome_of d t x) r t u
  unfolding outcome_of
  text-bad r u h g q = rw (le-leb (length x) most_digits h, g) (bad-is d t u r q)

  pub text-is : (b v u : List ℕ) (r : Replied) → length x ≤ most_digits → is_hex x ≡ true
      → b ≡ bytes_in x → Leaves (done_of d t b) r v u → Leaves (outcome_of d t x) r v u
  unfolding outcome_of
  text-is b v u r h g eb q = rw (le-leb (length x) most_digits h, g) (rw eb at q)

-- ---- the printed line

pub line-is : (d : Display) (t x t' u o₀ o : List ℕ) (r : Replied) (k : ℕ) → Leaves (outcome_of d t x) r t' u
    → k ≡ length (reply_text (take r.count u)) → o ≡ over (reply_text (take r.count u)) o₀
    → (◌≡◌ {A = Printed} (record { state = r.state; count = k }) (printed_of (line_of d t x)))
    × ((t' ≡ (line_of d t x).tables) × ((o ≡ over (line_of d t x).printed o₀) × (k ≤ most_printed)))
unfolding line_of
line-is d t x t' u o₀ o r k q e f = (
  rw (q.state, e, q.reply) refl,
  (
    q.tables,
    (
      f ∙ ap (λ (l : List ℕ). over (reply_text l) o₀) q.reply,
      omega (arith, e, q.fits, length-reply_text (take r.count u), length-take r.count u),
    ),
  ),
)
