-- A state taken apart and put back, and the cases of a door. Assumes nothing.
use Rattle.std.proofs.Common.{◌≡◌, ℕ, ◌+◌, ◌*◌, ◌/◌, ◌%◌, ◌<◌, ◌≤◌, Bool, true, false, eqb, ltb, List, [], ◌∷◌, ◌++◌, length, get_or, sym, refl, ap, ◌∙◌, arith, get_or-append-add, eq-eqb, ne_eqb}
use borrow.Rule.Slice.PartMut.{put_mid}
use Rattle.std.specs.Int.{from_bool}
use lib.ListN.{get_or-append}
use Rattle.lists.specs.Choice.{pick}
use Rattle.lists.specs.Little.{little_at}
use Rattle.lists.specs.Bytes.{little_bytes}
use Rattle.lists.specs.Tab.{tab}
use Rattle.lists.proofs.Upto.{upto-none}
use Rattle.lists.proofs.Little.{words-turn, words-bytes}
use Rattle.answers.specs.Answers.{state_length}
use Rattle.profiles.specs.Profile.{profile_of}
use Rattle.words.specs.Image.{words_from}
use Rattle.order.specs.declared.Layout.{Layout}
use Rattle.order.specs.Layout.{layout_of, no_layers}
use Rattle.display.specs.declared.Display.{Display}
use Rattle.display.specs.declared.Told.{Told}
use Rattle.display.specs.State.{display, selection_of}
use Rattle.display.specs.Doors.{with_layout, state_len, taken_of, last_words, state_words, state_bytes, door_answer, door_state}
use Rattle.display.specs.Doors.{choices_of, door_buffer, door_read}
use Rattle.display.specs.Reached.{Arranged}

-- ---- out of bytes

pub bare-all : (s pending active : List ℕ) (frame errors word number place chosen : ℕ) (layout : Layout)
    → pending ≡ words_from s 0 → active ≡ words_from s 208 → frame ≡ little_at s 416 → errors ≡ little_at s 420 → word ≡ little_at s 424
    → number ≡ little_at s 428 → place ≡ little_at s 432 → chosen ≡ little_at s 436
    → layout ≡ no_layers
    → display pending active frame errors (selection_of (ltb 0 word) number place)
    (profile_of (eqb (chosen % 2) 1) (eqb (chosen / 2 % 2) 0)) layout
    ≡ with_layout (taken_of s) no_layers
unfolding taken_of
bare-all s pending active frame errors word number place chosen layout p a f e m n o c l = rw (p, a, f, e, m, n, o, c, l)

-- with what is held worked out afresh from the active words it is the whole state
pub taken-all : (s : List ℕ) (d : Display) (layout : Layout) → d ≡ with_layout (taken_of s) no_layers
    → layout ≡ layout_of d.active → with_layout d layout ≡ taken_of s
unfolding taken_of
taken-all s d layout e l = rw (l, e)

-- which painting asks for
pub taken-arranged : (s : List ℕ) (d : Display) → d ≡ taken_of s → Arranged d
unfolding taken_of
taken-arranged s d e = rw e

-- ---- the words of a state, by their number

module _ (d : Display) (p : length d.pending ≡ 52) where
  pub in-pending : (i : ℕ) → i < 52 → get_or d.pending i 0 ≡ get_or (state_words d) i 0
  unfolding state_words
  in-pending i h = sym (get_or-append d.pending (d.active ++ last_words d) 0 i (omega arith))

  behind : (i : ℕ) → get_or (d.active ++ last_words d) i 0 ≡ get_or (state_words d) (52 + i) 0
  unfolding state_words
  behind i =
      sym (get_or-append-add d.pending (d.active ++ last_words d) i 0)
      ∙ ap (λ (n : ℕ). get_or (d.pending ++ (d.active ++ last_words d)) (n + i) 0) p

  module _ (a : length d.active ≡ 52) where
    pub in-active : (i : ℕ) → i < 52 → get_or d.active i 0 ≡ get_or (state_words d) (52 + i) 0
    in-active i h = sym (get_or-append d.active (last_words d) 0 i (omega arith)) ∙ behind i

    pub in-last : (i : ℕ) → get_or (last_words d) i 0 ≡ get_or (state_words d) (104 + i) 0
    in-last i =
        let q : 52 + (52 + i) ≡ 104 + i = omega arith in
        sym (get_or-append-add d.active (last_words d) i 0)
        ∙ ap (λ (n : ℕ). get_or (d.active ++ last_words d) (n + i) 0) a
        ∙ behind (52 + i) ∙ ap (λ (n : ℕ). get_or (state_words d) n 0) q

-- ---- put back, part by part

pub flag-is : (b : Bool) → from_bool b ≡ pick b 1 0
flag-is true = refl
flag-is false = refl

pub flag-le : (b : Bool) → from_bool b ≤ 1
flag-le true = omega arith
flag-le false = omega arith

pub state-bytes : (d : Display) (l p₁ p₂ p₃ : List ℕ) (made chosen : ℕ) → length d.pending ≡ 52 → length d.active ≡ 52
    → length l ≡ state_len → made ≡ pick d.selection.made 1 0 → chosen ≡ choices_of d.profile
    → p₁ ≡ tab (4 * length d.pending) (little_bytes d.pending)
    → p₂ ≡ tab (4 * length d.active) (little_bytes d.active)
    → p₃ ≡ tab 24 (little_bytes (d.frame ∷ d.errors ∷ made ∷ d.selection.number ∷ d.selection.place ∷ chosen ∷ []))
    → put_mid 416 24 (put_mid 208 208 (put_mid 0 208 l p₁) p₂) p₃ ≡ state_bytes d
unfolding state_bytes last_words
state-bytes d l p₁ p₂ p₃ made chosen p a long e f e₁ e₂ e₃ =
    let w = state_words d in
    let u₁ = words-turn {l = l} {l₀ = l} w d.pending p₁ 0 0 208 208 52 refl refl refl (omega arith)
    (λ i h. in-pending d p i h ∙ ap (λ (n : ℕ). get_or w n 0) (let q : i ≡ 0 + i = omega arith in q))
    (upto-none l (little_bytes w)) (rw p at e₁) in
    let u₂ = words-turn w d.active p₂ 208 52 416 208 52 refl refl refl (omega arith) (in-active d p a) u₁
    (rw a at e₂) in
    let u₃ = words-turn w (last_words d) p₃ 416 104 440 24 6 refl refl refl (omega arith) (λ i h. in-last d p a i) u₂
    (rw (e, f) at e₃) in
    words-bytes w state_len long (omega arith) u₃

-- ---- the cases of a door

-- what a host cannot tell apart: the answers are the same, and so are the states as bytes
pub record Alike (t u : Told) : Type 0 where
  pub answer : t.answer ≡ u.answer
  pub state : state_bytes t.state ≡ state_bytes u.state

-- what is done with a state is the call, whatever is held for painting
pub record Blind (does call : Display → Told) : Type 0 where
  pub alike : (d : Display) (l : Layout) → Alike (does (with_layout d l)) (call d)

module _ (s : List ℕ) (call : Display → Told) where
  pub door-length : (length s ≡ state_len → ⊥) → (state_length ≡ door_answer s call) × (s ≡ door_state s call)
  unfolding door_answer door_state
  door-length ne = (rw (ne_eqb _ _ ne), rw (ne_eqb _ _ ne))

  pub door-alike : (t : Told) (r : ℕ) (s' : List ℕ) → length s ≡ state_len → Alike t (call (taken_of s)) → r ≡ t.answer
      → s' ≡ state_bytes t.state → (r ≡ door_answer s call) × (s' ≡ door_state s call)
  unfolding door_answer door_state
  door-alike t r s' long a p q = (rw (eq-eqb _ _ long) (p ∙ a.answer), rw (eq-eqb _ _ long) (q ∙ a.state))

  -- of the whole state
  pub door-done : (d : Display) (t : Told) (r : ℕ) (s' : List ℕ) → length s ≡ state_len → d ≡ taken_of s → t ≡ call d
      → r ≡ t.answer → s' ≡ state_bytes t.state → (r ≡ door_answer s call) × (s' ≡ door_state s call)
  door-done d t r s' long at e =
      let f : t ≡ call (taken_of s) = e ∙ ap call at in
      door-alike t r s' long
      (record { answer = ap (λ (x : Told). x.answer) f; state = ap (λ (x : Told). state_bytes x.state) f })

  -- of one without what is held
  pub door-bare : (does : Display → Told) → Blind does call → (d : Display) (t : Told) (r : ℕ) (s' : List ℕ)
      → length s ≡ state_len → d ≡ with_layout (taken_of s) no_layers → t ≡ does d → r ≡ t.answer
      → s' ≡ state_bytes t.state → (r ≡ door_answer s call) × (s' ≡ door_state s call)
  door-bare does blind d t r s' long at e =
      let f : t ≡ does (with_layout (taken_of s) no_layers) = e ∙ ap does at in
      door-alike t r s' long (rw f (blind.alike (taken_of s) no_layers))

module _ (s : List ℕ) (after : Display → List ℕ) (before : List ℕ) where
  pub buffer-length : (length s ≡ state_len → ⊥) → before ≡ door_buffer s after before
  unfolding door_buffer
  buffer-length ne = rw (ne_eqb _ _ ne)

  pub buffer-done : (d : Display) (b : List ℕ) → length s ≡ state_len → d ≡ taken_of s → b ≡ after d
      → b ≡ door_buffer s after before
  unfolding door_buffer
  buffer-done d b long at e = rw (eq-eqb _ _ long) (e ∙ ap after at)

  pub buffer-bare : ((x : Display) (l : Layout) → after (with_layout x l) ≡ after x) → (d : Display) (b : List ℕ)
      → length s ≡ state_len → d ≡ with_layout (taken_of s) no_layers → b ≡ after d → b ≡ door_buffer s after before
  unfolding door_buffer
  buffer-bare blind d b long at e = rw (eq-eqb _ _ long) (e ∙ ap after at ∙ blind (taken_of s) no_layers)

module _ (s : List ℕ) (read : Display → ℕ) where
  pub read_length : (length s ≡ state_len → ⊥) → 0 ≡ door_read s read
  unfolding door_read
  read_length ne = rw (ne_eqb _ _ ne)

  pub read-bare : ((x : Display) (l : Layout) → read (with_layout x l) ≡ read x) → (d : Display) (r : ℕ)
      → length s ≡ state_len → d ≡ with_layout (taken_of s) no_layers → r ≡ read d → r ≡ door_read s read
  unfolding door_read
  read-bare blind d r long at e = rw (eq-eqb _ _ long) (e ∙ ap read at ∙ blind (taken_of s) no_layers)
