-- The laws of painting as the calls keep them: of `frame`'s bytes and of the host entry's output. `Split`
-- and `Exchange` have theirs of the display. Assumes nothing.
use mathlib.Core.Path.{◌≡◌, sym, ap, ◌∙◌}
use mathlib.Core.Bool.{true, false}
use mathlib.Core.List.{List, []}
use Prim.Native.Nat.{ℕ, ◌<◌}
use native.Mathlib.Omega.{arith}
use borrow.Author.Tests.{eq-eqb}
use lib.Ieee.{Float}
use lib.ListN.{length}
use Rattle.answers.specs.Answers.{done}
use Rattle.words.specs.Fields.{layer_of}
use Rattle.words.specs.Change.{with_off}
use Rattle.words.specs.Pictures.{picture_len_at, picture_start}
use Rattle.words.proofs.ChangeLaws.{kept_off}
use Rattle.words.proofs.CheckLaws.{accepted-check}
use Rattle.frames.specs.Scene.{scene_of}
use Rattle.frames.specs.Frame.{refusal_of, frame_of, frame_after}
use Rattle.display.specs.declared.Display.{Display}
use Rattle.display.specs.State.{with_active}
use Rattle.display.specs.Paint.{scene_with, frame_bytes}
use Rattle.words.specs.Image.{words_of}
use Rattle.host.specs.Host.{profile_for, scene_in, host_answer, host_output}
use Rattle.laws.specs.Painting.{Framing, Hosting, OnScreen, channel_in, channel_at, Neighbours, exchanged}
use Rattle.laws.specs.Painting.{OpaqueAt, OtherUnder, Clear, without_picture, without, AreBytes}
use Rattle.laws.specs.Painting.{Between}
use Rattle.laws.proofs.FloatLaws.{cut-none}
use Rattle.laws.proofs.Pixels.{ready-done}
use Rattle.laws.proofs.Exchange.{exchange, exchanged-word}
use Rattle.laws.proofs.Opaque.{opaque-under}
use Rattle.laws.proofs.Invisible.{invisible}
use Rattle.laws.proofs.Between.{between}

-- ---- what is painted is the frame of the scene

pub frame-bytes : (d : Display) (t p : List ℕ) (r : List Float) (o : List ℕ) → Framing d t p r o
    → frame_bytes d t p r o ≡ frame_of (scene_with d t p r)
unfolding frame_bytes frame_after
frame-bytes d t p r o f =
    let e : refusal_of (scene_with d t p r) 0 8 o ≡ done =
    ready-done (scene_with d t p r) 0 8 o f.ready (omega arith) (omega arith) f.output in rw e

host-done : (image : List ℕ) (frame : ℕ) (t p o : List ℕ) → Hosting image frame t p o → host_answer image frame t p o
    ≡ done
unfolding host_answer
host-done image frame t p o f =
    rw (eq-eqb _ _ f.long, accepted-check (words_of image) false f.ready.accepted f.ready.let_in)
    (ready-done (scene_in image frame t p) 0 8 o f.ready (omega arith) (omega arith) f.output)

pub host-bytes : (image : List ℕ) (frame : ℕ) (t p o : List ℕ) → Hosting image frame t p o
    → host_output image frame t p o ≡ frame_of (scene_in image frame t p)
unfolding host_output
host-bytes image frame t p o f = rw (host-done image frame t p o f)

-- ---- "two layers next to each other in depth that share no pixel may exchange depths"

-- of the host entry, with any image of the exchanged words
pub exchange-host : (image image' : List ℕ) (frame : ℕ) (t p o : List ℕ) (i j : ℕ) → Hosting image frame t p o
    → Neighbours (words_of image) i j → length image' ≡ 208 → words_of image' ≡ exchanged (words_of image) i j
    → Hosting image' frame t p o × (host_output image' frame t p o ≡ host_output image frame t p o)
exchange-host image image' frame t p o i j f q long e =
    let x = exchange (scene_in image frame t p) i j f.ready q in
    let same = exchanged-word (words_of image) i j f.ready.long f.ready.accepted q 1 (omega arith) in
    let g : Hosting image' frame t p o =
    record { long = long; ready = rw e x.0; output = rw (e, same) f.output } in (
      g,
      host-bytes image' frame t p o g ∙ ap (λ (w : List ℕ). frame_of (scene_of (profile_for (length t)) w frame t p [])) e ∙ x.1
          ∙ sym (host-bytes image frame t p o f),
    )

-- ---- "where a layer's alpha comes to 255, neither the background nor the pixels and alphas of layers
-- under it count"

pub opaque-frame : (d e : Display) (t p o t' p' o' : List ℕ) (r r' : List Float) (n y x c : ℕ) → Framing d t p r o
    → Framing e t' p' r' o' → OpaqueAt (scene_with d t p r) n y x
    → OtherUnder (scene_with d t p r) (scene_with e t' p' r') (layer_of d.active n).depth → OnScreen d.active y x c
    → channel_in e.active (frame_bytes e t' p' r' o') y x c ≡ channel_in d.active (frame_bytes d t p r o) y x c
unfolding channel_at
opaque-frame d e t p o t' p' o' r r' n y x c f g opaque other on =
    rw (frame-bytes d t p r o f, frame-bytes e t' p' r' o' g)
    (opaque-under (scene_with d t p r) (scene_with e t' p' r') n y x c f.ready g.ready opaque other on)

pub opaque-host : (image image' : List ℕ) (frame : ℕ) (t p o t' p' o' : List ℕ) (n y x c : ℕ)
    → Hosting image frame t p o → Hosting image' frame t' p' o' → OpaqueAt (scene_in image frame t p) n y x
    → OtherUnder (scene_in image frame t p) (scene_in image' frame t' p') (layer_of (words_of image) n).depth
    → OnScreen (words_of image) y x c
    → channel_in (words_of image') (host_output image' frame t' p' o') y x c
    ≡ channel_in (words_of image) (host_output image frame t p o) y x c
unfolding channel_at
opaque-host image image' frame t p o t' p' o' n y x c f g opaque other on =
    rw (host-bytes image frame t p o f, host-bytes image' frame t' p' o' g)
    (opaque-under (scene_in image frame t p) (scene_in image' frame t' p') n y x c f.ready g.ready opaque other on)

-- ---- "a layer whose alpha is 0 all over may be switched off, its picture withdrawn with it"

pub invisible-frame : (d : Display) (t p : List ℕ) (r : List Float) (o : List ℕ) (n : ℕ) → n < 8 → Framing d t p r o
    → Clear (scene_with d t p r) n
    → let e = with_active d (with_off d.active n) in
    let q = without_picture false d.active n p in
    let v = without_picture true d.active n r in
    Framing e t q v o × (frame_bytes e t q v o ≡ frame_bytes d t p r o)
unfolding without
invisible-frame d t p r o n hn f clear =
    let e = with_active d (with_off d.active n) in
    let q = without_picture false d.active n p in
    let v = without_picture true d.active n r in
    let x = invisible (scene_with d t p r) n hn f.ready clear in
    let same = (kept_off d.active n hn f.ready.long).first 1 (omega arith) in
    let g : Framing e t q v o = record { ready = x.0; output = rw same f.output } in
    (g, frame-bytes e t q v o g ∙ x.1 ∙ sym (frame-bytes d t p r o f))

-- with any image of the words without the layer
pub invisible-host : (image image' : List ℕ) (frame : ℕ) (t p o : List ℕ) (n : ℕ) → n < 8 → Hosting image frame t p o
    → Clear (scene_in image frame t p) n → length image' ≡ 208 → words_of image' ≡ with_off (words_of image) n
    → let q = without_picture false (words_of image) n p in
    Hosting image' frame t q o × (host_output image' frame t q o ≡ host_output image frame t p o)
unfolding without
invisible-host image image' frame t p o n hn f clear long e =
    let q = without_picture false (words_of image) n p in
    let none = cut-none (picture_start true (words_of image) n) (picture_len_at true (words_of image) n) in
    let x = rw none at (invisible (scene_in image frame t p) n hn f.ready clear) in
    let same = (kept_off (words_of image) n hn f.ready.long).first 1 (omega arith) in
    let g : Hosting image' frame t q o =
    record { long = long; ready = rw e x.0; output = rw (e, same) f.output } in (
      g,
      host-bytes image' frame t q o g ∙ ap (λ (w : List ℕ). frame_of (scene_of (profile_for (length t)) w frame t q [])) e ∙ x.1
          ∙ sym (host-bytes image frame t p o f),
    )

-- ---- "each channel lies between the least and greatest of the background's and the covering layers'
-- there": of tables and pictures of bytes. `between_frame` and `between_host` of src/ have it of lent ones
-- with nothing asked.

pub between-frame : (d : Display) (t p : List ℕ) (r : List Float) (o : List ℕ) → Framing d t p r o → AreBytes t → AreBytes p
    → Between (scene_with d t p r) (frame_bytes d t p r o)
between-frame d t p r o f bt bp =
    rw (frame-bytes d t p r o f) (between (scene_with d t p r) f.ready bt bp)

pub between-host : (image : List ℕ) (frame : ℕ) (t p o : List ℕ) → Hosting image frame t p o → AreBytes t → AreBytes p
    → Between (scene_in image frame t p) (host_output image frame t p o)
between-host image frame t p o f bt bp =
    rw (host-bytes image frame t p o f)
    (between (scene_in image frame t p) f.ready bt bp)
