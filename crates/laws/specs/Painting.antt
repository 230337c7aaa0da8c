-- What the laws of painting speak of: demand 3, "for accepted settings, display on, 'layer' = an
-- enabled one". Assumes nothing.
use Rattle.std.specs.Prelude.{ℕ, ◌+◌, ◌*◌, ◌≤◌, ◌<◌, min, max, ◌≡◌, Bool, true, false, List, Float, get_or, length}
use Rattle.lists.specs.Choice.{pick, both}
use Rattle.lists.specs.Runs.{run}
use Rattle.lists.specs.Cut.{cut}
use Rattle.mix.specs.Pixel.{pixel_len, channels, opaque}
use Rattle.profiles.specs.Profile.{bits_of}
use Rattle.words.specs.declared.fields.Layer.{Layer}
use Rattle.words.specs.Fields.{shown_of, width_of, height_of, ground_of, layer_of}
use Rattle.words.specs.Check.{Accepted, LetIn}
use Rattle.words.specs.Image.{words_of}
use Rattle.words.specs.Change.{with_off, with_depth}
use Rattle.words.specs.Pictures.{picture_len_at, picture_start, pictures_len, start_at}
use Rattle.tables.specs.Geometry.{tables_len}
use Rattle.frames.specs.Scene.{Scene, scene_of}
use Rattle.frames.specs.Pixel.{bank_bytes, buffer_of, own_at, alpha_at, covers, across_of, down_of}
use Rattle.frames.specs.Frame.{frame_len, frame_of}
use Rattle.display.specs.declared.Display.{Display}
use Rattle.display.specs.Paint.{scene_with}
use Rattle.host.specs.Host.{scene_in}

-- ---- what every law asks and speaks of

-- accepted settings, the display on, tables, pictures and floats of the right lengths
pub record Ready (s : Scene) : Type 0 where
  pub long : length s.words ≡ 52
  pub accepted : Accepted s.words
  pub let_in : LetIn s.profile.floats s.words
  pub shown : shown_of s.words ≡ true
  pub tables : length s.tables ≡ tables_len (bits_of s.profile)
  pub pictures : length s.pictures ≡ pictures_len false s.words
  pub floats : length s.floats ≡ pictures_len true s.words

-- an enabled layer
pub record IsLayer (w : List ℕ) (n : ℕ) : Type 0 where
  pub number : n < 8
  pub on : (layer_of w n).on ≡ true

-- a whole frame of the display d with the tables t, the pictures p, the floats f and the output o that is painted
pub record Framing (d : Display) (t p : List ℕ) (f : List Float) (o : List ℕ) : Type 0 where
  pub ready : Ready (scene_with d t p f)
  pub output : length o ≡ frame_len d.active

-- the same of the host entry, with a register image and a frame number
pub record Hosting (image : List ℕ) (frame : ℕ) (t p o : List ℕ) : Type 0 where
  pub long : length image ≡ 208
  pub ready : Ready (scene_in image frame t p)
  pub output : length o ≡ frame_len (words_of image)

-- a channel of a pixel of the screen
pub record OnScreen (w : List ℕ) (y x c : ℕ) : Type 0 where
  pub across : x < width_of w
  pub down : y < height_of w
  pub channel : c < channels

-- that byte of an output of the words w
abbrev pub channel_in : List ℕ → List ℕ → ℕ → ℕ → ℕ → ℕ
channel_in w out y x c = get_or out (pixel_len * (y * width_of w + x) + c) 0

-- and of the frame
unfoldable pub channel_at : Scene → ℕ → ℕ → ℕ → ℕ
channel_at s y x c = channel_in s.words (frame_of s) y x c

-- what layer n shows at the screen's pixel (x, y): its alpha
abbrev pub alpha_over : Scene → ℕ → ℕ → ℕ → ℕ
alpha_over s n y x = alpha_at s n (down_of (layer_of s.words n) y) (across_of (layer_of s.words n) x)

-- and its channel c
abbrev pub own_over : Scene → ℕ → ℕ → ℕ → ℕ → ℕ
own_over s n y x c = own_at s n (down_of (layer_of s.words n) y) (across_of (layer_of s.words n) x) c

-- the same scene with other words
abbrev pub with_words : Scene → List ℕ → Scene
with_words s w = scene_of s.profile w s.frame s.tables s.pictures s.floats

-- ---- "two layers next to each other in depth that share no pixel may exchange depths"

-- layer i right under layer j, with no layer between them and no pixel in both
pub record Neighbours (w : List ℕ) (i j : ℕ) : Type 0 where
  pub low : IsLayer w i
  pub high : IsLayer w j
  pub under : (layer_of w i).depth < (layer_of w j).depth
  pub next : (m : ℕ) → IsLayer w m → (layer_of w i).depth < (layer_of w m).depth
      → (layer_of w m).depth < (layer_of w j).depth → ⊥
  pub apart : (x y : ℕ) → covers (layer_of w i) y x ≡ true → covers (layer_of w j) y x ≡ true → ⊥

-- layers i and j each at the other's depth
unfoldable pub exchanged : List ℕ → ℕ → ℕ → List ℕ
exchanged w i j = with_depth (with_depth w i (layer_of w j).depth) j (layer_of w i).depth

-- ---- "where a layer's alpha comes to 255, neither the background nor the pixels and alphas of layers
-- under it count"

-- layer n covers the pixel (x, y), and its alpha comes to 255 there
pub record OpaqueAt (s : Scene) (n y x : ℕ) : Type 0 where
  pub layer : IsLayer s.words n
  pub covering : covers (layer_of s.words n) y x ≡ true
  pub full : alpha_over s n y x ≡ opaque

-- layer l on or off, at a depth, with the alpha of layer k: global, value, and the fade
abbrev pub layer_with : Bool → ℕ → Layer → Layer → Layer
layer_with on depth l k =
    record {
      on = on;
      graphics = l.graphics;
      floats = l.floats;
      depth = depth;
      global = k.global;
      value = k.value;
      x = l.x;
      y = l.y;
      width = l.width;
      height = l.height;
      start = k.start;
      period = k.period;
      target = k.target;
    }

-- layer l but for its alpha
abbrev pub with_alpha_of : Layer → Layer → Layer
with_alpha_of l k = layer_with l.on l.depth l k

-- t is s in all but this: the background, and the pixels and alphas of layers under depth d
pub record OtherUnder (s t : Scene) (d : ℕ) : Type 0 where
  pub profile : t.profile ≡ s.profile
  pub frame : t.frame ≡ s.frame
  pub size : get_or t.words 1 0 ≡ get_or s.words 1 0
  pub banks : get_or t.words 3 0 ≡ get_or s.words 3 0
  pub above : (m : ℕ) → m < 8 → d ≤ (layer_of s.words m).depth → layer_of t.words m ≡ layer_of s.words m
  pub under : (m : ℕ) → m < 8 → (layer_of s.words m).depth < d
      → layer_of t.words m ≡ with_alpha_of (layer_of s.words m) (layer_of t.words m)
  pub tables : (m kind : ℕ) → m < 8 → d ≤ (layer_of s.words m).depth
      → bank_bytes (bits_of s.profile) s.words t.tables m kind
      ≡ bank_bytes (bits_of s.profile) s.words s.tables m kind
  pub pictures : (m k : ℕ) → m < 8 → d ≤ (layer_of s.words m).depth
      → k < picture_len_at (layer_of s.words m).floats s.words m
      → get_or (buffer_of t m) (start_at s.words m + k) 0 ≡ get_or (buffer_of s m) (start_at s.words m + k) 0

-- ---- "a layer whose alpha is 0 all over may be switched off, its picture withdrawn with it"

-- the alpha of layer n is 0 in each of its rows v and columns u
abbrev pub Clear : Scene → ℕ → Type 0
Clear s n = (v u : ℕ) → v < (layer_of s.words n).height → u < (layer_of s.words n).width → alpha_at s n v u ≡ 0

-- the buffer of floats, where `floats`, or that of bytes, without those of it that are layer n's (a graphics layer has none)
abbrev pub without_picture : {A : Type 0} → Bool → List ℕ → ℕ → List A → List A
without_picture floats w n buffer = cut (picture_start floats w n) (picture_len_at floats w n) buffer

-- layer n switched off, and its picture taken out
unfoldable pub without : Scene → ℕ → Scene
without s n =
    scene_of s.profile (with_off s.words n) s.frame s.tables (without_picture false s.words n s.pictures)
    (without_picture true s.words n s.floats)

-- ---- "each channel lies between the least and greatest of the background's and the covering layers' there"

-- each number of a list is a byte, as each of a lent `&[u8]` is
abbrev pub AreBytes : List ℕ → Type 0
AreBytes l = (i : ℕ) → get_or l i 0 < 256

-- a layer that covers the pixel
abbrev pub shows : Scene → ℕ → ℕ → ℕ → Bool
shows s n y x = both (layer_of s.words n).on (covers (layer_of s.words n) y x)

-- p, or where layer n shows less, that
unfoldable pub least_step : Scene → ℕ → ℕ → ℕ → ℕ → ℕ → ℕ
least_step s y x c n p = pick (shows s n y x) (min p (own_over s n y x c)) p

-- p, or where it shows more, that
unfoldable pub greatest_step : Scene → ℕ → ℕ → ℕ → ℕ → ℕ → ℕ
greatest_step s y x c n p = pick (shows s n y x) (max p (own_over s n y x c)) p

-- the least of the background's and the covering layers'
unfoldable pub least_at : Scene → ℕ → ℕ → ℕ → ℕ
least_at s y x c = run 0 8 (least_step s y x c) (ground_of s.words c)

-- and the greatest
unfoldable pub greatest_at : Scene → ℕ → ℕ → ℕ → ℕ
greatest_at s y x c = run 0 8 (greatest_step s y x c) (ground_of s.words c)

-- each channel of each pixel of an output lies between the two
pub record Between (s : Scene) (out : List ℕ) : Type 0 where
  pub least : (y x c : ℕ) → OnScreen s.words y x c → least_at s y x c ≤ channel_in s.words out y x c
  pub greatest : (y x c : ℕ) → OnScreen s.words y x c → channel_in s.words out y x c ≤ greatest_at s y x c
