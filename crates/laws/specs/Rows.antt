-- The rows of 01 "Answers by number" and of 02's numbers: what a row says, and the case of each number. `proofs/Rows.antt`
-- shows a row of each call. Assumes nothing.
use Rattle.std.specs.Prelude.{ℕ, ◌+◌, ◌*◌, ◌≤◌, ◌<◌, ◌≡◌, Bool, true, false, ◌⊎◌, List, Float, get_or, length}
use Rattle.std.specs.Int.Bits.{bit_and}
use Rattle.lists.specs.Over.{over}
use Rattle.mix.specs.Pixel.{pixel_len}
use Rattle.words.specs.Fields.{update_of, width_of, height_of, layer_of}
use Rattle.words.specs.Check.{reserved_bits, Accepted, LetIn}
use Rattle.words.specs.Pictures.{pictures_len}
use Rattle.tables.specs.Geometry.{tables_len}
use Rattle.tables.specs.Selection.{end_of, named_by}
use Rattle.display.specs.declared.Display.{Display}
use Rattle.display.specs.State.{bits_in, stepped, start_of}
use Rattle.display.specs.Put.{put_of, put_tables}
use Rattle.display.specs.Paint.{fill_told, fill_bytes, paint_told, paint_bytes, frame_told, frame_bytes, line_told, line_bytes}
use Rattle.host.specs.Host.{host_answer, host_output}
use Rattle.repair.specs.Image.{mend_answer, mend_image, mend_list, mend_count}

-- a row of the table: "No.", "Given exactly when", "Leaves"
pub record Row (answer number : ℕ) (Case Left : Type 0) : Type 0 where
  pub only : answer ≡ number → Case
  pub when : Case → answer ≡ number
  pub leaves : answer ≡ number → Left

-- ---- the cases, of the words w

-- 7: "a reserved bit is set in any pending word"
abbrev pub ReservedBit : List ℕ → Type 0
ReservedBit w = (i : ℕ) × (i < 52) × ¬ (bit_and (get_or w i 0) (get_or reserved_bits i 0) ≡ 0)

-- 02 K7, 7: "for bits 1 and 2 together", and for bit 2 alone where there is "no such buffer"
abbrev pub BadKind : Bool → List ℕ → Type 0
BadKind floats w =
    (n : ℕ) × (n < 8) × ((layer_of w n).floats ≡ true) × ¬ ((floats ≡ true) × ((layer_of w n).graphics ≡ false))

-- either, where `floats` says that there is one
abbrev pub Case7 : Bool → List ℕ → Type 0
Case7 floats w = ReservedBit w ⊎ BadKind floats w

-- 8: "output width or height 0"
abbrev pub EmptyScreen : List ℕ → Type 0
EmptyScreen w = (width_of w ≡ 0) ⊎ (height_of w ≡ 0)

-- an enabled layer
abbrev pub Enabled : List ℕ → ℕ → Type 0
Enabled w n = (layer_of w n).on ≡ true

-- 9: "enabled layer with width or height 0"
abbrev pub EmptyLayer : List ℕ → ℕ → Type 0
EmptyLayer w n = Enabled w n × (((layer_of w n).width ≡ 0) ⊎ ((layer_of w n).height ≡ 0))

-- 10: "enabled layer with x+width > output width, or y+height > output height"
abbrev pub OffScreen : List ℕ → ℕ → Type 0
OffScreen w n =
    Enabled w n
    × ((width_of w < (layer_of w n).x + (layer_of w n).width) ⊎ (height_of w < (layer_of w n).y + (layer_of w n).height))

-- layer n gives neither
abbrev pub Passes : List ℕ → ℕ → Type 0
Passes w n = (¬ EmptyLayer w n) × (¬ OffScreen w n)

-- "then layers 0 to 7 each 9 then 10": the first layer that does not pass has the case P
abbrev pub FirstLayer : List ℕ → (ℕ → Type 0) → Type 0
FirstLayer w P = (n : ℕ) × (n < 8) × P n × ((m : ℕ) → m < n → Passes w m)

-- every layer passes
abbrev pub AllPass : List ℕ → Type 0
AllPass w = (n : ℕ) → n < 8 → Passes w n

-- 11: "two enabled layers of one depth"
abbrev pub SameDepth : List ℕ → Type 0
SameDepth w =
    (n : ℕ) × (m : ℕ) × (m < n) × (n < 8) × Enabled w n × Enabled w m × ((layer_of w n).depth ≡ (layer_of w m).depth)

-- ---- the cases in order: "Start 7, 8, then layers 0 to 7 each 9 then 10, then 11."

-- 8
abbrev pub Case8 : Bool → List ℕ → Type 0
Case8 floats w = (¬ Case7 floats w) × EmptyScreen w

-- 9
abbrev pub Case9 : Bool → List ℕ → Type 0
Case9 floats w = (¬ Case7 floats w) × ((¬ EmptyScreen w) × FirstLayer w (EmptyLayer w))

-- 10
abbrev pub Case10 : Bool → List ℕ → Type 0
Case10 floats w = (¬ Case7 floats w) × ((¬ EmptyScreen w) × FirstLayer w (λ n. (¬ EmptyLayer w n) × OffScreen w n))

-- 11
abbrev pub Case11 : Bool → List ℕ → Type 0
Case11 floats w = (¬ Case7 floats w) × ((¬ EmptyScreen w) × (AllPass w × SameDepth w))

-- none of them: the words are accepted, and have no float layer but where those are let in
abbrev pub Passing : Bool → List ℕ → Type 0
Passing floats w = Accepted w × LetIn floats w

-- ---- the cases beside the check's, of the active words or the host's w, and of what is lent

-- "if the pending update bit is set"
abbrev pub Updates : Display → Type 0
Updates d = update_of d.pending ≡ true

-- 15: "lower end above upper, or upper above 8"
abbrev pub NoBand : ℕ → ℕ → Type 0
NoBand a b = (b < a) ⊎ (8 < b)

-- 12: "active output size still 0"
abbrev pub NoSize : List ℕ → Type 0
NoSize w = EmptyScreen w

-- 13: "output not 4·width·height bytes"
abbrev pub WrongOutput : List ℕ → List ℕ → Type 0
WrongOutput w out = ¬ (length out ≡ pixel_len * (width_of w * height_of w))

-- 02 K3, 15: "for a line number at or past the height"
abbrev pub NoLine : List ℕ → ℕ → Type 0
NoLine w y = height_of w ≤ y

-- and 13: "against 4·width"
abbrev pub WrongLine : List ℕ → List ℕ → Type 0
WrongLine w out = ¬ (length out ≡ pixel_len * width_of w)

-- 6: "tables not 29,696 bytes"; 02 K2: "6 compares with the chosen length", of so many bits a glyph pixel
abbrev pub WrongTables : ℕ → List ℕ → Type 0
WrongTables bits tables = ¬ (length tables ≡ tables_len bits)

-- "in the host entry with both"
abbrev pub WrongBoth : List ℕ → Type 0
WrongBoth tables = ¬ ((length tables ≡ tables_len 1) ⊎ (length tables ≡ tables_len 2))

-- 14: "pictures of the wrong total length"
abbrev pub WrongPictures : List ℕ → List ℕ → Type 0
WrongPictures w pictures = ¬ (length pictures ≡ pictures_len false w)

-- 02 K7, 18: "for a float buffer of the wrong total length"
abbrev pub WrongFloats : List ℕ → List Float → Type 0
WrongFloats w floats = ¬ (length floats ≡ pictures_len true w)

-- "13, 6, 14", where the tables are wrong in the case `Wrong`: 6 with 13 not given
abbrev pub Case6 : List ℕ → List ℕ → Type 0 → Type 0
Case6 w out Wrong = (¬ WrongOutput w out) × Wrong

-- 14 with neither
abbrev pub Case14 : List ℕ → List ℕ → Type 0 → List ℕ → Type 0
Case14 w out Wrong pictures = (¬ WrongOutput w out) × ((¬ Wrong) × WrongPictures w pictures)

-- 18 "after 14"
abbrev pub Case18 : List ℕ → List ℕ → Type 0 → List ℕ → List Float → Type 0
Case18 w out Wrong pictures floats =
    (¬ WrongOutput w out) × ((¬ Wrong) × ((¬ WrongPictures w pictures) × WrongFloats w floats))

-- none of the four
abbrev pub BuffersFit : List ℕ → List ℕ → Type 0 → List ℕ → List Float → Type 0
BuffersFit w out Wrong pictures floats =
    (¬ WrongOutput w out) × ((¬ Wrong) × ((¬ WrongPictures w pictures) × (¬ WrongFloats w floats)))

-- of the first three, where no floats are lent
abbrev pub BytesFit : List ℕ → List ℕ → Type 0 → List ℕ → Type 0
BytesFit w out Wrong pictures = (¬ WrongOutput w out) × ((¬ Wrong) × (¬ WrongPictures w pictures))

-- 3: "nothing selected"
abbrev pub NotSelected : Display → Type 0
NotSelected d = d.selection.made ≡ false

-- 4: "the active word 3 names the selected bank"
abbrev pub BankActive : Display → Type 0
BankActive d = named_by d.active d.selection.number ≡ true

-- 5: "place is at the kind's end"
abbrev pub BankFull : Display → Type 0
BankFull d = d.selection.place ≡ end_of (bits_in d) d.selection.number

-- 02 K2: a bit number "1 or 2"
abbrev pub OneOrTwo : ℕ → Type 0
OneOrTwo bits = (bits ≡ 1) ⊎ (bits ≡ 2)

-- 16: "register image not 208 bytes"
abbrev pub WrongImage : List ℕ → Type 0
WrongImage image = ¬ (length image ≡ 208)

-- ---- the rows of a call's refusals

-- start: given with the pending update bit set alone; "frame number stepped, else unchanged"
abbrev pub StartRow : Display → ℕ → Type 0 → Type 0
StartRow d number Case = Row (start_of d).answer number (Updates d × Case) ((start_of d).state ≡ stepped d)

-- put, of the tables and the byte: "all unchanged"
abbrev pub PutRow : Display → List ℕ → ℕ → ℕ → Type 0 → Type 0
PutRow d tables byte number Case =
    Row (put_of d tables).answer number Case (((put_of d tables).state ≡ d) × (put_tables d tables byte ≡ tables))

-- fill, of the output: "all unchanged"
abbrev pub FillRow : Display → List ℕ → ℕ → Type 0 → Type 0
FillRow d out number Case =
    Row (fill_told d out).answer number Case (((fill_told d out).state ≡ d) × (fill_bytes d out ≡ out))

-- paint, of the band's ends, tables, pictures, floats and output: "all unchanged"
abbrev pub PaintRow : Display → ℕ → ℕ → List ℕ → List ℕ → List Float → List ℕ → ℕ → Type 0 → Type 0
PaintRow d a b tables pictures floats out number Case =
    Row (paint_told d a b tables pictures floats out).answer number Case
    (((paint_told d a b tables pictures floats out).state ≡ d) × (paint_bytes d a b tables pictures floats out ≡ out))

-- frame, of tables, pictures, floats and output: "all unchanged"
abbrev pub FrameRow : Display → List ℕ → List ℕ → List Float → List ℕ → ℕ → Type 0 → Type 0
FrameRow d tables pictures floats out number Case =
    Row (frame_told d tables pictures floats out).answer number Case
    (((frame_told d tables pictures floats out).state ≡ d) × (frame_bytes d tables pictures floats out ≡ out))

-- line, of its number, tables, pictures, floats and output: "all unchanged"
abbrev pub LineRow : Display → ℕ → List ℕ → List ℕ → List Float → List ℕ → ℕ → Type 0 → Type 0
LineRow d y tables pictures floats out number Case =
    Row (line_told d y tables pictures floats out).answer number Case
    (((line_told d y tables pictures floats out).state ≡ d) × (line_bytes d y tables pictures floats out ≡ out))

-- the host entry, of image, frame number, tables, pictures and output: "every refusal leaves the output
-- unchanged"
abbrev pub HostRow : List ℕ → ℕ → List ℕ → List ℕ → List ℕ → ℕ → Type 0 → Type 0
HostRow image frame tables pictures out number Case =
    Row (host_answer image frame tables pictures out) number Case (host_output image frame tables pictures out ≡ out)

-- mending, of the image and the list: 02 K4, "Refusals, with the image kept and no list"
abbrev pub MendRow : List ℕ → List ℕ → ℕ → Type 0 → Type 0
MendRow image list number Case =
    Row (mend_answer image) number Case
    ((mend_image image ≡ image) × ((over (mend_list image) list ≡ list) × (mend_count image ≡ 0)))
