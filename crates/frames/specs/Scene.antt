-- What a frame is painted from. Assumes nothing.
use Rattle.std.specs.Prelude.{ℕ, List, Float}
use Rattle.profiles.specs.declared.Profile.{Profile}

-- what was chosen when the state was made, the active words, the frame number, the lent tables, the lent pictures and the lent
-- floats
pub record Scene : Type 0 where
  pub profile : Profile
  pub words : List ℕ
  pub frame : ℕ
  pub tables : List ℕ
  pub pictures : List ℕ
  pub floats : List Float

-- a scene by its parts
abbrev pub scene_of : Profile → List ℕ → ℕ → List ℕ → List ℕ → List Float → Scene
scene_of profile words frame tables pictures floats =
    record { profile = profile; words = words; frame = frame; tables = tables; pictures = pictures; floats = floats }
