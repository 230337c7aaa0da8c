-- What is chosen when a state is made: 02 K2, "The number of bits is chosen when a state is made"; K7, whether it has a float
-- buffer. Assumes nothing.
use Rattle.std.specs.Prelude.{ℕ, Bool, true, false}
use Rattle.lists.specs.Choice.{pick}
use Rattle.profiles.specs.declared.Profile.{Profile}

-- a profile by its parts
abbrev pub profile_of : Bool → Bool → Profile
profile_of soft floats = record { soft = soft; floats = floats }

-- one bit a glyph pixel, with float layers or without
abbrev pub one_bit : Bool → Profile
one_bit floats = profile_of false floats

-- two of them
abbrev pub two_bits : Bool → Profile
two_bits floats = profile_of true floats

-- the number of them
abbrev pub bits_of : Profile → ℕ
bits_of p = pick p.soft 2 1
