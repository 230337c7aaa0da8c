-- What `src/form.rt` finds of a line's form. Assumes nothing.
use Rattle.std.specs.Prelude.{List, ℕ, Result, Ok, Err}
use Rattle.lists.specs.Choice.{choose}
use Rattle.steps.specs.declared.form.Parts.{Parts}
use Rattle.steps.specs.Form.{writes_place, picture_place, is_formed}

-- where the parts of a line stand
abbrev pub places_of : List ℕ → Parts
places_of b = record { writes = writes_place b; picture = picture_place b }

-- whether it is good, and where its parts stand, good or not
abbrev pub parts_of : List ℕ → Result Parts Parts
parts_of b = choose (is_formed b) (Ok (places_of b)) (Err (places_of b))
