-- Every row of the table of starred figures holds, by computing. Assumes nothing.
use mathlib.Core.Path.{◌≡◌, refl}
use mathlib.Core.List.{map}
use Rattle.lists.specs.Little.{little_at}
use Rattle.lists.specs.Zero.{zero_from}
use Rattle.mix.specs.Blend.{blend_of}
use Rattle.mix.specs.Fade.{fade_at, fade_of}
use Rattle.draw.specs.Box.{box_after, box_of}
use Rattle.draw.specs.Drawing.{drawn_by, drawn_to, count_of, index_at}
use Rattle.laws.specs.Figures.{Figure, starred}

pub figures : map (λ (f : Figure). f.given) starred ≡ map (λ (f : Figure). f.said) starred
unfolding blend_of fade_at fade_of index_at count_of zero_from drawn_to drawn_by box_of box_after little_at
figures = refl
