-- The scene of `frames` that a painting is asked for by. Assumes nothing.
use Rattle.frames.specs.Scene as frames
use Rattle.paint.specs.declared.scene.Scene.{Scene}

-- its layout is worked out from its words
abbrev pub scene_in : Scene → frames.Scene
scene_in g = frames.scene_of g.profile g.words.now g.frame g.tables.now g.pictures.now g.floats.now
