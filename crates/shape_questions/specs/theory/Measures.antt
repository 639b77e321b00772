-- Length and width: the values that are answered of what the inner functions find.
--     length-values, width-values
use Rattle.std.specs.Prelude.{◌≡◌, refl, [], ◌∷◌, pos}
use Rattle.plane.specs.Question.{values, ask_length, ask_width}
use Rattle.plane.specs.Floor.{Floored, corners}
use Rattle.measure.specs.declared.Length.{Length}
use Rattle.measure.specs.declared.Width.{Width}
use Rattle.measure.specs.Answer.{IsLength, IsWidth}

module _ (a : Floored) where
  pub length-values : {r : Length} → IsLength (corners a) r
      → pos r.squared ∷ pos r.from ∷ pos r.to ∷ pos a.floor ∷ [] ≡ values (ask_length a)
  length-values f = rw (f.squared-is, f.from_is, f.to_is) refl

  pub width-values : {r : Width} → IsWidth (corners a) r
      → pos r.edge ∷ pos r.corner ∷ pos r.turn ∷ pos r.squared ∷ pos r.rounded ∷ pos a.floor ∷ []
      ≡ values (ask_width a)
  width-values f = rw (f.edge-is, f.corner-is, f.turn_is, f.squared-is, f.rounded-is) refl
