-- The four tangents: the values that are answered of the lines that the inner function finds.
--     tangents-values
use Rattle.std.specs.Prelude.{◌≡◌, refl, Bool, true, false, [], ◌∷◌, pos}
use Rattle.plane.specs.Tangent.{tangent_from, tangent_to}
use Rattle.plane.specs.Floor.{Floored, corners}
use Rattle.plane.specs.Question.{values, ask_tangents}
use Rattle.tangents.specs.declared.Line.{Line}

module _ (a b : Floored) where
  -- the line with the shapes on these sides
  abbrev IsLine : Bool → Bool → Line → Type 0
  IsLine s t l = (l.from ≡ tangent_from s t (corners a) (corners b)) × (l.to ≡ tangent_to s t (corners a) (corners b))

  pub tangents-values : {p q r s : Line} → IsLine true true p → IsLine false false q → IsLine true false r → IsLine false true s
      → pos p.from ∷ pos p.to ∷ pos q.from ∷ pos q.to ∷ pos r.from ∷ pos r.to ∷ pos s.from ∷ pos s.to
      ∷ pos a.floor ∷ [] ≡ values (ask_tangents a b)
  tangents-values f g k l = rw (f.0, f.1, g.0, g.1, k.0, k.1, l.0, l.1) refl
