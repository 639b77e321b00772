-- The least box: the values that are answered of what the inner function finds.
use Rattle.std.specs.Prelude.{◌≡◌, refl, [], ◌∷◌, ℕ, pos}
use Rattle.std.proofs.Common.{subst}
use Rattle.plane.specs.Measure.{height, edge_squared}
use Rattle.plane.specs.Question.{values}
use Rattle.plane.specs.Floor.{Floored, corners}
use Rattle.boxes.specs.declared.Boxed.{Boxed}
use Rattle.boxes.specs.Box.{along, ask_box}
use Rattle.boxes.specs.Scan.{IsBox}

pub box-values : (a : Floored) {r : Boxed} → IsBox (corners a) r
    → pos r.edge ∷ pos r.height ∷ pos r.along ∷ pos r.squared ∷ pos a.floor ∷ [] ≡ values (ask_box a)
box-values a {r} f = subst told f.edge-is (rw (f.boxes.height-is, f.boxes.along-is, f.boxes.squared-is) refl)
  where
    told : ℕ → Type 0
    told e = pos r.edge ∷ pos r.height ∷ pos r.along ∷ pos r.squared ∷ pos a.floor ∷ []
        ≡ pos e ∷ height (corners a) e ∷ along (corners a) e ∷ edge_squared (corners a) e ∷ pos a.floor ∷ []
