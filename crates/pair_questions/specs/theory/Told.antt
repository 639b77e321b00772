-- What an inner function finds, as the values of the answer.
--     spaced-values, lane-told, beyond-told, direction-told
use Rattle.std.specs.Prelude.{◌≡◌, refl, Bool, cond, List, [], ◌∷◌, Option, Some, None, pos}
use Rattle.std.proofs.Common.{sym, ◌∙◌, ap}
use Rattle.plane.specs.Point.{Point}
use Rattle.plane.specs.Separation.{apart}
use Rattle.plane.specs.Clearance.{numbers_of, nearest, clearance_numbers}
use Rattle.polygon.specs.declared.point.Point.{Point as Code-as-Point}
use Rattle.clearance.specs.declared.measured.Distance.{Distance}
use Rattle.clearance.specs.Answer.{Spaced}
use Rattle.passage.specs.Corridor.{way_numbers}
use Rattle.separator.specs.Separator.{separator_numbers}
use Rattle.excess.specs.Answer.{values_of}
use Rattle.answers.specs.declared.Beyond.{Beyond}
use Rattle.answers.specs.declared.Lane.{Lane}
use Rattle.answers.specs.Answer.{found_values, distance_values, beyond_values, lane_values}

module _ (A B : List Point) where
  -- where they are apart, and where they are not
  apart-numbers : {t : Bool} → apart A B ≡ t → cond t (numbers_of A B (nearest A B)) (pos 0 ∷ []) ≡ clearance_numbers A B
  apart-numbers e = ap (λ (t : Bool). cond t (numbers_of A B (nearest A B)) (pos 0 ∷ [])) (sym e)

  pub spaced-values : (s : Option Distance) → Spaced A B s → distance_values s ≡ clearance_numbers A B
  spaced-values None e = apart-numbers e
  spaced-values (Some d) e = e.1 ∙ apart-numbers e.0

pub lane-told : (w : Option Lane) → found_values lane_values w ≡ way_numbers w
lane-told None = refl
lane-told (Some l) = refl

pub beyond-told : (b : Option Beyond) → beyond_values b ≡ values_of b
beyond-told None = refl
beyond-told (Some (Beyond.Corners c j d u)) = refl
beyond-told (Some (Beyond.Edge c e t q u)) = refl

pub direction-told : (d : Option Code-as-Point) → found_values (λ (p : Code-as-Point). p.x ∷ p.y ∷ []) d ≡ separator_numbers d
direction-told None = refl
direction-told (Some p) = refl
