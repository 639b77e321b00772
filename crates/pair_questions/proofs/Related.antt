-- What a relation says of two shapes.
--     not-apart     one that is not the first says that they are not apart
use mathlib.Core.Path.{◌≡◌, refl}
use mathlib.Core.Bool.{false}
use mathlib.Core.List.{List}
use native.Mathlib.Omega.{arith}
use Rattle.plane.specs.Point.{Point}
use Rattle.plane.specs.Separation.{apart, relation_number}
use Rattle.separation.specs.declared.answer.Relation.{Relation}
use Rattle.separation.specs.declared.answer.Relation.TheVariants.{Apart, Touching, Overlapping}
use Rattle.separation.specs.Answer.{number_of}
use Rattle.separation.specs.theory.Around.{related-not-apart}

pub not-apart : (A B : List Point) (p : Relation) → (p ≡ Apart → ⊥) → number_of p ≡ relation_number A B → apart A B ≡ false
not-apart A B Apart k h = absurd (k refl)
not-apart A B Touching k h = related-not-apart A B (omega arith) h
not-apart A B Overlapping k h = related-not-apart A B (omega arith) h
