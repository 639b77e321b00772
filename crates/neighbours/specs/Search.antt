-- The search for the nearest shape, as the code goes along the records. Our own, not of document 02.
--     near_numbers n            what is answered of what is found
--     is_latest b p             no later record has the name of the one at place p
--     is_nearer f best          the distance f is less than that of what is found, or nothing is found
--     is_met best               what is found meets the shape
--     kept_of now w best        what is found once a record is looked at: whether it is current, its name and its distance. The earlier one
--                              stays on a tie
--     NearSized best           what its distance is divided by is not 0
--     NotNearer e S best       a shape S is not nearer to any shape with the box e than what is found
--     Best A all w rest        a record with the name of w is at its distance from A, and of all records the first of the least is that
--                              of this one and the rest
--     Still A all best rest    the same of what is found
--     Onward A f but b p best r    looking at the record at place p turns `best` into r, whatever the records are
use Rattle.std.specs.Prelude.{◌≡◌, Bool, true, false, not, cond, ◌&&◌, Option, Some, None, is_none, List, [], ◌∷◌, ℕ, ℤ, pos, drop}
use Rattle.plane.specs.Point.{Point}
use Rattle.plane.specs.Shape.{IsShape}
use Rattle.plane.specs.Clearance.{clearance_numbers}
use Rattle.plane.specs.Distance.{Fraction, no_more, distance}
use Rattle.polygon.specs.declared.extent.Extent.{Extent}
use Rattle.polygon.specs.Extent.{Extends}
use Rattle.journal.specs.Format.{records, name}
use Rattle.journal.specs.Reading.{held}
use Rattle.journal.specs.Current.{around}
use Rattle.journal.specs.Survey.{record_at, next_at}
use Rattle.neighbours.specs.Nearest.{shape_of, nearest_of, nearest_numbers}
use Rattle.neighbours.specs.Spacing.{spacing_numbers, fraction_of, Sized}
use Rattle.answers.specs.declared.Nearest.{Nearest}

abbrev pub near_numbers : Option Nearest → List ℤ
near_numbers None = []
near_numbers (Some w) = pos w.name ∷ spacing_numbers w.distance

abbrev pub is_latest : List ℕ → ℕ → Bool
is_latest b p = not (held (name (record_at b p)) (records (drop (next_at b p) b)))

abbrev pub is_nearer : Fraction → Option Nearest → Bool
is_nearer f None = true
is_nearer f (Some w) = not (no_more (fraction_of w.distance) f)

abbrev pub is_met : Option Nearest → Bool
is_met None = false
is_met (Some w) = is_none w.distance

abbrev pub kept_of : Bool → Nearest → Option Nearest → Option Nearest
kept_of now w best = cond (is_nearer (fraction_of w.distance) best && now) (Some w) best

abbrev pub NearSized : Option Nearest → Type 0
NearSized None = Unit {0}
NearSized (Some w) = Sized w.distance

abbrev pub NotNearer : Extent → List Point → Option Nearest → Type 0
NotNearer e S best = (A : List Point) → IsShape A → Extends A e → is_nearer (distance A S) best ≡ false

pub record Best (A : List Point) (all : List (List ℕ)) (w : Nearest) (rest : List (List ℕ)) : Type 0 where
  pub one : List ℕ
  pub shape : IsShape (shape_of one)
  pub name-is : name one ≡ w.name
  pub spacing-is : spacing_numbers w.distance ≡ clearance_numbers A (shape_of one)
  pub still : let near = nearest_of A one rest in nearest_numbers A all ≡ pos (name near) ∷ clearance_numbers A (shape_of near)

abbrev pub Still : List Point → List (List ℕ) → Option Nearest → List (List ℕ) → Type 0
Still A all None rest = all ≡ rest
Still A all (Some w) rest = Best A all w rest

abbrev pub Onward : List Point → ℕ → ℕ → List ℕ → ℕ → Option Nearest → Option Nearest → Type 0
Onward A f but b p best r = (all : List (List ℕ)) → Still A all best (around f but (records (drop p b)))
    → Still A all r (around f but (records (drop (next_at b p) b)))
