-- Shapes apart have a witness: a direction that leads away from their differences, divided.
--     outside-few         the origin is outside a point or a segment that has it on its line, but not on itself
--     not-apart-on        where it is on one, the shapes are not apart; `not-apart-many`: nor where a polygon has it right of no edge
--     away-good           such a direction is not refused; `away-witness`: divided, it is a witness
--     witness-exists      and there is one
use Rattle.std.specs.Prelude.{◌≡◌, refl, Bool, true, false, cond, List, ◌<◌, ℤ, pos, length, ◌<ℤ◌}
use Rattle.std.proofs.Common.{sym, ◌∙◌, subst, arith, lt-ltb, le-ltb}
use Rattle.plane.specs.Point.{Point, points}
use Rattle.plane.specs.Refusal.{Valid}
use Rattle.plane.specs.Search.{some}
use Rattle.plane.specs.Direction.{support}
use Rattle.plane.specs.Separation.{apart, not_left, relation_number}
use Rattle.plane.specs.Furthest.{bad_direction}
use Rattle.plane.specs.Primitive.{primitive}
use Rattle.plane.specs.Offer.{below}
use Rattle.plane.specs.VectorSum.{vector_sum}
use Rattle.plane.proofs.theory.direction.Rows.{direction-some, near-direction}
use Rattle.plane.proofs.theory.direction.Primitive.{primitive-same, primitive-bad, primitive-common}
use Rattle.calipers.specs.Image.{image}
use Rattle.separation.specs.Outward.{Outward}
use Rattle.separation.specs.Around.{right_of, origin_on, origin_in}
use Rattle.separation.specs.theory.Around.{related-not-apart}
use Rattle.separation.specs.theory.Outward.{some-away}
use Rattle.separation.specs.theory.Image.{image-begun, image-visited, image-related}
use Rattle.separator.specs.Separator.{Separates}
use Rattle.separator.specs.theory.Below.{negative→below, below→nonzero}
use Rattle.separator.specs.theory.Direction.{same-below}

-- ---- the origin against the differences

pub outside-few : (D : List Point) → some (right_of D) (length D) ≡ false → length D < 3 → origin_on D ≡ false → origin_in D ≡ pos 0
unfolding origin_in
outside-few D none few off = rw (none, lt-ltb (length D) 3 few, off)

on-few : (D : List Point) → some (right_of D) (length D) ≡ false → length D < 3 → origin_on D ≡ true → pos 1 ≡ origin_in D
unfolding origin_in
on-few D none few on = rw (none, lt-ltb (length D) 3 few, on)

in-many : (D : List Point) → some (right_of D) (length D) ≡ false → 2 < length D → {t : Bool} → some (not_left D) (length D) ≡ t
    → origin_in D ≡ cond t (pos 1) (pos 2)
unfolding origin_in
in-many D none many e = rw (none, le-ltb (length D) 3 many, e)

apart-related : (A B : List Point) → apart A B ≡ true → relation_number A B ≡ pos 0
unfolding relation_number
apart-related A B h = rw h

module _ (a b : List ℤ) (u : Valid a) (v : Valid b) where
  abbrev A : List Point
  A = points a

  abbrev B : List Point
  B = points b

  -- the corners that the walk visits
  abbrev D : List Point
  D = vector_sum A (points (image b))

  pub not-apart-on : some (right_of D) (length D) ≡ false → length D < 3 → origin_on D ≡ true → apart A B ≡ false
  not-apart-on none few on = related-not-apart A B (omega arith) (on-few D none few on ∙ image-related a b u v)

  pub not-apart-many : some (right_of D) (length D) ≡ false → 2 < length D → apart A B ≡ false
  not-apart-many none many = go (some (not_left D) (length D)) refl
    where
      go : (t : Bool) → some (not_left D) (length D) ≡ t → apart A B ≡ false
      go true e = related-not-apart A B (omega arith) (sym (in-many D none many e) ∙ image-related a b u v)
      go false e = related-not-apart A B (omega arith) (sym (in-many D none many e) ∙ image-related a b u v)

  -- ---- a direction that leads away

  module _ (d : Point) (w : Outward D d) where
    away-below : below d A B ≡ true
    away-below = negative→below d A B u.shape.some v.shape.some
        (subst (λ C. support d C <ℤ pos 0) (image-visited a b u v) w.negative)

    pub away-good : bad_direction d ≡ false
    away-good = near-direction d w.in-limits.small-x w.in-limits.small-y
        (below→nonzero d A B u.shape.some v.shape.some away-below)

    -- its name does as well
    pub away-witness : Separates A B (primitive d)
    away-witness = record {
      in-limits = primitive-bad d away-good;
      coprime = primitive-common d (direction-some d away-good);
      is_below = same-below A B (primitive-same d (direction-some d away-good)) ∙ away-below;
    }

  pub witness-exists : apart A B ≡ true → (d : Point) × Separates A B d
  witness-exists h =
      let (d, w) = some-away a (image b) (image-begun a b u v) (image-related a b u v ∙ apart-related A B h) in
      (primitive d, away-witness d w)
