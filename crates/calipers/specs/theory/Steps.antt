-- The walk step by step: what is still to come is the present corner and what is to come after the step. That is its whole interface.
--     remaining-begin, ahead-begin       from the beginning, the vector sum is to come, and all places of the walk
--     remaining-here, ahead-here         unless the walk is over, the present corner, or place, comes next
--     remaining-over, ahead-over         after that, nothing
--     remaining-ahead                    the corners to come are those at the places to come
--     at-begin, at-advanced, at-stepped        the walk stays at edges of the two lists
--     remaining-stepped, here-stepped    after n steps: all but the first n corners, and the corner at position n
use Rattle.std.specs.Prelude.{◌≡◌, Bool, ℕ, zero, suc, ◌≤◌, ◌<◌, ℤ, length, drop}
use Rattle.std.proofs.Math.Path.{refl, sym, ap}
use Rattle.std.proofs.Common.{◌∙◌, arith, length-drop, drop-cons}
use Rattle.std.proofs.Math.Bool.{true, false, cond}
use mathlib.Core.List.{List, [], ◌∷◌, map}
use Rattle.std.proofs.Math.Dec.{eqb-zero-suc}
use Rattle.plane.specs.Point.{Point, points, corner, origin, ◌⊕◌}
use Rattle.plane.specs.Refusal.{Valid}
use Rattle.plane.specs.Forms.{edges}
use Rattle.plane.specs.VectorSum.{path, join_edges, vector_sum}
use Rattle.plane.specs.Cycle.{corner_round}
use Rattle.plane.proofs.theory.sum.Positions.{shape-in-order}
use Rattle.calipers.specs.Places.{place, places_from, places}
use Rattle.calipers.specs.theory.Places.{places-here}
use Rattle.calipers.specs.theory.PlaceCorners.{corner_at, places_from-corners}
use Rattle.calipers.specs.theory.Standing.{standing-start, standing-advance}
use Rattle.calipers.specs.Walk.{Walk, here, begun, passed, finished, advanced, stepped, ahead, remaining, At}

module _ (A B : List Point) where
  pub remaining-over : (w : Walk) → w.over ≡ true → remaining A B w ≡ []
  unfolding remaining
  remaining-over w o = rw o

  pub ahead-over : (w : Walk) → w.over ≡ true → ahead A B w ≡ []
  unfolding ahead
  ahead-over w o = rw o

  pub ahead-begin : ahead A B begun ≡ places (edges A) (edges B)
  unfolding ahead
  ahead-begin = refl

  pub remaining-ahead : (w : Walk) → remaining A B w ≡ map (corner_at A B) (ahead A B w)
  unfolding remaining ahead here
  remaining-ahead w = go w.over
    where
      go : (o : Bool) → cond o [] (path (corner_round A w.i ⊕ corner_round B w.j)
          (join_edges (drop w.i (edges A)) (drop w.j (edges B))))
          ≡ map (corner_at A B) (cond o [] (places_from w.i w.j (drop w.i (edges A)) (drop w.j (edges B))))
      go true = refl
      go false = sym (places_from-corners A B w.i w.j)

pub remaining-begin : (A B : List Point) → 0 < length A → 0 < length B → remaining A B begun ≡ vector_sum A B
unfolding remaining here
remaining-begin [] B h k = absurd (omega arith)
remaining-begin (a ∷ A) [] h k = absurd (omega arith)
remaining-begin (a ∷ A) (b ∷ B) h k = rw (eqb-zero-suc (length A), eqb-zero-suc (length B))

-- ---- for two lists of numbers, at a place of the walk

module _ (a b : List ℤ) where
  abbrev A : List Point
  A = points a

  abbrev B : List Point
  B = points b

  pub ahead-here : (w : Walk) → At a b w → w.over ≡ false → ahead A B w ≡ place w.i w.j ∷ ahead A B (advanced A B w)
  unfolding ahead advanced passed finished
  ahead-here w t o = rw o (places-here (edges A) (edges B) w.i w.j t.standing.left_in t.standing.right-in)

  pub remaining-here : (w : Walk) → At a b w → w.over ≡ false → remaining A B w ≡ here A B w ∷ remaining A B (advanced A B w)
  unfolding here
  remaining-here w t o =
      remaining-ahead A B w ∙ ap (map (corner_at A B)) (ahead-here w t o)
      ∙ ap (λ (ps : List Point). (corner_round A w.i ⊕ corner_round B w.j) ∷ ps) (sym (remaining-ahead A B (advanced A B w)))

  pub at-begin : Valid a → Valid b → At a b begun
  at-begin v w = record {
    first-near = v.in_range;
    second-near = w.in_range;
    first-shape = v.shape;
    second-shape = w.shape;
    standing = standing-start (edges A) (edges B);
  }

  pub at-advanced : (w : Walk) → At a b w → At a b (advanced A B w)
  unfolding advanced passed
  at-advanced w t = record {
    first-near = t.first-near;
    second-near = t.second-near;
    first-shape = t.first-shape;
    second-shape = t.second-shape;
    standing = standing-advance (shape-in-order A t.first-shape) (shape-in-order B t.second-shape) t.standing;
  }

  -- a walk with a corner to come is not over
  some-to-come : (w : Walk) → 0 < length (remaining A B w) → w.over ≡ false
  some-to-come w h = go w.over refl
    where
      go : (o : Bool) → w.over ≡ o → o ≡ false
      go true e = absurd (omega (arith, ap length (remaining-over A B w e)))
      go false e = refl

  module _ (w : Walk) (t : At a b w) where
    pub at-stepped : (n : ℕ) → At a b (stepped A B n w)
    at-stepped zero = t
    at-stepped (suc n) = at-advanced (stepped A B n w) (at-stepped n)

    -- one step more: the present corner, and what is to come after it, by position
    next-corner : (n : ℕ) → n < length (remaining A B w) → remaining A B (stepped A B n w) ≡ drop n (remaining A B w)
        → here A B (stepped A B n w) ∷ remaining A B (stepped A B (suc n) w) ≡ corner (remaining A B w) n ∷ drop (suc n) (remaining A B w)
    next-corner n h e =
        let some : 0 < length (remaining A B (stepped A B n w)) = omega (arith, ap length e, length-drop n (remaining A B w)) in
        sym (remaining-here (stepped A B n w) (at-stepped n) (some-to-come (stepped A B n w) some)) ∙ e
        ∙ drop-cons (remaining A B w) n origin h

    pub remaining-stepped : (n : ℕ) → n ≤ length (remaining A B w) → remaining A B (stepped A B n w) ≡ drop n (remaining A B w)
    remaining-stepped zero h = refl
    remaining-stepped (suc n) h = cc (next-corner n h (remaining-stepped n (omega arith)))

    pub here-stepped : (n : ℕ) → n < length (remaining A B w) → here A B (stepped A B n w) ≡ corner (remaining A B w) n
    here-stepped n h = cc (next-corner n h (remaining-stepped n (omega arith)))
