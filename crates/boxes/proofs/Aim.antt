-- The three directions in which the calipers close on edge e: along it, across it and back, as the code has them.
--     aimed-along, -quarter, -back     from a corner on the way up they may be asked
--     held-quarter, -back              what is furthest in them
use mathlib.Core.Path.{◌≡◌, sym, subst, ◌∙◌, ap}
use mathlib.Core.List.{List}
use Prim.Native.Nat.{ℕ, ◌^◌, ◌<◌}
use lib.IntN.{ℤ}
use lib.ListN.{length}
use Rattle.integer.specs.Bound.{within-neg}
use Rattle.plane.specs.Cut.{quarter}
use Rattle.plane.specs.Face.{Furthest}
use Rattle.plane.specs.Point.{Point, points, opposite}
use Rattle.plane.specs.Refusal.{Valid}
use Rattle.plane.proofs.theory.lists.Next.{next-below}
use Rattle.plane.proofs.theory.sum.Positions.{edge_of}
use Rattle.polygon.specs.Point.{Small}
use Rattle.polygon.specs.theory.Small.{small-edge, small-wide}
use Rattle.boxes.specs.Scan.{Climbs, Aimed}
use Rattle.boxes.specs.theory.Climb.{climbs-same}

module _ {l : List ℤ} {e : ℕ} (v : Valid l) (h : e < length (points l)) {d : Point} (edge : d ≡ edge_of (points l) e) where
  pub small-along : Small (2 ^ 21) d
  small-along = small-edge l v.in_range e _ h (next-below _ _ h) edge

  wide : Small (2 ^ 22) d
  wide = small-wide small-along

  module _ (three : 2 < length (points l)) {i : ℕ} where
    pub aimed-along : Climbs (edge_of (points l) e) (points l) i → Aimed l d i
    aimed-along c = record { valid = v; three = three; small = wide; climbs = climbs-same edge c }

    pub aimed-quarter : {q : Point} → q ≡ quarter d → Climbs (quarter (edge_of (points l) e)) (points l) i → Aimed l q i
    aimed-quarter r c = record {
      valid = v;
      three = three;
      small = subst (Small (2 ^ 22)) (sym r) (record { small-x = within-neg wide.small-y; small-y = wide.small-x });
      climbs = climbs-same (r ∙ ap quarter edge) c;
    }

    pub aimed-back : {q : Point} → q ≡ opposite d → Climbs (opposite (edge_of (points l) e)) (points l) i → Aimed l q i
    aimed-back r c = record {
      valid = v;
      three = three;
      small = subst (Small (2 ^ 22)) (sym r) (record { small-x = within-neg wide.small-x; small-y = within-neg wide.small-y });
      climbs = climbs-same (r ∙ ap opposite edge) c;
    }

  module _ {i : ℕ} where
    furthest-same : {q f : Point} → q ≡ f → Furthest q (points l) i → Furthest f (points l) i
    furthest-same r f = subst (λ (z : Point). Furthest z (points l) i) r f

    pub held-along : Furthest d (points l) i → Furthest (edge_of (points l) e) (points l) i
    held-along = furthest-same edge

    pub held-quarter : {q : Point} → q ≡ quarter d → Furthest q (points l) i → Furthest (quarter (edge_of (points l) e)) (points l) i
    held-quarter r = furthest-same (r ∙ ap quarter edge)

    pub held_back : {q : Point} → q ≡ opposite d → Furthest q (points l) i → Furthest (opposite (edge_of (points l) e)) (points l) i
    held_back r = furthest-same (r ∙ ap opposite edge)
