-- From three corners on the edges alone give the contact: the four sides of the box are for points and segments.
--     edges-on-way, edge-above     the last entry of the edges is on the way, and after each of them
--     edges-no-later               it is not after the arrival
--     edges-first                  in lowest terms it is the contact of a way that meets
use Rattle.std.specs.Prelude.{◌≡◌, true, List, ℕ, suc, ◌<◌, length}
use Rattle.std.proofs.Common.{arith}
use Rattle.plane.specs.Point.{Point}
use Rattle.plane.specs.Shape.{IsShape}
use Rattle.plane.specs.Distance.{Fraction}
use Rattle.motion.specs.Contact.{OnWay, NoLater, meets, edge_normal, past, entry, spot, arrival}
use Rattle.motion.specs.Contact.{edge_arrival, lowest, contact}
use Rattle.motion.proofs.theory.Walls.{edges→inside}
use Rattle.motion.proofs.theory.Entry.{later_trans, entering-on-way, entering-reached, last-on-way, last-above, last-below}
use Rattle.motion.proofs.theory.Lowest.{lowest-on-way, lowest-no-later, no-later-lowest, lowest-terms, lowest-only}
use Rattle.motion.proofs.theory.Meeting.{reached→held, meets→reached, arrival-on-way, arrival-above, arrival-no-later}

module _ (t u : Point) (G : List Point) (s : IsShape G) where
  abbrev edge : ℕ → Fraction
  edge i = entry t u G (suc (suc (suc (suc i))))

  edge-on-way : (i : ℕ) → i < length G → OnWay (edge i)
  edge-on-way i h = entering-on-way (past G (edge_normal G i) t) (past G (edge_normal G i) u)

  pub edges-on-way : OnWay (edge_arrival t u G)
  unfolding edge_arrival
  edges-on-way = last-on-way edge (length G) edge-on-way

  pub edges-no-later : NoLater (edge_arrival t u G) (arrival t u G)
  unfolding edge_arrival
  edges-no-later = last-below edge (length G) (arrival t u G) (arrival-on-way t u G)
      (λ i h. arrival-above t u G (suc (suc (suc (suc i)))) (omega arith))

  pub edge-above : (i : ℕ) → i < length G → NoLater (edge i) (edge_arrival t u G)
  unfolding edge_arrival
  edge-above = last-above edge (length G) edge-on-way

  module _ (three : 2 < length G) (f : Fraction) (on : OnWay f) (met : meets t u G f ≡ true) where
    edges-meet : meets t u G (edge_arrival t u G) ≡ true
    unfolding meets
    edges-meet = edges→inside (edge_arrival t u G).denominator edges-on-way.whole G (spot t u (edge_arrival t u G)) s three
        (λ i h. reached→held t u G (edge_normal G i) (edge_arrival t u G) (entering-reached _ _ f on
        (meets→reached t u G s.some f on.whole met (edge_normal G i)) (edge_arrival t u G) edges-on-way (edge-above i h) before))
      where
        before : NoLater (edge_arrival t u G) f
        before = later_trans edges-on-way (arrival-on-way t u G) on edges-no-later (arrival-no-later t u G s f on met)

    pub edges-first : lowest (edge_arrival t u G) ≡ contact t u G
    edges-first = lowest-only (arrival t u G) way e (lowest-on-way (edge_arrival t u G) edges-on-way)
        (lowest-terms (edge_arrival t u G) edges-on-way)
        (later_trans way edges-on-way on-way (arrival-no-later t u G s (edge_arrival t u G) edges-on-way edges-meet)
        (no-later-lowest (edge_arrival t u G) edges-on-way))
        (later_trans on-way edges-on-way way (lowest-no-later (edge_arrival t u G) edges-on-way) edges-no-later)
      where
        e : Fraction
        e = lowest (edge_arrival t u G)

        way : OnWay (arrival t u G)
        way = arrival-on-way t u G

        on-way : OnWay e
        on-way = lowest-on-way (edge_arrival t u G) edges-on-way
