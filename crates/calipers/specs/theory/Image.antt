-- The mirror image of a shape, corner by corner, from the shape itself.
--     image-points       its corners are those of the mirrored set; `image-count`: as many as the shape has
--     image-valid        it is a valid list
--     image-edges        it has as many edges as the shape
--     image-corner       corner i on the way round is the opposite of the shape's corner i places after the peak
--     image-small        and may be added
--     image-edge         the edge that leaves a corner ends at the next on the way round
use Rattle.std.specs.Prelude.{◌≡◌, refl, Bool, true, false, List, ℕ, ◌+◌, ◌-◌, ◌^◌, ◌≤◌, ◌<◌, ltb, ℤ, length}
use Rattle.std.proofs.Common.{sym, ◌∙◌, ap, arith, ltb-true, ltb-false, le-ltb, eq-eqb}
use Rattle.std.proofs.Math.Decide.{ℕ_discrete}
use Rattle.plane.specs.Point.{Point, points, corner, opposite, ◌⊖◌}
use Rattle.plane.specs.Refusal.{Valid}
use Rattle.plane.specs.Corner.{shape_of, mirrored}
use Rattle.plane.specs.Forms.{edges}
use Rattle.plane.specs.Cycle.{round, corner_round, turned}
use Rattle.plane.proofs.theory.forms.Vector.{step_back}
use Rattle.plane.proofs.theory.hull.ShapeOf.{shape_of-shape}
use Rattle.plane.proofs.theory.lists.Flat.{points-numbers, numbers-length}
use Rattle.plane.proofs.theory.lists.Members.{mirrored-some}
use Rattle.plane.proofs.theory.lists.Turned.{turned-start}
use Rattle.plane.proofs.theory.mirror.Mirror.{mirror-known, mirror-count, mirrored_from-at}
use Rattle.plane.proofs.theory.mirror.MirrorSize.{mirror-few, mirror-near}
use Rattle.plane.proofs.theory.refusals.Accept.{few-corners, near→in_range}
use Rattle.plane.proofs.theory.sum.Positions.{edges_some, edges_few, round-inner, round-within, round-step}
use Rattle.polygon.specs.Peak.{Peak}
use Rattle.polygon.specs.Point.{Small}
use Rattle.polygon.specs.theory.Peak.{peak-last}
use Rattle.polygon.specs.theory.Small.{small-corner}
use Rattle.calipers.specs.Image.{image}

-- lists of one length have the same number of edges
edges-alike : (A B : List Point) → length A ≡ length B → length (edges A) ≡ length (edges B)
edges-alike A B e = go (ltb 1 (length A)) refl
  where
    go : (b : Bool) → ltb 1 (length A) ≡ b → length (edges A) ≡ length (edges B)
    go true h = let two = ltb-true 1 (length A) h in edges_some A two ∙ e ∙ sym (edges_some B (omega arith))
    go false h = let one = ltb-false 1 (length A) h in edges_few A one ∙ sym (edges_few B (omega arith))

pub image-points : (l : List ℤ) → points (image l) ≡ shape_of (mirrored (points l))
image-points l = points-numbers (shape_of (mirrored (points l)))

module _ (l : List ℤ) (v : Valid l) where
  pub image-count : length (points (image l)) ≡ length (points l)
  image-count = ap length (image-points l) ∙ mirror-count (points l) v.shape

  pub image-edges : length (edges (points (image l))) ≡ length (edges (points l))
  image-edges = edges-alike (points (image l)) (points l) image-count

  pub image-valid : Valid (image l)
  image-valid = record {
    paired = omega (arith, numbers-length (shape_of (mirrored (points l))));
    few = rw points-numbers (few-corners _ (mirror-few l v));
    in_range = near→in_range (image l) (mirror-near l v);
    shape = rw points-numbers (shape_of-shape (mirrored (points l)) (mirrored-some (points l) v.shape.some));
  }

  pub image-small : (i : ℕ) → i ≤ length (points l) → {p : Point} → p ≡ corner_round (points (image l)) i → Small (2 ^ 21) p
  image-small i h e = small-corner (image l) image-valid.in_range (round (length (points (image l))) i)
      (round-within (length (points (image l))) i image-valid.shape.some (omega (arith, image-count))) e

  module _ (t : ℕ) (peak : Peak (points l) t) where
    at_position : (i : ℕ) → i < length (points l)
        → opposite (corner (points l) (turned (length (points l)) t i)) ≡ corner (points (image l)) i
    at_position i h =
        sym (ap (λ ps. corner ps i) (image-points l ∙ mirror-known (points l) v.shape t
        (record { within = peak.within; last = peak-last (points l) v.shape t peak }))
        ∙ mirrored_from-at (points l) t peak.within i h)

    -- all the way round, the first again
    home : turned (length (points l)) t (length (points l)) ≡ turned (length (points l)) t 0
    home =
        let n = length (points l) in
        let far : turned n t n ≡ t + n - n = rw (le-ltb (t + n) n (omega arith)) refl in
        far ∙ omega arith ∙ sym (turned-start n t peak.within)

    pub image-corner : (i : ℕ) → i ≤ length (points l) → {k : ℕ} → k ≡ turned (length (points l)) t i
        → {p : Point} → p ≡ opposite (corner (points l) k) → p ≡ corner_round (points (image l)) i
    image-corner i h e q = q ∙ ap (λ (j : ℕ). opposite (corner (points l) j)) e ∙ go (ℕ_discrete i (length (points l)))
      where
        go : Dec (i ≡ length (points l)) → opposite (corner (points l) (turned (length (points l)) t i)) ≡ corner_round (points (image l)) i
        go (yes last) =
            let n = length (points (image l)) in
            let end : round n i ≡ 0 = rw (eq-eqb i n (omega (arith, image-count))) refl in
            ap (λ (j : ℕ). opposite (corner (points l) j)) (ap (turned (length (points l)) t) last ∙ home)
            ∙ at_position 0 v.shape.some ∙ ap (corner (points (image l))) (sym end)
        go (no other) = at_position i (omega (arith, other))
            ∙ ap (corner (points (image l))) (sym (round-inner (length (points (image l))) i (omega (arith, other, image-count))))

-- ---- the edge that leaves a corner

-- from the corner at hand to the next on the way round
pub image-edge : (A : List Point) (i : ℕ) → i < length (edges A) → {p : Point} → p ≡ corner_round A (i + 1)
    → p ⊖ corner_round A i ≡ corner (edges A) i
image-edge A i h e = ap (λ (q : Point). q ⊖ corner_round A i) (e ∙ round-step A i h) ∙ step_back (corner_round A i) (corner (edges A) i)
