-- Places of the walk by their number, and the edges of the sum that leave them.
--     sum-length                a sum has no more corners than both lists together
--     on_below, over-end        whether the walk is over tells whether all corners are passed
--     corner-here               its corner
--     stop-here                 the corner where the edge that leaves a corner ends: the next one, after the last the first
use Rattle.std.specs.Prelude.{◌≡◌, refl, Bool, true, false, List, [], ◌∷◌, ℕ, suc, ◌+◌, ◌≤◌, ◌<◌, ℤ, length, drop}
use Rattle.std.proofs.Common.{sym, ◌∙◌, ap, zero-le, arith, length-drop}
use Rattle.std.proofs.Math.Path.{ap₂}
use Rattle.plane.specs.Point.{Point, points, corner, ◌⊕◌}
use Rattle.plane.specs.Shape.{next}
use Rattle.plane.specs.Forms.{edges}
use Rattle.plane.specs.VectorSum.{path}
use Rattle.plane.proofs.theory.sum.Path.{along-length}
use Rattle.plane.specs.VectorSum.{vector_sum, join_edges}
use Rattle.plane.proofs.theory.sum.EdgeSum.{join_edges-length}
use Rattle.plane.proofs.theory.lists.Next.{Following, onward, closing, following}
use Rattle.plane.specs.Cycle.{round, corner_round}
use Rattle.calipers.specs.Walk.{here, begun, finished, advanced, stepped, remaining, At}
use Rattle.plane.proofs.theory.sum.Positions.{edges-at-most, round-inner}
use Rattle.calipers.specs.theory.Places.{finished-ended}
use Rattle.calipers.specs.theory.Sides.{round-end}
use Rattle.calipers.specs.theory.Steps.{remaining-begin, remaining-here, remaining-over, at-stepped, remaining-stepped, here-stepped}

-- ---- how many corners a sum has

path-length : (p : Point) (E : List Point) (n : ℕ) → 0 < n → length E ≤ n → length (path p E) ≤ n
path-length p [] n h k = h
path-length p (e ∷ E) n h k = omega (arith, along-length p (e ∷ E))

pub sum-length : (A B : List Point) → length (vector_sum A B) ≤ length A + length B
sum-length [] B = zero-le
sum-length (a ∷ A) [] = zero-le
sum-length (a ∷ A) (b ∷ B) = path-length (a ⊕ b) (join_edges (edges (a ∷ A)) (edges (b ∷ B))) (length (a ∷ A) + length (b ∷ B))
    (omega arith)
    (omega (arith, join_edges-length (edges (a ∷ A)) (edges (b ∷ B)), edges-at-most (a ∷ A), edges-at-most (b ∷ B)))

-- ---- a place of the walk, and the corner there

-- after the last edge, the first corner
home : (A : List Point) → 0 < length A → (i : ℕ) → i ≡ length (edges A) → corner_round A i ≡ corner_round A 0
home A some i e = ap (corner A) (ap (round (length A)) e ∙ round-end A some ∙ sym (round-inner (length A) 0 some))

module _ (a b : List ℤ) (start : At a b begun) where
  abbrev corners : List Point
  corners = vector_sum (points a) (points b)

  all : remaining (points a) (points b) begun ≡ corners
  all = remaining-begin (points a) (points b) start.first-shape.some start.second-shape.some

  rest : (n : ℕ) → n ≤ length corners → remaining (points a) (points b) (stepped (points a) (points b) n begun) ≡ drop n corners
  rest n h = remaining-stepped a b begun start n (omega (arith, ap length all)) ∙ ap (drop n) all

  pub on_below : (n : ℕ) → n ≤ length corners → (stepped (points a) (points b) n begun).over ≡ false → n < length corners
  on_below n h o = omega (
    arith,
    ap length (rest n h),
    length-drop n corners,
    ap length (remaining-here a b (stepped (points a) (points b) n begun) (at-stepped a b begun start n) o),
  )

  pub over-end : (n : ℕ) → n ≤ length corners → (stepped (points a) (points b) n begun).over ≡ true → length corners ≤ n
  over-end n h o = omega (
    arith,
    ap length (rest n h),
    length-drop n corners,
    ap length (remaining-over (points a) (points b) (stepped (points a) (points b) n begun) o),
  )

  pub corner-here : (n : ℕ) → n < length corners → here (points a) (points b) (stepped (points a) (points b) n begun) ≡ corner corners n
  corner-here n h = here-stepped a b begun start n (omega (arith, ap length all)) ∙ ap (λ (ps : List Point). corner ps n) all

  -- where the walk is over, it is at the first corner again
  over-here : (n : ℕ) → (stepped (points a) (points b) (suc n) begun).over ≡ true
      → here (points a) (points b) (stepped (points a) (points b) (suc n) begun) ≡ here (points a) (points b) begun
  unfolding here advanced finished
  over-here n o =
      let w = stepped (points a) (points b) (suc n) begun in
      let p = (at-stepped a b begun start (suc n)).standing in
      let e = finished-ended (edges (points a)) (edges (points b)) w.i w.j o in
      ap₂ ◌⊕◌ (home (points a) start.first-shape.some w.i (omega (arith, p.left_in, e.0)))
      (home (points b) start.second-shape.some w.j (omega (arith, p.right-in, e.1)))

  -- the corner where the edge that leaves corner n ends
  pub stop-here : (n : ℕ) → n < length corners
      → here (points a) (points b) (stepped (points a) (points b) (suc n) begun) ≡ corner corners (next (length corners) n)
  stop-here n h = go (stepped (points a) (points b) (suc n) begun).over refl (following (length corners) n h)
    where
      go : (o : Bool) → (stepped (points a) (points b) (suc n) begun).over ≡ o → Following (length corners) n
          → here (points a) (points b) (stepped (points a) (points b) (suc n) begun) ≡ corner corners (next (length corners) n)
      go true e (onward k q) = absurd (omega (arith, over-end (suc n) (omega arith) e))
      go true e (closing k q) = over-here n e ∙ corner-here 0 (omega arith) ∙ ap (corner corners) (sym q)
      go false e (onward k q) = corner-here (suc n) k ∙ ap (corner corners) (sym q)
      go false e (closing k q) = absurd (omega (arith, on_below (suc n) (omega arith) e))
