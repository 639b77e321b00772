-- The corner at hand: when the walk of two lists of edges passes an edge of the one, the other's corner there is furthest in the direction
-- out of that edge, since the edges before that direction's quarter turn are those passed.
--     to_cut-at, cut-value      the edges before the cut, by their number, and the value that they make
--     place-furthest           for edges E and a shape B
use Rattle.std.specs.Prelude.{◌≡◌, refl, true, false, List, [], ◌∷◌, ℕ, zero, suc, ◌≤◌, ◌<◌, ◌+ℤ◌, length, take}
use Rattle.std.proofs.Common.{sym, ◌∙◌, ap, not-suc-le-zero, arith}
use Rattle.plane.specs.Cut.{quarter}
use Rattle.plane.specs.Point.{Point, corner, ◌⊕◌}
use Rattle.plane.specs.Shape.{IsShape}
use Rattle.plane.specs.Direction.{value, support}
use Rattle.plane.specs.Forms.{before, edges}
use Rattle.plane.specs.Cycle.{corner_round}
use Rattle.plane.proofs.theory.forms.Vector.{total, value-⊕}
use Rattle.plane.proofs.theory.forms.Standard.{shape→sorted}
use Rattle.plane.proofs.theory.sum.Cut.{to_cut, to_cut-take, to_cut-leave, value-to_cut, cut-formula}
use Rattle.plane.proofs.theory.sum.Positions.{shape-in-order, round-total}
use Rattle.calipers.specs.Places.{Standing}
use Rattle.calipers.specs.theory.Standing.{Taken, taken-before, taken-after}

-- the edges before the cut, by their number
pub to_cut-at : (d : Point) (F : List Point) (j : ℕ) → j ≤ length F → ((k : ℕ) → k < j → before (corner F k) (quarter d) ≡ true)
    → ((k : ℕ) → j ≤ k → k < length F → before (corner F k) (quarter d) ≡ false) → to_cut d F ≡ total (take j F)
to_cut-at d [] zero h f g = refl
to_cut-at d [] (suc j) h f g = absurd (not-suc-le-zero h)
to_cut-at d (e ∷ F) zero h f g = to_cut-leave d e F (g 0 (omega arith) (omega arith))
    ∙ to_cut-at d F 0 (omega arith) (λ k l. absurd (omega arith)) (λ k l m. g (suc k) (omega arith) (omega arith))
to_cut-at d (e ∷ F) (suc j) h f g = to_cut-take d e F (f 0 (omega arith)) ∙ ap (λ (q : Point). e ⊕ q)
    (to_cut-at d F j (omega arith) (λ k l. f (suc k) (omega arith)) (λ k l m. g (suc k) (omega arith) (omega arith)))

pub cut-value : (d : Point) (B : List Point) → IsShape B → support d B ≡ value d (corner B 0) +ℤ value d (to_cut d (edges B))
cut-value d [] s = absurd (not-suc-le-zero s.some)
cut-value d (b ∷ B) s =
    cut-formula d b B (shape→sorted (b ∷ B) s) ∙ ap (λ z. value d b +ℤ z) (sym (value-to_cut d (edges (b ∷ B))))

pub place-furthest : {E B : List Point} {i j : ℕ} → IsShape B → Standing E (edges B) i j → Taken E i (edges B) j
    → (d : Point) → quarter d ≡ corner E i → value d (corner_round B j) ≡ support d B
place-furthest {B = B} {j = j} s_b s t d across =
    let cut : to_cut d (edges B) ≡ total (take j (edges B)) = to_cut-at d (edges B) j s.right-in
    (λ k h. rw across (taken-before (shape-in-order B s_b) s t k h))
    (λ k h l. rw across (taken-after (shape-in-order B s_b) s t k h l)) in
    ap (value d) (round-total B j s_b.some s.right-in) ∙ value-⊕ d (corner B 0) (total (take j (edges B)))
    ∙ ap (λ (q : Point). value d (corner B 0) +ℤ value d q) (sym cut) ∙ sym (cut-value d B s_b)
