-- Where the corner is that is furthest in a direction d. Turn d left by a quarter: the edges before that vector lead to the
-- corner. Where the next edge points its way, the corner after is as far.
--     Cut B d j           the edges of B before the quarter of d are the first j; `cut-made`: by those and the next
--     cut-furthest        corner j is furthest in d
--     cut-next            and the one after it, if edge j points the way of the quarter
use Rattle.std.specs.Prelude.{◌≡◌, refl, Bool, true, false, List, [], ◌∷◌, ℕ, ◌+◌, ◌≤◌, ◌<◌, ltb, ◌+ℤ◌, length, take}
use Rattle.std.proofs.Common.{sym, ◌∙◌, ap, arith, ltb-true, ltb-false}
use Rattle.integer.specs.Linear.{lia, linear, ◌&◌}
use Rattle.plane.specs.Cut.{quarter}
use Rattle.plane.specs.Point.{Point, corner}
use Rattle.plane.specs.Shape.{IsShape}
use Rattle.plane.specs.Direction.{value, support, SameWay}
use Rattle.plane.specs.Forms.{before, edges}
use Rattle.plane.proofs.theory.lists.Sought.{true-not-false}
use Rattle.plane.proofs.theory.forms.Vector.{total, value-cross, value-⊕}
use Rattle.plane.proofs.theory.forms.Angle.{before-trans}
use Rattle.plane.proofs.theory.forms.SameWay.{same-flat}
use Rattle.plane.specs.Cycle.{corner_round}
use Rattle.plane.proofs.theory.sum.Positions.{shape-in-order}
use Rattle.calipers.specs.theory.Furthest.{to_cut-at, cut-value}
use Rattle.plane.proofs.theory.sum.Positions.{round-step, round-total}
use Rattle.plane.proofs.theory.sum.Positions.{in-order-at}

-- ---- the cut

pub record Cut (B : List Point) (d : Point) (j : ℕ) : Type 0 where
  pub cut_in : j ≤ length (edges B)
  pub early : (k : ℕ) → k < j → before (corner (edges B) k) (quarter d) ≡ true
  pub late : (k : ℕ) → j ≤ k → k < length (edges B) → before (corner (edges B) k) (quarter d) ≡ false

-- what follows an edge that is not before the quarter is not before it
pub cut-made : {B : List Point} {d : Point} {j : ℕ} → IsShape B → j ≤ length (edges B)
    → ((k : ℕ) → k < j → before (corner (edges B) k) (quarter d) ≡ true)
    → (j < length (edges B) → before (corner (edges B) j) (quarter d) ≡ false) → Cut B d j
cut-made {B} {d} {j} s h f g = record { cut_in = h; early = f; late = λ k l m. go k l m (before (corner (edges B) k) (quarter d)) refl }
  where
    go : (k : ℕ) → j ≤ k → k < length (edges B) → (b : Bool) → before (corner (edges B) k) (quarter d) ≡ b → b ≡ false
    go k l m false e = refl
    go k l m true e = at_next (ltb j k) refl
      where
        at_next : (b : Bool) → ltb j k ≡ b → true ≡ false
        at_next true q = true-not-false
            (before-trans (in-order-at (edges B) (shape-in-order B s) j k (ltb-true j k q) m) (record { before-true = e })).before-true
            (g (omega arith))
        at_next false q = let same : k ≡ j = omega (arith, ltb-false j k q) in true-not-false (rw same at e) (g (omega arith))

module _ {B : List Point} {d : Point} {j : ℕ} (s : IsShape B) (c : Cut B d j) where
  pub cut-furthest : value d (corner_round B j) ≡ support d B
  cut-furthest =
      ap (value d) (round-total B j s.some c.cut_in) ∙ value-⊕ d (corner B 0) (total (take j (edges B)))
      ∙ ap (λ (q : Point). value d (corner B 0) +ℤ value d q) (sym (to_cut-at d (edges B) j c.cut_in c.early c.late))
      ∙ sym (cut-value d B s)

  -- the edge goes across d, so its two ends are equally far
  pub cut-next : j < length (edges B) → SameWay (corner (edges B) j) (quarter d) → value d (corner_round B (j + 1)) ≡ support d B
  cut-next h w =
      let f = corner (edges B) j in
      lia (value d (corner_round B (j + 1)) ∷ value d (corner_round B j) ∷ value d f ∷ support d B ∷ [])
      (ap (value d) (round-step B j h) ∙ value-⊕ d (corner_round B j) f & value-cross d f ∙ same-flat w & cut-furthest)
      (search linear depth 40) (omega arith)
