-- The gap between two shapes that are apart is widest across the step between their nearest points. The direction is taken in lowest terms.
--     same_gap, same_length      the gap and the squared length of two directions that point the same way
--     gap-clearance              the gap in a direction, squared, over its squared length, is at most the squared clearance
--     widest-some                the direction is not (0,0)
--     widest-clearance           the gap in it, squared, over its squared length, is the squared clearance
--     none-wider                 no direction has a wider gap
--     widest-positive            the gap in it is above 0
use Rattle.std.specs.Prelude.{◌≡◌, true, List, [], ◌∷◌, ℤ, pos, ◌*ℤ◌, ◌≤ℤ◌, ◌<ℤ◌}
use Rattle.std.proofs.Common.{ap₂, arith}
use Rattle.integer.specs.Linear.{linear, lia, ◌&◌}
use Rattle.integer.specs.Order.{◌<×<◌, ◌<×≤◌, ◌≤×≤◌, ◌≡×◌, contra<, contra≤, cancel, weaken, le_antisym}
use Rattle.plane.specs.Point.{Point, opposite}
use Rattle.plane.specs.Shape.{IsShape}
use Rattle.plane.specs.Direction.{value, support, SameWay}
use Rattle.plane.specs.Separation.{apart}
use Rattle.plane.specs.Clearance.{top, bottom, nearest}
use Rattle.plane.specs.Forms.{NonZero}
use Rattle.plane.proofs.theory.forms.Vector.{value-nonneg, square-positive}
use Rattle.plane.proofs.theory.forms.SameWay.{same-sym, same-non-zero}
use Rattle.plane.proofs.theory.support.Support.{value-le-support}
use Rattle.plane.proofs.theory.direction.Scaled.{same-support}
use Rattle.plane.proofs.theory.direction.Primitive.{primitive-same}
use Rattle.clearance.specs.theory.Nearest.{nearest-is-whole}
use Rattle.strips.specs.Strip.{least, gap_in, Corridor}
use Rattle.strips.specs.OwnDirection.{towards}
use Rattle.strips.proofs.theory.Spread.{least-le-value}
use Rattle.strips.proofs.theory.Corridors.{corridor-no-wider, towards-corridor, towards-wide}
use Rattle.passage.specs.Corridor.{widest_of}
use Rattle.passage.proofs.theory.Gaps.{apart→gap}

-- ---- directions that point the same way

same-opposite : {d e : Point} → SameWay d e → SameWay (opposite d) (opposite e)
same-opposite {d} {e} s = record {
  m = s.m;
  n = s.n;
  m-above = s.m-above;
  n-above = s.n-above;
  along-x = lia (s.m ∷ s.n ∷ d.x ∷ e.x ∷ []) s.along-x (search linear depth 40) (omega arith);
  along-y = lia (s.m ∷ s.n ∷ d.y ∷ e.y ∷ []) s.along-y (search linear depth 40) (omega arith);
}

pub same_gap : {d e : Point} (s : SameWay d e) (A B : List Point) → s.m *ℤ gap_in d A B ≡ s.n *ℤ gap_in e A B
unfolding gap_in least same-opposite
same_gap {d} {e} s A B =
    lia (s.m ∷ s.n ∷ support (opposite d) A ∷ support (opposite e) A ∷ support d B ∷ support e B ∷ [])
    (same-support (same-opposite s) A & same-support s B) (search linear depth 40) (omega arith)

pub same_length : {d e : Point} (s : SameWay d e) → s.m *ℤ s.m *ℤ value d d ≡ s.n *ℤ s.n *ℤ value e e
unfolding value
same_length {d} {e} s = lia (s.m ∷ s.n ∷ d.x ∷ d.y ∷ e.x ∷ e.y ∷ [])
    (ap₂ (λ y z. y *ℤ z) s.along-x s.along-x & ap₂ (λ y z. y *ℤ z) s.along-y s.along-y) (search linear depth 40) (omega arith)

-- g and N are the gap and the squared length in the one, t and M in the other: t·t/M is x/y, and so is g·g/N
same-fraction : (m k g t N M x y : ℤ) → pos 0 <ℤ m → m *ℤ g ≡ k *ℤ t → m *ℤ m *ℤ N ≡ k *ℤ k *ℤ M → t *ℤ t *ℤ y ≡ x *ℤ M
    → g *ℤ g *ℤ y ≡ x *ℤ N
same-fraction m k g t N M x y some gap long at =
    let square : pos 0 <ℤ (m *ℤ m) = lia (m ∷ []) (some <×< some) (search linear depth 40) (omega arith) in
    cancel square (lia (m ∷ k ∷ g ∷ t ∷ N ∷ M ∷ x ∷ y ∷ [])
    (ap₂ (λ v w. v *ℤ w *ℤ y) gap gap & long ≡× x & at ≡× (k *ℤ k)) (search linear depth 40) (omega arith))

-- ---- the widest gap

-- g·g/D is at most x/y, and t·t/N is x/y
no-wider : (g D t N x y : ℤ) → pos 0 <ℤ y → pos 0 ≤ℤ N → (g *ℤ g *ℤ y) ≤ℤ (x *ℤ D) → t *ℤ t *ℤ y ≡ x *ℤ N
    → (g *ℤ g *ℤ N) ≤ℤ (t *ℤ t *ℤ D)
no-wider g D t N x y whole long below at = contra≤ (λ h. lia (g ∷ D ∷ t ∷ N ∷ x ∷ y ∷ [])
    (whole <×< h & long ≤×≤ below & at ≡× D) (search linear depth 40) (omega arith))

-- t·t/N is at least g·g/D, which is above 0
pub not-level : (g D t N : ℤ) → pos 0 <ℤ g → pos 0 <ℤ N → pos 0 ≤ℤ t → (g *ℤ g *ℤ N) ≤ℤ (t *ℤ t *ℤ D) → pos 0 <ℤ t
not-level g D t N some long low wide = contra< (λ h.
    let level : t ≡ pos 0 = le_antisym h low in
    let square : pos 0 <ℤ (g *ℤ g) = lia (g ∷ []) (some <×< some) (search linear depth 40) (omega arith) in
    lia (g ∷ D ∷ t ∷ N ∷ []) (wide & level ≡× (t *ℤ D) & square <×< long) (search linear depth 40) (omega arith))

-- m·g is k·t
not-below : (m k g t : ℤ) → pos 0 <ℤ m → pos 0 <ℤ k → m *ℤ g ≡ k *ℤ t → pos 0 ≤ℤ t → pos 0 ≤ℤ g
not-below m k g t some other same low =
    contra≤ (λ h. lia (m ∷ k ∷ g ∷ t ∷ []) (same & some <×< h & other <×≤ low) (search linear depth 40) (omega arith))

-- the two lines that a gap lies between
module _ (A B : List Point) (d : Point) where
  gap-corridor : NonZero d → pos 0 ≤ℤ gap_in d A B → Corridor A B d (support d B) (least d A)
  unfolding gap_in
  gap-corridor some wide = record {
    direction = some.non_zero;
    wide = lia (support d B ∷ least d A ∷ []) wide (search linear depth 40) (omega arith);
    behind = λ p l. value-le-support d l;
    ahead = λ p l. least-le-value d A l;
  }

  corridor-gap : Corridor A B d (support d B) (least d A) → pos 0 ≤ℤ gap_in d A B
  unfolding gap_in
  corridor-gap c = lia (support d B ∷ least d A ∷ []) c.wide (search linear depth 40) (omega arith)

module _ (A B : List Point) (s : IsShape A) (t : IsShape B) (h : apart A B ≡ true) where
  abbrev n : Point
  n = widest_of A B

  abbrev m : Point
  m = towards A B (nearest A B)

  -- it is at most the clearance
  pub gap-clearance : (d : Point) → NonZero d → pos 0 ≤ℤ gap_in d A B
      → (gap_in d A B *ℤ gap_in d A B *ℤ bottom A B (nearest A B)) ≤ℤ (top A B (nearest A B) *ℤ value d d)
  unfolding gap_in
  gap-clearance d some wide = corridor-no-wider A B s t h d (support d B) (least d A) (gap-corridor A B d some wide)

  pub step-some : NonZero m
  step-some = record { non_zero = (towards-corridor A B s t h).direction }

  pub widest-same : SameWay n m
  widest-same = primitive-same m step-some

  pub widest-some : NonZero n
  widest-some = same-non-zero (same-sym widest-same) step-some

  pub widest-clearance : gap_in n A B *ℤ gap_in n A B *ℤ bottom A B (nearest A B) ≡ top A B (nearest A B) *ℤ value n n
  widest-clearance = same-fraction widest-same.m widest-same.n (gap_in n A B) (gap_in m A B) (value n n) (value m m)
      (top A B (nearest A B)) (bottom A B (nearest A B)) widest-same.m-above (same_gap widest-same A B) (same_length widest-same)
      (towards-wide A B s t h)

  pub none-wider : (d : Point) → NonZero d → pos 0 ≤ℤ gap_in d A B
      → (gap_in d A B *ℤ gap_in d A B *ℤ value n n) ≤ℤ (gap_in n A B *ℤ gap_in n A B *ℤ value d d)
  none-wider d some wide = no-wider (gap_in d A B) (value d d) (gap_in n A B) (value n n) (top A B (nearest A B)) (bottom A B (nearest A B))
      (nearest-is-whole A B s t h) (value-nonneg n) (gap-clearance d some wide) widest-clearance

  -- it is not below 0 along the step; and some direction has a gap
  pub widest-positive : pos 0 <ℤ gap_in n A B
  widest-positive =
      let other = apart→gap A B s.some t.some h in
      let d = other.direction in
      not-level (gap_in d A B) (value d d) (gap_in n A B) (value n n) other.wide (square-positive n widest-some)
      (not-below widest-same.m widest-same.n (gap_in n A B) (gap_in m A B) widest-same.m-above widest-same.n-above
      (same_gap widest-same A B) (corridor-gap A B m (towards-corridor A B s t h)))
      (none-wider d other.some (weaken other.wide))
