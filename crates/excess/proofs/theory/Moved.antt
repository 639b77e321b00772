-- A list of points that reaches at most e beyond another, in every direction: e times the direction's length.
--     Moved e N O          N reaches at most e beyond O
--     up-moved             that is so of `up`; `up→moved`: and if `up` is at most e; `moved→up`: and only then
--     up-reaches, reaches-up      the same in the directions' own numbers
--     moved_none           of a list inside another, e is 0
--     moved-chain          a chain of changes
--     moved-grown          obstacles grown by carts, of which both may have changed
--     moved-shape_of        the shapes of lists
--     moved-driven         what a cart passes over on a straight drive
-- Lists have a point: 0 < length.
use Rattle.std.specs.Prelude.{◌≡◌, refl, Bool, true, false, List, [], ◌∷◌, ℕ, ◌≤◌, ◌<◌, ℤ, pos, ◌+ℤ◌, ◌-ℤ◌, ◌*ℤ◌, length, ◌≤ℤ◌, ◌<ℤ◌}
use Rattle.std.proofs.Common.{arith}
use Rattle.integer.specs.Linear.{linear, lia, ◌&◌}
use Rattle.integer.specs.Ring.{ring, reify}
use Rattle.integer.specs.Order.{◌≤×≤◌, cancel-le, weaken, le_of_eq, square-nonneg}
use Rattle.plane.specs.Point.{Point, opposite}
use Rattle.plane.specs.Shape.{IsShape}
use Rattle.plane.specs.Direction.{value, support}
use Rattle.plane.specs.Corner.{shape_of}
use Rattle.plane.specs.Separation.{inside}
use Rattle.plane.proofs.theory.forms.Vector.{value-nonneg, square-positive}
use Rattle.plane.proofs.theory.support.Support.{support-sums}
use Rattle.plane.proofs.theory.hull.ShapeOf.{shape_of-support}
use Rattle.separation.specs.theory.Inside.{inside→reach}
use Rattle.clearance.specs.theory.Means.{size-nonneg}
use Rattle.clearance.specs.theory.First.{turned-square}
use Rattle.growth.specs.Grown.{grown, driven}
use Rattle.growth.proofs.theory.Places.{grown-reach}
use Rattle.excess.specs.Excess.{excess, up}
use Rattle.excess.proofs.theory.Lengths.{pos-le, Shorter, shorter-less, shorter-more, shorter-add}
use Rattle.excess.proofs.theory.Outermost.{excess-whole}
use Rattle.excess.proofs.theory.Reach.{reach-le, reach-attained, inside→none}
use Rattle.excess.proofs.theory.Rounded.{up-enough, up_least}

pub record Moved (e : ℤ) (N O : List Point) : Type 0 where
  pub by : (d : Point) → Shorter (support d N -ℤ support d O) e (value d d)

-- ---- how far, by up

-- g·g·q is at most t·D, and t at most e·e·q
within : (g D t q e : ℤ) → pos 0 <ℤ q → pos 0 ≤ℤ D → (g *ℤ g *ℤ q) ≤ℤ (t *ℤ D) → t ≤ℤ (e *ℤ e *ℤ q) → (g *ℤ g) ≤ℤ (e *ℤ e *ℤ D)
within g D t q e whole long far most = cancel-le {k = q} whole
    (lia (g ∷ D ∷ t ∷ q ∷ e ∷ []) (far & long ≤×≤ most) (search linear depth 40) (omega arith))

-- g·g·q is t·D, and g·g at most e·e·D
needed : (g D t q e : ℤ) → pos 0 <ℤ q → pos 0 <ℤ D → g *ℤ g *ℤ q ≡ t *ℤ D → (g *ℤ g) ≤ℤ (e *ℤ e *ℤ D) → t ≤ℤ (e *ℤ e *ℤ q)
needed g D t q e whole long far most = cancel-le {k = D} long
    (lia (g ∷ D ∷ t ∷ q ∷ e ∷ []) (far & weaken whole ≤×≤ most) (search linear depth 40) (omega arith))

nothing : (t q e : ℤ) → pos 0 <ℤ q → t ≡ pos 0 → t ≤ℤ (e *ℤ e *ℤ q)
nothing t q e whole none = lia (t ∷ q ∷ e ∷ []) (none & square-nonneg e ≤×≤ weaken whole) (search linear depth 40) (omega arith)

module _ (N O : List Point) (n : 0 < length N) (s : IsShape O) where
  pub up-moved : Moved (pos (up N O)) N O
  up-moved = record {
    by = λ d. record {
      squares = λ far. within (support d N -ℤ support d O) (value d d) (excess N O).numerator (excess N O).denominator (pos (up N O))
          (excess-whole N O n s) (value-nonneg d)
          (reach-le N O n s d (lia (support d N ∷ support d O ∷ []) far (search linear depth 40) (omega arith))) (up-enough N O n s);
    };
  }

  pub up→moved : {e : ℕ} → up N O ≤ e → Moved (pos e) N O
  up→moved h = record { by = λ d. shorter-more (size-nonneg (up N O)) (pos-le h) (value-nonneg d) (up-moved.by d) }

  pub moved→up : {e : ℕ} → Moved (pos e) N O → up N O ≤ e
  moved→up {e} m = up_least N O n s e (go (inside N O) refl)
    where
      go : (t : Bool) → inside N O ≡ t → (excess N O).numerator ≤ℤ (pos e *ℤ pos e *ℤ (excess N O).denominator)
      go true h = nothing (excess N O).numerator (excess N O).denominator (pos e) (excess-whole N O n s) (inside→none N O n s h)
      go false h =
          let a = reach-attained N O n s h in
          let d = a.direction in
          needed (support d N -ℤ support d O) (value d d) (excess N O).numerator (excess N O).denominator (pos e) (excess-whole N O n s)
          (square-positive d a.some) a.exact
          ((m.by d).squares (lia (support d N ∷ support d O ∷ []) a.ahead (search linear depth 40) (omega arith)))

  -- the same, in the numbers of the directions
  abbrev Reaches : ℕ → Point → Type 0
  Reaches e d = support d O <ℤ support d N
      → ((support d N -ℤ support d O) *ℤ (support d N -ℤ support d O)) ≤ℤ (pos e *ℤ pos e *ℤ value d d)

  pub up-reaches : (d : Point) → Reaches (up N O) d
  up-reaches d far = (up-moved.by d).squares (lia (support d N ∷ support d O ∷ []) far (search linear depth 40) (omega arith))

  pub reaches-up : (e : ℕ) → ((d : Point) → Reaches e d) → up N O ≤ e
  reaches-up e r = moved→up (record {
    by = λ d. record { squares = λ far. r d (lia (support d N ∷ support d O ∷ []) far (search linear depth 40) (omega arith)) };
  })

-- ---- changes

pub moved_none : (N O : List Point) → 0 < length N → 0 < length O → inside N O ≡ true → Moved (pos 0) N O
moved_none N O n o h = record {
  by = λ d. record {
    squares = λ far. absurd (lia (support d N ∷ support d O ∷ []) (far & inside→reach N O n o h d) (search linear depth 40) (omega arith));
  };
}

pub moved-chain : {e f : ℤ} (N O P : List Point) → pos 0 ≤ℤ e → pos 0 ≤ℤ f → Moved e N O → Moved f O P → Moved (e +ℤ f) N P
moved-chain {e} {f} N O P low also m k = record {
  by = λ d. shorter-less (le_of_eq (ring (support d N ∷ support d O ∷ support d P ∷ []) (search reify depth 40) tt))
      (shorter-add (support d N -ℤ support d O) (support d O -ℤ support d P) e f (value d d) low also (value-nonneg d) (m.by d) (k.by d));
}

-- ---- grown obstacles and drives

pub moved-grown : {e f : ℤ} (M L C A : List Point) → 0 < length M → 0 < length L → 0 < length C → 0 < length A
    → pos 0 ≤ℤ e → pos 0 ≤ℤ f → Moved e M L → Moved f C A → Moved (e +ℤ f) (grown M C) (grown L A)
moved-grown {e} {f} M L C A m l c a low also o k = record {
  by = λ d. shorter-less (lia (support d (grown M C) ∷ support d (grown L A) ∷ support d M ∷ support d L ∷ support (opposite d) C
      ∷ support (opposite d) A ∷ []) (grown-reach M C m c d & grown-reach L A l a d) (search linear depth 40) (omega arith))
      (shorter-add (support d M -ℤ support d L) (support (opposite d) C -ℤ support (opposite d) A) e f (value d d) low also
      (value-nonneg d) (o.by d) (rw (turned-square d) at (k.by (opposite d))));
}

module _ (N O : List Point) (n : 0 < length N) (o : 0 < length O) where
  pub moved-shape_of : {e : ℤ} → Moved e N O → Moved e (shape_of N) (shape_of O)
  moved-shape_of {e} m = record {
    by = λ d. shorter-less (lia (support d (shape_of N) ∷ support d (shape_of O) ∷ support d N ∷ support d O ∷ [])
        (shape_of-support N n d & shape_of-support O o d) (search linear depth 40) (omega arith)) (m.by d);
  }

pub moved-driven : {e : ℤ} (C A : List Point) (t u : Point) → 0 < length C → 0 < length A → Moved e C A
    → Moved e (driven C t u) (driven A t u)
moved-driven {e} C A t u c a m = record {
  by = λ d. shorter-less (lia (support d (driven C t u) ∷ support d (driven A t u) ∷ support d C ∷ support d A ∷ support d (t ∷ u ∷ [])
      ∷ []) (support-sums d C (t ∷ u ∷ []) c (omega arith) & support-sums d A (t ∷ u ∷ []) a (omega arith)) (search linear depth 40)
      (omega arith)) (m.by d);
}
