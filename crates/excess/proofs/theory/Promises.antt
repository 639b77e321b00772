-- What is left of a clearance of w millimetres when shapes change.
--     one-moved           one of two shapes moved by at most e: they are apart by w - e
--     both-moved          both, by e and f: by w - e - f
--     unmoved             a shape that has not changed moved by 0
--     settled-driven      an obstacle, and a cart that drives straight
--     up-chain            a chain of changes adds up
--     up-inside           `up` is 0 exactly if the new shape is inside the old one
use Rattle.std.specs.Prelude.{◌≡◌, true, List, [], ◌∷◌, ◌↔◌, ℕ, ◌+◌, ◌≤◌, ◌<◌, ℤ, pos, ◌+ℤ◌, ◌-ℤ◌, length, ◌<ℤ◌}
use Rattle.std.proofs.Common.{arith, lt→ltb}
use Rattle.integer.specs.Linear.{linear, lia, ◌&◌}
use Rattle.integer.specs.Order.{weaken}
use Rattle.plane.specs.Point.{Point}
use Rattle.plane.specs.Shape.{IsShape}
use Rattle.plane.specs.Corner.{shape_of}
use Rattle.plane.specs.Separation.{inside}
use Rattle.plane.proofs.theory.lists.Members.{sums-some}
use Rattle.plane.proofs.theory.hull.ShapeOf.{shape_of-shape}
use Rattle.growth.specs.Grown.{driven}
use Rattle.separation.specs.theory.Inside.{inside-refl}
use Rattle.clearance.specs.theory.Means.{size-nonneg}
use Rattle.excess.specs.Excess.{excess, up}
use Rattle.excess.specs.Settled.{ApartBy}
use Rattle.excess.proofs.theory.Outermost.{excess-nonneg}
use Rattle.excess.proofs.theory.Reach.{none→inside}
use Rattle.excess.proofs.theory.Rounded.{up-enough}
use Rattle.excess.proofs.theory.Moved.{Moved, up-moved, up→moved, moved→up, moved_none, moved-chain}
use Rattle.excess.proofs.theory.Moved.{moved-shape_of, moved-driven}
use Rattle.excess.proofs.theory.Clear.{clear_apart, clear-turned, clear-moved, clear_both, both-apart}
use Rattle.excess.proofs.theory.Clear.{clear-fraction, fraction-clear}

something : (e w : ℤ) → e <ℤ w → pos 0 <ℤ (w -ℤ e)
something e w h = lia (e ∷ w ∷ []) h (search linear depth 40) (omega arith)

module _ (A B C D : List Point) (s : IsShape A) (t : IsShape B) (u : IsShape C) (v : IsShape D) where
  pub both-moved : {w e f : ℕ} → Moved (pos e) C A → Moved (pos f) D B → e + f < w → ApartBy (pos w) A B
      → ApartBy (pos w -ℤ pos e -ℤ pos f) C D
  both-moved {w} {e} {f} m k less h =
      let room : (pos e +ℤ pos f) <ℤ pos w = record { lt = lt→ltb _ _ less } in
      let was = fraction-clear A B s t h.are-apart h.so-clear in
      let still = both-apart A B C D (size-nonneg e) (size-nonneg f) room was m k u.some v.some in
      record {
        are-apart = still;
        so-clear = clear-fraction C D u v still (clear_both A B C D (size-nonneg e) (size-nonneg f) room was m k);
      }

module _ (A B C : List Point) (s : IsShape A) (t : IsShape B) (u : IsShape C) where
  pub one-moved : {w e : ℕ} → Moved (pos e) C A → e < w → ApartBy (pos w) A B → ApartBy (pos w -ℤ pos e) C B
  one-moved {w} {e} m less h =
      let more : pos e <ℤ pos w = record { lt = lt→ltb _ _ less } in
      let some : pos 0 <ℤ pos w = record { lt = lt→ltb 0 w (omega arith) } in
      let was = clear-turned A B (fraction-clear A B s t h.are-apart h.so-clear) in
      let c = clear-turned B C (clear-moved B A C some (size-nonneg e) (weaken more) was m) in
      let still = clear_apart C B u.some t.some (something (pos e) (pos w) more) c in
      record { are-apart = still; so-clear = clear-fraction C B u t still c }

-- a shape that has not changed
pub unmoved : (A : List Point) → 0 < length A → Moved (pos 0) A A
unmoved A a = moved_none A A a a (inside-refl A a)

-- N and O are the obstacle, C and A the cart
module _ (N O C A : List Point) (n : IsShape N) (o : IsShape O) (c : 0 < length C) (a : IsShape A) (t u : Point) where
  abbrev was : List Point
  was = shape_of (driven A t u)

  abbrev is : List Point
  is = shape_of (driven C t u)

  old-some : 0 < length (driven A t u)
  old-some = sums-some A (t ∷ u ∷ []) a.some (omega arith)

  new-some : 0 < length (driven C t u)
  new-some = sums-some C (t ∷ u ∷ []) c (omega arith)

  pub settled-driven : {w e f : ℕ} → up C A ≤ e → up N O ≤ f → e + f < w → ApartBy (pos w) was O
      → ApartBy (pos w -ℤ pos e -ℤ pos f) is N
  settled-driven m k less h = both-moved was O is N (shape_of-shape (driven A t u) old-some) o
      (shape_of-shape (driven C t u) new-some) n
      (moved-shape_of (driven C t u) (driven A t u) new-some old-some (moved-driven C A t u c a.some (up→moved C A c a m)))
      (up→moved N O n.some o k) less h

-- ---- chains, and no change

module _ (N O P : List Point) (n : 0 < length N) (s : IsShape O) (t : IsShape P) where
  pub up-chain : up N P ≤ up N O + up O P
  up-chain = moved→up N P n t (moved-chain N O P (size-nonneg (up N O)) (size-nonneg (up O P)) (up-moved N O n s)
      (up-moved O P s.some t))

module _ (N O : List Point) (n : 0 < length N) (s : IsShape O) where
  pub up-inside : (inside N O ≡ true) ↔ (up N O ≡ 0)
  up-inside = (
    λ h. let none : up N O ≤ 0 = moved→up N O n s (moved_none N O n s.some h) in omega arith,
    λ e. none→inside N O n s (lia ((excess N O).numerator ∷ (excess N O).denominator ∷ [])
        (excess-nonneg N O n s & rw e at (up-enough N O n s)) (search linear depth 40) (omega arith)),
  )
