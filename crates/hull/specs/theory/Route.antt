-- The points of a list read up or down, and the outline that the scan of both ways leaves.
--     route-more, route-length      one more point is read; how many are left
--     route-small                   the point that is read may be computed with
--     sided                         the loop that reads all but the last point, and the last one settled
--     sides-outline, outline-one    both ways' chains are the outline; of one point it is that point
use Rattle.std.specs.Prelude.{◌≡◌, refl, Bool, true, false, cond, ℕ, suc, ◌+◌, ◌-◌, ◌^◌, ◌≤◌, ◌<◌, ℤ, length, take}
use Rattle.std.proofs.Common.{sym, ◌∙◌, ap, ap₂, add-one, arith, length-take-le}
use mathlib.Core.List.{List, [], ◌∷◌, ◌++◌, tail, reverse}
use Rattle.plane.specs.Point.{Point, points, corner}
use Rattle.plane.specs.Corner.{scan, side, outline}
use Rattle.polygon.specs.Point.{Small}
use Rattle.sorting.specs.Order.{run}
use Rattle.sorting.specs.Buffer.{stack, SmallTo, Settled, route, Sided}
use Rattle.sorting.specs.theory.Run.{run_length, run_more, run_take}
use Rattle.hull.specs.theory.Stack.{stack-length, stack-reverse, take-stack, Scanning}

pub route-more : (half : Bool) (ps : List Point) (n i : ℕ) → i < n
    → route half ps n i ≡ corner ps (cond half i (n - (i + 1))) ∷ route half ps n (i + 1)
route-more true ps n i h = rw (add-one i) (run_more ps h)
route-more false ps n i h = let e : n - i ≡ suc (n - (i + 1)) = omega arith in ap (stack ps) e

pub route-length : (half : Bool) (ps : List Point) (n i : ℕ) → length (route half ps n i) ≡ n - i
route-length true ps n i = run_length ps i (n - i)
route-length false ps n i = stack-length ps (n - i)

-- a point on the way is one of the first n
pub route-small : (half : Bool) {l : List ℤ} {n i : ℕ} {p : Point} → SmallTo l n → i < n → p ≡ corner (points l) (cond half i (n - (i + 1)))
    → Small (2 ^ 21) p
route-small true {i = i} s h e = rw e (s.small i h)
route-small false {n = n} {i = i} s h e = rw e (s.small (n - (i + 1)) (omega arith))

-- all but the last point are read, and the last is settled
pub sided : {half : Bool} {ps : List Point} {n : ℕ} (i : ℕ) {old l : List ℤ} {k r : ℕ}
    → Scanning old 0 (route half ps n 0) (route half ps n i) l k → i + 1 ≡ n
    → Settled (points l) k (corner ps (cond half i (n - (i + 1)))) r → Sided half ps n old l r
sided {half} {ps} {n} i {l = l} {k = k} c e s = record {
  ends = corner ps (cond half i (n - (i + 1)));
  kept = sym c.ahead ∙ ap (scan (stack (points l) k)) last ∙ s.pushed;
  few = omega (arith, c.few, s.few, ap length last, route-length half ps n 0);
  same = c.same;
}
  where
    none : (half : Bool) → route half ps n (i + 1) ≡ []
    none true = let z : n - (i + 1) ≡ 0 = omega arith in ap (run ps (i + 1)) z
    none false = let z : n - (i + 1) ≡ 0 = omega arith in ap (stack ps) z

    last : route half ps n i ≡ corner ps (cond half i (n - (i + 1))) ∷ []
    last = route-more half ps n i (omega (arith, e)) ∙ ap (λ L. corner ps (cond half i (n - (i + 1))) ∷ L) (none half)

-- ---- the outline

side-taken : {half : Bool} {ps : List Point} {n : ℕ} {old l : List ℤ} {r : ℕ} → Sided half ps n old l r → r ≤ length (points l)
    → take r (points l) ≡ side (route half ps n 0)
side-taken {l = l} {r = r} s h = take-stack (points l) r h ∙ ap (λ L. reverse (tail L)) (sym s.kept)

module _ (ps : List Point) (n : ℕ) (n-le : n ≤ length ps) where
  pub outline-one : n ≡ 1 → corner ps 0 ∷ [] ≡ outline (take n ps)
  outline-one e = rw e (go ps (omega arith))
    where
      go : (L : List Point) → 0 < length L → corner L 0 ∷ [] ≡ outline (take 1 L)
      go [] h = absurd (omega arith)
      go (p ∷ L) h = refl

  up_way : route true ps n 0 ≡ take n ps
  up_way = let e : n - 0 ≡ n = omega arith in ap (run ps 0) e ∙ run_take ps n n-le

  down-way : route false ps n 0 ≡ reverse (take n ps)
  down-way = let e : n - 0 ≡ n = omega arith in ap (stack ps) e ∙ stack-reverse ps n n-le

  both : (A : List Point) → 1 < length A → side A ++ side (reverse A) ≡ outline A
  both [] h = absurd (omega arith)
  both (p ∷ []) h = absurd (omega arith)
  both (p ∷ (q ∷ L)) h = refl

  pub sides-outline : 1 < n → {old xs old' ys : List ℤ} {r s : ℕ} → Sided true ps n old xs r → Sided false ps n old' ys s
      → r ≤ length (points xs) → s ≤ length (points ys) → take r (points xs) ++ take s (points ys) ≡ outline (take n ps)
  sides-outline h right left i j =
      ap₂ (λ K L. K ++ L) (side-taken right i ∙ ap side up_way) (side-taken left j ∙ ap side down-way)
      ∙ both (take n ps) (omega (arith, length-take-le n ps n-le))
