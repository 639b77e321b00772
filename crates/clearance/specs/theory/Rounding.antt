-- The distance rounded down, bounded as width is.
--     Bounded n d w          w·w·d ≤ n < (w+1)·(w+1)·d
--     nearest-rounded        the last number of the answer is so bounded by the nearest candidate's fraction
use Rattle.std.specs.Prelude.{◌≡◌, refl, true, List, [], ◌∷◌, ◌++◌, ℕ, ℤ, pos, nat_abs, ◌+ℤ◌, ◌*ℤ◌, ◌≤ℤ◌, ◌<ℤ◌}
use Rattle.std.proofs.Common.{le→leb, lt→ltb}
use Rattle.integer.specs.Order.{weaken}
use Rattle.integer.specs.Bound.{positive-size, size_is, size-square}
use Rattle.plane.specs.Point.{Point, corner}
use Rattle.plane.specs.Shape.{IsShape}
use Rattle.plane.specs.Measure.{root_below}
use Rattle.plane.specs.Separation.{apart}
use Rattle.plane.specs.Clearance.{turn_on, Candidate, corners, on_second, on_first, top, bottom, nearest, numbers_of}
use Rattle.plane.proofs.theory.forms.Squared.{squared-nonneg}
use Rattle.measure.specs.theory.Rounded.{rounded-low, rounded-high}
use Rattle.clearance.specs.theory.Nearest.{nearest-is-whole}

pub record Bounded (n d : ℤ) (w : ℕ) : Type 0 where
  pub low : (pos w *ℤ pos w *ℤ d) ≤ℤ n
  pub high : n <ℤ ((pos w +ℤ pos 1) *ℤ (pos w +ℤ pos 1) *ℤ d)

-- the root of m/q
root-bounded : {m : ℕ} {n q : ℤ} → pos m ≡ n → pos 0 <ℤ q → Bounded n q (root_below m (nat_abs q))
root-bounded {m} {n} {q} same some = record {
  low = rw (← same, ← size_is (weaken some)) (record { le = le→leb _ _ (rounded-low m (nat_abs q) (positive-size some)) });
  high = rw (← same, ← size_is (weaken some)) (record { lt = lt→ltb _ _ (rounded-high m (nat_abs q) (positive-size some)) });
}

-- the last of the numbers of candidate c
pub record Rounded (A B : List Point) (c : Candidate) : Type 0 where
  pub before : List ℤ
  pub rounded : ℕ
  pub last : numbers_of A B c ≡ before ++ (pos rounded ∷ [])
  pub bounded : Bounded (top A B c) (bottom A B c) rounded

pub nearest-rounded : (A B : List Point) → IsShape A → IsShape B → apart A B ≡ true → Rounded A B (nearest A B)
unfolding top bottom
nearest-rounded A B s t h = go (nearest A B) (nearest-is-whole A B s t h)
  where
    go : (c : Candidate) → pos 0 <ℤ bottom A B c → Rounded A B c
    go (corners i j) whole =
        let size = size_is (squared-nonneg (corner A i) (corner B j)) in
        record { before = _ ∷ _ ∷ _ ∷ _ ∷ []; rounded = _; last = refl; bounded = root-bounded size whole }
    go (on_second i e) whole =
        record {
          before = _ ∷ _ ∷ _ ∷ _ ∷ _ ∷ [];
          rounded = _;
          last = refl;
          bounded = root-bounded (size-square (turn_on B e (corner A i))) whole;
        }
    go (on_first j e) whole =
        record {
          before = _ ∷ _ ∷ _ ∷ _ ∷ _ ∷ [];
          rounded = _;
          last = refl;
          bounded = root-bounded (size-square (turn_on A e (corner B j))) whole;
        }
