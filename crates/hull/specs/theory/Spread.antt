-- Two shapes, their least corner s and their greatest t: what both chains are made of, and that they are the shape of both.
--     first-right, second-right, first-left, second-left      each shape's own chains lie between s and t
--     row_line, row-rising, rows_as      what is taken of such a chain is a row that rises; by the code's numbers
--     rows_few         no corner is taken for both chains, and s and t for none: so there is room for both
--     spread-shape     both chains together are the shape of both
--     spread-small     s and t may be computed with
use Rattle.std.specs.Prelude.{◌≡◌, Bool, true, false, List, [], ◌∷◌, ◌++◌, ◌⊎◌, ℕ, suc, ◌+◌, ◌^◌, ◌≤◌, ◌<◌, ℤ, length}
use Rattle.std.proofs.Common.{sym, ◌∙◌, subst, inl, inr, arith, length-append}
use mathlib.Core.List.Memᴰ
use Rattle.plane.specs.Point.{Point, points, corner, ◌∈◌}
use Rattle.plane.specs.Shape.{IsShape}
use Rattle.plane.specs.Corner.{push, scan, shape_of}
use Rattle.plane.specs.Refusal.{Valid}
use Rattle.plane.proofs.theory.lists.Members.{position-member}
use Rattle.plane.proofs.theory.forms.Precedes.{precedes-different}
use Rattle.plane.proofs.theory.hull.Hull.{circuit}
use Rattle.polygon.specs.Point.{Small}
use Rattle.polygon.specs.theory.Small.{small-corner}
use Rattle.sorting.specs.Order.{closed, in_order, left_over, Line, Rising, foremost}
use Rattle.polygon.specs.Peak.{Peak}
use Rattle.hull.specs.Chain.{home, row_first, row_end, taken, right_rows, left_rows, Spread}
use Rattle.sorting.specs.theory.Ahead.{NotBehind, turned_up, turned_down, foremost-le, foremost-one}
use Rattle.hull.specs.theory.Peak.{closed-within, home-corner, right-half, left-half}
use Rattle.hull.specs.theory.Trimmed.{Spans, row-rises, row_within}
use Rattle.hull.specs.theory.Counted.{counts, counts-few}
use Rattle.hull.specs.theory.Chains.{chain-kept, circuit-shape}

-- ---- rows

pub row_line : {l : List ℤ} {e : ℕ} → Valid l → e ≤ suc (length (points l)) → Line l e
row_line v h = record { some = v.shape.some; near = v.in_range; within = h }

pub row-rising : {half : Bool} {l : List ℤ} {low high f e : ℕ} {s t : Point} → Valid l → Spans half (points l) low high s t
    → f ≡ row_first (closed (points l)) low s t → e ≡ row_end (closed (points l)) high s t → Rising half l f e
row-rising {half} {l} {low} {high} {f} {e} {s} {t} v c p q =
    subst (λ k. Rising half l k e) (sym p) (subst (λ k. Rising half l (row_first (closed (points l)) low s t) k) (sym q) (record {
      line = row_line v (row_within c);
      way = row-rises c;
    }))

-- the rows of two shapes, by the code's numbers
pub rows_as : (A : List Point) (low high : ℕ) (B : List Point) (low' high' : ℕ) (s t : Point) {f e f' e' : ℕ}
    → f ≡ row_first (closed A) low s t → e ≡ row_end (closed A) high s t → f' ≡ row_first (closed B) low' s t
    → e' ≡ row_end (closed B) high' s t
    → left_over (closed A) f e (closed B) f' e' ≡ taken (closed A) low high s t ++ taken (closed B) low' high' s t
rows_as A low high B low' high' s t p q u v = rw (p, q, u, v)

-- ---- one shape

module _ {A : List Point} {a : ℕ} (shape : IsShape A) (peak : Peak A a) {s t : Point} (low : NotBehind true s (corner A 0))
    (high : NotBehind false t (corner A a)) where
  right-spans : Spans true A 0 a s t
  right-spans = record {
    chain = right-half A shape a peak;
    some = shape.some;
    after = subst (λ p. NotBehind true s p) (sym (closed-within A 0 shape.some)) low;
    before = subst (λ p. NotBehind true p t) (sym (closed-within A a peak.within)) (turned_up high);
  }

  left-spans : Spans false A a (home A a) t s
  left-spans = record {
    chain = left-half A shape a peak;
    some = shape.some;
    after = subst (λ p. NotBehind false t p) (sym (closed-within A a peak.within)) high;
    before = subst (λ p. NotBehind false p s) (sym (home-corner A a shape.some)) (turned_down low);
  }

-- ---- both shapes

module _ {A B : List Point} {a b : ℕ} {s t : Point} (shape : IsShape A) (other : IsShape B) (c : Spread A a B b s t) where
  apart : s ≡ t → ⊥
  apart = precedes-different (record { precedes-true = c.apart })

  not-before-first : NotBehind true s (corner A 0) × NotBehind true s (corner B 0)
  not-before-first = rw c.start (foremost-le true (corner A 0) (corner B 0))

  not-behind-last : NotBehind false t (corner A a) × NotBehind false t (corner B b)
  not-behind-last = rw c.end (foremost-le false (corner A a) (corner B b))

  pub first-right : Spans true A 0 a s t
  first-right = right-spans shape c.first-peak not-before-first.0 not-behind-last.0

  pub second-right : Spans true B 0 b s t
  second-right = right-spans other c.second-peak not-before-first.1 not-behind-last.1

  pub first-left : Spans false A a (home A a) t s
  first-left = left-spans shape c.first-peak not-before-first.0 not-behind-last.0

  pub second-left : Spans false B b (home B b) t s
  second-left = left-spans other c.second-peak not-before-first.1 not-behind-last.1

  pub rows_few : suc (suc (length (right_rows A a B b s t) + length (left_rows A a B b s t))) ≤ length A + length B
  rows_few = omega (
    arith,
    length-append (taken (closed A) 0 a s t) (taken (closed B) 0 b s t),
    length-append (taken (closed A) a (home A a) t s) (taken (closed B) b (home B b) t s),
    go (foremost-one true (corner A 0) (corner B 0)) (foremost-one false (corner A a) (corner B b)),
  )
    where
      in-first : (e f : ℕ) → e ≤ 1 → f ≤ 1 → (0 < e → corner A 0 ≡ s) → (0 < f → corner A a ≡ t) → counts A a s t + (e + f) ≤ length A
      in-first = counts-few shape c.first-peak s t apart

      in-second : (e f : ℕ) → e ≤ 1 → f ≤ 1 → (0 < e → corner B 0 ≡ s) → (0 < f → corner B b ≡ t) → counts B b s t + (e + f) ≤ length B
      in-second = counts-few other c.second-peak s t apart

      none : {X : Type 0} → 0 < 0 → X
      none h = absurd (omega arith)

      go : (foremost true (corner A 0) (corner B 0) ≡ corner A 0) ⊎ (foremost true (corner A 0) (corner B 0) ≡ corner B 0)
          → (foremost false (corner A a) (corner B b) ≡ corner A a) ⊎ (foremost false (corner A a) (corner B b) ≡ corner B b)
          → suc (suc (counts A a s t + counts B b s t)) ≤ length A + length B
      go (inl p) (inl q) = omega (
        arith,
        in-first 1 1 (omega arith) (omega arith) (λ h. sym (c.start ∙ p)) (λ h. sym (c.end ∙ q)),
        in-second 0 0 (omega arith) (omega arith) none none,
      )
      go (inl p) (inr q) = omega (
        arith,
        in-first 1 0 (omega arith) (omega arith) (λ h. sym (c.start ∙ p)) none,
        in-second 0 1 (omega arith) (omega arith) none (λ h. sym (c.end ∙ q)),
      )
      go (inr p) (inl q) = omega (
        arith,
        in-first 0 1 (omega arith) (omega arith) none (λ h. sym (c.end ∙ q)),
        in-second 1 0 (omega arith) (omega arith) (λ h. sym (c.start ∙ p)) none,
      )
      go (inr p) (inr q) = omega (
        arith,
        in-first 0 0 (omega arith) (omega arith) none none,
        in-second 1 1 (omega arith) (omega arith) (λ h. sym (c.start ∙ p)) (λ h. sym (c.end ∙ q)),
      )

  -- either of two corners is one of both shapes
  of-both : (p : Point) (i j : ℕ) → i < length A → j < length B → (p ≡ corner A i) ⊎ (p ≡ corner B j) → p ∈ (A ++ B)
  of-both p i j h k (inl e) = subst (λ q. q ∈ (A ++ B)) (sym e) (Memᴰ.append_left B (position-member A i h))
  of-both p i j h k (inr e) = subst (λ q. q ∈ (A ++ B)) (sym e) (Memᴰ.append_right A (position-member B j k))

  first-in : s ∈ (A ++ B)
  first-in = of-both s 0 0 shape.some other.some (go (foremost-one true (corner A 0) (corner B 0)))
    where
      go : (foremost true (corner A 0) (corner B 0) ≡ corner A 0) ⊎ (foremost true (corner A 0) (corner B 0) ≡ corner B 0)
          → (s ≡ corner A 0) ⊎ (s ≡ corner B 0)
      go (inl e) = inl (c.start ∙ e)
      go (inr e) = inr (c.start ∙ e)

  last-in : t ∈ (A ++ B)
  last-in = of-both t a b c.first-peak.within c.second-peak.within (go (foremost-one false (corner A a) (corner B b)))
    where
      go : (foremost false (corner A a) (corner B b) ≡ corner A a) ⊎ (foremost false (corner A a) (corner B b) ≡ corner B b)
          → (t ≡ corner A a) ⊎ (t ≡ corner B b)
      go (inl e) = inl (c.end ∙ e)
      go (inr e) = inr (c.end ∙ e)

  pub spread-shape : circuit (push t (scan (s ∷ []) (in_order true (right_rows A a B b s t))))
      (push s (scan (t ∷ []) (in_order false (left_rows A a B b s t)))) ≡ shape_of (A ++ B)
  spread-shape = circuit-shape apart
      (chain-kept first-right second-right (record { ahead-true = c.apart }) first-in last-in)
      (chain-kept first-left second-left (record { ahead-true = c.apart }) last-in first-in)

-- s and t may be computed with
pub spread-small : {l k : List ℤ} {i j : ℕ} {s t : Point} → Valid l → Valid k → Spread (points l) i (points k) j s t
    → Small (2 ^ 21) s × Small (2 ^ 21) t
spread-small {l} {k} {i} {j} v w c = (
  subst (Small (2 ^ 21)) (sym c.start) (go true 0 0 v.shape.some w.shape.some),
  subst (Small (2 ^ 21)) (sym c.end) (go false i j c.first-peak.within c.second-peak.within),
)
  where
    go : (half : Bool) (x y : ℕ) → x < length (points l) → y < length (points k)
        → Small (2 ^ 21) (foremost half (corner (points l) x) (corner (points k) y))
    go half x y h i = pick (foremost-one half (corner (points l) x) (corner (points k) y))
      where
        pick : {p : Point} → (p ≡ corner (points l) x) ⊎ (p ≡ corner (points k) y) → Small (2 ^ 21) p
        pick (inl e) = small-corner l v.in_range x h e
        pick (inr e) = small-corner k w.in_range y i e
