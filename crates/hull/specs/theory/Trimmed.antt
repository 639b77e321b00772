-- The corners of a shape's chain that may be on the chain from s to t.
--     right-first, right-last, one-most     neither s nor t lies to the right; a test counts for 0 or 1
--     Spans half A low high s t     A's chain of that half lies between s and t
--     row_within, row-rises      what is taken of it is on the way round, and rises
--     row-between      each corner taken lies strictly between s and t
--     row-bound        what s, t and the corners taken do not exceed in a direction to that side, no corner exceeds
use Rattle.std.specs.Prelude.{◌≡◌, refl, Bool, true, false, List, [], ◌∷◌, ℕ, suc, ◌+◌, ◌-◌, ◌≤◌, ◌<◌, ℤ, length, ◌≤ℤ◌, ◌<ℤ◌}
use Rattle.std.proofs.Common.{sym, inl, inr, arith}
use Rattle.std.proofs.Math.Path.{subst}
use Rattle.std.proofs.Math.Decide.{ℕ_discrete, dec_le, dec_lt}
use Rattle.std.proofs.Math.IntN.{pos}
use Rattle.integer.specs.Linear.{lia, linear}
use Rattle.integer.specs.Order.{lt_z-true, lt_z-false}
use Rattle.plane.specs.Point.{Point, corner, ◌∈◌}
use Rattle.plane.specs.Turn.{turn}
use Rattle.plane.specs.Direction.{value}
use Rattle.plane.proofs.theory.hull.Halves.{Sideways, value-between}
use Rattle.sorting.specs.Order.{Ahead, closed, Rises}
use Rattle.hull.specs.Chain.{is_right, one, row_first, row_end, taken}
use Rattle.sorting.specs.theory.Ahead.{NotBehind, reaches-on, reaches-to, ahead→onward}
use Rattle.sorting.specs.theory.Run.{Position, run-member, member-run}
use Rattle.hull.specs.theory.Peak.{Half, closed-member}

pub record Spans (half : Bool) (A : List Point) (low high : ℕ) (s t : Point) : Type 0 where
  pub chain : Half half A low high
  pub some : 0 < length A
  pub after : NotBehind half s (corner (closed A) low)
  pub before : NotBehind half (corner (closed A) high) t

-- ---- the side of the line from s to t

-- neither s nor t lies to its right
pub right-first : (s t : Point) → turn s t s <ℤ pos 0 → ⊥
unfolding turn
right-first s t h = lia (s.x ∷ s.y ∷ t.x ∷ t.y ∷ []) h (search linear depth 40) (omega arith)

pub right-last : (s t : Point) → turn s t t <ℤ pos 0 → ⊥
unfolding turn
right-last s t h = lia (s.x ∷ s.y ∷ t.x ∷ t.y ∷ []) h (search linear depth 40) (omega arith)

turn-between : (s t p : Point) → pos 0 ≤ℤ turn s t p → turn s p t ≤ℤ pos 0
unfolding turn
turn-between s t p h = lia (s.x ∷ s.y ∷ t.x ∷ t.y ∷ p.x ∷ p.y ∷ []) h (search linear depth 40) (omega arith)

module _ {half : Bool} (s t : Point) {p : Point} where
  right-behind : is_right s t p ≡ true → NotBehind half s p → Ahead half s p
  unfolding is_right
  right-behind e (inl f) = absurd (right-first s t (subst (λ q. turn s t q <ℤ pos 0) (sym f) (lt_z-true e)))
  right-behind e (inr u) = u

  right-before : is_right s t p ≡ true → NotBehind half p t → Ahead half p t
  unfolding is_right
  right-before e (inl f) = absurd (right-last s t (subst (λ q. turn s t q <ℤ pos 0) f (lt_z-true e)))
  right-before e (inr u) = u

  -- a point that does not lie to the right of the line is no further to the right than s or t
  left-bound : is_right s t p ≡ false → NotBehind half s p → NotBehind half p t → (d : Point) → Sideways half d → (N : ℤ)
      → value d s ≤ℤ N → value d t ≤ℤ N → value d p ≤ℤ N
  unfolding is_right
  left-bound e (inl f) v d g N h k = subst (λ q. value d q ≤ℤ N) f h
  left-bound e (inr u) (inl f) d g N h k = subst (λ q. value d q ≤ℤ N) (sym f) k
  left-bound e (inr u) (inr v) d g N h k =
      value-between d (ahead→onward u) (ahead→onward v) (turn-between s t p (lt_z-false e)) g h k

one-true : {b : Bool} → 0 < one b → b ≡ true
one-true {b = true} h = refl
one-true {b = false} h = absurd (omega arith)

one-false : {b : Bool} → one b < 1 → b ≡ false
one-false {b = true} h = absurd (omega arith)
one-false {b = false} h = refl

pub one-most : (b : Bool) → one b ≤ 1
one-most true = omega arith
one-most false = omega arith

-- ---- what is taken

module _ {half : Bool} {A : List Point} {low high : ℕ} {s t : Point} (c : Spans half A low high s t) where
  first-most : one (is_right s t (corner (closed A) low)) ≤ 1
  first-most = one-most (is_right s t (corner (closed A) low))

  end-most : one (is_right s t (corner (closed A) high)) ≤ 1
  end-most = one-most (is_right s t (corner (closed A) high))

  pub row_within : row_end (closed A) high s t ≤ suc (length A)
  row_within = omega (arith, end-most, c.chain.within)

  pub row-rises : Rises half (closed A) (row_first (closed A) low s t) (row_end (closed A) high s t)
  row-rises = record { rises = λ j k h i l. c.chain.rises.rises j k (omega arith) i (omega (arith, end-most)) }

  behind-first : (x : ℕ) → low ≤ x → x ≤ high → NotBehind half s (corner (closed A) x)
  behind-first x h k = go (ℕ_discrete x low)
    where
      go : Dec (x ≡ low) → NotBehind half s (corner (closed A) x)
      go (yes e) = subst (λ i. NotBehind half s (corner (closed A) i)) (sym e) c.after
      go (no f) = inr (reaches-on c.after (c.chain.rises.rises low x (omega arith) (omega (arith, f)) (omega arith)))

  before_last : (x : ℕ) → low ≤ x → x ≤ high → NotBehind half (corner (closed A) x) t
  before_last x h k = go (ℕ_discrete x high)
    where
      go : Dec (x ≡ high) → NotBehind half (corner (closed A) x) t
      go (yes e) = subst (λ i. NotBehind half (corner (closed A) i) t) (sym e) c.before
      go (no f) = inr (reaches-to (c.chain.rises.rises x high h (omega (arith, f)) (omega arith)) c.before)

  strictly : (x : ℕ) → row_first (closed A) low s t ≤ x → x < row_end (closed A) high s t
      → Ahead half s (corner (closed A) x) × Ahead half (corner (closed A) x) t
  strictly x h k = (from (ℕ_discrete x low), to (ℕ_discrete x high))
    where
      above : x ≤ high
      above = omega (arith, end-most)

      from : Dec (x ≡ low) → Ahead half s (corner (closed A) x)
      from (yes e) = right-behind s t
          (subst (λ i. is_right s t (corner (closed A) i) ≡ true) (sym e) (one-true (omega (arith, first-most))))
          (behind-first x (omega arith) above)
      from (no f) = reaches-on c.after (c.chain.rises.rises low x (omega arith) (omega (arith, f)) (omega (arith, above)))

      to : Dec (x ≡ high) → Ahead half (corner (closed A) x) t
      to (yes e) = right-before s t (subst (λ i. is_right s t (corner (closed A) i) ≡ true) (sym e) (one-true (omega arith)))
          (before_last x (omega arith) above)
      to (no f) = reaches-to (c.chain.rises.rises x high (omega arith) (omega (arith, f, above)) (omega arith)) c.before

  pub row-between : (q : Point) → q ∈ taken (closed A) low high s t → (q ∈ A) × Ahead half s q × Ahead half q t
  row-between q m = go (run-member (closed A) (row_first (closed A) low s t) (row_end (closed A) high s t - row_first (closed A) low s t) m)
    where
      go : Position (closed A) (row_first (closed A) low s t)
          (row_first (closed A) low s t + (row_end (closed A) high s t - row_first (closed A) low s t)) q
          → (q ∈ A) × Ahead half s q × Ahead half q t
      go at =
          let k : at.at < row_end (closed A) high s t = omega (arith, at.from, at.below) in
          subst (λ p. (p ∈ A) × Ahead half s p × Ahead half p t) (sym at.is) (
            closed-member A c.some at.at (omega (arith, end-most, c.chain.within)),
            (strictly at.at at.from k).0,
            (strictly at.at at.from k).1,
          )

  pub row-bound : (d : Point) → Sideways half d → (N : ℤ) → value d s ≤ℤ N → value d t ≤ℤ N
      → ((q : Point) → q ∈ taken (closed A) low high s t → value d q ≤ℤ N) → (q : Point) → q ∈ A → value d q ≤ℤ N
  row-bound d g N h k row = c.chain.bound d g N (λ x l m. here x l m (dec_le (row_first (closed A) low s t) x)
      (dec_lt x (row_end (closed A) high s t)))
    where
      beside : (x : ℕ) → low ≤ x → x ≤ high → is_right s t (corner (closed A) x) ≡ false → value d (corner (closed A) x) ≤ℤ N
      beside x l m e = left-bound s t e (behind-first x l m) (before_last x l m) d g N h k

      here : (x : ℕ) → low ≤ x → x ≤ high → Dec (row_first (closed A) low s t ≤ x) → Dec (x < row_end (closed A) high s t)
          → value d (corner (closed A) x) ≤ℤ N
      here x l m (yes a) (yes b) = row (corner (closed A) x)
          (member-run (closed A) (row_first (closed A) low s t) (row_end (closed A) high s t - row_first (closed A) low s t)
          (record { at = x; from = a; below = omega arith; is = refl }))
      here x l m (yes a) (no b) =
          let e : x ≡ high = omega (arith, b) in
          beside x l m (subst (λ i. is_right s t (corner (closed A) i) ≡ false) (sym e) (one-false (omega (arith, b))))
      here x l m (no a) b =
          let e : x ≡ low = omega (arith, a) in
          beside x l m (subst (λ i. is_right s t (corner (closed A) i) ≡ false) (sym e) (one-false (omega (arith, a))))
