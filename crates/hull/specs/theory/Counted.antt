-- How many corners of a shape are taken for both chains. No corner is taken for both, and s and t for none.
--     counts A a s t      how many are taken for the chain up from s to t, and for the chain down
--     counts-few          not more than the shape has; one less if its first corner is s, and one less if its peak is t
use Rattle.std.specs.Prelude.{◌≡◌, refl, Bool, true, false, List, [], ◌∷◌, ◌⊎◌, ℕ, zero, suc, ◌+◌, ◌-◌, ◌≤◌, ◌<◌, pos, length, ◌<ℤ◌}
use Rattle.std.proofs.Common.{sym, ◌∙◌, ap, ap₂, subst, inl, inr, arith}
use Rattle.std.proofs.Math.Decide.{ℕ_discrete, dec_lt}
use Rattle.std.specs.Int.Signed.{lt_z}
use Rattle.integer.specs.Linear.{lia, linear, ◌&◌}
use Rattle.integer.specs.Order.{lt_z-true}
use Rattle.plane.specs.Point.{Point, corner}
use Rattle.plane.specs.Turn.{turn}
use Rattle.plane.specs.Shape.{IsShape}
use Rattle.sorting.specs.Order.{closed}
use Rattle.polygon.specs.Peak.{Peak}
use Rattle.hull.specs.Chain.{home, is_right, one, row_first, row_end, taken}
use Rattle.sorting.specs.theory.Run.{run_length}
use Rattle.hull.specs.theory.Peak.{closed-within, home-behind, home-corner}
use Rattle.hull.specs.theory.Trimmed.{right-first, right-last, one-most}

abbrev pub counts : List Point → ℕ → Point → Point → ℕ
counts A a s t = length (taken (closed A) 0 a s t) + length (taken (closed A) a (home A a) t s)

-- the same, by positions
abbrev places : List Point → ℕ → Point → Point → ℕ
places A a s t = (row_end (closed A) a s t - row_first (closed A) 0 s t) + (row_end (closed A) (home A a) t s - row_first (closed A) a t s)

counts-places : (A : List Point) (a : ℕ) (s t : Point) → counts A a s t ≡ places A a s t
counts-places A a s t = ap₂ ◌+◌
    (run_length (closed A) (row_first (closed A) 0 s t) (row_end (closed A) a s t - row_first (closed A) 0 s t))
    (run_length (closed A) (row_first (closed A) a t s) (row_end (closed A) (home A a) t s - row_first (closed A) a t s))

-- ---- the two sides

not-both : (s t p : Point) → turn s t p <ℤ pos 0 → turn t s p <ℤ pos 0 → ⊥
unfolding turn
not-both s t p h k = lia (s.x ∷ s.y ∷ t.x ∷ t.y ∷ p.x ∷ p.y ∷ []) (h & k) (search linear depth 40) (omega arith)

-- a point lies to the right of the line one way, or the other way, or neither; and s and t neither
one_side : (s t p : Point) → one (is_right s t p) + one (is_right t s p) ≤ 1
unfolding is_right
one_side s t p = go (lt_z (turn s t p) (pos 0)) refl (lt_z (turn t s p) (pos 0)) refl
  where
    go : (u : Bool) → lt_z (turn s t p) (pos 0) ≡ u → (v : Bool) → lt_z (turn t s p) (pos 0) ≡ v → one u + one v ≤ 1
    go true e true f = absurd (not-both s t p (lt_z-true e) (lt_z-true f))
    go true e false f = omega arith
    go false e v f = omega (arith, one-most v)

neither-side : (s t p : Point) → (p ≡ s) ⊎ (p ≡ t) → one (is_right s t p) + one (is_right t s p) ≡ 0
unfolding is_right
neither-side s t p at = go (lt_z (turn s t p) (pos 0)) refl (lt_z (turn t s p) (pos 0)) refl
  where
    there : turn s t p <ℤ pos 0 → (p ≡ s) ⊎ (p ≡ t) → ⊥
    there h (inl e) = right-first s t (subst (λ q. turn s t q <ℤ pos 0) e h)
    there h (inr e) = right-last s t (subst (λ q. turn s t q <ℤ pos 0) e h)

    back : turn t s p <ℤ pos 0 → (p ≡ s) ⊎ (p ≡ t) → ⊥
    back h (inl e) = right-last t s (subst (λ q. turn t s q <ℤ pos 0) e h)
    back h (inr e) = right-first t s (subst (λ q. turn t s q <ℤ pos 0) e h)

    go : (u : Bool) → lt_z (turn s t p) (pos 0) ≡ u → (v : Bool) → lt_z (turn t s p) (pos 0) ≡ v → one u + one v ≡ 0
    go true e v f = absurd (there (lt_z-true e) at)
    go false e true f = absurd (back (lt_z-true f) at)
    go false e false f = refl

-- at most this number of corners is on one side or the other: e is 1 if the corner is one of s and t
sides-with : (s t p : Point) (e : ℕ) → e ≤ 1 → (0 < e → (p ≡ s) ⊎ (p ≡ t)) → e + (one (is_right s t p) + one (is_right t s p)) ≤ 1
sides-with s t p zero h at = omega (arith, one_side s t p)
sides-with s t p (suc e) h at = omega (arith, neither-side s t p (at (omega arith)))

-- ---- one shape

module _ {A : List Point} {a : ℕ} (shape : IsShape A) (peak : Peak A a) (s t : Point) (apart : s ≡ t → ⊥) where
  -- e and f are 1 if the first corner is s, and the peak is t
  places-few : (e f : ℕ) → e ≤ 1 → f ≤ 1 → (0 < e → corner A 0 ≡ s) → (0 < f → corner A a ≡ t) → places A a s t + (e + f) ≤ length A
  places-few e f e-le f-le is-s is-t = go (ℕ_discrete a 0)
    where
      bottom : e + (one (is_right s t (corner (closed A) 0)) + one (is_right t s (corner (closed A) 0))) ≤ 1
      bottom = sides-with s t (corner (closed A) 0) e e-le (λ h. inl (closed-within A 0 shape.some ∙ is-s h))

      top : f + (one (is_right s t (corner (closed A) a)) + one (is_right t s (corner (closed A) a))) ≤ 1
      top = sides-with s t (corner (closed A) a) f f-le (λ h. inr (closed-within A a peak.within ∙ is-t h))

      -- the one corner of a point is not both s and t
      apart-ends : a ≡ 0 → Dec (0 < e) → Dec (0 < f) → e + f ≤ 1
      apart-ends z (yes h) (yes k) = absurd (apart (sym (is-s h) ∙ ap (corner A) (sym z) ∙ is-t k))
      apart-ends z (yes h) (no k) = omega (arith, k)
      apart-ends z (no h) k = omega (arith, h)

      -- the rows of a point, with x for its one corner
      flat : (x : ℕ) → a ≡ 0 → x + (one (is_right s t (corner (closed A) 0)) + one (is_right t s (corner (closed A) 0))) ≤ 1
          → places A a s t + x ≤ 1
      flat x z h = subst (λ k. places A k s t + x ≤ 1) (sym z) (omega arith)

      go : Dec (a ≡ 0) → places A a s t + (e + f) ≤ length A
      go (yes z) =
          let low = flat e z bottom in
          let high = flat f z
          (subst (λ k. f + (one (is_right s t (corner (closed A) k)) + one (is_right t s (corner (closed A) k))) ≤ 1) z top) in
          omega (arith, low, high, apart-ends z (dec_lt 0 e) (dec_lt 0 f), shape.some)
      go (no n) =
          let h = home-behind A a n in
          let same = ap (λ p. one (is_right t s p)) (home-corner A a shape.some ∙ sym (closed-within A 0 shape.some)) in
          omega (arith, bottom, top, n, peak.within, same)

  pub counts-few : (e f : ℕ) → e ≤ 1 → f ≤ 1 → (0 < e → corner A 0 ≡ s) → (0 < f → corner A a ≡ t) → counts A a s t + (e + f) ≤ length A
  counts-few e f h k i j = subst (λ n. n + (e + f) ≤ length A) (sym (counts-places A a s t)) (places-few e f h k i j)
