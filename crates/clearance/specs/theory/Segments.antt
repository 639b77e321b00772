-- Segments of two points of a set, and one that comes nearest to the origin.
--     near w d, under w d        how near the segment from w to d comes, as a fraction: at the foot of the origin where that is strictly
--                                inside, else what it is at w; `View`: which of the two
--     NoFurther a b c d          the fraction a/b is at most c/d
--     Nearest, nearest-segment   a segment of two points of a list that is no further than any
--     segment-bound              no point of a segment is nearer
use Rattle.std.specs.Prelude.{◌≡◌, refl, Bool, true, false, cond, ◌&&◌, ◌⊎◌, List, [], ◌∷◌, ℤ, pos, ◌+ℤ◌, ◌-ℤ◌, ◌*ℤ◌, ◌≤ℤ◌, ◌<ℤ◌}
use Rattle.std.proofs.Common.{sym, inl, inr, arith}
use mathlib.Core.List.Memᴰ
use Rattle.std.specs.Int.Signed.{lt_z}
use Rattle.integer.specs.Ring.{ring, reify}
use Rattle.integer.specs.Linear.{linear, lia, ◌&◌}
use Rattle.integer.specs.Order.{◌<×<◌, ◌<×≤◌, ◌≤×≤◌, contra≤}
use Rattle.integer.specs.Order.{lt-or-le, square-nonneg, lt_z-true, lt_z-false, weaken}
use Rattle.plane.specs.Point.{Point, ◌⊕◌, ◌⊖◌, ◌∈◌}
use Rattle.plane.specs.Turn.{cross}
use Rattle.plane.specs.Direction.{value}
use Rattle.plane.specs.Mean.{times}
use Rattle.plane.proofs.theory.forms.Vector.{value-nonneg}

-- ---- the least of a list, by a total and transitive relation

module _ (Le : Point → Point → Type 0) (total : (p q : Point) → Le p q ⊎ Le q p)
    (trans : (p q r : Point) → Le p q → Le q r → Le p r) where
  record Least (S : List Point) : Type 0 where
    at : Point
    at_in : at ∈ S
    least : (x : Point) → x ∈ S → Le at x

  self : (p : Point) → Le p p
  self p = go (total p p)
    where
      go : Le p p ⊎ Le p p → Le p p
      go (inl h) = h
      go (inr h) = h

  one_more : (p : Point) (S : List Point) → Least S → Least (p ∷ S)
  one_more p S r = go (total p r.at)
    where
      first : Le p r.at → (x : Point) → x ∈ (p ∷ S) → Le p x
      first h x (Memᴰ.head e) = rw e (self p)
      first h x (Memᴰ.tail m) = trans p r.at x h (r.least x m)

      later : Le r.at p → (x : Point) → x ∈ (p ∷ S) → Le r.at x
      later h x (Memᴰ.head e) = rw e h
      later h x (Memᴰ.tail m) = r.least x m

      go : Le p r.at ⊎ Le r.at p → Least (p ∷ S)
      go (inl h) = record { at = p; at_in = Memᴰ.head refl; least = first h }
      go (inr h) = record { at = r.at; at_in = Memᴰ.tail r.at_in; least = later h }

  find-least : (p : Point) (S : List Point) → Least (p ∷ S)
  find-least p [] = record { at = p; at_in = Memᴰ.head refl; least = only }
    where
      only : (x : Point) → x ∈ (p ∷ []) → Le p x
      only x (Memᴰ.head e) = rw e (self p)
      only x (Memᴰ.tail m) = absurd (Memᴰ.not-nil m)
  find-least p (q ∷ S) = one_more p (q ∷ S) (find-least q S)

-- ---- how near the segment from w to d comes: at the foot if that is strictly inside, else no nearer than it is at w

unfoldable pub within : Point → Point → Bool
within w d = lt_z (value w d) (value w w) && lt_z (value w d) (value d d)

unfoldable pub near : Point → Point → ℤ
near w d = cond (within w d) (cross w d *ℤ cross w d) (value w w)

unfoldable pub under : Point → Point → ℤ
under w d = cond (within w d) (value (d ⊖ w) (d ⊖ w)) (pos 1)

pub record Inside (w d : Point) : Type 0 where
  pub first : value w d <ℤ value w w
  pub second : value w d <ℤ value d d

pub data View (w d : Point) : Type 0 where
  is-inside : Inside w d → near w d ≡ cross w d *ℤ cross w d → under w d ≡ value (d ⊖ w) (d ⊖ w) → View w d
  past_first : value w w ≤ℤ value w d → near w d ≡ value w w → under w d ≡ pos 1 → View w d
  past-second : value d d ≤ℤ value w d → near w d ≡ value w w → under w d ≡ pos 1 → View w d

pub view : (w d : Point) → View w d
unfolding near under within
view w d = go (lt_z (value w d) (value w w)) refl (lt_z (value w d) (value d d)) refl
  where
    go : (s : Bool) → lt_z (value w d) (value w w) ≡ s → (t : Bool) → lt_z (value w d) (value d d) ≡ t → View w d
    go true e true f = is-inside (record { first = lt_z-true e; second = lt_z-true f }) (rw (e, f)) (rw (e, f))
    go true e false f = past-second (lt_z-false f) (rw (e, f)) (rw (e, f))
    go false e t f = past_first (lt_z-false e) (rw e) (rw e)

pub span : (w d : Point) → value (d ⊖ w) (d ⊖ w) ≡ value w w -ℤ value w d -ℤ value w d +ℤ value d d
unfolding value
span w d = ring (w.x ∷ w.y ∷ d.x ∷ d.y ∷ []) (search reify depth 40) tt

pub area : (w d : Point) → cross w d *ℤ cross w d ≡ value w w *ℤ value d d -ℤ value w d *ℤ value w d
unfolding value cross
area w d = ring (w.x ∷ w.y ∷ d.x ∷ d.y ∷ []) (search reify depth 40) tt

pub inside-span : (w d : Point) → Inside w d → pos 0 <ℤ value (d ⊖ w) (d ⊖ w)
inside-span w d i = lia (value w w ∷ value w d ∷ value d d ∷ value (d ⊖ w) (d ⊖ w) ∷ []) (span w d & i.first & i.second)
    (search linear depth 40) (omega arith)

under-positive : (w d : Point) → pos 0 <ℤ under w d
under-positive w d = go (view w d)
  where
    go : View w d → pos 0 <ℤ under w d
    go (is-inside i e f) = rw f (inside-span w d i)
    go (past_first h e f) = rw f (record { lt = tt })
    go (past-second h e f) = rw f (record { lt = tt })

-- ---- fractions

pub record NoFurther (a b c d : ℤ) : Type 0 where
  pub no-further : (a *ℤ d) ≤ℤ (c *ℤ b)

no-further-trans : (a b c d e f : ℤ) → pos 0 <ℤ b → pos 0 <ℤ d → pos 0 <ℤ f → NoFurther a b c d → NoFurther c d e f → NoFurther a b e f
no-further-trans a b c d e f p q r h k = record {
  no-further = contra≤ (λ g. lia (a ∷ b ∷ c ∷ d ∷ e ∷ f ∷ [])
      (q <×< g & r <×≤ h.no-further & p <×≤ k.no-further) (search linear depth 40) (omega arith));
}

no-further-total : (a b c d : ℤ) → NoFurther a b c d ⊎ NoFurther c d a b
no-further-total a b c d = go (lt-or-le (c *ℤ b) (a *ℤ d))
  where
    go : ((c *ℤ b) <ℤ (a *ℤ d)) ⊎ ((a *ℤ d) ≤ℤ (c *ℤ b)) → NoFurther a b c d ⊎ NoFurther c d a b
    go (inl h) = inr (record { no-further = weaken h })
    go (inr h) = inl (record { no-further = h })

-- ---- a segment that comes nearest of all

module _ (p : Point) (S : List Point) where
  -- the best end for a start w
  best : (w : Point) → Least (λ c d. NoFurther (near w c) (under w c) (near w d) (under w d))
      (λ c d. no-further-total (near w c) (under w c) (near w d) (under w d))
      (λ c d e h k. no-further-trans _ _ _ _ _ _ (under-positive w c) (under-positive w d) (under-positive w e) h k) (p ∷ S)
  best w = find-least _ _ _ p S

  pub record Nearest : Type 0 where
    pub one : Point
    pub other : Point
    pub one_in : one ∈ (p ∷ S)
    pub other-in : other ∈ (p ∷ S)
    pub nearest : (w d : Point) → w ∈ (p ∷ S) → d ∈ (p ∷ S) → NoFurther (near one other) (under one other) (near w d) (under w d)

  end : Point → Point
  end w = (best w).at

  start : Least (λ v w. NoFurther (near v (end v)) (under v (end v)) (near w (end w)) (under w (end w)))
      (λ v w. no-further-total (near v (end v)) (under v (end v)) (near w (end w)) (under w (end w)))
      (λ v w x h k. no-further-trans _ _ _ _ _ _ (under-positive v (end v)) (under-positive w (end w)) (under-positive x (end x)) h k)
      (p ∷ S)
  start = find-least _ _ _ p S

  pub nearest-segment : Nearest
  unfolding end
  nearest-segment = record {
    one = start.at;
    other = end start.at;
    one_in = start.at_in;
    other-in = (best start.at).at_in;
    nearest = λ w d m n. no-further-trans _ _ _ _ _ _ (under-positive start.at (end start.at)) (under-positive w (end w))
        (under-positive w d) (start.least w m) ((best w).least d n);
  }

-- ---- no point of a segment is nearer

pub self-bound : (a b : ℤ) (x : Point) → NoFurther a b (near x x) (under x x) → a ≤ℤ (value x x *ℤ b)
self-bound a b x h = go (view x x)
  where
    flat : near x x ≡ value x x → under x x ≡ pos 1 → a ≤ℤ (value x x *ℤ b)
    flat e f =
        let k : (a *ℤ pos 1) ≤ℤ (value x x *ℤ b) = rw (sym e, sym f) h.no-further in
        lia (a ∷ b ∷ value x x ∷ []) k (search linear depth 40) (omega arith)

    go : View x x → a ≤ℤ (value x x *ℤ b)
    go (is-inside i e f) = absurd (lia (value x x ∷ []) i.first (search linear depth 40) (omega arith))
    go (past_first l e f) = flat e f
    go (past-second l e f) = flat e f

module _ (s t xx xp pp a b : ℤ) (some : pos 0 <ℤ b) where
  abbrev mean : ℤ
  mean = s *ℤ s *ℤ xx +ℤ (s *ℤ t *ℤ xp +ℤ s *ℤ t *ℤ xp) +ℤ t *ℤ t *ℤ pp

  at-inside : (a *ℤ (xx -ℤ xp -ℤ xp +ℤ pp)) ≤ℤ ((xx *ℤ pp -ℤ xp *ℤ xp) *ℤ b) → pos 0 <ℤ (xx -ℤ xp -ℤ xp +ℤ pp)
      → (a *ℤ ((s +ℤ t) *ℤ (s +ℤ t))) ≤ℤ (b *ℤ mean)
  at-inside h long = contra≤ (λ g. lia (s ∷ t ∷ xx ∷ xp ∷ pp ∷ a ∷ b ∷ [])
      (long <×< g & square-nonneg (s +ℤ t) ≤×≤ h & some <×≤ square-nonneg (s *ℤ xp -ℤ s *ℤ xx +ℤ t *ℤ pp -ℤ t *ℤ xp))
      (search linear depth 40) (omega arith))

  at-end : pos 0 ≤ℤ (xx -ℤ xp -ℤ xp +ℤ pp) → xx ≤ℤ xp → a ≤ℤ (xx *ℤ b) → pos 0 ≤ℤ s → pos 0 ≤ℤ t
      → (a *ℤ ((s +ℤ t) *ℤ (s +ℤ t))) ≤ℤ (b *ℤ mean)
  at-end span past h p q = lia (s ∷ t ∷ xx ∷ xp ∷ pp ∷ a ∷ b ∷ []) (some <×≤ low & square-nonneg (s +ℤ t) ≤×≤ h)
      (search linear depth 40) (omega arith)
    where
      longer : xx ≤ℤ pp
      longer = lia (xx ∷ xp ∷ pp ∷ []) (span & past) (search linear depth 40) (omega arith)

      both : pos 0 ≤ℤ (s *ℤ t)
      both = lia (s ∷ t ∷ []) (p ≤×≤ q) (search linear depth 40) (omega arith)

      low : ((s +ℤ t) *ℤ (s +ℤ t) *ℤ xx) ≤ℤ mean
      low = lia (s ∷ t ∷ xx ∷ xp ∷ pp ∷ []) (both ≤×≤ past & square-nonneg t ≤×≤ longer) (search linear depth 40) (omega arith)

mean-square : (x p : Point) (s t : ℤ) → value (times s x ⊕ times t p) (times s x ⊕ times t p)
    ≡ s *ℤ s *ℤ value x x +ℤ (s *ℤ t *ℤ value x p +ℤ s *ℤ t *ℤ value x p) +ℤ t *ℤ t *ℤ value p p
unfolding value
mean-square x p s t = ring (x.x ∷ x.y ∷ p.x ∷ p.y ∷ s ∷ t ∷ []) (search reify depth 40) tt

module _ (a b : ℤ) (some : pos 0 <ℤ b) (x p : Point) (s t : ℤ) (l : pos 0 ≤ℤ s) (m : pos 0 ≤ℤ t) where
  pub segment-bound : NoFurther a b (near x p) (under x p) → NoFurther a b (near x x) (under x x) → NoFurther a b (near p p) (under p p)
      → (a *ℤ ((s +ℤ t) *ℤ (s +ℤ t))) ≤ℤ (b *ℤ value (times s x ⊕ times t p) (times s x ⊕ times t p))
  segment-bound h one other = rw (mean-square x p s t) (go (view x p))
    where
      spread : pos 0 ≤ℤ (value x x -ℤ value x p -ℤ value x p +ℤ value p p)
      spread = rw (← span x p) (value-nonneg (p ⊖ x))

      go : View x p → (a *ℤ ((s +ℤ t) *ℤ (s +ℤ t)))
          ≤ℤ (b *ℤ (s *ℤ s *ℤ value x x +ℤ (s *ℤ t *ℤ value x p +ℤ s *ℤ t *ℤ value x p) +ℤ t *ℤ t *ℤ value p p))
      go (is-inside i e f) = at-inside s t (value x x) (value x p) (value p p) a b some
          (rw (← area x p, ← span x p, ← e, ← f) h.no-further) (rw (← span x p) (inside-span x p i))
      go (past_first k e f) = at-end s t (value x x) (value x p) (value p p) a b some spread k (self-bound a b x one) l m
      go (past-second k e f) = lia (s ∷ t ∷ value x x ∷ value x p ∷ value p p ∷ a ∷ b ∷ [])
          (at-end t s (value p p) (value x p) (value x x) a b some
          (lia (value x x ∷ value x p ∷ value p p ∷ []) spread (search linear depth 40) (omega arith)) k (self-bound a b p other) m l)
          (search linear depth 40) (omega arith)
