-- When two corners of a shape are furthest in one direction: they are the ends of an edge that points across it.
--     Tied ps d r k       corner k ends the edge from r, or r the edge from k, and the edge points the way of `quarter d`
--     tied                two furthest corners are so
--     tied-alone          and no third corner is furthest
use Rattle.std.specs.Prelude.{◌≡◌, refl, Bool, true, false, not, List, [], ◌∷◌, ◌⊎◌, ℕ, ◌+◌, ◌<◌, eqb, pos, ◌+ℤ◌, length, ◌≤ℤ◌, ◌<ℤ◌}
use Rattle.std.proofs.Common.{sym, ◌∙◌, ap, inl, inr, arith, eqb-true}
use Rattle.std.proofs.lemmas.Bool.{eqb-false}
use Rattle.integer.specs.Ring.{ring, reify}
use Rattle.integer.specs.Linear.{lia, linear, ◌&◌}
use Rattle.integer.specs.Order.{◌<×<◌, ◌≤×<◌, ◌≡×◌, contra<, le_of_eq, le-lt_z}
use Rattle.plane.specs.Cut.{quarter}
use Rattle.plane.specs.Point.{Point, corner, ◌⊖◌, opposite}
use Rattle.plane.specs.Turn.{cross, turn-cross}
use Rattle.plane.specs.Shape.{next, IsShape}
use Rattle.plane.specs.Direction.{value, support, SameWay}
use Rattle.plane.specs.Forms.{up, NonZero}
use Rattle.plane.proofs.theory.lists.Members.{point-path, position-member}
use Rattle.plane.proofs.theory.forms.Vector.{cross-swap, cross-opposite, cross-nonzero, ⊖-zero, opposite-non-zero, quarter-non-zero}
use Rattle.plane.proofs.theory.forms.HalfPlane.{up-opposite}
use Rattle.plane.proofs.theory.forms.Angle.{before-alike}
use Rattle.plane.proofs.theory.forms.SameWay.{neither-same}
use Rattle.plane.proofs.theory.support.Support.{value-le-support}
use Rattle.plane.proofs.theory.sum.Positions.{edge_of, round-within, corner-injective}

-- ---- no turn between two vectors

alike_same : (v t : Point) → up v ≡ up t → NonZero v → NonZero t → cross v t ≡ pos 0 → SameWay v t
alike_same v t e nv nt h =
    let back : cross t v ≤ℤ pos 0 = lia (cross v t ∷ cross t v ∷ []) (h & cross-swap v t) (search linear depth 40) (omega arith) in
    neither-same v t (before-alike v t e ∙ le-lt_z (le_of_eq h)) (before-alike t v (sym e) ∙ le-lt_z back) nv nt

opposite-flat : (v t : Point) → cross v t ≡ pos 0 → cross (opposite v) t ≡ pos 0
unfolding cross
opposite-flat v t h = lia (v.x ∷ v.y ∷ t.x ∷ t.y ∷ []) h (search linear depth 40) (omega arith)

parallel-same : (v t : Point) → NonZero v → NonZero t → cross v t ≡ pos 0 → SameWay v t ⊎ SameWay (opposite v) t
parallel-same v t nv nt h = go (up v) refl (up t) refl
  where
    turned : not (up v) ≡ up t → SameWay (opposite v) t
    turned e = alike_same (opposite v) t (up-opposite v nv ∙ e) (opposite-non-zero nv) nt (opposite-flat v t h)

    go : (a : Bool) → up v ≡ a → (b : Bool) → up t ≡ b → SameWay v t ⊎ SameWay (opposite v) t
    go true p true q = inl (alike_same v t (p ∙ sym q) nv nt h)
    go false p false q = inl (alike_same v t (p ∙ sym q) nv nt h)
    go true p false q = inr (turned (ap not p ∙ sym q))
    go false p true q = inr (turned (ap not p ∙ sym q))

-- what is left of v is left of all that point the same way
same-positive : {v t : Point} → SameWay v t → (w : Point) → pos 0 <ℤ cross w v → pos 0 <ℤ cross w t
unfolding cross
same-positive {v} {t} s w h = contra< (λ g. lia (s.m ∷ s.n ∷ v.x ∷ v.y ∷ t.x ∷ t.y ∷ w.x ∷ w.y ∷ [])
    (s.along-x ≡× w.y & s.along-y ≡× w.x & s.m-above <×< h & g ≤×< s.n-above) (search linear depth 40) (omega arith))

-- of two vectors that both have no turn against a third, neither is left of the other
flat-not-left : (v w t : Point) → NonZero t → cross v t ≡ pos 0 → cross w t ≡ pos 0 → pos 0 <ℤ cross w v → ⊥
flat-not-left v w t nt e f h = go (parallel-same v t (cross-nonzero h).1 nt e)
  where
    go : SameWay v t ⊎ SameWay (opposite v) t → ⊥
    go (inl s) = lia (cross w t ∷ []) (f & same-positive s w h) (search linear depth 40) (omega arith)
    go (inr s) = lia (cross (opposite w) t ∷ [])
        (opposite-flat w t f & same-positive s (opposite w) (rw (cross-opposite w v) h)) (search linear depth 40) (omega arith)

-- ---- two furthest corners

value-step : (d a c : Point) → value d c ≡ value d a +ℤ cross (c ⊖ a) (quarter d)
unfolding value cross
value-step d a c = ring (d.x ∷ d.y ∷ a.x ∷ a.y ∷ c.x ∷ c.y ∷ []) (search reify depth 40) tt

opposite-step : (a c : Point) → opposite (c ⊖ a) ≡ a ⊖ c
opposite-step a c =
    point-path (ring (a.x ∷ c.x ∷ []) (search reify depth 40) tt) (ring (a.y ∷ c.y ∷ []) (search reify depth 40) tt)

-- the one ends the edge that leaves the other, and the edge points the way of `quarter d`
pub data Tied (ps : List Point) (d : Point) (r k : ℕ) : Type 0 where
  after : k ≡ next (length ps) r → SameWay (edge_of ps r) (quarter d) → Tied ps d r k
  behind : r ≡ next (length ps) k → SameWay (edge_of ps k) (quarter d) → Tied ps d r k

module _ (ps : List Point) (s : IsShape ps) (d : Point) where
  -- r is furthest and the step to k goes across d: were k not next, the corner that is would be left of that step, and further
  tied-next : (r k : ℕ) → r < length ps → k < length ps → (k ≡ r → ⊥) → value d (corner ps r) ≡ support d ps
      → SameWay (corner ps k ⊖ corner ps r) (quarter d) → k ≡ next (length ps) r
  tied-next r k hr hk other far w = go (eqb k (next (length ps) r)) refl
    where
      m : ℕ
      m = next (length ps) r

      a : Point
      a = corner ps r

      b : Point
      b = corner ps m

      go : (t : Bool) → eqb k m ≡ t → k ≡ m
      go true e = eqb-true k m e
      go false e = absurd (lia (value d a ∷ value d b ∷ support d ps ∷ cross (b ⊖ a) (quarter d) ∷ [])
          (far & value-step d a b & value-le-support d (position-member ps m (round-within (length ps) (r + 1) s.some (omega arith)))
          & same-positive w (b ⊖ a) (rw turn-cross at (s.left r k hr hk other (eqb-false k m e)))) (search linear depth 40) (omega arith))

  -- the step from a furthest corner to another one
  flat : (a c : Point) → value d a ≡ support d ps → value d c ≡ support d ps → cross (c ⊖ a) (quarter d) ≡ pos 0
  flat a c far also = lia (value d a ∷ value d c ∷ support d ps ∷ cross (c ⊖ a) (quarter d) ∷ []) (far & also & value-step d a c)
      (search linear depth 40) (omega arith)

  pub tied : (r k : ℕ) → NonZero d → r < length ps → k < length ps → (k ≡ r → ⊥)
      → value d (corner ps r) ≡ support d ps → value d (corner ps k) ≡ support d ps → Tied ps d r k
  tied r k nz hr hk other far also = go (parallel-same (c ⊖ a) (quarter d) differ (quarter-non-zero nz) (flat a c far also))
    where
      a : Point
      a = corner ps r

      c : Point
      c = corner ps k

      differ : NonZero (c ⊖ a)
      differ = record { non_zero = λ e. other (sym (corner-injective ps s r k hr hk (⊖-zero a c e))) }

      go : SameWay (c ⊖ a) (quarter d) ⊎ SameWay (opposite (c ⊖ a)) (quarter d) → Tied ps d r k
      go (inl w) = let e = tied-next r k hr hk other far w in after e (rw (← e) w)
      go (inr w) =
          let v : SameWay (a ⊖ c) (quarter d) = rw (opposite-step a c) at w in
          let e = tied-next k r hk hr (λ q. other (sym q)) also v in
          behind e (rw (← e) v)

  -- a third would be left of the step from the one to the other
  pub tied-alone : (r k : ℕ) → NonZero d → r < length ps → k < length ps → (k ≡ r → ⊥) → (k ≡ next (length ps) r → ⊥)
      → value d (corner ps r) ≡ support d ps → value d (corner ps (next (length ps) r)) ≡ support d ps
      → value d (corner ps k) ≡ support d ps → ⊥
  tied-alone r k nz hr hk other third far also again =
      let a = corner ps r in
      flat-not-left (corner ps k ⊖ a) (corner ps (next (length ps) r) ⊖ a) (quarter d) (quarter-non-zero nz) (flat a _ far again)
      (flat a _ far also) (rw turn-cross at (s.left r k hr hk other third))
