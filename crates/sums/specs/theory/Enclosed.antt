-- A corner of a shape that is furthest in a direction d of length 1, by the edges next to it; d turned left says how far corners are aside.
--     between       the edge to it goes on in d, and the edge from it does not
--     from_start    all other corners are on one side, and the edge from it leads there and back
--     to_end        all other corners are on one side, and the edge to it comes from there and goes on
use Rattle.std.specs.Prelude.{◌≡◌, refl, Bool, true, false, List, [], ◌∷◌, ◌⊎◌, ℕ, ◌≤◌, ◌<◌, ltb, ℤ, pos, ◌-ℤ◌, ◌*ℤ◌, length, ◌≤ℤ◌, ◌<ℤ◌}
use Rattle.std.proofs.Common.{sym, ◌∙◌, ap, subst, inl, inr, arith, ltb-true, ltb-false}
use Rattle.integer.specs.Ring.{ring, reify}
use Rattle.integer.specs.Linear.{lia, linear, ◌&◌}
use Rattle.integer.specs.Order.{◌<×<◌, ◌≤×≤◌, ◌≡×◌, contra≤, le_of_eq, le_antisym, lt-or-le}
use Rattle.plane.specs.Cut.{quarter}
use Rattle.plane.specs.Point.{Point, corner}
use Rattle.plane.specs.Turn.{turn}
use Rattle.plane.specs.Shape.{next, IsShape}
use Rattle.plane.specs.Direction.{value}
use Rattle.plane.proofs.theory.lists.Next.{one-or-next}
use Rattle.plane.proofs.theory.sum.Positions.{edge-turn, next-left}

-- ---- three vectors at a corner: u comes to it, v leaves it, w leads to any other; x is how far each goes on, y how far it goes aside

module _ (vx vy wx wy : ℤ) (out : pos 0 ≤ℤ (vx *ℤ wy -ℤ vy *ℤ wx)) where
  -- all others are on one side, and v leads there and back
  leaving : vx ≤ℤ pos 0 → pos 0 <ℤ vy → pos 0 ≤ℤ wy → wx ≤ℤ pos 0
  leaving h k l = contra≤ (λ g. lia (vx ∷ vy ∷ wx ∷ wy ∷ []) (out & k <×< g & h ≤×≤ l) (search linear depth 40) (omega arith))

  module _ (ux uy : ℤ) (on : pos 0 ≤ℤ ux) (turns : pos 0 <ℤ (ux *ℤ vy -ℤ uy *ℤ vx)) (back : pos 0 ≤ℤ (ux *ℤ wy -ℤ uy *ℤ wx)) where
    -- u goes on and v back: w is between them
    enclosed : vx ≤ℤ pos 0 → wx ≤ℤ pos 0
    enclosed h = contra≤ (λ g. lia (ux ∷ uy ∷ vx ∷ vy ∷ wx ∷ wy ∷ []) (turns <×< g & out ≤×≤ on & h ≤×≤ back)
        (search linear depth 40) (omega arith))

    -- all others are on one side, and u comes from there
    coming : pos 0 ≤ℤ uy → vy ≤ℤ pos 0 → wy ≤ℤ pos 0 → wx ≤ℤ pos 0
    coming h k l = go (lt-or-le (pos 0) uy)
      where
        go : (pos 0 <ℤ uy) ⊎ (uy ≤ℤ pos 0) → wx ≤ℤ pos 0
        go (inl m) = contra≤ (λ g. lia (ux ∷ uy ∷ wx ∷ wy ∷ []) (back & m <×< g & on ≤×≤ l) (search linear depth 40) (omega arith))
        go (inr m) = absurd (lia (ux ∷ uy ∷ vx ∷ vy ∷ []) (turns & le_antisym m h ≡× vx & on ≤×≤ k) (search linear depth 40) (omega arith))

-- ---- at a corner of a shape, in a direction of length 1

-- the turn by how far the corners are in a direction, and how far aside, from the start of the edge or from its end
module _ (d a b c : Point) where
  abbrev product : Point → ℤ
  product p = (value d b -ℤ value d a) *ℤ (value (quarter d) c -ℤ value (quarter d) p)
      -ℤ (value (quarter d) b -ℤ value (quarter d) a) *ℤ (value d c -ℤ value d p)

  turn-from : product a ≡ value d d *ℤ turn a b c
  unfolding value turn
  turn-from = ring (d.x ∷ d.y ∷ a.x ∷ a.y ∷ b.x ∷ b.y ∷ c.x ∷ c.y ∷ []) (search reify depth 40) tt

  turn-to : product b ≡ value d d *ℤ turn a b c
  unfolding value turn
  turn-to = ring (d.x ∷ d.y ∷ a.x ∷ a.y ∷ b.x ∷ b.y ∷ c.x ∷ c.y ∷ []) (search reify depth 40) tt

one-times : (z : ℤ) → pos 1 *ℤ z ≡ z
one-times z = ring (z ∷ []) (search reify depth 40) tt

less-than : {x y : ℤ} → (x -ℤ y) ≤ℤ pos 0 → x ≤ℤ y
less-than {x} {y} h = lia (x ∷ y ∷ []) h (search linear depth 40) (omega arith)

difference : {x y : ℤ} → x ≤ℤ y → pos 0 ≤ℤ (y -ℤ x)
difference {x} {y} h = lia (x ∷ y ∷ []) h (search linear depth 40) (omega arith)

no_more : {x y : ℤ} → x ≤ℤ y → (x -ℤ y) ≤ℤ pos 0
no_more {x} {y} h = lia (x ∷ y ∷ []) h (search linear depth 40) (omega arith)

above : {x y : ℤ} → x <ℤ y → pos 0 <ℤ (y -ℤ x)
above {x} {y} h = lia (x ∷ y ∷ []) h (search linear depth 40) (omega arith)

module _ (ps : List Point) (s : IsShape ps) (d : Point) (unit : value d d ≡ pos 1) where
  -- how far corner i is, and how far aside
  abbrev far : ℕ → ℤ
  far i = value d (corner ps i)

  abbrev aside : ℕ → ℤ
  aside i = value (quarter d) (corner ps i)

  -- the same where the direction has length 1
  measured : (a b c : ℕ) {z : ℤ} → z ≡ value d d *ℤ turn (corner ps a) (corner ps b) (corner ps c)
      → turn (corner ps a) (corner ps b) (corner ps c) ≡ z
  measured a b c e =
      let t = turn (corner ps a) (corner ps b) (corner ps c) in
      sym (e ∙ ap (λ (z : ℤ). z *ℤ t) unit ∙ one-times t)

  module _ (r c : ℕ) (hr : r < length ps) (hc : c < length ps) where
    abbrev b : ℕ
    b = next (length ps) r

    out : pos 0 ≤ℤ ((far b -ℤ far r) *ℤ (aside c -ℤ aside r) -ℤ (aside b -ℤ aside r) *ℤ (far c -ℤ far r))
    out = subst (λ z. pos 0 ≤ℤ z) (measured r b c (turn-from d (corner ps r) (corner ps b) (corner ps c))) (edge-turn ps s r c hr hc)

    pub from_start : far b ≤ℤ far r → aside r <ℤ aside b → aside r ≤ℤ aside c → far c ≤ℤ far r
    from_start h k l = less-than (leaving _ _ _ _ out (no_more h) (above k) (difference l))

    -- a is the corner before r
    module _ (a : ℕ) (ha : a < length ps) (e : next (length ps) a ≡ r) (on : far a ≤ℤ far r) where
      back : pos 0 ≤ℤ ((far r -ℤ far a) *ℤ (aside c -ℤ aside r) -ℤ (aside r -ℤ aside a) *ℤ (far c -ℤ far r))
      back = subst (λ z. pos 0 ≤ℤ z) (measured a r c (turn-to d (corner ps a) (corner ps r) (corner ps c)))
          (subst (λ (i : ℕ). pos 0 ≤ℤ turn (corner ps a) (corner ps i) (corner ps c)) e (edge-turn ps s a c ha hc))

      turns : 2 < length ps → pos 0 <ℤ ((far r -ℤ far a) *ℤ (aside b -ℤ aside r) -ℤ (aside r -ℤ aside a) *ℤ (far b -ℤ far r))
      turns three = subst (λ z. pos 0 <ℤ z) (measured a r b (turn-to d (corner ps a) (corner ps r) (corner ps b)))
          (subst (λ (i : ℕ). pos 0 <ℤ turn (corner ps a) (corner ps i) (corner ps (next (length ps) i))) e (next-left ps s three a ha))

      -- of two corners the other is the one before
      few : length ps ≤ 2 → far c ≤ℤ far r
      few h = go (one-or-next (length ps) a c h ha hc)
        where
          go : (c ≡ a) ⊎ (c ≡ next (length ps) a) → far c ≤ℤ far r
          go (inl q) = subst (λ (i : ℕ). far i ≤ℤ far r) (sym q) on
          go (inr q) = le_of_eq (ap far (q ∙ e))

      counted : (2 < length ps → far c ≤ℤ far r) → far c ≤ℤ far r
      counted f = go (ltb 2 (length ps)) refl
        where
          go : (t : Bool) → ltb 2 (length ps) ≡ t → far c ≤ℤ far r
          go true q = f (ltb-true 2 (length ps) q)
          go false q = few (ltb-false 2 (length ps) q)

      pub between : far b ≤ℤ far r → far c ≤ℤ far r
      between h = counted (λ three. less-than (enclosed _ _ _ _ out _ (aside r -ℤ aside a) (difference on) (turns three) back (no_more h)))

      pub to_end : aside a ≤ℤ aside r → aside b ≤ℤ aside r → aside c ≤ℤ aside r → far c ≤ℤ far r
      to_end h k l = counted (λ three. less-than
          (coming _ _ _ _ out _ _ (difference on) (turns three) back (difference h) (no_more k) (no_more l)))
