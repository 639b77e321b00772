-- A list of three or more corners, none of which turns in, is a shape, and no corner of a shape turns in.
--     turns_same           the test asks only the corner and its neighbours
--     previous-suc         the position before one that is not the first
--     previous-next        the position after the one before is the position itself
--     none-shape           none turns in: a shape
--     shape-none           a shape: none turns in
use Rattle.std.specs.Prelude.{◌≡◌, refl, Bool, true, false, not, cond, ◌&&◌, ◌||◌, List, [], ◌∷◌, ℕ, zero, suc, ◌-◌, ◌<◌, ltb, eqb, pos}
use Rattle.std.specs.Prelude.{length, ◌<ℤ◌}
use Rattle.std.proofs.Common.{sym, ◌∙◌, ap, subst, true≢false, add-one, arith, ltb-true, ltb-false, lt-ltb, eqb-true}
use Rattle.std.proofs.lemmas.Bool.{false≢true, eqb-false}
use Rattle.std.specs.Int.Signed.{lt_z}
use Rattle.integer.specs.Order.{lt_z-true, lt-lt_z}
use Rattle.plane.specs.Point.{Point, corner, origin, ◌⊖◌}
use Rattle.plane.specs.Turn.{cross, turn, Left}
use Rattle.plane.specs.Shape.{next, precedes, IsShape}
use Rattle.plane.specs.Forms.{Precedes, Before, NonZero, InOrder, edges_to, edges, up}
use Rattle.plane.proofs.theory.lists.Next.{Following, onward, closing, following}
use Rattle.plane.proofs.theory.forms.Precedes.{precedes-irrefl}
use Rattle.plane.proofs.theory.forms.Vector.{cross-nonzero, turn-edges}
use Rattle.plane.proofs.theory.forms.HalfPlane.{Up, precedes→up, up→precedes, precedes→down, down→precedes, up-clash}
use Rattle.plane.proofs.theory.forms.Angle.{Earlier, apart, alike, before→earlier, before-cross}
use Rattle.plane.proofs.theory.forms.Standard.{sorted→shape}
use Rattle.plane.proofs.theory.sum.Positions.{edges_some, edge_at, in-order-at, shape-in-order, next-left}
use Rattle.ring.specs.Ring.{previous, turns_in}
use Rattle.ring.specs.theory.Steps.{previous-below, previous-after}
use Rattle.ring.specs.theory.Inward.{first-inside, apart-inside, both-inside, few-inside}

pub turns_same : (g h : ℕ → Point) (n i : ℕ) → g (previous n i) ≡ h (previous n i) → g i ≡ h i → g (next n i) ≡ h (next n i)
    → turns_in g n i ≡ turns_in h n i
unfolding turns_in
turns_same g h n i p q r = λ j. ltb 2 n && (not (lt_z (pos 0) (turn (p j) (q j) (r j))) ||
    (ltb 0 i && (precedes (q j) (p j) && precedes (q j) (r j))))

pub previous-suc : (n k : ℕ) → previous n (suc k) ≡ k
previous-suc n k = ap (previous n) (sym (add-one k)) ∙ previous-after n k

pub previous-next : (n i : ℕ) → i < n → next n (previous n i) ≡ i
previous-next n i h = go (eqb i 0) refl
  where
    at : (k : ℕ) → k < n → (suc k ≡ n → 0 ≡ i) → (suc k < n → suc k ≡ i) → next n k ≡ i
    at k l f g = elim (following n k l) [ onward m e ↦ e ∙ g m | closing m e ↦ e ∙ f m ]

    go : (b : Bool) → eqb i 0 ≡ b → next n (cond b (n - 1) (i - 1)) ≡ i
    go true e = let z = eqb-true i 0 e in at (n - 1) (omega arith) (λ m. omega arith) (λ m. absurd (omega arith))
    go false e = let z = eqb-false i 0 e in at (i - 1) (omega arith) (λ m. absurd (omega arith)) (λ m. omega arith)

-- ---- from a test that says no

-- it turns left; and past the first it does not precede both neighbours
quiet : (g : ℕ → Point) (n i : ℕ) → 2 < n → turns_in g n i ≡ false
    → Left (g (previous n i)) (g i) (g (next n i))
    × (0 < i → Precedes (g i) (g (previous n i)) → Precedes (g i) (g (next n i)) → ⊥)
unfolding turns_in
quiet g n i three h = go (ltb 2 n) (lt-ltb 2 n three) (lt_z (pos 0) (turn (g (previous n i)) (g i) (g (next n i)))) refl h
  where
    go : (s : Bool) → s ≡ true → (t : Bool) → lt_z (pos 0) (turn (g (previous n i)) (g i) (g (next n i))) ≡ t
        → (s && (not t || (ltb 0 i && (precedes (g i) (g (previous n i)) && precedes (g i) (g (next n i)))))) ≡ false
        → Left (g (previous n i)) (g i) (g (next n i))
        × (0 < i → Precedes (g i) (g (previous n i)) → Precedes (g i) (g (next n i)) → ⊥)
    go false e t q k = absurd (false≢true e)
    go true e false q k = absurd (true≢false k)
    go true e true q k = (
      lt_z-true {x = pos 0} {y = turn (g (previous n i)) (g i) (g (next n i))} q,
      λ l a b.
          true≢false (sym (rw (lt-ltb 0 i l, a.precedes-true, b.precedes-true)) ∙ k),
    )

-- ---- none turns in: a shape

-- what is before another vector is not zero
before-non-zero : {e f : Point} → Before e f → NonZero e
before-non-zero {e} {f} b = go (before→earlier b)
  where
    go : Earlier e f → NonZero e
    go (apart u d) = record { non_zero = λ z. precedes-irrefl {p = origin} (record { precedes-true = sym (ap up z) ∙ u }) }
    go (alike s c) = (cross-nonzero c).0

in_order : (e : Point) (E : List Point) → ((k : ℕ) → k < length E → Before (corner (e ∷ E) k) (corner (e ∷ E) (suc k)))
    → NonZero (corner (e ∷ E) (length E)) → InOrder (e ∷ E)
in_order e [] step last = (last, tt)
in_order e (f ∷ E) step last =
    let later = in_order f E (λ k h. step (suc k) (omega arith)) last in
    let first = step 0 (omega arith) in
    (before-non-zero first, (first, later.0, later.1))

module _ (ps : List Point) (three : 2 < length ps)
    (none : (i : ℕ) → i < length ps → turns_in (corner ps) (length ps) i ≡ false) where
  abbrev n : ℕ
  n = length ps

  -- the edge into corner k + 1, and the edge out of it
  into : (k : ℕ) → suc k < n → corner (edges ps) k ≡ corner ps (suc k) ⊖ corner ps k
  into k h = edge_at ps k (omega (arith, edges_some ps (omega arith))) ∙ ap (λ (i : ℕ). corner ps i ⊖ corner ps k)
      (on (following n k (omega arith)))
    where
      on : Following n k → next n k ≡ suc k
      on (onward l e) = e
      on (closing l e) = absurd (omega arith)

  left_at : (k : ℕ) → suc k < n → pos 0 <ℤ cross (corner (edges ps) k) (corner (edges ps) (suc k))
  left_at k h =
      let out = edge_at ps (suc k) (omega (arith, edges_some ps (omega arith))) in
      let back = previous-suc n k in
      rw (into k h, out, sym (turn-edges (corner ps k) (corner ps (suc k)) (corner ps (next n (suc k)))))
      (subst (λ (i : ℕ). Left (corner ps i) (corner ps (suc k)) (corner ps (next n (suc k)))) back
      (quiet (corner ps) n (suc k) three (none (suc k) h)).0)

  step-at : (k : ℕ) → suc k < n → Before (corner (edges ps) k) (corner (edges ps) (suc k))
  step-at k h = before-cross _ _ (left_at k h) (λ d u.
      let e = subst NonZero (into k h) (cross-nonzero (left_at k h)).0 in
      let down = down→precedes (corner ps k) (corner ps (suc k)) e (sym (ap up (into k h)) ∙ d) in
      let out = edge_at ps (suc k) (omega (arith, edges_some ps (omega arith))) in
      (quiet (corner ps) n (suc k) three (none (suc k) h)).1 (omega arith)
      (subst (λ (i : ℕ). Precedes (corner ps (suc k)) (corner ps i)) (sym (previous-suc n k)) down)
      (up→precedes (corner ps (suc k)) (corner ps (next n (suc k))) (subst Up out u)))

pub none-shape : (ps : List Point) → 2 < length ps → ((i : ℕ) → i < length ps → turns_in (corner ps) (length ps) i ≡ false) → IsShape ps
none-shape [] three none = absurd (omega arith)
none-shape (a ∷ []) three none = absurd (omega arith)
none-shape (a ∷ (b ∷ [])) three none = absurd (omega arith)
none-shape (a ∷ (b ∷ (c ∷ ps))) three none =
    let qs = a ∷ b ∷ c ∷ ps in
    let all = edges_some qs (omega arith) in
    sorted→shape qs (in_order (b ⊖ a) (edges_to a b (c ∷ ps)) (λ k h. step-at qs three none k (omega arith))
    (subst (λ (k : ℕ). NonZero (corner (edges qs) k)) (last all)
    (cross-nonzero (left_at qs three none (suc (length ps)) (omega arith))).1))
  where
    last : length (edges (a ∷ b ∷ c ∷ ps)) ≡ length (a ∷ b ∷ c ∷ ps) → suc (suc (length ps)) ≡ length (edges_to a b (c ∷ ps))
    last all = omega arith

-- ---- a shape: none turns in

module _ (ps : List Point) (s : IsShape ps) where
  turned_left : 2 < length ps → (i : ℕ) → i < length ps
      → lt_z (pos 0) (turn (corner ps (previous (length ps) i)) (corner ps i) (corner ps (next (length ps) i))) ≡ true
  turned_left three i h =
      let j = previous (length ps) i in
      lt-lt_z (subst (λ (k : ℕ). Left (corner ps j) (corner ps k) (corner ps (next (length ps) k))) (previous-next (length ps) i h)
      (next-left ps s three j (previous-below (length ps) i h)))

  -- the edge in goes down and the edge out up: not in order
  no_return : (k : ℕ) → suc k < length ps → Precedes (corner ps (suc k)) (corner ps k)
      → Precedes (corner ps (suc k)) (corner ps (next (length ps) (suc k))) → ⊥
  no_return k h p q =
      let all = edges_some ps (omega arith) in
      let ordered = in-order-at (edges ps) (shape-in-order ps s) k (suc k) (omega arith) (omega arith) in
      go (before→earlier ordered)
    where
      on : Following (length ps) k → next (length ps) k ≡ suc k
      on (onward l e) = e
      on (closing l e) = absurd (omega arith)

      edge_in : corner (edges ps) k ≡ corner ps (suc k) ⊖ corner ps k
      edge_in = edge_at ps k (omega (arith, edges_some ps (omega arith)))
          ∙ ap (λ (i : ℕ). corner ps i ⊖ corner ps k) (on (following (length ps) k (omega arith)))

      falls : up (corner (edges ps) k) ≡ false
      falls = ap up edge_in ∙ precedes→down p

      rises : Up (corner (edges ps) (suc k))
      rises = subst Up (sym (edge_at ps (suc k) (omega (arith, edges_some ps (omega arith))))) (precedes→up q)

      go : Earlier (corner (edges ps) k) (corner (edges ps) (suc k)) → ⊥
      go (apart u d) = true≢false (sym u ∙ falls)
      go (alike e c) = up-clash rises (sym e ∙ falls)

  pub shape-none : (i : ℕ) → i < length ps → turns_in (corner ps) (length ps) i ≡ false
  shape-none i h = go (ltb 2 (length ps)) refl i h
    where
      past : 2 < length ps → (k : ℕ) → suc k < length ps
          → (a : Bool) → precedes (corner ps (suc k)) (corner ps (previous (length ps) (suc k))) ≡ a
          → (b : Bool) → precedes (corner ps (suc k)) (corner ps (next (length ps) (suc k))) ≡ b
          → turns_in (corner ps) (length ps) (suc k) ≡ false
      past three k l false e b q = apart-inside (corner ps) (length ps) (suc k) three (turned_left three (suc k) l) (omega arith) e
      past three k l true e false q =
          both-inside (corner ps) (length ps) (suc k) three (turned_left three (suc k) l) (omega arith) e ∙ q
      past three k l true e true q = absurd (no_return k l
          (subst (λ (i : ℕ). Precedes (corner ps (suc k)) (corner ps i)) (previous-suc (length ps) k) (record { precedes-true = e }))
          (record { precedes-true = q }))

      go : (t : Bool) → ltb 2 (length ps) ≡ t → (i : ℕ) → i < length ps → turns_in (corner ps) (length ps) i ≡ false
      go false e i l = few-inside (corner ps) (length ps) i (ltb-false 2 (length ps) e)
      go true e zero l =
          let three = ltb-true 2 (length ps) e in
          first-inside (corner ps) (length ps) 0 three (turned_left three 0 l) (omega arith)
      go true e (suc k) l = past (ltb-true 2 (length ps) e) k l _ refl _ refl
