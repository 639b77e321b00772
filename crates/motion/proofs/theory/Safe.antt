-- The safe millimetres of the way.
--     safe-bounded       they are the length of the way to the contact, rounded down
--     safe-before        a fraction to which the way is shorter is before the contact
--     safe-clear         so on less than that nothing is met
--     larger-safe        a larger shape leaves no more
use Rattle.std.specs.Prelude.{◌≡◌, refl, Bool, true, false, List, [], ◌∷◌, ℕ, ◌*◌, ◌≤◌, ℤ, pos, nat_abs, ◌*ℤ◌, ◌≤ℤ◌, ◌<ℤ◌}
use Rattle.std.proofs.Common.{subst, mul-pos, arith, le→leb, lt→ltb, leb→le}
use Rattle.integer.specs.Linear.{linear, lia, ◌&◌}
use Rattle.integer.specs.Order.{◌<×<◌, ◌≤×≤◌, weaken}
use Rattle.integer.specs.Bound.{positive-size, size_is}
use Rattle.plane.specs.Point.{Point}
use Rattle.plane.specs.Shape.{IsShape}
use Rattle.plane.specs.Measure.{squared, root_below}
use Rattle.plane.specs.Separation.{inside, apart}
use Rattle.plane.specs.Distance.{Fraction}
use Rattle.plane.proofs.theory.forms.Squared.{squared-nonneg}
use Rattle.measure.specs.theory.Rounded.{rounded-low, rounded-high}
use Rattle.clearance.specs.theory.Rounding.{Bounded}
use Rattle.growth.proofs.theory.Replies.{rounded-le}
use Rattle.motion.specs.Contact.{OnWay, NoLater, meets, contact, safe}
use Rattle.motion.proofs.theory.Meeting.{first-on-way, none-earlier}
use Rattle.motion.proofs.theory.Larger.{larger-first}

-- the root of n·n·l/(d·d)
module _ (n d l : ℤ) (p : pos 0 ≤ℤ n) (q : pos 0 <ℤ d) (r : pos 0 ≤ℤ l) where
  abbrev root : ℕ
  root = root_below (nat_abs n * nat_abs n * nat_abs l) (nat_abs d * nat_abs d)

  of-sizes : Bounded (pos (nat_abs n) *ℤ pos (nat_abs n) *ℤ pos (nat_abs l)) (pos (nat_abs d) *ℤ pos (nat_abs d)) root
  of-sizes =
      let some = mul-pos (positive-size q) (positive-size q) in
      record {
        low = record { le = le→leb _ _ (rounded-low (nat_abs n * nat_abs n * nat_abs l) (nat_abs d * nat_abs d) some) };
        high = record { lt = lt→ltb _ _ (rounded-high (nat_abs n * nat_abs n * nat_abs l) (nat_abs d * nat_abs d) some) };
      }

  root-bounded : Bounded (n *ℤ n *ℤ l) (d *ℤ d) root
  root-bounded = subst (λ z. Bounded (z *ℤ z *ℤ l) (d *ℤ d) root) (size_is p)
      (subst (λ z. Bounded (pos (nat_abs n) *ℤ pos (nat_abs n) *ℤ z) (d *ℤ d) root) (size_is r)
      (subst (λ z. Bounded (pos (nat_abs n) *ℤ pos (nat_abs n) *ℤ pos (nat_abs l)) (z *ℤ z) root) (size_is (weaken q)) of-sizes))

-- a fraction n/d that is at most m/e: so are their squares
squares-le : (n d m e : ℤ) → pos 0 ≤ℤ n → pos 0 <ℤ d → pos 0 ≤ℤ m → pos 0 <ℤ e → (n *ℤ e) ≤ℤ (m *ℤ d)
    → (n *ℤ n *ℤ (e *ℤ e)) ≤ℤ (m *ℤ m *ℤ (d *ℤ d))
squares-le n d m e p q r s h =
    let left : pos 0 ≤ℤ (n *ℤ e) = lia (n ∷ e ∷ []) (p ≤×≤ weaken s) (search linear depth 40) (omega arith) in
    let right : pos 0 ≤ℤ (m *ℤ d) = lia (m ∷ d ∷ []) (r ≤×≤ weaken q) (search linear depth 40) (omega arith) in
    lia (n ∷ d ∷ m ∷ e ∷ []) (left ≤×≤ h & right ≤×≤ h) (search linear depth 40) (omega arith)

square_above : (d : ℤ) → pos 0 <ℤ d → pos 0 <ℤ (d *ℤ d)
square_above d h = lia (d ∷ []) (h <×< h) (search linear depth 40) (omega arith)

module _ (t u : Point) (G : List Point) where
  abbrev n : ℤ
  n = (contact t u G).numerator

  abbrev d : ℤ
  d = (contact t u G).denominator

  pub safe-bounded : Bounded (n *ℤ n *ℤ squared t u) (d *ℤ d) (safe t u G)
  unfolding safe
  safe-bounded = root-bounded n d (squared t u) (first-on-way t u G).begun (first-on-way t u G).whole (squared-nonneg t u)

  -- a fraction that is no earlier than the contact: the way to it is no shorter
  pub safe-before : (f : Fraction) → OnWay f
      → (f.numerator *ℤ f.numerator *ℤ squared t u) <ℤ (pos (safe t u G) *ℤ pos (safe t u G) *ℤ (f.denominator *ℤ f.denominator))
      → NoLater (contact t u G) f → ⊥
  safe-before f on short h = clash (n *ℤ n) (f.denominator *ℤ f.denominator) (f.numerator *ℤ f.numerator) (d *ℤ d) (squared t u)
      (pos (safe t u G) *ℤ pos (safe t u G))
      (squares-le n d f.numerator f.denominator (first-on-way t u G).begun (first-on-way t u G).whole on.begun on.whole h)
      safe-bounded.low short (squared-nonneg t u) (square_above d (first-on-way t u G).whole)
      (square_above f.denominator on.whole)
    where
      clash : (P Q R S L w : ℤ) → (P *ℤ Q) ≤ℤ (R *ℤ S) → (w *ℤ S) ≤ℤ (P *ℤ L) → (R *ℤ L) <ℤ (w *ℤ Q) → pos 0 ≤ℤ L → pos 0 <ℤ S
          → pos 0 <ℤ Q → ⊥
      clash P Q R S L w h low less l a b = lia (P ∷ Q ∷ R ∷ S ∷ L ∷ w ∷ []) (h ≤×≤ l & low ≤×≤ weaken b & less <×< a)
          (search linear depth 40) (omega arith)

  -- so a fraction that meets is not before it
  pub safe-clear : IsShape G → (f : Fraction) → OnWay f
      → (f.numerator *ℤ f.numerator *ℤ squared t u) <ℤ (pos (safe t u G) *ℤ pos (safe t u G) *ℤ (f.denominator *ℤ f.denominator))
      → meets t u G f ≡ false
  safe-clear s f on short = go (meets t u G f) refl
    where
      go : (b : Bool) → meets t u G f ≡ b → b ≡ false
      go false e = refl
      go true e = absurd (safe-before f on short (none-earlier t u G s f on e))

module _ (t u : Point) (G H : List Point) (s : IsShape G) (r : IsShape H) (within : inside G H ≡ true) where
  pub larger-safe : apart (t ∷ u ∷ []) G ≡ false → safe t u H ≤ safe t u G
  larger-safe near = leb→le _ _ (rounded-le (square_above _ less.whole) (square_above _ more.whole)
      (longer (contact t u H) (contact t u G) less more (larger-first t u G H within s r near))
      (safe-bounded t u H) (safe-bounded t u G)).le
    where
      less : OnWay (contact t u H)
      less = first-on-way t u H

      more : OnWay (contact t u G)
      more = first-on-way t u G

      longer : (f g : Fraction) → OnWay f → OnWay g → NoLater f g
          → (f.numerator *ℤ f.numerator *ℤ squared t u *ℤ (g.denominator *ℤ g.denominator))
          ≤ℤ (g.numerator *ℤ g.numerator *ℤ squared t u *ℤ (f.denominator *ℤ f.denominator))
      longer f g p q h = lia (f.numerator ∷ f.denominator ∷ g.numerator ∷ g.denominator ∷ squared t u ∷ [])
          (squares-le f.numerator f.denominator g.numerator g.denominator p.begun p.whole q.begun q.whole h
          ≤×≤ squared-nonneg t u) (search linear depth 40) (omega arith)
