-- The nearest candidate is the least distance between points of the two shapes.
--     nearest-least        no two points are nearer
--     nearest-is-least     no candidate is nearer
--     nearest-before-ties  candidates as near come after it
--     nearest-attained     two points are as near (`Attained`)
--     nearest-sym          exchanging the shapes gives the same distance
--     common-not-apart     shapes with a point in common are not apart
use Rattle.std.specs.Prelude.{◌≡◌, refl, Bool, true, false, List, [], ◌∷◌, ℕ, ◌<◌, ℤ, pos, neg_ℤ, ◌+ℤ◌, ◌-ℤ◌, ◌*ℤ◌, length, ◌≤ℤ◌, ◌<ℤ◌}
use Rattle.std.proofs.Common.{◌∙◌, ap, arith}
use Rattle.integer.specs.Linear.{linear, lia, ◌&◌}
use Rattle.integer.specs.Order.{◌<×<◌, ◌<×≤◌, ◌≡×◌, contra≤, le_antisym}
use Rattle.plane.specs.Point.{Point, corner, opposite, ◌∈◌}
use Rattle.plane.specs.Shape.{IsShape}
use Rattle.plane.specs.Direction.{value, support}
use Rattle.plane.specs.Separation.{apart}
use Rattle.plane.specs.Mean.{times, weight, heap, gap, share, AtMost, CommonPoint}
use Rattle.plane.specs.Clearance.{Candidate, top, bottom, nearest}
use Rattle.plane.proofs.theory.lists.Members.{member-position}
use Rattle.plane.proofs.theory.forms.Vector.{value-origin, value-turned}
use Rattle.plane.proofs.theory.support.Support.{value-le-support, support-attained}
use Rattle.separation.specs.theory.Apart.{apart→direction, apart-sym, Separated}
use Rattle.clearance.specs.Order.{AtOrAfter, Listed}
use Rattle.clearance.specs.Facing.{Facing}
use Rattle.clearance.specs.theory.First.{Held, facing-held, held-square, nearest-at, nearest-listed, candidate-whole}
use Rattle.clearance.specs.theory.First.{nearest-no-further, tie-after}
use Rattle.clearance.specs.theory.Stop.{facing-exists}
use Rattle.clearance.specs.theory.Means.{held-means, gap-value}
use Rattle.clearance.specs.theory.Attained.{Attained, attained, opposite-square}

-- ---- no two points are nearer

module _ (A B : List Point) (s : IsShape A) (t : IsShape B) (h : apart A B ≡ true) where
  facing : (n : Point) × Facing A B n
  facing = facing-exists A B s t h

  pub nearest-is-listed : Listed A B (nearest A B)
  nearest-is-listed = let r = facing-held facing.1 in nearest-listed A B facing.0 r.0 r.1 s.some t.some

  pub nearest-is-whole : pos 0 <ℤ bottom A B (nearest A B)
  nearest-is-whole = candidate-whole A B (nearest A B) nearest-is-listed

  pub nearest-is-least : (c : Candidate) → Listed A B c
      → (top A B (nearest A B) *ℤ bottom A B c) ≤ℤ (top A B c *ℤ bottom A B (nearest A B))
  nearest-is-least = nearest-no-further A B s.some t.some facing.0 facing.1

  pub nearest-before-ties : (c : Candidate) → Listed A B c → top A B c *ℤ bottom A B (nearest A B) ≡ top A B (nearest A B) *ℤ bottom A B c
      → AtOrAfter (nearest A B) c
  nearest-before-ties = tie-after A B s.some t.some facing.0 facing.1

  pub nearest-least : (v w : ℕ → ℕ) → AtMost (top A B (nearest A B)) (bottom A B (nearest A B)) v A w B
  nearest-least v w = cancel (value n n) (r.0 *ℤ r.0) (top A B (nearest A B)) (bottom A B (nearest A B))
      (share v A w B *ℤ share v A w B) (value (gap v A w B) (gap v A w B)) (held-square A B n r.0 held)
      nearest-is-whole (nearest-at A B s.some t.some n facing.1).at
      (held-means A B n (value n (corner B held.high)) r.0 above below v w held.some)
    where
      n : Point
      n = facing.0

      r : (z : ℤ) × Held A B n z
      r = facing-held facing.1

      held : Held A B n r.0
      held = r.1

      above : (p : Point) → p ∈ A → (value n (corner B held.high) +ℤ r.0) ≤ℤ value n p
      above p m = let (i, l, e) = member-position m in rw e at (held.held i held.high l held.high-in)

      below : (q : Point) → q ∈ B → value n q ≤ℤ value n (corner B held.high)
      below q m =
          let (j, l, e) = member-position m in
          let k : (value n q +ℤ r.0) ≤ℤ value n (corner A held.low) = rw e at (held.held held.low j held.low-in l) in
          lia (value n q ∷ r.0 ∷ value n (corner A held.low) ∷ value n (corner B held.high) ∷ []) (k & held.exact)
          (search linear depth 40) (omega arith)

      -- t/c is at s/nn
      cancel : (nn s t c h g : ℤ) → pos 0 <ℤ nn → pos 0 <ℤ c → t *ℤ nn ≡ s *ℤ c → (s *ℤ h) ≤ℤ (nn *ℤ g) → (t *ℤ h) ≤ℤ (c *ℤ g)
      cancel nn s t c h g p q e f = contra≤ (λ k. lia (nn ∷ s ∷ t ∷ c ∷ h ∷ g ∷ []) (p <×< k & e ≡× h & q <×≤ f)
          (search linear depth 40) (omega arith))

-- ---- two points are as near

pub nearest-attained : (A B : List Point) → IsShape A → IsShape B → apart A B ≡ true → Attained A B (nearest A B)
nearest-attained A B s t h = attained A B (nearest A B) (nearest-is-listed A B s t h)

-- ---- either shape may be the first

gap-turned : (v : ℕ → ℕ) (A : List Point) (w : ℕ → ℕ) (B : List Point)
    → value (gap w B v A) (gap w B v A) ≡ value (gap v A w B) (gap v A w B)
unfolding gap
gap-turned v A w B = opposite-square (times (weight v A) (heap w B)) (times (weight w B) (heap v A))

-- two points of B and A that attain the one are no nearer than the other
no-nearer : (A B : List Point) → IsShape A → IsShape B → apart A B ≡ true → (c : Candidate) → pos 0 <ℤ bottom B A c → Attained B A c
    → (top A B (nearest A B) *ℤ bottom B A c) ≤ℤ (top B A c *ℤ bottom A B (nearest A B))
no-nearer A B s t h c whole r = cancel (top A B (nearest A B)) (bottom A B (nearest A B)) (top B A c) (bottom B A c)
    (weight r.one B) (weight r.other A) (value (gap r.one B r.other A) (gap r.one B r.other A))
    r.one-point r.other-point whole (rw (← gap-turned r.other A r.one B) at (nearest-least A B s t h r.other r.one))
    r.exact
  where
    cancel : (a b c d v w g : ℤ) → pos 0 <ℤ v → pos 0 <ℤ w → pos 0 <ℤ d → (a *ℤ (w *ℤ v *ℤ (w *ℤ v))) ≤ℤ (b *ℤ g)
        → c *ℤ (v *ℤ w *ℤ (v *ℤ w)) ≡ d *ℤ g
        → (a *ℤ d) ≤ℤ (c *ℤ b)
    cancel a b c d v w g p q r f e =
        let one : pos 0 <ℤ (v *ℤ w) = lia (v ∷ w ∷ []) (p <×< q) (search linear depth 40) (omega arith) in
        let all : pos 0 <ℤ (v *ℤ w *ℤ (v *ℤ w)) = lia (v ∷ w ∷ []) (one <×< one) (search linear depth 40) (omega arith) in
        contra≤ (λ k. lia (a ∷ b ∷ c ∷ d ∷ v ∷ w ∷ g ∷ []) (all <×< k & r <×≤ f & e ≡× b) (search linear depth 40) (omega arith))

pub nearest-sym : (A B : List Point) → IsShape A → IsShape B → apart A B ≡ true
    → top A B (nearest A B) *ℤ bottom B A (nearest B A) ≡ top B A (nearest B A) *ℤ bottom A B (nearest A B)
nearest-sym A B s t h =
    let k = apart-sym B A t.some s.some ∙ h in
    le_antisym (no-nearer A B s t h (nearest B A) (nearest-is-whole B A t s k) (nearest-attained B A t s k))
    (no-nearer B A t s k (nearest A B) (nearest-is-whole A B s t h) (nearest-attained A B s t h))

-- ---- shapes with a point in common

pub common-not-apart : (A B : List Point) → 0 < length A → 0 < length B → CommonPoint A B → apart A B ≡ false
common-not-apart A B a b m = go (apart A B) refl
  where
    go : (t : Bool) → apart A B ≡ t → t ≡ false
    go false h = refl
    go true h = absurd (lia (value n (gap m.one A m.other B) ∷ weight m.one A ∷ weight m.other B ∷ [])
        (level & m.one-point <×< m.other-point & gap-value A B n (neg_ℤ (support d A) -ℤ pos 1) (pos 1) above below m.one m.other)
        (search linear depth 40) (omega arith))
      where
        r : Separated A B
        r = apart→direction A B a b h

        d : Point
        d = r.direction

        n : Point
        n = opposite d

        above : (p : Point) → p ∈ A → (neg_ℤ (support d A) -ℤ pos 1 +ℤ pos 1) ≤ℤ value n p
        above p k = lia (support d A ∷ value d p ∷ value n p ∷ []) (value-le-support d k & value-turned d p) (search linear depth 40)
            (omega arith)

        below : (q : Point) → q ∈ B → value n q ≤ℤ (neg_ℤ (support d A) -ℤ pos 1)
        below q k =
            let top = support-attained d A a in
            lia (support d A ∷ value d top.at ∷ value d q ∷ value n q ∷ [])
            (r.below top.at q top.at_in k & top.at_value & value-turned d q) (search linear depth 40) (omega arith)

        level : value n (gap m.one A m.other B) ≡ pos 0
        level = ap (value n) m.same ∙ value-origin n
