-- Corners round a first one that precedes them all: neighbouring turns give every turn.
--     Fan p q ps        p and any two neighbours of q ∷ ps turn left
--     Bends a q ps      any three neighbours of a ∷ q ∷ ps turn left
--     Local p q ps      p precedes all of q ∷ ps, and both hold
--     local→ordered     then any three in list order turn left
-- The fan alone does not say so: the list may go round several times.
use Rattle.std.specs.Prelude.{◌≡◌, List, [], ◌∷◌, ℤ, pos, ◌+ℤ◌, ◌*ℤ◌, ◌<ℤ◌}
use Rattle.std.proofs.Common.{arith}
use Rattle.integer.specs.Ring.{ring, reify}
use Rattle.integer.specs.Linear.{linear, lia, ◌&◌}
use Rattle.integer.specs.Order.{◌<×<◌, ◌<×≤◌, contra<}
use Rattle.plane.specs.Point.{Point}
use Rattle.plane.specs.Turn.{cross, turn, Left}
use Rattle.plane.specs.Forms.{All, Pairs, Triples, Ordered, Precedes}
use Rattle.plane.proofs.theory.forms.HalfPlane.{precedes→up, cross-trans}

-- the turns about p, from q on
abbrev pub Fan : Point → Point → List Point → Type 0
Fan p q [] = Unit {0}
Fan p q (r ∷ ps) = Left p q r × Fan p r ps

-- the turns at each corner from q on, where a is before q
abbrev pub Bends : Point → Point → List Point → Type 0
Bends a q [] = Unit {0}
Bends a q (r ∷ ps) = Left a q r × Bends q r ps

-- the list p ∷ q ∷ ps, by its neighbours
pub record Local (p q : Point) (ps : List Point) : Type 0 where
  pub least : All (λ r. Precedes p r) (q ∷ ps)
  pub fan : Fan p q ps
  pub bends : Bends p q ps

-- ---- about the first corner: all the others lie in one half plane, where left turns go on

fan-trans : {p a b c : Point} → Precedes p a → Precedes p b → Precedes p c → Left p a b → Left p b c → Left p a c
unfolding turn cross
fan-trans u v w h k = cross-trans (precedes→up u) (precedes→up v) (precedes→up w) h k

fan-all : (p a b : Point) (ps : List Point) → Precedes p a → Precedes p b → All (λ r. Precedes p r) ps → Left p a b → Fan p b ps
    → All (λ r. Left p a r) ps
fan-all p a b [] ua ub us h f = tt
fan-all p a b (c ∷ ps) ua ub us h f =
    let k : Left p a c = fan-trans ua ub us.0 h f.0 in
    (k, fan-all p a c ps ua us.0 us.1 k f.1)

fan-pairs : (p a : Point) (ps : List Point) → All (λ r. Precedes p r) (a ∷ ps) → Fan p a ps → Pairs (λ q r. Left p q r) (a ∷ ps)
fan-pairs p a [] us f = (tt, tt)
fan-pairs p a (b ∷ ps) us f =
    ((f.0, fan-all p a b ps us.0 us.1.0 us.1.1 f.0 f.1), fan-pairs p b ps us.1 f.1)

-- ---- four corners and the first

positive : {a b c x y z : ℤ} → b *ℤ z ≡ a *ℤ y +ℤ c *ℤ x → pos 0 <ℤ a → pos 0 <ℤ b → pos 0 <ℤ c → pos 0 <ℤ x → pos 0 <ℤ y → pos 0 <ℤ z
positive {a} {b} {c} {x} {y} {z} e ha hb hc hx hy = contra< (λ n. lia (a ∷ b ∷ c ∷ x ∷ y ∷ z ∷ [])
    (e & ha <×< hy & hc <×< hx & hb <×≤ n) (search linear depth 40) (omega arith))

module _ (p q r s t : Point) where
  outer-identity : turn p r s *ℤ turn q r t ≡ turn p q r *ℤ turn r s t +ℤ turn p r t *ℤ turn q r s
  unfolding turn
  outer-identity = ring (p.x ∷ p.y ∷ q.x ∷ q.y ∷ r.x ∷ r.y ∷ s.x ∷ s.y ∷ t.x ∷ t.y ∷ []) (search reify depth 40) tt

  inner-identity : turn p r s *ℤ turn q s t ≡ turn p q s *ℤ turn r s t +ℤ turn p s t *ℤ turn q r s
  unfolding turn
  inner-identity = ring (p.x ∷ p.y ∷ q.x ∷ q.y ∷ r.x ∷ r.y ∷ s.x ∷ s.y ∷ t.x ∷ t.y ∷ []) (search reify depth 40) tt

  -- of q, r, s, t: two neighbouring turns give the ones that leave out s, and r
  left-outer : Left p q r → Left p r s → Left p r t → Left q r s → Left r s t → Left q r t
  left-outer a b c h k = positive outer-identity a b c h k

  left-inner : Left p q s → Left p r s → Left p s t → Left q r s → Left r s t → Left q s t
  left-inner a b c h k = positive inner-identity a b c h k

-- ---- every three

outer-all : (p q r s : Point) (ts : List Point) → Left p q r → Left p r s → Left q r s
    → All (λ t. Left p r t) ts → All (λ t. Left r s t) ts → All (λ t. Left q r t) ts
outer-all p q r s [] a b h c k = tt
outer-all p q r s (t ∷ ts) a b h c k = (left-outer p q r s t a b c.0 h k.0, outer-all p q r s ts a b h c.1 k.1)

inner-all : (p q r s : Point) (ts : List Point) → Left p q s → Left p r s → Left q r s
    → All (λ t. Left p s t) ts → All (λ t. Left r s t) ts → All (λ t. Left q s t) ts
inner-all p q r s [] a b h c k = tt
inner-all p q r s (t ∷ ts) a b h c k = (left-inner p q r s t a b c.0 h k.0, inner-all p q r s ts a b h c.1 k.1)

inner-pairs : (p q r : Point) (ts : List Point) → All (λ t. Left p q t) ts → All (λ t. Left p r t) ts → All (λ t. Left q r t) ts
    → Pairs (λ s t. Left p s t) ts → Pairs (λ s t. Left r s t) ts → Pairs (λ s t. Left q s t) ts
inner-pairs p q r [] a b h c k = tt
inner-pairs p q r (s ∷ ts) a b h c k =
    (inner-all p q r s ts a.0 b.0 h.0 c.0 k.0, inner-pairs p q r ts a.1 b.1 h.1 c.1 k.1)

-- from the last corner back: the turns at r are known, and q is put in front of it
triples : (p q : Point) (ps : List Point) → Pairs (λ a b. Left p a b) (q ∷ ps) → Bends p q ps → Triples (q ∷ ps)
triples p q [] f c = (tt, tt)
triples p q (r ∷ []) f c = ((tt, tt), (tt, tt))
triples p q (r ∷ (s ∷ ts)) f c =
    let later = triples p r (s ∷ ts) f.1 (f.1.0.0, c.1.1) in
    let at-r : All (λ t. Left q r t) (s ∷ ts) =
    (c.1.0, outer-all p q r s ts f.0.0 f.1.0.0 c.1.0 f.1.0.1 later.0.0) in
    ((at-r, inner-pairs p q r (s ∷ ts) f.0.1 f.1.0 at-r f.1.1 later.0), later)

pub local→ordered : (p q : Point) (ps : List Point) → Local p q ps → Ordered (p ∷ q ∷ ps)
local→ordered p q ps l =
    let f = fan-pairs p q ps l.least l.fan in
    (l.least, (f, triples p q ps f l.bends))
