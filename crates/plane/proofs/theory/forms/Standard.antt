-- The three forms of a shape agree: document 01's left rule (`IsShape`), every three in order (`Ordered`), sorted edges (`Sorted`).
--     shape→sorted, sorted→ordered, ordered→shape; shape→ordered, sorted→shape in one step
--     all-at, pairs-at, triples-at    what holds of all members, pairs, triples of a list, at positions of the list
use Rattle.std.specs.Prelude.{◌≡◌, refl, Bool, true, false, cond, List, [], ◌∷◌, ℕ, zero, suc, ◌+◌, ◌<◌, ltb, eqb, pos, length}
use Rattle.std.proofs.Common.{sym, ◌∙◌, true≢false, add-one, arith, ltb-true, ltb-false, eqb-true}
use Rattle.std.proofs.lemmas.Bool.{eqb-false}
use Rattle.integer.specs.Linear.{linear, lia, ◌&◌}
use Rattle.plane.specs.Point.{Point, corner}
use Rattle.plane.specs.Turn.{turn, Left, turn-cycle}
use Rattle.plane.specs.Shape.{next, precedes, IsShape}
use Rattle.plane.specs.Forms.{All, Pairs, Triples, Precedes, Ordered, Sorted}
use Rattle.plane.proofs.theory.forms.Precedes.{Placed, ahead, same, behind, placed}
use Rattle.plane.proofs.theory.forms.Precedes.{precedes-irrefl, precedes-different, precedes-reversed, not-precedes}
use Rattle.plane.proofs.theory.forms.Fan.{Fan, Bends, Local, local→ordered}
use Rattle.plane.proofs.theory.forms.Vector.{turn-stay, turn-back}
use Rattle.plane.proofs.theory.forms.Round.{local→sorted, sorted→local}
use Rattle.plane.proofs.theory.lists.Next.{next-on}

-- ---- from lists to positions

pub all-at : (P : Point → Type 0) (ps : List Point) → All P ps → (i : ℕ) → i < length ps → P (corner ps i)
all-at P [] h i k = absurd (omega arith)
all-at P (p ∷ ps) h zero k = h.0
all-at P (p ∷ ps) h (suc i) k = all-at P ps h.1 i (omega arith)

pub pairs-at : (R : Point → Point → Type 0) (ps : List Point) → Pairs R ps → (i j : ℕ) → i < j → j < length ps
    → R (corner ps i) (corner ps j)
pairs-at R [] h i j k l = absurd (omega arith)
pairs-at R (p ∷ ps) h i zero k l = absurd (omega arith)
pairs-at R (p ∷ ps) h zero (suc j) k l = all-at (λ q. R p q) ps h.0 j (omega arith)
pairs-at R (p ∷ ps) h (suc i) (suc j) k l = pairs-at R ps h.1 i j (omega arith) (omega arith)

pub triples-at : (ps : List Point) → Triples ps → (i j k : ℕ) → i < j → j < k → k < length ps
    → Left (corner ps i) (corner ps j) (corner ps k)
triples-at [] h i j k a b c = absurd (omega arith)
triples-at (p ∷ ps) h i zero k a b c = absurd (omega arith)
triples-at (p ∷ ps) h i (suc j) zero a b c = absurd (omega arith)
triples-at (p ∷ ps) h zero (suc j) (suc k) a b c = pairs-at (λ q r. Left p q r) ps h.0 j k (omega arith) (omega arith)
triples-at (p ∷ ps) h (suc i) (suc j) (suc k) a b c = triples-at ps h.1 i j k (omega arith) (omega arith) (omega arith)

-- ---- from positions to lists

all_of : (P : Point → Type 0) (ps : List Point) → ((i : ℕ) → i < length ps → P (corner ps i)) → All P ps
all_of P [] g = tt
all_of P (p ∷ ps) g = (g 0 (omega arith), all_of P ps (λ i h. g (suc i) (omega arith)))

fan-of : (p q : Point) (ps : List Point)
    → ((i : ℕ) → suc i < length (q ∷ ps) → Left p (corner (q ∷ ps) i) (corner (q ∷ ps) (suc i))) → Fan p q ps
fan-of p q [] g = tt
fan-of p q (r ∷ ps) g = (g 0 (omega arith), fan-of p r ps (λ i h. g (suc i) (omega arith)))

bends-of : (a q : Point) (ps : List Point)
    → ((i : ℕ) → suc (suc i) < length (a ∷ q ∷ ps)
    → Left (corner (a ∷ q ∷ ps) i) (corner (a ∷ q ∷ ps) (suc i)) (corner (a ∷ q ∷ ps) (suc (suc i))))
    → Bends a q ps
bends-of a q [] g = tt
bends-of a q (r ∷ ps) g = (g 0 (omega arith), bends-of q r ps (λ i h. g (suc i) (omega arith)))

-- ---- the left rule, edge by edge

-- the edges up to the last corner
shape-left : (ps : List Point) → IsShape ps → (e c : ℕ) → suc e < length ps → c < length ps → (c ≡ e → ⊥) → (c ≡ suc e → ⊥)
    → Left (corner ps e) (corner ps (suc e)) (corner ps c)
shape-left ps s e c he hc a b =
    let at_next : next (length ps) e ≡ suc e = next-on (length ps) e (λ q. omega arith) ∙ add-one e in
    rw at_next at (s.left e c (omega arith) hc a (λ q. b (q ∙ at_next)))

-- ---- the left rule and the start give sorted edges

left-different : (p q r : Point) → Left p q r → (p ≡ q → ⊥) × (p ≡ r → ⊥)
left-different p q r h = (first, last)
  where
    first : p ≡ q → ⊥
    first e =
        let flat : turn p q r ≡ pos 0 = rw e (turn-stay q r) in
        lia (turn p q r ∷ []) (h & flat) (search linear depth 40) (omega arith)

    last : p ≡ r → ⊥
    last e =
        let flat : turn p q r ≡ pos 0 = rw e (turn-back r q) in
        lia (turn p q r ∷ []) (h & flat) (search linear depth 40) (omega arith)

least-precedes : (p q : Point) → precedes q p ≡ false → (p ≡ q → ⊥) → Precedes p q
least-precedes p q n d = go (placed p q)
  where
    go : Placed p q → Precedes p q
    go (ahead u) = u
    go (same e) = absurd (d e)
    go (behind u) = absurd (true≢false (sym u.precedes-true ∙ n))

least-all : (p q : Point) (ps : List Point) → (p ≡ q → ⊥) → All (λ r. precedes r p ≡ false) (q ∷ ps) → Fan p q ps
    → All (λ r. Precedes p r) (q ∷ ps)
least-all p q [] d n f = (least-precedes p q n.0 d, tt)
least-all p q (r ∷ ps) d n f = (least-precedes p q n.0 d, least-all p r ps (left-different p q r f.0).1 n.1 f.1)

first-different : (p q : Point) (ps : List Point) → IsShape (p ∷ q ∷ ps) → Fan p q ps → p ≡ q → ⊥
first-different p q [] s f = s.different refl
first-different p q (r ∷ ps) s f = (left-different p q r f.0).0

shape→local : (p q : Point) (ps : List Point) → IsShape (p ∷ q ∷ ps) → Local p q ps
shape→local p q ps s = record { least = least-all p q ps (first-different p q ps s fan) later fan; fan = fan; bends = bends }
  where
    left : (e c : ℕ) → suc e < length (p ∷ q ∷ ps) → c < length (p ∷ q ∷ ps) → (c ≡ e → ⊥) → (c ≡ suc e → ⊥)
        → Left (corner (p ∷ q ∷ ps) e) (corner (p ∷ q ∷ ps) (suc e)) (corner (p ∷ q ∷ ps) c)
    left = shape-left (p ∷ q ∷ ps) s

    fan : Fan p q ps
    fan = fan-of p q ps (λ i h. rw (turn-cycle p (corner (q ∷ ps) i) (corner (q ∷ ps) (suc i)))
        (left (suc i) 0 (omega arith) (omega arith) (λ e. omega arith) (λ e. omega arith)))

    bends : Bends p q ps
    bends = bends-of p q ps (λ i h. left i (suc (suc i)) (omega arith) (omega arith) (λ e. omega arith) (λ e. omega arith))

    later : All (λ r. precedes r p ≡ false) (q ∷ ps)
    later = all_of (λ r. precedes r p ≡ false) (q ∷ ps) (λ i h. s.start (suc i) (omega arith))

pub shape→sorted : (ps : List Point) → IsShape ps → Sorted ps
shape→sorted [] s = absurd (omega (arith, s.some))
shape→sorted (p ∷ []) s = tt
shape→sorted (p ∷ (q ∷ ps)) s = local→sorted p q ps (shape→local p q ps s)

-- ---- sorted edges give every three in order

pub sorted→ordered : (ps : List Point) → Sorted ps → Ordered ps
sorted→ordered [] s = s
sorted→ordered (p ∷ []) s = (tt, (tt, tt))
sorted→ordered (p ∷ (q ∷ ps)) s = local→ordered p q ps (sorted→local p q ps s)

pub shape→ordered : (ps : List Point) → IsShape ps → Ordered ps
shape→ordered ps s = sorted→ordered ps (shape→sorted ps s)

-- ---- every three in order give the left rule and the start: a turn may be read from any of its corners

module _ (ps : List Point) (t : Triples ps) where
  -- an edge up to the last corner: c is before or after it
  left-inner : (e c : ℕ) → suc e < length ps → c < length ps → (c ≡ e → ⊥) → (c ≡ suc e → ⊥)
      → Left (corner ps e) (corner ps (suc e)) (corner ps c)
  left-inner e c he hc a b = go (ltb c e) refl
    where
      go : (s : Bool) → ltb c e ≡ s → Left (corner ps e) (corner ps (suc e)) (corner ps c)
      go true h = rw (turn-cycle (corner ps c) (corner ps e) (corner ps (suc e)))
          at (triples-at ps t c e (suc e) (ltb-true c e h) (omega arith) he)
      go false h = triples-at ps t e (suc e) c (omega arith) (omega (arith, ltb-false c e h)) hc

  -- the edge from the last corner back to the first
  left-last : (e c : ℕ) → suc e ≡ length ps → c < length ps → (c ≡ e → ⊥) → (c ≡ 0 → ⊥)
      → Left (corner ps e) (corner ps 0) (corner ps c)
  left-last e c he hc a b = rw (turn-cycle (corner ps e) (corner ps 0) (corner ps c))
      (triples-at ps t 0 c e (omega arith) (omega arith) (omega arith))

  left-round : (e c : ℕ) → e < length ps → c < length ps → (c ≡ e → ⊥) → (c ≡ next (length ps) e → ⊥)
      → Left (corner ps e) (corner ps (next (length ps) e)) (corner ps c)
  left-round e c he hc a b = go (eqb (e + 1) (length ps)) refl b
    where
      go : (s : Bool) → eqb (e + 1) (length ps) ≡ s → (c ≡ cond s 0 (e + 1) → ⊥)
          → Left (corner ps e) (corner ps (cond s 0 (e + 1))) (corner ps c)
      go true h b = left-last e c (omega (arith, eqb-true (e + 1) (length ps) h)) hc a b
      go false h b = rw add-one (left-inner e c (omega (arith, eqb-false (e + 1) (length ps) h)) hc a (rw add-one at b))

pub ordered→shape : (ps : List Point) → Ordered ps → IsShape ps
ordered→shape [] o = absurd o
ordered→shape (p ∷ ps) o = record { some = omega arith; different = different; left = left-round (p ∷ ps) o.1; start = start }
  where
    later : (i : ℕ) → i < length ps → Precedes p (corner ps i)
    later = all-at (λ q. Precedes p q) ps o.0

    different : length (p ∷ ps) ≡ 2 → p ≡ corner ps 0 → ⊥
    different h e = precedes-different (later 0 (omega arith)) e

    start : (c : ℕ) → c < length (p ∷ ps) → precedes (corner (p ∷ ps) c) p ≡ false
    start zero h = not-precedes p p precedes-irrefl
    start (suc c) h = precedes-reversed (later c (omega arith))

pub sorted→shape : (ps : List Point) → Sorted ps → IsShape ps
sorted→shape ps s = ordered→shape ps (sorted→ordered ps s)
