-- Corners and edges by position, on the way round a list: after the last corner comes the first again.
--     round n i, corner_round ps i     position i of n on the way round, and the corner there
--     edges_some, edges_few           as many edges as corners from two corners on, none below; `edges-at-most`: never more;
--                                     `edge-corners`: as many, where there is an edge
--     edge_at                         edge i leads from corner i to the next: it is `edge_of`
--     round-step                      the corner after edge i
--     round-total                     the corner at i is the first plus the edges before it
--     round-within, round-inner       its position is one of the list; short of the end it is i itself
--     in-order-at, in-order-non-zero  edges in order, at their positions; `shape-in-order`: those of a shape are
--     corner-injective                a shape's corners are pairwise different
--     edge-turn                       no corner is right of an edge; `next-left`: of three or more the one after it is left of it
use Rattle.std.specs.Prelude.{◌≡◌, refl, Bool, true, false, cond, List, [], ◌∷◌, ℕ, zero, suc, ◌+◌, ◌≤◌, ◌<◌, eqb, ltb, pos, length, take}
use Rattle.std.specs.Prelude.{◌≤ℤ◌}
use Rattle.std.proofs.Common.{sym, ◌∙◌, ap, not-suc-le-zero, add-one, arith, eqb-true, ne_eqb, ltb-true, ltb-false}
use Rattle.std.proofs.Math.Decide.{ℕ_discrete}
use Rattle.std.proofs.lemmas.Bool.{eqb-false}
use Rattle.integer.specs.Linear.{lia, linear, ◌&◌}
use Rattle.integer.specs.Order.{le_of_eq, weaken}
use Rattle.plane.specs.Point.{Point, corner, origin, ◌⊕◌, ◌⊖◌}
use Rattle.plane.specs.Turn.{turn, Left}
use Rattle.plane.specs.Shape.{next, IsShape}
use Rattle.plane.proofs.theory.sum.EdgeCount.{from_all}
use Rattle.plane.specs.Forms.{Pairs, Ordered, Precedes, Before, NonZero, InOrder, edges_to, edges}
use Rattle.plane.proofs.theory.forms.Precedes.{precedes-different}
use Rattle.plane.proofs.theory.forms.Vector.{total, turn-back, turn_level, step-to, ⊕-assoc, ⊕-comm, ⊕-zero}
use Rattle.plane.proofs.theory.forms.Standard.{all-at, pairs-at, shape→ordered, shape→sorted}
use Rattle.plane.proofs.theory.sum.Path.{next-in-order}
use Rattle.plane.specs.Cycle.{round, corner_round}
use Rattle.plane.proofs.theory.lists.Next.{next-below, two_steps}

-- from corner e to the next, the last to the first
abbrev pub edge_of : List Point → ℕ → Point
edge_of ps e = corner ps (next (length ps) e) ⊖ corner ps e

pub round-inner : (n i : ℕ) → i < n → round n i ≡ i
round-inner n i h = let other : eqb i n ≡ false = ne_eqb i n (λ q. omega arith) in rw other

pub round-within : (n i : ℕ) → 0 < n → i ≤ n → round n i < n
round-within n i some h = go (eqb i n) refl
  where
    go : (b : Bool) → eqb i n ≡ b → cond b 0 i < n
    go true e = some
    go false e = omega (arith, eqb-false i n e)

-- ---- how many edges

edges_to-length : (s p : Point) (ps : List Point) → length (edges_to s p ps) ≡ suc (length ps)
edges_to-length s p [] = refl
edges_to-length s p (q ∷ ps) = ap suc (edges_to-length s q ps)

pub edges_some : (ps : List Point) → 1 < length ps → length (edges ps) ≡ length ps
edges_some [] h = absurd (omega arith)
edges_some (p ∷ []) h = absurd (omega arith)
edges_some (p ∷ (q ∷ ps)) h = edges_to-length p p (q ∷ ps)

pub edges_few : (ps : List Point) → length ps ≤ 1 → length (edges ps) ≡ 0
edges_few [] h = refl
edges_few (p ∷ []) h = refl
edges_few (p ∷ (q ∷ ps)) h = absurd (omega arith)

pub edges-at-most : (ps : List Point) → length (edges ps) ≤ length ps
edges-at-most [] = omega arith
edges-at-most (p ∷ []) = omega arith
edges-at-most (p ∷ (q ∷ ps)) = omega (arith, edges_to-length p p (q ∷ ps))

-- an edge has two corners
pub edge-corners : (ps : List Point) (i : ℕ) → i < length (edges ps) → length (edges ps) ≡ length ps
edge-corners ps i h = go (ltb 1 (length ps)) refl
  where
    go : (b : Bool) → ltb 1 (length ps) ≡ b → length (edges ps) ≡ length ps
    go true e = edges_some ps (ltb-true 1 (length ps) e)
    go false e = absurd (omega (arith, edges_few ps (ltb-false 1 (length ps) e)))

-- ---- edges and corners at positions

edges_to-inner : (s p : Point) (ps : List Point) (i : ℕ) → i < length ps → corner (edges_to s p ps) i ≡ corner ps i ⊖ corner (p ∷ ps) i
edges_to-inner s p [] i h = absurd (not-suc-le-zero h)
edges_to-inner s p (q ∷ ps) zero h = refl
edges_to-inner s p (q ∷ ps) (suc i) h = edges_to-inner s q ps i (omega arith)

edges_to-last : (s p : Point) (ps : List Point) → corner (edges_to s p ps) (length ps) ≡ s ⊖ corner (p ∷ ps) (length ps)
edges_to-last s p [] = refl
edges_to-last s p (q ∷ ps) = edges_to-last s q ps

pub edge_at : (ps : List Point) (i : ℕ) → i < length (edges ps) → corner (edges ps) i ≡ edge_of ps i
edge_at [] i h = absurd (not-suc-le-zero h)
edge_at (p ∷ []) i h = absurd (not-suc-le-zero h)
edge_at (p ∷ (q ∷ ps)) i h = go (eqb (i + 1) (length (p ∷ q ∷ ps))) refl
  where
    go : (b : Bool) → eqb (i + 1) (length (p ∷ q ∷ ps)) ≡ b
        → corner (edges_to p p (q ∷ ps)) i ≡ corner (p ∷ q ∷ ps) (cond b 0 (i + 1)) ⊖ corner (p ∷ q ∷ ps) i
    go true e = let last : i ≡ length (q ∷ ps) = omega (arith, eqb-true (i + 1) (length (p ∷ q ∷ ps)) e) in
        rw last (edges_to-last p p (q ∷ ps))
    go false e = let other = eqb-false (i + 1) (length (p ∷ q ∷ ps)) e in
        rw add-one (edges_to-inner p p (q ∷ ps) i (omega (arith, other, edges_to-length p p (q ∷ ps))))

pub round-step : (ps : List Point) (i : ℕ) → i < length (edges ps) → corner_round ps (i + 1) ≡ corner_round ps i ⊕ corner (edges ps) i
round-step ps i h =
    let inner : round (length ps) i ≡ i = round-inner (length ps) i (omega (arith, edges-at-most ps)) in
    rw (inner, edge_at ps i h) (sym (step-to (corner ps i) (corner_round ps (i + 1))))

-- one edge more
total-take : (E : List Point) (i : ℕ) → i < length E → total (take (suc i) E) ≡ total (take i E) ⊕ corner E i
total-take [] i h = absurd (not-suc-le-zero h)
total-take (e ∷ E) zero h = ⊕-comm e origin
total-take (e ∷ E) (suc i) h =
    ap (λ (q : Point). e ⊕ q) (total-take E i (omega arith)) ∙ sym (⊕-assoc e (total (take i E)) (corner E i))

pub round-total : (ps : List Point) (i : ℕ) → 0 < length ps → i ≤ length (edges ps)
    → corner_round ps i ≡ corner ps 0 ⊕ total (take i (edges ps))
round-total ps zero some h = rw (round-inner (length ps) 0 some) (sym (⊕-zero (corner ps 0)))
round-total ps (suc i) some h =
    let before = round-total ps i some (omega arith) in
    rw (total-take (edges ps) i) (rw add-one at (round-step ps i (omega arith)) ∙ ap (λ (q : Point). q ⊕ corner (edges ps) i) before
    ∙ ⊕-assoc (corner ps 0) (total (take i (edges ps))) (corner (edges ps) i))

-- ---- edges in order

in-order-pairs : (E : List Point) → InOrder E → Pairs Before E
in-order-pairs [] o = tt
in-order-pairs (e ∷ E) o = (from_all e E o.1, in-order-pairs E (next-in-order e E o.1))

pub in-order-at : (E : List Point) → InOrder E → (i j : ℕ) → i < j → j < length E → Before (corner E i) (corner E j)
in-order-at E o i j h k = pairs-at Before E (in-order-pairs E o) i j h k

pub in-order-non-zero : (E : List Point) → InOrder E → (i : ℕ) → i < length E → NonZero (corner E i)
in-order-non-zero [] o i h = absurd (not-suc-le-zero h)
in-order-non-zero (e ∷ E) o zero h = o.0
in-order-non-zero (e ∷ E) o (suc i) h = in-order-non-zero E (next-in-order e E o.1) i (omega arith)

pub shape-in-order : (ps : List Point) → IsShape ps → InOrder (edges ps)
shape-in-order [] s = tt
shape-in-order (p ∷ ps) s = shape→sorted (p ∷ ps) s

-- ---- a shape's corners are pairwise different

ordered-different : (ps : List Point) → Ordered ps → (i j : ℕ) → i < j → j < length ps → corner ps i ≡ corner ps j → ⊥
ordered-different [] o i j h k = absurd o
ordered-different (p ∷ ps) o i zero h k = absurd (omega arith)
ordered-different (p ∷ ps) o zero (suc j) h k = precedes-different (all-at (λ q. Precedes p q) ps o.0 j (omega arith))
ordered-different (p ∷ ps) o (suc i) (suc j) h k = λ e.
    let a = corner ps i in
    let b = corner ps j in
    let flat : turn p a b ≡ pos 0 = rw e (turn_level p b) in
    lia (turn p a b ∷ []) (pairs-at (λ q r. Left p q r) ps o.1.0 i j (omega arith) (omega arith) & flat)
    (search linear depth 40) (omega arith)

pub corner-injective : (ps : List Point) → IsShape ps → (i j : ℕ) → i < length ps → j < length ps → corner ps i ≡ corner ps j → i ≡ j
corner-injective ps s i j h k e = go (ltb i j) refl (ltb j i) refl
  where
    go : (a : Bool) → ltb i j ≡ a → (b : Bool) → ltb j i ≡ b → i ≡ j
    go true p b q = absurd (ordered-different ps (shape→ordered ps s) i j (ltb-true i j p) k e)
    go false p true q = absurd (ordered-different ps (shape→ordered ps s) j i (ltb-true j i q) h (sym e))
    go false p false q = omega (arith, ltb-false i j p, ltb-false j i q)

-- ---- no corner is right of an edge

pub edge-turn : (ps : List Point) → IsShape ps → (e c : ℕ) → e < length ps → c < length ps
    → pos 0 ≤ℤ turn (corner ps e) (corner ps (next (length ps) e)) (corner ps c)
edge-turn ps s e c h k = go (ℕ_discrete c e) (ℕ_discrete c (next (length ps) e))
  where
    a : Point
    a = corner ps e

    b : Point
    b = corner ps (next (length ps) e)

    go : Dec (c ≡ e) → Dec (c ≡ next (length ps) e) → pos 0 ≤ℤ turn a b (corner ps c)
    go (yes q) r = rw q (le_of_eq (sym (turn-back a b)))
    go (no q) (yes r) = rw r (le_of_eq (sym (turn_level a b)))
    go (no q) (no r) = weaken (s.left e c h k q r)

pub next-left : (ps : List Point) → IsShape ps → 2 < length ps → (e : ℕ) → e < length ps
    → Left (corner ps e) (corner ps (next (length ps) e)) (corner ps (next (length ps) (next (length ps) e)))
next-left ps s three e h =
    let below = next-below (length ps) e h in
    let far = two_steps (length ps) e three h in
    s.left e (next (length ps) (next (length ps) e)) h (next-below (length ps) (next (length ps) e) below) far.0 far.1
