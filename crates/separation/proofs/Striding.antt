-- The stride round the edges of a sum: the moves of its invariant, `Strode`.
--     strode-start                             no edge is passed
--     strode-at                                the walk is at a place of the lists; `strode-same`: of equal sides
--     strode-first, strode-second, -both       the one side goes on, or the other, or both
--     strode-alone                             the second side goes on, where the first has no edge left
--     goes_on                                  where a side goes on, it is one edge further
use mathlib.Core.Path.{◌≡◌, refl, sym, ◌∙◌, ap, ap₂, subst}
use mathlib.Core.Bool.{true, false, cond}
use mathlib.Core.List.{List, [], ◌∷◌}
use Prim.Native.Nat.{ℕ, ◌+◌, ◌≤◌, ◌<◌}
use native.Mathlib.Omega.{arith}
use lib.IntN.{ℤ, pos}
use lib.ListN.{length}
use lib.Signed.{lt_z, le_z, ◌<ℤ◌}
use Rattle.integer.specs.Ring.{ring, reify}
use Rattle.integer.specs.Linear.{linear, lia}
use Rattle.integer.specs.Order.{lt_z-true, le_z-false, le-lt_z}
use Rattle.plane.specs.Point.{Point, points, ◌⊕◌}
use Rattle.plane.specs.Turn.{cross}
use Rattle.plane.specs.Forms.{edges}
use Rattle.plane.specs.Cycle.{corner_round}
use Rattle.plane.proofs.theory.forms.Vector.{cross-origin}
use Rattle.calipers.specs.declared.side.Side.{Side}
use Rattle.calipers.specs.Side.{corner_of, next_of, onward, Carried, walk_of}
use Rattle.calipers.specs.Walk.{begun, finished, advanced, At}
use Rattle.calipers.specs.theory.Sides.{along-edge, onward-inner, onward-end, edge_none}
use Rattle.calipers.specs.theory.Carry.{some_left, sides-walk, sides-here, sides-advanced, sides-at}
use Rattle.separation.specs.Passing.{Strode}
use Rattle.separation.proofs.Passing.{passing-start, passing-at, passing-more}

-- ---- the turn by the edge that is passed

turn-first : (p q e : Point) → cross (p ⊕ q) e ≡ cross (p ⊕ q) ((p ⊕ e) ⊕ q)
unfolding cross
turn-first p q e = ring (p.x ∷ p.y ∷ q.x ∷ q.y ∷ e.x ∷ e.y ∷ []) (search reify depth 40) tt

turn-second : (p q f : Point) → cross (p ⊕ q) f ≡ cross (p ⊕ q) (p ⊕ (q ⊕ f))
unfolding cross
turn-second p q f = ring (p.x ∷ p.y ∷ q.x ∷ q.y ∷ f.x ∷ f.y ∷ []) (search reify depth 40) tt

turn-both : (p q e f : Point) → cross (p ⊕ q) (e ⊕ f) ≡ cross (p ⊕ q) ((p ⊕ e) ⊕ (q ⊕ f))
unfolding cross
turn-both p q e f = ring (p.x ∷ p.y ∷ q.x ∷ q.y ∷ e.x ∷ e.y ∷ f.x ∷ f.y ∷ []) (search reify depth 40) tt

not-below : (c : ℤ) → pos 0 <ℤ c → lt_z c (pos 0) ≡ false
not-below c h = le-lt_z {x = c} {y = pos 0} (lia (c ∷ []) h (search linear depth 40) (omega arith))

not-above : (c : ℤ) → c <ℤ pos 0 → lt_z (pos 0) c ≡ false
not-above c h = le-lt_z {x = pos 0} {y = c} (lia (c ∷ []) h (search linear depth 40) (omega arith))

-- ---- a side that goes on

module _ {l : List ℤ} {s : Side} (c : Carried l s) (h : s.at + 2 < s.end) where
  pub goes_on : {k : ℕ} → k ≡ onward (points l) s.at → k ≡ s.at + 1
  goes_on i = i ∙ onward-inner (points l) s.at (omega (arith, c.end_is))

  there : {m : Side} → m.at ≡ onward (points l) s.at → Carried l m → corner_of m ≡ corner_of s ⊕ next_of s
  there i u = u.corner-is ∙ ap (corner_round (points l)) (goes_on i) ∙ sym (along-edge c (omega (arith, c.end_is)))

-- ---- the moves

pub strode-start : {a b : List ℤ} {s t : Side} → At a b begun → s.at ≡ 0 → t.at ≡ 0 → Carried a s → Carried b t → Strode a b s t 0
strode-start {a} {b} {s} {t} p h l u v = record {
  count = 0;
  counted = omega arith;
  passing = passing-start p (sides-walk begun s t h l);
  first-side = u;
  second-side = v;
}

pub strode-same : {a b : List ℤ} {s t m n : Side} {joined k : ℕ} → m ≡ s → n ≡ t → k ≡ joined → Strode a b s t joined → Strode a b m n k
strode-same {a} {b} {s} {t} {m} {n} {joined} p q r w = subst (Strode a b m n) (sym r)
    (subst (λ (z : Side). Strode a b m z joined) (sym q) (subst (λ (z : Side). Strode a b z t joined) (sym p) w))

module _ {a b : List ℤ} {s t : Side} {joined : ℕ} (p : Strode a b s t joined) where
  pub strode-at : At a b (walk_of s t false)
  strode-at = passing-at p.passing

  edges-left : s.end + t.end ≡ length (edges (points a)) + length (edges (points b))
  edges-left = omega (arith, p.first-side.end_is, p.second-side.end_is)

  module _ {c : ℤ} (is : c ≡ cross (next_of s) (next_of t)) {from : Point} (from_is : from ≡ corner_of s ⊕ corner_of t) {turn : ℤ}
      (left : le_z turn (pos 0) ≡ false) where
    -- one step further, with some edges left
    module _ (m n : Side) (i : m.at ≡ cond (lt_z c (pos 0)) s.at (onward (points a) s.at))
        (j : n.at ≡ cond (lt_z (pos 0) c) t.at (onward (points b) t.at)) (u : Carried a m) (v : Carried b n)
        (is-turn : turn ≡ cross (corner_of s ⊕ corner_of t) (corner_of m ⊕ corner_of n)) where
      steps : walk_of m n (finished (points a) m.at (points b) n.at) ≡ advanced (points a) (points b) (walk_of s t false)
      steps = sides-advanced strode-at p.first-side p.second-side is m n i j refl

      goes : m.at + n.at < length (edges (points a)) + length (edges (points b))
          → walk_of m n false ≡ advanced (points a) (points b) (walk_of s t false)
      goes few = ap (walk_of m n) (sym (some_left (points a) (points b) m.at n.at (λ e. omega (arith, few)))) ∙ steps

      more : m.at + n.at < length (edges (points a)) + length (edges (points b)) → {k : ℕ}
          → m.at + n.at + joined ≡ s.at + t.at + k + 1 → Strode a b m n k
      more few {k} e = record {
        count = p.count + 1;
        counted = omega (arith, p.counted);
        passing = passing-more p.passing refl (goes few)
            (is-turn ∙ ap₂ cross (sides-here strode-at p.first-side p.second-side)
            (sides-here (sides-at strode-at p.first-side p.second-side is m n i j) u v))
            (not-below turn (le_z-false left)) (sym left);
        first-side = u;
        second-side = v;
      }

    -- the turn by the edge of the second side
    second-turn : (l : t.at + 2 < t.end) → turn ≡ cross from (next_of t) → (n : Side) → n.at ≡ onward (points b) t.at → Carried b n
        → turn ≡ cross (corner_of s ⊕ corner_of t) (corner_of s ⊕ corner_of n)
    second-turn l e n j v = e ∙ ap (λ z. cross z (next_of t)) from_is ∙ turn-second (corner_of s) (corner_of t) (next_of t)
        ∙ ap (λ z. cross (corner_of s ⊕ corner_of t) (corner_of s ⊕ z)) (sym (there p.second-side l j v))

    module _ (h : s.at + 2 < s.end) (l : t.at + 2 < t.end) where
      pub strode-first : lt_z (pos 0) c ≡ true → turn ≡ cross from (next_of s) → (m : Side) → m.at ≡ onward (points a) s.at → Carried a m
          → Strode a b m t joined
      strode-first q e m i u =
          let one = goes_on p.first-side h i in
          let waits = not-below c (lt_z-true {x = pos 0} {y = c} q) in
          more m t (rw waits i) (rw q refl) u p.second-side
          (e ∙ ap (λ z. cross z (next_of s)) from_is ∙ turn-first (corner_of s) (corner_of t) (next_of s)
          ∙ ap (λ z. cross (corner_of s ⊕ corner_of t) (z ⊕ corner_of t)) (sym (there p.first-side h i u)))
          (omega (arith, edges-left)) (omega arith)

      pub strode-second : lt_z c (pos 0) ≡ true → turn ≡ cross from (next_of t) → (n : Side) → n.at ≡ onward (points b) t.at → Carried b n
          → Strode a b s n joined
      strode-second q e n j v =
          let one = goes_on p.second-side l j in
          let waits = not-above c (lt_z-true {x = c} {y = pos 0} q) in
          more s n (rw q refl) (rw waits j) p.first-side v
          (second-turn l e n j v) (omega (arith, edges-left)) (omega arith)

      pub strode-both : lt_z (pos 0) c ≡ false → lt_z c (pos 0) ≡ false → turn ≡ cross from (next_of s ⊕ next_of t) → (m n : Side)
          → m.at ≡ onward (points a) s.at → n.at ≡ onward (points b) t.at → Carried a m → Carried b n → Strode a b m n (joined + 1)
      strode-both q r e m n i j u v =
          let one = goes_on p.first-side h i in
          let other = goes_on p.second-side l j in
          more m n (rw r i) (rw q j) u v
          (e ∙ ap (λ z. cross z (next_of s ⊕ next_of t)) from_is ∙ turn-both (corner_of s) (corner_of t) (next_of s) (next_of t)
          ∙ ap₂ (λ y z. cross (corner_of s ⊕ corner_of t) (y ⊕ z)) (sym (there p.first-side h i u)) (sym (there p.second-side l j v)))
          (omega (arith, edges-left)) (omega arith)

  -- the first side has no edge left: it is that of a point
  pub strode-alone : s.end ≤ s.at → t.at + 2 < t.end → {from : Point} → from ≡ corner_of s ⊕ corner_of t → {turn : ℤ}
      → le_z turn (pos 0) ≡ false → turn ≡ cross from (next_of t) → (n : Side) → n.at ≡ onward (points b) t.at → Carried b n
      → Strode a b s n joined
  strode-alone h l from_is left e n j v =
      let one = goes_on p.second-side l j in
      let over : s.at ≡ s.end = omega (arith, h, p.first-side.at_in, p.first-side.end_is) in
      let none = p.first-side.edge-is ∙ edge_none (points a) s.end s.at p.first-side.end_is over in
      let level : pos 0 ≡ cross (next_of s) (next_of t) = sym (ap (λ z. cross z (next_of t)) none ∙ (cross-origin (next_of t)).0) in
      more level from_is left s n (sym (onward-end (points a) s.at (omega (arith, over, p.first-side.end_is)))) j p.first-side v
      (second-turn level from_is left l e n j v) (omega (arith, edges-left, p.first-side.at_in)) (omega arith)
