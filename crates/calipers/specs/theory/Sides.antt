-- A side of a walk: how it is made, and that its numbers are small.
--     edge-inner, edge-last           the edge that leaves a corner, and the one back to the first; `edge_none`: past it
--     carried-to                      a side that is at a corner, with its edge
--     along-edge                      the corner where it ends
--     corner-fits, edge-adds          its corner and its edge may be added; `edge-fits`: its edge may be multiplied
--     round-end                       after the last edge comes the first corner again
--     onward-end, onward-inner        one edge on where none is left, and where one is
use Rattle.std.specs.Prelude.{◌≡◌, refl, Bool, true, false, List, ℕ, ◌+◌, ◌^◌, ◌≤◌, ◌<◌, ltb, ℤ, length}
use Rattle.std.proofs.Common.{sym, ◌∙◌, ap, ap₂, subst, arith, ltb-true, ltb-false, lt-ltb, le-ltb, eq-eqb, ne_eqb, lit≤}
use Rattle.std.proofs.Math.ListN.{get_or-eq_default}
use Rattle.plane.specs.Point.{Point, points, corner, origin, ◌⊕◌, ◌⊖◌}
use Rattle.plane.specs.Shape.{next}
use Rattle.plane.specs.Refusal.{InRange}
use Rattle.plane.specs.Forms.{edges}
use Rattle.plane.specs.Cycle.{round, corner_round}
use Rattle.plane.proofs.theory.lists.Next.{next-below}
use Rattle.plane.proofs.theory.sum.Positions.{round-inner, round-within, round-step, edge_at, edge-corners}
use Rattle.plane.proofs.theory.sum.Positions.{edges-at-most, edges_some, edges_few}
use Rattle.polygon.specs.Point.{Small}
use Rattle.polygon.specs.theory.Small.{small-corner, small-edge, small-wide}
use Rattle.calipers.specs.declared.side.Side.{Side}
use Rattle.calipers.specs.Side.{corner_of, next_of, onward, Stands, Carried}

edge-start : (A : List Point) (i : ℕ) → i < length (edges A) → i < length A
edge-start A i h = omega (arith, edges-at-most A)

pub onward-end : (A : List Point) (i : ℕ) → length (edges A) ≤ i → onward A i ≡ i
onward-end A i h = rw (le-ltb i (length (edges A)) h)

pub onward-inner : (A : List Point) (i : ℕ) → i < length (edges A) → onward A i ≡ i + 1
onward-inner A i h = rw (lt-ltb i (length (edges A)) h)

pub round-end : (A : List Point) → 0 < length A → round (length A) (length (edges A)) ≡ 0
round-end A some = go (ltb 1 (length A)) refl
  where
    go : (b : Bool) → ltb 1 (length A) ≡ b → round (length A) (length (edges A)) ≡ 0
    go true e = rw (eq-eqb (length (edges A)) (length A) (edges_some A (ltb-true 1 (length A) e)))
    go false e = let few = edges_few A (ltb-false 1 (length A) e) in rw few (round-inner (length A) 0 some)

-- the edge from the corner at hand to the next on the way round
edge_to : (A : List Point) (n i : ℕ) → n ≡ length (edges A) → i < n
    → corner A (next n i) ⊖ corner_round A i ≡ corner (edges A) i
edge_to A n i e h =
    let all = edge-corners A i (omega arith) in
    ap₂ (λ (m k : ℕ). corner A (next m i) ⊖ corner A k) (e ∙ all) (round-inner (length A) i (omega arith))
    ∙ sym (edge_at A i (omega arith))

-- that is the next position, and after the last corner the first
pub edge-inner : (A : List Point) (n i : ℕ) → n ≡ length (edges A) → i + 1 < n → corner A (i + 1) ⊖ corner_round A i ≡ corner (edges A) i
edge-inner A n i e h =
    let on : next n i ≡ i + 1 = rw (ne_eqb (i + 1) n (λ q. omega arith)) in
    ap (λ (k : ℕ). corner A k ⊖ corner_round A i) (sym on) ∙ edge_to A n i e (omega arith)

pub edge-last : (A : List Point) (n i : ℕ) → n ≡ length (edges A) → i + 1 ≡ n → corner A 0 ⊖ corner_round A i ≡ corner (edges A) i
edge-last A n i e h =
    let home : next n i ≡ 0 = rw (eq-eqb (i + 1) n h) in
    ap (λ (k : ℕ). corner A k ⊖ corner_round A i) (sym home) ∙ edge_to A n i e (omega arith)

pub edge_none : (A : List Point) (n i : ℕ) → n ≡ length (edges A) → i ≡ n → corner (edges A) i ≡ origin
edge_none A n i e h = get_or-eq_default (edges A) origin (omega arith)

module _ {l : List ℤ} {s : Side} (r : InRange l) (some : 0 < length (points l)) (c : Carried l s) where
  pub corner-fits : Small (2 ^ 21) (corner_of s)
  corner-fits = small-corner l r (round (length (points l)) s.at)
      (round-within (length (points l)) s.at some (omega (arith, c.at_in, edges-at-most (points l)))) c.corner-is

  pub edge-adds : Small (2 ^ 21) (next_of s)
  edge-adds = go (ltb s.at (length (edges (points l)))) refl
    where
      go : (b : Bool) → ltb s.at (length (edges (points l))) ≡ b → Small (2 ^ 21) (next_of s)
      go true e =
          let h = ltb-true s.at (length (edges (points l))) e in
          let i = edge-start (points l) s.at h in
          small-edge l r s.at (next (length (points l)) s.at) i (next-below (length (points l)) s.at i)
          (c.edge-is ∙ edge_at (points l) s.at h)
      go false e = subst (Small (2 ^ 21))
          (sym (c.edge-is ∙ get_or-eq_default (edges (points l)) origin (ltb-false s.at (length (edges (points l))) e)))
          (record { small-x = record { size = lit≤ tt }; small-y = record { size = lit≤ tt } })

  pub edge-fits : Small (2 ^ 22) (next_of s)
  edge-fits = small-wide edge-adds

-- the corner of a side may be added
pub stands-fits : {l : List ℤ} {s : Side} → InRange l → 0 < length (points l) → Stands l s → Small (2 ^ 21) (corner_of s)
stands-fits {l} {s} r some c = small-corner l r (round (length (points l)) s.at)
    (round-within (length (points l)) s.at some (omega (arith, c.at_in, edges-at-most (points l)))) c.corner-is

-- along the edge to the next corner
pub along-edge : {l : List ℤ} {s : Side} → Carried l s → s.at < length (edges (points l))
    → corner_of s ⊕ next_of s ≡ corner_round (points l) (s.at + 1)
along-edge {l} {s} c h = ap₂ ◌⊕◌ c.corner-is c.edge-is ∙ sym (round-step (points l) s.at h)

-- the side r that s becomes where its edge is known
pub carried-to : {l : List ℤ} {s r : Side} (p : Point) → Stands l s
    → (r.at ≡ s.at) × (r.end ≡ s.end) × (corner_of r ≡ corner_of s) × (next_of r ≡ p ⊖ corner_of s)
    → p ⊖ corner_round (points l) s.at ≡ corner (edges (points l)) s.at → Carried l r
carried-to {l} {s} {r} p c made e = record {
  at_in = omega (arith, made.0, c.at_in);
  end_is = made.1 ∙ c.end_is;
  corner-is = made.2 ∙ c.corner-is ∙ ap (corner_round (points l)) (sym made.0);
  edge-is = made.3 ∙ ap (λ (q : Point). p ⊖ q) c.corner-is ∙ e ∙ ap (corner (edges (points l))) (sym made.0);
}
