-- The search for the length: the moves of `Search`.
--     apart-inner, pair-bounds      the pair of two sides where the first corner does not come again
--     pair-kept                     if it comes after the best, it is taken only if it is further apart
--     search-start, -next, -done    at the end: the answer
--     Onward, onward-inner          a step as long as the first corner does not come again
use mathlib.Core.Path.{◌≡◌, refl, sym, ◌∙◌, ap, ap₂, subst}
use mathlib.Core.Bool.{Bool, true, false, cond}
use mathlib.Core.List.{List}
use Prim.Native.Nat.{ℕ, ◌+◌, ◌-◌, ◌^◌, ◌≤◌, ◌<◌}
use native.Mathlib.Omega.{arith}
use borrow.Author.Tests.{eqb-true, eqb-false, ne_eqb, le-leb, leb-true}
use lib.Dec.{eqb}
use lib.IntN.{ℤ, pos}
use lib.ListN.{length}
use lib.Signed.{yes_non_neg, pos-nat_abs}
use Rattle.integer.specs.Order.{le_z-true, le-le_z}
use Rattle.plane.specs.Point.{Point, points, corner}
use Rattle.plane.specs.Measure.{squared}
use Rattle.plane.specs.Forms.{edges}
use Rattle.plane.specs.Cycle.{corner_round}
use Rattle.plane.proofs.theory.forms.Squared.{squared-nonneg, squared-sym}
use Rattle.plane.proofs.theory.sum.Positions.{round-inner, edges-at-most}
use Rattle.polygon.specs.Point.{Small}
use Rattle.calipers.specs.Side.{corner_of}
use Rattle.calipers.specs.declared.side.Side.{Side}
use Rattle.measure.specs.declared.Length.{Length}
use Rattle.measure.specs.Answer.{IsLength}
use Rattle.measure.specs.Comparison.{NotAfter, sooner, level, NoBetter, Stands}
use Rattle.measure.specs.Half.{HalfStep, right, left}
use Rattle.measure.specs.Partway.{Leads, Apart, Search}
use Rattle.measure.specs.Scan.{HalfAt, pair_at, apart_at, Behind, Kept, kept, replaced}
use Rattle.measure.specs.theory.LengthScan.{leads-start, leads-keep, leads-replace, leads-done}
use Rattle.measure.proofs.Stepped.{half-corners}

-- ---- the better of two pairs

behind-no_better : {A : List Point} {p q : Length} → Apart A p → Apart A q → Behind p q
    → NoBetter A p.from p.to q.from q.to
behind-no_better {A} {p} {q} a b h = record {
  no-further = rw (← a.distance, ← b.distance) (le_z-true {x = pos p.squared} {y = pos q.squared} (le-leb _ _ h.no-further));
  no-earlier = λ g. h.no-earlier (leb-true q.squared p.squared (le-le_z (rw (← a.distance, ← b.distance) at g)));
}

-- ---- the pair at a place

module _ {l : List ℤ} {top n : ℕ} {s t : Side} (h : HalfAt l top s t) (count : n ≡ length (points l)) where
  abbrev A : List Point
  A = points l

  right-in : s.at < length A
  right-in = omega (arith, h.antipodal.right-in, h.chains.within)

  stands : Stands A s.at t.at (apart_at n s t).from (apart_at n s t).to
  unfolding apart_at
  stands = record { from_is = rw count refl; to_is = rw count refl }

  carried : pos (apart_at n s t).squared ≡ squared (corner A s.at) (corner_round A t.at)
  unfolding apart_at
  carried = pos-nat_abs _ (yes_non_neg (squared-nonneg (corner_of s) (corner_of t)))
      ∙ ap₂ squared (h.right_side.corner-is ∙ ap (corner A) (round-inner (length A) s.at right-in)) h.left-side.corner-is

  module _ {p : Length} (e : p ≡ apart_at n s t) where
    place : Stands A s.at t.at p.from p.to
    place = subst (λ (p : Length). Stands A s.at t.at p.from p.to) (sym e) stands

    place-apart : Apart A p
    place-apart = record { distance = ap (λ (p : Length). pos p.squared) e ∙ carried ∙ go (eqb t.at (length A)) refl }
      where
        go : (b : Bool) → eqb t.at (length A) ≡ b
            → squared (corner A s.at) (corner A (cond b 0 t.at)) ≡ squared (corner A p.from) (corner A p.to)
        go true q = rw (← place.from_is, ← place.to_is, q) (squared-sym (corner A s.at) (corner A 0))
        go false q = rw (← place.from_is, ← place.to_is, q) refl

    place-in-order : (p.from ≤ p.to) × (p.to < length A)
    place-in-order = go (eqb t.at (length A)) refl
      where
        order : s.at ≤ t.at
        order = omega (arith, h.antipodal.right-in, h.antipodal.left-from)

        go : (b : Bool) → eqb t.at (length A) ≡ b → (p.from ≤ p.to) × (p.to < length A)
        go true q = (omega (arith, rw q at place.from_is, rw q at place.to_is), omega (arith, rw q at place.to_is, right-in))
        go false q = (
          omega (arith, rw q at place.from_is, rw q at place.to_is, order),
          omega (arith, rw q at place.to_is, eqb-false t.at (length A) q, h.left-side.at_in, edges-at-most A),
        )

-- ---- the pair of two sides, before the last corner

pub apart-inner : (n : ℕ) (s t : Side) → t.at < n → apart_at n s t ≡ pair_at s t
unfolding apart_at pair_at
apart-inner n s t h = rw (ne_eqb t.at n (λ q. omega arith)) refl

pub pair-bounds : {p : Length} (s t : Side) → p ≡ pair_at s t → (p.from ≤ s.at) × (p.to ≤ t.at)
unfolding pair_at
pair-bounds s t e = (omega (arith, ap (λ (p : Length). p.from) e), omega (arith, ap (λ (p : Length). p.to) e))

-- a pair that comes after the best is taken only if it is further apart
pub pair-kept : {best next : Length} → best.from ≤ next.from → best.to ≤ next.to → next.squared ≤ best.squared → Kept best next best
pair-kept {best} {next} a b h = kept refl (record { no-further = h; no-earlier = λ g. order (eqb best.from next.from) refl })
  where
    order : (c : Bool) → eqb best.from next.from ≡ c → NotAfter best.from best.to next.from next.to
    order true q = level (eqb-true best.from next.from q) b
    order false q = sooner (omega (arith, a, eqb-false best.from next.from q))

-- ---- the loop

module _ {l : List ℤ} {n top end : ℕ} where
  pub search-start : {s t : Side} {best : Length} → HalfAt l top s t → n ≡ length (points l) → end ≡ length (edges (points l))
      → s.at ≡ 0 → t.at ≡ top → best ≡ apart_at n s t → Search l n top end s t best
  search-start {s} {t} {best} h count sides a b e = record {
    half = h;
    count = count;
    sides = sides;
    apart = place-apart h count e;
    leads = rw (a, b) (leads-start h.valid.shape h.chains (rw (a, b) at (place h count e)));
  }

  module _ {s t : Side} {best : Length} (g : Search l n top end s t best) where
    pub search-next : {s' t' : Side} {p r : Length} → HalfAt l top s' t' → HalfStep (points l) top s.at t.at s'.at t'.at
        → p ≡ apart_at n s' t' → Kept best p r → Search l n top end s' t' r
    search-next {s'} {t'} {p} {r} h step e k = go k
      where
        own : Apart (points l) p
        own = place-apart h g.count e

        after : {f : Length} → Apart (points l) f → Leads (points l) top s'.at t'.at f.from f.to → Search l n top end s' t' f
        after a b = record { half = h; count = g.count; sides = g.sides; apart = a; leads = b }

        go : Kept best p r → Search l n top end s' t' r
        go (kept q b) = subst (Search l n top end s' t') (sym q) (after g.apart
            (leads-keep g.leads step g.half.antipodal.left-from (place h g.count e) (behind-no_better own g.apart b)))
        go (replaced q b) = let order = place-in-order h g.count e in subst (Search l n top end s' t') (sym q) (after own
            (leads-replace g.leads step g.half.antipodal.left-from (place h g.count e) order.0 order.1
            (behind-no_better g.apart own b)))

    pub search-done : top + end ≤ s.at + t.at → IsLength (points l) best
    search-done h =
        let done = leads-done g.leads (omega (arith, g.sides)) in
        record { squared-is = g.apart.distance ∙ sym done.0; from_is = sym done.1; to_is = sym done.2 }

-- ---- a step before the last corner

-- what a step from the best pair so far leads to
pub record Onward (l : List ℤ) (n top end : ℕ) (s t : Side) (best : Length) (s' t' : Side) : Type 0 where
  pub ready : Small (2 ^ 21) (corner_of s') × Small (2 ^ 21) (corner_of t') × (best.from ≤ s'.at) × (best.to ≤ t'.at)
  pub fewer : top + end - (s'.at + t'.at) < top + end - (s.at + t.at)
  pub again : {r : Length} → Kept best (pair_at s' t') r × (r.from ≤ s'.at) × (r.to ≤ t'.at)
      → Search l n top end s' t' r × (r.from ≤ s'.at) × (r.to ≤ t'.at)

grows : {A : List Point} {t i m k l : ℕ} → HalfStep A t i m k l → (i ≤ k) × (m ≤ l) × (l ≤ m + 1)
grows (right a b) = (omega arith, omega arith, omega arith)
grows (left a b) = (omega arith, omega arith, omega arith)

pub onward-inner : {l : List ℤ} {n top end : ℕ} {s t s' t' : Side} {best : Length} → Search l n top end s t best → best.from ≤ s.at
    → best.to ≤ t.at → t.at + 2 < end
    → HalfStep (points l) top s.at t.at s'.at t'.at × HalfAt l top s' t'
    × (top + end - (s'.at + t'.at) < top + end - (s.at + t.at)) → Onward l n top end s t best s' t'
onward-inner {l} {n} {top} {end} {s} {t} {s'} {t'} {best} g a b inner (step, half, less) = record {
  ready = (corners.0, corners.1, omega (arith, on.0, a), omega (arith, on.1, b));
  fewer = less;
  again = λ k. (search-next g half step (sym (apart-inner n s' t' below)) k.0, k.1, k.2);
}
  where
    corners : Small (2 ^ 21) (corner_of s') × Small (2 ^ 21) (corner_of t')
    corners = half-corners half

    on : (s.at ≤ s'.at) × (t.at ≤ t'.at) × (t'.at ≤ t.at + 1)
    on = grows step

    below : t'.at < n
    below = omega (arith, on.2, inner, g.sides, g.count, edges-at-most (points l))
