-- Which edge has the least box, found by keeping the first of the least so far.
--     no_larger-le, larger-lt                    the test as a fact; no_larger-fractions: on numbers of ℕ, as in code
--     Leading ps k e                            of the edges below k, e is the first with the least box
--     leading-start, -keep, -replace, -done     the moves of the search
--     box-leading                               of all edges it is `box_edge`
use Rattle.std.specs.Prelude.{◌≡◌, refl, Bool, true, false, not, List, ℕ, zero, suc, pred, ◌*◌, ◌<◌, eqb, ltb, ℤ, pos, ◌*ℤ◌, ◌≤ℤ◌, ◌<ℤ◌}
use Rattle.std.proofs.Common.{sym, subst, arith, eqb-true}
use Rattle.std.proofs.lemmas.Bool.{eqb-false}
use Rattle.std.proofs.Math.ListN.{length}
use Rattle.integer.specs.Order.{le_z-true, le_z-false}
use Rattle.plane.specs.Point.{Point}
use Rattle.plane.specs.Search.{every}
use Rattle.plane.specs.Shape.{IsShape}
use Rattle.plane.specs.Measure.{edge_squared}
use Rattle.plane.proofs.theory.lists.Sought.{first-unique, all-every, not-every, true-not-false}
use Rattle.measure.specs.theory.Fractions.{squares-refl, squares-total, squares-trans, squares-numbers}
use Rattle.measure.specs.theory.Height.{edge_squared-positive}
use Rattle.boxes.specs.Box.{half_round, no_larger, box_edge}

-- what is for edge e in its comparison with f
abbrev size : List Point → ℕ → ℕ → ℤ
size ps e f = half_round ps e *ℤ half_round ps e *ℤ edge_squared ps f

pub no_larger-le : (ps : List Point) (e f : ℕ) → no_larger ps e f ≡ true → size ps e f ≤ℤ size ps f e
unfolding no_larger
no_larger-le ps e f h = le_z-true h

pub larger-lt : (ps : List Point) (e f : ℕ) → no_larger ps e f ≡ false → size ps f e <ℤ size ps e f
unfolding no_larger
larger-lt ps e f h = le_z-false h

-- the test as it is made on numbers of ℕ: edge f has a smaller box than e
pub no_larger-fractions : (ps : List Point) (e f : ℕ) {t q u r : ℕ} → half_round ps e ≡ pos t → edge_squared ps e ≡ pos q
    → half_round ps f ≡ pos u → edge_squared ps f ≡ pos r → no_larger ps e f ≡ not (ltb (u * u * q) (t * t * r))
unfolding no_larger
no_larger-fractions ps e f = squares-numbers (half_round ps) (edge_squared ps) e f

-- ---- the first of the least so far

pub record Leading (ps : List Point) (k e : ℕ) : Type 0 where
  pub among : e < k
  pub least : (f : ℕ) → f < k → no_larger ps e f ≡ true
  pub sole : (f : ℕ) → f < e → no_larger ps f e ≡ false

-- what holds below k and at k holds below k + 1
one_more : (k : ℕ) (P : ℕ → Type 0) → ((f : ℕ) → f < k → P f) → P k → (f : ℕ) → f < suc k → P f
one_more k P below here f h = go (eqb f k) refl
  where
    go : (b : Bool) → eqb f k ≡ b → P f
    go true e = subst P (sym (eqb-true f k e)) here
    go false e = below f (omega (arith, eqb-false f k e))

pub leading-start : (ps : List Point) → Leading ps 1 0
unfolding no_larger
leading-start ps = record {
  among = omega arith;
  least = one_more 0 (λ f. no_larger ps 0 f ≡ true) (λ f h. absurd (omega arith)) (squares-refl (half_round ps) (edge_squared ps) 0);
  sole = λ f h. absurd (omega arith);
}

pub leading-keep : {ps : List Point} {k e : ℕ} → Leading ps k e → no_larger ps e k ≡ true → Leading ps (suc k) e
leading-keep {ps} {k} {e} l test = record {
  among = omega (arith, l.among);
  least = one_more k (λ f. no_larger ps e f ≡ true) l.least test;
  sole = l.sole;
}

module _ (ps : List Point) (s : IsShape ps) (three : 2 < length ps) where
  no_larger-trans : (e f g : ℕ) → e < length ps → f < length ps → g < length ps
      → no_larger ps e f ≡ true → no_larger ps f g ≡ true → no_larger ps e g ≡ true
  unfolding no_larger
  no_larger-trans e f g he hf hg = squares-trans (half_round ps) (edge_squared ps) e f g
      (edge_squared-positive ps s three e he) (edge_squared-positive ps s three f hf) (edge_squared-positive ps s three g hg)

  -- k is smaller than e, which is no larger than any before k: so k is smaller than all of them
  pub leading-replace : {k e : ℕ} → k < length ps → Leading ps k e → no_larger ps e k ≡ false → Leading ps (suc k) k
  unfolding no_larger
  leading-replace {k} {e} h l test = record {
    among = omega arith;
    least = one_more k (λ f. no_larger ps k f ≡ true)
        (λ f below. no_larger-trans k e f h e-in (omega arith) (squares-total (half_round ps) (edge_squared ps) e k test)
        (l.least f below)) (squares-refl (half_round ps) (edge_squared ps) k);
    sole = λ f below. go f below (no_larger ps f k) refl;
  }
    where
      e-in : e < length ps
      e-in = omega (arith, l.among)

      go : (f : ℕ) → f < k → (b : Bool) → no_larger ps f k ≡ b → b ≡ false
      go f below false q = refl
      go f below true q = true-not-false (no_larger-trans e f k e-in (omega arith) h (l.least f below) q) test

  leading-of : (k : ℕ) → k < length ps → (e : ℕ) × Leading ps (suc k) e
  leading-of zero h = (0, leading-start ps)
  leading-of (suc k) h = go (leading-of k (omega arith))
    where
      go : (e : ℕ) × Leading ps (suc k) e → (e : ℕ) × Leading ps (suc (suc k)) e
      go (e, l) = keep (no_larger ps e (suc k)) refl
        where
          keep : (b : Bool) → no_larger ps e (suc k) ≡ b → (e : ℕ) × Leading ps (suc (suc k)) e
          keep true q = (e, leading-keep l q)
          keep false q = (suc k, leading-replace h l q)

pub leading-done : {ps : List Point} {e : ℕ} → Leading ps (length ps) e → box_edge ps ≡ e
unfolding box_edge
leading-done {ps} {e} l = first-unique (λ k. every (no_larger ps k) (length ps)) (length ps) e
    (omega (arith, l.among)) (λ h. all-every (no_larger ps e) (length ps) l.least)
    (λ k h. not-every (no_larger ps k) (length ps) e l.among (l.sole k h))

pub box-leading : (ps : List Point) → IsShape ps → 2 < length ps → Leading ps (length ps) (box_edge ps)
box-leading ps s three = go (leading-of ps s three (pred (length ps)) (omega arith))
  where
    all : suc (pred (length ps)) ≡ length ps
    all = omega arith

    go : (e : ℕ) × Leading ps (suc (pred (length ps))) e → Leading ps (length ps) (box_edge ps)
    go (e, l) = let last = subst (λ k. Leading ps k e) all l in subst (Leading ps (length ps)) (sym (leading-done last)) last
