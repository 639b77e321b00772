-- Width: which edge has the least t·t/q, found by keeping the best so far.
--     no_wider-le, wider_lt           the test as a fact; `le-no_wider`, `lt-wider`: the fact as a test
--     no_wider-fractions              the test on numbers of ℕ, as the fractions are compared in code
--     Narrowest ps P e               of the edges of which P holds, e is the first with the least t·t/q
--     More P Q k                     Q holds of one edge more, which is k
--     narrowest-one, -keep, -replace the moves of the search; `narrowest-done`: of all edges it is width_edge
--     width-narrowest                there is one, so width_edge is it
use Rattle.std.specs.Prelude.{◌≡◌, refl, Bool, true, false, not, List, ◌⊎◌, ℕ, zero, suc, pred, ◌*◌, ◌<◌, ltb, ℤ, pos, ◌*ℤ◌, length}
use Rattle.std.specs.Prelude.{◌≤ℤ◌, ◌<ℤ◌}
use Rattle.std.proofs.Common.{sym, subst, inl, inr, ⊎_elim, arith, ltb-true, ltb-false}
use Rattle.integer.specs.Order.{le_z-true, le_z-false, le-le_z, lt-le_z}
use Rattle.plane.specs.Point.{Point}
use Rattle.plane.specs.Search.{every}
use Rattle.plane.specs.Shape.{IsShape}
use Rattle.plane.specs.Measure.{height, edge_squared, no_wider, width_edge}
use Rattle.plane.proofs.theory.lists.Sought.{first-unique, all-every, not-every, true-not-false}
use Rattle.measure.specs.theory.Fractions.{squares-refl, squares-total, squares-trans, squares-numbers}
use Rattle.measure.specs.theory.Height.{edge_squared-positive}
use Rattle.measure.specs.Comparison.{Narrowest}

-- the side of edge e in its comparison with f
abbrev wide : List Point → ℕ → ℕ → ℤ
wide ps e f = height ps e *ℤ height ps e *ℤ edge_squared ps f

pub no_wider-le : (ps : List Point) (e f : ℕ) → no_wider ps e f ≡ true → wide ps e f ≤ℤ wide ps f e
unfolding no_wider
no_wider-le ps e f h = le_z-true h

pub wider_lt : (ps : List Point) (e f : ℕ) → no_wider ps e f ≡ false → wide ps f e <ℤ wide ps e f
unfolding no_wider
wider_lt ps e f h = le_z-false h

pub le-no_wider : (ps : List Point) (e f : ℕ) → wide ps e f ≤ℤ wide ps f e → no_wider ps e f ≡ true
unfolding no_wider
le-no_wider ps e f h = le-le_z h

pub lt-wider : (ps : List Point) (e f : ℕ) → wide ps f e <ℤ wide ps e f → no_wider ps e f ≡ false
unfolding no_wider
lt-wider ps e f h = lt-le_z h

no_wider-refl : (ps : List Point) (e : ℕ) → no_wider ps e e ≡ true
unfolding no_wider
no_wider-refl ps e = squares-refl (height ps) (edge_squared ps) e

wider-no_wider : (ps : List Point) (e f : ℕ) → no_wider ps e f ≡ false → no_wider ps f e ≡ true
unfolding no_wider
wider-no_wider ps e f = squares-total (height ps) (edge_squared ps) e f

module _ (ps : List Point) (s : IsShape ps) (long : 2 < length ps) where
  no_wider-trans : (e f g : ℕ) → e < length ps → f < length ps → g < length ps
      → no_wider ps e f ≡ true → no_wider ps f g ≡ true → no_wider ps e g ≡ true
  unfolding no_wider
  no_wider-trans e f g he hf hg = squares-trans (height ps) (edge_squared ps) e f g
      (edge_squared-positive ps s long e he) (edge_squared-positive ps s long f hf) (edge_squared-positive ps s long g hg)

-- the test as it is made on numbers of ℕ: edge f is narrower than e
pub no_wider-fractions : (ps : List Point) (e f : ℕ) {t q u r : ℕ} → height ps e ≡ pos t → edge_squared ps e ≡ pos q → height ps f ≡ pos u
    → edge_squared ps f ≡ pos r → no_wider ps e f ≡ not (ltb (u * u * q) (t * t * r))
unfolding no_wider
no_wider-fractions ps e f = squares-numbers (height ps) (edge_squared ps) e f

-- ---- the best so far

-- the edges of Q are those of P, and k
pub record More (P Q : ℕ → Type 0) (k : ℕ) : Type 0 where
  pub new : Q k
  pub old : (f : ℕ) → P f → Q f
  pub only : (f : ℕ) → Q f → P f ⊎ (f ≡ k)

module _ {ps : List Point} (s : IsShape ps) (long : 2 < length ps) {P Q : ℕ → Type 0} {k : ℕ} (h : k < length ps) (m : More P Q k) where
  pub narrowest-one : ((f : ℕ) → P f → ⊥) → Narrowest ps Q k
  narrowest-one empty = record {
    edges-in = λ f q. rw (alone f q) h;
    among = m.new;
    least = λ f q. rw (alone f q) (no_wider-refl ps k);
    sole = λ f q l. absurd (omega (arith, alone f q));
  }
    where
      alone : (f : ℕ) → Q f → f ≡ k
      alone f q = ⊎_elim (λ p. absurd (empty f p)) (λ e. e) (m.only f q)

  module _ {e : ℕ} (n : Narrowest ps P e) where
    e-in : e < length ps
    e-in = n.edges-in e n.among

    all_in : (f : ℕ) → Q f → f < length ps
    all_in f q = ⊎_elim (λ p. n.edges-in f p) (λ r. rw r h) (m.only f q)

    -- e is no wider than k, and is the first of the two or narrower
    pub narrowest-keep : no_wider ps e k ≡ true → (k < e → no_wider ps k e ≡ false) → Narrowest ps Q e
    narrowest-keep test first = record {
      edges-in = all_in;
      among = m.old e n.among;
      least = λ f q. ⊎_elim (λ p. n.least f p) (λ r. rw r test) (m.only f q);
      sole = λ f q l. ⊎_elim (λ p. n.sole f p l) (λ r. rw r (first (omega arith))) (m.only f q);
    }

    -- k is no wider than e, which is no wider than any of P: so is k; those of P before k are wider than k
    pub narrowest-replace : no_wider ps k e ≡ true → (e < k → no_wider ps e k ≡ false) → Narrowest ps Q k
    narrowest-replace test first = record {
      edges-in = all_in;
      among = m.new;
      least = λ f q. ⊎_elim (λ p. no_wider-trans ps s long k e f h e-in (n.edges-in f p) test (n.least f p))
          (λ r. rw r (no_wider-refl ps k)) (m.only f q);
      sole = λ f q l. ⊎_elim (λ p. wider f p l (no_wider ps f k) refl) (λ r. absurd (omega arith)) (m.only f q);
    }
      where
        wider : (f : ℕ) → P f → f < k → (b : Bool) → no_wider ps f k ≡ b → b ≡ false
        wider f p l false q = refl
        wider f p l true q = go (ltb f e) refl
          where
            go : (b : Bool) → ltb f e ≡ b → true ≡ false
            go true r = true-not-false (no_wider-trans ps s long f k e (n.edges-in f p) h e-in q test) (n.sole f p (ltb-true f e r))
            go false r = true-not-false (no_wider-trans ps s long e f k e-in (n.edges-in f p) h (n.least f p) q)
                (first (omega (arith, ltb-false f e r)))

pub narrowest-done : {ps : List Point} {e : ℕ} → Narrowest ps (λ f. f < length ps) e → width_edge ps ≡ e
unfolding width_edge
narrowest-done {ps} {e} n = first-unique (λ k. every (no_wider ps k) (length ps)) (length ps) e
    (omega (arith, n.among)) (λ h. all-every (no_wider ps e) (length ps) n.least)
    (λ k l. not-every (no_wider ps k) (length ps) e n.among (n.sole k (omega (arith, n.among)) l))

-- ---- there is one

-- one edge more in their order
next_edge : (k : ℕ) → More (λ f. f < k) (λ f. f < suc k) k
next_edge k = record { new = omega arith; old = λ f p. omega arith; only = λ f q. go f q (ltb f k) refl }
  where
    go : (f : ℕ) → f < suc k → (b : Bool) → ltb f k ≡ b → (f < k) ⊎ (f ≡ k)
    go f q true e = inl (ltb-true f k e)
    go f q false e = inr (omega (arith, ltb-false f k e))

module _ {ps : List Point} (s : IsShape ps) (long : 2 < length ps) where
  best_of : (k : ℕ) → k < length ps → (e : ℕ) × Narrowest ps (λ f. f < suc k) e
  best_of zero h = (0, narrowest-one s long h (next_edge 0) (λ f p. absurd (omega arith)))
  best_of (suc k) h = go (best_of k (omega arith))
    where
      go : (e : ℕ) × Narrowest ps (λ f. f < suc k) e → (e : ℕ) × Narrowest ps (λ f. f < suc (suc k)) e
      go (e, n) = keep (no_wider ps e (suc k)) refl
        where
          keep : (b : Bool) → no_wider ps e (suc k) ≡ b → (e : ℕ) × Narrowest ps (λ f. f < suc (suc k)) e
          keep true q = (e, narrowest-keep s long h (next_edge (suc k)) n q (λ l. absurd (omega (arith, n.among))))
          keep false q = (suc k, narrowest-replace s long h (next_edge (suc k)) n (wider-no_wider ps e (suc k) q) (λ l. q))

  -- of all edges, the edge of the width is the first with the least t·t/q
  pub width-narrowest : Narrowest ps (λ f. f < length ps) (width_edge ps)
  width-narrowest = go (best_of (pred (length ps)) (omega arith))
    where
      all : suc (pred (length ps)) ≡ length ps
      all = omega arith

      go : (e : ℕ) × Narrowest ps (λ f. f < suc (pred (length ps))) e → Narrowest ps (λ f. f < length ps) (width_edge ps)
      go (e, n) = let last = subst (λ k. Narrowest ps (λ f. f < k) e) all n in
          subst (Narrowest ps (λ f. f < length ps)) (sym (narrowest-done last)) last
