-- The outermost corner: found by keeping the furthest so far.
--     Furthest N O k i                     of the first k corners of N, corner i is the first that is no nearer to O than any
--     furthest-start, -keep, -replace      the moves of the search; `furthest-done`: of all corners it is the outermost
--     outermost-furthest                   there is one, so the outermost corner is it
--     outermost-only                       what meets the rule, in fractions, is the outermost corner
--     outermost-among                      it is a corner of N
--     excess-greatest                      no corner is further than the excess; `earlier-nearer`: those before the outermost are nearer
--     excess-whole, excess-nonneg          what it is divided by is above 0, and it is not below 0
use Rattle.std.specs.Prelude.{◌≡◌, refl, Bool, true, false, List, [], ◌∷◌, ℕ, zero, suc, pred, ◌<◌, ℤ, pos, ◌*ℤ◌, length, ◌≤ℤ◌, ◌<ℤ◌}
use Rattle.std.proofs.Common.{sym, subst, arith, below_more}
use Rattle.std.specs.Int.Signed.{≤ℤ_refl}
use Rattle.integer.specs.Linear.{linear, lia, ◌&◌}
use Rattle.integer.specs.Order.{◌<×<◌, ◌≤×<◌, contra≤, weaken, le_z-true, le_z-false, le-le_z, lt-le_z}
use Rattle.plane.specs.Point.{Point, corner}
use Rattle.plane.specs.Search.{every}
use Rattle.plane.specs.Shape.{IsShape}
use Rattle.plane.proofs.theory.lists.Sought.{first-unique, all-every, not-every, true-not-false}
use Rattle.plane.specs.Distance.{Fraction}
use Rattle.excess.specs.Excess.{beyond, no_nearer, outermost, excess}
use Rattle.excess.proofs.theory.Beyond.{beyond-whole, beyond-nonneg}

-- s/p ≥ t/q and t/q ≥ u/r: bring all to the denominator p·q·r
fraction-trans : (s t u p q r : ℤ) → pos 0 <ℤ p → pos 0 <ℤ q → pos 0 <ℤ r → (t *ℤ p) ≤ℤ (s *ℤ q) → (u *ℤ q) ≤ℤ (t *ℤ r)
    → (u *ℤ p) ≤ℤ (s *ℤ r)
fraction-trans s t u p q r hp hq hr a b = contra≤ (λ g.
    lia (s ∷ t ∷ u ∷ p ∷ q ∷ r ∷ []) (a ≤×< hr & b ≤×< hp & g <×< hq) (search linear depth 40) (omega arith))

pub record Furthest (N O : List Point) (k i : ℕ) : Type 0 where
  pub among : i < k
  pub none-further : (j : ℕ) → j < k → no_nearer N O i j ≡ true
  pub earlier-nearer : (j : ℕ) → j < i → no_nearer N O j i ≡ false

module _ (N O : List Point) where
  abbrev far : ℕ → Fraction
  far i = beyond (corner N i) O

  -- the test as a fact
  pub no_nearer-le : (i j : ℕ) → no_nearer N O i j ≡ true
      → ((far j).numerator *ℤ (far i).denominator) ≤ℤ ((far i).numerator *ℤ (far j).denominator)
  unfolding no_nearer
  no_nearer-le i j h = le_z-true h

  pub nearer-lt : (i j : ℕ) → no_nearer N O i j ≡ false
      → ((far i).numerator *ℤ (far j).denominator) <ℤ ((far j).numerator *ℤ (far i).denominator)
  unfolding no_nearer
  nearer-lt i j h = le_z-false h

  pub le-no_nearer : (i j : ℕ) → ((far j).numerator *ℤ (far i).denominator) ≤ℤ ((far i).numerator *ℤ (far j).denominator)
      → no_nearer N O i j ≡ true
  unfolding no_nearer
  le-no_nearer i j h = le-le_z h

  pub lt-nearer : (i j : ℕ) → ((far i).numerator *ℤ (far j).denominator) <ℤ ((far j).numerator *ℤ (far i).denominator)
      → no_nearer N O i j ≡ false
  unfolding no_nearer
  lt-nearer i j h = lt-le_z h

  no_nearer-refl : (i : ℕ) → no_nearer N O i i ≡ true
  no_nearer-refl i = le-no_nearer i i (≤ℤ_refl ((far i).numerator *ℤ (far i).denominator))

  nearer-no_nearer : (i j : ℕ) → no_nearer N O i j ≡ false → no_nearer N O j i ≡ true
  nearer-no_nearer i j h = le-no_nearer j i (weaken (nearer-lt i j h))

  pub furthest-start : Furthest N O 1 0
  furthest-start = record {
    among = omega arith;
    none-further = λ j h. subst (λ k. no_nearer N O 0 k ≡ true) (omega arith) (no_nearer-refl 0);
    earlier-nearer = λ j h. absurd (omega arith);
  }

  module _ (s : IsShape O) where
    no_nearer-trans : (i j k : ℕ) → no_nearer N O i j ≡ true → no_nearer N O j k ≡ true → no_nearer N O i k ≡ true
    no_nearer-trans i j k a b = le-no_nearer i k (fraction-trans (far i).numerator (far j).numerator (far k).numerator
        (far i).denominator (far j).denominator (far k).denominator (beyond-whole (corner N i) O s) (beyond-whole (corner N j) O s)
        (beyond-whole (corner N k) O s) (no_nearer-le i j a) (no_nearer-le j k b))

    module _ {k i : ℕ} (f : Furthest N O k i) where
      pub furthest-keep : no_nearer N O i k ≡ true → Furthest N O (suc k) i
      furthest-keep test = record {
        among = omega (arith, f.among);
        none-further = λ j h. below_more (λ m. no_nearer N O i m ≡ true) k f.none-further test j (omega arith);
        earlier-nearer = f.earlier-nearer;
      }

      -- corner k is further than i, and no corner before it is further than i
      pub furthest-replace : no_nearer N O i k ≡ false → Furthest N O (suc k) k
      furthest-replace test = record {
        among = omega arith;
        none-further = λ j h. below_more (λ m. no_nearer N O k m ≡ true) k
            (λ m l. no_nearer-trans k i m (nearer-no_nearer i k test) (f.none-further m l)) (no_nearer-refl k) j (omega arith);
        earlier-nearer = λ j h. nearer j h (no_nearer N O j k) refl;
      }
        where
          nearer : (j : ℕ) → j < k → (t : Bool) → no_nearer N O j k ≡ t → t ≡ false
          nearer j h false e = refl
          nearer j h true e = true-not-false (no_nearer-trans i j k (f.none-further j h) e) test

  pub furthest-done : {i : ℕ} → Furthest N O (length N) i → outermost N O ≡ i
  unfolding outermost
  furthest-done {i} f = first-unique (λ k. every (no_nearer N O k) (length N)) (length N) i
      (omega (arith, f.among)) (λ h. all-every (no_nearer N O i) (length N) f.none-further)
      (λ k l. not-every (no_nearer N O k) (length N) i f.among (f.earlier-nearer k l))

  -- the rule in fractions: no corner is further than i, and each before it is nearer
  pub outermost-only : (i : ℕ) → i < length N
      → ((j : ℕ) → j < length N → ((far j).numerator *ℤ (far i).denominator) ≤ℤ ((far i).numerator *ℤ (far j).denominator))
      → ((j : ℕ) → j < i → ((far j).numerator *ℤ (far i).denominator) <ℤ ((far i).numerator *ℤ (far j).denominator)) → i ≡ outermost N O
  outermost-only i l most less = sym (furthest-done (record {
    among = l;
    none-further = λ j k. le-no_nearer i j (most j k);
    earlier-nearer = λ j k. lt-nearer j i (less j k);
  }))

-- ---- there is one

module _ (N O : List Point) (some : 0 < length N) (s : IsShape O) where
  furthest-of : (k : ℕ) → (i : ℕ) × Furthest N O (suc k) i
  furthest-of zero = (0, furthest-start N O)
  furthest-of (suc k) = go (furthest-of k)
    where
      go : (i : ℕ) × Furthest N O (suc k) i → (i : ℕ) × Furthest N O (suc (suc k)) i
      go (i, f) = keep (no_nearer N O i (suc k)) refl
        where
          keep : (t : Bool) → no_nearer N O i (suc k) ≡ t → (i : ℕ) × Furthest N O (suc (suc k)) i
          keep true e = (i, furthest-keep N O s f e)
          keep false e = (suc k, furthest-replace N O s f e)

  pub outermost-furthest : Furthest N O (length N) (outermost N O)
  outermost-furthest =
      let (i, f) = furthest-of (pred (length N)) in
      let all : suc (pred (length N)) ≡ length N = omega arith in
      let last : Furthest N O (length N) i = subst (λ k. Furthest N O k i) all f in
      subst (Furthest N O (length N)) (sym (furthest-done N O last)) last

  pub outermost-among : outermost N O < length N
  outermost-among = outermost-furthest.among

  pub excess-greatest : (i : ℕ) → i < length N → let f = beyond (corner N i) O in
      (f.numerator *ℤ (excess N O).denominator) ≤ℤ ((excess N O).numerator *ℤ f.denominator)
  unfolding excess
  excess-greatest i h = no_nearer-le N O (outermost N O) i (outermost-furthest.none-further i h)

  pub earlier-nearer : (i : ℕ) → i < outermost N O → let f = beyond (corner N i) O in
      (f.numerator *ℤ (excess N O).denominator) <ℤ ((excess N O).numerator *ℤ f.denominator)
  unfolding excess
  earlier-nearer i h = nearer-lt N O i (outermost N O) (outermost-furthest.earlier-nearer i h)

  pub excess-whole : pos 0 <ℤ (excess N O).denominator
  unfolding excess
  excess-whole = beyond-whole (corner N (outermost N O)) O s

  pub excess-nonneg : pos 0 ≤ℤ (excess N O).numerator
  unfolding excess
  excess-nonneg = beyond-nonneg (corner N (outermost N O)) O s
