-- What is answered of two good shapes: the first pair of corners at the greatest distance.
--     first-furthest, furthest-first     the numbers are those of the first pair, and of no other
--     greatest-reply                     they are what is answered, and nothing else is
--     greatest-moved                     shapes that are moved alike answer the same
use Rattle.std.specs.Prelude.{◌≡◌, refl, List, [], ◌∷◌, map, ◌↔◌, ℕ, zero, suc, ◌<◌, ℤ, pos, length}
use Rattle.std.proofs.Common.{sym, ◌∙◌, ap, ap₂, not-suc-le-zero, arith}
use Rattle.std.proofs.lemmas.List.{length-map}
use Rattle.integer.specs.Ring.{ring, reify}
use Rattle.integer.specs.Order.{le_of_eq, le_trans, le_antisym}
use Rattle.plane.specs.Point.{Point, corner, ◌⊕◌}
use Rattle.plane.specs.Measure.{squared}
use Rattle.plane.specs.Reply.{answered}
use Rattle.plane.specs.Floor.{Floored, corners, Same}
use Rattle.plane.specs.Question.{values, reply}
use Rattle.plane.proofs.theory.refusals.Asked.{asked-none, asked-values, rest-none}
use Rattle.reach.specs.Greatest.{greatest_squared, greatest_first, greatest_second, greatest_numbers, ask_greatest}
use Rattle.reach.specs.Extremes.{FirstFurthest}
use Rattle.reach.specs.theory.Furthest.{squared-le-greatest, Furthest, greatest-furthest, first-least, second-least}

module _ (A B : List Point) (a : 0 < length A) (b : 0 < length B) where
  far : Furthest A B (greatest_first A B) (greatest_second A B)
  far = greatest-furthest A B a b

  pub furthest-first : FirstFurthest A B (greatest_squared A B) (greatest_first A B) (greatest_second A B)
  furthest-first = record {
    first-in = far.first-in;
    second-in = far.second-in;
    has = far.furthest;
    greatest = λ k l m n. squared-le-greatest A B k l m n;
    smallest-i = λ k l m n e. first-least A B (record { first-in = m; second-in = n; furthest = e });
    smallest-j = λ l m e. second-least A B (record { first-in = far.first-in; second-in = m; furthest = e });
  }

  module _ {d : ℤ} {i j : ℕ} (s : FirstFurthest A B d i j) where
    first-squared : d ≡ greatest_squared A B
    first-squared = le_antisym
        (le_trans (le_of_eq (sym s.has)) (squared-le-greatest A B i j s.first-in s.second-in))
        (le_trans (le_of_eq (sym far.furthest)) (s.greatest _ _ far.first-in far.second-in))

    first-position : i ≡ greatest_first A B
    first-position = omega (
      arith,
      first-least A B (record { first-in = s.first-in; second-in = s.second-in; furthest = s.has ∙ first-squared }),
      s.smallest-i _ _ far.first-in far.second-in (far.furthest ∙ sym first-squared),
    )

    second-position : j ≡ greatest_second A B
    second-position = let same = first-position in omega (
      arith,
      second-least A B (record {
        first-in = far.first-in;
        second-in = s.second-in;
        furthest = ap (λ k. squared (corner A k) (corner B j)) (sym same) ∙ s.has ∙ first-squared;
      }),
      s.smallest-j _ far.second-in
          (ap (λ k. squared (corner A k) (corner B (greatest_second A B))) same ∙ far.furthest ∙ sym first-squared),
    )

    pub first-furthest : d ∷ pos i ∷ pos j ∷ [] ≡ greatest_numbers A B
    first-furthest = cc (first-squared, first-position, second-position)

module _ (a b : Floored) (s : Same a b) (d : ℤ) (i j : ℕ) where
  pub greatest-reply : (reply (ask_greatest a b) ≡ answered (d ∷ pos i ∷ pos j ∷ pos a.floor ∷ []))
      ↔ FirstFurthest (corners a) (corners b) d i j
  greatest-reply = (
    λ h. told (asked-values (ask_greatest a b) _ h),
    λ f. asked-none (ask_greatest a b) (rest-none (ask_greatest a b) s tt) ∙ tells f,
  )
    where
      told : d ∷ pos i ∷ pos j ∷ pos a.floor ∷ [] ≡ values (ask_greatest a b) → FirstFurthest (corners a) (corners b) d i j
      told same =
          let p : d ≡ greatest_squared (corners a) (corners b) = cc same in
          let q : i ≡ greatest_first (corners a) (corners b) = cc same in
          let r : j ≡ greatest_second (corners a) (corners b) = cc same in
          rw (p, q, r) (furthest-first (corners a) (corners b) s.first-valid.shape.some s.second-valid.shape.some)

      tells : FirstFurthest (corners a) (corners b) d i j
          → answered (values (ask_greatest a b)) ≡ answered (d ∷ pos i ∷ pos j ∷ pos a.floor ∷ [])
      tells f =
          let same = first-furthest (corners a) (corners b) s.first-valid.shape.some s.second-valid.shape.some f in
          cc same

-- ---- moved

moved-corner : (t : Point) (ps : List Point) (i : ℕ) → i < length ps → corner (map (λ p. p ⊕ t) ps) i ≡ corner ps i ⊕ t
moved-corner t [] i h = absurd (not-suc-le-zero h)
moved-corner t (p ∷ ps) zero h = refl
moved-corner t (p ∷ ps) (suc i) h = moved-corner t ps i (omega arith)

moved-squared : (t p q : Point) → squared (p ⊕ t) (q ⊕ t) ≡ squared p q
unfolding squared
moved-squared t p q = ring (t.x ∷ t.y ∷ p.x ∷ p.y ∷ q.x ∷ q.y ∷ []) (search reify depth 40) tt

module _ (t : Point) (A B : List Point) (a : 0 < length A) (b : 0 < length B) where
  abbrev C : List Point
  C = map (λ p. p ⊕ t) A

  abbrev D : List Point
  D = map (λ p. p ⊕ t) B

  same : (i j : ℕ) → i < length A → j < length B → squared (corner C i) (corner D j) ≡ squared (corner A i) (corner B j)
  same i j h k = ap₂ squared (moved-corner t A i h) (moved-corner t B j k) ∙ moved-squared t (corner A i) (corner B j)

  -- the first pair of the shapes is that of the moved ones
  moved-first : FirstFurthest C D (greatest_squared A B) (greatest_first A B) (greatest_second A B)
  moved-first = let f = furthest-first A B a b in record {
    first-in = rw (length-map A (λ (p : Point). p ⊕ t)) f.first-in;
    second-in = rw (length-map B (λ (p : Point). p ⊕ t)) f.second-in;
    has = same _ _ f.first-in f.second-in ∙ f.has;
    greatest = λ k l m n.
        let m = rw (length-map A (λ (p : Point). p ⊕ t)) at m in
        let n = rw (length-map B (λ (p : Point). p ⊕ t)) at n in
        le_trans (le_of_eq (same k l m n)) (f.greatest k l m n);
    smallest-i = λ k l m n e.
        let m = rw (length-map A (λ (p : Point). p ⊕ t)) at m in
        let n = rw (length-map B (λ (p : Point). p ⊕ t)) at n in
        f.smallest-i k l m n (sym (same k l m n) ∙ e);
    smallest-j = λ l n e.
        let n = rw (length-map B (λ (p : Point). p ⊕ t)) at n in
        f.smallest-j l n (sym (same _ l f.first-in n) ∙ e);
  }

  pub greatest-moved : greatest_numbers C D ≡ greatest_numbers A B
  greatest-moved = sym (first-furthest C D (rw (length-map A (λ (p : Point). p ⊕ t)) a)
      (rw (length-map B (λ (p : Point). p ⊕ t)) b) moved-first)
