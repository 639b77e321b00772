-- Below, as a fact about all corners of two lists, and as the code tests it.
--     below→all, all→below      "every corner of the first is strictly below every corner of the second"
--     below→apart               then the lists are apart
--     below-support             by the greatest value of the first, and the greatest of the second in the opposite direction
--     negative→below            if all differences have a value below 0
--     below→nonzero             in the direction (0,0) none is below another
use Rattle.std.specs.Prelude.{◌≡◌, Bool, true, List, [], ◌∷◌, ℕ, ◌<◌, pos, neg_ℤ, length, ◌<ℤ◌}
use Rattle.std.proofs.Common.{◌∙◌, sym, arith}
use Rattle.std.specs.Int.Signed.{lt_z}
use Rattle.integer.specs.Linear.{linear, lia, ◌&◌}
use Rattle.integer.specs.Order.{lt_z-true, lt-lt_z}
use Rattle.plane.specs.Point.{Point, corner, opposite, ◌⊕◌, ◌∈◌}
use Rattle.plane.specs.Search.{every}
use Rattle.plane.specs.Direction.{value, support}
use Rattle.plane.specs.Forms.{NonZero}
use Rattle.plane.specs.Corner.{shape_of}
use Rattle.plane.specs.Separation.{differences, apart}
use Rattle.plane.proofs.theory.lists.Members.{member-position, position-member}
use Rattle.plane.proofs.theory.lists.Sought.{every-all, all-every, tests_agree}
use Rattle.plane.proofs.theory.forms.Vector.{value-turned, below-non-zero}
use Rattle.plane.proofs.theory.support.Support.{value-le-support, support-attained}
use Rattle.plane.proofs.theory.hull.ShapeOf.{shape_of-support}
use Rattle.separation.specs.theory.Apart.{value-difference, differences-some, difference-member, direction→apart}
use Rattle.plane.specs.Offer.{below}

module _ (d : Point) (A B : List Point) where
  -- the corners at two positions
  abbrev one_below : ℕ → ℕ → Bool
  one_below i j = lt_z (value d (corner A i)) (value d (corner B j))

  pub below→all : below d A B ≡ true → (p q : Point) → p ∈ A → q ∈ B → value d p <ℤ value d q
  unfolding below
  below→all h p q m n =
      let (i, k, e) = member-position m in
      let (j, l, f) = member-position n in
      let row = every-all (λ i. every (one_below i) (length B)) (length A) h i k in
      rw (← e, ← f) (lt_z-true (every-all (one_below i) (length B) row j l))

  pub all→below : ((p q : Point) → p ∈ A → q ∈ B → value d p <ℤ value d q) → below d A B ≡ true
  unfolding below
  all→below f = all-every (λ i. every (one_below i) (length B)) (length A)
      (λ i k. all-every (one_below i) (length B) (λ j l. lt-lt_z (f _ _ (position-member A i k) (position-member B j l))))

  module _ (a : 0 < length A) (b : 0 < length B) where
    pub below→apart : below d A B ≡ true → apart A B ≡ true
    below→apart h = direction→apart A B a b (record { direction = d; below = below→all h })

    pub below-support : lt_z (support d A) (neg_ℤ (support (opposite d) B)) ≡ below d A B
    below-support = tests_agree _ _ (λ h. all→below (each (lt_z-true h))) (λ h. lt-lt_z (greatest (below→all h)))
      where
        each : support d A <ℤ neg_ℤ (support (opposite d) B) → (p q : Point) → p ∈ A → q ∈ B → value d p <ℤ value d q
        each h p q m n = lia (value d p ∷ value d q ∷ value (opposite d) q ∷ support d A ∷ support (opposite d) B ∷ [])
            (h & value-le-support d m & value-le-support (opposite d) n & value-turned d q) (search linear depth 40) (omega arith)

        greatest : ((p q : Point) → p ∈ A → q ∈ B → value d p <ℤ value d q) → support d A <ℤ neg_ℤ (support (opposite d) B)
        greatest f =
            let p = support-attained d A a in
            let q = support-attained (opposite d) B b in
            lia (value d p.at ∷ value d q.at ∷ support d A ∷ support (opposite d) B ∷ [])
            (f p.at q.at p.at_in q.at_in & p.at_value & sym (value-turned d q.at) ∙ q.at_value)
            (search linear depth 40) (omega arith)

    pub negative→below : support d (shape_of (differences A B)) <ℤ pos 0 → below d A B ≡ true
    negative→below h = all→below (λ p q m n.
        lia (value d p ∷ value d q ∷ value d (p ⊕ opposite q) ∷ support d (differences A B) ∷ support d (shape_of (differences A B)) ∷ [])
        (h & shape_of-support (differences A B) (differences-some A B a b) d & value-le-support d (difference-member m n)
        & value-difference d p q) (search linear depth 40) (omega arith))

    pub below→nonzero : below d A B ≡ true → NonZero d
    below→nonzero h = below-non-zero d (corner A 0) (corner B 0) (below→all h _ _ (position-member A 0 a) (position-member B 0 b))
