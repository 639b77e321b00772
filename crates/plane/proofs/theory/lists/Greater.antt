-- The greater of two integers.
--     left-le-greater, right-le-greater, greater-least    it is the least number above both
--     greater-either                              it is one of the two
--     greater-comm, greater-assoc, greater-idem           it is commutative, associative, idempotent
--     plus-greater, greater-plus                      the sum distributes over it, from the left and from the right
--     times-greater                               so does the product by a number that is not negative
use Rattle.std.specs.Prelude.{◌≡◌, refl, Bool, true, false, [], ◌∷◌, ◌⊎◌, ℤ, pos, ◌+ℤ◌, ◌*ℤ◌, ◌≤ℤ◌}
use Rattle.std.proofs.Common.{inl, inr, arith}
use Rattle.std.proofs.Math.IntN.{+ℤ_comm}
use Rattle.std.specs.Int.Signed.{le_z, ≤ℤ_refl}
use Rattle.integer.specs.Linear.{lia, linear}
use Rattle.integer.specs.Order.{◌≤×≤◌, weaken, le_trans, le_antisym, le_z-true, le_z-false}
use Rattle.plane.specs.Direction.{greater}

-- ---- the least number above both

pub left-le-greater : (a b : ℤ) → a ≤ℤ greater a b
unfolding greater
left-le-greater a b = go (le_z a b) refl
  where
    go : (t : Bool) → le_z a b ≡ t → a ≤ℤ elim t [ true ↦ b | false ↦ a ]
    go true e = le_z-true e
    go false e = ≤ℤ_refl a

pub right-le-greater : (a b : ℤ) → b ≤ℤ greater a b
unfolding greater
right-le-greater a b = go (le_z a b) refl
  where
    go : (t : Bool) → le_z a b ≡ t → b ≤ℤ elim t [ true ↦ b | false ↦ a ]
    go true e = ≤ℤ_refl b
    go false e = weaken (le_z-false e)

pub greater-either : (a b : ℤ) → (greater a b ≡ a) ⊎ (greater a b ≡ b)
unfolding greater
greater-either a b = go (le_z a b)
  where
    go : (t : Bool) → (elim t [ true ↦ b | false ↦ a ] ≡ a) ⊎ (elim t [ true ↦ b | false ↦ a ] ≡ b)
    go true = inr refl
    go false = inl refl

pub greater-least : {a b c : ℤ} → a ≤ℤ c → b ≤ℤ c → greater a b ≤ℤ c
greater-least {a} {b} {c} h k = go (greater-either a b)
  where
    go : (greater a b ≡ a) ⊎ (greater a b ≡ b) → greater a b ≤ℤ c
    go (inl e) = rw e h
    go (inr e) = rw e k

-- ---- algebra

pub greater-comm : (a b : ℤ) → greater a b ≡ greater b a
greater-comm a b =
    le_antisym (greater-least (right-le-greater b a) (left-le-greater b a)) (greater-least (right-le-greater a b) (left-le-greater a b))

pub greater-idem : (a : ℤ) → greater a a ≡ a
greater-idem a = le_antisym (greater-least (≤ℤ_refl a) (≤ℤ_refl a)) (left-le-greater a a)

pub greater-assoc : (a b c : ℤ) → greater (greater a b) c ≡ greater a (greater b c)
greater-assoc a b c = le_antisym
    (greater-least
    (greater-least (left-le-greater a (greater b c)) (le_trans (left-le-greater b c) (right-le-greater a (greater b c))))
    (le_trans (right-le-greater b c) (right-le-greater a (greater b c))))
    (greater-least
    (le_trans (left-le-greater a b) (left-le-greater (greater a b) c))
    (greater-least (le_trans (right-le-greater a b) (left-le-greater (greater a b) c)) (right-le-greater (greater a b) c)))

-- ---- sums

-- one of b and c is the greater, and stays so
pub plus-greater : (a b c : ℤ) → a +ℤ greater b c ≡ greater (a +ℤ b) (a +ℤ c)
plus-greater a b c = go (greater-either b c)
  where
    above : greater (a +ℤ b) (a +ℤ c) ≤ℤ (a +ℤ greater b c)
    above = greater-least
        (lia (a ∷ b ∷ greater b c ∷ []) (left-le-greater b c) (search linear depth 40) (omega arith))
        (lia (a ∷ c ∷ greater b c ∷ []) (right-le-greater b c) (search linear depth 40) (omega arith))

    go : (greater b c ≡ b) ⊎ (greater b c ≡ c) → a +ℤ greater b c ≡ greater (a +ℤ b) (a +ℤ c)
    go (inl e) = le_antisym (rw e (left-le-greater (a +ℤ b) (a +ℤ c))) above
    go (inr e) = le_antisym (rw e (right-le-greater (a +ℤ b) (a +ℤ c))) above

pub greater-plus : (a b c : ℤ) → greater a b +ℤ c ≡ greater (a +ℤ c) (b +ℤ c)
greater-plus a b c = rw (+ℤ_comm (greater a b) c, +ℤ_comm a c, +ℤ_comm b c) (plus-greater c a b)

pub times-greater : {m : ℤ} → pos 0 ≤ℤ m → (b c : ℤ) → m *ℤ greater b c ≡ greater (m *ℤ b) (m *ℤ c)
times-greater {m} h b c = go (greater-either b c)
  where
    above : greater (m *ℤ b) (m *ℤ c) ≤ℤ (m *ℤ greater b c)
    above = greater-least
        (lia (m ∷ b ∷ greater b c ∷ []) (h ≤×≤ left-le-greater b c) (search linear depth 40) (omega arith))
        (lia (m ∷ c ∷ greater b c ∷ []) (h ≤×≤ right-le-greater b c) (search linear depth 40) (omega arith))

    go : (greater b c ≡ b) ⊎ (greater b c ≡ c) → m *ℤ greater b c ≡ greater (m *ℤ b) (m *ℤ c)
    go (inl e) = le_antisym (rw e (left-le-greater (m *ℤ b) (m *ℤ c))) above
    go (inr e) = le_antisym (rw e (right-le-greater (m *ℤ b) (m *ℤ c))) above
