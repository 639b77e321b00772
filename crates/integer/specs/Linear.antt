-- Linear arithmetic over ℤ in one line, by `omega`. A statement made of ≤ℤ, <ℤ and ≡ over ℤ, of orders and equations of ℕ, ×, → and ⊥
-- is turned into one over ℕ, whose atoms are the parts above and below 0 of each monomial:
--     lia (x ∷ y ∷ []) (p & q) (search linear depth 40) (omega arith)      proves the goal from p and q; `tt` for no facts
-- The atoms may be multiplied: a product of atoms counts as an atom of its own, so facts that are products of facts (`◌<×<◌`, in
-- `Order.antt`) make it prove what is not linear.
--     Says ρ A      a statement over ℕ that is equivalent to A; `search linear` finds it
--     lia           A → C, from its statement over ℕ
use Rattle.std.specs.Prelude.{◌≡◌, refl, List, [], ◌∷◌, ℕ, suc, ◌+◌, ◌*◌, ◌≤◌, ◌<◌, ℤ, pos, negsuc, ◌+ℤ◌, ◌-ℤ◌, ◌*ℤ◌, ◌≤ℤ◌, ◌<ℤ◌}
use Rattle.std.proofs.Common.{◌∙◌, ap₂, subst, arith}
use Rattle.integer.specs.Polynomial.{add, neg, Poly, none, term, value, product, norm-sound}
use Rattle.integer.specs.Ring.{
  Is,
  minus,
  at0,
  at1,
  at2,
  at3,
  at4,
  at5,
  at6,
  at7,
  at8,
  at9,
  at10,
  at11,
  at12,
  at13,
  at14,
  at15,
  is-add,
  is_mul,
  is-neg,
  is_pos,
  is-negsuc,
}
use Rattle.integer.specs.Parts.{
  above,
  below,
  Differs,
  differs-own,
  differs-add,
  differs-neg,
  differs-scale,
  differs-scale-neg,
  le_parts,
  parts-le,
  lt-parts,
  parts-lt,
  eq-parts,
  parts-eq,
}

-- ---- a polynomial as a difference of two sums over ℕ

abbrev pub upper : List ℤ → Poly → ℕ
upper ρ none = 0
upper ρ (term (pos n) m p) = n * above (product ρ m) + upper ρ p
upper ρ (term (negsuc n) m p) = suc n * below (product ρ m) + upper ρ p

abbrev pub lower : List ℤ → Poly → ℕ
lower ρ none = 0
lower ρ (term (pos n) m p) = n * below (product ρ m) + lower ρ p
lower ρ (term (negsuc n) m p) = suc n * above (product ρ m) + lower ρ p

value-parts : (ρ : List ℤ) (p : Poly) → Differs (value ρ p) (upper ρ p) (lower ρ p)
value-parts ρ none = record { same = refl }
value-parts ρ (term (pos n) m p) = differs-add (differs-scale n (differs-own (product ρ m))) (value-parts ρ p)
value-parts ρ (term (negsuc n) m p) = differs-add (differs-scale-neg n (differs-own (product ρ m))) (value-parts ρ p)

module _ (ρ : List ℤ) {x y : ℤ} (p : Is ρ x) (q : Is ρ y) where
  -- y - x as the polynomial of the two expressions
  abbrev pub gap : Poly
  gap = minus q.expr p.expr

  gap-value : value ρ gap ≡ y -ℤ x
  gap-value = norm-sound ρ (add q.expr (neg p.expr)) ∙ ap₂ (λ a b. a -ℤ b) q.ok p.ok

  gap_parts : Differs (y -ℤ x) (upper ρ gap) (lower ρ gap)
  gap_parts = subst (λ z. Differs z (upper ρ gap) (lower ρ gap)) gap-value (value-parts ρ gap)

  -- y - x two ways: by the polynomial and by the parts of x and y
  gap_same : upper ρ gap + (below y + above x) ≡ above y + below x + lower ρ gap
  gap_same = eq-parts gap_parts (differs-add (differs-own y) (differs-neg (differs-own x))) refl

  pub le-to : x ≤ℤ y → lower ρ gap ≤ upper ρ gap
  le-to h = omega (arith, gap_same, le_parts (differs-own x) (differs-own y) h)

  pub le_from : lower ρ gap ≤ upper ρ gap → x ≤ℤ y
  le_from h = parts-le (differs-own x) (differs-own y) (omega (arith, gap_same))

  pub lt-to : x <ℤ y → lower ρ gap < upper ρ gap
  lt-to h = omega (arith, gap_same, lt-parts (differs-own x) (differs-own y) h)

  pub lt-from : lower ρ gap < upper ρ gap → x <ℤ y
  lt-from h = parts-lt (differs-own x) (differs-own y) (omega (arith, gap_same))

  pub eq-to : x ≡ y → lower ρ gap ≡ upper ρ gap
  eq-to h = omega (arith, gap_same, eq-parts (differs-own x) (differs-own y) h)

  pub eq-from : lower ρ gap ≡ upper ρ gap → x ≡ y
  eq-from h = parts-eq (differs-own x) (differs-own y) (omega (arith, gap_same))

-- ---- statements

pub record Says (ρ : List ℤ) (A : Type 0) : Type 1 where
  pub nat : Type 0
  pub to : A → nat
  pub from : nat → A

abbrev pub says-le : {ρ : List ℤ} {x y : ℤ} → Is ρ x → Is ρ y → Says ρ (x ≤ℤ y)
says-le {ρ} p q = record { nat = lower ρ (gap ρ p q) ≤ upper ρ (gap ρ p q); to = le-to ρ p q; from = le_from ρ p q }

abbrev pub says-lt : {ρ : List ℤ} {x y : ℤ} → Is ρ x → Is ρ y → Says ρ (x <ℤ y)
says-lt {ρ} p q = record { nat = lower ρ (gap ρ p q) < upper ρ (gap ρ p q); to = lt-to ρ p q; from = lt-from ρ p q }

abbrev pub says_eq : {ρ : List ℤ} {x y : ℤ} → Is ρ x → Is ρ y → Says ρ (x ≡ y)
says_eq {ρ} p q = record { nat = lower ρ (gap ρ p q) ≡ upper ρ (gap ρ p q); to = eq-to ρ p q; from = eq-from ρ p q }

abbrev pub says_both : {ρ : List ℤ} {A B : Type 0} → Says ρ A → Says ρ B → Says ρ (A × B)
says_both p q = record {
  nat = p.nat × q.nat;
  to = λ h. (p.to h.0, q.to h.1);
  from = λ h. (p.from h.0, q.from h.1);
}

abbrev pub says-implies : {ρ : List ℤ} {A B : Type 0} → Says ρ A → Says ρ B → Says ρ (A → B)
says-implies p q = record { nat = p.nat → q.nat; to = λ f h. q.to (f (p.from h)); from = λ f h. q.from (f (p.to h)) }

-- what is of ℕ already stays
abbrev pub says_same : (ρ : List ℤ) (A : Type 0) → Says ρ A
says_same ρ A = record { nat = A; to = λ h. h; from = λ h. h }

abbrev pub says_nothing : {ρ : List ℤ} → Says ρ (Unit {0})
says_nothing = says_same _ (Unit {0})

abbrev pub says_never : {ρ : List ℤ} → Says ρ ⊥
says_never = says_same _ ⊥

abbrev pub says-nat-le : {ρ : List ℤ} {m n : ℕ} → Says ρ (m ≤ n)
says-nat-le {ρ} {m} {n} = says_same ρ (m ≤ n)

abbrev pub says-nat-eq : {ρ : List ℤ} {m n : ℕ} → Says ρ (m ≡ n)
says-nat-eq {ρ} {m} {n} = says_same ρ (m ≡ n)

pub ruleset linear = (
  at0,
  at1,
  at2,
  at3,
  at4,
  at5,
  at6,
  at7,
  at8,
  at9,
  at10,
  at11,
  at12,
  at13,
  at14,
  at15,
  is-add,
  is_mul,
  is-neg,
  is_pos,
  is-negsuc,
  says-le,
  says-lt,
  says_eq,
  says_both,
  says-implies,
  says_nothing,
  says_never,
  says-nat-le,
  says-nat-eq,
)

-- facts side by side
infixr 4 ◌&◌
abbrev pub ◌&◌ : {A B : Type 0} → A → B → A × B
p & q = (p, q)

pub lia : (ρ : List ℤ) {A C : Type 0} → A → (s : Says ρ (A → C)) → s.nat → C
lia ρ facts s h = s.from h facts

-- ---- examples

between : (x y z : ℤ) → x <ℤ y → y ≤ℤ z → (x +ℤ x) <ℤ (y +ℤ z)
between x y z p q = lia (x ∷ y ∷ z ∷ []) (p & q) (search linear depth 40) (omega arith)

no_room : (x y : ℤ) → x <ℤ y → y <ℤ (x +ℤ pos 1) → ⊥
no_room x y p q = lia (x ∷ y ∷ []) (p & q) (search linear depth 40) (omega arith)

-- a product of two atoms is an atom of its own
factored : (x y z : ℤ) → x *ℤ (y +ℤ z) ≡ pos 4 → y *ℤ x ≡ pos 1 → x *ℤ z ≡ pos 3
factored x y z p q = lia (x ∷ y ∷ z ∷ []) (p & q) (search linear depth 40) (omega arith)
