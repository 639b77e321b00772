-- Identities of ℤ in one line. The atoms are written once, the identity never:
--     ring (x ∷ y ∷ []) (search reify depth 40) tt        proves, say, (x +ℤ y) *ℤ (x -ℤ y) ≡ x *ℤ x -ℤ y *ℤ y
-- An atom is any term of ℤ; up to sixteen in one call. Numerals need not be listed. A definition that is shut counts as an
-- atom, or is opened by `unfolding`. Where an identity fails, the check prints `Remains p` with the polynomial that is left.
--     Is ρ x        an expression over the atoms ρ whose value is x; `search reify` finds it
--     ring          two terms whose difference has the empty polynomial are equal
use Rattle.std.specs.Prelude.{◌≡◌, refl, List, [], ◌∷◌, ℕ, ℤ, pos, negsuc, neg_ℤ, ◌+ℤ◌, ◌-ℤ◌, ◌*ℤ◌}
use Rattle.std.proofs.Common.{sym, ◌∙◌, ap, ap₂}
use Rattle.std.proofs.Math.IntN.{+ℤ_assoc, +ℤ_idl, +ℤ_idr, +ℤ_invl}
use Rattle.integer.specs.Polynomial.{Expr, var, con, add, mul, neg, eval, Poly, none, term, value, norm, norm-sound}

pub record Is (ρ : List ℤ) (x : ℤ) : Type 0 where
  pub expr : Expr
  pub ok : eval ρ expr ≡ x

-- ---- the rules that `search` takes a term apart by

abbrev pub is-add : {ρ : List ℤ} {x y : ℤ} → Is ρ x → Is ρ y → Is ρ (x +ℤ y)
is-add p q = record { expr = add p.expr q.expr; ok = ap₂ (λ a b. a +ℤ b) p.ok q.ok }

abbrev pub is_mul : {ρ : List ℤ} {x y : ℤ} → Is ρ x → Is ρ y → Is ρ (x *ℤ y)
is_mul p q = record { expr = mul p.expr q.expr; ok = ap₂ (λ a b. a *ℤ b) p.ok q.ok }

abbrev pub is-neg : {ρ : List ℤ} {x : ℤ} → Is ρ x → Is ρ (neg_ℤ x)
is-neg p = record { expr = neg p.expr; ok = ap neg_ℤ p.ok }

abbrev pub is_pos : {ρ : List ℤ} (n : ℕ) → Is ρ (pos n)
is_pos n = record { expr = con (pos n); ok = refl }

abbrev pub is-negsuc : {ρ : List ℤ} (n : ℕ) → Is ρ (negsuc n)
is-negsuc n = record { expr = con (negsuc n); ok = refl }

-- one rule for each place of the list of atoms
abbrev pub at0 : {x0 : ℤ} {ρ : List ℤ} → Is (x0 ∷ ρ) x0
at0 = record { expr = var 0; ok = refl }

abbrev pub at1 : {x0 x1 : ℤ} {ρ : List ℤ} → Is (x0 ∷ x1 ∷ ρ) x1
at1 = record { expr = var 1; ok = refl }

abbrev pub at2 : {x0 x1 x2 : ℤ} {ρ : List ℤ} → Is (x0 ∷ x1 ∷ x2 ∷ ρ) x2
at2 = record { expr = var 2; ok = refl }

abbrev pub at3 : {x0 x1 x2 x3 : ℤ} {ρ : List ℤ} → Is (x0 ∷ x1 ∷ x2 ∷ x3 ∷ ρ) x3
at3 = record { expr = var 3; ok = refl }

abbrev pub at4 : {x0 x1 x2 x3 x4 : ℤ} {ρ : List ℤ} → Is (x0 ∷ x1 ∷ x2 ∷ x3 ∷ x4 ∷ ρ) x4
at4 = record { expr = var 4; ok = refl }

abbrev pub at5 : {x0 x1 x2 x3 x4 x5 : ℤ} {ρ : List ℤ} → Is (x0 ∷ x1 ∷ x2 ∷ x3 ∷ x4 ∷ x5 ∷ ρ) x5
at5 = record { expr = var 5; ok = refl }

abbrev pub at6 : {x0 x1 x2 x3 x4 x5 x6 : ℤ} {ρ : List ℤ} → Is (x0 ∷ x1 ∷ x2 ∷ x3 ∷ x4 ∷ x5 ∷ x6 ∷ ρ) x6
at6 = record { expr = var 6; ok = refl }

abbrev pub at7 : {x0 x1 x2 x3 x4 x5 x6 x7 : ℤ} {ρ : List ℤ} → Is (x0 ∷ x1 ∷ x2 ∷ x3 ∷ x4 ∷ x5 ∷ x6 ∷ x7 ∷ ρ) x7
at7 = record { expr = var 7; ok = refl }

abbrev pub at8 : {x0 x1 x2 x3 x4 x5 x6 x7 x8 : ℤ} {ρ : List ℤ} → Is (x0 ∷ x1 ∷ x2 ∷ x3 ∷ x4 ∷ x5 ∷ x6 ∷ x7 ∷ x8 ∷ ρ) x8
at8 = record { expr = var 8; ok = refl }

abbrev pub at9 : {x0 x1 x2 x3 x4 x5 x6 x7 x8 x9 : ℤ} {ρ : List ℤ} → Is (x0 ∷ x1 ∷ x2 ∷ x3 ∷ x4 ∷ x5 ∷ x6 ∷ x7 ∷ x8 ∷ x9 ∷ ρ) x9
at9 = record { expr = var 9; ok = refl }

abbrev pub at10 : {x0 x1 x2 x3 x4 x5 x6 x7 x8 x9 x10 : ℤ} {ρ : List ℤ} → Is (x0 ∷ x1 ∷ x2 ∷ x3 ∷ x4 ∷ x5 ∷ x6 ∷ x7 ∷ x8 ∷ x9 ∷ x10 ∷ ρ) x10
at10 = record { expr = var 10; ok = refl }

abbrev pub at11 : {x0 x1 x2 x3 x4 x5 x6 x7 x8 x9 x10 x11 : ℤ} {ρ : List ℤ}
    → Is (x0 ∷ x1 ∷ x2 ∷ x3 ∷ x4 ∷ x5 ∷ x6 ∷ x7 ∷ x8 ∷ x9 ∷ x10 ∷ x11 ∷ ρ) x11
at11 = record { expr = var 11; ok = refl }

abbrev pub at12 : {x0 x1 x2 x3 x4 x5 x6 x7 x8 x9 x10 x11 x12 : ℤ} {ρ : List ℤ}
    → Is (x0 ∷ x1 ∷ x2 ∷ x3 ∷ x4 ∷ x5 ∷ x6 ∷ x7 ∷ x8 ∷ x9 ∷ x10 ∷ x11 ∷ x12 ∷ ρ) x12
at12 = record { expr = var 12; ok = refl }

abbrev pub at13 : {x0 x1 x2 x3 x4 x5 x6 x7 x8 x9 x10 x11 x12 x13 : ℤ} {ρ : List ℤ}
    → Is (x0 ∷ x1 ∷ x2 ∷ x3 ∷ x4 ∷ x5 ∷ x6 ∷ x7 ∷ x8 ∷ x9 ∷ x10 ∷ x11 ∷ x12 ∷ x13 ∷ ρ) x13
at13 = record { expr = var 13; ok = refl }

abbrev pub at14 : {x0 x1 x2 x3 x4 x5 x6 x7 x8 x9 x10 x11 x12 x13 x14 : ℤ} {ρ : List ℤ}
    → Is (x0 ∷ x1 ∷ x2 ∷ x3 ∷ x4 ∷ x5 ∷ x6 ∷ x7 ∷ x8 ∷ x9 ∷ x10 ∷ x11 ∷ x12 ∷ x13 ∷ x14 ∷ ρ) x14
at14 = record { expr = var 14; ok = refl }

abbrev pub at15 : {x0 x1 x2 x3 x4 x5 x6 x7 x8 x9 x10 x11 x12 x13 x14 x15 : ℤ} {ρ : List ℤ}
    → Is (x0 ∷ x1 ∷ x2 ∷ x3 ∷ x4 ∷ x5 ∷ x6 ∷ x7 ∷ x8 ∷ x9 ∷ x10 ∷ x11 ∷ x12 ∷ x13 ∷ x14 ∷ x15 ∷ ρ) x15
at15 = record { expr = var 15; ok = refl }

-- both sides of an identity
pub record Equation (ρ : List ℤ) (x y : ℤ) : Type 0 where
  pub left : Is ρ x
  pub right : Is ρ y

abbrev pub is-equation : {ρ : List ℤ} {x y : ℤ} → Is ρ x → Is ρ y → Equation ρ x y
is-equation p q = record { left = p; right = q }

pub ruleset reify = (
  at0,
  at1,
  at2,
  at3,
  at4,
  at5,
  at6,
  at7,
  at8,
  at9,
  at10,
  at11,
  at12,
  at13,
  at14,
  at15,
  is-add,
  is_mul,
  is-neg,
  is_pos,
  is-negsuc,
  is-equation,
)

-- ---- the solver

-- what is left of an identity that does not hold: an empty type that shows the polynomial
pub data Remains (p : Poly) : Type 0 where

abbrev pub Zero : Poly → Type 0
Zero none = Unit {0}
Zero (term c m p) = Remains (term c m p)

abbrev pub minus : Expr → Expr → Poly
minus e f = norm (add e (neg f))

zero-value : (ρ : List ℤ) (p : Poly) → Zero p → value ρ p ≡ pos 0
zero-value ρ none t = refl
zero-value ρ (term c m p) t = elim t [ ]

-- x - y ≡ 0 gives x ≡ y
pub difference-zero : (x y : ℤ) → x -ℤ y ≡ pos 0 → x ≡ y
difference-zero x y h = sym (+ℤ_assoc x (neg_ℤ y) y ∙ ap (λ z. x +ℤ z) (+ℤ_invl y) ∙ +ℤ_idr x) ∙ ap (λ z. z +ℤ y) h ∙ +ℤ_idl y

pub ring : (ρ : List ℤ) {x y : ℤ} (q : Equation ρ x y) → Zero (minus q.left.expr q.right.expr) → x ≡ y
ring ρ q t =
    let l = q.left.expr in
    let r = q.right.expr in
    sym q.left.ok ∙ difference-zero (eval ρ l) (eval ρ r) (sym (norm-sound ρ (add l (neg r))) ∙ zero-value ρ (minus l r) t)
    ∙ q.right.ok

-- ---- examples

square-difference : (x y : ℤ) → (x +ℤ y) *ℤ (x -ℤ y) ≡ x *ℤ x -ℤ y *ℤ y
square-difference x y = ring (x ∷ y ∷ []) (search reify depth 40) tt

-- (x + y)³ with its numerals
cube : (x y : ℤ) → (x +ℤ y) *ℤ (x +ℤ y) *ℤ (x +ℤ y) ≡ x *ℤ x *ℤ x +ℤ pos 3 *ℤ x *ℤ y *ℤ (x +ℤ y) +ℤ y *ℤ y *ℤ y
cube x y = ring (x ∷ y ∷ []) (search reify depth 40) tt
