-- ℤ is a commutative ring: the laws that the kit's `Rattle.std.proofs.Math.IntN` leaves out.
--     *ℤ-distrib-r, *ℤ-distrib-l    the product over a sum
--     *ℤ-assoc                      the product regrouped
--     negℤ-*ℤ                       a sign moves out of a product
--     +ℤ-swap                       the middle two of four summands change places
-- The group laws of the sum, and that the product is commutative, are in `Rattle.std.proofs.Math.IntN`.
use Rattle.std.specs.Prelude.{◌≡◌, zero, suc, ℤ, pos, negsuc, neg_ℤ, ◌+ℤ◌, ◌-ℤ◌, ◌*ℤ◌}
use Rattle.std.proofs.Common.{sym, ◌∙◌, ap, ap₂}
use Rattle.std.proofs.Math.IntN.{suc_ℤ, pred_ℤ, +ℤ_assoc, +ℤ_comm, +ℤ_idl, +ℤ_idr, +ℤ_invl, +ℤ_invr, suc_ℤ-+ℤ, pred_ℤ-+ℤ, suc_ℤ-*ℤ}
use Rattle.std.proofs.Math.IntN.{pred_ℤ-*ℤ, zero-*ℤ, *ℤ_comm}

-- what holds of 0 and is kept by one more and one less holds of every integer
pub ℤ-step : (P : ℤ → Type 0) → P (pos 0) → ((z : ℤ) → P z → P (suc_ℤ z)) → ((z : ℤ) → P z → P (pred_ℤ z)) → (z : ℤ) → P z
ℤ-step P base up down (pos zero) = base
ℤ-step P base up down (pos (suc n)) = up (pos n) (ℤ-step P base up down (pos n))
ℤ-step P base up down (negsuc zero) = down (pos 0) base
ℤ-step P base up down (negsuc (suc n)) = down (negsuc n) (ℤ-step P base up down (negsuc n))

+ℤ-swap-r : (a b c : ℤ) → a +ℤ b +ℤ c ≡ a +ℤ c +ℤ b
+ℤ-swap-r a b c = +ℤ_assoc a b c ∙ ap (λ x. a +ℤ x) (+ℤ_comm b c) ∙ sym (+ℤ_assoc a c b)

pub +ℤ-swap : (a b c d : ℤ) → a +ℤ b +ℤ (c +ℤ d) ≡ a +ℤ c +ℤ (b +ℤ d)
+ℤ-swap a b c d = sym (+ℤ_assoc (a +ℤ b) c d) ∙ ap (λ x. x +ℤ d) (+ℤ-swap-r a b c) ∙ +ℤ_assoc (a +ℤ c) b d

pub *ℤ-distrib-r : (a b c : ℤ) → (a +ℤ b) *ℤ c ≡ a *ℤ c +ℤ b *ℤ c
*ℤ-distrib-r a b c = ℤ-step (λ z. (z +ℤ b) *ℤ c ≡ z *ℤ c +ℤ b *ℤ c)
    (ap (λ x. x *ℤ c) (+ℤ_idl b) ∙ sym (ap (λ x. x +ℤ b *ℤ c) (zero-*ℤ c) ∙ +ℤ_idl (b *ℤ c)))
    (λ z h. ap (λ x. x *ℤ c) (suc_ℤ-+ℤ z b) ∙ suc_ℤ-*ℤ (z +ℤ b) c ∙ ap (λ x. x +ℤ c) h
    ∙ +ℤ-swap-r (z *ℤ c) (b *ℤ c) c ∙ ap (λ x. x +ℤ b *ℤ c) (sym (suc_ℤ-*ℤ z c)))
    (λ z h. ap (λ x. x *ℤ c) (pred_ℤ-+ℤ z b) ∙ pred_ℤ-*ℤ (z +ℤ b) c ∙ ap (λ x. x -ℤ c) h
    ∙ +ℤ-swap-r (z *ℤ c) (b *ℤ c) (neg_ℤ c) ∙ ap (λ x. x +ℤ b *ℤ c) (sym (pred_ℤ-*ℤ z c))) a

pub *ℤ-distrib-l : (a b c : ℤ) → a *ℤ (b +ℤ c) ≡ a *ℤ b +ℤ a *ℤ c
*ℤ-distrib-l a b c = *ℤ_comm a (b +ℤ c) ∙ *ℤ-distrib-r b c a ∙ ap₂ (λ x y. x +ℤ y) (*ℤ_comm b a) (*ℤ_comm c a)

-- a number that added to x gives 0 is -x
negℤ-unique : (x y : ℤ) → x +ℤ y ≡ pos 0 → y ≡ neg_ℤ x
negℤ-unique x y h =
    sym (+ℤ_idl y) ∙ ap (λ z. z +ℤ y) (sym (+ℤ_invl x)) ∙ +ℤ_assoc (neg_ℤ x) x y ∙ ap (λ z. neg_ℤ x +ℤ z) h ∙ +ℤ_idr (neg_ℤ x)

pub negℤ-*ℤ : (a b : ℤ) → neg_ℤ a *ℤ b ≡ neg_ℤ (a *ℤ b)
negℤ-*ℤ a b = negℤ-unique (a *ℤ b) (neg_ℤ a *ℤ b)
    (sym (*ℤ-distrib-r a (neg_ℤ a) b) ∙ ap (λ x. x *ℤ b) (+ℤ_invr a) ∙ zero-*ℤ b)

pub *ℤ-assoc : (a b c : ℤ) → a *ℤ b *ℤ c ≡ a *ℤ (b *ℤ c)
*ℤ-assoc a b c = ℤ-step (λ z. z *ℤ b *ℤ c ≡ z *ℤ (b *ℤ c))
    (ap (λ x. x *ℤ c) (zero-*ℤ b) ∙ zero-*ℤ c ∙ sym (zero-*ℤ (b *ℤ c)))
    (λ z h. ap (λ x. x *ℤ c) (suc_ℤ-*ℤ z b) ∙ *ℤ-distrib-r (z *ℤ b) b c ∙ ap (λ x. x +ℤ b *ℤ c) h ∙ sym (suc_ℤ-*ℤ z (b *ℤ c)))
    (λ z h. ap (λ x. x *ℤ c) (pred_ℤ-*ℤ z b) ∙ *ℤ-distrib-r (z *ℤ b) (neg_ℤ b) c
    ∙ ap₂ (λ x y. x +ℤ y) h (negℤ-*ℤ b c) ∙ sym (pred_ℤ-*ℤ z (b *ℤ c))) a

pub one-*ℤ : (a : ℤ) → pos 1 *ℤ a ≡ a
one-*ℤ a = suc_ℤ-*ℤ (pos 0) a ∙ ap (λ x. x +ℤ a) (zero-*ℤ a) ∙ +ℤ_idl a

pub minus-one-*ℤ : (a : ℤ) → negsuc 0 *ℤ a ≡ neg_ℤ a
minus-one-*ℤ a = negℤ-*ℤ (pos 1) a ∙ ap neg_ℤ (one-*ℤ a)
