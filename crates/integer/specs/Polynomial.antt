-- Polynomials over ℤ in a normal form, and the expressions that they stand for.
--     Expr, eval     an expression over variable numbers, and its value where ρ lists the variables' values
--     Poly, value    a sum of terms, each a coefficient and a sorted list of variable numbers, in ascending order of these lists
--     norm           the polynomial of an expression; coefficients that come to 0 are dropped
--     norm-sound     an expression and its polynomial have the same value
-- Only soundness is proved: that the form is unique is what the solver's uses show.
use Rattle.std.specs.Prelude.{◌≡◌, refl, List, [], ◌∷◌, Bool, true, false, T, leb, get_or, ℤ, pos, negsuc, neg_ℤ, ◌+ℤ◌, ◌*ℤ◌}
use Rattle.std.proofs.Common.{sym, ◌∙◌, ap, ap₂, subst, eqb→eq}
use Prim.Native.Nat.{ℕ, zero, suc, compare, Ordering}
use Rattle.std.proofs.Math.Dec.{compare_is_eq}
use Rattle.std.proofs.Math.IntN.{+ℤ_assoc, +ℤ_comm, +ℤ_idl, +ℤ_idr, zero-*ℤ, *ℤ-zero, *ℤ_comm}
use Rattle.integer.specs.Laws.{*ℤ-distrib-r, *ℤ-distrib-l, *ℤ-assoc, one-*ℤ, minus-one-*ℤ}

pub data Expr : Type 0 where
  var : ℕ → Expr
  con : ℤ → Expr
  add mul : Expr → Expr → Expr
  neg : Expr → Expr

abbrev pub eval : List ℤ → Expr → ℤ
eval ρ (var i) = get_or ρ i (pos 0)
eval ρ (con z) = z
eval ρ (add e f) = eval ρ e +ℤ eval ρ f
eval ρ (mul e f) = eval ρ e *ℤ eval ρ f
eval ρ (neg e) = neg_ℤ (eval ρ e)

-- ---- monomials: sorted lists of variable numbers

abbrev pub product : List ℤ → List ℕ → ℤ
product ρ [] = pos 1
product ρ (i ∷ []) = get_or ρ i (pos 0)
product ρ (i ∷ (j ∷ m)) = get_or ρ i (pos 0) *ℤ product ρ (j ∷ m)

abbrev pub order : List ℕ → List ℕ → Ordering
order [] [] = Ordering.eq
order [] (j ∷ k) = Ordering.lt
order (i ∷ m) [] = Ordering.gt
order (i ∷ m) (j ∷ k) = let r = order m k in elim (compare i j) [ Ordering.lt ↦ Ordering.lt | Ordering.eq ↦ r | Ordering.gt ↦ Ordering.gt ]

abbrev pub put : ℕ → List ℕ → List ℕ
put i [] = i ∷ []
put i (j ∷ m) = let r = put i m in elim (leb i j) [ true ↦ i ∷ j ∷ m | false ↦ j ∷ r ]

abbrev pub join : List ℕ → List ℕ → List ℕ
join [] k = k
join (i ∷ m) k = put i (join m k)

-- ---- polynomials

pub data Poly : Type 0 where
  none : Poly
  term : ℤ → List ℕ → Poly → Poly

abbrev pub value : List ℤ → Poly → ℤ
value ρ none = pos 0
value ρ (term c m p) = c *ℤ product ρ m +ℤ value ρ p

-- a term in front, left out if its coefficient is 0
abbrev pub front : ℤ → List ℕ → Poly → Poly
front (pos zero) m p = p
front (pos (suc n)) m p = term (pos (suc n)) m p
front (negsuc n) m p = term (negsuc n) m p

abbrev pub insert : ℤ → List ℕ → Poly → Poly
insert c m none = front c m none
insert c m (term d k p) =
    let r = insert c m p in
    elim (order m k) [ Ordering.lt ↦ front c m (term d k p) | Ordering.eq ↦ front (c +ℤ d) k p | Ordering.gt ↦ term d k r ]

abbrev pub plus : Poly → Poly → Poly
plus none q = q
plus (term c m p) q = insert c m (plus p q)

abbrev pub scale : ℤ → List ℕ → Poly → Poly
scale c m none = none
scale c m (term d k p) = insert (c *ℤ d) (join m k) (scale c m p)

abbrev pub times : Poly → Poly → Poly
times none q = none
times (term c m p) q = plus (scale c m q) (times p q)

abbrev pub norm : Expr → Poly
norm (var i) = term (pos 1) (i ∷ []) none
norm (con z) = front z [] none
norm (add e f) = plus (norm e) (norm f)
norm (mul e f) = times (norm e) (norm f)
norm (neg e) = scale (negsuc 0) [] (norm e)

-- ---- each step keeps the value

module _ (ρ : List ℤ) where
  product-cons : (i : ℕ) (m : List ℕ) → product ρ (i ∷ m) ≡ get_or ρ i (pos 0) *ℤ product ρ m
  product-cons i [] = sym (*ℤ_comm (get_or ρ i (pos 0)) (pos 1) ∙ one-*ℤ (get_or ρ i (pos 0)))
  product-cons i (j ∷ m) = refl

  left-swap : (a b c : ℤ) → a *ℤ (b *ℤ c) ≡ b *ℤ (a *ℤ c)
  left-swap a b c = sym (*ℤ-assoc a b c) ∙ ap (λ x. x *ℤ c) (*ℤ_comm a b) ∙ *ℤ-assoc b a c

  put-product : (i : ℕ) (m : List ℕ) → product ρ (put i m) ≡ get_or ρ i (pos 0) *ℤ product ρ m
  put-product i [] = product-cons i []
  put-product i (j ∷ m) = go (put-product i m) (leb i j)
    where
      go : product ρ (put i m) ≡ get_or ρ i (pos 0) *ℤ product ρ m → (t : Bool)
          → product ρ (elim t [ true ↦ i ∷ j ∷ m | false ↦ j ∷ put i m ]) ≡ get_or ρ i (pos 0) *ℤ product ρ (j ∷ m)
      go h true = refl
      go h false = product-cons j (put i m) ∙ ap (λ x. get_or ρ j (pos 0) *ℤ x) h
          ∙ left-swap (get_or ρ j (pos 0)) (get_or ρ i (pos 0)) (product ρ m) ∙ ap (λ x. get_or ρ i (pos 0) *ℤ x) (sym (product-cons j m))

  join-product : (m k : List ℕ) → product ρ (join m k) ≡ product ρ m *ℤ product ρ k
  join-product [] k = sym (one-*ℤ (product ρ k))
  join-product (i ∷ m) k = put-product i (join m k) ∙ ap (λ x. get_or ρ i (pos 0) *ℤ x) (join-product m k)
      ∙ sym (*ℤ-assoc (get_or ρ i (pos 0)) (product ρ m) (product ρ k)) ∙ ap (λ x. x *ℤ product ρ k) (sym (product-cons i m))

  front-value : (c : ℤ) (m : List ℕ) (p : Poly) → value ρ (front c m p) ≡ c *ℤ product ρ m +ℤ value ρ p
  front-value (pos zero) m p = sym (ap (λ x. x +ℤ value ρ p) (zero-*ℤ (product ρ m)) ∙ +ℤ_idl (value ρ p))
  front-value (pos (suc n)) m p = refl
  front-value (negsuc n) m p = refl

compare-eq : (i j : ℕ) → compare i j ≡ Ordering.eq → i ≡ j
compare-eq i j h = eqb→eq i j (subst (λ o. T (compare_is_eq o)) (sym h) tt)

IsSame : Ordering → Type 0
IsSame Ordering.lt = ⊥
IsSame Ordering.eq = Unit {0}
IsSame Ordering.gt = ⊥

order-eq : (m k : List ℕ) → order m k ≡ Ordering.eq → m ≡ k
unfolding IsSame
order-eq [] [] h = refl
order-eq [] (j ∷ k) h = absurd (subst IsSame (sym h) tt)
order-eq (i ∷ m) [] h = absurd (subst IsSame (sym h) tt)
order-eq (i ∷ m) (j ∷ k) h = go (order-eq m k) (compare i j) refl h
  where
    go : (order m k ≡ Ordering.eq → m ≡ k) → (o : Ordering) → compare i j ≡ o
        → elim o [ Ordering.lt ↦ Ordering.lt | Ordering.eq ↦ order m k | Ordering.gt ↦ Ordering.gt ] ≡ Ordering.eq → i ∷ m ≡ j ∷ k
    go ih Ordering.lt e q = absurd (subst IsSame (sym q) tt)
    go ih Ordering.eq e q = ap₂ (λ x y. x ∷ y) (compare-eq i j e) (ih q)
    go ih Ordering.gt e q = absurd (subst IsSame (sym q) tt)

module _ (ρ : List ℤ) where
  insert-value : (c : ℤ) (m : List ℕ) (p : Poly) → value ρ (insert c m p) ≡ c *ℤ product ρ m +ℤ value ρ p
  insert-value c m none = front-value ρ c m none
  insert-value c m (term d k p) = go (insert-value c m p) (order m k) refl
    where
      go : value ρ (insert c m p) ≡ c *ℤ product ρ m +ℤ value ρ p → (o : Ordering) → order m k ≡ o
          → value ρ (elim o [
            | Ordering.lt ↦ front c m (term d k p)
            | Ordering.eq ↦ front (c +ℤ d) k p
            | Ordering.gt ↦ term d k
                (insert c m p)
          ])
          ≡ c *ℤ product ρ m +ℤ (d *ℤ product ρ k +ℤ value ρ p)
      go ih Ordering.lt e = front-value ρ c m (term d k p)
      go ih Ordering.eq e = front-value ρ (c +ℤ d) k p ∙ ap (λ x. x +ℤ value ρ p) (*ℤ-distrib-r c d (product ρ k))
          ∙ +ℤ_assoc (c *ℤ product ρ k) (d *ℤ product ρ k) (value ρ p)
          ∙ ap (λ (n : List ℕ). c *ℤ product ρ n +ℤ (d *ℤ product ρ k +ℤ value ρ p)) (sym (order-eq m k e))
      go ih Ordering.gt e = ap (λ x. d *ℤ product ρ k +ℤ x) ih ∙ sym (+ℤ_assoc (d *ℤ product ρ k) (c *ℤ product ρ m) (value ρ p))
          ∙ ap (λ x. x +ℤ value ρ p) (+ℤ_comm (d *ℤ product ρ k) (c *ℤ product ρ m))
          ∙ +ℤ_assoc (c *ℤ product ρ m) (d *ℤ product ρ k) (value ρ p)

  plus-value : (p q : Poly) → value ρ (plus p q) ≡ value ρ p +ℤ value ρ q
  plus-value none q = sym (+ℤ_idl (value ρ q))
  plus-value (term c m p) q = insert-value c m (plus p q) ∙ ap (λ x. c *ℤ product ρ m +ℤ x) (plus-value p q)
      ∙ sym (+ℤ_assoc (c *ℤ product ρ m) (value ρ p) (value ρ q))

  inner-swap : (a b c d : ℤ) → a *ℤ b *ℤ (c *ℤ d) ≡ a *ℤ c *ℤ (b *ℤ d)
  inner-swap a b c d = *ℤ-assoc a b (c *ℤ d)
      ∙ ap (λ x. a *ℤ x) (sym (*ℤ-assoc b c d) ∙ ap (λ x. x *ℤ d) (*ℤ_comm b c) ∙ *ℤ-assoc c b d) ∙ sym (*ℤ-assoc a c (b *ℤ d))

  scale-value : (c : ℤ) (m : List ℕ) (p : Poly) → value ρ (scale c m p) ≡ c *ℤ product ρ m *ℤ value ρ p
  scale-value c m none = sym (*ℤ-zero (c *ℤ product ρ m))
  scale-value c m (term d k p) = insert-value (c *ℤ d) (join m k) (scale c m p)
      ∙ ap₂ (λ x y. x +ℤ y)
      (ap (λ x. c *ℤ d *ℤ x) (join-product ρ m k) ∙ inner-swap c d (product ρ m) (product ρ k))
      (scale-value c m p)
      ∙ sym (*ℤ-distrib-l (c *ℤ product ρ m) (d *ℤ product ρ k) (value ρ p))

  times-value : (p q : Poly) → value ρ (times p q) ≡ value ρ p *ℤ value ρ q
  times-value none q = sym (zero-*ℤ (value ρ q))
  times-value (term c m p) q = plus-value (scale c m q) (times p q)
      ∙ ap₂ (λ x y. x +ℤ y) (scale-value c m q) (times-value p q) ∙ sym (*ℤ-distrib-r (c *ℤ product ρ m) (value ρ p) (value ρ q))

  pub norm-sound : (e : Expr) → value ρ (norm e) ≡ eval ρ e
  norm-sound (var i) = +ℤ_idr (pos 1 *ℤ get_or ρ i (pos 0)) ∙ one-*ℤ (get_or ρ i (pos 0))
  norm-sound (con z) = front-value ρ z [] none ∙ +ℤ_idr (z *ℤ pos 1) ∙ *ℤ_comm z (pos 1) ∙ one-*ℤ z
  norm-sound (add e f) = plus-value (norm e) (norm f) ∙ ap₂ (λ x y. x +ℤ y) (norm-sound e) (norm-sound f)
  norm-sound (mul e f) = times-value (norm e) (norm f) ∙ ap₂ (λ x y. x *ℤ y) (norm-sound e) (norm-sound f)
  norm-sound (neg e) = scale-value (negsuc 0) [] (norm e) ∙ ap (λ x. negsuc 0 *ℤ pos 1 *ℤ x) (norm-sound e) ∙ minus-one-*ℤ (eval ρ e)
