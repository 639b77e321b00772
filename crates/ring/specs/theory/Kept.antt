-- What is kept of a ring without repeats: every point, and neighbours that differ.
--     Ringed f xs          one position, or several of which neighbours on the way round differ
--     distinct-ringed, sense-ringed     so it is with what is left without repeats, in either sense
--     opened-has, distinct-has, sense-has     each point is still there
--     apart-last, apart-reverse, same-swap     the last differs from the end; the list, and the test, read the other way
use Rattle.std.specs.Prelude.{◌≡◌, refl, Bool, true, false, not, cond, ◌⊎◌, ℕ, suc, ◌-◌, length, take}
use Rattle.std.proofs.Common.{sym, ◌∙◌, ap, subst, true≢false, inl, inr, arith}
use mathlib.Core.List.Memᴰ
use mathlib.Core.List.{List, [], ◌∷◌, ◌++◌, map, reverse, reverse-cons}
use Rattle.plane.specs.Point.{Point, same_point, ◌∈◌}
use Rattle.plane.proofs.theory.lists.Members.{same_point-equal, same_point-self, same_point-other}
use Rattle.ring.specs.Round.{last_of, optional, opened, differing, distinct, Apart, in_sense}

-- ---- neighbours that differ

pub data Ringed {X : Type 0} (f : X → Point) : List X → Type 0 where
  one : (x : X) → Ringed f (x ∷ [])
  round : (x : X) (xs : List X) → Apart f x xs x → Ringed f (x ∷ xs)

pub same-swap : (p q : Point) → same_point p q ≡ false → same_point q p ≡ false
same-swap p q h = same_point-other q p (λ e. true≢false (sym (same_point-self p) ∙ ap (same_point p) (sym e) ∙ h))

module _ {X : Type 0} (f : X → Point) where
  -- the same without an end
  abbrev Chain : X → List X → Type 0
  Chain a [] = Unit {0}
  Chain a (x ∷ xs) = (same_point (f a) (f x) ≡ false) × Chain x xs

  chain-apart : (a : X) (xs : List X) (z : X) → Chain a xs → same_point (f (last_of a xs)) (f z) ≡ false → Apart f a xs z
  chain-apart a [] z c e = e
  chain-apart a (x ∷ xs) z c e = (c.0, chain-apart x xs z c.1 e)

  pub apart-last : (a : X) (xs : List X) (z : X) → Apart f a xs z → same_point (f (last_of a xs)) (f z) ≡ false
  apart-last a [] z h = h
  apart-last a (x ∷ xs) z h = apart-last x xs z h.1

  apart_snoc : (a : X) (xs : List X) (x z : X) → Apart f a xs x → same_point (f x) (f z) ≡ false → Apart f a (xs ++ (x ∷ [])) z
  apart_snoc a [] x z h e = (h, e)
  apart_snoc a (y ∷ xs) x z h e = (h.0, apart_snoc y xs x z h.1 e)

  pub apart-reverse : (a : X) (xs : List X) (z : X) → Apart f a xs z → Apart f z (reverse xs) a
  apart-reverse a [] z h = same-swap (f a) (f z) h
  apart-reverse a (x ∷ xs) z h =
      subst (λ (l : List X). Apart f z l a) (sym (reverse-cons x xs))
      (apart_snoc z (reverse xs) x a (apart-reverse x xs z h.1) (same-swap (f a) (f x) h.0))

  pub sense-ringed : (back : Bool) (xs : List X) → Ringed f xs → Ringed f (in_sense back xs)
  sense-ringed false xs r = r
  sense-ringed true xs (one x) = one x
  sense-ringed true xs (round x ys h) = round x (reverse ys) (apart-reverse x ys x h)

  -- ---- without repeats

  chain_first : (a b : X) (xs : List X) → f a ≡ f b → Chain b xs → Chain a xs
  chain_first a b [] e c = tt
  chain_first a b (x ∷ xs) e c = (ap (λ (p : Point). same_point p (f x)) e ∙ c.0, c.1)

  differing-chain : (a : X) (xs : List X) → Chain a (differing f a xs)
  differing-chain a [] = tt
  differing-chain a (x ∷ xs) = go (same_point (f a) (f x)) refl (differing-chain x xs)
    where
      go : (b : Bool) → same_point (f a) (f x) ≡ b → Chain x (differing f x xs) → Chain a (optional (not b) x ++ differing f x xs)
      go true e c = chain_first a x (differing f x xs) (same_point-equal (f a) (f x) e) c
      go false e c = (e, c)

  -- without the last, which differs from the one before it
  chain-init : (a y : X) (ys : List X) → Chain a (y ∷ ys)
      → Chain a (take (length ys) (y ∷ ys)) × (same_point (f (last_of a (take (length ys) (y ∷ ys)))) (f (last_of y ys)) ≡ false)
  chain-init a y [] c = (tt, c.0)
  chain-init a y (z ∷ zs) c = let later = chain-init y z zs c.1 in ((c.0, later.0), later.1)

  opened-ringed : (x : X) (ys : List X) → Chain x ys → Ringed f (opened f (x ∷ ys))
  opened-ringed x [] c = one x
  opened-ringed x (y ∷ ys) c = go (same_point (f x) (f (last_of y ys))) refl
    where
      less : length (x ∷ y ∷ ys) - 1 ≡ suc (length ys)
      less = omega arith

      go : (b : Bool) → same_point (f x) (f (last_of y ys)) ≡ b
          → Ringed f (cond b (take (length (x ∷ y ∷ ys) - 1) (x ∷ y ∷ ys)) (x ∷ y ∷ ys))
      go false e = round x (y ∷ ys) (chain-apart x (y ∷ ys) x c (same-swap (f x) (f (last_of y ys)) e))
      go true e =
          let init = chain-init x y ys c in
          let home = sym (same_point-equal (f x) (f (last_of y ys)) e) in
          subst (λ (k : ℕ). Ringed f (take k (x ∷ y ∷ ys))) (sym less)
          (round x (take (length ys) (y ∷ ys)) (chain-apart x (take (length ys) (y ∷ ys)) x init.0
          (sym (ap (same_point (f (last_of x (take (length ys) (y ∷ ys))))) home) ∙ init.1)))

  pub distinct-ringed : (x : X) (xs : List X) → Ringed f (distinct f (x ∷ xs))
  distinct-ringed x xs = opened-ringed x (differing f x xs) (differing-chain x xs)

  -- ---- each point is still there

  optional-has : {p : Point} (b : Bool) (x : X) (xs : List X) → p ∈ map f xs → p ∈ map f (optional b x ++ xs)
  optional-has true x xs m = Memᴰ.tail m
  optional-has false x xs m = m

  differing-has : {p : Point} (a : X) (xs : List X) → p ∈ map f xs → (p ≡ f a) ⊎ (p ∈ map f (differing f a xs))
  differing-has a [] m = absurd (Memᴰ.not-nil m)
  differing-has {p} a (x ∷ xs) m = go (same_point (f a) (f x)) refl m (differing-has x xs)
    where
      here : (b : Bool) → same_point (f a) (f x) ≡ b → p ≡ f x → (p ≡ f a) ⊎ (p ∈ map f (optional (not b) x ++ differing f x xs))
      here true e q = inl (q ∙ sym (same_point-equal (f a) (f x) e))
      here false e q = inr (Memᴰ.head q)

      go : (b : Bool) → same_point (f a) (f x) ≡ b → p ∈ map f (x ∷ xs) → (p ∈ map f xs → (p ≡ f x) ⊎ (p ∈ map f (differing f x xs)))
          → (p ≡ f a) ⊎ (p ∈ map f (optional (not b) x ++ differing f x xs))
      go b e (Memᴰ.head q) later = here b e q
      go b e (Memᴰ.tail n) later = elim (later n) [ inl q ↦ here b e q | inr k ↦ inr (optional-has (not b) x (differing f x xs) k) ]

  init-has : {p : Point} (x : X) (xs : List X) → p ∈ map f (x ∷ xs) → (p ≡ f (last_of x xs)) ⊎ (p ∈ map f (take (length xs) (x ∷ xs)))
  init-has x [] (Memᴰ.head q) = inl q
  init-has x [] (Memᴰ.tail m) = absurd (Memᴰ.not-nil m)
  init-has x (y ∷ ys) (Memᴰ.head q) = inr (Memᴰ.head q)
  init-has x (y ∷ ys) (Memᴰ.tail m) = elim (init-has y ys m) [ inl q ↦ inl q | inr k ↦ inr (Memᴰ.tail k) ]

  pub opened-has : {p : Point} (xs : List X) → p ∈ map f xs → p ∈ map f (opened f xs)
  opened-has [] m = m
  opened-has (x ∷ []) m = m
  opened-has {p} (x ∷ (y ∷ ys)) m = go (same_point (f x) (f (last_of y ys))) refl
    where
      less : length (x ∷ y ∷ ys) - 1 ≡ suc (length ys)
      less = omega arith

      go : (b : Bool) → same_point (f x) (f (last_of y ys)) ≡ b
          → p ∈ map f (cond b (take (length (x ∷ y ∷ ys) - 1) (x ∷ y ∷ ys)) (x ∷ y ∷ ys))
      go false e = m
      go true e = subst (λ (k : ℕ). p ∈ map f (take k (x ∷ y ∷ ys))) (sym less)
          (elim (init-has x (y ∷ ys) m) [ inl q ↦ Memᴰ.head (q ∙ sym (same_point-equal (f x) (f (last_of y ys)) e)) | inr k ↦ k ])

  pub distinct-has : {p : Point} (xs : List X) → p ∈ map f xs → p ∈ map f (distinct f xs)
  distinct-has [] m = m
  distinct-has (x ∷ xs) (Memᴰ.head q) = opened-has (x ∷ differing f x xs) (Memᴰ.head q)
  distinct-has (x ∷ xs) (Memᴰ.tail m) = opened-has (x ∷ differing f x xs)
      (elim (differing-has x xs m) [ inl q ↦ Memᴰ.head q | inr k ↦ Memᴰ.tail k ])

  snoc-has : {p : Point} (xs : List X) (x : X) → (p ∈ map f xs) ⊎ (p ≡ f x) → p ∈ map f (xs ++ (x ∷ []))
  snoc-has [] x (inl m) = absurd (Memᴰ.not-nil m)
  snoc-has [] x (inr e) = Memᴰ.head e
  snoc-has (y ∷ ys) x (inl (Memᴰ.head e)) = Memᴰ.head e
  snoc-has (y ∷ ys) x (inl (Memᴰ.tail m)) = Memᴰ.tail (snoc-has ys x (inl m))
  snoc-has (y ∷ ys) x (inr e) = Memᴰ.tail (snoc-has ys x (inr e))

  reverse-has : {p : Point} (xs : List X) → p ∈ map f xs → p ∈ map f (reverse xs)
  reverse-has [] m = m
  reverse-has {p} (x ∷ xs) (Memᴰ.head e) =
      subst (λ (l : List X). p ∈ map f l) (sym (reverse-cons x xs)) (snoc-has (reverse xs) x (inr e))
  reverse-has {p} (x ∷ xs) (Memᴰ.tail m) =
      subst (λ (l : List X). p ∈ map f l) (sym (reverse-cons x xs)) (snoc-has (reverse xs) x (inl (reverse-has xs m)))

  pub sense-has : {p : Point} (back : Bool) (xs : List X) → p ∈ map f xs → p ∈ map f (in_sense back xs)
  sense-has false xs m = m
  sense-has true [] m = m
  sense-has true (x ∷ xs) (Memᴰ.head e) = Memᴰ.head e
  sense-has true (x ∷ xs) (Memᴰ.tail m) = Memᴰ.tail (reverse-has xs m)
