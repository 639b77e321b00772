-- The stores that make one run of bytes another, each only where the byte differs.
--     mends-empty, mends-append    no bytes; bytes one after the other
--     mends-few                 as many stores as the run has bytes are enough; `mends-fewer`: as many as the wanted bytes
--     mends-rest                bytes that come after the wanted ones stay
--     left-to-mend              what is still to be stored after some of the stores
--     mends-equal, mends-none   no store is needed exactly if the bytes are the wanted ones
--     mends-all                 all of them made: the wanted bytes
use Rattle.std.specs.Prelude.{◌≡◌, refl, Bool, true, false, cond, List, [], ◌∷◌, ◌++◌, ℕ, zero, suc, ◌+◌, ◌≤◌, eqb, length, take, drop}
use Rattle.std.proofs.Common.{sym, ◌∙◌, ap, ap₂, append_assoc, arith, eqb-true, eq-eqb, length-append, length-drop, take-append-drop}
use Rattle.std.proofs.Common.{drop_at, drop-drop, length-take-le}
use Rattle.std.proofs.Math.Seq.{append_snoc, take-nil, drop-nil}
use Rattle.std.proofs.lemmas.List.{set_at}
use Rattle.journal.specs.Adding.{Store, store, made}
use Rattle.journal.proofs.theory.Storing.{made-length}
use Rattle.packing.specs.Packing.{mending, mends}

-- ---- lengths

mending-few : (p x y : ℕ) → length (mending p x y) ≤ 1
mending-few p x y = go (eqb x y)
  where
    go : (c : Bool) → length (cond c [] (store p y ∷ [])) ≤ 1
    go true = omega arith
    go false = omega arith

pub mends-few : (p : ℕ) (t u : List ℕ) → length (mends p t u) ≤ length t
mends-few p [] u = omega arith
mends-few p (x ∷ t) [] = omega arith
mends-few p (x ∷ t) (y ∷ u) =
    omega (arith, mends-few (1 + p) t u, length-append (mending p x y) (mends (1 + p) t u), mending-few p x y)

pub mends-fewer : (p : ℕ) (t u : List ℕ) → length (mends p t u) ≤ length u
mends-fewer p [] u = omega arith
mends-fewer p (x ∷ t) [] = omega arith
mends-fewer p (x ∷ t) (y ∷ u) =
    omega (arith, mends-fewer (1 + p) t u, length-append (mending p x y) (mends (1 + p) t u), mending-few p x y)

-- ---- parts

pub mends-empty : (p : ℕ) (t : List ℕ) → mends p t [] ≡ []
mends-empty p [] = refl
mends-empty p (x ∷ t) = refl

pub mends-append : (p : ℕ) (t u v : List ℕ) → length u ≤ length t
    → mends p t (u ++ v) ≡ mends p t u ++ mends (p + length u) (drop (length u) t) v
mends-append p [] [] v h = refl
mends-append p [] (y ∷ u) v h = absurd (let z : ⊥ = omega (arith, h) in z)
mends-append p (x ∷ t) [] v h = ap (λ (q : ℕ). mends q (x ∷ t) v) (let e : p ≡ p + 0 = omega arith in e)
mends-append p (x ∷ t) (y ∷ u) v h =
    let rest = drop (length u) t in
    let q : 1 + p + length u ≡ p + suc (length u) = omega arith in
    ap (λ (ss : List Store). mending p x y ++ ss)
    (mends-append (1 + p) t u v (omega (arith, h)) ∙ ap (λ (i : ℕ). mends (1 + p) t u ++ mends i rest v) q)
    ∙ sym (append_assoc (mending p x y) (mends (1 + p) t u) (mends (p + suc (length u)) rest v))

-- ---- some of the stores made

-- the bytes t after k of the stores that make them u
abbrev mended : List ℕ → List ℕ → ℕ → List ℕ
mended [] u k = []
mended (x ∷ t) [] k = x ∷ t
mended (x ∷ t) (y ∷ u) zero = x ∷ t
mended (x ∷ t) (y ∷ u) (suc k) =
    let kept = mended t u (suc k) in
    let stored = mended t u k in
    cond (eqb x y) (x ∷ kept) (y ∷ stored)

mended-zero : (t u : List ℕ) → mended t u 0 ≡ t
mended-zero [] u = refl
mended-zero (x ∷ t) [] = refl
mended-zero (x ∷ t) (y ∷ u) = refl

longer : (f : List ℕ) (x p : ℕ) → length f ≡ p → length (f ++ (x ∷ [])) ≡ 1 + p
longer f x p e = omega (arith, length-append f (x ∷ []), e)

-- the run t is after the bytes f
mends-made : (f t u : List ℕ) (p k : ℕ) → length f ≡ p → made (take k (mends p t u)) (f ++ t) ≡ f ++ mended t u k
mends-made f [] u p k e = ap (λ (ss : List Store). made ss (f ++ [])) (take-nil k)
mends-made f (x ∷ t) [] p k e = ap (λ (ss : List Store). made ss (f ++ x ∷ t)) (take-nil k)
mends-made f (x ∷ t) (y ∷ u) p zero e = refl
mends-made f (x ∷ t) (y ∷ u) p (suc k) e =
    go (eqb x y) refl
    (λ (z : ℕ) (j : ℕ). mends-made (f ++ (z ∷ [])) t u (1 + p) j (longer f z p e))
  where
    rest : List Store
    rest = mends (1 + p) t u

    go : (c : Bool) → eqb x y ≡ c
        → ((z j : ℕ) → made (take j rest) ((f ++ (z ∷ [])) ++ t) ≡ (f ++ (z ∷ [])) ++ mended t u j)
        → made (take (suc k) (cond c [] (store p y ∷ []) ++ rest)) (f ++ x ∷ t)
        ≡ f ++ cond c (x ∷ mended t u (suc k)) (y ∷ mended t u k)
    go true h ih =
        ap (made (take (suc k) rest)) (sym (append_snoc f x t)) ∙ ih x (suc k) ∙ append_snoc f x (mended t u (suc k))
    go false h ih =
        ap (made (take k rest)) (set_at f x t y p e ∙ sym (append_snoc f y t)) ∙ ih y k ∙ append_snoc f y (mended t u k)

-- what comes after u stays
mended-rest : (t u : List ℕ) (k : ℕ) → drop (length u) (mended t u k) ≡ drop (length u) t
mended-rest [] u k = refl
mended-rest (x ∷ t) [] k = refl
mended-rest (x ∷ t) (y ∷ u) zero = refl
mended-rest (x ∷ t) (y ∷ u) (suc k) = go (eqb x y) (mended-rest t u (suc k)) (mended-rest t u k)
  where
    go : (c : Bool) → drop (length u) (mended t u (suc k)) ≡ drop (length u) t → drop (length u) (mended t u k) ≡ drop (length u) t
        → drop (suc (length u)) (cond c (x ∷ mended t u (suc k)) (y ∷ mended t u k)) ≡ drop (length u) t
    go true more less = more
    go false more less = less

pub mends-rest : (b : List ℕ) (q : ℕ) (u : List ℕ) (k : ℕ) → q ≤ length b
    → drop (q + length u) (made (take k (mends q (drop q b) u)) b) ≡ drop (q + length u) b
mends-rest b q u k h =
    let f = take q b in
    let t = drop q b in
    let count = length-take-le q b h in
    ap (λ (c : List ℕ). drop (q + length u) (made (take k (mends q t u)) c)) (sym (take-append-drop q b))
    ∙ ap (drop (q + length u)) (mends-made f t u q k count) ∙ sym (drop-drop (length u) q (f ++ mended t u k))
    ∙ ap (drop (length u)) (drop_at f (mended t u k) q count) ∙ mended-rest t u k ∙ drop-drop (length u) q b

mends-again : (p : ℕ) (t u : List ℕ) (k : ℕ) → mends p (mended t u k) u ≡ drop k (mends p t u)
mends-again p [] u k = sym (drop-nil k)
mends-again p (x ∷ t) [] k = sym (drop-nil k)
mends-again p (x ∷ t) (y ∷ u) zero = refl
mends-again p (x ∷ t) (y ∷ u) (suc k) = go (eqb x y) refl (mends-again (1 + p) t u (suc k)) (mends-again (1 + p) t u k)
  where
    rest : List Store
    rest = mends (1 + p) t u

    go : (c : Bool) → eqb x y ≡ c → mends (1 + p) (mended t u (suc k)) u ≡ drop (suc k) rest
        → mends (1 + p) (mended t u k) u ≡ drop k rest
        → mends p (cond c (x ∷ mended t u (suc k)) (y ∷ mended t u k)) (y ∷ u) ≡ drop (suc k) (cond c [] (store p y ∷ []) ++ rest)
    go true h more less = ap₂ (λ (c : Bool) (ss : List Store). cond c [] (store p y ∷ []) ++ ss) h more
    go false h more less = ap₂ (λ (c : Bool) (ss : List Store). cond c [] (store p y ∷ []) ++ ss) (eq-eqb y y refl) less

-- ---- all of the stores made

pub mends-equal : (p : ℕ) (t : List ℕ) → mends p t t ≡ []
mends-equal p [] = refl
mends-equal p (x ∷ t) =
    ap₂ (λ (c : Bool) (ss : List Store). cond c [] (store p x ∷ []) ++ ss) (eq-eqb x x refl) (mends-equal (1 + p) t)

pub mends-none : (p : ℕ) (t u : List ℕ) → length t ≡ length u → length (mends p t u) ≡ 0 → t ≡ u
mends-none p [] [] e h = refl
mends-none p [] (y ∷ u) e h = absurd (let z : ⊥ = omega (arith, e) in z)
mends-none p (x ∷ t) [] e h = absurd (let z : ⊥ = omega (arith, e) in z)
mends-none p (x ∷ t) (y ∷ u) e h = go (eqb x y) refl (mends-none (1 + p) t u (omega (arith, e))) h
  where
    go : (c : Bool) → eqb x y ≡ c → (length (mends (1 + p) t u) ≡ 0 → t ≡ u)
        → length (cond c [] (store p y ∷ []) ++ mends (1 + p) t u) ≡ 0 → x ∷ t ≡ y ∷ u
    go true d ih n = ap₂ (λ (z : ℕ) (zs : List ℕ). z ∷ zs) (eqb-true x y d) (ih n)
    go false d ih n = absurd (let z : ⊥ = omega (arith, n) in z)

module _ (t u : List ℕ) (k : ℕ) where
  -- after k stores, the rest of them is still to be made
  pub left-to-mend : mends 0 (made (take k (mends 0 t u)) t) u ≡ drop k (mends 0 t u)
  left-to-mend = ap (λ (b : List ℕ). mends 0 b u) (mends-made [] t u 0 k refl) ∙ mends-again 0 t u k

  pub mends-all : length t ≡ length u → length (mends 0 t u) ≤ k → made (take k (mends 0 t u)) t ≡ u
  mends-all e h =
      let none : length (drop k (mends 0 t u)) ≡ 0 = omega (arith, length-drop k (mends 0 t u)) in
      mends-none 0 _ u (made-length (take k (mends 0 t u)) t ∙ e) (ap length left-to-mend ∙ none)
