-- The first of the least of a list, for a test that compares: as a loop finds it, and what it is.
--     least_of-in           it is one of the elements
--     least_of-step         the left fold: two at the front are one, the first unless the second is less
--     least_of-none-less    no element is less than it
--     FirstLeast, least_of-first      and each before it is greater; `least_of-only`: an element with these facts is it
--     least_of-snoc         with one element more
-- The elements meet a predicate `Good`, where the test is reflexive, total and transitive.
use Rattle.std.specs.Prelude.{◌≡◌, refl, Bool, true, false, cond, ℕ}
use Rattle.std.proofs.Common.{sym, ◌∙◌, ap, subst, true≢false, arith}
use mathlib.Core.List.Memᴰ
use mathlib.Core.List.{List, [], ◌∷◌, ◌++◌, Memᴰ}
use Rattle.plane.specs.Clearance.{least_of}
use Rattle.neighbours.specs.Settled.{FirstLeast}
pub use Rattle.neighbours.specs.All.{All}

pub all_in : {X : Type 0} (Good : X → Type 0) (xs : List X) {x : X} → All Good xs → Memᴰ x xs → Good x
all_in Good [] a m = absurd (Memᴰ.not-nil m)
all_in Good (y ∷ xs) a (Memᴰ.head e) = subst Good (sym e) a.0
all_in Good (y ∷ xs) a (Memᴰ.tail m) = all_in Good xs a.1 m

pub in_all : {X : Type 0} (Good : X → Type 0) (xs : List X) → ((x : X) → Memᴰ x xs → Good x) → All Good xs
in_all Good [] f = tt
in_all Good (y ∷ xs) f = (f y (Memᴰ.head refl), in_all Good xs (λ x m. f x (Memᴰ.tail m)))

-- ---- any test

module _ {X : Type 0} (le : X → X → Bool) where
  pub least_of-in : (x : X) (xs : List X) → Memᴰ (least_of le x xs) (x ∷ xs)
  least_of-in x [] = Memᴰ.head refl
  least_of-in x (y ∷ xs) = go (le x (least_of le y xs)) (least_of-in y xs)
    where
      go : (t : Bool) → Memᴰ (least_of le y xs) (y ∷ xs) → Memᴰ (cond t x (least_of le y xs)) (x ∷ y ∷ xs)
      go true m = Memᴰ.head refl
      go false m = Memᴰ.tail m

  -- the elements before it, which are greater, and those after it
  record Split (xs : List X) (w : X) : Type 0 where
    before : List X
    after : List X
    is : xs ≡ before ++ w ∷ after
    earlier_more : (y : X) → Memᴰ y before → le y w ≡ false

  least_of-split : (x : X) (xs : List X) → Split (x ∷ xs) (least_of le x xs)
  least_of-split x [] = record { before = []; after = []; is = refl; earlier_more = λ y m. absurd (Memᴰ.not-nil m) }
  least_of-split x (z ∷ zs) = go (le x (least_of le z zs)) refl (least_of-split z zs)
    where
      more : {w : X} {bs : List X} → le x w ≡ false → ((y : X) → Memᴰ y bs → le y w ≡ false) → (y : X) → Memᴰ y (x ∷ bs)
          → le y w ≡ false
      more {w} e f y (Memᴰ.head q) = subst (λ v. le v w ≡ false) (sym q) e
      more e f y (Memᴰ.tail m) = f y m

      go : {w : X} (t : Bool) → le x w ≡ t → Split (z ∷ zs) w → Split (x ∷ z ∷ zs) (cond t x w)
      go true e r = record { before = []; after = z ∷ zs; is = refl; earlier_more = λ y m. absurd (Memᴰ.not-nil m) }
      go false e r = record {
        before = x ∷ r.before;
        after = r.after;
        is = ap (λ (vs : List X). x ∷ vs) r.is;
        earlier_more = more e r.earlier_more;
      }

  module _ (w : X) (after : List X) where
    -- nothing after it is less
    stays : (vs : List X) → ((y : X) → Memᴰ y (w ∷ vs) → le w y ≡ true) → least_of le w vs ≡ w
    stays [] g = refl
    stays (v ∷ vs) g = ap (λ (b : Bool). cond b w (least_of le v vs)) (g (least_of le v vs) (Memᴰ.tail (least_of-in v vs)))

    found : (y : X) (ys : List X) (bs : List X) → y ∷ ys ≡ bs ++ w ∷ after → ((v : X) → Memᴰ v bs → le v w ≡ false)
        → ((v : X) → Memᴰ v (y ∷ ys) → le w v ≡ true) → least_of le y ys ≡ w
    found y ys [] q e g =
        let head : y ≡ w = cc q in
        subst (λ v. least_of le v ys ≡ w) (sym head) (stays ys (subst (λ v. (u : X) → Memᴰ u (v ∷ ys) → le w u ≡ true) head g))
    found y [] (b ∷ bs) q e g = absurd (none bs (cc q))
      where
        none : (cs : List X) → [] ≡ cs ++ w ∷ after → ⊥
        none [] h = let z : ◌≡◌ {A = ℕ} 0 1 = cc h in omega arith
        none (c ∷ cs) h = let z : ◌≡◌ {A = ℕ} 0 1 = cc h in omega arith
    found y (z ∷ zs) (b ∷ bs) q e g =
        let head : y ≡ b = cc q in
        let tail : z ∷ zs ≡ bs ++ w ∷ after = cc q in
        let rest = found z zs bs tail (λ v m. e v (Memᴰ.tail m)) (λ v m. g v (Memᴰ.tail m)) in
        ap (λ (v : X). cond (le y v) y v) rest
        ∙ ap (λ (t : Bool). cond t y w) (subst (λ v. le v w ≡ false) (sym head) (e b (Memᴰ.head refl)))

  -- what is first of the least is found
  pub least_of-only : (x : X) (xs : List X) (w : X) → FirstLeast le (x ∷ xs) w → least_of le x xs ≡ w
  least_of-only x xs w f = found w f.after x xs f.before f.is f.earlier_more f.none-less

  -- ---- a test that compares

  module _ (Good : X → Type 0) (le_refl : (x : X) → Good x → le x x ≡ true)
      (le_total : (x y : X) → Good x → Good y → le x y ≡ false → le y x ≡ true)
      (le_trans : (x y z : X) → Good x → Good y → Good z → le x y ≡ true → le y z ≡ true → le x z ≡ true) where
    least_of-good : (x : X) (xs : List X) → All Good (x ∷ xs) → Good (least_of le x xs)
    least_of-good x xs a = all_in Good (x ∷ xs) a (least_of-in x xs)

    -- the three of them, by what the tests say
    kept : (x y z : X) → Good x → Good y → Good z → (s t : Bool) → le x y ≡ s → le y z ≡ t
        → cond (le x (cond t y z)) x (cond t y z) ≡ cond (le (cond s x y) z) (cond s x y) z
    kept x y z gx gy gz true true e f =
        ap (λ (b : Bool). cond b x y) e ∙ sym (ap (λ (b : Bool). cond b x z) (le_trans x y z gx gy gz e f))
    kept x y z gx gy gz true false e f = refl
    kept x y z gx gy gz false true e f = ap (λ (b : Bool). cond b x y) e ∙ sym (ap (λ (b : Bool). cond b y z) f)
    kept x y z gx gy gz false false e f = ap (λ (b : Bool). cond b x z) (over (le x z) refl) ∙ sym (ap (λ (b : Bool). cond b y z) f)
      where
        -- y < x and z < y
        over : (t : Bool) → le x z ≡ t → le x z ≡ false
        over false h = h
        over true h = absurd (true≢false (sym (le_trans y x z gy gx gz (le_total x y gx gy e) h) ∙ f))

    -- two at the front, as one
    pub least_of-step : (x y : X) (ys : List X) → All Good (x ∷ y ∷ ys) → least_of le x (y ∷ ys) ≡ least_of le (cond (le x y) x y) ys
    least_of-step x y [] a = refl
    least_of-step x y (z ∷ zs) a = kept x y (least_of le z zs) a.0 a.1.0 (least_of-good z zs a.1.1) (le x y)
        (le y (least_of le z zs)) refl refl

    pub least_of-none-less : (x : X) (xs : List X) → All Good (x ∷ xs) → (y : X) → Memᴰ y (x ∷ xs) → le (least_of le x xs) y ≡ true
    least_of-none-less x [] a y (Memᴰ.head e) = subst (λ z. le x z ≡ true) (sym e) (le_refl x a.0)
    least_of-none-less x [] a y (Memᴰ.tail m) = absurd (Memᴰ.not-nil m)
    least_of-none-less x (z ∷ zs) a y m =
        go (le x (least_of le z zs)) refl m (least_of-good z zs a.1) (λ v k. least_of-none-less z zs a.1 v k)
      where
        go : {w : X} (t : Bool) → le x w ≡ t → Memᴰ y (x ∷ z ∷ zs) → Good w → ((v : X) → Memᴰ v (z ∷ zs) → le w v ≡ true)
            → le (cond t x w) y ≡ true
        go true e (Memᴰ.head q) g below = subst (λ v. le x v ≡ true) (sym q) (le_refl x a.0)
        go {w} true e (Memᴰ.tail k) g below =
            le_trans x w y a.0 g (all_in Good (z ∷ zs) a.1 k) e (below y k)
        go {w} false e (Memᴰ.head q) g below = subst (λ v. le w v ≡ true) (sym q) (le_total x w a.0 g e)
        go false e (Memᴰ.tail k) g below = below y k

    pub least_of-first : (x : X) (xs : List X) → All Good (x ∷ xs) → FirstLeast le (x ∷ xs) (least_of le x xs)
    least_of-first x xs a =
        let s = least_of-split x xs in
        record {
          before = s.before;
          after = s.after;
          is = s.is;
          none-less = least_of-none-less x xs a;
          earlier_more = s.earlier_more;
        }

    -- with one element more
    pub least_of-snoc : (x : X) (xs : List X) (y : X) → All Good (x ∷ xs) → Good y
        → least_of le x (xs ++ (y ∷ [])) ≡ cond (le (least_of le x xs) y) (least_of le x xs) y
    least_of-snoc x [] y a g = refl
    least_of-snoc x (z ∷ zs) y a g =
        least_of-step x z (zs ++ (y ∷ [])) (a.0, (a.1.0, all_snoc zs a.1.1)) ∙ least_of-snoc (cond (le x z) x z) zs y
        (picked (le x z), a.1.1) g
        ∙ ap (λ (w : X). cond (le w y) w y) (sym (least_of-step x z zs a))
      where
        picked : (t : Bool) → Good (cond t x z)
        picked true = a.0
        picked false = a.1.0

        all_snoc : (vs : List X) → All Good vs → All Good (vs ++ (y ∷ []))
        all_snoc [] b = (g, tt)
        all_snoc (v ∷ vs) b = (b.0, all_snoc vs b.1)
