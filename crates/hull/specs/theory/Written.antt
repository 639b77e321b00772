-- Both chains in one buffer, one after the other.
--     chains-shape      one after the other they are the shape of both
--     numbers-front     the numbers of the first corners are the first numbers
--     front-put         corners at the front of a buffer, and at the front of its rest; `front-one`: one corner written there
use Rattle.std.specs.Prelude.{◌≡◌, refl, true, false, List, [], ◌∷◌, ◌++◌, ℕ, zero, suc, ◌+◌, ◌*◌, ◌≤◌, ◌<◌, ℤ, length, take}
use Rattle.std.proofs.Common.{sym, ◌∙◌, ap, ap₂, subst, le_of_suc-le-suc, arith, length-append, length-take-le}
use borrow.Rule.Slice.PartMut.{put_mid, post_of}
use Rattle.std.proofs.Math.Seq.{take-append-add}
use Rattle.std.proofs.lemmas.List.{take-append-le}
use Rattle.plane.specs.Point.{Point, points, numbers}
use Rattle.plane.specs.Shape.{IsShape}
use Rattle.plane.specs.Corner.{shape_of}
use Rattle.plane.proofs.theory.lists.Flat.{points-length, numbers-append}
use Rattle.plane.proofs.theory.hull.Hull.{circuit}
use Rattle.polygon.specs.Front.{Front}
use Rattle.polygon.specs.Point.{stored}
use Rattle.sorting.specs.Buffer.{Chained}
use Rattle.hull.specs.Chain.{right_rows, left_rows, Spread}
use Rattle.hull.specs.theory.Spread.{spread-shape}
use Rattle.hull.specs.theory.Stack.{take-stack}

pub chains-shape : {A B : List Point} {a b : ℕ} {s t : Point} → IsShape A → IsShape B → Spread A a B b s t
    → {old xs old' ys : List ℤ} {m n : ℕ} → Chained true (right_rows A a B b s t) s t old xs m
    → Chained false (left_rows A a B b s t) t s old' ys n → m ≤ length (points xs) → n ≤ length (points ys)
    → take m (points xs) ++ take n (points ys) ≡ shape_of (A ++ B)
chains-shape shape other c {xs = xs} {ys = ys} {m = m} {n = n} up down i j =
    ap₂ (λ K L. K ++ L) (take-stack (points xs) m i) (take-stack (points ys) n j)
    ∙ ap₂ circuit (sym up.closes) (sym down.closes) ∙ spread-shape shape other c

-- ---- the buffer

pub numbers-front : (l : List ℤ) (m : ℕ) → m ≤ length (points l) → numbers (take m (points l)) ≡ take (2 * m) l
numbers-front l zero h = refl
numbers-front [] (suc m) h = absurd (omega arith)
numbers-front (a ∷ []) (suc m) h = absurd (omega arith)
numbers-front (a ∷ (b ∷ l)) (suc m) h =
    let e : suc (suc (2 * m)) ≡ 2 * suc m = omega arith in
    ap (λ k. a ∷ b ∷ k) (numbers-front l m (le_of_suc-le-suc h)) ∙ ap (λ k. take k (a ∷ b ∷ l)) e

pub front-put : (xs ys : List ℤ) (m n k : ℕ) → m ≤ length (points xs) → n ≤ length (points ys)
    → Front (take m (points xs) ++ take n (points ys)) (m + n) (put_mid (2 * m) k xs ys)
front-put xs ys m n k h i = record {
  counted = sym (length-append (take m (points xs)) (take n (points ys))
      ∙ ap₂ ◌+◌ (length-take-le m (points xs) h) (length-take-le n (points ys) i));
  fits = omega (
    arith,
    length-append (take (2 * m) xs) (ys ++ post_of (2 * m) k xs),
    length-append ys (post_of (2 * m) k xs),
    before,
    points-length ys,
  );
  front = ap (λ j. take j (take (2 * m) xs ++ (ys ++ post_of (2 * m) k xs))) whole
      ∙ take-append-add (take (2 * m) xs) (ys ++ post_of (2 * m) k xs) (2 * n)
      ∙ ap (λ l. take (2 * m) xs ++ l) (take-append-le (2 * n) ys (post_of (2 * m) k xs) (omega (arith, points-length ys)))
      ∙ sym (numbers-append (take m (points xs)) (take n (points ys)) ∙ ap₂ (λ K L. K ++ L) (numbers-front xs m h) (numbers-front ys n i));
}
  where
    before : length (take (2 * m) xs) ≡ 2 * m
    before = length-take-le (2 * m) xs (omega (arith, points-length xs))

    whole : 2 * (m + n) ≡ length (take (2 * m) xs) + 2 * n
    whole = omega (arith, before)

pub front-one : (l : List ℤ) {now : List ℤ} {p : Point} → 0 < length (points l) → now ≡ stored l 0 p → Front (p ∷ []) 1 now
front-one l {now} {p} h e = subst (λ m. Front (p ∷ []) 1 m) (sym e) (go l h)
  where
    go : (l : List ℤ) → 0 < length (points l) → Front (p ∷ []) 1 (stored l 0 p)
    go [] h = absurd (omega arith)
    go (a ∷ []) h = absurd (omega arith)
    go (a ∷ (b ∷ l)) h = record { counted = refl; fits = omega arith; front = refl }
