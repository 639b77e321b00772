-- Two rows that are read together and pushed: the invariant of that loop and its moves.
--     Reading half P f n Q g e old l i j k     k corners are in l, the rows from i and from j on are to come: with them the scan leaves
--                              what it leaves of all
--     left-few, line-to        how many are to come; a part of a line
--     reading-start            before the first corner
--     reading-room, reading-more, reading-less      one step: there is room for the corner, and less is left
--     sign-less, sign-equal, sign-greater      what an order says of the sign
--     stepped-first, stepped-second     what the step does, by the code's order of the two corners
--     first_rest, second-rest      one row is spent: the rest of the other is in order already
use Rattle.std.specs.Prelude.{◌≡◌, refl, Bool, true, false, cond, List, [], ◌∷◌, ℕ, zero, suc, ◌+◌, ◌-◌, ◌≤◌, ◌<◌, ℤ, pos, negsuc, length}
use Rattle.std.specs.declared.cmp.Ordering.TheVariants.{Less, Equal, Greater}
use Rattle.hull.specs.Chain.{ordering_of}
use Rattle.std.proofs.Common.{sym, ◌∙◌, ap, subst, arith, lt→ltb}
use Rattle.std.specs.Int.Signed.{le_z}
use Rattle.integer.specs.Order.{weaken, le_z-false, le-le_z, lt-le_z}
use Rattle.plane.specs.Point.{Point, points, corner}
use Rattle.sorting.specs.Order.{order, in_order, run, left_over, Line, Rises}
use Rattle.sorting.specs.Buffer.{SmallTo, Scanned, Stepped}
use Rattle.sorting.specs.theory.Least.{in_order-length}
use Rattle.hull.specs.theory.Unite.{left_over-length, first-left, second-left, Read, read_as, rows_step}
use Rattle.hull.specs.theory.Stack.{Scanning, scanning-start, scanning-as, scanning-room, scanning-one}

pub sign-less : (z : ℤ) → Less ≡ ordering_of z → (le_z z (pos 0) ≡ true) × (le_z (pos 0) z ≡ false)
sign-less (negsuc n) e = (refl, refl)
sign-less (pos zero) e = cc
sign-less (pos (suc n)) e = cc

pub sign-equal : (z : ℤ) → Equal ≡ ordering_of z → (le_z z (pos 0) ≡ true) × (le_z (pos 0) z ≡ true)
sign-equal (negsuc n) e = cc
sign-equal (pos zero) e = (refl, refl)
sign-equal (pos (suc n)) e = cc

pub sign-greater : (z : ℤ) → Greater ≡ ordering_of z → le_z z (pos 0) ≡ false
sign-greater (negsuc n) e = cc
sign-greater (pos zero) e = cc
sign-greater (pos (suc n)) e = lt-le_z {x = pos (suc n)} {y = pos 0} (record { lt = lt→ltb 0 (suc n) (omega arith) })

pub sign-other : (z : ℤ) → (ordering_of z ≡ Greater → ⊥) → le_z z (pos 0) ≡ true
sign-other (negsuc n) f = refl
sign-other (pos zero) f = refl
sign-other (pos (suc n)) f = absurd (f refl)

-- a part of a line
pub line-to : {l : List ℤ} {e d : ℕ} → Line l e → d ≤ e → Line l d
line-to c h = record { some = c.some; near = c.near; within = omega (arith, c.within) }

pub record Reading (half : Bool) (P : List Point) (f n : ℕ) (Q : List Point) (g e : ℕ) (old l : List ℤ) (i j k : ℕ) : Type 0 where
  pub first-from : f ≤ i
  pub second_from : g ≤ j
  pub scanning : Scanning old 1 (in_order half (left_over P f n Q g e)) (in_order half (left_over P i n Q j e)) l k

pub left-few : (half : Bool) (P : List Point) (i n : ℕ) (Q : List Point) (j e : ℕ)
    → length (in_order half (left_over P i n Q j e)) ≤ (n - i) + (e - j)
left-few half P i n Q j e = omega (arith, in_order-length half (left_over P i n Q j e), left_over-length P i n Q j e)

pub reading-start : {half : Bool} {P : List Point} {f n : ℕ} {Q : List Point} {g e : ℕ} {l : List ℤ} → SmallTo l 1
    → 1 + (n - f) + (e - g) ≤ length (points l) → Reading half P f n Q g e l l f g 1
reading-start {half} {P} {f} {n} {Q} {g} {e} s h = record {
  first-from = omega arith;
  second_from = omega arith;
  scanning = scanning-start s (omega (arith, left-few half P f n Q g e));
}

module _ {half : Bool} {P : List Point} {f n : ℕ} {Q : List Point} {g e : ℕ} {old l : List ℤ} {i j k : ℕ} (low : Rises half P f n)
    (high : Rises half Q g e) (c : Reading half P f n Q g e old l i j k) where
  pub first_rest : e ≤ j → Scanning old 1 (in_order half (left_over P f n Q g e)) (run P i (n - i)) l k
  first_rest h = scanning-as c.scanning (first-left half P Q low c.first-from h)

  pub second-rest : n ≤ i → Scanning old 1 (in_order half (left_over P f n Q g e)) (run Q j (e - j)) l k
  second-rest h = scanning-as c.scanning (second-left half P Q high c.second_from h)

  module _ (more : i < n) (other-more : j < e) where
    read : Read half P n Q e i j (cond (le_z (order half (corner P i) (corner Q j)) (pos 0)) (corner P i) (corner Q j))
        (cond (le_z (order half (corner P i) (corner Q j)) (pos 0)) (i + 1) i)
        (cond (le_z (pos 0) (order half (corner P i) (corner Q j))) (j + 1) j)
    read = rows_step half P n f low Q e g high i j c.first-from c.second_from (omega arith) (omega arith) more other-more

    pub reading-room : k < length (points l)
    reading-room = scanning-room c.scanning read.order

    module _ {now : List ℤ} {i' j' r : ℕ} (s : Stepped half P i Q j l now k i' j' r) where
      pub reading-less : (n - i') + (e - j') < (n - i) + (e - j)
      reading-less =
          let t = read_as refl s.first s.second read in
          omega (arith, t.more, t.first-from, t.first-within, t.second_from, t.second-within)

      pub reading-more : Reading half P f n Q g e old now i' j' r
      reading-more =
          let t = read_as refl s.first s.second read in
          record {
            first-from = omega (arith, t.first-from, c.first-from);
            second_from = omega (arith, t.second_from, c.second_from);
            scanning = scanning-one c.scanning t.order s.scanned;
          }

-- ---- the step, by the code's order z of the two corners

module _ {half : Bool} {P Q : List Point} {i j : ℕ} {z : ℤ} (told : z ≡ order half (corner P i) (corner Q j)) {old l : List ℤ} {k r : ℕ}
    {p : Point} (pushed : Scanned old k (p ∷ []) l r) where
  pub stepped-first : le_z z (pos 0) ≡ true → p ≡ corner P i → {s : ℕ} → s ≡ cond (le_z (pos 0) z) (j + 1) j
      → Stepped half P i Q j old l k (i + 1) s r
  stepped-first h is {s} e =
      let first : le_z (order half (corner P i) (corner Q j)) (pos 0) ≡ true = sym (ap (λ y. le_z y (pos 0)) told) ∙ h in
      record {
        first = sym (ap (λ t. cond t (i + 1) i) first);
        second = e ∙ ap (λ y. cond (le_z (pos 0) y) (j + 1) j) told;
        scanned = subst (λ q. Scanned old k (q ∷ []) l r) (is ∙ sym (ap (λ t. cond t (corner P i) (corner Q j)) first)) pushed;
      }

  pub stepped-second : le_z z (pos 0) ≡ false → p ≡ corner Q j → Stepped half P i Q j old l k i (j + 1) r
  stepped-second h is =
      let second : le_z (order half (corner P i) (corner Q j)) (pos 0) ≡ false = sym (ap (λ y. le_z y (pos 0)) told) ∙ h in
      let c : ℤ = order half (corner P i) (corner Q j) in
      let read : le_z (pos 0) c ≡ true = le-le_z {x = pos 0} {y = c} (weaken (le_z-false {x = c} {y = pos 0} second)) in
      record {
        first = sym (ap (λ t. cond t (i + 1) i) second);
        second = sym (ap (λ t. cond t (j + 1) j) read);
        scanned = subst (λ q. Scanned old k (q ∷ []) l r) (is ∙ sym (ap (λ t. cond t (corner P i) (corner Q j)) second)) pushed;
      }
