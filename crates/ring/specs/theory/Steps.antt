-- The walks of the definitions, one step at a time, by positions in their lists.
--     map_at                       the points of a list of positions
--     last-at, closed_at           the last of a list; whether a ring is closed
--     opened-count, opened_some    how many are left without a closing point
--     least-below                  the least is one of them
--     walked_whole, walked_step    one more position on the way round
--     clockwise-at                 the turn at the first
--     sense-length, sense-kept, sense-first, sense-back      a list read as it is or backwards, by position
--     sense-below                  what is below a bound stays so
--     straight-left, -right, -level     the test for points in line, by the turn
--     bends-start, bends-step      the corners from the beginning, and from a position on
--     previous-after, previous-below    the position before one
use Rattle.std.specs.Prelude.{◌≡◌, refl, Bool, true, false, not, cond, ◌&&◌, ℕ, zero, suc, ◌+◌, ◌-◌, ◌≤◌, ◌<◌, ltb, eqb, pos, length}
use Rattle.std.specs.Prelude.{get_or, take, drop}
use Rattle.std.proofs.Common.{sym, ◌∙◌, ap, ap₂, zero-le, add-one, arith, lt-ltb, ne_eqb, length-take-le, drop-cons}
use mathlib.Core.List.{List, [], ◌∷◌, ◌++◌, map, reverse, reverse-cons}
use Rattle.std.proofs.lemmas.List.{length-reverse, get_or_at}
use Rattle.std.proofs.Math.ListN.{get_or-append}
use Rattle.std.proofs.Math.Seq.{drop-length}
use Rattle.std.specs.Int.Signed.{lt_z}
use Rattle.plane.specs.Point.{Point, ◌⊖◌, corner, same_point}
use Rattle.plane.specs.Direction.{value}
use Rattle.plane.specs.Turn.{turn}
use Rattle.plane.specs.Shape.{next, precedes}
use Rattle.plane.proofs.theory.lists.Next.{Following, onward, closing, following}
use Rattle.ring.specs.Round.{last_of, head_of, optional, closed, opened, clockwise, in_sense, straight, bending, bends}
use Rattle.ring.specs.Ring.{previous, walked, least_place}

pub map_at : (f : ℕ → Point) (xs : List ℕ) (i : ℕ) → i < length xs → corner (map f xs) i ≡ f (get_or xs i 0)
map_at f [] i h = absurd (omega arith)
map_at f (x ∷ xs) zero h = refl
map_at f (x ∷ xs) (suc i) h = map_at f xs i (omega arith)

-- ---- the last, and a closing point

pub last-at : {X : Type 0} (d x : X) (xs : List X) (k : ℕ) → k ≡ length xs → get_or (x ∷ xs) k d ≡ last_of x xs
last-at d x [] zero e = refl
last-at d x [] (suc k) e = absurd (omega arith)
last-at d x (y ∷ ys) zero e = absurd (omega arith)
last-at d x (y ∷ ys) (suc k) e = last-at d y ys k (omega arith)

pub closed_at : {X : Type 0} (f : X → Point) (d : X) (xs : List X)
    → closed f xs ≡ (ltb 1 (length xs) && same_point (f (get_or xs 0 d)) (f (get_or xs (length xs - 1) d)))
closed_at f d [] = refl
closed_at f d (x ∷ []) = refl
closed_at f d (x ∷ (y ∷ ys)) =
    let far : 1 < length (x ∷ y ∷ ys) = omega arith in
    let k : length (x ∷ y ∷ ys) - 1 ≡ suc (length ys) = omega arith in
    sym (ap (λ (t : Bool). t && same_point (f x) (f (get_or (x ∷ y ∷ ys) (length (x ∷ y ∷ ys) - 1) d))) (lt-ltb _ _ far)
    ∙ ap (λ (i : ℕ). same_point (f x) (f (get_or (x ∷ y ∷ ys) i d))) k
    ∙ ap (λ (z : _). same_point (f x) (f z)) (last-at d y ys (length ys) refl))

pub opened-count : {X : Type 0} (f : X → Point) (xs : List X) → length (opened f xs) ≡ cond (closed f xs) (length xs - 1) (length xs)
opened-count f xs = go (closed f xs)
  where
    go : (b : Bool) → length (cond b (take (length xs - 1) xs) xs) ≡ cond b (length xs - 1) (length xs)
    go true = length-take-le (length xs - 1) xs (omega arith)
    go false = refl

pub opened-le : {X : Type 0} (f : X → Point) (xs : List X) → length (opened f xs) ≤ length xs
opened-le f xs = go (closed f xs) (opened-count f xs)
  where
    go : (b : Bool) → length (opened f xs) ≡ cond b (length xs - 1) (length xs) → length (opened f xs) ≤ length xs
    go true e = omega arith
    go false e = omega arith

pub opened_some : {X : Type 0} (f : X → Point) (xs : List X) → 0 < length xs → 0 < length (opened f xs)
opened_some f [] h = h
opened_some f (x ∷ []) h = h
opened_some f (x ∷ (y ∷ ys)) h = go (closed f (x ∷ y ∷ ys)) (opened-count f (x ∷ y ∷ ys))
  where
    go : (b : Bool) → length (opened f (x ∷ y ∷ ys)) ≡ cond b (length (x ∷ y ∷ ys) - 1) (length (x ∷ y ∷ ys))
        → 0 < length (opened f (x ∷ y ∷ ys))
    go true e = omega arith
    go false e = omega arith

-- ---- the least, and the way round

pub least-below : (g : ℕ → Point) (n : ℕ) → 0 < n → least_place g n < n
least-below g zero h = absurd (omega arith)
least-below g (suc zero) h = go (precedes (g 0) (g 0))
  where
    go : (b : Bool) → cond b 0 0 < 1
    go true = omega arith
    go false = omega arith
least-below g (suc (suc n)) h = go (precedes (g (suc n)) (g (least_place g (suc n)))) (least-below g (suc n) (omega arith))
  where
    go : (b : Bool) → least_place g (suc n) < suc n → cond b (suc n) (least_place g (suc n)) < suc (suc n)
    go true l = omega arith
    go false l = omega arith

pub least-at-most : (g : ℕ → Point) (n : ℕ) → least_place g n ≤ n
least-at-most g zero = zero-le
least-at-most g (suc n) = let l = least-below g (suc n) (omega arith) in omega arith

pub walked_step : (n s i : ℕ) → i < n → walked n s (n - i) ≡ s ∷ walked n (next n s) (n - (i + 1))
walked_step n s i h = let e : n - i ≡ suc (n - (i + 1)) = omega arith in ap (walked n s) e

pub walked_whole : (n s : ℕ) → 0 < n → walked n s n ≡ s ∷ walked n (next n s) (n - 1)
walked_whole n s h = let e : n ≡ suc (n - 1) = omega arith in ap (walked n s) e

pub previous-after : (n j : ℕ) → previous n (j + 1) ≡ j
previous-after n j =
    ap (λ (t : Bool). cond t (n - 1) (j + 1 - 1)) (ne_eqb (j + 1) 0 (λ e. omega arith)) ∙ omega arith

pub previous-below : (n i : ℕ) → i < n → previous n i < n
previous-below n i h = go (eqb i 0)
  where
    go : (b : Bool) → cond b (n - 1) (i - 1) < n
    go true = omega arith
    go false = omega arith

-- ---- the sense

pub clockwise-at : (f : ℕ → Point) (xs : List ℕ) → 0 < length xs
    → clockwise f xs ≡ lt_z (turn (f (get_or xs (length xs - 1) 0)) (f (get_or xs 0 0)) (f (get_or xs (next (length xs) 0) 0))) (pos 0)
clockwise-at f [] h = absurd (omega arith)
clockwise-at f (x ∷ xs) h =
    let k : length (x ∷ xs) - 1 ≡ length xs = omega arith in
    let last = ap (λ (i : ℕ). get_or (x ∷ xs) i 0) k ∙ last-at 0 x xs (length xs) refl in
    sym (ap₂ (λ (a c : ℕ). lt_z (turn (f a) (f x) (f c)) (pos 0)) last (second xs))
  where
    second : (xs : List ℕ) → get_or (x ∷ xs) (next (length (x ∷ xs)) 0) 0 ≡ head_of x xs
    second [] = refl
    second (y ∷ ys) = ap (λ (i : ℕ). get_or (x ∷ y ∷ ys) i 0) (later (following (length (x ∷ y ∷ ys)) 0 (omega arith)))
      where
        later : Following (length (x ∷ y ∷ ys)) 0 → next (length (x ∷ y ∷ ys)) 0 ≡ 1
        later (onward l e) = e
        later (closing l e) = absurd (omega arith)

reverse-at : (xs : List ℕ) (i k : ℕ) → i + k + 1 ≡ length xs → get_or (reverse xs) i 0 ≡ get_or xs k 0
reverse-at [] i k e = absurd (omega arith)
reverse-at (x ∷ xs) i zero e =
    ap (λ (l : List ℕ). get_or l i 0) (reverse-cons x xs) ∙ get_or_at (reverse xs) x [] 0 i (length-reverse xs ∙ omega arith)
reverse-at (x ∷ xs) i (suc k) e =
    let below : i < length (reverse xs) = omega (arith, length-reverse xs) in
    ap (λ (l : List ℕ). get_or l i 0) (reverse-cons x xs) ∙ get_or-append (reverse xs) (x ∷ []) 0 i below
    ∙ reverse-at xs i k (omega arith)

pub sense-length : (back : Bool) (xs : List ℕ) → length (in_sense back xs) ≡ length xs
sense-length true [] = refl
sense-length true (x ∷ xs) = ap suc (length-reverse xs)
sense-length false xs = refl

pub sense-first : (back : Bool) (xs : List ℕ) → get_or (in_sense back xs) 0 0 ≡ get_or xs 0 0
sense-first true [] = refl
sense-first true (x ∷ xs) = refl
sense-first false xs = refl

pub sense-back : (xs : List ℕ) (j : ℕ) → 0 < j → j < length xs → get_or (in_sense true xs) j 0 ≡ get_or xs (length xs - j) 0
sense-back [] j h l = absurd (omega arith)
sense-back (x ∷ xs) zero h l = absurd (omega arith)
sense-back (x ∷ xs) (suc j) h l =
    let k : length (x ∷ xs) - suc j ≡ suc (length xs - suc j) = omega arith in
    reverse-at xs j (length xs - suc j) (omega arith) ∙ sym (ap (λ (i : ℕ). get_or (x ∷ xs) i 0) k)

-- what is below a bound stays so
pub sense-below : (b : ℕ) (back : Bool) (xs : List ℕ) → ((j : ℕ) → j < length xs → get_or xs j 0 < b)
    → (j : ℕ) → j < length xs → get_or (in_sense back xs) j 0 < b
sense-below b false xs f j h = f j h
sense-below b true xs f zero h = rw (sense-first true xs) (f 0 h)
sense-below b true xs f (suc j) h = rw (sense-back xs (suc j) (omega arith) h) (f (length xs - suc j) (omega arith))

-- ---- the corners

module _ (a b c : Point) where
  pub straight-left : lt_z (pos 0) (turn a b c) ≡ true → straight a b c ≡ false
  unfolding straight
  straight-left e = rw e

  pub straight-right : lt_z (pos 0) (turn a b c) ≡ false → lt_z (turn a b c) (pos 0) ≡ true → straight a b c ≡ false
  unfolding straight
  straight-right e h = rw (e, h)

  pub straight-level : lt_z (pos 0) (turn a b c) ≡ false → lt_z (turn a b c) (pos 0) ≡ false
      → straight a b c ≡ lt_z (pos 0) (value (b ⊖ a) (c ⊖ b))
  unfolding straight
  straight-level e h = rw (e, h)

pub bends-start : (f : ℕ → Point) (xs : List ℕ) → bending f (get_or xs (previous (length xs) 0) 0) xs (get_or xs 0 0) ≡ bends f xs
bends-start f [] = refl
bends-start f (x ∷ xs) =
    let k : length (x ∷ xs) - 1 ≡ length xs = omega arith in
    ap (λ (a : ℕ). bending f a (x ∷ xs) x) (ap (λ (i : ℕ). get_or (x ∷ xs) i 0) k ∙ last-at 0 x xs (length xs) refl)

after : (xs : List ℕ) (j : ℕ) → j < length xs → head_of (get_or xs 0 0) (drop (suc j) xs) ≡ get_or xs (next (length xs) j) 0
after xs j h = go (following (length xs) j h)
  where
    go : Following (length xs) j → head_of (get_or xs 0 0) (drop (suc j) xs) ≡ get_or xs (next (length xs) j) 0
    go (onward l e) = ap (head_of (get_or xs 0 0)) (drop-cons xs (suc j) 0 l) ∙ sym (ap (λ (i : ℕ). get_or xs i 0) e)
    go (closing l e) =
        ap (λ (i : ℕ). head_of (get_or xs 0 0) (drop i xs)) l ∙ ap (head_of (get_or xs 0 0)) (drop-length xs)
        ∙ sym (ap (λ (i : ℕ). get_or xs i 0) e)

pub bends-step : (f : ℕ → Point) (xs : List ℕ) (j : ℕ) → j < length xs
    → bending f (get_or xs (previous (length xs) j) 0) (drop j xs) (get_or xs 0 0)
    ≡ optional (not (straight (f (get_or xs (previous (length xs) j) 0)) (f (get_or xs j 0)) (f (get_or xs (next (length xs) j) 0))))
    (get_or xs j 0)
    ++ bending f (get_or xs (previous (length xs) (j + 1)) 0) (drop (j + 1) xs) (get_or xs 0 0)
bends-step f xs j h =
    ap (λ (l : List ℕ). bending f (get_or xs (previous (length xs) j) 0) l (get_or xs 0 0)) (drop-cons xs j 0 h)
    ∙ ap (λ (c : ℕ). optional (not (straight (f (get_or xs (previous (length xs) j) 0)) (f (get_or xs j 0)) (f c))) (get_or xs j 0)
    ++ bending f (get_or xs j 0) (drop (suc j) xs) (get_or xs 0 0)) (after xs j h)
    ∙ ap₂ (λ (a k : ℕ). optional (not (straight (f (get_or xs (previous (length xs) j) 0)) (f (get_or xs j 0))
    (f (get_or xs (next (length xs) j) 0)))) (get_or xs j 0) ++ bending f (get_or xs a 0) (drop k xs) (get_or xs 0 0))
    (sym (previous-after (length xs) j)) (sym (add-one j))
