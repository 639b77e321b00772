-- The way round a ring, and its first point.
--     walked-has                   the way round passes every position
--     open_at                      a point of the ring is one of the points without a closing one
--     least-least                  no point precedes the least; `first-kept`: such a point is kept
--     under-member, opened-first   a member is below the bound of all; the first stays where a closing one is dropped
use Rattle.std.specs.Prelude.{◌≡◌, refl, Bool, true, false, not, cond, ◌⊎◌, ℕ, zero, suc, ◌+◌, ◌-◌, ◌≤◌, ◌<◌, length, get_or, take}
use Rattle.std.proofs.Common.{sym, ◌∙◌, ap, subst, true≢false, inl, inr, arith, get_or-take, length-take-le}
use mathlib.Core.List.{List, [], ◌∷◌, ◌++◌, Memᴰ}
use Rattle.std.proofs.Math.Decide.{ℕ_discrete}
use Rattle.plane.specs.Point.{Point, corner, origin, same_point}
use Rattle.plane.specs.Shape.{next, precedes}
use Rattle.plane.specs.Forms.{Precedes}
use Rattle.plane.proofs.theory.lists.Next.{Following, onward, closing, following, next-below}
use Rattle.plane.proofs.theory.lists.Members.{same_point-self}
use Rattle.plane.proofs.theory.forms.Precedes.{Placed, ahead, same, behind, placed, not-precedes, precedes-irrefl, precedes-trans}
use Rattle.ring.specs.Round.{last_of, head_of, optional, closed, opened, straight, bending}
use Rattle.ring.specs.Round.{bends}
use Rattle.ring.specs.Ring.{walked, least_place, open_ring}
use Rattle.ring.specs.theory.Under.{Under}
use Rattle.ring.specs.theory.Kept.{Ringed, one, round}
use Rattle.ring.specs.theory.Kept.{apart-last, same-swap}
use Rattle.ring.specs.theory.Furthest.{straight→level, straight-not-least, point-not-straight, head-under, last_under, head_apart}

-- ---- the way round passes every position

pub walked-has : (n s k i : ℕ) → s < n → i < n → ((s ≤ i) × (i < s + k)) ⊎ (i + n < s + k) → Memᴰ i (walked n s k)
walked-has n s zero i h l (inl d) = absurd (omega (arith, d.0, d.1))
walked-has n s zero i h l (inr d) = absurd (omega arith)
walked-has n s (suc k) i h l d = go (ℕ_discrete i s) (following n s h) (λ w. walked-has n (next n s) k i (next-below n s h) l w)
  where
    later : Following n s → (i ≡ s → ⊥) → ((s ≤ i) × (i < s + suc k)) ⊎ (i + n < s + suc k)
        → ((next n s ≤ i) × (i < next n s + k)) ⊎ (i + n < next n s + k)
    later (onward m e) o (inl d) = inl (omega (arith, d.0, d.1), omega (arith, d.0, d.1))
    later (onward m e) o (inr d) = inr (omega arith)
    later (closing m e) o (inl d) = absurd (omega (arith, o, d.0))
    later (closing m e) o (inr d) = inl (omega arith, omega arith)

    go : Dec (i ≡ s) → Following n s
        → (((next n s ≤ i) × (i < next n s + k)) ⊎ (i + n < next n s + k) → Memᴰ i (walked n (next n s) k))
        → Memᴰ i (walked n s (suc k))
    go (yes e) f on = Memᴰ.head e
    go (no o) f on = Memᴰ.tail (on (later f o d))

-- a point of the ring is one of the points without a closing one
pub open_at : (ps : List Point) (i : ℕ) → i < length (open_ring ps) → corner (open_ring ps) i ≡ corner ps i
open_at ps i h = go (closed (λ p. p) ps) h
  where
    go : (b : Bool) → i < length (cond b (take (length ps - 1) ps) ps) → corner (cond b (take (length ps - 1) ps) ps) i ≡ corner ps i
    go false l = refl
    go true l = get_or-take (length ps - 1) ps i origin (omega (arith, length-take-le (length ps - 1) ps (omega arith)))

-- the least is preceded by none
pub least-least : (g : ℕ → Point) (n i : ℕ) → i < n → precedes (g i) (g (least_place g n)) ≡ false
least-least g zero i h = absurd (omega arith)
least-least g (suc n) i h = go (precedes (g n) (g (least_place g n))) refl (ℕ_discrete i n) (least-least g n i)
  where
    go : (b : Bool) → precedes (g n) (g (least_place g n)) ≡ b → Dec (i ≡ n) → (i < n → precedes (g i) (g (least_place g n)) ≡ false)
        → precedes (g i) (g (cond b n (least_place g n))) ≡ false
    go true e (yes q) before = not-precedes (g i) (g n) (λ p. precedes-irrefl (subst (λ (k : ℕ). Precedes (g k) (g n)) q p))
    go true e (no o) before = not-precedes (g i) (g n) (λ p. true≢false
        (sym (precedes-trans p (record { precedes-true = e })).precedes-true ∙ before (omega (arith, o))))
    go false e (yes q) before = subst (λ (k : ℕ). precedes (g k) (g (least_place g n)) ≡ false) (sym q) e
    go false e (no o) before = before (omega (arith, o))

pub under-member : (b : ℕ) (xs : List ℕ) → Under b xs → {x : ℕ} → Memᴰ x xs → x < b
under-member b [] u m = elim m [ ]
under-member b (y ∷ ys) u (Memᴰ.head e) = subst (λ (k : ℕ). k < b) (sym e) u.0
under-member b (y ∷ ys) u (Memᴰ.tail m) = under-member b ys u.1 m

pub opened-first : {X : Type 0} (f : X → Point) (d x : X) (ys : List X) → get_or (opened f (x ∷ ys)) 0 d ≡ x
opened-first f d x [] = refl
opened-first f d x (y ∷ ys) = go (closed f (x ∷ y ∷ ys))
  where
    less : length (x ∷ y ∷ ys) - 1 ≡ suc (length ys)
    less = omega arith

    go : (b : Bool) → get_or (cond b (take (length (x ∷ y ∷ ys) - 1) (x ∷ y ∷ ys)) (x ∷ y ∷ ys)) 0 d ≡ x
    go true = ap (λ (k : ℕ). get_or (take k (x ∷ y ∷ ys)) 0 d) less
    go false = refl

-- a point that no other precedes is kept
pub first-kept : (f : ℕ → Point) (n : ℕ) (xs : List ℕ) → Ringed f xs → Under n xs
    → ((i : ℕ) → i < n → precedes (f i) (f (get_or xs 0 0)) ≡ false) → (zs : List ℕ) × (bends f xs ≡ get_or xs 0 0 ∷ zs)
first-kept f n xs (one x) u least = ([], ap (λ (t : Bool). optional (not t) x ++ []) (point-not-straight (f x)))
first-kept f n xs (round x ys h) u least = (bending f x ys x, ap (λ (t : Bool). optional (not t) x ++ bending f x ys x) bent)
  where
    after : (i : ℕ) → i < n → same_point (f x) (f i) ≡ false → Precedes (f x) (f i)
    after i l o = at (placed (f x) (f i))
      where
        at : Placed (f x) (f i) → Precedes (f x) (f i)
        at (ahead p) = p
        at (same e) = absurd (true≢false (sym (same_point-self (f x)) ∙ ap (same_point (f x)) e ∙ o))
        at (behind p) = absurd (true≢false (sym p.precedes-true ∙ least i l))

    go : (t : Bool) → straight (f (last_of x ys)) (f x) (f (head_of x ys)) ≡ t → t ≡ false
    go false e = refl
    go true e = absurd (straight-not-least (straight→level (f (last_of x ys)) (f x) (f (head_of x ys)) e)
        (after (last_of x ys) (last_under n x ys u.0 u.1) (same-swap (f (last_of x ys)) (f x) (apart-last f x ys x h)))
        (after (head_of x ys) (head-under n x ys u.0 u.1) (head_apart f x ys x h)))

    bent : straight (f (last_of x ys)) (f x) (f (head_of x ys)) ≡ false
    bent = go (straight (f (last_of x ys)) (f x) (f (head_of x ys))) refl
