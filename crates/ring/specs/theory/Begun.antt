-- A ring begun elsewhere.
--     walked-points            the points on the way round from a position are the list begun there
--     least_at                 a position whose point precedes all others is the least
--     from-least               so the points from the least on are known; `own-least`: of a list that is begun there
--     least-open, last-all     such a list is not closed; what holds of all holds of the last
--     made l                   what is made of the points from the least on
--     begun-anywhere           a ring begun at any other point has the same corners
use Rattle.std.specs.Prelude.{◌≡◌, refl, Bool, true, false, cond, List, [], ◌∷◌, ◌++◌, map, ℕ, zero, suc, ◌+◌, ◌-◌, ◌≤◌, ◌<◌, length, take}
use Rattle.std.specs.Prelude.{drop}
use Rattle.std.proofs.Common.{sym, ◌∙◌, ap, ap₂, subst, append-nil, arith, length-append, length-drop, take_all, drop-cons}
use Rattle.std.proofs.Math.Decide.{ℕ_discrete}
use Rattle.std.proofs.Math.Seq.{take-append_seam, drop-append_seam}
use Rattle.plane.specs.Point.{Point, corner, origin}
use Rattle.plane.specs.Shape.{next, precedes}
use Rattle.plane.specs.Forms.{All, Precedes}
use Rattle.plane.proofs.theory.lists.Next.{Following, onward, closing, following}
use Rattle.plane.proofs.theory.lists.Members.{same_point-other}
use Rattle.plane.proofs.theory.forms.Precedes.{precedes-different, precedes-reversed}
use Rattle.plane.proofs.theory.forms.Standard.{all-at}
use Rattle.ring.specs.Round.{last_of, closed, distinct, sensed}
use Rattle.ring.specs.Round.{bends}
use Rattle.ring.specs.Ring.{walked, least_place, open_ring, from_least, ring_shape}
use Rattle.ring.specs.theory.Steps.{least-below}
use Rattle.ring.specs.theory.Natural.{self, ring-core}

-- ---- the points on the way round

module _ (ps : List Point) where
  abbrev n : ℕ
  n = length ps

  -- up to the end of the list
  walked-run : (s k : ℕ) → s + k ≤ n → map (corner ps) (walked n s k) ≡ take k (drop s ps)
  walked-run s zero h = refl
  walked-run s (suc zero) h = sym (ap (take 1) (drop-cons ps s origin (omega arith)))
  walked-run s (suc (suc k)) h =
      ap (λ (i : ℕ). corner ps s ∷ map (corner ps) (walked n i (suc k))) (on (following n s (omega arith)))
      ∙ ap (λ (l : List Point). corner ps s ∷ l) (walked-run (suc s) (suc k) (omega arith))
      ∙ sym (ap (take (suc (suc k))) (drop-cons ps s origin (omega arith)))
    where
      on : Following n s → next n s ≡ suc s
      on (onward l e) = e
      on (closing l e) = absurd (omega arith)

  -- from there on again from the beginning
  walked-wrap : (s j k m : ℕ) → s + suc j ≡ n → m ≡ j + k → map (corner ps) (walked n s (suc m))
      ≡ map (corner ps) (walked n s (suc j)) ++ map (corner ps) (walked n 0 k)
  walked-wrap s zero k m h e =
      let same : m ≡ k = omega arith in
      ap₂ (λ (i l : ℕ). corner ps s ∷ map (corner ps) (walked n i l)) (on (following n s (omega arith))) same
    where
      on : Following n s → next n s ≡ 0
      on (onward l e) = absurd (omega arith)
      on (closing l e) = e
  walked-wrap s (suc j) k zero h e = absurd (omega arith)
  walked-wrap s (suc j) k (suc m) h e = ap (λ (l : List Point). corner ps s ∷ l)
      (ap (λ (i : ℕ). map (corner ps) (walked n i (suc m))) on ∙ walked-wrap (suc s) j k m (omega arith) (omega arith)
      ∙ ap (λ (i : ℕ). map (corner ps) (walked n i (suc j)) ++ map (corner ps) (walked n 0 k)) (sym on))
    where
      onto : Following n s → next n s ≡ suc s
      onto (onward l e) = e
      onto (closing l e) = absurd (omega arith)

      on : next n s ≡ suc s
      on = onto (following n s (omega arith))

  pub walked-points : (s : ℕ) → s < n → map (corner ps) (walked n s n) ≡ drop s ps ++ take s ps
  walked-points s h =
      let j = n - suc s in
      let whole : n ≡ suc (j + s) = omega arith in
      let there : s + suc j ≡ n = omega arith in
      let rest : length (drop s ps) ≤ suc j = omega (arith, length-drop s ps) in
      ap (λ (k : ℕ). map (corner ps) (walked n s k)) whole ∙ walked-wrap s j s (j + s) there refl
      ∙ ap₂ (λ (a b : List Point). a ++ b) (walked-run s (suc j) (omega arith) ∙ take_all (suc j) (drop s ps) rest)
      (walked-run 0 s (omega arith))

-- ---- the least

pub least_at : (g : ℕ → Point) (n k : ℕ) → k < n → ((j : ℕ) → j < n → (j ≡ k → ⊥) → Precedes (g k) (g j)) → least_place g n ≡ k
least_at g zero k h f = absurd (omega arith)
least_at g (suc m) k h f = go (ℕ_discrete k m) (λ l. least_at g m k l (λ j b o. f j (omega arith) o))
  where
    last : (m : ℕ) → ((j : ℕ) → j < suc m → (j ≡ m → ⊥) → Precedes (g m) (g j))
        → cond (precedes (g m) (g (least_place g m))) m (least_place g m) ≡ m
    last zero f = one (precedes (g 0) (g 0))
      where
        one : (b : Bool) → ◌≡◌ {A = ℕ} (cond b 0 0) 0
        one true = refl
        one false = refl
    last (suc m) f =
        let below = least-below g (suc m) (omega arith) in
        ap (λ (b : Bool). cond b (suc m) (least_place g (suc m)))
        (f (least_place g (suc m)) (omega arith) (λ e. omega arith)).precedes-true

    go : Dec (k ≡ m) → (k < m → least_place g m ≡ k) → cond (precedes (g m) (g (least_place g m))) m (least_place g m) ≡ k
    go (yes e) before = last m (λ j b o. subst (λ (i : ℕ). Precedes (g i) (g j)) e (f j b (λ q. o (q ∙ e)))) ∙ sym e
    go (no o) before =
        let best = before (omega (arith, o)) in
        ap (λ (b : ℕ). cond (precedes (g m) (g b)) m b) best
        ∙ ap (λ (t : Bool). cond t m k) (precedes-reversed (f m (omega arith) (λ q. o (sym q))))

all_split : (P : Point → Type 0) (v u : List Point) → All P (v ++ u) → All P v × All P u
all_split P [] u h = (tt, h)
all_split P (y ∷ v) u h = let r = all_split P v u h.1 in ((h.0, r.0), r.1)

other_at : (P : Point → Type 0) (u : List Point) (x : Point) (v : List Point) → All P u → All P v → (j : ℕ) → j < length (u ++ (x ∷ v))
    → (j ≡ length u → ⊥) → P (corner (u ++ (x ∷ v)) j)
other_at P [] x v a b zero h o = absurd (o refl)
other_at P [] x v a b (suc j) h o = all-at P v b j (omega arith)
other_at P (y ∷ u) x v a b zero h o = a.0
other_at P (y ∷ u) x v a b (suc j) h o = other_at P u x v a.1 b j (omega arith) (λ e. o (ap suc e))

seam-at : (u : List Point) (x : Point) (v : List Point) → corner (u ++ (x ∷ v)) (length u) ≡ x
seam-at [] x v = refl
seam-at (y ∷ u) x v = seam-at u x v

-- ---- begun anywhere

pub from-least : (u : List Point) (x : Point) (v : List Point) → All (λ y. Precedes x y) (v ++ u) → closed self (u ++ (x ∷ v)) ≡ false
    → from_least (u ++ (x ∷ v)) ≡ x ∷ (v ++ u)
from-least u x v least ajar =
    let ps = u ++ (x ∷ v) in
    let parts = all_split (λ y. Precedes x y) v u least in
    let count : length (open_ring ps) ≡ length ps = ap (λ (b : Bool). length (cond b (take (length ps - 1) ps) ps)) ajar in
    let inside : length u < length ps = omega (arith, length-append u (x ∷ v)) in
    let at = least_at (corner ps) (length ps) (length u) inside (λ j h o.
    subst (λ (p : Point). Precedes p (corner ps j)) (sym (seam-at u x v))
    (other_at (λ y. Precedes x y) u x v parts.1 parts.0 j h o)) in
    ap (λ (n : ℕ). map (corner ps) (walked n (least_place (corner ps) n) n)) count
    ∙ ap (λ (s : ℕ). map (corner ps) (walked (length ps) s (length ps))) at
    ∙ walked-points ps (length u) inside
    ∙ ap₂ (λ (a b : List Point). a ++ b) (drop-append_seam u (x ∷ v)) (take-append_seam u (x ∷ v))

pub last-all : (P : Point → Type 0) (y : Point) (ys : List Point) → All P (y ∷ ys) → P (last_of y ys)
last-all P y [] h = h.0
last-all P y (z ∷ zs) h = last-all P z zs h.1

-- a list begun at its least point, which is there once, is not closed
pub least-open : (x : Point) (r : List Point) → All (λ y. Precedes x y) r → closed self (x ∷ r) ≡ false
least-open x [] h = refl
least-open x (y ∷ ys) h = same_point-other x (last_of y ys) (precedes-different (last-all (λ z. Precedes x z) y ys h))

pub own-least : (x : Point) (r : List Point) → All (λ y. Precedes x y) r → from_least (x ∷ r) ≡ x ∷ r
own-least x r h =
    from-least [] x r (subst (All (λ y. Precedes x y)) (sym (append-nil r)) h) (least-open x r h) ∙ ap (λ (l : List Point). x ∷ l)
    (append-nil r)

-- what is made of points
abbrev pub made : List Point → List Point
made l = bends self (sensed self (distinct self l))

pub begun-anywhere : (u : List Point) (x : Point) (v : List Point) → All (λ y. Precedes x y) (v ++ u) → closed self (u ++ (x ∷ v)) ≡ false
    → ring_shape (u ++ (x ∷ v)) ≡ ring_shape (x ∷ (v ++ u))
begun-anywhere u x v least ajar =
    ring-core (u ++ (x ∷ v)) ∙ ap made (from-least u x v least ajar ∙ sym (own-least x (v ++ u) least)) ∙ sym (ring-core (x ∷ (v ++ u)))
