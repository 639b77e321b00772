-- The corners at the places of the caliper walk are those of the vector sum.
--     corner_at A B p           the corner of the sum at a place
--     places_from-corners       the corners at the places to come are those along the joined edges to come
--     places-corners           the corners at all places are those of the vector sum
--     places-pass              a place passes no more edges than there are (`Passes`)
-- Which corners of all sums are at which place is in `Visited.antt`.
use Rattle.std.specs.Prelude.{◌≡◌, refl, ◌⊎◌, ℕ, suc, ◌+◌, ◌≤◌, ◌<◌, length, drop}
use Rattle.std.proofs.Common.{sym, ◌∙◌, ap, ap₂, inl, inr, not-suc-le-zero, arith, length-drop, get_or-drop}
use mathlib.Core.List.Memᴰ
use mathlib.Core.List.{List, [], ◌∷◌, map, Memᴰ}
use Rattle.plane.specs.Point.{Point, origin, corner, ◌⊕◌}
use Rattle.plane.specs.Forms.{edges}
use Rattle.plane.proofs.theory.forms.Vector.{⊕-assoc, ⊕-comm, ⊕-swap}
use Rattle.plane.specs.VectorSum.{along, path, join_edges, vector_sum}
use Rattle.plane.proofs.theory.sum.EdgeSum.{Joined, no-left, no-right, take_left, take-right, take-both, joined}
use Rattle.plane.specs.Cycle.{corner_round}
use Rattle.plane.proofs.theory.sum.Positions.{round-inner, round-step}
use Rattle.calipers.specs.Places.{Place, place, steps_right, steps, places_from, places}
use Rattle.calipers.specs.theory.Places.{steps-left, steps-right, steps-both}

-- ---- the corners at the places

-- from P i on, P goes along the edges
abbrev Follows : (ℕ → Point) → ℕ → List Point → Type 0
Follows P i [] = Unit {0}
Follows P i (e ∷ E) = (P (i + 1) ≡ P i ⊕ e) × Follows P (i + 1) E

follows-at : (P : ℕ → Point) (i : ℕ) (E : List Point) → ((k : ℕ) → k < length E → P (i + k + 1) ≡ P (i + k) ⊕ corner E k) → Follows P i E
follows-at P i [] f = tt
follows-at P i (e ∷ E) f =
    let here : i + 0 ≡ i = omega arith in (
      rw here at (f 0 (omega arith)),
      follows-at P (i + 1) E (λ k h. let on : i + suc k ≡ i + 1 + k = omega arith in rw on at (f (suc k) (omega arith))),
    )

corners-follow : (ps : List Point) (i : ℕ) → Follows (corner_round ps) i (drop i (edges ps))
corners-follow ps i = follows-at (corner_round ps) i (drop i (edges ps)) (λ k h.
    rw (get_or-drop i (edges ps) k origin) (round-step ps (i + k) (omega (arith, length-drop i (edges ps)))))

module _ (P Q : ℕ → Point) where
  -- the corner at a place
  abbrev at_place : Place → Point
  at_place p = P p.left ⊕ Q p.right

  step_left : (i j : ℕ) (e : Point) → P (i + 1) ≡ P i ⊕ e → P (i + 1) ⊕ Q j ≡ P i ⊕ Q j ⊕ e
  step_left i j e h = ap (λ (q : Point). q ⊕ Q j) h ∙ ⊕-assoc (P i) e (Q j) ∙ ap (λ (q : Point). P i ⊕ q) (⊕-comm e (Q j))
      ∙ sym (⊕-assoc (P i) (Q j) e)

  step_right : (i j : ℕ) (f : Point) → Q (j + 1) ≡ Q j ⊕ f → P i ⊕ Q (j + 1) ≡ P i ⊕ Q j ⊕ f
  step_right i j f h = ap (λ (q : Point). P i ⊕ q) h ∙ sym (⊕-assoc (P i) (Q j) f)

  step_both : (i j : ℕ) (e f : Point) → P (i + 1) ≡ P i ⊕ e → Q (j + 1) ≡ Q j ⊕ f → P (i + 1) ⊕ Q (j + 1) ≡ P i ⊕ Q j ⊕ (e ⊕ f)
  step_both i j e f h k = ap₂ (λ (p q : Point). p ⊕ q) h k ∙ ⊕-swap (P i) e (Q j) f

  -- the first place, and the corners after it from the next one on
  walk-on : (i j : ℕ) (l : List Place) {r : Point} (G : List Point) → map at_place l ≡ along r G → (e : Point) → r ≡ P i ⊕ Q j ⊕ e
      → map at_place (place i j ∷ l) ≡ along (P i ⊕ Q j) (e ∷ G)
  walk-on i j l G h e k = ap (λ (m : List Point). (P i ⊕ Q j) ∷ m) (h ∙ ap (λ (q : Point). along q G) k)

  right-corners : (i j : ℕ) (F : List Point) → Follows Q j F → map at_place (steps_right i j F) ≡ along (P i ⊕ Q j) F
  right-corners i j [] k = refl
  right-corners i j (f ∷ F) k = walk-on i j (steps_right i (j + 1) F) F (right-corners i (j + 1) F k.1) f (step_right i j f k.0)

  left-corners : (i j : ℕ) (E : List Point) → Follows P i E → map at_place (steps i j E []) ≡ along (P i ⊕ Q j) E
  left-corners i j [] h = refl
  left-corners i j (e ∷ E) h = walk-on i j (steps (i + 1) j E []) E (left-corners (i + 1) j E h.1) e (step_left i j e h.0)

  steps-corners : {E F G : List Point} → Joined E F G → (i j : ℕ) → Follows P i E → Follows Q j F
      → map at_place (steps i j E F) ≡ along (P i ⊕ Q j) G
  steps-corners (no-left {F = F}) i j h k = right-corners i j F k
  steps-corners (no-right {E = E}) i j h k = left-corners i j E h
  steps-corners (take_left {e = e} {f = f} {E = E} {F = F} {G = G} b r) i j h k = ap (map at_place) (steps-left i j e E (f ∷ F) b)
      ∙ walk-on i j (steps (i + 1) j E (f ∷ F)) G (steps-corners r (i + 1) j h.1 k) e (step_left i j e h.0)
  steps-corners (take-right {e = e} {f = f} {E = E} {F = F} {G = G} b r) i j h k = ap (map at_place) (steps-right i j f (e ∷ E) F b)
      ∙ walk-on i j (steps i (j + 1) (e ∷ E) F) G (steps-corners r i (j + 1) h k.1) f (step_right i j f k.0)
  steps-corners (take-both {e = e} {f = f} {E = E} {F = F} {G = G} a b r) i j h k = ap (map at_place) (steps-both i j e f E F a b)
      ∙ walk-on i j (steps (i + 1) (j + 1) E F) G (steps-corners r (i + 1) (j + 1) h.1 k.1) (e ⊕ f) (step_both i j e f h.0 k.0)

-- where an edge is joined, the path is the corners along the edges
path-along : (p : Point) {e : Point} {E F G : List Point} → Joined (e ∷ E) F G → along p G ≡ path p G
path-along p no-right = refl
path-along p (take_left b r) = refl
path-along p (take-right b r) = refl
path-along p (take-both a b r) = refl

-- the corner of the sum at a place
abbrev pub corner_at : List Point → List Point → Place → Point
corner_at A B p = corner_round A p.left ⊕ corner_round B p.right

pub places_from-corners : (A B : List Point) (i j : ℕ) → map (corner_at A B) (places_from i j (drop i (edges A)) (drop j (edges B)))
    ≡ path (corner_round A i ⊕ corner_round B j) (join_edges (drop i (edges A)) (drop j (edges B)))
places_from-corners A B i j = go (drop i (edges A)) (drop j (edges B)) (corners-follow A i) (corners-follow B j)
  where
    go : (E F : List Point) → Follows (corner_round A) i E → Follows (corner_round B) j F
        → map (corner_at A B) (places_from i j E F) ≡ path (corner_round A i ⊕ corner_round B j) (join_edges E F)
    go [] [] h k = refl
    go [] (f ∷ F) h k = right-corners (corner_round A) (corner_round B) i j (f ∷ F) k
    go (e ∷ E) F h k = steps-corners (corner_round A) (corner_round B) (joined (e ∷ E) F) i j h k ∙ path-along _ (joined (e ∷ E) F)

pub places-corners : (A B : List Point) → 0 < length A → 0 < length B → map (corner_at A B) (places (edges A) (edges B)) ≡ vector_sum A B
places-corners [] B h k = absurd (not-suc-le-zero h)
places-corners (a ∷ A) [] h k = absurd (not-suc-le-zero k)
places-corners (a ∷ A) (b ∷ B) h k = places_from-corners (a ∷ A) (b ∷ B) 0 0 ∙ ap₂
    (λ (m n : ℕ). path (corner (a ∷ A) m ⊕ corner (b ∷ B) n) (join_edges (edges (a ∷ A)) (edges (b ∷ B))))
    (round-inner (length (a ∷ A)) 0 h) (round-inner (length (b ∷ B)) 0 k)

-- ---- a place passes no more edges than there are

-- at most m edges of the one list, and n of the other
pub record Passes (m n : ℕ) (p : Place) : Type 0 where
  pub left-most : p.left ≤ m
  pub right-most : p.right ≤ n

-- the first place passes no more, nor do the later ones
passes-cons : {i j m n m' n' : ℕ} {p : Place} {l : List Place} → i ≤ m → j ≤ n → m' ≤ m → n' ≤ n → (Memᴰ p l → Passes m' n' p)
    → Memᴰ p (place i j ∷ l) → Passes m n p
passes-cons {i} {j} {m} {n} {p = p} {l = l} a b c d later q = go (Memᴰ.cases_cons q)
  where
    go : (p ≡ place i j) ⊎ Memᴰ p l → Passes m n p
    go (inl e) = record {
      left-most = omega (arith, ap (λ (r : Place). r.left) e);
      right-most = omega (arith, ap (λ (r : Place). r.right) e);
    }
    go (inr r) = let s = later r in record { left-most = omega (arith, s.left-most); right-most = omega (arith, s.right-most) }

right-passes : (i j : ℕ) (F : List Point) {p : Place} → Memᴰ p (steps_right i j F) → Passes i (j + length F) p
right-passes i j [] q = absurd (Memᴰ.not-nil q)
right-passes i j (f ∷ F) q = passes-cons (omega arith) (omega arith) (omega arith) (omega arith) (right-passes i (j + 1) F) q

left-passes : (i j : ℕ) (E : List Point) {p : Place} → Memᴰ p (steps i j E []) → Passes (i + length E) j p
left-passes i j [] q = absurd (Memᴰ.not-nil q)
left-passes i j (e ∷ E) q = passes-cons (omega arith) (omega arith) (omega arith) (omega arith) (left-passes (i + 1) j E) q

steps-pass : {E F G : List Point} → Joined E F G → (i j : ℕ) {p : Place} → Memᴰ p (steps i j E F)
    → Passes (i + length E) (j + length F) p
steps-pass (no-left {F = F}) i j q = let s = right-passes i j F q in
    record { left-most = omega (arith, s.left-most); right-most = s.right-most }
steps-pass (no-right {E = E}) i j q = let s = left-passes i j E q in
    record { left-most = s.left-most; right-most = omega (arith, s.right-most) }
steps-pass (take_left {e = e} {f = f} {E = E} {F = F} b r) i j q = passes-cons (omega arith) (omega arith) (omega arith) (omega arith)
    (λ m. steps-pass r (i + 1) j m) (rw (steps-left i j e E (f ∷ F) b) at q)
steps-pass (take-right {e = e} {f = f} {E = E} {F = F} b r) i j q = passes-cons (omega arith) (omega arith) (omega arith) (omega arith)
    (λ m. steps-pass r i (j + 1) m) (rw (steps-right i j f (e ∷ E) F b) at q)
steps-pass (take-both {e = e} {f = f} {E = E} {F = F} a b r) i j q = passes-cons (omega arith) (omega arith) (omega arith) (omega arith)
    (λ m. steps-pass r (i + 1) (j + 1) m) (rw (steps-both i j e f E F a b) at q)

pub places-pass : (E F : List Point) {p : Place} → Memᴰ p (places E F) → Passes (length E) (length F) p
places-pass [] [] q =
    passes-cons {m' = 0} {n' = 0} (omega arith) (omega arith) (omega arith) (omega arith) (λ r. absurd (Memᴰ.not-nil r)) q
places-pass [] (f ∷ F) q = let s = right-passes 0 0 (f ∷ F) q in
    record { left-most = omega (arith, s.left-most); right-most = omega (arith, s.right-most) }
places-pass (e ∷ E) F q = let s = steps-pass (joined (e ∷ E) F) 0 0 q in
    record { left-most = omega (arith, s.left-most); right-most = omega (arith, s.right-most) }
