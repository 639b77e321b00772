-- A ring whose points, from the least on, onwards or backwards, are a shape's list.
--     walked_at         a position on the way round, by its place
--     sense-walked      the same read onwards or backwards
--     arranged-ring     these points are the corners of the ring
--     arranged-front    and so they are at the front of a buffer
use Rattle.std.specs.Prelude.{◌≡◌, refl, Bool, true, false, cond, List, [], ◌∷◌, map, reverse, ℕ, zero, suc, ◌+◌, ◌*◌, ◌-◌, ◌<◌, ℤ, length}
use Rattle.std.specs.Prelude.{get_or, take}
use Rattle.std.proofs.Common.{sym, ◌∙◌, ap, subst, arith}
use Rattle.std.proofs.lemmas.List.{reverse-reverse, length-map}
use Rattle.integer.specs.Linear.{linear, lia, ◌&◌}
use Rattle.plane.specs.Point.{Point, points, numbers, corner}
use Rattle.plane.specs.Turn.{turn}
use Rattle.plane.specs.Shape.{IsShape}
use Rattle.plane.specs.Forms.{All, Precedes}
use Rattle.plane.specs.Cycle.{turned}
use Rattle.plane.specs.Output.{overwritten}
use Rattle.plane.proofs.theory.lists.Turned.{Turned, ahead, round, turned-cases, turned-start, turned-step}
use Rattle.plane.proofs.theory.lists.Members.{all-subset, member-reverse}
use Rattle.plane.proofs.theory.forms.Standard.{shape→ordered, shape→sorted}
use Rattle.polygon.specs.Front.{Front}
use Rattle.polygon.specs.theory.Fronts.{overwritten-front, front-points}
use Rattle.ring.specs.Round.{last_of, in_sense}
use Rattle.ring.specs.Ring.{walked, least_place, open_ring, from_least, ring_shape}
use Rattle.ring.specs.theory.Steps.{sense-length, sense-first, sense-back}
use Rattle.ring.specs.theory.Under.{walked-length}
use Rattle.ring.specs.theory.Natural.{same_points, map-sense}
use Rattle.ring.specs.theory.Begun.{own-least}
use Rattle.ring.specs.theory.Backwards.{read-backwards}
use Rattle.ring.specs.theory.Own.{edges-apart, first-left, shape-is-own-ring}

-- ---- positions

module _ (n s : ℕ) (h : s < n) where
  walked_from : (i k j : ℕ) → j < k → i + j < n → get_or (walked n (turned n s i) k) j 0 ≡ turned n s (i + j)
  walked_from i zero j l b = absurd (omega arith)
  walked_from i (suc k) zero l b = let e : i ≡ i + 0 = omega arith in ap (turned n s) e
  walked_from i (suc k) (suc j) l b =
      let e : i + 1 + j ≡ i + suc j = omega arith in
      ap (λ (t : ℕ). get_or (walked n t k) j 0) (sym (turned-step n s h i (omega arith)))
      ∙ walked_from (i + 1) k j (omega arith) (omega arith) ∙ ap (turned n s) e

  pub walked_at : (j : ℕ) → j < n → get_or (walked n s n) j 0 ≡ turned n s j
  walked_at j l =
      let e : 0 + j ≡ j = omega arith in
      ap (λ (t : ℕ). get_or (walked n t n) j 0) (sym (turned-start n s h)) ∙ walked_from 0 n j l (omega arith) ∙ ap (turned n s) e

  -- all the way round is nowhere
  whole-turn : turned n s n ≡ s
  whole-turn = go (turned-cases n s n)
    where
      go : Turned n s n → turned n s n ≡ s
      go (ahead l e) = absurd (omega arith)
      go (round l e) = omega arith

  pub sense-walked : (back : Bool) (j : ℕ) → j < n → get_or (in_sense back (walked n s n)) j 0 ≡ turned n s (cond back (n - j) j)
  sense-walked false j l = walked_at j l
  sense-walked true zero l =
      let e : n ≡ n - 0 = omega arith in
      sense-first true (walked n s n) ∙ walked_at 0 l ∙ turned-start n s h ∙ sym whole-turn ∙ ap (turned n s) e
  sense-walked true (suc j) l =
      sense-back (walked n s n) (suc j) (omega arith) (omega (arith, walked-length n s n))
      ∙ ap (λ (m : ℕ). get_or (walked n s n) (m - suc j) 0) (walked-length n s n) ∙ walked_at (n - suc j) (omega arith)

-- ---- points

-- a shape's list read backwards, as a ring
other_way : (x : Point) (r : List Point) → IsShape (x ∷ r) → ring_shape (x ∷ reverse r) ≡ x ∷ r
other_way x [] s = shape-is-own-ring (x ∷ []) s
other_way x (y ∷ []) s = shape-is-own-ring (x ∷ y ∷ []) s
other_way x (y ∷ (z ∷ zs)) s =
    let r = y ∷ z ∷ zs in
    read-backwards x r (edges-apart x x r (shape→sorted (x ∷ r) s))
    (λ e. lia (turn (last_of z zs) x y ∷ []) (first-left x y z zs s & e) (search linear depth 40) (omega arith))
    (shape→ordered (x ∷ r) s).0
    ∙ shape-is-own-ring (x ∷ r) s

pub arranged-ring : (ps : List Point) (back : Bool) → IsShape (in_sense back (from_least ps)) → ring_shape ps ≡ in_sense back
    (from_least ps)
arranged-ring ps back s = go (from_least ps) refl back s
  where
    listed : (x : Point) (r : List Point) → from_least ps ≡ x ∷ r → All (λ y. Precedes x y) r → ring_shape ps ≡ ring_shape (x ∷ r)
    listed x r e least = same_points ps (x ∷ r) (e ∙ sym (own-least x r least))

    go : (l : List Point) → from_least ps ≡ l → (b : Bool) → IsShape (in_sense b l) → ring_shape ps ≡ in_sense b l
    go [] e true s = absurd (omega (arith, s.some))
    go [] e false s = absurd (omega (arith, s.some))
    go (x ∷ r) e false s = listed x r e (shape→ordered (x ∷ r) s).0 ∙ shape-is-own-ring (x ∷ r) s
    go (x ∷ r) e true s =
        let least = all-subset (λ y. Precedes x y) r (λ q m. member-reverse m) (shape→ordered (x ∷ reverse r) s).0 in
        listed x r e least ∙ ap (λ (l : List Point). ring_shape (x ∷ l)) (sym (reverse-reverse r)) ∙ other_way x (reverse r) s

-- ---- written to the front of a buffer

module _ (ps : List Point) (n s : ℕ) (back : Bool) (all : n ≡ length (open_ring ps)) (start : s ≡ least_place (corner ps) n) where
  abbrev places : List ℕ
  places = in_sense back (walked n s n)

  as-points : map (corner ps) places ≡ in_sense back (from_least ps)
  as-points =
      ap (λ (t : ℕ). map (corner ps) (in_sense back (walked n t n))) start
      ∙ ap (λ (m : ℕ). map (corner ps) (in_sense back (walked m (least_place (corner ps) m) m))) all
      ∙ map-sense (corner ps) back
      (walked (length (open_ring ps)) (least_place (corner ps) (length (open_ring ps))) (length (open_ring ps)))

  pub arranged-front : (old out : List ℤ) → out ≡ overwritten (numbers (map (corner ps) places)) old → IsShape (points (take (2 * n) out))
      → Front (ring_shape ps) n out × IsShape (ring_shape ps)
  arranged-front old out e shape =
      let f = corner ps in
      let counted = sym (length-map places f ∙ sense-length back (walked n s n) ∙ walked-length n s n) in
      let front = overwritten-front (map f places) n old out counted e in
      let good = subst IsShape (front-points front) shape in
      let is = as-points ∙ sym (arranged-ring ps back (subst IsShape as-points good)) in
      (subst (λ (qs : List Point). Front qs n out) is front, subst IsShape is good)
