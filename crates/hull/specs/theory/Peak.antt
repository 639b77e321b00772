-- The two chains of a shape: its corners rise to the peak and fall from there back to the first.
--     closed-within, closed-last, closed-member, closed-small      the corners on the way round
--     home-behind, home-corner    the chain down ends at the first corner
--     peak-between                every corner lies between the first and the peak
--     Half half A low high        the corners from low to high on the way round are A's chain of that half: no other corner is further in
--                                 a direction to that side
--     right-half, left-half       the chains up to the peak and down from it are that
use Rattle.std.specs.Prelude.{◌≡◌, refl, Bool, true, false, List, [], ◌∷◌, ℕ, suc, ◌+◌, ◌^◌, ◌≤◌, ◌<◌, ℤ, pos, length, ◌≤ℤ◌}
use Rattle.std.proofs.Common.{sym, ◌∙◌, ap, subst, true≢false, inl, inr, arith, eq-eqb, ne_eqb, get_or-append-add}
use Rattle.std.proofs.Math.Decide.{ℕ_discrete, dec_lt}
use Rattle.std.proofs.Math.ListN.{get_or-append}
use Rattle.integer.specs.Linear.{lia, linear}
use Rattle.plane.specs.Point.{Point, origin, points, corner, ◌∈◌}
use Rattle.plane.specs.Turn.{turn, Left, turn-cycle}
use Rattle.plane.specs.Direction.{value}
use Rattle.plane.specs.Shape.{precedes, IsShape}
use Rattle.plane.specs.Refusal.{InRange}
use Rattle.plane.proofs.theory.lists.Members.{member-position, position-member}
use Rattle.plane.proofs.theory.hull.Halves.{Sideways, upward, downward, value-between}
use Rattle.polygon.specs.Peak.{Peak}
use Rattle.polygon.specs.theory.Peak.{least, left, rise, behind-peak, fall}
use Rattle.polygon.specs.Point.{Small}
use Rattle.polygon.specs.theory.Small.{small-corner}
use Rattle.sorting.specs.Order.{Ahead, closed, Rises}
use Rattle.hull.specs.Chain.{home}
use Rattle.sorting.specs.theory.Ahead.{NotBehind, up-ahead, down-ahead}

-- ---- the way round

pub closed-within : (ps : List Point) (i : ℕ) → i < length ps → corner (closed ps) i ≡ corner ps i
closed-within ps i h = get_or-append ps (corner ps 0 ∷ []) origin i h

pub closed-last : (ps : List Point) → corner (closed ps) (length ps) ≡ corner ps 0
closed-last ps =
    let e : length ps ≡ length ps + 0 = omega arith in
    ap (corner (closed ps)) e ∙ get_or-append-add ps (corner ps 0 ∷ []) 0 origin

-- what holds of all corners holds on the way round
closed_at : (P : Point → Type 0) (ps : List Point) → 0 < length ps → ((i : ℕ) → i < length ps → P (corner ps i)) → (i : ℕ)
    → i ≤ length ps → P (corner (closed ps) i)
closed_at P ps some f i h = go (ℕ_discrete i (length ps))
  where
    go : Dec (i ≡ length ps) → P (corner (closed ps) i)
    go (yes e) = subst P (sym (ap (corner (closed ps)) e ∙ closed-last ps)) (f 0 some)
    go (no n) = let k : i < length ps = omega (arith, n) in subst P (sym (closed-within ps i k)) (f i k)

pub closed-member : (ps : List Point) → 0 < length ps → (i : ℕ) → i ≤ length ps → corner (closed ps) i ∈ ps
closed-member ps some = closed_at (λ p. p ∈ ps) ps some (position-member ps)

pub closed-small : (l : List ℤ) → InRange l → 0 < length (points l) → (i : ℕ) → i ≤ length (points l)
    → Small (2 ^ 21) (corner (closed (points l)) i)
closed-small l r some = closed_at (Small (2 ^ 21)) (points l) some (λ i h. small-corner l r i h refl)

-- ---- no other corner is further to that side

pub home-behind : (ps : List Point) (t : ℕ) → (t ≡ 0 → ⊥) → home ps t ≡ length ps
home-behind ps t f = rw (ne_eqb t 0 f)

pub home-corner : (ps : List Point) (t : ℕ) → 0 < length ps → corner (closed ps) (home ps t) ≡ corner ps 0
home-corner ps t some = go (ℕ_discrete t 0)
  where
    go : Dec (t ≡ 0) → corner (closed ps) (home ps t) ≡ corner ps 0
    go (yes e) = rw (eq-eqb t 0 e) (closed-within ps 0 some)
    go (no f) = ap (corner (closed ps)) (home-behind ps t f) ∙ closed-last ps

pub record Half (half : Bool) (A : List Point) (low high : ℕ) : Type 0 where
  pub order : low ≤ high
  pub within : high ≤ length A
  pub rises : Rises half (closed A) low (suc high)
  pub bound : (d : Point) → Sideways half d → (N : ℤ) → ((x : ℕ) → low ≤ x → x ≤ high → value d (corner (closed A) x) ≤ℤ N)
      → (q : Point) → q ∈ A → value d q ≤ℤ N

-- the turn of three points read the other way round
turn-other : (a b c : Point) → Left a b c → turn c b a ≤ℤ pos 0
unfolding turn
turn-other a b c h = lia (a.x ∷ a.y ∷ b.x ∷ b.y ∷ c.x ∷ c.y ∷ []) h (search linear depth 40) (omega arith)

module _ (ps : List Point) (shape : IsShape ps) (t : ℕ) (peak : Peak ps t) where
  on-way : (half : Bool) (j k : ℕ) → j < length ps → k < length ps → Ahead half (corner ps j) (corner ps k)
      → Ahead half (corner (closed ps) j) (corner (closed ps) k)
  on-way half j k h l u = subst (λ p. Ahead half p (corner (closed ps) k)) (sym (closed-within ps j h))
      (subst (λ p. Ahead half (corner ps j) p) (sym (closed-within ps k l)) u)

  peak-first : 1 < length ps → 0 < t
  peak-first h = go (ℕ_discrete t 0)
    where
      go : Dec (t ≡ 0) → 0 < t
      go (yes e) = absurd (true≢false (sym (least ps shape 1 (omega arith) h).precedes-true
          ∙ subst (λ k. precedes (corner ps k) (corner ps (suc k)) ≡ false) e (peak.falls (omega arith))))
      go (no f) = omega (arith, f)

  -- every corner lies between the first and the peak
  pub peak-between : {q : Point} → q ∈ ps → NotBehind true (corner ps 0) q × NotBehind true q (corner ps t)
  peak-between {q} m =
      let at = member-position m in
      subst (λ p. NotBehind true (corner ps 0) p × NotBehind true p (corner ps t)) at.2
      (low at.0 at.1 (dec_lt 0 at.0), high at.0 at.1 (dec_lt at.0 t) (dec_lt t at.0))
    where
      low : (k : ℕ) → k < length ps → Dec (0 < k) → NotBehind true (corner ps 0) (corner ps k)
      low k h (yes i) = inr (up-ahead (least ps shape k i h))
      low k h (no i) = let e : 0 ≡ k = omega (arith, i) in inl (ap (corner ps) e)

      high : (k : ℕ) → k < length ps → Dec (k < t) → Dec (t < k) → NotBehind true (corner ps k) (corner ps t)
      high k h (yes i) j = inr (up-ahead (rise ps shape t peak k t i (omega arith)))
      high k h (no i) (yes j) = inr (up-ahead (behind-peak ps shape t peak k j h))
      high k h (no i) (no j) = let e : k ≡ t = omega (arith, i, j) in inl (ap (corner ps) e)

  pub right-half : Half true ps 0 t
  right-half = record {
    order = omega arith;
    within = omega (arith, peak.within);
    rises = record {
      rises = λ j k h i l. on-way true j k (omega (arith, peak.within)) (omega (arith, peak.within))
          (up-ahead (rise ps shape t peak j k i (omega arith)));
    };
    bound = λ d f N h q m. (let at = member-position m in subst (λ p. value d p ≤ℤ N) at.2 (here d f N h at.0 at.1));
  }
    where
      here : (d : Point) → Sideways true d → (N : ℤ) → ((x : ℕ) → 0 ≤ x → x ≤ t → value d (corner (closed ps) x) ≤ℤ N) → (k : ℕ)
          → k < length ps → value d (corner ps k) ≤ℤ N
      here d f N h k l = go (dec_lt t k)
        where
          on : (x : ℕ) → x ≤ t → value d (corner ps x) ≤ℤ N
          on x i = subst (λ p. value d p ≤ℤ N) (closed-within ps x (omega (arith, peak.within))) (h x (omega arith) i)

          go : Dec (t < k) → value d (corner ps k) ≤ℤ N
          go (yes i) = value-between d (upward (least ps shape k (omega arith) l)) (upward (behind-peak ps shape t peak k i l))
              (rw (turn-cycle (corner ps 0) (corner ps k) (corner ps t))
              (turn-other (corner ps 0) (corner ps t) (corner ps k) (left ps shape 0 t k (peak-first (omega arith)) i l)))
              f (on 0 (omega arith)) (on t (omega arith))
          go (no i) = on k (omega (arith, i))

  pub left-half : Half false ps t (home ps t)
  left-half = go (ℕ_discrete t 0)
    where
      -- the chain of a point, and the chain home
      go : Dec (t ≡ 0) → Half false ps t (home ps t)
      go (yes e) = subst (λ k. Half false ps k (home ps k)) (sym e) (record {
        order = omega arith;
        within = omega arith;
        rises = record { rises = λ j k h i l. absurd (omega arith) };
        bound = λ d f N h q m. (let at = member-position m in
            let first : at.0 ≡ 0 = alone at.0 at.1 (dec_lt 1 (length ps)) in
            subst (λ p. value d p ≤ℤ N) (closed-within ps 0 shape.some ∙ ap (corner ps) (sym first) ∙ at.2)
            (h 0 (omega arith) (omega arith)));
      })
        where
          alone : (k : ℕ) → k < length ps → Dec (1 < length ps) → k ≡ 0
          alone k l (yes h) = absurd (omega (arith, peak-first h))
          alone k l (no h) = omega (arith, h)
      go (no f) = subst (λ k. Half false ps t k) (sym (home-behind ps t f)) (record {
        order = omega (arith, peak.within);
        within = omega arith;
        rises = record { rises = λ j k h i l. falls-on j k h i (dec_lt k (length ps)) (omega arith) };
        bound = λ d s N h q m. (let at = member-position m in subst (λ p. value d p ≤ℤ N) at.2 (here d s N h at.0 at.1));
      })
        where
          falls-on : (j k : ℕ) → t ≤ j → j < k → Dec (k < length ps) → k ≤ length ps
              → Ahead false (corner (closed ps) j) (corner (closed ps) k)
          falls-on j k h i (yes l) m = on-way false j k (omega arith) l (down-ahead (fall ps shape t peak j k h i l))
          falls-on j k h i (no l) m =
              let e : k ≡ length ps = omega (arith, l) in
              subst (λ p. Ahead false (corner (closed ps) j) p) (sym (ap (corner (closed ps)) e ∙ closed-last ps))
              (subst (λ p. Ahead false p (corner ps 0)) (sym (closed-within ps j (omega arith)))
              (down-ahead (least ps shape j (omega (arith, f)) (omega arith))))

          here : (d : Point) → Sideways false d → (N : ℤ)
              → ((x : ℕ) → t ≤ x → x ≤ length ps → value d (corner (closed ps) x) ≤ℤ N) → (k : ℕ) → k < length ps
              → value d (corner ps k) ≤ℤ N
          here d s N h k l = split (dec_lt k t) (ℕ_discrete k 0)
            where
              on : (x : ℕ) → t ≤ x → x < length ps → value d (corner ps x) ≤ℤ N
              on x i m = subst (λ p. value d p ≤ℤ N) (closed-within ps x m) (h x i (omega arith))

              first : value d (corner ps 0) ≤ℤ N
              first = subst (λ p. value d p ≤ℤ N) (closed-last ps) (h (length ps) (omega (arith, peak.within)) (omega arith))

              split : Dec (k < t) → Dec (k ≡ 0) → value d (corner ps k) ≤ℤ N
              split (yes i) (yes e) = subst (λ x. value d (corner ps x) ≤ℤ N) (sym e) first
              split (yes i) (no n) = value-between d (downward (rise ps shape t peak k t i (omega arith)))
                  (downward (least ps shape k (omega (arith, n)) l))
                  (turn-other (corner ps 0) (corner ps k) (corner ps t) (left ps shape 0 k t (omega (arith, n)) i peak.within))
                  s (on t (omega arith) peak.within) first
              split (no i) e = on k (omega (arith, i)) l
