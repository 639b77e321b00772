-- The faces of two shapes in a direction n, and the candidate that two differences in them give.
--     falls-between     a corner between the ends of an edge, along it, falls strictly inside, whichever way the edge goes
--     Level A B n       differences of which one is short of the foot and one past it, all four corners in the faces
--     level-reached     then some candidate is reached
use Rattle.std.specs.Prelude.{◌≡◌, true, ◌⊎◌, List, [], ◌∷◌, ℕ, pos, neg_ℤ, length, ◌≤ℤ◌, ◌<ℤ◌}
use Rattle.std.proofs.Common.{sym, ◌∙◌, ap, inl, inr, arith}
use Rattle.integer.specs.Ring.{ring, reify}
use Rattle.integer.specs.Linear.{linear, lia, ◌&◌}
use Rattle.integer.specs.Order.{◌<×<◌, ◌<×≤◌, ◌≡×◌, Compared, is_below, is-equal, is-above, compared, contra<}
use Rattle.integer.specs.Order.{lt-lt_z}
use Rattle.plane.specs.Cut.{quarter}
use Rattle.plane.specs.Point.{Point, corner, opposite, ◌⊖◌}
use Rattle.plane.specs.Turn.{cross}
use Rattle.plane.specs.Shape.{next, IsShape}
use Rattle.plane.specs.Direction.{value}
use Rattle.plane.specs.Measure.{squared}
use Rattle.plane.specs.Clearance.{falls, falls_on, Candidate, corners, on_second, on_first}
use Rattle.plane.proofs.theory.forms.Vector.{value-⊖, turned-back, turned_lt}
use Rattle.plane.proofs.theory.forms.Squared.{squared-value}
use Rattle.clearance.specs.Facing.{Lowest, Reached}
use Rattle.clearance.specs.theory.First.{lowest-twice, turned-square}
use Rattle.clearance.specs.theory.Along.{by-edge}
use Rattle.clearance.specs.theory.Lowest.{lowest-neighbours}

-- ---- a point over an edge

pub falls-between : (e p q c : Point) → pos 0 <ℤ value e e → cross e (q ⊖ p) ≡ pos 0 → value e p <ℤ value e c → value e c <ℤ value e q
    → falls p q c ≡ true
unfolding falls
falls-between e p q c some flat after before = rw (lt-lt_z past, lt-lt_z short)
  where
    ahead : pos 0 <ℤ value e (c ⊖ p)
    ahead = lia (value e c ∷ value e p ∷ value e (c ⊖ p) ∷ []) (after & value-⊖ e c p) (search linear depth 40) (omega arith)

    further : value e (c ⊖ p) <ℤ value e (q ⊖ p)
    further = lia (value e c ∷ value e p ∷ value e q ∷ value e (c ⊖ p) ∷ value e (q ⊖ p) ∷ []) (before & value-⊖ e c p & value-⊖ e q p)
        (search linear depth 40) (omega arith)

    along : pos 0 <ℤ value e (q ⊖ p)
    along = lia (value e (c ⊖ p) ∷ value e (q ⊖ p) ∷ []) (ahead & further) (search linear depth 40) (omega arith)

    past : pos 0 <ℤ value (q ⊖ p) (c ⊖ p)
    past = contra< (λ h. lia (value e (q ⊖ p) ∷ value e (c ⊖ p) ∷ cross e (q ⊖ p) ∷ cross e (c ⊖ p) ∷ value e e ∷ value (q ⊖ p) (c ⊖ p)
        ∷ [])
        (by-edge e (q ⊖ p) (c ⊖ p) & flat ≡× cross e (c ⊖ p) & along <×< ahead & some <×≤ h) (search linear depth 40) (omega arith))

    short : value (q ⊖ p) (c ⊖ p) <ℤ squared p q
    short = rw (squared-value p q) (contra< (λ h. lia (value e (q ⊖ p) ∷ value e (c ⊖ p) ∷ cross e (q ⊖ p) ∷ cross e (c ⊖ p) ∷ value e e
        ∷ value (q ⊖ p) (c ⊖ p) ∷ value (q ⊖ p) (q ⊖ p) ∷ [])
        (by-edge e (q ⊖ p) (c ⊖ p) & by-edge e (q ⊖ p) (q ⊖ p) & flat ≡× cross e (c ⊖ p) & flat ≡× cross e (q ⊖ p)
        & along <×< further & some <×≤ h) (search linear depth 40) (omega arith)))

-- an edge with both ends lowest in m, on which c falls
record Under (m : Point) (ps : List Point) (c : Point) : Type 0 where
  edge : ℕ
  start : Lowest m ps edge
  end : Lowest m ps (next (length ps) edge)
  inside : falls_on ps edge c ≡ true

reversed : (e p q : Point) → cross (opposite e) (p ⊖ q) ≡ cross e (q ⊖ p)
unfolding cross
reversed e p q = ring (e.x ∷ e.y ∷ p.x ∷ p.y ∷ q.x ∷ q.y ∷ []) (search reify depth 40) tt

-- between two lowest corners, along e
edge-under : (ps : List Point) → IsShape ps → (m e c : Point) → pos 0 <ℤ value m m → pos 0 <ℤ value e e → (i j : ℕ)
    → Lowest m ps i → Lowest m ps j → cross e (corner ps j ⊖ corner ps i) ≡ pos 0
    → value e (corner ps i) <ℤ value e c → value e c <ℤ value e (corner ps j) → Under m ps c
edge-under ps s m e c some long i j l k flat after before = go (lowest-neighbours s some i j l k different)
  where
    different : i ≡ j → ⊥
    different r =
        let same : value e (corner ps i) ≡ value e (corner ps j) = ap (λ z. value e (corner ps z)) r in
        lia (value e (corner ps i) ∷ value e (corner ps j) ∷ value e c ∷ []) (same & after & before) (search linear depth 40) (omega arith)

    back : falls (corner ps j) (corner ps i) c ≡ true
    back = falls-between (opposite e) (corner ps j) (corner ps i) c (rw (turned-square e) long) level
        (turned_lt e c (corner ps j) before) (turned_lt e (corner ps i) c after)
      where
        level : cross (opposite e) (corner ps i ⊖ corner ps j) ≡ pos 0
        level = reversed e (corner ps i) (corner ps j) ∙ flat

    go : (j ≡ next (length ps) i) ⊎ (i ≡ next (length ps) j) → Under m ps c
    go (inl r) = record {
      edge = i;
      start = l;
      end = rw (← r) k;
      inside = rw (← r)
          (falls-between e (corner ps i) (corner ps j) c long flat after before);
    }
    go (inr r) = record { edge = j; start = k; end = rw (← r) l; inside = rw (← r) back }

-- ---- two differences in the faces against n, which is e turned left by a quarter: one short of the foot and one past it

pub value-quarter : (e v : Point) → value (quarter e) v ≡ cross e v
unfolding value cross
value-quarter e v = ring (e.x ∷ e.y ∷ v.x ∷ v.y ∷ []) (search reify depth 40) tt

quarter-square : (e : Point) → value (quarter e) (quarter e) ≡ value e e
unfolding value
quarter-square e = ring (e.x ∷ e.y ∷ []) (search reify depth 40) tt

cross-quarter : (e v : Point) → cross (quarter e) v ≡ neg_ℤ (value e v)
unfolding value cross
cross-quarter e v = ring (e.x ∷ e.y ∷ v.x ∷ v.y ∷ []) (search reify depth 40) tt

pub record Level (A B : List Point) (e : Point) : Type 0 where
  pub long : pos 0 <ℤ value e e
  pub low-short : ℕ
  pub low-past : ℕ
  pub high-short : ℕ
  pub high-past : ℕ
  pub lows : Lowest (quarter e) A low-short × Lowest (quarter e) A low-past
  pub highs : Lowest (opposite (quarter e)) B high-short × Lowest (opposite (quarter e)) B high-past
  pub short : value e (corner A low-short) <ℤ value e (corner B high-short)
  pub past : value e (corner B high-past) <ℤ value e (corner A low-past)

module _ (A B : List Point) (e : Point) (s : IsShape A) (t : IsShape B) (r : Level A B e) where
  abbrev n : Point
  n = quarter e

  some : pos 0 <ℤ value n n
  some = rw (quarter-square e) r.long

  -- corners that are equally low are level along e
  flat : (p q : Point) → value n p ≤ℤ value n q → value n q ≤ℤ value n p → cross e (q ⊖ p) ≡ pos 0
  flat p q h k = lia (cross e (q ⊖ p) ∷ value n (q ⊖ p) ∷ value n p ∷ value n q ∷ [])
      (sym (value-quarter e (q ⊖ p)) & value-⊖ n q p & h & k) (search linear depth 40) (omega arith)

  flat-low : (i j : ℕ) → Lowest n A i → Lowest n A j → cross e (corner A j ⊖ corner A i) ≡ pos 0
  flat-low i j l k = flat (corner A i) (corner A j) (l.lowest j k.within) (k.lowest i l.within)

  flat-high : (i j : ℕ) → Lowest (opposite n) B i → Lowest (opposite n) B j → cross e (corner B j ⊖ corner B i) ≡ pos 0
  flat-high i j l k = flat (corner B i) (corner B j) (turned-back n (corner B i) (corner B j) (k.lowest i l.within))
      (turned-back n (corner B j) (corner B i) (l.lowest j k.within))

  pub level-reached : (c : Candidate) × Reached A B n c
  level-reached = go (compared (value e (corner A r.low-short)) (value e (corner B r.high-past)))
    where
      go : Compared (value e (corner A r.low-short)) (value e (corner B r.high-past)) → (c : Candidate) × Reached A B n c
      go (is-equal h) = (
        corners r.low-short r.high-past,
        record {
          one = r.lows.0;
          other = r.highs.1;
          along = lia (cross n (corner A r.low-short ⊖ corner B r.high-past)
              ∷ value e (corner A r.low-short ⊖ corner B r.high-past)
              ∷ value e (corner A r.low-short) ∷ value e (corner B r.high-past) ∷ [])
              (h & cross-quarter e (corner A r.low-short ⊖ corner B r.high-past)
              & value-⊖ e (corner A r.low-short) (corner B r.high-past)) (search linear depth 40) (omega arith);
        },
      )
      go (is-above h) =
          let f = edge-under B t (opposite n) e (corner A r.low-short) (rw (turned-square n) some) r.long r.high-past
          r.high-short
          r.highs.1 r.highs.0 (flat-high r.high-past r.high-short r.highs.1 r.highs.0) h r.short in
          (on_second r.low-short f.edge, record { from = r.lows.0; start = f.start; end = f.end; inside = f.inside })
      go (is_below h) =
          let f = edge-under A s n e (corner B r.high-past) some r.long r.low-short r.low-past
          r.lows.0 r.lows.1 (flat-low r.low-short r.low-past r.lows.0 r.lows.1) h r.past in (
            on_first r.high-past f.edge,
            record {
              from = r.highs.1;
              start = lowest-twice f.start;
              end = lowest-twice f.end;
              inside = f.inside;
            },
          )
