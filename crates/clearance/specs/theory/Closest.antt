-- The point of a set that is closest to the origin: a point of the set, or the foot on a segment of two; or the origin is a mean of the
-- set.
--     Closest S     no point of S is below w in direction w; or all are left of the line from w to d, or on it, the origin to its right,
--                   and the origin's foot strictly inside
--     settled       there is one, or the origin is a mean; `closest`: the first, where all of S is on one side
-- The idea: of all segments of two points take one that comes nearest to the origin. A point beyond it makes, with one of its two ends, a
-- segment across the line from the origin to the foot: not on the near side, since it would come nearer, so past the origin.
use Rattle.std.specs.Prelude.{◌≡◌, refl, ◌⊎◌, List, [], ◌∷◌, ◌<◌, ℤ, pos, neg_ℤ, ◌+ℤ◌, ◌-ℤ◌, ◌*ℤ◌, length, ◌≤ℤ◌, ◌<ℤ◌}
use Rattle.std.proofs.Common.{◌∙◌, ap₂, inl, inr, arith}
use mathlib.Core.List.Memᴰ
use Rattle.std.specs.Int.Signed.{≤ℤ_refl}
use Rattle.integer.specs.Ring.{ring, reify}
use Rattle.integer.specs.Linear.{linear, lia, ◌&◌}
use Rattle.integer.specs.Order.{◌<×<◌, ◌<×≤◌, ◌≤×<◌, ◌≡×◌, Compared, is_below, is-equal, is-above, compared, contra<, contra≤}
use Rattle.integer.specs.Order.{lt-or-le, weaken}
use Rattle.plane.specs.Point.{Point, ◌⊕◌, ◌⊖◌, ◌∈◌}
use Rattle.plane.specs.Turn.{turn, cross}
use Rattle.plane.specs.Direction.{value}
use Rattle.plane.specs.Mean.{times}
use Rattle.plane.proofs.theory.forms.Vector.{cross-swap, value-sym}
use Rattle.clearance.specs.theory.Segments.{near, under, Inside, View, is-inside, past_first}
use Rattle.clearance.specs.theory.Segments.{past-second, view, span, area, inside-span}
use Rattle.clearance.specs.theory.Segments.{NoFurther, Nearest, nearest-segment, self-bound, segment-bound}
use Rattle.clearance.specs.theory.Along.{e, value-end, value-start, cross-end, cross-start}
use Rattle.clearance.specs.theory.Along.{cross-turn, value-mean, cross-mean, by-edge}
use Rattle.clearance.specs.theory.Along.{ZeroMean, value-four, cross-four, no-parts, one-sided}

pub data Closest (S : List Point) : Type 0 where
  at-point : (w : Point) → w ∈ S → ((x : Point) → x ∈ S → value w w ≤ℤ value w x) → Closest S
  at-foot : (w d : Point) → w ∈ S → d ∈ S → cross w d <ℤ pos 0 → value w d <ℤ value w w → value w d <ℤ value d d
      → ((x : Point) → x ∈ S → pos 0 ≤ℤ turn w d x) → Closest S

-- ---- the nearest segment has its foot strictly inside: what is beyond it makes the origin a mean

module _ (S : List Point) (w d : Point) (w-in : w ∈ S) (d-in : d ∈ S) (i : Inside w d) where
  long : pos 0 <ℤ value (e w d) (e w d)
  long = inside-span w d i

  ahead : pos 0 <ℤ value (e w d) d
  ahead = lia (value (e w d) d ∷ value d d ∷ value w d ∷ []) (value-end w d & i.second) (search linear depth 40) (omega arith)

  behind : value (e w d) w <ℤ pos 0
  behind = lia (value (e w d) w ∷ value w w ∷ value w d ∷ []) (value-start w d & i.first) (search linear depth 40) (omega arith)

  -- the foot is the mean of w and d under these weights
  abbrev s0 : ℤ
  s0 = value (e w d) d

  abbrev t0 : ℤ
  t0 = neg_ℤ (value (e w d) w)

  -- the foot is the origin
  level-mean : cross w d ≡ pos 0 → ZeroMean S
  level-mean h = record {
    first = w;
    second = d;
    third = w;
    fourth = w;
    members = (w-in, d-in, w-in, w-in);
    a = s0;
    b = t0;
    c = pos 0;
    d = pos 0;
    weights = (weaken ahead, lia (value (e w d) w ∷ []) behind (search linear depth 40) (omega arith), ≤ℤ_refl (pos 0), ≤ℤ_refl (pos 0));
    some = lia (s0 ∷ value (e w d) w ∷ []) (ahead & behind) (search linear depth 40) (omega arith);
    zero = no-parts (e w d) _ long
        (value-four (e w d) w d w w s0 t0 (pos 0) (pos 0) ∙ ring (s0 ∷ value (e w d) w ∷ []) (search reify depth 40) tt)
        (cross-four (e w d) w d w w s0 t0 (pos 0) (pos 0) ∙ lia (s0 ∷ value (e w d) w ∷ cross (e w d) w ∷ cross (e w d) d ∷ cross w d ∷ [])
        (h ≡× s0 & h ≡× value (e w d) w & cross-start w d ≡× s0 & cross-end w d ≡× value (e w d) w) (search linear depth 40) (omega arith));
  }

  module _ (right : cross w d <ℤ pos 0)
      (least : (x p : Point) → x ∈ S → p ∈ S → NoFurther (cross w d *ℤ cross w d) (value (e w d) (e w d)) (near x p) (under x p)) where
    abbrev k : ℤ
    k = neg_ℤ (cross w d)

    abbrev big : ℤ
    big = (s0 +ℤ t0) *ℤ k

    big-positive : pos 0 <ℤ big
    big-positive = lia (s0 ∷ value (e w d) w ∷ cross w d ∷ []) (ahead <×< right & behind <×< right) (search linear depth 40) (omega arith)

    -- x and p, an end of the segment, have a mean z on the line from the origin to the foot, past the origin
    module _ (x p : Point) (x-in : x ∈ S) (p-in : p ∈ S) (s t : ℤ) (l : pos 0 <ℤ s) (m : pos 0 ≤ℤ t)
        (at-end : cross (e w d) p ≡ k) (beyond : cross (e w d) x <ℤ k)
        (balance : s *ℤ value (e w d) x +ℤ t *ℤ value (e w d) p ≡ pos 0) where
      abbrev z : Point
      z = times s x ⊕ times t p

      abbrev y : ℤ
      y = cross (e w d) z

      level : value (e w d) z ≡ pos 0
      level = value-mean (e w d) x p s t ∙ balance

      less : y <ℤ ((s +ℤ t) *ℤ k)
      less = lia (y ∷ s ∷ t ∷ cross w d ∷ cross (e w d) x ∷ cross (e w d) p ∷ [])
          (cross-mean (e w d) x p s t & at-end ≡× t & l <×< beyond) (search linear depth 40) (omega arith)

      far : ((s +ℤ t) *ℤ k *ℤ ((s +ℤ t) *ℤ k)) ≤ℤ (y *ℤ y)
      far = lia (y ∷ s ∷ t ∷ cross w d ∷ value (e w d) (e w d) ∷ value z z ∷ value (e w d) z ∷ [])
          (by-edge (e w d) z z & level ≡× value (e w d) z
          & segment-bound (cross w d *ℤ cross w d) (value (e w d) (e w d)) long x p s t (weaken l) m (least x p x-in p-in)
          (least x x x-in x-in) (least p p p-in p-in)) (search linear depth 40) (omega arith)

      past : y <ℤ pos 0
      past = contra< (λ h. squeezed y ((s +ℤ t) *ℤ k) h less far)
        where
          squeezed : (y m : ℤ) → pos 0 ≤ℤ y → y <ℤ m → (m *ℤ m) ≤ℤ (y *ℤ y) → ⊥
          squeezed y m p q r = lia (y ∷ m ∷ []) (r & q <×< q & p ≤×< q) (search linear depth 40) (omega arith)

      beyond-mean : ZeroMean S
      beyond-mean = record {
        first = w;
        second = d;
        third = x;
        fourth = p;
        members = (w-in, d-in, x-in, p-in);
        a = neg_ℤ y *ℤ s0;
        b = neg_ℤ y *ℤ t0;
        c = big *ℤ s;
        d = big *ℤ t;
        weights = (weaken first_some, weaken second-some, weaken third-some, fourth-some);
        some = lia ((neg_ℤ y *ℤ s0) ∷ (neg_ℤ y *ℤ t0) ∷ (big *ℤ s) ∷ (big *ℤ t) ∷ []) (first_some & second-some & third-some & fourth-some)
            (search linear depth 40) (omega arith);
        zero = no-parts (e w d) _ long
            (value-four (e w d) w d x p (neg_ℤ y *ℤ s0) (neg_ℤ y *ℤ t0) (big *ℤ s) (big *ℤ t)
            ∙ lia (y ∷ s0 ∷ value (e w d) w ∷ big ∷ s ∷ t ∷ value (e w d) x ∷ value (e w d) p ∷ []) (balance ≡× big)
            (search linear depth 40) (omega arith))
            (cross-four (e w d) w d x p (neg_ℤ y *ℤ s0) (neg_ℤ y *ℤ t0) (big *ℤ s) (big *ℤ t)
            ∙ lia (y ∷ s0 ∷ value (e w d) w ∷ cross w d ∷ cross (e w d) w ∷ cross (e w d) d ∷ s ∷ t ∷ cross (e w d) x ∷ cross (e w d) p
            ∷ [])
            (cross-mean (e w d) x p s t ≡× big & cross-start w d ≡× (y *ℤ s0) & cross-end w d ≡× (y *ℤ value (e w d) w))
            (search linear depth 40) (omega arith));
      }
        where
          first_some : pos 0 <ℤ (neg_ℤ y *ℤ s0)
          first_some = lia (y ∷ s0 ∷ []) (past <×< ahead) (search linear depth 40) (omega arith)

          second-some : pos 0 <ℤ (neg_ℤ y *ℤ t0)
          second-some = lia (y ∷ value (e w d) w ∷ []) (past <×< behind) (search linear depth 40) (omega arith)

          third-some : pos 0 <ℤ (big *ℤ s)
          third-some = lia (big ∷ s ∷ []) (big-positive <×< l) (search linear depth 40) (omega arith)

          fourth-some : pos 0 ≤ℤ (big *ℤ t)
          fourth-some = lia (big ∷ t ∷ []) (big-positive <×≤ m) (search linear depth 40) (omega arith)

    one-beyond : (x : Point) → x ∈ S → turn w d x <ℤ pos 0 → ZeroMean S
    one-beyond x x-in h = go (lt-or-le (pos 0) (value (e w d) x))
      where
        short : cross (e w d) x <ℤ k
        short = lia (turn w d x ∷ cross (e w d) x ∷ cross w d ∷ []) (h & cross-turn w d x) (search linear depth 40) (omega arith)

        go : (pos 0 <ℤ value (e w d) x) ⊎ (value (e w d) x ≤ℤ pos 0) → ZeroMean S
        go (inl l) = beyond-mean x w x-in w-in t0 (value (e w d) x)
            (lia (value (e w d) w ∷ []) behind (search linear depth 40) (omega arith)) (weaken l) (cross-start w d) short
            (ring (value (e w d) w ∷ value (e w d) x ∷ []) (search reify depth 40) tt)
        go (inr l) = beyond-mean x d x-in d-in s0 (neg_ℤ (value (e w d) x)) ahead
            (lia (value (e w d) x ∷ []) l (search linear depth 40) (omega arith)) (cross-end w d) short
            (ring (value (e w d) d ∷ value (e w d) x ∷ []) (search reify depth 40) tt)

    -- none is beyond it, or one
    foot-settled : (T : List Point) → ((x : Point) → x ∈ T → x ∈ S) → ((x : Point) → x ∈ T → pos 0 ≤ℤ turn w d x) ⊎ ZeroMean S
    foot-settled [] f = inl (λ x m. absurd (Memᴰ.not-nil m))
    foot-settled (q ∷ T) f = go (lt-or-le (turn w d q) (pos 0)) (foot-settled T (λ x m. f x (Memᴰ.tail m)))
      where
        all : pos 0 ≤ℤ turn w d q → ((x : Point) → x ∈ T → pos 0 ≤ℤ turn w d x) → (x : Point) → x ∈ (q ∷ T) → pos 0 ≤ℤ turn w d x
        all h g x (Memᴰ.head r) = rw r h
        all h g x (Memᴰ.tail m) = g x m

        go : (turn w d q <ℤ pos 0) ⊎ (pos 0 ≤ℤ turn w d q) → ((x : Point) → x ∈ T → pos 0 ≤ℤ turn w d x) ⊎ ZeroMean S
            → ((x : Point) → x ∈ (q ∷ T) → pos 0 ≤ℤ turn w d x) ⊎ ZeroMean S
        go (inl h) g = inr (one-beyond q (f q (Memᴰ.head refl)) h)
        go (inr h) (inl g) = inl (all h g)
        go (inr h) (inr g) = inr g

-- ---- the nearest segment is nearest at a point of the set

module _ (S : List Point) (w : Point) (least : (x p : Point) → x ∈ S → p ∈ S → NoFurther (value w w) (pos 1) (near x p) (under x p))
    (w-in : w ∈ S) where
  none_below : (x : Point) → x ∈ S → value w w ≤ℤ value w x
  none_below x x-in = contra≤ (λ h. go h (view w x))
    where
      go : value w x <ℤ value w w → View w x → ⊥
      go h (is-inside i e f) =
          let r : (value w w *ℤ (value w w -ℤ value w x -ℤ value w x +ℤ value x x))
          ≤ℤ ((value w w *ℤ value x x -ℤ value w x *ℤ value w x) *ℤ pos 1)
          = rw (← area w x, ← span w x, ← e, ← f) (least w x w-in x-in).no-further in
          lia (value w w ∷ value w x ∷ value x x ∷ []) (r & h <×< h) (search linear depth 40) (omega arith)
      go h (past_first k e f) = lia (value w w ∷ value w x ∷ []) (h & k) (search linear depth 40) (omega arith)
      go h (past-second k e f) = lia (value w w ∷ value w x ∷ value x x ∷ [])
          (h & k & self-bound (value w w) (pos 1) x (least x x x-in x-in)) (search linear depth 40) (omega arith)

-- ---- there is one, or the origin is a mean

pub settled : (S : List Point) → 0 < length S → Closest S ⊎ ZeroMean S
settled [] h = absurd (omega arith)
settled (p ∷ S) h = go (view r.one r.other)
  where
    r : Nearest p S
    r = nearest-segment p S

    w : Point
    w = r.one

    d : Point
    d = r.other

    point : near w d ≡ value w w → under w d ≡ pos 1 → Closest (p ∷ S)
    point e f = at-point w r.one_in (none_below (p ∷ S) w
        (λ x q m n. record { no-further = rw (← e, ← f) (r.nearest x q m n).no-further }) r.one_in)

    -- a segment with the origin to its right
    oriented : (w d : Point) → w ∈ (p ∷ S) → d ∈ (p ∷ S) → Inside w d → cross w d <ℤ pos 0 → ((x q : Point) → x ∈ (p ∷ S) → q ∈ (p ∷ S)
        → NoFurther (cross w d *ℤ cross w d) (value (d ⊖ w) (d ⊖ w)) (near x q) (under x q)) → Closest (p ∷ S) ⊎ ZeroMean (p ∷ S)
    oriented w d m n i c least = pick (foot-settled (p ∷ S) w d m n i c least (p ∷ S) (λ x k. k))
      where
        pick : ((x : Point) → x ∈ (p ∷ S) → pos 0 ≤ℤ turn w d x) ⊎ ZeroMean (p ∷ S) → Closest (p ∷ S) ⊎ ZeroMean (p ∷ S)
        pick (inl g) = inl (at-foot w d m n c i.first i.second g)
        pick (inr g) = inr g

    foot-of : Inside w d → ((x q : Point) → x ∈ (p ∷ S) → q ∈ (p ∷ S)
        → NoFurther (cross w d *ℤ cross w d) (value (d ⊖ w) (d ⊖ w)) (near x q) (under x q)) → Compared (cross w d) (pos 0)
        → Closest (p ∷ S) ⊎ ZeroMean (p ∷ S)
    foot-of i least (is_below c) = oriented w d r.one_in r.other-in i c least
    foot-of i least (is-equal c) = inr (level-mean (p ∷ S) w d r.one_in r.other-in i c)
    foot-of i least (is-above c) = oriented d w r.other-in r.one_in turned right
        (λ x q m n. record { no-further = rw (back, across) (least x q m n).no-further })
      where
        turned : Inside d w
        turned = record { first = rw (value-sym d w) i.second; second = rw (value-sym d w) i.first }

        right : cross d w <ℤ pos 0
        right = lia (cross w d ∷ cross d w ∷ []) (c & cross-swap w d) (search linear depth 40) (omega arith)

        back : cross d w *ℤ cross d w ≡ cross w d *ℤ cross w d
        back = lia (cross w d ∷ cross d w ∷ []) (ap₂ (λ a b. a *ℤ b) (cross-swap w d) (cross-swap w d)) (search linear depth 40)
            (omega arith)

        across : value (w ⊖ d) (w ⊖ d) ≡ value (d ⊖ w) (d ⊖ w)
        across = lia (value (w ⊖ d) (w ⊖ d) ∷ value (d ⊖ w) (d ⊖ w) ∷ value w w ∷ value w d ∷ value d w ∷ value d d ∷ [])
            (span w d & span d w & value-sym d w) (search linear depth 40) (omega arith)

    go : View w d → Closest (p ∷ S) ⊎ ZeroMean (p ∷ S)
    go (is-inside i e f) = foot-of i (λ x q m n. record { no-further = rw (← e, ← f) (r.nearest x q m n).no-further })
        (compared (cross w d) (pos 0))
    go (past_first k e f) = inl (point e f)
    go (past-second k e f) = inl (point e f)

pub closest : (S : List Point) → 0 < length S → (u : Point) → ((x : Point) → x ∈ S → pos 0 <ℤ value u x) → Closest S
closest S h u side = go (settled S h)
  where
    go : Closest S ⊎ ZeroMean S → Closest S
    go (inl c) = c
    go (inr z) = absurd (one-sided S u side z)
