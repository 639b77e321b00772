-- Where the place meets a shape, and that the contact is the first such fraction.
--     meets→reached, reached→meets     it meets G exactly if it is past no wall
--     arrival-below                    the arrival is not after a fraction that is past no wall
--     first-on-way                     the contact is on the way
--     none-earlier                     no fraction that meets is before it
--     first-meets                      and it meets if any does
--     first-only                       it is the only one in lowest terms that meets, with none before
--     common-met, met-not-apart        some fraction meets exactly if the way and G are not apart
--     met-unless-apart                 so the contact meets exactly then
use Rattle.std.specs.Prelude.{◌≡◌, Bool, true, false, not, List, [], ◌∷◌, ℕ, ◌<◌, ℤ, ◌-ℤ◌, ◌+ℤ◌, ◌*ℤ◌, length, ◌≤ℤ◌, ◌<ℤ◌}
use Rattle.std.proofs.Math.Path.{refl, ap}
use mathlib.Core.List.Memᴰ
use Rattle.std.proofs.Common.{arith}
use Rattle.std.proofs.lemmas.Bool.{not-true}
use Rattle.std.proofs.Math.IntN.{pos}
use Rattle.integer.specs.Ring.{ring, reify}
use Rattle.integer.specs.Linear.{linear, lia, ◌&◌}
use Rattle.integer.specs.Order.{◌<×≤◌, ◌≡×◌, cancel-le}
use Rattle.plane.specs.Point.{Point, origin, opposite, ◌⊕◌, ◌⊖◌, ◌∈◌}
use Rattle.plane.specs.Shape.{IsShape}
use Rattle.plane.specs.Direction.{value, support}
use Rattle.plane.specs.Furthest.{common_divisor}
use Rattle.plane.specs.Separation.{apart}
use Rattle.plane.specs.Mean.{times, weight, heap, gap, CommonPoint}
use Rattle.plane.specs.Distance.{Fraction, over}
use Rattle.plane.proofs.theory.lists.Sought.{tests_agree}
use Rattle.plane.proofs.theory.forms.Vector.{value-turned}
use Rattle.plane.proofs.theory.support.Support.{value-le-support, support-attained}
use Rattle.separation.specs.theory.Apart.{apart→direction}
use Rattle.clearance.specs.theory.Means.{size-nonneg, heap-greatest}
use Rattle.clearance.specs.theory.Common.{not-apart-common}
use Rattle.motion.specs.Contact.{OnWay, NoLater, spot, meets, wall, wall_count, past, entry, arrival, contact}
use Rattle.motion.proofs.theory.Walls.{inside→held, held→inside}
use Rattle.motion.proofs.theory.Entry.{Reached, never, later_trans, entering-on-way, entering-first, entering-reached}
use Rattle.motion.proofs.theory.Entry.{last-on-way, last-above, last-below}
use Rattle.motion.proofs.theory.Lowest.{terms, lowest-on-way, lowest-no-later, lowest-reached, lowest-terms, lowest-only}

module _ (t u : Point) where
  value-spot : (e : Point) (f : Fraction)
      → value e (spot t u f) ≡ (f.denominator -ℤ f.numerator) *ℤ value e t +ℤ f.numerator *ℤ value e u
  unfolding value
  value-spot e f = ring (e.x ∷ e.y ∷ t.x ∷ t.y ∷ u.x ∷ u.y ∷ f.numerator ∷ f.denominator ∷ []) (search reify depth 40) tt

module _ (t u : Point) (G : List Point) where
  abbrev pub Past : Point → Fraction → Type 0
  Past e f = Reached (past G e t) (past G e u) f

  abbrev held : Point → Fraction → Type 0
  held e f = value e (spot t u f) ≤ℤ (f.denominator *ℤ support e G)

  held→reached : (e : Point) (f : Fraction) → held e f → Past e f
  unfolding past
  held→reached e f h = lia (value e t ∷ value e u ∷ support e G ∷ f.numerator ∷ f.denominator ∷ value e (spot t u f) ∷ [])
      (h & value-spot t u e f) (search linear depth 40) (omega arith)

  pub reached→held : (e : Point) (f : Fraction) → Past e f → held e f
  unfolding past
  reached→held e f h = lia (value e t ∷ value e u ∷ support e G ∷ f.numerator ∷ f.denominator ∷ value e (spot t u f) ∷ [])
      (h & value-spot t u e f) (search linear depth 40) (omega arith)

  pub meets→reached : 0 < length G → (f : Fraction) → pos 0 <ℤ f.denominator → meets t u G f ≡ true → (e : Point) → Past e f
  unfolding meets
  meets→reached g f whole h e = held→reached e f (inside→held f.denominator whole G (spot t u f) g h e)

  pub reached→meets : IsShape G → (f : Fraction) → pos 0 <ℤ f.denominator
      → ((i : ℕ) → i < wall_count G → Past (wall G i) f) → meets t u G f ≡ true
  unfolding meets
  reached→meets s f whole h = held→inside f.denominator whole G (spot t u f) s (λ i k. reached→held (wall G i) f (h i k))

  -- ---- the arrival

  pub entry-on-way : (i : ℕ) → OnWay (entry t u G i)
  entry-on-way i = entering-on-way (past G (wall G i) t) (past G (wall G i) u)

  pub arrival-on-way : OnWay (arrival t u G)
  unfolding arrival
  arrival-on-way = last-on-way (entry t u G) (wall_count G) (λ i h. entry-on-way i)

  pub arrival-above : (i : ℕ) → i < wall_count G → NoLater (entry t u G i) (arrival t u G)
  unfolding arrival
  arrival-above = last-above (entry t u G) (wall_count G) (λ i h. entry-on-way i)

  pub arrival-below : (f : Fraction) → OnWay f → ((i : ℕ) → i < wall_count G → Past (wall G i) f) → NoLater (arrival t u G) f
  unfolding arrival
  arrival-below f on h = last-below (entry t u G) (wall_count G) f on
      (λ i k. entering-first (past G (wall G i) t) (past G (wall G i) u) f on (h i k))

  -- ---- the contact

  pub first-on-way : OnWay (contact t u G)
  first-on-way = lowest-on-way (arrival t u G) arrival-on-way

  pub first-lowest : common_divisor (terms (contact t u G)) ≡ false
  first-lowest = lowest-terms (arrival t u G) arrival-on-way

  module _ (s : IsShape G) (f : Fraction) (on : OnWay f) (met : meets t u G f ≡ true) where
    pub not-past : (i : ℕ) → i < wall_count G → Past (wall G i) f
    not-past i h = meets→reached s.some f on.whole met (wall G i)

    pub arrival-no-later : NoLater (arrival t u G) f
    arrival-no-later = arrival-below f on not-past

    pub none-earlier : NoLater (contact t u G) f
    none-earlier = later_trans first-on-way arrival-on-way on (lowest-no-later (arrival t u G) arrival-on-way) arrival-no-later

    -- no wall that was entered is left before f
    pub first-meets : meets t u G (contact t u G) ≡ true
    first-meets = reached→meets s (contact t u G) first-on-way.whole (λ i h. lowest-reached (arrival t u G) arrival-on-way _ _
        (entering-reached _ _ f on (not-past i h) (arrival t u G) arrival-on-way (arrival-above i h) arrival-no-later))

    pub first-only : common_divisor (terms f) ≡ false → ((g : Fraction) → OnWay g → meets t u G g ≡ true → NoLater f g) → f ≡ contact t u G
    first-only low first = lowest-only (arrival t u G) arrival-on-way f on low arrival-no-later
        (later_trans on first-on-way arrival-on-way (first (contact t u G) first-on-way first-meets)
        (lowest-no-later (arrival t u G) arrival-on-way))

  -- ---- apart

  -- in the direction that sets them apart both ends are past G
  pub met-not-apart : 0 < length G → (f : Fraction) → OnWay f → meets t u G f ≡ true → apart (t ∷ u ∷ []) G ≡ false
  unfolding past
  met-not-apart g f on met = go (apart (t ∷ u ∷ []) G) refl
    where
      ahead : (d p : Point) → ((q : Point) → q ∈ G → value d p <ℤ value d q) → pos 0 <ℤ past G (opposite d) p
      ahead d p below =
          let top = support-attained (opposite d) G g in
          lia (value d p ∷ value (opposite d) p ∷ value d top.at ∷ value (opposite d) top.at ∷ support (opposite d) G ∷ [])
          (value-turned d p & value-turned d top.at & top.at_value & below top.at top.at_in)
          (search linear depth 40) (omega arith)

      beyond : (d : Point) → ((p q : Point) → p ∈ (t ∷ u ∷ []) → q ∈ G → value d p <ℤ value d q) → ⊥
      beyond d below = never (past G (opposite d) t) (past G (opposite d) u) f on
          (ahead d t (λ q m. below t q (Memᴰ.head refl) m)) (ahead d u (λ q m. below u q (Memᴰ.tail (Memᴰ.head refl)) m))
          (meets→reached g f on.whole met (opposite d))

      go : (b : Bool) → apart (t ∷ u ∷ []) G ≡ b → b ≡ false
      go false e = refl
      go true e = let r = apart→direction (t ∷ u ∷ []) G (omega arith) g e in absurd (beyond r.direction r.below)

  -- a mean of t and u under weights a and b that is a mean h/m of G
  module _ (s : IsShape G) (a b m : ℤ) (h : Point) (p : pos 0 ≤ℤ a) (q : pos 0 ≤ℤ b) (w : pos 0 <ℤ (a +ℤ (b +ℤ pos 0))) (r : pos 0 <ℤ m)
      (same : times m (times a t ⊕ (times b u ⊕ origin)) ⊖ times (a +ℤ (b +ℤ pos 0)) h ≡ origin)
      (low : (e : Point) → value e h ≤ℤ (support e G *ℤ m)) where
    abbrev f : Fraction
    f = over b (a +ℤ (b +ℤ pos 0))

    mean-way : OnWay f
    mean-way = record { begun = q; ended = lia (a ∷ b ∷ []) p (search linear depth 40) (omega arith); whole = w }

    mean-value : (e : Point) → m *ℤ value e (spot t u f) ≡ (a +ℤ (b +ℤ pos 0)) *ℤ value e h
    unfolding value
    mean-value e = lia (e.x ∷ e.y ∷ t.x ∷ t.y ∷ u.x ∷ u.y ∷ a ∷ b ∷ m ∷ h.x ∷ h.y ∷ [])
        (ap (λ (z : Point). z.x) same ≡× e.x & ap (λ (z : Point). z.y) same ≡× e.y) (search linear depth 40) (omega arith)

    mean-held : (e : Point) → held e f
    mean-held e = cancel-le {k = m} r (lia (m ∷ a ∷ b ∷ value e (spot t u f) ∷ value e h ∷ support e G ∷ [])
        (mean-value e & w <×≤ low e) (search linear depth 40) (omega arith))

    mean-meets : meets t u G f ≡ true
    mean-meets = reached→meets s f w (λ i k. held→reached (wall G i) f (mean-held (wall G i)))

  -- the weights of a common point are its fraction
  pub common-met : IsShape G → CommonPoint (t ∷ u ∷ []) G → (f : Fraction) × OnWay f × (meets t u G f ≡ true)
  unfolding weight heap gap
  common-met s c = (
    _,
    mean-way s _ _ _ _ a b c.one-point c.other-point c.same low,
    mean-meets s _ _ _ _ a b c.one-point c.other-point c.same low,
  )
    where
      a : pos 0 ≤ℤ pos (c.one 0)
      a = size-nonneg (c.one 0)

      b : pos 0 ≤ℤ pos (c.one 1)
      b = size-nonneg (c.one 1)

      low : (e : Point) → value e (heap c.other G) ≤ℤ (support e G *ℤ weight c.other G)
      low e = heap-greatest e (support e G) c.other G (λ p m. value-le-support e m)

  pub met-unless-apart : IsShape G → meets t u G (contact t u G) ≡ not (apart (t ∷ u ∷ []) G)
  met-unless-apart s = tests_agree _ _ (λ h. ap not (met-not-apart s.some (contact t u G) first-on-way h))
      (λ h. let (f, on, met) = common-met s (not-apart-common (t ∷ u ∷ []) G (omega arith) s.some (not-true (apart (t ∷ u ∷ []) G) h)) in
      first-meets s f on met)
