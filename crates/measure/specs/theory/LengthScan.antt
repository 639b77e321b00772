-- The search for the length along the half walk of a shape A: the best pair of positions so far.
--     NoBetter ps k l i j     the pair (k, l) is no better than (i, j): not further apart, and if as far, not earlier
--     leads-start             at the beginning
--     leads-keep, -replace    the moves of the loop: a step leads to a pair that is no better, or to one that is
--     leads-done              at the end: the answer
use Rattle.std.specs.Prelude.{◌≡◌, refl, Bool, true, false, List, ◌⊎◌, ℕ, ◌+◌, ◌≤◌, ◌<◌, eqb, ltb, length}
use Rattle.std.proofs.Common.{sym, ◌∙◌, inl, inr, le_refl, arith, ltb-true, ltb-false, ne_eqb}
use Rattle.integer.specs.Order.{le_of_eq, le_trans, le_antisym}
use Rattle.plane.specs.Point.{Point, corner}
use Rattle.plane.specs.Shape.{IsShape}
use Rattle.plane.specs.Measure.{squared, length_squared, length_from, length_to}
use Rattle.plane.specs.Forms.{edges}
use Rattle.measure.specs.Comparison.{level, NoBetter, Stands}
use Rattle.measure.specs.Half.{Chains, Antipodal, HalfStep}
use Rattle.measure.specs.Partway.{ToCome, Leads}
use Rattle.measure.specs.theory.Longest.{not_after-trans, not_after-antisym}
use Rattle.measure.specs.theory.Longest.{squared-le-length, Longest, length-longest, length-least}
use Rattle.measure.specs.theory.HalfWalk.{antipodal-ahead}
use Rattle.measure.specs.theory.FurthestApart.{longest-antipodal}

-- ---- the order of pairs

no_better-refl : (ps : List Point) (k l : ℕ) → NoBetter ps k l k l
no_better-refl ps k l = record { no-further = le_of_eq refl; no-earlier = λ g. level refl (le_refl l) }

no_better-trans : {ps : List Point} {i j k l m n : ℕ} → NoBetter ps i j k l → NoBetter ps k l m n → NoBetter ps i j m n
no_better-trans a b = record {
  no-further = le_trans a.no-further b.no-further;
  no-earlier = λ g. not_after-trans (b.no-earlier (le_trans g a.no-further)) (a.no-earlier (le_trans b.no-further g));
}

-- ---- the best so far

stands-only : {A : List Point} {i m f g k l : ℕ} → Stands A i m f g → Stands A i m k l → (k ≡ f) × (l ≡ g)
stands-only s u = (sym u.from_is ∙ s.from_is, sym u.to_is ∙ s.to_is)

module _ {A : List Point} {t : ℕ} where
  -- antipodal corners from (i, m) on are there, or are to come
  place-sort : {i m a b k l : ℕ} → Antipodal A t a b → i ≤ a → m ≤ b → Stands A a b k l → ToCome A t i m k l ⊎ Stands A i m k l
  place-sort {i} {m} {a} {b} {k} {l} z x y s = go (ltb (i + m) (a + b)) refl
    where
      go : (c : Bool) → ltb (i + m) (a + b) ≡ c → ToCome A t i m k l ⊎ Stands A i m k l
      go true e = inl (record {
        right = a;
        left = b;
        antipodal = z;
        right-ahead = x;
        left-ahead = y;
        ahead = ltb-true (i + m) (a + b) e;
        stands = s;
      })
      go false e =
          let none = ltb-false (i + m) (a + b) e in
          let p : i ≡ a = omega arith in
          let q : m ≡ b = omega arith in inr (rw (p, q) s)

  -- at a place with the pair (f, g), what is there is no better
  settled : {i m f g k l : ℕ} → Stands A i m f g → ToCome A t i m k l ⊎ Stands A i m k l → ToCome A t i m k l ⊎ NoBetter A k l f g
  settled s (inl u) = inl u
  settled {f = f} {g = g} s (inr u) = let e = stands-only s u in inr (rw (e.0, e.1) (no_better-refl A f g))

  pub leads-start : IsShape A → Chains A t → {f g : ℕ} → Stands A 0 t f g → Leads A t 0 t f g
  leads-start s h {f} {g} p = record {
    ordered = omega (arith, from, to);
    within = omega (arith, to, h.within);
    others = λ k l a b d. let r = longest-antipodal s h (record { ordered = a; within = b; longest = d }) in
        settled p (place-sort r.2 (omega arith) r.2.left-from r.3);
  }
    where
      inner : eqb t (length A) ≡ false
      inner = ne_eqb t (length A) (λ q. omega (arith, h.within))

      from : 0 ≡ f
      from = rw inner at p.from_is

      to : t ≡ g
      to = rw inner at p.to_is

  module _ {i m i' m' f g p q : ℕ} (lead : Leads A t i m f g) (step : HalfStep A t i m i' m') (top : t ≤ m)
      (here : Stands A i' m' p q) where
    -- what was to come is at the new place, or is still to come
    later : {k l : ℕ} → ToCome A t i m k l → ToCome A t i' m' k l ⊎ NoBetter A k l p q
    later u =
        let on = antipodal-ahead u.antipodal step top u.right-ahead u.left-ahead u.ahead in
        settled here (place-sort u.antipodal on.0 on.1 u.stands)

    moved : {f' g' : ℕ} → f' ≤ g' → g' < length A → NoBetter A p q f' g' → NoBetter A f g f' g' → Leads A t i' m' f' g'
    moved {f'} {g'} o w new old = record { ordered = o; within = w; others = λ k l a b d. known (lead.others k l a b d) }
      where
        better : {k l : ℕ} → ToCome A t i' m' k l ⊎ NoBetter A k l p q → ToCome A t i' m' k l ⊎ NoBetter A k l f' g'
        better (inl u) = inl u
        better (inr b) = inr (no_better-trans b new)

        known : {k l : ℕ} → ToCome A t i m k l ⊎ NoBetter A k l f g → ToCome A t i' m' k l ⊎ NoBetter A k l f' g'
        known (inl u) = better (later u)
        known (inr b) = inr (no_better-trans b old)

    pub leads-keep : NoBetter A p q f g → Leads A t i' m' f g
    leads-keep h = moved lead.ordered lead.within h (no_better-refl A f g)

    pub leads-replace : p ≤ q → q < length A → NoBetter A f g p q → Leads A t i' m' p q
    leads-replace o w worse = moved o w (no_better-refl A p q) worse

  -- the first pair at the greatest distance is no better than (f, g), so (f, g) is at that distance too, and no later
  pub leads-done : {i m f g : ℕ} → Leads A t i m f g → t + length (edges A) ≤ i + m
      → (length_squared A ≡ squared (corner A f) (corner A g)) × (length_from A ≡ f) × (length_to A ≡ g)
  leads-done {i} {m} {f} {g} e end = go first (e.others (length_from A) (length_to A) first.ordered first.within first.longest)
    where
      first : Longest A (length_from A) (length_to A)
      first = length-longest A (omega (arith, e.within))

      go : Longest A (length_from A) (length_to A)
          → ToCome A t i m (length_from A) (length_to A) ⊎ NoBetter A (length_from A) (length_to A) f g
          → (length_squared A ≡ squared (corner A f) (corner A g)) × (length_from A ≡ f) × (length_to A ≡ g)
      go d (inl u) = absurd (omega (arith, u.ahead, u.antipodal.right-in, u.antipodal.left_in))
      go d (inr b) =
          let below = squared-le-length A f g (omega (arith, e.ordered, e.within)) e.within in
          let same : length_squared A ≡ squared (corner A f) (corner A g) = le_antisym (rw d.longest at b.no-further) below in
          let own : Longest A f g = record { ordered = e.ordered; within = e.within; longest = sym same } in
          let ends = not_after-antisym (length-least A own) (b.no-earlier (rw d.longest below)) in
          (same, ends.0, ends.1)
