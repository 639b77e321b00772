-- The two chains of two shapes together.
--     chain-kept       the corners that a scan of both shapes' rows keeps, from s to t, are a chain that bounds both shapes to that side
--     circuit-shape    a chain up and a chain down that do so for the same set are its shape
use Rattle.std.specs.Prelude.{◌≡◌, refl, Bool, true, false, List, [], ◌∷◌, ◌++◌, ◌⊎◌, ℕ, ◌<◌, ℤ, pos, length, ◌≤ℤ◌, ◌<ℤ◌}
use Rattle.std.proofs.Common.{sym, inl, inr}
use Rattle.std.proofs.Math.Path.{subst}
use mathlib.Core.List.Memᴰ
use Rattle.std.proofs.Math.Logic.{⊎_elim}
use Rattle.integer.specs.Order.{weaken, lt-or-le, le_antisym}
use Rattle.plane.specs.Point.{Point, corner, ◌∈◌, ◌⊆◌}
use Rattle.plane.specs.Direction.{value, support}
use Rattle.plane.specs.Shape.{IsShape}
use Rattle.plane.specs.Corner.{push, scan, shape_of}
use Rattle.plane.proofs.theory.lists.Members.{last_of, all-member, member-all, member-some, position-member}
use Rattle.plane.proofs.theory.forms.Standard.{sorted→shape}
use Rattle.plane.proofs.theory.support.Support.{value-le-support, support-le, support-subset}
use Rattle.plane.proofs.theory.hull.Halves.{Onward, Sideways}
use Rattle.plane.proofs.theory.hull.Ascending.{Runs, ends}
use Rattle.plane.proofs.theory.hull.Scan.{Bounds, Kept, scanned}
use Rattle.plane.proofs.theory.hull.Hull.{circuit, circuit-sorted, circuit-member, circuit-bound-right, circuit-bound-left}
use Rattle.plane.proofs.theory.hull.ShapeOf.{shape-known}
use Rattle.sorting.specs.Order.{Ahead, in_order, closed}
use Rattle.hull.specs.Chain.{taken}
use Rattle.sorting.specs.theory.Ahead.{ahead→onward}
use Rattle.sorting.specs.theory.Least.{in_order-runs, in_order-member, member-in_order}
use Rattle.hull.specs.theory.Trimmed.{Spans, row-between, row-bound}

-- ---- a list with a point before it and one after it

scan-append : (kept ps qs : List Point) → scan kept (ps ++ qs) ≡ scan (scan kept ps) qs
scan-append kept [] qs = refl
scan-append kept (p ∷ ps) qs = scan-append (push p kept) ps qs

runs-cons : {half : Bool} (p : Point) (L : List Point) → Runs half L → ((q : Point) → q ∈ L → Onward half p q) → Runs half (p ∷ L)
runs-cons p [] r f = (tt, tt)
runs-cons p (q ∷ L) r f = (f q (Memᴰ.head refl), r)

runs-last-more : {half : Bool} (L : List Point) (z : Point) → Runs half L → ((q : Point) → q ∈ L → Onward half q z)
    → Runs half (L ++ (z ∷ []))
runs-last-more [] z r f = (tt, tt)
runs-last-more (p ∷ []) z r f = (f p (Memᴰ.head refl), (tt, tt))
runs-last-more (p ∷ (q ∷ L)) z r f = (r.0, runs-last-more (q ∷ L) z r.1 (λ x m. f x (Memᴰ.tail m)))

last_more : (s : Point) (L : List Point) (z : Point) → last_of s (L ++ (z ∷ [])) ≡ z
last_more s [] z = refl
last_more s (q ∷ L) z = last_more q L z

-- ---- one chain

module _ {half : Bool} {A B : List Point} {low high low' high' : ℕ} {s t : Point} (a : Spans half A low high s t)
    (b : Spans half B low' high' s t) (apart : Ahead half s t) (s-in : s ∈ (A ++ B)) (t-in : t ∈ (A ++ B)) where
  rows : List Point
  rows = taken (closed A) low high s t ++ taken (closed B) low' high' s t

  way : List Point
  way = s ∷ (in_order half rows ++ (t ∷ []))

  -- the corners of the rows lie between s and t
  between : (q : Point) → q ∈ rows → (q ∈ (A ++ B)) × Ahead half s q × Ahead half q t
  unfolding rows
  between q m = go (Memᴰ.append_cases (taken (closed A) low high s t) m)
    where
      go : (q ∈ taken (closed A) low high s t) ⊎ (q ∈ taken (closed B) low' high' s t) → (q ∈ (A ++ B)) × Ahead half s q × Ahead half q t
      go (inl n) = let r = row-between a q n in (Memᴰ.append_left B r.0, r.1, r.2)
      go (inr n) = let r = row-between b q n in (Memᴰ.append_right A r.0, r.1, r.2)

  on-way : (q : Point) → q ∈ (in_order half rows ++ (t ∷ [])) → (q ∈ (A ++ B)) × Ahead half s q
  on-way q m = go (Memᴰ.append_cases (in_order half rows) m)
    where
      go : (q ∈ in_order half rows) ⊎ (q ∈ (t ∷ [])) → (q ∈ (A ++ B)) × Ahead half s q
      go (inl n) = let r = between q (in_order-member half rows n) in (r.0, r.1)
      go (inr n) = last (Memᴰ.cases_cons n)
        where
          last : (q ≡ t) ⊎ (q ∈ []) → (q ∈ (A ++ B)) × Ahead half s q
          last (inl e) = subst (λ p. (p ∈ (A ++ B)) × Ahead half s p) (sym e) (t-in, apart)
          last (inr k) = absurd (Memᴰ.not-nil k)

  way-kept : Kept half s t way (scan [] way)
  unfolding way
  way-kept = scanned (ends (in_order half rows ++ (t ∷ [])) (last_more s (in_order half rows) t))
      (runs-cons s (in_order half rows ++ (t ∷ []))
      (runs-last-more (in_order half rows) t (in_order-runs half rows)
      (λ q m. ahead→onward (between q (in_order-member half rows m)).2))
      (λ q m. ahead→onward (on-way q m).1))

  -- all of both shapes is bounded by what is seen
  way-bound : (d : Point) → Sideways half d → (N : ℤ) → Bounds d N way → Bounds d N (A ++ B)
  unfolding way rows
  way-bound d g N bound = member-all (λ q. value d q ≤ℤ N) (A ++ B) (λ q m. ⊎_elim
      (λ (n : q ∈ A). row-bound a d g N first last (λ p k. of-rows p (Memᴰ.append_left (taken (closed B) low' high' s t) k)) q n)
      (λ (n : q ∈ B). row-bound b d g N first last (λ p k. of-rows p (Memᴰ.append_right (taken (closed A) low high s t) k)) q n)
      (Memᴰ.append_cases A m))
    where
      seen : (q : Point) → q ∈ way → value d q ≤ℤ N
      seen q m = all-member (λ p. value d p ≤ℤ N) bound m

      first : value d s ≤ℤ N
      first = seen s (Memᴰ.head refl)

      last : value d t ≤ℤ N
      last = seen t (Memᴰ.tail (Memᴰ.append_right (in_order half rows) (Memᴰ.head refl)))

      of-rows : (q : Point) → q ∈ rows → value d q ≤ℤ N
      of-rows q m = seen q (Memᴰ.tail (Memᴰ.append_left (t ∷ []) (member-in_order half m)))

  pub chain-kept : Kept half s t (A ++ B) (push t (scan (s ∷ [])
      (in_order half (taken (closed A) low high s t ++ taken (closed B) low' high' s t))))
  unfolding way rows
  chain-kept = subst (λ k. Kept half s t (A ++ B) k) (scan-append (s ∷ []) (in_order half rows) (t ∷ [])) (record {
    chain = way-kept.chain;
    ends_at = way-kept.ends_at;
    member = λ m. go (Memᴰ.cases_cons (way-kept.member m));
    bound = λ d g N h. way-bound d g N (way-kept.bound d g N h);
  })
    where
      go : {q : Point} → (q ≡ s) ⊎ (q ∈ (in_order half rows ++ (t ∷ []))) → q ∈ (A ++ B)
      go (inl e) = subst (λ p. p ∈ (A ++ B)) (sym e) s-in
      go {q} (inr m) = (on-way q m).0

-- ---- both chains

pub circuit-shape : {S K L : List Point} {s t : Point} → (s ≡ t → ⊥) → Kept true s t S K → Kept false t s S L → circuit K L ≡ shape_of S
circuit-shape {S} {K} {L} {s} {t} apart up down =
    shape-known (circuit K L) S shape some (λ d. le_antisym (support-subset d shape.some within) (support-le d S some (above d)))
  where
    shape : IsShape (circuit K L)
    shape = sorted→shape (circuit K L) (circuit-sorted apart up.ends_at down.ends_at up.chain down.chain)

    within : circuit K L ⊆ S
    within p m = ⊎_elim (λ (n : p ∈ K). up.member n) (λ (n : p ∈ L). down.member n) (circuit-member K L m)

    some : 0 < length S
    some = member-some (within (corner (circuit K L) 0) (position-member (circuit K L) 0 shape.some))

    above : (d q : Point) → q ∈ S → value d q ≤ℤ support d (circuit K L)
    above d q m = all-member (λ p. value d p ≤ℤ support d (circuit K L)) (go (lt-or-le d.x (pos 0))) m
      where
        corners : Bounds d (support d (circuit K L)) (circuit K L)
        corners = member-all (λ p. value d p ≤ℤ support d (circuit K L)) (circuit K L) (λ p n. value-le-support d n)

        go : (d.x <ℤ pos 0) ⊎ (pos 0 ≤ℤ d.x) → Bounds d (support d (circuit K L)) S
        go (inl h) = circuit-bound-left apart up down d (weaken h) (support d (circuit K L)) corners
        go (inr h) = circuit-bound-right apart up down d h (support d (circuit K L)) corners
