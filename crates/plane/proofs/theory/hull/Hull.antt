-- The shape of a set (`shape_of` of `Corner.antt`): its edges are sorted by angle, its corners are points of the set, and in no
-- direction does a point of the set lie beyond them.
--     circuit K L                         a chain up and a chain down, both last first, as one list of corners: each without its last
--                                         point, which is the first of the other
--     circuit-sorted                      a chain from s up to t and one from t down to s, s and t different: the edges are sorted
--     circuit-member, right-circuit, left-circuit     the corners are the points of both chains
--     circuit-bound-right, circuit-bound-left         what no corner exceeds, no point seen by the scan of that half exceeds
--     shape_of-sorted, shape_of-nonempty    for a set that is not empty
--     shape_of-member                      each corner is a point of the set
--     shape_of-above                       what no corner exceeds in a direction, no point of the set exceeds
-- That its corners are the corners of the set is in `ShapeOf.antt`.
use Rattle.std.specs.Prelude.{◌≡◌, refl, Bool, true, false, ◌⊎◌, ◌<◌, ℤ, pos, length, ◌≤ℤ◌, ◌<ℤ◌}
use Rattle.std.proofs.Common.{sym, ◌∙◌, ap, subst, inl, inr, ⊎_elim, arith}
use mathlib.Core.List.Memᴰ
use mathlib.Core.List.{List, [], ◌∷◌, ◌++◌, tail, reverse, reverse_aux, reverse-append}
use Rattle.integer.specs.Order.{weaken, lt-or-le}
use Rattle.plane.specs.Point.{Point, ◌⊖◌, ◌∈◌}
use Rattle.plane.specs.Direction.{value}
use Rattle.plane.specs.Corner.{ascending, scan, outline, shape_of}
use Rattle.plane.specs.Forms.{Before, NonZero, edges_to, From, InOrder, Sorted}
use Rattle.plane.proofs.theory.lists.Members.{last_of, last-member, member-reverse, reverse-member, all-member, member-all}
use Rattle.plane.proofs.theory.lists.Members.{all-subset}
use Rattle.plane.proofs.theory.hull.Halves.{Onward, Sideways, onward-nonzero, onward-before, onward-around, onward-irrefl}
use Rattle.plane.proofs.theory.hull.Ascending.{Runs, Ends, ends, runs_last, reverse-runs, reverse-ends, ascending-runs}
use Rattle.plane.proofs.theory.hull.Ascending.{ascending-member, member-ascending}
use Rattle.plane.proofs.theory.hull.Scan.{Chain, Bounds, Kept, kept-reverse, scanned}

-- ---- sorted edges of a way that is read backwards

-- the edges of c ∷ b ∷ K, last first, are in order
abbrev Backwards : Point → Point → List Point → Type 0
Backwards c b [] = NonZero (c ⊖ b)
Backwards c b (a ∷ K) = Before (b ⊖ a) (c ⊖ b) × NonZero (c ⊖ b) × Backwards b a K

-- down the stack, one edge at a time: the edges from b on, to c and by acc back to the start s, are in order already; below b is K,
-- whose last point is s
closed-sorted : {s : Point} (c b : Point) (K acc F : List Point) → last_of b K ≡ s → Backwards c b K
    → edges_to s b acc ≡ (c ⊖ b) ∷ F → From (c ⊖ b) F → Sorted (reverse_aux K (b ∷ acc))
closed-sorted c b [] [] F e back f from = tt
closed-sorted {s} c b [] (q ∷ acc) F e back f from =
    subst InOrder (sym (subst (λ r. edges_to r b (q ∷ acc) ≡ (c ⊖ b) ∷ F) (sym e) f)) (back, from)
closed-sorted c b (a ∷ K) acc F e back f from =
    closed-sorted b a K (b ∷ acc) ((c ⊖ b) ∷ F) e back.2 (ap (λ l. (b ⊖ a) ∷ l) f) (back.0, back.1, from)

-- ---- a chain up and a chain down

abbrev pub circuit : List Point → List Point → List Point
circuit K L = reverse (tail K) ++ reverse (tail L)

chain-backwards : {half : Bool} (c b : Point) (K : List Point) → Chain half (c ∷ b ∷ K) → Backwards c b K
chain-backwards c b [] k = onward-nonzero k.0
chain-backwards c b (a ∷ K) k = (onward-before k.2.0 k.0 k.1, onward-nonzero k.0, chain-backwards b a K k.2)

-- the chain down is stacked on the chain up, with which it shares its first point
circuit-backwards : (c b a : Point) (L K : List Point) → Chain false (c ∷ b ∷ L) → Chain true (last_of b L ∷ a ∷ K)
    → Backwards c b (L ++ (a ∷ K))
circuit-backwards c b a [] K down climb = (onward-around climb.0 down.0, onward-nonzero down.0, chain-backwards b a K climb)
circuit-backwards c b a (x ∷ L) K down climb =
    (onward-before down.2.0 down.0 down.1, onward-nonzero down.0, circuit-backwards b x a L K down.2 climb)

last-append : (b a : Point) (L K : List Point) → last_of b (L ++ (a ∷ K)) ≡ last_of a K
last-append b a [] K = refl
last-append b a (x ∷ L) K = last-append x a L K

module _ {s t : Point} (apart : s ≡ t → ⊥) where
  pub circuit-sorted : {K L : List Point} → Ends t s K → Ends s t L → Chain true K → Chain false L → Sorted (circuit K L)
  circuit-sorted (ends [] e) (ends L f) climb down = absurd (apart (sym e))
  circuit-sorted (ends (a ∷ K) e) (ends [] f) climb down = absurd (apart f)
  circuit-sorted (ends (a ∷ K) e) (ends (b ∷ L) f) climb down =
      let back = circuit-backwards s b a L K down (subst (λ p. Chain true (p ∷ a ∷ K)) (sym f) climb) in
      subst Sorted (reverse-append (b ∷ L) (a ∷ K)) (closed-sorted s b (L ++ (a ∷ K)) [] [] (last-append b a L K ∙ e) back refl tt)

  -- the end of the chain up is the first point of the chain down
  pub right-circuit : {K L : List Point} {p : Point} → Ends t s K → Ends s t L → p ∈ K → p ∈ circuit K L
  right-circuit (ends K e) (ends [] f) m = absurd (apart f)
  right-circuit (ends K e) (ends (b ∷ L) f) (Memᴰ.head g) =
      Memᴰ.append_right (reverse K) (member-reverse (Memᴰ.cast (g ∙ sym f) (last-member b L)))
  right-circuit (ends K e) (ends (b ∷ L) f) (Memᴰ.tail m) = Memᴰ.append_left (reverse (b ∷ L)) (member-reverse m)

  -- the end of the chain down is the first point of the chain up
  pub left-circuit : {K L : List Point} {p : Point} → Ends t s K → Ends s t L → p ∈ L → p ∈ circuit K L
  left-circuit (ends [] e) (ends L f) m = absurd (apart (sym e))
  left-circuit (ends (a ∷ K) e) (ends L f) (Memᴰ.head g) =
      Memᴰ.append_left (reverse L) (member-reverse (Memᴰ.cast (g ∙ sym e) (last-member a K)))
  left-circuit (ends (a ∷ K) e) (ends L f) (Memᴰ.tail m) = Memᴰ.append_right (reverse (a ∷ K)) (member-reverse m)

  -- a direction that looks right is bounded by the chain up, one that looks left by the chain down
  pub circuit-bound-right : {seen seen' K L : List Point} → Kept true s t seen K → Kept false t s seen' L
      → (d : Point) → Sideways true d → (N : ℤ) → Bounds d N (circuit K L) → Bounds d N seen
  circuit-bound-right {K = K} climb down d f N b =
      climb.bound d f N (all-subset (λ q. value d q ≤ℤ N) K (λ q m. right-circuit climb.ends_at down.ends_at m) b)

  pub circuit-bound-left : {seen seen' K L : List Point} → Kept true s t seen K → Kept false t s seen' L
      → (d : Point) → Sideways false d → (N : ℤ) → Bounds d N (circuit K L) → Bounds d N seen'
  circuit-bound-left {L = L} climb down d f N b =
      down.bound d f N (all-subset (λ q. value d q ≤ℤ N) L (λ q m. left-circuit climb.ends_at down.ends_at m) b)

  circuit-bound : {seen K L : List Point} → Kept true s t seen K → Kept false t s seen L
      → (d : Point) (N : ℤ) → Bounds d N (circuit K L) → Bounds d N seen
  circuit-bound {seen} climb down d N b = go (lt-or-le d.x (pos 0))
    where
      go : (d.x <ℤ pos 0) ⊎ (pos 0 ≤ℤ d.x) → Bounds d N seen
      go (inl h) = circuit-bound-left climb down d (weaken h) N b
      go (inr h) = circuit-bound-right climb down d h N b

pub circuit-member : {p : Point} (K L : List Point) → p ∈ circuit K L → p ∈ K ⊎ p ∈ L
circuit-member {p} K L m = go (Memᴰ.append_cases (reverse (tail K)) m)
  where
    under : (M : List Point) → p ∈ tail M → p ∈ M
    under [] n = n
    under (q ∷ M) n = Memᴰ.tail n

    go : p ∈ reverse (tail K) ⊎ p ∈ reverse (tail L) → p ∈ K ⊎ p ∈ L
    go (inl n) = inl (under K (reverse-member _ n))
    go (inr n) = inr (under L (reverse-member _ n))

-- ---- both chains of points in ascending order

module _ (p q : Point) (ps : List Point) (runs : Runs true (p ∷ q ∷ ps)) where
  right-chain : Kept true p (last_of q ps) (p ∷ q ∷ ps) (scan [] (p ∷ q ∷ ps))
  right-chain = scanned (ends (q ∷ ps) refl) runs

  left-chain : Kept false (last_of q ps) p (p ∷ q ∷ ps) (scan [] (reverse (p ∷ q ∷ ps)))
  left-chain = kept-reverse (p ∷ q ∷ ps) (scanned (reverse-ends (ends (q ∷ ps) refl)) (reverse-runs (p ∷ q ∷ ps) runs))

  ends-differ : p ≡ last_of q ps → ⊥
  ends-differ e = onward-irrefl (subst (λ t. Onward true p t) (sym e) (runs_last ps runs.0 runs.1))

outline-sorted : {x : Point} (ps : List Point) → Runs true ps → x ∈ ps → Sorted (outline ps)
outline-sorted [] r m = Memᴰ.not-nil m
outline-sorted (p ∷ []) r m = tt
outline-sorted (p ∷ (q ∷ ps)) r m =
    let k = right-chain p q ps r in
    let l = left-chain p q ps r in
    circuit-sorted (ends-differ p q ps r) k.ends_at l.ends_at k.chain l.chain

outline-member : {x : Point} (ps : List Point) → Runs true ps → x ∈ outline ps → x ∈ ps
outline-member [] r m = m
outline-member (p ∷ []) r m = m
outline-member {x} (p ∷ (q ∷ ps)) r m = ⊎_elim
    (λ (n : x ∈ scan [] (p ∷ q ∷ ps)). (right-chain p q ps r).member n)
    (λ (n : x ∈ scan [] (reverse (p ∷ q ∷ ps))). (left-chain p q ps r).member n)
    (circuit-member (scan [] (p ∷ q ∷ ps)) (scan [] (reverse (p ∷ q ∷ ps))) m)

outline-bound : (ps : List Point) → Runs true ps → (d : Point) (N : ℤ) → Bounds d N (outline ps) → Bounds d N ps
outline-bound [] r d N b = b
outline-bound (p ∷ []) r d N b = b
outline-bound (p ∷ (q ∷ ps)) r d N b = circuit-bound (ends-differ p q ps r) (right-chain p q ps r) (left-chain p q ps r) d N b

-- ---- the shape of a set

pub shape_of-sorted : (S : List Point) → 0 < length S → Sorted (shape_of S)
unfolding shape_of
shape_of-sorted [] h = omega arith
shape_of-sorted (s ∷ S) h =
    let own : s ∈ (s ∷ S) = Memᴰ.head refl in
    outline-sorted (ascending (s ∷ S)) (ascending-runs (s ∷ S)) (member-ascending own)

pub shape_of-member : {p : Point} (S : List Point) → p ∈ shape_of S → p ∈ S
unfolding shape_of
shape_of-member S m = ascending-member S (outline-member (ascending S) (ascending-runs S) m)

pub shape_of-above : (S : List Point) (d q : Point) → q ∈ S → (N : ℤ)
    → ((p : Point) → p ∈ shape_of S → value d p ≤ℤ N) → value d q ≤ℤ N
unfolding shape_of
shape_of-above S d q m N b =
    let corners = member-all (λ p. value d p ≤ℤ N) (outline (ascending S)) b in
    all-member (λ p. value d p ≤ℤ N) (outline-bound (ascending S) (ascending-runs S) d N corners) (member-ascending m)

pub shape_of-nonempty : (S : List Point) → 0 < length S → 0 < length (shape_of S)
shape_of-nonempty S h = go (shape_of S) (shape_of-sorted S h)
  where
    go : (l : List Point) → Sorted l → 0 < length l
    go [] s = absurd s
    go (p ∷ l) s = omega arith
