-- The mirror image of a shape: the opposite corners in the same order, begun at the opposite of the last one by y, then by x.
--     Top ps i t                     of the first i corners none comes after corner t
--     topmost                        there is one
--     mirrored_from ps t              the opposites of all corners, begun at corner t; `mirrored_from-at`: corner by corner;
--                                    `mirrored_from-length`, `mirrored_from-numbers`: how many corners and numbers
--     mirror-known                   begun at the top of a shape they are the shape of the mirrored set
--     mirror-count                   that shape has as many corners
use Rattle.std.specs.Prelude.{◌≡◌, refl, Bool, true, false, ◌⊎◌, List, [], ◌∷◌, ◌++◌, ℕ, zero, suc, ◌+◌, ◌*◌, ◌-◌, ◌<◌, length, take, drop}
use Rattle.std.proofs.Common.{sym, ◌∙◌, ap, subst, true≢false, inl, inr, add-one, arith, below_more, length-append, length-drop}
use Rattle.std.proofs.Common.{take-append-drop, get_or-append-add, get_or-drop, get_or-take, length-take-le}
use mathlib.Core.List.Memᴰ
use Rattle.std.proofs.lemmas.List.{length-map}
use Rattle.std.proofs.Math.ListN.{get_or-append, get_or-map}
use Rattle.integer.specs.Ring.{ring, reify}
use Rattle.plane.specs.Point.{Point, numbers, corner, origin, opposite, ◌∈◌}
use Rattle.plane.specs.Turn.{turn, Left}
use Rattle.plane.specs.Shape.{next, precedes, IsShape}
use Rattle.plane.specs.Direction.{support}
use Rattle.plane.specs.Corner.{shape_of, mirrored}
use Rattle.plane.specs.Forms.{Precedes}
use Rattle.plane.proofs.theory.lists.Members.{mirrored-member, member-mirrored, mirrored-some}
use Rattle.plane.proofs.theory.forms.Precedes.{precedes-irrefl, precedes-trans, precedes-opposite, not-precedes}
use Rattle.plane.proofs.theory.lists.Flat.{numbers-length}
use Rattle.plane.specs.Cycle.{turned}
use Rattle.plane.proofs.theory.lists.Turned.{Turned, ahead, round, turned-cases, turned-below, turned-injective, turned-start}
use Rattle.plane.proofs.theory.lists.Turned.{turned-next}
use Rattle.plane.proofs.theory.lists.Next.{next-below}
use Rattle.plane.proofs.theory.support.Support.{support-same}
use Rattle.plane.proofs.theory.hull.ShapeOf.{shape-known}
use Rattle.plane.proofs.theory.forms.Vector.{opposite-opposite}

-- ---- the last corner by y, then by x

pub record Top (ps : List Point) (i t : ℕ) : Type 0 where
  pub within : t < i
  pub last : (k : ℕ) → k < i → precedes (corner ps t) (corner ps k) ≡ false

module _ (ps : List Point) where
  self : (k : ℕ) → precedes (corner ps k) (corner ps k) ≡ false
  self k = not-precedes _ _ precedes-irrefl

  top_start : Top ps 1 0
  top_start = record { within = omega arith; last = λ k h. ap (λ j. precedes (corner ps 0) (corner ps j)) (omega arith) ∙ self 0 }

  top-keep : {i t t' : ℕ} → Top ps i t → precedes (corner ps t) (corner ps i) ≡ false → t' ≡ t → Top ps (i + 1) t'
  top-keep {i} {t} {t'} s h e = record {
    within = omega (arith, s.within);
    last = rw e (below_more (λ k. precedes (corner ps t) (corner ps k) ≡ false) i s.last h);
  }

  top-rise : {i t t' : ℕ} → Top ps i t → precedes (corner ps t) (corner ps i) ≡ true → t' ≡ i → Top ps (i + 1) t'
  top-rise {i} {t} {t'} s h e = record {
    within = omega arith;
    last = rw e (below_more (λ k. precedes (corner ps i) (corner ps k) ≡ false) i
        (λ k b. not-precedes _ _ (λ p. true≢false (sym (precedes-trans (record { precedes-true = h }) p).precedes-true ∙ s.last k b)))
        (self i));
  }

  top_of : (i : ℕ) → (t : ℕ) × Top ps (i + 1) t
  top_of zero = (0, top_start)
  top_of (suc i) =
      let r = top_of i in
      subst (λ n. (t : ℕ) × Top ps (n + 1) t) (add-one i) (go r (precedes (corner ps r.0) (corner ps (i + 1))) refl)
    where
      go : (r : (t : ℕ) × Top ps (i + 1) t) → (b : Bool) → precedes (corner ps r.0) (corner ps (i + 1)) ≡ b
          → (t : ℕ) × Top ps (i + 1 + 1) t
      go r true e = (i + 1, top-rise r.1 e refl)
      go r false e = (r.0, top-keep r.1 e refl)

-- ---- the opposite corners

abbrev rotated : List Point → ℕ → List Point
rotated ps t = drop t ps ++ take t ps

abbrev pub mirrored_from : List Point → ℕ → List Point
mirrored_from ps t = mirrored (rotated ps t)

module _ (ps : List Point) (t : ℕ) (h : t < length ps) where
  rotated-length : length (rotated ps t) ≡ length ps
  rotated-length = length-append (drop t ps) (take t ps) ∙ omega (arith, length-drop t ps, length-take-le t ps (omega arith))

  pub mirrored_from-length : length (mirrored_from ps t) ≡ length ps
  mirrored_from-length = length-map (rotated ps t) opposite ∙ rotated-length

  pub mirrored_from-numbers : length (numbers (mirrored_from ps t)) ≡ 2 * length ps
  mirrored_from-numbers = numbers-length (mirrored_from ps t) ∙ ap (λ n. 2 * n) mirrored_from-length

  rotated-at : (k : ℕ) → k < length ps → corner (rotated ps t) k ≡ corner ps (turned (length ps) t k)
  rotated-at k b = go (turned-cases (length ps) t k)
    where
      go : Turned (length ps) t k → corner (rotated ps t) k ≡ corner ps (turned (length ps) t k)
      go (ahead l e) =
          get_or-append (drop t ps) (take t ps) origin k (omega (arith, length-drop t ps))
          ∙ get_or-drop t ps k origin ∙ ap (corner ps) (sym e)
      go (round l e) =
          let place : k ≡ length (drop t ps) + (t + k - length ps) = omega (arith, length-drop t ps) in
          ap (corner (rotated ps t)) place
          ∙ get_or-append-add (drop t ps) (take t ps) (t + k - length ps) origin
          ∙ get_or-take t ps (t + k - length ps) origin (omega arith) ∙ ap (corner ps) (sym e)

  pub mirrored_from-at : (k : ℕ) → k < length ps → corner (mirrored_from ps t) k ≡ opposite (corner ps (turned (length ps) t k))
  mirrored_from-at k b = get_or-map opposite (rotated ps t) k origin ∙ ap opposite (rotated-at k b)

  same-members : (d : Point) → support d (mirrored_from ps t) ≡ support d (mirrored ps)
  same-members d = support-same d (mirrored_from ps t) (mirrored ps)
      (λ p m. there p (member-mirrored (rotated ps t) m)) (λ p m. back p (member-mirrored ps m))
    where
      parts : take t ps ++ drop t ps ≡ ps
      parts = take-append-drop t ps

      in_whole : (a : Point) → (a ∈ drop t ps) ⊎ (a ∈ take t ps) → a ∈ ps
      in_whole a (inl m) = subst (λ l. a ∈ l) parts (Memᴰ.append_right (take t ps) m)
      in_whole a (inr m) = subst (λ l. a ∈ l) parts (Memᴰ.append_left (drop t ps) m)

      in-rotated : (a : Point) → (a ∈ take t ps) ⊎ (a ∈ drop t ps) → a ∈ rotated ps t
      in-rotated a (inl m) = Memᴰ.append_right (drop t ps) m
      in-rotated a (inr m) = Memᴰ.append_left (take t ps) m

      there : (p : Point) → (a : Point) × a ∈ rotated ps t × (opposite a ≡ p) → p ∈ mirrored ps
      there p (a, m, e) = subst (λ q. q ∈ mirrored ps) e (mirrored-member (in_whole a (Memᴰ.append_cases (drop t ps) m)))

      back : (p : Point) → (a : Point) × a ∈ ps × (opposite a ≡ p) → p ∈ mirrored_from ps t
      back p (a, m, e) = subst (λ q. q ∈ mirrored_from ps t) e
          (mirrored-member (in-rotated a (Memᴰ.append_cases (take t ps) (subst (λ l. a ∈ l) (sym parts) m))))

-- ---- the shape

turn-opposite : (a b c : Point) → turn (opposite a) (opposite b) (opposite c) ≡ turn a b c
unfolding turn
turn-opposite a b c = ring (a.x ∷ a.y ∷ b.x ∷ b.y ∷ c.x ∷ c.y ∷ []) (search reify depth 40) tt

-- a list of opposites, taken from place t of a shape on
module _ (ps : List Point) (s : IsShape ps) (t : ℕ) (top : Top ps (length ps) t) (M : List Point) (same : length M ≡ length ps)
    (at : (k : ℕ) → k < length ps → corner M k ≡ opposite (corner ps (turned (length ps) t k))) where
  abbrev place : ℕ → ℕ
  place k = turned (length ps) t k

  place-below : (k : ℕ) → k < length M → place k < length ps
  place-below k b = turned-below (length ps) t top.within k (omega arith)

  -- two corners at different places of a segment are different
  pair : length ps ≡ 2 → (i j : ℕ) → i < 2 → j < 2 → (i ≡ j → ⊥) → corner ps i ≡ corner ps j → ⊥
  pair two zero zero p q d e = d refl
  pair two zero (suc j) p q d e = s.different two (e ∙ ap (corner ps) (omega arith))
  pair two (suc i) zero p q d e = s.different two (sym e ∙ ap (corner ps) (omega arith))
  pair two (suc i) (suc j) p q d e = d (omega arith)

  place_other : {j k : ℕ} → j < length M → k < length M → (j ≡ k → ⊥) → place j ≡ place k → ⊥
  place_other {j} {k} p q d e = d (turned-injective (length ps) t top.within j k (omega arith) (omega arith) e)

  different : length M ≡ 2 → corner M 0 ≡ corner M 1 → ⊥
  different two e =
      let b : place 0 < 2 = omega (arith, place-below 0 (omega arith)) in
      let c : place 1 < 2 = omega (arith, place-below 1 (omega arith)) in
      pair (omega arith) (place 0) (place 1) b c (place_other (omega arith) (omega arith) (λ z. omega arith))
      (sym (opposite-opposite (corner ps (place 0))) ∙ ap opposite (sym (at 0 (omega arith)) ∙ e ∙ at 1 (omega arith))
      ∙ opposite-opposite (corner ps (place 1)))

  -- the end of an edge is the opposite of the end of the edge that it mirrors
  end : (e : ℕ) → e < length M → corner M (next (length M) e) ≡ opposite (corner ps (next (length ps) (place e)))
  end e p =
      ap (λ n. corner M (next n e)) same ∙ at (next (length ps) e) (next-below (length ps) e (omega arith))
      ∙ ap (λ k. opposite (corner ps k)) (turned-next (length ps) t top.within e (omega arith))

  left : (e c : ℕ) → e < length M → c < length M → (c ≡ e → ⊥) → (c ≡ next (length M) e → ⊥)
      → Left (corner M e) (corner M (next (length M) e)) (corner M c)
  left e c p q i j =
      let there = turn-opposite (corner ps (place e)) (corner ps (next (length ps) (place e))) (corner ps (place c)) in
      rw (at e (omega arith), end e p, at c (omega arith), there)
      (s.left (place e) (place c) (place-below e p) (place-below c q) (place_other q p i) (λ z. place_other q (next-below (length M) e p) j
      (z ∙ sym (ap (λ n. place (next n e)) same ∙ turned-next (length ps) t top.within e (omega arith)))))

  start : (c : ℕ) → c < length M → precedes (corner M c) (corner M 0) ≡ false
  start c h =
      rw (at c (omega arith), at 0 (omega (arith, s.some)), turned-start (length ps) t top.within)
      (not-precedes _ _ (λ r. true≢false (sym (back (precedes-opposite r)).precedes-true ∙ top.last (place c) (place-below c h))))
    where
      back : {p q : Point} → Precedes (opposite (opposite p)) (opposite (opposite q)) → Precedes p q
      back {p} {q} r = rw (opposite-opposite p, opposite-opposite q) at r

  opposites-shape : IsShape M
  opposites-shape = record { some = omega (arith, s.some); different = different; left = left; start = start }

-- ---- the shape of the mirrored set

module _ (ps : List Point) (s : IsShape ps) where
  pub mirror-known : (t : ℕ) → Top ps (length ps) t → shape_of (mirrored ps) ≡ mirrored_from ps t
  mirror-known t top = sym (shape-known (mirrored_from ps t) (mirrored ps)
      (opposites-shape ps s t top (mirrored_from ps t) (mirrored_from-length ps t top.within) (mirrored_from-at ps t top.within))
      (mirrored-some ps s.some) (same-members ps t top.within))

  pub topmost : (t : ℕ) × Top ps (length ps) t
  topmost = subst (λ n. (t : ℕ) × Top ps n t) (omega (arith, s.some)) (top_of ps (length ps - 1))

  pub mirror-count : length (shape_of (mirrored ps)) ≡ length ps
  mirror-count = ap length (mirror-known topmost.0 topmost.1) ∙ mirrored_from-length ps topmost.0 topmost.1.within
