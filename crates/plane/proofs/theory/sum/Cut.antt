-- The cut formula: where the corner furthest in a direction is among sorted edges. Let t be the direction turned left by a quarter:
-- the value of the direction at an edge is the product of the edge with t, and the edges before t are a prefix of the list.
--     to_cut d E, cut_sum d E     the sum of the edges before t, and of their values; `-take`, `-leave`: how they compute
--     to_cut-past, cut_sum-past   past the cut there is nothing more to take
--     value-to_cut               the value of the one is the other
--     cut-corner                the corner that the edges before t lead to is a corner of the list
--     cut-formula               it is furthest: the support is the value of the first corner plus the cut sum; `cut-path` for a path
-- So the place of the cut depends on the direction alone, and not on the list that an edge is in.
use Rattle.std.specs.Prelude.{◌≡◌, refl, Bool, true, false, List, [], ◌∷◌, ◌⊎◌, ℤ, pos, ◌+ℤ◌, ◌<ℤ◌, ◌≤ℤ◌}
use Rattle.std.proofs.Common.{sym, ◌∙◌, ap, subst, true≢false, inl, inr, arith}
use Rattle.std.proofs.lemmas.Bool.{false≢true}
use mathlib.Core.List.Memᴰ
use Rattle.std.specs.Int.Signed.{≤ℤ_refl}
use Rattle.integer.specs.Linear.{linear, lia, ◌&◌}
use Rattle.integer.specs.Order.{lt-or-le}
use Rattle.plane.specs.Point.{Point, origin, ◌⊕◌, ◌∈◌}
use Rattle.plane.specs.Direction.{value, support}
use Rattle.plane.specs.Forms.{All, up, before, Before, From, InOrder, Sorted, edges}
use Rattle.plane.specs.Cut.{quarter, cut_sum}
use Rattle.plane.proofs.theory.forms.Vector.{total, value-cross, value-⊕, value-origin, ⊕-assoc, ⊕-zero}
use Rattle.plane.proofs.theory.forms.Angle.{Earlier, Later, apart, alike, before→earlier, not-before→later, before-trans, cross-rises}
use Rattle.plane.proofs.theory.lists.Members.{all-member}
use Rattle.plane.proofs.theory.support.Support.{support-unique}
use Rattle.plane.proofs.theory.sum.Path.{next-in-order, path-edges, total-edges}
use Rattle.plane.specs.VectorSum.{along, path}

-- the sum of the edges before t
abbrev pub to_cut : Point → List Point → Point
to_cut d [] = origin
to_cut d (e ∷ E) = let later = to_cut d E in elim (before e (quarter d)) [ true ↦ e ⊕ later | false ↦ later ]

-- ---- how they compute

module _ (d e : Point) (E : List Point) where
  pub to_cut-take : before e (quarter d) ≡ true → to_cut d (e ∷ E) ≡ e ⊕ to_cut d E
  to_cut-take h = rw (h, to_cut)

  pub to_cut-leave : before e (quarter d) ≡ false → to_cut d (e ∷ E) ≡ to_cut d E
  to_cut-leave h = rw (h, to_cut)

  pub cut_sum-take : before e (quarter d) ≡ true → cut_sum d (e ∷ E) ≡ value d e +ℤ cut_sum d E
  cut_sum-take h = rw (h, cut_sum)

  pub cut_sum-leave : before e (quarter d) ≡ false → cut_sum d (e ∷ E) ≡ cut_sum d E
  cut_sum-leave h = rw (h, cut_sum)

pub value-to_cut : (d : Point) (E : List Point) → value d (to_cut d E) ≡ cut_sum d E
value-to_cut d [] = value-origin d
value-to_cut d (e ∷ E) = go (before e (quarter d)) refl (value-to_cut d E)
  where
    go : (b : Bool) → before e (quarter d) ≡ b → value d (to_cut d E) ≡ cut_sum d E → value d (to_cut d (e ∷ E)) ≡ cut_sum d (e ∷ E)
    go true h ih = ap (value d) (to_cut-take d e E h) ∙ value-⊕ d e (to_cut d E) ∙ ap (λ z. value d e +ℤ z) ih ∙ sym (cut_sum-take d e E h)
    go false h ih = ap (value d) (to_cut-leave d e E h) ∙ ih ∙ sym (cut_sum-leave d e E h)

-- ---- past the cut

-- what comes after an edge that is not before t is not before t
next_past : (t e f : Point) → Before e f → before e t ≡ false → before f t ≡ false
next_past t e f b h = go (before f t) refl
  where
    go : (i : Bool) → before f t ≡ i → i ≡ false
    go true k = sym (before-trans b (record { before-true = k })).before-true ∙ h
    go false k = refl

pub to_cut-past : (d e : Point) (E : List Point) → From e E → before e (quarter d) ≡ false → to_cut d E ≡ origin
to_cut-past d e [] r h = refl
to_cut-past d e (f ∷ E) r h = let k = next_past (quarter d) e f r.0 h in to_cut-leave d f E k ∙ to_cut-past d f E r.2 k

pub cut_sum-past : (d e : Point) (E : List Point) → From e E → before e (quarter d) ≡ false → cut_sum d E ≡ pos 0
cut_sum-past d e E r h = sym (value-to_cut d E) ∙ ap (value d) (to_cut-past d e E r h) ∙ value-origin d

-- ---- once a value is above 0, all later ones on its side of the cut are

value-rises : (d e f : Point) → Before e f → before e (quarter d) ≡ before f (quarter d) → pos 0 <ℤ value d e → pos 0 <ℤ value d f
value-rises d e f b same h =
    rw value-cross (cross-rises e f (quarter d) b same (rw value-cross at h))

plus-nonneg : (x y : ℤ) → pos 0 <ℤ x → pos 0 ≤ℤ y → pos 0 ≤ℤ (x +ℤ y)
plus-nonneg x y h k = lia (x ∷ y ∷ []) (h & k) (search linear depth 40) (omega arith)

cut_sum-rises : (d e : Point) (E : List Point) → From e E → before e (quarter d) ≡ true → pos 0 <ℤ value d e → pos 0 ≤ℤ cut_sum d E
cut_sum-rises d e [] r h k = ≤ℤ_refl (pos 0)
cut_sum-rises d e (f ∷ E) r h k = go (before f (quarter d)) refl (cut_sum-rises d f E r.2)
  where
    go : (b : Bool) → before f (quarter d) ≡ b → (before f (quarter d) ≡ true → pos 0 <ℤ value d f → pos 0 ≤ℤ cut_sum d E)
        → pos 0 ≤ℤ cut_sum d (f ∷ E)
    go true i ih = let k' = value-rises d e f r.0 (h ∙ sym i) k in
        rw (cut_sum-take d f E i) (plus-nonneg (value d f) (cut_sum d E) k' (ih i k'))
    go false i ih = rw (cut_sum-leave d f E i ∙ cut_sum-past d f E r.2 i) (≤ℤ_refl (pos 0))

total-rises : (d e : Point) (E : List Point) → From e E → before e (quarter d) ≡ false → pos 0 <ℤ value d e → pos 0 ≤ℤ value d (total E)
total-rises d e [] r h k = rw (value-origin d) (≤ℤ_refl (pos 0))
total-rises d e (f ∷ E) r h k =
    let h' = next_past (quarter d) e f r.0 h in
    let k' = value-rises d e f r.0 (h ∙ sym h') k in
    rw (value-⊕ d f (total E)) (plus-nonneg (value d f) (value d (total E)) k' (total-rises d f E r.2 h' k'))

-- ---- no corner is above the corner at the cut

-- one step: where the edge rises, the rest up to the cut, or up to the end, does not fall
module _ (d e : Point) (E : List Point) (r : From e E) (M v : ℤ) (here : v ≤ℤ M)
    (at_cut : (v +ℤ cut_sum d (e ∷ E)) ≤ℤ M) (at-end : (v +ℤ (value d e +ℤ value d (total E))) ≤ℤ M) where
  step-here : (v +ℤ value d e) ≤ℤ M
  step-here = go (lt-or-le (pos 0) (value d e)) (before e (quarter d)) refl
    where
      go : (pos 0 <ℤ value d e) ⊎ (value d e ≤ℤ pos 0) → (b : Bool) → before e (quarter d) ≡ b → (v +ℤ value d e) ≤ℤ M
      go (inr h) b k = lia (v ∷ value d e ∷ M ∷ []) (here & h) (search linear depth 40) (omega arith)
      go (inl h) true k = lia (v ∷ value d e ∷ cut_sum d E ∷ M ∷ []) (rw (cut_sum-take d e E k) at at_cut & cut_sum-rises d e E r k h)
          (search linear depth 40) (omega arith)
      go (inl h) false k = lia (v ∷ value d e ∷ value d (total E) ∷ M ∷ []) (at-end & total-rises d e E r k h)
          (search linear depth 40) (omega arith)

  step_cut : (v +ℤ value d e +ℤ cut_sum d E) ≤ℤ M
  step_cut = go (before e (quarter d)) refl
    where
      go : (b : Bool) → before e (quarter d) ≡ b → (v +ℤ value d e +ℤ cut_sum d E) ≤ℤ M
      go true k = lia (v ∷ value d e ∷ cut_sum d E ∷ M ∷ []) (rw (cut_sum-take d e E k) at at_cut) (search linear depth 40) (omega arith)
      go false k = lia (v ∷ value d e ∷ cut_sum d E ∷ M ∷ []) (step-here & cut_sum-past d e E r k) (search linear depth 40) (omega arith)

  step_end : (v +ℤ value d e +ℤ value d (total E)) ≤ℤ M
  step_end = lia (v ∷ value d e ∷ value d (total E) ∷ M ∷ []) at-end (search linear depth 40) (omega arith)

along-below : (d : Point) (M : ℤ) (p : Point) (E : List Point) → InOrder E → value d p ≤ℤ M → (value d p +ℤ cut_sum d E) ≤ℤ M
    → (value d p +ℤ value d (total E)) ≤ℤ M → All (λ q. value d q ≤ℤ M) (along p E)
along-below d M p [] i here at_cut at-end = tt
along-below d M p (e ∷ E) i here at_cut at-end =
    let at-end' = rw (value-⊕ d e (total E)) at at-end in (
      here,
      along-below d M (p ⊕ e) E (next-in-order e E i.1)
          (rw (value-⊕ d p e) (step-here d e E i.1 M (value d p) here at_cut at-end'))
          (rw (value-⊕ d p e) (step_cut d e E i.1 M (value d p) here at_cut at-end'))
          (rw (value-⊕ d p e) (step_end d e E i.1 M (value d p) here at_cut at-end')),
    )

-- the cut is not below the start: t up, all edges before it rise; t not up, all others fall, and all together come to 0
cut_sum-up : (d : Point) (E : List Point) → up (quarter d) ≡ true → pos 0 ≤ℤ cut_sum d E
cut_sum-up d [] u = ≤ℤ_refl (pos 0)
cut_sum-up d (e ∷ E) u = go (before e (quarter d)) refl (cut_sum-up d E u)
  where
    above : Earlier e (quarter d) → pos 0 <ℤ value d e
    above (apart a b) = absurd (true≢false (sym u ∙ b))
    above (alike a b) = rw value-cross b

    go : (b : Bool) → before e (quarter d) ≡ b → pos 0 ≤ℤ cut_sum d E → pos 0 ≤ℤ cut_sum d (e ∷ E)
    go true h ih = rw (cut_sum-take d e E h) (plus-nonneg _ _ (above (before→earlier (record { before-true = h }))) ih)
    go false h ih = rw (cut_sum-leave d e E h) ih

total-down : (d : Point) (E : List Point) → up (quarter d) ≡ false → value d (total E) ≤ℤ cut_sum d E
total-down d [] u = rw (value-origin d) (≤ℤ_refl (pos 0))
total-down d (e ∷ E) u = rw (value-⊕ d e (total E)) (go (before e (quarter d)) refl (total-down d E u))
  where
    below : Later e (quarter d) → value d e ≤ℤ pos 0
    below (apart a b) = absurd (false≢true (sym u ∙ b))
    below (alike a b) = rw value-cross b

    go : (b : Bool) → before e (quarter d) ≡ b → value d (total E) ≤ℤ cut_sum d E → (value d e +ℤ value d (total E)) ≤ℤ cut_sum d (e ∷ E)
    go true h ih = rw (cut_sum-take d e E h) (lia (value d e ∷ value d (total E) ∷ cut_sum d E ∷ [])
        ih (search linear depth 40) (omega arith))
    go false h ih = rw (cut_sum-leave d e E h) (lia (value d e ∷ value d (total E) ∷ cut_sum d E ∷ [])
        (ih & below (not-before→later e (quarter d) h)) (search linear depth 40) (omega arith))

cut_sum-nonneg : (d : Point) (E : List Point) → total E ≡ origin → pos 0 ≤ℤ cut_sum d E
cut_sum-nonneg d E h = go (up (quarter d)) refl
  where
    go : (b : Bool) → up (quarter d) ≡ b → pos 0 ≤ℤ cut_sum d E
    go true u = cut_sum-up d E u
    go false u = rw (h, value-origin d) at (total-down d E u)

path-below : (d p : Point) (E : List Point) → InOrder E → total E ≡ origin → All (λ q. value d q ≤ℤ (value d p +ℤ cut_sum d E)) (path p E)
path-below d p [] i h = (lia (value d p ∷ []) (≤ℤ_refl (value d p)) (search linear depth 40) (omega arith), tt)
path-below d p (e ∷ E) i h =
    let F = e ∷ E in
    let rise = cut_sum-nonneg d F h in
    along-below d (value d p +ℤ cut_sum d F) p F i
    (lia (value d p ∷ cut_sum d F ∷ []) rise (search linear depth 40) (omega arith))
    (≤ℤ_refl _)
    (lia (value d p ∷ cut_sum d F ∷ value d (total F) ∷ []) (rise & ap (value d) h ∙ value-origin d) (search linear depth 40) (omega arith))

-- ---- the corner at the cut

-- the edges before t lead to a corner on the way, or to the end
along-cut : (d p : Point) (E : List Point) → InOrder E → (p ⊕ to_cut d E) ∈ along p E ⊎ (p ⊕ to_cut d E ≡ p ⊕ total E)
along-cut d p [] i = inr refl
along-cut d p (e ∷ E) i = go (before e (quarter d)) refl (along-cut d (p ⊕ e) E (next-in-order e E i.1))
  where
    taken : to_cut d (e ∷ E) ≡ e ⊕ to_cut d E → p ⊕ to_cut d (e ∷ E) ≡ p ⊕ e ⊕ to_cut d E
    taken k = ap (λ (q : Point). p ⊕ q) k ∙ sym (⊕-assoc p e (to_cut d E))

    go : (b : Bool) → before e (quarter d) ≡ b
        → (p ⊕ e ⊕ to_cut d E) ∈ along (p ⊕ e) E ⊎ (p ⊕ e ⊕ to_cut d E ≡ p ⊕ e ⊕ total E)
        → (p ⊕ to_cut d (e ∷ E)) ∈ (p ∷ along (p ⊕ e) E) ⊎ (p ⊕ to_cut d (e ∷ E) ≡ p ⊕ total (e ∷ E))
    go true h (inl m) = inl (Memᴰ.tail (Memᴰ.cast (taken (to_cut-take d e E h)) m))
    go true h (inr q) = inr (taken (to_cut-take d e E h) ∙ q ∙ ⊕-assoc p e (total E))
    go false h ih = inl (Memᴰ.head (ap (λ (q : Point). p ⊕ q) (to_cut-leave d e E h ∙ to_cut-past d e E i.1 h) ∙ ⊕-zero p))

path-cut : (d p : Point) (E : List Point) → InOrder E → total E ≡ origin → (p ⊕ to_cut d E) ∈ path p E
path-cut d p [] i h = Memᴰ.head (⊕-zero p)
path-cut d p (e ∷ E) i h = go (along-cut d p (e ∷ E) i)
  where
    go : (p ⊕ to_cut d (e ∷ E)) ∈ along p (e ∷ E) ⊎ (p ⊕ to_cut d (e ∷ E) ≡ p ⊕ total (e ∷ E))
        → (p ⊕ to_cut d (e ∷ E)) ∈ along p (e ∷ E)
    go (inl m) = m
    go (inr q) = Memᴰ.head (q ∙ ap (λ (r : Point). p ⊕ r) h ∙ ⊕-zero p)

pub cut-path : (d p : Point) (E : List Point) → InOrder E → total E ≡ origin → support d (path p E) ≡ value d p +ℤ cut_sum d E
cut-path d p E i h =
    let reached : value d (p ⊕ to_cut d E) ≡ value d p +ℤ cut_sum d E =
    value-⊕ d p (to_cut d E) ∙ ap (λ z. value d p +ℤ z) (value-to_cut d E) in
    support-unique d (path-cut d p E i h) (λ q m. rw reached (all-member _ (path-below d p E i h) m)) ∙ reached

-- ---- for a list of corners

pub cut-corner : (d p : Point) (ps : List Point) → Sorted (p ∷ ps) → (p ⊕ to_cut d (edges (p ∷ ps))) ∈ (p ∷ ps)
cut-corner d p ps s =
    subst (λ (l : List Point). (p ⊕ to_cut d (edges (p ∷ ps))) ∈ l) (path-edges p ps)
    (path-cut d p (edges (p ∷ ps)) s (total-edges (p ∷ ps)))

pub cut-formula : (d p : Point) (ps : List Point) → Sorted (p ∷ ps) → support d (p ∷ ps) ≡ value d p +ℤ cut_sum d (edges (p ∷ ps))
cut-formula d p ps s = ap (support d) (sym (path-edges p ps)) ∙ cut-path d p (edges (p ∷ ps)) s (total-edges (p ∷ ps))
