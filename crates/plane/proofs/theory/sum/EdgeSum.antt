-- The vector sum of two sorted lists of corners, by joining their edges.
--     join_edges E F            the edges of both by angle; two that point the same way are one step, their sum
--     join_edges-nil, -left, -right, -both       how it goes on
--     Joined E F G, joined     the same as a relation, by which facts on `join_edges` are proved
--     join_edges-comm, -length, -order, -total   the two lists may be exchanged; how many, in what order, to what sum
--     join_edges-cut, -cut_sum   what is before the cut is so in either list
--     vector_sum A B            from the sum of the first corners along the joined edges; [] if a list is empty
--     vector_sum-edges, -sorted, -support, -comm its edges are the joined ones, in order; its support is the sum
--     vector_sum-shape          of two shapes it is the shape of all sums of their corners
use Rattle.std.specs.Prelude.{◌≡◌, refl, Bool, true, false, List, [], ◌∷◌, ◌+◌, ◌≤◌, ◌+ℤ◌, length}
use Rattle.std.proofs.Common.{sym, ◌∙◌, ap, ap₂, arith}
use Rattle.integer.specs.Laws.{+ℤ-swap}
use Rattle.plane.specs.Cut.{quarter, cut_sum}
use Rattle.plane.specs.Point.{Point, origin, ◌⊕◌}
use Rattle.plane.specs.Shape.{IsShape}
use Rattle.plane.specs.Direction.{value, support, SameWay}
use Rattle.plane.specs.Corner.{shape_of, sums}
use Rattle.plane.specs.Forms.{before, Before, From, InOrder, Sorted, edges}
use Rattle.plane.proofs.theory.forms.Vector.{total, value-⊕, ⊕-comm, ⊕-assoc, ⊕-left-comm, ⊕-swap, ⊕-zero, zero-⊕}
use Rattle.plane.proofs.theory.forms.Angle.{before-reversed}
use Rattle.plane.proofs.theory.forms.SameWay.{neither-same, same_left, same-right, same_sum, sum_same, same-non-zero}
use Rattle.plane.proofs.theory.forms.SameWay.{from-same}
use Rattle.plane.proofs.theory.lists.Members.{sums-some}
use Rattle.plane.proofs.theory.forms.Standard.{shape→sorted, sorted→shape}
use Rattle.plane.proofs.theory.support.Support.{support-sums}
use Rattle.plane.proofs.theory.hull.ShapeOf.{shape-known}
use Rattle.plane.proofs.theory.sum.Path.{next-in-order, edges-path, path-sorted, total-edges}
use Rattle.plane.specs.VectorSum.{path}
use Rattle.plane.proofs.theory.sum.Cut.{to_cut, to_cut-take, to_cut-leave, value-to_cut, cut-path, cut-formula}
use Rattle.plane.specs.VectorSum.{join_from, join_edges, vector_sum}

-- ---- how it goes on

pub join_edges-nil : (E : List Point) → join_edges E [] ≡ E
join_edges-nil [] = refl
join_edges-nil (e ∷ E) = ap (λ (G : List Point). e ∷ G) (join_edges-nil E)

module _ (e f : Point) (E F : List Point) where
  pub join_edges-left : before e f ≡ true → join_edges (e ∷ E) (f ∷ F) ≡ e ∷ join_edges E (f ∷ F)
  join_edges-left h = rw (h, join_from)

  pub join_edges-right : before e f ≡ false → before f e ≡ true → join_edges (e ∷ E) (f ∷ F) ≡ f ∷ join_edges (e ∷ E) F
  join_edges-right h k = rw (h, k, join_from)

  pub join_edges-both : before e f ≡ false → before f e ≡ false → join_edges (e ∷ E) (f ∷ F) ≡ (e ⊕ f) ∷ join_edges E F
  join_edges-both h k = rw (h, k, join_from)

-- ---- the same as a relation

pub data Joined : List Point → List Point → List Point → Type 0 where
  no-left : {F : List Point} → Joined [] F F
  no-right : {E : List Point} → Joined E [] E
  take_left : {e f : Point} {E F G : List Point} → Before e f → Joined E (f ∷ F) G → Joined (e ∷ E) (f ∷ F) (e ∷ G)
  take-right : {e f : Point} {E F G : List Point} → Before f e → Joined (e ∷ E) F G → Joined (e ∷ E) (f ∷ F) (f ∷ G)
  take-both : {e f : Point} {E F G : List Point} → before e f ≡ false → before f e ≡ false → Joined E F G
      → Joined (e ∷ E) (f ∷ F) ((e ⊕ f) ∷ G)

joined-from : (e : Point) (E : List Point) → ((F : List Point) → Joined E F (join_edges E F)) → (F : List Point)
    → Joined (e ∷ E) F (join_edges (e ∷ E) F)
joined-from e E ih [] = rw join_edges-nil no-right
joined-from e E ih (f ∷ F) = go (before e f) (before f e) refl refl (joined-from e E ih F)
  where
    go : (a b : Bool) → before e f ≡ a → before f e ≡ b → Joined (e ∷ E) F (join_edges (e ∷ E) F)
        → Joined (e ∷ E) (f ∷ F) (join_edges (e ∷ E) (f ∷ F))
    go true b h k r = rw (join_edges-left e f E F h) (take_left (record { before-true = h }) (ih (f ∷ F)))
    go false true h k r = rw (join_edges-right e f E F h k) (take-right (record { before-true = k }) r)
    go false false h k r = rw (join_edges-both e f E F h k) (take-both h k (ih F))

pub joined : (E F : List Point) → Joined E F (join_edges E F)
joined [] F = no-left
joined (e ∷ E) F = joined-from e E (λ (G : List Point). joined E G) F

-- ---- the joined edges

joined-comm : {E F G : List Point} → Joined E F G → join_edges F E ≡ G
joined-comm (no-left {F = F}) = join_edges-nil F
joined-comm no-right = refl
joined-comm (take_left {e = e} {f = f} {E = E} {F = F} h r) =
    join_edges-right f e F E (before-reversed h) h.before-true ∙ ap (λ (G : List Point). e ∷ G) (joined-comm r)
joined-comm (take-right {e = e} {f = f} {E = E} {F = F} h r) =
    join_edges-left f e F E h.before-true ∙ ap (λ (G : List Point). f ∷ G) (joined-comm r)
joined-comm (take-both {e = e} {f = f} {E = E} {F = F} h k r) =
    join_edges-both f e F E k h ∙ ap₂ (λ (g : Point) (G : List Point). g ∷ G) (⊕-comm f e) (joined-comm r)

pub join_edges-comm : (E F : List Point) → join_edges E F ≡ join_edges F E
join_edges-comm E F = joined-comm (joined F E)

joined_length : {E F G : List Point} → Joined E F G → length G ≤ length E + length F
joined_length no-left = omega arith
joined_length no-right = omega arith
joined_length (take_left h r) = let ih = joined_length r in omega arith
joined_length (take-right h r) = let ih = joined_length r in omega arith
joined_length (take-both h k r) = let ih = joined_length r in omega arith

pub join_edges-length : (E F : List Point) → length (join_edges E F) ≤ length E + length F
join_edges-length E F = joined_length (joined E F)

joined-total : {E F G : List Point} → Joined E F G → total G ≡ total E ⊕ total F
joined-total (no-left {F = F}) = sym (zero-⊕ (total F))
joined-total (no-right {E = E}) = sym (⊕-zero (total E))
joined-total (take_left {e = e} {f = f} {E = E} {F = F} h r) =
    ap (λ (p : Point). e ⊕ p) (joined-total r) ∙ sym (⊕-assoc e (total E) (f ⊕ total F))
joined-total (take-right {e = e} {f = f} {E = E} {F = F} h r) =
    ap (λ (p : Point). f ⊕ p) (joined-total r) ∙ ⊕-left-comm f (e ⊕ total E) (total F)
joined-total (take-both {e = e} {f = f} {E = E} {F = F} h k r) =
    ap (λ (p : Point). e ⊕ f ⊕ p) (joined-total r) ∙ ⊕-swap e f (total E) (total F)

joined-follow : {E F G : List Point} → Joined E F G → (x : Point) → From x E → From x F → From x G
joined-follow no-left x h_e h_f = h_f
joined-follow no-right x h_e h_f = h_e
joined-follow (take_left {e = e} h r) x (xe, ne, h_e) (xf, nf, h_f) = (xe, ne, joined-follow r e h_e (h, nf, h_f))
joined-follow (take-right {f = f} h r) x (xe, ne, h_e) (xf, nf, h_f) = (xf, nf, joined-follow r f (h, ne, h_e) h_f)
joined-follow (take-both {e = e} {f = f} {E = E} {F = F} h k r) x (xe, ne, h_e) (xf, nf, h_f) =
    let s = neither-same e f h k ne nf in (
      record { before-true = sym (same-right (same_sum s) x) ∙ xe.before-true },
      same-non-zero (same_sum s) ne,
      joined-follow r (e ⊕ f) (from-same (same_sum s) E h_e) (from-same (sum_same s) F h_f),
    )

joined-order : {E F G : List Point} → Joined E F G → InOrder E → InOrder F → InOrder G
joined-order no-left h_e h_f = h_f
joined-order no-right h_e h_f = h_e
joined-order (take_left {e = e} h r) (ne, h_e) (nf, h_f) = (ne, joined-follow r e h_e (h, nf, h_f))
joined-order (take-right {f = f} h r) (ne, h_e) (nf, h_f) = (nf, joined-follow r f (h, ne, h_e) h_f)
joined-order (take-both {e = e} {f = f} {E = E} {F = F} h k r) (ne, h_e) (nf, h_f) =
    let s = neither-same e f h k ne nf in
    (same-non-zero (same_sum s) ne, joined-follow r (e ⊕ f) (from-same (same_sum s) E h_e) (from-same (sum_same s) F h_f))

pub join_edges-order : (E F : List Point) → InOrder E → InOrder F → InOrder (join_edges E F)
join_edges-order E F = joined-order (joined E F)

pub join_edges-total : (E F : List Point) → total (join_edges E F) ≡ total E ⊕ total F
join_edges-total E F = joined-total (joined E F)

-- ---- the cut of the joined edges

-- what an edge brings to the cut
unfoldable part : Point → Point → Point
part d e = elim (before e (quarter d)) [ true ↦ e | false ↦ origin ]

part_in : (d e : Point) → before e (quarter d) ≡ true → part d e ≡ e
unfolding part
part_in d e h = rw (h, part)

part_out : (d e : Point) → before e (quarter d) ≡ false → part d e ≡ origin
unfolding part
part_out d e h = rw (h, part)

to_cut-part : (d e : Point) (E : List Point) → to_cut d (e ∷ E) ≡ part d e ⊕ to_cut d E
to_cut-part d e E = go (before e (quarter d)) refl
  where
    go : (b : Bool) → before e (quarter d) ≡ b → to_cut d (e ∷ E) ≡ part d e ⊕ to_cut d E
    go true h = rw (part_in d e h) (to_cut-take d e E h)
    go false h = rw (part_out d e h) (to_cut-leave d e E h ∙ sym (zero-⊕ (to_cut d E)))

-- two edges that point the same way are both before the cut or both not
part_same : (d : Point) {e f : Point} → SameWay e f → part d (e ⊕ f) ≡ part d e ⊕ part d f
part_same d {e} {f} s = go (before e (quarter d)) refl (same_left s (quarter d)) (same_left (same_sum s) (quarter d))
  where
    go : (b : Bool) → before e (quarter d) ≡ b → before e (quarter d) ≡ before f (quarter d)
        → before e (quarter d) ≡ before (e ⊕ f) (quarter d) → part d (e ⊕ f) ≡ part d e ⊕ part d f
    go true h k l = rw (part_in d (e ⊕ f) (sym l ∙ h), part_in d e h, part_in d f (sym k ∙ h))
    go false h k l = rw (part_out d (e ⊕ f) (sym l ∙ h), part_out d e h, part_out d f (sym k ∙ h))

joined-cut : (d : Point) {E F G : List Point} → Joined E F G → InOrder E → InOrder F → to_cut d G ≡ to_cut d E ⊕ to_cut d F
joined-cut d (no-left {F = F}) h_e h_f = sym (zero-⊕ (to_cut d F))
joined-cut d (no-right {E = E}) h_e h_f = sym (⊕-zero (to_cut d E))
joined-cut d (take_left {e = e} {f = f} {E = E} {F = F} {G = G} h r) h_e h_f =
    rw (to_cut-part d e G, to_cut-part d e E, joined-cut d r (next-in-order e E h_e.1) h_f)
    (sym (⊕-assoc (part d e) (to_cut d E) (to_cut d (f ∷ F))))
joined-cut d (take-right {e = e} {f = f} {E = E} {F = F} {G = G} h r) h_e h_f =
    rw (to_cut-part d f G, to_cut-part d f F, joined-cut d r h_e (next-in-order f F h_f.1))
    (⊕-left-comm (part d f) (to_cut d (e ∷ E)) (to_cut d F))
joined-cut d (take-both {e = e} {f = f} {E = E} {F = F} {G = G} h k r) h_e h_f =
    rw (
      to_cut-part d (e ⊕ f) G,
      to_cut-part d e E,
      to_cut-part d f F,
      part_same d (neither-same e f h k h_e.0 h_f.0),
      joined-cut d r (next-in-order e E h_e.1) (next-in-order f F h_f.1),
    ) (⊕-swap (part d e) (part d f) (to_cut d E) (to_cut d F))

pub join_edges-cut : (d : Point) (E F : List Point) → InOrder E → InOrder F → to_cut d (join_edges E F) ≡ to_cut d E ⊕ to_cut d F
join_edges-cut d E F = joined-cut d (joined E F)

pub join_edges-cut_sum : (d : Point) (E F : List Point) → InOrder E → InOrder F → cut_sum d (join_edges E F) ≡ cut_sum d E +ℤ cut_sum d F
join_edges-cut_sum d E F h_e h_f = sym (value-to_cut d (join_edges E F)) ∙ ap (value d) (join_edges-cut d E F h_e h_f)
    ∙ value-⊕ d (to_cut d E) (to_cut d F) ∙ ap₂ (λ x y. x +ℤ y) (value-to_cut d E) (value-to_cut d F)

-- ---- the vector sum

-- the joined edges of two lists of corners sum to zero
joined-closed : (A B : List Point) → total (join_edges (edges A) (edges B)) ≡ origin
joined-closed A B = join_edges-total (edges A) (edges B) ∙ ap₂ (λ (p q : Point). p ⊕ q) (total-edges A) (total-edges B)

pub vector_sum-edges : (A B : List Point) → Sorted A → Sorted B → edges (vector_sum A B) ≡ join_edges (edges A) (edges B)
vector_sum-edges [] B s_a s_b = absurd s_a
vector_sum-edges (a ∷ A) [] s_a s_b = absurd s_b
vector_sum-edges (a ∷ A) (b ∷ B) s_a s_b = let E = edges (a ∷ A) in let F = edges (b ∷ B) in
    edges-path (a ⊕ b) (join_edges E F) (join_edges-order E F s_a s_b) (joined-closed (a ∷ A) (b ∷ B))

pub vector_sum-sorted : (A B : List Point) → Sorted A → Sorted B → Sorted (vector_sum A B)
vector_sum-sorted [] B s_a s_b = absurd s_a
vector_sum-sorted (a ∷ A) [] s_a s_b = absurd s_b
vector_sum-sorted (a ∷ A) (b ∷ B) s_a s_b = let E = edges (a ∷ A) in let F = edges (b ∷ B) in
    path-sorted (a ⊕ b) (join_edges E F) (join_edges-order E F s_a s_b) (joined-closed (a ∷ A) (b ∷ B))

pub vector_sum-support : (A B : List Point) → Sorted A → Sorted B → (d : Point) → support d (vector_sum A B) ≡ support d A +ℤ support d B
vector_sum-support [] B s_a s_b d = absurd s_a
vector_sum-support (a ∷ A) [] s_a s_b d = absurd s_b
vector_sum-support (a ∷ A) (b ∷ B) s_a s_b d = let E = edges (a ∷ A) in let F = edges (b ∷ B) in
    rw (
      cut-path d (a ⊕ b) (join_edges E F) (join_edges-order E F s_a s_b) (joined-closed (a ∷ A) (b ∷ B)),
      cut-formula d a A s_a,
      cut-formula d b B s_b,
      join_edges-cut_sum d E F s_a s_b,
      value-⊕ d a b,
    ) (+ℤ-swap (value d a) (value d b) (cut_sum d E) (cut_sum d F))

pub vector_sum-comm : (A B : List Point) → vector_sum A B ≡ vector_sum B A
vector_sum-comm [] [] = refl
vector_sum-comm [] (b ∷ B) = refl
vector_sum-comm (a ∷ A) [] = refl
vector_sum-comm (a ∷ A) (b ∷ B) = ap₂ path (⊕-comm a b) (join_edges-comm (edges (a ∷ A)) (edges (b ∷ B)))

pub vector_sum-shape : (A B : List Point) → IsShape A → IsShape B → vector_sum A B ≡ shape_of (sums A B)
vector_sum-shape A B s t = let s_a = shape→sorted A s in let s_b = shape→sorted B t in
    shape-known (vector_sum A B) (sums A B) (sorted→shape (vector_sum A B) (vector_sum-sorted A B s_a s_b)) (sums-some A B s.some t.some)
    (λ d. vector_sum-support A B s_a s_b d ∙ sym (support-sums d A B s.some t.some))
