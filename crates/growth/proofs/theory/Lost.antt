-- A shape is known by how points relate to it: of two shapes that differ, a corner of the one is apart from the other.
--     answers-differ       a point inside G and not inside H is apart from H and not from G
--     numbers-differ       and then relation answers different numbers
--     shapes-differ        if G is not H, such a point is a corner of one of them
--     answers-known        shapes to which every point relates alike are equal
--     lost-differs         at a corner of G that H lacks, H being some of the others
--     obstacles-known      obstacles to which the cart relates alike at every place are equal
use Rattle.std.specs.Prelude.{◌≡◌, refl, Bool, true, false, not, cond, ◌⊎◌, List, [], ◌∷◌, ℕ, ◌<◌, pos, length}
use Rattle.std.proofs.Common.{sym, ◌∙◌, ap, subst, inl, inr, arith}
use mathlib.Core.List.Memᴰ
use Rattle.plane.specs.Point.{Point, ◌∈◌, ◌⊆◌}
use Rattle.plane.specs.Shape.{IsShape}
use Rattle.plane.specs.Corner.{Corner}
use Rattle.plane.specs.Separation.{inside, touching, relation_number}
use Rattle.plane.proofs.theory.hull.ShapeOf.{shape_of-corner, shape-own}
use Rattle.separation.specs.theory.Inside.{inside-refl, inside-antisym, outside→direction, direction→outside}
use Rattle.separation.specs.theory.InsideShape.{inside→each}
use Rattle.growth.specs.Grown.{grown, placed, Differs}
use Rattle.growth.proofs.theory.Alike.{alike-relation}
use Rattle.growth.proofs.theory.Places.{grown-shape, place-alike, point-apart}
use Rattle.growth.proofs.theory.Laws.{grown-cancel}

-- only of shapes apart the answer is 0
pub numbers-differ : (p : Point) (G H : List Point) → Differs p G H → relation_number (p ∷ []) G ≡ relation_number (p ∷ []) H → ⊥
unfolding relation_number
numbers-differ p G H d e = other (touching (p ∷ []) G) (rw (d.0, d.1) at e)
  where
    other : (t : Bool) → cond t (pos 1) (pos 2) ≡ pos 0 → ⊥
    other true e = let z : ◌≡◌ {A = ℕ} 1 0 = cc in omega arith
    other false e = let z : ◌≡◌ {A = ℕ} 2 0 = cc in omega arith

module _ (G H : List Point) (g : 0 < length G) (h : 0 < length H) where
  pub answers-differ : (p : Point) → inside (p ∷ []) G ≡ true → inside (p ∷ []) H ≡ false → Differs p G H
  answers-differ p i o = (point-apart p G g ∙ ap not i, point-apart p H h ∙ ap not o)

  member-inside : {p : Point} → p ∈ G → inside (p ∷ []) G ≡ true
  member-inside {p} m = inside→each G G g (inside-refl G g) p m

  -- some corner is beyond H in some direction
  outside-differs : inside G H ≡ false → (p : Point) × p ∈ G × Differs p G H
  outside-differs o =
      let s = outside→direction G H g h o in (
        s.at,
        s.at_in,
        answers-differ s.at (member-inside s.at_in) (direction→outside (s.at ∷ []) H (omega arith) h
            (record { direction = s.direction; at = s.at; at_in = Memᴰ.head refl; beyond = s.beyond })),
      )

-- ---- shapes

module _ (G H : List Point) (s : IsShape G) (t : IsShape H) where
  -- a corner of the first that is not inside the second, or the reverse
  pub shapes-differ : (G ≡ H → ⊥) → (p : Point) × ((p ∈ G × Differs p G H) ⊎ (p ∈ H × Differs p H G))
  shapes-differ n = go (inside G H) refl (inside H G) refl
    where
      go : (x : Bool) → inside G H ≡ x → (y : Bool) → inside H G ≡ y → (p : Point) × ((p ∈ G × Differs p G H) ⊎ (p ∈ H × Differs p H G))
      go false e y f = let r = outside-differs G H s.some t.some e in (r.0, inl (r.1, r.2))
      go true e false f = let r = outside-differs H G t.some s.some f in (r.0, inr (r.1, r.2))
      go true e true f = absurd (n (inside-antisym G H s t e f))

  pub answers-known : ((p : Point) → relation_number (p ∷ []) G ≡ relation_number (p ∷ []) H) → G ≡ H
  answers-known same = go (inside G H) refl (inside H G) refl
    where
      go : (x : Bool) → inside G H ≡ x → (y : Bool) → inside H G ≡ y → G ≡ H
      go false e y f = let r = outside-differs G H s.some t.some e in absurd (numbers-differ r.0 G H r.2 (same r.0))
      go true e false f = let r = outside-differs H G t.some s.some f in absurd (numbers-differ r.0 H G r.2 (sym (same r.0)))
      go true e true f = inside-antisym G H s t e f

-- in its own direction the corner is beyond all others
pub lost-differs : (G H : List Point) → IsShape G → 0 < length H → H ⊆ G → (p : Point) → p ∈ G → (p ∈ H → ⊥) → Differs p G H
lost-differs G H s h part p m lost = answers-differ G H s.some h p (member-inside G H s.some h m)
    (direction→outside (p ∷ []) H (omega arith) h (record {
      direction = own.direction;
      at = p;
      at_in = Memᴰ.head refl;
      beyond = λ q n. own.strictly q (part q n) (λ e. lost (Memᴰ.cast (sym e) n));
    }))
  where
    own : Corner G p
    own = shape_of-corner G s.some (subst (λ ps. p ∈ ps) (sym (shape-own G s)) m)

-- ---- obstacles

pub obstacles-known : (A B C : List Point) → 0 < length A → IsShape B → IsShape C
    → ((t : Point) → relation_number (placed A t) B ≡ relation_number (placed A t) C) → B ≡ C
obstacles-known A B C a s t same = grown-cancel B C A s t a (answers-known (grown B A) (grown C A) (grown-shape B A s.some a)
    (grown-shape C A t.some a) (λ p. sym (seen B s.some p) ∙ same p ∙ seen C t.some p))
  where
    seen : (B : List Point) → 0 < length B → (p : Point) → relation_number (placed A p) B ≡ relation_number (p ∷ []) (grown B A)
    seen B b p = alike-relation (placed A p) B (p ∷ []) (grown B A) (place-alike A B a b p)
