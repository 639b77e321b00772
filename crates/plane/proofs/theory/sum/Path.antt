-- The corners along a list of edges, and the edges along a list of corners: each gives the other back.
--     along p E        the corners from p along the edges E, without the end of the last
--     path p E         the same, and p itself where there is no edge
--     edges-path       the edges of a path, for edges in order that sum to zero
--     path-edges       the path along the edges of a list of corners
--     total-edges      the edges of a list of corners sum to zero
--     path-sorted      a path along edges in order that sum to zero is sorted
--     along-length     as many corners as edges
--     next-in-order    what follows an edge in order is in order itself
use Rattle.std.specs.Prelude.{◌≡◌, refl, List, [], ◌∷◌, suc, length}
use Rattle.std.proofs.Common.{sym, ◌∙◌, ap, ap₂, subst}
use Rattle.plane.specs.Point.{Point, origin, ◌⊕◌, ◌⊖◌}
use Rattle.plane.specs.Forms.{edges_to, edges, From, InOrder, Sorted}
use Rattle.plane.proofs.theory.forms.Vector.{total, ⊕-assoc, ⊕-zero, ⊖-self, step_back, step-to}
use Rattle.plane.specs.VectorSum.{along, path}

pub along-length : (p : Point) (E : List Point) → length (along p E) ≡ length E
along-length p [] = refl
along-length p (e ∷ E) = ap suc (along-length (p ⊕ e) E)

-- what follows an edge in order is in order itself
pub next-in-order : (e : Point) (E : List Point) → From e E → InOrder E
next-in-order e [] r = tt
next-in-order e (f ∷ E) r = (r.1, r.2)

-- ---- from edges to corners and back

-- edges from p that lead to s
edges-along : (s p e : Point) (E : List Point) → p ⊕ (e ⊕ total E) ≡ s → edges_to s p (along (p ⊕ e) E) ≡ e ∷ E
edges-along s p e [] h =
    ap (λ (q : Point). q ∷ []) (ap (λ (q : Point). q ⊖ p) (sym h ∙ ap (λ (q : Point). p ⊕ q) (⊕-zero e)) ∙ step_back p e)
edges-along s p e (f ∷ E) h =
    ap₂ (λ (q : Point) (l : List Point). q ∷ l) (step_back p e) (edges-along s (p ⊕ e) f E (⊕-assoc p e (f ⊕ total E) ∙ h))

pub edges-path : (p : Point) (E : List Point) → InOrder E → total E ≡ origin → edges (path p E) ≡ E
edges-path p [] i h = refl
edges-path p (e ∷ []) i h = absurd (i.0.non_zero (sym (⊕-zero e) ∙ h))
edges-path p (e ∷ (f ∷ E)) i h = edges-along p p e (f ∷ E) (ap (λ (q : Point). p ⊕ q) h ∙ ⊕-zero p)

along-edges : (s p : Point) (ps : List Point) → along p (edges_to s p ps) ≡ p ∷ ps
along-edges s p [] = refl
along-edges s p (q ∷ ps) = ap (λ (l : List Point). p ∷ l) (ap (λ (r : Point). along r (edges_to s q ps)) (step-to p q) ∙ along-edges s q ps)

pub path-edges : (p : Point) (ps : List Point) → path p (edges (p ∷ ps)) ≡ p ∷ ps
path-edges p [] = refl
path-edges p (q ∷ ps) = along-edges p p (q ∷ ps)

-- ---- what edges sum to

total-along : (s p : Point) (ps : List Point) → p ⊕ total (edges_to s p ps) ≡ s
total-along s p [] = ap (λ (q : Point). p ⊕ q) (⊕-zero (s ⊖ p)) ∙ step-to p s
total-along s p (q ∷ ps) = sym (⊕-assoc p (q ⊖ p) (total (edges_to s q ps)))
    ∙ ap (λ (r : Point). r ⊕ total (edges_to s q ps)) (step-to p q) ∙ total-along s q ps

pub total-edges : (ps : List Point) → total (edges ps) ≡ origin
total-edges [] = refl
total-edges (p ∷ []) = refl
total-edges (p ∷ (q ∷ ps)) = sym (step_back p _) ∙ ap (λ (r : Point). r ⊖ p) (total-along p p (q ∷ ps)) ∙ ⊖-self p

pub path-sorted : (p : Point) (E : List Point) → InOrder E → total E ≡ origin → Sorted (path p E)
path-sorted p [] i h = tt
path-sorted p (e ∷ E) i h = subst InOrder (sym (edges-path p (e ∷ E) i h)) i
