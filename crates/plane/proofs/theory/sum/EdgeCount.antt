-- How many edges there are when two lists of edges are joined: one for each direction that one of the lists has.
--     join_edges-count        the joined edges and the shared ones together are as many as those of both lists
use Rattle.std.specs.Prelude.{◌≡◌, refl, Bool, true, false, List, [], ◌∷◌, suc, ◌+◌, length}
use Rattle.std.proofs.Common.{sym, ◌∙◌, ap, arith}
use Rattle.plane.specs.Point.{Point}
use Rattle.plane.specs.Forms.{All, Before, From, InOrder}
use Rattle.plane.proofs.theory.forms.Angle.{before-trans, before-reversed}
use Rattle.plane.proofs.theory.forms.SameWay.{neither-same, from-same}
use Rattle.plane.proofs.theory.sum.Path.{next-in-order}
use Rattle.plane.specs.VectorSum.{join_edges, meets, shared}
use Rattle.plane.proofs.theory.sum.EdgeSum.{Joined, no-left, no-right, take_left, take-right, take-both, joined}

shared-met : (e : Point) (E F : List Point) → meets e F ≡ true → shared (e ∷ E) F ≡ suc (shared E F)
shared-met e E F h = rw (h, shared)

shared-unmet : (e : Point) (E F : List Point) → meets e F ≡ false → shared (e ∷ E) F ≡ shared E F
shared-unmet e E F h = rw (h, shared)

-- ---- an edge before all others meets none of them

all-later : {e f : Point} → Before e f → (E : List Point) → All (Before f) E → All (Before e) E
all-later b [] h = tt
all-later b (g ∷ E) h = (before-trans b h.0, all-later b E h.1)

pub from_all : (e : Point) (E : List Point) → From e E → All (Before e) E
from_all e [] r = tt
from_all e (f ∷ E) r = (r.0, all-later r.0 E (from_all f E r.2))

meets-none : (e : Point) (F : List Point) → All (Before e) F → meets e F ≡ false
meets-none e [] h = refl
meets-none e (f ∷ F) h = rw (before-reversed h.0, h.0.before-true) (meets-none e F h.1)

-- counting, an edge before all may be left out of the second list
shared-skip : (f : Point) (E F : List Point) → All (Before f) E → shared E (f ∷ F) ≡ shared E F
shared-skip f [] F h = refl
shared-skip f (e ∷ E) F h = go (meets e F) refl (shared-skip f E F h.1)
  where
    same : meets e (f ∷ F) ≡ meets e F
    same = rw h.0.before-true

    go : (b : Bool) → meets e F ≡ b → shared E (f ∷ F) ≡ shared E F → shared (e ∷ E) (f ∷ F) ≡ shared (e ∷ E) F
    go true k ih = shared-met e E (f ∷ F) (same ∙ k) ∙ ap suc ih ∙ sym (shared-met e E F k)
    go false k ih = shared-unmet e E (f ∷ F) (same ∙ k) ∙ ih ∙ sym (shared-unmet e E F k)

shared-nil : (E : List Point) → shared E [] ≡ 0
shared-nil [] = refl
shared-nil (e ∷ E) = shared-nil E

-- ---- the count

joined-count : {E F G : List Point} → Joined E F G → InOrder E → InOrder F → length G + shared E F ≡ length E + length F
joined-count no-left h_e h_f = omega arith
joined-count (no-right {E = E}) h_e h_f = omega (arith, shared-nil E)
joined-count (take_left {e = e} {f = f} {E = E} {F = F} h r) h_e h_f =
    let ahead = from_all e (f ∷ F) (h, h_f.0, h_f.1) in
    let ih = joined-count r (next-in-order e E h_e.1) h_f in
    omega (arith, shared-unmet e E (f ∷ F) (meets-none e (f ∷ F) ahead))
joined-count (take-right {e = e} {f = f} {E = E} {F = F} h r) h_e h_f =
    let ahead = from_all f (e ∷ E) (h, h_e.0, h_e.1) in
    let ih = joined-count r h_e (next-in-order f F h_f.1) in
    omega (arith, shared-skip f (e ∷ E) F ahead)
joined-count (take-both {e = e} {f = f} {E = E} {F = F} h k r) h_e h_f =
    let s = neither-same e f h k h_e.0 h_f.0 in
    let met : meets e (f ∷ F) ≡ true = rw (k, h) in
    let ih = joined-count r (next-in-order e E h_e.1) (next-in-order f F h_f.1) in
    omega (arith, shared-met e E (f ∷ F) met, shared-skip f E F (from_all f E (from-same s E h_e.1)))

pub join_edges-count : (E F : List Point) → InOrder E → InOrder F → length (join_edges E F) + shared E F ≡ length E + length F
join_edges-count E F = joined-count (joined E F)
