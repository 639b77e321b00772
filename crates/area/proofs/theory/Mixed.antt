-- The mixed area of two shapes, by supports: the sum over the edges of the second of how far the first reaches across them.
--     right f                 f turned right by a quarter: out of an edge
--     mixed P F               the sum of the supports of P out of the edges F
--     led e f                 the cross product of e and f where e is before f by angle, else 0
--     both E F                the sum of all of these
--     mixed-both              of sorted edges the mixed area is that sum, whatever the first corner is
--     both-symmetric          closed lists of edges may be exchanged
--     area-mixed              twice the area of a shape is its mixed area with itself
--     mixed-symmetric         the mixed area of two shapes is symmetric
use Rattle.std.specs.Prelude.{◌≡◌, refl, Bool, true, false, cond, List, [], ◌∷◌, ℤ, pos, neg_ℤ, ◌+ℤ◌}
use Rattle.std.proofs.Common.{sym, ◌∙◌, ap, ap₂, arith}
use Rattle.std.proofs.Math.IntN.{neg_ℤ-neg_ℤ}
use Rattle.integer.specs.Ring.{ring, reify}
use Rattle.integer.specs.Linear.{linear, lia, ◌&◌}
use Rattle.plane.specs.Point.{Point, point, origin, ◌⊕◌, ◌⊖◌}
use Rattle.plane.specs.Turn.{cross}
use Rattle.plane.specs.Shape.{IsShape}
use Rattle.plane.specs.Direction.{value, support}
use Rattle.plane.specs.Forms.{All, before, Before, NonZero, InOrder, Sorted, edges, edges_to}
use Rattle.plane.specs.Cut.{quarter, cut_sum}
use Rattle.plane.proofs.theory.lists.Members.{point-path}
use Rattle.plane.proofs.theory.forms.Vector.{total, value-cross, cross-swap, cross-self, cross-origin, step-to}
use Rattle.plane.proofs.theory.forms.Angle.{before-reversed}
use Rattle.plane.proofs.theory.forms.SameWay.{neither-same, same-flat}
use Rattle.plane.proofs.theory.forms.Standard.{shape→sorted}
use Rattle.plane.proofs.theory.sum.Path.{next-in-order, total-edges}
use Rattle.plane.proofs.theory.sum.EdgeCount.{from_all}
use Rattle.plane.proofs.theory.sum.Cut.{cut_sum-take, cut_sum-leave, cut-formula}
use Rattle.area.specs.Area.{crosses_to, twice_area}
use Rattle.area.proofs.theory.Sums.{sum_of, sum_of-add, sum_of-zero, sum_of-same, sum_of-each, sum_of-swap, sum_of-cross}

abbrev pub right : Point → Point
right f = point f.y (neg_ℤ f.x)

abbrev pub mixed : List Point → List Point → ℤ
mixed P F = sum_of (λ f. support (right f) P) F

unfoldable pub led : Point → Point → ℤ
led e f = cond (before e f) (cross e f) (pos 0)

abbrev pub both : List Point → List Point → ℤ
both E F = sum_of (λ f. sum_of (λ e. led e f) E) F

-- ---- how `led` computes

led-before : (e f : Point) → before e f ≡ true → led e f ≡ cross e f
unfolding led
led-before e f h = ap (λ b. cond b (cross e f) (pos 0)) h

led-after : (e f : Point) → before e f ≡ false → led e f ≡ pos 0
unfolding led
led-after e f h = ap (λ b. cond b (cross e f) (pos 0)) h

-- ---- from supports to edges

quarter-right : (f : Point) → quarter (right f) ≡ f
quarter-right f = point-path (neg_ℤ-neg_ℤ f.x) refl

value-right : (f e : Point) → value (right f) e ≡ cross e f
value-right f e = value-cross (right f) e ∙ ap (cross e) (quarter-right f)

cut-led : (f : Point) (E : List Point) → cut_sum (right f) E ≡ sum_of (λ e. led e f) E
cut-led f [] = refl
cut-led f (e ∷ E) = go (before e f) refl (cut-led f E)
  where
    go : (b : Bool) → before e f ≡ b → cut_sum (right f) E ≡ sum_of (λ k. led k f) E
        → cut_sum (right f) (e ∷ E) ≡ led e f +ℤ sum_of (λ k. led k f) E
    go true h later = cut_sum-take (right f) e E (ap (before e) (quarter-right f) ∙ h)
        ∙ ap₂ (λ x y. x +ℤ y) (value-right f e ∙ sym (led-before e f h)) later
    go false h later = cut_sum-leave (right f) e E (ap (before e) (quarter-right f) ∙ h) ∙ later
        ∙ lia (led e f ∷ sum_of (λ k. led k f) E ∷ []) (led-after e f h) (search linear depth 40) (omega arith)

-- the first corner's part is its cross product with the total
pub mixed-both : (p : Point) (ps F : List Point) → Sorted (p ∷ ps) → total F ≡ origin → mixed (p ∷ ps) F ≡ both (edges (p ∷ ps)) F
mixed-both p ps F s closed =
    let E = edges (p ∷ ps) in
    let each : mixed (p ∷ ps) F ≡ sum_of (λ f. cross p f +ℤ sum_of (λ e. led e f) E) F =
    sum_of-each _ _ F (λ f. cut-formula (right f) p ps s ∙ ap₂ (λ x y. x +ℤ y) (value-right f p) (cut-led f E)) in
    let first : sum_of (λ f. cross p f) F ≡ pos 0 = sum_of-cross p F ∙ ap (cross p) closed ∙ (cross-origin p).1 in
    each ∙ sum_of-add (λ f. cross p f) (λ f. sum_of (λ e. led e f) E) F
    ∙ lia (sum_of (λ f. cross p f) F ∷ both E F ∷ []) first (search linear depth 40) (omega arith)

-- ---- symmetric

-- of two vectors one is before the other, or they point the same way and have no cross product
led-either : (e f : Point) → NonZero e → NonZero f → led e f ≡ led f e +ℤ cross e f
led-either e f ne nf = go (before e f) refl (before f e) refl
  where
    go : (b : Bool) → before e f ≡ b → (c : Bool) → before f e ≡ c → led e f ≡ led f e +ℤ cross e f
    go true h c k =
        let none = led-after f e (before-reversed (record { before-true = h })) in
        lia (led e f ∷ led f e ∷ cross e f ∷ []) (led-before e f h & none) (search linear depth 40) (omega arith)
    go false h true k = lia (led e f ∷ led f e ∷ cross e f ∷ cross f e ∷ [])
        (led-after e f h & led-before f e k & cross-swap e f) (search linear depth 40) (omega arith)
    go false h false k = lia (led e f ∷ led f e ∷ cross e f ∷ [])
        (led-after e f h & led-after f e k & same-flat (neither-same e f h k ne nf)) (search linear depth 40) (omega arith)

led-row : (e : Point) (F : List Point) → NonZero e → All NonZero F
    → sum_of (λ f. led e f) F ≡ sum_of (λ f. led f e) F +ℤ cross e (total F)
led-row e F ne n_f = sum_of-same (λ f. led e f) (λ f. led f e +ℤ cross e f) F (each F n_f)
    ∙ sum_of-add (λ f. led f e) (λ f. cross e f) F ∙ ap (λ z. sum_of (λ f. led f e) F +ℤ z) (sum_of-cross e F)
  where
    each : (G : List Point) → All NonZero G → All (λ f. led e f ≡ led f e +ℤ cross e f) G
    each [] a = tt
    each (f ∷ G) a = (led-either e f ne a.0, each G a.1)

led-rows : (E F : List Point) → All NonZero E → All NonZero F → total F ≡ origin
    → All (λ e. sum_of (λ f. led e f) F ≡ sum_of (λ f. led f e) F) E
led-rows [] F n_e n_f closed = tt
led-rows (e ∷ E) F n_e n_f closed =
    let none : cross e (total F) ≡ pos 0 = ap (cross e) closed ∙ (cross-origin e).1 in (
      lia (sum_of (λ f. led e f) F ∷ sum_of (λ f. led f e) F ∷ cross e (total F) ∷ []) (led-row e F n_e.0 n_f & none)
          (search linear depth 40) (omega arith),
      led-rows E F n_e.1 n_f closed,
    )

both-symmetric : (E F : List Point) → All NonZero E → All NonZero F → total F ≡ origin → both E F ≡ both F E
both-symmetric E F n_e n_f closed = sum_of-swap led E F
    ∙ sum_of-same (λ e. sum_of (λ f. led e f) F) (λ e. sum_of (λ f. led f e) F) E (led-rows E F n_e n_f closed)

in-order-some : (E : List Point) → InOrder E → All NonZero E
in-order-some [] o = tt
in-order-some (e ∷ E) o = (o.0, in-order-some E (next-in-order e E o.1))

pub mixed-symmetric : (P Q : List Point) → IsShape P → IsShape Q → mixed P (edges Q) ≡ mixed Q (edges P)
mixed-symmetric [] Q s t = absurd (shape→sorted [] s)
mixed-symmetric (p ∷ ps) [] s t = absurd (shape→sorted [] t)
mixed-symmetric (p ∷ ps) (q ∷ qs) s t =
    let s_p = shape→sorted (p ∷ ps) s in
    let s_q = shape→sorted (q ∷ qs) t in
    mixed-both p ps (edges (q ∷ qs)) s_p (total-edges (q ∷ qs))
    ∙ both-symmetric (edges (p ∷ ps)) (edges (q ∷ qs)) (in-order-some (edges (p ∷ ps)) s_p)
    (in-order-some (edges (q ∷ qs)) s_q) (total-edges (q ∷ qs))
    ∙ sym (mixed-both q qs (edges (p ∷ ps)) s_q (total-edges (p ∷ ps)))

-- ---- the area

-- the cross products along edges from p
abbrev along_sum : Point → List Point → ℤ
along_sum p [] = pos 0
along_sum p (e ∷ E) = cross p e +ℤ along_sum (p ⊕ e) E

cross-step : (p q : Point) → cross p q ≡ cross p (q ⊖ p)
unfolding cross
cross-step p q = ring (p.x ∷ p.y ∷ q.x ∷ q.y ∷ []) (search reify depth 40) tt

crosses-along : (s p : Point) (ps : List Point) → crosses_to s p ps ≡ along_sum p (edges_to s p ps)
crosses-along s p [] = cross-step p s ∙ ring (cross p (s ⊖ p) ∷ []) (search reify depth 40) tt
crosses-along s p (q ∷ ps) = ap₂ (λ x y. x +ℤ y) (cross-step p q)
    (crosses-along s q ps ∙ ap (λ (r : Point). along_sum r (edges_to s q ps)) (sym (step-to p q)))

-- each edge with all that follow it
abbrev later_sum : List Point → ℤ
later_sum [] = pos 0
later_sum (e ∷ E) = cross e (total E) +ℤ later_sum E

cross-both : (p e t : Point) → cross p e +ℤ cross (p ⊕ e) t ≡ cross p (e ⊕ t) +ℤ cross e t
unfolding cross
cross-both p e t = ring (p.x ∷ p.y ∷ e.x ∷ e.y ∷ t.x ∷ t.y ∷ []) (search reify depth 40) tt

along-later : (p : Point) (E : List Point) → along_sum p E ≡ cross p (total E) +ℤ later_sum E
along-later p [] = lia (cross p origin ∷ []) (cross-origin p).1 (search linear depth 40) (omega arith)
along-later p (e ∷ E) =
    lia (cross p e ∷ along_sum (p ⊕ e) E ∷ cross (p ⊕ e) (total E) ∷ later_sum E ∷ cross p (e ⊕ total E) ∷ cross e (total E) ∷ [])
    (along-later (p ⊕ e) E & cross-both p e (total E)) (search linear depth 40) (omega arith)

-- what follows an edge in order is not before it, and the edge is before it
led-first : (e : Point) (E : List Point) → All (Before e) E
    → (sum_of (λ f. led f e) E ≡ pos 0) × (sum_of (λ f. led e f) E ≡ cross e (total E))
led-first e E a = (
  sum_of-same (λ f. led f e) (λ f. pos 0) E (none E a) ∙ sum_of-zero E,
  sum_of-same (λ f. led e f) (λ f. cross e f) E (all E a) ∙ sum_of-cross e E,
)
  where
    none : (G : List Point) → All (Before e) G → All (λ f. led f e ≡ pos 0) G
    none [] b = tt
    none (f ∷ G) b = (led-after f e (before-reversed b.0), none G b.1)

    all : (G : List Point) → All (Before e) G → All (λ f. led e f ≡ cross e f) G
    all [] b = tt
    all (f ∷ G) b = (led-before e f b.0.before-true, all G b.1)

led-self : (e : Point) → led e e ≡ pos 0
led-self e = go (before e e) refl
  where
    go : (b : Bool) → before e e ≡ b → led e e ≡ pos 0
    go true h = led-before e e h ∙ cross-self e
    go false h = led-after e e h

both_later : (E : List Point) → InOrder E → both E E ≡ later_sum E
both_later [] o = refl
both_later (e ∷ E) o =
    let a = led-first e E (from_all e E o.1) in
    let later = both_later E (next-in-order e E o.1) in
    let split = sum_of-add (λ f. led e f) (λ f. sum_of (λ k. led k f) E) E in
    lia (led e e ∷ sum_of (λ k. led k e) E ∷ sum_of (λ f. led e f +ℤ sum_of (λ k. led k f) E) E ∷ sum_of (λ f. led e f) E ∷ both E E
    ∷ later_sum E ∷ cross e (total E) ∷ []) (led-self e & a.0 & a.1 & later & split) (search linear depth 40) (omega arith)

pub area-mixed : (P : List Point) → IsShape P → twice_area P ≡ mixed P (edges P)
area-mixed [] s = absurd (shape→sorted [] s)
area-mixed (p ∷ []) s = cross-self p
area-mixed (p ∷ (q ∷ ps)) s =
    let E = edges (p ∷ q ∷ ps) in
    let o = shape→sorted (p ∷ q ∷ ps) s in
    let closed = total-edges (p ∷ q ∷ ps) in
    let first : cross p (total E) ≡ pos 0 = ap (cross p) closed ∙ (cross-origin p).1 in
    crosses-along p p (q ∷ ps)
    ∙ lia (along_sum p E ∷ cross p (total E) ∷ later_sum E ∷ both E E ∷ []) (along-later p E & first & both_later E o)
    (search linear depth 40) (omega arith)
    ∙ sym (mixed-both p (q ∷ ps) E o closed)
