-- The pass round all edges of a sum: the moves of the loop's invariant, `Passing`.
--     passing-start, -more, -end       its moves, and its end; `passing-out`: an edge has the origin to its right
--     passing-at                       the walk is at a place of the lists
--     passing-below, passing-count     there is an edge to pass; the count fits
--     passing-corners                  the corners that the edge joins
use mathlib.Core.Path.{◌≡◌, refl, sym, ◌∙◌, ap, ap₂, subst}
use mathlib.Core.Bool.{Bool, true, false, ◌||◌}
use mathlib.Core.List.{List}
use Prim.Native.Nat.{ℕ, suc, ◌+◌, ◌<◌, zero-le}
use native.Mathlib.Numerals.{add-one}
use native.Mathlib.Omega.{arith}
use lib.IntN.{ℤ, pos}
use lib.ListN.{length}
use lib.Signed.{lt_z, le_z}
use Rattle.plane.specs.Point.{Point, points, corner}
use Rattle.plane.specs.Turn.{cross}
use Rattle.plane.specs.Shape.{next}
use Rattle.plane.specs.Separation.{not_left}
use Rattle.plane.specs.VectorSum.{vector_sum}
use Rattle.plane.proofs.theory.lists.Sought.{some-here}
use Rattle.separation.specs.theory.Rim.{not_left-cross}
use Rattle.calipers.specs.Walk.{Walk, here, begun, advanced, stepped, At}
use Rattle.calipers.specs.theory.Steps.{at-stepped}
use Rattle.plane.specs.Search.{some}
use Rattle.polygon.specs.declared.point.Point.{Point as Code-as-Point}
use Rattle.polygon.specs.Point.{at}
use Rattle.separation.specs.Outward.{Outward}
use Rattle.separation.specs.Around.{cross_at, right_of, Saw}
use Rattle.separation.specs.declared.around.Seen.TheVariants.{Outside, Round}
use Rattle.separation.specs.Passing.{Passing}
use Rattle.separation.specs.theory.Outward.{stepped-away}
use Rattle.separation.specs.theory.Passed.{passed_normal}
use Rattle.separation.specs.theory.Stops.{sum-length, on_below, over-end, corner-here, stop-here}

module _ {a b : List ℤ} where
  pub passing-start : {walk : Walk} → At a b begun → walk ≡ begun → Passing a b walk 0 false
  passing-start t e = record { start = t; within = zero-le; moved = e; inner = refl; rim-is = refl }

  module _ {walk : Walk} {count : ℕ} {rim : Bool} (p : Passing a b walk count rim) where
    abbrev D : List Point
    D = vector_sum (points a) (points b)

    pub passing-at : At a b walk
    passing-at = subst (At a b) (sym p.moved) (at-stepped a b begun p.start count)

    pub passing-end : walk.over ≡ true → Saw D (Round count rim)
    passing-end o =
        let e : count ≡ length D =
        omega (arith, p.within, over-end a b p.start count p.within (ap (λ (w : Walk). w.over) (sym p.moved) ∙ o)) in
        (sym (ap (some (right_of D)) e) ∙ p.inner, e, p.rim-is ∙ ap (some (not_left D)) e)

    module _ (on : walk.over ≡ false) where
      pub passing-below : count < length D
      passing-below = on_below a b p.start count p.within (ap (λ (w : Walk). w.over) (sym p.moved) ∙ on)

      pub passing-count : count < length (points a) + length (points b)
      passing-count = omega (arith, passing-below, sum-length (points a) (points b))

      module _ {after : Walk} (e : after ≡ advanced (points a) (points b) walk) where
        after_is : after ≡ stepped (points a) (points b) (suc count) begun
        after_is = e ∙ ap (advanced (points a) (points b)) p.moved

        pub passing-corners : (f : Point → Point → ℤ) → f (here (points a) (points b) walk) (here (points a) (points b) after)
            ≡ f (corner D count) (corner D (next (length D) count))
        passing-corners f = ap₂ f (ap (here (points a) (points b)) p.moved ∙ corner-here a b p.start count passing-below)
            (ap (here (points a) (points b)) after_is ∙ stop-here a b p.start count passing-below)

        module _ {turn : ℤ} (t : turn ≡ cross (here (points a) (points b) walk) (here (points a) (points b) after)) where
          side-is : lt_z turn (pos 0) ≡ right_of D count
          unfolding right_of cross_at
          side-is = ap (λ (z : ℤ). lt_z z (pos 0)) (t ∙ passing-corners cross)

          pub passing-out : lt_z turn (pos 0) ≡ true → (normal : Code-as-Point) → at normal ≡ passed_normal (points a) (points b) walk after
              → Saw D (Outside normal)
          passing-out h normal n = (
            some-here (right_of D) (length D) count passing-below (sym side-is ∙ h),
            subst (Outward D) (sym (n ∙ ap₂ (passed_normal (points a) (points b)) p.moved after_is))
                (stepped-away a b p.start count passing-below (sym side-is ∙ h)),
          )

          pub passing-more : lt_z turn (pos 0) ≡ false → {new : Bool} → new ≡ (rim || le_z turn (pos 0)) → Passing a b after (count + 1) new
          passing-more g h = record {
            start = p.start;
            within = omega (arith, passing-below);
            moved = after_is ∙ ap (λ (n : ℕ). stepped (points a) (points b) n begun) (sym (add-one count));
            inner = ap (some (right_of D)) (add-one count) ∙ ap₂ ◌||◌ p.inner (sym side-is ∙ g);
            rim-is = h ∙ ap₂ (λ (x : Bool) (z : ℤ). x || le_z z (pos 0)) p.rim-is (t ∙ passing-corners cross)
                ∙ ap (λ (x : Bool). some (not_left D) count || x) (sym (not_left-cross D count))
                ∙ ap (some (not_left D)) (sym (add-one count));
          }
