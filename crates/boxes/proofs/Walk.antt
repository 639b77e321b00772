-- What the search for the least box knows when it has measured the edges below k.
--     Walk l k j b                        the calipers j are closed on the last of them, and b is the first of the least boxes so far
--     walk_start, walk-next, walk-done    the moves of the search
use mathlib.Core.Path.{◌≡◌, refl, sym, subst, ◌∙◌, ap}
use mathlib.Core.Bool.{Bool, true, false, not, cond}
use mathlib.Core.List.{List}
use Prim.Native.Nat.{ℕ, suc, ◌+◌, ◌≤◌, ◌<◌}
use native.Mathlib.Numerals.{add-one}
use native.Mathlib.Omega.{arith}
use lib.IntN.{ℤ}
use lib.ListN.{length}
use Rattle.plane.specs.Point.{points}
use Rattle.plane.specs.Refusal.{Valid}
use Rattle.boxes.specs.Box.{no_larger}
use Rattle.boxes.specs.declared.Boxed.{Boxed}
use Rattle.boxes.specs.declared.jaws.Jaws.{Jaws}
use Rattle.boxes.specs.Scan.{Holds, Closing, Boxes, is_smaller, IsBox}
use Rattle.boxes.specs.theory.Held.{holds-closing}
use Rattle.boxes.specs.theory.Least.{no_larger-fractions, Leading, leading-start, leading-keep, leading-replace, leading-done}

pub record Walk (l : List ℤ) (k : ℕ) (j : Jaws) (b : Boxed) : Type 0 where
  pub valid : Valid l
  pub three : 2 < length (points l)
  pub edges-in : k ≤ length (points l)
  pub last : ℕ
  pub last-is : last + 1 ≡ k
  pub holds : Holds (points l) last j
  pub leading : Leading (points l) k b.edge
  pub boxes : Boxes (points l) b

pub walk_start : {l : List ℤ} {j : Jaws} {b : Boxed} → Valid l → 2 < length (points l) → Holds (points l) 0 j → b.edge ≡ 0
    → Boxes (points l) b → Walk l 1 j b
walk_start {l} v three h e boxes = record {
  valid = v;
  three = three;
  edges-in = omega arith;
  last = 0;
  last-is = refl;
  holds = h;
  leading = subst (Leading (points l) 1) (sym e) (leading-start (points l));
  boxes = boxes;
}

module _ {l : List ℤ} {k : ℕ} {j : Jaws} {best : Boxed} (w : Walk l k j best) where
  -- the next edge is further to the left, and so is each direction that the calipers close in
  pub walk-closing : k < length (points l) → Closing l k j
  walk-closing h = subst (λ e. Closing l e j) w.last-is
      (holds-closing w.valid w.three (omega (arith, w.last-is)) w.holds)

  -- the box found on edge k is taken only if it is smaller
  pub walk-next : {i : Jaws} {found r : Boxed} → k < length (points l) → Holds (points l) k i → found.edge ≡ k → Boxes (points l) found
      → r ≡ cond (is_smaller found best) found best → Walk l (k + 1) i r
  walk-next {i} {found} {r} h holds e boxes taken = go (is_smaller found best) refl taken
    where
      next : (b : Boxed) → Leading (points l) (suc k) b.edge → Boxes (points l) b → Walk l (k + 1) i b
      next b leading own = record {
        valid = w.valid;
        three = w.three;
        edges-in = omega arith;
        last = k;
        last-is = refl;
        holds = holds;
        leading = rw add-one leading;
        boxes = own;
      }

      test : no_larger (points l) best.edge k ≡ not (is_smaller found best)
      test = ap (no_larger (points l) best.edge) (sym e) ∙ no_larger-fractions (points l) best.edge found.edge
          w.boxes.half_is w.boxes.squared-is boxes.half_is boxes.squared-is

      go : (t : Bool) → is_smaller found best ≡ t → r ≡ cond t found best → Walk l (k + 1) i r
      go true q f = subst (Walk l (k + 1) i) (sym f) (next found
          (subst (Leading (points l) (suc k)) (sym e)
          (leading-replace (points l) w.valid.shape w.three h w.leading (test ∙ ap not q)))
          boxes)
      go false q f = subst (Walk l (k + 1) i) (sym f) (next best (leading-keep w.leading (test ∙ ap not q)) w.boxes)

  pub walk-done : length (points l) ≤ k → IsBox (points l) best
  walk-done h = record {
    edge-is = sym (leading-done (subst (λ n. Leading (points l) n best.edge) (all h) w.leading));
    boxes = w.boxes;
  }
    where
      all : length (points l) ≤ k → k ≡ length (points l)
      all h = omega (arith, w.edges-in)
