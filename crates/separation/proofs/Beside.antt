-- The walk that decides inside: the invariant of the loop, and its moves.
--     Beside a b s t        two sides of a walk, where no corner of a is to the right of an edge of b that is passed
--     beside-start          no edge is passed
--     is_right s t           what the code tests: the corner of s is to the right of the edge of t
--     beside-right          it is to the right of an edge of b: a is not inside
--     beside-more           it is not, or that edge is not passed: the walk goes on; `beside-less`: with less to pass
--     beside-all            all edges of b are passed: a is inside
use mathlib.Core.Path.{◌≡◌, refl, sym, ◌∙◌, ap, ap₂, subst}
use mathlib.Core.Bool.{Bool, true, false, cond}
use mathlib.Core.List.{List}
use Prim.Native.Nat.{ℕ, ◌+◌, ◌-◌, ◌≤◌, ◌<◌}
use native.Mathlib.Omega.{arith}
use lib.IntN.{ℤ, pos}
use lib.ListN.{length}
use lib.Signed.{lt_z, le_z}
use Rattle.integer.specs.Order.{lt_z-true, lt_z-false, le-le_z}
use Rattle.plane.specs.Point.{Point, points, corner, ◌⊖◌}
use Rattle.plane.specs.Turn.{cross, turn}
use Rattle.plane.specs.Shape.{next}
use Rattle.plane.specs.Forms.{edges}
use Rattle.plane.specs.Cycle.{corner_round}
use Rattle.plane.specs.Refusal.{Valid}
use Rattle.plane.specs.Separation.{inside}
use Rattle.plane.proofs.theory.sum.Positions.{edges_some, edges-at-most}
use Rattle.calipers.specs.declared.side.Side.{Side}
use Rattle.calipers.specs.Places.{takes, passed}
use Rattle.calipers.specs.Side.{corner_of, next_of, onward, Carried, walk_of}
use Rattle.calipers.specs.Walk as Walk
use Rattle.calipers.specs.Walk.{Walk, begun, advanced, At}
use Rattle.calipers.specs.theory.Standing.{Taken, takes-taken, edges-less}
use Rattle.calipers.specs.theory.Sides.{onward-inner}
use Rattle.calipers.specs.theory.Steps.{at-begin}
use Rattle.calipers.specs.theory.Carry.{sides-walk, sides-advanced, sides-at}
use Rattle.separation.specs.theory.Within.{LeftUpTo, left-start, left-more, left-all, right-outside, cross-edge}

pub record Beside (a b : List ℤ) (s t : Side) : Type 0 where
  pub place : At a b (walk_of s t false)
  pub three : 2 < length (points b)
  pub first-side : Carried a s
  pub second-side : Carried b t
  pub left-so-far : LeftUpTo (points a) (points b) t.at

pub beside-start : {a b : List ℤ} {s t : Side} → Valid a → Valid b → 2 < length (points b) → s.at ≡ 0 → t.at ≡ 0
    → Carried a s → Carried b t → Beside a b s t
beside-start {a} {b} {s} {t} v w three h k f g = record {
  place = subst (At a b) (sym (sides-walk begun s t h k)) (at-begin a b v w);
  three = three;
  first-side = f;
  second-side = g;
  left-so-far = subst (LeftUpTo (points a) (points b)) (sym k) (left-start (points a) (points b));
}

abbrev pub is_right : Side → Side → Bool
is_right s t = lt_z (cross (next_of t) (corner_of s ⊖ corner_of t)) (pos 0)

-- a step that goes on by one passes the edge
onward-taken : (E : List Point) (i : ℕ) (F : List Point) (j : ℕ) → passed E i F j ≡ i + 1 → Taken E i F j
onward-taken E i F j e = go (takes E i F j) refl e
  where
    go : (b : Bool) → takes E i F j ≡ b → cond b (i + 1) i ≡ i + 1 → Taken E i F j
    go true p q = takes-taken E i F j p
    go false p q = absurd (omega arith)

module _ {a b : List ℤ} {s t : Side} (p : Beside a b s t) where
  abbrev A : List Point
  A = points a

  abbrev B : List Point
  B = points b

  sides : length (edges B) ≡ length B
  sides = edges_some B (omega (arith, p.three))

  pub beside-all : length B ≤ t.at → inside A B ≡ true
  beside-all h = left-all A B p.place.first-shape p.place.second-shape p.left-so-far h p.three

  module _ (there : t.at < length B) where
    -- the turn of the corner at hand against the next edge of b
    turned : is_right s t ≡ lt_z (turn (corner B t.at) (corner B (next (length B) t.at)) (corner_round A s.at)) (pos 0)
    turned = ap₂ (λ (e d : Point). lt_z (cross e d) (pos 0)) p.second-side.edge-is
        (ap₂ (λ (u v : Point). u ⊖ v) p.first-side.corner-is p.second-side.corner-is)
        ∙ ap (λ (z : ℤ). lt_z z (pos 0)) (cross-edge B t.at (corner_round A s.at) (omega (arith, sides)))

    pub beside-right : is_right s t ≡ true → inside A B ≡ false
    beside-right h = right-outside A B p.place.first-shape p.place.second-shape s.at t.at
        (omega (arith, p.first-side.at_in, edges-at-most A)) there (lt_z-true (sym turned ∙ h))

    module _ (m n : Side) {c : ℤ} (is : c ≡ cross (next_of s) (next_of t))
        (i : m.at ≡ cond (lt_z c (pos 0)) s.at (onward A s.at)) (j : n.at ≡ cond (lt_z (pos 0) c) t.at (onward B t.at)) where
      steps : walk_of m n (Walk.finished A m.at B n.at) ≡ advanced A B (walk_of s t false)
      steps = sides-advanced p.place p.first-side p.second-side is m n i j refl

      first_step : m.at ≡ passed (edges A) s.at (edges B) t.at
      unfolding advanced Walk.passed
      first_step = ap (λ (w : Walk). w.i) steps

      second-step : n.at ≡ passed (edges B) t.at (edges A) s.at
      unfolding advanced Walk.passed
      second-step = ap (λ (w : Walk). w.j) steps

      -- one edge at least is passed
      pub beside-less : length (edges A) - m.at + (length (edges B) - n.at) < length (edges A) - s.at + (length (edges B) - t.at)
      beside-less = edges-less (edges A) (edges B) s.at t.at first_step second-step (λ h k. omega (arith, sides))

      more_left : (le_z c (pos 0) ≡ true → is_right s t ≡ false) → LeftUpTo A B n.at
      more_left asked = go (lt_z (pos 0) c) refl
        where
          at_next : {w : Bool} → lt_z (pos 0) c ≡ w → n.at ≡ cond w t.at (onward B t.at)
          at_next e = j ∙ ap (λ (w : Bool). cond w t.at (onward B t.at)) e

          go : (w : Bool) → lt_z (pos 0) c ≡ w → LeftUpTo A B n.at
          go true e = subst (LeftUpTo A B) (sym (at_next e)) p.left-so-far
          go false e =
              let one : n.at ≡ t.at + 1 = at_next e ∙ onward-inner B t.at (omega (arith, sides)) in
              let taken = onward-taken (edges B) t.at (edges A) s.at (sym second-step ∙ one) in
              subst (LeftUpTo A B) (sym one) (left-more A B p.place.first-shape p.place.second-shape p.left-so-far
              p.place.standing taken (lt_z-false (sym turned ∙ asked (le-le_z {x = c} {y = pos 0} (lt_z-false e)))))

      pub beside-more : Carried a m → Carried b n → (le_z c (pos 0) ≡ true → is_right s t ≡ false) → Beside a b m n
      beside-more f g asked = record {
        place = sides-at p.place p.first-side p.second-side is m n i j;
        three = p.three;
        first-side = f;
        second-side = g;
        left-so-far = more_left asked;
      }
