-- A sum while it is written, from a place on: a walk (`Walked`), and its corners at the front of the output.
--     Progress a b old w k count s t out     `count` of the next corners are written, and the walk with these sides is as far
--     progress_start, -more                  its moves: nothing yet, one corner more
--     progress-part, part-progress           what is written so far, as an equation, and back
--     progress-done                          its end: the next corners are written, and all after them is kept
--     progress-length, -kept                 the output stays as long as it is
--     progress-room                          there is room for a corner
use mathlib.Core.Path.{◌≡◌, refl, sym, ◌∙◌, ap, ap₂, subst}
use mathlib.Core.Bool.{Bool}
use mathlib.Core.List.{List, [], ◌∷◌, ◌++◌}
use Prim.Native.Nat.{ℕ, zero, suc, ◌+◌, ◌*◌, ◌≤◌, ◌<◌}
use native.Mathlib.Omega.{arith}
use lib.IntN.{ℤ}
use lib.ListN.{length, take, drop, set, length-set}
use lib.Seq.{length-take-le}
use Rattle.plane.specs.Point.{Point, points, numbers, ◌⊕◌}
use Rattle.plane.specs.Output.{overwritten}
use Rattle.plane.proofs.theory.lists.Flat.{numbers-length}
use Rattle.plane.proofs.theory.lists.Filled.{Filled, filled-start, filled-corner, filled-length, filled-done}
use Rattle.polygon.specs.Point.{stored}
use Rattle.calipers.specs.declared.side.Side.{Side}
use Rattle.sums.specs.declared.walk.Advance.{Advance}
use Rattle.calipers.specs.Side.{corner_of, walk_of}
use Rattle.sums.specs.Advance.{next_corners, reached, Walked, Advanced}
use Rattle.calipers.specs.Walk.{Walk, stepped}
use Rattle.sums.proofs.Walked.{Ended, walked-below, walked_here}

pub record Progress (a b old : List ℤ) (w : Walk) (k count : ℕ) (s t : Side) (out : List ℤ) : Type 0 where
  pub walked : Walked a b w k count s t
  pub room : 2 * length (next_corners a b w k) ≤ length old
  pub front : Filled old (numbers (next_corners a b w k)) (2 * count) out

-- the numbers of the first corners are the first numbers
numbers-take : (n : ℕ) (ps : List Point) → n ≤ length ps → numbers (take n ps) ≡ take (2 * n) (numbers ps)
numbers-take zero ps h = refl
numbers-take (suc n) [] h = absurd (omega arith)
numbers-take (suc n) (p ∷ ps) h =
    let twice : suc (suc (2 * n)) ≡ 2 * suc n = omega arith in
    ap (λ (l : List ℤ). p.x ∷ p.y ∷ l) (numbers-take n ps (omega arith))
    ∙ ap (λ (m : ℕ). take m (p.x ∷ p.y ∷ numbers ps)) twice

-- what is written so far, in two ways
part-front : (n : ℕ) (ps : List Point) (old : List ℤ) → n ≤ length ps
    → take (2 * n) (numbers ps) ++ drop (2 * n) old ≡ overwritten (numbers (take n ps)) old
unfolding overwritten
part-front n ps old h =
    let all : 2 * n ≡ length (numbers (take n ps)) = omega (arith, numbers-length (take n ps), length-take-le n ps h) in
    ap₂ (λ (l : List ℤ) (m : ℕ). l ++ drop m old) (sym (numbers-take n ps h)) all

module _ {a b old : List ℤ} {w : Walk} {k : ℕ} where
  pub part-progress : {count : ℕ} {s t : Side} {out : List ℤ} → Walked a b w k count s t → 2 * length (next_corners a b w k) ≤ length old
      → out ≡ overwritten (numbers (take count (next_corners a b w k))) old → Progress a b old w k count s t out
  part-progress {count} p r e = record {
    walked = p;
    room = r;
    front = record { front = e ∙ sym (part-front count (next_corners a b w k) old (omega (arith, walked-below p))) };
  }

  pub progress_start : {s t : Side} → Walked a b w k 0 s t → 2 * length (next_corners a b w k) ≤ length old → Progress a b old w k 0 s t old
  progress_start p r = record { walked = p; room = r; front = filled-start old _ }

  module _ {count : ℕ} {s t : Side} {out : List ℤ} (p : Progress a b old w k count s t out) where
    pub progress-length : length out ≡ length old
    progress-length = filled-length p.front (omega (arith, walked-below p.walked, numbers-length (next_corners a b w k)))
        (omega (arith, walked-below p.walked, p.room))

    pub progress-part : out ≡ overwritten (numbers (take count (next_corners a b w k))) old
    progress-part = p.front.front ∙ part-front count (next_corners a b w k) old (omega (arith, walked-below p.walked))

    pub progress-room : 2 * count + 1 < length out
    progress-room = omega (arith, progress-length, walked-below p.walked, p.room)

    -- the corner at hand is written
    module _ {q : Point} (hq : q ≡ corner_of s ⊕ corner_of t) {new : List ℤ} (ho : new ≡ stored out count q) where
      pub progress-kept : length new ≡ length old
      progress-kept = ap length ho ∙ length-set (set out (2 * count) q.x) (2 * count + 1) q.y
          ∙ length-set out (2 * count) q.x ∙ progress-length

      filled : Filled old (numbers (next_corners a b w k)) (2 * (count + 1)) new
      filled =
          let here = hq ∙ walked_here p.walked in
          subst (Filled old _ _) (sym ho) (filled-corner (next_corners a b w k) count p.front (walked-below p.walked)
          (omega (arith, p.room, numbers-length (next_corners a b w k)))
          (ap (λ (r : Point). r.x) here) (ap (λ (r : Point). r.y) here))

      pub progress-more : {m n : Side} → Walked a b w k (count + 1) m n → Progress a b old w k (count + 1) m n new
      progress-more v = record { walked = v; room = p.room; front = filled }

      -- all that is to write is written
      pub progress-done : {m n : Side} {over : Bool} → Ended a b w k (count + 1) m n over → (r : Advance) → r.count ≡ count + 1
          → reached r ≡ walk_of m n over
          → Advanced a b w k r × (new ≡ overwritten (numbers (next_corners a b w k)) old)
      progress-done e r h l = (
        record {
          counted = h ∙ e.counted;
          moved = l ∙ e.reaches ∙ ap (λ (n : ℕ). stepped (points a) (points b) n w) (sym h);
        },
        filled-done filled (omega (arith, e.counted, numbers-length (next_corners a b w k))),
      )
