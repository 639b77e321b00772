-- A walk under way from a place (`Walked`), with carried sides: the invariant of every loop that goes round two shapes, and its moves.
--     walked_start, -more          its moves: nothing yet, one corner more; `walked-inside`: one more where edges are left
--     walked-over, -spent          its ends: no edge is left, or k corners are passed; `Ended`: these are all the next corners
--     side_of-carried, walked-with  the side at a position is carried; a walk with other sides at the same positions
--     edges-sum                    the edges of both lists together are a number that fits; `all_edges`: the ends of both sides
--     walked_at, -below, -here     the walk is at a place; a corner is to come, and the two sides are at it
use mathlib.Core.Path.{◌≡◌, refl, sym, ◌∙◌, ap, subst}
use mathlib.Core.Bool.{Bool, true, false, cond}
use mathlib.Core.List.{List}
use Prim.Native.Nat.{ℕ, ◌+◌, ◌^◌, ◌≤◌, ◌<◌, zero-le}
use native.Mathlib.Numerals.{add-one}
use native.Mathlib.Omega.{arith}
use borrow.Author.Tests.{ltb-true, ltb-false}
use lib.Dec.{ltb}
use lib.IntN.{ℤ, pos}
use lib.ListN.{length, take, length-take, length-drop}
use lib.Seq.{length-take-le, take_all, get_or-take}
use lib.Signed.{lt_z}
use Rattle.plane.specs.Point.{Point, points, corner, origin, ◌⊕◌}
use Rattle.plane.specs.Turn.{cross}
use Rattle.plane.specs.Forms.{edges}
use Rattle.plane.proofs.theory.lists.Flat.{points-length}
use Rattle.plane.proofs.theory.sum.Positions.{edges-at-most}
use Rattle.calipers.specs.declared.side.Side.{Side}
use Rattle.calipers.specs.Side.{corner_of, next_of, onward, Carried, walk_of}
use Rattle.sums.specs.Advance.{state, side_of, next_corners, Walked}
use Rattle.calipers.specs.Walk.{Walk, here, finished, advanced, stepped, remaining, At}
use Rattle.calipers.specs.theory.Sides.{onward-end, onward-inner}
use Rattle.calipers.specs.theory.Carry.{all-passed, some_left, sides-walk, sides-here, sides-advanced}
use Rattle.calipers.specs.theory.Steps.{remaining-here, remaining-over, at-stepped, remaining-stepped, here-stepped}

-- these corners are all that are next, and the walk is after them
pub record Ended (a b : List ℤ) (w : Walk) (k count : ℕ) (s t : Side) (over : Bool) : Type 0 where
  pub counted : count ≡ length (next_corners a b w k)
  pub reaches : walk_of s t over ≡ stepped (points a) (points b) count w

-- no more than one edge is passed in a step
passed-one : (A : List Point) (waits : Bool) (i m : ℕ) → m ≡ cond waits i (onward A i) → m ≤ i + 1
passed-one A true i m e = omega (arith, e)
passed-one A false i m e = go (ltb i (length (edges A))) refl
  where
    go : (t : Bool) → ltb i (length (edges A)) ≡ t → m ≤ i + 1
    go true q = omega (arith, e ∙ onward-inner A i (ltb-true i (length (edges A)) q))
    go false q = omega (arith, e ∙ onward-end A i (ltb-false i (length (edges A)) q))

pub side_of-carried : (l : List ℤ) (i : ℕ) → i ≤ length (edges (points l)) → Carried l (side_of l i)
side_of-carried l i h = record { at_in = h; end_is = refl; corner-is = refl; edge-is = refl }

pub edges-sum : (a b : List ℤ) → length a < 2 ^ 63 → length b < 2 ^ 63
    → length (edges (points a)) + length (edges (points b)) < 2 ^ 63
edges-sum a b h l = omega (arith, h, l, edges-at-most (points a), edges-at-most (points b), points-length a, points-length b)

pub all_edges : {a b : List ℤ} {s t : Side} → Carried a s → Carried b t
    → s.end + t.end ≡ length (edges (points a)) + length (edges (points b))
all_edges u v = omega (arith, u.end_is, v.end_is)

-- how many of the corners to come are next
taken-below : (k n : ℕ) (ps : List Point) → n < k → n < length ps → n < length (take k ps)
taken-below k n ps h l = omega (arith, length-take k ps)

module _ {a b : List ℤ} {k : ℕ} where
  pub walked_start : (i j : ℕ) → At a b (state i j false) → 0 < k → (s t : Side) → s.at ≡ i → t.at ≡ j → Carried a s → Carried b t
      → Walked a b (state i j false) k 0 s t
  walked_start i j p some s t h l u v = record {
    start = p;
    within = zero-le;
    few = some;
    moved = sides-walk (state i j false) s t h l;
    first-side = u;
    second-side = v;
  }

  module _ {w : Walk} {count : ℕ} {s t : Side} (p : Walked a b w k count s t) where
    pub walked-with : (m n : Side) → m.at ≡ s.at → n.at ≡ t.at → Carried a m → Carried b n → Walked a b w k count m n
    walked-with m n i j u v = record {
      start = p.start;
      within = p.within;
      few = p.few;
      moved = sides-walk (walk_of s t false) m n i j ∙ p.moved;
      first-side = u;
      second-side = v;
    }

    abbrev coming : List Point
    coming = remaining (points a) (points b) w

    pub walked_at : At a b (walk_of s t false)
    walked_at = subst (At a b) (sym p.moved) (at-stepped a b w p.start count)

    -- a corner is to come: the walk is not over
    more-coming : count < length coming
    more-coming = omega (
      arith,
      ap length (sym (remaining-stepped a b w p.start count p.within) ∙ ap (remaining (points a) (points b)) (sym p.moved)
          ∙ remaining-here a b (walk_of s t false) walked_at refl),
      length-drop count coming,
    )

    pub walked-below : count < length (next_corners a b w k)
    walked-below = taken-below k count coming p.few more-coming

    pub walked_here : corner_of s ⊕ corner_of t ≡ corner (next_corners a b w k) count
    walked_here = sides-here walked_at p.first-side p.second-side ∙ ap (here (points a) (points b)) p.moved
        ∙ here-stepped a b w p.start count more-coming ∙ sym (get_or-take k coming count origin p.few)

    -- the sides go on
    module _ {c : ℤ} (is : c ≡ cross (next_of s) (next_of t)) (m n : Side)
        (i : m.at ≡ cond (lt_z c (pos 0)) s.at (onward (points a) s.at))
        (j : n.at ≡ cond (lt_z (pos 0) c) t.at (onward (points b) t.at)) (u : Carried a m) (v : Carried b n) where
      after : walk_of m n (finished (points a) m.at (points b) n.at) ≡ stepped (points a) (points b) (count + 1) w
      after = sides-advanced walked_at p.first-side p.second-side is m n i j refl ∙ ap (advanced (points a) (points b)) p.moved
          ∙ ap (λ (l : ℕ). stepped (points a) (points b) l w) (sym (add-one count))

      ended : {over : Bool} → finished (points a) m.at (points b) n.at ≡ over → count + 1 ≡ length (next_corners a b w k)
          → Ended a b w k (count + 1) m n over
      ended o e = record { counted = e; reaches = ap (walk_of m n) (sym o) ∙ after }

      module _ (more : m.at + n.at ≡ length (edges (points a)) + length (edges (points b)) → ⊥) where
        pub walked_more : (count + 1 ≡ k → ⊥) → Walked a b w k (count + 1) m n
        walked_more other = record {
          start = p.start;
          within = omega (arith, more-coming);
          few = omega (arith, other, p.few);
          moved = ap (walk_of m n) (sym (some_left (points a) (points b) m.at n.at more)) ∙ after;
          first-side = u;
          second-side = v;
        }

        pub walked-spent : count + 1 ≡ k → Ended a b w k (count + 1) m n false
        walked-spent all = ended (some_left (points a) (points b) m.at n.at more)
            (all ∙ sym (length-take-le k coming (omega (arith, more-coming))))

      -- both shapes have three edges left before the step: some are left after it
      pub walked-inside : s.at + 2 < s.end → t.at + 2 < t.end → count + 1 < k → Walked a b w k (count + 1) m n
      walked-inside h l q = walked_more (λ e. omega (
        arith,
        e,
        h,
        l,
        passed-one (points a) (lt_z c (pos 0)) s.at m.at i,
        passed-one (points b) (lt_z (pos 0) c) t.at n.at j,
        p.first-side.end_is,
        p.second-side.end_is,
      )) (λ e. omega (arith, e, q))

      pub walked-over : m.at + n.at ≡ length (edges (points a)) + length (edges (points b)) → Ended a b w k (count + 1) m n true
      walked-over all =
          let over = all-passed (points a) (points b) m.at n.at u.at_in v.at_in all in
          let none = ap length (sym (remaining-stepped a b w p.start (count + 1) (omega (arith, more-coming)))
          ∙ ap (remaining (points a) (points b)) (sym after) ∙ remaining-over (points a) (points b) _ over) in
          let few : length coming ≤ count + 1 = omega (arith, none, length-drop (count + 1) coming) in
          ended over (omega (arith, few, more-coming, ap length (take_all k coming (omega (arith, p.few)))))
