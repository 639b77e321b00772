-- A walk one way round, as long as the next corner draws the line's start on: where it ends, the start rests.
--     slid-rests     it has moved, or the corner on the other way round does not draw either
--     slid-back      so it is after a walk the other way, where the first did not move
use Rattle.std.specs.Prelude.{◌≡◌, Bool, true, false, not, List, ℕ, length}
use Rattle.std.proofs.Common.{sym, ◌∙◌, subst}
use Rattle.plane.specs.Point.{Point, corner}
use Rattle.plane.specs.Shape.{IsShape}
use Rattle.tangents.specs.Draws.{draws, Facing, Rests, Beside, Undrawn, Came, stayed, moved, Slid}
use Rattle.tangents.specs.theory.NeighboursSuffice.{better-rests}
use Rattle.tangents.specs.theory.SettledExists.{not_back}

-- beside on the one way is beside on the other, the corners exchanged
turned : (forward : Bool) (n i k : ℕ) → Beside forward n k i → Beside (not forward) n i k
turned true n i k e = sym e
turned false n i k e = sym e

module _ (s : Bool) (ps : List Point) (shape : IsShape ps) (q : Point) (facing : Facing ps q) where
  both : (forward : Bool) (i : ℕ) → Undrawn s forward ps q i → Undrawn s (not forward) ps q i → Rests s ps i q
  both true i u v = (better-rests s ps shape q facing v.other i v.other-in v.beside v.undrawn
      (subst (λ k. draws s (corner ps i) q (corner ps k) ≡ false) u.beside u.undrawn))
  both false i u v = (better-rests s ps shape q facing u.other i u.other-in u.beside u.undrawn
      (subst (λ k. draws s (corner ps i) q (corner ps k) ≡ false) v.beside v.undrawn))

  pub slid-rests : (forward : Bool) (from i : ℕ) → Slid s forward ps q from i → (i ≡ from → Undrawn s (not forward) ps q i)
      → Rests s ps i q
  slid-rests forward from i w other = both forward i w.ends (go w.came)
    where
      go : Came s forward ps q from i → Undrawn s (not forward) ps q i
      go (stayed e) = other e
      go (moved k h b e) = record {
        other = k;
        other-in = h;
        beside = turned forward (length ps) i k b;
        undrawn = not_back facing s k i h w.within e;
      }

  pub slid-back : (forward : Bool) (from j i : ℕ) → Slid s forward ps q from j → j ≡ from → Slid s (not forward) ps q from i
      → Rests s ps i q
  slid-back true from j i first e second = slid-rests false from i second (λ f. subst (Undrawn s true ps q) (e ∙ sym f) first.ends)
  slid-back false from j i first e second = slid-rests true from i second (λ f. subst (Undrawn s false ps q) (e ∙ sym f) first.ends)
