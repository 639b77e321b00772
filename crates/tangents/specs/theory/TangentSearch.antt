-- The search for a tangent: for each corner of the second list in turn, the start that rests against it.
--     Searching s t A B from to      the search has come to corner `to` of B, not past the tangent's end
--     search-start, -more, -below    its moves
--     ready-start, ready-end         what the two walks of a turn ask, at any two corners
--     both_rest                      ends that both rest are the tangent's
--     tangent-within                 the tangent's ends are positions of the two lists
use Rattle.std.specs.Prelude.{◌≡◌, Bool, true, false, not, Some, List, ℕ, ◌+◌, ◌≤◌, ◌<◌, ℤ, length}
use Rattle.std.proofs.Common.{sym, ◌∙◌, ap, subst, zero-le, arith}
use Rattle.std.proofs.Math.Decide.{ℕ_discrete}
use Rattle.plane.specs.Point.{Point, points, corner}
use Rattle.plane.specs.Refusal.{Valid}
use Rattle.plane.specs.Separation.{apart}
use Rattle.plane.specs.Tangent.{tangent_from, tangent_to}
use Rattle.plane.proofs.theory.lists.Sought.{true-not-false}
use Rattle.polygon.specs.theory.Small.{small-corner}
use Rattle.separation.specs.theory.Apart.{Separated, apart→direction}
use Rattle.tangents.specs.Draws.{draws, Facing, Rests, Better, Ready}
use Rattle.tangents.specs.theory.SettledExists.{Settled, facing, facing-back, rest-same}
use Rattle.tangents.specs.theory.TangentUnique.{settled-from, settled-to, tangent-is-settled}

pub record Searching (s t : Bool) (A B : List Point) (from to : ℕ) : Type 0 where
  pub start : from < length A
  pub not-past : to ≤ tangent_to s t A B

module _ (s t : Bool) {a b : List ℤ} (v : Valid a) (w : Valid b) (h : apart (points a) (points b) ≡ true) where
  abbrev A : List Point
  A = points a

  abbrev B : List Point
  B = points b

  separated : Separated A B
  separated = apart→direction A B v.shape.some w.shape.some h

  sought : Settled s t A B (tangent_from s t A B) (tangent_to s t A B)
  sought = tangent-is-settled s t A B v.shape w.shape h

  pub tangent-within : (tangent_from s t A B < length A) × (tangent_to s t A B < length B)
  tangent-within = (sought.from.within, sought.to.within)

  pub search-start : Searching s t A B 0 0
  search-start = record { start = v.shape.some; not-past = zero-le }

  pub search-below : {from to : ℕ} → Searching s t A B from to → to < length B
  search-below g = omega (arith, g.not-past, sought.to.within)

  module _ {from to : ℕ} (start : from < length A) (below : to < length B) where
    pub ready-start : {q : Point} → q ≡ corner B to → Ready a from q
    ready-start e = record {
      valid = v;
      within = start;
      small = small-corner b w.in_range to below e;
      facing = subst (Facing A) (sym e) (facing separated to below);
    }

    module _ {p q : Point} {i : ℕ} (e : q ≡ corner B to) (r : Rests s A i q) (f : p ≡ corner A i) where
      pub ready-end : Ready b to p
      ready-end = record {
        valid = w;
        within = below;
        small = small-corner a v.in_range i r.within f;
        facing = subst (Facing B) (sym f) (facing-back separated i r.within);
      }

      pub both_rest : Rests (not t) B to p → (i ≡ tangent_from s t A B) × (to ≡ tangent_to s t A B)
      both_rest u =
          let settled : Settled s t A B i to = record { from = subst (Rests s A i) e r; to = subst (Rests (not t) B to) f u } in
          (sym (settled-from separated settled v.shape w.shape), sym (settled-to separated settled v.shape w.shape))

      -- at the tangent's end the start would be the tangent's, and nothing draws the end away
      end-rests : to ≡ tangent_to s t A B → (k : ℕ) → k < length B → draws (not t) (corner B to) p (corner B k) ≡ false
      end-rests n k l =
          let same = rest-same (facing separated _ sought.to.within) sought.from
          (subst (λ j. Rests s A i (corner B j)) n (subst (Rests s A i) e r)) in
          ap (λ j. draws (not t) (corner B j) p (corner B k)) n
          ∙ ap (λ x. draws (not t) (corner B (tangent_to s t A B)) x (corner B k)) (f ∙ same) ∙ sought.to.undrawn k l

      pub search-more : {k : ℕ} → Searching s t A B from to → Better (not t) B to p (Some k) → Searching s t A B i (to + 1)
      search-more {k} g (within, drawn) = record { start = r.within; not-past = go (ℕ_discrete to (tangent_to s t A B)) }
        where
          go : Dec (to ≡ tangent_to s t A B) → to + 1 ≤ tangent_to s t A B
          go (yes n) = true-not-false drawn (end-rests n k within)
          go (no n) = omega (arith, g.not-past)
