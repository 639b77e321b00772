-- A pair of corners that nothing draws away, at either end of the line: there is one.
--     Settled s t A B i j      corner i of A rests against corner j of B, and corner j against corner i, the line turned round
--     rises, facing, facing-back      lists that are apart: each line rises, and each list faces the corners of the other
--     rest-trans, rest-exists  a walk from corner to corner that each draws ends, at a corner that rests
--     rest-same                only one does; `not_back`: the walk is not drawn back
--     settled-exists           so there is a settled pair
use Rattle.std.specs.Prelude.{◌≡◌, Bool, true, false, not, List, [], ◌∷◌, length}
use Rattle.std.proofs.Math.Path.{refl}
use Rattle.std.proofs.Common.{ap, arith}
use Prim.Native.Nat.{ℕ, ◌<◌}
use Rattle.std.proofs.lemmas.Bool.{not-true}
use Rattle.integer.specs.Linear.{linear, lia, ◌&◌}
use Rattle.plane.specs.Point.{Point, origin, opposite, corner, ◌⊖◌}
use Rattle.plane.specs.Search.{some, first}
use Rattle.plane.specs.Direction.{value}
use Rattle.plane.proofs.theory.lists.Members.{position-member}
use Rattle.plane.proofs.theory.lists.Sought.{some-none, none-some, first-at-most, first-true, true-not-false}
use Rattle.plane.proofs.theory.forms.Vector.{value-origin}
use Rattle.separation.specs.theory.Apart.{Separated}
use Rattle.tangents.specs.Draws.{draws, Facing, Rests}
use Rattle.tangents.specs.theory.FiniteOrder.{last_of}
use Rattle.tangents.specs.theory.DrawsTest.{Rises, rise-back, value-back, draws→stays, draws→drawn}
use Rattle.tangents.specs.theory.DrawsOrder.{draws-self, draws-trans, stays_same}
use Rattle.tangents.specs.theory.EndStays.{end_stays}

pub record Settled (s t : Bool) (A B : List Point) (i j : ℕ) : Type 0 where
  pub from : Rests s A i (corner B j)
  pub to : Rests (not t) B j (corner A i)

-- ---- one list, and a point that it faces

module _ {ps : List Point} {q : Point} (facing : Facing ps q) where
  rise-to : (i : ℕ) → i < length ps → Rises facing.direction (corner ps i) q
  rise-to i h = record { up = facing.below i h }

  pub rest-trans : (s : Bool) (i j k : ℕ) → i < length ps → j < length ps → k < length ps
      → draws s (corner ps i) q (corner ps j) ≡ true → draws s (corner ps j) q (corner ps k) ≡ true
      → draws s (corner ps i) q (corner ps k) ≡ true
  rest-trans s i j k h l m e f = draws-trans (rise-to i h) (rise-to j l) (rise-to k m) s e f

  -- a corner is not drawn back to where it was drawn from
  pub not_back : (s : Bool) (i j : ℕ) → i < length ps → j < length ps → draws s (corner ps i) q (corner ps j) ≡ true
      → draws s (corner ps j) q (corner ps i) ≡ false
  not_back s i j h l e = go (draws s (corner ps j) q (corner ps i)) refl
    where
      go : (b : Bool) → draws s (corner ps j) q (corner ps i) ≡ b → b ≡ false
      go false f = refl
      go true f = true-not-false (rest-trans s i j i h l h e f) (draws-self s (corner ps i) q)

  pub rest-exists : (s : Bool) → 0 < length ps → (i : ℕ) × Rests s ps i q
  rest-exists s some =
      let (i, h, f) = last_of (λ i k. draws s (corner ps i) q (corner ps k)) (length ps) (λ i h. draws-self s (corner ps i) q)
      (rest-trans s) some in (i, record { within = h; undrawn = f })

  pub rest-same : {s : Bool} {i k : ℕ} → Rests s ps i q → Rests s ps k q → corner ps k ≡ corner ps i
  rest-same {s} {i} {k} r p = stays_same (rise-to i r.within)
      (draws→stays s (corner ps k) (rise-to i r.within) (r.undrawn k p.within))
      (draws→stays s (corner ps i) (rise-to k p.within) (p.undrawn i r.within))

-- the first corner of ps that rests against q
foremost : Bool → List Point → Point → ℕ
foremost s ps q = first (λ i. not (some (λ k. draws s (corner ps i) q (corner ps k)) (length ps))) (length ps)

foremost-rests : (s : Bool) (ps : List Point) (q : Point) → Facing ps q → 0 < length ps → Rests s ps (foremost s ps q) q
unfolding foremost
foremost-rests s ps q f h =
    let (i, r) = rest-exists f s h in
    let found = first-at-most rests (length ps) i (ap not (none-some (drawn i) (length ps) r.undrawn)) in
    let within : foremost s ps q < length ps = omega (arith, r.within) in
    record { within = within; undrawn = some-none (drawn _) (length ps) (not-true _ (first-true rests (length ps) within)) }
  where
    drawn : ℕ → ℕ → Bool
    drawn i k = draws s (corner ps i) q (corner ps k)

    rests : ℕ → Bool
    rests i = not (some (λ k. draws s (corner ps i) q (corner ps k)) (length ps))

-- ---- two lists that are apart

module _ {A B : List Point} (sep : Separated A B) where
  pub rises : (i j : ℕ) → i < length A → j < length B → Rises sep.direction (corner A i) (corner B j)
  rises i j h l = record { up = sep.below _ _ (position-member A i h) (position-member B j l) }

  pub facing : (j : ℕ) → j < length B → Facing A (corner B j)
  facing j l = record { direction = sep.direction; below = λ k h. (rises k j h l).up }

  pub facing-back : (i : ℕ) → i < length A → Facing B (corner A i)
  facing-back i h = record { direction = opposite sep.direction; below = λ k l. (rise-back (rises i k h l)).up }

  module _ (s t : Bool) (a : 0 < length A) (b : 0 < length B) where
    -- for each corner of B the start that rests, and the step from there
    start : ℕ → ℕ
    start j = foremost s A (corner B j)

    step : ℕ → Point
    step j = corner B j ⊖ corner A (start j)

    rests : (j : ℕ) → j < length B → Rests s A (start j) (corner B j)
    unfolding start
    rests j l = foremost-rests s A (corner B j) (facing j l) a

    climbs : (j : ℕ) → j < length B → Rises (opposite sep.direction) (step j) origin
    unfolding step
    climbs j l =
        let d = sep.direction in
        let p = corner A (start j) in
        let q = corner B j in
        record {
          up = lia (value d p ∷ value d q ∷ value (opposite d) (q ⊖ p) ∷ value (opposite d) origin ∷ [])
              ((rises (start j) j (rests j l).within l).up & value-back d p q & value-origin (opposite d))
              (search linear depth 40) (omega arith);
        }

    -- the corner of B whose step no other draws away
    end : (j : ℕ) × (j < length B) × ((k : ℕ) → k < length B → draws (not t) (step j) origin (step k) ≡ false)
    end = last_of (λ j k. draws (not t) (step j) origin (step k)) (length B) (λ j h. draws-self (not t) (step j) origin)
        (λ i j k h l m e f. draws-trans (climbs i h) (climbs j l) (climbs k m) (not t) e f) b

    end-rests : (k : ℕ) → k < length B → draws (not t) (corner B end.0) (corner A (start end.0)) (corner B k) ≡ false
    unfolding step
    end-rests k l = go (draws (not t) (corner B j) (corner A (start j)) (corner B k)) refl
      where
        j : ℕ
        j = end.0

        go : (u : Bool) → draws (not t) (corner B j) (corner A (start j)) (corner B k) ≡ u → u ≡ false
        go false e = refl
        go true e =
            let here = rises (start j) j (rests j end.1).within end.1 in
            let there = rises (start k) k (rests k l).within l in
            absurd (end_stays here (rises (start j) k (rests j end.1).within l) there
            (draws→stays s _ here ((rests j end.1).undrawn (start k) (rests k l).within))
            (draws→stays s _ there ((rests k l).undrawn (start j) (rests j end.1).within))
            (draws→stays (not t) _ (climbs j end.1) (end.2 k l))
            (draws→drawn (not t) _ (rise-back here) e))

    pub settled-exists : (i : ℕ) × (j : ℕ) × Settled s t A B i j
    settled-exists =
        let j = end.0 in
        (start j, j, record { from = rests j end.1; to = record { within = end.1; undrawn = end-rests } })
