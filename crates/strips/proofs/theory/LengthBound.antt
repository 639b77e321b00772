-- Length in every direction (000, theorem 2.1.1).
--     length-every        the spread in a direction, squared, is at most the length times the direction's squared length
--     length-attains      the direction from one corner of the answered pair to the other has the length as its spread
--     answered-longest    the same of an answer
use Rattle.std.specs.Prelude.{◌≡◌, List, [], ◌∷◌, ℕ, ◌<◌, ℤ, pos, ◌+ℤ◌, ◌*ℤ◌, length, ◌≤ℤ◌}
use Rattle.std.proofs.Common.{sym, subst, ◌∙◌, arith}
use Rattle.integer.specs.Linear.{linear, lia, ◌&◌}
use Rattle.integer.specs.Order.{◌≤×≤◌, ◌<×≤◌, ◌<×<◌, square-nonneg, le_antisym, contra≤}
use Rattle.plane.specs.Point.{Point, points, corner, ◌⊖◌}
use Rattle.plane.specs.Turn.{cross}
use Rattle.plane.specs.Reply.{answered}
use Rattle.plane.specs.Direction.{value}
use Rattle.plane.specs.Measure.{length_squared, length_from, length_to}
use Rattle.plane.specs.Floor.{Floored}
use Rattle.plane.specs.Question.{reply, ask_length}
use Rattle.plane.proofs.theory.forms.Squared.{squared-value}
use Rattle.plane.proofs.theory.forms.Vector.{value-⊖, value-nonneg}
use Rattle.plane.proofs.theory.lists.Members.{position-member, member-position}
use Rattle.plane.proofs.theory.refusals.Asked.{asked-values, asked-shapes}
use Rattle.measure.specs.theory.Longest.{squared-le-length, length-longest}
use Rattle.clearance.specs.theory.Bound.{lagrange}
use Rattle.strips.specs.Strip.{spread}
use Rattle.strips.proofs.theory.Spread.{spread-above, spread-attained}

-- s·s + c·c = D·m, and m is at most L
below : (s c D m L : ℤ) → (s *ℤ s +ℤ c *ℤ c) ≡ D *ℤ m → pos 0 ≤ℤ D → m ≤ℤ L → (s *ℤ s) ≤ℤ (L *ℤ D)
below s c D m L e n h = lia (s ∷ c ∷ D ∷ m ∷ L ∷ []) (e & square-nonneg c & n ≤×≤ h) (search linear depth 40) (omega arith)

-- s·s is at most L-as-L, for numbers not below 0
root-le : (s L : ℤ) → pos 0 ≤ℤ L → (s *ℤ s) ≤ℤ (L *ℤ L) → s ≤ℤ L
root-le s L n h = contra≤ (λ g. lia (s ∷ L ∷ []) (h & n & g <×< g & g <×≤ n) (search linear depth 40) (omega arith))

module _ (ps : List Point) (some : 0 < length ps) where
  -- two corners are as far apart in d as the spread says, and by Lagrange's identity no further than their distance allows
  pub length-every : (d : Point) → (spread d ps *ℤ spread d ps) ≤ℤ (length_squared ps *ℤ value d d)
  length-every d =
      let (p, q, m, n, e) = spread-attained d ps some in
      let (i, hi, pi) = member-position m in
      let (j, hj, qj) = member-position n in
      let step = p ⊖ q in
      let far : value step step ≤ℤ length_squared ps =
      rw (← squared-value q p, ← pi, ← qj) (squared-le-length ps j i hj hi) in
      let same : value d step ≡ spread d ps = value-⊖ d p q ∙ e in
      rw (← same) (below (value d step) (cross d step) (value d d) (value step step) (length_squared ps) (lagrange d step)
      (value-nonneg d) far)

  abbrev along : Point
  along = corner ps (length_to ps) ⊖ corner ps (length_from ps)

  pub along-squared : value along along ≡ length_squared ps
  along-squared = sym (squared-value (corner ps (length_from ps)) (corner ps (length_to ps))) ∙ (length-longest ps some).longest

  pub length-attains : spread along ps ≡ length_squared ps
  length-attains =
      let pair = length-longest ps some in
      let from = position-member ps (length_from ps) (omega (arith, pair.ordered, pair.within)) in
      let to = position-member ps (length_to ps) pair.within in
      let least : length_squared ps ≤ℤ spread along ps =
      rw (← along-squared, value-⊖ along (corner ps (length_to ps)) (corner ps (length_from ps))) (spread-above along ps to from) in
      let most : (spread along ps *ℤ spread along ps) ≤ℤ (length_squared ps *ℤ length_squared ps) =
      subst (λ m. (spread along ps *ℤ spread along ps) ≤ℤ (length_squared ps *ℤ m)) along-squared (length-every along) in
      le_antisym (root-le (spread along ps) (length_squared ps) (rw (← along-squared) (value-nonneg along)) most) least

-- ---- an answer

module _ (a : Floored) (D : ℤ) (i j : ℕ) (h : reply (ask_length a) ≡ answered (D ∷ pos i ∷ pos j ∷ pos a.floor ∷ [])) where
  abbrev shape : List Point
  shape = points a.list

  some-corner : 0 < length shape
  some-corner = (asked-shapes (ask_length a) _ h).shape.some

  long : D ≡ length_squared shape
  long = cc (asked-values (ask_length a) _ h)

  from : i ≡ length_from shape
  from = cc (asked-values (ask_length a) _ h)

  to : j ≡ length_to shape
  to = cc (asked-values (ask_length a) _ h)

  pub answered-no-longer : (d : Point) → (spread d shape *ℤ spread d shape) ≤ℤ (D *ℤ value d d)
  answered-no-longer d = rw long (length-every shape some-corner d)

  pub answered-longest : let n = corner shape j ⊖ corner shape i in (spread n shape ≡ D) × (value n n ≡ D)
  answered-longest = rw (long, from, to) (length-attains shape some-corner, along-squared shape some-corner)
