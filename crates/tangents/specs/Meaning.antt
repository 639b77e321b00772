-- What the four tangents mean, in document 02's words (request W1). Each theorem is proved in the theory; here it is only cited. Its sides
-- s and t are parameters: "The four kinds share one argument, not four".
use Rattle.std.specs.Prelude.{◌≡◌, Bool, true, false, not, List, [], ◌∷◌, ◌++◌, ◌↔◌, ℕ, ◌<◌, pos, ◌*ℤ◌, length, ◌≤ℤ◌}
use Rattle.plane.specs.Point.{Point, corner}
use Rattle.plane.specs.Turn.{turn}
use Rattle.plane.specs.Shape.{IsShape}
use Rattle.plane.specs.Reply.{answered, refused}
use Rattle.plane.specs.Measure.{squared}
use Rattle.plane.specs.Separation.{apart}
use Rattle.plane.specs.Tangent.{sign_of, touches, tangent, tangent_from, tangent_to, tangent_positions}
use Rattle.plane.specs.Floor.{Floored, corners, Same}
use Rattle.plane.specs.Question.{reply, ask_tangents}
use Rattle.separation.specs.theory.Apart.{apart→direction}
use Rattle.tangents.specs.Rule.{MeetsRule, FourTangents}
use Rattle.tangents.specs.theory.TangentUnique.{
  settled-first,
  settled-second,
  settled-nearest,
  touching-on-line,
  settled-tangent,
  tangent-settled,
  settled-rule,
  rule-settled,
  tangent-is-settled,
  tangent-back,
}
use Rattle.tangents.specs.theory.Rows.{tangents-refused, tangents-answered, refused-not-apart, tangents-reply}

module _ (s t : Bool) (A B : List Point) (a : IsShape A) (b : IsShape B) (h : apart A B ≡ true) where
  -- the two corners that are answered
  abbrev p : Point
  p = corner A (tangent_from s t A B)

  abbrev q : Point
  q = corner B (tangent_to s t A B)

  -- "from a corner of the first"
  pub tangent-begins-at-corner : tangent_from s t A B < length A
  tangent-begins-at-corner = (tangent-is-settled s t A B a b h).from.within

  -- "to a corner of the second"
  pub tangent-ends-at-corner : tangent_to s t A B < length B
  tangent-ends-at-corner = (tangent-is-settled s t A B a b h).to.within

  -- "Each answer is the only pair meeting its rule": it meets it
  pub answer-meets-rule : MeetsRule s t A B (tangent_from s t A B) (tangent_to s t A B)
  answer-meets-rule = settled-rule (apart→direction A B a.some b.some h) (tangent-is-settled s t A B a b h)

  -- and is the only pair that does: a pair that touches and is the nearest on its own line
  pub rule-has-one-pair : (i j : ℕ) → MeetsRule s t A B i j → (i ≡ tangent_from s t A B) × (j ≡ tangent_to s t A B)
  rule-has-one-pair = rule-settled (apart→direction A B a.some b.some h) (tangent-is-settled s t A B a b h) a b

  -- it is also the nearest of all pairs that touch
  pub answer-is-tangent : tangent s t A B (tangent_from s t A B) (tangent_to s t A B) ≡ true
  answer-is-tangent = settled-tangent (apart→direction A B a.some b.some h) (tangent-is-settled s t A B a b h)

  -- and the only one
  pub tangent-is-answer : (i j : ℕ) → i < length A → j < length B → tangent s t A B i j ≡ true
      → (i ≡ tangent_from s t A B) × (j ≡ tangent_to s t A B)
  tangent-is-answer = tangent-settled (apart→direction A B a.some b.some h) (tangent-is-settled s t A B a b h) a b

  -- "both shapes on the left or on the line, both on the right, ..": every corner of the first is on its side, or on the line
  pub first-on-its-side : (k : ℕ) → k < length A → pos 0 ≤ℤ (sign_of s *ℤ turn p q (corner A k))
  first-on-its-side = settled-first (apart→direction A B a.some b.some h) (tangent-is-settled s t A B a b h)

  -- and every corner of the second
  pub second-on-its-side : (k : ℕ) → k < length B → pos 0 ≤ℤ (sign_of t *ℤ turn p q (corner B k))
  second-on-its-side = settled-second (apart→direction A B a.some b.some h) (tangent-is-settled s t A B a b h)

  -- "Among several pairs on a line, the nearest pair is meant": no two corners on the line are nearer
  pub none-on-line-nearer : (k l : ℕ) → k < length A → l < length B → turn p q (corner A k) ≡ pos 0 → turn p q (corner B l) ≡ pos 0
      → squared p q ≤ℤ squared (corner A k) (corner B l)
  none-on-line-nearer = settled-nearest (apart→direction A B a.some b.some h) (tangent-is-settled s t A B a b h)

  -- "a line" is one: all pairs that touch with the shapes on these sides are on it
  pub touching-pairs-on-one-line : (k l : ℕ) → k < length A → l < length B → touches s t A B k l ≡ true
      → (turn p q (corner A k) ≡ pos 0) × (turn p q (corner B l) ≡ pos 0)
  touching-pairs-on-one-line = touching-on-line (apart→direction A B a.some b.some h) (tangent-is-settled s t A B a b h)

  -- exchanging the shapes turns each line round: what was left is right
  pub exchanging-turns-round :
      (tangent_from (not t) (not s) B A ≡ tangent_to s t A B) × (tangent_to (not t) (not s) B A ≡ tangent_from s t A B)
  exchanging-turns-round = tangent-back s t A B a b h

module _ (A B : List Point) (a : IsShape A) (b : IsShape B) (h : apart A B ≡ true) where
  -- so the first kind, "both shapes on the left", becomes the second, "both on the right"
  pub both-left-becomes-both-right :
      (tangent_from false false B A ≡ tangent_to true true A B) × (tangent_to false false B A ≡ tangent_from true true A B)
  both-left-becomes-both-right = tangent-back true true A B a b h

  -- the third, "first left and second right", stays
  pub left-and-right-stays :
      (tangent_from true false B A ≡ tangent_to true false A B) × (tangent_to true false B A ≡ tangent_from true false A B)
  left-and-right-stays = tangent-back true false A B a b h

  -- and so does the fourth, "the reverse"
  pub right-and-left-stays :
      (tangent_from false true B A ≡ tangent_to false true A B) × (tangent_to false true B A ≡ tangent_from false true A B)
  right-and-left-stays = tangent-back false true A B a b h

-- two valid shapes on one floor
module _ (a b : Floored) (s : Same a b) where
  -- "Refusal 9 is given exactly when the shapes are not apart, after 1 to 5"
  pub not-apart-is-refused : apart (corners a) (corners b) ≡ false → reply (ask_tangents a b) ≡ refused 9 []
  not-apart-is-refused = tangents-refused a b s

  -- "exactly": only then
  pub refused-is-not-apart : (carries : List ℕ) → reply (ask_tangents a b) ≡ refused 9 carries → apart (corners a) (corners b) ≡ false
  refused-is-not-apart = refused-not-apart a b s

  -- "For two shapes that are apart, give four directed lines": the kinds in the ticket's order, then the floor
  pub apart-is-answered : apart (corners a) (corners b) ≡ true
      → reply (ask_tangents a b) ≡ answered (tangent_positions (corners a) (corners b) ++ (pos a.floor ∷ []))
  apart-is-answered = tangents-answered a b s

  -- and of each kind "the only pair meeting its rule": these numbers are answered exactly if they are four such pairs
  pub tangents-are-answered-exactly : (i j k l m n o p : ℕ)
      → reply (ask_tangents a b) ≡ answered (pos i ∷ pos j ∷ pos k ∷ pos l ∷ pos m ∷ pos n ∷ pos o ∷ pos p ∷ pos a.floor ∷ [])
      ↔ FourTangents (corners a) (corners b) i j k l m n o p
  tangents-are-answered-exactly = tangents-reply a b s
