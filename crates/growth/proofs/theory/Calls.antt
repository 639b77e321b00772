-- What a call of grow answers; and that it is a call of mirror and one of sum: of the obstacle and the mirrored outline.
--     grow-answered         an answered grow gives the grown obstacle, its count and its floor
--     grow-reaches          which reaches as far as the obstacle and, in the opposite direction, the outline
--     mirror-sum-called     where a mirror and a sum are both answered, the answer is the grown obstacle
--     grow-merge-called     growing two obstacles and merging them gives what growing their merge gives
--     grow-twice-called     growing by one outline and then by another gives what growing by their sum gives
use Rattle.std.specs.Prelude.{◌≡◌, List, [], ◌∷◌, ℤ, pos, ◌+ℤ◌, length}
use Rattle.std.proofs.Common.{sym, ◌∙◌, ap}
use Rattle.std.proofs.Math.IntN.{+ℤ_assoc}
use Rattle.plane.specs.Point.{Point, numbers, opposite}
use Rattle.plane.specs.Reply.{answered}
use Rattle.plane.specs.Direction.{support}
use Rattle.plane.specs.Corner.{shape_of, mirrored}
use Rattle.plane.specs.Separation.{differences}
use Rattle.plane.specs.Floor.{Floored, corners, one_shape, two_shapes}
use Rattle.plane.proofs.theory.lists.Flat.{numbers-points}
use Rattle.plane.proofs.theory.lists.Greater.{greater-plus}
use Rattle.plane.proofs.theory.lists.Members.{mirrored-some}
use Rattle.plane.proofs.theory.support.Support.{support-mirrored}
use Rattle.plane.proofs.theory.hull.ShapeOf.{shape_of-support}
use Rattle.separation.specs.theory.Apart.{differences-some}
use Rattle.laws.specs.Grouping.{sum_call, merge_call, Gives, Called}
use Rattle.laws.proofs.theory.Answer.{made-answered, made, made-corners, floored-same, Reaches, made-reaches}
use Rattle.laws.proofs.theory.Answer.{sum-combines, merge-combines, called-reaches, valid_same}
use Rattle.growth.specs.Grown.{grown, grown_shape, mirror_call, grow_call}
use Rattle.growth.proofs.theory.Alike.{differences-reach}
use Rattle.growth.proofs.theory.Places.{grown-known}

-- ---- grow

-- how far the obstacle b grown by the outline a reaches
abbrev far : Floored → Floored → Point → ℤ
far b a d = support d (corners b) +ℤ support (opposite d) (corners a)

module _ (b a : Floored) (out : List ℤ) where
  pub grow-answered : (v : List ℤ) → (grow_call b a out).reply ≡ answered v
      → (v ≡ pos (length (grown (corners b) (corners a))) ∷ pos b.floor ∷ []) × Gives (grow_call b a out) (grown_shape b a)
  unfolding grown
  grow-answered v h = made-answered (two_shapes b a) _ out v h

  pub grow-reaches : (g : Floored) → Gives (grow_call b a out) g → Reaches (far b a) b a g
  grow-reaches g = made-reaches (far b a) b a (differences (corners b) (corners a)) out g
      (differences-some (corners b) (corners a)) (differences-reach (corners b) (corners a))

-- ---- mirror and sum

pub mirror-sum-called : (a b m g : Floored) (out : List ℤ) → Gives (mirror_call a out) m → Called sum_call b m g → g ≡ grown_shape b a
mirror-sum-called a b m g out i c =
    let S = mirrored (corners a) in
    let image = made (one_shape a) (shape_of S) out i in
    let some = image.good.shape.some in
    let r = called-reaches sum-combines c in
    floored-same (sym (numbers-points g.list r.valid.paired) ∙ ap numbers
    (grown-known (corners b) (corners a) r.same.first-valid.shape.some some (corners g) r.valid.shape
    (λ d. r.reach d ∙ ap (λ z. support d (corners b) +ℤ z) (ap (support d) (made-corners image)
    ∙ shape_of-support S (mirrored-some (corners a) some) d ∙ support-mirrored d (corners a))))) r.on-floor

-- ---- two obstacles

-- b and c merged are o; grown by a they are g, h and l
module _ (a b c o g h l n : Floored) (out put lent : List ℤ) (first : Gives (grow_call b a out) g) (second : Gives (grow_call c a put) h)
    (both : Gives (grow_call o a lent) l) where
  pub grow-merge-called : Called merge_call b c o → Called merge_call g h n → l ≡ n
  grow-merge-called p q =
      let one = grow-reaches b a out g first in
      let other = grow-reaches c a put h second in
      let whole = grow-reaches o a lent l both in
      let merged = called-reaches merge-combines p in
      let r = called-reaches merge-combines q in
      valid_same whole.valid r.valid (whole.on-floor ∙ merged.on-floor ∙ sym (r.on-floor ∙ one.on-floor))
      (λ d. whole.reach d ∙ rw (merged.reach d, r.reach d, one.reach d, other.reach d)
      (greater-plus (support d (corners b)) (support d (corners c)) (support (opposite d) (corners a))))

-- ---- two outlines

-- s the sum of the outlines a and c
module _ (a b c s g h l : Floored) (out put lent : List ℤ) (first : Gives (grow_call b a out) g) (second : Gives (grow_call g c put) h)
    (both : Gives (grow_call b s lent) l) where
  pub grow-twice-called : Called sum_call a c s → h ≡ l
  grow-twice-called p =
      let one = grow-reaches b a out g first in
      let other = grow-reaches g c put h second in
      let whole = grow-reaches b s lent l both in
      let summed = called-reaches sum-combines p in
      valid_same other.valid whole.valid (other.on-floor ∙ one.on-floor ∙ sym whole.on-floor)
      (λ d. other.reach d ∙ rw (one.reach d, whole.reach d, summed.reach (opposite d))
      (+ℤ_assoc (support d (corners b)) (support (opposite d) (corners a)) (support (opposite d) (corners c))))
