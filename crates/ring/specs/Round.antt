-- A ring of points, cleaned: what is left of a list on the way round it. Our own, not of documents 01 and 02. Each definition takes what
-- names a point, a position or the point itself, and f, the point that it names.
--     last_of x xs, head_of z xs     the last of x ∷ xs; the first of xs, or z if there is none
--     opened f xs                  without the last, if there are at least two and it equals the first: a closed ring
--     differing f a xs             without each that equals the one before it; the first is compared with a
--     distinct f xs                without each that equals the one before it on the way round; the first is kept
--     straight a b c               the way from a over b to c goes straight on at b
--     bends f xs                   without each at which the way round goes straight on; a way back is kept
--     clockwise f xs               the way round turns right at the first
--     Apart f a xs z               from a along xs to z each differs from the one before it
--     sensed f xs                  the list in the sense in which it turns left at the first: as it is, or the rest read backwards
use Rattle.std.specs.Prelude.{◌≡◌, Bool, false, not, cond, ◌&&◌, List, [], ◌∷◌, ◌++◌, reverse, ◌-◌, pos, length, take}
use Rattle.std.specs.Int.Signed.{lt_z}
use Rattle.plane.specs.Point.{Point, ◌⊖◌, same_point}
use Rattle.plane.specs.Direction.{value}
use Rattle.plane.specs.Turn.{turn}

abbrev pub last_of : {X : Type 0} → X → List X → X
last_of x [] = x
last_of x (y ∷ ys) = last_of y ys

abbrev pub head_of : {X : Type 0} → X → List X → X
head_of z [] = z
head_of z (x ∷ xs) = x

-- x, if the test holds
abbrev pub optional : {X : Type 0} → Bool → X → List X
optional b x = cond b (x ∷ []) []

-- ---- repeats

abbrev pub closed : {X : Type 0} → (X → Point) → List X → Bool
closed f [] = false
closed f (x ∷ []) = false
closed f (x ∷ (y ∷ ys)) = same_point (f x) (f (last_of y ys))

abbrev pub opened : {X : Type 0} → (X → Point) → List X → List X
opened f xs = cond (closed f xs) (take (length xs - 1) xs) xs

abbrev pub differing : {X : Type 0} → (X → Point) → X → List X → List X
differing f a [] = []
differing f a (x ∷ xs) = optional (not (same_point (f a) (f x))) x ++ differing f x xs

abbrev pub distinct : {X : Type 0} → (X → Point) → List X → List X
distinct f [] = []
distinct f (x ∷ xs) = opened f (x ∷ differing f x xs)

-- what theorems ask of a list without repeats
abbrev pub Apart : {X : Type 0} → (X → Point) → X → List X → X → Type 0
Apart f a [] z = same_point (f a) (f z) ≡ false
Apart f a (x ∷ xs) z = (same_point (f a) (f x) ≡ false) × Apart f x xs z

-- ---- the sense

abbrev pub clockwise : {X : Type 0} → (X → Point) → List X → Bool
clockwise f [] = false
clockwise f (x ∷ xs) = lt_z (turn (f (last_of x xs)) (f x) (f (head_of x xs))) (pos 0)

abbrev pub backwards : {X : Type 0} → List X → List X
backwards [] = []
backwards (x ∷ xs) = x ∷ reverse xs

abbrev pub in_sense : {X : Type 0} → Bool → List X → List X
in_sense back xs = cond back (backwards xs) xs

abbrev pub sensed : {X : Type 0} → (X → Point) → List X → List X
sensed f xs = in_sense (clockwise f xs) xs

-- ---- points in line

-- the turn is 0, and the way does not go back
unfoldable pub straight : Point → Point → Point → Bool
straight a b c = not (lt_z (pos 0) (turn a b c)) && (not (lt_z (turn a b c) (pos 0)) && lt_z (pos 0) (value (b ⊖ a) (c ⊖ b)))

-- of xs, between a and z
abbrev pub bending : {X : Type 0} → (X → Point) → X → List X → X → List X
bending f a [] z = []
bending f a (x ∷ xs) z = optional (not (straight (f a) (f x) (f (head_of z xs)))) x ++ bending f x xs z

abbrev pub bends : {X : Type 0} → (X → Point) → List X → List X
bends f [] = []
bends f (x ∷ xs) = bending f (last_of x xs) (x ∷ xs) x
