-- May a cart pass straight between two obstacles, without turning. Our own, not of documents 01 and 02. L is the obstacle to the left, R
-- the one to the right, A the cart's outline, relative to the cart's own origin. The passage runs across a direction d, in which R is
-- below and L above; a place of the cart is where its origin is, in whole millimetres.
--     passable L R A         the obstacles, grown by the cart, are apart
--     across L R A           the direction across: of the step between the nearest points of the grown obstacles, in lowest terms
--     low_line d R A          where the cart touches R: R's greatest value in d, minus the cart's least
--     high_line d L A         where it touches L: L's least value in d, minus the cart's greatest
--     room L R A             from the low line to the high line, in the direction across
--     free_width L R A        the room in millimetres: over the direction's length, rounded down as width is
--     Between d L R A t      the place t is strictly between the lines
--     passage_numbers L R A   what is answered: 0 blocked; else 1, the direction, the two lines and the free width
--     passage_rows l r c      its refusals in order; grown_rows: those of the grown obstacles
--     ask_passage l r c       the question: the left obstacle, the right one and the cart, each with its floor
--     Told l r c u v ..      what the numbers of an answer that begins with 1 are
-- What it means: `Meaning.antt`.
use Rattle.std.specs.Prelude.{◌≡◌, Bool, true, cond, List, [], ◌∷◌, ◌++◌, ℕ, ◌*◌, ℤ, pos, nat_abs, ◌-ℤ◌, ◌<ℤ◌}
use Rattle.plane.specs.Point.{Point, point}
use Rattle.plane.specs.Reply.{Row}
use Rattle.plane.specs.Direction.{value, support}
use Rattle.plane.specs.Primitive.{primitive}
use Rattle.plane.specs.Output.{size_rows}
use Rattle.plane.specs.Measure.{root_below}
use Rattle.plane.specs.Separation.{apart}
use Rattle.plane.specs.Clearance.{nearest}
use Rattle.plane.specs.Floor.{Floored, corners, no_shape}
use Rattle.plane.specs.Question.{Question, asks}
use Rattle.admission.specs.Three.{three_rows}
use Rattle.strips.specs.Strip.{least}
use Rattle.strips.specs.OwnDirection.{towards}
use Rattle.growth.specs.Grown.{grown}

-- touching is not passing: the grown obstacles have no point in common
abbrev pub passable : List Point → List Point → List Point → Bool
passable L R A = apart (grown L A) (grown R A)

-- from the right obstacle to the left one
unfoldable pub across : List Point → List Point → List Point → Point
across L R A = let G = grown L A in let H = grown R A in primitive (towards G H (nearest G H))

unfoldable pub low_line : Point → List Point → List Point → ℤ
low_line d R A = support d R -ℤ least d A

unfoldable pub high_line : Point → List Point → List Point → ℤ
high_line d L A = least d L -ℤ support d A

unfoldable pub room : List Point → List Point → List Point → ℤ
room L R A = let n = across L R A in high_line n L A -ℤ low_line n R A

unfoldable pub free_width : List Point → List Point → List Point → ℕ
free_width L R A =
    let n = across L R A in
    root_below (nat_abs (room L R A) * nat_abs (room L R A)) (nat_abs (value n n))

pub record Between (d : Point) (L R A : List Point) (t : Point) : Type 0 where
  pub above_low : low_line d R A <ℤ value d t
  pub below-high : value d t <ℤ high_line d L A

-- ---- the question

abbrev pub passage_numbers : List Point → List Point → List Point → List ℤ
passage_numbers L R A =
    let n = across L R A in
    cond (passable L R A) (pos 1 ∷ n.x ∷ n.y ∷ low_line n R A ∷ high_line n L A ∷ pos (free_width L R A) ∷ []) (pos 0 ∷ [])

-- 6 and 7 of the left obstacle grown, then of the right
abbrev pub grown_rows : Floored → Floored → Floored → List Row
grown_rows l r c = size_rows (grown (corners l) (corners c)) ++ size_rows (grown (corners r) (corners c))

-- 1 to 5 of each shape, which is blamed as 1, 2 or 3; 13 unless all floors are equal; then these
abbrev pub passage_rows : Floored → Floored → Floored → List Row
passage_rows l r c = three_rows l r c ++ grown_rows l r c

abbrev pub ask_passage : Floored → Floored → Floored → Question
ask_passage l r c = asks (no_shape l.floor) (passage_rows l r c) (passage_numbers (corners l) (corners r) (corners c))

-- the numbers of an answer that begins with 1
pub record Told (l r c : Floored) (u v low high w f : ℤ) : Type 0 where
  pub passes : passable (corners l) (corners r) (corners c) ≡ true
  pub direction-is : point u v ≡ across (corners l) (corners r) (corners c)
  pub low-is : low ≡ low_line (point u v) (corners r) (corners c)
  pub high_is : high ≡ high_line (point u v) (corners l) (corners c)
  pub width_is : w ≡ pos (free_width (corners l) (corners r) (corners c))
  pub floor-is : f ≡ pos l.floor
