-- What the definitions mean, in document 01's words. Each theorem is proved in the theory; here it is only cited.
--     judging        accepted and valid are the same; how large turns and values get; where row 4 finds the rules broken
--     the table      of every question, a refusal is given exactly when its row says; floors; what is written, and what is left untouched
--     corners        the shape of a set is the standard list of its corners, and the only one
--     forms          three ways to say that a list is a shape
--     directions     how far sums, lists taken together and mirrored lists reach; a shape is known by how far it reaches
--     faces          the furthest corners of a shape, from the first to the last counterclockwise
--     names          of all directions that point one way, 11 and 12 let exactly one pass; 12 is a common divisor above 1
--     mirror, sweep  refusals 6 and 7 cannot come of them
use Rattle.std.specs.Prelude.{◌≡◌, refl, true, false, List, [], ◌∷◌, ◌++◌, ◌⊎◌, ◌↔◌, ℕ, ◌≤◌, ◌<◌, length, drop, ℤ, pos, ◌+ℤ◌, ◌*ℤ◌, ◌≤ℤ◌}
use Rattle.std.specs.Prelude.{◌<ℤ◌}
use Rattle.std.proofs.Common.{sym}
use Rattle.integer.specs.Bound.{Within}
use Rattle.plane.specs.Cut.{cut_sum}
use Rattle.plane.specs.Limits.{max_part}
use Rattle.plane.specs.Point.{Point, points, numbers, corner, opposite, ◌∈◌, ◌⊆◌}
use Rattle.plane.specs.Turn.{turn, Left}
use Rattle.plane.specs.Shape.{next, breaks, IsShape}
use Rattle.plane.specs.Reply.{answered, refused, Row, NoneApply, First}
use Rattle.plane.specs.Refusal.{too_many, some_outside, equal_pair, left_broken, breaking_edge, breaking_corner, InRange, Valid}
use Rattle.plane.specs.Direction.{value, support, greater, furthest, SameWay}
use Rattle.plane.specs.Corner.{Corner, shape_of, sums, mirrored}
use Rattle.plane.specs.Forms.{Ordered, Sorted, NonZero, edges}
use Rattle.plane.specs.Output.{overwritten}
use Rattle.plane.specs.Face.{face_first, face_last, Face}
use Rattle.plane.specs.Furthest.{bad_direction, parts_divisor, common_divisor}
use Rattle.plane.specs.Primitive.{primitive}
use Rattle.plane.specs.Sweep.{ValidPoints}
use Rattle.plane.specs.Floor.{Floored, on, Shapes, two_shapes, rows_of, Admitted}
use Rattle.plane.specs.Question.{Question, table, values, reply, output, ask_judge}
use Rattle.plane.proofs.theory.lists.Members.{position-member}
use Rattle.plane.proofs.theory.lists.Flat.{points_near}
use Rattle.plane.proofs.theory.refusals.Tests.{equal_pair-equal, break-found, break-first-edge, break-first-corner}
use Rattle.plane.proofs.theory.refusals.Asked.{admitted→none, none→admitted, asked-given, asked-refused, asked-none, asked-answered}
use Rattle.plane.proofs.theory.refusals.Asked.{asked-values, asked-kept, asked-wrote, asked-shapes, asked-floors, rest-none}
use Rattle.plane.proofs.theory.forms.Standard.{shape→sorted, sorted→ordered, ordered→shape}
use Rattle.plane.proofs.theory.support.Support.{value-le-support, support-append, support-sums, support-mirrored}
use Rattle.plane.proofs.theory.hull.ShapeOf.{shape_of-support, shape_of-shape, shape_of-corner, corner-shape_of, shape_of-unique}
use Rattle.plane.proofs.theory.hull.ShapeOf.{shape_of-same, shape-extensional, shape-known, shape-own}
use Rattle.plane.proofs.theory.support.Bounds.{turn-size, value-size, support-size}
use Rattle.plane.proofs.theory.sum.Cut.{cut-formula}
use Rattle.plane.specs.VectorSum.{vector_sum}
use Rattle.plane.proofs.theory.sum.EdgeSum.{vector_sum-shape}
use Rattle.plane.proofs.theory.face.FirstFurthest.{furthest-greatest}
use Rattle.plane.proofs.theory.face.Face.{face-is, face-unique, face-left, segment-face}
use Rattle.plane.proofs.theory.direction.Rows.{direction-some}
use Rattle.plane.proofs.theory.direction.Scaled.{same-face-first, same-face-last}
use Rattle.plane.proofs.theory.direction.Primitive.{primitive-multiple, primitive-support, primitive-same, primitive-bad}
use Rattle.plane.proofs.theory.direction.Primitive.{primitive-common, primitive-only}
use Rattle.plane.proofs.theory.direction.Divisor.{common→divides, divides→common}
use Rattle.plane.proofs.theory.mirror.Mirror.{mirror-count}
use Rattle.plane.proofs.theory.mirror.MirrorSize.{mirror-few, mirror-near}
use Rattle.plane.proofs.theory.sweep.Few.{shape_of-few}
use Rattle.plane.proofs.theory.sweep.SweepSize.{sweep-few, sweep-near}

-- ---- judging

-- what is lent to a question is good exactly if none of its rows applies: a valid shape; two on one floor; the points of a sweep
pub admitted-exactly : (s : Shapes) → Admitted s ↔ NoneApply (rows_of s)
admitted-exactly s = (admitted→none s, none→admitted s)

module _ (l : List ℤ) where
  module _ (f : ℕ) where
    -- "A shape is valid exactly if its list meets all that stands under "What makes a shape"": what is accepted is valid
    pub accepted-is-valid : (v : List ℤ) → reply (ask_judge (on l f)) ≡ answered v → Valid l
    accepted-is-valid v h = asked-shapes (ask_judge (on l f)) v h

    -- and what is valid is accepted, "and the answer says how many corners"
    pub valid-is-accepted : Valid l → reply (ask_judge (on l f)) ≡ answered (pos (length (points l)) ∷ pos f ∷ [])
    valid-is-accepted v = asked-none (ask_judge (on l f)) (rest-none (ask_judge (on l f)) v tt)

    -- "A made-up corner count fails because it is the count of the defined list"
    pub accepted-counts-corners : (v : List ℤ) → reply (ask_judge (on l f)) ≡ answered v → v ≡ pos (length (points l)) ∷ pos f ∷ []
    accepted-counts-corners v h = asked-values (ask_judge (on l f)) v h

  module _ (r : InRange l) where
    -- "No turn exceeds 8,000,000,000,000 in size"
    pub turn-bounded : (a b c : ℕ) → a < length (points l) → b < length (points l) → c < length (points l)
        → Within 8_000_000_000_000 (turn (corner (points l) a) (corner (points l) b) (corner (points l) c))
    turn-bounded a b c p q s = turn-size (points_near l r a p) (points_near l r b q) (points_near l r c s)

    module _ (d : Point) (u : Within max_part d.x) (v : Within max_part d.y) where
      -- u·x + v·y of each corner is "at most 4,000,000,000,000 in size"
      pub value-bounded : (i : ℕ) → i < length (points l) → Within 4_000_000_000_000 (value d (corner (points l) i))
      value-bounded i h = value-size u v (points_near l r i h)

      -- and so is the greatest, "that value (at most 4,000,000,000,000 in size)"
      pub support-bounded : 0 < length (points l) → Within 4_000_000_000_000 (support d (points l))
      support-bounded some = support-size l r u v some

-- row 4, of the corners of a list
module _ (ps : List Point) where
  -- "two equal corners in a list of two"
  pub equal-pair-is-equal : equal_pair ps ≡ true → (length ps ≡ 2) × (corner ps 0 ≡ corner ps 1)
  equal-pair-is-equal h = equal_pair-equal ps h

  -- "the first edge, then the first corner, that breaks the left rule": they are of the list, and break it
  pub breaking-corner-breaks : left_broken ps ≡ true → (breaking_edge ps < length ps) × (breaking_corner ps < length ps)
      × (breaks ps (breaking_edge ps) (breaking_corner ps) ≡ true)
  breaking-corner-breaks h = break-found ps h

  -- no corner breaks it at an earlier edge
  pub no-earlier-edge-broken : (e c : ℕ) → e < breaking_edge ps → c < length ps → breaks ps e c ≡ false
  no-earlier-edge-broken e c h k = break-first-edge ps e c h k

  -- and no earlier corner at that edge
  pub no-earlier-corner-breaks : (c : ℕ) → c < breaking_corner ps → breaks ps (breaking_edge ps) c ≡ false
  no-earlier-corner-breaks c h = break-first-corner ps c h

-- ---- the table

-- of any question
module _ (q : Question) where
  -- "Given exactly when", "Several at once: ..": a row that applies, with none before it, gives its refusal
  pub first-row-refuses : {w : Row} → First w (table q) → reply q ≡ refused w.number w.carries
  first-row-refuses f = asked-given q f

  -- and nothing else does
  pub refused-by-first-row : (n : ℕ) (carries : List ℕ) → reply q ≡ refused n carries
      → (w : Row) × First w (table q) × (w.number ≡ n) × (w.carries ≡ carries)
  refused-by-first-row n carries h = asked-refused q n carries h

  -- "Refusing everything fails .. the table's "exactly"": where no row applies, the question is answered, with its values
  pub answered-if-none : NoneApply (table q) → reply q ≡ answered (values q)
  answered-if-none n = asked-none q n

  -- and only there, and with nothing else
  pub none-if-answered : (v : List ℤ) → reply q ≡ answered v → NoneApply (table q) × (v ≡ values q)
  none-if-answered v h = (asked-answered q v h, asked-values q v h)

  -- "The output is untouched on refusal"
  pub refused-leaves-output : (n : ℕ) (carries : List ℕ) → reply q ≡ refused n carries → output q ≡ q.lent
  refused-leaves-output n carries h = asked-kept q n carries h

  -- "On success only its first numbers are written"
  pub answered-writes-shape : (v : List ℤ) → reply q ≡ answered v
      → output q ≡ numbers q.shape ++ drop (length (numbers q.shape)) q.lent
  unfolding overwritten
  answered-writes-shape v h = asked-wrote q v h

  -- "Any question on two shapes of different floors is refused 13, after both shapes' own checks and before the rest"
  pub different-floors-are-refused : (a b : Floored) → q.shapes ≡ two_shapes a b → Valid a.list → Valid b.list
      → (a.floor ≡ b.floor → ⊥) → reply q ≡ refused 13 []
  different-floors-are-refused a b e v w f = asked-floors q a b e v w f

-- ---- corners

module _ (S : List Point) (some : 0 < length S) where
  -- "The shape of the set is the standard list of these corners": it is a shape
  pub shape-of-set-is-shape : IsShape (shape_of S)
  shape-of-set-is-shape = shape_of-shape S some

  -- all it lists are corners
  pub shape-of-set-lists-corners : (p : Point) → p ∈ shape_of S → Corner S p
  shape-of-set-lists-corners p m = shape_of-corner S some m

  -- and it lists them all
  pub corners-are-in-shape-of-set : (p : Point) → Corner S p → p ∈ shape_of S
  corners-are-in-shape-of-set p c = corner-shape_of c

  -- "the standard list": no other shape lists exactly the corners
  pub shape-of-set-is-only-one : (ps : List Point) → IsShape ps → ((p : Point) → p ∈ ps → Corner S p)
      → ((p : Point) → Corner S p → p ∈ ps) → ps ≡ shape_of S
  shape-of-set-is-only-one ps s f g = shape_of-unique S ps some s f g

  -- "those points of it": it has at most as many corners as the set has points, repeats counted
  pub shape-of-set-has-few-corners : length (shape_of S) ≤ length S
  shape-of-set-has-few-corners = shape_of-few S some

  -- in every direction it reaches as far as the set
  pub shape-of-set-reaches : (d : Point) → support d (shape_of S) ≡ support d S
  shape-of-set-reaches d = shape_of-support S some d

-- "A one-point set has that point"
pub one-point-set : (p : Point) → shape_of (p ∷ []) ≡ p ∷ []
unfolding shape_of
one-point-set p = refl

-- "Corners of a finite set of points", "among the different points": order and repeats make no difference
pub same-set-same-shape : (S T : List Point) → S ⊆ T → T ⊆ S → shape_of S ≡ shape_of T
same-set-same-shape S T f g = shape_of-same S T f g

-- a shape is the shape of its own corners
pub shape-is-its-own : (ps : List Point) → IsShape ps → shape_of ps ≡ ps
shape-is-its-own ps s = shape-own ps s

-- ---- forms

-- "for every edge .. every other corner lies strictly to the left", and the first is the standard one: the edges go round once, by angle
pub shape-has-sorted-edges : (ps : List Point) → IsShape ps → Sorted ps
shape-has-sorted-edges ps s = shape→sorted ps s

-- then any three corners in list order turn left, and the first has "the smallest y, and the smallest x among those"
pub sorted-edges-order-corners : (ps : List Point) → Sorted ps → Ordered ps
sorted-edges-order-corners ps s = sorted→ordered ps s

-- and that is the left rule again
pub ordered-corners-are-shape : (ps : List Point) → Ordered ps → IsShape ps
ordered-corners-are-shape ps o = ordered→shape ps o

-- ---- directions

module _ (d : Point) where
  -- "the shape of all corner-plus-corner points": they reach as far as both lists together
  pub sums-reach : (A B : List Point) → 0 < length A → 0 < length B → support d (sums A B) ≡ support d A +ℤ support d B
  sums-reach A B h k = support-sums d A B h k

  -- "both corner lists taken together": as far as the one that reaches further
  pub together-reach : (A B : List Point) → 0 < length A → 0 < length B → support d (A ++ B) ≡ greater (support d A) (support d B)
  together-reach A B h k = support-append d A B h k

  -- "the shape of all (-x, -y)": as far as the list in the opposite direction
  pub mirrored-reach : (A : List Point) → support d (mirrored A) ≡ support (opposite d) A
  mirrored-reach A = support-mirrored d A

  -- "the corner with the greatest u·x + v·y": from the first corner along the edges before the direction, turned left by a quarter
  pub furthest-at-cut : (p : Point) (ps : List Point) → Sorted (p ∷ ps) → support d (p ∷ ps) ≡ value d p +ℤ cut_sum d (edges (p ∷ ps))
  furthest-at-cut p ps s = cut-formula d p ps s

-- "theorem 4.5 tells how neighbours follow, and that equal directions make one step": the sum is made by joining edges
pub sum-joins-edges : (A B : List Point) → IsShape A → IsShape B → vector_sum A B ≡ shape_of (sums A B)
sum-joins-edges A B s t = vector_sum-shape A B s t

-- "Two shapes are equal if they have as many corners and the same numbers in the same order": if they reach as far in every direction
pub shapes-with-equal-reach : (A B : List Point) → IsShape A → IsShape B → ((d : Point) → support d A ≡ support d B) → A ≡ B
shapes-with-equal-reach A B s t same = shape-extensional A B s t same

-- a shape that reaches as far as a set in every direction is the shape of the set
pub shape-with-reach-of-set : (ps S : List Point) → IsShape ps → 0 < length S → ((d : Point) → support d ps ≡ support d S)
    → ps ≡ shape_of S
shape-with-reach-of-set ps S s some same = shape-known ps S s some same

-- ---- faces (document 02, request W8)

-- "the corner with the greatest u·x + v·y": no corner has a greater one than the value that is answered
pub none-is-further : (d : Point) (ps : List Point) (i : ℕ) → i < length ps → value d (corner ps i) ≤ℤ support d ps
none-is-further d ps i h = value-le-support d (position-member ps i h)

-- of corners with the greatest value `furthest` is the smallest position
pub earlier-is-less-far : (d : Point) (ps : List Point) → 0 < length ps → (i : ℕ) → i < furthest d ps
    → value d (corner ps i) <ℤ support d ps
earlier-is-less-far d ps some i h = (furthest-greatest d ps some).earliest i h

module _ (d : Point) (ps : List Point) (s : IsShape ps) (some : NonZero d) where
  -- "the first and the last of the tied corners": both have the greatest value
  pub first-is-furthest : (face_first d ps < length ps) × (value d (corner ps (face_first d ps)) ≡ support d ps)
  first-is-furthest = let f = (face-is s some).first-furthest in (f.within, f.has)

  pub last-is-furthest : (face_last d ps < length ps) × (value d (corner ps (face_last d ps)) ≡ support d ps)
  last-is-furthest = let f = (face-is s some).last-furthest in (f.within, f.has)

  -- and no other corner has it
  pub no-other-is-furthest : (i : ℕ) → i < length ps → value d (corner ps i) ≡ support d ps → (i ≡ face_first d ps) ⊎ (i ≡ face_last d ps)
  no-other-is-furthest i h e = (face-is s some).no_other i (record { within = h; has = e })

  -- "counterclockwise, equal if there is one": the last is the first, or follows it on the way round, over the end of the list as well
  pub face-is-corner-or-edge : (face_last d ps ≡ face_first d ps) ⊎ (face_last d ps ≡ next (length ps) (face_first d ps))
  face-is-corner-or-edge = (face-is s some).neighbours

  -- so that all other corners are left of the step from the first to the last
  pub others-are-left-of-face : (face_last d ps ≡ face_first d ps → ⊥) → (i : ℕ) → i < length ps → (i ≡ face_first d ps → ⊥)
      → (i ≡ face_last d ps → ⊥) → Left (corner ps (face_first d ps)) (corner ps (face_last d ps)) (corner ps i)
  others-are-left-of-face two i h p q = face-left s some (face-is s some) two i h p q

  -- "A segment lying across the direction, whichever of the two ways that points, gives 0 and 1"
  pub segment-across : length ps ≡ 2 → value d (corner ps 0) ≡ value d (corner ps 1) → (face_first d ps ≡ 0) × (face_last d ps ≡ 1)
  segment-across two level = segment-face s some two level

  -- "this is the one exception": these promises, for a segment that the first does not come after the last, leave no choice
  pub face-is-only-one : (i j : ℕ) → Face d ps i j → (i ≡ face_first d ps) × (j ≡ face_last d ps)
  face-is-only-one i j f = face-unique s some (face-is s some) f

-- ---- names (document 02, request W12)

-- a direction that is not (0,0) and has its parts in range
module _ (d : Point) (good : bad_direction d ≡ false) where
  -- "One name for a direction": its parts over their divisor pass 11 and 12
  pub name-passes : (bad_direction (primitive d) ≡ false) × (common_divisor (primitive d) ≡ false)
  name-passes = (primitive-bad d good, primitive-common d (direction-some d good))

  -- they point the same way: some positive multiples of the two are equal
  pub name-points-same-way : SameWay (primitive d) d
  name-points-same-way = primitive-same d (direction-some d good)

  -- and no other direction that does so passes
  pub name-is-only-one : (e : Point) → bad_direction e ≡ false → common_divisor e ≡ false → SameWay e d → e ≡ primitive d
  name-is-only-one e h passes s = primitive-only d e (direction-some d good) passes s

  -- the direction is its divisor times its name
  pub direction-is-multiple : (pos (parts_divisor d) *ℤ (primitive d).x ≡ d.x) × (pos (parts_divisor d) *ℤ (primitive d).y ≡ d.y)
  direction-is-multiple = primitive-multiple d

  -- and so is the greatest value
  pub greatest-value-is-multiple : (ps : List Point) → support d ps ≡ pos (parts_divisor d) *ℤ support (primitive d) ps
  greatest-value-is-multiple ps = sym (primitive-support d (direction-some d good) ps)

-- "Logs held (2,4) and (1,2)": all directions that point the same way have the same furthest corners
pub same-way-same-face : {d e : Point} → SameWay d e → (ps : List Point)
    → (face_first d ps ≡ face_first e ps) × (face_last d ps ≡ face_last e ps)
same-way-same-face s ps = (same-face-first s ps, same-face-last s ps)

module _ (d : Point) where
  -- "refuses 12 if the two parts have a common divisor above 1": where row 12 applies, some k above 1 divides both parts
  pub twelve-has-divisor : common_divisor d ≡ true
      → (k : ℕ) × (1 < k) × (u : ℤ) × (v : ℤ) × (d.x ≡ pos k *ℤ u) × (d.y ≡ pos k *ℤ v)
  twelve-has-divisor h = common→divides d h

  -- and where some k above 1 divides both parts, row 12 applies; (0,0) is 11, "12 .. after 11"
  pub divisor-has-twelve : NonZero d → (k : ℕ) → 1 < k → (u v : ℤ) → d.x ≡ pos k *ℤ u → d.y ≡ pos k *ℤ v → common_divisor d ≡ true
  divisor-has-twelve some k above u v x y = divides→common d some k above u v x y

-- ---- mirror

module _ (l : List ℤ) (v : Valid l) where
  -- "Mirror: the shape of all (-x, -y)": it has as many corners
  pub mirror-keeps-count : length (shape_of (mirrored (points l))) ≡ length (points l)
  mirror-keeps-count = mirror-count (points l) v.shape

  -- so 6, that the answer has too many corners, cannot come of it
  pub mirror-is-never-too-many : too_many (shape_of (mirrored (points l))) ≡ false
  mirror-is-never-too-many = mirror-few l v

  -- nor 7, "a corner of the answer is out of range"
  pub mirror-is-never-out-of-range : some_outside (numbers (shape_of (mirrored (points l)))) ≡ false
  mirror-is-never-out-of-range = mirror-near l v

-- ---- sweep

module _ (l : List ℤ) (v : ValidPoints l) where
  -- "Refusals are 1, 2, 3 and 8 only": 6, an answer of too many corners, cannot come of it
  pub sweep-is-never-too-many : too_many (shape_of (points l)) ≡ false
  sweep-is-never-too-many = sweep-few l v

  -- nor 7, "a corner of the answer is out of range"
  pub sweep-is-never-out-of-range : some_outside (numbers (shape_of (points l))) ≡ false
  sweep-is-never-out-of-range = sweep-near l v
