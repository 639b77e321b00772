-- "Map changes that leave settled answers alone": what the excess of a changed shape over the old one promises. Each theorem is proved in
-- the theory; here it is only cited.
--     every direction      in no direction does the new shape reach further beyond the old one than the excess, and in some it does
--     outermost corner     no corner of the new shape is further from the old one
--     rounded up           `up` millimetres are enough, and nothing less is
--     settled              shapes that were w millimetres apart are w - up apart after a change; so it is with a drive and a passage
--     inside, chains       a shape inside the old one takes nothing away; changes one after another add up
--     the replies          what is answered, and when
--     settled answers      the same promises in the answered whole millimetres
--     the log              recording a name changes no answer about two other names, and a clearance from it by at most the excess
-- N is the new shape and O the old one; no number has a bound. A direction d is any two whole numbers, its squared length is value d d.
-- Not promised: shapes in contact have nothing to lose; where w is up they may touch. The excess of O over N is another number.
use Rattle.std.specs.Prelude.{◌≡◌, true, false, List, [], ◌∷◌, ◌++◌, ◌⊎◌, ◌↔◌, ℕ, ◌+◌, ◌≤◌, ◌<◌, ℤ, pos, nat_abs, ◌-ℤ◌, ◌*ℤ◌, length, ◌≤ℤ◌}
use Rattle.std.specs.Prelude.{◌<ℤ◌}
use Rattle.std.proofs.Common.{ap, ap₂}
use Rattle.plane.specs.Point.{Point, origin, corner}
use Rattle.plane.specs.Shape.{IsShape}
use Rattle.plane.specs.Reply.{answered, refused}
use Rattle.plane.specs.Refusal.{Valid}
use Rattle.plane.specs.Direction.{value, support}
use Rattle.plane.specs.Corner.{shape_of}
use Rattle.plane.specs.Measure.{squared, edge_squared}
use Rattle.plane.specs.Separation.{inside, apart}
use Rattle.plane.specs.Clearance.{falls_on, turn_on, top, bottom, nearest}
use Rattle.plane.specs.Floor.{Floored, on, corners, Same}
use Rattle.plane.specs.Question.{Question, reply, ask_clearance}
use Rattle.growth.specs.Grown.{driven, EndsIn}
use Rattle.passage.specs.Passage.{passable, free_width, ask_passage}
use Rattle.journal.specs.Format.{records}
use Rattle.journal.specs.Reading.{latest}
use Rattle.journal.specs.Adding.{added}
use Rattle.journal.specs.History.{is_finished}
use Rattle.plane.specs.Distance.{over}
use Rattle.excess.specs.Excess.{beyond, outermost, excess, up, excess_numbers, ask_excess}
use Rattle.excess.specs.Settled.{NoFurther, Nearer, further, ApartBy, Millimetres, Told}
use Rattle.excess.proofs.theory.Outermost.{outermost-among, excess-greatest, earlier-nearer, outermost-only}
use Rattle.excess.proofs.theory.Outermost.{excess-whole, excess-nonneg}
use Rattle.excess.proofs.theory.Reach.{reach-le, reach-attained, inside→none, none→inside}
use Rattle.excess.proofs.theory.Rounded.{up-enough, up_least}
use Rattle.excess.proofs.theory.Moved.{up→moved, up-reaches, reaches-up}
use Rattle.excess.proofs.theory.Clear.{inside-apart, inside-nearer}
use Rattle.excess.proofs.theory.Promises.{one-moved, both-moved, settled-driven, up-chain, up-inside}
use Rattle.excess.proofs.theory.Passages.{settled-free, settled-cart}
use Rattle.excess.proofs.theory.Replies.{excess-same, excess-answers, excess-floors, inside-reply, one_told, two-told, answer-kinds}
use Rattle.excess.proofs.theory.Replies.{excess-ends}
use Rattle.excess.proofs.theory.Answers.{one_number, excess-has, clearance-has, first-answered, second-answered, both-answered}
use Rattle.excess.proofs.theory.Answers.{still-apart}
use Rattle.excess.proofs.theory.Widths.{passage-has, passage-answered}
use Rattle.excess.proofs.theory.Books.{other_name, same_name, unfinished-name}

module _ (N O : List Point) (n : 0 < length N) (s : IsShape O) where
  -- the excess is t/q
  abbrev t : ℤ
  t = (excess N O).numerator

  abbrev q : ℤ
  q = (excess N O).denominator

  pub excess-is-a-fraction : (pos 0 ≤ℤ t) × (pos 0 <ℤ q)
  excess-is-a-fraction = (excess-nonneg N O n s, excess-whole N O n s)

  -- ---- every direction

  -- in no direction does N reach further beyond O: squared, over the direction's squared length
  pub no-direction-moved-further : (d : Point) → support d O <ℤ support d N
      → (further d N O *ℤ further d N O *ℤ q) ≤ℤ (t *ℤ value d d)
  no-direction-moved-further d far = reach-le N O n s d far

  -- and in some it reaches so far
  pub some-direction-moved-so-far : inside N O ≡ false → (d : Point) × (d ≡ origin → ⊥) × (support d O <ℤ support d N)
      × (further d N O *ℤ further d N O *ℤ q ≡ t *ℤ value d d)
  some-direction-moved-so-far h = let a = reach-attained N O n s h in (a.direction, a.some.non_zero, a.ahead, a.exact)

  -- the excess is 0 exactly if N is inside O
  pub inside-exactly-if-no-excess : (inside N O ≡ true) ↔ (t ≡ pos 0)
  inside-exactly-if-no-excess = (inside→none N O n s, none→inside N O n s)

  -- ---- outermost corner

  -- no corner of N is further from O
  pub no-corner-is-further : (i : ℕ) → i < length N → NoFurther (beyond (corner N i) O) (excess N O)
  no-corner-is-further i l = excess-greatest N O n s i l

  -- it is one of N, and the smallest position on a tie: every corner before it is nearer
  pub outermost-is-first : (outermost N O < length N) × ((i : ℕ) → i < outermost N O → Nearer (beyond (corner N i) O) (excess N O))
  outermost-is-first = (outermost-among N O n s, earlier-nearer N O n s)

  -- and no other corner meets this rule
  pub outermost-is-only-one : (i : ℕ) → i < length N
      → ((j : ℕ) → j < length N → NoFurther (beyond (corner N j) O) (beyond (corner N i) O))
      → ((j : ℕ) → j < i → Nearer (beyond (corner N j) O) (beyond (corner N i) O)) → i ≡ outermost N O
  outermost-is-only-one i l most less = outermost-only N O i l most less

  -- ---- rounded up

  -- t/q is at most the square of `up`, and of nothing less
  pub up-is-rounded-up : (t ≤ℤ (pos (up N O) *ℤ pos (up N O) *ℤ q)) × ((e : ℕ) → t ≤ℤ (pos e *ℤ pos e *ℤ q) → up N O ≤ e)
  up-is-rounded-up = (up-enough N O n s, up_least N O n s)

  -- so N reaches at most `up` millimetres beyond O, in every direction
  pub up-suffices : (d : Point) → support d O <ℤ support d N
      → (further d N O *ℤ further d N O) ≤ℤ (pos (up N O) *ℤ pos (up N O) *ℤ value d d)
  up-suffices d far = up-reaches N O n s d far

  -- and of no smaller number is this true
  pub nothing-less-does : (e : ℕ)
      → ((d : Point) → support d O <ℤ support d N → (further d N O *ℤ further d N O) ≤ℤ (pos e *ℤ pos e *ℤ value d d)) → up N O ≤ e
  nothing-less-does e far = reaches-up N O n s e far

  -- `up` is 0 exactly if N is inside O
  pub inside-exactly-if-up-is-0 : (inside N O ≡ true) ↔ (up N O ≡ 0)
  inside-exactly-if-up-is-0 = up-inside N O n s

-- ---- settled

-- O changed to N, by at most e; B did not change
module _ (N O B : List Point) (n : IsShape N) (o : IsShape O) (b : IsShape B) where
  module _ (e w : ℕ) (moved : up N O ≤ e) (less : e < w) (were : ApartBy (pos w) O B) where
    -- where O and B were w apart, N and B are w - e apart
    pub settled-is-so-clear : ApartBy (pos w -ℤ pos e) N B
    settled-is-so-clear = one-moved O B N o b n (up→moved N O n.some o moved) less were

    pub settled-is-apart : apart N B ≡ true
    settled-is-apart = settled-is-so-clear.are-apart

  -- ---- inside

  module _ (h : inside N O ≡ true) (were : apart O B ≡ true) where
    -- what was apart from O is apart from a shape inside O
    pub inside-stays-apart : apart N B ≡ true
    inside-stays-apart = inside-apart N O B n.some o.some b.some h were

    -- and no nearer to it
    pub inside-is-no-nearer : (top O B (nearest O B) *ℤ bottom N B (nearest N B)) ≤ℤ (top N B (nearest N B) *ℤ bottom O B (nearest O B))
    inside-is-no-nearer = inside-nearer N O B n o b h were

-- ---- settled, more than one change

-- both changed: O to N by at most e, B to C by at most f
pub settled-with-both-moved : (N O C B : List Point) → IsShape N → IsShape O → IsShape C → IsShape B → (e f w : ℕ)
    → up N O ≤ e → up C B ≤ f → e + f < w → ApartBy (pos w) O B → ApartBy (pos w -ℤ pos e -ℤ pos f) N C
settled-with-both-moved N O C B n o c b e f w m k less were =
    both-moved O B N C o b n c (up→moved N O n.some o m) (up→moved C B c.some b k) less were

-- a cart that drives straight from place u to place v: its outline changed from A to C by at most e, an obstacle from O to N by at most f
pub settled-drive : (N O C A : List Point) → IsShape N → IsShape O → IsShape C → IsShape A → (u v : Point) (e f w : ℕ)
    → up C A ≤ e → up N O ≤ f → e + f < w → ApartBy (pos w) (shape_of (driven A u v)) O
    → ApartBy (pos w -ℤ pos e -ℤ pos f) (shape_of (driven C u v)) N
settled-drive N O C A n o c a u v e f w m k less were = settled-driven N O C A n o c.some a u v m k less were

-- a passage between obstacles: the left one changed from L to M by at most e, the right one from R to S by at most f
module _ (L R A M S : List Point) (l : IsShape L) (r : IsShape R) (a : IsShape A) (m : IsShape M) (s : IsShape S) (e f : ℕ)
    (left : up M L ≤ e) (right : up S R ≤ f) (h : passable L R A ≡ true) where
  -- where the free width was more than e + f, the cart may still pass, and of the free width at most e + f are lost
  pub settled-passage : e + f < free_width L R A → (passable M S A ≡ true) × (free_width L R A ≤ free_width M S A + (e + f))
  settled-passage less = settled-free L R A M S l r a m.some s.some left right h less

  -- a cart that changed from A to C by at most g costs g on either side
  pub settled-passage-of-changed-cart : (C : List Point) → IsShape C → (g : ℕ) → up C A ≤ g → (e + g) + (f + g) < free_width L R A
      → (passable M S C ≡ true) × (free_width L R A ≤ free_width M S C + ((e + g) + (f + g)))
  settled-passage-of-changed-cart C c g cart less = settled-cart L R A M S l r a m.some s.some left right h C c.some cart less

-- a change from P to O and one from O to N come to at most both together
pub chain-adds-up : (N O P : List Point) → IsShape N → IsShape O → IsShape P → up N P ≤ up N O + up O P
chain-adds-up N O P n o p = up-chain N O P n.some o p

-- ---- the replies

module _ (new old : Floored) where
  abbrev N : List Point
  N = corners new

  abbrev O : List Point
  O = corners old

  -- two valid shapes on one floor are answered, with these numbers and their floor, and only they
  pub excess-is-answered-exactly : (reply (ask_excess new old) ≡ answered (excess_numbers N O ++ (pos new.floor ∷ []))) ↔ Same new old
  excess-is-answered-exactly = (λ h. excess-same new old _ h, λ s. excess-answers new old s)

  -- valid shapes on different floors are refused 13
  pub different-floors-are-refused : Valid new.list → Valid old.list → (new.floor ≡ old.floor → ⊥)
      → reply (ask_excess new old) ≡ refused 13 []
  different-floors-are-refused v w f = excess-floors new old v w f

  -- 0 is answered exactly if the new shape is inside the old one
  pub inside-is-answered-exactly : Same new old
      → (reply (ask_excess new old) ≡ answered (pos 0 ∷ pos new.floor ∷ [])) ↔ (inside N O ≡ true)
  inside-is-answered-exactly s = inside-reply new old s

  -- 1: corner c of the new shape and corner j of the old one, whose squared distance d is the excess; then u, rounded up, and the floor f
  pub corner-answer-tells : (c j u f : ℕ) (d : ℤ)
      → reply (ask_excess new old) ≡ answered (pos 1 ∷ pos c ∷ pos j ∷ d ∷ pos u ∷ pos f ∷ [])
      → Told new old c (over d (pos 1)) u f × (j < length O) × (d ≡ squared (corner N c) (corner O j))
  corner-answer-tells c j u f d h = one_told new old j c u f d h

  -- 2: corner c of the new shape falls on edge e of the old one, with turn size t and squared edge length q; t·t/q is the excess
  pub edge-answer-tells : (c e u f : ℕ) (t q : ℤ)
      → reply (ask_excess new old) ≡ answered (pos 2 ∷ pos c ∷ pos e ∷ t ∷ q ∷ pos u ∷ pos f ∷ [])
      → Told new old c (over (t *ℤ t) q) u f × (e < length O) × (falls_on O e (corner N c) ≡ true)
      × (t ≡ pos (nat_abs (turn_on O e (corner N c)))) × (q ≡ edge_squared O e)
  edge-answer-tells c e u f t q h = two-told new old e c u f t q h

  module _ (v : List ℤ) (h : reply (ask_excess new old) ≡ answered v) where
    -- there is no other answer
    pub answer-is-one-of-three : let floor = pos new.floor ∷ [] in (v ≡ pos 0 ∷ floor)
        ⊎ (((c : ℕ) × (j : ℕ) × (d : ℤ) × (u : ℕ) × (v ≡ pos 1 ∷ pos c ∷ pos j ∷ d ∷ pos u ∷ floor))
        ⊎ ((c : ℕ) × (e : ℕ) × (t : ℤ) × (q : ℤ) × (u : ℕ) × (v ≡ pos 2 ∷ pos c ∷ pos e ∷ t ∷ q ∷ pos u ∷ floor)))
    answer-is-one-of-three = answer-kinds new old v h

    -- and of each the last number before the floor is `up`: of inside it is 0
    pub answer-ends-in-up : EndsIn (pos (up N O) ∷ pos new.floor ∷ []) v
    answer-ends-in-up = excess-ends new old v h

-- ---- settled answers

-- an answer has one number of millimetres
pub millimetres-are-one-number : (q : Question) (w x : ℤ) → Millimetres q w → Millimetres q x → w ≡ x
millimetres-are-one-number q w x i j = one_number i j

-- and two valid shapes on one floor have such answers: of excess it is `up`
module _ (a b : Floored) (s : Same a b) where
  pub excess-has-millimetres : Millimetres (ask_excess a b) (pos (up (corners a) (corners b)))
  excess-has-millimetres = excess-has a b s

  pub clearance-has-millimetres : (w : ℕ) × Millimetres (ask_clearance a b) (pos w)
  clearance-has-millimetres = clearance-has a b s

-- where passage answers that the cart may pass, it is the free width
pub passage-has-millimetres : (l r c : Floored) (v : List ℤ) → reply (ask_passage l r c) ≡ answered v → (w : ℕ)
    × Millimetres (ask_passage l r c) (pos w)
    × (passable (corners l) (corners r) (corners c) ≡ true → w ≡ free_width (corners l) (corners r) (corners c))
passage-has-millimetres l r c v h = passage-has l r c v h

-- the clearance of the old shape from another one was answered w; e is answered of the change. The other one may be what a cart passes
-- over on a straight drive
module _ (new old other : Floored) (w e : ℤ) (change : Millimetres (ask_excess new old) e) where
  -- the clearance x of the new shape is at least w - e
  pub settled-answer : (x : ℤ) → Millimetres (ask_clearance old other) w → Millimetres (ask_clearance new other) x → (w -ℤ e) ≤ℤ x
  settled-answer x was is = first-answered old other new change was is

  -- whichever of the two is asked first
  pub settled-answer-turned : (x : ℤ) → Millimetres (ask_clearance other old) w → Millimetres (ask_clearance other new) x → (w -ℤ e) ≤ℤ x
  settled-answer-turned x was is = second-answered old other new change was is

  -- where w is more than e the new shape is apart from the other one: nothing need be asked again
  pub settled-answer-stays-apart : Millimetres (ask_clearance old other) w → e <ℤ w → apart (corners new) (corners other) ≡ true
  settled-answer-stays-apart was less = still-apart old other new change was less

-- both shapes changed, a to c by e and b to d by f
pub settled-answer-with-both-moved : (a b c d : Floored) (w x e f : ℤ) → Millimetres (ask_excess c a) e → Millimetres (ask_excess d b) f
    → Millimetres (ask_clearance a b) w → Millimetres (ask_clearance c d) x → (w -ℤ e -ℤ f) ≤ℤ x
settled-answer-with-both-moved a b c d w x e f m k was is = both-answered a b c d was is m k

-- the free width for the cart c: the left obstacle changed from l to m by e, the right one from r to s by f
pub settled-passage-answer : (l r m s c : Floored) (w x e f : ℤ) → Millimetres (ask_excess m l) e → Millimetres (ask_excess s r) f
    → Millimetres (ask_passage l r c) w → Millimetres (ask_passage m s c) x → (w -ℤ e -ℤ f) ≤ℤ x
settled-passage-answer l r m s c w x e f left right was is = passage-answered l r c m s was is left right

-- ---- the log

-- what a name has in the log b, and after an addition of the list l on floor f under the name n
module _ (b : List ℕ) (n f : ℕ) (l : List ℤ) (k : ℕ) where
  abbrev before : ℕ → Floored
  before m = latest m (records b)

  abbrev after : ℕ → Floored
  after m = latest m (records (added b n f l k).log)

  -- an addition that was cut or refused changes nothing
  pub unfinished-addition-changes-nothing : is_finished (added b n f l k).reply ≡ false → (m : ℕ) → after m ≡ before m
  unfinished-addition-changes-nothing h m = unfinished-name b n f l k h m

  module _ (done : (added b n f l k).reply ≡ answered (pos 1 ∷ [])) (name-fits : n < 65536) where
    -- one that finished changes no answer about two other names, whatever is asked
    pub recording-settles-other-names : (ask : Floored → Floored → Question) (m p : ℕ) → (m ≡ n → ⊥) → (p ≡ n → ⊥)
        → reply (ask (after m) (after p)) ≡ reply (ask (before m) (before p))
    recording-settles-other-names ask m p i j = ap₂ (λ x y. reply (ask x y)) (other_name b n f l k (ap is_finished done) name-fits m i)
        (other_name b n f l k (ap is_finished done) name-fits p j)

    -- the name has the new shape
    pub recorded-name-has-new-shape : f < 65536 → after n ≡ on l f
    recorded-name-has-new-shape floor-fits = same_name b n f l k (ap is_finished done) name-fits floor-fits

    -- and its clearance from another name is less by at most the excess of the new shape over the old one
    pub recording-settles-its-own-name : (m : ℕ) → (m ≡ n → ⊥) → (w x e : ℤ) → Millimetres (ask_excess (after n) (before n)) e
        → Millimetres (ask_clearance (before n) (before m)) w → Millimetres (ask_clearance (after n) (after m)) x → (w -ℤ e) ≤ℤ x
    recording-settles-its-own-name m i w x e change was is = first-answered (before n) (before m) (after n) change was
        (rw (other_name b n f l k (ap is_finished done) name-fits m i) at is)
