-- First contact on a straight drive: what the answer of contact says. Each theorem is proved in the theory; here it is only cited.
-- Fractions are compared by products: a/b ≤ c/d says a·d ≤ c·b.
--     the first fraction     it is on the way, it meets, none that meets is earlier, and it is the only one
--     never                  there is one exactly if the driven cart is not apart from the obstacle
--     the cart               at every fraction the cart meets the obstacle exactly if its place meets the grown obstacle
--     safe millimetres       rounded down; on fewer nothing is met
--     larger                 larger carts and obstacles are met no later, and leave no more safe millimetres
--     the replies            what is answered, and when
-- t is the place of departure and u the destination, G a shape: any whole numbers, without bound. A is the cart's outline, B the obstacle.
-- The way back is not claimed to be alike: its first contact is this way's last.
use Rattle.std.specs.Prelude.{◌≡◌, true, false, not, List, [], ◌∷◌, ◌++◌, ◌↔◌, ◌≤◌, ◌<◌, ℤ, pos, ◌+ℤ◌, ◌*ℤ◌, length, ◌≤ℤ◌, ◌<ℤ◌}
use Rattle.plane.specs.Point.{Point, point}
use Rattle.plane.specs.Shape.{IsShape}
use Rattle.plane.specs.Reply.{answered, refused, NoneApply}
use Rattle.plane.specs.Refusal.{some_outside}
use Rattle.plane.specs.Furthest.{common_divisor}
use Rattle.plane.specs.Measure.{squared}
use Rattle.plane.specs.Separation.{inside, apart}
use Rattle.plane.specs.Distance.{Fraction, over}
use Rattle.plane.specs.Floor.{Floored, corners, Same}
use Rattle.plane.specs.Question.{reply}
use Rattle.growth.specs.Grown.{grown, driven}
use Rattle.growth.proofs.theory.Places.{grown-shape}
use Rattle.motion.specs.Contact.{OnWay, NoLater, meets, cart_meets, edge_arrival, lowest, contact, safe}
use Rattle.motion.specs.Contact.{contact_numbers, contact_rows, ask_contact, Told}
use Rattle.motion.proofs.theory.Meeting.{first-on-way, first-lowest, none-earlier, first-meets, first-only, met-unless-apart}
use Rattle.motion.proofs.theory.Edges.{edges-first}
use Rattle.motion.proofs.theory.Larger.{cart-met, larger-first, grown-within}
use Rattle.motion.proofs.theory.Safe.{safe-bounded, safe-clear, larger-safe}
use Rattle.motion.proofs.theory.Replies.{contact-admitted, contact-answers, departure-refused, destination-refused}
use Rattle.motion.proofs.theory.Replies.{never-exactly, one_told, told-met, told-first, told-clear}

-- ---- the first fraction

module _ (t u : Point) (G : List Point) where
  -- the contact is a fraction of the way: from 0 to 1
  pub contact-is-on-way : OnWay (contact t u G)
  contact-is-on-way = first-on-way t u G

  -- in lowest terms
  pub contact-is-lowest : common_divisor (point (contact t u G).numerator (contact t u G).denominator) ≡ false
  contact-is-lowest = first-lowest t u G

  module _ (s : IsShape G) where
    -- it meets exactly if the way is not apart from the shape
    pub contact-unless-apart : meets t u G (contact t u G) ≡ not (apart (t ∷ u ∷ []) G)
    contact-unless-apart = met-unless-apart t u G s

    module _ (f : Fraction) (on : OnWay f) (met : meets t u G f ≡ true) where
      -- no fraction of the way that meets is earlier
      pub none-is-earlier : NoLater (contact t u G) f
      none-is-earlier = none-earlier t u G s f on met

      -- where any fraction meets the contact does
      pub contact-meets-if-any : meets t u G (contact t u G) ≡ true
      contact-meets-if-any = first-meets t u G s f on met

      -- a fraction in lowest terms that meets, and than which none that meets is earlier, is the contact: no other answer is right
      pub contact-is-only-one : common_divisor (point f.numerator f.denominator) ≡ false
          → ((g : Fraction) → OnWay g → meets t u G g ≡ true → NoLater f g) → f ≡ contact t u G
      contact-is-only-one low first = first-only t u G s f on met low first

      -- from three corners on the edges alone give it
      pub edges-arrive : 2 < length G → lowest (edge_arrival t u G) ≡ contact t u G
      edges-arrive three = edges-first t u G s three f on met

    -- ---- safe millimetres

    -- a fraction whose way is shorter than the safe millimetres meets nothing: lengths are squared
    pub safe-millimetres-are-safe : (f : Fraction) → OnWay f
        → (f.numerator *ℤ f.numerator *ℤ squared t u) <ℤ (pos (safe t u G) *ℤ pos (safe t u G) *ℤ (f.denominator *ℤ f.denominator))
        → meets t u G f ≡ false
    safe-millimetres-are-safe f on short = safe-clear t u G s f on short

  -- they are the length of the way to the contact, rounded down: one millimetre more is beyond it
  pub safe-millimetres-are-rounded-down : let n = (contact t u G).numerator in let d = (contact t u G).denominator in
      let w = pos (safe t u G) in
      ((w *ℤ w *ℤ (d *ℤ d)) ≤ℤ (n *ℤ n *ℤ squared t u)) × ((n *ℤ n *ℤ squared t u) <ℤ ((w +ℤ pos 1) *ℤ (w +ℤ pos 1) *ℤ (d *ℤ d)))
  safe-millimetres-are-rounded-down = ((safe-bounded t u G).low, (safe-bounded t u G).high)

-- ---- the cart

-- at every fraction of the way the cart meets the obstacle exactly if its place is a point of the grown obstacle
pub cart-meets-as-its-place : (A B : List Point) → 0 < length A → 0 < length B → (t u : Point) (f : Fraction) → OnWay f
    → cart_meets A B t u f ≡ meets t u (grown B A) f
cart-meets-as-its-place A B a b t u f on = cart-met A B a b t u f on.whole

-- ---- larger

module _ (t u : Point) (B D A C : List Point) (b : 0 < length B) (d : 0 < length D) (a : 0 < length A) (c : 0 < length C)
    (obstacle : inside B D ≡ true) (cart : inside A C ≡ true) (near : apart (t ∷ u ∷ []) (grown B A) ≡ false) where
  -- a larger cart meets a larger obstacle no later
  pub larger-meets-no-later : NoLater (contact t u (grown D C)) (contact t u (grown B A))
  larger-meets-no-later = larger-first t u (grown B A) (grown D C) (grown-within B D A C b d a c obstacle cart)
      (grown-shape B A b a) (grown-shape D C d c) near

  -- and has no more safe millimetres
  pub larger-is-no-safer : safe t u (grown D C) ≤ safe t u (grown B A)
  larger-is-no-safer = larger-safe t u (grown B A) (grown D C) (grown-shape B A b a) (grown-shape D C d c)
      (grown-within B D A C b d a c obstacle cart) near

-- ---- the replies

module _ (b a : Floored) (t u : Point) where
  -- two valid shapes on one floor are answered, with these numbers and their floor, exactly if 3 passes both places, and 6 and 7 the
  -- grown obstacle
  pub contact-is-answered-exactly :
      (reply (ask_contact b a t u) ≡ answered (contact_numbers t u (grown (corners b) (corners a)) ++ (pos b.floor ∷ [])))
      ↔ (Same b a × NoneApply (contact_rows b a t u))
  contact-is-answered-exactly = (λ h. contact-admitted b a t u _ h, λ s. contact-answers b a t u s.0 s.1)

  module _ (s : Same b a) where
    -- a place of departure out of range is 3, and blames the third list of the question
    pub far-departure-is-refused : some_outside (t.x ∷ t.y ∷ []) ≡ true → reply (ask_contact b a t u) ≡ refused 3 (3 ∷ [])
    far-departure-is-refused h = departure-refused b a t u s h

    -- a destination out of range is 3, and blames the fourth
    pub far-destination-is-refused : some_outside (t.x ∷ t.y ∷ []) ≡ false → some_outside (u.x ∷ u.y ∷ []) ≡ true
        → reply (ask_contact b a t u) ≡ refused 3 (4 ∷ [])
    far-destination-is-refused k h = destination-refused b a t u s k h

    -- never is answered exactly if the driven cart is apart from the obstacle
    pub never-is-answered-exactly : NoneApply (contact_rows b a t u)
        → (reply (ask_contact b a t u) ≡ answered (pos 0 ∷ pos b.floor ∷ [])) ↔ (apart (driven (corners a) t u) (corners b) ≡ true)
    never-is-answered-exactly n = never-exactly b a t u s n

  -- an answer that begins with 1
  module _ (n d w f : ℤ) (h : reply (ask_contact b a t u) ≡ answered (pos 1 ∷ n ∷ d ∷ w ∷ f ∷ [])) where
    -- says that the driven cart meets the obstacle; n/d is the contact, w the safe millimetres, f the floor
    pub answer-tells : Told b a t u n d w f
    answer-tells = one_told b a t u n d w f h

    -- at n/d the cart meets the obstacle
    pub cart-meets-at-answer : OnWay (over n d) × (cart_meets (corners a) (corners b) t u (over n d) ≡ true)
    cart-meets-at-answer = told-met b a t u n d w f h

    module _ (g : Fraction) (on : OnWay g) where
      -- and at no earlier fraction of the way
      pub cart-meets-no-earlier : cart_meets (corners a) (corners b) t u g ≡ true → NoLater (over n d) g
      cart-meets-no-earlier m = told-first b a t u n d w f h g on m

      -- nor where it has driven less than w millimetres
      pub answered-millimetres-are-safe : (g.numerator *ℤ g.numerator *ℤ squared t u) <ℤ (w *ℤ w *ℤ (g.denominator *ℤ g.denominator))
          → cart_meets (corners a) (corners b) t u g ≡ false
      answered-millimetres-are-safe short = told-clear b a t u n d w f h g on short
