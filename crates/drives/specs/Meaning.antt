-- The first shape of a floor that a straight drive meets: what its answer says. Each theorem is proved in the theory; here it is only
-- cited. Fractions are compared by products: a/b ≤ c/d says a·d ≤ c·b.
--     the replies         what is answered, and when
--     never               exactly if the driven cart is apart from every current shape of the floor
--     a shape is met      the answered one at the answered fraction; no shape of the floor at an earlier one, and those before it in the
--                         log only later; nothing on fewer than the safe millimetres; contact answers the same of that shape alone
--     settled             an addition that was cut or refused changes no answer; nor does one on another floor under a name that this
--                         floor does not have; one on this floor under a new name changes it exactly if its shape is met first, and then
--                         it is the answer
-- b is the log, `cart` the cart's outline with its floor, t the place of departure and u the destination.
use Rattle.std.specs.Prelude.{◌≡◌, true, false, cond, ◌↔◌, ℕ, ◌<◌, ℤ, pos, ◌*ℤ◌, length, ◌<ℤ◌}
use mathlib.Core.List.{List, [], ◌∷◌, ◌++◌, Memᴰ}
use Rattle.plane.specs.Point.{Point}
use Rattle.plane.specs.Reply.{answered, refused, NoneApply}
use Rattle.plane.specs.Refusal.{some_outside, Valid}
use Rattle.plane.specs.Output.{size_rows}
use Rattle.plane.specs.Measure.{squared}
use Rattle.plane.specs.Separation.{apart}
use Rattle.plane.specs.Distance.{Fraction, over}
use Rattle.plane.specs.Floor.{Floored, corners}
use Rattle.plane.specs.Question.{reply}
use Rattle.growth.specs.Grown.{driven}
use Rattle.journal.specs.Format.{recorded, records, content}
use Rattle.journal.specs.Reading.{damaged, held}
use Rattle.journal.specs.Adding.{added}
use Rattle.journal.specs.History.{is_finished}
use Rattle.motion.specs.Contact.{OnWay, NoLater, cart_meets, ask_contact}
use Rattle.gaps.specs.Gap.{grown_of, on_floor}
use Rattle.drives.specs.Drive.{met_numbers, drive_numbers, drive_rows, ask_drive}
use Rattle.drives.specs.Answered.{is_first, Told}
use Rattle.drives.specs.theory.Replies.{drive-admitted, drive-answers, empty-refused, departure-refused, destination-refused}
use Rattle.drives.specs.theory.Told.{never-exactly, one_told, told_in, told-met, told-first, told-tie, told-clear, told-contact}
use Rattle.drives.specs.theory.Additions.{unfinished-drive, elsewhere-drive, settled-drive}

module _ (b : List ℕ) (cart : Floored) (t u : Point) where
  -- ---- the replies

  -- a valid cart is answered, with these numbers and its floor, exactly if none of the rows applies
  pub drive-is-answered-exactly :
      (reply (ask_drive b cart t u)
      ≡ answered (drive_numbers (corners cart) t u (on_floor cart.floor b) ++ (pos cart.floor ∷ [])))
      ↔ (Valid cart.list × NoneApply (drive_rows b cart t u))
  drive-is-answered-exactly = (λ h. drive-admitted b cart t u _ h, λ s. drive-answers b cart t u s.0 s.1)

  module _ (v : Valid cart.list) (sound : damaged (records b) ≡ false) where
    -- 20 if no shape is on the floor
    pub empty-floor-is-refused : on_floor cart.floor b ≡ [] → reply (ask_drive b cart t u) ≡ refused 20 []
    empty-floor-is-refused none = empty-refused b cart t u v sound none

    module _ (some : 0 < length (on_floor cart.floor b)) where
      -- 3 of a place of departure out of range, which is the second list of the question
      pub far-departure-is-refused : some_outside (t.x ∷ t.y ∷ []) ≡ true → reply (ask_drive b cart t u) ≡ refused 3 (2 ∷ [])
      far-departure-is-refused far = departure-refused b cart t u v sound some far

      -- and of a destination, which is the third
      pub far-destination-is-refused : some_outside (t.x ∷ t.y ∷ []) ≡ false → some_outside (u.x ∷ u.y ∷ []) ≡ true
          → reply (ask_drive b cart t u) ≡ refused 3 (3 ∷ [])
      far-destination-is-refused near far = destination-refused b cart t u v sound some near far

  -- ---- never

  -- exactly if the driven cart is apart from every current shape of the floor
  pub never-is-answered-exactly : Valid cart.list → NoneApply (drive_rows b cart t u)
      → (reply (ask_drive b cart t u) ≡ answered (pos 0 ∷ pos cart.floor ∷ []))
      ↔ ((r : List ℕ) → Memᴰ r (on_floor cart.floor b) → apart (driven (corners cart) t u) (corners (content r)) ≡ true)
  never-is-answered-exactly v n = never-exactly b cart t u v n

  -- ---- a shape is met

  module _ (m n d w f : ℤ) (h : reply (ask_drive b cart t u) ≡ answered (pos 1 ∷ m ∷ n ∷ d ∷ w ∷ f ∷ [])) where
    -- what the numbers are: m the name of a current record of the floor, n/d its contact, w its safe millimetres, f the floor
    pub answer-tells : Told b cart t u m n d w f
    answer-tells = one_told b cart t u m n d w f h

    -- of a record that they tell of
    module _ (x : Told b cart t u m n d w f) where
      pub answered-shape-is-on-the-floor : Memᴰ x.one (on_floor cart.floor b)
      answered-shape-is-on-the-floor = told_in b cart t u m n d w f h x

      -- at n/d the cart meets the answered shape
      pub cart-meets-answered-shape : OnWay (over n d)
          × (cart_meets (corners cart) (corners (content x.one)) t u (over n d) ≡ true)
      cart-meets-answered-shape = told-met b cart t u m n d w f h x

      module _ (r : List ℕ) (i : Memᴰ r (on_floor cart.floor b)) (g : Fraction) (on : OnWay g) where
        -- no shape of the floor is met at an earlier fraction
        pub no-shape-is-met-earlier : cart_meets (corners cart) (corners (content r)) t u g ≡ true → NoLater (over n d) g
        no-shape-is-met-earlier k = told-first b cart t u m n d w f h x r i g on k

        -- nor where the cart has driven less than w millimetres: the floor is clear so far
        pub answered-millimetres-are-safe : (g.numerator *ℤ g.numerator *ℤ squared t u) <ℤ (w *ℤ w *ℤ (g.denominator *ℤ g.denominator))
            → cart_meets (corners cart) (corners (content r)) t u g ≡ false
        answered-millimetres-are-safe short = told-clear b cart t u m n d w f h x r i g on short

      -- "the first in the log on a tie": a shape before it is met only at a later fraction
      pub earlier-shapes-are-met-later : (r : List ℕ) → Memᴰ r x.before → (g : Fraction) → OnWay g
          → cart_meets (corners cart) (corners (content r)) t u g ≡ true → (n *ℤ g.denominator) <ℤ (g.numerator *ℤ d)
      earlier-shapes-are-met-later r i g on k = told-tie b cart t u m n d w f h x r i g on k

      -- contact answers the same of the answered shape alone
      pub answer-is-that-of-contact :
          reply (ask_contact (content x.one) cart t u) ≡ answered (pos 1 ∷ n ∷ d ∷ w ∷ f ∷ [])
      answer-is-that-of-contact = told-contact b cart t u m n d w f h x

-- ---- settled

module _ (cart : Floored) (t u : Point) (b : List ℕ) (n g : ℕ) (l : List ℤ) (k : ℕ) where
  -- cut or refused
  pub unfinished-addition-changes-no-drive : is_finished (added b n g l k).reply ≡ false
      → reply (ask_drive (added b n g l k).log cart t u) ≡ reply (ask_drive b cart t u)
  unfinished-addition-changes-no-drive stopped = unfinished-drive cart t u b n g l k stopped

  -- finished on another floor, under a name that no shape of this floor has
  pub addition-elsewhere-changes-no-drive : is_finished (added b n g l k).reply ≡ true → n < 65536 → g < 65536 → (g ≡ cart.floor → ⊥)
      → held n (on_floor cart.floor b) ≡ false → reply (ask_drive (added b n g l k).log cart t u) ≡ reply (ask_drive b cart t u)
  addition-elsewhere-changes-no-drive done fits floor-fits other new = elsewhere-drive cart t u b n g l k done fits floor-fits other new

-- finished on this floor, under a name that no shape of it has, where 6 and 7 let the new shape pass: the answer changes exactly if the new
-- shape is met, and sooner than the others; then it is the answer
pub addition-settles-drive : (cart : Floored) (t u : Point) (b : List ℕ) (n : ℕ) (l : List ℤ) (k : ℕ) (v : List ℤ)
    → reply (ask_drive b cart t u) ≡ answered v → is_finished (added b n cart.floor l k).reply ≡ true → n < 65536 → cart.floor < 65536
    → held n (on_floor cart.floor b) ≡ false → let A = corners cart in let r = recorded n cart.floor l in
    NoneApply (size_rows (grown_of A r)) → reply (ask_drive (added b n cart.floor l k).log cart t u)
    ≡ cond (is_first A t u (on_floor cart.floor b) r) (answered (met_numbers A t u r ++ (pos cart.floor ∷ [])))
    (reply (ask_drive b cart t u))
addition-settles-drive cart t u b n l k v before done fits floor-fits new sized =
    settled-drive cart t u b n l k v before done fits floor-fits new sized
