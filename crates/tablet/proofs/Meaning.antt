-- What the definitions mean, in the words of document 02, W4. Each theorem is proved in the theory; here it is only cited.
--     one reading     accepted exactly if finite, whole and in range; never rounded; what goes back; each refusal exactly for its reason;
--                     scaling eighths
--     a corner        accepted exactly if both readings are; the table, in its order; each refusal exactly for its reason; what goes back
use Rattle.std.specs.Prelude.{Ok, Err}
use Rattle.std.specs.Prelude.{◌≡◌, ℕ, ◌≤◌, true, false, T, List, [], ◌∷◌, ℤ, pos, negsuc, ◌*ℤ◌, refl, Float}
use Rattle.std.proofs.Common.{ap, subst}
use Rattle.std.specs.Float.{fin, binary64}
use Rattle.std.specs.Float.Ieee.{mul, fits, of_int, round, size, units, odd}
use Rattle.integer.specs.Bound.{Within}
use Rattle.plane.specs.Limits.{max_coordinate}
use Rattle.plane.specs.Reply.{answered, refused, Row, NoneApply, First}
use Rattle.plane.proofs.theory.refusals.Rows.{first_row-given, first_row-none, first_row-answered, first_row-refused}
use Rattle.tablet.specs.Double.{finite, over, under, holding}
use Rattle.tablet.specs.Reading.{double, top, bottom, whole_number, read_as, corner_rows, tablet_reply, sent_back, tablet_sent}
use Rattle.tablet.specs.Reason.{Equals, Blamed}
use Rattle.tablet.proofs.theory.Value.{whole-value, value-whole, values-equal, held-value, scaled_value}
use Rattle.tablet.proofs.theory.Refused.{Comes, comes, not-finite-comes, not-whole-comes, far-comes, blamed-refused, refused-blamed}
use Rattle.tablet.proofs.theory.Corner.{corner-read, read-corner}
use Rattle.tablet.specs.declared.reading.Reading.{Reading}
use Rattle.tablet.specs.declared.reading.Reading.TheVariants.{Millimetres, Eighths}
use Rattle.tablet.specs.declared.reading.Fault.TheVariants.{NotFinite, NotWhole, Far}

-- ---- one reading

module _ (r : Reading) (n : ℤ) where
  -- "Accept it exactly if it is finite, its exact value in millimetres is whole, and it is in range": what is accepted as n is finite and
  -- in range, and its exact value is n
  pub accepted-exactly : read_as r ≡ Ok n → (finite (double r) ≡ true) × (top r ≡ n *ℤ pos (bottom r)) × Within max_coordinate n
  accepted-exactly h = whole-value r n h

  -- and what is finite, has the exact value n and is in range is accepted as n
  pub exactly-accepted : finite (double r) ≡ true → top r ≡ n *ℤ pos (bottom r) → Within max_coordinate n → read_as r ≡ Ok n
  exactly-accepted f h w = value-whole r n f h w

  -- "never round": readings that are accepted alike have equal exact values
  pub never-rounded : (t : Reading) → read_as r ≡ Ok n → read_as t ≡ Ok n → top r *ℤ pos (bottom t) ≡ top t *ℤ pos (bottom r)
  never-rounded t h k = values-equal r t n (whole-value r n h).1 (whole-value t n k).1

  -- "a pair of doubles that hold exactly the whole numbers": what goes back is finite, and its exact value is n
  pub sent-back-exactly : read_as r ≡ Ok n
      → (finite (holding n) ≡ true) × (top (Millimetres (holding n)) ≡ n *ℤ pos (bottom (Millimetres (holding n))))
  sent-back-exactly h = held-value n (whole-value r n h).2

-- millimetres and eighths alike
module _ (r : Reading) where
  -- "Refuse 17 for a value that is not finite": only such a value
  pub seventeen-is-not-finite : read_as r ≡ Err NotFinite → finite (double r) ≡ false
  seventeen-is-not-finite h = subst (Comes r) h (comes r)

  -- and every such value
  pub not-finite-is-seventeen : finite (double r) ≡ false → read_as r ≡ Err NotFinite
  not-finite-is-seventeen f = not-finite-comes r f

  -- "18 if not whole": only a finite reading whose exact value in millimetres is no whole number
  pub eighteen-is-not-whole : read_as r ≡ Err NotWhole → (finite (double r) ≡ true) × ((z : ℤ) → Equals r z → ⊥)
  eighteen-is-not-whole h = subst (Comes r) h (comes r)

  -- and every such reading, in range or not
  pub not-whole-is-eighteen : finite (double r) ≡ true → ((z : ℤ) → Equals r z → ⊥) → read_as r ≡ Err NotWhole
  not-whole-is-eighteen f none = not-whole-comes r f none

  -- "then 3 for range": only a finite reading whose exact value is a whole number out of range
  pub three-is-out-of-range : read_as r ≡ Err Far → (finite (double r) ≡ true) × (z : ℤ) × Equals r z × (Within max_coordinate z → ⊥)
  three-is-out-of-range h = subst (Comes r) h (comes r)

  -- and every such reading
  pub out-of-range-is-three : finite (double r) ≡ true → (z : ℤ) → Equals r z → (Within max_coordinate z → ⊥) → read_as r ≡ Err Far
  out-of-range-is-three f z e out = far-comes r f z e out

-- "Minus zero is 0, sent back as plus zero"
pub zero-sent-back : holding (pos 0) ≡ fin false 0 (pos 0)
unfolding holding of_int round size units odd
zero-sent-back = refl

-- "Scaling eighths by 0.125 loses nothing from magnitude 1 upward": the product, as millimetres, has the exact value of the eighths
pub scaling-loses-nothing : (v : Float) → T (fits binary64 v) → finite v ≡ true → under v ≤ over v
    → (finite (mul binary64 v (fin false 1 (negsuc 2))) ≡ true)
    × (top (Millimetres (mul binary64 v (fin false 1 (negsuc 2)))) *ℤ pos (bottom (Eighths v))
    ≡ top (Eighths v) *ℤ pos (bottom (Millimetres (mul binary64 v (fin false 1 (negsuc 2))))))
scaling-loses-nothing v t f h = scaled_value v t f h

-- ---- a corner

module _ (x y : Reading) where
  -- a corner is accepted exactly if both readings are, and its numbers are theirs
  pub accepted-corner-is-read : (m n : ℤ) → tablet_reply x y ≡ answered (m ∷ n ∷ []) → (read_as x ≡ Ok m) × (read_as y ≡ Ok n)
  accepted-corner-is-read m n h = corner-read x y m n h

  pub read-corner-is-accepted : (m n : ℤ) → read_as x ≡ Ok m → read_as y ≡ Ok n → tablet_reply x y ≡ answered (m ∷ n ∷ [])
  read-corner-is-accepted m n h k = read-corner x y m n h k

  -- "Send each accepted corner back as a pair of doubles"; a refusal "gives nothing else"
  pub accepted-corner-sent-back : (m n : ℤ) → tablet_reply x y ≡ answered (m ∷ n ∷ []) → (tablet_sent x y).doubles ≡ holding m ∷ holding n ∷
      []
  accepted-corner-sent-back m n h = ap sent_back h

  pub refused-corner-sends-nothing : (n : ℕ) (carries : List ℕ) → tablet_reply x y ≡ refused n carries → (tablet_sent x y).doubles ≡ []
  refused-corner-sends-nothing n carries h = ap sent_back h

  -- "Refuse 17 .., 18 .., then 3 .., in that order", "x is judged wholly before y, and a refusal says which of them it was": a row that
  -- applies, with none before it, gives its refusal
  pub first-row-refuses : {w : Row} → First w (corner_rows x y) → tablet_reply x y ≡ refused w.number w.carries
  unfolding tablet_reply
  first-row-refuses f = first_row-given _ f

  -- and nothing else does
  pub refused-by-first-row : (n : ℕ) (carries : List ℕ) → tablet_reply x y ≡ refused n carries
      → (w : Row) × First w (corner_rows x y) × (w.number ≡ n) × (w.carries ≡ carries)
  unfolding tablet_reply
  refused-by-first-row n carries h = first_row-refused (corner_rows x y) _ n carries h

  -- the same by exact values: a corner is refused only for the ticket's reason, of x, or of y where x is accepted; what the refusal carries
  -- says which
  pub refused-for-reason : (n : ℕ) (carries : List ℕ) → tablet_reply x y ≡ refused n carries → Blamed x y n carries
  refused-for-reason n carries h = refused-blamed x y n carries h

  -- and always for it
  pub reason-refuses : (n : ℕ) (carries : List ℕ) → Blamed x y n carries → tablet_reply x y ≡ refused n carries
  reason-refuses n carries q = blamed-refused x y q

  -- where no row applies, the corner is accepted
  pub answered-if-none : NoneApply (corner_rows x y) → tablet_reply x y ≡ answered (whole_number x ∷ whole_number y ∷ [])
  unfolding tablet_reply
  answered-if-none n = first_row-none (corner_rows x y) _ n

  -- and only there
  pub none-if-answered : (values : List ℤ) → tablet_reply x y ≡ answered values → NoneApply (corner_rows x y)
  unfolding tablet_reply
  none-if-answered values h = first_row-answered (corner_rows x y) _ values h
