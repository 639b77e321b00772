-- The nearest shape in fractions, and what is answered after additions.
--     near_le, near-lt                no shape is nearer, and earlier ones are further, as exact fractions
--     apart-all, all_apart            apart from the nearest exactly if apart from all
--     finished-answer, after-answer   what is answered after an addition, and after a history
use Rattle.std.specs.Prelude.{◌≡◌, refl, Bool, true, false, cond, ℕ, ◌<◌, ℤ, pos, ◌*ℤ◌, ◌≤ℤ◌, ◌<ℤ◌}
use Rattle.std.proofs.Common.{sym, ◌∙◌, ap, ap₂, subst, arith}
use mathlib.Core.List.Memᴰ
use mathlib.Core.List.{List, [], ◌∷◌, ◌++◌, Memᴰ}
use Rattle.integer.specs.Linear.{linear, lia, ◌&◌}
use Rattle.integer.specs.Order.{◌<×<◌}
use Rattle.plane.specs.Point.{Point, points}
use Rattle.plane.specs.Shape.{IsShape}
use Rattle.plane.specs.Refusal.{Valid}
use Rattle.plane.specs.Separation.{apart}
use Rattle.plane.specs.Clearance.{clearance_numbers}
use Rattle.plane.specs.Distance.{Fraction, distance}
use Rattle.plane.specs.Reply.{answered}
use Rattle.plane.specs.Question.{reply}
use Rattle.clearance.specs.theory.Distance.{no_more-le, more_lt, distance_none, distance-whole, distance-positive}
use Rattle.journal.specs.Format.{recorded, records, name}
use Rattle.journal.specs.Reading.{damaged}
use Rattle.journal.specs.Current.{around}
use Rattle.journal.specs.Adding.{added}
use Rattle.journal.specs.History.{Addition, after, is_finished}
use Rattle.journal.proofs.theory.Read.{recorded-name}
use Rattle.journal.proofs.theory.Added.{finished-accepted, finished-sound}
use Rattle.journal.proofs.theory.History.{after-sound}
use Rattle.neighbours.specs.Nearest.{shape_of, is_as_near, ask_nearest}
use Rattle.neighbours.specs.Settled.{IsNearest, told, is_closer, Quiet}
use Rattle.neighbours.specs.theory.Least.{all_in}
use Rattle.neighbours.specs.theory.Near.{Whole, around-whole}
use Rattle.neighbours.specs.theory.Settled.{nearest-answered, finished-nearest, after-nearest, new-shape}

module _ (A : List Point) (f but : ℕ) (b w : List ℕ) (near : IsNearest A f but b w) where
  abbrev far : List ℕ → Fraction
  far r = distance A (shape_of r)

  pub near_le : (r : List ℕ) → Memᴰ r (around f but (records b))
      → ((far w).numerator *ℤ (far r).denominator) ≤ℤ ((far r).numerator *ℤ (far w).denominator)
  unfolding is_as_near
  near_le r m = no_more-le (far w) (far r) (near.none-less r m)

  pub near-lt : (r : List ℕ) → Memᴰ r near.before
      → ((far w).numerator *ℤ (far r).denominator) <ℤ ((far r).numerator *ℤ (far w).denominator)
  unfolding is_as_near
  near-lt r m = more_lt (far r) (far w) (near.earlier_more r m)

  near-in : Memᴰ w (around f but (records b))
  near-in = subst (Memᴰ w) (sym near.is) (Memᴰ.append_right near.before (Memᴰ.head refl))

  module _ (s : IsShape A) (sound : damaged (records b) ≡ false) where
    whole_of : (r : List ℕ) → Memᴰ r (around f but (records b)) → Whole r
    whole_of r m = all_in Whole (around f but (records b)) (around-whole f but (records b) sound) m

    -- a positive fraction is at most another: that is positive too
    above : (n d m e : ℤ) → pos 0 <ℤ n → pos 0 <ℤ e → (n *ℤ e) ≤ℤ (m *ℤ d) → m ≡ pos 0 → ⊥
    above n d m e h k le z = lia (n ∷ d ∷ e ∷ []) (h <×< k & subst (λ x. (n *ℤ e) ≤ℤ (x *ℤ d)) z le) (search linear depth 40) (omega arith)

    pub apart-all : apart A (shape_of w) ≡ true → (r : List ℕ) → Memᴰ r (around f but (records b)) → apart A (shape_of r) ≡ true
    apart-all h r m = go (apart A (shape_of r)) refl
      where
        go : (t : Bool) → apart A (shape_of r) ≡ t → t ≡ true
        go true e = refl
        go false e = absurd (above (far w).numerator (far w).denominator (far r).numerator (far r).denominator
            (distance-positive A (shape_of w) s (whole_of w near-in) h) (distance-whole A (shape_of r) s (whole_of r m)) (near_le r m)
            (ap (λ (x : Fraction). x.numerator) (distance_none A (shape_of r) e)))

    pub all_apart : ((r : List ℕ) → Memᴰ r (around f but (records b)) → apart A (shape_of r) ≡ true) → apart A (shape_of w) ≡ true
    all_apart h = h w near-in

-- ---- additions

module _ (b : List ℕ) (l : List ℤ) (f but : ℕ) (v : Valid l) (w : List ℕ) (near : IsNearest (points l) f but b w) where
  abbrev A : List Point
  A = points l

  module _ (n g : ℕ) (S : List ℤ) (k : ℕ) (done : is_finished (added b n g S k).reply ≡ true) (name-fits : n < 65536)
      (floor-fits : g < 65536) (other : name w ≡ n → ⊥) where
    pub finished-answer : reply (ask_nearest (added b n g S k).log l f but)
        ≡ cond (is_closer A f but w n g S) (answered (pos n ∷ clearance_numbers A (points S) ++ (pos f ∷ [])))
        (reply (ask_nearest b l f but))
    finished-answer =
        nearest-answered (added b n g S k).log l f but v (finished-sound b n g S k done)
        (cond (is_closer A f but w n g S) (recorded n g S) w)
        (finished-nearest A v.shape f but b w near n g S k done name-fits floor-fits other)
        ∙ go (is_closer A f but w n g S)
      where
        new : told A f (recorded n g S) ≡ answered (pos n ∷ clearance_numbers A (points S) ++ (pos f ∷ []))
        new = ap₂ (λ (m : ℕ) (B : List Point). answered (pos m ∷ clearance_numbers A B ++ (pos f ∷ [])))
            (recorded-name n g S (finished-accepted b n g S k done).valid name-fits)
            (new-shape A v.shape f but b w near n g S k done name-fits floor-fits other)

        go : (t : Bool) → told A f (cond t (recorded n g S) w)
            ≡ cond t (answered (pos n ∷ clearance_numbers A (points S) ++ (pos f ∷ []))) (reply (ask_nearest b l f but))
        go true = new
        go false = sym (nearest-answered b l f but v (finished-accepted b n g S k done).sound w near)

  pub after-answer : damaged (records b) ≡ false → (hs : List Addition) → Quiet A f but w hs b
      → reply (ask_nearest (after hs b) l f but) ≡ reply (ask_nearest b l f but)
  after-answer sound hs q =
      nearest-answered (after hs b) l f but v (after-sound hs b sound) w (after-nearest A v.shape f but w hs b near q)
      ∙ sym (nearest-answered b l f but v sound w near)
