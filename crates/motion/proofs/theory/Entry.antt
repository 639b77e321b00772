-- Fractions of the way, and where it enters a wall. At f a way that is a past the wall at its start and b at its end is
-- (d - n)·a + n·b past it, times d.
--     Reached a b f                        at f it is not past the wall
--     never                                past it at both ends, it is past it all the way
--     later_trans                          the order of fractions
--     entering-on-way, entering-first      the entry is on the way, and none that is not past the wall is before it
--     entering-reached                     from the entry on, up to one that is not past the wall, it is not past it
--     last-on-way, last-above, last-below  the last of some entries
use Rattle.std.specs.Prelude.{◌≡◌, Bool, cond, [], ◌∷◌, ℕ, zero, suc, ◌<◌, ℤ, ◌-ℤ◌, ◌+ℤ◌, ◌*ℤ◌, ◌≤ℤ◌, ◌<ℤ◌}
use Rattle.std.proofs.Math.Path.{refl}
use Rattle.std.proofs.Math.Bool.{true, false}
use Rattle.std.proofs.Common.{not-suc-le-zero, arith}
use Rattle.std.proofs.Math.Decide.{ℕ_discrete}
use Rattle.std.proofs.Math.IntN.{pos}
use Rattle.std.specs.Int.Signed.{le_z, ≤ℤ_refl}
use Rattle.integer.specs.Linear.{linear, lia, ◌&◌}
use Rattle.integer.specs.Order.{◌<×<◌, ◌≤×≤◌, contra≤, weaken, le_z-true, le_z-false}
use Rattle.plane.specs.Distance.{Fraction, over, no_more}
use Rattle.motion.specs.Contact.{OnWay, NoLater, entering, later, last_entry}

abbrev pub Reached : ℤ → ℤ → Fraction → Type 0
Reached a b f = ((f.denominator -ℤ f.numerator) *ℤ a +ℤ f.numerator *ℤ b) ≤ℤ pos 0

-- ---- the order of fractions

pub later_trans : {f g h : Fraction} → OnWay f → OnWay g → OnWay h → NoLater f g → NoLater g h → NoLater f h
later_trans {f} {g} {h} p q r i j = contra≤ (λ k. lia
    (f.numerator ∷ f.denominator ∷ g.numerator ∷ g.denominator ∷ h.numerator ∷ h.denominator ∷ [])
    (k <×< q.whole & i ≤×≤ weaken r.whole & j ≤×≤ weaken p.whole) (search linear depth 40) (omega arith))

-- ---- a way that is past the wall at both ends

pub never : (a b : ℤ) (f : Fraction) → OnWay f → pos 0 <ℤ a → pos 0 <ℤ b → Reached a b f → ⊥
never a b f on h k reached =
    let one : pos 1 ≤ℤ a = lia (a ∷ []) h (search linear depth 40) (omega arith) in
    let other : pos 1 ≤ℤ b = lia (b ∷ []) k (search linear depth 40) (omega arith) in
    lia (a ∷ b ∷ f.numerator ∷ f.denominator ∷ []) (reached & on.whole & on.ended ≤×≤ one & on.begun ≤×≤ other)
    (search linear depth 40) (omega arith)

-- ---- one wall

module _ (a b : ℤ) where
  abbrev entered : Bool → Bool → Fraction
  entered s t = cond s (over (pos 0) (pos 1)) (cond t (over a (a -ℤ b)) (over (pos 1) (pos 1)))

  pub entering-on-way : OnWay (entering a b)
  unfolding entering
  entering-on-way = go (le_z a (pos 0)) refl (le_z b (pos 0)) refl
    where
      go : (s : Bool) → le_z a (pos 0) ≡ s → (t : Bool) → le_z b (pos 0) ≡ t
          → OnWay (entered s t)
      go true p t q = record { begun = record { le = tt }; ended = record { le = tt }; whole = record { lt = tt } }
      go false p true q = record {
        begun = weaken (le_z-false {x = a} {y = pos 0} p);
        ended = lia (a ∷ b ∷ []) (le_z-true {x = b} {y = pos 0} q) (search linear depth 40) (omega arith);
        whole = lia (a ∷ b ∷ []) (le_z-false {x = a} {y = pos 0} p & le_z-true {x = b} {y = pos 0} q) (search linear depth 40)
            (omega arith);
      }
      go false p false q = record { begun = record { le = tt }; ended = record { le = tt }; whole = record { lt = tt } }

  module _ (f : Fraction) (on : OnWay f) (reached : Reached a b f) where
    pub entering-first : NoLater (entering a b) f
    unfolding entering
    entering-first = go (le_z a (pos 0)) refl (le_z b (pos 0)) refl
      where
        go : (s : Bool) → le_z a (pos 0) ≡ s → (t : Bool) → le_z b (pos 0) ≡ t
            → NoLater (entered s t) f
        go true p t q = lia (f.numerator ∷ f.denominator ∷ []) on.begun (search linear depth 40) (omega arith)
        go false p true q = lia (a ∷ b ∷ f.numerator ∷ f.denominator ∷ []) reached (search linear depth 40) (omega arith)
        go false p false q = absurd (never a b f on (le_z-false {x = a} {y = pos 0} p) (le_z-false {x = b} {y = pos 0} q) reached)

    -- what is past the wall again after f was not past it before
    pub entering-reached : (g : Fraction) → OnWay g → NoLater (entering a b) g → NoLater g f → Reached a b g
    unfolding entering
    entering-reached g way = go (le_z a (pos 0)) refl (le_z b (pos 0)) refl
      where
        go : (s : Bool) → le_z a (pos 0) ≡ s → (t : Bool) → le_z b (pos 0) ≡ t
            → NoLater (entered s t) g → NoLater g f → Reached a b g
        go true p true q after before = lia (a ∷ b ∷ g.numerator ∷ g.denominator ∷ [])
            (way.ended ≤×≤ le_z-true {x = a} {y = pos 0} p & way.begun ≤×≤ le_z-true {x = b} {y = pos 0} q)
            (search linear depth 40) (omega arith)
        go true p false q after before =
            let rise : a ≤ℤ b = lia (a ∷ b ∷ []) (le_z-true {x = a} {y = pos 0} p & le_z-false {x = b} {y = pos 0} q)
            (search linear depth 40) (omega arith) in
            contra≤ (λ k. lia (a ∷ b ∷ f.numerator ∷ f.denominator ∷ g.numerator ∷ g.denominator ∷ [])
            (k <×< on.whole & before ≤×≤ rise & reached ≤×≤ weaken way.whole) (search linear depth 40) (omega arith))
        go false p true q after before = lia (a ∷ b ∷ g.numerator ∷ g.denominator ∷ []) after (search linear depth 40) (omega arith)
        go false p false q after before =
            absurd (never a b f on (le_z-false {x = a} {y = pos 0} p) (le_z-false {x = b} {y = pos 0} q) reached)

-- ---- the last of some

module _ (f g : Fraction) where
  pub later-on-way : OnWay f → OnWay g → OnWay (later f g)
  later-on-way p q = go (no_more g f)
    where
      go : (t : Bool) → OnWay (cond t f g)
      go true = p
      go false = q

  left-no-later : NoLater f (later f g)
  left-no-later = go (no_more g f) refl
    where
      go : (t : Bool) → no_more g f ≡ t → NoLater f (cond t f g)
      go true e = ≤ℤ_refl (f.numerator *ℤ f.denominator)
      go false e = weaken (le_z-false {x = g.numerator *ℤ f.denominator} {y = f.numerator *ℤ g.denominator} e)

  right-no-later : NoLater g (later f g)
  right-no-later = go (no_more g f) refl
    where
      go : (t : Bool) → no_more g f ≡ t → NoLater g (cond t f g)
      go true e = le_z-true {x = g.numerator *ℤ f.denominator} {y = f.numerator *ℤ g.denominator} e
      go false e = ≤ℤ_refl (g.numerator *ℤ g.denominator)

  later-least : (h : Fraction) → NoLater f h → NoLater g h → NoLater (later f g) h
  later-least h p q = go (no_more g f)
    where
      go : (t : Bool) → NoLater (cond t f g) h
      go true = p
      go false = q

module _ (f : ℕ → Fraction) where
  pub last-on-way : (n : ℕ) → ((i : ℕ) → i < n → OnWay (f i)) → OnWay (last_entry f n)
  last-on-way zero on = record { begun = record { le = tt }; ended = record { le = tt }; whole = record { lt = tt } }
  last-on-way (suc n) on = later-on-way (last_entry f n) (f n) (last-on-way n (λ i h. on i (omega arith))) (on n (omega arith))

  pub last-above : (n : ℕ) → ((i : ℕ) → i < n → OnWay (f i)) → (i : ℕ) → i < n → NoLater (f i) (last_entry f n)
  last-above zero on i h = absurd (not-suc-le-zero h)
  last-above (suc n) on i h = go (ℕ_discrete i n) (last-above n (λ j k. on j (omega arith)) i)
    where
      so_far : OnWay (last_entry f n)
      so_far = last-on-way n (λ j k. on j (omega arith))

      now : OnWay (f n)
      now = on n (omega arith)

      go : Dec (i ≡ n) → (i < n → NoLater (f i) (last_entry f n)) → NoLater (f i) (later (last_entry f n) (f n))
      go (yes e) before = rw e (right-no-later (last_entry f n) (f n))
      go (no e) before = later_trans (on i h) so_far (later-on-way (last_entry f n) (f n) so_far now) (before (omega arith))
          (left-no-later (last_entry f n) (f n))

  pub last-below : (n : ℕ) (g : Fraction) → OnWay g → ((i : ℕ) → i < n → NoLater (f i) g) → NoLater (last_entry f n) g
  last-below zero g on below = lia (g.numerator ∷ g.denominator ∷ []) on.begun (search linear depth 40) (omega arith)
  last-below (suc n) g on below = later-least (last_entry f n) (f n) g (last-below n g on (λ i h. below i (omega arith)))
      (below n (omega arith))
