-- What the numbers of an answer tell.
--     never-exactly                    0 is answered exactly if the driven cart is apart from every shape of the floor
--     one_told                         what the numbers of an answer that begins with 1 are
--     told-met, told-first, told-tie   its shape is met at its fraction, none before, and earlier ones in the log strictly after
--     told-clear                       nothing is met on fewer than its safe millimetres
--     told-contact                     it is what contact answers of that shape
use Rattle.std.specs.Prelude.{◌≡◌, refl, Bool, true, false, not, cond, ◌↔◌, ℕ, ℤ, ◌*ℤ◌, ◌<ℤ◌}
use Rattle.std.proofs.Common.{sym, ◌∙◌, subst, arith}
use Rattle.std.proofs.Math.Path.{ap, ap₂}
use mathlib.Core.List.Memᴰ
use mathlib.Core.List.{List, [], ◌∷◌, ◌++◌, Memᴰ}
use Rattle.std.proofs.lemmas.Bool.{not-true}
use Rattle.std.proofs.Math.IntN.{pos}
use Rattle.integer.specs.Linear.{linear, lia, ◌&◌}
use Rattle.integer.specs.Order.{◌<×<◌, ◌≤×≤◌, contra<, weaken}
use Rattle.plane.specs.Point.{Point}
use Rattle.plane.specs.Refusal.{Valid}
use Rattle.plane.specs.Reply.{answered, NoneApply}
use Rattle.plane.specs.Measure.{squared}
use Rattle.plane.specs.Separation.{apart}
use Rattle.plane.specs.Distance.{Fraction, over}
use Rattle.plane.specs.Floor.{Floored, corners}
use Rattle.plane.specs.Question.{Question, reply}
use Rattle.plane.proofs.theory.lists.Sought.{true-not-false}
use Rattle.plane.proofs.theory.refusals.Asked.{asked-values}
use Rattle.clearance.specs.theory.Distance.{no_more-le, more_lt}
use Rattle.growth.specs.Grown.{driven}
use Rattle.journal.specs.Format.{content}
use Rattle.journal.specs.Current.{keep}
use Rattle.neighbours.specs.Settled.{FirstLeast}
use Rattle.motion.specs.Contact.{OnWay, NoLater, cart_meets, contact, safe, ask_contact}
use Rattle.motion.proofs.theory.Entry.{later_trans}
use Rattle.motion.proofs.theory.Meeting.{first-on-way}
use Rattle.motion.proofs.theory.Safe.{safe-before}
use Rattle.gaps.specs.Gap.{grown_of, on_floor}
use Rattle.drives.specs.Drive.{is_met, is_as_soon, first_met, soonest_numbers, drive_rows, ask_drive}
use Rattle.drives.specs.Answered.{Told}
use Rattle.drives.specs.theory.Soonest.{soonest-first}
use Rattle.drives.specs.theory.Met.{drive-way, met-first, met-there, floor-contact}
use Rattle.drives.specs.theory.Replies.{drive-admitted, drive-answers}
use Rattle.drives.specs.theory.Floors.{keep-in, in-keep, keep-split}

-- f is strictly before g
abbrev Before : Fraction → Fraction → Type 0
Before f g = (f.numerator *ℤ g.denominator) <ℤ (g.numerator *ℤ f.denominator)

before-trans : {f g h : Fraction} → OnWay f → OnWay g → OnWay h → Before f g → NoLater g h → Before f h
before-trans {f} {g} {h} p q r i j = contra< (λ k. lia
    (f.numerator ∷ f.denominator ∷ g.numerator ∷ g.denominator ∷ h.numerator ∷ h.denominator ∷ [])
    (i <×< r.whole & j ≤×≤ weaken p.whole & k ≤×≤ weaken q.whole) (search linear depth 40) (omega arith))

module _ (b : List ℕ) (cart : Floored) (t u : Point) where
  abbrev A : List Point
  A = corners cart

  abbrev rs : List (List ℕ)
  rs = on_floor cart.floor b

  abbrev q : Question
  q = ask_drive b cart t u

  -- the corners of a record
  abbrev shape : List ℕ → List Point
  shape r = corners (content r)

  abbrev ones : List (List ℕ)
  ones = keep (is_met A t u) rs

  -- ---- never

  module _ (v : Valid cart.list) (n : NoneApply (drive_rows b cart t u)) where
    pub never-exactly : (reply q ≡ answered (pos 0 ∷ pos cart.floor ∷ []))
        ↔ ((r : List ℕ) → Memᴰ r rs → apart (driven A t u) (shape r) ≡ true)
    never-exactly = (
      λ h r m. away r m (none ones refl (asked-values q _ h)),
      λ h. drive-answers b cart t u v n
          ∙ ap (λ (xs : List (List ℕ)). answered (soonest_numbers A t u xs ++ (pos cart.floor ∷ []))) (nobody h ones refl),
    )
      where
        none : (xs : List (List ℕ)) → ones ≡ xs → pos 0 ∷ pos cart.floor ∷ [] ≡ soonest_numbers A t u xs ++ (pos cart.floor ∷ [])
            → ones ≡ []
        none [] e k = e
        none (x ∷ xs) e k = absurd (let z : ◌≡◌ {A = ℕ} 0 1 = cc k in let w : ⊥ = omega arith in w)

        away : (r : List ℕ) → Memᴰ r rs → ones ≡ [] → apart (driven A t u) (shape r) ≡ true
        away r m e = go (apart (driven A t u) (shape r)) (drive-way b cart t u v n r m)
          where
            go : (c : Bool) → is_met A t u r ≡ not c → c ≡ true
            go true k = refl
            go false k = absurd (Memᴰ.not-nil (subst (Memᴰ r) e (in-keep (is_met A t u) rs m k)))

        nobody : ((r : List ℕ) → Memᴰ r rs → apart (driven A t u) (shape r) ≡ true) → (xs : List (List ℕ)) → ones ≡ xs → ones ≡ []
        nobody h [] e = e
        nobody h (x ∷ xs) e =
            let k = keep-in (is_met A t u) rs (subst (Memᴰ x) (sym e) (Memᴰ.head refl)) in
            true-not-false k.1 (drive-way b cart t u v n x k.0 ∙ ap not (h x k.0))

  -- ---- met

  soon-le : (r s : List ℕ) → is_as_soon A t u r s ≡ true → NoLater (contact t u (grown_of A r)) (contact t u (grown_of A s))
  unfolding is_as_soon
  soon-le r s h = no_more-le (contact t u (grown_of A r)) (contact t u (grown_of A s)) h

  soon-lt : (r s : List ℕ) → is_as_soon A t u r s ≡ false → Before (contact t u (grown_of A s)) (contact t u (grown_of A r))
  unfolding is_as_soon
  soon-lt r s h = more_lt (contact t u (grown_of A r)) (contact t u (grown_of A s)) h

  module _ (m n d w f : ℤ) (h : reply q ≡ answered (pos 1 ∷ m ∷ n ∷ d ∷ w ∷ f ∷ [])) where
    pub one_told : Told b cart t u m n d w f
    one_told = go ones refl (asked-values q _ h)
      where
        found : (r : List ℕ) (xs : List (List ℕ)) → ones ≡ r ∷ xs → FirstLeast (is_as_soon A t u) ones (first_met A t u r xs)
        found r xs e = subst (λ (ys : List (List ℕ)). FirstLeast (is_as_soon A t u) ys (first_met A t u r xs)) (sym e)
            (soonest-first A t u r xs)

        go : (xs : List (List ℕ)) → ones ≡ xs → pos 1 ∷ m ∷ n ∷ d ∷ w ∷ f ∷ [] ≡ soonest_numbers A t u xs ++ (pos cart.floor ∷ [])
            → Told b cart t u m n d w f
        go [] e k = absurd (let z : ◌≡◌ {A = ℕ} 0 1 = cc k in let x : ⊥ = omega arith in x)
        go (r ∷ xs) e k =
            let first = found r xs e in
            let w = first_met A t u r xs in
            let split = keep-split (is_met A t u) rs first.before w first.after first.is in
            let own = keep-in (is_met A t u) rs
            (subst (Memᴰ w) (sym first.is) (Memᴰ.append_right first.before (Memᴰ.head refl))) in
            let x : n ≡ (contact t u (grown_of A w)).numerator = cc k in
            let y : d ≡ (contact t u (grown_of A w)).denominator = cc k in
            record {
              one = w;
              before = split.before;
              after = split.after;
              is = split.is;
              met = own.1;
              none-sooner = λ s i j. first.none-less s (in-keep (is_met A t u) rs i j);
              earlier-later = λ s i j.
                  first.earlier_more s (subst (Memᴰ s) split.kept (in-keep (is_met A t u) split.before i j));
              name-is = cc k;
              fraction-is = rw (x, y) refl;
              safe-is = cc k;
              floor-is = cc k;
            }

    v : Valid cart.list
    v = (drive-admitted b cart t u _ h).0

    none : NoneApply (drive_rows b cart t u)
    none = (drive-admitted b cart t u _ h).1

    module _ (told : Told b cart t u m n d w f) where
      abbrev one : List ℕ
      one = told.one

      pub told_in : Memᴰ one rs
      told_in = subst (Memᴰ one) (sym told.is) (Memᴰ.append_right told.before (Memᴰ.head refl))

      abbrev G : List Point
      G = grown_of A one

      -- contact's numbers, where it is met
      abbrev there : List ℤ
      there = pos 1 ∷ (contact t u G).numerator ∷ (contact t u G).denominator ∷ pos (safe t u G) ∷ []

      told-way : OnWay (over n d)
      told-way = subst OnWay (sym told.fraction-is) (first-on-way t u (grown_of A one))

      pub told-met : OnWay (over n d) × (cart_meets A (shape one) t u (over n d) ≡ true)
      told-met = (
        told-way,
        ap (cart_meets A (shape one) t u) told.fraction-is ∙ met-there b cart t u v none one told_in told.met,
      )

      module _ (r : List ℕ) (i : Memᴰ r rs) (g : Fraction) (on : OnWay g) where
        pub told-first : cart_meets A (shape r) t u g ≡ true → NoLater (over n d) g
        told-first k = subst (λ c. NoLater c g) (sym told.fraction-is) (later_trans (first-on-way t u (grown_of A one))
            (first-on-way t u (grown_of A r)) on sooner (met-first b cart t u v none r i g on k).1)
          where
            sooner : NoLater (contact t u (grown_of A one)) (contact t u (grown_of A r))
            sooner = soon-le one r (told.none-sooner r i (met-first b cart t u v none r i g on k).0)

        pub told-clear : (g.numerator *ℤ g.numerator *ℤ squared t u) <ℤ (w *ℤ w *ℤ (g.denominator *ℤ g.denominator))
            → cart_meets A (shape r) t u g ≡ false
        told-clear short = go (cart_meets A (shape r) t u g) refl
          where
            go : (c : Bool) → cart_meets A (shape r) t u g ≡ c → c ≡ false
            go false e = refl
            go true e = absurd (safe-before t u (grown_of A one) g on (rw told.safe-is at short)
                (subst (λ c. NoLater c g) told.fraction-is (told-first e)))

      pub told-tie : (r : List ℕ) → Memᴰ r told.before → (g : Fraction) → OnWay g → cart_meets A (shape r) t u g ≡ true
          → Before (over n d) g
      told-tie r m g on k = subst (λ c. Before c g) (sym told.fraction-is) (before-trans (first-on-way t u (grown_of A one))
          (first-on-way t u (grown_of A r)) on (soon-lt r one (told.earlier-later r m first.0)) first.1)
        where
          first : (is_met A t u r ≡ true) × NoLater (contact t u (grown_of A r)) g
          first = met-first b cart t u v none r (subst (Memᴰ r) (sym told.is) (Memᴰ.append_left _ m)) g on k

      pub told-contact : reply (ask_contact (content one) cart t u) ≡ answered (pos 1 ∷ n ∷ d ∷ w ∷ f ∷ [])
      unfolding is_met
      told-contact =
          floor-contact b cart t u v none one told_in
          ∙ ap (λ (c : Bool). answered (cond c (pos 0 ∷ []) there ++ (pos cart.floor ∷ [])))
          (not-true (apart (t ∷ u ∷ []) G) told.met)
          ∙ ap₂ (λ (c : Fraction) (z : ℤ). answered (pos 1 ∷ c.numerator ∷ c.denominator ∷ z ∷ pos cart.floor ∷ []))
          (sym told.fraction-is) (sym told.safe-is)
          ∙ ap (λ (z : ℤ). answered (pos 1 ∷ n ∷ d ∷ w ∷ z ∷ [])) (sym told.floor-is)
