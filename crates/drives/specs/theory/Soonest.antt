-- The first of the soonest of records, for a drive from t to u of a cart with the outline A. Every fraction of contact has a denominator
-- above 0, so that the comparison orders all records.
--     soonest-step      the left fold: two at the front are one, the first unless the second is sooner
--     soonest-first     it is one of them, none is sooner, and each before it is later
--     soonest-snoc      with one record more; `drive-snoc`: what is answered then
use Rattle.std.specs.Prelude.{◌≡◌, refl, Bool, true, false, not, cond, ◌&&◌, List, [], ◌∷◌, ◌++◌, ℕ}
use Rattle.std.proofs.Common.{◌∙◌, ap, append-nil}
use Rattle.plane.specs.Point.{Point}
use Rattle.clearance.specs.theory.Distance.{no_more-refl, more-no_more, no_more-trans}
use Rattle.journal.specs.Current.{keep}
use Rattle.journal.proofs.theory.Current.{keep_append}
use Rattle.neighbours.specs.Settled.{FirstLeast}
use Rattle.neighbours.specs.theory.Least.{All, least_of-step, least_of-first, least_of-snoc}
use Rattle.motion.specs.Contact.{contact}
use Rattle.motion.proofs.theory.Meeting.{first-on-way}
use Rattle.gaps.specs.Gap.{grown_of}
use Rattle.drives.specs.Drive.{is_met, is_as_soon, first_met, met_numbers, soonest_numbers, drive_numbers}
use Rattle.drives.specs.Answered.{is_sooner_than_all, is_first}

-- nothing is asked of a record
abbrev Any : List ℕ → Type 0
Any r = Unit {0}

any : (rs : List (List ℕ)) → All Any rs
any [] = tt
any (r ∷ rs) = (tt, any rs)

module _ (A : List Point) (t u : Point) where
  soon-refl : (x : List ℕ) → Any x → is_as_soon A t u x x ≡ true
  unfolding is_as_soon
  soon-refl x g = no_more-refl (contact t u (grown_of A x))

  soon-total : (x y : List ℕ) → Any x → Any y → is_as_soon A t u x y ≡ false → is_as_soon A t u y x ≡ true
  unfolding is_as_soon
  soon-total x y g h e = more-no_more (contact t u (grown_of A x)) (contact t u (grown_of A y)) e

  soon-trans : (x y z : List ℕ) → Any x → Any y → Any z → is_as_soon A t u x y ≡ true → is_as_soon A t u y z ≡ true
      → is_as_soon A t u x z ≡ true
  unfolding is_as_soon
  soon-trans x y z f g h e k = no_more-trans (contact t u (grown_of A x)) (contact t u (grown_of A y)) (contact t u (grown_of A z))
      (first-on-way t u (grown_of A x)).whole (first-on-way t u (grown_of A y)).whole (first-on-way t u (grown_of A z)).whole e k

  pub soonest-step : (x y : List ℕ) (ys : List (List ℕ))
      → first_met A t u x (y ∷ ys) ≡ first_met A t u (cond (is_as_soon A t u x y) x y) ys
  soonest-step x y ys = least_of-step (is_as_soon A t u) Any soon-refl soon-total soon-trans x y ys (tt, (tt, any ys))

  pub soonest-first : (x : List ℕ) (xs : List (List ℕ)) → FirstLeast (is_as_soon A t u) (x ∷ xs) (first_met A t u x xs)
  soonest-first x xs = least_of-first (is_as_soon A t u) Any soon-refl soon-total soon-trans x xs (tt, any xs)

  pub soonest-snoc : (x : List ℕ) (xs : List (List ℕ)) (y : List ℕ)
      → first_met A t u x (xs ++ (y ∷ [])) ≡ cond (is_as_soon A t u (first_met A t u x xs) y) (first_met A t u x xs) y
  soonest-snoc x xs y = least_of-snoc (is_as_soon A t u) Any soon-refl soon-total soon-trans x xs y (tt, any xs) tt

  pub drive-snoc : (rs : List (List ℕ)) (r : List ℕ)
      → drive_numbers A t u (rs ++ (r ∷ [])) ≡ cond (is_first A t u rs r) (met_numbers A t u r) (drive_numbers A t u rs)
  drive-snoc rs r = ap (soonest_numbers A t u) (keep_append (is_met A t u) rs (r ∷ [])) ∙ go (is_met A t u r) (keep (is_met A t u) rs)
    where
      picked : (c : Bool) (w : List ℕ) → met_numbers A t u (cond c w r) ≡ cond (not c) (met_numbers A t u r) (met_numbers A t u w)
      picked true w = refl
      picked false w = refl

      -- by whether it is met, and those that are
      go : (c : Bool) (ys : List (List ℕ)) → soonest_numbers A t u (ys ++ cond c (r ∷ []) [])
          ≡ cond (c && is_sooner_than_all A t u ys r) (met_numbers A t u r) (soonest_numbers A t u ys)
      go true [] = refl
      go true (y ∷ ys) =
          ap (met_numbers A t u) (soonest-snoc y ys r) ∙ picked (is_as_soon A t u (first_met A t u y ys) r) (first_met A t u y ys)
      go false ys = ap (soonest_numbers A t u) (append-nil ys)
