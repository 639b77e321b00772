-- Records compared by their distance from a shape A.
--     Whole r                      the record holds a shape
--     near-refl, near-total, near-trans     the comparison orders them
--     nearest-step, nearest-first, nearest-snoc      the laws of `Least.antt` for them
--     sound-whole, around-whole    no record is bad: each that is around holds a shape
use Rattle.std.specs.Prelude.{◌≡◌, Bool, true, false, cond, List, [], ◌∷◌, ◌++◌, ℕ}
use Rattle.plane.specs.Point.{Point}
use Rattle.plane.specs.Shape.{IsShape}
use Rattle.plane.specs.Distance.{distance}
use Rattle.plane.proofs.theory.lists.Sought.{either-false}
use Rattle.clearance.specs.theory.Distance.{no_more-refl, more-no_more, no_more-trans, distance-whole}
use Rattle.journal.specs.Format.{name, bad}
use Rattle.journal.specs.Reading.{damaged, held}
use Rattle.journal.specs.Current.{current, keep, is_around, around}
use Rattle.journal.proofs.theory.Kind.{good→facts}
use Rattle.neighbours.specs.Nearest.{shape_of, is_as_near, nearest_of}
use Rattle.neighbours.specs.theory.Least.{All, least_of-step, least_of-first, least_of-snoc}
use Rattle.neighbours.specs.Settled.{FirstLeast}

abbrev pub Whole : List ℕ → Type 0
Whole r = IsShape (shape_of r)

module _ (A : List Point) (s : IsShape A) where
  pub near-refl : (x : List ℕ) → Whole x → is_as_near A x x ≡ true
  unfolding is_as_near
  near-refl x w = no_more-refl (distance A (shape_of x))

  pub near-total : (x y : List ℕ) → Whole x → Whole y → is_as_near A x y ≡ false → is_as_near A y x ≡ true
  unfolding is_as_near
  near-total x y w v h = more-no_more (distance A (shape_of x)) (distance A (shape_of y)) h

  pub near-trans : (x y z : List ℕ) → Whole x → Whole y → Whole z → is_as_near A x y ≡ true → is_as_near A y z ≡ true → is_as_near A x z ≡
      true
  unfolding is_as_near
  near-trans x y z w v u h k = no_more-trans (distance A (shape_of x)) (distance A (shape_of y)) (distance A (shape_of z))
      (distance-whole A (shape_of x) s w) (distance-whole A (shape_of y) s v) (distance-whole A (shape_of z) s u) h k

  pub nearest-step : (x y : List ℕ) (ys : List (List ℕ)) → All Whole (x ∷ y ∷ ys)
      → nearest_of A x (y ∷ ys) ≡ nearest_of A (cond (is_as_near A x y) x y) ys
  nearest-step = least_of-step (is_as_near A) Whole near-refl near-total near-trans

  pub nearest-first : (x : List ℕ) (xs : List (List ℕ)) → All Whole (x ∷ xs) → FirstLeast (is_as_near A) (x ∷ xs) (nearest_of A x xs)
  nearest-first = least_of-first (is_as_near A) Whole near-refl near-total near-trans

  pub nearest-snoc : (x : List ℕ) (xs : List (List ℕ)) (y : List ℕ) → All Whole (x ∷ xs) → Whole y
      → nearest_of A x (xs ++ (y ∷ [])) ≡ cond (is_as_near A (nearest_of A x xs) y) (nearest_of A x xs) y
  nearest-snoc = least_of-snoc (is_as_near A) Whole near-refl near-total near-trans

-- ---- no record is bad

pub good-whole : (r : List ℕ) → bad r ≡ false → Whole r
good-whole r h = (good→facts r h).shape.shape

pub sound-whole : (rs : List (List ℕ)) → damaged rs ≡ false → All Whole rs
sound-whole [] d = tt
sound-whole (r ∷ rs) d = let parts = either-false (bad r) (damaged rs) d in (good-whole r parts.0, sound-whole rs parts.1)

pub keep_all : (p : List ℕ → Bool) (rs : List (List ℕ)) → All Whole rs → All Whole (keep p rs)
keep_all p [] a = tt
keep_all p (r ∷ rs) a = go (p r) (keep p rs) (keep_all p rs a.1)
  where
    go : (t : Bool) (ss : List (List ℕ)) → All Whole ss → All Whole (cond t (r ∷ ss) ss)
    go true ss b = (a.0, b)
    go false ss b = b

current-all : (rs : List (List ℕ)) → All Whole rs → All Whole (current rs)
current-all [] a = tt
current-all (r ∷ rs) a = go (held (name r) rs) (current rs) (current-all rs a.1)
  where
    go : (t : Bool) (ss : List (List ℕ)) → All Whole ss → All Whole (cond t ss (r ∷ ss))
    go true ss b = b
    go false ss b = (a.0, b)

pub around-whole : (f but : ℕ) (rs : List (List ℕ)) → damaged rs ≡ false → All Whole (around f but rs)
unfolding around
around-whole f but rs d = keep_all (is_around f but) (current rs) (current-all rs (sound-whole rs d))
