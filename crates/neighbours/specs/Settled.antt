-- Which shape is the nearest, in words, and when an addition changes the answer. Our own, not of document 02.
--     FirstLeast le xs w        w is one of xs, none is less, and each before it is greater
--     IsNearest A f but b w     w is this of the current records on floor f, `but` left out, by their distance from A
--     told A f w                what is answered then
--     is_closer A f but w n g S  a shape S under the name n on floor g is asked for, and strictly nearer to A than w
--     Quiet A f but w hs b      no finished addition of a history is under the name of w or closer
use Rattle.std.specs.Prelude.{◌≡◌, Bool, true, false, not, ◌&&◌, ℕ, eqb, ℤ, pos}
use mathlib.Core.List.{List, [], ◌∷◌, ◌++◌, Memᴰ}
use Rattle.plane.specs.Point.{Point, points}
use Rattle.plane.specs.Clearance.{clearance_numbers}
use Rattle.plane.specs.Distance.{no_more, distance}
use Rattle.plane.specs.Reply.{Reply, answered}
use Rattle.journal.specs.Format.{records, name}
use Rattle.journal.specs.Current.{around}
use Rattle.journal.specs.History.{Addition, step, is_finished}
use Rattle.neighbours.specs.Nearest.{shape_of, is_as_near}

pub record FirstLeast {X : Type 0} (le : X → X → Bool) (xs : List X) (w : X) : Type 0 where
  pub before : List X
  pub after : List X
  pub is : xs ≡ before ++ w ∷ after
  pub none-less : (y : X) → Memᴰ y xs → le w y ≡ true
  pub earlier_more : (y : X) → Memᴰ y before → le y w ≡ false

abbrev pub IsNearest : List Point → ℕ → ℕ → List ℕ → List ℕ → Type 0
IsNearest A f but b w = FirstLeast (is_as_near A) (around f but (records b)) w

abbrev pub told : List Point → ℕ → List ℕ → Reply
told A f w = answered (pos (name w) ∷ clearance_numbers A (shape_of w) ++ (pos f ∷ []))

abbrev pub is_closer : List Point → ℕ → ℕ → List ℕ → ℕ → ℕ → List ℤ → Bool
is_closer A f but w n g S = (eqb g f && not (eqb n but)) && not (no_more (distance A (shape_of w)) (distance A (points S)))

abbrev pub Quiet : List Point → ℕ → ℕ → List ℕ → List Addition → List ℕ → Type 0
Quiet A f but w [] b = Unit {0}
Quiet A f but w (h ∷ hs) b =
    (is_finished (step h b).reply ≡ true → (name w ≡ h.name → ⊥) × (is_closer A f but w h.name h.floor h.list ≡ false))
    × Quiet A f but w hs (step h b).log
