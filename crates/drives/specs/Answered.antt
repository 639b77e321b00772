-- What an answer on a drive tells, in words, and when an addition changes it. Our own, not of documents 01 and 02.
--     Told ..               what the numbers of an answer that begins with 1 are
--     is_first A t u rs r    r is met, and sooner than all of rs that are met
use Rattle.std.specs.Prelude.{◌≡◌, Bool, true, false, not, ◌&&◌, ℕ, ℤ, pos}
use mathlib.Core.List.{List, [], ◌∷◌, ◌++◌, Memᴰ}
use Rattle.plane.specs.Point.{Point}
use Rattle.plane.specs.Distance.{over}
use Rattle.plane.specs.Floor.{Floored, corners}
use Rattle.journal.specs.Format.{name}
use Rattle.journal.specs.Current.{keep}
use Rattle.motion.specs.Contact.{contact, safe}
use Rattle.gaps.specs.Gap.{grown_of, on_floor}
use Rattle.drives.specs.Drive.{is_met, is_as_soon, first_met}

-- the numbers of an answer that begins with 1: m names the record `one`, which is met at n/d with w safe millimetres, no shape of the floor
-- is met sooner, and those before it in the log are met later, if at all
pub record Told (b : List ℕ) (cart : Floored) (t u : Point) (m n d w f : ℤ) : Type 0 where
  pub one : List ℕ
  pub before : List (List ℕ)
  pub after : List (List ℕ)
  pub is : on_floor cart.floor b ≡ before ++ one ∷ after
  pub met : is_met (corners cart) t u one ≡ true
  pub none-sooner : (r : List ℕ) → Memᴰ r (on_floor cart.floor b) → is_met (corners cart) t u r ≡ true
      → is_as_soon (corners cart) t u one r ≡ true
  pub earlier-later : (r : List ℕ) → Memᴰ r before → is_met (corners cart) t u r ≡ true → is_as_soon (corners cart) t u r one ≡ false
  pub name-is : m ≡ pos (name one)
  pub fraction-is : over n d ≡ contact t u (grown_of (corners cart) one)
  pub safe-is : w ≡ pos (safe t u (grown_of (corners cart) one))
  pub floor-is : f ≡ pos cart.floor

-- of records that are met
abbrev pub is_sooner_than_all : List Point → Point → Point → List (List ℕ) → List ℕ → Bool
is_sooner_than_all A t u [] r = true
is_sooner_than_all A t u (x ∷ xs) r = not (is_as_soon A t u (first_met A t u x xs) r)

abbrev pub is_first : List Point → Point → Point → List (List ℕ) → List ℕ → Bool
is_first A t u rs r = is_met A t u r && is_sooner_than_all A t u (keep (is_met A t u) rs) r
