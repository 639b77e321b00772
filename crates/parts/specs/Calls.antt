-- Calls of a sum in parts, one after the other (document 02, request W6: "With the same shapes throughout, .. each call given the walk last
-- handed back"; request W11: with a floor each, and answers that carry it).
--     Calls a b w ks l u    calls that may write ks corners, each lent some output: the first is given the walk w, a later one the walk
--                           last handed back, in the end u; l is what they wrote, joined; a refusal writes nothing and hands none back
--     total ks              how many corners they may write together
use Rattle.std.specs.Prelude.{◌≡◌, List, [], ◌∷◌, ◌++◌, ℕ, ◌+◌, ◌*◌, ℤ, pos, take}
use Rattle.plane.specs.Reply.{answered, refused}
use Rattle.plane.specs.Floor.{Floored}
use Rattle.plane.specs.Question.{reply, output}
use Rattle.calipers.specs.Walk.{Walk}
use Rattle.parts.specs.Part.{walk_numbers, ask_part}

pub data Calls (a b : Floored) : Walk → List ℕ → List ℤ → Walk → Type 0 where
  stop : {w : Walk} → Calls a b w [] [] w
  part : {w u x : Walk} {n : ℕ} {ks : List ℕ} {l : List ℤ} (k : ℕ) (out : List ℤ)
      → reply (ask_part a b w k out) ≡ answered (pos n ∷ walk_numbers u ++ (pos a.floor ∷ [])) → Calls a b u ks l x
      → Calls a b w (k ∷ ks) (take (2 * n) (output (ask_part a b w k out)) ++ l) x
  refusal : {w x : Walk} {n : ℕ} {carries : List ℕ} {ks : List ℕ} {l : List ℤ} (k : ℕ) (out : List ℤ)
      → reply (ask_part a b w k out) ≡ refused n carries → Calls a b w ks l x → Calls a b w (k ∷ ks) l x

abbrev pub total : List ℕ → ℕ
total [] = 0
total (k ∷ ks) = k + total ks
