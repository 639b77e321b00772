-- A part of an addition's stores, made as far as they are allowed. Our own, not of document 02.
--     cleared p x        the store that clears the byte x at place p: none where it is 0
--     Blank b p          all bytes of b from place p on are 0
--     Ran k ss b m c     with k stores allowed, ss leave m of them and the bytes c of b
use Rattle.std.specs.Prelude.{◌≡◌, cond, List, [], ◌∷◌, ℕ, ◌-◌, ◌≤◌, ◌<◌, eqb, length, get_or, take}
use Rattle.journal.specs.Adding.{Store, store, made}

abbrev pub cleared : ℕ → ℕ → List Store
cleared p x = cond (eqb x 0) [] (store p 0 ∷ [])

abbrev pub Blank : List ℕ → ℕ → Type 0
Blank b p = (i : ℕ) → p ≤ i → i < length b → get_or b i 0 ≡ 0

pub record Ran (k : ℕ) (ss : List Store) (b : List ℕ) (m : ℕ) (c : List ℕ) : Type 0 where
  pub left_is : m ≡ k - length ss
  pub log_is : c ≡ made (take k ss) b
