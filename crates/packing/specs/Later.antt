-- What is added later, to a log or to the packed one (our own, not of document 02).
--     Shown                  a name with a floor and a list
--     shown hs b             those of the additions hs to the log b that finished, the earliest first
--     last_shown found n xs   floor and list of the last of them with the name; `found` where none has it
use Rattle.std.specs.Prelude.{cond, List, [], ◌∷◌, ℕ, eqb}
use Rattle.plane.specs.Floor.{Floored, on}
use Rattle.journal.specs.History.{Addition, step, is_finished}

pub record Shown : Type 0 where
  pub name : ℕ
  pub shape : Floored

abbrev pub shown : List Addition → List ℕ → List Shown
shown [] b = []
shown (h ∷ hs) b =
    let later = shown hs (step h b).log in
    cond (is_finished (step h b).reply) (record { name = h.name; shape = on h.list h.floor } ∷ later) later

abbrev pub last_shown : Floored → ℕ → List Shown → Floored
last_shown found n [] = found
last_shown found n (x ∷ xs) = last_shown (cond (eqb x.name n) x.shape found) n xs
