-- A fact of every element of a list. Our own.
use Rattle.std.specs.Prelude.{List, [], ◌∷◌}

abbrev pub All : {X : Type 0} → (X → Type 0) → List X → Type 0
All Good [] = Unit {0}
All Good (x ∷ xs) = Good x × All Good xs
