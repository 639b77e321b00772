-- Numbers of many words (document 01, "Width": products pass 64 bits, "the carrying is the team's own work").
-- A word is a number below 2 ^ 64; a number is a list of words, the lowest first.
--     value ws     the number that the words make; 0 on []
-- What it means: `theory/Laws.antt`.
use Rattle.std.specs.Prelude.{ℕ, ◌+◌, ◌*◌, ◌^◌, List, [], ◌∷◌}

unfoldable pub value : List ℕ → ℕ
value [] = 0
value (w ∷ ws) = w + 2 ^ 64 * value ws
