-- A value is put before those of an answer.
--     eight_of ws     the first eight of nine values
--     front-eight    those of a padded list are the list, padded by one less
--     precede        the numbers of an answer, with one value more, are those of the longer answer
use Rattle.std.specs.Prelude.{◌≡◌, refl, List, [], ◌∷◌, ◌++◌, map, ℕ, ◌+◌, ℤ, pos, length, get_or}
use Rattle.std.proofs.Common.{add-one, arith}
use Rattle.plane.specs.Reply.{answered}
use Rattle.wire.specs.Told.{padded, bits, crossed}

abbrev eight_of : List ℕ → List ℕ
eight_of ws =
    get_or ws 0 0 ∷ get_or ws 1 0 ∷ get_or ws 2 0 ∷ get_or ws 3 0 ∷ get_or ws 4 0 ∷ get_or ws 5 0 ∷ get_or ws 6 0 ∷ get_or ws 7 0 ∷ []

front-eight : (l : List ℕ) → eight_of (padded 9 l) ≡ padded 8 l
front-eight [] = refl
front-eight (a ∷ []) = refl
front-eight (a ∷ b ∷ []) = refl
front-eight (a ∷ b ∷ c ∷ []) = refl
front-eight (a ∷ b ∷ c ∷ d ∷ []) = refl
front-eight (a ∷ b ∷ c ∷ d ∷ e ∷ []) = refl
front-eight (a ∷ b ∷ c ∷ d ∷ e ∷ f ∷ []) = refl
front-eight (a ∷ b ∷ c ∷ d ∷ e ∷ f ∷ g ∷ []) = refl
front-eight (a ∷ b ∷ c ∷ d ∷ e ∷ f ∷ g ∷ h ∷ l) = refl

pub precede : (v n k : ℕ) (cs ws : List ℕ) → length cs ≡ 3 → (vs : List ℤ) → n ∷ cs ++ (k ∷ ws) ≡ crossed (answered vs)
    → n ∷ cs ++ ((k + 1) ∷ v ∷ eight_of ws) ≡ crossed (answered (pos v ∷ vs))
precede v n k [] ws three vs e = absurd (omega arith)
precede v n k (a ∷ []) ws three vs e = absurd (omega arith)
precede v n k (a ∷ b ∷ []) ws three vs e = absurd (omega arith)
precede v n k (a ∷ b ∷ c ∷ []) ws three vs e = cc (add-one k, front-eight (map bits vs))
precede v n k (a ∷ b ∷ c ∷ d ∷ cs) ws three vs e = absurd (omega arith)

-- how many values an answer has, read from its numbers
pub counted : (n k : ℕ) (cs ws : List ℕ) → length cs ≡ 3 → (vs : List ℤ) → n ∷ cs ++ (k ∷ ws) ≡ crossed (answered vs) → k ≡ length vs
counted n k [] ws three vs e = absurd (omega arith)
counted n k (a ∷ []) ws three vs e = absurd (omega arith)
counted n k (a ∷ b ∷ []) ws three vs e = absurd (omega arith)
counted n k (a ∷ b ∷ c ∷ []) ws three vs e = cc
counted n k (a ∷ b ∷ c ∷ d ∷ cs) ws three vs e = absurd (omega arith)
