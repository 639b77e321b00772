-- The narrowest gap after an addition.
--     unfinished-gap     one that was cut or refused changes nothing
--     elsewhere-gap      one on another floor takes its own name from this floor, and nothing else
use Rattle.std.specs.Prelude.{◌≡◌, Bool, true, false, not, cond, ◌&&◌, List, [], ◌∷◌, ◌++◌, ℕ, ◌<◌, eqb, ℤ}
use Rattle.std.proofs.Common.{◌∙◌, ap, append-nil, ne_eqb}
use Rattle.plane.specs.Point.{Point}
use Rattle.journal.specs.Format.{recorded}
use Rattle.journal.specs.Adding.{added}
use Rattle.journal.specs.History.{is_finished}
use Rattle.journal.specs.Current.{keep, is_other}
use Rattle.journal.proofs.theory.Current.{finished-around, unfinished-around}
use Rattle.gaps.specs.Gap.{pairs_of, narrowest, on_floor}

module _ (A : List Point) (b : List ℕ) (n g : ℕ) (l : List ℤ) (k f : ℕ) where
  pub unfinished-gap : is_finished (added b n g l k).reply ≡ false
      → narrowest A (pairs_of (on_floor f (added b n g l k).log)) ≡ narrowest A (pairs_of (on_floor f b))
  unfinished-gap stopped = ap (λ (rs : List (List ℕ)). narrowest A (pairs_of rs)) (unfinished-around b n g l k stopped f 65536)

  pub elsewhere-gap : is_finished (added b n g l k).reply ≡ true → n < 65536 → g < 65536 → (g ≡ f → ⊥)
      → narrowest A (pairs_of (on_floor f (added b n g l k).log)) ≡ narrowest A (pairs_of (keep (is_other n) (on_floor f b)))
  elsewhere-gap done fits floor-fits other = ap (λ (rs : List (List ℕ)). narrowest A (pairs_of rs))
      (finished-around b n g l k done fits floor-fits f 65536
      ∙ ap (λ (t : Bool). keep (is_other n) (on_floor f b) ++ cond (t && not (eqb n 65536)) (recorded n g l ∷ []) []) (ne_eqb g f other)
      ∙ append-nil (keep (is_other n) (on_floor f b)))
