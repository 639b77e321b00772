-- Two questions that reply alike.
--     Agree vs ws T         two tables of refusals: the first rows that apply say the same; or none applies of either, and T holds
--     agree_same            a table and itself; agree-row: two rows
--     agree-join            one table after the other; agree-map: what holds of T
--     same-reply            two questions whose tables agree have the same reply, if they have the same values
--     same_bytes            and leave the same bytes, if they write the same shape
use Rattle.std.specs.Prelude.{◌≡◌, refl, Bool, true, false, ℕ}
use Rattle.std.proofs.Math.Path.{sym, ap}
use Rattle.std.proofs.Common.{◌∙◌, ap₂, subst}
use mathlib.Core.List.{List, [], ◌∷◌, ◌++◌}
use Rattle.plane.specs.Point.{Point, numbers}
use Rattle.plane.specs.Reply.{answered, refused, Row, row, NoneApply, First, here}
use Rattle.plane.specs.Output.{overwritten}
use Rattle.plane.specs.Question.{Question, table, values, reply}
use Rattle.plane.proofs.theory.refusals.Rows.{Outcome, given, passed, outcome, first-append, first-join, none-join}
use Rattle.plane.proofs.theory.refusals.Rows.{given-output, none-output}
use Rattle.plane.proofs.theory.refusals.Asked.{asked-given, asked-none}
use Rattle.endian.specs.Bytes.{words}
use Rattle.bytewise.specs.Bytes.{bytes_after}

pub data Agree (vs ws : List Row) (T : Type 0) : Type 0 where
  both : {v w : Row} → First v vs → First w ws → v.number ≡ w.number → v.carries ≡ w.carries → Agree vs ws T
  none : NoneApply vs → NoneApply ws → T → Agree vs ws T

pub agree_same : {vs ws : List Row} {T : Type 0} → vs ≡ ws → (NoneApply ws → T) → Agree vs ws T
agree_same {vs} {ws} {T} e k = subst (λ (us : List Row). Agree us ws T) (sym e) (go (outcome ws))
  where
    go : Outcome ws → Agree ws ws T
    go (given w f) = both f f refl refl
    go (passed n) = none n n (k n)

pub agree-row : {T : Type 0} (n : ℕ) (carries : List ℕ) (a b : Bool) → a ≡ b → (b ≡ false → T)
    → Agree (row n a carries ∷ []) (row n b carries ∷ []) T
agree-row {T} n carries a b e k = go b refl
  where
    go : (c : Bool) → b ≡ c → Agree (row n a carries ∷ []) (row n b carries ∷ []) T
    go true q = both (here (e ∙ q)) (here q) refl refl
    go false q = none (e ∙ q, tt) (q, tt) (k q)

pub agree-join : {T U : Type 0} {vs ws vs' ws' : List Row} → Agree vs ws T → (T → Agree vs' ws' U) → Agree (vs ++ vs') (ws ++ ws') U
agree-join {vs' = vs'} {ws' = ws'} (both f g n c) k = both (first-append vs' f) (first-append ws' g) n c
agree-join {T} {U} {vs} {ws} {vs'} {ws'} (none n m t) k = go (k t)
  where
    go : Agree vs' ws' U → Agree (vs ++ vs') (ws ++ ws') U
    go (both f g i c) = both (first-join vs n f) (first-join ws m g) i c
    go (none p q u) = none (none-join vs vs' n p) (none-join ws ws' m q) u

pub agree-map : {T U : Type 0} {vs ws : List Row} → (T → U) → Agree vs ws T → Agree vs ws U
agree-map k (both f g n c) = both f g n c
agree-map k (none n m t) = none n m (k t)

module _ (q p : Question) {T : Type 0} where
  pub same-reply : Agree (table q) (table p) T → (T → values q ≡ values p) → reply q ≡ reply p
  same-reply (both f g n c) k = asked-given q f ∙ ap₂ refused n c ∙ sym (asked-given p g)
  same-reply (none n m t) k = asked-none q n ∙ ap answered (k t) ∙ sym (asked-none p m)

  pub same_bytes : (out : List ℕ) → Agree (table q) (table p) T → (T → q.shape ≡ p.shape) → bytes_after q out ≡ bytes_after p out
  unfolding bytes_after
  same_bytes out (both f g n c) k = given-output out _ f ∙ sym (given-output out _ g)
  same_bytes out (none n m t) k =
      none-output (table q) out _ n ∙ ap (λ (ps : List Point). overwritten (words (numbers ps)) out) (k t)
      ∙ sym (none-output (table p) out _ m)
