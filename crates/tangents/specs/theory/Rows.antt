-- What is answered of two good shapes: refusal 9, or the four tangents.
--     tangents-refused          9 if they are not apart
--     tangents-answered         else the positions
--     refused-not-apart         so 9 is given only if they are not apart
--     tangents-reply            and positions exactly if they are apart and the four pairs meet their rules
use Rattle.std.specs.Prelude.{◌≡◌, refl, Bool, true, false, not, List, [], ◌∷◌, ◌↔◌, ℕ, pos}
use Rattle.std.proofs.Common.{sym, ◌∙◌, ap, subst, arith}
use Rattle.std.proofs.lemmas.Bool.{not-false}
use Rattle.plane.specs.Point.{Point}
use Rattle.plane.specs.Reply.{answered, refused, here}
use Rattle.plane.specs.Separation.{apart}
use Rattle.plane.specs.Tangent.{tangent_from, tangent_to}
use Rattle.plane.specs.Floor.{Floored, corners, Same}
use Rattle.plane.specs.Question.{values, reply, ask_tangents}
use Rattle.plane.proofs.theory.refusals.Asked.{asked-given, asked-none, asked-values, asked-rest, rest-given, rest-none}
use Rattle.separation.specs.theory.Apart.{Separated, apart→direction}
use Rattle.tangents.specs.Rule.{MeetsRule, FourTangents}
use Rattle.tangents.specs.theory.SettledExists.{Settled}
use Rattle.tangents.specs.theory.TangentUnique.{settled-rule, rule-settled, tangent-is-settled}

module _ (a b : Floored) (s : Same a b) where
  abbrev A : List Point
  A = corners a

  abbrev B : List Point
  B = corners b

  pub tangents-refused : apart A B ≡ false → reply (ask_tangents a b) ≡ refused 9 []
  tangents-refused h = asked-given (ask_tangents a b) (rest-given (ask_tangents a b) s (here (ap not h)))

  pub tangents-answered : apart A B ≡ true → reply (ask_tangents a b) ≡ answered (values (ask_tangents a b))
  tangents-answered h = asked-none (ask_tangents a b) (rest-none (ask_tangents a b) s (ap not h, tt))

  pub refused-not-apart : (carries : List ℕ) → reply (ask_tangents a b) ≡ refused 9 carries → apart A B ≡ false
  refused-not-apart carries r = go (apart A B) refl
    where
      go : (t : Bool) → apart A B ≡ t → t ≡ false
      go false e = refl
      go true e = absurd (let z : ◌≡◌ {A = ℕ} 0 1 = cc (tangents-answered e) in let f : ⊥ = omega arith in f)

  -- ---- the rule

  -- of each kind, the pair that is answered meets the rule, and no other does
  module _ (h : apart A B ≡ true) (u v : Bool) where
    separated : Separated A B
    separated = apart→direction A B s.first-valid.shape.some s.second-valid.shape.some h

    settled : Settled u v A B (tangent_from u v A B) (tangent_to u v A B)
    settled = tangent-is-settled u v A B s.first-valid.shape s.second-valid.shape h

    answer-rule : {i j : ℕ} → i ≡ tangent_from u v A B → j ≡ tangent_to u v A B → MeetsRule u v A B i j
    answer-rule {i} {j} p q = subst (λ k. MeetsRule u v A B k j) (sym p)
        (subst (MeetsRule u v A B (tangent_from u v A B)) (sym q) (settled-rule separated settled))

    rule-answer : {i j : ℕ} → MeetsRule u v A B i j → (i ≡ tangent_from u v A B) × (j ≡ tangent_to u v A B)
    rule-answer {i} {j} r = rule-settled separated settled s.first-valid.shape s.second-valid.shape i j r

  pub tangents-reply : (i j k l m n o p : ℕ)
      → (reply (ask_tangents a b) ≡ answered (pos i ∷ pos j ∷ pos k ∷ pos l ∷ pos m ∷ pos n ∷ pos o ∷ pos p ∷ pos a.floor ∷ []))
      ↔ FourTangents A B i j k l m n o p
  tangents-reply i j k l m n o p = (
    λ h.
        let same = asked-values (ask_tangents a b) _ h in
        let apart-is = not-false (apart A B) (asked-rest (ask_tangents a b) _ h).0 in
        record {
          are-apart = apart-is;
          both_left = answer-rule apart-is true true (cc same) (cc same);
          both_right = answer-rule apart-is false false (cc same) (cc same);
          left-and-right = answer-rule apart-is true false (cc same) (cc same);
          right-and-left = answer-rule apart-is false true (cc same) (cc same);
        },
    λ f. tangents-answered f.are-apart ∙ told f,
  )
    where
      told : FourTangents A B i j k l m n o p → answered (values (ask_tangents a b))
          ≡ answered (pos i ∷ pos j ∷ pos k ∷ pos l ∷ pos m ∷ pos n ∷ pos o ∷ pos p ∷ pos a.floor ∷ [])
      told f =
          let e₁ = rule-answer f.are-apart true true f.both_left in
          let e₂ = rule-answer f.are-apart false false f.both_right in
          let e₃ = rule-answer f.are-apart true false f.left-and-right in
          let e₄ = rule-answer f.are-apart false true f.right-and-left in
          cc (e₁.0, e₁.1, e₂.0, e₂.1, e₃.0, e₃.1, e₄.0, e₄.1)
