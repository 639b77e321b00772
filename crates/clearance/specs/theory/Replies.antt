-- What clearance answers, by whether the shapes are apart.
--     spaced-numbers         what the code tells is what clearance answers
--     clearance-values       the values of an answer; `clearance-answered`: good shapes are answered with them
--     nearest-reply          a candidate's numbers are answered exactly if the shapes are apart and it is the first of the least
--     zero-reply             0 exactly if they have a point in common
use Rattle.std.specs.Prelude.{◌≡◌, refl, Bool, true, false, cond, Option, Some, None, List, [], ◌∷◌, ◌++◌, ◌↔◌, ℕ, ℤ, pos}
use Rattle.std.proofs.Common.{sym, ◌∙◌, ap, subst, arith}
use Rattle.plane.specs.Point.{Point, points}
use Rattle.plane.specs.Reply.{answered}
use Rattle.plane.specs.Separation.{apart}
use Rattle.plane.specs.Mean.{CommonPoint}
use Rattle.plane.specs.Clearance.{Candidate, corners, on_second, on_first, nearest, numbers_of, clearance_numbers}
use Rattle.plane.specs.Floor.{Floored, Same}
use Rattle.plane.specs.Question.{reply, ask_clearance}
use Rattle.plane.proofs.theory.refusals.Asked.{asked-none, asked-values, rest-none}
use Rattle.clearance.specs.Order.{FirstOfLeast}
use Rattle.clearance.specs.Answer.{spacing_numbers, Spaced}
use Rattle.clearance.specs.declared.measured.Distance.{Distance}
use Rattle.clearance.specs.theory.Nearest.{common-not-apart}
use Rattle.clearance.specs.theory.NearestUnique.{nearest-first-least, first-least-nearest}
use Rattle.clearance.specs.theory.Common.{not-apart-common}

-- ---- numbers

-- what the code tells is what clearance answers
pub spaced-numbers : (A B : List Point) (w : Option Distance) → Spaced A B w → spacing_numbers w ≡ clearance_numbers A B
spaced-numbers A B None e = ap (λ t. cond t (numbers_of A B (nearest A B)) (pos 0 ∷ [])) (sym e)
spaced-numbers A B (Some d) e = e.1 ∙ ap (λ t. cond t (numbers_of A B (nearest A B)) (pos 0 ∷ [])) (sym e.0)

-- an answer's first number is not another's
other-kind : {A : Type 0} (m n : ℕ) {x y : List ℤ} → pos m ∷ x ≡ pos n ∷ y → (m ≡ n → ⊥) → A
other-kind m n e k = absurd (k (cc e))

module _ (A B : List Point) (rest : List ℤ) where
  -- the kind and the two positions tell which candidate it is
  numbers-candidate : (c d : Candidate) → numbers_of A B c ++ rest ≡ numbers_of A B d ++ rest → c ≡ d
  numbers-candidate (corners i j) (corners k l) e = let p : i ≡ k = cc e in let q : j ≡ l = cc e in cc (p, q)
  numbers-candidate (on_second i j) (on_second k l) e = let p : i ≡ k = cc e in let q : j ≡ l = cc e in cc (p, q)
  numbers-candidate (on_first i j) (on_first k l) e = let p : i ≡ k = cc e in let q : j ≡ l = cc e in cc (p, q)
  numbers-candidate (corners i j) (on_second k l) e = other-kind 1 2 e (λ z. omega arith)
  numbers-candidate (corners i j) (on_first k l) e = other-kind 1 3 e (λ z. omega arith)
  numbers-candidate (on_second i j) (corners k l) e = other-kind 2 1 e (λ z. omega arith)
  numbers-candidate (on_second i j) (on_first k l) e = other-kind 2 3 e (λ z. omega arith)
  numbers-candidate (on_first i j) (corners k l) e = other-kind 3 1 e (λ z. omega arith)
  numbers-candidate (on_first i j) (on_second k l) e = other-kind 3 2 e (λ z. omega arith)

  numbers-some : (c : Candidate) → numbers_of A B c ++ rest ≡ pos 0 ∷ rest → ⊥
  numbers-some (corners i j) e = other-kind 1 0 e (λ z. omega arith)
  numbers-some (on_second i j) e = other-kind 2 0 e (λ z. omega arith)
  numbers-some (on_first i j) e = other-kind 3 0 e (λ z. omega arith)

-- ---- replies

module _ (a b : Floored) where
  abbrev A : List Point
  A = points a.list

  abbrev B : List Point
  B = points b.list

  -- what is answered where `apart` says t
  abbrev told : Bool → List ℤ
  told t = cond t (numbers_of A B (nearest A B)) (pos 0 ∷ []) ++ (pos a.floor ∷ [])

  pub clearance-values : (v : List ℤ) → reply (ask_clearance a b) ≡ answered v → (t : Bool) → apart A B ≡ t → v ≡ told t
  clearance-values v h t e = asked-values (ask_clearance a b) v h ∙ ap told e

  pub clearance-answered : Same a b → (t : Bool) → apart A B ≡ t → reply (ask_clearance a b) ≡ answered (told t)
  clearance-answered s t e = asked-none (ask_clearance a b) (rest-none (ask_clearance a b) s tt) ∙ ap (λ (u : Bool). answered (told u)) e

  pub nearest-reply : Same a b → (c : Candidate) → (reply (ask_clearance a b) ≡ answered (numbers_of A B c ++ (pos a.floor ∷ [])))
      ↔ ((apart A B ≡ true) × FirstOfLeast A B c)
  nearest-reply s c = (
    λ h. go (apart A B) refl (clearance-values _ h (apart A B) refl),
    λ r. clearance-answered s true r.0 ∙ ap (λ (d : Candidate). answered (numbers_of A B d ++ (pos a.floor ∷ [])))
        (sym (first-least-nearest A B s.first-valid.shape s.second-valid.shape r.0 c r.1)),
  )
    where
      go : (t : Bool) → apart A B ≡ t → numbers_of A B c ++ (pos a.floor ∷ []) ≡ told t → (t ≡ true) × FirstOfLeast A B c
      go true e h = (
        refl,
        subst (FirstOfLeast A B) (sym (numbers-candidate A B (pos a.floor ∷ []) c (nearest A B) h))
            (nearest-first-least A B s.first-valid.shape s.second-valid.shape e),
      )
      go false e h = absurd (numbers-some A B (pos a.floor ∷ []) c h)

  pub zero-reply : Same a b → (reply (ask_clearance a b) ≡ answered (pos 0 ∷ pos a.floor ∷ [])) ↔ CommonPoint A B
  zero-reply s = (
    λ h. not-apart-common A B s.first-valid.shape.some s.second-valid.shape.some
        (go (apart A B) refl (clearance-values _ h (apart A B) refl)),
    λ m. clearance-answered s false (common-not-apart A B s.first-valid.shape.some s.second-valid.shape.some m),
  )
    where
      go : (t : Bool) → apart A B ≡ t → pos 0 ∷ pos a.floor ∷ [] ≡ told t → t ≡ false
      go false e h = refl
      go true e h = absurd (numbers-some A B (pos a.floor ∷ []) (nearest A B) (sym h))
