-- Where refusal 4 finds the rules broken.
--     left-break-at, left-break-nowhere     of the left rule, from what two nested searches found: both stopped, or the outer one ended
--     broken-pair, broken-left              of a pair of equal corners, and of any other list
--     broken-found, broken-none             read off the result: row 4 of the table applies, with these positions, or it does not
use mathlib.Core.Path.{◌≡◌, refl, sym, ◌∙◌, ap, ap₂}
use mathlib.Core.Bool.{Bool, true, false, cond}
use mathlib.Core.List.{List}
use Prim.Native.Nat.{ℕ}
use native.Mathlib.Omega.{arith}
use lib.ListN.{length}
use Rattle.plane.specs.Point.{Point}
use Rattle.plane.specs.Search.{first}
use Rattle.plane.specs.Shape.{breaks}
use Rattle.plane.specs.Refusal.{equal_pair, left_broken, breaking_edge, breaking_corner, rule_broken, broken_edge, broken_corner}
use Rattle.polygon.specs.Broken.{left_break, broken}
use Rattle.std.specs.Prelude.{Some, None}
use Rattle.polygon.specs.declared.rules.Broken.{Broken}

-- what is found there
abbrev pub at : ℕ → ℕ → Broken
at e c = record { edge = e; corner = c }

module _ (ps : List Point) where
  -- ---- the left rule

  pub left-break-nowhere : left_broken ps ≡ false → None ≡ left_break ps
  left-break-nowhere h = ap (λ b. cond b (Some (at (breaking_edge ps) (breaking_corner ps))) None) (sym h)

  pub left-break-at : (e c : ℕ) → left_broken ps ≡ true → breaking_edge ps ≡ e → first (breaks ps e) (length ps) ≡ c
      → Some (at e c) ≡ left_break ps
  unfolding breaking_corner
  left-break-at e c h p q =
      ap₂ (λ (m n : ℕ). Some (at m n)) (sym p) (sym q ∙ ap (λ k. first (breaks ps k) (length ps)) (sym p))
      ∙ ap (λ b. cond b (Some (at (breaking_edge ps) (breaking_corner ps))) None) (sym h)

  -- ---- row 4

  pub broken-pair : equal_pair ps ≡ true → Some (at 0 1) ≡ broken ps
  unfolding rule_broken broken_edge broken_corner
  broken-pair h = rw h

  pub broken-left : equal_pair ps ≡ false → left_break ps ≡ broken ps
  unfolding rule_broken broken_edge broken_corner
  broken-left h = rw h

  -- ---- and back, for who asked

  pub broken-found : (e c : ℕ) → broken ps ≡ Some (at e c) → (rule_broken ps ≡ true) × (broken_edge ps ≡ e) × (broken_corner ps ≡ c)
  broken-found e c h = go (rule_broken ps) refl h
    where
      go : (b : Bool) → rule_broken ps ≡ b → cond b (Some (at (broken_edge ps) (broken_corner ps))) None ≡ Some (at e c)
          → (rule_broken ps ≡ true) × (broken_edge ps ≡ e) × (broken_corner ps ≡ c)
      go true p q =
          let same : at (broken_edge ps) (broken_corner ps) ≡ at e c = cc in
          (p, ap (λ (b : Broken). b.edge) same, ap (λ (b : Broken). b.corner) same)
      go false p q = absurd (let z : ◌≡◌ {A = ℕ} 0 1 = cc in let f : ⊥ = omega arith in f)

  pub broken-none : broken ps ≡ None → rule_broken ps ≡ false
  broken-none h = go (rule_broken ps) refl h
    where
      go : (b : Bool) → rule_broken ps ≡ b → cond b (Some (at (broken_edge ps) (broken_corner ps))) None ≡ None → rule_broken ps ≡ false
      go true p q = absurd (let z : ◌≡◌ {A = ℕ} 0 1 = cc in let f : ⊥ = omega arith in f)
      go false p q = p
