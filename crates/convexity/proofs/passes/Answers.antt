-- `passes` meets its contract: each test is a row of judging, and the last stands for two.
use mathlib.Core.Path.{◌≡◌, sym, ◌∙◌, ap}
use mathlib.Core.Bool.{Bool, true, false, not, ◌&&◌, false≢true}
use borrow.Author.Tests.{not-true}
use Rattle.plane.specs.Point.{points}
use Rattle.plane.specs.Refusal.{Valid, bad_count, too_many, some_outside}
use Rattle.plane.proofs.theory.refusals.Accept.{near→in_range, counted, shape→valid, valid→accepted}
use Rattle.std.proofs.Math.Bool.{and-eq-true_iff}
use Rattle.std.specs.Prelude.{List, ℤ}
use Rattle.convexity.proofs.passes.Goals as goal
use Rattle.convexity.proofs.passes.Goals.{Joined-not-bad_count, Joined-not-too_many}
use Rattle.convexity.proofs.passes.Goals.{then-not-bad_count, else-not-bad_count, then-not-too_many, else-not-too_many}

-- ---- a test after a test
kept : (b : Bool) {a v : Bool} → a ≡ true → v ≡ b → v ≡ (a && b)
kept b p q = q ∙ ap (λ (t : Bool). t && b) (sym p)

dropped : (b : Bool) {a v : Bool} → a ≡ false → v ≡ a → v ≡ (a && b)
dropped b p q = q ∙ p ∙ ap (λ (t : Bool). t && b) (sym p)

-- ---- the rows do not apply
abbrev accepted : List ℤ → Bool
accepted l = (not (bad_count l) && not (too_many (points l))) && not (some_outside l)

two : (c : Joined-not-bad_count) → c.if-not-bad_count.value ≡ (not (bad_count c.args.list.now) && not (too_many (points c.args.list.now)))
two c = elim c.if-not-bad_count.branch [
  | then-not-bad_count w ↦ kept _ (ap not (sym c.bad_count.ensures ∙ w.if-not-bad_count.true)) (w.value-is ∙ ap not w.too_many.ensures)
  | else-not-bad_count w ↦ dropped _ (ap not (sym c.bad_count.ensures ∙ w.if-not-bad_count.false)) (w.value-is ∙ ap not c.bad_count.ensures)
]

three : (c : Joined-not-too_many) → c.if-not-too_many.value ≡ accepted c.args.list.now
three c =
    let before = two c.before in
    elim c.if-not-too_many.branch [
      | then-not-too_many w ↦ kept _ (sym before ∙ w.if-not-too_many.true) (w.value-is ∙ ap not w.some_outside.ensures)
      | else-not-too_many w ↦ dropped _ (sym before ∙ w.if-not-too_many.false) (w.value-is ∙ before)
    ]

module _ (l : List ℤ) (h : accepted l ≡ true) where
  first : (not (bad_count l) && not (too_many (points l))) ≡ true
  first = ((and-eq-true_iff _ _).0 h).0

  row-1 : bad_count l ≡ false
  row-1 = not-true _ ((and-eq-true_iff _ _).0 first).0

  row-2 : too_many (points l) ≡ false
  row-2 = not-true _ ((and-eq-true_iff _ _).0 first).1

  row-3 : some_outside l ≡ false
  row-3 = not-true _ ((and-eq-true_iff _ _).0 h).1

valid-passes : (l : List ℤ) → Valid l → accepted l ≡ true
valid-passes l v = let rows = valid→accepted l 1 v in rw (rows.0, rows.1.0, rows.1.1.0)

-- ---- the needs
pub is_shape-requires : goal.is_shape-requires
is_shape-requires c =
    let l = c.args.list.now in
    let h = sym (three (goal.at.is_shape-requires c).Joined-not-too_many) ∙ c.if-not-some_outside.true in
    (near→in_range _ (row-3 l h), (counted _ (row-1 l h)).0)

pub returns-then-not-some_outside : goal.returns-then-not-some_outside
returns-then-not-some_outside c =
    let l = c.args.list.now in
    let h = sym (three (goal.at.returns-then-not-some_outside c).Joined-not-too_many) ∙ c.if-not-some_outside.true in (
      (λ t. shape→valid _ (row-1 l h) (row-2 l h) (row-3 l h) (c.is_shape.ensures.0 t)),
      (λ v. c.is_shape.ensures.1 v.shape),
    )

pub returns-else-not-some_outside : goal.returns-else-not-some_outside
returns-else-not-some_outside c = (
  (λ t. absurd (false≢true (sym c.if-not-some_outside.false ∙ t))),
  (λ v. three (goal.at.returns-else-not-some_outside c).Joined-not-too_many ∙ valid-passes _ v),
)
