-- `blamed` meets its contract: each test is a row of the table, and the rows before it did not apply.
use mathlib.Core.Path.{◌≡◌, sym, ◌∙◌, ap₂}
use mathlib.Core.Bool.{false}
use mathlib.Core.List.{[], ◌∷◌}
use Prim.Native.Nat.{ℕ}
use Rattle.plane.specs.Point.{points}
use Rattle.plane.specs.Reply.{refused, here, later}
use Rattle.plane.specs.Refusal.{bad_count, too_many, some_outside, rule_broken}
use Rattle.plane.proofs.theory.refusals.Accept.{near→in_range, accepted→valid}
use Rattle.polygon.proofs.LeftRule.{broken-found, broken-none}
use Rattle.admission.specs.theory.Judged.{refuses, passes, turns-away}
use Rattle.admission.proofs.blamed.Goals as goal
use Rattle.admission.proofs.blamed.Goals.{Else-bad_count, Else-some_outside, Else-too_many, In_default}

-- ---- the rows that do not apply, each where it is known
row-1 : (c : Else-bad_count) → bad_count c.args.list.now ≡ false
row-1 c = sym c.bad_count.ensures ∙ c.if-bad_count.false

row-2 : (c : Else-too_many) → too_many (points c.args.list.now) ≡ false
row-2 c = sym c.too_many.ensures ∙ c.if-too_many.false

row-3 : (c : Else-some_outside) → some_outside c.args.list.now ≡ false
row-3 c = sym c.some_outside.ensures ∙ c.if-some_outside.false

-- past the search for a broken edge there is none
row-4 : (c : In_default) → rule_broken
    (points c.args.list.now) ≡ false
row-4 c = broken-none _ (sym c.first_broken.ensures ∙ c.in_default.is)

-- ---- the needs
pub returns-then-bad_count : goal.returns-then-bad_count
returns-then-bad_count c = turns-away (refuses (here (sym c.bad_count.ensures ∙ c.if-bad_count.true)))

pub returns-then-too_many : goal.returns-then-too_many
returns-then-too_many c = turns-away (refuses (later (row-1 c.before.before) (here (sym c.too_many.ensures ∙ c.if-too_many.true))))

pub returns-then-some_outside : goal.returns-then-some_outside
returns-then-some_outside c =
    turns-away (refuses (later (row-1 c.before.before.before.before) (later (row-2 c.before.before)
    (here (sym c.some_outside.ensures ∙ c.if-some_outside.true)))))

pub first_broken-requires : goal.first_broken-requires
first_broken-requires c = near→in_range _ (row-3 c)

pub returns-in-Some : goal.returns-in-Some
returns-in-Some c =
    let found = broken-found _ _ _ (sym c.first_broken.ensures ∙ c.in-Some.is) in
    turns-away (record {
      by = _;
      first = later (row-1 (goal.at.returns-in-Some c).Else-bad_count)
          (later (row-2 (goal.at.returns-in-Some c).Else-too_many)
          (later (row-3 (goal.at.returns-in-Some c).Else-some_outside) (here found.0)));
      is = ap₂ (λ (e k : ℕ). refused 4 (c.args.shape ∷ e ∷ k ∷ [])) (sym found.1) (sym found.2);
    })

pub returns-then-bad_start : goal.returns-then-bad_start
returns-then-bad_start c =
    turns-away (refuses (later (row-1 (goal.at.returns-then-bad_start c).Else-bad_count)
    (later (row-2 (goal.at.returns-then-bad_start c).Else-too_many)
    (later (row-3 (goal.at.returns-then-bad_start c).Else-some_outside) (later (row-4 (goal.at.returns-then-bad_start c).In_default)
    (here (sym c.bad_start.ensures ∙ c.if-bad_start.true)))))))

pub returns : goal.returns
returns c =
    passes (accepted→valid _ c.args.shape (
      row-1 (goal.at.returns c).Else-bad_count,
      (
        row-2 (goal.at.returns c).Else-too_many,
        (
          row-3 (goal.at.returns c).Else-some_outside,
          (row-4 (goal.at.returns c).In_default, (sym c.bad_start.ensures ∙ c.if-bad_start.false, tt)),
        ),
      ),
    ))
