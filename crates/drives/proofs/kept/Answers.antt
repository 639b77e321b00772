-- `kept` meets its contract: the shape is not met, or not sooner, or a later record has its name, or it is kept.
use Rattle.std.specs.Prelude.{◌≡◌, refl, Bool, cond, ◌&&◌, Option, Some, ℕ}
use Rattle.std.proofs.Common.{sym, ◌∙◌, ap, ap₂}
use Rattle.answers.specs.declared.Meeting.{Meeting}
use Rattle.drives.specs.Search.{is_sooner, soonest, kept_of}
use Rattle.answers.specs.declared.Drive.{Drive}
use Rattle.drives.proofs.kept.Goals as goal
use Rattle.drives.proofs.kept.Goals.{else-is_sooner-via-then-is_sooner+else-is_current, else-is_sooner-via-else-is_sooner}

-- by what the two tests say
kept_by : (now : Bool) (n : ℕ) (m : Meeting) (s : Option Drive) {o : Option Meeting} {x y : Bool} → o ≡ Some m → is_sooner m s ≡ x → now ≡ y
    → cond (x && y) (Some (soonest n m)) s ≡ kept_of now n o s
kept_by now n m s e h k =
    ap₂ (λ (x y : Bool). cond (x && y) (Some (soonest n m)) s) (sym h) (sym k) ∙ ap (λ (o : Option Meeting). kept_of now n o s) (sym e)

pub returns : goal.returns
returns c =
    let best = c.args.best in
    elim c.else-is_sooner.branch [
      | else-is_sooner-via-then-is_sooner+else-is_current w ↦ kept_by _ _ _ best c.in-Some.is
          (sym c.is_sooner.ensures ∙ w.if-is_sooner.true) (sym w.is_current.ensures ∙ w.if-is_current.false)
      | else-is_sooner-via-else-is_sooner w ↦ kept_by _ _ _ best c.in-Some.is (sym c.is_sooner.ensures ∙ w.if-is_sooner.false) refl
    ]
