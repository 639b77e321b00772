-- `is_passed` meets its contract: nothing was found, or its distance is held against the boxes.
use mathlib.Core.Path.{◌≡◌, refl, sym, ◌∙◌, ap}
use mathlib.Core.Bool.{true, false, not, true≢false}
use Rattle.std.specs.Prelude.{Option, Some, None}
use Rattle.std.proofs.Common.{rules}
use Rattle.std.proofs.lemmas.Option.{MatchOption-at_none, MatchOption-at_some}
use Rattle.plane.specs.Point.{points}
use Rattle.plane.specs.Distance.{distance}
use Rattle.extents.specs.theory.Gaps.{extends-spans}
use Rattle.neighbours.specs.Search.{is_nearer}
use Rattle.neighbours.specs.Spacing.{Beyond, fraction_of}
use Rattle.answers.specs.declared.Nearest.{Nearest}
use Rattle.neighbours.proofs.is_passed.Goals as goal

pub returns : goal.returns
returns c k A s x = go c.args.best refl
  where
    go : (w : Option Nearest) → c.args.best ≡ w → is_nearer (distance A (points c.args.shape.now)) c.args.best ≡ false
    go None e = absurd (true≢false (sym k ∙ MatchOption-at_none _ _ e c.is_some_and.ensures))
    go (Some h) e =
        let far : c.is_some_and.result ≡ true → Beyond c.args.extent (points c.args.shape.now) (fraction_of h.distance) =
        search (rules, MatchOption-at_some _ _ h e c.is_some_and.ensures) in
        ap (is_nearer (distance A (points c.args.shape.now))) e
        ∙ ap not (far k A (points c.args.shape.now) s c.requires.1.shape (λ g y. extends-spans x y))
