-- `is_sooner` meets its contract: nothing was found, or the fractions are compared by their products.
use Rattle.std.specs.Prelude.{◌*◌, ltb}
use Rattle.std.proofs.Common.{sym, ◌∙◌, ap, ap₂}
use Rattle.contact.specs.declared.share.Share.{Share}
use Rattle.drives.specs.Search.{is_sooner}
use Rattle.drives.proofs.is_sooner.Goals as goal

pub returns-in-Some : goal.returns-in-Some
returns-in-Some c =
    c.is_less.ensures
    ∙ ap₂ (λ (f g : Share). ltb (f.numerator * g.denominator) (g.numerator * f.denominator)) c.from.ensures c.from-in-Some.ensures
    ∙ sym (ap (is_sooner c.args.meeting) c.in-Some.is)
