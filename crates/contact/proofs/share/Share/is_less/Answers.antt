-- `is_less` meets its contract: both products have two words, and are compared.
use mathlib.Core.Path.{◌∙◌, ap, ap₂}
use Prim.Native.Nat.{◌*◌}
use lib.Dec.{ltb}
use Rattle.wide.specs.theory.Laws.{value-word}
use Rattle.contact.proofs.share.Share.is_less.Goals as goal

pub returns : goal.returns
returns c =
    let args = c.args in
    c.is_less.ensures ∙ ap₂ ltb (c.scale.ensures ∙ ap (λ z. z * args.other.denominator) (value-word args.self.numerator))
    (c.scale-2.ensures ∙ ap (λ z. z * args.self.denominator) (value-word args.other.numerator))
