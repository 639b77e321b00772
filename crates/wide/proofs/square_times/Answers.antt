-- `square_times` meets its contract: each product has one word more.
use Rattle.std.proofs.Common.{◌*◌, ap, ◌∙◌}
use Rattle.wide.specs.theory.Laws.{value-word}
use Rattle.wide.proofs.square_times.Goals as goal

pub returns : goal.returns
returns c =
    let args = c.args in
    c.scale-2.ensures ∙ ap (λ z. z * args.q) (c.scale.ensures ∙ ap (λ z. z * args.t) (value-word args.t))
