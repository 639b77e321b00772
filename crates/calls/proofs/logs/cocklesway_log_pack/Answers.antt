-- `cocklesway_log_pack` meets its contract: the reply of `log_pack`, crossed, and its run.
use mathlib.Core.Path.{◌∙◌, ap}
use Rattle.wire.specs.Told.{crossed}
use Rattle.calls.proofs.logs.cocklesway_log_pack.Goals as goal

pub returns : goal.returns
returns c =
    let asked = c.log_pack.ensures in
    (c.of_addition.ensures ∙ ap crossed asked.0, asked.1)
