-- `cocklesway_log_entry` meets its contract: the reply of `log_entry`, crossed, and its output.
use mathlib.Core.Path.{◌∙◌, ap}
use Rattle.wire.specs.Told.{crossed}
use Rattle.calls.proofs.logs.cocklesway_log_entry.Goals as goal

pub returns : goal.returns
returns c =
    let asked = c.log_entry.ensures in
    (c.of.ensures ∙ ap crossed asked.0, asked.1)
