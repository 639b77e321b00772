-- `mirror` meets its contract: begun at the top, the opposites are the mirror image.
use mathlib.Core.Path.{sym, ◌∙◌, ap}
use mathlib.Core.List.{List}
use Rattle.plane.specs.Point.{Point, numbers}
use Rattle.plane.specs.Output.{overwritten}
use Rattle.plane.proofs.theory.mirror.Mirror.{mirror-known}
use Rattle.polygon.specs.theory.Peak.{peak-last}
use Rattle.polygon.proofs.opposite.mirror.Goals as goal

pub returns : goal.returns
returns c =
    c.write_from.ensures
    ∙ ap (λ (ps : List Point). overwritten (numbers ps) c.args.out.now)
    (sym (mirror-known _ c.requires.0.shape _ (record {
      within = c.top.ensures.within;
      last = peak-last _ c.requires.0.shape _ c.top.ensures;
    })))
