-- `mend` meets its contract: the byte is right, or a store is needed, and made if it is allowed.
use mathlib.Core.Path.{sym, subst}
use mathlib.Core.List.{List, [], ◌∷◌}
use Prim.Native.Nat.{ℕ, ◌+◌}
use Rattle.packing.specs.Copying.{Copied}
use Rattle.packing.specs.theory.Copying.{copied-same, copied-made, copied-past}
use Rattle.packing.proofs.copying.mend.Goals as goal
use Rattle.packing.proofs.copying.mend.Goals.{Joined-need-allowed, then-need-allowed, else-need-allowed}

pub returns-then-new-at : goal.returns-then-new-at
returns-then-new-at c =
    copied-same c.args.allowed c.args.need c.args.new.now c.args.at c.args.x c.requires.0
    c.if-new-at.true

-- both ways of the last test
both : (c : Joined-need-allowed) → let args = c.args in
    Copied args.allowed args.need args.new.now args.at (args.x ∷ []) (args.need + 1) c.if-need-allowed.new
both c =
    let args = c.args in
    let b = args.new.now in
    elim c.if-need-allowed.branch [
      | then-need-allowed w ↦
          subst (λ (d : List ℕ). Copied args.allowed args.need b args.at (args.x ∷ []) (args.need + 1) d) (sym w.new-is)
          (copied-made args.allowed args.need b args.at args.x c.requires.0 c.if-new-at.false w.if-need-allowed.true)
      | else-need-allowed w ↦
          subst (λ (d : List ℕ). Copied args.allowed args.need b args.at (args.x ∷ []) (args.need + 1) d) (sym w.new-is)
          (copied-past args.allowed args.need b args.at args.x c.requires.0 c.if-new-at.false w.if-need-allowed.false)
    ]

pub returns : goal.returns
returns c = both c
