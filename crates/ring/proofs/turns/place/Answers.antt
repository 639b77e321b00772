-- `place` meets its contract: each case of reading backwards.
use mathlib.Core.Path.{sym, ◌∙◌, ap}
use mathlib.Core.Bool.{Bool}
use Prim.Native.Nat.{ℕ, ◌<◌}
use native.Mathlib.Omega.{arith}
use lib.ListN.{get_or}
use Rattle.ring.specs.Round.{in_sense}
use Rattle.ring.specs.theory.Steps.{sense-first, sense-back}
use Rattle.ring.proofs.turns.place.Goals as goal

pub returns-then-not-back : goal.returns-then-not-back
returns-then-not-back c =
    let args = c.args in
    sym (ap (λ (b : Bool). get_or (in_sense b args.kept.now) args.j 0) (c.if-not-back.true))

pub returns-then-j-eq0 : goal.returns-then-j-eq0
returns-then-j-eq0 c =
    let args = c.args in
    sym (ap (λ (i : ℕ). get_or (in_sense args.back args.kept.now) i 0) c.if-j-eq0.true ∙ sense-first args.back
    args.kept.now)

pub returns : goal.returns
returns c =
    let args = c.args in
    let later : 0 < args.j = omega (arith, c.if-j-eq0.false) in
    sym (ap (λ (b : Bool). get_or (in_sense b args.kept.now) args.j 0) (c.if-not-back.false)
    ∙ sense-back args.kept.now args.j later c.requires)
