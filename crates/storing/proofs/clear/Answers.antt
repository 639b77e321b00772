-- `clear` meets its contract. Where all bytes are 0, nothing is stored. The invariant: the bytes from p on are cleared, and those before
-- it as they were.
use Rattle.std.specs.Prelude.{◌≡◌, ℕ, suc, ◌-◌}
use Rattle.std.proofs.Common.{subst, arith}
use Rattle.journal.proofs.theory.Storing.{ran-blank, Cleared, cleared-start, cleared-next}
use Rattle.storing.proofs.clear.Goals as goal
use Rattle.storing.proofs.clear.Goals.{At-loop-p}

-- the invariant at another place
moved : (c : At-loop-p) → let args = c.args in
    (q : ℕ) → c.loop-p.p ≡ q → Cleared args.allowed args.log.now q c.loop-p.left c.loop-p.log
moved c q e =
    let args = c.args in
    subst (λ (i : ℕ). Cleared args.allowed args.log.now i c.loop-p.left c.loop-p.log) e c.loop-p.invariant.1

pub returns-then-is_blank : goal.returns-then-is_blank
returns-then-is_blank c =
    ran-blank _ _ _ (c.is_blank.ensures c.if-is_blank.true)

pub loop-p-init : goal.loop-p-init
loop-p-init c = (c.requires, cleared-start _ _)

pub loop-p-preserved : goal.loop-p-preserved
loop-p-preserved c =
    let more = c.loop-p-test.true in
    let next : c.loop-p.p ≡ suc (c.loop-p.p - 1) = omega (arith, more) in (
      omega (arith, more),
      cleared-next (c.loop-p.p - 1) (moved (goal.at.loop-p-preserved c).At-loop-p _ next) c.tidy-left.ensures,
    )

pub returns : goal.returns
returns c =
    (moved (goal.at.returns c).At-loop-p c.args.from (omega (arith, c.loop-p-test.false, c.loop-p.invariant.0))).ran
