-- `blank` meets its contract. The invariant: the bytes from q up to the place are 0.
use Rattle.std.specs.Prelude.{◌≡◌, ℕ, ◌-◌, replicate}
use Rattle.std.proofs.Common.{subst, arith}
use Rattle.std.proofs.lemmas.List.{length-replicate}
use Rattle.packing.specs.Copying.{Copied}
use Rattle.packing.specs.theory.Copying.{copied_none, copied-few, copied-zero}
use Rattle.packing.proofs.copying.blank.Goals as goal

pub loop-at-init : goal.loop-at-init
loop-at-init c =
    let args = c.args in
    subst (λ (i : ℕ). Copied args.allowed args.need args.new.now args.q (replicate i 0) args.need args.new.now)
    (let e : 0 ≡ args.q - args.q = omega arith in e) (copied_none _ _ _ _)

-- no more stores are needed than there were bytes
pub mend-count-requires : goal.mend-count-requires
mend-count-requires c = (
  omega (arith, c.loop-at-test.true),
  omega (arith, copied-few c.loop-at.invariant, length-replicate {A = ℕ} (c.loop-at.at - c.args.q) 0, c.requires.1),
)

pub loop-at-preserved : goal.loop-at-preserved
loop-at-preserved c =
    copied-zero c.loop-at.at c.loop-at.invariant (omega arith) (omega (arith, c.loop-at-test.true)) c.mend-count.ensures
