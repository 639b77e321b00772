-- `settle` meets its contract: where a walk ends the start rests, if it moved or the other way round is tried too.
use Rattle.tangents.specs.theory.Sliding.{slid-rests, slid-back}
use Rattle.tangents.proofs.rest.settle.Goals as goal

pub slid-i-requires : goal.slid-i-requires
slid-i-requires c = c.requires

pub slid-requires : goal.slid-requires
slid-requires c = c.requires

pub returns-then-i-from : goal.returns-then-i-from
returns-then-i-from c =
    let ready = c.requires in
    slid-back _ _ ready.valid.shape _ ready.facing _ _ _ _ c.slid-i.ensures c.if-i-from.true c.slid.ensures

pub returns : goal.returns
returns c =
    let ready = c.requires in
    slid-rests _ _ ready.valid.shape _ ready.facing _ _ _ c.slid-i.ensures (λ e. absurd (c.if-i-from.false e))
