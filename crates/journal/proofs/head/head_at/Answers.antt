-- `head_at` meets its contract: each number is read at its place, and the record is long enough for all of them.
use mathlib.Core.Path.{◌≡◌, sym, ◌∙◌, ap, ap₂}
use Prim.Native.Nat.{ℕ, ◌+◌, ◌-◌, ◌/◌}
use native.Mathlib.Omega.{arith}
use lib.ListN.{drop}
use Rattle.journal.specs.Format.{fixed_bytes, size, kind}
use Rattle.journal.proofs.theory.Survey.{size-at, name-at}
use Rattle.journal.proofs.theory.Stepping.{legible, name-inside, stated}
use Rattle.journal.proofs.head.head_at.Goals as goal
use Rattle.journal.proofs.head.head_at.Goals.{After-fixed_bytes-fixed, After-pair_at}

fixed-read : (c : After-fixed_bytes-fixed) → let args = c.args in
    fixed_bytes (kind (drop args.p args.log.now)) ≡ c.fixed_bytes-fixed.result
fixed-read c = ap fixed_bytes c.kind_at.ensures ∙ sym c.fixed_bytes-fixed.ensures

size-read : (c : After-pair_at) → let args = c.args in
    size (drop args.p args.log.now) ≡ c.pair_at.result
size-read c = size-at _ _ ∙ sym c.pair_at.ensures.0

pub overflow_add-result : goal.overflow_add-result
overflow_add-result c = let fits = legible c.requires in omega (arith, fits.inside, fits.long, fixed-read c)

pub overflow_add-result-2 : goal.overflow_add-result-2
overflow_add-result-2 c = let fits = legible c.requires in omega (arith, fits.inside, fits.long, fixed-read c)

pub pair_at-requires : goal.pair_at-requires
pair_at-requires c = omega (arith, (legible c.requires).inside)

pub overflow_sub-result : goal.overflow_sub-result
overflow_sub-result c =
    let fits = legible c.requires in
    omega (arith, fits.long, fixed-read (goal.at.overflow_sub-result c).After-fixed_bytes-fixed, size-read c)

pub overflow_add-p : goal.overflow_add-p
overflow_add-p c = omega (arith, name-inside c.requires)

pub pair_at-requires-2 : goal.pair_at-requires-2
pair_at-requires-2 c = omega (arith, name-inside c.requires)

pub floor_at-requires : goal.floor_at-requires
floor_at-requires c =
    (legible c.requires, sym (fixed-read (goal.at.floor_at-requires c).After-fixed_bytes-fixed))

pub returns : goal.returns
returns c =
    let fixed = sym (fixed-read (goal.at.returns c).After-fixed_bytes-fixed) in
    stated c.requires _ (ap (λ (k : ℕ). c.args.p + (1 + k)) fixed)
    (ap₂ (λ (n k : ℕ). (n - k) / 4) (sym (size-read (goal.at.returns c).After-pair_at)) fixed)
    (c.pair_at-2.ensures.0 ∙ sym (name-at c.args.log.now c.args.p)) c.floor_at.ensures
    c.pair_at-2.ensures.1 c.floor_at.type_inv
