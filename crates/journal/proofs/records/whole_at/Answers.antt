-- `whole_at` meets its contract: the tests that end a log, one by one.
use Rattle.std.specs.Prelude.{◌≡◌, ℕ, ◌+◌, ◌-◌, ◌<◌, ◌≤◌, not, eqb, length, get_or, drop}
use Rattle.std.proofs.Common.{sym, ◌∙◌, ap, arith, true≢false, leb-true, leb-false, eq-eqb, length-drop, get_or-drop}
use Rattle.journal.specs.Format.{size}
use Rattle.journal.proofs.theory.Survey.{size-at, no_record, ends-whole}
use Rattle.journal.proofs.records.whole_at.Goals as goal
use Rattle.journal.proofs.records.whole_at.Goals.{After-pair_at-size, Then-size-room, then-size-ne0, else-size-ne0}

-- the length that was read is that of the record
size-read : (c : After-pair_at-size) → let args = c.args in
    size (drop args.p args.log.now) ≡ c.pair_at-size.result
size-read c = size-at _ _ ∙ sym c.pair_at-size.ensures.0

pub returns-then-room-lt2 : goal.returns-then-room-lt2
returns-then-room-lt2 c =
    let args = c.args in
    no_record _ (λ w. omega (arith, c.if-room-lt2.true, w.two, length-drop args.p args.log.now))

-- the size is not 0, and the record has room
fits : (c : Then-size-room) → let size = c.pair_at-size.result in
    (0 < size) × (2 + size ≤ length c.args.log.now - c.args.p)
fits c =
    elim c.if-size-ne0.branch [
      | then-size-ne0 w ↦ (omega (arith, w.if-size-ne0.true), leb-true _ _ (sym w.value-is ∙ c.if-size-room.true))
      | else-size-ne0 w ↦ absurd (true≢false (sym c.if-size-room.true ∙ w.value-is ∙ ap not (eq-eqb _ 0 w.if-size-ne0.false)))
    ]

pub returns-then-size-room : goal.returns-then-size-room
returns-then-size-room c =
    let args = c.args in
    let t = drop args.p args.log.now in
    let same = size-read (goal.at.returns-then-size-room c).After-pair_at-size in
    let count = length-drop args.p args.log.now in
    let room = fits (goal.at.returns-then-size-room c).Then-size-room in
    let place : args.p + 1 + c.pair_at-size.result ≡ args.p + (1 + size t) = omega arith in
    ap (λ (x : ℕ). eqb x 90) (ap (λ (i : ℕ). get_or args.log.now i 0) place ∙ sym (get_or-drop args.p args.log.now (1 + size t) 0))
    ∙ ends-whole t (omega (arith, c.if-room-lt2.false)) (omega arith) (omega arith)

pub returns-else-size-room : goal.returns-else-size-room
returns-else-size-room c =
    let args = c.args in
    let same = size-read (goal.at.returns-else-size-room c).After-pair_at-size in
    c.if-size-room.false
    ∙ no_record _ (λ w. elim c.if-size-ne0.branch [
      | then-size-ne0 v ↦
          omega (arith, w.fits, leb-false _ _ (sym v.value-is ∙ c.if-size-room.false), length-drop args.p args.log.now)
      | else-size-ne0 v ↦ omega (arith, w.some, v.if-size-ne0.false)
    ])
