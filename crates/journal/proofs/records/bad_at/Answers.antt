-- `bad_at` meets its contract: the tests of a whole record, one by one.
use mathlib.Core.Path.{◌≡◌, refl, sym, ◌∙◌, ap, ap₂}
use mathlib.Core.Bool.{not}
use Prim.Native.Nat.{ℕ, ◌+◌, ◌-◌, ◌/◌, ◌%◌, ◌≤◌}
use native.Mathlib.Omega.{arith}
use lib.ListN.{length, drop}
use Rattle.endian.specs.Bytes.{words_at}
use Rattle.endian.specs.theory.Bytes.{words_at-drop}
use Rattle.journal.specs.Format.{fixed_bytes, size, kind, judged, is_answer, other_kind}
use Rattle.journal.specs.Kind.{number}
use Rattle.journal.proofs.theory.Kind.{known-kind, plain-bytes}
use Rattle.journal.proofs.theory.Records.{whole→facts}
use Rattle.journal.proofs.theory.Survey.{size-at, kind_at, next-inside, eighth, bad-short, bad_kind, bad-small, bad-length, bad-shape}
use Rattle.journal.proofs.records.bad_at.Goals as goal
use Rattle.journal.proofs.records.bad_at.Goals.{After-fixed_bytes-fixed, After-pair_at-number, After-pair_at-size, Start}
use Rattle.journal.proofs.records.bad_at.Goals.{Else-size-fixed, Else-size-fixed_bytes, In-Some}

-- the record is inside the log
inside : (c : Start) → let args = c.args in
    args.p + (2 + size (drop args.p args.log.now)) ≤ length args.log.now
inside c = next-inside _ c.args.p c.requires.0

-- its length was read
size-read : (c : After-pair_at-size) → let args = c.args in
    size (drop args.p args.log.now) ≡ c.pair_at-size.result
size-read c = size-at _ _ ∙ sym c.pair_at-size.ensures.0

-- past the first test it has a kind
least : (c : Else-size-fixed_bytes) → let args = c.args in 5 ≤ size (drop args.p args.log.now)
least c = omega (
  arith,
  c.if-size-fixed_bytes.false,
  c.fixed_bytes.ensures,
  plain-bytes,
  size-read (goal.at.Else-size-fixed_bytes c).After-pair_at-size,
)

kind-read : (c : After-pair_at-number) → let args = c.args in
    kind (drop args.p args.log.now) ≡ c.pair_at-number.result
kind-read c = kind_at _ _ ∙ sym c.pair_at-number.ensures.0

-- past the second, one that a record may have
kind_is : (c : In-Some) → let args = c.args in
    kind (drop args.p args.log.now) ≡ number c.in-Some.kind
kind_is c = kind-read (goal.at.In-Some c).After-pair_at-number ∙ c.in-Some.ensures

fixed-read : (c : After-fixed_bytes-fixed) → let args = c.args in
    fixed_bytes (kind (drop args.p args.log.now)) ≡ c.fixed_bytes-fixed.result
fixed-read c = ap fixed_bytes (kind_is (goal.at.After-fixed_bytes-fixed c).In-Some) ∙ sym c.fixed_bytes-fixed.ensures

-- past the third, a length for what its kind says
long : (c : Else-size-fixed) → let args = c.args in
    let t = drop args.p args.log.now in fixed_bytes (kind t) ≤ size t
long c =
    omega (
      arith,
      c.if-size-fixed.false,
      fixed-read (goal.at.Else-size-fixed c).After-fixed_bytes-fixed,
      size-read
          (goal.at.Else-size-fixed c).After-pair_at-size,
    )

-- what is left of its length
rest : (c : After-fixed_bytes-fixed) →
    let t = drop c.args.p c.args.log.now in
    size t - fixed_bytes (kind t) ≡ c.pair_at-size.result - c.fixed_bytes-fixed.result
rest c = ap₂ (λ (n k : ℕ). n - k) (size-read (goal.at.After-fixed_bytes-fixed c).After-pair_at-size) (fixed-read c)

pub pair_at-size-requires : goal.pair_at-size-requires
pair_at-size-requires c = omega (arith, inside (goal.at.pair_at-size-requires c).Start, (whole→facts _ c.requires.0).some)

pub returns-then-size-fixed_bytes : goal.returns-then-size-fixed_bytes
returns-then-size-fixed_bytes c = (
  sym (bad-short _ (omega (
    arith,
    c.if-size-fixed_bytes.true,
    c.fixed_bytes.ensures,
    plain-bytes,
    size-read (goal.at.returns-then-size-fixed_bytes c).After-pair_at-size,
  ))),
  refl,
)

pub overflow_add-p : goal.overflow_add-p
overflow_add-p c = omega (arith, inside (goal.at.overflow_add-p c).Start)

pub pair_at-number-requires : goal.pair_at-number-requires
pair_at-number-requires c = omega (arith, inside (goal.at.pair_at-number-requires c).Start, least c)

pub returns-in_default : goal.returns-in_default
returns-in_default c =
    let other = ap other_kind (kind-read (goal.at.returns-in_default c).After-pair_at-number) ∙ c.in_default.ensures in
    (sym (bad_kind _ (least (goal.at.returns-in_default c).Else-size-fixed_bytes) other), refl)

pub returns-then-size-fixed : goal.returns-then-size-fixed
returns-then-size-fixed c =
    let same = size-read (goal.at.returns-then-size-fixed c).After-pair_at-size in (
      sym (bad-small _ (least (goal.at.returns-then-size-fixed c).Else-size-fixed_bytes)
          (omega (arith, c.if-size-fixed.true, fixed-read (goal.at.returns-then-size-fixed c).After-fixed_bytes-fixed))),
      refl,
    )

pub returns-then-size-fixed-ne0 : goal.returns-then-size-fixed-ne0
returns-then-size-fixed-ne0 c =
    let left = ap (λ (n : ℕ). n % 8) (sym (rest (goal.at.returns-then-size-fixed-ne0 c).After-fixed_bytes-fixed)) in (
      sym (bad-length _ (least (goal.at.returns-then-size-fixed-ne0 c).Else-size-fixed_bytes)
          (long (goal.at.returns-then-size-fixed-ne0 c).Else-size-fixed) (λ e. c.if-size-fixed-ne0.true (left ∙ e))),
      refl,
    )

pub overflow_add-p-2 : goal.overflow_add-p-2
overflow_add-p-2 c = omega
    (arith, inside (goal.at.overflow_add-p-2 c).Start, least (goal.at.overflow_add-p-2 c).Else-size-fixed_bytes)

pub overflow_add-p-3 : goal.overflow_add-p-3
overflow_add-p-3 c =
    omega (
      arith,
      inside (goal.at.overflow_add-p-3 c).Start,
      long (goal.at.overflow_add-p-3 c).Else-size-fixed,
      fixed-read (goal.at.overflow_add-p-3 c).After-fixed_bytes-fixed,
    )

pub is_shape_at-requires : goal.is_shape_at-requires
is_shape_at-requires c =
    let fits = inside (goal.at.is_shape_at-requires c).Start in
    let same = size-read (goal.at.is_shape_at-requires c).After-pair_at-size in
    let fixed = fixed-read (goal.at.is_shape_at-requires c).After-fixed_bytes-fixed in
    let big = long (goal.at.is_shape_at-requires c).Else-size-fixed in
    (omega arith, eighth _ c.if-size-fixed-ne0.false, c.requires.1)

pub returns : goal.returns
returns c =
    let args = c.args in
    let t = drop args.p args.log.now in
    let even = ap (λ (n : ℕ). n % 8) (rest (goal.at.returns c).After-fixed_bytes-fixed) ∙ c.if-size-fixed-ne0.false in
    let place : args.p + (1 + fixed_bytes (kind t)) ≡ args.p + 1 + c.fixed_bytes-fixed.result = omega
    (arith, fixed-read (goal.at.returns c).After-fixed_bytes-fixed) in (
      ap not c.is_shape_at.ensures.0
          ∙ sym (bad-shape t (least (goal.at.returns c).Else-size-fixed_bytes) (long (goal.at.returns c).Else-size-fixed) even
          (ap other_kind (kind_is (goal.at.returns c).In-Some) ∙ known-kind _)
          ∙ ap (λ l. not (is_answer (judged l))) (words_at-drop args.log.now _ args.p _
          ∙ ap₂ (λ (n q : ℕ). words_at (n / 4) args.log.now q) (rest (goal.at.returns c).After-fixed_bytes-fixed) place)),
      c.is_shape_at.ensures.1,
    )
