-- `first_of` meets its contract: the last entry in lowest terms, unless the way is apart.
use mathlib.Core.Path.{◌≡◌, sym, ◌∙◌, ap, subst}
use mathlib.Core.List.{[], ◌∷◌}
use Prim.Native.Nat.{ℕ}
use native.Mathlib.Omega.{arith}
use lib.IntN.{ℤ, pos}
use mir.Syntax.{w64}
use Rattle.integer.specs.Bound.{Within}
use Rattle.integer.specs.Machine.{result-is}
use Rattle.plane.specs.Point.{points}
use Rattle.plane.specs.Measure.{squared}
use Rattle.plane.specs.Separation.{apart}
use Rattle.plane.proofs.theory.forms.Squared.{squared-nonneg}
use Rattle.polygon.specs.Point.{at}
use Rattle.motion.specs.Contact.{OnWay, contact}
use Rattle.contact.specs.Share.{fraction}
use Rattle.motion.proofs.theory.Meeting.{first-on-way}
use Rattle.contact.proofs.theory.Sides.{small-place}
use Rattle.contact.proofs.theory.Told.{whole_words, length-bounded, never-told, at_told}
use Rattle.contact.proofs.drive.first_of.Goals as goal
use Rattle.contact.proofs.drive.first_of.Goals.{After-exceeds, After-lowest-c, After-magnitude-length}

pub exceeds-requires : goal.exceeds-requires
exceeds-requires c = (whole_words _ _ c.arrivals-way.ensures.on-way).0

-- the way is apart as the test says
apart-is : (c : After-exceeds) → let args = c.args in
    apart (at args.t ∷ at args.u ∷ []) (points args.list.now) ≡ c.exceeds.result
apart-is c = c.arrivals-way.ensures.apart-is ∙ sym c.exceeds.ensures

pub returns-then-exceeds : goal.returns-then-exceeds
returns-then-exceeds c = never-told _ _ _ (apart-is c.before ∙ c.if-exceeds.true)

pub lowest-c-requires : goal.lowest-c-requires
lowest-c-requires c = (whole_words _ _ c.arrivals-way.ensures.on-way).1

pub squared-requires : goal.squared-requires
squared-requires c =
    let places = c.requires.1 in
    (small-place places.from-near, small-place places.to-near)

pub magnitude-length-requires : goal.magnitude-length-requires
magnitude-length-requires c = rw (result-is w64 c.squared.type_inv c.squared.ensures) (squared-nonneg _ _)

-- the contact, and the squared length of the way
told : (c : After-lowest-c) → let args = c.args in
    fraction c.lowest-c.result ≡ contact (at args.t) (at args.u) (points args.list.now)
told c =
    c.lowest-c.ensures ∙ c.arrivals-way.ensures.first-is (apart-is c.before.before.before ∙ c.if-exceeds.false)

length-is : (c : After-magnitude-length) → let args = c.args in
    pos c.magnitude-length.result ≡ squared (at args.t) (at args.u)
length-is c = sym c.magnitude-length.ensures ∙ result-is w64 c.squared.type_inv c.squared.ensures

pub millimetres-requires : goal.millimetres-requires
millimetres-requires c =
    let args = c.args in
    let w = whole_words _ _ (subst OnWay (sym (told c.before.before)) (first-on-way (at args.t) (at args.u) (points args.list.now))) in
    let near = subst (λ (z : ℤ). Within 8_000_000_000_000 z) (sym (length-is c))
    (length-bounded c.requires.1) in
    (w.0, w.1, omega (arith, near.size))

pub returns : goal.returns
returns c =
    let f = c.lowest-c.result in
    ap (λ (w : ℕ). pos 1 ∷ pos f.numerator ∷ pos f.denominator ∷ pos w ∷ []) c.millimetres.ensures
    ∙ at_told _ _ _ (apart-is c.before.before.before.before.before.before ∙ c.if-exceeds.false)
    f.numerator f.denominator c.magnitude-length.result (told c.before.before.before) (length-is c.before)
