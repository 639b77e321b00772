-- `measured` meets its contract, a case for each kind of candidate.
use mathlib.Core.Path.{◌≡◌, sym, ◌∙◌, ap, ap₂, subst}
use mathlib.Core.List.{List, [], ◌∷◌}
use lib.IntN.{ℤ, pos, nat_abs}
use Rattle.plane.specs.Point.{points}
use Rattle.plane.specs.Clearance.{shown, numbers_of}
use Rattle.clearance.specs.Answer.{candidate_of, HasSize, Measurable}
use Rattle.clearance.specs.declared.reach.Pair.{Pair}
use Rattle.clearance.specs.declared.measured.Height.{Height}
use Rattle.clearance.proofs.measured.measured.Goals as goal

-- the numbers of a height
told : {t q : ℤ} {r : Height} → HasSize t q r → pos r.turn ∷ pos r.squared ∷ pos r.rounded ∷ [] ≡ shown t q
told {t} {q} {r} h = ap₂ (λ (x y : ℤ). x ∷ y ∷ pos r.rounded ∷ []) (ap pos h.turn_is) h.squared-is
    ∙ ap (λ (z : ℤ). pos (nat_abs t) ∷ q ∷ z ∷ []) (ap pos h.rounded-is)

pub between-requires : goal.between-requires
between-requires c =
    let m = subst (λ (p : Pair). Measurable (points c.args.a.now) (points c.args.b.now) (candidate_of p))
    c.in-Corners.is c.requires.2 in
    (m.0, m.1, c.requires.0, c.requires.1, m.2)

pub across-found-requires : goal.across-found-requires
across-found-requires c =
    let m = subst (λ (p : Pair). Measurable (points c.args.a.now) (points c.args.b.now) (candidate_of p))
    c.in-OnSecond.is c.requires.2 in
    (m.0, m.1, c.requires.0, c.requires.1, m.2)

pub across-found-requires-in-OnFirst : goal.across-found-requires-in-OnFirst
across-found-requires-in-OnFirst c =
    let m = subst (λ (p : Pair). Measurable (points c.args.a.now) (points c.args.b.now) (candidate_of p))
    c.in-OnFirst.is c.requires.2 in
    (m.0, m.1, c.requires.1, c.requires.0, m.2)

pub returns-in-Corners : goal.returns-in-Corners
returns-in-Corners c =
    let args = c.args in
    c.between.ensures
    ∙ ap (λ (p : Pair). numbers_of (points args.a.now) (points args.b.now) (candidate_of p)) (sym c.in-Corners.is)

pub returns-in-OnSecond : goal.returns-in-OnSecond
returns-in-OnSecond c =
    let args = c.args in
    ap (λ (vs : List ℤ). pos 2 ∷ pos c.in-OnSecond.corner ∷ pos c.in-OnSecond.edge ∷ vs) (told c.across-found.ensures)
    ∙ ap (λ (p : Pair). numbers_of (points args.a.now) (points args.b.now) (candidate_of p)) (sym c.in-OnSecond.is)

pub returns-in-OnFirst : goal.returns-in-OnFirst
returns-in-OnFirst c =
    let args = c.args in
    ap (λ (vs : List ℤ). pos 3 ∷ pos c.in-OnFirst.corner ∷ pos c.in-OnFirst.edge ∷ vs) (told c.across-found-in-OnFirst.ensures)
    ∙ ap (λ (p : Pair). numbers_of (points args.a.now) (points args.b.now) (candidate_of p)) (sym c.in-OnFirst.is)
