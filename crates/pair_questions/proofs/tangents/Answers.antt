-- `tangents` meets its contract: a list is refused, or the shapes are not apart, or the four lines are sought.
use mathlib.Core.Path.{◌≡◌, sym, ◌∙◌, ap}
use mathlib.Core.Bool.{Bool, true, false, not}
use Prim.Native.Nat.{ℕ, ◌<◌}
use native.Mathlib.Omega.{arith}
use lib.ListN.{length}
use Rattle.plane.specs.Point.{points}
use Rattle.plane.specs.Reply.{here}
use Rattle.plane.specs.Refusal.{Valid}
use Rattle.plane.specs.Separation.{apart}
use Rattle.plane.specs.Tangent.{tangent_from, tangent_to}
use Rattle.plane.specs.Floor.{Floored, on}
use Rattle.plane.specs.Question.{ask_tangents}
use Rattle.separation.specs.declared.answer.Relation.TheVariants.{Apart}
use Rattle.separation.specs.Answer.{number_of}
use Rattle.separation.specs.theory.Around.{related-apart}
use Rattle.tangents.specs.theory.TangentSearch.{tangent-within}
use Rattle.admission.specs.theory.Judged.{refuses, held, refusal-of, handed-on}
use Rattle.admission.specs.theory.Door.{shapes-refused, rest-refused, all-answered}
use Rattle.pair_questions.specs.theory.Lines.{tangents-values}
use Rattle.pair_questions.proofs.Related.{not-apart}
use Rattle.pair_questions.proofs.tangents.Goals as goal
use Rattle.pair_questions.proofs.tangents.Goals.{In-Apart, Start}

-- the two shapes
abbrev one : Start → Floored
one c = on c.args.a.now c.args.f

abbrev other : Start → Floored
other c = on c.args.b.now c.args.g

pub returns-in_err-admit_pair : goal.returns-in_err-admit_pair
returns-in_err-admit_pair c =
    rw (handed-on _ _ c.from_residual.ensures.1)
    (shapes-refused (ask_tangents (one (goal.at.returns-in_err-admit_pair c).Start) (other (goal.at.returns-in_err-admit_pair c).Start))
    (refusal-of c.in_err-admit_pair.ensures)).0

pub relation-requires : goal.relation-requires
relation-requires c = let both = held c.in_ok-admit_pair.ensures in (both.first-valid, both.second-valid)

pub returns-in_default : goal.returns-in_default
returns-in_default c =
    let not-first : c.relation.result ≡ Apart → ⊥ = assumption in
    let q = ask_tangents (one (goal.at.returns-in_default c).Start) (other (goal.at.returns-in_default c).Start) in
    (rest-refused q (held c.in_ok-admit_pair.ensures) (refuses {rows = q.rest}
    (here (ap not (not-apart _ _ c.relation.result not-first c.relation.ensures))))).0

-- past the relation the shapes are apart
ready : (c : In-Apart) → let args = c.args in
    Valid args.a.now × Valid args.b.now × (apart (points args.a.now) (points args.b.now) ≡ true)
ready c =
    let both = held c.in_ok-admit_pair.ensures in
    let apart-is = related-apart _ _ (ap number_of (sym c.in-Apart.is) ∙ c.relation.ensures) in
    (both.first-valid, both.second-valid, apart-is)

-- the ends of a line that was found are positions of the two lists
found : (c : In-Apart) (s t : Bool) {i j : ℕ} → let args = c.args in
    let A = points args.a.now in
    let B = points args.b.now in
    (i ≡ tangent_from s t A B) × (j ≡ tangent_to s t A B) → (i < length A) × (j < length B)
found c s t e =
    let r = ready c in
    let within = tangent-within s t r.0 r.1 r.2 in
    (omega (arith, e.0, within.0), omega (arith, e.1, within.1))

pub tangent-left-requires : goal.tangent-left-requires
tangent-left-requires c = let r = ready c in (r.0, r.1, r.2, r.0.shape.some, r.1.shape.some)

pub tangent-crossing-requires : goal.tangent-crossing-requires
tangent-crossing-requires c =
    let r = ready (goal.at.tangent-crossing-requires c).In-Apart in
    let near = found (goal.at.tangent-crossing-requires c).In-Apart true true c.tangent-left.ensures in
    (r.0, r.1, r.2, near.0, near.1)

pub tangent-right-requires : goal.tangent-right-requires
tangent-right-requires c =
    let r = ready (goal.at.tangent-right-requires c).In-Apart in
    let near = found (goal.at.tangent-right-requires c).In-Apart true false c.tangent-crossing.ensures in
    (r.0, r.1, r.2, near.0, near.1)

pub tangent-reverse-requires : goal.tangent-reverse-requires
tangent-reverse-requires c =
    let r = ready (goal.at.tangent-reverse-requires c).In-Apart in
    let near = found (goal.at.tangent-reverse-requires c).In-Apart false false c.tangent-right.ensures in
    (r.0, r.1, r.2, near.0, near.1)

pub returns : goal.returns
returns c =
    all-answered (ask_tangents (one (goal.at.returns c).Start) (other (goal.at.returns c).Start)) (held c.in_ok-admit_pair.ensures)
    (ap not (ready (goal.at.returns c).In-Apart).2, tt)
    (tangents-values (one (goal.at.returns c).Start) (other (goal.at.returns c).Start) c.tangent-left.ensures c.tangent-right.ensures
    c.tangent-crossing.ensures c.tangent-reverse.ensures)
