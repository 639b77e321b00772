-- `combine` meets its contract: the question is asked, and the numbers that are answered are written as bytes.
use mathlib.Core.Path.{◌≡◌, sym, ◌∙◌, ap, subst}
use mathlib.Core.Bool.{false}
use mathlib.Core.List.{List, ◌++◌}
use Prim.Native.Nat.{ℕ, ◌*◌, ◌≤◌}
use native.Mathlib.Omega.{arith}
use lib.IntN.{ℤ}
use lib.ListN.{length, take, drop, get_or, length-append}
use lib.Seq.{length-take-le}
use Rattle.plane.specs.Point.{Point, points}
use Rattle.plane.specs.Reply.{NoneApply}
use Rattle.plane.specs.Refusal.{too_many}
use Rattle.plane.specs.Output.{overwritten}
use Rattle.plane.specs.Floor.{Floored, on, Shapes, two_shapes, rows_of}
use Rattle.plane.specs.Question.{Question, reply}
use Rattle.plane.proofs.theory.refusals.Asked.{none→admitted}
use Rattle.endian.specs.Bytes.{words}
use Rattle.wire.specs.Told.{crossed}
use Rattle.bytewise.specs.Passing.{Room, combined, asked}
use Rattle.calls.specs.theory.Fits.{made-fits}
use Rattle.bytewise.specs.theory.Packed.{placed, narrow}
use Rattle.calls.specs.theory.Stored.{made-delivered, made-stored}
use borrow.Author.Rules.{rules}
use Rattle.calls.proofs.writing.combine.Goals as goal
use Rattle.calls.proofs.writing.combine.Goals.{After-ask-reply, After-room-n}

-- what is asked about, and the shape that is made
abbrev first : After-room-n → Floored
first c = let args = c.args in on args.a.now args.f

abbrev second : After-room-n → Floored
second c = let args = c.args in on args.b.now args.g

abbrev shapes : After-room-n → Shapes
shapes c = two_shapes (first c) (second c)

abbrev shape : After-room-n → List Point
shape c = let args = c.args in combined args.merged (points args.a.now) (points args.b.now)

-- the part of the buffer that is lent, and the question; it has as much room as the output
abbrev part : After-room-n → List ℤ
part c = take c.room-n.result c.args.shape.now

abbrev question : After-room-n → Question
question c = asked (combined c.args.merged) (first c) (second c) (part c)

lent : (c : After-room-n) → length (part c) ≡ c.room-n.result
lent c = length-take-le _ c.args.shape.now (omega (arith, c.room-n.ensures.0))

room : (c : After-room-n) → let args = c.args in
    Room (length args.out.now) (length args.shape.now) (length (part c))
room c =
    let args = c.args in
    subst (Room (length args.out.now) (length args.shape.now)) (sym (lent c)) c.room-n.ensures.1

-- the shape that is made has room in the buffer
fit : (c : After-room-n) → NoneApply (rows_of (shapes c)) → too_many (shape c) ≡ false
    → 2 * length (shape c) ≤ length c.args.shape.now
fit c none few =
    let good = none→admitted (shapes c) none in
    c.requires good.first-valid good.second-valid few

-- the first value of the reply
abbrev count : After-ask-reply → ℕ
count c = get_or c.ask-reply.result.values 0 0

counted : (c : After-ask-reply) → count c ≡ get_or (crossed (reply (question (goal.at.After-ask-reply c).After-room-n))) 5 0
counted c =
    let r = c.ask-reply.result in
    let three : length r.carried ≡ 3 = search rules in
    placed r.number r.count r.values r.carried three ∙ ap (λ (ns : List ℕ). get_or ns 5 0) c.ask-reply.ensures.0

delivered : (c : After-ask-reply) →
    (2 * count c ≤ length (part (goal.at.After-ask-reply c).After-room-n)) × (8 * count c ≤ length c.args.out.now)
delivered c =
    let d = made-delivered (shapes (goal.at.After-ask-reply c).After-room-n) (shape (goal.at.After-ask-reply c).After-room-n)
    (part (goal.at.After-ask-reply c).After-room-n) c.args.out.now (room (goal.at.After-ask-reply c).After-room-n) in
    (omega (arith, counted c, d.0), omega (arith, counted c, d.1))

pub slice_bounds-ask-end-2 : goal.slice_bounds-ask-end-2
slice_bounds-ask-end-2 c = sym (lent (goal.at.slice_bounds-ask-end-2 c).After-room-n)

pub overflow_mul-reply : goal.overflow_mul-reply
overflow_mul-reply c =
    let d = delivered (goal.at.overflow_mul-reply c).After-ask-reply in
    record { fits = omega (arith, d.0, c.room-n.ensures.0) }

pub encode-requires : goal.encode-requires
encode-requires c =
    let d = delivered (goal.at.encode-requires c).After-ask-reply in
    let rest = drop c.room-n.result c.args.shape.now in
    let new = c.ask-reply.new.shape in
    (omega (arith, d.0, c.ask-reply.auto.shape, length-append new rest), omega (arith, d.1))

pub packed_reply-requires : goal.packed_reply-requires
packed_reply-requires c =
    narrow _ c.ask-reply.ensures.0
    (made-fits (first (goal.at.packed_reply-requires c).After-room-n) (second (goal.at.packed_reply-requires c).After-room-n)
    (shape (goal.at.packed_reply-requires c).After-room-n) (part (goal.at.packed_reply-requires c).After-room-n))

pub returns : goal.returns
returns c =
    let args = c.args in
    let new = c.ask-reply.new.shape in
    let rest = drop c.room-n.result args.shape.now in
    made-stored (shapes (goal.at.returns c).After-room-n) (shape (goal.at.returns c).After-room-n) (part (goal.at.returns c).After-room-n)
    args.out.now (room (goal.at.returns c).After-room-n) (fit (goal.at.returns c).After-room-n) rest
    c.ask-reply.auto.shape c.ask-reply.ensures.1
    (c.packed_reply.ensures (reply (question (goal.at.returns c).After-room-n)) c.ask-reply.ensures.0)
    (c.encode.ensures
    ∙ ap (λ (n : ℕ). overwritten (words (take (2 * n) (new ++ rest))) args.out.now) (counted (goal.at.returns c).After-ask-reply))
