-- What a call of a sum in parts answers, and what its beginning says of the whole sum.
--     off-place, place-off             14 is given off the places, of two shapes on one floor, and nowhere else
--     part-known                       what an answer says; `part-written`: what was written
--     part-answered                    at a place, where 6, 7 and 8 do not apply, a call is answered
--     begin-refused, begin-answered    the beginning is refused as the sum is, but for 8
use Rattle.std.specs.Prelude.{◌≡◌, refl, Bool, true, false, not, cond, List, [], ◌∷◌, ◌++◌, ℕ, ◌*◌, ℤ, pos, length, take}
use Rattle.std.proofs.Common.{sym, ◌∙◌, ap, ap₂, arith}
use Rattle.std.proofs.Math.Bool.{or-false}
use Rattle.std.proofs.lemmas.Bool.{not-true}
use Rattle.plane.specs.Point.{numbers}
use Rattle.plane.specs.Reply.{answered, refused, Row, first_row, NoneApply, here}
use Rattle.plane.specs.Output.{size_rows, no_room, room_row, overwritten}
use Rattle.plane.specs.Floor.{Floored, Same}
use Rattle.plane.specs.Question.{Question, table, values, reply, output, ask_sum}
use Rattle.plane.proofs.theory.refusals.Rows.{first-append, first-applies, first_row-passed}
use Rattle.plane.proofs.theory.refusals.Asked.{asked-given, asked-refused, asked-none, asked-answered, asked-values, asked-wrote}
use Rattle.plane.proofs.theory.refusals.Asked.{rest-given, rest-none}
use Rattle.polygon.specs.theory.Fronts.{overwritten-front}
use Rattle.calipers.specs.Walk.{Walk}
use Rattle.sums.specs.PlaceAfter.{whole_sum, is_place}
use Rattle.parts.specs.Part.{handed_back, walk_numbers, ask_begin, ask_part}
use Rattle.sums.specs.theory.Reached.{walk-equal}

-- 1 and 0 say whether a walk is over
flag-known : (o p : Bool) → ◌≡◌ {A = ℤ} (cond o (pos 1) (pos 0)) (cond p (pos 1) (pos 0)) → o ≡ p
flag-known true true e = refl
flag-known true false e = let z : ◌≡◌ {A = ℕ} 1 0 = cc in let n : ⊥ = omega arith in absurd n
flag-known false true e = let z : ◌≡◌ {A = ℕ} 0 1 = cc in let n : ⊥ = omega arith in absurd n
flag-known false false e = refl

-- a walk is known by its numbers
walk-known : (u x : Walk) → walk_numbers u ≡ walk_numbers x → u ≡ x
walk-known u x e = walk-equal (cc e) (cc e) (flag-known u.over x.over (cc e))

-- ---- a call

module _ (a b : Floored) (u : Walk) (k : ℕ) (out : List ℤ) where
  abbrev call : Question
  call = ask_part a b u k out

  pub off-place : Same a b → is_place a.list b.list u ≡ false → reply call ≡ refused 14 []
  off-place one e = asked-given call (rest-given call one (here (ap not e)))

  pub place-off : reply call ≡ refused 14 [] → is_place a.list b.list u ≡ false
  place-off h = let r = asked-refused call 14 [] h in not-true _ (sym (or-false _) ∙ first-applies 14 r.1 r.2)

  module _ (x : Walk) (n f : ℕ) (h : reply call ≡ answered (pos n ∷ walk_numbers x ++ (pos f ∷ []))) where
    pub part-known : (n ≡ length call.shape) × (x ≡ handed_back a.list b.list u k) × (f ≡ a.floor)
        × (output call ≡ overwritten (numbers call.shape) out)
    part-known = let same = asked-values call _ h in (cc same, walk-known x _ (cc same), cc same, asked-wrote call _ h)

    pub part-written : take (2 * n) (output call) ≡ numbers call.shape
    part-written = (overwritten-front call.shape n out _ part-known.0 part-known.3).front

  pub part-answered : Same a b → NoneApply (size_rows (whole_sum a.list b.list)) → is_place a.list b.list u ≡ true
      → no_room call.shape out ≡ false → reply call ≡ answered (values call)
  part-answered one size e room = asked-none call (rest-none call one (ap not e, (size.0, (size.1.0, (room, tt)))))

-- ---- the beginning

module _ (a b : Floored) (out : List ℤ) where
  abbrev room : List Row
  room = room_row (whole_sum a.list b.list) out ∷ []

  pub begin-refused : (n : ℕ) (carries : List ℕ) → reply (ask_begin a b) ≡ refused n carries → reply (ask_sum a b out) ≡ refused n carries
  begin-refused n carries h =
      let r = asked-refused (ask_begin a b) n carries h in
      asked-given (ask_sum a b out) (first-append room r.1) ∙ ap₂ refused r.2 r.3

  pub begin-answered : (v : List ℤ) → reply (ask_begin a b) ≡ answered v
      → reply (ask_sum a b out) ≡ first_row room (answered (values (ask_sum a b out)))
  unfolding reply
  begin-answered v h = first_row-passed (table (ask_begin a b)) room _ (asked-answered (ask_begin a b) v h)
