-- A refusal is known by its reply.
--     known, refusal-back     the refusal with a number and what is carried, and that it is the one whose reply they are
use Rattle.std.specs.Prelude.{◌≡◌, refl, cond, List, ℕ, eqb, get_or}
use Rattle.plane.specs.Reply.{Reply, answered, refused}
use Rattle.admission.specs.declared.answer.Refusal.{Refusal}
use Rattle.admission.specs.Answer.{of_refusal}

-- the numbers 1 to 5, and those that carry nothing
abbrev shaped : ℕ → List ℕ → Refusal → Refusal
shaped n c other =
    let shape = get_or c 0 0 in
    cond (eqb n 1) (Refusal.Count shape) (cond (eqb n 2) (Refusal.Corners shape) (cond (eqb n 3) (Refusal.Range shape)
    (cond (eqb n 4) (Refusal.Side shape (get_or c 1 0) (get_or c 2 0)) (cond (eqb n 5) (Refusal.Start shape) other))))

abbrev bare : ℕ → Refusal → Refusal
bare n other =
    cond (eqb n 6) Refusal.LargeAnswer (cond (eqb n 7) Refusal.FarAnswer (cond (eqb n 8) Refusal.Room (cond (eqb n 9) Refusal.NotApart
    (cond (eqb n 10) Refusal.Flat (cond (eqb n 11) Refusal.Direction (cond (eqb n 12) Refusal.NotPrimitive
    (cond (eqb n 13) Refusal.Floors (cond (eqb n 14) Refusal.NotAPlace (cond (eqb n 16) Refusal.Full
    (cond (eqb n 20) Refusal.TooFew other))))))))))

abbrev pub known : Reply → Refusal
known (answered v) = Refusal.NoRecord
known (refused n c) = shaped n c (bare n (cond (eqb n 15) (Refusal.Damaged (get_or c 0 0)) Refusal.NoRecord))

pub refusal-back : (r : Refusal) → r ≡ known (of_refusal r)
refusal-back (Refusal.Count shape) = refl
refusal-back (Refusal.Corners shape) = refl
refusal-back (Refusal.Range shape) = refl
refusal-back (Refusal.Side shape edge corner) = refl
refusal-back (Refusal.Start shape) = refl
refusal-back Refusal.LargeAnswer = refl
refusal-back Refusal.FarAnswer = refl
refusal-back Refusal.Room = refl
refusal-back Refusal.NotApart = refl
refusal-back Refusal.Flat = refl
refusal-back Refusal.Direction = refl
refusal-back Refusal.NotPrimitive = refl
refusal-back Refusal.Floors = refl
refusal-back Refusal.NotAPlace = refl
refusal-back (Refusal.Damaged place) = refl
refusal-back Refusal.Full = refl
refusal-back Refusal.NoRecord = refl
refusal-back Refusal.TooFew = refl
