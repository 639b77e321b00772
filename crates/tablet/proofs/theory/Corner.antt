-- A corner of two readings.
--     corner-read, read-corner     it is accepted exactly if both are
use Rattle.std.specs.Prelude.{Ok}
use Rattle.std.specs.Prelude.{◌≡◌, [], ◌∷◌, ℤ}
use Rattle.std.proofs.Math.Path.{sym, ap, ap₂}
use Rattle.std.proofs.Common.{◌∙◌}
use Rattle.plane.specs.Reply.{answered, NoneApply}
use Rattle.plane.proofs.theory.refusals.Rows.{first_row-none, first_row-passed, first_row-answered}
use Rattle.tablet.specs.Reading.{whole_number, read_as, reading_rows, corner_rows, tablet_reply}
use Rattle.tablet.proofs.theory.Rows.{whole-passed, whole_is, passed-whole}
use Rattle.tablet.specs.declared.reading.Reading.{Reading}

module _ (x y : Reading) (m n : ℤ) where
  pub read-corner : read_as x ≡ Ok m → read_as y ≡ Ok n → tablet_reply x y ≡ answered (m ∷ n ∷ [])
  unfolding tablet_reply
  read-corner h k =
      first_row-passed (reading_rows 1 x) (reading_rows 2 y) _ (whole-passed 1 x m h)
      ∙ first_row-none (reading_rows 2 y) _ (whole-passed 2 y n k)
      ∙ ap₂ (λ (a b : ℤ). answered (a ∷ b ∷ [])) (sym (whole_is 1 x m h)) (sym (whole_is 2 y n k))

  pub corner-read : tablet_reply x y ≡ answered (m ∷ n ∷ []) → (read_as x ≡ Ok m) × (read_as y ≡ Ok n)
  unfolding tablet_reply
  corner-read h =
      let rows : NoneApply (corner_rows x y) = first_row-answered (corner_rows x y) (whole_number x ∷ whole_number y ∷ []) (m ∷ n ∷ []) h in
      let same : answered (whole_number x ∷ whole_number y ∷ []) ≡ answered (m ∷ n ∷ []) = sym (first_row-none (corner_rows x y) _ rows) ∙ h
      in
      let first : whole_number x ≡ m = cc same in
      let second : whole_number y ≡ n = cc same in (
        passed-whole 1 x (rows.0, (rows.1.0, (rows.1.1.0, tt))) ∙ ap Ok first,
        passed-whole 2 y rows.1.1.1 ∙ ap Ok second,
      )
