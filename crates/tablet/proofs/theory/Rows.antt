-- A reading's rows, by what the reading comes to.
--     not-finite-row, not-whole-row, far-row     the first row that applies
--     whole-passed, whole_is                     no row, and the whole number; `passed-whole`: the other way
use Rattle.std.specs.Prelude.{Result, Ok, Err}
use Rattle.std.specs.Prelude.{◌≡◌, ℕ, Bool, true, false, [], ◌∷◌, ℤ, refl}
use Rattle.std.proofs.Common.{sym, subst}
use Rattle.plane.specs.Reply.{Row, row, NoneApply, First, here, later}
use Rattle.tablet.specs.Reading.{not_finite, not_whole, far, whole_number, read_as, reading_rows}
use Rattle.tablet.proofs.theory.Reads.{reads-not-finite, reads-not-whole, reads-far, reads-near}
use Rattle.tablet.specs.declared.reading.Reading.{Reading}
use Rattle.tablet.specs.declared.reading.Fault.{Fault}
use Rattle.tablet.specs.declared.reading.Fault.TheVariants.{NotFinite, NotWhole, Far}

abbrev finite_row : ℕ → Reading → Row
finite_row part r = row 17 (not_finite r) (part ∷ [])

abbrev whole_row : ℕ → Reading → Row
whole_row part r = row 18 (not_whole r) (part ∷ [])

abbrev range_row : ℕ → Reading → Row
range_row part r = row 3 (far r) (part ∷ [])

-- what a reading's rows say
abbrev Says : ℕ → Reading → Result ℤ Fault → Type 0
Says part r (Ok n) = NoneApply (reading_rows part r) × (n ≡ whole_number r)
Says part r (Err NotFinite) = First (finite_row part r) (reading_rows part r)
Says part r (Err NotWhole) = First (whole_row part r) (reading_rows part r)
Says part r (Err Far) = First (range_row part r) (reading_rows part r)

says : (part : ℕ) (r : Reading) → Says part r (read_as r)
says part r = go (not_finite r) (not_whole r) (far r) refl refl refl
  where
    go : (a b c : Bool) → not_finite r ≡ a → not_whole r ≡ b → far r ≡ c → Says part r (read_as r)
    go true b c p q s = subst (Says part r) (reads-not-finite r p) (here p)
    go false true c p q s = subst (Says part r) (reads-not-whole r p q) (later p (here q))
    go false false true p q s = subst (Says part r) (reads-far r p q s) (later p (later q (here s)))
    go false false false p q s = subst (Says part r) (reads-near r p q s) ((p, (q, (s, tt))), refl)

module _ (part : ℕ) (r : Reading) where
  pub not-finite-row : read_as r ≡ Err NotFinite → First (finite_row part r) (reading_rows part r)
  not-finite-row h = subst (Says part r) h (says part r)

  pub not-whole-row : read_as r ≡ Err NotWhole → First (whole_row part r) (reading_rows part r)
  not-whole-row h = subst (Says part r) h (says part r)

  pub far-row : read_as r ≡ Err Far → First (range_row part r) (reading_rows part r)
  far-row h = subst (Says part r) h (says part r)

  pub whole-passed : (n : ℤ) → read_as r ≡ Ok n → NoneApply (reading_rows part r)
  whole-passed n h = (subst (Says part r) h (says part r)).0

  pub whole_is : (n : ℤ) → read_as r ≡ Ok n → n ≡ whole_number r
  whole_is n h = (subst (Says part r) h (says part r)).1

  -- and the other way
  pub passed-whole : NoneApply (reading_rows part r) → read_as r ≡ Ok (whole_number r)
  passed-whole n = sym (reads-near r n.0 n.1.0 n.1.1.0)
