-- Each refusal of a reading is given exactly for the ticket's reason, which speaks of its exact value alone.
--     Comes r x                                               what the ticket says of a reading that comes to x
--     comes, not-finite-comes, not-whole-comes, far-comes     it does so exactly then
--     blamed-refused, refused-blamed                          a corner is refused exactly if x or y is so blamed
use Rattle.std.specs.Prelude.{Result, Ok, Err}
use Rattle.std.specs.Prelude.{◌≡◌, ℕ, Bool, true, false, not, List, [], ◌∷◌, ℤ}
use Rattle.std.proofs.Math.Path.{refl, sym, subst}
use Rattle.std.proofs.Common.{ap, ◌∙◌, arith}
use Rattle.std.proofs.lemmas.Bool.{not-true, not-false}
use Rattle.integer.specs.Bound.{Within}
use Rattle.plane.specs.Limits.{max_coordinate}
use Rattle.plane.specs.Reply.{Reply, answered, refused, first_row}
use Rattle.plane.proofs.theory.lists.Sought.{true-not-false}
use Rattle.plane.proofs.theory.refusals.Rows.{first_row-append, first_row-given, first_row-none}
use Rattle.plane.proofs.theory.refusals.Accept.{near→within, within→near}
use Rattle.tablet.specs.Double.{finite}
use Rattle.tablet.specs.Reading.{double, not_finite, not_whole, far, whole_number, read_as, reading_rows, tablet_reply}
use Rattle.tablet.specs.Reason.{Equals, Accepted, Reason, not-finite, not-whole, out_of_range, Blamed, first, second}
use Rattle.tablet.proofs.theory.Reads.{reads-not-finite, reads-not-whole, reads-far, reads-near}
use Rattle.tablet.proofs.theory.Rows.{not-finite-row, not-whole-row, far-row, whole-passed}
use Rattle.tablet.proofs.theory.Value.{number-value, value_row, value-number, whole-value, value-whole}
use Rattle.tablet.specs.declared.reading.Reading.{Reading}
use Rattle.tablet.specs.declared.reading.Fault.{Fault}
use Rattle.tablet.specs.declared.reading.Fault.TheVariants.{NotFinite, NotWhole, Far}

-- ---- one reading

abbrev pub Comes : Reading → Result ℤ Fault → Type 0
Comes r (Ok n) = Accepted r n
Comes r (Err NotFinite) = finite (double r) ≡ false
Comes r (Err NotWhole) = (finite (double r) ≡ true) × ((z : ℤ) → Equals r z → ⊥)
Comes r (Err Far) = (finite (double r) ≡ true) × (z : ℤ) × Equals r z × (Within max_coordinate z → ⊥)

module _ (r : Reading) where
  pub comes : Comes r (read_as r)
  unfolding not_finite far
  comes = go (not_finite r) (not_whole r) (far r) refl refl refl
    where
      go : (a b c : Bool) → not_finite r ≡ a → not_whole r ≡ b → far r ≡ c → Comes r (read_as r)
      go true b c p q s = subst (Comes r) (reads-not-finite r p) (not-true _ p)
      go false true c p q s =
          subst (Comes r) (reads-not-whole r p q) (not-false _ p, λ z e. true-not-false q (value_row r z e))
      go false false true p q s = subst (Comes r) (reads-far r p q s)
          (not-false _ p, whole_number r, number-value r q, λ w. true-not-false s (within→near _ w))
      go false false false p q s = subst (Comes r) (reads-near r p q s) (not-false _ p, number-value r q, near→within _ s)

  pub not-finite-comes : finite (double r) ≡ false → read_as r ≡ Err NotFinite
  unfolding not_finite
  not-finite-comes f = sym (reads-not-finite r (ap not f))

  pub not-whole-comes : finite (double r) ≡ true → ((z : ℤ) → Equals r z → ⊥) → read_as r ≡ Err NotWhole
  unfolding not_finite
  not-whole-comes f none = go (not_whole r) refl
    where
      go : (b : Bool) → not_whole r ≡ b → read_as r ≡ Err NotWhole
      go true q = sym (reads-not-whole r (ap not f) q)
      go false q = absurd (none (whole_number r) (number-value r q))

  pub far-comes : finite (double r) ≡ true → (z : ℤ) → Equals r z → (Within max_coordinate z → ⊥) → read_as r ≡ Err Far
  unfolding not_finite far
  far-comes f z e out = go (far r) refl
    where
      go : (b : Bool) → far r ≡ b → read_as r ≡ Err Far
      go true s = sym (reads-far r (ap not f) (value_row r z e) s)
      go false s = absurd (out (subst (Within max_coordinate) (value-number r z e) (near→within _ s)))

-- a reading is accepted or refused for one of the reasons
data Verdict (r : Reading) : Type 0 where
  accepted : (n : ℤ) → read_as r ≡ Ok n → Verdict r
  turned : (n : ℕ) → Reason r n → Verdict r

verdict : (r : Reading) → Verdict r
verdict r = go (read_as r) refl (comes r)
  where
    go : (x : Result ℤ Fault) → read_as r ≡ x → Comes r x → Verdict r
    go (Ok n) e c = accepted n e
    go (Err NotFinite) e c = turned 17 (not-finite refl c)
    go (Err NotWhole) e c = turned 18 (not-whole refl c.0 c.1)
    go (Err Far) e c = turned 3 (out_of_range refl c.0 c.1 c.2 c.3)

-- ---- the rows of a reading, with any rows after them

module _ (part : ℕ) (r : Reading) (x : Reply) where
  reason-rows : {n : ℕ} → Reason r n → first_row (reading_rows part r) x ≡ refused n (part ∷ [])
  reason-rows (not-finite e f) =
      first_row-given x (not-finite-row part r (not-finite-comes r f)) ∙ ap (λ (k : ℕ). refused k (part ∷ [])) (sym e)
  reason-rows (not-whole e f none) =
      first_row-given x (not-whole-row part r (not-whole-comes r f none)) ∙ ap (λ (k : ℕ). refused k (part ∷ [])) (sym e)
  reason-rows (out_of_range e f z v out) =
      first_row-given x (far-row part r (far-comes r f z v out)) ∙ ap (λ (k : ℕ). refused k (part ∷ [])) (sym e)

  accepted-rows : {n : ℤ} → read_as r ≡ Ok n → first_row (reading_rows part r) x ≡ x
  accepted-rows {n} h = first_row-none (reading_rows part r) x (whole-passed part r n h)

-- ---- a corner

module _ (x y : Reading) where
  abbrev numbers : Reply
  numbers = answered (whole_number x ∷ whole_number y ∷ [])

  in-turn : tablet_reply x y ≡ first_row (reading_rows 1 x) (first_row (reading_rows 2 y) numbers)
  unfolding tablet_reply
  in-turn = first_row-append (reading_rows 1 x) (reading_rows 2 y) numbers

  reason-x : {n : ℕ} → Reason x n → tablet_reply x y ≡ refused n (1 ∷ [])
  reason-x q = in-turn ∙ reason-rows 1 x _ q

  reason-y : {m : ℤ} → read_as x ≡ Ok m → {n : ℕ} → Reason y n → tablet_reply x y ≡ refused n (2 ∷ [])
  reason-y h q = in-turn ∙ accepted-rows 1 x _ h ∙ reason-rows 2 y _ q

  both-accepted : {m n : ℤ} → read_as x ≡ Ok m → read_as y ≡ Ok n → tablet_reply x y ≡ numbers
  both-accepted h k = in-turn ∙ accepted-rows 1 x _ h ∙ accepted-rows 2 y _ k

  pub blamed-refused : {n : ℕ} {carries : List ℕ} → Blamed x y n carries → tablet_reply x y ≡ refused n carries
  blamed-refused {n} (first e q) = reason-x q ∙ ap (refused n) (sym e)
  blamed-refused {n} (second e z (f, v, w) q) = reason-y (value-whole x z f v w) q ∙ ap (refused n) (sym e)

  pub refused-blamed : (n : ℕ) (carries : List ℕ) → tablet_reply x y ≡ refused n carries → Blamed x y n carries
  refused-blamed n carries h = go (verdict x) (verdict y)
    where
      go : Verdict x → Verdict y → Blamed x y n carries
      go (turned k q) v =
          let same : refused k (1 ∷ []) ≡ refused n carries = sym (reason-x q) ∙ h in
          let number : k ≡ n = cc same in
          let part : carries ≡ 1 ∷ [] = cc same in first part (subst (Reason x) number q)
      go (accepted m e) (turned k q) =
          let same : refused k (2 ∷ []) ≡ refused n carries = sym (reason-y e q) ∙ h in
          let number : k ≡ n = cc same in
          let part : carries ≡ 2 ∷ [] = cc same in second part m (whole-value x m e) (subst (Reason y) number q)
      go (accepted m e) (accepted l f) = absurd (let z : ◌≡◌ {A = ℕ} 0 1 = cc (both-accepted e f) in let b : ⊥ = omega arith in b)
