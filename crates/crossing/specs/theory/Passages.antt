-- Passage on floors that are any numbers: 13 for one above its limit comes after the rows of the three lists.
--     passage-within           on floors within the limit nothing changes
--     passage-above            where one is above, the rows of the lists are judged, and then 13 is due
--     all-low                  of three floors each is within its limit
--     barred-three             13 after three lists that pass
use Rattle.std.specs.Prelude.{◌≡◌, refl, Bool, true, false, ◌||◌, List, [], ◌∷◌, ◌++◌, ℕ, eqb, ltb, ℤ}
use Rattle.std.proofs.Common.{sym, ◌∙◌, true≢false, eqb-true}
use Rattle.std.proofs.Math.Path.{ap}
use Rattle.plane.specs.Limits.{max_floor}
use Rattle.plane.specs.Reply.{Reply, answered, refused, Row, row, first_row}
use Rattle.plane.specs.Refusal.{shape_rows, Valid}
use Rattle.plane.specs.Floor.{Floored, floor_row}
use Rattle.plane.specs.Question.{values, reply}
use Rattle.plane.proofs.theory.refusals.Rows.{first_row-none, none-join}
use Rattle.plane.proofs.theory.refusals.Accept.{valid→accepted}
use Rattle.admission.specs.Three.{three_rows}
use Rattle.passage.specs.Passage.{grown_rows, ask_passage}
use Rattle.crossing.specs.LowFloor.{low_passage, barred}
use Rattle.crossing.specs.theory.Low.{skipped-reply}

pub all-low : (f g h : Bool) → ((f || g) || h) ≡ false → (f ≡ false) × (g ≡ false) × (h ≡ false)
all-low true g h e = absurd (true≢false e)
all-low false true h e = absurd (true≢false e)
all-low false false h e = (refl, refl, e)

-- of three floors that are equal, all are above the limit if one is
same-high : (b : Bool) → ((b || b) || b) ≡ true → b ≡ true
same-high true e = refl
same-high false e = e

thirteen : (f g h : ℕ) (rest : List Row) (r : Reply) → ((ltb max_floor f || ltb max_floor g) || ltb max_floor h) ≡ true
    → refused 13 [] ≡ first_row (floor_row f g ∷ floor_row f h ∷ row 13 (ltb max_floor f) [] ∷ rest) r
thirteen f g h rest r high = go (eqb f g) refl (eqb f h) refl
  where
    go : (s : Bool) → eqb f g ≡ s → (t : Bool) → eqb f h ≡ t
        → refused 13 [] ≡ first_row (floor_row f g ∷ floor_row f h ∷ row 13 (ltb max_floor f) [] ∷ rest) r
    go false e t k = rw e
    go true e false k = rw (e, k)
    go true e true k =
        let all = same-high (ltb max_floor f) (ap (λ (n : ℕ). (ltb max_floor f || ltb max_floor n) || ltb max_floor f) (eqb-true f g e)
        ∙ ap (λ (n : ℕ). (ltb max_floor f || ltb max_floor g) || ltb max_floor n) (eqb-true f h k) ∙ high) in
        rw (e, k, all)

-- the rows of the three lists
abbrev lists : List ℤ → List ℤ → List ℤ → List Row
lists a b c = shape_rows 1 a ++ (shape_rows 2 b ++ shape_rows 3 c)

pub barred-three : (a b c : List ℤ) → Valid a → Valid b → Valid c → refused 13 [] ≡ barred (lists a b c)
barred-three a b c u v w = sym (first_row-none (lists a b c) _ (none-join (shape_rows 1 a) (shape_rows 2 b ++ shape_rows 3 c)
    (valid→accepted a 1 u) (none-join (shape_rows 2 b) (shape_rows 3 c) (valid→accepted b 2 v) (valid→accepted c 3 w))))

module _ (l r c : Floored) where
  pub passage-within : ltb max_floor l.floor ≡ false → reply (ask_passage l r c) ≡ reply (low_passage l r c)
  unfolding reply low_passage
  passage-within low = skipped-reply (row 13 (ltb max_floor l.floor) []) (grown_rows l r c) low (three_rows l r c) _

  pub passage-above : ((ltb max_floor l.floor || ltb max_floor r.floor) || ltb max_floor c.floor) ≡ true
      → barred (lists l.list r.list c.list) ≡ reply (low_passage l r c)
  unfolding reply low_passage
  passage-above high = ap (λ (x : Reply). first_row (lists l.list r.list c.list) x)
      (thirteen l.floor r.floor c.floor (grown_rows l r c) (answered (values (ask_passage l r c))) high)
