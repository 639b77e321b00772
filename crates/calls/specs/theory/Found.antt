-- The search for a direction, with floors that are any numbers.
--     found-above      a floor is above its limit: 13 after the lists, so nothing was to be found
--     found_within     else what the search answers
use Rattle.std.specs.Prelude.{◌≡◌, refl, true, false, ◌||◌, ℕ, ltb, None}
use Rattle.std.proofs.Common.{sym, ◌∙◌, arith}
use mathlib.Core.List.{List, [], ◌∷◌, ◌++◌}
use Rattle.plane.specs.Limits.{max_floor}
use Rattle.plane.specs.Reply.{Reply, Row, row, NoneApply}
use Rattle.plane.specs.Refusal.{shape_rows}
use Rattle.plane.specs.Floor.{Floored, pair_rows}
use Rattle.plane.specs.Question.{Question, table, reply}
use Rattle.plane.proofs.theory.refusals.Rows.{none-append, first_row-given, first_row-none, Outcome, given, passed, outcome}
use Rattle.plane.proofs.theory.refusals.Asked.{asked-none}
use Rattle.separator.specs.Separator.{SeparatorBetween, ask_separator}
use Rattle.wire.specs.Told.{crossed}
use Rattle.crossing.specs.LowFloor.{low_floor, barred}
use Rattle.calls.specs.Calls.{SeparatorTold}
use Rattle.crossing.specs.theory.Low.{within-told}
use Rattle.crossing.specs.theory.High.{pair-reply, above-pair}

-- a question that is refused so has a row that applies
barred-not-none : (q : Question) (rows : List Row) → barred rows ≡ reply q → NoneApply (table q) → ⊥
barred-not-none q rows e n = go (outcome rows)
  where
    go : Outcome rows → ⊥
    go (given w f) =
        let clash = sym (first_row-given _ f) ∙ e ∙ asked-none q n in
        let z : ◌≡◌ {A = ℕ} 0 1 = cc in
        omega arith
    go (passed none) =
        let clash = sym (first_row-none rows _ none) ∙ e ∙ asked-none q n in
        let z : ◌≡◌ {A = ℕ} 0 1 = cc in
        omega arith

module _ (a b : Floored) where
  pub found-above : (ltb max_floor a.floor || ltb max_floor b.floor) ≡ true
      → {ns : List ℕ} → ns ≡ crossed (barred (shape_rows 1 a.list ++ shape_rows 2 b.list)) → SeparatorTold a b ns
  found-above high n =
      let q = ask_separator a b None in record {
        found = None;
        numbers-are = (above-pair q refl high n).0;
        found-is = λ none. absurd
            (barred-not-none (low_floor q) (shape_rows 1 a.list ++ shape_rows 2 b.list) (pair-reply q refl high) none);
      }

  pub found_within : ltb max_floor a.floor ≡ false → {x : Reply} {ns : List ℕ} → ns ≡ crossed x → SeparatorBetween a b x
      → SeparatorTold a b ns
  unfolding low_floor
  found_within low n s = record {
    found = s.found;
    numbers-are = within-told (ask_separator a b s.found) low n s.reply-is;
    found-is = λ none. s.found-is (none-append (pair_rows a b) (row 13 (ltb max_floor a.floor) [] ∷ []) none).0;
  }
