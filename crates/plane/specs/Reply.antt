-- What a question answers, in document 01's terms, and its table of refusals (document 01, "When the map desk says no").
--     Reply            the values of an answer in the paper's order, or a refusal's number and what it carries
--     Row              a row of the table: its number, whether it applies, and what it carries
--     first_row rs r    the refusal of the first row that applies, in the order of the list; r where none does
--     NoneApply rs     none of the rows applies
--     First w rs       w is a row of rs, it applies, and none before it does
-- What it means: the section of the table in `Meaning.antt`.
use Rattle.std.specs.Prelude.{◌≡◌, Bool, true, false, cond, List, [], ◌∷◌, ℕ, ℤ}

pub data Reply : Type 0 where
  answered : List ℤ → Reply
  refused : ℕ → List ℕ → Reply

pub record Row : Type 0 where
  pub number : ℕ
  pub applies : Bool
  pub carries : List ℕ

abbrev pub row : ℕ → Bool → List ℕ → Row
row n b c = record { number = n; applies = b; carries = c }

abbrev pub first_row : List Row → Reply → Reply
first_row [] r = r
first_row (w ∷ ws) r = let rest = first_row ws r in cond w.applies (refused w.number w.carries) rest

abbrev pub NoneApply : List Row → Type 0
NoneApply [] = Unit {0}
NoneApply (w ∷ ws) = (w.applies ≡ false) × NoneApply ws

pub data First (w : Row) : List Row → Type 0 where
  here : {ws : List Row} → w.applies ≡ true → First w (w ∷ ws)
  later : {v : Row} {ws : List Row} → v.applies ≡ false → First w ws → First w (v ∷ ws)
