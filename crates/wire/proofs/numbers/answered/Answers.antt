-- `answered` meets its contract: the values are written at the front of nine zeros.
use Rattle.std.proofs.Common.{◌≡◌, sym, ◌∙◌, ap, ap₂, List, [], ◌∷◌, ◌++◌, ℕ, ◌≤◌, pos, length, drop}
use Rattle.std.proofs.lemmas.List.{length-map, length-take-le}
use Rattle.wire.specs.Told.{padded}
use Rattle.wire.specs.theory.Padded.{told-padded, told-bits}
use Rattle.wire.proofs.numbers.answered.Goals as goal

pub returns : goal.returns
returns g c =
    let told = c.args.told in
    let copied = c.copy_from_slice.ensures in
    let many : length told ≡ g.row.N = ap length (sym copied.after) ∙ copied.len ∙ length-take-le g.row.N (padded 9 []) c.requires in
    let few : length told ≤ 9 = rw many c.requires in
    ap₂ (λ (n : ℕ) (l : List ℕ). 0 ∷ 0 ∷ 0 ∷ 0 ∷ n ∷ l)
    (sym many ∙ sym (length-map told (λ n. pos n)))
    (ap₂ (λ (l : List ℕ) (n : ℕ). l ++ drop n (padded 9 [])) copied.after (sym many)
    ∙ told-padded 9 told few ∙ ap (padded 9) (sym (told-bits told)))
