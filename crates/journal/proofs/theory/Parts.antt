-- A front of some bytes, then zeros: the bytes after a log's records, once any store of an addition is made.
--     part j t          the first j bytes of t, then as many zeros as t has bytes left
--     part-whole        it is a whole record only if t is one and j covers it
--     part-torn, part-short      so it is none where t is none, or j is short of it
use Rattle.std.specs.Prelude.{◌≡◌, refl, Bool, true, false, List, [], ◌∷◌, ℕ, zero, suc, ◌+◌, ◌*◌, ◌≤◌, ◌<◌, length, get_or, replicate}
use Rattle.std.proofs.Common.{sym, ◌∙◌, ap, ap₂, true≢false, le_of_suc-le-suc, not-suc-le-zero, arith}
use Rattle.std.proofs.Math.Decide.{dec_lt}
use Rattle.std.proofs.lemmas.List.{length-replicate}
use Rattle.endian.specs.Bytes.{pair_at}
use Rattle.journal.specs.Format.{size, whole}
use Rattle.journal.specs.Facts.{Whole}
use Rattle.journal.proofs.theory.Records.{whole→facts, facts→whole}

abbrev pub part : ℕ → List ℕ → List ℕ
part zero t = replicate (length t) 0
part (suc j) [] = []
part (suc j) (x ∷ t) = x ∷ part j t

part_length : (j : ℕ) (t : List ℕ) → length (part j t) ≡ length t
part_length zero t = length-replicate (length t) 0
part_length (suc j) [] = refl
part_length (suc j) (x ∷ t) = ap suc (part_length j t)

-- before j it is t
part-before : (j : ℕ) (t : List ℕ) (i : ℕ) → i < j → get_or (part j t) i 0 ≡ get_or t i 0
part-before zero t i h = absurd (not-suc-le-zero h)
part-before (suc j) [] i h = refl
part-before (suc j) (x ∷ t) zero h = refl
part-before (suc j) (x ∷ t) (suc i) h = part-before j t i (le_of_suc-le-suc h)

-- and from j on it is 0
zeros : (n i : ℕ) → ◌≡◌ {A = ℕ} (get_or (replicate n 0) i 0) 0
zeros zero i = refl
zeros (suc n) zero = refl
zeros (suc n) (suc i) = zeros n i

part-after : (j : ℕ) (t : List ℕ) (i : ℕ) → j ≤ i → ◌≡◌ {A = ℕ} (get_or (part j t) i 0) 0
part-after zero t i h = zeros (length t) i
part-after (suc j) [] i h = refl
part-after (suc j) (x ∷ t) zero h = absurd (not-suc-le-zero h)
part-after (suc j) (x ∷ t) (suc i) h = part-after j t i (le_of_suc-le-suc h)

size-part : (j : ℕ) (t : List ℕ) → 2 ≤ j → size (part j t) ≡ size t
unfolding size pair_at
size-part j t h = ap₂ (λ (a b : ℕ). a + 256 * b) (part-before j t 0 (omega arith)) (part-before j t 1 (omega arith))

-- The last byte of a whole record is not 0, so it is before j. It is the third byte or a later one: the two bytes of the length are
-- before j as well, and are those of t.
pub part-whole : (j : ℕ) (t : List ℕ) → Whole (part j t) → Whole t × (2 + size t ≤ j)
part-whole j t w = go (dec_lt (1 + size (part j t)) j)
  where
    go : Dec (1 + size (part j t) < j) → Whole t × (2 + size t ≤ j)
    go (no f) = absurd (omega (arith, w.ends, part-after j t (1 + size (part j t)) (omega arith)))
    go (yes covered) =
        let same = size-part j t (omega (arith, w.some)) in
        let facts : Whole t = record {
          two = omega (arith, part_length j t, w.two);
          some = omega (arith, same, w.some);
          fits = omega (arith, same, w.fits, part_length j t);
          ends = ap (λ (n : ℕ). get_or t (1 + n) 0) (sym same) ∙ sym (part-before j t (1 + size (part j t)) covered) ∙ w.ends;
        } in (facts, omega arith)

module _ (j : ℕ) (t : List ℕ) where
  pub part-torn : whole t ≡ false → whole (part j t) ≡ false
  part-torn e = go (whole (part j t)) refl
    where
      go : (b : Bool) → whole (part j t) ≡ b → b ≡ false
      go true h = absurd (true≢false (sym (facts→whole t (part-whole j t (whole→facts (part j t) h)).0) ∙ e))
      go false h = refl

  pub part-short : j < 2 + size t → whole (part j t) ≡ false
  part-short s = go (whole (part j t)) refl
    where
      go : (b : Bool) → whole (part j t) ≡ b → b ≡ false
      go true h = absurd (omega (arith, (part-whole j t (whole→facts (part j t) h)).1))
      go false h = refl
