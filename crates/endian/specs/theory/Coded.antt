-- Numbers written as bytes, and read, one by one.
--     front-is, front_length     the front of an output that was overwritten, and how long it is
--     word-bytes                 the four bytes of a number
--     word-stored, word-copied   a number written as four bytes, one by one or side by side
--     Encoded, encoded-start, -more, -length, -done     numbers written as bytes at the front of an output
use Rattle.std.specs.Prelude.{◌≡◌, refl, List, [], ◌∷◌, ◌++◌, ℕ, suc, ◌+◌, ◌*◌, ◌/◌, ◌%◌, ◌≤◌, ◌<◌, ℤ, pos, take, drop, get_or, set}
use Rattle.std.proofs.Common.{sym, ◌∙◌, ap₂, arith, drop_at, drop-drop, length-take-le, SFits, of_z}
use Rattle.std.proofs.Math.Path.{ap}
use Rattle.std.proofs.Math.ListN.{length, length-append, length-drop}
use Rattle.std.proofs.lemmas.List.Edits.{sets, sets-eq}
use Rattle.std.proofs.Math.Seq.{take_at}
use Rattle.std.specs.Int.{w32, to_le_bytes}
use Rattle.std.proofs.lemmas.Slice.{put_mid-paste}
use borrow.Rule.Slice.PartMut.{put_mid}
use Rattle.std.proofs.Math.Facts.{Fits-of_z, Fits-lt-pow}
use Rattle.plane.specs.Output.{overwritten}
use Rattle.endian.specs.Bytes.{pair, word, words}
use Rattle.endian.specs.theory.Bytes.{word-length, words-length, words_more}

module _ (new old out : List ℤ) (e : out ≡ overwritten new old) where
  pub front-is : (n : ℕ) → length new ≡ n → take n out ≡ new
  unfolding overwritten
  front-is n h = ap (take n) e ∙ take_at new (drop (length new) old) n h

  pub front_length : length new ≤ length old → length out ≡ length old
  unfolding overwritten
  front_length h = omega (arith, ap length e, length-append new (drop (length new) old), length-drop (length new) old)

-- ---- numbers as bytes

-- the kit's four bytes of a number are a word's
pub word-bytes : (n : ℕ) → n < 4294967296 → to_le_bytes w32 n ≡ pair (n % 65536) ++ pair (n / 65536)
unfolding pair
word-bytes n small =
    let first : n % 256 ≡ n % 65536 % 256 = omega arith in
    let second : n / 256 % 256 ≡ n % 65536 / 256 % 256 = omega arith in
    let last : n / 16777216 % 256 ≡ n / 65536 / 256 % 256 = omega arith in
    λ t. first t ∷ second t ∷ (n / 65536 % 256) ∷ last t ∷ []

-- four stores in a row
four : (out : List ℕ) (p : ℕ) {a b c d a' b' c' d' i j k : ℕ} → i ≡ suc p → j ≡ suc (suc p) → k ≡ suc (suc (suc p))
    → a ≡ a' → b ≡ b' → c ≡ c' → d ≡ d' → set (set (set (set out p a) i b) j c) k d ≡ sets out p (a' ∷ b' ∷ c' ∷ d' ∷ [])
four out p ei ej ek ea eb ec ed = λ t. set (set (set (set out p (ea t)) (ei t) (eb t)) (ej t) (ec t)) (ek t) (ed t)

pub word-stored : (z : ℤ) → SFits w32 z → (n : ℕ) → n ≡ of_z w32 z → (out : List ℕ) (p : ℕ)
    → set (set (set (set out p (n % 256)) (p + 1) (n / 256 % 256)) (p + 2) (n / 65536 % 256)) (p + 3) (n / 16777216) ≡ sets out p (word z)
unfolding word pair
word-stored z f n q out p =
    let small = Fits-lt-pow (Fits-of_z f) in
    four out p (omega arith) (omega arith) (omega arith) (omega (arith, q)) (omega (arith, q)) (omega (arith, q)) (omega (arith, q, small))

pub word-copied : (z : ℤ) → SFits w32 z → (out bytes : List ℕ) (p k : ℕ) → bytes ≡ to_le_bytes w32 (of_z w32 z) → 4 ≡ k
    → p + 4 ≤ length out → put_mid p k out bytes ≡ sets out p (word z)
unfolding word pair
word-copied z f out bytes p k e long room =
    put_mid-paste p k out bytes (word z) 4 (e ∙ word-bytes _ (Fits-lt-pow (Fits-of_z f))) long refl ∙ sym (sets-eq (word z) out p room)

-- i numbers of the list are at the front of the bytes, and all after them is as it was
pub record Encoded (old : List ℕ) (l : List ℤ) (i : ℕ) (out : List ℕ) : Type 0 where
  pub front : out ≡ words (take i l) ++ drop (4 * i) old

front_bytes : (l : List ℤ) (i : ℕ) → i ≤ length l → length (words (take i l)) ≡ 4 * i
front_bytes l i h = words-length (take i l) ∙ ap (λ (k : ℕ). 4 * k) (length-take-le i l h)

pub encoded-start : (old : List ℕ) (l : List ℤ) → Encoded old l 0 old
unfolding words
encoded-start old l = record { front = refl }

pub encoded-length : {old : List ℕ} {l : List ℤ} {i : ℕ} {out : List ℕ} → Encoded old l i out → i ≤ length l → 4 * i ≤ length old
    → length out ≡ length old
encoded-length {old} {l} {i} e h k =
    omega (arith, ap length e.front ∙ length-append (words (take i l)) (drop (4 * i) old), front_bytes l i h, length-drop (4 * i) old)

pub encoded-more : {old : List ℕ} {l : List ℤ} {i : ℕ} {out : List ℕ} {z : ℤ} → Encoded old l i out → i < length l
    → 4 + 4 * i ≤ length old → z ≡ get_or l i (pos 0) → Encoded old l (i + 1) (sets out (4 * i) (word z))
encoded-more {old} {l} {i} {out} {z} e h room q = record {
  front =
      sets-eq (word z) out (4 * i) (omega (arith, word-length z, encoded-length e (omega arith) (omega (arith, room)), room))
      ∙ ap₂ (λ (x y : List ℕ). x ++ word z ++ y) head tail
      ∙ ap (λ (y : ℤ). words (take i l) ++ word y ++ drop (4 * (i + 1)) old) q
      ∙ ap (λ (x : List ℕ). x ++ drop (4 * (i + 1)) old) (words_more l i h);
}
  where
    head : take (4 * i) out ≡ words (take i l)
    head = ap (take (4 * i)) e.front ∙ take_at (words (take i l)) (drop (4 * i) old) (4 * i) (front_bytes l i (omega arith))

    same : drop (4 * i) out ≡ drop (4 * i) old
    same = ap (drop (4 * i)) e.front ∙ drop_at (words (take i l)) (drop (4 * i) old) (4 * i) (front_bytes l i (omega arith))

    tail : drop (4 * i + length (word z)) out ≡ drop (4 * (i + 1)) old
    tail =
        ap (λ (n : ℕ). drop (4 * i + n) out) (word-length z) ∙ sym (drop-drop 4 (4 * i) out) ∙ ap (drop 4) same
        ∙ drop-drop 4 (4 * i) old ∙ ap (λ (n : ℕ). drop n old) (let d : 4 * i + 4 ≡ 4 * (i + 1) = omega arith in d)

pub encoded-done : {old : List ℕ} {l : List ℤ} {i n : ℕ} {out : List ℕ} → Encoded old l i out → i ≡ n → n ≤ length l
    → out ≡ overwritten (words (take n l)) old
unfolding overwritten
encoded-done {old} {l} {i} {n} e q h =
    e.front ∙ ap (λ (k : ℕ). words (take k l) ++ drop (4 * k) old) q
    ∙ ap (λ (k : ℕ). words (take n l) ++ drop k old) (sym (front_bytes l n h))
