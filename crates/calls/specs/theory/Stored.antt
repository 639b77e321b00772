-- What becomes of the output bytes.
--     kept-bytes, wrote-bytes     a refusal leaves them as they were; an answer writes the shape at their front
-- Of a question that makes a shape:
--     few-numbers        one with few enough corners is one of few numbers
--     room-words         refusal 8 of the numbers that bytes hold: "eight to a corner"
--     room-same          the reply and the bytes, asked with other numbers that have as much room
--     made-delivered     its corners are among the numbers, and there is room for their bytes
--     made-stored        its reply packed, and its numbers at the front of a buffer stored, are what the call promises
--     made-read-back     the bytes that were written, read back, are the shape's numbers: 7 was not given, so each has room in four bytes
use Rattle.std.specs.Prelude.{◌≡◌, Bool, ℕ, ◌*◌, ◌/◌, ◌≤◌, ◌^◌, ℤ, pos, take}
use Rattle.std.proofs.Math.Path.{refl, sym, ap}
use Rattle.std.proofs.Common.{◌∙◌, arith, take-take}
use Rattle.std.proofs.Math.Bool.{true, false}
use mathlib.Core.List.{List, [], ◌∷◌, ◌++◌}
use borrow.Author.Tests.{ltb-true, ltb-false}
use Rattle.std.proofs.Math.Dec.{ltb}
use Rattle.std.proofs.Math.ListN.{length, drop, get_or}
use Rattle.std.proofs.Math.Seq.{take_at}
use Rattle.integer.specs.Bound.{within-widen}
use Rattle.integer.specs.Machine.{within-fits}
use Rattle.plane.specs.Limits.{max_corners, max_floor, coordinate-small}
use Rattle.plane.specs.Point.{Point, numbers}
use Rattle.plane.specs.Reply.{Reply, answered, refused, row, NoneApply}
use Rattle.plane.specs.Refusal.{too_many}
use Rattle.plane.specs.Output.{no_room, size_rows, answer_rows, overwritten}
use Rattle.plane.specs.Floor.{Shapes, rows_of, floor_of}
use Rattle.plane.specs.Question.{Question, table, reply, output, makes}
use Rattle.plane.proofs.theory.lists.Flat.{numbers-length}
use Rattle.plane.proofs.theory.refusals.Accept.{few-corners, near→in_range}
use Rattle.plane.proofs.theory.refusals.Rows.{Outcome, given, passed, outcome, none-append, given-output, none-output}
use Rattle.plane.proofs.theory.refusals.Asked.{asked-given, asked-none, asked-refused, asked-answered, asked-values, asked-rest, none-wrote}
use Rattle.endian.specs.Bytes.{words, words_at}
use Rattle.endian.specs.theory.Bytes.{words-length, words_at-length, words_at-words}
use Rattle.wire.specs.Told.{crossed}
use Rattle.crossing.specs.LowFloor.{low_floor}
use Rattle.bytewise.specs.Bytes.{words_in, bytes_after}
use Rattle.bytewise.specs.Packing.{packed}
use Rattle.bytewise.specs.Passing.{Room}
use Rattle.bytewise.specs.theory.Agree.{Agree, agree_same, agree-row, agree-join, same-reply, same_bytes}

-- ---- every question

eight-bytes : (ps : List Point) → length (words (numbers ps)) ≡ 8 * length ps
eight-bytes ps = omega (arith, words-length (numbers ps), numbers-length ps)

module _ (q : Question) (out : List ℕ) where
  pub kept-bytes : (n : ℕ) (carries : List ℕ) → reply q ≡ refused n carries → bytes_after q out ≡ out
  unfolding bytes_after
  kept-bytes n carries h = given-output out _ (asked-refused q n carries h).1

  pub wrote-bytes : (v : List ℤ) → reply q ≡ answered v → bytes_after q out ≡ words (numbers q.shape) ++ drop (8 * length q.shape) out
  unfolding bytes_after overwritten
  wrote-bytes v h =
      none-output (table q) out _ (asked-answered q v h) ∙ ap (λ (n : ℕ). words (numbers q.shape) ++ drop n out) (eight-bytes q.shape)

-- ---- refusal 8

pub few-numbers : (shape : List Point) → too_many shape ≡ false → 2 * length shape ≤ 2 * max_corners
few-numbers shape few = omega (arith, few-corners shape few)

module _ (shape : List Point) (out : List ℕ) where
  -- it is the same of numbers and of bytes that both have room, or both have none
  room-test : (old : List ℤ) → (2 * length shape ≤ length old → 8 * length shape ≤ length out)
      → (8 * length shape ≤ length out → 2 * length shape ≤ length old) → no_room shape old ≡ ltb (length out) (8 * length shape)
  unfolding no_room
  room-test old h k = go (ltb (length old) (length (numbers shape))) (ltb (length out) (8 * length shape)) refl refl
    where
      go : (a b : Bool) → ltb (length old) (length (numbers shape)) ≡ a → ltb (length out) (8 * length shape) ≡ b → a ≡ b
      go true true p q = refl
      go true false p q =
          let fit = k (ltb-false (length out) (8 * length shape) q) in
          absurd (omega (arith, fit, ltb-true (length old) (length (numbers shape)) p, numbers-length shape))
      go false true p q =
          let fit = h (omega (arith, ltb-false (length old) (length (numbers shape)) p, numbers-length shape)) in
          absurd (omega (arith, fit, ltb-true (length out) (8 * length shape) q))
      go false false p q = refl

  pub room-words : no_room shape (words_in out) ≡ ltb (length out) (8 * length shape)
  room-words = let n = words_at-length out (length out / 4) 0 in room-test (words_in out) (λ h. omega (arith, n)) (λ h. omega (arith, n))

  module _ (old : List ℤ) {most : ℕ} (room : Room (length out) most (length old)) where
    room-old : 2 * length shape ≤ most → no_room shape old ≡ no_room shape (words_in out)
    room-old fit = room-test old (room.holds (length shape)) (room.enough (length shape) fit) ∙ sym room-words

    -- the shape, where no row before that is given, has at most this number of numbers
    module _ (s : Shapes) (fit : NoneApply (rows_of s) → too_many shape ≡ false → 2 * length shape ≤ most) where
      room-agree : Agree (table (low_floor (makes s shape old))) (table (low_floor (makes s shape (words_in out)))) (Unit {0})
      unfolding low_floor
      room-agree =
          let floor = row 13 (ltb max_floor (floor_of s)) [] ∷ [] in
          agree-join (agree_same {vs = rows_of s} refl (λ n. n)) (λ n. agree-join (agree_same {vs = floor} refl (λ k. k)) (λ k.
          agree-join (agree_same {vs = size_rows shape} refl (λ m. m)) (λ m.
          agree-row 8 [] (no_room shape old) (no_room shape (words_in out)) (room-old (fit n m.0)) (λ e. tt))))

      pub room-same : let made = low_floor (makes s shape old) in let call = low_floor (makes s shape (words_in out)) in
          (reply made ≡ reply call) × (bytes_after made out ≡ bytes_after call out)
      unfolding low_floor
      room-same = (same-reply _ _ room-agree (λ e. refl), same_bytes _ _ out room-agree (λ e. refl))

-- ---- what is written

-- a refusal has no values
none-counted : (n : ℕ) (c : List ℕ) → get_or (crossed (refused n c)) 5 0 ≡ 0
none-counted n [] = refl
none-counted n (i ∷ []) = refl
none-counted n (i ∷ j ∷ []) = refl
none-counted n (i ∷ j ∷ k ∷ c) = refl

module _ (s : Shapes) (shape : List Point) (old : List ℤ) where
  abbrev made : Question
  made = low_floor (makes s shape old)

  -- the place of the first value, which says how many corners are answered
  abbrev count : ℕ
  count = get_or (crossed (reply made)) 5 0

  -- if no row applies there is room
  fitting : NoneApply (table made) → 2 * length shape ≤ length old
  unfolding low_floor no_room
  fitting n =
      let rest = (none-append (rows_of s) (row 13 (ltb max_floor (floor_of s)) [] ∷ answer_rows shape old) n).1 in
      omega (arith, ltb-false (length old) (length (numbers shape)) rest.1.1.1.0, numbers-length shape)

  counted_none : {n : ℕ} {c : List ℕ} → reply made ≡ refused n c → count ≡ 0
  counted_none {n} {c} e = ap (λ (r : Reply). get_or (crossed r) 5 0) e ∙ none-counted n c

  counted-all : NoneApply (table made) → count ≡ length shape
  unfolding low_floor
  counted-all p = ap (λ (r : Reply). get_or (crossed r) 5 0) (asked-none made p)

  -- the numbers that are answered are at the front of the buffer
  numbers-stored : (out : List ℕ) (buffer : List ℤ) → take (length old) buffer ≡ output made
      → overwritten (words (take (2 * count) buffer)) out ≡ bytes_after made out
  unfolding bytes_after low_floor overwritten words
  numbers-stored out buffer at = go (outcome (table made))
    where
      go : Outcome (table made) → overwritten (words (take (2 * count) buffer)) out ≡ bytes_after made out
      go (given w f) =
          ap (λ (n : ℕ). overwritten (words (take (2 * n) buffer)) out) (counted_none (asked-given made f)) ∙ sym (given-output out _ f)
      go (passed p) =
          let front = sym (take-take (2 * length shape) (length old) buffer (fitting p))
          ∙ ap (take (2 * length shape)) (at ∙ none-wrote made p)
          ∙ take_at (numbers shape) (drop (length (numbers shape)) old) (2 * length shape) (numbers-length shape) in
          ap (λ (n : ℕ). overwritten (words (take (2 * n) buffer)) out) (counted-all p)
          ∙ ap (λ (l : List ℤ). overwritten (words l) out) front ∙ sym (none-output (table made) out _ p)

  module _ (out : List ℕ) {most : ℕ} (room : Room (length out) most (length old)) where
    pub made-delivered : (2 * count ≤ length old) × (8 * count ≤ length out)
    made-delivered = go (outcome (table made))
      where
        go : Outcome (table made) → (2 * count ≤ length old) × (8 * count ≤ length out)
        go (given w f) = let none = counted_none (asked-given made f) in (omega (arith, none), omega (arith, none))
        go (passed p) =
            let all = counted-all p in
            let fit = fitting p in (omega (arith, all, fit), omega (arith, all, room.holds (length shape) fit))

    pub made-stored : (NoneApply (rows_of s) → too_many shape ≡ false → 2 * length shape ≤ most) → {new : List ℤ} (rest : List ℤ)
        → length new ≡ length old → new ≡ output made → {x : ℕ} {after : List ℕ}
        → x ≡ packed (reply made) → after ≡ overwritten (words (take (2 * count) (new ++ rest))) out
        → let call = low_floor (makes s shape (words_in out)) in (x ≡ packed (reply call)) × (after ≡ bytes_after call out)
    made-stored fit {new} rest long is p q =
        let same = room-same shape out old room s fit in (
          p ∙ ap packed same.0,
          q ∙ numbers-stored out (new ++ rest) (take_at new rest (length old) long ∙ is) ∙ same.1,
        )

  pub made-read-back : (out : List ℕ) (c : ℕ) (h : ℤ) → reply made ≡ answered (pos c ∷ h ∷ [])
      → words_at (2 * c) (bytes_after made out) 0 ≡ numbers shape
  unfolding low_floor
  made-read-back out c h e =
      let range = near→in_range (numbers shape) (asked-rest made (pos c ∷ h ∷ []) e).1.1.0 in
      let count : c ≡ length shape = cc (asked-values made (pos c ∷ h ∷ []) e) in
      let double : 2 * c ≡ length (numbers shape) = ap (λ (n : ℕ). 2 * n) count ∙ sym (numbers-length shape) in
      ap (λ (bs : List ℕ). words_at (2 * c) bs 0) (wrote-bytes made out (pos c ∷ h ∷ []) e)
      ∙ ap (λ (n : ℕ). words_at n (words (numbers shape) ++ drop (8 * length shape) out) 0) double
      ∙ words_at-words [] (drop (8 * length shape) out) 0 refl (numbers shape)
      (λ i k. within-fits {n = 2 ^ 20} tt (within-widen coordinate-small (range.near i k)))
