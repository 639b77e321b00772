-- What a floor that is any number means to a question (document 02, W14), what a host may read from the numbers of a call, and what the
-- calls on bytes mean ("with the answers unchanged"): they are questions, so all of this holds for them, and so does all that plane's
-- `Meaning.antt` says of every question. The theorems are proved in the theory; here they are only cited.
use Rattle.std.specs.Prelude.{◌≡◌, true, ◌||◌, List, [], ◌∷◌, ◌++◌, map, ℕ, ◌*◌, ◌≤◌, ◌<◌, ltb, ℤ, pos, length, drop}
use Rattle.std.proofs.Common.{sym, ◌∙◌, le-ltb, lt-ltb}
use Rattle.plane.specs.Limits.{max_corners, max_floor}
use Rattle.plane.specs.Point.{Point, numbers}
use Rattle.plane.specs.Reply.{answered, refused, Row, First}
use Rattle.plane.specs.Refusal.{Valid}
use Rattle.plane.specs.Output.{no_room}
use Rattle.plane.specs.Floor.{Floored, corners, Shapes, two_shapes, rows_of, floor_of, Admitted}
use Rattle.plane.specs.Question.{Question, values, reply, output, makes}
use Rattle.endian.specs.Bytes.{words, words_at}
use Rattle.separator.specs.Separator.{Finds, separator_numbers}
use Rattle.journal.specs.Adding.{added}
use Rattle.wire.specs.Told.{bits, crossed}
use Rattle.wire.specs.Heard.{number_of, values_of}
use Rattle.passage.specs.Passage.{ask_passage}
use Rattle.crossing.specs.LowFloor.{low_floor, low_passage, Numbered}
use Rattle.calls.specs.Calls.{SeparatorTold, added_low}
use Rattle.bytewise.specs.Bytes.{words_in, ask_judge_bytes, ask_relation_bytes, ask_sum_bytes, ask_merge_bytes, bytes_after}
use Rattle.bytewise.specs.Packing.{packed, Unpacked, packed-back}
use Rattle.bytewise.specs.Passing.{Room}
use Rattle.crossing.specs.theory.Low.{within}
use Rattle.crossing.specs.theory.Passages as passages
use Rattle.calls.specs.theory.Thirteen as thirteen
use Rattle.calls.specs.theory.Fits.{judged-fits, relation-fits, made-fits}
use Rattle.calls.specs.theory.Stored.{kept-bytes, wrote-bytes, room-words, few-numbers, room-same, made-read-back}

module _ (q : Question) where
  -- "one above 65,535 being refused 13 with the same place in the order": after the rows of the shapes
  pub floor-above-is-thirteen : Admitted q.shapes → max_floor < floor_of q.shapes → reply (low_floor q) ≡ refused 13 []
  floor-above-is-thirteen good h = thirteen.after-shapes q good h

  pub shapes-come-before : {w : Row} → First w (rows_of q.shapes) → reply (low_floor q) ≡ refused w.number w.carries
  shapes-come-before f = thirteen.shapes-first q f

  -- of two shapes either may be on such a floor
  pub either-floor-above-is-thirteen : (a b : Floored) → q.shapes ≡ two_shapes a b → Valid a.list → Valid b.list
      → max_floor < b.floor → reply (low_floor q) ≡ refused 13 []
  either-floor-above-is-thirteen a b e v w h = thirteen.second_above q a b e v w h

  pub floor-above-writes-nothing : max_floor < floor_of q.shapes → output (low_floor q) ≡ q.lent
  floor-above-writes-nothing h = thirteen.kept_above q h

  -- on floors within the limit a call is the question
  pub floor-within-changes-nothing : floor_of q.shapes ≤ max_floor → (reply q ≡ reply (low_floor q)) × (output q ≡ output (low_floor q))
  floor-within-changes-nothing h = within q (le-ltb max_floor (floor_of q.shapes) h)

  pub answered-floor-is-within : (v : List ℤ) → reply (low_floor q) ≡ answered v → floor_of q.shapes ≤ max_floor
  answered-floor-is-within v h = thirteen.answered-low q v h

  -- a host that reads 0 has an answer, whose values are the question's
  pub zero-is-answered : Numbered q.rest → number_of (crossed (reply (low_floor q))) ≡ 0 → reply (low_floor q) ≡ answered (values q)
  zero-is-answered rows h = thirteen.answered-zero q rows h

-- passage, which has three shapes: on floors within the limit it is the question; above, 13 comes after the rows of the three lists
module _ (l r c : Floored) where
  pub passage-within-is-the-question : l.floor ≤ max_floor → reply (low_passage l r c) ≡ reply (ask_passage l r c)
  passage-within-is-the-question h = sym (passages.passage-within l r c (le-ltb max_floor l.floor h))

  pub passage-above-is-thirteen : Valid l.list → Valid r.list → Valid c.list
      → ((ltb max_floor l.floor || ltb max_floor r.floor) || ltb max_floor c.floor) ≡ true
      → reply (low_passage l r c) ≡ refused 13 []
  passage-above-is-thirteen u v w h = sym (passages.barred-three _ _ _ u v w ∙ passages.passage-above l r c h)

-- "finds one, or says none if they are not apart": where the number is 0, what is told is accepted, or the shapes are not apart
pub told-separator-is-found : (a b : Floored) (ns : List ℕ) (s : SeparatorTold a b ns) → number_of ns ≡ 0
    → Finds (corners a) (corners b) s.found × (values_of ns ≡ map bits (separator_numbers s.found ++ (pos a.floor ∷ [])))
told-separator-is-found a b ns s h = thirteen.separator-found a b ns s h

-- ---- an addition to a log

pub addition-within-is-the-same : (b : List ℕ) (n f : ℕ) (l : List ℤ) (k : ℕ) → f ≤ max_floor → added_low b n f l k ≡ added b n f l k
addition-within-is-the-same b n f l k h = thirteen.added-same b n f l k (le-ltb max_floor f h)

pub addition-above-is-refused : (b : List ℕ) (n f : ℕ) (l : List ℤ) (k : ℕ) → Valid l → max_floor < f
    → ((added_low b n f l k).reply ≡ refused 13 []) × ((added_low b n f l k).log ≡ b)
addition-above-is-refused b n f l k v h = thirteen.added-refused b n f l k v (lt-ltb max_floor f h)

-- ---- the calls on bytes: refusal 8, and the output

-- "8 now also speaks of output bytes, eight to a corner"
pub room-in-bytes : (shape : List Point) (out : List ℕ) → no_room shape (words_in out) ≡ ltb (length out) (8 * length shape)
room-in-bytes shape out = room-words shape out

-- a call that makes a shape replies as the call on lists does whose output of numbers has room for as many corners as the bytes have
pub bytes-reply-as-numbers : (s : Shapes) (shape : List Point) (out : List ℕ) (old : List ℤ)
    → Room (length out) (2 * max_corners) (length old)
    → reply (low_floor (makes s shape old)) ≡ reply (low_floor (makes s shape (words_in out)))
bytes-reply-as-numbers s shape out old room = (room-same shape out old room s (λ good few. few-numbers shape few)).0

module _ (q : Question) (out : List ℕ) where
  -- "The output is untouched on refusal"
  pub refused-leaves-bytes : (n : ℕ) (carries : List ℕ) → reply q ≡ refused n carries → bytes_after q out ≡ out
  refused-leaves-bytes n carries h = kept-bytes q out n carries h

  -- "On success only its first numbers are written", "eight to a corner"
  pub answered-writes-bytes : (v : List ℤ) → reply q ≡ answered v
      → bytes_after q out ≡ words (numbers q.shape) ++ drop (8 * length q.shape) out
  answered-writes-bytes v h = wrote-bytes q out v h

-- ---- the calls on bytes: each part of a reply is read back from its number, and an answered shape from its bytes

pub judged-unpacked : (a : List ℕ) (f : ℕ) → Unpacked (packed (reply (ask_judge_bytes a f))) (reply (ask_judge_bytes a f))
judged-unpacked a f = packed-back _ (judged-fits _)

module _ (a : List ℕ) (f : ℕ) (b : List ℕ) (g : ℕ) where
  pub relation-unpacked : Unpacked (packed (reply (ask_relation_bytes a f b g))) (reply (ask_relation_bytes a f b g))
  relation-unpacked = packed-back _ (relation-fits _ _)

  module _ (out : List ℕ) where
    pub sum-unpacked : Unpacked (packed (reply (ask_sum_bytes a f b g out))) (reply (ask_sum_bytes a f b g out))
    sum-unpacked = packed-back _ (made-fits _ _ _ _)

    pub merge-unpacked : Unpacked (packed (reply (ask_merge_bytes a f b g out))) (reply (ask_merge_bytes a f b g out))
    merge-unpacked = packed-back _ (made-fits _ _ _ _)

    -- "corners being four-byte little-endian": of an answered sum the first eight bytes for each corner that it counts hold the numbers of
    -- the shape
    pub sum-read-back : (c : ℕ) (h : ℤ) → reply (ask_sum_bytes a f b g out) ≡ answered (pos c ∷ h ∷ [])
        → words_at (2 * c) (bytes_after (ask_sum_bytes a f b g out) out) 0 ≡ numbers (ask_sum_bytes a f b g out).shape
    unfolding low_floor
    sum-read-back c h e = made-read-back _ _ _ out c h e

    pub merge-read-back : (c : ℕ) (h : ℤ) → reply (ask_merge_bytes a f b g out) ≡ answered (pos c ∷ h ∷ [])
        → words_at (2 * c) (bytes_after (ask_merge_bytes a f b g out) out) 0 ≡ numbers (ask_merge_bytes a f b g out).shape
    unfolding low_floor
    merge-read-back c h e = made-read-back _ _ _ out c h e
