-- What a sum in parts means, in the words of document 02: the refusals of a call, floors among them, what it writes and hands back, and
-- what all calls write together. Each theorem is proved in the theory; here it is only cited.
use Rattle.std.specs.Prelude.{◌≡◌, refl, true, false, List, [], ◌∷◌, ◌++◌, ℕ, ◌+◌, ◌≤◌, min, ℤ, pos, length, take, drop}
use Rattle.plane.specs.Point.{numbers}
use Rattle.plane.specs.Reply.{answered, refused, Row, first_row, NoneApply, First}
use Rattle.plane.specs.Refusal.{Valid}
use Rattle.plane.specs.Output.{room_row, overwritten}
use Rattle.plane.specs.Floor.{Floored}
use Rattle.plane.specs.Question.{table, reply, output, ask_sum}
use Rattle.plane.proofs.theory.refusals.Asked.{asked-given, asked-refused, asked-none, asked-values, asked-floors, asked-shapes, asked-rest}
use Rattle.calipers.specs.Walk.{Walk, begun}
use Rattle.sums.specs.PlaceAfter.{whole_sum, place_after, is_place}
use Rattle.parts.specs.Part.{part_corners, handed_back, walk_numbers, ask_begin, ask_part}
use Rattle.parts.specs.Calls.{Calls, total}
use Rattle.parts.proofs.theory.Parts.{part-from, handed-from, over-at-last}
use Rattle.parts.proofs.theory.PartAnswers.{part-known, off-place, place-off, begin-refused, begin-answered}
use Rattle.parts.proofs.theory.Calls.{calls-front, whole-at-end, calls-answered}

module _ (a b : List ℤ) (v : Valid a) (w : Valid b) where
  -- "It writes k or what remains, whichever is less": from the place after c corners on, these
  pub part-is-next-corners : (c k : ℕ) → c ≤ length (whole_sum a b)
      → part_corners a b (place_after a b c) k ≡ take k (drop c (whole_sum a b))
  part-is-next-corners c k h = part-from a b v w c k h

  -- "A walk .. is handed back": the place after them
  pub part-hands-back-next-place : (c k : ℕ) → c ≤ length (whole_sum a b)
      → handed_back a b (place_after a b c) k ≡ place_after a b (c + length (take k (drop c (whole_sum a b))))
  part-hands-back-next-place c k h = handed-from a b v w c k h

  -- and at the last corner the walk is over
  pub last-place-is-over : (place_after a b (length (whole_sum a b))).over ≡ true
  last-place-is-over = over-at-last a b v w

module _ (a b : Floored) (u : Walk) (k : ℕ) (out : List ℤ) where
  module _ (v : Valid a.list) (w : Valid b.list) where
    -- "Any question on two shapes of different floors is refused 13, .. for W6 that is before 14": wherever the walk is
    pub part-on-two-floors-is-refused : (a.floor ≡ b.floor → ⊥) → reply (ask_part a b u k out) ≡ refused 13 []
    part-on-two-floors-is-refused f = asked-floors (ask_part a b u k out) a b refl v w f

    -- "A walk that isn't at a place of these two shapes' sum is refused 14, after 1 to 5 and before 6 and 7"
    pub off-place-is-refused : a.floor ≡ b.floor → is_place a.list b.list u ≡ false → reply (ask_part a b u k out) ≡ refused 14 []
    off-place-is-refused one h = off-place a b u k out (record { first-valid = v; second-valid = w; one-floor = one }) h

  -- and no other walk is
  pub refused-is-off-place : reply (ask_part a b u k out) ≡ refused 14 [] → is_place a.list b.list u ≡ false
  refused-is-off-place h = place-off a b u k out h

  -- the table of a call: a row that applies, with none before it, gives its refusal
  pub part-refused-by-row : {r : Row} → First r (table (ask_part a b u k out))
      → reply (ask_part a b u k out) ≡ refused r.number r.carries
  part-refused-by-row f = asked-given (ask_part a b u k out) f

  -- and nothing else does
  pub part-refused-only-by-row : (n : ℕ) (carries : List ℕ) → reply (ask_part a b u k out) ≡ refused n carries
      → (r : Row) × First r (table (ask_part a b u k out)) × (r.number ≡ n) × (r.carries ≡ carries)
  part-refused-only-by-row n carries h = asked-refused (ask_part a b u k out) n carries h

  -- "and says how many", "handed back each time", "Answers carry the floor": where no row applies the call is answered with its corners,
  -- the next place and the floor
  pub part-answered-if-none : NoneApply (table (ask_part a b u k out))
      → reply (ask_part a b u k out) ≡ answered (pos (length (part_corners a.list b.list u k))
      ∷ walk_numbers (handed_back a.list b.list u k) ++ (pos a.floor ∷ []))
  part-answered-if-none n = asked-none (ask_part a b u k out) n

  -- and an answer says just that, "each call's part is fixed by itself"
  pub answer-fixes-part : (x : Walk) (n f : ℕ) → reply (ask_part a b u k out) ≡ answered (pos n ∷ walk_numbers x ++ (pos f ∷ []))
      → (n ≡ length (part_corners a.list b.list u k)) × (x ≡ handed_back a.list b.list u k) × (f ≡ a.floor)
      × (output (ask_part a b u k out) ≡ overwritten (numbers (part_corners a.list b.list u k)) out)
  answer-fixes-part x n f h = part-known a b u k out x n f h

module _ (a b : Floored) where
  -- "Beginning is refused as the sum is": with the same numbers, 13 among them, whatever the output
  pub begin-is-refused-as-sum : (n : ℕ) (carries : List ℕ) → reply (ask_begin a b) ≡ refused n carries → (out : List ℤ)
      → reply (ask_sum a b out) ≡ refused n carries
  begin-is-refused-as-sum n carries h out = begin-refused a b out n carries h

  module _ (values : List ℤ) (begins : reply (ask_begin a b) ≡ answered values) where
    -- "but for 8": where it is not, only 8 can refuse the sum
    pub begun-sum-lacks-only-room : (out : List ℤ) → reply (ask_sum a b out)
        ≡ first_row (room_row (whole_sum a.list b.list) out ∷ [])
        (answered (pos (length (whole_sum a.list b.list)) ∷ pos a.floor ∷ []))
    begun-sum-lacks-only-room out = begin-answered a b out values begins

    -- what it answers is the walk of the first call, and the floor
    pub begin-hands-back-first-place : values ≡ walk_numbers begun ++ (pos a.floor ∷ [])
    begin-hands-back-first-place = asked-values (ask_begin a b) values begins

    -- "With the same shapes throughout, from the beginning until nothing remains, each call given the walk last handed back, the parts
    -- joined are the sum, wherever it was cut": whatever each call may write, whatever it is lent, and whichever are refused between
    pub parts-joined-are-sum : {ks : List ℕ} {l : List ℤ} {x : Walk} → Calls a b begun ks l x → x.over ≡ true
        → l ≡ numbers (whole_sum a.list b.list)
    parts-joined-are-sum t o = whole-at-end a b (asked-shapes (ask_begin a b) values begins) t o

    -- on the way, they are its first corners, and the walk is at the place after these
    pub parts-joined-are-front : {ks : List ℕ} {l : List ℤ} {x : Walk} → Calls a b begun ks l x
        → (n : ℕ) × (n ≤ length (whole_sum a.list b.list)) × (x ≡ place_after a.list b.list n)
        × (l ≡ numbers (take n (whole_sum a.list b.list)))
    parts-joined-are-front t = calls-front a b (asked-shapes (ask_begin a b) values begins) t

    -- any counts may be asked for, with room for the sum: the calls then come as far as these reach
    pub any-counts-are-answered : (out : List ℤ) → length (numbers (whole_sum a.list b.list)) ≤ length out → (ks : List ℕ)
        → (l : List ℤ) × Calls a b begun ks l (place_after a.list b.list (min (total ks) (length (whole_sum a.list b.list))))
    any-counts-are-answered out room ks =
        calls-answered a b (asked-shapes (ask_begin a b) values begins) (asked-rest (ask_begin a b) values begins) out room ks
