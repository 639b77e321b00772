-- What the nearest shape of a floor means. Each theorem is proved in the theory; here it is only cited.
--     which shape      none is nearer and earlier ones are further, as exact fractions; it is the only one; apart from it exactly if apart
--                      from all
--     the table        the nearest shape is answered if there is a shape; else 20
--     settled          an addition changes the answer exactly if the new shape is closer, and then it is the answer; one that was cut or
--                      refused changes nothing; a history without a closer one changes nothing
-- A shape is around if it is current, on the floor f, and its name is not `but`. No record of the log is bad. What is refused before, 1 to
-- 5 and 15, is said of every question at once (`Meaning.antt` of plane).
use Rattle.std.specs.Prelude.{◌≡◌, true, false, cond, ◌↔◌, ℕ, ◌<◌, ℤ, pos, ◌*ℤ◌, ◌≤ℤ◌, ◌<ℤ◌}
use mathlib.Core.List.{List, [], ◌∷◌, ◌++◌, Memᴰ}
use Rattle.plane.specs.Point.{points}
use Rattle.plane.specs.Refusal.{Valid}
use Rattle.plane.specs.Separation.{apart}
use Rattle.plane.specs.Clearance.{clearance_numbers}
use Rattle.plane.specs.Distance.{distance}
use Rattle.plane.specs.Reply.{answered, refused}
use Rattle.plane.specs.Question.{reply}
use Rattle.journal.specs.Format.{records, name}
use Rattle.journal.specs.Reading.{damaged}
use Rattle.journal.specs.Current.{around}
use Rattle.journal.specs.Adding.{added}
use Rattle.journal.specs.History.{Addition, fresh, after, is_finished}
use Rattle.journal.proofs.theory.Added.{unfinished-seen}
use Rattle.journal.proofs.theory.History.{fresh-sound, after-sound}
use Rattle.neighbours.specs.Nearest.{shape_of, nearest_of, ask_nearest}
use Rattle.neighbours.specs.Settled.{IsNearest, told, is_closer, Quiet}
use Rattle.neighbours.specs.theory.Settled.{nearest-is, nearest-only, nearest-answered, nobody-refused, same-records}
use Rattle.neighbours.specs.theory.Answers.{near_le, near-lt, apart-all, all_apart, finished-answer, after-answer}

module _ (b : List ℕ) (l : List ℤ) (f but : ℕ) (v : Valid l) (sound : damaged (records b) ≡ false) where
  -- ---- which shape

  -- if a shape is around, one of them is the nearest: the definition finds it
  pub some-shape-is-nearest : (r : List ℕ) (rs : List (List ℕ)) → around f but (records b) ≡ r ∷ rs
      → IsNearest (points l) f but b (nearest_of (points l) r rs)
  some-shape-is-nearest r rs e = nearest-is b l f but v sound r rs e

  -- and only one is
  pub nearest-is-only-one : (w u : List ℕ) → IsNearest (points l) f but b w → IsNearest (points l) f but b u → w ≡ u
  nearest-is-only-one w u m n = nearest-only (points l) f but b w u m n

  module _ (w : List ℕ) (near : IsNearest (points l) f but b w) where
    -- "distances compare as exact fractions": no shape around is nearer than w
    pub none-is-nearer : (r : List ℕ) → Memᴰ r (around f but (records b))
        → ((distance (points l) (shape_of w)).numerator *ℤ (distance (points l) (shape_of r)).denominator)
        ≤ℤ ((distance (points l) (shape_of r)).numerator *ℤ (distance (points l) (shape_of w)).denominator)
    none-is-nearer r m = near_le (points l) f but b w near r m

    -- and those before it in the log are strictly further
    pub earlier-are-further : (r : List ℕ) → Memᴰ r near.before
        → ((distance (points l) (shape_of w)).numerator *ℤ (distance (points l) (shape_of r)).denominator)
        <ℤ ((distance (points l) (shape_of r)).numerator *ℤ (distance (points l) (shape_of w)).denominator)
    earlier-are-further r m = near-lt (points l) f but b w near r m

    -- one question for the whole floor: apart from the nearest is apart from all
    pub apart-from-all : (apart (points l) (shape_of w) ≡ true)
        ↔ ((r : List ℕ) → Memᴰ r (around f but (records b)) → apart (points l) (shape_of r) ≡ true)
    apart-from-all = (apart-all (points l) f but b w near v.shape sound, all_apart (points l) f but b w near v.shape sound)

    -- ---- the table

    -- its name, what clearance answers of the two, and the floor
    pub nearest-is-answered : reply (ask_nearest b l f but) ≡ told (points l) f w
    nearest-is-answered = nearest-answered b l f but v sound w near

    -- ---- settled

    -- a finished addition under another name changes the answer exactly if the new shape is asked for and strictly nearer, and then it is
    -- the answer
    pub addition-settles : (n g : ℕ) (S : List ℤ) (k : ℕ) → is_finished (added b n g S k).reply ≡ true → n < 65536 → g < 65536
        → (name w ≡ n → ⊥) → reply (ask_nearest (added b n g S k).log l f but)
        ≡ cond (is_closer (points l) f but w n g S) (answered (pos n ∷ clearance_numbers (points l) (points S) ++ (pos f ∷ [])))
        (reply (ask_nearest b l f but))
    addition-settles n g S k done name-fits floor-fits other = finished-answer b l f but v w near n g S k done name-fits floor-fits other

    -- any history in which nothing closer is added, and nothing under the name that was answered
    pub quiet-history-changes-nothing : (hs : List Addition) → Quiet (points l) f but w hs b
        → reply (ask_nearest (after hs b) l f but) ≡ reply (ask_nearest b l f but)
    quiet-history-changes-nothing hs q = after-answer b l f but v w near sound hs q

  -- 20 if no shape is around
  pub nobody-is-refused : around f but (records b) ≡ [] → reply (ask_nearest b l f but) ≡ refused 20 []
  nobody-is-refused e = nobody-refused b l f but v sound e

-- one that was cut or refused changes no answer, whatever is asked
pub unfinished-addition-changes-nothing : (b : List ℕ) (l : List ℤ) (f but n g : ℕ) (S : List ℤ) (k : ℕ)
    → is_finished (added b n g S k).reply ≡ false → reply (ask_nearest (added b n g S k).log l f but) ≡ reply (ask_nearest b l f but)
unfinished-addition-changes-nothing b l f but n g S k stopped =
    same-records (added b n g S k).log b l f but (unfinished-seen b n g S k stopped)

-- a new book, after any history, has no bad record: so all of this holds for it
pub history-is-sound : (hs : List Addition) (m : ℕ) → damaged (records (after hs (fresh m))) ≡ false
history-is-sound hs m = after-sound hs (fresh m) (fresh-sound m)
