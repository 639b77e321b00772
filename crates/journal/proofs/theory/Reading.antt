-- Reading, by the log's records alone.
--     first-bad                  what `bad_place` is
--     read_same                  logs with the same records read alike
--     showing-some               what is read where a name has a shape; `valid-some`: then it has a number
--     read-sound                 a log with no bad record is read so
--     sound-snoc, held-snoc, latest-snoc    one record more
use Rattle.std.specs.Prelude.{◌≡◌, refl, Bool, true, false, not, cond, ◌||◌, List, [], ◌∷◌, ◌++◌, ℕ, ◌+◌, ◌<◌, eqb, length, ℤ}
use Rattle.std.proofs.Common.{sym, ◌∙◌, ap, ap₂, true≢false, arith, ne_eqb, length-append}
use Rattle.std.proofs.Math.Bool.{or-false, or_assoc}
use Rattle.plane.specs.Refusal.{Valid}
use Rattle.plane.specs.Output.{room_row}
use Rattle.plane.specs.Floor.{Floored, corners, no_shape}
use Rattle.plane.specs.Question.{reply, output, written, writes}
use Rattle.plane.proofs.theory.lists.Flat.{points-length}
use Rattle.plane.proofs.theory.lists.Sought.{either-false}
use Rattle.journal.specs.Format.{records, name, list, content, bad}
use Rattle.journal.specs.Reading.{damaged, bad_place, held, nothing, latest, ask_read, showing}
use Rattle.journal.specs.Adding.{joined}
use Rattle.journal.specs.Facts.{FirstBad}
use Rattle.journal.proofs.theory.Kind.{good→facts}

-- ---- the first bad record

pub first-bad : (rs : List (List ℕ)) → damaged rs ≡ true → FirstBad rs (bad_place rs)
first-bad [] d = absurd (true≢false (sym d))
first-bad (r ∷ rs) d = go (bad r) refl (first-bad rs)
  where
    go : (t : Bool) → bad r ≡ t → (damaged rs ≡ true → FirstBad rs (bad_place rs)) → FirstBad (r ∷ rs) (bad_place (r ∷ rs))
    go true e ih = record {
      before = [];
      one = r;
      behind = rs;
      all = refl;
      sound = refl;
      is-bad = e;
      at = ap (λ (b : Bool). cond b 0 (length r + bad_place rs)) e;
    }
    go false e ih =
        let later = ih (sym (ap (λ (b : Bool). b || damaged rs) e) ∙ d) in record {
          before = r ∷ later.before;
          one = later.one;
          behind = later.behind;
          all = ap (λ (ss : List (List ℕ)). r ∷ ss) later.all;
          sound = ap₂ (λ (a b : Bool). a || b) e later.sound;
          is-bad = later.is-bad;
          at =
              ap (λ (b : Bool). cond b 0 (length r + bad_place rs)) e ∙ ap (λ (n : ℕ). length r + n) later.at
              ∙ sym (length-append r (joined later.before));
        }

-- ---- one record more

module _ (r : List ℕ) where
  pub sound-snoc : (rs : List (List ℕ)) → damaged rs ≡ false → bad r ≡ false → damaged (rs ++ (r ∷ [])) ≡ false
  sound-snoc [] d g = ap (λ (b : Bool). b || false) g
  sound-snoc (s ∷ rs) d g =
      let parts = either-false (bad s) (damaged rs) d in
      ap₂ (λ (a b : Bool). a || b) parts.0 (sound-snoc rs parts.1 g)

  module _ (n : ℕ) where
    pub held-snoc : (rs : List (List ℕ)) → held n (rs ++ (r ∷ [])) ≡ (held n rs || eqb (name r) n)
    held-snoc [] = or-false (eqb (name r) n)
    held-snoc (s ∷ rs) =
        ap (λ (b : Bool). eqb (name s) n || b) (held-snoc rs) ∙ sym (or_assoc (eqb (name s) n) (held n rs) (eqb (name r) n))

    pub latest-snoc : (rs : List (List ℕ)) → latest n (rs ++ (r ∷ [])) ≡ cond (eqb (name r) n) (content r) (latest n rs)
    latest-snoc [] = refl
    latest-snoc (s ∷ rs) =
        ap₂ (λ (b : Bool) (l : Floored). cond b l (cond (eqb (name s) n) (content s) nothing)) (held-snoc rs) (latest-snoc rs)
        ∙ later (held n rs) (eqb (name r) n)
      where
        later : (a b : Bool) → cond (a || b) (cond b (content r) (latest n rs)) (cond (eqb (name s) n) (content s) nothing)
            ≡ cond b (content r) (cond a (latest n rs) (cond (eqb (name s) n) (content s) nothing))
        later true true = refl
        later true false = refl
        later false true = refl
        later false false = refl

-- ---- a log

pub valid-some : (l : List ℤ) → Valid l → 0 < length l
valid-some l v = omega (arith, v.shape.some, points-length l)

good-some : (r : List ℕ) → bad r ≡ false → eqb (length (list r)) 0 ≡ false
good-some r h = ne_eqb (length (list r)) 0 (λ e. omega (arith, valid-some (list r) (good→facts r h).shape))

held-latest : (n : ℕ) (rs : List (List ℕ)) → damaged rs ≡ false → not (held n rs) ≡ eqb (length (latest n rs).list) 0
held-latest n [] d = refl
held-latest n (r ∷ rs) d =
    let parts = either-false (bad r) (damaged rs) d in
    go (eqb (name r) n) (held n rs) (held-latest n rs parts.1) (good-some r parts.0)
  where
    go : (a b : Bool) → not b ≡ eqb (length (latest n rs).list) 0 → eqb (length (list r)) 0 ≡ false
        → not (a || b) ≡ eqb (length (cond b (latest n rs) (cond a (content r) nothing)).list) 0
    go true true h g = h
    go true false h g = sym g
    go false true h g = h
    go false false h g = refl

-- a list with a corner is found
pub showing-some : (found : Floored) (out : List ℤ) → 0 < length found.list
    → written (showing found out) ≡ written (writes (no_shape found.floor) (room_row (corners found) out ∷ []) (corners found) out)
unfolding reply output
showing-some found out h = rw (ne_eqb (length found.list) 0 (λ e. omega arith))

module _ (b : List ℕ) (n : ℕ) (out : List ℤ) where
  pub read_same : (c : List ℕ) → records b ≡ records c → written (ask_read b n out) ≡ written (ask_read c n out)
  read_same c e = rw e

  pub read-sound : damaged (records b) ≡ false → written (ask_read b n out) ≡ written (showing (latest n (records b)) out)
  unfolding reply output
  read-sound d = rw (d, held-latest n (records b) d)
