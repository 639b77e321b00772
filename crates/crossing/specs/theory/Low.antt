-- On a floor within its limit a question is the same with and without the row for one above.
--     skipped-reply, skipped-output     a row that does not apply can be left out
--     within                            reply and output of the question are those of `low_floor`
--     within-told, within-written       the same of the numbers that cross, and of what was written
--     low_fits, both-low                such a floor has room in 16 bits; of two floors each is such
use Rattle.std.specs.Prelude.{◌≡◌, refl, Bool, true, false, cond, ◌||◌, List, [], ◌∷◌, ◌++◌, ℕ, ltb, ℤ}
use Rattle.std.proofs.Common.{sym, ◌∙◌, ap, true≢false, arith, ltb-false, Fits}
use Rattle.std.specs.Int.{w16}
use Rattle.plane.specs.Limits.{max_floor, floor-small}
use Rattle.plane.specs.Reply.{Reply, refused, Row, first_row}
use Rattle.plane.specs.Output.{unless_refused}
use Rattle.plane.specs.Floor.{rows_of, floor_of}
use Rattle.plane.specs.Question.{Question, reply, output}
use Rattle.wire.specs.Told.{crossed}
use Rattle.crossing.specs.LowFloor.{low_floor}

module _ (w : Row) (ws : List Row) (off : w.applies ≡ false) where
  pub skipped-reply : (vs : List Row) (r : Reply) → first_row (vs ++ ws) r ≡ first_row (vs ++ (w ∷ ws)) r
  skipped-reply [] r = ap (λ (b : Bool). cond b (refused w.number w.carries) (first_row ws r)) (sym off)
  skipped-reply (v ∷ vs) r = ap (λ (x : Reply). cond v.applies (refused v.number v.carries) x) (skipped-reply vs r)

  pub skipped-output : {X : Type 0} (vs : List Row) (kept new : List X)
      → unless_refused (vs ++ ws) kept new ≡ unless_refused (vs ++ (w ∷ ws)) kept new
  skipped-output [] kept new = ap (λ (b : Bool). cond b kept (unless_refused ws kept new)) (sym off)
  skipped-output {X} (v ∷ vs) kept new = ap (λ (x : List X). cond v.applies kept x) (skipped-output vs kept new)

pub within : (q : Question) → ltb max_floor (floor_of q.shapes) ≡ false
    → (reply q ≡ reply (low_floor q)) × (output q ≡ output (low_floor q))
unfolding reply output low_floor
within q low = (skipped-reply _ q.rest low (rows_of q.shapes) _, skipped-output _ q.rest low (rows_of q.shapes) _ _)

-- what the question answers crosses as it is
pub within-told : (q : Question) → ltb max_floor (floor_of q.shapes) ≡ false → {x : Reply} {ns : List ℕ}
    → ns ≡ crossed x → x ≡ reply q → ns ≡ crossed (reply (low_floor q))
within-told q low n e = n ∙ ap crossed (e ∙ (within q low).0)

pub within-written : (q : Question) → ltb max_floor (floor_of q.shapes) ≡ false → {x : Reply} {ns : List ℕ} {out : List ℤ}
    → ns ≡ crossed x → (x ≡ reply q) × (out ≡ output q) → (ns ≡ crossed (reply (low_floor q))) × (out ≡ output (low_floor q))
within-written q low n e = (within-told q low n e.0, e.1 ∙ (within q low).1)

-- ---- a floor within its limit has room in 16 bits

pub low_fits : (f : ℕ) → ltb max_floor f ≡ false → Fits w16 f
low_fits f low = record { fits = omega (arith, ltb-false max_floor f low, floor-small) }

-- of two floors neither is above its limit
pub both-low : (f g : ℕ) → (ltb max_floor f || ltb max_floor g) ≡ false → (ltb max_floor f ≡ false) × (ltb max_floor g ≡ false)
both-low f g low = go (ltb max_floor f) (ltb max_floor g) low
  where
    go : (a b : Bool) → (a || b) ≡ false → (a ≡ false) × (b ≡ false)
    go true b h = absurd (true≢false h)
    go false b h = (refl, h)
