-- Buffers that are large enough.
--     both_small         two lists are small
--     small-enough       the small buffers hold a small list; `all-enough`: what is read of any list
--     combined-few       what is made of two shapes has no more corners than both
--     combined-holds     a buffer of both counts holds it
use Rattle.std.specs.Prelude.{◌≡◌, refl, Bool, true, false, ◌&&◌, List, ◌++◌, ℕ, ◌+◌, ◌*◌, ◌≤◌, leb, ℤ, length}
use Rattle.std.proofs.Common.{sym, subst, true≢false, arith, leb-true, length-append}
use Rattle.plane.specs.Limits.{max_corners}
use Rattle.plane.specs.Point.{Point, points}
use Rattle.plane.specs.Refusal.{Valid}
use Rattle.plane.proofs.theory.lists.Flat.{points-length}
use Rattle.plane.proofs.theory.sweep.Few.{shape_of-few}
use Rattle.plane.proofs.theory.sum.EdgeSum.{vector_sum-shape}
use Rattle.plane.proofs.theory.refusals.Accept.{few-corners}
use Rattle.separation.specs.theory.Stops.{sum-length}
use Rattle.bytewise.specs.Passing.{small_bytes, Enough, Spacious, Holds, combined}

pub both_small : (m n : ℕ) → (leb m small_bytes && leb n small_bytes) ≡ true → (m ≤ small_bytes) × (n ≤ small_bytes)
both_small m n e = go (leb m small_bytes) refl e
  where
    go : (b : Bool) → leb m small_bytes ≡ b → (b && leb n small_bytes) ≡ true → (m ≤ small_bytes) × (n ≤ small_bytes)
    go true p q = (leb-true m small_bytes p, leb-true n small_bytes q)
    go false p q = absurd (true≢false (sym q))

pub small-enough : (b : ℕ) → b ≤ small_bytes → Enough b 256
unfolding small_bytes
small-enough b h r k few = omega (arith, h, k)

pub all-enough : (b : ℕ) → Enough b (3 + 2 * max_corners)
all-enough b r k few = few

-- ---- what is made of two shapes

module _ (a b : List ℤ) (v : Valid a) (w : Valid b) where
  pub combined-few : (merged : Bool) → length (combined merged (points a) (points b)) ≤ length (points a) + length (points b)
  combined-few true =
      let both = length-append (points a) (points b) in
      omega (arith, both, shape_of-few (points a ++ points b) (omega (arith, both, v.shape.some)))
  combined-few false =
      subst (λ (ps : List Point). length ps ≤ length (points a) + length (points b))
      (vector_sum-shape (points a) (points b) v.shape w.shape) (sum-length (points a) (points b))

pub combined-holds : (merged : Bool) (a b : List ℤ) {m n s : ℕ} → length a ≤ m → length b ≤ n → Spacious m n s → Holds merged a b s
combined-holds merged a b h k space v w few =
    space _ (few-corners _ few) (omega (arith, h, k, combined-few a b v w merged, points-length a, points-length b))
