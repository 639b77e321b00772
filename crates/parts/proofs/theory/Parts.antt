-- A sum in parts: what each call writes from a place on.
--     part-from, handed-from        from the place after c corners: the next k, and the place after them; `part_in`: within the sum
--     part-remaining                the corners of a part are the next of the walk
--     part-advanced                 a walk that went on came to the place after the part; `part_none`: with nothing to write the walk stays
--     over-all, over-at-last        the walk is over exactly at the last place
use Rattle.std.specs.Prelude.{◌≡◌, refl, Bool, true, false, ◌⊎◌, ℕ, zero, suc, ◌+◌, ◌≤◌, ℤ, drop}
use Rattle.std.proofs.Common.{sym, ◌∙◌, inl, inr, arith, length-take, length-drop}
use Rattle.std.proofs.Math.Path.{ap, ap₂}
use mathlib.Core.List.{List, []}
use Rattle.std.proofs.Math.ListN.{length, take}
use Rattle.std.proofs.Math.Seq.{take-nil}
use Rattle.plane.specs.Point.{Point, points}
use Rattle.plane.specs.Refusal.{Valid}
use Rattle.sums.specs.declared.walk.Advance.{Advance}
use Rattle.calipers.specs.Walk.{Walk, begun, advanced, stepped, remaining}
use Rattle.sums.specs.Advance.{next_corners, reached, Advanced}
use Rattle.sums.specs.PlaceAfter.{whole_sum, place_after, is_place}
use Rattle.parts.specs.Part.{part_corners, handed_back}
use Rattle.calipers.specs.theory.Steps.{remaining-over}
use Rattle.sums.specs.theory.Reached.{to-come, more-to-come, before-count, place-count}

stepped-more : (A B : List Point) (w : Walk) (c n : ℕ) → stepped A B n (stepped A B c w) ≡ stepped A B (c + n) w
stepped-more A B w c zero = ap (λ (m : ℕ). stepped A B m w) (let e : c ≡ c + 0 = omega arith in e)
stepped-more A B w c (suc n) = ap (advanced A B) (stepped-more A B w c n)
    ∙ ap (λ (m : ℕ). stepped A B m w) (let e : suc (c + n) ≡ c + suc n = omega arith in e)

module _ (a b : List ℤ) (v : Valid a) (w : Valid b) where
  abbrev S : List Point
  S = whole_sum a b

  -- ---- from a place on

  module _ (c k : ℕ) (h : c ≤ length S) where
    pub part-from : part_corners a b (place_after a b c) k ≡ take k (drop c S)
    unfolding part_corners
    part-from = ap (λ (n : ℕ). take k (drop n S)) (before-count a b v w c h)

    pub handed-from : handed_back a b (place_after a b c) k ≡ place_after a b (c + length (take k (drop c S)))
    unfolding handed_back
    handed-from = ap₂ (λ (n : ℕ) (l : List Point). place_after a b (n + length l)) (before-count a b v w c h) part-from

    pub part_in : c + length (take k (drop c S)) ≤ length S
    part_in = omega (arith, length-take k (drop c S), length-drop c S)

  -- ---- a walk that went on

  module _ (u : Walk) (k : ℕ) (p : is_place a b u ≡ true) where
    pub part-remaining : part_corners a b u k ≡ next_corners a b u k
    part-remaining = let r = place-count a b u p in
        ap (λ (x : Walk). part_corners a b x k) r.2 ∙ part-from r.0 k r.1 ∙ ap (take k) (sym (to-come a b v w r.0 r.1))
        ∙ ap (λ (x : Walk). take k (remaining (points a) (points b) x)) (sym r.2)

    handed-stepped : handed_back a b u k ≡ stepped (points a) (points b) (length (part_corners a b u k)) u
    handed-stepped = let r = place-count a b u p in
        ap (λ (x : Walk). handed_back a b x k) r.2 ∙ handed-from r.0 k r.1
        ∙ sym (stepped-more (points a) (points b) begun r.0 (length (take k (drop r.0 S))))
        ∙ ap₂ (stepped (points a) (points b))
        (ap length (sym (part-from r.0 k r.1) ∙ ap (λ (x : Walk). part_corners a b x k) (sym r.2))) (sym r.2)

    pub part-advanced : {r : Advance} → Advanced a b u k r → (r.count ≡ length (part_corners a b u k)) × (reached r ≡ handed_back a b u k)
    part-advanced {r} t =
        let counted = t.counted ∙ ap length (sym part-remaining) in
        (counted, t.moved ∙ ap (λ (n : ℕ). stepped (points a) (points b) n u) counted ∙ sym handed-stepped)

    -- nothing to write
    pub part_none : (u.over ≡ true) ⊎ (k ≡ 0) → (part_corners a b u k ≡ []) × (handed_back a b u k ≡ u)
    part_none t = let e = part-remaining ∙ go t in
        (e, handed-stepped ∙ ap (λ (l : List Point). stepped (points a) (points b) (length l) u) e)
      where
        go : (u.over ≡ true) ⊎ (k ≡ 0) → take k (remaining (points a) (points b) u) ≡ []
        go (inl o) = ap (take k) (remaining-over (points a) (points b) u o) ∙ take-nil k
        go (inr z) = ap (λ (n : ℕ). take n (remaining (points a) (points b) u)) z

  -- ---- the end

  -- when the walk is over, no corner is to come
  pub over-all : (c : ℕ) → c ≤ length S → (place_after a b c).over ≡ true → c ≡ length S
  over-all c h o = omega (
    arith,
    ap length (sym (remaining-over (points a) (points b) (place_after a b c) o) ∙ to-come a b v w c h),
    length-drop c S,
  )

  pub over-at-last : (place_after a b (length S)).over ≡ true
  over-at-last = go (place_after a b (length S)).over refl
    where
      go : (o : Bool) → (place_after a b (length S)).over ≡ o → o ≡ true
      go true e = refl
      go false e = absurd (omega (arith, more-to-come a b v w (length S) (omega arith) e))
