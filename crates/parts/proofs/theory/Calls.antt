-- Calls of a sum in parts, one after the other: what all of them write.
--     calls-front       the parts joined are the first corners, up to the last place
--     whole-at-end      when the walk is over, all corners are written
--     calls-answered    with room for the sum, calls that may write any counts go on as far as these reach
use Rattle.std.specs.Prelude.{◌≡◌, refl, true, false, List, [], ◌∷◌, ◌++◌, ℕ, zero, suc, ◌+◌, ◌-◌, ◌≤◌, min, ℤ, take, drop}
use Rattle.std.proofs.Common.{sym, ◌∙◌, ap₂, subst, take_all, take-add, drop-drop}
use Rattle.std.proofs.Math.Path.{ap}
use native.Mathlib.Omega.{arith}
use borrow.Author.Tests.{le-ltb}
use Rattle.std.proofs.Math.ListN.{length, length-take, length-drop}
use Rattle.plane.specs.Point.{Point, numbers}
use Rattle.plane.specs.Reply.{NoneApply}
use Rattle.plane.specs.Output.{size_rows, no_room}
use Rattle.plane.specs.Floor.{Floored, Same}
use Rattle.plane.proofs.theory.lists.Flat.{numbers-append, numbers-length}
use Rattle.calipers.specs.Walk.{Walk, begun}
use Rattle.sums.specs.PlaceAfter.{whole_sum, place_after}
use Rattle.parts.specs.Part.{part_corners, handed_back}
use Rattle.parts.specs.Calls.{Calls, stop, part, refusal, total}
use Rattle.sums.specs.theory.Reached.{place_at}
use Rattle.parts.proofs.theory.Parts.{part-from, handed-from, part_in, over-all}
use Rattle.parts.proofs.theory.PartAnswers.{part-known, part-written, part-answered}

take_own : (k : ℕ) (ps : List Point) → take (length (take k ps)) ps ≡ take k ps
take_own zero ps = refl
take_own (suc k) [] = refl
take_own (suc k) (p ∷ ps) = ap (λ (l : List Point). p ∷ l) (take_own k ps)

module _ (a b : Floored) (one : Same a b) where
  abbrev S : List Point
  S = whole_sum a.list b.list

  abbrev place : ℕ → Walk
  place c = place_after a.list b.list c

  abbrev corners : Walk → ℕ → List Point
  corners u k = part_corners a.list b.list u k

  abbrev next : Walk → ℕ → Walk
  next u k = handed_back a.list b.list u k

  own-part : (c k : ℕ) → c ≤ length S → corners (place c) k ≡ take k (drop c S)
  own-part c k h = part-from a.list b.list one.first-valid one.second-valid c k h

  own-next : (c k : ℕ) → c ≤ length S → next (place c) k ≡ place (c + length (take k (drop c S)))
  own-next c k h = handed-from a.list b.list one.first-valid one.second-valid c k h

  -- ---- joined

  calls-joined : {u x : Walk} {ks : List ℕ} {l : List ℤ} → Calls a b u ks l x → (c : ℕ) → c ≤ length S → u ≡ place c
      → (n : ℕ) × (c + n ≤ length S) × (x ≡ place (c + n)) × (l ≡ numbers (take n (drop c S)))
  calls-joined stop c h e = let z : c ≡ c + 0 = omega arith in (0, omega arith, e ∙ ap place z, refl)
  calls-joined (refusal k out f r) c h e = calls-joined r c h e
  calls-joined {u = u} (part {u = y} {n = m} k out f r) c h e =
      let known = part-known a b u k out y m a.floor f in
      let own : corners u k ≡ take k (drop c S) = ap (λ (z : Walk). corners z k) e ∙ own-part c k h in
      let d = length (take k (drop c S)) in
      let inside = part_in a.list b.list one.first-valid one.second-valid c k h in
      let later = calls-joined r (c + d) inside (known.1 ∙ ap (λ (z : Walk). next z k) e ∙ own-next c k h) in
      let sum : c + d + later.0 ≡ c + (d + later.0) = omega arith in (
        d + later.0,
        omega (arith, later.1),
        later.2 ∙ ap place sum,
        ap₂ ◌++◌ (part-written a b u k out y m a.floor f ∙ ap numbers own) later.3
            ∙ sym (numbers-append (take k (drop c S)) (take later.0 (drop (c + d) S)))
            ∙ ap numbers (ap₂ ◌++◌ (sym (take_own k (drop c S))) (ap (take later.0) (sym (drop-drop d c S)))
            ∙ sym (take-add d later.0 (drop c S))),
      )

  pub calls-front : {x : Walk} {ks : List ℕ} {l : List ℤ} → Calls a b begun ks l x
      → (n : ℕ) × (n ≤ length S) × (x ≡ place n) × (l ≡ numbers (take n S))
  calls-front t =
      let r = calls-joined t 0 (omega arith) refl in
      let z : 0 + r.0 ≡ r.0 = omega arith in
      (r.0, omega (arith, r.1), r.2 ∙ ap place z, r.3)

  pub whole-at-end : {x : Walk} {ks : List ℕ} {l : List ℤ} → Calls a b begun ks l x → x.over ≡ true → l ≡ numbers S
  whole-at-end t o =
      let r = calls-front t in
      let all = over-all a.list b.list one.first-valid one.second-valid r.0 r.1
      (ap (λ (y : Walk). y.over) (sym r.2) ∙ o) in
      r.3 ∙ ap numbers (take_all r.0 S (omega (arith, all)))

  -- ---- any counts

  module _ (size : NoneApply (size_rows S)) (out : List ℤ) (room : length (numbers S) ≤ length out) where
    part-fits : (c k : ℕ) → c ≤ length S → no_room (corners (place c) k) out ≡ false
    unfolding no_room
    part-fits c k h = le-ltb (length out) (length (numbers (corners (place c) k))) (omega (
      arith,
      numbers-length (corners (place c) k),
      ap length (own-part c k h),
      length-take k (drop c S),
      length-drop c S,
      numbers-length S,
    ))

    call-first : (c k : ℕ) → c ≤ length S → {ks : List ℕ} {x : Walk}
        → (l : List ℤ) × Calls a b (place (c + length (take k (drop c S)))) ks l x → (l : List ℤ) × Calls a b (place c) (k ∷ ks) l x
    call-first c k h {ks} {x} r =
        let at = place_at a.list b.list one.first-valid one.second-valid c h in (
          _,
          part k out (part-answered a b (place c) k out one size at (part-fits c k h))
              (subst (λ (y : Walk). Calls a b y ks r.0 x) (sym (own-next c k h)) r.1),
        )

    calls-from : (ks : List ℕ) (c d : ℕ) → c ≤ length S → d ≡ c + min (total ks) (length S - c)
        → (l : List ℤ) × Calls a b (place c) ks l (place d)
    calls-from [] c d h e =
        let same : c ≡ d = omega arith in
        ([], subst (λ (n : ℕ). Calls a b (place c) [] [] (place n)) same stop)
    calls-from (k ∷ ks) c d h e =
        let n = length (take k (drop c S)) in
        let counts : n ≡ min k (length S - c) = length-take k (drop c S) ∙ ap (min k) (length-drop c S) in
        call-first c k h (calls-from ks (c + n) d (omega (arith, counts)) (omega (arith, counts)))

    pub calls-answered : (ks : List ℕ) → (l : List ℤ) × Calls a b begun ks l (place (min (total ks) (length S)))
    calls-answered ks = calls-from ks 0 (min (total ks) (length S)) (omega arith) (omega arith)
