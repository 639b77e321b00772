-- A loop over the records of a log, from a place on: `for p in places::all(log) { .. }`, as `Walk.antt` has it. Its invariant says
-- that p is reached (`Reached` of `Survey.antt`), and an equation about what is still to come, `records (drop p b)`.
--     reached-start, reached-sound, reached-next    the loop begins; a record is here; it goes on
--     records-step, records-end    how `records (drop p b)` goes on, and ends
--     here-good, later-good, sound-next     the record here is not bad, and none of the later ones is
--     here-valid                its numbers are a shape's
--     name-inside, name-here    it has a name, which is inside the log
--     legible, stated           it can be read, and what its head says
use Rattle.std.specs.Prelude.{◌≡◌, true, false, ◌⊎◌, List, [], ◌∷◌, ℕ, ◌+◌, ◌-◌, ◌/◌, ◌%◌, ◌≤◌, ◌<◌, length, drop}
use Rattle.std.proofs.Math.Path.{sym, ap, ap₂}
use Rattle.std.proofs.Common.{◌∙◌, arith, subst, drop-drop}
use Rattle.plane.specs.Floor.{Floored}
use Rattle.plane.specs.Refusal.{Valid}
use Rattle.plane.proofs.theory.lists.Sought.{either-false}
use Rattle.endian.specs.Bytes.{words_at}
use Rattle.endian.specs.theory.Bytes.{words_at-drop}
use Rattle.journal.specs.Format.{fixed_bytes, size, whole, records, kind, name, floor, list, other_kind, bad}
use Rattle.journal.specs.Reading.{damaged}
use Rattle.journal.specs.Survey.{Legible, record_at, next_at, Sound, Reached, Stated}
use Rattle.journal.specs.declared.head.Head.{Head}
use Rattle.journal.proofs.theory.Records.{records-none, records-front}
use Rattle.journal.proofs.theory.Kind.{fixed-least, no_other, good→facts}
use Rattle.journal.proofs.theory.Survey.{next-inside, eighth}
use Rattle.journal.proofs.theory.Read.{size-front, kind-front, name-front, content-front}

module _ (b : List ℕ) (p : ℕ) where
  pub records-step : whole (drop p b) ≡ true → records (drop p b) ≡ record_at b p ∷ records (drop (next_at b p) b)
  records-step w =
      records-front (drop p b) w
      ∙ ap (λ (t : List ℕ). record_at b p ∷ records t) (drop-drop (2 + size (drop p b)) p b)

  pub records-end : whole (drop p b) ≡ false → records (drop p b) ≡ []
  records-end w = records-none (drop p b) w

pub reached-start : (b : List ℕ) → damaged (records b) ≡ false → Reached b 0
reached-start b g = record { inside = omega arith; good = g }

module _ {b : List ℕ} {p : ℕ} (s : Sound b p) where
  abbrev at : List ℕ
  at = drop p b

  both-good : (bad (record_at b p) ≡ false) × (damaged (records (drop (next_at b p) b)) ≡ false)
  both-good =
      either-false (bad (record_at b p)) (damaged (records (drop (next_at b p) b)))
      (sym (ap damaged (records-step b p s.here)) ∙ s.good)

  pub here-good : bad (record_at b p) ≡ false
  here-good = both-good.0

  pub later-good : damaged (records (drop (next_at b p) b)) ≡ false
  later-good = both-good.1

  pub sound-next : Reached b (next_at b p)
  sound-next = record { inside = next-inside b p s.here; good = later-good }

  pub here-valid : Valid (list (record_at b p))
  here-valid = (good→facts (record_at b p) here-good).shape

  abbrev fixed : ℕ
  fixed = fixed_bytes (kind at)

  length-good : (5 ≤ size at) × (fixed ≤ size at) × ((size at - fixed) % 8 ≡ 0)
  length-good =
      let good = (good→facts (record_at b p) here-good).length-is in
      let same = size-front at in
      let least : 5 ≤ size at = omega (arith, fixed-least (kind (record_at b p))) in
      let kinds = ap fixed_bytes (kind-front at least) in
      (least, omega arith, omega arith)

  pub legible : Legible b p
  legible = record { inside = next-inside b p s.here; long = length-good.1 }

  pub kind-good : other_kind (kind at) ≡ false
  kind-good =
      no_other (kind at) (subst (λ (k : ℕ). (k ≡ 1) ⊎ (k ≡ 2)) (kind-front at length-good.0)
      (good→facts (record_at b p) here-good).kind-is)

  -- its name and kind are inside
  pub legible-least : 5 ≤ size at
  legible-least = length-good.0

  pub name-inside : p + 7 ≤ length b
  name-inside = omega (arith, next-inside b p s.here, legible-least)

  pub name-here : name (record_at b p) ≡ name at
  name-here = name-front at length-good.0

  pub stated : (h : Head) → h.place ≡ p + (1 + fixed) → h.count ≡ (size at - fixed) / 4 → h.name ≡ name at → h.floor ≡ floor at
      → h.name < 65536 → h.floor < 65536 → Stated b p h
  unfolding list
  stated h place count named floored name-fits floor-fits =
      let fits = next-inside b p s.here in
      let long = legible.long in
      let eight = length-good.2 in
      let even = eighth (size at - fixed) eight in
      record {
        name-is = name-here ∙ sym named;
        floor-is = ap (λ (x : Floored). x.floor) (content-front at long) ∙ sym floored;
        list-is =
            ap (λ (x : Floored). x.list) (content-front at long)
            ∙ words_at-drop b ((size at - fixed) / 4) p (1 + fixed) ∙ ap₂ (λ (n i : ℕ). words_at n b i) (sym count) (sym place);
        inside = omega arith;
        paired = ap (λ (n : ℕ). n % 2) count ∙ even;
        next-is = omega arith;
        name-fits = name-fits;
        floor-fits = floor-fits;
      }

module _ {b : List ℕ} {p : ℕ} (r : Reached b p) (w : whole (drop p b) ≡ true) where
  pub reached-sound : Sound b p
  reached-sound = record { here = w; good = r.good }

  pub reached-next : Reached b (next_at b p)
  reached-next = sound-next reached-sound
