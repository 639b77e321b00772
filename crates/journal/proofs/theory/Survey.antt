-- A pass over the records of a log that judges each.
--     size-at, kind_at, name-at                       what the record at a place says, read there
--     next-inside, no_record, ends-whole              whether a whole record is at a place
--     bad-short, -kind, -small, -length, -shape       whether the record at the front of t is bad, test by test
--     Along b p                                       the records up to place p of b are good
--     along-start, along-good, along-bad, along-end   the moves of the pass
--     surveyed-bad, surveyed-ends                     read off the result
use Rattle.std.proofs.Math.Path.{◌≡◌, refl, sym, ap, ap₂}
use Rattle.std.proofs.Common.{◌∙◌, le-leb, lt-ltb, le-ltb, eq-eqb, ne_eqb, length-drop, drop-drop, length-take-le}
use Rattle.std.specs.Prelude.{Bool, Result, Ok, Err, ◌&&◌, ◌||◌, ℕ, ◌+◌, ◌-◌, ◌/◌, ◌%◌, ◌≤◌, ◌<◌, length, get_or, take, drop, ℤ}
use Rattle.std.proofs.Math.Bool.{true, false, not, cond, or-true}
use mathlib.Core.List.{List}
use native.Mathlib.Omega.{arith}
use Rattle.std.proofs.Math.Dec.{eqb, ltb}
use Rattle.plane.specs.Floor.{Floored}
use Rattle.endian.specs.Bytes.{pair_at, words_at}
use Rattle.endian.specs.theory.Bytes.{pair_at-drop}
use Rattle.journal.specs.Format.{last_byte, fixed_bytes, size, whole, records, kind, name, list, is_answer, wrong_length}
use Rattle.journal.specs.Format.{judged, other_kind, bad}
use Rattle.journal.specs.Reading.{damaged, bad_place}
use Rattle.journal.specs.Adding.{end}
use Rattle.journal.specs.Facts.{Whole}
use Rattle.journal.specs.Survey.{damaged_at, surveyed}
use Rattle.journal.specs.declared.survey.Damaged.{Damaged}
use Rattle.journal.proofs.theory.Kind.{fixed-least}
use Rattle.journal.proofs.theory.Records.{whole→facts, records-none, records-front, end_none, end-front}
use Rattle.journal.proofs.theory.Read.{size-front, kind-front, content-front}

-- ---- whether there is one

pub size-at : (b : List ℕ) (p : ℕ) → size (drop p b) ≡ pair_at b p
unfolding size
size-at b p = pair_at-drop b p 0 ∙ ap (pair_at b) (let e : p + 0 ≡ p = omega arith in e)

pub kind_at : (b : List ℕ) (p : ℕ) → kind (drop p b) ≡ pair_at b (p + 2)
unfolding kind
kind_at b p = pair_at-drop b p 2

pub name-at : (b : List ℕ) (p : ℕ) → name (drop p b) ≡ pair_at b (p + 4)
unfolding name
name-at b p = pair_at-drop b p 4

-- a whole record is inside the log
pub next-inside : (b : List ℕ) (p : ℕ) → whole (drop p b) ≡ true → p + (2 + size (drop p b)) ≤ length b
next-inside b p w = omega (arith, (whole→facts (drop p b) w).fits, length-drop p b)

module _ (t : List ℕ) where
  pub no_record : (Whole t → ⊥) → false ≡ whole t
  no_record h = go (whole t) refl
    where
      go : (x : Bool) → whole t ≡ x → false ≡ x
      go true e = absurd (h (whole→facts t e))
      go false e = refl

  pub ends-whole : 2 ≤ length t → 0 < size t → 2 + size t ≤ length t → eqb (get_or t (1 + size t) 0) last_byte ≡ whole t
  unfolding whole
  ends-whole two some fits =
      sym (ap₂ (λ (x y : Bool). x && (y && eqb (get_or t (1 + size t) 0) last_byte))
      (ap₂ (λ (x y : Bool). x && not y) (le-leb 2 (length t) two) (ne_eqb (size t) 0 (λ e. omega arith)))
      (le-leb (2 + size t) (length t) fits))

-- ---- whether it is bad

-- eight bytes to a corner: an even count of numbers
pub eighth : (m : ℕ) → m % 8 ≡ 0 → m / 4 % 2 ≡ 0
eighth m h = omega arith

module _ (t : List ℕ) where
  abbrev front : List ℕ
  front = take (2 + size t) t

  length-wrong : (b : Bool) → wrong_length front ≡ b → bad front ≡ (b || (other_kind (kind front) || not (is_answer (judged (list front)))))
  unfolding bad
  length-wrong b e = ap (λ (x : Bool). x || (other_kind (kind front) || not (is_answer (judged (list front))))) e

  short-front : size front < fixed_bytes (kind front) → bad front ≡ true
  unfolding wrong_length
  short-front h =
      length-wrong true (ap (λ (x : Bool). x || not (eqb ((size front - fixed_bytes (kind front)) % 8) 0))
      (lt-ltb (size front) (fixed_bytes (kind front)) h))

  -- before its kind is read
  pub bad-short : size t < 5 → bad front ≡ true
  bad-short h = short-front (omega (arith, size-front t, fixed-least (kind front)))

  module _ (least : 5 ≤ size t) where
    pub bad_kind : other_kind (kind t) ≡ true → bad front ≡ true
    unfolding bad
    bad_kind h =
        ap (λ (x : Bool). wrong_length front || (x || not (is_answer (judged (list front))))) (ap other_kind (kind-front t least) ∙ h)
        ∙ or-true (wrong_length front)

    pub bad-small : size t < fixed_bytes (kind t) → bad front ≡ true
    bad-small h = short-front (omega (arith, size-front t, ap fixed_bytes (kind-front t least)))

    module _ (long : fixed_bytes (kind t) ≤ size t) where
      rest : (b : Bool) → eqb ((size t - fixed_bytes (kind t)) % 8) 0 ≡ b → wrong_length front ≡ not b
      unfolding wrong_length
      rest b e =
          ap₂ (λ (n k : ℕ). ltb n (fixed_bytes k) || not (eqb ((n - fixed_bytes k) % 8) 0)) (size-front t) (kind-front t least)
          ∙ ap₂ (λ (x y : Bool). x || not y) (le-ltb (size t) (fixed_bytes (kind t)) long) e

      pub bad-length : ((size t - fixed_bytes (kind t)) % 8 ≡ 0 → ⊥) → bad front ≡ true
      bad-length h = length-wrong true (rest false (ne_eqb ((size t - fixed_bytes (kind t)) % 8) 0 h))

      pub bad-shape : (size t - fixed_bytes (kind t)) % 8 ≡ 0 → other_kind (kind t) ≡ false
          → bad front ≡ not (is_answer (judged (words_at ((size t - fixed_bytes (kind t)) / 4) t (1 + fixed_bytes (kind t)))))
      unfolding list
      bad-shape even known =
          length-wrong false (rest true (eq-eqb ((size t - fixed_bytes (kind t)) % 8) 0 even))
          ∙ ap₂ (λ (x : Bool) (l : List ℤ). x || not (is_answer (judged l))) (ap other_kind (kind-front t least) ∙ known)
          (ap (λ (x : Floored). x.list) (content-front t long))

-- ---- the pass

pub record Along (b : List ℕ) (p : ℕ) : Type 0 where
  pub inside : p ≤ length b
  pub damage-is : damaged (records b) ≡ damaged (records (drop p b))
  pub place_is : bad_place (records b) ≡ p + bad_place (records (drop p b))
  pub end_is : end b ≡ p + end (drop p b)

pub along-start : (b : List ℕ) → Along b 0
along-start b = record {
  inside = omega arith;
  damage-is = refl;
  place_is = let e : bad_place (records b) ≡ 0 + bad_place (records b) = omega arith in e;
  end_is = let e : end b ≡ 0 + end b = omega arith in e;
}

module _ {b : List ℕ} {p : ℕ} (f : Along b p) where
  abbrev at : List ℕ
  at = drop p b

  module _ (w : whole at ≡ true) where
    abbrev later : List ℕ
    later = drop (2 + size at) at

    later-is : later ≡ drop (p + (2 + size at)) b
    later-is = drop-drop (2 + size at) p b

    pub along-good : bad (front at) ≡ false → Along b (p + (2 + size at))
    along-good g = record {
      inside = next-inside b p w;
      damage-is =
          f.damage-is ∙ ap damaged (records-front at w) ∙ ap (λ (x : Bool). x || damaged (records later)) g
          ∙ ap (λ (s : List ℕ). damaged (records s)) later-is;
      place_is =
          let here : bad_place (records at) ≡ length (front at) + bad_place (records later) =
          ap bad_place (records-front at w) ∙ ap (λ (x : Bool). cond x 0 (length (front at) + bad_place (records later))) g in
          let moved = ap (λ (s : List ℕ). bad_place (records s)) later-is in
          omega (arith, f.place_is, here, moved, length-take-le (2 + size at) at (whole→facts at w).fits);
      end_is =
          let moved = ap end later-is in
          omega (arith, f.end_is, end-front at w, moved);
    }

    pub along-bad : bad (front at) ≡ true → Err (damaged_at p) ≡ surveyed b
    unfolding surveyed
    along-bad g =
        let here : bad_place (records at) ≡ 0 =
        ap bad_place (records-front at w) ∙ ap (λ (x : Bool). cond x 0 (length (front at) + bad_place (records later))) g in
        let place : bad_place (records b) ≡ p = omega (arith, f.place_is, here) in
        let damage : damaged (records b) ≡ true =
        f.damage-is ∙ ap damaged (records-front at w) ∙ ap (λ (x : Bool). x || damaged (records later)) g in
        sym (ap₂ (λ (x : Bool) (n : ℕ). cond x (Err (damaged_at n)) (Ok (end b))) damage place)

  pub along-end : whole at ≡ false → Ok p ≡ surveyed b
  unfolding surveyed
  along-end w =
      let place : end b ≡ p = omega (arith, f.end_is, end_none at w) in
      let damage : damaged (records b) ≡ false = f.damage-is ∙ ap damaged (records-none at w) in
      sym (ap₂ (λ (x : Bool) (n : ℕ). cond x (Err (damaged_at (bad_place (records b)))) (Ok n)) damage place)

-- ---- what is told

module _ (b : List ℕ) where
  abbrev told : Bool → Result ℕ Damaged
  told x = cond x (Err (damaged_at (bad_place (records b)))) (Ok (end b))

  pub surveyed-bad : (d : Damaged) → surveyed b ≡ Err d → (damaged (records b) ≡ true) × (bad_place (records b) ≡ d.place)
  unfolding surveyed
  surveyed-bad d h = go (damaged (records b)) refl h
    where
      go : (x : Bool) → damaged (records b) ≡ x → told x ≡ Err d → (damaged (records b) ≡ true) × (bad_place (records b) ≡ d.place)
      go true e q = (e, cc)
      go false e q = absurd (let z : ◌≡◌ {A = ℕ} 0 1 = cc in let f : ⊥ = omega arith in f)

  pub surveyed-ends : (p : ℕ) → surveyed b ≡ Ok p → (damaged (records b) ≡ false) × (p ≡ end b)
  unfolding surveyed
  surveyed-ends p h = go (damaged (records b)) refl h
    where
      go : (x : Bool) → damaged (records b) ≡ x → told x ≡ Ok p → (damaged (records b) ≡ false) × (p ≡ end b)
      go true e q = absurd (let z : ◌≡◌ {A = ℕ} 0 1 = cc in let f : ⊥ = omega arith in f)
      go false e q = (e, cc)
