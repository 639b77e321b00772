-- A pass over the records of a log that counts the current ones.
--     Nth k b p left        what is at position k of all current records is at position `left` of those from place p on
--     nth-start, nth-passed, nth-counted, nth-found, nth_end     the moves of the pass
use Rattle.std.specs.Prelude.{◌≡◌, refl, Bool, true, false, not, cond, List, [], ◌∷◌, ℕ, zero, suc, ◌+◌, ◌-◌, ◌≤◌, length, get_or, drop}
use Rattle.std.proofs.Common.{sym, ◌∙◌, ap, arith, length-drop, get_or-drop}
use Rattle.std.proofs.lemmas.Bool.{not-true, not-false}
use Rattle.journal.specs.Format.{whole, records, name}
use Rattle.journal.specs.Reading.{damaged, held}
use Rattle.journal.specs.Current.{current}
use Rattle.journal.specs.Survey.{record_at, next_at, Reached, Stated, EntryAt}
use Rattle.journal.specs.declared.head.Head.{Head}
use Rattle.journal.proofs.theory.Stepping.{records-step, records-end, reached-start, reached-next}

pub record Nth (k : ℕ) (b : List ℕ) (p left : ℕ) : Type 0 where
  pub reached : Reached b p
  pub still : drop k (current (records b)) ≡ drop left (current (records (drop p b)))

pub nth-start : (k : ℕ) (b : List ℕ) → damaged (records b) ≡ false → Nth k b 0 k
nth-start k b g = record { reached = reached-start b g; still = refl }

module _ {k : ℕ} {b : List ℕ} {p left : ℕ} (f : Nth k b p left) where
  module _ (w : whole (drop p b) ≡ true) where
    abbrev rest : List (List ℕ)
    rest = records (drop (next_at b p) b)

    abbrev is_last : Bool
    is_last = not (held (name (record_at b p)) rest)

    step : (t : Bool) → held (name (record_at b p)) rest ≡ t
        → drop k (current (records b)) ≡ drop left (cond t (current rest) (record_at b p ∷ current rest))
    step t e =
        f.still ∙ ap (λ (rs : List (List ℕ)). drop left (current rs)) (records-step b p w)
        ∙ ap (λ (x : Bool). drop left (cond x (current rest) (record_at b p ∷ current rest))) e

    pub nth-passed : is_last ≡ false → Nth k b (next_at b p) left
    nth-passed e = record { reached = reached-next f.reached w; still = step true (not-false _ e) }

    module _ (e : is_last ≡ true) where
      pub nth-counted : (left ≡ 0 → ⊥) → Nth k b (next_at b p) (left - 1)
      nth-counted some = record {
        reached = reached-next f.reached w;
        still = step false (not-true _ e) ∙ past left some;
      }
        where
          past : (n : ℕ) → (n ≡ 0 → ⊥) → drop n (record_at b p ∷ current rest) ≡ drop (n - 1) (current rest)
          past zero h = absurd (h refl)
          past (suc n) h = let same : n ≡ suc n - 1 = omega arith in ap (λ (i : ℕ). drop i (current rest)) same

      pub nth-found : left ≡ 0 → {h : Head} → Stated b p h → EntryAt b k h
      nth-found none {h} s =
          let here : drop k (current (records b)) ≡ record_at b p ∷ current rest =
          step false (not-true _ e) ∙ ap (λ (i : ℕ). drop i (record_at b p ∷ current rest)) none in
          record {
            place = p;
            enough = omega (arith, ap length here, length-drop k (current (records b)));
            is = at_front (current (records b)) k ∙ ap (λ (rs : List (List ℕ)). get_or rs 0 []) here;
            stated = s;
          }
        where
          at_front : (rs : List (List ℕ)) (i : ℕ) → get_or rs i [] ≡ get_or (drop i rs) 0 []
          at_front rs i =
              ap (λ (j : ℕ). get_or rs j []) (let e : i ≡ i + 0 = omega arith in e) ∙ sym (get_or-drop i rs 0 [])

  pub nth_end : whole (drop p b) ≡ false → length (current (records b)) ≤ k
  nth_end w =
      let none : drop k (current (records b)) ≡ [] =
      f.still ∙ ap (λ (rs : List (List ℕ)). drop left (current rs)) (records-end b p w) ∙ drop-none left in
      omega (arith, ap length none, length-drop k (current (records b)))
    where
      drop-none : (n : ℕ) → drop {A = List ℕ} n [] ≡ []
      drop-none zero = refl
      drop-none (suc n) = refl
