-- Positions in a buffer, while a loop stores them.
--     Coming total rest n l    the first n of the buffer, and then rest, are all
--     coming-keep              one more was stored, or left out
--     coming-end, coming-put   nothing is left to come; the first was stored
--     held-less, held-last     the last is dropped, or not; the last, read from the buffer
use Rattle.std.specs.Prelude.{◌≡◌, refl, Bool, true, false, cond, List, [], ◌∷◌, ◌++◌, ℕ, ◌-◌, ◌≤◌, ◌<◌, length, get_or, take, set}
use Rattle.std.proofs.Common.{sym, ◌∙◌, ap, ap₂, append_assoc, append-nil, arith, length-take-le, take-take, get_or-take}
use Rattle.ring.specs.Round.{optional}
use Rattle.ring.specs.Places.{Held}

pub record Coming (total rest : List ℕ) (n : ℕ) (l : List ℕ) : Type 0 where
  pub joined : take n l ++ rest ≡ total
  pub within : n ≤ length l

pub coming-keep : {total rest l m : List ℕ} {n r : ℕ} (b : Bool) (x : ℕ) → Coming total (optional b x ++ rest) n l
    → take r m ≡ take n l ++ optional b x → r ≤ length m → Coming total rest r m
coming-keep {rest = rest} {l = l} {n = n} b x c e h = record {
  joined = ap (λ (t : List ℕ). t ++ rest) e ∙ append_assoc (take n l) (optional b x) rest ∙ c.joined;
  within = h;
}

pub coming-end : {total l : List ℕ} {n : ℕ} → Coming total [] n l → Held total n l
coming-end {l = l} {n = n} c =
    let front = sym (append-nil (take n l)) ∙ c.joined in
    record { counted = sym (length-take-le n l c.within) ∙ ap length front; front = front; fits = c.within }

pub coming-put : (x : ℕ) (rest l : List ℕ) → 0 < length l → Coming (x ∷ rest) rest 1 (set l 0 x)
coming-put x rest [] h = absurd (omega arith)
coming-put x rest (y ∷ l) h = record { joined = refl; within = omega arith }

pub held-less : {xs l : List ℕ} {n : ℕ} (b : Bool) → Held xs n l → Held (cond b (take (length xs - 1) xs) xs) (cond b (n - 1) n) l
held-less {xs} {l} {n} true h = record {
  counted =
      let e : n - 1 ≡ length xs - 1 = omega (arith, h.counted) in
      e ∙ sym (length-take-le (length xs - 1) xs (omega arith));
  front =
      let e : n - 1 ≡ length xs - 1 = omega (arith, h.counted) in
      sym (take-take (n - 1) n l (omega arith)) ∙ ap (take (n - 1)) h.front ∙ ap (λ (k : ℕ). take k xs) e;
  fits = omega (arith, h.fits);
}
held-less false h = h

-- the last of them, read from the buffer
pub held-last : {xs l : List ℕ} {n : ℕ} → Held xs n l → 0 < length xs → get_or l (n - 1) 0 ≡ get_or xs (length xs - 1) 0
held-last {xs} {l} {n} h some =
    let e : n - 1 ≡ length xs - 1 = omega (arith, h.counted) in
    sym (get_or-take n l (n - 1) 0 (omega (arith, h.counted))) ∙ ap₂ (λ (m : List ℕ) (i : ℕ). get_or m i 0) h.front e
