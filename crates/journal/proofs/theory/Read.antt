-- What a record says.
--     size-front, kind-front, name-front, content-front   of the record at the front of t, read in place
--     recorded-length, -entry                             a recorded shape is a whole record, and nothing more
--     recorded-name, -floor, -list, -content, -good       and it says what was recorded
--     plain_entry, -name, -floor, -list, -good            the same of a record of kind 1, which is on floor 0
use Rattle.std.specs.Prelude.{◌≡◌, Bool, ◌⊎◌, ℕ, ◌+◌, ◌*◌, ◌-◌, ◌/◌, ◌^◌, ◌≤◌, ◌<◌, get_or, take, ℤ, pos}
use Rattle.std.proofs.Math.Path.{refl, ap, ap₂}
use Rattle.std.proofs.Common.{sym, ◌∙◌, subst, inl, inr, lit<, SFits}
use Rattle.std.proofs.Math.Bool.{true, false, cond}
use mathlib.Core.List.{List, [], ◌∷◌, ◌++◌}
use native.Mathlib.Omega.{arith}
use Rattle.std.proofs.Math.Dec.{eqb}
use Rattle.std.proofs.Math.ListN.{length, length-append}
use Rattle.std.proofs.Math.Seq.{get_or_at}
use Rattle.std.specs.Int.{w32}
use Rattle.integer.specs.Bound.{within-widen}
use Rattle.integer.specs.Machine.{within-fits}
use Rattle.plane.specs.Limits.{max_corners, coordinate-small}
use Rattle.plane.specs.Refusal.{Valid}
use Rattle.plane.proofs.theory.lists.Flat.{points-length}
use Rattle.plane.specs.Floor.{on}
use Rattle.endian.specs.Bytes.{pair, pair_at, words, words_at}
use Rattle.endian.specs.theory.Bytes.{pair-length, words-length, get_d_past, pair_at-past, words_at-past, pair_at-take, words_at-take}
use Rattle.endian.specs.theory.Bytes.{pair_at-pair, words_at-words}
use Rattle.journal.specs.Format.{last_byte, fixed_bytes, recorded_as, recorded, recorded_plain, size, kind, name, floor, list}
use Rattle.journal.specs.Format.{content, bad}
use Rattle.journal.proofs.theory.Kind.{fixed-least, fixed-most, fixed-floored, facts→good}
use Rattle.journal.proofs.theory.Records.{Entry, size-take}

-- ---- in place

module _ (t : List ℕ) where
  abbrev front : List ℕ
  front = take (2 + size t) t

  pub size-front : size front ≡ size t
  size-front = size-take t (2 + size t) (omega arith)

  -- where it is long enough to have them
  module _ (long : 5 ≤ size t) where
    pub kind-front : kind front ≡ kind t
    unfolding kind
    kind-front = pair_at-take t (2 + size t) 2 (omega arith)

    pub name-front : name front ≡ name t
    unfolding name
    name-front = pair_at-take t (2 + size t) 4 (omega arith)

  module _ (long : fixed_bytes (kind t) ≤ size t) where
    kind-same : kind front ≡ kind t
    kind-same = kind-front (omega (arith, fixed-least (kind t)))

    list-front : list front ≡ list t
    unfolding list
    list-front =
        let fixed = fixed_bytes (kind t) in
        let least = fixed-least (kind t) in
        ap₂ (λ (n k : ℕ). words_at ((n - fixed_bytes k) / 4) front (1 + fixed_bytes k)) size-front kind-same
        ∙ words_at-take t ((size t - fixed) / 4) (2 + size t) (1 + fixed) (omega arith)

    floor-front : floor front ≡ floor t
    unfolding floor
    floor-front = ap (λ (k : ℕ). cond (eqb k 2) (pair_at front 6) 0) kind-same ∙ go (eqb (kind t) 2) refl
      where
        go : (x : Bool) → eqb (kind t) 2 ≡ x → cond x (pair_at front 6) 0 ≡ cond x (pair_at t 6) 0
        go true e = pair_at-take t (2 + size t) 6 (omega (arith, fixed-floored (kind t) e))
        go false e = refl

    pub content-front : content front ≡ content t
    content-front = ap₂ on list-front floor-front

-- ---- a recorded shape, of either kind

-- the greatest shape's record has a length of two bytes
room-for-length : 7 + 8 * max_corners < 65536
unfolding max_corners
room-for-length = lit< tt

module _ (k n : ℕ) (e : List ℕ) (l : List ℤ) (behind-name : fixed_bytes k ≡ 5 + length e) where
  abbrev all : ℕ
  all = fixed_bytes k + 4 * length l

  as-length : length (recorded_as k n e l) ≡ 2 + all
  unfolding recorded_as
  as-length =
      let last = last_byte ∷ [] in
      omega (
        arith,
        length-append (pair all) (pair k ++ (pair n ++ (e ++ (words l ++ last)))),
        length-append (pair k) (pair n ++ (e ++ (words l ++ last))),
        length-append (pair n) (e ++ (words l ++ last)),
        length-append e (words l ++ last),
        length-append (words l) last,
        pair-length all,
        pair-length k,
        pair-length n,
        words-length l,
      )

  module _ (v : Valid l) where
    short : all < 65536
    short = omega (arith, v.few, v.paired, points-length l, room-for-length, fixed-most k)

    -- its numbers are of 32 bits
    fit : (i : ℕ) → i < length l → SFits w32 (get_or l i (pos 0))
    fit i h = within-fits {n = 2 ^ 20} tt (within-widen coordinate-small (v.in_range.near i h))

    as-size : size (recorded_as k n e l) ≡ all
    unfolding size recorded_as
    as-size = pair_at-pair [] _ 0 refl all short

    last : get_or (recorded_as k n e l) (1 + all) 0 ≡ last_byte
    unfolding recorded_as
    last =
        let rest = 4 * length l in
        get_d_past (pair all) _ (1 + all) (4 + (length e + rest)) (omega (arith, pair-length all))
        ∙ get_d_past (pair k) _ (4 + (length e + rest)) (2 + (length e + rest)) (omega (arith, pair-length k))
        ∙ get_d_past (pair n) _ (2 + (length e + rest)) (length e + rest) (omega (arith, pair-length n))
        ∙ get_d_past e _ (length e + rest) rest refl ∙ get_or_at (words l) last_byte [] 0 rest (words-length l)

    as-entry : Entry (recorded_as k n e l)
    as-entry = let least = fixed-least k in record {
      is_whole = record {
        two = omega (arith, as-length);
        some = omega (arith, as-size);
        fits = omega (arith, as-size, as-length);
        ends = ap (λ (i : ℕ). get_or (recorded_as k n e l) (1 + i) 0) as-size ∙ last;
      };
      exact = omega (arith, as-size, as-length);
    }

    as-name : n < 65536 → name (recorded_as k n e l) ≡ n
    unfolding name recorded_as
    as-name h =
        pair_at-past (pair all) _ 4 2 (omega (arith, pair-length all)) ∙ pair_at-pair (pair k) _ 2 (pair-length k) n h

    module _ (two_bytes : k < 65536) where
      as-kind : kind (recorded_as k n e l) ≡ k
      unfolding kind recorded_as
      as-kind = pair_at-pair (pair all) _ 2 (pair-length all) k two_bytes

      numbers-back : words_at (length l) (recorded_as k n e l) (1 + fixed_bytes k) ≡ l
      unfolding recorded_as
      numbers-back =
          words_at-past (pair all) _ (length l) (1 + fixed_bytes k) (4 + length e) (omega (arith, pair-length all))
          ∙ words_at-past (pair k) _ (length l) (4 + length e) (2 + length e) (omega (arith, pair-length k))
          ∙ words_at-past (pair n) _ (length l) (2 + length e) (length e) (omega (arith, pair-length n))
          ∙ words_at-words e _ (length e) refl l fit

      as-list : list (recorded_as k n e l) ≡ l
      unfolding list
      as-list =
          let count : (size (recorded_as k n e l) - fixed_bytes k) / 4 ≡ length l = omega (arith, as-size) in
          ap (λ (i : ℕ). words_at ((size (recorded_as k n e l) - fixed_bytes i) / 4) (recorded_as k n e l) (1 + fixed_bytes i)) as-kind
          ∙ ap (λ (c : ℕ). words_at c (recorded_as k n e l) (1 + fixed_bytes k)) count ∙ numbers-back

      as-good : (k ≡ 1) ⊎ (k ≡ 2) → bad (recorded_as k n e l) ≡ false
      as-good known = facts→good (recorded_as k n e l) (record {
        kind-is = subst (λ (i : ℕ). (i ≡ 1) ⊎ (i ≡ 2)) (sym as-kind) known;
        corners = length l / 2;
        length-is = omega (arith, as-size, ap fixed_bytes as-kind, v.paired);
        shape = subst Valid (sym as-list) v;
      })

-- ---- of kind 2

two-behind : (f : ℕ) → fixed_bytes 2 ≡ 5 + length (pair f)
unfolding fixed_bytes
two-behind f = omega (arith, pair-length f)

module _ (n f : ℕ) (l : List ℤ) where
  pub recorded-length : length (recorded n f l) ≡ 9 + 4 * length l
  unfolding recorded
  recorded-length = omega (arith, as-length 2 n (pair f) l (two-behind f), two-behind f, pair-length f)

  module _ (v : Valid l) where
    pub recorded-entry : Entry (recorded n f l)
    unfolding recorded
    recorded-entry = as-entry 2 n (pair f) l (two-behind f) v

    pub recorded-name : n < 65536 → name (recorded n f l) ≡ n
    unfolding recorded
    recorded-name h = as-name 2 n (pair f) l (two-behind f) v h

    pub recorded-floor : f < 65536 → floor (recorded n f l) ≡ f
    unfolding floor recorded recorded_as
    recorded-floor h =
        let all = fixed_bytes 2 + 4 * length l in
        ap (λ (k : ℕ). cond (eqb k 2) (pair_at (recorded_as 2 n (pair f) l) 6) 0) (as-kind 2 n (pair f) l (two-behind f) v (omega arith))
        ∙ pair_at-past (pair all) _ 6 4 (omega (arith, pair-length all)) ∙ pair_at-past (pair 2) _ 4 2 (omega (arith, pair-length 2))
        ∙ pair_at-pair (pair n) _ 2 (pair-length n) f h

    pub recorded-list : list (recorded n f l) ≡ l
    unfolding recorded
    recorded-list = as-list 2 n (pair f) l (two-behind f) v (omega arith)

    pub recorded-content : f < 65536 → content (recorded n f l) ≡ on l f
    recorded-content h = ap₂ on recorded-list (recorded-floor h)

    pub recorded-good : bad (recorded n f l) ≡ false
    unfolding recorded
    recorded-good = as-good 2 n (pair f) l (two-behind f) v (omega arith) (inr refl)

-- ---- of kind 1

none-behind : fixed_bytes 1 ≡ 5 + length {A = ℕ} []
unfolding fixed_bytes
none-behind = refl

module _ (n : ℕ) (l : List ℤ) (v : Valid l) where
  pub plain_entry : Entry (recorded_plain n l)
  unfolding recorded_plain
  plain_entry = as-entry 1 n [] l none-behind v

  pub plain-name : n < 65536 → name (recorded_plain n l) ≡ n
  unfolding recorded_plain
  plain-name h = as-name 1 n [] l none-behind v h

  pub plain-floor : floor (recorded_plain n l) ≡ 0
  unfolding floor recorded_plain
  plain-floor = ap (λ (k : ℕ). cond (eqb k 2) (pair_at (recorded_as 1 n [] l) 6) 0) (as-kind 1 n [] l none-behind v (omega arith))

  pub plain-list : list (recorded_plain n l) ≡ l
  unfolding recorded_plain
  plain-list = as-list 1 n [] l none-behind v (omega arith)

  pub plain-good : bad (recorded_plain n l) ≡ false
  unfolding recorded_plain
  plain-good = as-good 1 n [] l none-behind v (omega arith) (inl refl)
