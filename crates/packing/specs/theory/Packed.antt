-- The packed log, with zeros after it, as a log.
--     packed-records                 its records are the current ones of the log but the name's
--     packed-sound                   none of them is bad
--     packed-read, packed-gone       each other name reads as before; the name itself is not found
--     packed-current, packed-around  all its records are current; the shapes around are the same
--     packed-again, packed-remade    packing it gives the same bytes, and the same reply
--     packed-le, wanted-length       it is no longer than the log; with its zeros it fills the run
--     packed-all-around, packed-entry     65,536 leaves out nobody: then all shapes around and every entry are the same
use Rattle.std.specs.Prelude.{◌≡◌, Bool, true, false, not, cond, ℕ, ◌+◌, ◌-◌, ◌≤◌, ◌<◌, eqb, ltb, get_or, drop, replicate, ℤ}
use Rattle.std.proofs.Math.Path.{refl, ap}
use Rattle.std.proofs.Common.{sym, ◌∙◌, ap₂, subst, ltb-true, ltb-false, ne_eqb}
use Rattle.std.proofs.Math.Bool.{and-eq-true_iff}
use mathlib.Core.List.{List, [], ◌∷◌}
use native.Mathlib.Omega.{arith}
use Rattle.std.proofs.Math.ListN.{length, length-append, length-replicate, get_or-append, get_or-eq_default}
use Rattle.plane.specs.Reply.{refused, here, later}
use Rattle.plane.specs.Floor.{Floored}
use Rattle.plane.specs.Question.{reply, output, written}
use Rattle.plane.proofs.theory.refusals.Asked.{asked-given}
use Rattle.endian.specs.Bytes.{pair_at}
use Rattle.endian.specs.theory.Bytes.{get_d_past}
use Rattle.journal.specs.Format.{records, name, floor}
use Rattle.journal.specs.Reading.{damaged, held, latest, ask_read, showing}
use Rattle.journal.specs.Current.{current, keep, is_other, is_around, around, ask_entry}
use Rattle.journal.specs.Adding.{joined, end}
use Rattle.journal.proofs.theory.Records.{records-of, records-entries, joined_length, split, end-le}
use Rattle.journal.proofs.theory.Reading.{read-sound}
use Rattle.journal.proofs.theory.Stores.{zeros-torn}
use Rattle.packing.specs.Packing.{packed, wanted, mends_all, pack_reply, remade}
use Rattle.packing.specs.theory.Kept.{current-latest, current-current, keep-keep, kept-gone, kept-latest, kept-current}
use Rattle.packing.specs.theory.Kept.{sound-current, sound-keep, entries-current, entries-keep, joined-current, joined-keep}

-- ---- nobody is left out

-- a name has two bytes
name-small : (r : List ℕ) → ((i : ℕ) → i < length r → get_or r i 0 < 256) → name r < 65536
unfolding name pair_at
name-small r h =
    let low : get_or r 4 0 < 256 = small 4 in
    let high : get_or r 5 0 < 256 = small 5 in
    omega arith
  where
    small : (i : ℕ) → get_or r i 0 < 256
    small i = go (ltb i (length r)) refl
      where
        go : (t : Bool) → ltb i (length r) ≡ t → get_or r i 0 < 256
        go true e = h i (ltb-true _ _ e)
        go false e = let z : get_or r i 0 ≡ 0 = get_or-eq_default r 0 (ltb-false _ _ e) in omega (arith, z)

nobody : (rs : List (List ℕ)) → ((i : ℕ) → i < length (joined rs) → get_or (joined rs) i 0 < 256) → keep (is_other 65536) rs ≡ rs
unfolding is_other
nobody [] h = refl
nobody (r ∷ rs) h =
    let count = length-append r (joined rs) in
    let small = name-small r (λ i l. subst (λ (x : ℕ). x < 256) (get_or-append r (joined rs) 0 i l) (h i (omega (arith, count)))) in
    let rest = nobody rs (λ i l. subst (λ (x : ℕ). x < 256)
    (get_d_past r (joined rs) (length r + i) i refl) (h (length r + i) (omega (arith, count)))) in
    ap₂ (λ (t : Bool) (ss : List (List ℕ)). cond (not t) (r ∷ ss) ss) (ne_eqb (name r) 65536 (λ e. omega (arith, small))) rest

-- ---- the packed log

module _ (b : List ℕ) (but : ℕ) where
  abbrev kept : List (List ℕ)
  kept = keep (is_other but) (current (records b))

  pub packed-le : length (packed b but) ≤ length b
  unfolding packed
  packed-le =
      omega (arith, joined-keep (is_other but) (current (records b)), joined-current (records b), joined_length b, end-le b)

  -- it fills the run
  pub wanted-length : (m : ℕ) → length (packed b but) ≤ m → length (wanted b but m) ≡ m
  unfolding wanted
  wanted-length m h =
      omega (
        arith,
        length-append (packed b but) (replicate (m - length (packed b but)) 0),
        length-replicate {A = ℕ} (m - length (packed b but)) 0,
      )

  module _ (m : ℕ) where
    pub packed-records : records (wanted b but m) ≡ kept
    unfolding wanted packed
    packed-records =
        records-of kept (replicate (m - length (packed b but)) 0)
        (entries-keep (is_other but) (current (records b)) (entries-current (records b) (records-entries b)))
        (zeros-torn (m - length (packed b but)))

    pub packed-current : current (records (wanted b but m)) ≡ kept
    packed-current =
        ap current packed-records ∙ kept-current but (current (records b)) ∙ ap (keep (is_other but)) (current-current (records b))

    pub packed-around : (f : ℕ) → around f but (records (wanted b but m)) ≡ around f but (records b)
    unfolding around is_around
    packed-around f =
        ap (keep (is_around f but)) packed-current
        ∙ keep-keep (is_around f but) (is_other but) (λ r h. ((and-eq-true_iff (eqb (floor r) f) _).0 h).1) (current (records b))

    pub packed-again : packed (wanted b but m) but ≡ packed b but
    unfolding packed
    packed-again =
        ap (λ (rs : List (List ℕ)). joined (keep (is_other but) rs)) packed-current
        ∙ ap joined (keep-keep (is_other but) (is_other but) (λ r h. h) (current (records b)))

    module _ (sound : damaged (records b) ≡ false) where
      pub packed-sound : damaged (records (wanted b but m)) ≡ false
      packed-sound =
          ap damaged packed-records
          ∙ sound-keep (is_other but) (current (records b)) (sound-current (records b) sound)

      pub packed-latest : (n : ℕ) → (n ≡ but → ⊥) → latest n (records (wanted b but m)) ≡ latest n (records b)
      packed-latest n other =
          ap (latest n) packed-records ∙ kept-latest but n other (current (records b)) ∙ current-latest n (records b)

      pub packed-read : (n : ℕ) (out : List ℤ) → (n ≡ but → ⊥) → written (ask_read (wanted b but m) n out) ≡ written (ask_read b n out)
      packed-read n out other =
          read-sound (wanted b but m) n out packed-sound
          ∙ ap (λ (x : Floored). written (showing x out)) (packed-latest n other) ∙ sym (read-sound b n out sound)

      -- the same reply and the same bytes: where no record is bad, the table has no place to give
      pub packed-remade : (u : List ℕ) (j : ℕ) → remade (wanted b but m) but u j ≡ remade b but u j
      unfolding remade pack_reply mends_all wanted
      packed-remade u j = rw (packed-sound, sound, packed-again) refl

      pub packed-gone : (out : List ℤ) → reply (ask_read (wanted b but m) but out) ≡ refused 19 []
      packed-gone out =
          asked-given (ask_read (wanted b but m) but out)
          (later packed-sound (here (ap not (ap (held but) packed-records ∙ kept-gone but (current (records b))))))

-- ---- all of it

module _ (b : List ℕ) (bytes : (i : ℕ) → i < length b → get_or b i 0 < 256) (m : ℕ) where
  packed_all : current (records (wanted b 65536 m)) ≡ current (records b)
  packed_all =
      packed-current b 65536 m ∙ sym (kept-current 65536 (records b)) ∙ ap current (nobody (records b) joined_bytes)
    where
      joined_bytes : (i : ℕ) → i < length (joined (records b)) → get_or (joined (records b)) i 0 < 256
      joined_bytes i h =
          subst (λ (x : ℕ). x < 256)
          (ap (λ (t : List ℕ). get_or t i 0) (split b) ∙ get_or-append (joined (records b)) (drop (end b) b) 0 i h)
          (bytes i (omega (arith, joined_length b, end-le b)))

  pub packed-all-around : (f but : ℕ) → around f but (records (wanted b 65536 m)) ≡ around f but (records b)
  unfolding around
  packed-all-around f but = ap (keep (is_around f but)) packed_all

  module _ (sound : damaged (records b) ≡ false) where
    pub packed-entry : (k : ℕ) (out : List ℤ) → written (ask_entry (wanted b 65536 m) k out) ≡ written (ask_entry b k out)
    unfolding reply output
    packed-entry k out = rw (packed-sound b 65536 m sound, sound, packed_all) refl
