-- The current records without those of a name.
--     current-latest                     what each name has, by the current records alone
--     current-current                    they are all current
--     kept-held, kept-latest             other names have what they had; the name itself has nothing (`kept-gone`)
--     kept-current                       in whichever order: the current of the kept, or the kept of the current
--     keep-keep                          a test that another one implies need not be made before it
--     sound-current, sound-keep, entries-current, entries-keep, joined-current, joined-keep
--                                        no record gets bad or torn, and the bytes do not get more
use Rattle.std.specs.Prelude.{◌≡◌, refl, Bool, true, false, cond, ◌||◌, List, [], ◌∷◌, ◌++◌, ℕ, ◌≤◌, eqb, length}
use Rattle.std.proofs.Common.{sym, ◌∙◌, ap, ap₂, true≢false, arith, length-append}
use borrow.Author.Tests.{eqb-true, eqb-false, ne_eqb, not-true, not-false}
use Rattle.plane.specs.Floor.{Floored}
use Rattle.plane.proofs.theory.lists.Sought.{either-false}
use Rattle.journal.specs.Format.{name, content, bad}
use Rattle.journal.specs.Reading.{damaged, held, nothing, latest}
use Rattle.journal.specs.Current.{current, keep, is_other}
use Rattle.journal.specs.Adding.{joined}
use Rattle.journal.proofs.theory.Records.{Entries}
use Rattle.journal.proofs.theory.Current.{current-held}

-- ---- current records

-- a name that a later record has
own_held : (r : List ℕ) (rs : List (List ℕ)) (n : ℕ) → held (name r) rs ≡ true → (eqb (name r) n || held n rs) ≡ held n rs
own_held r rs n h =
    sym (current-held n (r ∷ rs)) ∙ ap (λ (t : Bool). held n (cond t (current rs) (r ∷ current rs))) h ∙ current-held n rs

-- what no record has
none-latest : (n : ℕ) (rs : List (List ℕ)) → latest n rs ≡ cond (held n rs) (latest n rs) nothing
none-latest n [] = refl
none-latest n (r ∷ rs) = go (eqb (name r) n) (held n rs)
  where
    go : (a h : Bool) → cond h (latest n rs) (cond a (content r) nothing)
        ≡ cond (a || h) (cond h (latest n rs) (cond a (content r) nothing)) nothing
    go true h = refl
    go false true = refl
    go false false = refl

pub current-latest : (n : ℕ) (rs : List (List ℕ)) → latest n (current rs) ≡ latest n rs
current-latest n [] = refl
current-latest n (r ∷ rs) = go (held (name r) rs) refl (current-latest n rs)
  where
    last : Bool → Bool → Floored
    last a h = cond h (latest n rs) (cond a (content r) nothing)

    passed_over : (a : Bool) → (a || held n rs) ≡ held n rs → latest n rs ≡ last a (held n rs)
    passed_over true h = ap (λ (t : Bool). cond t (latest n rs) (content r)) h
    passed_over false h = none-latest n rs

    go : (t : Bool) → held (name r) rs ≡ t → latest n (current rs) ≡ latest n rs
        → latest n (cond t (current rs) (r ∷ current rs)) ≡ last (eqb (name r) n) (held n rs)
    go true h ih = ih ∙ passed_over (eqb (name r) n) (own_held r rs n h)
    go false h ih =
        ap₂ (λ (t : Bool) (x : Floored). cond t x (cond (eqb (name r) n) (content r) nothing)) (current-held n rs) ih

pub current-current : (rs : List (List ℕ)) → current (current rs) ≡ current rs
current-current [] = refl
current-current (r ∷ rs) = go (held (name r) rs) refl (current-current rs)
  where
    go : (t : Bool) → held (name r) rs ≡ t → current (current rs) ≡ current rs
        → current (cond t (current rs) (r ∷ current rs)) ≡ cond t (current rs) (r ∷ current rs)
    go true h ih = ih
    go false h ih =
        ap₂ (λ (t : Bool) (ss : List (List ℕ)). cond t ss (r ∷ ss)) (current-held (name r) rs ∙ h) ih

-- ---- all but a name

module _ {X : Type 0} (p q : X → Bool) (implied : (x : X) → p x ≡ true → q x ≡ true) where
  pub keep-keep : (xs : List X) → keep p (keep q xs) ≡ keep p xs
  keep-keep [] = refl
  keep-keep (x ∷ xs) = go (q x) (p x) refl refl (keep-keep xs)
    where
      go : (s t : Bool) → q x ≡ s → p x ≡ t → keep p (keep q xs) ≡ keep p xs
          → keep p (cond s (x ∷ keep q xs) (keep q xs)) ≡ cond t (x ∷ keep p xs) (keep p xs)
      go true true e f ih = ap₂ (λ (b : Bool) (ys : List X). cond b (x ∷ ys) ys) f ih
      go true false e f ih = ap₂ (λ (b : Bool) (ys : List X). cond b (x ∷ ys) ys) f ih
      go false true e f ih = absurd (true≢false (sym (implied x f) ∙ e))
      go false false e f ih = ih

module _ (but : ℕ) where
  abbrev others : List (List ℕ) → List (List ℕ)
  others rs = keep (is_other but) rs

  other_name : (r : List ℕ) → is_other but r ≡ true → name r ≡ but → ⊥
  unfolding is_other
  other_name r h = eqb-false (name r) but (not-true _ h)

  own_name : (r : List ℕ) → is_other but r ≡ false → name r ≡ but
  unfolding is_other
  own_name r h = eqb-true (name r) but (not-false _ h)

  pub kept-gone : (rs : List (List ℕ)) → held but (others rs) ≡ false
  kept-gone [] = refl
  kept-gone (r ∷ rs) = go (is_other but r) refl (kept-gone rs)
    where
      go : (t : Bool) → is_other but r ≡ t → held but (others rs) ≡ false → held but (cond t (r ∷ others rs) (others rs)) ≡ false
      go true e ih = ap₂ (λ (s t : Bool). s || t) (ne_eqb (name r) but (other_name r e)) ih
      go false e ih = ih

  module _ (n : ℕ) (other : n ≡ but → ⊥) where
    pub kept-held : (rs : List (List ℕ)) → held n (others rs) ≡ held n rs
    kept-held [] = refl
    kept-held (r ∷ rs) = go (is_other but r) refl (kept-held rs)
      where
        go : (t : Bool) → is_other but r ≡ t → held n (others rs) ≡ held n rs
            → held n (cond t (r ∷ others rs) (others rs)) ≡ (eqb (name r) n || held n rs)
        go true e ih = ap (λ (s : Bool). eqb (name r) n || s) ih
        go false e ih =
            ih ∙ ap (λ (s : Bool). s || held n rs) (sym (ne_eqb (name r) n (λ same. other (sym same ∙ own_name r e))))

    pub kept-latest : (rs : List (List ℕ)) → latest n (others rs) ≡ latest n rs
    kept-latest [] = refl
    kept-latest (r ∷ rs) = go (is_other but r) refl (kept-latest rs)
      where
        go : (t : Bool) → is_other but r ≡ t → latest n (others rs) ≡ latest n rs
            → latest n (cond t (r ∷ others rs) (others rs)) ≡ cond (held n rs) (latest n rs) (cond (eqb (name r) n) (content r) nothing)
        go true e ih =
            ap₂ (λ (t : Bool) (x : Floored). cond t x (cond (eqb (name r) n) (content r) nothing)) (kept-held rs) ih
        go false e ih =
            ih ∙ none-latest n rs
            ∙ ap (λ (s : Bool). cond (held n rs) (latest n rs) (cond s (content r) nothing))
            (sym (ne_eqb (name r) n (λ same. other (sym same ∙ own_name r e))))

  pub kept-current : (rs : List (List ℕ)) → current (others rs) ≡ others (current rs)
  kept-current [] = refl
  kept-current (r ∷ rs) = go (is_other but r) (held (name r) rs) refl refl (kept-current rs)
    where
      go : (s t : Bool) → is_other but r ≡ s → held (name r) rs ≡ t → current (others rs) ≡ others (current rs)
          → current (cond s (r ∷ others rs) (others rs)) ≡ others (cond t (current rs) (r ∷ current rs))
      go true true e h ih =
          ap₂ (λ (t : Bool) (ss : List (List ℕ)). cond t ss (r ∷ ss)) (kept-held (name r) (other_name r e) rs ∙ h) ih
      go true false e h ih =
          ap₂ (λ (t : Bool) (ss : List (List ℕ)). cond t ss (r ∷ ss)) (kept-held (name r) (other_name r e) rs ∙ h) ih
          ∙ sym (ap (λ (t : Bool). cond t (r ∷ others (current rs)) (others (current rs))) e)
      go false true e h ih = ih
      go false false e h ih = ih ∙ sym (ap (λ (t : Bool). cond t (r ∷ others (current rs)) (others (current rs))) e)

-- ---- what each record is

pub sound-current : (rs : List (List ℕ)) → damaged rs ≡ false → damaged (current rs) ≡ false
sound-current [] d = refl
sound-current (r ∷ rs) d =
    let parts = either-false (bad r) (damaged rs) d in
    go (held (name r) rs) parts.0 (sound-current rs parts.1)
  where
    go : (t : Bool) → bad r ≡ false → damaged (current rs) ≡ false → damaged (cond t (current rs) (r ∷ current rs)) ≡ false
    go true g ih = ih
    go false g ih = ap₂ (λ (a b : Bool). a || b) g ih

pub entries-current : (rs : List (List ℕ)) → Entries rs → Entries (current rs)
entries-current [] es = tt
entries-current (r ∷ rs) es = go (held (name r) rs) (entries-current rs es.1)
  where
    go : (t : Bool) → Entries (current rs) → Entries (cond t (current rs) (r ∷ current rs))
    go true ih = ih
    go false ih = (es.0, ih)

pub joined-current : (rs : List (List ℕ)) → length (joined (current rs)) ≤ length (joined rs)
joined-current [] = omega arith
joined-current (r ∷ rs) = go (held (name r) rs) (joined-current rs)
  where
    go : (t : Bool) → length (joined (current rs)) ≤ length (joined rs)
        → length (joined (cond t (current rs) (r ∷ current rs))) ≤ length (r ++ joined rs)
    go true ih = omega (arith, ih, length-append r (joined rs))
    go false ih = omega (arith, ih, length-append r (joined rs), length-append r (joined (current rs)))

module _ (p : List ℕ → Bool) where
  pub sound-keep : (rs : List (List ℕ)) → damaged rs ≡ false → damaged (keep p rs) ≡ false
  sound-keep [] d = refl
  sound-keep (r ∷ rs) d =
      let parts = either-false (bad r) (damaged rs) d in
      go (p r) parts.0 (sound-keep rs parts.1)
    where
      go : (t : Bool) → bad r ≡ false → damaged (keep p rs) ≡ false → damaged (cond t (r ∷ keep p rs) (keep p rs)) ≡ false
      go true g ih = ap₂ (λ (a b : Bool). a || b) g ih
      go false g ih = ih

  pub entries-keep : (rs : List (List ℕ)) → Entries rs → Entries (keep p rs)
  entries-keep [] es = tt
  entries-keep (r ∷ rs) es = go (p r) (entries-keep rs es.1)
    where
      go : (t : Bool) → Entries (keep p rs) → Entries (cond t (r ∷ keep p rs) (keep p rs))
      go true ih = (es.0, ih)
      go false ih = ih

  pub joined-keep : (rs : List (List ℕ)) → length (joined (keep p rs)) ≤ length (joined rs)
  joined-keep [] = omega arith
  joined-keep (r ∷ rs) = go (p r) (joined-keep rs)
    where
      go : (t : Bool) → length (joined (keep p rs)) ≤ length (joined rs)
          → length (joined (cond t (r ∷ keep p rs) (keep p rs))) ≤ length (r ++ joined rs)
      go true ih = omega (arith, ih, length-append r (joined rs), length-append r (joined (keep p rs)))
      go false ih = omega (arith, ih, length-append r (joined rs))
