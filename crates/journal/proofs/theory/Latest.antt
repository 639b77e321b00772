-- A pass over the records of a log that keeps the latest of a name.
--     SoFar n b p r          what is found up to place p of b, and what is still to come
--     so-far-start, so-far-next, so-far-end     the moves of the pass
use Rattle.std.specs.Prelude.{◌≡◌, refl, Option, None, Some, is_some, Bool, true, false, cond, ◌||◌, List, [], ◌∷◌, ℕ, ◌+◌, ◌*◌, ◌%◌, ◌≤◌}
use Rattle.std.specs.Prelude.{eqb, length, drop}
use Rattle.std.proofs.Common.{◌∙◌, ap, ap₂}
use Rattle.std.proofs.Math.Bool.{or-true}
use Rattle.plane.specs.Floor.{Floored, on}
use Rattle.endian.specs.Bytes.{words_at}
use Rattle.journal.specs.Format.{whole, records, name, content}
use Rattle.journal.specs.Reading.{damaged, held, nothing, latest}
use Rattle.journal.specs.Survey.{record_at, next_at, Reached, Stated, found_of, newer, Latest}
use Rattle.journal.specs.declared.head.Head.{Head}
use Rattle.journal.specs.declared.latest.Found.{Found}
use Rattle.journal.proofs.theory.Records.{records-none}
use Rattle.journal.proofs.theory.Stepping.{records-step, reached-start, reached-next}

-- ---- what is found

abbrev shape_of : List ℕ → Option Found → Floored
shape_of b None = nothing
shape_of b (Some f) = on (words_at f.count b f.place) f.floor

abbrev Placed : List ℕ → Option Found → Type 0
Placed b None = Unit {0}
Placed b (Some f) = (f.place + 4 * f.count ≤ length b) × (f.count % 2 ≡ 0)

pub record SoFar (n : ℕ) (b : List ℕ) (p : ℕ) (r : Option Found) : Type 0 where
  pub reached : Reached b p
  pub has : held n (records b) ≡ (is_some r || held n (records (drop p b)))
  pub latest-is : latest n (records b) ≡ cond (held n (records (drop p b))) (latest n (records (drop p b))) (shape_of b r)
  pub placed : Placed b r

-- ---- tests

cond-own : (e h : Bool) (l m : Floored) → cond h l (cond e m nothing) ≡ cond (e || h) (cond h l (cond e m nothing)) nothing
cond-own true h l m = refl
cond-own false true l m = refl
cond-own false false l m = refl

cond_same : (h : Bool) (l m x : Floored) → cond h (cond h l m) x ≡ cond h l x
cond_same true l m x = refl
cond_same false l m x = refl

-- ---- the pass

pub so-far-start : (n : ℕ) (b : List ℕ) → damaged (records b) ≡ false → SoFar n b 0 None
so-far-start n b g = record { reached = reached-start b g; has = refl; latest-is = none (records b); placed = tt }
  where
    none : (rs : List (List ℕ)) → latest n rs ≡ cond (held n rs) (latest n rs) nothing
    none [] = refl
    none (r ∷ rs) = cond-own (eqb (name r) n) (held n rs) (latest n rs) (content r)

module _ {n : ℕ} {b : List ℕ} {p : ℕ} {r : Option Found} (f : SoFar n b p r) (w : whole (drop p b) ≡ true) where
  abbrev front : List ℕ
  front = record_at b p

  abbrev rest : List ℕ
  rest = drop (next_at b p) b

  split : records (drop p b) ≡ front ∷ records rest
  split = records-step b p w

  module _ {h : Head} (s : Stated b p h) where
    content-here : content front ≡ on (words_at h.count b h.place) h.floor
    content-here = ap₂ on s.list-is s.floor-is

    named : (e : Bool) → eqb h.name n ≡ e → eqb (name front) n ≡ e
    named e g = ap (λ (k : ℕ). eqb k n) s.name-is ∙ g

    held_at : (e : Bool) → eqb h.name n ≡ e → held n (records b) ≡ (is_some r || (e || held n (records rest)))
    held_at e g = f.has ∙ ap (λ (x : Bool). is_some r || x) (ap (held n) split ∙ ap (λ (x : Bool). x || held n (records rest)) (named e g))

    latest-at : (e : Bool) → eqb h.name n ≡ e
        → latest n (records b) ≡ cond (e || held n (records rest))
        (cond (held n (records rest)) (latest n (records rest)) (cond e (content front) nothing)) (shape_of b r)
    latest-at e g = f.latest-is ∙ ap (λ (rs : List (List ℕ)). cond (held n rs) (latest n rs) (shape_of b r)) split
        ∙ ap (λ (x : Bool). cond (x || held n (records rest))
        (cond (held n (records rest)) (latest n (records rest)) (cond x (content front) nothing)) (shape_of b r)) (named e g)

    pub so-far-next : SoFar n b (next_at b p) (newer n h r)
    so-far-next = go (eqb h.name n) refl
      where
        go : (e : Bool) → eqb h.name n ≡ e → SoFar n b (next_at b p) (cond e (Some (found_of h)) r)
        go true g = record {
          reached = reached-next f.reached w;
          has = held_at true g ∙ or-true (is_some r);
          latest-is = latest-at true g ∙ ap (cond (held n (records rest)) (latest n (records rest))) content-here;
          placed = (s.inside, s.paired);
        }
        go false g = record {
          reached = reached-next f.reached w;
          has = held_at false g;
          latest-is = latest-at false g ∙ cond_same (held n (records rest)) (latest n (records rest)) nothing (shape_of b r);
          placed = f.placed;
        }

pub so-far-end : (n : ℕ) (b : List ℕ) (p : ℕ) (r : Option Found) → SoFar n b p r → whole (drop p b) ≡ false → Latest n b r
so-far-end n b p None f w = f.has ∙ ap (held n) (records-none (drop p b) w)
so-far-end n b p (Some at) f w =
    let whole_is : latest n (records b) ≡ on (words_at at.count b at.place) at.floor =
    f.latest-is ∙ ap (λ (rs : List (List ℕ)). cond (held n rs) (latest n rs) (on (words_at at.count b at.place) at.floor))
    (records-none (drop p b) w) in record {
      has = f.has;
      inside = f.placed.0;
      paired = f.placed.1;
      list-is = ap (λ (x : Floored). x.list) whole_is;
      floor-is = ap (λ (x : Floored). x.floor) whole_is;
    }
