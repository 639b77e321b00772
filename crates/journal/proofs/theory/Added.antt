-- What one addition comes to, for any log, name, floor, list and allowance.
--     Accepted b n f l, accepted    no row applies: the list is valid, no record is bad, and there is room
--     kept-log                      a refusal keeps the log
--     added-seen                    the records afterwards: the new one joins exactly where the addition finished
--     finished-accepted, -log, -seen, -sound, -latest, -read, -others      where it finished: the log, its records, what names read
--     unfinished-seen               where it was cut or refused, the records are as before
--     enough-allowed, nothing-allowed, one-more-allowed                    what an allowance comes to
--     sound-added                   where no record is bad, 15 does not come
use Rattle.std.specs.Prelude.{◌≡◌, refl, Bool, true, false, cond, List, [], ◌∷◌, ◌++◌, ℕ, suc, ◌*◌, ◌-◌, ◌≤◌, ◌<◌, eqb, leb, length, take}
use Rattle.std.specs.Prelude.{set, replicate, ℤ, pos}
use Rattle.std.proofs.Common.{sym, ◌∙◌, true≢false, arith, ltb-false, leb-true, le-leb, eq-eqb, ne_eqb, take_all}
use Rattle.std.proofs.Math.Path.{ap}
use Rattle.std.proofs.Math.Bool.{or-false}
use Rattle.std.proofs.Math.Seq.{set_out}
use Rattle.plane.specs.Point.{points}
use Rattle.plane.specs.Reply.{Reply, answered, refused, Row, NoneApply, First}
use Rattle.plane.specs.Refusal.{Valid}
use Rattle.plane.specs.Output.{room_row}
use Rattle.plane.specs.Floor.{on, no_shape}
use Rattle.plane.specs.Question.{written, writes}
use Rattle.plane.proofs.theory.refusals.Rows.{Outcome, given, passed, outcome, first_row-given, first_row-none}
use Rattle.plane.proofs.theory.refusals.Rows.{first_row-answered, first_row-refused, first-applies}
use Rattle.plane.proofs.theory.refusals.Accept.{accepted→valid}
use Rattle.journal.specs.Format.{recorded, records, name, content}
use Rattle.journal.specs.Reading.{damaged, latest, ask_read}
use Rattle.journal.specs.Adding.{Store, end, stores, made, add_rows, add_reply, unless_refusal, added}
use Rattle.journal.specs.History.{is_finished}
use Rattle.journal.proofs.theory.Read.{recorded-entry, recorded-name, recorded-floor, recorded-list, recorded-good}
use Rattle.journal.proofs.theory.Reading.{valid-some, showing-some, read-sound, sound-snoc, latest-snoc}
use Rattle.journal.proofs.theory.Stores.{one_byte, left, with_new, stores-done, stores-few, cut-seen}

pub record Accepted (b : List ℕ) (n f : ℕ) (l : List ℤ) : Type 0 where
  pub valid : Valid l
  pub sound : damaged (records b) ≡ false
  pub room : length (recorded n f l) ≤ length b - end b

pub accepted : (b : List ℕ) (n f : ℕ) (l : List ℤ) → NoneApply (add_rows b n f l) → Accepted b n f l
accepted b n f l none =
    let later = none.1.1.1.1.1 in record {
      valid = accepted→valid l 1 (none.0, (none.1.0, (none.1.1.0, (none.1.1.1.0, (none.1.1.1.1.0, tt)))));
      sound = later.0;
      room = ltb-false _ _ later.1.0;
    }

-- ---- the reply and the log

-- 1 where all stores are made
abbrev said : Bool → List ℤ
said b = cond b (pos 1) (pos 0) ∷ []

said-finished : (b : Bool) → is_finished (answered (said b)) ≡ b
said-finished true = refl
said-finished false = refl

module _ (b : List ℕ) (n f : ℕ) (l : List ℤ) (k : ℕ) where
  pub kept-log : (m : ℕ) (c : List ℕ) → (added b n f l k).reply ≡ refused m c → (added b n f l k).log ≡ b
  unfolding added
  kept-log m c h = ap (λ (r : Reply). unless_refusal r b (made (take k (stores b (recorded n f l))) b)) h

  given-reply : {w : Row} → First w (add_rows b n f l) → (added b n f l k).reply ≡ refused w.number w.carries
  unfolding added add_reply
  given-reply first = first_row-given _ first

  module _ (none : NoneApply (add_rows b n f l)) where
    passed-reply : (added b n f l k).reply ≡ answered (said (leb (length (stores b (recorded n f l))) k))
    unfolding added add_reply
    passed-reply = first_row-none (add_rows b n f l) _ none

    passed-log : (added b n f l k).log ≡ made (take k (stores b (recorded n f l))) b
    unfolding added
    passed-log = ap (λ (r : Reply). unless_refusal r b (made (take k (stores b (recorded n f l))) b)) passed-reply

  -- an answer comes only where no row applies
  answered-none : (values : List ℤ) → (added b n f l k).reply ≡ answered values → NoneApply (add_rows b n f l)
  unfolding added add_reply
  answered-none values h = first_row-answered (add_rows b n f l) _ values h

  -- ---- the records afterwards

  pub added-seen : records (added b n f l k).log ≡ with_new b (recorded n f l) (is_finished (added b n f l k).reply)
  added-seen = go (outcome (add_rows b n f l))
    where
      seen : Reply → List (List ℕ)
      seen r = with_new b (recorded n f l) (is_finished r)

      go : Outcome (add_rows b n f l) → records (added b n f l k).log ≡ seen (added b n f l k).reply
      go (given w first) = ap records (kept-log w.number w.carries (given-reply first)) ∙ sym (ap seen (given-reply first))
      go (passed none) =
          let a = accepted b n f l none in
          ap records (passed-log none) ∙ cut-seen b (recorded n f l) (recorded-entry n f l a.valid) a.room k
          ∙ ap (with_new b (recorded n f l)) (sym (said-finished (leb (length (stores b (recorded n f l))) k)))
          ∙ sym (ap seen (passed-reply none))

  -- ---- one that finished

  finished-none : is_finished (added b n f l k).reply ≡ true → NoneApply (add_rows b n f l)
  finished-none h = go (outcome (add_rows b n f l))
    where
      go : Outcome (add_rows b n f l) → NoneApply (add_rows b n f l)
      go (given w first) = absurd (true≢false (sym h ∙ ap is_finished (given-reply first)))
      go (passed none) = none

  module _ (done : is_finished (added b n f l k).reply ≡ true) where
    pub finished-accepted : Accepted b n f l
    finished-accepted = accepted b n f l (finished-none done)

    all_made : length (stores b (recorded n f l)) ≤ k
    all_made = leb-true _ _ (sym (said-finished _) ∙ sym (ap is_finished (passed-reply (finished-none done))) ∙ done)

    pub finished-log : (added b n f l k).log ≡ take (end b) b ++ (recorded n f l ++ replicate (left b (recorded n f l)) 0)
    finished-log =
        passed-log (finished-none done) ∙ ap (λ (ss : List Store). made ss b) (take_all k (stores b (recorded n f l)) all_made)
        ∙ stores-done b (recorded n f l) (recorded-entry n f l finished-accepted.valid) finished-accepted.room

    pub finished-seen : records (added b n f l k).log ≡ records b ++ (recorded n f l ∷ [])
    finished-seen = added-seen ∙ ap (with_new b (recorded n f l)) done

    pub finished-sound : damaged (records (added b n f l k).log) ≡ false
    finished-sound =
        ap damaged finished-seen
        ∙ sound-snoc (recorded n f l) (records b) finished-accepted.sound (recorded-good n f l finished-accepted.valid)

    pub finished-latest : (m : ℕ) → latest m (records (added b n f l k).log)
        ≡ cond (eqb (name (recorded n f l)) m) (content (recorded n f l)) (latest m (records b))
    finished-latest m = ap (latest m) finished-seen ∙ latest-snoc (recorded n f l) m (records b)

    module _ (name-fits : n < 65536) (out : List ℤ) where
      named : name (recorded n f l) ≡ n
      named = recorded-name n f l finished-accepted.valid name-fits

      pub finished-read : f < 65536 → written (ask_read (added b n f l k).log n out)
          ≡ written (writes (no_shape f) (room_row (points l) out ∷ []) (points l) out)
      finished-read floor-fits =
          let valid = finished-accepted.valid in
          read-sound (added b n f l k).log n out finished-sound
          ∙ rw (finished-latest n, eq-eqb _ n named, recorded-list n f l valid, recorded-floor n f l valid floor-fits)
          (showing-some (on l f) out (valid-some l valid))

      pub finished-others : (m : ℕ) → (m ≡ n → ⊥) → written (ask_read (added b n f l k).log m out) ≡ written (ask_read b m out)
      finished-others m other =
          let before = sym (read-sound b m out finished-accepted.sound) in
          read-sound (added b n f l k).log m out finished-sound
          ∙ rw (finished-latest m, ne_eqb _ m (λ e. other (sym e ∙ named))) before

  -- ---- one that was cut or refused

  pub unfinished-seen : is_finished (added b n f l k).reply ≡ false → records (added b n f l k).log ≡ records b
  unfinished-seen h = added-seen ∙ ap (with_new b (recorded n f l)) h

  -- ---- allowances

  pub enough-allowed : 2 * length b ≤ k → (values : List ℤ) → (added b n f l k).reply ≡ answered values
      → (added b n f l k).reply ≡ answered (pos 1 ∷ [])
  enough-allowed h values e =
      let none = answered-none values e in
      let a = accepted b n f l none in
      let few = stores-few b (recorded n f l) (recorded-entry n f l a.valid) a.room in
      passed-reply none ∙ ap (λ (t : Bool). answered (said t)) (le-leb _ k (omega arith))

pub nothing-allowed : (b : List ℕ) (n f : ℕ) (l : List ℤ) → (added b n f l 0).log ≡ b
unfolding added
nothing-allowed b n f l = either (add_reply b n f l 0)
  where
    either : (r : Reply) → unless_refusal r b b ≡ b
    either (answered ns) = refl
    either (refused m c) = refl

pub one-more-allowed : (b : List ℕ) (n f : ℕ) (l : List ℤ) (k : ℕ)
    → (p : ℕ) × (x : ℕ) × ((added b n f l (suc k)).log ≡ set (added b n f l k).log p x)
one-more-allowed b n f l k = go (outcome (add_rows b n f l))
  where
    go : Outcome (add_rows b n f l) → (p : ℕ) × (x : ℕ) × ((added b n f l (suc k)).log ≡ set (added b n f l k).log p x)
    go (given w first) =
        let before = kept-log b n f l k w.number w.carries (given-reply b n f l k first) in
        let after = kept-log b n f l (suc k) w.number w.carries (given-reply b n f l (suc k) first) in
        (length b, 0, after ∙ sym (set_out b (length b) 0 (omega arith)) ∙ ap (λ (c : List ℕ). set c (length b) 0) (sym before))
    go (passed none) =
        let step = one_byte (stores b (recorded n f l)) b k in (
          step.0,
          step.1,
          passed-log b n f l (suc k) none ∙ step.2 ∙ ap (λ (c : List ℕ). set c step.0 step.1) (sym (passed-log b n f l k none)),
        )

-- ---- refusal 15

pub sound-added : (b : List ℕ) → damaged (records b) ≡ false → (n f : ℕ) (l : List ℤ) (k : ℕ) (c : List ℕ)
    → (added b n f l k).reply ≡ refused 15 c → ⊥
unfolding added add_reply
sound-added b sound n f l k c h =
    let first = first_row-refused (add_rows b n f l) _ 15 c h in
    true≢false (sym (first-applies 15 first.1 first.2) ∙ or-false _ ∙ sound)
