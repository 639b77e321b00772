-- What a call of packing comes to, for any log, name, new run and allowance.
--     remade-kept, remade-length     a refusal keeps the run; its length never changes
--     finished-none, finished-wanted, finished-sound    where it finished: no row applies, and the run is the wanted one
--     enough-allowed, nothing-allowed, one-more-allowed, packed-needs-none      what an allowance comes to
--     remade-again                   two calls are one with both allowances
--     repeated-once, repeated-log, finished-after       any list of calls is one
--     finished-latest                what other names have
use Rattle.std.specs.Prelude.{◌≡◌, Bool, true, false, cond, ℕ, suc, ◌+◌, ◌-◌, ◌≤◌, leb, ltb, take, drop, set, ℤ, pos}
use Rattle.std.proofs.Math.Path.{refl, sym, ap, ap₂}
use Rattle.std.proofs.Common.{◌∙◌, true≢false, arith, length-drop, take-add}
use mathlib.Core.List.{List, [], ◌∷◌}
use borrow.Author.Tests.{ltb-false, leb-true, leb-false, le-leb, lt-leb}
use Rattle.std.proofs.Math.ListN.{length}
use Rattle.std.proofs.Math.Seq.{set_out}
use Rattle.plane.specs.Reply.{Reply, answered, refused, Row, NoneApply, First}
use Rattle.plane.proofs.theory.refusals.Rows.{Outcome, given, passed, outcome, first_row-given, first_row-none, first_row-answered}
use Rattle.journal.specs.Format.{records}
use Rattle.journal.specs.Reading.{damaged, latest}
use Rattle.journal.specs.Adding.{Store, made, unless_refusal, Added}
use Rattle.journal.specs.History.{is_finished}
use Rattle.journal.proofs.theory.Stores.{made-append, one_byte}
use Rattle.journal.proofs.theory.Storing.{made-length}
use Rattle.packing.specs.Packing.{packed, wanted, mends, mends_all, pack_rows, pack_reply, remade, repeated, total}
use Rattle.packing.specs.theory.Mends.{mends-few, mends-equal, mends-all, left-to-mend}
use Rattle.packing.specs.theory.Packed.{wanted-length, packed-latest}

-- 1 where all stores are made
abbrev said : Bool → List ℤ
said t = cond t (pos 1) (pos 0) ∷ []

said-finished : (t : Bool) → is_finished (answered (said t)) ≡ t
said-finished true = refl
said-finished false = refl

-- an allowance, with some of the stores made before
later-enough : (n k j : ℕ) → leb (n - k) j ≡ leb n (k + j)
later-enough n k j = go (leb n (k + j)) refl
  where
    go : (t : Bool) → leb n (k + j) ≡ t → leb (n - k) j ≡ t
    go true e = le-leb (n - k) j (omega (arith, leb-true n (k + j) e))
    go false e = lt-leb (n - k) j (omega (arith, leb-false n (k + j) e))

both : {r s : Reply} {c d : List ℕ} → r ≡ s → c ≡ d → ◌≡◌ {A = Added} (record { reply = r; log = c }) (record { reply = s; log = d })
both e f = λ i. record { reply = e i; log = f i }

module _ (b : List ℕ) (but : ℕ) where
  module _ (t : List ℕ) (k : ℕ) where
    pub remade-kept : (m : ℕ) (c : List ℕ) → (remade b but t k).reply ≡ refused m c → (remade b but t k).log ≡ t
    unfolding remade
    remade-kept m c h = ap (λ (r : Reply). unless_refusal r t (made (take k (mends_all b but t)) t)) h

    given-reply : {w : Row} → First w (pack_rows b but t) → (remade b but t k).reply ≡ refused w.number w.carries
    unfolding remade pack_reply
    given-reply first = first_row-given _ first

    given-log : {w : Row} → First w (pack_rows b but t) → (remade b but t k).log ≡ t
    given-log first = remade-kept _ _ (given-reply first)

    module _ (none : NoneApply (pack_rows b but t)) where
      passed-reply : (remade b but t k).reply ≡ answered (said (leb (length (mends_all b but t)) k))
      unfolding remade pack_reply
      passed-reply = first_row-none (pack_rows b but t) _ none

      passed-log : (remade b but t k).log ≡ made (take k (mends_all b but t)) t
      unfolding remade
      passed-log = ap (λ (r : Reply). unless_refusal r t (made (take k (mends_all b but t)) t)) passed-reply

      room : length t ≡ length (wanted b but (length t))
      room = sym (wanted-length b but (length t) (ltb-false _ _ none.1.0))

    -- an answer comes only where no row applies
    answered-none : (values : List ℤ) → (remade b but t k).reply ≡ answered values → NoneApply (pack_rows b but t)
    unfolding remade pack_reply
    answered-none values h = first_row-answered (pack_rows b but t) _ values h

    pub remade-length : length (remade b but t k).log ≡ length t
    remade-length = go (outcome (pack_rows b but t))
      where
        go : Outcome (pack_rows b but t) → length (remade b but t k).log ≡ length t
        go (given w first) = ap length (given-log first)
        go (passed none) = ap length (passed-log none) ∙ made-length (take k (mends_all b but t)) t

    -- ---- a call that finished

    module _ (done : is_finished (remade b but t k).reply ≡ true) where
      pub finished-none : NoneApply (pack_rows b but t)
      finished-none = go (outcome (pack_rows b but t))
        where
          go : Outcome (pack_rows b but t) → NoneApply (pack_rows b but t)
          go (given w first) = absurd (true≢false (sym done ∙ ap is_finished (given-reply first)))
          go (passed none) = none

      pub finished-sound : damaged (records b) ≡ false
      finished-sound = finished-none.0

      pub finished-wanted : (remade b but t k).log ≡ wanted b but (length t)
      unfolding mends_all
      finished-wanted =
          let enough : length (mends_all b but t) ≤ k =
          leb-true _ _ (sym (said-finished _) ∙ sym (ap is_finished (passed-reply finished-none)) ∙ done) in
          passed-log finished-none ∙ mends-all t (wanted b but (length t)) k (room finished-none) enough

    -- ---- allowances

    pub enough-allowed : length t ≤ k → (values : List ℤ) → (remade b but t k).reply ≡ answered values
        → (remade b but t k).reply ≡ answered (pos 1 ∷ [])
    unfolding mends_all
    enough-allowed h values e =
        passed-reply (answered-none values e)
        ∙ ap (λ (x : Bool). answered (said x)) (le-leb _ k (omega (arith, mends-few 0 t (wanted b but (length t)))))

  module _ (t : List ℕ) where
    pub nothing-allowed : (remade b but t 0).log ≡ t
    unfolding remade
    nothing-allowed = either (pack_reply b but t 0)
      where
        either : (r : Reply) → unless_refusal r t t ≡ t
        either (answered ns) = refl
        either (refused m c) = refl

    pub one-more-allowed : (k : ℕ) → (p : ℕ) × (x : ℕ) × ((remade b but t (suc k)).log ≡ set (remade b but t k).log p x)
    one-more-allowed k = go (outcome (pack_rows b but t))
      where
        go : Outcome (pack_rows b but t) → (p : ℕ) × (x : ℕ) × ((remade b but t (suc k)).log ≡ set (remade b but t k).log p x)
        go (given w first) = (
          length t,
          0,
          given-log t (suc k) first ∙ sym (set_out t (length t) 0 (omega arith))
              ∙ ap (λ (c : List ℕ). set c (length t) 0) (sym (given-log t k first)),
        )
        go (passed none) =
            let step = one_byte (mends_all b but t) t k in (
              step.0,
              step.1,
              passed-log t (suc k) none ∙ step.2 ∙ ap (λ (c : List ℕ). set c step.0 step.1) (sym (passed-log t k none)),
            )

    -- a run that is the wanted one already, and only such a run, needs no store
    pub wanted-needs-none : NoneApply (pack_rows b but t) → t ≡ wanted b but (length t) → (remade b but t 0).reply ≡ answered (pos 1 ∷ [])
    unfolding mends_all
    wanted-needs-none none e =
        passed-reply t 0 none
        ∙ ap (λ (ss : List Store). answered (said (leb (length ss) 0))) (ap (mends 0 t) (sym e) ∙ mends-equal 0 t)

    pub needs-none-wanted : (remade b but t 0).reply ≡ answered (pos 1 ∷ []) → t ≡ wanted b but (length t)
    needs-none-wanted h = sym nothing-allowed ∙ finished-wanted t 0 (ap is_finished h)

    -- ---- calls in turn

    module _ (k j : ℕ) where
      abbrev after : List ℕ
      after = (remade b but t k).log

      module _ (none : NoneApply (pack_rows b but t)) where
        -- what is left to store
        left : mends_all b but after ≡ drop k (mends_all b but t)
        unfolding mends_all
        left =
            ap₂ (λ (n : ℕ) (c : List ℕ). mends 0 c (wanted b but n)) (remade-length t k) (passed-log t k none)
            ∙ left-to-mend t (wanted b but (length t)) k

        still-none : NoneApply (pack_rows b but after)
        still-none = (none.0, (ap (λ (n : ℕ). ltb n (length (packed b but))) (remade-length t k) ∙ none.1.0, tt))

        passed-again : remade b but after j ≡ remade b but t (k + j)
        passed-again =
            let ss = mends_all b but t in
            both
            (passed-reply after j still-none ∙ ap (λ (us : List Store). answered (said (leb (length us) j))) left
            ∙ ap (λ (x : Bool). answered (said x)) (ap (λ (n : ℕ). leb n j) (length-drop k ss) ∙ later-enough (length ss) k j)
            ∙ sym (passed-reply t (k + j) none))
            (passed-log after j still-none ∙ ap₂ (λ (us : List Store) (c : List ℕ). made (take j us) c) left (passed-log t k none)
            ∙ sym (made-append (take k ss) (take j (drop k ss)) t) ∙ ap (λ (us : List Store). made us t) (sym (take-add k j ss))
            ∙ sym (passed-log t (k + j) none))

      pub remade-again : remade b but after j ≡ remade b but t (k + j)
      remade-again = go (outcome (pack_rows b but t))
        where
          go : Outcome (pack_rows b but t) → remade b but after j ≡ remade b but t (k + j)
          go (given w first) =
              ap (λ (c : List ℕ). remade b but c j) (given-log t k first)
              ∙ both (given-reply t j first ∙ sym (given-reply t (k + j) first)) (given-log t j first ∙ sym (given-log t (k + j) first))
          go (passed none) = passed-again none

  pub repeated-once : (ks t : List ℕ) (j : ℕ) → remade b but (repeated b but ks t) j ≡ remade b but t (total ks + j)
  repeated-once [] t j = ap (remade b but t) (let e : j ≡ 0 + j = omega arith in e)
  repeated-once (k ∷ ks) t j =
      repeated-once ks (remade b but t k).log j ∙ remade-again t k (total ks + j)
      ∙ ap (remade b but t) (let e : k + (total ks + j) ≡ k + total ks + j = omega arith in e)

  pub repeated-log : (ks t : List ℕ) → repeated b but ks t ≡ (remade b but t (total ks)).log
  repeated-log ks t =
      sym (nothing-allowed (repeated b but ks t)) ∙ ap (λ (x : Added). x.log) (repeated-once ks t 0)
      ∙ ap (λ (n : ℕ). (remade b but t n).log) (let e : total ks + 0 ≡ total ks = omega arith in e)

  -- the run is as long as it was, so a call that finishes leaves the wanted one
  pub finished-after : (t ks : List ℕ) (j : ℕ) → is_finished (remade b but (repeated b but ks t) j).reply ≡ true
      → (remade b but (repeated b but ks t) j).log ≡ wanted b but (length t)
  finished-after t ks j done =
      finished-wanted (repeated b but ks t) j done
      ∙ ap (wanted b but) (ap length (repeated-log ks t) ∙ remade-length t (total ks))

  pub finished-latest : (t : List ℕ) (k : ℕ) → is_finished (remade b but t k).reply ≡ true → (n : ℕ) → (n ≡ but → ⊥)
      → latest n (records (remade b but t k).log) ≡ latest n (records b)
  finished-latest t k done n other =
      ap (λ (c : List ℕ). latest n (records c)) (finished-wanted t k done)
      ∙ packed-latest b but (length t) (finished-sound t k done) n other
