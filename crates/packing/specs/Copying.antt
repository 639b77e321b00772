-- What the passes of a packing tell. Our own, not of document 02.
--     is_kept but r later      the record r, with these records after it, belongs to the packed log
--     Copied k m b q u n c    the bytes of the run b, from place q on, are made the bytes u. With k stores allowed and m needed before,
--                             n are needed in all, and those that are allowed leave the run c
use Rattle.std.specs.Prelude.{◌≡◌, Bool, not, ◌&&◌, List, ℕ, ◌+◌, ◌-◌, length, take, drop}
use Rattle.journal.specs.Format.{name}
use Rattle.journal.specs.Reading.{held}
use Rattle.journal.specs.Current.{is_other}
use Rattle.journal.specs.Adding.{made}
use Rattle.packing.specs.Packing.{mends}

abbrev pub is_kept : ℕ → List ℕ → List (List ℕ) → Bool
is_kept but r later = is_other but r && not (held (name r) later)

pub record Copied (k m : ℕ) (b : List ℕ) (q : ℕ) (u : List ℕ) (n : ℕ) (c : List ℕ) : Type 0 where
  pub need-is : n ≡ m + length (mends q (drop q b) u)
  pub run_is : c ≡ made (take (k - m) (mends q (drop q b) u)) b
