-- A field that holds a quote is no value and no known name: so a reader need not keep the bytes of a field with a doubled quote.
--   quote-no-value, quote-no-name == such a field
use mathlib.Core.Path.{◌≡◌, refl}
use mathlib.Core.Bool.{true, false, and-false}
use mathlib.Core.List.{List, Memᴰ}
use Prim.Native.Nat.{ℕ}
use lib.Dec.{leb}
use lib.ListN.{length}
use Rattle.boxes.proofs.Tests.{by, clash}
use Rattle.boxes.proofs.Lists.{each-mem}
use Rattle.fields.specs.Fields.{is_letter, is_digit, every, is_name, is_number, is_one}
use Rattle.fields.proofs.Laws.{every-each, every-but, known_member, name-letters}
use Rattle.csv_tables.specs.Records.{quote}

pub quote-no-value : (f : List ℕ) → Memᴰ quote f → is_number f ≡ false
unfolding is_number
quote-no-value f m = rw (every-but is_digit f m refl) (and-false (leb 1 (length f)))

pub quote-no-name : (f : List ℕ) → Memᴰ quote f → (names : List (List ℕ)) → every is_name names ≡ true → is_one names f ≡ false
quote-no-name f m names named =
    by (is_one names f)
    (λ t.
    let name : is_name f ≡ true = each-mem (every-each is_name names named) (known_member f names t) in
    clash (name-letters f name) (every-but is_letter f m refl))
    (λ e. e)
