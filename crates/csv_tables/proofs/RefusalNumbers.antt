-- The refusals of a file, and of a record at its place.
--   refusal-some == none has the number 0
--   placed-ok, placed-err == what passes as a record at a place, or is refused there
use mathlib.Core.Path.{◌≡◌, refl}
use Prim.Native.Nat.{ℕ}
use native.Mathlib.Omega.{arith}
use Rattle.fields.specs.declared.lines.NamesRefusal.TheVariants.{Malformed, Repeated}
use Rattle.std.specs.Prelude.{Some, Result, Ok, Err}
use Rattle.csv_tables.specs.Refusals.{refusal_number}
use Rattle.csv_tables.specs.Importing.{placed_at}
use Rattle.csv_tables.specs.declared.import.Row.{Row}
use Rattle.csv_tables.specs.declared.refusal.Refused.{Refused}
use Rattle.csv_tables.specs.declared.refusal.FileRefusal.{FileRefusal}
use Rattle.csv_tables.specs.declared.refusal.FileRefusal.TheVariants.{Names, Long, Grammar, Header, Value, Rows}

pub refusal-some : (r : FileRefusal) → refusal_number r ≡ 0 → ⊥
refusal-some (Names Malformed) e = omega arith
refusal-some (Names Repeated) e = omega arith
refusal-some Long e = omega arith
refusal-some Grammar e = omega arith
refusal-some Header e = omega arith
refusal-some Value e = omega arith
refusal-some Rows e = omega arith

module _ (p : ℕ) where
  pub placed-ok : (r : Result Row FileRefusal) {y : Row} → Ok y ≡ placed_at p r → r ≡ Ok y
  placed-ok (Ok z) {y} e = let same : z ≡ y = cc in rw same refl
  placed-ok (Err r) e = cc

  pub placed-err : (r : Result Row FileRefusal) {e : Refused} → Err e ≡ placed_at p r → (r ≡ Err e.why) × (e ≡ record { why = e.why; place = Some p })
  placed-err (Ok z) e = cc
  placed-err (Err r) {e} is = let same : e ≡ record { why = r; place = Some p } = cc in rw same (refl, refl)
