-- The laws of reading that a program's proof cites.
--   read-within == bytes that were read stand in the buffer
use mathlib.Core.Path.{◌≡◌, subst}
use mathlib.Core.List.{List}
use Prim.Native.Nat.{ℕ, ◌≤◌}
use lib.ListN.{length}
use Rattle.std.specs.Prelude.{Result, Ok}
use Rattle.streams.specs.Says.{bytes_read, ReadWithin}

pub read-within : {E : Type 0} (b : List ℕ) {r : Result ℕ E} {n : ℕ} → r ≡ Ok n → ReadWithin b r → n ≤ length b
read-within {E} b e h = subst (λ (x : Result ℕ E). bytes_read x ≤ length b) e h
